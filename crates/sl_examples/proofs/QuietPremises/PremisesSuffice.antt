-- With all premises it is what is asked of a quiet acquire, so all suffice.
use Rattle.sl_examples.specs.QuietPremises.Premises.{AllAreTheLaw, GrantedUnder, IfAsked, Premises, PremisesSuffice, StartUnder, StaysUnder, StepUnder, all_premises}
use Rattle.sl_headline.proofs.Quiet.Start.QuietIsGranted.{quiet_acquires_are_granted}
use Rattle.sl_run.specs.EventChanges.{happens}
use Rattle.sl_run.specs.Quiet.{QuietIsGranted, QuietStart, QuietStep, StaysQuiet}
use Rattle.sl_run.specs.Runs.{Happening, world_after}
use Rattle.sl_run.specs.Worlds.{World, world_with}
use Rattle.sl_trace.specs.declared.command.ResourceArg.{ResourceArg}
use Rattle.std.specs.Prelude.{Bool, List, [], false, true, ℕ, ◌∷◌}

pub if_asked : (P : Type 0) (b : Bool) → P → IfAsked b P
if_asked P true h = h
if_asked P false h = tt

-- ---- from the one to the other

-- What is asked of a quiet acquire is enough, whatever is asked.
abbrev pub start_under : (asked : Premises) (w : World) (m : ℕ) (text : List ℕ) (r : ResourceArg) (shared : Bool) (p : ℕ) → QuietStart w m text r shared p → StartUnder asked w m text r shared p
start_under asked w m text r shared p q =
    record {
      machine = q.machine;
      daemon = q.daemon;
      session = q.session;
      leader = q.leader;
      runs = q.runs;
      persistent = q.persistent;
      line = q.line;
      process = q.process;
      named = q.named;
      active = q.active;
      no_holding = q.no_holding;
      settled = q.settled;
      no_call = q.no_call;
      no_limit = if_asked _ asked.no_limit q.no_limit;
      leader_spells = q.leader_spells;
      names = q.names;
      free = q.free;
      numbers = q.numbers;
      ballot = q.ballot;
      request = q.request;
      blocks = q.blocks;
      pairs = q.pairs;
      turns = q.turns;
      calm = q.calm;
    }

step_under : (asked : Premises) (w : World) (x : Happening) (v : World) (m job : ℕ) (r : ResourceArg) (shared : Bool) (p number : ℕ) → QuietStep w x v m job r shared p number
    → StepUnder asked w x v m job r shared p number
step_under asked w x v m job r shared p number s =
    record {
      modes = if_asked _ asked.modes_over s.modes;
      calm = if_asked _ asked.sole_writer s.calm;
      active = s.active;
      stays = s.stays;
      answers = if_asked _ asked.in_time s.answers;
    }

stays_under : (asked : Premises) (w : World) (xs : List Happening) (m job : ℕ) (r : ResourceArg) (shared : Bool) (p number : ℕ) → StaysQuiet w xs m job r shared p number
    → StaysUnder asked w xs m job r shared p number
stays_under asked w [] m job r shared p number s = tt
stays_under asked w (x ∷ xs) m job r shared p number s =
    (step_under asked w x (happens w x.0 x.1) m job r shared p number s.0, stays_under asked (happens w x.0 x.1) xs m job r shared p number s.1)

abbrev quiet_start : (w : World) (m : ℕ) (text : List ℕ) (r : ResourceArg) (shared : Bool) (p : ℕ) → StartUnder all_premises w m text r shared p → QuietStart w m text r shared p
quiet_start w m text r shared p q =
    record {
      machine = q.machine;
      daemon = q.daemon;
      session = q.session;
      leader = q.leader;
      runs = q.runs;
      persistent = q.persistent;
      line = q.line;
      process = q.process;
      named = q.named;
      active = q.active;
      no_holding = q.no_holding;
      settled = q.settled;
      no_call = q.no_call;
      no_limit = q.no_limit;
      leader_spells = q.leader_spells;
      names = q.names;
      free = q.free;
      numbers = q.numbers;
      ballot = q.ballot;
      request = q.request;
      blocks = q.blocks;
      pairs = q.pairs;
      turns = q.turns;
      calm = q.calm;
    }

quiet_step : (w : World) (x : Happening) (v : World) (m job : ℕ) (r : ResourceArg) (shared : Bool) (p number : ℕ) → StepUnder all_premises w x v m job r shared p number
    → QuietStep w x v m job r shared p number
quiet_step w x v m job r shared p number s = record { modes = s.modes; calm = s.calm; active = s.active; stays = s.stays; answers = s.answers }

stays_quiet : (w : World) (xs : List Happening) (m job : ℕ) (r : ResourceArg) (shared : Bool) (p number : ℕ) → StaysUnder all_premises w xs m job r shared p number
    → StaysQuiet w xs m job r shared p number
stays_quiet w [] m job r shared p number s = tt
stays_quiet w (x ∷ xs) m job r shared p number s =
    (quiet_step w x (happens w x.0 x.1) m job r shared p number s.0, stays_quiet (happens w x.0 x.1) xs m job r shared p number s.1)

-- ---- the law

granted_under : (start : World) (xs : List Happening) → QuietIsGranted start xs → GrantedUnder all_premises start xs
granted_under start xs law before during rest m p text r shared x q is same given stays =
    let w : World = world_after start before in
    let s : QuietStart w m text r shared p = quiet_start w m text r shared p q in
    law before during rest m p text r shared x s is same given (stays_quiet w (x ∷ during) m _ r shared p _ stays)

granted_quietly : (asked : Premises) (start : World) (xs : List Happening) → GrantedUnder asked start xs → QuietIsGranted start xs
granted_quietly asked start xs law before during rest m p text r shared x q is same given stays =
    let w : World = world_after start before in
    let s : StartUnder asked w m text r shared p = start_under asked w m text r shared p q in
    law before during rest m p text r shared x s is same given (stays_under asked w (x ∷ during) m _ r shared p _ stays)

pub all_are_the_law : AllAreTheLaw
all_are_the_law start xs = (granted_under start xs, granted_quietly all_premises start xs)

pub premises_suffice : PremisesSuffice all_premises
premises_suffice p h xs run made = granted_under (world_with p h) xs (quiet_acquires_are_granted p h xs run made)
