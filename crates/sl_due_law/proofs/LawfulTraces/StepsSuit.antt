-- What a lease does next serves its aim, where the step before did.
use Rattle.sl_due_facts.proofs.Acts.Pairs.Decisions.{within_cases}
use Rattle.sl_due_law.proofs.Causes.Leases.ReadNexts.{again_same, bytes_by, first_same}
use Rattle.sl_due_law.specs.LawfulTraces.JobLore.{acquires_by, converts_by, suits}
use Rattle.sl_trace.specs.Ballots.{moded_block, phase1_block, same_owner, stop_of, value_of}
use Rattle.sl_trace.specs.LeaseDecisions.{LeasePlace, area_next, after_freeing, after_moding, after_phase1, after_phase2, after_read, after_take, begin_next, begin_or_refuse, first_step, leader_for, lease_next, looks_for_shared, lost_next, named_area_next, phase1_next, phase2_next, refuses, step_of_read, stopped_next, whole_area_next, within_turn, won_next}
use Rattle.sl_trace.specs.Conversions.{convert_next}
use Rattle.sl_trace.specs.Releases.{release_next}
use Rattle.sl_trace.specs.Leases.{LeaseKnown, instance_for, is_leader_of, mode_gen_of, own_known, shared_elsewhere}
use Rattle.sl_trace.specs.declared.lease.Aim.TheVariants.{Acquires, Converts, Releases, Settles}
use Rattle.sl_trace.specs.declared.lease.Aim.{Aim}
use Rattle.sl_trace.specs.declared.lease.Instance.TheVariants.{Begins, HeldAlready}
use Rattle.sl_trace.specs.declared.lease.Instance.{Instance}
use Rattle.sl_trace.specs.declared.lease.LeaseNext.TheVariants.{AnswerJob, BecomeExclusive, BecomeShared, GrantJob, Nothing, ReadFor, WriteBlock, WriteLeader}
use Rattle.sl_trace.specs.declared.lease.LeaseNext.{LeaseNext}
use Rattle.sl_trace.specs.declared.lease.Stop.{Stop}
use Rattle.sl_sector.specs.declared.sector.Block.{Block}
use Rattle.sl_sector.specs.declared.sector.Leader.{Leader}
use Rattle.sl_sector.specs.declared.sector.Owner.{Owner}
use Rattle.sl_trace.specs.declared.effects.LeaseRead.TheVariants.{OfArea, OfBlock, OfFree, OfPhase1, OfPhase2}
use Rattle.sl_trace.specs.declared.effects.LeaseRead.{LeaseRead}
use Rattle.sl_trace.specs.declared.effects.LeaseStep.TheVariants.{ClearMode, FreeLeader, Phase1Read, Phase1Write, Phase2Read, Phase2Write, ReadAgain, ReadArea, ReadBeforeBlock, ReadBeforeFree, SetMode, TakeLeader}
use Rattle.sl_trace.specs.declared.effects.LeaseStep.{LeaseStep}
use Rattle.sl_trace.specs.declared.effects.Mode.TheVariants.{Exclusive, Shared}
use Rattle.sl_trace.specs.declared.effects.Mode.{Mode}
use Rattle.sl_trace.specs.declared.input.Answer.TheVariants.{Failed, Read, Written}
use Rattle.sl_trace.specs.declared.input.Answer.{Answer}
use Rattle.sl_trace.specs.declared.reply.Limited.TheVariants.{Lver as LverLimit, Mbal as MbalLimit, Turn as TurnLimit}
use Rattle.sl_trace.specs.declared.reply.Reply.TheVariants.{Held as HeldBy, Limit as LimitReached, Shared as SharedBy, TornBlock, TornLeader, WrongArea}
use Rattle.sl_trace.specs.declared.reply.Reply.{Reply}
use Rattle.sl_words.proofs.CaseLaws.{false_is_true, none_some, not_both}
use Rattle.sl_words.specs.Bounds.{is_number}
use Rattle.sl_words.specs.Words.{present}
use Rattle.std.proofs.Common.{refl, ◌∙◌}
use Rattle.std.specs.Option.{option_map_or}
use Rattle.std.specs.Prelude.{Bool, List, None, Option, Some, false, is_none, position, true, ℕ, ◌+◌, ◌≡◌}

-- The call that comes next serves the aim.
abbrev pub NextSuits : Aim → LeaseNext → Type 0
NextSuits aim (ReadFor step) = suits aim step ≡ true
NextSuits aim (WriteBlock step b) = suits aim step ≡ true
NextSuits aim (WriteLeader step l) = suits aim step ≡ true
NextSuits aim next = Unit {0}

-- ---- a settling may do anything

settles_all : (n : LeaseNext) → NextSuits Settles n
settles_all Nothing = tt
settles_all (ReadFor step) = refl
settles_all (WriteBlock step b) = refl
settles_all (WriteLeader step l) = refl
settles_all (AnswerJob r) = tt
settles_all (GrantJob mode n) = tt
settles_all (BecomeShared n l) = tt
settles_all (BecomeExclusive n b) = tt

-- ---- what runs a ballot

record RunsBallots (aim : Aim) : Type 0 where
  first : suits aim Phase1Write ≡ true
  reads : suits aim Phase1Read ≡ true
  second : suits aim Phase2Write ≡ true
  ends : suits aim Phase2Read ≡ true
  takes : suits aim TakeLeader ≡ true
  modes : suits aim SetMode ≡ true
  answers : (r : Reply) → refuses aim r ≡ AnswerJob r
  stops : (p : LeasePlace) (k : LeaseKnown) (stop : Stop) → NextSuits aim (stopped_next p k aim stop)
  wins : (p : LeasePlace) (k : LeaseKnown) (n : ℕ) → NextSuits aim (won_next p k aim n)
  loses : (p : LeasePlace) (k : LeaseKnown) (n : ℕ) (o : Owner) → NextSuits aim (lost_next p k aim n o)
  freed : (p : LeasePlace) (k : LeaseKnown) (n : ℕ) → NextSuits aim (after_freeing p k aim n)
  moded : (p : LeasePlace) (k : LeaseKnown) (n : ℕ) → NextSuits aim (after_moding p k aim n)
  no_look : suits aim ReadBeforeFree ≡ false
  no_block_look : suits aim ReadBeforeBlock ≡ false
  no_clear : suits aim ClearMode ≡ false
  again : (read : LeaseRead) → suits aim (ReadAgain read) ≡ suits aim (step_of_read read)

refused_suits : (aim : Aim) (r : Reply) → NextSuits aim (refuses aim r)
refused_suits (Acquires mode) r = tt
refused_suits (Converts mode) r = tt
refused_suits Releases r = tt
refused_suits Settles r = tt

phase1_suits : (aim : Aim) (b : Block) → suits aim Phase1Write ≡ true → NextSuits aim (phase1_next aim b)
phase1_suits aim b is = by (is_number b.lver) (is_number b.mbal) where
  by : (l m : Bool) → NextSuits aim (elim l as (λ z. LeaseNext) [
    | false ↦ refuses aim (LimitReached LverLimit)
    | true ↦ elim m as (λ z. LeaseNext) [ false ↦ refuses aim (LimitReached MbalLimit) | true ↦ WriteBlock Phase1Write b ]
  ])
  by false m = refused_suits aim (LimitReached LverLimit)
  by true false = refused_suits aim (LimitReached MbalLimit)
  by true true = is

begins_suit : (p : LeasePlace) (k : LeaseKnown) (aim : Aim) (n : ℕ) → suits aim Phase1Write ≡ true → NextSuits aim (begin_next p k aim n)
unfolding begin_next
begins_suit p k aim n is = by (own_known k) where
  by : (o : Option Block) → NextSuits aim (elim o as (λ z. LeaseNext) [ None ↦ Nothing | Some own ↦ phase1_next aim (phase1_block k.self p.layout.hosts n k.shared (mode_gen_of k) own (present k.read)) ])
  by None = tt
  by (Some own) = phase1_suits aim (phase1_block k.self p.layout.hosts n k.shared (mode_gen_of k) own (present k.read)) is

next_begins : (p : LeasePlace) (k : LeaseKnown) (aim : Aim) (n : ℕ) (o : Owner) (b : Bool) → suits aim Phase1Write ≡ true
    → NextSuits aim (elim b as (λ z. LeaseNext) [ true ↦ begin_next p k aim (n + 1) | false ↦ AnswerJob (HeldBy n o) ])
next_begins p k aim n o true is = begins_suit p k aim (n + 1) is
next_begins p k aim n o false is = tt

-- A read that is made once more serves what the first one does.
acquires_again : (read : LeaseRead) → acquires_by (ReadAgain read) ≡ acquires_by (step_of_read read)
acquires_again (OfArea name) = refl
acquires_again OfFree = refl
acquires_again OfBlock = refl
acquires_again OfPhase1 = refl
acquires_again OfPhase2 = refl

converts_again : (read : LeaseRead) → converts_by (ReadAgain read) ≡ converts_by (step_of_read read)
converts_again (OfArea name) = refl
converts_again OfFree = refl
converts_again OfBlock = refl
converts_again OfPhase1 = refl
converts_again OfPhase2 = refl

acquires_run : (mode : Mode) → RunsBallots (Acquires mode)
acquires_run mode =
    record {
      first = refl;
      reads = refl;
      second = refl;
      ends = refl;
      takes = refl;
      modes = refl;
      answers = λ r. refl;
      stops = λ p k stop. tt;
      wins = λ p k n. refl;
      loses = λ p k n o. next_begins p k (Acquires mode) n o (k.over o.id o.generation) refl;
      freed = λ p k n. tt;
      moded = λ p k n. refl;
      no_look = refl;
      no_block_look = refl;
      no_clear = refl;
      again = acquires_again;
    }

converts_run : (mode : Mode) → RunsBallots (Converts mode)
converts_run mode =
    record {
      first = refl;
      reads = refl;
      second = refl;
      ends = refl;
      takes = refl;
      modes = refl;
      answers = λ r. refl;
      stops = λ p k stop. tt;
      wins = λ p k n. refl;
      loses = λ p k n o. next_begins p k (Converts mode) n o (k.over o.id o.generation) refl;
      freed = λ p k n. tt;
      moded = λ p k n. by p k k.exclusive;
      no_look = refl;
      no_block_look = refl;
      no_clear = refl;
      again = converts_again;
    } where
      by : (p : LeasePlace) (k : LeaseKnown) (o : Option ℕ) → NextSuits (Converts mode) (option_map_or (λ e. BecomeShared e (leader_for p k false e)) o Nothing)
      by p k None = tt
      by p k (Some e) = tt

-- ---- its reads

phase1_read_suits : (p : LeasePlace) (k : LeaseKnown) (aim : Aim) (own : Block) (read : List (Option Block)) (stop : Option Stop) → RunsBallots aim → NextSuits aim (after_phase1 p k aim own read stop)
phase1_read_suits p k aim own read (Some stop) runs = runs.stops p k stop
phase1_read_suits p k aim own read None runs = by (looks_for_shared aim) (shared_elsewhere k read) where
  by : (b : Bool) (o : Option Block) → NextSuits aim (elim b as (λ z. LeaseNext) [
    | false ↦ phase2_next k own read
    | true ↦ elim o as (λ z. LeaseNext) [ Some c ↦ AnswerJob (SharedBy (record { id = c.host; generation = c.mode_gen })) | None ↦ phase2_next k own read ]
  ])
  by false o = runs.second
  by true None = runs.second
  by true (Some c) = tt

phase2_read_suits : (p : LeasePlace) (k : LeaseKnown) (aim : Aim) (own : Block) (stop : Option Stop) → RunsBallots aim → NextSuits aim (after_phase2 p k aim own stop)
phase2_read_suits p k aim own (Some stop) runs = runs.stops p k stop
phase2_read_suits p k aim own None runs = by (same_owner (value_of own) k.self) where
  by : (b : Bool) → NextSuits aim (elim b as (λ z. LeaseNext) [ true ↦ won_next p k aim own.lver | false ↦ lost_next p k aim own.lver (value_of own) ])
  by true = runs.wins p k own.lver
  by false = runs.loses p k own.lver (value_of own)

area_suits : (p : LeasePlace) (k : LeaseKnown) (aim : Aim) (name : List ℕ) (leader : Option Leader) (read : List (Option Block)) → RunsBallots aim → NextSuits aim (area_next p k aim name leader read)
unfolding area_next
area_suits p k aim name leader read runs = by leader where
  instance : (i : Instance) → NextSuits aim (begin_or_refuse p k aim i)
  instance (Begins m) = begins_suit p k aim m runs.first
  instance (HeldAlready lver owner) = tt

  whole : (l : Leader) (o : Option Block) → NextSuits aim (option_map_or (λ own. begin_or_refuse p k aim (instance_for k l own read)) o Nothing)
  whole l None = tt
  whole l (Some own) = instance (instance_for k l own read)

  named : (l : Leader) (o : Option ℕ) → NextSuits aim (elim o as (λ z. LeaseNext) [ Some i ↦ AnswerJob (TornBlock (i + 1)) | None ↦ whole_area_next p k aim l read ])
  named l (Some i) = tt
  named l None = whole l (own_known k)

  of_leader : (l : Leader) (b : Bool) → NextSuits aim (elim b as (λ z. LeaseNext) [
    | false ↦ AnswerJob (WrongArea l.lockspace l.resource l.num_hosts)
    | true ↦ named_area_next p k aim l read
  ])
  of_leader l false = tt
  of_leader l true = named l (position is_none read)

  by : (o : Option Leader) → NextSuits aim (elim o as (λ z. LeaseNext) [
    | None ↦ AnswerJob TornLeader
    | Some l ↦ elim (is_leader_of p.layout p.lockspace name l) as (λ z. LeaseNext) [
      | false ↦ AnswerJob (WrongArea l.lockspace l.resource l.num_hosts)
      | true ↦ named_area_next p k aim l read
    ]
  ])
  by None = tt
  by (Some l) = of_leader l (is_leader_of p.layout p.lockspace name l)

-- ---- by the answer

reads_suit : (p : LeasePlace) (k : LeaseKnown) (aim : Aim) (leader : Option Leader) (read : List (Option Block)) (step : LeaseStep) → RunsBallots aim → suits aim step ≡ true
    → NextSuits aim (after_read p k aim leader read step)
reads_suit p k aim leader read (ReadArea name) runs is = area_suits p k aim name leader read runs
reads_suit p k aim leader read ReadBeforeFree runs is = absurd (not_both (suits aim ReadBeforeFree) is runs.no_look)
reads_suit p k aim leader read ReadBeforeBlock runs is = absurd (not_both (suits aim ReadBeforeBlock) is runs.no_block_look)
reads_suit p k aim leader read (ReadAgain again) runs is = tt
reads_suit p k aim leader read Phase1Write runs is = tt
reads_suit p k aim leader read Phase1Read runs is = by k.own where
  by : (o : Option Block) → NextSuits aim (option_map_or (λ own. after_phase1 p k aim own read (stop_of own read)) o Nothing)
  by None = tt
  by (Some own) = phase1_read_suits p k aim own read (stop_of own read) runs
reads_suit p k aim leader read Phase2Write runs is = tt
reads_suit p k aim leader read Phase2Read runs is = by k.own where
  by : (o : Option Block) → NextSuits aim (option_map_or (λ own. after_phase2 p k aim own (stop_of own read)) o Nothing)
  by None = tt
  by (Some own) = phase2_read_suits p k aim own (stop_of own read) runs
reads_suit p k aim leader read TakeLeader runs is = tt
reads_suit p k aim leader read SetMode runs is = tt
reads_suit p k aim leader read FreeLeader runs is = tt
reads_suit p k aim leader read ClearMode runs is = tt

runs_on : (p : LeasePlace) (k : LeaseKnown) (aim : Aim) (call n : ℕ) (step : LeaseStep) (answer : Answer) → RunsBallots aim → suits aim step ≡ true
    → NextSuits aim (lease_next p k aim call n step answer)
unfolding lease_next
runs_on p k aim call n step Failed runs is = refused_suits aim _
runs_on p k aim call n step (Read bytes) runs is =
    bytes_by (NextSuits aim) p k aim bytes step (λ read of. again_same (suits aim) runs.again step read of ∙ is)
    (reads_suit p k aim _ _ (first_step step) runs (first_same (suits aim) runs.again step ∙ is))
runs_on p k aim call n (ReadArea name) Written runs is = tt
runs_on p k aim call n ReadBeforeBlock Written runs is = tt
runs_on p k aim call n (ReadAgain read) Written runs is = tt
runs_on p k aim call n Phase1Write Written runs is = runs.reads
runs_on p k aim call n Phase1Read Written runs is = tt
runs_on p k aim call n Phase2Write Written runs is = runs.ends
runs_on p k aim call n Phase2Read Written runs is = tt
runs_on p k aim call n TakeLeader Written runs is = by aim runs where
  by : (a : Aim) → RunsBallots a → NextSuits a (after_take k a n)
  by (Acquires Exclusive) r = tt
  by (Acquires Shared) r = moded k.own where
    moded : (o : Option Block) → NextSuits (Acquires Shared) (option_map_or (λ own. WriteBlock SetMode (moded_block own true k.self.generation)) o Nothing)
    moded None = tt
    moded (Some own) = refl
  by (Converts Exclusive) r = moded k.own where
    moded : (o : Option Block) → NextSuits (Converts Exclusive) (option_map_or (λ own. BecomeExclusive n (moded_block own false 0)) o Nothing)
    moded None = tt
    moded (Some own) = tt
  by (Converts Shared) r = tt
  by Releases r = tt
  by Settles r = tt
runs_on p k aim call n SetMode Written runs is = runs.moded p k n
runs_on p k aim call n FreeLeader Written runs is = runs.freed p k n
runs_on p k aim call n ClearMode Written runs is = absurd (not_both (suits aim ClearMode) is runs.no_clear)
runs_on p k aim call n ReadBeforeFree Written runs is = tt

releases_on : (p : LeasePlace) (k : LeaseKnown) (call n : ℕ) (step : LeaseStep) (answer : Answer) → suits Releases step ≡ true → NextSuits Releases (lease_next p k Releases call n step answer)
unfolding lease_next
releases_on p k call n step Failed is = tt
releases_on p k call n FreeLeader (Read bytes) is = bytes_by (NextSuits Releases) p k Releases bytes FreeLeader (λ read of. absurd (none_some read of)) tt
releases_on p k call n ClearMode (Read bytes) is = bytes_by (NextSuits Releases) p k Releases bytes ClearMode (λ read of. absurd (none_some read of)) tt
releases_on p k call n FreeLeader Written is = tt
releases_on p k call n ClearMode Written is = tt
releases_on p k call n (ReadArea name) answer is = absurd (false_is_true is)
releases_on p k call n Phase1Write answer is = absurd (false_is_true is)
releases_on p k call n Phase1Read answer is = absurd (false_is_true is)
releases_on p k call n Phase2Write answer is = absurd (false_is_true is)
releases_on p k call n Phase2Read answer is = absurd (false_is_true is)
releases_on p k call n TakeLeader answer is = absurd (false_is_true is)
releases_on p k call n SetMode answer is = absurd (false_is_true is)
releases_on p k call n ReadBeforeFree answer is = absurd (false_is_true is)
releases_on p k call n ReadBeforeBlock answer is = absurd (false_is_true is)
releases_on p k call n (ReadAgain read) answer is = absurd (false_is_true is)

-- A refusal by the limit of turns calls nothing.
refused_any : (aim other : Aim) (r : Reply) → NextSuits aim (refuses other r)
refused_any aim (Acquires mode) r = tt
refused_any aim (Converts mode) r = tt
refused_any aim Releases r = tt
refused_any aim Settles r = tt

pub within_suits : (p : LeasePlace) (k : LeaseKnown) (aim other : Aim) (n : LeaseNext) → NextSuits aim n → NextSuits aim (within_turn p k other n)
within_suits p k aim other n h = within_cases (NextSuits aim) p k other n (λ fits. h) (λ paired over writes. refused_any aim other (LimitReached TurnLimit))

-- What comes next after an answer.
pub next_suits : (p : LeasePlace) (k : LeaseKnown) (aim : Aim) (call n : ℕ) (step : LeaseStep) (answer : Answer) → suits aim step ≡ true → NextSuits aim (lease_next p k aim call n step answer)
next_suits p k (Acquires mode) call n step answer is = runs_on p k (Acquires mode) call n step answer (acquires_run mode) is
next_suits p k (Converts mode) call n step answer is = runs_on p k (Converts mode) call n step answer (converts_run mode) is
next_suits p k Releases call n step answer is = releases_on p k call n step answer is
next_suits p k Settles call n step answer is = settles_all (lease_next p k Settles call n step answer)

-- What a release begins with.
pub release_suits : (p : LeasePlace) (k : LeaseKnown) (mode : Mode) (lver : ℕ) → NextSuits Releases (release_next p k mode lver)
release_suits p k Exclusive lver = refl
release_suits p k Shared lver = by k.own where
  by : (o : Option Block) → NextSuits Releases (option_map_or (λ own. WriteBlock ClearMode (moded_block own false 0)) o Nothing)
  by None = tt
  by (Some own) = refl

-- What a conversion begins with.
pub conversion_suits : (k : LeaseKnown) (wanted mode : Mode) (name : List ℕ) → NextSuits (Converts wanted) (convert_next k mode name)
conversion_suits k wanted Shared name = by k.own where
  by : (o : Option Block) → NextSuits (Converts wanted) (option_map_or (λ own. WriteBlock SetMode (moded_block own true k.self.generation)) o Nothing)
  by None = tt
  by (Some own) = refl
conversion_suits k wanted Exclusive name = refl
