-- What a command comes to leaves what stands while values are read; a read that it begins has it.
use Rattle.sl_due_facts.proofs.Acts.Pairs.Decisions.{conversion_is, release_is}
use Rattle.sl_due_facts.proofs.Acts.DecisionsAreTheirs.{Of}
use Rattle.sl_due_facts.specs.Acts.Acts.{Has, next_of_conversion, next_of_release}
use Rattle.sl_due_facts.specs.Acts.TraceSoFar.{entry_of}
use Rattle.sl_area.specs.AreaLayout.{delta_offset, value_offset}
use Rattle.sl_area.specs.Roles.{value}
use Rattle.sl_due.specs.DueCommands.{after_end, carry_decision}
use Rattle.sl_due.specs.DueRecovery.{signal_and_refuse}
use Rattle.sl_due.specs.CarriedLease.{carry_lease}
use Rattle.sl_due.specs.Steps.{Step, add_call_of, add_end, add_reply, seen, with_input}
use Rattle.sl_due.specs.declared.decision.Decision.{Decision}
use Rattle.sl_due.specs.declared.decision.Decision.TheVariants.{ConvertsTo, GetsValue, GivesUp, Joins, Leaves, ReadsArea, Replies, Requests, SetsValue, Shares, TakesOver}
use Rattle.sl_due_leases.proofs.Grants.Modes.CallsFit.{named_holder}
use Rattle.sl_due_leases.proofs.Grants.Modes.FitsHolding.{reads_values}
use Rattle.sl_due_leases.proofs.Grants.OthersGoOn.{GoesOn, granted_on, stopped_on}
use Rattle.sl_due_leases.proofs.Grants.Values.ReadsBack.{Guarded, IsRead, Reader, ReadsBack, back_read, call_or, call_reads, facts_back, facts_by, get_process, guard_call, later_sessions, old_read, grant_reads, reads_go_on, reply_reads, writes_are}
use Rattle.sl_due_leases.proofs.Grants.Values.ReadsByInputs.{guard_input, input_reads}
use Rattle.sl_due_leases.proofs.Grants.Values.ReadsByLeases.{IsElsewhere, end_there, lease_reads, read_there, write_there}
use Rattle.sl_due_leases.proofs.Grants.WorksByEffects.{same_session}
use Rattle.sl_due_leases.specs.Grants.ValueLaws.{HasValueFacts}
use Rattle.sl_due_leases.proofs.Holdings.HoldingsByCalls.{call_added}
use Rattle.sl_due_leases.proofs.Holdings.HoldingsByEffects.{later_same}
use Rattle.sl_due_leases.proofs.Holdings.HoldingsByInputs.{calls_stay, sessions_seen_still}
use Rattle.sl_due_leases.proofs.Holdings.HoldingsByLines.{asked_resource, base_of, no_told}
use Rattle.sl_due_leases.proofs.Holdings.PlainPlaces.{one_place}
use Rattle.sl_due_leases.specs.Holdings.DecisionGrounds.{GetGrounds, GiveUpGrounds, HasGrounds, IsReady, Releases as ReleasesIt}
use Rattle.sl_due_leases.specs.Holdings.Moments.{Known}
use Rattle.sl_due_facts.proofs.Jobs.CallsHaveFacts.{calls_before}
use Rattle.sl_run.specs.LawfulArea.{is_area_work}
use Rattle.sl_run.specs.LawfulValue.{held_since, writes_since}
use Rattle.sl_due_leases.proofs.Ways.WayFactsHeld.EffectsLeave.{there_has}
use Rattle.sl_due_leases.proofs.Ways.WayFactsHeld.HeardStands.{spot_same}
use Rattle.sl_due_leases.proofs.Ways.WayFactsHeld.LinesKeep.{line_command}
use Rattle.sl_due_leases.proofs.Ways.WayFactsHeld.LinesReady.{none_open}
use Rattle.sl_due_leases.proofs.Ways.WayFactsHeld.PlacesStand.{id_in_range, place_is_on, placed_on, spot_is}
use Rattle.sl_trace.specs.Ballots.{moded_block}
use Rattle.sl_trace.specs.Jobs.{command_numbered, resource_named}
use Rattle.sl_trace.specs.Conversions.{convert_next}
use Rattle.sl_trace.specs.LeaseDecisions.{lease_place}
use Rattle.sl_trace.specs.Releases.{release_next}
use Rattle.sl_trace.specs.Leases.{LeaseKnown, holdings_on, is_on, known, spot_of, spot_of_call}
use Rattle.sl_trace.specs.declared.lease.LeaseNext.{LeaseNext}
use Rattle.sl_trace.specs.declared.lease.LeaseNext.TheVariants.{AnswerJob, Nothing, WriteBlock}
use Rattle.sl_due_facts.proofs.AddedEffects.CallsGrow.{same_sessions}
use Rattle.sl_words.proofs.Lists.{contains_cases, contains_first, contains_more, contains_none, find_inside, in_map, kept_inside}
use Rattle.sl_words.proofs.Numbers.{refl_le}
use Rattle.sl_sector.specs.declared.sector.Block.{Block}
use Rattle.sl_sector.specs.declared.sector.Rec.TheVariants.{ValueIs}
use Rattle.sl_trace.specs.Sessions.{calls_of, holdings_of, is_call_of, session_numbered}
use Rattle.sl_trace.specs.declared.reply.Limited.TheVariants.{Turn as TurnLimit}
use Rattle.sl_trace.specs.declared.session.Session.{Session}
use Rattle.sl_due_facts.specs.Facts.HeardCall.{IsOpen, heard_by}
use Rattle.sl_due_facts.specs.Facts.ValueFacts.{IsReading}
use Rattle.sl_trace.specs.CommandForms.{IsCommand, IsResourceArg}
use Rattle.sl_trace.specs.CountLimits.{most_processes}
use Rattle.sl_trace.specs.Traces.{Child, Setting, Submitted, Trace, answered_in, child_numbered, children, end_of, first_child, holdings, is_before_input, is_child, is_orphan, is_write, mark, new_call, next_child, next_job, same_place, spot_of_grant, submitted}
use Rattle.sl_trace.specs.declared.command.Command.{Command}
use Rattle.sl_trace.specs.declared.command.Command.TheVariants.{Acquire, AddLockspace, Convert, GetLvb, HostStatus, InqLockspace, Release, ReleaseOrphan, RemLockspace, Request, RunProgram, SetKillpath, SetLvb, Status, TakeOver}
use Rattle.sl_trace.specs.declared.command.ResourceArg.{ResourceArg}
use Rattle.sl_trace.specs.declared.effects.Call.{Call}
use Rattle.sl_trace.specs.declared.effects.Grant.{Grant}
use Rattle.sl_trace.specs.declared.effects.JoinStep.TheVariants.{FirstRead}
use Rattle.sl_trace.specs.declared.effects.LeaseStep.TheVariants.{ClearMode, SetMode}
use Rattle.sl_trace.specs.declared.effects.Mode.{Mode}
use Rattle.sl_trace.specs.declared.effects.Mode.TheVariants.{Exclusive, Shared}
use Rattle.sl_trace.specs.declared.effects.Op.TheVariants.{ReadSectors, WriteRecord}
use Rattle.sl_trace.specs.declared.effects.Purpose.{Purpose}
use Rattle.sl_trace.specs.declared.effects.Purpose.TheVariants.{Joining, RequestRead, ValueRead, ValueWrite}
use Rattle.sl_trace.specs.declared.effects.Spot.{Spot}
use Rattle.sl_trace.specs.declared.effects.Work.TheVariants.{ForJob}
use Rattle.sl_trace.specs.declared.input.Input.{Input}
use Rattle.sl_trace.specs.declared.input.Input.TheVariants.{Answer as Told, Exit, Line, Number, Spawned, Wake}
use Rattle.sl_trace.specs.declared.reply.Reply.TheVariants.{Done, Limit as LimitReached}
use Rattle.sl_run_law.proofs.Sessions.CallsAreMade.{same_answered}
use Rattle.sl_words.proofs.CaseLaws.{is_false, no_value, none_some, one_value, some_value, true_is_false}
use Rattle.sl_words.proofs.WordLaws.{and_true, or_true, some_is_true}
use Rattle.sl_words.specs.Words.{some_is}
use Rattle.std.proofs.Common.{ap, arith, inl, inr, refl, subst, sym, ◌∙◌}
use Rattle.std.proofs.lemmas.Bool.{eqb-true, leb-true}
use Rattle.std.specs.List.{list_any}
use Rattle.std.specs.Option.{option_map_or}
use Rattle.std.specs.Prelude.{Bool, Contains, IsSome, List, None, Ok, Option, Some, [], false, fold, length, nat_le, nat_lt, not, slice_get, suc, true, ℕ, ◌%◌, ◌&&◌, ◌<◌, ◌==◌, ◌||◌, ◌∷◌, ◌≡◌, ◌≤◌, ◌⊎◌}

-- All that a command's line comes with.
record Lined (x : Step) (text : List ℕ) (c : Command) : Type 0 where
  known : Known x
  wake : x.input ≡ Wake
  bare : x.effects.calls ≡ []
  says : x.setting.read text ≡ Ok c

line_back : (x : Step) (text : List ℕ) (c : Command) → Lined x text c → ReadsBack x (with_input (Line text) x)
line_back x text c l = input_reads x (Line text) l.wake l.bare refl l.known

-- A command on a resource finds no value read there.
calm_there : (x : Step) (text : List ℕ) (c : Command) (s : Session) (r : ResourceArg) → Lined x text c → IsResourceArg x.setting.layout r → IsReady x.setting (seen x) s r → IsElsewhere x (spot_of r)
calm_there x text c s r l arg ready =
    record {
      setting = l.known.0.setting;
      aligned = base_of x.setting r arg;
      free = λ m j t i spot. none_open x.setting l.known.0.setting (seen x) (spot_of r) ready.calm m i.there (waits m i.opens) spot;
    }
  where
    waits : (m : Submitted) → IsOpen (seen x) (heard_by x.input) m → m.answer ≡ None
    waits m (inl none) = none
    waits m (inr w) = absurd (no_value m.call.number (heard_by x.input) w.0 (ap (λ i. heard_by i) l.wake))

named_arg : (x : Step) (text : List ℕ) (c : Command) (r : ResourceArg) → Lined x text c → resource_named c ≡ Some r → IsResourceArg x.setting.layout r
named_arg x text c r l named = by c (l.known.0.setting.reads text c l.says) named where
  by : (c : Command) → IsCommand x.setting.layout c → resource_named c ≡ Some r → IsResourceArg x.setting.layout r
  by (Acquire a shared p persistent) is named = subst (λ z. IsResourceArg x.setting.layout z) (some_value a r named) is.0
  by (TakeOver a shared p persistent) is named = subst (λ z. IsResourceArg x.setting.layout z) (some_value a r named) is.0
  by (Release a p) is named = subst (λ z. IsResourceArg x.setting.layout z) (some_value a r named) is.0
  by (ReleaseOrphan a) is named = subst (λ z. IsResourceArg x.setting.layout z) (some_value a r named) is
  by (Convert a shared p) is named = subst (λ z. IsResourceArg x.setting.layout z) (some_value a r named) is.0
  by (RunProgram a shared path) is named = subst (λ z. IsResourceArg x.setting.layout z) (some_value a r named) is.0
  by (Request a lver force) is named = subst (λ z. IsResourceArg x.setting.layout z) (some_value a r named) is.0
  by (GetLvb a p) is named = subst (λ z. IsResourceArg x.setting.layout z) (some_value a r named) is.0
  by (SetLvb a p bytes) is named = subst (λ z. IsResourceArg x.setting.layout z) (some_value a r named) is.0
  by (AddLockspace a) is named = absurd (none_some r named)
  by (RemLockspace a) is named = absurd (none_some r named)
  by (InqLockspace a) is named = absurd (none_some r named)
  by (HostStatus a) is named = absurd (none_some r named)
  by (SetKillpath p path) is named = absurd (none_some r named)
  by Status is named = absurd (none_some r named)

in_range_of : (x : Step) (text : List ℕ) (c : Command) (s : Session) → Lined x text c → Has (with_input (Line text) x) s → (1 ≤ s.id) × (s.id ≤ x.setting.layout.hosts)
in_range_of x text c s l has = id_in_range x.setting l.known.0.setting (seen (with_input (Line text) x)) s (there_has x.setting (seen (with_input (Line text) x)) s.number s has)

-- What a release and a conversion begin with answers the job only where a turn would pass its limit.
abbrev pub SaysTurn : LeaseNext → Type 0
SaysTurn (AnswerJob r) = r ≡ LimitReached TurnLimit
SaysTurn n = Unit {0}

pub conversion_says : (st : Setting) (es : Trace) (s : Session) (at : Spot) (mode : Mode) (name : List ℕ) → SaysTurn (next_of_conversion st es s at mode name)
conversion_says st es s at mode name = conversion_is SaysTurn st es s at mode name (λ fits. begun mode) (λ paired over writes. refl) where
  k : LeaseKnown
  k = known st es s at

  moded : (o : Option Block) → SaysTurn (option_map_or (λ own. WriteBlock SetMode (moded_block own true k.self.generation)) o Nothing)
  moded None = tt
  moded (Some own) = tt

  begun : (m : Mode) → SaysTurn (convert_next k m name)
  begun Exclusive = tt
  begun Shared = moded k.own

pub release_says : (st : Setting) (es : Trace) (s : Session) (at : Spot) (g : Grant) → SaysTurn (next_of_release st es s at g)
release_says st es s at g = release_is SaysTurn st es s at g (λ fits. begun g.mode) (λ paired over writes. refl) where
  cleared : (o : Option Block) → SaysTurn (option_map_or (λ own. WriteBlock ClearMode (moded_block own false 0)) o Nothing)
  cleared None = tt
  cleared (Some own) = tt

  begun : (m : Mode) → SaysTurn (release_next (lease_place st s) (known st es s at) m g.lver)
  begun Exclusive = tt
  begun Shared = cleared (known st es s at).own

gives_up_reads : (x : Step) (text : List ℕ) (c : Command) (s : Session) (g : Grant) → Lined x text c → Has (with_input (Line text) x) s → GiveUpGrounds x.setting (seen x) c s g
    → ReadsBack x (after_end s (spot_of_grant g) (next_job x.setting (seen x)) g (add_end (end_of g) (with_input (Line text) x)))
unfolding after_end
gives_up_reads x text c s g l has u = by (holdings_on (seen z) s (spot_of_grant g)) where
  y : Step
  y = with_input (Line text) x

  z : Step
  z = add_end (end_of g) y

  j : ℕ
  j = next_job x.setting (seen x)

  releasing : (c : Command) (r : ResourceArg) → ReleasesIt c r g → resource_named c ≡ Some r
  releasing c r (inl a) = ap (λ k. resource_named k) a.1
  releasing c r (inr a) = ap (λ k. resource_named k) a.0

  place : same_place g.path g.offset u.resource.path u.resource.offset ≡ true
  place = (kept_inside (λ (e : Grant). same_place e.path e.offset u.resource.path u.resource.offset) (holdings_of (seen x) s) g u.held).1

  there : IsElsewhere x (spot_of_grant g)
  there = subst (λ at. IsElsewhere x at) (sym (spot_same g (spot_of u.resource) place)) (calm_there x text c s u.resource l (named_arg x text c u.resource l (releasing c u.resource u.releases)) u.ready)

  ended : ReadsBack x z
  ended = end_there x y (spot_of_grant g) g there (one_place g.path g.offset) (line_back x text c l)

  by : (hs : List Grant)
      → ReadsBack x (elim hs as (λ v. Step) [
        | e ∷ es ↦ add_reply j Done z
        | [] ↦ carry_lease s (spot_of_grant g) (ForJob j) (next_of_release z.setting (seen z) s (spot_of_grant g) g) z
      ])
  by (e ∷ es) = reply_reads x z j Done (later_same z.past (entry_of z) (record { job = j; reply = Done }) refl) ended
  by [] =
      lease_reads x z s (spot_of_grant g) (ForJob j) (next_of_release z.setting (seen z) s (spot_of_grant g) g) there (in_range_of x text c s l has)
      (λ r is. ap (λ q. is_before_input q) (subst (λ n. SaysTurn n) is (release_says z.setting (seen z) s (spot_of_grant g) g))) ended

-- ---- a value that is read from here on

all_made : (es : Trace) (m : Submitted) → Contains (submitted es) m → m.at < length es
all_made [] m there = absurd (contains_none m there)
all_made (e ∷ es) m there = pushed e.effects.calls (mark es e e.input (submitted es)) (λ d inside. marked e.input d inside (λ k at. all_made es k at)) m there where
  up : (a b : ℕ) → a < b → a < suc b
  up a b less = omega (arith, less)

  marked : (i : Input) (d : Submitted) → Contains (mark es e i (submitted es)) d → ((k : Submitted) → Contains (submitted es) k → k.at < length es) → d.at < suc (length es)
  marked (Told n w) d inside made = (let v = in_map (answered_in es e n w) (submitted es) d inside in subst (λ k. k < suc (length es)) (sym (same_answered es e n w v.0).at ∙ ap (λ (k : Submitted). k.at) v.2) (up v.0.at (length es) (made v.0 v.1)))
  marked (Line text) d inside made = up d.at (length es) (made d inside)
  marked (Number text) d inside made = up d.at (length es) (made d inside)
  marked (Exit p) d inside made = up d.at (length es) (made d inside)
  marked (Spawned p ok) d inside made = up d.at (length es) (made d inside)
  marked Wake d inside made = up d.at (length es) (made d inside)

  pushed : (cs : List Call) (ms : List Submitted) → ((d : Submitted) → Contains ms d → d.at < suc (length es)) → (d : Submitted) → Contains (fold (λ ns c. new_call (length es) e.reading c ∷ ns) ms cs) d → d.at < suc (length es)
  pushed [] ms h d inside = h d inside
  pushed (c ∷ cs) ms h d inside = pushed cs (new_call (length es) e.reading c ∷ ms) (λ k at. by k (contains_cases (new_call (length es) e.reading c) ms k at)) d inside where
    by : (k : Submitted) → (new_call (length es) e.reading c ≡ k) ⊎ Contains ms k → k.at < suc (length es)
    by k (inl is) = subst (λ (z : Submitted). z.at < suc (length es)) is (omega arith)
    by k (inr old) = h k old

none_any : {A : Type 0} (p : A → Bool) (xs : List A) → ((a : A) → Contains xs a → p a ≡ false) → list_any p xs ≡ false
none_any p [] h = refl
none_any p (a ∷ xs) h = ap (λ b. b || list_any p xs) (h a (contains_first a xs)) ∙ none_any p xs (λ b there. h b (contains_more a xs b there))

held_later : (t : Trace) (n : ℕ) (s : Session) (at : Spot) → length t ≤ n → held_since n t s at ≡ true
held_later [] n s at le = refl
held_later (e ∷ es) n s at le = by (nat_le n (length es)) refl (held_later es n s at (lower (length es) n le)) where
  lower : (a b : ℕ) → suc a ≤ b → a ≤ b
  lower a b le = omega (arith, le)

  by : (b : Bool) → nat_le n (length es) ≡ b → held_since n es s at ≡ true → ((not (nat_le n (length es)) || nat_lt 0 (length (holdings_on (e ∷ es) s at))) && held_since n es s at) ≡ true
  by false is rest = ap (λ b. (not b || nat_lt 0 (length (holdings_on (e ∷ es) s at))) && held_since n es s at) is ∙ rest
  by true is rest = absurd (never n (length es) (leb-true n (length es) is) le) where
    never : (a b : ℕ) → a ≤ b → suc b ≤ a → ⊥
    never a b up down = omega (arith, up, down)

gets_values : (x : Step) (text : List ℕ) (c : Command) (s : Session) (at : Spot) → Lined x text c → Has (with_input (Line text) x) s → GetGrounds x.setting (seen x) c s at
    → HasValueFacts (carry_decision (next_job x.setting (seen x)) c (GetsValue s at) (with_input (Line text) x))
unfolding carry_decision
gets_values x text c s at l has g = facts_by x.setting z (back.above l.known.0.facts.values.above) (λ m i t r. by m i t r (call_or y s.number at.path (ValueRead j) o (ReadSectors 1) m r.there)) where
  y : Step
  y = with_input (Line text) x

  j : ℕ
  j = next_job x.setting (seen x)

  o : ℕ
  o = value_offset x.setting.layout at.base

  z : Step
  z = add_call_of s.number at.path (ValueRead j) o (ReadSectors 1) y

  v : Submitted
  v = new_call (length x.past) x.reading (call_added s.number at.path (ValueRead j) o (ReadSectors 1) y)

  back : ReadsBack x y
  back = line_back x text c l

  spot : spot_of_call x.setting.layout v ≡ at
  spot =
      spot_is x.setting.layout at v (subst (λ (z : Spot). z.base % x.setting.layout.area ≡ 0) (sym g.spot) (base_of x.setting g.resource (named_arg x text c g.resource l (ap (λ d. resource_named d) g.command))))
      (placed_on x.setting at (call_added s.number at.path (ValueRead j) o (ReadSectors 1) y) refl (place_is_on x.setting l.known.0.setting at.base value tt))

  holder : Contains (holdings_on (seen x) s at) g.holding × Contains (holdings (seen x)) g.holding × (g.holding.session ≡ s.number) × (same_place g.holding.path g.holding.offset at.path at.base ≡ true) × (g.holding.process ≡ g.process) × (true ≡ true)
  holder = named_holder (seen x) s at g.process (λ k. true) g.holding g.held

  same_calls : submitted (seen y) ≡ submitted x.past
  same_calls = calls_stay x (Line text) l.wake l.bare refl ∙ calls_before x l.wake l.bare

  -- nothing was made since
  fresh : writes_since x.setting (length x.past) (seen y) s at ≡ false
  fresh =
      none_any (λ (m : Submitted). is_area_work m.call.purpose && (nat_le (length x.past) m.at && (is_write m.call.op && is_on x.setting.layout at m.call))) (calls_of (seen y) s)
      (λ m there. old m (all_made x.past m (subst (λ ms. Contains ms m) same_calls (kept_inside (is_call_of s) (submitted (seen y)) m there).0)))
    where
      below : (a b : ℕ) → a < b → nat_le b a ≡ false
      below a b less = is_false (nat_le b a) (λ is. never a b less (leb-true b a is)) where
        never : (a b : ℕ) → a < b → b ≤ a → ⊥
        never a b less le = omega (arith, less, le)

      off : (a b d : Bool) → b ≡ false → (a && (b && d)) ≡ false
      off true b d is = ap (λ e. e && d) is
      off false b d is = refl

      old : (m : Submitted) → m.at < length x.past → (is_area_work m.call.purpose && (nat_le (length x.past) m.at && (is_write m.call.op && is_on x.setting.layout at m.call))) ≡ false
      old m less = off (is_area_work m.call.purpose) (nat_le (length x.past) m.at) (is_write m.call.op && is_on x.setting.layout at m.call) (below m.at (length x.past) less)

  started : (k : Child) → child_numbered (seen x) g.process ≡ Some k → k.answer ≡ Some true
  started k is = may (or_true (nat_le g.process most_processes) (is_child (seen x) g.process) g.acts) where
    never : (p n : ℕ) → first_child ≤ p → p ≤ most_processes → ⊥
    never p n low high = omega (arith, low, high)

    truly : (b : Bool) → b ≡ true → Some b ≡ Some true
    truly b is = ap (λ c. Some c) is

    may : (nat_le g.process most_processes ≡ true) ⊎ (is_child (seen x) g.process ≡ true) → k.answer ≡ Some true
    may (inl low) =
        let f = find_inside (λ (e : Child). e.process == g.process) (children (seen x)) k is in
        absurd (never g.process 0 (subst (λ n. first_child ≤ n) (eqb-true k.process g.process f.1) (l.known.0.facts.values.above k f.0)) (leb-true g.process most_processes low))
    may (inr child) =
        let a = and_true (some_is (λ ok. ok) k.answer) (not k.exited) (sym (ap (λ o. some_is (λ (e : Child). some_is (λ ok. ok) e.answer && not e.exited) o) is) ∙ child) in
        let w = some_is_true (λ ok. ok) k.answer a.0 in
        w.1 ∙ truly w.0 w.2

  first : Guarded x.setting s at (length x.past) g.process x
  first =
      record {
        before = held_later x.past (length x.past) s at (refl_le (length x.past));
        calm = writes_are x.setting (length x.past) s at (entry_of x) x.past ∙ (sym (writes_are x.setting (length x.past) s at (entry_of y) x.past) ∙ fresh);
        holder = (g.holding, holder.0, holder.4);
        born = subst (λ n. n < next_child (seen x)) holder.4 (l.known.0.facts.holdings.born g.holding holder.1);
        started = started;
      }

  new : Guarded x.setting s at (length x.past) g.process z
  new =
      guard_call x.setting s at (length x.past) g.process y s.number at.path (ValueRead j) o (ReadSectors 1) (λ mine. refl) (guard_input x.setting s at (length x.past) g.process x (Line text) l.wake first)

  own : (m : Submitted) (i : ℕ) (t : Session) → IsReading x.setting (seen z) (heard_by z.input) m i t → v ≡ m → Reader x.setting z m i t
  own m i t r is =
      let its : session_numbered x.setting (seen z) s.number ≡ Some s = ap (λ ss. slice_get ss s.number) (same_sessions x.setting (entry_of y) x.past (call_added s.number at.path (ValueRead j) o (ReadSectors 1) y) refl) ∙ has in
      let session : s ≡ t = one_value s t (session_numbered x.setting (seen z) s.number) its (ap (λ (d : Submitted). session_numbered x.setting (seen z) d.call.session) is ∙ r.session) in
      let job : j ≡ i = read_job j i (ap (λ (d : Submitted). d.call.purpose) is ∙ r.purpose) in
      record {
        process = g.process;
        guard = subst (λ t. Guarded x.setting t (spot_of_call x.setting.layout m) m.at g.process z) session
            (subst (λ (d : Submitted). Guarded x.setting s (spot_of_call x.setting.layout d) d.at g.process z) is (subst (λ a. Guarded x.setting s a (length x.past) g.process z) (sym spot) new));
        only = λ a p command.
            get_process g.resource a g.process p
            (sym g.command ∙ some_value c (GetLvb a p) (sym (line_command x text c l.wake l.says) ∙ (ap (λ n. command_numbered x.setting (seen z) n) job ∙ command)));
      }
    where
      read_job : (a b : ℕ) → ValueRead a ≡ ValueRead b → a ≡ b
      read_job a b is = ap (λ p. job_in_read p) is where
        job_in_read : Purpose → ℕ
        job_in_read (ValueRead n) = n
        job_in_read p = 0

  by : (m : Submitted) (i : ℕ) (t : Session) → IsReading x.setting (seen z) (heard_by z.input) m i t → (v ≡ m) ⊎ Contains (submitted (seen y)) m → Reader x.setting z m i t
  by m i t r (inl is) = own m i t r is
  by m i t r (inr there) =
      let was : IsRead x y m i t =
      old_read x y s.number at.path (ValueRead j) o (ReadSectors 1) (λ k q d inside its is. later_sessions x y s.number at.path (ValueRead j) o (ReadSectors 1) refl k q is) m i t r there
      in
      let w : Reader x.setting y m i t = back_read x y l.known back m i t was in
      record {
        process = w.process;
        guard = guard_call x.setting t (spot_of_call x.setting.layout m) m.at w.process y s.number at.path (ValueRead j) o (ReadSectors 1) (λ mine. refl) w.guard;
        only = w.only;
      }

-- ---- all commands

pub lines_values : (x : Step) (text : List ℕ) (c : Command) (d : Decision) → Known x → x.input ≡ Wake → x.effects.calls ≡ [] → x.setting.read text ≡ Ok c → HasGrounds x.setting (seen x) c d → Of (Has (with_input (Line text) x)) d
    → HasValueFacts (carry_decision (next_job x.setting (seen x)) c d (with_input (Line text) x))
unfolding carry_decision
lines_values x text c d k wake bare says = by d where
  y : Step
  y = with_input (Line text) x

  j : ℕ
  j = next_job x.setting (seen x)

  l : Lined x text c
  l = record { known = k; wake = wake; bare = bare; says = says }

  back : ReadsBack x y
  back = line_back x text c l

  on : GoesOn (ReadsBack x)
  on = reads_go_on x

  owned : (n : ℕ) (t : Session) (m : Submitted) → Contains (submitted (seen y)) m → m.call.session ≡ n → IsSome (session_numbered x.setting (seen y) n)
  owned n t m there its =
      subst (λ o. IsSome o) (sym (sessions_seen_still x (Line text) n bare)) (subst (λ i. IsSome (session_numbered x.setting (seen x) i)) its (k.0.facts.calls.owned m (subst (λ ms. Contains ms m) (calls_stay x (Line text) wake bare refl) there)))

  by : (d : Decision) → HasGrounds x.setting (seen x) c d → Of (Has y) d → HasValueFacts (carry_decision j c d y)
  by (Replies r) grounds has = facts_back x y k back
  by (Joins n a) grounds has =
      let o : ℕ = delta_offset x.setting.layout a.offset a.id in
      facts_back x (carry_decision j c (Joins n a) y) k
      (call_reads x y n a.path (Joining j FirstRead) o (ReadSectors 1) (λ i is. true_is_false (sym (ap (λ p. is_area_work p) is)))
      (λ i t m there its is. same_session y (call_added n a.path (Joining j FirstRead) o (ReadSectors 1) y) i t (owned i t m there its) is) (λ m i t r mine. refl) back)
  by (Leaves s) grounds has = facts_back x (signal_and_refuse s (Some j) y) k (stopped_on (ReadsBack x) on y s (Some j) (no_told x.past text) back)
  by (ReadsArea s r) grounds has =
      facts_back x (carry_decision j c (ReadsArea s r) y) k
      (read_there x y (spot_of r) s (ForJob j) r.name (calm_there x text c s r l (named_arg x text c r l (asked_resource x.setting c r (k.0.setting.reads text c says) grounds.acquires.asks).1) grounds.acquires.ready) back)
  by (Shares s lver) grounds has = facts_back x (carry_decision j c (Shares s lver) y) k (granted_on (ReadsBack x) on (grant_reads x) y s j c Shared lver back)
  by (GivesUp s g) grounds has = facts_back x (carry_decision j c (GivesUp s g) y) k (gives_up_reads x text c s g l has grounds)
  by (TakesOver s g) grounds has =
      let f = find_inside is_orphan (holdings_on (seen x) s (spot_of grounds.resource)) g grounds.orphan in
      let place : same_place g.path g.offset grounds.resource.path grounds.resource.offset ≡ true = (kept_inside (λ (e : Grant). same_place e.path e.offset grounds.resource.path grounds.resource.offset) (holdings_of (seen x) s) g f.0).1 in
      facts_back x (carry_decision j c (TakesOver s g) y) k
      (granted_on (ReadsBack x) on (grant_reads x) (add_end (end_of g) y) s j c g.mode g.lver
      (end_there x y (spot_of grounds.resource) g (calm_there x text c s grounds.resource l (named_arg x text c grounds.resource l (ap (λ z. resource_named z) grounds.command)) grounds.ready) place back))
  by (ConvertsTo s r mode) grounds has =
      facts_back x (carry_decision j c (ConvertsTo s r mode) y) k
      (lease_reads x y s (spot_of r) (ForJob j) (next_of_conversion x.setting (seen y) s (spot_of r) mode r.name) (calm_there x text c s r l (named_arg x text c r l (ap (λ z. resource_named z) grounds.command)) grounds.ready)
      (in_range_of x text c s l has) (λ q is. ap (λ a. is_before_input a) (subst (λ n. SaysTurn n) is (conversion_says x.setting (seen y) s (spot_of r) mode r.name))) back)
  by (Requests s r) grounds has =
      facts_back x (carry_decision j c (Requests s r) y) k
      (call_reads x y s.number r.path (RequestRead j) r.offset (ReadSectors 2) (λ i is. true_is_false (sym (ap (λ p. reads_values p) is)))
      (λ i t m there its is. later_sessions x y s.number r.path (RequestRead j) r.offset (ReadSectors 2) refl i t is) (λ m i t r mine. refl) back)
  by (SetsValue s at v) grounds has =
      let e : IsElsewhere x at = subst (λ z. IsElsewhere x z) (sym grounds.spot) (calm_there x text c s grounds.resource l (named_arg x text c grounds.resource l (ap (λ z. resource_named z) grounds.command)) grounds.ready) in
      let o : ℕ = value_offset x.setting.layout at.base in
      facts_back x (carry_decision j c (SetsValue s at v) y) k
      (write_there x y at s at.path (ValueWrite j) o (WriteRecord (ValueIs v)) e refl (λ i is. true_is_false (sym (ap (λ p. reads_values p) is)))
      (placed_on x.setting at (call_added s.number at.path (ValueWrite j) o (WriteRecord (ValueIs v)) y) refl (place_is_on x.setting k.0.setting at.base value tt)) back)
  by (GetsValue s at) grounds has = gets_values x text c s at l has grounds
