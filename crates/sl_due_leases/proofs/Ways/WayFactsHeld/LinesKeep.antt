-- What a command came to leaves ways and turns.
use Rattle.sl_due_facts.proofs.Acts.DecisionsAreTheirs.{Of, decisions_are_theirs}
use Rattle.sl_due_facts.proofs.Acts.PlainActs.{line_has}
use Rattle.sl_due_facts.specs.Acts.Acts.{Has, next_of_conversion, next_of_release}
use Rattle.sl_due_facts.specs.Acts.DueDaemons.{IsDecidedFor}
use Rattle.sl_area.specs.AreaLayout.{in_area, value_offset}
use Rattle.sl_area.specs.Roles.{leader, value}
use Rattle.sl_due.specs.DueCommands.{after_end, carry_decision, decided, reply_at_once}
use Rattle.sl_due.specs.CarriedLease.{carry_lease}
use Rattle.sl_due.specs.Steps.{Step, add_end, add_reply, seen, with_input}
use Rattle.sl_due.specs.declared.decision.Decision.TheVariants.{ConvertsTo, GetsValue, GivesUp, Joins, Leaves, ReadsArea, Replies, Requests, SetsValue, Shares, TakesOver}
use Rattle.sl_due.specs.declared.decision.Decision.{Decision}
use Rattle.sl_run.specs.LawfulArea.{is_area_work}
use Rattle.sl_due_leases.proofs.Ways.WayFactsHeld.AreaCallsLeave.{MayWork, area_calls_leave}
use Rattle.sl_due_leases.proofs.Ways.WayFactsHeld.CallsSame.{HeardNoJob}
use Rattle.sl_due_leases.proofs.Ways.WayFactsHeld.DecidedFits.{conversion_fits, release_fits}
use Rattle.sl_due_leases.proofs.Ways.WayFactsHeld.DecisionsAreClear.{DecidedOn, decisions_are_clear}
use Rattle.sl_due_leases.proofs.Ways.WayFactsHeld.EffectsLeave.{ends_leave, grants_leave, made_call, moves_leave, replies_leave, signals_leave, starts_leave}
use Rattle.sl_due_leases.proofs.Ways.WayFactsHeld.HeardStands.{spot_same}
use Rattle.sl_due_leases.proofs.Ways.WayFactsHeld.InputsLeave.{answers, input_sessions, quiet_inputs_leave, quiet_same}
use Rattle.sl_due_leases.proofs.Ways.WayFactsHeld.JoinsLeave.{joins_leave}
use Rattle.sl_due_leases.proofs.Ways.WayFactsHeld.LeaseNextsLeave.{HasEnded, IsLate, LeaseReady, by_late, next_leaves}
use Rattle.sl_due_leases.proofs.Ways.WayFactsHeld.LinesReady.{line_ready}
use Rattle.sl_due_leases.proofs.Ways.WayFactsHeld.PlacesStand.{either_list, place_is_on, placed_on}
use Rattle.sl_due_leases.proofs.Ways.WayFactsHeld.PlainWalks.{ByPlain, granting, stopped}
use Rattle.sl_due_leases.specs.Ways.WayFactsHeld.{LeasesStand}
use Rattle.sl_trace.specs.Ballots.{moded_block}
use Rattle.sl_trace.specs.Jobs.{aim_of, aim_of_command, command_numbered, command_of}
use Rattle.sl_due_facts.proofs.Acts.Pairs.Decisions.{within_cases}
use Rattle.sl_trace.specs.LeaseDecisions.{LeasePlace, lease_place, refuses, within_turn}
use Rattle.sl_trace.specs.Conversions.{convert_next}
use Rattle.sl_trace.specs.Releases.{release_next}
use Rattle.sl_trace.specs.Leases.{LeaseKnown, ended_ballots, holdings_on, is_lease_call, is_on, known, lease_step, open_ballot, spot_of}
use Rattle.sl_trace.specs.declared.lease.Aim.TheVariants.{Acquires, Converts, Releases, Settles}
use Rattle.sl_trace.specs.declared.lease.Aim.{Aim}
use Rattle.sl_trace.specs.declared.lease.LeaseNext.TheVariants.{AnswerJob, BecomeExclusive, BecomeShared, GrantJob, Nothing, ReadFor, WriteBlock, WriteLeader}
use Rattle.sl_trace.specs.declared.lease.LeaseNext.{LeaseNext}
use Rattle.sl_sector.specs.declared.sector.Block.{Block}
use Rattle.sl_sector.specs.declared.sector.Leader.{Leader}
use Rattle.sl_trace.specs.Sessions.{delta_of_record, generation_in, holdings_of, is_call_of, session_numbered}
use Rattle.sl_trace.specs.declared.session.Session.{Session}
use Rattle.sl_due_facts.specs.Facts.HoldingFacts.{HoldingFacts, StandsExclusive}
use Rattle.sl_due_facts.specs.Facts.HeardCall.{heard_by}
use Rattle.sl_due_facts.specs.Facts.AllFacts.{Whole}
use Rattle.sl_trace.specs.Traces.{Job, Setting, Submitted, Trace, end_of, holdings, is_shared, job_in, job_numbered, jobs, line_in, next_job, numbers_taken, record_of, same_place, spot_of_grant, submitted, takes_number}
use Rattle.sl_trace.specs.declared.command.Command.{Command}
use Rattle.sl_trace.specs.declared.command.ResourceArg.{ResourceArg}
use Rattle.sl_trace.specs.declared.effects.Grant.{Grant}
use Rattle.sl_trace.specs.declared.effects.LeaseStep.TheVariants.{ClearMode, ReadArea, SetMode}
use Rattle.sl_trace.specs.declared.effects.LeaseStep.{LeaseStep}
use Rattle.sl_trace.specs.declared.effects.Mode.TheVariants.{Exclusive, Shared}
use Rattle.sl_trace.specs.declared.effects.Mode.{Mode}
use Rattle.sl_trace.specs.declared.effects.Op.{Op}
use Rattle.sl_trace.specs.declared.effects.Purpose.TheVariants.{RequestRead, ValueRead, ValueWrite}
use Rattle.sl_trace.specs.declared.effects.Purpose.{Purpose}
use Rattle.sl_trace.specs.declared.effects.Spot.{Spot}
use Rattle.sl_trace.specs.declared.effects.Work.TheVariants.{ForJob}
use Rattle.sl_trace.specs.declared.input.Input.TheVariants.{Answer as Told, Exit, Line, Number, Spawned, Wake}
use Rattle.sl_trace.specs.declared.input.Input.{Input}
use Rattle.sl_trace.specs.declared.reply.Limited.TheVariants.{Turn as TurnLimit}
use Rattle.sl_trace.specs.declared.reply.Reply.TheVariants.{Done, Limit as LimitReached}
use Rattle.sl_trace.specs.declared.reply.Reply.{Reply}
use Rattle.sl_words.proofs.Lists.{contains_cases, contains_first, contains_more, contains_none, kept_inside}
use Rattle.sl_words.proofs.Numbers.{less_is_other, number_itself}
use Rattle.sl_words.proofs.CaseLaws.{true_is_false}
use Rattle.std.proofs.Common.{ap, arith, eqb-true, inl, inr, refl, subst, sym, ◌∙◌}
use Rattle.std.specs.Option.{option_map_or}
use Rattle.std.specs.Prelude.{Bool, Contains, List, None, Ok, Option, Some, [], cond, false, filter, find, is_some, length, option_and_then, slice_get, true, ℕ, ◌&&◌, ◌++◌, ◌+◌, ◌<◌, ◌==◌, ◌∷◌, ◌≡◌, ◌≤◌, ◌⊎◌}

-- ---- the line's job

taken_more : (st : Setting) (es : Trace) (i : Input) → next_job st es ≤ st.first.job + elim (takes_number i) as (λ z. ℕ) [ true ↦ numbers_taken es + 1 | false ↦ numbers_taken es ]
taken_more st es i = by (takes_number i) where
  by : (b : Bool) → next_job st es ≤ st.first.job + elim b as (λ z. ℕ) [ true ↦ numbers_taken es + 1 | false ↦ numbers_taken es ]
  by true = omega arith
  by false = omega arith

new_job : (st : Setting) (es : Trace) (at reading : ℕ) (i : Input) (q : Job)
    → Contains (elim (line_in i) as (λ z. List Job) [ None ↦ [] | Some text ↦ record { number = next_job st es; at = at; reading = reading; command = st.read text } ∷ [] ]) q
    → q.number < st.first.job + elim (takes_number i) as (λ z. ℕ) [ true ↦ numbers_taken es + 1 | false ↦ numbers_taken es ]
new_job st es at reading (Line text) q there =
    elim (contains_cases (record { number = next_job st es; at = at; reading = reading; command = st.read text }) [] q there) [
      | inl is ↦ (let n : q.number ≡ st.first.job + numbers_taken es = ap (λ (z : Job). z.number) (sym is) in omega (arith, n))
      | inr none ↦ absurd (contains_none q none)
    ]
new_job st es at reading (Number text) q there = absurd (contains_none q there)
new_job st es at reading (Told n a) q there = absurd (contains_none q there)
new_job st es at reading (Exit p) q there = absurd (contains_none q there)
new_job st es at reading (Spawned p ok) q there = absurd (contains_none q there)
new_job st es at reading Wake q there = absurd (contains_none q there)

-- Each job has a number that was taken.
pub jobs_below : (st : Setting) (es : Trace) (q : Job) → Contains (jobs st es) q → q.number < next_job st es
jobs_below st [] q there = absurd (contains_none q there)
jobs_below st (e ∷ es) q there = by (either_list (jobs st es) (job_in st es (next_job st es) e) q there) (λ old. jobs_below st es q old) where
  by : Contains (jobs st es) q ⊎ Contains (job_in st es (next_job st es) e) q → (Contains (jobs st es) q → q.number < next_job st es) → q.number < next_job st (e ∷ es)
  by (inl old) before = let lt : q.number < next_job st es = before old in let more : next_job st es ≤ next_job st (e ∷ es) = taken_more st es e.input in omega (arith, lt, more)
  by (inr new) before = new_job st es (length es) e.reading e.input q new

pub find_last : (n : ℕ) (js : List Job) (q : Job) → ((k : Job) → Contains js k → (k.number == n) ≡ false) → (q.number == n) ≡ true → find (λ (k : Job). k.number == n) (js ++ q ∷ []) ≡ Some q
find_last n [] q none is = ap (λ b. cond b (Some q) None) is
find_last n (j ∷ js) q none is =
    ap (λ b. cond b (Some j) (find (λ (k : Job). k.number == n) (js ++ q ∷ []))) (none j (contains_first j js)) ∙ find_last n js q (λ k there. none k (contains_more j js k there)) is

next_is : (x : Step) → x.input ≡ Wake → next_job x.setting (seen x) ≡ next_job x.setting x.past
next_is x wake = ap (λ i. x.setting.first.job + elim (takes_number i) as (λ z. ℕ) [ true ↦ numbers_taken x.past + 1 | false ↦ numbers_taken x.past ]) wake

lt_by : (a b c : ℕ) → a < b → c ≡ b → a < c
lt_by a b c lt is = omega (arith, lt, is)

-- The line's command is that of its job.
pub line_command : (x : Step) (text : List ℕ) (c : Command) → x.input ≡ Wake → x.setting.read text ≡ Ok c → command_numbered x.setting (seen (with_input (Line text) x)) (next_job x.setting (seen x)) ≡ Some c
line_command x text c wake reads =
    let j : ℕ = next_job x.setting (seen x) in
    let q : Job = record { number = next_job x.setting x.past; at = length x.past; reading = x.reading; command = x.setting.read text } in
    let found : job_numbered x.setting (seen (with_input (Line text) x)) j ≡ Some q =
    find_last j (jobs x.setting x.past) q (λ k there. less_is_other k.number j (lt_by k.number (next_job x.setting x.past) j (jobs_below x.setting x.past k there) (next_is x wake)))
    (ap (λ n. next_job x.setting x.past == n) (next_is x wake) ∙ number_itself (next_job x.setting x.past))
    in
    ap (λ o. option_and_then command_of o) found ∙ ap (λ r. command_of (record { number = next_job x.setting x.past; at = length x.past; reading = x.reading; command = r })) reads

-- ---- what no release and no conversion begins with

becomes : LeaseNext → Bool
becomes (BecomeShared lver l) = true
becomes Nothing = false
becomes (ReadFor step) = false
becomes (WriteBlock step b) = false
becomes (WriteLeader step l) = false
becomes (AnswerJob r) = false
becomes (GrantJob mode lver) = false
becomes (BecomeExclusive lver b) = false

written_or_none : (o : Option Block) (f : Block → LeaseNext) → ((b : Block) → becomes (f b) ≡ false) → becomes (option_map_or f o Nothing) ≡ false
unfolding becomes
written_or_none None f none = refl
written_or_none (Some b) f none = none b

releases_none : (p : LeasePlace) (k : LeaseKnown) (mode : Mode) (n : ℕ) → becomes (release_next p k mode n) ≡ false
unfolding becomes
releases_none p k Exclusive n = refl
releases_none p k Shared n = written_or_none k.own (λ own. WriteBlock ClearMode (moded_block own false 0)) (λ b. refl)

converts_none : (k : LeaseKnown) (mode : Mode) (name : List ℕ) → becomes (convert_next k mode name) ≡ false
unfolding becomes
converts_none k Shared name = written_or_none k.own (λ own. WriteBlock SetMode (moded_block own true k.self.generation)) (λ b. refl)
converts_none k Exclusive name = refl

refused_none : (aim : Aim) (r : Reply) → becomes (refuses aim r) ≡ false
unfolding becomes
refused_none (Acquires mode) r = refl
refused_none (Converts mode) r = refl
refused_none Releases r = refl
refused_none Settles r = refl

within_none : (p : LeasePlace) (k : LeaseKnown) (aim : Aim) (n : LeaseNext) → becomes n ≡ false → becomes (within_turn p k aim n) ≡ false
within_none p k aim n h = within_cases (λ z. becomes z ≡ false) p k aim n (λ fits. h) (λ paired over writes. refused_none aim (LimitReached TurnLimit))

release_none : (st : Setting) (es : Trace) (s : Session) (at : Spot) (g : Grant) → becomes (next_of_release st es s at g) ≡ false
release_none st es s at g =
    within_none (lease_place st s) (known st es s at) Releases (release_next (lease_place st s) (known st es s at) g.mode g.lver) (releases_none (lease_place st s) (known st es s at) g.mode g.lver)

conversion_none : (st : Setting) (es : Trace) (s : Session) (at : Spot) (mode : Mode) (name : List ℕ) → becomes (next_of_conversion st es s at mode name) ≡ false
conversion_none st es s at mode name =
    within_none (lease_place st s) (known st es s at) (Converts mode) (convert_next (known st es s at) mode name) (converts_none (known st es s at) mode name)

no_becoming : (n : LeaseNext) → becomes n ≡ false → (lver : ℕ) (l : Leader) → n ≡ BecomeShared lver l → ⊥
unfolding becomes
no_becoming n none lver l is = true_is_false (sym (ap (λ z. becomes z) is) ∙ none)

reads_none : (step : LeaseStep) → becomes (ReadFor step) ≡ false
unfolding becomes
reads_none step = refl

-- ---- calls that are no lease's

pub area_works : (y : Step) (s : Session) (at : Spot) → LeaseReady y s at → (p : Purpose) → is_area_work p ≡ true → is_some (lease_step p) ≡ false → (o : ℕ) (op : Op) → in_area y.setting.layout at.base o ≡ true
    → option_and_then delta_of_record (record_of op) ≡ None → MayWork y s at p o op
area_works y s at h p works none o op inside plain =
    record {
      has = h.has;
      works = works;
      aligned = h.aligned;
      on = placed_on y.setting at (made_call y s.number at.path p o op) refl inside;
      clear = h.clear;
      below = h.below;
      no_delta = plain;
      way = λ lease. absurd (true_is_false (sym lease ∙ none));
    }

at_leader : (y : Step) (s : Session) (at : Spot) → LeaseReady y s at → in_area y.setting.layout at.base at.base ≡ true
at_leader y s at h = place_is_on y.setting h.setting at.base leader tt

at_value : (y : Step) (s : Session) (at : Spot) → LeaseReady y s at → in_area y.setting.layout at.base (value_offset y.setting.layout at.base) ≡ true
at_value y s at h = place_is_on y.setting h.setting at.base value tt

-- ---- a release

-- What stood behind an exclusive holding before its line stands after it.
pub ended_still : (x : Step) (text : List ℕ) (s : Session) (at : Spot) (n : ℕ) → x.input ≡ Wake → HasEnded x s at n → HasEnded (with_input (Line text) x) s at n
ended_still x text s at n wake h =
    let same : submitted (seen (with_input (Line text) x)) ≡ submitted (seen x) = quiet_same x (Line text) wake refl in
    subst (λ ms. Contains (ended_ballots x.setting.layout (filter (λ (m : Submitted). is_lease_call m && is_on x.setting.layout at m.call) (filter (is_call_of s) ms)))
    (n, record { id = s.id; generation = generation_in s (filter (is_call_of s) ms) })
    × (open_ballot x.setting.layout (filter (λ (m : Submitted). is_lease_call m && is_on x.setting.layout at m.call) (filter (is_call_of s) ms)) ≡ None)) (sym same) h

pub held_ended : (x : Step) (s : Session) (r : ResourceArg) (g : Grant) → Has x s → HoldingFacts x.setting (seen x) (heard_by x.input) → Contains (holdings_on (seen x) s (spot_of r)) g
    → (spot_of_grant g ≡ spot_of r) × (g.mode ≡ Exclusive → HasEnded x s (spot_of r) g.lver)
held_ended x s r g has held there =
    let placed = kept_inside (λ (k : Grant). same_place k.path k.offset (spot_of r).path (spot_of r).base) (holdings_of (seen x) s) g there in
    let owned = kept_inside (λ (k : Grant). k.session == s.number) (holdings (seen x)) g placed.0 in
    let its : session_numbered x.setting (seen x) g.session ≡ Some s = ap (λ n. session_numbered x.setting (seen x) n) (eqb-true g.session s.number owned.1) ∙ has in
    let spot : spot_of_grant g ≡ spot_of r = spot_same g (spot_of r) placed.1 in (
      spot,
      λ exclusive.
          let stands : StandsExclusive x.setting (seen x) (heard_by x.input) s (spot_of_grant g) g.lver = held.stands g s owned.0 its (ap (λ m. is_shared m) exclusive) in
          subst (λ z. HasEnded x s z g.lver) spot (stands.ballot.won, stands.concluded),
    )

pub ended_ready : (y : Step) (s : Session) (at : Spot) (g : Grant) → LeaseReady y s at → LeaseReady (add_end (end_of g) y) s at
ended_ready y s at g h = record { has = h.has; setting = h.setting; aligned = h.aligned; clear = h.clear; below = h.below }

release_leaves : (z : Step) (s : Session) (at : Spot) (j : ℕ) (g : Grant) → LeaseReady z s at → aim_of z.setting (seen z) (ForJob j) ≡ Some Releases → (g.mode ≡ Exclusive → HasEnded z s at g.lver) → LeasesStand z → (hs : List Grant)
    → LeasesStand (elim hs as (λ w. Step) [ h ∷ rest ↦ add_reply j Done z | [] ↦ carry_lease s at (ForJob j) (next_of_release z.setting (seen z) s at g) z ])
release_leaves z s at j g ready aimed ended k (h ∷ rest) = replies_leave z j Done (inl refl) k
release_leaves z s at j g ready aimed ended k [] =
    let n : LeaseNext = next_of_release z.setting (seen z) s at g in
    next_leaves z s at ready (ForJob j) n (λ lver l is. absurd (no_becoming n (release_none z.setting (seen z) s at g) lver l is))
    (release_fits z s at (ForJob j) g aimed ended) k

-- ---- all decisions

-- Before an answer any reply leaves ways and turns.
abbrev pub Anything : Reply → Type 0
Anything r = Unit {0}

pub by_any : ByPlain Anything (λ x. LeasesStand x × HeardNoJob x)
by_any =
    record {
      ends = λ x e h. (ends_leave x e h.0, h.1);
      signals = λ x p s h. (signals_leave x p s h.0, h.1);
      moves = λ x m h. (moves_leave x m h.0, h.1);
      grants = λ x g h. (grants_leave x g h.0, h.1);
      starts = λ x s h. (starts_leave x s h.0, h.1);
      replies = λ x j r any h. (replies_leave x j r (inr h.1) h.0, h.1);
      late = λ r late. tt;
    }

pub line_none : (x : Step) (text : List ℕ) → HeardNoJob (with_input (Line text) x)
line_none x text n a m told there number = absurd (true_is_false (sym (ap (λ i. answers i) told)))

carried : (x : Step) (text : List ℕ) (c : Command) (d : Decision) → x.input ≡ Wake → x.effects.calls ≡ [] → x.setting.read text ≡ Ok c → DecidedOn x.setting (seen x) c d → IsDecidedFor x.setting (seen x) c d
    → Of (Has (with_input (Line text) x)) d → reply_at_once d ≡ None → Whole x → LeasesStand (with_input (Line text) x)
    → LeasesStand (carry_decision (next_job x.setting (seen x)) c d (with_input (Line text) x))
unfolding carry_decision carry_lease after_end
carried x text c (Replies r) wake bare reads on its has none w k = k
carried x text c (Joins n a) wake bare reads on its has none w k = joins_leave x text n a.path (next_job x.setting (seen x)) _ _ wake bare w.facts.calls its.1 (record { ways = w.facts.ways; turns = w.facts.turns })
carried x text c (Leaves s) wake bare reads on its has none w k =
    (stopped Anything (λ z. LeasesStand z × HeardNoJob z) by_any (λ t. tt) (with_input (Line text) x) s (Some (next_job x.setting (seen x))) (k, line_none x text)).0
carried x text c (ReadsArea s r) wake bare reads on its has none w k =
    next_leaves (with_input (Line text) x) s (spot_of r) (line_ready x text c s r w.setting w.facts.calls wake reads on has) (ForJob (next_job x.setting (seen x))) (ReadFor (ReadArea r.name))
    (λ lver l is. absurd (no_becoming (ReadFor (ReadArea r.name)) (reads_none (ReadArea r.name)) lver l is)) (λ call op. op) k
carried x text c (Shares s lver) wake bare reads on its has none w k = granting IsLate LeasesStand by_late (with_input (Line text) x) s (next_job x.setting (seen x)) c Shared lver k
carried x text c (GivesUp s g) wake bare reads on its has none w k =
    let y : Step = with_input (Line text) x in
    let j : ℕ = next_job x.setting (seen x) in
    let r : ResourceArg = on.0 in
    let in_x : Has x s = sym (ap (λ ss. slice_get ss s.number) (input_sessions x (Line text) bare)) ∙ has in
    let held = held_ended x s r g in_x w.facts.holdings on.3 in
    let ready : LeaseReady y s (spot_of r) = line_ready x text c s r w.setting w.facts.calls wake reads on.1 has in
    let aimed : aim_of x.setting (seen y) (ForJob j) ≡ Some Releases = ap (λ o. option_and_then aim_of_command o) (line_command x text c wake reads) ∙ on.2 in
    subst (λ at. LeasesStand (elim (holdings_on (seen (add_end (end_of g) y)) s at) as (λ v. Step) [
      | h ∷ rest ↦ add_reply j Done (add_end (end_of g) y)
      | [] ↦ carry_lease s at (ForJob j) (next_of_release x.setting (seen (add_end (end_of g) y)) s at g) (add_end (end_of g) y)
    ])) (sym held.0)
    (release_leaves (add_end (end_of g) y) s (spot_of r) j g (ended_ready y s (spot_of r) g ready) aimed (λ exclusive. ended_still x text s (spot_of r) g.lver wake (held.1 exclusive)) (ends_leave y (end_of g) k)
    (holdings_on (seen (add_end (end_of g) y)) s (spot_of r)))
carried x text c (TakesOver s g) wake bare reads on its has none w k =
    granting IsLate LeasesStand by_late (add_end (end_of g) (with_input (Line text) x)) s (next_job x.setting (seen x)) c g.mode g.lver (ends_leave (with_input (Line text) x) (end_of g) k)
carried x text c (ConvertsTo s r mode) wake bare reads on its has none w k =
    let y : Step = with_input (Line text) x in
    let n : LeaseNext = next_of_conversion x.setting (seen y) s (spot_of r) mode r.name in
    next_leaves y s (spot_of r) (line_ready x text c s r w.setting w.facts.calls wake reads on.0 has) (ForJob (next_job x.setting (seen x))) n
    (λ lver l is. absurd (no_becoming n (conversion_none x.setting (seen y) s (spot_of r) mode r.name) lver l is))
    (conversion_fits y s (spot_of r) (ForJob (next_job x.setting (seen x))) mode r.name (ap (λ o. option_and_then aim_of_command o) (line_command x text c wake reads) ∙ on.1)) k
carried x text c (Requests s r) wake bare reads on its has none w k =
    let y : Step = with_input (Line text) x in
    let ready : LeaseReady y s (spot_of r) = line_ready x text c s r w.setting w.facts.calls wake reads on has in
    area_calls_leave y s (spot_of r) (RequestRead (next_job x.setting (seen x))) r.offset _ (area_works y s (spot_of r) ready (RequestRead (next_job x.setting (seen x))) refl refl r.offset _ (at_leader y s (spot_of r) ready) refl) k
carried x text c (SetsValue s at v) wake bare reads on its has none w k =
    let y : Step = with_input (Line text) x in
    let ready : LeaseReady y s at = subst (λ z. LeaseReady y s z) (sym on.2) (line_ready x text c s on.0 w.setting w.facts.calls wake reads on.1 has) in
    area_calls_leave y s at (ValueWrite (next_job x.setting (seen x))) _ _ (area_works y s at ready (ValueWrite (next_job x.setting (seen x))) refl refl _ _ (at_value y s at ready) refl) k
carried x text c (GetsValue s at) wake bare reads on its has none w k =
    let y : Step = with_input (Line text) x in
    let ready : LeaseReady y s at = subst (λ z. LeaseReady y s z) (sym on.2) (line_ready x text c s on.0 w.setting w.facts.calls wake reads on.1 has) in
    area_calls_leave y s at (ValueRead (next_job x.setting (seen x))) _ _ (area_works y s at ready (ValueRead (next_job x.setting (seen x))) refl refl _ _ (at_value y s at ready) refl) k

pub lines_keep : (x : Step) (text : List ℕ) (c : Command) (d : Decision) → x.input ≡ Wake → x.effects.calls ≡ [] → x.setting.read text ≡ Ok c → decided x.setting (seen x) x.reading c ≡ d → reply_at_once d ≡ None → Whole x
    → LeasesStand (carry_decision (next_job x.setting (seen x)) c d (with_input (Line text) x))
lines_keep x text c d wake bare reads is none w =
    carried x text c d wake bare reads (subst (λ z. DecidedOn x.setting (seen x) c z) is (decisions_are_clear x.setting (seen x) x.reading c))
    (subst (λ z. IsDecidedFor x.setting (seen x) c z) is (decisions_are_theirs x.setting (seen x) x.reading c)) (subst (λ z. Of (Has (with_input (Line text) x)) z) is (line_has x text c bare)) none w
    (quiet_inputs_leave x (Line text) wake bare refl (record { ways = w.facts.ways; turns = w.facts.turns }))
