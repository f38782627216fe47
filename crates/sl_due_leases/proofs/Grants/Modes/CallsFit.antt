-- The blocks and values that are written, and the values that are read, keep the laws of modes and values at each act.
use Rattle.sl_due_facts.proofs.Acts.DecisionsAreTheirs.{Of}
use Rattle.sl_due_facts.proofs.Acts.LoopsKeep.{for_each_keeps, when_keeps}
use Rattle.sl_due_facts.proofs.Acts.Pairs.Decisions.{conversion_is, release_is}
use Rattle.sl_due_facts.proofs.Acts.PlainActs.{line_has}
use Rattle.sl_due_facts.specs.Acts.Acts.{Acts, Has, Hears, next_of_conversion, next_of_release, next_of_settling}
use Rattle.sl_area.specs.AreaLayout.{request_offset, value_offset}
use Rattle.sl_area.specs.Roles.{value}
use Rattle.sl_due.specs.DueAnswers.{set_reply}
use Rattle.sl_due.specs.DueCommands.{after_end, answer_line, carry_decision, holding_of}
use Rattle.sl_due.specs.DueRecovery.{begin_recoveries, begin_recovery, begins_now, send, signal_and_refuse}
use Rattle.sl_due.specs.DueInputs.{end_holdings, leave_holdings, started_reply, when_running}
use Rattle.sl_due.specs.CarriedLease.{carry_lease, convert_holding, goes_on, grant_for, next_of_lease}
use Rattle.sl_due.specs.DueRequests.{after_request_read, after_value_read, bits_due, owner_read, request_refusal, value_reply, write_request}
use Rattle.sl_due.specs.Steps.{Step, add_call_of, add_end, add_grant, add_move, add_reply, begin_step, seen, with_input}
use Rattle.sl_due.specs.declared.decision.Decision.{Decision}
use Rattle.sl_due.specs.declared.decision.Decision.TheVariants.{ConvertsTo, GetsValue, GivesUp, Joins, Leaves, ReadsArea, Replies, Requests, SetsValue, Shares, TakesOver}
use Rattle.sl_due_leases.proofs.Grants.DeltasKeep.{free_keeps, renewal_keeps}
use Rattle.sl_due_leases.proofs.Grants.Modes.FitsHolding.{FittingSoFar, bare_fits, by_delta, call_fits, fitting_so_far, leavings_fit, move_fits, others_fit, plain_call, reads_no_value, reads_values, reply_fits, seq_of, signal_fits}
use Rattle.sl_due_leases.proofs.Grants.Modes.LeasesFit.{OfConversion, block_fits, its_mode, leader_fits, led_fits, new_spot, read_fits, right_mode, settled_fits}
use Rattle.sl_due_leases.proofs.Holdings.DecisionsHaveGrounds.{decisions_have_grounds}
use Rattle.sl_due_leases.proofs.Holdings.LeaseBeside.{exclusive_there}
use Rattle.sl_due_leases.proofs.Holdings.LeaseConversions.{converted}
use Rattle.sl_due_leases.proofs.Holdings.LeaseNexts.{next_fits, settling_fits}
use Rattle.sl_due_leases.specs.Holdings.DecisionGrounds.{GetGrounds, HasGrounds, SetGrounds}
use Rattle.sl_due_leases.specs.Holdings.Moments.{Known}
use Rattle.sl_due_leases.specs.Holdings.HoldingLaws.{Begins}
use Rattle.sl_run.specs.LawfulArea.{is_area_work}
use Rattle.sl_run.specs.LawfulValue.{LawfulValueRead, LawfulValueWrite}
use Rattle.sl_due_leases.proofs.Leases.DeltasStay.{delta_by, first_other, others_by_delta}
use Rattle.sl_due_leases.proofs.Leases.LawsAreKept.{laws_are_kept}
use Rattle.sl_due_leases.proofs.Leases.LawsStay.{A_start}
use Rattle.sl_due_leases.proofs.Leases.LeaseCallsStay.{writes_clear}
use Rattle.sl_due_leases.proofs.Leases.NextsStay.{at_work, bare_by, not_true}
use Rattle.sl_due_leases.proofs.Leases.OthersKeep.{Any, Others, by_others, lawful_by, no_others, other_more}
use Rattle.sl_due_leases.proofs.Ways.WayFactsHeld.CallsSame.{reply_leaves}
use Rattle.sl_due_leases.proofs.Ways.WayFactsHeld.DecisionsAreClear.{DecidedOn, decisions_are_clear}
use Rattle.sl_due_leases.proofs.Ways.WayFactsHeld.DeltasFit.{freed_fits, joining_fits, renewed_fits, wake_fits}
use Rattle.sl_due_leases.proofs.Ways.WayFactsHeld.EffectsLeave.{made_call}
use Rattle.sl_due_leases.proofs.Ways.WayFactsHeld.HeardStands.{heard_has, lease_ready, spot_same}
use Rattle.sl_due_leases.proofs.Ways.WayFactsHeld.InputsLeave.{input_sessions, quiet_same}
use Rattle.sl_due_leases.proofs.Ways.WayFactsHeld.LeaseNextsLeave.{IsLate, LeaseReady}
use Rattle.sl_due_leases.proofs.Ways.WayFactsHeld.LinesKeep.{ended_ready, held_ended}
use Rattle.sl_due_leases.proofs.Ways.WayFactsHeld.LinesReady.{line_ready, none_open}
use Rattle.sl_due_leases.proofs.Ways.WayFactsHeld.PlacesStand.{place_is_on}
use Rattle.sl_due_leases.proofs.Ways.WayFactsHeld.PlainWalks.{ByPlain, ended, exited, granting, left, refusal, removal_of_refused, said, sent, stopped}
use Rattle.sl_due_leases.proofs.Ways.WayFactsHeld.UnjoinedHaveNone.{its_joining, joins_still}
use Rattle.sl_due_leases.proofs.Ways.WayStages.{is_at_in}
use Rattle.sl_trace.specs.Ballots.{moded_block}
use Rattle.sl_trace.specs.Jobs.{aim_of, aim_of_command, command_numbered, job_of_start}
use Rattle.sl_trace.specs.Conversions.{convert_next}
use Rattle.sl_trace.specs.LeaseDecisions.{leader_for, lease_place}
use Rattle.sl_trace.specs.Releases.{release_next}
use Rattle.sl_trace.specs.Leases.{Mode_set, block_of_record, exclusive_on, has_shared_on, holdings_on, known, lver_written, open_on, spot_of, spot_of_call, value_of_record}
use Rattle.sl_trace.specs.declared.lease.Aim.{Aim}
use Rattle.sl_trace.specs.declared.lease.Aim.TheVariants.{Converts}
use Rattle.sl_trace.specs.declared.lease.LeaseNext.TheVariants.{Nothing, WriteBlock}
use Rattle.sl_words.proofs.Lists.{contains_none, find_inside, kept_inside}
use Rattle.sl_sector.specs.declared.sector.Block.{Block}
use Rattle.sl_sector.specs.declared.sector.Rec.TheVariants.{DeltaIs, ValueIs}
use Rattle.sl_sector.specs.declared.sector.ValueRec.{ValueRec}
use Rattle.sl_trace.specs.DeltaDecisions.{delta_known, delta_of_session, own_offset}
use Rattle.sl_trace.specs.Sessions.{calls_of, generation_of, holders_of, holdings_of, is_call_of, is_join_call, present_sessions, recovery_of}
use Rattle.sl_trace.specs.declared.reply.Limited.TheVariants.{Turn as TurnLimit}
use Rattle.sl_trace.specs.declared.session.Session.{Session}
use Rattle.sl_due_facts.specs.Facts.HeardCall.{heard_by}
use Rattle.sl_due_facts.specs.Facts.HoldingFacts.{HoldingFacts}
use Rattle.sl_due_facts.specs.Facts.AllFacts.{Whole}
use Rattle.sl_trace.specs.WatchdogConnections.{is_registered}
use Rattle.sl_trace.specs.Traces.{Submitted, Trace, end_of, holdings, is_running, is_shared, new_call, next_job, record_of, same_place, submitted}
use Rattle.sl_trace.specs.declared.command.Command.{Command}
use Rattle.sl_trace.specs.declared.command.Command.TheVariants.{Request}
use Rattle.sl_trace.specs.declared.effects.Grant.{Grant}
use Rattle.sl_trace.specs.declared.effects.JoinStep.TheVariants.{FirstRead}
use Rattle.sl_trace.specs.declared.effects.LeaseStep.{LeaseStep}
use Rattle.sl_trace.specs.declared.effects.LeaseStep.TheVariants.{ClearMode, FreeLeader, ReadArea, SetMode}
use Rattle.sl_trace.specs.declared.effects.Mode.{Mode}
use Rattle.sl_trace.specs.declared.effects.Mode.TheVariants.{Exclusive, Shared}
use Rattle.sl_trace.specs.declared.effects.Move.TheVariants.{Unregister}
use Rattle.sl_trace.specs.declared.effects.Op.{Op}
use Rattle.sl_trace.specs.declared.effects.Op.TheVariants.{ReadSectors, WriteRecord}
use Rattle.sl_trace.specs.declared.effects.Purpose.{Purpose}
use Rattle.sl_trace.specs.declared.effects.Purpose.TheVariants.{Joining, Lease, Leaving, Renewal, RequestRead, RequestWrite, SeeRequest, ValueRead, ValueWrite}
use Rattle.sl_trace.specs.declared.effects.Signal.TheVariants.{Kill, Term}
use Rattle.sl_trace.specs.declared.effects.Spot.{Spot}
use Rattle.sl_trace.specs.declared.effects.Work.{Work}
use Rattle.sl_trace.specs.declared.effects.Work.TheVariants.{ForJob}
use Rattle.sl_trace.specs.declared.input.Answer.{Answer}
use Rattle.sl_trace.specs.declared.input.Answer.TheVariants.{Read}
use Rattle.sl_trace.specs.declared.input.Input.TheVariants.{Answer as Told, Exit, Line, Number, Spawned, Wake}
use Rattle.sl_trace.specs.declared.reply.Reply.{Reply}
use Rattle.sl_trace.specs.declared.reply.Reply.TheVariants.{BadCommand as Misread, Done, Granted, IoFault, IoTimeout, Limit as LimitReached, SpawnFault}
use Rattle.sl_words.proofs.CaseLaws.{false_is_true, none_some, some_value, true_is_false}
use Rattle.sl_words.proofs.WordLaws.{and_true}
use Rattle.sl_words.specs.Words.{same_truth}
use Rattle.std.proofs.Common.{ap, arith, inl, refl, subst, sym, ◌∙◌}
use Rattle.std.proofs.lemmas.Bool.{eqb-true}
use Rattle.std.specs.Option.{option_map_or}
use Rattle.std.specs.Prelude.{Bool, Contains, List, None, Ok, Option, Some, [], false, filter, find, is_some, length, not, option_and_then, slice_get, true, ℕ, ◌%◌, ◌&&◌, ◌+◌, ◌<◌, ◌==◌, ◌∷◌, ◌≡◌, ◌≤◌}

-- ---- a line

trivial_area : (y : Step) (s : Session) (path : List ℕ) (p : Purpose) (o : ℕ) (op : Op) → Has y s → y.effects.calls ≡ [] → is_join_call FirstRead p ≡ false → option_and_then block_of_record (record_of op) ≡ None
    → option_and_then value_of_record (record_of op) ≡ None → ((j : ℕ) → p ≡ ValueRead j → ⊥) → FittingSoFar (add_call_of s.number path p o op y)
trivial_area y s path p o op has bare later no_block no_value_there no_read = plain_call y s path p o op has later no_block no_value_there no_read (bare_fits y bare)

release_fits : (z : Step) (s : Session) (at : Spot) (j : ℕ) (g : Grant) → LeaseReady z s at → z.effects.calls ≡ [] → (hs : List Grant) → holdings_on (seen z) s at ≡ hs
    → FittingSoFar (elim hs as (λ w. Step) [ h ∷ rest ↦ add_reply j Done z | [] ↦ carry_lease s at (ForJob j) (next_of_release z.setting (seen z) s at g) z ])
unfolding carry_lease
release_fits z s at j g ready bare (h ∷ rest) is = bare_fits (add_reply j Done z) bare
release_fits z s at j g ready bare [] is =
    release_is (λ n. FittingSoFar (carry_lease s at (ForJob j) n z)) z.setting (seen z) s at g (λ fits. of_mode g.mode) (λ paired over writes. bare_fits (add_reply j (LimitReached TurnLimit) z) bare) where
      none : has_shared_on (seen z) s at ≡ false
      none = ap (λ hs. is_some (find (λ (k : Grant). is_shared k.mode) hs)) is

      own : (o : Option Block) → FittingSoFar (carry_lease s at (ForJob j) (option_map_or (λ b. WriteBlock ClearMode (moded_block b false 0)) o Nothing) z)
      own None = bare_fits z bare
      own (Some b) =
          block_fits z s at ready (ForJob j) ClearMode (moded_block b false 0)
          (λ c spot is. its_mode z.setting (seen z) s c (moded_block b false 0) (ap (λ p. is_at_in Mode_set p) is) (sym none ∙ ap (λ v. has_shared_on (seen z) s v) (sym spot)) (λ shared. absurd (false_is_true shared))) (bare_fits z bare)

      of_mode : (m : Mode) → FittingSoFar (carry_lease s at (ForJob j) (release_next (lease_place z.setting s) (known z.setting (seen z) s at) m g.lver) z)
      of_mode Exclusive = leader_fits z s at (ForJob j) FreeLeader (leader_for (lease_place z.setting s) (known z.setting (seen z) s at) false g.lver) ready.has (bare_fits z bare)
      of_mode Shared = own (known z.setting (seen z) s at).own

begun_fits : (y : Step) (s : Session) (at : Spot) (j : ℕ) (mode : Mode) (name : List ℕ) → LeaseReady y s at → y.effects.calls ≡ [] → FittingSoFar (carry_lease s at (ForJob j) (convert_next (known y.setting (seen y) s at) mode name) y)
unfolding carry_lease
begun_fits y s at j Exclusive name ready bare = read_fits y s at (ForJob j) (ReadArea name) ready.has (bare_fits y bare)
begun_fits y s at j Shared name ready bare = by (known y.setting (seen y) s at).own where
  by : (o : Option Block) → FittingSoFar (carry_lease s at (ForJob j) (option_map_or (λ own. WriteBlock SetMode (moded_block own true (known y.setting (seen y) s at).self.generation)) o Nothing) y)
  by None = bare_fits y bare
  by (Some own) =
      block_fits y s at ready (ForJob j) SetMode (moded_block own true (known y.setting (seen y) s at).self.generation)
      (λ c spot is. right_mode y.setting (seen y) s at c (moded_block own true (known y.setting (seen y) s at).self.generation) (ForJob j) SetMode spot is (refl, refl)) (bare_fits y bare)

conversion_fits : (y : Step) (s : Session) (at : Spot) (j : ℕ) (mode : Mode) (name : List ℕ) → LeaseReady y s at → y.effects.calls ≡ []
    → FittingSoFar (carry_lease s at (ForJob j) (next_of_conversion y.setting (seen y) s at mode name) y)
unfolding carry_lease
conversion_fits y s at j mode name ready bare =
    conversion_is (λ n. FittingSoFar (carry_lease s at (ForJob j) n y)) y.setting (seen y) s at mode name (λ fits. begun_fits y s at j mode name ready bare)
    (λ paired over writes. bare_fits (add_reply j (LimitReached TurnLimit) y) bare)

-- The holder whom the command names.
pub named_holder : (t : Trace) (s : Session) (at : Spot) (p : ℕ) (serves : Grant → Bool) (g : Grant) → holding_of t s at p serves ≡ Some g
    → Contains (holdings_on t s at) g × Contains (holdings t) g × (g.session ≡ s.number) × (same_place g.path g.offset at.path at.base ≡ true) × (g.process ≡ p) × (serves g ≡ true)
named_holder t s at p serves g is =
    let f = find_inside (λ (k : Grant). k.process == p && serves k) (holdings_on t s at) g is in
    let on = kept_inside (λ (k : Grant). same_place k.path k.offset at.path at.base) (holdings_of t s) g f.0 in
    let of = kept_inside (λ (k : Grant). k.session == s.number) (holdings t) g on.0 in
    let both = and_true (g.process == p) (serves g) f.1 in
    (f.0, of.0, eqb-true g.session s.number of.1, on.1, eqb-true g.process p both.0, both.1)

set_fits : (x : Step) (text : List ℕ) (c : Command) (s : Session) (at : Spot) (v : ValueRec) → x.input ≡ Wake → x.effects.calls ≡ [] → HoldingFacts x.setting (seen x) (heard_by x.input)
    → LeaseReady (with_input (Line text) x) s at → SetGrounds x.setting (seen x) c s at v → FittingSoFar (carry_decision (next_job x.setting (seen x)) c (SetsValue s at v) (with_input (Line text) x))
unfolding carry_decision
set_fits x text c s at v wake bare holds ready g =
    call_fits y s at.path (ValueWrite j) o (WriteRecord (ValueIs v)) ready.has refl
    (record { mode = λ b is. absurd (none_some b is); value = λ k is. subst (λ z. LawfulValueWrite x.setting (seen y) s (spot_of_call x.setting.layout d) z) (some_value v k is) lawful; value_read = λ i is. absurd (unlike i is) })
    (bare_fits y bare) where
      y : Step
      y = with_input (Line text) x

      j : ℕ
      j = next_job x.setting (seen x)

      o : ℕ
      o = value_offset x.setting.layout at.base

      d : Submitted
      d = new_call (length y.past) y.reading (made_call y s.number at.path (ValueWrite j) o (WriteRecord (ValueIs v)))

      unlike : (i : ℕ) → ValueWrite j ≡ ValueRead i → ⊥
      unlike i is = true_is_false (sym (ap (λ p. reads_values p) is))

      spot : spot_of_call x.setting.layout d ≡ at
      spot = new_spot y s at ready (ValueWrite j) o (WriteRecord (ValueIs v)) (place_is_on x.setting ready.setting at.base value tt)

      h : Contains (holdings_on (seen x) s at) g.holding × Contains (holdings (seen x)) g.holding × (g.holding.session ≡ s.number) × (same_place g.holding.path g.holding.offset at.path at.base ≡ true) × (g.holding.process ≡ g.process)
          × (not (is_shared g.holding.mode) ≡ true)
      h = named_holder (seen x) s at g.process (λ k. not (is_shared k.mode)) g.holding g.held

      held : exclusive_on (seen y) s at ≡ Some g.holding
      held = subst (λ z. exclusive_on (seen x) s z ≡ Some g.holding) (spot_same g.holding at h.3) (exclusive_there x s g.holding holds h.1 h.2 (not_true (is_shared g.holding.mode) h.5))

      calls : calls_of (seen y) s ≡ calls_of (seen x) s
      calls = ap (λ ms. filter (is_call_of s) ms) (quiet_same x (Line text) wake refl)

      there : LawfulValueWrite x.setting (seen y) s at v
      there =
          record {
            holding = g.holding;
            held = held;
            version = (
              g.version.0,
              g.version.1,
              g.version.2 ∙ (ap (λ ms. seq_of x.setting at g.holding.lver ms) (sym calls) ∙ ap (λ n. seq_of x.setting at n (calls_of (seen y) s)) (sym g.version.1)),
            );
            alone = writes_clear y s at ready;
          }

      lawful : LawfulValueWrite x.setting (seen y) s (spot_of_call x.setting.layout d) v
      lawful = subst (λ z. LawfulValueWrite x.setting (seen y) s z v) (sym spot) there

one_there : {A : Type 0} (xs : List A) (a : A) → Contains xs a → 1 ≤ length xs
one_there [] a there = absurd (contains_none a there)
one_there (y ∷ xs) a there = omega arith

get_fits : (x : Step) (text : List ℕ) (c : Command) (s : Session) (at : Spot) → x.effects.calls ≡ [] → LeaseReady (with_input (Line text) x) s at → GetGrounds x.setting (seen x) c s at
    → FittingSoFar (carry_decision (next_job x.setting (seen x)) c (GetsValue s at) (with_input (Line text) x))
unfolding carry_decision
get_fits x text c s at bare ready g =
    call_fits y s at.path (ValueRead j) o (ReadSectors 1) ready.has refl
    (record { mode = λ b is. absurd (none_some b is); value = λ k is. absurd (none_some k is); value_read = λ i is. subst (λ z. LawfulValueRead x.setting (seen y) s z d) (sym spot) there }) (bare_fits y bare) where
      y : Step
      y = with_input (Line text) x

      j : ℕ
      j = next_job x.setting (seen x)

      o : ℕ
      o = value_offset x.setting.layout at.base

      d : Submitted
      d = new_call (length y.past) y.reading (made_call y s.number at.path (ValueRead j) o (ReadSectors 1))

      spot : spot_of_call x.setting.layout d ≡ at
      spot = new_spot y s at ready (ValueRead j) o (ReadSectors 1) (place_is_on x.setting ready.setting at.base value tt)

      there : LawfulValueRead x.setting (seen y) s at d
      there = record { held = one_there (holdings_on (seen x) s at) g.holding (named_holder (seen x) s at g.process (λ k. true) g.holding g.held).0; alone = writes_clear y s at ready; whole = (refl, refl) }

lines_fit : (x : Step) (text : List ℕ) (c : Command) (d : Decision) → Known x → x.input ≡ Wake → x.effects.calls ≡ [] → x.setting.read text ≡ Ok c → HasGrounds x.setting (seen x) c d → DecidedOn x.setting (seen x) c d
    → Of (Has (with_input (Line text) x)) d → FittingSoFar (carry_decision (next_job x.setting (seen x)) c d (with_input (Line text) x))
unfolding carry_decision after_end
lines_fit x text c (Replies r) k wake bare reads grounds on has = bare_fits (with_input (Line text) x) bare
lines_fit x text c (Joins n a) k wake bare reads grounds on has =
    others_fit (add_call_of n a.path (Joining (next_job x.setting (seen x)) FirstRead) _ (ReadSectors 1) (with_input (Line text) x))
    (other_more (with_input (Line text) x) n a.path (Joining (next_job x.setting (seen x)) FirstRead) _ (ReadSectors 1) (first_other (next_job x.setting (seen x))) (no_others (with_input (Line text) x) bare))
lines_fit x text c (Leaves s) k wake bare reads grounds on has =
    others_fit (signal_and_refuse s (Some (next_job x.setting (seen x))) (with_input (Line text) x))
    (stopped Any Others by_others (λ t. tt) (with_input (Line text) x) s (Some (next_job x.setting (seen x))) (no_others (with_input (Line text) x) bare))
lines_fit x text c (ReadsArea s r) k wake bare reads grounds on has =
    read_fits (with_input (Line text) x) s (spot_of r) (ForJob (next_job x.setting (seen x))) (ReadArea r.name) has (bare_fits (with_input (Line text) x) bare)
lines_fit x text c (Shares s lver) k wake bare reads grounds on has =
    let y : Step = with_input (Line text) x in
    others_fit (grant_for s (next_job x.setting (seen x)) c Shared lver y) (granting Any Others by_others y s (next_job x.setting (seen x)) c Shared lver (no_others y bare))
lines_fit x text c (GivesUp s g) k wake bare reads grounds on has =
    let y : Step = with_input (Line text) x in
    let j : ℕ = next_job x.setting (seen x) in
    let in_x : Has x s = sym (ap (λ ss. slice_get ss s.number) (input_sessions x (Line text) bare)) ∙ has in
    let held = held_ended x s on.0 g in_x k.0.facts.holdings on.3 in
    subst (λ at. FittingSoFar (elim (holdings_on (seen (add_end (end_of g) y)) s at) as (λ v. Step) [
      | h ∷ rest ↦ add_reply j Done (add_end (end_of g) y)
      | [] ↦ carry_lease s at (ForJob j) (next_of_release x.setting (seen (add_end (end_of g) y)) s at g) (add_end (end_of g) y)
    ])) (sym held.0)
    (release_fits (add_end (end_of g) y) s (spot_of on.0) j g (ended_ready y s (spot_of on.0) g (line_ready x text c s on.0 k.0.setting k.0.facts.calls wake reads on.1 has)) bare (holdings_on (seen (add_end (end_of g) y)) s (spot_of on.0)) refl)
lines_fit x text c (TakesOver s g) k wake bare reads grounds on has =
    let y : Step = add_end (end_of g) (with_input (Line text) x) in
    others_fit (grant_for s (next_job x.setting (seen x)) c g.mode g.lver y) (granting Any Others by_others y s (next_job x.setting (seen x)) c g.mode g.lver (no_others y bare))
lines_fit x text c (ConvertsTo s r mode) k wake bare reads grounds on has =
    conversion_fits (with_input (Line text) x) s (spot_of r) (next_job x.setting (seen x)) mode r.name (line_ready x text c s r k.0.setting k.0.facts.calls wake reads on.0 has) bare
lines_fit x text c (Requests s r) k wake bare reads grounds on has =
    trivial_area (with_input (Line text) x) s r.path (RequestRead (next_job x.setting (seen x))) r.offset (ReadSectors 2) has bare refl refl refl (λ j is. true_is_false (sym (ap (λ p. reads_values p) is)))
lines_fit x text c (SetsValue s at v) k wake bare reads grounds on has =
    set_fits x text c s at v wake bare k.0.facts.holdings (subst (λ z. LeaseReady (with_input (Line text) x) s z) (sym on.2) (line_ready x text c s on.0 k.0.setting k.0.facts.calls wake reads on.1 has)) grounds
lines_fit x text c (GetsValue s at) k wake bare reads grounds on has =
    get_fits x text c s at bare (subst (λ z. LeaseReady (with_input (Line text) x) s z) (sym on.2) (line_ready x text c s on.0 k.0.setting k.0.facts.calls wake reads on.1 has)) grounds

-- ---- all acts

requests_fit : (x : Step) (s : Session) (j : ℕ) (bytes : List ℕ) (c : Command) → Has x s → x.effects.calls ≡ [] → FittingSoFar (after_request_read s j bytes c x)
unfolding after_request_read
requests_fit x s j bytes (Request r asked force) has bare = by (request_refusal x.setting.layout s.lockspace r asked force bytes) where
  by : (o : Option Reply) → FittingSoFar (elim o as (λ z. Step) [ Some why ↦ add_reply j why x | None ↦ write_request s j (owner_read x.setting.layout bytes) r asked force x ])
  by (Some why) = bare_fits (add_reply j why x) bare
  by None =
      trivial_area x s r.path (RequestWrite j (owner_read x.setting.layout bytes)) (request_offset x.setting.layout r.offset) _ has bare refl refl refl (λ i is. true_is_false (sym (ap (λ p. reads_values p) is)))
requests_fit x s j bytes c has bare = bare_fits x bare

failed_fits : (x : Step) (p : ℕ) → x.input ≡ Spawned p false → Known x → FittingSoFar (when_running (job_of_start (seen x) p) SpawnFault (end_holdings p x))
failed_fits x p input k =
    let u : Step = when_running (job_of_start (seen x) p) SpawnFault (end_holdings p x) in
    let same : u.effects.calls ≡ x.effects.calls =
    said Any (λ z. z.effects.calls ≡ x.effects.calls) (calls_stay_so x) (end_holdings p x) (job_of_start (seen x) p) SpawnFault refl (ended Any (λ z. z.effects.calls ≡ x.effects.calls) (calls_stay_so x) x p refl)
    in
    leavings_fit u (lawful_by u (laws_are_kept.fails_to_start x p input k.0)) (λ c there. k.1.starting p false c input (subst (λ cs. Contains cs c) same there))
  where
    calls_stay_so : (x : Step) → ByPlain Any (λ z. z.effects.calls ≡ x.effects.calls)
    calls_stay_so x = record { ends = λ z e h. h; signals = λ z p s h. h; moves = λ z m h. h; grants = λ z g h. h; starts = λ z s h. h; replies = λ z j r may h. h; late = λ r late. tt }

answered_fits : (x : Step) (s : Session) (work : Work) (step : LeaseStep) (m : Submitted) (a : Answer) (aim : Aim) → (h : Hears x s m a) → m.call.purpose ≡ Lease work step → goes_on x.setting (seen x) s work ≡ true
    → aim_of x.setting (seen x) work ≡ Some aim → Known x
    → FittingSoFar (carry_lease s (spot_of_call x.setting.layout m) work (next_of_lease x.setting (seen x) s (spot_of_call x.setting.layout m) aim m step a) x)
answered_fits x s work step m a aim h is on aimed k =
    led_fits x s at work aim (lver_written m) step a ready h.bare h.ungranted aimed
    (λ j job converts. beside j (is ∙ ap (λ w. Lease w step) job) (subst (λ w. goes_on x.setting (seen x) s w ≡ true) job on) (ap (λ w. aim_of x.setting (seen x) w) (sym job) ∙ (aimed ∙ ap (λ z. Some z) converts)))
    (λ j g lver. after j g lver) (next_of_lease x.setting (seen x) s at aim m step a) (next_fits (lease_place x.setting s) (known x.setting (seen x) s at) aim m.call.number (lver_written m) step a) where
      at : Spot
      at = spot_of_call x.setting.layout m

      ready : LeaseReady x s at
      ready = lease_ready x s m a h (ap (λ p. is_area_work p) is) k.0

      beside : (j : ℕ) → m.call.purpose ≡ Lease (ForJob j) step → is_running (seen x) j ≡ true → option_and_then aim_of_command (command_numbered x.setting (seen x) j) ≡ Some (Converts Exclusive) → OfConversion x s at j
      beside j its runs for c command e there same =
          let b = k.0.facts.works.beside m j step c (Converts Exclusive) e (at_work x s m a h j step its runs c command k.0) (ap (λ o. option_and_then aim_of_command o) (sym command) ∙ for) there same in
          (b.0, other_truth (is_shared e.mode) b.1)
        where
          other_truth : (b : Bool) → same_truth b false ≡ false → b ≡ true
          other_truth true is = refl
          other_truth false is = absurd (true_is_false is)

      after : (j : ℕ) (g : Grant) (lver : ℕ) → LeaseReady (convert_holding j Exclusive lver g x) s at
      after j g lver =
          let same : submitted (seen (convert_holding j Exclusive lver g x)) ≡ submitted (seen x) = reply_leaves (add_grant (converted g Exclusive lver) (add_end (end_of g) x)) j (Granted lver) (inl refl) in
          record {
            has = ready.has;
            setting = ready.setting;
            aligned = ready.aligned;
            clear = λ d there none work spot. ready.clear d (subst (λ ms. Contains ms d) same there) none work spot;
            below = λ d there. subst (λ n. d.call.number < n) (sym (ap (λ ms. x.setting.first.call + length ms) same)) (ready.below d (subst (λ ms. Contains ms d) same there));
          }

-- A settling's lease on a wake.
waked_ready : (x : Step) (s : Session) (at : Spot) → Has x s → at.base % x.setting.layout.area ≡ 0 → open_on x.setting (seen x) at ≡ [] → Whole x → LeaseReady x s at
waked_ready x s at has aligned none w =
    record { has = has; setting = w.setting; aligned = aligned; clear = λ m there unanswered_yet work spot. none_open x.setting w.setting (seen x) at none m there unanswered_yet spot; below = w.facts.calls.below }

pub calls_fit : Acts Known FittingSoFar
unfolding after_value_read
calls_fit =
    record {
      kills = λ x s has due k. for_each_keeps FittingSoFar (holders_of (seen x) s) (λ q. send q Kill) x (λ q there z h. signal_fits z q Kill h) (fitting_so_far x k);
      times_out = λ x j m wake bare runs waits late k. others_fit _ (refusal Any Others by_others x j (IoTimeout m.call.number m.reading x.reading) tt (no_others x bare));
      hears = λ x number answer wake bare expected k. bare_fits (with_input (Told number answer) x) bare;
      counts = λ x text wake bare k. bare_fits (with_input (Number text) x) bare;
      exits = λ x p wake bare one k.
          others_fit _ (exited Any Others by_others (leave_holdings p (with_input (Exit p) x)) p (left Any Others by_others (with_input (Exit p) x) p (no_others (with_input (Exit p) x) bare)));
      exits_as_none = λ x p wake bare none k. bare_fits (with_input (Exit p) x) bare;
      starts = λ x p ok wake bare expected k. bare_fits (with_input (Spawned p ok) x) bare;
      fails_to_start = λ x p input k. failed_fits x p input k;
      signals_instead = λ x p q input stood k. signal_fits x q Term (fitting_so_far x k);
      says_started = λ x p j input is runs k. reply_fits x j (started_reply (seen x) p) (A_start p true input) (fitting_so_far x k);
      misreads = λ x text column wake bare says k. bare_fits (answer_line text (next_job x.setting (seen x)) (Misread column) x) bare;
      answers = λ x text c r wake bare says is k. bare_fits (answer_line text (next_job x.setting (seen x)) r x) bare;
      carries = λ x text c d wake bare says is more k.
          lines_fit x text c d k wake bare says (subst (λ z. HasGrounds x.setting (seen x) c z) is (decisions_have_grounds x.setting (seen x) x.reading c))
          (subst (λ z. DecidedOn x.setting (seen x) c z) is (decisions_are_clear x.setting (seen x) x.reading c)) (subst (λ z. Of (Has (with_input (Line text) x)) z) is (line_has x text c bare));
      joins_on = λ x s j step m answer hears is runs k.
          others_fit _
          (delta_by Others s (others_by_delta s) x (heard_has x s m answer hears) _
          (joining_fits IsLate x s (joins_still x s j k.0 (heard_has x s m answer hears) (its_joining x s j step m answer k.0 hears is) runs) (delta_of_session x.setting s) (generation_of (seen x) s) (calls_of (seen x) s) x.reading m step answer)
          (no_others x hears.bare));
      ends_joining = λ x s j step m answer hears is stops k. others_fit _ (removal_of_refused Any Others by_others x s (no_others x hears.bare));
      renewed = λ x s m answer hears is k.
          others_fit _ (delta_by Others s (others_by_delta s) x (heard_has x s m answer hears) _ (renewed_fits IsLate x s (is_some (recovery_of x.setting (seen x) s)) m.reading answer) (no_others x hears.bare));
      freed = λ x s j m answer hears is k.
          others_fit _ (delta_by Others s (others_by_delta s) x (heard_has x s m answer hears) _ (freed_fits IsLate x s (λ r late. late) j m.call.number answer) (no_others x hears.bare));
      shown = λ x s m bytes hears is joined begins k. others_fit _ (stopped Any Others by_others (λ t. tt) x s None (no_others x hears.bare));
      sees = λ x s number bytes at g has input held k.
          plain_call x s g.path SeeRequest (request_offset x.setting.layout g.offset) (ReadSectors 1) has refl refl refl (reads_no_value SeeRequest refl) (fitting_so_far x k);
      leads_on = λ x s work step m answer aim hears is on at k. answered_fits x s work step m answer aim hears is on at k;
      fails = λ x s m j hears lone runs k. bare_fits (add_reply j (IoFault m.call.number) x) hears.bare;
      has_asked = λ x s m j owner hears is runs k. bare_fits (add_reply j Done x) hears.bare;
      has_set = λ x s m j hears is runs k. bare_fits (add_reply j (set_reply m) x) hears.bare;
      asks = λ x s m j bytes c hears is runs at k. requests_fit x s j bytes c (heard_has x s m (Read bytes) hears) hears.bare;
      tells = λ x s m j bytes hears is runs k. bare_fits (add_reply j (value_reply x.setting.layout bytes) x) hears.bare;
      warns = λ x s m bytes g signal hears is held own says k. others_fit _ (sent Any Others by_others x g.process signal (no_others x hears.bare));
      joins_in_time = λ x s j has wake is runs k.
          (delta_by (λ z. FittingSoFar z × (z.input ≡ Wake)) s (by_delta s) x has _ (wake_fits IsLate x s (joins_still x s j k.0 has is runs) (delta_of_session x.setting s) x.reading (calls_of (seen x) s)) (fitting_so_far x k, wake)).0;
      renews = λ x s has wake joined k.
          renewal_keeps FittingSoFar x s (delta_of_session x.setting s) x.reading (delta_known x.setting (seen x) s) (bits_due x.setting (calls_of (seen x) s) x.reading)
          (λ d. plain_call x s s.path Renewal (own_offset x.setting s) (WriteRecord (DeltaIs d)) has refl refl refl (reads_no_value Renewal refl) (fitting_so_far x k)) (fitting_so_far x k);
      settles = λ x s at has wake active aligned none k.
          settled_fits x s at (waked_ready x s at has aligned none k.0) (next_of_settling x.setting (seen x) s at) (settling_fits (lease_place x.setting s) (known x.setting (seen x) s at)) (fitting_so_far x k);
      parts = λ x s has joined recovers free quiet k.
          when_keeps FittingSoFar (is_registered x.setting (seen x) s.lockspace) (add_move (Unregister s.lockspace)) x (λ is h. move_fits x (Unregister s.lockspace) h) (fitting_so_far x k);
      frees = λ x s has joined well free quiet k.
          free_keeps FittingSoFar x s (λ j d. plain_call x s s.path (Leaving j) (own_offset x.setting s) (WriteRecord (DeltaIs d)) has refl refl refl (reads_no_value (Leaving j) refl) (fitting_so_far x k)) (fitting_so_far x k);
    }

pub calls_begin : Begins FittingSoFar
unfolding begin_recoveries begin_recovery
calls_begin st past e follows whole =
    bare_fits (begin_recoveries (begin_step st past e.reading))
    (for_each_keeps (λ z. z.effects.calls ≡ []) (present_sessions st (seen (begin_step st past e.reading))) begin_recovery (begin_step st past e.reading)
    (λ s there y h. when_keeps (λ z. z.effects.calls ≡ []) (begins_now (seen y) (recovery_of y.setting (seen y) s)) (signal_and_refuse s None) y (λ begins k. stopped Any (λ z. z.effects.calls ≡ []) bare_by (λ t. tt) y s None k) h) refl)
