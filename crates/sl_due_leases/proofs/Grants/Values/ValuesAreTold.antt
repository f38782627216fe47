-- What is told of values is lawful: it was read or written in the answer that is heard.
use Rattle.sl_due_facts.proofs.Acts.ActsTogether.{both}
use Rattle.sl_due_facts.proofs.Acts.LoopsKeep.{for_each_keeps, when_keeps}
use Rattle.sl_due_facts.specs.Acts.Acts.{Acts, Has, Hears, lone_job, next_of_settling}
use Rattle.sl_due_facts.specs.Acts.TraceSoFar.{entry_of}
use Rattle.sl_area.specs.AreaSizes.{record_in}
use Rattle.sl_area.specs.AreaLayout.{request_offset}
use Rattle.sl_due.specs.DueAnswers.{set_reply}
use Rattle.sl_due.specs.DueCommands.{carry_decision, decided}
use Rattle.sl_due.specs.CarriedDelta.{carry_delta}
use Rattle.sl_due.specs.DueRecovery.{begin_recoveries, begin_recovery, begins_now, send, signal_and_refuse}
use Rattle.sl_due.specs.DueTimeOuts.{refuse, remove_connection, remove_of_refused}
use Rattle.sl_due.specs.DueInputs.{end_holdings, leave_holdings, refuse_jobs_of, started_reply, when_running}
use Rattle.sl_due.specs.CarriedLease.{carry_lease, next_of_lease}
use Rattle.sl_due.specs.DueRequests.{after_request_read, after_value_read, bits_due, value_reply}
use Rattle.sl_due.specs.Steps.{Step, add_call_of, add_move, add_reply, add_signal, begin_step, seen, when, with_input}
use Rattle.sl_due.specs.declared.decision.Decision.TheVariants.{Joins, Replies}
use Rattle.sl_due_leases.proofs.Grants.ActiveGrants.{parted_active, told_active}
use Rattle.sl_due_facts.proofs.Jobs.LessIsKept.{to_less}
use Rattle.sl_due_leases.proofs.Grants.DeltasKeep.{free_keeps, renewal_keeps}
use Rattle.sl_due_leases.proofs.Grants.EndsAreLawful.{last_or}
use Rattle.sl_due_leases.proofs.Grants.Modes.FitsHolding.{FittingSoFar}
use Rattle.sl_due_leases.proofs.Grants.Modes.CallsFit.{calls_begin, calls_fit}
use Rattle.sl_due_leases.proofs.Grants.Values.DecisionsTellNothing.{IsUntold, decisions_tell_nothing}
use Rattle.sl_due_leases.proofs.Grants.Values.NothingIsTold.{AnyCall, AnyMove, AnyStart, May, NoneTold, TellingSoFar, allows, decision_allowed, delta_allowed, freed_allowed, heard_untold, is_values, lease_allowed, other_untold, renewal_allowed, request_allowed, telling_so_far, untold_lawful, woken_untold}
use Rattle.sl_due_leases.proofs.Grants.Values.ReadsBack.{calm_call, writes_are}
use Rattle.sl_due_leases.specs.Grants.ValueLaws.{ValuesAreLawful, ValuesBegin, ValuesSoFar}
use Rattle.sl_due_leases.proofs.Holdings.HoldingFactsAreKept.{plainly_late}
use Rattle.sl_due_leases.proofs.Holdings.HoldingsByCalls.{call_added}
use Rattle.sl_due_leases.proofs.Holdings.HoldingsByEffects.{SameCalls, later_same}
use Rattle.sl_due_leases.proofs.Holdings.LeaseCallers.{heard_answered, heard_call, heard_opens, mine_heard}
use Rattle.sl_due_leases.specs.Holdings.Moments.{Known}
use Rattle.sl_due_leases.specs.Holdings.HoldingLaws.{Begins}
use Rattle.sl_due_facts.proofs.Jobs.CallsStay.{is_special}
use Rattle.sl_due_facts.proofs.Jobs.EffectsAreAllowed.{DeltaAllowed, decision, delta, ended, exited, lease, left, refusal, removal_of_refused, requested, said, sent, stopped}
use Rattle.sl_due_facts.proofs.Jobs.RepliesComeAfter.{IsApartFrom, IsApartLease, joining_apart, lease_within, second_off, set_late, settle_within, tells_value, value_late, wake_apart}
use Rattle.sl_run.specs.LawfulArea.{is_area_work}
use Rattle.sl_run.specs.LawfulValue.{LawfulSetReply, LawfulValueReply}
use Rattle.sl_due_leases.proofs.Leases.WorkIsActive.{work_is_active}
use Rattle.sl_due_leases.proofs.Ways.WayFactsHeld.EffectsLeave.{there_has}
use Rattle.sl_trace.specs.Jobs.{job_of_start}
use Rattle.sl_trace.specs.LeaseDecisions.{lease_place}
use Rattle.sl_trace.specs.Leases.{is_on, known, lver_written, spot_of_call, value_written}
use Rattle.sl_trace.specs.declared.effects.LeaseStep.{LeaseStep}
use Rattle.sl_trace.specs.declared.lease.LeaseNext.{LeaseNext}
use Rattle.sl_trace.specs.declared.lease.LeaseNext.TheVariants.{AnswerJob}
use Rattle.sl_due_facts.proofs.AddedEffects.CallsGrow.{mine_more, others_stay, same_sessions}
use Rattle.sl_words.proofs.Lists.{contains_more, contains_none}
use Rattle.sl_sector.specs.SectorLayouts.{value_in}
use Rattle.sl_sector.specs.declared.sector.Rec.TheVariants.{DeltaIs}
use Rattle.sl_sector.specs.declared.sector.ValueRec.{ValueRec}
use Rattle.sl_trace.specs.DeltaDecisions.{delta_known, delta_of_session, next_after_free, next_after_renewal, next_in_joining, next_on_wake, own_offset}
use Rattle.sl_trace.specs.Sessions.{calls_of, generation_of, holders_of, is_active, is_call_of, is_join_call, is_joined, present_sessions, recovery_of}
use Rattle.sl_trace.specs.declared.delta.DeltaNext.{DeltaNext}
use Rattle.sl_trace.specs.declared.session.Session.{Session}
use Rattle.sl_due_facts.specs.Facts.HeardCall.{heard_by}
use Rattle.sl_due_facts.specs.Facts.ValueFacts.{IsReading}
use Rattle.sl_trace.specs.WatchdogConnections.{is_registered}
use Rattle.sl_trace.specs.Traces.{Setting, Submitted, Trace, is_running, is_write, job_of, new_call, next_job}
use Rattle.sl_trace.specs.declared.command.Command.{Command}
use Rattle.sl_trace.specs.declared.command.LockspaceArg.{LockspaceArg}
use Rattle.sl_trace.specs.declared.effects.Call.{Call}
use Rattle.sl_trace.specs.declared.effects.JobReply.{JobReply}
use Rattle.sl_trace.specs.declared.effects.JoinStep.TheVariants.{FirstRead}
use Rattle.sl_trace.specs.declared.effects.Move.TheVariants.{Unregister}
use Rattle.sl_trace.specs.declared.effects.Op.{Op}
use Rattle.sl_trace.specs.declared.effects.Op.TheVariants.{ReadSectors, WriteRecord}
use Rattle.sl_trace.specs.declared.effects.Purpose.{Purpose}
use Rattle.sl_trace.specs.declared.effects.Purpose.TheVariants.{Leaving, SeeRequest, ValueRead, ValueWrite}
use Rattle.sl_trace.specs.declared.effects.Signal.{Signal}
use Rattle.sl_trace.specs.declared.effects.Signal.TheVariants.{Kill, Term}
use Rattle.sl_trace.specs.declared.effects.Spot.{Spot}
use Rattle.sl_trace.specs.declared.effects.Work.TheVariants.{Settling}
use Rattle.sl_trace.specs.declared.input.Answer.TheVariants.{Failed, Read, Written}
use Rattle.sl_trace.specs.declared.input.Input.TheVariants.{Answer as Told, Exit, Line, Number, Spawned}
use Rattle.sl_trace.specs.declared.reply.Reply.{Reply}
use Rattle.sl_trace.specs.declared.reply.Reply.TheVariants.{BadCommand as Misread, Done, IoFault, IoTimeout, SpawnFault, Value, ValueSet, ValueTorn}
use Rattle.sl_words.proofs.CaseLaws.{false_is_true, some_value, true_is_false}
use Rattle.std.proofs.Common.{ap, inl, inr, refl, subst, sym, ◌∙◌}
use Rattle.std.specs.Option.{option_map_or}
use Rattle.std.specs.Prelude.{Bool, Contains, List, None, Option, Some, [], false, filter, is_some, length, slice_get, true, ℕ, ◌&&◌, ◌==◌, ◌≡◌, ◌⊎◌}

-- ---- what later effects leave

signal_told : (x : Step) (q : ℕ) (g : Signal) → TellingSoFar x → TellingSoFar (add_signal q g x)
signal_told x q g h =
    record {
      replies = λ a lver seq bytes there is.
          let v = h.replies a lver seq bytes there is in
          record { session = v.session; call = v.call; sector = v.sector; value = v.value; of_session = v.of_session; known = v.known; told = v.told; active = v.active; held = v.held; calm = v.calm };
      sets = λ a lver seq there is. (let v = h.sets a lver seq there is in record { session = v.session; call = v.call; value = v.value; of_session = v.of_session; told = v.told });
    }

-- A call that is no work on an area.
call_told : (x : Step) (s : Session) (path : List ℕ) (p : Purpose) (o : ℕ) (op : Op) → is_join_call FirstRead p ≡ false → is_area_work p ≡ false → TellingSoFar x → TellingSoFar (add_call_of s.number path p o op x)
call_told x s path p o op later plain h =
    record {
      replies = λ a lver seq bytes there is.
          let v = h.replies a lver seq bytes there is in
          record {
            session = v.session;
            call = v.call;
            sector = v.sector;
            value = v.value;
            of_session = (more v.session v.call v.of_session.0, v.of_session.1);
            known = ap (λ ss. slice_get ss v.call.call.session) (same_sessions x.setting (entry_of x) x.past c later) ∙ v.known;
            told = v.told;
            active = v.active;
            held = v.held;
            calm = calm_call x.setting v.session (spot_of_call x.setting.layout v.call) v.call.at x s.number path p o op
                (λ mine. ap (λ b. b && (is_write op && is_on x.setting.layout (spot_of_call x.setting.layout v.call) c)) plain) v.calm;
          };
      sets = λ a lver seq there is.
          (let v = h.sets a lver seq there is in record { session = v.session; call = v.call; value = v.value; of_session = (more v.session v.call v.of_session.0, v.of_session.1); told = v.told });
    }
  where
    c : Call
    c = call_added s.number path p o op x

    more : (z : Session) (m : Submitted) → Contains (calls_of (seen x) z) m → Contains (calls_of (seen (add_call_of s.number path p o op x)) z) m
    more z m there = by (s.number == z.number) refl where
      by : (b : Bool) → (s.number == z.number) ≡ b → Contains (calls_of (seen (add_call_of s.number path p o op x)) z) m
      by true mine = subst (λ ms. Contains ms m) (sym (mine_more (entry_of x) x.past c z mine)) (contains_more (new_call (length x.past) x.reading c) (calls_of (seen x) z) m there)
      by false other = subst (λ ms. Contains ms m) (sym (others_stay (entry_of x) x.past c z other)) there

part_told : (x : Step) (s : Session) → Has x s → is_joined (seen x) s ≡ true → is_some (recovery_of x.setting (seen x) s) ≡ true → Known x → TellingSoFar (remove_connection s.lockspace x)
part_told x s has joined recovers k = by (is_registered x.setting (seen x) s.lockspace) where
  h : TellingSoFar x
  h = telling_so_far x k

  by : (b : Bool) → TellingSoFar (when b (add_move (Unregister s.lockspace)) x)
  by false = h
  by true = record {
    replies = λ a lver seq bytes there is.
        let v = h.replies a lver seq bytes there is in
        record {
          session = v.session;
          call = v.call;
          sector = v.sector;
          value = v.value;
          of_session = v.of_session;
          known = v.known;
          told = v.told;
          active = parted_active x s has joined recovers k v.session (there_has x.setting (seen x) v.call.call.session v.session v.known) v.active;
          held = v.held;
          calm = v.calm;
        };
    sets = λ a lver seq there is. (let v = h.sets a lver seq there is in record { session = v.session; call = v.call; value = v.value; of_session = v.of_session; told = v.told });
  }

-- ---- what is told

last_told : (x : Step) (j : ℕ) (r : Reply) → NoneTold x → ((lver seq : ℕ) (bytes : List ℕ) → r ≡ Value lver seq bytes → LawfulValueReply x.setting x.past (entry_of (add_reply j r x)) j lver seq bytes)
    → ((lver seq : ℕ) → r ≡ ValueSet lver seq → LawfulSetReply x.past (entry_of (add_reply j r x)) j lver seq) → TellingSoFar (add_reply j r x)
last_told x j r none value set =
    record {
      replies = λ a lver seq bytes there is. by_value a lver seq bytes is (last_or x.effects.replies (record { job = j; reply = r }) a there);
      sets = λ a lver seq there is. by_set a lver seq is (last_or x.effects.replies (record { job = j; reply = r }) a there);
    }
  where
    by_value : (a : JobReply) (lver seq : ℕ) (bytes : List ℕ) → a.reply ≡ Value lver seq bytes → Contains x.effects.replies a ⊎ (record { job = j; reply = r } ≡ a) → LawfulValueReply x.setting x.past (entry_of (add_reply j r x)) a.job lver seq bytes
    by_value a lver seq bytes is (inl old) = absurd (true_is_false (sym (ap (λ q. tells_value q) is) ∙ none a old))
    by_value a lver seq bytes is (inr new) =
        subst (λ (b : JobReply). LawfulValueReply x.setting x.past (entry_of (add_reply j r x)) b.job lver seq bytes) new (value lver seq bytes (ap (λ (b : JobReply). b.reply) new ∙ is))

    by_set : (a : JobReply) (lver seq : ℕ) → a.reply ≡ ValueSet lver seq → Contains x.effects.replies a ⊎ (record { job = j; reply = r } ≡ a) → LawfulSetReply x.past (entry_of (add_reply j r x)) a.job lver seq
    by_set a lver seq is (inl old) = absurd (true_is_false (sym (ap (λ q. tells_value q) is) ∙ none a old))
    by_set a lver seq is (inr new) = subst (λ (b : JobReply). LawfulSetReply x.past (entry_of (add_reply j r x)) b.job lver seq) new (set lver seq (ap (λ (b : JobReply). b.reply) new ∙ is))

abbrev lver_told : Reply → ℕ
lver_told (Value lver seq bytes) = lver
lver_told (ValueSet lver seq) = lver
lver_told r = 0

abbrev seq_told : Reply → ℕ
seq_told (Value lver seq bytes) = seq
seq_told (ValueSet lver seq) = seq
seq_told r = 0

abbrev bytes_told : Reply → List ℕ
bytes_told (Value lver seq bytes) = bytes
bytes_told r = []

abbrev is_set : Reply → Bool
is_set (ValueSet lver seq) = true
is_set r = false

-- What a read told.
read_told : (o : Option ValueRec) (lver seq : ℕ) (bytes : List ℕ) → elim o as (λ z. Reply) [ None ↦ ValueTorn | Some v ↦ Value v.lver v.seq v.bytes ] ≡ Value lver seq bytes
    → (v : ValueRec) × (o ≡ Some v) × (v.lver ≡ lver) × (v.seq ≡ seq) × (v.bytes ≡ bytes)
read_told None lver seq bytes is = absurd (false_is_true (ap (λ r. tells_value r) is))
read_told (Some v) lver seq bytes is = (v, refl, ap (λ r. lver_told r) is, ap (λ r. seq_told r) is, ap (λ r. bytes_told r) is)

never_set : (o : Option ValueRec) (lver seq : ℕ) → elim o as (λ z. Reply) [ None ↦ ValueTorn | Some v ↦ Value v.lver v.seq v.bytes ] ≡ ValueSet lver seq → ⊥
never_set None lver seq is = false_is_true (ap (λ r. is_set r) is)
never_set (Some v) lver seq is = false_is_true (ap (λ r. is_set r) is)

value_told : (x : Step) (s : Session) (m : Submitted) (j : ℕ) (bytes : List ℕ) → (h : Hears x s m (Read bytes)) → m.call.purpose ≡ ValueRead j → is_running (seen x) j ≡ true → Known x → TellingSoFar (add_reply j (value_reply x.setting.layout bytes) x)
value_told x s m j bytes h is runs k =
    last_told x j r (heard_untold x s m (Read bytes) h k (λ i purpose. running i purpose)) lawful
    (λ lver seq set. absurd (never_set (value_in (record_in x.setting.layout bytes)) lver seq set)) where
      r : Reply
      r = value_reply x.setting.layout bytes

      a : JobReply
      a = record { job = j; reply = r }

      running : (i : ℕ) → (m.call.purpose ≡ ValueRead i) ⊎ (m.call.purpose ≡ ValueWrite i) → is_running (seen x) i ≡ true
      running i (inl at) = subst (λ n. is_running (seen x) n ≡ true) (some_value j i (ap (λ p. job_of p) (sym is ∙ at))) runs
      running i (inr at) = subst (λ n. is_running (seen x) n ≡ true) (some_value j i (ap (λ p. job_of p) (sym is ∙ at))) runs

      reading : IsReading x.setting (seen x) (heard_by x.input) m j s
      reading = record { there = (heard_call x s m (Read bytes) h).0; opens = heard_opens x s m (Read bytes) h; purpose = is; runs = runs; session = h.session }

      same : SameCalls x.past (entry_of x) a
      same = later_same x.past (entry_of x) a (plainly_late r (value_late x.setting.layout bytes))

      active : is_active x.setting (seen x) s ≡ true
      active = (work_is_active x k.0).each s m (Read bytes) j h (ap (λ p. is_area_work p) is) (ap (λ p. job_of p) is) runs

      lawful : (lver seq : ℕ) (told : List ℕ) → r ≡ Value lver seq told → LawfulValueReply x.setting x.past (entry_of (add_reply j r x)) j lver seq told
      lawful lver seq told says =
          let v = read_told (value_in (record_in x.setting.layout bytes)) lver seq told says in
          record {
            session = s;
            call = m;
            sector = bytes;
            value = v.0;
            of_session = (subst (λ ms. Contains (filter (is_call_of s) ms) m) (sym same) (mine_heard x s m (Read bytes) h), is);
            known = h.session;
            told = (heard_answered x s m (Read bytes) k.0.facts.calls k.0.orderly h, v.1, v.2, v.3, v.4);
            active = told_active x s m (Read bytes) h active j r;
            held = k.0.facts.values.held m j s reading;
            calm = writes_are x.setting m.at s (spot_of_call x.setting.layout m) (entry_of (add_reply j r x)) x.past
                ∙ (sym (writes_are x.setting m.at s (spot_of_call x.setting.layout m) (entry_of x) x.past) ∙ k.0.facts.values.calm m j s reading);
          }

set_told_as : (o : Option ValueRec) (lver seq : ℕ) → option_map_or (λ (v : ValueRec). ValueSet v.lver v.seq) o Done ≡ ValueSet lver seq → (v : ValueRec) × (o ≡ Some v) × (v.lver ≡ lver) × (v.seq ≡ seq)
set_told_as None lver seq is = absurd (false_is_true (ap (λ r. is_set r) is))
set_told_as (Some v) lver seq is = (v, refl, ap (λ r. lver_told r) is, ap (λ r. seq_told r) is)

never_value : (o : Option ValueRec) (lver seq : ℕ) (bytes : List ℕ) → option_map_or (λ (v : ValueRec). ValueSet v.lver v.seq) o Done ≡ Value lver seq bytes → ⊥
never_value None lver seq bytes is = false_is_true (ap (λ r. tells_value r) is)
never_value (Some v) lver seq bytes is = true_is_false (ap (λ r. is_set r) is)

set_told : (x : Step) (s : Session) (m : Submitted) (j : ℕ) → (h : Hears x s m Written) → m.call.purpose ≡ ValueWrite j → is_running (seen x) j ≡ true → Known x → TellingSoFar (add_reply j (set_reply m) x)
set_told x s m j h is runs k =
    last_told x j r (heard_untold x s m Written h k (λ i purpose. running i purpose)) (λ lver seq bytes told. absurd (never_value (value_written m) lver seq bytes told)) lawful where
      r : Reply
      r = set_reply m

      a : JobReply
      a = record { job = j; reply = r }

      running : (i : ℕ) → (m.call.purpose ≡ ValueRead i) ⊎ (m.call.purpose ≡ ValueWrite i) → is_running (seen x) i ≡ true
      running i (inl at) = subst (λ n. is_running (seen x) n ≡ true) (some_value j i (ap (λ p. job_of p) (sym is ∙ at))) runs
      running i (inr at) = subst (λ n. is_running (seen x) n ≡ true) (some_value j i (ap (λ p. job_of p) (sym is ∙ at))) runs

      same : SameCalls x.past (entry_of x) a
      same = later_same x.past (entry_of x) a (plainly_late r (set_late m))

      lawful : (lver seq : ℕ) → r ≡ ValueSet lver seq → LawfulSetReply x.past (entry_of (add_reply j r x)) j lver seq
      lawful lver seq says =
          let v = set_told_as (value_written m) lver seq says in
          record {
            session = s;
            call = m;
            value = v.0;
            of_session = (subst (λ ms. Contains (filter (is_call_of s) ms) m) (sym same) (mine_heard x s m Written h), is);
            told = (heard_answered x s m Written k.0.facts.calls k.0.orderly h, v.1, v.2, v.3);
          }

-- ---- all acts

failing_runs : (p : Purpose) (j i : ℕ) → lone_job p ≡ Some j → (p ≡ ValueRead i) ⊎ (p ≡ ValueWrite i) → j ≡ i
failing_runs p j i lone (inl is) = some_value j i (sym lone ∙ ap (λ q. lone_job q) is)
failing_runs p j i lone (inr is) = some_value j i (sym lone ∙ ap (λ q. lone_job q) is)

answered_untold : (st : Setting) (es : Trace) (now : ℕ) (c : Command) (r : Reply) → decided st es now c ≡ Replies r → tells_value r ≡ false
answered_untold st es now c r is = subst (λ d. IsUntold d) is (decisions_tell_nothing st es now c)

more_said : (x : Step) (j : ℕ) (r : Reply) → NoneTold x → tells_value r ≡ false → TellingSoFar (add_reply j r x)
more_said x j r none untold = untold_lawful (add_reply j r x) (allows.replies x j r untold none)

delta_told : (x : Step) (s : Session) (n : DeltaNext) → NoneTold x → DeltaAllowed May AnyCall AnyMove x s n → TellingSoFar (carry_delta s n x)
delta_told x s n none may = untold_lawful (carry_delta s n x) (delta NoneTold NoneTold May AnyCall AnyStart AnyMove allows x s n may none)

apart_told : (n : LeaseNext) (r : Reply) → n ≡ AnswerJob r → IsApartLease n → tells_value r ≡ false
apart_told n r is h = second_off (is_special r) (tells_value r) (subst (λ z. IsApartLease z) is h)

from_told : (step : LeaseStep) (n : LeaseNext) (r : Reply) → n ≡ AnswerJob r → IsApartFrom step n → tells_value r ≡ false
from_told step n r is h = second_off (is_special r) (tells_value r) (subst (λ z. IsApartFrom step z) is h)

joins_untold : (y : Step) (j : ℕ) (c : Command) (n : ℕ) (a : LockspaceArg) → NoneTold y → NoneTold (carry_decision j c (Joins n a) y)
unfolding carry_decision
joins_untold y j c n a none = none

pub values_are_told : Acts Known TellingSoFar
unfolding after_value_read
values_are_told =
    record {
      kills = λ x s has due k. for_each_keeps TellingSoFar (holders_of (seen x) s) (λ q. send q Kill) x (λ q there z h. signal_told z q Kill h) (telling_so_far x k);
      times_out = λ x j m wake bare runs waits late k.
          untold_lawful (refuse j (IoTimeout m.call.number m.reading x.reading) x)
          (refusal NoneTold NoneTold May AnyCall AnyStart AnyMove allows x j (IoTimeout m.call.number m.reading x.reading) refl (λ z is. tt) (woken_untold x k (ap (λ i. heard_by i) wake)));
      hears = λ x number answer wake bare expected k. untold_lawful (with_input (Told number answer) x) (woken_untold x k (ap (λ i. heard_by i) wake));
      counts = λ x text wake bare k. untold_lawful (with_input (Number text) x) (woken_untold x k (ap (λ i. heard_by i) wake));
      exits = λ x p wake bare one k.
          let y : Step = with_input (Exit p) x in
          untold_lawful (refuse_jobs_of p (leave_holdings p y))
          (exited NoneTold NoneTold May AnyCall AnyStart AnyMove allows (leave_holdings p y) p (λ j there. refl) (left NoneTold NoneTold May AnyCall AnyStart AnyMove allows y p (woken_untold x k (ap (λ i. heard_by i) wake))));
      exits_as_none = λ x p wake bare none k. untold_lawful (with_input (Exit p) x) (woken_untold x k (ap (λ i. heard_by i) wake));
      starts = λ x p ok wake bare expected k. untold_lawful (with_input (Spawned p ok) x) (woken_untold x k (ap (λ i. heard_by i) wake));
      fails_to_start = λ x p input k.
          untold_lawful (when_running (job_of_start (seen x) p) SpawnFault (end_holdings p x))
          (said NoneTold NoneTold May AnyCall AnyStart AnyMove allows (end_holdings p x) (job_of_start (seen x) p) SpawnFault (λ j is. refl)
          (ended NoneTold NoneTold May AnyCall AnyStart AnyMove allows x p (woken_untold x k (ap (λ i. heard_by i) input))));
      signals_instead = λ x p q input stood k. untold_lawful (add_signal q Term x) (woken_untold x k (ap (λ i. heard_by i) input));
      says_started = λ x p j input is runs k. more_said x j (started_reply (seen x) p) (woken_untold x k (ap (λ i. heard_by i) input)) refl;
      misreads = λ x text column wake bare says k. more_said (with_input (Line text) x) (next_job x.setting (seen x)) (Misread column) (woken_untold x k (ap (λ i. heard_by i) wake)) refl;
      answers = λ x text c r wake bare says is k.
          more_said (with_input (Line text) x) (next_job x.setting (seen x)) r (woken_untold x k (ap (λ i. heard_by i) wake)) (answered_untold x.setting (seen x) x.reading c r is);
      carries = λ x text c d wake bare says is more k.
          let y : Step = with_input (Line text) x in
          let j : ℕ = next_job x.setting (seen x) in
          let none : NoneTold y = woken_untold x k (ap (λ i. heard_by i) wake) in
          untold_lawful (carry_decision j c d y) (decision NoneTold NoneTold May AnyCall AnyStart AnyMove allows y j c d (decision_allowed y j c d) (λ n a is. joins_untold y j c n a none) none);
      joins_on = λ x s j step m answer hears is runs k.
          let n : DeltaNext = next_in_joining (delta_of_session x.setting s) (generation_of (seen x) s) (calls_of (seen x) s) x.reading m step answer in
          delta_told x s n (other_untold x s m answer hears k (ap (λ p. is_values p) is))
          (delta_allowed x s n (joining_apart (delta_of_session x.setting s) (generation_of (seen x) s) (calls_of (seen x) s) x.reading m step answer));
      ends_joining = λ x s j step m answer hears is stops k.
          untold_lawful (remove_of_refused s x) (removal_of_refused NoneTold NoneTold May AnyCall AnyStart AnyMove allows x s tt (other_untold x s m answer hears k (ap (λ p. is_values p) is)));
      renewed = λ x s m answer hears is k.
          let b : Bool = is_some (recovery_of x.setting (seen x) s) in
          delta_told x s (next_after_renewal b m.reading answer) (other_untold x s m answer hears k (ap (λ p. is_values p) is)) (renewal_allowed x s b m.reading answer);
      freed = λ x s j m answer hears is k. delta_told x s (next_after_free j m.call.number answer) (other_untold x s m answer hears k (ap (λ p. is_values p) is)) (freed_allowed x s j m.call.number answer);
      shown = λ x s m bytes hears is joined begins k.
          untold_lawful (signal_and_refuse s None x)
          (stopped NoneTold NoneTold May AnyCall AnyStart AnyMove allows tt x s None (λ z h job there. refl) (other_untold x s m (Read bytes) hears k (ap (λ p. is_values p) is)));
      sees = λ x s number bytes at g has input held k. call_told x s g.path SeeRequest (request_offset x.setting.layout g.offset) (ReadSectors 1) refl refl (telling_so_far x k);
      leads_on = λ x s work step m answer aim hears is on at k.
          let spot : Spot = spot_of_call x.setting.layout m in
          let n : LeaseNext = next_of_lease x.setting (seen x) s spot aim m step answer in
          untold_lawful (carry_lease s spot work n x)
          (lease NoneTold NoneTold May AnyCall AnyStart AnyMove allows x s spot work n
          (lease_allowed x s spot work n (λ r told.
          from_told step n r told (lease_within (lease_place x.setting s) (known x.setting (seen x) s spot) aim m.call.number (lver_written m) step answer)))
          (other_untold x s m answer hears k (ap (λ p. is_values p) is)));
      fails = λ x s m j hears lone runs k.
          more_said x j (IoFault m.call.number) (heard_untold x s m Failed hears k (λ i purpose. subst (λ n. is_running (seen x) n ≡ true) (failing_runs m.call.purpose j i lone purpose) runs)) refl;
      has_asked = λ x s m j owner hears is runs k. more_said x j Done (other_untold x s m Written hears k (ap (λ p. is_values p) is)) refl;
      has_set = λ x s m j hears is runs k. set_told x s m j hears is runs k;
      asks = λ x s m j bytes c hears is runs at k.
          untold_lawful (after_request_read s j bytes c x)
          (requested NoneTold NoneTold May AnyCall AnyStart AnyMove allows x s j bytes c (request_allowed x s j bytes c) (other_untold x s m (Read bytes) hears k (ap (λ p. is_values p) is)));
      tells = λ x s m j bytes hears is runs k. value_told x s m j bytes hears is runs k;
      warns = λ x s m bytes g signal hears is held own says k.
          untold_lawful (send g.process signal x) (sent NoneTold NoneTold May AnyCall AnyStart AnyMove allows tt x g.process signal (other_untold x s m (Read bytes) hears k (ap (λ p. is_values p) is)));
      joins_in_time = λ x s j has wake is runs k.
          let n : DeltaNext = next_on_wake (delta_of_session x.setting s) x.reading (calls_of (seen x) s) in
          delta_told x s n (woken_untold x k (ap (λ i. heard_by i) wake)) (delta_allowed x s n (wake_apart (delta_of_session x.setting s) x.reading (calls_of (seen x) s)));
      renews = λ x s has wake joined k.
          let none : NoneTold x = woken_untold x k (ap (λ i. heard_by i) wake) in
          untold_lawful _
          (renewal_keeps NoneTold x s (delta_of_session x.setting s) x.reading (delta_known x.setting (seen x) s) (bits_due x.setting (calls_of (seen x) s) x.reading) (λ d. none) none);
      settles = λ x s at has wake active aligned none k.
          let n : LeaseNext = next_of_settling x.setting (seen x) s at in
          untold_lawful (carry_lease s at Settling n x)
          (lease NoneTold NoneTold May AnyCall AnyStart AnyMove allows x s at Settling n (lease_allowed x s at Settling n (λ r told.
          apart_told n r told (settle_within x.setting (seen x) s at)))
          (woken_untold x k (ap (λ i. heard_by i) wake)));
      parts = λ x s has joined recovers free quiet k. part_told x s has joined recovers k;
      frees = λ x s has joined well free quiet k.
          free_keeps TellingSoFar x s (λ j d. call_told x s s.path (Leaving j) (own_offset x.setting s) (WriteRecord (DeltaIs d)) refl refl (telling_so_far x k)) (telling_so_far x k);
    }

pub telling_begins : Begins TellingSoFar
unfolding begin_recoveries begin_recovery
telling_begins st past e follows whole =
    untold_lawful (begin_recoveries (begin_step st past e.reading))
    (for_each_keeps NoneTold (present_sessions st (seen (begin_step st past e.reading))) begin_recovery (begin_step st past e.reading)
    (λ s there y h. when_keeps NoneTold (begins_now (seen y) (recovery_of y.setting (seen y) s)) (signal_and_refuse s None) y
    (λ begins k. stopped NoneTold NoneTold May AnyCall AnyStart AnyMove allows tt y s None (λ z h job there. refl) k) h) (λ a there. absurd (contains_none a there)))

-- ---- all that is lawful of values

values_of : (x : Step) → FittingSoFar x → TellingSoFar x → ValuesSoFar x
values_of x fits told =
    record { writes = λ n c s at its. (fits n c s at its).value; reads = λ n c s at its. (fits n c s at its).value_read; replies = told.replies; sets = told.sets }

pub values_are_lawful : ValuesAreLawful
values_are_lawful =
    to_less Known (λ x. FittingSoFar x × TellingSoFar x) ValuesSoFar (λ x h. values_of x h.0 h.1) (both Known FittingSoFar TellingSoFar calls_fit values_are_told)

pub values_begin : ValuesBegin
values_begin st past e follows whole = values_of (begin_recoveries (begin_step st past e.reading)) (calls_begin st past e follows whole) (telling_begins st past e follows whole)
