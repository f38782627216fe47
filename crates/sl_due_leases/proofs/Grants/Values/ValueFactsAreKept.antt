-- What is known while a value is read is kept by each act.
use Rattle.sl_due_facts.proofs.Acts.DecisionsAreTheirs.{Of}
use Rattle.sl_due_facts.proofs.Acts.EffectsKeep.{stopped}
use Rattle.sl_due_facts.proofs.Acts.LoopsKeep.{for_each_keeps, when_keeps}
use Rattle.sl_due_facts.proofs.Acts.PlainActs.{line_has}
use Rattle.sl_due_facts.specs.Acts.Acts.{Has, Hears, next_of_settling}
use Rattle.sl_due_facts.specs.Acts.TraceSoFar.{entry_of}
use Rattle.sl_area.specs.AreaLayout.{request_offset}
use Rattle.sl_area.specs.Roles.{request}
use Rattle.sl_due.specs.DueAnswers.{set_reply}
use Rattle.sl_due.specs.CarriedDelta.{carry_delta, see_request}
use Rattle.sl_due.specs.DueRecovery.{begin_recoveries, begin_recovery, begins_now, send, signal_and_refuse, signal_holders}
use Rattle.sl_due.specs.DueTimeOuts.{refuse, remove_connection, remove_of_refused}
use Rattle.sl_due.specs.DueInputs.{end_holdings, leave_holdings, refuse_jobs_of, started_reply, when_running}
use Rattle.sl_due.specs.CarriedLease.{carry_lease, next_of_lease}
use Rattle.sl_due.specs.DueRequests.{after_request_read, after_value_read, bits_due, owner_read, request_refusal, value_reply, write_request}
use Rattle.sl_due.specs.Steps.{Step, add_reply, add_signal, begin_step, seen, with_input}
use Rattle.sl_due_leases.proofs.Grants.Modes.FitsHolding.{reads_values}
use Rattle.sl_due_leases.proofs.Grants.DeltasKeep.{free_keeps, renewal_keeps}
use Rattle.sl_due_leases.proofs.Grants.OthersGoOn.{delta_on, fits_begin, refusal_on, removal_of_refused_on, removal_on, sent_on, stopped_on}
use Rattle.sl_due_leases.proofs.Grants.Values.ReadsBack.{IsRead, ReadNow, ReadsBack, facts_back, facts_from, reads_calls, reads_go_on, reads_itself, reply_reads, signal_reads, writes_are}
use Rattle.sl_due_leases.proofs.Grants.Values.ReadsByInputs.{exit_reads, failed_reads, heard_values, input_reads}
use Rattle.sl_due_leases.proofs.Grants.Values.ReadsByLeases.{IsElsewhere, lease_reads, write_there}
use Rattle.sl_due_leases.proofs.Grants.Values.ReadsByLines.{lines_values}
use Rattle.sl_due_leases.specs.Grants.ValueLaws.{HasValueFacts, ValueFactsAreKept, ValueFactsBegin}
use Rattle.sl_due_leases.proofs.Holdings.DecisionsHaveGrounds.{decisions_have_grounds}
use Rattle.sl_due_leases.proofs.Holdings.HoldingFactsAreKept.{plainly_late, surveys_no_job}
use Rattle.sl_due_leases.proofs.Holdings.HoldingFactsBegin.{children_fresh, fresh, held_fresh, wake_effects, waking_answers_none}
use Rattle.sl_due_leases.proofs.Holdings.HoldingsByCalls.{call_added}
use Rattle.sl_due_leases.proofs.Holdings.HoldingsByEffects.{later_same, unanswered_same, waking_same}
use Rattle.sl_due_leases.proofs.Holdings.LeaseCallers.{heard_call, heard_opens, spot_aligned}
use Rattle.sl_due_leases.proofs.Holdings.LeaseNexts.{IsFitNext, IsPlainNext, next_fits, settling_fits}
use Rattle.sl_due_leases.specs.Holdings.DecisionGrounds.{HasGrounds}
use Rattle.sl_due_leases.specs.Holdings.Moments.{Known}
use Rattle.sl_due_facts.proofs.Jobs.JobFactsBegin.{running_then}
use Rattle.sl_due_facts.proofs.Jobs.JobsAreNumbered.{numbered_before}
use Rattle.sl_due_facts.proofs.Jobs.RepliesComeAfter.{request_late, set_late, value_late}
use Rattle.sl_run.specs.LawfulArea.{is_area_work}
use Rattle.sl_due_leases.proofs.Ways.WayFactsHeld.ActsKeep.{asked_of}
use Rattle.sl_due_leases.proofs.Ways.WayFactsHeld.DeltasFit.{freed_fits, joining_fits, renewed_fits, wake_fits}
use Rattle.sl_due_leases.proofs.Ways.WayFactsHeld.EffectsLeave.{there_has}
use Rattle.sl_due_leases.proofs.Ways.WayFactsHeld.HeardStands.{heard_has}
use Rattle.sl_due_leases.proofs.Ways.WayFactsHeld.LeaseNextsLeave.{IsLate}
use Rattle.sl_due_leases.proofs.Ways.WayFactsHeld.LinesReady.{none_open}
use Rattle.sl_due_leases.proofs.Ways.WayFactsHeld.PlacesStand.{id_in_range, place_is_on, placed_on}
use Rattle.sl_due_leases.proofs.Ways.WayFactsHeld.PlainWalks.{DeltaFits}
use Rattle.sl_due_leases.proofs.Ways.WayFactsHeld.UnjoinedHaveNone.{its_joining, joins_still}
use Rattle.sl_trace.specs.Jobs.{command_numbered, command_of, job_of_start}
use Rattle.sl_trace.specs.LeaseDecisions.{lease_place}
use Rattle.sl_trace.specs.Leases.{known, lver_written, open_on, spot_of, spot_of_call}
use Rattle.sl_trace.specs.declared.lease.Aim.{Aim}
use Rattle.sl_trace.specs.declared.lease.LeaseNext.{LeaseNext}
use Rattle.sl_words.proofs.Lists.{kept_inside}
use Rattle.sl_words.proofs.Options.{some_of}
use Rattle.sl_sector.specs.declared.sector.Rec.TheVariants.{DeltaIs, RequestIs}
use Rattle.sl_trace.specs.DeltaDecisions.{delta_known, delta_of_session, next_after_free, next_after_renewal, next_in_joining, next_on_wake, own_offset}
use Rattle.sl_trace.specs.Sessions.{calls_of, generation_of, holders_of, holdings_of, present_sessions, recovery_of, session_numbered}
use Rattle.sl_trace.specs.declared.delta.DeltaNext.{DeltaNext}
use Rattle.sl_trace.specs.declared.session.Session.{Session}
use Rattle.sl_due_facts.specs.Facts.HeardCall.{IsOpen, heard_by}
use Rattle.sl_due_facts.specs.Facts.JobFacts.{FitsCommand}
use Rattle.sl_due_facts.specs.Facts.ValueFacts.{IsReading}
use Rattle.sl_due_facts.specs.Facts.AllFacts.{WholeTrace}
use Rattle.sl_trace.specs.Traces.{Child, Setting, Submitted, Trace, first_child, holdings, is_before_input, job_of, next_child, next_job, no_effects, same_place}
use Rattle.sl_trace.specs.declared.command.Command.{Command}
use Rattle.sl_trace.specs.declared.command.Command.TheVariants.{GetLvb, Request}
use Rattle.sl_trace.specs.declared.effects.Grant.{Grant}
use Rattle.sl_trace.specs.declared.effects.LeaseStep.{LeaseStep}
use Rattle.sl_trace.specs.declared.effects.Op.{Op}
use Rattle.sl_trace.specs.declared.effects.Op.TheVariants.{ReadSectors, WriteRecord}
use Rattle.sl_trace.specs.declared.effects.Purpose.TheVariants.{Lease, Leaving, Renewal, RequestRead, RequestWrite, SeeRequest}
use Rattle.sl_trace.specs.declared.effects.Signal.TheVariants.{Kill, Term}
use Rattle.sl_trace.specs.declared.effects.Spot.{Spot}
use Rattle.sl_trace.specs.declared.effects.Work.{Work}
use Rattle.sl_trace.specs.declared.effects.Work.TheVariants.{Settling}
use Rattle.sl_trace.specs.declared.input.Answer.{Answer}
use Rattle.sl_trace.specs.declared.input.Answer.TheVariants.{Read}
use Rattle.sl_trace.specs.declared.input.Input.TheVariants.{Exit, Line, Number, Spawned, Wake}
use Rattle.sl_trace.specs.declared.reply.Reply.{Reply}
use Rattle.sl_trace.specs.declared.reply.Reply.TheVariants.{BadCommand as Misread, Done, IoFault, IoTimeout, SpawnFault}
use Rattle.sl_run_law.proofs.Sessions.CallOwners.{session_more}
use Rattle.sl_words.proofs.CaseLaws.{no_value, none_some, one_value, true_is_false}
use Rattle.std.proofs.Common.{ap, inl, inr, refl, subst, sym, ◌∙◌}
use Rattle.std.specs.Prelude.{Contains, IsSome, List, None, Option, Some, [], false, filter, find, if◌then◌else◌, is_some, length, option_and_then, true, ℕ, ◌%◌, ◌+◌, ◌<◌, ◌==◌, ◌≡◌, ◌≤◌}

-- ---- what is not work on an area

delta_values : (x : Step) (s : Session) (n : DeltaNext) → Known x → DeltaFits IsLate x s n → HasValueFacts (carry_delta s n x)
delta_values x s n k fits =
    facts_back x (carry_delta s n x) k
    (delta_on (ReadsBack x) (ReadsBack x) (reads_go_on x) (reads_calls x) (λ z h. h) x s n (fits_begin IsLate x s n fits)
    (λ i r is. later_same x.past (entry_of x) (record { job = i; reply = r }) (subst (λ z. DeltaFits IsLate x s z) is fits)) (λ r i is. subst (λ z. DeltaFits IsLate x s z) is fits) (reads_itself x))

told_values : (x : Step) (j : ℕ) (r : Reply) → Known x → is_before_input r ≡ false → HasValueFacts (add_reply j r x)
told_values x j r k late = facts_back x (add_reply j r x) k (reply_reads x x j r (later_same x.past (entry_of x) (record { job = j; reply = r }) late) (reads_itself x))

-- ---- work on an area

-- Where the answer to work on an area is heard no value is read there.
heard_elsewhere : (x : Step) (s : Session) (m : Submitted) (a : Answer) → Hears x s m a → is_area_work m.call.purpose ≡ true → reads_values m.call.purpose ≡ false → Known x → IsElsewhere x (spot_of_call x.setting.layout m)
heard_elsewhere x s m a h area no_read k =
    record {
      setting = k.0.setting;
      aligned = spot_aligned x.setting.layout m;
      free = λ d j t i spot.
          let same : d ≡ m =
          k.0.facts.turns.one d m i.there (heard_call x s m a h).0 i.opens (heard_opens x s m a h) (ap (λ p. is_area_work p) i.purpose) area spot
          in
          true_is_false (sym (ap (λ p. reads_values p) i.purpose) ∙ (ap (λ (v : Submitted). reads_values v.call.purpose) same ∙ no_read));
    }

its_range : (x : Step) (s : Session) → Has x s → Known x → (1 ≤ s.id) × (s.id ≤ x.setting.layout.hosts)
its_range x s has k = id_in_range x.setting k.0.setting (seen x) s (there_has x.setting (seen x) s.number s has)

led_values : (x : Step) (s : Session) (work : Work) (step : LeaseStep) (m : Submitted) (a : Answer) (aim : Aim) → (h : Hears x s m a) → m.call.purpose ≡ Lease work step → Known x
    → HasValueFacts (carry_lease s (spot_of_call x.setting.layout m) work (next_of_lease x.setting (seen x) s (spot_of_call x.setting.layout m) aim m step a) x)
led_values x s work step m a aim h is k =
    let at : Spot = spot_of_call x.setting.layout m in
    let n : LeaseNext = next_of_lease x.setting (seen x) s at aim m step a in
    let fits : IsFitNext (known x.setting (seen x) s at) aim (lver_written m) step a n = next_fits (lease_place x.setting s) (known x.setting (seen x) s at) aim m.call.number (lver_written m) step a in
    facts_back x (carry_lease s at work n x) k
    (lease_reads x x s at work n (heard_elsewhere x s m a h (ap (λ p. is_area_work p) is) (ap (λ p. reads_values p) is) k) (its_range x s (heard_has x s m a h) k)
    (λ r at_r. subst (λ z. IsFitNext (known x.setting (seen x) s at) aim (lver_written m) step a z) at_r fits) (reads_itself x))

settled_values : (x : Step) (s : Session) (at : Spot) → Has x s → x.input ≡ Wake → at.base % x.setting.layout.area ≡ 0 → open_on x.setting (seen x) at ≡ [] → Known x
    → HasValueFacts (carry_lease s at Settling (next_of_settling x.setting (seen x) s at) x)
settled_values x s at has wake aligned none k =
    let n : LeaseNext = next_of_settling x.setting (seen x) s at in
    facts_back x (carry_lease s at Settling n x) k
    (lease_reads x x s at Settling n
    (record { setting = k.0.setting; aligned = aligned; free = λ m j t i spot. none_open x.setting k.0.setting (seen x) at none m i.there (waits m i.opens) spot }) (its_range x s has k)
    (λ r is. subst (λ z. IsPlainNext (known x.setting (seen x) s at) z) is (settling_fits (lease_place x.setting s) (known x.setting (seen x) s at))) (reads_itself x))
  where
    waits : (m : Submitted) → IsOpen (seen x) (heard_by x.input) m → m.answer ≡ None
    waits m (inl open_m) = open_m
    waits m (inr w) = absurd (no_value m.call.number (heard_by x.input) w.0 (ap (λ i. heard_by i) wake))

asked_values : (x : Step) (s : Session) (m : Submitted) (j : ℕ) (bytes : List ℕ) (c : Command) → (h : Hears x s m (Read bytes)) → m.call.purpose ≡ RequestRead j → command_numbered x.setting (seen x) j ≡ Some c → Known x
    → HasValueFacts (after_request_read s j bytes c x)
unfolding after_request_read
asked_values x s m j bytes (Request r number force) h is command k = by (request_refusal x.setting.layout s.lockspace r number force bytes) refl where
  spot : spot_of_call x.setting.layout m ≡ spot_of r
  spot = asked_of x s m j (Read bytes) r number force h is command k.0

  by : (o : Option Reply) → request_refusal x.setting.layout s.lockspace r number force bytes ≡ o
      → HasValueFacts (elim o as (λ z. Step) [ Some why ↦ add_reply j why x | None ↦ write_request s j (owner_read x.setting.layout bytes) r number force x ])
  by (Some why) at = told_values x j why k (plainly_late why (request_late x.setting.layout s.lockspace r number force bytes why at))
  by None at =
      let o : ℕ = request_offset x.setting.layout r.offset in
      let op : Op = WriteRecord (RequestIs (record { force = force; host = (if number == 0 then 0 else s.id); lver = number })) in
      facts_back x (write_request s j (owner_read x.setting.layout bytes) r number force x) k
      (write_there x x (spot_of r) s r.path (RequestWrite j (owner_read x.setting.layout bytes)) o op
      (subst (λ z. IsElsewhere x z) spot (heard_elsewhere x s m (Read bytes) h (ap (λ p. is_area_work p) is) (ap (λ p. reads_values p) is) k)) refl (λ i its. true_is_false (sym (ap (λ p. reads_values p) its)))
      (placed_on x.setting (spot_of r) (call_added s.number r.path (RequestWrite j (owner_read x.setting.layout bytes)) o op x) refl (place_is_on x.setting k.0.setting r.offset request tt)) (reads_itself x))
asked_values x s m j bytes c h is command k = facts_back x x k (reads_itself x)

-- ---- all acts

pub value_facts_are_kept : ValueFactsAreKept
unfolding after_value_read
value_facts_are_kept =
    record {
      kills = λ x s has due k.
          facts_back x (signal_holders Kill s x) k (for_each_keeps (λ z. ReadsBack x z) (holders_of (seen x) s) (λ q. send q Kill) x (λ q there z h. signal_reads x z q Kill h) (reads_itself x));
      times_out = λ x j m wake bare runs waits late k.
          let r : Reply = IoTimeout m.call.number m.reading x.reading in
          facts_back x (refuse j r x) k (refusal_on (ReadsBack x) (reads_go_on x) x j r (waking_same x.past (entry_of x) (record { job = j; reply = r }) wake) (reads_itself x));
      hears = λ x number answer wake bare expected k. heard_values x number answer wake bare expected k;
      counts = λ x text wake bare k. facts_back x (with_input (Number text) x) k (input_reads x (Number text) wake bare refl k);
      exits = λ x p wake bare one k. facts_back x (refuse_jobs_of p (leave_holdings p (with_input (Exit p) x))) k (exit_reads x p wake bare k);
      exits_as_none = λ x p wake bare none k. facts_back x (with_input (Exit p) x) k (input_reads x (Exit p) wake bare refl k);
      starts = λ x p ok wake bare expected k. facts_back x (with_input (Spawned p ok) x) k (input_reads x (Spawned p ok) wake bare refl k);
      fails_to_start = λ x p input k. facts_back x (when_running (job_of_start (seen x) p) SpawnFault (end_holdings p x)) k (failed_reads x p input k);
      signals_instead = λ x p q input stood k. facts_back x (add_signal q Term x) k (signal_reads x x q Term (reads_itself x));
      says_started = λ x p j input is runs k. told_values x j (started_reply (seen x) p) k refl;
      misreads = λ x text column wake bare says k.
          let y : Step = with_input (Line text) x in
          let j : ℕ = next_job x.setting (seen x) in
          facts_back x (add_reply j (Misread column) y) k
          (reply_reads x y j (Misread column) (later_same y.past (entry_of y) (record { job = j; reply = Misread column }) refl) (input_reads x (Line text) wake bare refl k));
      answers = λ x text c r wake bare says is k.
          let y : Step = with_input (Line text) x in
          let j : ℕ = next_job x.setting (seen x) in
          facts_back x (add_reply j r y) k (reply_reads x y j r (unanswered_same y.past (entry_of y) (record { job = j; reply = r }) refl) (input_reads x (Line text) wake bare refl k));
      carries = λ x text c d wake bare says is more k.
          lines_values x text c d k wake bare says (subst (λ z. HasGrounds x.setting (seen x) c z) is (decisions_have_grounds x.setting (seen x) x.reading c))
          (subst (λ z. Of (Has (with_input (Line text) x)) z) is (line_has x text c bare));
      joins_on = λ x s j step m answer hears is runs k.
          delta_values x s (next_in_joining (delta_of_session x.setting s) (generation_of (seen x) s) (calls_of (seen x) s) x.reading m step answer) k
          (joining_fits IsLate x s (joins_still x s j k.0 (heard_has x s m answer hears) (its_joining x s j step m answer k.0 hears is) runs) (delta_of_session x.setting s) (generation_of (seen x) s) (calls_of (seen x) s) x.reading m step answer);
      ends_joining = λ x s j step m answer hears is stops k. facts_back x (remove_of_refused s x) k (removal_of_refused_on (ReadsBack x) (reads_go_on x) x s (reads_itself x));
      renewed = λ x s m answer hears is k.
          delta_values x s (next_after_renewal (is_some (recovery_of x.setting (seen x) s)) m.reading answer) k (renewed_fits IsLate x s (is_some (recovery_of x.setting (seen x) s)) m.reading answer);
      freed = λ x s j m answer hears is k. delta_values x s (next_after_free j m.call.number answer) k (freed_fits IsLate x s (λ r late. late) j m.call.number answer);
      shown = λ x s m bytes hears is joined begins k.
          facts_back x (signal_and_refuse s None x) k (stopped_on (ReadsBack x) (reads_go_on x) x s None (surveys_no_job x s m (Read bytes) k hears is) (reads_itself x));
      sees = λ x s number bytes at g has input held k.
          facts_back x (see_request s g x) k (reads_calls x x s g.path SeeRequest (request_offset x.setting.layout g.offset) (ReadSectors 1) refl refl (reads_itself x));
      leads_on = λ x s work step m answer aim hears is on at k. led_values x s work step m answer aim hears is k;
      fails = λ x s m j hears lone runs k. told_values x j (IoFault m.call.number) k refl;
      has_asked = λ x s m j owner hears is runs k. told_values x j Done k refl;
      has_set = λ x s m j hears is runs k. told_values x j (set_reply m) k (plainly_late (set_reply m) (set_late m));
      asks = λ x s m j bytes c hears is runs at k. asked_values x s m j bytes c hears is at k;
      tells = λ x s m j bytes hears is runs k. told_values x j (value_reply x.setting.layout bytes) k (plainly_late (value_reply x.setting.layout bytes) (value_late x.setting.layout bytes));
      warns = λ x s m bytes g signal hears is held own says k. facts_back x (send g.process signal x) k (sent_on (ReadsBack x) (reads_go_on x) x g.process signal (reads_itself x));
      joins_in_time = λ x s j has wake is runs k.
          delta_values x s (next_on_wake (delta_of_session x.setting s) x.reading (calls_of (seen x) s)) k
          (wake_fits IsLate x s (joins_still x s j k.0 has is runs) (delta_of_session x.setting s) x.reading (calls_of (seen x) s));
      renews = λ x s has wake joined k.
          facts_back x _ k
          (renewal_keeps (λ z. ReadsBack x z) x s (delta_of_session x.setting s) x.reading (delta_known x.setting (seen x) s) (bits_due x.setting (calls_of (seen x) s) x.reading)
          (λ d. reads_calls x x s s.path Renewal (own_offset x.setting s) (WriteRecord (DeltaIs d)) refl refl (reads_itself x)) (reads_itself x));
      settles = λ x s at has wake active aligned none k. settled_values x s at has wake aligned none k;
      parts = λ x s has joined recovers free quiet k. facts_back x (remove_connection s.lockspace x) k (removal_on (ReadsBack x) (reads_go_on x) x s.lockspace (reads_itself x));
      frees = λ x s has joined well free quiet k.
          facts_back x _ k
          (free_keeps (λ z. ReadsBack x z) x s (λ j d. reads_calls x x s s.path (Leaving j) (own_offset x.setting s) (WriteRecord (DeltaIs d)) refl refl (reads_itself x)) (reads_itself x));
    }

-- ---- once a step has begun

fresh_read : (st : Setting) (now : ℕ) (past : Trace) → WholeTrace st past → (m : Submitted) (j : ℕ) (s : Session) → IsRead (begin_step st past now) (begin_step st past now) m j s → ReadNow (begin_step st past now) m j s
fresh_read st now past whole m j s i =
    let c = some_of (command_numbered st past j) (whole.facts.jobs.called m j i.there (ap (λ p. job_of p) i.purpose)) in
    let f = subst (λ p. FitsCommand st s m c.0 p) i.purpose (whole.facts.jobs.fits m j s c.0 i.there (ap (λ p. job_of p) i.purpose) was.session c.1) in
    let command : command_numbered st past j ≡ Some (GetLvb f.0 f.1) = c.1 ∙ ap (λ d. Some d) f.2 in
    let h = whole.facts.values.holds m j s f.0 f.1 was command in
    let on = kept_inside (λ (g : Grant). same_place g.path g.offset (spot_of_call st.layout m).path (spot_of_call st.layout m).base) (holdings_of past s) h.0 h.1 in
    let of = kept_inside (λ (g : Grant). g.session == s.number) (holdings past) h.0 on.0 in
    record {
      resource = f.0;
      process = f.1;
      command = ap (λ o. option_and_then command_of o) (numbered_before (begin_step st past now) refl j) ∙ command;
      guard = record {
        before = whole.facts.values.held m j s was;
        calm = writes_are st m.at s (spot_of_call st.layout m) (record { reading = now; input = Wake; effects = no_effects }) past ∙ whole.facts.values.calm m j s was;
        holder = (
          h.0,
          subst (λ hs. Contains (filter (λ (g : Grant). same_place g.path g.offset (spot_of_call st.layout m).path (spot_of_call st.layout m).base) (filter (λ (g : Grant). g.session == s.number) hs)) h.0) (sym (held_fresh now past)) h.1,
          h.2,
        );
        born = subst (λ n. n < next_child (fresh now past)) h.2 (subst (λ ks. h.0.process < first_child + length ks) (sym (children_fresh now past)) (whole.facts.holdings.born h.0 of.0));
        started = λ v is. whole.facts.values.started m j s f.0 f.1 v was command (subst (λ ks. find (λ (k : Child). k.process == f.1) ks ≡ Some v) (children_fresh now past) is);
      };
    }
  where
    known : IsSome (session_numbered st past m.call.session)
    known = whole.facts.calls.owned m i.there

    its : session_numbered st past m.call.session ≡ Some s
    its =
        let v = some_of (session_numbered st past m.call.session) known in
        v.1
        ∙ ap (λ z. Some z) (one_value v.0 s (session_numbered st (fresh now past) m.call.session) (session_more st (record { reading = now; input = Wake; effects = no_effects }) past m.call.session v.0 v.1) i.session)

    waits : IsOpen (fresh now past) None m → m.answer ≡ None
    waits (inl none) = none
    waits (inr w) = absurd (none_some m.call.number w.0)

    was : IsReading st past None m j s
    was = record { there = i.there; opens = inl (waits i.opens); purpose = i.purpose; runs = sym (running_then past now j) ∙ i.runs; session = its }

pub value_facts_begin : ValueFactsBegin
unfolding begin_recoveries begin_recovery
value_facts_begin st past e follows whole =
    let x : Step = begin_step st past e.reading in
    facts_from x (begin_recoveries x) (fresh_read st e.reading past whole) (λ k there. whole.facts.values.above k (subst (λ ks. Contains ks k) (children_fresh e.reading past) there))
    (for_each_keeps (λ z. ReadsBack x z × (z.input ≡ Wake)) (present_sessions st (seen x)) begin_recovery x
    (λ s there y h. when_keeps (λ z. ReadsBack x z × (z.input ≡ Wake)) (begins_now (seen y) (recovery_of y.setting (seen y) s)) (signal_and_refuse s None) y
    (λ begins k. (stopped_on (ReadsBack x) (reads_go_on x) y s None (waking_answers_none y.past y.input k.1) k.0, stopped (λ z. z.input ≡ Wake) wake_effects y s None k.1)) h) (reads_itself x, refl)).0
