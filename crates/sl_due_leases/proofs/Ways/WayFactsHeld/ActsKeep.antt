-- Ways and turns are kept by each act, and stand once a step has begun.
use Rattle.sl_due_facts.specs.Acts.Acts.{Acts, Has, Hears, lone_job, next_of_settling}
use Rattle.sl_due_facts.specs.Acts.TraceSoFar.{entry_of}
use Rattle.sl_area.specs.AreaSizes.{Layout, record_in}
use Rattle.sl_area.specs.AreaLayout.{leader_of, read_at}
use Rattle.sl_request.specs.Requests.{check_request}
use Rattle.sl_area.specs.Roles.{request}
use Rattle.sl_due.specs.DueAnswers.{set_reply}
use Rattle.sl_due.specs.DueInputs.{end_holdings, leave_holdings, started_reply}
use Rattle.sl_due.specs.CarriedLease.{carry_lease, goes_on, next_of_lease}
use Rattle.sl_due.specs.DueRequests.{after_request_read, after_value_read, owner_read, request_refusal, value_reply, write_request}
use Rattle.sl_due.specs.Steps.{Step, add_reply, seen, with_input}
use Rattle.sl_run.specs.LawfulArea.{is_area_work}
use Rattle.sl_trace.specs.Jobs.{aim_of, command_numbered, job_of_start, resource_named}
use Rattle.sl_trace.specs.Leases.{is_leader_of, open_on, spot_of, spot_of_call, value_written}
use Rattle.sl_due_leases.proofs.Ways.WayFactsHeld.AreaCallsLeave.{area_calls_leave}
use Rattle.sl_due_leases.proofs.Ways.WayFactsHeld.CallsSame.{HeardNoJob}
use Rattle.sl_due_leases.proofs.Ways.WayFactsHeld.DecidedFits.{heard_fits, settling_fits}
use Rattle.sl_due_leases.proofs.Ways.WayFactsHeld.DeltasFit.{free_fits, freed_fits, joining_fits, renewal_fits, renewed_fits, wake_fits}
use Rattle.sl_due_leases.proofs.Ways.WayFactsHeld.EffectsLeave.{other_calls_leave, replies_leave, signals_leave, there_has}
use Rattle.sl_due_leases.proofs.Ways.WayFactsHeld.HeardStands.{HeardCall, exclusive_stands, heard_call, heard_calls, heard_has, lease_ready}
use Rattle.sl_due_leases.proofs.Ways.WayFactsHeld.InputsLeave.{answers, answers_leave, quiet_inputs_leave, same_call}
use Rattle.sl_due_leases.proofs.Ways.WayFactsHeld.LeaseNextsLeave.{HasEnded, IsLate, LeaseReady, by_late, moment_of, next_leaves}
use Rattle.sl_due_leases.proofs.Ways.WayFactsHeld.LinesKeep.{Anything, area_works, by_any, line_none, lines_keep}
use Rattle.sl_due_leases.proofs.Ways.WayFactsHeld.LinesReady.{none_open}
use Rattle.sl_due_leases.proofs.Ways.WayFactsHeld.PlacesStand.{place_is_on}
use Rattle.sl_due_leases.proofs.Ways.WayFactsHeld.PlainWalks.{ByCalls, delta, ended, exited, left, reads_keep, refusal, removal, removal_of_refused, said, sent, signalled, stopped}
use Rattle.sl_due_leases.proofs.Ways.WayFactsHeld.UnjoinedHaveNone.{its_joining, joins_still}
use Rattle.sl_due_leases.specs.Ways.WayFactsHeld.{LeasesStand}
use Rattle.sl_due_leases.specs.Ways.Nexts.{NextIs}
use Rattle.sl_trace.specs.declared.lease.Aim.{Aim}
use Rattle.sl_trace.specs.declared.lease.LeaseNext.TheVariants.{BecomeShared}
use Rattle.sl_trace.specs.declared.lease.LeaseNext.{LeaseNext}
use Rattle.sl_sector.specs.SectorLayouts.{request_in, value_in}
use Rattle.sl_sector.specs.declared.sector.Leader.{Leader}
use Rattle.sl_sector.specs.declared.sector.Request.{Request as RequestRec}
use Rattle.sl_sector.specs.declared.sector.ValueRec.{ValueRec}
use Rattle.sl_trace.specs.DeltaDecisions.{delta_of_session}
use Rattle.sl_trace.specs.Sessions.{calls_of, generation_of, recovery_of}
use Rattle.sl_trace.specs.declared.session.Session.{Session}
use Rattle.sl_due_facts.specs.Facts.HeardCall.{heard_by}
use Rattle.sl_due_facts.specs.Facts.JobFacts.{FitsCommand}
use Rattle.sl_due_facts.specs.Facts.AllFacts.{Whole}
use Rattle.sl_trace.specs.Traces.{Submitted, answered_in, call_numbered, is_before_input, job_of, next_job, submitted}
use Rattle.sl_trace.specs.declared.command.Command.TheVariants.{Request}
use Rattle.sl_trace.specs.declared.command.Command.{Command}
use Rattle.sl_trace.specs.declared.command.ResourceArg.{ResourceArg}
use Rattle.sl_trace.specs.declared.effects.LeaseStep.{LeaseStep}
use Rattle.sl_trace.specs.declared.effects.Purpose.TheVariants.{Lease, RequestRead, RequestWrite, SeeRequest, Survey}
use Rattle.sl_trace.specs.declared.effects.Purpose.{Purpose}
use Rattle.sl_trace.specs.declared.effects.Signal.TheVariants.{Kill, Term}
use Rattle.sl_trace.specs.declared.effects.Spot.{Spot}
use Rattle.sl_trace.specs.declared.effects.Work.TheVariants.{Settling}
use Rattle.sl_trace.specs.declared.effects.Work.{Work}
use Rattle.sl_trace.specs.declared.input.Answer.TheVariants.{Read}
use Rattle.sl_trace.specs.declared.input.Answer.{Answer}
use Rattle.sl_trace.specs.declared.input.Input.TheVariants.{Exit, Line, Number, Spawned, Wake}
use Rattle.sl_trace.specs.declared.reply.Reply.TheVariants.{BadCommand as Misread, Done, IoFault, IoTimeout, RequestOld, SpawnFault, TornLeader, Value, ValueSet, ValueTorn, WrongArea}
use Rattle.sl_trace.specs.declared.reply.Reply.{Reply}
use Rattle.sl_words.proofs.Lists.{contains_map}
use Rattle.sl_words.proofs.CaseLaws.{one_value, some_value, true_is_false}
use Rattle.sl_words.proofs.WordLaws.{choose_some}
use Rattle.sl_words.specs.Words.{choose}
use Rattle.std.proofs.Common.{ap, eqb-true, inl, inr, refl, subst, sym, ◌∙◌}
use Rattle.std.specs.Option.{option_map_or}
use Rattle.std.specs.Prelude.{Bool, Contains, List, None, Option, Some, [], false, is_some, not, true, ℕ, ◌%◌, ◌==◌, ◌≡◌}

pub stand : (x : Step) → Whole x → LeasesStand x
stand x w = record { ways = w.facts.ways; turns = w.facts.turns }

wake_none : (x : Step) → x.input ≡ Wake → HeardNoJob x
wake_none x wake n a m told there number = absurd (true_is_false (ap (λ i. answers i) (sym told ∙ wake)))

other_calls : ByCalls LeasesStand
other_calls x s path p o op has none later same h = other_calls_leave x s path p o op has none later same h

late_is : (r : Reply) → is_before_input r ≡ false → IsLate r
late_is r late = late

-- What a read of all ids is of no job.
survey_none : (x : Step) (s : Session) (m : Submitted) (a : Answer) → Hears x s m a → m.call.purpose ≡ Survey → Whole x → HeardNoJob x
survey_none x s m a h is w n b d told there number =
    let there_now : Contains (submitted (seen x)) (answered_in x.past (entry_of x) n b d) =
    subst (λ ms. Contains ms (answered_in x.past (entry_of x) n b d)) (sym (heard_calls x n b told h.bare))
    (contains_map (answered_in x.past (entry_of x) n b) (submitted x.past) d there)
    in
    let call : (answered_in x.past (entry_of x) n b d).call ≡ d.call = (same_call x.past (entry_of x) n b d).0 in
    let heard : n ≡ h.number = some_value n h.number (ap (λ i. heard_by i) (sym told ∙ h.heard)) in
    let same : answered_in x.past (entry_of x) n b d ≡ m =
    one_value (answered_in x.past (entry_of x) n b d) m (call_numbered (seen x) h.number)
    (ap (λ k. call_numbered (seen x) k) (sym (ap (λ c. c.number) call ∙ (eqb-true d.call.number n number ∙ heard))) ∙ w.facts.calls.found (answered_in x.past (entry_of x) n b d) there_now) h.call
    in
    ap (λ c. job_of c.purpose) (sym call) ∙ (ap (λ (z : Submitted). job_of z.call.purpose) same ∙ ap (λ p. job_of p) is)

-- ---- leases

-- A conversion that has come to its end had what it frees.
becomes_ended : (x : Step) (s : Session) (at : Spot) (work : Work) (n : LeaseNext) → Has x s → Whole x → NextIs (moment_of x s at work) n → (lver : ℕ) (l : Leader) → n ≡ BecomeShared lver l → HasEnded x s at lver
becomes_ended x s at work n has w fits lver l is = exclusive_stands x s at lver has w.facts.holdings (subst (λ z. NextIs (moment_of x s at work) z) is fits).0

led : (x : Step) (s : Session) (work : Work) (step : LeaseStep) (m : Submitted) (a : Answer) (aim : Aim) → (h : Hears x s m a) → m.call.purpose ≡ Lease work step → goes_on x.setting (seen x) s work ≡ true
    → aim_of x.setting (seen x) work ≡ Some aim → Whole x
    → LeasesStand (carry_lease s (spot_of_call x.setting.layout m) work (next_of_lease x.setting (seen x) s (spot_of_call x.setting.layout m) aim m step a) x)
led x s work step m a aim h is on aimed w =
    let at : Spot = spot_of_call x.setting.layout m in
    let n : LeaseNext = next_of_lease x.setting (seen x) s at aim m step a in
    let fits : NextIs (moment_of x s at work) n = heard_fits x s work step m a aim h is on aimed w in
    let ready : LeaseReady x s at = lease_ready x s m a h (ap (λ p. is_area_work p) is) w in
    next_leaves x s at ready work n (becomes_ended x s at work n (heard_has x s m a h) w fits) fits (stand x w)

settled : (x : Step) (s : Session) (at : Spot) → Has x s → at.base % x.setting.layout.area ≡ 0 → open_on x.setting (seen x) at ≡ [] → Whole x
    → LeasesStand (carry_lease s at Settling (next_of_settling x.setting (seen x) s at) x)
settled x s at has aligned none w =
    let n : LeaseNext = next_of_settling x.setting (seen x) s at in
    let fits : NextIs (moment_of x s at Settling) n = settling_fits x s at (w.facts.ways.each s at (there_has x.setting (seen x) s.number s has) aligned) in
    let ready : LeaseReady x s at =
    record {
      has = has;
      setting = w.setting;
      aligned = aligned;
      clear = λ m there unanswered work spot. none_open x.setting w.setting (seen x) at none m there unanswered spot;
      below = w.facts.calls.below;
    }
    in
    next_leaves x s at ready Settling n (becomes_ended x s at Settling n has w fits) fits (stand x w)

-- ---- requests

chosen_late : (b : Bool) (r why : Reply) → is_before_input r ≡ false → choose b r ≡ Some why → is_before_input why ≡ false
chosen_late b r why late is = subst (λ z. is_before_input z ≡ false) (choose_some b r why is).1 late

-- No refusal of a request is one before an input.
refused_late : (g : Layout) (lockspace : List ℕ) (r : ResourceArg) (asked force : ℕ) (bytes : List ℕ) (why : Reply) → request_refusal g lockspace r asked force bytes ≡ Some why → is_before_input why ≡ false
unfolding request_refusal
refused_late g lockspace r asked force bytes why is = by (leader_of g bytes) is where
  record_by : (l : Leader) (o : Option RequestRec) → elim o as (λ z. Option Reply) [
    | None ↦ choose (not (asked == 0)) (RequestOld l.lver None)
    | Some q ↦ choose (not (check_request l.lver q.lver asked force)) (RequestOld l.lver (Some q.lver))
  ] ≡ Some why → is_before_input why ≡ false
  record_by l None at = chosen_late (not (asked == 0)) (RequestOld l.lver None) why refl at
  record_by l (Some q) at = chosen_late (not (check_request l.lver q.lver asked force)) (RequestOld l.lver (Some q.lver)) why refl at

  name_by : (l : Leader) (b : Bool) → elim b as (λ z. Option Reply) [
    | false ↦ Some (WrongArea l.lockspace l.resource l.num_hosts)
    | true ↦ elim (request_in (read_at g bytes 1)) as (λ z. Option Reply) [
      | None ↦ choose (not (asked == 0)) (RequestOld l.lver None)
      | Some q ↦ choose (not (check_request l.lver q.lver asked force)) (RequestOld l.lver (Some q.lver))
    ]
  ] ≡ Some why → is_before_input why ≡ false
  name_by l false at = subst (λ z. is_before_input z ≡ false) (some_value (WrongArea l.lockspace l.resource l.num_hosts) why at) refl
  name_by l true at = record_by l (request_in (read_at g bytes 1)) at

  by : (o : Option Leader) → elim o as (λ z. Option Reply) [
    | None ↦ Some TornLeader
    | Some l ↦ elim (is_leader_of g lockspace r.name l) as (λ z. Option Reply) [
      | false ↦ Some (WrongArea l.lockspace l.resource l.num_hosts)
      | true ↦ elim (request_in (read_at g bytes 1)) as (λ z. Option Reply) [
        | None ↦ choose (not (asked == 0)) (RequestOld l.lver None)
        | Some q ↦ choose (not (check_request l.lver q.lver asked force)) (RequestOld l.lver (Some q.lver))
      ]
    ]
  ] ≡ Some why → is_before_input why ≡ false
  by None at = subst (λ z. is_before_input z ≡ false) (some_value TornLeader why at) refl
  by (Some l) at = name_by l (is_leader_of g lockspace r.name l) at

set_late : (o : Option ValueRec) → is_before_input (option_map_or (λ (v : ValueRec). ValueSet v.lver v.seq) o Done) ≡ false
set_late None = refl
set_late (Some v) = refl

told_late : (o : Option ValueRec) → is_before_input (elim o as (λ z. Reply) [ None ↦ ValueTorn | Some v ↦ Value v.lver v.seq v.bytes ]) ≡ false
told_late None = refl
told_late (Some v) = refl

-- The read of a request was on its command's resource.
pub asked_of : (x : Step) (s : Session) (m : Submitted) (j : ℕ) (a : Answer) (r : ResourceArg) (lver force : ℕ) → Hears x s m a → m.call.purpose ≡ RequestRead j → command_numbered x.setting (seen x) j ≡ Some (Request r lver force) → Whole x
    → spot_of_call x.setting.layout m ≡ spot_of r
asked_of x s m j a r lver force h is known w =
    let c : HeardCall x a m = heard_call x s m a h w in
    let fits : FitsCommand x.setting s m (Request r lver force) (RequestRead j) =
    subst (λ p. FitsCommand x.setting s m (Request r lver force) p) is (w.facts.jobs.fits m j s (Request r lver force) c.there (ap (λ p. job_of p) is) h.session known)
    in
    fits.4.1 ∙ ap (λ o. option_map_or spot_of o (spot_of r)) (ap (λ c. resource_named c) (sym fits.3))

requested : (x : Step) (s : Session) (m : Submitted) (j : ℕ) (bytes : List ℕ) (c : Command) → Hears x s m (Read bytes) → m.call.purpose ≡ RequestRead j → command_numbered x.setting (seen x) j ≡ Some c → Whole x
    → LeasesStand (after_request_read s j bytes c x)
unfolding after_request_read
requested x s m j bytes (Request r asked force) h is known w = by (request_refusal x.setting.layout s.lockspace r asked force bytes) refl where
  by : (o : Option Reply) → request_refusal x.setting.layout s.lockspace r asked force bytes ≡ o
      → LeasesStand (elim o as (λ z. Step) [ Some why ↦ add_reply j why x | None ↦ write_request s j (owner_read x.setting.layout bytes) r asked force x ])
  by (Some why) refused = replies_leave x j why (inl (refused_late x.setting.layout s.lockspace r asked force bytes why refused)) (stand x w)
  by None refused =
      let ready : LeaseReady x s (spot_of r) =
      subst (λ at. LeaseReady x s at) (asked_of x s m j (Read bytes) r asked force h is known w) (lease_ready x s m (Read bytes) h (ap (λ p. is_area_work p) is) w)
      in
      area_calls_leave x s (spot_of r) (RequestWrite j (owner_read x.setting.layout bytes)) _ _
      (area_works x s (spot_of r) ready (RequestWrite j (owner_read x.setting.layout bytes)) refl refl _ _ (place_is_on x.setting w.setting r.offset request tt) refl) (stand x w)
requested x s m j bytes c h is known w = stand x w

-- ---- all acts

led_job : (p : Purpose) (j : ℕ) → lone_job p ≡ Some j → is_before_input (IoFault j) ≡ false
led_job p j is = refl

pub leases_are_kept : Acts Whole LeasesStand
unfolding after_value_read
leases_are_kept =
    record {
      kills = λ x s has due w. signalled IsLate LeasesStand by_late x Kill s (stand x w);
      times_out = λ x j m wake bare runs waits late w.
          (refusal Anything (λ z. LeasesStand z × HeardNoJob z) by_any x j (IoTimeout m.call.number m.reading x.reading) tt (stand x w, wake_none x wake)).0;
      hears = λ x number answer wake bare expected w. answers_leave x number answer wake bare expected w.facts.calls (stand x w);
      counts = λ x text wake bare w. quiet_inputs_leave x (Number text) wake bare refl (stand x w);
      exits = λ x p wake bare one w.
          exited IsLate LeasesStand by_late (leave_holdings p (with_input (Exit p) x)) p (left IsLate LeasesStand by_late (with_input (Exit p) x) p (quiet_inputs_leave x (Exit p) wake bare refl (stand x w)));
      exits_as_none = λ x p wake bare none w. quiet_inputs_leave x (Exit p) wake bare refl (stand x w);
      starts = λ x p ok wake bare expected w. quiet_inputs_leave x (Spawned p ok) wake bare refl (stand x w);
      fails_to_start = λ x p input w. said IsLate LeasesStand by_late (end_holdings p x) (job_of_start (seen x) p) SpawnFault refl (ended IsLate LeasesStand by_late x p (stand x w));
      signals_instead = λ x p q input stood w. signals_leave x q Term (stand x w);
      says_started = λ x p j input is runs w. replies_leave x j (started_reply (seen x) p) (inl refl) (stand x w);
      misreads = λ x text column wake bare says w.
          replies_leave (with_input (Line text) x) (next_job x.setting (seen x)) (Misread column) (inl refl) (quiet_inputs_leave x (Line text) wake bare refl (stand x w));
      answers = λ x text c r wake bare says is w.
          replies_leave (with_input (Line text) x) (next_job x.setting (seen x)) r (inr (line_none x text)) (quiet_inputs_leave x (Line text) wake bare refl (stand x w));
      carries = λ x text c d wake bare says is more w. lines_keep x text c d wake bare says is more w;
      joins_on = λ x s j step m answer hears is runs w.
          delta IsLate LeasesStand by_late other_calls x s (heard_has x s m answer hears) _
          (joining_fits IsLate x s (joins_still x s j w (heard_has x s m answer hears) (its_joining x s j step m answer w hears is) runs) (delta_of_session x.setting s) (generation_of (seen x) s) (calls_of (seen x) s) x.reading m step answer)
          (stand x w);
      ends_joining = λ x s j step m answer hears is stops w. removal_of_refused IsLate LeasesStand by_late x s (stand x w);
      renewed = λ x s m answer hears is w.
          delta IsLate LeasesStand by_late other_calls x s (heard_has x s m answer hears) _ (renewed_fits IsLate x s (is_some (recovery_of x.setting (seen x) s)) m.reading answer) (stand x w);
      freed = λ x s j m answer hears is w. delta IsLate LeasesStand by_late other_calls x s (heard_has x s m answer hears) _ (freed_fits IsLate x s late_is j m.call.number answer) (stand x w);
      shown = λ x s m bytes hears is joined begins w.
          (stopped Anything (λ z. LeasesStand z × HeardNoJob z) by_any (λ t. tt) x s None (stand x w, survey_none x s m (Read bytes) hears is w)).0;
      sees = λ x s number bytes at g has input held w. other_calls_leave x s g.path SeeRequest _ _ has refl refl (reads_keep x s 1) (stand x w);
      leads_on = λ x s work step m answer aim hears is on at w. led x s work step m answer aim hears is on at w;
      fails = λ x s m j hears lone runs w. replies_leave x j (IoFault m.call.number) (inl refl) (stand x w);
      has_asked = λ x s m j owner hears is runs w. replies_leave x j Done (inl refl) (stand x w);
      has_set = λ x s m j hears is runs w. replies_leave x j (set_reply m) (inl (set_late (value_written m))) (stand x w);
      asks = λ x s m j bytes c hears is runs at w. requested x s m j bytes c hears is at w;
      tells = λ x s m j bytes hears is runs w. replies_leave x j (value_reply x.setting.layout bytes) (inl (told_late (value_in (record_in x.setting.layout bytes)))) (stand x w);
      warns = λ x s m bytes g signal hears is held own says w. sent IsLate LeasesStand by_late x g.process signal (stand x w);
      joins_in_time = λ x s j has wake is runs w.
          delta IsLate LeasesStand by_late other_calls x s has _ (wake_fits IsLate x s (joins_still x s j w has is runs) (delta_of_session x.setting s) x.reading (calls_of (seen x) s)) (stand x w);
      renews = λ x s has wake joined w. delta IsLate LeasesStand by_late other_calls x s has _ (renewal_fits IsLate x s x.reading _) (stand x w);
      settles = λ x s at has wake active aligned none w. settled x s at has aligned none w;
      parts = λ x s has joined recovers free quiet w. removal IsLate LeasesStand by_late x s.lockspace (stand x w);
      frees = λ x s has joined well free quiet w. delta IsLate LeasesStand by_late other_calls x s has _ (free_fits IsLate x s x.reading) (stand x w);
    }
