-- Each act keeps the laws of areas, blocks and leaders.
use Rattle.sl_due_facts.proofs.Acts.LoopsKeep.{for_each_keeps}
use Rattle.sl_due_facts.specs.Acts.Acts.{Acts, Has, Hears}
use Rattle.sl_due.specs.DueAnswers.{set_reply}
use Rattle.sl_due.specs.CarriedDelta.{see_request}
use Rattle.sl_due.specs.DueInputs.{end_holdings, leave_holdings, started_reply}
use Rattle.sl_due.specs.CarriedLease.{carry_lease, goes_on, next_of_lease}
use Rattle.sl_due.specs.DueRequests.{after_value_read, value_reply}
use Rattle.sl_due.specs.Steps.{Step, add_end, add_reply, seen, with_input}
use Rattle.sl_run.specs.LawfulArea.{is_area_work}
use Rattle.sl_due_leases.proofs.Leases.DeltasStay.{delta_by, frees_stay, IsSpared, joining_spares, others_by_delta, parting_stays, renewals_stay, spared_by_delta}
use Rattle.sl_due_leases.proofs.Leases.LawsStay.{A_start, all_ends_stay, calls_stay, kills_stay, replies_stay, said_stays, signals_stay}
use Rattle.sl_due_leases.proofs.Leases.LeaseCallsStay.{LeaseMay}
use Rattle.sl_due_leases.proofs.Leases.LinesStay.{lines_stay, requested}
use Rattle.sl_due_leases.proofs.Leases.NextsStay.{HeldThere, at_work, bare_lawful, led_stays, settled_stays, settles_no_turn, turns}
use Rattle.sl_due_leases.proofs.Leases.OthersKeep.{Any, LawfulSoFar, Others, by_others, laws_of, lawful_by, no_others, others_are_lawful}
use Rattle.sl_due_leases.proofs.Leases.TurnsStay.{exclusive_turns, shared_turns}
use Rattle.sl_due_leases.specs.Leases.LeaseLawful.{LeaseLaws}
use Rattle.sl_due_leases.proofs.Leases.WorkIsActive.{WorkIsActive, work_is_active}
use Rattle.sl_due_leases.proofs.Ways.WayFactsHeld.ActsKeep.{stand}
use Rattle.sl_due_leases.proofs.Ways.WayFactsHeld.DeltasFit.{freed_fits, joining_fits, renewed_fits, wake_fits}
use Rattle.sl_due_leases.proofs.Ways.WayFactsHeld.HeardStands.{heard_has, lease_heard, lease_ready}
use Rattle.sl_due_leases.proofs.Ways.WayFactsHeld.LeaseNextsLeave.{IsLate, moment_of}
use Rattle.sl_due_leases.proofs.Ways.WayFactsHeld.PlainWalks.{exited, left, refusal, removal_of_refused, sent, stopped}
use Rattle.sl_due_leases.proofs.Ways.WayFactsHeld.UnjoinedHaveNone.{its_joining, joins_still}
use Rattle.sl_due_facts.proofs.Acts.Pairs.Decisions.{next_is}
use Rattle.sl_due_leases.proofs.Ways.WayFactsHeld.DecidedFits.{heard_fits}
use Rattle.sl_due_leases.specs.Ways.Nexts.{NextIs}
use Rattle.sl_trace.specs.Jobs.{aim_of, aim_of_command, command_numbered, job_of_start, process_named}
use Rattle.sl_trace.specs.LeaseDecisions.{lease_place}
use Rattle.sl_trace.specs.Leases.{exclusive_on, holdings_on, known, lver_written, spot_of_call}
use Rattle.sl_trace.specs.declared.lease.Aim.TheVariants.{Acquires, Converts, Releases, Settles}
use Rattle.sl_trace.specs.declared.lease.Aim.{Aim}
use Rattle.sl_trace.specs.declared.lease.LeaseNext.TheVariants.{AnswerJob, BecomeExclusive, BecomeShared, GrantJob, Nothing, ReadFor, WriteBlock, WriteLeader}
use Rattle.sl_trace.specs.declared.lease.LeaseNext.{LeaseNext}
use Rattle.sl_trace.specs.DeltaDecisions.{delta_known, delta_of_session}
use Rattle.sl_trace.specs.Sessions.{calls_of, generation_of, holdings_of, is_active, is_joined, joined_after, recovery_of, removed_after, session_numbered}
use Rattle.sl_trace.specs.declared.session.Session.{Session}
use Rattle.sl_due_facts.specs.Facts.AllFacts.{Whole}
use Rattle.sl_trace.specs.Traces.{Submitted, end_of, holdings, is_running, is_shared, job_of, next_job, same_place}
use Rattle.sl_trace.specs.declared.command.Command.{Command}
use Rattle.sl_trace.specs.declared.effects.Grant.{Grant}
use Rattle.sl_trace.specs.declared.effects.LeaseStep.{LeaseStep}
use Rattle.sl_trace.specs.declared.effects.Purpose.TheVariants.{Lease, SeeRequest}
use Rattle.sl_trace.specs.declared.effects.Signal.TheVariants.{Term}
use Rattle.sl_trace.specs.declared.effects.Spot.{Spot}
use Rattle.sl_trace.specs.declared.effects.Work.TheVariants.{ForJob, Settling}
use Rattle.sl_trace.specs.declared.effects.Work.{Work}
use Rattle.sl_trace.specs.declared.input.Answer.{Answer}
use Rattle.sl_trace.specs.declared.input.Input.TheVariants.{Answer as Told, Exit, Line, Number, Spawned}
use Rattle.sl_trace.specs.declared.reply.Reply.TheVariants.{BadCommand as Misread, Done, IoFault, IoTimeout, SpawnFault}
use Rattle.sl_words.proofs.Lists.{find_inside, kept_inside}
use Rattle.sl_run_law.proofs.Leases.NumberLaws.{number_is_place}
use Rattle.sl_words.proofs.CaseLaws.{false_is_true, none_some, one_value, some_value, true_is_false}
use Rattle.sl_words.proofs.WordLaws.{and_true}
use Rattle.std.proofs.Common.{ap, eqb-true, refl, subst, sym, ◌∙◌}
use Rattle.std.specs.Prelude.{None, Option, Some, false, filter, is_none, is_some, not, option_and_then, true, ℕ, ◌==◌, ◌≡◌}

so_far : (x : Step) → Whole x → LawfulSoFar x
so_far x w = lawful_by x (record { area = w.orderly.area.0; block = w.orderly.block.0; leader = w.orderly.leader.0 })

-- ---- after an answer to a lease's call

not_settles : (x : Step) (s : Session) (at : Spot) (m : Submitted) (step : LeaseStep) (a : Answer) (aim : Aim) → aim ≡ Settles → turns (next_of_lease x.setting (seen x) s at aim m step a) ≡ true → ⊥
not_settles x s at m step a aim is turned =
    true_is_false (sym (ap (λ z. turns (next_of_lease x.setting (seen x) s at z m step a)) (sym is) ∙ turned)
    ∙ next_is (λ n. turns n ≡ false) x.setting (seen x) s at Settles m step a
    (λ fits. settles_no_turn (lease_place x.setting s) (known x.setting (seen x) s at) m.call.number (lver_written m) step a) (λ paired over writes. refl))

-- A conversion's holder is the command's.
its_holder : (x : Step) (s : Session) (m : Submitted) (a : Answer) (step : LeaseStep) (j : ℕ) (aim : Aim) → (h : Hears x s m a) → m.call.purpose ≡ Lease (ForJob j) step → is_running (seen x) j ≡ true
    → aim_of x.setting (seen x) (ForJob j) ≡ Some aim → Whole x → turns (next_of_lease x.setting (seen x) s (spot_of_call x.setting.layout m) aim m step a) ≡ true
    → (g : Grant) → HeldThere (seen x) s (spot_of_call x.setting.layout m) g → (c : Command) × (command_numbered x.setting (seen x) j ≡ Some c) × (process_named c ≡ Some g.process)
its_holder x s m a step j aim h is runs aimed w turned g held = by (command_numbered x.setting (seen x) j) refl aimed where
  same_session : g.session ≡ m.call.session
  same_session = held.its ∙ number_is_place x.setting (seen x) m.call.session s h.session

  by_aim : (c : Command) → command_numbered x.setting (seen x) j ≡ Some c → (z : Aim) → aim ≡ z → aim_of_command c ≡ Some z → process_named c ≡ Some g.process
  by_aim c command (Converts mode) same for = (w.facts.works.beside m j step c (Converts mode) g (at_work x s m a h j step is runs c command w) for held.there held.place).0
  by_aim c command (Acquires mode) same for = absurd ((w.facts.works.beside m j step c (Acquires mode) g (at_work x s m a h j step is runs c command w) for held.there held.place).2 same_session)
  by_aim c command Releases same for = absurd ((w.facts.works.beside m j step c Releases g (at_work x s m a h j step is runs c command w) for held.there held.place) same_session)
  by_aim c command Settles same for = absurd (not_settles x s (spot_of_call x.setting.layout m) m step a aim same turned)

  by : (o : Option Command) → command_numbered x.setting (seen x) j ≡ o → option_and_then aim_of_command o ≡ Some aim → (c : Command) × (command_numbered x.setting (seen x) j ≡ Some c) × (process_named c ≡ Some g.process)
  by None command for = absurd (none_some aim for)
  by (Some c) command for = (c, command, by_aim c command aim refl for)

turned_next : (x : Step) (s : Session) (work : Work) (step : LeaseStep) (m : Submitted) (a : Answer) (aim : Aim) → (h : Hears x s m a) → m.call.purpose ≡ Lease work step → goes_on x.setting (seen x) s work ≡ true
    → aim_of x.setting (seen x) work ≡ Some aim → Whole x → LeaseMay x s (spot_of_call x.setting.layout m)
    → (n : LeaseNext) → next_of_lease x.setting (seen x) s (spot_of_call x.setting.layout m) aim m step a ≡ n → NextIs (moment_of x s (spot_of_call x.setting.layout m) work) n → turns n ≡ true
    → LawfulSoFar (carry_lease s (spot_of_call x.setting.layout m) work n x)
turned_next x s work step m a aim h is on aimed w may (BecomeExclusive lver b) same fits turned =
    exclusive_turns x s (spot_of_call x.setting.layout m) work h.number a h.heard h.bare (stand x w) may lver b fits
turned_next x s Settling step m a aim h is on aimed w may (BecomeShared lver l) same fits turned =
    absurd (not_settles x s (spot_of_call x.setting.layout m) m step a aim (some_value aim Settles (sym aimed)) (ap (λ z. turns z) same))
turned_next x s (ForJob j) step m a aim h is on aimed w may (BecomeShared lver l) same fits turned =
    shared_turns x s (spot_of_call x.setting.layout m) j h.number a h.heard h.bare h.unended h.ungranted (stand x w) may w.facts.holdings lver l fits
    (its_holder x s m a step j aim h is on aimed w (ap (λ z. turns z) same))
turned_next x s work step m a aim h is on aimed w may Nothing same fits turned = absurd (false_is_true turned)
turned_next x s work step m a aim h is on aimed w may (ReadFor to) same fits turned = absurd (false_is_true turned)
turned_next x s work step m a aim h is on aimed w may (WriteBlock to b) same fits turned = absurd (false_is_true turned)
turned_next x s work step m a aim h is on aimed w may (WriteLeader to l) same fits turned = absurd (false_is_true turned)
turned_next x s work step m a aim h is on aimed w may (AnswerJob r) same fits turned = absurd (false_is_true turned)
turned_next x s work step m a aim h is on aimed w may (GrantJob mode lver) same fits turned = absurd (false_is_true turned)

led : (x : Step) (s : Session) (work : Work) (step : LeaseStep) (m : Submitted) (a : Answer) (aim : Aim) → (h : Hears x s m a) → m.call.purpose ≡ Lease work step → goes_on x.setting (seen x) s work ≡ true
    → aim_of x.setting (seen x) work ≡ Some aim → Whole x → WorkIsActive x
    → LawfulSoFar (carry_lease s (spot_of_call x.setting.layout m) work (next_of_lease x.setting (seen x) s (spot_of_call x.setting.layout m) aim m step a) x)
led x s work step m a aim h is on aimed w working =
    let at : Spot = spot_of_call x.setting.layout m in
    let k = lease_heard x s work step m a aim h is on aimed w in
    let fits : NextIs (moment_of x s at work) (next_of_lease x.setting (seen x) s at aim m step a) = heard_fits x s work step m a aim h is on aimed w in
    let active : is_active x.setting (seen x) s ≡ true = by work is on in
    let may : LeaseMay x s at = record { ready = lease_ready x s m a h (ap (λ p. is_area_work p) is) w; active = active; ways = k.0.ways } in
    led_stays x s work step m a aim h is on aimed active w (turned_next x s work step m a aim h is on aimed w may (next_of_lease x.setting (seen x) s at aim m step a) refl fits)
  where
    by : (work : Work) → m.call.purpose ≡ Lease work step → goes_on x.setting (seen x) s work ≡ true → is_active x.setting (seen x) s ≡ true
    by Settling is on = on
    by (ForJob j) is on = working.each s m a j h (ap (λ p. is_area_work p) is) (ap (λ p. job_of p) is) on

-- ---- a look at a request

seen_request : (x : Step) (s : Session) (at : Spot) (g : Grant) → Has x s → exclusive_on (seen x) s at ≡ Some g → Whole x → LawfulSoFar (see_request s g x)
seen_request x s at g has is w =
    let inside = find_inside (λ (k : Grant). not (is_shared k.mode)) (holdings_on (seen x) s at) g is in
    let placed = kept_inside (λ (k : Grant). same_place k.path k.offset at.path at.base) (holdings_of (seen x) s) g inside.0 in
    let owned = kept_inside (λ (k : Grant). k.session == s.number) (holdings (seen x)) g placed.0 in
    let owner = w.facts.holdings.owned g owned.0 in
    let same : owner.0 ≡ s = one_value owner.0 s (session_numbered x.setting (seen x) g.session) owner.1 (ap (λ n. session_numbered x.setting (seen x) n) (eqb-true g.session s.number owned.1) ∙ has) in
    let joined : is_joined (seen x) s ≡ true = subst (λ z. is_joined (seen x) z ≡ true) same owner.2 in
    calls_stay x s g.path SeeRequest _ _ has refl
    (record {
      active = λ area. absurd (false_is_true area);
      writes = λ r writes plain. absurd (none_some r writes);
      alone = λ works. absurd (false_is_true works);
      reads = tt;
      sees = λ p. (and_true (is_some (joined_after (seen x) s)) (is_none (removed_after (seen x) s)) joined).0;
      again = λ is. absurd (false_is_true is);
      turn = λ n writes. absurd (none_some n writes);
      block = λ b writes. absurd (none_some b writes);
      phase2 = λ reads. absurd (false_is_true reads);
      leader = λ l writes. absurd (none_some l writes);
    }) (so_far x w)

-- ---- all acts

ended_input : (x : Step) (p : ℕ) → (end_holdings p x).input ≡ x.input
ended_input x p = for_each_keeps (λ z. z.input ≡ x.input) (filter (λ (g : Grant). g.process == p) (holdings (seen x))) (λ g. add_end (end_of g)) x (λ g there y k. k) refl

pub laws_are_kept : Acts Whole LeaseLaws
unfolding after_value_read
laws_are_kept =
    record {
      kills = λ x s has due w. laws_of _ (kills_stay x s (so_far x w));
      times_out = λ x j m wake bare runs waits late w. laws_of _ (others_are_lawful _ (refusal Any Others by_others x j (IoTimeout m.call.number m.reading x.reading) tt (no_others x bare)));
      hears = λ x number answer wake bare expected w. laws_of _ (bare_lawful (with_input (Told number answer) x) bare);
      counts = λ x text wake bare w. laws_of _ (bare_lawful (with_input (Number text) x) bare);
      exits = λ x p wake bare one w.
          laws_of _ (others_are_lawful _ (exited Any Others by_others (leave_holdings p (with_input (Exit p) x)) p (left Any Others by_others (with_input (Exit p) x) p (no_others (with_input (Exit p) x) bare))));
      exits_as_none = λ x p wake bare none w. laws_of _ (bare_lawful (with_input (Exit p) x) bare);
      starts = λ x p ok wake bare expected w. laws_of _ (bare_lawful (with_input (Spawned p ok) x) bare);
      fails_to_start = λ x p input w. laws_of _ (said_stays (end_holdings p x) (job_of_start (seen x) p) SpawnFault (A_start p false (ended_input x p ∙ input)) (all_ends_stay x p (so_far x w)));
      signals_instead = λ x p q input stood w. laws_of _ (signals_stay x q Term (so_far x w));
      says_started = λ x p j input is runs w. laws_of _ (replies_stay x j (started_reply (seen x) p) (A_start p true input) (so_far x w));
      misreads = λ x text column wake bare says w. laws_of _ (bare_lawful (add_reply (next_job x.setting (seen x)) (Misread column) (with_input (Line text) x)) bare);
      answers = λ x text c r wake bare says is w. laws_of _ (bare_lawful (add_reply (next_job x.setting (seen x)) r (with_input (Line text) x)) bare);
      carries = λ x text c d wake bare says is more w. laws_of _ (lines_stay x text c d wake bare says is more w);
      joins_on = λ x s j step m answer hears is runs w. laws_of _ (others_are_lawful _
          (delta_by Others s (others_by_delta s) x (heard_has x s m answer hears) _
          (joining_fits IsLate x s (joins_still x s j w (heard_has x s m answer hears) (its_joining x s j step m answer w hears is) runs) (delta_of_session x.setting s) (generation_of (seen x) s) (calls_of (seen x) s) x.reading m step answer)
          (no_others x hears.bare)));
      ends_joining = λ x s j step m answer hears is stops w. laws_of _ (others_are_lawful _ (removal_of_refused Any Others by_others x s (no_others x hears.bare)));
      renewed = λ x s m answer hears is w. laws_of _ (others_are_lawful _
          (delta_by Others s (others_by_delta s) x (heard_has x s m answer hears) _ (renewed_fits IsLate x s (is_some (recovery_of x.setting (seen x) s)) m.reading answer) (no_others x hears.bare)));
      freed = λ x s j m answer hears is w. laws_of _ (others_are_lawful _
          (delta_by Others s (others_by_delta s) x (heard_has x s m answer hears) _ (freed_fits IsLate x s (λ r late. late) j m.call.number answer) (no_others x hears.bare)));
      shown = λ x s m bytes hears is joined begins w. laws_of _ (others_are_lawful _ (stopped Any Others by_others (λ t. tt) x s None (no_others x hears.bare)));
      sees = λ x s number bytes at g has input held w. laws_of _ (seen_request x s at g has held w);
      leads_on = λ x s work step m answer aim hears is on at w. laws_of _ (led x s work step m answer aim hears is on at w (work_is_active x w));
      fails = λ x s m j hears lone runs w. laws_of _ (bare_lawful (add_reply j (IoFault m.call.number) x) hears.bare);
      has_asked = λ x s m j owner hears is runs w. laws_of _ (bare_lawful (add_reply j Done x) hears.bare);
      has_set = λ x s m j hears is runs w. laws_of _ (bare_lawful (add_reply j (set_reply m) x) hears.bare);
      asks = λ x s m j bytes c hears is runs at w. laws_of _ (requested x s m j bytes c hears is at ((work_is_active x w).each s m _ j hears (ap (λ p. is_area_work p) is) (ap (λ p. job_of p) is) runs) w);
      tells = λ x s m j bytes hears is runs w. laws_of _ (bare_lawful (add_reply j (value_reply x.setting.layout bytes) x) hears.bare);
      warns = λ x s m bytes g signal hears is held own says w. laws_of _ (others_are_lawful _ (sent Any Others by_others x g.process signal (no_others x hears.bare)));
      joins_in_time = λ x s j has wake is runs w. laws_of _
          (delta_by (IsSpared s) s (spared_by_delta s) x has _ (wake_fits IsLate x s (joins_still x s j w has is runs) (delta_of_session x.setting s) x.reading (calls_of (seen x) s))
          (joining_spares x s j (so_far x w) w.facts.names wake is runs)).lawful;
      renews = λ x s has wake joined w. laws_of _ (renewals_stay x s has (delta_of_session x.setting s) x.reading (delta_known x.setting (seen x) s) _ (so_far x w));
      settles = λ x s at has wake active aligned none w. laws_of _ (settled_stays x s at has active aligned none w (so_far x w));
      parts = λ x s has joined recovers free quiet w. laws_of _ (parting_stays x s has joined recovers w.facts.names (so_far x w));
      frees = λ x s has joined well free quiet w. laws_of _ (frees_stay x s has (delta_of_session x.setting s) x.reading (delta_known x.setting (seen x) s) (so_far x w));
    }
