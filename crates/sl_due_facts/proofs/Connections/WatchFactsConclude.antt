-- At the end of an answer's entry a joining that runs on has read what it watches.
use Rattle.sl_due_facts.proofs.Acts.InputsKeep.{has_heard}
use Rattle.sl_due_facts.proofs.Acts.LoopsKeep.{when_keeps}
use Rattle.sl_due_facts.specs.Acts.Acts.{Hears, IsIdle}
use Rattle.sl_due_facts.specs.Acts.TraceSoFar.{entry_of}
use Rattle.sl_area.specs.AreaSizes.{record_in}
use Rattle.sl_area.specs.AreaLayout.{request_offset}
use Rattle.sl_due.specs.DueAnswers.{set_reply}
use Rattle.sl_due.specs.CarriedDelta.{carry_delta, for_joining}
use Rattle.sl_due.specs.DueTimeOuts.{refuse, remove_of_refused}
use Rattle.sl_due.specs.DueRecovery.{send, signal_and_refuse}
use Rattle.sl_due.specs.CarriedLease.{carry_lease, next_of_lease}
use Rattle.sl_due.specs.DueRequests.{after_request_read, after_value_read, value_reply}
use Rattle.sl_due.specs.Steps.{Step, add_call_of, add_move, add_reply, add_signal, seen, with_input, with_some}
use Rattle.sl_due_facts.proofs.Jobs.CallsOfJobsFit.{joining_of}
use Rattle.sl_due_facts.proofs.Jobs.CallsStay.{is_special, late}
use Rattle.sl_due_facts.proofs.Jobs.EffectsAreAllowed.{Allows, delta, lease, removal_of_refused, requested, sent, stopped}
use Rattle.sl_due_facts.proofs.Jobs.JobsAreAllowed.{heard_answered, late_on_survey}
use Rattle.sl_due_facts.proofs.Jobs.NearlyPlainActs.{AnyMove, AnyStart}
use Rattle.sl_due_facts.proofs.Jobs.RepliesComeAfter.{IsLateDelta, IsLateLease, joining_late, lease_late, on_bool, on_option, set_late, value_late}
use Rattle.sl_due_facts.proofs.Jobs.SessionsArePresent.{session_has}
use Rattle.sl_due_facts.proofs.Jobs.SessionsHaveJobs.{contains_only}
use Rattle.sl_due_facts.specs.Jobs.JobLaws.{HasCallFacts}
use Rattle.sl_trace.specs.LeaseDecisions.{lease_place}
use Rattle.sl_trace.specs.Leases.{known, lver_written, spot_of_call}
use Rattle.sl_trace.specs.declared.lease.LeaseNext.{LeaseNext}
use Rattle.sl_due_facts.proofs.AddedEffects.CallsGrow.{same_sessions}
use Rattle.sl_words.proofs.Lists.{contains_cases, find_inside, kept, kept_inside}
use Rattle.sl_words.proofs.Numbers.{number_itself}
use Rattle.sl_words.proofs.Options.{some_of, some_there}
use Rattle.sl_sector.specs.Bitmaps.{no_bits}
use Rattle.sl_sector.specs.SectorLayouts.{delta_in}
use Rattle.sl_sector.specs.declared.sector.DeltaRec.{DeltaRec}
use Rattle.sl_sector.specs.declared.sector.DeltaState.TheVariants.{Free}
use Rattle.sl_sector.specs.declared.sector.Rec.TheVariants.{DeltaIs}
use Rattle.sl_due_facts.proofs.Connections.ConnectionFactsAreKept.{lone_other_job}
use Rattle.sl_due_facts.proofs.Connections.ConnectionFactsConclude.{HeardFor, joined_then_by}
use Rattle.sl_due_facts.proofs.Connections.HeardCalls.{newest_heard}
use Rattle.sl_due_facts.proofs.Connections.JoiningConnections.{Working, working_unjoined}
use Rattle.sl_due_facts.proofs.Connections.JoiningDecisions.{heard_working}
use Rattle.sl_due_facts.proofs.Connections.SessionParts.{at_work_is_present}
use Rattle.sl_due_facts.proofs.Connections.WatchFactsAreKept.{KnowsWatches, reply_watches, watch_facts_are_kept, watches_kept}
use Rattle.sl_due_facts.proofs.Sessions.JoiningsGoOn.{first_is_last, one_first, refused_stops}
use Rattle.sl_due_facts.proofs.Sessions.NameActs.{running_unrefused}
use Rattle.sl_due_facts.proofs.Sessions.NameFactsConclude.{heard_answer}
use Rattle.sl_due_facts.proofs.Sessions.NamesAreAllowed.{NameCall, NameReply, freed_named, heard_joined, is_joining, lease_named, renewed_named, request_named}
use Rattle.sl_due_facts.proofs.Sessions.NamesAtEnd.{Growing, growing_itself, grows, grows_joining, running_unjoined}
use Rattle.sl_trace.specs.Sessions.{calls_of, generation_of, is_call_of, is_join_call, is_present, join_call, joined_after, last_renewal, recovery_of, same_join_step, session_numbered, sessions}
use Rattle.sl_trace.specs.Sightings.{is_free_state}
use Rattle.sl_trace.specs.declared.delta.DeltaKnown.{DeltaKnown}
use Rattle.sl_trace.specs.declared.delta.DeltaNext.TheVariants.{Nothing, RefuseJoin, RegisterAndRead, WriteFree}
use Rattle.sl_trace.specs.declared.delta.DeltaNext.{DeltaNext}
use Rattle.sl_trace.specs.declared.session.Session.{Session}
use Rattle.sl_due_facts.specs.Facts.ConcludingActs.{Concludes}
use Rattle.sl_due_facts.specs.Facts.HeardCall.{heard_by}
use Rattle.sl_due_facts.specs.Facts.AllFacts.{Whole}
use Rattle.sl_trace.proofs.TraceFacts.{submitted-push}
use Rattle.sl_trace.specs.WatchdogConnections.{is_registered}
use Rattle.sl_trace.specs.Traces.{Answered, Setting, Submitted, bytes_given, call_numbered, gave, is_running, job_of, new_call, next_call, submitted}
use Rattle.sl_trace.specs.declared.effects.Call.{Call}
use Rattle.sl_trace.specs.declared.effects.JoinStep.TheVariants.{ClaimWrite, DecidingRead, FirstRead, FirstRenewal, VerifyRead, WatchRead}
use Rattle.sl_trace.specs.declared.effects.JoinStep.{JoinStep}
use Rattle.sl_trace.specs.declared.effects.Move.TheVariants.{Unregister}
use Rattle.sl_trace.specs.declared.effects.Move.{Move}
use Rattle.sl_trace.specs.declared.effects.Op.TheVariants.{ReadSectors, WriteRecord}
use Rattle.sl_trace.specs.declared.effects.Op.{Op}
use Rattle.sl_trace.specs.declared.effects.Purpose.TheVariants.{Joining, Lease, Leaving, Renewal, RequestRead, RequestWrite, SeeRequest, Survey, ValueRead, ValueWrite}
use Rattle.sl_trace.specs.declared.effects.Purpose.{Purpose}
use Rattle.sl_trace.specs.declared.effects.Signal.{Signal}
use Rattle.sl_trace.specs.declared.effects.Spot.{Spot}
use Rattle.sl_trace.specs.declared.input.Answer.TheVariants.{Failed, Read, Written}
use Rattle.sl_trace.specs.declared.input.Answer.{Answer}
use Rattle.sl_trace.specs.declared.input.Input.TheVariants.{Answer as Told, Wake}
use Rattle.sl_trace.specs.declared.reply.Reply.TheVariants.{Done, IoFault, Recovering, TornDelta, WrongDelta}
use Rattle.sl_trace.specs.declared.reply.Reply.{Reply}
use Rattle.sl_run_law.proofs.Sessions.JoiningsAreOrdered.{joinings_are_ordered}
use Rattle.sl_run_law.proofs.Sessions.MarksStay.{joined_more}
use Rattle.sl_run_law.specs.Sessions.SessionLaws.{is_ordered, may_come}
use Rattle.sl_words.proofs.CaseLaws.{false_is_true, none_some, not_both, one_value, some_value}
use Rattle.sl_words.proofs.WordLaws.{and_true}
use Rattle.std.proofs.Common.{ap, inl, inr, refl, subst, sym, ◌∙◌}
use Rattle.std.proofs.lemmas.Bool.{eqb-true}
use Rattle.std.proofs.lemmas.Slice.Eq.{bytes_eq-Decides}
use Rattle.std.specs.Prelude.{Bool, Contains, List, None, Option, Some, [], bytes_eq, false, is_some, length, option_and_then, true, unwrap_or, ℕ, ◌&&◌, ◌+◌, ◌==◌, ◌∷◌, ◌≡◌, ◌⊎◌}
use Rattle.sl_due_facts.specs.Connections.WatchFacts.{HasRead, HasWatchFacts, HasWatchesPlainly}
use Rattle.sl_trace.specs.DeltaDecisions.{delta_known, delta_of_session, delta_record, is_watched_out, next_after_first, next_after_free, next_after_renewal, next_after_watch, next_free, next_in_joining, own_offset, id_held, watched}
use Rattle.sl_due_facts.proofs.Jobs.AnsweredCallsFit.{at, both_of}

-- ---- what an act leaves of answered calls

pub record Onward (x y : Step) : Type 0 where
  pub setting : y.setting ≡ x.setting
  pub before : y.past ≡ x.past
  pub input : y.input ≡ x.input
  pub all : sessions y.setting (seen y) ≡ sessions x.setting (seen x)
  pub old : (m : Submitted) → Contains (submitted (seen y)) m → is_some m.answer ≡ true → Contains (submitted (seen x)) m

onward : (x y : Step) → Growing x y → Onward x y
onward x y h = record { setting = h.setting; before = h.before; input = h.input; all = h.sessions; old = λ m there is. subst (λ ms. Contains ms m) h.calls there }

onward_itself : (x : Step) → Onward x x
onward_itself x = onward x x (growing_itself x)

goes_onward : (x : Step) (C : Session → List ℕ → Purpose → ℕ → Op → Type 0) → ((s : Session) (path : List ℕ) (p : Purpose) (o : ℕ) (op : Op) → C s path p o op → is_join_call FirstRead p ≡ false)
    → Allows (Growing x) (Onward x) (NameReply x) C AnyStart AnyMove
goes_onward x C c =
    let g = grows x C c in
    record {
      ends = g.ends;
      signals = g.signals;
      moves = g.moves;
      grants = g.grants;
      starts = g.starts;
      replies = g.replies;
      calls = λ y s path p o op may h. called y s path p o op (c s path p o op may) h;
      rest = λ y h. onward x y h;
    } where
      called : (y : Step) (s : Session) (path : List ℕ) (p : Purpose) (o : ℕ) (op : Op) → is_join_call FirstRead p ≡ false → Growing x y → Onward x (add_call_of s.number path p o op y)
      called y s path p o op no_look h =
          record {
            setting = h.setting;
            before = h.before;
            input = h.input;
            all = same_sessions y.setting (entry_of y) y.past made no_look ∙ h.sessions;
            old = λ m there is. by m is (contains_cases new (submitted (seen y)) m (subst (λ ms. Contains ms m) (submitted-push y.past (entry_of y) made) there));
          } where
            made : Call
            made = record { number = next_call y.setting (seen y); session = s.number; purpose = p; path = path; offset = o; op = op }

            new : Submitted
            new = new_call (length y.past) y.reading made

            by : (m : Submitted) → is_some m.answer ≡ true → (new ≡ m) ⊎ Contains (submitted (seen y)) m → Contains (submitted (seen x)) m
            by m is (inl first) = absurd (false_is_true (ap (λ (k : Submitted). is_some k.answer) first ∙ is))
            by m is (inr there) = subst (λ ms. Contains ms m) h.calls there

goes_on_named : (x : Step) → Allows (Growing x) (Onward x) (NameReply x) (NameCall x) AnyStart AnyMove
goes_on_named x = goes_onward x (NameCall x) (λ s path p o op may. may.2)

-- ---- plain where what was heard is no read of a joining that runs on, or is well

given_answered : (m : Submitted) (bytes : List ℕ) → gave m ≡ Some bytes → is_some m.answer ≡ true
given_answered m bytes given = by m.answer given where
  by : (o : Option Answered) → option_and_then (λ (a : Answered). bytes_given a.answer) o ≡ Some bytes → is_some o ≡ true
  by (Some a) is = refl
  by None is = absurd (none_some bytes is)

-- A read that was heard, of a joining that runs on.
pub record HeardRead (x y : Step) (s : Session) (step : JoinStep) (m : Submitted) (bytes : List ℕ) : Type 0 where
  pub plain : HasRead y.setting (seen y) None s step m bytes
  pub heard : heard_by y.input ≡ Some m.call.number

plain_watches : (x y : Step) (n : ℕ) (answer : Answer) → x.input ≡ Told n answer → Onward x y → HasWatchFacts y
    → ((s : Session) (m : Submitted) (bytes : List ℕ) → HeardRead x y s FirstRead m bytes → (d : DeltaRec) × (delta_in (record_in y.setting.layout bytes) ≡ Some d) × (d.lockspace ≡ s.lockspace) × (d.id ≡ s.id))
    → ((s : Session) (f m : Submitted) (first bytes : List ℕ) → HeardRead x y s FirstRead f first → HasRead y.setting (seen y) None s WatchRead m bytes → first ≡ bytes)
    → ((s : Session) (f m : Submitted) (first bytes : List ℕ) → HasRead y.setting (seen y) None s FirstRead f first → HeardRead x y s WatchRead m bytes → first ≡ bytes) → HasWatchesPlainly y
plain_watches x y n answer told g h one_well first_well watch_well =
    record {
      first = λ s m bytes r. by_first s m bytes r (m.call.number == n) refl;
      same = λ s f m first bytes r q. by_same s f m first bytes r q (f.call.number == n) (m.call.number == n) refl refl;
    } where
      heard : heard_by y.input ≡ Some n
      heard = ap (λ i. heard_by i) (g.input ∙ told)

      was_heard : (m : Submitted) → (m.call.number == n) ≡ true → heard_by y.input ≡ Some m.call.number
      was_heard m is = heard ∙ ap (λ k. Some k) (sym (eqb-true m.call.number n is))

      unheard : (s : Session) (step : JoinStep) (m : Submitted) (bytes : List ℕ) → (m.call.number == n) ≡ false → HasRead y.setting (seen y) None s step m bytes → HasRead y.setting (seen y) (heard_by y.input) s step m bytes
      unheard s step m bytes other r =
          record {
            job = r.job;
            session = r.session;
            its = r.its;
            runs = r.runs;
            inside = r.inside;
            for = r.for;
            given = r.given;
            done = λ is. not_both (m.call.number == n) (ap (λ k. m.call.number == k) (some_value n m.call.number (sym heard ∙ is)) ∙ number_itself m.call.number) other;
          }

      by_first : (s : Session) (m : Submitted) (bytes : List ℕ) → HasRead y.setting (seen y) None s FirstRead m bytes → (b : Bool) → (m.call.number == n) ≡ b
          → (d : DeltaRec) × (delta_in (record_in y.setting.layout bytes) ≡ Some d) × (d.lockspace ≡ s.lockspace) × (d.id ≡ s.id)
      by_first s m bytes r true is = one_well s m bytes (record { plain = r; heard = was_heard m is })
      by_first s m bytes r false is = h.first s m bytes (unheard s FirstRead m bytes is r)

      by_same : (s : Session) (f m : Submitted) (first bytes : List ℕ) → HasRead y.setting (seen y) None s FirstRead f first → HasRead y.setting (seen y) None s WatchRead m bytes → (b c : Bool) → (f.call.number == n) ≡ b → (m.call.number == n) ≡ c → first ≡ bytes
      by_same s f m first bytes r q true c is also = first_well s f m first bytes (record { plain = r; heard = was_heard f is }) q
      by_same s f m first bytes r q false true is also = watch_well s f m first bytes r (record { plain = q; heard = was_heard m also })
      by_same s f m first bytes r q false false is also = h.same s f m first bytes (unheard s FirstRead f first is r) (unheard s WatchRead m bytes also q)

-- The heard read is the heard call, and its session too.
read_is : (x y : Step) (n : ℕ) (answer : Answer) (s z : Session) (step : JoinStep) (m w : Submitted) (bytes : List ℕ) → x.input ≡ Told n answer → call_numbered (seen x) n ≡ Some m → session_numbered x.setting (seen x) m.call.session ≡ Some s → HasCallFacts x
    → Onward x y → HeardRead x y z step w bytes → HeardFor x s z m w
read_is x y n answer s z step m w bytes told found session f g r =
    let mine = kept_inside (is_call_of z) (submitted (seen y)) w r.plain.inside in
    let number : n ≡ w.call.number = some_value n w.call.number (ap (λ i. heard_by i) (sym (g.input ∙ told)) ∙ r.heard) in
    let old : Contains (submitted (seen x)) w = g.old w mine.0 (given_answered w bytes r.plain.given) in
    let one : w ≡ m = one_value w m (call_numbered (seen x) n) (subst (λ q. call_numbered (seen x) q ≡ Some w) (sym number) (f.found w old)) found in
    let its : z.number ≡ m.call.session = sym (eqb-true w.call.session z.number mine.1) ∙ ap (λ (q : Submitted). q.call.session) one in
    record {
      call = one;
      session = one_value z s (session_numbered x.setting (seen x) m.call.session)
          (subst (λ q. session_numbered x.setting (seen x) q ≡ Some z) its (session_has x.setting (seen x) z (subst (λ ss. Contains ss z) g.all r.plain.session))) session;
    }

-- Where no read of a joining that runs on was heard.
unread_watches : (x y : Step) (n : ℕ) (answer : Answer) → x.input ≡ Told n answer → Onward x y → HasWatchFacts y → ((s : Session) (step : JoinStep) (m : Submitted) (bytes : List ℕ) → HeardRead x y s step m bytes → ⊥) → HasWatchesPlainly y
unread_watches x y n answer told g h never =
    plain_watches x y n answer told g h (λ s m bytes r. absurd (never s FirstRead m bytes r)) (λ s f m first bytes r q. absurd (never s FirstRead f first r)) (λ s f m first bytes r q. absurd (never s WatchRead m bytes q))

unread_other : (x y : Step) (s : Session) (m : Submitted) (answer : Answer) → Whole x → Hears x s m answer → is_joining m.call.purpose ≡ false → HasWatchFacts y → Onward x y → HasWatchesPlainly y
unread_other x y s m answer h hears other part g =
    unread_watches x y hears.number answer hears.heard g part (λ z step w bytes r.
    let for = read_is x y hears.number answer s z step m w bytes hears.heard hears.call hears.session h.facts.calls g r in
    let k = some_there (joined_after y.past s) (subst (λ es. is_some (joined_after es s) ≡ true) (sym g.before) (joined_then_by x s m answer h hears other)) in
    none_some k.0 (sym (subst (λ q. joined_after (seen y) q ≡ None) for.session (running_unjoined (seen y) z r.plain.job r.plain.its r.plain.runs)) ∙ joined_more (entry_of y) y.past s k.0 k.1))

-- ---- a joining's answer

-- It runs on, so its read was not refused.
refuse_ends : (x : Step) (s : Session) (j : ℕ) (r : Reply) → s.job ≡ Some j → is_running (seen (carry_delta s (RefuseJoin r) x)) j ≡ true → ⊥
unfolding carry_delta
refuse_ends x s j r its runs =
    not_both (is_running (seen (for_joining s (λ i. refuse i r) x)) j) runs (ap (λ o. is_running (seen (with_some o (λ i. refuse i r) x)) j) its ∙ refused_stops x j r)

first_spells : (x : Step) (s : Session) (j : ℕ) (bytes : List ℕ) → s.job ≡ Some j → is_running (seen (carry_delta s (next_after_first (delta_of_session x.setting s) bytes) x)) j ≡ true
    → (d : DeltaRec) × (delta_in (record_in x.setting.layout bytes) ≡ Some d) × (d.lockspace ≡ s.lockspace) × (d.id ≡ s.id)
unfolding next_after_first
first_spells x s j bytes its = by (delta_in (record_in x.setting.layout bytes)) refl where
  named : (d : DeltaRec) → delta_in (record_in x.setting.layout bytes) ≡ Some d → (b : Bool) → (bytes_eq d.lockspace s.lockspace && d.id == s.id) ≡ b
      → is_running (seen (carry_delta s (elim b as (λ z. DeltaNext) [ false ↦ RefuseJoin (WrongDelta d.lockspace d.id) | true ↦ elim (is_free_state d.state) as (λ z. DeltaNext) [ true ↦ RegisterAndRead DecidingRead | false ↦ Nothing ] ]) x)) j ≡ true
      → (d : DeltaRec) × (delta_in (record_in x.setting.layout bytes) ≡ Some d) × (d.lockspace ≡ s.lockspace) × (d.id ≡ s.id)
  named d spells false other runs = absurd (refuse_ends x s j (WrongDelta d.lockspace d.id) its runs)
  named d spells true same runs =
      let both = and_true (bytes_eq d.lockspace s.lockspace) (d.id == s.id) same in (d, spells, (bytes_eq-Decides d.lockspace s.lockspace).0 both.0, eqb-true d.id s.id both.1)

  by : (o : Option DeltaRec) → delta_in (record_in x.setting.layout bytes) ≡ o
      → is_running (seen (carry_delta s (elim o as (λ z. DeltaNext) [
        | None ↦ RefuseJoin TornDelta
        | Some d ↦ elim (bytes_eq d.lockspace s.lockspace && d.id == s.id) as (λ z. DeltaNext) [ false ↦ RefuseJoin (WrongDelta d.lockspace d.id) | true ↦ elim (is_free_state d.state) as (λ z. DeltaNext) [ true ↦ RegisterAndRead DecidingRead | false ↦ Nothing ] ]
      ]) x)) j ≡ true → (d : DeltaRec) × (delta_in (record_in x.setting.layout bytes) ≡ Some d) × (d.lockspace ≡ s.lockspace) × (d.id ≡ s.id)
  by None spells runs = absurd (refuse_ends x s j TornDelta its runs)
  by (Some d) spells runs = named d spells (bytes_eq d.lockspace s.lockspace && d.id == s.id) refl runs

watch_same : (x : Step) (s : Session) (j : ℕ) (ms : List Submitted) (reading : ℕ) (bytes : List ℕ) → s.job ≡ Some j → is_running (seen (carry_delta s (next_after_watch (delta_of_session x.setting s) ms reading bytes) x)) j ≡ true → watched ms ≡ bytes
unfolding next_after_watch
watch_same x s j ms reading bytes its = by (bytes_eq (watched ms) bytes) refl where
  by : (b : Bool) → bytes_eq (watched ms) bytes ≡ b
      → is_running (seen (carry_delta s (elim b as (λ z. DeltaNext) [
        | false ↦ RefuseJoin (id_held x.setting.layout (watched ms) bytes)
        | true ↦ elim (is_watched_out x.setting.timing ms reading) as (λ z. DeltaNext) [ true ↦ RegisterAndRead DecidingRead | false ↦ Nothing ]
      ]) x)) j ≡ true → watched ms ≡ bytes
  by false other runs = absurd (refuse_ends x s j (id_held x.setting.layout (watched ms) bytes) its runs)
  by true same runs = (bytes_eq-Decides (watched ms) bytes).0 same

-- By its step, what the read of a joining gave.
one_step : (p : Purpose) (j : ℕ) (step at : JoinStep) → p ≡ Joining j at → is_join_call step p ≡ true → same_join_step step at ≡ true
one_step p j step at is for = sym (ap (λ q. is_join_call step q) is) ∙ for

read_first_on : (x : Step) (s : Session) (j : ℕ) (step : JoinStep) (m : Submitted) (answer : Answer) (bytes : List ℕ) → s.job ≡ Some j → same_join_step FirstRead step ≡ true → bytes_given answer ≡ Some bytes
    → is_running (seen (carry_delta s (next_in_joining (delta_of_session x.setting s) (generation_of (seen x) s) (calls_of (seen x) s) x.reading m step answer) x)) j ≡ true
    → (d : DeltaRec) × (delta_in (record_in x.setting.layout bytes) ≡ Some d) × (d.lockspace ≡ s.lockspace) × (d.id ≡ s.id)
unfolding next_in_joining
read_first_on x s j step m Written bytes its same given runs = absurd (none_some bytes given)
read_first_on x s j step m Failed bytes its same given runs = absurd (none_some bytes given)
read_first_on x s j FirstRead m (Read b) bytes its same given runs =
    let eq : b ≡ bytes = some_value b bytes given in
    subst (λ c. (d : DeltaRec) × (delta_in (record_in x.setting.layout c) ≡ Some d) × (d.lockspace ≡ s.lockspace) × (d.id ≡ s.id)) eq (first_spells x s j b its runs)
read_first_on x s j WatchRead m (Read b) bytes its same given runs = absurd (false_is_true same)
read_first_on x s j DecidingRead m (Read b) bytes its same given runs = absurd (false_is_true same)
read_first_on x s j ClaimWrite m (Read b) bytes its same given runs = absurd (false_is_true same)
read_first_on x s j VerifyRead m (Read b) bytes its same given runs = absurd (false_is_true same)
read_first_on x s j FirstRenewal m (Read b) bytes its same given runs = absurd (false_is_true same)

watch_on : (x : Step) (s : Session) (j : ℕ) (step : JoinStep) (m : Submitted) (answer : Answer) (bytes : List ℕ) → s.job ≡ Some j → same_join_step WatchRead step ≡ true → bytes_given answer ≡ Some bytes
    → is_running (seen (carry_delta s (next_in_joining (delta_of_session x.setting s) (generation_of (seen x) s) (calls_of (seen x) s) x.reading m step answer) x)) j ≡ true → watched (calls_of (seen x) s) ≡ bytes
unfolding next_in_joining
watch_on x s j step m Written bytes its same given runs = absurd (none_some bytes given)
watch_on x s j step m Failed bytes its same given runs = absurd (none_some bytes given)
watch_on x s j WatchRead m (Read b) bytes its same given runs = watch_same x s j (calls_of (seen x) s) m.reading b its runs ∙ some_value b bytes given
watch_on x s j FirstRead m (Read b) bytes its same given runs = absurd (false_is_true same)
watch_on x s j DecidingRead m (Read b) bytes its same given runs = absurd (false_is_true same)
watch_on x s j ClaimWrite m (Read b) bytes its same given runs = absurd (false_is_true same)
watch_on x s j VerifyRead m (Read b) bytes its same given runs = absurd (false_is_true same)
watch_on x s j FirstRenewal m (Read b) bytes its same given runs = absurd (false_is_true same)

-- A call is no first and further read at once.
pub both_steps : (p : Purpose) → is_join_call FirstRead p ≡ true → is_join_call WatchRead p ≡ true → ⊥
both_steps (Joining j FirstRead) first watches = false_is_true watches
both_steps (Joining j WatchRead) first watches = false_is_true first
both_steps (Joining j DecidingRead) first watches = false_is_true first
both_steps (Joining j ClaimWrite) first watches = false_is_true first
both_steps (Joining j VerifyRead) first watches = false_is_true first
both_steps (Joining j FirstRenewal) first watches = false_is_true first
both_steps Renewal first watches = false_is_true first
both_steps Survey first watches = false_is_true first
both_steps (Leaving j) first watches = false_is_true first
both_steps (Lease work step) first watches = false_is_true first
both_steps (RequestRead j) first watches = false_is_true first
both_steps (RequestWrite j owner) first watches = false_is_true first
both_steps SeeRequest first watches = false_is_true first
both_steps (ValueWrite j) first watches = false_is_true first
both_steps (ValueRead j) first watches = false_is_true first

onward_joining : (x : Step) (s : Session) (n : DeltaNext) → IsLateDelta n → Onward x (carry_delta s n x)
onward_joining x s n k =
    delta (Growing x) (Onward x) (NameReply x) (λ z path p o op. is_join_call FirstRead p ≡ false) AnyStart AnyMove (goes_onward x (λ z path p o op. is_join_call FirstRead p ≡ false) (λ z path p o op may. may)) x s n
    (grows_joining x s n (λ r after. late x r after) k) (growing_itself x)

joins_watched : (x : Step) (s : Session) (j : ℕ) (step : JoinStep) (m : Submitted) (answer : Answer) → Hears x s m answer → m.call.purpose ≡ Joining j step → is_running (seen x) j ≡ true → KnowsWatches x
    → HasWatchesPlainly (carry_delta s (next_in_joining (delta_of_session x.setting s) (generation_of (seen x) s) (calls_of (seen x) s) x.reading m step answer) x)
joins_watched x s j step m answer hears is runs k =
    plain_watches x y hears.number answer hears.heard g (watch_facts_are_kept.joins_on x s j step m answer hears is runs k) one_well first_well watch_well where
      h : Whole x
      h = k.0

      n : DeltaNext
      n = next_in_joining (delta_of_session x.setting s) (generation_of (seen x) s) (calls_of (seen x) s) x.reading m step answer

      y : Step
      y = carry_delta s (next_in_joining (delta_of_session x.setting s) (generation_of (seen x) s) (calls_of (seen x) s) x.reading m step answer) x

      g : Onward x (carry_delta s (next_in_joining (delta_of_session x.setting s) (generation_of (seen x) s) (calls_of (seen x) s) x.reading m step answer) x)
      g = onward_joining x s n (joining_late (delta_of_session x.setting s) (generation_of (seen x) s) (calls_of (seen x) s) x.reading m step answer)

      w : Working x s j
      w = heard_working x s j step m answer h hears is runs

      newest : (ms : List Submitted) × (calls_of (seen x) s ≡ m ∷ ms)
      newest = newest_heard x s m answer h hears (working_unjoined x s j w)

      ordered : is_ordered (calls_of (seen x) s) ≡ true
      ordered = joinings_are_ordered x.setting (seen x) s h.orderly w.has (working_unjoined x s j w)

      for : (z : Session) (at : JoinStep) (d : Submitted) (bytes : List ℕ) → HeardRead x y z at d bytes → HeardFor x s z m d
      for z at d bytes r = read_is x y hears.number answer s z at m d bytes hears.heard hears.call hears.session h.facts.calls g r

      running : (z : Session) (at : JoinStep) (d : Submitted) (bytes : List ℕ) → HeardRead x y z at d bytes → is_running (seen y) j ≡ true
      running z at d bytes r =
          subst (λ q. is_running (seen y) q ≡ true) (some_value r.plain.job j (sym r.plain.its ∙ (ap (λ (q : Session). q.job) (for z at d bytes r).session ∙ w.its))) r.plain.runs

      inside_then : (at : JoinStep) (d : Submitted) (bytes : List ℕ) → HasRead y.setting (seen y) None s at d bytes → Contains (calls_of (seen x) s) d
      inside_then at d bytes r =
          let mine = kept_inside (is_call_of s) (submitted (seen y)) d r.inside in kept (is_call_of s) (submitted (seen x)) d mine.1 (g.old d mine.0 (given_answered d bytes r.given))

      -- what the heard read gave
      gives : (bytes : List ℕ) → gave m ≡ Some bytes → bytes_given answer ≡ Some bytes
      gives bytes given = by m.answer refl where
        by : (o : Option Answered) → m.answer ≡ o → bytes_given answer ≡ Some bytes
        by None none = absurd (heard_answered x s m answer hears none)
        by (Some a) it = ap (λ b. bytes_given b) (sym (heard_answer x s m answer a h hears it)) ∙ (sym (ap (λ o. option_and_then (λ (b : Answered). bytes_given b.answer) o) it) ∙ given)

      one_well : (z : Session) (d : Submitted) (bytes : List ℕ) → HeardRead x y z FirstRead d bytes → (d : DeltaRec) × (delta_in (record_in y.setting.layout bytes) ≡ Some d) × (d.lockspace ≡ z.lockspace) × (d.id ≡ z.id)
      one_well z d bytes r =
          let f = for z FirstRead d bytes r in
          let same = one_step m.call.purpose j FirstRead step is (subst (λ (q : Submitted). is_join_call FirstRead q.call.purpose ≡ true) f.call r.plain.for) in
          let k = read_first_on x s j step m answer bytes w.its same (gives bytes (subst (λ (q : Submitted). gave q ≡ Some bytes) f.call r.plain.given)) (running z FirstRead d bytes r) in
          (k.0, ap (λ (st : Setting). delta_in (record_in st.layout bytes)) g.setting ∙ k.1, k.2 ∙ ap (λ (q : Session). q.lockspace) (sym f.session), k.3 ∙ ap (λ (q : Session). q.id) (sym f.session))

      -- nothing comes before a first read
      alone : (ms : List Submitted) → calls_of (seen x) s ≡ m ∷ ms → is_join_call FirstRead m.call.purpose ≡ true → (d : Submitted) → Contains (calls_of (seen x) s) d → is_join_call WatchRead d.call.purpose ≡ true → ⊥
      alone [] are look d there watches =
          let one : m ≡ d = contains_only m d (subst (λ ks. Contains ks d) are there) in both_steps d.call.purpose (subst (λ (q : Submitted). is_join_call FirstRead q.call.purpose ≡ true) one look) watches
      alone (c ∷ cs) are look d there watches =
          let both = and_true (may_come (c ∷ cs) m.call.purpose) (is_ordered (c ∷ cs)) (subst (λ ks. is_ordered ks ≡ true) are ordered) in
          not_both (is_join_call FirstRead m.call.purpose) look (first_is_last c.call.purpose m.call.purpose both.0)

      first_well : (z : Session) (f d : Submitted) (first bytes : List ℕ) → HeardRead x y z FirstRead f first → HasRead y.setting (seen y) None z WatchRead d bytes → first ≡ bytes
      first_well z f d first bytes r q =
          let e = for z FirstRead f first r in
          absurd (alone newest.0 newest.1 (subst (λ (c : Submitted). is_join_call FirstRead c.call.purpose ≡ true) e.call r.plain.for) d
          (inside_then WatchRead d bytes (subst (λ c. HasRead y.setting (seen y) None c WatchRead d bytes) e.session q)) q.for)

      watch_well : (z : Session) (f d : Submitted) (first bytes : List ℕ) → HasRead y.setting (seen y) None z FirstRead f first → HeardRead x y z WatchRead d bytes → first ≡ bytes
      watch_well z f d first bytes r q =
          let e = for z WatchRead d bytes q in
          let same = one_step m.call.purpose j WatchRead step is (subst (λ (c : Submitted). is_join_call WatchRead c.call.purpose ≡ true) e.call q.plain.for) in
          let mine = inside_then FirstRead f first (subst (λ c. HasRead y.setting (seen y) None c FirstRead f first) e.session r) in
          let found : join_call (calls_of (seen x) s) FirstRead ≡ Some f = one_first (calls_of (seen x) s) f ordered mine r.for in
          let watches : watched (calls_of (seen x) s) ≡ first = ap (λ o. unwrap_or (option_and_then gave o) []) found ∙ ap (λ o. unwrap_or o []) r.given in
          sym watches ∙ watch_on x s j step m answer bytes w.its same (gives bytes (subst (λ (c : Submitted). gave c ≡ Some bytes) e.call q.plain.given)) (running z WatchRead d bytes q)

-- Of a joining that was refused.
ended_watched : (x : Step) (s : Session) (j : ℕ) (step : JoinStep) (m : Submitted) (answer : Answer) → Hears x s m answer → m.call.purpose ≡ Joining j step → is_running (seen x) j ≡ false → KnowsWatches x → HasWatchesPlainly (remove_of_refused s x)
ended_watched x s j step m answer hears is stops k =
    unread_watches x y hears.number answer hears.heard walked (watch_facts_are_kept.ends_joining x s j step m answer hears is stops k) (λ z at d bytes r.
    let f = read_is x y hears.number answer s z at m d bytes hears.heard hears.call hears.session k.0.facts.calls walked r in
    let job : r.plain.job ≡ j = some_value r.plain.job j (sym r.plain.its ∙ (ap (λ (q : Session). q.job) f.session ∙ its)) in
    not_both (is_running (seen x) j) (still (subst (λ q. is_running (seen y) q ≡ true) job r.plain.runs)) stops)
  where
    y : Step
    y = remove_of_refused s x

    grown_so : Growing x (remove_of_refused s x)
    grown_so = removal_of_refused (Growing x) (Onward x) (NameReply x) (NameCall x) AnyStart AnyMove (goes_on_named x) x s tt (growing_itself x)

    walked : Onward x (remove_of_refused s x)
    walked = onward x (remove_of_refused s x) grown_so

    its : s.job ≡ Some j
    its = joining_of x s m j step (both_of x k.0) (find_inside (λ (z : Submitted). z.call.number == hears.number) (submitted (seen x)) m hears.call).0 hears.session is

    still : is_running (seen (remove_of_refused s x)) j ≡ true → is_running (seen x) j ≡ true
    still runs = grown_so.running j runs

-- ---- where nothing is done

idle_watched : (x : Step) (s : Session) (m : Submitted) (answer : Answer) → Hears x s m answer → (p : Purpose) → m.call.purpose ≡ p → IsIdle x s m answer p → KnowsWatches x → HasWatchesPlainly x
idle_watched x s m answer hears (Joining j step) is idle k = absurd idle
idle_watched x s m answer hears Renewal is idle k = absurd idle
idle_watched x s m answer hears (Leaving j) is idle k = absurd idle
idle_watched x s m answer hears Survey is idle k = unread_other x x s m answer k.0 hears (ap (λ p. is_joining p) is) k.1 (onward_itself x)
idle_watched x s m answer hears (Lease work step) is idle k = unread_other x x s m answer k.0 hears (ap (λ p. is_joining p) is) k.1 (onward_itself x)
idle_watched x s m answer hears (RequestRead j) is idle k = unread_other x x s m answer k.0 hears (ap (λ p. is_joining p) is) k.1 (onward_itself x)
idle_watched x s m answer hears (RequestWrite j owner) is idle k = unread_other x x s m answer k.0 hears (ap (λ p. is_joining p) is) k.1 (onward_itself x)
idle_watched x s m answer hears SeeRequest is idle k = unread_other x x s m answer k.0 hears (ap (λ p. is_joining p) is) k.1 (onward_itself x)
idle_watched x s m answer hears (ValueWrite j) is idle k = unread_other x x s m answer k.0 hears (ap (λ p. is_joining p) is) k.1 (onward_itself x)
idle_watched x s m answer hears (ValueRead j) is idle k = unread_other x x s m answer k.0 hears (ap (λ p. is_joining p) is) k.1 (onward_itself x)

replied_watched : (x : Step) (s : Session) (m : Submitted) (answer : Answer) (j : ℕ) (r : Reply) → KnowsWatches x → Hears x s m answer → is_joining m.call.purpose ≡ false → is_special r ≡ false → HasWatchesPlainly (add_reply j r x)
replied_watched x s m answer j r k hears other after =
    unread_other x (add_reply j r x) s m answer k.0 hears other (reply_watches x j r k.1) (onward x (add_reply j r x) ((goes_on_named x).replies x j r (late x r after) (growing_itself x)))

late_watched : (x : Step) (n : ℕ) (answer : Answer) (m : Submitted) (s : Session) → x.input ≡ Told n answer → call_numbered (seen x) n ≡ Some m → session_numbered x.setting (seen x) m.call.session ≡ Some s
    → is_present (seen (with_input Wake x)) s ≡ false → KnowsWatches x → HasWatchesPlainly x
late_watched x n answer m s told found session gone k =
    unread_watches x x n answer told (onward_itself x) k.1 (λ z step w bytes r.
    let for = read_is x x n answer s z step m w bytes told found session k.0.facts.calls (onward_itself x) r in
    let present : is_present (seen (with_input Wake x)) z ≡ true =
    at_work_is_present (seen (with_input Wake x)) z (running_unjoined (seen x) z r.plain.job r.plain.its r.plain.runs) (running_unrefused (seen x) z r.plain.job r.plain.its r.plain.runs)
    in
    not_both (is_present (seen (with_input Wake x)) z) present (subst (λ q. is_present (seen (with_input Wake x)) q ≡ false) (sym for.session) gone))

none_watched : (x : Step) (n : ℕ) (answer : Answer) → x.input ≡ Told n answer → call_numbered (seen x) n ≡ None → KnowsWatches x → HasWatchesPlainly x
none_watched x n answer told none k =
    unread_watches x x n answer told (onward_itself x) k.1 (λ z step w bytes r.
    let mine = kept_inside (is_call_of z) (submitted (seen x)) w r.plain.inside in
    let number : n ≡ w.call.number = some_value n w.call.number (ap (λ i. heard_by i) (sym told) ∙ r.heard) in
    none_some w (sym none ∙ subst (λ q. call_numbered (seen x) q ≡ Some w) (sym number) (k.0.facts.calls.found w mine.0)))

-- ---- what may still come in the entry

plain_move : (x : Step) (m : Move) → HasWatchesPlainly x → HasWatchesPlainly (add_move m x)
plain_move x m h = watches_kept x.setting (seen x) (seen (add_move m x)) None None (record { all = λ s there. there; running = λ n is. is; calls = λ s d bytes there inside given other. (d, inside, refl, given, other) }) h

plain_call : (x : Step) (s : Session) (path : List ℕ) (p : Purpose) (o : ℕ) (op : Op) → is_join_call FirstRead p ≡ false → HasWatchesPlainly x → HasWatchesPlainly (add_call_of s.number path p o op x)
plain_call x s path p o op no_look h =
    let g : Onward x (add_call_of s.number path p o op x) = (goes_onward x (λ z q t u v. is_join_call FirstRead t ≡ false) (λ z q t u v may. may)).calls x s path p o op no_look (growing_itself x) in
    watches_kept x.setting (seen x) (seen (add_call_of s.number path p o op x)) None None
    (record {
      all = λ z there. subst (λ ss. Contains ss z) g.all there;
      running = λ n is. is;
      calls = λ z m bytes there inside given other.
          let mine = kept_inside (is_call_of z) (submitted (seen (add_call_of s.number path p o op x))) m inside in
          (m, kept (is_call_of z) (submitted (seen x)) m mine.1 (g.old m mine.0 (given_answered m bytes given)), refl, given, other);
    }) h

-- A signal leaves it.
pub signal_watched : (x : Step) (p : ℕ) (signal : Signal) → HasWatchesPlainly x → HasWatchesPlainly (add_signal p signal x)
signal_watched x p signal h = watches_kept x.setting (seen x) (seen (add_signal p signal x)) None None (record { all = λ s there. there; running = λ n is. is; calls = λ s d bytes there inside given other. (d, inside, refl, given, other) }) h

frees_watched : (x : Step) (s : Session) → HasWatchesPlainly x → HasWatchesPlainly (carry_delta s (next_free (delta_of_session x.setting s) x.reading (delta_known x.setting (seen x) s)) x)
unfolding carry_delta
frees_watched x s h =
    on_option (λ n. HasWatchesPlainly (carry_delta s n x)) k.leaving Nothing (λ j. elim k.freed [ true ↦ Nothing | false ↦ WriteFree j d ]) h
    (λ j. on_bool (λ n. HasWatchesPlainly (carry_delta s n x)) k.freed (WriteFree j d) Nothing (plain_call x s s.path (Leaving j) (own_offset x.setting s) (WriteRecord (DeltaIs d)) refl h) h)
  where
    k : DeltaKnown
    k = delta_known x.setting (seen x) s

    d : DeltaRec
    d = delta_record (delta_of_session x.setting s) Free (delta_known x.setting (seen x) s).generation ((delta_known x.setting (seen x) s).seq + 1) x.reading no_bits

-- ---- all acts of an answer

pub watch_facts_conclude : Concludes KnowsWatches (λ x. Whole x × HasWatchesPlainly x) HasWatchesPlainly
unfolding after_value_read
watch_facts_conclude =
    record {
      finds_none = λ x n answer told none k. none_watched x n answer told none k;
      finds_nobody = λ x n answer m told found nobody k.
          let there = (find_inside (λ (z : Submitted). z.call.number == n) (submitted (seen x)) m found).0 in
          let s = some_of (session_numbered x.setting (seen x) m.call.session) (k.0.facts.calls.owned m there) in absurd (none_some s.0 (sym nobody ∙ s.1));
      comes_late = λ x n answer m s told found session gone k. late_watched x n answer m s told found session gone k;
      idles = λ x s m answer hears idle k. idle_watched x s m answer hears m.call.purpose refl idle k;
      joins_on = λ x s j step m answer hears is runs k. joins_watched x s j step m answer hears is runs k;
      ends_joining = λ x s j step m answer hears is stops k. ended_watched x s j step m answer hears is stops k;
      renewed = λ x s m answer hears is k.
          let n : DeltaNext = next_after_renewal (is_some (recovery_of x.setting (seen x) s)) m.reading answer in
          unread_other x (carry_delta s n x) s m answer k.0 hears (ap (λ p. is_joining p) is) (watch_facts_are_kept.renewed x s m answer hears is k)
          (delta (Growing x) (Onward x) (NameReply x) (NameCall x) AnyStart AnyMove (goes_on_named x) x s n
          (renewed_named x s (is_some (recovery_of x.setting (seen x) s)) m.reading answer (has_heard x s m answer hears) (heard_joined x s m answer Renewal k.0 hears is refl)) (growing_itself x));
      freed = λ x s j m answer hears is k.
          let n : DeltaNext = next_after_free j m.call.number answer in
          unread_other x (carry_delta s n x) s m answer k.0 hears (ap (λ p. is_joining p) is) (watch_facts_are_kept.freed x s j m answer hears is k)
          (delta (Growing x) (Onward x) (NameReply x) (NameCall x) AnyStart AnyMove (goes_on_named x) x s n (freed_named x s j m.call.number answer) (growing_itself x));
      shown = λ x s m bytes hears is joined begins k.
          unread_other x (signal_and_refuse s None x) s m (Read bytes) k.0 hears (ap (λ p. is_joining p) is) (watch_facts_are_kept.shown x s m bytes hears is joined begins k)
          (onward x (signal_and_refuse s None x)
          (stopped (Growing x) (Onward x) (NameReply x) (NameCall x) AnyStart AnyMove (goes_on_named x) tt x s None
          (λ z g j there. late_on_survey x s m (Read bytes) (Recovering (last_renewal z.setting (seen z) s)) k.0.facts.calls hears (ap (λ p. job_of p) is)) (growing_itself x)));
      sees = λ x s number bytes spot g has input held k. plain_call x s g.path SeeRequest (request_offset x.setting.layout g.offset) (ReadSectors 1) refl k.1;
      leads_on = λ x s work step m answer aim hears is on aims k.
          let spot : Spot = spot_of_call x.setting.layout m in
          let n : LeaseNext = next_of_lease x.setting (seen x) s spot aim m step answer in
          unread_other x (carry_lease s spot work n x) s m answer k.0 hears (ap (λ p. is_joining p) is) (watch_facts_are_kept.leads_on x s work step m answer aim hears is on aims k)
          (lease (Growing x) (Onward x) (NameReply x) (NameCall x) AnyStart AnyMove (goes_on_named x) x s spot work n
          (lease_named x x s spot work n (has_heard x s m answer hears) (heard_joined x s m answer (Lease work step) k.0 hears is refl)
          (λ r same. late x r (subst (λ q. IsLateLease q) same (lease_late (lease_place x.setting s) (known x.setting (seen x) s spot) aim m.call.number (lver_written m) step answer)))) (growing_itself x));
      fails = λ x s m j hears lone runs k. replied_watched x s m Failed j (IoFault m.call.number) k hears (lone_other_job m.call.purpose j lone).1 refl;
      has_asked = λ x s m j owner hears is runs k. replied_watched x s m Written j Done k hears (ap (λ p. is_joining p) is) refl;
      has_set = λ x s m j hears is runs k. replied_watched x s m Written j (set_reply m) k hears (ap (λ p. is_joining p) is) (set_late m);
      asks = λ x s m j bytes c hears is runs reads_it k.
          unread_other x (after_request_read s j bytes c x) s m (Read bytes) k.0 hears (ap (λ p. is_joining p) is) (watch_facts_are_kept.asks x s m j bytes c hears is runs reads_it k)
          (requested (Growing x) (Onward x) (NameReply x) (NameCall x) AnyStart AnyMove (goes_on_named x) x s j bytes c
          (request_named x s j bytes c (has_heard x s m (Read bytes) hears) (heard_joined x s m (Read bytes) (RequestRead j) k.0 hears is refl)) (growing_itself x));
      tells = λ x s m j bytes hears is runs k. replied_watched x s m (Read bytes) j (value_reply x.setting.layout bytes) k hears (ap (λ p. is_joining p) is) (value_late x.setting.layout bytes);
      warns = λ x s m bytes g signal hears is held own says k.
          unread_other x (send g.process signal x) s m (Read bytes) k.0 hears (ap (λ p. is_joining p) is) (watch_facts_are_kept.warns x s m bytes g signal hears is held own says k)
          (onward x (send g.process signal x) (sent (Growing x) (Onward x) (NameReply x) (NameCall x) AnyStart AnyMove (goes_on_named x) tt x g.process signal (growing_itself x)));
      parts = λ x s has joined recovers_one free quiet k.
          when_keeps HasWatchesPlainly (is_registered x.setting (seen x) s.lockspace) (add_move (Unregister s.lockspace)) x (λ there h. plain_move x (Unregister s.lockspace) h) k.1;
      frees = λ x s has joined well free quiet k. frees_watched x s k.1;
    }
