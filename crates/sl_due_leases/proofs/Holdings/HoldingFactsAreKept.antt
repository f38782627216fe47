-- The facts of holdings are kept by each act, and hold once a step has begun.
use Rattle.sl_due_facts.proofs.Acts.InputsKeep.{has_heard}
use Rattle.sl_due_facts.proofs.Acts.Pairs.Decisions.{settling_is}
use Rattle.sl_due_facts.specs.Acts.Acts.{Has, Hears, next_of_settling}
use Rattle.sl_due_facts.specs.Acts.TraceSoFar.{entry_of}
use Rattle.sl_area.specs.AreaLayout.{request_offset}
use Rattle.sl_due.specs.DueAnswers.{set_reply}
use Rattle.sl_due.specs.CarriedDelta.{carry_delta, see_request}
use Rattle.sl_due.specs.DueTimeOuts.{remove_connection, remove_of_refused}
use Rattle.sl_due.specs.DueInputs.{end_holdings, leave_holdings, started_reply}
use Rattle.sl_due.specs.CarriedLease.{carry_lease}
use Rattle.sl_due.specs.DueRequests.{after_request_read, bits_due, after_value_read, owner_read, request_refusal, value_reply, write_request}
use Rattle.sl_due.specs.Steps.{Step, add_reply, seen, when, with_input}
use Rattle.sl_due_leases.proofs.Holdings.HoldersSpared.{NoneHeldOf, none_of_empty, none_of_writer, removal_held}
use Rattle.sl_due_leases.proofs.Holdings.HoldingsByAnswers.{led_held}
use Rattle.sl_due_leases.proofs.Holdings.HoldingsByCalls.{call_added, call_held}
use Rattle.sl_due_leases.proofs.Holdings.HoldingsByDeltas.{freed_held, frees_held, joins_held, plain_spared, refused_held, renewed_held, renews_held}
use Rattle.sl_due_leases.proofs.Holdings.HoldingsByEffects.{HoldsAt, later_same, reply_held, signal_held, unanswered_same, waking_same}
use Rattle.sl_due_leases.proofs.Holdings.HoldingsByExits.{left_held}
use Rattle.sl_due_leases.proofs.Holdings.HoldingsByInputs.{answer_held, calls_marked, input_held}
use Rattle.sl_due_leases.proofs.Holdings.HoldingsByLeases.{IsNoGrant, carried_held}
use Rattle.sl_due_leases.proofs.Holdings.HoldingsByLines.{lines_held}
use Rattle.sl_due_leases.proofs.Holdings.HoldingsByLoops.{AnswersNoJob, ended_held, refused_jobs_held, said_held, sent_held, signalled_held, stopped_held}
use Rattle.sl_due_leases.proofs.Holdings.LeaseBeside.{DoesBeside, settles_beside}
use Rattle.sl_due_leases.proofs.Holdings.LeaseCallers.{heard_call, in_turn_fits, mine_heard}
use Rattle.sl_due_leases.proofs.Holdings.LeaseNexts.{IsPlainNext, settling_fits}
use Rattle.sl_due_leases.specs.Holdings.Moments.{Known}
use Rattle.sl_due_leases.specs.Holdings.HoldingLaws.{HoldingFactsAreKept}
use Rattle.sl_due_facts.proofs.Jobs.CallsStay.{is_special}
use Rattle.sl_due_facts.proofs.Jobs.RepliesComeAfter.{IsLateDelta, joining_late, request_late, set_late, value_late, wake_late}
use Rattle.sl_run.specs.Lawful.{Orderly}
use Rattle.sl_trace.specs.Jobs.{command_numbered, job_of_start}
use Rattle.sl_trace.specs.LeaseDecisions.{lease_place, settle_next}
use Rattle.sl_trace.specs.Leases.{known}
use Rattle.sl_trace.specs.declared.lease.LeaseNext.TheVariants.{AnswerJob, BecomeExclusive, BecomeShared, GrantJob, Nothing, ReadFor, WriteBlock, WriteLeader}
use Rattle.sl_trace.specs.declared.lease.LeaseNext.{LeaseNext}
use Rattle.sl_words.proofs.Lists.{any_found, contains_map, contains_none, find_fails, got_inside, kept, kept_inside}
use Rattle.sl_words.proofs.Numbers.{number_itself}
use Rattle.sl_words.proofs.Options.{none_is, some_of}
use Rattle.sl_words.proofs.Truth.{left_is_false, or_false}
use Rattle.sl_sector.specs.declared.sector.Rec.TheVariants.{RequestIs}
use Rattle.sl_trace.specs.DeltaDecisions.{delta_of_session, next_after_free, next_in_joining, next_on_wake}
use Rattle.sl_trace.specs.Sessions.{calls_of, free_write, generation_of, has_open_write, holdings_of, is_call_of, is_free_purpose, is_join_done, is_joined, joined_after, open_calls_of, recovery_of, refused_after, removed_after, sessions}
use Rattle.sl_trace.specs.declared.delta.DeltaNext.TheVariants.{RefuseJoin}
use Rattle.sl_trace.specs.declared.delta.DeltaNext.{DeltaNext}
use Rattle.sl_trace.specs.declared.session.Session.{Session}
use Rattle.sl_due_facts.specs.Facts.CallFacts.{CallFacts}
use Rattle.sl_due_facts.specs.Facts.HeardCall.{IsOpen, heard_by}
use Rattle.sl_due_facts.specs.Facts.JobFacts.{FitsCommand}
use Rattle.sl_trace.specs.Traces.{Submitted, answer_of, answered_in, call_numbered, holdings, is_before_input, is_running, is_write, job_of, mark, next_job, submitted}
use Rattle.sl_trace.specs.declared.command.Command.TheVariants.{Acquire, AddLockspace, Convert, GetLvb, HostStatus, InqLockspace, Release, ReleaseOrphan, RemLockspace, Request, RunProgram, SetKillpath, SetLvb, Status, TakeOver}
use Rattle.sl_trace.specs.declared.command.Command.{Command}
use Rattle.sl_trace.specs.declared.effects.Call.{Call}
use Rattle.sl_trace.specs.declared.effects.Grant.{Grant}
use Rattle.sl_trace.specs.declared.effects.JoinStep.{JoinStep}
use Rattle.sl_trace.specs.declared.effects.Op.TheVariants.{ReadSectors, WriteRecord}
use Rattle.sl_trace.specs.declared.effects.Purpose.TheVariants.{Joining, Leaving, RequestWrite, SeeRequest, Survey}
use Rattle.sl_trace.specs.declared.effects.Signal.TheVariants.{Kill, Term}
use Rattle.sl_trace.specs.declared.effects.Spot.{Spot}
use Rattle.sl_trace.specs.declared.effects.Work.TheVariants.{Settling}
use Rattle.sl_trace.specs.declared.input.Answer.TheVariants.{Read}
use Rattle.sl_trace.specs.declared.input.Answer.{Answer}
use Rattle.sl_trace.specs.declared.input.Input.TheVariants.{Exit, Line, Number, Spawned, Wake}
use Rattle.sl_trace.specs.declared.reply.Reply.TheVariants.{BadCommand as Misread, Done, IoFault, IoTimeout, SpawnFault}
use Rattle.sl_trace.specs.declared.reply.Reply.{Reply}
use Rattle.sl_run_law.proofs.Sessions.WritesAreCovered.{joinings_are_in_turn}
use Rattle.sl_run_law.proofs.Sessions.CallsAreMade.{same_answered}
use Rattle.sl_run_law.proofs.Sessions.MarksStay.{refused_apart}
use Rattle.sl_run_law.specs.Sessions.SessionLaws.{fits, fits_as}
use Rattle.sl_words.proofs.CaseLaws.{false_is_true, none_some, not_both, one_value, some_value}
use Rattle.std.proofs.Common.{ap, inl, inr, refl, subst, sym, ◌∙◌}
use Rattle.std.proofs.lemmas.Bool.{eqb-true}
use Rattle.std.specs.Option.{option_or}
use Rattle.std.specs.Prelude.{Bool, Contains, List, None, Option, Some, [], false, if◌then◌else◌, is_none, is_some, map, not, true, ℕ, ◌%◌, ◌&&◌, ◌==◌, ◌||◌, ◌≡◌}

-- ---- answers

-- Of replies that come after what they answer and begin nothing.
pub plainly_late : (r : Reply) → is_special r ≡ false → is_before_input r ≡ false
plainly_late r late = left_is_false (is_before_input r) (is_join_done r) late

pub refuses_late : (n : DeltaNext) (r : Reply) → IsLateDelta n → n ≡ RefuseJoin r → is_before_input r ≡ false
refuses_late n r late is = plainly_late r (subst (λ z. IsLateDelta z) is late)

-- Who joins on.
joins_on : (x : Step) (s : Session) (j : ℕ) (step : JoinStep) (m : Submitted) (answer : Answer) → Known x → Hears x s m answer → m.call.purpose ≡ Joining j step → is_running (seen x) j ≡ true
    → HoldsAt (carry_delta s (next_in_joining (delta_of_session x.setting s) (generation_of (seen x) s) (calls_of (seen x) s) x.reading m step answer) x)
joins_on x s j step m answer k hears is runs =
    let n : DeltaNext = next_in_joining (delta_of_session x.setting s) (generation_of (seen x) s) (calls_of (seen x) s) x.reading m step answer in
    let late : IsLateDelta n = joining_late (delta_of_session x.setting s) (generation_of (seen x) s) (calls_of (seen x) s) x.reading m step answer in
    joins_held x s n j k.0.facts.holdings k.0.facts.names (has_heard x s m answer hears) (its_job x s j step m answer k hears is) runs
    (λ r at. later_same x.past (entry_of x) (record { job = j; reply = r }) (refuses_late n r late at)) late where
      its_job : (x : Step) (s : Session) (j : ℕ) (step : JoinStep) (m : Submitted) (answer : Answer) → Known x → Hears x s m answer → m.call.purpose ≡ Joining j step → s.job ≡ Some j
      its_job x s j step m answer k hears is =
          let there = (heard_call x s m answer hears).0 in
          let named = some_of (command_numbered x.setting (seen x) j) (k.0.facts.jobs.called m j there (ap (λ p. job_of p) is)) in
          let f : FitsCommand x.setting s m named.0 m.call.purpose = k.0.facts.jobs.fits m j s named.0 there (ap (λ p. job_of p) is) hears.session named.1 in
          subst (λ p. FitsCommand x.setting s m named.0 p) is f

-- A refused joining's last write is answered.
pub writer_of : (x : Step) (s : Session) (m : Submitted) (answer : Answer) → Hears x s m answer → CallFacts x.setting (seen x) → Orderly x.setting (seen x) → joined_after (seen x) s ≡ None → is_some (refused_after (seen x) s) ≡ true
    → (w : Submitted) × Contains (submitted (seen x)) w × (w.call.session ≡ s.number) × (is_write w.call.op ≡ true) × IsOpen (seen x) (heard_by x.input) w
writer_of x s m answer hears facts order unjoined refused = by (any_found (λ (d : Submitted). is_write d.call.op) (open_calls_of (seen (with_input Wake x)) s) waits) where
  present : (o r : Option ℕ) (b : Bool) → o ≡ None → is_some r ≡ true → (is_none (elim o as (λ z. Option ℕ) [ Some i ↦ removed_after (seen x) s | None ↦ r ]) || (is_none o && b)) ≡ true → b ≡ true
  present None (Some i) b none some h = h
  present None None b none some h = absurd (false_is_true some)
  present (Some i) r b none some h = absurd (none_some i (sym none))

  waits : has_open_write (seen (with_input Wake x)) s ≡ true
  waits = present (joined_after (seen x) s) (refused_after (seen x) s) (has_open_write (seen (with_input Wake x)) s) unjoined refused hears.present

  past_calls : submitted (seen (with_input Wake x)) ≡ submitted x.past
  past_calls = calls_marked (with_input Wake x) hears.bare

  marked : submitted (seen x) ≡ map (answered_in x.past (entry_of x) hears.number answer) (submitted x.past)
  marked = calls_marked x hears.bare ∙ ap (λ i. mark x.past (entry_of x) i (submitted x.past)) hears.heard

  opens : (d : Submitted) → d.answer ≡ None → (b : Bool) → (d.call.number == hears.number) ≡ b → IsOpen (seen x) (heard_by x.input) (answered_in x.past (entry_of x) hears.number answer d)
  opens d none true same =
      inr (
        ap (λ i. heard_by i) hears.heard ∙ ap (λ n. Some n) (sym (ap (λ (c : Call). c.number) (same_answered x.past (entry_of x) hears.number answer d).call ∙ eqb-true d.call.number hears.number same)),
        hears.bare,
      )
  opens d none false other =
      inl (ap (λ b. (elim b as (λ z. Submitted) [ false ↦ d | true ↦ record d { answer = option_or d.answer (Some (answer_of x.past (entry_of x) answer d.call)) } ]).answer) other ∙ none)

  by : (d : Submitted) × Contains (open_calls_of (seen (with_input Wake x)) s) d × (is_write d.call.op ≡ true)
      → (w : Submitted) × Contains (submitted (seen x)) w × (w.call.session ≡ s.number) × (is_write w.call.op ≡ true) × IsOpen (seen x) (heard_by x.input) w
  by f =
      let d : Submitted = f.0 in
      let left = kept_inside (λ (k : Submitted). is_none k.answer) (calls_of (seen (with_input Wake x)) s) d f.1 in
      let mine = kept_inside (is_call_of s) (submitted (seen (with_input Wake x))) d left.0 in
      let w : Submitted = answered_in x.past (entry_of x) hears.number answer d in
      let same = (same_answered x.past (entry_of x) hears.number answer d).call in (
        w,
        subst (λ ms. Contains ms w) (sym marked) (contains_map (answered_in x.past (entry_of x) hears.number answer) (submitted x.past) d (subst (λ ms. Contains ms d) past_calls mine.0)),
        ap (λ (c : Call). c.session) same ∙ eqb-true d.call.session s.number mine.1,
        ap (λ (c : Call). is_write c.op) same ∙ f.2,
        opens d (none_is d.answer left.1) (d.call.number == hears.number) refl,
      )

ends_joining : (x : Step) (s : Session) (m : Submitted) (answer : Answer) → Known x → Hears x s m answer → HoldsAt (remove_of_refused s x)
ends_joining x s m answer k hears = by (is_some (refused_after (seen x) s)) (has_open_write (seen x) s) refl where
  there : Contains (sessions x.setting (seen x)) s
  there = got_inside (sessions x.setting (seen x)) s.number s (has_heard x s m answer hears)

  removed : (o : Option ℕ) → refused_after (seen x) s ≡ o → is_some (refused_after (seen x) s) ≡ true → HoldsAt (remove_connection s.lockspace x)
  removed None none is = absurd (not_both (is_some (refused_after (seen x) s)) is (ap (λ o. is_some o) none))
  removed (Some i) at is =
      let unjoined : joined_after (seen x) s ≡ None = refused_apart (seen x) s i at in
      let w = writer_of x s m answer hears k.0.facts.calls k.0.orderly unjoined is in
      removal_held x s.lockspace (none_of_writer x s w.0 k.0.facts.holdings k.0.facts.connections there unjoined w.1 w.2 w.3 w.4) k.0.facts.holdings

  by : (a b : Bool) → is_some (refused_after (seen x) s) ≡ a → HoldsAt (when (a && not b) (remove_connection s.lockspace) x)
  by true false is = removed (refused_after (seen x) s) refl is
  by true true is = k.0.facts.holdings
  by false b is = k.0.facts.holdings

-- Who leaves holds nothing.
freed : (x : Step) (s : Session) (j : ℕ) (m : Submitted) (answer : Answer) → Known x → Hears x s m answer → m.call.purpose ≡ Leaving j → HoldsAt (carry_delta s (next_after_free j m.call.number answer) x)
freed x s j m answer k hears is = freed_held x s j m.call.number answer none k.0.facts.holdings where
  there : Contains (sessions x.setting (seen x)) s
  there = got_inside (sessions x.setting (seen x)) s.number s (has_heard x s m answer hears)

  written : (o : Option Submitted) → free_write (calls_of (seen x) s) ≡ o → (w : Submitted) × (free_write (calls_of (seen x) s) ≡ Some w)
  written (Some w) at = (w, at)
  written None at =
      absurd (not_both (is_free_purpose m.call.purpose) (ap (λ p. is_free_purpose p) is) (find_fails (λ (d : Submitted). is_free_purpose d.call.purpose) (calls_of (seen x) s) m at (mine_heard x s m answer hears)))

  empty : holdings_of (seen x) s ≡ []
  empty = let w = written (free_write (calls_of (seen x) s)) refl in (k.0.facts.delta.frees s w.0 there w.1).1

  number : (g : Grant) → Contains (holdings (seen x)) g → g.session ≡ s.number → ⊥
  number g held its =
      contains_none g (subst (λ gs. Contains gs g) empty (kept (λ (e : Grant). e.session == s.number) (holdings (seen x)) g (subst (λ n. (n == s.number) ≡ true) (sym its) (number_itself s.number)) held))

  none : NoneHeldOf x s.lockspace
  none = of_joined (joined_after (seen x) s) refl where
    of_joined : (o : Option ℕ) → joined_after (seen x) s ≡ o → NoneHeldOf x s.lockspace
    of_joined (Some i) joined =
        none_of_empty x s k.0.facts.holdings k.0.facts.names there (has_heard x s m answer hears) (still i joined) empty where
          left : (o : Option ℕ) → o ≡ Some i → (is_none (elim o as (λ z. Option ℕ) [ Some n ↦ removed_after (seen x) s | None ↦ refused_after (seen x) s ]) || (is_none o && has_open_write (seen (with_input Wake x)) s)) ≡ true
              → is_none (removed_after (seen x) s) ≡ true
          left (Some n) at h = or_false (is_none (removed_after (seen x) s)) h
          left None at h = absurd (none_some i at)

          still : (n : ℕ) → joined_after (seen x) s ≡ Some n → is_joined (seen x) s ≡ true
          still n at = ap (λ o. is_some o && is_none (removed_after (seen x) s)) at ∙ left (joined_after (seen x) s) joined hears.present
    of_joined None unjoined =
        absurd (not_both (fits m) (in_turn_fits (calls_of (seen x) s) m (joinings_are_in_turn x.setting (seen x) s k.0.orderly (has_heard x s m answer hears) unjoined) (mine_heard x s m answer hears))
        (ap (λ p. fits_as p (is_write m.call.op)) is))

-- A survey is no job's.
pub surveys_no_job : (x : Step) (s : Session) (m : Submitted) (answer : Answer) → Known x → Hears x s m answer → m.call.purpose ≡ Survey → AnswersNoJob x.past x.input
surveys_no_job x s m answer k hears is n w d input there number =
    let marked : submitted (seen x) ≡ map (answered_in x.past (entry_of x) hears.number answer) (submitted x.past) =
    calls_marked x hears.bare ∙ ap (λ i. mark x.past (entry_of x) i (submitted x.past)) hears.heard in
    let f : Submitted → Submitted = answered_in x.past (entry_of x) hears.number answer in
    let same = (same_answered x.past (entry_of x) hears.number answer d).call in
    let here : Contains (submitted (seen x)) (f d) = subst (λ ms. Contains ms (f d)) (sym marked) (contains_map f (submitted x.past) d there) in
    let at : n ≡ hears.number = some_value n hears.number (ap (λ i. heard_by i) (sym input ∙ hears.heard)) in
    let its : (f d).call.number ≡ hears.number = ap (λ (c : Call). c.number) same ∙ (number ∙ at) in
    let one : f d ≡ m = one_value (f d) m (call_numbered (seen x) hears.number) (subst (λ j. call_numbered (seen x) j ≡ Some (f d)) its (k.0.facts.calls.found (f d) here)) hears.call in
    ap (λ (c : Call). job_of c.purpose) (sym same) ∙ (ap (λ (e : Submitted). job_of e.call.purpose) one ∙ ap (λ p. job_of p) is)

asked : (x : Step) (s : Session) (j : ℕ) (bytes : List ℕ) (c : Command) → HoldsAt x → HoldsAt (after_request_read s j bytes c x)
unfolding after_request_read
asked x s j bytes (Request r number force) h = by (request_refusal x.setting.layout s.lockspace r number force bytes) refl where
  by : (o : Option Reply) → request_refusal x.setting.layout s.lockspace r number force bytes ≡ o
      → HoldsAt (elim o as (λ z. Step) [ Some why ↦ add_reply j why x | None ↦ write_request s j (owner_read x.setting.layout bytes) r number force x ])
  by (Some why) at =
      reply_held x j why (later_same x.past (entry_of x) (record { job = j; reply = why }) (plainly_late why (request_late x.setting.layout s.lockspace r number force bytes why at))) h
  by None at =
      call_held x s.number r.path (RequestWrite j (owner_read x.setting.layout bytes)) (request_offset x.setting.layout r.offset)
      (WriteRecord (RequestIs (record { force = force; host = (if number == 0 then 0 else s.id); lver = number })))
      (plain_spared x (call_added s.number r.path (RequestWrite j (owner_read x.setting.layout bytes)) (request_offset x.setting.layout r.offset)
      (WriteRecord (RequestIs (record { force = force; host = (if number == 0 then 0 else s.id); lver = number }))) x) refl refl) h
asked x s j bytes (AddLockspace a) h = h
asked x s j bytes (RemLockspace a) h = h
asked x s j bytes (InqLockspace a) h = h
asked x s j bytes (HostStatus a) h = h
asked x s j bytes (Acquire r shared p persistent) h = h
asked x s j bytes (TakeOver r shared p persistent) h = h
asked x s j bytes (RunProgram r shared path) h = h
asked x s j bytes (Release r p) h = h
asked x s j bytes (ReleaseOrphan r) h = h
asked x s j bytes (Convert r shared p) h = h
asked x s j bytes (GetLvb r p) h = h
asked x s j bytes (SetLvb r p set) h = h
asked x s j bytes (SetKillpath p path) h = h
asked x s j bytes Status h = h

-- What settling does.
settled : (x : Step) (s : Session) (at : Spot) → Known x → Has x s → at.base % x.setting.layout.area ≡ 0 → HoldsAt (carry_lease s at Settling (next_of_settling x.setting (seen x) s at) x)
settled x s at k has aligned =
    carried_held x s at Settling (next_of_settling x.setting (seen x) s at) k.0.facts.holdings k.0.setting has aligned
    (λ g there mine exclusive spot stands.
    settling_is (λ z. DoesBeside stands.own g.lver z) x.setting (seen x) s at (λ paired owes. refl)
    (λ none. subst (λ z. DoesBeside stands.own g.lver (settle_next (lease_place x.setting s) (known x.setting (seen x) s z))) spot (settles_beside x s (lease_place x.setting s) g stands)))
    (plain (next_of_settling x.setting (seen x) s at) (settling_fits (lease_place x.setting s) (known x.setting (seen x) s at))) where
      plain : (n : LeaseNext) → IsPlainNext (known x.setting (seen x) s at) n → IsNoGrant n
      plain Nothing h = tt
      plain (ReadFor step) h = tt
      plain (WriteBlock step b) h = tt
      plain (WriteLeader step l) h = tt
      plain (AnswerJob r) h = h
      plain (GrantJob mode lver) h = absurd h
      plain (BecomeShared lver l) h = absurd h
      plain (BecomeExclusive lver b) h = absurd h

seen_held : (x : Step) (s : Session) (g : Grant) → HoldsAt x → HoldsAt (see_request s g x)
seen_held x s g h =
    call_held x s.number g.path SeeRequest (request_offset x.setting.layout g.offset) (ReadSectors 1)
    (plain_spared x (call_added s.number g.path SeeRequest (request_offset x.setting.layout g.offset) (ReadSectors 1) x) refl refl) h

parted : (x : Step) (s : Session) → Known x → Has x s → is_joined (seen x) s ≡ true → holdings_of (seen x) s ≡ [] → HoldsAt (remove_connection s.lockspace x)
parted x s k has joined empty =
    removal_held x s.lockspace (none_of_empty x s k.0.facts.holdings k.0.facts.names (got_inside (sessions x.setting (seen x)) s.number s has) has joined empty) k.0.facts.holdings

told : (x : Step) (j : ℕ) (r : Reply) → Known x → is_before_input r ≡ false → HoldsAt (add_reply j r x)
told x j r k later = reply_held x j r (later_same x.past (entry_of x) (record { job = j; reply = r }) later) k.0.facts.holdings

-- ---- the whole

pub holding_facts_are_kept : HoldingFactsAreKept
unfolding after_value_read
holding_facts_are_kept =
    record {
      kills = λ x s has due k. signalled_held x Kill s k.0.facts.holdings;
      times_out = λ x j m wake bare runs waits late k.
          refused_held x j (IoTimeout m.call.number m.reading x.reading) k.0.facts.holdings k.0.facts.names runs (waking_same x.past (entry_of x) (record { job = j; reply = IoTimeout m.call.number m.reading x.reading }) wake);
      hears = λ x number answer wake bare expected k. answer_held x number answer wake bare k.0.facts.calls k.0.facts.ways expected k.0.facts.holdings;
      counts = λ x text wake bare k. input_held x (Number text) wake bare refl k.0.facts.holdings;
      exits = λ x p wake bare one k.
          refused_jobs_held (leave_holdings p (with_input (Exit p) x)) p (left_held (with_input (Exit p) x) p (k.1.waking wake).1 (input_held x (Exit p) wake bare refl k.0.facts.holdings));
      exits_as_none = λ x p wake bare none k. input_held x (Exit p) wake bare refl k.0.facts.holdings;
      starts = λ x p ok wake bare expected k. input_held x (Spawned p ok) wake bare refl k.0.facts.holdings;
      fails_to_start = λ x p input k. said_held (end_holdings p x) (job_of_start (seen x) p) SpawnFault refl (ended_held x p k.0.facts.holdings);
      signals_instead = λ x p q input stood k. signal_held x q Term k.0.facts.holdings;
      says_started = λ x p j input is runs k. told x j (started_reply (seen x) p) k refl;
      misreads = λ x text column wake bare says k.
          let y : Step = with_input (Line text) x in
          reply_held y (next_job x.setting (seen x)) (Misread column) (later_same y.past (entry_of y) (record { job = next_job x.setting (seen x); reply = Misread column }) refl) (input_held x (Line text) wake bare refl k.0.facts.holdings);
      answers = λ x text c r wake bare says is k.
          let y : Step = with_input (Line text) x in
          reply_held y (next_job x.setting (seen x)) r (unanswered_same y.past (entry_of y) (record { job = next_job x.setting (seen x); reply = r }) refl) (input_held x (Line text) wake bare refl k.0.facts.holdings);
      carries = λ x text c d wake bare says is more k. lines_held x text c (next_job x.setting (seen x)) d k.0.facts.holdings k.0.setting wake bare (k.1.waking wake).1 says is;
      joins_on = λ x s j step m answer hears is runs k. joins_on x s j step m answer k hears is runs;
      ends_joining = λ x s j step m answer hears is stops k. ends_joining x s m answer k hears;
      renewed = λ x s m answer hears is k. renewed_held x s (is_some (recovery_of x.setting (seen x) s)) m.reading answer k.0.facts.holdings;
      freed = λ x s j m answer hears is k. freed x s j m answer k hears is;
      shown = λ x s m bytes hears is joined begins k. stopped_held x s None (surveys_no_job x s m (Read bytes) k hears is) k.0.facts.holdings;
      sees = λ x s number bytes at g has input held k. seen_held x s g k.0.facts.holdings;
      leads_on = λ x s work step m answer aim hears is on at k. led_held x s work step m answer aim (record { whole = k; hears = hears; purpose = is; on = on; aimed = at });
      fails = λ x s m j hears lone runs k. told x j (IoFault m.call.number) k refl;
      has_asked = λ x s m j owner hears is runs k. told x j Done k refl;
      has_set = λ x s m j hears is runs k. told x j (set_reply m) k (plainly_late (set_reply m) (set_late m));
      asks = λ x s m j bytes c hears is runs at k. asked x s j bytes c k.0.facts.holdings;
      tells = λ x s m j bytes hears is runs k. told x j (value_reply x.setting.layout bytes) k (plainly_late (value_reply x.setting.layout bytes) (value_late x.setting.layout bytes));
      warns = λ x s m bytes g signal hears is held own says k. sent_held x g.process signal k.0.facts.holdings;
      joins_in_time = λ x s j has wake is runs k.
          let n : DeltaNext = next_on_wake (delta_of_session x.setting s) x.reading (calls_of (seen x) s) in
          joins_held x s n j k.0.facts.holdings k.0.facts.names has is runs (λ r at. waking_same x.past (entry_of x) (record { job = j; reply = r }) wake) (wake_late (delta_of_session x.setting s) x.reading (calls_of (seen x) s));
      renews = λ x s has wake joined k. renews_held x s (bits_due x.setting (calls_of (seen x) s) x.reading) has k.0.facts.holdings;
      settles = λ x s at has wake active aligned none k. settled x s at k has aligned;
      parts = λ x s has joined recovers free quiet k. parted x s k has joined free;
      frees = λ x s has joined well free quiet k. frees_held x s has k.0.facts.holdings;
    }
