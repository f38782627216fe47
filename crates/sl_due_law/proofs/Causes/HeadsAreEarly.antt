-- What a step does before its input: it starts kill programs, refuses jobs by recoveries and by time, and removes the connections of refused
-- joinings alone, which no joined session has. And what it does last: it starts nothing and answers nobody.
use Rattle.sl_due_facts.proofs.Acts.AddedAtEnd.{contains_last}
use Rattle.sl_due_facts.proofs.Acts.LoopsKeep.{for_each_keeps, when_keeps, with_some_keeps}
use Rattle.sl_due_law.proofs.Causes.RepliesRun.{before_it}
use Rattle.sl_due_law.proofs.Causes.WakeCauses.{sessions_wake}
use Rattle.sl_due_law.specs.Causes.LineCauses.{HeadsAreEarly, IsBeforeInput, IsSilent, LastIsSilent}
use Rattle.sl_due.specs.Due.{before_input}
use Rattle.sl_due.specs.CarriedDelta.{carry_delta}
use Rattle.sl_due.specs.DueRecovery.{begin_recoveries, begin_recovery, begins_now, kill_holders, kills, kills_holders, send, signal_and_refuse, signal_holders}
use Rattle.sl_due.specs.DueTimeOuts.{is_overdue, refuse, remove_connection, remove_of_refused, time_out, time_outs}
use Rattle.sl_due.specs.DueWake.{end_if_done, finish, finish_session, free_if_done}
use Rattle.sl_due.specs.Steps.{Step, add_move, add_reply, add_signal, add_start, begin_step, seen, when}
use Rattle.sl_due_leases.proofs.Holdings.HoldersSpared.{IsJoining, joined_present, joined_some, joining}
use Rattle.sl_due_leases.proofs.Holdings.PlainPlaces.{text_is}
use Rattle.sl_due_facts.proofs.Jobs.JobsAreNumbered.{below, jobs_before}
use Rattle.sl_due_facts.proofs.Jobs.SessionsArePresent.{present_inside}
use Rattle.sl_due_facts.proofs.AddedEffects.CallsGrow.{any_more}
use Rattle.sl_trace.specs.KillPrograms.{stopper_of}
use Rattle.sl_trace.specs.Jobs.{jobs_of_session}
use Rattle.sl_words.proofs.Lists.{contains_none, find_inside, kept_inside}
use Rattle.sl_sector.specs.Bitmaps.{no_bits}
use Rattle.sl_sector.specs.declared.sector.DeltaState.TheVariants.{Free}
use Rattle.sl_trace.specs.DeltaDecisions.{delta_known, delta_of_session, delta_record, next_free}
use Rattle.sl_trace.specs.declared.delta.DeltaKnown.{DeltaKnown}
use Rattle.sl_trace.specs.declared.delta.DeltaNext.TheVariants.{Nothing, WriteFree}
use Rattle.sl_trace.specs.declared.delta.DeltaNext.{DeltaNext}
use Rattle.sl_trace.specs.Sessions.{has_open_write, holders_of, holdings_of, is_joined, last_renewal, open_calls_of, present_sessions, recovery_of, refused_after, session_of_job, sessions}
use Rattle.sl_trace.specs.declared.session.Session.{Session}
use Rattle.sl_due_facts.specs.Facts.AllFacts.{WholeTrace}
use Rattle.sl_trace.specs.WatchdogConnections.{is_registered, unregisters}
use Rattle.sl_trace.specs.Traces.{Job, Setting, Trace, is_before_input, is_running, jobs, next_child, next_job, running_jobs, waiting_call}
use Rattle.sl_trace.specs.declared.effects.JobReply.{JobReply}
use Rattle.sl_trace.specs.declared.effects.Move.TheVariants.{Unregister}
use Rattle.sl_trace.specs.declared.effects.Move.{Move}
use Rattle.sl_trace.specs.declared.effects.Signal.TheVariants.{Kill, Term}
use Rattle.sl_trace.specs.declared.effects.Signal.{Signal}
use Rattle.sl_trace.specs.declared.effects.Start.{Start}
use Rattle.sl_trace.specs.declared.reply.Reply.TheVariants.{IoTimeout, Recovering}
use Rattle.sl_trace.specs.declared.reply.Reply.{Reply}
use Rattle.sl_words.proofs.CaseLaws.{is_false}
use Rattle.sl_words.proofs.WordLaws.{some_is_true}
use Rattle.sl_words.specs.Words.{is_empty, some_is}
use Rattle.std.proofs.lemmas.Bool.{eqb-true}
use Rattle.std.proofs.Common.{ap, inl, inr, refl, subst, sym, ◌∙◌}
use Rattle.std.specs.Prelude.{Bool, Contains, List, None, Option, Some, bytes_eq, false, filter, is_none, is_some, not, true, ℕ, ◌&&◌, ◌+◌, ◌<◌, ◌==◌, ◌≡◌, ◌⊎◌}

-- ---- what each effect keeps

signalled : (st : Setting) (past : Trace) (now : ℕ) (y : Step) (p : ℕ) (g : Signal) → IsBeforeInput st past now y → IsBeforeInput st past now (add_signal p g y)
signalled st past now y p g h =
    record {
      setting = h.setting;
      before = h.before;
      reading = h.reading;
      early = record { wake = h.early.wake; uncalled = h.early.uncalled; ungranted = h.early.ungranted; unended = h.early.unended; leaves = h.early.leaves };
      starts = h.starts;
      replies = h.replies;
      numbers = h.numbers;
    }

started : (st : Setting) (past : Trace) (now : ℕ) (y : Step) (k : Start) → is_some k.stands_for ≡ true → IsBeforeInput st past now y → IsBeforeInput st past now (add_start k y)
started st past now y k stands h =
    record {
      setting = h.setting;
      before = h.before;
      reading = h.reading;
      early = record { wake = h.early.wake; uncalled = h.early.uncalled; ungranted = h.early.ungranted; unended = h.early.unended; leaves = h.early.leaves };
      starts = λ i there. by i (contains_last y.effects.starts k i there);
      replies = h.replies;
      numbers = h.numbers;
    } where
      by : (i : Start) → Contains y.effects.starts i ⊎ (k ≡ i) → is_some i.stands_for ≡ true
      by i (inl old) = h.starts i old
      by i (inr new) = ap (λ (z : Start). is_some z.stands_for) (sym new) ∙ stands

-- The number of a job that is there.
early_number : (st : Setting) (past : Trace) (now : ℕ) (y : Step) (j : Job) → IsBeforeInput st past now y → Contains (jobs y.setting (seen y)) j → j.number < next_job st past
early_number st past now y j h there =
    subst (λ g. j.number < next_job g past) h.setting
    (subst (λ t. j.number < next_job y.setting t) h.before (below y.setting y.past j (subst (λ js. Contains js j) (jobs_before y h.early.wake) there)))

replied : (st : Setting) (past : Trace) (now : ℕ) (y : Step) (j : ℕ) (r : Reply) → is_before_input r ≡ true → j < next_job st past → IsBeforeInput st past now y → IsBeforeInput st past now (add_reply j r y)
replied st past now y j r first less h =
    record {
      setting = h.setting;
      before = h.before;
      reading = h.reading;
      early = record { wake = h.early.wake; uncalled = h.early.uncalled; ungranted = h.early.ungranted; unended = h.early.unended; leaves = h.early.leaves };
      starts = h.starts;
      replies = λ a there. by a (contains_last y.effects.replies (record { job = j; reply = r }) a there);
      numbers = λ a there. number a (contains_last y.effects.replies (record { job = j; reply = r }) a there);
    } where
      by : (a : JobReply) → Contains y.effects.replies a ⊎ (record { job = j; reply = r } ≡ a) → is_before_input a.reply ≡ true
      by a (inl old) = h.replies a old
      by a (inr new) = ap (λ (z : JobReply). is_before_input z.reply) (sym new) ∙ first

      number : (a : JobReply) → Contains y.effects.replies a ⊎ (record { job = j; reply = r } ≡ a) → a.job < next_job st past
      number a (inl old) = h.numbers a old
      number a (inr new) = subst (λ (z : JobReply). z.job < next_job st past) new less

moved : (st : Setting) (past : Trace) (now : ℕ) (y : Step) (m : Move)
    → ((s : Session) → Contains (sessions y.setting y.past) s → is_joined y.past s ≡ true → unregisters s.lockspace m ≡ false) → IsBeforeInput st past now y → IsBeforeInput st past now (add_move m y)
moved st past now y m spares h =
    record {
      setting = h.setting;
      before = h.before;
      reading = h.reading;
      early = record {
        wake = h.early.wake;
        uncalled = h.early.uncalled;
        ungranted = h.early.ungranted;
        unended = h.early.unended;
        leaves = λ s there joined. any_more (unregisters s.lockspace) y.effects.moves m (spares s there joined) ∙ h.early.leaves s there joined;
      };
      starts = h.starts;
      replies = h.replies;
      numbers = h.numbers;
    }

-- ---- recoveries and kills

told : (st : Setting) (past : Trace) (now : ℕ) (y : Step) (p : ℕ) (g : Signal) → IsBeforeInput st past now y → IsBeforeInput st past now (send p g y)
told st past now y p Kill h = signalled st past now y p Kill h
told st past now y p Term h = by (stopper_of y.setting (seen y) p) where
  by : (o : Option (List ℕ))
      → IsBeforeInput st past now (elim o as (λ z. Step) [
        | None ↦ add_signal p Term y
        | Some program ↦ add_start (record { process = next_child (seen y); program = program; job = None; stands_for = Some p }) y
      ])
  by None = signalled st past now y p Term h
  by (Some program) = started st past now y (record { process = next_child (seen y); program = program; job = None; stands_for = Some p }) refl h

holders_told : (st : Setting) (past : Trace) (now : ℕ) (y : Step) (g : Signal) (s : Session) → IsBeforeInput st past now y → IsBeforeInput st past now (signal_holders g s y)
holders_told st past now y g s h = for_each_keeps (IsBeforeInput st past now) (holders_of (seen y) s) (λ p. send p g) y (λ p there z k. told st past now z p g k) h

abbrev not_kept : Option ℕ → Job → Bool
not_kept kept j = not (some_is (λ n. n == j.number) kept)

-- The jobs of a session are there.
session_job : (z : Step) (s : Session) (j : Job) → Contains (filter (not_kept None) (jobs_of_session z.setting (seen z) s)) j → Contains (jobs z.setting (seen z)) j
session_job z s j there =
    let mine = (kept_inside (not_kept None) (jobs_of_session z.setting (seen z) s) j there).0 in
    (kept_inside (λ (i : Job). is_running (seen z) i.number) (jobs z.setting (seen z)) j (kept_inside _ (running_jobs z.setting (seen z)) j mine).0).0

recovered : (st : Setting) (past : Trace) (now : ℕ) (s : Session) (y : Step) → IsBeforeInput st past now y → IsBeforeInput st past now (begin_recovery s y)
unfolding begin_recovery signal_and_refuse
recovered st past now s y h =
    when_keeps (IsBeforeInput st past now) (begins_now (seen y) (recovery_of y.setting (seen y) s)) (signal_and_refuse s None) y
    (λ begins f.
    let z : Step = signal_holders Term s y in
    let k : IsBeforeInput st past now z = holders_told st past now y Term s f in
    for_each_keeps (IsBeforeInput st past now) (filter (not_kept None) (jobs_of_session z.setting (seen z) s)) (λ j. add_reply j.number (Recovering (last_renewal z.setting (seen z) s))) z
    (λ j there w g. replied st past now w j.number (Recovering (last_renewal z.setting (seen z) s)) refl (early_number st past now z j k (session_job z s j there)) g) k) h

all_recovered : (st : Setting) (past : Trace) (now : ℕ) (y : Step) → IsBeforeInput st past now y → IsBeforeInput st past now (begin_recoveries y)
unfolding begin_recoveries
all_recovered st past now y h = for_each_keeps (IsBeforeInput st past now) (present_sessions y.setting (seen y)) begin_recovery y (λ s there z k. recovered st past now s z k) h

killed : (st : Setting) (past : Trace) (now : ℕ) (s : Session) (y : Step) → IsBeforeInput st past now y → IsBeforeInput st past now (kill_holders s y)
unfolding kill_holders
killed st past now s y h = when_keeps (IsBeforeInput st past now) (kills_holders y.setting (seen y) s) (signal_holders Kill s) y (λ is k. holders_told st past now y Kill s k) h

all_killed : (st : Setting) (past : Trace) (now : ℕ) (y : Step) → IsBeforeInput st past now y → IsBeforeInput st past now (kills y)
unfolding kills
all_killed st past now y h = for_each_keeps (IsBeforeInput st past now) (present_sessions y.setting (seen y)) kill_holders y (λ s there z k. killed st past now s z k) h

-- ---- calls that took too long

-- A joining that runs has no joined session's name.
other_name : (st : Setting) (past : Trace) (s : Session) (j : ℕ) → WholeTrace st past → Contains (sessions st past) s → s.job ≡ Some j → is_running past j ≡ true
    → (z : Session) → Contains (sessions st past) z → is_joined past z ≡ true → bytes_eq s.lockspace z.lockspace ≡ false
other_name st past s j w there its runs z inside joined = is_false (bytes_eq s.lockspace z.lockspace) (λ same. apart (text_is s.lockspace z.lockspace same)) where
  k : IsJoining past s
  k = joining past s j its runs

  apart : s.lockspace ≡ z.lockspace → ⊥
  apart same =
      let one : s ≡ z = w.facts.names.apart s z (present_inside st past s there k.present) (present_inside st past z inside (joined_present past z joined)) same in
      joined_some past s (subst (λ (q : Session). is_joined past q ≡ true) (sym one) joined) k.unjoined

of_job : (o : Option ℕ) (n : ℕ) → some_is (λ j. j == n) o ≡ true → o ≡ Some n
of_job o n is = let v = some_is_true (λ j. j == n) o is in v.1 ∙ ap (λ j. Some j) (eqb-true v.0 n v.2)

refused : (st : Setting) (past : Trace) (now : ℕ) (y : Step) (j : ℕ) (r : Reply) → WholeTrace st past → is_running past j ≡ true → is_before_input r ≡ true → j < next_job st past → IsBeforeInput st past now y
    → IsBeforeInput st past now (refuse j r y)
unfolding refuse
refused st past now y j r w runs first less h =
    with_some_keeps (IsBeforeInput st past now) (session_of_job y.setting (seen y) j) remove_of_refused (add_reply j r y)
    (λ s found k. let z : Step = add_reply j r y in
    when_keeps (IsBeforeInput st past now) (is_some (refused_after (seen z) s) && not (has_open_write (seen z) s)) (remove_connection s.lockspace) z
    (λ gone f. when_keeps (IsBeforeInput st past now) (is_registered z.setting (seen z) s.lockspace) (add_move (Unregister s.lockspace)) z
    (λ up g. moved st past now z (Unregister s.lockspace) (spares s found) g) f) k)
    (replied st past now y j r first less h) where
      sessions_are : sessions y.setting (seen y) ≡ sessions st past
      sessions_are = sessions_wake y h.early.wake ∙ (ap (λ g. sessions g y.past) h.setting ∙ ap (λ t. sessions st t) h.before)

      here : (s : Session) → Contains (sessions y.setting y.past) s → Contains (sessions st past) s
      here s there = subst (λ ss. Contains ss s) (ap (λ g. sessions g y.past) h.setting ∙ ap (λ t. sessions st t) h.before) there

      spares : (s : Session) → session_of_job y.setting (seen y) j ≡ Some s → (z : Session) → Contains (sessions y.setting y.past) z → is_joined y.past z ≡ true
          → unregisters z.lockspace (Unregister s.lockspace) ≡ false
      spares s found z there joined =
          let inside = find_inside (λ (q : Session). some_is (λ i. i == j) q.job) (sessions y.setting (seen y)) s found in
          other_name st past s j w (subst (λ ss. Contains ss s) sessions_are inside.0) (of_job s.job j inside.1) runs z (here z there) (subst (λ t. is_joined t z ≡ true) h.before joined)

timed_out : (st : Setting) (past : Trace) (now : ℕ) (j : Job) (y : Step) → WholeTrace st past → is_running past j.number ≡ true → j.number < next_job st past → IsBeforeInput st past now y → IsBeforeInput st past now (time_out j y)
unfolding time_out
timed_out st past now j y w runs less h =
    with_some_keeps (IsBeforeInput st past now) (waiting_call (seen y) j.number) (λ m. when (is_overdue y.setting y.reading m) (refuse j.number (IoTimeout m.call.number m.reading y.reading))) y
    (λ m waits g. when_keeps (IsBeforeInput st past now) (is_overdue y.setting y.reading m) (refuse j.number (IoTimeout m.call.number m.reading y.reading)) y
    (λ late f. refused st past now y j.number (IoTimeout m.call.number m.reading y.reading) w runs refl less f) g) h

all_timed_out : (st : Setting) (past : Trace) (now : ℕ) (y : Step) → WholeTrace st past → IsBeforeInput st past now y → IsBeforeInput st past now (time_outs y)
unfolding time_outs
all_timed_out st past now y w h = for_each_keeps (IsBeforeInput st past now) (running_jobs y.setting (seen y)) time_out y (λ j there z k. timed_out st past now j z w (runs j there)
    (early_number st past now y j h (kept_inside (λ (i : Job). is_running (seen y) i.number) (jobs y.setting (seen y)) j there).0) k) h where
      runs : (j : Job) → Contains (running_jobs y.setting (seen y)) j → is_running past j.number ≡ true
      runs j there =
          ap (λ t. is_running t j.number) (sym h.before)
          ∙ ap (λ o. is_none o) (before_it y j.number (kept_inside (λ (i : Job). is_running (seen y) i.number) (jobs y.setting (seen y)) j there).1)

pub heads_are_early : HeadsAreEarly
unfolding before_input
heads_are_early st past now w =
    all_timed_out st past now (kills (begin_recoveries (begin_step st past now))) w
    (all_killed st past now (begin_recoveries (begin_step st past now)) (all_recovered st past now (begin_step st past now) begun)) where
      begun : IsBeforeInput st past now (begin_step st past now)
      begun =
          record {
            setting = refl;
            before = refl;
            reading = refl;
            early = record { wake = refl; uncalled = refl; ungranted = refl; unended = refl; leaves = λ s there joined. refl };
            starts = λ k there. absurd (contains_none k there);
            replies = λ a there. absurd (contains_none a there);
            numbers = λ a there. absurd (contains_none a there);
          }

-- ---- what comes last

removed : (x : Step) (name : List ℕ) (y : Step) → IsSilent x y → IsSilent x (remove_connection name y)
removed x name y h = when_keeps (IsSilent x) (is_registered y.setting (seen y) name) (add_move (Unregister name)) y (λ up k. record { starts = k.starts; replies = k.replies; grants = k.grants; ends = k.ends }) h

written : (x : Step) (s : Session) (y : Step) → IsSilent x y → IsSilent x (carry_delta s (next_free (delta_of_session y.setting s) y.reading (delta_known y.setting (seen y) s)) y)
unfolding carry_delta
written x s y h = by (delta_known y.setting (seen y) s).leaving (delta_known y.setting (seen y) s).freed where
  k : DeltaKnown
  k = delta_known y.setting (seen y) s

  by : (o : Option ℕ) (b : Bool)
      → IsSilent x (carry_delta s (elim o as (λ z. DeltaNext) [
        | None ↦ Nothing
        | Some j ↦ elim b as (λ z. DeltaNext) [ true ↦ Nothing | false ↦ WriteFree j (delta_record (delta_of_session y.setting s) Free k.generation (k.seq + 1) y.reading no_bits) ]
      ]) y)
  by None b = h
  by (Some j) true = h
  by (Some j) false = record { starts = h.starts; replies = h.replies; grants = h.grants; ends = h.ends }

finished : (x : Step) (s : Session) (y : Step) → IsSilent x y → IsSilent x (finish_session s y)
unfolding finish_session
finished x s y h = by (is_joined (seen y) s) (is_some (recovery_of y.setting (seen y) s)) where
  over : (b : Bool) → IsSilent x (when b (remove_connection s.lockspace) y)
  over true = removed x s.lockspace y h
  over false = h

  free : (b : Bool) → IsSilent x (when b (λ y. carry_delta s (next_free (delta_of_session y.setting s) y.reading (delta_known y.setting (seen y) s)) y) y)
  free true = written x s y h
  free false = h

  by : (b c : Bool) → IsSilent x (when b (λ z. elim c as (λ q. Step) [ true ↦ end_if_done s z | false ↦ free_if_done s z ]) y)
  by false c = h
  by true true = over (is_empty (holdings_of (seen y) s) && not (has_open_write (seen y) s))
  by true false = free (is_empty (holdings_of (seen y) s) && is_empty (open_calls_of (seen y) s))

pub last_is_silent : LastIsSilent
unfolding finish
last_is_silent x = for_each_keeps (IsSilent x) (present_sessions x.setting (seen x)) finish_session x (λ s there y k. finished x s y k) (record { starts = refl; replies = refl; grants = refl; ends = refl })
