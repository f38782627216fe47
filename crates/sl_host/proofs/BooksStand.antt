-- Books follow the state functions.
use Rattle.sl_host_state.specs.declared.kept_parts.JobState.{JobState}
use Rattle.sl_host_state.specs.MadeEffects.{job_calling, job_starting}
use Rattle.sl_host_state.specs.HostStands.{kept_waiting}
use Rattle.sl_host_state.specs.declared.kept_parts.WaitingCall.{WaitingCall}
use Rattle.sl_tables.specs.Holdings.{fits}
use Rattle.sl_tables.specs.Jobs.{changed}
use Rattle.sl_trace.specs.Traces.{Submitted, is_of_job, job_of, same_place}
use Rattle.sl_trace.specs.declared.effects.End.{End}
use Rattle.sl_trace.specs.declared.effects.Grant.{Grant}
use Rattle.sl_trace.specs.declared.effects.Start.{Start}
use Rattle.sl_host.specs.Books.{ended_by}
use Rattle.sl_host.specs.BooksFollow.{BooksFollowStates}
use Rattle.sl_words.specs.Words.{some_is}
use Rattle.std.proofs.Common.{ap, refl, sym, ◌∙◌}
use Rattle.std.specs.Cmp.{nat_eq_equiv}
use Rattle.std.specs.Cmp.Lexicographic.{nat_list_eq_equiv}
use Rattle.std.specs.Option.{option_or}
use Rattle.std.specs.Prelude.{Bool, List, None, Some, [], bytes_eq, cond, false, filter, map, not, true, ℕ, ◌&&◌, ◌==◌, ◌∷◌, ◌≡◌}

pub books_follow : BooksFollowStates
books_follow read ms b =
    record {
      ended = λ e. refl;
      granted = λ g. refl;
      signalled = λ s. refl;
      started = λ s. refl;
      called = λ m. refl;
      exited = λ p. refl;
      spawned = λ p ok. refl;
      numbered = refl;
      counted = λ now. refl;
      moved = λ m. refl;
    }

-- ---- ends

both : (a b c d e f : Bool) → a ≡ d → b ≡ e → c ≡ f → (((a && true) && true) && (b && c)) ≡ (d && (e && f))
both false b c d e f h k l = ap (λ x. x && (e && f)) h
both true b c d e f h k l = ap (λ x. x && c) k ∙ (ap (λ x. e && x) l ∙ ap (λ x. x && (e && f)) h)

one_fits : (e : End) (g : Grant) → fits (ended_by e) g ≡ (e.process == g.process && same_place e.path e.offset g.path g.offset)
one_fits e g =
    both (g.process == e.process) (g.offset == e.offset) (bytes_eq g.path e.path) (e.process == g.process) (e.offset == g.offset) (bytes_eq e.path g.path) (nat_eq_equiv.symm g.process e.process) (nat_eq_equiv.symm g.offset e.offset)
    (nat_list_eq_equiv.symm g.path e.path)

-- What an end leaves.
pub ends_fit : (e : End) (held : List Grant) → filter (λ g. not (fits (ended_by e) g)) held ≡ filter (λ g. not (e.process == g.process && same_place e.path e.offset g.path g.offset)) held
ends_fit e [] = refl
ends_fit e (g ∷ held) =
    ap (λ b. cond (not b) (g ∷ filter (λ g. not (fits (ended_by e) g)) held) (filter (λ g. not (fits (ended_by e) g)) held)) (one_fits e g)
    ∙ ap (λ gs. cond (not (e.process == g.process && same_place e.path e.offset g.path g.offset)) (g ∷ gs) gs) (ends_fit e held)

-- ---- starts

pub jobs_started : (s : Start) (n : ℕ) (jobs : List JobState) → s.job ≡ Some n → changed n (λ j. record j { child = option_or j.child (Some s.process) }) jobs ≡ map (job_starting s) jobs
jobs_started s n [] is = refl
jobs_started s n (j ∷ jobs) is =
    ap (λ b. cond b (record j { child = option_or j.child (Some s.process) }) j ∷ changed n (λ j. record j { child = option_or j.child (Some s.process) }) jobs)
    (nat_eq_equiv.symm j.number n ∙ sym (ap (λ o. some_is (λ m. m == j.number) o) is))
    ∙ ap (λ js. job_starting s j ∷ js) (jobs_started s n jobs is)

pub no_job_started : (s : Start) (jobs : List JobState) → s.job ≡ None → jobs ≡ map (job_starting s) jobs
no_job_started s [] is = refl
no_job_started s (j ∷ jobs) is =
    ap (λ js. j ∷ js) (no_job_started s jobs is)
    ∙ sym (ap (λ o. cond (some_is (λ m. m == j.number) o) (record j { child = option_or j.child (Some s.process) }) j ∷ map (job_starting s) jobs) is)

-- ---- calls

-- The job of a call waits for it.
pub jobs_called : (m : Submitted) (n : ℕ) (w : WaitingCall) (jobs : List JobState) → job_of m.call.purpose ≡ Some n → w ≡ kept_waiting m → changed n (λ j. record j { waits = Some w }) jobs ≡ map (job_calling m) jobs
jobs_called m n w [] is waits = refl
jobs_called m n w (j ∷ jobs) is waits =
    ap (λ v. cond (j.number == n) (record j { waits = Some v }) j ∷ changed n (λ j. record j { waits = Some w }) jobs) waits
    ∙ (ap (λ b. cond b (record j { waits = Some (kept_waiting m) }) j ∷ changed n (λ j. record j { waits = Some w }) jobs) (nat_eq_equiv.symm j.number n ∙ sym (of_job j.number is))
    ∙ ap (λ js. job_calling m j ∷ js) (jobs_called m n w jobs is waits))
  where
    of_job : (k : ℕ) → job_of m.call.purpose ≡ Some n → is_of_job k m ≡ (n == k)
    of_job k is = ap (λ o. some_is (λ j. j == k) o) is

pub no_job_called : (m : Submitted) (jobs : List JobState) → job_of m.call.purpose ≡ None → jobs ≡ map (job_calling m) jobs
no_job_called m [] is = refl
no_job_called m (j ∷ jobs) is =
    ap (λ js. j ∷ js) (no_job_called m jobs is)
    ∙ sym (ap (λ o. cond (some_is (λ n. n == j.number) o) (record j { waits = Some (kept_waiting m) }) j ∷ map (job_calling m) jobs) is)
