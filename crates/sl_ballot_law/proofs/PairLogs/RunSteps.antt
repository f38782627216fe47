-- Each log gives a run.
use Rattle.sl_ballot_law.proofs.PairLogs.StepTests.{ShownBlock, chosen, given_or, not_true, one_of, shown_is}
use Rattle.sl_ballot_law.specs.PairLogs.Logs.{Log, current_session}
use Rattle.sl_ballot_law.specs.PairLogs.States.{after_arrival, after_read, between_of, fails_at, first_half, is_at, lands_at, oks_at, second_half, shown_block, state_of}
use Rattle.sl_ballot_law.specs.PairLogs.Theorems.{LogsAreRuns}
use Rattle.sl_ballot_law.specs.Pairs.State.{State}
use Rattle.sl_ballot_law.specs.Pairs.Steps.{Answers_failed, Answers_ok, Begins, Drops, Lands, Looks, Stays, Step, Submits, Tears, after_beginning, after_drop, after_failure, after_landing, after_look, after_ok, after_submission, after_tearing}
use Rattle.sl_words.proofs.WordLaws.{and_true}
use Rattle.std.proofs.Common.{arith, refl, subst, sym}
use Rattle.std.proofs.lemmas.Bool.{ltb-true}
use Rattle.std.specs.Prelude.{if◌then◌else◌, nat_lt, not, suc, ℕ, ◌&&◌, ◌+◌, ◌≡◌, true}

arrives : (g : Log) (w : State) → w.flying ≡ true → Step w (after_arrival g w)
arrives g w flying = one_of (Step w) (g.whole w.last) (after_landing w) (after_tearing w) (λ whole. Lands flying refl) (λ torn. Tears flying refl)

reads : (g : Log) (n session : ℕ) (w : State) → Step w (after_read g n session w)
reads g n session w =
    given_or (Step w) (shown_block g n session w) (λ s. after_look s.turn w) (if g.joins n && w.flying then after_drop w else w)
    (λ s shown. let k : ShownBlock g n session w s = shown_is g n session w s shown in Looks k.unwaiting k.unflying s k.stands refl)
    (λ none. one_of (Step w) (g.joins n && w.flying) (after_drop w) w (λ drops. Drops (and_true (g.joins n) w.flying drops).1 refl) (λ stays. Stays refl))

pub first_step : (g : Log) (n session : ℕ) (w : State) → Step w (first_half g n session w)
first_step g n session w =
    chosen (Step w) (lands_at g n w) (oks_at g n w) (fails_at g n w) (after_arrival g w) (after_ok w) (after_failure w) (after_read g n session w)
    (λ lands. arrives g w (and_true w.flying (is_at n (g.landed w.last)) lands).0)
    (λ never oks.
    let three = and_true (w.waits && is_at n (g.answered w.last) && g.done w.last) w.landed oks in
    let two = and_true (w.waits && is_at n (g.answered w.last)) (g.done w.last) three.0 in
    Answers_ok (and_true w.waits (is_at n (g.answered w.last)) two.0).0 three.1 refl)
    (λ never nor fails.
    let two = and_true (w.waits && is_at n (g.answered w.last)) (not (g.done w.last)) fails in
    Answers_failed (and_true w.waits (is_at n (g.answered w.last)) two.0).0 refl)
    (λ never nor more. reads g n session w)

submits : (g : Log) (n : ℕ) (w : State) → (g.writes n && w.shown && not w.waits && nat_lt w.last n) ≡ true → Step w (after_submission n w)
submits g n w h =
    let three = and_true (g.writes n && w.shown && not w.waits) (nat_lt w.last n) h in
    let two = and_true (g.writes n && w.shown) (not w.waits) three.0 in
    Submits n (and_true (g.writes n) w.shown two.0).1 (not_true w.waits two.1) (ltb-true w.last n three.1) refl

pub second_step : (g : Log) (n : ℕ) (w : State) → Step w (second_half g n w)
second_step g n w =
    one_of (Step w) (g.joins n) (if w.flying then w else after_beginning w)
    (if g.writes n && w.shown && not w.waits && nat_lt w.last n then after_submission n w else w)
    (λ joins. one_of (Step w) w.flying w (after_beginning w) (λ flying. Stays refl) (λ still. Begins still refl))
    (λ none. one_of (Step w) (g.writes n && w.shown && not w.waits && nat_lt w.last n) (after_submission n w) w (λ h. submits g n w h) (λ stays. Stays refl))

one_more : (m : ℕ) → m + 1 ≡ suc m
one_more m = omega arith

pub logs_are_runs : LogsAreRuns
logs_are_runs g =
    record {
      start = refl;
      one = λ m. first_step g (suc m) (current_session g m) (state_of g m);
      two = λ m. subst (λ (k : ℕ). Step (between_of g m) (state_of g k)) (sym (one_more m)) (second_step g (suc m) (between_of g m));
    }
