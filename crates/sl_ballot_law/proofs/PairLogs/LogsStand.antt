-- The states of a log stand for it.
use Rattle.sl_ballot_law.proofs.PairLogs.FirstHalf.{first_stands, first_still}
use Rattle.sl_ballot_law.proofs.PairLogs.SecondHalf.{second_stands, shows_later}
use Rattle.sl_ballot_law.specs.PairLogs.Logs.{At_first, IsLog, Log, NoLanding}
use Rattle.sl_ballot_law.specs.PairLogs.Stands.{Stands}
use Rattle.sl_ballot_law.specs.PairLogs.States.{between_of, state_of}
use Rattle.sl_ballot_law.specs.PairLogs.Theorems.{LogsStand}
use Rattle.sl_ballot_law.specs.Pairs.Steps.{first_state}
use Rattle.sl_words.proofs.CaseLaws.{true_is_false}
use Rattle.std.proofs.Common.{arith, inl, refl, sym}
use Rattle.std.specs.Prelude.{Bool, false, suc, true, zero, ℕ, ◌<◌, ◌≡◌, ◌≤◌}

nothing_yet : (u : ℕ) → 0 < u → u ≤ 0 → ⊥
nothing_yet u h k = omega (arith, h, k)

later_yet : (e u : ℕ) → e < u → u ≤ 0 → ⊥
later_yet e u h k = omega (arith, h, k)

no_write : (g : Log) → IsLog g → g.writes 0 ≡ true → ⊥
no_write g i is = let p : 0 < 0 = i.positive 0 is in omega (arith, p)

none_lands : (g : Log) (first : Bool) → NoLanding g first 0 0
none_lands g first e u write landed late low = nothing_yet u late low

first_stands_for : (g : Log) → IsLog g → Stands g 0 0 first_state
first_stands_for g i =
    record {
      low = omega arith;
      is_write = inl refl;
      newest = λ e is low. low;
      turn = λ is. absurd (no_write g i is);
      flying = λ h. absurd (true_is_false (sym h));
      unflying = λ h is. absurd (no_write g i is);
      waiting = λ h. absurd (true_is_false (sym h));
      unwaiting = λ h is. absurd (no_write g i is);
      landed = λ is. absurd (no_write g i is);
      shown = λ h. absurd (true_is_false (sym h));
      unshown = λ h b turn shows low. later_yet 0 b (shows_later g i 0 b turn shows) low;
      front = At_first (none_lands g true) refl;
      back = At_first (none_lands g false) refl;
      ok = λ e u is done at low. absurd (later_yet e u (i.answers_later e u is at) low);
    }

pub logs_stand : LogsStand
logs_stand g i zero = first_stands_for g i
logs_stand g i (suc t) =
    second_stands g i t (between_of g t) (first_stands g i t (state_of g t) (logs_stand g i t)) (λ joins. first_still g i t (state_of g t) (logs_stand g i t) joins)
