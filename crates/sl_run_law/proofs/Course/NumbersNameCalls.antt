-- Calls are numbered in order over all daemons of a machine, so that a number names one call.
use Rattle.sl_run.specs.EventChanges.{new_course}
use Rattle.sl_run.specs.Worlds.{Course, Stamp}
use Rattle.sl_run_law.proofs.CourseLists.{changed_if}
use Rattle.sl_run_law.proofs.FatesStay.{every_map}
use Rattle.sl_run_law.specs.FatesStay.{AreDistinct, Every}
use Rattle.sl_trace.specs.declared.effects.Call.{Call}
use Rattle.std.proofs.Common.{arith, refl, subst, sym, tests}
use Rattle.std.specs.List.{range_with_len}
use Rattle.std.specs.Prelude.{Bool, List, false, fold, length, map, true, [], ℕ, ◌+◌, ◌<◌, ◌==◌, ◌∷◌, ◌≡◌}

-- All numbers are below n, and no two are the same.
pub record AreNumberedBelow (n : ℕ) (cs : List Course) : Type 0 where
  pub below : Every (λ c. c.call.number < n) cs
  pub distinct : AreDistinct cs

-- ---- a change that leaves what is called

every_called : (Q : Call → Type 0) (g : Course → Course) → ((c : Course) → (g c).call ≡ c.call) → (cs : List Course) → Every (λ c. Q c.call) cs → Every (λ c. Q c.call) (map g cs)
every_called Q g same [] h = tt
every_called Q g same (c ∷ cs) h = (subst Q (sym (same c)) h.0, every_called Q g same cs h.1)

-- Not this number.
abbrev OtherThan : Call → Call → Type 0
OtherThan k x = (x.number == k.number) ≡ true → ⊥

distinct_called : (g : Course → Course) → ((c : Course) → (g c).call ≡ c.call) → (cs : List Course) → AreDistinct cs → AreDistinct (map g cs)
distinct_called g same [] h = tt
distinct_called g same (c ∷ cs) h = (
  subst (λ k. Every (λ d. OtherThan k d.call) (map g cs)) (sym (same c)) (every_called (OtherThan c.call) g same cs h.0),
  distinct_called g same cs h.1,
)

pub numbered_called : (n : ℕ) (g : Course → Course) → ((c : Course) → (g c).call ≡ c.call) → (cs : List Course) → AreNumberedBelow n cs → AreNumberedBelow n (map g cs)
numbered_called n g same cs h = record { below = every_called (λ k. k.number < n) g same cs h.below; distinct = distinct_called g same cs h.distinct }

pub same_call_if : (t : Bool) (f : Course → Course) (c : Course) → (f c).call ≡ c.call → (changed_if t f c).call ≡ c.call
same_call_if true f c h = h
same_call_if false f c h = refl

-- ---- new calls

less_more : (x n : ℕ) → x < n → x < n + 1
less_more x n h = omega (arith, h)

less_other : (x n : ℕ) → x < n → (x == n) ≡ true → ⊥
less_other x n h t = grind (arith, tests)

is_below : (x n : ℕ) → x ≡ n → x < n + 1
is_below x n h = omega (arith, h)

one_numbered : (n : ℕ) (c : Course) (cs : List Course) → c.call.number ≡ n → AreNumberedBelow n cs → AreNumberedBelow (n + 1) (c ∷ cs)
one_numbered n c cs is h =
    record {
      below = (is_below c.call.number n is, every_map (λ d. d.call.number < n) (λ d. d.call.number < n + 1) cs (λ d. less_more d.call.number n) h.below);
      distinct = (
        subst (λ k. Every (λ d. (d.call.number == k) ≡ true → ⊥) cs) (sym is)
            (every_map (λ d. d.call.number < n) (λ d. (d.call.number == n) ≡ true → ⊥) cs (λ d. less_other d.call.number n) h.below),
        h.distinct,
      );
    }

first_number : (x n : ℕ) (xs ys : List ℕ) → x ∷ xs ≡ n ∷ ys → (x ≡ n)
first_number x n xs ys e = cc

other_numbers : (x n : ℕ) (xs ys : List ℕ) → x ∷ xs ≡ n ∷ ys → (xs ≡ ys)
other_numbers x n xs ys e = cc

pub all_numbered : (n : ℕ) (now : Stamp) (d : ℕ) (calls : List Call) (cs : List Course) → map (λ c. c.number) calls ≡ range_with_len n (length calls)
    → AreNumberedBelow n cs → AreNumberedBelow (n + length calls) (fold (λ xs c. new_course now d c ∷ xs) cs calls)
all_numbered n now d [] cs is h = let same : n ≡ n + 0 = omega arith in subst (λ k. AreNumberedBelow k cs) same h
all_numbered n now d (c ∷ calls) cs is h =
    let one : c.number ≡ n = first_number c.number n (map (λ (x : Call). x.number) calls) (range_with_len (n + 1) (length calls)) is in
    let rest : map (λ (x : Call). x.number) calls ≡ range_with_len (n + 1) (length calls) =
    other_numbers c.number n (map (λ (x : Call). x.number) calls) (range_with_len (n + 1) (length calls)) is in
    let same : (n + 1) + length calls ≡ n + length (c ∷ calls) = omega arith in
    subst (λ k. AreNumberedBelow k (fold (λ xs x. new_course now d x ∷ xs) (new_course now d c ∷ cs) calls)) same
    (all_numbered (n + 1) now d calls (new_course now d c ∷ cs) rest (one_numbered n (new_course now d c) cs one h))
