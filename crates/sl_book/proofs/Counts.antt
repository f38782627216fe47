-- Counts that make up the whole log are each exact.
use Rattle.sl_book.specs.Closings.{AreBelow, AreExact, AreSeen, counts}
use Rattle.sl_book.specs.Seats.{SeatState}
use Rattle.sl_book.proofs.Givens.{given_more, given_other, given_this}
use Rattle.sl_book.specs.Logs.{given_by, is_by}
use Rattle.sl_book.specs.declared.signed.Signed.{Signed}
use Rattle.std.proofs.Common.{Bool, List, [], ap, arith, false, length, refl, subst, suc, true, ℕ, ◌+◌, ◌<◌, ◌∷◌, ◌≡◌, ◌≤◌}
use Rattle.std.proofs.lemmas.Bool.Decides.{Decides-eqb}
use borrow.Author.Tests.{ltb-false, ltb-true}
use lib.Dec.{ltb}
use mathlib.Core.List.{IsPrefix}

-- how many elements have a number of these places
abbrev total : {E : Type 0} → ℕ → List (SeatState E) → List (Signed E) → ℕ
total k [] h = 0
total k (s ∷ ss) h = length (given_by k h) + total (k + 1) ss h

-- an element of a lower number adds nothing
below : {E : Type 0} (k : ℕ) (ss : List (SeatState E)) (e : Signed E) (h : List (Signed E)) → e.by < k → total k ss (e ∷ h) ≡ total k ss h
below k [] e h less = refl
below k (s ∷ ss) e h less =
    let first : length (given_by k (e ∷ h)) ≡ length (given_by k h) = ap length (given_other k e h (λ is. absurd (omega (arith, is)))) in
    let rest : total (k + 1) ss (e ∷ h) ≡ total (k + 1) ss h = below (k + 1) ss e h (omega arith) in
    omega (arith, first, rest)

-- one of a higher number adds nothing
above : {E : Type 0} (k : ℕ) (ss : List (SeatState E)) (e : Signed E) (h : List (Signed E)) → k + length ss ≤ e.by → total k ss (e ∷ h) ≡ total k ss h
above k [] e h more = refl
above k (s ∷ ss) e h more =
    let first : length (given_by k (e ∷ h)) ≡ length (given_by k h) = ap length (given_other k e h (λ is. absurd (omega (arith, is)))) in
    let rest : total (k + 1) ss (e ∷ h) ≡ total (k + 1) ss h = above (k + 1) ss e h (omega arith) in
    omega (arith, first, rest)

-- an element is counted once at most
once : {E : Type 0} (k : ℕ) (ss : List (SeatState E)) (e : Signed E) (h : List (Signed E)) → total k ss (e ∷ h) ≤ total k ss h + 1
once k [] e h = omega arith
once k (s ∷ ss) e h = counted (once (k + 1) ss e h) (is_by k e) refl
  where
    counted : total (k + 1) ss (e ∷ h) ≤ total (k + 1) ss h + 1 → (b : Bool) → is_by k e ≡ b → total k (s ∷ ss) (e ∷ h) ≤ total k (s ∷ ss) h + 1
    counted after true is =
        let same : e.by ≡ k = (Decides-eqb e.by k).0 is in
        let first : length (given_by k (e ∷ h)) ≡ suc (length (given_by k h)) = ap length (given_this k e h same) in
        let rest : total (k + 1) ss (e ∷ h) ≡ total (k + 1) ss h = below (k + 1) ss e h (omega (arith, same)) in
        omega (arith, first, rest)
    counted after false is =
        let first : length (given_by k (e ∷ h)) ≡ length (given_by k h) = rw is in
        omega (arith, first, after)

none : {E : Type 0} (k : ℕ) (ss : List (SeatState E)) → total k ss [] ≡ 0
none k [] = refl
none k (s ∷ ss) = let rest : total (k + 1) ss [] ≡ 0 = none (k + 1) ss in omega (arith, rest)

total_most : {E : Type 0} (k : ℕ) (ss : List (SeatState E)) (h : List (Signed E)) → total k ss h ≤ length h
total_most k ss [] = let n : total k ss [] ≡ 0 = none k ss in omega (arith, n)
total_most k ss (e ∷ h) =
    let one : total k ss (e ∷ h) ≤ total k ss h + 1 = once k ss e h in
    let rest : total k ss h ≤ length h = total_most k ss h in
    omega (arith, one, rest)

-- no seat counts more than there are
counts_most : {E : Type 0} (k : ℕ) (ss : List (SeatState E)) (h : List (Signed E)) → AreSeen k ss h → counts ss ≤ total k ss h
counts_most k [] h seen = omega arith
counts_most k (s ∷ ss) h seen =
    let first = seen.0.2 in
    let rest : counts ss ≤ total (k + 1) ss h = counts_most (k + 1) ss h seen.1 in
    omega (arith, first, rest)

pub counts_fit : {E : Type 0} (k : ℕ) (ss : List (SeatState E)) (h : List (Signed E)) → AreSeen k ss h → counts ss ≤ length h
counts_fit k ss h seen =
    let a : counts ss ≤ total k ss h = counts_most k ss h seen in
    let b : total k ss h ≤ length h = total_most k ss h in
    omega (arith, a, b)

exact_at : {E : Type 0} (k : ℕ) (ss : List (SeatState E)) (h : List (Signed E)) → AreSeen k ss h → total k ss h ≤ counts ss → AreExact k ss h
exact_at k [] h seen all = tt
exact_at k (s ∷ ss) h seen all =
    let first = seen.0.2 in
    let rest : counts ss ≤ total (k + 1) ss h = counts_most (k + 1) ss h seen.1 in
    ((seen.0.0, seen.0.1, omega (arith, first, rest, all)), exact_at (k + 1) ss h seen.1 (omega (arith, first, rest, all)))

-- counts that make up the whole log are exact
pub exact : {E : Type 0} (ss : List (SeatState E)) (h : List (Signed E)) → AreSeen 0 ss h → counts ss ≡ length h → AreExact 0 ss h
exact ss h seen whole = let b : total 0 ss h ≤ length h = total_most 0 ss h in exact_at 0 ss h seen (omega (arith, b, whole))

below_each : {E : Type 0} (ss : List (SeatState E)) (h : List (Signed E)) → length h ≤ total 0 ss h → AreBelow (length ss) h
below_each ss [] all = tt
below_each ss (e ∷ h) all =
    let one : total 0 ss (e ∷ h) ≤ total 0 ss h + 1 = once 0 ss e h in
    let most : total 0 ss h ≤ length h = total_most 0 ss h in
    let rest : length h ≤ total 0 ss h = omega (arith, one, all) in
    (less e.by (length ss) (λ more. let same : total 0 ss (e ∷ h) ≡ total 0 ss h = above 0 ss e h (omega (arith, more)) in absurd (omega (arith, same, most, all))), below_each ss h rest)
  where
    less : (a b : ℕ) → (b ≤ a → ⊥) → a < b
    less a b not_above = tested (ltb a b) refl
      where
        tested : (r : Bool) → ltb a b ≡ r → a < b
        tested true is = ltb-true a b is
        tested false is = absurd (not_above (ltb-false a b is))

-- and no element has another number
pub all_below : {E : Type 0} (ss : List (SeatState E)) (h : List (Signed E)) → AreSeen 0 ss h → counts ss ≡ length h → AreBelow (length ss) h
all_below ss h seen whole = let a : counts ss ≤ total 0 ss h = counts_most 0 ss h seen in below_each ss h (omega (arith, a, whole))

pub seen_cons : {E : Type 0} (k : ℕ) (s : SeatState E) (ss : List (SeatState E)) (h : List (Signed E)) → s.by ≡ k → IsPrefix s.front h → s.count ≤ length (given_by s.by s.front) → AreSeen (k + 1) ss h
    → AreSeen k (s ∷ ss) h
seen_cons k s ss h by pre few rest =
    let more : length (given_by s.by s.front) ≤ length (given_by s.by h) = given_more s.by s.front h pre in
    let here : s.count ≤ length (given_by s.by h) = omega (arith, more, few) in
    ((by, pre, subst (λ (n : ℕ). s.count ≤ length (given_by n h)) by here), rest)
