-- Landings by their numbers, and the sectors of what a read gave.
use Rattle.sl_words.proofs.Numbers.{less_is_other, number_itself}
use Rattle.sl_run.specs.Worlds.{Landing}
use Rattle.sl_run_law.specs.FatesStay.{Every}
use Rattle.sl_run_law.specs.Sample.Samples.{numbered_landing}
use Rattle.sl_words.proofs.CaseLaws.{none_some, some_value, true_is_false}
use Rattle.std.proofs.Common.{ap, arith, inl, inr, mul-le-mul_left, refl, subst, sym, ◌∙◌}
use Rattle.std.proofs.lemmas.Bool.Decides.{nat_tests}
use Rattle.std.proofs.lemmas.List.{drop-append-le, drop_at, length-append, length-drop, take-append-le, take_all}
use Rattle.std.specs.Prelude.{Bool, List, Option, Some, drop, false, filter, if◌then◌else◌, length, slice_get, suc, take, true, zero, [], ℕ, ◌*◌, ◌++◌, ◌+◌, ◌<◌, ◌==◌, ◌∷◌, ◌≡◌, ◌≤◌, ◌⊎◌}

-- ---- what holds of each

pub every_front : {A : Type 0} (P : A → Type 0) (xs ys : List A) → Every P xs → Every P ys → Every P (xs ++ ys)
every_front P [] ys h k = k
every_front P (x ∷ xs) ys h k = (h.0, every_front P xs ys h.1 k)

kept_by : {A : Type 0} (P : A → Type 0) (x : A) (xs : List A) (b : Bool) → P x → Every P xs → Every P (if b then x ∷ xs else xs)
kept_by P x xs true h k = (h, k)
kept_by P x xs false h k = k

pub every_kept : {A : Type 0} (P : A → Type 0) (p : A → Bool) (xs : List A) → Every P xs → Every P (filter p xs)
every_kept P p [] h = tt
every_kept P p (x ∷ xs) h = kept_by P x (filter p xs) (p x) h.0 (every_kept P p xs h.1)

-- ---- numbers

-- A list of landings with one more in front.
abbrev with_newest : Landing → List Landing → ℕ → Bool → Option Landing
with_newest l ls i b = elim b [ true ↦ Some l | false ↦ numbered_landing ls i ]

newest_by : (l : Landing) (ls : List Landing) (i : ℕ) (b : Bool) → b ≡ true → with_newest l ls i b ≡ Some l
newest_by l ls i true h = refl
newest_by l ls i false h = absurd (true_is_false (sym h))

-- The newest landing has the number of those before it.
pub newest_number : (l : Landing) (ls : List Landing) (i : ℕ) → i ≡ length ls → numbered_landing (l ∷ ls) i ≡ Some l
newest_number l ls i same = newest_by l ls i (i == length ls) (ap (λ n. n == length ls) same ∙ number_itself (length ls))

older_by : (x l : Landing) (ls : List Landing) (i : ℕ) (b : Bool) → b ≡ false → numbered_landing ls i ≡ Some l → with_newest x ls i b ≡ Some l
older_by x l ls i true h k = absurd (true_is_false h)
older_by x l ls i false h k = k

within_by : (x l : Landing) (ls : List Landing) (i : ℕ) (b : Bool) → (i == length ls) ≡ b → with_newest x ls i b ≡ Some l
    → (numbered_landing ls i ≡ Some l → i < length ls) → i < length (x ∷ ls)
within_by x l ls i true is h rest = grind (arith, nat_tests)
within_by x l ls i false is h rest = omega (arith, rest h)

-- A number in use is below the length.
pub number_below : (ls : List Landing) (i : ℕ) (l : Landing) → numbered_landing ls i ≡ Some l → i < length ls
number_below [] i l h = absurd (none_some l h)
number_below (x ∷ ls) i l h = within_by x l ls i (i == length ls) refl h (number_below ls i l)

longer : (xs ls : List Landing) (i : ℕ) → i < length ls → i < length (xs ++ ls)
longer xs ls i h = omega (arith, length-append xs ls, h)

-- A landing keeps its number.
pub number_stays : (xs ls : List Landing) (i : ℕ) (l : Landing) → numbered_landing ls i ≡ Some l → numbered_landing (xs ++ ls) i ≡ Some l
number_stays [] ls i l h = h
number_stays (x ∷ xs) ls i l h =
    older_by x l (xs ++ ls) i (i == length (xs ++ ls)) (less_is_other i (length (xs ++ ls)) (longer xs ls i (number_below ls i l h))) (number_stays xs ls i l h)

from_by : (P : Landing → Type 0) (x l : Landing) (xs ls : List Landing) (i : ℕ) (b : Bool) → P x → with_newest x (xs ++ ls) i b ≡ Some l
    → (numbered_landing (xs ++ ls) i ≡ Some l → (numbered_landing ls i ≡ Some l) ⊎ P l) → (numbered_landing ls i ≡ Some l) ⊎ P l
from_by P x l xs ls i true this h rest = inr (subst P (some_value x l h) this)
from_by P x l xs ls i false this h rest = rest h

-- A landing with a number is an old one, or one of those that came later.
pub number_from : (P : Landing → Type 0) (xs ls : List Landing) (i : ℕ) (l : Landing) → Every P xs → numbered_landing (xs ++ ls) i ≡ Some l
    → (numbered_landing ls i ≡ Some l) ⊎ P l
number_from P [] ls i l each h = inl h
number_from P (x ∷ xs) ls i l each h = from_by P x l xs ls i (i == length (xs ++ ls)) each.0 h (number_from P xs ls i l each.1)

-- ---- places in a list that grows behind

-- One more at the end is an old one, or the new one in its place.
pub one_behind : {A : Type 0} (xs : List A) (y : A) (k : ℕ) (z : A) → slice_get (xs ++ y ∷ []) k ≡ Some z → (slice_get xs k ≡ Some z) ⊎ ((k ≡ length xs) × (y ≡ z))
one_behind [] y zero z h = inr (refl, some_value y z h)
one_behind [] y (suc k) z h = absurd (none_some z h)
one_behind (x ∷ xs) y zero z h = inl h
one_behind (x ∷ xs) y (suc k) z h =
    elim (one_behind xs y k z h) as (λ t. (slice_get xs k ≡ Some z) ⊎ ((suc k ≡ suc (length xs)) × (y ≡ z))) [
      | inl p ↦ inl p
      | inr q ↦ inr (ap (λ n. suc n) q.0, q.1)
    ]

-- ---- sectors

up_to : (k n s : ℕ) → k < n → k * s + s ≤ n * s
up_to k n s h =
    let more : s * (k + 1) ≤ s * n = mul-le-mul_left s (omega (arith, h)) in
    omega (arith, more)

-- A sector that was there stays where more bytes come behind.
pub sector_stays : (xs ys : List ℕ) (k n s : ℕ) → k < n → length xs ≡ n * s → take s (drop (k * s) (xs ++ ys)) ≡ take s (drop (k * s) xs)
sector_stays xs ys k n s below long =
    let room : k * s + s ≤ length xs = omega (arith, up_to k n s below, long) in
    ap (take s) (drop-append-le (k * s) xs ys (omega (arith, room))) ∙ take-append-le s (drop (k * s) xs) ys (omega (arith, room, length-drop (k * s) xs))

-- The sector that comes behind.
pub sector_behind : (xs ys : List ℕ) (k s : ℕ) → length xs ≡ k * s → length ys ≡ s → take s (drop (k * s) (xs ++ ys)) ≡ ys
sector_behind xs ys k s long size = ap (take s) (drop_at xs ys (k * s) long) ∙ take_all s ys (omega (arith, size))
