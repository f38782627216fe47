-- Passes over a list, from each of its places on.
use Rattle.sl_host_law.specs.StepParts.Signals.{over}
use Rattle.sl_host_state.specs.KeptState.{HostState}
use Rattle.sl_words.proofs.CaseLaws.{none_some, some_value}
use Rattle.std.proofs.Common.{add-one, ap, arith, refl, sym, ◌∙◌}
use Rattle.std.specs.Prelude.{List, Some, [], drop, length, slice_get, suc, zero, ℕ, ◌+◌, ◌<◌, ◌∷◌, ◌≡◌}

drop_one : {A : Type 0} (xs : List A) (k : ℕ) (x : A) → slice_get xs k ≡ Some x → drop k xs ≡ x ∷ drop (suc k) xs
drop_one [] k x at = absurd (none_some x at)
drop_one (y ∷ ys) zero x at = ap (λ z. z ∷ ys) (some_value y x at)
drop_one (y ∷ ys) (suc k) x at = drop_one ys k x at

-- What is left from a place on is what stands there, and what is left from the next on.
pub drop_next : {A : Type 0} (xs : List A) (k : ℕ) (x : A) → slice_get xs k ≡ Some x → drop k xs ≡ x ∷ drop (k + 1) xs
drop_next xs k x at = drop_one xs k x at ∙ ap (λ n. x ∷ drop n xs) (sym (add-one k))

pub drop_all : {A : Type 0} (xs : List A) → drop (length xs) xs ≡ []
drop_all [] = refl
drop_all (x ∷ xs) = drop_all xs

pub drop_none : {A : Type 0} (xs : List A) → drop 0 xs ≡ xs
drop_none [] = refl
drop_none (x ∷ xs) = refl

-- What stands before the end is there.
pub there : {A : Type 0} (xs : List A) (k : ℕ) → k < length xs → (x : A) × (slice_get xs k ≡ Some x)
there [] k less = absurd (grind arith)
there (x ∷ xs) zero less = (x, refl)
there (x ∷ xs) (suc k) less = there xs k (grind arith)

-- One step of a pass, and its end.
pub over_next : {A : Type 0} (f : A → HostState → HostState) (xs : List A) (k : ℕ) (x : A) (a b : HostState) → slice_get xs k ≡ Some x → b ≡ f x a → over (drop k xs) f a ≡ over (drop (k + 1) xs) f b
over_next f xs k x a b at one = ap (λ zs. over zs f a) (drop_next xs k x at) ∙ ap (λ h. over (drop (k + 1) xs) f h) (sym one)

pub over_end : {A : Type 0} (f : A → HostState → HostState) (xs : List A) (a : HostState) → over (drop (length xs) xs) f a ≡ a
over_end f xs a = ap (λ zs. over zs f a) (drop_all xs)

pub over_start : {A : Type 0} (f : A → HostState → HostState) (xs : List A) (a : HostState) → over xs f a ≡ over (drop 0 xs) f a
over_start f xs a = ap (λ zs. over zs f a) (sym (drop_none xs))

-- One fewer is left.
pub fewer_left : {A : Type 0} (xs : List A) (k : ℕ) (x : A) → slice_get xs k ≡ Some x → length (drop k xs) ≡ length (drop (k + 1) xs) + 1
fewer_left xs k x at = ap (λ zs. length zs) (drop_next xs k x at) ∙ (let e : length (x ∷ drop (k + 1) xs) ≡ length (drop (k + 1) xs) + 1 = grind arith in e)
