-- Searches for proofs: a function that gives a proof of its claim, or nothing where it didn't find one. A search that computes to a
-- proof has proved its claim; the leaves are lemmas that stay closed, so that nothing of a proof is computed but that it is there.
use Rattle.sl_words.proofs.Lists.{contains_cases, contains_first, contains_more, contains_none}
use Rattle.sl_words.proofs.CaseLaws.{false_is_true, none_some}
use Rattle.std.proofs.Common.{ap, eq-or-lt_of_le, eqb-true, inl, inr, le-leb, leb-true, ltb-true, refl, subst, sym}
use Rattle.std.proofs.lemmas.List.Elements.{All-cons, All-nil}
use Rattle.std.proofs.lemmas.List.Kept.{AllPairs-cons}
use Rattle.std.proofs.lemmas.Slice.Eq.{bytes_eq-Decides}
use Rattle.std.specs.Prelude.{All, AllPairs, Bool, Contains, IsFalse, IsSome, IsTrue, List, MatchBool, None, Option, Some, bytes_eq, false, nat_le, nat_lt, slice_get, suc, true, zero, [], ℕ, ◌++◌, ◌<◌, ◌==◌, ◌∷◌, ◌≡◌, ◌≤◌}
use native.Mathlib.Omega.{arith}

infixl 10 ◌>>=◌
-- The next search, with what the first found.
abbrev pub ◌>>=◌ : {A B : Type 0} → Option A → (A → Option B) → Option B
Some a >>= next = next a
None >>= next = None

-- What was found.
pub found : {A : Type 0} (o : Option A) → IsSome o → A
found (Some a) h = a
found None h = absurd cc

-- ---- truths, numbers, texts

abbrev pub seek_true : (b : Bool) → Option (IsTrue b)
seek_true true = Some refl
seek_true false = None

abbrev pub seek_false : (b : Bool) → Option (IsFalse b)
seek_false false = Some refl
seek_false true = None

abbrev pub seek_le : (a b : ℕ) → Option (a ≤ b)
seek_le a b = do
  h ← seek_true (nat_le a b)
  Some (leb-true a b h)

abbrev pub seek_lt : (a b : ℕ) → Option (a < b)
seek_lt a b = do
  h ← seek_true (nat_lt a b)
  Some (ltb-true a b h)

abbrev pub seek_same : (a b : ℕ) → Option (a ≡ b)
seek_same a b = do
  h ← seek_true (a == b)
  Some (eqb-true a b h)

pub texts_same : (a b : List ℕ) → bytes_eq a b ≡ true → a ≡ b
texts_same a b h = (bytes_eq-Decides a b).0 h

abbrev pub seek_text : (a b : List ℕ) → Option (a ≡ b)
seek_text a b = do
  h ← seek_true (bytes_eq a b)
  Some (texts_same a b h)

-- ---- what is there, and what isn't

abbrev pub seek_none : {A : Type 0} (o : Option A) → Option (o ≡ None)
seek_none None = Some refl
seek_none (Some a) = None

abbrev pub seek_some : {A : Type 0} (o : Option A) → Option ((a : A) × (o ≡ Some a))
seek_some None = None
seek_some (Some a) = Some (a, refl)

abbrev pub seek_empty : {A : Type 0} (xs : List A) → Option (xs ≡ [])
seek_empty [] = Some refl
seek_empty (x ∷ xs) = None

pub for_value : {A : Type 0} (P : A → Type 0) (b : A) → P b → (a : A) → Some b ≡ Some a → P a
for_value P b h a e = let same : b ≡ a = cc in subst P same h

-- What is said of a value, wherever there is one.
abbrev pub seek_for : {A : Type 0} (P : A → Type 0) (o : Option A) → ((a : A) → Option (P a)) → Option ((a : A) → o ≡ Some a → P a)
seek_for P None f = Some (λ a is. absurd (none_some a is))
seek_for P (Some b) f = do
  h ← f b
  Some (for_value P b h)

-- What is said where a test holds.
abbrev pub seek_if : {P : Type 0} (b : Bool) → Option P → Option (IsTrue b → P)
seek_if false f = Some (λ is. absurd (false_is_true is))
seek_if true f = do
  h ← f
  Some (λ is. h)

pub from_there : {P : Type 0} (a b : ℕ) → (IsTrue (nat_le a b) → P) → a ≤ b → P
from_there a b f h = f (le-leb a b h)

-- What is said from this number on.
abbrev pub seek_from : {P : Type 0} (a b : ℕ) → Option P → Option (a ≤ b → P)
seek_from a b f = do
  h ← seek_if (nat_le a b) f
  Some (from_there a b h)

-- What is said where the test holds, or fails.
abbrev pub seek_by : {P Q : Type 0} (b : Bool) → Option P → Option Q → Option (MatchBool b P Q)
seek_by true f g = f
seek_by false f g = g

-- ---- lists

pub all_of_none : {A : Type 0} (P : A → Type 0) (a : A) → Contains [] a → P a
all_of_none P a h = absurd (contains_none a h)

pub all_of_more : {A : Type 0} (P : A → Type 0) (x : A) (xs : List A) → P x → ((a : A) → Contains xs a → P a) → (a : A) → Contains (x ∷ xs) a → P a
all_of_more P x xs p ps a h =
    elim (contains_cases x xs a h) as (λ z. P a) [ inl same ↦ subst P same p | inr more ↦ ps a more ]

-- What is said of each element.
abbrev pub seek_all : {A : Type 0} (P : A → Type 0) → ((a : A) → Option (P a)) → (xs : List A) → Option ((a : A) → Contains xs a → P a)
seek_all P f [] = Some (all_of_none P)
seek_all P f (x ∷ xs) = do
  p ← f x
  ps ← seek_all P f xs
  Some (all_of_more P x xs p ps)

-- The first element of which it is said.
abbrev pub seek_any : {A : Type 0} (P : A → Type 0) → ((a : A) → Option (P a)) → (xs : List A) → Option ((a : A) × Contains xs a × P a)
seek_any P f [] = None
seek_any P f (x ∷ xs) = elim (f x) [
  | Some p ↦ Some (x, contains_first x xs, p)
  | None ↦ do
    later ← seek_any P f xs
    Some (later.0, contains_more x xs later.0 later.1, later.2)
]

-- An element of a list, of which so much is said with those behind it.
pub record Split {A : Type 0} (P : A → List A → Type 0) (xs : List A) : Type 0 where
  pub after : List A
  pub one : A
  pub before : List A
  pub split : xs ≡ after ++ one ∷ before
  pub is : P one before

abbrev pub split_here : {A : Type 0} (P : A → List A → Type 0) (x : A) (xs : List A) → P x xs → Split P (x ∷ xs)
split_here P x xs p = record { after = []; one = x; before = xs; split = refl; is = p }

abbrev pub split_later : {A : Type 0} (P : A → List A → Type 0) (x : A) (xs : List A) → Split P xs → Split P (x ∷ xs)
split_later P x xs s = record { after = x ∷ s.after; one = s.one; before = s.before; split = ap (λ ys. x ∷ ys) s.split; is = s.is }

-- The first element of which it is said.
abbrev pub seek_split : {A : Type 0} (P : A → List A → Type 0) → ((a : A) (before : List A) → Option (P a before)) → (xs : List A) → Option (Split P xs)
seek_split P f [] = None
seek_split P f (x ∷ xs) = elim (f x xs) [
  | Some p ↦ Some (split_here P x xs p)
  | None ↦ do
    later ← seek_split P f xs
    Some (split_later P x xs later)
]

pub among : {A : Type 0} (after : List A) (one : A) (before : List A) → Contains (after ++ one ∷ before) one
among [] one before = contains_first one before
among (x ∷ xs) one before = contains_more x (xs ++ one ∷ before) one (among xs one before)

-- It is one of the list's.
pub split_inside : {A : Type 0} (P : A → List A → Type 0) (xs : List A) → (s : Split P xs) → Contains xs s.one
split_inside P xs s = subst (λ ys. Contains ys s.one) (sym s.split) (among s.after s.one s.before)

pub at_none : {A : Type 0} (P : ℕ → A → Type 0) (k : ℕ) (a : A) → slice_get [] k ≡ Some a → P k a
at_none P k a h = absurd cc

pub at_more : {A : Type 0} (P : ℕ → A → Type 0) (x : A) (xs : List A) → P 0 x → ((k : ℕ) (a : A) → slice_get xs k ≡ Some a → P (suc k) a)
    → (k : ℕ) (a : A) → slice_get (x ∷ xs) k ≡ Some a → P k a
at_more P x xs p ps zero a h = let same : x ≡ a = cc in subst (P 0) same p
at_more P x xs p ps (suc k) a h = ps k a h

-- What is said of each element and its place.
abbrev pub seek_at : {A : Type 0} (P : ℕ → A → Type 0) → ((k : ℕ) (a : A) → Option (P k a)) → (xs : List A)
    → Option ((k : ℕ) (a : A) → slice_get xs k ≡ Some a → P k a)
seek_at P f [] = Some (at_none P)
seek_at P f (x ∷ xs) = do
  p ← f 0 x
  ps ← seek_at (λ k. P (suc k)) (λ k. f (suc k)) xs
  Some (at_more P x xs p ps)

-- What is said of each element, by its place.
abbrev pub seek_every : {A : Type 0} (P : A → Type 0) → ((a : A) → Option (P a)) → (xs : List A) → Option (All P xs)
seek_every P f [] = Some (All-nil P)
seek_every P f (x ∷ xs) = do
  p ← f x
  ps ← seek_every P f xs
  Some (All-cons P x xs p ps)

pub no_pairs : {A : Type 0} (R : A → A → Type 0) → AllPairs R []
no_pairs R i j d lt within = absurd (omega (arith, within))

-- What is said of each two.
abbrev pub seek_pairs : {A : Type 0} (R : A → A → Type 0) → ((a b : A) → Option (R a b)) → (xs : List A) → Option (AllPairs R xs)
seek_pairs R f [] = Some (no_pairs R)
seek_pairs R f (x ∷ xs) = do
  p ← seek_every (R x) (f x) xs
  ps ← seek_pairs R f xs
  Some (AllPairs-cons R x xs p ps)

pub up_to_none : (P : ℕ → Type 0) (k : ℕ) → 1 ≤ k → k ≤ 0 → P k
up_to_none P k a b = absurd (omega (arith, a, b))

pub up_to_more : (P : ℕ → Type 0) (n : ℕ) → P (suc n) → ((k : ℕ) → 1 ≤ k → k ≤ n → P k) → (k : ℕ) → 1 ≤ k → k ≤ suc n → P k
up_to_more P n p ps k a b =
    elim (eq-or-lt_of_le b) as (λ z. P k) [ inl is ↦ subst P (sym is) p | inr less ↦ ps k a (omega (arith, less)) ]

-- What is said of the numbers from 1 up to this one.
abbrev pub seek_up_to : (P : ℕ → Type 0) → ((k : ℕ) → Option (P k)) → (n : ℕ) → Option ((k : ℕ) → 1 ≤ k → k ≤ n → P k)
seek_up_to P f zero = Some (up_to_none P)
seek_up_to P f (suc n) = do
  p ← f (suc n)
  ps ← seek_up_to P f n
  Some (up_to_more P n p ps)
