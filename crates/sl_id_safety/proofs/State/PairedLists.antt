-- Lists side by side: where an element stands, and what is related to it in the other list.
use Rattle.sl_words.proofs.Lists.{contains_cases, contains_first, contains_more, contains_none}
use Rattle.sl_run_law.specs.FatesStay.{Every}
use Rattle.sl_run_law.specs.Course.CallStamps.{Pairwise}
use Rattle.sl_run_law.proofs.Front.JoinedLists.{contains_right}
use Rattle.sl_words.proofs.CaseLaws.{none_some, some_value}
use Rattle.std.proofs.Common.{ap, inl, inr, refl, subst, sym, ◌∙◌}
use Rattle.std.specs.Prelude.{Bool, Contains, List, None, Option, Some, [], cond, false, find, true, ◌++◌, ◌∷◌, ◌≡◌, ◌⊎◌}

-- ---- options

-- ---- where an element stands

-- The newest stands first.
pub record Stands {A : Type 0} (xs : List A) (x : A) : Type 0 where
  pub newer : List A
  pub older : List A
  pub whole : xs ≡ newer ++ x ∷ older

pub stands : {A : Type 0} (xs : List A) (x : A) → Contains xs x → Stands xs x
stands [] x there = absurd (contains_none x there)
stands {A} (y ∷ xs) x there = by (λ more. stands xs x more) (contains_cases y xs x there) where
  by : (Contains xs x → Stands xs x) → (y ≡ x) ⊎ Contains xs x → Stands (y ∷ xs) x
  by rest (inl here) = record { newer = []; older = xs; whole = ap (λ (z : A). z ∷ xs) here }
  by rest (inr more) = let r = rest more in record { newer = y ∷ r.newer; older = r.older; whole = ap (λ zs. y ∷ zs) r.whole }

pub stands_there : {A : Type 0} (newer : List A) (x : A) (older : List A) → Contains (newer ++ x ∷ older) x
stands_there newer x older = contains_right newer (x ∷ older) x (contains_first x older)

-- What is said of each element and those behind it.
abbrev pub EveryTail : {A : Type 0} → (A → List A → Type 0) → List A → Type 0
EveryTail P [] = Unit {0}
EveryTail P (x ∷ xs) = P x xs × EveryTail P xs

pub tail_at : {A : Type 0} (P : A → List A → Type 0) (newer : List A) (x : A) (older : List A) → EveryTail P (newer ++ x ∷ older) → P x older
tail_at P [] x older h = h.0
tail_at P (y ∷ newer) x older h = tail_at P newer x older h.1

pub every_from : {A : Type 0} (P : A → Type 0) (xs : List A) → ((x : A) → Contains xs x → P x) → Every P xs
every_from P [] h = tt
every_from P (x ∷ xs) h = (h x (contains_first x xs), every_from P xs (λ y there. h y (contains_more x xs y there)))

-- ---- filters and finds

-- It is found where it stands, if none newer passes.
pub find_here : {A : Type 0} (p : A → Bool) (newer : List A) (x : A) (older : List A) → Every (λ y. p y ≡ false) newer → p x ≡ true
    → find p (newer ++ x ∷ older) ≡ Some x
find_here p [] x older none is = ap (λ b. cond b (Some x) (find p older)) is
find_here p (y ∷ newer) x older none is =
    ap (λ b. cond b (Some y) (find p (newer ++ x ∷ older))) none.0 ∙ find_here p newer x older none.1 is

pub find_none : {A : Type 0} (p : A → Bool) (xs : List A) → Every (λ y. p y ≡ false) xs → find p xs ≡ None
find_none p [] none = refl
find_none p (x ∷ xs) none = ap (λ b. cond b (Some x) (find p xs)) none.0 ∙ find_none p xs none.1

-- ---- two lists, element by element

-- What stands in the second list at the place of an element of the first.
pub record PairsAt {A B : Type 0} (R : A → B → Type 0) (newer : List A) (x : A) (older : List A) (ys : List B) : Type 0 where
  pub front : List B
  pub here : B
  pub rest : List B
  pub whole : ys ≡ front ++ here ∷ rest
  pub fronts : Pairwise R newer front
  pub this : R x here
  pub rests : Pairwise R older rest

pub pairs_at : {A B : Type 0} (R : A → B → Type 0) (newer : List A) (x : A) (older : List A) (ys : List B) → Pairwise R (newer ++ x ∷ older) ys → PairsAt R newer x older ys
pairs_at R [] x older [] h = absurd h
pairs_at R [] x older (y ∷ ys) h = record { front = []; here = y; rest = ys; whole = refl; fronts = tt; this = h.0; rests = h.1 }
pairs_at R (z ∷ newer) x older [] h = absurd h
pairs_at R (z ∷ newer) x older (y ∷ ys) h =
    let r = pairs_at R newer x older ys h.1 in
    record { front = y ∷ r.front; here = r.here; rest = r.rest; whole = ap (λ zs. y ∷ zs) r.whole; fronts = (h.0, r.fronts); this = r.this; rests = r.rests }

finds_pair : {A B : Type 0} (R : A → B → Type 0) (x : A) (y : B) (o : Option A) (q : Option B) (z : B) (b c : Bool) → c ≡ b → R x y
    → (q ≡ Some z → (u : A) × (o ≡ Some u) × R u z) → cond c (Some y) q ≡ Some z → (u : A) × (cond b (Some x) o ≡ Some u) × R u z
finds_pair {A} {B} R x y o q z true c same r rest is =
    (x, refl, subst (λ (v : B). R x v) (some_value y z (ap (λ t. cond t (Some y) q) (sym same) ∙ is)) r)
finds_pair R x y o q z false c same r rest is = rest (ap (λ t. cond t (Some y) q) (sym same) ∙ is)

-- .. and find related elements.
pub find_pairs : {A B : Type 0} (R : A → B → Type 0) (p : A → Bool) (q : B → Bool) → ((a : A) (b : B) → R a b → q b ≡ p a) → (xs : List A) (ys : List B)
    → Pairwise R xs ys → (z : B) → find q ys ≡ Some z → (u : A) × (find p xs ≡ Some u) × R u z
find_pairs R p q agree [] [] h z is = absurd (none_some z is)
find_pairs R p q agree [] (y ∷ ys) h z is = absurd h
find_pairs R p q agree (x ∷ xs) [] h z is = absurd h
find_pairs R p q agree (x ∷ xs) (y ∷ ys) h z is =
    finds_pair R x y (find p xs) (find q ys) z (p x) (q y) (agree x y h.0) h.0 (λ more. find_pairs R p q agree xs ys h.1 z more) is

-- What is said of each of the second is said of each of the first.
pub every_pair : {A B : Type 0} (R : A → B → Type 0) (P : A → Type 0) (Q : B → Type 0) → ((a : A) (b : B) → R a b → Q b → P a) → (xs : List A) (ys : List B)
    → Pairwise R xs ys → Every Q ys → Every P xs
every_pair R P Q go [] ys h each = tt
every_pair R P Q go (x ∷ xs) [] h each = absurd h
every_pair R P Q go (x ∷ xs) (y ∷ ys) h each = (go x y h.0 each.0, every_pair R P Q go xs ys h.1 each.1)
