-- Elements that are left out of a list in order: the order of the others stays.
use Rattle.sl_host_law.proofs.SharedFacts.PlainLists.{kept_if}
use Rattle.sl_words.specs.Orders.{in_order, put_in}
use Rattle.std.proofs.Common.{ap, refl, sym, ◌∙◌}
use Rattle.std.specs.Prelude.{Bool, List, cond, false, filter, fold, if◌then◌else◌, true, [], ◌∷◌, ◌≡◌}

-- A strict order in which ties are alike.
pub record IsStrict {A : Type 0} (before : A → A → Bool) : Type 0 where
  pub weak : (x y z : A) → before x y ≡ true → before z y ≡ false → before x z ≡ true
  pub asym : (x y : A) → before x y ≡ true → before y x ≡ false

-- None of these comes before it.
abbrev pub NoneBefore : {A : Type 0} → (A → A → Bool) → A → List A → Type 0
NoneBefore before y [] = Unit {0}
NoneBefore before y (z ∷ zs) = (before z y ≡ false) × NoneBefore before y zs

-- It comes before all of these.
abbrev pub AllAfter : {A : Type 0} → (A → A → Bool) → A → List A → Type 0
AllAfter before x [] = Unit {0}
AllAfter before x (z ∷ zs) = (before x z ≡ true) × AllAfter before x zs

abbrev pub InOrder : {A : Type 0} → (A → A → Bool) → List A → Type 0
InOrder before [] = Unit {0}
InOrder before (y ∷ ys) = NoneBefore before y ys × InOrder before ys

put_if : {A : Type 0} (before : A → A → Bool) (x y : A) (ys : List A) (b : Bool) → before x y ≡ b → put_in before x (y ∷ ys) ≡ (if b then x ∷ y ∷ ys else y ∷ put_in before x ys)
put_if before x y ys b is = ap (λ c. if c then x ∷ y ∷ ys else y ∷ put_in before x ys) is

first_in : {A : Type 0} (before : A → A → Bool) (x : A) (zs : List A) → AllAfter before x zs → put_in before x zs ≡ x ∷ zs
first_in before x [] h = refl
first_in before x (z ∷ zs) h = put_if before x z zs true h.0

after_all : {A : Type 0} (before : A → A → Bool) → IsStrict before → (x y : A) (zs : List A) → before x y ≡ true → NoneBefore before y zs → AllAfter before x zs
after_all before k x y [] is h = tt
after_all before k x y (z ∷ zs) is h = (k.weak x y z is h.0, after_all before k x y zs is h.1)

kept_after : {A : Type 0} (before : A → A → Bool) (q : A → Bool) (x : A) (zs : List A) → AllAfter before x zs → AllAfter before x (filter q zs)
kept_after before q x [] h = tt
kept_after {A} before q x (z ∷ zs) h = by (q z) refl (kept_after before q x zs h.1) where
  by : (b : Bool) → q z ≡ b → AllAfter before x (filter q zs) → AllAfter before x (cond b (z ∷ filter q zs) (filter q zs))
  by true is rest = (h.0, rest)
  by false is rest = rest

-- One that is kept is put where it was.
put_kept : {A : Type 0} (before : A → A → Bool) (q : A → Bool) → IsStrict before → (x : A) (ys : List A) → q x ≡ true → InOrder before ys → filter q (put_in before x ys) ≡ put_in before x (filter q ys)
put_kept before q k x [] is h = kept_if q x [] true is
put_kept {A} before q k x (y ∷ ys) is h = by (put_kept before q k x ys is h.1) (before x y) refl (q y) refl where
  by : filter q (put_in before x ys) ≡ put_in before x (filter q ys) → (b : Bool) → before x y ≡ b → (c : Bool) → q y ≡ c → filter q (put_in before x (y ∷ ys)) ≡ put_in before x (filter q (y ∷ ys))
  by rest true lt c has =
      ap (filter q) (put_if before x y ys true lt) ∙ kept_if q x (y ∷ ys) true is
      ∙ sym (first_in before x (filter q (y ∷ ys)) (kept_after before q x (y ∷ ys) (lt, after_all before k x y ys lt h.0)))
  by rest false lt true has =
      ap (filter q) (put_if before x y ys false lt) ∙ kept_if q y (put_in before x ys) true has ∙ ap (λ zs. y ∷ zs) rest
      ∙ sym (ap (put_in before x) (kept_if q y ys true has) ∙ put_if before x y (filter q ys) false lt)
  by rest false lt false has =
      ap (filter q) (put_if before x y ys false lt) ∙ kept_if q y (put_in before x ys) false has ∙ rest
      ∙ sym (ap (put_in before x) (kept_if q y ys false has))

-- One that is left out changes nothing.
put_left : {A : Type 0} (before : A → A → Bool) (q : A → Bool) (x : A) (ys : List A) → q x ≡ false → filter q (put_in before x ys) ≡ filter q ys
put_left before q x [] is = kept_if q x [] false is
put_left {A} before q x (y ∷ ys) is = by (put_left before q x ys is) (before x y) refl where
  by : filter q (put_in before x ys) ≡ filter q ys → (b : Bool) → before x y ≡ b → filter q (put_in before x (y ∷ ys)) ≡ filter q (y ∷ ys)
  by rest true lt = ap (filter q) (put_if before x y ys true lt) ∙ kept_if q x (y ∷ ys) false is
  by rest false lt = ap (filter q) (put_if before x y ys false lt) ∙ ap (λ zs. cond (q y) (y ∷ zs) zs) rest

after_none : {A : Type 0} (before : A → A → Bool) → IsStrict before → (x : A) (zs : List A) → AllAfter before x zs → NoneBefore before x zs
after_none before k x [] h = tt
after_none before k x (z ∷ zs) h = (k.asym x z h.0, after_none before k x zs h.1)

put_behind : {A : Type 0} (before : A → A → Bool) (x y : A) (ys : List A) → before x y ≡ false → NoneBefore before y ys → NoneBefore before y (put_in before x ys)
put_behind before x y [] lt h = (lt, tt)
put_behind {A} before x y (z ∷ zs) lt h = by (put_behind before x y zs lt h.1) (before x z) refl where
  by : NoneBefore before y (put_in before x zs) → (b : Bool) → before x z ≡ b → NoneBefore before y (if b then x ∷ z ∷ zs else z ∷ put_in before x zs)
  by rest true is = (lt, h)
  by rest false is = (h.0, rest)

put_ordered : {A : Type 0} (before : A → A → Bool) → IsStrict before → (x : A) (ys : List A) → InOrder before ys → InOrder before (put_in before x ys)
put_ordered before k x [] h = (tt, tt)
put_ordered {A} before k x (y ∷ ys) h = by (put_ordered before k x ys h.1) (before x y) refl where
  by : InOrder before (put_in before x ys) → (b : Bool) → before x y ≡ b → InOrder before (if b then x ∷ y ∷ ys else y ∷ put_in before x ys)
  by rest true lt = (after_none before k x (y ∷ ys) (lt, after_all before k x y ys lt h.0), h)
  by rest false lt = (put_behind before x y ys lt h.0, rest)

order_more : {A : Type 0} (before : A → A → Bool) (q : A → Bool) → IsStrict before → (acc xs : List A) → InOrder before acc
    → filter q (fold (λ sorted x. put_in before x sorted) acc xs) ≡ fold (λ sorted x. put_in before x sorted) (filter q acc) (filter q xs)
order_more before q k acc [] h = refl
order_more {A} before q k acc (x ∷ xs) h = order_more before q k (put_in before x acc) xs (put_ordered before k x acc h) ∙ by (q x) refl where
  by : (b : Bool) → q x ≡ b → fold (λ sorted x. put_in before x sorted) (filter q (put_in before x acc)) (filter q xs)
      ≡ fold (λ sorted x. put_in before x sorted) (filter q acc) (filter q (x ∷ xs))
  by true is = ap (λ ys. fold (λ sorted x. put_in before x sorted) ys (filter q xs)) (put_kept before q k x acc is h) ∙ sym (ap (fold (λ sorted x. put_in before x sorted) (filter q acc)) (kept_if q x xs true is))
  by false is = ap (λ ys. fold (λ sorted x. put_in before x sorted) ys (filter q xs)) (put_left before q x acc is) ∙ sym (ap (fold (λ sorted x. put_in before x sorted) (filter q acc)) (kept_if q x xs false is))

-- In order without some is without some in order.
pub order_filtered : {A : Type 0} (before : A → A → Bool) (q : A → Bool) → IsStrict before → (xs : List A) → filter q (in_order before xs) ≡ in_order before (filter q xs)
order_filtered before q k xs = order_more before q k [] xs tt
