-- Sectors of one size, one after another.
use Rattle.sl_sector.specs.Images.{Run, sector_at, sector_in}
use Rattle.sl_words.proofs.CaseLaws.{none_some, some_value}
use Rattle.sl_words.proofs.WordLaws.{and_true}
use Rattle.sl_words.specs.Words.{choose}
use Rattle.std.proofs.Common.{ap, arith, get_or, refl, sym, ◌∙◌}
use Rattle.std.proofs.lemmas.Bool.Decides.{nat_tests}
use Rattle.std.proofs.Math.Nat.{lt_of_mul-lt-mul_right, mul-lt-mul_of_pos_right}
use Rattle.std.proofs.lemmas.List.{length-append}
use Rattle.std.proofs.lemmas.Option.{slice_get_read}
use Rattle.std.specs.List.{list_all}
use Rattle.std.specs.Prelude.{Bool, List, None, Some, drop, false, flat_map, length, nat_lt, slice_get, suc, take, true, zero, [], ℕ, ◌*◌, ◌++◌, ◌+◌, ◌<◌, ◌==◌, ◌∷◌, ◌≡◌, ◌≤◌}

-- What lies behind the first n elements, and further.
behind : {A : Type 0} (xs ys : List A) (n m : ℕ) → length xs ≡ n → drop (n + m) (xs ++ ys) ≡ drop m ys
behind [] ys n m is = ap (λ j. drop (j + m) ys) (sym is) ∙ ap (λ j. drop j ys) (none m)
  where
    none : (m : ℕ) → 0 + m ≡ m
    none m = omega arith
behind (x ∷ xs) ys zero m is = absurd (omega (arith, is))
behind (x ∷ xs) ys (suc n) m is = ap (λ j. drop j (x ∷ (xs ++ ys))) (one n m) ∙ behind xs ys n m (omega (arith, is))
  where
    one : (n m : ℕ) → suc n + m ≡ suc (n + m)
    one n m = omega arith

in_front : {A : Type 0} (xs ys : List A) (n : ℕ) → length xs ≡ n → take n (xs ++ ys) ≡ xs
in_front [] [] zero is = refl
in_front [] (y ∷ ys) zero is = refl
in_front [] ys (suc n) is = absurd (omega (arith, is))
in_front (x ∷ xs) ys zero is = absurd (omega (arith, is))
in_front (x ∷ xs) ys (suc n) is = ap (λ zs. x ∷ zs) (in_front xs ys n (omega (arith, is)))

nothing : (size : ℕ) → 0 * size ≡ 0
nothing size = omega arith

next : (k size : ℕ) → suc k * size ≡ size + k * size
next k size = omega arith

-- So many sectors have so many bytes.
pub whole : {X : Type 0} (f : X → List ℕ) (size : ℕ) (xs : List X) → list_all (λ y. length (f y) == size) xs ≡ true → length xs * size ≡ length (flat_map f xs)
whole f size [] all = omega arith
whole f size (y ∷ xs) all =
    let b = and_true (length (f y) == size) (list_all (λ z. length (f z) == size) xs) all in
    let one : length (f y) ≡ size = grind (arith, nat_tests, b.0) in
    omega (arith, next (length xs) size, one, whole f size xs b.1, length-append (f y) (flat_map f xs))

-- The bytes of one of them.
pub piece : {X : Type 0} (f : X → List ℕ) (size : ℕ) (xs : List X) (k : ℕ) (x : X) → list_all (λ y. length (f y) == size) xs ≡ true → slice_get xs k ≡ Some x
    → take size (drop (k * size) (flat_map f xs)) ≡ f x
piece f size [] k x all at = absurd (none_some x at)
piece f size (y ∷ xs) zero x all at =
    let b = and_true (length (f y) == size) (list_all (λ z. length (f z) == size) xs) all in
    ap (λ j. take size (drop j (f y ++ flat_map f xs))) (nothing size) ∙ in_front (f y) (flat_map f xs) size (grind (arith, nat_tests, b.0)) ∙ ap f (some_value y x at)
piece f size (y ∷ xs) (suc k) x all at =
    let b = and_true (length (f y) == size) (list_all (λ z. length (f z) == size) xs) all in
    ap (λ j. take size (drop j (f y ++ flat_map f xs))) (next k size) ∙ ap (take size) (behind (f y) (flat_map f xs) size (k * size) (grind (arith, nat_tests, b.0)))
    ∙ piece f size xs k x b.1 at

-- A place among so many sectors is one among their bytes.
pub place_within : (n k size : ℕ) → 0 < size → nat_lt (k * size) (n * size) ≡ nat_lt k n
place_within n k size some = go (nat_lt k n) (nat_lt (k * size) (n * size)) refl refl
  where
    go : (p q : Bool) → nat_lt k n ≡ p → nat_lt (k * size) (n * size) ≡ q → nat_lt (k * size) (n * size) ≡ nat_lt k n
    go true true h g = g ∙ sym h
    go false false h g = g ∙ sym h
    go true false h g =
        let less : k < n = grind (arith, nat_tests, h) in
        let more : k * size < n * size = mul-lt-mul_of_pos_right less some in
        absurd (grind (arith, nat_tests, g, more))
    go false true h g =
        let more : k * size < n * size = grind (arith, nat_tests, g) in
        let less : k < n = lt_of_mul-lt-mul_right size more in
        absurd (grind (arith, nat_tests, h, less))

-- So many sectors, as a run of this size.
abbrev pub run_of : {X : Type 0} → (X → List ℕ) → ℕ → List X → Run
run_of f size xs = record { size = size; bytes = flat_map f xs }

is_there : {X : Type 0} (f : X → List ℕ) (size : ℕ) (xs : List X) (k : ℕ) → 0 < size → list_all (λ y. length (f y) == size) xs ≡ true
    → nat_lt (k * size) (length (flat_map f xs)) ≡ nat_lt k (length xs)
is_there f size xs k some all = ap (nat_lt (k * size)) (sym (whole f size xs all)) ∙ place_within (length xs) k size some

-- Past the last sector there is none.
pub none_at : {X : Type 0} (f : X → List ℕ) (size : ℕ) (xs : List X) (k : ℕ) → 0 < size → list_all (λ y. length (f y) == size) xs ≡ true
    → length xs ≤ k → None ≡ sector_in (run_of f size xs) k
none_at f size xs k some all past =
    let test : nat_lt k (length xs) ≡ false = grind (arith, nat_tests, past) in
    ap (λ b. choose b (sector_at (run_of f size xs) k)) (sym (is_there f size xs k some all ∙ test))

-- One of them has its bytes.
pub some_at : {X : Type 0} (f : X → List ℕ) (size : ℕ) (xs : List X) (k : ℕ) (x : X) → 0 < size → list_all (λ y. length (f y) == size) xs ≡ true
    → k < length xs → x ≡ get_or xs k x → Some (f x) ≡ sector_in (run_of f size xs) k
some_at f size xs k x some all within is =
    let test : nat_lt k (length xs) ≡ true = grind (arith, nat_tests, within) in
    ap (λ bytes. choose true bytes) (sym (piece f size xs k x all (slice_get_read xs (length xs) k x refl within is)))
    ∙ ap (λ b. choose b (sector_at (run_of f size xs) k)) (sym (is_there f size xs k some all ∙ test))

-- The sector that is found is the one at its place.
pub chosen_is : {A : Type 0} (b : Bool) (x y : A) → Some x ≡ choose b y → x ≡ y
chosen_is true x y is = some_value x y is
chosen_is false x y is = absurd (none_some x (sym is))

-- A sector has some bytes.
pub has_some : (size : ℕ) → 512 ≤ size → 0 < size
has_some size long = omega (arith, long)
