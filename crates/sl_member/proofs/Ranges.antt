-- Ids in order: one more is the last.
use Rattle.sl_sector.specs.Bitmaps.{bitmap_of, no_bits, set_bit}
use Rattle.sl_sector.specs.declared.sector.Bad.{Bad}
use Rattle.sl_sector.specs.declared.sector.Rec.{Rec}
use Rattle.sl_watch.specs.ToldLooks.{told_at, told_of}
use Rattle.sl_watch.specs.Watches.{Watched}
use Rattle.std.proofs.Common.{ap, arith, refl, suc, sym, zero, ◌∙◌}
use Rattle.std.proofs.lemmas.List.Elements.{filter-append}
use Rattle.std.proofs.lemmas.List.Sums.{fold-append}
use Rattle.std.specs.List.{list_any, range_with_len}
use Rattle.std.specs.Prelude.{Bool, List, Result, cond, false, filter, true, [], ℕ, ◌++◌, ◌+◌, ◌<◌, ◌∷◌, ◌≡◌, ◌||◌}

one_on : (a n : ℕ) → a + 1 + n ≡ a + suc n
one_on a n = omega arith

range_more : (a n : ℕ) → range_with_len a (suc n) ≡ range_with_len a n ++ (a + n) ∷ []
range_more a zero = ap (λ x. x ∷ []) (omega arith)
range_more a (suc n) = ap (λ xs. a ∷ xs) (range_more (a + 1) n ∙ ap (λ x. range_with_len (a + 1) n ++ x ∷ []) (one_on a n))

one_suc : (n : ℕ) → n + 1 ≡ suc n
one_suc n = omega arith

turned : (n : ℕ) → 1 + n ≡ n + 1
turned n = omega arith

pub ids_more : (n : ℕ) → range_with_len 1 (n + 1) ≡ range_with_len 1 n ++ (n + 1) ∷ []
ids_more n = ap (range_with_len 1) (one_suc n) ∙ range_more 1 n ∙ ap (λ m. range_with_len 1 n ++ m ∷ []) (turned n)

filtered_more : (p : ℕ → Bool) (n : ℕ) → filter p (range_with_len 1 (n + 1)) ≡ filter p (range_with_len 1 n) ++ cond (p (n + 1)) ((n + 1) ∷ []) []
filtered_more p n = ap (filter p) (ids_more n) ∙ filter-append p (range_with_len 1 n) ((n + 1) ∷ [])

-- One more id with its bit, or without.
pub bit_set : (p : ℕ → Bool) (n : ℕ) (b c : List ℕ) → p (n + 1) ≡ true → b ≡ bitmap_of (filter p (range_with_len 1 n)) → c ≡ set_bit b (n + 1)
    → c ≡ bitmap_of (filter p (range_with_len 1 (n + 1)))
bit_set p n b c is so set =
    set ∙ ap (λ x. set_bit x (n + 1)) so
    ∙ sym (ap bitmap_of (filtered_more p n ∙ ap (λ t. filter p (range_with_len 1 n) ++ cond t ((n + 1) ∷ []) []) is)
    ∙ fold-append set_bit no_bits (filter p (range_with_len 1 n)) ((n + 1) ∷ []))

none_behind : (xs : List ℕ) → xs ++ [] ≡ xs
none_behind [] = refl
none_behind (x ∷ xs) = ap (λ zs. x ∷ zs) (none_behind xs)

pub bit_stays : (p : ℕ → Bool) (n : ℕ) (b : List ℕ) → p (n + 1) ≡ false → b ≡ bitmap_of (filter p (range_with_len 1 n)) → b ≡ bitmap_of (filter p (range_with_len 1 (n + 1)))
bit_stays p n b is so =
    so ∙ sym (ap bitmap_of (filtered_more p n ∙ ap (λ t. filter p (range_with_len 1 n) ++ cond t ((n + 1) ∷ []) []) is ∙ none_behind (filter p (range_with_len 1 n))))

-- One more id is told.
pub told_more : (before after : ℕ) (found : ℕ → Result Rec Bad) (n : ℕ) (w : Watched)
    → told_of before after found (range_with_len 1 (n + 1)) w ≡ told_at before after (n + 1) (found (n + 1)) (told_of before after found (range_with_len 1 n) w)
told_more before after found n w =
    ap (λ ids. told_of before after found ids w) (ids_more n)
    ∙ fold-append (λ (v : Watched) id. told_at before after id (found id) v) w (range_with_len 1 n) ((n + 1) ∷ [])

any_or : (p : ℕ → Bool) (xs : List ℕ) (y : ℕ) → list_any p (xs ++ y ∷ []) ≡ (list_any p xs || p y)
any_or p [] y = by (p y) where
  by : (b : Bool) → (b || false) ≡ b
  by true = refl
  by false = refl
any_or p (x ∷ xs) y = by (p x) (any_or p xs y) where
  by : (b : Bool) → list_any p (xs ++ y ∷ []) ≡ (list_any p xs || p y) → (b || list_any p (xs ++ y ∷ [])) ≡ ((b || list_any p xs) || p y)
  by true h = refl
  by false h = h

-- None so far, nor this one.
pub none_more : (p : ℕ → Bool) (n : ℕ) → list_any p (range_with_len 1 n) ≡ false → p (n + 1) ≡ false → list_any p (range_with_len 1 (n + 1)) ≡ false
none_more p n none here =
    ap (list_any p) (ids_more n) ∙ any_or p (range_with_len 1 n) (n + 1) ∙ ap (λ b. b || p (n + 1)) none ∙ here

one_in : (p : ℕ → Bool) (a n k : ℕ) → k < n → p (a + k) ≡ true → list_any p (range_with_len a n) ≡ true
one_in p a zero k inside is = absurd (omega (arith, inside))
one_in p a (suc n) zero inside is = ap (λ b. b || list_any p (range_with_len (a + 1) n)) (ap p (zero_on a) ∙ is) where
  zero_on : (a : ℕ) → a ≡ a + zero
  zero_on a = omega arith
one_in p a (suc n) (suc k) inside is = either (p a) (one_in p (a + 1) n k (omega (arith, inside)) (ap p (one_on a k) ∙ is)) where
  either : (b : Bool) → list_any p (range_with_len (a + 1) n) ≡ true → (b || list_any p (range_with_len (a + 1) n)) ≡ true
  either true h = refl
  either false h = h

-- This one of them.
pub one_asks : (p : ℕ → Bool) (n k : ℕ) → k < n → p (k + 1) ≡ true → list_any p (range_with_len 1 n) ≡ true
one_asks p n k inside is = one_in p 1 n k inside (ap p (turned k) ∙ is)
