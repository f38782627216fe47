-- The bits of a bitmap in rising order are those that pass the test.
use Rattle.sl_request.proofs.BitmapFacts.{byte_of, place_in}
use Rattle.sl_request.specs.BitmapLaws.{BitsInOrder}
use Rattle.sl_sector.proofs.BitLaws.{all_bits, bits_below, bits_of_front, more_bytes, whole_bitmap}
use Rattle.sl_sector.specs.Bitmaps.{bits_of_byte, is_bit_set}
use Rattle.std.proofs.Common.{Bool, List, ap, arith, cond, eqb, false, get_or, inl, inr, length, refl, suc, sym, true, zero, ℕ, ◌*◌, ◌++◌, ◌+◌, ◌<◌, ◌≡◌, ◌≤◌, ◌∙◌, ◌∷◌}
use Rattle.std.proofs.lemmas.Bool.{cases_eq}
use Rattle.std.proofs.lemmas.List.Elements.{filter-append}
use Rattle.std.specs.Int.{bit_at}
use Rattle.std.specs.List.{range_with_len}
use Rattle.std.specs.Prelude.{filter, map}

-- A range is cut in two.
range-append : (a m n : ℕ) → range_with_len a (m + n) ≡ range_with_len a m ++ range_with_len (a + m) n
range-append a zero n =
    let none : 0 + n ≡ n = omega arith in
    let start : a ≡ a + 0 = omega arith in
    ap (range_with_len a) none ∙ ap (λ (k : ℕ). range_with_len k n) start
range-append a (suc m) n =
    let next : suc m + n ≡ suc (m + n) = omega arith in
    let start : a + 1 + m ≡ a + suc m = omega arith in
    ap (range_with_len a) next ∙ ap (λ (ks : List ℕ). a ∷ ks) (range-append (a + 1) m n ∙ ap (λ (k : ℕ). range_with_len (a + 1) m ++ range_with_len k n) start)

-- The bit at a place of a byte is that of its host.
bit_of_host : (b : List ℕ) (i j : ℕ) → j < 8 → is_bit_set b (8 * i + j + 1) ≡ eqb (bit_at (get_or b i 0) j) 1
bit_of_host b i j small =
    let at : byte_of (8 * i + j + 1) ≡ i = omega (arith, small) in
    let place : place_in (8 * i + j + 1) ≡ j = omega (arith, small) in
    rw (at, place) refl

-- One place more.
one_more : (i j : ℕ) (t u : Bool) (xs ys : List ℕ) → t ≡ u → xs ≡ map (λ k. 8 * i + k + 1) ys
    → cond t ((8 * i + j + 1) ∷ xs) xs ≡ map (λ k. 8 * i + k + 1) (cond u (j ∷ ys) ys)
one_more i j t u xs ys is rest = rw (is, rest) (named u)
  where
    named : (v : Bool) → cond v ((8 * i + j + 1) ∷ map (λ k. 8 * i + k + 1) ys) (map (λ k. 8 * i + k + 1) ys) ≡ map (λ k. 8 * i + k + 1) (cond v (j ∷ ys) ys)
    named true = refl
    named false = refl

-- The set bits of a byte from place j on, m places long.
in_byte : (b : List ℕ) (i m j : ℕ) → j + m ≤ 8
    → filter (is_bit_set b) (range_with_len (8 * i + j + 1) m) ≡ map (λ k. 8 * i + k + 1) (filter (λ k. eqb (bit_at (get_or b i 0) k) 1) (range_with_len j m))
in_byte b i zero j few = refl
in_byte b i (suc m) j few =
    let start : 8 * i + j + 1 + 1 ≡ 8 * i + (j + 1) + 1 = omega arith in
    let here = bit_of_host b i j (omega (arith, few)) in
    one_more i j _ _ _ _ here (ap (λ (k : ℕ). filter (is_bit_set b) (range_with_len k m)) start ∙ in_byte b i m (j + 1) (omega (arith, few)))

-- The set bits of byte i.
of_byte : (b : List ℕ) (i : ℕ) → filter (is_bit_set b) (range_with_len (8 * i + 1) 8) ≡ bits_of_byte i (get_or b i 0)
of_byte b i =
    let start : 8 * i + 1 ≡ 8 * i + 0 + 1 = omega arith in
    ap (λ (k : ℕ). filter (is_bit_set b) (range_with_len k 8)) start ∙ in_byte b i 8 0 (omega arith) ∙ below (get_or b i 0)
  where
    below : (x : ℕ) → bits_below i x 8 ≡ bits_of_byte i x
    below x = elim (cases_eq x 0) [ inl none ↦ rw none refl | inr some ↦ all_bits i x some ]

-- The set bits of the first n bytes.
of_front : (b : List ℕ) (n : ℕ) → n ≤ length b → bits_of_front b n ≡ filter (is_bit_set b) (range_with_len 1 (8 * n))
of_front b zero inside = refl
of_front b (suc n) inside =
    let next : suc n ≡ n + 1 = omega arith in
    let longer : 8 * suc n ≡ 8 * n + 8 = omega arith in
    let start : 1 + 8 * n ≡ 8 * n + 1 = omega arith in
    let low : n < length b = omega (arith, inside) in
    let more : bits_of_front b n ++ bits_of_byte n (get_or b n 0) ≡ bits_of_front b (n + 1) = more_bytes b (bits_of_front b n) _ n (get_or b n 0) low refl refl refl in
    let hosts : range_with_len 1 (8 * suc n) ≡ range_with_len 1 (8 * n) ++ range_with_len (8 * n + 1) 8 =
    ap (range_with_len 1) longer ∙ range-append 1 (8 * n) 8 ∙ ap (λ (k : ℕ). range_with_len 1 (8 * n) ++ range_with_len k 8) start in
    ap (bits_of_front b) next ∙ sym more
    ∙ rw (of_front b n (omega (arith, inside)), ← of_byte b n) (sym (filter-append (is_bit_set b) (range_with_len 1 (8 * n)) (range_with_len (8 * n + 1) 8)))
    ∙ sym (ap (filter (is_bit_set b)) hosts)

-- The bits of the bitmap are in rising order.
pub bits_in_order : BitsInOrder
bits_in_order b long = sym (whole_bitmap b 250 (omega (arith, long))) ∙ of_front b 250 (omega (arith, long))
