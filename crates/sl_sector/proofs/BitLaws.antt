-- The bits of a byte and of a bitmap, one more at a time.
use Rattle.sl_sector.specs.Bitmaps.{bits_of, bits_of_byte}
use Rattle.std.proofs.Common.{Bool, List, [], ap, arith, cond, eqb, false, get_or, length, refl, suc, sym, take, true, zero, zero-add, ℕ, ◌%◌, ◌*◌, ◌++◌, ◌+◌, ◌/◌, ◌<◌, ◌^◌, ◌≡◌, ◌≤◌, ◌∙◌, ◌∷◌}
use Rattle.std.proofs.lemmas.Bool.{ne_eqb}
use Rattle.std.proofs.lemmas.List.{append-nil, append_assoc, map-append, take_all, take_more}
use Rattle.std.proofs.lemmas.List.Elements.{filter-append}
use Rattle.std.proofs.lemmas.List.FromFn.{get_or-enumerate_from, length-enumerate_from}
use Rattle.std.proofs.lemmas.Grind.{flat_map-append}
use Rattle.std.specs.List.{enumerate_from, filter, flat_map, range_with_len}
use Rattle.std.specs.Prelude.{map}

-- A range, one number longer.
range-more : (a n : ℕ) → range_with_len a (suc n) ≡ range_with_len a n ++ (a + n) ∷ []
range-more a zero = ap (λ (k : ℕ). k ∷ []) (omega arith)
range-more a (suc n) = ap (λ (xs : List ℕ). a ∷ xs) (range-more (a + 1) n ∙ ap (λ (k : ℕ). range_with_len (a + 1) n ++ k ∷ []) (omega arith))

-- The bits of byte i below place j.
abbrev pub bits_below : ℕ → ℕ → ℕ → List ℕ
bits_below i b j = map (λ k. 8 * i + k + 1) (filter (λ k. eqb ((b / 2 ^ k) % 2) 1) (range_with_len 0 j))

-- The name of one bit, where it is set.
one_bit : (i : ℕ) (set : Bool) (j : ℕ) → map (λ k. 8 * i + k + 1) (cond set (j ∷ []) []) ≡ cond set ((8 * i + j + 1) ∷ []) []
one_bit i true j = refl
one_bit i false j = refl

-- One bit more, where it is set.
pub bits_below-more : (i b j : ℕ) → bits_below i b (j + 1) ≡ bits_below i b j ++ cond (eqb ((b / 2 ^ j) % 2) 1) ((8 * i + j + 1) ∷ []) []
bits_below-more i b j =
    let next : j + 1 ≡ suc j = omega arith in
    let last : 0 + j ≡ j = omega arith in
    let test = λ (k : ℕ). eqb ((b / 2 ^ k) % 2) 1 in
    let named = λ (k : ℕ). 8 * i + k + 1 in
    let one : range_with_len 0 (j + 1) ≡ range_with_len 0 j ++ j ∷ [] =
    ap (range_with_len 0) next ∙ range-more 0 j ∙ ap (λ (k : ℕ). range_with_len 0 j ++ k ∷ []) last in
    ap (λ (ks : List ℕ). map named (filter test ks)) one
    ∙ ap (map named) (filter-append test (range_with_len 0 j) (j ∷ []))
    ∙ map-append named (filter test (range_with_len 0 j)) (cond (test j) (j ∷ []) [])
    ∙ ap (λ (ks : List ℕ). bits_below i b j ++ ks) (one_bit i (test j) j)

-- All bits of a byte, of which some is set.
pub all_bits : (i b : ℕ) → (b ≡ 0 → ⊥) → bits_below i b 8 ≡ bits_of_byte i b
all_bits i b h = sym (chosen (eqb b 0) (bits_below i b 8) (ne_eqb b 0 h))
  where
    chosen : (t : Bool) (bits : List ℕ) → t ≡ false → elim t as (λ _. List ℕ) [ true ↦ [] | false ↦ bits ] ≡ bits
    chosen true bits e = absurd cc
    chosen false bits e = refl

-- A byte without bits.
pub no_bits : (i b : ℕ) → b ≡ 0 → bits_of_byte i b ≡ []
no_bits i b e = rw e refl

-- The loop over places has ended: all bits are added, and none of a byte without bits.
pub all_bits_pushed : (old now : List ℕ) (i b j : ℕ) → (b ≡ 0 → ⊥) → j ≡ 8 → now ≡ old ++ bits_below i b j → now ≡ old ++ bits_of_byte i b
all_bits_pushed old now i b j some end so_far = so_far ∙ ap (λ k. old ++ bits_below i b k) end ∙ ap (λ (bits : List ℕ). old ++ bits) (all_bits i b some)

pub no_bits_pushed : (old : List ℕ) (i b : ℕ) → b ≡ 0 → old ≡ old ++ bits_of_byte i b
no_bits_pushed old i b none = sym (ap (λ (bits : List ℕ). old ++ bits) (no_bits i b none) ∙ append-nil old)

-- A step of the loop over places: the bits so far, and the bit at this place where it is set.
pub more_bits : (old now new : List ℕ) (i b j : ℕ) (set : Bool) → now ≡ old ++ bits_below i b j → set ≡ eqb ((b / 2 ^ j) % 2) 1
    → new ≡ now ++ cond set ((8 * i + j + 1) ∷ []) [] → new ≡ old ++ bits_below i b (j + 1)
more_bits old now new i b j set before is after =
    after
    ∙ rw (before, is) (append_assoc old (bits_below i b j) (cond (eqb ((b / 2 ^ j) % 2) 1) ((8 * i + j + 1) ∷ []) []))
    ∙ ap (λ (bits : List ℕ). old ++ bits) (sym (bits_below-more i b j))

-- The bits of the first n bytes.
abbrev pub bits_of_front : List ℕ → ℕ → List ℕ
bits_of_front bitmap n = flat_map (λ p. bits_of_byte p.0 p.1) (take n (enumerate_from 0 bitmap))

-- A step of the loop over bytes.
pub more_bytes : (bitmap now new : List ℕ) (i b : ℕ) → i < length bitmap → b ≡ get_or bitmap i 0 → now ≡ bits_of_front bitmap i → new ≡ now ++ bits_of_byte i b
    → new ≡ bits_of_front bitmap (i + 1)
more_bytes bitmap now new i b lt is before after =
    let pairs = enumerate_from 0 bitmap in
    let each = λ (p : ℕ × ℕ). bits_of_byte p.0 p.1 in
    let long : i < length pairs = rw (length-enumerate_from 0 bitmap) lt in
    let last : get_or pairs i (0, 0) ≡ (i, b) = get_or-enumerate_from 0 bitmap i (0, 0) lt ∙ rw (← is) (ap (λ (k : ℕ). (k, b)) (zero-add i)) in
    let one : take (i + 1) pairs ≡ take i pairs ++ (i, b) ∷ [] = take_more pairs i (0, 0) long ∙ rw last refl in
    after ∙ rw before (sym (ap (flat_map each) one ∙ flat_map-append each (take i pairs) ((i, b) ∷ []) ∙ ap (λ (bits : List ℕ). bits_of_front bitmap i ++ bits) (append-nil (bits_of_byte i b))))

-- All bytes of a bitmap.
pub whole_bitmap : (bitmap : List ℕ) (n : ℕ) → length bitmap ≤ n → bits_of_front bitmap n ≡ bits_of bitmap
whole_bitmap bitmap n h =
    ap (flat_map (λ p. bits_of_byte p.0 p.1)) (take_all n (enumerate_from 0 bitmap) (rw (length-enumerate_from 0 bitmap) h))
