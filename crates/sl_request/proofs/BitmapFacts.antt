-- The bits of a bitmap, byte by byte.
use Rattle.sl_request.proofs.ByteFacts.{has_bit, with_bit, with_bit-byte, with_bit-or, with_bit-other, with_bit-same, without_bit, without_bit-and, without_bit-byte, without_bit-other, without_bit-same}
use Rattle.sl_request.specs.BitmapLaws.{BitsAreAll, ChangesBit, ClearChangesOne, IsHost, ListedAreSet, NoneIsSet, SetChangesOne}
use Rattle.sl_sector.proofs.ByteLaws.{bytes_from_test}
use Rattle.sl_sector.specs.Bitmaps.{clear_bit, is_bit_set, no_bits, set_bit}
use Rattle.sl_sector.specs.Records.{AreBytes}
use Rattle.sl_words.proofs.WordLaws.{and_true}
use Rattle.sl_words.specs.Bounds.{most_hosts}
use Rattle.std.proofs.Common.{Bool, List, [], ap, arith, bit_and, bit_or, cond, eqb, false, get_or, inl, inr, length, ltb, not, refl, subst, sym, true, zero, suc, ℕ, ◌%◌, ◌*◌, ◌+◌, ◌-◌, ◌/◌, ◌<◌, ◌^◌, ◌≡◌, ◌≤◌, ◌∙◌, ◌∷◌, ◌||◌}
use Rattle.std.proofs.lemmas.Bool.Decides.{nat_tests}
use Rattle.std.proofs.lemmas.Bool.{cases_eq, cases_lt, eq-eqb, lt-ltb, ne_eqb}
use Rattle.std.proofs.lemmas.List.{ext_get_or, get_or-replicate, get_or-set_other, get_or-set_same, get_or_past, length-set, set-get_or}
use Rattle.std.proofs.lemmas.Nat.Bits.{bit_at-lt, bit_at-zero, same_from_bits_below}
use Rattle.std.proofs.lemmas.Nat.{pow_below}
use Rattle.std.specs.Int.{bit_at, is_in_range}
use Rattle.std.specs.List.{fold, list_all, list_any}
use Rattle.std.specs.Prelude.{set, ◌≢◌}

-- ---- one byte is written

-- The byte of a host's bit, and the bit's place in it.
abbrev pub byte_of : ℕ → ℕ
byte_of k = (k - 1) / 8

abbrev pub place_in : ℕ → ℕ
place_in k = (k - 1) % 8

-- To set a host's bit is to write its byte with the bit set.
pub set_bit-is : (b : List ℕ) (k : ℕ) → set_bit b k ≡ set b (byte_of k) (with_bit (get_or b (byte_of k) 0) (place_in k))
set_bit-is b k = written (is_bit_set b k)
  where
    written : (t : Bool) → cond t b (set b (byte_of k) (get_or b (byte_of k) 0 + 2 ^ place_in k))
        ≡ set b (byte_of k) (cond t (get_or b (byte_of k) 0) (get_or b (byte_of k) 0 + 2 ^ place_in k))
    written true = sym (set-get_or b (byte_of k) 0)
    written false = refl

-- To clear it is to write its byte with the bit cleared.
pub clear_bit-is : (b : List ℕ) (k : ℕ) → clear_bit b k ≡ set b (byte_of k) (without_bit (get_or b (byte_of k) 0) (place_in k))
clear_bit-is b k = written (is_bit_set b k)
  where
    written : (t : Bool) → cond t (set b (byte_of k) (get_or b (byte_of k) 0 - 2 ^ place_in k)) b
        ≡ set b (byte_of k) (cond t (get_or b (byte_of k) 0 - 2 ^ place_in k) (get_or b (byte_of k) 0))
    written true = refl
    written false = sym (set-get_or b (byte_of k) 0)

-- A test that each element passes holds after one that passes is written.
list_all-set : (p : ℕ → Bool) (b : List ℕ) (i v : ℕ) → list_all p b ≡ true → p v ≡ true → list_all p (set b i v) ≡ true
list_all-set p [] i v all one = refl
list_all-set p (x ∷ xs) zero v all one = rw one (and_true (p x) (list_all p xs) all).1
list_all-set p (x ∷ xs) (suc i) v all one =
    let parts = and_true (p x) (list_all p xs) all in rw parts.0 (list_all-set p xs i v parts.1 one)

-- A bitmap in which the byte of a host's bit is written so that the other bits stay.
changes : (b : List ℕ) (k v : ℕ) (bit : Bool) → AreBytes 250 b → IsHost k → v < 256 → eqb (bit_at v (place_in k)) 1 ≡ bit
    → ((q : ℕ) → q ≢ place_in k → bit_at v q ≡ bit_at (get_or b (byte_of k) 0) q) → ChangesBit k bit b (set b (byte_of k) v)
changes b k v bit bytes host small is same = record {
  changed = rw (get_or-set_same b (byte_of k) v 0 inside) is;
  others = other;
  bytes = (length-set b (byte_of k) v ∙ bytes.0, list_all-set (λ c. ltb c 256) b (byte_of k) v bytes.1 (lt-ltb v 256 small));
}
  where
    inside : byte_of k < length b
    inside = rw bytes.0 (omega (arith, host.0, host.1))

    other : (j : ℕ) → 1 ≤ j → j ≢ k → is_bit_set (set b (byte_of k) v) j ≡ is_bit_set b j
    other j low apart = elim (cases_eq (byte_of j) (byte_of k)) [
      | inl here ↦
          let beside : place_in j ≢ place_in k = λ e. apart (omega (arith, host.0, here, e)) in
          rw (here, get_or-set_same b (byte_of k) v 0 inside) (ap (λ (c : ℕ). eqb c 1) (same (place_in j) beside))
      | inr there ↦ rw (get_or-set_other b (byte_of k) (byte_of j) v 0 there) refl
    ]

-- A place in a byte, as a byte.
pub place_small : (p : ℕ) → p < 8 → 2 ^ p < 2 ^ 8
place_small p h = pow_below p 8 h

-- Setting a host's bit changes it alone.
pub set_changes_one : SetChangesOne
set_changes_one b k bytes host =
    let n = get_or b (byte_of k) 0 in
    rw (set_bit-is b k) (changes b k (with_bit n (place_in k)) true bytes host
    (with_bit-byte n (place_in k) (bytes_from_test b bytes.1 (byte_of k)) (place_small (place_in k) (omega arith)))
    (rw (with_bit-same n (place_in k)) refl) (with_bit-other n (place_in k)))

-- Clearing a host's bit changes it alone.
pub clear_changes_one : ClearChangesOne
clear_changes_one b k bytes host =
    let n = get_or b (byte_of k) 0 in
    rw (clear_bit-is b k) (changes b k (without_bit n (place_in k)) false bytes host
    (without_bit-byte n (place_in k) (bytes_from_test b bytes.1 (byte_of k)))
    (rw (without_bit-same n (place_in k)) refl) (without_bit-other n (place_in k)))

-- ---- no bit, and the bits of a list

-- Each byte of the bitmap without bits is 0, also past its end.
zero_byte : (i : ℕ) → get_or no_bits i 0 ≡ 0
zero_byte i = elim (cases_lt i 250) [
  | inl lt ↦ get_or-replicate 250 i 0 0 lt
  | inr le ↦ let long : length no_bits ≤ i = le in get_or_past no_bits i 0 long
]

-- Without bits no host's bit is set.
pub none_is_set : NoneIsSet
none_is_set = ((refl, refl), λ k. rw (zero_byte (byte_of k)) (rw (bit_at-zero (place_in k)) refl))

-- One bit more: where it is the one asked for, and where it isn't.
bit_here : (t u e r : Bool) → t ≡ true → e ≡ true → (t || r) ≡ (u || (e || r))
bit_here t true e r is same = rw is refl
bit_here t false e r is same = rw (is, same) refl

bit_there : (t u e r : Bool) → t ≡ u → e ≡ false → (t || r) ≡ (u || (e || r))
bit_there t u e r is apart = rw (is, apart) refl

-- The bits of a list, added to a bitmap.
listed : (ks b : List ℕ) → AreBytes 250 b → list_all (is_in_range 1 most_hosts) ks ≡ true
    → AreBytes 250 (fold set_bit b ks) × ((j : ℕ) → 1 ≤ j → is_bit_set (fold set_bit b ks) j ≡ (is_bit_set b j || list_any (λ k. eqb k j) ks))
listed [] b bytes all = (bytes, λ j low. none (is_bit_set b j))
  where
    none : (t : Bool) → t ≡ (t || false)
    none true = refl
    none false = refl
listed (k ∷ ks) b bytes all =
    let parts = and_true (is_in_range 1 most_hosts k) (list_all (is_in_range 1 most_hosts) ks) all in
    let host : IsHost k = (grind (arith, nat_tests, parts.0), grind (arith, nat_tests, parts.0)) in
    let one = set_changes_one b k bytes host in
    let rest = listed ks (set_bit b k) one.bytes parts.1 in
    (rest.0, λ j low. rest.1 j low ∙ step j low one (list_any (λ k. eqb k j) ks))
  where
    step : (j : ℕ) → 1 ≤ j → ChangesBit k true b (set_bit b k) → (r : Bool)
        → (is_bit_set (set_bit b k) j || r) ≡ (is_bit_set b j || (eqb k j || r))
    step j low one r = elim (cases_eq j k) [
      | inl here ↦
          let set_here : is_bit_set (set_bit b k) j ≡ true = ap (is_bit_set (set_bit b k)) here ∙ one.changed in
          bit_here _ (is_bit_set b j) (eqb k j) r set_here (eq-eqb k j (sym here))
      | inr there ↦ bit_there _ (is_bit_set b j) (eqb k j) r (one.others j low there) (ne_eqb k j (λ e. there (sym e)))
    ]

-- The bits of a list of hosts are those hosts' and no others.
pub listed_are_set : ListedAreSet
listed_are_set ks all = let h = listed ks no_bits none_is_set.0 all in (h.0, λ j low. h.1 j low ∙ rw (none_is_set.1 j) refl)

-- ---- a bitmap is its bits

-- Two bits with one test are one.
same_bit : (x y p : ℕ) → eqb (bit_at x p) 1 ≡ eqb (bit_at y p) 1 → bit_at x p ≡ bit_at y p
same_bit x y p h = same (bit_at x p) (bit_at y p) (bit_at-lt x p) (bit_at-lt y p) h
  where
    same : (m n : ℕ) → m < 2 → n < 2 → eqb m 1 ≡ eqb n 1 → m ≡ n
    same m n low_m low_n e = grind (arith, nat_tests)

-- Bytes with the same bits are the same.
pub bits_are_all : BitsAreAll
bits_are_all a b ha hb same = ext_get_or 0 a b (ha.0 ∙ sym hb.0) (λ i inside. byte i inside)
  where
    bit : (i p : ℕ) → i < 250 → p < 8 → bit_at (get_or a i 0) p ≡ bit_at (get_or b i 0) p
    bit i p inside low =
        let k = 8 * i + p + 1 in
        let host : IsHost k = (omega arith, omega arith) in
        let at : byte_of k ≡ i = omega arith in
        let in_it : place_in k ≡ p = omega arith in
        same_bit (get_or a i 0) (get_or b i 0) p (rw (at, in_it) at (same k host))

    byte : (i : ℕ) → i < length a → get_or a i 0 ≡ get_or b i 0
    byte i inside = same_from_bits_below 8 (get_or a i 0) (get_or b i 0) (bytes_from_test a ha.1 i) (bytes_from_test b hb.1 i) (λ p low. bit i p (rw ha.0 at inside) low)

-- ---- what the code writes and reads

-- A bitmap after its byte was united with the mask of a host's bit.
pub after_set : (b old : List ℕ) (k i m : ℕ) → b ≡ old → AreBytes 250 b → IsHost k → i ≡ byte_of k → m ≡ 2 ^ place_in k
    → (set b i (bit_or (get_or b i 0) m) ≡ set_bit old k) × ChangesBit k true old (set b i (bit_or (get_or b i 0) m))
after_set b old k i m same bytes host at mask = (is, subst P (sym is) (rw (← same) (set_changes_one b k bytes host)))
  where
    P : List ℕ → Type 0
    P new = ChangesBit k true old new

    is : set b i (bit_or (get_or b i 0) m) ≡ set_bit old k
    is = rw (at, mask, with_bit-or (get_or b (byte_of k) 0) (place_in k), ← same) (sym (set_bit-is b k))

-- A bitmap after all but the mask of a host's bit was kept of its byte.
pub after_clear : (b old : List ℕ) (k i m : ℕ) → b ≡ old → AreBytes 250 b → IsHost k → i ≡ byte_of k → m ≡ 2 ^ place_in k
    → (set b i (bit_and (get_or b i 0) (255 - m)) ≡ clear_bit old k) × ChangesBit k false old (set b i (bit_and (get_or b i 0) (255 - m)))
after_clear b old k i m same bytes host at mask = (is, subst P (sym is) (rw (← same) (clear_changes_one b k bytes host)))
  where
    P : List ℕ → Type 0
    P new = ChangesBit k false old new

    small : get_or b (byte_of k) 0 < 256
    small = bytes_from_test b bytes.1 (byte_of k)

    is : set b i (bit_and (get_or b i 0) (255 - m)) ≡ clear_bit old k
    is = rw (at, mask, without_bit-and (get_or b (byte_of k) 0) (place_in k) small (place_small (place_in k) (omega arith)), ← same) (sym (clear_bit-is b k))

-- A byte has something in common with the mask of a host's bit exactly where the bit is set.
pub bit_read : (b old : List ℕ) (k i m : ℕ) → b ≡ old → i ≡ byte_of k → m ≡ 2 ^ place_in k → not (eqb (bit_and (get_or b i 0) m) 0) ≡ is_bit_set old k
bit_read b old k i m same at mask = rw (at, mask, ← same) (has_bit (get_or b (byte_of k) 0) (place_in k))
