-- Laws of fields: what stands at an offset is spelled by the bytes there, and what was spelled there is read again.
use Rattle.sl_sector.proofs.ByteLaws.{IsBytes, IsBytes-drop, IsBytes-take, all_zero-replicate, length-padded_text, zeros_from_test}
use Rattle.sl_sector.specs.FieldBytes.{is_absent_name, is_name_field, name_at, name_bytes, name_field, name_len, u32_at, u32_bytes, u64_at, u64_bytes}
use Rattle.sl_sector.specs.SectorLayouts.{magic}
use Rattle.sl_text.specs.Names.{is_name, is_name_byte, padded_text}
use Rattle.sl_words.proofs.WordLaws.{and_true}
use Rattle.sl_words.specs.Words.{all_zero}
use Rattle.std.proofs.Common.{List, [], ap, arith, drop, eqb, inl, inr, length, refl, suc, sym, take, true, zero, ℕ, ◌++◌, ◌+◌, ◌-◌, ◌<◌, ◌^◌, ◌≡◌, ◌≤◌, ◌∙◌, ◌∷◌, leb}
use Rattle.std.proofs.Math.ListN.{replicate}
use Rattle.std.proofs.Math.Seq.{take-add}
use Rattle.std.proofs.lemmas.Bool.{and_from, both_ways, cases_Bool, eq-eqb, eqb-true, leb-true}
use Rattle.std.proofs.lemmas.List.{drop_at, length-append, length-drop, length-take, take-append-drop, take-take, take_at}
use Rattle.std.proofs.lemmas.List.Folds.{length-prefix_len, prefix_len-append}
use Rattle.std.proofs.lemmas.Nat.{be_bytes_4, be_bytes_8, from_be_bytes-to_be_bytes_4, from_be_bytes-to_be_bytes_8}
use Rattle.std.specs.Int.{from_be_bytes, is_in_range, w32, w64}
use Rattle.std.specs.List.{list_all, prefix_len}
use Rattle.std.specs.Prelude.{not}

-- ---- from the front on: the bytes so far, and one field more

-- How long a part of a list is.
pub length_part : (bs : List ℕ) (at n : ℕ) → at + n ≤ length bs → length (take n (drop at bs)) ≡ n
length_part bs at n h = omega (arith, length-take n (drop at bs), length-drop at bs)

-- A number in four bytes.
pub take-u32 : (bs : List ℕ) (at : ℕ) → IsBytes bs → at + 4 ≤ length bs → take (at + 4) bs ≡ take at bs ++ u32_bytes (u32_at bs at)
unfolding u32_bytes u32_at
take-u32 bs at fits h =
    let part = take 4 (drop at bs) in
    take-add at 4 bs
    ∙ ap (λ (x : List ℕ). take at bs ++ x)
    (sym (be_bytes_4 part (from_be_bytes w32 part) (length_part bs at 4 h) (IsBytes-take 4 (drop at bs) (IsBytes-drop at bs fits)) refl))

-- A number in eight bytes.
pub take-u64 : (bs : List ℕ) (at : ℕ) → IsBytes bs → at + 8 ≤ length bs → take (at + 8) bs ≡ take at bs ++ u64_bytes (u64_at bs at)
unfolding u64_bytes u64_at
take-u64 bs at fits h =
    let part = take 8 (drop at bs) in
    take-add at 8 bs
    ∙ ap (λ (x : List ℕ). take at bs ++ x)
    (sym (be_bytes_8 part (from_be_bytes w64 part) (length_part bs at 8 h) (IsBytes-take 8 (drop at bs) (IsBytes-drop at bs fits)) refl))

-- A name's bytes are its characters and zeros.
name_field_is : (field : List ℕ) (n : ℕ) → length field ≡ 48 → length (take n field) ≡ n → all_zero (drop n field) ≡ true → name_bytes (take n field) ≡ field
unfolding padded_text
name_field_is field n long len zeros =
    let rest : drop n field ≡ replicate (length (drop n field)) 0 = zeros_from_test (drop n field) zeros in
    let left : length (drop n field) ≡ 48 - length (take n field) = omega (arith, length-drop n field) in
    rw (← left, ← rest) (take-append-drop n field)

-- A name and its zeros.
pub take-name : (bs : List ℕ) (at : ℕ) → at + 48 ≤ length bs → is_name_field bs at ≡ true → take (at + 48) bs ≡ take at bs ++ name_bytes (name_at bs at)
take-name bs at h ok =
    let field = name_field bs at in
    let p = λ (b : ℕ). not (eqb b 0) in
    take-add at 48 bs
    ∙ ap (λ (x : List ℕ). take at bs ++ x)
    (sym (name_field_is field (prefix_len p field) (length_part bs at 48 h) (length-prefix_len p field) (and_true _ _ ok).0))

-- ---- back from the end: the last field, and the bytes before it

-- The bytes begin with this text, which ends at this offset.
pub record Begins (bs text : List ℕ) (at : ℕ) : Type 0 where
  pub long : length text ≡ at
  pub front : take at bs ≡ text

-- What is before the last part of a text, and that part.
pub Begins-before : (bs text part : List ℕ) (at n : ℕ) → length part ≡ n → Begins bs (text ++ part) (at + n) → Begins bs text at × (take n (drop at bs) ≡ part)
Begins-before bs text part at n len b =
    let long : length text ≡ at = omega (arith, length-append text part, b.long) in
    let whole : take at bs ++ take n (drop at bs) ≡ text ++ part = sym (take-add at n bs) ∙ b.front in
    let front : take at bs ≡ text =
    sym (take-take at (at + n) bs (omega arith)) ∙ ap (take at) b.front ∙ take_at text part at long in
    let enough : length (take at bs) ≡ at = ap length front ∙ long in (
      record { long = long; front = front },
      sym (drop_at (take at bs) (take n (drop at bs)) at enough) ∙ ap (drop at) whole ∙ drop_at text part at long,
    )

-- The magic has four bytes.
pub length-magic : length magic ≡ 4
unfolding magic
length-magic = refl

-- A short number has four.
pub length-u32_bytes : (n : ℕ) → length (u32_bytes n) ≡ 4
unfolding u32_bytes
length-u32_bytes n = refl

-- A long number has eight.
pub length-u64_bytes : (n : ℕ) → length (u64_bytes n) ≡ 8
unfolding u64_bytes
length-u64_bytes n = refl

-- A short number is read as what was written.
u32_back : (bs : List ℕ) (at n : ℕ) → n < 2 ^ 32 → take 4 (drop at bs) ≡ u32_bytes n → u32_at bs at ≡ n
unfolding u32_bytes u32_at
u32_back bs at n lt is = ap (from_be_bytes w32) is ∙ from_be_bytes-to_be_bytes_4 n lt

-- A long number is read as what was written.
u64_back : (bs : List ℕ) (at n : ℕ) → n < 2 ^ 64 → take 8 (drop at bs) ≡ u64_bytes n → u64_at bs at ≡ n
unfolding u64_bytes u64_at
u64_back bs at n lt is = ap (from_be_bytes w64) is ∙ from_be_bytes-to_be_bytes_8 n lt

-- A short number, and what is before it.
pub u32_before : (bs text : List ℕ) (at n : ℕ) → n < 2 ^ 32 → Begins bs (text ++ u32_bytes n) (at + 4) → Begins bs text at × (u32_at bs at ≡ n)
u32_before bs text at n lt b =
    let p = Begins-before bs text (u32_bytes n) at 4 (length-u32_bytes n) b in
    (p.0, u32_back bs at n lt p.1)

-- A long number, and what is before it.
pub u64_before : (bs text : List ℕ) (at n : ℕ) → n < 2 ^ 64 → Begins bs (text ++ u64_bytes n) (at + 8) → Begins bs text at × (u64_at bs at ≡ n)
u64_before bs text at n lt b =
    let p = Begins-before bs text (u64_bytes n) at 8 (length-u64_bytes n) b in
    (p.0, u64_back bs at n lt p.1)

-- A name's characters aren't zero.
name_byte_passes : (b : ℕ) → is_name_byte b ≡ true → not (eqb b 0) ≡ true
name_byte_passes b h =
    elim (cases_Bool (eqb b 0)) [
      | inl e ↦ absurd (both_ways (is_name_byte 0) refl (rw (eqb-true b 0 e) at h))
      | inr e ↦ rw e refl
    ]

-- A name has no zero.
prefix_of_name : (name : List ℕ) → list_all is_name_byte name ≡ true → prefix_len (λ b. not (eqb b 0)) name ≡ length name
prefix_of_name [] h = refl
prefix_of_name (b ∷ bs) h =
    let p = and_true (is_name_byte b) (list_all is_name_byte bs) h in
    rw (name_byte_passes b p.0, prefix_of_name bs p.1) (omega arith)

-- Zeros begin with a zero.
prefix_of_no_name : (n : ℕ) → prefix_len (λ b. not (eqb b 0)) (replicate n 0) ≡ 0
prefix_of_no_name zero = refl
prefix_of_no_name (suc n) = refl

-- The characters before the first zero are as many as the name's.
prefix_of_name_bytes : (name : List ℕ) → list_all is_name_byte name ≡ true → prefix_len (λ b. not (eqb b 0)) (name_bytes name) ≡ length name
unfolding padded_text
prefix_of_name_bytes name h =
    prefix_len-append (λ b. not (eqb b 0)) name (replicate (48 - length name) 0)
    ∙ rw (prefix_of_name name h, eq-eqb (length name) (length name) refl, prefix_of_no_name (48 - length name)) (omega arith)

-- The name stands in front of its zeros.
take-name_bytes : (name : List ℕ) → take (length name) (name_bytes name) ≡ name
unfolding padded_text
take-name_bytes name = take_at name (replicate (48 - length name) 0) (length name) refl

-- Behind the name stand zeros.
zeros_behind_name : (name : List ℕ) → all_zero (drop (length name) (name_bytes name)) ≡ true
unfolding padded_text
zeros_behind_name name = rw (drop_at name (replicate (48 - length name) 0) (length name) refl) (all_zero-replicate (48 - length name))

-- What a name is, in facts.
pub record Named (name : List ℕ) : Type 0 where
  pub above : 1 ≤ length name
  pub within : length name ≤ 48
  pub each : list_all is_name_byte name ≡ true

-- The test, as facts.
pub named : (name : List ℕ) → is_name name ≡ true → Named name
named name h =
    let p = and_true (is_in_range 1 48 (length name)) (list_all is_name_byte name) h in
    let q = and_true (leb 1 (length name)) (leb (length name) 48) p.0 in
    record { above = leb-true 1 (length name) q.0; within = leb-true (length name) 48 q.1; each = p.1 }

-- A name's field has 48 bytes.
pub length-name_bytes : (name : List ℕ) → is_name name ≡ true → length (name_bytes name) ≡ 48
length-name_bytes name h = length-padded_text 48 name (named name h).within

-- A name is read as what was written.
name_back : (bs : List ℕ) (at : ℕ) (name : List ℕ) → is_name name ≡ true → take 48 (drop at bs) ≡ name_bytes name → (is_name_field bs at ≡ true) × (name_at bs at ≡ name)
name_back bs at name h is =
    let len : name_len bs at ≡ length name = ap (prefix_len (λ b. not (eqb b 0))) is ∙ prefix_of_name_bytes name (named name h).each in
    let read : name_at bs at ≡ name = rw (len, is) (take-name_bytes name) in
    (rw (read, len, is) (and_from _ _ (zeros_behind_name name) h), read)

-- A name, and what is before it.
pub name_before : (bs text : List ℕ) (at : ℕ) (name : List ℕ) → is_name name ≡ true → Begins bs (text ++ name_bytes name) (at + 48)
    → Begins bs text at × (is_name_field bs at ≡ true) × (name_at bs at ≡ name)
name_before bs text at name h b =
    let p = Begins-before bs text (name_bytes name) at 48 (length-name_bytes name h) b in
    let q = name_back bs at name h p.1 in
    (p.0, q.0, q.1)

-- No name is 48 zeros.
pub take-no_name : (bs : List ℕ) (at : ℕ) → at + 48 ≤ length bs → is_absent_name bs at ≡ true → take (at + 48) bs ≡ take at bs ++ name_bytes []
unfolding padded_text
take-no_name bs at h ok =
    let zeros : name_field bs at ≡ replicate 48 0 = zeros_from_test (name_field bs at) ok ∙ ap (λ (n : ℕ). replicate n 0) (length_part bs at 48 h) in
    take-add at 48 bs ∙ ap (λ (x : List ℕ). take at bs ++ x) zeros

-- 48 bytes too.
pub length-no_name : length (name_bytes []) ≡ 48
length-no_name = length-padded_text 48 [] (omega arith)

-- No name, and what is before it.
pub no_name_before : (bs text : List ℕ) (at : ℕ) → Begins bs (text ++ name_bytes []) (at + 48) → Begins bs text at × (is_absent_name bs at ≡ true)
no_name_before bs text at b =
    let p = Begins-before bs text (name_bytes []) at 48 length-no_name b in
    (p.0, rw p.1 (zeros_behind_name []))
