-- Bytes and the hex digits that write them.
use Rattle.sl_text.specs.Numbers.{hex_bytes, hex_text, is_hex_digit, is_hex_word, IsBytes}
use Rattle.sl_words.proofs.ListLaws.{list_all_place}
use Rattle.sl_words.proofs.WordLaws.{and_true}
use Rattle.std.proofs.Common.{eqb, lit<, ◌&&◌, List, [], ap, arith, get_or, length, refl, set, suc, sym, take, true, zero, ℕ, ◌%◌, ◌*◌, ◌+◌, ◌++◌, ◌/◌, ◌<◌, ◌≡◌, ◌≤◌, ◌∙◌, ◌∷◌}
use Rattle.std.proofs.lemmas.Bool.{and_from, eq-eqb, eqb-true, le-leb, leb-true}
use Rattle.std.proofs.lemmas.Bool.Decides.{nat_tests}
use Rattle.std.proofs.lemmas.List.Concat.{flat_map-append}
use Rattle.std.proofs.lemmas.List.{append_assoc, take_all, take_more, take_more_set}
use Rattle.std.proofs.lemmas.Str.{digit_value-digit_char}
use Rattle.std.specs.Int.{is_in_range}
use Rattle.std.specs.List.{list_all}
use Rattle.std.specs.Char.{digit_char, digit_value}

-- The digits of one more byte.
pub hex_text-push : (bs : List ℕ) (b : ℕ) → hex_text (bs ++ b ∷ []) ≡ hex_text bs ++ (digit_char (b / 16) ∷ digit_char (b % 16) ∷ [])
hex_text-push bs b = flat_map-append (λ b. digit_char (b / 16) ∷ digit_char (b % 16) ∷ []) bs (b ∷ [])

pub hex_text_more : (bs : List ℕ) (i : ℕ) → i < length bs
    → hex_text (take (i + 1) bs) ≡ hex_text (take i bs) ++ (digit_char (get_or bs i 0 / 16) ∷ digit_char (get_or bs i 0 % 16) ∷ [])
hex_text_more bs i h = rw (take_more bs i 0 h) (hex_text-push (take i bs) (get_or bs i 0))

-- The digits of one more byte behind those that are written.
pub one_byte_written : (base old new bs : List ℕ) (i a b : ℕ) → i < length bs → old ≡ base ++ hex_text (take i bs) → a ≡ digit_char (get_or bs i 0 / 16)
    → b ≡ digit_char (get_or bs i 0 % 16) → new ≡ old ++ (a ∷ b ∷ []) → new ≡ base ++ hex_text (take (i + 1) bs)
one_byte_written base old new bs i a b inside so_far high low more =
    let two = ap (λ x. x ∷ b ∷ []) high ∙ ap (λ y. digit_char (get_or bs i 0 / 16) ∷ y ∷ []) low in
    more
    ∙ ap (λ t. t ++ (a ∷ b ∷ [])) so_far
    ∙ append_assoc base (hex_text (take i bs)) (a ∷ b ∷ [])
    ∙ ap (λ t. base ++ (hex_text (take i bs) ++ t)) two
    ∙ ap (λ t. base ++ t) (sym (hex_text_more bs i inside))

-- Those of all.
pub all_bytes_written : (base new bs : List ℕ) (i : ℕ) → length bs ≤ i → new ≡ base ++ hex_text (take i bs) → new ≡ base ++ hex_text bs
all_bytes_written base new bs i end so_far = so_far ∙ ap (λ xs. base ++ hex_text xs) (take_all i bs end)

-- Two digits are one byte.
pub length-hex_bytes : (w : List ℕ) (n : ℕ) → length w ≡ 2 * n → length (hex_bytes w) ≡ n
length-hex_bytes [] n h = omega arith
length-hex_bytes (a ∷ []) n h = absurd (omega arith)
length-hex_bytes (a ∷ b ∷ cs) zero h = absurd (omega arith)
length-hex_bytes (a ∷ b ∷ cs) (suc n) h = omega (arith, length-hex_bytes cs n (omega arith))

-- The k-th byte is that of the k-th two digits.
pub get_or-hex_bytes : (w : List ℕ) (k : ℕ) → 2 * k + 1 < length w → get_or (hex_bytes w) k 0 ≡ 16 * digit_value (get_or w (2 * k) 0) + digit_value (get_or w (2 * k + 1) 0)
get_or-hex_bytes [] k h = absurd (omega arith)
get_or-hex_bytes (a ∷ []) k h = absurd (omega arith)
get_or-hex_bytes (a ∷ b ∷ cs) zero h = refl
get_or-hex_bytes (a ∷ b ∷ cs) (suc k) h =
    let here : 2 * suc k ≡ suc (suc (2 * k)) = omega arith in
    let next : 2 * suc k + 1 ≡ suc (suc (2 * k + 1)) = omega arith in
    rw (next, here) (get_or-hex_bytes cs k (omega arith))

-- Each byte of such a word is a digit.
pub hex_digit_at : (w : List ℕ) (i : ℕ) → list_all is_hex_digit w ≡ true → i < length w → is_hex_digit (get_or w i 0) ≡ true
hex_digit_at w i all h = list_all_place is_hex_digit w i 0 all h

-- One more byte of those that the digits write.
pub one_byte_more : (w out : List ℕ) (i a b : ℕ) → i < length out → length w ≡ 2 * length out → take i out ≡ take i (hex_bytes w)
    → a ≡ digit_value (get_or w (2 * i) 0) → b ≡ digit_value (get_or w (2 * i + 1) 0) → take (i + 1) (set out i (16 * a + b)) ≡ take (i + 1) (hex_bytes w)
one_byte_more w out i a b inside size so_far high low =
    let whole = length-hex_bytes w (length out) size in
    let byte : 16 * a + b ≡ get_or (hex_bytes w) i 0 = omega (arith, high, low, get_or-hex_bytes w i (omega arith)) in
    take_more_set out i (16 * a + b) inside
    ∙ ap (λ bs. bs ++ (16 * a + b) ∷ []) so_far
    ∙ ap (λ x. take i (hex_bytes w) ++ x ∷ []) byte
    ∙ sym (take_more (hex_bytes w) i 0 (omega arith))

-- All of them.
pub all_bytes : (w out : List ℕ) (i : ℕ) → length w ≡ 2 * length out → length out ≤ i → take i out ≡ take i (hex_bytes w) → out ≡ hex_bytes w
all_bytes w out i size end so_far =
    sym (take_all i out end) ∙ so_far ∙ take_all i (hex_bytes w) (omega (arith, length-hex_bytes w (length out) size))

-- A digit of a number below 16, and the number of a digit.
digit_of_number : (n : ℕ) → n < 16 → is_hex_digit (digit_char n) ≡ true
digit_of_number n h = grind (arith, nat_tests)

number_small : (c : ℕ) → is_hex_digit c ≡ true → digit_value c < 16
number_small c h = grind (arith, nat_tests)

digit_again : (c : ℕ) → is_hex_digit c ≡ true → digit_char (digit_value c) ≡ c
digit_again c h = grind (arith, nat_tests)

-- What is written is read as the same bytes.
pub hex_bytes-hex_text : (bs : List ℕ) → IsBytes bs → hex_bytes (hex_text bs) ≡ bs
hex_bytes-hex_text [] h = refl
hex_bytes-hex_text (b ∷ bs) h =
    let byte : b < 256 = h 0 in
    let high = digit_value-digit_char (b / 16) (omega arith) in
    let low = digit_value-digit_char (b % 16) (omega arith) in
    let same : 16 * digit_value (digit_char (b / 16)) + digit_value (digit_char (b % 16)) ≡ b = omega (arith, high, low) in
    ap (λ x. x ∷ hex_bytes (hex_text bs)) same ∙ ap (λ xs. b ∷ xs) (hex_bytes-hex_text bs (λ i. h (suc i)))

-- It is a hex word.
digits_written : (bs : List ℕ) → IsBytes bs → list_all is_hex_digit (hex_text bs) ≡ true
digits_written [] h = refl
digits_written (b ∷ bs) h =
    let byte : b < 256 = h 0 in
    and_from _ _ (digit_of_number (b / 16) (omega arith)) (and_from _ _ (digit_of_number (b % 16) (omega arith)) (digits_written bs (λ i. h (suc i))))

pub length-hex_text : (bs : List ℕ) → length (hex_text bs) ≡ 2 * length bs
length-hex_text [] = omega arith
length-hex_text (b ∷ bs) = omega (arith, length-hex_text bs)

pub is_hex_word-hex_text : (low high : ℕ) (bs : List ℕ) → IsBytes bs → low ≤ 2 * length bs → 2 * length bs ≤ high → is_hex_word low high (hex_text bs) ≡ true
is_hex_word-hex_text low high bs h least most =
    let size = length-hex_text bs in
    let within : is_in_range low high (length (hex_text bs)) ≡ true = and_from _ _ (le-leb low (length (hex_text bs)) (omega arith)) (le-leb (length (hex_text bs)) high (omega arith)) in
    let even : eqb (length (hex_text bs) % 2) 0 ≡ true = eq-eqb (length (hex_text bs) % 2) 0 (omega arith) in
    and_from _ _ (and_from _ _ within even) (digits_written bs h)

-- A word of an even number of digits is what is written of the bytes that it stands for.
text_again : (w : List ℕ) (n : ℕ) → length w ≡ 2 * n → list_all is_hex_digit w ≡ true → hex_text (hex_bytes w) ≡ w
text_again [] n even all = refl
text_again (a ∷ []) n even all = absurd (omega arith)
text_again (a ∷ b ∷ cs) zero even all = absurd (omega arith)
text_again (a ∷ b ∷ cs) (suc n) even all =
    let first = and_true (is_hex_digit a) (list_all is_hex_digit (b ∷ cs)) all in
    let second = and_true (is_hex_digit b) (list_all is_hex_digit cs) first.1 in
    let high : (16 * digit_value a + digit_value b) / 16 ≡ digit_value a = omega (arith, number_small b second.0) in
    let low : (16 * digit_value a + digit_value b) % 16 ≡ digit_value b = omega (arith, number_small b second.0) in
    ap (λ x. digit_char x ∷ digit_char ((16 * digit_value a + digit_value b) % 16) ∷ hex_text (hex_bytes cs)) high
    ∙ ap (λ x. digit_char (digit_value a) ∷ digit_char x ∷ hex_text (hex_bytes cs)) low
    ∙ ap (λ x. x ∷ digit_char (digit_value b) ∷ hex_text (hex_bytes cs)) (digit_again a first.0)
    ∙ ap (λ x. a ∷ x ∷ hex_text (hex_bytes cs)) (digit_again b second.0)
    ∙ ap (λ xs. a ∷ b ∷ xs) (text_again cs n (omega arith) second.1)

-- A hex word is what is written of its bytes.
pub hex_text-hex_bytes : (low high : ℕ) (w : List ℕ) → is_hex_word low high w ≡ true → hex_text (hex_bytes w) ≡ w
hex_text-hex_bytes low high w h =
    let parts = and_true (is_in_range low high (length w) && eqb (length w % 2) 0) (list_all is_hex_digit w) h in
    let even = eqb-true _ _ (and_true (is_in_range low high (length w)) (eqb (length w % 2) 0) parts.0).1 in
    text_again w (length w / 2) (omega arith) parts.1

-- Its bytes are bytes.
bytes_small : (w : List ℕ) → list_all is_hex_digit w ≡ true → IsBytes (hex_bytes w)
bytes_small [] all i = lit< tt
bytes_small (a ∷ []) all i = lit< tt
bytes_small (a ∷ b ∷ cs) all zero =
    let first = and_true (is_hex_digit a) (list_all is_hex_digit (b ∷ cs)) all in
    let second = and_true (is_hex_digit b) (list_all is_hex_digit cs) first.1 in
    omega (arith, number_small a first.0, number_small b second.0)
bytes_small (a ∷ b ∷ cs) all (suc i) =
    let first = and_true (is_hex_digit a) (list_all is_hex_digit (b ∷ cs)) all in
    let second = and_true (is_hex_digit b) (list_all is_hex_digit cs) first.1 in
    bytes_small cs second.1 i

pub IsBytes-hex_bytes : (low high : ℕ) (w : List ℕ) → is_hex_word low high w ≡ true → IsBytes (hex_bytes w)
IsBytes-hex_bytes low high w h = bytes_small w (and_true (is_in_range low high (length w) && eqb (length w % 2) 0) (list_all is_hex_digit w) h).1

-- What reading digits uses.
pub ruleset reading = (hex_digit_at)

-- The size of a hex word, for its readers.
pub hex_word_size : (low high : ℕ) (w : List ℕ) → is_hex_word low high w ≡ true → (length w ≡ 2 * (length w / 2)) × (length w ≤ high) × (list_all is_hex_digit w ≡ true)
hex_word_size low high w h =
    let parts = and_true (is_in_range low high (length w) && eqb (length w % 2) 0) (list_all is_hex_digit w) h in
    let first = and_true (is_in_range low high (length w)) (eqb (length w % 2) 0) parts.0 in
    let even : length w % 2 ≡ 0 = eqb-true _ _ first.1 in
    (omega arith, leb-true _ _ (and_true _ _ first.0).1, parts.1)

-- A hex word is the text of the bytes that were read of it.
pub hex_text_read : (low high : ℕ) (w bytes : List ℕ) → is_hex_word low high w ≡ true → bytes ≡ hex_bytes w → w ≡ hex_text bytes
hex_text_read low high w bytes h read = sym (ap hex_text read ∙ hex_text-hex_bytes low high w h)

-- Bytes and their hex words.
pub ruleset texts = (is_hex_word-hex_text, hex_bytes-hex_text, hex_text-hex_bytes)
