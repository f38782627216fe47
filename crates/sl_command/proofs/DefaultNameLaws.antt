-- The text of a UUID is a name.
use Rattle.sl_command.specs.DefaultNames.{default_name_text, hyphenated}
use Rattle.sl_text.specs.Names.{is_name, is_name_byte}
use Rattle.sl_text.specs.Numbers.{hex_text}
use Rattle.sl_words.proofs.ListLaws.{list_all-drop, list_all-take}
use Rattle.sl_words.proofs.WordLaws.{and_true}
use Rattle.std.proofs.Common.{Bool, List, [], arith, drop, ltb, refl, suc, take, true, zero, ℕ, ◌%◌, ◌++◌, ◌/◌, ◌<◌, ◌≡◌, ◌∙◌, ◌∷◌}
use Rattle.std.proofs.lemmas.Bool.Decides.{nat_tests}
use Rattle.std.proofs.lemmas.Bool.{and_from, lt-ltb, ltb-true}
use Rattle.std.proofs.lemmas.List.Folds.{list_all-append}
use Rattle.std.specs.Char.{digit_char}
use Rattle.std.specs.Int.{byte_at, bytes_high_first, to_be_bytes, w128}
use Rattle.std.specs.List.{join_with_byte, list_all}
use Rattle.uuid.specs.Text.{by_index, hex_digit, hyphenated_text}

-- ---- the kit's text

-- The digits of a byte.
abbrev kit_digits : ℕ → List ℕ
kit_digits b = hex_digit 97 (b / 16 % 16) ∷ hex_digit 97 (b % 16) ∷ []

abbrev own_digits : ℕ → List ℕ
own_digits b = digit_char (b / 16) ∷ digit_char (b % 16) ∷ []

same_digit : (d : ℕ) → d < 16 → hex_digit 97 d ≡ digit_char d
same_digit d h = grind (arith, nat_tests)

same_digits : (b : ℕ) → b < 256 → kit_digits b ≡ own_digits b
same_digits b h =
    let high : b / 16 % 16 ≡ b / 16 = omega arith in
    rw (high, same_digit (b / 16) (omega arith), same_digit (b % 16) (omega arith)) refl

-- Sixteen texts in groups.
abbrev grouped : List ℕ → List ℕ → List ℕ → List ℕ → List ℕ → List ℕ → List ℕ → List ℕ → List ℕ → List ℕ → List ℕ → List ℕ → List ℕ → List ℕ → List ℕ → List ℕ → List ℕ
grouped a b c d e g h i j k l m n o p q =
    a ++ (b ++ (c ++ (d ++ 45 ∷ (e ++ (g ++ 45 ∷ (h ++ (i ++ 45 ∷ (j ++ (k ++ 45 ∷ (l ++ (m ++ (n ++ (o ++ (p ++ q))))))))))))))

same_groups : (a b c d e g h i j k l m n o p q a2 b2 c2 d2 e2 g2 h2 i2 j2 k2 l2 m2 n2 o2 p2 q2 : List ℕ) → a ≡ a2 → b ≡ b2 → c ≡ c2 → d ≡ d2 → e ≡ e2 → g ≡ g2 → h ≡ h2 → i ≡ i2 → j ≡ j2 → k ≡ k2 → l ≡ l2 → m ≡ m2 → n ≡ n2 → o ≡ o2 → p ≡ p2 → q ≡ q2
    → grouped a b c d e g h i j k l m n o p q ≡ grouped a2 b2 c2 d2 e2 g2 h2 i2 j2 k2 l2 m2 n2 o2 p2 q2
same_groups a b c d e g h i j k l m n o p q a2 b2 c2 d2 e2 g2 h2 i2 j2 k2 l2 m2 n2 o2 p2 q2 s0 s1 s2 s3 s4 s5 s6 s7 s8 s9 s10 s11 s12 s13 s14 s15 = cc

-- The digits of sixteen bytes.
kit_text : (a b c d e g h i j k l m n o p q : ℕ)
    → hyphenated_text 97 (a ∷ b ∷ c ∷ d ∷ e ∷ g ∷ h ∷ i ∷ j ∷ k ∷ l ∷ m ∷ n ∷ o ∷ p ∷ q ∷ []) ≡ grouped (kit_digits a) (kit_digits b) (kit_digits c) (kit_digits d) (kit_digits e) (kit_digits g) (kit_digits h) (kit_digits i) (kit_digits j) (kit_digits k) (kit_digits l) (kit_digits m) (kit_digits n) (kit_digits o) (kit_digits p) (kit_digits q)
unfolding by_index
kit_text a b c d e g h i j k l m n o p q = refl

own_text : (a b c d e g h i j k l m n o p q : ℕ)
    → grouped (own_digits a) (own_digits b) (own_digits c) (own_digits d) (own_digits e) (own_digits g) (own_digits h) (own_digits i) (own_digits j) (own_digits k) (own_digits l) (own_digits m) (own_digits n) (own_digits o) (own_digits p) (own_digits q) ≡ hyphenated (a ∷ b ∷ c ∷ d ∷ e ∷ g ∷ h ∷ i ∷ j ∷ k ∷ l ∷ m ∷ n ∷ o ∷ p ∷ q ∷ [])
own_text a b c d e g h i j k l m n o p q = refl

-- ---- bytes of a number

byte_small : (i n : ℕ) → byte_at i n < 256
byte_small zero n = omega arith
byte_small (suc i) n = omega arith

bytes_small : (k n : ℕ) → list_all (λ b. ltb b 256) (bytes_high_first k n) ≡ true
bytes_small zero n = refl
bytes_small (suc k) n = and_from _ _ (lt-ltb (byte_at k n) 256 (byte_small k n)) (bytes_small k n)

same_byte : (i n : ℕ) → kit_digits (byte_at i n) ≡ own_digits (byte_at i n)
same_byte i n = same_digits (byte_at i n) (byte_small i n)

-- The kit's text of the bits is ours.
pub same_text : (bits : ℕ) → hyphenated_text 97 (to_be_bytes w128 bits) ≡ default_name_text bits
unfolding default_name_text
same_text bits =
    kit_text (byte_at 15 bits) (byte_at 14 bits) (byte_at 13 bits) (byte_at 12 bits) (byte_at 11 bits) (byte_at 10 bits) (byte_at 9 bits) (byte_at 8 bits) (byte_at 7 bits) (byte_at 6 bits) (byte_at 5 bits) (byte_at 4 bits) (byte_at 3 bits) (byte_at 2 bits) (byte_at 1 bits) (byte_at 0 bits)
    ∙ same_groups _ _ _ _ _ _ _ _ _ _ _ _ _ _ _ _ _ _ _ _ _ _ _ _ _ _ _ _ _ _ _ _
    (same_byte 15 bits) (same_byte 14 bits) (same_byte 13 bits) (same_byte 12 bits) (same_byte 11 bits) (same_byte 10 bits) (same_byte 9 bits) (same_byte 8 bits) (same_byte 7 bits) (same_byte 6 bits) (same_byte 5 bits) (same_byte 4 bits) (same_byte 3 bits) (same_byte 2 bits) (same_byte 1 bits) (same_byte 0 bits)
    ∙ own_text (byte_at 15 bits) (byte_at 14 bits) (byte_at 13 bits) (byte_at 12 bits) (byte_at 11 bits) (byte_at 10 bits) (byte_at 9 bits) (byte_at 8 bits) (byte_at 7 bits) (byte_at 6 bits) (byte_at 5 bits) (byte_at 4 bits) (byte_at 3 bits) (byte_at 2 bits) (byte_at 1 bits) (byte_at 0 bits)

-- ---- a name

digit_named : (d : ℕ) → d < 16 → is_name_byte (digit_char d) ≡ true
digit_named d h = grind (arith, nat_tests)

hex_text_named : (bs : List ℕ) → list_all (λ b. ltb b 256) bs ≡ true → list_all is_name_byte (hex_text bs) ≡ true
hex_text_named [] h = refl
hex_text_named (b ∷ bs) h =
    let parts = and_true (ltb b 256) (list_all (λ b. ltb b 256) bs) h in
    let small : b < 256 = ltb-true b 256 parts.0 in
    and_from _ _ (digit_named (b / 16) (omega arith)) (and_from _ _ (digit_named (b % 16) (omega arith)) (hex_text_named bs parts.1))

joined_all : (p : ℕ → Bool) (c : ℕ) (ws : List (List ℕ)) → p c ≡ true → list_all (list_all p) ws ≡ true → list_all p (join_with_byte c ws) ≡ true
joined_all p c [] between all = refl
joined_all p c (w ∷ []) between all = (and_true (list_all p w) true all).0
joined_all p c (w ∷ v ∷ vs) between all =
    let parts = and_true (list_all p w) (list_all (list_all p) (v ∷ vs)) all in
    list_all-append p w (c ∷ join_with_byte c (v ∷ vs)) ∙ and_from _ _ parts.0 (and_from _ _ between (joined_all p c (v ∷ vs) between parts.1))

hyphenated_named : (bs : List ℕ) → list_all (λ b. ltb b 256) bs ≡ true → list_all is_name_byte (hyphenated bs) ≡ true
hyphenated_named bs h =
    let front : (k n : ℕ) → list_all (λ b. ltb b 256) (take n (drop k bs)) ≡ true = (λ k n. list_all-take (λ b. ltb b 256) n (drop k bs) (list_all-drop (λ b. ltb b 256) k bs h)) in
    joined_all is_name_byte 45 (hex_text (take 4 bs) ∷ hex_text (take 2 (drop 4 bs)) ∷ hex_text (take 2 (drop 6 bs)) ∷ hex_text (take 2 (drop 8 bs)) ∷ hex_text (drop 10 bs) ∷ []) refl
    (and_from _ _ (hex_text_named (take 4 bs) (front 0 4)) (and_from _ _ (hex_text_named (take 2 (drop 4 bs)) (front 4 2)) (and_from _ _ (hex_text_named (take 2 (drop 6 bs)) (front 6 2))
    (and_from _ _ (hex_text_named (take 2 (drop 8 bs)) (front 8 2)) (and_from _ _ (hex_text_named (drop 10 bs) (list_all-drop (λ b. ltb b 256) 10 bs h)) refl)))))

-- The text of the bits is a name.
pub default_name_text_named : (bits : ℕ) → is_name (default_name_text bits) ≡ true
unfolding default_name_text
default_name_text_named bits = and_from true (list_all is_name_byte (hyphenated (to_be_bytes w128 bits))) refl (hyphenated_named (to_be_bytes w128 bits) (bytes_small 16 bits))

-- What making a name of the text uses.
pub ruleset names = (default_name_text_named)
