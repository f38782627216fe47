-- The pieces of a text between its separators: cutting off the first, and joining them again.
use Rattle.sl_text.specs.Forms.{is_free_of, pieces}
use Rattle.sl_text.specs.Walks.{column_behind, column_past, pieces_behind, text_left, with_behind}
use Rattle.sl_words.proofs.CaseLaws.{true_is_false}
use Rattle.sl_words.proofs.ListLaws.{list_all_from_places}
use Rattle.sl_words.proofs.OptionLaws.{cond_none}
use Rattle.sl_words.proofs.WordLaws.{and_true}
use Rattle.sl_words.specs.Words.{first_of_list, some_is}
use Rattle.std.proofs.Common.{Bool, IsTrue, List, None, Option, Some, [], ap, arith, cond, drop, eqb, false, get_or, length, length-append, length-take, ltb, map, not, refl, sym, take, true, ℕ, ◌+◌, ◌++◌, ◌<◌, ◌≡◌, ◌≤◌, ◌∙◌, ◌∷◌}
use Rattle.std.proofs.lemmas.Bool.{and_from, both_ways, eq-eqb, eqb-true, false_from_ne_true, ltb-false, ltb-true, ne_eqb, not-true, not_from_false}
use Rattle.std.proofs.lemmas.List.Quantifiers.{position-Some}
use Rattle.std.proofs.lemmas.List.Splits.{join_with_byte-slice_split, slice_split-cons_no, slice_split-cons_yes, slice_split_first, slice_split_none}
use Rattle.std.proofs.lemmas.List.Sums.{prefix_len_passes}
use Rattle.std.proofs.lemmas.List.{append-nil, drop_more, get_or-take, take-append-drop, take-append-le, take_all}
use Rattle.std.proofs.lemmas.Option.{cond_some}
use Rattle.std.proofs.lemmas.Slice.Eq.{bytes_eq-Decides, starts_is}
use Rattle.std.specs.List.{flat_map, join_with_byte, list_all, onto_first, position, position_or_len, starts_with}
use Rattle.std.specs.Prelude.{bytes_eq, nat_eq}

-- Where no byte is the separator, none is before the end.
free_from_none : (c : ℕ) (bs : List ℕ) → position (λ b. eqb b c) bs ≡ None → (k : ℕ) (d : ℕ) → k < length bs → not (eqb (get_or bs k d) c) ≡ true
free_from_none c bs h k d inside =
    let end : length bs ≤ position_or_len (λ b. eqb b c) bs = ltb-false _ _ (cond_none _ _ h) in
    prefix_len_passes (λ b. not (eqb b c)) bs k d (omega arith)

-- The first piece ends at the first separator.
pub pieces_at : (c : ℕ) (bs : List ℕ) (at : ℕ) → position (λ b. eqb b c) bs ≡ Some at → pieces c bs ≡ take at bs ∷ pieces c (drop (at + 1) bs)
pieces_at c bs at h =
    let found = cond_some (ltb (position_or_len (λ b. eqb b c) bs) (length bs)) (position_or_len (λ b. eqb b c) bs) at h in
    rw (← found.1) (slice_split_first (λ b. eqb b c) bs 0 (ltb-true _ _ found.0))

-- A text without a separator is one piece.
pub pieces_alone : (c : ℕ) (bs : List ℕ) → position (λ b. eqb b c) bs ≡ None → pieces c bs ≡ bs ∷ []
pieces_alone c bs h = slice_split_none (λ b. eqb b c) bs (λ k d inside. not-true _ (free_from_none c bs h k d inside))

-- Such a text is free of the separator.
pub free_alone : (c : ℕ) (bs : List ℕ) → position (λ b. eqb b c) bs ≡ None → IsTrue (is_free_of c bs)
free_alone c bs h = list_all_from_places (λ b. not (eqb b c)) bs 0 (λ k inside. free_from_none c bs h k 0 inside)

-- The text is the first piece, the separator and what stands behind.
pub text_at : (c : ℕ) (bs : List ℕ) (at : ℕ) → position (λ b. eqb b c) bs ≡ Some at → bs ≡ take at bs ++ c ∷ drop (at + 1) bs
text_at c bs at h =
    let found = position-Some (λ b. eqb b c) bs at 0 h in
    sym (take-append-drop at bs) ∙ ap (λ t. take at bs ++ t) (drop_more bs at 0 found.0 ∙ ap (λ b. b ∷ drop (at + 1) bs) (eqb-true _ _ found.1))

-- The first piece is free of the separator.
pub free_at : (c : ℕ) (bs : List ℕ) (at : ℕ) → position (λ b. eqb b c) bs ≡ Some at → IsTrue (is_free_of c (take at bs))
free_at c bs at h =
    let found = position-Some (λ b. eqb b c) bs at 0 h in
    list_all_from_places (λ b. not (eqb b c)) (take at bs) 0 (λ k inside.
    let before : k < at = omega (arith, length-take at bs) in
    rw (get_or-take at bs k 0 before) (not_from_false _ (found.2 k before)))

-- What cutting off the first piece uses.
pub ruleset cutting = (pieces_at, pieces_alone, text_at, free_at, free_alone)

-- There is always a first piece.
pub first_piece : (c : ℕ) (bs : List ℕ) → (w : List ℕ) × (ws : List (List ℕ)) × (pieces c bs ≡ w ∷ ws)
first_piece c [] = ([], [], refl)
first_piece c (b ∷ bs) = elim (eqb b c) as (λ t. (w : List ℕ) × (ws : List (List ℕ)) × (cond t ([] ∷ pieces c bs) (onto_first b (pieces c bs)) ≡ w ∷ ws)) [
  | true ↦ ([], pieces c bs, refl)
  | false ↦ let rest = first_piece c bs in (b ∷ rest.0, rest.1, ap (onto_first b) rest.2)
]

pub some_piece : (c : ℕ) (bs : List ℕ) → 0 < length (pieces c bs)
some_piece c bs = let first = first_piece c bs in omega (arith, ap length first.2)

-- The column behind the first piece.
pub column_behind-cons : (column c : ℕ) (w : List ℕ) (rest : Option (List ℕ)) → column_behind column (w ∷ pieces_behind c rest) ≡ column_past column w rest
column_behind-cons column c w None = refl
column_behind-cons column c w (Some bs) = let first = first_piece c bs in ap (λ ws. column_behind column (w ∷ ws)) first.2

-- How long a word is with what stands behind it.
pub length-with_behind : (column c : ℕ) (w : List ℕ) (rest : Option (List ℕ)) → column + length (with_behind c w rest) ≡ column_past column w rest + length (text_left rest)
length-with_behind column c w None = omega arith
length-with_behind column c w (Some bs) = omega (arith, length-append w (c ∷ bs))

-- What going on to the next piece uses.
pub ruleset going_on = (column_behind-cons, length-with_behind)

-- The pieces of a text, joined again, are the text.
pub join_with_byte-pieces : (c : ℕ) (bs : List ℕ) → join_with_byte c (pieces c bs) ≡ bs
join_with_byte-pieces c bs = join_with_byte-slice_split c bs

-- What joining the pieces that are left uses.
pub ruleset joining = (join_with_byte-pieces)

-- A front that is free of the separator is the first piece, whole or up to the separator.
pieces-free : (c : ℕ) (w : List ℕ) → is_free_of c w ≡ true → pieces c w ≡ w ∷ []
pieces-free c [] h = refl
pieces-free c (b ∷ w) h =
    let parts = and_true (not (eqb b c)) (is_free_of c w) h in
    slice_split-cons_no (λ b. eqb b c) b w (not-true _ parts.0) ∙ ap (onto_first b) (pieces-free c w parts.1)

pub pieces-front : (c : ℕ) (w bs : List ℕ) → is_free_of c w ≡ true → pieces c (w ++ c ∷ bs) ≡ w ∷ pieces c bs
pieces-front c [] bs h = slice_split-cons_yes (λ b. eqb b c) c bs (eq-eqb c c refl)
pieces-front c (b ∷ w) bs h =
    let parts = and_true (not (eqb b c)) (is_free_of c w) h in
    slice_split-cons_no (λ b. eqb b c) b (w ++ c ∷ bs) (not-true _ parts.0) ∙ ap (onto_first b) (pieces-front c w bs parts.1)

-- Pieces that are free of the separator, joined, are cut into themselves.
pub pieces-join_with_byte : (c : ℕ) (ws : List (List ℕ)) → list_all (is_free_of c) ws ≡ true → 0 < length ws → pieces c (join_with_byte c ws) ≡ ws
pieces-join_with_byte c [] free some = absurd (omega arith)
pieces-join_with_byte c (w ∷ []) free some = pieces-free c w (and_true (is_free_of c w) true free).0
pieces-join_with_byte c (w ∷ x ∷ ws) free some =
    let parts = and_true (is_free_of c w) (list_all (is_free_of c) (x ∷ ws)) free in
    pieces-front c w (join_with_byte c (x ∷ ws)) parts.0 ∙ ap (λ vs. w ∷ vs) (pieces-join_with_byte c (x ∷ ws) parts.1 (omega arith))

-- Each piece is free of the separator.
free_onto : (c b : ℕ) (ws : List (List ℕ)) → eqb b c ≡ false → list_all (is_free_of c) ws ≡ true → list_all (is_free_of c) (onto_first b ws) ≡ true
free_onto c b [] other free = rw other refl
free_onto c b (w ∷ ws) other free = rw other free

free_with : (c b : ℕ) (bs : List ℕ) (t : Bool) → eqb b c ≡ t → list_all (is_free_of c) (pieces c bs) ≡ true → list_all (is_free_of c) (cond t ([] ∷ pieces c bs) (onto_first b (pieces c bs))) ≡ true
free_with c b bs true e free = free
free_with c b bs false e free = free_onto c b (pieces c bs) e free

pub pieces_free : (c : ℕ) (bs : List ℕ) → list_all (is_free_of c) (pieces c bs) ≡ true
pieces_free c [] = refl
pieces_free c (b ∷ bs) = free_with c b bs (eqb b c) refl (pieces_free c bs)

-- Words that are joined: the first, and each other with a separator before it.
pub join_with_byte-words : {A : Type 0} (c : ℕ) (text : A → List ℕ) (w : A) (ws : List A) → join_with_byte c (map text (w ∷ ws)) ≡ text w ++ flat_map (λ v. c ∷ text v) ws
join_with_byte-words c text w [] = sym (append-nil (text w))
join_with_byte-words c text w (v ∷ vs) = ap (λ bs. text w ++ c ∷ bs) (join_with_byte-words c text v vs)

pub join_with_byte-split : {A : Type 0} (c : ℕ) (text : A → List ℕ) (ws : List A) (w : A) (vs : List A) → ws ≡ w ∷ vs → join_with_byte c (map text ws) ≡ text w ++ flat_map (λ v. c ∷ text v) vs
join_with_byte-split c text ws w vs e = ap (λ us. join_with_byte c (map text us)) e ∙ join_with_byte-words c text w vs

-- A byte that fails a test stands in no text whose bytes all pass it.
not_here : (p : ℕ → Bool) (c b : ℕ) → p c ≡ false → p b ≡ true → not (eqb b c) ≡ true
not_here p c b fails passes = not_from_false _ (ne_eqb b c (λ same. both_ways (p c) fails (ap p (sym same) ∙ passes)))

pub free_of_failing : (p : ℕ → Bool) (c : ℕ) (bs : List ℕ) → p c ≡ false → list_all p bs ≡ true → is_free_of c bs ≡ true
free_of_failing p c [] fails all = refl
free_of_failing p c (b ∷ bs) fails all =
    let parts = and_true (p b) (list_all p bs) all in
    and_from _ _ (not_here p c b fails parts.0) (free_of_failing p c bs fails parts.1)

-- Cutting and joining.
pub ruleset cuts_and_joins = (join_with_byte-pieces, pieces-join_with_byte, pieces_free)

-- A text that doesn't begin with this word begins with none that is it.
other_front : (word bs w rest : List ℕ) → starts_with nat_eq bs word ≡ false → bs ≡ w ++ rest → bytes_eq word w ≡ false
other_front word bs w rest other split = false_from_ne_true _ (λ same.
    let is = (bytes_eq-Decides word w).0 same in
    true_is_false (sym ((starts_is (λ a b. (eqb-true a b, eq-eqb a b)) bs word _ refl).1 rest (split ∙ ap (λ front. front ++ rest) (sym is))) ∙ other))

-- Two tests that follow from each other are one.
both_tests : (s t : Bool) → (s ≡ true → t ≡ true) → (t ≡ true → s ≡ true) → s ≡ t
both_tests true true there back = refl
both_tests true false there back = sym (there refl)
both_tests false true there back = back refl
both_tests false false there back = refl

-- Fronts of one text that are as long are the same.
same_length : (v w x y : List ℕ) → v ++ x ≡ w ++ y → length v ≡ length w → v ≡ w
same_length v w x y whole long = sym (take_all (length v) v (omega arith)) ∙ sym (take-append-le (length v) v x (omega arith)) ∙ ap (take (length v)) whole
    ∙ take-append-le (length v) w y (omega (arith, long)) ∙ take_all (length v) w (omega (arith, long))

-- So its first piece is another.
pub another_piece : (c : ℕ) (word bs : List ℕ) → starts_with nat_eq bs word ≡ false → some_is (bytes_eq word) (first_of_list (pieces c bs)) ≡ false
another_piece c word bs other = elim (position (λ b. eqb b c) bs) as (λ p. position (λ b. eqb b c) bs ≡ p → some_is (bytes_eq word) (first_of_list (pieces c bs)) ≡ false) [
  | None ↦ λ h. rw (pieces_alone c bs h) (other_front word bs bs [] other (sym (append-nil bs)))
  | Some at ↦ λ h. rw (pieces_at c bs at h) (other_front word bs (take at bs) (c ∷ drop (at + 1) bs) other (text_at c bs at h))
] refl

-- A text that begins with this word: its first piece is the word where it is as long.
same_front : (word bs w rest : List ℕ) → starts_with nat_eq bs word ≡ true → bs ≡ w ++ rest → bytes_eq word w ≡ eqb (length w) (length word)
same_front word bs w rest begins split =
    let front = (starts_is (λ a b. (eqb-true a b, eq-eqb a b)) bs word _ refl).0 begins in
    both_tests (bytes_eq word w) (eqb (length w) (length word)) (λ same. eq-eqb _ _ (ap length (sym ((bytes_eq-Decides word w).0 same))))
    (λ long. (bytes_eq-Decides word w).1 (same_length word w (drop (length word) bs) rest (sym front ∙ split) (sym (eqb-true _ _ long))))

pub same_piece : (c : ℕ) (word bs : List ℕ) → starts_with nat_eq bs word ≡ true
    → some_is (bytes_eq word) (first_of_list (pieces c bs)) ≡ some_is (λ w. eqb (length w) (length word)) (first_of_list (pieces c bs))
same_piece c word bs begins = elim (position (λ b. eqb b c) bs)
    as (λ p. position (λ b. eqb b c) bs ≡ p → some_is (bytes_eq word) (first_of_list (pieces c bs)) ≡ some_is (λ w. eqb (length w) (length word)) (first_of_list (pieces c bs))) [
      | None ↦ λ h. rw (pieces_alone c bs h) (same_front word bs bs [] begins (sym (append-nil bs)))
      | Some at ↦ λ h. rw (pieces_at c bs at h) (same_front word bs (take at bs) (c ∷ drop (at + 1) bs) begins (text_at c bs at h))
    ] refl
