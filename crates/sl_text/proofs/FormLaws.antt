-- A list of forms, followed word by word from the left, makes what the whole words make, and fails at the same column.
use Rattle.sl_text.specs.Forms.{Form, bad_column, exactly, column_of, fits_whole, fitting, made_by, spaced, words_of}
use Rattle.sl_text.specs.Walks.{FailsFirst, NoneFits, at_end, column_behind, form_behind, form_with, forms_behind, going_on, made_at_end, made_without, next_as, next_passes, past_word, past_words, read_by, read_each, read_from, unread, Unread}
use Rattle.sl_words.specs.Results.{ensure, ◌>>=◌}
use Rattle.sl_words.proofs.ListLaws.{greatest-cons}
use Rattle.sl_words.specs.Words.{first_of_list, greatest, some_is}
use Rattle.std.proofs.Common.{add_comm, Bool, List, None, Option, Some, [], ap, arith, cond, drop, eqb, false, length, length-append, map, max, refl, suc, sym, take, true, zero, ℕ, ◌+◌, ◌++◌, ◌&&◌, ◌≡◌, ◌∙◌, ◌∷◌, ◌≤◌}
use Rattle.std.proofs.lemmas.Bool.{and_left, ne_eqb}
use Rattle.std.proofs.lemmas.Bool.Decides.{nat_tests}
use Rattle.std.proofs.lemmas.Slice.Eq.{bytes_eq-Decides}
use Rattle.std.proofs.lemmas.List.Sums.{sum_by-cons}
use Rattle.std.specs.List.{find, sum_by}
use Rattle.std.specs.Option.{ok_or, option_map}
use Rattle.std.specs.Prelude.{Err, Ok, Result, if◌then◌else◌, ◌==◌}

-- The tests of a form that is one word longer.
both_longer : (tests fit words : ℕ) → (eqb (suc tests) (suc words) && eqb (1 + fit) (suc words)) ≡ (eqb tests words && eqb fit words)
both_longer tests fit words = grind (arith, nat_tests)

none_fit : (tests words : ℕ) → (eqb (suc tests) (suc words) && eqb 0 (suc words)) ≡ false
none_fit tests words = grind (arith, nat_tests)

none_left : (words : ℕ) → (eqb 0 (suc words) && eqb 0 (suc words)) ≡ false
none_left words = grind (arith, nat_tests)

-- A form takes the words where its first test takes the first word and its rest the rest.
fits_whole-cons : (p : List ℕ → Bool) (ps : List (List ℕ → Bool)) (w : List ℕ) (ws : List (List ℕ)) → fits_whole (p ∷ ps) (w ∷ ws) ≡ cond (p w) (fits_whole ps ws) false
fits_whole-cons p ps w ws = elim (p w) as (λ t. (eqb (length (p ∷ ps)) (length (w ∷ ws)) && eqb (cond t (1 + fitting ps ws) 0) (length (w ∷ ws))) ≡ cond t (fits_whole ps ws) false) [
  | true ↦ both_longer (length ps) (fitting ps ws) (length ws)
  | false ↦ none_fit (length ps) (length ws)
]

-- Either the form behind the first word takes the rest, or a later form does.
here : {A : Type 0} (w : List ℕ) (ws : List (List ℕ)) (ps : List (List ℕ → Bool)) (make : List (List ℕ) → A) (fs gs : List (Form A)) (form : Form A) → form.make ≡ make → made_by fs (w ∷ ws) ≡ made_by gs ws
    → option_map (λ (f : Form A). f.make (w ∷ ws)) (cond (fits_whole ps ws) (Some form) (find (λ f. fits_whole f.words (w ∷ ws)) fs))
    ≡ made_by (record { words = ps; make = λ vs. make (w ∷ vs) } ∷ gs) ws
here {A} w ws ps make fs gs form same e = elim (fits_whole ps ws) as (λ t. option_map (λ (f : Form A). f.make (w ∷ ws)) (cond t (Some form) (find (λ f. fits_whole f.words (w ∷ ws)) fs))
    ≡ option_map (λ (f : Form A). f.make ws) (cond t (Some (record { words = ps; make = λ vs. make (w ∷ vs) })) (find (λ f. fits_whole f.words ws) gs))) [
      | true ↦ ap (λ (m : List (List ℕ) → A). Some (m (w ∷ ws))) same
      | false ↦ e
    ]

-- The words make what they make behind the first word.
made_more : {A : Type 0} (w : List ℕ) (ws : List (List ℕ)) (ps : List (List ℕ → Bool)) (make : List (List ℕ) → A) (fs gs : List (Form A))
    → made_by fs (w ∷ ws) ≡ made_by gs ws → made_by (record { words = ps; make = make } ∷ fs) (w ∷ ws) ≡ made_by (form_behind w ps make ++ gs) ws
made_more {A} w ws [] make fs gs e =
    let form : Form A = record { words = []; make = make } in
    ap (λ t. option_map (λ (f : Form A). f.make (w ∷ ws)) (cond t (Some form) (find (λ f. fits_whole f.words (w ∷ ws)) fs))) (none_left (length ws)) ∙ e
made_more {A} w ws (p ∷ ps) make fs gs e =
    let form : Form A = record { words = p ∷ ps; make = make } in
    ap (λ t. option_map (λ (f : Form A). f.make (w ∷ ws)) (cond t (Some form) (find (λ f. fits_whole f.words (w ∷ ws)) fs))) (fits_whole-cons p ps w ws)
    ∙ elim (p w) as (λ t. option_map (λ (f : Form A). f.make (w ∷ ws)) (cond (cond t (fits_whole ps ws) false) (Some form) (find (λ f. fits_whole f.words (w ∷ ws)) fs))
    ≡ made_by ((if t then record { words = ps; make = λ vs. make (w ∷ vs) } ∷ [] else []) ++ gs) ws) [
      | true ↦ here w ws ps make fs gs form refl e
      | false ↦ e
    ]

pub made_by-cons : {A : Type 0} (w : List ℕ) (ws : List (List ℕ)) (fs : List (Form A)) → made_by fs (w ∷ ws) ≡ made_by (forms_behind w fs) ws
made_by-cons w ws [] = refl
made_by-cons w ws (f ∷ fs) = made_more w ws f.words f.make fs (forms_behind w fs) (made_by-cons w ws fs)

not_empty : (words : ℕ) → eqb (suc words) 0 ≡ false
not_empty words = ne_eqb (suc words) 0 (λ h. omega arith)

-- No words make what the first form makes that has no test.
made_first : {A : Type 0} (ps : List (List ℕ → Bool)) (make : List (List ℕ) → A) (fs : List (Form A)) (later : Option A)
    → made_by fs [] ≡ later → made_by (record { words = ps; make = make } ∷ fs) [] ≡ made_without ps make later
made_first [] make fs later e = refl
made_first {A} (p ∷ ps) make fs later e =
    let form : Form A = record { words = p ∷ ps; make = make } in
    ap (λ t. option_map (λ (f : Form A). f.make []) (cond t (Some form) (find (λ f. fits_whole f.words []) fs))) (and_left _ (eqb 0 0) (not_empty (length ps))) ∙ e

made_by-none : {A : Type 0} (fs : List (Form A)) → made_by fs [] ≡ made_at_end fs
made_by-none [] = refl
made_by-none (f ∷ fs) = made_first f.words f.make fs (made_at_end fs) (made_by-none fs)

-- How many words fit the form that fits the most.
abbrev reached : {A : Type 0} → List (Form A) → List (List ℕ) → ℕ
reached fs ws = greatest (map (λ f. fitting f.words ws) fs)

-- The same, where these forms go on behind the first word.
abbrev reached_behind : {A : Type 0} → List (Form A) → List (List ℕ) → ℕ
reached_behind [] ws = 0
reached_behind (g ∷ gs) ws = 1 + reached (g ∷ gs) ws

-- One more form.
reached-cons : {A : Type 0} (f : Form A) (fs : List (Form A)) (ws : List (List ℕ)) → reached (f ∷ fs) ws ≡ max (fitting f.words ws) (reached fs ws)
reached-cons f fs ws = greatest-cons (fitting f.words ws) (map (λ f. fitting f.words ws) fs)

-- A form that goes on beside those that do.
reached_beside : {A : Type 0} (g : Form A) (gs : List (Form A)) (ws : List (List ℕ)) → max (1 + fitting g.words ws) (reached_behind gs ws) ≡ 1 + reached (g ∷ gs) ws
reached_beside g [] ws = omega (arith, reached-cons g [] ws)
reached_beside g (h ∷ hs) ws = omega (arith, reached-cons g (h ∷ hs) ws)

reached_more : {A : Type 0} (w : List ℕ) (ws : List (List ℕ)) (ps : List (List ℕ → Bool)) (make : List (List ℕ) → A) (gs : List (Form A))
    → max (fitting ps (w ∷ ws)) (reached_behind gs ws) ≡ reached_behind (form_behind w ps make ++ gs) ws
reached_more w ws [] make gs = omega arith
reached_more w ws (p ∷ ps) make gs = elim (p w) as (λ t. max (cond t (1 + fitting ps ws) 0) (reached_behind gs ws)
    ≡ reached_behind ((if t then record { words = ps; make = λ vs. make (w ∷ vs) } ∷ [] else []) ++ gs) ws) [
      | true ↦ reached_beside (record { words = ps; make = λ vs. make (w ∷ vs) }) gs ws
      | false ↦ omega arith
    ]

-- The form that fits the most goes on longest behind the first word.
pub reached-words : {A : Type 0} (w : List ℕ) (ws : List (List ℕ)) (fs : List (Form A)) → reached fs (w ∷ ws) ≡ reached_behind (forms_behind w fs) ws
reached-words w ws [] = refl
reached-words w ws (f ∷ fs) = reached-cons f fs (w ∷ ws) ∙ ap (λ n. max (fitting f.words (w ∷ ws)) n) (reached-words w ws fs) ∙ reached_more w ws f.words f.make (forms_behind w fs)

-- ---- columns

-- The column of word k, where the first word's is this one.
abbrev column_from : ℕ → List (List ℕ) → ℕ → ℕ
column_from column ws k = if k == length ws then column + length (spaced ws) else column + sum_by (λ w. length w + 1) (take k ws)

-- The first word's column.
column_from-first : (column : ℕ) (w : List ℕ) (ws : List (List ℕ)) → column_from column (w ∷ ws) 0 ≡ column
column_from-first column w ws = grind (arith, nat_tests)

-- Where no word is left, the column is the one that was reached.
column_from-none : (column k : ℕ) → k ≤ 0 → column_from column [] k ≡ column
column_from-none column zero h = omega arith
column_from-none column (suc k) h = absurd (omega arith)

-- One more word in front.
same_place : (k words : ℕ) → eqb (1 + k) (suc words) ≡ eqb k words
same_place k words = grind (arith, nat_tests)

-- A word with its space, and those behind it.
sum_in_front : (w : List ℕ) (ws : List (List ℕ)) (k : ℕ) → sum_by (λ w. length w + 1) (take (1 + k) (w ∷ ws)) ≡ length w + 1 + sum_by (λ w. length w + 1) (take k ws)
sum_in_front w ws k =
    let longer : 1 + k ≡ suc k = omega arith in
    ap (λ n. sum_by (λ w. length w + 1) (take n (w ∷ ws))) longer ∙ sum_by-cons (λ w. length w + 1) w (take k ws)

-- A later word's column is that among the words behind the first.
column_from-behind : (column : ℕ) (w : List ℕ) (ws : List (List ℕ)) (k : ℕ) → k ≤ length ws → column_from column (w ∷ ws) (1 + k) ≡ column_from (column_behind column (w ∷ ws)) ws k
column_from-behind column w [] zero h = omega arith
column_from-behind column w [] (suc k) h = absurd (omega arith)
column_from-behind column w (x ∷ ws) k h =
    rw (same_place k (length (x ∷ ws)))
    (elim (eqb k (length (x ∷ ws))) as (λ t. cond t (column + length (spaced (w ∷ x ∷ ws))) (column + sum_by (λ w. length w + 1) (take (1 + k) (w ∷ x ∷ ws)))
    ≡ cond t (column + length w + 1 + length (spaced (x ∷ ws))) (column + length w + 1 + sum_by (λ w. length w + 1) (take k (x ∷ ws)))) [
      | true ↦ omega (arith, length-append w (32 ∷ spaced (x ∷ ws)))
      | false ↦ omega (arith, sum_in_front w (x ∷ ws) k)
    ])

-- No form fits more words than there are.
fitting-le : (ps : List (List ℕ → Bool)) (ws : List (List ℕ)) → fitting ps ws ≤ length ws
fitting-le [] ws = omega arith
fitting-le (p ∷ ps) [] = omega arith
fitting-le (p ∷ ps) (w ∷ ws) = elim (p w) as (λ t. cond t (1 + fitting ps ws) 0 ≤ length (w ∷ ws)) [ true ↦ omega (arith, fitting-le ps ws) | false ↦ omega arith ]

reached-le : {A : Type 0} (fs : List (Form A)) (ws : List (List ℕ)) → reached fs ws ≤ length ws
reached-le [] ws = omega arith
reached-le (f ∷ fs) ws = omega (arith, reached-cons f fs ws, fitting-le f.words ws, reached-le fs ws)

-- Word by word a reader comes to each word's column, and in the end to one past the end.
past_words_from : (k column : ℕ) (ws : List (List ℕ)) → k ≤ length ws
    → past_words k (record { column = column; words = ws }) ≡ record { column = column_from column ws k; words = drop k ws }
past_words_from zero column [] h = ap (λ c. record { column = c; words = [] }) (sym (column_from-none column 0 h))
past_words_from zero column (w ∷ ws) h = ap (λ c. record { column = c; words = w ∷ ws }) (sym (column_from-first column w ws))
past_words_from (suc k) column [] h = absurd (omega arith)
past_words_from (suc k) column (w ∷ ws) h =
    let next : 1 + k ≡ suc k = omega arith in
    past_words_from k (column_behind column (w ∷ ws)) ws (omega arith)
    ∙ ap (λ c. record { column = c; words = drop k ws }) (sym (column_from-behind column w ws k (omega arith)) ∙ ap (column_from column (w ∷ ws)) next)

-- ---- the whole

-- What the words make, or the column of the first that no form takes.
abbrev made_or_column : {A : Type 0} → List (Form A) → ℕ → List (List ℕ) → Result A ℕ
made_or_column fs column ws = ok_or (made_by fs ws) (column_from column ws (reached fs ws))

-- The forms behind the first word fail where the forms do.
made_behind : {A : Type 0} (fs gs : List (Form A)) (column : ℕ) (w : List ℕ) (ws : List (List ℕ))
    → made_by fs (w ∷ ws) ≡ made_by gs ws → reached fs (w ∷ ws) ≡ reached_behind gs ws
    → made_or_column fs column (w ∷ ws) ≡ ok_or (made_by gs ws) (column_from column (w ∷ ws) (reached_behind gs ws))
made_behind fs gs column w ws made far =
    ap (λ o. ok_or o (column_from column (w ∷ ws) (reached fs (w ∷ ws)))) made
    ∙ ap (λ k. ok_or (made_by gs ws) (column_from column (w ∷ ws) k)) far

-- One word on.
read_more : {A : Type 0} (gs : List (Form A)) (column : ℕ) (w : List ℕ) (ws : List (List ℕ))
    → ((hs : List (Form A)) (c : ℕ) → read_from hs c ws ≡ made_or_column hs c ws)
    → going_on gs column (λ hs. read_from hs (column_behind column (w ∷ ws)) ws)
    ≡ ok_or (made_by gs ws) (column_from column (w ∷ ws) (reached_behind gs ws))
read_more [] column w ws rest = ap Err (sym (column_from-first column w ws))
read_more (g ∷ hs) column w ws rest =
    rest (g ∷ hs) (column_behind column (w ∷ ws))
    ∙ ap (ok_or (made_by (g ∷ hs) ws)) (sym (column_from-behind column w ws (reached (g ∷ hs) ws) (reached-le (g ∷ hs) ws)))

-- Followed from the left, the forms make what the words make, and fail where they fail.
read_from-made : {A : Type 0} (fs : List (Form A)) (column : ℕ) (ws : List (List ℕ)) → read_from fs column ws ≡ made_or_column fs column ws
read_from-made fs column [] =
    ap (λ o. ok_or o column) (sym (made_by-none fs)) ∙ ap (ok_or (made_by fs [])) (sym (column_from-none column (reached fs []) (reached-le fs [])))
read_from-made fs column (w ∷ ws) =
    read_more (forms_behind w fs) column w ws (λ hs c. read_from-made hs c ws)
    ∙ sym (made_behind fs (forms_behind w fs) column w ws (made_by-cons w ws fs) (reached-words w ws fs))

-- From the front of a line on, columns are counted from 1.
column_from-start : (ws : List (List ℕ)) (k : ℕ) → column_from 1 ws k ≡ column_of ws k
column_from-start ws k = ap (λ n. cond (eqb k (length ws)) n (1 + sum_by (λ w. length w + 1) (take k ws))) (add_comm 1 (length (spaced ws)))

-- The column of the word that a reader has come to.
pub past_words-is : (k : ℕ) (line : List ℕ) → k ≤ length (words_of line)
    → past_words k (unread 32 line) ≡ record { column = column_of (words_of line) k; words = drop k (words_of line) }
past_words-is k line h =
    past_words_from k 1 (words_of line) h ∙ ap (λ c. record { column = c; words = drop k (words_of line) }) (column_from-start (words_of line) k)

-- A line's words make what the forms make of them, read from the left, and else the column is that of the first word that
-- no form takes.
pub read_from-is : {A : Type 0} (fs : List (Form A)) (ws : List (List ℕ)) → read_from fs 1 ws ≡ ok_or (made_by fs ws) (bad_column fs ws)
read_from-is fs ws = read_from-made fs 1 ws ∙ ap (ok_or (made_by fs ws)) (column_from-start ws (reached fs ws))

-- ---- forms, one step at a time

-- One form, at a first word.
word_taken : {A : Type 0} (p : List ℕ → Bool) (ps : List (List ℕ → Bool)) (make : List (List ℕ) → A) (column : ℕ) (words : List (List ℕ))
    → read_from (record { words = p ∷ ps; make = make } ∷ []) column words
    ≡ (next_as p (λ w. w) (record { column = column; words = words })
    >>= λ w. read_from (record { words = ps; make = λ ws. make (w ∷ ws) } ∷ []) (column_behind column words) (drop 1 words))
word_taken p ps make column [] = refl
word_taken {A} p ps make column (w ∷ ws) =
    elim (p w) as (λ t. going_on {A = A} ((if t then record { words = ps; make = λ vs. make (w ∷ vs) } ∷ [] else []) ++ []) column (λ gs. read_from gs (column_behind column (w ∷ ws)) ws) ≡ ((if t then Ok w else Err column) >>= λ v. read_from (record { words = ps; make = λ vs. make (v ∷ vs) } ∷ []) (column_behind column (w ∷ ws)) ws)) [
      | true ↦ refl
      | false ↦ refl
    ]

-- One form reads the word that its first test takes, and goes on.
pub read_by-word : {A : Type 0} (p : List ℕ → Bool) (ps : List (List ℕ → Bool)) (make : List (List ℕ) → A) (u : Unread)
    → read_by (record { words = p ∷ ps; make = make } ∷ []) u
    ≡ (next_as p (λ w. w) u >>= λ w. read_by (record { words = ps; make = λ ws. make (w ∷ ws) } ∷ []) (past_word u))
read_by-word p ps make u = word_taken p ps make u.column u.words

-- At a form's end no word may be left.
none_taken : {A : Type 0} (make : List (List ℕ) → A) (column : ℕ) (words : List (List ℕ))
    → read_from (record { words = []; make = make } ∷ []) column words ≡ (ensure (length words == 0) column >>= λ _. Ok (make []))
none_taken make column [] = refl
none_taken {A} make column (w ∷ ws) = ap (λ t. ensure t column >>= λ _. Ok (make [])) (sym (not_empty (length ws)))

pub read_by-end : {A : Type 0} (make : List (List ℕ) → A) (u : Unread) → read_by (record { words = []; make = make } ∷ []) u ≡ (at_end u >>= λ _. Ok (make []))
read_by-end make u = none_taken make u.column u.words

-- One form is read word by word.
pub read_by-one : {A : Type 0} (ps : List (List ℕ → Bool)) (make : List (List ℕ) → A) (u : Unread) → read_by (record { words = ps; make = make } ∷ []) u ≡ read_each ps make u
read_by-one [] make u = read_by-end make u
read_by-one (p ∷ ps) make u =
    read_by-word p ps make u ∙ ap (λ next. next_as p (λ w. w) u >>= next) (λ i w. read_by-one ps (λ ws. make (w ∷ ws)) (past_word u) i)

-- ---- a value that is made of the value that forms make

made_without-map : {A B : Type 0} (f : A → B) (ps : List (List ℕ → Bool)) (make : List (List ℕ) → A) (later : Option A) (rest : Option B)
    → rest ≡ option_map f later → made_without ps (λ ws. f (make ws)) rest ≡ option_map f (made_without ps make later)
made_without-map f [] make later rest e = refl
made_without-map f (p ∷ ps) make later rest e = e

made_at_end-map : {A B : Type 0} (f : A → B) (fs : List (Form A)) → made_at_end (map (form_with f) fs) ≡ option_map f (made_at_end fs)
made_at_end-map f [] = refl
made_at_end-map f (g ∷ gs) = made_without-map f g.words g.make (made_at_end gs) (made_at_end (map (form_with f) gs)) (made_at_end-map f gs)

-- One form, with others behind it.
behind_map : {A B : Type 0} (f : A → B) (w : List ℕ) (ps : List (List ℕ → Bool)) (make : List (List ℕ) → A) (gs : List (Form A))
    → form_behind w ps (λ ws. f (make ws)) ++ map (form_with f) gs ≡ map (form_with f) (form_behind w ps make ++ gs)
behind_map f w [] make gs = refl
behind_map {A} {B} f w (p ∷ ps) make gs =
    elim (p w) as (λ t. (if t then record { words = ps; make = λ ws. f (make (w ∷ ws)) } ∷ [] else []) ++ map (form_with f) gs
    ≡ map (form_with f) ((if t then record { words = ps; make = λ ws. make (w ∷ ws) } ∷ [] else []) ++ gs)) [ true ↦ refl | false ↦ refl ]

forms_behind-map : {A B : Type 0} (f : A → B) (w : List ℕ) (fs : List (Form A)) → forms_behind w (map (form_with f) fs) ≡ map (form_with f) (forms_behind w fs)
forms_behind-map f w [] = refl
forms_behind-map f w (g ∷ gs) =
    ap (λ hs. form_behind w g.words (λ ws. f (g.make ws)) ++ hs) (forms_behind-map f w gs) ∙ behind_map f w g.words g.make (forms_behind w gs)

-- One word on.
read_map_more : {A B : Type 0} (f : A → B) (gs : List (Form A)) (column behind : ℕ) (ws : List (List ℕ))
    → ((hs : List (Form A)) (c : ℕ) → read_from (map (form_with f) hs) c ws ≡ (read_from hs c ws >>= λ a. Ok (f a)))
    → going_on (map (form_with f) gs) column (λ hs. read_from hs behind ws) ≡ (going_on gs column (λ hs. read_from hs behind ws) >>= λ a. Ok (f a))
read_map_more f [] column behind ws rest = refl
read_map_more f (g ∷ gs) column behind ws rest = rest (g ∷ gs) behind

ok_or-map : {A B : Type 0} (f : A → B) (o : Option A) (column : ℕ) → ok_or (option_map f o) column ≡ (ok_or o column >>= λ a. Ok (f a))
ok_or-map f None column = refl
ok_or-map f (Some a) column = refl

read_from-map : {A B : Type 0} (f : A → B) (fs : List (Form A)) (column : ℕ) (ws : List (List ℕ)) → read_from (map (form_with f) fs) column ws ≡ (read_from fs column ws >>= λ a. Ok (f a))
read_from-map f fs column [] = ap (λ o. ok_or o column) (made_at_end-map f fs) ∙ ok_or-map f (made_at_end fs) column
read_from-map {A} {B} f fs column (w ∷ ws) =
    ap (λ (gs : List (Form B)). going_on gs column (λ hs. read_from hs (column_behind column (w ∷ ws)) ws)) (forms_behind-map f w fs)
    ∙ read_map_more f (forms_behind w fs) column (column_behind column (w ∷ ws)) ws (λ hs c. read_from-map f hs c ws)

-- Forms whose values are made into others read as the forms do.
pub read_by-map : {A B : Type 0} (f : A → B) (fs : List (Form A)) (u : Unread) → read_by (map (form_with f) fs) u ≡ (read_by fs u >>= λ a. Ok (f a))
read_by-map f fs u = read_from-map f fs u.column u.words

-- The same for one form, read word by word.
pub read_each-map : {A B : Type 0} (f : A → B) (ps : List (List ℕ → Bool)) (make : List (List ℕ) → A) (u : Unread)
    → read_each ps (λ ws. f (make ws)) u ≡ (read_each ps make u >>= λ a. Ok (f a))
read_each-map {A} f ps make u =
    sym (read_by-one ps (λ ws. f (make ws)) u) ∙ read_by-map f (record { words = ps; make = make } ∷ []) u ∙ ap (λ r. r >>= λ a. Ok (f a)) (read_by-one ps make u)

-- ---- the first word decides which forms go on

words_from : {A : Type 0} (fs : List (Form A)) (column : ℕ) (ws : List (List ℕ)) (w : List ℕ) → first_of_list ws ≡ Some w
    → read_from fs column ws ≡ going_on (forms_behind w fs) column (λ gs. read_from gs (column_behind column ws) (drop 1 ws))
words_from fs column [] w h = absurd cc
words_from fs column (x ∷ ws) w h =
    let same : x ≡ w = cc in ap (λ v. going_on (forms_behind v fs) column (λ gs. read_from gs (column_behind column (x ∷ ws)) ws)) same

-- Behind this first word these forms go on.
pub read_by-first : {A : Type 0} (fs gs : List (Form A)) (u : Unread) (w : List ℕ) → first_of_list u.words ≡ Some w → forms_behind w fs ≡ gs
    → read_by fs u ≡ going_on gs u.column (λ hs. read_by hs (past_word u))
read_by-first fs gs u w first behind =
    words_from fs u.column u.words w first ∙ ap (λ hs. going_on hs u.column (λ ks. read_by ks (past_word u))) behind

-- Behind this first word one form goes on.
pub read_by-first_one : {A : Type 0} (fs : List (Form A)) (ps : List (List ℕ → Bool)) (make : List (List ℕ) → A) (u : Unread) (w : List ℕ)
    → first_of_list u.words ≡ Some w → forms_behind w fs ≡ record { words = ps; make = make } ∷ [] → read_by fs u ≡ read_each ps make (past_word u)
read_by-first_one fs ps make u w first behind = read_by-first fs _ u w first behind ∙ read_by-one ps make (past_word u)

-- The next word is this text.
verb_is : (v : List ℕ) (ws : List (List ℕ)) → some_is (exactly v) (first_of_list ws) ≡ true → first_of_list ws ≡ Some v
verb_is v [] h = absurd cc
verb_is v (w ∷ ws) h = ap (λ x. Some x) (sym ((bytes_eq-Decides v w).0 h))

-- Where the next word is this verb, and one form goes on behind it, the words behind it are read against that form.
pub read_by-verb : {A : Type 0} (fs : List (Form A)) (ps : List (List ℕ → Bool)) (make : List (List ℕ) → A) (u : Unread) (v : List ℕ)
    → next_passes (exactly v) u ≡ true → forms_behind v fs ≡ record { words = ps; make = make } ∷ [] → read_by fs u ≡ read_each ps make (past_word u)
read_by-verb fs ps make u v next behind = read_by-first_one fs ps make u v (verb_is v u.words next) behind

-- The same where more than one form goes on.
pub read_by-verbs : {A : Type 0} (fs gs : List (Form A)) (u : Unread) (v : List ℕ)
    → next_passes (exactly v) u ≡ true → forms_behind v fs ≡ gs → read_by fs u ≡ going_on gs u.column (λ hs. read_by hs (past_word u))
read_by-verbs fs gs u v next behind = read_by-first fs gs u v (verb_is v u.words next) behind

-- Where no form takes the next word, no form goes on.
first_fails : {A : Type 0} (column : ℕ) (w : List ℕ) (ws : List (List ℕ)) (ps : List (List ℕ → Bool)) (make : List (List ℕ) → A)
    → FailsFirst (record { column = column; words = w ∷ ws }) ps → form_behind w ps make ≡ []
first_fails column w ws [] make h = absurd h
first_fails column w ws (p ∷ ps) make h = ap (λ t. if t then record { words = ps; make = λ vs. make (w ∷ vs) } ∷ [] else []) h

at_end_fails : {A : Type 0} (column : ℕ) (ps : List (List ℕ → Bool)) (make : List (List ℕ) → A) (later : Option A)
    → FailsFirst (record { column = column; words = [] }) ps → later ≡ None → made_without ps make later ≡ None
at_end_fails column [] make later h e = absurd h
at_end_fails column (p ∷ ps) make later h e = e

none_behind : {A : Type 0} (column : ℕ) (w : List ℕ) (ws : List (List ℕ)) (fs : List (Form A)) → NoneFits (record { column = column; words = w ∷ ws }) fs → forms_behind w fs ≡ []
none_behind column w ws [] h = refl
none_behind column w ws (f ∷ fs) h = ap (λ gs. form_behind w f.words f.make ++ gs) (none_behind column w ws fs h.1) ∙ ap (λ gs. gs ++ []) (first_fails column w ws f.words f.make h.0)

none_made : {A : Type 0} (column : ℕ) (fs : List (Form A)) → NoneFits (record { column = column; words = [] }) fs → made_at_end fs ≡ None
none_made column [] h = refl
none_made column (f ∷ fs) h = at_end_fails column f.words f.make (made_at_end fs) h.0 (none_made column fs h.1)

none_from : {A : Type 0} (fs : List (Form A)) (column : ℕ) (ws : List (List ℕ)) → NoneFits (record { column = column; words = ws }) fs → read_from fs column ws ≡ Err column
none_from fs column [] h = ap (λ o. ok_or o column) (none_made column fs h)
none_from fs column (w ∷ ws) h = ap (λ gs. going_on gs column (λ hs. read_from hs (column_behind column (w ∷ ws)) ws)) (none_behind column w ws fs h)

-- Then the next word's column is the answer.
pub read_by-other : {A : Type 0} (fs : List (Form A)) (u : Unread) → NoneFits u fs → read_by fs u ≡ Err u.column
read_by-other fs u h = none_from fs u.column u.words h

-- What a whole line makes.
pub ruleset whole_lines = (read_from-is)

-- Where a reader stands.
pub ruleset places_of_readers = (past_words-is)
