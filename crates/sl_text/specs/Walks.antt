-- Words read one by one from the left, and forms that are followed meanwhile: a form goes on behind a word that its first test
-- takes, and the first form that goes on to the end makes the value.
use Rattle.sl_text.specs.Forms.{Form, pieces, word_at}
use Rattle.sl_words.specs.Results.{ensure, ◌>>=◌}
use Rattle.sl_words.specs.Words.{first_of_list, some_is}
use Rattle.std.specs.Option.{ok_or}
use Rattle.std.specs.Prelude.{Bool, Err, IsTrue, List, None, Ok, Option, Result, Some, drop, false, suc, zero, if◌then◌else◌, length, [], ℕ, ◌&&◌, ◌+◌, ◌++◌, ◌<◌, ◌==◌, ◌^◌, ◌∷◌, ◌≡◌}

-- The pieces of what stands behind a separator, and none where there is no separator.
abbrev pub pieces_behind : ℕ → Option (List ℕ) → List (List ℕ)
pieces_behind c None = []
pieces_behind c (Some bs) = pieces c bs

-- A word with what stands behind it.
abbrev pub with_behind : ℕ → List ℕ → Option (List ℕ) → List ℕ
with_behind c w None = w
with_behind c w (Some bs) = w ++ c ∷ bs

-- The text behind a separator, and none where there is no separator.
abbrev pub text_left : Option (List ℕ) → List ℕ
text_left None = []
text_left (Some bs) = bs

-- The column behind a word and its separator, if it has one.
abbrev pub column_past : ℕ → List ℕ → Option (List ℕ) → ℕ
column_past column w None = column + length w
column_past column w (Some bs) = column + length w + 1

-- What a reader has before it: the words that are left, and the column of the next one, or one past the end.
pub record Unread : Type 0 where
  pub column : ℕ
  pub words : List (List ℕ)

-- The column behind the first word and its separator, if it has one.
abbrev pub column_behind : ℕ → List (List ℕ) → ℕ
column_behind column [] = column
column_behind column (w ∷ []) = column + length w
column_behind column (w ∷ x ∷ ws) = column + length w + 1

-- The next word was cut off, if one is left, with what stands behind it; its column and its bytes stay below 2^64 together.
abbrev pub IsCut : ℕ → Unread → Option (List ℕ) → Option (List ℕ) → Type 0
IsCut c u None rest = u.words ≡ []
IsCut c u (Some w) rest = (u.words ≡ w ∷ pieces_behind c rest) × (u.column + length (with_behind c w rest) < 2 ^ 64)

-- The same with one word less.
abbrev pub past_word : Unread → Unread
past_word u = record { column = column_behind u.column u.words; words = drop 1 u.words }

-- The same with this many words less.
abbrev pub past_words : ℕ → Unread → Unread
past_words zero u = u
past_words (suc k) u = past_words k (past_word u)

-- What a reader at the front of a text has before it.
abbrev pub unread : ℕ → List ℕ → Unread
unread c text = record { column = 1; words = pieces c text }

-- Whether a word is left, and passes.
abbrev pub next_passes : (List ℕ → Bool) → Unread → Bool
next_passes passes u = some_is passes (first_of_list u.words)

-- What the next word stands for, if it passes; else its column.
abbrev pub next_as : {A : Type 0} → (List ℕ → Bool) → (List ℕ → A) → Unread → Result A ℕ
next_as passes value u = if next_passes passes u then Ok (value (word_at u.words 0)) else Err u.column

-- Behind the word where it passed, and before it else.
abbrev pub left_after : {A : Type 0} → Result A ℕ → Unread → Unread
left_after (Ok a) u = past_word u
left_after (Err column) u = u

-- Nothing where no word is left; else the column of the next one.
abbrev pub at_end : Unread → Result (Unit {0}) ℕ
at_end u = ensure (length u.words == 0) u.column

-- ---- forms, followed word by word

-- The form that a form goes on as, behind a first word that its first test passes.
abbrev pub form_behind : {A : Type 0} → List ℕ → List (List ℕ → Bool) → (List (List ℕ) → A) → List (Form A)
form_behind w [] make = []
form_behind w (p ∷ ps) make = if p w then record { words = ps; make = λ ws. make (w ∷ ws) } ∷ [] else []

-- The forms that go on behind a first word.
abbrev pub forms_behind : {A : Type 0} → List ℕ → List (Form A) → List (Form A)
forms_behind w [] = []
forms_behind w (f ∷ fs) = form_behind w f.words f.make ++ forms_behind w fs

-- What a form makes that has no test left.
abbrev pub made_without : {A : Type 0} → List (List ℕ → Bool) → (List (List ℕ) → A) → Option A → Option A
made_without [] make later = Some (make [])
made_without (p ∷ ps) make later = later

-- What the first form makes that has no test left.
abbrev pub made_at_end : {A : Type 0} → List (Form A) → Option A
made_at_end [] = None
made_at_end (f ∷ fs) = made_without f.words f.make (made_at_end fs)

-- What comes of the forms that go on, or this column where none does.
abbrev pub going_on : {A : Type 0} → List (Form A) → ℕ → (List (Form A) → Result A ℕ) → Result A ℕ
going_on [] column next = Err column
going_on (g ∷ gs) column next = next (g ∷ gs)

-- What the words make, read from the left; else the column of the first word behind which no form goes on.
abbrev pub read_from : {A : Type 0} → List (Form A) → ℕ → List (List ℕ) → Result A ℕ
read_from fs column [] = ok_or (made_at_end fs) column
read_from fs column (w ∷ ws) = going_on (forms_behind w fs) column (λ gs. read_from gs (column_behind column (w ∷ ws)) ws)

-- The same for what a reader has before it.
abbrev pub read_by : {A : Type 0} → List (Form A) → Unread → Result A ℕ
read_by fs u = read_from fs u.column u.words

-- The words that are left, one by one against these tests, and no more of them.
abbrev pub read_each : {A : Type 0} → List (List ℕ → Bool) → (List (List ℕ) → A) → Unread → Result A ℕ
read_each [] make u = at_end u >>= λ _. Ok (make [])
read_each (p ∷ ps) make u = next_as p (λ w. w) u >>= λ w. read_each ps (λ ws. make (w ∷ ws)) (past_word u)

-- A form that begins with a test which the next word fails, or which finds no word.
abbrev pub FailsFirst : Unread → List (List ℕ → Bool) → Type 0
FailsFirst u [] = ⊥
FailsFirst u (p ∷ ps) = next_passes p u ≡ false

-- Each form is such a one.
abbrev pub NoneFits : {A : Type 0} → Unread → List (Form A) → Type 0
NoneFits u [] = Unit {0}
NoneFits u (f ∷ fs) = FailsFirst u f.words × NoneFits u fs

-- The form whose value is made into another.
abbrev pub form_with : {A B : Type 0} → (A → B) → Form A → Form B
form_with f form = record { words = form.words; make = λ ws. f (form.make ws) }

-- ---- words of several parts

-- What a part may be, and what it stands for.
pub record Part (A : Type 0) : Type 0 where
  pub passes : List ℕ → Bool
  pub value : List ℕ → A

-- The next word, as this part.
abbrev pub next_part : {A : Type 0} → Part A → Unread → Result A ℕ
next_part p u = next_as p.passes p.value u

-- Four parts and no more, read one by one.
abbrev pub four_read : {A B C D E : Type 0} → Part A → Part B → Part C → Part D → (A → B → C → D → E) → Unread → Result E ℕ
four_read p q r s make u = do
  a ← next_part p u
  b ← next_part q (past_word u)
  c ← next_part r (past_word (past_word u))
  d ← next_part s (past_word (past_word (past_word u)))
  done ← at_end (past_word (past_word (past_word (past_word u))))
  Ok (make a b c d)

-- Five parts and no more, read one by one.
abbrev pub five_read : {A B C D E F : Type 0} → Part A → Part B → Part C → Part D → Part E → (A → B → C → D → E → F) → Unread → Result F ℕ
five_read p q r s t make u = do
  a ← next_part p u
  b ← next_part q (past_word u)
  c ← next_part r (past_word (past_word u))
  d ← next_part s (past_word (past_word (past_word u)))
  e ← next_part t (past_word (past_word (past_word (past_word u))))
  done ← at_end (past_word (past_word (past_word (past_word (past_word u)))))
  Ok (make a b c d e)

-- Whether the words are these parts and no more.
abbrev pub are_four : {A B C D : Type 0} → Part A → Part B → Part C → Part D → List (List ℕ) → Bool
are_four p q r s ws = length ws == 4 && p.passes (word_at ws 0) && q.passes (word_at ws 1) && r.passes (word_at ws 2) && s.passes (word_at ws 3)

abbrev pub are_five : {A B C D E : Type 0} → Part A → Part B → Part C → Part D → Part E → List (List ℕ) → Bool
are_five p q r s t ws =
    length ws == 5 && p.passes (word_at ws 0) && q.passes (word_at ws 1) && r.passes (word_at ws 2) && s.passes (word_at ws 3) && t.passes (word_at ws 4)

-- The value stands for a word that passes, and that was the next one.
abbrev pub Passed : {A : Type 0} → (List ℕ → Bool) → (List ℕ → A) → Unread → Unread → A → Type 0
Passed passes value old new a = (word : List ℕ) × (old.words ≡ word ∷ new.words) × IsTrue (passes word) × (a ≡ value word)
