-- Words of a line, and forms that a line may have.
use Rattle.sl_words.specs.Words.{greatest}
use Rattle.std.specs.List.{join_with_byte, list_all, slice_split}
use Rattle.std.specs.Prelude.{Bool, List, Option, bytes_eq, find, flat_map, if◌then◌else◌, length, map, not, option_map, slice_index_or, sum_by, take, [], ℕ, ◌&&◌, ◌++◌, ◌+◌, ◌==◌, ◌∷◌}

-- The pieces between the places where a byte stands: one more than it stands.
abbrev pub pieces : ℕ → List ℕ → List (List ℕ)
pieces c bs = slice_split (λ b. b == c) bs

-- No byte of the text is this one.
abbrev pub is_free_of : ℕ → List ℕ → Bool
is_free_of c bs = list_all (λ b. not (b == c)) bs

-- The words of a line, cut at each single space.
abbrev pub words_of : List ℕ → List (List ℕ)
words_of line = pieces 32 line

-- Words with one space between them.
abbrev pub spaced : List (List ℕ) → List ℕ
spaced ws = join_with_byte 32 ws

-- Parts with a colon between them.
abbrev pub coloned : List (List ℕ) → List ℕ
coloned ws = join_with_byte 58 ws

-- The k-th word, and nothing past the end.
abbrev pub word_at : List (List ℕ) → ℕ → List ℕ
word_at ws k = slice_index_or ws k []

-- Exactly this text.
abbrev pub exactly : List ℕ → List ℕ → Bool
exactly text w = bytes_eq text w

-- A form: what each word may be, and what the words then make.
pub record Form (A : Type 0) : Type 0 where
  pub words : List (List ℕ → Bool)
  pub make : List (List ℕ) → A

-- How many words fit, from the first on.
abbrev pub fitting : List (List ℕ → Bool) → List (List ℕ) → ℕ
fitting [] ws = 0
fitting (p ∷ ps) [] = 0
fitting (p ∷ ps) (w ∷ ws) = if p w then 1 + fitting ps ws else 0

-- The words fit the tests one by one, and there are as many.
abbrev pub fits_whole : List (List ℕ → Bool) → List (List ℕ) → Bool
fits_whole ps ws = length ps == length ws && fitting ps ws == length ws

-- What the first form that the words fit makes of them.
abbrev pub made_by : {A : Type 0} → List (Form A) → List (List ℕ) → Option A
made_by fs ws = option_map (λ f. f.make ws) (find (λ f. fits_whole f.words ws) fs)

-- The column, from 1, of word k; one past the end where a word is missing.
abbrev pub column_of : List (List ℕ) → ℕ → ℕ
column_of ws k = if k == length ws then length (spaced ws) + 1 else 1 + sum_by (λ w. length w + 1) (take k ws)

-- The column of the first word that no form takes after the words before it.
abbrev pub bad_column : {A : Type 0} → List (Form A) → List (List ℕ) → ℕ
bad_column fs ws = column_of ws (greatest (map (λ f. fitting f.words ws) fs))

-- The lines of a source, without their line feeds; the last may lack it.
abbrev pub without_empty_last : List (List ℕ) → List (List ℕ)
without_empty_last [] = []
without_empty_last ([] ∷ []) = []
without_empty_last (l ∷ []) = l ∷ []
without_empty_last (l ∷ m ∷ ls) = l ∷ without_empty_last (m ∷ ls)

-- The lines of a source: nothing stands after the last line feed.
abbrev pub lines_of : List ℕ → List (List ℕ)
lines_of source = without_empty_last (pieces 10 source)

-- Each line with its line feed.
abbrev pub as_bytes : List (List ℕ) → List ℕ
as_bytes ls = flat_map (λ l. l ++ 10 ∷ []) ls
