-- A line whose first word is a verb is read part by part, as the one form with this verb says.
use Rattle.sl_schedule.specs.Reads.{alone, followed, one_read, pair_alone, pair_and_last, pair_in, three_read, two_read}
use Rattle.sl_text.proofs.FormLaws.{read_by-other, read_by-verb, read_from-is}
use Rattle.sl_text.proofs.PieceLaws.{first_piece}
use Rattle.sl_text.specs.Forms.{Form, bad_column, exactly, made_by, word_at, words_of}
use Rattle.sl_text.specs.Walks.{FailsFirst, NoneFits, Part, Unread, at_end, five_read, forms_behind, four_read, next_part, next_passes, past_word, read_by, read_each, unread}
use Rattle.sl_words.proofs.OptionLaws.{result_ok-ok_or}
use Rattle.sl_words.specs.Results.{◌>>=◌}
use Rattle.sl_words.specs.Words.{first_of_list, some_is}
use Rattle.std.proofs.Common.{Bool, Err, List, None, Ok, Option, Result, Some, [], ap, false, refl, sym, true, ℕ, ◌∙◌, ◌∷◌, ◌≡◌}
use Rattle.std.specs.Prelude.{if◌then◌else◌}
use Rattle.std.specs.Option.{option_map}
use Rattle.std.specs.Result.{result_ok}

-- A word that is kept as it is, or as what it stands for.
part_read : {A E : Type 0} (p : Part A) (ps : List (List ℕ → Bool)) (make : List (List ℕ) → E) (next : A → Result E ℕ) (u : Unread)
    → read_each ps (λ ws. make (word_at u.words 0 ∷ ws)) (past_word u) ≡ next (p.value (word_at u.words 0))
    → read_each (p.passes ∷ ps) make u ≡ (next_part p u >>= next)
part_read {A} {E} p ps make next u e =
    elim (next_passes p.passes u) as (λ t. ((if t then Ok (word_at u.words 0) else Err u.column) >>= λ w. read_each ps (λ ws. make (w ∷ ws)) (past_word u))
    ≡ ((if t then Ok (p.value (word_at u.words 0)) else Err u.column) >>= next)) [ true ↦ e | false ↦ refl ]

pub one_read-each : {A E : Type 0} (p : Part A) (make : A → E) (u : Unread)
    → read_each (p.passes ∷ []) (λ ws. make (p.value (word_at ws 0))) u ≡ one_read p make u
one_read-each p make u = part_read p [] (λ ws. make (p.value (word_at ws 0))) (λ a. at_end (past_word u) >>= λ _. Ok (make a)) u refl

pub two_read-each : {A B E : Type 0} (p : Part A) (q : Part B) (make : A → B → E) (u : Unread)
    → read_each (p.passes ∷ q.passes ∷ []) (λ ws. make (p.value (word_at ws 0)) (q.value (word_at ws 1))) u ≡ two_read p q make u
two_read-each p q make u =
    part_read p (q.passes ∷ []) (λ ws. make (p.value (word_at ws 0)) (q.value (word_at ws 1))) (λ a. one_read q (make a) (past_word u)) u (one_read-each q (make (p.value (word_at u.words 0))) (past_word u))

pub three_read-each : {A B C E : Type 0} (p : Part A) (q : Part B) (r : Part C) (make : A → B → C → E) (u : Unread)
    → read_each (p.passes ∷ q.passes ∷ r.passes ∷ []) (λ ws. make (p.value (word_at ws 0)) (q.value (word_at ws 1)) (r.value (word_at ws 2))) u
    ≡ three_read p q r make u
three_read-each p q r make u =
    part_read p (q.passes ∷ r.passes ∷ []) (λ ws. make (p.value (word_at ws 0)) (q.value (word_at ws 1)) (r.value (word_at ws 2))) (λ a. two_read q r (make a) (past_word u)) u (two_read-each q r (make (p.value (word_at u.words 0))) (past_word u))

pub four_read-each : {A B C D E : Type 0} (p : Part A) (q : Part B) (r : Part C) (s : Part D) (make : A → B → C → D → E) (u : Unread)
    → read_each (p.passes ∷ q.passes ∷ r.passes ∷ s.passes ∷ [])
    (λ ws. make (p.value (word_at ws 0)) (q.value (word_at ws 1)) (r.value (word_at ws 2)) (s.value (word_at ws 3))) u
    ≡ four_read p q r s make u
four_read-each p q r s make u =
    part_read p (q.passes ∷ r.passes ∷ s.passes ∷ [])
    (λ ws. make (p.value (word_at ws 0)) (q.value (word_at ws 1)) (r.value (word_at ws 2)) (s.value (word_at ws 3))) (λ a. three_read q r s (make a) (past_word u)) u
    (three_read-each q r s (make (p.value (word_at u.words 0))) (past_word u))

pub five_read-each : {A B C D E F : Type 0} (p : Part A) (q : Part B) (r : Part C) (s : Part D) (t : Part E) (make : A → B → C → D → E → F) (u : Unread)
    → read_each (p.passes ∷ q.passes ∷ r.passes ∷ s.passes ∷ t.passes ∷ [])
    (λ ws. make (p.value (word_at ws 0)) (q.value (word_at ws 1)) (r.value (word_at ws 2)) (s.value (word_at ws 3)) (t.value (word_at ws 4))) u
    ≡ five_read p q r s t make u
five_read-each p q r s t make u =
    part_read p (q.passes ∷ r.passes ∷ s.passes ∷ t.passes ∷ [])
    (λ ws. make (p.value (word_at ws 0)) (q.value (word_at ws 1)) (r.value (word_at ws 2)) (s.value (word_at ws 3)) (t.value (word_at ws 4))) (λ a. four_read q r s t (make a) (past_word u)) u
    (four_read-each q r s t (make (p.value (word_at u.words 0))) (past_word u))

-- What the forms make of a line is what they make when it is read from the left.
pub made_as_read : {A : Type 0} (fs : List (Form A)) (line : List ℕ) → made_by fs (words_of line) ≡ result_ok (read_by fs (unread 32 line))
made_as_read fs line =
    sym (result_ok-ok_or (made_by fs (words_of line)) (bad_column fs (words_of line))) ∙ ap result_ok (sym (read_from-is fs (words_of line)))

-- A line whose first word is this verb, with which one form goes on.
pub made_behind_verb : {A : Type 0} (fs : List (Form A)) (ps : List (List ℕ → Bool)) (make : List (List ℕ) → A) (line v w : List ℕ) (u : Unread) (r : Result A ℕ)
    → Some w ≡ first_of_list (words_of line) → u ≡ past_word (unread 32 line) → exactly v w ≡ true
    → forms_behind v fs ≡ record { words = ps; make = make } ∷ [] → r ≡ read_each ps make u → result_ok r ≡ made_by fs (words_of line)
made_behind_verb fs ps make line v w u r first behind_it verb behind e =
    let passes : next_passes (exactly v) (unread 32 line) ≡ true = ap (some_is (exactly v)) (sym first) ∙ verb in
    ap result_ok (e ∙ ap (λ u. read_each ps make u) behind_it ∙ sym (read_by-verb fs ps make (unread 32 line) v passes behind)) ∙ sym (made_as_read fs line)

-- A line with another verb.
fails_first : (ps : List (List ℕ → Bool)) (line w : List ℕ) → Some w ≡ first_of_list (words_of line) → FailsFirst (record { column = 1; words = w ∷ [] }) ps
    → FailsFirst (unread 32 line) ps
fails_first [] line w first h = h
fails_first (p ∷ ps) line w first h = ap (some_is p) (sym first) ∙ h

none_fits : {A : Type 0} (fs : List (Form A)) (line w : List ℕ) → Some w ≡ first_of_list (words_of line) → NoneFits (record { column = 1; words = w ∷ [] }) fs
    → NoneFits (unread 32 line) fs
none_fits [] line w first h = tt
none_fits (f ∷ fs) line w first h = (fails_first f.words line w first h.0, none_fits fs line w first h.1)

pub made_of_none : {A : Type 0} (fs : List (Form A)) (line w : List ℕ) → Some w ≡ first_of_list (words_of line)
    → NoneFits (record { column = 1; words = w ∷ [] }) fs → None ≡ made_by fs (words_of line)
made_of_none fs line w first h = sym (made_as_read fs line ∙ ap result_ok (read_by-other fs (unread 32 line) (none_fits fs line w first h)))

-- Each line has a first word.
none_is_some : (w : List ℕ) → None ≡ Some w → ⊥
none_is_some w h = absurd cc

pub no_words : (line : List ℕ) → None ≡ first_of_list (words_of line) → ⊥
no_words line h = let first = first_piece 32 line in none_is_some first.0 (h ∙ ap first_of_list first.2)

-- The same for forms of one to five parts behind the verb.
pub made_of_one : {A E : Type 0} (fs : List (Form E)) (p : Part A) (make : A → E)
    (line v w : List ℕ) (u : Unread) (o : Result E ℕ)
    → Some w ≡ first_of_list (words_of line) → u ≡ past_word (unread 32 line) → exactly v w ≡ true
    → forms_behind v fs ≡ record { words = p.passes ∷ []; make = λ ws. make (p.value (word_at ws 0)) } ∷ []
    → o ≡ one_read p make u → result_ok o ≡ made_by fs (words_of line)
made_of_one fs p make line v w u o first behind_it verb behind e =
    made_behind_verb fs (p.passes ∷ []) (λ ws. make (p.value (word_at ws 0))) line v w u o first behind_it verb behind
    (e ∙ sym (one_read-each p make u))

pub made_of_two : {A B E : Type 0} (fs : List (Form E)) (p : Part A) (q : Part B) (make : A → B → E)
    (line v w : List ℕ) (u : Unread) (o : Result E ℕ)
    → Some w ≡ first_of_list (words_of line) → u ≡ past_word (unread 32 line) → exactly v w ≡ true
    → forms_behind v fs ≡ record { words = p.passes ∷ q.passes ∷ []; make = λ ws. make (p.value (word_at ws 0)) (q.value (word_at ws 1)) } ∷ []
    → o ≡ two_read p q make u → result_ok o ≡ made_by fs (words_of line)
made_of_two fs p q make line v w u o first behind_it verb behind e =
    made_behind_verb fs (p.passes ∷ q.passes ∷ []) (λ ws. make (p.value (word_at ws 0)) (q.value (word_at ws 1))) line v w u o first behind_it verb behind
    (e ∙ sym (two_read-each p q make u))

pub made_of_three : {A B C E : Type 0} (fs : List (Form E)) (p : Part A) (q : Part B) (r : Part C) (make : A → B → C → E)
    (line v w : List ℕ) (u : Unread) (o : Result E ℕ)
    → Some w ≡ first_of_list (words_of line) → u ≡ past_word (unread 32 line) → exactly v w ≡ true
    → forms_behind v fs ≡ record { words = p.passes ∷ q.passes ∷ r.passes ∷ []; make = λ ws. make (p.value (word_at ws 0)) (q.value (word_at ws 1)) (r.value (word_at ws 2)) } ∷ []
    → o ≡ three_read p q r make u → result_ok o ≡ made_by fs (words_of line)
made_of_three fs p q r make line v w u o first behind_it verb behind e =
    made_behind_verb fs (p.passes ∷ q.passes ∷ r.passes ∷ []) (λ ws. make (p.value (word_at ws 0)) (q.value (word_at ws 1)) (r.value (word_at ws 2))) line v w u o first behind_it verb behind
    (e ∙ sym (three_read-each p q r make u))

pub made_of_four : {A B C D E : Type 0} (fs : List (Form E)) (p : Part A) (q : Part B) (r : Part C) (s : Part D) (make : A → B → C → D → E)
    (line v w : List ℕ) (u : Unread) (o : Result E ℕ)
    → Some w ≡ first_of_list (words_of line) → u ≡ past_word (unread 32 line) → exactly v w ≡ true
    → forms_behind v fs ≡ record { words = p.passes ∷ q.passes ∷ r.passes ∷ s.passes ∷ []; make = λ ws. make (p.value (word_at ws 0)) (q.value (word_at ws 1)) (r.value (word_at ws 2)) (s.value (word_at ws 3)) } ∷ []
    → o ≡ four_read p q r s make u → result_ok o ≡ made_by fs (words_of line)
made_of_four fs p q r s make line v w u o first behind_it verb behind e =
    made_behind_verb fs (p.passes ∷ q.passes ∷ r.passes ∷ s.passes ∷ []) (λ ws. make (p.value (word_at ws 0)) (q.value (word_at ws 1)) (r.value (word_at ws 2)) (s.value (word_at ws 3))) line v w u o first behind_it verb behind
    (e ∙ sym (four_read-each p q r s make u))

pub made_of_five : {A B C D E F : Type 0} (fs : List (Form F)) (p : Part A) (q : Part B) (r : Part C) (s : Part D) (t : Part E) (make : A → B → C → D → E → F)
    (line v w : List ℕ) (u : Unread) (o : Result F ℕ)
    → Some w ≡ first_of_list (words_of line) → u ≡ past_word (unread 32 line) → exactly v w ≡ true
    → forms_behind v fs ≡ record { words = p.passes ∷ q.passes ∷ r.passes ∷ s.passes ∷ t.passes ∷ []; make = λ ws. make (p.value (word_at ws 0)) (q.value (word_at ws 1)) (r.value (word_at ws 2)) (s.value (word_at ws 3)) (t.value (word_at ws 4)) } ∷ []
    → o ≡ five_read p q r s t make u → result_ok o ≡ made_by fs (words_of line)
made_of_five fs p q r s t make line v w u o first behind_it verb behind e =
    made_behind_verb fs (p.passes ∷ q.passes ∷ r.passes ∷ s.passes ∷ t.passes ∷ []) (λ ws. make (p.value (word_at ws 0)) (q.value (word_at ws 1)) (r.value (word_at ws 2)) (s.value (word_at ws 3)) (t.value (word_at ws 4))) line v w u o first behind_it verb behind
    (e ∙ sym (five_read-each p q r s t make u))

-- ---- one part or two that were read by themselves

one_by_one : {A E : Type 0} (r : Result A ℕ) (done : Result (Unit {0}) ℕ) (make : A → E)
    → option_map make (result_ok (r >>= λ a. done >>= λ _. Ok a)) ≡ result_ok (r >>= λ a. done >>= λ _. Ok (make a))
one_by_one (Err e) done make = refl
one_by_one (Ok a) (Err e) make = refl
one_by_one (Ok a) (Ok d) make = refl

two_by_two : {A B E : Type 0} (r : Result A ℕ) (s : Result B ℕ) (done : Result (Unit {0}) ℕ) (make : A → B → E)
    → followed (λ (x : A × B) d. make x.0 x.1) (result_ok (r >>= λ a. s >>= λ b. Ok (a, b))) (result_ok done) ≡ result_ok (r >>= λ a. s >>= λ b. done >>= λ _. Ok (make a b))
two_by_two (Err e) s done make = refl
two_by_two (Ok a) (Err e) done make = refl
two_by_two (Ok a) (Ok b) (Err e) make = refl
two_by_two (Ok a) (Ok b) (Ok d) make = refl

two_and_one : {A B C E : Type 0} (r : Result A ℕ) (s : Result B ℕ) (t : Result C ℕ) (done : Result (Unit {0}) ℕ) (make : A → B → C → E)
    → followed (λ (x : A × B) c. make x.0 x.1 c) (result_ok (r >>= λ a. s >>= λ b. Ok (a, b))) (result_ok (t >>= λ c. done >>= λ _. Ok c))
    ≡ result_ok (r >>= λ a. s >>= λ b. t >>= λ c. done >>= λ _. Ok (make a b c))
two_and_one (Err e) s t done make = refl
two_and_one (Ok a) (Err e) t done make = refl
two_and_one (Ok a) (Ok b) (Err e) done make = refl
two_and_one (Ok a) (Ok b) (Ok c) (Err e) make = refl
two_and_one (Ok a) (Ok b) (Ok c) (Ok d) make = refl

pub two_and_two : {A B C D E : Type 0} (r : Result A ℕ) (s : Result B ℕ) (t : Result C ℕ) (rest : Result D ℕ) (make : A → B → C → D → E)
    → followed (λ (x : A × B) (y : C × D). make x.0 x.1 y.0 y.1) (result_ok (r >>= λ a. s >>= λ b. Ok (a, b))) (result_ok (t >>= λ c. rest >>= λ d. Ok (c, d)))
    ≡ result_ok (r >>= λ a. s >>= λ b. t >>= λ c. rest >>= λ d. Ok (make a b c d))
two_and_two (Err e) s t rest make = refl
two_and_two (Ok a) (Err e) t rest make = refl
two_and_two (Ok a) (Ok b) (Err e) rest make = refl
two_and_two (Ok a) (Ok b) (Ok c) (Err e) make = refl
two_and_two (Ok a) (Ok b) (Ok c) (Ok d) make = refl

pub made_alone : {A E : Type 0} (fs : List (Form E)) (p : Part A) (make : A → E) (line v w : List ℕ) (u : Unread) (o : Option E)
    → Some w ≡ first_of_list (words_of line) → u ≡ past_word (unread 32 line) → exactly v w ≡ true
    → forms_behind v fs ≡ record { words = p.passes ∷ []; make = λ ws. make (p.value (word_at ws 0)) } ∷ []
    → o ≡ option_map make (alone p u) → o ≡ made_by fs (words_of line)
unfolding alone
made_alone fs p make line v w u o first behind_it verb behind e =
    e ∙ one_by_one (next_part p u) (at_end (past_word u)) make ∙ made_of_one fs p make line v w u (one_read p make u) first behind_it verb behind refl

pub made_pair : {A B E : Type 0} (fs : List (Form E)) (p : Part A) (q : Part B) (make : A → B → E) (line v w : List ℕ) (u : Unread) (o : Option E)
    → Some w ≡ first_of_list (words_of line) → u ≡ past_word (unread 32 line) → exactly v w ≡ true
    → forms_behind v fs ≡ record { words = p.passes ∷ q.passes ∷ []; make = λ ws. make (p.value (word_at ws 0)) (q.value (word_at ws 1)) } ∷ []
    → o ≡ pair_alone p q make u → o ≡ made_by fs (words_of line)
unfolding pair_in
made_pair fs p q make line v w u o first behind_it verb behind e =
    e ∙ two_by_two (next_part p u) (next_part q (past_word u)) (at_end (past_word (past_word u))) make
    ∙ made_of_two fs p q make line v w u (two_read p q make u) first behind_it verb behind refl

pub made_pair_and_last : {A B C E : Type 0} (fs : List (Form E)) (p : Part A) (q : Part B) (r : Part C) (make : A → B → C → E) (line v w : List ℕ) (u : Unread) (o : Option E)
    → Some w ≡ first_of_list (words_of line) → u ≡ past_word (unread 32 line) → exactly v w ≡ true
    → forms_behind v fs ≡ record { words = p.passes ∷ q.passes ∷ r.passes ∷ []; make = λ ws. make (p.value (word_at ws 0)) (q.value (word_at ws 1)) (r.value (word_at ws 2)) } ∷ []
    → o ≡ pair_and_last p q r make u → o ≡ made_by fs (words_of line)
unfolding pair_in alone
made_pair_and_last fs p q r make line v w u o first behind_it verb behind e =
    e ∙ two_and_one (next_part p u) (next_part q (past_word u)) (next_part r (past_word (past_word u))) (at_end (past_word (past_word (past_word u)))) make
    ∙ made_of_three fs p q r make line v w u (three_read p q r make u) first behind_it verb behind refl
