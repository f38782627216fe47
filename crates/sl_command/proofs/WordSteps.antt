-- Words read one after another by calls that may fail, against a list of tests: each call that takes a word goes on behind it, and one
-- that fails gives what the list gives.
use Rattle.sl_text.specs.Forms.{word_at}
use Rattle.sl_text.specs.Walks.{Unread, at_end, left_after, next_as, next_passes, past_word, read_each}
use Rattle.sl_words.specs.Results.{◌>>=◌}
use Rattle.std.proofs.Common.{Bool, List, [], ap, false, refl, sym, true, ℕ, ◌≡◌, ◌∙◌, ◌∷◌}
use Rattle.std.specs.Prelude.{Err, Ok, Result, if◌then◌else◌}
use Rattle.std.specs.Result.{IsErrAnd}

-- A failure that was handed on.
handed_on : {A : Type 0} (out : Result A ℕ) (k : ℕ) → IsErrAnd out (λ x. x ≡ k) → out ≡ Err k
handed_on (Ok x) k is = absurd is
handed_on (Err e) k is = ap (λ x. Err x) is

-- A word that was taken passes, and stands for what was made of it.
passed : {A : Type 0} (t : Bool) (a x : A) (k : ℕ) (r : Result A ℕ) → r ≡ (if t then Ok a else Err k) → r ≡ Ok x → (t ≡ true) × (a ≡ x)
passed true a x k r is ok = (refl, cc)
passed false a x k r is ok = absurd cc

-- The tests behind it are what is left.
pub went_on : {A B : Type 0} (p : List ℕ → Bool) (value : List ℕ → A) (ps : List (List ℕ → Bool)) (make : List (List ℕ) → B) (u v w : Unread) (r : Result A ℕ) (x : A)
    → v ≡ u → r ≡ next_as p value v → r ≡ Ok x → w ≡ left_after r v
    → (read_each (p ∷ ps) make u ≡ read_each ps (λ ws. make (word_at u.words 0 ∷ ws)) (past_word u)) × (w ≡ past_word u) × (value (word_at u.words 0) ≡ x)
went_on p value ps make u v w r x at reads ok left =
    let is = passed (next_passes p u) (value (word_at u.words 0)) x u.column r (reads ∙ ap (next_as p value) at) ok in (
      ap (λ t. (if t then Ok (word_at u.words 0) else Err u.column) >>= λ f. read_each ps (λ ws. make (f ∷ ws)) (past_word u)) is.0,
      left ∙ ap (λ s. left_after s v) ok ∙ ap past_word at,
      is.1,
    )

-- No word is left where none may be.
pub ended : {B : Type 0} (make : List (List ℕ) → B) (u v : Unread) (r : Result (Unit {0}) ℕ) (x : Unit {0}) → v ≡ u → r ≡ at_end v → r ≡ Ok x → read_each [] make u ≡ Ok (make [])
ended make u v r x at reads ok = ap (λ s. s >>= λ _. Ok (make [])) (ap at_end (sym at) ∙ sym reads ∙ ok)

-- A word that was not taken fails the test.
failed : {A : Type 0} (t : Bool) (a : A) (k e : ℕ) (r : Result A ℕ) → r ≡ (if t then Ok a else Err k) → r ≡ Err e → (t ≡ false) × (k ≡ e)
failed true a k e r is err = absurd cc
failed false a k e r is err = (refl, cc)

pub stopped : {A B : Type 0} (p : List ℕ → Bool) (value : List ℕ → A) (ps : List (List ℕ → Bool)) (make : List (List ℕ) → B) (u v : Unread) (r : Result A ℕ) (e : ℕ)
    (out : Result B ℕ) → v ≡ u → r ≡ next_as p value v → r ≡ Err e → IsErrAnd out (λ x. x ≡ e) → out ≡ read_each (p ∷ ps) make u
stopped p value ps make u v r e out at reads err is =
    let fails = failed (next_passes p u) (value (word_at u.words 0)) u.column e r (reads ∙ ap (next_as p value) at) err in
    handed_on out e is ∙ ap (λ k. Err k) (sym fails.1)
    ∙ ap (λ t. (if t then Ok (word_at u.words 0) else Err u.column) >>= λ f. read_each ps (λ ws. make (f ∷ ws)) (past_word u)) (sym fails.0)

-- A word is left where none may be.
pub not_ended : {B : Type 0} (make : List (List ℕ) → B) (u v : Unread) (r : Result (Unit {0}) ℕ) (e : ℕ) (out : Result B ℕ)
    → v ≡ u → r ≡ at_end v → r ≡ Err e → IsErrAnd out (λ x. x ≡ e) → out ≡ read_each [] make u
not_ended make u v r e out at reads err is = handed_on out e is ∙ ap (λ s. s >>= λ _. Ok (make [])) (sym err ∙ reads ∙ ap at_end at)
