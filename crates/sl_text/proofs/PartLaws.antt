-- Words of four or five parts: what is made of the parts one by one is made of the whole word where all its tests hold.
use Rattle.sl_text.specs.Forms.{word_at}
use Rattle.sl_text.specs.Walks.{Part, Unread, are_five, are_four, five_read, four_read, next_as}
use Rattle.sl_words.specs.Results.{ensure, ◌>>=◌}
use Rattle.sl_words.specs.Words.{choose, first_of_list}
use Rattle.std.proofs.Common.{Bool, List, None, Option, Some, [], ap, arith, eqb, false, length, refl, suc, sym, true, ℕ, ◌&&◌, ◌<◌, ◌≡◌, ◌∙◌, ◌∷◌}
use Rattle.std.proofs.lemmas.Bool.{ne_eqb}
use Rattle.std.specs.Option.{ok_or}
use Rattle.std.specs.Prelude.{Err, Ok, Result, if◌then◌else◌}
use Rattle.std.specs.Result.{result_ok}

-- A step behind which nothing is read.
none_behind : {A E : Type 0} (t : Bool) (x : A) (i : ℕ) (next : A → Result E ℕ) → ((y : A) → result_ok (next y) ≡ None) → result_ok ((if t then Ok x else Err i) >>= next) ≡ None
none_behind true x i next h = h x
none_behind false x i next h = refl

-- A part that is left over.
left_over : {E : Type 0} (parts : ℕ) (i : ℕ) (made : E) → result_ok (ensure (eqb (suc parts) 0) i >>= λ _. Ok made) ≡ None
left_over parts i made = ap (λ t. result_ok (ensure t i >>= λ _. Ok made)) (ne_eqb (suc parts) 0 (λ same. omega arith))

-- Too many parts.
too_many : {E : Type 0} (parts most : ℕ) (rest : Bool → Bool) (made : E) → most < parts → rest false ≡ false → choose (rest (eqb parts most)) made ≡ None
too_many parts most rest made more e = ap (λ t. choose (rest t) made) (ne_eqb parts most (λ same. omega arith)) ∙ ap (λ t. choose t made) e

-- Four tests, one after another, and five.
four_tests : {A B C D E : Type 0} (ta tb tc td : Bool) (a : A) (b : B) (c : C) (d : D) (i j k l : ℕ) (make : A → B → C → D → E)
    → result_ok ((if ta then Ok a else Err i) >>= λ x. (if tb then Ok b else Err j) >>= λ y. (if tc then Ok c else Err k) >>= λ z. (if td then Ok d else Err l) >>= λ w. Ok (make x y z w))
    ≡ choose (ta && tb && tc && td) (make a b c d)
four_tests true true true true a b c d i j k l make = refl
four_tests true true true false a b c d i j k l make = refl
four_tests true true false td a b c d i j k l make = refl
four_tests true false tc td a b c d i j k l make = refl
four_tests false tb tc td a b c d i j k l make = refl

five_tests : {A B C D E F : Type 0} (ta tb tc td te : Bool) (a : A) (b : B) (c : C) (d : D) (e : E) (i j k l m : ℕ) (make : A → B → C → D → E → F)
    → result_ok ((if ta then Ok a else Err i) >>= λ x. (if tb then Ok b else Err j) >>= λ y. (if tc then Ok c else Err k) >>= λ z. (if td then Ok d else Err l) >>= λ w. (if te then Ok e else Err m) >>= λ v. Ok (make x y z w v))
    ≡ choose (ta && tb && tc && td && te) (make a b c d e)
five_tests true tb tc td te a b c d e i j k l m make = four_tests tb tc td te b c d e j k l m (make a)
five_tests false tb tc td te a b c d e i j k l m make = refl

-- What a reader of four parts makes is made of the words where they are these parts.
four_parts : {A B C D E : Type 0} (p : Part A) (q : Part B) (r : Part C) (s : Part D) (make : A → B → C → D → E) (column : ℕ) (ws : List (List ℕ))
    → result_ok (four_read p q r s make (record { column = column; words = ws }))
    ≡ choose (are_four p q r s ws) (make (p.value (word_at ws 0)) (q.value (word_at ws 1)) (r.value (word_at ws 2)) (s.value (word_at ws 3)))
four_parts p q r s make column [] = refl
four_parts p q r s make column (a ∷ []) = none_behind (p.passes a) (p.value a) column _ (λ x. refl)
four_parts p q r s make column (a ∷ b ∷ []) = none_behind (p.passes a) (p.value a) column _ (λ x. none_behind (q.passes b) (q.value b) _ _ (λ y. refl))
four_parts p q r s make column (a ∷ b ∷ c ∷ []) =
    none_behind (p.passes a) (p.value a) column _ (λ x. none_behind (q.passes b) (q.value b) _ _ (λ y. none_behind (r.passes c) (r.value c) _ _ (λ z. refl)))
four_parts p q r s make column (a ∷ b ∷ c ∷ d ∷ []) = four_tests (p.passes a) (q.passes b) (r.passes c) (s.passes d) (p.value a) (q.value b) (r.value c) (s.value d) _ _ _ _ make
four_parts p q r s make column (a ∷ b ∷ c ∷ d ∷ e ∷ ws) =
    none_behind (p.passes a) (p.value a) column _ (λ x. none_behind (q.passes b) (q.value b) _ _ (λ y. none_behind (r.passes c) (r.value c) _ _ (λ z.
    none_behind (s.passes d) (s.value d) _ _ (λ w. left_over (length ws) _ _))))
    ∙ sym (too_many (length (a ∷ b ∷ c ∷ d ∷ e ∷ ws)) 4 (λ t. t && p.passes a && q.passes b && r.passes c && s.passes d) _ (omega arith) refl)

pub four_read-is : {A B C D E : Type 0} (p : Part A) (q : Part B) (r : Part C) (s : Part D) (make : A → B → C → D → E) (u : Unread)
    → result_ok (four_read p q r s make u)
    ≡ choose (are_four p q r s u.words) (make (p.value (word_at u.words 0)) (q.value (word_at u.words 1)) (r.value (word_at u.words 2)) (s.value (word_at u.words 3)))
four_read-is p q r s make u = four_parts p q r s make u.column u.words

-- What a reader of five parts makes is made of the words where they are these parts.
five_parts : {A B C D E F : Type 0} (p : Part A) (q : Part B) (r : Part C) (s : Part D) (t : Part E) (make : A → B → C → D → E → F) (column : ℕ) (ws : List (List ℕ))
    → result_ok (five_read p q r s t make (record { column = column; words = ws }))
    ≡ choose (are_five p q r s t ws)
    (make (p.value (word_at ws 0)) (q.value (word_at ws 1)) (r.value (word_at ws 2)) (s.value (word_at ws 3)) (t.value (word_at ws 4)))
five_parts p q r s t make column [] = refl
five_parts p q r s t make column (a ∷ []) = none_behind (p.passes a) (p.value a) column _ (λ x. refl)
five_parts p q r s t make column (a ∷ b ∷ []) = none_behind (p.passes a) (p.value a) column _ (λ x. none_behind (q.passes b) (q.value b) _ _ (λ y. refl))
five_parts p q r s t make column (a ∷ b ∷ c ∷ []) =
    none_behind (p.passes a) (p.value a) column _ (λ x. none_behind (q.passes b) (q.value b) _ _ (λ y. none_behind (r.passes c) (r.value c) _ _ (λ z. refl)))
five_parts p q r s t make column (a ∷ b ∷ c ∷ d ∷ []) =
    none_behind (p.passes a) (p.value a) column _ (λ x. none_behind (q.passes b) (q.value b) _ _ (λ y. none_behind (r.passes c) (r.value c) _ _ (λ z.
    none_behind (s.passes d) (s.value d) _ _ (λ w. refl))))
five_parts p q r s t make column (a ∷ b ∷ c ∷ d ∷ e ∷ []) =
    five_tests (p.passes a) (q.passes b) (r.passes c) (s.passes d) (t.passes e) (p.value a) (q.value b) (r.value c) (s.value d) (t.value e) _ _ _ _ _ make
five_parts p q r s t make column (a ∷ b ∷ c ∷ d ∷ e ∷ f ∷ ws) =
    none_behind (p.passes a) (p.value a) column _ (λ x. none_behind (q.passes b) (q.value b) _ _ (λ y. none_behind (r.passes c) (r.value c) _ _ (λ z.
    none_behind (s.passes d) (s.value d) _ _ (λ w. none_behind (t.passes e) (t.value e) _ _ (λ v. left_over (length ws) _ _)))))
    ∙ sym (too_many (length (a ∷ b ∷ c ∷ d ∷ e ∷ f ∷ ws)) 5 (λ o. o && p.passes a && q.passes b && r.passes c && s.passes d && t.passes e) _ (omega arith) refl)

pub five_read-is : {A B C D E F : Type 0} (p : Part A) (q : Part B) (r : Part C) (s : Part D) (t : Part E) (make : A → B → C → D → E → F) (u : Unread)
    → result_ok (five_read p q r s t make u)
    ≡ choose (are_five p q r s t u.words)
    (make (p.value (word_at u.words 0)) (q.value (word_at u.words 1)) (r.value (word_at u.words 2)) (s.value (word_at u.words 3)) (t.value (word_at u.words 4)))
five_read-is p q r s t make u = five_parts p q r s t make u.column u.words

-- What was read of the next word is what it stands for, if it passes.
pub accepted : {A : Type 0} (passes : List ℕ → Bool) (value : List ℕ → A) (column : ℕ) (ws : List (List ℕ)) (w : List ℕ) (read : Option A)
    → first_of_list ws ≡ Some w → read ≡ choose (passes w) (value w) → ok_or read column ≡ next_as passes value (record { column = column; words = ws })
accepted passes value column [] w read first of_word = absurd cc
accepted passes value column (x ∷ ws) w read first of_word =
    let same : w ≡ x = cc in
    ap (λ o. ok_or o column) of_word ∙ ap (λ v. ok_or (choose (passes v) (value v)) column) same
    ∙ elim (passes x) as (λ t. ok_or (choose t (value x)) column ≡ (if t then Ok (value x) else Err column)) [ true ↦ refl | false ↦ refl ]
