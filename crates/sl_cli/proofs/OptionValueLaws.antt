-- Words of several parts: what is read of the parts one by one is what the whole word stands for.
use Rattle.sl_area.specs.AreaLayout.{is_base}
use Rattle.sl_area.specs.AreaSizes.{Sizes, layout_of}
use Rattle.sl_cli.specs.OptionValues.{is_new_lockspace, is_stretch, is_stretch_size, is_stretch_start, new_lockspace, paired_said, stretch_of}
use Rattle.sl_cli.specs.CommandWords.{is_format}
use Rattle.sl_cli.specs.PartReadings.{five_read, lockspace_read, no_host, number_part, stretch_read, text_part, three_read, times_read, within_part}
use Rattle.sl_cli.specs.TimesWords.{is_times, times_said}
use Rattle.sl_text.proofs.PartLaws.{four_read-is}
use Rattle.sl_text.specs.Forms.{word_at}
use Rattle.sl_text.specs.Names.{is_name, is_path}
use Rattle.sl_text.specs.Walks.{Part, unread}
use Rattle.sl_words.specs.Results.{ensure, ◌>>=◌}
use Rattle.sl_words.specs.Words.{choose}
use Rattle.std.proofs.Common.{Bool, List, [], ap, arith, eqb, false, length, refl, suc, sym, true, ℕ, ◌&&◌, ◌≡◌, ◌∙◌, ◌∷◌}
use Rattle.std.proofs.lemmas.Bool.{ne_eqb}
use Rattle.std.specs.Prelude.{Err, None, Ok, Option, Result, Some, if◌then◌else◌, is_some}
use Rattle.std.specs.Result.{result_ok}

-- A lockspace's word.
pub lockspace_read-is : (most : Sizes) (w : List ℕ) → result_ok (lockspace_read most (unread 58 w)) ≡ choose (is_new_lockspace most w) (new_lockspace w)
lockspace_read-is most w =
    four_read-is (text_part is_name) no_host (text_part is_path) (number_part (is_base (layout_of most)))
    (λ name id path offset. record { name = name; id = 0; path = path; offset = offset }) (unread 58 w)

-- A step behind which nothing is read.
none_behind : {A E : Type 0} (t : Bool) (x : A) (i : ℕ) (next : A → Result E ℕ) → ((y : A) → result_ok (next y) ≡ None) → result_ok ((if t then Ok x else Err i) >>= next) ≡ None
none_behind true x i next h = h x
none_behind false x i next h = refl

-- A part that is left over.
left_over : {E : Type 0} (parts : ℕ) (i : ℕ) (made : E) → result_ok (ensure (eqb (suc parts) 0) i >>= λ _. Ok made) ≡ None
left_over parts i made = ap (λ t. result_ok (ensure t i >>= λ _. Ok made)) (ne_eqb (suc parts) 0 (λ same. omega arith))

-- Three tests, one after another.
three_tests : {A B C D : Type 0} (ta tb tc : Bool) (a : A) (b : B) (c : C) (i j k : ℕ) (make : A → B → C → D)
    → result_ok ((if ta then Ok a else Err i) >>= λ x. (if tb then Ok b else Err j) >>= λ y. (if tc then Ok c else Err k) >>= λ z. Ok (make x y z))
    ≡ choose (ta && tb && tc) (make a b c)
three_tests true true true a b c i j k make = refl
three_tests true true false a b c i j k make = refl
three_tests true false tc a b c i j k make = refl
three_tests false tb tc a b c i j k make = refl

-- Whether the words are these parts and no more.
abbrev are_three : {A B C : Type 0} → Part A → Part B → Part C → List (List ℕ) → Bool
are_three p q r ws = eqb (length ws) 3 && p.passes (word_at ws 0) && q.passes (word_at ws 1) && r.passes (word_at ws 2)

-- What a reader of three parts makes is made of the words where they are these parts.
three_parts : {A B C D : Type 0} (p : Part A) (q : Part B) (r : Part C) (make : A → B → C → D) (column : ℕ) (ws : List (List ℕ))
    → result_ok (three_read p q r make (record { column = column; words = ws }))
    ≡ choose (are_three p q r ws) (make (p.value (word_at ws 0)) (q.value (word_at ws 1)) (r.value (word_at ws 2)))
three_parts p q r make column [] = refl
three_parts p q r make column (a ∷ []) = none_behind (p.passes a) (p.value a) column _ (λ x. refl)
three_parts p q r make column (a ∷ b ∷ []) = none_behind (p.passes a) (p.value a) column _ (λ x. none_behind (q.passes b) (q.value b) _ _ (λ y. refl))
three_parts p q r make column (a ∷ b ∷ c ∷ []) = three_tests (p.passes a) (q.passes b) (r.passes c) (p.value a) (q.value b) (r.value c) _ _ _ make
three_parts p q r make column (a ∷ b ∷ c ∷ d ∷ ws) =
    none_behind (p.passes a) (p.value a) column _ (λ x. none_behind (q.passes b) (q.value b) _ _ (λ y. none_behind (r.passes c) (r.value c) _ _ (λ z. left_over (length ws) _ _)))
    ∙ sym (ap (λ t. choose (t && p.passes a && q.passes b && r.passes c) (make (p.value a) (q.value b) (r.value c))) (ne_eqb (length (a ∷ b ∷ c ∷ d ∷ ws)) 3 (λ same. omega arith)))

-- Five tests, one after another.
five_tests : {A B C D E F : Type 0} (ta tb tc td te : Bool) (a : A) (b : B) (c : C) (d : D) (e : E) (i j k m n : ℕ) (make : A → B → C → D → E → F)
    → result_ok ((if ta then Ok a else Err i) >>= λ x. (if tb then Ok b else Err j) >>= λ y. (if tc then Ok c else Err k) >>= λ z. (if td then Ok d else Err m)
    >>= λ u. (if te then Ok e else Err n) >>= λ v. Ok (make x y z u v))
    ≡ choose (ta && tb && tc && td && te) (make a b c d e)
five_tests true true true true true a b c d e i j k m n make = refl
five_tests true true true true false a b c d e i j k m n make = refl
five_tests true true true false te a b c d e i j k m n make = refl
five_tests true true false td te a b c d e i j k m n make = refl
five_tests true false tc td te a b c d e i j k m n make = refl
five_tests false tb tc td te a b c d e i j k m n make = refl

-- Whether the words are these parts and no more.
abbrev are_five : {A B C D E : Type 0} → Part A → Part B → Part C → Part D → Part E → List (List ℕ) → Bool
are_five p q r s t ws =
    eqb (length ws) 5 && p.passes (word_at ws 0) && q.passes (word_at ws 1) && r.passes (word_at ws 2) && s.passes (word_at ws 3) && t.passes (word_at ws 4)

-- What a reader of five parts makes is made of the words where they are these parts.
five_parts : {A B C D E F : Type 0} (p : Part A) (q : Part B) (r : Part C) (s : Part D) (t : Part E) (make : A → B → C → D → E → F) (column : ℕ) (ws : List (List ℕ))
    → result_ok (five_read p q r s t make (record { column = column; words = ws }))
    ≡ choose (are_five p q r s t ws) (make (p.value (word_at ws 0)) (q.value (word_at ws 1)) (r.value (word_at ws 2)) (s.value (word_at ws 3)) (t.value (word_at ws 4)))
five_parts p q r s t make column [] = refl
five_parts p q r s t make column (a ∷ []) = none_behind (p.passes a) (p.value a) column _ (λ x. refl)
five_parts p q r s t make column (a ∷ b ∷ []) = none_behind (p.passes a) (p.value a) column _ (λ x. none_behind (q.passes b) (q.value b) _ _ (λ y. refl))
five_parts p q r s t make column (a ∷ b ∷ c ∷ []) =
    none_behind (p.passes a) (p.value a) column _ (λ x. none_behind (q.passes b) (q.value b) _ _ (λ y. none_behind (r.passes c) (r.value c) _ _ (λ z. refl)))
five_parts p q r s t make column (a ∷ b ∷ c ∷ d ∷ []) =
    none_behind (p.passes a) (p.value a) column _
    (λ x. none_behind (q.passes b) (q.value b) _ _ (λ y. none_behind (r.passes c) (r.value c) _ _ (λ z. none_behind (s.passes d) (s.value d) _ _ (λ u. refl))))
five_parts p q r s t make column (a ∷ b ∷ c ∷ d ∷ e ∷ []) =
    five_tests (p.passes a) (q.passes b) (r.passes c) (s.passes d) (t.passes e) (p.value a) (q.value b) (r.value c) (s.value d) (t.value e) _ _ _ _ _ make
five_parts p q r s t make column (a ∷ b ∷ c ∷ d ∷ e ∷ f ∷ ws) =
    none_behind (p.passes a) (p.value a) column _
    (λ x. none_behind (q.passes b) (q.value b) _ _
    (λ y. none_behind (r.passes c) (r.value c) _ _ (λ z. none_behind (s.passes d) (s.value d) _ _ (λ u. none_behind (t.passes e) (t.value e) _ _ (λ v. left_over (length ws) _ _)))))
    ∙ sym (ap (λ x. choose (x && p.passes a && q.passes b && r.passes c && s.passes d && t.passes e) (make (p.value a) (q.value b) (r.value c) (s.value d) (t.value e)))
    (ne_eqb (length (a ∷ b ∷ c ∷ d ∷ e ∷ f ∷ ws)) 5 (λ same. omega arith)))

-- A word of times.
pub times_read-is : (w : List ℕ) → result_ok (times_read (unread 58 w)) ≡ choose (is_times w) (times_said w)
times_read-is w =
    five_parts (within_part 1 600000) (within_part 0 600000) (within_part 0 600000) (within_part 0 100) (within_part 0 600000)
    (λ io fire land rho grace. record { timing = record { io = io; fire = fire; land = land; rho = rho }; grace = grace }) (unread 58 w).column (unread 58 w).words

-- A stretch's word.
pub stretch_read-is : (sector : ℕ) (w : List ℕ) → result_ok (stretch_read sector (unread 58 w)) ≡ choose (is_stretch sector w) (stretch_of w)
stretch_read-is sector w =
    three_parts (text_part is_path) (number_part (is_stretch_start sector)) (number_part (is_stretch_size sector))
    (λ path offset size. record { path = path; offset = offset; size = size }) (unread 58 w).column (unread 58 w).words

-- Of two tests the first fails.
pub no_first : {A B : Type 0} (a b : Bool) (x : A) (y : B) → choose a x ≡ None → choose (a && b) y ≡ None
no_first true b x y h = absurd cc
no_first false b x y h = refl

-- Of two tests the second fails.
pub no_second : {A B : Type 0} (a b : Bool) (x : A) (y : B) → choose b x ≡ None → choose (a && b) y ≡ None
no_second true true x y h = absurd cc
no_second true false x y h = refl
no_second false b x y h = refl

-- Of three tests the third fails.
pub no_third : {A B : Type 0} (a b c : Bool) (x : A) (y : B) → choose c x ≡ None → choose (a && (b && c)) y ≡ None
no_third true true true x y h = absurd cc
no_third true true false x y h = refl
no_third true false c x y h = refl
no_third false b c x y h = refl

-- Of four tests the fourth fails.
pub no_fourth : {A B : Type 0} (a b c d : Bool) (x : A) (y : B) → choose d x ≡ None → choose (a && (b && (c && d))) y ≡ None
no_fourth true true true true x y h = absurd cc
no_fourth true true true false x y h = refl
no_fourth true true false d x y h = refl
no_fourth true false c d x y h = refl
no_fourth false b c d x y h = refl

-- The word of a format says pairs where it is 2.
pub format_said : (f : Option (List ℕ)) → paired_said f ≡ choose (is_format f) (is_some f)
format_said None = refl
format_said (Some w) = refl
