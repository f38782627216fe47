-- Words of several parts: what is read of the parts one by one is what the whole word stands for.
use Rattle.sl_area.specs.AreaSizes.{Layout}
use Rattle.sl_area.specs.AreaLayout.{is_base}
use Rattle.sl_command.specs.Arguments.{asked_read, beside, front_read, is_request_word, lockspace_read, longer_read, name_part, number_part, path_part, request_of_word, resource_read, resource_with, shared_part, shared_read}
use Rattle.sl_text.proofs.PartLaws.{five_read-is, four_read-is}
use Rattle.sl_text.specs.Forms.{pieces, word_at}
use Rattle.sl_text.specs.Names.{is_name, is_path}
use Rattle.sl_text.specs.Numbers.{is_number_text, is_number_that, number_of}
use Rattle.sl_text.specs.Walks.{Part, Unread, at_end, next_part, past_word, past_words, unread}
use Rattle.sl_trace.specs.CommandForms.{is_lockspace_word, is_resource_front, is_resource_word, is_shared_word, lockspace_of_word, resource_of_word}
use Rattle.sl_trace.specs.declared.command.ResourceArg.{ResourceArg}
use Rattle.sl_words.specs.Results.{◌>>=◌}
use Rattle.sl_words.specs.Words.{choose}
use Rattle.std.proofs.Common.{Bool, List, [], ap, arith, eqb, false, length, refl, true, ℕ, ◌&&◌, ◌-◌, ◌^◌, ◌||◌, ◌≡◌, ◌∙◌, ◌∷◌}
use Rattle.std.proofs.lemmas.Bool.Decides.{nat_tests}
use Rattle.std.specs.Int.{is_in_range}
use Rattle.std.specs.Prelude.{Err, None, Ok, Option, Result, Some, bytes_eq, codes, not}
use Rattle.std.specs.Result.{result_ok}

-- A lockspace's word.
pub lockspace_read-is : (g : Layout) (w : List ℕ) → result_ok (lockspace_read g (unread 58 w)) ≡ choose (is_lockspace_word g w) (lockspace_of_word w)
lockspace_read-is g w =
    four_read-is name_part (number_part (is_in_range 1 g.hosts)) path_part (number_part (is_base g))
    (λ name id path offset. record { name = name; id = id; path = path; offset = offset }) (unread 58 w)

-- Four steps, and what is made of them.
steps_then : {A B C D E F : Type 0} (a : Result A ℕ) (b : Result B ℕ) (c : Result C ℕ) (d : Result D ℕ) (make : A → B → C → D → E) (next : E → Result F ℕ)
    → ((a >>= λ x. b >>= λ y. c >>= λ z. d >>= λ w. Ok (make x y z w)) >>= next) ≡ (a >>= λ x. b >>= λ y. c >>= λ z. d >>= λ w. next (make x y z w))
steps_then (Err i) b c d make next = refl
steps_then (Ok x) (Err i) c d make next = refl
steps_then (Ok x) (Ok y) (Err i) d make next = refl
steps_then (Ok x) (Ok y) (Ok z) (Err i) make next = refl
steps_then (Ok x) (Ok y) (Ok z) (Ok w) make next = refl

-- A resource's parts, and what is read behind them.
front_then : {F : Type 0} (g : Layout) (u : Unread) (next : ResourceArg → Result F ℕ)
    → (front_read g u >>= next)
    ≡ (next_part name_part u >>= λ l. next_part name_part (past_word u) >>= λ n. next_part path_part (past_word (past_word u)) >>= λ p.
    next_part (number_part (is_base g)) (past_word (past_word (past_word u))) >>= λ o. next (resource_with l n p o))
front_then g u next =
    steps_then (next_part name_part u) (next_part name_part (past_word u)) (next_part path_part (past_word (past_word u)))
    (next_part (number_part (is_base g)) (past_word (past_word (past_word u)))) resource_with next

-- The tests of the parts stand in two groups.
groups_of_four : (size a b c d : Bool) → (size && a && b && c && d) ≡ (size && (a && b && c && d))
groups_of_four true a b c d = refl
groups_of_four false a b c d = refl

groups_of_five : (size a b c d e : Bool) → (size && a && b && c && d && e) ≡ (size && (a && b && c && d) && e)
groups_of_five true a b c d e = refl
groups_of_five false a b c d e = refl

-- A resource's word.
pub resource_read-is : (g : Layout) (w : List ℕ) → result_ok (resource_read g (unread 58 w)) ≡ choose (is_resource_word g w) (resource_of_word w)
resource_read-is g w =
    let ps : List (List ℕ) = pieces 58 w in
    ap result_ok (front_then g (unread 58 w) (λ r. at_end (past_words 4 (unread 58 w)) >>= λ _. Ok r))
    ∙ four_read-is name_part name_part path_part (number_part (is_base g)) resource_with (unread 58 w)
    ∙ ap (λ t. choose t (resource_of_word w)) (groups_of_four (eqb (length ps) 4) (is_name (word_at ps 0)) (is_name (word_at ps 1)) (is_path (word_at ps 2)) (is_number_that (is_base g) (word_at ps 3)))

-- A resource's word with one part more.
pub longer_read-is : {A B : Type 0} (g : Layout) (t : Part A) (make : ResourceArg → A → B) (w : List ℕ)
    → result_ok (longer_read g t make (unread 58 w))
    ≡ choose (eqb (length (pieces 58 w)) 5 && is_resource_front g (pieces 58 w) && t.passes (word_at (pieces 58 w) 4)) (make (resource_of_word w) (t.value (word_at (pieces 58 w) 4)))
longer_read-is g t make w =
    let ps : List (List ℕ) = pieces 58 w in
    ap result_ok (front_then g (unread 58 w) (λ r. next_part t (past_words 4 (unread 58 w)) >>= λ a. at_end (past_words 5 (unread 58 w)) >>= λ _. Ok (make r a)))
    ∙ five_read-is name_part name_part path_part (number_part (is_base g)) t (λ l n p o a. make (resource_with l n p o) a) (unread 58 w)
    ∙ ap (λ b. choose b (make (resource_of_word w) (t.value (word_at ps 4))))
    (groups_of_five (eqb (length ps) 5) (is_name (word_at ps 0)) (is_name (word_at ps 1)) (is_path (word_at ps 2)) (is_number_that (is_base g) (word_at ps 3)) (t.passes (word_at ps 4)))

-- Two texts are the same either way round.
same_numbers : (x y : ℕ) → eqb x y ≡ eqb y x
same_numbers x y = grind (arith, nat_tests)

bytes_eq-swap : (xs ys : List ℕ) → bytes_eq xs ys ≡ bytes_eq ys xs
bytes_eq-swap [] [] = refl
bytes_eq-swap [] (y ∷ ys) = refl
bytes_eq-swap (x ∷ xs) [] = refl
bytes_eq-swap (x ∷ xs) (y ∷ ys) = ap (λ t. t && bytes_eq xs ys) (same_numbers x y) ∙ ap (λ t. eqb y x && t) (bytes_eq-swap xs ys)

pub shared_read-is : (g : Layout) (w : List ℕ) → result_ok (shared_read g (unread 58 w)) ≡ choose (is_shared_word g w) (resource_of_word w)
shared_read-is g w =
    let ps : List (List ℕ) = pieces 58 w in
    longer_read-is g shared_part (λ r mark. r) w
    ∙ ap (λ t. choose (eqb (length ps) 5 && is_resource_front g ps && t) (resource_of_word w)) (bytes_eq-swap (codes "SH") (word_at ps 4))

-- An lver that is 0 or may be asked for.
either_lver : (front text : Bool) (n : ℕ) → (front && (text && is_in_range 0 (2 ^ 63 - 1) n)) ≡ ((front && (text && eqb n 0)) || (front && (text && is_in_range 1 (2 ^ 63 - 1) n)))
either_lver true true n = grind (arith, nat_tests)
either_lver true false n = refl
either_lver false text n = refl

-- A request's word.
pub asked_read-is : (g : Layout) (w : List ℕ) → result_ok (asked_read g (unread 58 w)) ≡ choose (is_request_word g w) (request_of_word w)
asked_read-is g w =
    let ps : List (List ℕ) = pieces 58 w in
    longer_read-is g (number_part (is_in_range 0 (2 ^ 63 - 1))) (λ r n. beside r n) w
    ∙ ap (λ b. choose b (request_of_word w)) (either_lver (eqb (length ps) 5 && is_resource_front g ps) (is_number_text (word_at ps 4)) (number_of (word_at ps 4)))

-- What was read of a word, part by part.
pub taken : {A : Type 0} (read : Unread → Result A ℕ) (w : List ℕ) (u : Unread) (r : Result A ℕ) (o : Option A) (whole : Option A)
    → u ≡ unread 58 w → r ≡ read u → o ≡ result_ok r → result_ok (read (unread 58 w)) ≡ whole → o ≡ whole
taken read w u r o whole front reads ok is = ok ∙ ap result_ok (reads ∙ ap read front) ∙ is

-- A resource in the first mode, in the second, and in neither.
pub moded_first : (p q : Bool) (v r : ResourceArg) → choose p v ≡ Some r → Some (beside r false) ≡ choose (p || q) (beside v (not p))
moded_first true q v r h = let same : r ≡ v = cc in ap (λ x. Some (beside x false)) same
moded_first false q v r h = absurd cc

pub moded_second : (p q : Bool) (v r : ResourceArg) → choose p v ≡ None → choose q v ≡ Some r → Some (beside r true) ≡ choose (p || q) (beside v (not p))
moded_second true q v r h k = absurd cc
moded_second false true v r h k = let same : r ≡ v = cc in ap (λ x. Some (beside x true)) same
moded_second false false v r h k = absurd cc

pub moded_neither : (p q : Bool) (v : ResourceArg) → choose p v ≡ None → choose q v ≡ None → None ≡ choose (p || q) (beside v (not p))
moded_neither true q v h k = absurd cc
moded_neither false true v h k = absurd cc
moded_neither false false v h k = refl
