-- Laws of the rules: what it means that all hold, and each test as a fact.
use Rattle.sl_sector.specs.FieldBytes.{ReadsField, flag}
use Rattle.sl_sector.specs.SectorLayouts.{under_rules}
use Rattle.sl_sector.specs.declared.sector.Bad.TheVariants.{BadField}
use Rattle.sl_sector.specs.declared.sector.Bad.{Bad}
use Rattle.sl_words.specs.Bounds.{is_number, record_numbers}
use Rattle.sl_words.specs.Results.{ensure, ◌>>=◌}
use Rattle.sl_words.specs.Words.{choose, same_truth}
use Rattle.std.proofs.Common.{Bool, Err, List, Ok, Option, Result, [], ap, arith, drop, eqb, false, get_or, inl, inr, length, refl, subst, sym, take, true, ℕ, ◌+◌, ◌<◌, ◌≡◌, ◌≤◌, ◌∙◌, ◌∷◌, ◌||◌, ◌^◌, ◌++◌}
use Rattle.std.proofs.lemmas.List.{append-nil, drop_all, drop_more, take-append-drop}
use Rattle.std.proofs.lemmas.Bool.{cases_Bool, eqb-false, eqb-true, ltb-true}
use Rattle.std.proofs.lemmas.Bool.Decides.{nat_tests}
use Rattle.std.specs.Int.{is_in_range}
use Rattle.std.specs.Option.{ok_or}
use Rattle.std.specs.Prelude.{not, ◌↔◌}
use Rattle.std.specs.Result.{IsErrAnd}

-- Each rule holds.
abbrev pub Hold : List (ℕ × Bool) → Type 0
Hold [] = Unit {0}
Hold (rule ∷ rules) = (rule.1 ≡ true) × Hold rules

-- One rule and those after it.
pub ensured : {A : Type 0} (ok : Bool) (e : Bad) (next : Result A Bad) (b : A) → (ensure ok e >>= λ _. next) ≡ Ok b → (ok ≡ true) × (next ≡ Ok b)
ensured true e next b h = (refl, h)
ensured false e next b h = absurd cc

-- Where a value came out, each rule held, and it is that value.
pub rules_hold : {A : Type 0} (rules : List (ℕ × Bool)) (a b : A) → under_rules rules a ≡ Ok b → Hold rules × (a ≡ b)
rules_hold [] a b h = (tt, cc)
rules_hold (rule ∷ rules) a b h =
    let p = ensured rule.1 (BadField rule.0) (under_rules rules a) b h in
    let q = rules_hold rules a b p.1 in
    ((p.0, q.0), q.1)

-- Where each rule holds, the value comes out.
pub under_held_rules : {A : Type 0} (rules : List (ℕ × Bool)) (a : A) → Hold rules → under_rules rules a ≡ Ok a
under_held_rules [] a h = refl
under_held_rules (rule ∷ rules) a h = rw (h.0, under_held_rules rules a h.1) refl

-- Rules behind others: all of both hold.
pub hold_parts : (xs ys : List (ℕ × Bool)) → Hold (xs ++ ys) → Hold xs × Hold ys
hold_parts [] ys h = (tt, h)
hold_parts (x ∷ xs) ys h = let p = hold_parts xs ys h.1 in ((h.0, p.0), p.1)

pub hold_behind : (xs ys : List (ℕ × Bool)) → Hold xs → Hold ys → Hold (xs ++ ys)
hold_behind [] ys h i = i
hold_behind (x ∷ xs) ys h i = (h.0, hold_behind xs ys h.1 i)

-- What comes first comes out first.
pub under_rules_behind : {A B : Type 0} (xs ys : List (ℕ × Bool)) (a : A) (b : B)
    → under_rules (xs ++ ys) b ≡ (under_rules xs a >>= λ _. under_rules ys b)
under_rules_behind [] ys a b = refl
under_rules_behind (x ∷ xs) ys a b = by x.1 (under_rules_behind xs ys a b)
  where
    by : (ok : Bool) → under_rules (xs ++ ys) b ≡ (under_rules xs a >>= λ _. under_rules ys b)
        → (ensure ok (BadField x.0) >>= λ _. under_rules (xs ++ ys) b) ≡ ((ensure ok (BadField x.0) >>= λ _. under_rules xs a) >>= λ _. under_rules ys b)
    by true h = h
    by false h = refl

-- ---- rules that are tested one after another

-- One more rule holds.
pub rules_go_on : (rules : List (ℕ × Bool)) (i : ℕ) (d : ℕ × Bool) → i < length rules → (get_or rules i d).1 ≡ true
    → under_rules rules (tt {0}) ≡ under_rules (drop i rules) (tt {0}) → under_rules rules (tt {0}) ≡ under_rules (drop (i + 1) rules) (tt {0})
rules_go_on rules i d inside holds so_far = so_far ∙ ap (λ rest. under_rules rest (tt {0})) (drop_more rules i d inside) ∙ rw holds refl

-- The next one is broken.
pub rules_stop : (rules : List (ℕ × Bool)) (i : ℕ) (d : ℕ × Bool) → i < length rules → (get_or rules i d).1 ≡ false
    → under_rules rules (tt {0}) ≡ under_rules (drop i rules) (tt {0}) → under_rules rules (tt {0}) ≡ Err (BadField (get_or rules i d).0)
rules_stop rules i d inside broken so_far = so_far ∙ ap (λ rest. under_rules rest (tt {0})) (drop_more rules i d inside) ∙ rw broken refl

-- None is left.
pub rules_end : (rules : List (ℕ × Bool)) (i : ℕ) → length rules ≤ i → under_rules rules (tt {0}) ≡ under_rules (drop i rules) (tt {0}) → under_rules rules (tt {0}) ≡ Ok (tt {0})
rules_end rules i end so_far = so_far ∙ ap (λ rest. under_rules rest (tt {0})) (drop_all i rules end)

-- A value under rules of which it is known whether they hold.
pub known_rules : {A : Type 0} (rules : List (ℕ × Bool)) (a : A) → under_rules rules a ≡ (under_rules rules (tt {0}) >>= λ _. Ok a)
known_rules rules a = ap (λ all. under_rules all a) (sym (append-nil rules)) ∙ under_rules_behind rules [] (tt {0}) a

pub kept_rules : {A : Type 0} (rules : List (ℕ × Bool)) (a : A) → under_rules rules (tt {0}) ≡ Ok (tt {0}) → under_rules rules a ≡ Ok a
kept_rules rules a known = rw (known_rules rules a, known) refl

pub broken_rules : {A : Type 0} (rules : List (ℕ × Bool)) (a : A) (bad : Bad) → under_rules rules (tt {0}) ≡ Err bad → under_rules rules a ≡ Err bad
broken_rules rules a bad known = rw (known_rules rules a, known) refl

-- Of which the first n are known.
pub broken_front : {A : Type 0} (n : ℕ) (rules : List (ℕ × Bool)) (a : A) (bad : Bad) → under_rules (take n rules) (tt {0}) ≡ Err bad → under_rules rules a ≡ Err bad
broken_front n rules a bad known =
    ap (λ all. under_rules all a) (sym (take-append-drop n rules)) ∙ under_rules_behind (take n rules) (drop n rules) (tt {0}) a
    ∙ ap (λ so_far. so_far >>= λ _. under_rules (drop n rules) a) known

pub kept_front : {A : Type 0} (n : ℕ) (rules : List (ℕ × Bool)) (a : A) → under_rules (take n rules) (tt {0}) ≡ Ok (tt {0}) → under_rules rules a ≡ under_rules (drop n rules) a
kept_front n rules a known =
    ap (λ all. under_rules all a) (sym (take-append-drop n rules)) ∙ under_rules_behind (take n rules) (drop n rules) (tt {0}) a
    ∙ ap (λ so_far. so_far >>= λ _. under_rules (drop n rules) a) known

-- A refusal that is handed on.
pub handed_on : {A : Type 0} (out : Result A Bad) (bad : Bad) → IsErrAnd out (λ x. x ≡ bad) → out ≡ Err bad
handed_on (Ok a) bad is = absurd is
handed_on (Err x) bad is = ap (λ e. Err e) is

-- What was chosen by a rule and is refused by its field's offset where the rule is broken.
pub chosen_read : {A : Type 0} (at : ℕ) (holds : Bool) (value : A) (o : Option A) (r : Result A Bad) → o ≡ choose holds value → r ≡ ok_or o (BadField at)
    → ReadsField at holds value r
chosen_read at true value o r chosen read = subst (ReadsField at true value) (sym (read ∙ ap (λ x. ok_or x (BadField at)) chosen)) (refl, refl)
chosen_read at false value o r chosen read = subst (ReadsField at false value) (sym (read ∙ ap (λ x. ok_or x (BadField at)) chosen)) (refl, refl)

-- ---- each test as a fact

-- Within its bounds.
pub in_range : (low high n : ℕ) → is_in_range low high n ≡ true → (low ≤ n) × (n ≤ high)
in_range low high n h = grind (arith, nat_tests)

-- Below 2^63.
pub number : (n : ℕ) → is_number n ≡ true → n < record_numbers
number n h = ltb-true n record_numbers h

-- What is asked where a number is 0.
pub unless_zero : (n : ℕ) (ok : Bool) → (not (eqb n 0) || ok) ≡ true → n ≡ 0 → ok ≡ true
unless_zero n ok h e = grind (arith, nat_tests)

-- Two numbers that are 0 together.
pub both_zero : (m n : ℕ) → same_truth (eqb m 0) (eqb n 0) ≡ true → (m ≡ 0 ↔ n ≡ 0)
both_zero m n h = grind (arith, nat_tests)

-- The test of the first.
pub in_range_test : (low high n : ℕ) → low ≤ n → n ≤ high → is_in_range low high n ≡ true
in_range_test low high n a b = grind (arith, nat_tests)

-- The test of the third.
pub unless_zero_test : (n : ℕ) (ok : Bool) → (n ≡ 0 → ok ≡ true) → (not (eqb n 0) || ok) ≡ true
unless_zero_test n ok h = grind (arith, nat_tests)

-- The test of the last.
pub both_zero_test : (m n : ℕ) → (m ≡ 0 ↔ n ≡ 0) → same_truth (eqb m 0) (eqb n 0) ≡ true
both_zero_test m n h = grind (arith, nat_tests)

-- ---- numbers that a field has room for

-- A host, and each number below, has room in four bytes.
pub fits_32 : (n : ℕ) → n ≤ 2000 → n < 2 ^ 32
fits_32 n h = omega arith

-- A number below 2^63 has room in eight.
pub fits_64 : (n : ℕ) → n < record_numbers → n < 2 ^ 64
fits_64 n h = omega arith

-- What isn't 0 is above it.
pub positive : (n : ℕ) → (n ≡ 0 → ⊥) → 0 < n
positive n h = grind arith

-- ---- a truth as a number

-- 0 and 1 are truths.
pub flag_of_code : (code : ℕ) → code ≤ 1 → flag (eqb code 1) ≡ code
flag_of_code code h =
    elim (cases_Bool (eqb code 1)) [
      | inl e ↦ rw (e, eqb-true code 1 e) refl
      | inr e ↦ rw e (omega (arith, eqb-false code 1 e))
    ]

-- They have room in four bytes.
pub flag_fits : (b : Bool) → flag b < 2 ^ 32
flag_fits true = omega arith
flag_fits false = omega arith

-- They are at most 1.
pub flag_below : (b : Bool) → flag b ≤ 1
flag_below true = omega arith
flag_below false = omega arith

-- A truth is told from its number.
pub code_of_flag : (b : Bool) → eqb (flag b) 1 ≡ b
code_of_flag true = refl
code_of_flag false = refl

-- 0 is false.
pub flag_zero : (code : ℕ) → code ≡ 0 → eqb code 1 ≡ false
flag_zero code e = rw e refl

-- Both are as zero: the truth, and the number that goes with it.
pub false_with_zero : (code n : ℕ) → code ≤ 1 → same_truth (eqb code 0) (eqb n 0) ≡ true → (eqb code 1 ≡ false ↔ n ≡ 0)
false_with_zero code n le h = grind (arith, nat_tests)

-- The test of that.
pub false_with_zero_test : (b : Bool) (n : ℕ) → (b ≡ false ↔ n ≡ 0) → same_truth (eqb (flag b) 0) (eqb n 0) ≡ true
false_with_zero_test true n h = grind (arith, nat_tests)
false_with_zero_test false n h = grind (arith, nat_tests)

-- False is 0.
pub flag_is_zero : (b : Bool) → b ≡ false → eqb (flag b) 0 ≡ true
flag_is_zero b e = rw e refl
