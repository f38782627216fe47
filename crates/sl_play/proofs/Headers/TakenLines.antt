-- Lines of a header that were taken one behind the other, and what holds of them because it holds of each behind those before it.
use Rattle.sl_words.proofs.Lists.{contains_first, contains_none}
use Rattle.sl_report.specs.ReadLines.{header_refusal, is_in_order, is_room_for}
use Rattle.sl_report.specs.HeaderLines.{HeaderLine, count_of_rank, first_line, geometry_line, header_forms, header_of, rank}
use Rattle.sl_report.specs.HeaderRefusals.{header_tests}
use Rattle.sl_report.specs.Languages.{least_lines, most_lines, whole_language}
use Rattle.sl_report.specs.Schedules.{default_area, default_sector}
use Rattle.sl_run.specs.Worlds.{first_that}
use Rattle.sl_run.specs.declared.event.Refusal.TheVariants.{Syntax}
use Rattle.sl_run.specs.declared.event.Refusal.{Refusal}
use Rattle.sl_play.proofs.Headers.ListFacts.{first_stays, pairs_none}
use Rattle.sl_play.proofs.Headers.WellFormedLines.{IsWellFormed, well_formed}
use Rattle.sl_text.specs.Forms.{made_by}
use Rattle.sl_words.proofs.CaseLaws.{some_value}
use Rattle.sl_words.proofs.ListLaws.{list_all_place}
use Rattle.sl_words.specs.Words.{first_of_list}
use Rattle.std.proofs.Common.{Bool, List, None, Option, Some, [], ap, append_assoc, arith, cond, false, inl, inr, length, length-append, not, refl, subst, suc, sym, true, ℕ, ◌&&◌, ◌++◌, ◌+◌, ◌<◌, ◌∙◌, ◌∷◌, ◌≡◌, ◌≤◌}
use Rattle.std.proofs.lemmas.Bool.{eqb-true, leb-true, ltb-true, ne_eqb}
use Rattle.std.proofs.lemmas.List.Elements.{All-contains, Contains-append_left, Contains-append_right, Contains-get_or, Contains-push_cases, filter_map-append}
use Rattle.std.proofs.lemmas.List.FromFn.{get_or-range_with_len, length-range_with_len}
use Rattle.std.proofs.lemmas.List.Quantifiers.{all_pairs_push}
use Rattle.std.proofs.lemmas.List.Recursion.{is_count_by}
use Rattle.std.proofs.lemmas.List.{append-nil}
use Rattle.std.specs.List.{AllPairs, Contains, cons_option, filter_map, list_all, range_with_len}
use Rattle.std.specs.Prelude.{is_some, nat_le, nat_lt, unwrap_or, ◌==◌, ◌⊎◌}

-- ---- what was taken

-- The size of areas that these lines give.
abbrev pub area_so_far : List HeaderLine → ℕ
area_so_far ls = (first_line geometry_line (default_sector, default_area) ls).1

-- The line is what some words make, and is not refused behind these.
pub record IsLineBehind (ls : List HeaderLine) (l : HeaderLine) : Type 0 where
  pub words : List (List ℕ)
  pub made : made_by (header_forms (area_so_far ls)) words ≡ Some l
  pub taken : header_refusal whole_language default_sector default_area ls l ≡ None

-- Each of the lines is, behind these and those before it.
abbrev pub AreLinesBehind : List HeaderLine → List HeaderLine → Type 0
AreLinesBehind before [] = Unit {0}
AreLinesBehind before (l ∷ ls) = IsLineBehind before l × AreLinesBehind (before ++ l ∷ []) ls

-- The lines of a header, up to some place.
abbrev pub AreHeaderLines : List HeaderLine → Type 0
AreHeaderLines ls = AreLinesBehind [] ls

-- The first test fails, and so do the others.
test_fails : (t : Bool) (why : Refusal) (tests : List (Bool × Refusal)) → first_that ((t, why) ∷ tests) ≡ None → (t ≡ false) × (first_that tests ≡ None)
test_fails true why tests h = absurd cc
test_fails false why tests h = (refl, h)

pub sure : (t : Bool) → not t ≡ false → t ≡ true
sure true h = refl
sure false h = absurd cc

-- No test holds.
abbrev pub EachFails : List (Bool × Refusal) → Type 0
EachFails [] = Unit {0}
EachFails (t ∷ tests) = (t.0 ≡ false) × EachFails tests

each_fails : (tests : List (Bool × Refusal)) → first_that tests ≡ None → EachFails tests
each_fails [] h = tt
each_fails (t ∷ tests) h = let first = test_fails t.0 t.1 tests h in (first.0, each_fails tests first.1)

-- A line that was taken is in order, and no test of its own refuses it.
in_order : (ls : List HeaderLine) (l : HeaderLine) → IsLineBehind ls l → is_in_order whole_language ls (rank l) ≡ true
in_order ls l h =
    sure (is_in_order whole_language ls (rank l))
    (test_fails (not (is_in_order whole_language ls (rank l))) Syntax (header_tests (header_of default_sector default_area ls) l) h.taken).0

pub unrefused : (ls : List HeaderLine) (l : HeaderLine) → IsLineBehind ls l → EachFails (header_tests (header_of default_sector default_area ls) l)
unrefused ls l h =
    each_fails (header_tests (header_of default_sector default_area ls) l)
    (test_fails (not (is_in_order whole_language ls (rank l))) Syntax (header_tests (header_of default_sector default_area ls) l) h.taken).1

-- It is well formed, by the size of areas that the lines before it give.
pub formed : (ls : List HeaderLine) (l : HeaderLine) → IsLineBehind ls l → IsWellFormed (area_so_far ls) l
formed ls l h = well_formed (area_so_far ls) h.words l h.made

-- ---- the order

order_parts : (a b c : Bool) → (a && b && c) ≡ true → (a ≡ true) × (b ≡ true) × (c ≡ true)
order_parts true true true h = (refl, refl, refl)
order_parts true true false h = absurd cc
order_parts true false c h = absurd cc
order_parts false b c h = absurd cc

-- No line before it is of a later rank, each that must stand before it does, and there is room for it.
record IsOrdered (ls : List HeaderLine) (k : ℕ) : Type 0 where
  none_later : list_all (λ l. nat_le (rank l) k) ls ≡ true
  stand : list_all (λ j. nat_le (least_lines j) (count_of_rank ls j)) (range_with_len 0 k) ≡ true
  room : is_room_for whole_language ls k ≡ true

order_of : (ls : List HeaderLine) (k : ℕ) → is_in_order whole_language ls k ≡ true → IsOrdered ls k
order_of ls k h =
    let parts = order_parts (list_all (λ l. nat_le (rank l) k) ls) (list_all (λ j. nat_le (least_lines j) (count_of_rank ls j)) (range_with_len 0 k)) (is_room_for whole_language ls k) h in
    record { none_later = parts.0; stand = parts.1; room = parts.2 }

none_and : (n : ℕ) → 0 + n ≡ n
none_and n = omega arith

-- Before a line as many of each lesser rank stand as must.
pub stand_before : (ls : List HeaderLine) (l : HeaderLine) → IsLineBehind ls l → (j : ℕ) → j < rank l → least_lines j ≤ count_of_rank ls j
stand_before ls l h j before =
    let each = (order_of ls (rank l) (in_order ls l h)).stand in
    let P : ℕ → Bool = λ j. nat_le (least_lines j) (count_of_rank ls j) in
    let there : j < length (range_with_len 0 (rank l)) = subst (λ (n : ℕ). j < n) (sym (length-range_with_len 0 (rank l))) before in
    leb-true (least_lines j) (count_of_rank ls j)
    (subst (λ (n : ℕ). P n ≡ true) (get_or-range_with_len 0 (rank l) j 0 before ∙ none_and j) (list_all_place P (range_with_len 0 (rank l)) j 0 each there))

-- ---- kinds of lines

-- Something is picked of the lines of this rank.
abbrev pub IsRanked : {A : Type 0} → (HeaderLine → Option A) → ℕ → Type 0
IsRanked pick k = (l : HeaderLine) → is_some (pick l) ≡ (rank l == k)

-- How a kind of lines is picked: what is picked of a line is what it is made of.
pub record IsKind {A : Type 0} (line : A → HeaderLine) (pick : HeaderLine → Option A) (k : ℕ) : Type 0 where
  pub back : (l : HeaderLine) (x : A) → pick l ≡ Some x → l ≡ line x
  pub ranked : IsRanked pick k

one_and : (n : ℕ) → suc n ≡ 1 + n
one_and n = omega arith

counted : {A : Type 0} (pick : HeaderLine → Option A) (l : HeaderLine) (ls : List HeaderLine) (o : Option A) (b : Bool) → is_some o ≡ b
    → length (cons_option o (filter_map pick ls)) ≡ cond b (1 + length (filter_map pick ls)) (length (filter_map pick ls))
counted pick l ls None b h = ap (λ c. cond c (1 + length (filter_map pick ls)) (length (filter_map pick ls))) h
counted pick l ls (Some x) b h = one_and (length (filter_map pick ls)) ∙ ap (λ c. cond c (1 + length (filter_map pick ls)) (length (filter_map pick ls))) h

-- As many are picked as lines of the rank stand there.
pub how_many : {A : Type 0} (pick : HeaderLine → Option A) (k : ℕ) → IsRanked pick k → (ls : List HeaderLine)
    → length (filter_map pick ls) ≡ count_of_rank ls k
how_many pick k ranked ls =
    is_count_by (λ ls. length (filter_map pick ls)) (λ l. rank l == k) refl (λ l ls. counted pick l ls (pick l) (rank l == k) (ranked l)) ls

-- One at least stands before a line of a greater rank, if one must.
pub one_before : {A : Type 0} (pick : HeaderLine → Option A) (k : ℕ) → IsRanked pick k → (ls : List HeaderLine) (l : HeaderLine)
    → IsLineBehind ls l → k < rank l → least_lines k ≡ 1 → 1 ≤ length (filter_map pick ls)
one_before pick k ranked ls l h less one =
    let stand = stand_before ls l h k less in omega (arith, stand, one, how_many pick k ranked ls)

-- ---- one more line

-- What holds of no lines and is kept by each line that is taken holds of all.
pub walk : (P : List HeaderLine → Type 0) → ((ls : List HeaderLine) (l : HeaderLine) → P ls → IsLineBehind ls l → P (ls ++ l ∷ [])) → (ls before : List HeaderLine)
    → P before → AreLinesBehind before ls → P (before ++ ls)
walk P step [] before p all = subst P (sym (append-nil before)) p
walk P step (l ∷ ls) before p all = subst P (append_assoc before (l ∷ []) ls) (walk P step ls (before ++ l ∷ []) (step before l p all.0) all.1)

pub one_more : (before ls : List HeaderLine) (l : HeaderLine) → AreLinesBehind before ls → IsLineBehind (before ++ ls) l → AreLinesBehind before (ls ++ l ∷ [])
one_more before [] l all last = (subst (λ (ls : List HeaderLine). IsLineBehind ls l) (append-nil before) last, tt)
one_more before (m ∷ ls) l all last =
    (all.0, one_more (before ++ m ∷ []) ls l all.1 (subst (λ (ls : List HeaderLine). IsLineBehind ls l) (sym (append_assoc before (m ∷ []) ls)) last))

-- What one more line gives to what is picked.
picked_more : {A : Type 0} (pick : HeaderLine → Option A) (ls : List HeaderLine) (l : HeaderLine) (o : Option A) → pick l ≡ o
    → filter_map pick (ls ++ l ∷ []) ≡ filter_map pick ls ++ cons_option o []
picked_more pick ls l o is = filter_map-append pick ls (l ∷ []) ∙ ap (λ p. filter_map pick ls ++ cons_option p []) is

picked_by : {A : Type 0} (pick : HeaderLine → Option A) (ls : List HeaderLine) (l : HeaderLine) (x : A) (o : Option A) → pick l ≡ o
    → Contains (filter_map pick ls ++ cons_option o []) x → Contains (filter_map pick ls) x ⊎ (pick l ≡ Some x)
picked_by {A} pick ls l x None is has = inl (subst (λ (xs : List A). Contains xs x) (append-nil (filter_map pick ls)) has)
picked_by pick ls l x (Some y) is has =
    elim (Contains-push_cases (filter_map pick ls) y x has) [ inl early ↦ inl early | inr last ↦ inr (is ∙ ap (λ z. Some z) last) ]

-- What is picked then was picked before, or of the last line.
picked_cases : {A : Type 0} (pick : HeaderLine → Option A) (ls : List HeaderLine) (l : HeaderLine) (x : A) → Contains (filter_map pick (ls ++ l ∷ [])) x
    → Contains (filter_map pick ls) x ⊎ (pick l ≡ Some x)
picked_cases {A} pick ls l x has =
    picked_by pick ls l x (pick l) refl (subst (λ (xs : List A). Contains xs x) (picked_more pick ls l (pick l) refl) has)

-- ---- lines split in two

back_behind : (before ls more : List HeaderLine) → AreLinesBehind before (ls ++ more) → AreLinesBehind (before ++ ls) more
back_behind before [] more all = subst (λ (ms : List HeaderLine). AreLinesBehind ms more) (sym (append-nil before)) all
back_behind before (l ∷ ls) more all = subst (λ (ms : List HeaderLine). AreLinesBehind ms more) (append_assoc before (l ∷ []) ls) (back_behind (before ++ l ∷ []) ls more all.1)

-- ---- each line that is picked

-- The line stands there behind those before it.
pub record StandsIn (ls : List HeaderLine) (l : HeaderLine) : Type 0 where
  pub before : List HeaderLine
  pub after : List HeaderLine
  pub split : ls ≡ before ++ l ∷ after
  pub behind : IsLineBehind before l

-- .. and those behind it, behind it.
lines_after : (ls : List HeaderLine) (l : HeaderLine) (s : StandsIn ls l) → AreHeaderLines ls → AreLinesBehind (s.before ++ l ∷ []) s.after
lines_after ls l s all = (back_behind [] s.before (l ∷ s.after) (subst AreHeaderLines s.split all)).1

-- What is picked is picked of a line that stands there.
pub record IsPicked {A : Type 0} (pick : HeaderLine → Option A) (ls : List HeaderLine) (x : A) : Type 0 where
  pub line : HeaderLine
  pub gives : pick line ≡ Some x
  pub stands : StandsIn ls line

abbrev EachIsPicked : {A : Type 0} → (HeaderLine → Option A) → List HeaderLine → Type 0
EachIsPicked {A} pick ls = (x : A) → Contains (filter_map pick ls) x → IsPicked pick ls x

stands_more : (ls : List HeaderLine) (l m : HeaderLine) → StandsIn ls m → StandsIn (ls ++ l ∷ []) m
stands_more ls l m s =
    record {
      before = s.before;
      after = s.after ++ l ∷ [];
      split = ap (λ ms. ms ++ l ∷ []) s.split ∙ append_assoc s.before (m ∷ s.after) (l ∷ []);
      behind = s.behind;
    }

each_more : {A : Type 0} (pick : HeaderLine → Option A) (ls : List HeaderLine) (l : HeaderLine) → EachIsPicked pick ls → IsLineBehind ls l
    → EachIsPicked pick (ls ++ l ∷ [])
each_more pick ls l each behind x has =
    elim (picked_cases pick ls l x has) [
      | inl early ↦ let p = each x early in record { line = p.line; gives = p.gives; stands = stands_more ls l p.line p.stands }
      | inr last ↦ record { line = l; gives = last; stands = record { before = ls; after = []; split = refl; behind = behind } }
    ]

pub each_picked : {A : Type 0} (pick : HeaderLine → Option A) (ls : List HeaderLine) → AreHeaderLines ls → (x : A) → Contains (filter_map pick ls) x → IsPicked pick ls x
each_picked pick ls all = walk (EachIsPicked pick) (each_more pick) ls [] (λ x has. absurd (contains_none x has)) all

-- .. and of a kind's line, where it is of a kind.
pub each_stands : {A : Type 0} (line : A → HeaderLine) (pick : HeaderLine → Option A) (k : ℕ) → IsKind line pick k → (ls : List HeaderLine)
    → AreHeaderLines ls → (x : A) → Contains (filter_map pick ls) x → StandsIn ls (line x)
each_stands line pick k kind ls all x has =
    let p = each_picked pick ls all x has in subst (StandsIn ls) (kind.back p.line x p.gives) p.stands

-- What was picked before it is picked of all lines.
pub picked_later : {A : Type 0} (pick : HeaderLine → Option A) (ls : List HeaderLine) (l : HeaderLine) (s : StandsIn ls l) (x : A)
    → Contains (filter_map pick s.before) x → Contains (filter_map pick ls) x
picked_later {A} pick ls l s x has =
    subst (λ (ms : List HeaderLine). Contains (filter_map pick ms) x) (sym s.split)
    (subst (λ (xs : List A). Contains xs x) (sym (filter_map-append pick s.before (l ∷ s.after))) (Contains-append_left (filter_map pick s.before) (filter_map pick (l ∷ s.after)) x has))

-- The first that was picked before it stays the first.
pub same_first : {A : Type 0} (pick : HeaderLine → Option A) (k : ℕ) → IsRanked pick k → (ls : List HeaderLine) (l : HeaderLine)
    → (s : StandsIn ls l) (d : A) → k < rank l → least_lines k ≡ 1 → first_line pick d s.before ≡ first_line pick d ls
same_first {A} pick k ranked ls l s d less one =
    sym (first_stays (filter_map pick s.before) (filter_map pick (l ∷ s.after)) d (one_before pick k ranked s.before l s.behind less one))
    ∙ ap (λ (xs : List A). unwrap_or (first_of_list xs) d) (sym (filter_map-append pick s.before (l ∷ s.after)))
    ∙ ap (λ ms. first_line pick d ms) (sym s.split)

-- ---- no line of a lesser rank follows

nothing_of : {A : Type 0} (o : Option A) → is_some o ≡ false → o ≡ None
nothing_of None h = refl
nothing_of (Some x) h = absurd cc

-- Nothing is picked of a line of a greater rank.
other_rank : {A : Type 0} (pick : HeaderLine → Option A) (k : ℕ) → IsRanked pick k → (l : HeaderLine) → k < rank l → pick l ≡ None
other_rank pick k ranked l less = nothing_of (pick l) (ranked l ∙ ne_eqb (rank l) k (λ same. omega (arith, same, less)))

-- Behind a line stands none of a lesser rank.
ranks_go_on : (before : List HeaderLine) (l m : HeaderLine) → Contains before l → IsLineBehind before m → rank l ≤ rank m
ranks_go_on before l m has behind =
    let P : HeaderLine → Bool = λ n. nat_le (rank n) (rank m) in
    let each = (order_of before (rank m) (in_order before m behind)).none_later in
    leb-true (rank l) (rank m) (All-contains (λ n. P n ≡ true) before l (λ k d inside. list_all_place P before k d each inside) has)

-- So nothing is picked behind it of a lesser rank.
none_behind : {A : Type 0} (pick : HeaderLine → Option A) (k : ℕ) → IsRanked pick k → (before later : List HeaderLine) (l : HeaderLine) → Contains before l → k < rank l
    → AreLinesBehind before later → filter_map pick later ≡ []
none_behind pick k ranked before [] l has less all = refl
none_behind pick k ranked before (m ∷ later) l has less all =
    let on = ranks_go_on before l m has all.0 in
    ap (λ o. cons_option o (filter_map pick later)) (other_rank pick k ranked m (omega (arith, on, less)))
    ∙ none_behind pick k ranked (before ++ m ∷ []) later l (Contains-append_left before (m ∷ []) l has) less all.1

-- What was picked before a line of a greater rank is all that is picked.
pub told_before : {A : Type 0} (pick : HeaderLine → Option A) (k : ℕ) → IsRanked pick k → (ls : List HeaderLine) (l : HeaderLine) (s : StandsIn ls l) → k < rank l
    → AreHeaderLines ls → filter_map pick s.before ≡ filter_map pick ls
told_before {A} pick k ranked ls l s less all =
    let none : filter_map pick s.after ≡ [] = none_behind pick k ranked (s.before ++ l ∷ []) s.after l (Contains-append_right s.before (l ∷ []) l (contains_first l [])) less (lines_after ls l s all) in
    let here : filter_map pick (l ∷ s.after) ≡ [] = ap (λ o. cons_option o (filter_map pick s.after)) (other_rank pick k ranked l less) ∙ none in
    sym (append-nil (filter_map pick s.before)) ∙ ap (λ (xs : List A). filter_map pick s.before ++ xs) (sym here) ∙ sym (filter_map-append pick s.before (l ∷ s.after))
    ∙ ap (λ ms. filter_map pick ms) (sym s.split)

-- ---- pairs of lines that are picked

abbrev PairsOf : {A : Type 0} → (A → A → Type 0) → (HeaderLine → Option A) → List HeaderLine → Type 0
PairsOf R pick ls = AllPairs R (filter_map pick ls)

pairs_by : {A : Type 0} (R : A → A → Type 0) (pick : HeaderLine → Option A) (ls : List HeaderLine) (l : HeaderLine) (o : Option A) → pick l ≡ o
    → ((x y : A) → o ≡ Some y → Contains (filter_map pick ls) x → R x y) → PairsOf R pick ls → AllPairs R (filter_map pick ls ++ cons_option o [])
pairs_by R pick ls l None is goes pairs = subst (AllPairs R) (sym (append-nil (filter_map pick ls))) pairs
pairs_by R pick ls l (Some y) is goes pairs =
    all_pairs_push R (filter_map pick ls) y pairs (λ k d inside. goes _ y refl (Contains-get_or (filter_map pick ls) k d inside))

pairs_more : {A : Type 0} (line : A → HeaderLine) (pick : HeaderLine → Option A) (k : ℕ) → IsKind line pick k → (R : A → A → Type 0)
    → ((ls : List HeaderLine) (x y : A) → IsLineBehind ls (line y) → Contains (filter_map pick ls) x → R x y)
    → (ls : List HeaderLine) (l : HeaderLine) → PairsOf R pick ls → IsLineBehind ls l → PairsOf R pick (ls ++ l ∷ [])
pairs_more line pick k kind R goes ls l pairs behind =
    subst (AllPairs R) (sym (picked_more pick ls l (pick l) refl))
    (pairs_by R pick ls l (pick l) refl
    (λ x y is has. goes ls x y (subst (λ (m : HeaderLine). IsLineBehind ls m) (kind.back l y is) behind) has) pairs)

-- What holds of each with each before it.
pub pairs_stand : {A : Type 0} (line : A → HeaderLine) (pick : HeaderLine → Option A) (k : ℕ) → IsKind line pick k → (R : A → A → Type 0)
    → ((ls : List HeaderLine) (x y : A) → IsLineBehind ls (line y) → Contains (filter_map pick ls) x → R x y)
    → (ls : List HeaderLine) → AreHeaderLines ls → AllPairs R (filter_map pick ls)
pairs_stand line pick k kind R goes ls all = walk (PairsOf R pick) (pairs_more line pick k kind R goes) ls [] (pairs_none R) all

-- ---- lines of two kinds

abbrev Across : {A B : Type 0} → (A → B → Type 0) → (HeaderLine → Option A) → (HeaderLine → Option B) → List HeaderLine → Type 0
Across {A} {B} R p q ls = (x : A) (y : B) → Contains (filter_map p ls) x → Contains (filter_map q ls) y → R x y

-- What holds of each with each of the other kind before it.
pub record GoesAcross {A B : Type 0} (R : A → B → Type 0) (p : HeaderLine → Option A) (q : HeaderLine → Option B) : Type 0 where
  pub first : (ls : List HeaderLine) (l : HeaderLine) (x : A) (y : B) → IsLineBehind ls l → p l ≡ Some x → Contains (filter_map q ls) y → R x y
  pub second : (ls : List HeaderLine) (l : HeaderLine) (x : A) (y : B) → IsLineBehind ls l → q l ≡ Some y → Contains (filter_map p ls) x → R x y
  pub never : (l : HeaderLine) (x : A) (y : B) → p l ≡ Some x → q l ≡ Some y → ⊥

across_more : {A B : Type 0} (R : A → B → Type 0) (p : HeaderLine → Option A) (q : HeaderLine → Option B) → GoesAcross R p q
    → (ls : List HeaderLine) (l : HeaderLine) → Across R p q ls → IsLineBehind ls l → Across R p q (ls ++ l ∷ [])
across_more R p q goes ls l across behind x y has_x has_y =
    elim (picked_cases p ls l x has_x) [
      | inl early_x ↦ elim (picked_cases q ls l y has_y) [
        | inl early_y ↦ across x y early_x early_y
        | inr last_y ↦ goes.second ls l x y behind last_y early_x
      ]
      | inr last_x ↦ elim (picked_cases q ls l y has_y) [
        | inl early_y ↦ goes.first ls l x y behind last_x early_y
        | inr last_y ↦ absurd (goes.never l x y last_x last_y)
      ]
    ]

pub across_stand : {A B : Type 0} (R : A → B → Type 0) (p : HeaderLine → Option A) (q : HeaderLine → Option B) → GoesAcross R p q
    → (ls : List HeaderLine) → AreHeaderLines ls → (x : A) (y : B) → Contains (filter_map p ls) x → Contains (filter_map q ls) y → R x y
across_stand R p q goes ls all =
    walk (Across R p q) (across_more R p q goes) ls [] (λ x y has_x has_y. absurd (contains_none x has_x)) all

-- ---- how many there may be

few_by : {A : Type 0} (pick : HeaderLine → Option A) (ls : List HeaderLine) (n : ℕ) (o : Option A) → length (filter_map pick ls) ≤ n
    → (is_some o ≡ true → length (filter_map pick ls) < n) → length (filter_map pick ls ++ cons_option o []) ≤ n
few_by pick ls n None few room = omega (arith, few, length-append (filter_map pick ls) (cons_option None []))
few_by pick ls n (Some x) few room = let less = room refl in omega (arith, less, length-append (filter_map pick ls) (cons_option (Some x) []))

room_in : (ls : List HeaderLine) (k n : ℕ) (most : Option ℕ) → most ≡ Some n → elim most [ None ↦ true | Some m ↦ nat_lt (count_of_rank ls k) m ] ≡ true → count_of_rank ls k < n
room_in ls k n None is room = absurd cc
room_in ls k n (Some m) is room = let less = ltb-true (count_of_rank ls k) m room in subst (λ (i : ℕ). count_of_rank ls k < i) (some_value m n is) less

room_for : (ls : List HeaderLine) (l : HeaderLine) (k n : ℕ) → IsLineBehind ls l → rank l ≡ k → most_lines k ≡ Some n → count_of_rank ls k < n
room_for ls l k n behind is most =
    let room : is_room_for whole_language ls k ≡ true =
    subst (λ (j : ℕ). is_room_for whole_language ls j ≡ true) is (order_of ls (rank l) (in_order ls l behind)).room in
    room_in ls k n (most_lines k) most room

few_more : {A : Type 0} (line : A → HeaderLine) (pick : HeaderLine → Option A) (k n : ℕ) → IsKind line pick k → most_lines k ≡ Some n
    → (ls : List HeaderLine) (l : HeaderLine) → length (filter_map pick ls) ≤ n → IsLineBehind ls l → length (filter_map pick (ls ++ l ∷ [])) ≤ n
few_more {A} line pick k n kind most ls l few behind =
    subst (λ (xs : List A). length xs ≤ n) (sym (picked_more pick ls l (pick l) refl))
    (few_by pick ls n (pick l) few (λ is.
    let less = room_for ls l k n behind (eqb-true (rank l) k (sym (kind.ranked l) ∙ is)) most in omega (arith, less, how_many pick k kind.ranked ls)))

pub few_stand : {A : Type 0} (line : A → HeaderLine) (pick : HeaderLine → Option A) (k n : ℕ) → IsKind line pick k → most_lines k ≡ Some n
    → (ls : List HeaderLine) → AreHeaderLines ls → length (filter_map pick ls) ≤ n
few_stand line pick k n kind most ls all =
    walk (λ ls. length (filter_map pick ls) ≤ n) (few_more line pick k n kind most) ls [] (omega arith) all
