-- What is read back of a report's lines: of an end's and a grant's all words, of each other that it is neither.
use Rattle.sl_held.specs.HeldLaws.{IsSpelt}
use Rattle.sl_held.specs.HeldRows.{row_of, shape_of}
use Rattle.sl_picture.specs.HeldBars.{Row, after_line, after_lines, told_rows, without}
use Rattle.sl_picture.specs.Said.{number_at, number_in, word_at}
use Rattle.sl_picture.specs.Tells.{mode_of, told_of}
use Rattle.sl_picture.specs.declared.shapes.Shape.{Shape}
use Rattle.sl_text.proofs.FreeLaws.{decimal_free, name_free}
use Rattle.sl_text.proofs.NumberLaws.{is_number_text-decimal, number_of-decimal}
use Rattle.sl_text.proofs.PieceLaws.{pieces-front, pieces-join_with_byte}
use Rattle.sl_text.specs.Forms.{is_free_of, pieces, words_of}
use Rattle.sl_text.specs.Names.{is_name}
use Rattle.sl_text.specs.Numbers.{number_of}
use Rattle.sl_trace.specs.EffectTexts.{end_words, grant_words, machine_line, mode_word, of_resource}
use Rattle.sl_trace.specs.declared.effects.End.{End}
use Rattle.sl_trace.specs.declared.effects.Grant.{Grant}
use Rattle.sl_trace.specs.declared.effects.Mode.TheVariants.{Exclusive, Shared}
use Rattle.sl_trace.specs.declared.effects.Mode.{Mode}
use Rattle.sl_words.proofs.CaseLaws.{is_false}
use Rattle.sl_words.specs.Words.{first_of_list}
use Rattle.std.proofs.Common.{ap, arith, refl, sym, ◌∙◌}
use Rattle.std.proofs.lemmas.Bool.{and_from, eq-eqb, eqb-true}
use Rattle.std.proofs.lemmas.List.Folds.{list_all-append}
use Rattle.std.specs.List.{join_with_byte, list_all}
use Rattle.std.specs.Option.{option_map_or}
use Rattle.std.specs.Prelude.{Bool, List, codes, decimal, drop, if◌then◌else◌, map, min, not, true, [], ℕ, ◌++◌, ◌-◌, ◌<◌, ◌==◌, ◌^◌, ◌∷◌, ◌≡◌}

-- ---- words of a line

abbrev nth : List (List ℕ) → ℕ → List ℕ
nth ws k = option_map_or (λ w. w) (first_of_list (drop k ws)) []

number_read : (n : ℕ) → n < 2 ^ 64 → number_in (decimal n) ≡ n
number_read n few =
    ap (λ (t : Bool). if t then min (number_of (decimal n)) (2 ^ 64 - 1) else 0) (is_number_text-decimal n few)
    ∙ ap (λ k. min k (2 ^ 64 - 1)) (number_of-decimal n few) ∙ least n few
  where
    least : (n : ℕ) → n < 2 ^ 64 → min n (2 ^ 64 - 1) ≡ n
    least n few = omega (arith, few)

-- What a line of a machine has in front.
record Begins (n : ℕ) (verb : List ℕ) (line : List ℕ) : Type 0 where
  more : List (List ℕ)
  words : words_of line ≡ decimal n ∷ verb ∷ more

one_free : (verb : List ℕ) → is_free_of 32 verb ≡ true → list_all (is_free_of 32) (verb ∷ []) ≡ true
one_free verb free = and_from (is_free_of 32 verb) true free refl

begins : (n : ℕ) (verb : List ℕ) (rest : List (List ℕ)) → n < 2 ^ 64 → is_free_of 32 verb ≡ true → Begins n verb (machine_line n (verb ∷ rest))
begins n verb [] few free =
    record {
      more = [];
      words = pieces-front 32 (decimal n) verb (decimal_free 32 n refl few) ∙ ap (λ (ws : List (List ℕ)). decimal n ∷ ws) (pieces-join_with_byte 32 (verb ∷ []) (one_free verb free) one);
    }
  where
    one : 0 < 1
    one = omega arith
begins n verb (r ∷ rest) few free =
    record {
      more = pieces 32 (join_with_byte 32 (r ∷ rest));
      words = pieces-front 32 (decimal n) (join_with_byte 32 (verb ∷ r ∷ rest)) (decimal_free 32 n refl few)
          ∙ ap (λ (ws : List (List ℕ)). decimal n ∷ ws) (pieces-front 32 verb (join_with_byte 32 (r ∷ rest)) free);
    }

first_number : (n : ℕ) (verb line : List ℕ) → n < 2 ^ 64 → Begins n verb line → number_at line 0 ≡ n
first_number n verb line few b = ap (λ (ws : List (List ℕ)). number_in (nth ws 0)) b.words ∙ number_read n few

second_word : (n : ℕ) (verb line : List ℕ) → Begins n verb line → word_at line 1 ≡ verb
second_word n verb line b = ap (λ (ws : List (List ℕ)). nth ws 1) b.words

-- ---- lines of other machines, and lines that tell of no holding

-- Words of a line that tells of no holding.
pub record IsOther (ws : List (List ℕ)) : Type 0 where
  pub verb : List ℕ
  pub rest : List (List ℕ)
  pub words : ws ≡ verb ∷ rest
  pub free : is_free_of 32 verb ≡ true
  pub quiet : (line : List ℕ) (rows : List Row) → told_rows line rows (told_of verb) ≡ rows

same_machine : (n : ℕ) (rows others : List Row) (k : ℕ) → k ≡ n → (if k == n then others else rows) ≡ others
same_machine n rows others k is = ap (λ (t : Bool). if t then others else rows) (eq-eqb k n is)

another_machine : (m : ℕ) (rows others : List Row) (k : ℕ) → (k ≡ m → ⊥) → (if k == m then others else rows) ≡ rows
another_machine m rows others k other = ap (λ (t : Bool). if t then others else rows) (is_false (k == m) (λ t. other (eqb-true k m t)))

other_line : (n : ℕ) (ws : List (List ℕ)) (rows : List Row) → n < 2 ^ 64 → IsOther ws → after_line n rows (machine_line n ws) ≡ rows
other_line n ws rows few o =
    ap (λ (us : List (List ℕ)). after_line n rows (machine_line n us)) o.words
    ∙ same_machine n rows (told_rows line rows (told_of (word_at line 1))) (number_at line 0) (first_number n o.verb line few b)
    ∙ ap (λ (w : List ℕ). told_rows line rows (told_of w)) (second_word n o.verb line b) ∙ o.quiet line rows
  where
    line : List ℕ
    line = machine_line n (o.verb ∷ o.rest)

    b : Begins n o.verb line
    b = begins n o.verb o.rest few o.free

pub other_lines : {A : Type 0} (n : ℕ) (words : A → List (List ℕ)) → ((a : A) → IsOther (words a)) → (xs : List A) (rows : List Row) → n < 2 ^ 64
    → after_lines n (map (machine_line n) (map words xs)) rows ≡ rows
other_lines n words others [] rows few = refl
other_lines n words others (x ∷ xs) rows few =
    ap (λ (rs : List Row). after_lines n (map (machine_line n) (map words xs)) rs) (other_line n (words x) rows few (others x)) ∙ other_lines n words others xs rows few

-- A line with a first word and a second one.
pub record HasVerb (ws : List (List ℕ)) : Type 0 where
  pub verb : List ℕ
  pub rest : List (List ℕ)
  pub words : ws ≡ verb ∷ rest
  pub free : is_free_of 32 verb ≡ true

away_line : (n m : ℕ) (ws : List (List ℕ)) (rows : List Row) → n < 2 ^ 64 → (n ≡ m → ⊥) → HasVerb ws → after_line m rows (machine_line n ws) ≡ rows
away_line n m ws rows few other v =
    ap (λ (us : List (List ℕ)). after_line m rows (machine_line n us)) v.words
    ∙ another_machine m rows (told_rows (machine_line n (v.verb ∷ v.rest)) rows (told_of (word_at (machine_line n (v.verb ∷ v.rest)) 1))) (number_at (machine_line n (v.verb ∷ v.rest)) 0)
    (λ is. other (sym (first_number n v.verb (machine_line n (v.verb ∷ v.rest)) few (begins n v.verb v.rest few v.free)) ∙ is))

-- Lines of a machine, each with a word behind its number.
abbrev pub AllVerbs : List (List (List ℕ)) → Type 0
AllVerbs [] = Unit {0}
AllVerbs (ws ∷ wss) = HasVerb ws × AllVerbs wss

pub away_lines : (n m : ℕ) (wss : List (List (List ℕ))) (rows : List Row) → n < 2 ^ 64 → (n ≡ m → ⊥) → AllVerbs wss
    → after_lines m (map (machine_line n) wss) rows ≡ rows
away_lines n m [] rows few other all = refl
away_lines n m (ws ∷ wss) rows few other all =
    ap (λ (rs : List Row). after_lines m (map (machine_line n) wss) rs) (away_line n m ws rows few other all.0) ∙ away_lines n m wss rows few other all.1

-- ---- ends and grants

two_parts_free : (a b : List ℕ) → is_name a ≡ true → is_name b ≡ true → is_free_of 32 (of_resource a b) ≡ true
two_parts_free a b first second =
    list_all-append (λ (c : ℕ). not (c == 32)) a (58 ∷ b) ∙ and_from (is_free_of 32 a) (is_free_of 32 b) (name_free 32 a refl first) (name_free 32 b refl second)

-- Of an end its process and its names are read.
pub end_line_so : (n : ℕ) (e : End) (rows : List Row) → n < 2 ^ 64 → e.process < 2 ^ 64 → is_name e.lockspace ≡ true → is_name e.resource ≡ true
    → after_line n rows (machine_line n (end_words e)) ≡ without e.process (of_resource e.lockspace e.resource) rows
unfolding told_of
end_line_so n e rows few process lockspace resource =
    same_machine n rows (told_rows line rows (told_of (word_at line 1))) (number_at line 0) (ap (λ (ws : List (List ℕ)). number_in (nth ws 0)) words ∙ number_read n few)
    ∙ ap (λ (ws : List (List ℕ)). told_rows line rows (told_of (nth ws 1))) words
    ∙ ap (λ (ws : List (List ℕ)). without (number_in (nth ws 2)) (nth ws 3) rows) words ∙ ap (λ p. without p (of_resource e.lockspace e.resource) rows) (number_read e.process process)
  where
    line : List ℕ
    line = machine_line n (end_words e)

    some : 0 < 4
    some = omega arith

    free : list_all (is_free_of 32) (decimal n ∷ end_words e) ≡ true
    free =
        and_from (is_free_of 32 (decimal n)) _ (decimal_free 32 n refl few)
        (and_from (is_free_of 32 (codes "end")) _ refl
        (and_from (is_free_of 32 (decimal e.process)) _ (decimal_free 32 e.process refl process)
        (and_from (is_free_of 32 (of_resource e.lockspace e.resource)) true (two_parts_free e.lockspace e.resource lockspace resource) refl)))

    words : words_of line ≡ decimal n ∷ end_words e
    words = pieces-join_with_byte 32 (decimal n ∷ end_words e) free some

mode_read : (m : Mode) → mode_of (mode_word m) ≡ shape_of m
mode_read Exclusive = refl
mode_read Shared = refl

mode_free : (m : Mode) → is_free_of 32 (mode_word m) ≡ true
mode_free Exclusive = refl
mode_free Shared = refl

abbrev made : ℕ → List ℕ → Shape → ℕ → Row
made process resource s instance = record { process = process; resource = resource; shape = s; instance = instance }

-- Of a grant all is read.
pub grant_line_so : (n : ℕ) (g : Grant) (rows : List Row) → n < 2 ^ 64 → IsSpelt g → after_line n rows (machine_line n (grant_words g)) ≡ rows ++ row_of g ∷ []
unfolding told_of
grant_line_so n g rows few s =
    same_machine n rows (told_rows line rows (told_of (word_at line 1))) (number_at line 0) (ap (λ (ws : List (List ℕ)). number_in (nth ws 0)) words ∙ number_read n few)
    ∙ ap (λ (ws : List (List ℕ)). told_rows line rows (told_of (nth ws 1))) words
    ∙ ap (λ (ws : List (List ℕ)). rows ++ made (number_in (nth ws 2)) (nth ws 3) (mode_of (nth ws 4)) (number_in (nth ws 5)) ∷ []) words
    ∙ ap (λ p. rows ++ made p (of_resource g.lockspace g.resource) (mode_of (mode_word g.mode)) (number_in (decimal g.lver)) ∷ []) (number_read g.process s.process)
    ∙ ap (λ (x : Shape). rows ++ made g.process (of_resource g.lockspace g.resource) x (number_in (decimal g.lver)) ∷ []) (mode_read g.mode)
    ∙ ap (λ i. rows ++ made g.process (of_resource g.lockspace g.resource) (shape_of g.mode) i ∷ []) (number_read g.lver s.instance)
  where
    line : List ℕ
    line = machine_line n (grant_words g)

    some : 0 < 6
    some = omega arith

    free : list_all (is_free_of 32) (decimal n ∷ grant_words g) ≡ true
    free =
        and_from (is_free_of 32 (decimal n)) _ (decimal_free 32 n refl few)
        (and_from (is_free_of 32 (codes "grant")) _ refl
        (and_from (is_free_of 32 (decimal g.process)) _ (decimal_free 32 g.process refl s.process)
        (and_from (is_free_of 32 (of_resource g.lockspace g.resource)) _ (two_parts_free g.lockspace g.resource s.lockspace s.resource)
        (and_from (is_free_of 32 (mode_word g.mode)) _ (mode_free g.mode)
        (and_from (is_free_of 32 (decimal g.lver)) true (decimal_free 32 g.lver refl s.instance) refl)))))

    words : words_of line ≡ decimal n ∷ grant_words g
    words = pieces-join_with_byte 32 (decimal n ∷ grant_words g) free some
