-- Ends and grants, as lines and as holdings: what the lines of a step leave is what it leaves held.
use Rattle.sl_held.proofs.LinesRead.{end_line_so, grant_line_so}
use Rattle.sl_held.specs.HeldLaws.{IsSpelt}
use Rattle.sl_held.specs.HeldRows.{row_of}
use Rattle.sl_picture.specs.HeldBars.{Row, after_lines, is_row_of}
use Rattle.sl_text.specs.Names.{is_name}
use Rattle.sl_trace.specs.EffectTexts.{end_words, grant_words, machine_line, of_resource}
use Rattle.sl_trace.specs.Traces.{is_ended_by, same_place}
use Rattle.sl_trace.specs.declared.effects.End.{End}
use Rattle.sl_trace.specs.declared.effects.Grant.{Grant}
use Rattle.sl_words.proofs.Lists.{contains_first, contains_more, filter_both, kept_inside, next_before}
use Rattle.std.proofs.Common.{ap, refl, sym, ◌∙◌}
use Rattle.std.proofs.lemmas.List.{append-nil}
use Rattle.std.specs.Prelude.{Bool, Contains, List, cond, false, filter, map, not, true, [], ℕ, ◌&&◌, ◌++◌, ◌<◌, ◌==◌, ◌^◌, ◌∷◌, ◌≡◌, ◌||◌}

-- Whether this end ends the holding: by its names, as bars have it; and by its place, as a machine has it.
abbrev pub by_name : End → Grant → Bool
by_name x g = is_row_of x.process (of_resource x.lockspace x.resource) (row_of g)

abbrev pub by_place : End → Grant → Bool
by_place x g = x.process == g.process && same_place x.path x.offset g.path g.offset

-- ---- filters

filter_as : {A : Type 0} (p q : A → Bool) (xs : List A) → ((x : A) → Contains xs x → p x ≡ q x) → filter p xs ≡ filter q xs
filter_as p q [] same = refl
filter_as {A} p q (x ∷ xs) same =
    ap (λ (t : Bool). cond t (x ∷ filter p xs) (filter p xs)) (same x (contains_first x xs))
    ∙ ap (λ (ys : List A). cond (q x) (x ∷ ys) ys) (filter_as p q xs (λ y has. same y (contains_more x xs y has)))

filter_map_rows : (p : Row → Bool) (gs : List Grant) → filter p (map row_of gs) ≡ map row_of (filter (λ g. p (row_of g)) gs)
filter_map_rows p [] = refl
filter_map_rows p (g ∷ gs) = ap (λ (rs : List Row). cond (p (row_of g)) (row_of g ∷ rs) rs) (filter_map_rows p gs) ∙ by (p (row_of g)) where
  by : (t : Bool) → cond t (row_of g ∷ map row_of (filter (λ g. p (row_of g)) gs)) (map row_of (filter (λ g. p (row_of g)) gs)) ≡ map row_of (cond t (g ∷ filter (λ g. p (row_of g)) gs) (filter (λ g. p (row_of g)) gs))
  by true = refl
  by false = refl

all_pass : (gs : List Grant) → gs ≡ filter (λ g. not (is_ended_by [] g)) gs
all_pass [] = refl
all_pass (g ∷ gs) = ap (λ (hs : List Grant). g ∷ hs) (all_pass gs)

neither : (a b : Bool) → (not a && not b) ≡ not (a || b)
neither true b = refl
neither false b = refl

-- ---- ends

-- Each of these ends tells the same holdings by its names as by its place; and its words are read back.
pub record TellEnds (ends : List End) (held : List Grant) : Type 0 where
  pub same : (x : End) (g : Grant) → Contains ends x → Contains held g → by_name x g ≡ by_place x g
  pub process : (x : End) → Contains ends x → x.process < 2 ^ 64
  pub lockspace : (x : End) → Contains ends x → is_name x.lockspace ≡ true
  pub resource : (x : End) → Contains ends x → is_name x.resource ≡ true

pub ends_told : (n : ℕ) (ends : List End) (held : List Grant) → n < 2 ^ 64 → TellEnds ends held
    → after_lines n (map (machine_line n) (map end_words ends)) (map row_of held) ≡ map row_of (filter (λ g. not (is_ended_by ends g)) held)
ends_told n [] held few t = ap (map row_of) (all_pass held)
ends_told n (x ∷ ends) held few t =
    let first = contains_first x ends in
    let later : List Grant = filter (λ g. not (by_place x g)) held in
    ap (λ (rs : List Row). after_lines n (map (machine_line n) (map end_words ends)) rs)
    (end_line_so n x (map row_of held) few (t.process x first) (t.lockspace x first) (t.resource x first)
    ∙ filter_map_rows (λ r. not (is_row_of x.process (of_resource x.lockspace x.resource) r)) held
    ∙ ap (map row_of) (filter_as (λ g. not (by_name x g)) (λ g. not (by_place x g)) held (λ g has. ap not (t.same x g first has))))
    ∙ ends_told n ends later few
    (record {
      same = λ y g is has. t.same y g (contains_more x ends y is) (kept_inside (λ g. not (by_place x g)) held g has).0;
      process = λ y is. t.process y (contains_more x ends y is);
      lockspace = λ y is. t.lockspace y (contains_more x ends y is);
      resource = λ y is. t.resource y (contains_more x ends y is);
    })
    ∙ ap (map row_of)
    (sym (filter_both (λ g. not (by_place x g)) (λ g. not (is_ended_by ends g)) held)
    ∙ filter_as (λ g. not (by_place x g) && not (is_ended_by ends g)) (λ g. not (is_ended_by (x ∷ ends) g)) held (λ g has. neither (by_place x g) (is_ended_by ends g)))

-- ---- grants

pub grants_told : (n : ℕ) (gs : List Grant) (rows : List Row) → n < 2 ^ 64 → ((g : Grant) → Contains gs g → IsSpelt g)
    → after_lines n (map (machine_line n) (map grant_words gs)) rows ≡ rows ++ map row_of gs
grants_told n [] rows few spelt = sym (append-nil rows)
grants_told n (g ∷ gs) rows few spelt =
    ap (λ (rs : List Row). after_lines n (map (machine_line n) (map grant_words gs)) rs) (grant_line_so n g rows few (spelt g (contains_first g gs)))
    ∙ grants_told n gs (rows ++ row_of g ∷ []) few (λ k has. spelt k (contains_more g gs k has)) ∙ next_before rows (row_of g) (map row_of gs)
