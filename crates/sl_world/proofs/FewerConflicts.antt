-- Where no two of some uses conflict, no two of fewer do; and a use that lingers conflicts with no more than the holding did.
use Rattle.sl_run.specs.Conflicts.{Holding, conflicts, has_conflict}
use Rattle.sl_trace.specs.Traces.{is_shared, same_place}
use Rattle.sl_words.proofs.CaseLaws.{false_is_true, some_value}
use Rattle.std.proofs.Common.{ap, ap₂, arith, refl, sym, ◌∙◌}
use Rattle.std.proofs.lemmas.Bool.Decides.{nat_tests}
use Rattle.std.proofs.lemmas.List.Elements.{filter-append}
use Rattle.std.proofs.lemmas.List.Folds.{list_any-append}
use Rattle.std.specs.List.{enumerate_from, list_any}
use Rattle.std.specs.Prelude.{Bool, List, Some, cond, false, filter, flat_map, map, not, slice_get, suc, true, zero, [], ℕ, ◌&&◌, ◌++◌, ◌+◌, ◌==◌, ◌∷◌, ◌≡◌, ◌||◌}

-- The use as one of a holding that stands.
abbrev pub as_held : Holding → Holding
as_held h = record h { lingers = false }

-- What holds of a use that lingers holds of the holding too.
pub record Lasts (p : Holding → Bool) : Type 0 where
  pub lasts : (h : Holding) → p h ≡ true → p (as_held h) ≡ true

-- What holds of one of these holds of one of those.
abbrev pub Within : List Holding → List Holding → Type 0
Within xs ys = (p : Holding → Bool) → Lasts p → list_any p xs ≡ true → list_any p ys ≡ true

-- ---- truth

or_true : (b : Bool) → (b || true) ≡ true
or_true true = refl
or_true false = refl

or_more : (a b c d : Bool) → (a ≡ true → b ≡ true) → (c ≡ true → d ≡ true) → (a || c) ≡ true → (b || d) ≡ true
or_more true b c d left right is = ap (λ x. x || d) (left refl)
or_more false b c d left right is = ap (λ x. b || x) (right is) ∙ or_true b

or_both : (a b c : Bool) → (a ≡ true → c ≡ true) → (b ≡ true → c ≡ true) → (a || b) ≡ true → c ≡ true
or_both true b c left right is = left refl
or_both false b c left right is = right is

any_more : (p q : Holding → Bool) (xs : List Holding) → ((x : Holding) → p x ≡ true → q x ≡ true) → list_any p xs ≡ true → list_any q xs ≡ true
any_more p q [] each is = is
any_more p q (x ∷ xs) each is = or_more (p x) (q x) (list_any p xs) (list_any q xs) (each x) (any_more p q xs each) is

-- ---- a holding conflicts with all that what lingers of it does

-- With one of them lingering no more.
first_stands : (place shared machine process a b : Bool) → (place && not shared && not (machine && (process || a || b))) ≡ true
    → (place && not shared && not (machine && (process || false || b))) ≡ true
first_stands place shared machine process false b is = is
first_stands true false false process true b is = refl
first_stands true false true true true b is = absurd (false_is_true is)
first_stands true false true false true b is = absurd (false_is_true is)
first_stands true true machine process true b is = absurd (false_is_true is)
first_stands false shared machine process true b is = absurd (false_is_true is)

second_stands : (place shared machine process a b : Bool) → (place && not shared && not (machine && (process || a || b))) ≡ true
    → (place && not shared && not (machine && (process || a || false))) ≡ true
second_stands place shared machine process a false is = is
second_stands true false false process a true is = refl
second_stands true false true true a true is = absurd (false_is_true is)
second_stands true false true false true true is = absurd (false_is_true is)
second_stands true false true false false true is = absurd (false_is_true is)
second_stands true true machine process a true is = absurd (false_is_true is)
second_stands false shared machine process a true is = absurd (false_is_true is)

held_conflicts : (a b : Holding) → conflicts a b ≡ true → conflicts (as_held a) b ≡ true
held_conflicts a b is =
    first_stands (same_place a.held.path a.held.offset b.held.path b.held.offset) (is_shared a.held.mode && is_shared b.held.mode) (a.machine == b.machine)
    (a.held.process == b.held.process) a.lingers b.lingers is

pub conflicts_last : (a : Holding) → Lasts (conflicts a)
conflicts_last a =
    record {
      lasts = λ b is.
          second_stands (same_place a.held.path a.held.offset b.held.path b.held.offset) (is_shared a.held.mode && is_shared b.held.mode) (a.machine == b.machine)
          (a.held.process == b.held.process) a.lingers b.lingers is;
    }

-- .. with one of some.
pub all_last : (ys : List Holding) → Lasts (λ a. list_any (conflicts a) ys)
all_last ys = record { lasts = λ a is. any_more (conflicts a) (conflicts (as_held a)) ys (held_conflicts a) is }

-- ---- fewer uses

pub conflict_within : (xs ys : List Holding) → Within xs ys → has_conflict ys ≡ false → has_conflict xs ≡ false
conflict_within xs ys fewer none = go (has_conflict xs) refl
  where
    go : (b : Bool) → has_conflict xs ≡ b → b ≡ false
    go false is = refl
    go true is =
        absurd (false_is_true (sym none ∙ fewer (λ a. list_any (conflicts a) ys) (all_last ys)
        (any_more (λ a. list_any (conflicts a) xs) (λ a. list_any (conflicts a) ys) xs (λ a. fewer (conflicts a) (conflicts_last a)) is)))

pub within_same : (xs ys : List Holding) → xs ≡ ys → Within xs ys
within_same xs ys same p l is = sym (ap (list_any p) same) ∙ is

pub within_on : (xs ys zs : List Holding) → Within xs ys → Within ys zs → Within xs zs
within_on xs ys zs first next p l is = next p l (first p l is)

pub within_both : (xs ys zs : List Holding) → Within xs zs → Within ys zs → Within (xs ++ ys) zs
within_both xs ys zs left right p l is = or_both (list_any p xs) (list_any p ys) (list_any p zs) (left p l) (right p l) (sym (list_any-append p xs ys) ∙ is)

pub within_left : (xs ys : List Holding) → Within xs (xs ++ ys)
within_left xs ys p l is = list_any-append p xs ys ∙ ap (λ b. b || list_any p ys) is

pub within_right : (xs ys : List Holding) → Within ys (xs ++ ys)
within_right xs ys p l is = list_any-append p xs ys ∙ ap (λ b. list_any p xs || b) is ∙ or_true (list_any p xs)

pub nothing_within : (hs : List Holding) → Within [] hs
nothing_within hs p l some = absurd (false_is_true some)

-- One more, or none.
taken_on : (b : Bool) (p : Holding → Bool) (x : Holding) (xs ys : List Holding) → (list_any p xs ≡ true → list_any p ys ≡ true) → list_any p (cond b (x ∷ xs) xs) ≡ true
    → (p x || list_any p ys) ≡ true
taken_on true p x xs ys fewer is = or_more (p x) (p x) (list_any p xs) (list_any p ys) (λ e. e) fewer is
taken_on false p x xs ys fewer is = ap (λ b. p x || b) (fewer is) ∙ or_true (p x)

pub within_filter : (f : Holding → Bool) (xs : List Holding) → Within (filter f xs) xs
within_filter f [] p l is = is
within_filter f (x ∷ xs) p l is = taken_on (f x) p x (filter f xs) xs (within_filter f xs p l) is

map_cond : {A : Type 0} (b : Bool) (on : A → Holding) (g : A) (gs : List A) → map on (cond b (g ∷ gs) gs) ≡ cond b (on g ∷ map on gs) (map on gs)
map_cond true on g gs = refl
map_cond false on g gs = refl

pub kept_within : {A : Type 0} (on : A → Holding) (f : A → Bool) (gs : List A) → Within (map on (filter f gs)) (map on gs)
kept_within on f [] p l is = is
kept_within on f (g ∷ gs) p l is =
    taken_on (f g) p (on g) (map on (filter f gs)) (map on gs) (kept_within on f gs p l) (sym (ap (list_any p) (map_cond (f g) on g (filter f gs))) ∙ is)

-- Those that pass one test pass another.
pub fewer_within : {A : Type 0} (on : A → Holding) (f g : A → Bool) (xs : List A) → ((x : A) → f x ≡ true → g x ≡ true) → Within (map on (filter f xs)) (map on (filter g xs))
fewer_within on f g [] more p l is = is
fewer_within on f g (x ∷ xs) more p l is =
    go (fewer_within on f g xs more p l) (f x) refl (sym (ap (list_any p) (map_cond (f x) on x (filter f xs))) ∙ is)
  where
    taken : (b : Bool) → list_any p (map on (filter g xs)) ≡ true → list_any p (cond b (on x ∷ map on (filter g xs)) (map on (filter g xs))) ≡ true
    taken true some = ap (λ b. p (on x) || b) some ∙ or_true (p (on x))
    taken false some = some

    go : (list_any p (map on (filter f xs)) ≡ true → list_any p (map on (filter g xs)) ≡ true) → (b : Bool) → f x ≡ b
        → list_any p (cond b (on x ∷ map on (filter f xs)) (map on (filter f xs))) ≡ true → list_any p (map on (cond (g x) (x ∷ filter g xs) (filter g xs))) ≡ true
    go rest true at some =
        ap (λ b. list_any p (map on (cond b (x ∷ filter g xs) (filter g xs)))) (more x at)
        ∙ or_more (p (on x)) (p (on x)) (list_any p (map on (filter f xs))) (list_any p (map on (filter g xs))) (λ e. e) rest some
    go rest false at some = ap (list_any p) (map_cond (g x) on x (filter g xs)) ∙ taken (g x) (rest some)

-- What lingers is within what was held.
pub held_within : {A : Type 0} (on held : A → Holding) (gs : List A) → ((g : A) → as_held (on g) ≡ held g) → Within (map on gs) (map held gs)
held_within on held [] same p l is = is
held_within on held (g ∷ gs) same p l is =
    or_more (p (on g)) (p (held g)) (list_any p (map on gs)) (list_any p (map held gs)) (λ some. sym (ap p (same g)) ∙ l.lasts (on g) some) (held_within on held gs same p l) is

-- ---- the uses of a machine

-- All of some kind on machines, the first of them with this number.
abbrev pub each_from : {A : Type 0} → (ℕ → A → List Holding) → ℕ → List A → List Holding
each_from on i hs = flat_map (λ p. on p.0 p.1) (enumerate_from i hs)

pub here_within : {A : Type 0} (on : ℕ → A → List Holding) (i j n : ℕ) (hs : List A) (h : A) → n ≡ i + j → slice_get hs j ≡ Some h → Within (on n h) (each_from on i hs)
here_within on i j n [] h is at p l some = absurd cc
here_within on i zero n (x ∷ hs) h is at p l some =
    let same : on n h ≡ on i x = ap₂ (λ k g. on k g) (omega (arith, is)) (sym (some_value x h at)) in
    within_left (on i x) (each_from on (i + 1) hs) p l (sym (ap (list_any p) same) ∙ some)
here_within on i (suc j) n (x ∷ hs) h is at p l some =
    within_right (on i x) (each_from on (i + 1) hs) p l (here_within on (i + 1) j n hs h (omega (arith, is)) at p l some)

-- Those of the machines but machine m.
abbrev pub but_from : {A : Type 0} → (ℕ → A → List Holding) → ℕ → ℕ → List A → List Holding
but_from on i m hs = filter (λ (h : Holding). not (h.machine == m)) (each_from on i hs)

-- Each is of its machine.
pub record IsOfItsMachine {A : Type 0} (on : ℕ → A → List Holding) : Type 0 where
  pub others_stay : (i m : ℕ) (a : A) → (i == m) ≡ false → filter (λ (h : Holding). not (h.machine == m)) (on i a) ≡ on i a
  pub own_go : (i m : ℕ) (a : A) → (i == m) ≡ true → filter (λ (h : Holding). not (h.machine == m)) (on i a) ≡ []

pub mapped_on : {A B : Type 0} (on : ℕ → B → Holding) (f : A → List B) → ((i : ℕ) (b : B) → (on i b).machine ≡ i) → IsOfItsMachine (λ i a. map (on i) (f a))
mapped_on {A} {B} on f its =
    record { others_stay = λ i m a is. stay i m is (f a); own_go = λ i m a is. gone i m is (f a) }
  where
    tested : (i m : ℕ) (b : B) → not ((on i b).machine == m) ≡ not (i == m)
    tested i m b = ap (λ k. not (k == m)) (its i b)

    stay : (i m : ℕ) → (i == m) ≡ false → (bs : List B) → filter (λ (h : Holding). not (h.machine == m)) (map (on i) bs) ≡ map (on i) bs
    stay i m is [] = refl
    stay i m is (b ∷ bs) =
        ap (λ c. cond c (on i b ∷ filter (λ (h : Holding). not (h.machine == m)) (map (on i) bs)) (filter (λ (h : Holding). not (h.machine == m)) (map (on i) bs)))
        (tested i m b ∙ ap (λ c. not c) is)
        ∙ ap (λ hs. on i b ∷ hs) (stay i m is bs)

    gone : (i m : ℕ) → (i == m) ≡ true → (bs : List B) → filter (λ (h : Holding). not (h.machine == m)) (map (on i) bs) ≡ []
    gone i m is [] = refl
    gone i m is (b ∷ bs) =
        ap (λ c. cond c (on i b ∷ filter (λ (h : Holding). not (h.machine == m)) (map (on i) bs)) (filter (λ (h : Holding). not (h.machine == m)) (map (on i) bs)))
        (tested i m b ∙ ap (λ c. not c) is)
        ∙ gone i m is bs

same_number : (i m : ℕ) → (i == m) ≡ true → i ≡ m
same_number i m is = grind (arith, nat_tests, is)

pub but_cons : {A : Type 0} (on : ℕ → A → List Holding) (i m : ℕ) (x : A) (hs : List A)
    → but_from on i m (x ∷ hs) ≡ filter (λ (h : Holding). not (h.machine == m)) (on i x) ++ but_from on (i + 1) m hs
but_cons on i m x hs = filter-append (λ (h : Holding). not (h.machine == m)) (on i x) (each_from on (i + 1) hs)

-- All are within what those of machine m, and the others, are within.
pub all_within : {A : Type 0} (on : ℕ → A → List Holding) → IsOfItsMachine on → (i m : ℕ) (hs : List A) (ys : List Holding)
    → ((j : ℕ) (h : A) → slice_get hs j ≡ Some h → i + j ≡ m → Within (on m h) ys) → Within (but_from on i m hs) ys → Within (each_from on i hs) ys
all_within on its i m [] ys mine rest = rest
all_within on its i m (x ∷ hs) ys mine rest =
    within_both (on i x) (each_from on (i + 1) hs) ys (first (i == m) refl)
    (all_within on its (i + 1) m hs ys (λ j h at is. mine (suc j) h at (omega (arith, is)))
    (λ p l some. rest p l (ap (list_any p) (but_cons on i m x hs)
    ∙ within_right (filter (λ (h : Holding). not (h.machine == m)) (on i x)) (but_from on (i + 1) m hs) p l some)))
  where
    first : (b : Bool) → (i == m) ≡ b → Within (on i x) ys
    first true is p l some =
        let same : i ≡ m = same_number i m is in mine 0 x refl (omega (arith, same)) p l (sym (ap (λ k. list_any p (on k x)) same) ∙ some)
    first false is p l some =
        rest p l (ap (list_any p) (but_cons on i m x hs)
        ∙ within_left (filter (λ (h : Holding). not (h.machine == m)) (on i x)) (but_from on (i + 1) m hs) p l (ap (list_any p) (its.others_stay i m x is) ∙ some))
