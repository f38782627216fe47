-- When uses conflict: one more is one test more, and where they stand is no matter.
use Rattle.sl_words.proofs.Numbers.{number_itself, number_turned}
use Rattle.sl_run.specs.Conflicts.{Holding, conflicts, has_conflict, holding, is_one_user}
use Rattle.sl_trace.specs.Traces.{is_shared, same_place}
use Rattle.sl_world_law.specs.ToldEvents.{ConflictsAreCounted, ConflictsOfParts, OneMoreConflict, clashes_after}
use Rattle.std.proofs.Common.{append_assoc, ap, ap₂, refl, sym, ◌∙◌}
use Rattle.std.proofs.lemmas.List.Folds.{list_any-append}
use Rattle.std.proofs.lemmas.List.{map-append}
use Rattle.std.proofs.lemmas.Slice.Eq.{bytes_eq-Decides}
use Rattle.std.specs.List.{list_any}
use Rattle.std.specs.Prelude.{Bool, List, bytes_eq, false, if◌then◌else◌, map, not, true, [], ℕ, ◌&&◌, ◌++◌, ◌+◌, ◌==◌, ◌∷◌, ◌≡◌, ◌||◌}

-- ---- truth

same_truth : (a b : Bool) → (a ≡ true → b ≡ true) → (b ≡ true → a ≡ true) → a ≡ b
same_truth true b there back = sym (there refl)
same_truth false true there back = back refl
same_truth false false there back = refl

and_turned : (a b : Bool) → (a && b) ≡ (b && a)
and_turned true true = refl
and_turned true false = refl
and_turned false true = refl
and_turned false false = refl

number_same : (a b : ℕ) → (a == b) ≡ (b == a)
number_same a b = same_truth (a == b) (b == a) (number_turned a b) (number_turned b a)

bytes_same : (xs ys : List ℕ) → bytes_eq xs ys ≡ bytes_eq ys xs
bytes_same xs ys =
    same_truth (bytes_eq xs ys) (bytes_eq ys xs) (λ h. (bytes_eq-Decides ys xs).1 (sym ((bytes_eq-Decides xs ys).0 h))) (λ h. (bytes_eq-Decides xs ys).1 (sym ((bytes_eq-Decides ys xs).0 h)))

-- ---- two uses

last_turned : (p a b : Bool) → (p || a || b) ≡ (p || b || a)
last_turned true a b = refl
last_turned false true true = refl
last_turned false true false = refl
last_turned false false true = refl
last_turned false false false = refl

user_turned : (a b : Holding) → is_one_user a b ≡ is_one_user b a
user_turned a b =
    ap₂ (λ n p. n && (p || a.lingers || b.lingers)) (number_same a.machine b.machine) (number_same a.held.process b.held.process)
    ∙ ap (λ p. b.machine == a.machine && p) (last_turned (b.held.process == a.held.process) a.lingers b.lingers)

-- The first conflicts with the second where the second does with the first.
conflicts_turned : (a b : Holding) → conflicts a b ≡ conflicts b a
conflicts_turned a b =
    ap₂ (λ p q. p && not (is_shared a.held.mode && is_shared b.held.mode) && not q)
    (ap₂ (λ n m. n && m) (number_same a.held.offset b.held.offset) (bytes_same a.held.path b.held.path)) (user_turned a b)
    ∙ ap (λ s. same_place b.held.path b.held.offset a.held.path a.held.offset && not s && not (is_one_user b a)) (and_turned (is_shared a.held.mode) (is_shared b.held.mode))

none_false : (a : Bool) → (a && false) ≡ false
none_false true = refl
none_false false = refl

-- None conflicts with itself.
not_itself : (h : Holding) → conflicts h h ≡ false
not_itself h =
    ap₂ (λ n p. same_place h.held.path h.held.offset h.held.path h.held.offset && not (is_shared h.held.mode && is_shared h.held.mode) && not (n && (p || h.lingers || h.lingers)))
    (number_itself h.machine) (number_itself h.held.process)
    ∙ none_false (same_place h.held.path h.held.offset h.held.path h.held.offset && not (is_shared h.held.mode && is_shared h.held.mode))

-- ---- lists

any_either : {A : Type 0} (p q r : A → Bool) (xs : List A) → ((x : A) → p x ≡ (q x || r x)) → list_any p xs ≡ (list_any q xs || list_any r xs)
any_either p q r [] each = refl
any_either p q r (x ∷ xs) each =
    ap₂ (λ a b. a || b) (each x) (any_either p q r xs each) ∙ four (q x) (r x) (list_any q xs) (list_any r xs)
  where
    four : (a b c d : Bool) → (a || b || (c || d)) ≡ (a || c || (b || d))
    four true b c d = refl
    four false true true d = refl
    four false true false d = refl
    four false false c d = refl

any_same : {A : Type 0} (p q : A → Bool) (xs : List A) → ((x : A) → p x ≡ q x) → list_any p xs ≡ list_any q xs
any_same p q [] each = refl
any_same p q (x ∷ xs) each = ap₂ (λ a b. a || b) (each x) (any_same p q xs each)

or_none : (a : Bool) → (a || false) ≡ a
or_none true = refl
or_none false = refl

or_twice : (a b : Bool) → (a || b || b) ≡ (a || b)
or_twice true b = refl
or_twice false true = refl
or_twice false false = refl

pub one_more_conflict : OneMoreConflict
one_more_conflict hs h =
    list_any-append (λ a. list_any (conflicts a) (hs ++ h ∷ [])) hs (h ∷ [])
    ∙ ap₂ (λ a b. a || b)
    (any_either (λ a. list_any (conflicts a) (hs ++ h ∷ [])) (λ a. list_any (conflicts a) hs) (conflicts h) hs (λ a. with_last a ∙ ap (λ b. list_any (conflicts a) hs || b) (conflicts_turned a h)))
    (or_none (list_any (conflicts h) (hs ++ h ∷ [])) ∙ with_last h ∙ ap (λ b. list_any (conflicts h) hs || b) (not_itself h) ∙ or_none (list_any (conflicts h) hs))
    ∙ or_twice (has_conflict hs) (list_any (conflicts h) hs)
  where
    with_last : (a : Holding) → list_any (conflicts a) (hs ++ h ∷ []) ≡ (list_any (conflicts a) hs || conflicts a h)
    with_last a = list_any-append (conflicts a) hs (h ∷ []) ∙ ap (λ b. list_any (conflicts a) hs || b) (or_none (conflicts a h))

pub conflicts_are_counted : ConflictsAreCounted
conflicts_are_counted others m held [] = refl
conflicts_are_counted others m held (g ∷ gs) =
    ap (λ n. (if has_conflict (others ++ map (holding m) (held ++ g ∷ [])) then 1 else 0) + n) (conflicts_are_counted others m (held ++ g ∷ []) gs)
    ∙ ap (λ hs. (if has_conflict hs then 1 else 0) + clashes_after (has_conflict hs) hs m gs) longer
    ∙ ap (λ b. (if b then 1 else 0) + clashes_after b (before ++ holding m g ∷ []) m gs) (one_more_conflict before (holding m g))
  where
    before : List Holding
    before = others ++ map (holding m) held

    longer : others ++ map (holding m) (held ++ g ∷ []) ≡ before ++ holding m g ∷ []
    longer = ap (λ ks. others ++ ks) (map-append (holding m) held (g ∷ [])) ∙ sym (append_assoc others (map (holding m) held) (holding m g ∷ []))

any_swapped : {A : Type 0} (p : A → Bool) (xs ys zs : List A) → list_any p (xs ++ ys ++ zs) ≡ list_any p (xs ++ zs ++ ys)
any_swapped p xs ys zs =
    list_any-append p (xs ++ ys) zs ∙ ap (λ b. b || list_any p zs) (list_any-append p xs ys) ∙ turned (list_any p xs) (list_any p ys) (list_any p zs)
    ∙ sym (list_any-append p (xs ++ zs) ys ∙ ap (λ b. b || list_any p ys) (list_any-append p xs zs))
  where
    turned : (a b c : Bool) → (a || b || c) ≡ (a || c || b)
    turned true b c = refl
    turned false true true = refl
    turned false true false = refl
    turned false false true = refl
    turned false false false = refl

pub conflicts_of_parts : ConflictsOfParts
conflicts_of_parts xs ys zs =
    any_swapped (λ a. list_any (conflicts a) (xs ++ ys ++ zs)) xs ys zs
    ∙ any_same (λ a. list_any (conflicts a) (xs ++ ys ++ zs)) (λ a. list_any (conflicts a) (xs ++ zs ++ ys)) (xs ++ zs ++ ys) (λ a. any_swapped (conflicts a) xs ys zs)
