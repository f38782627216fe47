-- What the table's changes make of the children that it shows.
use Rattle.sl_host_state.specs.HostStands.{is_there}
use Rattle.sl_tables.proofs.NumbersName.{found_by_number, none_above}
use Rattle.sl_tables.proofs.SlotsStand.{apart, replaced}
use Rattle.sl_tables.specs.Children.{AreChildren, IsLeft, child_of, children_left}
use Rattle.sl_tables.specs.Rising.{AreRising}
use Rattle.sl_tables.specs.declared.children.ChildState.{ChildState}
use Rattle.sl_trace.specs.Traces.{Child, child_after}
use Rattle.sl_trace.specs.declared.input.Input.TheVariants.{Exit, Spawned}
use Rattle.sl_trace.specs.declared.input.Input.{Input}
use Rattle.sl_words.proofs.CaseLaws.{none_some, some_value}
use Rattle.std.proofs.Common.{ap, refl, subst, sym, ◌∙◌}
use Rattle.std.proofs.lemmas.Bool.Decides.{Decides-eqb}
use Rattle.std.specs.List.{AllByRecursion}
use Rattle.std.specs.Map.{lookup, values_of}
use Rattle.std.specs.Prelude.{Bool, List, None, Option, Some, [], cond, false, filter, find, map, nat_eq, not, option_map, true, ℕ, ◌++◌, ◌<◌, ◌==◌, ◌∷◌, ◌≡◌}

-- ---- a look

pub both_maps : {A B C : Type 0} (f : A → B) (g : B → C) (o : Option A) → option_map (λ x. g (f x)) o ≡ option_map g (option_map f o)
both_maps f g None = refl
both_maps f g (Some x) = refl

pub own_numbers : (items : List (ℕ × ChildState)) → AreChildren items → AllByRecursion (λ p. p.1.process ≡ p.0) items
own_numbers [] h = tt
own_numbers (p ∷ items) h = (h.0.0, own_numbers items h.1)

found_there : (n : ℕ) (cs : List ChildState) → option_map child_of (find (λ c. c.process == n) cs) ≡ find (λ k. k.process == n) (map child_of cs)
found_there n [] = refl
found_there n (c ∷ cs) = by (c.process == n) (found_there n cs)
  where
    by : (b : Bool) → option_map child_of (find (λ (x : ChildState). x.process == n) cs) ≡ find (λ (k : Child). k.process == n) (map child_of cs)
        → option_map child_of (cond b (Some c) (find (λ (x : ChildState). x.process == n) cs)) ≡ cond b (Some (child_of c)) (find (λ (k : Child). k.process == n) (map child_of cs))
    by true rest = refl
    by false rest = rest

pub found_child : (n : ℕ) (items : List (ℕ × ChildState)) → AreChildren items
    → option_map child_of (lookup (nat_eq n) items) ≡ find (λ k. k.process == n) (map child_of (values_of items))
found_child n items own = ap (option_map child_of) (found_by_number (λ (c : ChildState). c.process) n items (own_numbers items own)) ∙ found_there n (values_of items)

-- What stands there is there.
found_by : (n : ℕ) (x : ChildState) (q : ℕ × ChildState) (items : List (ℕ × ChildState)) (b : Bool) → nat_eq n q.0 ≡ b → (q.1.process ≡ q.0) × (is_there (child_of q.1) ≡ true)
    → cond b (Some q.1) (lookup (nat_eq n) items) ≡ Some x → (lookup (nat_eq n) items ≡ Some x → (x.process ≡ n) × (is_there (child_of x) ≡ true))
    → (x.process ≡ n) × (is_there (child_of x) ≡ true)
found_by n x q items true is own at rest =
    subst (λ (y : ChildState). (y.process ≡ n) × (is_there (child_of y) ≡ true)) (some_value q.1 x at) (own.0 ∙ sym ((Decides-eqb n q.0).0 is), own.1)
found_by n x q items false is own at rest = rest at

pub stands_there : (n : ℕ) (items : List (ℕ × ChildState)) (x : ChildState) → AreChildren items → lookup (nat_eq n) items ≡ Some x → (x.process ≡ n) × (is_there (child_of x) ≡ true)
stands_there n [] x own at = absurd (none_some x at)
stands_there n (q ∷ items) x own at = found_by n x q items (nat_eq n q.0) refl own.0 at (λ more. stands_there n items x own.1 more)

-- ---- one input is about one child

-- It leaves each child of another number as it is.
abbrev pub IsAbout : ℕ → Input → Type 0
IsAbout n i = (k : Child) → nat_eq n k.process ≡ false → child_after i k ≡ k

pub start_about : (n : ℕ) (ok : Bool) → IsAbout n (Spawned n ok)
start_about n ok k other = rw (child_after, other) refl

pub exit_about : (n : ℕ) → IsAbout n (Exit n)
exit_about n k other = rw (child_after, other) refl

-- What an input leaves of a list with one child in front.
left_by : (i : Input) (k : Child) (ks : List Child) (j : Child) (t : Bool) → child_after i k ≡ j → is_there j ≡ t → children_left i (k ∷ ks) ≡ cond t (j ∷ children_left i ks) (children_left i ks)
left_by i k ks j t same is = ap (λ x. cond (is_there x) (x ∷ children_left i ks) (children_left i ks)) same ∙ ap (λ b. cond b (j ∷ children_left i ks) (children_left i ks)) is

-- One of another number stays.
other_stays : (n : ℕ) (i : Input) (q : ℕ × ChildState) (ks : List Child) → IsAbout n i → nat_eq n q.0 ≡ false → (q.1.process ≡ q.0) × (is_there (child_of q.1) ≡ true)
    → children_left i (child_of q.1 ∷ ks) ≡ child_of q.1 ∷ children_left i ks
other_stays n i q ks about other own = left_by i (child_of q.1) ks (child_of q.1) true (about (child_of q.1) (ap (nat_eq n) own.0 ∙ other)) own.1

-- All of other numbers.
abbrev AreOthers : ℕ → List (ℕ × ChildState) → Type 0
AreOthers n items = AllByRecursion (λ q. nat_eq n q.0 ≡ false) items

others_stay : (n : ℕ) (i : Input) (items : List (ℕ × ChildState)) → IsAbout n i → AreChildren items → AreOthers n items
    → children_left i (map child_of (values_of items)) ≡ map child_of (values_of items)
others_stay n i [] about own others = refl
others_stay n i (q ∷ items) about own others =
    other_stays n i q (map child_of (values_of items)) about others.0 own.0 ∙ ap (λ ks. child_of q.1 ∷ ks) (others_stay n i items about own.1 others.1)

above_are_others : (n : ℕ) (items : List (ℕ × ChildState)) → AllByRecursion (λ q. n < q.0) items → AreOthers n items
above_are_others n [] h = tt
above_are_others n (q ∷ items) h = (apart n q.0 h.0, above_are_others n items h.1)

none_by : (n : ℕ) (q : ℕ × ChildState) (items : List (ℕ × ChildState)) (b : Bool) → nat_eq n q.0 ≡ b → cond b (Some q.1) (lookup (nat_eq n) items) ≡ None
    → (lookup (nat_eq n) items ≡ None → AreOthers n items) → (nat_eq n q.0 ≡ false) × AreOthers n items
none_by n q items true is none rest = absurd (none_some q.1 (sym none))
none_by n q items false is none rest = (is, rest none)

none_is_other : (n : ℕ) (items : List (ℕ × ChildState)) → lookup (nat_eq n) items ≡ None → AreOthers n items
none_is_other n [] h = tt
none_is_other n (q ∷ items) h = none_by n q items (nat_eq n q.0) refl h (λ more. none_is_other n items more)

-- Where none has the number, all stay.
pub none_left : (n : ℕ) (i : Input) (items : List (ℕ × ChildState)) → IsAbout n i → AreChildren items → lookup (nat_eq n) items ≡ None
    → map child_of (values_of items) ≡ children_left i (map child_of (values_of items))
none_left n i items about own none = sym (others_stay n i items about own (none_is_other n items none))

-- ---- another in its place

set_by : (n : ℕ) (i : Input) (x y : ChildState) (q : ℕ × ChildState) (items : List (ℕ × ChildState)) (b : Bool) → nat_eq n q.0 ≡ b → IsAbout n i → AreChildren (q ∷ items)
    → AllByRecursion (λ r. q.0 < r.0) items → IsLeft i x (Some y) → cond b (Some q.1) (lookup (nat_eq n) items) ≡ Some x
    → (lookup (nat_eq n) items ≡ Some x → map child_of (values_of (replaced n y items)) ≡ children_left i (map child_of (values_of items)))
    → child_of (cond b (q.0, y) q).1 ∷ map child_of (values_of (replaced n y items)) ≡ children_left i (child_of q.1 ∷ map child_of (values_of items))
set_by n i x y q items true is about own above left at rest =
    let after = subst (λ m. AllByRecursion (λ r. m < r.0) items) (sym ((Decides-eqb n q.0).0 is)) above in
    let here : child_after i (child_of q.1) ≡ child_of y = ap (λ (z : ChildState). child_after i (child_of z)) (some_value q.1 x at) ∙ sym left.0 in
    ap (λ ks. child_of y ∷ ks) (ap (map child_of) (none_above (λ (c : ChildState). c.process) n y items after) ∙ sym (others_stay n i items about own.1 (above_are_others n items after)))
    ∙ sym (left_by i (child_of q.1) (map child_of (values_of items)) (child_of y) true here left.1)
set_by n i x y q items false is about own above left at rest =
    ap (λ ks. child_of q.1 ∷ ks) (rest at) ∙ sym (other_stays n i q (map child_of (values_of items)) about is own.0)

pub set_left : (n : ℕ) (i : Input) (items : List (ℕ × ChildState)) (x y : ChildState) → IsAbout n i → AreChildren items → AreRising items → lookup (nat_eq n) items ≡ Some x
    → IsLeft i x (Some y) → map child_of (values_of (replaced n y items)) ≡ children_left i (map child_of (values_of items))
set_left n i [] x y about own rising at left = absurd (none_some x at)
set_left n i (q ∷ items) x y about own rising at left =
    set_by n i x y q items (nat_eq n q.0) refl about own rising.0 left at (λ more. set_left n i items x y about own.1 rising.1 more left)

pub set_are : (n : ℕ) (y : ChildState) (items : List (ℕ × ChildState)) → y.process ≡ n → is_there (child_of y) ≡ true → AreChildren items → AreChildren (replaced n y items)
set_are n y [] is there own = tt
set_are n y (q ∷ items) is there own = (by (nat_eq n q.0) refl, set_are n y items is there own.1)
  where
    by : (b : Bool) → nat_eq n q.0 ≡ b → ((cond b (q.0, y) q).1.process ≡ (cond b (q.0, y) q).0) × (is_there (child_of (cond b (q.0, y) q).1) ≡ true)
    by true same = (is ∙ (Decides-eqb n q.0).0 same, there)
    by false same = own.0

-- ---- none in its place

-- All others.
abbrev without : ℕ → List (ℕ × ChildState) → List (ℕ × ChildState)
without n items = filter (λ p. not (nat_eq n p.0)) items

without_by : (n : ℕ) (q : ℕ × ChildState) (items : List (ℕ × ChildState)) (b : Bool) → nat_eq n q.0 ≡ b → without n (q ∷ items) ≡ cond (not b) (q ∷ without n items) (without n items)
without_by n q items b is = ap (λ t. cond (not t) (q ∷ without n items) (without n items)) is

others_left : (n : ℕ) (items : List (ℕ × ChildState)) → AreOthers n items → without n items ≡ items
others_left n [] h = refl
others_left n (q ∷ items) h = without_by n q items false h.0 ∙ ap (λ ps. q ∷ ps) (others_left n items h.1)

take_by : (n : ℕ) (i : Input) (x : ChildState) (q : ℕ × ChildState) (items : List (ℕ × ChildState)) (b : Bool) → nat_eq n q.0 ≡ b → IsAbout n i → AreChildren (q ∷ items)
    → AllByRecursion (λ r. q.0 < r.0) items → IsLeft i x None → cond b (Some q.1) (lookup (nat_eq n) items) ≡ Some x
    → (lookup (nat_eq n) items ≡ Some x → map child_of (values_of (without n items)) ≡ children_left i (map child_of (values_of items)))
    → map child_of (values_of (cond (not b) (q ∷ without n items) (without n items))) ≡ children_left i (child_of q.1 ∷ map child_of (values_of items))
take_by n i x q items true is about own above left at rest =
    let after = above_are_others n items (subst (λ m. AllByRecursion (λ r. m < r.0) items) (sym ((Decides-eqb n q.0).0 is)) above) in
    let gone : is_there (child_after i (child_of q.1)) ≡ false = ap (λ (z : ChildState). is_there (child_after i (child_of z))) (some_value q.1 x at) ∙ left in
    ap (λ ps. map child_of (values_of ps)) (others_left n items after) ∙ sym (others_stay n i items about own.1 after)
    ∙ sym (left_by i (child_of q.1) (map child_of (values_of items)) (child_after i (child_of q.1)) false refl gone)
take_by n i x q items false is about own above left at rest =
    ap (λ ks. child_of q.1 ∷ ks) (rest at) ∙ sym (other_stays n i q (map child_of (values_of items)) about is own.0)

pub take_left : (n : ℕ) (i : Input) (items : List (ℕ × ChildState)) (x : ChildState) → IsAbout n i → AreChildren items → AreRising items → lookup (nat_eq n) items ≡ Some x
    → IsLeft i x None → map child_of (values_of (filter (λ p. not (nat_eq n p.0)) items)) ≡ children_left i (map child_of (values_of items))
take_left n i [] x about own rising at left = absurd (none_some x at)
take_left n i (q ∷ items) x about own rising at left =
    ap (λ ps. map child_of (values_of ps)) (without_by n q items (nat_eq n q.0) refl)
    ∙ take_by n i x q items (nat_eq n q.0) refl about own rising.0 left at (λ more. take_left n i items x about own.1 rising.1 more left)

pub take_are : (p : ℕ × ChildState → Bool) (items : List (ℕ × ChildState)) → AreChildren items → AreChildren (filter p items)
take_are p [] own = tt
take_are p (q ∷ items) own = by (p q) (take_are p items own.1)
  where
    by : (b : Bool) → AreChildren (filter p items) → AreChildren (cond b (q ∷ filter p items) (filter p items))
    by true rest = (own.0, rest)
    by false rest = rest

pub put_are : (items : List (ℕ × ChildState)) (x : ChildState) → is_there (child_of x) ≡ true → AreChildren items → AreChildren (items ++ (x.process, x) ∷ [])
put_are [] x there own = ((refl, there), tt)
put_are (q ∷ items) x there own = (own.0, put_are items x there own.1)
