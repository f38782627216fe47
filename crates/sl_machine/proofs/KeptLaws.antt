-- Machines by their numbers, and what is kept once one has changed.
use Rattle.sl_world_state.specs.KeptWorld.{MachineState, change_machine_in}
use Rattle.sl_machine.specs.KeptParts.{place_in}
use Rattle.sl_run.specs.declared.header.Header.{Header}
use Rattle.sl_words.proofs.CaseLaws.{none_some, some_value}
use Rattle.std.proofs.Common.{ap, arith, get_or, refl, subst, sym, ◌∙◌}
use Rattle.std.proofs.lemmas.Bool.Decides.{nat_tests}
use Rattle.std.proofs.lemmas.List.{map-set}
use Rattle.std.proofs.Math.Seq.{map-set_same}
use Rattle.sl_words.proofs.Lists.{set_here, there_is}
use Rattle.std.proofs.lemmas.Option.{slice_get-map, slice_get_past, slice_get_read}
use Rattle.std.specs.List.{slice_set}
use Rattle.std.specs.Prelude.{Bool, List, None, Some, false, if◌then◌else◌, length, map, nat_lt, option_map, slice_get, suc, true, [], ℕ, ◌-◌, ◌<◌, ◌==◌, ◌∷◌, ◌≡◌, ◌≤◌}

-- ---- places

pub record Placed (count m i : ℕ) : Type 0 where
  pub some : (m == 0) ≡ false
  pub there : m - 1 ≡ i
  pub within : i < count

placed_by : (count m i : ℕ) (z w : Bool) → (m == 0) ≡ z → nat_lt (m - 1) count ≡ w → (if z then None else (if w then Some (m - 1) else None)) ≡ Some i → Placed count m i
placed_by count m i true w is less there = absurd (none_some i there)
placed_by count m i false false is less there = absurd (none_some i there)
placed_by count m i false true is less there =
    let e : m - 1 ≡ i = some_value (m - 1) i there in
    record { some = is; there = e; within = (let lt : m - 1 < count = grind (arith, nat_tests, less) in subst (λ j. j < count) e lt) }

pub placed : (count m i : ℕ) → place_in count m ≡ Some i → Placed count m i
placed count m i there = placed_by count m i (m == 0) (nat_lt (m - 1) count) refl refl there

past : (m count : ℕ) → nat_lt (m - 1) count ≡ false → count ≤ m - 1
past m count h = grind (arith, nat_tests, h)

nowhere_by : {A : Type 0} (xs : List A) (count m : ℕ) (z w : Bool) → count ≡ length xs → (m == 0) ≡ z → nat_lt (m - 1) count ≡ w
    → (if z then None else (if w then Some (m - 1) else None)) ≡ None → (if z then None else slice_get xs (m - 1)) ≡ None
nowhere_by xs count m true w same is less none = refl
nowhere_by xs count m false true same is less none = absurd (none_some (m - 1) (sym none))
nowhere_by xs count m false false same is less none = slice_get_past xs (m - 1) (subst (λ n. n ≤ m - 1) same (past m count less))

-- No machine of this number.
pub nowhere : {A : Type 0} (xs : List A) (count m : ℕ) → count ≡ length xs → place_in count m ≡ None → (if m == 0 then None else slice_get xs (m - 1)) ≡ None
nowhere xs count m same none = nowhere_by xs count m (m == 0) (nat_lt (m - 1) count) same refl refl none

-- The one that stands at the place.
pub somewhere : {A B : Type 0} (f : A → B) (xs : List A) (count m i : ℕ) (a : A) → count ≡ length xs → place_in count m ≡ Some i → a ≡ get_or xs i a
    → (if m == 0 then None else slice_get (map f xs) (m - 1)) ≡ Some (f a)
somewhere f xs count m i a same there read =
    let p = placed count m i there in
    let at : slice_get (map f xs) i ≡ Some (f a) = slice_get-map f xs i ∙ ap (option_map f) (slice_get_read xs count i a same p.within read) in
    rw p.some (ap (slice_get (map f xs)) p.there ∙ at)

length_map : {A B : Type 0} (f : A → B) (xs : List A) → length (map f xs) ≡ length xs
length_map f [] = refl
length_map f (x ∷ xs) = ap suc (length_map f xs)

pub nowhere_mapped : {A B : Type 0} (f : A → B) (xs : List A) (count m : ℕ) → count ≡ length xs → place_in count m ≡ None
    → (if m == 0 then None else slice_get (map f xs) (m - 1)) ≡ None
nowhere_mapped f xs count m same none = nowhere (map f xs) count m (same ∙ sym (length_map f xs)) none

-- ---- a machine changes

pub changed : {A : Type 0} (f : A → MachineState) (h : Header) (moment : ℕ) (disks : List (List (List ℕ))) (names : List (List ℕ)) (ms : List A) (count m i : ℕ) (a b : A) (g : MachineState → MachineState)
    → count ≡ length ms → place_in count m ≡ Some i → a ≡ get_or ms i a → f b ≡ g (f a)
    → record { header = h; moment = moment; machines = map f (slice_set ms i b); disks = disks; names = names }
    ≡ change_machine_in m g (record { header = h; moment = moment; machines = map f ms; disks = disks; names = names })
changed f h moment disks names ms count m i a b g same there read is =
    let p = placed count m i there in
    let found = somewhere f ms count m i a same there read in
    let set : map f (slice_set ms i b) ≡ slice_set (map f ms) (m - 1) (g (f a)) = map-set f ms i b ∙ ap (slice_set (map f ms) i) is ∙ ap (λ j. slice_set (map f ms) j (g (f a))) (sym p.there) in
    rw (change_machine_in, found) (ap (λ (xs : List MachineState). record { header = h; moment = moment; machines = xs; disks = disks; names = names }) set)

pub unchanged : {A : Type 0} (f : A → MachineState) (h : Header) (moment : ℕ) (disks : List (List (List ℕ))) (names : List (List ℕ)) (ms : List A) (count m : ℕ) (g : MachineState → MachineState)
    → count ≡ length ms → place_in count m ≡ None
    → record { header = h; moment = moment; machines = map f ms; disks = disks; names = names }
    ≡ change_machine_in m g (record { header = h; moment = moment; machines = map f ms; disks = disks; names = names })
unchanged f h moment disks names ms count m g same none = rw (change_machine_in, nowhere_mapped f ms count m same none) refl

pub same_set : {A B : Type 0} (f : A → B) (ms : List A) (i : ℕ) (a b : A) → a ≡ get_or ms i a → f b ≡ f a → map f (slice_set ms i b) ≡ map f ms
same_set f ms i a b read is = map-set_same f ms i b a (is ∙ ap f read)

-- What holds of the machine at a place, once it has changed.
pub at_set : {A : Type 0} (P : A → Type 0) (ms : List A) (count m i : ℕ) (a b : A) → count ≡ length ms → place_in count m ≡ Some i → P b
    → (j : ℕ) (x : A) → place_in count m ≡ Some j → slice_get (slice_set ms i b) j ≡ Some x → P x
at_set P ms count m i a b same there holds j x at is =
    let e : i ≡ j = some_value i j (sym there ∙ at) in
    let p = placed count m i there in
    let old = there_is ms i (subst (λ n. i < n) same p.within) in
    subst P (some_value b x (sym (set_here ms i b old.0 old.1) ∙ ap (slice_get (slice_set ms i b)) e ∙ is)) holds
