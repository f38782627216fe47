-- Disks in memory: where the one at a path stands, and what is told of all when another is put in its place.
use Rattle.sl_outside.specs.Disks.{Disks, KeepsAllBut, Stay, TakesBack, told_at}
use Rattle.sl_outside.specs.MemDisks.{content_at, is_at}
use Rattle.sl_outside.specs.declared.mem_devices.MemDisk.{MemDisk}
use Rattle.std.proofs.Common.{Bool, List, None, Option, Some, ap, false, inl, inr, length, refl, slice_index_or, slice_set, subst, sym, true, ℕ, ◌∙◌, ◌≡◌, ◌≤◌}
use Rattle.std.proofs.lemmas.Bool.{cases_Bool, ltb-false}
use Rattle.std.proofs.lemmas.List.Folds.{find-set, find_at, find_past}
use Rattle.std.proofs.lemmas.List.Quantifiers.{position-Some}
use Rattle.std.proofs.lemmas.Option.{slice_get-get_or, slice_get_past}
use Rattle.std.proofs.lemmas.Slice.Eq.{bytes_eq-Decides}
use Rattle.std.specs.List.{position, position_or_len, slice_get}
use Rattle.std.specs.Prelude.{find, if◌then◌else◌, is_some, nat_lt, option_map, ◌∷◌, ◌≢◌}

-- ---- where it stands

taken_if : (b : Bool) (n at : ℕ) → (if b then Some n else None) ≡ Some at → at ≡ n
taken_if true n at e = cc
taken_if false n at e = absurd cc

false_if : (b : Bool) (n : ℕ) → (if b then Some n else None) ≡ None → b ≡ false
false_if true n e = absurd cc
false_if false n e = refl

first_at : (path : List ℕ) (ds : List MemDisk) (at : ℕ) → position (is_at path) ds ≡ Some at → at ≡ position_or_len (is_at path) ds
first_at path ds at e = taken_if (nat_lt (position_or_len (is_at path) ds) (length ds)) (position_or_len (is_at path) ds) at e

-- No disk stands there.
pub none_found : (path : List ℕ) (ds : List MemDisk) → position (is_at path) ds ≡ None → content_at ds path ≡ None
none_found path ds e =
    let past : length ds ≤ position_or_len (is_at path) ds =
    ltb-false (position_or_len (is_at path) ds) (length ds) (false_if (nat_lt (position_or_len (is_at path) ds) (length ds)) (position_or_len (is_at path) ds) e) in
    ap (λ x. option_map (λ (d : MemDisk). d.area.content) x) (find_at (is_at path) ds ∙ slice_get_past ds (position_or_len (is_at path) ds) past)

-- This one does.
pub one_found : (path : List ℕ) (ds : List MemDisk) (at : ℕ) (d : MemDisk) → position (is_at path) ds ≡ Some at → content_at ds path ≡ Some (slice_index_or ds at d).area.content
one_found path ds at d e =
    ap (λ x. option_map (λ (d : MemDisk). d.area.content) x)
    (find_at (is_at path) ds ∙ ap (λ n. slice_get ds n) (sym (first_at path ds at e)) ∙ slice_get-get_or ds at d (position-Some (is_at path) ds at d e).0)

pub path_found : (path : List ℕ) (ds : List MemDisk) (at : ℕ) (d : MemDisk) → position (is_at path) ds ≡ Some at → (slice_index_or ds at d).path ≡ path
path_found path ds at d e = (bytes_eq-Decides (slice_index_or ds at d).path path).0 (position-Some (is_at path) ds at d e).1

-- ---- another in its place

not_true : (b : Bool) → (b ≡ true → ⊥) → b ≡ false
not_true true f = absurd (f refl)
not_true false f = refl

not_at : (other : List ℕ) (d : MemDisk) (path : List ℕ) → d.path ≡ path → other ≢ path → is_at other d ≡ false
not_at other d path here apart = not_true (is_at other d) (λ h. apart (sym ((bytes_eq-Decides d.path other).0 h) ∙ here))

pub put_there : (path : List ℕ) (ds : List MemDisk) (at : ℕ) (d y : MemDisk) → position (is_at path) ds ≡ Some at → y.path ≡ path
    → TakesBack (told_at (content_at ds) path) (content_at ds) (content_at (slice_set ds at y)) (Some y.area.content)
put_there path ds at d y e same =
    let there : told_at (content_at ds) path ≡ Some path = ap (λ x. option_map (λ c. path) x) (one_found path ds at d e) in
    let put : content_at (slice_set ds at y) path ≡ Some y.area.content =
    ap (λ x. option_map (λ (d : MemDisk). d.area.content) x)
    (find-set (is_at path) ds at y (first_at path ds at e) (position-Some (is_at path) ds at d e).0 ((bytes_eq-Decides y.path path).1 same)) in
    let others : KeepsAllBut path (content_at ds) (content_at (slice_set ds at y)) =
    λ other apart.
    ap (λ x. option_map (λ (d : MemDisk). d.area.content) x)
    (find_past (is_at other) ds at y d (not_at other (slice_index_or ds at d) path (path_found path ds at d e) apart) (not_at other y path same apart)) in
    subst (λ l. TakesBack l (content_at ds) (content_at (slice_set ds at y)) (Some y.area.content)) (sym there) (put, others)

pub nothing_put : (path : List ℕ) (ds : List MemDisk) (content : Option (List ℕ)) → position (is_at path) ds ≡ None
    → TakesBack (told_at (content_at ds) path) (content_at ds) (content_at ds) content
nothing_put path ds content e =
    let nowhere : told_at (content_at ds) path ≡ None = ap (λ x. option_map (λ c. path) x) (none_found path ds e) in
    subst (λ l. TakesBack l (content_at ds) (content_at ds) content) (sym nowhere) (λ other. refl)

-- ---- handed out

others_stay : (path : List ℕ) (told : Option (List ℕ)) (before now : Disks) (content : Option (List ℕ)) → TakesBack (option_map (λ c. path) told) before now content
    → KeepsAllBut path before now
others_stay path None before now content back = λ other apart. back other
others_stay path (Some c) before now content back = back.1

-- ---- one before all others

find_behind : (b : Bool) (d : MemDisk) (o : Option MemDisk) → b ≡ false → (if b then Some d else o) ≡ o
find_behind true d o e = absurd cc
find_behind false d o e = refl

not_both : {A : Type 0} (o : Option A) (x : A) → is_some o ≡ false → o ≡ Some x → ⊥
not_both None x none some = absurd cc
not_both (Some y) x none some = absurd cc

-- What stood stands, if it was not at its path.
pub stay_behind : (d : MemDisk) (ds : List MemDisk) → is_some (content_at ds d.path) ≡ false → Stay (content_at ds) (content_at (d ∷ ds))
stay_behind d ds none path content stood = elim (cases_Bool (is_at path d)) [
  | inl here ↦ absurd (not_both (content_at ds d.path) content none (ap (content_at ds) ((bytes_eq-Decides d.path path).0 here) ∙ stood))
  | inr apart ↦ ap (λ (x : Option MemDisk). option_map (λ (d : MemDisk). d.area.content) x) (find_behind (is_at path d) d (find (is_at path) ds) apart) ∙ stood
]
