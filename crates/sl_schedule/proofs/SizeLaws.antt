-- Sizes of areas in a header: the rows of their table, as a line names them, and the sizes that a line makes which no test refuses.
use Rattle.sl_area.specs.AreaSizes.{IsGeometry, Sizes, geometries, is_geometry, most_ids, roomy}
use Rattle.sl_area.specs.declared.geometry.BadGeometry.{BadGeometry}
use Rattle.sl_run.specs.Worlds.{first_that, mebibyte}
use Rattle.sl_run.specs.declared.event.Refusal.TheVariants.{LimitGeometry, LimitIds}
use Rattle.sl_run.specs.declared.event.Refusal.{Refusal}
use Rattle.sl_schedule.specs.HeadersSoFar.{HostsAreFew, row_for, sizes_of}
use Rattle.sl_words.specs.Words.{choose, some_is}
use Rattle.std.proofs.Common.{Bool, Err, List, None, Ok, Option, Result, Some, [], ap, arith, cond, eqb, false, length, refl, sym, true, ℕ, ◌*◌, ◌&&◌, ◌∙◌, ◌∷◌, ◌≡◌, ◌≤◌, ◌||◌}
use Rattle.std.proofs.lemmas.Bool.Decides.{Decides-eqb, nat_tests}
use Rattle.std.specs.Int.{is_in_range}
use Rattle.std.specs.List.{find, list_any}
use Rattle.std.specs.Option.{IfSome, option_map, option_to_list}
use Rattle.std.specs.Prelude.{IfOk, IsOk, is_none, nat_le, nat_lt, ◌==◌, ◌↔◌}
use Rattle.std.specs.Result.{result_ok}
use Rattle.sl_words.proofs.WordLaws.{and_true}

-- ---- the table

-- A row is a sector, an area and a number of hosts; this is the one that is looked for.
abbrev is_row : ℕ → ℕ → ℕ × ℕ × ℕ → Bool
is_row sector area row = row.0 == sector && row.1 == area

swapped : (a b : ℕ) → eqb a b ≡ eqb b a
swapped a b = grind (arith, nat_tests)

one_mebibyte : (m : ℕ) → eqb 1048576 (m * 1048576) ≡ eqb m 1
one_mebibyte m = grind (arith, nat_tests)

two_mebibytes : (m : ℕ) → eqb 2097152 (m * 1048576) ≡ eqb m 2
two_mebibytes m = grind (arith, nat_tests)

four_mebibytes : (m : ℕ) → eqb 4194304 (m * 1048576) ≡ eqb m 4
four_mebibytes m = grind (arith, nat_tests)

eight_mebibytes : (m : ℕ) → eqb 8388608 (m * 1048576) ≡ eqb m 8
eight_mebibytes m = grind (arith, nat_tests)

-- The row of sectors of these bytes and areas of so many mebibytes.
pub row_is : (sector m : ℕ) → row_for sector m ≡ find (is_row sector (m * mebibyte)) geometries
row_is sector m = rw (swapped 512 sector, swapped 4096 sector, one_mebibyte m, two_mebibytes m, four_mebibytes m, eight_mebibytes m) refl

-- The row that was found is of these bytes.
found_here : (sector area : ℕ) (row : ℕ × ℕ × ℕ) → is_row sector area row ≡ true → (row.0 ≡ sector) × (row.1 ≡ area)
found_here sector area row h =
    let parts = and_true (row.0 == sector) (row.1 == area) h in ((Decides-eqb row.0 sector).0 parts.0, (Decides-eqb row.1 area).0 parts.1)

found : (sector area : ℕ) (rows : List (ℕ × ℕ × ℕ)) (row : ℕ × ℕ × ℕ) → find (is_row sector area) rows ≡ Some row → is_row sector area row ≡ true
found sector area [] row h = absurd cc
found sector area (x ∷ rows) row h =
    elim (is_row sector area x) as (λ t. is_row sector area x ≡ t → cond t (Some x) (find (is_row sector area) rows) ≡ Some row → is_row sector area row ≡ true) [
      | true ↦ λ e some. let same : x ≡ row = cc in ap (is_row sector area) (sym same) ∙ e
      | false ↦ λ e some. found sector area rows row some
    ] refl h

-- Where there is none, no number of hosts fits, with pairs or without.
abbrev fits : ℕ → ℕ → ℕ → Bool → ℕ × ℕ × ℕ → Bool
fits sector area hosts paired row = row.0 == sector && row.1 == area && is_in_range 1 (roomy paired row.2) hosts

none_fits : (sector area hosts : ℕ) (paired : Bool) (rows : List (ℕ × ℕ × ℕ)) → find (is_row sector area) rows ≡ None → list_any (fits sector area hosts paired) rows ≡ false
none_fits sector area hosts paired [] h = refl
none_fits sector area hosts paired (x ∷ rows) h =
    elim (is_row sector area x) as (λ t. cond t (Some x) (find (is_row sector area) rows) ≡ None
    → (t && is_in_range 1 (roomy paired x.2) hosts || list_any (fits sector area hosts paired) rows) ≡ false) [
      | true ↦ λ some. absurd cc
      | false ↦ λ none. none_fits sector area hosts paired rows none
    ] h

-- ---- what the sizes of a line are

abbrev sizes_with : ℕ → ℕ → ℕ → Bool → Sizes
sizes_with sector area hosts paired = record { sector = sector; area = area; hosts = hosts; paired = paired }

chosen : (z : Sizes) (t : Bool) (r : Result Sizes BadGeometry) → (IsOk r ↔ (t ≡ true)) → IfOk r (λ g. g ≡ z) → result_ok r ≡ choose t z
chosen z true (Ok g) ok is = ap (λ x. Some x) is
chosen z true (Err e) ok is = let bad = ok.1 refl in absurd cc
chosen z false (Ok g) ok is = let bad = ok.0 refl in absurd cc
chosen z false (Err e) ok is = refl

pub some_sized : (sector area hosts : ℕ) (paired : Bool) (row : ℕ × ℕ × ℕ) (r : Result Sizes BadGeometry) → Some row ≡ find (is_row sector area) geometries
    → (IsOk r ↔ IsGeometry (record { sector = row.0; area = row.1; hosts = hosts; paired = paired }))
    → IfOk r (λ g. g ≡ record { sector = row.0; area = row.1; hosts = hosts; paired = paired }) → result_ok r ≡ sizes_of sector area hosts paired
some_sized sector area hosts paired row r some ok is =
    let same = found_here sector area row (found sector area geometries row (sym some)) in
    let z : Sizes = sizes_with row.0 row.1 hosts paired in
    chosen z (is_geometry z) r ok is ∙ ap (λ s. sizes_of s row.1 hosts paired) same.0 ∙ ap (λ a. sizes_of sector a hosts paired) same.1

-- ---- a line that no test refuses

first_two : (a b : Bool) (x y : Refusal) → first_that ((a, x) ∷ (b, y) ∷ []) ≡ None → (a ≡ false) × (b ≡ false)
first_two true b x y h = absurd cc
first_two false true x y h = absurd cc
first_two false false x y h = (refl, refl)

within : (hosts most : ℕ) → 1 ≤ hosts → nat_lt most hosts ≡ false → is_in_range 1 most hosts ≡ true
within hosts most some few = grind (arith, nat_tests)

or_left : (a b : Bool) → a ≡ true → (a || b) ≡ true
or_left true b h = refl
or_left false b h = absurd cc

row_fits : (sector area hosts : ℕ) (paired : Bool) (rows : List (ℕ × ℕ × ℕ)) → 1 ≤ hosts
    → is_none (option_map (λ (row : ℕ × ℕ × ℕ). row.2) (find (is_row sector area) rows)) ≡ false
    → some_is (λ most. nat_lt (roomy paired most) hosts) (option_map (λ (row : ℕ × ℕ × ℕ). row.2) (find (is_row sector area) rows)) ≡ false
    → list_any (fits sector area hosts paired) rows ≡ true
row_fits sector area hosts paired [] some given few = absurd cc
row_fits sector area hosts paired (x ∷ rows) some given few =
    elim (is_row sector area x) as (λ t. is_none (option_map (λ (row : ℕ × ℕ × ℕ). row.2) (cond t (Some x) (find (is_row sector area) rows))) ≡ false
    → some_is (λ most. nat_lt (roomy paired most) hosts) (option_map (λ (row : ℕ × ℕ × ℕ). row.2) (cond t (Some x) (find (is_row sector area) rows))) ≡ false
    → (t && is_in_range 1 (roomy paired x.2) hosts || list_any (fits sector area hosts paired) rows) ≡ true) [
      | true ↦ λ given few.
          or_left (is_in_range 1 (roomy paired x.2) hosts) (list_any (fits sector area hosts paired) rows) (within hosts (roomy paired x.2) some few)
      | false ↦ λ given few. row_fits sector area hosts paired rows some given few
    ] given few

sized_by : (t : Bool) (z : Sizes) → t ≡ true → choose t z ≡ Some z
sized_by true z h = refl
sized_by false z h = absurd cc

-- Sizes for some hosts that no test refuses.
pub sizes_taken : (sector area hosts : ℕ) (paired : Bool) → 1 ≤ hosts
    → first_that ((is_none (most_ids sector area), LimitGeometry) ∷ (some_is (λ most. nat_lt (roomy paired most) hosts) (most_ids sector area), LimitIds) ∷ []) ≡ None
    → sizes_of sector area hosts paired ≡ Some (record { sector = sector; area = area; hosts = hosts; paired = paired })
sizes_taken sector area hosts paired some none =
    let tests = first_two (is_none (most_ids sector area)) (some_is (λ most. nat_lt (roomy paired most) hosts) (most_ids sector area)) LimitGeometry LimitIds none in
    sized_by (is_geometry (sizes_with sector area hosts paired)) (sizes_with sector area hosts paired) (row_fits sector area hosts paired geometries some tests.0 tests.1)

-- Nothing yet, or something.
pub none_yet : {A : Type 0} (o : Option A) → nat_lt (length (option_to_list o)) 1 ≡ true → o ≡ None
none_yet None room = refl
none_yet (Some a) room = absurd cc

pub some_told : {A : Type 0} (o : Option A) → nat_le 1 (length (option_to_list o)) ≡ true → (a : A) × (o ≡ Some a)
some_told None least = absurd cc
some_told (Some a) least = (a, refl)

pub some_hosts : (version : Option Bool) (o : Option ℕ) → nat_le 1 (length (option_to_list o)) ≡ true → IfSome o (HostsAreFew version) → (n : ℕ) × (o ≡ Some n) × (1 ≤ n)
some_hosts version None least is = absurd cc
some_hosts version (Some n) least is = (n, refl, is.few.0)
