-- What stands at the sectors of a call.
use Rattle.sl_area.proofs.SizeLaws.{has_room}
use Rattle.sl_area.specs.AreaSizes.{Layout}
use Rattle.sl_world_state.specs.KeptWorld.{KeptState, Place, sector_in, sector_of_call}
use Rattle.sl_world_state.specs.SaneWorlds.{IsSane}
use Rattle.sl_world_state.specs.ShownWorlds.{Tells, disks_of, is_placed_in, place_at, place_in, sectors_of_disk}
use Rattle.sl_words.proofs.Lists.{any_found, got_index, there_is}
use Rattle.sl_words.proofs.Places.{position_found, position_none}
use Rattle.sl_run.specs.Refusals.{is_placed, sectors_of}
use Rattle.sl_run.specs.Worlds.{World, content, mebibyte, sector_size}
use Rattle.sl_run.specs.declared.header.Disk.{Disk}
use Rattle.sl_run.specs.declared.header.Header.{Header}
use Rattle.sl_text.specs.Forms.{Form}
use Rattle.sl_trace.specs.declared.command.Command.{Command}
use Rattle.sl_trace.specs.declared.effects.Call.{Call}
use Rattle.sl_words.proofs.CaseLaws.{true_is_false}
use Rattle.sl_words.proofs.WordLaws.{and_true}
use Rattle.std.proofs.Common.{ap, ap₂, arith, inl, inr, refl, suc, subst, sym, zero, ◌∙◌}
use Rattle.std.proofs.Math.Nat.{div-add-mod, le-div_iff_mul-le, mul-le-mul_right}
use Rattle.std.proofs.lemmas.Bool.Decides.{nat_tests}
use Rattle.std.proofs.lemmas.Bool.{cases_lt}
use Rattle.std.proofs.lemmas.Option.{slice_get-map, slice_get_within}
use Rattle.std.proofs.lemmas.Slice.Eq.{bytes_eq-Decides}
use Rattle.std.specs.List.{list_any, range_with_len}
use Rattle.std.specs.Prelude.{AllPairs, Bool, List, None, Option, Some, bytes_eq, false, is_none, map, nat_le, not, option_and_then, option_map, position, slice_get, true, unwrap_or, [], ℕ, ◌%◌, ◌&&◌, ◌*◌, ◌+◌, ◌-◌, ◌/◌, ◌<◌, ◌≡◌, ◌≢◌, ◌≤◌}

-- ---- sizes

-- Sectors are those of the header's geometry.
pub sector_is : (k : KeptState) (w : World) → Tells k w → sector_size w ≡ w.header.geometry.sector
sector_is k w t = ap (λ (g : Layout). g.sector) t.layout ∙ ap (λ (h : Header). h.geometry.sector) (sym t.header)

pub placed_is : (k : KeptState) (w : World) → Tells k w → (c : Call) → is_placed w c ≡ is_placed_in w.header c
placed_is k w t c =
    ap (λ s. list_any (λ (d : Disk). bytes_eq d.path c.path && nat_le (c.offset + (sectors_of c.op - 1) * s + s) (d.mebibytes * mebibyte)) w.header.disks)
    (sector_is k w t)

-- ---- the disk of a call

-- A disk, with its place, on which the call lies.
record OnDisk (h : Header) (c : Call) : Type 0 where
  pub index : ℕ
  pub disk : Disk
  pub there : slice_get h.disks index ≡ Some disk
  pub path : bytes_eq disk.path c.path ≡ true
  pub fits : c.offset + (sectors_of c.op - 1) * h.geometry.sector + h.geometry.sector ≤ disk.mebibytes * mebibyte

on_disk : (h : Header) (c : Call) → is_placed_in h c ≡ true → OnDisk h c
on_disk h c on =
    let test : Disk → Bool = λ d. bytes_eq d.path c.path && nat_le (c.offset + (sectors_of c.op - 1) * h.geometry.sector + h.geometry.sector) (d.mebibytes * mebibyte) in
    let found = any_found test h.disks on in
    let at = there_is h.disks found.1.0 found.1.1 in
    let same : at.0 ≡ found.0 = sym (got_index h.disks found.1.0 at.0 found.0 at.1) ∙ found.1.2 in
    let both = and_true (bytes_eq found.0.path c.path) _ found.2 in
    record {
      index = found.1.0;
      disk = found.0;
      there = at.1 ∙ ap Some same;
      path = both.0;
      fits = grind (arith, nat_tests, both.1);
    }

is_none_map : {A B : Type 0} (f : A → B) (o : Option A) → is_none (option_map f o) ≡ is_none o
is_none_map f None = refl
is_none_map f (Some a) = refl

-- A call that lies on a disk has its place.
pub place_known : (h : Header) (c : Call) (b : Bool) → is_placed_in h c ≡ b → not b ≡ is_none (place_in h c)
unfolding place_in
place_known h c false is = sym (ap (λ z. is_none (elim z as (λ x. Option Place) [ false ↦ None | true ↦ place_at h c.path c.offset ])) is)
place_known h c true is =
    let d = on_disk h c is in
    sym (ap (λ z. is_none (elim z as (λ x. Option Place) [ false ↦ None | true ↦ place_at h c.path c.offset ])) is
    ∙ is_none_map (λ n. place_of n) (position (λ (x : Disk). bytes_eq x.path c.path) h.disks)
    ∙ found (position (λ (x : Disk). bytes_eq x.path c.path) h.disks) refl d)
  where
    place_of : ℕ → Place
    place_of n = record { disk = n; sector = c.offset / h.geometry.sector }

    found : (o : Option ℕ) → position (λ (x : Disk). bytes_eq x.path c.path) h.disks ≡ o → OnDisk h c → is_none o ≡ false
    found (Some n) at d = refl
    found None at d = absurd (true_is_false (sym d.path ∙ position_none (λ (x : Disk). bytes_eq x.path c.path) h.disks d.index d.disk at d.there))

-- Two elements that differ in nothing by which all differ are one.
same_index : {A B : Type 0} (f : A → B) (xs : List A) (i j : ℕ) (x y : A) → AllPairs (λ a b. f a ≢ f b) xs → slice_get xs i ≡ Some x → slice_get xs j ≡ Some y
    → f x ≡ f y → i < j → ⊥
same_index f xs i j x y apart at there same less =
    apart i j x less (slice_get_within xs j y there) (ap f (got_index xs i x x at) ∙ same ∙ sym (ap f (got_index xs j y x there)))

pub one_index : {A B : Type 0} (f : A → B) (xs : List A) (i j : ℕ) (x y : A) → AllPairs (λ a b. f a ≢ f b) xs → slice_get xs i ≡ Some x → slice_get xs j ≡ Some y
    → f x ≡ f y → i ≡ j
one_index f xs i j x y apart at there same =
    elim (cases_lt i j) [
      | inl less ↦ absurd (same_index f xs i j x y apart at there same less)
      | inr more ↦ elim (cases_lt j i) [
        | inl less ↦ absurd (same_index f xs j i y x apart there at (sym same) less)
        | inr least ↦ omega (arith, more, least)
      ]
    ]

-- ---- its sectors

pub range_at : (i n m : ℕ) → m < n → slice_get (range_with_len i n) m ≡ Some (i + m)
range_at i zero m lt = absurd (omega (arith, lt))
range_at i (suc n) zero lt = ap Some (none_more i)
  where
    none_more : (i : ℕ) → i ≡ i + 0
    none_more i = omega arith
range_at i (suc n) (suc m) lt = range_at (i + 1) n m (omega (arith, lt)) ∙ ap Some (one_more i m)
  where
    one_more : (i m : ℕ) → i + 1 + m ≡ i + suc m
    one_more i m = omega arith

-- A sector number counts so many bytes.
pub bytes_before : (s offset i : ℕ) → offset % s ≡ 0 → (offset / s + i) * s ≡ offset + i * s
bytes_before s offset i whole = let d = div-add-mod offset s in omega (arith, whole, d)

sector_within : (s offset i n bytes : ℕ) → 0 < s → offset % s ≡ 0 → i < n → offset + (n - 1) * s + s ≤ bytes → offset / s + i < bytes / s
sector_within s offset i n bytes some whole within fits =
    let at = bytes_before s offset i whole in
    let less : i * s ≤ (n - 1) * s = mul-le-mul_right s (omega (arith, within)) in
    let enough : (offset / s + i + 1) * s ≤ bytes = omega (arith, at, less, fits) in
    let most = (le-div_iff_mul-le {k = s} {x = offset / s + i + 1} {y = bytes} some).1 enough in
    omega (arith, most)

-- Sector m of a disk.
sector_of_disk : (k : KeptState) (w : World) → Tells k w → (n m : ℕ) (d : Disk) → slice_get w.header.disks n ≡ Some d → m < d.mebibytes * mebibyte / w.header.geometry.sector
    → sector_in k.disks n m ≡ content w d.path (m * w.header.geometry.sector)
unfolding disks_of
sector_of_disk k w t n m d at within =
    let s : ℕ = w.header.geometry.sector in
    let f : ℕ → List ℕ = λ j. content w d.path (j * s) in
    let disk : slice_get k.disks n ≡ Some (sectors_of_disk w d) =
    ap (λ ds. slice_get ds n) (sym t.disks) ∙ slice_get-map (sectors_of_disk w) w.header.disks n ∙ ap (option_map (sectors_of_disk w)) at in
    let sized : sectors_of_disk w d ≡ map f (range_with_len 0 (d.mebibytes * mebibyte / s)) =
    ap (λ z. map (λ j. content w d.path (j * z)) (range_with_len 0 (d.mebibytes * mebibyte / z))) (sector_is k w t) in
    let found : slice_get (sectors_of_disk w d) m ≡ Some (f (0 + m)) =
    ap (λ xs. slice_get xs m) sized ∙ slice_get-map f (range_with_len 0 (d.mebibytes * mebibyte / s)) m
    ∙ ap (option_map f) (range_at 0 (d.mebibytes * mebibyte / s) m within) in
    ap (λ (o : Option (List (List ℕ))). unwrap_or (option_and_then (λ sectors. slice_get sectors m) o) []) disk
    ∙ ap (λ (o : Option (List ℕ)). unwrap_or o []) found ∙ ap f (none_first m)
  where
    none_first : (m : ℕ) → 0 + m ≡ m
    none_first m = omega arith

-- Where a call lies: on which disk, and that all its sectors are the disk's.
pub record LiesOn (w : World) (c : Call) : Type 0 where
  pub index : ℕ
  pub disk : Disk
  pub there : slice_get w.header.disks index ≡ Some disk
  pub path : disk.path ≡ c.path
  pub place : place_in w.header c ≡ Some (record { disk = index; sector = c.offset / w.header.geometry.sector })
  pub some : 0 < w.header.geometry.sector
  pub even : c.offset % w.header.geometry.sector ≡ 0
  pub within : (i : ℕ) → i < sectors_of c.op → c.offset / w.header.geometry.sector + i < disk.mebibytes * mebibyte / w.header.geometry.sector

-- A call that lies on a disk, at whole sectors.
pub lies_on : {commands : Header → List (Form Command)} → (k : KeptState) (w : World) → Tells k w → IsSane commands w → (c : Call) → is_placed_in w.header c ≡ true
    → c.offset % sector_size w ≡ 0 → LiesOn w c
unfolding place_in
lies_on k w t is c on whole = go (position (λ (x : Disk). bytes_eq x.path c.path) w.header.disks) refl
  where
    s : ℕ
    s = w.header.geometry.sector

    d : OnDisk w.header c
    d = on_disk w.header c on

    even : c.offset % s ≡ 0
    even = subst (λ z. c.offset % z ≡ 0) (sector_is k w t) whole

    some : 0 < s
    some = let r = (has_room w.header.geometry is.header.geometry).sector in omega (arith, r.0)

    go : (o : Option ℕ) → position (λ (x : Disk). bytes_eq x.path c.path) w.header.disks ≡ o → LiesOn w c
    go None at = absurd (true_is_false (sym d.path ∙ position_none (λ (x : Disk). bytes_eq x.path c.path) w.header.disks d.index d.disk at d.there))
    go (Some n) at =
        let e = position_found (λ (x : Disk). bytes_eq x.path c.path) w.header.disks n at in
        let one : d.index ≡ n = one_index (λ (x : Disk). x.path) w.header.disks d.index n d.disk e.item is.header.one_disk d.there e.there
        ((bytes_eq-Decides d.disk.path c.path).0 d.path ∙ sym ((bytes_eq-Decides e.item.path c.path).0 e.passes)) in
        record {
          index = n;
          disk = d.disk;
          there = subst (λ j. slice_get w.header.disks j ≡ Some d.disk) one d.there;
          path = (bytes_eq-Decides d.disk.path c.path).0 d.path;
          place = ap (λ (z : Bool). elim z as (λ x. Option Place) [ false ↦ None | true ↦ place_at w.header c.path c.offset ]) on
              ∙ ap (λ (o : Option ℕ). option_map (λ j. place_of j) o) at;
          some = some;
          even = even;
          within = λ i less. sector_within s c.offset i (sectors_of c.op) (d.disk.mebibytes * mebibyte) some even less d.fits;
        }
      where
        place_of : ℕ → Place
        place_of j = record { disk = j; sector = c.offset / w.header.geometry.sector }

-- Sector i of such a call.
pub sector_there : {commands : Header → List (Form Command)} → (k : KeptState) (w : World) → Tells k w → IsSane commands w → (c : Call) (i : ℕ)
    → is_placed_in w.header c ≡ true → c.offset % sector_size w ≡ 0 → i < sectors_of c.op
    → content w c.path (c.offset + i * sector_size w) ≡ sector_of_call k.disks (place_in w.header c) i
sector_there k w t is c i on whole within =
    let l = lies_on k w t is c on whole in
    let s : ℕ = w.header.geometry.sector in
    ap (λ z. content w c.path (c.offset + i * z)) (sector_is k w t)
    ∙ ap₂ (λ path n. content w path n) (sym l.path) (sym (bytes_before s c.offset i l.even))
    ∙ sym (sector_of_disk k w t l.index (c.offset / s + i) l.disk l.there (l.within i within))
    ∙ sym (ap (λ o. sector_of_call k.disks o i) l.place)
