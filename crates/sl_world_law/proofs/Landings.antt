-- A write takes effect: what stands on the disks then.
use Rattle.sl_world_state.specs.Changes.{write_at, write_sector}
use Rattle.sl_world_state.specs.KeptWorld.{KeptState}
use Rattle.sl_world_state.specs.SaneWorlds.{IsSane}
use Rattle.sl_world_state.specs.ShownWorlds.{Tells, disks_of, is_placed_in, place_in, sectors_of_disk}
use Rattle.sl_world_law.proofs.Sectors.{LiesOn, lies_on, one_index, range_at, sector_is}
use Rattle.sl_run.specs.EventChanges.{add_landing}
use Rattle.sl_run.specs.Refusals.{sectors_of}
use Rattle.sl_run.specs.Worlds.{Landing, World, content, initial_bytes, mebibyte, sector_size}
use Rattle.sl_run.specs.declared.header.Disk.{Disk}
use Rattle.sl_run.specs.declared.header.Header.{Header}
use Rattle.sl_text.specs.Forms.{Form}
use Rattle.sl_trace.specs.Traces.{same_place}
use Rattle.sl_trace.specs.declared.command.Command.{Command}
use Rattle.sl_trace.specs.declared.effects.Call.{Call}
use Rattle.sl_words.proofs.CaseLaws.{is_false, none_some, some_value}
use Rattle.sl_words.proofs.WordLaws.{and_true}
use Rattle.std.proofs.Common.{ap, ap₂, arith, refl, subst, suc, sym, zero, ◌∙◌}
use Rattle.std.proofs.Math.Nat.{div-add-mod, mul-div_cancel}
use Rattle.std.proofs.lemmas.Bool.Decides.{Decides-eqb}
use Rattle.std.proofs.lemmas.Bool.{and_from}
use Rattle.std.proofs.lemmas.List.FromFn.{length-range_with_len}
use Rattle.std.proofs.lemmas.Option.{slice_get-map, slice_get_within}
use Rattle.std.proofs.lemmas.Slice.Eq.{bytes_eq-Decides}
use Rattle.std.specs.List.{range_with_len}
use Rattle.std.specs.Prelude.{Bool, List, None, Option, Some, bytes_eq, cond, false, find, map, option_map, slice_get, slice_set, true, [], ℕ, ◌%◌, ◌*◌, ◌+◌, ◌/◌, ◌<◌, ◌==◌, ◌∷◌, ◌≡◌}

-- ---- what stands at a place

content_after : (w : World) (m : ℕ) (c : Call) (whole : Bool) (bytes path : List ℕ) (offset : ℕ) (b : Bool) → same_place c.path c.offset path offset ≡ b
    → content (add_landing m c whole bytes w) path offset ≡ cond b bytes (content w path offset)
content_after w m c whole bytes path offset true is =
    ap (λ z. held (cond z (Some landed) (find (λ (l : Landing). same_place l.path l.offset path offset) w.landings))) is
  where
    landed : Landing
    landed = record { path = c.path; offset = c.offset; bytes = bytes; whole = whole; writer = Some (m, c.number); step = w.step; moment = w.moment }

    held : Option Landing → List ℕ
    held o = elim o [ Some l ↦ l.bytes | None ↦ initial_bytes w.layout w.header path offset ]
content_after w m c whole bytes path offset false is =
    ap (λ z. held (cond z (Some landed) (find (λ (l : Landing). same_place l.path l.offset path offset) w.landings))) is
  where
    landed : Landing
    landed = record { path = c.path; offset = c.offset; bytes = bytes; whole = whole; writer = Some (m, c.number); step = w.step; moment = w.moment }

    held : Option Landing → List ℕ
    held o = elim o [ Some l ↦ l.bytes | None ↦ initial_bytes w.layout w.header path offset ]

-- ---- lists in which one element changes

map_places : {A B : Type 0} (f g : A → B) (xs : List A) → ((j : ℕ) (x : A) → slice_get xs j ≡ Some x → g x ≡ f x) → map g xs ≡ map f xs
map_places f g [] each = refl
map_places f g (x ∷ xs) each = ap₂ (λ a b. a ∷ b) (each 0 x refl) (map_places f g xs (λ j y there. each (suc j) y there))

map_set_one : {A B : Type 0} (f g : A → B) (xs : List A) (i : ℕ) (x : A) (y : B) → slice_get xs i ≡ Some x → g x ≡ y
    → ((j : ℕ) (z : A) → slice_get xs j ≡ Some z → (j ≡ i → ⊥) → g z ≡ f z) → map g xs ≡ slice_set (map f xs) i y
map_set_one f g [] i x y at is same = absurd (none_some x at)
map_set_one f g (z ∷ xs) zero x y at is same =
    ap₂ (λ a b. a ∷ b) (ap g (some_value z x at) ∙ is) (map_places f g xs (λ j v there. same (suc j) v there (λ e. omega (arith, e))))
map_set_one f g (z ∷ xs) (suc i) x y at is same =
    ap₂ (λ a b. a ∷ b) (same 0 z refl (λ e. omega (arith, e)))
    (map_set_one f g xs i x y at is (λ j v there other. same (suc j) v there (λ e. other (omega (arith, e)))))

map_same : {A B : Type 0} (f g : A → B) (xs : List A) → ((x : A) → f x ≡ g x) → map f xs ≡ map g xs
map_same f g [] each = refl
map_same f g (x ∷ xs) each = ap₂ (λ a b. a ∷ b) (each x) (map_same f g xs each)

-- ---- the disks

at_bytes : (s offset : ℕ) → offset % s ≡ 0 → offset ≡ (0 + offset / s) * s
at_bytes s offset whole = let d = div-add-mod offset s in omega (arith, whole, d)

-- Another disk stays as it was.
other_disk : (w : World) (m : ℕ) (c : Call) (whole : Bool) (bytes : List ℕ) (d : Disk) → (d.path ≡ c.path → ⊥)
    → sectors_of_disk (add_landing m c whole bytes w) d ≡ sectors_of_disk w d
other_disk w m c whole bytes d other =
    map_same _ _ (range_with_len 0 (d.mebibytes * mebibyte / sector_size w)) (λ n.
    content_after w m c whole bytes d.path (n * sector_size w) false
    (is_false (same_place c.path c.offset d.path (n * sector_size w)) (λ h. other (sym ((bytes_eq-Decides c.path d.path).0 (and_true (c.offset == n * sector_size w) (bytes_eq c.path d.path) h).1)))))

-- Its own has the bytes at its sector.
own_disk : (k : KeptState) (w : World) → Tells k w → (m : ℕ) (c : Call) (whole : Bool) (bytes : List ℕ) → sectors_of c.op ≡ 1 → (l : LiesOn w c)
    → sectors_of_disk (add_landing m c whole bytes w) l.disk ≡ slice_set (sectors_of_disk w l.disk) (c.offset / w.header.geometry.sector) bytes
own_disk k w t m c whole bytes one l =
    map_set_one (λ n. content w l.disk.path (n * sector_size w)) (λ n. content (add_landing m c whole bytes w) l.disk.path (n * sector_size w)) (range_with_len 0 count)
    at (0 + at) bytes (range_at 0 count at inside) here others
  where
    s : ℕ
    s = w.header.geometry.sector

    at : ℕ
    at = c.offset / w.header.geometry.sector

    count : ℕ
    count = l.disk.mebibytes * mebibyte / sector_size w

    inside : at < count
    inside =
        subst (λ z. at < l.disk.mebibytes * mebibyte / z) (sym (sector_is k w t))
        (let first = l.within 0 (omega (arith, one)) in omega (arith, first))

    begins : c.offset ≡ (0 + at) * sector_size w
    begins = at_bytes s c.offset l.even ∙ sym (ap (λ z. (0 + at) * z) (sector_is k w t))

    here : content (add_landing m c whole bytes w) l.disk.path ((0 + at) * sector_size w) ≡ bytes
    here =
        content_after w m c whole bytes l.disk.path ((0 + at) * sector_size w) true
        (and_from (c.offset == (0 + at) * sector_size w) (bytes_eq c.path l.disk.path) ((Decides-eqb c.offset ((0 + at) * sector_size w)).1 begins)
        ((bytes_eq-Decides c.path l.disk.path).1 (sym l.path)))

    one_place : (n : ℕ) → same_place c.path c.offset l.disk.path (n * sector_size w) ≡ true → at ≡ n
    one_place n h =
        let same = (Decides-eqb c.offset (n * sector_size w)).0 (and_true (c.offset == n * sector_size w) (bytes_eq c.path l.disk.path) h).0 in
        ap (λ z. z / w.header.geometry.sector) (same ∙ ap (λ z. n * z) (sector_is k w t)) ∙ mul-div_cancel n l.some

    others : (j n : ℕ) → slice_get (range_with_len 0 count) j ≡ Some n → (j ≡ at → ⊥)
        → content (add_landing m c whole bytes w) l.disk.path (n * sector_size w) ≡ content w l.disk.path (n * sector_size w)
    others j n there apart =
        let less : j < count = subst (λ z. j < z) (length-range_with_len 0 count) (slice_get_within (range_with_len 0 count) j n there) in
        let is_n : 0 + j ≡ n = some_value (0 + j) n (sym (range_at 0 count j less) ∙ there) in
        content_after w m c whole bytes l.disk.path (n * sector_size w) false
        (is_false (same_place c.path c.offset l.disk.path (n * sector_size w)) (λ h. apart (let same = one_place n h in omega (arith, same, is_n))))

disks_after : {commands : Header → List (Form Command)} → (k : KeptState) (w : World) → Tells k w → IsSane commands w → (m : ℕ) (c : Call) (whole : Bool) (bytes : List ℕ)
    → sectors_of c.op ≡ 1 → (l : LiesOn w c)
    → disks_of (add_landing m c whole bytes w) ≡ write_sector (record { disk = l.index; sector = c.offset / w.header.geometry.sector }) bytes k.disks
unfolding disks_of
disks_after k w t is m c whole bytes one l =
    map_set_one (sectors_of_disk w) (sectors_of_disk (add_landing m c whole bytes w)) w.header.disks l.index l.disk
    (slice_set (sectors_of_disk w l.disk) (c.offset / w.header.geometry.sector) bytes) l.there (own_disk k w t m c whole bytes one l)
    (λ j d there apart. other_disk w m c whole bytes d (λ same. apart (one_index (λ (x : Disk). x.path) w.header.disks j l.index d l.disk is.header.one_disk there l.there (same ∙ sym l.path))))
    ∙ sym (ap₂ (λ (o : Option (List (List ℕ))) (ds : List (List (List ℕ))). elim o as (λ z. List (List (List ℕ))) [
      | None ↦ ds
      | Some sectors ↦ slice_set ds l.index (slice_set sectors (c.offset / w.header.geometry.sector) bytes)
    ]) (ap (λ ds. slice_get ds l.index) (sym t.disks) ∙ slice_get-map (sectors_of_disk w) w.header.disks l.index ∙ ap (option_map (sectors_of_disk w)) l.there) (sym t.disks))

-- A write that lies on a disk takes effect there.
pub tells_landed : {commands : Header → List (Form Command)} → (k : KeptState) (w : World) → Tells k w → IsSane commands w → (m : ℕ) (c : Call) (whole : Bool)
    (bytes : List ℕ) → is_placed_in w.header c ≡ true → c.offset % sector_size w ≡ 0 → sectors_of c.op ≡ 1
    → Tells (write_at (place_in w.header c) bytes k) (add_landing m c whole bytes w)
unfolding disks_of
tells_landed k w t is m c whole bytes on even one =
    let l = lies_on k w t is c on even in
    subst (λ o. Tells (write_at o bytes k) (add_landing m c whole bytes w)) (sym l.place)
    (record { header = t.header; layout = t.layout; moment = t.moment; machines = t.machines; disks = disks_after k w t is m c whole bytes one l; names = t.names })
