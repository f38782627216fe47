-- What is written at moment 0: each area of a header begins where one may, what is written to it is records, and writes stand one behind another.
use Rattle.sl_area.proofs.SizeLaws.{has_room}
use Rattle.sl_area.specs.AreaSizes.{layout_of}
use Rattle.sl_area.specs.AreaLayout.{is_base}
use Rattle.sl_direct.proofs.DiskLaws.{Wrote-append}
use Rattle.sl_direct.specs.FreshAreas.{Write}
use Rattle.sl_direct.specs.HalfDone.{Wrote}
use Rattle.sl_disks.proofs.InitialLaws.{initial_delta_is}
use Rattle.sl_run.specs.Headers.{IsArea, IsHeader}
use Rattle.sl_run.specs.Worlds.{initial_delta, mebibyte}
use Rattle.sl_run.specs.declared.header.Header.{Header}
use Rattle.sl_run.specs.declared.header.LockspaceLine.{LockspaceLine}
use Rattle.sl_run.specs.declared.header.ResourceLine.{ResourceLine}
use Rattle.sl_sector.specs.Records.{IsRecord}
use Rattle.sl_sector.specs.declared.sector.Rec.TheVariants.{DeltaIs}
use Rattle.sl_text.specs.Names.{is_name}
use Rattle.std.proofs.Common.{ap, append-nil, arith, subst, sym, ◌∙◌}
use Rattle.std.proofs.lemmas.Bool.{and_from, eq-eqb, lt-ltb}
use Rattle.std.proofs.lemmas.Grind.{flat_map-append}
use Rattle.std.proofs.lemmas.List.Elements.{Contains-get_or}
use Rattle.std.proofs.lemmas.List.{take_all, take_more}
use Rattle.std.specs.Prelude.{Contains, IsTrue, List, Option, flat_map, get_or, length, take, true, [], ℕ, ◌%◌, ◌*◌, ◌++◌, ◌+◌, ◌<◌, ◌^◌, ◌∷◌, ◌≡◌, ◌≤◌}

-- ---- areas

small_offset : (offset area mebibytes : ℕ) → offset + area ≤ mebibytes * mebibyte → mebibytes ≤ 64 → offset < 10 ^ 12
small_offset offset area mebibytes inside few = omega (arith, inside, few)

base_of : (h : Header) → IsHeader h → (path : List ℕ) (offset : ℕ) → IsArea h path offset → is_base (layout_of h.geometry) offset ≡ true
base_of h is path offset a =
    let d = a.on_disk in
    and_from _ _ (eq-eqb (offset % h.geometry.area) 0 a.aligned) (lt-ltb offset (10 ^ 12) (small_offset offset h.geometry.area d.0.mebibytes d.3 (is.disks d.0 d.1).2))

-- The area of a lockspace, and that of a resource.
pub lockspace_base : (h : Header) (l : LockspaceLine) → IsHeader h → Contains h.lockspaces l → IsTrue (is_base (layout_of h.geometry) l.offset)
lockspace_base h l is has = base_of h is l.path l.offset (is.lockspaces l has).1

pub resource_base : (h : Header) (r : ResourceLine) → IsHeader h → Contains h.resources r → IsTrue (is_base (layout_of h.geometry) r.offset)
resource_base h r is has = base_of h is r.path r.offset (is.resources r has).1

-- ---- records

-- The record of an id has a spelling.
pub delta_is : (h : Header) (l : LockspaceLine) (id : ℕ) → IsHeader h → Contains h.lockspaces l → 1 ≤ id → id ≤ h.geometry.hosts → IsRecord (DeltaIs (initial_delta h l id))
delta_is h l id is has low high =
    let most = (has_room h.geometry is.geometry).hosts.1 in initial_delta_is h l id is (is.lockspaces l has).0 low (omega (arith, high, most))

-- A resource and its lockspace have names.
pub resource_named : (h : Header) (r : ResourceLine) → IsHeader h → Contains h.resources r → IsTrue (is_name r.lockspace) × IsTrue (is_name r.name)
resource_named h r is has =
    let of = is.resources r has in let space = of.2 in
    (subst (λ n. IsTrue (is_name n)) space.2 (is.lockspaces space.0 space.1).0, of.0)

-- ---- writes

-- What a loop is at is an element of what it goes over.
pub item_inside : {X : Type 0} (xs ys : List X) (k : ℕ) (x : X) → ys ≡ xs → k < length ys → x ≡ get_or ys k x → Contains xs x
item_inside xs ys k x same inside is = subst (λ zs. Contains zs x) same (subst (Contains ys) (sym is) (Contains-get_or ys k x inside))

-- Those of one element more.
pub wrote_more : {X : Type 0} (f : X → List Write) (xs : List X) (k : ℕ) (x : X) (a b c : Option (List ℕ)) → k < length xs → x ≡ get_or xs k x
    → Wrote (flat_map f (take k xs)) a b → Wrote (f x) b c → Wrote (flat_map f (take (k + 1) xs)) a c
wrote_more f xs k x a b c inside is first then =
    let more : take (k + 1) xs ≡ take k xs ++ x ∷ [] = take_more xs k x inside ∙ ap (λ y. take k xs ++ y ∷ []) (sym is) in
    let whole : flat_map f (take (k + 1) xs) ≡ flat_map f (take k xs) ++ f x =
    ap (flat_map f) more ∙ flat_map-append f (take k xs) (x ∷ []) ∙ ap (λ ws. flat_map f (take k xs) ++ ws) (append-nil (f x)) in
    subst (λ ws. Wrote ws a c) (sym whole) (Wrote-append (flat_map f (take k xs)) (f x) a b c first then)

-- Those of all.
pub wrote_all : {X : Type 0} (f : X → List Write) (xs : List X) (k : ℕ) (a b : Option (List ℕ)) → length xs ≤ k → Wrote (flat_map f (take k xs)) a b → Wrote (flat_map f xs) a b
wrote_all f xs k a b past wrote = subst (λ ys. Wrote (flat_map f ys) a b) (take_all k xs past) wrote
