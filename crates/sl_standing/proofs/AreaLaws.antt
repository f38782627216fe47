-- Areas of a header begin where one may, and what was read of a disk that stays is what it had.
use Rattle.sha2.specs.Sha256.{sha256}
use Rattle.sl_area.specs.AreaLayout.{is_base, leader_offset, value_offset}
use Rattle.sl_area.specs.AreaSizes.{layout_of}
use Rattle.sl_area.specs.Sectors.{IsReadAt, SectorPlace}
use Rattle.sl_io.specs.FaultCauses.{Rose}
use Rattle.sl_label.specs.Labels.{label_in, label_text}
use Rattle.sl_label.specs.declared.label.Label.{Label}
use Rattle.sl_run.specs.Headers.{IsArea, IsHeader}
use Rattle.sl_run.specs.Worlds.{mebibyte}
use Rattle.sl_run.specs.declared.header.Header.{Header}
use Rattle.sl_run.specs.declared.header.LockspaceLine.{LockspaceLine}
use Rattle.sl_run.specs.declared.header.ResourceLine.{ResourceLine}
use Rattle.sl_sector.specs.SectorLayouts.{decoded}
use Rattle.sl_sector.specs.declared.sector.Bad.{Bad}
use Rattle.sl_sector.specs.declared.sector.Rec.{Rec}
use Rattle.sl_standing.specs.Standing.{AreStanding, Differs, Faults, HasLabelOn, HasLeaderOn, IsLabelled, IsLed, IsSectorOf, LabelDiffers, LabelLacks, LeaderLacks, Leader_differs, Leader_faults, Lockspace_lacks, No_memory, Resource_lacks, StandsNot, label_of, leader_found}
use Rattle.sl_standing.specs.declared.not_standing.NotStanding.TheVariants.{AreaFault, NoMemory}
use Rattle.sl_standing.specs.declared.not_standing.NotStanding.{NotStanding}
use Rattle.std.proofs.Common.{ap, arith, refl, subst, sym, ◌∙◌}
use Rattle.std.proofs.lemmas.Bool.{and_from, eq-eqb, lt-ltb}
use Rattle.std.proofs.lemmas.List.Elements.{All-push, All-weaker, Contains-get_or}
use Rattle.std.proofs.lemmas.List.{take_all, take_more}
use Rattle.std.specs.Io.KnownBytes.{Keeps}
use Rattle.std.specs.Prelude.{All, Contains, Err, IfErr, IsErrAnd, IsTrue, List, None, Ok, OnOk, Option, Result, Some, get_or, length, take, true, [], ℕ, ◌%◌, ◌*◌, ◌++◌, ◌+◌, ◌<◌, ◌^◌, ◌∷◌, ◌≡◌, ◌≤◌}

-- ---- where areas begin

small_offset : (offset area mebibytes : ℕ) → offset + area ≤ mebibytes * mebibyte → mebibytes ≤ 64 → offset < 10 ^ 12
small_offset offset area mebibytes inside few = omega (arith, inside, few)

base_of : (h : Header) → IsHeader h → (path : List ℕ) (offset : ℕ) → IsArea h path offset → is_base (layout_of h.geometry) offset ≡ true
base_of h is path offset a =
    let d = a.on_disk in
    and_from _ _ (eq-eqb (offset % h.geometry.area) 0 a.aligned) (lt-ltb offset (10 ^ 12) (small_offset offset h.geometry.area d.0.mebibytes d.3 (is.disks d.0 d.1).2))

-- The area of a lockspace, and that of a resource.
pub lockspace_base : (h : Header) (l : LockspaceLine) → IsHeader h → Contains h.lockspaces l → IsTrue (is_base (layout_of h.geometry) l.offset)
lockspace_base h l is has = base_of h is l.path l.offset (is.lockspaces l has).1

pub resource_base : (h : Header) (r : ResourceLine) → IsHeader h → Contains h.resources r → IsTrue (is_base (layout_of h.geometry) r.offset)
resource_base h r is has = base_of h is r.path r.offset (is.resources r has).1

-- ---- what was read

-- A read of what stayed is one of what was.
pub read_before : (a b : Option (List ℕ)) (at : ℕ) (sector : List ℕ) → Keeps a b → IsReadAt b at sector → IsReadAt a at sector
read_before None b at sector kept read = tt
read_before (Some x) None at sector kept read = absurd kept
read_before (Some x) (Some y) at sector kept read = subst (λ (c : List ℕ). IsReadAt (Some c) at sector) kept read

pub kept_behind : (a b c : Option (List ℕ)) → Keeps a b → Keeps b c → Keeps a c
kept_behind None b c first second = tt
kept_behind (Some x) None c first second = absurd first
kept_behind (Some x) (Some y) None first second = absurd second
kept_behind (Some x) (Some y) (Some z) first second = second ∙ first

sector_before : (h : Header) (a b : Option (List ℕ)) (at : ℕ) (sector : List ℕ) → Keeps a b → IsSectorOf h b at sector → IsSectorOf h a at sector
sector_before h a b at sector kept s = record { long = s.long; read = read_before a b at sector kept s.read }

labelled_before : (h : Header) (a b : Option (List ℕ)) (l : LockspaceLine) → Keeps a b → IsLabelled h b l → IsLabelled h a l
labelled_before h a b l kept s = record { sector = s.sector; at = sector_before h a b _ s.sector kept s.at; label = s.label }

led_before : (h : Header) (a b : Option (List ℕ)) (r : ResourceLine) → Keeps a b → IsLed h b r → IsLed h a r
led_before h a b r kept s = record { sector = s.sector; at = sector_before h a b _ s.sector kept s.at; leads = s.leads }

pub label_on_before : (h : Header) (path : List ℕ) (a b : Option (List ℕ)) (l : LockspaceLine) → Keeps a b → HasLabelOn h path b l → HasLabelOn h path a l
label_on_before h path a b l kept has = λ on. labelled_before h a b l kept (has on)

pub leader_on_before : (h : Header) (path : List ℕ) (a b : Option (List ℕ)) (r : ResourceLine) → Keeps a b → HasLeaderOn h path b r → HasLeaderOn h path a r
leader_on_before h path a b r kept has = λ on. led_before h a b r kept (has on)

-- ---- why it does not stand

rose_between : (a b c d : ℕ) → a ≤ b → Rose b c → c ≤ d → Rose a d
rose_between a b c d before rose later = omega arith

label_lacks_before : (h : Header) (a b : Option (List ℕ)) (m n k : ℕ) (l : LockspaceLine) (d : NotStanding) → Keeps a b → m ≤ n → LabelLacks h b n k l d → LabelLacks h a m k l d
label_lacks_before h a b m n k l d kept before (Faults rose) = Faults (rose_between m n k k before rose (omega arith))
label_lacks_before h a b m n k l d kept before (Differs sector e s differs) = Differs sector d (sector_before h a b _ sector kept s) differs

leader_lacks_before : (h : Header) (a b : Option (List ℕ)) (m n k : ℕ) (r : ResourceLine) (d : NotStanding) → Keeps a b → m ≤ n → LeaderLacks h b n k r d → LeaderLacks h a m k r d
leader_lacks_before h a b m n k r d kept before (Leader_faults rose) = Leader_faults (rose_between m n k k before rose (omega arith))
leader_lacks_before h a b m n k r d kept before (Leader_differs sector e s differs) = Leader_differs sector d (sector_before h a b _ sector kept s) differs

pub stands_not_before : (h : Header) (path : List ℕ) (a b : Option (List ℕ)) (m n k : ℕ) (d : NotStanding) → Keeps a b → m ≤ n → StandsNot h path b n k d → StandsNot h path a m k d
stands_not_before h path a b m n k d kept before (Lockspace_lacks l has on lacks) = Lockspace_lacks l has on (label_lacks_before h a b m n k l d kept before lacks)
stands_not_before h path a b m n k d kept before (Resource_lacks r has on lacks) = Resource_lacks r has on (leader_lacks_before h a b m n k r d kept before lacks)

-- .. behind what was read before.
pub if_stands_not : {T : Type 0} (r : Result T NotStanding) (h : Header) (path : List ℕ) (a b : Option (List ℕ)) (m n k : ℕ) → Keeps a b → m ≤ n → IfErr r (StandsNot h path b n k)
    → IfErr r (StandsNot h path a m k)
if_stands_not (Ok t) h path a b m n k kept before not = tt
if_stands_not (Err d) h path a b m n k kept before not = stands_not_before h path a b m n k d kept before not

-- ---- what was found

-- A sector that was read at a place of the header's.
pub sector_at : (h : Header) (content : Option (List ℕ)) (p q : SectorPlace) (sector : List ℕ) → p ≡ q → length sector ≡ h.geometry.sector → IsReadAt content p.offset sector
    → IsSectorOf h content q.offset sector
sector_at h content p q sector same long read = record { long = long; read = subst (λ (x : SectorPlace). IsReadAt content x.offset sector) same read }

-- A lockspace's was not read, or was.
pub label_faults : (r : Result (Unit {0}) NotStanding) (h : Header) (content : Option (List ℕ)) (faults later : ℕ) (l : LockspaceLine) → IsErrAnd r (λ x. x ≡ AreaFault) → Rose faults later
    → IfErr r (LabelLacks h content faults later l)
label_faults (Ok t) h content faults later l is rose = tt
label_faults (Err e) h content faults later l is rose = subst (LabelLacks h content faults later l) (sym is) (Faults rose)

pub label_lacks : (r : Result (Unit {0}) NotStanding) (h : Header) (content : Option (List ℕ)) (faults later : ℕ) (l : LockspaceLine) (due : Label) (sector : List ℕ) → due ≡ label_of h l
    → IsSectorOf h content (value_offset (layout_of h.geometry) l.offset) sector → IfErr r (LabelDiffers due (decoded sha256 sector)) → IfErr r (LabelLacks h content faults later l)
label_lacks (Ok t) h content faults later l due sector is at differs = tt
label_lacks (Err d) h content faults later l due sector is at differs = Differs sector d at (subst (λ (x : Label). LabelDiffers x (decoded sha256 sector) d) is differs)

pub labelled : (r : Result (Unit {0}) NotStanding) (h : Header) (content : Option (List ℕ)) (l : LockspaceLine) (due : Label) (sector : List ℕ) → due ≡ label_of h l
    → IsSectorOf h content (value_offset (layout_of h.geometry) l.offset) sector → OnOk r (label_in (decoded sha256 sector) ≡ Some (label_text due)) → OnOk r (IsLabelled h content l)
labelled (Ok t) h content l due sector is at has =
    record { sector = sector; at = at; label = subst (λ (x : Label). label_in (decoded sha256 sector) ≡ Some (label_text x)) is has }
labelled (Err d) h content l due sector is at has = tt

-- There was no memory to compare it.
pub no_memory : (r : Result (Unit {0}) NotStanding) (l : Label) (found : Result Rec Bad) → IsErrAnd r (λ x. x ≡ NoMemory) → IfErr r (LabelDiffers l found)
no_memory (Ok t) l found is = tt
no_memory (Err e) l found is = subst (LabelDiffers l found) (sym is) No_memory

-- A resource's was not read, or was.
pub leader_faults : (r : Result (Unit {0}) NotStanding) (h : Header) (content : Option (List ℕ)) (faults later : ℕ) (l : ResourceLine) → IsErrAnd r (λ x. x ≡ AreaFault) → Rose faults later
    → IfErr r (LeaderLacks h content faults later l)
leader_faults (Ok t) h content faults later l is rose = tt
leader_faults (Err e) h content faults later l is rose = subst (LeaderLacks h content faults later l) (sym is) (Leader_faults rose)

pub leader_lacks : (r : Result (Unit {0}) NotStanding) (h : Header) (content : Option (List ℕ)) (faults later : ℕ) (l : ResourceLine) (sector : List ℕ)
    → IsSectorOf h content (leader_offset l.offset) sector → r ≡ leader_found h l (decoded sha256 sector) → IfErr r (LeaderLacks h content faults later l)
leader_lacks (Ok t) h content faults later l sector at is = tt
leader_lacks (Err d) h content faults later l sector at is = Leader_differs sector d at (sym is)

-- A line's is one of the disk's.
pub stands_not_label : (r : Result (Unit {0}) NotStanding) (h : Header) (path : List ℕ) (content : Option (List ℕ)) (faults later : ℕ) (l : LockspaceLine) → Contains h.lockspaces l
    → l.path ≡ path → IfErr r (LabelLacks h content faults later l) → IfErr r (StandsNot h path content faults later)
stands_not_label (Ok t) h path content faults later l has on lacks = tt
stands_not_label (Err d) h path content faults later l has on lacks = Lockspace_lacks l has on lacks

pub stands_not_leader : (r : Result (Unit {0}) NotStanding) (h : Header) (path : List ℕ) (content : Option (List ℕ)) (faults later : ℕ) (l : ResourceLine) → Contains h.resources l
    → l.path ≡ path → IfErr r (LeaderLacks h content faults later l) → IfErr r (StandsNot h path content faults later)
stands_not_leader (Ok t) h path content faults later l has on lacks = tt
stands_not_leader (Err d) h path content faults later l has on lacks = Resource_lacks l has on lacks

-- It is handed on.
pub handed_on : (r : Result (Unit {0}) NotStanding) (why : NotStanding) (h : Header) (path : List ℕ) (content : Option (List ℕ)) (faults later : ℕ) → IsErrAnd r (λ x. x ≡ why)
    → StandsNot h path content faults later why → IfErr r (StandsNot h path content faults later)
handed_on (Ok t) why h path content faults later is not = tt
handed_on (Err e) why h path content faults later is not = subst (StandsNot h path content faults later) (sym is) not

-- ---- all of them

-- A line of them is one of theirs.
pub item_inside : {X : Type 0} (xs ys : List X) (k : ℕ) (x : X) → ys ≡ xs → k < length ys → x ≡ get_or ys k x → Contains xs x
item_inside xs ys k x same inside is = subst (λ zs. Contains zs x) same (subst (Contains ys) (sym is) (Contains-get_or ys k x inside))

-- Of one more.
pub all_more : {X : Type 0} (P : X → Type 0) (xs : List X) (k : ℕ) (x : X) → k < length xs → x ≡ get_or xs k x → All P (take k xs) → P x → All P (take (k + 1) xs)
all_more P xs k x inside is all one =
    let more : take (k + 1) xs ≡ take k xs ++ x ∷ [] = take_more xs k x inside ∙ ap (λ y. take k xs ++ y ∷ []) (sym is) in
    subst (All P) (sym more) (All-push P (take k xs) x all one)

-- Of all.
pub all_whole : {X : Type 0} (P : X → Type 0) (xs ys : List X) (k : ℕ) → ys ≡ xs → length ys ≤ k → All P (take k ys) → All P xs
all_whole P xs ys k same past all = subst (All P) (take_all k ys past ∙ same) all

-- Lockspaces first, and then resources of a disk that was as before.
pub all_standing : (r : Result (Unit {0}) NotStanding) (h : Header) (path : List ℕ) (a b : Option (List ℕ)) → Keeps a b → All (HasLabelOn h path a) h.lockspaces
    → OnOk r (All (HasLeaderOn h path b) h.resources) → OnOk r (AreStanding h path a)
all_standing (Ok t) h path a b kept labels leaders =
    record { lockspaces = labels; resources = All-weaker (HasLeaderOn h path b) (HasLeaderOn h path a) (λ r. leader_on_before h path a b r kept) h.resources leaders }
all_standing (Err d) h path a b kept labels leaders = tt
