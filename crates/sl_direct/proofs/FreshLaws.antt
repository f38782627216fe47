-- The sectors of an area that is initialised: each is of the geometry's bytes, and no two share one.
use Rattle.sha2.specs.Sha256.{sha256}
use Rattle.sl_area.proofs.FreshRecords.{fresh_block_at_is, fresh_delta_is, leader_record_is, no_request_is, no_value_is}
use Rattle.sl_area.proofs.SizeLaws.{HasRoom, has_room}
use Rattle.sl_area.specs.AreaSizes.{IsGeometry, Layout, Sizes, layout_of}
use Rattle.sl_area.specs.AreaLayout.{block_offset, block_sectors, pair_offset}
use Rattle.sl_area.specs.AreaRecords.{fresh_block_at, fresh_delta, fresh_leader, leader_record, no_request, no_value}
use Rattle.sl_area.specs.Sectors.{Apart, KeepsOthers, SectorPlace}
use Rattle.sl_direct.proofs.DiskLaws.{AllApart, BrokeOff-behind, BrokeOff-front, Wrote-append, broke_first}
use Rattle.sl_direct.specs.FreshAreas.{Write, block_write, block_writes, delta_write, label_write, labelled_writes, leader_write, lockspace_writes, place_of, request_write, resource_writes, value_write, write_of}
use Rattle.sl_direct.specs.HalfDone.{BrokeOff, Wrote}
use Rattle.sl_label.specs.Labels.{label_record}
use Rattle.sl_label.specs.declared.label.Label.{Label}
use Rattle.sl_sector.proofs.SpellingLaws.{length-spelling}
use Rattle.sl_sector.proofs.WrittenBytes.{sha256_is_digest}
use Rattle.sl_sector.specs.Records.{IsRecord}
use Rattle.sl_sector.specs.SectorLayouts.{IsSectorSize, spelling}
use Rattle.sl_sector.specs.declared.sector.Rec.TheVariants.{DeltaIs, RequestIs, ValueIs}
use Rattle.sl_sector.specs.declared.sector.Rec.{Rec}
use Rattle.sl_text.specs.Names.{is_name}
use Rattle.std.proofs.Common.{All, Bool, Err, IsTrue, List, Ok, Option, Result, [], arith, inl, inr, length, map, refl, subst, suc, sym, true, zero, ap, false, ℕ, ◌%◌, ◌*◌, ◌++◌, ◌+◌, ◌-◌, ◌/◌, ◌<◌, ◌∷◌, ◌≡◌, ◌≢◌, ◌≤◌, ◌⊎◌}
use Rattle.std.proofs.lemmas.Bool.{eqb-false, eqb-true}
use Rattle.std.proofs.lemmas.List.Elements.{All-append, All-cons, All-head, All-nil, All-tail}
use Rattle.std.specs.List.{range_with_len}
use Rattle.std.specs.Prelude.{OnErr, OnOk, if◌then◌else◌, ◌==◌}

-- ---- sectors

pub sector_size : (g : Sizes) → IsGeometry g → IsSectorSize g.sector
sector_size g is = (has_room g is).sector

pub length-sector : (size : ℕ) (r : Rec) → IsSectorSize size → IsRecord r → length (spelling sha256 size r) ≡ size
length-sector size r sized is = length-spelling sha256 sha256_is_digest size r sized is

-- A write that failed is the first of its own.
pub write_failed : {E : Type 0} (result : Result (Unit {0}) E) (at size : ℕ) (r : Rec) (a b : Option (List ℕ)) → IsSectorSize size → IsRecord r
    → OnErr result (KeepsOthers a b (record { offset = at; size = size })) → OnErr result (BrokeOff (write_of size at r ∷ []) a b)
write_failed (Ok x) at size r a b sized is kept = tt
write_failed (Err e) at size r a b sized is kept = broke_first (write_of size at r) size a b (sym (length-sector size r sized is)) kept

-- The same at another name of its place, and of its record.
pub wrote_as : {E : Type 0} (result : Result (Unit {0}) E) (at p : SectorPlace) (r s : Rec) (a b : Option (List ℕ)) → at ≡ p → r ≡ s
    → OnOk result (Wrote (write_of at.size at.offset r ∷ []) a b) → OnOk result (Wrote (write_of p.size p.offset s ∷ []) a b)
wrote_as result at p r s a b place rec h =
    subst (λ (x : Rec). OnOk result (Wrote (write_of p.size p.offset x ∷ []) a b)) rec
    (subst (λ (q : SectorPlace). OnOk result (Wrote (write_of q.size q.offset r ∷ []) a b)) place h)

pub broke_as : {E : Type 0} (result : Result (Unit {0}) E) (at p : SectorPlace) (r s : Rec) (a b : Option (List ℕ)) → at ≡ p → r ≡ s
    → OnErr result (BrokeOff (write_of at.size at.offset r ∷ []) a b) → OnErr result (BrokeOff (write_of p.size p.offset s ∷ []) a b)
broke_as result at p r s a b place rec h =
    subst (λ (x : Rec). OnErr result (BrokeOff (write_of p.size p.offset x ∷ []) a b)) rec
    (subst (λ (q : SectorPlace). OnErr result (BrokeOff (write_of q.size q.offset r ∷ []) a b)) place h)

-- ---- a label's write, behind those of its lockspace

pub label_wrote : (ws : List Write) (at p : SectorPlace) (r s : Rec) (a b c : Option (List ℕ)) → at ≡ p → r ≡ s → Wrote ws a b → Wrote (write_of at.size at.offset r ∷ []) b c
    → Wrote (ws ++ write_of p.size p.offset s ∷ []) a c
label_wrote ws at p r s a b c place rec first last =
    Wrote-append ws (write_of p.size p.offset s ∷ []) a b c first
    (subst (λ (x : Rec). Wrote (write_of p.size p.offset x ∷ []) b c) rec (subst (λ (q : SectorPlace). Wrote (write_of q.size q.offset r ∷ []) b c) place last))

pub label_broke : (ws : List Write) (at p : SectorPlace) (r s : Rec) (a b c : Option (List ℕ)) → at ≡ p → r ≡ s → Wrote ws a b → BrokeOff (write_of at.size at.offset r ∷ []) b c
    → BrokeOff (ws ++ write_of p.size p.offset s ∷ []) a c
label_broke ws at p r s a b c place rec first broke =
    BrokeOff-behind ws (write_of p.size p.offset s ∷ []) a b c first
    (subst (λ (x : Rec). BrokeOff (write_of p.size p.offset x ∷ []) b c) rec (subst (λ (q : SectorPlace). BrokeOff (write_of q.size q.offset r ∷ []) b c) place broke))

-- ---- a resource's writes, one behind another

-- All of them.
pub resource_wrote : (r : Write) (bs : List Write) (v l : Write) (a b c d e : Option (List ℕ)) → Wrote (r ∷ []) a b → Wrote bs b c → Wrote (v ∷ []) c d → Wrote (l ∷ []) d e
    → Wrote (r ∷ (bs ++ v ∷ l ∷ [])) a e
resource_wrote r bs v l a b c d e first second third last =
    Wrote-append (r ∷ []) (bs ++ v ∷ l ∷ []) a b e first (Wrote-append bs (v ∷ l ∷ []) b c e second (Wrote-append (v ∷ []) (l ∷ []) c d e third last))

-- The request's failed.
pub request_broke : (r : Write) (bs : List Write) (v l : Write) (a b : Option (List ℕ)) → BrokeOff (r ∷ []) a b → BrokeOff (r ∷ (bs ++ v ∷ l ∷ [])) a b
request_broke r bs v l a b broke = BrokeOff-front (r ∷ []) (bs ++ v ∷ l ∷ []) a b broke

-- A block's.
pub block_broke : (r : Write) (bs : List Write) (v l : Write) (a b c : Option (List ℕ)) → Wrote (r ∷ []) a b → BrokeOff bs b c → BrokeOff (r ∷ (bs ++ v ∷ l ∷ [])) a c
block_broke r bs v l a b c first broke =
    BrokeOff-behind (r ∷ []) (bs ++ v ∷ l ∷ []) a b c first (BrokeOff-front bs (v ∷ l ∷ []) b c broke)

-- The value's.
pub value_broke : (r : Write) (bs : List Write) (v l : Write) (a b c d : Option (List ℕ)) → Wrote (r ∷ []) a b → Wrote bs b c → BrokeOff (v ∷ []) c d
    → BrokeOff (r ∷ (bs ++ v ∷ l ∷ [])) a d
value_broke r bs v l a b c d first second broke =
    BrokeOff-behind (r ∷ []) (bs ++ v ∷ l ∷ []) a b d first
    (BrokeOff-behind bs (v ∷ l ∷ []) b c d second (BrokeOff-front (v ∷ []) (l ∷ []) c d broke))

-- The leader's.
pub leader_broke : (r : Write) (bs : List Write) (v l : Write) (a b c d e : Option (List ℕ)) → Wrote (r ∷ []) a b → Wrote bs b c → Wrote (v ∷ []) c d → BrokeOff (l ∷ []) d e
    → BrokeOff (r ∷ (bs ++ v ∷ l ∷ [])) a e
leader_broke r bs v l a b c d e first second third broke =
    BrokeOff-behind (r ∷ []) (bs ++ v ∷ l ∷ []) a b e first
    (BrokeOff-behind bs (v ∷ l ∷ []) b c e second (BrokeOff-behind (v ∷ []) (l ∷ []) c d e third broke))

-- The k-th of the sectors that the blocks have, if these are pairs.
pub pair_of_sector : (g : Layout) (base k : ℕ) → pair_offset g base ((k + 1) / 2) (k % 2 == 1) ≡ block_offset g base k
pair_of_sector g base k = ap (λ (n : ℕ). base + g.sector * n) (by (k % 2 == 1) refl)
  where
    by : (first : Bool) → (k % 2 == 1) ≡ first → 2 * ((k + 1) / 2) + (if first then 0 else 1) ≡ k + 1
    by true e = let odd : k % 2 ≡ 1 = eqb-true (k % 2) 1 e in omega (arith, odd)
    by false e = let even : k % 2 ≢ 1 = eqb-false (k % 2) 1 e in omega (arith, even)

-- ---- the sectors are apart

abbrev IsApartFrom : Write → Write → Type 0
IsApartFrom w v = Apart (place_of w) (place_of v)

-- Two sectors of which one begins where the other has ended.
sectors_apart : (size a b : ℕ) (r s : Rec) → IsSectorSize size → IsRecord r → IsRecord s → ((a + size ≤ b) ⊎ (b + size ≤ a))
    → IsApartFrom (write_of size a r) (write_of size b s)
sectors_apart size a b r s sized first second (inl le) = inl (subst (λ (n : ℕ). a + n ≤ b) (sym (length-sector size r sized first)) le)
sectors_apart size a b r s sized first second (inr le) = inr (subst (λ (n : ℕ). b + n ≤ a) (sym (length-sector size s sized second)) le)

-- A sector ends where one of a greater number begins, or before.
numbered_apart : (base sector i j : ℕ) → i < j → base + sector * i + sector ≤ base + sector * j
numbered_apart base sector i j less =
    let last : sector * (i + 1) ≤ sector * j = grind (arith) in
    let next : sector * (i + 1) ≡ sector * i + sector = grind (arith) in
    omega (arith, last, next)

-- Two ids.
ids_apart : (base sector i j : ℕ) → 1 ≤ i → i < j → base + sector * (i - 1) + sector ≤ base + sector * (j - 1)
ids_apart base sector i j some less = numbered_apart base sector (i - 1) (j - 1) (omega (arith, some, less))

-- The request, behind which the blocks stand.
behind_request : (base sector k : ℕ) → 1 ≤ k → base + sector + sector ≤ base + sector * (k + 1)
behind_request base sector k some =
    let first : sector * 1 ≡ sector = omega arith in
    let apart = numbered_apart base sector 1 (k + 1) (omega (arith, some)) in
    omega (arith, first, apart)

-- The leader, behind which they stand too.
behind_leader : (base sector k : ℕ) → base + sector ≤ base + sector * (k + 1)
behind_leader base sector k =
    let first : sector * 0 ≡ 0 = omega arith in
    let apart = numbered_apart base sector 0 (k + 1) (omega arith) in
    omega (arith, first, apart)

-- A block, behind which the value stands.
before_value : (base sector k hosts area : ℕ) → k ≤ hosts → sector * (hosts + 3) ≤ area → base + sector * (k + 1) + sector ≤ base + area - sector
before_value base sector k hosts area below room =
    let most : sector * (k + 3) ≤ sector * (hosts + 3) = grind (arith) in
    let ends : sector * (k + 3) ≡ sector * (k + 1) + sector + sector = grind (arith) in
    omega (arith, room, most, ends)

-- The first two sectors, behind which it stands too.
first_two : (base sector hosts area : ℕ) → sector * (hosts + 3) ≤ area → base + sector + sector ≤ base + area - sector
first_two base sector hosts area room =
    let most : sector * 3 ≤ sector * (hosts + 3) = grind (arith) in
    omega (arith, room, most)

first_one : (base sector hosts area : ℕ) → sector * (hosts + 3) ≤ area → base + sector ≤ base + area - sector
first_one base sector hosts area room = let two = first_two base sector hosts area room in omega (arith, two)

all_of_range : (P : Write → Type 0) (f : ℕ → Write) (a n : ℕ) → ((k : ℕ) → a ≤ k → k < a + n → P (f k)) → All P (map f (range_with_len a n))
all_of_range P f a zero each = All-nil P
all_of_range P f a (suc n) each =
    All-cons P (f a) (map f (range_with_len (a + 1) n)) (each a (omega arith) (omega arith))
    (all_of_range P f (a + 1) n (λ k low high. each k (omega (arith, low)) (omega (arith, high))))

apart_in_range : (f : ℕ → Write) (a n : ℕ) → ((i j : ℕ) → a ≤ i → i < j → j < a + n → IsApartFrom (f i) (f j)) → AllApart (map f (range_with_len a n))
apart_in_range f a zero each = tt
apart_in_range f a (suc n) each = (
  all_of_range (IsApartFrom (f a)) f (a + 1) n (λ k low high. each a k (omega arith) (omega (arith, low)) (omega (arith, high))),
  apart_in_range f (a + 1) n (λ i j low less high. each i j (omega (arith, low)) less (omega (arith, high))),
)

apart_joined : (xs ys : List Write) → AllApart xs → AllApart ys → All (λ x. All (IsApartFrom x) ys) xs → AllApart (xs ++ ys)
apart_joined [] ys first second across = second
apart_joined (x ∷ xs) ys first second across = (
  All-append (IsApartFrom x) xs ys first.0 (All-head (λ v. All (IsApartFrom v) ys) x xs across),
  apart_joined xs ys first.1 second (All-tail (λ v. All (IsApartFrom v) ys) x xs across),
)

-- A lockspace's.
pub lockspace_apart : (g : Sizes) (name : List ℕ) (base : ℕ) → IsGeometry g → IsTrue (is_name name) → AllApart (lockspace_writes (layout_of g) name base)
lockspace_apart g name base is named =
    let room : HasRoom g = has_room g is in
    apart_in_range (delta_write (layout_of g) name base) 1 g.hosts
    (λ i j low less high.
    sectors_apart g.sector _ _ (DeltaIs (fresh_delta name i)) (DeltaIs (fresh_delta name j)) room.sector (fresh_delta_is name i named low (omega (arith, low, less, high, room.hosts.1)))
    (fresh_delta_is name j named (omega (arith, low, less)) (omega (arith, high, room.hosts.1))) (inl (ids_apart base g.sector i j low less)))

-- .. with its label, which stands behind the ids' records.
before_label : (base sector i hosts area : ℕ) → 1 ≤ i → i ≤ hosts → sector * (hosts + 3) ≤ area → base + sector * (i - 1) + sector ≤ base + area - sector
before_label base sector i hosts area some below room =
    let next : base + sector * (i - 1) + sector ≤ base + sector * i = numbered_apart base sector (i - 1) i (omega (arith, some)) in
    let here : (i - 1) + 1 ≡ i = omega (arith, some) in
    let last : base + sector * i + sector ≤ base + area - sector =
    subst (λ (n : ℕ). base + sector * n + sector ≤ base + area - sector) here (before_value base sector (i - 1) hosts area (omega (arith, below)) room) in
    omega (arith, next, last)

pub labelled_apart : (g : Sizes) (l : Label) (base : ℕ) → IsGeometry g → IsTrue (is_name l.lockspace) → IsRecord (label_record l) → AllApart (labelled_writes (layout_of g) l base)
labelled_apart g l base is named label_is =
    let room : HasRoom g = has_room g is in
    let label : Write = label_write (layout_of g) base l in
    let delta = λ (i : ℕ). delta_write (layout_of g) l.lockspace base i in
    apart_joined (lockspace_writes (layout_of g) l.lockspace base) (label ∷ []) (lockspace_apart g l.lockspace base is named) (All-nil _, tt)
    (all_of_range (λ x. All (IsApartFrom x) (label ∷ [])) delta 1 g.hosts
    (λ i low high.
    All-cons (IsApartFrom (delta i)) label []
    (sectors_apart g.sector _ _ (DeltaIs (fresh_delta l.lockspace i)) (label_record l) room.sector
    (fresh_delta_is l.lockspace i named low (omega (arith, high, room.hosts.1))) label_is (inl (before_label base g.sector i g.hosts g.area low (omega (arith, high)) room.room)))
    (All-nil _)))

-- A resource's.
pub resource_apart : (g : Sizes) (space name : List ℕ) (base : ℕ) → IsGeometry g → IsTrue (is_name space) → IsTrue (is_name name)
    → AllApart (resource_writes (layout_of g) space name base)
resource_apart g space name base is a b =
    let room : HasRoom g = has_room g is in
    let size : ℕ = g.sector in
    let sized : IsSectorSize size = room.sector in
    let layout : Layout = layout_of g in
    let block = λ (k : ℕ). block_write layout space name base k in
    let sectors : ℕ = block_sectors layout in
    let value : Write = value_write layout base in
    let leader : Write = leader_write layout space name base in
    let request : Write = request_write layout base in
    let fresh : Rec = leader_record layout (fresh_leader layout space name) in
    let fresh_block = λ (k : ℕ). fresh_block_at layout space name (k + 1) in
    let is_leader : IsRecord fresh = leader_record_is g space name is a b in
    let is_block : (k : ℕ) → 1 ≤ k → k < 1 + sectors → IsRecord (fresh_block k) = λ k low high. fresh_block_at_is g space name (k + 1) is a b (omega (arith, low)) (omega (arith, high)) in
    let last : AllApart (value ∷ leader ∷ []) = (
      All-cons (IsApartFrom value) leader []
          (sectors_apart size _ _ (ValueIs no_value) fresh sized no_value_is is_leader (inr (first_one base size g.hosts g.area room.room))) (All-nil _),
      (All-nil _, tt),
    ) in
    let blocks : AllApart (block_writes layout space name base) =
    apart_in_range block 1 sectors
    (λ i j low less high.
    sectors_apart size _ _ (fresh_block i) (fresh_block j) sized (is_block i low (omega (arith, less, high))) (is_block j (omega (arith, low, less)) high)
    (inl (numbered_apart base size (i + 1) (j + 1) (omega (arith, less))))) in
    let across : All (λ x. All (IsApartFrom x) (value ∷ leader ∷ [])) (block_writes layout space name base) =
    all_of_range (λ x. All (IsApartFrom x) (value ∷ leader ∷ [])) block 1 sectors
    (λ k low high.
    All-cons (IsApartFrom (block k)) value (leader ∷ [])
    (sectors_apart size _ _ (fresh_block k) (ValueIs no_value) sized (is_block k low high) no_value_is
    (inl (before_value base size k sectors g.area (omega (arith, high)) room.blocks)))
    (All-cons (IsApartFrom (block k)) leader []
    (sectors_apart size _ _ (fresh_block k) fresh sized (is_block k low high) is_leader (inr (behind_leader base size k))) (All-nil _))) in (
      All-append (IsApartFrom request) (block_writes layout space name base) (value ∷ leader ∷ [])
          (all_of_range (IsApartFrom request) block 1 sectors
          (λ k low high. sectors_apart size _ _ (RequestIs no_request) (fresh_block k) sized no_request_is (is_block k low high) (inl (behind_request base size k low))))
          (All-cons (IsApartFrom request) value (leader ∷ [])
          (sectors_apart size _ _ (RequestIs no_request) (ValueIs no_value) sized no_request_is no_value_is (inl (first_two base size g.hosts g.area room.room)))
          (All-cons (IsApartFrom request) leader []
          (sectors_apart size _ _ (RequestIs no_request) fresh sized no_request_is is_leader (inr (omega arith))) (All-nil _))),
      apart_joined (block_writes layout space name base) (value ∷ leader ∷ []) blocks last across,
    )
