-- What stands after an initialising, in the words of records; and what a look then tells.
use Rattle.sha2.specs.Sha256.{sha256}
use Rattle.sl_area.specs.AreaSizes.{Layout, Sizes, layout_of}
use Rattle.sl_area.specs.AreaLayout.{block_offset, block_sectors, delta_offset, pair_offset, request_offset, value_offset}
use Rattle.sl_area.specs.AreaRecords.{fresh_block, fresh_block_at, fresh_delta, fresh_leader, fresh_pair, leader_record, no_request, no_value}
use Rattle.sl_area.specs.Sectors.{Apart}
use Rattle.sl_direct.proofs.DiskLaws.{AllApart, all_left, all_right, front_apart}
use Rattle.sl_area.proofs.SizeLaws.{has_room, sectors_of_blocks, sectors_of_pairs}
use Rattle.sl_area.proofs.FreshRecords.{fresh_block_at_is, fresh_delta_is, leader_record_is, no_request_is, no_value_is}
use Rattle.sl_direct.proofs.FreshLaws.{length-sector, resource_apart, sector_size}
use Rattle.sl_direct.proofs.LookLaws.{and_nothing}
use Rattle.sl_direct.specs.Actions.{Acts, AreReadAt, Directs, IsAction, IsFront}
use Rattle.sl_direct.specs.Disks.{HoldsFront, IsInitialised, IsOutside, Stands}
use Rattle.sl_direct.specs.FreshAreas.{Write, block_write, block_writes, delta_write, leader_write, place_of, request_write, resource_writes, value_write, write_of}
use Rattle.sl_direct.specs.Laws.{InitialisedIsFound, IsFreshResource, LeaderIsLast, LeaderIsTold, LockspaceStands, ResourceStands, has_its_leader, sector_at, spelled_at}
use Rattle.sl_direct.specs.Lines.{is_its_leader, leader_found, leader_in_sector}
use Rattle.sl_direct.specs.declared.action.Action.TheVariants.{Dump, InitLabelled, InitLockspace, InitResource, ReadLeader, Upgrade}
use Rattle.sl_direct.specs.declared.action.Action.{Action}
use Rattle.sl_direct.specs.declared.action.Directed.TheVariants.{Done, NotTheLeader, WriteFault}
use Rattle.sl_direct.specs.declared.action.Directed.{Directed}
use Rattle.sl_sector.proofs.SpellingLaws.{read_again}
use Rattle.sl_sector.proofs.WrittenBytes.{sha256_is_digest}
use Rattle.sl_sector.specs.Records.{IsRecord}
use Rattle.sl_sector.specs.SectorLayouts.{IsSectorSize, decoded, spelling}
use Rattle.sl_sector.specs.declared.sector.Rec.TheVariants.{BlockIs, DeltaIs, LeaderIs, PairIs, PairLeaderIs, RequestIs, ValueIs}
use Rattle.sl_sector.specs.declared.sector.Leader.{Leader}
use Rattle.sl_sector.specs.declared.sector.Rec.{Rec}
use Rattle.sl_trace.specs.declared.command.ResourceArg.{ResourceArg}
use Rattle.sl_words.proofs.CaseLaws.{not_both, true_is_false}
use Rattle.sl_io.specs.FaultCauses.{Rose}
use Rattle.std.proofs.Common.{All, Bool, List, None, Ok, Option, Some, [], ap, append_assoc, arith, drop, false, get_or, inl, inr, length, map, refl, subst, suc, sym, take, true, zero, ℕ, ◌%◌, ◌*◌, ◌++◌, ◌+◌, ◌-◌, ◌/◌, ◌<◌, ◌∙◌, ◌∷◌, ◌≡◌, ◌≤◌, ◌⊎◌}
use Rattle.std.proofs.lemmas.List.Elements.{All-cons, All-head, All-nil, All-tail, All-weaker}
use Rattle.std.proofs.lemmas.List.FromFn.{get_or-map-range_with_len, length-map-range_with_len}
use Rattle.std.proofs.lemmas.List.{ext_get_or, get_or-drop, get_or-take, length-drop, length-take, same_from_push}
use Rattle.std.proofs.lemmas.Slice.Eq.{bytes_eq-Decides}
use Rattle.std.specs.List.{list_all, range_with_len}
use Rattle.std.specs.Prelude.{bytes_eq, if◌then◌else◌, min, ◌&&◌}

-- ---- what stands is read

stands_spelled : (size : ℕ) (content : List ℕ) (at : ℕ) (r : Rec) → IsSectorSize size → IsRecord r → Stands content (write_of size at r) → spelled_at size at content ≡ Ok r
stands_spelled size content at r sized is stands =
    let here : sector_at size at content ≡ spelling sha256 size r = ap (λ (n : ℕ). take n (drop at content)) (sym (length-sector size r sized is)) ∙ stands.1 in
    ap (decoded sha256) here ∙ read_again sha256 sha256_is_digest size r sized is

of_range : (P : Write → Type 0) (f : ℕ → Write) (n id : ℕ) → 1 ≤ id → id ≤ n → All P (map f (range_with_len 1 n)) → P (f id)
of_range P f n id low high all =
    let place : get_or (map f (range_with_len 1 n)) (id - 1) (f id) ≡ f id = get_or-map-range_with_len f 1 n (id - 1) id (f id) (omega arith) (omega arith) in
    subst P place (all (id - 1) (f id) (in_range f n id low high))
  where
    in_range : (f : ℕ → Write) (n id : ℕ) → 1 ≤ id → id ≤ n → id - 1 < length (map f (range_with_len 1 n))
    in_range f n id low high = rw (length-map-range_with_len f 1 n) (omega (arith, low, high))

pub lockspace_stands : LockspaceStands
lockspace_stands g name base before after is named holds id low high =
    let layout : Layout = layout_of g in
    stands_spelled g.sector after (delta_offset layout base id) (DeltaIs (fresh_delta name id)) (sector_size g is)
    (fresh_delta_is name id named low (omega (arith, high, (has_room g is).hosts.1)))
    (of_range (Stands after) (delta_write layout name base) g.hosts id low high holds.each)

-- The blocks' sectors by hosts: one for each, or the two of a pair.
block_by_host : (g : Sizes) (space name : List ℕ) (base : ℕ) (content : List ℕ)
    → ((k : ℕ) → 1 ≤ k → k ≤ block_sectors (layout_of g) → spelled_at g.sector (block_offset (layout_of g) base k) content ≡ Ok (fresh_block_at (layout_of g) space name (k + 1)))
    → g.paired ≡ false → (id : ℕ) → 1 ≤ id → id ≤ g.hosts → spelled_at g.sector (block_offset (layout_of g) base id) content ≡ Ok (BlockIs (fresh_block id))
block_by_host g space name base content each e id low high =
    let one : id + 1 - 1 ≡ id = omega arith in
    let sectors = sectors_of_blocks g e in
    let here : fresh_block_at (layout_of g) space name (id + 1) ≡ BlockIs (fresh_block id) =
    ap (λ (p : Bool). elim p as (λ _. Rec) [ false ↦ BlockIs (fresh_block (id + 1 - 1)) | true ↦ PairIs (fresh_pair ((id + 1) / 2) (1 + (id + 1) % 2) space name) ]) e
    ∙ ap (λ (n : ℕ). BlockIs (fresh_block n)) one in
    each id low (omega (arith, high, sectors)) ∙ ap (λ (r : Rec). Ok r) here

pair_by_host : (g : Sizes) (space name : List ℕ) (base : ℕ) (content : List ℕ)
    → ((k : ℕ) → 1 ≤ k → k ≤ block_sectors (layout_of g) → spelled_at g.sector (block_offset (layout_of g) base k) content ≡ Ok (fresh_block_at (layout_of g) space name (k + 1)))
    → g.paired ≡ true → (id : ℕ) → 1 ≤ id → id ≤ g.hosts → (first : Bool)
    → spelled_at g.sector (pair_offset (layout_of g) base id first) content ≡ Ok (PairIs (fresh_pair id (if first then 1 else 2) space name))
pair_by_host g space name base content each e id low high first = by first
  where
    layout : Layout
    layout = layout_of g

    at : (k n turn : ℕ) → 1 ≤ k → k ≤ 2 * g.hosts → k + 1 ≡ n → n / 2 ≡ id → 1 + n % 2 ≡ turn
        → spelled_at g.sector (base + g.sector * n) content ≡ Ok (PairIs (fresh_pair id turn space name))
    at k n turn some within next half odd =
        let here : fresh_block_at layout space name n ≡ PairIs (fresh_pair id turn space name) =
        ap (λ (p : Bool). elim p as (λ _. Rec) [ false ↦ BlockIs (fresh_block (n - 1)) | true ↦ PairIs (fresh_pair (n / 2) (1 + n % 2) space name) ]) e
        ∙ ap (λ (h : ℕ). PairIs (fresh_pair h (1 + n % 2) space name)) half ∙ ap (λ (t : ℕ). PairIs (fresh_pair id t space name)) odd in
        let sectors = sectors_of_pairs g e in
        ap (λ (m : ℕ). spelled_at g.sector (base + g.sector * m) content) (sym next) ∙ each k some (omega (arith, within, sectors)) ∙ ap (λ (m : ℕ). Ok (fresh_block_at layout space name m)) next
        ∙ ap (λ (r : Rec). Ok r) here

    by : (b : Bool) → spelled_at g.sector (pair_offset layout base id b) content ≡ Ok (PairIs (fresh_pair id (if b then 1 else 2) space name))
    by true = at (2 * id - 1) (2 * id + 0) 1 (omega (arith, low)) (omega (arith, high)) (omega (arith, low)) (omega arith) (omega arith)
    by false = at (2 * id) (2 * id + 1) 2 (omega (arith, low)) (omega (arith, high)) (omega arith) (omega arith) (omega arith)

pub resource_stands : ResourceStands
resource_stands g space name base before after is a b holds =
    let layout : Layout = layout_of g in
    let stands = Stands after in
    let sized : IsSectorSize g.sector = sector_size g is in
    let request : Write = request_write layout base in
    let value : Write = value_write layout base in
    let leader : Write = leader_write layout space name base in
    let block = block_write layout space name base in
    let writes : List Write = block_writes layout space name base in
    let rest : All stands (writes ++ value ∷ leader ∷ []) = All-tail stands request (writes ++ value ∷ leader ∷ []) holds.each in
    let last : All stands (value ∷ leader ∷ []) = all_right stands writes (value ∷ leader ∷ []) rest in
    let each : (k : ℕ) → 1 ≤ k → k ≤ block_sectors layout → spelled_at g.sector (block_offset layout base k) after ≡ Ok (fresh_block_at layout space name (k + 1)) =
    λ k low high.
    stands_spelled g.sector after (block_offset layout base k) (fresh_block_at layout space name (k + 1)) sized (fresh_block_at_is g space name (k + 1) is a b (omega (arith, low)) (omega (arith, high)))
    (of_range stands block (block_sectors layout) k low high (all_left stands writes (value ∷ leader ∷ []) rest)) in
    record {
      leader = stands_spelled g.sector after base (leader_record layout (fresh_leader layout space name)) sized (leader_record_is g space name is a b)
          (All-head stands leader [] (All-tail stands value (leader ∷ []) last));
      request = stands_spelled g.sector after (request_offset layout base) (RequestIs no_request) sized no_request_is
          (All-head stands request (writes ++ value ∷ leader ∷ []) holds.each);
      blocks = block_by_host g space name base after each;
      pairs = pair_by_host g space name base after each;
      value = stands_spelled g.sector after (value_offset layout base) (ValueIs no_value) sized no_value_is (All-head stands value (leader ∷ []) last);
    }

-- ---- the leader stands last

cons_head : {X : Type 0} (x y : X) (xs ys : List X) → x ∷ xs ≡ y ∷ ys → x ≡ y
cons_head x y xs ys e = cc

cons_tail : {X : Type 0} (x y : X) (xs ys : List X) → x ∷ xs ≡ y ∷ ys → xs ≡ ys
cons_tail x y xs ys e = cc

some_not_none : {X : Type 0} (ys : List X) (z : X) (zs : List X) → ys ++ z ∷ zs ≡ [] → ⊥
some_not_none [] z zs e = cc
some_not_none (y ∷ ys) z zs e = cc

front_all : {X : Type 0} (P : X → Type 0) (ys : List X) (z : X) (zs xs : List X) (l : X) → ys ++ z ∷ zs ≡ xs ++ l ∷ [] → All P xs → All P ys
front_all P [] z zs xs l e all = All-nil P
front_all P (y ∷ ys) z zs [] l e all = absurd (some_not_none ys z zs (cons_tail y l (ys ++ z ∷ zs) [] e))
front_all P (y ∷ ys) z zs (x ∷ xs) l e all =
    All-cons P y ys (subst P (sym (cons_head y x (ys ++ z ∷ zs) (xs ++ l ∷ []) e)) (All-head P x xs all))
    (front_all P ys z zs xs l (cons_tail y x (ys ++ z ∷ zs) (xs ++ l ∷ []) e) (All-tail P x xs all))

before_or_last : {X : Type 0} (P : X → Type 0) (done : List X) (next : X) (rest xs : List X) (l : X) → done ++ next ∷ rest ≡ xs ++ l ∷ [] → All P xs
    → (All P (done ++ next ∷ []) ⊎ (next ≡ l))
before_or_last P done next [] xs l e all = inr (same_from_push done xs next l e).1
before_or_last P done next (r ∷ rs) xs l e all = inl (front_all P (done ++ next ∷ []) r rs xs l (append_assoc done (next ∷ []) (r ∷ rs) ∙ e) all)

apart_outside : (w leader : Write) (at i : ℕ) → at ≡ leader.offset + i → i < length leader.sector → Apart (place_of w) (place_of leader) → IsOutside at w
apart_outside w leader at i is less (inl le) = inr (omega (arith, le, is))
apart_outside w leader at i is less (inr le) = inl (omega (arith, le, is, less))

same_sector : (bytes : ℕ) (before after : List ℕ) (ws : List Write) (leader : Write) → length leader.sector ≡ bytes → length after ≡ length before
    → ((at : ℕ) → All (IsOutside at) ws → get_or after at 0 ≡ get_or before at 0) → All (λ w. Apart (place_of w) (place_of leader)) ws
    → sector_at bytes leader.offset after ≡ sector_at bytes leader.offset before
same_sector bytes before after ws leader size long others apart =
    let base : ℕ = leader.offset in
    let count : (xs : List ℕ) → length (sector_at bytes base xs) ≡ min bytes (length xs - base) =
    λ (xs : List ℕ). length-take bytes (drop base xs) ∙ ap (min bytes) (length-drop base xs) in
    let byte : (xs : List ℕ) (i : ℕ) → i < bytes → get_or (sector_at bytes base xs) i 0 ≡ get_or xs (base + i) 0 =
    λ (xs : List ℕ) (i : ℕ) (less : i < bytes). get_or-take bytes (drop base xs) i 0 less ∙ get_or-drop base xs i 0 in
    ext_get_or 0 (sector_at bytes base after) (sector_at bytes base before) (count after ∙ ap (λ (n : ℕ). min bytes (n - base)) long ∙ sym (count before))
    (λ i within.
    let less : i < bytes = omega (arith, within, count after) in
    let outside : All (IsOutside (base + i)) ws =
    All-weaker (λ w. Apart (place_of w) (place_of leader)) (IsOutside (base + i)) (λ w. apart_outside w leader (base + i) i refl (omega (arith, less, size))) ws apart in
    byte after i less ∙ others (base + i) outside ∙ sym (byte before i less))

pub leader_is_last : LeaderIsLast
leader_is_last g space name base before after is a b front =
    let layout : Layout = layout_of g in
    let leader : Write = leader_write layout space name base in
    let others : List Write = request_write layout base ∷ (block_writes layout space name base ++ value_write layout base ∷ []) in
    let whole : resource_writes layout space name base ≡ others ++ leader ∷ [] =
    ap (λ ws. request_write layout base ∷ ws) (sym (append_assoc (block_writes layout space name base) (value_write layout base ∷ []) (leader ∷ []))) in
    let apart : All (λ w. Apart (place_of w) (place_of leader)) others =
    (front_apart others leader [] (subst AllApart whole (resource_apart g space name base is a b))).1 in
    last_by g.sector before after front leader others
    (length-sector g.sector (leader_record layout (fresh_leader layout space name)) (sector_size g is) (leader_record_is g space name is a b))
    (before_or_last (λ w. Apart (place_of w) (place_of leader)) front.done front.next front.rest others leader (sym front.split ∙ whole) apart)
  where
    last_by : {ws : List Write} (bytes : ℕ) (before after : List ℕ) (front : HoldsFront ws before after) (leader : Write) (others : List Write) → length leader.sector ≡ bytes
        → (All (λ w. Apart (place_of w) (place_of leader)) (front.done ++ front.next ∷ []) ⊎ (front.next ≡ leader))
        → (sector_at bytes leader.offset after ≡ sector_at bytes leader.offset before) ⊎ (front.next ≡ leader)
    last_by bytes before after front leader others size (inl apart) =
        inl (same_sector bytes before after (front.done ++ front.next ∷ []) leader size front.long front.others apart)
    last_by bytes before after front leader others size (inr is) = inr is

-- ---- what a look tells

pub ended_as : (put output : List ℕ) (went d : Directed) (faults later : ℕ) → ((put ≡ output) × (d ≡ went)) ⊎ (IsFront put output × (d ≡ WriteFault) × Rose faults later)
    → (d ≡ WriteFault → ⊥) → went ≡ d
ended_as put output went d faults later (inl whole) other = sym whole.1
ended_as put output went d faults later (inr cut) other = absurd (other cut.1)

pub done_is_none : Done ≡ WriteFault → ⊥
done_is_none e = cc

pub refused_is_none : NotTheLeader ≡ WriteFault → ⊥
refused_is_none e = cc

acted_done : (a : Action) (content after : Option (List ℕ)) (faults later : ℕ) (taken now : Option (List ℕ)) (sink_faults sink_later : ℕ)
    → Directs a content after faults later taken now sink_faults sink_later Done → (lines : List (List ℕ)) × Acts a content after lines Done
acted_done a content after faults later taken now sink_faults sink_later run =
    (run.lines, subst (Acts a content after run.lines) (ended_as run.output.put _ run.went Done sink_faults sink_later run.output.is_put done_is_none) run.acts)

acted_refused : (a : Action) (content after : Option (List ℕ)) (faults later : ℕ) (taken now : Option (List ℕ)) (sink_faults sink_later : ℕ)
    → Directs a content after faults later taken now sink_faults sink_later NotTheLeader → (lines : List (List ℕ)) × Acts a content after lines NotTheLeader
acted_refused a content after faults later taken now sink_faults sink_later run =
    (run.lines, subst (Acts a content after run.lines) (ended_as run.output.put _ run.went NotTheLeader sink_faults sink_later run.output.is_put refused_is_none) run.acts)

no_such_length : (n : ℕ) → suc (suc n) ≡ 1 → ⊥
no_such_length n e = omega (arith, e)

none_is_not_one : zero ≡ suc zero → ⊥
none_is_not_one e = omega (arith, e)

sector_seen : (content : List ℕ) (size offset : ℕ) (ss : List (List ℕ)) → AreReadAt (Some content) size offset ss → length ss ≡ 1 → ss ≡ sector_at size offset content ∷ []
sector_seen content size offset [] read one = absurd (none_is_not_one one)
sector_seen content size offset (s ∷ []) read one =
    ap (λ (x : List ℕ). x ∷ []) (read.1.1 ∙ ap (λ (n : ℕ). take n (drop offset content)) read.0)
sector_seen content size offset (s ∷ t ∷ u) read one = absurd (no_such_length (length u) one)

right_of_one : (r : ResourceArg) (size : ℕ) (content : List ℕ) (ss : List (List ℕ)) → ss ≡ sector_at size r.offset content ∷ []
    → list_all (λ s. is_its_leader r (leader_in_sector s)) ss ≡ is_its_leader r (leader_in_sector (sector_at size r.offset content))
right_of_one r size content ss is =
    ap (list_all (λ s. is_its_leader r (leader_in_sector s))) is ∙ and_nothing (is_its_leader r (leader_in_sector (sector_at size r.offset content)))

told_right : (r : ResourceArg) (g : Sizes) (content : List ℕ) (after : Option (List ℕ)) (faults later : ℕ) (taken now : Option (List ℕ)) (sink_faults sink_later : ℕ)
    → Directs (ReadLeader r g) (Some content) after faults later taken now sink_faults sink_later Done → has_its_leader r g.sector content
told_right r g content after faults later taken now sink_faults sink_later run =
    let acts = (acted_done (ReadLeader r g) (Some content) after faults later taken now sink_faults sink_later run).1 in
    sym (right_of_one r g.sector content acts.sectors (sector_seen content g.sector r.offset acts.sectors acts.read acts.ended.0)) ∙ acts.ended.1

told_wrong : (r : ResourceArg) (g : Sizes) (content : List ℕ) (after : Option (List ℕ)) (faults later : ℕ) (taken now : Option (List ℕ)) (sink_faults sink_later : ℕ)
    → Directs (ReadLeader r g) (Some content) after faults later taken now sink_faults sink_later NotTheLeader
    → is_its_leader r (leader_in_sector (sector_at g.sector r.offset content)) ≡ false
told_wrong r g content after faults later taken now sink_faults sink_later run =
    let acts = (acted_refused (ReadLeader r g) (Some content) after faults later taken now sink_faults sink_later run).1 in
    sym (right_of_one r g.sector content acts.sectors (sector_seen content g.sector r.offset acts.sectors acts.read acts.ended.0)) ∙ acts.ended.1

refused_look : (a : Action) (content after : Option (List ℕ)) (lines : List (List ℕ)) → Acts a content after lines NotTheLeader
    → (r : ResourceArg) × (g : Sizes) × ((a ≡ ReadLeader r g) ⊎ (a ≡ Upgrade r g))
refused_look (InitLockspace l g) content after lines acts = absurd acts
refused_look (InitLabelled l g t grace) content after lines acts = absurd acts
refused_look (InitResource r g) content after lines acts = absurd acts
refused_look (ReadLeader r g) content after lines acts = (r, g, inl refl)
refused_look (Upgrade r g) content after lines acts = (r, g, inr refl)
refused_look (Dump path offset size g) content after lines acts = absurd (true_is_false acts.ended.1)

told_other : (a : Action) (content after : Option (List ℕ)) (faults later : ℕ) (taken now : Option (List ℕ)) (sink_faults sink_later : ℕ)
    → Directs a content after faults later taken now sink_faults sink_later NotTheLeader
    → (r : ResourceArg) × (g : Sizes) × ((a ≡ ReadLeader r g) ⊎ (a ≡ Upgrade r g))
told_other a content after faults later taken now sink_faults sink_later run =
    let acted = acted_refused a content after faults later taken now sink_faults sink_later run in
    refused_look a content after acted.0 acted.1

pub leader_is_told : LeaderIsTold
leader_is_told = record { right = told_right; wrong = told_wrong; other = told_other }

-- ---- what was initialised is found

same_bytes : (xs : List ℕ) → bytes_eq xs xs ≡ true
same_bytes xs = (bytes_eq-Decides xs xs).1 refl

both : (a b : Bool) → a ≡ true → b ≡ true → (a && b) ≡ true
both a b first second = ap (λ x. x && b) first ∙ second

found_of_either : (g : Layout) (l : Leader) → leader_found (Ok (leader_record g l)) ≡ Ok l
found_of_either g l = by g.paired
  where
    by : (paired : Bool) → leader_found (Ok (elim paired as (λ _. Rec) [ false ↦ LeaderIs l | true ↦ PairLeaderIs l ])) ≡ Ok l
    by false = refl
    by true = refl

its_own : (r : ResourceArg) (g : Sizes) (content : List ℕ) → IsFreshResource g r.lockspace r.name r.offset content → has_its_leader r g.sector content
its_own r g content fresh =
    ap (λ x. is_its_leader r (leader_found x)) fresh.leader ∙ ap (is_its_leader r) (found_of_either (layout_of g) (fresh_leader (layout_of g) r.lockspace r.name)) ∙ both (bytes_eq r.lockspace r.lockspace) (bytes_eq r.name r.name) (same_bytes r.lockspace) (same_bytes r.name)

found_after : (r : ResourceArg) (g : Sizes) (before : List ℕ) (between : Option (List ℕ)) → IsAction (InitResource r g)
    → IsInitialised (resource_writes (layout_of g) r.lockspace r.name r.offset) (Some before) between
    → (content : List ℕ) × (between ≡ Some content) × has_its_leader r g.sector content
found_after r g before None action stands = absurd stands
found_after r g before (Some content) action stands =
    (content, refl, its_own r g content (resource_stands g r.lockspace r.name r.offset before content action.0 action.1 action.2 stands))

pub initialised_is_found : InitialisedIsFound
initialised_is_found r g look before between after e f h t u v p q s d action same first second refused =
    let acts = acted_done (InitResource r g) (Some before) between e f t u p q first in
    let found = found_after r g before between action acts.1.0 in
    let told : Directs (ReadLeader r look) (Some found.0) after f h u v q s NotTheLeader =
    subst (λ (x : Directed). Directs (ReadLeader r look) (Some found.0) after f h u v q s x) refused
    (subst (λ (o : Option (List ℕ)). Directs (ReadLeader r look) o after f h u v q s d) found.1 second) in
    not_both _ (subst (λ (n : ℕ). has_its_leader r n found.0) (sym same) found.2) (told_wrong r look found.0 after f h u v q s told)
