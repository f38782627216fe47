-- An area that is upgraded: what was read of it still counts after further reads, its blocks one behind another, and the writes.
use Rattle.sl_area.specs.AreaSizes.{Layout, Sizes, layout_of}
use Rattle.sl_area.specs.AreaLayout.{leader_offset}
use Rattle.sl_area.specs.Roles.{IsHost, place_at}
use Rattle.sl_area.specs.Sectors.{IsReadAt, KeepsOthers, Replaces, SectorPlace}
use Rattle.sl_direct.proofs.DiskLaws.{BrokeOff-behind, BrokeOff-front, Wrote-append, broke_first}
use Rattle.sl_direct.specs.FreshAreas.{Write}
use Rattle.sl_direct.specs.HalfDone.{BrokeOff, HasActed, Wrote}
use Rattle.sl_direct.specs.Upgrades.{AreOld, PairsUp, ReadsBlock, ReadsBlocks, ReadsLeader, StopsBehind, TellsOther, old_leader_in, other_line, pair_writes, pairs_down, right_leader, torn_line, upgrade_line, upgrade_writes}
use Rattle.sl_direct.specs.declared.action.Action.TheVariants.{Upgrade}
use Rattle.sl_direct.specs.declared.action.Directed.TheVariants.{AreaFault, Done, NoMemory, NotTheLeader, TornBlock, WriteFault}
use Rattle.sl_direct.specs.declared.action.Directed.{Directed}
use Rattle.sl_direct.specs.Lines.{has_names}
use Rattle.sl_sector.specs.Records.{IsBlock, IsLeader}
use Rattle.sl_sector.specs.declared.sector.Bad.{Bad}
use Rattle.sl_words.proofs.CaseLaws.{none_some, some_value}
use Rattle.sl_words.specs.Words.{choose}
use Rattle.sl_sector.specs.declared.sector.Block.{Block}
use Rattle.sl_sector.specs.declared.sector.Leader.{Leader}
use Rattle.sl_trace.specs.declared.command.ResourceArg.{ResourceArg}
use Rattle.std.proofs.Common.{Bool, Err, List, None, Ok, Option, Result, Some, [], ap, append_assoc, arith, drop, get_or, inl, inr, length, refl, subst, suc, sym, take, take-append-drop, true, false, zero, ℕ, ◌<◌, ◌+◌, ◌++◌, ◌≡◌, ◌≤◌, ◌∙◌, ◌∷◌}
use Rattle.std.proofs.lemmas.List.{append-nil, length-replicate, take-replicate}
use Rattle.std.proofs.lemmas.List.Elements.{All-append, All-cons, All-nil}
use Rattle.std.specs.Io.KnownBytes.{Keeps}
use Rattle.std.specs.Prelude.{IfErr, IfOk, IsErrAnd, OnErr, OnOk, replicate, ◌&&◌, ◌==◌}

-- ---- what was read before

read_back : (a b : Option (List ℕ)) (at : ℕ) (bytes : List ℕ) → Keeps a b → IsReadAt b at bytes → IsReadAt a at bytes
read_back None b at bytes kept read = tt
read_back (Some x) None at bytes kept read = absurd kept
read_back (Some x) (Some y) at bytes kept read = subst (λ (z : List ℕ). IsReadAt (Some z) at bytes) kept read

pub block_back : (g : Sizes) (base : ℕ) (a b : Option (List ℕ)) (id : ℕ) (found : Option Block) → Keeps a b → ReadsBlock g base b id found → ReadsBlock g base a id found
block_back g base a b id found kept h =
    record { sector = h.sector; at = record { long = h.at.long; read = read_back a b _ h.sector kept h.at.read }; is = h.is }

blocks_back : (g : Sizes) (base : ℕ) (a b : Option (List ℕ)) (id : ℕ) (bs : List Block) → Keeps a b → ReadsBlocks g base b id bs → ReadsBlocks g base a id bs
blocks_back g base a b id [] kept h = tt
blocks_back g base a b id (x ∷ xs) kept h = (block_back g base a b id (Some x) kept h.0, blocks_back g base a b (suc id) xs kept h.1)

pub old_back : (g : Sizes) (base : ℕ) (a b : Option (List ℕ)) (bs : List Block) → Keeps a b → AreOld g base b bs → AreOld g base a bs
old_back g base a b bs kept h = (blocks_back g base a b 1 bs kept h.0, h.1)

pub stops_back : (g : Sizes) (base : ℕ) (a b : Option (List ℕ)) (id : ℕ) (out : List ℕ) (d : Directed) → Keeps a b → StopsBehind g base b id out d → StopsBehind g base a id out d
stops_back g base a b id out Done kept h = absurd h
stops_back g base a b id out WriteFault kept h = absurd h
stops_back g base a b id out NoMemory kept h = h
stops_back g base a b id out AreaFault kept h = h
stops_back g base a b id out NotTheLeader kept h = absurd h
stops_back g base a b id out TornBlock kept h = (block_back g base a b id None kept h.0, h.1)

pub keeps_trans : (a b c : Option (List ℕ)) → Keeps a b → Keeps b c → Keeps a c
keeps_trans None b c h k = tt
keeps_trans (Some x) None c h k = absurd h
keeps_trans (Some x) (Some y) None h k = absurd k
keeps_trans (Some x) (Some y) (Some z) h k = k ∙ h

wrote_back : (ws : List Write) (a b c : Option (List ℕ)) → Keeps a b → Wrote ws b c → Wrote ws a c
wrote_back ws None b c kept h = tt
wrote_back ws (Some x) None c kept h = absurd kept
wrote_back ws (Some x) (Some y) c kept h = subst (λ (z : List ℕ). Wrote ws (Some z) c) kept h

broke_back : (ws : List Write) (a b c : Option (List ℕ)) → Keeps a b → BrokeOff ws b c → BrokeOff ws a c
broke_back ws None b c kept h = tt
broke_back ws (Some x) None c kept h = absurd kept
broke_back ws (Some x) (Some y) c kept h = subst (λ (z : List ℕ). BrokeOff ws (Some z) c) kept h

-- ---- what was found

-- So does a leader.
pub leader_kept : (r : ResourceArg) (hosts : ℕ) (found : Result Leader Bad) (l : Leader) → IfOk found (λ x. IsLeader x) → right_leader r hosts found ≡ Some l → IsLeader l
leader_kept r hosts (Ok x) l is right = by (has_names r x && x.num_hosts == hosts) right
  where
    by : (same : Bool) → choose same x ≡ Some l → IsLeader l
    by true e = subst IsLeader (some_value x l e) is
    by false e = absurd (none_some l e)
leader_kept r hosts (Err bad) l is right = absurd (none_some l right)

-- ---- one block more

reads_one_more : (g : Sizes) (base : ℕ) (content : Option (List ℕ)) (id : ℕ) (bs : List Block) (b : Block) (n : ℕ) → ReadsBlocks g base content id bs
    → ReadsBlock g base content n (Some b) → n ≡ id + length bs → ReadsBlocks g base content id (bs ++ b ∷ [])
reads_one_more g base content id [] b n h read is =
    let same : n ≡ id = omega (arith, is) in
    (subst (λ (k : ℕ). ReadsBlock g base content k (Some b)) same read, tt)
reads_one_more g base content id (x ∷ xs) b n h read is = (h.0, reads_one_more g base content (suc id) xs b n h.1 read (omega (arith, is)))

pub old_one_more : (g : Sizes) (base : ℕ) (content : Option (List ℕ)) (bs : List Block) (b : Block) (n : ℕ) → AreOld g base content bs
    → ReadsBlock g base content n (Some b) → IsBlock b → b.host ≡ n → IsHost g n → n ≡ length bs + 1 → AreOld g base content (bs ++ b ∷ [])
old_one_more g base content bs b n old read is own host count =
    let P = λ (x : Block). IsBlock x × IsHost g x.host in (
      reads_one_more g base content 1 bs b n old.0 read (omega (arith, count)),
      All-append P bs (b ∷ []) old.1 (All-cons P b [] (is, subst (IsHost g) (sym own) host) (All-nil P)),
    )

-- ---- pairs, from the last down

down_append : (g : Layout) (l : Leader) (base : ℕ) (xs ys : List Block) → pairs_down g l base (xs ++ ys) ≡ pairs_down g l base ys ++ pairs_down g l base xs
down_append g l base [] ys = sym (append-nil (pairs_down g l base ys))
down_append g l base (x ∷ xs) ys =
    ap (λ (ws : List Write). ws ++ pair_writes g l base x) (down_append g l base xs ys)
    ∙ append_assoc (pairs_down g l base ys) (pairs_down g l base xs) (pair_writes g l base x)

drop_next : (xs : List Block) (n : ℕ) (d : Block) → n < length xs → drop n xs ≡ get_or xs n d ∷ drop (suc n) xs
drop_next [] n d h = absurd (omega (arith, h))
drop_next (x ∷ xs) zero d h = refl
drop_next (x ∷ xs) (suc n) d h = drop_next xs n d (omega (arith, h))

-- One more pair, before those that were written.
pub down_wrote : (g : Layout) (l : Leader) (base : ℕ) (xs : List Block) (n m k : ℕ) (d : Block) (a b c : Option (List ℕ)) → n < length xs → m ≡ suc n → n ≡ k
    → Wrote (pairs_down g l base (drop m xs)) a b → Wrote (pair_writes g l base (get_or xs n d)) b c → Wrote (pairs_down g l base (drop k xs)) a c
down_wrote g l base xs n m k d a b c within next is first last =
    let same : pairs_down g l base (drop n xs) ≡ pairs_down g l base (drop m xs) ++ pair_writes g l base (get_or xs n d) =
    ap (pairs_down g l base) (drop_next xs n d within) ∙ ap (λ (k : ℕ). pairs_down g l base (drop k xs) ++ pair_writes g l base (get_or xs n d)) (sym next) in
    subst (λ (j : ℕ). Wrote (pairs_down g l base (drop j xs)) a c) is
    (subst (λ (ws : List Write). Wrote ws a c) (sym same) (Wrote-append (pairs_down g l base (drop m xs)) (pair_writes g l base (get_or xs n d)) a b c first last))

-- One that failed.
pub down_broke : (g : Layout) (l : Leader) (base : ℕ) (xs : List Block) (n m : ℕ) (d : Block) (a b c : Option (List ℕ)) → n < length xs → m ≡ suc n
    → Wrote (pairs_down g l base (drop m xs)) a b → BrokeOff (pair_writes g l base (get_or xs n d)) b c → BrokeOff (pairs_down g l base xs) a c
down_broke g l base xs n m d a b c within next first broke =
    let same : pairs_down g l base (drop n xs) ≡ pairs_down g l base (drop m xs) ++ pair_writes g l base (get_or xs n d) =
    ap (pairs_down g l base) (drop_next xs n d within) ∙ ap (λ (k : ℕ). pairs_down g l base (drop k xs) ++ pair_writes g l base (get_or xs n d)) (sym next) in
    let whole : pairs_down g l base xs ≡ pairs_down g l base (drop n xs) ++ pairs_down g l base (take n xs) =
    ap (pairs_down g l base) (sym (take-append-drop n xs)) ∙ down_append g l base (take n xs) (drop n xs) in
    let here : BrokeOff (pairs_down g l base (drop n xs)) a c =
    subst (λ (ws : List Write). BrokeOff ws a c) (sym same) (BrokeOff-behind (pairs_down g l base (drop m xs)) (pair_writes g l base (get_or xs n d)) a b c first broke) in
    subst (λ (ws : List Write). BrokeOff ws a c) (sym whole) (BrokeOff-front (pairs_down g l base (drop n xs)) (pairs_down g l base (take n xs)) a c here)

-- The two of a pair.
pub pair_wrote : (x y : Write) (a b c : Option (List ℕ)) → Wrote (x ∷ []) a b → Wrote (y ∷ []) b c → Wrote (x ∷ y ∷ []) a c
pair_wrote x y a b c first last = Wrote-append (x ∷ []) (y ∷ []) a b c first last

pub first_broke : (x y : Write) (a b : Option (List ℕ)) → BrokeOff (x ∷ []) a b → BrokeOff (x ∷ y ∷ []) a b
first_broke x y a b broke = BrokeOff-front (x ∷ []) (y ∷ []) a b broke

pub second_broke : (x y : Write) (a b c : Option (List ℕ)) → Wrote (x ∷ []) a b → BrokeOff (y ∷ []) b c → BrokeOff (x ∷ y ∷ []) a c
second_broke x y a b c first broke = BrokeOff-behind (x ∷ []) (y ∷ []) a b c first broke

-- ---- all of the writes

pub upgrade_wrote : (z : Write) (ps : List Write) (l : Write) (a b c d : Option (List ℕ)) → Wrote (z ∷ []) a b → Wrote ps b c → Wrote (l ∷ []) c d → Wrote (z ∷ (ps ++ l ∷ [])) a d
upgrade_wrote z ps l a b c d first second last = Wrote-append (z ∷ []) (ps ++ l ∷ []) a b d first (Wrote-append ps (l ∷ []) b c d second last)

pub zeros_broke : (z : Write) (ps : List Write) (l : Write) (a b : Option (List ℕ)) → BrokeOff (z ∷ []) a b → BrokeOff (z ∷ (ps ++ l ∷ [])) a b
zeros_broke z ps l a b broke = BrokeOff-front (z ∷ []) (ps ++ l ∷ []) a b broke

pub pairs_broke : (z : Write) (ps : List Write) (l : Write) (a b c : Option (List ℕ)) → Wrote (z ∷ []) a b → BrokeOff ps b c → BrokeOff (z ∷ (ps ++ l ∷ [])) a c
pairs_broke z ps l a b c first broke = BrokeOff-behind (z ∷ []) (ps ++ l ∷ []) a b c first (BrokeOff-front ps (l ∷ []) b c broke)

pub last_broke : (z : Write) (ps : List Write) (l : Write) (a b c d : Option (List ℕ)) → Wrote (z ∷ []) a b → Wrote ps b c → BrokeOff (l ∷ []) c d → BrokeOff (z ∷ (ps ++ l ∷ [])) a d
last_broke z ps l a b c d first second broke =
    BrokeOff-behind (z ∷ []) (ps ++ l ∷ []) a b d first (BrokeOff-behind ps (l ∷ []) b c d second broke)

-- ---- zeros

-- The write of zeros.
abbrev zeros_at : ℕ → ℕ → Write
zeros_at at size = record { offset = at; sector = replicate size 0 }

zeros_put : (at size : ℕ) (s : List ℕ) (a b : Option (List ℕ)) → s ≡ replicate size 0 → Replaces a b at s → Wrote (zeros_at at size ∷ []) a b
zeros_put at size s None b zeros h = tt
zeros_put at size s (Some a) None zeros h = absurd h
zeros_put at size s (Some a) (Some b) zeros h = subst (λ (z : List ℕ). Wrote (record { offset = at; sector = z } ∷ []) (Some a) (Some b)) zeros ((h.0, tt), h.1)

pub zeros_wrote : {E : Type 0} (result : Result (Unit {0}) E) (at p : SectorPlace) (n : ℕ) (a b : Option (List ℕ)) → at ≡ p → n ≡ p.size → p.size ≤ 4096
    → OnOk result (Replaces a b at.offset (take n (replicate 4096 0))) → OnOk result (Wrote (zeros_at p.offset p.size ∷ []) a b)
zeros_wrote (Err e) at p n a b same long few h = tt
zeros_wrote (Ok x) at p n a b same long few h =
    let zeros : take n (replicate 4096 0) ≡ replicate p.size 0 = ap (λ (k : ℕ). take k (replicate 4096 0)) long ∙ take-replicate p.size 4096 0 few in
    zeros_put p.offset p.size (take n (replicate 4096 0)) a b zeros (subst (λ (q : SectorPlace). Replaces a b q.offset (take n (replicate 4096 0))) same h)

pub zeros_broke_off : {E : Type 0} (result : Result (Unit {0}) E) (at p : SectorPlace) (a b : Option (List ℕ)) → at ≡ p → OnErr result (KeepsOthers a b at)
    → OnErr result (BrokeOff (zeros_at p.offset p.size ∷ []) a b)
zeros_broke_off (Ok x) at p a b same kept = tt
zeros_broke_off (Err e) at p a b same kept =
    broke_first (zeros_at p.offset p.size) p.size a b (sym (length-replicate p.size 0)) (subst (λ (q : SectorPlace). KeepsOthers a b q) same kept)

-- ---- what is handed on

pub err_as : {A : Type 0} (r : Result A Directed) (why : Directed) (P : Directed → Type 0) → IsErrAnd r (λ x. x ≡ why) → P why → IfErr r P
err_as (Ok x) why P is so = tt
err_as (Err e) why P is so = subst P (sym is) so

-- No more blocks are read.
pub stops_there : (g : Sizes) (base : ℕ) (a b : Option (List ℕ)) (bs : List Block) (n : ℕ) (out : List ℕ) (d : Directed) → Keeps a b → AreOld g base a bs → length bs ≡ n → n < g.hosts
    → StopsBehind g base b (n + 1) out d → (xs : List Block) × AreOld g base a xs × (length xs + 1 ≤ g.hosts) × StopsBehind g base a (length xs + 1) out d
stops_there g base a b bs n out d kept old count few stop =
    (bs, old, omega (arith, count, few), subst (λ (k : ℕ). StopsBehind g base a (k + 1) out d) (sym count) (stops_back g base a b (n + 1) out d kept stop))

-- ---- how it ends

-- At another leader, or at none.
pub tells_other : (r : ResourceArg) (g : Sizes) (a b : Option (List ℕ)) (at : SectorPlace) (hosts : ℕ) (sector out : List ℕ) (d : Directed) → Keeps a b
    → at ≡ place_at g (leader_offset r.offset) → hosts ≡ g.hosts → length sector ≡ g.sector → IsReadAt a at.offset sector → TellsOther r hosts sector out d
    → HasActed (Upgrade r g) a b out d
tells_other r g a b at hosts sector out NotTheLeader kept place many long read h =
    let none : right_leader r g.hosts (old_leader_in sector) ≡ None = subst (λ (n : ℕ). right_leader r n (old_leader_in sector) ≡ None) many h.0 in
    let here : IsReadAt a (leader_offset r.offset) sector = subst (λ (p : SectorPlace). IsReadAt a p.offset sector) place read in
    (other_line sector ∷ [], h.1, (kept, record { sector = sector; at = record { long = long; read = here }; none = none; told = refl }))
tells_other r g a b at hosts sector out NoMemory kept place many long read h = ([], h, (kept, refl))
tells_other r g a b at hosts sector out Done kept place many long read h = absurd h
tells_other r g a b at hosts sector out WriteFault kept place many long read h = absurd h
tells_other r g a b at hosts sector out AreaFault kept place many long read h = absurd h
tells_other r g a b at hosts sector out TornBlock kept place many long read h = absurd h

pub pairs_up : (r : ResourceArg) (g : Sizes) (l : Leader) (bs : List Block) (a b c d : Option (List ℕ)) (out : List ℕ) (went : Directed) → Keeps a b → Keeps b c
    → ReadsLeader r g a l → AreOld g r.offset b bs → length bs ≡ g.hosts → PairsUp r g l bs c d out went → HasActed (Upgrade r g) a d out went
pairs_up r g l bs a b c d out Done first second leader old count h =
    let kept = keeps_trans a b c first second in (
      upgrade_line r g.hosts ∷ [],
      h.1,
      (
        record {
          old = record { leader = l; blocks = bs };
          is = record { leader = leader; count = count; blocks = (old_back g r.offset a b bs first old).0 };
          wrote = wrote_back (upgrade_writes (layout_of g) r.offset (record { leader = l; blocks = bs })) a c d kept h.0;
        },
        refl,
      ),
    )
pairs_up r g l bs a b c d out AreaFault first second leader old count h =
    let kept = keeps_trans a b c first second in (
      [],
      h.1,
      (
        inr
            (record {
              old = record { leader = l; blocks = bs };
              is = record { leader = leader; count = count; blocks = (old_back g r.offset a b bs first old).0 };
              broke = broke_back (upgrade_writes (layout_of g) r.offset (record { leader = l; blocks = bs })) a c d kept h.0;
            }),
        refl,
      ),
    )
pairs_up r g l bs a b c d out NoMemory first second leader old count h =
    ([], h.1, (keeps_trans a c d (keeps_trans a b c first second) h.0, refl))
pairs_up r g l bs a b c d out NotTheLeader first second leader old count h = absurd h
pairs_up r g l bs a b c d out TornBlock first second leader old count h = absurd h
pairs_up r g l bs a b c d out WriteFault first second leader old count h = absurd h

pub stopped_behind : (r : ResourceArg) (g : Sizes) (l : Leader) (bs : List Block) (a b c : Option (List ℕ)) (out : List ℕ) (went : Directed) → Keeps a b → Keeps b c
    → ReadsLeader r g a l → AreOld g r.offset b bs → length bs + 1 ≤ g.hosts → StopsBehind g r.offset b (length bs + 1) out went → HasActed (Upgrade r g) a c out went
stopped_behind r g l bs a b c out TornBlock first second leader old few h =
    let next : length bs + 1 ≡ suc (length bs) = omega arith in (
      torn_line (suc (length bs)) ∷ [],
      rw (← next) h.1,
      (
        keeps_trans a b c first second,
        record {
          leader = l;
          reads = leader;
          before = bs;
          blocks = (old_back g r.offset a b bs first old).0;
          host = (omega arith, omega (arith, few));
          torn = subst (λ (k : ℕ). ReadsBlock g r.offset a k None) next (block_back g r.offset a b (length bs + 1) None first h.0);
          told = refl;
        },
      ),
    )
stopped_behind r g l bs a b c out AreaFault first second leader old few h = ([], h, (inl (keeps_trans a b c first second), refl))
stopped_behind r g l bs a b c out NoMemory first second leader old few h = ([], h, (keeps_trans a b c first second, refl))
stopped_behind r g l bs a b c out Done first second leader old few h = absurd h
stopped_behind r g l bs a b c out NotTheLeader first second leader old few h = absurd h
stopped_behind r g l bs a b c out WriteFault first second leader old few h = absurd h
