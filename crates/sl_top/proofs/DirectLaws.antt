-- What an action owes: a disk is handed out, the action is done to the area, and the area goes back. Where the devices don't tell what the
-- disk has, nothing of it is owed, so what the area tells is forgotten; where they do, the area has what the disk had.
use Rattle.sl_area.specs.AreaSizes.{Sizes, layout_of}
use Rattle.sl_direct.specs.Actions.{Acts, AreReadAt, Directs, Look, Reads, Writes, dump_look, label_for, leader_look, path_of}
use Rattle.sl_direct.specs.FreshAreas.{Write, labelled_writes, lockspace_writes, resource_writes}
use Rattle.sl_direct.specs.Lines.{labelled_line, lockspace_line, resource_line}
use Rattle.sl_direct.specs.Upgrades.{IsOldArea, IsSectorAt, OldArea, ReadsBlock, ReadsBlocks, ReadsLeader, Upgrades}
use Rattle.sl_direct.specs.declared.action.Action.TheVariants.{Dump, InitLabelled, InitLockspace, InitResource, ReadLeader, Upgrade}
use Rattle.sl_direct.specs.declared.action.Action.{Action}
use Rattle.sl_direct.specs.declared.action.Directed.TheVariants.{AreaFault, Done, NoMemory, NotTheLeader, TornBlock, WriteFault}
use Rattle.sl_direct.specs.declared.action.Directed.{Directed}
use Rattle.sl_sector.specs.declared.sector.Block.{Block}
use Rattle.sl_sector.specs.declared.sector.Leader.{Leader}
use Rattle.sl_trace.specs.declared.command.ResourceArg.{ResourceArg}
use Rattle.sl_top.proofs.RunLaws.{nothing_put}
use Rattle.sl_outside.specs.Disks.{CountsBack, Disks, HandsOut, KeepsAllBut, TakesBack}
use Rattle.sl_top.specs.Runs.{ActsOn}
use Rattle.sl_top.specs.Statuses.{status_after}
use Rattle.sl_top.specs.declared.status.Status.TheVariants as status
use Rattle.sl_top.specs.declared.status.Status.{Status}
use Rattle.std.proofs.Common.{List, None, Option, Some, [], ap, arith, inl, refl, subst, suc, sym, ℕ, ◌+◌, ◌∙◌, ◌∷◌, ◌≡◌}
use Rattle.std.specs.Io.KnownBytes.{Keeps}
use Rattle.std.specs.Prelude.{option_map}

-- ---- what isn't told

sectors_untold : (content : Option (List ℕ)) (size at : ℕ) (ss : List (List ℕ)) → AreReadAt content size at ss → AreReadAt None size at ss
sectors_untold content size at [] h = tt
sectors_untold content size at (s ∷ ss) h = (h.0, tt, sectors_untold content size (at + size) ss h.2)

writes_untold : (ws : List Write) (line : List ℕ) (content left after : Option (List ℕ)) (lines : List (List ℕ)) (d : Directed) → Writes ws line content left lines d
    → Writes ws line None after lines d
writes_untold ws line content left after lines Done h = (tt, h.1)
writes_untold ws line content left after lines AreaFault h = (tt, h.1)
writes_untold ws line content left after lines NoMemory h = (tt, h.1)
writes_untold ws line content left after lines WriteFault h = h
writes_untold ws line content left after lines NotTheLeader h = h
writes_untold ws line content left after lines TornBlock h = h

reads_untold : (k : Look) (content left after : Option (List ℕ)) (lines : List (List ℕ)) (d : Directed) → Reads k content left lines d → Reads k None after lines d
reads_untold k content left after lines d h =
    record { kept = tt; sectors = h.sectors; read = sectors_untold content k.sector k.offset h.sectors h.read; told = h.told; ended = h.ended }

sector_untold : (content : Option (List ℕ)) (size at : ℕ) (s : List ℕ) → IsSectorAt content size at s → IsSectorAt None size at s
sector_untold content size at s h = record { long = h.long; read = tt }

leader_untold : (r : ResourceArg) (g : Sizes) (content : Option (List ℕ)) (l : Leader) → ReadsLeader r g content l → ReadsLeader r g None l
leader_untold r g content l h = record { sector = h.sector; at = sector_untold content _ _ h.sector h.at; is = h.is }

block_untold : (g : Sizes) (base : ℕ) (content : Option (List ℕ)) (id : ℕ) (o : Option Block) → ReadsBlock g base content id o → ReadsBlock g base None id o
block_untold g base content id o h = record { sector = h.sector; at = sector_untold content _ _ h.sector h.at; is = h.is }

blocks_untold : (g : Sizes) (base : ℕ) (content : Option (List ℕ)) (id : ℕ) (bs : List Block) → ReadsBlocks g base content id bs → ReadsBlocks g base None id bs
blocks_untold g base content id [] h = tt
blocks_untold g base content id (b ∷ bs) h = (block_untold g base content id (Some b) h.0, blocks_untold g base content (suc id) bs h.1)

old_untold : (r : ResourceArg) (g : Sizes) (content : Option (List ℕ)) (old : OldArea) → IsOldArea r g content old → IsOldArea r g None old
old_untold r g content old h =
    record { leader = leader_untold r g content old.leader h.leader; count = h.count; blocks = blocks_untold g r.offset content 1 old.blocks h.blocks }

upgrades_untold : (r : ResourceArg) (g : Sizes) (content left after : Option (List ℕ)) (lines : List (List ℕ)) (d : Directed) → Upgrades r g content left lines d → Upgrades r g None after lines d
upgrades_untold r g content left after lines Done h = (record { old = h.0.old; is = old_untold r g content h.0.old h.0.is; wrote = tt }, h.1)
upgrades_untold r g content left after lines AreaFault h = (inl tt, h.1)
upgrades_untold r g content left after lines NoMemory h = (tt, h.1)
upgrades_untold r g content left after lines NotTheLeader h =
    (tt, record { sector = h.1.sector; at = sector_untold content _ _ h.1.sector h.1.at; none = h.1.none; told = h.1.told })
upgrades_untold r g content left after lines TornBlock h = (
  tt,
  record {
    leader = h.1.leader;
    reads = leader_untold r g content h.1.leader h.1.reads;
    before = h.1.before;
    blocks = blocks_untold g r.offset content 1 h.1.before h.1.blocks;
    host = h.1.host;
    torn = block_untold g r.offset content _ None h.1.torn;
    told = h.1.told;
  },
)
upgrades_untold r g content left after lines WriteFault h = h

acts_untold : (a : Action) (content left after : Option (List ℕ)) (lines : List (List ℕ)) (d : Directed) → Acts a content left lines d → Acts a None after lines d
acts_untold (InitLockspace l g) = writes_untold (lockspace_writes (layout_of g) l.name l.offset) (lockspace_line l g.hosts)
acts_untold (InitLabelled l g t grace) = writes_untold (labelled_writes (layout_of g) (label_for l g t grace) l.offset) (labelled_line l g.hosts t grace)
acts_untold (InitResource r g) = writes_untold (resource_writes (layout_of g) r.lockspace r.name r.offset) (resource_line r g.hosts)
acts_untold (ReadLeader r g) = reads_untold (leader_look r g.sector)
acts_untold (Upgrade r g) = upgrades_untold r g
acts_untold (Dump path offset size g) = reads_untold (dump_look offset size g.sector)

directs_untold : (a : Action) (content left after : Option (List ℕ)) (faults later : ℕ) (taken now : Option (List ℕ)) (sink_faults sink_later : ℕ) (d : Directed)
    → Directs a content left faults later taken now sink_faults sink_later d → Directs a None after faults later taken now sink_faults sink_later d
directs_untold a content left after faults later taken now sink_faults sink_later d h =
    record {
      went = h.went;
      lines = h.lines;
      acts = acts_untold a content left after h.lines h.went h.acts;
      output = h.output;
      area_fault = h.area_fault;
      write_fault = h.write_fault;
      area_failed = h.area_failed;
      never_falls = h.never_falls;
    }

-- ---- the disk that is lent

kept_is : (c : List ℕ) (content : Option (List ℕ)) → Keeps (Some c) content → content ≡ Some c
kept_is c None h = absurd h
kept_is c (Some d) h = ap (λ x. Some x) h

-- What is done to the area is done to the disk.
directs_disk : (a : Action) (path : List ℕ) (told lent content left : Option (List ℕ)) (between now : Disks) (faults later : ℕ) (taken put : Option (List ℕ)) (sink_faults sink_later : ℕ)
    (d : Directed) → Keeps told content → lent ≡ option_map (λ c. path) told → TakesBack lent between now left
    → Directs a content left faults later taken put sink_faults sink_later d → Directs a told (now path) faults later taken put sink_faults sink_later d
directs_disk a path None lent content left between now faults later taken put sink_faults sink_later d kept lends back h =
    directs_untold a content left (now path) faults later taken put sink_faults sink_later d h
directs_disk a path (Some c) lent content left between now faults later taken put sink_faults sink_later d kept lends back h =
    let here : TakesBack (Some path) between now left = subst (λ x. TakesBack x between now left) lends back in
    subst (λ x. Directs a (Some c) x faults later taken put sink_faults sink_later d) (sym here.0)
    (subst (λ x. Directs a x left faults later taken put sink_faults sink_later d) (kept_is c content kept) h)

-- The others stay where the area goes back.
others_stay : (path : List ℕ) (told lent left : Option (List ℕ)) (between now : Disks) → lent ≡ option_map (λ c. path) told → TakesBack lent between now left
    → KeepsAllBut path between now
others_stay path None lent left between now lends back =
    let here : TakesBack None between now left = subst (λ x. TakesBack x between now left) lends back in
    λ other apart. here other
others_stay path (Some c) lent left between now lends back =
    let here : TakesBack (Some path) between now left = subst (λ x. TakesBack x between now left) lends back in
    here.1

-- Handed out, acted on, and taken back.
pub acts_on : (a : Action) (path : List ℕ) (before between now : Disks) (lent content left : Option (List ℕ)) (faults middle later fresh counted : ℕ) (taken put : Option (List ℕ))
    (sink_faults sink_later : ℕ) (d : Directed) (s : Status) → path ≡ path_of a → HandsOut path before between lent content → fresh ≡ 0 → middle ≡ faults
    → Directs a content left fresh counted taken put sink_faults sink_later d → TakesBack lent between now left → CountsBack counted middle later → s ≡ status_after d
    → ActsOn a before now faults later taken put sink_faults sink_later s
acts_on a path before between now lent content left faults middle later fresh counted taken put sink_faults sink_later d s at out none same h back count is =
    let done : Directs a (before path) (now path) 0 counted taken put sink_faults sink_later d =
    subst (λ f. Directs a (before path) (now path) f counted taken put sink_faults sink_later d) none
    (directs_disk a path (before path) lent content left between now fresh counted taken put sink_faults sink_later d out.content_is out.lent_is back h) in
    let stay : KeepsAllBut path before now =
    λ other apart. others_stay path (before path) lent left between now out.lent_is back other apart ∙ out.others other apart in
    record {
      ended = d;
      counted = counted;
      directs = subst (λ p. Directs a (before p) (now p) 0 counted taken put sink_faults sink_later d) at done;
      others = subst (λ p. KeepsAllBut p before now) at stay;
      count = subst (λ f. CountsBack counted f later) same count;
      status = is;
    }

-- ---- nothing is done

keeps_same : (content : Option (List ℕ)) → Keeps content content
keeps_same None = tt
keeps_same (Some c) = refl

nothing_acted : (a : Action) (content : Option (List ℕ)) → Acts a content content [] NoMemory
nothing_acted (InitLockspace l g) content = (keeps_same content, refl)
nothing_acted (InitLabelled l g t grace) content = (keeps_same content, refl)
nothing_acted (InitResource r g) content = (keeps_same content, refl)
nothing_acted (Upgrade r g) content = (keeps_same content, refl)
nothing_acted (ReadLeader r g) content = record { kept = keeps_same content; sectors = []; read = tt; told = refl; ended = omega arith }
nothing_acted (Dump path offset size g) content = record { kept = keeps_same content; sectors = []; read = tt; told = refl; ended = omega arith }

-- For want of memory.
pub not_begun : (a : Action) (disks : Disks) (faults : ℕ) (taken : Option (List ℕ)) (sink_faults : ℕ) → ActsOn a disks disks faults faults taken taken sink_faults sink_faults status.NoMemory
not_begun a disks faults taken sink_faults =
    record {
      ended = NoMemory;
      counted = 0;
      directs =
          record {
            went = NoMemory;
            lines = [];
            acts = nothing_acted a (disks (path_of a));
            output = record { put = []; puts = nothing_put taken; is_put = inl (refl, refl); never_falls = omega arith };
            area_fault = λ e. absurd cc;
            write_fault = λ e. absurd cc;
            area_failed = λ e. absurd cc;
            never_falls = omega arith;
          };
      others = λ other apart. refl;
      count = record { rose = λ some. absurd (omega (arith, some)); stays = λ none. refl; later = omega arith };
      status = refl;
    }
