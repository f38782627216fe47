-- What an upgrade tells of an area's content.
use Rattle.sl_area.specs.AreaSizes.{Sizes, layout_of}
use Rattle.sl_area.specs.AreaLayout.{block_offset, leader_offset}
use Rattle.sl_direct.proofs.AreaLaws.{done_is_none, ended_as, refused_is_none}
use Rattle.sl_direct.specs.Actions.{Acts, Directs}
use Rattle.sl_direct.specs.Laws.{UpgradeIsTold, can_upgrade, has_block, sector_at}
use Rattle.sl_direct.specs.Upgrades.{FindsTorn, IsSectorAt, ReadsBlock, ReadsBlocks, ReadsLeader, old_block_in, old_leader_in, right_leader}
use Rattle.sl_direct.specs.declared.action.Action.TheVariants.{Dump, InitLabelled, InitLockspace, InitResource, ReadLeader, Upgrade}
use Rattle.sl_direct.specs.declared.action.Action.{Action}
use Rattle.sl_direct.specs.declared.action.Directed.TheVariants.{Done, NotTheLeader, TornBlock, WriteFault}
use Rattle.sl_direct.specs.declared.action.Directed.{Directed}
use Rattle.sl_sector.specs.declared.sector.Block.{Block}
use Rattle.sl_sector.specs.declared.sector.Leader.{Leader}
use Rattle.sl_trace.specs.declared.command.ResourceArg.{ResourceArg}
use Rattle.std.proofs.Common.{Bool, List, None, Option, Some, [], ap, arith, drop, eqb, false, inl, inr, length, refl, subst, suc, sym, take, true, zero, ℕ, ◌&&◌, ◌<◌, ◌+◌, ◌∙◌, ◌∷◌, ◌≡◌, ◌≤◌}
use Rattle.std.proofs.lemmas.Bool.{and_from, cases_Bool, eqb-false, eqb-true}
use Rattle.std.specs.List.{list_all, range_with_len}
use Rattle.std.specs.Prelude.{is_some}

-- ---- sectors that were read

seen_at : (content : List ℕ) (size at : ℕ) (s : List ℕ) → IsSectorAt (Some content) size at s → s ≡ sector_at size at content
seen_at content size at s h = h.read.1 ∙ ap (λ (n : ℕ). take n (drop at content)) h.long

leader_at : (r : ResourceArg) (g : Sizes) (content s : List ℕ) (o : Option Leader) → IsSectorAt (Some content) g.sector (leader_offset r.offset) s
    → right_leader r g.hosts (old_leader_in s) ≡ o → is_some (right_leader r g.hosts (old_leader_in (sector_at g.sector (leader_offset r.offset) content))) ≡ is_some o
leader_at r g content s o at is =
    ap (λ (x : List ℕ). is_some (right_leader r g.hosts (old_leader_in x))) (sym (seen_at content g.sector (leader_offset r.offset) s at)) ∙ ap (λ (x : Option Leader). is_some x) is

block_at : (g : Sizes) (base : ℕ) (content : List ℕ) (id : ℕ) (o : Option Block) → ReadsBlock g base (Some content) id o → has_block g base content id ≡ is_some o
block_at g base content id o h =
    ap (λ (x : List ℕ). is_some (old_block_in id x)) (sym (seen_at content g.sector (block_offset (layout_of g) base id) h.sector h.at)) ∙ ap (λ (x : Option Block). is_some x) h.is

-- ---- all blocks, or not

blocks_at : (g : Sizes) (base : ℕ) (content : List ℕ) (id : ℕ) (bs : List Block) → ReadsBlocks g base (Some content) id bs
    → list_all (has_block g base content) (range_with_len id (length bs)) ≡ true
blocks_at g base content id [] h = refl
blocks_at g base content id (b ∷ bs) h =
    let next : suc id ≡ id + 1 = omega arith in
    and_from (has_block g base content id) _ (block_at g base content id (Some b) h.0)
    (subst (λ (k : ℕ). list_all (has_block g base content) (range_with_len k (length bs)) ≡ true) next (blocks_at g base content (suc id) bs h.1))

nothing_and : (b : Bool) → (b && false) ≡ false
nothing_and true = refl
nothing_and false = refl

one_fails : (p : ℕ → Bool) (a n id : ℕ) → a ≤ id → id < a + n → p id ≡ false → list_all p (range_with_len a n) ≡ false
one_fails p a zero id low high fails = absurd (omega (arith, low, high))
one_fails p a (suc n) id low high fails = elim (cases_Bool (eqb a id)) [
  | inl same ↦ ap (λ b. b && list_all p (range_with_len (a + 1) n)) (ap p (eqb-true a id same) ∙ fails)
  | inr other ↦
      let apart = eqb-false a id other in
      ap (λ b. p a && b) (one_fails p (a + 1) n id (omega (arith, low, apart)) (omega (arith, high)) fails) ∙ nothing_and (p a)
]

-- ---- how it ended

torn_is_none : TornBlock ≡ WriteFault → ⊥
torn_is_none e = cc

acted_as_told : (a : Action) (content after : Option (List ℕ)) (faults later : ℕ) (taken now : Option (List ℕ)) (sink_faults sink_later : ℕ) (d : Directed)
    → (d ≡ WriteFault → ⊥) → Directs a content after faults later taken now sink_faults sink_later d → (lines : List (List ℕ)) × Acts a content after lines d
acted_as_told a content after faults later taken now sink_faults sink_later d none run =
    (run.lines, subst (Acts a content after run.lines) (ended_as run.output.put _ run.went d sink_faults sink_later run.output.is_put none) run.acts)

told_done : (r : ResourceArg) (g : Sizes) (content : List ℕ) (after : Option (List ℕ)) (faults later : ℕ) (taken now : Option (List ℕ)) (sink_faults sink_later : ℕ)
    → Directs (Upgrade r g) (Some content) after faults later taken now sink_faults sink_later Done → can_upgrade r g content ≡ true
told_done r g content after faults later taken now sink_faults sink_later run =
    let old = (acted_as_told (Upgrade r g) (Some content) after faults later taken now sink_faults sink_later Done done_is_none run).1.0 in
    let leader : ReadsLeader r g (Some content) old.old.leader = old.is.leader in
    let blocks : list_all (has_block g r.offset content) (range_with_len 1 (length old.old.blocks)) ≡ true = blocks_at g r.offset content 1 old.old.blocks old.is.blocks in
    and_from _ _ (leader_at r g content leader.sector (Some old.old.leader) leader.at leader.is)
    (ap (λ (n : ℕ). list_all (has_block g r.offset content) (range_with_len 1 n)) (sym old.is.count) ∙ blocks)

told_no_leader : (r : ResourceArg) (g : Sizes) (content : List ℕ) (after : Option (List ℕ)) (faults later : ℕ) (taken now : Option (List ℕ)) (sink_faults sink_later : ℕ)
    → Directs (Upgrade r g) (Some content) after faults later taken now sink_faults sink_later NotTheLeader → can_upgrade r g content ≡ false
told_no_leader r g content after faults later taken now sink_faults sink_later run =
    let other = (acted_as_told (Upgrade r g) (Some content) after faults later taken now sink_faults sink_later NotTheLeader refused_is_none run).1.1 in
    ap (λ b. b && list_all (has_block g r.offset content) (range_with_len 1 g.hosts)) (leader_at r g content other.sector None other.at other.none)

told_torn : (r : ResourceArg) (g : Sizes) (content : List ℕ) (after : Option (List ℕ)) (faults later : ℕ) (taken now : Option (List ℕ)) (sink_faults sink_later : ℕ)
    → Directs (Upgrade r g) (Some content) after faults later taken now sink_faults sink_later TornBlock → can_upgrade r g content ≡ false
told_torn r g content after faults later taken now sink_faults sink_later run =
    let torn = (acted_as_told (Upgrade r g) (Some content) after faults later taken now sink_faults sink_later TornBlock torn_is_none run).1.1 in
    let id = suc (length torn.before) in
    let few = torn.host.1 in
    ap (λ b. is_some (right_leader r g.hosts (old_leader_in (sector_at g.sector (leader_offset r.offset) content))) && b)
    (one_fails (has_block g r.offset content) 1 g.hosts id torn.host.0 (omega (arith, few)) (block_at g r.offset content id None torn.torn))
    ∙ nothing_and _

torn_upgrade : (a : Action) (content after : Option (List ℕ)) (lines : List (List ℕ)) → Acts a content after lines TornBlock → (r : ResourceArg) × (g : Sizes) × (a ≡ Upgrade r g)
torn_upgrade (InitLockspace l g) content after lines acts = absurd acts
torn_upgrade (InitLabelled l g t grace) content after lines acts = absurd acts
torn_upgrade (InitResource r g) content after lines acts = absurd acts
torn_upgrade (ReadLeader r g) content after lines acts = absurd acts.ended
torn_upgrade (Upgrade r g) content after lines acts = (r, g, refl)
torn_upgrade (Dump path offset size g) content after lines acts = absurd acts.ended

told_other : (a : Action) (content after : Option (List ℕ)) (faults later : ℕ) (taken now : Option (List ℕ)) (sink_faults sink_later : ℕ)
    → Directs a content after faults later taken now sink_faults sink_later TornBlock → (r : ResourceArg) × (g : Sizes) × (a ≡ Upgrade r g)
told_other a content after faults later taken now sink_faults sink_later run =
    let acted = acted_as_told a content after faults later taken now sink_faults sink_later TornBlock torn_is_none run in
    torn_upgrade a content after acted.0 acted.1

pub upgrade_is_told : UpgradeIsTold
upgrade_is_told = record { right = told_done; no_leader = told_no_leader; torn_block = told_torn; other = told_other }
