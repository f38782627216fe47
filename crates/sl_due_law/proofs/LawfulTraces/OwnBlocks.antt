-- Which block of its own a lease knows when an answer to its call was heard.
use Rattle.sl_due_facts.specs.Acts.Acts.{Hears}
use Rattle.sl_area.specs.Pairs.{BlocksRead, blocks_of, pairs_of}
use Rattle.sl_area.specs.AreaLayout.{blocks_in}
use Rattle.sl_due.specs.Steps.{Step, seen}
use Rattle.sl_due_leases.proofs.Leases.NamesVerified.{ended_wrote}
use Rattle.sl_due_leases.proofs.Ways.WayFactsHeld.EffectsLeave.{there_has}
use Rattle.sl_due_leases.proofs.Ways.WayFactsHeld.HeardStands.{heard_has}
use Rattle.sl_due_leases.proofs.Ways.WayFactsHeld.PlacesStand.{id_in_range}
use Rattle.sl_due_leases.proofs.Ways.NewestCall.{ended_here, leader_is_no_block, read_writes_no_block, submitted_passed}
use Rattle.sl_due_leases.proofs.Ways.GivenReads.{blocks_heard}
use Rattle.sl_due_leases.proofs.Ways.WayStages.{ReadBehind, asked2_own, made_behind, proposed2, rest_own}
use Rattle.sl_due_law.proofs.Causes.Leases.NewestWays.{NewestWays, newest_ways}
use Rattle.sl_due_law.proofs.LawfulTraces.BallotWrites.{phase1_own}
use Rattle.sl_due_law.proofs.LawfulTraces.LeasesGoOn.{is_behind_block}
use Rattle.sl_due_facts.specs.Facts.WayFacts.{Phase2ReadWay, PurposeWay, TakeWay, WayContext, Ways, way_context}
use Rattle.sl_due_facts.specs.Facts.AllFacts.{Whole}
use Rattle.sl_trace.specs.Leases.{block_of_host, block_submitted, blocks_given, known, last_blocks, lease_calls, own_known, own_or_read, read_given, spot_of_call}
use Rattle.sl_words.proofs.Lists.{there_is}
use Rattle.sl_words.proofs.Places.{position_none}
use Rattle.sl_area.specs.AreaSizes.{Layout}
use Rattle.sl_sector.specs.declared.sector.Block.{Block}
use Rattle.sl_sector.specs.declared.sector.PairBlock.{PairBlock}
use Rattle.sl_trace.specs.LeaseDecisions.{first_step}
use Rattle.sl_trace.specs.declared.session.Session.{Session}
use Rattle.sl_trace.specs.Traces.{Submitted}
use Rattle.sl_trace.specs.declared.effects.LeaseRead.TheVariants.{OfArea, OfBlock, OfFree, OfPhase1, OfPhase2}
use Rattle.sl_trace.specs.declared.effects.LeaseStep.TheVariants.{ClearMode, FreeLeader, Phase1Read, Phase1Write, Phase2Read, Phase2Write, ReadAgain, ReadArea, ReadBeforeBlock, ReadBeforeFree, SetMode, TakeLeader}
use Rattle.sl_trace.specs.declared.effects.LeaseStep.{LeaseStep}
use Rattle.sl_trace.specs.declared.effects.Purpose.TheVariants.{Lease}
use Rattle.sl_trace.specs.declared.effects.Work.{Work}
use Rattle.sl_trace.specs.declared.input.Answer.{Answer}
use Rattle.sl_words.proofs.CaseLaws.{false_is_true, true_is_false}
use Rattle.std.proofs.Common.{ap, arith, refl, subst, ◌∙◌}
use Rattle.std.proofs.lemmas.List.FromFn.{length-map-range_with_len}
use Rattle.std.proofs.lemmas.List.{length-map}
use Rattle.std.specs.Prelude.{Bool, List, None, Option, Some, false, is_none, length, map, option_map, position, slice_get, true, unwrap_or, ℕ, ◌-◌, ◌<◌, ◌∷◌, ◌≡◌, ◌≤◌}

-- ---- behind the steps of a ballot

-- After the read of phase 2 it is that of phase 2.
phase2_own : (w : WayContext) (work : Work) (step : LeaseStep) (m : Submitted) (rest : List Submitted) → Ways w (m ∷ rest) → m.call.purpose ≡ Lease work step → first_step step ≡ Phase2Read
    → (b : Block) × (block_submitted (m ∷ rest) ≡ Some b)
phase2_own w work step m rest ways is same =
    let read : ReadBehind w work Phase2Read m rest = made_behind w work OfPhase2 step m rest same is ways.0 ways.1 in
    let way : Phase2ReadWay w work read.first.at read.first.call read.older = read.way in (
      proposed2 w work read.first.at read.first.call read.older read.ways way,
      submitted_passed m rest (read_writes_no_block m read.sectors read.reads.1)
          ∙ (rest_own w work Phase2Read m rest read ∙ asked2_own w work read.first.at read.first.call read.older read.ways way),
    )

-- Whoever takes a leader has ended a ballot.
take_own : (w : WayContext) (work : Work) (m : Submitted) (rest : List Submitted) → Ways w (m ∷ rest) → m.call.purpose ≡ Lease work TakeLeader → (b : Block) × (block_submitted (m ∷ rest) ≡ Some b)
take_own w work m rest ways is =
    let way : TakeWay w work m.at m.call rest = subst (λ p. PurposeWay w m.at m.call rest p) is ways.0.way in
    let b = ended_wrote w.layout (way.after.prior ∷ way.after.rest) way.leader.lver w.self (ended_here w.layout way.after.prior way.after.rest (way.leader.lver, w.self) way.won) in
    (b.0, submitted_passed m rest (leader_is_no_block w m way.leader way.wrote) ∙ (ap (λ ms. block_submitted ms) way.after.before ∙ b.1))

pub own_behind : (x : Step) (s : Session) (work : Work) (step : LeaseStep) (m : Submitted) (answer : Answer) → Whole x → Hears x s m answer → m.call.purpose ≡ Lease work step → is_behind_block step ≡ true
    → (b : Block) × ((known x.setting (seen x) s (spot_of_call x.setting.layout m)).own ≡ Some b)
unfolding known
own_behind x s work Phase1Read m answer w h is behind = let o = phase1_own x s work Phase1Read m answer w h is refl in (o.own, o.knows)
own_behind x s work (ReadAgain OfPhase1) m answer w h is behind = let o = phase1_own x s work (ReadAgain OfPhase1) m answer w h is refl in (o.own, o.knows)
own_behind x s work Phase2Read m answer w h is behind =
    let n = newest_ways x s work Phase2Read m answer w h is in let b = phase2_own (way_context x.setting (seen x) s) work Phase2Read m n.rest n.ways is refl in (b.0, ap (λ ms. block_submitted ms) n.newest ∙ b.1)
own_behind x s work (ReadAgain OfPhase2) m answer w h is behind =
    let n = newest_ways x s work (ReadAgain OfPhase2) m answer w h is in let b = phase2_own (way_context x.setting (seen x) s) work (ReadAgain OfPhase2) m n.rest n.ways is refl in (b.0, ap (λ ms. block_submitted ms) n.newest ∙ b.1)
own_behind x s work TakeLeader m answer w h is behind =
    let n = newest_ways x s work TakeLeader m answer w h is in let b = take_own (way_context x.setting (seen x) s) work m n.rest n.ways is in (b.0, ap (λ ms. block_submitted ms) n.newest ∙ b.1)
own_behind x s work (ReadArea name) m answer w h is behind = absurd (false_is_true behind)
own_behind x s work ReadBeforeFree m answer w h is behind = absurd (false_is_true behind)
own_behind x s work ReadBeforeBlock m answer w h is behind = absurd (false_is_true behind)
own_behind x s work (ReadAgain (OfArea name)) m answer w h is behind = absurd (false_is_true behind)
own_behind x s work (ReadAgain OfFree) m answer w h is behind = absurd (false_is_true behind)
own_behind x s work (ReadAgain OfBlock) m answer w h is behind = absurd (false_is_true behind)
own_behind x s work Phase1Write m answer w h is behind = absurd (false_is_true behind)
own_behind x s work Phase2Write m answer w h is behind = absurd (false_is_true behind)
own_behind x s work SetMode m answer w h is behind = absurd (false_is_true behind)
own_behind x s work FreeLeader m answer w h is behind = absurd (false_is_true behind)
own_behind x s work ClearMode m answer w h is behind = absurd (false_is_true behind)

-- ---- in the area that was read

last_here : (l : Layout) (m : Submitted) (rest : List Submitted) (bs : List (Option Block)) → blocks_given l m rest ≡ Some bs → last_blocks l (m ∷ rest) ≡ bs
last_here l m rest bs is = ap (λ o. elim o as (λ z. List (Option Block)) [ Some cs ↦ cs | None ↦ last_blocks l rest ]) is

within : (id hosts n : ℕ) → 1 ≤ id → id ≤ hosts → n ≡ hosts → id - 1 < n
within id hosts n one most is = omega (arith, one, most, is)

-- There is one for each host.
length_blocks : (l : Layout) (r : BlocksRead) → length (blocks_of l r) ≡ l.hosts
length_blocks l r = by l.paired where
  by : (paired : Bool) → length (elim paired as (λ z. List (Option Block)) [ false ↦ blocks_in l r.last | true ↦ map (λ p. option_map (λ (q : PairBlock). q.block) p) (pairs_of l r) ]) ≡ l.hosts
  by false = length-map-range_with_len _ 1 l.hosts
  by true = length-map (pairs_of l r) (λ p. option_map (λ (q : PairBlock). q.block) p) ∙ length-map-range_with_len _ 1 l.hosts

-- Each host's block is there where none is torn.
own_there : (bs : List (Option Block)) (hosts id : ℕ) → length bs ≡ hosts → 1 ≤ id → id ≤ hosts → position is_none bs ≡ None → (b : Block) × (block_of_host bs id ≡ Some b)
own_there bs hosts id long one most whole = by at.0 at.1 (position_none is_none bs (id - 1) at.0 whole at.1) where
  at : (o : Option Block) × (slice_get bs (id - 1) ≡ Some o)
  at = there_is bs (id - 1) (within id hosts (length bs) one most long)

  by : (o : Option Block) → slice_get bs (id - 1) ≡ Some o → is_none o ≡ false → (b : Block) × (block_of_host bs id ≡ Some b)
  by None there torn = absurd (true_is_false torn)
  by (Some b) there torn = (b, ap (λ o. unwrap_or o None) there)

-- So where a read gave each host's block the own one is known.
pub own_in_area : (x : Step) (s : Session) (m : Submitted) (answer : Answer) → Whole x → Hears x s m answer → (n : NewestWays x s m) → (r : BlocksRead) → read_given x.setting.layout m n.rest ≡ Some r
    → position is_none (blocks_of x.setting.layout r) ≡ None → (b : Block) × (own_known (known x.setting (seen x) s (spot_of_call x.setting.layout m)) ≡ Some b)
unfolding known
own_in_area x s m answer w h n r given whole = by (block_submitted (lease_calls x.setting (seen x) s (spot_of_call x.setting.layout m))) refl where
  range : (1 ≤ s.id) × (s.id ≤ x.setting.layout.hosts)
  range = id_in_range x.setting w.setting (seen x) s (there_has x.setting (seen x) s.number s (heard_has x s m answer h))

  read : last_blocks x.setting.layout (lease_calls x.setting (seen x) s (spot_of_call x.setting.layout m)) ≡ blocks_of x.setting.layout r
  read = ap (λ ms. last_blocks x.setting.layout ms) n.newest ∙ last_here x.setting.layout m n.rest (blocks_of x.setting.layout r) (blocks_heard x.setting.layout m n.rest r given)

  by : (o : Option Block) → block_submitted (lease_calls x.setting (seen x) s (spot_of_call x.setting.layout m)) ≡ o
      → (b : Block) × (own_or_read s.id (block_submitted (lease_calls x.setting (seen x) s (spot_of_call x.setting.layout m))) (last_blocks x.setting.layout (lease_calls x.setting (seen x) s (spot_of_call x.setting.layout m))) ≡ Some b)
  by (Some b) at = (b, ap (λ o. own_or_read s.id o (last_blocks x.setting.layout (lease_calls x.setting (seen x) s (spot_of_call x.setting.layout m)))) at)
  by None at =
      let b = own_there (blocks_of x.setting.layout r) x.setting.layout.hosts s.id (length_blocks x.setting.layout r) range.0 range.1 whole in
      (b.0, ap (λ o. own_or_read s.id o (last_blocks x.setting.layout (lease_calls x.setting (seen x) s (spot_of_call x.setting.layout m)))) at ∙ (ap (λ bs. block_of_host bs s.id) read ∙ b.1))
