-- What a session's lease writes is, by the kind of areas, what its member does.
use Rattle.sl_area.specs.AreaSizes.{Layout, layout_of}
use Rattle.sl_area.specs.AreaLayout.{block_place}
use Rattle.sl_area.specs.AreaRecords.{block_record, leader_record}
use Rattle.sl_host.specs.BookQuestions.{state_in}
use Rattle.sl_host.specs.Host.{Becomes, HostView}
use Rattle.sl_host_law.specs.Answers.LeaseDecisions.{block_at, record_at, turn_next, writing_block}
use Rattle.sl_host_law.specs.Steps.Leases.{lease_at}
use Rattle.sl_host_state.specs.KeptState.{HostKept, MemberState, state_of}
use Rattle.sl_host_state.specs.MadeEffects.{with_call}
use Rattle.sl_host_work.specs.declared.lease_work.OwnBlock.{OwnBlock}
use Rattle.sl_sector.specs.declared.sector.Block.{Block}
use Rattle.sl_sector.specs.declared.sector.Leader.{Leader}
use Rattle.sl_sector.specs.declared.sector.Rec.TheVariants.{BlockIs, LeaderIs, PairIs, PairLeaderIs}
use Rattle.sl_sector.specs.declared.sector.Rec.{Rec}
use Rattle.sl_trace.specs.declared.effects.LeaseStep.{LeaseStep}
use Rattle.sl_trace.specs.declared.effects.Op.TheVariants.{WriteRecord}
use Rattle.sl_trace.specs.declared.effects.Purpose.TheVariants.{Lease}
use Rattle.sl_trace.specs.declared.effects.Spot.{Spot}
use Rattle.sl_trace.specs.declared.effects.Work.{Work}
use Rattle.sl_trace.specs.declared.session.Session.{Session}
use Rattle.std.proofs.Common.{ap, subst, sym, ◌∙◌}
use Rattle.std.specs.Prelude.{Bool, IfSome, List, Option, Some, false, true, ℕ, ◌≡◌}

pub block_as : (g : Layout) (turn : ℕ) (lockspace resource : List ℕ) (b : Block) (paired : Bool) → paired ≡ g.paired
    → elim paired as (λ z. Rec) [ false ↦ BlockIs b | true ↦ PairIs (record { block = b; turn = turn; lockspace = lockspace; resource = resource }) ] ≡ block_record g turn lockspace resource b
block_as g turn lockspace resource b paired is =
    ap (λ p. elim p as (λ z. Rec) [ false ↦ BlockIs b | true ↦ PairIs (record { block = b; turn = turn; lockspace = lockspace; resource = resource }) ]) is

pub leader_as : (g : Layout) (l : Leader) (paired : Bool) → paired ≡ g.paired → elim paired as (λ z. Rec) [ false ↦ LeaderIs l | true ↦ PairLeaderIs l ] ≡ leader_record g l
leader_as g l paired is = ap (λ p. elim p as (λ z. Rec) [ false ↦ LeaderIs l | true ↦ PairLeaderIs l ]) is

-- The own block is written: the next one of the member of the session.
pub block_written : (k : HostKept) (old new : HostView) (m : MemberState) (s : Session) (at : Spot) (work : Work) (step : LeaseStep) (b : Block) (own : Option OwnBlock) → k.config ≡ old.kept.config
    → own ≡ Some (record { offset = block_at (state_in k) m at; spelled = record_at (state_in k) m at b }) → m.who ≡ s
    → IfSome own (λ o. Becomes old new (with_call s.number at.path (Lease work step) o.offset (WriteRecord o.spelled))) → Becomes old new (writing_block m at work step b)
block_written k old new m s at work step b own same is who written read =
    let W : Option OwnBlock → Type 0 = λ x. IfSome x (λ o. Becomes old new (with_call s.number at.path (Lease work step) o.offset (WriteRecord o.spelled))) in
    subst W is written read
    ∙ (λ i. with_call (sym who i).number at.path (Lease work step) (block_place (layout_of (same i).sizes) at.base m.who.id (turn_next m at))
    (WriteRecord (block_record (layout_of (same i).sizes) (turn_next m at) m.who.lockspace (lease_at m at).name b)) (state_of read old.kept))
