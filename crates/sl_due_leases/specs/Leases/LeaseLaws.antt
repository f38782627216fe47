-- What is shown of the laws of areas, blocks and leaders: each call that a lease makes keeps them, and so does each act.
use Rattle.sl_due_facts.specs.Acts.Acts.{Acts}
use Rattle.sl_area.specs.AreaLayout.{leader_offset}
use Rattle.sl_area.specs.AreaRecords.{leader_record}
use Rattle.sl_run.specs.LawfulLeader.{holds_under}
use Rattle.sl_due_leases.specs.Leases.LeaseLawful.{LeaseLawful, LeaseLaws}
use Rattle.sl_due_leases.specs.Leases.LeaseCalls.{IsCallAt, MayCall, read_place}
use Rattle.sl_due_leases.specs.Ways.Nexts.{Moment, NextIs, next_place, read_op, record_at}
use Rattle.sl_trace.specs.declared.lease.LeaseNext.TheVariants.{ReadFor, WriteBlock, WriteLeader}
use Rattle.sl_sector.specs.declared.sector.Block.{Block}
use Rattle.sl_sector.specs.declared.sector.Leader.{Leader}
use Rattle.sl_due_facts.specs.Facts.AllFacts.{Whole}
use Rattle.sl_trace.specs.Traces.{Submitted}
use Rattle.sl_trace.specs.declared.effects.LeaseStep.{LeaseStep}
use Rattle.sl_trace.specs.declared.effects.Op.TheVariants.{WriteRecord}
use Rattle.std.specs.Prelude.{false, ◌≡◌}

-- A read that fits the calls before it.
abbrev pub ReadsAreLawful : Type 0
ReadsAreLawful =
    (x : Moment) (step : LeaseStep) (c : Submitted) → MayCall x → IsCallAt x step (read_place x step) (read_op x.setting step) c →
    NextIs x (ReadFor step) → LeaseLawful x.setting x.trace x.session c

-- A block.
abbrev pub BlocksAreLawful : Type 0
BlocksAreLawful =
    (x : Moment) (step : LeaseStep) (b : Block) (c : Submitted) → MayCall x →
    IsCallAt x step (next_place x.setting x.trace x.session x.at) (WriteRecord (record_at x b)) c →
    NextIs x (WriteBlock step b) → LeaseLawful x.setting x.trace x.session c

-- A leader: where it is freed, the session doesn't hold under its instance.
abbrev pub LeadersAreLawful : Type 0
LeadersAreLawful =
    (x : Moment) (step : LeaseStep) (l : Leader) (c : Submitted) → MayCall x → IsCallAt x step (leader_offset x.at.base) (WriteRecord (leader_record x.setting.layout l)) c →
    NextIs x (WriteLeader step l) → (l.held ≡ false → holds_under x.trace x.session x.at l.lver ≡ false) → LeaseLawful x.setting x.trace x.session c

-- Each act keeps the laws.
abbrev pub LeaseLawsAreKept : Type 0
LeaseLawsAreKept = Acts Whole LeaseLaws
