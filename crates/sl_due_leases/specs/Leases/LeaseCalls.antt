-- Where a lease makes a call, and what the call is.
use Rattle.sl_area.specs.AreaLayout.{block_offset}
use Rattle.sl_run.specs.LawfulArea.{open_block_work}
use Rattle.sl_run.specs.LawfulLeader.{open_writes_on}
use Rattle.sl_due_leases.specs.Ways.Nexts.{Moment, calls_at, context_at}
use Rattle.sl_trace.specs.Leases.{spot_of_call}
use Rattle.sl_trace.specs.Sessions.{is_active}
use Rattle.sl_due_facts.specs.Facts.WayFacts.{Ways}
use Rattle.sl_trace.specs.Traces.{Submitted}
use Rattle.sl_trace.specs.declared.effects.LeaseRead.TheVariants.{OfArea, OfFree}
use Rattle.sl_trace.specs.declared.effects.LeaseStep.TheVariants.{ReadAgain, ReadArea, ReadBeforeFree}
use Rattle.sl_trace.specs.declared.effects.LeaseStep.{LeaseStep}
use Rattle.sl_trace.specs.declared.effects.Op.{Op}
use Rattle.sl_trace.specs.declared.effects.Purpose.TheVariants.{Lease}
use Rattle.std.specs.Prelude.{true, [], ℕ, ◌≡◌, ◌≤◌}

-- The lease may make its next call: its session is active, of a host's id, and no work on the area is open.
pub record MayCall (x : Moment) : Type 0 where
  pub host : (1 ≤ x.session.id) × (x.session.id ≤ x.setting.layout.hosts)
  pub active : is_active x.setting x.trace x.session ≡ true
  pub ways : Ways (context_at x) (calls_at x)
  pub alone : open_block_work x.setting x.trace x.session x.at ≡ []
  pub unwritten : open_writes_on x.setting x.trace x.session x.at ≡ []

-- The call at a step, at its place.
pub record IsCallAt (x : Moment) (step : LeaseStep) (offset : ℕ) (op : Op) (c : Submitted) : Type 0 where
  pub for : c.call.purpose ≡ Lease x.work step
  pub place : c.call.offset ≡ offset
  pub does : c.call.op ≡ op
  pub spot : spot_of_call x.setting.layout c ≡ x.at
  pub now : c.at ≡ x.now

-- Where a step reads.
abbrev pub read_place : Moment → LeaseStep → ℕ
read_place x (ReadArea name) = x.at.base
read_place x ReadBeforeFree = x.at.base
read_place x (ReadAgain (OfArea name)) = x.at.base
read_place x (ReadAgain OfFree) = x.at.base
read_place x step = block_offset x.setting.layout x.at.base 1
