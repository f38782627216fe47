-- What a world asks of a step's effects: calls and children are numbered on, a call reads some sectors or writes a record.
use Rattle.sl_world_state.specs.Daemons.{IsSoundCall}
use Rattle.sl_host_law.specs.Steps.StepFunction.{effects_of}
use Rattle.sl_host_state.specs.KeptState.{HostState}
use Rattle.sl_host_state.specs.HostStands.{sectors_of}
use Rattle.sl_sector.specs.Records.{IsRecord}
use Rattle.sl_sector.specs.declared.sector.Rec.{Rec}
use Rattle.sl_step_law.specs.SectorsAsked.{sectors_asked}
use Rattle.sl_step_law.specs.StepsAreTaken.{MayCome}
use Rattle.sl_trace.specs.Traces.{Setting, Trace, next_call, next_child}
use Rattle.sl_trace.specs.declared.effects.Call.{Call}
use Rattle.sl_trace.specs.declared.effects.Op.TheVariants.{ReadSectors, WriteRecord}
use Rattle.sl_trace.specs.declared.input.Input.{Input}
use Rattle.std.specs.List.{range_with_len}
use Rattle.std.specs.Prelude.{Contains, length, map, ℕ, ◌%◌, ◌≡◌, ◌≤◌}

pub record EffectsAreSound : Type 0 where
  pub calls : (now : ℕ) (i : Input) (h : HostState) (st : Setting) (es : Trace) → MayCome now i h st es
      → map (λ c. c.number) (effects_of now i h).calls ≡ range_with_len (next_call st es) (length (effects_of now i h).calls)
  pub starts : (now : ℕ) (i : Input) (h : HostState) (st : Setting) (es : Trace) → MayCome now i h st es
      → map (λ s. s.process) (effects_of now i h).starts ≡ range_with_len (next_child es) (length (effects_of now i h).starts)
  pub asks : (now : ℕ) (i : Input) (h : HostState) (st : Setting) (es : Trace) (c : Call) → MayCome now i h st es → Contains (effects_of now i h).calls c
      → sectors_of c.op ≡ sectors_asked st.layout c.purpose
  pub reads : (now : ℕ) (i : Input) (h : HostState) (st : Setting) (es : Trace) (c : Call) (n : ℕ) → MayCome now i h st es → Contains (effects_of now i h).calls c
      → c.op ≡ ReadSectors n → 1 ≤ n
  pub writes : (now : ℕ) (i : Input) (h : HostState) (st : Setting) (es : Trace) (c : Call) (r : Rec) → MayCome now i h st es → Contains (effects_of now i h).calls c
      → c.op ≡ WriteRecord r → IsRecord r
  pub whole : (now : ℕ) (i : Input) (h : HostState) (st : Setting) (es : Trace) (c : Call) → MayCome now i h st es → Contains (effects_of now i h).calls c
      → c.offset % st.layout.sector ≡ 0
  -- so each call is as a world asks
  pub sound : (now : ℕ) (i : Input) (h : HostState) (st : Setting) (es : Trace) (c : Call) → MayCome now i h st es → Contains (effects_of now i h).calls c → IsSoundCall st.layout.sector c
