-- What a world asks of a daemon's steps, and what is known of every trace.
use Rattle.sl_area.specs.AreaSizes.{layout_of, program_digest}
use Rattle.sl_world_state.specs.declared.daemon.Most.{Most}
use Rattle.sl_world_state.specs.declared.daemon.Site.{Site}
use Rattle.sl_run.specs.Lawful.{IsSetting}
use Rattle.sl_run.specs.Refusals.{is_for_locks, sectors_of}
use Rattle.sl_run.specs.Worlds.{Program, setting_of}
use Rattle.sl_run.specs.declared.header.Header.{Header}
use Rattle.sl_sector.specs.Records.{IsRecord}
use Rattle.sl_sector.specs.Images.{Run}
use Rattle.sl_text.specs.Forms.{Form}
use Rattle.sl_trace.specs.CommandForms.{command_in}
use Rattle.sl_trace.specs.Traces.{IsTrace, Setting, Trace, is_expected, last_reading, next_call, next_child, next_job}
use Rattle.sl_trace.specs.declared.command.Command.{Command}
use Rattle.sl_trace.specs.declared.effects.Call.{Call}
use Rattle.sl_trace.specs.declared.effects.Effects.{Effects}
use Rattle.sl_trace.specs.declared.effects.Entry.{Entry}
use Rattle.sl_trace.specs.declared.effects.Op.TheVariants.{ReadSectors, WriteRecord}
use Rattle.sl_trace.specs.declared.effects.Op.{Op}
use Rattle.sl_trace.specs.declared.input.Answer.TheVariants.{Read}
use Rattle.sl_trace.specs.declared.input.Input.TheVariants.{Answer as Told}
use Rattle.sl_trace.specs.declared.input.Input.{Input}
use Rattle.sl_words.specs.Bounds.{moments}
use Rattle.std.specs.List.{range_with_len}
use Rattle.std.specs.Prelude.{Bool, Contains, IsTrue, List, length, map, ℕ, ◌%◌, ◌-◌, ◌<◌, ◌^◌, ◌≡◌, ◌≤◌}

-- ---- what a daemon is made of

-- A program of SHA-256 whose daemons read these commands.
abbrev pub program_of : (Header → List (Form Command)) → Program
program_of commands = record { digest = program_digest; commands = commands }

-- What a daemon of these commands is begun with.
abbrev pub begun_with : (Header → List (Form Command)) → Header → Site → Setting
begun_with commands h s = setting_of (program_of commands) (layout_of h.geometry) h s.machine s.name s.first s.given

-- Whether a text is a command for lvmlockd's process, which acts by lines alone.
abbrev pub text_for_locks : (Header → List (Form Command)) → Header → List ℕ → Bool
text_for_locks commands h text = is_for_locks (command_in (commands h) text)

-- ---- a step

-- A step's entry.
abbrev pub entry_of : ℕ → Input → Effects → Entry
entry_of now i fx = record { reading = now; input = i; effects = fx }

-- The answer ok of a read that gave these sectors.
abbrev pub read_of : ℕ → Run → Input
read_of call s = Told call (Read s.bytes)

-- How many numbers are kept back, so that a step has numbers for all that it makes.
abbrev pub spare_numbers : ℕ
spare_numbers = 2048

-- What may come to a daemon after these entries.
pub record MayCome (st : Setting) (es : Trace) (now : ℕ) (i : Input) : Type 0 where
  pub time : last_reading st es ≤ now
  pub below : now < moments
  pub expected : IsTrue (is_expected st es i)
  -- numbers are left for calls and jobs
  pub room : (next_call st es < 2 ^ 63 - spare_numbers) × (next_job st es < 2 ^ 63 - spare_numbers)

-- Calls and children have the next numbers.
pub record IsNumbered (st : Setting) (es : Trace) (fx : Effects) : Type 0 where
  pub calls : map (λ c. c.number) fx.calls ≡ range_with_len (next_call st es) (length fx.calls)
  pub starts : map (λ s. s.process) fx.starts ≡ range_with_len (next_child es) (length fx.starts)

-- What a call writes is a record.
abbrev pub IsSoundOp : Op → Type 0
IsSoundOp (ReadSectors n) = Unit {0}
IsSoundOp (WriteRecord r) = IsRecord r

-- A call has some sectors, whole ones.
pub record IsSoundCall (sector : ℕ) (c : Call) : Type 0 where
  pub some : 1 ≤ sectors_of c.op
  pub whole : c.offset % sector ≡ 0
  pub op : IsSoundOp c.op

-- No more than was said; and calls are sound.
pub record IsStep (st : Setting) (m : Most) (fx : Effects) : Type 0 where
  pub ends : length fx.ends ≤ m.ends
  pub signals : length fx.signals ≤ m.signals
  pub moves : length fx.moves ≤ m.moves
  pub grants : length fx.grants ≤ m.grants
  pub starts : length fx.starts ≤ m.starts
  pub replies : length fx.replies ≤ m.replies
  pub few : length fx.calls ≤ m.calls
  pub calls : (c : Call) → Contains fx.calls c → IsSoundCall st.layout.sector c

-- ---- traces

-- A daemon of this kind stood for the trace.
pub record Stood {D : Type 0} (stands : D → Setting → Trace → Type 0) (st : Setting) (es : Trace) : Type 0 where
  pub setting : IsSetting st
  pub trace : IsTrace st es
  pub daemon : D
  pub stood : stands daemon st es
