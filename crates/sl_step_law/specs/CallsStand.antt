-- Where calls stand: at whole sectors, and those of a lease in an area at a base. And what stands before a settling's look: its session wrote a block there.
-- No law says it; each act keeps it, beside all that is known.
use Rattle.sl_area.specs.AreaLayout.{is_base}
use Rattle.sl_due.specs.Due.{IsHostTrace}
use Rattle.sl_due.specs.Steps.{Step, seen}
use Rattle.sl_run.specs.Lawful.{IsSetting}
use Rattle.sl_trace.specs.Leases.{block_written, is_lease_call, lease_step, spot_of_call}
use Rattle.sl_step_law.specs.ReadyHosts.{IsReady}
use Rattle.sl_host_state.specs.KeptState.{HostState}
use Rattle.sl_trace.specs.Traces.{EachEntry, Setting, Submitted, Trace, new_call, submitted}
use Rattle.sl_trace.specs.declared.effects.Call.{Call}
use Rattle.sl_trace.specs.declared.effects.Entry.{Entry}
use Rattle.sl_trace.specs.declared.effects.LeaseStep.TheVariants.{ReadBeforeBlock, ReadBeforeFree}
use Rattle.sl_trace.specs.declared.effects.LeaseStep.{LeaseStep}
use Rattle.sl_trace.specs.declared.effects.Purpose.TheVariants.{Lease}
use Rattle.sl_trace.specs.declared.effects.Purpose.{Purpose}
use Rattle.std.specs.Prelude.{Bool, Contains, IsTrue, false, is_some, true, ◌%◌, ◌-◌, ◌≡◌}

-- Whether a step looks before what a settling owes: at the area before a free, at the blocks before a block. And a call.
abbrev pub is_look : LeaseStep → Bool
is_look ReadBeforeFree = true
is_look ReadBeforeBlock = true
is_look step = false

abbrev pub looks_before_owed : Purpose → Bool
looks_before_owed (Lease work step) = is_look step
looks_before_owed p = false

-- The session of the call has written a block of its lease there before.
pub record WroteBlock (st : Setting) (past : Trace) (c : Call) : Type 0 where
  pub write : Submitted
  pub there : Contains (submitted past) write
  pub mine : write.call.session ≡ c.session
  pub works : is_lease_call write ≡ true
  pub area : spot_of_call st.layout write ≡ spot_of_call st.layout (new_call 0 0 c)
  pub block : is_some (block_written write) ≡ true

-- A call, with the entries before its own.
pub record CallStands (st : Setting) (past : Trace) (c : Call) : Type 0 where
  pub whole : c.offset % st.layout.sector ≡ 0
  pub area : is_some (lease_step c.purpose) ≡ true → IsTrue (is_base st.layout (c.offset - c.offset % st.layout.area))
  pub behind : looks_before_owed c.purpose ≡ true → WroteBlock st past c

-- Those of an entry.
abbrev pub EntryStands : Setting → Trace → Entry → Type 0
EntryStands st past e = (c : Call) → Contains e.effects.calls c → CallStands st past c

-- All calls so far.
abbrev pub CallsStand : Step → Type 0
CallsStand x = EachEntry (EntryStands x.setting) (seen x)

pub record CallsAreStanding : Type 0 where
  pub traces : (st : Setting) (es : Trace) → IsSetting st → IsHostTrace st es → EachEntry (EntryStands st) es
  -- and so at an input
  pub ready : (h : HostState) (x : Step) → IsReady h x → CallsStand x
