-- When a holding may end. Safety asks nothing of it; that a holder keeps what it was granted rests on it.
use Rattle.sl_trace.specs.Traces.{Setting, Trace, end_of, holdings, is_orphan, line_in, same_place}
use Rattle.sl_trace.specs.declared.command.Command.TheVariants.{Release, ReleaseOrphan, TakeOver}
use Rattle.sl_trace.specs.declared.command.Command.{Command}
use Rattle.sl_trace.specs.declared.effects.End.{End}
use Rattle.sl_trace.specs.declared.effects.Entry.{Entry}
use Rattle.sl_trace.specs.declared.effects.Grant.{Grant}
use Rattle.sl_trace.specs.declared.input.Input.TheVariants.{Exit, Spawned}
use Rattle.sl_words.specs.Words.{same_truth}
use Rattle.std.specs.Prelude.{Bool, Contains, IsFalse, IsTrue, List, Ok, Result, Some, false, ℕ, ◌&&◌, ◌==◌, ◌≡◌}

-- Whether a command gives this holding up: its process's, or the orphan's.
abbrev pub gives_up : Grant → Result Command ℕ → Bool
gives_up g (Ok (Release r p)) = p == g.process && same_place r.path r.offset g.path g.offset
gives_up g (Ok (ReleaseOrphan r)) = is_orphan g && same_place r.path r.offset g.path g.offset
gives_up g c = false

-- Whether a command takes this orphan over to a grant: to its process, as persistent as it asks.
abbrev pub takes_over : Grant → Grant → Result Command ℕ → Bool
takes_over g h (Ok (TakeOver r shared p persistent)) =
    is_orphan g && same_place r.path r.offset g.path g.offset && h.process == p && same_truth h.persistent persistent
takes_over g h c = false

-- Why a holding ends.
pub data EndReason (st : Setting) (e : Entry) (g : Grant) : Type 0 where
  -- its process exits
  Exited : IsFalse (is_orphan g) → e.input ≡ Exit g.process → EndReason st e g
  -- its process was not started
  Not_started : e.input ≡ Spawned g.process false → EndReason st e g
  -- its process gives it up, or it is an orphan that is released
  Given_up : (text : List ℕ) → line_in e.input ≡ Some text → IsTrue (gives_up g (st.read text)) → EndReason st e g
  -- its process goes on with it, as persistent as it was, in another mode
  Converted : (h : Grant) → Contains e.effects.grants h → IsTrue (same_place h.path h.offset g.path g.offset)
      → h.process ≡ g.process → h.persistent ≡ g.persistent → EndReason st e g
  -- it is an orphan, and a process takes it over
  Taken_over : (h : Grant) → Contains e.effects.grants h → IsTrue (same_place h.path h.offset g.path g.offset)
      → (text : List ℕ) → line_in e.input ≡ Some text → IsTrue (takes_over g h (st.read text)) → EndReason st e g

-- An end is that of a holding, and has its reason.
pub record LawfulEnding (st : Setting) (past : Trace) (e : Entry) (x : End) : Type 0 where
  pub holding : Grant
  pub held : Contains (holdings past) holding
  pub told : end_of holding ≡ x
  -- a process that goes on using what it no longer holds would do so beside the next holder
  pub reason : EndReason st e holding

-- Lawful ends.
pub record LawfulEnd (st : Setting) (past : Trace) (e : Entry) : Type 0 where
  pub each : (x : End) → Contains e.effects.ends x → LawfulEnding st past e x
