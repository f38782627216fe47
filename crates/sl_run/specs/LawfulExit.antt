-- What the exit of a process leaves by the end of its entry.
use Rattle.sl_trace.specs.Traces.{Trace, has_orphan_of, holdings, is_ended_by, is_orphan}
use Rattle.sl_trace.specs.declared.effects.Entry.{Entry}
use Rattle.sl_trace.specs.declared.effects.Grant.{Grant}
use Rattle.sl_trace.specs.declared.input.Input.TheVariants.{Exit}
use Rattle.std.specs.Prelude.{Contains, IsFalse, IsTrue, true, ◌∷◌, ◌≡◌}

-- Lawful exits.
pub record LawfulExit (past : Trace) (e : Entry) : Type 0 where
  -- what nobody uses any more would be held for ever
  pub ends : (g : Grant) → Contains (holdings past) g → IsFalse (is_orphan g) → e.input ≡ Exit g.process → IsTrue (is_ended_by e.effects.ends g)
  -- a persistent holding that ended with its process would leave the resource to others while what it guards is still in use
  pub kept : (g : Grant) → Contains (holdings past) g → IsFalse (is_orphan g) → e.input ≡ Exit g.process → g.persistent ≡ true →
      IsTrue (has_orphan_of (holdings (e ∷ past)) g)
