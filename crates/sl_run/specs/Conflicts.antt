-- Who uses what in the world, and when two uses conflict: what a machine holds; and what it held when it was reset, for as long as a write
-- that was in flight then may land. (That a process uses a resource only while it holds it, and on a machine that was reset only so long, is
-- a premise about the world outside: no definition says it, and no guard can.)
use Rattle.sl_run.specs.Worlds.{Lingering, World, lingering_now}
use Rattle.sl_trace.specs.Traces.{is_shared, same_place}
use Rattle.sl_trace.specs.declared.effects.Grant.{Grant}
use Rattle.std.specs.List.{enumerate_from, list_any}
use Rattle.std.specs.Prelude.{Bool, IsFalse, List, false, flat_map, map, not, true, [], ℕ, ◌&&◌, ◌++◌, ◌==◌, ◌||◌}

-- A holding with its machine, or what lingers of one.
pub record Holding : Type 0 where
  pub machine : ℕ
  pub held : Grant
  -- its machine was reset since
  pub lingers : Bool

-- No holding at all.
abbrev pub no_holdings : List Holding
no_holdings = []

-- A holding of machine m that stands.
abbrev pub holding : ℕ → Grant → Holding
holding m g = record { machine = m; held = g; lingers = false }

-- What lingers of one.
abbrev pub lingering_holding : ℕ → Lingering → Holding
lingering_holding m l = record { machine = m; held = l.held; lingers = true }

-- All holdings of the world.
abbrev pub world_holdings : World → List Holding
world_holdings w = flat_map (λ p. map (holding p.0) p.1.holdings) (enumerate_from 1 w.machines)

-- All that lingers.
abbrev pub world_lingering : World → List Holding
world_lingering w = flat_map (λ p. map (lingering_holding p.0) (lingering_now w p.1)) (enumerate_from 1 w.machines)

-- All by whose processes a resource may be written.
abbrev pub world_uses : World → List Holding
world_uses w = world_holdings w ++ world_lingering w

-- Whether two are of one process, a machine and a number. What lingers is no process's any more: it is its machine's, which comes up again
-- when it comes up again; so it conflicts with nothing of its own machine.
abbrev pub is_one_user : Holding → Holding → Bool
is_one_user a b = a.machine == b.machine && (a.held.process == b.held.process || a.lingers || b.lingers)

-- A resource is its place.
abbrev pub conflicts : Holding → Holding → Bool
conflicts a b =
    same_place a.held.path a.held.offset b.held.path b.held.offset && not (is_shared a.held.mode && is_shared b.held.mode) && not (is_one_user a b)

-- Whether two of them conflict.
abbrev pub has_conflict : List Holding → Bool
has_conflict hs = list_any (λ a. list_any (conflicts a) hs) hs

-- No two uses of the world conflict.
abbrev pub IsExclusive : World → Type 0
IsExclusive w = IsFalse (has_conflict (world_uses w))
