-- For whom a lease is kept, and what is known of it beside what it keeps.
use Rattle.sl_area.specs.AreaSizes.{Layout, layout_of}
use Rattle.sl_host_state.specs.KeptState.{LeaseState}
use Rattle.sl_host_state.specs.HostStands.{first_read, turn_kept}
use Rattle.sl_lease.specs.declared.outer_facts.Held.{Held}
use Rattle.sl_lease.specs.declared.side.Side.{Side}
use Rattle.sl_trace.specs.LeaseDecisions.{LeasePlace}
use Rattle.sl_trace.specs.Leases.{LeaseKnown}
use Rattle.sl_sector.specs.declared.sector.Block.{Block}
use Rattle.sl_words.specs.Words.{is_empty}
use Rattle.std.specs.Prelude.{Bool, List, Option, not, ℕ}

-- The layout of its area.
abbrev pub layout_in : Side → Layout
layout_in z = layout_of z.geometry

-- Where the lease stands.
abbrev pub place_of : Side → LeasePlace
place_of z = record { layout = layout_in z; lockspace = z.lockspace }

-- Whether the resource's name was verified.
abbrev pub is_named : LeaseState → Bool
is_named l = not (is_empty l.name)

-- What is known of a lease by what is kept of it, what is held under it, whom its session counts as over, and the blocks read last.
abbrev pub known_with : Side → LeaseState → Held → (ℕ → ℕ → Bool) → List (Option Block) → LeaseKnown
known_with z l h over read =
    record {
      self = z.me;
      own = l.own;
      read = read;
      kept = first_read l.pair;
      turn = turn_kept l.pair;
      name = l.name;
      freed = l.freed;
      ballot = l.ballot;
      shown = l.shown;
      won = l.won;
      shared = h.shared;
      exclusive = h.exclusive;
      over = over;
    }
