-- What is known of leases: whose turn it is on an area, and the instances of frees and ballots.
use Rattle.sl_run.specs.LawfulArea.{is_area_work}
use Rattle.sl_trace.specs.Leases.{block_submitted, freed, is_lease_call, lease_calls, open_ballot, own_block, spot_of_call}
use Rattle.sl_sector.specs.declared.sector.Block.{Block}
use Rattle.sl_trace.specs.Sessions.{session_numbered, sessions}
use Rattle.sl_trace.specs.declared.session.Session.{Session}
use Rattle.sl_due_facts.specs.Facts.HeardCall.{IsOpen}
use Rattle.sl_due_facts.specs.Facts.WayFacts.{IsAligned}
use Rattle.sl_trace.specs.Traces.{Setting, Submitted, Trace, submitted}
use Rattle.sl_trace.specs.declared.effects.Spot.{Spot}
use Rattle.std.specs.Prelude.{Contains, IsTrue, List, Option, Some, ℕ, ◌<◌, ◌∷◌, ◌≡◌, ◌≤◌}

-- On each area one call of the daemon's work is open, and of its lease it is the newest.
pub record TurnFacts (st : Setting) (t : Trace) (heard : Option ℕ) : Type 0 where
  pub one : (m n : Submitted) → Contains (submitted t) m → Contains (submitted t) n → IsOpen t heard m → IsOpen t heard n →
      IsTrue (is_area_work m.call.purpose) → IsTrue (is_area_work n.call.purpose) → spot_of_call st.layout m ≡ spot_of_call st.layout n → m ≡ n
  pub newest : (s : Session) (m : Submitted) → session_numbered st t m.call.session ≡ Some s → Contains (submitted t) m → IsOpen t heard m →
      IsTrue (is_lease_call m) →
      (ms : List Submitted) × (lease_calls st t s (spot_of_call st.layout m) ≡ m ∷ ms)

-- Instances of frees and ballots.
pub record NumberFacts (st : Setting) (t : Trace) : Type 0 where
  pub frees : (s : Session) (at : Spot) (b : Block) → Contains (sessions st t) s → IsAligned st at → own_block st.layout s.id (lease_calls st t s at) ≡ Some b →
      freed (lease_calls st t s at) ≤ b.lver
  pub ballot : (s : Session) (at : Spot) (n : ℕ) → Contains (sessions st t) s → IsAligned st at → open_ballot st.layout (lease_calls st t s at) ≡ Some n →
      (b : Block) × (block_submitted (lease_calls st t s at) ≡ Some b) × (b.lver ≡ n) × (freed (lease_calls st t s at) < n)
