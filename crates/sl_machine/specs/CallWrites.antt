-- What a call's write leaves, and where.
use Rattle.sl_world_state.specs.KeptWorld.{FlightState, KeptState, Place, flight_of_machine}
use Rattle.sl_world_state.specs.Refusals.{torn_in}
use Rattle.std.specs.Prelude.{List, None, Option, Some, length, ℕ, ◌≡◌}

-- The call in flight of this machine leaves these bytes whole at this place; they are a sector's.
pub record LeavesWhole (k : KeptState) (m c : ℕ) (place : Option Place) (bytes : List ℕ) : Type 0 where
  pub flight : FlightState
  pub there : flight_of_machine k m c ≡ Some flight
  pub place_is : flight.place ≡ place
  pub bytes_are : flight.write ≡ Some bytes
  pub sized : length bytes ≡ k.header.geometry.sector

-- Where a call lies, and how many sectors it has sampled, if it is in flight.
abbrev pub at_first : Option FlightState → Option Place
at_first None = None
at_first (Some f) = f.place

abbrev pub samples_of : Option FlightState → ℕ
samples_of None = 0
samples_of (Some f) = f.samples

-- The same of a write that takes effect in part.
pub record LeavesTorn (k : KeptState) (m c n : ℕ) (given : List ℕ) (place : Option Place) (bytes : List ℕ) : Type 0 where
  pub flight : FlightState
  pub there : flight_of_machine k m c ≡ Some flight
  pub place_is : flight.place ≡ place
  pub bytes_are : torn_in k flight n given ≡ bytes
  pub sized : length bytes ≡ k.header.geometry.sector
