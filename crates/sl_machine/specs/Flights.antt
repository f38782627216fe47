-- Calls in flight as they are kept: the newest first, each with a lesser number than the one before it.
use Rattle.sl_world_state.specs.Changes.{cut_flight, disowned, dropped_flight, landed_flight, stays_open, torn_flight}
use Rattle.sl_world_state.specs.KeptWorld.{FlightState}
use Rattle.sl_world_state.specs.Refusals.{lands}
use Rattle.sl_machine.specs.declared.flight.Outcome.TheVariants.{Dropped, Landed, Torn}
use Rattle.sl_machine.specs.declared.flight.Outcome.{Outcome}
use Rattle.sl_words.specs.Words.{least, some_is}
use Rattle.std.specs.List.{list_all, remove, slice_set}
use Rattle.std.specs.Prelude.{Bool, List, None, Option, Some, false, filter, filter_map, find, is_none, length, map, min, nat_le, nat_lt, not, slice_get, true, [], if◌then◌else◌, ℕ, ◌&&◌, ◌++◌, ◌+◌, ◌-◌, ◌==◌, ◌||◌, ◌∷◌, ◌≡◌}

-- The numbers fall, from below a bound on.
abbrev pub falls : ℕ → List FlightState → Bool
falls bound [] = true
falls bound (f ∷ fs) = nat_lt f.number bound && falls f.number fs

-- The moment of the first reset since the call was made, where it is a write that may still land.
abbrev pub late_cut : FlightState → Option ℕ
late_cut f = elim (lands f) [ false ↦ None | true ↦ f.cut ]

-- The first reset of before which a write may still land.
abbrev pub late_of : List FlightState → Option ℕ
late_of fs = least (filter_map late_cut fs)

-- The number of a call, and that of one of an ended daemon.
abbrev pub numbered : FlightState → Option ℕ
numbered f = Some f.number

abbrev pub ended_number : FlightState → Option ℕ
ended_number f = if f.own then None else Some f.number

-- The oldest call.
abbrev pub oldest : List FlightState → Option FlightState
oldest fs = slice_get fs (length fs - 1)

-- Whether a cut is no later than another; a call that has none would be cut last.
abbrev pub no_later : Option ℕ → Option ℕ → Bool
no_later cut other = elim other [ None ↦ true | Some r ↦ some_is (λ q. nat_le q r) cut ]

-- Whether a call is as old as one made after it should be: its daemon has ended where the newer one's has, and it was cut no later.
abbrev pub is_older : FlightState → FlightState → Bool
is_older newer older = (newer.own || not older.own) && no_later (late_cut older) (late_cut newer)

-- Whether of any two calls the older one is as old as it should be.
abbrev pub in_order : List FlightState → Bool
in_order [] = true
in_order (f ∷ fs) = list_all (is_older f) fs && in_order fs

-- Whether it was cut only if its daemon has ended.
abbrev pub is_uncut : FlightState → Bool
is_uncut f = not f.own || is_none (late_cut f)

-- What is known of calls in flight: numbers fall, each is in flight still, those of the daemon that runs have not been cut, and where the calls
-- are said to be in order, an older one was cut no later than a newer one.
pub record AreFlights (next : ℕ) (ordered : Bool) (fs : List FlightState) : Type 0 where
  pub fall : falls next fs ≡ true
  pub open_ : list_all stays_open fs ≡ true
  pub uncut : list_all is_uncut fs ≡ true
  pub older_first : ordered ≡ true → in_order fs ≡ true

-- ---- one call

-- The call of this number.
abbrev pub flight_numbered : List FlightState → ℕ → Option FlightState
flight_numbered fs c = find (λ f. f.number == c) fs

-- The calls with the one of this number changed; it goes where it is in flight no more.
abbrev pub flights_with : ℕ → (FlightState → FlightState) → List FlightState → List FlightState
flights_with c g fs = filter stays_open (map (λ f. elim (f.number == c) [ true ↦ g f | false ↦ f ]) fs)

-- It stands at this place.
pub record StandsAt (fs : List FlightState) (c i : ℕ) : Type 0 where
  pub flight : FlightState
  pub there : slice_get fs i ≡ Some flight
  pub named : flight.number ≡ c

-- How the way of a write ends.
abbrev pub ended_flight : Outcome → FlightState → FlightState
ended_flight Landed f = landed_flight f
ended_flight Torn f = torn_flight f
ended_flight Dropped f = dropped_flight f

-- A read with these bytes more, of so many sectors.
abbrev pub grown_flight : List ℕ → ℕ → FlightState → FlightState
grown_flight bytes n f = record f { sampled = f.sampled ++ bytes; samples = f.samples + n }

-- What stands at a place once the call there has become f: it goes where it is in flight no more.
abbrev pub closed_at : ℕ → FlightState → List FlightState → List FlightState
closed_at i f fs = elim (stays_open f) [ true ↦ slice_set fs i f | false ↦ remove fs i ]

-- The lesser of the two, if there is one.
abbrev pub least_with : Option ℕ → Option ℕ → Option ℕ
least_with None late = late
least_with (Some r) None = Some r
least_with (Some r) (Some s) = Some (min r s)

-- Without the call of this number.
abbrev pub flights_without : ℕ → List FlightState → List FlightState
flights_without c fs = filter (λ f. not (f.number == c)) fs

-- ---- all calls

-- What an end of the daemon leaves.
abbrev pub flights_disowned : List FlightState → List FlightState
flights_disowned fs = map disowned (filter lands fs)

-- What a reset leaves.
abbrev pub flights_cut : ℕ → List FlightState → List FlightState
flights_cut moment fs = map (cut_flight moment) (filter lands fs)
