-- The least number of a call of an ended daemon, by the calls that have one.
use Rattle.sl_world_state.specs.KeptWorld.{FlightState}
use Rattle.sl_machine.specs.Flights.{ended_number}
use Rattle.sl_words.specs.Words.{least}
use Rattle.std.proofs.Common.{Bool, List, [], ap, false, map, refl, true, ◌≡◌, ◌∷◌}
use Rattle.std.specs.Prelude.{filter, filter_map, not}

one_more : (f : FlightState) (fs : List FlightState) (own : Bool) → f.own ≡ own → filter_map ended_number fs ≡ map (λ g. g.number) (filter (λ g. not g.own) fs)
    → filter_map ended_number (f ∷ fs) ≡ map (λ g. g.number) (filter (λ g. not g.own) (f ∷ fs))
one_more f fs true is later = rw is later
one_more f fs false is later = rw is (ap (λ ns. f.number ∷ ns) later)

ended_numbers : (fs : List FlightState) → filter_map ended_number fs ≡ map (λ f. f.number) (filter (λ f. not f.own) fs)
ended_numbers [] = refl
ended_numbers (f ∷ fs) = one_more f fs f.own refl (ended_numbers fs)

pub least_of_ended : (fs : List FlightState) → least (filter_map ended_number fs) ≡ least (map (λ f. f.number) (filter (λ f. not f.own) fs))
least_of_ended fs = ap least (ended_numbers fs)
