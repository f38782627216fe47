-- What an event asks, test by test.
use Rattle.sl_world_state.specs.KeptWorld.{KeptState, Place, sector_of_call}
use Rattle.sl_machine.specs.CallWrites.{LeavesTorn, LeavesWhole}
use Rattle.sl_words.proofs.CaseLaws.{none_some, some_value}
use Rattle.std.proofs.Common.{ap₂, refl, sym, ◌∙◌}
use Rattle.std.specs.Prelude.{List, None, Option, Some, drop, is_none, is_some, length, not, take, [], ℕ, ◌++◌, ◌+◌, ◌≡◌}

pub none_is_not_some : {A : Type 0} (o : Option A) → not (is_some o) ≡ is_none o
none_is_not_some None = refl
none_is_not_some (Some a) = refl

-- ---- tears

-- A torn write is the whole one, cut.
pub torn_whole : (k : KeptState) (m c n : ℕ) (given : List ℕ) (p : Option Place) (w b : List ℕ) → LeavesWhole k m c p w
    → b ≡ take n w ++ given ++ drop (n + length given) (sector_of_call k.disks p 0) → length b ≡ k.header.geometry.sector → LeavesTorn k m c n given p b
torn_whole k m c n given p w b is bytes size =
    record {
      flight = is.flight;
      there = is.there;
      place_is = is.place_is;
      bytes_are = by is.flight.write is.flight.place is.bytes_are is.place_is ∙ sym bytes;
      sized = size;
    }
  where
    by : (write : Option (List ℕ)) (place : Option Place) → write ≡ Some w → place ≡ p
        → elim write as (λ x. List ℕ) [ None ↦ [] | Some whole ↦ take n whole ++ given ++ drop (n + length given) (sector_of_call k.disks place 0) ]
        ≡ take n w ++ given ++ drop (n + length given) (sector_of_call k.disks p 0)
    by None place h i = absurd (none_some w h)
    by (Some x) place h i = ap₂ (λ (y : List ℕ) (q : Option Place). take n y ++ given ++ drop (n + length given) (sector_of_call k.disks q 0)) (some_value x w h) i
