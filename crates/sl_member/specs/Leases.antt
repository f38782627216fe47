-- The leases of a session, by place, and what a change of one of them makes of the list.
use Rattle.sl_host_state.specs.KeptState.{LeaseState}
use Rattle.sl_area.specs.AreaSizes.{Layout}
use Rattle.sl_area.specs.AreaLayout.{in_area}
use Rattle.sl_host_state.specs.MadeEffects.{is_lease_on, leases_calling, new_lease}
use Rattle.sl_host_state.specs.declared.kept_parts.ValuePair.{ValuePair}
use Rattle.sl_lease.specs.Bounds.{IsBegun}
use Rattle.sl_lease.specs.Changes.{after_block, after_kept, after_leader, after_read, after_reading, after_value, turn_told}
use Rattle.sl_lease.specs.declared.side.Side.{Side}
use Rattle.sl_trace.specs.Leases.{is_lease_call, is_second, is_spot_before, spot_of_call}
use Rattle.sl_sector.specs.Records.{Fits}
use Rattle.sl_sector.specs.declared.sector.Block.{Block}
use Rattle.sl_sector.specs.declared.sector.Leader.{Leader}
use Rattle.sl_sector.specs.declared.sector.PairBlock.{PairBlock}
use Rattle.sl_sector.specs.declared.sector.Rec.TheVariants.{BlockIs, LeaderIs, PairIs, PairLeaderIs}
use Rattle.sl_trace.specs.Traces.{Submitted}
use Rattle.sl_trace.specs.declared.effects.LeaseStep.{LeaseStep}
use Rattle.sl_trace.specs.declared.effects.Op.TheVariants.{WriteRecord}
use Rattle.sl_trace.specs.declared.effects.Op.{Op}
use Rattle.sl_trace.specs.declared.effects.Spot.{Spot}
use Rattle.sl_trace.specs.declared.effects.Work.{Work}
use Rattle.sl_words.specs.Orders.{put_in}
use Rattle.std.specs.List.{AllByRecursion, list_any}
use Rattle.std.proofs.Common.{suc, zero}
use Rattle.std.specs.Prelude.{Bool, List, None, Option, Some, bytes_eq, cond, false, find, length, map, not, option_and_then, slice_get, true, [], ℕ, ◌&&◌, ◌-◌, ◌<◌, ◌∷◌, ◌≡◌, ◌≤◌}

-- The leases, and for how many more there is memory.
pub record LeasesState : Type 0 where
  pub leases : List LeaseState
  pub room : ℕ

-- Each comes before all that follow.
abbrev pub AreByPlace : List LeaseState → Type 0
AreByPlace [] = Unit {0}
AreByPlace (l ∷ ls) = AllByRecursion (λ k. is_spot_before l.spot k.spot ≡ true) ls × AreByPlace ls

-- All before this place come before the area, and the one there doesn't.
abbrev pub IsPlaceOf : Spot → List LeaseState → ℕ → Type 0
IsPlaceOf at [] zero = Unit {0}
IsPlaceOf at [] (suc k) = ⊥
IsPlaceOf at (l ∷ ls) zero = is_spot_before l.spot at ≡ false
IsPlaceOf at (l ∷ ls) (suc k) = (is_spot_before l.spot at ≡ true) × IsPlaceOf at ls k

-- At the place of the area stands none, or another area's.
abbrev pub IsNotAt : Spot → Option LeaseState → Type 0
IsNotAt at None = Unit {0}
IsNotAt at (Some l) = is_lease_on at l ≡ false

-- The lease that stands at the place of its area.
pub record IsThere (at : Spot) (ls : List LeaseState) (k : ℕ) (l : LeaseState) : Type 0 where
  pub place : IsPlaceOf at ls k
  pub there : slice_get ls k ≡ Some l
  pub on : is_lease_on at l ≡ true

-- A lease stands at this place of the area, which is one of theirs.
pub record IsFound (at : Spot) (ls : List LeaseState) (k : ℕ) : Type 0 where
  pub inside : k < length ls
  pub item : LeaseState
  pub is : IsThere at ls k item

-- None is on the area, and this is its place.
pub record IsGap (at : Spot) (ls : List LeaseState) (k : ℕ) : Type 0 where
  pub inside : k ≤ length ls
  pub place : IsPlaceOf at ls k
  pub other : IsNotAt at (slice_get ls k)

-- The leases with this change of the one on the area, if it is there.
abbrev pub changed_at : Spot → (LeaseState → LeaseState) → List LeaseState → List LeaseState
changed_at at f ls = map (λ l. cond (is_lease_on at l) (f l) l) ls

-- A lease whose call of this number is submitted, at a step of its work, to do this: what doesn't write block or leader counts as a read.
abbrev pub lease_called : ℕ → Work → LeaseStep → Op → LeaseState → LeaseState
lease_called number work step (WriteRecord (BlockIs b)) l = after_block number work step None b l
lease_called number work step (WriteRecord (LeaderIs d)) l = after_leader number work step d l
lease_called number work step (WriteRecord (PairIs p)) l = after_block number work step (Some p.turn) p.block l
lease_called number work step (WriteRecord (PairLeaderIs d)) l = after_leader number work step d l
lease_called number work step op l = after_reading number work step l

-- What such a call writes can be kept: a block that is one of a ballot, with a turn that fits a record, a leader whose instance does.
abbrev pub IsKeepable : Op → Type 0
IsKeepable (WriteRecord (BlockIs b)) = IsBegun b
IsKeepable (WriteRecord (LeaderIs d)) = Fits d.lver
IsKeepable (WriteRecord (PairIs p)) = IsBegun p.block × (1 ≤ p.turn) × Fits p.turn
IsKeepable (WriteRecord (PairLeaderIs d)) = Fits d.lver
IsKeepable op = Unit {0}

-- The leases with one on the area: that which is there, else a new one.
abbrev pub with_lease : Spot → List LeaseState → List LeaseState
with_lease at ls = cond (list_any (is_lease_on at) ls) ls (put_in (λ a b. is_spot_before a.spot b.spot) (new_lease at) ls)

-- A lease after the write of a value at this place, if that is on its area.
abbrev pub value_set : Layout → List ℕ → ℕ → ValuePair → LeaseState → LeaseState
value_set g path offset v l = cond (bytes_eq path l.spot.path && in_area g l.spot.base offset) (after_value v l) l

-- Whether the call is the first of a lease: it takes a place.
abbrev pub begins_lease : Layout → Submitted → List LeaseState → Bool
begins_lease g m ls = is_lease_call m && not (list_any (is_lease_on (spot_of_call g m)) ls)

-- The leases after a call of their session, and the room left.
abbrev pub leases_after : Layout → Submitted → LeasesState → LeasesState
leases_after g m v = record { leases = leases_calling g m v.leases; room = cond (begins_lease g m v.leases) (v.room - 1) v.room }

-- A lease to which a read is told that showed this turn of the own pair, if any: with what it gave, or with what is kept of it, where it
-- is to be made once more.
abbrev pub read_shown : Side → Option ℕ → Bool → Option Leader → List (Option Block) → LeaseState → LeaseState
read_shown z turn heeded d read l = after_read z heeded d read (turn_told turn l)

abbrev pub kept_shown : Option ℕ → List (Option PairBlock) → LeaseState → LeaseState
kept_shown turn pairs l = after_kept pairs (turn_told turn l)

-- What is kept of a lease's first read, for a read at this step that is the second one.
abbrev pub first_if_second : LeaseStep → LeaseState → Option (List (Option PairBlock))
first_if_second step l = cond (is_second step) l.pair.first None

-- The same of the lease on an area.
abbrev pub first_among : Spot → LeaseStep → List LeaseState → Option (List (Option PairBlock))
first_among at step ls = option_and_then (first_if_second step) (find (is_lease_on at) ls)
