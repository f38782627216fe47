-- A leader stands on the areas of resources alone.
use Rattle.sl_area.specs.AreaSizes.{record_in}
use Rattle.sl_area.specs.AreaLayout.{in_area, is_base, leader_offset}
use Rattle.sl_run.specs.Lawful.{IsSetting}
use Rattle.sl_words.proofs.Lists.{contains_first}
use Rattle.sl_headline.proofs.Quiet.Events.CourseGoesOn.{made_well}
use Rattle.sl_headline.specs.Quiet.Events.AreaGoesOn.{IsLineOf}
use Rattle.sl_headline.specs.Quiet.Start.CourseStarts.{StartsAreOfLines}
use Rattle.sl_id_safety.proofs.SectorsStand.{HasTop, newest_stands}
use Rattle.sl_run.specs.Safety.{world_at}
use Rattle.sl_run.specs.Worlds.{Landing, World, content, first_landing, history_of}
use Rattle.sl_run.specs.declared.header.ResourceLine.{ResourceLine}
use Rattle.sl_run_law.proofs.Course.CallsAreDistinct.{running_has}
use Rattle.sl_run_law.proofs.Course.DaemonsOfWorld.{daemons_are_of_world}
use Rattle.sl_run_law.proofs.Place.Areas.{is_base_aligned, resource_aligned, same_base}
use Rattle.sl_run_law.proofs.Place.Beginnings.{In_resource as First_in_resource, In_lockspace as First_in_lockspace, IsInitial}
use Rattle.sl_run_law.proofs.Place.Checks.{shows_its_id}
use Rattle.sl_run_law.proofs.Place.PlaceLaws.{nothing_lands_elsewhere}
use Rattle.sl_run_law.proofs.Place.TracesOnMachines.{in_history}
use Rattle.sl_run_law.proofs.Place.Seats.{initial_in, sized_in}
use Rattle.sl_run_law.proofs.Place.Sizes.{IsSized}
use Rattle.sl_headline.proofs.Quiet.Events.Places.{leader_within}
use Rattle.sl_run_law.specs.Place.Homes.{In_lockspace, In_resource, IsAtHome}
use Rattle.sl_run.specs.Quiet.{leader_there}
use Rattle.sl_run_law.proofs.Place.VerifiedAreas.{leader_in_is, pair_leader_in_is}
use Rattle.sl_sector.specs.SectorLayouts.{leader_in, pair_leader_in}
use Rattle.sl_sector.specs.declared.sector.DeltaRec.{DeltaRec}
use Rattle.sl_trace.specs.declared.effects.Spot.{Spot}
use Rattle.sl_sector.specs.declared.sector.Bad.{Bad}
use Rattle.sl_sector.specs.declared.sector.Leader.{Leader}
use Rattle.sl_sector.specs.declared.sector.Rec.TheVariants.{DeltaIs, LeaderIs, PairLeaderIs}
use Rattle.sl_sector.specs.declared.sector.Rec.{Rec}
use Rattle.sl_trace.specs.Leases.{spot_of}
use Rattle.sl_trace.specs.declared.command.Command.TheVariants.{Acquire}
use Rattle.sl_words.proofs.CaseLaws.{false_is_true}
use Rattle.std.proofs.Common.{ap, inl, inr, refl, subst, sym, ◌∙◌}
use Rattle.std.specs.Prelude.{Bool, Contains, IsTrue, Ok, Option, Result, Some, false, true, ℕ, ◌%◌, ◌≡◌, ◌⊎◌}

-- What spells a leader, in an area of either kind.
record SpellsLeader (r : Result Rec Bad) : Type 0 where
  found : Rec
  is : r ≡ Ok found
  no_delta : (d : DeltaRec) → found ≡ DeltaIs d → ⊥

abbrev is_delta : Rec → Bool
is_delta (DeltaIs d) = true
is_delta r = false

other : (r : Rec) (d : DeltaRec) → is_delta r ≡ false → r ≡ DeltaIs d → ⊥
other r d none same = false_is_true (sym none ∙ ap (λ x. is_delta x) same)

spells_leader : (w : World) (at : Spot) (l : Leader) → leader_there w at ≡ Some l → SpellsLeader (record_in w.layout (content w at.path (leader_offset at.base)))
spells_leader w at l is = by w.layout.paired is where
  r : Result Rec Bad
  r = record_in w.layout (content w at.path (leader_offset at.base))

  by : (b : Bool) → elim b as (λ z. Option Leader) [ false ↦ leader_in r | true ↦ pair_leader_in r ] ≡ Some l → SpellsLeader r
  by false one = record { found = LeaderIs l; is = leader_in_is r l one; no_delta = λ d. other (LeaderIs l) d refl }
  by true one = record { found = PairLeaderIs l; is = pair_leader_in_is r l one; no_delta = λ d. other (PairLeaderIs l) d refl }

pub starts_are_of_lines : StartsAreOfLines
starts_are_of_lines p h xs run well m n text r shared q = by its.1 where
  w : World
  w = world_at p h xs

  place : ℕ
  place = leader_offset r.offset

  setting : IsSetting (q.daemon).setting
  setting = (made_well w m q.machine q.daemon well (q.runs).0 (q.runs).1).0

  layout : ((q.daemon).setting).layout ≡ w.layout
  layout = (daemons_are_of_world p h xs run m q.machine q.daemon (q.runs).0 (running_has q.machine q.daemon (q.runs).1)).layout

  sized : IsSized h.geometry w.layout
  sized = sized_in p h xs run

  aligned : r.offset % (h.geometry).area ≡ 0
  aligned = is_base_aligned w.layout r.offset sized (subst (λ g. IsTrue (is_base g r.offset)) layout ((setting.reads text (Acquire r shared n q.persistent) q.line).0).base)

  inside : IsTrue (in_area w.layout r.offset r.offset)
  inside = leader_within w.layout r.offset sized

  top : HasTop (history_of w r.path place) (content w r.path place)
  top = newest_stands w r.path place

  its : (((top.top).path ≡ r.path) × ((top.top).offset ≡ place)) × (Contains w.landings top.top ⊎ (top.top ≡ first_landing w r.path place))
  its = in_history w r.path place top.top (subst (λ ls. Contains ls top.top) (sym top.whole) (contains_first top.top top.below))

  leads : SpellsLeader (record_in w.layout (content w r.path place))
  leads = spells_leader w (spot_of r) q.leader q.leader_spells

  spells : record_in w.layout (top.top).bytes ≡ Ok leads.found
  spells = ap (λ bs. record_in w.layout bs) (sym top.holds) ∙ leads.is

  found : (line : ResourceLine) → Contains h.resources line → line.path ≡ r.path → IsTrue (in_area w.layout line.offset r.offset) → (line : ResourceLine) × IsLineOf h r line
  found line listed path within = (
    line,
    record { listed = listed; path = path; offset = same_base w.layout line.offset r.offset r.offset sized (resource_aligned h line run.header listed) aligned within inside },
  )

  landed : Contains w.landings top.top → IsAtHome h w top.top → (line : ResourceLine) × IsLineOf h r line
  landed there (In_lockspace l listed path within) = (let d = shows_its_id p h xs run l listed top.top there path within leads.found spells in absurd (leads.no_delta d.0 d.1))
  landed there (In_resource line listed path within) = found line listed (sym path ∙ its.0.0) (subst (λ o. IsTrue (in_area w.layout line.offset o)) its.0.1 within)

  first : IsInitial w.layout h r.path place leads.found → (line : ResourceLine) × IsLineOf h r line
  first (First_in_lockspace l d listed path within few is names) = absurd (leads.no_delta d is)
  first (First_in_resource line listed path within of) = found line listed path within

  by : Contains w.landings top.top ⊎ (top.top ≡ first_landing w r.path place) → (line : ResourceLine) × IsLineOf h r line
  by (inl there) = landed there (nothing_lands_elsewhere p h xs run top.top there)
  by (inr at_first) = first (initial_in p h xs run r.path place leads.found (subst (λ (l : Landing). record_in w.layout l.bytes ≡ Ok leads.found) at_first spells))
