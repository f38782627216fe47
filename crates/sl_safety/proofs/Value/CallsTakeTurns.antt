-- Two calls of a session that write on one area: the older was answered by the time that the newer was made.
use Rattle.sl_area.specs.AreaSizes.{Layout}
use Rattle.sl_area.specs.AreaLayout.{in_area}
use Rattle.sl_run.specs.LawfulArea.{is_area_work, is_block_work}
use Rattle.sl_run_law.proofs.Leases.SpotLaws.{areas_are_apart}
use Rattle.sl_run_law.proofs.Leases.TurnLaws.{one_at_a_time}
use Rattle.sl_run_law.specs.Leases.LeaseLaws.{WasAnsweredBy}
use Rattle.sl_trace.specs.Leases.{is_on, spot_of_call}
use Rattle.sl_run_law.proofs.Place.Areas.{base_around}
use Rattle.sl_run_law.proofs.Place.Seats.{sized_in}
use Rattle.sl_safety.proofs.Resources.Calls.{Newer, Older, Order, Same}
use Rattle.sl_safety.proofs.Resources.StepsNameCalls.{text_same}
use Rattle.sl_run.specs.Runs.{Happening}
use Rattle.sl_run.specs.Safety.{Found, SessionId, setting_in, trace_of, world_at}
use Rattle.sl_run.specs.Worlds.{Course, Program}
use Rattle.sl_run.specs.declared.header.Header.{Header}
use Rattle.sl_trace.specs.Traces.{Submitted, submitted}
use Rattle.sl_safety.proofs.Value.WritersHold.{area_of}
use Rattle.sl_safety.proofs.Value.OwnCalls.{OwnCall}
use Rattle.std.proofs.Common.{refl, subst, sym}
use Rattle.std.proofs.lemmas.Bool.{and_from}
use Rattle.std.specs.Prelude.{List, bytes_eq, true, ◌%◌, ◌-◌, ◌≡◌}

-- A call is on its area.
pub on_own : (p : Program) (h : Header) (xs : List Happening) (i : SessionId) (f : Found) (c : Course) (o : OwnCall p h xs i f c) → is_on (setting_in f).layout (area_of o) o.call.call ≡ true
on_own p h xs i f c o =
    subst (λ (g : Layout). is_on g (spot_of_call g o.call) o.call.call ≡ true) (sym o.known.of_world.layout)
    (let g : Layout = (world_at p h xs).layout in
    and_from (bytes_eq o.call.call.path o.call.call.path) (in_area g (o.call.call.offset - o.call.call.offset % g.area) o.call.call.offset) (text_same o.call.call.path o.call.call.path refl)
    (base_around g o.call.call.offset (sized_in p h xs o.run)))

-- Another call of the session on its area.
pub record OnArea (p : Program) (h : Header) (xs : List Happening) (i : SessionId) (f : Found) (c : Course) (o : OwnCall p h xs i f c) (k : Submitted) : Type 0 where
  pub mine : k.call.session ≡ o.call.call.session
  pub works : is_block_work k ≡ true
  pub work : is_area_work k.call.purpose ≡ true
  pub on : is_on (setting_in f).layout (area_of o) k.call ≡ true

-- Which of the two came first.
pub data Turn (q k : Submitted) : Type 0 where
  One : q ≡ k → Turn q k
  Before : WasAnsweredBy q k → Turn q k
  After : WasAnsweredBy k q → Turn q k

pub turns : (p : Program) (h : Header) (xs : List Happening) (i : SessionId) (f : Found) (c : Course) (o : OwnCall p h xs i f c) → is_block_work o.call ≡ true → is_area_work o.call.call.purpose ≡ true
    → (k : Submitted) → OnArea p h xs i f c o k → Order (submitted (trace_of f)) o.call k → Turn o.call k
turns p h xs i f c o works work k a (Same is) = One is
turns p h xs i f c o works work k a (Newer newer between older is) =
    After (one_at_a_time (setting_in f) (trace_of f) o.known.lawful newer between older o.call k is (sym a.mine) works work a.works a.work a.on)
turns p h xs i f c o works work k a (Older newer between older is) =
    let same = areas_are_apart (setting_in f).layout o.call k a.on in
    Before
    (one_at_a_time (setting_in f) (trace_of f) o.known.lawful newer between older k o.call is a.mine a.works a.work works work
    (subst (λ z. is_on (setting_in f).layout z o.call.call ≡ true) (sym same) (on_own p h xs i f c o)))
