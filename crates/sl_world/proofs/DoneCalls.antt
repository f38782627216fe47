-- A call that is done: what its event makes of a world.
use Rattle.sl_world_state.specs.declared.daemon.Most.{Most}
use Rattle.sl_world_state.specs.Changes.{write_at}
use Rattle.sl_world_state.specs.Inputs.{rest_in}
use Rattle.sl_world_state.specs.KeptWorld.{FlightState, KeptState, MachineState, Place, flight_of_machine, machine_in}
use Rattle.sl_world_state.specs.Refusals.{left_in}
use Rattle.sl_world_state.specs.Steps.{stepped_machine, taken_kept}
use Rattle.sl_machine.specs.CallWrites.{LeavesWhole}
use Rattle.sl_machine.specs.declared.calls.Landing.{Landing}
use Rattle.sl_run.specs.declared.event.Event.TheVariants.{Do}
use Rattle.sl_run.specs.declared.header.Header.{Header}
use Rattle.sl_text.specs.Forms.{Form}
use Rattle.sl_trace.specs.Traces.{Setting, Trace}
use Rattle.sl_trace.specs.declared.command.Command.{Command}
use Rattle.sl_trace.specs.declared.effects.Effects.{Effects}
use Rattle.sl_trace.specs.declared.input.Answer.TheVariants.{Read, Written}
use Rattle.sl_trace.specs.declared.input.Input.TheVariants.{Answer as Told}
use Rattle.sl_trace.specs.declared.input.Input.{Input}
use Rattle.sl_world.proofs.AllowedEvents.{do_called, do_given, given_comes}
use Rattle.sl_world.specs.AllowedEvents.{AllCome, IsAllowed}
use Rattle.sl_world.specs.GivenSteps.{HasSampled, IsGiven, written_by}
use Rattle.sl_words.proofs.CaseLaws.{one_value, some_value}
use Rattle.sl_words.proofs.Options.{some_there}
use Rattle.sl_world_law.proofs.DirectChanges.{done_directly}
use Rattle.sl_world_law.specs.DirectChanges.{landed_first}
use Rattle.std.proofs.Common.{ap, ap₂, refl, sym, ◌∙◌}
use Rattle.std.specs.Arc.{arc_value}
use Rattle.std.specs.Prelude.{Bool, IfSome, List, None, Option, Some, false, is_none, is_some, length, slice_set, true, ℕ, ◌-◌, ◌≡◌}

-- ---- changes that do not meet

header_taken : (k : KeptState) (m : ℕ) (i : Input) (fx : Effects) → (taken_kept m (Some i) fx k).header ≡ k.header
header_taken k m i fx = go (machine_in k m)
  where
    go : (o : Option MachineState)
        → (elim o as (λ x. KeptState) [ None ↦ k | Some s ↦ record k { machines = slice_set k.machines (m - 1) (stepped_machine k.header i fx s) } ]).header ≡ k.header
    go None = refl
    go (Some s) = refl

written_then : (p : Option Place) (bytes : List ℕ) (k : KeptState) (m : ℕ) (i : Input) (fx : Effects) → taken_kept m (Some i) fx (write_at p bytes k) ≡ write_at p bytes (taken_kept m (Some i) fx k)
written_then None bytes k m i fx = refl
written_then (Some p) bytes k m i fx = go (machine_in k m)
  where
    h : KeptState
    h = write_at (Some p) bytes k

    go : (o : Option MachineState)
        → elim o as (λ x. KeptState) [ None ↦ h | Some s ↦ record h { machines = slice_set k.machines (m - 1) (stepped_machine k.header i fx s) } ]
        ≡ write_at (Some p) bytes (elim o as (λ x. KeptState) [ None ↦ k | Some s ↦ record k { machines = slice_set k.machines (m - 1) (stepped_machine k.header i fx s) } ])
    go None = refl
    go (Some s) = refl

-- ---- a read

pub read_comes : {D : Type 0} (commands : Header → List (Form Command)) (stands : D → Setting → Trace → Type 0) (makes : D → Most) (k : KeptState) (hosts : List (Option D)) (m c : ℕ)
    (bytes : List ℕ) (fx : Effects) (after : KeptState) (running : List (Option D)) → IsAllowed commands stands k hosts (Do m c)
    → ((f : FlightState) → flight_of_machine k m c ≡ Some f → HasSampled f (rest_in k f (left_in f)) (Some bytes))
    → IsGiven stands makes k hosts m (Told c (Read bytes)) after running fx → AllCome commands stands k hosts (Do m c) after running fx
read_comes commands stands makes k hosts m c bytes fx after running a has g =
    let x = do_called commands k m c a.unrefused in
    let gives = do_given commands k m c (Some bytes) has in
    given_comes commands stands makes k hosts (Do m c) (Told c (Read bytes)) fx after after running a gives g
    (done_directly commands k a.world a.stands_for.tells a.stands_for.sane m c x.flight x.found (Told c (Read bytes)) (gives a.unrefused) fx
    ∙ ap (λ (o : Option (List ℕ)). taken_kept m (Some (Told c (Read bytes))) fx (elim o as (λ z. KeptState) [
      | None ↦ k
      | Some whole ↦ elim x.flight.flying as (λ z. KeptState) [ true ↦ write_at x.flight.place whole k | false ↦ k ]
    ])) (has x.flight x.found).0
    ∙ sym g.kept)

-- ---- a write

-- What the call leaves, if it hasn't taken effect.
pub record LandsBy (k : KeptState) (m c : ℕ) (o : Option Landing) : Type 0 where
  pub none : (f : FlightState) → flight_of_machine k m c ≡ Some f → is_none o ≡ true → f.flying ≡ false
  pub some : IfSome o (λ l. LeavesWhole k m c l.place (arc_value l.image))
  pub flies : (f : FlightState) → flight_of_machine k m c ≡ Some f → is_none o ≡ false → f.flying ≡ true

landed_as : (k : KeptState) (m c : ℕ) (o : Option Landing) (f : FlightState) → LandsBy k m c o → flight_of_machine k m c ≡ Some f → is_some f.write ≡ true → landed_first f k ≡ written_by o k
landed_as k m c None f l found writes =
    let w = some_there f.write writes in
    ap₂ (λ (o : Option (List ℕ)) (b : Bool). elim o as (λ z. KeptState) [ None ↦ k | Some whole ↦ elim b as (λ y. KeptState) [ true ↦ write_at f.place whole k | false ↦ k ] ])
    w.1 (l.none f found refl)
landed_as k m c (Some y) f l found writes =
    let w = some_there f.write writes in
    let one : l.some.flight ≡ f = one_value l.some.flight f (flight_of_machine k m c) l.some.there found in
    ap₂ (λ (o : Option (List ℕ)) (b : Bool). elim o as (λ z. KeptState) [ None ↦ k | Some whole ↦ elim b as (λ y. KeptState) [ true ↦ write_at f.place whole k | false ↦ k ] ])
    w.1 (l.flies f found refl)
    ∙ ap₂ (λ p bytes. write_at p bytes k) (ap (λ (z : FlightState). z.place) (sym one) ∙ l.some.place_is)
    (some_value w.0 (arc_value y.image) (sym w.1 ∙ ap (λ (z : FlightState). z.write) (sym one) ∙ l.some.bytes_are))

pub write_comes : {D : Type 0} (commands : Header → List (Form Command)) (stands : D → Setting → Trace → Type 0) (makes : D → Most) (k : KeptState) (hosts : List (Option D)) (m c : ℕ)
    (o : Option Landing) (fx : Effects) (after later : KeptState) (running : List (Option D)) → IsAllowed commands stands k hosts (Do m c)
    → ((f : FlightState) → flight_of_machine k m c ≡ Some f → is_some f.write ≡ true) → LandsBy k m c o
    → IsGiven stands makes k hosts m (Told c Written) after running fx → later ≡ written_by o after → AllCome commands stands k hosts (Do m c) later running fx
write_comes commands stands makes k hosts m c o fx after later running a writes l g is =
    let x = do_called commands k m c a.unrefused in
    let gives = do_given commands k m c None writes in
    given_comes commands stands makes k hosts (Do m c) (Told c Written) fx after later running a gives g
    (done_directly commands k a.world a.stands_for.tells a.stands_for.sane m c x.flight x.found (Told c Written) (gives a.unrefused) fx
    ∙ ap (taken_kept m (Some (Told c Written)) fx) (landed_as k m c o x.flight l x.found (writes x.flight x.found))
    ∙ put_after o ∙ sym is)
  where
    put_after : (z : Option Landing) → taken_kept m (Some (Told c Written)) fx (written_by z k) ≡ written_by z after
    put_after None = sym g.kept
    put_after (Some y) = written_then y.place (arc_value y.image) k m (Told c Written) fx ∙ ap (write_at y.place (arc_value y.image)) (sym g.kept)

-- The sector fits after the step too.
pub sized_after : {D : Type 0} (stands : D → Setting → Trace → Type 0) (makes : D → Most) (k after : KeptState) (hosts running : List (Option D)) (m c : ℕ) (o : Option Landing) (fx : Effects)
    → LandsBy k m c o → IsGiven stands makes k hosts m (Told c Written) after running fx → IfSome o (λ l. length (arc_value l.image) ≡ after.header.geometry.sector)
sized_after stands makes k after hosts running m c None fx l g = tt
sized_after stands makes k after hosts running m c (Some y) fx l g =
    l.some.sized ∙ ap (λ (h : Header). h.geometry.sector) (sym (header_taken k m (Told c Written) fx) ∙ ap (λ (z : KeptState). z.header) (sym g.kept))
