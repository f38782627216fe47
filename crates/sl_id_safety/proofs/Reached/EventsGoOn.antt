-- Each event of a lawful run is steps of an id: those of its first change, then those of its step. So the id is reached after every event,
-- and goes on from front to front.
use Rattle.sl_run_law.proofs.Front.RunsFromFronts.{fronts_are_lawful, run_keeps}
use Rattle.sl_id_safety.proofs.State.IdsStart.{ids_start}
use Rattle.sl_id_safety.specs.State.IdStates.{id_state}
use Rattle.sl_id_safety.specs.State.StateLaws.{IdsAreBounded, IsIdPlace}
use Rattle.sl_id_safety.specs.Steps.EventParts.{BetweenIsBounded, EndingsGoOn, EntriesGoOn, IsEndingEvent, IsLandingEvent, IsQuietEvent, IsSamplingEvent, LandingsGoOn, OwnStepsGoOn, QuietChangesGoOn, SamplingsGoOn, state_between}
use Rattle.sl_id_safety.specs.Reached.IdsAreReached.{IdsAreReached, IdsGoOn}
use Rattle.sl_ids.proofs.DerivedLaws.{go_on}
use Rattle.sl_ids.specs.Guards.{terms_of}
use Rattle.sl_ids.specs.Runs.{Later, Reached}
use Rattle.sl_ids.specs.State.{State}
use Rattle.sl_ids.specs.Terms.{Terms}
use Rattle.sl_words.proofs.Lists.{next_before}
use Rattle.sl_run.specs.Inputs.{input_of}
use Rattle.sl_run.specs.Runs.{Happening}
use Rattle.sl_run.specs.Safety.{LawfulRun, world_at}
use Rattle.sl_run.specs.Worlds.{Course, Machine, Program, World, flight_of, is_write_course, machine_at}
use Rattle.sl_run.specs.declared.event.Event.TheVariants.{AnswerCall, Crash, Do, DropWrite, ExitOf, GiveAsk, GiveCommand, GiveLvm, Land, Pass, Reset, Restart, Sample, SpawnedOf, StartDaemon, Tear, Test, WakeUp}
use Rattle.sl_run.specs.declared.event.Event.{Event}
use Rattle.sl_run.specs.declared.header.Header.{Header}
use Rattle.sl_trace.specs.declared.input.Input.{Input}
use Rattle.sl_words.proofs.CaseLaws.{no_value, one_value}
use Rattle.std.proofs.Common.{ap, refl, subst, sym, ◌∙◌}
use Rattle.std.proofs.lemmas.List.{append-nil}
use Rattle.std.specs.Prelude.{Bool, List, None, Option, Some, false, is_some, true, [], ℕ, ◌++◌, ◌∷◌, ◌≡◌}

-- What is known of the events of lawful runs, each kind by itself, and of the bounds.
pub record EventsGoOn : Type 0 where
  pub bounded : IdsAreBounded
  pub between : BetweenIsBounded
  pub landings : LandingsGoOn
  pub samplings : SamplingsGoOn
  pub endings : EndingsGoOn
  pub quiet : QuietChangesGoOn
  pub own : OwnStepsGoOn
  pub entries : EntriesGoOn

-- ---- the kinds of events

-- Of one of the four kinds.
data IsOfKind (w : World) (e : Event) : Type 0 where
  Lands : IsLandingEvent w e → IsOfKind w e
  Samples : IsSamplingEvent w e → IsOfKind w e
  Ends : IsEndingEvent w e → IsOfKind w e
  Keeps : IsQuietEvent w e → IsOfKind w e

same_course : (w : World) (m n : ℕ) (a b : Machine) (c d : Course) → machine_at w m ≡ Some a → flight_of a n ≡ Some c → machine_at w m ≡ Some b → flight_of b n ≡ Some d → c ≡ d
same_course w m n a b c d at flies there also =
    one_value c d (flight_of b n) (subst (λ (y : Machine). flight_of y n ≡ Some c) (one_value a b (machine_at w m) at there) flies) also

does_by : (w : World) (m n : ℕ) (a : Machine) (c : Course) (b : Bool) → machine_at w m ≡ Some a → flight_of a n ≡ Some c → is_write_course c ≡ b → IsOfKind w (Do m n)
does_by w m n a c true at flies is = Lands (λ x d there also. ap is_write_course (same_course w m n x a d c there also at flies) ∙ is)
does_by w m n a c false at flies is = Samples (λ x d there also. ap is_write_course (same_course w m n x a d c there also at flies) ∙ is)

-- Where nothing is in flight, nothing is done.
does_course : (w : World) (m n : ℕ) (a : Machine) (o : Option Course) → machine_at w m ≡ Some a → flight_of a n ≡ o → IsOfKind w (Do m n)
does_course w m n a None at flies =
    Lands (λ x d there also. absurd (no_value d (flight_of a n) (subst (λ (y : Machine). flight_of y n ≡ Some d) (one_value x a (machine_at w m) there at) also) flies))
does_course w m n a (Some c) at flies = does_by w m n a c (is_write_course c) at flies refl

does : (w : World) (m n : ℕ) (o : Option Machine) → machine_at w m ≡ o → IsOfKind w (Do m n)
does w m n None at = Lands (λ x d there also. absurd (no_value x (machine_at w m) there at))
does w m n (Some a) at = does_course w m n a (flight_of a n) at refl

kind_of_event : (w : World) (e : Event) → IsOfKind w e
kind_of_event w (Land m n) = Lands tt
kind_of_event w (Tear m n k bytes) = Lands tt
kind_of_event w (DropWrite m n) = Lands tt
kind_of_event w (Do m n) = does w m n (machine_at w m) refl
kind_of_event w (Sample m n k) = Samples tt
kind_of_event w (Crash m) = Ends tt
kind_of_event w (Reset m) = Ends tt
kind_of_event w (Pass d growths) = Keeps tt
kind_of_event w (WakeUp m) = Keeps tt
kind_of_event w (GiveCommand m text) = Keeps tt
kind_of_event w (GiveLvm m line) = Keeps tt
kind_of_event w (GiveAsk m) = Keeps tt
kind_of_event w (AnswerCall m n ok) = Keeps tt
kind_of_event w (Test m) = Keeps tt
kind_of_event w (ExitOf m process) = Keeps tt
kind_of_event w (SpawnedOf m process ok) = Keeps tt
kind_of_event w (StartDaemon m name) = Keeps tt
kind_of_event w (Restart m) = Keeps tt

-- ---- one event

-- The id after these.
abbrev id_after : Program → Header → List ℕ → ℕ → List Happening → State
id_after p h path offset xs = id_state (world_at p h xs) path offset

change_by : EventsGoOn → (p : Program) (h : Header) (now : List Happening) (x : Happening) (path : List ℕ) (offset : ℕ) → LawfulRun p h (now ++ x ∷ []) → IsIdPlace p h path offset
    → Reached (terms_of h.timing) (id_after p h path offset now) → IsOfKind (world_at p h now) x.0
    → Later (terms_of h.timing) (id_after p h path offset now) (state_between p h now x.0 path offset)
change_by k p h now x path offset run place reached (Lands is) = k.landings p h now x path offset run place is reached (k.between p h now x path offset run)
change_by k p h now x path offset run place reached (Samples is) = k.samplings p h now x path offset run place is reached (k.between p h now x path offset run)
change_by k p h now x path offset run place reached (Ends is) = k.endings p h now x path offset run place is reached (k.between p h now x path offset run)
change_by k p h now x path offset run place reached (Keeps is) = k.quiet p h now x path offset run place is reached (k.between p h now x path offset run)

step_by : EventsGoOn → (p : Program) (h : Header) (now : List Happening) (x : Happening) (path : List ℕ) (offset : ℕ) → LawfulRun p h (now ++ x ∷ []) → IsIdPlace p h path offset
    → Reached (terms_of h.timing) (state_between p h now x.0 path offset) → (o : Option Input) → input_of (world_at p h now) x.0 ≡ o
    → Later (terms_of h.timing) (state_between p h now x.0 path offset) (id_after p h path offset (now ++ x ∷ []))
step_by k p h now x path offset run place reached None is =
    k.own p h now x path offset run place is reached (k.bounded p h (now ++ x ∷ []) path offset run)
step_by k p h now x path offset run place reached (Some i) is =
    k.entries p h now x path offset run place (ap is_some is) reached (k.bounded p h (now ++ x ∷ []) path offset run)

-- An event takes a reached id on.
pub event_goes_on : EventsGoOn → (p : Program) (h : Header) (now : List Happening) (x : Happening) (path : List ℕ) (offset : ℕ) → LawfulRun p h (now ++ x ∷ [])
    → IsIdPlace p h path offset → Reached (terms_of h.timing) (id_after p h path offset now)
    → Later (terms_of h.timing) (id_after p h path offset now) (id_after p h path offset (now ++ x ∷ []))
event_goes_on k p h now x path offset run place reached =
    let r : Terms = terms_of h.timing in
    let u : State = id_after p h path offset now in
    let v : State = state_between p h now x.0 path offset in
    let w : State = id_after p h path offset (now ++ x ∷ []) in
    let change = change_by k p h now x path offset run place reached (kind_of_event (world_at p h now) x.0) in
    go_on.both r u v w change (step_by k p h now x path offset run place (go_on.reached r u v reached change) (input_of (world_at p h now) x.0) refl)

-- ---- runs

starts : EventsGoOn → (p : Program) (h : Header) (path : List ℕ) (offset : ℕ) → LawfulRun p h [] → IsIdPlace p h path offset → Reached (terms_of h.timing) (id_after p h path offset [])
starts k p h path offset run place =
    (id_after p h path offset [], [], ids_start p h path offset run.header run.digest place, k.bounded p h [] path offset run, refl)

next_reached : EventsGoOn → (p : Program) (h : Header) (path : List ℕ) (offset : ℕ) → IsIdPlace p h path offset → (now : List Happening) (x : Happening) → LawfulRun p h (now ++ x ∷ [])
    → Reached (terms_of h.timing) (id_after p h path offset now) → Reached (terms_of h.timing) (id_after p h path offset (now ++ x ∷ []))
next_reached k p h path offset place now x run reached =
    go_on.reached (terms_of h.timing) (id_after p h path offset now) (id_after p h path offset (now ++ x ∷ [])) reached
    (event_goes_on k p h now x path offset run place reached)

-- The id is reached after each lawful run.
pub ids_are_reached_given : EventsGoOn → IdsAreReached
ids_are_reached_given k p h xs path offset run place =
    run_keeps p h (λ ys. Reached (terms_of h.timing) (id_after p h path offset ys))
    (record { first = starts k p h path offset (fronts_are_lawful p h [] xs run) place; next = next_reached k p h path offset place }) xs run

-- Each state is one that comes later.
stays : (r : Terms) (w v : State) → w ≡ v → Later r w v
stays r w v same = ([], same)

goes_on : EventsGoOn → (p : Program) (h : Header) (now rest : List Happening) (path : List ℕ) (offset : ℕ) → LawfulRun p h (now ++ rest) → IsIdPlace p h path offset
    → Later (terms_of h.timing) (id_after p h path offset now) (id_after p h path offset (now ++ rest))
goes_on k p h now [] path offset run place =
    stays (terms_of h.timing) (id_after p h path offset now) (id_after p h path offset (now ++ [])) (ap (id_after p h path offset) (sym (append-nil now)))
goes_on k p h now (x ∷ rest) path offset run place =
    let r : Terms = terms_of h.timing in
    let run' : LawfulRun p h ((now ++ x ∷ []) ++ rest) = subst (λ xs. LawfulRun p h xs) (sym (next_before now x rest)) run in
    let front = fronts_are_lawful p h (now ++ x ∷ []) rest run' in
    let one = event_goes_on k p h now x path offset front place (ids_are_reached_given k p h now path offset (fronts_are_lawful p h now (x ∷ rest) run) place) in
    subst (λ xs. Later r (id_after p h path offset now) (id_after p h path offset xs)) (next_before now x rest)
    (go_on.both r (id_after p h path offset now) (id_after p h path offset (now ++ x ∷ [])) (id_after p h path offset ((now ++ x ∷ []) ++ rest)) one
    (goes_on k p h (now ++ x ∷ []) rest path offset run' place))

-- .. and goes on from front to front.
pub ids_go_on_given : EventsGoOn → IdsGoOn
ids_go_on_given k p h now rest path offset run place = goes_on k p h now rest path offset run place
