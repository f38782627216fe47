-- What is kept along lawful runs, and the promises that are read off it.
use Rattle.sl_area.specs.AreaSizes.{Layout, layout_with}
use Rattle.sl_run_law.specs.Course.CourseLaws.{CallsAreDistinct}
use Rattle.sl_run_law.proofs.Front.RunsFromFronts.{IsKeptInRuns, IsLast, last_event, run_after, run_keeps, was_there}
use Rattle.sl_run_law.proofs.Landing.InitialRecords.{initial_sized}
use Rattle.sl_run_law.proofs.Landing.CallsMadeBefore.{distinct_at}
use Rattle.sl_run_law.specs.Landing.Landings.{LandingsAreSectors}
use Rattle.sl_words.proofs.Lists.{contains_cases, contains_none, find_inside}
use Rattle.sl_run.specs.EventChanges.{first_change, take_step}
use Rattle.sl_run.specs.Inputs.{input_of, machine_of}
use Rattle.sl_run.specs.Runs.{Happening}
use Rattle.sl_run.specs.Safety.{LawfulRun, world_at}
use Rattle.sl_run.specs.Worlds.{Course, Landing, Machine, Program, World, content, initial_bytes, last_landing, machine_at, world_with}
use Rattle.sl_run.specs.declared.header.Header.{Header}
use Rattle.sl_run_law.proofs.Beginnings.{begins_new}
use Rattle.sl_run_law.proofs.WorldsGoOn.{run_goes}
use Rattle.sl_run_law.proofs.MachineWalk.{each_then}
use Rattle.sl_run_law.specs.FatesStay.{Every}
use Rattle.sl_run_law.specs.Machines.{EachMachine}
use Rattle.sl_run_law.proofs.Sample.AnsweredReads.{ready}
use Rattle.sl_run_law.proofs.Sample.DisksGoOn.{first_onward, landings_over, step_over}
use Rattle.sl_run_law.proofs.Sample.ReadsSampleMore.{HasLandings}
use Rattle.sl_run_law.proofs.Sample.SamplesBeforeStep.{Before, Ground, changed_world, first_keeps}
use Rattle.sl_run_law.proofs.Sample.SamplesSee.{Sees}
use Rattle.sl_run_law.proofs.Sample.StepKeepsSamples.{Stepping, step_keeps}
use Rattle.sl_run_law.specs.Sample.Samples.{DoneReadsAreWhole, SampledAreSectors, SamplesAreLandings, SamplesComeInOrder}
use Rattle.sl_trace.specs.Traces.{same_place}
use Rattle.std.proofs.Common.{ap, arith, inl, inr, refl, subst, sym, ◌∙◌}
use Rattle.sl_words.proofs.CaseLaws.{one_value}
use Rattle.std.specs.Prelude.{Contains, List, None, Option, Some, length, [], ℕ, ◌++◌, ◌∷◌, ◌≡◌}

-- ---- what is kept

abbrev AllSeen : World → Type 0
AllSeen w = (m : ℕ) (a : Machine) → machine_at w m ≡ Some a → Every (Sees w) a.calls

record IsSeen (w : World) : Type 0 where
  landings : HasLandings w
  sees : AllSeen w

-- ---- the ground

content_by : (w : World) (path : List ℕ) (offset : ℕ) (o : Option Landing) → last_landing w path offset ≡ o
    → ((l : Landing) → Contains w.landings l → length l.bytes ≡ w.layout.sector) → length (initial_bytes w.layout w.header path offset) ≡ w.layout.sector
    → length (elim o as (λ x. List ℕ) [ Some l ↦ l.bytes | None ↦ initial_bytes w.layout w.header path offset ]) ≡ w.layout.sector
content_by w path offset None is each first = first
content_by w path offset (Some l) is each first = each l (find_inside (λ x. same_place x.path x.offset path offset) w.landings l is).0

first_sized : (p : Program) (h : Header) (now : List Happening) → LawfulRun p h now → (path : List ℕ) (offset : ℕ)
    → length (initial_bytes (world_at p h now).layout (world_at p h now).header path offset) ≡ (world_at p h now).layout.sector
first_sized p h now run path offset =
    let w : World = world_at p h now in
    let goes = run_goes (world_with p h) now in
    subst (λ (g : Layout). length (initial_bytes g w.header path offset) ≡ g.sector) (sym goes.layout)
    (subst (λ k. length (initial_bytes (layout_with p.digest h.geometry) k path offset) ≡ h.geometry.sector) (sym goes.header)
    (initial_sized p.digest h path offset run.digest run.header))

-- Each place holds a whole sector.
pub content_sized : LandingsAreSectors → (p : Program) (h : Header) (now : List Happening) → LawfulRun p h now → (path : List ℕ) (offset : ℕ)
    → length (content (world_at p h now) path offset) ≡ (world_at p h now).layout.sector
content_sized sectors p h now run path offset =
    let w : World = world_at p h now in
    content_by w path offset (last_landing w path offset) refl (sectors p h now run) (first_sized p h now run path offset)

-- ---- it holds at first

seen_first : (p : Program) (h : Header) → IsSeen (world_with p h)
seen_first p h =
    record {
      landings = record { begun = omega arith; landed = tt };
      sees = λ m a at. subst (Every (Sees (world_with p h))) (sym (begins_new p h m a at).calls) tt;
    }

-- ---- each event keeps it

abbrev Keeps : World → World → ℕ → Machine → Machine → Type 0
Keeps w u m a b = machine_at w m ≡ Some a → Every (Sees w) a.calls → Every (Sees u) b.calls

each_later : (w u : World) → EachMachine (Keeps w u) w u → AllSeen w → ((m : ℕ) (b : Machine) → machine_at u m ≡ Some b → (a : Machine) × (machine_at w m ≡ Some a))
    → AllSeen u
each_later w u each sees before m b at =
    let a = before m b at in
    let r = each m a.0 a.1 in
    subst (λ (x : Machine). Every (Sees u) x.calls) (one_value r.0 b (machine_at u m) r.1 at) (r.2 a.1 (sees m a.0 a.1))

seen_next : CallsAreDistinct → LandingsAreSectors → (p : Program) (h : Header) (now : List Happening) (x : Happening) → LawfulRun p h (now ++ x ∷ []) → IsSeen (world_at p h now)
    → IsSeen (world_at p h (now ++ x ∷ []))
seen_next distinct sectors p h now x run seen =
    let w : World = world_at p h now in
    let last : IsLast p h now x = last_event p h now x run in
    let v : World = changed_world x.0 w in
    let u : World = take_step (machine_of x.0) (input_of w x.0) last.effects v in
    let ground : Ground w =
    record { landings = seen.landings; sized = content_sized sectors p h now last.before; distinct = distinct_at (world_with p h) now x (distinct p h (now ++ x ∷ []) run) } in
    let before : EachMachine (Before w x.0) w v = first_keeps w x.0 ground last.may in
    let after : EachMachine (Stepping v u) v u =
    step_keeps (machine_of x.0) (input_of w x.0) last.effects v (λ b i at is. ready w x.0 b i ground seen.sees last.may at is) in
    let all : EachMachine (Keeps w u) w u = each_then (Before w x.0) (Stepping v u) (Keeps w u) w v u (λ m a b c g k at sees. k (g at sees)) before after in
    let there : (m : ℕ) (b : Machine) → machine_at u m ≡ Some b → (a : Machine) × (machine_at w m ≡ Some a) =
    λ m b at. was_there w (x ∷ []) m b (ap (λ y. machine_at y m) (sym (run_after (world_with p h) now (x ∷ [])) ∙ last.after) ∙ at) in
    subst IsSeen (sym last.after)
    (record {
      landings = (step_over (machine_of x.0) (input_of w x.0) last.effects v).landings (landings_over w (first_change x.0 w) (first_onward x.0 w) seen.landings);
      sees = each_later w u all seen.sees there;
    })

seen_in_runs : CallsAreDistinct → LandingsAreSectors → (p : Program) (h : Header) → IsKeptInRuns p h (λ xs. IsSeen (world_at p h xs))
seen_in_runs distinct sectors p h = record { first = seen_first p h; next = seen_next distinct sectors p h }

-- ---- the promises

every_has : {A : Type 0} (P : A → Type 0) (xs : List A) (x : A) → Contains xs x → Every P xs → P x
every_has P [] x has each = absurd (contains_none x has)
every_has P (y ∷ xs) x has each =
    elim (contains_cases y xs x has) as (λ z. P x) [ inl same ↦ subst P same each.0 | inr more ↦ every_has P xs x more each.1 ]

-- Each call of a lawful run is seen.
pub call_seen : CallsAreDistinct → LandingsAreSectors → (p : Program) (h : Header) (xs : List Happening) → LawfulRun p h xs → (m : ℕ) (a : Machine) (c : Course)
    → machine_at (world_at p h xs) m ≡ Some a → Contains a.calls c → Sees (world_at p h xs) c
call_seen distinct sectors p h xs run m a c at has =
    let w : World = world_at p h xs in
    every_has (Sees w) a.calls c has ((run_keeps p h (λ ys. IsSeen (world_at p h ys)) (seen_in_runs distinct sectors p h) xs run).sees m a at)

pub samples_are_landings_given : CallsAreDistinct → LandingsAreSectors → SamplesAreLandings
samples_are_landings_given distinct sectors p h xs run m a c k s at has get = (call_seen distinct sectors p h xs run m a c at has).shows k s get

pub sampled_are_sectors_given : CallsAreDistinct → LandingsAreSectors → SampledAreSectors
sampled_are_sectors_given distinct sectors p h xs run m a c at has =
    let seen = call_seen distinct sectors p h xs run m a c at has in
    (seen.sized, seen.few)

pub done_reads_are_whole_given : CallsAreDistinct → LandingsAreSectors → DoneReadsAreWhole
done_reads_are_whole_given distinct sectors p h xs run m a c at has done reads = (call_seen distinct sectors p h xs run m a c at has).whole done reads

pub samples_come_in_order_given : CallsAreDistinct → LandingsAreSectors → SamplesComeInOrder
samples_come_in_order_given distinct sectors p h xs run m a c at has = (call_seen distinct sectors p h xs run m a c at has).order
