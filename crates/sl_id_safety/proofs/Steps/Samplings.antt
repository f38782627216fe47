-- A read that is sampled, as a step of an id: its session decides, or verifies its claim, or nothing changes.
use Rattle.sl_run_law.proofs.Course.CallsAreDistinct.{each_distinct}
use Rattle.sl_run_law.proofs.Course.MachinesMirror.{machines_mirror}
use Rattle.sl_run_law.proofs.Front.RunsFromFronts.{last_event}
use Rattle.sl_id_safety.proofs.State.TraceBridge.{known}
use Rattle.sl_id_safety.proofs.State.CallFrames.{ChangesCall, caller, caller_found, others_same}
use Rattle.sl_id_safety.proofs.State.FindingFrames.{find_passes, found_moves, found_on, found_then, moved}
use Rattle.sl_id_safety.proofs.State.LandingFrames.{same_landings}
use Rattle.sl_id_safety.proofs.State.SessionFacts.{deciding_reads_have_watched, grounds, join_reads_are_own, verify_reads_have_claimed}
use Rattle.sl_id_safety.proofs.State.SampleFrames.{read_is_own}
use Rattle.sl_id_safety.proofs.State.SectorFrames.{SameSector, sector_same, session_same_if}
use Rattle.sl_id_safety.proofs.State.StateFrames.{agree_on, name_cases, one_step}
use Rattle.sl_id_safety.specs.State.IdStates.{blank, deciding_sample, has_begun, id_state, is_sector_of, name_of, own_courses, session_at, session_named_so, standing_by, standing_of, verifying_sample}
use Rattle.sl_id_safety.specs.State.StateLaws.{IsIdPlace}
use Rattle.sl_id_safety.proofs.Steps.JoiningIsAlive.{IsReading}
use Rattle.sl_id_safety.proofs.Steps.AroundSamples.{SamplesOne}
use Rattle.sl_id_safety.proofs.Steps.CallEvents.{CallEvent, do_flies, do_read_between, flight_is, sample_between, sample_event, sample_flies}
use Rattle.sl_id_safety.proofs.Steps.SampledDecides.{DecidesNow, decides}
use Rattle.sl_id_safety.proofs.Steps.EndingSteps.{first_sector, holds_there}
use Rattle.sl_id_safety.proofs.Steps.Outcomes.{Decides_now, IsSampledCall, Outcome, Stays, Verifies_now, outcome}
use Rattle.sl_id_safety.proofs.Steps.SampleKeepsRest.{sampled_found, stands_sampled, stands_with}
use Rattle.sl_id_safety.proofs.Steps.SampledVerifies.{VerifiesNow, verifies}
use Rattle.sl_id_safety.specs.Steps.EventParts.{IsSamplingEvent, SamplingsGoOn, between, state_between}
use Rattle.sl_ids.specs.Guards.{terms_of}
use Rattle.sl_ids.specs.Invariant.{Invariant}
use Rattle.sl_ids.specs.Runs.{IsBounded, Later}
use Rattle.sl_ids.specs.State.{Session as IdSession, SessionId as IdName}
use Rattle.sl_ids.specs.Steps.{Decides, Verifies}
use Rattle.sl_run_law.proofs.Landing.LandingLaws.{landings_are_written}
use Rattle.sl_words.proofs.Lists.{kept}
use Rattle.sl_words.proofs.Numbers.{refl_le}
use Rattle.sl_run.specs.EventChanges.{change_call, sampled_more}
use Rattle.sl_run.specs.Refusals.{may_happen, sectors_left, sectors_of}
use Rattle.sl_run.specs.Runs.{Happening}
use Rattle.sl_run.specs.Safety.{Found, LawfulRun, SessionId, is_course_of, session_of_world, world_at}
use Rattle.sl_run.specs.Worlds.{Course, Machine, Program, World, flight_of, is_open, is_write_course, machine_at}
use Rattle.sl_run.specs.declared.event.Event.TheVariants.{AnswerCall, Crash, Do, DropWrite, ExitOf, GiveAsk, GiveCommand, GiveLvm, Land, Pass, Reset, Restart, Sample, SpawnedOf, StartDaemon, Tear, Test, WakeUp}
use Rattle.sl_run.specs.declared.event.Event.{Event}
use Rattle.sl_run.specs.declared.header.Header.{Header}
use Rattle.sl_run_law.specs.FatesStay.{AreDistinct, EachDistinct}
use Rattle.sl_run_law.proofs.Sample.SampleLaws.{sampled_are_sectors}
use Rattle.sl_trace.specs.Sessions.{is_join_call}
use Rattle.sl_trace.specs.declared.effects.JoinStep.TheVariants.{DecidingRead, VerifyRead}
use Rattle.sl_trace.specs.declared.effects.JoinStep.{JoinStep}
use Rattle.std.proofs.Common.{ap, inl, inr, refl, subst, sym, ◌∙◌}
use Rattle.std.proofs.lemmas.Bool.{and_from, eq-eqb, ltb-false, not-true}
use Rattle.std.specs.Prelude.{Bool, Contains, List, None, Option, Some, false, is_none, is_some, length, option_map, true, [], ℕ, ◌&&◌, ◌-◌, ◌==◌, ◌||◌, ◌≡◌, ◌≤◌}

-- ---- the call that is sampled

-- The call of a sampling event, and by how many sectors.
record SamplingCall (w : World) (e : Event) : Type 0 where
  m : ℕ
  n : ℕ
  j : ℕ
  machine : Machine
  course : Course
  event : CallEvent w e m n machine course (sampled_more w j) []
  at : machine_at w m ≡ Some machine
  flight : flight_of machine n ≡ Some course
  reads : is_write_course course ≡ false
  few : j ≤ sectors_of course.call.op - length course.samples

sampling_call : (w : World) (e : Event) → IsSamplingEvent w e → may_happen w e ≡ true → EachDistinct w → SamplingCall w e
sampling_call w (Sample m n k) kind may distinct =
    let f = sample_flies w m n k may in
    record {
      m = m;
      n = n;
      j = k;
      machine = f.machine;
      course = f.course;
      event = sample_event w (Sample m n k) m n k f (sample_between w m n k) (distinct m f.machine f.at);
      at = f.at;
      flight = f.flight;
      reads = not-true (is_write_course f.course) f.holds.1;
      few = ltb-false (sectors_left f.course) k f.holds.2;
    }
sampling_call w (Do m n) kind may distinct =
    let f = do_flies w m n may in
    let reads : is_write_course f.course ≡ false = kind f.machine f.course f.at f.flight in
    record {
      m = m;
      n = n;
      j = sectors_left f.course;
      machine = f.machine;
      course = f.course;
      event = sample_event w (Do m n) m n (sectors_left f.course) f (do_read_between w m n f.course (flight_is w m n f) reads) (distinct m f.machine f.at);
      at = f.at;
      flight = f.flight;
      reads = reads;
      few = refl_le (sectors_left f.course);
    }
sampling_call w (Pass d growths) kind may distinct = absurd kind
sampling_call w (WakeUp m) kind may distinct = absurd kind
sampling_call w (GiveCommand m text) kind may distinct = absurd kind
sampling_call w (GiveLvm m line) kind may distinct = absurd kind
sampling_call w (GiveAsk m) kind may distinct = absurd kind
sampling_call w (Land m n) kind may distinct = absurd kind
sampling_call w (Tear m n k bytes) kind may distinct = absurd kind
sampling_call w (AnswerCall m n ok) kind may distinct = absurd kind
sampling_call w (DropWrite m n) kind may distinct = absurd kind
sampling_call w (Test m) kind may distinct = absurd kind
sampling_call w (ExitOf m q) kind may distinct = absurd kind
sampling_call w (SpawnedOf m q ok) kind may distinct = absurd kind
sampling_call w (StartDaemon m name) kind may distinct = absurd kind
sampling_call w (Crash m) kind may distinct = absurd kind
sampling_call w (Reset m) kind may distinct = absurd kind
sampling_call w (Restart m) kind may distinct = absurd kind

-- ---- all other sessions

others_stay : (w u : World) (path : List ℕ) (offset m n : ℕ) (turn : Course → Course) (c : Course) → (k : ChangesCall w u m n turn) → k.course ≡ c
    → SameSector w u path offset → (x : IdName) → (x ≡ name_of (caller m c) → ⊥) → session_at u path offset x ≡ session_at w path offset x
others_stay w u path offset m n turn c k is s x apart =
    session_same_if w u path offset x
    (others_same w u path offset m n turn (session_named_so x) k (λ e. apart (ap (λ i. name_of i) e ∙ ap (λ y. name_of (caller m y)) is))
    (λ f at. record { layout = s.layout; own = λ t b. sector_same w u path offset s (session_named_so x) f }))

-- ---- the session of the call

none_later : (w u : World) (m n : ℕ) (turn : Course → Course) (k : ChangesCall w u m n turn) (i : SessionId) → i.machine ≡ m → session_of_world w i ≡ None
    → session_of_world u i ≡ None
none_later w u m n turn k i same none =
    let a : Machine = k.machine in
    let b : Machine = change_call n turn a in
    found_then w u i b k.moment (ap (machine_at u) same ∙ k.later) ∙ found_moves w.moment i a b refl
    ∙ ap (option_map (moved b)) (sym (found_on w i a (ap (machine_at w) same ∙ k.at)) ∙ none)

-- Nothing that matters was sampled.
same_after : (w u : World) (path : List ℕ) (offset n j : ℕ) (i : SessionId) (f : Found) → SameSector w u path offset → session_of_world w i ≡ Some f
    → session_of_world u i ≡ Some (sampled_found w n j f) → deciding_sample i (sampled_found w n j f) ≡ deciding_sample i f
    → verifying_sample u i (sampled_found w n j f) ≡ verifying_sample w i f → session_at u path offset (name_of i) ≡ session_at w path offset (name_of i)
same_after w u path offset n j i f s at later deciding verifying =
    let g : Found = sampled_found w n j f in
    let stands : standing_of u path offset i g ≡ standing_of w path offset i f =
    stands_sampled w u path offset s n j i f ∙ ap (λ o. stands_with w path offset i f o (verifying_sample u i g)) deciding
    ∙ ap (stands_with w path offset i f (deciding_sample i f)) verifying in
    ap (standing_by u path offset i) later
    ∙ ap (λ y. elim (is_sector_of y path offset f.session && has_begun i g) as (λ z. IdSession) [ false ↦ blank | true ↦ standing_of u path offset i g ]) s.layout
    ∙ ap (λ o. elim (is_sector_of w.layout path offset f.session && (is_none f.session.job || is_some o)) as (λ z. IdSession)
    [ false ↦ blank | true ↦ standing_of u path offset i g ]) deciding
    ∙ ap (λ y. elim (is_sector_of w.layout path offset f.session && has_begun i f) as (λ z. IdSession) [ false ↦ blank | true ↦ y ]) stands
    ∙ sym (ap (standing_by w path offset i) at)

-- Its sector is elsewhere.
apart_after : (w u : World) (path : List ℕ) (offset n j : ℕ) (i : SessionId) (f : Found) → SameSector w u path offset → session_of_world w i ≡ Some f
    → session_of_world u i ≡ Some (sampled_found w n j f) → is_sector_of w.layout path offset f.session ≡ false
    → session_at u path offset (name_of i) ≡ session_at w path offset (name_of i)
apart_after w u path offset n j i f s at later sector =
    let g : Found = sampled_found w n j f in
    ap (standing_by u path offset i) later
    ∙ ap (λ y. elim (is_sector_of y path offset f.session && has_begun i g) as (λ z. IdSession) [ false ↦ blank | true ↦ standing_of u path offset i g ]) s.layout
    ∙ ap (λ b. elim (b && has_begun i g) as (λ z. IdSession) [ false ↦ blank | true ↦ standing_of u path offset i g ]) sector
    ∙ sym (ap (λ b. elim (b && has_begun i f) as (λ z. IdSession) [ false ↦ blank | true ↦ standing_of w path offset i f ]) sector)
    ∙ sym (ap (standing_by w path offset i) at)

-- ---- the event

-- What is known of it.
record Sampling (p : Program) (h : Header) (now : List Happening) (x : Happening) (path : List ℕ) (offset : ℕ) : Type 0 where
  run : LawfulRun p h now
  place : IsIdPlace p h path offset
  call : SamplingCall (world_at p h now) x.0
  sector : SameSector (world_at p h now) (between (world_at p h now) x.0) path offset
  invariant : Invariant (terms_of h.timing) (id_state (world_at p h now) path offset)
  bounded : IsBounded (terms_of h.timing) (state_between p h now x.0 path offset)

-- The session of the call.
abbrev whose : (p : Program) (h : Header) (now : List Happening) (x : Happening) (path : List ℕ) (offset : ℕ) → Sampling p h now x path offset → SessionId
whose p h now x path offset s = caller s.call.m s.call.course

its_others : (p : Program) (h : Header) (now : List Happening) (x : Happening) (path : List ℕ) (offset : ℕ) → (s : Sampling p h now x path offset)
    → (y : IdName) → (y ≡ name_of (whose p h now x path offset s) → ⊥)
    → session_at (between (world_at p h now) x.0) path offset y ≡ session_at (world_at p h now) path offset y
its_others p h now x path offset s =
    let w : World = world_at p h now in
    others_stay w (between w x.0) path offset s.call.m s.call.n (sampled_more w s.call.j) s.call.course s.call.event.changes s.call.event.course s.sector

-- Where its session stays, the id stays.
all_same : (p : Program) (h : Header) (now : List Happening) (x : Happening) (path : List ℕ) (offset : ℕ) → (s : Sampling p h now x path offset)
    → session_at (between (world_at p h now) x.0) path offset (name_of (whose p h now x path offset s))
    ≡ session_at (world_at p h now) path offset (name_of (whose p h now x path offset s))
    → Later (terms_of h.timing) (id_state (world_at p h now) path offset) (state_between p h now x.0 path offset)
all_same p h now x path offset s same =
    let w : World = world_at p h now in
    let u : World = between w x.0 in
    let its : IdName = name_of (whose p h now x path offset s) in
    agree_on (terms_of h.timing) (id_state w path offset) (state_between p h now x.0 path offset) s.call.event.moment (same_landings w u path offset s.sector)
    (λ y. elim (name_cases y its) as (λ z. session_at u path offset y ≡ session_at w path offset y) [
      | inl e ↦ ap (session_at u path offset) e ∙ same ∙ ap (session_at w path offset) (sym e)
      | inr apart ↦ its_others p h now x path offset s y apart
    ]) s.bounded

-- The session, found.
record Its (p : Program) (h : Header) (now : List Happening) (x : Happening) (path : List ℕ) (offset : ℕ) (s : Sampling p h now x path offset) (f : Found) : Type 0 where
  at : session_of_world (world_at p h now) (whose p h now x path offset s) ≡ Some f
  machine : f.machine ≡ s.call.machine
  later : session_of_world (between (world_at p h now) x.0) (whose p h now x path offset s) ≡ Some (sampled_found (world_at p h now) s.call.n s.call.j f)
  flight : flight_of f.machine s.call.n ≡ Some s.call.course
  own : Contains (own_courses (whose p h now x path offset s) f.machine) s.call.course
  sampled : IsSampledCall (world_at p h now) h s.call.n s.call.j (whose p h now x path offset s) f s.call.course

its_of : (p : Program) (h : Header) (now : List Happening) (x : Happening) (path : List ℕ) (offset : ℕ) → (s : Sampling p h now x path offset) → (f : Found)
    → session_of_world (world_at p h now) (whose p h now x path offset s) ≡ Some f → Its p h now x path offset s f
its_of p h now x path offset s f at =
    let w : World = world_at p h now in
    let u : World = between w x.0 in
    let i : SessionId = whose p h now x path offset s in
    let c : Course = s.call.course in
    let turn : Course → Course = sampled_more w s.call.j in
    let found = caller_found w u s.call.m s.call.n turn s.call.event.changes i f refl at in
    let machine : f.machine ≡ s.call.machine = found.0 ∙ s.call.event.machine in
    let flight : flight_of f.machine s.call.n ≡ Some c = ap (λ a. flight_of a s.call.n) machine ∙ s.call.flight in
    let has : Contains f.machine.calls c = (find_passes (λ y. y.call.number == s.call.n && is_open f.machine y) f.machine.calls c flight).there in
    let own : Contains (own_courses i f.machine) c =
    kept (is_course_of i) f.machine.calls c
    (and_from (c.daemon == c.daemon) (c.call.session == c.call.session) (eq-eqb c.daemon c.daemon refl) (eq-eqb c.call.session c.call.session refl)) has in
    record {
      at = at;
      machine = machine;
      later = found.1 ∙ ap (λ a. Some (moved (change_call s.call.n turn a) f)) (sym found.0);
      flight = flight;
      own = own;
      sampled = record {
        distinct = subst (λ a. AreDistinct a.calls) (sym found.0) s.call.event.changes.distinct;
        flight = flight;
        few = s.call.few;
        sized = (sampled_are_sectors p h now s.run s.call.m f.machine c (s.call.at ∙ ap (λ a. Some a) (sym machine)) has).0;
        reads = λ step reading join. (read_is_own join_reads_are_own p h now s.run i f step c at reading join).reads;
        watched = λ y mine is. deciding_reads_have_watched p h now s.run i f y at mine is;
        claimed = λ y mine is. verify_reads_have_claimed p h now s.run i f y at mine is;
        own = own;
      };
    }

reading_of : (p : Program) (h : Header) (now : List Happening) (x : Happening) (path : List ℕ) (offset : ℕ) → (s : Sampling p h now x path offset) → (f : Found)
    → Its p h now x path offset s f → (step : JoinStep) → is_join_call step s.call.course.call.purpose ≡ true
    → IsReading (world_at p h now) (whose p h now x path offset s) f s.call.n step s.call.course
reading_of p h now x path offset s f k step joins =
    record {
      known = known grounds p h now s.run (whose p h now x path offset s) f k.at;
      flight = k.flight;
      reads = s.call.reads;
      own = k.own;
      joins = joins;
    }

samples_one : (p : Program) (h : Header) (now : List Happening) (x : Happening) (path : List ℕ) (offset : ℕ) → (s : Sampling p h now x path offset) → (f : Found)
    → Its p h now x path offset s f
    → SamplesOne (world_at p h now) (between (world_at p h now) x.0) path offset s.call.n s.call.j (whose p h now x path offset s) f
samples_one p h now x path offset s f k =
    record { same = s.sector; moment = s.call.event.moment; found = k.later; others = its_others p h now x path offset s }

-- Its sector is here.
at_sector : (p : Program) (h : Header) (now : List Happening) (x : Happening) (path : List ℕ) (offset : ℕ) → (s : Sampling p h now x path offset) → (f : Found)
    → (k : Its p h now x path offset s f) → is_sector_of (world_at p h now).layout path offset f.session ≡ true
    → Outcome (world_at p h now) (between (world_at p h now) x.0) s.call.n s.call.j (whose p h now x path offset s) f s.call.course
    → Later (terms_of h.timing) (id_state (world_at p h now) path offset) (state_between p h now x.0 path offset)
at_sector p h now x path offset s f k sector (Stays deciding verifying) =
    all_same p h now x path offset s
    (same_after (world_at p h now) (between (world_at p h now) x.0) path offset s.call.n s.call.j (whose p h now x path offset s) f s.sector k.at k.later deciding
    verifying)
at_sector p h now x path offset s f k sector (Decides_now is shows verifying) =
    let w : World = world_at p h now in
    let i : SessionId = whose p h now x path offset s in
    let d : DecidesNow p h now (between w x.0) path offset s.call.n s.call.j i f s.call.course =
    record {
      run = s.run;
      place = s.place;
      at = k.at;
      sector = sector;
      sampled = k.sampled;
      reading = reading_of p h now x path offset s f k DecidingRead is;
      one = samples_one p h now x path offset s f k;
      shows = shows;
      verifying = verifying;
      invariant = s.invariant;
    } in
    one_step (terms_of h.timing) (id_state w path offset) (state_between p h now x.0 path offset)
    (Decides (name_of i) (decides p h now (between w x.0) path offset s.call.n s.call.j i f s.call.course d)) s.bounded
at_sector p h now x path offset s f k sector (Verifies_now is deciding shows) =
    let w : World = world_at p h now in
    let i : SessionId = whose p h now x path offset s in
    let d : VerifiesNow p h now (between w x.0) path offset s.call.n s.call.j i f s.call.course =
    record {
      run = s.run;
      at = k.at;
      sector = sector;
      sampled = k.sampled;
      reading = reading_of p h now x path offset s f k VerifyRead is;
      one = samples_one p h now x path offset s f k;
      deciding = deciding;
      shows = shows;
      invariant = s.invariant;
    } in
    one_step (terms_of h.timing) (id_state w path offset) (state_between p h now x.0 path offset)
    (Verifies (name_of i) (verifies p h now (between w x.0) path offset s.call.n s.call.j i f s.call.course d)) s.bounded

found_by : (p : Program) (h : Header) (now : List Happening) (x : Happening) (path : List ℕ) (offset : ℕ) → (s : Sampling p h now x path offset) → (f : Found)
    → Its p h now x path offset s f → (b : Bool) → is_sector_of (world_at p h now).layout path offset f.session ≡ b
    → Later (terms_of h.timing) (id_state (world_at p h now) path offset) (state_between p h now x.0 path offset)
found_by p h now x path offset s f k false sector =
    all_same p h now x path offset s
    (apart_after (world_at p h now) (between (world_at p h now) x.0) path offset s.call.n s.call.j (whose p h now x path offset s) f s.sector k.at k.later sector)
found_by p h now x path offset s f k true sector =
    at_sector p h now x path offset s f k sector
    (outcome (world_at p h now) (between (world_at p h now) x.0) h s.call.n s.call.j (whose p h now x path offset s) f s.call.course s.sector.layout k.sampled)

goes_by : (p : Program) (h : Header) (now : List Happening) (x : Happening) (path : List ℕ) (offset : ℕ) → (s : Sampling p h now x path offset) → (o : Option Found)
    → session_of_world (world_at p h now) (whose p h now x path offset s) ≡ o
    → Later (terms_of h.timing) (id_state (world_at p h now) path offset) (state_between p h now x.0 path offset)
goes_by p h now x path offset s (Some f) at =
    found_by p h now x path offset s f (its_of p h now x path offset s f at) (is_sector_of (world_at p h now).layout path offset f.session) refl
goes_by p h now x path offset s None at =
    let w : World = world_at p h now in
    let u : World = between w x.0 in
    let i : SessionId = whose p h now x path offset s in
    all_same p h now x path offset s
    (ap (standing_by u path offset i) (none_later w u s.call.m s.call.n (sampled_more w s.call.j) s.call.event.changes i refl at)
    ∙ sym (ap (standing_by w path offset i) at))

pub samplings_go_on : SamplingsGoOn
samplings_go_on p h now x path offset run place kind reached bounded =
    let last = last_event p h now x run in
    let w : World = world_at p h now in
    let call = sampling_call w x.0 kind last.may (each_distinct p h now last.before) in
    let s : Sampling p h now x path offset =
    record {
      run = last.before;
      place = place;
      call = call;
      sector = first_sector each_distinct machines_mirror landings_are_written p h now x run path offset call.event.landings;
      invariant = holds_there p h now (id_state w path offset) last.before reached;
      bounded = bounded;
    } in
    goes_by p h now x path offset s (session_of_world w (whose p h now x path offset s)) refl
