-- The events in which a write lands or is dropped, as steps of an id.
use Rattle.sl_run_law.proofs.Front.RunsFromFronts.{last_event}
use Rattle.sl_id_safety.proofs.State.FindingFrames.{find_passes}
use Rattle.sl_run_law.proofs.Place.FoundInLists.{place_is}
use Rattle.sl_id_safety.proofs.State.SectorFrames.{SameSector, history_grows}
use Rattle.sl_id_safety.proofs.State.StateFrames.{one_step}
use Rattle.sl_id_safety.proofs.State.WriterFrames.{writer_stays}
use Rattle.sl_id_safety.specs.State.IdStates.{id_state, said_by}
use Rattle.sl_id_safety.specs.State.StateLaws.{IsIdPlace}
use Rattle.sl_id_safety.proofs.Steps.RenewalLandings.{lands_here}
use Rattle.sl_id_safety.proofs.Steps.CallEvents.{CallEvent, Flies, IsDone, IsFlyingWrite, do_flies, do_landed_between, do_write_between, drop_between, drop_flies, fate_event, flight_is, land_between, land_flies, landing_event, landing_of_call, tear_between, tear_flies}
use Rattle.sl_id_safety.proofs.Steps.Callers.{Caller, Write, its_caller}
use Rattle.sl_id_safety.proofs.Steps.EventFrames.{first_keeps, first_writers, left_has_call}
use Rattle.sl_id_safety.proofs.Steps.HereDeltas.{delta_here, says_nothing, says_written}
use Rattle.sl_id_safety.proofs.Steps.LandingsElsewhere.{RestsOn, elsewhere}
use Rattle.sl_id_safety.proofs.Steps.LandingsHere.{Here, IsTorn, IsWhole}
use Rattle.sl_id_safety.proofs.Steps.OwnSeqs.{writer_is}
use Rattle.sl_id_safety.proofs.Steps.QuietEvents.{still_passes}
use Rattle.sl_id_safety.proofs.Steps.IdsStayStill.{StaysStill}
use Rattle.sl_id_safety.specs.Steps.EventParts.{IsLandingEvent, LandingsGoOn, between, state_between}
use Rattle.sl_ids.proofs.DerivedLaws.{watchdogs}
use Rattle.sl_ids.proofs.WholeRuns.{reached_kept}
use Rattle.sl_ids.specs.Guards.{terms_of}
use Rattle.sl_ids.specs.Invariant.{Invariant}
use Rattle.sl_ids.specs.Runs.{IsBounded, Later}
use Rattle.sl_ids.specs.Steps.{Passes, Step}
use Rattle.sl_ids.specs.Terms.{Terms}
use Rattle.sl_words.proofs.Lists.{contains_first}
use Rattle.sl_run.specs.EventChanges.{fated, flight_at, next_step, write_bytes}
use Rattle.sl_run.specs.Refusals.{may_happen}
use Rattle.sl_run.specs.Premises.{spells_something, torn_bytes}
use Rattle.sl_run.specs.Runs.{Happening}
use Rattle.sl_run.specs.Safety.{LawfulRun, world_at}
use Rattle.sl_run.specs.Worlds.{Course, Dropped, Fate, Landed, Landing, Machine, Program, Torn, World, flight_of, history_of, is_in_flight, is_landed, is_open, is_write_course, machine_at}
use Rattle.sl_run.specs.declared.event.Event.TheVariants.{AnswerCall, Crash, Do, DropWrite, ExitOf, GiveAsk, GiveCommand, GiveLvm, Land, Pass, Reset, Restart, Sample, SpawnedOf, StartDaemon, Tear, Test, WakeUp}
use Rattle.sl_run.specs.declared.event.Event.{Event}
use Rattle.sl_run.specs.declared.header.Header.{Header}
use Rattle.sl_sector.specs.declared.sector.DeltaRec.{DeltaRec}
use Rattle.sl_sector.specs.declared.sector.Rec.TheVariants.{DeltaIs}
use Rattle.sl_trace.specs.Traces.{record_of, same_place}
use Rattle.sl_words.proofs.CaseLaws.{true_is_false}
use Rattle.std.proofs.Common.{ap, inl, inr, refl, subst, sym, ◌∙◌}
use Rattle.std.specs.Prelude.{Bool, Contains, List, Some, cond, false, option_and_then, true, [], ℕ, ◌&&◌, ◌++◌, ◌==◌, ◌∷◌, ◌≡◌, ◌⊎◌}

-- ---- the write

abbrev write_of : (w : World) (e : Event) (m n : ℕ) (fate : Fate) (a : Machine) (c : Course) (newer : List Landing) → CallEvent w e m n a c (fated fate) newer
    → is_write_course c ≡ true → is_in_flight c.fate ≡ true → is_in_flight fate ≡ false → Write w (between w e) m n fate
write_of w e m n fate a c newer ev writes flies ends =
    record {
      changes = ev.changes;
      writes = ap is_write_course ev.course ∙ writes;
      flies = ap (λ z. is_in_flight z.fate) ev.course ∙ flies;
      ends = ends;
      layout = ev.layout;
      moment = ev.moment;
    }

-- ---- nothing lands there

drops : RestsOn → (p : Program) (h : Header) (now : List Happening) (x : Happening) (path : List ℕ) (offset : ℕ) → LawfulRun p h (now ++ x ∷ []) → (r : Terms) (m n : ℕ) (fate : Fate)
    (a : Machine) (c : Course) → CallEvent (world_at p h now) x.0 m n a c (fated fate) [] → is_write_course c ≡ true → is_in_flight c.fate ≡ true → is_in_flight fate ≡ false
    → is_landed fate ≡ false → Invariant r (id_state (world_at p h now) path offset) → IsBounded r (id_state (world_at p h now) path offset)
    → IsBounded r (state_between p h now x.0 path offset)
    → Later r (id_state (world_at p h now) path offset) (state_between p h now x.0 path offset)
drops g p h now x path offset run r m n fate a c ev writes flies ends none inv low high =
    let w : World = world_at p h now in
    let v : World = between w x.0 in
    let before = (last_event p h now x run).before in
    let y : Write w v m n fate = write_of w x.0 m n fate a c [] ev writes flies ends in
    let sector : SameSector w v path offset =
    record {
      layout = ev.layout;
      history = history_grows w v path offset [] ev.layout ev.header ev.landings;
      writers = first_writers g.distinct g.mirror g.written p h now x run path offset;
    } in
    elsewhere g r p h now before v m n fate y (its_caller g.promised p h now before v m n fate y) path offset sector (λ l. absurd (true_is_false (sym l ∙ none))) inv low high

-- ---- one landing

-- An event in which a call leaves this landing.
pub record Leaves (p : Program) (h : Header) (now : List Happening) (x : Happening) (m n : ℕ) (fate : Fate) (whole : Bool) (bytes : List ℕ) (a : Machine) (c : Course) : Type 0 where
  pub event : CallEvent (world_at p h now) x.0 m n a c (fated fate) (landing_of_call (world_at p h now) m whole bytes c ∷ [])
  pub writes : is_write_course c ≡ true
  pub flies : is_in_flight c.fate ≡ true
  pub ends : is_in_flight fate ≡ false

grown_by : (w v : World) (path : List ℕ) (offset : ℕ) (l : Landing) (b : Bool) → v.layout ≡ w.layout → v.header ≡ w.header → v.landings ≡ (l ∷ []) ++ w.landings
    → same_place l.path l.offset path offset ≡ b → history_of v path offset ≡ cond b (l ∷ []) [] ++ history_of w path offset
grown_by w v path offset l b layout header landings is =
    history_grows w v path offset (l ∷ []) layout header landings ∙ ap (λ t. cond t (l ∷ []) [] ++ history_of w path offset) is

lands_apart : RestsOn → (p : Program) (h : Header) (now : List Happening) (x : Happening) (path : List ℕ) (offset : ℕ) → LawfulRun p h (now ++ x ∷ []) → (r : Terms) (m n : ℕ) (fate : Fate)
    (whole : Bool) (bytes : List ℕ) (a : Machine) (c : Course) → Leaves p h now x m n fate whole bytes a c
    → Invariant r (id_state (world_at p h now) path offset) → IsBounded r (id_state (world_at p h now) path offset)
    → IsBounded r (state_between p h now x.0 path offset)
    → same_place c.call.path c.call.offset path offset ≡ false
    → Later r (id_state (world_at p h now) path offset) (state_between p h now x.0 path offset)
lands_apart g p h now x path offset run r m n fate whole bytes a c e inv low high apart =
    let w : World = world_at p h now in
    let v : World = between w x.0 in
    let before = (last_event p h now x run).before in
    let l : Landing = landing_of_call w m whole bytes c in
    let y : Write w v m n fate = write_of w x.0 m n fate a c (l ∷ []) e.event e.writes e.flies e.ends in
    let sector : SameSector w v path offset =
    record {
      layout = e.event.layout;
      history = grown_by w v path offset l false e.event.layout e.event.header e.event.landings apart;
      writers = first_writers g.distinct g.mirror g.written p h now x run path offset;
    } in
    elsewhere g r p h now before v m n fate y (its_caller g.promised p h now before v m n fate y) path offset sector
    (λ l. ap (λ z. same_place z.call.path z.call.offset path offset) e.event.course ∙ apart) inv low high

-- What is known of a landing at the sector of an id.
here : RestsOn → (p : Program) (h : Header) (now : List Happening) (x : Happening) (path : List ℕ) (offset : ℕ) → LawfulRun p h (now ++ x ∷ []) → IsIdPlace p h path offset
    → (m n : ℕ) (fate : Fate) (l : Landing) (y : Write (world_at p h now) (between (world_at p h now) x.0) m n fate) → l.writer ≡ Some (m, y.changes.course.call.number)
    → (l.path ≡ y.changes.course.call.path) × (l.offset ≡ y.changes.course.call.offset) → l.moment ≡ (world_at p h now).moment
    → (between (world_at p h now) x.0).header ≡ (world_at p h now).header → (between (world_at p h now) x.0).landings ≡ (l ∷ []) ++ (world_at p h now).landings
    → same_place l.path l.offset path offset ≡ true
    → (k : Here p h now (between (world_at p h now) x.0) m n fate y path offset) × (k.landing ≡ l)
here g p h now x path offset run place m n fate l y named at moment header landings same =
    let w : World = world_at p h now in
    let v : World = between w x.0 in
    let before = (last_event p h now x run).before in
    let c : Course = y.changes.course in
    let caller : Caller w v m n fate y = its_caller g.promised p h now before v m n fate y in
    let is = place_is l.path l.offset path offset same in
    let flight : flight_at w m n ≡ Some c = ap (λ o. option_and_then (λ (z : Machine). flight_of z n) o) y.changes.at ∙ y.changes.flight in
    let there : Contains v.landings l = subst (λ ls. Contains ls l) (sym landings) (contains_first l w.landings) in
    let d = delta_here g.distinct g.deltas p h now x path offset run place l m y.changes.machine c there named is.0 is.1 y.changes.at caller.inside in (
      record {
        run = before;
        id = place;
        distinct = g.distinct p h now before;
        caller = caller;
        landing = l;
        grows = record {
          layout = y.layout;
          history = grown_by w v path offset l true y.layout header landings same;
          writers = first_writers g.distinct g.mirror g.written p h now x run path offset;
        };
        named = named;
        wrote = writer_stays w v l (first_keeps g.distinct g.mirror p h now x run) (left_has_call w m n c l flight named)
            ∙ writer_is w l m c.call.number y.changes.machine c named y.changes.at y.changes.distinct caller.inside refl;
        moment = moment;
        place = (sym at.0 ∙ is.0, sym at.1 ∙ is.1);
        delta = d.0;
        writes = d.1;
      },
      refl,
    )

-- How it landed.
abbrev How : World → World → Fate → Landing → Course → Type 0
How w v fate l c = (d : DeltaRec) → record_of c.call.op ≡ Some (DeltaIs d) → IsWhole w v fate l d ⊎ IsTorn w v fate l

lands_at : RestsOn → (p : Program) (h : Header) (now : List Happening) (x : Happening) (path : List ℕ) (offset : ℕ) → LawfulRun p h (now ++ x ∷ []) → IsIdPlace p h path offset
    → (r : Terms) (m n : ℕ) (fate : Fate) (whole : Bool) (bytes : List ℕ) (a : Machine) (c : Course) → Leaves p h now x m n fate whole bytes a c
    → How (world_at p h now) (between (world_at p h now) x.0) fate (landing_of_call (world_at p h now) m whole bytes c) c
    → Invariant r (id_state (world_at p h now) path offset) → IsBounded r (id_state (world_at p h now) path offset)
    → IsBounded r (state_between p h now x.0 path offset)
    → same_place c.call.path c.call.offset path offset ≡ true
    → Later r (id_state (world_at p h now) path offset) (state_between p h now x.0 path offset)
lands_at g p h now x path offset run place r m n fate whole bytes a c e how inv low high same =
    let w : World = world_at p h now in
    let v : World = between w x.0 in
    let l : Landing = landing_of_call w m whole bytes c in
    let y : Write w v m n fate = write_of w x.0 m n fate a c (l ∷ []) e.event e.writes e.flies e.ends in
    let k = here g p h now x path offset run place m n fate l y (ap (λ z. Some (m, z.call.number)) (sym e.event.course))
    (ap (λ z. z.call.path) (sym e.event.course), ap (λ z. z.call.offset) (sym e.event.course)) refl e.event.header e.event.landings same in
    let its : record_of c.call.op ≡ Some (DeltaIs k.0.delta) = ap (λ z. record_of z.call.op) (sym e.event.course) ∙ k.0.writes in
    lands_here g r p h now v m n fate y path offset k.0
    (subst (λ z. IsWhole w v fate z k.0.delta ⊎ IsTorn w v fate z) (sym k.1) (how k.0.delta its)) inv low high

lands_by : RestsOn → (p : Program) (h : Header) (now : List Happening) (x : Happening) (path : List ℕ) (offset : ℕ) → LawfulRun p h (now ++ x ∷ []) → IsIdPlace p h path offset
    → (r : Terms) (m n : ℕ) (fate : Fate) (whole : Bool) (bytes : List ℕ) (a : Machine) (c : Course) → Leaves p h now x m n fate whole bytes a c
    → How (world_at p h now) (between (world_at p h now) x.0) fate (landing_of_call (world_at p h now) m whole bytes c) c
    → Invariant r (id_state (world_at p h now) path offset) → IsBounded r (id_state (world_at p h now) path offset)
    → IsBounded r (state_between p h now x.0 path offset)
    → (b : Bool) → same_place c.call.path c.call.offset path offset ≡ b
    → Later r (id_state (world_at p h now) path offset) (state_between p h now x.0 path offset)
lands_by g p h now x path offset run place r m n fate whole bytes a c e how inv low high true is =
    lands_at g p h now x path offset run place r m n fate whole bytes a c e how inv low high is
lands_by g p h now x path offset run place r m n fate whole bytes a c e how inv low high false is =
    lands_apart g p h now x path offset run r m n fate whole bytes a c e inv low high is

-- ---- each event

has_call : (a : Machine) (n : ℕ) (c : Course) → flight_of a n ≡ Some c → Contains a.calls c
has_call a n c h = (find_passes (λ (x : Course). x.call.number == n && is_open a x) a.calls c h).there

-- A write lands whole.
whole_how : RestsOn → (p : Program) (h : Header) (now : List Happening) → LawfulRun p h now → (v : World) → v.layout ≡ (world_at p h now).layout → (m n : ℕ) (a : Machine) (c : Course)
    → machine_at (world_at p h now) m ≡ Some a → flight_of a n ≡ Some c
    → How (world_at p h now) v Landed (landing_of_call (world_at p h now) m true (write_bytes (world_at p h now) c.call) c) c
whole_how g p h now run v layout m n a c at flight d is =
    let w : World = world_at p h now in
    inl (record {
      whole = refl;
      landed = refl;
      says = ap (λ z. said_by z (write_bytes w c.call)) layout ∙ says_written g.promised p h now run m a c d at (has_call a n c flight) is;
    })

lands_whole : RestsOn → (p : Program) (h : Header) (now : List Happening) (x : Happening) (path : List ℕ) (offset : ℕ) → LawfulRun p h (now ++ x ∷ []) → IsIdPlace p h path offset
    → (r : Terms) (m n : ℕ) (f : Flies (world_at p h now) m n IsFlyingWrite)
    → CallEvent (world_at p h now) x.0 m n f.machine f.course (fated Landed)
    (landing_of_call (world_at p h now) m true (write_bytes (world_at p h now) f.course.call) f.course ∷ [])
    → Invariant r (id_state (world_at p h now) path offset) → IsBounded r (id_state (world_at p h now) path offset)
    → IsBounded r (state_between p h now x.0 path offset)
    → Later r (id_state (world_at p h now) path offset) (state_between p h now x.0 path offset)
lands_whole g p h now x path offset run place r m n f ev inv low high =
    let w : World = world_at p h now in
    let before = (last_event p h now x run).before in
    lands_by g p h now x path offset run place r m n Landed true (write_bytes w f.course.call) f.machine f.course
    (record { event = ev; writes = f.holds.0; flies = f.holds.1; ends = refl })
    (whole_how g p h now before (between w x.0) ev.layout m n f.machine f.course f.at f.flight) inv low high
    (same_place f.course.call.path f.course.call.offset path offset) refl

torn_how : (w v : World) → v.layout ≡ w.layout → (m : ℕ) (bytes : List ℕ) (c : Course) → spells_something w bytes ≡ false
    → How w v Torn (landing_of_call w m false bytes c) c
torn_how w v layout m bytes c spells d is =
    inr (record { torn = refl; landed = refl; says = ap (λ z. said_by z bytes) layout ∙ says_nothing w bytes spells })

still_here : (w : World) → StaysStill w (next_step w)
still_here w =
    record {
      layout = refl;
      header = refl;
      landings = refl;
      machines = refl;
      moment = refl;
      each = λ m a at. (a, at, record { calls = refl; resets = refl; ended = refl; daemon = inl refl });
    }

-- A write that has landed is only answered.
landed_before : (r : Terms) (w v : World) (path : List ℕ) (offset : ℕ) → v ≡ next_step w → IsBounded r (id_state v path offset)
    → Later r (id_state w path offset) (id_state v path offset)
landed_before r w v path offset is high =
    one_step r (id_state w path offset) (id_state v path offset)
    (subst (λ z. Step r (id_state w path offset) (id_state z path offset)) (sym is)
    (Passes (still_passes w (next_step w) path offset (still_here w)))) high

does : RestsOn → (p : Program) (h : Header) (now : List Happening) (x : Happening) (path : List ℕ) (offset : ℕ) → LawfulRun p h (now ++ x ∷ []) → IsIdPlace p h path offset
    → (r : Terms) (m n : ℕ) → x.0 ≡ Do m n → (f : Flies (world_at p h now) m n IsDone) → is_write_course f.course ≡ true → (b : Bool) → is_in_flight f.course.fate ≡ b
    → Invariant r (id_state (world_at p h now) path offset) → IsBounded r (id_state (world_at p h now) path offset)
    → IsBounded r (state_between p h now x.0 path offset)
    → Later r (id_state (world_at p h now) path offset) (state_between p h now x.0 path offset)
does g p h now x path offset run place r m n is f writes true flies inv low high =
    let w : World = world_at p h now in
    let before = (last_event p h now x run).before in
    let k : Flies w m n IsFlyingWrite = record { machine = f.machine; course = f.course; at = f.at; flight = f.flight; holds = (writes, flies) } in
    lands_whole g p h now x path offset run place r m n k
    (landing_event w x.0 m n Landed true (λ c. write_bytes w c.call) k (ap (between w) is ∙ do_write_between w m n f.course (flight_is w m n f) writes flies)
    (g.distinct p h now before m f.machine f.at)) inv low high
does g p h now x path offset run place r m n is f writes false flies inv low high =
    let w : World = world_at p h now in
    landed_before r w (between w x.0) path offset (ap (between w) is ∙ do_landed_between w m n f.course (flight_is w m n f) writes flies) high

lands_event : RestsOn → (p : Program) (h : Header) (now : List Happening) (x : Happening) (path : List ℕ) (offset : ℕ) → LawfulRun p h (now ++ x ∷ []) → IsIdPlace p h path offset
    → (r : Terms) (e : Event) → x.0 ≡ e → IsLandingEvent (world_at p h now) e
    → Invariant r (id_state (world_at p h now) path offset) → IsBounded r (id_state (world_at p h now) path offset)
    → IsBounded r (state_between p h now x.0 path offset)
    → Later r (id_state (world_at p h now) path offset) (state_between p h now x.0 path offset)
lands_event g p h now x path offset run place r (Land m n) is kind inv low high =
    let w : World = world_at p h now in
    let last = last_event p h now x run in
    let f = land_flies w m n (subst (λ z. may_happen w z ≡ true) is last.may) in
    lands_whole g p h now x path offset run place r m n f
    (landing_event w x.0 m n Landed true (λ c. write_bytes w c.call) f (ap (between w) is ∙ land_between w m n f.course (flight_is w m n f))
    (g.distinct p h now last.before m f.machine f.at)) inv low high
lands_event g p h now x path offset run place r (Tear m n k bytes) is kind inv low high =
    let w : World = world_at p h now in
    let last = last_event p h now x run in
    let f = tear_flies w m n k bytes (subst (λ z. may_happen w z ≡ true) is last.may) in
    let ev =
    landing_event w x.0 m n Torn false (λ c. torn_bytes w c.call k bytes) f (ap (between w) is ∙ tear_between w m n k bytes f.course (flight_is w m n f))
    (g.distinct p h now last.before m f.machine f.at) in
    lands_by g p h now x path offset run place r m n Torn false (torn_bytes w f.course.call k bytes) f.machine f.course
    (record { event = ev; writes = f.holds.0; flies = f.holds.1; ends = refl })
    (torn_how w (between w x.0) ev.layout m (torn_bytes w f.course.call k bytes) f.course f.holds.2) inv low high
    (same_place f.course.call.path f.course.call.offset path offset) refl
lands_event g p h now x path offset run place r (DropWrite m n) is kind inv low high =
    let w : World = world_at p h now in
    let last = last_event p h now x run in
    let f = drop_flies w m n (subst (λ z. may_happen w z ≡ true) is last.may) in
    drops g p h now x path offset run r m n Dropped f.machine f.course
    (fate_event w x.0 m n Dropped f (ap (between w) is ∙ drop_between w m n) (g.distinct p h now last.before m f.machine f.at)) f.holds.0 f.holds.1 refl refl inv low high
lands_event g p h now x path offset run place r (Do m n) is kind inv low high =
    let w : World = world_at p h now in
    let last = last_event p h now x run in
    let f = do_flies w m n (subst (λ z. may_happen w z ≡ true) is last.may) in
    does g p h now x path offset run place r m n is f (kind f.machine f.course f.at f.flight) (is_in_flight f.course.fate) refl inv low high
lands_event g p h now x path offset run place r (Pass d growths) is kind inv low high = absurd kind
lands_event g p h now x path offset run place r (WakeUp m) is kind inv low high = absurd kind
lands_event g p h now x path offset run place r (GiveCommand m text) is kind inv low high = absurd kind
lands_event g p h now x path offset run place r (GiveLvm m line) is kind inv low high = absurd kind
lands_event g p h now x path offset run place r (GiveAsk m) is kind inv low high = absurd kind
lands_event g p h now x path offset run place r (Sample m n k) is kind inv low high = absurd kind
lands_event g p h now x path offset run place r (AnswerCall m n ok) is kind inv low high = absurd kind
lands_event g p h now x path offset run place r (Test m) is kind inv low high = absurd kind
lands_event g p h now x path offset run place r (ExitOf m process) is kind inv low high = absurd kind
lands_event g p h now x path offset run place r (SpawnedOf m process ok) is kind inv low high = absurd kind
lands_event g p h now x path offset run place r (StartDaemon m name) is kind inv low high = absurd kind
lands_event g p h now x path offset run place r (Crash m) is kind inv low high = absurd kind
lands_event g p h now x path offset run place r (Reset m) is kind inv low high = absurd kind
lands_event g p h now x path offset run place r (Restart m) is kind inv low high = absurd kind

-- Landings are steps of an id.
pub landings_go_on_given : RestsOn → LandingsGoOn
landings_go_on_given g p h now x path offset run place kind reached bounded =
    let r : Terms = terms_of h.timing in
    let k = reached_kept r (id_state (world_at p h now) path offset) (watchdogs.long h.timing run.header.timing) reached in
    lands_event g p h now x path offset run place r x.0 refl kind k.0 k.1 bounded
