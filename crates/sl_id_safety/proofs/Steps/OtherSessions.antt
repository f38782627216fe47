-- The sessions of other daemons stay as they were through an entry.
use Rattle.sl_run_law.proofs.Course.ResetsBeforeNow.{step_resets}
use Rattle.sl_run_law.specs.Course.CourseLaws.{MachinesMirror}
use Rattle.sl_id_safety.proofs.State.CallFrames.{elsewhere_same}
use Rattle.sl_id_safety.proofs.State.FindingFrames.{find_passes, found_on, found_then, is_found, moved, own_untouched, same_moved, session_on}
use Rattle.sl_id_safety.proofs.State.Frames.{is_running, of_daemon}
use Rattle.sl_id_safety.proofs.State.SectorFrames.{SameIf, SameSector, sector_same, session_same_if}
use Rattle.sl_id_safety.specs.State.IdStates.{own_courses, session_at, session_named_so}
use Rattle.sl_id_safety.proofs.Steps.CallEvents.{answer_flies, do_flies}
use Rattle.sl_id_safety.proofs.Steps.EventFrames.{StayDistinct, after_event, between_distinct, first_tracks, step_sector}
use Rattle.sl_id_safety.proofs.Steps.StepFrames.{IsEntry, IsNewCourse, other_found, step_runs, step_submits}
use Rattle.sl_id_safety.specs.Steps.EventParts.{between}
use Rattle.sl_ids.specs.State.{SessionId as IdName}
use Rattle.sl_run_law.proofs.Landing.CallLists.{one_call}
use Rattle.sl_run_law.specs.Landing.Landings.{LandingsAreWritten}
use Rattle.sl_run_law.proofs.Front.RunsFromFronts.{last_event}
use Rattle.sl_words.proofs.Lists.{contains_cases, contains_first, contains_more, contains_none}
use Rattle.sl_words.proofs.Options.{then_value}
use Rattle.sl_run.specs.EventChanges.{after_step, close_answered, new_course}
use Rattle.sl_run.specs.Inputs.{done_input, if_running, input_at, input_of, machine_of, ok_input}
use Rattle.sl_run.specs.Refusals.{may_happen}
use Rattle.sl_run.specs.Runs.{Happening}
use Rattle.sl_run.specs.Safety.{Found, LawfulRun, SessionId, is_course_of, session_of_world, world_at}
use Rattle.sl_run.specs.Worlds.{Course, Daemon, Machine, Program, Stamp, World, flight_of, is_of_running, is_open, machine_at, stamp_now}
use Rattle.sl_run.specs.declared.event.Event.TheVariants.{AnswerCall, Crash, Do, DropWrite, ExitOf, GiveAsk, GiveCommand, GiveLvm, Land, Pass, Reset, Restart, Sample, SpawnedOf, StartDaemon, Tear, Test, WakeUp}
use Rattle.sl_run.specs.declared.event.Event.{Event}
use Rattle.sl_run.specs.declared.header.Header.{Header}
use Rattle.sl_run_law.proofs.CoursesGoOn.{told}
use Rattle.sl_run_law.specs.CoursesGoOn.{Continues, Follow, ListGoes}
use Rattle.sl_run_law.specs.FatesStay.{AreDistinct, Every}
use Rattle.sl_run_law.proofs.Front.JoinedLists.{contains_right}
use Rattle.sl_trace.specs.Traces.{is_ok_answer}
use Rattle.sl_trace.specs.declared.effects.Call.{Call}
use Rattle.sl_trace.specs.declared.effects.Effects.{Effects}
use Rattle.sl_trace.specs.declared.effects.Op.TheVariants.{ReadSectors, WriteRecord}
use Rattle.sl_trace.specs.declared.effects.Op.{Op}
use Rattle.sl_trace.specs.declared.input.Answer.TheVariants.{Failed, Read, Written}
use Rattle.sl_trace.specs.declared.input.Answer.{Answer}
use Rattle.sl_trace.specs.declared.input.Input.TheVariants.{Answer as Told, Exit, Line, Number, Spawned, Wake}
use Rattle.sl_trace.specs.declared.input.Input.{Input}
use Rattle.sl_words.proofs.CaseLaws.{is_false, none_some, not_both, one_value, some_value}
use Rattle.sl_words.proofs.OrderLaws.{same_or_apart}
use Rattle.sl_words.proofs.WordLaws.{and_true}
use Rattle.sl_words.specs.Words.{choose, some_is}
use Rattle.std.proofs.Common.{ap, arith, inl, inr, refl, subst, sym, tests, ◌∙◌}
use Rattle.std.proofs.lemmas.Bool.{eqb-true}
use Rattle.std.proofs.lemmas.List.Elements.{filter-append}
use Rattle.std.specs.Prelude.{Bool, Contains, List, None, Option, Some, cond, false, filter, is_some, option_and_then, option_map, true, [], ℕ, ◌&&◌, ◌++◌, ◌==◌, ◌∷◌, ◌≡◌}

-- ---- the call that an entry answers

-- A call of a running daemon with this number.
pub record IsAnswering (w : World) (m n : ℕ) : Type 0 where
  pub machine : Machine
  pub course : Course
  pub at : machine_at w m ≡ Some machine
  pub has : Contains machine.calls course
  pub number : course.call.number ≡ n
  pub runs : is_of_running machine course ≡ true

told_number : (a b : ℕ) (x y : Answer) → Told a x ≡ Told b y → a ≡ b
told_number a b x y h = cc

op_told : (n k : ℕ) (op : Op) (read : Answer) (y : Answer)
    → elim op as (λ z. Input) [ ReadSectors i ↦ Told n read | WriteRecord r ↦ Told n Written ] ≡ Told k y → n ≡ k
op_told n k (ReadSectors i) read y h = told_number n k read y h
op_told n k (WriteRecord r) read y h = told_number n k Written y h

answer_told : (c k : ℕ) (f : Course) (ok : Bool) (y : Answer) → (f.call.number ≡ c)
    → elim ok as (λ z. Input) [ true ↦ ok_input f | false ↦ Told c Failed ] ≡ Told k y → f.call.number ≡ k
answer_told c k f true y is h = op_told f.call.number k f.call.op (Read f.sampled) y h
answer_told c k f false y is h = is ∙ told_number c k Failed y h

not_told : (i : Input) (b : Bool) (n : ℕ) (y : Answer) → (i ≡ Told n y → ⊥) → choose b i ≡ Some (Told n y) → ⊥
not_told i true n y other h = other (some_value i (Told n y) h)
not_told i false n y other h = none_some (Told n y) h

running_told : (i : Input) (n : ℕ) (y : Answer) (o : Option Machine) → (i ≡ Told n y → ⊥) → option_and_then (λ a. if_running a i) o ≡ Some (Told n y) → ⊥
running_told i n y None other h = none_some (Told n y) h
running_told i n y (Some a) other h = not_told i (is_some a.daemon) n y other h

-- An ask is a line.
asking_told : (n : ℕ) (y : Answer) (o : Option Machine) → option_and_then (λ a. option_and_then (λ text. if_running a (Line text)) a.locks.due) o ≡ Some (Told n y) → ⊥
asking_told n y None h = none_some (Told n y) h
asking_told n y (Some a) h =
    let x = then_value (λ text. if_running a (Line text)) a.locks.due (Told n y) h in
    not_told (Line x.0) (is_some a.daemon) n y (λ e. absurd cc) x.2

nothing_told : (n : ℕ) (y : Answer) (o : Option Machine) → option_and_then (λ (a : Machine). let x : Option Input = None in x) o ≡ Some (Told n y) → ⊥
nothing_told n y None h = none_some (Told n y) h
nothing_told n y (Some a) h = none_some (Told n y) h

flying : (a : Machine) (n : ℕ) (f : Course) → flight_of a n ≡ Some f → Contains a.calls f × (f.call.number ≡ n)
flying a n f h =
    let p = find_passes (λ c. c.call.number == n && is_open a c) a.calls f h in
    (p.there, eqb-true f.call.number n (and_true (f.call.number == n) (is_open a f) p.test).0)

given_by : (w : World) (e : Event) (i : Input) (a : Machine) → machine_at w (machine_of e) ≡ Some a → input_of w e ≡ Some i → input_at w e a ≡ Some i
given_by w e i a at h = sym (ap (λ o. option_and_then (input_at w e) o) at) ∙ h

-- An answer is of a call of the daemon that runs.
pub answering : (w : World) (e : Event) (n : ℕ) (y : Answer) → may_happen w e ≡ true → input_of w e ≡ Some (Told n y) → IsAnswering w (machine_of e) n
answering w (Pass d growths) n y may h = absurd (nothing_told n y (machine_at w 0) h)
answering w (WakeUp m) n y may h = absurd (running_told Wake n y (machine_at w m) (λ e. absurd cc) h)
answering w (GiveCommand m text) n y may h = absurd (running_told (Line text) n y (machine_at w m) (λ e. absurd cc) h)
answering w (GiveLvm m line) n y may h = absurd (running_told (Number line) n y (machine_at w m) (λ e. absurd cc) h)
answering w (GiveAsk m) n y may h = absurd (asking_told n y (machine_at w m) h)
answering w (Sample m c k) n y may h = absurd (nothing_told n y (machine_at w m) h)
answering w (Land m c) n y may h = absurd (nothing_told n y (machine_at w m) h)
answering w (Tear m c k bytes) n y may h = absurd (nothing_told n y (machine_at w m) h)
answering w (AnswerCall m c ok) n y may h =
    let f = answer_flies w m c ok may in
    let p = flying f.machine c f.course f.flight in
    let i : Input = elim ok as (λ z. Input) [ true ↦ ok_input f.course | false ↦ Told c Failed ] in
    let g = given_by w (AnswerCall m c ok) (Told n y) f.machine f.at h in
    let is : i ≡ Told n y =
    some_value i (Told n y)
    (sym (ap (λ o. option_map (λ (x : Course). elim ok as (λ z. Input) [ true ↦ ok_input x | false ↦ Told c Failed ]) o) f.flight) ∙ g) in
    record {
      machine = f.machine;
      course = f.course;
      at = f.at;
      has = p.0;
      number = answer_told c n f.course ok y p.1 is;
      runs = f.holds.1;
    }
answering w (Do m c) n y may h =
    let f = do_flies w m c may in
    let p = flying f.machine c f.course f.flight in
    let g = given_by w (Do m c) (Told n y) f.machine f.at h in
    let is : done_input w f.course ≡ Told n y =
    some_value (done_input w f.course) (Told n y) (sym (ap (λ o. option_map (done_input w) o) f.flight) ∙ g) in
    record {
      machine = f.machine;
      course = f.course;
      at = f.at;
      has = p.0;
      number = op_told f.course.call.number n f.course.call.op _ y is;
      runs = f.holds.1;
    }
answering w (DropWrite m c) n y may h = absurd (nothing_told n y (machine_at w m) h)
answering w (Test m) n y may h = absurd (nothing_told n y (machine_at w m) h)
answering w (ExitOf m p) n y may h = absurd (running_told (Exit p) n y (machine_at w m) (λ e. absurd cc) h)
answering w (SpawnedOf m p ok) n y may h = absurd (running_told (Spawned p ok) n y (machine_at w m) (λ e. absurd cc) h)
answering w (StartDaemon m name) n y may h = absurd (nothing_told n y (machine_at w m) h)
answering w (Crash m) n y may h = absurd (nothing_told n y (machine_at w m) h)
answering w (Reset m) n y may h = absurd (nothing_told n y (machine_at w m) h)
answering w (Restart m) n y may h = absurd (nothing_told n y (machine_at w m) h)

-- ---- it is no other daemon's

every_has : (P : Course → Type 0) (cs : List Course) → ((c : Course) → Contains cs c → P c) → Every P cs
every_has P [] f = tt
every_has P (c ∷ cs) f = (f c (contains_first c cs), every_has P cs (λ x has. f x (contains_more c cs x has)))

follow_has : (cs ds : List Course) (c : Course) → Follow Continues cs ds → Contains cs c → (d : Course) × Contains ds d × Continues c d
follow_has [] ds c f has = absurd (contains_none c has)
follow_has (x ∷ cs) [] c f has = absurd f
follow_has (x ∷ cs) (y ∷ ds) c f has =
    elim (contains_cases x cs c has) as (λ z. (d : Course) × Contains (y ∷ ds) d × Continues c d) [
      | inl e ↦ (y, contains_first y ds, subst (λ k. Continues k y) e f.0)
      | inr more ↦ let r = follow_has cs ds c f.1 more in (r.0, contains_more y ds r.0 r.1, r.2)
    ]

-- A call is there later.
pub goes_has : (cs ds : List Course) (c : Course) → ListGoes Continues cs ds → Contains cs c → (d : Course) × Contains ds d × Continues c d
goes_has cs ds c g has =
    let r = follow_has cs g.older c g.follow has in
    (r.0, subst (λ xs. Contains xs r.0) (sym g.same) (contains_right g.newer g.older r.0 r.1), r.2)

running_number : (a : Machine) (d : Daemon) (c : Course) → a.daemon ≡ Some d → is_of_running a c ≡ true → d.number ≡ c.daemon
running_number a d c runs h = eqb-true d.number c.daemon (sym (ap (λ o. some_is (λ x. x.number == c.daemon) o) runs) ∙ h)

number_is : (n : ℕ) (m : ℕ) → m ≡ n → (m == n) ≡ true
number_is n m h = grind (arith, tests)

-- No call of another daemon's session is answered.
abbrev pub NotAnswered : SessionId → Input → List Course → Type 0
NotAnswered i j cs = (n : ℕ) (y : Answer) → j ≡ Told n y → Every (λ c. is_course_of i c ≡ true → (c.call.number == n) ≡ false) cs

not_answered_by : (i : SessionId) (n : ℕ) (d : Daemon) (a : Machine) (g : Course) → AreDistinct a.calls → Contains a.calls g → g.call.number ≡ n
    → d.number ≡ g.daemon → (d.number == i.daemon) ≡ false → (c : Course) → Contains a.calls c → is_course_of i c ≡ true → (c.call.number == n) ≡ false
not_answered_by i n d a g distinct has is of other c there own =
    is_false (c.call.number == n) (λ t.
    let same : c ≡ g = one_call a.calls c g distinct there has (ap (λ k. c.call.number == k) is ∙ t) in
    let daemon : d.number ≡ i.daemon = of ∙ ap (λ k. k.daemon) (sym same) ∙ of_daemon i c own in
    not_both (d.number == i.daemon) (number_is i.daemon d.number daemon) other)

-- ---- its calls stay

fresh_by : (i : SessionId) (now : Stamp) (number : ℕ) (c : Call) → (number == i.daemon) ≡ false → is_course_of i (new_course now number c) ≡ false
fresh_by i now number c h = ap (λ b. b && c.session == i.number) h

none_own : (i : SessionId) (now : Stamp) (number : ℕ) (calls : List Call) (xs : List Course) → (number == i.daemon) ≡ false
    → Every (IsNewCourse now number calls) xs → filter (is_course_of i) xs ≡ []
none_own i now number calls [] h each = refl
none_own i now number calls (x ∷ xs) h each =
    ap (λ b. cond b (x ∷ filter (is_course_of i) xs) (filter (is_course_of i) xs)) (ap (is_course_of i) each.0.is ∙ fresh_by i now number each.0.call h)
    ∙ none_own i now number calls xs h each.1

closed_calls : (i : SessionId) (now : Stamp) (j : Input) (a : Machine) → NotAnswered i j a.calls
    → filter (is_course_of i) (close_answered now j a).calls ≡ own_courses i a
closed_calls i now (Line text) a free = refl
closed_calls i now (Number text) a free = refl
closed_calls i now (Told n y) a free =
    own_untouched i (λ c. c.call.number == n) (told now (is_ok_answer y)) a.calls (λ c. refl) (free n y refl)
closed_calls i now Wake a free = refl
closed_calls i now (Exit p) a free = refl
closed_calls i now (Spawned p ok) a free = refl

other_calls : (i : SessionId) (now : Stamp) (j : Input) (fx : Effects) (a : Machine) (d : Daemon) → a.daemon ≡ Some d → (d.number == i.daemon) ≡ false
    → NotAnswered i j a.calls → own_courses i (after_step now j fx a) ≡ own_courses i a
other_calls i now j fx a d runs other free =
    let s = step_submits now j fx a d runs in
    ap (λ cs. filter (is_course_of i) cs) s.same ∙ filter-append (is_course_of i) s.newer (close_answered now j a).calls
    ∙ ap (λ cs. cs ++ filter (is_course_of i) (close_answered now j a).calls) (none_own i now d.number fx.calls s.newer other s.each)
    ∙ closed_calls i now j a free

-- ---- they stay

found_other : (w v : World) (path : List ℕ) (offset n : ℕ) (i : SessionId) (a b : Machine) (o p : Option Found) → session_on n i a ≡ o
    → p ≡ option_map (moved b) o → own_courses i b ≡ own_courses i a → is_running i.daemon b ≡ is_running i.daemon a → b.resets ≡ a.resets
    → SameSector w v path offset → SameIf w v path offset i o p
found_other w v path offset n i a b None p at is own runs resets s = subst (λ q. SameIf w v path offset i None q) (sym is) tt
found_other w v path offset n i a b (Some f) p at is own runs resets s =
    subst (λ q. SameIf w v path offset i (Some f) q) (sym is)
    (same_moved n i a b f (is_found n i a f at) own runs resets, record { layout = s.layout; own = λ t u. sector_same w v path offset s i f })

-- Through an entry each session stays but those of the daemon that takes it.
abbrev pub OtherStays : Program → Header → List Happening → Happening → List ℕ → ℕ → SessionId → Type 0
OtherStays p h now x path offset i =
    SameIf (between (world_at p h now) x.0) (after_event p h now x) path offset i (session_of_world (between (world_at p h now) x.0) i)
    (session_of_world (after_event p h now x) i)

-- No call of it is answered.
free_of_answers : StayDistinct → (p : Program) (h : Header) (now : List Happening) (x : Happening) → LawfulRun p h (now ++ x ∷ []) → (e : IsEntry p h now x)
    → (i : SessionId) → (e.daemon.number == i.daemon) ≡ false → NotAnswered i e.input e.machine.calls
free_of_answers distinct p h now x run e i other n y is =
    let last = last_event p h now x run in
    let w : World = world_at p h now in
    let u : World = between w x.0 in
    let g = answering w x.0 n y last.may (e.gives ∙ ap (λ k. Some k) is) in
    let t = first_tracks w x.0 (machine_of x.0) g.machine g.at in
    let same : t.0 ≡ e.machine = one_value t.0 e.machine (machine_at u (machine_of x.0)) t.1 e.at in
    let k = goes_has g.machine.calls t.0.calls g.course t.2.calls g.has in
    let number : k.0.call.number ≡ n = ap (λ c. c.number) k.2.call ∙ g.number in
    let ran : e.daemon.number ≡ g.course.daemon =
    running_number g.machine e.daemon g.course
    (subst (λ a. a.daemon ≡ Some e.daemon) (one_value e.was g.machine (machine_at w (machine_of x.0)) e.was_at g.at) e.ran) g.runs in
    let own : e.daemon.number ≡ k.0.daemon = ran ∙ sym k.2.daemon in
    every_has (λ c. is_course_of i c ≡ true → (c.call.number == n) ≡ false) e.machine.calls
    (not_answered_by i n e.daemon e.machine k.0 (between_distinct distinct p h now x run (machine_of x.0) e.machine e.at)
    (subst (λ a. Contains a.calls k.0) same k.1) number own other)

other_runs : (now : Stamp) (j : Input) (fx : Effects) (a : Machine) (d : Daemon) (i : SessionId) → a.daemon ≡ Some d
    → is_running i.daemon (after_step now j fx a) ≡ is_running i.daemon a
other_runs now j fx a d i runs =
    ap (λ o. some_is (λ x. x.number == i.daemon) o) (step_runs now j fx a d runs) ∙ sym (ap (λ o. some_is (λ x. x.number == i.daemon) o) runs)

other_here : StayDistinct → (p : Program) (h : Header) (now : List Happening) (x : Happening) → LawfulRun p h (now ++ x ∷ []) → (path : List ℕ) (offset : ℕ)
    → SameSector (between (world_at p h now) x.0) (after_event p h now x) path offset → (e : IsEntry p h now x) → (i : SessionId) → i.machine ≡ machine_of x.0
    → (e.daemon.number == i.daemon) ≡ false → OtherStays p h now x path offset i
other_here distinct p h now x run path offset s e i here other =
    let u : World = between (world_at p h now) x.0 in
    let v : World = after_event p h now x in
    let a : Machine = e.machine in
    let stamp : Stamp = stamp_now u a in
    let b : Machine = after_step stamp e.input e.effects a in
    let own = other_calls i stamp e.input e.effects a e.daemon e.runs other (free_of_answers distinct p h now x run e i other) in
    subst (λ o. SameIf u v path offset i o (session_of_world v i)) (sym (found_on u i a (ap (machine_at u) here ∙ e.at)))
    (subst (λ q. SameIf u v path offset i (session_on u.moment i a) q) (sym (found_then u v i b e.moment (ap (machine_at v) here ∙ e.later)))
    (found_other u v path offset u.moment i a b (session_on u.moment i a) (session_on u.moment i b) refl (other_found u.moment stamp e.input e.effects a e.daemon i e.runs other) own
    (other_runs stamp e.input e.effects a e.daemon i e.runs) (step_resets stamp e.input e.effects a) s))

-- A session is of the daemon that takes the entry.
abbrev pub IsOfEntry : {p : Program} {h : Header} {now : List Happening} {x : Happening} → IsEntry p h now x → SessionId → Type 0
IsOfEntry {x = x} e i = (i.machine ≡ machine_of x.0) × ((e.daemon.number == i.daemon) ≡ true)

other_daemon : (i : SessionId) (n m : ℕ) (b : Bool) → i.machine ≡ m → (n == i.daemon) ≡ b → ((i.machine ≡ m) × ((n == i.daemon) ≡ true) → ⊥) → (n == i.daemon) ≡ false
other_daemon i n m true here is other = absurd (other (here, is))
other_daemon i n m false here is other = is

pub other_stays : StayDistinct → (p : Program) (h : Header) (now : List Happening) (x : Happening) → LawfulRun p h (now ++ x ∷ []) → (path : List ℕ) (offset : ℕ)
    → SameSector (between (world_at p h now) x.0) (after_event p h now x) path offset → (e : IsEntry p h now x) → (i : SessionId) → (IsOfEntry e i → ⊥)
    → OtherStays p h now x path offset i
other_stays distinct p h now x run path offset s e i other =
    let u : World = between (world_at p h now) x.0 in
    let v : World = after_event p h now x in
    elim (same_or_apart i.machine (machine_of x.0)) as (λ z. OtherStays p h now x path offset i) [
      | inl here ↦ other_here distinct p h now x run path offset s e i here
          (other_daemon i e.daemon.number (machine_of x.0) (e.daemon.number == i.daemon) here refl other)
      | inr apart ↦ elsewhere_same u v path offset i e.moment (e.elsewhere i.machine apart)
          (λ f at. record { layout = s.layout; own = λ t k. sector_same u v path offset s i f })
    ]

-- So its state stays.
pub other_session_stays : StayDistinct → MachinesMirror → LandingsAreWritten → (p : Program) (h : Header) (now : List Happening) (x : Happening)
    → LawfulRun p h (now ++ x ∷ []) → (path : List ℕ) (offset : ℕ) → (e : IsEntry p h now x) → (n : IdName) → (IsOfEntry e (session_named_so n) → ⊥)
    → session_at (after_event p h now x) path offset n ≡ session_at (between (world_at p h now) x.0) path offset n
other_session_stays distinct mirror written p h now x run path offset e n other =
    session_same_if (between (world_at p h now) x.0) (after_event p h now x) path offset n
    (other_stays distinct p h now x run path offset (step_sector distinct mirror written p h now x run path offset) e (session_named_so n) other)
