-- What the answer of a quiet acquire's call shows.
use Rattle.sl_headline.proofs.Quiet.Events.AreasShowOwn.{areas_show_own}
use Rattle.sl_run_law.proofs.Place.Seats.{sized_in}
use Rattle.sl_headline.proofs.Quiet.Reads.ReadsShowArea.{reads_show_the_area}
use Rattle.sl_headline.specs.Quiet.Events.CourseLeads.{ShowsAt, ShowsBlocks, known_then, mode_of, told_call}
use Rattle.sl_headline.specs.Quiet.Course.CourseOfCalls.{Same, known_with}
use Rattle.sl_trace.specs.declared.input.Input.TheVariants.{Answer as Told}
use Rattle.sl_headline.proofs.Quiet.Leases.CallsStay.{left_alone}
use Rattle.sl_trace.specs.Sightings.{counts_over, evidence_in, look_of, evidence, sightings}
use Rattle.sl_due_facts.proofs.Acts.Pairs.TornPairs.{whole_is_once}
use Rattle.sl_headline.proofs.Quiet.Reads.SameBytes.{stands_for}
use Rattle.sl_sector.specs.declared.sector.PairBlock.{PairBlock}
use Rattle.sl_trace.proofs.PlainReads.{once_plain}
use Rattle.sl_trace.specs.declared.effects.Spot.{Spot}
use Rattle.sl_headline.proofs.Quiet.Step.BeforeInput.{bare_heard}
use Rattle.sl_headline.specs.Quiet.Course.QuietDecisions.{NoneShared, ShowsWhole, all_whole}
use Rattle.sl_due.specs.Steps.{Step, seen}
use Rattle.sl_trace.specs.declared.sighting.Sighting.{Sighting}
use Rattle.sl_trace.specs.declared.session.Session.{Session}
use Rattle.sl_trace.specs.Leases.{LeaseKnown, is_shared_by_other, spot_of}
use Rattle.sl_headline.specs.Quiet.Step.AnswersLeadOn.{IsBare, heard}
use Rattle.sl_sector.specs.declared.sector.Block.{Block}
use Rattle.std.specs.List.{AllByRecursion, cons_option, range_with_len}
use Rattle.sl_run_law.specs.Sample.Samples.{sector_place}
use Rattle.sl_run_law.proofs.Landing.CallLists.{one_call}
use Rattle.sl_run_law.proofs.Landing.LandingLaws.{landings_are_written}
use Rattle.sl_run_law.proofs.Place.Areas.{is_within}
use Rattle.sl_area.specs.AreaLayout.{area_sectors, block_offset, block_sectors, blocks_part, in_area, leader_of, sector_of}
use Rattle.sl_area.specs.Pairs.{later_pair, needs_again, pair_read}
use Rattle.sl_run_law.proofs.Sample.SampleLaws.{done_reads_are_whole}
use Rattle.std.proofs.lemmas.Bool.{cases_lt, eq-eqb, eqb-true}
use Rattle.sl_headline.specs.Quiet.Reads.ReadsShowArea.{GivesBlocks, ReadStands, blocks_there}
use Rattle.sl_area.specs.AreaSizes.{Layout, Sizes}
use Rattle.sl_run_law.proofs.Place.Sizes.{IsSized, sector_has_bytes, slot_below}
use Rattle.sl_trace.specs.declared.effects.Call.{Call}
use Rattle.sl_run.specs.EventChanges.{with_entry}
use Rattle.sl_run.specs.Refusals.{sectors_of}
use Rattle.sl_due_law.proofs.LawfulTraces.TracesHold.{traces_hold}
use Rattle.sl_headline.proofs.Quiet.Events.HeardFacts.{told_is, mine_heard, same_then}
use Rattle.sl_headline.proofs.Quiet.Events.CourseLeads.{told_at}
use Rattle.sl_run_law.proofs.Course.MatchedCall.{stamp_stays}
use Rattle.sl_headline.proofs.Quiet.Events.CourseDecides.{first_is, known_is}
use Rattle.sl_run_law.proofs.Sessions.CallOwners.{session_more}
use Rattle.sl_run_law.proofs.Course.CallsAreDistinct.{running_has, each_distinct}
use Rattle.sl_run_law.proofs.Place.FoundInLists.{partner_of, place_is}
use Rattle.std.specs.Option.{option_or}
use Rattle.sl_run_law.proofs.Sessions.CallsAreMade.{old_stays}
use Rattle.sl_words.proofs.Numbers.{number_itself, at_least_first}
use Rattle.sl_headline.proofs.Quiet.Events.CourseGoesOn.{made_well}
use Rattle.sl_trace.specs.Sessions.{is_active, calls_of, generation_of, is_call_of, is_survey_purpose, joined_after}
use Rattle.sl_run_law.proofs.Front.RunsFromFronts.{fronts_are_lawful}
use Rattle.sl_words.proofs.CaseLaws.{false_is_true, is_false, none_some, one_value, some_value, true_is_false, true_or_false}
use Rattle.sl_run_law.proofs.Course.DaemonsOfWorld.{daemons_are_of_world, last_goes}
use Rattle.sl_run_law.proofs.Course.CoursesAreCalls.{courses_are_calls}
use Rattle.sl_words.proofs.Lists.{contains_map, kept_inside, contains_first, contains_more, head_is, tail_is}
use Rattle.sl_headline.proofs.Quiet.Events.AreaGoesOn.{area_goes_on}
use Rattle.sl_time.specs.Times.{TimingNumbers}
use Rattle.sl_trace.specs.Traces.{Setting, Submitted, Trace, answer_of, answered_in, is_answer_for, is_ok_answer, is_write, record_of, same_place, submitted, Answered, bytes_given, call_numbered}
use Rattle.sl_run.specs.declared.header.ResourceLine.{ResourceLine}
use Rattle.sl_sector.specs.declared.sector.Rec.{Rec}
use Rattle.sl_trace.specs.declared.effects.Op.TheVariants.{ReadSectors, WriteRecord}
use Rattle.sl_trace.specs.LeaseDecisions.{LeasePlace}
use Rattle.sl_run.specs.Safety.{LawfulRun, block_there, pair_there, world_at}
use Rattle.sl_run.specs.Lawful.{IsSetting}
use Rattle.sl_run_law.specs.Course.Mirrors.{IsOfWorld}
use Rattle.sl_due.specs.Due.{IsHostTrace}
use Rattle.sl_headline.specs.Quiet.Events.AreaGoesOn.{IsHeard, IsLineOf, IsWellMade}
use Rattle.sl_run.specs.declared.header.Header.{Header}
use Rattle.sl_trace.specs.declared.input.Answer.TheVariants.{Failed, Read, Written}
use Rattle.sl_trace.specs.declared.effects.Entry.{Entry}
use Rattle.sl_run.specs.Runs.{EachDaemon, Happening}
use Rattle.sl_run.specs.Worlds.{Course, Daemon, Machine, Program, Stamp, World, machine_at, reading_now, Landing}
use Rattle.sl_headline.proofs.Quiet.Events.Calls.{CallThere, call_there, of_the_job}
use Rattle.std.specs.Prelude.{Bool, Contains, IsTrue, List, None, Some, false, length, map, true, ◌==◌, ◌++◌, ◌<◌, ◌+◌, ◌∷◌, ◌≡◌, [], ℕ, not, ◌≤◌, ◌⊎◌, ◌*◌, IsSome, Option, is_some, nat_lt, option_and_then, option_map, ◌&&◌, ◌-◌, zero, suc}
use Rattle.sl_headline.specs.Quiet.Events.CarriedStages.{AreaOnCourse, Asked, DaemonOnCourse, Frees_leader, OnCourse, PairStands, Reads_area, Reads_first, Reads_second, Sets_mode, Stage, Takes_leader, Writes_first, Writes_second, first_of_asked, op_at, second_of_asked, turn_at}
use Rattle.sl_run_law.specs.Course.CallStamps.{AnswersAgree, IsAnsweredAs, IsCourseOf, courses_of, stamp_in}
use Rattle.sl_run.specs.Quiet.{AnsweredInTime, QuietStep, leader_there}
use Rattle.sl_trace.specs.declared.input.Answer.{Answer}
use Rattle.sl_headline.specs.Quiet.Events.AnswersShow.{AnswersShow, heard_entry}
use Rattle.std.proofs.Common.{ap, ap₂, arith, inl, inr, refl, subst, sym, ◌∙◌}

-- ---- the call with its answer

pub told_answer : (past : Trace) (e : Entry) (m : Submitted) (a : Answer) → m.answer ≡ None → (answered_in past e m.call.number a m).answer ≡ Some (answer_of past e a m.call)
told_answer past e m a waits =
    ap (λ b. let z : Submitted = elim b as (λ z. Submitted) [ false ↦ m | true ↦ record m { answer = option_or m.answer (Some (answer_of past e a m.call)) } ] in z.answer) (number_itself m.call.number)
    ∙ ap (λ o. option_or o (Some (answer_of past e a m.call))) waits

pub told_where : (past : Trace) (e : Entry) (n : ℕ) (a : Answer) (m : Submitted) → ((answered_in past e n a m).at ≡ m.at) × ((answered_in past e n a m).reading ≡ m.reading)
told_where past e n a m = by (m.call.number == n) where
  by : (b : Bool) → (let z : Submitted = elim b as (λ z. Submitted) [ false ↦ m | true ↦ record m { answer = option_or m.answer (Some (answer_of past e a m.call)) } ] in (z.at ≡ m.at) × (z.reading ≡ m.reading))
  by true = (refl, refl)
  by false = (refl, refl)

-- An ok answer of a read gives bytes, that of a write none.
of_read : (st : Setting) (a : Answer) (n : ℕ) → is_ok_answer a ≡ true → is_answer_for st a (ReadSectors n) ≡ true → (bytes : List ℕ) × (a ≡ Read bytes)
of_read st (Read bytes) n ok fits = (bytes, refl)
of_read st Written n ok fits = absurd (false_is_true fits)
of_read st Failed n ok fits = absurd (false_is_true ok)

of_write : (st : Setting) (a : Answer) (r : Rec) → is_ok_answer a ≡ true → is_answer_for st a (WriteRecord r) ≡ true → a ≡ Written
of_write st (Read bytes) r ok fits = absurd (false_is_true fits)
of_write st Written r ok fits = refl
of_write st Failed r ok fits = absurd (false_is_true ok)

-- ---- the event

-- What is known of it.
pub record Heard (p : Program) (h : Header) (xs : List Happening) (q : Asked) (stage : Stage) (st : Setting) (past : Trace) (call : Submitted) (e : Entry) (answer : Answer) (b : Machine) (stamp : Stamp) : Type 0 where
  pub well : IsSetting st × IsHostTrace st (e ∷ past)
  pub told_in : Contains (submitted (e ∷ past)) (answered_in past e call.call.number answer call)
  pub ok : is_ok_answer answer ≡ true
  pub timely : e.reading < call.reading + st.timing.io
  pub active : IsTrue (is_active st (e ∷ past) q.session)
  pub fits : is_answer_for st answer (op_at q stage) ≡ true
  pub layout : q.same.place.layout ≡ (world_at p h xs).layout
  pub area : AreaOnCourse (world_at p h xs) q stage call.call.number stamp.step
  pub at : machine_at (world_at p h xs) q.machine ≡ Some b
  pub course : Course
  pub has : Contains b.calls course
  pub call_is : course.call ≡ call.call
  pub made : course.made ≡ stamp
  pub done : course.done ≡ true
  pub gives : (bytes : List ℕ) → answer ≡ Read bytes → bytes ≡ course.sampled

pub heard_so : (p : Program) (h : Header) (now : List Happening) (x : Happening) → LawfulRun p h (now ++ x ∷ []) → EachDaemon IsWellMade (world_at p h (now ++ x ∷ [])) → (q : Asked) (stage : Stage) (line : ResourceLine)
    → IsLineOf h q.resource line → (c : OnCourse (world_at p h now) q stage)
    → QuietStep (world_at p h now) x (world_at p h (now ++ x ∷ [])) q.machine q.job q.resource q.shared q.process q.session.number
    → (k : IsHeard (world_at p h (now ++ x ∷ [])) q c.daemon (c.host).call.call.number)
    → Heard p h (now ++ x ∷ []) q stage (c.daemon).setting (c.daemon).trace (c.host).call (heard_entry (world_at p h (now ++ x ∷ [])) q c.daemon (c.host).call.call.number k) k.answer k.machine c.stamp
heard_so p h now x run well q stage line resource c quiet k =
    record {
      well = made;
      told_in = told_in;
      ok = in_time.0;
      timely = timely;
      active = quiet.active b d q.session k.at k.runs (session_more st e past q.session.number q.session (c.host).session);
      fits = fits;
      layout = place ∙ sym (last_goes p h now x).layout;
      area = area_goes_on p h now x run q stage line resource c.machine c.daemon (c.at).0 (c.at).1 made.0 (made.1.0.1, made.1.1.1) c.asked c.host (c.stamp).step c.area
          (record { others = quiet.calm; runs_on = ((quiet.stays).1, (quiet.stays).2) });
      at = k.at;
      course = f.0;
      has = (kept_inside (λ (y : Course). y.daemon == d.number) b.calls f.0 f.1).0;
      call_is = sym f.2.call ∙ told_is past e n k.answer call;
      made = one_value (f.0).made c.stamp (stamp_in d.stamps told.at) f.2.made (ap (λ i. stamp_in d.stamps i) (told_where past e n k.answer call).0 ∙ stamp_stays k.now (c.daemon).stamps call.at c.stamp c.stamped);
      done = answers.done ∙ in_time.0;
      gives = answers.gives;
    } where
      v : World
      v = world_at p h (now ++ x ∷ [])

      st : Setting
      st = (c.daemon).setting

      past : Trace
      past = (c.daemon).trace

      call : Submitted
      call = (c.host).call

      n : ℕ
      n = call.call.number

      b : Machine
      b = k.machine

      e : Entry
      e = heard_entry v q c.daemon n k

      d : Daemon
      d = with_entry e k.now c.daemon

      told : Submitted
      told = answered_in past e n k.answer call

      made : IsSetting st × IsHostTrace st (e ∷ past)
      made = made_well v q.machine b d well k.at k.runs

      there : CallThere st past q call
      there = call_there st past q stage c.host

      told_in : Contains (submitted (e ∷ past)) told
      told_in = old_stays (length past) e.reading e.effects.calls (map (answered_in past e n k.answer) (submitted past)) told (contains_map (answered_in past e n k.answer) (submitted past) call there.there)

      answer_is : told.answer ≡ Some (answer_of past e k.answer call.call)
      answer_is = told_answer past e call k.answer (c.host).waits

      world : IsOfWorld (world_at p h now) q.machine c.daemon
      world = daemons_are_of_world p h now (fronts_are_lawful p h now (x ∷ []) run) q.machine c.machine c.daemon (c.at).0 (running_has c.machine c.daemon (c.at).1)

      place : q.same.place.layout ≡ (world_at p h now).layout
      place = ap (λ (y : LeasePlace). y.layout) (c.asked).place ∙ world.layout

      in_time : (is_ok_answer k.answer ≡ true) × (e.reading < told.reading + (world_at p h now).header.timing.io)
      in_time =
          subst (λ o. AnsweredInTime (world_at p h now).header.timing.io (reading_now b) told o) answer_is
          (quiet.answers b d told k.at k.runs told_in (of_the_job q stage told (told_at q stage past e n k.answer call (c.host).is)))

      timely : e.reading < call.reading + st.timing.io
      timely =
          subst (λ (t : TimingNumbers). e.reading < call.reading + t.io) (sym world.timing)
          (subst (λ r. e.reading < r + (world_at p h now).header.timing.io) (told_where past e n k.answer call).1 in_time.1)

      fits : is_answer_for st k.answer (op_at q stage) ≡ true
      fits =
          subst (λ o. is_answer_for st k.answer o ≡ true) (told_at q stage past e n k.answer call (c.host).is).op
          ((traces_hold st (e ∷ past) made.0 made.1).whole.facts.calls.fits told (answer_of past e k.answer call.call) told_in answer_is)

      f : (f : Course) × Contains (courses_of b d.number) f × IsCourseOf d f told
      f = partner_of (IsCourseOf d) (courses_of b d.number) (submitted d.trace) told (courses_are_calls p h (now ++ x ∷ []) run q.machine b d k.at (running_has b d k.runs)) told_in

      answers : IsAnsweredAs d f.0 (answer_of past e k.answer call.call)
      answers = subst (λ o. AnswersAgree d f.0 o) answer_is f.2.answers

-- ---- what a read shows

place_in_area : (base s i : ℕ) → base + s * i ≡ base + i * s
place_in_area base s i = grind arith

place_in_blocks : (base s i : ℕ) → base + s * (i + 2) ≡ base + s * (1 + 1) + i * s
place_in_blocks base s i = grind arith

most_of_area : (i n : ℕ) → i < n + 2 → i ≤ n + 2
most_of_area i n h = omega (arith, h)

most_of_blocks : (i n : ℕ) → i < n → i + 2 ≤ n + 2
most_of_blocks i n h = omega (arith, h)

sector_within : {s : Sizes} (g : Layout) (base k : ℕ) → IsSized s g → k ≤ block_sectors g + 2 → IsTrue (in_area g base (base + g.sector * k))
sector_within g base k z most =
    is_within g base (base + g.sector * k) (at_least_first base (g.sector * k)) (slot_below g.sector base k (block_sectors g) g.area (sector_has_bytes g z) most z.blocks)

reads_nothing : (c : Course) (n : ℕ) (r : Rec) → c.call.op ≡ ReadSectors n → record_of c.call.op ≡ Some r → ⊥
reads_nothing c n r reads writes = none_some r (sym (ap (λ o. record_of o) reads) ∙ writes)

-- What landed there since the read was made would be the read's.
none_since : (p : Program) (h : Header) (xs : List Happening) → LawfulRun p h xs → (q : Asked) (stage : Stage) (st : Setting) (past : Trace) (call : Submitted) (e : Entry) (answer : Answer) (b : Machine) (stamp : Stamp)
    → (k : Heard p h xs q stage st past call e answer b stamp) → (n : ℕ) → call.call.op ≡ ReadSectors n → (l : Landing) → Contains (world_at p h xs).landings l → l.path ≡ q.resource.path
    → IsTrue (in_area (world_at p h xs).layout q.resource.offset l.offset) → stamp.step < l.step → ⊥
none_since p h xs run q stage st past call e answer b stamp k n reads l there path inside later =
    let v : World = world_at p h xs in
    let since : l.writer ≡ Some (q.machine, call.call.number) = (k.area).since l there path inside later in
    let w = landings_are_written p h xs run l there in
    let named : (w.machine, w.call) ≡ (q.machine, call.call.number) = some_value (w.machine, w.call) (q.machine, call.call.number) (sym w.named ∙ since) in
    let machine : w.machine ≡ q.machine = ap (λ (y : ℕ × ℕ). y.0) named in
    let number : w.call ≡ call.call.number = ap (λ (y : ℕ × ℕ). y.1) named in
    let same : (w.wrote).machine ≡ b = one_value (w.wrote).machine b (machine_at v q.machine) (subst (λ m. machine_at v m ≡ Some (w.wrote).machine) machine (w.wrote).at) k.at in
    let one : k.course ≡ (w.wrote).course =
    one_call b.calls k.course (w.wrote).course (each_distinct p h xs run q.machine b k.at) k.has (subst (λ (y : Machine). Contains y.calls (w.wrote).course) same (w.wrote).has)
    (ap₂ (λ y z. y == z) (ap (λ (y : Call). y.number) k.call_is) ((w.wrote).number ∙ number) ∙ number_itself call.call.number) in
    reads_nothing k.course n (w.wrote).record_written (ap (λ (y : Call). y.op) k.call_is ∙ reads) (ap (λ (y : Course). record_of y.call.op) one ∙ (w.wrote).writes)

read_stands : (p : Program) (h : Header) (xs : List Happening) → LawfulRun p h xs → (q : Asked) (stage : Stage) (st : Setting) (past : Trace) (call : Submitted) (e : Entry) (answer : Answer) (b : Machine) (stamp : Stamp)
    → (k : Heard p h xs q stage st past call e answer b stamp) → (n : ℕ) → call.call.op ≡ ReadSectors n → call.call.path ≡ q.resource.path
    → ((i : ℕ) → i < n → IsTrue (in_area (world_at p h xs).layout q.resource.offset (sector_place (world_at p h xs) k.course i))) → ReadStands (world_at p h xs) k.course n
read_stands p h xs run q stage st past call e answer b stamp k n reads path within =
    record {
      whole = done_reads_are_whole p h xs run q.machine b k.course k.at k.has k.done (ap (λ o. not (is_write o)) op) ∙ ap (λ o. sectors_of o) op;
      stands = λ i low l there here. by i low l there here (cases_lt (k.course).made.step l.step);
    } where
      v : World
      v = world_at p h xs

      op : (k.course).call.op ≡ ReadSectors n
      op = ap (λ (y : Call). y.op) k.call_is ∙ reads

      by : (i : ℕ) → i < n → (l : Landing) → Contains v.landings l → same_place l.path l.offset (k.course).call.path (sector_place v k.course i) ≡ true → ((k.course).made.step < l.step) ⊎ (l.step ≤ (k.course).made.step)
          → l.step ≤ (k.course).made.step
      by i low l there here (inr early) = early
      by i low l there here (inl later) =
          let its = place_is l.path l.offset (k.course).call.path (sector_place v k.course i) here in
          absurd (none_since p h xs run q stage st past call e answer b stamp k n reads l there (its.0 ∙ (ap (λ (y : Call). y.path) k.call_is ∙ path))
          (subst (λ o. IsTrue (in_area v.layout q.resource.offset o)) (sym its.1) (within i low)) (subst (λ (y : Stamp). y.step < l.step) k.made later))

-- ---- whom the session counts as over, when the answer is seen

not_its : (a b : ℕ) → (a ≡ b → ⊥) → (a == b) ≡ false
not_its a b h = is_false (a == b) (λ is. h (eqb-true a b is))

no_empty : {A : Type 0} (x : A) (xs : List A) → x ∷ xs ≡ [] → ⊥
no_empty x xs is = subst (λ ys. elim ys as (λ z. Type 0) [ [] ↦ ⊥ | y ∷ zs ↦ Unit {0} ]) is tt

least_of : (b : ℕ) → b ≤ b
least_of b = omega arith

first_of_range : (a n : ℕ) → a < a + suc n
first_of_range a n = omega arith

in_range : (a k n : ℕ) → a + 1 ≤ k → k < (a + 1) + n → (a ≤ k) × (k < a + suc n)
in_range a k n low high = (omega (arith, low), omega (arith, high))

unseen : (g : Layout) (id : ℕ) (k : Submitted) → is_survey_purpose k.call.purpose ≡ false → look_of g id k ≡ None
unseen g id k none =
    ap (λ b. elim b as (λ z. Option Sighting) [
      | false ↦ None
      | true ↦ option_and_then (λ (a : Answered). option_map (λ bytes. let y : Sighting = record { before = k.reading; after = a.reading; bytes = sector_of g bytes (id - 1) } in y) (bytes_given a.answer)) k.answer
    ]) none

-- A survey's answer is none of a lease's call, so nothing more is sighted by it.
same_looks : (g : Layout) (id n : ℕ) (past : Trace) (e : Entry) (a : Answer) (ms : List Submitted) → ((m : Submitted) → Contains ms m → m.call.number ≡ n → m.answer ≡ None → is_survey_purpose m.call.purpose ≡ false)
    → sightings g id (map (answered_in past e n a) ms) ≡ sightings g id ms
same_looks g id n past e a [] h = refl
same_looks g id n past e a (m ∷ ms) h =
    ap (λ o. cons_option o (sightings g id (map (answered_in past e n a) ms))) (one (m.call.number == n) refl m.answer refl)
    ∙ ap (λ ss. cons_option (look_of g id m) ss) (same_looks g id n past e a ms (λ k there. h k (contains_more m ms k there))) where
      one : (b : Bool) → (m.call.number == n) ≡ b → (o : Option Answered) → m.answer ≡ o → look_of g id (answered_in past e n a m) ≡ look_of g id m
      one true number None is =
          let none : is_survey_purpose m.call.purpose ≡ false = h m (contains_first m ms) (eqb-true m.call.number n number) is in
          unseen g id (answered_in past e n a m) (ap (λ (k : Call). is_survey_purpose k.purpose) (told_is past e n a m) ∙ none) ∙ sym (unseen g id m none)
      one true number (Some x) is = ap (λ k. look_of g id k) (left_alone past e n a m (λ same none. none_some x (sym none ∙ is)))
      one false number o is = ap (λ k. look_of g id k) (left_alone past e n a m (λ same none. true_is_false (sym (ap (λ k. k == n) same ∙ number_itself n) ∙ number)))

still_over : (a b c d : Bool) → b ≡ false → (elim a as (λ z. Bool) [ true ↦ true | false ↦ b && c && d ]) ≡ true → a ≡ true
still_over true b c d none is = refl
still_over false true c d none is = absurd (true_is_false none)
still_over false false c d none is = is

-- So whom it counted as over by what it had seen, it still does.
pub over_then : (st : Setting) (past : Trace) (now : ℕ) (q : Asked) (stage : Stage) → IsSetting st → IsHostTrace st past → (c : DaemonOnCourse st past q stage) (answer : Answer) (j k : ℕ) → (j ≡ q.session.id → ⊥)
    → counts_over st past q.session j k ≡ true → (same_then st past now q (c.call).call.number answer).over j k ≡ true
over_then st past now q stage setting host c answer j k other is =
    subst (λ g. counts_over g (seen y) s j k ≡ true) (sym bare_y.setting)
    (subst (λ t. counts_over st t s j k ≡ true) (sym seen_is)
    (ap (λ b. elim b as (λ z. Bool) [ true ↦ true | false ↦ j == s.id && nat_lt k (generation_of t s) && is_some (joined_after t s) ])
    (ap (λ ss. is_some (evidence st.timing st.layout j k ss)) looks ∙ still_over (is_some (evidence_in st (calls_of past s) j k)) (j == s.id) (nat_lt k (generation_of past s)) (is_some (joined_after past s)) (not_its j s.id other) is))) where
      s : Session
      s = q.session

      n : ℕ
      n = (c.call).call.number

      y : Step
      y = heard st past now n answer

      bare_y : IsBare st past now y
      bare_y = bare_heard st past now n answer

      e : Entry
      e = record { reading = now; input = Told n answer; effects = y.effects }

      t : Trace
      t = e ∷ past

      seen_is : seen y ≡ t
      seen_is = ap₂ (λ r p. (let z : Entry = record { reading = r; input = Told n answer; effects = y.effects } in z) ∷ p) bare_y.reading bare_y.before

      there : CallThere st past q c.call
      there = call_there st past q stage c

      no_survey : (m : Submitted) → Contains (calls_of past s) m → m.call.number ≡ n → m.answer ≡ None → is_survey_purpose m.call.purpose ≡ false
      no_survey m inside number waits =
          let calls = (traces_hold st past setting host).whole.facts.calls in
          let one : m ≡ c.call =
          one_value m c.call (call_numbered past n) (subst (λ k. call_numbered past k ≡ Some m) number (calls.found m (kept_inside (is_call_of s) (submitted past) m inside).0)) (calls.found c.call there.there) in
          ap (λ (z : Submitted). is_survey_purpose z.call.purpose) one ∙ ap (λ p. is_survey_purpose p) c.is.purpose

      looks : sightings st.layout j (calls_of t s) ≡ sightings st.layout j (calls_of past s)
      looks = ap (λ ms. sightings st.layout j ms) (mine_heard past now n answer y.effects s bare_y.calls) ∙ same_looks st.layout j n past e answer (calls_of past s) no_survey

-- ---- no shared mode stands in the way

each_of : (P : Block → Type 0) (f : ℕ → Option Block) (a n : ℕ) (bs : List Block) → map f (range_with_len a n) ≡ all_whole bs → ((k : ℕ) (b : Block) → a ≤ k → k < a + n → f k ≡ Some b → P b) → AllByRecursion P bs
each_of P f a n [] same each = tt
each_of P f a zero (b ∷ bs) same each = absurd (no_empty (Some b) (all_whole bs) (sym same))
each_of P f a (suc n) (b ∷ bs) same each = (
  each a b (least_of a) (first_of_range a n) (head_is (f a) (Some b) (map f (range_with_len (a + 1) n)) (all_whole bs) same),
  each_of P f (a + 1) n bs (tail_is (f a) (Some b) (map f (range_with_len (a + 1) n)) (all_whole bs) same) (λ k z low high. let r = in_range a k n low high in each k z r.0 r.1),
)

passes_by : (k : LeaseKnown) (b : Block) → ((b.host ≡ k.self.id → ⊥) → b.shared ≡ true → k.over b.host b.mode_gen ≡ true) → is_shared_by_other k b ≡ false
passes_by k b over = by (b.host == k.self.id) refl b.shared refl where
  by : (own : Bool) → (b.host == k.self.id) ≡ own → (shared : Bool) → b.shared ≡ shared
      → (elim (b.host == k.self.id) as (λ z. Bool) [ true ↦ false | false ↦ elim b.shared as (λ z. Bool) [ false ↦ false | true ↦ not (k.over b.host b.mode_gen) ] ]) ≡ false
  by true own shared mode = ap (λ t. elim t as (λ z. Bool) [ true ↦ false | false ↦ elim b.shared as (λ z. Bool) [ false ↦ false | true ↦ not (k.over b.host b.mode_gen) ] ]) own
  by false own false mode =
      ap (λ t. elim t as (λ z. Bool) [ true ↦ false | false ↦ elim b.shared as (λ z. Bool) [ false ↦ false | true ↦ not (k.over b.host b.mode_gen) ] ]) own
      ∙ ap (λ t. elim t as (λ z. Bool) [ false ↦ false | true ↦ not (k.over b.host b.mode_gen) ]) mode
  by false own true mode =
      ap (λ t. elim t as (λ z. Bool) [ true ↦ false | false ↦ elim b.shared as (λ z. Bool) [ false ↦ false | true ↦ not (k.over b.host b.mode_gen) ] ]) own
      ∙ (ap (λ t. elim t as (λ z. Bool) [ false ↦ false | true ↦ not (k.over b.host b.mode_gen) ]) mode
      ∙ ap (λ t. not t) (over (λ same. true_is_false (sym (ap (λ z. z == k.self.id) same ∙ number_itself k.self.id) ∙ own)) mode))

-- ---- what the answer shows

-- A read of the area, or of its blocks, and where it is.
record ReadsThere (w : World) (q : Asked) (call : Submitted) (offset n : ℕ) : Type 0 where
  op : call.call.op ≡ ReadSectors n
  path : call.call.path ≡ q.resource.path
  place : call.call.offset ≡ offset

place_is_at : (w : World) (c : Course) (call : Submitted) (offset i : ℕ) → c.call ≡ call.call → call.call.offset ≡ offset → sector_place w c i ≡ offset + i * w.layout.sector
place_is_at w c call offset i same at = ap (λ o. o + i * w.layout.sector) (ap (λ (y : Call). y.offset) same ∙ at)

area_shown : (p : Program) (h : Header) (xs : List Happening) → LawfulRun p h xs → (q : Asked) (stage : Stage) (st : Setting) (past : Trace) (call : Submitted) (e : Entry) (answer : Answer) (b : Machine) (stamp : Stamp)
    → (k : Heard p h xs q stage st past call e answer b stamp) → ReadsThere (world_at p h xs) q call q.resource.offset (area_sectors (world_at p h xs).layout) → (bytes : List ℕ) → answer ≡ Read bytes
    → (leader_of (world_at p h xs).layout bytes ≡ leader_there (world_at p h xs) (spot_of q.resource)) × GivesBlocks (world_at p h xs) (spot_of q.resource) (blocks_part (world_at p h xs).layout bytes)
area_shown p h xs run q stage st past call e answer b stamp k reads bytes is =
    let v : World = world_at p h xs in
    let within : (i : ℕ) → i < area_sectors v.layout → IsTrue (in_area v.layout q.resource.offset (sector_place v k.course i)) =
    λ i low.
    subst (λ o. IsTrue (in_area v.layout q.resource.offset o)) (sym (place_is_at v k.course call q.resource.offset i k.call_is reads.place ∙ sym (place_in_area q.resource.offset v.layout.sector i)))
    (sector_within v.layout q.resource.offset i (sized_in p h xs run) (most_of_area i (block_sectors v.layout) low)) in
    let shows =
    reads_show_the_area.area p h xs run q.machine b k.course (spot_of q.resource) k.at k.has (ap (λ (y : Call). y.path) k.call_is ∙ reads.path) (ap (λ (y : Call). y.offset) k.call_is ∙ reads.place)
    (read_stands p h xs run q stage st past call e answer b stamp k (area_sectors v.layout) reads.op reads.path within) in
    let sampled : bytes ≡ (k.course).sampled = k.gives bytes is in
    (ap (λ bs. leader_of v.layout bs) sampled ∙ shows.0, subst (λ bs. GivesBlocks v (spot_of q.resource) (blocks_part v.layout bs)) (sym sampled) shows.1)

blocks_shown : (p : Program) (h : Header) (xs : List Happening) → LawfulRun p h xs → (q : Asked) (stage : Stage) (st : Setting) (past : Trace) (call : Submitted) (e : Entry) (answer : Answer) (b : Machine) (stamp : Stamp)
    → (k : Heard p h xs q stage st past call e answer b stamp)
    → ReadsThere (world_at p h xs) q call (block_offset (world_at p h xs).layout q.resource.offset 1) (block_sectors (world_at p h xs).layout) → (bytes : List ℕ) → answer ≡ Read bytes
    → GivesBlocks (world_at p h xs) (spot_of q.resource) bytes
blocks_shown p h xs run q stage st past call e answer b stamp k reads bytes is =
    let v : World = world_at p h xs in
    let at : ℕ = block_offset v.layout q.resource.offset 1 in
    let within : (i : ℕ) → i < block_sectors v.layout → IsTrue (in_area v.layout q.resource.offset (sector_place v k.course i)) =
    λ i low.
    subst (λ o. IsTrue (in_area v.layout q.resource.offset o)) (sym (place_is_at v k.course call at i k.call_is reads.place ∙ sym (place_in_blocks q.resource.offset v.layout.sector i)))
    (sector_within v.layout q.resource.offset (i + 2) (sized_in p h xs run) (most_of_blocks i (block_sectors v.layout) low)) in
    subst (λ bs. GivesBlocks v (spot_of q.resource) bs) (sym (k.gives bytes is))
    (reads_show_the_area.blocks p h xs run q.machine b k.course (spot_of q.resource) k.at k.has (ap (λ (y : Call). y.path) k.call_is ∙ reads.path) (ap (λ (y : Call). y.offset) k.call_is ∙ reads.place)
    (read_stands p h xs run q stage st past call e answer b stamp k (block_sectors v.layout) reads.op reads.path within))

-- ---- the blocks that a read shows

-- Of each host the second sector is whole, and of the own one the turn is this.
record StandsWhole (v : World) (q : Asked) (turn : ℕ) : Type 0 where
  seconds : v.layout.paired ≡ true → (host : ℕ) → 1 ≤ host → host ≤ v.layout.hosts → (host ≡ q.session.id → ⊥) → IsSome (pair_there v (spot_of q.resource) host false)
  own : v.layout.paired ≡ true → PairStands v (spot_of q.resource) q.session.id turn
  host : (1 ≤ q.session.id) × (q.session.id ≤ v.layout.hosts)

made_once : (v : World) (q : Asked) (bytes : List ℕ) (turn : ℕ) → GivesBlocks v (spot_of q.resource) bytes → StandsWhole v q turn → needs_again v.layout bytes ≡ false
made_once v q bytes turn gives whole = by v.layout.paired refl where
  at : Spot
  at = spot_of q.resource

  second : v.layout.paired ≡ true → (id : ℕ) → 1 ≤ id → id ≤ v.layout.hosts → IsSome (pair_there v at id false)
  second paired id low high = which (true_or_false (id == q.session.id)) where
    which : ((id == q.session.id) ≡ true) ⊎ ((id == q.session.id) ≡ false) → IsSome (pair_there v at id false)
    which (inl mine) = subst (λ n. IsSome (pair_there v at n false)) (sym (eqb-true id q.session.id mine)) (whole.own paired).whole
    which (inr other) = whole.seconds paired id low high (λ same. true_is_false (sym (eq-eqb id q.session.id same) ∙ other))

  by : (b : Bool) → v.layout.paired ≡ b → needs_again v.layout bytes ≡ false
  by false plain = once_plain v.layout plain bytes
  by true paired =
      whole_is_once v.layout bytes (λ id low high. ap (λ o. is_some o) ((gives.pairs paired id low high).1) ∙ second paired id low high)

blocks_show : (v : World) (q : Asked) (bytes : List ℕ) (bs : List Block) (turn : ℕ) → q.same.place.layout ≡ v.layout → GivesBlocks v (spot_of q.resource) bytes
    → blocks_there v (spot_of q.resource) ≡ all_whole bs → StandsWhole v q turn → ShowsBlocks q bytes bs turn
blocks_show v q bytes bs turn layout gives same whole = record { shows = subst (λ g. ShowsWhole g bytes bs) (sym layout) shows; pair = λ paired. own (ap (λ (g : Layout). g.paired) (sym layout) ∙ paired) } where
  shows : ShowsWhole v.layout bytes bs
  shows = record { once = made_once v q bytes turn gives whole; whole = gives.blocks ∙ same }

  own : v.layout.paired ≡ true → (p : PairBlock) × (pair_read q.same.place.layout bytes q.session.id ≡ Some p) × (p.turn ≡ turn)
  own paired =
      let p = whole.own paired in
      let both = gives.pairs paired q.session.id whole.host.0 whole.host.1 in
      (p.pair, ap (λ g. pair_read g bytes q.session.id) layout ∙ (ap₂ (λ a b. later_pair a b) both.0 both.1 ∙ p.stands), p.is)

one_below : (a n m : ℕ) → m ≡ n + 1 → a ≤ n → a < m
one_below a n m is low = omega (arith, is, low)

-- Others' blocks are of earlier instances than the leader's next.
all_below : (n m : ℕ) (bs : List Block) → m ≡ n + 1 → AllByRecursion (λ (b : Block). b.lver ≤ n) bs → AllByRecursion (λ (b : Block). b.lver < m) bs
all_below n m [] is low = tt
all_below n m (b ∷ bs) is low = (one_below b.lver n m is low.0, all_below n m bs is low.1)

up_to_last : (k n m : ℕ) → n ≡ m → k < 1 + n → k ≤ m
up_to_last k n m is low = omega (arith, is, low)

none_shared : (p : Program) (h : Header) (now : List Happening) (x : Happening) → LawfulRun p h (now ++ x ∷ []) → (q : Asked) (stage : Stage) → (c : OnCourse (world_at p h now) q stage)
    → QuietStep (world_at p h now) x (world_at p h (now ++ x ∷ [])) q.machine q.job q.resource q.shared q.process q.session.number
    → IsSetting (c.daemon).setting → IsHostTrace (c.daemon).setting (c.daemon).trace → (reading number made : ℕ) (answer : Answer) → AreaOnCourse (world_at p h (now ++ x ∷ [])) q stage number made → (bs : List Block)
    → blocks_there (world_at p h (now ++ x ∷ [])) (spot_of q.resource) ≡ all_whole bs → NoneShared (known_then (c.daemon).setting (c.daemon).trace reading q (c.host).call answer) (mode_of q.shared) bs
none_shared p h now x run q stage c quiet setting host reading number made answer area bs same =
    subst (λ k. NoneShared k (mode_of q.shared) bs) (sym (known_is st past reading q stage setting host c.asked c.host answer)) (by q.shared refl) where
      w : World
      w = world_at p h now

      v : World
      v = world_at p h (now ++ x ∷ [])

      st : Setting
      st = (c.daemon).setting

      past : Trace
      past = (c.daemon).trace

      z : Same
      z = same_then st past reading q (c.host).call.call.number answer

      known : LeaseKnown
      known = known_with z (told_call st past reading (c.host).call answer ∷ ((c.host).older ++ q.before))

      host_trace : IsHostTrace st past
      host_trace = host

      each : q.shared ≡ false → (k : ℕ) (b : Block) → 1 ≤ k → k < 1 + v.layout.hosts → block_there v (spot_of q.resource) k ≡ Some b → is_shared_by_other known b ≡ false
      each alone k b low high is =
          let its : b.host ≡ k = stands_for v (spot_of q.resource) k b is in
          passes_by known b (λ other mode.
          let else : k ≡ q.session.id → ⊥ = λ same_id. other (its ∙ (same_id ∙ sym (c.asked).id)) in
          let most : k ≤ w.layout.hosts = up_to_last k v.layout.hosts w.layout.hosts (ap (λ (g : Layout). g.hosts) (last_goes p h now x).layout) high in
          let there : block_there v (spot_of q.resource) k ≡ Some (q.block_of k) = (area.others k low (up_to_last k v.layout.hosts v.layout.hosts refl high) else).1 in
          let one : b ≡ q.block_of k = some_value b (q.block_of k) (sym is ∙ there) in
          let counts : counts_over st past q.session k (q.block_of k).mode_gen ≡ true =
          quiet.modes alone k (q.block_of k) c.machine c.daemon q.session low most else (c.at).0 (c.at).1 (c.host).session ((c.area).others k low most else).1 (ap (λ (y : Block). y.shared) (sym one) ∙ mode) in
          subst (λ j. z.over j b.mode_gen ≡ true) (sym its)
          (subst (λ (y : Block). z.over k y.mode_gen ≡ true) (sym one) (over_then st past reading q stage setting host_trace c.host answer k (q.block_of k).mode_gen else counts)))

      by : (shared : Bool) → q.shared ≡ shared → NoneShared known (mode_of q.shared) bs
      by true mode = subst (λ m. NoneShared known (mode_of m) bs) (sym mode) tt
      by false mode = subst (λ m. NoneShared known (mode_of m) bs) (sym mode) (each_of (λ b. is_shared_by_other known b ≡ false) (block_there v (spot_of q.resource)) 1 v.layout.hosts bs same (each mode))

-- The read of all blocks.
reads_blocks : (v : World) (q : Asked) (call : Submitted) → q.same.place.layout ≡ v.layout → call.call.op ≡ ReadSectors (block_sectors q.same.place.layout) → call.call.path ≡ q.resource.path
    → call.call.offset ≡ block_offset q.same.place.layout q.resource.offset 1 → ReadsThere v q call (block_offset v.layout q.resource.offset 1) (block_sectors v.layout)
reads_blocks v q call layout op path place =
    record { op = op ∙ ap (λ g. ReadSectors (block_sectors g)) layout; path = path; place = place ∙ ap (λ g. block_offset g q.resource.offset 1) layout }

-- The session is of one of the run's hosts.
host_in : (p : Program) (h : Header) (now : List Happening) (x : Happening) → LawfulRun p h (now ++ x ∷ []) → (q : Asked) (stage : Stage) → (c : OnCourse (world_at p h now) q stage) → (e : Entry) (answer : Answer) (b : Machine)
    → Heard p h (now ++ x ∷ []) q stage (c.daemon).setting (c.daemon).trace (c.host).call e answer b c.stamp → (1 ≤ q.session.id) × (q.session.id ≤ (world_at p h (now ++ x ∷ [])).layout.hosts)
host_in p h now x run q stage c e answer b k =
    subst (λ (g : Layout). (1 ≤ q.session.id) × (q.session.id ≤ g.hosts)) (sym (ap (λ (y : LeasePlace). y.layout) (c.asked).place) ∙ k.layout) (c.asked).host

shows_by : (p : Program) (h : Header) (now : List Happening) (x : Happening) → LawfulRun p h (now ++ x ∷ []) → (q : Asked) (stage : Stage) → (c : OnCourse (world_at p h now) q stage)
    → QuietStep (world_at p h now) x (world_at p h (now ++ x ∷ [])) q.machine q.job q.resource q.shared q.process q.session.number → (e : Entry) (answer : Answer) (b : Machine) → (reading : ℕ)
    → Heard p h (now ++ x ∷ []) q stage (c.daemon).setting (c.daemon).trace (c.host).call e answer b c.stamp → ShowsAt (c.daemon).setting (c.daemon).trace reading q (c.host).call answer stage
shows_by p h now x run q Reads_area c quiet e answer b reading k =
    let v : World = world_at p h (now ++ x ∷ []) in
    let got = of_read (c.daemon).setting answer (area_sectors q.same.place.layout) k.ok k.fits in
    let reads : ReadsThere v q (c.host).call q.resource.offset (area_sectors v.layout) =
    record { op = (c.host).is.op ∙ ap (λ g. ReadSectors (area_sectors g)) k.layout; path = (c.host).is.path; place = (c.host).is.offset } in
    let shown = area_shown p h (now ++ x ∷ []) run q Reads_area (c.daemon).setting (c.daemon).trace (c.host).call e answer b c.stamp k reads got.0 got.1 in (
      got.0,
      got.1,
      ap (λ g. leader_of g got.0) k.layout ∙ (shown.0 ∙ (k.area).leader refl),
      blocks_show v q (blocks_part q.same.place.layout got.0) q.blocks (turn_at q Reads_area) k.layout
          (subst (λ g. GivesBlocks v (spot_of q.resource) (blocks_part g got.0)) (sym k.layout) shown.1) ((k.area).blocks refl)
          (record { seconds = (k.area).seconds; own = (k.area).pair; host = host_in p h now x run q Reads_area c e answer b k }),
    )
shows_by p h now x run q Reads_first c quiet e answer b reading k =
    let v : World = world_at p h (now ++ x ∷ []) in
    let st : Setting = (c.daemon).setting in
    let got = of_read st answer (block_sectors q.same.place.layout) k.ok k.fits in
    let first = first_is st q c.asked in
    let own = areas_show_own v q Reads_first (c.host).call.call.number (c.stamp).step (first_of_asked q) k.area refl (all_below q.leader.lver (first_of_asked q).lver q.blocks first.lver (c.asked).below) in (
      got.0,
      own.0,
      got.1,
      blocks_show v q got.0 own.0 (turn_at q Reads_first) k.layout
          (blocks_shown p h (now ++ x ∷ []) run q Reads_first st (c.daemon).trace (c.host).call e answer b c.stamp k
          (reads_blocks v q (c.host).call k.layout (c.host).is.op (c.host).is.path (c.host).is.offset) got.0 got.1) own.1
          (record { seconds = (k.area).seconds; own = (k.area).pair; host = host_in p h now x run q Reads_first c e answer b k }),
      own.2,
      none_shared p h now x run q Reads_first c quiet k.well.0 (k.well.1.0.1, k.well.1.1.1) reading (c.host).call.call.number (c.stamp).step answer k.area own.0 own.1,
    )
shows_by p h now x run q Reads_second c quiet e answer b reading k =
    let v : World = world_at p h (now ++ x ∷ []) in
    let st : Setting = (c.daemon).setting in
    let got = of_read st answer (block_sectors q.same.place.layout) k.ok k.fits in
    let first = first_is st q c.asked in
    let own = areas_show_own v q Reads_second (c.host).call.call.number (c.stamp).step (second_of_asked q) k.area refl (all_below q.leader.lver (first_of_asked q).lver q.blocks first.lver (c.asked).below) in (
      got.0,
      own.0,
      got.1,
      blocks_show v q got.0 own.0 (turn_at q Reads_second) k.layout
          (blocks_shown p h (now ++ x ∷ []) run q Reads_second st (c.daemon).trace (c.host).call e answer b c.stamp k
          (reads_blocks v q (c.host).call k.layout (c.host).is.op (c.host).is.path (c.host).is.offset) got.0 got.1) own.1
          (record { seconds = (k.area).seconds; own = (k.area).pair; host = host_in p h now x run q Reads_second c e answer b k }),
      own.2,
    )
shows_by p h now x run q Writes_first c quiet e answer b reading k = of_write (c.daemon).setting answer _ k.ok k.fits
shows_by p h now x run q Writes_second c quiet e answer b reading k = of_write (c.daemon).setting answer _ k.ok k.fits
shows_by p h now x run q Takes_leader c quiet e answer b reading k = of_write (c.daemon).setting answer _ k.ok k.fits
shows_by p h now x run q Sets_mode c quiet e answer b reading k = of_write (c.daemon).setting answer _ k.ok k.fits
shows_by p h now x run q Frees_leader c quiet e answer b reading k = of_write (c.daemon).setting answer _ k.ok k.fits

pub answers_show : AnswersShow
answers_show p h now x run well q stage line resource c quiet k =
    let heard_is = heard_so p h now x run well q stage line resource c quiet k in (
      record { input = refl; ok = heard_is.ok; timely = heard_is.timely; active = heard_is.active },
      shows_by p h now x run q stage c quiet (heard_entry (world_at p h (now ++ x ∷ [])) q c.daemon (c.host).call.call.number k) k.answer k.machine (reading_now k.machine) heard_is,
    )
