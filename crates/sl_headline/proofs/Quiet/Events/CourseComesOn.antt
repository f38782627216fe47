-- From an answer a quiet acquire comes to its next stage.
use Rattle.sl_trace.specs.LeaseDecisions.{LeasePlace}
use Rattle.sl_run.specs.EventChanges.{with_entry}
use Rattle.sl_headline.proofs.Quiet.Events.HeardFacts.{told_is}
use Rattle.sl_trace.specs.Leases.{is_leader_of, leader_given, name_sought, spot_of, verified_by}
use Rattle.sl_sector.proofs.PublicLaws.{spelled_is_read}
use Rattle.std.proofs.lemmas.Option.{slice_get_within}
use Rattle.sl_safety.proofs.GivenReads.ShownAtPlace.{plain_place}
use Rattle.sl_ballot_law.proofs.Pairs.StepLaws.{alternate}
use Rattle.sl_headline.proofs.Quiet.Events.TurnAfterCall.{turn_after}
use Rattle.sl_run_law.proofs.Place.MadeLeaders.{later_is, pair_in_is}
use Rattle.sl_run_law.proofs.Place.Seats.{sized_in}
use Rattle.sl_sector.specs.declared.sector.Bad.{Bad}
use Rattle.sl_sector.specs.declared.sector.PairBlock.{PairBlock}
use Rattle.sl_trace.specs.declared.effects.Spot.{Spot}
use Rattle.sl_words.proofs.WordLaws.{and_true, choose_some, same_truth_is}
use Rattle.sl_run_law.proofs.Place.Sizes.{sector_fits}
use Rattle.sl_run_law.proofs.Sessions.SessionNames.{same_name}
use Rattle.sl_area.specs.AreaSizes.{record_in, sector_with, Layout}
use Rattle.sl_run_law.proofs.Front.JoinedLists.{placed_at}
use Rattle.sl_run_law.proofs.Place.FoundInLists.{partner_of, place_is}
use Rattle.sl_run_law.proofs.Landing.CallLists.{one_call}
use Rattle.sl_run_law.proofs.Sessions.CallsAreMade.{old_stays}
use Rattle.sl_words.proofs.Numbers.{number_itself}
use Rattle.sl_words.proofs.CaseLaws.{none_some, one_value, some_value, true_is_false}
use Rattle.sl_run_law.proofs.Front.RunsFromFronts.{fronts_are_lawful}
use Rattle.sl_run_law.proofs.Course.CallsAreDistinct.{each_distinct, running_has}
use Rattle.sl_run_law.proofs.Course.CoursesAreCalls.{courses_are_calls}
use Rattle.sl_words.proofs.Lists.{contains_cases, contains_first, contains_map, contains_more, contains_none, kept_inside}
use Rattle.std.proofs.lemmas.Bool.{cases_lt, eq-eqb}
use Rattle.sl_area.specs.AreaLayout.{block_offset, block_place, blocks_part, in_area, leader_of, pair_offset}
use Rattle.sl_area.specs.AreaRecords.{block_record}
use Rattle.sl_area.specs.Pairs.{later_pair, needs_again}
use Rattle.sl_sector.specs.SectorLayouts.{block_in, is_first_turn, pair_in}
use Rattle.std.proofs.Common.{ap, ap₂, arith, inl, inr, le-ltb, lt-ltb, refl, subst, sym, ◌∙◌}
use Rattle.sl_trace.specs.declared.effects.Op.TheVariants.{WriteRecord}
use Rattle.sl_trace.specs.Traces.{Setting, Submitted, Trace, answer_of, answered_in, bytes_given, is_write, record_of, same_place, submitted, gave}
use Rattle.sl_sector.specs.declared.sector.Rec.{Rec}
use Rattle.sl_run.specs.Safety.{LawfulRun, block_there, pair_there, world_at}
use Rattle.sl_sector.specs.Records.{IsRecord}
use Rattle.sl_headline.specs.Quiet.Events.AreaGoesOn.{IsHeard, IsWellMade}
use Rattle.sl_run.specs.declared.header.Header.{Header}
use Rattle.sl_run_law.specs.Landing.Landings.{HasLanded, HasWriter, LeftBy}
use Rattle.sl_trace.specs.declared.effects.Entry.{Entry}
use Rattle.sl_run.specs.Runs.{EachDaemon, Happening}
use Rattle.sl_run.specs.Worlds.{Course, Daemon, Landing, Machine, Program, Stamp, World, initial_bytes, machine_at, content, reading_now}
use Rattle.sl_headline.proofs.Quiet.Events.Calls.{CallThere, call_there}
use Rattle.sl_trace.specs.declared.effects.Call.{Call}
use Rattle.sl_sector.specs.declared.sector.Rec.TheVariants.{BlockIs, PairIs}
use Rattle.sl_sector.specs.declared.sector.Block.{Block}
use Rattle.sl_headline.specs.Quiet.Events.CarriedStages.{AreaOnCourse, Asked, DaemonOnCourse, Frees_leader, IsAskedOf, OnCourse, OwnPairAt, PairStands, Reads_area, Reads_first, Reads_second, SectorStands, Sets_mode, Stage, Takes_leader, Writes_first, Writes_second, block_at, block_op, first_of_asked, offset_at, op_at, own_at, second_of_asked, stage_next, turn_at}
use Rattle.sl_run_law.specs.Course.CallStamps.{AnswersAgree, IsAnsweredAs, IsCourseOf, courses_of, stamp_in}
use Rattle.sl_trace.specs.declared.input.Answer.{Answer}
use Rattle.std.specs.Prelude.{AllPairs, Bool, Contains, IsSome, IsTrue, List, None, Ok, Option, Result, Some, [], bytes_eq, false, find, if◌then◌else◌, is_some, length, map, not, option_map, slice_get, slice_index_or, suc, true, zero, ℕ, ◌&&◌, ◌++◌, ◌+◌, ◌<◌, ◌==◌, ◌∷◌, ◌≡◌, ◌≤◌, ◌⊎◌}
use Rattle.sl_headline.proofs.Quiet.Events.AnswersShow.{Heard, answers_show, heard_so, told_answer, told_where}
use Rattle.sl_words.specs.Words.{choose, same_truth}
use Rattle.sl_headline.proofs.Quiet.Events.Places.{turn_place, turn_within, turned_back}
use Rattle.sl_headline.proofs.Quiet.Events.CourseDecides.{course_decides, first_is}
use Rattle.sl_headline.proofs.Quiet.Events.CourseLeads.{course_leads, told_gives}
use Rattle.sl_headline.specs.Quiet.Events.CourseLeads.{Hears, ShowsAt, decided_then, decision_at}
use Rattle.sl_headline.specs.Quiet.Events.AnswersShow.{CourseComesOn, heard_entry}
use Rattle.sl_run_law.proofs.Landing.LandingLaws.{done_writes_have_landed, landings_are_written, writes_land_once}
use Rattle.sl_run_law.proofs.Landing.LandingOrder.{come_in_order}
use Rattle.sl_run_law.proofs.Landing.LandedRemain.{landed_are_there}
use Rattle.sl_run_law.proofs.Moment.MachinesInOrder.{machines_ordered}
use Rattle.sl_run_law.proofs.Course.MatchedCall.{newest_stamp, stamp_stays}
use Rattle.sl_run_law.proofs.Place.TracesOnMachines.{digest_is, traced, writes_record}
use Rattle.sl_run_law.proofs.Place.PlaceLaws.{promised}
use Rattle.sl_safety.proofs.Resources.OwnBlocks.{timed_in}
use Rattle.sl_run_law.proofs.Watchdog.Stamps.{same_length}
use Rattle.sl_run_law.proofs.Course.EntriesAreStamped.{entries_are_stamped}
use Rattle.sl_safety.proofs.GivenReads.StandsSinceOk.{there_plain}
use Rattle.sl_headline.proofs.Quiet.Course.GivenArea.{leader_is_given}
use Rattle.sl_run.specs.Lawful.{IsSetting}
use Rattle.sl_trace.specs.declared.effects.Work.TheVariants.{ForJob}
use Rattle.sl_trace.specs.declared.effects.Purpose.TheVariants.{Lease}
use Rattle.sl_trace.specs.declared.effects.LeaseStep.TheVariants.{ReadArea}

-- ---- the newest landing of a place

index_is : (ls : List Landing) (i : ℕ) (d l : Landing) → slice_get ls i ≡ Some l → slice_index_or ls i d ≡ l
index_is [] i d l h = absurd (none_some l h)
index_is (x ∷ ls) zero d l h = some_value x l h
index_is (x ∷ ls) (suc i) d l h = index_is ls i d l h

pairs_head : (R : Landing → Landing → Type 0) (y : Landing) (ls : List Landing) (l : Landing) → AllPairs R (y ∷ ls) → Contains ls l → R y l
pairs_head R y ls l order has =
    let at = placed_at ls l has in
    subst (λ z. R y z) (index_is ls at.0 y l at.1) (order 0 (suc at.0) y (omega arith) (omega (arith, slice_get_within ls at.0 l at.1)))

pairs_tail : (R : Landing → Landing → Type 0) (y : Landing) (ls : List Landing) → AllPairs R (y ∷ ls) → AllPairs R ls
pairs_tail R y ls order i j d lt inside = order (suc i) (suc j) d (omega (arith, lt)) (omega (arith, inside))

later_yet : (made a b : ℕ) → made < a → a < b → made < b
later_yet made a b h k = omega (arith, h, k)

-- Of the landings of a place that came after this step, all of one writer, there is one: the newest.
newest_is : (p : Landing → Bool) (made : ℕ) (ls : List Landing) (l : Landing) → AllPairs (λ (newer older : Landing). (older.step < newer.step) × (older.moment ≤ newer.moment)) ls
    → AllPairs (λ (x y : Landing). x.writer ≡ y.writer → ⊥) ls → Contains ls l → p l ≡ true → made < l.step → ((k : Landing) → Contains ls k → p k ≡ true → made < k.step → k.writer ≡ l.writer) → find p ls ≡ Some l
newest_is p made [] l order once there is late each = absurd (contains_none l there)
newest_is p made (x ∷ ls) l order once there is late each =
    by (p x) refl (contains_cases x ls l there) (λ more. newest_is p made ls l (pairs_tail (λ (newer older : Landing). (older.step < newer.step) × (older.moment ≤ newer.moment)) x ls order) (pairs_tail (λ (x y : Landing). x.writer ≡ y.writer → ⊥) x ls once) more is late
    (λ k has at after. each k (contains_more x ls k has) at after)) where
      by : (t : Bool) → p x ≡ t → (x ≡ l) ⊎ Contains ls l → (Contains ls l → find p ls ≡ Some l) → find p (x ∷ ls) ≡ Some l
      by true at (inl same) rest = ap (λ b. if b then Some x else find p ls) at ∙ ap (λ y. Some y) same
      by true at (inr more) rest =
          absurd (pairs_head (λ (x y : Landing). x.writer ≡ y.writer → ⊥) x ls l once more
          (each x (contains_first x ls) at (later_yet made l.step x.step late (pairs_head (λ (newer older : Landing). (older.step < newer.step) × (older.moment ≤ newer.moment)) x ls l order more).0)))
      by false other (inl same) rest = absurd (true_is_false (sym (ap (λ y. p y) same ∙ is) ∙ other))
      by false other (inr more) rest = ap (λ b. if b then Some x else find p ls) other ∙ rest more

-- ---- what was written stands there

left_whole : (w : World) (l : Landing) (c : Course) (r : Rec) → LeftBy w l c r → l.whole ≡ true → l.bytes ≡ sector_with w.layout r
left_whole w l c r (inl left) whole = left.2
left_whole w l c r (inr torn) whole = absurd (true_is_false (sym whole ∙ torn.0))

same_there : (l : Landing) (path : List ℕ) (o : ℕ) → path ≡ l.path → o ≡ l.offset → same_place l.path l.offset path o ≡ true
same_there l path o is at =
    subst (λ y. same_place l.path l.offset y o ≡ true) (sym is)
    (subst (λ n. same_place l.path l.offset l.path n ≡ true) (sym at)
    (ap (λ t. t && bytes_eq l.path l.path) (number_itself l.offset) ∙ same_name l.path))

written_stands : (p : Program) (h : Header) (xs : List Happening) → LawfulRun p h xs → (q : Asked) (stage : Stage) (st : Setting) (past : Trace) (call : Submitted) (e : Entry) (answer : Answer) (b : Machine) (stamp : Stamp)
    → (k : Heard p h xs q stage st past call e answer b stamp) → (r : Rec) (o : ℕ) → call.call.op ≡ WriteRecord r → call.call.path ≡ q.resource.path → call.call.offset ≡ o
    → IsTrue (in_area (world_at p h xs).layout q.resource.offset o) → record_in (world_at p h xs).layout (content (world_at p h xs) q.resource.path o) ≡ Ok r
written_stands p h xs run q stage st past call e answer b stamp k r o writes path place inside =
    ap (λ bs. record_in v.layout bs) (content_is ∙ bytes_are)
    ∙ spelled_is_read v.layout.digest (digest_is p h xs run) v.layout.sector (sector_fits v.layout (sized_in p h xs run)) r is_record where
      v : World
      v = world_at p h xs

      course_op : (k.course).call.op ≡ WriteRecord r
      course_op = ap (λ (y : Call). y.op) k.call_is ∙ writes

      has_landed : HasLanded v q.machine k.course
      has_landed = landed_are_there p h xs run q.machine b k.course k.at k.has (done_writes_have_landed p h xs run q.machine b k.course k.at k.has k.done (ap (λ o. is_write o) course_op))

      l : Landing
      l = has_landed.0

      w : HasWriter v l
      w = landings_are_written p h xs run l has_landed.1

      named : ◌≡◌ {A = ℕ × ℕ} (w.machine, w.call) (q.machine, (k.course).call.number)
      named = some_value (w.machine, w.call) (q.machine, (k.course).call.number) (sym w.named ∙ has_landed.2)

      same : (w.wrote).machine ≡ b
      same = one_value (w.wrote).machine b (machine_at v q.machine) (subst (λ m. machine_at v m ≡ Some (w.wrote).machine) (ap (λ (y : ℕ × ℕ). y.0) named) (w.wrote).at) k.at

      one : k.course ≡ (w.wrote).course
      one =
          one_call b.calls k.course (w.wrote).course (each_distinct p h xs run q.machine b k.at) k.has (subst (λ (y : Machine). Contains y.calls (w.wrote).course) same (w.wrote).has)
          (ap (λ n. (k.course).call.number == n) ((w.wrote).number ∙ ap (λ (y : ℕ × ℕ). y.1) named) ∙ number_itself (k.course).call.number)

      record_is : (w.wrote).record_written ≡ r
      record_is = sym (some_value r (w.wrote).record_written (sym (ap (λ o. record_of o) course_op) ∙ (ap (λ (c : Course). record_of c.call.op) one ∙ (w.wrote).writes)))

      bytes_are : l.bytes ≡ sector_with v.layout r
      bytes_are = left_whole v l (w.wrote).course (w.wrote).record_written (w.wrote).left has_landed.3 ∙ ap (λ y. sector_with v.layout y) record_is

      path_is : q.resource.path ≡ l.path
      path_is = sym path ∙ (ap (λ (y : Call). y.path) (sym k.call_is) ∙ (ap (λ (c : Course). c.call.path) one ∙ ((w.wrote).place).0))

      offset_is : o ≡ l.offset
      offset_is = sym place ∙ (ap (λ (y : Call). y.offset) (sym k.call_is) ∙ (ap (λ (c : Course). c.call.offset) one ∙ ((w.wrote).place).1))

      late : stamp.step < l.step
      late = subst (λ (s : Stamp). s.step < l.step) k.made (subst (λ (c : Course). c.made.step < l.step) (sym one) ((w.wrote).after).0)

      each : (x : Landing) → Contains v.landings x → same_place x.path x.offset q.resource.path o ≡ true → stamp.step < x.step → x.writer ≡ l.writer
      each x there is after =
          let its = place_is x.path x.offset q.resource.path o is in
          (k.area).since x there its.0 (subst (λ n. in_area v.layout q.resource.offset n ≡ true) (sym its.1) inside) after
          ∙ (ap (λ (y : Call). Some (q.machine, y.number)) (sym k.call_is) ∙ sym has_landed.2)

      content_is : content v q.resource.path o ≡ l.bytes
      content_is =
          ap (λ y. elim y as (λ z. List ℕ) [ Some k ↦ k.bytes | None ↦ initial_bytes v.layout v.header q.resource.path o ])
          (newest_is (λ (x : Landing). same_place x.path x.offset q.resource.path o) stamp.step v.landings l (come_in_order p h xs run) (writes_land_once p h xs run) has_landed.1 (same_there l q.resource.path o path_is offset_is) late each)

      is_record : IsRecord r
      is_record =
          let t = traced promised p h xs run q.machine b k.course k.at k.has in
          writes_record (t.daemon).setting (t.daemon).trace t.submitted_as r t.lawful t.inside (ap (λ (c : Call). record_of c.op) t.is.call ∙ ap (λ o. record_of o) course_op)

-- ---- the block that was written

-- A block of this turn stands in its place.
record Stands (v : World) (q : Asked) (turn : ℕ) (b : Block) : Type 0 where
  single : v.layout.paired ≡ false → block_there v (spot_of q.resource) q.session.id ≡ Some b
  double : v.layout.paired ≡ true → (p : PairBlock) × (pair_there v (spot_of q.resource) q.session.id (is_first_turn turn) ≡ Some p) × (p.turn ≡ turn) × (p.block ≡ b)

stands_by : (v : World) (q : Asked) (turn : ℕ) (space name : List ℕ) (b : Block) → b.host ≡ q.session.id
    → record_in v.layout (content v q.resource.path (block_place v.layout q.resource.offset q.session.id turn)) ≡ Ok (block_record v.layout turn space name b) → Stands v q turn b
stands_by v q turn space name b host spells = record { single = single; double = double } where
  id : ℕ
  id = q.session.id

  at : ℕ → Result Rec Bad
  at o = record_in v.layout (content v q.resource.path o)

  pair : PairBlock
  pair = record { block = b; turn = turn; lockspace = space; resource = name }

  of_kind : Bool → Rec
  of_kind t = elim t [ false ↦ BlockIs b | true ↦ PairIs pair ]

  itself : (t : Bool) → same_truth t t ≡ true
  itself true = refl
  itself false = refl

  single : v.layout.paired ≡ false → block_there v (spot_of q.resource) id ≡ Some b
  single plain =
      there_plain v plain (spot_of q.resource) id
      ∙ (ap (λ o. block_in id (at o)) (sym (plain_place v.layout plain q.resource.offset id turn))
      ∙ (ap (λ y. block_in id y) (spells ∙ ap (λ t. let y : Result Rec Bad = Ok (of_kind t) in y) plain) ∙ ap (λ t. choose t b) (eq-eqb b.host id host)))

  double : v.layout.paired ≡ true → (p : PairBlock) × (pair_there v (spot_of q.resource) id (is_first_turn turn) ≡ Some p) × (p.turn ≡ turn) × (p.block ≡ b)
  double paired = (
    pair,
    ap (λ o. pair_in id (is_first_turn turn) (at o)) (sym (turn_place v.layout paired q.resource.offset id turn))
        ∙ (ap (λ y. pair_in id (is_first_turn turn) y) (spells ∙ ap (λ t. let y : Result Rec Bad = Ok (of_kind t) in y) paired)
        ∙ (ap (λ t. choose (t && same_truth (is_first_turn turn) (is_first_turn turn)) pair) (eq-eqb b.host id host) ∙ ap (λ t. choose t pair) (itself (is_first_turn turn)))),
    refl,
    refl,
  )

-- The later of two sectors whose turns follow one another.
later_turn : (first : Bool) (w : World) (at : Spot) (id : ℕ) (new old : PairBlock) → pair_there w at id first ≡ Some new → pair_there w at id (not first) ≡ Some old → new.turn ≡ old.turn + 1
    → (later_pair (pair_there w at id true) (pair_there w at id false) ≡ Some new) × IsSome (pair_there w at id false)
later_turn true w at id new old one two turn = (
  ap₂ (λ a b. later_pair a b) one two ∙ ap (λ t. if t then Some new else Some old) (lt-ltb old.turn new.turn (omega (arith, turn))),
  ap (λ o. is_some o) two,
)
later_turn false w at id new old one two turn = (
  ap₂ (λ a b. later_pair a b) two one ∙ ap (λ t. if t then Some old else Some new) (le-ltb new.turn old.turn (omega (arith, turn))),
  ap (λ o. is_some o) one,
)

-- A block of the next turn beside one of this turn is the pair's.
record Follows (v : World) (q : Asked) (turn : ℕ) (b : Block) : Type 0 where
  pair : PairStands v (spot_of q.resource) q.session.id turn
  block : (pair.pair).block ≡ b

follows : (v : World) (q : Asked) (turn : ℕ) (b : Block) → v.layout.paired ≡ true → SectorStands v (spot_of q.resource) q.session.id turn → Stands v q (turn + 1) b → Follows v q (turn + 1) b
follows v q turn b paired old new =
    let n = new.double paired in
    let other : pair_there v (spot_of q.resource) q.session.id (not (is_first_turn (turn + 1))) ≡ Some old.pair =
    ap (λ t. pair_there v (spot_of q.resource) q.session.id t) (turned_back (is_first_turn (turn + 1)) (is_first_turn turn) (alternate turn)) ∙ old.stands in
    let later = later_turn (is_first_turn (turn + 1)) v (spot_of q.resource) q.session.id n.0 old.pair n.1 other (n.2 ∙ ap (λ t. t + 1) (sym old.is)) in
    record { pair = record { pair = n.0; stands = later.0; is = n.2; whole = later.1 }; block = n.3 }

-- It stands there, of either kind.
own_stands : (v : World) (q : Asked) (turn : ℕ) (b : Block) → (v.layout.paired ≡ true → SectorStands v (spot_of q.resource) q.session.id turn) → Stands v q (turn + 1) b
    → block_there v (spot_of q.resource) q.session.id ≡ Some b
own_stands v q turn b old new = by v.layout.paired refl where
  by : (t : Bool) → v.layout.paired ≡ t → block_there v (spot_of q.resource) q.session.id ≡ Some b
  by false plain = new.single plain
  by true paired =
      let f = follows v q turn b paired (old paired) new in
      ap (λ t. elim t as (λ z. Option Block) [
        | false ↦ block_in q.session.id (record_in v.layout (content v q.resource.path (block_offset v.layout q.resource.offset q.session.id)))
        | true ↦ option_map (λ (p : PairBlock). p.block) (later_pair (pair_there v (spot_of q.resource) q.session.id true) (pair_there v (spot_of q.resource) q.session.id false))
      ]) paired
      ∙ (ap (λ o. option_map (λ (p : PairBlock). p.block) o) (f.pair).stands ∙ ap (λ y. Some y) f.block)

-- ---- nothing landed since the answer

-- The call that is answered, as its machine has it.
record Ends (v : World) (q : Asked) (call : Submitted) (made now : Stamp) (b : Machine) : Type 0 where
  course : Course
  has : Contains b.calls course
  call_is : course.call ≡ call.call
  made_at : course.made ≡ made
  answered : course.answered ≡ Some now

stamps_long : (p : Program) (h : Header) (now : List Happening) (x : Happening) → LawfulRun p h (now ++ x ∷ []) → (q : Asked) (stage : Stage) → (c : OnCourse (world_at p h now) q stage)
    → length (c.daemon).trace ≡ length (c.daemon).stamps
stamps_long p h now x run q stage c =
    sym (same_length (c.daemon).stamps (c.daemon).trace
    (entries_are_stamped p h now (fronts_are_lawful p h now (x ∷ []) run) q.machine c.machine c.daemon (c.at).0 (running_has c.machine c.daemon (c.at).1)))

ends_so : (p : Program) (h : Header) (now : List Happening) (x : Happening) → LawfulRun p h (now ++ x ∷ []) → EachDaemon IsWellMade (world_at p h (now ++ x ∷ [])) → (q : Asked) (stage : Stage) → (c : OnCourse (world_at p h now) q stage)
    → (k : IsHeard (world_at p h (now ++ x ∷ [])) q c.daemon (c.host).call.call.number) → Ends (world_at p h (now ++ x ∷ [])) q (c.host).call c.stamp k.now k.machine
ends_so p h now x run well q stage c k =
    record {
      course = f.0;
      has = (kept_inside (λ (y : Course). y.daemon == d.number) b.calls f.0 f.1).0;
      call_is = sym f.2.call ∙ told_is past e n k.answer call;
      made_at = one_value (f.0).made c.stamp (stamp_in d.stamps told.at) f.2.made (ap (λ i. stamp_in d.stamps i) (told_where past e n k.answer call).0 ∙ stamp_stays k.now (c.daemon).stamps call.at c.stamp c.stamped);
      answered = answers.answered ∙ ap (λ s. Some s) (one_value answers.stamp k.now (stamp_in d.stamps (length past)) answers.entry (newest_stamp k.now (c.daemon).stamps (length past) (stamps_long p h now x run q stage c)));
    } where
      st : Setting
      st = (c.daemon).setting

      past : Trace
      past = (c.daemon).trace

      call : Submitted
      call = (c.host).call

      n : ℕ
      n = call.call.number

      b : Machine
      b = k.machine

      e : Entry
      e = heard_entry (world_at p h (now ++ x ∷ [])) q c.daemon n k

      d : Daemon
      d = with_entry e k.now c.daemon

      told : Submitted
      told = answered_in past e n k.answer call

      there : CallThere st past q call
      there = call_there st past q stage c.host

      told_in : Contains (submitted (e ∷ past)) told
      told_in = old_stays (length past) e.reading e.effects.calls (map (answered_in past e n k.answer) (submitted past)) told (contains_map (answered_in past e n k.answer) (submitted past) call there.there)

      answer_is : told.answer ≡ Some (answer_of past e k.answer call.call)
      answer_is = told_answer past e call k.answer (c.host).waits

      f : (f : Course) × Contains (courses_of b d.number) f × IsCourseOf d f told
      f = partner_of (IsCourseOf d) (courses_of b d.number) (submitted d.trace) told (courses_are_calls p h (now ++ x ∷ []) run q.machine b d k.at (running_has b d k.runs)) told_in

      answers : IsAnsweredAs d f.0 (answer_of past e k.answer call.call)
      answers = subst (λ o. AnswersAgree d f.0 o) answer_is f.2.answers

impossible : (made late now : ℕ) → late ≤ made → made < now → now < late → ⊥
impossible made late now a b c = omega (arith, a, b, c)

turned : (a b : ℕ) → a < b → b < a → ⊥
turned a b h k = omega (arith, h, k)

none_later : (p : Program) (h : Header) (xs : List Happening) → LawfulRun p h xs → (q : Asked) (stage : Stage) (call : Submitted) (made now : Stamp) (b : Machine) → machine_at (world_at p h xs) q.machine ≡ Some b
    → Ends (world_at p h xs) q call made now b → AreaOnCourse (world_at p h xs) q stage call.call.number made.step → (l : Landing) → Contains (world_at p h xs).landings l → l.path ≡ q.resource.path
    → IsTrue (in_area (world_at p h xs).layout q.resource.offset l.offset) → now.step < l.step → ⊥
none_later p h xs run q stage call made now b at k area l there path inside later = by (cases_lt made.step l.step) where
  v : World
  v = world_at p h xs

  by : (made.step < l.step) ⊎ (l.step ≤ made.step) → ⊥
  by (inl after) =
      let since : l.writer ≡ Some (q.machine, call.call.number) = area.since l there path inside after in
      let w = landings_are_written p h xs run l there in
      let named : (w.machine, w.call) ≡ (q.machine, call.call.number) = some_value (w.machine, w.call) (q.machine, call.call.number) (sym w.named ∙ since) in
      let same : (w.wrote).machine ≡ b = one_value (w.wrote).machine b (machine_at v q.machine) (subst (λ m. machine_at v m ≡ Some (w.wrote).machine) (ap (λ (y : ℕ × ℕ). y.0) named) (w.wrote).at) at in
      let one : k.course ≡ (w.wrote).course =
      one_call b.calls k.course (w.wrote).course (each_distinct p h xs run q.machine b at) k.has (subst (λ (y : Machine). Contains y.calls (w.wrote).course) same (w.wrote).has)
      (ap₂ (λ y z. y == z) (ap (λ (y : Call). y.number) k.call_is) ((w.wrote).number ∙ ap (λ (y : ℕ × ℕ). y.1) named) ∙ number_itself call.call.number) in
      turned l.step now.step ((w.wrote).before now (ap (λ (c : Course). c.answered) (sym one) ∙ k.answered)).0 later
  by (inr early) =
      let timed = timed_in v.step b.calls k.course (machines_ordered p h xs run q.machine b at).calls k.has in
      impossible made.step l.step now.step early (subst (λ (s : Stamp). s.step < now.step) k.made_at (timed.answered now k.answered)) later

-- ---- the next stage

later_stage : (shared : Bool) (stage next : Stage) → stage_next shared stage ≡ Some next → next ≡ Reads_area → ⊥
later_stage shared stage next is at = area_last (subst (λ s. stage_next shared stage ≡ Some s) at is) where
  is_area : Option Stage → Bool
  is_area (Some Reads_area) = true
  is_area o = false

  none : (b : Bool) (s : Stage) → is_area (stage_next b s) ≡ false
  none true Reads_area = refl
  none true Writes_first = refl
  none true Reads_first = refl
  none true Writes_second = refl
  none true Reads_second = refl
  none true Takes_leader = refl
  none true Sets_mode = refl
  none true Frees_leader = refl
  none false Reads_area = refl
  none false Writes_first = refl
  none false Reads_first = refl
  none false Writes_second = refl
  none false Reads_second = refl
  none false Takes_leader = refl
  none false Sets_mode = refl
  none false Frees_leader = refl

  area_last : stage_next shared stage ≡ Some Reads_area → ⊥
  area_last same = true_is_false (sym (ap (λ o. is_area o) same) ∙ none shared stage)

-- A block is looked for only behind its write.
record Looks (v : World) (q : Asked) (stage : Stage) (b : Block) : Type 0 where
  op : op_at q stage ≡ block_op q stage b
  place : offset_at q stage ≡ block_at q stage
  block : (b ≡ first_of_asked q) ⊎ (b ≡ second_of_asked q)
  before : OwnPairAt v q stage → SectorStands v (spot_of q.resource) q.session.id (turn_at q stage)

looks_behind : (v : World) (q : Asked) (shared : Bool) (stage next : Stage) (b : Block) → stage_next shared stage ≡ Some next → own_at q next ≡ Some b → Looks v q stage b
looks_behind v q shared Reads_area next b is own = absurd (none_some b (ap (λ s. own_at q s) (some_value Writes_first next is) ∙ own))
looks_behind v q shared Writes_first next b is own =
    let one : first_of_asked q ≡ b = some_value (first_of_asked q) b (ap (λ s. own_at q s) (some_value Reads_first next is) ∙ own) in
    record { op = ap (λ y. block_op q Writes_first y) one; place = refl; block = inl (sym one); before = λ was. was }
looks_behind v q shared Reads_first next b is own = absurd (none_some b (ap (λ s. own_at q s) (some_value Writes_second next is) ∙ own))
looks_behind v q shared Writes_second next b is own =
    let one : second_of_asked q ≡ b = some_value (second_of_asked q) b (ap (λ s. own_at q s) (some_value Reads_second next is) ∙ own) in
    record { op = ap (λ y. block_op q Writes_second y) one; place = refl; block = inr (sym one); before = λ was. was }
looks_behind v q shared Reads_second next b is own = absurd (none_some b (ap (λ s. own_at q s) (some_value Takes_leader next is) ∙ own))
looks_behind v q true Takes_leader next b is own = absurd (none_some b (ap (λ s. own_at q s) (some_value Sets_mode next is) ∙ own))
looks_behind v q false Takes_leader next b is own = absurd (none_some next is)
looks_behind v q true Sets_mode next b is own = absurd (none_some b (ap (λ s. own_at q s) (some_value Frees_leader next is) ∙ own))
looks_behind v q false Sets_mode next b is own = absurd (none_some b (ap (λ s. own_at q s) (some_value Frees_leader next is) ∙ own))
looks_behind v q true Frees_leader next b is own = absurd (none_some next is)
looks_behind v q false Frees_leader next b is own = absurd (none_some next is)

-- What a read has found of the own pair leaves the sector of its turn.
side_of : (host : ℕ) (first : Bool) (r : Result Rec Bad) (p : PairBlock) → pair_in host first r ≡ Some p → is_first_turn p.turn ≡ first
side_of host first r p is =
    let spelled : pair_in host first (Ok (PairIs p)) ≡ Some p = subst (λ y. pair_in host first y ≡ Some p) (pair_in_is host first r p is) is in
    same_truth_is (is_first_turn p.turn) first
    (and_true (p.block.host == host) (same_truth (is_first_turn p.turn) first) (choose_some (p.block.host == host && same_truth (is_first_turn p.turn) first) p p spelled).0).1

sector_left : (v : World) (at : Spot) (id turn : ℕ) → PairStands v at id turn → SectorStands v at id turn
sector_left v at id turn s = by (later_is (pair_there v at id true) (pair_there v at id false) s.pair s.stands) where
  there : (first : Bool) → pair_there v at id first ≡ Some s.pair → SectorStands v at id turn
  there first is =
      let side : is_first_turn turn ≡ first = ap (λ t. is_first_turn t) (sym s.is) ∙ side_of id first (record_in v.layout (content v at.path (pair_offset v.layout at.base id first))) s.pair is in
      record { pair = s.pair; stands = ap (λ t. pair_there v at id t) side ∙ is; is = s.is }

  by : (pair_there v at id true ≡ Some s.pair) ⊎ (pair_there v at id false ≡ Some s.pair) → SectorStands v at id turn
  by (inl one) = there true one
  by (inr two) = there false two

-- What the own pair has at the next stage.
pair_next : (v : World) (q : Asked) (shared : Bool) (stage next : Stage) → stage_next shared stage ≡ Some next → OwnPairAt v q stage
    → ((b : Block) → op_at q stage ≡ block_op q stage b → offset_at q stage ≡ block_at q stage → (b ≡ first_of_asked q) ⊎ (b ≡ second_of_asked q)
    → SectorStands v (spot_of q.resource) q.session.id (turn_at q stage) → PairStands v (spot_of q.resource) q.session.id (turn_at q stage + 1)) → OwnPairAt v q next
pair_next v q shared Reads_area next is was wrote = subst (λ s. OwnPairAt v q s) (some_value Writes_first next is) (sector_left v (spot_of q.resource) q.session.id (turn_at q Reads_area) was)
pair_next v q shared Writes_first next is was wrote = subst (λ s. OwnPairAt v q s) (some_value Reads_first next is) (wrote (first_of_asked q) refl refl (inl refl) was)
pair_next v q shared Reads_first next is was wrote = subst (λ s. OwnPairAt v q s) (some_value Writes_second next is) (sector_left v (spot_of q.resource) q.session.id (turn_at q Reads_first) was)
pair_next v q shared Writes_second next is was wrote = subst (λ s. OwnPairAt v q s) (some_value Reads_second next is) (wrote (second_of_asked q) refl refl (inr refl) was)
pair_next v q shared Reads_second next is was wrote = subst (λ s. OwnPairAt v q s) (some_value Takes_leader next is) tt
pair_next v q true Takes_leader next is was wrote = subst (λ s. OwnPairAt v q s) (some_value Sets_mode next is) tt
pair_next v q false Takes_leader next is was wrote = absurd (none_some next is)
pair_next v q shared Sets_mode next is was wrote = subst (λ s. OwnPairAt v q s) (some_value Frees_leader next is) tt
pair_next v q shared Frees_leader next is was wrote = absurd (none_some next is)

host_of : (st : Setting) (q : Asked) (b : Block) → IsAskedOf st q → (b ≡ first_of_asked q) ⊎ (b ≡ second_of_asked q) → b.host ≡ q.session.id
host_of st q b asked (inl is) = ap (λ (y : Block). y.host) is ∙ ((first_is st q asked).host ∙ asked.id)
host_of st q b asked (inr is) = ap (λ (y : Block). y.host) is ∙ ((first_is st q asked).host ∙ asked.id)

-- The read of the area verifies the name.
names_there : (st : Setting) (past : Trace) (q : Asked) (e : Entry) (c : DaemonOnCourse st past q Reads_area) (answer : Answer) (reading : ℕ) → IsSetting st → IsAskedOf st q
    → ShowsAt st past reading q c.call answer Reads_area → verified_by st.layout q.session.lockspace (answered_in past e (c.call).call.number answer c.call) (c.older ++ q.before) ≡ Some q.resource.name
names_there st past q e c answer reading setting asked (bytes, is, leader, shows) =
    ap (λ o. elim o as (λ z. Option (List ℕ)) [
      | None ↦ None
      | Some name ↦ elim (leader_given st.layout told before) as (λ z. Option (List ℕ)) [ None ↦ None | Some l ↦ choose (is_leader_of st.layout q.session.lockspace name l) name ]
    ]) (ap (λ p. name_sought p) purpose)
    ∙ (ap (λ o. elim o as (λ z. Option (List ℕ)) [ None ↦ None | Some l ↦ choose (is_leader_of st.layout q.session.lockspace q.resource.name l) q.resource.name ])
    (leader_is_given st.layout told before (ForJob q.job) q.resource.name bytes q.leader purpose gives (subst (λ g. needs_again g (blocks_part g bytes) ≡ false) layout (shows.shows).once)
    (ap (λ g. leader_of g bytes) (sym layout) ∙ leader))
    ∙ ap (λ t. choose t q.resource.name) (subst (λ n. is_leader_of st.layout n q.resource.name q.leader ≡ true) (sym asked.lockspace) asked.names)) where
      told : Submitted
      told = answered_in past e (c.call).call.number answer c.call

      before : List Submitted
      before = c.older ++ q.before

      layout : q.same.place.layout ≡ st.layout
      layout = ap (λ (p : LeasePlace). p.layout) asked.place

      purpose : told.call.purpose ≡ Lease (ForJob q.job) (ReadArea q.resource.name)
      purpose = ap (λ (y : Call). y.purpose) (told_is past e (c.call).call.number answer c.call) ∙ c.is.purpose

      gives : gave told ≡ Some bytes
      gives = told_gives past e c.call answer c.waits ∙ ap (λ a. bytes_given a) is

-- By the stage.
names_at : (st : Setting) (past : Trace) (q : Asked) (e : Entry) (stage : Stage) (c : DaemonOnCourse st past q stage) (answer : Answer) (reading : ℕ) → IsSetting st → IsAskedOf st q → ShowsAt st past reading q c.call answer stage
    → stage ≡ Reads_area → verified_by st.layout q.session.lockspace (answered_in past e (c.call).call.number answer c.call) (c.older ++ q.before) ≡ Some q.resource.name
names_at st past q e Reads_area c answer reading setting asked shows is = names_there st past q e c answer reading setting asked shows
names_at st past q e Writes_first c answer reading setting asked shows is = absurd (later_stage true Reads_area Writes_first refl is)
names_at st past q e Reads_first c answer reading setting asked shows is = absurd (later_stage true Writes_first Reads_first refl is)
names_at st past q e Writes_second c answer reading setting asked shows is = absurd (later_stage true Reads_first Writes_second refl is)
names_at st past q e Reads_second c answer reading setting asked shows is = absurd (later_stage true Writes_second Reads_second refl is)
names_at st past q e Takes_leader c answer reading setting asked shows is = absurd (later_stage true Reads_second Takes_leader refl is)
names_at st past q e Sets_mode c answer reading setting asked shows is = absurd (later_stage true Takes_leader Sets_mode refl is)
names_at st past q e Frees_leader c answer reading setting asked shows is = absurd (later_stage true Sets_mode Frees_leader refl is)

pub course_comes_on : CourseComesOn
course_comes_on p h now x run well q stage line resource c quiet k next to =
    record {
      machine = k.machine;
      daemon = with_entry e k.now c.daemon;
      at = (k.at, k.runs);
      asked = c.asked;
      host = leads.0;
      stamp = k.now;
      stamped = ap (λ i. stamp_in (k.now ∷ (c.daemon).stamps) i) leads.1 ∙ newest_stamp k.now (c.daemon).stamps (length past) (stamps_long p h now x run q stage c);
      area = record {
        others = (known.area).others;
        own = own;
        leader = λ is. absurd (later_stage q.shared stage next to is);
        blocks = λ is. absurd (later_stage q.shared stage next to is);
        seconds = (known.area).seconds;
        pair = λ paired. pair_next v q q.shared stage next to ((known.area).pair paired)
            (λ b op place which before. (follows v q (turn_at q stage) b paired before (wrote b op place which)).pair);
        calm = (known.area).calm;
        since = λ l there path inside later. absurd (none_later p h (now ++ x ∷ []) run q stage call c.stamp k.now k.machine k.at (ends_so p h now x run well q stage c k) known.area l there path inside later);
      };
    } where
      v : World
      v = world_at p h (now ++ x ∷ [])

      st : Setting
      st = (c.daemon).setting

      past : Trace
      past = (c.daemon).trace

      call : Submitted
      call = (c.host).call

      e : Entry
      e = heard_entry v q c.daemon call.call.number k

      known : Heard p h (now ++ x ∷ []) q stage st past call e k.answer k.machine c.stamp
      known = heard_so p h now x run well q stage line resource c quiet k

      shows : Hears st past e q call k.answer × ShowsAt st past (reading_now k.machine) q call k.answer stage
      shows = answers_show p h now x run well q stage line resource c quiet k

      decided : decided_then st past (reading_now k.machine) q stage call k.answer ≡ decision_at q next
      decided = course_decides.next st past (reading_now k.machine) q stage next known.well.0 (known.well.1.0.1, known.well.1.1.1) c.asked c.host k.answer shows.1 to

      leads : (d : DaemonOnCourse st (e ∷ past) q next) × (d.call.at ≡ length past)
      leads =
          course_leads st past e q stage next known.well.0 known.well.1 c.asked c.host k.answer shows.0 to decided
          (names_at st past q e stage c.host k.answer (reading_now k.machine) known.well.0 c.asked shows.1)
          (λ paired. turn_after st past (reading_now k.machine) q stage next c.asked c.host k.answer shows.1 q.shared to paired e)

      hosts : (1 ≤ q.session.id) × (q.session.id ≤ v.layout.hosts)
      hosts = subst (λ (g : Layout). (1 ≤ q.session.id) × (q.session.id ≤ g.hosts)) (sym (ap (λ (y : LeasePlace). y.layout) (c.asked).place) ∙ known.layout) (c.asked).host

      -- the block that the call wrote
      wrote : (b : Block) → op_at q stage ≡ block_op q stage b → offset_at q stage ≡ block_at q stage → (b ≡ first_of_asked q) ⊎ (b ≡ second_of_asked q) → Stands v q (turn_at q stage + 1) b
      wrote b op place which =
          let turn : ℕ = turn_at q stage + 1 in
          stands_by v q turn q.session.lockspace q.resource.name b (host_of st q b c.asked which)
          (written_stands p h (now ++ x ∷ []) run q stage st past call e k.answer k.machine c.stamp known (block_record v.layout turn q.session.lockspace q.resource.name b)
          (block_place v.layout q.resource.offset q.session.id turn)
          ((c.host).is.op ∙ (op ∙ ap (λ g. WriteRecord (block_record g turn q.session.lockspace q.resource.name b)) known.layout)) (c.host).is.path
          ((c.host).is.offset ∙ (place ∙ ap (λ g. block_place g q.resource.offset q.session.id turn) known.layout))
          (turn_within v.layout q.resource.offset q.session.id turn (sized_in p h (now ++ x ∷ []) run) hosts))

      own : (b : Block) → own_at q next ≡ Some b → block_there v (spot_of q.resource) q.session.id ≡ Some b
      own b is =
          let looks : Looks v q stage b = looks_behind v q q.shared stage next b to is in
          own_stands v q (turn_at q stage) b (λ paired. looks.before ((known.area).pair paired)) (wrote b looks.op looks.place looks.block)
