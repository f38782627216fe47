-- What the lease of a quiet acquire decides at each answer.
use Rattle.sl_words.proofs.CaseLaws.{none_some, some_value, true_is_false}
use Rattle.sl_due_facts.proofs.Acts.Pairs.Decisions.{within_cases, within_same, writes_own_block}
use Rattle.sl_due_facts.proofs.Acts.Pairs.GivenByReads.{again_at}
use Rattle.sl_due_facts.proofs.Acts.Pairs.Records.{block_lver, leader_lver, read_no_block, written_block, written_no_block}
use Rattle.sl_area.specs.AreaSizes.{Layout}
use Rattle.sl_area.specs.AreaLayout.{area_sectors, block_sectors}
use Rattle.sl_area.specs.AreaRecords.{leader_record}
use Rattle.sl_due_leases.proofs.Ways.GivenReads.{kept_once}
use Rattle.sl_headline.proofs.Quiet.Events.DecisionsAreCarriedOut.{NotFirst, unnamed}
use Rattle.sl_headline.proofs.Quiet.Events.CourseLeads.{name_more, told_gives}
use Rattle.sl_headline.proofs.Quiet.Events.TurnAfterCall.{turn_after}
use Rattle.sl_run.specs.Quiet.{blocks_needed}
use Rattle.sl_trace.specs.declared.lease.Aim.{Aim}
use Rattle.sl_trace.specs.declared.effects.Mode.{Mode}
use Rattle.sl_trace.specs.declared.lease.LeaseNext.{LeaseNext}
use Rattle.sl_trace.specs.declared.effects.Purpose.TheVariants.{Lease}
use Rattle.sl_trace.specs.declared.lease.LeaseNext.TheVariants.{GrantJob, ReadFor, WriteLeader}
use Rattle.sl_trace.specs.declared.input.Input.TheVariants.{Answer as Told}
use Rattle.sl_due.specs.Steps.{seen}
use Rattle.sl_words.specs.Bounds.{is_number, record_numbers}
use Rattle.sl_trace.specs.Ballots.{in_instance, next_mbal}
use Rattle.sl_headline.proofs.Quiet.Events.HeardFacts.{heard_facts, same_then, told_is}
use Rattle.sl_headline.specs.Quiet.Step.AnswersLeadOn.{heard}
use Rattle.sl_headline.proofs.Quiet.Course.QuietDecisions.{first_of, quiet_decisions}
use Rattle.sl_headline.proofs.Quiet.Course.KnownOfLease.{course_decisions}
use Rattle.sl_trace.specs.Leases.{LeaseKnown, base_turn, block_submitted, block_written, first_kept, is_leader_of, is_second, known, lver_written, name_sought, own_or_read, spot_of, verified_by, verified_name}
use Rattle.sl_headline.proofs.Quiet.Step.BeforeInput.{bare_heard}
use Rattle.sl_trace.specs.declared.effects.Op.TheVariants.{ReadSectors, WriteRecord}
use Rattle.sl_trace.specs.declared.effects.LeaseStep.TheVariants.{ReadArea, FreeLeader, Phase1Read, Phase2Read, TakeLeader}
use Rattle.sl_trace.specs.declared.input.Answer.TheVariants.{Read, Written}
use Rattle.std.specs.Prelude.{List, None, Option, Some, false, map, true, ◌<◌, ◌++◌, ◌+◌, ◌≡◌, ◌∷◌, [], ℕ, Bool, ◌⊎◌}
use Rattle.sl_trace.specs.LeaseDecisions.{LeasePlace, lease_next, lease_place, leader_for, within_turn}
use Rattle.sl_sector.specs.declared.sector.Leader.{Leader}
use Rattle.sl_run.specs.Lawful.{IsSetting}
use Rattle.sl_due.specs.Due.{IsHostTrace}
use Rattle.sl_headline.specs.Quiet.Course.QuietDecisions.{IsFirstOf, all_whole, NoneShared}
use Rattle.sl_trace.specs.declared.effects.Work.TheVariants.{ForJob}
use Rattle.sl_trace.specs.declared.effects.Entry.{Entry}
use Rattle.sl_trace.specs.declared.effects.Call.{Call}
use Rattle.sl_sector.specs.declared.sector.Block.{Block}
use Rattle.sl_headline.specs.Quiet.Course.CourseOfCalls.{Begins, ReadCall, Same, known_with}
use Rattle.sl_trace.specs.Traces.{Setting, Submitted, Trace, bytes_given}
use Rattle.sl_trace.specs.declared.input.Answer.{Answer}
use Rattle.sl_headline.specs.Quiet.Events.CarriedStages.{AllDone, Asked, DaemonOnCourse, Frees_leader, IsAskedOf, IsCallAt, Reads_area, Reads_first, Reads_second, Sets_mode, Stage, Takes_leader, Writes_first, Writes_second, block_op, first_of_asked, leader_of_asked, op_at, second_of_asked, stage_next, stages_before, step_at, third_of_asked, turn_at}
use Rattle.sl_trace.specs.declared.lease.Aim.TheVariants.{Acquires}
use Rattle.sl_headline.specs.Quiet.Events.CourseLeads.{CourseDecides, ShowsAt, decided_then, decision_at, known_then, mode_of, told_call}
use Rattle.std.proofs.Common.{ap, ap₂, arith, inl, inr, lt-ltb, refl, subst, sym, ◌∙◌}

-- ---- the course's earlier calls

none_older : (q : Asked) (ms : List Submitted) → AllDone q [] ms → ms ≡ []
none_older q [] done = refl
none_older q (m ∷ ms) done = absurd done

-- The newest of them, and the others.
record Older (q : Asked) (stage : Stage) (stages : List Stage) (ms : List Submitted) : Type 0 where
  call : Submitted
  rest : List Submitted
  is : ms ≡ call ∷ rest
  at : IsCallAt q stage call
  done : AllDone q stages rest

older_one : (q : Asked) (stage : Stage) (stages : List Stage) (ms : List Submitted) → AllDone q (stage ∷ stages) ms → Older q stage stages ms
older_one q stage stages [] done = absurd done
older_one q stage stages (m ∷ ms) done = record { call = m; rest = ms; is = refl; at = done.0; done = done.2 }

-- ---- own blocks

-- One more call writes it, or leaves it.
with_block : (m : Submitted) (ms : List Submitted) (o : Option Block) → block_written m ≡ o → block_submitted (m ∷ ms) ≡ elim o as (λ z. Option Block) [ Some b ↦ Some b | None ↦ block_submitted ms ]
with_block m ms o is = ap (λ w. elim w as (λ z. Option Block) [ Some b ↦ Some b | None ↦ block_submitted ms ]) is

wrote_block : (q : Asked) (stage : Stage) (m : Submitted) (ms : List Submitted) (b : Block) → m.call.op ≡ block_op q stage b → block_submitted (m ∷ ms) ≡ Some b
wrote_block q stage m ms b is = with_block m ms (Some b) (written_block q.same.place.layout (turn_at q stage + 1) q.session.lockspace q.resource.name m b is)

wrote_leader : (q : Asked) (m : Submitted) (ms : List Submitted) (l : Leader) → m.call.op ≡ WriteRecord (leader_record q.same.place.layout l) → block_submitted (m ∷ ms) ≡ block_submitted ms
wrote_leader q m ms l is = with_block m ms None (written_no_block q.same.place.layout m l is)

read_some : (m : Submitted) (ms : List Submitted) (n : ℕ) → m.call.op ≡ ReadSectors n → block_submitted (m ∷ ms) ≡ block_submitted ms
read_some m ms n is = with_block m ms None (read_no_block m n is)

-- ---- what is decided, of the lease's own calls

-- The calls that the lease has then.
abbrev calls_then : (st : Setting) (past : Trace) (now : ℕ) (q : Asked) (stage : Stage) → DaemonOnCourse st past q stage → Answer → List Submitted
calls_then st past now q stage c answer = told_call st past now c.call answer ∷ (c.older ++ q.before)

pub known_is : (st : Setting) (past : Trace) (now : ℕ) (q : Asked) (stage : Stage) → IsSetting st → IsHostTrace st past → IsAskedOf st q → (c : DaemonOnCourse st past q stage) (answer : Answer)
    → known_then st past now q c.call answer ≡ known_with (same_then st past now q (c.call).call.number answer) (calls_then st past now q stage c answer)
known_is st past now q stage setting host asked c answer =
    ap (λ g. known g (seen (heard st past now (c.call).call.number answer)) q.session (spot_of q.resource)) (sym (bare_heard st past now (c.call).call.number answer).setting)
    ∙ (heard_facts st past now q stage setting host asked c answer).known_is

-- What the lease knows then.
abbrev knows_then : (st : Setting) (past : Trace) (now : ℕ) (q : Asked) (stage : Stage) → DaemonOnCourse st past q stage → Answer → LeaseKnown
knows_then st past now q stage c answer = known_with (same_then st past now q (c.call).call.number answer) (calls_then st past now q stage c answer)

-- What it decides, but for the limit of a turn.
abbrev decides_then : (st : Setting) (past : Trace) (now : ℕ) (q : Asked) (stage : Stage) → DaemonOnCourse st past q stage → Answer → Mode → Answer → LeaseNext
decides_then st past now q stage c answer mode a = lease_next q.same.place (knows_then st past now q stage c answer) (Acquires mode) (c.call).call.number (lver_written c.call) (step_at q stage) a

decided_is : (st : Setting) (past : Trace) (now : ℕ) (q : Asked) (stage : Stage) → IsSetting st → IsHostTrace st past → IsAskedOf st q → (c : DaemonOnCourse st past q stage) (answer : Answer) (d : LeaseNext)
    → decides_then st past now q stage c answer (mode_of q.shared) answer ≡ d → within_turn q.same.place (knows_then st past now q stage c answer) (Acquires (mode_of q.shared)) d ≡ d
    → decided_then st past now q stage c.call answer ≡ d
decided_is st past now q stage setting host asked c answer d is within =
    let aim : Aim = Acquires (mode_of q.shared) in
    let k : LeaseKnown = known_then st past now q c.call answer in
    ap (λ p. within_turn p k aim (lease_next p k aim (c.call).call.number (lver_written c.call) (step_at q stage) answer)) (sym asked.place)
    ∙ (ap (λ z. within_turn q.same.place z aim (lease_next q.same.place z aim (c.call).call.number (lver_written c.call) (step_at q stage) answer))
    (known_is st past now q stage setting host asked c answer)
    ∙ (ap (λ n. within_turn q.same.place (knows_then st past now q stage c answer) aim n) is ∙ within))

-- A call that writes no block has no such limit.
unbounded : (st : Setting) (past : Trace) (now : ℕ) (q : Asked) (stage : Stage) → IsSetting st → IsHostTrace st past → IsAskedOf st q → (c : DaemonOnCourse st past q stage) (answer : Answer) (d : LeaseNext)
    → writes_own_block d ≡ false → decides_then st past now q stage c answer (mode_of q.shared) answer ≡ d → decided_then st past now q stage c.call answer ≡ d
unbounded st past now q stage setting host asked c answer d none is =
    decided_is st past now q stage setting host asked c answer d is (within_same q.same.place (knows_then st past now q stage c answer) (Acquires (mode_of q.shared)) d none)

-- A block's turn is within its limit.
bounded : (st : Setting) (past : Trace) (now : ℕ) (q : Asked) (stage next : Stage) → IsSetting st → IsHostTrace st past → IsAskedOf st q → (c : DaemonOnCourse st past q stage) (answer : Answer) (d : LeaseNext)
    → ShowsAt st past now q c.call answer stage → stage_next q.shared stage ≡ Some next → (st.layout.paired ≡ true → is_number (turn_at q next + 1) ≡ true)
    → decides_then st past now q stage c answer (mode_of q.shared) answer ≡ d → decided_then st past now q stage c.call answer ≡ d
bounded st past now q stage next setting host asked c answer d shows to small is =
    decided_is st past now q stage setting host asked c answer d is
    (within_cases (λ n. n ≡ d) q.same.place (knows_then st past now q stage c answer) (Acquires (mode_of q.shared)) d (λ fits. refl)
    (λ paired over writes. absurd (true_is_false (sym (fits paired) ∙ over)))) where
      place : q.same.place.layout ≡ st.layout
      place = ap (λ (p : LeasePlace). p.layout) asked.place

      fits : q.same.place.layout.paired ≡ true → is_number ((knows_then st past now q stage c answer).turn + 1) ≡ true
      fits paired =
          let there : st.layout.paired ≡ true = ap (λ (g : Layout). g.paired) (sym place) ∙ paired in
          ap (λ t. is_number (t + 1))
          (ap (λ (g : Layout). base_turn g q.same.self.id (calls_then st past now q stage c answer)) place
          ∙ (ap (λ id. base_turn st.layout id (calls_then st past now q stage c answer)) asked.id
          ∙ turn_after st past now q stage next asked c answer shows q.shared to there
          (record { reading = now; input = Told (c.call).call.number answer; effects = (heard st past now (c.call).call.number answer).effects })))
          ∙ small there

two_small : (turn most : ℕ) (shared : Bool) → turn + blocks_needed shared < most → (turn + 1 < most) × (turn + 1 + 1 < most)
two_small turn most true h = (omega (arith, h), omega (arith, h))
two_small turn most false h = (omega (arith, h), omega (arith, h))

third_small : (turn most : ℕ) (shared : Bool) → shared ≡ true → turn + blocks_needed shared < most → turn + 1 + 1 + 1 < most
third_small turn most true is h = omega (arith, h)
third_small turn most false is h = absurd (true_is_false (sym is))

-- The first block is in the leader's next instance, with nothing accepted.
pub first_is : (st : Setting) (q : Asked) → IsAskedOf st q → IsFirstOf (known_with q.same q.before) (q.leader.lver + 1) (first_of_asked q)
first_is st q asked = first_of q.same.place (known_with q.same q.before) (q.leader.lver + 1) q.own q.blocks asked.unaccepted

-- ---- by stages

by_area : (st : Setting) (past : Trace) (now : ℕ) (q : Asked) → IsSetting st → IsHostTrace st past → IsAskedOf st q → (c : DaemonOnCourse st past q Reads_area) (answer : Answer)
    → ShowsAt st past now q c.call answer Reads_area → decided_then st past now q Reads_area c.call answer ≡ decision_at q Writes_first
by_area st past now q setting host asked c answer (bytes, is, leader, shows) =
    bounded st past now q Reads_area Writes_first setting host asked c answer (decision_at q Writes_first) (bytes, is, leader, shows) refl
    (λ paired. lt-ltb (q.turn + 1) record_numbers (two_small q.turn record_numbers q.shared (asked.turns paired)).0)
    (ap (λ a. decides_then st past now q Reads_area c answer (mode_of q.shared) a) is
    ∙ (ap (λ ms. lease_next q.same.place (known_with x (m ∷ (ms ++ q.before))) (Acquires (mode_of q.shared)) (c.call).call.number (lver_written c.call) (ReadArea q.resource.name) (Read bytes)) (none_older q c.older c.done)
    ∙ course_decisions.begins x q.before (mode_of q.shared) q.resource.name bytes q.leader q.blocks q.own begins m reads (c.call).call.number (lver_written c.call))) where
      x : Same
      x = same_then st past now q (c.call).call.number answer

      m : Submitted
      m = told_call st past now c.call answer

      place : q.same.place ≡ lease_place st q.session
      place = asked.place

      reads : ReadCall m (ReadArea q.resource.name) bytes
      reads =
          let e : Entry = record { reading = now; input = Told (c.call).call.number answer; effects = (heard st past now (c.call).call.number answer).effects } in
          record {
            work = ForJob q.job;
            sectors = area_sectors q.same.place.layout;
            purpose = ap (λ (k : Call). k.purpose) (told_is past e (c.call).call.number answer c.call) ∙ c.is.purpose;
            op = ap (λ (k : Call). k.op) (told_is past e (c.call).call.number answer c.call) ∙ c.is.op;
            gives = told_gives past e c.call answer c.waits ∙ ap (λ a. bytes_given a) is;
          }

      begins : Begins x q.before q.resource.name bytes q.leader q.blocks q.own
      begins =
          record {
            leader = leader;
            names = subst (λ (p : LeasePlace). is_leader_of p.layout p.lockspace q.resource.name q.leader ≡ true) (sym place) (subst (λ n. is_leader_of st.layout n q.resource.name q.leader ≡ true) (sym asked.lockspace) asked.names);
            free = asked.free;
            shows = shows.shows;
            below = asked.below;
            own_is = subst (λ n. own_or_read n (block_submitted q.before) (all_whole q.blocks) ≡ Some q.own) (sym asked.id) asked.own_is;
            own_low = asked.own_low;
            unaccepted = asked.unaccepted;
            freed_low = asked.freed_low;
            lver = asked.lver;
            mbal = subst (λ n. next_mbal q.same.place.layout.hosts n (map (λ (b : Block). b.mbal) (in_instance (q.leader.lver + 1) (q.own ∷ []))) < record_numbers) (sym asked.id)
                (subst (λ (p : LeasePlace). next_mbal p.layout.hosts q.session.id (map (λ (b : Block). b.mbal) (in_instance (q.leader.lver + 1) (q.own ∷ []))) < record_numbers) (sym place) asked.mbal);
          }

-- What the lease's list of calls then is, by what its newest call was for.
told_op : (st : Setting) (past : Trace) (now : ℕ) (q : Asked) (stage : Stage) (c : DaemonOnCourse st past q stage) (answer : Answer) → (told_call st past now c.call answer).call.op ≡ op_at q stage
told_op st past now q stage c answer =
    ap (λ (k : Call). k.op) (told_is past (record { reading = now; input = Told (c.call).call.number answer; effects = (heard st past now (c.call).call.number answer).effects }) (c.call).call.number answer c.call) ∙ c.is.op

-- The name that the lease knows.
name_then : (st : Setting) (past : Trace) (now : ℕ) (q : Asked) (stage : Stage) → NotFirst stage → IsAskedOf st q → (c : DaemonOnCourse st past q stage) (answer : Answer)
    → verified_name q.same.place.layout q.same.place.lockspace (calls_then st past now q stage c answer) ≡ q.resource.name
name_then st past now q stage later asked c answer =
    ap (λ (p : LeasePlace). verified_name p.layout p.lockspace (calls_then st past now q stage c answer)) asked.place
    ∙ name_more st.layout q.session.lockspace q.resource.name (told_call st past now c.call answer) (c.older ++ q.before) (inr (none, by c.name)) where
      m : Submitted
      m = told_call st past now c.call answer

      purpose : m.call.purpose ≡ Lease (ForJob q.job) (step_at q stage)
      purpose =
          ap (λ (k : Call). k.purpose) (told_is past (record { reading = now; input = Told (c.call).call.number answer; effects = (heard st past now (c.call).call.number answer).effects }) (c.call).call.number answer c.call)
          ∙ c.is.purpose

      unsought : (k : Stage) → NotFirst k → name_sought (Lease (ForJob q.job) (step_at q k)) ≡ None
      unsought Reads_area first = absurd first
      unsought Writes_first first = refl
      unsought Reads_first first = refl
      unsought Writes_second first = refl
      unsought Reads_second first = refl
      unsought Takes_leader first = refl
      unsought Sets_mode first = refl
      unsought Frees_leader first = refl

      none : verified_by st.layout q.session.lockspace m (c.older ++ q.before) ≡ None
      none = unnamed st.layout q.session.lockspace m (c.older ++ q.before) (Lease (ForJob q.job) (step_at q stage)) purpose (unsought stage later)

      by : (stage ≡ Reads_area) ⊎ (verified_name st.layout q.session.lockspace (c.older ++ q.before) ≡ q.resource.name) → verified_name st.layout q.session.lockspace (c.older ++ q.before) ≡ q.resource.name
      by (inl first) = absurd (subst (λ k. NotFirst k) first later)
      by (inr named) = named

-- The leader that the lease writes.
leader_then : (st : Setting) (past : Trace) (now : ℕ) (q : Asked) (stage : Stage) → NotFirst stage → IsAskedOf st q → (c : DaemonOnCourse st past q stage) (answer : Answer) (held : Bool) (n : ℕ) → n ≡ q.leader.lver + 1
    → leader_for q.same.place (known_with (same_then st past now q (c.call).call.number answer) (calls_then st past now q stage c answer)) held n ≡ leader_of_asked q held
leader_then st past now q stage later asked c answer held n is =
    let all : ℕ → List ℕ → List ℕ → Leader =
    λ k space name. record { held = held; num_hosts = q.same.place.layout.hosts; lver = k; generation = q.same.self.generation; owner = q.same.self.id; lockspace = space; resource = name } in
    let name : List ℕ = verified_name q.same.place.layout q.same.place.lockspace (calls_then st past now q stage c answer) in
    ap (λ k. all k q.same.place.lockspace name) is
    ∙ (ap (λ space. all (q.leader.lver + 1) space name) (ap (λ (p : LeasePlace). p.lockspace) asked.place ∙ asked.lockspace)
    ∙ ap (λ y. all (q.leader.lver + 1) q.resource.lockspace y) (name_then st past now q stage later asked c answer))

-- Nothing is kept of a first read.
none_kept : (st : Setting) (past : Trace) (now : ℕ) (q : Asked) (stage : Stage) (c : DaemonOnCourse st past q stage) (answer : Answer) → is_second (step_at q stage) ≡ false
    → first_kept q.same.place.layout (calls_then st past now q stage c answer) ≡ []
none_kept st past now q stage c answer first =
    kept_once q.same.place.layout (told_call st past now c.call answer) (c.older ++ q.before)
    (again_at (told_call st past now c.call answer) (ForJob q.job) (step_at q stage)
    (ap (λ (k : Call). k.purpose) (told_is past (record { reading = now; input = Told (c.call).call.number answer; effects = (heard st past now (c.call).call.number answer).effects }) (c.call).call.number answer c.call)
    ∙ c.is.purpose)
    ∙ first)

-- The own block at a later read, and where the mode is set.
own_first : (st : Setting) (past : Trace) (now : ℕ) (q : Asked) (c : DaemonOnCourse st past q Reads_first) (answer : Answer) → block_submitted (calls_then st past now q Reads_first c answer) ≡ Some (first_of_asked q)
own_first st past now q c answer =
    let w = older_one q Writes_first (Reads_area ∷ []) c.older c.done in
    read_some (told_call st past now c.call answer) (c.older ++ q.before) (block_sectors q.same.place.layout) (told_op st past now q Reads_first c answer)
    ∙ (ap (λ ms. block_submitted (ms ++ q.before)) w.is ∙ wrote_block q Writes_first w.call (w.rest ++ q.before) (first_of_asked q) w.at.op)

own_second : (st : Setting) (past : Trace) (now : ℕ) (q : Asked) (c : DaemonOnCourse st past q Reads_second) (answer : Answer) → block_submitted (calls_then st past now q Reads_second c answer) ≡ Some (second_of_asked q)
own_second st past now q c answer =
    let w = older_one q Writes_second (stages_before Writes_second) c.older c.done in
    read_some (told_call st past now c.call answer) (c.older ++ q.before) (block_sectors q.same.place.layout) (told_op st past now q Reads_second c answer)
    ∙ (ap (λ ms. block_submitted (ms ++ q.before)) w.is ∙ wrote_block q Writes_second w.call (w.rest ++ q.before) (second_of_asked q) w.at.op)

own_taken : (st : Setting) (past : Trace) (now : ℕ) (q : Asked) (c : DaemonOnCourse st past q Takes_leader) (answer : Answer) → block_submitted (calls_then st past now q Takes_leader c answer) ≡ Some (second_of_asked q)
own_taken st past now q c answer =
    let r = older_one q Reads_second (stages_before Reads_second) c.older c.done in
    let w = older_one q Writes_second (stages_before Writes_second) r.rest r.done in
    wrote_leader q (told_call st past now c.call answer) (c.older ++ q.before) (leader_of_asked q true) (told_op st past now q Takes_leader c answer)
    ∙ (ap (λ ms. block_submitted (ms ++ q.before)) r.is
    ∙ (read_some r.call (r.rest ++ q.before) (block_sectors q.same.place.layout) r.at.op ∙ (ap (λ ms. block_submitted (ms ++ q.before)) w.is ∙ wrote_block q Writes_second w.call (w.rest ++ q.before) (second_of_asked q) w.at.op)))

-- ---- all of it

-- After an answer that only says that it is done.
done_now : (st : Setting) (past : Trace) (now : ℕ) (q : Asked) (stage : Stage) (c : DaemonOnCourse st past q stage) (answer : Answer) (d : LeaseNext) → answer ≡ Written
    → decides_then st past now q stage c answer (mode_of q.shared) Written ≡ d → decides_then st past now q stage c answer (mode_of q.shared) answer ≡ d
done_now st past now q stage c answer d is next = ap (λ a. decides_then st past now q stage c answer (mode_of q.shared) a) is ∙ next

by_first : (st : Setting) (past : Trace) (now : ℕ) (q : Asked) → IsSetting st → IsHostTrace st past → IsAskedOf st q → (c : DaemonOnCourse st past q Reads_first) (answer : Answer)
    → ShowsAt st past now q c.call answer Reads_first → decided_then st past now q Reads_first c.call answer ≡ decision_at q Writes_second
by_first st past now q setting host asked c answer (bytes, bs, is, shows, alone, none) =
    let k : LeaseKnown = knows_then st past now q Reads_first c answer in
    bounded st past now q Reads_first Writes_second setting host asked c answer (decision_at q Writes_second) (bytes, bs, is, shows, alone, none) refl
    (λ paired. lt-ltb (q.turn + 1 + 1) record_numbers (two_small q.turn record_numbers q.shared (asked.turns paired)).1)
    (ap (λ a. decides_then st past now q Reads_first c answer (mode_of q.shared) a) is
    ∙ quiet_decisions.phase1_read q.same.place k (mode_of q.shared) (c.call).call.number (lver_written c.call) bytes bs (first_of_asked q)
    (record { shows = shows.shows; kept = none_kept st past now q Reads_first c answer refl; own_is = own_first st past now q c answer; alone = alone }) (first_is st q asked).bal refl
    (subst (λ z. NoneShared z (mode_of q.shared) bs) (known_is st past now q Reads_first setting host asked c answer) none))

by_second : (st : Setting) (past : Trace) (now : ℕ) (q : Asked) → IsSetting st → IsHostTrace st past → IsAskedOf st q → (c : DaemonOnCourse st past q Reads_second) (answer : Answer)
    → ShowsAt st past now q c.call answer Reads_second → decided_then st past now q Reads_second c.call answer ≡ decision_at q Takes_leader
by_second st past now q setting host asked c answer (bytes, bs, is, shows, alone) =
    let k : LeaseKnown = knows_then st past now q Reads_second c answer in
    unbounded st past now q Reads_second setting host asked c answer (decision_at q Takes_leader) refl
    (ap (λ a. decides_then st past now q Reads_second c answer (mode_of q.shared) a) is
    ∙ (quiet_decisions.phase2_read q.same.place k (mode_of q.shared) (c.call).call.number (lver_written c.call) bytes bs (second_of_asked q) (first_of_asked q)
    (record { shows = shows.shows; kept = none_kept st past now q Reads_second c answer refl; own_is = own_second st past now q c answer; alone = alone }) refl
    ∙ ap (λ l. WriteLeader TakeLeader l) (leader_then st past now q Reads_second tt asked c answer true (second_of_asked q).lver (first_is st q asked).lver)))

by_taken : (st : Setting) (past : Trace) (now : ℕ) (q : Asked) → IsSetting st → IsHostTrace st past → IsAskedOf st q → (c : DaemonOnCourse st past q Takes_leader) (answer : Answer)
    → answer ≡ Written → q.shared ≡ true → decided_then st past now q Takes_leader c.call answer ≡ decision_at q Sets_mode
by_taken st past now q setting host asked c answer shows mode =
    bounded st past now q Takes_leader Sets_mode setting host asked c answer (decision_at q Sets_mode) shows (ap (λ t. stage_next t Takes_leader) mode)
    (λ paired. lt-ltb (q.turn + 1 + 1 + 1) record_numbers (third_small q.turn record_numbers q.shared mode (asked.turns paired)))
    (done_now st past now q Takes_leader c answer (decision_at q Sets_mode) shows
    (ap (λ t. decides_then st past now q Takes_leader c answer (mode_of t) Written) mode
    ∙ quiet_decisions.taken_shared q.same.place (knows_then st past now q Takes_leader c answer) (c.call).call.number (lver_written c.call) (second_of_asked q) (own_taken st past now q c answer)))

next_by : (st : Setting) (past : Trace) (now : ℕ) (q : Asked) (stage k : Stage) → IsSetting st → IsHostTrace st past → IsAskedOf st q → (c : DaemonOnCourse st past q stage) (answer : Answer)
    → ShowsAt st past now q c.call answer stage → (b : Bool) → q.shared ≡ b → stage_next b stage ≡ Some k → decided_then st past now q stage c.call answer ≡ decision_at q k
next_by st past now q Reads_area k setting host asked c answer shows b mode is =
    subst (λ z. decided_then st past now q Reads_area c.call answer ≡ decision_at q z) (some_value Writes_first k is) (by_area st past now q setting host asked c answer shows)
next_by st past now q Writes_first k setting host asked c answer shows b mode is =
    subst (λ z. decided_then st past now q Writes_first c.call answer ≡ decision_at q z) (some_value Reads_first k is)
    (unbounded st past now q Writes_first setting host asked c answer (ReadFor Phase1Read) refl
    (done_now st past now q Writes_first c answer (ReadFor Phase1Read) shows
    (quiet_decisions.phase1_written q.same.place (knows_then st past now q Writes_first c answer) (mode_of q.shared) (c.call).call.number (lver_written c.call))))
next_by st past now q Reads_first k setting host asked c answer shows b mode is =
    subst (λ z. decided_then st past now q Reads_first c.call answer ≡ decision_at q z) (some_value Writes_second k is) (by_first st past now q setting host asked c answer shows)
next_by st past now q Writes_second k setting host asked c answer shows b mode is =
    subst (λ z. decided_then st past now q Writes_second c.call answer ≡ decision_at q z) (some_value Reads_second k is)
    (unbounded st past now q Writes_second setting host asked c answer (ReadFor Phase2Read) refl
    (done_now st past now q Writes_second c answer (ReadFor Phase2Read) shows
    (quiet_decisions.phase2_written q.same.place (knows_then st past now q Writes_second c answer) (mode_of q.shared) (c.call).call.number (lver_written c.call))))
next_by st past now q Reads_second k setting host asked c answer shows b mode is =
    subst (λ z. decided_then st past now q Reads_second c.call answer ≡ decision_at q z) (some_value Takes_leader k is) (by_second st past now q setting host asked c answer shows)
next_by st past now q Takes_leader k setting host asked c answer shows false mode is = absurd (none_some k is)
next_by st past now q Takes_leader k setting host asked c answer shows true mode is =
    subst (λ z. decided_then st past now q Takes_leader c.call answer ≡ decision_at q z) (some_value Sets_mode k is) (by_taken st past now q setting host asked c answer shows mode)
next_by st past now q Sets_mode k setting host asked c answer shows b mode is =
    subst (λ z. decided_then st past now q Sets_mode c.call answer ≡ decision_at q z) (some_value Frees_leader k is)
    (unbounded st past now q Sets_mode setting host asked c answer (decision_at q Frees_leader) refl
    (done_now st past now q Sets_mode c answer (decision_at q Frees_leader) shows
    (quiet_decisions.mode_set q.same.place (knows_then st past now q Sets_mode c answer) (mode_of q.shared) (c.call).call.number (lver_written c.call)
    ∙ ap (λ l. WriteLeader FreeLeader l)
    (leader_then st past now q Sets_mode tt asked c answer false (lver_written c.call)
    (block_lver q.same.place.layout (turn_at q Sets_mode + 1) q.session.lockspace q.resource.name c.call (third_of_asked q) c.is.op ∙ (first_is st q asked).lver)))))
next_by st past now q Frees_leader k setting host asked c answer shows b mode is = absurd (none_some k is)

some_none : (k : Stage) → Some k ≡ None → ⊥
some_none k is = none_some k (sym is)

last_by : (st : Setting) (past : Trace) (now : ℕ) (q : Asked) (stage : Stage) → IsSetting st → IsHostTrace st past → IsAskedOf st q → (c : DaemonOnCourse st past q stage) (answer : Answer)
    → ShowsAt st past now q c.call answer stage → (b : Bool) → q.shared ≡ b → stage_next b stage ≡ None → decided_then st past now q stage c.call answer ≡ GrantJob (mode_of q.shared) (q.leader.lver + 1)
last_by st past now q Reads_area setting host asked c answer shows b mode is = absurd (some_none Writes_first is)
last_by st past now q Writes_first setting host asked c answer shows b mode is = absurd (some_none Reads_first is)
last_by st past now q Reads_first setting host asked c answer shows b mode is = absurd (some_none Writes_second is)
last_by st past now q Writes_second setting host asked c answer shows b mode is = absurd (some_none Reads_second is)
last_by st past now q Reads_second setting host asked c answer shows b mode is = absurd (some_none Takes_leader is)
last_by st past now q Takes_leader setting host asked c answer shows true mode is = absurd (some_none Sets_mode is)
last_by st past now q Takes_leader setting host asked c answer shows false mode is =
    unbounded st past now q Takes_leader setting host asked c answer (GrantJob (mode_of q.shared) (q.leader.lver + 1)) refl
    (done_now st past now q Takes_leader c answer (GrantJob (mode_of q.shared) (q.leader.lver + 1)) shows
    (ap (λ t. decides_then st past now q Takes_leader c answer (mode_of t) Written) mode
    ∙ (quiet_decisions.taken q.same.place (knows_then st past now q Takes_leader c answer) (c.call).call.number (lver_written c.call)
    ∙ ap₂ (λ t n. GrantJob (mode_of t) n) (sym mode) (leader_lver q.same.place.layout c.call (leader_of_asked q true) c.is.op))))
last_by st past now q Sets_mode setting host asked c answer shows b mode is = absurd (some_none Frees_leader is)
last_by st past now q Frees_leader setting host asked c answer shows b mode is =
    unbounded st past now q Frees_leader setting host asked c answer (GrantJob (mode_of q.shared) (q.leader.lver + 1)) refl
    (done_now st past now q Frees_leader c answer (GrantJob (mode_of q.shared) (q.leader.lver + 1)) shows
    (quiet_decisions.freed q.same.place (knows_then st past now q Frees_leader c answer) (mode_of q.shared) (c.call).call.number (lver_written c.call)
    ∙ ap₂ (λ t n. GrantJob (mode_of t) n) (sym c.mode) (leader_lver q.same.place.layout c.call (leader_of_asked q false) c.is.op)))

pub course_decides : CourseDecides
course_decides =
    record {
      next = λ st past now q stage k setting host asked c answer shows is. next_by st past now q stage k setting host asked c answer shows q.shared refl is;
      last = λ st past now q stage setting host asked c answer shows is. last_by st past now q stage setting host asked c answer shows q.shared refl is;
    }
