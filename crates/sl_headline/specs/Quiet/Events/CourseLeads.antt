-- From the answer of the acquire's call to its next call, or to the grant.
use Rattle.sl_sector.specs.declared.sector.Block.{Block}
use Rattle.sl_area.specs.AreaLayout.{blocks_part, leader_of}
use Rattle.sl_area.specs.Pairs.{pair_read}
use Rattle.sl_sector.specs.declared.sector.PairBlock.{PairBlock}
use Rattle.sl_trace.specs.declared.input.Answer.TheVariants.{Read, Written}
use Rattle.sl_headline.specs.Quiet.Course.QuietDecisions.{StandsAlone, NoneShared, ShowsWhole}
use Rattle.sl_due.specs.Due.{IsHostTrace}
use Rattle.sl_due.specs.Steps.{seen}
use Rattle.sl_run.specs.Lawful.{IsSetting}
use Rattle.sl_trace.specs.LeaseDecisions.{lease_next, lease_place, within_turn}
use Rattle.sl_trace.specs.Leases.{base_turn, known, lver_written, spot_of, verified_by, LeaseKnown}
use Rattle.sl_trace.specs.declared.lease.Aim.TheVariants.{Acquires}
use Rattle.sl_trace.specs.declared.lease.LeaseNext.TheVariants.{GrantJob, Nothing, ReadFor, WriteBlock, WriteLeader}
use Rattle.sl_trace.specs.declared.lease.LeaseNext.{LeaseNext}
use Rattle.sl_headline.specs.Quiet.Events.CarriedStages.{Asked, DaemonOnCourse, Frees_leader, IsAskedOf, Reads_area, Reads_first, Reads_second, Sets_mode, Stage, Takes_leader, Writes_first, Writes_second, first_of_asked, leader_of_asked, second_of_asked, stage_next, step_at, third_of_asked, turn_at}
use Rattle.sl_headline.specs.Quiet.Step.AnswersLeadOn.{heard}
use Rattle.sl_run.specs.Quiet.{job_calls}
use Rattle.sl_trace.specs.Sessions.{is_active}
use Rattle.sl_trace.specs.Traces.{Setting, Submitted, Trace, answered_in, is_ok_answer, is_shared, reply_in, same_place}
use Rattle.sl_trace.specs.declared.effects.Entry.{Entry}
use Rattle.sl_trace.specs.declared.effects.Grant.{Grant}
use Rattle.sl_trace.specs.declared.effects.LeaseStep.TheVariants.{FreeLeader, Phase1Read, Phase1Write, Phase2Read, Phase2Write, SetMode, TakeLeader}
use Rattle.sl_trace.specs.declared.effects.Mode.TheVariants.{Exclusive, Shared}
use Rattle.sl_trace.specs.declared.effects.Mode.{Mode}
use Rattle.sl_trace.specs.declared.input.Answer.{Answer}
use Rattle.sl_trace.specs.declared.input.Input.TheVariants.{Answer as Told}
use Rattle.sl_trace.specs.declared.reply.Reply.TheVariants.{Granted}
use Rattle.std.specs.Prelude.{Bool, Contains, IsTrue, List, None, Some, false, length, true, ℕ, ◌++◌, ◌+◌, ◌<◌, ◌∷◌, ◌≡◌}

-- The mode that is asked for.
abbrev pub mode_of : Bool → Mode
mode_of true = Shared
mode_of false = Exclusive

-- What the lease decides for the call at a stage; the read of the area is the command's.
abbrev pub decision_at : Asked → Stage → LeaseNext
decision_at q Reads_area = Nothing
decision_at q Writes_first = WriteBlock Phase1Write (first_of_asked q)
decision_at q Reads_first = ReadFor Phase1Read
decision_at q Writes_second = WriteBlock Phase2Write (second_of_asked q)
decision_at q Reads_second = ReadFor Phase2Read
decision_at q Takes_leader = WriteLeader TakeLeader (leader_of_asked q true)
decision_at q Sets_mode = WriteBlock SetMode (third_of_asked q)
decision_at q Frees_leader = WriteLeader FreeLeader (leader_of_asked q false)

-- The entry answers the call ok, in time, and after it the session is neither in recovery nor leaving.
pub record Hears (st : Setting) (past : Trace) (e : Entry) (q : Asked) (call : Submitted) (answer : Answer) : Type 0 where
  pub input : e.input ≡ Told call.call.number answer
  pub ok : is_ok_answer answer ≡ true
  pub timely : e.reading < call.reading + st.timing.io
  pub active : IsTrue (is_active st (e ∷ past) q.session)

-- The call with its answer, when it is seen.
abbrev pub told_call : Setting → Trace → ℕ → Submitted → Answer → Submitted
told_call st past now call answer =
    answered_in past (record { reading = now; input = Told call.call.number answer; effects = (heard st past now call.call.number answer).effects }) call.call.number answer call

-- What the lease decides then.
abbrev pub decided_then : Setting → Trace → ℕ → Asked → Stage → Submitted → Answer → LeaseNext
decided_then st past now q stage call answer =
    within_turn (lease_place st q.session) (known st (seen (heard st past now call.call.number answer)) q.session (spot_of q.resource)) (Acquires (mode_of q.shared))
    (lease_next (lease_place st q.session) (known st (seen (heard st past now call.call.number answer)) q.session (spot_of q.resource)) (Acquires (mode_of q.shared)) call.call.number
    (lver_written call) (step_at q stage) answer)

-- Where it decides for the next stage, the daemon goes on to it.
abbrev pub CourseLeads : Type 0
CourseLeads =
    (st : Setting) (past : Trace) (e : Entry) (q : Asked) (stage next : Stage) → IsSetting st → IsHostTrace st (e ∷ past) → IsAskedOf st q → (c : DaemonOnCourse st past q stage) → (answer : Answer)
    → Hears st past e q c.call answer → stage_next q.shared stage ≡ Some next → decided_then st past e.reading q stage c.call answer ≡ decision_at q next
    → (stage ≡ Reads_area → verified_by st.layout q.session.lockspace (answered_in past e c.call.call.number answer c.call) (c.older ++ q.before) ≡ Some q.resource.name)
    → (st.layout.paired ≡ true → base_turn st.layout q.session.id (answered_in past e c.call.call.number answer c.call ∷ (c.older ++ q.before)) ≡ turn_at q next)
    → (d : DaemonOnCourse st (e ∷ past) q next) × (d.call.at ≡ length past)

-- The entry grants the process the resource, and is the job's reply.
pub record GrantsNow (past : Trace) (e : Entry) (q : Asked) (lver : ℕ) : Type 0 where
  pub reply : reply_in q.job past e ≡ Some (record { at = length past; reply = Granted lver })
  pub grant : Grant
  pub granted : Contains e.effects.grants grant
  pub right : (grant.process ≡ q.process) × (is_shared grant.mode ≡ q.shared) × (grant.persistent ≡ q.persistent) × (grant.lver ≡ lver)
      × IsTrue (same_place grant.path grant.offset q.resource.path q.resource.offset)

-- Where it decides for the grant, the job is answered, and has made the calls that it needs.
abbrev pub CourseEnds : Type 0
CourseEnds =
    (st : Setting) (past : Trace) (e : Entry) (q : Asked) (stage : Stage) → IsSetting st → IsHostTrace st (e ∷ past) → IsAskedOf st q → (c : DaemonOnCourse st past q stage) → (answer : Answer)
    → Hears st past e q c.call answer → stage_next q.shared stage ≡ None → (lver : ℕ) → decided_then st past e.reading q stage c.call answer ≡ GrantJob (mode_of q.shared) lver
    → GrantsNow past e q lver × (job_calls (e ∷ past) q.job ≡ answered_in past e c.call.call.number answer c.call ∷ c.older)

-- ---- what the answers show

-- What is known of the lease then.
abbrev pub known_then : Setting → Trace → ℕ → Asked → Submitted → Answer → LeaseKnown
known_then st past now q call answer = known st (seen (heard st past now call.call.number answer)) q.session (spot_of q.resource)

-- A read of all blocks shows these, and with pairs the turn of the own one.
pub record ShowsBlocks (q : Asked) (bytes : List ℕ) (blocks : List Block) (turn : ℕ) : Type 0 where
  pub shows : ShowsWhole q.same.place.layout bytes blocks
  pub pair : q.same.place.layout.paired ≡ true → (own : PairBlock) × (pair_read q.same.place.layout bytes q.session.id ≡ Some own) × (own.turn ≡ turn)

-- What the answer at a stage is, and shows: the read of the area the leader and the blocks of the start, a later read the own block alone
-- in its instance; at the first of these no other host's shared mode stands in an exclusive acquire's way.
abbrev pub ShowsAt : Setting → Trace → ℕ → Asked → Submitted → Answer → Stage → Type 0
ShowsAt st past now q call answer Reads_area =
    (bytes : List ℕ) × (answer ≡ Read bytes) × (leader_of q.same.place.layout bytes ≡ Some q.leader)
    × ShowsBlocks q (blocks_part q.same.place.layout bytes) q.blocks (turn_at q Reads_area)
ShowsAt st past now q call answer Reads_first =
    (bytes : List ℕ) × (bs : List Block) × (answer ≡ Read bytes) × ShowsBlocks q bytes bs (turn_at q Reads_first) × StandsAlone (first_of_asked q) bs
    × NoneShared (known_then st past now q call answer) (mode_of q.shared) bs
ShowsAt st past now q call answer Reads_second =
    (bytes : List ℕ) × (bs : List Block) × (answer ≡ Read bytes) × ShowsBlocks q bytes bs (turn_at q Reads_second) × StandsAlone (second_of_asked q) bs
ShowsAt st past now q call answer stage = answer ≡ Written

-- So the lease decides for the next stage, and after the last for the grant under the leader's next instance.
pub record CourseDecides : Type 0 where
  pub next : (st : Setting) (past : Trace) (now : ℕ) (q : Asked) (stage k : Stage) → IsSetting st → IsHostTrace st past → IsAskedOf st q → (c : DaemonOnCourse st past q stage) (answer : Answer)
      → ShowsAt st past now q c.call answer stage → stage_next q.shared stage ≡ Some k → decided_then st past now q stage c.call answer ≡ decision_at q k
  pub last : (st : Setting) (past : Trace) (now : ℕ) (q : Asked) (stage : Stage) → IsSetting st → IsHostTrace st past → IsAskedOf st q → (c : DaemonOnCourse st past q stage) (answer : Answer)
      → ShowsAt st past now q c.call answer stage → stage_next q.shared stage ≡ None → decided_then st past now q stage c.call answer ≡ GrantJob (mode_of q.shared) (q.leader.lver + 1)
