-- A delta lease by itself: what each step gives, and what it makes of the lease.
use Rattle.sl_area.specs.AreaLayout.{delta_of}
use Rattle.sl_delta.specs.DeltaDecisions.{after_join, on_wake}
use Rattle.sl_delta.specs.OwnSector.{OwnState, after_answer, after_call, known_with, lease_of}
use Rattle.sl_alone.specs.declared.delta_lease.Standing.TheVariants.{Declined, Gone, Holds, Joins}
use Rattle.sl_alone.specs.declared.delta_lease.Standing.{Standing}
use Rattle.sl_alone.specs.declared.delta_lease.OpenDelta.{OpenDelta}
use Rattle.sl_alone.specs.declared.delta_steps.DeltaCall.TheVariants.{FreeOwn, ReadAll, ReadOwn as ReadsOwn, RenewOwn, WriteOwn}
use Rattle.sl_alone.specs.declared.delta_steps.DeltaCall.{DeltaCall}
use Rattle.sl_alone.specs.declared.delta_steps.DeltaIn.TheVariants.{Answered as Told, Leave, Refused, Wake}
use Rattle.sl_alone.specs.declared.delta_steps.DeltaIn.{DeltaIn}
use Rattle.sl_alone.specs.declared.delta_steps.DeltaOut.{DeltaOut}
use Rattle.sl_alone.specs.declared.delta_steps.Outcome.TheVariants.{Joined, Left, NotJoined}
use Rattle.sl_alone.specs.declared.delta_steps.Outcome.{Outcome}
use Rattle.sl_sector.specs.SectorLayouts.{IsSectorSize}
use Rattle.sl_sector.specs.declared.sector.DeltaRec.{DeltaRec}
use Rattle.sl_trace.specs.DeltaDecisions.{next_after_free, next_after_renewal, next_free, next_renewal}
use Rattle.sl_trace.specs.Sessions.{is_survey_purpose, stage_after}
use Rattle.sl_trace.specs.declared.stage.Stage.TheVariants.{Ended as EndedStage, Freeing, Looking, Refused as RefusedStage, Standing as Stands}
use Rattle.sl_trace.specs.declared.stage.Stage.{Stage}
use Rattle.sl_trace.specs.declared.delta.DeltaNext.TheVariants.{Disconnect, EndLeaving, Join, MoveConnection, Nothing, ReadOwn, RefuseJoin, RegisterAndRead, WriteClaim, WriteFirst, WriteFree, WriteRenewal}
use Rattle.sl_trace.specs.declared.delta.DeltaNext.{DeltaNext}
use Rattle.sl_time.specs.Times.{fail}
use Rattle.sl_trace.specs.declared.effects.JoinStep.TheVariants.{ClaimWrite, DecidingRead, FirstRead, FirstRenewal, VerifyRead, WatchRead}
use Rattle.sl_trace.specs.declared.effects.JoinStep.{JoinStep}
use Rattle.sl_trace.specs.declared.effects.Move.TheVariants.{Register, Renew, Unregister}
use Rattle.sl_trace.specs.declared.effects.Move.{Move}
use Rattle.sl_trace.specs.declared.effects.Purpose.TheVariants.{Joining, Leaving, Renewal, Survey}
use Rattle.sl_trace.specs.declared.effects.Purpose.{Purpose}
use Rattle.sl_trace.specs.declared.input.Answer.TheVariants.{Failed, Read, Written}
use Rattle.sl_trace.specs.declared.input.Answer.{Answer}
use Rattle.sl_words.specs.Bounds.{is_number, moments}
use Rattle.sl_words.specs.Words.{choose, some_is}
use Rattle.std.specs.Prelude.{Bool, IfSome, IsTrue, List, None, Option, Some, bytes_eq, false, is_some, length, nat_le, nat_lt, not, true, ℕ, ◌&&◌, ◌*◌, ◌+◌, ◌<◌, ◌==◌, ◌||◌, ◌≡◌, ◌≤◌}

-- A delta lease.
pub record LeaseState : Type 0 where
  pub own : OwnState
  pub standing : Standing
  -- the submission reading of the last renewal that was answered ok outside recovery
  pub last : ℕ
  pub recovering : Bool
  -- its connection stands
  pub registered : Bool
  -- the call without an answer
  pub waits : Option OpenDelta

-- A call's purpose; the machine knows no job's number, so it is 0.
abbrev pub purpose_of : DeltaCall → Purpose
purpose_of (ReadsOwn step) = Joining 0 step
purpose_of (WriteOwn step d) = Joining 0 step
purpose_of (RenewOwn d) = Renewal
purpose_of ReadAll = Survey
purpose_of (FreeOwn d) = Leaving 0

-- The record that it writes.
abbrev pub record_in_call : DeltaCall → Option DeltaRec
record_in_call (ReadsOwn step) = None
record_in_call (WriteOwn step d) = Some d
record_in_call (RenewOwn d) = Some d
record_in_call ReadAll = None
record_in_call (FreeOwn d) = Some d

-- ---- a decision is done

-- The call that it makes.
abbrev pub call_in : DeltaNext → Option DeltaCall
call_in (ReadOwn step) = Some (ReadsOwn step)
call_in (RegisterAndRead step) = Some (ReadsOwn step)
call_in (WriteClaim d) = Some (WriteOwn ClaimWrite d)
call_in (WriteFirst d) = Some (WriteOwn FirstRenewal d)
call_in (Join generation renewed) = Some ReadAll
call_in (MoveConnection renewed) = Some ReadAll
call_in (WriteRenewal d) = Some (RenewOwn d)
call_in (WriteFree j d) = Some (FreeOwn d)
call_in n = None

-- What it makes of the connection; a refused joining has one to remove, or none.
abbrev pub move_in : ℕ → LeaseState → DeltaNext → Option Move
move_in now l (RefuseJoin r) = choose l.registered (Unregister l.own.lockspace)
move_in now l (RegisterAndRead step) = Some (Register l.own.lockspace (now + fail l.own.timing))
move_in now l Disconnect = Some (Unregister l.own.lockspace)
move_in now l (Join generation renewed) = Some (Renew l.own.lockspace (renewed + fail l.own.timing))
move_in now l (MoveConnection renewed) = Some (Renew l.own.lockspace (renewed + fail l.own.timing))
move_in now l (EndLeaving j r) = Some (Unregister l.own.lockspace)
move_in now l n = None

-- What it comes to.
abbrev pub outcome_in : DeltaNext → Option Outcome
outcome_in (RefuseJoin r) = Some (NotJoined r)
outcome_in (Join generation renewed) = Some (Joined generation)
outcome_in (EndLeaving j r) = Some (Left r)
outcome_in n = None

-- How the session, whose last record has this generation, stands afterwards; without one it joins under none.
abbrev pub standing_after : ℕ → DeltaNext → Standing → Standing
standing_after generation (RefuseJoin r) before = Declined
standing_after generation (Join g renewed) before = elim (nat_lt 0 generation) [ true ↦ Holds | false ↦ before ]
standing_after generation (EndLeaving j r) before = Gone
standing_after generation n before = before

-- The last renewal afterwards.
abbrev pub last_after : DeltaNext → ℕ → ℕ
last_after (Join generation renewed) before = renewed
last_after (MoveConnection renewed) before = renewed
last_after n before = before

-- Whether the connection stands afterwards.
abbrev pub registered_after : DeltaNext → Bool → Bool
registered_after (RefuseJoin r) before = false
registered_after (RegisterAndRead step) before = true
registered_after Disconnect before = false
registered_after (Join generation renewed) before = true
registered_after (EndLeaving j r) before = false
registered_after n before = before

-- The own sector after the call.
abbrev pub own_with : ℕ → Option DeltaCall → OwnState → OwnState
own_with now None o = o
own_with now (Some c) o = after_call (purpose_of c) (record_in_call c) now o

-- The call that waits after it.
abbrev pub waits_with : ℕ → Option DeltaCall → Option OpenDelta → Option OpenDelta
waits_with now None before = before
waits_with now (Some c) before = Some (record { purpose = purpose_of c; made = now })

-- The lease after this call, if there is one.
abbrev pub called_with : ℕ → Option DeltaCall → LeaseState → LeaseState
called_with now c l = record l { own = own_with now c l.own; waits = waits_with now c l.waits }

-- What is kept is within bounds; a joined session has a generation.
pub record IsWithinStep (own : OwnState) (standing : Standing) (last : ℕ) (waits : Option OpenDelta) : Type 0 where
  pub named : standing ≡ Holds → 1 ≤ own.generation
  pub renewal : last < moments
  pub made : IfSome waits (λ w. w.made < moments)

-- The lease after the decision is done.
abbrev pub carried : ℕ → DeltaNext → LeaseState → LeaseState
carried now n l =
    record {
      own = own_with now (call_in n) l.own;
      standing = standing_after l.own.generation n l.standing;
      last = last_after n l.last;
      recovering = l.recovering;
      registered = registered_after n l.registered;
      waits = waits_with now (call_in n) l.waits;
    }

-- What it gives.
abbrev pub given_by : ℕ → DeltaNext → LeaseState → DeltaOut
given_by now n l = record { recovers = false; moved = move_in now l n; call = call_in n; outcome = outcome_in n }

-- ---- what a step decides

-- Recovery begins by time.
abbrev pub is_late : ℕ → LeaseState → Bool
is_late now l = elim l.standing [ Holds ↦ not l.recovering && nat_le (l.last + fail l.own.timing) now | _ ↦ false ]

-- The lease as the step begins.
abbrev pub begun : ℕ → LeaseState → LeaseState
begun now l = record l { recovering = is_late now l || l.recovering }

-- Of a joining.
abbrev pub joining_wake : ℕ → OwnState → DeltaNext
joining_wake now o = elim o.joining.newest [ None ↦ ReadOwn FirstRead | Some n ↦ on_wake o now ]

-- What a wake makes due: the first read of all, what a joining's time has come for, or a renewal with these bits.
abbrev pub wake_next : ℕ → List ℕ → LeaseState → DeltaNext
wake_next now bits l =
    elim l.standing [
      | Joins ↦ joining_wake now l.own
      | Holds ↦ next_renewal (lease_of l.own) now (known_with l.own l.recovering None) bits
      | _ ↦ Nothing
    ]

-- What an answer at this step of a joining makes due.
abbrev pub join_next : ℕ → ℕ → JoinStep → ℕ → Answer → LeaseState → DeltaNext
join_next now call step made a l = elim l.standing [ Joins ↦ after_join l.own now call made step a | _ ↦ Nothing ]

-- What an answer makes due, to the call of this number, for this purpose, submitted at this reading.
abbrev pub answer_next : ℕ → ℕ → Purpose → ℕ → Answer → LeaseState → DeltaNext
answer_next now call (Joining j step) made a l = join_next now call step made a l
answer_next now call Renewal made a l = next_after_renewal l.recovering made a
answer_next now call (Leaving j) made a l = next_after_free 0 call a
answer_next now call p made a l = Nothing

-- Whether a record of the own id is of another session.
abbrev pub is_other : OwnState → DeltaRec → Bool
is_other o d = d.id == o.id && not (d.generation == o.generation && some_is (λ n. bytes_eq n o.host) d.host)

-- A read of all ids gives as many bytes as it asks.
abbrev pub IsWholeRead : OwnState → Answer → Type 0
IsWholeRead o (Read bytes) = length bytes ≡ o.sizes.hosts * o.sizes.sector
IsWholeRead o Written = Unit {0}
IsWholeRead o Failed = Unit {0}

-- A read of the own sector gives as many bytes as it asks.
abbrev pub IsOwnRead : OwnState → Answer → Type 0
IsOwnRead o (Read bytes) = length bytes ≡ o.sizes.sector
IsOwnRead o Written = Unit {0}
IsOwnRead o Failed = Unit {0}

-- A read of one sector gives as many bytes as a sector may have.
abbrev pub IsSized : Answer → Type 0
IsSized (Read bytes) = IsSectorSize (length bytes)
IsSized Written = Unit {0}
IsSized Failed = Unit {0}

-- Whether a read of all ids shows another in the session's place.
abbrev pub shows_other : OwnState → Answer → Bool
shows_other o (Read bytes) =
    some_is (is_other o) (delta_of (lease_of o).layout bytes o.id)
shows_other o Written = false
shows_other o Failed = false

-- A read of all ids begins recovery.
abbrev pub survey_shows : Answer → LeaseState → Bool
survey_shows a l = elim l.standing [ Holds ↦ not l.recovering && shows_other l.own a | _ ↦ false ]

-- Recovery begins by a read.
abbrev pub shows_by : Purpose → Answer → LeaseState → Bool
shows_by p a l = elim (is_survey_purpose p) [ false ↦ false | true ↦ survey_shows a l ]

-- The lease that has heard the answer.
abbrev pub heard : ℕ → Purpose → Answer → LeaseState → LeaseState
heard now p a l = record l { own = after_answer p a now l.own; waits = None; recovering = shows_by p a l || l.recovering }

-- Whether a step of a joining writes.
abbrev pub writes_step : JoinStep → Bool
writes_step FirstRead = false
writes_step WatchRead = false
writes_step DecidingRead = false
writes_step ClaimWrite = true
writes_step VerifyRead = false
writes_step FirstRenewal = true

-- Whether a call for this purpose writes.
abbrev pub writes_own : Purpose → Bool
writes_own (Joining j step) = writes_step step
writes_own Renewal = true
writes_own (Leaving j) = true
writes_own p = false

-- Whether a write is unanswered.
abbrev pub has_open_write : LeaseState → Bool
has_open_write l = some_is (λ w. writes_own w.purpose) l.waits

-- The joining's job was refused: it has ended, and its connection goes unless a write is unanswered.
abbrev pub refused_now : LeaseState → LeaseState
refused_now l =
    elim l.standing [
      | Joins ↦ record l { standing = Declined; registered = l.registered && has_open_write l }
      | _ ↦ l
    ]

-- The move of that.
abbrev pub refused_move : LeaseState → Option Move
refused_move l = elim l.standing [ Joins ↦ choose (l.registered && not (has_open_write l)) (Unregister l.own.lockspace) | _ ↦ None ]

abbrev pub refusing : LeaseState → DeltaOut
refusing l = record { recovers = false; moved = refused_move l; call = None; outcome = None }

-- Nothing is given, but recovery may begin.
abbrev pub nothing_given : DeltaOut
nothing_given = record { recovers = false; moved = None; call = None; outcome = None }

-- Whether it has ended.
abbrev pub is_over : Standing → Bool
is_over Joins = false
is_over Holds = false
is_over Declined = true
is_over Gone = true

-- A refused joining removes its connection once its write is answered.
abbrev pub parted : LeaseState → LeaseState
parted l = record l { registered = false }

abbrev pub parting : LeaseState → DeltaOut
parting l = record { recovers = false; moved = choose l.registered (Unregister l.own.lockspace); call = None; outcome = None }

-- ---- a step

-- What follows an answer, for a session that has ended or not.
abbrev pub followed : ℕ → Bool → DeltaNext → LeaseState → LeaseState
followed now over n l = elim over [ true ↦ parted l | false ↦ carried now n l ]

abbrev pub given_following : ℕ → Bool → DeltaNext → LeaseState → DeltaOut
given_following now over n l = elim over [ true ↦ parting l | false ↦ given_by now n l ]

-- An answer is heard and decided.
abbrev pub after_told : ℕ → ℕ → Purpose → ℕ → Answer → LeaseState → LeaseState
after_told now call p made a l = followed now (is_over l.standing) (answer_next now call p made a (heard now p a l)) (heard now p a l)

abbrev pub given_told : ℕ → ℕ → Purpose → ℕ → Answer → LeaseState → DeltaOut
given_told now call p made a l =
    let out : DeltaOut = given_following now (is_over l.standing) (answer_next now call p made a (heard now p a l)) (heard now p a l) in
    record out { recovers = shows_by p a l }

-- What is given where recovery has begun by time, or not.
abbrev pub with_recovery : Bool → DeltaOut → DeltaOut
with_recovery late out = record out { recovers = late || out.recovers }

-- The free of a leaving.
abbrev pub free_next : ℕ → LeaseState → DeltaNext
free_next now l = next_free (lease_of l.own) now (known_with l.own l.recovering (Some 0))

-- In recovery the session ends, and nothing is written.
abbrev pub ended : LeaseState → LeaseState
ended l = record l { standing = Gone; registered = false }

abbrev pub ending : LeaseState → DeltaOut
ending l = record { recovers = false; moved = Some (Unregister l.own.lockspace); call = None; outcome = None }

-- What the step makes of a lease that has begun it.
abbrev pub step_from : ℕ → DeltaIn → LeaseState → LeaseState
step_from now (Wake bits) l = carried now (wake_next now bits l) l
step_from now (Told call a) l = elim l.waits [ None ↦ l | Some w ↦ after_told now call w.purpose w.made a l ]
step_from now Refused l = refused_now l
step_from now Leave l = elim l.recovering [ true ↦ ended l | false ↦ carried now (free_next now l) l ]

-- What it gives.
abbrev pub given_from : ℕ → DeltaIn → LeaseState → DeltaOut
given_from now (Wake bits) l = given_by now (wake_next now bits l) l
given_from now (Told call a) l = elim l.waits [ None ↦ nothing_given | Some w ↦ given_told now call w.purpose w.made a l ]
given_from now Refused l = refusing l
given_from now Leave l = elim l.recovering [ true ↦ ending l | false ↦ given_by now (free_next now l) l ]

-- The lease after a step, and what the step gives: recovery by time begins first.
abbrev pub after_step : ℕ → DeltaIn → LeaseState → LeaseState
after_step now i l = step_from now i (begun now l)

abbrev pub out_of_step : ℕ → DeltaIn → LeaseState → DeltaOut
out_of_step now i l = with_recovery (is_late now l) (given_from now i (begun now l))

-- ---- conditions and questions

-- The condition on an answer to a call for this purpose: a read gives as many bytes as it asks.
abbrev pub FitsRead : Bool → OwnState → Answer → Type 0
FitsRead true o a = IsWholeRead o a
FitsRead false o a = IsOwnRead o a

abbrev pub IsFitAnswer : OwnState → Answer → Purpose → Type 0
IsFitAnswer o a p = FitsRead (is_survey_purpose p) o a

-- Whether no call is unanswered, and the free's record has its numbers.
abbrev pub may_free : LeaseState → Bool
may_free l = not (is_some l.waits) && is_number (l.own.seq + 1) && nat_le 1 l.own.generation

-- Whether a joined session may leave: in recovery no write is unanswered, else it may free.
abbrev pub may_leave : LeaseState → Bool
may_leave l =
    elim l.standing [
      | Holds ↦ elim l.recovering [ true ↦ not (has_open_write l) | false ↦ may_free l ]
      | _ ↦ false
    ]

-- The condition on what comes: an answer fits the call that waits, and a lease that leaves may.
abbrev pub IsFitInput : LeaseState → DeltaIn → Type 0
IsFitInput l (Wake bits) = Unit {0}
IsFitInput l (Told call a) = IfSome l.waits (λ w. IsFitAnswer l.own a w.purpose)
IsFitInput l Refused = Unit {0}
IsFitInput l Leave = IsTrue (may_leave l)

-- Before the first call of a joining, and of a session that its daemon begins with.
abbrev pub new_lease : OwnState → LeaseState
new_lease o = record { own = o; standing = Joins; last = 0; recovering = false; registered = false; waits = None }

abbrev pub joined_lease : OwnState → ℕ → LeaseState
joined_lease o renewed = record { own = o; standing = Holds; last = renewed; recovering = false; registered = true; waits = None }

-- The submission reading of the last renewal that counts, once it is joined.
abbrev pub last_told : LeaseState → Option ℕ
last_told l = elim l.standing [ Holds ↦ Some l.last | _ ↦ None ]

-- The stage of a joining by its newest call.
abbrev pub stage_joining : OwnState → Stage
stage_joining o = elim o.joining.newest [ None ↦ Looking | Some n ↦ stage_after n.step (is_some n.answered) ]

-- That of a joined session.
abbrev pub stage_holding : OwnState → Stage
stage_holding o = elim o.freed [ true ↦ Freeing | false ↦ Stands ]

-- The stage.
abbrev pub stage_told : LeaseState → Stage
stage_told l =
    elim l.standing [
      | Joins ↦ stage_joining l.own
      | Holds ↦ stage_holding l.own
      | Declined ↦ RefusedStage
      | Gone ↦ EndedStage
    ]
