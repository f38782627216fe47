-- What stands in the trace where the answer of a lease's call is told, for a job that works on the lease.
use Rattle.sl_due_facts.proofs.Acts.Pairs.GivenByReads.{at_kind}
use Rattle.sl_due_law.proofs.Causes.NamesBefore.{with_session}
use Rattle.sl_due_leases.proofs.Ways.GivenReads.{heard_by_lease}
use Rattle.sl_run.specs.Caused.{Answering, AnswersCall, AnswersRead, BlockIsNext, CausedBy, ReadsBlocks, after_entry, known_here, the_session}
use Rattle.sl_trace.specs.LeaseDecisions.{asked_again, first_step, read_of_step}
use Rattle.sl_trace.specs.Leases.{LeaseKnown, StepKind, blocks_given, instance_for, is_at, kind_of_step, known_of, lease_calls, own_block, read_given, same_kind, shared_elsewhere, spot_of_call}
use Rattle.sl_trace.specs.declared.lease.LeaseNext.TheVariants.{AnswerJob, BecomeExclusive, BecomeShared, GrantJob, Nothing, ReadFor, WriteBlock, WriteLeader}
use Rattle.sl_trace.specs.declared.lease.LeaseNext.{LeaseNext}
use Rattle.sl_sector.specs.declared.sector.Block.{Block}
use Rattle.sl_sector.specs.declared.sector.Leader.{Leader}
use Rattle.sl_trace.specs.Sightings.{counts_over}
use Rattle.sl_trace.specs.declared.session.Session.{Session}
use Rattle.sl_trace.specs.Traces.{Submitted, bytes_given, gave}
use Rattle.sl_trace.specs.declared.command.Command.{Command}
use Rattle.sl_trace.specs.declared.effects.LeaseStep.{LeaseStep}
use Rattle.sl_trace.specs.declared.effects.Purpose.TheVariants.{Lease}
use Rattle.sl_trace.specs.declared.effects.Work.TheVariants.{ForJob}
use Rattle.sl_trace.specs.declared.input.Answer.TheVariants.{Read}
use Rattle.sl_trace.specs.declared.input.Answer.{Answer}
use Rattle.sl_trace.specs.declared.reply.Reply.{Reply}
use Rattle.std.proofs.Common.{◌∙◌}
use Rattle.std.specs.Prelude.{Bool, List, None, Ok, Option, Some, [], is_some, true, ℕ, ◌++◌, ◌∷◌, ◌≡◌}

-- The answer of the session's call at this step, for the job with this command; what was known of the lease by it.
pub record LeaseHeard (y : Answering) (s : Session) (c : Submitted) (a : Answer) (step : LeaseStep) (command : Command) : Type 0 where
  pub call : AnswersCall y c a
  pub commanded : y.job.command ≡ Ok command
  pub session : the_session y ≡ Some s
  -- what the lease's decision rests on, but its calls
  pub generation : ℕ
  pub shared : Bool
  pub exclusive : Option ℕ
  pub over : ℕ → ℕ → Bool
  -- its calls, this one the newest
  pub before : List Submitted
  pub calls : lease_calls y.setting (after_entry y) s (spot_of_call y.setting.layout c) ≡ c ∷ before
  pub gives : gave c ≡ bytes_given a
  pub for_job : c.call.purpose ≡ Lease (ForJob y.job.number) step
  -- a read that isn't made once more gave what the lease decides by
  pub told : (bytes : List ℕ) → gave c ≡ Some bytes → is_some (read_of_step (first_step step)) ≡ true → asked_again y.setting.layout bytes step ≡ None →
      read_given y.setting.layout c before ≡ Some (heard_by_lease y.setting.layout c before bytes step)
  -- the entry's end shows no more of it
  pub instances : (l : Leader) (own : Block) (read : List (Option Block)) →
      instance_for (known_here y s c) l own read
      ≡ instance_for (known_of y.setting.layout s.lockspace (record { id = s.id; generation = generation }) shared exclusive over (c ∷ before)) l own read
  pub modes : (read : List (Option Block)) →
      shared_elsewhere (known_here y s c) read
      ≡ shared_elsewhere (known_of y.setting.layout s.lockspace (record { id = s.id; generation = generation }) shared exclusive over (c ∷ before)) read
  pub counts : (id n : ℕ) → counts_over y.setting (after_entry y) s id n ≡ over id n

-- What was known.
abbrev pub knows : {y : Answering} {s : Session} {c : Submitted} {a : Answer} {step : LeaseStep} {command : Command} → LeaseHeard y s c a step command → LeaseKnown
knows {y} {s} {c} {a} {step} {command} h = known_of y.setting.layout s.lockspace (record { id = s.id; generation = h.generation }) h.shared h.exclusive h.over (c ∷ h.before)

-- What comes next has its cause, if it is one of these replies; and where it is a block, that it is has its own.
abbrev pub IsWell : (Reply → Bool) → Answering → LeaseNext → Type 0
IsWell these y Nothing = Unit {0}
IsWell these y (ReadFor step) = Unit {0}
IsWell these y (WriteBlock step b) = BlockIsNext y
IsWell these y (WriteLeader step l) = Unit {0}
IsWell these y (AnswerJob why) = these why ≡ true → CausedBy y why
IsWell these y (GrantJob mode lver) = Unit {0}
IsWell these y (BecomeShared lver l) = Unit {0}
IsWell these y (BecomeExclusive lver b) = BlockIsNext y

-- ---- the read

pub at_step : (y : Answering) (s : Session) (c : Submitted) (a : Answer) (step : LeaseStep) (command : Command) → LeaseHeard y s c a step command
    → (kind : StepKind) → same_kind (kind_of_step step) kind ≡ true → is_at kind c ≡ true
at_step y s c a step command h kind is = at_kind kind c (ForJob y.job.number) step h.for_job ∙ is

-- ---- what it shows

pub reads : (y : Answering) (s : Session) (c : Submitted) (bytes : List ℕ) (step : LeaseStep) (command : Command) → LeaseHeard y s c (Read bytes) step command
    → (P : Submitted → List ℕ → Type 0) → P c bytes → AnswersRead y P
reads y s c bytes step command h P holds = (c, bytes, h.call, holds)

-- What the entry's read shows of the blocks and the own block.
pub reads_blocks : (y : Answering) (s : Session) (c : Submitted) (bytes : List ℕ) (step : LeaseStep) (command : Command) → (h : LeaseHeard y s c (Read bytes) step command)
    → (blocks : List (Option Block)) (own : Block) → blocks_given y.setting.layout c h.before ≡ Some blocks → own_block y.setting.layout s.id (c ∷ h.before) ≡ Some own
    → (P : Session → Submitted → List (Option Block) → Block → Type 0) → P s c blocks own → ReadsBlocks y P
reads_blocks y s c bytes step command h blocks own given is P holds =
    with_session y s
    (λ s. AnswersRead y (λ c bytes. (blocks : List (Option Block)) × (own : Block) × (later before : List Submitted)
    × (blocks_given y.setting.layout c before ≡ Some blocks) × (lease_calls y.setting (after_entry y) s (spot_of_call y.setting.layout c) ≡ later ++ c ∷ before)
    × (own_block y.setting.layout s.id (c ∷ before) ≡ Some own) × P s c blocks own)) h.session
    (c, bytes, h.call, (blocks, own, [], h.before, given, h.calls, is, holds))
