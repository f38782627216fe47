-- The second phase of a ballot follows the read of the first: a lease decides on it by no other answer, and in the own block's instance.
use Rattle.sl_area.specs.AreaSizes.{Layout}
use Rattle.sl_trace.specs.LeaseDecisions.{LeasePlace, asked_again, first_step, lease_next}
use Rattle.sl_trace.specs.Leases.{LeaseKnown, is_second}
use Rattle.sl_trace.specs.declared.lease.Aim.{Aim}
use Rattle.sl_trace.specs.declared.lease.LeaseNext.TheVariants.{AnswerJob, ReadFor, WriteBlock, WriteLeader}
use Rattle.sl_trace.specs.declared.lease.LeaseNext.{LeaseNext}
use Rattle.sl_host_state.specs.HeardInputs.{kept_heard}
use Rattle.sl_sector.specs.declared.sector.Block.{Block}
use Rattle.sl_sector.specs.declared.sector.PairBlock.{PairBlock}
use Rattle.sl_trace.specs.Traces.{is_before_input}
use Rattle.sl_trace.specs.declared.effects.LeaseStep.TheVariants.{Phase1Read, Phase2Write}
use Rattle.sl_trace.specs.declared.effects.LeaseStep.{LeaseStep}
use Rattle.sl_trace.specs.declared.input.Answer.TheVariants.{Read}
use Rattle.sl_trace.specs.declared.input.Answer.{Answer}
use Rattle.sl_trace.specs.declared.reply.Reply.{Reply}
use Rattle.std.specs.Prelude.{IsTrue, List, None, Option, Some, false, is_some, not, ℕ, ◌||◌, ◌≡◌}

-- By the read of the first phase, in the instance of the own block.
pub record IsAfterRead (g : Layout) (k : LeaseKnown) (step : LeaseStep) (a : Answer) (b : Block) : Type 0 where
  pub own : Block
  pub submitted : k.own ≡ Some own
  pub instance : own.lver ≡ b.lver
  -- made once or once more
  pub at : first_step step ≡ Phase1Read
  pub bytes : List ℕ
  pub read : a ≡ Read bytes
  -- and by one that is not made once more after it
  pub given : asked_again g bytes step ≡ None

-- Its call, if it makes one, is no read that is made once more, unless this is kept of a first one.
abbrev pub IsOnceFor : Option (List (Option PairBlock)) → LeaseNext → Type 0
IsOnceFor kept (ReadFor s) = IsTrue (not (is_second s) || is_some kept)
IsOnceFor kept (WriteBlock s b) = is_second s ≡ false
IsOnceFor kept (WriteLeader s l) = is_second s ≡ false
IsOnceFor kept next = Unit {0}

pub record PhaseTwoFollows : Type 0 where
  pub second : (p : LeasePlace) (k : LeaseKnown) (aim : Aim) (call n : ℕ) (step : LeaseStep) (a : Answer) (b : Block) → lease_next p k aim call n step a ≡ WriteBlock Phase2Write b → IsAfterRead p.layout k step a b
  -- and none of its replies is one of before an input
  pub late : (p : LeasePlace) (k : LeaseKnown) (aim : Aim) (call n : ℕ) (step : LeaseStep) (a : Answer) (r : Reply) → lease_next p k aim call n step a ≡ AnswerJob r → is_before_input r ≡ false
  -- a read is made once more only by the answer of a first one, of which then something is kept
  pub once : (p : LeasePlace) (k : LeaseKnown) (aim : Aim) (call n : ℕ) (step : LeaseStep) (a : Answer) → IsOnceFor (kept_heard p.layout step a) (lease_next p k aim call n step a)
