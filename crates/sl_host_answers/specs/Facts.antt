-- What is known of a host that has heard an answer, which the parts of what is due to it rely on. Each holds by a law.
use Rattle.sl_area.specs.AreaSizes.{layout_of}
use Rattle.sl_host_answers.specs.declared.own_sectors.JoinAnswer.{JoinAnswer}
use Rattle.sl_host_law.specs.Questions.Jobs.{command_in, goes_on_in}
use Rattle.sl_host_law.specs.Steps.Leases.{blocks_at, kept_blocks, lease_at}
use Rattle.sl_host_state.specs.KeptState.{HostKept, MemberState}
use Rattle.sl_host_work.specs.LeaseQuestions.{IsNamedFor, IsShown, MayAsk, ReadStands}
use Rattle.sl_host_work.specs.SectorPlaces.{IsArea, IsPlaced}
use Rattle.sl_member.specs.HostMembers.{member_with}
use Rattle.sl_sector.specs.declared.sector.Block.{Block}
use Rattle.sl_trace.specs.declared.delta.DeltaNext.TheVariants.{Join}
use Rattle.sl_trace.specs.CommandForms.{IsCommand}
use Rattle.sl_trace.specs.declared.command.Command.{Command}
use Rattle.sl_trace.specs.declared.effects.Grant.{Grant}
use Rattle.sl_trace.specs.declared.effects.LeaseStep.{LeaseStep}
use Rattle.sl_trace.specs.declared.effects.Spot.{Spot}
use Rattle.sl_trace.specs.declared.effects.Work.{Work}
use Rattle.sl_host.specs.BookQuestions.{state_in}
use Rattle.sl_host.specs.ReplyJoinings.{HasClaims}
use Rattle.sl_host.specs.declared.told_answers.Told.{Told}
use Rattle.sl_trace.specs.declared.input.Answer.TheVariants.{Read}
use Rattle.sl_words.specs.Bounds.{moments}
use Rattle.std.specs.Prelude.{Contains, List, Option, Some, true, ℕ, ◌<◌, ◌≡◌}

-- After the read of leader and request for a job: what its command names is of the layout.
pub record RequestKnown (k : HostKept) (job : ℕ) : Type 0 where
  pub timely : k.reading < moments
  pub command : (c : Command) → command_in (state_in k) job ≡ Some c → IsCommand (layout_of k.config.sizes) c

-- After a read of all ids: each holding's area stands at a base.
pub record SurveyKnown (k : HostKept) : Type 0 where
  pub timely : k.reading < moments
  pub based : (g : Grant) → Contains k.holdings g → IsArea k.config.sizes g.offset

-- After an answer of a call for a member's lease on an area, at a step of its work, where these were the blocks read last: the session and the area
-- are placed, the lease may be asked, and its resource's name was verified.
pub record LeaseKnown (k : HostKept) (at : Spot) (step : LeaseStep) (read : List (Option Block)) (m : MemberState) : Type 0 where
  pub placed : IsPlaced k.config.sizes m.who
  pub area : IsArea k.config.sizes at.base
  pub asked : MayAsk (state_in k) m at read
  pub named : IsNamedFor m at step

-- After a read that gave these bytes: the blocks are those that it gave, if any, and the lease has heard it.
pub record LeaseRead (k : HostKept) (at : Spot) (step : LeaseStep) (bytes : List ℕ) (m : MemberState) : Type 0 where
  pub stands : ReadStands (layout_of k.config.sizes) m at step bytes
  pub known : LeaseKnown k at step (blocks_at (layout_of k.config.sizes) (lease_at m at) step (Read bytes)) m

-- And the lease is told so what the read gave.
pub record LeaseTold (k : HostKept) (at : Spot) (step : LeaseStep) (bytes : List ℕ) (told : Told) (blocks : List (Option Block)) (m : MemberState) : Type 0 where
  pub shown : IsShown k.config.sizes m at step bytes told blocks
  pub known : LeaseKnown k at step (blocks_at (layout_of k.config.sizes) (lease_at m at) step (Read bytes)) m

-- So it is of the member of a number where its work goes on: after a read that gave these bytes, where it is told so, and after another
-- answer.
abbrev pub ReadKnown : HostKept → Spot → ℕ → Work → LeaseStep → List ℕ → Type 0
ReadKnown k at n work step bytes = (m : MemberState) → member_with n k.members ≡ Some m → goes_on_in (state_in k) m work ≡ true → LeaseRead k at step bytes m

abbrev pub ToldKnown : HostKept → Spot → ℕ → Work → LeaseStep → List ℕ → Told → List (Option Block) → Type 0
ToldKnown k at n work step bytes told blocks =
    (m : MemberState) → member_with n k.members ≡ Some m → goes_on_in (state_in k) m work ≡ true → LeaseTold k at step bytes told blocks m

abbrev pub WorkKnown : HostKept → Spot → ℕ → Work → LeaseStep → Type 0
WorkKnown k at n work step =
    (m : MemberState) → member_with n k.members ≡ Some m → goes_on_in (state_in k) m work ≡ true → LeaseKnown k at step (kept_blocks (lease_at m at)) m

-- After an answer of a joining, as it was decided: its session is placed, and where it is joined by it, it has claimed a generation.
pub record JoinKnown (k : HostKept) (f : JoinAnswer) : Type 0 where
  pub timely : k.reading < moments
  pub placed : IsPlaced k.config.sizes f.who
  pub claims : (j generation renewed : ℕ) → f.who.job ≡ Some j → f.next ≡ Join generation renewed → HasClaims j k.members
