-- What the steps of a lease's calls do, and what a lease may do next.
use Rattle.sl_lease.specs.Bounds.{IsBegun, IsGranted, IsInstance}
use Rattle.sl_trace.specs.declared.lease.LeaseNext.TheVariants.{AnswerJob, BecomeExclusive, BecomeShared, GrantJob, Nothing, ReadFor, WriteBlock, WriteLeader}
use Rattle.sl_trace.specs.declared.lease.LeaseNext.{LeaseNext}
use Rattle.sl_trace.specs.declared.effects.LeaseRead.TheVariants.{OfArea, OfBlock, OfFree, OfPhase1, OfPhase2}
use Rattle.sl_trace.specs.declared.effects.LeaseStep.TheVariants.{ClearMode, FreeLeader, Phase1Read, Phase1Write, Phase2Read, Phase2Write, ReadAgain, ReadArea, ReadBeforeBlock, ReadBeforeFree, SetMode, TakeLeader}
use Rattle.sl_trace.specs.declared.effects.LeaseStep.{LeaseStep}
use Rattle.std.specs.Prelude.{Bool, IsTrue, false, true, ◌||◌}

-- Whether the step reads leader, request and blocks.
abbrev pub reads_area : LeaseStep → Bool
reads_area (ReadArea name) = true
reads_area ReadBeforeFree = true
reads_area ReadBeforeBlock = false
reads_area (ReadAgain (OfArea name)) = true
reads_area (ReadAgain OfFree) = true
reads_area (ReadAgain OfBlock) = false
reads_area (ReadAgain OfPhase1) = false
reads_area (ReadAgain OfPhase2) = false
reads_area Phase1Write = false
reads_area Phase1Read = false
reads_area Phase2Write = false
reads_area Phase2Read = false
reads_area TakeLeader = false
reads_area SetMode = false
reads_area FreeLeader = false
reads_area ClearMode = false

-- Whether the step reads the blocks alone.
abbrev pub reads_blocks : LeaseStep → Bool
reads_blocks (ReadArea name) = false
reads_blocks ReadBeforeFree = false
reads_blocks ReadBeforeBlock = true
reads_blocks (ReadAgain (OfArea name)) = false
reads_blocks (ReadAgain OfFree) = false
reads_blocks (ReadAgain OfBlock) = true
reads_blocks (ReadAgain OfPhase1) = true
reads_blocks (ReadAgain OfPhase2) = true
reads_blocks Phase1Write = false
reads_blocks Phase1Read = true
reads_blocks Phase2Write = false
reads_blocks Phase2Read = true
reads_blocks TakeLeader = false
reads_blocks SetMode = false
reads_blocks FreeLeader = false
reads_blocks ClearMode = false

-- Whether the step reads.
abbrev pub is_read_step : LeaseStep → Bool
is_read_step step = reads_area step || reads_blocks step

-- Whether the step writes the own block.
abbrev pub is_block_step : LeaseStep → Bool
is_block_step (ReadArea name) = false
is_block_step ReadBeforeFree = false
is_block_step ReadBeforeBlock = false
is_block_step (ReadAgain read) = false
is_block_step Phase1Write = true
is_block_step Phase1Read = false
is_block_step Phase2Write = true
is_block_step Phase2Read = false
is_block_step TakeLeader = false
is_block_step SetMode = true
is_block_step FreeLeader = false
is_block_step ClearMode = true

-- Whether the step writes the leader.
abbrev pub is_leader_step : LeaseStep → Bool
is_leader_step (ReadArea name) = false
is_leader_step ReadBeforeFree = false
is_leader_step ReadBeforeBlock = false
is_leader_step (ReadAgain read) = false
is_leader_step Phase1Write = false
is_leader_step Phase1Read = false
is_leader_step Phase2Write = false
is_leader_step Phase2Read = false
is_leader_step TakeLeader = true
is_leader_step SetMode = false
is_leader_step FreeLeader = true
is_leader_step ClearMode = false

-- What an acquire begins with, once or once more.
abbrev pub is_first_step : LeaseStep → Bool
is_first_step (ReadArea name) = true
is_first_step ReadBeforeFree = false
is_first_step ReadBeforeBlock = false
is_first_step (ReadAgain (OfArea name)) = true
is_first_step (ReadAgain OfFree) = false
is_first_step (ReadAgain OfBlock) = false
is_first_step (ReadAgain OfPhase1) = false
is_first_step (ReadAgain OfPhase2) = false
is_first_step Phase1Write = false
is_first_step Phase1Read = false
is_first_step Phase2Write = false
is_first_step Phase2Read = false
is_first_step TakeLeader = false
is_first_step SetMode = false
is_first_step FreeLeader = false
is_first_step ClearMode = false

-- What a lease does next can be submitted: a read at a step that reads; a block or a leader that is a record, at a step that writes it.
-- A grant's instance is one that may be granted; so is that of a holding that becomes exclusive. A holding that becomes shared keeps its
-- instance, so its leader is a record where that instance may be granted.
abbrev pub IsFitNext : LeaseNext → Type 0
IsFitNext Nothing = Unit {0}
IsFitNext (ReadFor step) = IsTrue (is_read_step step)
IsFitNext (WriteBlock step b) = IsTrue (is_block_step step) × IsBegun b
IsFitNext (WriteLeader step l) = IsTrue (is_leader_step step) × IsGranted l
IsFitNext (AnswerJob r) = Unit {0}
IsFitNext (GrantJob mode lver) = IsInstance lver
IsFitNext (BecomeShared lver l) = IsInstance lver → IsGranted l
IsFitNext (BecomeExclusive lver b) = IsInstance lver × IsBegun b

-- Whether it is a call.
abbrev pub makes_call : LeaseNext → Bool
makes_call Nothing = false
makes_call (ReadFor step) = true
makes_call (WriteBlock step b) = true
makes_call (WriteLeader step l) = true
makes_call (AnswerJob r) = false
makes_call (GrantJob mode lver) = false
makes_call (BecomeShared lver l) = true
makes_call (BecomeExclusive lver b) = true
