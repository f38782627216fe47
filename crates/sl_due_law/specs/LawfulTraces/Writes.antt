-- That what is decided is written as a record.
use Rattle.sl_trace.specs.declared.lease.LeaseNext.TheVariants.{BecomeExclusive, BecomeShared, WriteBlock, WriteLeader}
use Rattle.sl_trace.specs.declared.lease.LeaseNext.{LeaseNext}
use Rattle.sl_sector.specs.Records.{IsBlock, IsLeader}

-- What a lease writes next, if anything, is a record.
abbrev pub LeaseWrites : LeaseNext → Type 0
LeaseWrites (WriteBlock step b) = IsBlock b
LeaseWrites (WriteLeader step l) = IsLeader l
LeaseWrites (BecomeShared lver l) = IsLeader l
LeaseWrites (BecomeExclusive lver b) = IsBlock b
LeaseWrites next = Unit {0}
