-- What a release does first.
use Rattle.sl_trace.specs.Ballots.{moded_block}
use Rattle.sl_trace.specs.Leases.{LeaseKnown}
use Rattle.sl_trace.specs.declared.lease.LeaseNext.TheVariants.{Nothing, WriteBlock, WriteLeader}
use Rattle.sl_trace.specs.declared.lease.LeaseNext.{LeaseNext}
use Rattle.sl_trace.specs.declared.effects.LeaseStep.TheVariants.{ClearMode, FreeLeader}
use Rattle.sl_trace.specs.declared.effects.Mode.TheVariants.{Exclusive, Shared}
use Rattle.sl_trace.specs.declared.effects.Mode.{Mode}
use Rattle.std.specs.Option.{option_map_or}
use Rattle.std.specs.Prelude.{false, ℕ}
use Rattle.sl_trace.specs.LeaseDecisions.{LeasePlace, leader_for}

-- The last holding under the lease has ended by a release: an exclusive lease frees the leader, a shared one clears its mode.
abbrev pub release_next : LeasePlace → LeaseKnown → Mode → ℕ → LeaseNext
release_next p k Exclusive lver = WriteLeader FreeLeader (leader_for p k false lver)
release_next p k Shared lver = option_map_or (λ own. WriteBlock ClearMode (moded_block own false 0)) k.own Nothing
