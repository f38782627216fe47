-- What a conversion does first.
use Rattle.sl_trace.specs.Ballots.{moded_block}
use Rattle.sl_trace.specs.Leases.{LeaseKnown}
use Rattle.sl_trace.specs.declared.lease.LeaseNext.TheVariants.{ReadFor, Nothing, WriteBlock}
use Rattle.sl_trace.specs.declared.lease.LeaseNext.{LeaseNext}
use Rattle.sl_trace.specs.declared.effects.LeaseStep.TheVariants.{ReadArea, SetMode}
use Rattle.sl_trace.specs.declared.effects.Mode.TheVariants.{Exclusive, Shared}
use Rattle.sl_trace.specs.declared.effects.Mode.{Mode}
use Rattle.std.specs.Option.{option_map_or}
use Rattle.std.specs.Prelude.{List, true, ℕ}

-- A conversion to shared begins with the own block's mode, while the leader still stands; one to exclusive with the read of the area,
-- while the mode still stands.
abbrev pub convert_next : LeaseKnown → Mode → List ℕ → LeaseNext
convert_next k Shared name = option_map_or (λ own. WriteBlock SetMode (moded_block own true k.self.generation)) k.own Nothing
convert_next k Exclusive name = ReadFor (ReadArea name)
