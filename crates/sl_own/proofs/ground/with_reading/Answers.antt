-- There is one reading.
use Rattle.sl_live_run.specs.Clocks.{with_readings}
use Rattle.sl_own.proofs.ground.with_reading.Goals as goal
use Rattle.std.proofs.Common.{[], ap, ◌++◌, ◌∙◌, ◌∷◌}

pub returns : goal.returns
returns c =
    c.with_readings.ensures
    ∙ ap (λ readings. with_readings readings c.args.header)
    (c.push_reserved.ensures.items ∙ ap (λ xs. xs ++ record { machine = c.args.machine; reading = c.args.reading } ∷ []) (c.reserve.ensures.items ∙ c.new-readings.ensures.items))
