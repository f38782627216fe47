use Rattle.sl_host_state.specs.KeptState.{state_of}
use Rattle.sl_host_state.specs.MadeEffects.{with_move}
use Rattle.sl_host_work.proofs.delta.register.Goals as goal
use Rattle.sl_time.specs.Times.{fail}
use Rattle.sl_trace.specs.declared.effects.Move.TheVariants.{Register}
use Rattle.std.proofs.Common.{ap, ◌+◌, ◌∙◌}

pub returns-clause-state : goal.returns-clause-state
returns-clause-state c read =
    let kept = c.args.host.now.kept in
    c.move_on.ensures.state read
    ∙ ap (λ n. with_move (Register c.args.who.now.lockspace n) (state_of read kept)) (c.expiry-expiry.ensures ∙ ap (λ n. n + fail kept.config.timing) c.reading-now.ensures)
