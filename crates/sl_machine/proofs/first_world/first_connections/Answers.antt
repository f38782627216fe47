use Rattle.sl_machine.proofs.PlainFilled.{map_given, one_more_given, take_past}
use Rattle.sl_machine.proofs.first_world.first_connections.Goals as goal
use Rattle.sl_run.specs.Worlds.{given_of}
use Rattle.sl_run.specs.declared.header.SessionLine.{SessionLine}
use Rattle.sl_trace.specs.WatchdogConnections.{Connection, given_connection}
use Rattle.std.proofs.Common.{List, Option, ap, option_map, ◌++◌, ◌∙◌}
use Rattle.std.specs.List.{filter_map}
use Rattle.std.specs.Option.{option_to_list}

pub loop-session-preserved : goal.loop-session-preserved
loop-session-preserved c =
    one_more_given (λ s. option_map (given_connection c.args.header.now.timing) (given_of c.args.header.now c.args.machine s)) c.as_slice-session-items.result.now
    c.loop-session.session-index c.session-item.result c.loop-session.connections.connections c.register.new.connections.connections c.loop-session-test.true c.session-item.is
    c.loop-session.invariant (c.in_ok-register.ensures ∙ ap (λ o. c.loop-session.connections.connections ++ option_to_list o) c.connection_of.ensures)

pub returns : goal.returns
returns c =
    let f : SessionLine → Option Connection = λ s. option_map (given_connection c.args.header.now.timing) (given_of c.args.header.now c.args.machine s) in
    c.loop-session.invariant
    ∙ ap (filter_map f) (take_past c.loop-session.session-index c.as_slice-session-items.result.now c.loop-session-test.false)
    ∙ ap (λ (ss : List SessionLine). filter_map f ss) c.as_slice-session-items.ensures
    ∙ map_given (given_connection c.args.header.now.timing) (given_of c.args.header.now c.args.machine) c.args.header.now.sessions
