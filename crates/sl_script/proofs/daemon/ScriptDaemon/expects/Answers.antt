use Rattle.sl_script.proofs.ScriptsFollow.{expects_start}
use Rattle.sl_script.proofs.daemon.ScriptDaemon.expects.Goals as goal
use Rattle.sl_script.specs.ScriptStates.{starts_wait}
use Rattle.sl_trace.specs.Traces.{is_expected}
use Rattle.std.proofs.Common.{ap, sym, ◌∙◌}

pub returns-in-Spawned : goal.returns-in-Spawned
returns-in-Spawned c st es follows =
    c.is_starting.ensures ∙ ap (starts_wait c.in-Spawned.process) c.children.ensures ∙ expects_start c.args.self.now st es follows c.in-Spawned.process
    ∙ sym (ap (is_expected st es) c.in-Spawned.is)
