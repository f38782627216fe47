use Rattle.sl_run.specs.Worlds.{given_of}
use Rattle.sl_world.proofs.sites.given_to.Given as goal
use Rattle.std.proofs.Common.{take, ◌≡◌}
use Rattle.std.specs.List.{filter_map}

abbrev pub invariant-loop-session : goal.invariant-loop-session
invariant-loop-session l = l.given.items ≡ filter_map (given_of l.header l.machine) (take l.session-index l.session-items)
