-- How far an input reaches of what a host keeps.
use Rattle.sl_host_state.specs.KeptState.{HostKept}
use Rattle.sl_host_step.specs.declared.step_memory.Reach.TheVariants.{All, Few}
use Rattle.sl_host_step.specs.declared.step_memory.Reach.{Reach}
use Rattle.sl_trace.specs.Sessions.{is_survey_purpose}
use Rattle.sl_trace.specs.declared.command.Command.TheVariants.{RemLockspace}
use Rattle.sl_trace.specs.declared.command.Command.{Command}
use Rattle.std.specs.Option.{option_map_or}
use Rattle.std.specs.Prelude.{Bool, cond, find, ℕ, ◌==◌}

-- A command that leaves a lockspace has to do with all that is held in it, and with all jobs.
abbrev pub reach_of : Command → Reach
reach_of (RemLockspace a) = All
reach_of c = Few

-- So has the answer to a call that reads all ids: a recovery may begin by it.
abbrev pub reach_in : Bool → Reach
reach_in surveys = cond surveys All Few

-- By the call of a number.
abbrev pub reach_at : HostKept → ℕ → Reach
reach_at k number = option_map_or (λ c. reach_in (is_survey_purpose c.purpose)) (find (λ c. c.number == number) k.unanswered) Few
