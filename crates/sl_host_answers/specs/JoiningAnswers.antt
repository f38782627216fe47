-- What an answer of a joining comes to, as it is decided before the host hears it.
use Rattle.sl_host_answers.specs.declared.own_sectors.JoinAnswer.{JoinAnswer}
use Rattle.sl_host_law.specs.Answers.CarriedDecisions.{carrying}
use Rattle.sl_host_law.specs.StepParts.Ends.{removing}
use Rattle.sl_host_law.specs.Questions.Jobs.{running_in}
use Rattle.sl_host_law.specs.Steps.Answers.{joining_next}
use Rattle.sl_host_state.specs.KeptState.{HostState, MemberState}
use Rattle.sl_host_state.specs.MadeEffects.{has_write_open}
use Rattle.sl_host_state.specs.declared.kept_parts.OpenCall.{OpenCall}
use Rattle.sl_trace.specs.declared.session.Session.{Session}
use Rattle.sl_trace.specs.declared.effects.JoinStep.{JoinStep}
use Rattle.sl_trace.specs.declared.input.Answer.{Answer}
use Rattle.std.specs.Prelude.{Bool, cond, not, ℕ, ◌&&◌}

-- Of a member that makes the call: its session, whether its joining was refused, and what it does next.
abbrev pub join_answer : HostState → OpenCall → JoinStep → Answer → MemberState → JoinAnswer
join_answer h c step a m = record { who = m.who; refused = m.refused; next = joining_next h m c step a }

-- A joining that was refused loses its connection with its last write.
abbrev pub parting : Session → Bool → HostState → HostState
parting s refused g = cond (refused && not (has_write_open g s.number)) (removing s.lockspace g) g

-- It is done, while the joining's job runs.
abbrev pub joining_by : JoinAnswer → ℕ → HostState → HostState
joining_by f j g = cond (running_in g j) (carrying f.who f.next g) (parting f.who f.refused g)
