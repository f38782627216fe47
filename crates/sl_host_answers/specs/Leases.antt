-- Work on a lease that goes on after an answer: what it does next, as it is found before it is done.
use Rattle.sl_host_law.specs.Questions.Jobs.{aim_in, goes_on_in}
use Rattle.sl_host_law.specs.Steps.Leases.{answered_next}
use Rattle.sl_host_state.specs.KeptState.{HostState, MemberState}
use Rattle.sl_host_state.specs.declared.kept_parts.OpenCall.{OpenCall}
use Rattle.sl_trace.specs.declared.lease.Aim.{Aim}
use Rattle.sl_trace.specs.declared.lease.LeaseNext.{LeaseNext}
use Rattle.sl_trace.specs.declared.session.Session.{Session}
use Rattle.sl_trace.specs.declared.effects.LeaseStep.{LeaseStep}
use Rattle.sl_trace.specs.declared.effects.Mode.TheVariants.{Exclusive, Shared}
use Rattle.sl_trace.specs.declared.effects.Mode.{Mode}
use Rattle.sl_trace.specs.declared.effects.Spot.{Spot}
use Rattle.sl_trace.specs.declared.effects.Work.{Work}
use Rattle.sl_trace.specs.declared.input.Answer.{Answer}
use Rattle.std.specs.Prelude.{Bool, None, Option, Some, cond, false, option_map, true}

-- The mode that a command asks for.
abbrev pub mode_wanted : Bool → Mode
mode_wanted shared = elim shared [ true ↦ Shared | false ↦ Exclusive ]

-- To what end a member's work goes on, if it does.
abbrev pub aim_on : HostState → Work → MemberState → Option Aim
aim_on h work m = cond (goes_on_in h m work) (aim_in h work) None

-- What it does next, with its session.
abbrev pub next_on : HostState → Spot → OpenCall → Work → LeaseStep → Answer → Option MemberState → Option (Session × LeaseNext)
next_on h at c work step a None = None
next_on h at c work step a (Some m) = option_map (λ aim. (m.who, answered_next h m at c aim step a)) (aim_on h work m)
