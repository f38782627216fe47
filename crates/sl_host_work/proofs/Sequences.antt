-- One change of a host after another.
use Rattle.sl_host_law.specs.Answers.CarriedDecisions.{for_job_of}
use Rattle.sl_host_law.specs.Answers.LeaseDecisions.{converting}
use Rattle.sl_host_state.specs.KeptState.{HostState}
use Rattle.sl_host_work.specs.LeaseWork.{converting_under, otherwise_under}
use Rattle.sl_trace.specs.Jobs.{process_named}
use Rattle.sl_trace.specs.declared.session.Session.{Session}
use Rattle.sl_trace.specs.declared.command.Command.{Command}
use Rattle.sl_trace.specs.declared.effects.Grant.{Grant}
use Rattle.sl_trace.specs.declared.effects.Mode.{Mode}
use Rattle.sl_trace.specs.declared.effects.Spot.{Spot}
use Rattle.std.proofs.Common.{ap, sym, ◌∙◌}
use Rattle.std.specs.Prelude.{None, Option, Some, ℕ, ◌≡◌}

-- For a job that is there.
pub for_one : (s : Session) (j : ℕ) (f : ℕ → HostState → HostState) (h : HostState) → s.job ≡ Some j → f j h ≡ for_job_of s f h
for_one s j f h is = sym (ap (λ (o : Option ℕ). elim o as (λ z. HostState) [ None ↦ h | Some n ↦ f n h ]) is)

-- The process that the command names holds so.
pub converted_one : (s : Session) (at : Spot) (j : ℕ) (c : Command) (mode : Mode) (lver : ℕ) (h : HostState) (p : ℕ) (g : Grant) → Some p ≡ process_named c → Some g ≡ otherwise_under s at p mode h.holdings
    → converting j mode lver g h ≡ converting_under s at j c mode lver h
converted_one s at j c mode lver h p g named held =
    ap (λ (o : Option Grant). elim o as (λ z. HostState) [ None ↦ h | Some e ↦ converting j mode lver e h ]) held
    ∙ ap (λ (o : Option ℕ). elim o as (λ z. HostState) [ None ↦ h | Some q ↦ elim (otherwise_under s at q mode h.holdings) as (λ z. HostState) [ None ↦ h | Some e ↦ converting j mode lver e h ] ]) named
