use Rattle.sl_due.specs.CarriedLease.{grant_of}
use Rattle.sl_host_state.specs.KeptState.{HostState, state_of}
use Rattle.sl_host_state.specs.MadeEffects.{with_grant, with_start}
use Rattle.sl_host_work.proofs.grants.start.Goals as goal
use Rattle.sl_trace.specs.Traces.{first_child}
use Rattle.sl_trace.specs.declared.effects.Grant.{Grant}
use Rattle.sl_trace.specs.declared.effects.Start.{Start}
use Rattle.std.proofs.Common.{ap, sym, ◌+◌, ◌∙◌}
use Rattle.std.specs.Prelude.{Err, None, Some, false, ℕ}

-- A grant leaves the number of the next child.
pub start-requires-clause-next : goal.start-requires-clause-next
start-requires-clause-next c = c.next_child-process.ensures ∙ ap (λ n. first_child + n) (sym (ap (λ h. h.started) (c.grant.ensures.state (λ text. Err 0))))

pub returns-clause-state : goal.returns-clause-state
returns-clause-state c read =
    let a = c.args in
    let begun : ℕ → Start = λ p. record { process = p; program = a.program; job = Some a.job; stands_for = None } in
    let made : ℕ → Grant → HostState = λ p g. with_start (begun p) (with_grant g (state_of read a.host.now.kept)) in
    let child = c.next_child-process.ensures in
    let held = c.grant_of.ensures ∙ ap (λ p. grant_of a.who.now a.resource.now p a.mode a.lver false) child in
    c.start.ensures.state read ∙ (ap (with_start (begun c.next_child-process.result)) (c.grant.ensures.state read) ∙ (λ i. made (child i) (held i)))
