use Rattle.sl_host_law.specs.StepParts.Spawns.{spawning}
use Rattle.sl_host_passes.proofs.ProcessesStand.{found_child, found_none, starts_not, starts_so}
use Rattle.sl_host_passes.proofs.processes.spawned.Goals as goal
use Rattle.sl_host_state.specs.HeardInputs.{heard_start}
use Rattle.sl_host_state.specs.KeptState.{HostState, state_of}
use Rattle.sl_host_work.specs.ProcessHoldings.{HoldsOnce}
use Rattle.sl_tables.specs.Children.{child_of}
use Rattle.sl_host.specs.Host.{Becomes, HostView}
use Rattle.std.proofs.Common.{ap, arith, subst, sym, ◌∙◌}
use Rattle.std.specs.Prelude.{Bool, Err, length, ℕ, ◌≡◌}

-- what is heard leaves holdings
same_holdings : (old new : HostView) (p : ℕ) (ok : Bool) → Becomes old new (heard_start p ok) → new.kept.holdings ≡ old.kept.holdings
same_holdings old new p ok heard = ap (λ (h : HostState). h.holdings) (heard (λ text. Err 0))

pub answer_start-requires-clause-once : goal.answer_start-requires-clause-once
answer_start-requires-clause-once c =
    subst (HoldsOnce c.args.process) (sym (same_holdings c.args.host.now c.hear_start.new.self c.args.process c.args.ok c.hear_start.ensures.state)) c.requires.once

pub answer_start-requires-clause-left : goal.answer_start-requires-clause-left
answer_start-requires-clause-left c =
    let same = ap (λ gs. length gs) (same_holdings c.args.host.now c.hear_start.new.self c.args.process c.args.ok c.hear_start.ensures.state) in omega (arith, same, c.requires.left, c.hear_start.ensures.left.0)

pub answer_start-requires-clause-orphans : goal.answer_start-requires-clause-orphans
answer_start-requires-clause-orphans c =
    let same = ap (λ gs. length gs) (same_holdings c.args.host.now c.hear_start.new.self c.args.process c.args.ok c.hear_start.ensures.state) in omega (arith, same, c.requires.orphans)

pub returns-in-Some-clause-state : goal.returns-in-Some-clause-state
returns-in-Some-clause-state c read =
    let first = state_of read c.args.host.now.kept in
    let found = found_child _ c.child.result c.copied-child.result c.in-Some.child first c.args.process c.child.ensures c.copied-child.ensures c.in-Some.is in
    c.answer_start.ensures.state read
    ∙ (ap (spawning c.args.process c.args.ok (child_of c.in-Some.child)) (c.hear_start.ensures.state read) ∙ starts_so c.args.process c.args.ok (child_of c.in-Some.child) first found)

pub returns-in-Some-clause-left : goal.returns-in-Some-clause-left
returns-in-Some-clause-left c =
    let same = ap (λ gs. length gs) (same_holdings c.args.host.now c.hear_start.new.self c.args.process c.args.ok c.hear_start.ensures.state) in
    let done = c.answer_start.ensures.left in
    (omega (arith, same, done.0, c.hear_start.ensures.left.0), omega (arith, done.1, c.hear_start.ensures.left.1))

pub returns-in-None-clause-state : goal.returns-in-None-clause-state
returns-in-None-clause-state c read =
    let first = state_of read c.args.host.now.kept in
    let none = found_none _ c.child.result c.copied-child.result first c.args.process c.child.ensures c.copied-child.ensures c.in-None.is in
    c.hear_start.ensures.state read ∙ starts_not c.args.process c.args.ok first none
