use Rattle.sl_host_law.specs.StepParts.Exits.{leaving, refusing_of}
use Rattle.sl_host_passes.proofs.ProcessesStand.{chosen_few, exits_so, leaving_jobs, left_few, held_few}
use Rattle.sl_host_passes.proofs.processes.exit.Goals as goal
use Rattle.sl_host_state.specs.HeardInputs.{heard_exit}
use Rattle.sl_host_state.specs.KeptState.{HostState, state_of}
use Rattle.sl_host_work.specs.ProcessHoldings.{HoldsOnce, held_by}
use Rattle.sl_trace.specs.Traces.{no_process, orphans_left}
use Rattle.sl_trace.specs.declared.effects.Grant.{Grant}
use Rattle.sl_host.specs.Host.{Becomes, HostView}
use Rattle.sl_host.specs.declared.passes.Chosen.TheVariants.{OfProcess}
use Rattle.std.proofs.Common.{ap, arith, subst, sym, ◌∙◌}
use Rattle.std.specs.Prelude.{Err, List, cond, false, length, true, ℕ, ◌*◌, ◌+◌, ◌==◌, ◌≡◌, ◌≤◌}

-- what is heard leaves holdings and jobs
same_holdings : (old new : HostView) (p : ℕ) → Becomes old new (heard_exit p) → new.kept.holdings ≡ old.kept.holdings
same_holdings old new p heard = ap (λ (h : HostState). h.holdings) (heard (λ text. Err 0))

same_jobs : (old new : HostView) (p : ℕ) → Becomes old new (heard_exit p) → new.kept.jobs ≡ old.kept.jobs
same_jobs old new p heard = ap (λ (h : HostState). h.jobs) (heard (λ text. Err 0))

few_ends : (old new : HostView) (p : ℕ) → Becomes old new (heard_exit p) → length (held_by p new.kept.holdings) + length (orphans_left p new.kept.holdings) ≤ 2 * length old.kept.holdings
few_ends old new p heard =
    let few = left_few p new.kept.holdings in let same : length new.kept.holdings ≡ length old.kept.holdings = ap (λ gs. length gs) (same_holdings old new p heard) in omega (arith, few, same)

-- so do the ends leave jobs
many_jobs : (old mid new : HostView) (p : ℕ) → Becomes old mid (heard_exit p) → Becomes mid new (leaving p) → length new.kept.jobs ≡ length old.kept.jobs
many_jobs old mid new p heard left =
    ap (λ js. length js) (ap (λ (h : HostState). h.jobs) (left (λ text. Err 0)) ∙ (leaving_jobs p (state_of (λ text. Err 0) mid.kept) ∙ same_jobs old mid p heard))

pub leave_holdings-requires-clause-once : goal.leave_holdings-requires-clause-once
leave_holdings-requires-clause-once c = subst (HoldsOnce c.args.process) (sym (same_holdings c.args.host.now c.hear_exit.new.self c.args.process c.hear_exit.ensures.state)) c.requires.once

pub leave_holdings-requires-clause-left : goal.leave_holdings-requires-clause-left
leave_holdings-requires-clause-left c =
    let few = few_ends c.args.host.now c.hear_exit.new.self c.args.process c.hear_exit.ensures.state in omega (arith, few, c.requires.left, c.hear_exit.ensures.left.0)

pub leave_holdings-requires-clause-room : goal.leave_holdings-requires-clause-room
leave_holdings-requires-clause-room c =
    let few = held_few c.args.process c.hear_exit.new.self.kept.holdings in
    let same = ap (λ (gs : List Grant). length gs) (same_holdings c.args.host.now c.hear_exit.new.self c.args.process c.hear_exit.ensures.state) in
    omega (arith, few, same, c.requires.orphans)

pub refuse_of_process-requires-clause-room : goal.refuse_of_process-requires-clause-room
refuse_of_process-requires-clause-room c =
    let many = many_jobs c.args.host.now c.hear_exit.new.self c.leave_holdings.new.host c.args.process c.hear_exit.ensures.state c.leave_holdings.ensures.state in omega (arith, many, c.requires.room)

pub refuse_of_process-requires-clause-left : goal.refuse_of_process-requires-clause-left
refuse_of_process-requires-clause-left c =
    let many = many_jobs c.args.host.now c.hear_exit.new.self c.leave_holdings.new.host c.args.process c.hear_exit.ensures.state c.leave_holdings.ensures.state in
    let few = chosen_few (OfProcess c.args.process) c.leave_holdings.new.host.kept.jobs in
    let ends = few_ends c.args.host.now c.hear_exit.new.self c.args.process c.hear_exit.ensures.state in
    omega (arith, many, few, ends, c.requires.left, c.hear_exit.ensures.left.0, c.leave_holdings.ensures.left.0)

pub returns-then-process-ne0-clause-state : goal.returns-then-process-ne0-clause-state
returns-then-process-ne0-clause-state c read =
    let p = c.args.process in
    let some : (p == no_process) ≡ false = grind (arith, c.if-process-ne0.true) in
    let first = state_of read c.args.host.now.kept in
    c.refuse_of_process.ensures.state read
    ∙ (ap (refusing_of p) (c.leave_holdings.ensures.state read)
    ∙ (ap (λ h. refusing_of p (leaving p h)) (c.hear_exit.ensures.state read) ∙ exits_so p (heard_exit p first) some))

pub returns-then-process-ne0-clause-left : goal.returns-then-process-ne0-clause-left
returns-then-process-ne0-clause-left c =
    let many = many_jobs c.args.host.now c.hear_exit.new.self c.leave_holdings.new.host c.args.process c.hear_exit.ensures.state c.leave_holdings.ensures.state in
    let few = chosen_few (OfProcess c.args.process) c.leave_holdings.new.host.kept.jobs in
    let ends = few_ends c.args.host.now c.hear_exit.new.self c.args.process c.hear_exit.ensures.state in (
      omega (arith, many, few, ends, c.hear_exit.ensures.left.0, c.leave_holdings.ensures.left.0, c.refuse_of_process.ensures.left.0),
      omega (arith, c.hear_exit.ensures.left.1, c.leave_holdings.ensures.left.1, c.refuse_of_process.ensures.left.1),
    )

pub returns-else-process-ne0-clause-state : goal.returns-else-process-ne0-clause-state
returns-else-process-ne0-clause-state c read =
    let p = c.args.process in
    let none : (p == no_process) ≡ true = grind (arith, c.if-process-ne0.false) in
    let h = heard_exit p (state_of read c.args.host.now.kept) in
    c.hear_exit.ensures.state read ∙ sym (ap (λ b. cond b h (refusing_of p (leaving p h))) none)
