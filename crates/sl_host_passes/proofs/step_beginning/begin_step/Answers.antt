use Rattle.sl_host_passes.proofs.LessIsLeft.{lessened, no_more, no_more_on}
use Rattle.sl_host_passes.proofs.PartsLessen.{begun_lessens}
use Rattle.sl_host_passes.proofs.QuietBefore.{quiet_before}
use Rattle.sl_host_passes.proofs.step_beginning.begin_step.Goals as goal
use Rattle.sl_host_passes.specs.PassesLessen.{IsNoMore}
use Rattle.sl_host_state.specs.HeardInputs.{begun}
use Rattle.sl_host_state.specs.KeptState.{state_of}
use Rattle.sl_host.specs.Host.{Becomes, HostView}
use Rattle.std.proofs.Common.{ap, arith, sym, ◌∙◌}
use Rattle.std.specs.Prelude.{length, ℕ, ◌<◌, ◌≡◌}

fewer : (old new : HostView) (now : ℕ) → Becomes old new (begun now) → IsNoMore old.kept new.kept
fewer old new now comes = no_more old.kept new.kept (lessened old new (begun now) (begun_lessens now) comes)

pub before_input-requires-clause-members : goal.before_input-requires-clause-members
before_input-requires-clause-members c = let few = (fewer c.args.host.now c.begin.new.self c.args.now c.begin.ensures.state).members in omega (arith, few, c.requires.members)

pub before_input-requires-clause-room : goal.before_input-requires-clause-room
before_input-requires-clause-room c = let few = (fewer c.args.host.now c.begin.new.self c.args.now c.begin.ensures.state).jobs in omega (arith, few, c.requires.room)

same_held : (old new : HostView) (now : ℕ) → Becomes old new (begun now) → length new.kept.holdings ≡ length old.kept.holdings
same_held old new now comes = ap (λ gs. length gs) (fewer old new now comes).holdings

pub before_input-requires-clause-left : goal.before_input-requires-clause-left
before_input-requires-clause-left c =
    let few = (fewer c.args.host.now c.begin.new.self c.args.now c.begin.ensures.state).jobs in
    let held = same_held c.args.host.now c.begin.new.self c.args.now c.begin.ensures.state in
    let left = c.requires.left (grind (arith, c.if-not-quiet.true, c.quiet_until.ensures)) in
    omega (arith, few, held, left, c.begin.ensures.left.0)

pub returns-then-not-quiet-clause-left : goal.returns-then-not-quiet-clause-left
returns-then-not-quiet-clause-left c =
    let few = (fewer c.args.host.now c.begin.new.self c.args.now c.begin.ensures.state).jobs in
    let held = same_held c.args.host.now c.begin.new.self c.args.now c.begin.ensures.state in
    let done = c.before_input.ensures.left in
    (omega (arith, few, held, done.0, c.begin.ensures.left.0), omega (arith, done.1, c.begin.ensures.left.1))

pub returns-then-not-quiet-clause-fewer : goal.returns-then-not-quiet-clause-fewer
returns-then-not-quiet-clause-fewer c =
    no_more_on c.args.host.now.kept c.begin.new.self.kept c.before_input.new.host.kept (fewer c.args.host.now c.begin.new.self c.args.now c.begin.ensures.state) c.before_input.ensures.fewer

pub returns-else-not-quiet-clause-state : goal.returns-else-not-quiet-clause-state
returns-else-not-quiet-clause-state c read =
    let first = c.args.host.now.kept in
    let below : c.args.now < first.quiet_until = grind (arith, c.if-not-quiet.false, c.quiet_until.ensures) in
    c.begin.ensures.state read ∙ sym (quiet_before c.args.now (state_of read first) below c.requires.known.quiet c.requires.known.before)

pub returns-else-not-quiet-clause-fewer : goal.returns-else-not-quiet-clause-fewer
returns-else-not-quiet-clause-fewer c = fewer c.args.host.now c.begin.new.self c.args.now c.begin.ensures.state
