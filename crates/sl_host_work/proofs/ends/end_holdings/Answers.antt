use Rattle.sl_host_state.specs.KeptState.{state_of}
use Rattle.sl_host_state.specs.MadeEffects.{with_end}
use Rattle.sl_host_work.proofs.EndsStand.{ended_last, ended_next, held_after, once_after, one_less, some_held}
use Rattle.sl_host_work.proofs.OrphansStand.{noted_all, noted_next, notes_are, one_more_at_most}
use Rattle.sl_host_work.proofs.ends.end_holdings.Goals as goal
use Rattle.sl_host_work.specs.ProcessHoldings.{held_by}
use Rattle.sl_trace.specs.Traces.{end_of, orphans_left}
use Rattle.sl_trace.specs.declared.effects.End.{End}
use Rattle.sl_trace.specs.declared.effects.Grant.{Grant}
use Rattle.sl_host.specs.Host.{Becomes, HostView}
use Rattle.std.proofs.Common.{ap, arith, refl, sym, ◌≡◌, ◌∙◌}
use Rattle.std.specs.Prelude.{[], length, ◌+◌, ◌++◌, ◌≤◌}

-- the end of the holding that was found
ended : (old new : HostView) (e : End) (g : Grant) → e ≡ end_of g → Becomes old new (with_end e) → Becomes old new (with_end (end_of g))
ended old new e g is one read = one read ∙ ap (λ z. with_end z (state_of read old.kept)) is

pub loop-grant-init : goal.loop-grant-init
loop-grant-init c =
    let none : c.clear.new.self.items ≡ [] = ap (λ n. n.items) c.clear.ensures in
    let start : c.clear.new.self.items ++ orphans_left c.args.process c.args.host.now.kept.holdings ≡ orphans_left c.args.process c.args.host.now.kept.holdings = ap (λ gs. gs ++ orphans_left c.args.process c.args.host.now.kept.holdings) none in
    let empty : length c.clear.new.self.items ≡ 0 = ap (λ gs. length gs) none in
    let fits_in : length c.clear.new.self.items + length (held_by c.args.process c.args.host.now.kept.holdings) ≤ c.args.orphans.now.most = omega (arith, empty, c.requires.room) in
    record { comes = λ read. refl; once = c.requires.once; run = (refl, refl, (refl, refl, refl)); room = c.requires.left; spent = omega arith; calls = omega arith; noted = start; most = ap (λ n. n.most) c.clear.ensures; few = fits_in }

pub end-requires : goal.end-requires
end-requires c =
    let found = sym c.first_of.ensures ∙ (sym c.copied.ensures ∙ c.in-Some.is) in
    let some = some_held c.args.process c.in-Some.grant c.loop-grant.host.kept.holdings c.loop-grant.invariant.once found in
    omega (arith, some, c.loop-grant.invariant.room)

pub loop-grant-smaller : goal.loop-grant-smaller
loop-grant-smaller c =
    let found = sym c.first_of.ensures ∙ (sym c.copied.ensures ∙ c.in-Some.is) in
    let one = ended c.loop-grant.host c.end.new.self c.end_of.result c.in-Some.grant c.end_of.ensures c.end.ensures.state in
    let less = one_less c.args.process c.in-Some.grant c.loop-grant.host c.end.new.self c.loop-grant.invariant.once found one in
    omega (arith, less)

pub loop-grant-preserved : goal.loop-grant-preserved
loop-grant-preserved c =
    let was = c.loop-grant.invariant in
    let found = sym c.first_of.ensures ∙ (sym c.copied.ensures ∙ c.in-Some.is) in
    let one = ended c.loop-grant.host c.end.new.self c.end_of.result c.in-Some.grant c.end_of.ensures c.end.ensures.state in
    let less = one_less c.args.process c.in-Some.grant c.loop-grant.host c.end.new.self was.once found one in
    let more = one_more_at_most c.loop-grant.host.kept.holdings c.in-Some.grant c.loop-grant.orphans.items in
    record {
      comes = λ read. was.comes read ∙ ended_next c.args.process c.in-Some.grant (state_of read c.loop-grant.host.kept) (state_of read c.end.new.self.kept) was.once found (one read);
      once = once_after c.args.process c.in-Some.grant c.loop-grant.host c.end.new.self was.once one;
      run = (c.end.ensures.run.0 ∙ was.run.0, c.end.ensures.run.1 ∙ was.run.1, (c.end.ensures.run.2.0 ∙ was.run.2.0, c.end.ensures.run.2.1 ∙ was.run.2.1, c.end.ensures.run.2.2 ∙ was.run.2.2));
      room = omega (arith, less, was.room, c.end.ensures.left.0);
      spent = omega (arith, less, was.room, was.spent, c.end.ensures.left.0);
      calls = omega (arith, was.calls, c.end.ensures.left.1);
      noted = ap (λ n. n.items ++ orphans_left c.args.process c.end.new.self.kept.holdings) c.note_orphan.ensures ∙ (noted_next c.args.process c.loop-grant.host.kept.holdings c.end.new.self.kept.holdings c.loop-grant.orphans.items c.in-Some.grant c.requires.some was.once found (held_after c.in-Some.grant c.loop-grant.host c.end.new.self one) ∙ was.noted);
      most = ap (λ n. n.most) c.note_orphan.ensures ∙ was.most;
      few = omega (arith, less, was.few, more, ap (λ n. length n.items) c.note_orphan.ensures);
    }

pub returns-clause-state : goal.returns-clause-state
returns-clause-state c read =
    let none = sym c.first_of.ensures ∙ (sym c.copied.ensures ∙ c.in_default.is) in
    sym (c.loop-grant.invariant.comes read ∙ ended_last c.args.process (state_of read c.loop-grant.host.kept) none)

pub note_orphan-requires : goal.note_orphan-requires
note_orphan-requires c =
    let found = sym c.first_of.ensures ∙ (sym c.copied.ensures ∙ c.in-Some.is) in
    let some = some_held c.args.process c.in-Some.grant c.loop-grant.host.kept.holdings c.loop-grant.invariant.once found in
    omega (arith, some, c.loop-grant.invariant.few, c.loop-grant.invariant.most)

pub returns-clause-orphans : goal.returns-clause-orphans
returns-clause-orphans c =
    let none = sym c.first_of.ensures ∙ (sym c.copied.ensures ∙ c.in_default.is) in
    notes_are c.loop-grant.orphans c.args.orphans.now (orphans_left c.args.process c.args.host.now.kept.holdings)
    (noted_all c.args.process c.loop-grant.host.kept.holdings c.args.host.now.kept.holdings c.loop-grant.orphans.items c.loop-grant.invariant.noted none) c.loop-grant.invariant.most
