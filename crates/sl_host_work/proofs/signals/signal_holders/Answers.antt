use Rattle.sl_host_law.specs.StepParts.Signals.{over, sending}
use Rattle.sl_host_state.specs.KeptState.{state_of}
use Rattle.sl_host_work.proofs.NumbersRise.{those_above}
use Rattle.sl_host_work.proofs.SignalsStand.{comes_next, comes_none, first_length, holders_first, one_of_length, over_one}
use Rattle.sl_host_work.proofs.signals.signal_holders.Goals as goal
use Rattle.sl_host_work.specs.Holders.{holders_under}
use Rattle.std.proofs.Common.{ap, arith, refl, sym, ◌∙◌}

pub loop-process-init : goal.loop-process-init
loop-process-init c =
    let first = first_length c.args.session c.args.host.now.kept.holdings in
    record {
      comes = λ read. ap (λ ns. over ns (λ p. sending p c.args.signal) (state_of read c.args.host.now.kept)) (sym (holders_first c.args.session c.args.host.now.kept.holdings));
      stays = (refl, refl, refl);
      run = (refl, refl, (refl, refl, refl));
      room = omega (arith, first, c.requires);
      spent = omega (arith, first);
      calls = refl;
    }

pub send-requires : goal.send-requires
send-requires c =
    let next = comes_next c.args.session c.loop-process.last c.args.host.now.kept.holdings c.loop-process.host.kept.holdings c.in-Some.process c.holder_above.result c.in-Some.is c.holder_above.ensures c.loop-process.invariant.stays.0 in
    let one = one_of_length (those_above c.loop-process.last (holders_under c.args.session c.args.host.now.kept.holdings)) (those_above c.in-Some.process (holders_under c.args.session c.args.host.now.kept.holdings)) c.in-Some.process next in
    omega (arith, one, c.loop-process.invariant.room)

pub loop-process-smaller : goal.loop-process-smaller
loop-process-smaller c =
    let next = comes_next c.args.session c.loop-process.last c.args.host.now.kept.holdings c.loop-process.host.kept.holdings c.in-Some.process c.holder_above.result c.in-Some.is c.holder_above.ensures c.loop-process.invariant.stays.0 in
    let one = one_of_length (those_above c.loop-process.last (holders_under c.args.session c.args.host.now.kept.holdings)) (those_above c.in-Some.process (holders_under c.args.session c.args.host.now.kept.holdings)) c.in-Some.process next in
    omega (arith, one)

pub loop-process-preserved : goal.loop-process-preserved
loop-process-preserved c =
    let next = comes_next c.args.session c.loop-process.last c.args.host.now.kept.holdings c.loop-process.host.kept.holdings c.in-Some.process c.holder_above.result c.in-Some.is c.holder_above.ensures c.loop-process.invariant.stays.0 in
    let one = one_of_length (those_above c.loop-process.last (holders_under c.args.session c.args.host.now.kept.holdings)) (those_above c.in-Some.process (holders_under c.args.session c.args.host.now.kept.holdings)) c.in-Some.process next in
    let was = c.loop-process.invariant in
    let sent = c.send.ensures in
    record {
      comes = λ read. was.comes read ∙ over_one c.args.signal (those_above c.loop-process.last (holders_under c.args.session c.args.host.now.kept.holdings)) (those_above c.in-Some.process (holders_under c.args.session c.args.host.now.kept.holdings)) c.in-Some.process (state_of read c.loop-process.host.kept) (state_of read c.send.new.host.kept) next (sent.state read);
      stays = (sent.stays.0 ∙ was.stays.0, sent.stays.1 ∙ was.stays.1, sent.stays.2 ∙ was.stays.2);
      run = (sent.run.0 ∙ was.run.0, sent.run.1 ∙ was.run.1, (sent.run.2.0 ∙ was.run.2.0, sent.run.2.1 ∙ was.run.2.1, sent.run.2.2 ∙ was.run.2.2));
      room = omega (arith, one, was.room, sent.left.0);
      spent = omega (arith, one, was.spent, was.room, sent.left.0);
      calls = sent.left.1 ∙ was.calls;
    }

pub returns-clause-state : goal.returns-clause-state
returns-clause-state c read =
    let none = comes_none c.args.session c.loop-process.last c.args.host.now.kept.holdings c.loop-process.host.kept.holdings c.holder_above.result c.in_default.is c.holder_above.ensures c.loop-process.invariant.stays.0 in
    sym (c.loop-process.invariant.comes read ∙ ap (λ ns. over ns (λ p. sending p c.args.signal) (state_of read c.loop-process.host.kept)) none)
