use Rattle.sl_host_passes.proofs.ProcessesStand.{held_few}
use Rattle.sl_host_passes.proofs.processes.not_started.Goals as goal
use Rattle.std.proofs.Common.{arith}

pub end_holdings-requires-clause-left : goal.end_holdings-requires-clause-left
end_holdings-requires-clause-left c = let few = held_few c.args.process c.args.host.now.kept.holdings in omega (arith, few, c.requires.left)

pub end_holdings-requires-clause-room : goal.end_holdings-requires-clause-room
end_holdings-requires-clause-room c = let few = held_few c.args.process c.args.host.now.kept.holdings in omega (arith, few, c.requires.orphans)

pub reply_to-requires-clause-left : goal.reply_to-requires-clause-left
reply_to-requires-clause-left c = let few = held_few c.args.process c.args.host.now.kept.holdings in omega (arith, few, c.requires.left, c.end_holdings.ensures.left.0)

pub send_term-requires : goal.send_term-requires
send_term-requires c =
    let few = held_few c.args.process c.args.host.now.kept.holdings in omega (arith, few, c.requires.left, c.end_holdings.ensures.left.0, c.reply_to.ensures.left.0)

pub returns-clause-left : goal.returns-clause-left
returns-clause-left c =
    let few = held_few c.args.process c.args.host.now.kept.holdings in (
      omega (arith, few, c.end_holdings.ensures.left.0, c.reply_to.ensures.left.0, c.send_term.ensures.left.0),
      omega (arith, c.end_holdings.ensures.left.1, c.reply_to.ensures.left.1, c.send_term.ensures.left.1),
    )
