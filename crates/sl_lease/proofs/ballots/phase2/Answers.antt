use Rattle.sl_lease.proofs.RecordFacts.{hosts_few, phase2_begun}
use Rattle.sl_lease.proofs.ballots.phase2.Goals as goal
use Rattle.sl_trace.specs.Ballots.{ballot_blocks, moded_block, phase2_block}
use Rattle.std.proofs.Common.{cond, refl, rules, ◌≡◌}

pub returns-clause-fit : goal.returns-clause-fit
returns-clause-fit c = λ is.
    let block : c.moded_block.result
    ≡ moded_block (phase2_block c.args.side.now.me c.args.own.now (ballot_blocks c.args.own.now c.args.read.now)) c.args.held.shared (cond c.args.held.shared c.args.side.now.me.generation 0) = search rules in (
      refl,
      phase2_begun c.args.side.now.geometry c.args.side.now.me c.args.own.now c.args.read.now c.args.held.shared _ c.requires.session
          (hosts_few c.args.side.now.geometry c.hosts-hosts.ensures.geometry) is c.requires.blocks block,
    )
