use Rattle.sl_lease.proofs.ToldLaws.{read_told_is}
use Rattle.sl_lease.proofs.lease.Lease.take_read.Goals as goal
use Rattle.sl_lease.specs.Changes.{read_told}
use Rattle.std.proofs.Common.{[], ap, unwrap_or, ◌∙◌}

pub returns : goal.returns
returns c =
    read_told_is c.args.side.now c.args.heeded c.args.step.now c.args.leader.now c.args.blocks.now
    (record {
      spot = c.self.inside.spot;
      own = c.self.inside.own;
      top = c.self.inside.top;
      name = unwrap_or c.self.inside.name [];
      freed = c.self.inside.freed;
      ballot = c.self.inside.ballot;
      shown = c.self.inside.shown;
      won = c.self.inside.won;
      waiting = c.self.inside.waiting;
      value = c.self.inside.value;
      pair = record { turn = c.self.inside.turn; first = c.self.inside.first; again = c.self.inside.again };
    })
    c.stop_told-stop.result c.top_told-self-inside.result (unwrap_or c.name_told-self-inside.result []) c.ballot_told-self-inside.result c.won_told-self-inside.result
    c.stop_told-stop.ensures c.top_told-self-inside.ensures c.name_told-self-inside.ensures c.ballot_told-self-inside.ensures.exact c.won_told-self-inside.ensures.exact
    ∙ ap (λ l. read_told c.args.side.now c.args.heeded c.args.step.now c.args.leader.now c.args.blocks.now l) c.self.view_is
