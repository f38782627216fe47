use Rattle.sl_live_run.proofs.GivenLaws.{no_bytes, put_more, put_none}
use Rattle.sl_live_run.proofs.script.put.Goals as goal
use Rattle.std.proofs.Common.{◌≡◌}

pub returns-then-is_empty : goal.returns-then-is_empty
returns-then-is_empty g c = λ before so.
    put_none c.args.writer.now before c.args.text.items (no_bytes c.args.text.items _ _ c.is_empty.ensures c.if-is_empty.true c.args.text.ok.0) so

pub returns-in-Ok : goal.returns-in-Ok
returns-in-Ok g c = λ before so.
    let same : c.new.result ≡ c.args.text.items = cc in
    put_more c.args.writer.now c.put.new.seat before c.args.text.items c.new.result same so c.in-Ok.ensures.put
