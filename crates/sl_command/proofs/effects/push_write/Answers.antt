use Rattle.sl_command.proofs.LineLaws.{write_written}
use Rattle.sl_command.proofs.effects.push_write.Goals as goal

pub returns-clause-ok : goal.returns-clause-ok
returns-clause-ok c =
    let call = c.args.call.now in
    write_written c.push_text-2.result c.args.out.now.items _ _ _ _ call.path c.args.machine call.number call.offset c.args.written.now c.in_ok-push_place.ensures.ok
    c.in_ok-push_text.ensures.ok c.in_ok-push_record_text.ensures.ok c.push_text-2.ensures.ok
