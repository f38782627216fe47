use Rattle.sl_locks.proofs.PartLaws.{parts_named}
use Rattle.sl_locks.proofs.line.volume_named.Goals as goal
use Rattle.sl_locks.specs.Lines.{volume_parts_read}
use Rattle.std.proofs.Common.{ap, ◌∙◌}
use Rattle.std.specs.Result.{result_ok}

pub returns : goal.returns
returns c = c.ok.ensures.value ∙ ap result_ok (c.volume_parts.ensures ∙ ap volume_parts_read c.new.ensures) ∙ parts_named c.args.word.now
