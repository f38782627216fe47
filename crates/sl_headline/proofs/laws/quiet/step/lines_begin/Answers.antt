use Rattle.sl_headline.proofs.Quiet.Step.LinesBegin.{lines_begin}
use Rattle.sl_headline.proofs.laws.quiet.step.lines_begin.Goals as goal

pub returns : goal.returns
returns c = lines_begin
