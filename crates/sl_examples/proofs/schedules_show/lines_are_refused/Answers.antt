use Rattle.sl_examples.proofs.RefusedLines.{events, headers, torn}
use Rattle.sl_examples.proofs.schedules_show.lines_are_refused.Goals as goal

pub returns : goal.returns
returns c = record { headers = headers; events = events; torn = torn }
