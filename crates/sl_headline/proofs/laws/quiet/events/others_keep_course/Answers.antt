use Rattle.sl_headline.proofs.Quiet.Events.OtherEntries.{others_keep_course}
use Rattle.sl_headline.proofs.laws.quiet.events.others_keep_course.Goals as goal

pub returns : goal.returns
returns c = others_keep_course
