use Rattle.sl_story.proofs.header_read.read_header.Goals as goal
use Rattle.std.proofs.Common.{[]}

pub returns : goal.returns
returns c = c.pass_lines.ensures [] c.new-reader.ensures.stands
