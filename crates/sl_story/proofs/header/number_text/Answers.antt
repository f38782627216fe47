-- The same text, told as lines.
use Rattle.sl_story.proofs.Openings.{numbers_text}
use Rattle.sl_story.proofs.header.number_text.Goals as goal
use Rattle.sl_story.specs.StoryHeaders.{number_lines}
use Rattle.std.proofs.Common.{if◌then◌else◌, string_bytes, ◌+◌}
use Rattle.std.specs.Prelude.{codes, decimal}

pub returns : goal.returns
unfolding number_lines
returns c =
    numbers_text (string_bytes c.in_ok-text.text) c.version-version.result.now (if c.args.paired then codes "sanlock 2" else codes "sanlock 1") (decimal c.args.hosts) (decimal (c.args.hosts + 8))
    c.in_ok-text.ensures.ok c.version-version.ensures
