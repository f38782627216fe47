use Rattle.sl_story.proofs.StoriesBegin.{story_headers_are_read}
use Rattle.sl_story.proofs.laws.story_headers_are_read.Goals as goal

pub returns : goal.returns
returns c = story_headers_are_read
