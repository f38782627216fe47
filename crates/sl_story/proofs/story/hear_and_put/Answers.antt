-- Nothing is put out where there is no memory.
use Rattle.sl_story.proofs.story.hear_and_put.Goals as goal
use Rattle.sl_story.specs.StoryPlays.{Unput}
use Rattle.std.proofs.KnownBytes.{Appends-nil}

pub returns-in-Err-clause-puts : goal.returns-in-Err-clause-puts
returns-in-Err-clause-puts g c = Unput (Appends-nil (g.K.Sink.taken c.args.sink.now))
