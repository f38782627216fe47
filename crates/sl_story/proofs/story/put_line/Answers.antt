-- A line is put out, whole or in part.
use Rattle.sl_play.proofs.LinesPlayed.{front_of}
use Rattle.sl_story.proofs.story.put_line.Goals as goal
use Rattle.sl_story.specs.StoryPlays.{Part, Unput, Whole, fed}
use Rattle.std.proofs.Common.{rules, string_bytes, subst, take, ◌∙◌}
use Rattle.std.proofs.KnownBytes.{Appends-nil}
use Rattle.std.specs.Io.KnownBytes.{Appends}

pub returns-in_default-clause-puts : goal.returns-in_default-clause-puts
returns-in_default-clause-puts g c = Unput (Appends-nil (g.K.Sink.taken c.args.sink.now))

pub returns-in-Ok-clause-puts : goal.returns-in-Ok-clause-puts
returns-in-Ok-clause-puts g c =
    Whole (subst (Appends (g.K.Sink.taken c.args.sink.now) (g.K.Sink.taken c.write_all.new.sink)) (c.as_bytes.ensures.value ∙ c.in-Some.ensures) c.in-Ok.ensures.all)

pub returns-clause-puts : goal.returns-clause-puts
returns-clause-puts g c =
    let front = c.in-Err.ensures.front in
    Part (take front.0 c.as_bytes.result.now) front.2 (front_of c.as_bytes.result.now (fed (string_bytes c.args.taken.line)) front.0 (c.as_bytes.ensures.value ∙ c.in-Some.ensures))
    c.in-Err.ensures.cause.failed
