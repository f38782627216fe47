-- From the first lines on.
use Rattle.sl_story.proofs.StoryTold.{good_header, nothing_told}
use Rattle.sl_story.proofs.story.tell_schedule.Goals as goal

pub tell_behind-requires : goal.tell_behind-requires
tell_behind-requires g c = good_header g.D.Daemon.commands c.args.hosts c.args.paired c.in-Ok.opening c.requires.may c.in-Ok.ensures

pub returns-in_default : goal.returns-in_default
returns-in_default g c = nothing_told g.D.Daemon.commands g.D.Daemon.stands c.args.hosts c.args.events c.args.paired (g.K.Sink.taken c.args.sink.now) (g.K.Sink.faults c.args.sink.now)

pub returns-in-Err : goal.returns-in-Err
returns-in-Err g c = nothing_told g.D.Daemon.commands g.D.Daemon.stands c.args.hosts c.args.events c.args.paired (g.K.Sink.taken c.args.sink.now) (g.K.Sink.faults c.args.sink.now)

pub returns-in-Ok-new_teller : goal.returns-in-Ok-new_teller
returns-in-Ok-new_teller g c = c.tell_behind.ensures c.args.hosts c.args.paired c.in-Ok.ensures
