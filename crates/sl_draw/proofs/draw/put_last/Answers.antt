-- A picture is put out with a last line that stands, or nothing is where there was no memory for the line.
use Rattle.sl_draw.proofs.draw.put_last.Goals as goal
use Rattle.sl_picture.specs.Page.{picture_of}
use Rattle.sl_play.proofs.LinesPlayed.{put_none}

pub returns-in-Err : goal.returns-in-Err
returns-in-Err g c line told =
    put_none (g.K.Sink.taken c.args.sink.now) (g.K.Sink.faults c.args.sink.now) (g.K.Sink.faults c.args.sink.now) (picture_of c.args.caption.now c.args.picture.now line) c.args.whole
