-- One act after another.
use Rattle.sl_play.specs.Plays.{IsPlaying, state_of}
use Rattle.sl_story.proofs.StoryTold.{after_one, fewer_left, kept_on, plays_on, stopped, told_end, told_first}
use Rattle.sl_story.proofs.story.tell_lines.Goals as goal
use Rattle.std.proofs.Common.{arith, rules, sym, ◌-◌, ◌<◌, ◌∙◌}

pub loop-at-init : goal.loop-at-init
loop-at-init g c =
    record {
      within = search rules;
      told = told_first g.D.Daemon.commands g.D.Daemon.stands c.args.place (state_of g.L.LockTable.locks c.args.play.now) (g.K.Sink.taken c.args.sink.now) c.args.events;
      plays = c.requires;
      later = search rules;
    }

pub loop-at-preserved : goal.loop-at-preserved
loop-at-preserved g c =
    let some : 0 < c.loop-at.at.lines = omega arith in
    let is = sym c.in-Ok.is ∙ c.left_behind.ensures in
    let kept = kept_on g.D.Daemon.commands g.D.Daemon.stands c.args.place (state_of g.L.LockTable.locks c.args.play.now) (state_of g.L.LockTable.locks c.tell_next-one.new.play) (g.K.Sink.taken c.args.sink.now) (g.K.Sink.taken c.tell_next-one.new.sink)
    c.args.events (g.K.Sink.faults c.loop-at.sink) (g.K.Sink.faults c.tell_next-one.new.sink) c.loop-at.at c.in-Ok.next c.tell_next-one.result some c.loop-at.invariant.within is
    (after_one g.D.Daemon.commands g.D.Daemon.stands c.args.place c.loop-at.at.place (state_of g.L.LockTable.locks c.args.play.now) (state_of g.L.LockTable.locks c.loop-at.play) (state_of g.L.LockTable.locks c.tell_next-one.new.play) (g.K.Sink.taken c.args.sink.now)
    (g.K.Sink.taken c.loop-at.sink) (g.K.Sink.taken c.tell_next-one.new.sink) (c.args.events - c.loop-at.at.lines) (g.K.Sink.faults c.loop-at.sink)
    (g.K.Sink.faults c.tell_next-one.new.sink) c.tell_next-one.result c.loop-at.invariant.told c.tell_next-one.ensures.tells) in
    record {
      within = kept.0;
      told = kept.1;
      plays = plays_on g.D.Daemon.commands g.D.Daemon.stands c.loop-at.at c.in-Ok.next c.tell_next-one.result (IsPlaying g.D.Daemon.commands g.D.Daemon.stands (state_of g.L.LockTable.locks c.tell_next-one.new.play)) is c.tell_next-one.ensures.plays;
      later = omega (arith, c.loop-at.invariant.later, c.tell_next-one.ensures.later);
    }

pub loop-at-smaller : goal.loop-at-smaller
loop-at-smaller g c =
    let some : 0 < c.loop-at.at.lines = omega arith in
    let less = fewer_left c.loop-at.at c.in-Ok.next c.tell_next-one.result some (sym c.in-Ok.is ∙ c.left_behind.ensures) c.tell_next-one.ensures.moves in
    omega (arith, less)

pub returns-in-Err : goal.returns-in-Err
returns-in-Err g c hosts paired written before faults t appends earlier =
    let some : 0 < c.loop-at.at.lines = omega arith in
    stopped g.D.Daemon.commands g.D.Daemon.stands c.args.place (state_of g.L.LockTable.locks c.args.play.now) (state_of g.L.LockTable.locks c.tell_next-one.new.play) (g.K.Sink.taken c.args.sink.now) (g.K.Sink.taken c.tell_next-one.new.sink) c.args.events c.loop-at.at
    c.tell_next-one.result c.in-Err.told hosts paired written before faults (g.K.Sink.faults c.loop-at.sink) (g.K.Sink.faults c.tell_next-one.new.sink) some c.loop-at.invariant.within
    (omega (arith, earlier, c.loop-at.invariant.later)) (sym c.in-Err.is ∙ c.left_behind.ensures)
    (after_one g.D.Daemon.commands g.D.Daemon.stands c.args.place c.loop-at.at.place (state_of g.L.LockTable.locks c.args.play.now) (state_of g.L.LockTable.locks c.loop-at.play) (state_of g.L.LockTable.locks c.tell_next-one.new.play) (g.K.Sink.taken c.args.sink.now)
    (g.K.Sink.taken c.loop-at.sink) (g.K.Sink.taken c.tell_next-one.new.sink) (c.args.events - c.loop-at.at.lines) (g.K.Sink.faults c.loop-at.sink)
    (g.K.Sink.faults c.tell_next-one.new.sink) c.tell_next-one.result c.loop-at.invariant.told c.tell_next-one.ensures.tells) t appends

pub returns : goal.returns
returns g c hosts paired written before faults t appends earlier =
    told_end g.D.Daemon.commands g.D.Daemon.stands c.args.place (state_of g.L.LockTable.locks c.args.play.now) (state_of g.L.LockTable.locks c.loop-at.play) (g.K.Sink.taken c.args.sink.now) (g.K.Sink.taken c.loop-at.sink) c.args.events c.loop-at.at
    hosts paired written before faults (g.K.Sink.faults c.loop-at.sink) (omega arith) c.loop-at.invariant.told t appends
