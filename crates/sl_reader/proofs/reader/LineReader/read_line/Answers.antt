-- A line is read piece by piece.
use Rattle.sl_reader.proofs.PiecedLines.{cut_off, cut_there, ends_so, ends_with, on_err, open_stands}
use Rattle.sl_reader.proofs.reader.LineReader.read_line.Goals as goal
use Rattle.sl_reader.specs.LineReads.{IsCutOff, Takes}
use Rattle.std.proofs.Common.{subst, ◌∙◌}

pub returns-in_err-take_piece-clause-stands : goal.returns-in_err-take_piece-clause-stands
returns-in_err-take_piece-clause-stands g c =
    open_stands (g.S.Source.left c.loop-why.source) c.take_piece.new.self (c.take_piece.ensures.ended ∙ c.loop-why.invariant.reading.open_still)

pub returns-in-Line-clause-ok : goal.returns-in-Line-clause-ok
returns-in-Line-clause-ok g c =
    ends_so (g.S.Source.left c.args.source.now) (g.S.Source.left c.loop-why.source) c.args.self.now c.loop-why.self c.take_piece.new.self c.loop-why.invariant.reading
    (subst (Takes c.loop-why.self c.take_piece.new.self) c.in-Line.is c.in_ok-take_piece.ensures.ok)

pub returns-in_err-take_piece-clause-err : goal.returns-in_err-take_piece-clause-err
returns-in_err-take_piece-clause-err g c =
    on_err c.from_residual.result (IsCutOff (g.S.Source.left c.args.source.now) (g.S.Source.left c.loop-why.source) c.args.self.now)
    (cut_there (g.S.Source.left c.args.source.now) (g.S.Source.left c.loop-why.source) c.args.self.now c.loop-why.self c.loop-why.invariant.reading)

pub returns-in_err-refill-clause-err : goal.returns-in_err-refill-clause-err
returns-in_err-refill-clause-err g c =
    on_err c.from_residual-in_err-refill.result (IsCutOff (g.S.Source.left c.args.source.now) (g.S.Source.left c.refill.new.source) c.args.self.now)
    (cut_off (g.S.Source.left c.args.source.now) (g.S.Source.left c.loop-why.source) (g.S.Source.left c.refill.new.source) c.args.self.now c.loop-why.self c.loop-why.invariant.reading
    c.in_err-refill.ensures.err)

pub returns-then-not-branch-clause-ok : goal.returns-then-not-branch-clause-ok
returns-then-not-branch-clause-ok g c =
    let none = c.in_ok-refill.ensures.ended c.if-not-branch.true in
    ends_with (g.S.Source.left c.args.source.now) (g.S.Source.left c.loop-why.source) (g.S.Source.left c.refill.new.source) c.args.self.now c.loop-why.self c.take_piece.new.self
    c.refill.new.self c.end.new.self c.end.result c.loop-why.invariant.reading (subst (Takes c.loop-why.self c.take_piece.new.self) c.in-More.is c.in_ok-take_piece.ensures.ok)
    c.refill.ensures.exact c.in_ok-refill.ensures.bytes none.0 c.end.ensures
