-- What is refused of a piece.
use Rattle.sl_reader.proofs.PiecedLines.{refuses_at}
use Rattle.sl_reader.proofs.reader.LineReader.take_piece.Goals as goal
use Rattle.sl_reader.specs.LineReads.{IsFront, ReaderState, TakesRefused}
use Rattle.std.proofs.Common.{arith, subst, sym}

pub returns-in-Some-clause-ok : goal.returns-in-Some-clause-ok
returns-in-Some-clause-ok c =
    subst (λ (s : ReaderState). TakesRefused s s c.in-Some.why) c.self.view_is
    (refuses_at (record {
      left = c.self.inside.piece;
      line = c.self.inside.line.items;
      start = c.self.inside.start;
      behind = c.self.inside.behind;
      number = c.self.inside.number;
      ended = c.self.inside.ended;
    }) c.front-ends.result.0.now c.front-ends.result.1 c.in-Some.why c.self.invariant.0
    (subst (λ (s : ReaderState). IsFront s.behind s.line) (sym c.self.view_is) c.requires) c.front-ends.ensures.free c.front-ends.ensures.cut c.front-ends.ensures.all
    (λ text same. c.in-Some.ensures text (omega (arith, same))))
