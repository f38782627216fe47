-- Bytes that are passed are those in front.
use Rattle.sl_reader.proofs.PiecedLines.{passed}
use Rattle.sl_reader.proofs.piece.Piece.pass.Goals as goal
use Rattle.std.proofs.Common.{ap, drop, length, subst, sym, ◌∙◌, ◌≤◌}

pub returns-clause-exact : goal.returns-clause-exact
returns-clause-exact c =
    passed c.self.inside.at c.self.inside.end c.args.count c.self.inside.bytes (subst (λ l. c.args.count ≤ length l) (sym c.self.view_is) c.requires) c.self.invariant.0
    ∙ ap (drop c.args.count) c.self.view_is
