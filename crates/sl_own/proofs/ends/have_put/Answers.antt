-- The list is what its vector has.
use Rattle.sl_book.specs.Closings.{AreBelow, AreExact}
use Rattle.sl_own.proofs.ends.have_put.Goals as goal
use Rattle.std.proofs.Common.{length, subst}

pub returns-clause-exact : goal.returns-clause-exact
returns-clause-exact g c = λ is. subst (λ ws. AreExact 0 ws c.args.pieces.now) c.deref.ensures.value (c.are_pieces.ensures.exact is)

pub returns-clause-below : goal.returns-clause-below
returns-clause-below g c = λ is. subst (λ ws. AreBelow (length ws) c.args.pieces.now) c.deref.ensures.value (c.are_pieces.ensures.below is)
