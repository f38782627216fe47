use Rattle.std.proofs.Common.{length}
use Rattle.sl_book.proofs.closing.+counted.Given as goal

abbrev pub decreases-counted : goal.decreases-counted
decreases-counted g l = length l.seats.now
