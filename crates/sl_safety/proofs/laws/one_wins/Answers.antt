use Rattle.sl_safety.proofs.BallotsAgree.{one_winner_holds}
use Rattle.sl_safety.proofs.laws.one_wins.Goals as goal

pub returns : goal.returns
returns c = one_winner_holds
