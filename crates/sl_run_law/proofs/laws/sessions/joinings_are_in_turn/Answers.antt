use Rattle.sl_run_law.proofs.Sessions.WritesAreCovered as its
use Rattle.sl_run_law.proofs.laws.sessions.joinings_are_in_turn.Goals as goal

pub returns : goal.returns
returns c = its.joinings_are_in_turn
