use Rattle.std.proofs.Common.{sym, ◌∙◌}
use Rattle.sl_text.proofs.PieceLaws.{free_alone, free_at, pieces_alone, pieces_at, text_at}
use Rattle.sl_text.proofs.words.split_piece.Goals as goal

pub returns-in-Some-clause-exact : goal.returns-in-Some-clause-exact
returns-in-Some-clause-exact c = rw c.split_at.ensures.back (pieces_at c.args.separator c.args.text.now c.in-Some.at (sym c.position_of.ensures ∙ c.in-Some.is))

pub returns-in-Some-clause-found : goal.returns-in-Some-clause-found
returns-in-Some-clause-found c = rw c.split_at.ensures.back (text_at c.args.separator c.args.text.now c.in-Some.at (sym c.position_of.ensures ∙ c.in-Some.is))

pub returns-in-Some-clause-free : goal.returns-in-Some-clause-free
returns-in-Some-clause-free c = free_at c.args.separator c.args.text.now c.in-Some.at (sym c.position_of.ensures ∙ c.in-Some.is)

pub returns-in-None-clause-exact : goal.returns-in-None-clause-exact
returns-in-None-clause-exact c = pieces_alone c.args.separator c.args.text.now (sym c.position_of.ensures ∙ c.in-None.is)

pub returns-in-None-clause-free : goal.returns-in-None-clause-free
returns-in-None-clause-free c = free_alone c.args.separator c.args.text.now (sym c.position_of.ensures ∙ c.in-None.is)
