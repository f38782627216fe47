use Rattle.sl_locks.proofs.FirstReplies.{found_out, none_found, rest_out}
use Rattle.sl_locks.proofs.line_steps.first_reply.Goals as goal
use Rattle.sl_locks.specs.Steps.{is_asked}
use Rattle.std.proofs.Common.{ap, sym, ◌∙◌}
use Rattle.std.specs.List.{position}

pub returns-in-Some-clause-found : goal.returns-in-Some-clause-found
returns-in-Some-clause-found c =
    found_out (is_asked c.args.asked) c.args.replies.now.items c.in-Some.index c.remove.result
    (ap (position (is_asked c.args.asked)) (sym c.deref.ensures.value) ∙ sym c.place_of.ensures ∙ c.in-Some.is) c.remove.ensures.value

pub returns-in-Some-clause-rest : goal.returns-in-Some-clause-rest
returns-in-Some-clause-rest c =
    rest_out (is_asked c.args.asked) c.args.replies.now.items c.remove.new.self.items c.in-Some.index
    (ap (position (is_asked c.args.asked)) (sym c.deref.ensures.value) ∙ sym c.place_of.ensures ∙ c.in-Some.is) c.remove.ensures.by_index.2

pub returns-in-None-clause-found : goal.returns-in-None-clause-found
returns-in-None-clause-found c =
    sym (none_found (is_asked c.args.asked) c.args.replies.now.items
    (ap (position (is_asked c.args.asked)) (sym c.deref.ensures.value) ∙ sym c.place_of.ensures ∙ c.in-None.is))
