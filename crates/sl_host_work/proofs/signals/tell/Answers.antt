use Rattle.sl_host_state.specs.StepQuestions.{stopper_in}
use Rattle.sl_host_work.proofs.SignalsStand.{told_by_program, told_by_term}
use Rattle.sl_host_work.proofs.signals.tell.Goals as goal
use Rattle.sl_host.specs.BookQuestions.{alone}
use Rattle.std.proofs.Common.{ap, ◌∙◌}

pub returns-in-Some-clause-state : goal.returns-in-Some-clause-state
returns-in-Some-clause-state c =
    told_by_program c.args.host.now c.start.new.self c.args.process c.next_child-child.result c.in-Some.program (c.in-Some.ensures ∙ ap (λ b. stopper_in (alone b) c.args.process) c.books.ensures) c.next_child-child.ensures c.start.ensures.state

pub returns-in-None-clause-state : goal.returns-in-None-clause-state
returns-in-None-clause-state c = told_by_term c.args.host.now c.signal.new.self c.args.process (c.in-None.ensures ∙ ap (λ b. stopper_in (alone b) c.args.process) c.books.ensures) c.signal.ensures.state
