use Rattle.sl_schedule.proofs.HeaderLaws.{answer_is, stands_after}
use Rattle.sl_schedule.proofs.header.HeaderReader.add.Goals as goal
use Rattle.sl_schedule.specs.HeadersSoFar.{HeaderSoFar, Stands, lines_after}
use Rattle.std.proofs.Common.{subst, sym, ◌∙◌}
use Rattle.std.proofs.lemmas.Result.{IfOk-weaker, on_ok_weaker}

pub returns-clause-exact : goal.returns-clause-exact
returns-clause-exact c = λ ls h. IfOk-weaker c.add_line.result _ _ (λ added e. e ∙ answer_is c.args.self.now ls c.args.line.now h) c.add_line.ensures.exact

pub returns-clause-stands : goal.returns-clause-stands
returns-clause-stands c = λ ls h.
    on_ok_weaker c.add_line.result (λ e. subst (λ (r : HeaderSoFar). Stands r (lines_after ls c.args.line.now)) (sym e) (stands_after c.args.self.now ls c.args.line.now h c.add_line.ensures.hosts))
    c.add_line.ensures.kept
