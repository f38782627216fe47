use Rattle.sl_live_lines.proofs.AuditLaws.{none_left, some_left}
use Rattle.sl_live_lines.proofs.audit.Audit.left.Goals as goal

pub returns-clause-none : goal.returns-clause-none
returns-clause-none c = λ t a h so. none_left t a h c.args.self.now c.first_open.result so c.first_open.ensures.none

pub returns-clause-some : goal.returns-clause-some
returns-clause-some c = λ t a h so. some_left t a h c.args.self.now c.first_open.result so c.first_open.ensures.some
