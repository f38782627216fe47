use Rattle.sl_report.specs.HeaderRefusals.{header_tests}
use Rattle.sl_run.specs.Worlds.{first_that}
use Rattle.sl_schedule.proofs.header.HeaderReader.value_refusal.Goals as goal
use Rattle.sl_schedule.specs.HeaderReads.{header_seen}
use Rattle.sl_schedule.specs.HeadersSoFar.{header_now}
use Rattle.std.proofs.Common.{ap, sym, ◌∙◌}

pub returns-in-Times-clause-exact : goal.returns-in-Times-clause-exact
returns-in-Times-clause-exact c =
    c.times_refusal.ensures.exact (header_now c.args.self.now)
    ∙ ap (λ l. first_that (header_tests (header_now c.args.self.now) (header_seen l))) (sym c.in-Times.is)
