-- What is due is lawful, its replies have their causes, and no job is idle.
use Rattle.sl_due_law.proofs.Causes.AnswersAreWell.{traces_are_caused}
use Rattle.sl_due_law.proofs.LawfulTraces.BusyKept.{none_is_idle}
use Rattle.sl_due_law.proofs.LawfulTraces.TracesHold.{traces_are_lawful}
use Rattle.sl_report.specs.Host.{DueIsLawful}

pub due_is_lawful : DueIsLawful
due_is_lawful st es setting h = (traces_are_lawful st es setting h, traces_are_caused st es setting h, none_is_idle st es setting h)
