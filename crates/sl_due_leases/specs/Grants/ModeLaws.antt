-- What is lawful of the modes of grants and blocks.
use Rattle.sl_due_facts.specs.Acts.Acts.{Acts}
use Rattle.sl_due_facts.specs.Acts.TraceSoFar.{entry_of}
use Rattle.sl_due.specs.Steps.{Step}
use Rattle.sl_due_leases.specs.Holdings.Moments.{Known}
use Rattle.sl_due_leases.specs.Holdings.HoldingLaws.{Begins}
use Rattle.sl_run.specs.LawfulModes.{LawfulModes}

-- What was granted and written so far has what stands behind its mode.
abbrev pub ModesSoFar : Step → Type 0
ModesSoFar x = LawfulModes x.setting x.past (entry_of x)

abbrev pub ModesAreLawful : Type 0
ModesAreLawful = Acts Known ModesSoFar

abbrev pub ModesBegin : Type 0
ModesBegin = Begins ModesSoFar
