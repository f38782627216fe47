-- When a live run can't begin.
use Rattle.sl_live_run.specs.declared.ground.NoGround.TheVariants.{AreaFault, NoMemory}
use Rattle.sl_live_run.specs.declared.ground.NoGround.{NoGround}
use Rattle.sl_io.specs.FaultCauses.{Rose}
use Rattle.std.specs.Prelude.{ℕ}

-- An area fault comes only where the devices' count of faults rose. Of want of memory nothing is said.
abbrev pub Explains : ℕ → ℕ → NoGround → Type 0
Explains before now AreaFault = Rose before now
Explains before now NoMemory = Unit {0}
