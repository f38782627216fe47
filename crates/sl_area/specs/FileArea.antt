-- A disk in a file.
use Rattle.sl_area.specs.declared.file_area.FileArea.{FileArea}
use Rattle.std.specs.Prelude.{ℕ}

-- The faults of the disk.
abbrev pub file_faults : {F : Type 0} → FileArea F → ℕ
file_faults a = a.faults
