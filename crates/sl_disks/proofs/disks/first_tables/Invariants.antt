use Rattle.sl_disks.proofs.disks.first_tables.Given as goal
use Rattle.sl_disks.specs.Disks.{first_table}
use Rattle.std.proofs.Common.{map, take, ◌≡◌}

-- the disks before this one have their tables
abbrev pub invariant-loop-disk : goal.invariant-loop-disk
invariant-loop-disk l = l.tables ≡ map (first_table l.header) (take l.disk-index l.header.disks)
