use Rattle.sl_tables.proofs.Places.{place_there}
use Rattle.sl_tables.proofs.rising.place_of.Goals as goal
use Rattle.std.proofs.Common.{length, sym, ◌-◌}

pub returns-then-has_number : goal.returns-then-has_number
returns-then-has_number g c = sym (place_there c.args.number c.args.slots.now (length c.args.slots.now - 1) c.requires (sym c.if-has_number.ensures))
