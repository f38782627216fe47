-- What devices in memory note of what they handed out and what came back.
use Rattle.sl_outside.specs.Lendings.{AreaBack, AreaOut, Lending, SpawnerBack, SpawnerOut}
use Rattle.sl_outside.specs.MemSpawners.{told}
use Rattle.sl_outside.specs.declared.notes.Note.TheVariants as note
use Rattle.sl_outside.specs.declared.notes.Note.{Note}
use Rattle.std.specs.Global.{Global}
use Rattle.std.specs.Prelude.{List, None, Option, Vec, map, option_map}

-- Areas that are shared tell nothing of what they have.
abbrev pub lending_of : Note → Lending
lending_of (note.AreaOut machine worker path) = AreaOut machine worker path None
lending_of (note.AreaBack faults) = AreaBack None faults
lending_of (note.SpawnerOut machine) = SpawnerOut machine
lending_of (note.SpawnerBack acts) = SpawnerBack (told acts)

abbrev pub lendings_of : Option (Vec Note Global) → Option (List Lending)
lendings_of notes = option_map (λ (ns : Vec Note Global). map lending_of ns.items) notes
