-- Without what a setting must be: what is due is then not lawful.
use Rattle.sl_area.specs.AreaSizes.{layout_with}
use Rattle.sl_due.specs.Due.{IsHostTrace, due}
use Rattle.sl_examples.specs.CheapDigest.{cheap_digest}
use Rattle.sl_run.specs.Lawful.{Lawful}
use Rattle.sl_trace.specs.Traces.{Setting, Trace}
use Rattle.sl_trace.specs.declared.command.Command.TheVariants.{AddLockspace}
use Rattle.sl_trace.specs.declared.effects.Entry.{Entry}
use Rattle.sl_trace.specs.declared.input.Input.TheVariants.{Line}
use Rattle.std.specs.Prelude.{Ok, codes, false, []}

-- A daemon that reads each line as a joining within a sector.
abbrev pub reads_within_sectors : Setting
reads_within_sectors =
    record {
      timing = record { io = 100; fire = 600; land = 100; rho = 0 };
      grace = 300;
      layout = layout_with cheap_digest (record { sector = 512; area = 1048576; hosts = 2; paired = false });
      machine = 1;
      name = codes "a";
      first = record { call = 1; job = 1 };
      given = [];
      read = λ text. Ok (AddLockspace (record { name = codes "ls"; id = 1; path = codes "/d"; offset = 7 }));
    }

-- It does what is due at its first line.
abbrev pub joins_within_sector : Entry
joins_within_sector = record { reading = 0; input = Line []; effects = due reads_within_sectors [] 0 (Line []) }

-- So not every trace of what is due is lawful, whatever the daemon is made of.
abbrev pub SettingsMatter : Type 0
SettingsMatter = ((st : Setting) (es : Trace) → IsHostTrace st es → Lawful st es) → ⊥
