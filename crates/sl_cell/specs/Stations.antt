-- A setting that is there, whatever it is.
use Rattle.sl_area.specs.AreaSizes.{layout_of}
use Rattle.sl_trace.specs.Traces.{Setting}
use Rattle.std.specs.Prelude.{Err, false, []}

-- It is never read.
abbrev pub any_setting : Setting
any_setting = record {
  timing = record { io = 1; fire = 0; land = 0; rho = 0 };
  grace = 0;
  layout = layout_of (record { sector = 512; area = 1048576; hosts = 1; paired = false });
  machine = 1;
  name = [];
  first = record { call = 1; job = 1 };
  given = [];
  read = (λ text. Err 1);
}
