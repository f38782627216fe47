-- How a spawner in memory begins. What it is to start, its starter has.
use Rattle.sl_outside.specs.MemSpawners.{SpawnerState}
use Rattle.sl_outside.specs.declared.mem_spawner.MemPlan.{MemPlan}
use Rattle.std.specs.Prelude.{Some, []}

abbrev pub begun_by : MemPlan → SpawnerState
begun_by plan = record {
  lives = [];
  deaf = plan.deaf;
  starts = record { made = 0; failing = []; faults = 0 };
  polls = 0;
  children = record { items = []; room = plan.children };
  acts = Some (record { items = []; room = plan.acts });
}
