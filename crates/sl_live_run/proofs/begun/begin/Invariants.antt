use Rattle.sl_live_run.proofs.begun.begin.Given as goal
use Rattle.sl_live_run.specs.Runs.{AreFresh, disks_in, disks_of, site_of, spawner_of}
use Rattle.std.proofs.Common.{Some, map, ◌≡◌}

-- those before this one have begun
abbrev pub invariant-loop-ready : goal.invariant-loop-ready
invariant-loop-ready g l = record {
  machines : map site_of l.begun.machines.items ≡ map (λ s. Some s) (map (λ p. p.site) l.yielded);
  disks : map disks_of l.begun.machines.items ≡ map (λ d. Some d) (map (λ p. disks_in p.parts) l.yielded);
  spawners : map spawner_of l.begun.machines.items ≡ map (λ x. Some x) (map (λ p. p.parts.spawner) l.yielded);
  fresh : AreFresh l.begun.machines.items;
}
