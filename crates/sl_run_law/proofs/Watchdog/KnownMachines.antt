-- What is known of the machines of a lawful run, from what runs promise of calls, daemons and moments.
use Rattle.sl_ids.specs.Clocks.Points.{Precedes}
use Rattle.sl_run_law.specs.Course.Mirrors.{Mirrors}
use Rattle.sl_run_law.specs.Course.CourseLaws.{DaemonsAreOfWorld, EntriesAreStamped, MachinesMirror}
use Rattle.sl_run_law.specs.Course.CallStamps.{IsStamped}
use Rattle.sl_run_law.proofs.Front.RunsFromFronts.{settled_later}
use Rattle.sl_run_law.proofs.Front.JoinedLists.{in_flat}
use Rattle.sl_run.specs.Lawful.{Orderly}
use Rattle.sl_run_law.specs.Moment.MomentsFollowSteps.{StampsDrift, point_of, stamps_on}
use Rattle.sl_words.proofs.Lists.{got_inside}
use Rattle.sl_run.specs.Runs.{Happening}
use Rattle.sl_run.specs.Safety.{LawfulRun, world_at}
use Rattle.sl_run.specs.Worlds.{Daemon, Machine, Program, Stamp, World, daemons_on, machine_at, world_with}
use Rattle.sl_run.specs.declared.header.Header.{Header}
use Rattle.sl_run_law.proofs.WorldsGoOn.{run_goes}
use Rattle.sl_run_law.proofs.MachineWalk.{index}
use Rattle.sl_run_law.specs.DaemonsGoOn.{IsSettled}
use Rattle.sl_time.specs.Times.{TimingNumbers}
use Rattle.std.proofs.Common.{ap, ◌∙◌}
use Rattle.std.specs.Prelude.{Contains, List, Some, ℕ, ◌-◌, ◌≡◌, ◌≤◌}

-- The promises that this rests on.
pub record RestsOn : Type 0 where
  pub mirror : MachinesMirror
  pub stamped : EntriesAreStamped
  pub of_world : DaemonsAreOfWorld
  pub drift : StampsDrift

-- What is known of one machine of a world.
pub record IsKnown (t : TimingNumbers) (a : Machine) : Type 0 where
  pub mirrors : Mirrors a
  pub settled : IsSettled a
  pub lawful : (d : Daemon) → Contains (daemons_on a) d → Orderly d.setting d.trace
  pub timing : (d : Daemon) → Contains (daemons_on a) d → d.setting.timing ≡ t
  pub stamped : (d : Daemon) → Contains (daemons_on a) d → IsStamped d
  pub drift : (s r : Stamp) → Contains (stamps_on a) s → Contains (stamps_on a) r → s.step ≤ r.step → Precedes t.rho (point_of s) (point_of r)

-- Each machine of a lawful run is known.
pub known : RestsOn → (p : Program) (h : Header) (xs : List Happening) → LawfulRun p h xs → (m : ℕ) (a : Machine) → machine_at (world_at p h xs) m ≡ Some a → IsKnown h.timing a
known on p h xs run m a at =
    let w : World = world_at p h xs in
    let header = (run_goes (world_with p h) xs).header in
    record {
      mirrors = on.mirror p h xs run m a at;
      settled = settled_later p h xs run.is_run m a at;
      lawful = λ d there. run.lawful d (in_flat daemons_on w.machines a d (got_inside w.machines (m - 1) a (index w m a at).1) there);
      timing = λ d there. (on.of_world p h xs run m a d at there).timing ∙ ap (λ (x : Header). x.timing) header;
      stamped = λ d there. on.stamped p h xs run m a d at there;
      drift = λ s r here there order. on.drift p h xs run m a s r at here there order;
    }
