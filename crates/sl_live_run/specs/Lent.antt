-- What devices hand out for the machines of a run, and what comes back of it, one behind the other.
use Rattle.sl_cell.specs.declared.part.Part.TheVariants.{Delta, Resource}
use Rattle.sl_live_run.specs.Areas.{AreBack, AreLent}
use Rattle.sl_live_run.specs.Runs.{Both, Leavings}
use Rattle.sl_outside.specs.Acts.{Grows}
use Rattle.sl_outside.specs.Lendings.{Lending, SpawnerBack, SpawnerOut}
use Rattle.sl_outside.specs.declared.act.Act.{Act}
use Rattle.sl_run.specs.declared.header.Header.{Header}
use Rattle.std.specs.Prelude.{List, Option, [], ℕ, ◌+◌, ◌∷◌, ◌≡◌}

-- Machine m was handed these areas for its workers, for each one of each disk of the header, at the disk's path behind the folder's text; and a spawner.
pub record AreHad {A : Type 0} (content : A → Option (List ℕ)) (folder : List ℕ) (h : Header) (m : ℕ) (d : Both A) (was is : Option (List Lending)) : Type 0 where
  pub delta_lent : Option (List Lending)
  pub delta : AreLent content folder h m Delta h.disks d.0 was delta_lent
  pub resource_lent : Option (List Lending)
  pub resource : AreLent content folder h m Resource h.disks d.1 delta_lent resource_lent
  pub spawner : Grows resource_lent is (SpawnerOut m ∷ [])

-- .. so were machine m and those behind it, one after the other, and nothing else was handed out.
abbrev pub AreAllHad : {A : Type 0} → (A → Option (List ℕ)) → List ℕ → Header → ℕ → List (Both A) → Option (List Lending) → Option (List Lending) → Type 0
AreAllHad content folder h m [] was is = is ≡ was
AreAllHad content folder h m (d ∷ ds) was is = (between : Option (List Lending)) × AreHad content folder h m d was between × AreAllHad content folder h (m + 1) ds between is

-- What a machine left came back as it was then: its areas, and the spawner that sent its signals and the one that made its starts.
pub record IsBack {A P : Type 0} (content : A → Option (List ℕ)) (area_faults : A → ℕ) (spawned : P → Option (List Act)) (l : Leavings A P) (was is : Option (List Lending)) : Type 0 where
  pub resource_back : Option (List Lending)
  pub resource : AreBack content area_faults l.0.1 was resource_back
  pub delta_back : Option (List Lending)
  pub delta : AreBack content area_faults l.0.0 resource_back delta_back
  pub signals_back : Option (List Lending)
  pub signals : Grows delta_back signals_back (SpawnerBack (spawned l.1.signals) ∷ [])
  pub starts : Grows signals_back is (SpawnerBack (spawned l.1.starts) ∷ [])

-- .. machine by machine, and nothing else came back.
abbrev pub AreAllBack : {A P : Type 0} → (A → Option (List ℕ)) → (A → ℕ) → (P → Option (List Act)) → List (Leavings A P) → Option (List Lending) → Option (List Lending) → Type 0
AreAllBack content area_faults spawned [] was is = is ≡ was
AreAllBack content area_faults spawned (l ∷ ls) was is =
    (between : Option (List Lending)) × IsBack content area_faults spawned l was between × AreAllBack content area_faults spawned ls between is
