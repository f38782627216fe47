-- What is promised of the histories of a live run.
use Rattle.sl_host_step.specs.HostServes.{Serves, whole_commands}
use Rattle.sl_live_play.specs.LiveOwed.{Lives, Tellers}
use Rattle.sl_live_run.specs.Lent.{AreHad, IsBack}
use Rattle.sl_live_run.specs.Runs.{AreServed, Both, Leavings}
use Rattle.sl_outside.specs.Lendings.{GoesOn, Lending}
use Rattle.sl_reader.specs.declared.live_lines.LiveLine.{LiveLine}
use Rattle.sl_run.specs.Caused.{IsCaused}
use Rattle.sl_run.specs.Lawful.{Lawful}
use Rattle.sl_run.specs.declared.header.Header.{Header}
use Rattle.sl_trace.specs.declared.effects.Entry.{Entry}
use Rattle.sl_world_state.specs.Daemons.{begun_with}
use Rattle.sl_world_state.specs.declared.daemon.Site.{Site}
use Rattle.std.specs.Prelude.{List, Option, Some, reverse, slice_get, ℕ, ◌+◌, ◌≡◌}

-- The history of the machine of this site is a lawful trace, and each reply in it has its cause. Devices handed out areas and a spawner for the machine; the areas
-- that it left were made of these by just the calls of its history, and the spawners that it left were asked for just its signals and its starts, beside the kills
-- that are told; and so they came back to the devices. All this stands in what the devices tell between these two moments.
pub record IsGoodHistory {A P : Type 0} (tellers : Tellers A P) (folder : List ℕ) (lent back : Option (List Lending)) (header : Header) (place : ℕ) (site : Site) (history : List Entry) : Type 0 where
  pub lawful : Lawful (begun_with whole_commands header site) (reverse history)
  pub caused : IsCaused (begun_with whole_commands header site) (reverse history)
  pub disks : Both A
  pub before : Option (List Lending)
  pub first : GoesOn lent before
  pub having : Option (List Lending)
  pub had : AreHad tellers.content folder header (place + 1) disks before having
  pub left : Leavings A P
  pub served : AreServed tellers.content tellers.faults tellers.acts header.geometry.sector (begun_with whole_commands header site) history disks left
  pub ended : Option (List Lending)
  pub later : GoesOn having ended
  pub given : Option (List Lending)
  pub returned : IsBack tellers.content tellers.faults tellers.acts left ended given
  pub last : GoesOn given back

-- So is that of each machine of a live run.
abbrev pub LiveHistoriesAreGood : {A P : Type 0} → Tellers A P → Type 0
LiveHistoriesAreGood tellers =
    (folder : List ℕ) (lent back : Option (List Lending)) (h : Header) (given : List LiveLine) (hs : List (List Entry)) → (l : Lives Serves whole_commands tellers folder lent back h given hs)
    → (place : ℕ) (site : Site) (history : List Entry) → slice_get l.begun.sites place ≡ Some site → slice_get hs place ≡ Some history
    → IsGoodHistory tellers folder lent back l.begun.header place site history
