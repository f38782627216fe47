-- Areas that stand, compared with a header.
use Rattle.sha2.specs.Sha256.{sha256}
use Rattle.sl_area.specs.AreaLayout.{leader_offset, value_offset}
use Rattle.sl_area.specs.AreaSizes.{layout_of}
use Rattle.sl_area.specs.Sectors.{IsReadAt}
use Rattle.sl_io.specs.FaultCauses.{Rose}
use Rattle.sl_label.specs.Labels.{has_time, label_in, label_text}
use Rattle.sl_label.specs.declared.label.Label.{Label}
use Rattle.sl_run.specs.declared.header.Header.{Header}
use Rattle.sl_run.specs.declared.header.LockspaceLine.{LockspaceLine}
use Rattle.sl_run.specs.declared.header.ResourceLine.{ResourceLine}
use Rattle.sl_sector.specs.SectorLayouts.{decoded}
use Rattle.sl_sector.specs.declared.sector.Bad.{Bad}
use Rattle.sl_sector.specs.declared.sector.Leader.{Leader}
use Rattle.sl_sector.specs.declared.sector.Rec.TheVariants.{LeaderIs, PairLeaderIs}
use Rattle.sl_sector.specs.declared.sector.Rec.{Rec}
use Rattle.sl_standing.specs.declared.not_standing.NotStanding.TheVariants.{AreaFault, NoLabel, NoLeader, NoMemory, OtherFormat, OtherLabel, OtherLeader, OtherTime}
use Rattle.sl_standing.specs.declared.not_standing.NotStanding.{NotStanding}
use Rattle.sl_words.specs.Words.{same_truth}
use Rattle.std.specs.Prelude.{All, Bool, Contains, Err, List, None, Ok, Option, Result, Some, bytes_eq, false, length, true, ℕ, ◌&&◌, ◌==◌, ◌≡◌, ◌≢◌}

-- ---- what is due

-- The label that a header's lockspace has.
abbrev pub label_of : Header → LockspaceLine → Label
label_of h l = record { timing = h.timing; grace = h.grace; geometry = h.geometry; lockspace = l.name }

-- Whether a leader is that of a header's resource.
abbrev pub is_leader_of : Header → ResourceLine → Leader → Bool
is_leader_of h r l = bytes_eq l.lockspace r.lockspace && (bytes_eq l.resource r.name && l.num_hosts == h.geometry.hosts)

-- The leader that a record is, and whether it is one of an area with pairs.
abbrev pub leader_in : Rec → Option (Leader × Bool)
leader_in (LeaderIs l) = Some (l, false)
leader_in (PairLeaderIs l) = Some (l, true)
leader_in r = None

-- How the leader of an area of this kind is to be refused where a header has its own, if it is.
abbrev pub leader_refusal : Header → ResourceLine → Leader → Bool → Result (Unit {0}) NotStanding
leader_refusal h r l paired =
    elim (same_truth paired h.geometry.paired) [
      | false ↦ Err (OtherFormat r.lockspace r.name paired)
      | true ↦ elim (is_leader_of h r l) [ true ↦ Ok tt | false ↦ Err (OtherLeader r.lockspace r.name l) ]
    ]

-- How what a sector spells is to be refused, where a header has the leader of a resource. A leader that is torn is for the daemon to find.
abbrev pub leader_found : Header → ResourceLine → Result Rec Bad → Result (Unit {0}) NotStanding
leader_found h r (Ok (LeaderIs l)) = leader_refusal h r l false
leader_found h r (Ok (PairLeaderIs l)) = leader_refusal h r l true
leader_found h r (Ok x) = Err (NoLeader r.lockspace r.name)
leader_found h r (Err bad) = Ok tt

-- ---- what was read

-- A sector that was read at an offset, of the header's size.
pub record IsSectorOf (h : Header) (content : Option (List ℕ)) (at : ℕ) (sector : List ℕ) : Type 0 where
  pub long : length sector ≡ h.geometry.sector
  pub read : IsReadAt content at sector

-- A lockspace has its label.
pub record IsLabelled (h : Header) (content : Option (List ℕ)) (l : LockspaceLine) : Type 0 where
  pub sector : List ℕ
  pub at : IsSectorOf h content (value_offset (layout_of h.geometry) l.offset) sector
  pub label : label_in (decoded sha256 sector) ≡ Some (label_text (label_of h l))

-- Where a resource has its leader no other stands.
pub record IsLed (h : Header) (content : Option (List ℕ)) (r : ResourceLine) : Type 0 where
  pub sector : List ℕ
  pub at : IsSectorOf h content (leader_offset r.offset) sector
  pub leads : leader_found h r (decoded sha256 sector) ≡ Ok tt

-- .. if it lies on the disk at this path.
abbrev pub HasLabelOn : Header → List ℕ → Option (List ℕ) → LockspaceLine → Type 0
HasLabelOn h path content l = l.path ≡ path → IsLabelled h content l

abbrev pub HasLeaderOn : Header → List ℕ → Option (List ℕ) → ResourceLine → Type 0
HasLeaderOn h path content r = r.path ≡ path → IsLed h content r

-- All that a header has on the disk at this path stands on it.
pub record AreStanding (h : Header) (path : List ℕ) (content : Option (List ℕ)) : Type 0 where
  pub lockspaces : All (HasLabelOn h path content) h.lockspaces
  pub resources : All (HasLeaderOn h path content) h.resources

-- ---- why it does not

-- How a label that was found differs from the one that is due; or there was no memory to tell.
pub data LabelDiffers (l : Label) (found : Result Rec Bad) : NotStanding → Type 0 where
  Lacks : label_in found ≡ None → LabelDiffers l found (NoLabel l.lockspace)
  Has_other_time : (text : List ℕ) → label_in found ≡ Some text → text ≢ label_text l → has_time l text ≡ false → LabelDiffers l found (OtherTime l.lockspace text)
  Has_other_area : (text : List ℕ) → label_in found ≡ Some text → text ≢ label_text l → has_time l text ≡ true → LabelDiffers l found (OtherLabel l.lockspace text)
  No_memory : LabelDiffers l found NoMemory

-- A lockspace has not its label: its sector was read, or can't be read.
pub data LabelLacks (h : Header) (content : Option (List ℕ)) (faults later : ℕ) (l : LockspaceLine) : NotStanding → Type 0 where
  Faults : Rose faults later → LabelLacks h content faults later l AreaFault
  Differs : (sector : List ℕ) (d : NotStanding) → IsSectorOf h content (value_offset (layout_of h.geometry) l.offset) sector
      → LabelDiffers (label_of h l) (decoded sha256 sector) d → LabelLacks h content faults later l d

-- Where a resource has its leader another record stands: the sector was read, or can't be read.
pub data LeaderLacks (h : Header) (content : Option (List ℕ)) (faults later : ℕ) (r : ResourceLine) : NotStanding → Type 0 where
  Leader_faults : Rose faults later → LeaderLacks h content faults later r AreaFault
  Leader_differs : (sector : List ℕ) (d : NotStanding) → IsSectorOf h content (leader_offset r.offset) sector
      → leader_found h r (decoded sha256 sector) ≡ Err d → LeaderLacks h content faults later r d

-- Something that a header has on the disk at this path does not stand on it.
pub data StandsNot (h : Header) (path : List ℕ) (content : Option (List ℕ)) (faults later : ℕ) (d : NotStanding) : Type 0 where
  Lockspace_lacks : (l : LockspaceLine) → Contains h.lockspaces l → l.path ≡ path → LabelLacks h content faults later l d → StandsNot h path content faults later d
  Resource_lacks : (r : ResourceLine) → Contains h.resources r → r.path ≡ path → LeaderLacks h content faults later r d → StandsNot h path content faults later d
