-- A call that was made on a disk of a list.
use Rattle.sl_live.specs.ServedCalls.{IsMade, IsServed, place_of}
use Rattle.sl_live.specs.declared.disks.Disk.{Disk}
use Rattle.sl_area.proofs.SizeLaws.{has_room}
use Rattle.sl_area.specs.AreaSizes.{IsGeometry, Sizes}
use Rattle.sl_area.specs.Sectors.{SectorPlace}
use Rattle.sl_sector.specs.SectorLayouts.{IsSectorSize}
use Rattle.sl_trace.specs.declared.effects.Call.{Call}
use Rattle.sl_trace.specs.declared.input.Answer.{Answer}
use Rattle.std.proofs.Common.{ap, get_or, refl, subst, sym, ◌∙◌}
use Rattle.std.proofs.lemmas.Option.{slice_get-get_or}
use Rattle.std.specs.List.{slice_set}
use Rattle.std.specs.Prelude.{IfOk, IfSome, List, None, Option, Result, Some, length, ℕ, ◌<◌, ◌≡◌}

-- The sectors of a run have a size that records have.
pub sized_at : (s : Sizes) → IsGeometry s → IsSectorSize s.sector
sized_at s is = (has_room s is).sector

module _ {A : Type 0} (content : A → Option (List ℕ)) (faults : A → ℕ) where
  pub made_on : (sector : ℕ) (c : Call) (disks : List (Disk A)) (k : ℕ) (before : Disk A) (area : A) (at : SectorPlace) (a : Answer) → k < length disks
      → before ≡ get_or disks k before → at ≡ place_of sector c
      → IsServed at c.op (content before.area) (content area) (faults before.area) (faults area) a
      → IsMade content faults sector c k disks (slice_set disks k (record before { area = area })) a
  made_on sector c disks k before area at a within is place served = record {
    before = before;
    after = record before { area = area };
    there = slice_get-get_or disks k before within ∙ ap (λ d. Some d) (sym is);
    others = refl;
    path = refl;
    served = subst (λ p. IsServed p c.op (content before.area) (content area) (faults before.area) (faults area) a) place served;
  }

  pub made_at : {E : Type 0} (sector : ℕ) (c : Call) (disks later : List (Disk A)) (k : ℕ) (o : Option ℕ) (r : Result Answer E) → Some k ≡ o
      → IfOk r (IsMade content faults sector c k disks later) → IfSome o (λ j. IfOk r (IsMade content faults sector c j disks later))
  made_at sector c disks later k (Some j) r is made = let same : k ≡ j = cc in subst (λ n. IfOk r (IsMade content faults sector c n disks later)) same made
  made_at sector c disks later k None r is made = absurd cc
