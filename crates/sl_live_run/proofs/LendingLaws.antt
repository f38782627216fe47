-- What devices handed out for one of many machines, and what came back of it, in all that they tell.
use Rattle.sl_cell.specs.declared.part.Part.{Part}
use Rattle.sl_live.specs.declared.disks.Disk.{Disk}
use Rattle.sl_live_run.specs.Areas.{AreBack, AreLent}
use Rattle.sl_live_run.specs.Lent.{AreAllBack, AreAllHad, AreHad, IsBack}
use Rattle.sl_live_run.specs.Runs.{Both, Leavings}
use Rattle.sl_outside.proofs.ActLaws.{grows_none, grows_on}
use Rattle.sl_outside.specs.Acts.{Grows}
use Rattle.sl_outside.specs.Lendings.{GoesOn, Lending}
use Rattle.sl_outside.specs.declared.act.Act.{Act}
use Rattle.sl_run.specs.declared.header.Disk.{Disk as DiskLine}
use Rattle.sl_run.specs.declared.header.Header.{Header}
use Rattle.sl_words.proofs.CaseLaws.{none_some, some_value}
use Rattle.std.proofs.Common.{List, None, Option, Some, [], arith, refl, subst, suc, sym, zero, ℕ, ◌++◌, ◌+◌, ◌∷◌, ◌≡◌}
use Rattle.std.specs.Prelude.{slice_get}

-- ---- one behind another

pub goes_same : (a b : Option (List Lending)) → b ≡ a → GoesOn a b
goes_same a b same = ([], grows_none a b same)

pub goes_both : (a b c : Option (List Lending)) → GoesOn a b → GoesOn b c → GoesOn a c
goes_both a b c first then = (first.0 ++ then.0, grows_on a b c first.0 then.0 first.1 then.1)

-- ---- what is handed out

lent_goes : {A : Type 0} (content : A → Option (List ℕ)) (folder : List ℕ) (h : Header) (m : ℕ) (part : Part) (ls : List DiskLine) (ds : List (Disk A)) (was is : Option (List Lending))
    → AreLent content folder h m part ls ds was is → GoesOn was is
lent_goes content folder h m part [] [] was is lent = goes_same was is lent
lent_goes content folder h m part [] (d ∷ ds) was is lent = absurd lent
lent_goes content folder h m part (l ∷ ls) [] was is lent = absurd lent
lent_goes content folder h m part (l ∷ ls) (d ∷ ds) was is lent =
    goes_both was lent.0 is (_, lent.1.lent) (lent_goes content folder h m part ls ds lent.0 is lent.2)

had_goes : {A : Type 0} (content : A → Option (List ℕ)) (folder : List ℕ) (h : Header) (m : ℕ) (d : Both A) (was is : Option (List Lending)) → AreHad content folder h m d was is → GoesOn was is
had_goes content folder h m d was is had =
    goes_both was had.delta_lent is (lent_goes content folder h m _ h.disks d.0 was had.delta_lent had.delta)
    (goes_both had.delta_lent had.resource_lent is (lent_goes content folder h m _ h.disks d.1 had.delta_lent had.resource_lent had.resource) (_, had.spawner))

all_had_goes : {A : Type 0} (content : A → Option (List ℕ)) (folder : List ℕ) (h : Header) (m : ℕ) (ds : List (Both A)) (was is : Option (List Lending)) → AreAllHad content folder h m ds was is
    → GoesOn was is
all_had_goes content folder h m [] was is had = goes_same was is had
all_had_goes content folder h m (d ∷ ds) was is had =
    goes_both was had.0 is (had_goes content folder h m d was had.0 had.1) (all_had_goes content folder h (m + 1) ds had.0 is had.2)

-- In all that is told between two moments stands that this goes from one moment to another.
pub record StandsBetween (was is : Option (List Lending)) (P : Option (List Lending) → Option (List Lending) → Type 0) : Type 0 where
  pub before : Option (List Lending)
  pub first : GoesOn was before
  pub after : Option (List Lending)
  pub there : P before after
  pub last : GoesOn after is

pub had_there : {A : Type 0} (content : A → Option (List ℕ)) (folder : List ℕ) (h : Header) (m : ℕ) (ds : List (Both A)) (was is : Option (List Lending)) (place : ℕ) (d : Both A) → slice_get ds place ≡ Some d
    → AreAllHad content folder h m ds was is → StandsBetween was is (λ a b. AreHad content folder h (m + place) d a b)
had_there content folder h m [] was is place d at had = absurd (none_some d at)
had_there content folder h m (x ∷ xs) was is zero d at had =
    record {
      before = was;
      first = goes_same was was refl;
      after = had.0;
      there = subst (λ (n : ℕ). AreHad content folder h n d was had.0) (omega arith) (subst (λ y. AreHad content folder h m y was had.0) (some_value x d at) had.1);
      last = all_had_goes content folder h (m + 1) xs had.0 is had.2;
    }
had_there content folder h m (x ∷ xs) was is (suc k) d at had =
    let rest = had_there content folder h (m + 1) xs had.0 is k d at had.2 in
    record {
      before = rest.before;
      first = goes_both was had.0 rest.before (had_goes content folder h m x was had.0 had.1) rest.first;
      after = rest.after;
      there = subst (λ (n : ℕ). AreHad content folder h n d rest.before rest.after) (omega arith) rest.there;
      last = rest.last;
    }

-- ---- what comes back

areas_go : {A : Type 0} (content : A → Option (List ℕ)) (faults : A → ℕ) (ds : List (Disk A)) (was is : Option (List Lending)) → AreBack content faults ds was is → GoesOn was is
areas_go content faults [] was is back = goes_same was is back
areas_go content faults (d ∷ ds) was is back = goes_both was back.0 is (areas_go content faults ds was back.0 back.1) (_, back.2)

back_goes : {A P : Type 0} (content : A → Option (List ℕ)) (faults : A → ℕ) (spawned : P → Option (List Act)) (l : Leavings A P) (was is : Option (List Lending)) → IsBack content faults spawned l was is
    → GoesOn was is
back_goes content faults spawned l was is back =
    goes_both was back.resource_back is (areas_go content faults l.0.1 was back.resource_back back.resource)
    (goes_both back.resource_back back.delta_back is (areas_go content faults l.0.0 back.resource_back back.delta_back back.delta)
    (goes_both back.delta_back back.signals_back is (_, back.signals) (_, back.starts)))

all_back_goes : {A P : Type 0} (content : A → Option (List ℕ)) (faults : A → ℕ) (spawned : P → Option (List Act)) (ls : List (Leavings A P)) (was is : Option (List Lending))
    → AreAllBack content faults spawned ls was is → GoesOn was is
all_back_goes content faults spawned [] was is back = goes_same was is back
all_back_goes content faults spawned (l ∷ ls) was is back =
    goes_both was back.0 is (back_goes content faults spawned l was back.0 back.1) (all_back_goes content faults spawned ls back.0 is back.2)

pub back_there : {A P : Type 0} (content : A → Option (List ℕ)) (faults : A → ℕ) (spawned : P → Option (List Act)) (ls : List (Leavings A P)) (was is : Option (List Lending)) (place : ℕ) (l : Leavings A P)
    → slice_get ls place ≡ Some l → AreAllBack content faults spawned ls was is → StandsBetween was is (λ a b. IsBack content faults spawned l a b)
back_there content faults spawned [] was is place l at back = absurd (none_some l at)
back_there content faults spawned (x ∷ xs) was is zero l at back =
    record {
      before = was;
      first = goes_same was was refl;
      after = back.0;
      there = subst (λ y. IsBack content faults spawned y was back.0) (some_value x l at) back.1;
      last = all_back_goes content faults spawned xs back.0 is back.2;
    }
back_there content faults spawned (x ∷ xs) was is (suc k) l at back =
    let rest = back_there content faults spawned xs back.0 is k l at back.2 in
    record {
      before = rest.before;
      first = goes_both was back.0 rest.before (back_goes content faults spawned x was back.0 back.1) rest.first;
      after = rest.after;
      there = rest.there;
      last = rest.last;
    }
