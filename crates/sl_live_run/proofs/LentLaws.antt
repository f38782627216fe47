-- Areas that are handed out, one of each disk, and taken back: what they counted, they count for the devices.
use Rattle.sl_cell.specs.declared.part.Part.TheVariants.{Delta, Resource}
use Rattle.sl_cell.specs.declared.part.Part.{Part}
use Rattle.sl_live_machine.specs.declared.machine.Parts.{Parts}
use Rattle.sl_live_run.proofs.ReadyLaws.{rose_after, rose_before}
use Rattle.sl_live.specs.declared.disks.Disk.{Disk}
use Rattle.sl_live_run.specs.Areas.{AreBack, AreLent, IsLent, faults_in, worker_of}
use Rattle.sl_live_run.specs.Lent.{AreAllBack, AreAllHad, AreHad, IsBack}
use Rattle.sl_live_run.specs.Runs.{Both, Leavings, disks_in, remains_of}
use Rattle.sl_live_run.specs.declared.ground.Prepared.{Prepared}
use Rattle.sl_live_run.specs.declared.run.Remains.{Remains}
use Rattle.sl_outside.specs.Acts.{Grows}
use Rattle.sl_outside.specs.Disks.{CountsBack}
use Rattle.sl_outside.specs.Lendings.{AreaBack, AreaOut, Lending, SpawnerOut}
use Rattle.sl_outside.specs.declared.act.Act.{Act}
use Rattle.sl_run.specs.declared.header.Header.{Header}
use Rattle.sl_words.proofs.Numbers.{refl_le, trans_le}
use Rattle.sl_run.specs.declared.header.Disk.{Disk as DiskLine}
use Rattle.sl_io.specs.FaultCauses.{Rose}
use Rattle.std.proofs.Common.{ap, append-nil, append_assoc, arith, refl, subst, sym, ◌∙◌}
use Rattle.std.proofs.lemmas.List.{length-map, map-append, take_more}
use Rattle.std.specs.Prelude.{List, Option, get_or, length, map, suc, take, zero, [], ℕ, ◌++◌, ◌+◌, ◌<◌, ◌∷◌, ◌≡◌}

-- ---- faults

-- One area more.
pub faults_more : {A : Type 0} (faults : A → ℕ) (ds : List (Disk A)) (d : Disk A) → faults_in faults (ds ++ d ∷ []) ≡ faults_in faults ds + faults d.area
faults_more faults [] d = omega arith
faults_more faults (x ∷ xs) d = let more = faults_more faults xs d in omega (arith, more)

rose_some : (a b : ℕ) → Rose a b → 0 < b
rose_some a b rose = omega (arith, rose)

-- .. that counted a fault.
pub faults_some : {A : Type 0} (faults : A → ℕ) (ds : List (Disk A)) (d : Disk A) (a : ℕ) → Rose a (faults d.area) → 0 < faults_in faults (ds ++ d ∷ [])
faults_some faults ds d a rose = let more = faults_more faults ds d in let some = rose_some a (faults d.area) rose in omega (arith, more, some)

-- The area that failed stands behind the others.
pub fault_pushed : {A : Type 0} (faults : A → ℕ) (ds ds' : List (Disk A)) (d : Disk A) (a : ℕ) → ds' ≡ ds ++ d ∷ [] → Rose a (faults d.area) → 0 < faults_in faults ds'
fault_pushed faults ds ds' d a is rose = subst (λ xs. 0 < faults_in faults xs) (sym is) (faults_some faults ds d a rose)

-- ---- back

pub counts_none : (a : ℕ) → CountsBack 0 a a
counts_none a = record { rose = λ some. absurd (omega (arith, some)); stays = λ none. refl; later = refl_le a }

rose_of : (m n a b c : ℕ) → CountsBack m a b → CountsBack n b c → 0 < m + n → Rose a c
rose_of zero n a b c first then some = rose_after a b c first.later (then.rose (omega (arith, some)))
rose_of (suc m) n a b c first then some = rose_before a b c (first.rose (omega arith)) then.later

no_left : (m n : ℕ) → m + n ≡ 0 → m ≡ 0
no_left m n none = omega (arith, none)

no_right : (m n : ℕ) → m + n ≡ 0 → n ≡ 0
no_right m n none = omega (arith, none)

-- One behind another.
pub counts_more : (m n a b c : ℕ) → CountsBack m a b → CountsBack n b c → CountsBack (m + n) a c
counts_more m n a b c first then =
    record {
      rose = rose_of m n a b c first then;
      stays = λ none. then.stays (no_right m n none) ∙ first.stays (no_left m n none);
      later = trans_le a b c first.later then.later;
    }

-- Of these areas some are back, which counted so much; the others are still out.
pub record IsGoingBack {A : Type 0} (faults : A → ℕ) (all left : List (Disk A)) (before now : ℕ) : Type 0 where
  pub gone : ℕ
  pub sum : faults_in faults all ≡ faults_in faults left + gone
  pub counts : CountsBack gone before now

pub back_first : {A : Type 0} (faults : A → ℕ) (all : List (Disk A)) (a : ℕ) → IsGoingBack faults all all a a
back_first faults all a = record { gone = 0; sum = omega arith; counts = counts_none a }

pub back_more : {A : Type 0} (faults : A → ℕ) (all left rest : List (Disk A)) (d : Disk A) (a b c : ℕ) → left ≡ rest ++ d ∷ [] → CountsBack (faults d.area) b c
    → IsGoingBack faults all left a b → IsGoingBack faults all rest a c
back_more faults all left rest d a b c is one going =
    let parts : faults_in faults left ≡ faults_in faults rest + faults d.area = ap (faults_in faults) is ∙ faults_more faults rest d in
    let sum = going.sum in
    record {
      gone = going.gone + faults d.area;
      sum = omega (arith, parts, sum);
      counts = counts_more going.gone (faults d.area) a b c going.counts one;
    }

-- Of these areas some are back, as they were then; the others are still out.
pub record AreGoing {A : Type 0} (content : A → Option (List ℕ)) (faults : A → ℕ) (all left : List (Disk A)) (was now : Option (List Lending)) : Type 0 where
  pub gone : List (Disk A)
  pub parts : all ≡ left ++ gone
  pub back : AreBack content faults gone was now

pub going_first : {A : Type 0} (content : A → Option (List ℕ)) (faults : A → ℕ) (all : List (Disk A)) (was : Option (List Lending)) → AreGoing content faults all all was was
going_first content faults all was = record { gone = []; parts = sym (append-nil all); back = refl }

pub going_more : {A : Type 0} (content : A → Option (List ℕ)) (faults : A → ℕ) (all left rest : List (Disk A)) (d : Disk A) (was now then : Option (List Lending)) → left ≡ rest ++ d ∷ []
    → Grows now then (AreaBack (content d.area) (faults d.area) ∷ []) → AreGoing content faults all left was now → AreGoing content faults all rest was then
going_more content faults all left rest d was now then is grows going =
    record {
      gone = d ∷ going.gone;
      parts = going.parts ∙ ap (λ xs. xs ++ going.gone) is ∙ append_assoc rest (d ∷ []) going.gone;
      back = (now, going.back, grows);
    }

pub all_gone : {A : Type 0} (content : A → Option (List ℕ)) (faults : A → ℕ) (all left : List (Disk A)) (was now : Option (List Lending)) → left ≡ [] → AreGoing content faults all left was now
    → AreBack content faults all was now
all_gone content faults all left was now none going =
    subst (λ xs. AreBack content faults xs was now) (sym (going.parts ∙ ap (λ xs. xs ++ going.gone) none)) going.back

-- ---- one of each disk

lent_behind : {A : Type 0} (content : A → Option (List ℕ)) (folder : List ℕ) (h : Header) (m : ℕ) (part : Part) (ls : List DiskLine) (ds : List (Disk A)) (l : DiskLine) (d : Disk A) (was now then : Option (List Lending))
    → AreLent content folder h m part ls ds was now → IsLent content folder h m part l.path d now then → AreLent content folder h m part (ls ++ l ∷ []) (ds ++ d ∷ []) was then
lent_behind content folder h m part [] [] l d was now then lent one =
    (then, subst (λ x. IsLent content folder h m part l.path d x then) lent one, refl)
lent_behind content folder h m part [] (x ∷ xs) l d was now then lent one = absurd lent
lent_behind content folder h m part (k ∷ ks) [] l d was now then lent one = absurd lent
lent_behind content folder h m part (k ∷ ks) (x ∷ xs) l d was now then lent one =
    (lent.0, lent.1, lent_behind content folder h m part ks xs l d lent.0 now then lent.2 one)

-- An area of the next disk.
pub lent_more : {A : Type 0} (content : A → Option (List ℕ)) (folder : List ℕ) (h : Header) (m : ℕ) (part : Part) (ls : List DiskLine) (k : ℕ) (l : DiskLine) (ds ds' : List (Disk A)) (d : Disk A) (was now then : Option (List Lending))
    → k < length ls → l ≡ get_or ls k l → ds' ≡ ds ++ d ∷ [] → AreLent content folder h m part (take k ls) ds was now → IsLent content folder h m part l.path d now then
    → AreLent content folder h m part (take (k + 1) ls) ds' was then
lent_more content folder h m part ls k l ds ds' d was now then inside is pushed lent one =
    let more : take (k + 1) ls ≡ take k ls ++ l ∷ [] = take_more ls k l inside ∙ ap (λ y. take k ls ++ y ∷ []) (sym is) in
    subst (λ xs. AreLent content folder h m part xs ds' was then) (sym more)
    (subst (λ xs. AreLent content folder h m part (take k ls ++ l ∷ []) xs was then) (sym pushed) (lent_behind content folder h m part (take k ls) ds l d was now then lent one))

pub lent_pushed : {A : Type 0} (content : A → Option (List ℕ)) (folder : List ℕ) (h : Header) (m : ℕ) (part : Part) (ls : List DiskLine) (k : ℕ) (l : DiskLine) (ds mid ds' : List (Disk A)) (d : Disk A) (was now then : Option (List Lending))
    → k < length ls → l ≡ get_or ls k l → mid ≡ ds → ds' ≡ mid ++ d ∷ [] → AreLent content folder h m part (take k ls) ds was now → IsLent content folder h m part l.path d now then
    → AreLent content folder h m part (take (k + 1) ls) ds' was then
lent_pushed content folder h m part ls k l ds mid ds' d was now then inside is kept pushed lent one =
    lent_more content folder h m part ls k l ds ds' d was now then inside is (pushed ∙ ap (λ xs. xs ++ d ∷ []) kept) lent one

-- It was handed out at this path, to this worker.
pub lent_there : {A : Type 0} (content : A → Option (List ℕ)) (m : ℕ) (part : Part) (worker : ℕ) (folder path whole : List ℕ) (a : A) (was is : Option (List Lending)) → worker ≡ worker_of part → whole ≡ folder ++ path
    → Grows was is (AreaOut m worker whole (content a) ∷ []) → Grows was is (AreaOut m (worker_of part) (folder ++ path) (content a) ∷ [])
lent_there content m part worker folder path whole a was is same there grows =
    subst (λ w. Grows was is (AreaOut m w (folder ++ path) (content a) ∷ [])) same (subst (λ p. Grows was is (AreaOut m worker p (content a) ∷ [])) there grows)

-- Of both workers, and a spawner behind them.
pub had_by : {C P D A : Type 0} (content : A → Option (List ℕ)) (folder : List ℕ) (h : Header) (m : ℕ) (p : Parts C P D A) (delta resource : List (Disk A)) (first was mid then is : Option (List Lending))
    → (p.delta.items ≡ delta) × (p.resource.items ≡ resource) → was ≡ first → AreLent content folder h m Delta h.disks delta was mid → AreLent content folder h m Resource h.disks resource mid then
    → Grows then is (SpawnerOut m ∷ []) → AreHad content folder h m (disks_in p) first is
had_by content folder h m p delta resource first was mid then is areas same delta_lent resource_lent spawner =
    record {
      delta_lent = mid;
      delta = subst (λ xs. AreLent content folder h m Delta h.disks xs first mid) (sym areas.0) (subst (λ x. AreLent content folder h m Delta h.disks delta x mid) same delta_lent);
      resource_lent = then;
      resource = subst (λ xs. AreLent content folder h m Resource h.disks xs mid then) (sym areas.1) resource_lent;
      spawner = spawner;
    }

-- ---- one machine behind another

pub had_behind : {A : Type 0} (content : A → Option (List ℕ)) (folder : List ℕ) (h : Header) (m n : ℕ) (ds : List (Both A)) (d : Both A) (was now then : Option (List Lending)) → n ≡ m + length ds
    → AreAllHad content folder h m ds was now → AreHad content folder h n d now then → AreAllHad content folder h m (ds ++ d ∷ []) was then
had_behind content folder h m n [] d was now then place had one =
    (then, subst (λ x. AreHad content folder h m d x then) had (subst (λ (k : ℕ). AreHad content folder h k d now then) (omega (arith, place)) one), refl)
had_behind content folder h m n (x ∷ xs) d was now then place had one =
    (had.0, had.1, had_behind content folder h (m + 1) n xs d had.0 now then (omega (arith, place)) had.2 one)

pub had_pushed : {V C P D W G A : Type 0} (content : A → Option (List ℕ)) (folder : List ℕ) (h : Header) (ps mid ps' : List (Prepared V C P D W G A)) (p : Prepared V C P D W G A) (n : ℕ) (was now then : Option (List Lending))
    → mid ≡ ps → ps' ≡ mid ++ p ∷ [] → n ≡ length ps + 1 → AreAllHad content folder h 1 (map (λ p. disks_in p.parts) ps) was now → AreHad content folder h n (disks_in p.parts) now then
    → AreAllHad content folder h 1 (map (λ p. disks_in p.parts) ps') was then
had_pushed {V} {C} {P} {D} {W} {G} {A} content folder h ps mid ps' p n was now then kept pushed place had one =
    let of : Prepared V C P D W G A → Both A = λ (x : Prepared V C P D W G A). disks_in x.parts in
    let count = length-map ps of in
    subst (λ (ds : List (Both A)). AreAllHad content folder h 1 ds was then) (sym (ap (map of) (pushed ∙ ap (λ xs. xs ++ p ∷ []) kept) ∙ map-append of ps (p ∷ [])))
    (had_behind content folder h 1 n (map of ps) (of p) was now then (omega (arith, place, count)) had one)

pub had_none : {V C P D W G A : Type 0} (content : A → Option (List ℕ)) (folder : List ℕ) (h : Header) (ps : List (Prepared V C P D W G A)) (was : Option (List Lending)) → ps ≡ []
    → AreAllHad content folder h 1 (map (λ p. disks_in p.parts) ps) was was
had_none {V} {C} {P} {D} {W} {G} {A} content folder h ps was none =
    subst (λ (xs : List (Prepared V C P D W G A)). AreAllHad content folder h 1 (map (λ p. disks_in p.parts) xs) was was) (sym none) refl

-- Nothing was handed out before, nor behind.
pub had_since : {A : Type 0} (content : A → Option (List ℕ)) (folder : List ℕ) (h : Header) (m : ℕ) (ds : List (Both A)) (first was mid now then : Option (List Lending)) → mid ≡ was → was ≡ first → then ≡ now
    → AreAllHad content folder h m ds mid now → AreAllHad content folder h m ds first then
had_since content folder h m ds first was mid now then same before behind had =
    subst (AreAllHad content folder h m ds first) (sym behind) (subst (λ x. AreAllHad content folder h m ds x now) (same ∙ before) had)

-- ---- what machines left

pub back_behind : {A P : Type 0} (content : A → Option (List ℕ)) (faults : A → ℕ) (spawned : P → Option (List Act)) (ls : List (Leavings A P)) (l : Leavings A P) (was now then : Option (List Lending))
    → AreAllBack content faults spawned ls was now → IsBack content faults spawned l now then → AreAllBack content faults spawned (ls ++ l ∷ []) was then
back_behind content faults spawned [] l was now then back one = (then, subst (λ x. IsBack content faults spawned l x then) back one, refl)
back_behind content faults spawned (x ∷ xs) l was now then back one = (back.0, back.1, back_behind content faults spawned xs l back.0 now then back.2 one)

pub back_pushed : {A P : Type 0} (content : A → Option (List ℕ)) (faults : A → ℕ) (spawned : P → Option (List Act)) (rs : List (Remains A P)) (r : Remains A P) (was now then : Option (List Lending))
    → AreAllBack content faults spawned (map remains_of rs) was now → IsBack content faults spawned (remains_of r) now then → AreAllBack content faults spawned (map remains_of (rs ++ r ∷ [])) was then
back_pushed content faults spawned rs r was now then back one =
    subst (λ ls. AreAllBack content faults spawned ls was then) (sym (map-append remains_of rs (r ∷ []))) (back_behind content faults spawned (map remains_of rs) (remains_of r) was now then back one)
