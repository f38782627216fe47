-- A folder whose disks are looked at one after another.
use Rattle.sl_io.specs.FaultCauses.{Rose}
use Rattle.sl_live_run.specs.Folders.{Bars, BarsDisk, IsVacant}
use Rattle.sl_live_run.specs.declared.folder.NoEntry.TheVariants.{AreaFault, DiskThere, InUse, NoMemory}
use Rattle.sl_live_run.specs.declared.folder.NoEntry.{NoEntry}
use Rattle.sl_outside.specs.Disks.{Disks, Stay}
use Rattle.sl_run.specs.declared.header.Disk.{Disk}
use Rattle.sl_run.specs.declared.header.Header.{Header}
use Rattle.std.proofs.Common.{List, None, ap, arith, false, length, refl, subst, suc, sym, take, zero, ℕ, ◌++◌, ◌+◌, ◌<◌, ◌∙◌, ◌∷◌, ◌≡◌, ◌≤◌}
use Rattle.std.proofs.lemmas.List.Elements.{All-append, All-contains}
use Rattle.std.proofs.lemmas.List.{take_all, take_more}
use Rattle.std.specs.Prelude.{All, Contains, Err, IfErr, IsErrAnd, Ok, Result, [], get_or}

-- One disk more does not stand.
one_free : (disks : Disks) (path : List ℕ) (d : Disk) → disks (path ++ d.path) ≡ None → All (λ (d : Disk). disks (path ++ d.path) ≡ None) (d ∷ [])
one_free disks path d free zero e lt = free
one_free disks path d free (suc k) e lt = absurd (omega (arith, lt))

pub free_more : (disks : Disks) (path : List ℕ) (ds : List Disk) (k : ℕ) (d : Disk) → k < length ds → d ≡ get_or ds k d
    → All (λ (d : Disk). disks (path ++ d.path) ≡ None) (take k ds) → disks (path ++ d.path) ≡ None → All (λ (d : Disk). disks (path ++ d.path) ≡ None) (take (k + 1) ds)
free_more disks path ds k d lt is free this =
    let more : take (k + 1) ds ≡ take k ds ++ d ∷ [] = take_more ds k d lt ∙ ap (λ (y : Disk). take k ds ++ y ∷ []) (sym is) in
    subst (All (λ (d : Disk). disks (path ++ d.path) ≡ None)) (sym more) (All-append (λ (d : Disk). disks (path ++ d.path) ≡ None) (take k ds) (d ∷ []) free (one_free disks path d this))

-- None of them does.
pub none_stands : (disks : Disks) (path : List ℕ) (h : Header) (ds : List Disk) (k : ℕ) → ds ≡ h.disks → length ds ≤ k
    → All (λ (d : Disk). disks (path ++ d.path) ≡ None) (take k ds) → IsVacant (record { path = path; anew = false; disks = disks }) h
none_stands disks path h ds k same past free kept d one =
    let all : All (λ (d : Disk). disks (path ++ d.path) ≡ None) h.disks = subst (All (λ (d : Disk). disks (path ++ d.path) ≡ None)) (take_all k ds past ∙ same) free in
    All-contains (λ (d : Disk). disks (path ++ d.path) ≡ None) h.disks d all one

-- What stood stands after one step more.
pub stay_on : (a b c : Disks) → Stay a b → Stay b c → Stay a c
stay_on a b c first then path content is = then path content (first path content is)

-- ---- why not

rose_since : (a b c : ℕ) → a ≤ b → Rose b c → Rose a c
rose_since a b c later rose = omega (arith, later, rose)

-- A disk of the header bars it.
pub bars_one : (h : Header) (d : Disk) (a b c : ℕ) (why : NoEntry) → Contains h.disks d → a ≤ b → BarsDisk d.path b c why → Bars false h a c why
bars_one h d a b c AreaFault one later none = absurd none
bars_one h d a b c InUse one later none = absurd none
bars_one h d a b c (DiskThere path) one later bars = (record { kept = refl; disk = d; one = one; path_is = bars.0 }, rose_since a b c later bars.1)
bars_one h d a b c NoMemory one later none = tt

-- It is handed on.
pub barred_on : {A : Type 0} (r : Result A NoEntry) (why : NoEntry) (P : NoEntry → Type 0) → IsErrAnd r (λ x. x ≡ why) → P why → IfErr r P
barred_on (Ok x) why P is so = tt
barred_on (Err e) why P is so = subst P (sym is) so
