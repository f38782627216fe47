-- Disks of a header that are looked at one after another, each for its size.
use Rattle.sl_own.specs.OwnGrounds.{Area_bars, Bars, HasSize, Has_other, Is_missing, No_memory, SizeDiffers, Size_bars, size_refusal}
use Rattle.sl_own.specs.declared.no_place.NoPlace.TheVariants.{NotStanding, OtherSize}
use Rattle.sl_own.specs.declared.no_place.NoPlace.{NoPlace}
use Rattle.sl_outside.specs.Disks.{Disks}
use Rattle.sl_place.specs.Standing.{IsSizeOf}
use Rattle.sl_run.specs.Worlds.{mebibyte}
use Rattle.sl_run.specs.declared.header.Disk.{Disk as DiskLine}
use Rattle.sl_run.specs.declared.header.Header.{Header}
use Rattle.sl_standing.specs.declared.not_standing.NotStanding.TheVariants.{NoMemory}
use Rattle.std.proofs.Common.{inl, inr, refl, subst, sym, ◌∙◌}
use Rattle.std.proofs.lemmas.Bool.{eqb-false, eqb-true}
use Rattle.std.specs.Prelude.{Bool, Contains, Err, IfErr, IsErrAnd, List, None, Ok, OnOk, Option, Result, Some, false, if◌then◌else◌, true, ℕ, ◌*◌, ◌++◌, ◌==◌, ◌≡◌, ◌⊎◌}

-- ---- one disk

sized_by : (same : Bool) (r : Result (Unit {0}) NoPlace) (disks : Disks) (folder : List ℕ) (d : DiskLine) (bytes : ℕ) → same ≡ (bytes == d.mebibytes * mebibyte)
    → IsSizeOf (disks (folder ++ d.path)) (Some bytes) → r ≡ (if same then Ok tt else Err (OtherSize d.path bytes)) → OnOk r (HasSize disks folder d)
sized_by true r disks folder d bytes test told is =
    let due : bytes ≡ d.mebibytes * mebibyte = eqb-true bytes (d.mebibytes * mebibyte) (sym test) in
    subst (λ (x : Result (Unit {0}) NoPlace). OnOk x (HasSize disks folder d)) (sym is) (subst (λ (n : ℕ). IsSizeOf (disks (folder ++ d.path)) (Some n)) due told)
sized_by false r disks folder d bytes test told is = subst (λ (x : Result (Unit {0}) NoPlace). OnOk x (HasSize disks folder d)) (sym is) tt

-- What was told of a disk that is not refused.
pub sized : (r : Result (Unit {0}) NoPlace) (disks : Disks) (folder : List ℕ) (d : DiskLine) (size : Option ℕ) → IsSizeOf (disks (folder ++ d.path)) size → r ≡ size_refusal d size
    → OnOk r (HasSize disks folder d)
sized r disks folder d None told is = subst (λ (x : Result (Unit {0}) NoPlace). OnOk x (HasSize disks folder d)) (sym is) tt
sized r disks folder d (Some bytes) told is = sized_by (bytes == d.mebibytes * mebibyte) r disks folder d bytes refl told is

other_by : (same : Bool) (r : Result (Unit {0}) NoPlace) (disks : Disks) (folder : List ℕ) (h : Header) (d : DiskLine) (bytes : ℕ) → same ≡ (bytes == d.mebibytes * mebibyte)
    → Contains h.disks d → IsSizeOf (disks (folder ++ d.path)) (Some bytes) → r ≡ (if same then Ok tt else Err (OtherSize d.path bytes))
    → IfErr r (λ why. (why ≡ NotStanding NoMemory) ⊎ SizeDiffers disks folder h why)
other_by true r disks folder h d bytes test has told is =
    subst (λ (x : Result (Unit {0}) NoPlace). IfErr x (λ why. (why ≡ NotStanding NoMemory) ⊎ SizeDiffers disks folder h why)) (sym is) tt
other_by false r disks folder h d bytes test has told is =
    subst (λ (x : Result (Unit {0}) NoPlace). IfErr x (λ why. (why ≡ NotStanding NoMemory) ⊎ SizeDiffers disks folder h why)) (sym is)
    (inr (Has_other d bytes has told (eqb-false bytes (d.mebibytes * mebibyte) (sym test))))

-- .. and of one that is.
pub size_differs : (r : Result (Unit {0}) NoPlace) (disks : Disks) (folder : List ℕ) (h : Header) (d : DiskLine) (size : Option ℕ) → Contains h.disks d
    → IsSizeOf (disks (folder ++ d.path)) size → r ≡ size_refusal d size → IfErr r (λ why. (why ≡ NotStanding NoMemory) ⊎ SizeDiffers disks folder h why)
size_differs r disks folder h d None has told is =
    subst (λ (x : Result (Unit {0}) NoPlace). IfErr x (λ why. (why ≡ NotStanding NoMemory) ⊎ SizeDiffers disks folder h why)) (sym is) (inr (Is_missing d has told))
size_differs r disks folder h d (Some bytes) has told is = other_by (bytes == d.mebibytes * mebibyte) r disks folder h d bytes refl has told is

-- There was no memory to look.
pub no_look : {T : Type 0} (r : Result T NoPlace) (disks : Disks) (folder : List ℕ) (h : Header) → IsErrAnd r (λ x. x ≡ NotStanding NoMemory)
    → IfErr r (λ why. (why ≡ NotStanding NoMemory) ⊎ SizeDiffers disks folder h why)
no_look (Ok t) disks folder h is = tt
no_look (Err e) disks folder h is = inl is

-- ---- the folder

-- Why a disk was not as the header has it bars the machine.
pub bars_size : {T : Type 0} (r : Result T NoPlace) (disks now : Disks) (folder : List ℕ) (h : Header) (machine faults later : ℕ) → now ≡ disks
    → IfErr r (λ why. (why ≡ NotStanding NoMemory) ⊎ SizeDiffers now folder h why) → IfErr r (Bars disks folder h machine faults later)
bars_size (Ok t) disks now folder h machine faults later same why = tt
bars_size (Err e) disks now folder h machine faults later same (inl is) = subst (Bars disks folder h machine faults later) (sym is) (Area_bars (NotStanding NoMemory) No_memory)
bars_size (Err e) disks now folder h machine faults later same (inr differs) = Size_bars e (subst (λ (x : Disks). SizeDiffers x folder h e) same differs)

-- A disk that was looked at behind others, which changed nothing.
pub differs_before : {T : Type 0} (r : Result T NoPlace) (why : NoPlace) (disks now : Disks) (folder : List ℕ) (h : Header) → now ≡ disks → IsErrAnd r (λ x. x ≡ why)
    → (why ≡ NotStanding NoMemory) ⊎ SizeDiffers now folder h why → IfErr r (λ e. (e ≡ NotStanding NoMemory) ⊎ SizeDiffers disks folder h e)
differs_before (Ok t) why disks now folder h same is so = tt
differs_before (Err e) why disks now folder h same is (inl none) = inl (is ∙ none)
differs_before (Err e) why disks now folder h same is (inr differs) =
    inr (subst (λ (x : Disks). SizeDiffers x folder h e) same (subst (SizeDiffers now folder h) (sym is) differs))
