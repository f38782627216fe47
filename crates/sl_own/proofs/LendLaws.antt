-- Areas that are handed out to a worker, one of each disk, and what was found there.
use Rattle.sl_cell.specs.declared.part.Part.TheVariants.{Delta, Resource}
use Rattle.sl_cell.specs.declared.part.Part.{Part}
use Rattle.sl_io.specs.FaultCauses.{Rose}
use Rattle.sl_live.specs.declared.disks.Disk.{Disk}
use Rattle.sl_live_run.proofs.LentLaws.{fault_pushed}
use Rattle.sl_live_run.specs.Areas.{faults_in}
use Rattle.sl_outside.specs.Disks.{CountsBack, Disks, KeepsAllBut}
use Rattle.sl_outside.specs.Lendings.{Lending}
use Rattle.sl_own.specs.OwnGrounds.{AreLeft, AreaDiffers, Differs as LentDiffers, FindsNot, HasAreas, Has_fault, IsLeft, FindsOn, No_memory, NotLent}
use Rattle.sl_own.specs.declared.no_place.NoPlace.TheVariants.{NotStanding}
use Rattle.sl_own.specs.declared.no_place.NoPlace.{NoPlace}
use Rattle.sl_run.specs.declared.header.Disk.{Disk as DiskLine}
use Rattle.sl_run.specs.declared.header.Header.{Header}
use Rattle.sl_run.specs.declared.header.LockspaceLine.{LockspaceLine}
use Rattle.sl_run.specs.declared.header.ResourceLine.{ResourceLine}
use Rattle.sl_standing.specs.Standing.{Differs, Faults, LabelLacks, LeaderLacks, Leader_differs, Leader_faults, Lockspace_lacks, Resource_lacks, StandsNot}
use Rattle.sl_standing.specs.declared.not_standing.NotStanding.{NotStanding as NotStandingOf}
use Rattle.std.proofs.Common.{ap, arith, refl, subst, sym, ◌∙◌}
use Rattle.std.proofs.lemmas.List.Elements.{All-cons, All-head, All-nil, All-tail}
use Rattle.std.proofs.lemmas.List.{append_cancel_left, get_or-take, get_or_default, length-take-le, take_more}
use Rattle.std.specs.Io.KnownBytes.{Keeps}
use Rattle.std.specs.Prelude.{All, AllPairs, Contains, Err, IfErr, IsErrAnd, List, Ok, Option, Result, get_or, length, take, [], ℕ, ◌++◌, ◌+◌, ◌<◌, ◌∷◌, ◌≡◌, ◌≢◌, ◌≤◌}

-- ---- disks that were not handed out yet

-- Disks that none of these lines names are as they were.
abbrev pub AreUntaken : Disks → Disks → List ℕ → List DiskLine → Type 0
AreUntaken before now folder ds = (other : List ℕ) → All (λ (d : DiskLine). other ≢ folder ++ d.path) ds → now other ≡ before other

all_front : {X : Type 0} (P : X → Type 0) (xs ys : List X) → All P (xs ++ ys) → All P xs
all_front P [] ys all = All-nil P
all_front P (x ∷ xs) ys all = All-cons P x xs (All-head P x (xs ++ ys) all) (all_front P xs ys (All-tail P x (xs ++ ys) all))

all_last : {X : Type 0} (P : X → Type 0) (xs : List X) (y : X) → All P (xs ++ y ∷ []) → P y
all_last P [] y all = All-head P y [] all
all_last P (x ∷ xs) y all = all_last P xs y (All-tail P x (xs ++ y ∷ []) all)

-- One more is handed out.
pub untaken_more : (before now next : Disks) (folder : List ℕ) (ds : List DiskLine) (k : ℕ) (d : DiskLine) (whole : List ℕ) → k < length ds → d ≡ get_or ds k d → whole ≡ folder ++ d.path
    → KeepsAllBut whole now next → AreUntaken before now folder (take k ds) → AreUntaken before next folder (take (k + 1) ds)
untaken_more before now next folder ds k d whole inside is path others untaken other all =
    let more : take (k + 1) ds ≡ take k ds ++ d ∷ [] = take_more ds k d inside ∙ ap (λ (y : DiskLine). take k ds ++ y ∷ []) (sym is) in
    let each : All (λ (x : DiskLine). other ≢ folder ++ x.path) (take k ds ++ d ∷ []) = subst (All (λ (x : DiskLine). other ≢ folder ++ x.path)) more all in
    others other (λ same. all_last (λ (x : DiskLine). other ≢ folder ++ x.path) (take k ds) d each (same ∙ path))
    ∙ untaken other (all_front (λ (x : DiskLine). other ≢ folder ++ x.path) (take k ds) (d ∷ []) each)

-- The next one has a path of its own.
path_apart : (folder : List ℕ) (ds : List DiskLine) (k j : ℕ) (d e : DiskLine) → AllPairs (λ (a b : DiskLine). a.path ≢ b.path) ds → k < length ds → d ≡ get_or ds k d → j < length (take k ds)
    → folder ++ d.path ≢ folder ++ (get_or (take k ds) j e).path
path_apart folder ds k j d e apart inside is within same =
    let short : length (take k ds) ≡ k = length-take-le k ds (omega (arith, inside)) in
    let before : j < k = subst (λ (n : ℕ). j < n) short within in
    apart j k e before inside
    (ap (λ (x : DiskLine). x.path) (sym (get_or-take k ds j e before)) ∙ sym (append_cancel_left folder d.path (get_or (take k ds) j e).path same)
    ∙ ap (λ (x : DiskLine). x.path) (is ∙ get_or_default ds k d e inside))

here_untaken : (before now : Disks) (folder : List ℕ) (ds : List DiskLine) (k : ℕ) (d : DiskLine) → AllPairs (λ (a b : DiskLine). a.path ≢ b.path) ds → k < length ds → d ≡ get_or ds k d
    → AreUntaken before now folder (take k ds) → now (folder ++ d.path) ≡ before (folder ++ d.path)
here_untaken before now folder ds k d apart inside is untaken = untaken (folder ++ d.path) (λ j e within. path_apart folder ds k j d e apart inside is within)

-- Its area has what the disk had before all.
pub told_here : (before now : Disks) (folder : List ℕ) (ds : List DiskLine) (k : ℕ) (d : DiskLine) (whole : List ℕ) (content : Option (List ℕ))
    → AllPairs (λ (a b : DiskLine). a.path ≢ b.path) ds → k < length ds → d ≡ get_or ds k d → whole ≡ folder ++ d.path → AreUntaken before now folder (take k ds) → Keeps (now whole) content
    → Keeps (before (folder ++ d.path)) content
told_here before now folder ds k d whole content apart inside is path untaken kept =
    subst (λ (x : Option (List ℕ)). Keeps x content) (here_untaken before now folder ds k d apart inside is untaken)
    (subst (λ (p : List ℕ). Keeps (now p) content) path kept)

-- ---- one of each disk

left_behind : {A : Type 0} (content : A → Option (List ℕ)) (Found : List ℕ → Option (List ℕ) → Type 0) (folder : List ℕ) (m : ℕ) (part : Part) (ls : List DiskLine) (ds : List (Disk A)) (l : DiskLine) (d : Disk A)
    (was now then : Option (List Lending)) → AreLeft content Found folder m part ls ds was now → IsLeft content Found folder m part l.path d now then
    → AreLeft content Found folder m part (ls ++ l ∷ []) (ds ++ d ∷ []) was then
left_behind content Found folder m part [] [] l d was now then left one = (then, subst (λ x. IsLeft content Found folder m part l.path d x then) left one, refl)
left_behind content Found folder m part [] (x ∷ xs) l d was now then left one = absurd left
left_behind content Found folder m part (k ∷ ks) [] l d was now then left one = absurd left
left_behind content Found folder m part (k ∷ ks) (x ∷ xs) l d was now then left one = (left.0, left.1, left_behind content Found folder m part ks xs l d left.0 now then left.2 one)

-- An area of the next disk.
pub left_pushed : {A : Type 0} (content : A → Option (List ℕ)) (Found : List ℕ → Option (List ℕ) → Type 0) (folder : List ℕ) (m : ℕ) (part : Part) (ls : List DiskLine) (k : ℕ) (l : DiskLine)
    (ds mid ds' : List (Disk A)) (d : Disk A) (was now then : Option (List Lending)) → k < length ls → l ≡ get_or ls k l → mid ≡ ds → ds' ≡ mid ++ d ∷ []
    → AreLeft content Found folder m part (take k ls) ds was now → IsLeft content Found folder m part l.path d now then → AreLeft content Found folder m part (take (k + 1) ls) ds' was then
left_pushed content Found folder m part ls k l ds mid ds' d was now then inside is kept pushed left one =
    let more : take (k + 1) ls ≡ take k ls ++ l ∷ [] = take_more ls k l inside ∙ ap (λ (y : DiskLine). take k ls ++ y ∷ []) (sym is) in
    subst (λ (xs : List DiskLine). AreLeft content Found folder m part xs ds' was then) (sym more)
    (subst (λ xs. AreLeft content Found folder m part (take k ls ++ l ∷ []) xs was then) (sym (pushed ∙ ap (λ xs. xs ++ d ∷ []) kept))
    (left_behind content Found folder m part (take k ls) ds l d was now then left one))

-- The other worker's are so, whatever the disks had.
pub left_plainly : {A : Type 0} (content : A → Option (List ℕ)) (First Then : List ℕ → Option (List ℕ) → Type 0) (folder : List ℕ) (m : ℕ) (part : Part) (ls : List DiskLine) (ds : List (Disk A))
    (was is : Option (List Lending)) → ((path : List ℕ) (c : Option (List ℕ)) → First path c → Then path c) → AreLeft content First folder m part ls ds was is
    → AreLeft content Then folder m part ls ds was is
left_plainly content First Then folder m part [] [] was is on left = left
left_plainly content First Then folder m part [] (d ∷ ds) was is on left = absurd left
left_plainly content First Then folder m part (l ∷ ls) [] was is on left = absurd left
left_plainly content First Then folder m part (l ∷ ls) (d ∷ ds) was is on left = (
  left.0,
  record { path_is = left.1.path_is; before = left.1.before; lent = left.1.lent; found = on l.path left.1.before left.1.found; kept = left.1.kept },
  left_plainly content First Then folder m part ls ds left.0 is on left.2,
)

-- On each disk that was compared all stands.
pub areas_stand : {A : Type 0} (content : A → Option (List ℕ)) (disks : Disks) (folder : List ℕ) (h : Header) (m : ℕ) (ls : List DiskLine) (ds : List (Disk A)) (was is : Option (List Lending))
    → AreLeft content (FindsOn disks folder h Delta) folder m Delta ls ds was is → All (HasAreas disks folder h) ls
areas_stand content disks folder h m [] [] was is left = All-nil (HasAreas disks folder h)
areas_stand content disks folder h m [] (d ∷ ds) was is left = absurd left
areas_stand content disks folder h m (l ∷ ls) [] was is left = absurd left
areas_stand content disks folder h m (l ∷ ls) (d ∷ ds) was is left =
    All-cons (HasAreas disks folder h) l ls (record { content = left.1.before; told = left.1.found.0; stand = left.1.found.1 }) (areas_stand content disks folder h m ls ds left.0 is left.2)

-- ---- why areas can't be had

label_lacks_on : (h : Header) (content : Option (List ℕ)) (m n j k : ℕ) (l : LockspaceLine) (why : NotStandingOf) → (Rose m n → Rose j k) → LabelLacks h content m n l why → LabelLacks h content j k l why
label_lacks_on h content m n j k l why on (Faults rose) = Faults (on rose)
label_lacks_on h content m n j k l why on (Differs sector e at differs) = Differs sector why at differs

leader_lacks_on : (h : Header) (content : Option (List ℕ)) (m n j k : ℕ) (r : ResourceLine) (why : NotStandingOf) → (Rose m n → Rose j k) → LeaderLacks h content m n r why → LeaderLacks h content j k r why
leader_lacks_on h content m n j k r why on (Leader_faults rose) = Leader_faults (on rose)
leader_lacks_on h content m n j k r why on (Leader_differs sector e at differs) = Leader_differs sector why at differs

stands_not_on : (h : Header) (path : List ℕ) (content : Option (List ℕ)) (m n j k : ℕ) (why : NotStandingOf) → (Rose m n → Rose j k) → StandsNot h path content m n why → StandsNot h path content j k why
stands_not_on h path content m n j k why on (Lockspace_lacks l has at lacks) = Lockspace_lacks l has at (label_lacks_on h content m n j k l why on lacks)
stands_not_on h path content m n j k why on (Resource_lacks r has at lacks) = Resource_lacks r has at (leader_lacks_on h content m n j k r why on lacks)

finds_not_on : (h : Header) (part : Part) (path : List ℕ) (content : Option (List ℕ)) (m n j k : ℕ) (why : NotStandingOf) → (Rose m n → Rose j k) → FindsNot h part path content m n why
    → FindsNot h part path content j k why
finds_not_on h Delta path content m n j k why on not = stands_not_on h path content m n j k why on not
finds_not_on h Resource path content m n j k why on not = not

-- Where faults that were counted there count here as well.
pub not_lent_on : (disks : Disks) (folder : List ℕ) (h : Header) (part : Part) (m n j k : ℕ) (why : NoPlace) → (Rose m n → Rose j k) → NotLent disks folder h part m n why
    → NotLent disks folder h part j k why
not_lent_on disks folder h part m n j k why on (Has_fault rose) = Has_fault (on rose)
not_lent_on disks folder h part m n j k why on No_memory = No_memory
not_lent_on disks folder h part m n j k why on (LentDiffers d x) =
    LentDiffers d (record { disk = x.disk; there = x.there; content = x.content; told = x.told; not = finds_not_on h part x.disk.path x.content m n j k d on x.not })

-- The areas of one that found a difference, or could not look, have come back.
pub not_lent_back : (disks : Disks) (folder : List ℕ) (h : Header) (part : Part) (n a b c : ℕ) (why : NoPlace) → b ≡ a → CountsBack n b c → NotLent disks folder h part 0 n why
    → NotLent disks folder h part a c why
not_lent_back disks folder h part n a b c why same back not =
    not_lent_on disks folder h part 0 n a c why (λ rose. subst (λ (x : ℕ). Rose x c) same (back.rose (omega (arith, rose)))) not

-- The other worker finds no difference.
pub not_lent_other : (disks others : Disks) (folder : List ℕ) (h : Header) (m n j k : ℕ) (why : NoPlace) → (Rose m n → Rose j k) → NotLent others folder h Resource m n why
    → NotLent disks folder h Delta j k why
not_lent_other disks others folder h m n j k why on (Has_fault rose) = Has_fault (on rose)
not_lent_other disks others folder h m n j k why on No_memory = No_memory
not_lent_other disks others folder h m n j k why on (LentDiffers d x) = absurd x.not

rose_pushed : {A : Type 0} (faults : A → ℕ) (ds ds' : List (Disk A)) (d : Disk A) (a : ℕ) → ds' ≡ ds ++ d ∷ [] → Rose a (faults d.area) → Rose 0 (faults_in faults ds')
rose_pushed faults ds ds' d a pushed rose = let some = fault_pushed faults ds ds' d a pushed rose in omega (arith, some)

-- What does not stand was found on the last area that was handed out.
pub not_found : {A : Type 0} (faults : A → ℕ) (disks : Disks) (folder : List ℕ) (h : Header) (part : Part) (l : DiskLine) (content : Option (List ℕ)) (ds ds' : List (Disk A)) (d : Disk A) (a : ℕ)
    (why : NotStandingOf) → Contains h.disks l → Keeps (disks (folder ++ l.path)) content → ds' ≡ ds ++ d ∷ [] → FindsNot h part l.path content a (faults d.area) why
    → NotLent disks folder h part 0 (faults_in faults ds') (NotStanding why)
not_found faults disks folder h part l content ds ds' d a why there told pushed not =
    LentDiffers why
    (record { disk = l; there = there; content = content; told = told; not = finds_not_on h part l.path content a (faults d.area) 0 (faults_in faults ds') why (rose_pushed faults ds ds' d a pushed) not })

-- ---- handed on

pub err_on : {T : Type 0} (r : Result T NoPlace) (why : NoPlace) (P : NoPlace → Type 0) → IsErrAnd r (λ x. x ≡ why) → P why → IfErr r P
err_on (Ok t) why P is so = tt
err_on (Err e) why P is so = subst P (sym is) so

pub if_err_on : {T : Type 0} (r : Result T NoPlace) (P Q : NoPlace → Type 0) → ((e : NoPlace) → P e → Q e) → IfErr r P → IfErr r Q
if_err_on (Ok t) P Q on so = tt
if_err_on (Err e) P Q on so = on e so

pub rose_behind : (first faults later : ℕ) → faults ≡ first → Rose faults later → Rose first later
rose_behind first faults later same rose = subst (λ (n : ℕ). Rose n later) same rose
