-- Machines that are ready, one after another; and why one is not.
use Rattle.sl_world_state.specs.declared.daemon.Site.{Site}
use Rattle.sl_live_run.proofs.HeaderLaws.{header_with, ticks_with}
use Rattle.sl_live_run.specs.Causes.{Explains}
use Rattle.sl_live_run.specs.Clocks.{AreTicks, as_first, readings_from, with_readings}
use Rattle.sl_live_run.specs.Grounds.{AreReady, IsReady, IsSiteOf, drawn_site}
use Rattle.sl_live_run.specs.declared.ground.NoGround.TheVariants.{AreaFault, NoMemory}
use Rattle.sl_live_run.specs.declared.ground.NoGround.{NoGround}
use Rattle.sl_live_run.specs.declared.ground.Prepared.{Prepared}
use Rattle.sl_outside.specs.Acts.{Tells}
use Rattle.sl_outside.specs.Disks.{CountsBack}
use Rattle.sl_outside.specs.declared.act.Act.{Act}
use Rattle.sl_io.specs.FaultCauses.{Rose}
use Rattle.sl_words.proofs.Lists.{got_index, there_is}
use Rattle.sl_words.proofs.Places.{Came, PlacedBehind, Stood, placed_behind}
use Rattle.sl_run.specs.Headers.{IsHeader}
use Rattle.sl_run.specs.Worlds.{clock_reading}
use Rattle.sl_run.specs.declared.header.FirstReading.{FirstReading}
use Rattle.sl_run.specs.declared.header.Header.{Header}
use Rattle.sl_run.specs.declared.header.SessionLine.{SessionLine}
use Rattle.sl_words.proofs.CaseLaws.{none_some}
use Rattle.sl_world_law.specs.WorldsStand.{first_site}
use Rattle.std.proofs.Common.{All, ap, arith, refl, subst, sym, ◌∙◌}
use Rattle.std.specs.Prelude.{Err, IfErr, IfOk, IsErrAnd, List, None, Ok, Option, Result, Some, length, slice_get, [], ℕ, ◌++◌, ◌+◌, ◌<◌, ◌∷◌, ◌≡◌, ◌≤◌}

-- ---- why not

pub rose_before : (a b c : ℕ) → Rose a b → b ≤ c → Rose a c
rose_before a b c rose later = omega arith

pub rose_after : (a b c : ℕ) → a ≤ b → Rose b c → Rose a c
rose_after a b c later rose = omega arith

pub explains_between : (why : NoGround) (a b c d : ℕ) → a ≤ b → Explains b c why → c ≤ d → Explains a d why
explains_between AreaFault a b c d before rose later = rose_before a c d (rose_after a b c before rose) later
explains_between NoMemory a b c d before none later = tt

-- What failed without a value.
abbrev pub failed : NoGround → Result (Unit {0}) NoGround
failed why = Err why

-- The areas are back, one of which had counted a fault if that is why.
pub explains_back : (why : NoGround) (n a b c : ℕ) → b ≡ a → CountsBack n b c → (failed why ≡ failed AreaFault → 0 < n) → Explains a c why
explains_back AreaFault n a b c same back fault = rose_after a b c (omega (arith, same)) (back.rose (fault refl))
explains_back NoMemory n a b c same back fault = tt

-- It is handed on.
pub handed_on : {A : Type 0} (r : Result A NoGround) (why : NoGround) (a b : ℕ) → IsErrAnd r (λ x. x ≡ why) → Explains a b why → IfErr r (Explains a b)
handed_on (Ok x) why a b is so = tt
handed_on (Err e) why a b is so = subst (Explains a b) (sym is) so

-- ---- sites

pub site_machine : (h : Header) (m : ℕ) (o : Option SessionLine) (s : Site) → IsSiteOf h m o s → s.machine ≡ m
site_machine h m None s site = ap (λ (x : Site). x.machine) site.1
site_machine h m (Some l) s site = ap (λ (x : Site). x.machine) site

pub site_told : {E : Type 0} (r : Result Site E) (h : Header) (m : ℕ) (o : Option SessionLine) (l : SessionLine) → o ≡ Some l → IfOk r (λ (s : Site). s ≡ first_site h m l)
    → IfOk r (IsSiteOf h m o)
site_told r h m o l is told = subst (λ (x : Option SessionLine). IfOk r (IsSiteOf h m x)) (sym is) told

pub site_drawn : (h : Header) (m : ℕ) (o : Option SessionLine) (s : Site) (bits : ℕ) → o ≡ None → s ≡ drawn_site m bits → IsSiteOf h m o s
site_drawn h m o s bits is drawn = subst (λ (x : Option SessionLine). IsSiteOf h m x s) (sym is) (bits, drawn)

-- ---- the header

pub header_same : (h h' : Header) (rs : List FirstReading) → h' ≡ with_readings rs h → h' ≡ record h { clocks = h'.clocks }
header_same h h' rs is = subst (λ (x : Header). x ≡ record h { clocks = x.clocks }) (sym is) refl

read_so : {C : Type 0} (last : C → ℕ) (cs : List C) (h h' : Header) (rs : List FirstReading) → h' ≡ with_readings rs h → rs ≡ readings_from last 1 cs
    → h' ≡ with_readings (readings_from last 1 cs) h
read_so last cs h h' rs is are = is ∙ ap (λ xs. with_readings xs h) are

pub header_lawful : {C : Type 0} (last : C → ℕ) (cs : List C) (h h' : Header) (rs : List FirstReading) → h' ≡ with_readings rs h → rs ≡ readings_from last 1 cs
    → length cs ≡ h.machines → IsHeader h → IsHeader h'
header_lawful last cs h h' rs is are count lawful = subst IsHeader (sym (read_so last cs h h' rs is are)) (header_with last cs h lawful count)

pub header_ticks : {C : Type 0} (last : C → ℕ) (cs : List C) (h h' : Header) (rs : List FirstReading) → h' ≡ with_readings rs h → rs ≡ readings_from last 1 cs
    → AreTicks last h' 1 cs
header_ticks last cs h h' rs is are = subst (λ (x : Header). AreTicks last x 1 cs) (sym (read_so last cs h h' rs is are)) (ticks_with last cs h)

pub header_machines : (h h' : Header) (rs : List FirstReading) (n : ℕ) → h' ≡ with_readings rs h → n ≡ h.machines → n ≡ h'.machines
header_machines h h' rs n is count = count ∙ sym (ap (λ (x : Header). x.machines) is)

pub machines_back : (h h' : Header) (rs : List FirstReading) (n : ℕ) → h' ≡ with_readings rs h → n ≡ h'.machines → n ≡ h.machines
machines_back h h' rs n is count = count ∙ ap (λ (x : Header). x.machines) is

-- ---- clocks

-- The first clock is that of machine m, and the others are those of the machines behind it.
pub ticks_first : {C : Type 0} (last : C → ℕ) (h : Header) (m : ℕ) (cs : List C) (c : C) (rest : List C) → cs ≡ c ∷ rest → AreTicks last h m cs
    → (clock_reading h m ≡ as_first (last c)) × AreTicks last h (m + 1) rest
ticks_first last h m cs c rest is ticks = subst (AreTicks last h m) is ticks

-- ---- machines

ready_placed : {V C P D W G A : Type 0} (last : C → ℕ) (running : P → List ℕ) (spawned : P → Option (List Act)) (since fire : D → ℕ) (h : Header) (ps : List (Prepared V C P D W G A))
    (p : Prepared V C P D W G A) (n : ℕ) → n ≡ length ps + 1 → AreReady last running spawned since fire h ps → IsReady last running spawned since fire h n p.site p.parts
    → (k : ℕ) (x : Prepared V C P D W G A) → PlacedBehind ps p k x → IsReady last running spawned since fire h (k + 1) x.site x.parts
ready_placed last running spawned since fire h ps p n is ready one k x (Stood at) = ready k x at
ready_placed {V} {C} {P} {D} {W} {G} {A} last running spawned since fire h ps p n is ready one k x (Came here same) =
    let place : n ≡ k + 1 = omega (arith, is, here) in
    subst (λ (j : ℕ). IsReady last running spawned since fire h j x.site x.parts) place
    (subst (λ (y : Prepared V C P D W G A). IsReady last running spawned since fire h n y.site y.parts) (sym same) one)

-- One machine more.
pub ready_pushed : {V C P D W G A : Type 0} (last : C → ℕ) (running : P → List ℕ) (spawned : P → Option (List Act)) (since fire : D → ℕ) (h : Header) (ps mid ps' : List (Prepared V C P D W G A))
    (p : Prepared V C P D W G A) (n : ℕ) → mid ≡ ps → ps' ≡ mid ++ p ∷ [] → n ≡ length ps + 1 → AreReady last running spawned since fire h ps
    → IsReady last running spawned since fire h n p.site p.parts → AreReady last running spawned since fire h ps'
ready_pushed {V} {C} {P} {D} {W} {G} {A} last running spawned since fire h ps mid ps' p n kept pushed is ready one k x at =
    ready_placed last running spawned since fire h ps p n is ready one k x
    (placed_behind ps p k x (subst (λ (ys : List (Prepared V C P D W G A)). slice_get ys k ≡ Some x) (pushed ∙ ap (λ ys. ys ++ p ∷ []) kept) at))

pub ready_none : {V C P D W G A : Type 0} (last : C → ℕ) (running : P → List ℕ) (spawned : P → Option (List Act)) (since fire : D → ℕ) (h : Header) (ps : List (Prepared V C P D W G A))
    → ps ≡ [] → AreReady last running spawned since fire h ps
ready_none {V} {C} {P} {D} {W} {G} {A} last running spawned since fire h ps none k x at =
    absurd (none_some x (subst (λ (ys : List (Prepared V C P D W G A)). slice_get ys k ≡ Some x) none at))

-- The spawner of each was asked for nothing.
pub ready_unasked : {V C P D W G A : Type 0} (last : C → ℕ) (running : P → List ℕ) (spawned : P → Option (List Act)) (since fire : D → ℕ) (h : Header)
    (ps : List (Prepared V C P D W G A)) → AreReady last running spawned since fire h ps → All (λ (p : Prepared V C P D W G A). Tells (spawned p.parts.spawner) []) ps
ready_unasked {V} {C} {P} {D} {W} {G} {A} last running spawned since fire h ps ready k d lt =
    let there = there_is ps k lt in
    let p : Prepared V C P D W G A = there.0 in
    subst (λ (x : Prepared V C P D W G A). Tells (spawned x.parts.spawner) []) (sym (got_index ps k p d there.1)) (ready k p there.1).parts.unasked
