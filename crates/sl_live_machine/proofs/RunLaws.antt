-- A machine's run, from what its threads and its cell say.
use Rattle.sl_cell.proofs.SeatLaws.{calls_prefix}
use Rattle.sl_book.proofs.SeatLaws.{mine_none, mine_whole}
use Rattle.sl_book.specs.Closings.{AreBelow, AreExact}
use Rattle.sl_cell.specs.Closings.{IsCaseOfSome}
use Rattle.sl_cell.specs.Parts.{calls_of}
use Rattle.sl_book.specs.Seats.{IsMine}
use Rattle.sl_cell.specs.Seats.{SeatState}
use Rattle.sl_cell.specs.declared.closing.Differ.TheVariants.{Broken, Entry as Counted}
use Rattle.sl_cell.specs.declared.closing.Differ.{Differ}
use Rattle.sl_cell.specs.declared.part.Part.TheVariants.{Delta, Resource}
use Rattle.sl_cell.specs.declared.part.Part.{Part}
use Rattle.sl_book.proofs.Fronts.{prefix_length, prefix_self}
use Rattle.sl_book.specs.Logs.{entries, given_by}
use Rattle.sl_cell.specs.Histories.{Signed, trace_of}
use Rattle.sl_live.proofs.CarriedLaws.{tells_on}
use Rattle.sl_live.proofs.WorkLaws.{served_more, take_same}
use Rattle.sl_live.specs.CarriedOut.{AreStarted, starts_of}
use Rattle.sl_live.specs.Turns.{AreServed, Gives, IsChildThread, IsDeviceThread, IsLineThread, IsStarterThread, IsTicker, Works}
use Rattle.sl_live.specs.declared.disks.Disk.{Disk}
use Rattle.sl_live_machine.proofs.StartChains.{started_more, starts_most, starts_seen}
use Rattle.sl_live_machine.proofs.WorkChains.{made_seen, most_seen}
use Rattle.sl_live_machine.specs.ServedActs.{ServedStarts, StartsOn}
use Rattle.sl_live_machine.specs.ServedDisks.{AreGathered, AreOf, AreServing, ServedDisks}
use Rattle.sl_live_machine.specs.ThreadTurns.{AreMade, WorksOn}
use Rattle.sl_live_machine.specs.declared.starter.Starter.{Starter}
use Rattle.sl_outside.specs.Acts.{Tells}
use Rattle.sl_outside.specs.declared.act.Act.{Act}
use Rattle.sl_live_machine.specs.ThreadSeats.{AreSeats, AreSeatsOf, GaveOnly, IsCaseOfRun, IsRun, Worked, children_number, device_number, entries_by, lines_number, number_of, starter_number, ticker_number}
use Rattle.sl_trace.specs.Traces.{IsTrace, Setting}
use Rattle.sl_trace.specs.declared.effects.Entry.{Entry}
use Rattle.sl_trace.specs.declared.input.Input.{Input}
use Rattle.sl_world_state.specs.Daemons.{Stood}
use Rattle.sl_run.specs.Lawful.{IsSetting}
use Rattle.std.proofs.Common.{ap, arith, refl, subst, sym, ◌∙◌}
use Rattle.std.specs.Prelude.{All, Bool, Err, IfErr, IfOk, List, Ok, OnOk, Option, Result, length, reverse, take, true, [], ℕ, ◌<◌, ◌^◌, ◌∷◌, ◌≡◌}
use mathlib.Core.List.{IsPrefix}

are_seats : (st : Setting) (ticks delta resource exits starts tests lines : SeatState) → IsTicker ticks → Works st Delta delta → Works st Resource resource → IsChildThread exits
    → IsStarterThread starts → IsDeviceThread tests → IsLineThread lines → AreSeats st (ticks ∷ delta ∷ resource ∷ exits ∷ starts ∷ tests ∷ lines ∷ [])
are_seats st ticks delta resource exits starts tests lines t d r c p v l = record {
  ticker = ticks;
  delta = delta;
  resource = resource;
  children = exits;
  starter = starts;
  device = tests;
  lines = lines;
  all = refl;
  wakes = t;
  delta_works = d;
  resource_works = r;
  tells_exits = c;
  tells_starts = p;
  tests = v;
  gives_lines = l;
}

ended : {E : Type 0} (r : Result SeatState E) (s : SeatState) (IsSo : SeatState → Type 0) → r ≡ Ok s → IfOk r IsSo → IsSo s
ended r s IsSo is so = subst (λ x. IfOk x IsSo) is so

-- What seven threads ended with.
pub record AreEnded {E : Type 0} (st : Setting) (ticks delta resource exits starts tests lines : Result SeatState E) : Type 0 where
  pub wakes : IfOk ticks (λ s. IsTicker s)
  pub delta_works : IfOk delta (λ s. Works st Delta s)
  pub resource_works : IfOk resource (λ s. Works st Resource s)
  pub tells_exits : IfOk exits (λ s. IsChildThread s)
  pub tells_starts : IfOk starts (λ s. IsStarterThread s)
  pub tests_devices : IfOk tests (λ s. IsDeviceThread s)
  pub gives_lines : IfOk lines (λ s. IsLineThread s)

pub are_gathered : {E : Type 0} (st : Setting) (t d r c p v l : Result SeatState E) (ticks delta resource exits starts tests lines : SeatState) → t ≡ Ok ticks → d ≡ Ok delta → r ≡ Ok resource
    → c ≡ Ok exits → p ≡ Ok starts → v ≡ Ok tests → l ≡ Ok lines → AreEnded st t d r c p v l → AreGathered st d r p (ticks ∷ delta ∷ resource ∷ exits ∷ starts ∷ tests ∷ lines ∷ [])
unfolding are_seats
are_gathered st t d r c p v l ticks delta resource exits starts tests lines ts ds rs cs ps vs ls so = record {
  are = are_seats st ticks delta resource exits starts tests lines (ended t ticks (λ s. IsTicker s) ts so.wakes) (ended d delta (λ s. Works st Delta s) ds so.delta_works)
      (ended r resource (λ s. Works st Resource s) rs so.resource_works) (ended c exits (λ s. IsChildThread s) cs so.tells_exits)
      (ended p starts (λ s. IsStarterThread s) ps so.tells_starts) (ended v tests (λ s. IsDeviceThread s) vs so.tests_devices)
      (ended l lines (λ s. IsLineThread s) ls so.gives_lines);
  delta_is = ds;
  resource_is = rs;
  starter_is = ps;
}

-- ---- seats whose counts are exact

-- The seat of this number has counted just the entries of its number.
record IsExact (k : ℕ) (s : SeatState) (h : List Signed) : Type 0 where
  by : s.by ≡ k
  before : IsPrefix s.front h
  count : s.count ≡ length (given_by k h)

-- what it gave are they
mine_exact : (k : ℕ) (s : SeatState) (h : List Signed) (made : List Entry) → IsExact k s h → IsMine s made → made ≡ entries_by k h
mine_exact k s h made exact mine =
    mine_whole s h made exact.before (exact.count ∙ ap (λ (n : ℕ). length (given_by n h)) (sym exact.by)) mine ∙ ap (λ (n : ℕ). entries (given_by n h)) exact.by

gave_only : (IsInput : Input → Type 0) (k : ℕ) (s : SeatState) (h : List Signed) → IsExact k s h → Gives IsInput s → GaveOnly IsInput k h
gave_only IsInput k s h exact so = subst (All (λ (e : Entry). IsInput e.input)) (mine_exact k s h so.made exact so.mine) so.each

gave_nothing : (k : ℕ) (s : SeatState) (h : List Signed) → IsExact k s h → IsDeviceThread s → entries_by k h ≡ []
gave_nothing k s h exact none = sym (mine_exact k s h [] exact (mine_none s none))

worked : (st : Setting) (part : Part) (s : SeatState) (h : List Signed) → IsExact (number_of part) s h → Works st part s → Worked st part h
worked st part s h exact w =
    let cs = calls_prefix part s.front h exact.before in
    let n = prefix_length (calls_of part (entries s.front)) (calls_of part (entries h)) cs in
    let most = w.most in
    let more : AreServed st h (take s.taken (calls_of part (entries s.front))) w.made
    = served_more st s.front h (take s.taken (calls_of part (entries s.front))) w.made exact.before w.serves in
    let all : AreServed st h (take s.taken (calls_of part (entries h))) w.made
    = subst (λ l. AreServed st h l w.made) (sym (take_same s.taken (calls_of part (entries s.front)) (calls_of part (entries h)) w.most cs)) more in
    record {
      taken = s.taken;
      most = omega (arith, n, most);
      serves = subst (λ es. AreServed st h (take s.taken (calls_of part (entries h))) es) (mine_exact (number_of part) s h w.made exact w.mine) all;
    }

-- ---- the run

exact_at : (k : ℕ) (s : SeatState) (h : List Signed) → (s.by ≡ k) × IsPrefix s.front h × (s.count ≡ length (given_by k h)) → IsExact k s h
exact_at k s h so = record { by = so.0; before = so.1; count = so.2 }

-- The seven seats are exact.
record AreSeven (st : Setting) (seats : List SeatState) (a : AreSeats st seats) (h : List Signed) : Type 0 where
  ticker : IsExact ticker_number a.ticker h
  delta : IsExact (number_of Delta) a.delta h
  resource : IsExact (number_of Resource) a.resource h
  children : IsExact children_number a.children h
  starter : IsExact starter_number a.starter h
  device : IsExact device_number a.device h
  lines : IsExact lines_number a.lines h

seven : (st : Setting) (seats : List SeatState) (h : List Signed) (a : AreSeats st seats) → AreExact 0 seats h → AreSeven st seats a h
seven st seats h a so =
    let all : AreExact 0 (a.ticker ∷ a.delta ∷ a.resource ∷ a.children ∷ a.starter ∷ a.device ∷ a.lines ∷ []) h = subst (λ (ss : List SeatState). AreExact 0 ss h) a.all so in
    record {
      ticker = exact_at 0 a.ticker h all.0;
      delta = exact_at 1 a.delta h all.1.0;
      resource = exact_at 2 a.resource h all.1.1.0;
      children = exact_at 3 a.children h all.1.1.1.0;
      starter = exact_at 4 a.starter h all.1.1.1.1.0;
      device = exact_at 5 a.device h all.1.1.1.1.1.0;
      lines = exact_at 6 a.lines h all.1.1.1.1.1.1.0;
    }

run_so : (st : Setting) (seats : List SeatState) (h : List Signed) (es : List Entry) → es ≡ entries h → (a : AreSeats st seats) → AreSeven st seats a h
    → AreBelow (length seats) h → IsTrace st (reverse es) → IsRun st es
run_so st seats h es same a x below trace = record {
  signed = h;
  same = sym same;
  trace = trace;
  by_threads = subst (λ n. AreBelow n h) (ap length a.all) below;
  wakes = gave_only _ ticker_number a.ticker h x.ticker a.wakes;
  delta = worked st Delta a.delta h x.delta a.delta_works;
  resource = worked st Resource a.resource h x.resource a.resource_works;
  exits = gave_only _ children_number a.children h x.children a.tells_exits;
  starts = gave_only _ starter_number a.starter h x.starter a.tells_starts;
  tests = gave_nothing device_number a.device h x.device a.tests;
  lines = gave_only _ lines_number a.lines h x.lines a.gives_lines;
}

-- These are the entries of a history that the counts of all seats make up.
run_whole : (st : Setting) (seats : List SeatState) (h : List Signed) (es : List Entry) → es ≡ entries h → AreSeats st seats → AreExact 0 seats h → AreBelow (length seats) h
    → IsTrace st (trace_of h) → IsRun st es
run_whole st seats h es same a exact below trace =
    run_so st seats h es same a (seven st seats h a exact) below (subst (λ (l : List Entry). IsTrace st (reverse l)) (sym same) trace)

-- ---- the disks of the workers, and the starter's starts

module _ {A P : Type 0} (content : A → Option (List ℕ)) (faults : A → ℕ) (told : P → Option (List Act)) (sector : ℕ) (st : Setting) where
  serving : {E : Type 0} (first second third : Result SeatState E) (delta delta' resource resource' : List (Disk A)) (x : P) (y : Starter P) (seats : List SeatState)
      → IfOk first (WorksOn content faults sector st Delta delta delta') → IfOk second (WorksOn content faults sector st Resource resource resource')
      → IfOk third (StartsOn st y.killed (told x) (told y.spawner)) → AreGathered st first second third seats
      → AreServing content faults told sector st delta delta' resource resource' x y seats
  serving {E} first second third delta delta' resource resource' x y seats d r s g = record {
    are = g.are;
    delta_on = subst (λ (e : Result SeatState E). IfOk e (WorksOn content faults sector st Delta delta delta')) g.delta_is d;
    resource_on = subst (λ (e : Result SeatState E). IfOk e (WorksOn content faults sector st Resource resource resource')) g.resource_is r;
    starter_on = subst (λ (e : Result SeatState E). IfOk e (StartsOn st y.killed (told x) (told y.spawner))) g.starter_is s;
  }

  -- threads that worked so left their seats among those of all threads
  pub threads_serving : {V E F : Type 0} (r : Result V F) (items : V → List SeatState) (first second third : Result SeatState E)
      (delta delta' left resource resource' left' : List (Disk A)) (x : P) (y y' : Starter P) → left ≡ delta' → left' ≡ resource' → y' ≡ y
      → IfOk first (WorksOn content faults sector st Delta delta delta') → IfOk second (WorksOn content faults sector st Resource resource resource')
      → IfOk third (StartsOn st y.killed (told x) (told y.spawner)) → IfOk r (λ v. AreGathered st first second third (items v))
      → IfOk r (λ v. AreServing content faults told sector st delta left resource left' x y' (items v))
  threads_serving (Ok v) items first second third delta delta' left resource resource' left' x y y' is is' same d s p g =
      subst (λ l. AreServing content faults told sector st delta l resource left' x y' (items v)) (sym is)
      (subst (λ l. AreServing content faults told sector st delta delta' resource l x y' (items v)) (sym is')
      (subst (λ z. AreServing content faults told sector st delta delta' resource resource' x z (items v)) (sym same)
      (serving first second third delta delta' resource resource' x y (items v) d s p g)))
  threads_serving (Err e) items first second third delta delta' left resource resource' left' x y y' is is' same d s p g = tt

  pub serving_seats : {V E : Type 0} (r : Result V E) (items : V → List SeatState) (delta delta' resource resource' : List (Disk A)) (x : P) (y : Starter P)
      → IfOk r (λ v. AreServing content faults told sector st delta delta' resource resource' x y (items v)) → IfOk r (λ v. AreSeats st (items v))
  serving_seats (Ok v) items delta delta' resource resource' x y so = so.are
  serving_seats (Err e) items delta delta' resource resource' x y so = tt

  served_disks : (part : Part) (s : SeatState) (h : List Signed) (disks later : List (Disk A)) (run : IsRun st (entries h)) → run.signed ≡ h → IsExact (number_of part) s h
      → WorksOn content faults sector st part disks later s → ServedDisks content faults sector st part (entries h) disks later
  served_disks part s h disks later run same exact w =
      let made : AreMade content faults sector st h (take s.taken (calls_of part (entries h))) w.given disks later
      = made_seen content faults sector st part s.front h s.taken w.given disks later exact.before w.most w.made in
      let all : AreMade content faults sector st h (take s.taken (calls_of part (entries h))) (entries_by (number_of part) h) disks later
      = subst (λ es. AreMade content faults sector st h (take s.taken (calls_of part (entries h))) es disks later) (mine_exact (number_of part) s h w.given exact w.mine) made in
      record {
        run = run;
        taken = s.taken;
        most = most_seen content faults sector st part s.front h s.taken exact.before w.most;
        made = subst (λ g. AreMade content faults sector st g (take s.taken (calls_of part (entries h))) (entries_by (number_of part) g) disks later) (sym same) all;
      }

  served_starts : (s : SeatState) (h : List Signed) (x : P) (y : Starter P) (run : IsRun st (entries h)) → run.signed ≡ h → IsExact starter_number s h → Tells (told x) []
      → StartsOn st y.killed (told x) (told y.spawner) s → ServedStarts st (entries h) y.killed (told y.spawner)
  served_starts s h x y run same exact none on =
      let made : AreStarted st h y.killed (take s.taken (starts_of (entries h))) on.given on.acts
      = starts_seen st s.front h y.killed y.killed s.taken on.given on.acts exact.before (λ is. is) on.most on.made in
      let all : AreStarted st h y.killed (take s.taken (starts_of (entries h))) (entries_by starter_number h) on.acts
      = subst (λ es. AreStarted st h y.killed (take s.taken (starts_of (entries h))) es on.acts) (mine_exact starter_number s h on.given exact on.mine) made in
      record {
        run = run;
        taken = s.taken;
        most = starts_most st s.front h s.taken exact.before on.most;
        acts = on.acts;
        tells = tells_on (told x) (told y.spawner) [] on.acts none on.grows;
        made = subst (λ g. AreStarted st g y.killed (take s.taken (starts_of (entries h))) (entries_by starter_number g) on.acts) (sym same) all;
      }

  -- What threads of such seats made by this history.
  pub record AreMadeBy (h : List Entry) (delta delta' resource resource' : List (Disk A)) (y : Starter P) : Type 0 where
    pub delta_served : ServedDisks content faults sector st Delta h delta delta'
    pub resource_served : ServedDisks content faults sector st Resource h resource resource'
    pub starts : ServedStarts st h y.killed (told y.spawner)

  -- seats whose counts make up a history have made their disks by its calls, and its starts
  pub made_served : (seats : List SeatState) (h : List Signed) (delta delta' resource resource' : List (Disk A)) (x : P) (y : Starter P) → Tells (told x) []
      → AreServing content faults told sector st delta delta' resource resource' x y seats → AreOf st h seats
      → AreMadeBy (entries h) delta delta' resource resource' y
  unfolding run_whole run_so
  made_served seats h delta delta' resource resource' x y none a of =
      let e = seven st seats h a.are of.exact in
      let run = run_whole st seats h (entries h) refl a.are of.exact of.below of.trace in
      record {
        delta_served = served_disks Delta a.are.delta h delta delta' run refl e.delta a.delta_on;
        resource_served = served_disks Resource a.are.resource h resource resource' run refl e.resource a.resource_on;
        starts = served_starts a.are.starter h x y run refl e.starter none a.starter_on;
      }

-- the starter need not know that all children were killed
pub starts_killed : (st : Setting) (h : List Entry) (killed killed' : Bool) (told : Option (List Act)) → (killed ≡ true → killed' ≡ true) → ServedStarts st h killed told
    → ServedStarts st h killed' told
starts_killed st h killed killed' told later so = record {
  run = so.run;
  taken = so.taken;
  most = so.most;
  acts = so.acts;
  tells = so.tells;
  made = started_more st so.run.signed so.run.signed killed killed' (take so.taken (starts_of h)) (entries_by starter_number so.run.signed) so.acts (prefix_self so.run.signed) later so.made;
}

-- ---- a close, where it may have failed

pub close_stood : {D E : Type 0} (stands : D → Setting → List Entry → Type 0) (st : Setting) (h : List Signed) (r : Result Unit E) → IsSetting st
    → OnOk r ((d : D) × stands d st (trace_of h)) → OnOk r (IsTrace st (trace_of h)) → OnOk r (Stood stands st (trace_of h))
close_stood stands st h (Ok u) is so trace = record { setting = is; trace = trace; daemon = so.0; stood = so.1 }
close_stood stands st h (Err e) is so trace = tt

pub close_run : {E : Type 0} (st : Setting) (seats : List SeatState) (h : List Signed) (r : Result Unit E) → AreSeats st seats → OnOk r (AreExact 0 seats h)
    → OnOk r (AreBelow (length seats) h) → OnOk r (IsTrace st (trace_of h)) → OnOk r (IsRun st (entries h))
close_run st seats h (Ok u) a exact below trace = run_whole st seats h (entries h) refl a exact below trace
close_run st seats h (Err e) a exact below trace = tt

pub close_counts : {E : Type 0} (st : Setting) (seats all : List SeatState) (h : List Signed) (r : Result Unit E) → all ≡ seats → OnOk r (AreExact 0 all h)
    → OnOk r (AreBelow (length all) h) → OnOk r (IsTrace st (trace_of h)) → OnOk r (AreOf st h seats)
close_counts st seats all h (Ok u) same exact below trace = subst (AreOf st h) same (record { exact = exact; below = below; trace = trace })
close_counts st seats all h (Err e) same exact below trace = tt

pub few_seats : (st : Setting) (seats all : List SeatState) → AreSeats st seats → all ≡ seats → length all < 2 ^ 32
few_seats st seats all a same = let n : length all ≡ 7 = ap length (same ∙ a.all) in omega (arith, n)

-- ---- a case

seats_of : (st : Setting) (seats : List SeatState) (d : Differ) → AreSeats st seats → AreSeatsOf st seats d
seats_of st seats (Counted length_is counted) a = a
seats_of st seats (Broken length_is) a = tt

case_run : (st : Setting) (seats : List SeatState) (mine : List Signed) (d : Differ) → AreSeats st seats → IsCaseOfSome st seats mine d → IsCaseOfRun st d
case_run st seats mine d a so = record { seats = seats; mine = mine; threads = seats_of st seats d a; case_of = so }

pub close_case : (st : Setting) (seats : List SeatState) (mine : List Signed) (r : Result Unit Differ) → AreSeats st seats → IfErr r (IsCaseOfSome st seats mine)
    → IfErr r (IsCaseOfRun st)
close_case st seats mine (Ok u) a so = tt
close_case st seats mine (Err d) a so = case_run st seats mine d a so

pub case_broken : (st : Setting) (seats : List SeatState) (mine : List Signed) (n : ℕ) → IsCaseOfSome st seats mine (Broken n) → IsCaseOfRun st (Broken n)
case_broken st seats mine n so = record { seats = seats; mine = mine; threads = tt; case_of = so }
