-- Sessions are found where they were found, as events go on.
use Rattle.sl_id_safety.proofs.State.Frames.{Same, flying_same, is_running}
use Rattle.sl_id_safety.specs.State.IdStates.{own_courses}
use Rattle.sl_words.proofs.Lists.{contains_first, contains_more}
use Rattle.sl_run.specs.EventChanges.{change_call}
use Rattle.sl_run.specs.Safety.{Found, SessionId, is_course_of, session_of_world, was_reset}
use Rattle.sl_run.specs.Worlds.{Course, Daemon, Machine, World, change_machine, daemon_numbered, daemons_on, flight_of, is_open, machine_at, resets_after}
use Rattle.sl_run_law.proofs.CourseLists.{changed_if}
use Rattle.sl_run_law.proofs.FatesStay.{every_map, numbered}
use Rattle.sl_run_law.proofs.MachineWalk.{index}
use Rattle.sl_run_law.specs.FatesStay.{AreDistinct, Every}
use Rattle.sl_trace.specs.Sessions.{session_numbered}
use Rattle.sl_trace.specs.declared.session.Session.{Session}
use Rattle.sl_words.proofs.CaseLaws.{none_some, not_both, some_value, true_is_false}
use Rattle.std.proofs.Common.{ap, arith, refl, subst, sym, tests, ◌∙◌}
use Rattle.std.proofs.lemmas.Bool.{eqb-true}
use Rattle.std.specs.List.{list_any}
use Rattle.std.specs.Prelude.{Bool, Contains, List, None, Option, Some, cond, false, filter, find, if◌then◌else◌, map, nat_lt, option_and_then, option_map, slice_get, slice_set, suc, true, zero, [], ℕ, ◌+◌, ◌-◌, ◌==◌, ◌∷◌, ◌≡◌}

-- ---- machines

set_elsewhere : (ms : List Machine) (i j : ℕ) (x : Machine) → (j ≡ i → ⊥) → slice_get (slice_set ms i x) j ≡ slice_get ms j
set_elsewhere [] i j x h = refl
set_elsewhere (y ∷ ms) zero zero x h = absurd (h refl)
set_elsewhere (y ∷ ms) zero (suc j) x h = refl
set_elsewhere (y ∷ ms) (suc i) zero x h = refl
set_elsewhere (y ∷ ms) (suc i) (suc j) x h = set_elsewhere ms i j x (λ e. h (ap (λ n. suc n) e))

-- A machine with this one in place of one of its machines.
abbrev replaced : World → ℕ → (Machine → Machine) → Option Machine → World
replaced w m f o = elim o [ None ↦ w | Some a ↦ record w { machines = slice_set w.machines (m - 1) (f a) } ]

apart : (m n : ℕ) → (m == 0) ≡ false → (n == 0) ≡ false → (n ≡ m → ⊥) → n - 1 ≡ m - 1 → ⊥
apart m n h k ne e = ne (grind (arith, tests))

if_else : (b : Bool) (o p : Option Machine) → (b ≡ false → o ≡ p) → (if b then None else o) ≡ (if b then None else p)
if_else true o p h = refl
if_else false o p h = h refl

elsewhere_by : (w : World) (m n : ℕ) (f : Machine → Machine) (o : Option Machine) → machine_at w m ≡ o → (n ≡ m → ⊥)
    → machine_at (replaced w m f o) n ≡ machine_at w n
elsewhere_by w m n f None h ne = refl
elsewhere_by w m n f (Some a) h ne =
    if_else (n == 0) (slice_get (slice_set w.machines (m - 1) (f a)) (n - 1)) (slice_get w.machines (n - 1))
    (λ k. set_elsewhere w.machines (m - 1) (n - 1) (f a) (apart m n (index w m a h).0 k ne))

-- Each other machine.
pub changed_elsewhere : (w : World) (m n : ℕ) (f : Machine → Machine) → (n ≡ m → ⊥) → machine_at (change_machine m f w) n ≡ machine_at w n
changed_elsewhere w m n f ne = elsewhere_by w m n f (machine_at w m) refl ne

-- ---- sessions of a machine

-- The session that is meant, on its machine, at this moment.
abbrev pub session_with : ℕ → SessionId → Machine → Option Daemon → Option Found
session_with n i a o =
    option_and_then (λ d. option_map (λ s. record { machine = a; daemon = d; session = s; now = n }) (session_numbered d.setting d.trace i.number)) o

abbrev pub session_on : ℕ → SessionId → Machine → Option Found
session_on n i a = session_with n i a (daemon_numbered a i.daemon)

-- The world finds it on its machine.
pub found_on : (w : World) (i : SessionId) (a : Machine) → machine_at w i.machine ≡ Some a → session_of_world w i ≡ session_on w.moment i a
found_on w i a h = ap (λ o. option_and_then (session_on w.moment i) o) h

-- .. at the moment of an earlier world.
pub found_then : (w v : World) (i : SessionId) (a : Machine) → v.moment ≡ w.moment → machine_at v i.machine ≡ Some a → session_of_world v i ≡ session_on w.moment i a
found_then w v i a moment h = found_on v i a h ∙ ap (λ n. session_on n i a) moment

pub not_found : (w : World) (i : SessionId) → machine_at w i.machine ≡ None → session_of_world w i ≡ None
not_found w i h = ap (λ o. option_and_then (session_on w.moment i) o) h

-- What is said of one that is found.
pub record IsFound (n : ℕ) (i : SessionId) (a : Machine) (f : Found) : Type 0 where
  pub machine : f.machine ≡ a
  pub now : f.now ≡ n
  pub daemon : daemon_numbered a i.daemon ≡ Some f.daemon
  pub session : session_numbered f.daemon.setting f.daemon.trace i.number ≡ Some f.session
  pub number : f.daemon.number ≡ i.daemon
  pub has : Contains (daemons_on a) f.daemon

-- What is found passes the test, and is there.
pub record Passes {A : Type 0} (p : A → Bool) (xs : List A) (x : A) : Type 0 where
  pub test : p x ≡ true
  pub there : Contains xs x

passes_by : {A : Type 0} (p : A → Bool) (y : A) (xs : List A) (x : A) (b : Bool) → p y ≡ b → cond b (Some y) (find p xs) ≡ Some x
    → (find p xs ≡ Some x → Passes p xs x) → Passes p (y ∷ xs) x
passes_by p y xs x true is h rest =
    let e = some_value y x h in
    record { test = subst (λ z. p z ≡ true) e is; there = subst (λ z. Contains (y ∷ xs) z) e (contains_first y xs) }
passes_by p y xs x false is h rest = let r = rest h in record { test = r.test; there = contains_more y xs x r.there }

pub find_passes : {A : Type 0} (p : A → Bool) (xs : List A) (x : A) → find p xs ≡ Some x → Passes p xs x
find_passes p [] x h = absurd (none_some x h)
find_passes p (y ∷ xs) x h = passes_by p y xs x (p y) refl h (find_passes p xs x)

found_by : (n : ℕ) (i : SessionId) (a : Machine) (d : Daemon) (f : Found) (s : Option Session) → daemon_numbered a i.daemon ≡ Some d
    → session_numbered d.setting d.trace i.number ≡ s → option_map (λ x. record { machine = a; daemon = d; session = x; now = n }) s ≡ Some f → IsFound n i a f
found_by n i a d f None at is h = absurd (none_some f h)
found_by n i a d f (Some s) at is h =
    let x : Found = record { machine = a; daemon = d; session = s; now = n } in
    let p = find_passes (λ y. y.number == i.daemon) (daemons_on a) d at in
    let this : IsFound n i a x = record { machine = refl; now = refl; daemon = at; session = is; number = eqb-true d.number i.daemon p.test; has = p.there } in
    subst (IsFound n i a) (some_value x f h) this

found_in : (n : ℕ) (i : SessionId) (a : Machine) (f : Found) (o : Option Daemon) → daemon_numbered a i.daemon ≡ o → session_with n i a o ≡ Some f → IsFound n i a f
found_in n i a f None at h = absurd (none_some f h)
found_in n i a f (Some d) at h = found_by n i a d f (session_numbered d.setting d.trace i.number) at refl h

pub is_found : (n : ℕ) (i : SessionId) (a : Machine) (f : Found) → session_on n i a ≡ Some f → IsFound n i a f
is_found n i a f h = found_in n i a f (daemon_numbered a i.daemon) refl h

on_by : (w : World) (i : SessionId) (f : Found) (o : Option Machine) → machine_at w i.machine ≡ o → option_and_then (session_on w.moment i) o ≡ Some f
    → (a : Machine) × (machine_at w i.machine ≡ Some a) × IsFound w.moment i a f
on_by w i f None at h = absurd (none_some f h)
on_by w i f (Some a) at h = (a, at, is_found w.moment i a f h)

-- A session of a world is found on a machine.
pub on_machine : (w : World) (i : SessionId) (f : Found) → session_of_world w i ≡ Some f
    → (a : Machine) × (machine_at w i.machine ≡ Some a) × IsFound w.moment i a f
on_machine w i f h = on_by w i f (machine_at w i.machine) refl h

-- The same, on a machine with the same daemons.
abbrev pub moved : Machine → Found → Found
moved b f = record f { machine = b }

moves_in : (n : ℕ) (a b : Machine) (d : Daemon) (s : Option Session)
    → option_map (λ x. let y : Found = record { machine = b; daemon = d; session = x; now = n } in y) s
    ≡ option_map (moved b) (option_map (λ x. let y : Found = record { machine = a; daemon = d; session = x; now = n } in y) s)
moves_in n a b d None = refl
moves_in n a b d (Some s) = refl

pub moves_by : (n : ℕ) (i : SessionId) (a b : Machine) (o : Option Daemon) → session_with n i b o ≡ option_map (moved b) (session_with n i a o)
moves_by n i a b None = refl
moves_by n i a b (Some d) = moves_in n a b d (session_numbered d.setting d.trace i.number)

pub found_moves : (n : ℕ) (i : SessionId) (a b : Machine) → daemons_on b ≡ daemons_on a → session_on n i b ≡ option_map (moved b) (session_on n i a)
found_moves n i a b h = ap (λ ds. session_with n i b (find (λ d. d.number == i.daemon) ds)) h ∙ moves_by n i a b (daemon_numbered a i.daemon)

-- ---- the session's own calls

own_same_by : (i : SessionId) (p : Course → Bool) (f : Course → Course) (c : Course) (cs : List Course) (t b : Bool) → is_course_of i c ≡ t
    → (t ≡ true → b ≡ false)
    → is_course_of i (f c) ≡ is_course_of i c
    → filter (is_course_of i) (map (λ x. changed_if (p x) f x) cs) ≡ filter (is_course_of i) cs
    → filter (is_course_of i) (changed_if b f c ∷ map (λ x. changed_if (p x) f x) cs) ≡ cond t (c ∷ filter (is_course_of i) cs) (filter (is_course_of i) cs)
own_same_by i p f c cs true true is free stays rest = absurd (true_is_false (free refl))
own_same_by i p f c cs true false is free stays rest =
    ap (λ b. cond b (c ∷ filter (is_course_of i) (map (λ x. changed_if (p x) f x) cs)) (filter (is_course_of i) (map (λ x. changed_if (p x) f x) cs))) is
    ∙ ap (λ xs. c ∷ xs) rest
own_same_by i p f c cs false true is free stays rest =
    ap (λ b. cond b (f c ∷ filter (is_course_of i) (map (λ x. changed_if (p x) f x) cs)) (filter (is_course_of i) (map (λ x. changed_if (p x) f x) cs))) (stays ∙ is)
    ∙ rest
own_same_by i p f c cs false false is free stays rest =
    ap (λ b. cond b (c ∷ filter (is_course_of i) (map (λ x. changed_if (p x) f x) cs)) (filter (is_course_of i) (map (λ x. changed_if (p x) f x) cs))) is ∙ rest

-- Where no call of its own is changed, its calls stay.
pub own_untouched : (i : SessionId) (p : Course → Bool) (f : Course → Course) (cs : List Course) → ((c : Course) → is_course_of i (f c) ≡ is_course_of i c)
    → Every (λ c. is_course_of i c ≡ true → p c ≡ false) cs → filter (is_course_of i) (map (λ c. changed_if (p c) f c) cs) ≡ filter (is_course_of i) cs
own_untouched i p f [] stays free = refl
own_untouched i p f (c ∷ cs) stays free =
    own_same_by i p f c cs (is_course_of i c) (p c) refl free.0 (stays c) (own_untouched i p f cs stays free.1)

own_mapped_by : (i : SessionId) (f : Course → Course) (c d : Course) (cs ds : List Course) (t : Bool) → is_course_of i d ≡ t
    → ds ≡ map f (filter (is_course_of i) cs) → f c ≡ d
    → cond (is_course_of i d) (d ∷ ds) ds ≡ map f (cond t (c ∷ filter (is_course_of i) cs) (filter (is_course_of i) cs))
own_mapped_by i f c d cs ds true is rest e = ap (λ b. cond b (d ∷ ds) ds) is ∙ ap (λ x. x ∷ ds) (sym e) ∙ ap (λ xs. f c ∷ xs) rest
own_mapped_by i f c d cs ds false is rest e = ap (λ b. cond b (d ∷ ds) ds) is ∙ rest

-- Its calls are changed as all are.
pub own_mapped : (i : SessionId) (f : Course → Course) (cs : List Course) → ((c : Course) → is_course_of i (f c) ≡ is_course_of i c)
    → filter (is_course_of i) (map f cs) ≡ map f (filter (is_course_of i) cs)
own_mapped i f [] stays = refl
own_mapped i f (c ∷ cs) stays =
    own_mapped_by i f c (f c) cs (filter (is_course_of i) (map f cs)) (is_course_of i c) (stays c) (own_mapped i f cs stays) refl

other_number : (i : SessionId) (n : ℕ) (x : Course) (t : Bool) → (x.call.number == n) ≡ t → (t ≡ true → is_course_of i x ≡ false) → is_course_of i x ≡ true
    → t ≡ false
other_number i n x true is free own = absurd (not_both (is_course_of i x) own (free refl))
other_number i n x false is free own = refl

-- A change of a call in flight that is another session's leaves the session's calls.
pub own_apart : (i : SessionId) (a : Machine) (n : ℕ) (g : Course) (f : Course → Course) → AreDistinct a.calls → flight_of a n ≡ Some g
    → is_course_of i g ≡ false → ((c : Course) → is_course_of i (f c) ≡ is_course_of i c) → own_courses i (change_call n f a) ≡ own_courses i a
own_apart i a n g f distinct at other stays =
    own_untouched i (λ c. c.call.number == n) f a.calls stays
    (every_map (λ x. (x.call.number == n) ≡ true → is_course_of i x ≡ false) (λ x. is_course_of i x ≡ true → (x.call.number == n) ≡ false) a.calls
    (λ x h own. other_number i n x (x.call.number == n) refl h own)
    (numbered (is_open a) n (λ x. is_course_of i x ≡ false) a.calls g at distinct other))

-- ---- the same, on a machine that changes otherwise

-- Where no reset came since its daemon began, none was long ago.
pub never_reset : (f : Found) → resets_after f.machine f.daemon.begun.step ≡ [] → was_reset f ≡ false
never_reset f none = ap (λ rs. list_any (λ r. nat_lt (r.moment + f.daemon.setting.timing.land) f.now) rs) none

-- A session stays the same where its calls, what runs and the resets stay.
pub same_moved : (n : ℕ) (i : SessionId) (a b : Machine) (f : Found) → IsFound n i a f → own_courses i b ≡ own_courses i a
    → is_running i.daemon b ≡ is_running i.daemon a → b.resets ≡ a.resets → Same i f (moved b f)
same_moved n i a b f found calls runs resets =
    let own : own_courses i b ≡ own_courses i f.machine = calls ∙ ap (own_courses i) (sym found.machine) in
    let run : is_running i.daemon b ≡ is_running i.daemon f.machine = runs ∙ ap (is_running i.daemon) (sym found.machine) in
    record {
      calls = own;
      session = refl;
      setting = refl;
      begun = refl;
      trace = refl;
      stamps = refl;
      runs = ap (λ n. is_running n b) found.number ∙ run ∙ ap (λ n. is_running n f.machine) (sym found.number);
      reset = ap (λ rs. list_any (λ r. nat_lt (r.moment + f.daemon.setting.timing.land) f.now) (filter (λ r. nat_lt f.daemon.begun.step r.step) rs)) (resets ∙ ap (λ x. x.resets) (sym found.machine));
      flying = flying_same i f.machine b own run;
    }
