-- Who wrote a landing stays, as calls go on and the first daemons keep the sessions that they were given.
use Rattle.sl_area.specs.AreaSizes.{Layout}
use Rattle.sl_run_law.proofs.Front.RunsFromFronts.{not_zero, number_place}
use Rattle.sl_id_safety.specs.State.IdStates.{holder_at, holder_in, holder_on, is_sector_of, submitter_of, submitter_on, writer_of}
use Rattle.sl_ids.specs.State.{SessionId as IdName}
use Rattle.sl_run_law.specs.Landing.Landings.{HasWriter, LandingsAreWritten}
use Rattle.sl_words.proofs.Lists.{contains_cases, contains_first, contains_more, contains_none}
use Rattle.sl_words.proofs.Numbers.{number_itself, one_before}
use Rattle.sl_run.specs.Runs.{Happening}
use Rattle.sl_run.specs.Safety.{LawfulRun, world_at}
use Rattle.sl_run.specs.Worlds.{Course, Daemon, Landing, Machine, Program, World, daemon_numbered, first_landing, history_of, landed_at, machine_at}
use Rattle.sl_run.specs.declared.header.Header.{Header}
use Rattle.sl_run_law.specs.CoursesGoOn.{Continues, Follow, ListGoes}
use Rattle.sl_run_law.specs.FatesStay.{AreDistinct, EachDistinct, Every}
use Rattle.sl_run_law.specs.Machines.{EachMachine}
use Rattle.sl_trace.specs.Sessions.{sessions}
use Rattle.sl_trace.specs.declared.session.Session.{Session}
use Rattle.sl_trace.specs.Traces.{same_place}
use Rattle.sl_words.proofs.CaseLaws.{none_some, some_value, true_is_false}
use Rattle.sl_words.specs.Words.{first_given}
use Rattle.std.proofs.Common.{ap, arith, inl, inr, refl, subst, sym, tests, ◌∙◌}
use Rattle.std.specs.List.{enumerate_from}
use Rattle.std.specs.Prelude.{Bool, Contains, List, None, Option, Some, cond, false, filter, find, if◌then◌else◌, length, option_and_then, option_map, slice_get, suc, true, [], ℕ, ◌++◌, ◌+◌, ◌-◌, ◌==◌, ◌∷◌, ◌≡◌}

-- ---- the call with a number

-- The call with this number.
abbrev pub call_of : ℕ → List Course → Option Course
call_of n cs = find (λ c. c.call.number == n) cs

-- It is there later, the same call.
abbrev pub CallStays : Option Course → Option Course → Type 0
CallStays None o = Unit {0}
CallStays (Some c) o = (d : Course) × (o ≡ Some d) × (d.call ≡ c.call) × (d.daemon ≡ c.daemon)

follows_by : (n : ℕ) (c d : Course) (cs ds : List Course) (s t : Bool) → (c.call.number == n) ≡ s → (d.call.number == n) ≡ t → Continues c d
    → CallStays (call_of n cs) (call_of n ds) → CallStays (cond s (Some c) (call_of n cs)) (cond t (Some d) (call_of n ds))
follows_by n c d cs ds true true is so k rest = (d, refl, k.call, k.daemon)
follows_by n c d cs ds true false is so k rest = absurd (true_is_false (sym is ∙ ap (λ x. x.number == n) (sym k.call) ∙ so))
follows_by n c d cs ds false true is so k rest = absurd (true_is_false (sym so ∙ ap (λ x. x.number == n) k.call ∙ is))
follows_by n c d cs ds false false is so k rest = rest

call_follows : (n : ℕ) (cs ds : List Course) → Follow Continues cs ds → CallStays (call_of n cs) (call_of n ds)
call_follows n [] ds f = tt
call_follows n (c ∷ cs) [] f = absurd f
call_follows n (c ∷ cs) (d ∷ ds) f =
    follows_by n c d cs ds (c.call.number == n) (d.call.number == n) refl refl f.0 (call_follows n cs ds f.1)

stays_none : (o p : Option Course) → o ≡ None → CallStays o p
stays_none None p h = tt
stays_none (Some c) p h = absurd (none_some c (sym h))

-- ---- behind newer calls

same_numbers : (x y n : ℕ) → (x == n) ≡ true → (y == n) ≡ true → (y == x) ≡ true
same_numbers x y n h k = grind (arith, tests)

absent_by : (n m : ℕ) (c : Course) (cs : List Course) (t : Bool) → (c.call.number == n) ≡ t → (m == n) ≡ true → ((c.call.number == m) ≡ true → ⊥)
    → call_of n cs ≡ None → cond t (Some c) (call_of n cs) ≡ None
absent_by n m c cs true is h apart rest = absurd (apart (same_numbers m c.call.number n h is))
absent_by n m c cs false is h apart rest = rest

-- No other call has its number.
absent : (n m : ℕ) (cs : List Course) → (m == n) ≡ true → Every (λ c. (c.call.number == m) ≡ true → ⊥) cs → call_of n cs ≡ None
absent n m [] h each = refl
absent n m (c ∷ cs) h each = absent_by n m c cs (c.call.number == n) refl h each.0 (absent n m cs h each.1)

every_back : (P : Course → Type 0) (xs ys : List Course) → Every P (xs ++ ys) → Every P ys
every_back P [] ys h = h
every_back P (x ∷ xs) ys h = every_back P xs ys h.1

behind_by : (n : ℕ) (o : Option Course) (x : Course) (xs ys : List Course) (t : Bool) → (x.call.number == n) ≡ t
    → Every (λ c. (c.call.number == x.call.number) ≡ true → ⊥) (xs ++ ys)
    → CallStays o (call_of n ys) → CallStays o (call_of n (xs ++ ys)) → CallStays o (cond t (Some x) (call_of n (xs ++ ys)))
behind_by n None x xs ys t is each first rest = tt
behind_by n (Some c) x xs ys false is each first rest = rest
behind_by n (Some c) x xs ys true is each first rest =
    absurd (none_some first.0 (sym (absent n x.call.number ys is (every_back (λ d. (d.call.number == x.call.number) ≡ true → ⊥) xs ys each)) ∙ first.1))

call_behind : (n : ℕ) (o : Option Course) (xs ys : List Course) → AreDistinct (xs ++ ys) → CallStays o (call_of n ys) → CallStays o (call_of n (xs ++ ys))
call_behind n o [] ys d h = h
call_behind n o (x ∷ xs) ys d h = behind_by n o x xs ys (x.call.number == n) refl d.0 h (call_behind n o xs ys d.1 h)

-- A call is there later under its number.
pub call_stays : (n : ℕ) (cs ds : List Course) → ListGoes Continues cs ds → AreDistinct ds → CallStays (call_of n cs) (call_of n ds)
call_stays n cs ds g d =
    subst (λ xs. CallStays (call_of n cs) (call_of n xs)) (sym g.same)
    (call_behind n (call_of n cs) g.newer g.older (subst AreDistinct g.same d) (call_follows n cs g.older g.follow))

-- ---- who submitted a call

-- The session of a call.
abbrev submits : ℕ → Course → IdName
submits m c = record { machine = m; daemon = c.daemon; number = c.call.session }

submits_by : (m : ℕ) (o p : Option Course) (c : Course) → o ≡ Some c → CallStays o p → option_map (submits m) p ≡ option_map (submits m) o
submits_by m None p c h s = absurd (none_some c h)
submits_by m (Some x) p c h s =
    ap (option_map (submits m)) s.1 ∙ ap (λ k. let n : IdName = record { machine = m; daemon = s.0.daemon; number = k.session } in Some n) s.2
    ∙ ap (λ k. let n : IdName = record { machine = m; daemon = k; number = x.call.session } in Some n) s.3

-- Who submitted it stays.
pub submitter_stays : (w v : World) (m n : ℕ) (a b : Machine) (c : Course) → machine_at w m ≡ Some a → machine_at v m ≡ Some b
    → ListGoes Continues a.calls b.calls → AreDistinct b.calls → call_of n a.calls ≡ Some c → submitter_of v (m, n) ≡ submitter_of w (m, n)
submitter_stays w v m n a b c at after go distinct has =
    ap (λ o. option_and_then (submitter_on m n) o) after
    ∙ submits_by m (call_of n a.calls) (call_of n b.calls) c has (call_stays n a.calls b.calls go distinct)
    ∙ sym (ap (λ o. option_and_then (submitter_on m n) o) at)

numbered_by : (n : ℕ) (d : Course) (cs : List Course) (t : Bool) → (d.call.number == n) ≡ t → (t ≡ false → (c : Course) × (call_of n cs ≡ Some c))
    → (c : Course) × (cond t (Some d) (call_of n cs) ≡ Some c)
numbered_by n d cs true is rest = (d, refl)
numbered_by n d cs false is rest = rest refl

-- A call that is there is found by its number, or another with this number.
pub call_there : (n : ℕ) (cs : List Course) (c : Course) → Contains cs c → (c.call.number == n) ≡ true → (d : Course) × (call_of n cs ≡ Some d)
call_there n [] c has is = absurd (contains_none c has)
call_there n (d ∷ cs) c has is =
    numbered_by n d cs (d.call.number == n) refl (λ other. elim (contains_cases d cs c has) as (λ z. (x : Course) × (call_of n cs ≡ Some x)) [
      | inl e ↦ absurd (true_is_false (sym is ∙ ap (λ x. x.call.number == n) (sym e) ∙ other))
      | inr more ↦ call_there n cs c more is
    ])

-- ---- who held the sector at first

-- What the machine's first daemon was given.
abbrev pub given_on : Machine → List Session
given_on a = elim (daemon_numbered a 0) [ None ↦ [] | Some d ↦ sessions d.setting [] ]

-- Each machine's first daemon keeps what it was given.
abbrev pub KeepsGiven : ℕ → Machine → Machine → Type 0
KeepsGiven m a b = given_on b ≡ given_on a

abbrev held_by : Layout → List ℕ → ℕ → ℕ → List Session → Option IdName
held_by g path offset m ss = option_map (λ s. let n : IdName = record { machine = m; daemon = 0; number = s.number } in n) (find (is_sector_of g path offset) ss)

holder_by : (g : Layout) (path : List ℕ) (offset m : ℕ) (a : Machine) (o : Option Daemon) → daemon_numbered a 0 ≡ o
    → holder_on g path offset (m, a) ≡ held_by g path offset m (given_on a)
holder_by g path offset m a None is =
    ap (λ (o : Option Daemon). option_and_then (holder_in g path offset m) o) is
    ∙ sym (ap (λ (o : Option Daemon). held_by g path offset m (elim o as (λ z. List Session) [ None ↦ [] | Some d ↦ sessions d.setting [] ])) is)
holder_by g path offset m a (Some d) is =
    ap (λ (o : Option Daemon). option_and_then (holder_in g path offset m) o) is
    ∙ sym (ap (λ (o : Option Daemon). held_by g path offset m (elim o as (λ z. List Session) [ None ↦ [] | Some d ↦ sessions d.setting [] ])) is)

holder_stays : (g : Layout) (path : List ℕ) (offset m : ℕ) (a b : Machine) → KeepsGiven m a b → holder_on g path offset (m, b) ≡ holder_on g path offset (m, a)
holder_stays g path offset m a b h =
    holder_by g path offset m b (daemon_numbered b 0) refl ∙ ap (held_by g path offset m) h ∙ sym (holder_by g path offset m a (daemon_numbered a 0) refl)

first_same : (g : Layout) (path : List ℕ) (offset k : ℕ) (ms ns : List Machine) → length ns ≡ length ms
    → ((i : ℕ) (a : Machine) → slice_get ms i ≡ Some a → (b : Machine) × (slice_get ns i ≡ Some b) × KeepsGiven 0 a b)
    → first_given (holder_on g path offset) (enumerate_from k ns) ≡ first_given (holder_on g path offset) (enumerate_from k ms)
first_same g path offset k [] [] same each = refl
first_same g path offset k [] (b ∷ ns) same each = absurd (omega (arith, same))
first_same g path offset k (a ∷ ms) [] same each = absurd (omega (arith, same))
first_same g path offset k (a ∷ ms) (b ∷ ns) same each =
    let p = each 0 a refl in
    ap (λ o. elim o as (λ z. Option IdName) [ Some n ↦ Some n | None ↦ first_given (holder_on g path offset) (enumerate_from (k + 1) ns) ])
    (holder_stays g path offset k a b (subst (λ x. KeepsGiven 0 a x) (sym (some_value b p.0 p.1)) p.2))
    ∙ ap (λ r. elim (holder_on g path offset (k, a)) as (λ z. Option IdName) [ Some n ↦ Some n | None ↦ r ])
    (first_same g path offset (k + 1) ms ns (omega (arith, same)) (λ i. each (suc i)))

placed : (b : Bool) (o : Option Machine) (a : Machine) → b ≡ false → (if b then None else o) ≡ Some a → o ≡ Some a
placed true o a h k = absurd (true_is_false h)
placed false o a h k = k

pub in_place : (w : World) (i : ℕ) (a : Machine) → machine_at w (suc i) ≡ Some a → slice_get w.machines i ≡ Some a
in_place w i a h = sym (ap (slice_get w.machines) (one_before i)) ∙ placed (suc i == 0) (slice_get w.machines (suc i - 1)) a (not_zero i) h

-- Who held it at first stays.
pub holder_same : (w v : World) (path : List ℕ) (offset : ℕ) → v.layout ≡ w.layout → length v.machines ≡ length w.machines → EachMachine KeepsGiven w v
    → holder_at v path offset ≡ holder_at w path offset
holder_same w v path offset layout machines each =
    ap (λ g. first_given (holder_on g path offset) (enumerate_from 1 v.machines)) layout
    ∙ first_same w.layout path offset 1 w.machines v.machines machines
    (λ i a h. let p = each (suc i) a (number_place w i a h) in (p.0, in_place v i p.0 p.1, p.2))

-- ---- who wrote what

-- What stays of the machines, for writers to stay.
pub record KeepsWriters (w v : World) : Type 0 where
  pub layout : v.layout ≡ w.layout
  pub machines : length v.machines ≡ length w.machines
  pub given : EachMachine KeepsGiven w v
  pub calls : EachMachine (λ m a b. ListGoes Continues a.calls b.calls) w v
  pub distinct : EachDistinct v

-- A landing whose writer is a call of a machine.
pub record HasCall (w : World) (l : Landing) : Type 0 where
  pub machine : ℕ
  pub call : ℕ
  pub named : l.writer ≡ Some (machine, call)
  pub host : Machine
  pub course : Course
  pub at : machine_at w machine ≡ Some host
  pub has : call_of call host.calls ≡ Some course

-- What was written has its call.
pub call_of_writer : (w : World) (l : Landing) → HasWriter w l → HasCall w l
call_of_writer w l h =
    let n : (h.wrote.course.call.number == h.call) ≡ true = ap (λ x. x == h.call) h.wrote.number ∙ number_itself h.call in
    let c = call_there h.call h.wrote.machine.calls h.wrote.course h.wrote.has n in
    record { machine = h.machine; call = h.call; named = h.named; host = h.wrote.machine; course = c.0; at = h.wrote.at; has = c.1 }

-- Its writer stays.
pub writer_stays : (w v : World) (l : Landing) → KeepsWriters w v → HasCall w l → writer_of v l ≡ writer_of w l
writer_stays w v l k h =
    let b = k.calls h.machine h.host h.at in
    ap (λ o. elim o as (λ z. Option IdName) [ None ↦ holder_at v l.path l.offset | Some p ↦ submitter_of v p ]) h.named
    ∙ submitter_stays w v h.machine h.call h.host b.0 h.course h.at b.1 b.2 (k.distinct h.machine b.0 b.1) h.has
    ∙ sym (ap (λ o. elim o as (λ z. Option IdName) [ None ↦ holder_at w l.path l.offset | Some p ↦ submitter_of w p ]) h.named)

there_by : (n : ℕ) (o p : Option Course) (c : Course) → o ≡ Some c → CallStays o p → (d : Course) × (p ≡ Some d)
there_by n None p c h s = absurd (none_some c h)
there_by n (Some x) p c h s = (s.0, s.1)

-- It has its call later.
pub call_kept : (w v : World) (l : Landing) → KeepsWriters w v → HasCall w l → HasCall v l
call_kept w v l k h =
    let b = k.calls h.machine h.host h.at in
    let d = there_by h.call (call_of h.call h.host.calls) (call_of h.call b.0.calls) h.course h.has
    (call_stays h.call h.host.calls b.0.calls b.2 (k.distinct h.machine b.0 b.1)) in
    record { machine = h.machine; call = h.call; named = h.named; host = b.0; course = d.0; at = b.1; has = d.1 }

each_kept : (p : Landing → Bool) (P : Landing → Type 0) (l : Landing) (ls : List Landing) (t : Bool) → P l → Every P (filter p ls)
    → Every P (cond t (l ∷ filter p ls) (filter p ls))
each_kept p P l ls true this rest = (this, rest)
each_kept p P l ls false this rest = rest

each_filtered : (p : Landing → Bool) (P : Landing → Type 0) (ls : List Landing) → ((l : Landing) → Contains ls l → P l) → Every P (filter p ls)
each_filtered p P [] h = tt
each_filtered p P (l ∷ ls) h =
    each_kept p P l ls (p l) (h l (contains_first l ls)) (each_filtered p P ls (λ x has. h x (contains_more l ls x has)))

each_behind : (P : Landing → Type 0) (ls : List Landing) (x : Landing) → Every P ls → P x → Every P (ls ++ x ∷ [])
each_behind P [] x each this = (this, tt)
each_behind P (l ∷ ls) x each this = (each.0, each_behind P ls x each.1 this)

-- Who wrote what stands in the history of a place stays, where each landing has its call.
pub writers_kept : (w v : World) (path : List ℕ) (offset : ℕ) → KeepsWriters w v → ((l : Landing) → Contains w.landings l → HasCall w l)
    → Every (λ l. writer_of v l ≡ writer_of w l) (history_of w path offset)
writers_kept w v path offset k each =
    each_behind (λ l. writer_of v l ≡ writer_of w l) (landed_at w path offset) (first_landing w path offset)
    (each_filtered (λ l. same_place l.path l.offset path offset) (λ l. writer_of v l ≡ writer_of w l) w.landings
    (λ l has. writer_stays w v l k (each l has)))
    (holder_same w v path offset k.layout k.machines k.given)

-- Each landing of a run has its call.
pub calls_of_landings : LandingsAreWritten → (p : Program) (h : Header) (now : List Happening) → LawfulRun p h now → (l : Landing)
    → Contains (world_at p h now).landings l → HasCall (world_at p h now) l
calls_of_landings written p h now run l has = call_of_writer (world_at p h now) l (written p h now run l has)

-- So the writers of a run stay.
pub writers_stay : LandingsAreWritten → (p : Program) (h : Header) (now : List Happening) → LawfulRun p h now → (v : World) → KeepsWriters (world_at p h now) v
    → (path : List ℕ) (offset : ℕ) → Every (λ l. writer_of v l ≡ writer_of (world_at p h now) l) (history_of (world_at p h now) path offset)
writers_stay written p h now run v k path offset =
    writers_kept (world_at p h now) v path offset k (calls_of_landings written p h now run)
