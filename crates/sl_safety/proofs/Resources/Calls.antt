-- Calls of a world: all that was sent, by whom it was sent, and the area that it is on; work on the blocks of a resource.
use Rattle.sl_area.specs.AreaLayout.{in_area}
use Rattle.sl_run_law.proofs.Course.CallsAreDistinct.{each_distinct}
use Rattle.sl_run_law.proofs.Front.JoinedLists.{contains_flat, in_flat}
use Rattle.sl_run_law.proofs.Landing.CallLists.{one_call}
use Rattle.sl_run.specs.Lawful.{Orderly}
use Rattle.sl_run.specs.LawfulArea.{is_area_work, is_block_work}
use Rattle.sl_trace.specs.Leases.{block_of_record, is_on, spot_of_call}
use Rattle.sl_run_law.proofs.Place.Areas.{base_aligned, base_around, resource_aligned, same_base}
use Rattle.sl_run_law.proofs.Place.FoundInLists.{same_text}
use Rattle.sl_run_law.proofs.Place.PlaceLaws.{promised}
use Rattle.sl_run_law.proofs.Place.TracesOnMachines.{IsTraced, call_law, owner_of, traced}
use Rattle.sl_run_law.proofs.Place.Seats.{sized_in}
use Rattle.sl_words.proofs.Lists.{contains_cases, contains_first, contains_map, contains_more, contains_none, in_map, tail_is}
use Rattle.sl_words.proofs.Numbers.{one_less}
use Rattle.sl_words.proofs.Options.{else_some}
use Rattle.sl_safety.proofs.Resources.OneSessionStands.{Stands}
use Rattle.sl_safety.specs.Resources.HistoryLaws.{spot_of_line}
use Rattle.sl_safety.specs.Resources.SentCalls.{Sent, all_sent, holder_of, holder_of_found, nobody, sender_of, writes_block}
use Rattle.sl_run.specs.Runs.{Happening}
use Rattle.sl_run.specs.Safety.{Found, LawfulRun, SessionId, session_of_world, world_at}
use Rattle.sl_run.specs.Worlds.{Course, Daemon, Machine, Program, World, daemon_numbered, machine_at}
use Rattle.sl_run.specs.declared.header.Header.{Header}
use Rattle.sl_run.specs.declared.header.ResourceLine.{ResourceLine}
use Rattle.sl_run_law.proofs.MachineWalk.{index, number_within}
use Rattle.sl_sector.specs.declared.sector.Block.{Block}
use Rattle.sl_sector.specs.declared.sector.Rec.TheVariants.{BlockIs}
use Rattle.sl_run_law.proofs.Sessions.CallsAreMade.{calls_are_made}
use Rattle.sl_run_law.specs.Sessions.SessionLaws.{IsMade, IsSession, front_of}
use Rattle.sl_trace.specs.Sessions.{is_active, joined_after, leaving_job, recovery_of, removed_after, session_numbered}
use Rattle.sl_trace.specs.declared.session.Session.{Session}
use Rattle.sl_trace.specs.Traces.{Setting, Submitted, Trace, new_call, record_of}
use Rattle.sl_trace.specs.declared.effects.Call.{Call}
use Rattle.sl_trace.specs.declared.effects.Spot.{Spot}
use Rattle.sl_words.proofs.CaseLaws.{false_is_true, none_some, one_value, some_value}
use Rattle.sl_words.proofs.WordLaws.{and_true}
use Rattle.std.proofs.Common.{ap, arith, inl, inr, refl, subst, sym, tests, ◌∙◌}
use Rattle.std.proofs.lemmas.Bool.{eq-eqb, leb-true}
use Rattle.std.proofs.lemmas.List.{length-append}
use Rattle.std.specs.List.{enumerate_from}
use Rattle.std.specs.Prelude.{Bool, Contains, List, None, Option, Some, [], bytes_eq, false, is_none, is_some, length, map, nat_le, option_and_then, option_map, slice_get, suc, true, zero, ℕ, ◌%◌, ◌&&◌, ◌++◌, ◌+◌, ◌-◌, ◌==◌, ◌∷◌, ◌≡◌, ◌≤◌, ◌⊎◌}
use Rattle.sl_safety.specs.Resources.Histories.{is_host}
use Rattle.std.specs.Option.{option_map_or}

-- ---- all that was sent

abbrev pub IsNumbered : {A : Type 0} → ℕ → List A → ℕ × A → Type 0
IsNumbered k xs p = (i : ℕ) × (p.0 ≡ k + i) × (slice_get xs i ≡ Some p.1)

pub numbered_in : {A : Type 0} (k : ℕ) (xs : List A) (p : ℕ × A) → Contains (enumerate_from k xs) p → IsNumbered k xs p
numbered_in k [] p there = absurd (contains_none p there)
numbered_in {A} k (x ∷ xs) p there = by (λ old. numbered_in (k + 1) xs p old) (contains_cases (k, x) (enumerate_from (k + 1) xs) p there) where
  by : (Contains (enumerate_from (k + 1) xs) p → IsNumbered (k + 1) xs p) → ((k, x) ≡ p) ⊎ Contains (enumerate_from (k + 1) xs) p → IsNumbered k (x ∷ xs) p
  by rest (inl here) = let same : k ≡ k + 0 = omega arith in (zero, ap (λ (q : ℕ × A). q.0) (sym here) ∙ same, ap (λ (q : ℕ × A). Some q.1) here)
  by rest (inr old) = let r = rest old in let same : (k + 1) + r.0 ≡ k + suc r.0 = omega arith in (suc r.0, r.1 ∙ same, r.2)

pub numbered_at : {A : Type 0} (k : ℕ) (xs : List A) (i : ℕ) (a : A) → slice_get xs i ≡ Some a → Contains (enumerate_from k xs) (k + i, a)
numbered_at k [] i a at = absurd (none_some a at)
numbered_at {A} k (x ∷ xs) zero a at =
    let same : k ≡ k + 0 = omega arith in
    subst (λ n. Contains (enumerate_from k (x ∷ xs)) (n, a)) same
    (subst (λ (y : A). Contains (enumerate_from k (x ∷ xs)) (k, y)) (some_value x a at) (contains_first (k, x) (enumerate_from (k + 1) xs)))
numbered_at k (x ∷ xs) (suc i) a at =
    let same : (k + 1) + i ≡ k + suc i = omega arith in
    subst (λ n. Contains (enumerate_from k (x ∷ xs)) (n, a)) same
    (contains_more (k, x) (enumerate_from (k + 1) xs) ((k + 1) + i, a) (numbered_at (k + 1) xs i a at))

abbrev pub sent_by : ℕ × Machine → List Sent
sent_by p = map (λ c. let x : Sent = record { machine = p.0; course = c } in x) p.1.calls

not_zero : (i : ℕ) → (1 + i == 0) ≡ false
not_zero i = grind (arith, tests)

pub machine_there : (w : World) (m i : ℕ) (a : Machine) → m ≡ 1 + i → slice_get w.machines i ≡ Some a → machine_at w m ≡ Some a
machine_there w m i a is at =
    else_some (m == 0) (slice_get w.machines (m - 1)) a (ap (λ n. n == 0) is ∙ not_zero i) (ap (λ n. slice_get w.machines (n - 1)) is ∙ ap (λ n. slice_get w.machines n) (one_less i) ∙ at)

-- A call that was sent is one of its machine.
pub record IsThere (w : World) (x : Sent) : Type 0 where
  pub machine : Machine
  pub at : machine_at w x.machine ≡ Some machine
  pub has : Contains machine.calls x.course

pub sent_there : (w : World) (x : Sent) → Contains (all_sent w) x → IsThere w x
sent_there w x there =
    let f = contains_flat sent_by (enumerate_from 1 w.machines) x there in
    let n = numbered_in 1 w.machines f.0 f.1 in
    let c = in_map (λ c. let y : Sent = record { machine = f.0.0; course = c } in y) f.0.1.calls x f.2 in
    let at : machine_at w f.0.0 ≡ Some f.0.1 = machine_there w f.0.0 n.0 f.0.1 n.1 n.2 in
    record {
      machine = f.0.1;
      at = ap (λ (y : Sent). machine_at w y.machine) (sym c.2) ∙ at;
      has = subst (λ (y : Sent). Contains f.0.1.calls y.course) c.2 c.1;
    }

-- .. and each call of a machine was sent.
pub there_sent : (w : World) (m : ℕ) (a : Machine) (c : Course) → machine_at w m ≡ Some a → Contains a.calls c
    → Contains (all_sent w) (let x : Sent = record { machine = m; course = c } in x)
there_sent w m a c at has =
    let n : 1 + (m - 1) ≡ m = (number_within w m a at).1 in
    subst (λ k. Contains (all_sent w) (let x : Sent = record { machine = k; course = c } in x)) n
    (in_flat sent_by (enumerate_from 1 w.machines) (1 + (m - 1), a) _ (numbered_at 1 w.machines (m - 1) a (index w m a at).1)
    (contains_map (λ d. let y : Sent = record { machine = 1 + (m - 1); course = d } in y) a.calls c has))

-- ---- whose a call is

-- A call that was sent, with its machine, its daemon, the call as its trace has it, and its session.
pub record IsOwned (w : World) (x : Sent) : Type 0 where
  pub there : IsThere w x
  pub trace : IsTraced there.machine x.course
  pub session : Session
  pub its : IsSession trace.daemon.setting trace.daemon.trace session
  pub mine : trace.submitted_as.call.session ≡ session.number

pub owned : (p : Program) (h : Header) (xs : List Happening) → LawfulRun p h xs → (x : Sent) → Contains (all_sent (world_at p h xs)) x → IsOwned (world_at p h xs) x
owned p h xs run x sent =
    let k = sent_there (world_at p h xs) x sent in
    let t = traced promised p h xs run x.machine k.machine x.course k.at k.has in
    let s = owner_of t.daemon.setting t.daemon.trace t.submitted_as t.lawful t.inside in
    record { there = k; trace = t; session = s.0; its = s.1; mine = s.2 }

abbrev pub found_of : {w : World} {x : Sent} → IsOwned w x → Found
found_of {w} {x} o = record { machine = o.there.machine; daemon = o.trace.daemon; session = o.session; now = w.moment }

abbrev pub found_as : ℕ → Machine → Daemon → Session → Found
found_as now a d s = record { machine = a; daemon = d; session = s; now = now }

abbrev pub found_in_daemon : ℕ → Machine → ℕ → Daemon → Option Found
found_in_daemon now a n d = option_map (λ (s : Session). found_as now a d s) (session_numbered d.setting d.trace n)

abbrev pub found_on : ℕ → ℕ → ℕ → Machine → Option Found
found_on now k n a = option_and_then (λ (d : Daemon). option_map (λ (s : Session). found_as now a d s) (session_numbered d.setting d.trace n)) (daemon_numbered a k)

pub in_world : (w : World) (i : SessionId) (a : Machine) (d : Daemon) (s : Session) → machine_at w i.machine ≡ Some a → daemon_numbered a i.daemon ≡ Some d
    → session_numbered d.setting d.trace i.number ≡ Some s → session_of_world w i ≡ Some (found_as w.moment a d s)
in_world w i a d s here at is =
    ap (λ (o : Option Machine). option_and_then (found_on w.moment i.daemon i.number) o) here
    ∙ ap (λ (o : Option Daemon). option_and_then (found_in_daemon w.moment a i.number) o) at ∙ ap (option_map (λ (y : Session). found_as w.moment a d y)) is

-- Its session is the one that sent it.
pub owner_found : (w : World) (x : Sent) (o : IsOwned w x) → session_of_world w (sender_of x) ≡ Some (found_of o)
owner_found w x o =
    in_world w (sender_of x) o.there.machine o.trace.daemon o.session o.there.at o.trace.numbered
    (ap (λ n. session_numbered o.trace.daemon.setting o.trace.daemon.trace n) (ap (λ c. c.session) (sym o.trace.is.call) ∙ o.mine) ∙ o.its)

-- Where it was made.
abbrev pub made_of : {w : World} {x : Sent} (o : IsOwned w x) → IsMade o.trace.daemon.trace o.trace.submitted_as
made_of {w} {x} o = calls_are_made o.trace.daemon.trace o.trace.submitted_as o.trace.inside

-- The layout of its daemon.
pub owner_layout : (p : Program) (h : Header) (xs : List Happening) → LawfulRun p h xs → (x : Sent) (o : IsOwned (world_at p h xs) x)
    → o.trace.daemon.setting.layout ≡ (world_at p h xs).layout
owner_layout p h xs run x o = (promised.of_world p h xs run x.machine o.there.machine o.trace.daemon o.there.at o.trace.has).layout

-- ---- the area of a call

-- A call on a resource's area: its path, and the base of the area that it is in.
pub on_spot : (p : Program) (h : Header) (xs : List Happening) → LawfulRun p h xs → (r : ResourceLine) → Contains h.resources r → (c : Call)
    → is_on (world_at p h xs).layout (spot_of_line r) c ≡ true → (c.path ≡ r.path) × (c.offset - c.offset % (world_at p h xs).layout.area ≡ r.offset)
on_spot p h xs run r there c on =
    let w : World = world_at p h xs in
    let z = sized_in p h xs run in
    let both = and_true (bytes_eq c.path r.path) (in_area w.layout r.offset c.offset) on in (
      same_text c.path r.path both.0,
      same_base w.layout (c.offset - c.offset % w.layout.area) r.offset c.offset z (base_aligned w.layout c.offset z) (resource_aligned h r run.header there)
          (base_around w.layout c.offset z) both.1,
    )

abbrev spot_at : List ℕ → ℕ → Spot
spot_at path base = record { path = path; base = base }

-- So the area of the call is the resource's.
pub spot_is : (p : Program) (h : Header) (xs : List Happening) → LawfulRun p h xs → (r : ResourceLine) → Contains h.resources r → (q : Submitted)
    → is_on (world_at p h xs).layout (spot_of_line r) q.call ≡ true → spot_of_call (world_at p h xs).layout q ≡ spot_of_line r
spot_is p h xs run r there q on =
    let s = on_spot p h xs run r there q.call on in
    let base : ℕ = q.call.offset - q.call.offset % (world_at p h xs).layout.area in
    ap (λ n. spot_at n base) s.0 ∙ ap (λ n. spot_at r.path n) s.1

-- ---- work on blocks

-- Whether a call writes, or reads blocks.
abbrev pub works : Course → Bool
works c = is_block_work (new_call 0 0 c.call)

-- A call that works on the resource's area for a session of its lockspace.
pub record IsWork (w : World) (r : ResourceLine) (x : Sent) : Type 0 where
  pub owned : IsOwned w x
  pub on : is_on w.layout (spot_of_line r) x.course.call ≡ true
  pub work : works x.course ≡ true
  pub area : is_area_work x.course.call.purpose ≡ true
  pub lockspace : owned.session.lockspace ≡ r.lockspace

active_by : (joined removed : Option ℕ) (b c : Bool) → (is_some joined && is_none removed && b && c) ≡ true → (k : ℕ) × (joined ≡ Some k) × (removed ≡ None)
active_by None removed b c h = absurd (false_is_true h)
active_by (Some k) None b c h = (k, refl, refl)
active_by (Some k) (Some i) b c h = absurd (false_is_true h)

active_stands : (st : Setting) (t : Trace) (s : Session) → is_active st t s ≡ true → Stands t s
active_stands st t s h =
    let r = active_by (joined_after t s) (removed_after t s) (is_none (recovery_of st t s)) (is_none (leaving_job st t s)) h in
    record { entries = r.0; joined = r.1; kept = r.2 }

-- Where a session made a call on an area it stood.
pub stood : (st : Setting) (es : Trace) (s : Session) (q : Submitted) (d : IsMade es q) → Orderly st es → IsSession st es s → q.call.session ≡ s.number → is_area_work q.call.purpose ≡ true
    → Stands (d.entry ∷ d.past) s
stood st es s q d h its mine area =
    let law = call_law st es s q d h its mine in
    let k : Stands (front_of d) s = active_stands st (front_of d) s (law.0.area.0.active d.index q.call s d.call law.1 area) in
    record { entries = k.entries; joined = k.joined; kept = k.kept }

-- ---- two calls of one entry

not_longer : {A : Type 0} (x : A) (xs fs gs : List A) → fs ≡ (x ∷ xs) ++ gs → length fs ≡ length gs → ⊥
not_longer x xs fs gs same long = let n : length fs ≡ suc (length xs) + length gs = ap (λ l. length l) same ∙ length-append (x ∷ xs) gs in omega (arith, n, long)

-- Ends of one list that are as long are one.
same_ends : {A : Type 0} (xs ys fs gs : List A) → xs ++ fs ≡ ys ++ gs → length fs ≡ length gs → fs ≡ gs
same_ends [] [] fs gs same long = same
same_ends [] (y ∷ ys) fs gs same long = absurd (not_longer y ys fs gs same long)
same_ends (x ∷ xs) [] fs gs same long = absurd (not_longer x xs gs fs (sym same) (sym long))
same_ends (x ∷ xs) (y ∷ ys) fs gs same long = same_ends xs ys fs gs (tail_is x y (xs ++ fs) (ys ++ gs) same) long

-- The entries of two calls that were made in one are one.
pub same_entry : (es : Trace) (q k : Submitted) (d : IsMade es q) (e : IsMade es k) → q.at ≡ k.at → d.entry ∷ d.past ≡ e.entry ∷ e.past
same_entry es q k d e same =
    same_ends d.later e.later (d.entry ∷ d.past) (e.entry ∷ e.past) (sym d.whole ∙ e.whole) (ap (λ n. suc n) (sym d.place ∙ same ∙ e.place))

-- Of two elements of a list, they are one or one is the newer.
pub data Order {A : Type 0} (xs : List A) (a b : A) : Type 0 where
  Same : a ≡ b → Order xs a b
  Newer : (newer between older : List A) → xs ≡ newer ++ a ∷ (between ++ b ∷ older) → Order xs a b
  Older : (newer between older : List A) → xs ≡ newer ++ b ∷ (between ++ a ∷ older) → Order xs a b

pub split : {A : Type 0} (xs : List A) (a : A) → Contains xs a → (newer : List A) × (older : List A) × (xs ≡ newer ++ a ∷ older)
split [] a there = absurd (contains_none a there)
split {A} (x ∷ xs) a there = by (λ old. split xs a old) (contains_cases x xs a there) where
  by : (Contains xs a → (newer : List A) × (older : List A) × (xs ≡ newer ++ a ∷ older)) → (x ≡ a) ⊎ Contains xs a → (newer : List A) × (older : List A) × (x ∷ xs ≡ newer ++ a ∷ older)
  by rest (inl here) = ([], xs, ap (λ y. y ∷ xs) here)
  by rest (inr old) = let r = rest old in (x ∷ r.0, r.1, ap (λ ys. x ∷ ys) r.2)

order_more : {A : Type 0} (x : A) (xs : List A) (a b : A) → Order xs a b → Order (x ∷ xs) a b
order_more x xs a b (Same e) = Same e
order_more x xs a b (Newer newer between older e) = Newer (x ∷ newer) between older (ap (λ ys. x ∷ ys) e)
order_more x xs a b (Older newer between older e) = Older (x ∷ newer) between older (ap (λ ys. x ∷ ys) e)

pub order : {A : Type 0} (xs : List A) (a b : A) → Contains xs a → Contains xs b → Order xs a b
order [] a b here there = absurd (contains_none a here)
order {A} (x ∷ xs) a b here there = by (λ p q. order xs a b p q) (contains_cases x xs a here) (contains_cases x xs b there) where
  by : (Contains xs a → Contains xs b → Order xs a b) → (x ≡ a) ⊎ Contains xs a → (x ≡ b) ⊎ Contains xs b → Order (x ∷ xs) a b
  by rest (inl p) (inl q) = Same (sym p ∙ q)
  by rest (inl p) (inr q) = let r = split xs b q in Newer [] r.0 r.1 (ap (λ y. y ∷ xs) p ∙ ap (λ ys. a ∷ ys) r.2)
  by rest (inr p) (inl q) = let r = split xs a p in Older [] r.0 r.1 (ap (λ y. y ∷ xs) q ∙ ap (λ ys. b ∷ ys) r.2)
  by rest (inr p) (inr q) = order_more x xs a b (rest p q)

pub sent_is : (x y : Sent) → x.machine ≡ y.machine → x.course ≡ y.course → x ≡ y
sent_is x y m c =
    ap (λ n. let z : Sent = record { machine = n; course = x.course } in z) m ∙ ap (λ d. let z : Sent = record { machine = y.machine; course = d } in z) c

-- ---- numbers, and names

-- A host's number is in its range.
pub host_range : (w : World) (k : ℕ) → is_host w k ≡ true → (1 ≤ k) × (k ≤ w.layout.hosts)
host_range w k h = let both = and_true (nat_le 1 k) (nat_le k w.layout.hosts) h in (leb-true 1 k both.0, leb-true k w.layout.hosts both.1)

-- A call that writes a block record writes a block.
pub writes_is : (c : Course) (b : Block) → record_of c.call.op ≡ Some (BlockIs b) → writes_block c ≡ true
writes_is c b h = ap (λ o. is_some (option_and_then block_of_record o)) h

-- The holder of a session that is found.
pub holder_is : (w : World) (i : SessionId) (f : Found) → session_of_world w i ≡ Some f → holder_of w i ≡ holder_of_found f
holder_is w i f h = ap (λ o. option_map_or holder_of_found o nobody) h

abbrev pub Name : Type 0
Name = ℕ × ℕ

abbrev pub name_of : Sent → Name
name_of x = (x.machine, x.course.call.number)

-- Two calls of one machine and one number are one.
pub one_sent : (p : Program) (h : Header) (xs : List Happening) → LawfulRun p h xs → (x y : Sent) → Contains (all_sent (world_at p h xs)) x → Contains (all_sent (world_at p h xs)) y
    → x.machine ≡ y.machine → x.course.call.number ≡ y.course.call.number → x ≡ y
one_sent p h xs run x y this that machine number =
    let w : World = world_at p h xs in
    let k : IsThere w x = sent_there w x this in
    let j : IsThere w y = sent_there w y that in
    let same : j.machine ≡ k.machine = one_value j.machine k.machine (machine_at w x.machine) (ap (machine_at w) machine ∙ j.at) k.at in
    sent_is x y machine
    (one_call k.machine.calls x.course y.course (each_distinct p h xs run x.machine k.machine k.at) k.has (subst (λ a. Contains a.calls y.course) same j.has)
    (eq-eqb x.course.call.number y.course.call.number number))
