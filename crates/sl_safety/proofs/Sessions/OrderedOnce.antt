-- One session of an id joins at a step: entries of one step are one, and an entry joins one session of a lockspace; those that were
-- joined at first differ by the header.
use Rattle.sl_run_law.proofs.Course.Daemons.{every_has, first_daemons}
use Rattle.sl_run_law.proofs.Course.MachinesKeep.{header_machine, was_before}
use Rattle.sl_area.specs.AreaSizes.{layout_with}
use Rattle.sl_run_law.specs.Course.CallStamps.{stamp_in}
use Rattle.sl_run_law.proofs.Front.RunsFromFronts.{fronts_are_lawful, run_keeps}
use Rattle.sl_run_law.proofs.Front.JoinedLists.{contains_append, contains_left}
use Rattle.sl_id_safety.proofs.IdSafety.{generations_name_one}
use Rattle.sl_id_safety.proofs.OverIsQuiet.{goes_on}
use Rattle.sl_id_safety.proofs.State.TraceBridge.{IsKnown, is_there, known}
use Rattle.sl_id_safety.proofs.State.SessionFacts.{grounds}
use Rattle.sl_run_law.proofs.Landing.OneEvent.{first_later, world_first}
use Rattle.sl_run.proofs.LawFacts.{orderly-front}
use Rattle.sl_run.specs.Lawful.{Orderly}
use Rattle.sl_run_law.proofs.Moment.MachinesInOrder.{entries_ordered, fall_step}
use Rattle.sl_words.proofs.Lists.{contains_first, contains_none}
use Rattle.sl_safety.proofs.Resources.OneSessionStands.{Differ, Stands, given_differ, one_stands}
use Rattle.sl_safety.proofs.Resources.StepsNameCalls.{name_is}
use Rattle.sl_safety.proofs.Resources.StepsNameEntries.{fall_apart, one_daemon, one_entry}
use Rattle.sl_safety.specs.Resources.Histories.{joined_step}
use Rattle.sl_run.specs.Runs.{Happening}
use Rattle.sl_run.specs.Safety.{Found, HasJoined, IsSession, LawfulRun, SessionId, found_generation, setting_in, trace_of, world_at}
use Rattle.sl_run.specs.Worlds.{Daemon, Machine, Program, Stamp, World, daemons_on, machine_at, world_with}
use Rattle.sl_run.specs.declared.header.Header.{Header}
use Rattle.sl_run_law.specs.FatesStay.{Every}
use Rattle.sl_safety.proofs.Sessions.OrderedDaemons.{Came, IsOfEvent, event_comes}
use Rattle.sl_safety.proofs.Sessions.OrderedStood.{At_first, By_entry, JoinedWhen, joined_stood, joined_when}
use Rattle.sl_safety.proofs.Sessions.OrderedTraces.{begun_end, joined_end, joins_kept}
use Rattle.sl_run_law.specs.Sessions.SessionLaws.{IsSession as IsSessionOf}
use Rattle.sl_trace.specs.Sessions.{generation_of, given_number, joined_after}
use Rattle.sl_trace.specs.declared.session.Session.{Session}
use Rattle.sl_trace.specs.Traces.{Setting, Trace}
use Rattle.sl_trace.specs.declared.effects.Entry.{Entry}
use Rattle.sl_run_law.proofs.Watchdog.Stamps.{stamp_there}
use Rattle.sl_words.proofs.CaseLaws.{one_value, true_is_false}
use Rattle.std.proofs.Common.{ap, arith, inl, inr, refl, subst, sym, ◌∙◌}
use Rattle.std.proofs.lemmas.Bool.{cases_lt}
use Rattle.std.specs.Prelude.{Contains, List, None, Option, Some, [], is_some, length, suc, true, ℕ, ◌++◌, ◌<◌, ◌∷◌, ◌≡◌, ◌≤◌, ◌⊎◌}

-- ---- stamps of one step are of one machine

-- A stamp of an entry on this machine.
pub record HasStamp (w : World) (m : ℕ) (s : Stamp) : Type 0 where
  pub machine : Machine
  pub at : machine_at w m ≡ Some machine
  pub daemon : Daemon
  pub has : Contains (daemons_on machine) daemon
  pub stamp : Contains daemon.stamps s

abbrev StampsApart : World → Type 0
StampsApart w = (m n : ℕ) (s t : Stamp) → HasStamp w m s → HasStamp w n t → s.step ≡ t.step → m ≡ n

pub stamp_past : (p : Program) (h : Header) (xs : List Happening) → LawfulRun p h xs → (m : ℕ) (s : Stamp) → HasStamp (world_at p h xs) m s → s.step < (world_at p h xs).step
stamp_past p h xs run m s k =
    fall_step (world_at p h xs).step (k.daemon.stamps ++ k.daemon.begun ∷ []) s (entries_ordered p h xs run m k.machine k.daemon k.at k.has)
    (contains_left k.daemon.stamps (k.daemon.begun ∷ []) s k.stamp)

-- None is of step 0.
stamp_above : (p : Program) (h : Header) (xs : List Happening) → LawfulRun p h xs → (m : ℕ) (s : Stamp) → HasStamp (world_at p h xs) m s → 0 < s.step
stamp_above p h xs run m s k =
    let later = fall_apart (world_at p h xs).step k.daemon.stamps (k.daemon.begun ∷ []) s k.daemon.begun (entries_ordered p h xs run m k.machine k.daemon k.at k.has) k.stamp
    (contains_first k.daemon.begun []) in
    omega (arith, later)

old_or_new : (p : Program) (h : Header) (now : List Happening) (x : Happening) → LawfulRun p h (now ++ x ∷ []) → (m : ℕ) (s : Stamp) → HasStamp (world_at p h (now ++ x ∷ [])) m s
    → HasStamp (world_at p h now) m s ⊎ IsOfEvent (world_at p h now) x.0 m s
old_or_new p h now x run m s k =
    let g = was_before p h now x run m k.machine k.at in
    from g.0 g.1.at (event_comes p h now x m g.0 k.machine g.1 k.daemon k.has)
  where
    from : (a : Machine) → machine_at (world_at p h now) m ≡ Some a → Came (IsOfEvent (world_at p h now) x.0 m) (daemons_on a) k.daemon
        → HasStamp (world_at p h now) m s ⊎ IsOfEvent (world_at p h now) x.0 m s
    from a at (inr b) = inr (b.later s k.stamp)
    from a at (inl c) =
        elim (contains_append c.stamps c.daemon.stamps s (subst (λ ss. Contains ss s) c.stamped k.stamp)) as (λ z. HasStamp (world_at p h now) m s ⊎ IsOfEvent (world_at p h now) x.0 m s) [
          | inl new ↦ inr (c.later s new)
          | inr old ↦ inl (record { machine = a; at = at; daemon = c.daemon; has = c.has; stamp = old })
        ]

never_both : (s t w f : ℕ) → s < w → w < f → t ≡ f → s ≡ t → ⊥
never_both s t w f p q r e = omega (arith, p, q, r, e)

apart_next : (p : Program) (h : Header) (now : List Happening) (x : Happening) → LawfulRun p h (now ++ x ∷ []) → StampsApart (world_at p h now) → StampsApart (world_at p h (now ++ x ∷ []))
apart_next p h now x run apart m n s t one two same = by (world_at p h now) apart (λ k u a. stamp_past p h now (fronts_are_lawful p h now (x ∷ []) run) k u a) (first_later (world_at p h now) x.0).step (old_or_new p h now x run m s one) (old_or_new p h now x run n t two) where
  by : (w : World) → StampsApart w → ((k : ℕ) (u : Stamp) → HasStamp w k u → u.step < w.step) → w.step < (world_first w x.0).step → HasStamp w m s ⊎ IsOfEvent w x.0 m s
      → HasStamp w n t ⊎ IsOfEvent w x.0 n t → m ≡ n
  by w apart past later (inl a) (inl b) = apart m n s t a b same
  by w apart past later (inr a) (inr b) = a.0 ∙ sym b.0
  by w apart past later (inl a) (inr b) = absurd (never_both s.step t.step w.step (world_first w x.0).step (past m s a) later b.1 same)
  by w apart past later (inr a) (inl b) = absurd (never_both t.step s.step w.step (world_first w x.0).step (past n t b) later a.1 (sym same))

-- At first no daemon has an entry.
pub first_empty : (p : Program) (h : Header) (m : ℕ) (a : Machine) (d : Daemon) → machine_at (world_with p h) m ≡ Some a → Contains (daemons_on a) d → (d.trace ≡ []) × (d.stamps ≡ [])
first_empty p h m a d at has =
    every_has (λ (x : Daemon). (x.trace ≡ []) × (x.stamps ≡ [])) (daemons_on a) d
    (subst (λ (b : Machine). Every (λ (x : Daemon). (x.trace ≡ []) × (x.stamps ≡ [])) (daemons_on b)) (sym (header_machine p h m a at))
    (first_daemons p (layout_with p.digest h.geometry) h m (λ (x : Daemon). (x.trace ≡ []) × (x.stamps ≡ [])) (λ s is. (refl, refl)))) has

stamps_apart : (p : Program) (h : Header) (xs : List Happening) → LawfulRun p h xs → StampsApart (world_at p h xs)
stamps_apart p h xs run =
    run_keeps p h (λ ys. StampsApart (world_at p h ys))
    (record {
      first = λ m n s t one two same. absurd (contains_none s (subst (λ ss. Contains ss s) (first_empty p h m one.machine one.daemon one.at one.has).1 one.stamp));
      next = λ now x law so. apart_next p h now x law so;
    }) xs run

-- ---- by one entry

-- The entry of an index, with those before it.
pub record EntryAt (es : Trace) (q : ℕ) : Type 0 where
  pub newer : Trace
  pub entry : Entry
  pub past : Trace
  pub whole : es ≡ newer ++ entry ∷ past
  pub place : length past ≡ q

less_than : (q n : ℕ) → n ≤ q → q < suc n → n ≡ q
less_than q n le lt = omega (arith, le, lt)

pub entry_at : (es : Trace) (q : ℕ) → q < length es → EntryAt es q
entry_at [] q lt = absurd (omega (arith, lt))
entry_at (e ∷ es) q lt = by (λ less. entry_at es q less) (cases_lt q (length es)) where
  by : (q < length es → EntryAt es q) → (q < length es) ⊎ (length es ≤ q) → EntryAt (e ∷ es) q
  by rest (inl less) =
      let r = rest less in
      record { newer = e ∷ r.newer; entry = r.entry; past = r.past; whole = ap (λ t. e ∷ t) r.whole; place = r.place }
  by rest (inr le) = record { newer = []; entry = e; past = es; whole = refl; place = less_than q (length es) le lt }

-- It stands where it joins.
stands_at : (es : Trace) (s : Session) (q : ℕ) (k : EntryAt es q) → joined_after es s ≡ Some (suc q) → Stands (k.entry ∷ k.past) s
stands_at es s q k joined =
    let place : suc (length k.past) ≡ suc q = ap (λ n. suc n) k.place in
    let at : joined_after (k.entry ∷ k.past) s ≡ Some (suc q) =
    joined_end k.newer (k.entry ∷ k.past) s (suc q) (subst (λ t. joined_after t s ≡ Some (suc q)) k.whole joined) (omega (arith, place)) in
    record { entries = suc q; joined = at; kept = joins_kept k.entry k.past s (at ∙ ap (λ n. Some n) (sym place)) }

-- Two sessions of a lockspace that one entry joins are one.
one_joins : (st : Setting) (es : Trace) (s t : Session) (q : ℕ) → Orderly st es → Differ st.given → IsSessionOf st es s → IsSessionOf st es t → s.lockspace ≡ t.lockspace → q < length es
    → joined_after es s ≡ Some (suc q) → joined_after es t ≡ Some (suc q) → s ≡ t
one_joins st es s t q h differ its also name lt one two =
    let k = entry_at es q lt in
    let a = stands_at es s q k one in
    let b = stands_at es t q k two in
    let here : Orderly st (k.newer ++ k.entry ∷ k.past) = subst (λ u. Orderly st u) k.whole h in
    one_stands st (k.entry ∷ k.past) s t (orderly-front st k.newer (k.entry ∷ k.past) here) differ
    (begun_end st k.newer (k.entry ∷ k.past) s a.entries here (subst (λ u. IsSessionOf st u s) k.whole its) a.joined)
    (begun_end st k.newer (k.entry ∷ k.past) t b.entries here (subst (λ u. IsSessionOf st u t) k.whole also) b.joined) name a b

-- ---- at one step

-- Two found sessions with one machine, daemon and number have one name.
same_name : (w : World) (i k : SessionId) (f g : Found) → IsKnown w i f → IsKnown w k g → i.machine ≡ k.machine → f.daemon ≡ g.daemon → f.session ≡ g.session → i ≡ k
same_name w i k f g a b machine daemon session =
    name_is i.machine i.daemon i.number k.machine k.daemon k.number machine (sym a.there.daemon ∙ ap (λ (d : Daemon). d.number) daemon ∙ b.there.daemon)
    (sym a.there.number ∙ ap (λ (s : Session). s.number) session ∙ b.there.number)

abbrev joined_in : Daemon → Session → Option ℕ
joined_in d s = joined_after d.trace s

-- By entries of one step.
by_entries : (p : Program) (h : Header) (xs : List Happening) → LawfulRun p h xs → (i k : SessionId) (f g : Found) → IsSession (world_at p h xs) i f → IsSession (world_at p h xs) k g
    → f.session.lockspace ≡ g.session.lockspace → (q r : ℕ) (s t : Stamp) → q < length (trace_of f) → joined_after (trace_of f) f.session ≡ Some (suc q)
    → joined_after (trace_of g) g.session ≡ Some (suc r) → stamp_in f.daemon.stamps q ≡ Some s → stamp_in g.daemon.stamps r ≡ Some t → s.step ≡ t.step → i ≡ k
by_entries p h xs run i k f g its also name q r s t inside joined joins here there same =
    let w : World = world_at p h xs in
    let a = known grounds p h xs run i f its in
    let b = known grounds p h xs run k g also in
    let one : HasStamp w i.machine s = record { machine = f.machine; at = a.there.at; daemon = f.daemon; has = a.there.has; stamp = stamp_there f.daemon.stamps q s here } in
    let two : HasStamp w k.machine t = record { machine = g.machine; at = b.there.at; daemon = g.daemon; has = b.there.has; stamp = stamp_there g.daemon.stamps r t there } in
    let machine : i.machine ≡ k.machine = stamps_apart p h xs run i.machine k.machine s t one two same in
    let machines : f.machine ≡ g.machine =
    one_value f.machine g.machine (machine_at w k.machine) (ap (λ m. machine_at w m) (sym machine) ∙ a.there.at) b.there.at in
    let daemon : f.daemon ≡ g.daemon =
    one_daemon p h xs run k.machine g.machine f.daemon g.daemon b.there.at (subst (λ m. Contains (daemons_on m) f.daemon) machines a.there.has) b.there.has q r s t here there same in
    let index : q ≡ r =
    one_entry w.step f.daemon.stamps q r s t a.stamps here (ap (λ (d : Daemon). stamp_in d.stamps r) daemon ∙ there) same in
    let session : f.session ≡ g.session =
    one_joins (setting_in f) (trace_of f) f.session g.session q a.lawful (given_differ p h xs run i.machine f.machine f.daemon a.there.at a.there.has) a.its
    (subst (λ (d : Daemon). IsSessionOf d.setting d.trace g.session) (sym daemon) b.its) name inside joined
    (ap (λ (d : Daemon). joined_in d g.session) daemon ∙ joins ∙ ap (λ n. Some (suc n)) (sym index)) in
    same_name w i k f g a b machine daemon session

-- Those that were joined at first have generation 1 then.
first_generation : (p : Program) (h : Header) (i : SessionId) (f : Found) → IsSession (world_at p h []) i f → HasJoined f → found_generation f ≡ 1
first_generation p h i f its joined =
    let there = is_there (world_at p h []) i f its in
    let empty = first_empty p h i.machine f.machine f.daemon there.at there.has in
    ap (λ t. generation_of t f.session) empty.0 ∙ job_none f.session f.session.job refl (subst (λ t. is_some (joined_after t f.session) ≡ true) empty.0 joined)
  where
    job_none : (s : Session) (o : Option ℕ) → s.job ≡ o → is_some (elim o as (λ z. Option ℕ) [ None ↦ Some 0 | Some j ↦ None ]) ≡ true → given_number s ≡ 1
    job_none s None is some = ap (λ o. elim o as (λ z. ℕ) [ None ↦ 1 | Some j ↦ 0 ]) is
    job_none s (Some j) is some = absurd (true_is_false (sym some))

at_first : (p : Program) (h : Header) (xs : List Happening) → LawfulRun p h xs → (i k : SessionId) (f g : Found) → IsSession (world_at p h xs) i f → IsSession (world_at p h xs) k g
    → f.session.lockspace ≡ g.session.lockspace → f.session.id ≡ g.session.id → joined_step f ≡ Some 0 → joined_step g ≡ Some 0 → i ≡ k
at_first p h xs run i k f g its also name id one two =
    let a = joined_stood p h [] xs run i f its 0 one (omega arith) in
    let b = joined_stood p h [] xs run k g also 0 two (omega arith) in
    let c = goes_on p h [] xs run i a.0 f a.1 its in
    let d = goes_on p h [] xs run k b.0 g b.1 also in
    generations_name_one p h [] (fronts_are_lawful p h [] xs run) i k a.0 b.0 a.1 b.1 a.2 b.2
    (ap (λ (s : Session). s.lockspace) (sym c.session) ∙ name ∙ ap (λ (s : Session). s.lockspace) d.session)
    (ap (λ (s : Session). s.id) (sym c.session) ∙ id ∙ ap (λ (s : Session). s.id) d.session)
    (first_generation p h i a.0 a.1 a.2 ∙ sym (first_generation p h k b.0 b.1 b.2))

zero_not : (n : ℕ) → 0 < n → n ≡ 0 → ⊥
zero_not n p q = omega (arith, p, q)

has_stamp : (p : Program) (h : Header) (xs : List Happening) → LawfulRun p h xs → (i : SessionId) (f : Found) → IsSession (world_at p h xs) i f → (q : ℕ) (s : Stamp)
    → stamp_in f.daemon.stamps q ≡ Some s → 0 < s.step
has_stamp p h xs run i f its q s at =
    let a = known grounds p h xs run i f its in
    stamp_above p h xs run i.machine s (record { machine = f.machine; at = a.there.at; daemon = f.daemon; has = a.there.has; stamp = stamp_there f.daemon.stamps q s at })

-- One session of an id of a lockspace joins at a step.
pub joined_once : (p : Program) (h : Header) (xs : List Happening) → LawfulRun p h xs → (i k : SessionId) (f g : Found) → IsSession (world_at p h xs) i f → IsSession (world_at p h xs) k g
    → f.session.lockspace ≡ g.session.lockspace → f.session.id ≡ g.session.id → (n : ℕ) → joined_step f ≡ Some n → joined_step g ≡ Some n → i ≡ k
joined_once p h xs run i k f g its also name id n one two =
    let a = joined_when p h xs run i f its n one in
    let b = joined_when p h xs run k g also n two in
    by a.0 b.0 a.1 b.1 a.2 b.2
  where
    by : (u v : ℕ) → joined_after (trace_of f) f.session ≡ Some u → joined_after (trace_of g) g.session ≡ Some v → JoinedWhen f u n → JoinedWhen g v n → i ≡ k
    by u v p1 p2 (At_first u0 n0) (At_first v0 m0) =
        at_first p h xs run i k f g its also name id (one ∙ ap (λ m. Some m) n0) (two ∙ ap (λ m. Some m) n0)
    by u v p1 p2 (At_first u0 n0) (By_entry r t v1 within there step) = absurd (zero_not t.step (has_stamp p h xs run k g also r t there) (step ∙ n0))
    by u v p1 p2 (By_entry q s u1 within here step) (At_first v0 m0) = absurd (zero_not s.step (has_stamp p h xs run i f its q s here) (step ∙ m0))
    by u v p1 p2 (By_entry q s u1 within here step) (By_entry r t v1 inside there other) =
        by_entries p h xs run i k f g its also name q r s t within (p1 ∙ ap (λ m. Some m) u1) (p2 ∙ ap (λ m. Some m) v1) here there (step ∙ sym other)
