-- Evidence means over. What a session had counted as over by a step is over at each front from there on at which it has joined; and it
-- joins at none, since it would be over where it joins.
use Rattle.sl_ballot_law.specs.History.{Owner as Holder}
use Rattle.sl_run_law.proofs.Front.RunsFromFronts.{fronts_are_lawful, run_after}
use Rattle.sl_id_safety.proofs.IdInterface.{stands_in, stands_with}
use Rattle.sl_id_safety.proofs.IdSafety.{evidence_means_over}
use Rattle.sl_id_safety.proofs.OverIsQuiet.{goes_on, stamp_before}
use Rattle.sl_id_safety.proofs.JoinedStand.{joined_stand}
use Rattle.sl_id_safety.specs.JoinedStand.{sector_offset}
use Rattle.sl_run_law.proofs.Course.EntriesAreStamped.{entries_are_stamped}
use Rattle.sl_run_law.specs.Course.CallStamps.{stamp_in}
use Rattle.sl_id_safety.proofs.State.TraceBridge.{is_there, known}
use Rattle.sl_id_safety.proofs.State.CallLaws.{is_place}
use Rattle.sl_id_safety.proofs.State.SessionFacts.{grounds}
use Rattle.sl_id_safety.proofs.State.Sectors.{one_name}
use Rattle.sl_id_safety.specs.State.IdStates.{id_state, name_of}
use Rattle.sl_id_safety.proofs.Reached.IdsAreReached.{ids_are_reached, ids_go_on}
use Rattle.sl_ids.proofs.DerivedLaws.{watchdogs}
use Rattle.sl_ids.proofs.InterfaceLaws.{run_grows}
use Rattle.sl_ids.proofs.WholeRuns.{reached_kept}
use Rattle.sl_ids.specs.Guards.{terms_of}
use Rattle.sl_safety.specs.Resources.Histories.{has_counted_over, is_over_in, joined_step, trace_by}
use Rattle.sl_safety.specs.Resources.HistoryLaws.{history_of_line}
use Rattle.sl_safety.specs.Resources.SentCalls.{holder_of_found, session_of_holder}
use Rattle.sl_run.specs.Runs.{Happening}
use Rattle.sl_run.specs.Safety.{Found, HasJoined, IsSession, LawfulRun, SameId, SessionId, found_generation, is_over, same_lockspace, session_of_world, setting_in, trace_of, world_at}
use Rattle.sl_run.specs.Worlds.{Daemon, Program, Stamp, World, daemons_on, machine_at, world_with}
use Rattle.sl_run.specs.declared.header.Header.{Header}
use Rattle.sl_run.specs.declared.header.LockspaceLine.{LockspaceLine}
use Rattle.sl_safety.proofs.Sessions.EvidenceFronts.{behind_entry, counted_at, counting_begun, ends_by, no_calls_joined, same_ends}
use Rattle.sl_safety.proofs.Sessions.EvidenceJoining.{not_over_joining}
use Rattle.sl_safety.proofs.Sessions.OrderedFronts.{Ended, Ends, FrontAt, Nothing, ended, front_at, fronts_nest, nothing_more, some_steps}
use Rattle.sl_safety.proofs.Sessions.OrderedNames.{IsNamed, JoinedAs, is_over_as, joined_as, joined_at, named}
use Rattle.sl_safety.proofs.Sessions.OrderedOnce.{first_empty}
use Rattle.sl_safety.proofs.Sessions.OrderedStood.{At_first, By_entry, JoinedWhen, found_with, joined_stood, joined_when, step_by, stood_with}
use Rattle.sl_safety.proofs.Sessions.OrderedTraces.{begun_end, joined_end, joined_within, same_length, stamp_of}
use Rattle.sl_safety.specs.Sessions.SessionLaws.{HistoriesHaveTrueEvidence}
use Rattle.sl_run_law.proofs.Sessions.MarksStay.{marks_stay}
use Rattle.sl_run_law.specs.Sessions.SessionLaws.{IsSession as IsSessionOf}
use Rattle.sl_trace.specs.Sessions.{joined_after}
use Rattle.sl_trace.specs.Sightings.{counts_over}
use Rattle.sl_trace.specs.declared.session.Session.{Session}
use Rattle.sl_trace.specs.Traces.{Setting, Trace, same_place}
use Rattle.sl_run.specs.Lawful.{Orderly}
use Rattle.sl_words.proofs.CaseLaws.{one_value, true_is_false}
use Rattle.sl_words.proofs.WordLaws.{some_is_true}
use Rattle.sl_words.specs.Words.{some_is}
use Rattle.std.proofs.Common.{ap, arith, inl, inr, refl, subst, sym, ◌∙◌}
use Rattle.std.proofs.lemmas.Bool.{cases_lt}
use Rattle.std.specs.Prelude.{Contains, List, None, Option, Some, [], is_some, length, option_map, suc, true, ℕ, ◌++◌, ◌+◌, ◌<◌, ◌∷◌, ◌≡◌, ◌≤◌, ◌⊎◌}

-- ---- a session that has joined keeps its generation

same_session_id : (f g : Found) → f.session ≡ g.session → SameId f g
same_session_id f g same =
    (is_place f.session.path f.session.offset g.session.path g.session.offset (ap (λ (s : Session). s.path) same) (ap (λ (s : Session). s.offset) same), ap (λ (s : Session). s.id) same)

generation_stays : (p : Program) (h : Header) (now rest : List Happening) → LawfulRun p h (now ++ rest) → (i : SessionId) (f g : Found) → IsSession (world_at p h now) i f → HasJoined f
    → IsSession (world_at p h (now ++ rest)) i g → HasJoined g → found_generation g ≡ found_generation f
generation_stays p h now rest run i f g its joined also joins =
    let u : World = world_at p h now in
    let w : World = world_at p h (now ++ rest) in
    let front = fronts_are_lawful p h now rest run in
    let s = joined_stand p h now front i f its joined in
    let path : List ℕ = f.session.path in
    let offset : ℕ = sector_offset u f in
    let here = stands_in p h u i f s path offset refl refl in
    let there = stands_with p h now (now ++ rest) f g i (same_session_id f g (sym (goes_on p h now rest run i f g its also).session)) (joined_stand p h (now ++ rest) run i g also joins) in
    let long = watchdogs.long h.timing run.header.timing in
    let before = ids_are_reached p h now path offset front s.place in
    let more = ids_go_on p h now rest path offset run s.place in
    let kept = reached_kept (terms_of h.timing) (id_state u path offset) long before in
    let grown = run_grows (terms_of h.timing) more.0 (id_state u path offset) (id_state w path offset) kept.0 kept.1 more.1 in
    sym there.generation ∙ ((grown.goes (name_of i)).verified here.verified).1 ∙ here.generation

-- ---- joined sessions of one lockspace are of one area

one_area : (p : Program) (h : Header) (xs : List Happening) → LawfulRun p h xs → (i k : SessionId) (f g : Found) → IsSession (world_at p h xs) i f → IsSession (world_at p h xs) k g
    → HasJoined f → HasJoined g → f.session.lockspace ≡ g.session.lockspace → same_lockspace f g ≡ true
one_area p h xs run i k f g its also joined joins lockspace =
    let s = joined_stand p h xs run i f its joined in
    let t = joined_stand p h xs run k g also joins in
    let line = one_name h s.place.lockspace t.place.lockspace run.header s.place.has t.place.has (sym s.names.0 ∙ lockspace ∙ t.names.0) in
    is_place f.session.path f.session.offset g.session.path g.session.offset (s.place.is_path ∙ ap (λ (l : LockspaceLine). l.path) line ∙ sym t.place.is_path)
    (s.names.1 ∙ ap (λ (l : LockspaceLine). l.offset) line ∙ sym t.names.1)

-- ---- the front at which it was counted

-- The session counts the generation as over at a front that has come by step t.
record Evident (p : Program) (h : Header) (xs : List Happening) (i : SessionId) (g : Found) (j n t : ℕ) : Type 0 where
  now : List Happening
  found : Found
  its : IsSession (world_at p h now) i found
  session : found.session ≡ g.session
  counts : counts_over (setting_in found) (trace_of found) found.session j n ≡ true
  since : (v : ℕ) → t ≤ v → (mid : List Happening) × ((front : FrontAt p h xs v) × (front.now ≡ now ++ mid))

-- At the very first.
first_evident : (p : Program) (h : Header) (xs : List Happening) (run : LawfulRun p h xs) → (i : SessionId) (g : Found) → IsSession (world_at p h xs) i g → (j n t : ℕ)
    → counts_over (setting_in g) [] g.session j n ≡ true → Evident p h xs i g j n t
first_evident p h xs run i g its j n t counts =
    let some = no_calls_joined (setting_in g) [] g.session j n refl counts in
    let k = entry_of (joined_after [] g.session) some in
    let zero : k.0 ≡ 0 = none_within k.0 (joined_within [] g.session k.0 k.1) in
    let first : joined_after [] g.session ≡ Some 0 = k.1 ∙ ap (λ m. Some m) zero in
    let later : joined_after (trace_of g) g.session ≡ Some 0 =
    subst (λ es. joined_after es g.session ≡ Some 0) (nothing_more (trace_of g)) (marks_stay.joined (trace_of g) [] g.session 0 first) in
    let step : joined_step g ≡ Some 0 = ap (option_map (step_by g)) later in
    let x = joined_stood p h [] xs run i g its 0 step (omega arith) in
    let on = goes_on p h [] xs run i x.0 g x.1 its in
    let there = is_there (world_at p h []) i x.0 x.1 in
    let empty = first_empty p h i.machine x.0.machine x.0.daemon there.at there.has in
    record {
      now = [];
      found = x.0;
      its = x.1;
      session = sym on.session;
      counts = ap (λ es. counts_over (setting_in x.0) es x.0.session j n) empty.0 ∙ ap (λ s. counts_over (setting_in x.0) [] s j n) (sym on.session)
          ∙ ap (λ st. counts_over st [] g.session j n) (sym on.setting) ∙ counts;
      since = λ v le. let f = front_at p h xs run v in (f.now, (f, refl));
    }
  where
    entry_of : (o : Option ℕ) → is_some o ≡ true → (k : ℕ) × (o ≡ Some k)
    entry_of None some = absurd (true_is_false (sym some))
    entry_of (Some k) some = (k, refl)

    none_within : (k : ℕ) → k ≤ 0 → k ≡ 0
    none_within k le = omega (arith, le)

same_step : (t u : ℕ) → t ≤ u → u ≤ t → t ≡ u
same_step t u p q = omega (arith, p, q)

-- By an entry.
entry_evident : (p : Program) (h : Header) (xs : List Happening) (run : LawfulRun p h xs) → (i : SessionId) (g : Found) → IsSession (world_at p h xs) i g → (j n t : ℕ) (newer past : Trace)
    → trace_of g ≡ newer ++ past → counts_over (setting_in g) past g.session j n ≡ true → (q : ℕ) (s : Stamp) → length past ≡ suc q → stamp_in g.daemon.stamps q ≡ Some s → s.step ≤ t
    → Evident p h xs i g j n t
entry_evident p h xs run i g its j n t newer past whole counts q s long at le =
    let kn = known grounds p h xs run i g its in
    let f = front_at p h xs run s.step in
    let b = behind_entry p h xs run i g its q s at f in
    let d : Daemon = b.0.came.daemon in
    let same : d.trace ≡ past = same_ends b.0.came.newer newer d.trace past (sym b.0.came.trace ∙ whole) (b.1 ∙ sym long) in
    let begun : IsSessionOf (setting_in g) past g.session =
    counting_begun (setting_in g) newer past g.session j n (subst (λ es. Orderly (setting_in g) es) whole kn.lawful) (subst (λ es. IsSessionOf (setting_in g) es g.session) whole kn.its) counts in
    let found : Found = found_with (world_at p h f.now) b.0.machine d g.session in
    record {
      now = f.now;
      found = found;
      its = stood_with p h f.now f.rest f.run i g (subst (λ ys. IsSession (world_at p h ys) i g) f.whole its) b.0 (subst (λ es. IsSessionOf (setting_in g) es g.session) (sym same) begun);
      session = refl;
      counts = ap (λ es. counts_over d.setting es g.session j n) same ∙ ap (λ st. counts_over st past g.session j n) b.0.came.setting ∙ counts;
      since = λ v later. by f v (omega (arith, le, later)) (cases_lt s.step v);
    }
  where
    by : (f : FrontAt p h xs s.step) (v : ℕ) → s.step ≤ v → (s.step < v) ⊎ (v ≤ s.step) → (mid : List Happening) × ((front : FrontAt p h xs v) × (front.now ≡ f.now ++ mid))
    by f v le (inl lt) = let e = front_at p h xs run v in let mid = fronts_nest p h xs s.step v f e lt in (mid.0, (e, mid.1))
    by f v le (inr ge) =
        subst (λ u. (mid : List Happening) × ((front : FrontAt p h xs u) × (front.now ≡ f.now ++ mid))) (same_step s.step v le ge) ([], (f, sym (nothing_more f.now)))

evident : (p : Program) (h : Header) (xs : List Happening) (run : LawfulRun p h xs) → (i : SessionId) (g : Found) → IsSession (world_at p h xs) i g → (o : Holder) (t : ℕ)
    → has_counted_over g o t ≡ true → Evident p h xs i g o.id o.generation t
evident p h xs run i g its o t is =
    let kn = known grounds p h xs run i g its in
    let st : Setting = setting_in g in
    let long = same_length g.daemon.stamps (trace_of g) (entries_are_stamped p h xs run i.machine g.machine g.daemon kn.there.at kn.there.has) in
    let e = ends_by (world_at p h xs).step g.daemon.stamps (trace_of g) t kn.stamps long in
    let c = counted_at st (trace_by g.daemon.stamps (trace_of g) t) g.session o.id o.generation is in
    by long c.past (e.newer ++ c.newer) (e.whole ∙ ap (λ es. e.newer ++ es) c.whole ∙ append_again e.newer c.newer c.past) c.counts
    (λ q lt s at. e.before q s (subst (λ es. q < length es) (sym c.whole) (within c.newer c.past q lt)) at)
  where
    append_again : (a b c : Trace) → a ++ (b ++ c) ≡ (a ++ b) ++ c
    append_again [] b c = refl
    append_again (x ∷ a) b c = ap (λ us. x ∷ us) (append_again a b c)

    within : (a b : Trace) (q : ℕ) → q < length b → q < length (a ++ b)
    within [] b q lt = lt
    within (x ∷ a) b q lt = omega (arith, within a b q lt)

    by : length g.daemon.stamps ≡ length (trace_of g) → (past newer : Trace) → trace_of g ≡ newer ++ past → counts_over (setting_in g) past g.session o.id o.generation ≡ true
        → ((q : ℕ) → q < length past → (s : Stamp) → stamp_in g.daemon.stamps q ≡ Some s → s.step ≤ t) → Evident p h xs i g o.id o.generation t
    by long [] newer whole counts before = first_evident p h xs run i g its o.id o.generation t counts
    by long (x ∷ past) newer whole counts before =
        let less : length past < length (trace_of g) =
        subst (λ es. length past < length es) (sym whole) (within newer (x ∷ past) (length past) (omega arith)) in
        let s = stamp_of g.daemon.stamps (length past) (omega (arith, long, less)) in
        entry_evident p h xs run i g its o.id o.generation t newer (x ∷ past) whole counts (length past) s.0 refl s.1 (before (length past) (omega arith) s.0 s.1)

-- ---- over from there on

-- Where the other has joined it is over.
over_joined : (p : Program) (h : Header) (xs : List Happening) (run : LawfulRun p h xs) → (i k : SessionId) (g later : Found) → IsSession (world_at p h xs) i g → HasJoined g
    → IsSession (world_at p h xs) k later → HasJoined later → g.session.lockspace ≡ later.session.lockspace → (t : ℕ)
    → (e : Evident p h xs i g later.session.id (found_generation later) t) → (m v : ℕ) → joined_step later ≡ Some m → t ≤ v → m ≤ v
    → (front : FrontAt p h xs v) × ((x : Found) × IsSession (world_at p h front.now) k x × HasJoined x × (is_over k x ≡ true))
over_joined p h xs run i k g later its joined also joins lockspace t e m v step le past =
    let s = e.since v le in
    let f : FrontAt p h xs v = s.1.0 in
    let x = joined_at p h xs v f k later also joins m step past in
    let goes : LawfulRun p h (e.now ++ s.0) = subst (λ ys. LawfulRun p h ys) s.1.1 (fronts_are_lawful p h f.now f.rest f.run) in
    let end : IsSession (world_at p h (f.now ++ f.rest)) k later = subst (λ ys. IsSession (world_at p h ys) k later) f.whole also in
    let on = goes_on p h f.now f.rest f.run k x.0 later x.1 end in
    let area : same_lockspace e.found x.0 ≡ true =
    ap (λ (y : Session). same_place y.path y.offset x.0.session.path x.0.session.offset) e.session
    ∙ ap (λ (y : Session). same_place g.session.path g.session.offset y.path y.offset) (sym on.session) ∙ one_area p h xs run i k g later its also joined joins lockspace in
    let over = evidence_means_over p h e.now s.0 goes i k e.found x.0 later.session.id (found_generation later) e.its e.counts
    (subst (λ ys. IsSession (world_at p h ys) k x.0) s.1.1 x.1) x.2 area (ap (λ (y : Session). y.id) (sym on.session))
    (sym (generation_stays p h f.now f.rest f.run k x.0 later x.1 x.2 end joins)) in
    (f, (x.0, x.1, x.2, over))

at_most : (n m s : ℕ) → n < m → m ≤ s + 1 → n ≤ s
at_most n m s p q = omega (arith, p, q)

no_length : (q : ℕ) → 0 ≡ suc q → ⊥
no_length q is = omega (arith, is)

-- It isn't over at the front of the step at which it joins.
alive_at : (p : Program) (h : Header) (xs : List Happening) (run : LawfulRun p h xs) → (k : SessionId) (later : Found) → IsSession (world_at p h xs) k later → (q : ℕ) (s : Stamp)
    → joined_after (trace_of later) later.session ≡ Some (suc q) → stamp_in later.daemon.stamps q ≡ Some s → (f : FrontAt p h xs s.step) → (x : Found) → IsSession (world_at p h f.now) k x
    → is_over k x ≡ true → ⊥
alive_at p h xs run k later also q s joined at f x its over =
    let kn = known grounds p h xs run k later also in
    let b = behind_entry p h xs run k later also q s at f in
    let d : Daemon = b.0.came.daemon in
    let here : LawfulRun p h f.now = fronts_are_lawful p h f.now f.rest f.run in
    let there : joined_after d.trace later.session ≡ Some (suc q) =
    joined_end b.0.came.newer d.trace later.session (suc q) (subst (λ es. joined_after es later.session ≡ Some (suc q)) b.0.came.trace joined) (omega (arith, b.1)) in
    let begun : IsSessionOf (setting_in later) d.trace later.session =
    begun_end (setting_in later) b.0.came.newer d.trace later.session (suc q) (subst (λ es. Orderly (setting_in later) es) b.0.came.trace kn.lawful)
    (subst (λ es. IsSessionOf (setting_in later) es later.session) b.0.came.trace kn.its) there in
    let y : Found = found_with (world_at p h f.now) b.0.machine d later.session in
    let stands : IsSession (world_at p h f.now) k y = stood_with p h f.now f.rest f.run k later (subst (λ ys. IsSession (world_at p h ys) k later) f.whole also) b.0 begun in
    let same : x ≡ y = one_value x y (session_of_world (world_at p h f.now) k) its stands in
    let long = same_length d.stamps d.trace (entries_are_stamped p h f.now here k.machine b.0.machine d b.0.at b.0.came.has) in
    let stamp : stamp_in d.stamps q ≡ Some s =
    sym (stamp_before b.0.came.stamps d.stamps q (omega (arith, long, b.1))) ∙ ap (λ ss. stamp_in ss q) (sym b.0.came.stamped) ∙ at in
    by y d refl refl stands (subst (λ z. is_over k z ≡ true) same over) there b.1 stamp b.0.at b.0.came.has (ended f.now)
  where
    by : (y : Found) (d : Daemon) → y.daemon ≡ d → y.session ≡ later.session → IsSession (world_at p h f.now) k y → is_over k y ≡ true → joined_after d.trace later.session ≡ Some (suc q)
        → length d.trace ≡ suc q → stamp_in d.stamps q ≡ Some s → machine_at (world_at p h f.now) k.machine ≡ Some y.machine → Contains (daemons_on y.machine) d → Ended f.now → ⊥
    by y d daemon session stands over there long stamp at has (Nothing none) =
        let empty = first_empty p h k.machine y.machine d (subst (λ ys. machine_at (world_at p h ys) k.machine ≡ Some y.machine) none at) has in
        no_length q (sym (ap (λ (es : Trace). length es) empty.0) ∙ long)
    by y d daemon session stands over there long stamp at has (Ends front z is) =
        let more : (world_at p h front).step < (world_at p h f.now).step =
        subst (λ (v : World). (world_at p h front).step < v.step) (sym (ap (world_at p h) is ∙ run_after (world_with p h) front (z ∷ []))) (some_steps (world_at p h front) z []) in
        not_over_joining p h front z (subst (λ ys. LawfulRun p h ys) is (fronts_are_lawful p h f.now f.rest f.run)) k y (subst (λ ys. IsSession (world_at p h ys) k y) is stands) q s
        (ap (λ (e : Daemon). joined_after e.trace y.session) daemon ∙ ap (λ u. joined_after d.trace u) session ∙ there) (ap (λ (e : Daemon). length e.trace) daemon ∙ long)
        (ap (λ (e : Daemon). stamp_in e.stamps q) daemon ∙ stamp) (at_most (world_at p h front).step (world_at p h f.now).step s.step more f.begins) over

joins_alive : (p : Program) (h : Header) (xs : List Happening) (run : LawfulRun p h xs) → (k : SessionId) (later : Found) → IsSession (world_at p h xs) k later → (m : ℕ)
    → joined_step later ≡ Some m → 0 < m → (f : FrontAt p h xs m) → (x : Found) → IsSession (world_at p h f.now) k x → is_over k x ≡ true → ⊥
joins_alive p h xs run k later also m step above f x its over =
    let j = joined_when p h xs run k later also m step in
    by j.0 j.1 j.2
  where
    by : (u : ℕ) → joined_after (trace_of later) later.session ≡ Some u → JoinedWhen later u m → ⊥
    by u joined (At_first u0 m0) = omega (arith, above, m0)
    by u joined (By_entry q s u1 within at same) =
        subst (λ n. (e : FrontAt p h xs n) → (y : Found) → IsSession (world_at p h e.now) k y → is_over k y ≡ true → ⊥) same
        (λ e y its over. alive_at p h xs run k later also q s (joined ∙ ap (λ n. Some n) u1) at e y its over) f x its over

pub histories_have_true_evidence : HistoriesHaveTrueEvidence
histories_have_true_evidence p h xs r run there o s t j is joined =
    let w : World = world_at p h xs in
    let i = some_is_true (λ k. some_is (λ f. has_counted_over f s t) (session_of_world w k)) (session_of_holder w r.lockspace o) is in
    let g = some_is_true (λ f. has_counted_over f s t) (session_of_world w i.0) i.2 in
    let a = named w r.lockspace o i.0 i.1 in
    let same : g.0 ≡ a.0 = one_value g.0 a.0 (session_of_world w i.0) g.1 a.1.member.its in
    let b = joined_as w r.lockspace s j joined in
    let counted : has_counted_over a.0 (holder_of_found b.found) t ≡ true =
    subst (λ u. has_counted_over a.0 u t ≡ true) (sym b.named.name) (subst (λ f. has_counted_over f s t ≡ true) same g.2) in
    by i.0 a.0 a.1 b (evident p h xs run i.0 a.0 a.1.member.its (holder_of_found b.found) t counted) (cases_lt t j)
  where
    by : (i : SessionId) (g : Found) → IsNamed (world_at p h xs) r.lockspace o i g → (b : JoinedAs (world_at p h xs) r.lockspace s j)
        → Evident p h xs i g b.found.session.id (found_generation b.found) t → (t < j) ⊎ (j ≤ t) → (history_of_line p h xs r).over s t ≡ true
    by i g a b e (inl lt) =
        let x = over_joined p h xs run i b.session g b.found a.member.its a.member.joined b.named.member.its b.named.member.joined (a.member.lockspace_is ∙ sym b.named.member.lockspace_is) t e j j
        b.step (omega (arith, lt)) (omega arith) in
        absurd (joins_alive p h xs run b.session b.found b.named.member.its j b.step (omega (arith, lt)) x.0 x.1.0 x.1.1 x.1.3)
    by i g a b e (inr le) =
        let x = over_joined p h xs run i b.session g b.found a.member.its a.member.joined b.named.member.its b.named.member.joined (a.member.lockspace_is ∙ sym b.named.member.lockspace_is) t e j t
        b.step (omega arith) le in
        ap (λ v. some_is (is_over_in v) (session_of_holder (world_at p h xs) r.lockspace s)) x.0.is
        ∙ is_over_as (world_at p h xs) (world_at p h x.0.now) r.lockspace s b.session x.1.0 b.named.at x.1.1 x.1.3
