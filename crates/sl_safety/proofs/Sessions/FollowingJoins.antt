-- The front of a run at which a session first stands joined. It is that of the run's beginning, or the entry by which the session joined
-- is of the event before it, and so is of the step right before it.
use Rattle.sl_run_law.proofs.Course.MachinesKeep.{Goes_on, was_before}
use Rattle.sl_run_law.proofs.Course.MatchedCall.{newest_stamp, stamp_stays}
use Rattle.sl_run_law.proofs.Course.MachinesMirror.{machines_mirror}
use Rattle.sl_run_law.proofs.Course.PairwiseLists.{pairs_length}
use Rattle.sl_run_law.proofs.Course.EntriesAreStamped.{entries_are_stamped}
use Rattle.sl_run_law.specs.Course.CallStamps.{IsStampOf, stamp_in}
use Rattle.sl_run_law.proofs.Front.RunsFromFronts.{run_keeps}
use Rattle.sl_id_safety.proofs.StoodBefore.{StoodBefore, found_with, stood_before}
use Rattle.sl_id_safety.proofs.FrontsOfSteps.{step_next}
use Rattle.sl_id_safety.proofs.OverIsQuiet.{goes_on}
use Rattle.sl_id_safety.proofs.State.TraceBridge.{IsThere, is_there}
use Rattle.sl_id_safety.proofs.State.FindingFrames.{found_on, session_with}
use Rattle.sl_id_safety.proofs.State.LaterFrames.{numbered_found}
use Rattle.sl_safety.specs.Resources.Histories.{joined_step}
use Rattle.sl_run.specs.Runs.{Happening}
use Rattle.sl_run.specs.Safety.{Found, HasJoined, IsSession, LawfulRun, SessionId, session_of_world, trace_of, world_at}
use Rattle.sl_run.specs.Worlds.{Machine, Program, Stamp, daemons_on}
use Rattle.sl_run.specs.declared.header.Header.{Header}
use Rattle.sl_run_law.proofs.Sessions.MarksStay.{marks_stay}
use Rattle.sl_trace.specs.Sessions.{given_session, is_join_done, joined_after, session_numbered}
use Rattle.sl_trace.specs.declared.session.Session.{Session}
use Rattle.sl_trace.specs.Traces.{Replied, Setting, Trace, reply_in, reply_to}
use Rattle.sl_trace.specs.declared.effects.Entry.{Entry}
use Rattle.sl_trace.specs.declared.effects.JobReply.{JobReply}
use Rattle.sl_trace.specs.declared.input.Given.{Given}
use Rattle.sl_words.proofs.CaseLaws.{none_some, one_value, some_value, true_is_false}
use Rattle.sl_words.proofs.WordLaws.{choose_some}
use Rattle.sl_words.specs.Words.{choose}
use Rattle.std.proofs.Common.{ap, arith, inl, inr, refl, subst, sym, tests, ◌∙◌}
use Rattle.std.specs.List.{enumerate_from}
use Rattle.std.specs.Option.{option_map_or}
use Rattle.std.specs.Prelude.{Bool, List, None, Option, Some, [], false, find, is_some, length, map, option_and_then, option_map, slice_get, true, ℕ, ◌++◌, ◌+◌, ◌-◌, ◌==◌, ◌∷◌, ◌≡◌, ◌≤◌, ◌⊎◌}
use Rattle.sl_safety.proofs.Sessions.FollowingDaemons.{Blank, Came, Entered, Unchanged, came}

-- ---- the entry by which a session joins

abbrev done_at : Replied → Option ℕ
done_at r = choose (is_join_done r.reply) (r.at + 1)

new_reply : (es : Trace) (e : Entry) (j : ℕ) (r : Replied) → reply_in j es e ≡ Some r → r.at ≡ length es
new_reply es e j r is = by (find (λ (a : JobReply). a.job == j) e.effects.replies) is where
  by : (o : Option JobReply) → option_map (λ (a : JobReply). let q : Replied = record { at = length es; reply = a.reply } in q) o ≡ Some r → r.at ≡ length es
  by None h = absurd (none_some r h)
  by (Some a) h = ap (λ (q : Replied). q.at) (sym (some_value _ r h))

replied : (e : Entry) (past : Trace) (j n : ℕ) (o : Option Replied) → option_and_then done_at (elim o as (λ z. Option Replied) [ Some q ↦ Some q | None ↦ reply_in n past e ]) ≡ Some j
    → option_and_then done_at o ≡ None → j ≡ length past + 1
replied e past j n (Some r) now before = absurd (none_some j (sym before ∙ now))
replied e past j n None now before = by (reply_in n past e) refl now where
  by : (o : Option Replied) → reply_in n past e ≡ o → option_and_then done_at o ≡ Some j → j ≡ length past + 1
  by None is h = absurd (none_some j h)
  by (Some r) is h = sym (choose_some (is_join_done r.reply) (r.at + 1) j h).1 ∙ ap (λ k. k + 1) (new_reply past e n r is)

-- One that has joined with an entry, and had not before, has joined with the newest.
joined_last : (e : Entry) (past : Trace) (s : Session) (j : ℕ) → joined_after (e ∷ past) s ≡ Some j → joined_after past s ≡ None → j ≡ length past + 1
joined_last e past s j joined never = by s.job joined never where
  by : (o : Option ℕ) → elim o as (λ z. Option ℕ) [ None ↦ Some 0 | Some n ↦ option_and_then done_at (reply_to (e ∷ past) n) ] ≡ Some j
      → elim o as (λ z. Option ℕ) [ None ↦ Some 0 | Some n ↦ option_and_then done_at (reply_to past n) ] ≡ None → j ≡ length past + 1
  by None now before = absurd (none_some 0 (sym before))
  by (Some n) now before = replied e past j n (reply_to past n) now before

-- ---- where a session stands after an event

-- A session that has joined by the newest of its daemon's entries, which came right before a front.
pub record HasEntry (p : Program) (h : Header) (now : List Happening) (f : Found) : Type 0 where
  pub entries : ℕ
  pub joined : joined_after (trace_of f) f.session ≡ Some (entries + 1)
  pub stamp : Stamp
  pub at : stamp_in f.daemon.stamps entries ≡ Some stamp
  pub step : (world_at p h now).step ≡ stamp.step + 1

-- Before an event a session had not joined.
abbrev pub NotJoined : Program → Header → List Happening → SessionId → Type 0
NotJoined p h now k = (f : Found) → IsSession (world_at p h now) k f → HasJoined f → ⊥

no_session : (st : Setting) (es : Trace) (n : ℕ) (s : Session) → es ≡ [] → st.given ≡ [] → session_numbered st es n ≡ Some s → ⊥
no_session st es n s none given at =
    none_some s (sym (ap (λ ts. session_numbered st ts n) none ∙ ap (λ (gs : List Given). slice_get (map given_session (enumerate_from 0 gs)) n) given) ∙ at)

some_joined : (es : Trace) (s : Session) (k : ℕ) → joined_after es s ≡ Some k → is_some (joined_after es s) ≡ true
some_joined es s k is = ap (λ (o : Option ℕ). is_some o) is

-- Where it stood joined in what came before the newest entry, it stood so before the event.
stood_joined : (p : Program) (h : Header) (now : List Happening) (k : SessionId) (g : Found) (past : Trace) (e : Entry) (j : ℕ) → joined_after past g.session ≡ Some j
    → StoodBefore p h now k g past e → NotJoined p h now k → ⊥
stood_joined p h now k g past e j joined b never = by b.place where
  by : ((b.daemon.trace ≡ past) × (trace_of g ≡ e ∷ past)) ⊎ ((l : Trace) × (b.daemon.trace ≡ l ++ e ∷ past)) → ⊥
  by (inl same) = never (found_with (world_at p h now) b.machine b.daemon g.session) b.its (some_joined b.daemon.trace g.session j (ap (λ es. joined_after es g.session) same.0 ∙ joined))
  by (inr more) =
      never (found_with (world_at p h now) b.machine b.daemon g.session) b.its
      (some_joined b.daemon.trace g.session j
      (ap (λ es. joined_after es g.session) more.1 ∙ marks_stay.joined more.0 (e ∷ past) g.session j (marks_stay.joined (e ∷ []) past g.session j joined)))

entry_step : (now w s : ℕ) → now ≡ w + 2 → s ≡ w + 1 → now ≡ s + 1
entry_step now w s p q = omega (arith, p, q)

joins_now : (p : Program) (h : Header) (now : List Happening) (x : Happening) → LawfulRun p h (now ++ x ∷ []) → (k : SessionId) (g : Found) → IsSession (world_at p h (now ++ x ∷ [])) k g
    → (j : ℕ) → joined_after (trace_of g) g.session ≡ Some j → NotJoined p h now k → HasEntry p h (now ++ x ∷ []) g
joins_now p h now x run k g its j joined never =
    let t = is_there (world_at p h (now ++ x ∷ [])) k g its in
    let b = was_before p h now x run k.machine g.machine t.at in
    by b.0 b.1 t (came p h now x k.machine b.0 g.machine g.daemon b.1 t.has)
  where
    newest : (e : Entry) (past : Trace) (s : Stamp) (ss : List Stamp) → g.daemon.trace ≡ e ∷ past → g.daemon.stamps ≡ s ∷ ss → s.step ≡ (world_at p h now).step + 1
        → IsThere (world_at p h (now ++ x ∷ [])) k g → (o : Option ℕ) → joined_after past g.session ≡ o → HasEntry p h (now ++ x ∷ []) g
    newest e past s ss trace stamps step t (Some i) was =
        absurd (stood_joined p h now k g past e i was (stood_before p h now x run k g its [] e past trace i was) never)
    newest e past s ss trace stamps step t None was =
        let even : length (s ∷ ss) ≡ length (e ∷ past) =
        ap (λ (ts : List Stamp). length ts) (sym stamps)
        ∙ pairs_length IsStampOf g.daemon.stamps g.daemon.trace (entries_are_stamped p h (now ++ x ∷ []) run k.machine g.machine g.daemon t.at t.has)
        ∙ ap (λ (es : Trace). length es) trace in
        record {
          entries = length past;
          joined = joined ∙ ap (λ n. Some n) (joined_last e past g.session j (ap (λ es. joined_after es g.session) (sym trace) ∙ joined) was);
          stamp = s;
          at = ap (λ ts. stamp_in ts (length past)) stamps ∙ newest_stamp s ss (length past) (omega (arith, even));
          step = entry_step (world_at p h (now ++ x ∷ [])).step (world_at p h now).step s.step (step_next p h now x run) step;
        }

    by : (a : Machine) → Goes_on p h now x k.machine a g.machine → IsThere (world_at p h (now ++ x ∷ [])) k g → Came (world_at p h now) (daemons_on a) g.daemon
        → HasEntry p h (now ++ x ∷ []) g
    by a o t (Entered e past s ss trace stamps step) = newest e past s ss trace stamps step t (joined_after past g.session) refl
    by a o t (Blank trace given) = absurd (no_session g.daemon.setting g.daemon.trace k.number g.session trace given t.session)
    by a o t (Unchanged has) =
        absurd (never (found_with (world_at p h now) a g.daemon g.session)
        (found_on (world_at p h now) k a o.at
        ∙ ap (session_with (world_at p h now).moment k a) (numbered_found (daemons_on a) g.daemon k.daemon (machines_mirror p h now o.before k.machine a o.at).numbered has t.daemon)
        ∙ ap (λ q. option_map (found_with (world_at p h now) a g.daemon) q) t.session)
        (some_joined g.daemon.trace g.session j joined))

-- ---- the front

-- The first front at which a session stands joined.
pub record FirstJoined (p : Program) (h : Header) (xs : List Happening) (k : SessionId) : Type 0 where
  pub now : List Happening
  pub rest : List Happening
  pub whole : xs ≡ now ++ rest
  pub found : Found
  pub its : IsSession (world_at p h now) k found
  pub joined : HasJoined found
  pub begins : (now ≡ []) ⊎ ((before : List Happening) × (last : Happening) × (now ≡ before ++ last ∷ []) × NotJoined p h before k × HasEntry p h now found)

abbrev FirstJoins : Program → Header → List Happening → Type 0
FirstJoins p h xs = (k : SessionId) (g : Found) → IsSession (world_at p h xs) k g → HasJoined g → FirstJoined p h xs k

pub append_more : (now rest : List Happening) (x : Happening) → (now ++ rest) ++ x ∷ [] ≡ now ++ (rest ++ x ∷ [])
append_more [] rest x = refl
append_more (y ∷ now) rest x = ap (λ xs. y ∷ xs) (append_more now rest x)

pub nothing_more : (now : List Happening) → now ++ [] ≡ now
nothing_more [] = refl
nothing_more (y ∷ now) = ap (λ xs. y ∷ xs) (nothing_more now)

some_by : (o : Option ℕ) → is_some o ≡ true → (k : ℕ) × (o ≡ Some k)
some_by None is = absurd (true_is_false (sym is))
some_by (Some k) is = (k, refl)

joins_next : (p : Program) (h : Header) (now : List Happening) (x : Happening) → LawfulRun p h (now ++ x ∷ []) → FirstJoins p h now → FirstJoins p h (now ++ x ∷ [])
joins_next p h now x run each k g its joined = by (session_of_world (world_at p h now) k) refl where
  new : NotJoined p h now k → FirstJoined p h (now ++ x ∷ []) k
  new never =
      let j = some_by (joined_after (trace_of g) g.session) joined in
      record {
        now = now ++ x ∷ [];
        rest = [];
        whole = sym (nothing_more (now ++ x ∷ []));
        found = g;
        its = its;
        joined = joined;
        begins = inr (now, x, refl, never, joins_now p h now x run k g its j.0 j.1 never);
      }

  old : FirstJoined p h now k → FirstJoined p h (now ++ x ∷ []) k
  old f =
      record {
        now = f.now;
        rest = f.rest ++ x ∷ [];
        whole = ap (λ ys. ys ++ x ∷ []) f.whole ∙ append_more f.now f.rest x;
        found = f.found;
        its = f.its;
        joined = f.joined;
        begins = f.begins;
      }

  stood : (f : Found) → session_of_world (world_at p h now) k ≡ Some f → (b : Bool) → is_some (joined_after (trace_of f) f.session) ≡ b → FirstJoined p h (now ++ x ∷ []) k
  stood f at true is = old (each k f at is)
  stood f at false is =
      new (λ y there yes. true_is_false (sym (subst (λ (z : Found). HasJoined z) (one_value y f (session_of_world (world_at p h now) k) there at) yes) ∙ is))

  by : (o : Option Found) → session_of_world (world_at p h now) k ≡ o → FirstJoined p h (now ++ x ∷ []) k
  by None none = new (λ f there yes. none_some f (sym none ∙ there))
  by (Some f) at = stood f at (is_some (joined_after (trace_of f) f.session)) refl

joins_first : (p : Program) (h : Header) → FirstJoins p h []
joins_first p h k g its joined = record { now = []; rest = []; whole = refl; found = g; its = its; joined = joined; begins = inl refl }

pub first_joined : (p : Program) (h : Header) (xs : List Happening) → LawfulRun p h xs → (k : SessionId) (g : Found) → IsSession (world_at p h xs) k g → HasJoined g → FirstJoined p h xs k
first_joined p h xs run = run_keeps p h (FirstJoins p h) (record { first = joins_first p h; next = joins_next p h }) xs run

-- ---- its step

pub stamps_stay : (newer older : List Stamp) (i : ℕ) (s : Stamp) → stamp_in older i ≡ Some s → stamp_in (newer ++ older) i ≡ Some s
stamps_stay [] older i s at = at
stamps_stay (t ∷ newer) older i s at = stamp_stays t (newer ++ older) i s (stamps_stay newer older i s at)

abbrev step_after : List Stamp → ℕ → ℕ
step_after ss k = elim (k == 0) [ true ↦ 0 | false ↦ option_map_or (λ s. s.step) (stamp_in ss (k - 1)) 0 ]

above_none : (n : ℕ) → (n + 1 == 0) ≡ false
above_none n = grind (arith, tests)

one_off : (n : ℕ) → n + 1 - 1 ≡ n
one_off n = omega arith

after_is : (ss : List Stamp) (n : ℕ) (s : Stamp) → stamp_in ss n ≡ Some s → step_after ss (n + 1) ≡ s.step
after_is ss n s at =
    ap (λ b. elim b as (λ z. ℕ) [ true ↦ 0 | false ↦ option_map_or (λ (t : Stamp). t.step) (stamp_in ss (n + 1 - 1)) 0 ]) (above_none n)
    ∙ ap (λ i. option_map_or (λ (t : Stamp). t.step) (stamp_in ss i) 0) (one_off n) ∙ ap (λ o. option_map_or (λ (t : Stamp). t.step) o 0) at

front_early : (w s n : ℕ) → w ≡ s + 1 → s ≡ n → w ≤ n + 1
front_early w s n p q = omega (arith, p, q)

begins_early : (n : ℕ) → 1 ≤ n + 1
begins_early n = omega arith

-- The front comes right after the entry by which the session joined.
pub joined_early : (p : Program) (h : Header) (xs : List Happening) → LawfulRun p h xs → (k : SessionId) (g : Found) → IsSession (world_at p h xs) k g → (f : FirstJoined p h xs k)
    → (n : ℕ) → joined_step g ≡ Some n → (world_at p h f.now).step ≤ n + 1
joined_early p h xs run k g its f n is = by f.begins where
  entered : HasEntry p h f.now f.found → (world_at p h f.now).step ≤ n + 1
  entered e =
      let on = goes_on p h f.now f.rest (subst (λ ys. LawfulRun p h ys) f.whole run) k f.found g f.its (subst (λ ys. IsSession (world_at p h ys) k g) f.whole its) in
      let joined : joined_after (trace_of g) g.session ≡ Some (e.entries + 1) =
      ap (λ s. joined_after (trace_of g) s) on.session ∙ ap (λ es. joined_after es f.found.session) on.trace
      ∙ marks_stay.joined on.newer (trace_of f.found) f.found.session (e.entries + 1) e.joined in
      let at : stamp_in g.daemon.stamps e.entries ≡ Some e.stamp =
      ap (λ ss. stamp_in ss e.entries) on.stamped ∙ stamps_stay on.stamps f.found.daemon.stamps e.entries e.stamp e.at in
      front_early (world_at p h f.now).step e.stamp.step n e.step
      (some_value e.stamp.step n
      (ap (λ z. Some z) (sym (after_is g.daemon.stamps e.entries e.stamp at)) ∙ sym (ap (λ (o : Option ℕ). option_map (step_after g.daemon.stamps) o) joined) ∙ is))

  by : (f.now ≡ []) ⊎ ((before : List Happening) × (last : Happening) × (f.now ≡ before ++ last ∷ []) × NotJoined p h before k × HasEntry p h f.now f.found)
      → (world_at p h f.now).step ≤ n + 1
  by (inl none) = subst (λ ys. (world_at p h ys).step ≤ n + 1) (sym none) (begins_early n)
  by (inr later) = entered later.4
