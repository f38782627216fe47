-- Each session of the daemon that takes an entry goes through it.
use Rattle.sl_run_law.proofs.Course.Daemons.{every_each}
use Rattle.sl_run_law.proofs.Course.PairwiseLists.{pairs_length}
use Rattle.sl_run_law.proofs.Course.ResetsBeforeNow.{step_resets}
use Rattle.sl_run_law.proofs.Course.EntriesAreStamped.{entries_are_stamped}
use Rattle.sl_run_law.specs.Course.Mirrors.{Mirrors}
use Rattle.sl_run_law.specs.Course.CourseLaws.{MachinesMirror}
use Rattle.sl_run_law.specs.Course.CallStamps.{IsStampOf}
use Rattle.sl_run_law.proofs.Front.RunsFromFronts.{last_event}
use Rattle.sl_run_law.proofs.Front.JoinedLists.{placed_at}
use Rattle.sl_id_safety.proofs.State.TraceBridge.{IsKnown, known}
use Rattle.sl_id_safety.proofs.State.FindingFrames.{found_on, found_then, is_found, never_reset, session_on}
use Rattle.sl_id_safety.proofs.State.SessionFacts.{grounds}
use Rattle.sl_id_safety.proofs.Steps.EventFrames.{StayDistinct, after_event, entry_of, step_sector}
use Rattle.sl_id_safety.proofs.Steps.OtherSessions.{IsOfEntry}
use Rattle.sl_id_safety.proofs.Steps.OwnCalls.{IsFresh, Through, fresh_of, own_after}
use Rattle.sl_id_safety.proofs.Steps.StepFrames.{IsEntry, IsNewCourse, entered, own_found, step_runs}
use Rattle.sl_id_safety.specs.Steps.EventParts.{between}
use Rattle.sl_run_law.specs.Landing.Landings.{LandingsAreWritten}
use Rattle.sl_run_law.proofs.Moment.MomentsFollowSteps.{Follows, follows, keeps, kept_before}
use Rattle.sl_run_law.proofs.Moment.Stamps.{made_is_stamp}
use Rattle.sl_run_law.specs.Moment.MomentsFollowSteps.{IsKept, Of_sample, Of_stamp}
use Rattle.sl_words.proofs.Lists.{kept_inside}
use Rattle.sl_words.proofs.Numbers.{number_itself}
use Rattle.sl_run.specs.EventChanges.{after_step}
use Rattle.sl_run.specs.Inputs.{machine_of}
use Rattle.sl_run.specs.Runs.{Happening}
use Rattle.sl_run.specs.Safety.{Found, IsSession, LawfulRun, SessionId, is_course_of, session_of_world, world_at}
use Rattle.sl_run.specs.Worlds.{Course, Daemon, Machine, Program, Stamp, World, machine_at, resets_after, stamp_now}
use Rattle.sl_run.specs.declared.header.Header.{Header}
use Rattle.sl_run_law.specs.FatesStay.{Every}
use Rattle.sl_run_law.proofs.Sessions.FreedAreSilent.{freed_are_silent}
use Rattle.sl_run_law.proofs.Sessions.EndedAreSilent.{ended_are_silent}
use Rattle.sl_trace.specs.Sessions.{session_numbered}
use Rattle.sl_trace.specs.declared.session.Session.{Session}
use Rattle.sl_trace.specs.declared.effects.Call.{Call}
use Rattle.sl_words.proofs.CaseLaws.{is_false, not_both}
use Rattle.sl_words.proofs.WordLaws.{and_true}
use Rattle.sl_words.specs.Words.{some_is}
use Rattle.std.proofs.Common.{ap, arith, inl, inr, refl, subst, sym, ◌∙◌}
use Rattle.std.proofs.lemmas.Bool.{eqb-true}
use Rattle.std.specs.Prelude.{List, Some, false, filter, nat_lt, slice_get, true, [], ℕ, ◌++◌, ◌<◌, ◌==◌, ◌∷◌, ◌≡◌}

-- ---- what was kept

-- What was kept before the step of an entry came before it.
pub kept_early : (p : Program) (h : Header) (now : List Happening) (x : Happening) → LawfulRun p h (now ++ x ∷ []) → (s m : ℕ)
    → IsKept (between (world_at p h now) x.0) s m → s < (between (world_at p h now) x.0).step
kept_early p h now x run s m is =
    let last = last_event p h now x run in
    let w : World = world_at p h now in
    let k = keeps p h now last.before in
    let f : Follows w.header.timing.rho w (between w x.0) = follows w x.0 [] k.counted last.may in
    elim (kept_before w.header.timing.rho w (between w x.0) s m f is) as (λ z. s < (between w x.0).step) [
      | inl old ↦ omega (arith, (k.past s m old).0, f.step)
      | inr new ↦ new.1
    ]

-- ---- calls that aren't made

-- A new call of the session.
abbrev IsNewOwn : SessionId → Stamp → ℕ → List Call → Course → Type 0
IsNewOwn i now number calls c = IsNewCourse now number calls c × (is_course_of i c ≡ true)

none_new : (i : SessionId) (now : Stamp) (number : ℕ) (calls : List Call) (xs : List Course)
    → ((k : ℕ) (c : Call) → slice_get calls k ≡ Some c → (c.session == i.number) ≡ false) → Every (IsNewOwn i now number calls) xs → xs ≡ []
none_new i now number calls [] never each = refl
none_new i now number calls (x ∷ xs) never each =
    let n = each.0.0 in
    let at = placed_at calls n.call n.has in
    let mine = and_true (x.daemon == i.daemon) (x.call.session == i.number) each.0.1 in
    absurd (not_both (x.call.session == i.number) mine.1 (ap (λ c. c.call.session == i.number) n.is ∙ never at.0 n.call at.1))

-- ---- one session

abbrev pub stamp_of : {p : Program} {h : Header} {now : List Happening} {x : Happening} → IsEntry p h now x → Stamp
stamp_of {p = p} {h = h} {now = now} {x = x} e = stamp_now (between (world_at p h now) x.0) e.machine

-- The session before, and after.
abbrev before : {p : Program} {h : Header} {now : List Happening} {x : Happening} → IsEntry p h now x → Session → Found
before e s = record { machine = e.machine; daemon = e.daemon; session = s; now = (stamp_of e).moment }

abbrev pub stepped : {p : Program} {h : Header} {now : List Happening} {x : Happening} → IsEntry p h now x → Machine
stepped e = after_step (stamp_of e) e.input e.effects e.machine

abbrev pub after : {p : Program} {h : Header} {now : List Happening} {x : Happening} → IsEntry p h now x → Session → Found
after e s = record { machine = stepped e; daemon = entered (stamp_of e) e.input e.effects e.machine e.daemon; session = s; now = (stamp_of e).moment }

running_is : (a : Machine) (d : Daemon) → a.daemon ≡ Some d → some_is (λ x. x.number == d.number) a.daemon ≡ true
running_is a d runs = ap (λ o. some_is (λ x. x.number == d.number) o) runs ∙ number_itself d.number

up_by : (a : Machine) (d : Daemon) → Mirrors a → a.daemon ≡ Some d → resets_after a d.begun.step ≡ []
up_by a d m runs = m.kept d (m.running d runs)

-- It goes through the entry.
through_by : StayDistinct → MachinesMirror → LandingsAreWritten → (p : Program) (h : Header) (now : List Happening) (x : Happening)
    (run : LawfulRun p h (now ++ x ∷ [])) (e : IsEntry p h now x) (i : SessionId) (s : Session) → i.machine ≡ machine_of x.0
    → session_numbered e.daemon.setting e.daemon.trace s.number ≡ Some s → IsSession (after_event p h now x) i (after e s) → Through p h (now ++ x ∷ []) (between (world_at p h now) x.0) i (before e s) (after e s)
through_by distinct mirror written p h now x run e i s here had its =
    let u : World = between (world_at p h now) x.0 in
    let v : World = after_event p h now x in
    let a : Machine = e.machine in
    let d : Daemon = e.daemon in
    let b : Machine = stepped e in
    let g : Found = after e s in
    let k : IsKnown v i g = known grounds p h (now ++ x ∷ []) run i g its in
    let own = own_after i (stamp_of e) e.input e.effects a d e.runs in
    let still = step_runs (stamp_of e) e.input e.effects a d e.runs in
    let at : machine_at v (machine_of x.0) ≡ Some b = e.later in
    let up : resets_after b d.begun.step ≡ [] = up_by b g.daemon (mirror p h (now ++ x ∷ []) run (machine_of x.0) b at) still in
    let stamped = entries_are_stamped p h (now ++ x ∷ []) run i.machine b g.daemon k.there.at k.there.has in
    record {
      run = run;
      its = its;
      layout = (step_sector distinct mirror written p h now x run [] 0).layout;
      stamp = stamp_of e;
      entry = entry_of e.input e.effects a;
      session = refl;
      setting = refl;
      began = refl;
      trace = refl;
      stamps = refl;
      even = pairs_length IsStampOf d.stamps d.trace stamped.1;
      newer = own.newer;
      calls = own.same;
      each = every_each (IsNewOwn i (stamp_of e) d.number e.effects.calls) (IsFresh (stamp_of e)) own.newer
          (λ c n. fresh_of (stamp_of e) d.number e.effects.calls c n.0) own.each;
      ran = running_is a d e.runs;
      runs = running_is b g.daemon still;
      was_up = never_reset (before e s) (sym (resets_same d.begun.step) ∙ up);
      is_up = never_reset g up;
      number = k.there.daemon;
      had = had;
      silent = λ n ended j c at. is_false (c.session == s.number) (λ mine.
          ended_are_silent d.setting (entry_of e.input e.effects a) d.trace s k.lawful k.its n ended j c at (eqb-true c.session s.number mine));
      freed = λ n m joined free j c at. is_false (c.session == s.number) (λ mine.
          freed_are_silent d.setting (entry_of e.input e.effects a) d.trace s k.lawful k.its n joined m free j c at (eqb-true c.session s.number mine));
      none_new = λ never. none_new i (stamp_of e) d.number e.effects.calls own.newer
          (λ j c at. ap (λ n. c.session == n) (sym k.there.number) ∙ never j c at) own.each;
      older = λ c has. kept_early p h now x run c.made.step c.made.moment
          (Of_stamp (machine_of x.0) a c.made e.at (made_is_stamp a c (kept_inside (is_course_of i) a.calls c has).0) refl refl);
      early = λ c y has in_it. kept_early p h now x run y.step y.moment
          (Of_sample (machine_of x.0) a c y e.at (kept_inside (is_course_of i) a.calls c has).0 in_it refl refl);
    }
  where
    resets_same : (n : ℕ) → resets_after (stepped e) n ≡ resets_after e.machine n
    resets_same n = ap (λ rs. filter (λ r. nat_lt n r.step) rs) (step_resets (stamp_of e) e.input e.effects e.machine)

-- A session of the daemon before the entry, with that after it.
pub record Carried (p : Program) (h : Header) (now : List Happening) (x : Happening) (i : SessionId) (f : Found) : Type 0 where
  pub found : Found
  pub at : session_of_world (after_event p h now x) i ≡ Some found
  pub through : Through p h (now ++ x ∷ []) (between (world_at p h now) x.0) i f found

before_is : {p : Program} {h : Header} {now : List Happening} {x : Happening} (e : IsEntry p h now x) (f : Found) → f.machine ≡ e.machine → f.daemon ≡ e.daemon
    → f.now ≡ (stamp_of e).moment → before e f.session ≡ f
before_is e f machine daemon moment =
    ap (λ a. let y : Found = record { machine = a; daemon = e.daemon; session = f.session; now = (stamp_of e).moment } in y) (sym machine)
    ∙ ap (λ d. let y : Found = record { machine = f.machine; daemon = d; session = f.session; now = (stamp_of e).moment } in y) (sym daemon)
    ∙ ap (λ n. let y : Found = record f { now = n } in y) (sym moment)

-- Each of them goes through it.
pub carried : StayDistinct → MachinesMirror → LandingsAreWritten → (p : Program) (h : Header) (now : List Happening) (x : Happening)
    → LawfulRun p h (now ++ x ∷ []) → (e : IsEntry p h now x) (i : SessionId) → IsOfEntry e i → (f : Found)
    → session_of_world (between (world_at p h now) x.0) i ≡ Some f → Carried p h now x i f
carried distinct mirror written p h now x run e i is f at =
    let u : World = between (world_at p h now) x.0 in
    let v : World = after_event p h now x in
    let on : session_on u.moment i e.machine ≡ Some f = sym (found_on u i e.machine (ap (machine_at u) is.0 ∙ e.at)) ∙ at in
    let own = own_found u.moment (stamp_of e) e.input e.effects e.machine e.daemon i f e.runs is.1 on in
    let its : session_of_world v i ≡ Some (after e f.session) = found_then u v i (stepped e) e.moment (ap (machine_at v) is.0 ∙ e.later) ∙ own.1 in
    let k : IsKnown v i (after e f.session) = known grounds p h (now ++ x ∷ []) run i (after e f.session) its in
    let had : session_numbered e.daemon.setting e.daemon.trace f.session.number ≡ Some f.session =
    ap (λ n. session_numbered e.daemon.setting e.daemon.trace n) k.there.number
    ∙ subst (λ d. session_numbered d.setting d.trace i.number ≡ Some f.session) own.0 (is_found u.moment i e.machine f on).session in
    record {
      found = after e f.session;
      at = its;
      through = subst (λ k. Through p h (now ++ x ∷ []) u i k (after e f.session)) (before_is e f (is_found u.moment i e.machine f on).machine own.0 (is_found u.moment i e.machine f on).now)
          (through_by distinct mirror written p h now x run e i f.session is.0 had its);
    }
