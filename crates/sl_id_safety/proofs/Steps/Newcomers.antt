-- A session that begins with an entry has done nothing.
use Rattle.sl_run_law.proofs.Course.Daemons.{every_has}
use Rattle.sl_run_law.proofs.Course.PairwiseLists.{pairs_length}
use Rattle.sl_run_law.proofs.Course.EntriesAreStamped.{entries_are_stamped}
use Rattle.sl_run_law.specs.Course.CallStamps.{IsStampOf, stamp_in}
use Rattle.sl_run_law.proofs.Front.JoinedLists.{contains_append}
use Rattle.sl_id_safety.proofs.State.BeginsWhereEnded.{BeganAt, late_call}
use Rattle.sl_id_safety.proofs.State.TraceBridge.{IsKnown, known}
use Rattle.sl_id_safety.proofs.State.FindingFrames.{find_passes, found_on, found_then, session_on, session_with}
use Rattle.sl_id_safety.proofs.State.CallLaws.{own_call}
use Rattle.sl_id_safety.proofs.State.SessionFacts.{grounds}
use Rattle.sl_id_safety.proofs.State.SampleFrames.{showed}
use Rattle.sl_id_safety.specs.State.IdStates.{blank, deciding_sample, has_begun, is_sector_of, join_course, own_courses, session_named_so, standing_by, standing_of, watched_bytes}
use Rattle.sl_id_safety.proofs.Steps.EntryCarries.{after, kept_early, stamp_of, stepped}
use Rattle.sl_id_safety.proofs.Steps.RenewalsAboveClaims.{shown_course}
use Rattle.sl_id_safety.proofs.Steps.EventFrames.{after_event, entry_of}
use Rattle.sl_id_safety.proofs.Steps.Frees.{not_less}
use Rattle.sl_id_safety.proofs.Steps.OtherSessions.{IsOfEntry}
use Rattle.sl_id_safety.proofs.Steps.OwnCalls.{IsKept, closed, fresh_of, kept, own_after}
use Rattle.sl_id_safety.proofs.Steps.OwnSessions.{NewAreBlank}
use Rattle.sl_id_safety.proofs.Steps.ShownStays.{first_there, past_none}
use Rattle.sl_id_safety.proofs.Steps.StepFrames.{IsEntry, IsNewCourse, entered, step_runs}
use Rattle.sl_id_safety.proofs.Steps.IdsStayStill.{with_running}
use Rattle.sl_id_safety.specs.Steps.EventParts.{between}
use Rattle.sl_ids.specs.State.{Session as IdSession}
use Rattle.sl_run_law.proofs.Moment.Stamps.{made_is_stamp}
use Rattle.sl_run_law.specs.Moment.MomentsFollowSteps.{Of_stamp}
use Rattle.sl_words.proofs.Lists.{contains_none, in_map, kept_inside}
use Rattle.sl_run.specs.Inputs.{machine_of}
use Rattle.sl_run.specs.Runs.{Happening}
use Rattle.sl_run.specs.Safety.{Found, IsSession, LawfulRun, SessionId, is_course_of, session_of_world, setting_in, trace_of, world_at}
use Rattle.sl_run.specs.Worlds.{Course, Daemon, Machine, Program, Sampling, Stamp, World, daemon_numbered, machine_at}
use Rattle.sl_run.specs.declared.header.Header.{Header}
use Rattle.sl_trace.specs.Sessions.{begun_in, is_join_call, session_numbered, sessions}
use Rattle.sl_trace.specs.declared.session.Session.{Session}
use Rattle.sl_trace.specs.Traces.{Setting, Trace}
use Rattle.sl_trace.specs.declared.effects.Entry.{Entry}
use Rattle.sl_trace.specs.declared.effects.JoinStep.TheVariants.{DecidingRead}
use Rattle.sl_run_law.proofs.Watchdog.TraceNumbers.{begun_is, either_place}
use Rattle.sl_words.proofs.CaseLaws.{none_some, some_value}
use Rattle.std.proofs.Common.{ap, arith, inl, inr, refl, subst, sym, ◌∙◌}
use Rattle.std.specs.Prelude.{Bool, Contains, List, None, Option, Some, cond, false, find, is_none, is_some, length, map, option_map, slice_get, true, [], ℕ, ◌&&◌, ◌++◌, ◌+◌, ◌==◌, ◌||◌, ◌∷◌, ◌≡◌, ◌≤◌, ◌⊎◌}

-- ---- where it began

-- A session that began with the newest entry.
record BeganNow (st : Setting) (e : Entry) (es : Trace) (n : ℕ) (s : Session) : Type 0 where
  began : BeganAt st (e ∷ es) n s
  past : began.past ≡ es
  job : is_none s.job ≡ false

began_by : (st : Setting) (e : Entry) (es : Trace) (n : ℕ) (s : Session) → session_numbered st es n ≡ None
    → (session_numbered st es n ≡ Some s) ⊎ ((k : ℕ) × (n ≡ length (sessions st es) + k) × (slice_get (begun_in st es (length (sessions st es)) e) k ≡ Some s))
    → BeganNow st e es n s
began_by st e es n s none (inl old) = absurd (none_some s (sym none ∙ old))
began_by st e es n s none (inr new) =
    let one = begun_is st es (length (sessions st es)) new.0 e s new.2 in
    let b : BeganAt st (e ∷ es) n s =
    record {
      later = [];
      entry = e;
      past = es;
      whole = refl;
      number = omega (arith, new.1, one.0);
      begun = subst (λ j. slice_get (begun_in st es (length (sessions st es)) e) j ≡ Some s) one.0 new.2;
    } in
    record { began = b; past = refl; job = ap (λ o. is_none o) one.1.job.1 }

began_now : (st : Setting) (e : Entry) (es : Trace) (n : ℕ) (s : Session) → session_numbered st es n ≡ None → session_numbered st (e ∷ es) n ≡ Some s
    → BeganNow st e es n s
began_now st e es n s none at = began_by st e es n s none (either_place (sessions st es) (begun_in st es (length (sessions st es)) e) n s at)

-- ---- its calls

late_by : (s : Stamp) (ss : List Stamp) (k : ℕ) (x : Stamp) (b : Bool) → (k == length ss) ≡ b → length ss ≤ k
    → elim b as (λ z. Option Stamp) [ true ↦ Some s | false ↦ stamp_in ss k ] ≡ Some x → x ≡ s
late_by s ss k x true is le h = some_value x s (sym h)
late_by s ss k x false is le h = absurd (none_some x (sym (past_none ss k le) ∙ h))

-- A call that was made not before the newest entry was made in it.
late_stamp : (s : Stamp) (ss : List Stamp) (k : ℕ) (x : Stamp) → length ss ≤ k → stamp_in (s ∷ ss) k ≡ Some x → x ≡ s
late_stamp s ss k x le h = late_by s ss k x (k == length ss) refl le h

-- It has not decided.
not_decided : (p : Program) (h : Header) (now : List Happening) (x : Happening) (run : LawfulRun p h (now ++ x ∷ [])) (e : IsEntry p h now x) (i : SessionId) (s : Session)
    → i.machine ≡ machine_of x.0 → IsSession (after_event p h now x) i (after e s)
    → BeganNow e.daemon.setting (entry_of e.input e.effects e.machine) e.daemon.trace i.number s → (o : Option Sampling) → deciding_sample i (after e s) ≡ o → o ≡ None
not_decided p h now x run e i s here its began None is = refl
not_decided p h now x run e i s here its began (Some y) is =
    let v : World = after_event p h now x in
    let g : Found = after e s in
    let k : IsKnown v i g = known grounds p h (now ++ x ∷ []) run i g its in
    let c = shown_course g (watched_bytes i g) (join_course i DecidingRead g.machine) y is in
    let first = (showed g (watched_bytes i g) c.0 y c.2).sample in
    let r = find_passes (λ z. is_join_call DecidingRead z.call.purpose) (own_courses i g.machine) c.0 c.1 in
    let o = own_call v i g c.0 k r.there in
    let late = late_call (setting_in g) (trace_of g) i.number g.session _ _ o.placed.made o.lawful k.there.number began.began in
    let stamped = entries_are_stamped p h (now ++ x ∷ []) run i.machine g.machine g.daemon k.there.at k.there.has in
    let even : length e.daemon.stamps ≡ length e.daemon.trace = pairs_length IsStampOf e.daemon.stamps e.daemon.trace stamped.1 in
    let past : length began.began.past ≡ length e.daemon.trace = ap (λ es. length es) began.past in
    let made : c.0.made ≡ stamp_of e =
    late_stamp (stamp_of e) e.daemon.stamps o.placed.pairs.here.at c.0.made (omega (arith, late, even, past)) o.placed.pairs.this.made in
    let own = own_after i (stamp_of e) e.input e.effects e.machine e.daemon e.runs in
    let f : Course → Course = closed (stamp_of e) e.input in
    elim (contains_append own.newer (map f (own_courses i e.machine)) c.0 (subst (λ cs. Contains cs c.0) own.same r.there)) as (λ z. Some y ≡ None) [
      | inl new ↦ let n = every_has (λ z. IsNewCourse (stamp_of e) e.daemon.number e.effects.calls z × (is_course_of i z ≡ true)) own.newer c.0 own.each new in
          absurd (contains_none y (subst (λ ys. Contains ys y) (fresh_of (stamp_of e) e.daemon.number e.effects.calls c.0 n.0).samples (first_there c.0.samples y first)))
      | inr old ↦ let m = in_map f (own_courses i e.machine) c.0 old in
          let keep : IsKept m.0 (f m.0) = kept (stamp_of e) e.input m.0 in
          absurd (not_less m.0.made (stamp_of e) (sym keep.made ∙ ap (λ z. z.made) m.2 ∙ made)
          (kept_early p h now x run m.0.made.step m.0.made.moment
          (Of_stamp (machine_of x.0) e.machine m.0.made e.at (made_is_stamp e.machine m.0 (kept_inside (is_course_of i) e.machine.calls m.0 m.1).0) refl refl)))
    ]

-- ---- so it stands blank

daemon_here : (n : ℕ) (a : Machine) (d : Daemon) → a.daemon ≡ Some d → (d.number == n) ≡ true → daemon_numbered a n ≡ Some d
daemon_here n a d runs same =
    ap (λ o. find (λ x. x.number == n) (with_running o a.ended)) runs ∙ ap (λ b. cond b (Some d) (find (λ x. x.number == n) a.ended)) same

no_session : (n : ℕ) (i : SessionId) (a : Machine) (d : Daemon) (o : Option Session) → session_numbered d.setting d.trace i.number ≡ o
    → option_map (λ s. let y : Found = record { machine = a; daemon = d; session = s; now = n } in y) o ≡ None → o ≡ None
no_session n i a d None is h = refl
no_session n i a d (Some s) is h = absurd (none_some (let y : Found = record { machine = a; daemon = d; session = s; now = n } in y) (sym h))

blank_by : (w : World) (path : List ℕ) (offset : ℕ) (i : SessionId) (g : Found) (b c : Bool) → c ≡ false
    → elim (b && c) as (λ z. IdSession) [ false ↦ blank | true ↦ standing_of w path offset i g ] ≡ blank
blank_by w path offset i g true c h = ap (λ z. elim z as (λ y. IdSession) [ false ↦ blank | true ↦ standing_of w path offset i g ]) h
blank_by w path offset i g false c h = refl

new_blank : (p : Program) (h : Header) (now : List Happening) (x : Happening) (path : List ℕ) (offset : ℕ) (run : LawfulRun p h (now ++ x ∷ []))
    → (e : IsEntry p h now x) (i : SessionId) → IsOfEntry e i → session_numbered e.daemon.setting e.daemon.trace i.number ≡ None
    → (o : Option Session)
    → session_numbered e.daemon.setting (entry_of e.input e.effects e.machine ∷ e.daemon.trace) i.number ≡ o
    → session_of_world (after_event p h now x) i ≡ option_map (after e) o
    → standing_by (after_event p h now x) path offset i (option_map (after e) o) ≡ blank
new_blank p h now x path offset run e i is none None at there = refl
new_blank p h now x path offset run e i is none (Some s) at there =
    let v : World = after_event p h now x in
    let g : Found = after e s in
    let b = began_now e.daemon.setting (entry_of e.input e.effects e.machine) e.daemon.trace i.number s none at in
    blank_by v path offset i g (is_sector_of v.layout path offset s) (has_begun i g)
    (ap (λ z. z || is_some (deciding_sample i g)) b.job
    ∙ ap (λ z. is_some z) (not_decided p h now x run e i s is.0 there b (deciding_sample i g) refl))

pub new_are_blank : NewAreBlank
new_are_blank p h now x path offset run e n is at =
    let i : SessionId = session_named_so n in
    let u : World = between (world_at p h now) x.0 in
    let v : World = after_event p h now x in
    let d : Daemon = entered (stamp_of e) e.input e.effects e.machine e.daemon in
    let before : session_on u.moment i e.machine ≡ None = sym (found_on u i e.machine (ap (machine_at u) is.0 ∙ e.at)) ∙ at in
    let none : session_numbered e.daemon.setting e.daemon.trace i.number ≡ None =
    no_session u.moment i e.machine e.daemon (session_numbered e.daemon.setting e.daemon.trace i.number) refl
    (ap (session_with u.moment i e.machine) (sym (daemon_here i.daemon e.machine e.daemon e.runs is.1)) ∙ before) in
    let found : session_of_world v i ≡ option_map (after e) (session_numbered d.setting d.trace i.number) =
    found_then u v i (stepped e) e.moment (ap (machine_at v) is.0 ∙ e.later)
    ∙ ap (session_with u.moment i (stepped e)) (daemon_here i.daemon (stepped e) d (step_runs (stamp_of e) e.input e.effects e.machine e.daemon e.runs) is.1) in
    ap (standing_by v path offset i) found
    ∙ new_blank p h now x path offset run e i is none (session_numbered d.setting d.trace i.number) refl found
