-- A session that is over, and joined at some time of the run, had joined; and what is made in the event that a front ends with is in
-- flight there, so a session that is over there made no write in it.
use Rattle.sl_run_law.proofs.Course.MachinesMirror.{machines_mirror}
use Rattle.sl_run_law.specs.Course.CallStamps.{AnswersAgree, IsAnsweredAs, IsCourseOf}
use Rattle.sl_run_law.proofs.Front.RunsFromFronts.{IsLast, fronts_are_lawful, last_event}
use Rattle.sl_id_safety.proofs.FreeIsLast.{freed_answered}
use Rattle.sl_id_safety.proofs.EndedStayQuiet.{IsQuiet}
use Rattle.sl_id_safety.proofs.OverIsQuiet.{GoesOn, freed_by, goes_on, over_is_quiet}
use Rattle.sl_id_safety.proofs.State.TraceBridge.{IsKnown, known}
use Rattle.sl_id_safety.proofs.State.CallLaws.{lawful_call}
use Rattle.sl_id_safety.proofs.State.PairedLists.{stands, tail_at}
use Rattle.sl_id_safety.proofs.State.SessionFacts.{grounds}
use Rattle.sl_id_safety.proofs.State.Tails.{AreMade, IsMadeAfter, all_made, front_at}
use Rattle.sl_id_safety.specs.State.IdStates.{own_courses}
use Rattle.sl_run_law.proofs.Landing.CallsMadeBefore.{run_made_before}
use Rattle.sl_run_law.proofs.Landing.CallsOfStep.{came}
use Rattle.sl_run.specs.Lawful.{Orderly}
use Rattle.sl_run.specs.LawfulDelta.{LawfulDeltaCall}
use Rattle.sl_run_law.proofs.Place.FoundInLists.{partner}
use Rattle.sl_run_law.proofs.Place.Looks.{stands as standing_joined}
use Rattle.sl_words.proofs.Lists.{any_of, find_inside, kept_inside}
use Rattle.sl_run.specs.Runs.{Happening}
use Rattle.sl_run.specs.Safety.{Found, HasJoined, IsSession, LawfulRun, SessionId, free_landed, has_write_in_flight, is_course_of, is_over, setting_in, trace_of, was_reset, world_at}
use Rattle.sl_run.specs.Worlds.{Course, Dropped, Fate, In_flight, Landed, Machine, Program, Stamp, Torn, World, is_in_flight, is_of_running, is_open, is_write_course, machine_at}
use Rattle.sl_run.specs.declared.header.Header.{Header}
use Rattle.sl_run_law.proofs.Sessions.MarksStay.{marks_stay, refused_apart}
use Rattle.sl_run_law.specs.Sessions.SessionLaws.{IsSession as IsSessionOf}
use Rattle.sl_trace.specs.Sessions.{calls_of, ended_after, free_write, is_free_purpose, joined_after, refused_after, removed_after, stage_of}
use Rattle.sl_trace.specs.declared.session.Session.{Session}
use Rattle.sl_trace.specs.declared.stage.Stage.TheVariants.{Standing}
use Rattle.sl_trace.specs.Traces.{Setting, Submitted, Trace}
use Rattle.sl_trace.specs.declared.effects.Call.{Call}
use Rattle.sl_trace.specs.declared.effects.Purpose.TheVariants.{Leaving}
use Rattle.sl_trace.specs.declared.effects.Purpose.{Purpose}
use Rattle.sl_words.proofs.CaseLaws.{no_value, none_some, true_is_false}
use Rattle.std.proofs.lemmas.Bool.{cases_lt}
use Rattle.std.proofs.Common.{ap, arith, inl, inr, refl, subst, sym, ◌∙◌}
use Rattle.std.specs.Prelude.{Bool, Contains, List, None, Option, Some, [], false, is_none, is_some, not, true, ℕ, ◌&&◌, ◌++◌, ◌<◌, ◌||◌, ◌∷◌, ◌≡◌, ◌≤◌, ◌⊎◌}

-- ---- who is over had joined

pub free_stands : (st : Setting) (t : Trace) (s : Session) (n : Submitted) (p : Purpose) → LawfulDeltaCall st t s n p → is_free_purpose p ≡ true → stage_of t s ≡ Standing
free_stands st t s n (Leaving j) law is = law.standing
free_stands st t s n p law is = absurd (true_is_false (sym is))

abbrev ended_by : Option ℕ → Option ℕ → Option ℕ → Option ℕ
ended_by joined removed refused = elim joined [ Some k ↦ removed | None ↦ refused ]

-- One that has ended and hasn't joined is refused.
refused_if : (es : Trace) (s : Session) (k : ℕ) → joined_after es s ≡ None → ended_after es s ≡ Some k → refused_after es s ≡ Some k
refused_if es s k none is = ap (λ o. ended_by o (removed_after es s) (refused_after es s)) (sym none) ∙ is

-- Its free tells that it had joined.
freed_joined : (st : Setting) (es : Trace) (s : Session) → Orderly st es → IsSessionOf st es s → (m : Submitted) → free_write (calls_of es s) ≡ Some m → (k : ℕ) × (joined_after es s ≡ Some k)
freed_joined st es s h its m is =
    let found = find_inside (λ (y : Submitted). is_free_purpose y.call.purpose) (calls_of es s) m is in
    let at = stands (calls_of es s) m found.0 in
    let d : IsMadeAfter es s m at.older = tail_at (IsMadeAfter es s) at.newer m at.older (subst (λ ms. AreMade es s ms) at.whole (all_made es s)) in
    let k = standing_joined (front_at d) s (free_stands st (front_at d) s _ m.call.purpose (lawful_call st es s m at.older d h its).law found.1) in
    (k.0, ap (λ us. joined_after us s) d.whole ∙ marks_stay.joined d.later (d.entry ∷ d.past) s k.0 k.1)

not_joined : (o : Option ℕ) → o ≡ None → is_some o ≡ true → ⊥
not_joined o none some = true_is_false (sym some ∙ ap is_some none)

quiet_joined : (st : Setting) (newer es : Trace) (s : Session) → Orderly st es → IsSessionOf st es s → IsQuiet es s → is_some (joined_after (newer ++ es) s) ≡ true → joined_after es s ≡ None → ⊥
quiet_joined st newer es s h its (inl ended) later none =
    not_joined (joined_after (newer ++ es) s) (refused_apart (newer ++ es) s ended.0 (marks_stay.refused newer es s ended.0 (refused_if es s ended.0 none ended.1))) later
quiet_joined st newer es s h its (inr freed) later none = let k = freed_joined st es s h its freed.0 freed.1 in no_value k.0 (joined_after es s) k.1 none

-- One that is over at a front, and has joined in the run, had joined at the front.
pub over_had_joined : (p : Program) (h : Header) (now rest : List Happening) → LawfulRun p h (now ++ rest) → (i : SessionId) (f g : Found) → IsSession (world_at p h now) i f
    → IsSession (world_at p h (now ++ rest)) i g → HasJoined g → is_over i f ≡ true → HasJoined f
over_had_joined p h now rest run i f g its also joins over =
    let on = goes_on p h now rest run i f g its also in
    by on (subst (λ s. is_some (joined_after (on.newer ++ trace_of f) s) ≡ true) on.session (subst (λ t. is_some (joined_after t g.session) ≡ true) on.trace joins)) on.running
    (joined_after (trace_of f) f.session) refl
  where
    by : (on : GoesOn p h now rest i f g) → is_some (joined_after (on.newer ++ trace_of f) f.session) ≡ true → (f.machine.daemon ≡ Some f.daemon) ⊎ (trace_of g ≡ trace_of f) → (o : Option ℕ)
        → joined_after (trace_of f) f.session ≡ o → HasJoined f
    by on later runs (Some k) is = ap is_some is
    by on later (inr same) None none =
        absurd (not_joined (joined_after (on.newer ++ trace_of f) f.session) (ap (λ t. joined_after t f.session) (sym on.trace ∙ same) ∙ none) later)
    by on later (inl runs) None none =
        absurd (quiet_joined (setting_in f) on.newer (trace_of f) f.session on.before.lawful on.before.its
        (over_is_quiet i f (machines_mirror p h now (fronts_are_lawful p h now rest run) i.machine f.machine on.before.there.at) runs over) later none)

-- ---- what was made in the last event is in flight

pub record IsNew (c : Course) : Type 0 where
  pub answered : c.answered ≡ None
  pub fate : c.fate ≡ In_flight

made_earlier : (s w n : ℕ) → n ≤ s → w < n → s ≡ w → ⊥
made_earlier s w n le lt is = omega (arith, le, lt, is)

pub new_flies : (p : Program) (h : Header) (now : List Happening) (x : Happening) → LawfulRun p h (now ++ x ∷ []) → (m : ℕ) (b : Machine) (c : Course)
    → machine_at (world_at p h (now ++ x ∷ [])) m ≡ Some b → Contains b.calls c → (world_at p h now).step ≤ c.made.step → IsNew c
new_flies p h now x run m b c at has le =
    let w : World = world_at p h now in
    let l : IsLast p h now x = last_event p h now x run in
    let from = came w x.0 l.effects m b l.may (subst (λ v. machine_at v m ≡ Some b) l.after at) in
    elim (from.passage.stepped.back c has) as (λ z. IsNew c) [
      | inl s ↦ let t = from.passage.turned.back s.0 s.1 in
          absurd (made_earlier c.made.step t.0.made.step w.step le (run_made_before p h now l.before m from.before t.0 from.at t.1).0
          (ap (λ (y : Stamp). y.step) (s.2.made ∙ t.2.made)))
      | inr made ↦ subst IsNew made.is (record { answered = refl; fate = refl })
    ]

-- ---- so a session that is over there made no write in it

over_or : (free ended reset flying : Bool) → (free || (ended || reset) && not flying) ≡ true → (free ≡ true) ⊎ (flying ≡ false)
over_or true ended reset flying is = inl refl
over_or false ended reset false is = inr refl
over_or false true reset true is = absurd (true_is_false (sym is))
over_or false false true true is = absurd (true_is_false (sym is))
over_or false false false true is = absurd (true_is_false (sym is))

flies_by : (mine writes runs : Bool) (answered : Option Stamp) (fate : Fate) → mine ≡ true → writes ≡ true → answered ≡ None → fate ≡ In_flight
    → (mine && writes && (is_none answered && (runs || (writes && is_none answered && is_in_flight fate)))) ≡ true
flies_by true true true None In_flight a b c d = refl
flies_by true true false None In_flight a b c d = refl
flies_by true true runs None Landed a b c d = absurd cc
flies_by true true runs None Torn a b c d = absurd cc
flies_by true true runs None Dropped a b c d = absurd cc
flies_by true true runs (Some s) fate a b c d = absurd (none_some s (sym c))
flies_by true false runs answered fate a b c d = absurd (true_is_false (sym b))
flies_by false writes runs answered fate a b c d = absurd (true_is_false (sym a))

pub over_none_new : (p : Program) (h : Header) (now : List Happening) (x : Happening) → LawfulRun p h (now ++ x ∷ []) → (i : SessionId) (f : Found)
    → IsSession (world_at p h (now ++ x ∷ [])) i f → is_over i f ≡ true → (c : Course) → Contains (own_courses i f.machine) c → is_write_course c ≡ true
    → is_free_purpose c.call.purpose ≡ false → c.made.step < (world_at p h now).step
over_none_new p h now x run i f its over c has writes other = by (known grounds p h (now ++ x ∷ []) run i f its) (cases_lt c.made.step (world_at p h now).step) where
  freed : IsKnown (world_at p h (now ++ x ∷ [])) i f → IsNew c → free_landed i f ≡ true → ⊥
  freed kn new free =
      let m = freed_by (free_write (calls_of (trace_of f) f.session)) _ free in
      let n = partner (IsCourseOf f.daemon) (own_courses i f.machine) (calls_of (trace_of f) f.session) c kn.pairs has in
      let a = freed_answered (setting_in f) (trace_of f) f.session kn.lawful kn.its m.0 m.1 n.0 n.1 (ap (λ (y : Call). is_free_purpose y.purpose) n.2.call ∙ other) in
      let told : IsAnsweredAs f.daemon c a.0 = subst (λ o. AnswersAgree f.daemon c o) a.1 n.2.answers in
      no_value told.stamp c.answered told.answered new.answered

  flies : IsNew c → has_write_in_flight i f.machine ≡ false → ⊥
  flies new none =
      let mine = kept_inside (is_course_of i) f.machine.calls c has in
      true_is_false (sym (any_of (λ (y : Course). is_course_of i y && is_write_course y && is_open f.machine y) f.machine.calls c
      (flies_by (is_course_of i c) (is_write_course c) (is_of_running f.machine c) c.answered c.fate mine.1 writes new.answered new.fate) mine.0) ∙ none)

  by : IsKnown (world_at p h (now ++ x ∷ [])) i f → (c.made.step < (world_at p h now).step) ⊎ ((world_at p h now).step ≤ c.made.step) → c.made.step < (world_at p h now).step
  by kn (inl lt) = lt
  by kn (inr le) =
      let new = new_flies p h now x run i.machine f.machine c kn.there.at (kept_inside (is_course_of i) f.machine.calls c has).0 le in
      elim (over_or (free_landed i f) (is_some (ended_after (trace_of f) f.session)) (was_reset f) (has_write_in_flight i f.machine) over) as (λ z. c.made.step < (world_at p h now).step) [
        | inl free ↦ absurd (freed kn new free)
        | inr none ↦ absurd (flies new none)
      ]
