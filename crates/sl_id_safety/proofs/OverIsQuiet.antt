-- A session that is over makes no call any more.
use Rattle.sl_id_safety.proofs.State.FindingFrames.{never_reset}
use Rattle.sl_run_law.proofs.Course.MachinesMirror.{machines_mirror}
use Rattle.sl_run_law.proofs.Course.EntriesAreStamped.{entries_are_stamped}
use Rattle.sl_run_law.specs.Course.Mirrors.{Mirrors}
use Rattle.sl_run_law.specs.Course.CallStamps.{IsCourseOf, IsStamped, stamp_in}
use Rattle.sl_run_law.proofs.Front.RunsFromFronts.{fronts_are_lawful}
use Rattle.sl_run_law.proofs.Front.JoinedLists.{contains_right}
use Rattle.sl_id_safety.proofs.EndedStayQuiet.{IsQuiet, quiet_stays}
use Rattle.sl_id_safety.specs.Interface.{OverAreSilent}
use Rattle.sl_id_safety.proofs.State.TraceBridge.{IsKnown, known}
use Rattle.sl_id_safety.proofs.State.LaterFrames.{FoundLater, found_later, numbered_found}
use Rattle.sl_id_safety.proofs.State.SessionFacts.{grounds}
use Rattle.sl_id_safety.proofs.State.Tails.{AreLater, IsLater, all_still}
use Rattle.sl_id_safety.proofs.State.TracesInTime.{stamp_below}
use Rattle.sl_id_safety.specs.State.IdStates.{own_courses}
use Rattle.sl_run.specs.Lawful.{Orderly}
use Rattle.sl_run_law.proofs.Place.FoundInLists.{partner}
use Rattle.sl_run_law.proofs.Place.Looks.{made_below}
use Rattle.sl_words.proofs.Lists.{contains_cases, contains_more, kept_inside}
use Rattle.sl_words.proofs.Numbers.{less_is_other}
use Rattle.sl_words.proofs.Options.{some_of}
use Rattle.sl_run.specs.Runs.{Happening}
use Rattle.sl_run.specs.Safety.{Found, HasJoined, IsSession, LawfulRun, SessionId, free_landed, has_write_in_flight, is_over, session_of_world, setting_in, trace_of, was_reset, world_at}
use Rattle.sl_run.specs.Worlds.{Daemon, Machine, Program, Stamp, daemon_numbered, daemons_on}
use Rattle.sl_run.specs.declared.header.Header.{Header}
use Rattle.sl_trace.specs.Sessions.{calls_of, ended_after, free_write, is_call_of, joined_after}
use Rattle.sl_trace.specs.Traces.{Submitted, Trace, submitted}
use Rattle.sl_run_law.proofs.Watchdog.Stamps.{same_length}
use Rattle.sl_words.proofs.CaseLaws.{one_value, true_is_false}
use Rattle.sl_words.specs.Words.{some_is}
use Rattle.std.proofs.Common.{ap, arith, inl, inr, refl, subst, sym, ◌∙◌}
use Rattle.std.specs.Prelude.{Bool, Contains, List, None, Option, Some, [], false, is_some, length, not, true, ℕ, ◌&&◌, ◌++◌, ◌<◌, ◌||◌, ◌∷◌, ◌≡◌, ◌⊎◌}

-- ---- a daemon that has ended stays as it was

-- How a daemon stands: it runs, or has ended.
stands_by : (a : Machine) (d : Daemon) (o : Option Daemon) → a.daemon ≡ o → Contains (elim o as (λ z. List Daemon) [ None ↦ a.ended | Some x ↦ x ∷ a.ended ]) d
    → (a.daemon ≡ Some d) ⊎ Contains a.ended d
stands_by a d None is has = inr has
stands_by a d (Some x) is has =
    elim (contains_cases x a.ended d has) as (λ z. (a.daemon ≡ Some d) ⊎ Contains a.ended d) [ inl here ↦ inl (is ∙ ap (λ y. Some y) here) | inr old ↦ inr old ]

has_by : (a : Machine) (d : Daemon) (o : Option Daemon) → a.daemon ≡ o → Contains a.ended d → Contains (elim o as (λ z. List Daemon) [ None ↦ a.ended | Some x ↦ x ∷ a.ended ]) d
has_by a d None is has = has
has_by a d (Some x) is has = contains_more x a.ended d has

ended_is_there : (a : Machine) (d : Daemon) → Contains a.ended d → Contains (daemons_on a) d
ended_is_there a d has = has_by a d a.daemon refl has

-- A session later, with its daemon.
pub record GoesOn (p : Program) (h : Header) (now rest : List Happening) (i : SessionId) (f g : Found) : Type 0 where
  pub before : IsKnown (world_at p h now) i f
  pub after : IsKnown (world_at p h (now ++ rest)) i g
  pub session : g.session ≡ f.session
  pub setting : setting_in g ≡ setting_in f
  pub newer : Trace
  pub trace : trace_of g ≡ newer ++ trace_of f
  pub stamps : List Stamp
  pub stamped : g.daemon.stamps ≡ stamps ++ f.daemon.stamps
  pub running : (f.machine.daemon ≡ Some f.daemon) ⊎ (trace_of g ≡ trace_of f)

still_ended : (p : Program) (h : Header) (now rest : List Happening) → LawfulRun p h (now ++ rest) → (i : SessionId) (f : Found) (l : FoundLater (world_at p h (now ++ rest)) i f)
    → IsKnown (world_at p h (now ++ rest)) i l.found → f.daemon.number ≡ i.daemon → Contains f.machine.ended f.daemon → l.found.daemon ≡ f.daemon
still_ended p h now rest run i f l kn number has =
    let b : Machine = l.found.machine in
    let there : Contains (daemons_on b) f.daemon =
    ended_is_there b f.daemon (subst (λ ds. Contains ds f.daemon) (sym l.tracks.ended.same) (contains_right l.tracks.ended.newer f.machine.ended f.daemon has)) in
    let found = numbered_found (daemons_on b) f.daemon i.daemon (machines_mirror p h (now ++ rest) run i.machine b kn.there.at).numbered there number in
    one_value l.found.daemon f.daemon (daemon_numbered b i.daemon) kn.there.found found

pub goes_on : (p : Program) (h : Header) (now rest : List Happening) → LawfulRun p h (now ++ rest) → (i : SessionId) (f g : Found) → IsSession (world_at p h now) i f
    → IsSession (world_at p h (now ++ rest)) i g → GoesOn p h now rest i f g
goes_on p h now rest run i f g its also =
    let l = found_later machines_mirror p h now rest run i f its in
    let same : l.found ≡ g = one_value l.found g (session_of_world (world_at p h (now ++ rest)) i) l.at also in
    let kn = known grounds p h now (fronts_are_lawful p h now rest run) i f its in
    let after = known grounds p h (now ++ rest) run i l.found l.at in
    subst (λ (x : Found). GoesOn p h now rest i f x) same
    (record {
      before = kn;
      after = after;
      session = l.session;
      setting = l.goes.setting;
      newer = l.goes.trace.newer;
      trace = l.goes.trace.same;
      stamps = l.goes.stamps.newer;
      stamped = l.goes.stamps.same;
      running = by l kn after (stands_by f.machine f.daemon f.machine.daemon refl kn.there.has);
    })
  where
    by : (l : FoundLater (world_at p h (now ++ rest)) i f) → IsKnown (world_at p h now) i f → IsKnown (world_at p h (now ++ rest)) i l.found
        → (f.machine.daemon ≡ Some f.daemon) ⊎ Contains f.machine.ended f.daemon → (f.machine.daemon ≡ Some f.daemon) ⊎ (trace_of l.found ≡ trace_of f)
    by l kn after (inl runs) = inl runs
    by l kn after (inr ended) = inr (ap (λ (d : Daemon). d.trace) (still_ended p h now rest run i f l after kn.there.daemon ended))

-- ---- one that is over is quiet

-- A daemon that runs was not reset.
pub not_reset : (f : Found) → Mirrors f.machine → f.machine.daemon ≡ Some f.daemon → was_reset f ≡ true → ⊥
not_reset f mirror runs reset = true_is_false (sym reset ∙ never_reset f (mirror.kept f.daemon (mirror.running f.daemon runs)))

pub over_cases : (free ended reset flying : Bool) → (free || (ended || reset) && not flying) ≡ true → (free ≡ true) ⊎ ((ended ≡ true) × (flying ≡ false)) ⊎ (reset ≡ true)
over_cases true ended reset flying is = inl refl
over_cases false true reset true is = absurd (true_is_false (sym is))
over_cases false true reset false is = inr (inl (refl, refl))
over_cases false false true flying is = inr (inr refl)
over_cases false false false flying is = absurd (true_is_false (sym is))

pub freed_by : (o : Option Submitted) (p : Submitted → Bool) → some_is p o ≡ true → (m : Submitted) × (o ≡ Some m)
freed_by None p is = absurd (true_is_false (sym is))
freed_by (Some m) p is = (m, refl)

quiet_by : (i : SessionId) (f : Found) → Mirrors f.machine → f.machine.daemon ≡ Some f.daemon
    → (free_landed i f ≡ true) ⊎ ((is_some (ended_after (trace_of f) f.session) ≡ true) × (has_write_in_flight i f.machine ≡ false)) ⊎ (was_reset f ≡ true)
    → IsQuiet (trace_of f) f.session
quiet_by i f mirror runs (inl free) = inr (freed_by (free_write (calls_of (trace_of f) f.session)) _ free)
quiet_by i f mirror runs (inr (inl ended)) = inl (some_of (ended_after (trace_of f) f.session) ended.0)
quiet_by i f mirror runs (inr (inr reset)) = absurd (not_reset f mirror runs reset)

-- A running daemon's session that is over is quiet.
pub over_is_quiet : (i : SessionId) (f : Found) → Mirrors f.machine → f.machine.daemon ≡ Some f.daemon → is_over i f ≡ true → IsQuiet (trace_of f) f.session
over_is_quiet i f mirror runs over =
    quiet_by i f mirror runs (over_cases (free_landed i f) (is_some (ended_after (trace_of f) f.session)) (was_reset f) (has_write_in_flight i f.machine) over)

-- So its calls stay, but for answers.
pub calls_stay : (p : Program) (h : Header) (now rest : List Happening) → LawfulRun p h (now ++ rest) → (i : SessionId) (f g : Found) → GoesOn p h now rest i f g
    → HasJoined f → is_over i f ≡ true → AreLater (calls_of (trace_of g) g.session) (calls_of (trace_of f) f.session)
calls_stay p h now rest run i f g on joined over = by on.running where
  by : (f.machine.daemon ≡ Some f.daemon) ⊎ (trace_of g ≡ trace_of f) → AreLater (calls_of (trace_of g) g.session) (calls_of (trace_of f) f.session)
  by (inr same) =
      subst (λ ms. AreLater ms (calls_of (trace_of f) f.session)) (ap (λ es. calls_of es f.session) (sym same) ∙ ap (λ s. calls_of (trace_of g) s) (sym on.session))
      (all_still (calls_of (trace_of f) f.session))
  by (inl runs) =
      let k = some_of (joined_after (trace_of f) f.session) joined in
      let quiet = over_is_quiet i f (machines_mirror p h now (fronts_are_lawful p h now rest run) i.machine f.machine on.before.there.at) runs over in
      let lawful : Orderly (setting_in f) (on.newer ++ trace_of f) = subst (λ st. Orderly st (on.newer ++ trace_of f)) on.setting (subst (λ es. Orderly (setting_in g) es) on.trace on.after.lawful) in
      subst (λ ms. AreLater ms (calls_of (trace_of f) f.session)) (ap (λ es. calls_of es f.session) (sym on.trace) ∙ ap (λ s. calls_of (trace_of g) s) (sym on.session))
      (quiet_stays (setting_in f) on.newer (trace_of f) f.session k.0 lawful on.before.its k.1 quiet)

-- ---- stamps

longer : (newer ss : List Stamp) (k : ℕ) → k < length ss → k < length (newer ++ ss)
longer [] ss k lt = lt
longer (x ∷ newer) ss k lt = omega (arith, longer newer ss k lt)

-- An old entry has an old stamp.
pub stamp_before : (newer ss : List Stamp) (k : ℕ) → k < length ss → stamp_in (newer ++ ss) k ≡ stamp_in ss k
stamp_before [] ss k lt = refl
stamp_before (x ∷ newer) ss k lt =
    ap (λ b. elim b as (λ z. Option Stamp) [ true ↦ Some x | false ↦ stamp_in (newer ++ ss) k ]) (less_is_other k (length (newer ++ ss)) (longer newer ss k lt))
    ∙ stamp_before newer ss k lt

-- What an entry of before did later was done before.
pub old_stamp : (p : Program) (h : Header) (now rest : List Happening) → LawfulRun p h (now ++ rest) → (i : SessionId) (f g : Found) (on : GoesOn p h now rest i f g) (k : ℕ) (s : Stamp)
    → k < length (trace_of f) → stamp_in g.daemon.stamps k ≡ Some s → s.step < (world_at p h now).step
old_stamp p h now rest run i f g on k s lt is =
    let kn = on.before in
    let stamped : IsStamped f.daemon = entries_are_stamped p h now (fronts_are_lawful p h now rest run) i.machine f.machine f.daemon kn.there.at kn.there.has in
    let long : k < length f.daemon.stamps = subst (λ n. k < n) (sym (same_length f.daemon.stamps (trace_of f) stamped)) lt in
    stamp_below (world_at p h now).step f.daemon.stamps k s kn.stamps (sym (stamp_before on.stamps f.daemon.stamps k long) ∙ ap (λ ss. stamp_in ss k) (sym on.stamped) ∙ is)

-- ---- the law

pub over_are_silent : OverAreSilent
over_are_silent p h now rest run i f g its also joined over c has =
    let on = goes_on p h now rest run i f g its also in
    let m = partner (IsCourseOf g.daemon) (own_courses i g.machine) (calls_of (trace_of g) g.session) c on.after.pairs has in
    let n = partner IsLater (calls_of (trace_of g) g.session) (calls_of (trace_of f) f.session) m.0 (calls_stay p h now rest run i f g on joined over) m.1 in
    let below = made_below (trace_of f) n.0 (kept_inside (is_call_of f.session) (submitted (trace_of f)) n.0 n.1).0 in
    old_stamp p h now rest run i f g on m.0.at c.made (subst (λ k. k < length (trace_of f)) (sym n.2.same.at) below) m.2.made
