-- Of a session that is over no write but its free is answered any more.
use Rattle.sl_run_law.proofs.Course.MachinesMirror.{machines_mirror}
use Rattle.sl_run_law.specs.Course.CallStamps.{AnswersAgree, IsAnsweredAs, IsCourseOf}
use Rattle.sl_run_law.proofs.Front.RunsFromFronts.{fronts_are_lawful}
use Rattle.sl_id_safety.proofs.FreeIsLast.{freed_answered}
use Rattle.sl_id_safety.proofs.OverIsQuiet.{GoesOn, calls_stay, freed_by, goes_on, not_reset, old_stamp, over_cases}
use Rattle.sl_id_safety.specs.Interface.{OverAreSettled}
use Rattle.sl_id_safety.proofs.State.TraceBridge.{IsKnown}
use Rattle.sl_id_safety.proofs.State.Frames.{flying_of, is_running, open_while}
use Rattle.sl_id_safety.proofs.State.Tails.{IsLater}
use Rattle.sl_id_safety.specs.State.IdStates.{own_courses}
use Rattle.sl_run_law.proofs.Place.FoundInLists.{partner, partner_of}
use Rattle.sl_words.proofs.Lists.{any_of, kept_inside}
use Rattle.sl_run.specs.Runs.{Happening}
use Rattle.sl_run.specs.Safety.{Found, LawfulRun, SessionId, free_landed, has_write_in_flight, is_over, setting_in, trace_of, was_reset, world_at}
use Rattle.sl_run.specs.Worlds.{Course, Daemon, Program, Stamp, World, is_write_course, may_land}
use Rattle.sl_run.specs.declared.header.Header.{Header}
use Rattle.sl_trace.specs.Sessions.{calls_of, ended_after, free_write, is_call_of, is_free_purpose}
use Rattle.sl_trace.specs.Traces.{Answered, Submitted, is_write, submitted}
use Rattle.sl_trace.specs.declared.effects.Call.{Call}
use Rattle.sl_run_law.proofs.Watchdog.Joins.{answered_within}
use Rattle.sl_words.proofs.CaseLaws.{none_some, some_value, true_is_false}
use Rattle.sl_words.specs.Words.{some_is}
use Rattle.std.proofs.Common.{ap, inl, inr, refl, subst, sym, ◌∙◌}
use Rattle.std.proofs.lemmas.Bool.{and_from, eq-eqb}
use Rattle.std.specs.Prelude.{Contains, List, None, Option, Some, false, is_none, is_some, length, true, ◌&&◌, ◌<◌, ◌==◌, ◌||◌, ◌≡◌, ◌⊎◌}

-- ---- a write of a running daemon's session that is over is answered

unanswered_flies : (w : World) (i : SessionId) (f : Found) → IsKnown w i f → f.machine.daemon ≡ Some f.daemon → (n : Submitted) → Contains (calls_of (trace_of f) f.session) n
    → is_write n.call.op ≡ true → n.answer ≡ None → has_write_in_flight i f.machine ≡ true
unanswered_flies w i f kn runs n there writes none =
    let r = partner_of (IsCourseOf f.daemon) (own_courses i f.machine) (calls_of (trace_of f) f.session) n kn.pairs there in
    let unmet : r.0.answered ≡ None = subst (λ o. AnswersAgree f.daemon r.0 o) none r.2.answers in
    let runs' : is_running i.daemon f.machine ≡ true = ap (λ o. some_is (λ (d : Daemon). d.number == i.daemon) o) runs ∙ eq-eqb f.daemon.number i.daemon kn.there.daemon in
    let opens : open_while (is_running i.daemon f.machine) r.0 ≡ true =
    ap (λ b. open_while b r.0) runs' ∙ ap (λ o. is_none o && (true || may_land r.0)) unmet in
    flying_of i f.machine
    ∙ any_of (λ (x : Course). is_write_course x && open_while (is_running i.daemon f.machine) x) (own_courses i f.machine) r.0
    (and_from (is_write_course r.0) (open_while (is_running i.daemon f.machine) r.0) (ap (λ (y : Call). is_write y.op) (sym r.2.call) ∙ writes) opens) r.1

answered_where : (w : World) (i : SessionId) (f : Found) → IsKnown w i f → f.machine.daemon ≡ Some f.daemon → has_write_in_flight i f.machine ≡ false → (n : Submitted)
    → Contains (calls_of (trace_of f) f.session) n → is_write n.call.op ≡ true → (o : Option Answered) → n.answer ≡ o → (a : Answered) × (n.answer ≡ Some a)
answered_where w i f kn runs none n there writes (Some a) is = (a, is)
answered_where w i f kn runs none n there writes None is = absurd (true_is_false (sym (unanswered_flies w i f kn runs n there writes is) ∙ none))

answered_if_over : (p : Program) (h : Header) (now : List Happening) → LawfulRun p h now → (i : SessionId) (f : Found) → IsKnown (world_at p h now) i f → f.machine.daemon ≡ Some f.daemon
    → is_over i f ≡ true → (n : Submitted) → Contains (calls_of (trace_of f) f.session) n → is_write n.call.op ≡ true → is_free_purpose n.call.purpose ≡ false
    → (a : Answered) × (n.answer ≡ Some a)
answered_if_over p h now run i f kn runs over n there writes other =
    by (over_cases (free_landed i f) (is_some (ended_after (trace_of f) f.session)) (was_reset f) (has_write_in_flight i f.machine) over)
  where
    by : (free_landed i f ≡ true) ⊎ ((is_some (ended_after (trace_of f) f.session) ≡ true) × (has_write_in_flight i f.machine ≡ false)) ⊎ (was_reset f ≡ true)
        → (a : Answered) × (n.answer ≡ Some a)
    by (inl free) =
        let x = freed_by (free_write (calls_of (trace_of f) f.session)) _ free in
        freed_answered (setting_in f) (trace_of f) f.session kn.lawful kn.its x.0 x.1 n there other
    by (inr (inl ended)) = answered_where (world_at p h now) i f kn runs ended.1 n there writes n.answer refl
    by (inr (inr reset)) = absurd (not_reset f (machines_mirror p h now run i.machine f.machine kn.there.at) runs reset)

-- ---- the law

-- A call's answer in its trace.
told_by : (d : Daemon) (c : Course) (o : Option Answered) (s : Stamp) → AnswersAgree d c o → c.answered ≡ Some s → (a : Answered) × (o ≡ Some a) × IsAnsweredAs d c a
told_by d c None s agrees is = absurd (none_some s (sym agrees ∙ is))
told_by d c (Some a) s agrees is = (a, refl, agrees)

pub over_are_settled : OverAreSettled
over_are_settled p h now rest run i f g its also joined over c has writes other s answered =
    let on = goes_on p h now rest run i f g its also in
    let m = partner (IsCourseOf g.daemon) (own_courses i g.machine) (calls_of (trace_of g) g.session) c on.after.pairs has in
    let n = partner IsLater (calls_of (trace_of g) g.session) (calls_of (trace_of f) f.session) m.0 (calls_stay p h now rest run i f g on joined over) m.1 in
    let told = told_by g.daemon c m.0.answer s m.2.answers answered in
    let same : told.2.stamp ≡ s = some_value told.2.stamp s (sym told.2.answered ∙ answered) in
    let call : n.0.call ≡ c.call = sym n.2.same.call ∙ m.2.call in
    subst (λ (x : Stamp). x.step < (world_at p h now).step) same
    (old_stamp p h now rest run i f g on told.0.at told.2.stamp
    (by on m.0 (kept_inside (is_call_of g.session) (submitted (trace_of g)) m.0 m.1).0 told.0 told.1 n.0 n.1 n.2
    (ap (λ (y : Call). is_write y.op) call ∙ writes) (ap (λ (y : Call). is_free_purpose y.purpose) call ∙ other) on.running) told.2.entry)
  where
    early : (on : GoesOn p h now rest i f g) (m : Submitted) (a : Answered) → m.answer ≡ Some a → (n : Submitted) → Contains (calls_of (trace_of f) f.session) n → IsLater m n
        → (b : Answered) × (n.answer ≡ Some b) → a.at < length (trace_of f)
    early on m a is n there r b =
        answered_within (trace_of f) n a (kept_inside (is_call_of f.session) (submitted (trace_of f)) n there).0
        (b.1 ∙ ap (λ y. Some y) (some_value b.0 a (sym (ap (λ (x : Submitted). x.answer) (r.stays b.0 b.1) ∙ b.1) ∙ is)))

    by : (on : GoesOn p h now rest i f g) (m : Submitted) → Contains (submitted (trace_of g)) m → (a : Answered) → m.answer ≡ Some a → (n : Submitted)
        → Contains (calls_of (trace_of f) f.session) n → IsLater m n → is_write n.call.op ≡ true → is_free_purpose n.call.purpose ≡ false
        → (f.machine.daemon ≡ Some f.daemon) ⊎ (trace_of g ≡ trace_of f) → a.at < length (trace_of f)
    by on m inside a is n there r write free (inr same) = subst (λ es. a.at < length es) same (answered_within (trace_of g) m a inside is)
    by on m inside a is n there r write free (inl runs) =
        early on m a is n there r (answered_if_over p h now (fronts_are_lawful p h now rest run) i f on.before runs over n there write free)
