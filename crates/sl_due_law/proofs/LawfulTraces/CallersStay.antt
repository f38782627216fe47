-- The session of a running job's call without an answer stays present.
use Rattle.sl_due_facts.specs.Acts.TraceSoFar.{entry_of}
use Rattle.sl_due.specs.Steps.{Step, seen, with_input}
use Rattle.sl_due_leases.proofs.Grants.WorksByInputs.{unanswered}
use Rattle.sl_due_leases.proofs.Holdings.HoldersSpared.{joined_present, joining}
use Rattle.sl_due_facts.proofs.Jobs.CallsHaveFacts.{calls_before}
use Rattle.sl_due_leases.proofs.Leases.WorkIsActive.{ItsJob, in_lockspace, its_job, names_its}
use Rattle.sl_due_law.proofs.Recovery.RecoveriesStart.{removed_if}
use Rattle.sl_due_facts.proofs.Sessions.NamesAreAllowed.{caller_joined}
use Rattle.sl_due_facts.proofs.Jobs.SessionsArePresent.{session_has}
use Rattle.sl_due_law.proofs.LawfulTraces.HeardBefore.{ran_past}
use Rattle.sl_due_facts.specs.Facts.HeardCall.{heard_by}
use Rattle.sl_due_facts.specs.Facts.JobFacts.{FitsCommand, JobFacts}
use Rattle.sl_due_law.specs.Recovery.Stops.{FreeTold, Stops}
use Rattle.sl_due_law.specs.LawfulTraces.JobLore.{CallersPresent}
use Rattle.sl_due_law.specs.LawfulTraces.CarriedFacts.{Holds, Kept}
use Rattle.sl_run.specs.LawfulCalls.{may_submit}
use Rattle.sl_run.specs.LawfulParting.{MayPart}
use Rattle.sl_run.specs.LawfulRecovery.{StopsSession}
use Rattle.sl_run.specs.LawForms.{cut_at}
use Rattle.sl_trace.specs.Jobs.{command_numbered, lockspace_named}
use Rattle.sl_words.proofs.Lists.{contains_none, find_fails, got_inside, in_map, kept}
use Rattle.sl_words.proofs.Numbers.{number_itself}
use Rattle.sl_words.proofs.Options.{some_of}
use Rattle.sl_trace.specs.Sessions.{calls_of, is_call_of, is_joined, is_present, joined_after, recovery_of, refused_after, removed_after, renewing, renewing_after, session_numbered, sessions, stage_in, stage_of, free_write, has_open_write, recovers, renewed_by, shows_other}
use Rattle.sl_trace.specs.declared.session.Begun.{Begun}
use Rattle.sl_trace.specs.declared.session.Renewing.{Renewing}
use Rattle.sl_trace.specs.declared.session.Session.{Session}
use Rattle.sl_trace.specs.declared.stage.Stage.TheVariants.{Ended, Freeing, Refused, Standing}
use Rattle.sl_trace.specs.declared.stage.Stage.{Stage}
use Rattle.sl_time.specs.Times.{fail}
use Rattle.sl_trace.specs.Traces.{Answered, Replied, Setting, Submitted, Trace, answered_in, is_running, job_of, mark, reply_in, reply_to, same_place, submitted}
use Rattle.sl_trace.specs.declared.command.Command.{Command}
use Rattle.sl_trace.specs.declared.effects.Call.{Call}
use Rattle.sl_trace.specs.declared.effects.Entry.{Entry}
use Rattle.sl_trace.specs.declared.effects.JobReply.{JobReply}
use Rattle.sl_trace.specs.declared.effects.Purpose.TheVariants.{Joining, Lease, Leaving, Renewal, RequestRead, RequestWrite, SeeRequest, Survey, ValueRead, ValueWrite}
use Rattle.sl_trace.specs.declared.effects.Purpose.{Purpose}
use Rattle.sl_trace.specs.declared.input.Input.TheVariants.{Answer as Told, Exit, Line, Number, Spawned, Wake}
use Rattle.sl_trace.specs.declared.input.Input.{Input}
use Rattle.sl_run_law.proofs.Leases.NumberLaws.{number_is_place}
use Rattle.sl_run_law.proofs.Sessions.CallsAreMade.{IsNewCall, old_or_new, same_answered}
use Rattle.sl_run_law.proofs.Sessions.CallOwners.{session_more}
use Rattle.sl_words.proofs.CaseLaws.{false_is_true, no_value, none_some, not_both, one_value, some_value, true_is_false}
use Rattle.sl_words.proofs.WordLaws.{and_true}
use Rattle.std.proofs.Common.{ap, ap₂, inl, inr, refl, subst, sym, ◌∙◌}
use Rattle.std.proofs.lemmas.Slice.Eq.{bytes_eq-Decides}
use Rattle.std.specs.Prelude.{Bool, Contains, None, Option, Some, [], bytes_eq, false, find, is_none, is_some, length, nat_le, option_map, true, unwrap_or, ℕ, ◌&&◌, ◌+◌, ◌==◌, ◌||◌, ◌∷◌, ◌≡◌, ◌≤◌, ◌⊎◌}

-- ---- what a job's call tells of its lockspace

abbrev is_joining : Purpose → Bool
is_joining (Joining j step) = true
is_joining p = false

-- Whoever is no joining names the lockspace of its call's session.
names_lockspace : (st : Setting) (s : Session) (m : Submitted) (c : Command) (p : Purpose) (j : ℕ) → job_of p ≡ Some j → is_joining p ≡ false → FitsCommand st s m c p → lockspace_named c ≡ Some s.lockspace
names_lockspace st s m c (Joining i step) j of other f = absurd (true_is_false other)
names_lockspace st s m c Renewal j of other f = absurd (none_some j of)
names_lockspace st s m c Survey j of other f = absurd (none_some j of)
names_lockspace st s m c SeeRequest j of other f = absurd (none_some j of)
names_lockspace st s m c (Leaving i) j of other f =
    let both = and_true (bytes_eq f.0.name s.lockspace && f.0.id == s.id) (same_place f.0.path f.0.offset s.path s.offset) f.2 in
    ap (λ z. lockspace_named z) f.1 ∙ ap (λ n. Some n) ((bytes_eq-Decides f.0.name s.lockspace).0 (and_true (bytes_eq f.0.name s.lockspace) (f.0.id == s.id) both.0).0)
names_lockspace st s m c (Lease work step) j of other f = in_lockspace s c (names_its st s m c (Lease work step) refl f)
names_lockspace st s m c (RequestRead i) j of other f = in_lockspace s c (names_its st s m c (RequestRead i) refl f)
names_lockspace st s m c (RequestWrite i owner) j of other f = in_lockspace s c (names_its st s m c (RequestWrite i owner) refl f)
names_lockspace st s m c (ValueRead i) j of other f = in_lockspace s c (names_its st s m c (ValueRead i) refl f)
names_lockspace st s m c (ValueWrite i) j of other f = in_lockspace s c (names_its st s m c (ValueWrite i) refl f)

-- ---- no job is left where a recovery is

-- A recovery that wasn't there begins in the entry.
begun_new : (st : Setting) (past : Trace) (s : Session) (e : Entry) (r : Renewing) (b : Begun) → r.recovery ≡ None → (renewing_after st past s r e).recovery ≡ Some b → b.at ≡ length past
begun_new st past s e r b none is = by r.recovery none (is_joined past s && nat_le (r.last + fail st.timing) e.reading) (is_joined past s && shows_other st past s e.input) is where
  by : (o : Option Begun) → o ≡ None → (late other : Bool)
      → (elim o as (λ z. Renewing) [
        | Some c ↦ r
        | None ↦ elim late as (λ z. Renewing) [
          | true ↦ recovers past e (length past) r
          | false ↦ elim other as (λ z. Renewing) [ true ↦ recovers past e (length past + 1) r | false ↦ record r { last = unwrap_or (renewed_by past s e.input) r.last } ]
        ]
      ]).recovery ≡ Some b
      → b.at ≡ length past
  by (Some c) n late other h = absurd (none_some c (sym n))
  by None n true other h = ap (λ (z : Begun). z.at) (sym (some_value _ b h))
  by None n false true h = ap (λ (z : Begun). z.at) (sym (some_value _ b h))
  by None n false false h = absurd (none_some b (sym none ∙ h))

pub replied_stops : (past : Trace) (e : Entry) (a : JobReply) → Contains e.effects.replies a → is_running (e ∷ past) a.job ≡ false
replied_stops past e a there = by (reply_to past a.job) where
  by : (o : Option Replied) → is_none (elim o as (λ z. Option Replied) [ Some r ↦ Some r | None ↦ reply_in a.job past e ]) ≡ false
  by (Some r) = refl
  by None = found (find (λ (b : JobReply). b.job == a.job) e.effects.replies) refl where
    found : (o : Option JobReply) → find (λ (b : JobReply). b.job == a.job) e.effects.replies ≡ o
        → is_none (option_map (λ (b : JobReply). let r : Replied = record { at = length past; reply = b.reply } in r) (find (λ (b : JobReply). b.job == a.job) e.effects.replies)) ≡ false
    found (Some b) is = ap (λ o. is_none (option_map (λ (b : JobReply). let r : Replied = record { at = length past; reply = b.reply } in r) o)) is
    found None is = absurd (not_both (a.job == a.job) (number_itself a.job) (find_fails (λ (b : JobReply). b.job == a.job) e.effects.replies a is there))

-- A job of a call of a joined session doesn't outlast the recovery of that session.
jobless : (st : Setting) (past : Trace) (e : Entry) (s : Session) (m : Submitted) (j : ℕ) → Holds st past → Contains (submitted past) m → job_of m.call.purpose ≡ Some j → is_running (e ∷ past) j ≡ true
    → session_numbered st past m.call.session ≡ Some s → is_joining m.call.purpose ≡ false → is_joined past s ≡ true → (b : Begun) → recovery_of st (e ∷ past) s ≡ Some b
    → (b.at ≡ length past → StopsSession st past e s None) → ⊥
jobless st past e s m j h there of runs has other joined b is stops = by (recovery_of st past s) refl where
  inside : Contains (sessions st past) s
  inside = got_inside (sessions st past) m.call.session s has

  c : (c : Command) × (command_numbered st past j ≡ Some c)
  c = some_of (command_numbered st past j) (h.whole.facts.jobs.called m j there of)

  job : ItsJob st past s j c.0
  job =
      its_job st past s j c.0 c.1 (ran_past past e j runs)
      (names_lockspace st s m c.0 m.call.purpose j of other (h.whole.facts.jobs.fits m j s c.0 there of has c.1))

  by : (o : Option Begun) → recovery_of st past s ≡ o → ⊥
  by (Some d) was =
      contains_none job.job (subst (λ js. Contains js job.job) (h.whole.facts.quiet.recovering s inside (ap (λ q. q && is_some (recovery_of st past s)) joined ∙ ap (λ o. is_some o) was) refl) job.inside)
  by None was =
      let r = (stops (begun_new st past s e (renewing st past s) b was is)).refused job.job job.inside (λ same. none_some job.job.number (sym same)) in
      not_both (is_running (e ∷ past) j) runs (subst (λ n. is_running (e ∷ past) n ≡ false) job.number (replied_stops past e (record { job = job.job.number; reply = r.0 }) r.1))

-- ---- a call from before

-- A session with a joining's call has that joining.
joins_it : (st : Setting) (past : Trace) (s : Session) (m : Submitted) (j : ℕ) → JobFacts st past None → Contains (submitted past) m → job_of m.call.purpose ≡ Some j → session_numbered st past m.call.session ≡ Some s
    → is_joining m.call.purpose ≡ true → s.job ≡ Some j
joins_it st past s m j jobs there of has is =
    let c = some_of (command_numbered st past j) (jobs.called m j there of) in by c.0 m.call.purpose of is (jobs.fits m j s c.0 there of has c.1) where
      by : (c : Command) (p : Purpose) → job_of p ≡ Some j → is_joining p ≡ true → FitsCommand st s m c p → s.job ≡ Some j
      by c (Joining i step) its on f = f ∙ its
      by c Renewal its on f = absurd (false_is_true on)
      by c Survey its on f = absurd (false_is_true on)
      by c (Leaving i) its on f = absurd (false_is_true on)
      by c (Lease work step) its on f = absurd (false_is_true on)
      by c (RequestRead i) its on f = absurd (false_is_true on)
      by c (RequestWrite i owner) its on f = absurd (false_is_true on)
      by c SeeRequest its on f = absurd (false_is_true on)
      by c (ValueWrite i) its on f = absurd (false_is_true on)
      by c (ValueRead i) its on f = absurd (false_is_true on)

-- Who is present and joined hasn't ended.
still_in : (t : Trace) (s : Session) (k : ℕ) → joined_after t s ≡ Some k → is_present t s ≡ true → is_joined t s ≡ true
still_in t s k joined present = by (joined_after t s) (removed_after t s) joined present where
  by : (o removed : Option ℕ) → o ≡ Some k → (is_none (elim o as (λ z. Option ℕ) [ Some i ↦ removed | None ↦ refused_after t s ]) || is_none o && has_open_write t s) ≡ true → (is_some o && is_none removed) ≡ true
  by (Some i) None is h = refl
  by (Some i) (Some r) is h = absurd (false_is_true h)
  by None removed is h = absurd (none_some k is)

-- Its session is present still, unless it ended.
old_present : (st : Setting) (past : Trace) (e : Entry) (s : Session) (m : Submitted) (j : ℕ) → Holds st past → CallersPresent st past → Contains (submitted past) m → m.answer ≡ None → job_of m.call.purpose ≡ Some j
    → is_running (e ∷ past) j ≡ true → session_numbered st past m.call.session ≡ Some s → (is_joining m.call.purpose ≡ false → is_joined past s ≡ true → is_joined (e ∷ past) s ≡ false → ⊥) → is_present (e ∷ past) s ≡ true
old_present st past e s m j h callers there unmet of runs has parts = by (is_joining m.call.purpose) refl where
  inside : Contains (sessions st past) s
  inside = got_inside (sessions st past) m.call.session s has

  mine : Contains (calls_of past s) m
  mine = kept (is_call_of s) (submitted past) m (ap (λ k. k == s.number) (sym (number_is_place st past m.call.session s has)) ∙ number_itself s.number) there

  joined : is_joining m.call.purpose ≡ false → is_joined past s ≡ true
  joined other = now (joined_after past s) refl where
    now : (o : Option ℕ) → joined_after past s ≡ o → is_joined past s ≡ true
    now (Some k) is = still_in past s k is (callers m j s there unmet of (ran_past past e j runs) has)
    now None is =
        absurd (true_is_false (sym (caller_joined st past s m h.whole.lawful.orderly (session_has st past s inside) mine (λ i step joins. true_is_false (ap (λ p. is_joining p) (sym joins) ∙ other))) ∙ ap (λ o. is_some o) is))

  by : (b : Bool) → is_joining m.call.purpose ≡ b → is_present (e ∷ past) s ≡ true
  by true is = (joining (e ∷ past) s j (joins_it st past s m j h.whole.facts.jobs there of has is) runs).present
  by false is = ended (is_joined (e ∷ past) s) refl where
    ended : (b : Bool) → is_joined (e ∷ past) s ≡ b → is_present (e ∷ past) s ≡ true
    ended true in_still = joined_present (e ∷ past) s in_still
    ended false out = absurd (parts is (joined is) out)

-- ---- when an answer is heard

pub callers_seen : (x : Step) → x.input ≡ Wake → x.effects.calls ≡ [] → Kept x → CallersPresent x.setting x.past → CallersPresent x.setting (seen (with_input Wake x))
callers_seen x wake bare k callers = subst (λ i. CallersPresent x.setting (seen (with_input i x))) wake here where
  here : CallersPresent x.setting (seen x)
  here m j s there unmet of runs has =
      old_present x.setting x.past (entry_of x) s m j k.before callers old unmet of runs was (λ other joined out.
      by other joined (k.partings s (got_inside (sessions x.setting x.past) m.call.session s was) joined (removed_if (entry_of x) x.past s joined out)))
    where
      old : Contains (submitted x.past) m
      old = subst (λ ms. Contains ms m) (calls_before x wake bare) there

      was : session_numbered x.setting x.past m.call.session ≡ Some s
      was =
          let z = some_of (session_numbered x.setting x.past m.call.session) (k.before.whole.facts.calls.owned m old) in
          z.1 ∙ ap (λ v. Some v) (one_value z.0 s (session_numbered x.setting (seen x) m.call.session) (session_more x.setting (entry_of x) x.past m.call.session z.0 z.1) has)

      by : is_joining m.call.purpose ≡ false → is_joined x.past s ≡ true → (is_some (recovery_of x.setting (seen x) s) ≡ true) ⊎ FreeTold x s → ⊥
      by other joined (inr free) = none_some free.number (sym (ap (λ i. heard_by i) wake) ∙ ap (λ i. heard_by i) free.told)
      by other joined (inl recovers_now) =
          let b = some_of (recovery_of x.setting (seen x) s) recovers_now in
          jobless x.setting x.past (entry_of x) s m j k.before old of runs was other joined b.0 b.1
          (λ at. (subst (λ o. Stops x o) (ap (λ i. heard_by i) wake) k.stops).recovers s b.0 (got_inside (sessions x.setting x.past) m.call.session s was) b.1 at refl)

-- ---- at an entry's end

-- Who may submit is present.
may_present : (t u : Trace) (s : Session) → joined_after t s ≡ joined_after u s → removed_after t s ≡ removed_after u s → refused_after t s ≡ refused_after u s → may_submit (stage_of t s) ≡ true → is_present u s ≡ true
may_present t u s joined removed refused may = by (joined_after t s) (removed_after t s) (refused_after t s) refl refl refl may where
  by : (j r f : Option ℕ) → joined_after t s ≡ j → removed_after t s ≡ r → refused_after t s ≡ f
      → may_submit (elim j as (λ z. Stage) [
        | Some k ↦ elim r as (λ z. Stage) [ Some i ↦ Ended | None ↦ elim (free_write (calls_of t s)) as (λ z. Stage) [ Some m ↦ Freeing | None ↦ Standing ] ]
        | None ↦ elim f as (λ z. Stage) [ Some k ↦ Refused | None ↦ stage_in (calls_of t s) ]
      ]) ≡ true
      → is_present u s ≡ true
  by (Some k) (Some i) f a b c h = absurd (false_is_true h)
  by (Some k) None f a b c h =
      ap₂ (λ x y. is_none (elim x as (λ z. Option ℕ) [ Some i ↦ y | None ↦ refused_after u s ]) || is_none x && has_open_write u s) (sym joined ∙ a) (sym removed ∙ b)
  by None r (Some k) a b c h = absurd (false_is_true h)
  by None r None a b c h =
      ap₂ (λ x y. is_none (elim x as (λ z. Option ℕ) [ Some i ↦ removed_after u s | None ↦ y ]) || is_none x && has_open_write u s) (sym joined ∙ a) (sym refused ∙ c)

pub callers_stay : (st : Setting) (past : Trace) (e : Entry) → Holds st past → Holds st (e ∷ past) → CallersPresent st past → CallersPresent st (e ∷ past)
callers_stay st past e h now callers m j s there unmet of runs has = by (old_or_new (length past) e.reading e.effects.calls (mark past e e.input (submitted past)) m there) where
  mine : Contains (calls_of (e ∷ past) s) m
  mine = kept (is_call_of s) (submitted (e ∷ past)) m (ap (λ k. k == s.number) (sym (number_is_place st (e ∷ past) m.call.session s has)) ∙ number_itself s.number) there

  before : (b : Submitted) → Contains (submitted past) b → b.call ≡ m.call → b.answer ≡ None → is_present (e ∷ past) s ≡ true
  before b inside same open_b =
      old_present st past e s b j h callers inside open_b (ap (λ (c : Call). job_of c.purpose) same ∙ of) runs was (λ other joined out.
      parted other joined (now.whole.lawful.orderly.parting.0.parts_well s in_past joined out))
    where
      was : session_numbered st past b.call.session ≡ Some s
      was =
          let z = some_of (session_numbered st past b.call.session) (h.whole.facts.calls.owned b inside) in
          z.1 ∙ ap (λ v. Some v) (one_value z.0 s (session_numbered st (e ∷ past) m.call.session) (ap (λ (c : Call). session_numbered st (e ∷ past) c.session) (sym same) ∙ session_more st e past b.call.session z.0 z.1) has)

      in_past : Contains (sessions st past) s
      in_past = got_inside (sessions st past) b.call.session s was

      parted : is_joining b.call.purpose ≡ false → is_joined past s ≡ true → MayPart st past e s → ⊥
      parted other joined (inl recovered) =
          let d = some_of (recovery_of st (e ∷ past) s) recovered.0 in
          jobless st past e s b j h inside (ap (λ (c : Call). job_of c.purpose) same ∙ of) runs was other joined d.0 d.1 (λ at. now.whole.lawful.recovery.0.recovers s in_past d.0 d.1 at)
      parted other joined (inr freed) = met (now.whole.facts.delta.before s freed.0 m (got_inside (sessions st (e ∷ past)) m.call.session s has) freed.2 mine) where
        met : (m ≡ freed.0) ⊎ ((a : Answered) × (m.answer ≡ Some a) × (a.at ≤ freed.0.at)) → ⊥
        met (inl same_one) = no_value freed.3.0 m.answer (ap (λ (z : Submitted). z.answer) same_one ∙ freed.3.1) unmet
        met (inr told) = no_value told.0 m.answer told.1 unmet

  marked : (i : Input) → Contains (mark past e i (submitted past)) m → is_present (e ∷ past) s ≡ true
  marked (Told n a) inside =
      let d = in_map (answered_in past e n a) (submitted past) m inside in
      before d.0 d.1 (sym (same_answered past e n a d.0).call ∙ ap (λ (z : Submitted). z.call) d.2) (unanswered past e n a d.0 (ap (λ (z : Submitted). z.answer) d.2 ∙ unmet))
  marked (Line text) inside = before m inside refl unmet
  marked (Number text) inside = before m inside refl unmet
  marked (Exit p) inside = before m inside refl unmet
  marked (Spawned p ok) inside = before m inside refl unmet
  marked Wake inside = before m inside refl unmet

  by : Contains (mark past e e.input (submitted past)) m ⊎ IsNewCall (length past) e.reading e.effects.calls m → is_present (e ∷ past) s ≡ true
  by (inl old) = marked e.input old
  by (inr new) = may_present (cut_at new.index e ∷ past) (e ∷ past) s refl refl refl (now.whole.lawful.orderly.calls.0.alive new.index m.call s new.call has)
