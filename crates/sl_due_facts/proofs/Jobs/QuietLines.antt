-- A line brings no job under a session in recovery or leaving, but a leaving's own.
use Rattle.sl_due_facts.proofs.Acts.AddedAtEnd.{any_last, contains_last}
use Rattle.sl_due_facts.specs.Acts.Acts.{Expects}
use Rattle.sl_due_facts.specs.Acts.TraceSoFar.{entry_of}
use Rattle.sl_due.specs.DueCommands.{reply_at_once}
use Rattle.sl_due.specs.CarriedDelta.{begins_by_read}
use Rattle.sl_due.specs.Steps.{Step, add_reply, seen, with_input}
use Rattle.sl_due.specs.declared.decision.Decision.{Decision}
use Rattle.sl_due.specs.declared.decision.Decision.TheVariants.{ConvertsTo, GetsValue, GivesUp, Joins, Leaves, ReadsArea, Replies, Requests, SetsValue, Shares, TakesOver}
use Rattle.sl_due_facts.proofs.Jobs.CallsHaveFacts.{sessions_bare}
use Rattle.sl_due_facts.proofs.Jobs.DecisionsFit.{DecisionFits, IsActive, IsOnResource}
use Rattle.sl_due_facts.proofs.Jobs.JobsAreNumbered.{command_read, next_before}
use Rattle.sl_due_facts.proofs.Jobs.NearlyPlainActs.{is_command_line}
use Rattle.sl_due_facts.proofs.Jobs.QuietEffects.{by_input, is_recovering_parts, job_before, names_it, recovery_told}
use Rattle.sl_due_facts.proofs.Jobs.SessionsArePresent.{joined_present, present_inside}
use Rattle.sl_due_facts.proofs.Jobs.SessionsHaveJobs.{leaves_is, left_in, left_unanswered}
use Rattle.sl_due_facts.proofs.Jobs.SessionsStand.{leaving_joined, no_members, recovery_joined, reply_joined, reply_stops}
use Rattle.sl_due_facts.specs.Jobs.JobLaws.{HasQuietFacts}
use Rattle.sl_trace.specs.Jobs.{command_of, is_command_that, jobs_of_session, lockspace_named, resource_named}
use Rattle.sl_words.proofs.Lists.{contains_none, find_inside, kept, kept_inside}
use Rattle.sl_words.proofs.Numbers.{number_itself}
use Rattle.sl_words.proofs.Options.{none_is, some_there}
use Rattle.sl_trace.specs.Sessions.{is_active, is_joined, is_recovering, is_session_arg, leaving_in, leaving_job, present_sessions, recovery_of, session_named, sessions}
use Rattle.sl_trace.specs.declared.session.Begun.{Begun}
use Rattle.sl_trace.specs.declared.session.Session.{Session}
use Rattle.sl_due_facts.specs.Facts.HeardCall.{heard_by}
use Rattle.sl_due_facts.specs.Facts.SessionFacts.{QuietFacts}
use Rattle.sl_due_facts.specs.Facts.AllFacts.{Whole}
use Rattle.sl_trace.specs.Traces.{Job, Setting, Trace, is_running, jobs, next_job, running_jobs}
use Rattle.sl_trace.specs.declared.command.Command.{Command}
use Rattle.sl_trace.specs.declared.command.Command.TheVariants.{Acquire, AddLockspace, Convert, GetLvb, HostStatus, InqLockspace, Release, ReleaseOrphan, RemLockspace, Request, RunProgram, SetKillpath, SetLvb, Status, TakeOver}
use Rattle.sl_trace.specs.declared.command.LockspaceArg.{LockspaceArg}
use Rattle.sl_trace.specs.declared.command.ResourceArg.{ResourceArg}
use Rattle.sl_trace.specs.declared.effects.Entry.{Entry}
use Rattle.sl_trace.specs.declared.effects.JobReply.{JobReply}
use Rattle.sl_trace.specs.declared.input.Answer.{Answer}
use Rattle.sl_trace.specs.declared.input.Input.{Input}
use Rattle.sl_trace.specs.declared.input.Input.TheVariants.{Answer as Told, Exit, Line, Number, Spawned, Wake}
use Rattle.sl_trace.specs.declared.reply.Reply.{Reply}
use Rattle.sl_run_law.proofs.Sessions.SessionNames.{absent}
use Rattle.sl_words.proofs.CaseLaws.{false_is_true, none_some, not_both, some_value, true_is_false}
use Rattle.sl_words.proofs.WordLaws.{and_true, some_is_true}
use Rattle.std.proofs.Common.{ap, ap₂, arith, inl, inr, refl, subst, sym, ◌∙◌}
use Rattle.std.proofs.lemmas.List.{append-nil}
use Rattle.std.proofs.lemmas.Slice.Eq.{bytes_eq-Decides}
use Rattle.std.specs.List.{list_any}
use Rattle.std.specs.Prelude.{Contains, List, None, Ok, Option, Result, Some, [], bytes_eq, false, is_none, is_some, length, suc, true, ℕ, ◌&&◌, ◌++◌, ◌+◌, ◌==◌, ◌∷◌, ◌≡◌, ◌⊎◌}
use Rattle.std.specs.Result.{result_ok}

pub quiet_wake : (x : Step) → x.input ≡ Wake → HasQuietFacts x → QuietFacts x.setting (by_input x Wake ∷ x.past) None
quiet_wake x wake h = subst (λ i. QuietFacts x.setting (by_input x i ∷ x.past) (heard_by i)) wake h

-- ---- other inputs

kills_apart : (x : Step) (n : ℕ) (a : Answer) (s : Session) (b : Begun) → recovery_of x.setting (by_input x (Told n a) ∷ x.past) s ≡ Some b
    → (true && begins_by_read (by_input x (Told n a) ∷ x.past) (recovery_of x.setting (by_input x (Told n a) ∷ x.past) s)) ≡ false → (b.kills_from == length x.past + 1) ≡ false
kills_apart x n a s b begun other =
    let more : length x.past + 1 ≡ suc (length x.past) = omega arith in
    ap (λ k. b.kills_from == k) more ∙ (sym (ap (λ o. begins_by_read (by_input x (Told n a) ∷ x.past) o) begun) ∙ other)

quiet_by : (x : Step) (i : Input) → is_command_line i ≡ false → QuietFacts x.setting (by_input x Wake ∷ x.past) None → QuietFacts x.setting (by_input x i ∷ x.past) (heard_by i)
quiet_by x (Line text) no_line h = absurd (true_is_false no_line)
quiet_by x (Number text) no_line h = record { recovering = h.recovering; leaving = h.leaving }
quiet_by x (Exit p) no_line h = record { recovering = h.recovering; leaving = h.leaving }
quiet_by x (Spawned p ok) no_line h = record { recovering = h.recovering; leaving = h.leaving }
quiet_by x Wake no_line h = record { recovering = h.recovering; leaving = h.leaving }
quiet_by x (Told n a) no_line h =
    record {
      recovering = λ s there is other.
          let both = is_recovering_parts x.setting (by_input x (Told n a) ∷ x.past) s is in
          let begun = some_there (recovery_of x.setting (by_input x (Told n a) ∷ x.past) s) both.1 in
          let before = recovery_told x (Told n a) s begun.0 begun.1 (kills_apart x n a s begun.0 begun.1 other) in
          h.recovering s there (ap₂ (λ c o. c && is_some o) both.0 before) refl;
      leaving = h.leaving;
    }

pub quiet_others : (x : Step) (i : Input) → x.input ≡ Wake → x.effects.calls ≡ [] → Expects x i → is_command_line i ≡ false → Whole x → HasQuietFacts (with_input i x)
quiet_others x i wake bare expected no_line h = quiet_by x i no_line (quiet_wake x wake h.facts.quiet)

-- ---- a line's own job

-- Jobs of a session, with a line's.
pub record IsNewJob (x : Step) (text : List ℕ) (s : Session) (k : Job) : Type 0 where
  pub job : k.number ≡ next_job x.setting x.past
  pub command : Command
  pub reads : x.setting.read text ≡ Ok command
  pub names : names_it s command ≡ true

pub old_or_line : (x : Step) (text : List ℕ) (s : Session) (k : Job) → Contains (jobs_of_session x.setting (by_input x (Line text) ∷ x.past) s) k
    → Contains (jobs_of_session x.setting (by_input x Wake ∷ x.past) s) k ⊎ IsNewJob x text s k
old_or_line x text s k there = by (contains_last (jobs x.setting x.past) made k runs.0) where
  made : Job
  made = record { number = next_job x.setting x.past; at = length x.past; reading = x.reading; command = x.setting.read text }

  named : Contains (running_jobs x.setting (by_input x (Line text) ∷ x.past)) k × (is_command_that (names_it s) k ≡ true)
  named = kept_inside (is_command_that (names_it s)) (running_jobs x.setting (by_input x (Line text) ∷ x.past)) k there

  runs : Contains (jobs x.setting (by_input x (Line text) ∷ x.past)) k × (is_running (by_input x (Line text) ∷ x.past) k.number ≡ true)
  runs = kept_inside (λ (i : Job). is_running (by_input x (Line text) ∷ x.past) i.number) (jobs x.setting (by_input x (Line text) ∷ x.past)) k (kept_inside (is_command_that (names_it s)) (running_jobs x.setting (by_input x (Line text) ∷ x.past)) k there).0

  by : Contains (jobs x.setting x.past) k ⊎ (record { number = next_job x.setting x.past; at = length x.past; reading = x.reading; command = x.setting.read text } ≡ k)
      → Contains (jobs_of_session x.setting (by_input x Wake ∷ x.past) s) k ⊎ IsNewJob x text s k
  by (inl old) =
      inl (kept (is_command_that (names_it s)) (running_jobs x.setting (by_input x Wake ∷ x.past)) k named.1
      (kept (λ (i : Job). is_running (by_input x Wake ∷ x.past) i.number) (jobs x.setting (by_input x Wake ∷ x.past)) k runs.1 (subst (λ js. Contains js k) (sym (append-nil (jobs x.setting x.past))) old)))
  by (inr new) =
      let command = some_is_true (names_it s) (command_of k) named.1 in
      let reads : x.setting.read text ≡ Ok command.0 = ap (λ (i : Job). i.command) new ∙ command_read k command.0 command.1 in
      inr (record { job = ap (λ (i : Job). i.number) (sym new); command = command.0; reads = reads; names = command.2 })

-- A line that is answered at once leaves no job.
pub answered_jobs : (x : Step) (text : List ℕ) (j : ℕ) (r : Reply) (s : Session) (k : Job) → j ≡ next_job x.setting x.past → Contains (jobs_of_session x.setting (seen (add_reply j r (with_input (Line text) x))) s) k
    → Contains (jobs_of_session x.setting (by_input x Wake ∷ x.past) s) k
answered_jobs x text j r s k is there = by (old_or_line x text s k (job_before (with_input (Line text) x) j r s k there)) where
  by : Contains (jobs_of_session x.setting (by_input x Wake ∷ x.past) s) k ⊎ IsNewJob x text s k → Contains (jobs_of_session x.setting (by_input x Wake ∷ x.past) s) k
  by (inl old) = old
  by (inr new) =
      let w : Step = with_input (Line text) x in
      let running = (kept_inside (λ (i : Job). is_running (seen (add_reply j r w)) i.number) (jobs x.setting (seen w)) k (kept_inside (is_command_that (names_it s)) (running_jobs x.setting (seen (add_reply j r w))) k there).0).1 in
      absurd (not_both (is_running (seen (add_reply j r w)) k.number) running (subst (λ n. is_running (seen (add_reply j r w)) n ≡ false) (is ∙ sym new.job) (reply_stops w j r)))

-- And begins no leaving.
pub answered_leaving : (x : Step) (text : List ℕ) (j : ℕ) (r : Reply) (s : Session) (k : Job) → j ≡ next_job x.setting x.past → leaving_job x.setting (seen (add_reply j r (with_input (Line text) x))) s ≡ Some k
    → leaving_job x.setting (by_input x Wake ∷ x.past) s ≡ Some k
answered_leaving x text j r s k is leaves_one = by (leaving_job x.setting x.past s) leaves_one where
  never : leaving_in x.setting x.past s (entry_of (add_reply j r (with_input (Line text) x))) ≡ Some k → ⊥
  never h =
      let e : Entry = entry_of (add_reply j r (with_input (Line text) x)) in
      let new = left_in x.setting x.past s e k h in
      not_both (list_any (λ (a : JobReply). a.job == next_job x.setting x.past) (x.effects.replies ++ record { job = j; reply = r } ∷ []))
      (any_last (λ (a : JobReply). a.job == next_job x.setting x.past) x.effects.replies (record { job = j; reply = r }) (ap (λ n. n == next_job x.setting x.past) is ∙ number_itself (next_job x.setting x.past)))
      (left_unanswered x.setting x.past s e k h)

  by : (o : Option Job) → (elim o as (λ z. Option Job) [ Some a ↦ Some a | None ↦ leaving_in x.setting x.past s (entry_of (add_reply j r (with_input (Line text) x))) ]) ≡ Some k
      → (elim o as (λ z. Option Job) [ Some a ↦ Some a | None ↦ None ]) ≡ Some k
  by (Some a) h = h
  by None h = absurd (never h)

pub quiet_answered : (x : Step) (text : List ℕ) (r : Reply) → x.input ≡ Wake → x.effects.calls ≡ [] → HasQuietFacts x → HasQuietFacts (add_reply (next_job x.setting (seen x)) r (with_input (Line text) x))
quiet_answered x text r wake bare h =
    record {
      recovering = λ s there is other.
          let both = is_recovering_parts x.setting (seen y) s is in
          let begun = some_there (recovery_of x.setting (seen y) s) both.1 in
          let joined : is_joined (by_input x Wake ∷ x.past) s ≡ true = sym (reply_joined w j r s (recovery_joined x.setting (entry_of w) x.past s begun.0 begun.1)) ∙ both.0 in
          let none : jobs_of_session x.setting (by_input x Wake ∷ x.past) s ≡ [] = q.recovering s (old s there) (ap₂ (λ a b. a && b) joined both.1) refl in
          no_members (jobs_of_session x.setting (seen y) s) (λ k inside. contains_none k (subst (λ ks. Contains ks k) none (answered_jobs x text j r s k (next_before x wake) inside)));
      leaving = λ s k i there joined leaves_one inside.
          let before : leaving_job x.setting (by_input x Wake ∷ x.past) s ≡ Some k = answered_leaving x text j r s k (next_before x wake) leaves_one in
          q.leaving s k i (old s there) (sym (reply_joined w j r s (leaving_joined x.setting (by_input x Wake) x.past s k before)) ∙ joined) before (answered_jobs x text j r s i (next_before x wake) inside);
    } where
      j : ℕ
      j = next_job x.setting (seen x)

      w : Step
      w = with_input (Line text) x

      y : Step
      y = add_reply (next_job x.setting (seen x)) r (with_input (Line text) x)

      q : QuietFacts x.setting (by_input x Wake ∷ x.past) None
      q = quiet_wake x wake h

      old : (s : Session) → Contains (sessions x.setting (by_input x (Line text) ∷ x.past)) s → Contains (sessions x.setting (by_input x Wake ∷ x.past)) s
      old s there = subst (λ ss. Contains ss s) (sessions_bare (with_input (Line text) x) bare ∙ sym (sessions_bare (with_input Wake x) bare)) there

-- ---- a line that is carried out

-- A decision's session is active, so no other session in recovery or leaving has its name.
resource_lockspace : (c : Command) (r : ResourceArg) → resource_named c ≡ Some r → lockspace_named c ≡ Some r.lockspace
resource_lockspace (Acquire q shared p persistent) r is = ap (λ (z : ResourceArg). Some z.lockspace) (some_value q r is)
resource_lockspace (TakeOver q shared p persistent) r is = ap (λ (z : ResourceArg). Some z.lockspace) (some_value q r is)
resource_lockspace (Release q p) r is = ap (λ (z : ResourceArg). Some z.lockspace) (some_value q r is)
resource_lockspace (ReleaseOrphan q) r is = ap (λ (z : ResourceArg). Some z.lockspace) (some_value q r is)
resource_lockspace (Convert q shared p) r is = ap (λ (z : ResourceArg). Some z.lockspace) (some_value q r is)
resource_lockspace (RunProgram q shared path) r is = ap (λ (z : ResourceArg). Some z.lockspace) (some_value q r is)
resource_lockspace (Request q lver force) r is = ap (λ (z : ResourceArg). Some z.lockspace) (some_value q r is)
resource_lockspace (GetLvb q p) r is = ap (λ (z : ResourceArg). Some z.lockspace) (some_value q r is)
resource_lockspace (SetLvb q p bytes) r is = ap (λ (z : ResourceArg). Some z.lockspace) (some_value q r is)
resource_lockspace (AddLockspace a) r is = absurd (none_some r is)
resource_lockspace (RemLockspace a) r is = absurd (none_some r is)
resource_lockspace (InqLockspace a) r is = absurd (none_some r is)
resource_lockspace (HostStatus a) r is = absurd (none_some r is)
resource_lockspace (SetKillpath p path) r is = absurd (none_some r is)
resource_lockspace Status r is = absurd (none_some r is)

-- The lockspace that the command names has an active session, or none.
abbrev pub NamesActive : Setting → Trace → Command → Type 0
NamesActive st es c = (name : List ℕ) × (lockspace_named c ≡ Some name) × ((session_named st es name ≡ None) ⊎ ((s : Session) × (session_named st es name ≡ Some s) × (is_active st es s ≡ true)))

on_active : (st : Setting) (es : Trace) (c : Command) (s : Session) (r : ResourceArg) → IsActive st es s → IsOnResource st es s r c → NamesActive st es c
on_active st es c s r active on = (r.lockspace, resource_lockspace c r on.0, inr (s, on.1, active))

pub names_active : (st : Setting) (es : Trace) (c : Command) (d : Decision) → reply_at_once d ≡ None → DecisionFits st es c d → NamesActive st es c
names_active st es c (Replies r) none f = absurd (none_some r (sym none))
names_active st es c (Joins n a) none f = (a.name, ap (λ k. lockspace_named k) f.0, inl f.2)
names_active st es c (Leaves s) none f = (f.1.0.name, ap (λ k. lockspace_named k) f.1.1, inr (s, f.1.2, f.0))
names_active st es c (ReadsArea s r) none f = on_active st es c s r f.0 f.1
names_active st es c (Shares s lver) none f = on_active st es c s f.1.0 f.0 f.1.1
names_active st es c (GivesUp s g) none f = on_active st es c s f.1.0 f.0 f.1.1
names_active st es c (TakesOver s g) none f = on_active st es c s f.1.0 f.0 f.1.1
names_active st es c (ConvertsTo s r mode) none f = on_active st es c s r f.0 f.1
names_active st es c (Requests s r) none f = on_active st es c s r f.0 f.1
names_active st es c (SetsValue s at v) none f = on_active st es c s f.1.0 f.0 f.1.1
names_active st es c (GetsValue s at) none f = on_active st es c s f.1.0 f.0 f.1.1

-- So a joined session whose lockspace it names is active, and is the one.
pub named_active : (x : Step) (c : Command) (s : Session) → Whole x → NamesActive x.setting (seen x) c → Contains (sessions x.setting (seen x)) s → is_joined (seen x) s ≡ true → names_it s c ≡ true → is_active x.setting (seen x) s ≡ true
named_active x c s h names there joined is = by names.2 where
  same : names.0 ≡ s.lockspace
  same =
      let its = some_is_true (λ n. bytes_eq n s.lockspace) (lockspace_named c) is in
      some_value names.0 its.0 (sym names.1 ∙ its.1) ∙ (bytes_eq-Decides its.0 s.lockspace).0 its.2

  present : Contains (present_sessions x.setting (seen x)) s
  present = present_inside x.setting (seen x) s there (joined_present (seen x) s joined)

  by : (session_named x.setting (seen x) names.0 ≡ None) ⊎ ((z : Session) × (session_named x.setting (seen x) names.0 ≡ Some z) × (is_active x.setting (seen x) z ≡ true)) → is_active x.setting (seen x) s ≡ true
  by (inl none) = absurd (absent x.setting (seen x) names.0 s there (sym same) none (joined_present (seen x) s joined))
  by (inr its) =
      let found = find_inside (λ (z : Session). bytes_eq z.lockspace names.0) (present_sessions x.setting (seen x)) its.0 its.1 in
      let one : its.0 ≡ s = h.facts.names.apart its.0 s found.0 present ((bytes_eq-Decides its.0.lockspace names.0).0 found.1 ∙ same) in
      subst (λ (z : Session). is_active x.setting (seen x) z ≡ true) one its.2

pub active_parts : (st : Setting) (es : Trace) (s : Session) → is_active st es s ≡ true → (recovery_of st es s ≡ None) × (leaving_job st es s ≡ None)
active_parts st es s is =
    let first = and_true (is_joined es s && is_none (recovery_of st es s)) (is_none (leaving_job st es s)) is in
    (none_is (recovery_of st es s) (and_true (is_joined es s) (is_none (recovery_of st es s)) first.0).1, none_is (leaving_job st es s) first.1)

pub ok_value : (o : Result Command ℕ) (a b : Command) → o ≡ Ok a → o ≡ Ok b → a ≡ b
ok_value o a b first second = some_value a b (sym (ap (λ r. result_ok r) first) ∙ ap (λ r. result_ok r) second)

-- What a session's jobs are once the line is seen, before it is carried out.
pub lined_recovering : (x : Step) (text : List ℕ) (c : Command) (s : Session) → Whole x → x.input ≡ Wake → x.setting.read text ≡ Ok c → NamesActive x.setting (seen x) c → Contains (sessions x.setting (seen x)) s
    → is_recovering x.setting (by_input x Wake ∷ x.past) s ≡ true → jobs_of_session x.setting (by_input x (Line text) ∷ x.past) s ≡ []
lined_recovering x text c s h wake says names there is =
    no_members (jobs_of_session x.setting (by_input x (Line text) ∷ x.past) s) (λ k inside. by k (old_or_line x text s k inside)) where
      both : (is_joined (by_input x Wake ∷ x.past) s ≡ true) × (is_some (recovery_of x.setting (by_input x Wake ∷ x.past) s) ≡ true)
      both = is_recovering_parts x.setting (by_input x Wake ∷ x.past) s is

      by : (k : Job) → Contains (jobs_of_session x.setting (by_input x Wake ∷ x.past) s) k ⊎ IsNewJob x text s k → ⊥
      by k (inl old) =
          contains_none k (subst (λ ks. Contains ks k) ((quiet_wake x wake h.facts.quiet).recovering s (subst (λ i. Contains (sessions x.setting (by_input x i ∷ x.past)) s) wake there) is refl) old)
      by k (inr new) =
          let command : new.command ≡ c = ok_value (x.setting.read text) new.command c new.reads says in
          let active : is_active x.setting (seen x) s ≡ true = named_active x c s h names there (subst (λ i. is_joined (by_input x i ∷ x.past) s ≡ true) (sym wake) both.0) (subst (λ d. names_it s d ≡ true) command new.names) in
          let none : recovery_of x.setting (by_input x Wake ∷ x.past) s ≡ None = subst (λ i. recovery_of x.setting (by_input x i ∷ x.past) s ≡ None) wake (active_parts x.setting (seen x) s active).0 in
          false_is_true (sym (ap (λ o. is_some o) none) ∙ both.1)

pub lined_leaving : (x : Step) (text : List ℕ) (c : Command) (s : Session) (k i : Job) → Whole x → x.input ≡ Wake → x.setting.read text ≡ Ok c → NamesActive x.setting (seen x) c → Contains (sessions x.setting (seen x)) s
    → is_joined (by_input x Wake ∷ x.past) s ≡ true → leaving_job x.setting (by_input x Wake ∷ x.past) s ≡ Some k → Contains (jobs_of_session x.setting (by_input x (Line text) ∷ x.past) s) i → i.number ≡ k.number
lined_leaving x text c s k i h wake says names there joined leaves_one inside = by (old_or_line x text s i inside) where
  by : Contains (jobs_of_session x.setting (by_input x Wake ∷ x.past) s) i ⊎ IsNewJob x text s i → i.number ≡ k.number
  by (inl old) = (quiet_wake x wake h.facts.quiet).leaving s k i (subst (λ z. Contains (sessions x.setting (by_input x z ∷ x.past)) s) wake there) joined leaves_one old
  by (inr new) =
      let command : new.command ≡ c = ok_value (x.setting.read text) new.command c new.reads says in
      let active : is_active x.setting (seen x) s ≡ true = named_active x c s h names there (subst (λ z. is_joined (by_input x z ∷ x.past) s ≡ true) (sym wake) joined) (subst (λ d. names_it s d ≡ true) command new.names) in
      let none : leaving_job x.setting (by_input x Wake ∷ x.past) s ≡ None = subst (λ z. leaving_job x.setting (by_input x z ∷ x.past) s ≡ None) wake (active_parts x.setting (seen x) s active).1 in
      absurd (none_some k (sym none ∙ leaves_one))

-- The leaving that a line begins is its own session's.
pub new_leaving : (x : Step) (text : List ℕ) (c : Command) (s : Session) (k : Job) → x.setting.read text ≡ Ok c → leaving_job x.setting (by_input x (Line text) ∷ x.past) s ≡ Some k
    → (leaving_job x.setting (by_input x Wake ∷ x.past) s ≡ Some k) ⊎ ((a : LockspaceArg) × (c ≡ RemLockspace a) × (is_session_arg s a ≡ true) × (k.number ≡ next_job x.setting x.past))
new_leaving x text c s k says is = by (leaving_job x.setting x.past s) is where
  by : (o : Option Job) → (elim o as (λ z. Option Job) [ Some a ↦ Some a | None ↦ leaving_in x.setting x.past s (by_input x (Line text)) ]) ≡ Some k
      → ((elim o as (λ z. Option Job) [ Some a ↦ Some a | None ↦ None ]) ≡ Some k) ⊎ ((a : LockspaceArg) × (c ≡ RemLockspace a) × (is_session_arg s a ≡ true) × (k.number ≡ next_job x.setting x.past))
  by (Some a) h = inl h
  by None h =
      let new = left_in x.setting x.past s (by_input x (Line text)) k h in
      let same : text ≡ new.0 = some_value text new.0 new.1 in
      let out = leaves_is s (x.setting.read new.0) new.2 in
      inr (out.0, ok_value (x.setting.read text) c (RemLockspace out.0) says (ap (λ t. x.setting.read t) same ∙ out.1), out.2, ap (λ (z : Job). z.number) (sym new.3))
