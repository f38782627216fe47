-- Work of a running job on an area, whose answer is heard, is of an active session.
use Rattle.sl_due_facts.specs.Acts.Acts.{Hears}
use Rattle.sl_due.specs.Steps.{Step, seen, with_input}
use Rattle.sl_run.specs.LawfulArea.{is_area_work}
use Rattle.sl_due.specs.CarriedDelta.{begins_by_read}
use Rattle.sl_due_leases.proofs.Leases.RecoveriesBegin.{not_by_read}
use Rattle.sl_due_facts.specs.Facts.HeardCall.{heard_by}
use Rattle.sl_due_leases.proofs.Ways.WayFactsHeld.EffectsLeave.{there_has}
use Rattle.sl_due_leases.proofs.Ways.WayFactsHeld.HeardStands.{heard_call, heard_has}
use Rattle.sl_due_leases.proofs.Ways.WayFactsHeld.LinesKeep.{find_last, jobs_below}
use Rattle.sl_due_leases.proofs.Ways.WayFactsHeld.UnjoinedHaveNone.{no_area_work}
use Rattle.sl_trace.specs.Jobs.{command_numbered, command_of, is_command_that, jobs_of_session, lockspace_named, resource_named}
use Rattle.sl_trace.specs.Sessions.{has_open_write, is_active, is_call_of, is_joined, is_survey_purpose, joined_after, leaves, leaving_in, leaving_job, recovery_of, refused_after, removed_after, sessions}
use Rattle.sl_trace.specs.declared.session.Begun.{Begun}
use Rattle.sl_trace.specs.declared.session.Session.{Session}
use Rattle.sl_due_facts.specs.Facts.JobFacts.{FitsCommand}
use Rattle.sl_due_facts.specs.Facts.AllFacts.{Whole}
use Rattle.sl_trace.specs.Traces.{Job, Setting, Submitted, Trace, is_running, job_in, job_numbered, job_of, jobs, line_in, next_job, running_jobs, submitted}
use Rattle.sl_trace.specs.declared.command.Command.TheVariants.{Acquire, AddLockspace, Convert, GetLvb, HostStatus, InqLockspace, Release, ReleaseOrphan, RemLockspace, Request, RunProgram, SetKillpath, SetLvb, Status, TakeOver}
use Rattle.sl_trace.specs.declared.command.Command.{Command}
use Rattle.sl_trace.specs.declared.command.ResourceArg.{ResourceArg}
use Rattle.sl_trace.specs.declared.effects.Entry.{Entry}
use Rattle.sl_trace.specs.declared.effects.JobReply.{JobReply}
use Rattle.sl_trace.specs.declared.effects.Purpose.TheVariants.{Joining, Lease, Leaving, Renewal, RequestRead, RequestWrite, SeeRequest, Survey, ValueRead, ValueWrite}
use Rattle.sl_trace.specs.declared.effects.Purpose.{Purpose}
use Rattle.sl_trace.specs.declared.input.Answer.{Answer}
use Rattle.sl_trace.specs.declared.input.Input.TheVariants.{Wake}
use Rattle.sl_words.proofs.Lists.{contains_none, find_inside, kept}
use Rattle.sl_words.proofs.Numbers.{less_is_other, number_itself}
use Rattle.sl_words.proofs.Options.{then_value}
use Rattle.sl_run_law.proofs.Leases.NumberLaws.{number_is_place}
use Rattle.sl_words.proofs.CaseLaws.{false_is_true, none_some, some_value, true_is_false}
use Rattle.sl_words.proofs.WordLaws.{choose_some}
use Rattle.sl_words.specs.Words.{choose, some_is}
use Rattle.std.proofs.Common.{ap, eqb-true, refl, subst, sym, ◌∙◌}
use Rattle.std.proofs.lemmas.Slice.Eq.{bytes_eq-Decides}
use Rattle.std.specs.List.{list_any}
use Rattle.std.specs.Prelude.{Bool, Contains, IsSome, Err, List, None, Ok, Option, Result, Some, [], bytes_eq, cond, false, find, is_none, is_some, length, not, true, ℕ, ◌&&◌, ◌++◌, ◌==◌, ◌||◌, ◌∷◌, ◌≡◌}

-- Where an answer to a running job's work on an area is heard, its session is active.
pub record WorkIsActive (x : Step) : Type 0 where
  pub each : (s : Session) (m : Submitted) (a : Answer) (j : ℕ) → Hears x s m a → is_area_work m.call.purpose ≡ true → job_of m.call.purpose ≡ Some j →
      is_running (seen x) j ≡ true → is_active x.setting (seen x) s ≡ true

-- ---- the job of a leaving

find_front : (p : Job → Bool) (xs ys : List Job) (v : Job) → find p xs ≡ Some v → find p (xs ++ ys) ≡ Some v
find_front p [] ys v is = absurd (none_some v is)
find_front p (x ∷ xs) ys v is = by (p x) is (λ rest. find_front p xs ys v rest) where
  by : (b : Bool) → cond b (Some x) (find p xs) ≡ Some v → (find p xs ≡ Some v → find p (xs ++ ys) ≡ Some v) → cond b (Some x) (find p (xs ++ ys)) ≡ Some v
  by true at rest = at
  by false at rest = rest at

abbrev line_job : Setting → Trace → Entry → List ℕ → Job
line_job st es e text = record { number = next_job st es; at = length es; reading = e.reading; command = st.read text }

record LeftSo (st : Setting) (t : Trace) (s : Session) (k : Job) : Type 0 where
  numbered : job_numbered st t k.number ≡ Some k
  leaving : leaves s k.command ≡ true

left_so : (st : Setting) (t : Trace) (s : Session) (k : Job) → leaving_job st t s ≡ Some k → LeftSo st t s k
left_so st [] s k is = absurd (none_some k is)
left_so st (e ∷ es) s k is = by (leaving_job st es s) refl (λ was. left_so st es s k was) is where
  made : (text : List ℕ) → line_in e.input ≡ Some text → leaves s (st.read text) ≡ true → k ≡ line_job st es e text → LeftSo st (e ∷ es) s k
  made text line leaving same =
      subst (λ z. LeftSo st (e ∷ es) s z) (sym same)
      (record {
        numbered =
            ap (λ o. find (λ (j : Job). j.number == next_job st es) (jobs st es ++ (elim o as (λ z. List Job) [ None ↦ [] | Some t ↦ line_job st es e t ∷ [] ]))) line
            ∙ find_last (next_job st es) (jobs st es) (line_job st es e text) (λ j there. less_is_other j.number (next_job st es) (jobs_below st es j there)) (number_itself (next_job st es));
        leaving = leaving;
      })

  chosen : (text : List ℕ) → line_in e.input ≡ Some text → (b : Bool) → leaves s (st.read text) ≡ b
      → elim b as (λ z. Option Job) [ false ↦ None | true ↦ choose (is_joined es s && not (list_any (λ (a : JobReply). a.job == next_job st es) e.effects.replies)) (line_job st es e text) ] ≡ Some k → LeftSo st (e ∷ es) s k
  chosen text line false leaving h = absurd (none_some k h)
  chosen text line true leaving h =
      made text line leaving (sym (choose_some (is_joined es s && not (list_any (λ (a : JobReply). a.job == next_job st es) e.effects.replies)) (line_job st es e text) k h).1)

  new : (o : Option (List ℕ)) → line_in e.input ≡ o → elim o as (λ z. Option Job) [
    | None ↦ None
    | Some text ↦ elim (leaves s (st.read text)) as (λ z. Option Job) [
      | false ↦ None
      | true ↦ choose (is_joined es s && not (list_any (λ (a : JobReply). a.job == next_job st es) e.effects.replies)) (line_job st es e text)
    ]
  ] ≡ Some k → LeftSo st (e ∷ es) s k
  new None line h = absurd (none_some k h)
  new (Some text) line h = chosen text line (leaves s (st.read text)) refl h

  by : (o : Option Job) → leaving_job st es s ≡ o → (leaving_job st es s ≡ Some k → LeftSo st es s k) → elim o as (λ z. Option Job) [ Some j ↦ Some j | None ↦ leaving_in st es s e ] ≡ Some k → LeftSo st (e ∷ es) s k
  by (Some j) was before h =
      let b : LeftSo st es s k = before (was ∙ h) in record { numbered = find_front (λ (z : Job). z.number == k.number) (jobs st es) (job_in st es (next_job st es) e) k b.numbered; leaving = b.leaving }
  by None was before h = new (line_in e.input) refl h

-- ---- what its job names

named_so : (c : Command) (r : ResourceArg) → resource_named c ≡ Some r → lockspace_named c ≡ Some r.lockspace
named_so (Acquire a shared p persistent) r is = ap (λ (z : ResourceArg). let o : Option (List ℕ) = Some z.lockspace in o) (some_value a r is)
named_so (TakeOver a shared p persistent) r is = ap (λ (z : ResourceArg). let o : Option (List ℕ) = Some z.lockspace in o) (some_value a r is)
named_so (Release a p) r is = ap (λ (z : ResourceArg). let o : Option (List ℕ) = Some z.lockspace in o) (some_value a r is)
named_so (ReleaseOrphan a) r is = ap (λ (z : ResourceArg). let o : Option (List ℕ) = Some z.lockspace in o) (some_value a r is)
named_so (Convert a shared p) r is = ap (λ (z : ResourceArg). let o : Option (List ℕ) = Some z.lockspace in o) (some_value a r is)
named_so (RunProgram a shared path) r is = ap (λ (z : ResourceArg). let o : Option (List ℕ) = Some z.lockspace in o) (some_value a r is)
named_so (Request a lver force) r is = ap (λ (z : ResourceArg). let o : Option (List ℕ) = Some z.lockspace in o) (some_value a r is)
named_so (GetLvb a p) r is = ap (λ (z : ResourceArg). let o : Option (List ℕ) = Some z.lockspace in o) (some_value a r is)
named_so (SetLvb a p bytes) r is = ap (λ (z : ResourceArg). let o : Option (List ℕ) = Some z.lockspace in o) (some_value a r is)
named_so (RemLockspace a) r is = absurd (none_some r is)
named_so (AddLockspace a) r is = absurd (none_some r is)
named_so (InqLockspace a) r is = absurd (none_some r is)
named_so (HostStatus a) r is = absurd (none_some r is)
named_so (SetKillpath p path) r is = absurd (none_some r is)
named_so Status r is = absurd (none_some r is)

unleft : (s : Session) (c : Command) (r : ResourceArg) → resource_named c ≡ Some r → leaves s (Ok c) ≡ false
unleft s (Acquire a shared p persistent) r is = refl
unleft s (TakeOver a shared p persistent) r is = refl
unleft s (Release a p) r is = refl
unleft s (ReleaseOrphan a) r is = refl
unleft s (Convert a shared p) r is = refl
unleft s (RunProgram a shared path) r is = refl
unleft s (Request a lver force) r is = refl
unleft s (GetLvb a p) r is = refl
unleft s (SetLvb a p bytes) r is = refl
unleft s (RemLockspace a) r is = absurd (none_some r is)
unleft s (AddLockspace a) r is = absurd (none_some r is)
unleft s (InqLockspace a) r is = absurd (none_some r is)
unleft s (HostStatus a) r is = absurd (none_some r is)
unleft s (SetKillpath p path) r is = absurd (none_some r is)
unleft s Status r is = absurd (none_some r is)

pub record NamesIts (s : Session) (c : Command) : Type 0 where
  pub resource : ResourceArg
  pub named : resource_named c ≡ Some resource
  pub lockspace : resource.lockspace ≡ s.lockspace

pub names_its : (st : Setting) (s : Session) (m : Submitted) (c : Command) (p : Purpose) → is_area_work p ≡ true → FitsCommand st s m c p → NamesIts s c
names_its st s m c (Lease work step) area f = record { resource = f.0; named = f.1; lockspace = f.3.0 }
names_its st s m c (RequestRead j) area f = record { resource = f.0; named = ap (λ z. resource_named z) f.3; lockspace = f.4.0 }
names_its st s m c (RequestWrite j o) area f = record { resource = f.0; named = ap (λ z. resource_named z) f.3; lockspace = f.4.0 }
names_its st s m c (ValueRead j) area f = record { resource = f.0; named = ap (λ z. resource_named z) f.2; lockspace = f.3.0 }
names_its st s m c (ValueWrite j) area f = record { resource = f.0; named = ap (λ z. resource_named z) f.3; lockspace = f.4.0 }
names_its st s m c (Joining j step) area f = absurd (false_is_true area)
names_its st s m c Renewal area f = absurd (false_is_true area)
names_its st s m c Survey area f = absurd (false_is_true area)
names_its st s m c (Leaving j) area f = absurd (false_is_true area)
names_its st s m c SeeRequest area f = absurd (false_is_true area)

-- A running job of the session.
pub record ItsJob (st : Setting) (t : Trace) (s : Session) (j : ℕ) (c : Command) : Type 0 where
  pub job : Job
  pub numbered : job_numbered st t j ≡ Some job
  pub command : command_of job ≡ Some c
  pub number : job.number ≡ j
  pub inside : Contains (jobs_of_session st t s) job

-- A command's resource is in the lockspace that it names.
pub in_lockspace : (s : Session) (c : Command) → NamesIts s c → lockspace_named c ≡ Some s.lockspace
in_lockspace s c names = named_so c names.resource names.named ∙ ap (λ n. Some n) names.lockspace

pub its_job : (st : Setting) (t : Trace) (s : Session) (j : ℕ) (c : Command) → command_numbered st t j ≡ Some c → is_running t j ≡ true → lockspace_named c ≡ Some s.lockspace → ItsJob st t s j c
its_job st t s j c command runs names =
    let v = then_value (λ (q : Job). command_of q) (job_numbered st t j) c command in
    let q : Job = v.0 in
    let found = find_inside (λ (k : Job). k.number == j) (jobs st t) q v.1 in
    let number : q.number ≡ j = eqb-true q.number j found.1 in
    let same : bytes_eq s.lockspace s.lockspace ≡ true = (bytes_eq-Decides s.lockspace s.lockspace).1 refl in
    let passes : is_command_that (λ c. some_is (λ n. bytes_eq n s.lockspace) (lockspace_named c)) q ≡ true =
    ap (λ o. some_is (λ c. some_is (λ n. bytes_eq n s.lockspace) (lockspace_named c)) o) v.2 ∙ (ap (λ o. some_is (λ n. bytes_eq n s.lockspace) o) names ∙ same)
    in
    record {
      job = q;
      numbered = v.1;
      command = v.2;
      number = number;
      inside = kept (is_command_that (λ c. some_is (λ n. bytes_eq n s.lockspace) (lockspace_named c))) (running_jobs st t) q passes
          (kept (λ (k : Job). is_running t k.number) (jobs st t) q (ap (λ n. is_running t n) number ∙ runs) found.0);
    }

ok_command : (r : Result Command ℕ) (c : Command) → elim r as (λ z. Option Command) [ Ok d ↦ Some d | Err e ↦ None ] ≡ Some c → r ≡ Ok c
ok_command (Ok d) c is = ap (λ z. Ok z) (some_value d c is)
ok_command (Err e) c is = absurd (none_some c is)

-- ---- its session

present_unremoved : (joined removed refused : Option ℕ) (w : Bool) → is_some joined ≡ true → (is_none (elim joined as (λ z. Option ℕ) [ Some k ↦ removed | None ↦ refused ]) || is_none joined && w) ≡ true → is_none removed ≡ true
present_unremoved (Some k) None refused w some is = refl
present_unremoved (Some k) (Some i) refused w some is = absurd (false_is_true is)
present_unremoved None removed refused w some is = absurd (false_is_true some)

all_true : (a b c d : Bool) → a ≡ true → b ≡ true → c ≡ true → d ≡ true → ((a && b) && c && d) ≡ true
all_true true true true true a b c d = refl
all_true false q r s a b c d = absurd (false_is_true a)
all_true true false r s a b c d = absurd (false_is_true b)
all_true true true false s a b c d = absurd (false_is_true c)
all_true true true true false a b c d = absurd (false_is_true d)

area_no_survey : (p : Purpose) → is_area_work p ≡ true → is_survey_purpose p ≡ false
area_no_survey (Lease work step) area = refl
area_no_survey (RequestRead j) area = refl
area_no_survey (RequestWrite j o) area = refl
area_no_survey (ValueRead j) area = refl
area_no_survey (ValueWrite j) area = refl
area_no_survey (Joining j step) area = refl
area_no_survey Renewal area = refl
area_no_survey Survey area = absurd (false_is_true area)
area_no_survey (Leaving j) area = refl
area_no_survey SeeRequest area = refl

and_false : (a b : Bool) → b ≡ false → (a && b) ≡ false
and_false true b is = is
and_false false b is = refl

pub work_is_active : (x : Step) → Whole x → WorkIsActive x
work_is_active x w = record { each = λ s m a j h area its runs. by_command s m a j h area its runs (command_numbered x.setting (seen x) j) refl (w.facts.jobs.called m j (heard_call x s m a h w).there its) } where
  joined : (s : Session) (m : Submitted) (a : Answer) → (h : Hears x s m a) → is_area_work m.call.purpose ≡ true → is_some (joined_after (seen x) s) ≡ true
  joined s m a h area = by (joined_after (seen x) s) refl where
    by : (o : Option ℕ) → joined_after (seen x) s ≡ o → is_some o ≡ true
    by (Some k) is = refl
    by None is =
        let own : is_call_of s m ≡ true = ap (λ k. k == s.number) (sym (number_is_place x.setting (seen x) m.call.session s h.session)) ∙ number_itself s.number in
        absurd (true_is_false (sym area ∙ no_area_work x s w (heard_has x s m a h) is m (kept (is_call_of s) (submitted (seen x)) m own (heard_call x s m a h w).there)))

  active : (s : Session) (m : Submitted) (a : Answer) (j : ℕ) → (h : Hears x s m a) → is_area_work m.call.purpose ≡ true → job_of m.call.purpose ≡ Some j → is_running (seen x) j ≡ true
      → (c : Command) → command_numbered x.setting (seen x) j ≡ Some c → is_active x.setting (seen x) s ≡ true
  active s m a j h area its runs c command =
      let names : NamesIts s c = names_its x.setting s m c m.call.purpose area (w.facts.jobs.fits m j s c (heard_call x s m a h w).there its h.session command) in
      let job : ItsJob x.setting (seen x) s j c = its_job x.setting (seen x) s j c command runs (in_lockspace s c names) in
      let there : Contains (sessions x.setting (seen x)) s = there_has x.setting (seen x) m.call.session s h.session in
      let some : is_some (joined_after (seen x) s) ≡ true = joined s m a h area in
      let unremoved : is_none (removed_after (seen x) s) ≡ true = present_unremoved (joined_after (seen x) s) (removed_after (seen x) s) (refused_after (seen x) s) (has_open_write (seen (with_input Wake x)) s) some h.present in
      let is_in : is_joined (seen x) s ≡ true = ap (λ b. b && is_none (removed_after (seen x) s)) some ∙ unremoved in
      all_true (is_some (joined_after (seen x) s)) (is_none (removed_after (seen x) s)) (is_none (recovery_of x.setting (seen x) s)) (is_none (leaving_job x.setting (seen x) s)) some unremoved
      (well job there is_in (recovery_of x.setting (seen x) s) refl) (staying names job there is_in (leaving_job x.setting (seen x) s) refl)
    where
      well : ItsJob x.setting (seen x) s j c → Contains (sessions x.setting (seen x)) s → is_joined (seen x) s ≡ true → (o : Option Begun) → recovery_of x.setting (seen x) s ≡ o → is_none o ≡ true
      well job there is_in None is = refl
      well job there is_in (Some b) is =
          absurd (contains_none job.job (subst (λ js. Contains js job.job) (w.facts.quiet.recovering s there (ap (λ q. q && is_some (recovery_of x.setting (seen x) s)) is_in ∙ ap (λ o. is_some o) is)
          (and_false (is_some (heard_by x.input)) (begins_by_read (seen x) (recovery_of x.setting (seen x) s)) (not_by_read x s s m a h (area_no_survey m.call.purpose area) w))) job.inside))

      staying : NamesIts s c → ItsJob x.setting (seen x) s j c → Contains (sessions x.setting (seen x)) s → is_joined (seen x) s ≡ true → (o : Option Job) → leaving_job x.setting (seen x) s ≡ o → is_none o ≡ true
      staying names job there is_in None is = refl
      staying names job there is_in (Some k) is =
          let number : job.job.number ≡ k.number = w.facts.quiet.leaving s k job.job there is_in is job.inside in
          let left : LeftSo x.setting (seen x) s k = left_so x.setting (seen x) s k is in
          let same : job.job ≡ k = some_value job.job k (sym job.numbered ∙ (ap (λ n. job_numbered x.setting (seen x) n) (sym job.number ∙ number) ∙ left.numbered)) in
          let says : k.command ≡ Ok c = ok_command k.command c (ap (λ (z : Job). command_of z) (sym same) ∙ job.command) in
          absurd (true_is_false (sym left.leaving ∙ (ap (λ z. leaves s z) says ∙ unleft s c names.resource names.named)))

  by_command : (s : Session) (m : Submitted) (a : Answer) (j : ℕ) → (h : Hears x s m a) → is_area_work m.call.purpose ≡ true → job_of m.call.purpose ≡ Some j → is_running (seen x) j ≡ true
      → (o : Option Command) → command_numbered x.setting (seen x) j ≡ o → IsSome o → is_active x.setting (seen x) s ≡ true
  by_command s m a j h area its runs None is some = absurd (false_is_true some)
  by_command s m a j h area its runs (Some c) is some = active s m a j h area its runs c is
