-- What is known of calls and of jobs is kept by each effect that is allowed, and by the input.
use Rattle.sl_due_facts.proofs.Acts.AddedAtEnd.{contains_last}
use Rattle.sl_due_facts.specs.Acts.Acts.{Expects}
use Rattle.sl_due_facts.specs.Acts.TraceSoFar.{entry_of}
use Rattle.sl_due.specs.Steps.{Step, add_call_of, add_reply, add_start, seen, with_input}
use Rattle.sl_due_facts.proofs.Jobs.CallsHaveFacts.{calls_before, calls_told, input_kept, one_more, sessions_told}
use Rattle.sl_due_facts.proofs.Jobs.CallsStay.{IsLate, calls_stay}
use Rattle.sl_due_facts.proofs.Jobs.JobsAreNumbered.{numbered_seen}
use Rattle.sl_due_facts.proofs.Jobs.SessionsHaveJobs.{contains_either, joined_by}
use Rattle.sl_due_facts.specs.Jobs.JobLaws.{HasCallFacts, HasJobFacts}
use Rattle.sl_trace.specs.Jobs.{command_numbered, command_of}
use Rattle.sl_trace.specs.Leases.{spot_of_call}
use Rattle.sl_due_facts.proofs.AddedEffects.EffectsAreTold.{effects_are_told}
use Rattle.sl_words.proofs.Lists.{any_found, contains_cases, contains_first, contains_map, contains_more, contains_none, in_map, kept_inside}
use Rattle.sl_words.proofs.Options.{none_is, some_of, then_value}
use Rattle.sl_trace.specs.Sessions.{joining_session, session_numbered, sessions}
use Rattle.sl_trace.specs.declared.session.Session.{Session}
use Rattle.sl_due_facts.specs.Facts.HeardCall.{IsOpen, heard_by}
use Rattle.sl_due_facts.specs.Facts.JobFacts.{FitsCommand}
use Rattle.sl_trace.proofs.TraceFacts.{submitted-push}
use Rattle.sl_trace.specs.Traces.{Child, Job, Setting, Submitted, Trace, call_numbered, child_after, children, is_answer_for, is_before_input, is_expected, is_running, job_numbered, job_of, jobs, new_call, new_child, next_call, outstanding, submitted}
use Rattle.sl_trace.specs.declared.command.Command.{Command}
use Rattle.sl_trace.specs.declared.command.Command.TheVariants.{AddLockspace, RunProgram}
use Rattle.sl_trace.specs.declared.command.LockspaceArg.{LockspaceArg}
use Rattle.sl_trace.specs.declared.command.ResourceArg.{ResourceArg}
use Rattle.sl_trace.specs.declared.effects.Call.{Call}
use Rattle.sl_trace.specs.declared.effects.Op.{Op}
use Rattle.sl_trace.specs.declared.effects.Purpose.{Purpose}
use Rattle.sl_trace.specs.declared.effects.Purpose.TheVariants.{Joining, Lease, Leaving, Renewal, RequestRead, RequestWrite, SeeRequest, Survey, ValueRead, ValueWrite}
use Rattle.sl_trace.specs.declared.effects.Start.{Start}
use Rattle.sl_trace.specs.declared.input.Answer.{Answer}
use Rattle.sl_trace.specs.declared.input.Input.{Input}
use Rattle.sl_trace.specs.declared.input.Input.TheVariants.{Answer as Told, Exit, Spawned, Wake}
use Rattle.sl_trace.specs.declared.reply.Reply.{Reply}
use Rattle.sl_run_law.proofs.Sessions.CallsAreMade.{WasOpen, was_marked}
use Rattle.sl_words.proofs.CaseLaws.{none_some, one_value, some_value}
use Rattle.sl_words.proofs.WordLaws.{and_true}
use Rattle.std.proofs.Common.{ap, inl, inr, refl, subst, sym, ◌∙◌}
use Rattle.std.proofs.lemmas.Bool.{eqb-true}
use Rattle.std.specs.Option.{option_or}
use Rattle.std.specs.Prelude.{Bool, Contains, IsSome, IsTrue, List, None, Some, [], false, find, is_none, length, map, option_and_then, slice_get, true, ℕ, ◌&&◌, ◌++◌, ◌+◌, ◌<◌, ◌==◌, ◌∷◌, ◌≡◌, ◌⊎◌}

abbrev pub Both : Step → Type 0
Both x = HasCallFacts x × HasJobFacts x

-- A job that a line has brought.
abbrev pub IsNumbered : Step → ℕ → Type 0
IsNumbered x j = IsSome (job_numbered x.setting (seen x) j)

-- No call of the job is unanswered.
abbrev pub IsFree : Step → ℕ → Type 0
IsFree x j = (m : Submitted) → Contains (submitted (seen x)) m → m.answer ≡ None → job_of m.call.purpose ≡ Some j → ⊥

-- A call of the job for this fits its command.
pub record CallFits (x : Step) (s : Session) (path : List ℕ) (p : Purpose) (o : ℕ) (j : ℕ) : Type 0 where
  pub command : Command
  pub reads : command_numbered x.setting (seen x) j ≡ Some command
  pub free : IsFree x j
  pub fits : (m : Submitted) → m.call.path ≡ path → m.call.offset ≡ o → FitsCommand x.setting s m command p

-- What the steps since an act's beginning have left.
pub record Since (x y : Step) : Type 0 where
  pub setting : y.setting ≡ x.setting
  pub before : y.past ≡ x.past
  pub input : y.input ≡ x.input
  pub calls : submitted (seen y) ≡ submitted (seen x)
  pub jobs : jobs y.setting (seen y) ≡ jobs x.setting (seen x)
  pub sessions : sessions y.setting (seen y) ≡ sessions x.setting (seen x)

pub itself : (x : Step) → Since x x
itself x = record { setting = refl; before = refl; input = refl; calls = refl; jobs = refl; sessions = refl }

pub late_since : (x y : Step) (r : Reply) → Since x y → IsLate x r → IsLate y r
late_since x y r h may n a is = by (may n a (sym h.input ∙ is)) where
  by : (is_before_input r ≡ false) ⊎ ((m : Submitted) → Contains (submitted x.past) m → (m.call.number == n) ≡ true → job_of m.call.purpose ≡ None)
      → (is_before_input r ≡ false) ⊎ ((m : Submitted) → Contains (submitted y.past) m → (m.call.number == n) ≡ true → job_of m.call.purpose ≡ None)
  by (inl after) = inl after
  by (inr none) = inr (λ m there its. none m (subst (λ es. Contains (submitted es) m) h.before there) its)

pub numbered_since : (x y : Step) (j : ℕ) → Since x y → IsNumbered x j → IsNumbered y j
numbered_since x y j h is = subst (λ js. IsSome (find (λ (k : Job). k.number == j) js)) (sym h.jobs) is

-- ---- a reply

pub running_more : (x : Step) (j : ℕ) (r : Reply) (k : ℕ) → is_running (seen (add_reply j r x)) k ≡ false → (j ≡ k) ⊎ (is_running (seen x) k ≡ false)
running_more x j r k stops = by (j == k) refl where
  by : (b : Bool) → (j == k) ≡ b → (j ≡ k) ⊎ (is_running (seen x) k ≡ false)
  by true is = inl (eqb-true j k is)
  by false is = inr (ap (λ o. is_none o) (sym (effects_are_told.other_replies (record { job = j; reply = r }) (entry_of x) x.past k is)) ∙ stops)

pub reply_kept : (y : Step) (j : ℕ) (r : Reply) → IsNumbered y j → IsLate y r → Both y → Both (add_reply j r y)
reply_kept y j r its may h = (
  record {
    owned = λ m there. h.0.owned m (was m there);
    found = λ m there. ap (λ ms. find (λ (z : Submitted). z.call.number == m.call.number) ms) same ∙ h.0.found m (was m there);
    below = λ m there. subst (λ ms. m.call.number < y.setting.first.call + length ms) (sym same) (h.0.below m (was m there));
    made = λ m there. h.0.made m (was m there);
    later = λ m a there is. h.0.later m a (was m there) is;
    fits = λ m a there is. h.0.fits m a (was m there) is;
  },
  record {
    replied = λ k stops. by k (running_more y j r k stops);
    called = λ m k there of. h.1.called m k (was m there) of;
    joins = h.1.joins;
    starts = h.1.starts;
    fits = λ m k s c there of sessions command. h.1.fits m k s c (was m there) of sessions command;
    one = λ m n k a b first second of also. h.1.one m n k (was m a) (was n b) first second of also;
  },
) where
  same : submitted (seen (add_reply j r y)) ≡ submitted (seen y)
  same = calls_stay y j r may

  was : (m : Submitted) → Contains (submitted (seen (add_reply j r y))) m → Contains (submitted (seen y)) m
  was m there = subst (λ ms. Contains ms m) (calls_stay y j r may) there

  by : (k : ℕ) → (j ≡ k) ⊎ (is_running (seen y) k ≡ false) → IsSome (job_numbered y.setting (seen y) k)
  by k (inl is) = subst (λ n. IsNumbered y n) is its
  by k (inr old) = h.1.replied k old

-- ---- a start

pub start_kept : (y : Step) (k : Start) → ((j : ℕ) → k.job ≡ Some j → (r : ResourceArg) × (shared : Bool) × (path : List ℕ) × (command_numbered y.setting (seen y) j ≡ Some (RunProgram r shared path))) → Both y → Both (add_start k y)
start_kept y k its h = (
  record { owned = h.0.owned; found = h.0.found; below = h.0.below; made = h.0.made; later = h.0.later; fits = h.0.fits },
  record {
    replied = h.1.replied;
    called = h.1.called;
    joins = h.1.joins;
    starts = λ c j there of. by c j of (contains_last (children (seen y)) (new_child k) c (subst (λ cs. Contains cs c) (effects_are_told.starts k (entry_of y) y.past) there));
    fits = h.1.fits;
    one = h.1.one;
  },
) where
  by : (c : Child) (j : ℕ) → c.job ≡ Some j → Contains (children (seen y)) c ⊎ (new_child k ≡ c) → (r : ResourceArg) × (shared : Bool) × (path : List ℕ) × (command_numbered y.setting (seen y) j ≡ Some (RunProgram r shared path))
  by c j of (inl old) = h.1.starts c j old of
  by c j of (inr new) = its j (ap (λ (z : Child). z.job) new ∙ of)

-- ---- a call

nothing_there : {A : Type 0} (xs : List A) (y : A) → xs ++ y ∷ [] ≡ [] → ⊥
nothing_there xs y is = contains_none y (subst (λ zs. Contains zs y) is (last_inside xs y)) where
  last_inside : {A : Type 0} (xs : List A) (y : A) → Contains (xs ++ y ∷ []) y
  last_inside [] y = contains_first y []
  last_inside (x ∷ xs) y = contains_more x (xs ++ y ∷ []) y (last_inside xs y)

pub call_kept : (y : Step) (s : Session) (path : List ℕ) (p : Purpose) (o : ℕ) (op : Op) → session_numbered y.setting (seen (add_call_of s.number path p o op y)) s.number ≡ Some s
    → ((n : ℕ) (z : Session) → session_numbered y.setting (seen y) n ≡ Some z → session_numbered y.setting (seen (add_call_of s.number path p o op y)) n ≡ Some z)
    → ((j : ℕ) → job_of p ≡ Some j → CallFits y s path p o j) → Both y → Both (add_call_of s.number path p o op y)
call_kept y s path p o op its stays may h = (
  one_more y s path p o op (subst (λ q. IsSome q) (sym its) refl) stays h.0,
  record {
    replied = h.1.replied;
    called = λ m k there of. called m k of (among m there);
    joins = λ z k there of. joins z k there of;
    starts = h.1.starts;
    fits = λ m k z c there of session command. fits m k z c of session command (among m there);
    one = λ m n k a b first second of also. one m n k of also (open_now m first) (open_now n second) (among m a) (among n b);
  },
) where
  made : Call
  made = record { number = next_call y.setting (seen y); session = s.number; purpose = p; path = path; offset = o; op = op }

  new : Submitted
  new = new_call (length y.past) y.reading made

  among : (m : Submitted) → Contains (submitted (seen (add_call_of s.number path p o op y))) m → (new ≡ m) ⊎ Contains (submitted (seen y)) m
  among m there = contains_cases new (submitted (seen y)) m (subst (λ ms. Contains ms m) (submitted-push y.past (entry_of y) made) there)

  joins : (z : Session) (k : ℕ) → Contains (sessions y.setting (seen (add_call_of s.number path p o op y))) z → z.job ≡ Some k
      → (a : LockspaceArg) × (command_numbered y.setting (seen y) k ≡ Some (AddLockspace a)) × (z ≡ joining_session z.number k a)
  joins z k there of = let by = joined_by y.setting (seen (add_call_of s.number path p o op y)) z k there of in (by.arg, by.command, by.session)

  called : (m : Submitted) (k : ℕ) → job_of m.call.purpose ≡ Some k → (new ≡ m) ⊎ Contains (submitted (seen y)) m → IsSome (command_numbered y.setting (seen y) k)
  called m k of (inl is) =
      let fit = may k (ap (λ (z : Submitted). job_of z.call.purpose) is ∙ of) in subst (λ q. IsSome q) (sym fit.reads) refl
  called m k of (inr old) = h.1.called m k old of

  fits : (m : Submitted) (k : ℕ) (z : Session) (c : Command) → job_of m.call.purpose ≡ Some k → session_numbered y.setting (seen (add_call_of s.number path p o op y)) m.call.session ≡ Some z
      → command_numbered y.setting (seen y) k ≡ Some c → (new ≡ m) ⊎ Contains (submitted (seen y)) m → FitsCommand y.setting z m c m.call.purpose
  fits m k z c of session command (inl is) =
      let fit = may k (ap (λ (x : Submitted). job_of x.call.purpose) is ∙ of) in
      let same : s ≡ z = one_value s z (session_numbered y.setting (seen (add_call_of s.number path p o op y)) s.number) its (ap (λ (x : Submitted). session_numbered y.setting (seen (add_call_of s.number path p o op y)) x.call.session) is ∙ session) in
      let cs : fit.command ≡ c = one_value fit.command c (command_numbered y.setting (seen y) k) fit.reads command in
      let for : FitsCommand y.setting s m fit.command p = fit.fits m (ap (λ (x : Submitted). x.call.path) (sym is)) (ap (λ (x : Submitted). x.call.offset) (sym is)) in
      subst (λ (q : Purpose). FitsCommand y.setting z m c q) (ap (λ (x : Submitted). x.call.purpose) is) (subst (λ (b : Command). FitsCommand y.setting z m b p) cs (subst (λ (x : Session). FitsCommand y.setting x m fit.command p) same for))
  fits m k z c of session command (inr old) =
      let was = some_of (session_numbered y.setting (seen y) m.call.session) (h.0.owned m old) in
      let same : was.0 ≡ z = one_value was.0 z (session_numbered y.setting (seen (add_call_of s.number path p o op y)) m.call.session) (stays m.call.session was.0 was.1) session in
      subst (λ (x : Session). FitsCommand y.setting x m c m.call.purpose) same (h.1.fits m k was.0 c old of was.1 command)

  open_now : (m : Submitted) → IsOpen (seen (add_call_of s.number path p o op y)) (heard_by y.input) m → m.answer ≡ None
  open_now m (inl none) = none
  open_now m (inr heard) = absurd (nothing_there y.effects.calls made heard.1)

  one : (m n : Submitted) (k : ℕ) → job_of m.call.purpose ≡ Some k → job_of n.call.purpose ≡ Some k → m.answer ≡ None → n.answer ≡ None → (new ≡ m) ⊎ Contains (submitted (seen y)) m
      → (new ≡ n) ⊎ Contains (submitted (seen y)) n → m ≡ n
  one m n k of also first second (inl is) (inl same) = sym is ∙ same
  one m n k of also first second (inl is) (inr old) = absurd ((may k (ap (λ (x : Submitted). job_of x.call.purpose) is ∙ of)).free n old second also)
  one m n k of also first second (inr old) (inl is) = absurd ((may k (ap (λ (x : Submitted). job_of x.call.purpose) is ∙ also)).free m old first of)
  one m n k of also first second (inr old) (inr older) = h.1.one m n k old older (inl first) (inl second) of also

-- ---- the input

pub contains_left : {A : Type 0} (xs ys : List A) (d : A) → Contains xs d → Contains (xs ++ ys) d
contains_left [] ys d there = absurd (contains_none d there)
contains_left {A} (x ∷ xs) ys d there = by (contains_cases x xs d there) (λ old. contains_left xs ys d old) where
  by : (x ≡ d) ⊎ Contains xs d → (Contains xs d → Contains (xs ++ ys) d) → Contains (x ∷ xs ++ ys) d
  by (inl is) more = subst (λ z. Contains (x ∷ xs ++ ys) z) is (contains_first x (xs ++ ys))
  by (inr old) more = contains_more x (xs ++ ys) d (more old)

pub contains_right : {A : Type 0} (xs ys : List A) (d : A) → Contains ys d → Contains (xs ++ ys) d
contains_right [] ys d there = there
contains_right (x ∷ xs) ys d there = contains_more x (xs ++ ys) d (contains_right xs ys d there)

-- What fits a command is asked of the call alone.
same_fit : (st : Setting) (s : Session) (c : Command) (b m : Submitted) → b.call ≡ m.call → (p : Purpose) → FitsCommand st s b c p → FitsCommand st s m c p
same_fit st s c b m is (Joining j step) h = h
same_fit st s c b m is (Leaving j) h = h
same_fit st s c b m is (Lease work step) h = (h.0, h.1, h.2, (h.3.0, ap (λ (d : Call). spot_of_call st.layout (new_call 0 0 d)) (sym is) ∙ h.3.1), h.4)
same_fit st s c b m is (RequestRead j) h = (h.0, h.1, h.2, h.3, (h.4.0, ap (λ (d : Call). spot_of_call st.layout (new_call 0 0 d)) (sym is) ∙ h.4.1))
same_fit st s c b m is (RequestWrite j owner) h = (h.0, h.1, h.2, h.3, (h.4.0, ap (λ (d : Call). spot_of_call st.layout (new_call 0 0 d)) (sym is) ∙ h.4.1))
same_fit st s c b m is (ValueRead j) h = (h.0, h.1, h.2, (h.3.0, ap (λ (d : Call). spot_of_call st.layout (new_call 0 0 d)) (sym is) ∙ h.3.1))
same_fit st s c b m is (ValueWrite j) h = (h.0, h.1, h.2, h.3, (h.4.0, ap (λ (d : Call). spot_of_call st.layout (new_call 0 0 d)) (sym is) ∙ h.4.1))
same_fit st s c b m is Renewal h = h
same_fit st s c b m is Survey h = h
same_fit st s c b m is SeeRequest h = h

pub child_job : (i : Input) (k : Child) → (child_after i k).job ≡ k.job
child_job (Spawned p ok) k = by (p == k.process) where
  by : (b : Bool) → (elim b as (λ z. Child) [ false ↦ k | true ↦ record k { answer = option_or k.answer (Some ok) } ]).job ≡ k.job
  by false = refl
  by true = refl
child_job (Exit p) k = by (p == k.process) where
  by : (b : Bool) → (elim b as (λ z. Child) [ false ↦ k | true ↦ record k { exited = true } ]).job ≡ k.job
  by false = refl
  by true = refl
child_job i k = refl

-- A child that the input has changed has its job from before.
child_before : (x : Step) (i : Input) (k : Child) (j : ℕ) → Contains (children (seen (with_input i x))) k → k.job ≡ Some j → (c : Child) × Contains (children (seen x)) c × (c.job ≡ Some j)
child_before x i k j there of = by (contains_either (map (child_after i) (children x.past)) (map new_child x.effects.starts) k there) where
  by : Contains (map (child_after i) (children x.past)) k ⊎ Contains (map new_child x.effects.starts) k → (c : Child) × Contains (children (seen x)) c × (c.job ≡ Some j)
  by (inl old) =
      let was = in_map (child_after i) (children x.past) k old in (
        child_after x.input was.0,
        contains_left (map (child_after x.input) (children x.past)) (map new_child x.effects.starts) (child_after x.input was.0) (contains_map (child_after x.input) (children x.past) was.0 was.1),
        child_job x.input was.0 ∙ (sym (child_job i was.0) ∙ (ap (λ (c : Child). c.job) was.2 ∙ of)),
      )
  by (inr new) = (k, contains_right (map (child_after x.input) (children x.past)) (map new_child x.effects.starts) k new, of)

-- An expected answer is that of a call that had none.
pub was_unanswered : (st : Setting) (es : Trace) (k : ℕ) (ans : Answer) (b : Submitted) → IsTrue (is_expected st es (Told k ans)) → ((d : Submitted) → Contains (submitted es) d → call_numbered es d.call.number ≡ Some d)
    → Contains (submitted es) b → b.call.number ≡ k → b.answer ≡ None
was_unanswered st es k ans b expected found there number =
    let open_one = any_found (λ (d : Submitted). d.call.number == k && is_answer_for st ans d.call.op) (outstanding es) expected in
    let d : Submitted = open_one.0 in
    let both = and_true (d.call.number == k) (is_answer_for st ans d.call.op) open_one.2 in
    let inside = kept_inside (λ (z : Submitted). is_none z.answer) (submitted es) d open_one.1 in
    let numbers : d.call.number ≡ b.call.number = eqb-true d.call.number k both.0 ∙ sym number in
    let one : d ≡ b = one_value d b (call_numbered es b.call.number) (subst (λ n. call_numbered es n ≡ Some d) numbers (found d inside.0)) (found b there) in
    subst (λ (z : Submitted). z.answer ≡ None) one (none_is d.answer inside.1)

pub input_sees : (x : Step) (i : Input) → x.input ≡ Wake → x.effects.calls ≡ [] → Expects x i → Both x → Both (with_input i x)
input_sees x i wake bare expected h = (
  after,
  record {
    replied = λ k stops. let job = some_of (job_numbered x.setting (seen x) k) (h.1.replied k stops) in subst (λ q. IsSome q) (sym (numbered_seen x i wake k job.0 job.1)) refl;
    called = λ m k there of. let was = before m there in
        let command = some_of (command_numbered x.setting (seen x) k) (h.1.called was.before k (now was.before was.inside) (ap (λ (c : Call). job_of c.purpose) (sym was.same.call) ∙ of)) in
        subst (λ q. IsSome q) (sym (commands k command.0 command.1)) refl;
    joins = λ z k there of. let by = joined_by x.setting (seen (with_input i x)) z k there of in (by.arg, by.command, by.session);
    starts = λ k j there of. let was = child_before x i k j there of in let its = h.1.starts was.0 j was.1 was.2 in (its.0, its.1, its.2, commands j (RunProgram its.0 its.1 its.2) its.3);
    fits = λ m k s c there of session command. fits m k s c of session command (before m there);
    one = λ m n k a b first second of also. one m n k a b first second of also (before m a) (before n b);
  },
) where
  after : HasCallFacts (with_input i x)
  after = input_kept x i wake bare expected h.0

  now : (b : Submitted) → Contains (submitted x.past) b → Contains (submitted (seen x)) b
  now b there = subst (λ ms. Contains ms b) (sym (calls_before x wake bare)) there

  before : (m : Submitted) → Contains (submitted (seen (with_input i x))) m → WasOpen (submitted x.past) m
  before m there = was_marked x.past (entry_of (with_input i x)) i (submitted x.past) m (subst (λ ms. Contains ms m) (calls_told x i bare) there)

  commands : (k : ℕ) (c : Command) → command_numbered x.setting (seen x) k ≡ Some c → command_numbered x.setting (seen (with_input i x)) k ≡ Some c
  commands k c is =
      let its = then_value command_of (job_numbered x.setting (seen x) k) c is in
      ap (λ o. option_and_then command_of o) (numbered_seen x i wake k its.0 its.1) ∙ its.2

  fits : (m : Submitted) (k : ℕ) (s : Session) (c : Command) → job_of m.call.purpose ≡ Some k → session_numbered x.setting (seen (with_input i x)) m.call.session ≡ Some s
      → command_numbered x.setting (seen (with_input i x)) k ≡ Some c → WasOpen (submitted x.past) m → FitsCommand x.setting s m c m.call.purpose
  fits m k s c of session command was =
      let its : job_of was.before.call.purpose ≡ Some k = ap (λ (d : Call). job_of d.purpose) (sym was.same.call) ∙ of in
      let old = some_of (command_numbered x.setting (seen x) k) (h.1.called was.before k (now was.before was.inside) its) in
      let one : old.0 ≡ c = one_value old.0 c (command_numbered x.setting (seen (with_input i x)) k) (commands k old.0 old.1) command in
      let there : session_numbered x.setting (seen x) was.before.call.session ≡ Some s = ap (λ (d : Call). session_numbered x.setting (seen x) d.session) (sym was.same.call) ∙ (ap (λ ss. slice_get ss m.call.session) (sym (sessions_told x i bare)) ∙ session) in
      let fit : FitsCommand x.setting s was.before c was.before.call.purpose =
      subst (λ (z : Command). FitsCommand x.setting s was.before z was.before.call.purpose) one (h.1.fits was.before k s old.0 (now was.before was.inside) its there old.1)
      in
      subst (λ (d : Call). FitsCommand x.setting s m c d.purpose) (sym was.same.call) (same_fit x.setting s c was.before m (sym was.same.call) was.before.call.purpose fit)

  open_before : (m : Submitted) → (was : WasOpen (submitted x.past) m) → IsOpen (seen (with_input i x)) (heard_by i) m → was.before.answer ≡ None
  open_before m was (inl none) = was.unmet none
  open_before m was (inr heard) = by i refl heard.0 where
    by : (k : Input) → i ≡ k → heard_by k ≡ Some m.call.number → was.before.answer ≡ None
    by (Told n a) is number =
        was_unanswered x.setting x.past n a was.before (subst (λ z. Expects x z) is expected) finds was.inside (ap (λ (c : Call). c.number) (sym was.same.call) ∙ sym (some_value n m.call.number number)) where
          finds : (b : Submitted) → Contains (submitted x.past) b → call_numbered x.past b.call.number ≡ Some b
          finds b there = ap (λ ms. find (λ (z : Submitted). z.call.number == b.call.number) ms) (sym (calls_before x wake bare)) ∙ h.0.found b (now b there)
    by k is number = absurd (none_some m.call.number number)

  one : (m n : Submitted) (k : ℕ) → Contains (submitted (seen (with_input i x))) m → Contains (submitted (seen (with_input i x))) n → IsOpen (seen (with_input i x)) (heard_by i) m
      → IsOpen (seen (with_input i x)) (heard_by i) n → job_of m.call.purpose ≡ Some k → job_of n.call.purpose ≡ Some k → WasOpen (submitted x.past) m → WasOpen (submitted x.past) n → m ≡ n
  one m n k a b first second of also was old =
      let same : was.before ≡ old.before = h.1.one was.before old.before k (now was.before was.inside) (now old.before old.inside) (inl (open_before m was first)) (inl (open_before n old second))
      (ap (λ (c : Call). job_of c.purpose) (sym was.same.call) ∙ of) (ap (λ (c : Call). job_of c.purpose) (sym old.same.call) ∙ also) in
      let numbers : m.call.number ≡ n.call.number = ap (λ (c : Call). c.number) was.same.call ∙ (ap (λ (z : Submitted). z.call.number) same ∙ ap (λ (c : Call). c.number) (sym old.same.call)) in
      one_value m n (call_numbered (seen (with_input i x)) n.call.number) (subst (λ q. call_numbered (seen (with_input i x)) q ≡ Some m) numbers (after.found m a)) (after.found n b)
