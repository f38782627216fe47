-- What a host keeps after one more call, beside its members: each list, each number.
use Rattle.sl_host_law.proofs.Calls.MemberCalls.MemberMore.{all_more, more, newest}
use Rattle.sl_host_law.proofs.SharedFacts.PlainLists.{range_last}
use Rattle.sl_host_state.specs.KeptState.{HostState, MemberState}
use Rattle.sl_host_state.specs.MadeEffects.{calling, job_calling}
use Rattle.sl_host_state.specs.HostStands.{AreSingle, Keeps, MemberStands, is_kept_of, kept_call, kept_job, kept_waiting}
use Rattle.sl_host_state.specs.declared.kept_parts.JobState.{JobState}
use Rattle.sl_host_state.specs.declared.kept_parts.OpenCall.{OpenCall}
use Rattle.sl_trace.specs.Jobs.{child_of_job, command_of}
use Rattle.sl_due.specs.Steps.{Step, seen}
use Rattle.sl_words.proofs.Numbers.{number_turned}
use Rattle.sl_trace.specs.Sessions.{present_sessions, sessions}
use Rattle.sl_trace.specs.Traces.{Job, Submitted, Trace, children, is_of_job, job_numbered, job_of, next_call, running_jobs, submitted, unanswered}
use Rattle.sl_trace.specs.declared.effects.Call.{Call}
use Rattle.sl_words.proofs.CaseLaws.{true_is_false}
use Rattle.sl_words.specs.Words.{some_is}
use Rattle.std.proofs.Common.{ap, arith, refl, subst, suc, sym, ◌∙◌}
use Rattle.std.proofs.lemmas.List.{length_push, reverse-append}
use Rattle.std.specs.List.{AllByRecursion, cons_option, list_any, range_with_len}
use Rattle.std.specs.Option.{option_map_or}
use Rattle.std.specs.Prelude.{Bool, IsTrue, List, None, Option, Some, cond, false, filter_map, find, is_some, length, map, not, option_map, reverse, slice_get, true, [], ℕ, ◌++◌, ◌+◌, ◌==◌, ◌||◌, ◌∷◌, ◌≡◌}

reverse_push : {A : Type 0} (xs : List A) (y : A) → reverse (xs ++ y ∷ []) ≡ y ∷ reverse xs
reverse_push xs y = reverse-append xs (y ∷ [])

-- ---- of each job at most one is open

-- No open call is of the call's job.
abbrev pub is_alone : List OpenCall → Option ℕ → Bool
is_alone cs job = option_map_or (λ j. not (list_any (is_kept_of j) cs)) job true

any_push : {A : Type 0} (p : A → Bool) (xs : List A) (y : A) → list_any p xs ≡ false → p y ≡ false → list_any p (xs ++ y ∷ []) ≡ false
any_push p [] y none is = ap (λ b. b || false) is
any_push {A} p (x ∷ xs) y none is = by (p x) none (λ rest. any_push p xs y rest is) where
  by : (b : Bool) → (b || list_any p xs) ≡ false → (list_any p xs ≡ false → list_any p (xs ++ y ∷ []) ≡ false) → (b || list_any p (xs ++ y ∷ [])) ≡ false
  by true left deeper = left
  by false left deeper = deeper left

not_of : (d : OpenCall) (ds : List OpenCall) (c : OpenCall) (job : ℕ) → job_of d.purpose ≡ Some job → is_alone (d ∷ ds) (job_of c.purpose) ≡ true → is_kept_of job c ≡ false
not_of d ds c job its alone = by (job_of c.purpose) alone where
  apart : (j : ℕ) (b : Bool) → (j == job) ≡ b → not (is_kept_of j d || list_any (is_kept_of j) ds) ≡ true → b ≡ false
  apart j false is none = refl
  apart j true is none =
      absurd (true_is_false (sym none ∙ ap (λ b. not (b || list_any (is_kept_of j) ds)) (ap (some_is (λ z. z == j)) its ∙ number_turned j job is)))

  by : (o : Option ℕ) → is_alone (d ∷ ds) o ≡ true → some_is (λ j. j == job) o ≡ false
  by None is = refl
  by (Some j) is = apart j (j == job) refl is

alone_rest : (d : OpenCall) (ds : List OpenCall) (o : Option ℕ) → is_alone (d ∷ ds) o ≡ true → is_alone ds o ≡ true
alone_rest d ds None is = refl
alone_rest d ds (Some j) is = by (is_kept_of j d) is where
  by : (b : Bool) → not (b || list_any (is_kept_of j) ds) ≡ true → not (list_any (is_kept_of j) ds) ≡ true
  by true none = absurd (true_is_false (sym none))
  by false none = none

single_more : (cs : List OpenCall) (c : OpenCall) → AreSingle cs → is_alone cs (job_of c.purpose) ≡ true → AreSingle (cs ++ c ∷ [])
single_more [] c single alone = (by (job_of c.purpose), tt) where
  by : (o : Option ℕ) → some_is (λ (job : ℕ). false) o ≡ false
  by None = refl
  by (Some job) = refl
single_more (d ∷ ds) c single alone = (by (job_of d.purpose) refl single.0, single_more ds c single.1 (alone_rest d ds (job_of c.purpose) alone)) where
  by : (o : Option ℕ) → job_of d.purpose ≡ o → some_is (λ job. list_any (is_kept_of job) ds) o ≡ false → some_is (λ job. list_any (is_kept_of job) (ds ++ c ∷ [])) o ≡ false
  by None its none = refl
  by (Some job) its none = any_push (is_kept_of job) ds c none (not_of d ds c job its alone)

-- ---- jobs

job_more : (x : Step) (call : Call) (j : Job)
    → (let es : Trace = seen x in record {
      number = j.number;
      command = command_of j;
      child = child_of_job es j.number;
      waits = option_map kept_waiting (find (is_of_job j.number) (newest x call ∷ unanswered (submitted es)));
    })
    ≡ job_calling (newest x call) (kept_job (seen x) j)
job_more x call j = by (is_of_job j.number (newest x call)) where
  by : (b : Bool)
      → record {
        number = j.number;
        command = command_of j;
        child = child_of_job (seen x) j.number;
        waits = option_map kept_waiting (cond b (Some (newest x call)) (find (is_of_job j.number) (unanswered (submitted (seen x)))));
      }
      ≡ cond b (let k : JobState = kept_job (seen x) j in record k { waits = Some (kept_waiting (newest x call)) }) (kept_job (seen x) j)
  by true = refl
  by false = refl

map_through : {A B C : Type 0} (f : A → C) (g : B → C) (k : A → B) (xs : List A) → ((x : A) → f x ≡ g (k x)) → map f xs ≡ map g (map k xs)
map_through f g k [] same = refl
map_through f g k (x ∷ xs) same = ap (λ z. z ∷ map f xs) (same x) ∙ ap (λ zs. g (k x) ∷ zs) (map_through f g k xs same)

-- The running jobs, by a list of all calls.
abbrev jobs_by : Step → List Submitted → List JobState
jobs_by x ms =
    map
    (λ j. record { number = j.number; command = command_of j; child = child_of_job (seen x) j.number; waits = option_map kept_waiting (find (is_of_job j.number) (unanswered ms)) })
    (running_jobs x.setting (seen x))

-- ---- the whole

abbrev all_told : Step → List Submitted → Type 0
all_told x ms = AllByRecursion (λ j. IsTrue (is_some (job_numbered x.setting (seen x) j))) (filter_map (λ m. job_of m.call.purpose) ms ++ filter_map (λ k. k.job) (children (seen x)))

told_more : (x : Step) (call : Call) → ((j : ℕ) → job_of call.purpose ≡ Some j → is_some (job_numbered x.setting (seen x) j) ≡ true) → all_told x (submitted (seen x))
    → all_told x (newest x call ∷ submitted (seen x))
told_more x call known told = by (job_of call.purpose) refl where
  by : (o : Option ℕ) → job_of call.purpose ≡ o
      → AllByRecursion (λ j. IsTrue (is_some (job_numbered x.setting (seen x) j)))
      (cons_option o (filter_map (λ m. job_of m.call.purpose) (submitted (seen x))) ++ filter_map (λ k. k.job) (children (seen x)))
  by None is = told
  by (Some j) is = (known j is, told)

-- What is kept, with the sessions and members that there are then.
pub keeps_more : (h : HostState) (x : Step) (call : Call) (born : ℕ) (ms : List MemberState) → Keeps h x.setting (seen x) → call.number ≡ next_call x.setting (seen x)
    → ((j : ℕ) → job_of call.purpose ≡ Some j → is_some (job_numbered x.setting (seen x) j) ≡ true) → is_alone h.unanswered (job_of call.purpose) ≡ true
    → length (sessions x.setting (seen (more call x))) ≡ born → present_sessions x.setting (seen (more call x)) ≡ map (λ m. m.who) ms
    → ((i : ℕ) (m : MemberState) → slice_get ms i ≡ Some m → MemberStands x.setting (seen (more call x)) m)
    → Keeps (let k : HostState = calling (newest x call) h in record k { born = born; members = ms }) x.setting (seen (more call x))
keeps_more h x call born ms k next known alone count present members =
    let c : Submitted = newest x call in
    let first : ℕ = x.setting.first.call in
    let long : ℕ = length (submitted (seen x)) in
    record {
      config = k.config;
      entries = k.entries;
      calls =
          (let before : first + length (submitted (seen x)) ≡ h.first_call + length h.made.calls = k.calls in
          let pushed : length (h.made.calls ++ call ∷ []) ≡ length h.made.calls + 1 = length_push h.made.calls call in
          let now : first + length (submitted (seen (more call x))) ≡ first + suc (length (submitted (seen x))) = ap (λ cs. first + length cs) (all_more x call) in
          omega (arith, before, pushed, now));
      lines = k.lines;
      replied = k.replied;
      started = k.started;
      born = count;
      numbered =
          ap (λ (cs : List Submitted). map (λ m. m.call.number) cs) (all_more x call)
          ∙ ap (λ n. n ∷ map (λ (m : Submitted). m.call.number) (submitted (seen x))) next
          ∙ ap (λ ns. (first + long) ∷ ns) k.numbered
          ∙ sym (reverse_push (range_with_len first long) (first + long))
          ∙ ap reverse (sym (range_last first long))
          ∙ ap (λ cs. reverse (range_with_len first (length cs))) (sym (all_more x call));
      counted = k.counted;
      present = present;
      members = members;
      connected = k.connected;
      unanswered =
          ap (λ cs. map kept_call (unanswered cs)) (all_more x call)
          ∙ ap (λ cs. kept_call c ∷ cs) k.unanswered
          ∙ sym (reverse_push h.unanswered (kept_call c));
      single = single_more h.unanswered (kept_call c) k.single alone;
      owned = subst (all_told x) (sym (all_more x call)) (told_more x call known k.owned);
      jobs =
          ap (jobs_by x) (all_more x call)
          ∙ map_through (λ (j : Job). record { number = j.number; command = command_of j; child = child_of_job (seen x) j.number; waits = option_map kept_waiting (find (is_of_job j.number) (unanswered (c ∷ submitted (seen x)))) })
          (job_calling c) (kept_job (seen x)) (running_jobs x.setting (seen x)) (λ j. job_more x call j)
          ∙ ap (map (job_calling c)) k.jobs;
      holdings = k.holdings;
      children = k.children;
      programs = k.programs;
    }
