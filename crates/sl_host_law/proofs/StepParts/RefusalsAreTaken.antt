-- Jobs are refused one after another: each still runs when its turn comes, since no two have one number.
use Rattle.sl_host_law.proofs.Decisions.PlainSums.{list_mapped}
use Rattle.sl_due.specs.DueRecovery.{refuse_jobs, signal_and_refuse, signal_holders}
use Rattle.sl_due.specs.Steps.{Step, add_reply, for_each, seen}
use Rattle.sl_host_law.proofs.SharedFacts.PlainLists.{all_both, each_of}
use Rattle.sl_host_law.proofs.SharedFacts.PlainOrders.{AreApart, apart_filtered}
use Rattle.sl_host_law.proofs.SharedFacts.SessionNumbers.{jobs_below}
use Rattle.sl_host_state.specs.KeptState.{Config, HostState, MemberState}
use Rattle.sl_host_state.specs.MadeEffects.{with_reply}
use Rattle.sl_host_state.specs.HostStands.{Keeps, Stands, kept_job}
use Rattle.sl_host_state.specs.declared.kept_parts.JobState.{JobState}
use Rattle.sl_trace.specs.Jobs.{jobs_of_session, lockspace_named}
use Rattle.sl_host_law.proofs.StepParts.SignalsAreTaken.{holders, holders_past, signalling_same}
use Rattle.sl_host_law.specs.StepParts.Refusals.{MayRefuse, RefusalsAreTaken, jobs_but, numbers_of, refusing_jobs, replying_to, signalling_and_refusing}
use Rattle.sl_host_law.specs.StepParts.Signals.{signalling}
use Rattle.sl_words.proofs.Lists.{any_found, any_of, contains_first, contains_more, filter_both, in_map, kept, kept_inside}
use Rattle.sl_host_law.proofs.Questions.MembersAnswer.{members_answer}
use Rattle.sl_host_law.specs.Questions.Members.{IsMemberAt}
use Rattle.sl_host_law.proofs.Replies.RepliesAreTaken.RepliesKeepHosts.{replies_are_taken}
use Rattle.sl_host_law.specs.Replies.RepliesAreTaken.{LeavesHeed, LeavesLine, is_plain_line}
use Rattle.sl_trace.specs.Traces.{Job, Setting, Trace, is_running, jobs, line_in, next_job, running_jobs}
use Rattle.sl_trace.specs.declared.effects.Signal.TheVariants.{Term}
use Rattle.sl_trace.specs.declared.input.Input.TheVariants.{Answer as Told, Exit, Line, Number, Spawned, Wake}
use Rattle.sl_trace.specs.declared.input.Input.{Input}
use Rattle.sl_trace.specs.declared.reply.Reply.TheVariants.{Recovering}
use Rattle.sl_trace.specs.declared.reply.Reply.{Reply}
use Rattle.sl_words.proofs.CaseLaws.{is_false}
use Rattle.sl_words.specs.Words.{some_is}
use Rattle.std.proofs.Common.{ap, arith, refl, subst, sym, ◌∙◌}
use Rattle.std.proofs.lemmas.Bool.Decides.{Decides-eqb}
use Rattle.std.proofs.lemmas.List.{append-nil}
use Rattle.std.specs.List.{AllByRecursion, list_any}
use Rattle.std.specs.Prelude.{Bool, Contains, List, None, Option, Some, bytes_eq, false, filter, length, map, not, slice_get, true, [], ℕ, ◌&&◌, ◌++◌, ◌+◌, ◌<◌, ◌==◌, ◌∷◌, ◌≡◌, ◌⊎◌}

-- ---- jobs have numbers of their own

apart_push : {A : Type 0} (f : A → ℕ) (xs : List A) (y : A) → AreApart f xs → ((x : A) → Contains xs x → f x ≡ f y → ⊥) → AreApart f (xs ++ y ∷ [])
apart_push f [] y apart other = (tt, tt)
apart_push f (x ∷ xs) y apart other =
    (all_both (λ z. f x ≡ f z → ⊥) xs (y ∷ []) apart.0 (other x (contains_first x xs), tt), apart_push f xs y apart.1 (λ z there. other z (contains_more x xs z there)))

jobs_apart : (st : Setting) (es : Trace) → AreApart (λ (j : Job). j.number) (jobs st es)
jobs_apart st [] = tt
jobs_apart st (e ∷ es) = by (line_in e.input) (jobs_apart st es) where
  new : (text : List ℕ) → AreApart (λ (j : Job). j.number) (jobs st es)
      → AreApart (λ (j : Job). j.number) (jobs st es ++ record { number = next_job st es; at = length es; reading = e.reading; command = st.read text } ∷ [])
  new text apart =
      apart_push (λ (j : Job). j.number) (jobs st es) (record { number = next_job st es; at = length es; reading = e.reading; command = st.read text }) apart
      (λ j there same. (let less : j.number < next_job st es = each_of (λ (z : Job). z.number < next_job st es) (jobs st es) j (jobs_below st es) there in absurd (omega (arith, less, same))))

  by : (o : Option (List ℕ)) → AreApart (λ (j : Job). j.number) (jobs st es)
      → AreApart (λ (j : Job). j.number) (jobs st es ++ elim o as (λ z. List Job) [ None ↦ [] | Some text ↦ record { number = next_job st es; at = length es; reading = e.reading; command = st.read text } ∷ [] ])
  by None apart = subst (λ js. AreApart (λ (j : Job). j.number) js) (sym (append-nil (jobs st es))) apart
  by (Some text) apart = new text apart

apart_kept : (es : Trace) (js : List Job) → AreApart (λ (j : Job). j.number) js → AreApart (λ (j : JobState). j.number) (map (kept_job es) js)
apart_kept es [] apart = tt
apart_kept es (j ∷ js) apart = (by js apart.0, apart_kept es js apart.1) where
  by : (ks : List Job) → AllByRecursion (λ k. j.number ≡ k.number → ⊥) ks → AllByRecursion (λ k. j.number ≡ k.number → ⊥) (map (kept_job es) ks)
  by [] all = tt
  by (k ∷ ks) all = (all.0, by ks all.1)

-- So have those that are kept.
pub kept_apart : (h : HostState) (st : Setting) (es : Trace) → Keeps h st es → AreApart (λ (j : JobState). j.number) h.jobs
kept_apart h st es k =
    subst (λ js. AreApart (λ (j : JobState). j.number) js) k.jobs
    (apart_kept es (running_jobs st es) (apart_filtered (λ (j : Job). j.number) (λ (j : Job). is_running es j.number) (jobs st es) (jobs_apart st es)))

apart_numbers : (js : List JobState) → AreApart (λ (j : JobState). j.number) js → AreApart (λ (n : ℕ). n) (numbers_of js)
apart_numbers [] apart = tt
apart_numbers (j ∷ js) apart = (by js apart.0, apart_numbers js apart.1) where
  by : (ks : List JobState) → AllByRecursion (λ k. j.number ≡ k.number → ⊥) ks → AllByRecursion (λ n. j.number ≡ n → ⊥) (numbers_of ks)
  by [] all = tt
  by (k ∷ ks) all = (all.0, by ks all.1)

-- ---- one after another

-- A job runs after the reply to another.
runs_still : (h : HostState) (n : ℕ) (r : Reply) (m : ℕ) → (n ≡ m → ⊥) → list_any (λ j. j.number == m) h.jobs ≡ true → list_any (λ j. j.number == m) (with_reply n r h).jobs ≡ true
runs_still h n r m other runs =
    let f = any_found (λ (j : JobState). j.number == m) h.jobs runs in
    let number : f.0.number ≡ m = (Decides-eqb f.0.number m).0 f.2 in
    let left : (f.0.number == n) ≡ false = is_false (f.0.number == n) (λ same. other (sym ((Decides-eqb f.0.number n).0 same) ∙ number)) in
    any_of (λ (j : JobState). j.number == m) (filter (λ (j : JobState). not (j.number == n)) h.jobs) f.0 f.2 (kept (λ (j : JobState). not (j.number == n)) h.jobs f.0 (ap not left) f.1)

line_stays : (i : Input) (h : HostState) (n : ℕ) (r : Reply) (m : ℕ) → LeavesLine i m h → LeavesLine i m (with_reply n r h)
line_stays (Told k a) h n r m is = tt
line_stays (Line text) h n r m is = is
line_stays (Number text) h n r m is = tt
line_stays (Exit p) h n r m is = tt
line_stays (Spawned p ok) h n r m is = tt
line_stays Wake h n r m is = tt

replying : (ns : List ℕ) (r : Reply) (i : Input) (h : HostState) (x : Step) → AreApart (λ (n : ℕ). n) ns → ((n : ℕ) → Contains ns n → list_any (λ j. j.number == n) h.jobs ≡ true) → MayRefuse i h x.past r ns
    → Stands i h x → Stands i (replying_to ns r h) (for_each ns (λ n. add_reply n r) x)
replying [] r i h x apart runs may s = s
replying (n ∷ ns) r i h x apart runs may s =
    let first = may n (contains_first n ns) in
    replying ns r i (with_reply n r h) (add_reply n r x) apart.1
    (λ m there. runs_still h n r m (each_of (λ k. n ≡ k → ⊥) ns m apart.0 there) (runs m (contains_more n ns m there)))
    (λ m there. (let f = may m (contains_more n ns m there) in (f.0, line_stays i h n r m f.1)))
    (replies_are_taken n r i h x s (record { runs = runs n (contains_first n ns); heed = first.0; line = first.1 }))

-- ---- some of the jobs

runs_inside : (js : List JobState) (ks : List JobState) (p : JobState → Bool) → ks ≡ filter p js → (n : ℕ) → Contains (numbers_of ks) n → list_any (λ j. j.number == n) js ≡ true
runs_inside js ks p is n there =
    let j = in_map (λ (z : JobState). z.number) ks n there in
    any_of (λ (z : JobState). z.number == n) js j.0 ((Decides-eqb j.0.number n).1 j.2) (kept_inside p js j.0 (subst (λ zs. Contains zs j.0) is j.1)).0

pub some_jobs : (i : Input) (h : HostState) (x : Step) (js : List JobState) (r : Reply) (p : JobState → Bool) → Stands i h x → js ≡ filter p h.jobs → MayRefuse i h x.past r (numbers_of js)
    → Stands i (replying_to (numbers_of js) r h) (for_each (numbers_of js) (λ n. add_reply n r) x)
some_jobs i h x js r p s is may =
    replying (numbers_of js) r i h x
    (apart_numbers js (subst (λ ks. AreApart (λ (j : JobState). j.number) ks) (sym is) (apart_filtered (λ (j : JobState). j.number) p h.jobs (kept_apart h x.setting (seen x) s.keeps))))
    (runs_inside h.jobs js p is) may s

-- A reply to each job is one to each number.
pub by_number : (js : List Job) (r : Reply) (x : Step) → for_each js (λ j. add_reply j.number r) x ≡ for_each (map (λ (j : Job). j.number) js) (λ n. add_reply n r) x
by_number [] r x = refl
by_number (j ∷ js) r x = by_number js r (add_reply j.number r x)

-- ---- those of a member

-- Whether the job is not the one that is kept.
abbrev is_refused : Option ℕ → ℕ → Bool
is_refused one n = not (some_is (λ k. k == n) one)

these_numbers : (i : Input) (h : HostState) (x : Step) (k : ℕ) (m : MemberState) (one : Option ℕ) → IsMemberAt i h x k m
    → map (λ j. j.number) (filter (λ j. is_refused one j.number) (jobs_of_session x.setting (seen x) m.who)) ≡ numbers_of (jobs_but one h m)
these_numbers i h x k m one at =
    sym (list_mapped (kept_job (seen x)) (λ (j : JobState). j.number) (λ (j : JobState). is_refused one j.number) (λ (j : Job). j.number) (λ (j : Job). is_refused one j.number)
    (jobs_of_session x.setting (seen x) m.who) (λ j there. refl) (λ j there. refl))
    ∙ ap (λ (js : List JobState). numbers_of (filter (λ j. is_refused one j.number) js)) (members_answer i h x k m at).jobs

-- Whether the job names the member's lockspace.
abbrev names_it : MemberState → JobState → Bool
names_it m j = some_is (λ c. some_is (λ n. bytes_eq n m.who.lockspace) (lockspace_named c)) j.command

pub session_jobs : (i : Input) (h : HostState) (x : Step) (k : ℕ) (m : MemberState) (one : Option ℕ) → IsMemberAt i h x k m
    → MayRefuse i h x.past (Recovering m.renewing.last) (numbers_of (jobs_but one h m)) → Stands i (refusing_jobs m one h) (refuse_jobs m.who one x)
session_jobs i h x k m one at may =
    subst (λ t. Stands i (refusing_jobs m one h) (for_each (filter (λ j. is_refused one j.number) (jobs_of_session x.setting (seen x) m.who)) (λ j. add_reply j.number (Recovering t)) x))
    (sym (members_answer i h x k m at).renewal)
    (subst (λ y. Stands i (refusing_jobs m one h) y)
    (sym (by_number (filter (λ j. is_refused one j.number) (jobs_of_session x.setting (seen x) m.who)) (Recovering m.renewing.last) x
    ∙ ap (λ ns. for_each ns (λ n. add_reply n (Recovering m.renewing.last)) x) (these_numbers i h x k m one at)))
    (some_jobs i h x (jobs_but one h m) (Recovering m.renewing.last) (λ j. names_it m j && is_refused one j.number) at.stands
    (sym (filter_both (names_it m) (λ (j : JobState). is_refused one j.number) h.jobs)) may))

-- ---- after the signals

line_same : (i : Input) (a b : HostState) (n : ℕ) → a.next_job ≡ b.next_job → a.config ≡ b.config → LeavesLine i n b → LeavesLine i n a
line_same (Told k c) a b n lines config is = tt
line_same (Line text) a b n lines config is =
    subst (λ (c : Config). ((n + 1 == a.next_job) ≡ false) ⊎ (is_plain_line (c.read text) ≡ true)) (sym config)
    (subst (λ z. ((n + 1 == z) ≡ false) ⊎ (is_plain_line (b.config.read text) ≡ true)) (sym lines) is)
line_same (Number text) a b n lines config is = tt
line_same (Exit p) a b n lines config is = tt
line_same (Spawned p ok) a b n lines config is = tt
line_same Wake a b n lines config is = tt

whole : (i : Input) (h : HostState) (x : Step) (k : ℕ) (m : MemberState) (one : Option ℕ) → IsMemberAt i h x k m
    → MayRefuse i h x.past (Recovering m.renewing.last) (numbers_of (jobs_but one h m)) → Stands i (signalling_and_refusing m one h) (signal_and_refuse m.who one x)
unfolding signal_and_refuse
whole i h x k m one at may =
    let same = signalling_same m Term h in
    let still : IsMemberAt i (signalling Term m h) (signal_holders Term m.who x) k m =
    record { stands = holders i h x k m Term at; there = ap (λ (ms : List MemberState). slice_get ms k) same.members ∙ at.there }
    in
    session_jobs i (signalling Term m h) (signal_holders Term m.who x) k m one still (λ n there.
    (let old = may n (subst (λ (js : List JobState). Contains (numbers_of (filter (λ j. is_refused one j.number) (filter (names_it m) js))) n) same.jobs there) in
    (subst (λ past. LeavesHeed i n (Recovering m.renewing.last) past) (sym (holders_past i h x k m Term at)) old.0, line_same i (signalling Term m h) h n same.lines same.config old.1)))

pub refusals_are_taken : RefusalsAreTaken
refusals_are_taken = record { jobs = some_jobs; session = session_jobs; whole = whole }
