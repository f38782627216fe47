-- One more start is taken: the child comes behind all, and is its job's.
use Rattle.sl_host_law.proofs.Calls.MemberCalls.KnownMore.{known_by}
use Rattle.sl_host_law.proofs.Calls.MemberCalls.LeasesMore.{calls_on}
use Rattle.sl_host_law.proofs.Calls.MemberCalls.MemberMore.{self_by}
use Rattle.sl_host_law.proofs.Calls.MemberCalls.ValuesMore.{on_lease}
use Rattle.sl_host_law.specs.Calls.Starts.{StartFits, StartsAreTaken}
use Rattle.sl_due.specs.Steps.{Step, add_start, seen}
use Rattle.sl_host_law.proofs.SharedFacts.KeptJobs.{kept_numbered}
use Rattle.sl_host_law.proofs.SharedFacts.PlainLists.{all_both, range_last}
use Rattle.sl_host_law.proofs.SharedFacts.QuietMoments.{job_quiet, member_quiet, quiet_by}
use Rattle.sl_host_state.specs.KeptState.{HostState, MemberState}
use Rattle.sl_host_state.specs.MadeEffects.{job_starting, with_start}
use Rattle.sl_host_state.specs.HostStands.{AreInTurn, AskedStands, IsQuiet, JoinStands, Keeps, LeaseStands, MemberStands, WatchKeeps, is_there, job_moments, kept_call, kept_waiting, newest_value}
use Rattle.sl_host_state.specs.declared.kept_parts.JobState.{JobState}
use Rattle.sl_trace.specs.Counts.{values_on}
use Rattle.sl_trace.specs.Jobs.{command_of}
use Rattle.sl_trace.specs.Leases.{spots_in}
use Rattle.sl_words.proofs.Lists.{in_map}
use Rattle.sl_trace.specs.Sessions.{calls_of, ended_after, is_call_of, is_delta_purpose, joined_after, leaving_job, recovery_of, sessions}
use Rattle.sl_trace.specs.Traces.{Child, Job, Submitted, child_after, children, first_child, is_of_job, is_write, job_numbered, job_of, mark, new_call, new_child, running_jobs, submitted, unanswered}
use Rattle.sl_trace.specs.declared.effects.Call.{Call}
use Rattle.sl_trace.specs.declared.effects.Effects.{Effects}
use Rattle.sl_trace.specs.declared.effects.Start.{Start}
use Rattle.sl_trace.specs.declared.input.Input.TheVariants.{Answer as Told, Exit, Line, Number, Spawned, Wake}
use Rattle.sl_trace.specs.declared.input.Input.{Input}
use Rattle.sl_words.specs.Orders.{in_order, is_text_before}
use Rattle.sl_words.specs.Words.{some_is}
use Rattle.std.proofs.Common.{ap, arith, refl, subst, suc, sym, ◌∙◌}
use Rattle.std.proofs.lemmas.List.{append_assoc, length_push, map-append}
use Rattle.std.proofs.lemmas.List.Elements.{filter-append, filter_map-append}
use Rattle.std.proofs.lemmas.List.Folds.{find-append}
use Rattle.std.specs.List.{AllByRecursion, cons_option, list_any, range_with_len}
use Rattle.std.specs.Option.{option_map_or, option_or}
use Rattle.std.specs.Prelude.{Bool, Contains, IsTrue, List, None, Option, Some, cond, false, filter, filter_map, find, fold, is_none, is_some, length, map, option_map, reverse, true, [], ℕ, ◌&&◌, ◌++◌, ◌+◌, ◌==◌, ◌||◌, ◌∷◌, ◌≡◌, ◌≤◌}

module _ (s : Start) where
  -- ---- calls are the same

  marked : (x : Step) (i : Input) (ms : List Submitted) → mark x.past (record { reading = x.reading; input = x.input; effects = (add_start s x).effects }) i ms
      ≡ mark x.past (record { reading = x.reading; input = x.input; effects = x.effects }) i ms
  marked x (Told n a) ms = refl
  marked x (Line text) ms = refl
  marked x (Number text) ms = refl
  marked x (Exit p) ms = refl
  marked x (Spawned p ok) ms = refl
  marked x Wake ms = refl

  same_calls : (x : Step) → submitted (seen (add_start s x)) ≡ submitted (seen x)
  same_calls x =
      ap (λ ms. fold (λ (ns : List Submitted) (c : Call). new_call (length x.past) x.reading c ∷ ns) ms x.effects.calls) (marked x x.input (submitted x.past))

  member_starting : (x : Step) (m : MemberState) → MemberStands x.setting (seen x) m → MemberStands x.setting (seen (add_start s x)) m
  member_starting x m k =
      let same : calls_of (seen (add_start s x)) m.who ≡ calls_of (seen x) m.who = ap (filter (is_call_of m.who)) (same_calls x) in
      record {
        joined = k.joined;
        refused = k.refused;
        known = ap (known_by m.who (is_some (recovery_of x.setting (seen x) m.who)) (option_map (λ j. j.number) (leaving_job x.setting (seen x) m.who))) same ∙ k.known;
        joining = λ still. subst (λ ms. JoinStands m.joining ms) (sym same) (k.joining still);
        renewing = k.renewing;
        leaving = k.leaving;
        asked = subst (AskedStands x.setting m.asked) (sym same) k.asked;
        turn = subst (λ ms. AreInTurn (filter (λ c. is_delta_purpose c.call.purpose) ms)) (sym same) k.turn;
        seen = subst (WatchKeeps x.setting m.watch) (sym same) k.seen;
        spots = ap (spots_in x.setting.layout) same ∙ k.spots;
        leases = λ i l there. subst (λ ms. LeaseStands x.setting.layout m.who.lockspace (self_by m.who ms) l (calls_on x.setting.layout l.spot ms)) (sym same) (k.leases i l there);
        valued = subst (λ ms. AllByRecursion (λ d. IsTrue (on_lease x.setting.layout m.leases d)) ms) (sym same) k.valued;
        values = λ i l there. ap (λ ms. newest_value (values_on x.setting.layout l.spot ms)) same ∙ k.values i l there;
      }

  -- ---- one more child

  one_more : (x : Step) → children (seen (add_start s x)) ≡ children (seen x) ++ new_child s ∷ []
  one_more x =
      ap (λ ks. map (child_after x.input) (children x.past) ++ ks) (map-append new_child x.effects.starts (s ∷ []))
      ∙ sym (append_assoc (map (child_after x.input) (children x.past)) (map new_child x.effects.starts) (new_child s ∷ []))

  counted_more : (ks : List Child) → s.process ≡ first_child + length ks → map (λ k. k.process) ks ≡ range_with_len first_child (length ks)
      → map (λ k. k.process) (ks ++ new_child s ∷ []) ≡ range_with_len first_child (length (ks ++ new_child s ∷ []))
  counted_more ks next counted =
      let long : length (ks ++ new_child s ∷ []) ≡ length ks + 1 = length_push ks (new_child s) in
      let longer : suc (length ks) ≡ length (ks ++ new_child s ∷ []) = omega (arith, long) in
      map-append (λ (k : Child). k.process) ks (new_child s ∷ [])
      ∙ ap (λ ns. ns ++ s.process ∷ []) counted
      ∙ ap (λ n. range_with_len first_child (length ks) ++ n ∷ []) next
      ∙ sym (range_last first_child (length ks))
      ∙ ap (range_with_len first_child) longer

  -- ---- jobs

  -- The jobs kept, by calls and children.
  abbrev job_by : List Submitted → List Child → Job → JobState
  job_by ms ks j =
      record {
        number = j.number;
        command = command_of j;
        child = option_map (λ k. k.process) (find (λ k. some_is (λ n. n == j.number) k.job) ks);
        waits = option_map kept_waiting (find (is_of_job j.number) (unanswered ms));
      }

  started_of : (n : ℕ) (ks : List Child)
      → option_map (λ k. k.process) (find (λ k. some_is (λ j. j == n) k.job) (ks ++ new_child s ∷ []))
      ≡ cond (some_is (λ j. j == n) s.job) (option_or (option_map (λ k. k.process) (find (λ k. some_is (λ j. j == n) k.job) ks)) (Some s.process))
      (option_map (λ k. k.process) (find (λ k. some_is (λ j. j == n) k.job) ks))
  started_of n ks =
      ap (option_map (λ (k : Child). k.process)) (find-append (λ (k : Child). some_is (λ j. j == n) k.job) ks (new_child s ∷ []))
      ∙ by (find (λ (k : Child). some_is (λ j. j == n) k.job) ks) (some_is (λ j. j == n) s.job) where
        by : (o : Option Child) (b : Bool)
            → option_map (λ k. k.process) (option_or o (cond b (Some (new_child s)) None))
            ≡ cond b (option_or (option_map (λ k. k.process) o) (Some s.process)) (option_map (λ k. k.process) o)
        by None true = refl
        by None false = refl
        by (Some k) true = refl
        by (Some k) false = refl

  job_more : (ms : List Submitted) (ks : List Child) (j : Job) → job_by ms (ks ++ new_child s ∷ []) j ≡ job_starting s (job_by ms ks j)
  job_more ms ks j =
      ap (λ (o : Option ℕ). record { number = j.number; command = command_of j; child = o; waits = option_map kept_waiting (find (is_of_job j.number) (unanswered ms)) }) (started_of j.number ks)
      ∙ by (some_is (λ n. n == j.number) s.job) where
        by : (b : Bool)
            → record {
              number = j.number;
              command = command_of j;
              child = cond b (option_or (option_map (λ k. k.process) (find (λ k. some_is (λ n. n == j.number) k.job) ks)) (Some s.process))
                  (option_map (λ k. k.process) (find (λ k. some_is (λ n. n == j.number) k.job) ks));
              waits = option_map kept_waiting (find (is_of_job j.number) (unanswered ms));
            }
            ≡ cond b (let k : JobState = job_by ms ks j in record k { child = option_or k.child (Some s.process) }) (job_by ms ks j)
        by true = refl
        by false = refl

  jobs_more : (ms : List Submitted) (ks : List Child) (js : List Job) → map (job_by ms (ks ++ new_child s ∷ [])) js ≡ map (job_starting s) (map (job_by ms ks) js)
  jobs_more ms ks [] = refl
  jobs_more ms ks (j ∷ js) = ap (λ z. z ∷ map (job_by ms (ks ++ new_child s ∷ [])) js) (job_more ms ks j) ∙ ap (λ zs. job_starting s (job_by ms ks j) ∷ zs) (jobs_more ms ks js)

  told_more : (x : Step) → ((n : ℕ) → s.job ≡ Some n → is_some (job_numbered x.setting (seen x) n) ≡ true)
      → AllByRecursion (λ n. IsTrue (is_some (job_numbered x.setting (seen x) n))) (filter_map (λ m. job_of m.call.purpose) (submitted (seen x)) ++ filter_map (λ k. k.job) (children (seen x)))
      → AllByRecursion (λ n. IsTrue (is_some (job_numbered x.setting (seen x) n)))
      (filter_map (λ m. job_of m.call.purpose) (submitted (seen x)) ++ filter_map (λ k. k.job) (children (seen x) ++ new_child s ∷ []))
  told_more x known told =
      subst (λ ns. AllByRecursion (λ n. IsTrue (is_some (job_numbered x.setting (seen x) n))) (filter_map (λ m. job_of m.call.purpose) (submitted (seen x)) ++ ns))
      (sym (filter_map-append (λ (k : Child). k.job) (children (seen x)) (new_child s ∷ [])))
      (subst (λ ns. AllByRecursion (λ n. IsTrue (is_some (job_numbered x.setting (seen x) n))) ns)
      (append_assoc (filter_map (λ (m : Submitted). job_of m.call.purpose) (submitted (seen x))) (filter_map (λ (k : Child). k.job) (children (seen x))) (cons_option s.job []))
      (all_both (λ n. IsTrue (is_some (job_numbered x.setting (seen x) n)))
      (filter_map (λ (m : Submitted). job_of m.call.purpose) (submitted (seen x)) ++ filter_map (λ (k : Child). k.job) (children (seen x))) (cons_option s.job []) told (by s.job known))) where
        by : (o : Option ℕ) → ((n : ℕ) → o ≡ Some n → is_some (job_numbered x.setting (seen x) n) ≡ true)
            → AllByRecursion (λ n. IsTrue (is_some (job_numbered x.setting (seen x) n))) (cons_option o [])
        by None known = tt
        by (Some n) known = (known n refl, tt)

  known_by_test : (h : HostState) (x : Step) → Keeps h x.setting (seen x) → option_map_or (λ n. list_any (λ (j : JobState). j.number == n) h.jobs) s.job true ≡ true
      → (n : ℕ) → s.job ≡ Some n → is_some (job_numbered x.setting (seen x) n) ≡ true
  known_by_test h x k runs n is =
      kept_numbered h x.setting (seen x) n k (sym (ap (λ o. option_map_or (λ z. list_any (λ (j : JobState). j.number == z) h.jobs) o true) is) ∙ runs)

  -- ---- the whole

  quiet_starting : (h : HostState) → IsQuiet h → IsQuiet (with_start s h)
  quiet_starting h quiet =
      quiet_by (with_start s h) (λ m t there at. member_quiet h m t quiet there at) (λ j t there at. from (in_map (job_starting s) h.jobs j there) t at) where
        within : (z : JobState) (b : Bool) → job_moments h (cond b (record z { child = option_or z.child (Some s.process) }) z) ≡ job_moments h z
        within z true = refl
        within z false = refl

        from : {j : JobState} → (z : JobState) × Contains h.jobs z × (job_starting s z ≡ j) → (t : ℕ) → Contains (job_moments (with_start s h) j) t → h.quiet_until ≤ t
        from z t at =
            job_quiet h z.0 t quiet z.1
            (subst (λ ns. Contains ns t) (within z.0 (some_is (λ n. n == z.0.number) s.job)) (subst (λ y. Contains (job_moments h y) t) (sym z.2) at))

  keeps_starting : (h : HostState) (x : Step) → StartFits h s → Keeps h x.setting (seen x) → Keeps (with_start s h) x.setting (seen (add_start s x))
  keeps_starting h x fits k =
      let ks : List Child = children (seen x) in
      let next : s.process ≡ first_child + length ks = fits.number ∙ ap (λ n. first_child + n) (sym k.started) in
      record {
        config = k.config;
        entries = k.entries;
        calls = ap (λ ms. x.setting.first.call + length ms) (same_calls x) ∙ k.calls;
        lines = k.lines;
        replied = k.replied;
        started = ap (λ cs. length cs) (one_more x) ∙ length_push ks (new_child s) ∙ ap (λ n. n + 1) k.started;
        born = k.born;
        numbered = ap (λ (ms : List Submitted). map (λ m. m.call.number) ms) (same_calls x) ∙ k.numbered
            ∙ sym (ap (λ ms. reverse (range_with_len x.setting.first.call (length ms))) (same_calls x));
        counted = ap (λ (cs : List Child). map (λ c. c.process) cs) (one_more x) ∙ counted_more ks next k.counted
            ∙ ap (λ cs. range_with_len first_child (length cs)) (sym (one_more x));
        present = ap
            (λ ms. in_order (λ a b. is_text_before a.lockspace b.lockspace)
            (filter (λ t. is_none (ended_after (seen x) t) || is_none (joined_after (seen x) t) && list_any (λ m. is_write m.call.op) (unanswered (filter (is_call_of t) ms)))
            (sessions x.setting (seen x)))) (same_calls x)
            ∙ k.present;
        members = λ i m there. member_starting x m (k.members i m there);
        connected = k.connected;
        unanswered = ap (λ ms. map kept_call (unanswered ms)) (same_calls x) ∙ k.unanswered;
        single = k.single;
        owned = subst (λ ms. AllByRecursion (λ n. IsTrue (is_some (job_numbered x.setting (seen x) n))) (filter_map (λ m. job_of m.call.purpose) ms ++ filter_map (λ c. c.job) (children (seen (add_start s x)))))
            (sym (same_calls x))
            (subst (λ cs. AllByRecursion (λ n. IsTrue (is_some (job_numbered x.setting (seen x) n))) (filter_map (λ m. job_of m.call.purpose) (submitted (seen x)) ++ filter_map (λ c. c.job) cs))
            (sym (one_more x)) (told_more x (known_by_test h x k fits.job) k.owned));
        jobs = ap (λ ms. map (job_by ms (children (seen (add_start s x)))) (running_jobs x.setting (seen x))) (same_calls x)
            ∙ ap (λ cs. map (job_by (submitted (seen x)) cs) (running_jobs x.setting (seen x))) (one_more x)
            ∙ jobs_more (submitted (seen x)) ks (running_jobs x.setting (seen x))
            ∙ ap (map (job_starting s)) k.jobs;
        holdings = k.holdings;
        children = ap (filter is_there) (one_more x) ∙ filter-append is_there ks (new_child s ∷ []) ∙ ap (λ cs. cs ++ new_child s ∷ []) k.children;
        programs = k.programs;
      }

pub starts_are_taken : StartsAreTaken
starts_are_taken h s fits i x stands =
    record {
      input = stands.input;
      past = stands.past;
      reading = stands.reading;
      before = stands.before;
      made = ap (λ (f : Effects). record f { starts = f.starts ++ s ∷ [] }) stands.made;
      keeps = keeps_starting s h x fits stands.keeps;
      quiet = quiet_starting s h stands.quiet;
    }
