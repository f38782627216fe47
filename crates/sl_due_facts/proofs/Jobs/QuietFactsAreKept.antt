-- That no job goes on under a session in recovery or leaving is kept by each act.
use Rattle.sl_due_facts.proofs.Acts.LoopsKeep.{for_each_keeps}
use Rattle.sl_due_facts.specs.Acts.Acts.{Acts}
use Rattle.sl_due_facts.specs.Acts.TraceSoFar.{entry_of}
use Rattle.sl_area.specs.AreaLayout.{delta_offset}
use Rattle.sl_due.specs.DueCommands.{carry_decision, decided, reply_at_once}
use Rattle.sl_due.specs.CarriedDelta.{begins_by_read}
use Rattle.sl_due.specs.DueRecovery.{signal_and_refuse, signal_holders}
use Rattle.sl_due.specs.Steps.{Step, add_call_of, add_reply, for_each, seen, with_input}
use Rattle.sl_due.specs.declared.decision.Decision.{Decision}
use Rattle.sl_due.specs.declared.decision.Decision.TheVariants.{ConvertsTo, GetsValue, GivesUp, Joins, Leaves, ReadsArea, Replies, Requests, SetsValue, Shares, TakesOver}
use Rattle.sl_due_facts.proofs.Jobs.AnsweredCallsFit.{arg_name, leaves_lockspace, left_by_command}
use Rattle.sl_due_facts.proofs.Jobs.CallsHaveFacts.{sessions_told}
use Rattle.sl_due_facts.proofs.Jobs.DecisionsFit.{DecisionFits, decisions_fit}
use Rattle.sl_due_facts.proofs.Jobs.EffectsAreAllowed.{DecisionAllowed, decision, stopped}
use Rattle.sl_due_facts.proofs.Jobs.JobFactsAreKept.{begun_sessions}
use Rattle.sl_due_facts.proofs.Jobs.JobsAreNumbered.{next_before, next_is_new}
use Rattle.sl_due_facts.proofs.Jobs.LinesAreAllowed.{IsBegun}
use Rattle.sl_due_facts.proofs.Jobs.NearlyPlainActs.{AnyMove, AnyStart, Anything, Nearly, NoLook, decision_plain, nearly_acts}
use Rattle.sl_due_facts.proofs.Jobs.QuietEffects.{by_input, is_recovering_parts, names_it, quiet_effects}
use Rattle.sl_due_facts.proofs.Jobs.QuietLines.{NamesActive, lined_leaving, lined_recovering, names_active, new_leaving, quiet_answered, quiet_others}
use Rattle.sl_due_facts.proofs.Jobs.SessionsArePresent.{joined_present, present_inside}
use Rattle.sl_due_facts.proofs.Jobs.SessionsHaveJobs.{contains_either, contains_only}
use Rattle.sl_due_facts.proofs.Jobs.SessionsStand.{leaving_joined, move_joined, no_members, recovery_joined, reply_joined, reply_leaving, reply_stops, running_before, stopped_stays}
use Rattle.sl_due_facts.specs.Jobs.JobLaws.{HasQuietFacts}
use Rattle.sl_trace.specs.Jobs.{is_command_that, jobs_of_session, lockspace_named, resource_named}
use Rattle.sl_due_facts.proofs.AddedEffects.CallsGrow.{same_sessions}
use Rattle.sl_words.proofs.Lists.{contains_cases, contains_none, find_inside, kept, kept_inside}
use Rattle.sl_words.proofs.Options.{some_of, some_there}
use Rattle.sl_trace.specs.Sessions.{is_active, is_join_done, is_joined, is_recovering, is_session_arg, joined_after, joining_session, last_renewal, leaving_job, present_sessions, recovery_of, session_named, sessions}
use Rattle.sl_trace.specs.declared.session.Session.{Session}
use Rattle.sl_due_facts.specs.Facts.HeardCall.{heard_by}
use Rattle.sl_due_facts.specs.Facts.AllFacts.{Whole}
use Rattle.sl_trace.specs.Traces.{Job, Replied, Setting, Trace, is_running, job_numbered, jobs, next_call, next_job, reply_in, reply_to, running_jobs}
use Rattle.sl_trace.specs.declared.command.Command.{Command}
use Rattle.sl_trace.specs.declared.command.Command.TheVariants.{Acquire, AddLockspace, Convert, GetLvb, HostStatus, InqLockspace, Release, ReleaseOrphan, RemLockspace, Request, RunProgram, SetKillpath, SetLvb, Status, TakeOver}
use Rattle.sl_trace.specs.declared.command.LockspaceArg.{LockspaceArg}
use Rattle.sl_trace.specs.declared.command.ResourceArg.{ResourceArg}
use Rattle.sl_trace.specs.declared.effects.Call.{Call}
use Rattle.sl_trace.specs.declared.effects.JoinStep.TheVariants.{FirstRead}
use Rattle.sl_trace.specs.declared.effects.Op.TheVariants.{ReadSectors}
use Rattle.sl_trace.specs.declared.effects.Purpose.TheVariants.{Joining}
use Rattle.sl_trace.specs.declared.effects.Signal.TheVariants.{Term}
use Rattle.sl_trace.specs.declared.input.Input.TheVariants.{Line, Wake}
use Rattle.sl_trace.specs.declared.reply.Reply.{Reply}
use Rattle.sl_trace.specs.declared.reply.Reply.TheVariants.{BadCommand as Misread, Recovering}
use Rattle.sl_words.proofs.CaseLaws.{false_is_true, none_some, not_both, some_value, true_is_false}
use Rattle.sl_words.proofs.WordLaws.{some_is_true}
use Rattle.sl_words.specs.Words.{choose, some_is}
use Rattle.std.proofs.Common.{ap, ap₂, inl, inr, refl, subst, sym, ◌∙◌}
use Rattle.std.proofs.lemmas.Bool.{eqb-true}
use Rattle.std.proofs.lemmas.Slice.Eq.{bytes_eq-Decides}
use Rattle.std.specs.Prelude.{Bool, Contains, List, None, Ok, Option, Some, [], bytes_eq, false, filter, is_none, is_some, length, not, option_and_then, true, ℕ, ◌&&◌, ◌++◌, ◌+◌, ◌==◌, ◌∷◌, ◌≡◌, ◌⊎◌}

-- ---- a line that is carried out

-- The sessions of a step whose line was seen.
seen_before : (x : Step) (text : List ℕ) (s : Session) → x.effects.calls ≡ [] → Contains (sessions x.setting (by_input x (Line text) ∷ x.past)) s → Contains (sessions x.setting (seen x)) s
seen_before x text s bare there = subst (λ ss. Contains ss s) (sessions_told x (Line text) bare) there

-- Where no leaving begins.
quiet_lined : (x : Step) (text : List ℕ) (c : Command) → Whole x → x.input ≡ Wake → x.effects.calls ≡ [] → x.setting.read text ≡ Ok c → NamesActive x.setting (seen x) c → leaves_lockspace c ≡ false
    → HasQuietFacts (with_input (Line text) x)
quiet_lined x text c h wake bare says names no_leaving =
    record {
      recovering = λ s there is other. lined_recovering x text c s h wake says names (seen_before x text s bare there) is;
      leaving = λ s k i there joined leaves_one inside. lined_leaving x text c s k i h wake says names (seen_before x text s bare there) joined (old s k (new_leaving x text c s k says leaves_one)) inside;
    } where
      old : (s : Session) (k : Job) → (leaving_job x.setting (by_input x Wake ∷ x.past) s ≡ Some k) ⊎ ((a : LockspaceArg) × (c ≡ RemLockspace a) × (is_session_arg s a ≡ true) × (k.number ≡ next_job x.setting x.past))
          → leaving_job x.setting (by_input x Wake ∷ x.past) s ≡ Some k
      old s k (inl was) = was
      old s k (inr new) = absurd (true_is_false (sym (ap (λ d. leaves_lockspace d) new.1) ∙ no_leaving))

-- ---- a leaving: its session's other jobs are refused

-- What a stop leaves of what stood.
pub record Stopping (w y : Step) : Type 0 where
  pub joined : (s : Session) → is_some (joined_after w.past s) ≡ true → is_joined (seen y) s ≡ true → is_joined (seen w) s ≡ true
  pub recovery : (s : Session) → recovery_of y.setting (seen y) s ≡ recovery_of w.setting (seen w) s
  pub leaving : (s : Session) (k : Job) → leaving_job y.setting (seen y) s ≡ Some k → leaving_job w.setting (seen w) s ≡ Some k
  pub sessions : sessions y.setting (seen y) ≡ sessions w.setting (seen w)
  pub jobs : jobs y.setting (seen y) ≡ jobs w.setting (seen w)
  pub running : (n : ℕ) → is_running (seen y) n ≡ true → is_running (seen w) n ≡ true
  pub before : y.past ≡ w.past
  pub input : y.input ≡ w.input

pub stopping_itself : (w : Step) → Stopping w w
stopping_itself w = record { joined = λ s was is. is; recovery = λ s. refl; leaving = λ s k is. is; sessions = refl; jobs = refl; running = λ n is. is; before = refl; input = refl }

pub stopping : (w : Step) → Nearly (Stopping w)
stopping w =
    record {
      ends = λ y e h. record { joined = h.joined; recovery = h.recovery; leaving = h.leaving; sessions = h.sessions; jobs = h.jobs; running = h.running; before = h.before; input = h.input };
      signals = λ y q signal h. record { joined = h.joined; recovery = h.recovery; leaving = h.leaving; sessions = h.sessions; jobs = h.jobs; running = h.running; before = h.before; input = h.input };
      moves = λ y m may h. record { joined = λ s was is. h.joined s was (move_joined y m s is); recovery = h.recovery; leaving = h.leaving; sessions = h.sessions; jobs = h.jobs; running = h.running; before = h.before; input = h.input };
      grants = λ y g h. record { joined = h.joined; recovery = h.recovery; leaving = h.leaving; sessions = h.sessions; jobs = h.jobs; running = h.running; before = h.before; input = h.input };
      starts = λ y k may h. record { joined = h.joined; recovery = h.recovery; leaving = h.leaving; sessions = h.sessions; jobs = h.jobs; running = h.running; before = h.before; input = h.input };
      replies = λ y j r may h. record {
        joined = λ s was is. h.joined s was (sym (reply_joined y j r s (subst (λ es. is_some (joined_after es s) ≡ true) (sym h.before) was)) ∙ is);
        recovery = h.recovery;
        leaving = λ s k is. h.leaving s k (reply_leaving y j r s k is);
        sessions = h.sessions;
        jobs = h.jobs;
        running = λ n is. h.running n (running_before y j r n is);
        before = h.before;
        input = h.input;
      };
      calls = λ y s path p o op no_look h. record {
        joined = h.joined;
        recovery = h.recovery;
        leaving = h.leaving;
        sessions = same_sessions y.setting (entry_of y) y.past (record { number = next_call y.setting (seen y); session = s.number; purpose = p; path = path; offset = o; op = op }) no_look ∙ h.sessions;
        jobs = h.jobs;
        running = h.running;
        before = h.before;
        input = h.input;
      };
      rest = λ y h. h;
    }

-- Each of the jobs of a loop is refused by its end.
pub loop_stops : (js : List Job) (r : Reply) (z : Step) (i : Job) → Contains js i → is_running (seen (for_each js (λ j. add_reply j.number r) z)) i.number ≡ false
loop_stops [] r z i there = absurd (contains_none i there)
loop_stops (j ∷ js) r z i there = by (contains_cases j js i there) (λ old. loop_stops js r (add_reply j.number r z) i old) where
  by : (j ≡ i) ⊎ Contains js i → (Contains js i → is_running (seen (for_each js (λ k. add_reply k.number r) (add_reply j.number r z))) i.number ≡ false)
      → is_running (seen (for_each js (λ k. add_reply k.number r) (add_reply j.number r z))) i.number ≡ false
  by (inl is) more =
      for_each_keeps (λ y. is_running (seen y) i.number ≡ false) js (λ k. add_reply k.number r) (add_reply j.number r z) (λ k inside y stops. stopped_stays y k.number r i.number stops)
      (subst (λ (k : Job). is_running (seen (add_reply j.number r z)) k.number ≡ false) is (reply_stops z j.number r))
  by (inr old) more = more old

-- A stop leaves no running job of the session but the one that it keeps.
pub stop_leaves : (w : Step) (s : Session) (kept_one : Option ℕ) (i : Job) → Contains (jobs_of_session (signal_and_refuse s kept_one w).setting (seen (signal_and_refuse s kept_one w)) s) i → kept_one ≡ Some i.number
unfolding signal_and_refuse
stop_leaves w s kept_one i there = by (not (some_is (λ n. n == i.number) kept_one)) refl where
  z : Step
  z = signal_holders Term s w

  was : (b : Bool) → not b ≡ false → b ≡ true
  was true h = refl
  was false h = absurd (true_is_false h)

  by : (b : Bool) → not (some_is (λ n. n == i.number) kept_one) ≡ b → kept_one ≡ Some i.number
  by false is =
      let its = some_is_true (λ n. n == i.number) kept_one (was (some_is (λ n. n == i.number) kept_one) is) in its.1 ∙ ap (λ n. Some n) (eqb-true its.0 i.number its.2)
  by true is =
      let r : Reply = Recovering (last_renewal z.setting (seen z) s) in
      let js : List Job = jobs_of_session z.setting (seen z) s in
      let y : Step = for_each (filter (λ (j : Job). not (some_is (λ n. n == j.number) kept_one)) js) (λ j. add_reply j.number r) z in
      let k : Stopping z y = for_each_keeps (Stopping z) (filter (λ (j : Job). not (some_is (λ n. n == j.number) kept_one)) js) (λ j. add_reply j.number r) z (λ j inside x h. (stopping z).replies x j.number r tt h) (stopping_itself z) in
      let named = kept_inside (is_command_that (names_it s)) (running_jobs y.setting (seen y)) i there in
      let runs = kept_inside (λ (j : Job). is_running (seen y) j.number) (jobs y.setting (seen y)) i named.0 in
      let before : Contains js i =
      kept (is_command_that (names_it s)) (running_jobs z.setting (seen z)) i named.1
      (kept (λ (j : Job). is_running (seen z) j.number) (jobs z.setting (seen z)) i (k.running i.number runs.1) (subst (λ ks. Contains ks i) k.jobs runs.0))
      in
      absurd (not_both (is_running (seen y) i.number) runs.1 (loop_stops (filter (λ (j : Job). not (some_is (λ n. n == j.number) kept_one)) js) r z i (kept (λ (j : Job). not (some_is (λ n. n == j.number) kept_one)) js i is before)))

pub stop_stopping : (w : Step) (s : Session) (kept_one : Option ℕ) → Stopping w (signal_and_refuse s kept_one w)
stop_stopping w s kept_one = stopped (Stopping w) (Stopping w) Anything NoLook AnyStart AnyMove (stopping w) tt w s kept_one (λ z k j there. tt) (stopping_itself w)

-- A job that runs under a session at a stop's end did before.
pub job_at_stop : (w y : Step) (s : Session) (i : Job) → Stopping w y → Contains (jobs_of_session y.setting (seen y) s) i → Contains (jobs_of_session w.setting (seen w) s) i
job_at_stop w y s i k there =
    let named = kept_inside (is_command_that (names_it s)) (running_jobs y.setting (seen y)) i there in
    let runs = kept_inside (λ (j : Job). is_running (seen y) j.number) (jobs y.setting (seen y)) i named.0 in
    kept (is_command_that (names_it s)) (running_jobs w.setting (seen w)) i named.1
    (kept (λ (j : Job). is_running (seen w) j.number) (jobs w.setting (seen w)) i (k.running i.number runs.1) (subst (λ ks. Contains ks i) k.jobs runs.0))

quiet_left : (x : Step) (text : List ℕ) (c : Command) (s : Session) (a : LockspaceArg) → Whole x → x.input ≡ Wake → x.effects.calls ≡ [] → x.setting.read text ≡ Ok c → c ≡ RemLockspace a → session_named x.setting (seen x) a.name ≡ Some s
    → is_active x.setting (seen x) s ≡ true → HasQuietFacts (signal_and_refuse s (Some (next_job x.setting (seen x))) (with_input (Line text) x))
quiet_left x text c s a h wake bare says leaves_one found active = quiet_at (signal_and_refuse s (Some (next_job x.setting (seen x))) (with_input (Line text) x)) (stop_stopping (with_input (Line text) x) s (Some (next_job x.setting (seen x)))) (stop_leaves (with_input (Line text) x) s (Some (next_job x.setting (seen x)))) where
  w : Step
  w = with_input (Line text) x

  names : NamesActive x.setting (seen x) c
  names = (a.name, ap (λ d. lockspace_named d) leaves_one, inr (s, found, active))

  -- a joined session of that name is this one
  one : (z : Session) → Contains (sessions x.setting (seen x)) z → is_joined (seen x) z ≡ true → a.name ≡ z.lockspace → z ≡ s
  one z there joined same =
      let its = find_inside (λ (q : Session). bytes_eq q.lockspace a.name) (present_sessions x.setting (seen x)) s found in
      h.facts.names.apart z s (present_inside x.setting (seen x) z there (joined_present (seen x) z joined)) its.0 (sym same ∙ sym ((bytes_eq-Decides s.lockspace a.name).0 its.1))

  quiet_at : (y : Step) → Stopping (with_input (Line text) x) y → ((i : Job) → Contains (jobs_of_session y.setting (seen y) s) i → Some (next_job x.setting (seen x)) ≡ Some i.number) → HasQuietFacts y
  quiet_at y k only =
      record {
        recovering = λ z there is other.
            let both = is_recovering_parts y.setting (seen y) z is in
            let begun = some_there (recovery_of x.setting (by_input x (Line text) ∷ x.past) z) (ap (λ o. is_some o) (sym (k.recovery z)) ∙ both.1) in
            let joined : is_joined (by_input x Wake ∷ x.past) z ≡ true = k.joined z (recovery_joined x.setting (by_input x (Line text)) x.past z begun.0 begun.1) both.0 in
            let none : jobs_of_session x.setting (by_input x (Line text) ∷ x.past) z ≡ [] =
            lined_recovering x text c z h wake says names (seen_before x text z bare (subst (λ ss. Contains ss z) k.sessions there)) (ap₂ (λ p q. p && is_some q) joined begun.1)
            in
            no_members (jobs_of_session y.setting (seen y) z) (λ i inside. contains_none i (subst (λ ks. Contains ks i) none (job_at_stop w y z i k inside)));
        leaving = λ z j i there joined leaves_z inside. by_leaving z j i (seen_before x text z bare (subst (λ ss. Contains ss z) k.sessions there)) joined (k.leaving z j leaves_z) inside (new_leaving x text c z j says (k.leaving z j leaves_z));
      } where
        by_leaving : (z : Session) (j i : Job) → Contains (sessions x.setting (seen x)) z → is_joined (seen y) z ≡ true → leaving_job x.setting (by_input x (Line text) ∷ x.past) z ≡ Some j → Contains (jobs_of_session y.setting (seen y) z) i
            → (leaving_job x.setting (by_input x Wake ∷ x.past) z ≡ Some j) ⊎ ((b : LockspaceArg) × (c ≡ RemLockspace b) × (is_session_arg z b ≡ true) × (j.number ≡ next_job x.setting x.past)) → i.number ≡ j.number
        by_leaving z j i there joined leaves_z inside (inl was) =
            lined_leaving x text c z j i h wake says names there (k.joined z (leaving_joined x.setting (by_input x (Line text)) x.past z j leaves_z) joined) was (job_at_stop w y z i k inside)
        by_leaving z j i there joined leaves_z inside (inr new) =
            let now : is_joined (by_input x (Line text) ∷ x.past) z ≡ true = k.joined z (leaving_joined x.setting (by_input x (Line text)) x.past z j leaves_z) joined in
            let same : a ≡ new.0 = some_value a new.0 (ap (λ d. left_by_command d) (sym leaves_one ∙ new.1)) in
            let is : z ≡ s = one z there (subst (λ q. is_joined (by_input x q ∷ x.past) z ≡ true) (sym wake) now) (ap (λ (q : LockspaceArg). q.name) same ∙ arg_name z new.0 new.2) in
            let number : next_job x.setting (seen x) ≡ i.number = some_value (next_job x.setting (seen x)) i.number (only i (subst (λ q. Contains (jobs_of_session y.setting (seen y) q) i) is inside)) in
            sym number ∙ (next_before x wake ∙ sym new.3)

-- ---- a session begins

-- One that a line begins was not joined before.
pub new_unjoined : (x : Step) (n : ℕ) (a : LockspaceArg) → Whole x → x.input ≡ Wake → is_some (joined_after x.past (joining_session n (next_job x.setting (seen x)) a)) ≡ true → ⊥
new_unjoined x n a h wake is = by (reply_to x.past j) refl is where
  j : ℕ
  j = next_job x.setting (seen x)

  runs : is_running (seen x) (next_job x.setting (seen x)) ≡ true
  runs = by (is_running (seen x) (next_job x.setting (seen x))) refl where
    by : (b : Bool) → is_running (seen x) (next_job x.setting (seen x)) ≡ b → is_running (seen x) (next_job x.setting (seen x)) ≡ true
    by true yes_it = yes_it
    by false stops =
        let job = some_of (job_numbered x.setting (seen x) (next_job x.setting (seen x))) (h.facts.jobs.replied (next_job x.setting (seen x)) stops) in
        absurd (none_some job.0 (sym (next_is_new x.setting (seen x)) ∙ job.1))

  by : (o : Option Replied) → reply_to x.past (next_job x.setting (seen x)) ≡ o → is_some (option_and_then (λ (r : Replied). choose (is_join_done r.reply) (r.at + 1)) o) ≡ true → ⊥
  by None was h = false_is_true h
  by (Some r) was h = not_both (is_running (seen x) (next_job x.setting (seen x))) runs (ap (λ o. is_none (elim o as (λ z. Option Replied) [ Some q ↦ Some q | None ↦ reply_in (next_job x.setting (seen x)) x.past (entry_of x) ])) was)

quiet_begun : (x : Step) (text : List ℕ) (c : Command) (n : ℕ) (a : LockspaceArg) → Whole x → x.input ≡ Wake → x.effects.calls ≡ [] → x.setting.read text ≡ Ok c → c ≡ AddLockspace a → n ≡ length (sessions x.setting (seen x))
    → HasQuietFacts (with_input (Line text) x) → HasQuietFacts (carry_decision (next_job x.setting (seen x)) c (Joins n a) (with_input (Line text) x))
unfolding carry_decision
quiet_begun x text c n a h wake bare says adds next q =
    record {
      recovering = λ s there is other. recovering s is other (contains_either (sessions x.setting (seen w)) (new ∷ []) s (subst (λ ss. Contains ss s) grown there));
      leaving = λ s k j there joined leaves_s inside. leaving s k j joined leaves_s inside (contains_either (sessions x.setting (seen w)) (new ∷ []) s (subst (λ ss. Contains ss s) grown there));
    } where
      w : Step
      w = with_input (Line text) x

      new : Session
      new = joining_session n (next_job x.setting (seen x)) a

      made : Call
      made = record { number = next_call x.setting (seen (with_input (Line text) x)); session = n; purpose = Joining (next_job x.setting (seen x)) FirstRead; path = a.path; offset = delta_offset x.setting.layout a.offset a.id; op = ReadSectors 1 }

      y : Step
      y = add_call_of n a.path (Joining (next_job x.setting (seen x)) FirstRead) (delta_offset x.setting.layout a.offset a.id) (ReadSectors 1) (with_input (Line text) x)

      grown : sessions x.setting (seen (add_call_of n a.path (Joining (next_job x.setting (seen x)) FirstRead) (delta_offset x.setting.layout a.offset a.id) (ReadSectors 1) (with_input (Line text) x)))
          ≡ sessions x.setting (seen (with_input (Line text) x)) ++ joining_session n (next_job x.setting (seen x)) a ∷ []
      grown = begun_sessions x text n a made wake bare (says ∙ ap (λ z. Ok z) adds) next refl

      recovering : (s : Session) → is_recovering x.setting (seen w) s ≡ true → (false && begins_by_read (seen y) (recovery_of x.setting (seen y) s)) ≡ false → Contains (sessions x.setting (seen w)) s ⊎ Contains (new ∷ []) s
          → jobs_of_session x.setting (seen w) s ≡ []
      recovering s is other (inl old) = q.recovering s old is other
      recovering s is other (inr one) =
          let same : new ≡ s = contains_only new s one in
          let begun = some_there (recovery_of x.setting (seen w) s) (is_recovering_parts x.setting (seen w) s is).1 in
          absurd (new_unjoined x n a h wake (subst (λ (z : Session). is_some (joined_after x.past z) ≡ true) (sym same) (recovery_joined x.setting (entry_of w) x.past s begun.0 begun.1)))

      leaving : (s : Session) (k j : Job) → is_joined (seen w) s ≡ true → leaving_job x.setting (seen w) s ≡ Some k → Contains (jobs_of_session x.setting (seen w) s) j → Contains (sessions x.setting (seen w)) s ⊎ Contains (new ∷ []) s → j.number ≡ k.number
      leaving s k j joined leaves_s inside (inl old) = q.leaving s k j old joined leaves_s inside
      leaving s k j joined leaves_s inside (inr one) =
          let same : new ≡ s = contains_only new s one in
          absurd (new_unjoined x n a h wake (subst (λ (z : Session). is_some (joined_after x.past z) ≡ true) (sym same) (leaving_joined x.setting (entry_of w) x.past s k leaves_s)))

-- ---- all acts

-- Whether a decision leaves.
abbrev pub IsLeft : Decision → Type 0
IsLeft (Leaves s) = Unit {0}
IsLeft d = ⊥

no_resource : (c : Command) (r : ResourceArg) → resource_named c ≡ Some r → leaves_lockspace c ≡ false
no_resource (RemLockspace a) r is = absurd (none_some r is)
no_resource (AddLockspace a) r is = refl
no_resource (InqLockspace a) r is = refl
no_resource (HostStatus a) r is = refl
no_resource (Acquire q shared p persistent) r is = refl
no_resource (TakeOver q shared p persistent) r is = refl
no_resource (Release q p) r is = refl
no_resource (ReleaseOrphan q) r is = refl
no_resource (Convert q shared p) r is = refl
no_resource (RunProgram q shared path) r is = refl
no_resource (Request q lver force) r is = refl
no_resource (GetLvb q p) r is = refl
no_resource (SetLvb q p bytes) r is = refl
no_resource (SetKillpath p path) r is = refl
no_resource Status r is = refl

pub left_or_not : (st : Setting) (es : Trace) (c : Command) (d : Decision) → reply_at_once d ≡ None → DecisionFits st es c d → IsLeft d ⊎ (leaves_lockspace c ≡ false)
left_or_not st es c (Replies r) none f = absurd (none_some r (sym none))
left_or_not st es c (Leaves s) none f = inl tt
left_or_not st es c (Joins n a) none f = inr (ap (λ d. leaves_lockspace d) f.0)
left_or_not st es c (ReadsArea s r) none f = inr (no_resource c r f.1.0)
left_or_not st es c (Shares s lver) none f = inr (no_resource c f.1.0 f.1.1.0)
left_or_not st es c (GivesUp s g) none f = inr (no_resource c f.1.0 f.1.1.0)
left_or_not st es c (TakesOver s g) none f = inr (no_resource c f.1.0 f.1.1.0)
left_or_not st es c (ConvertsTo s r mode) none f = inr (no_resource c r f.1.0)
left_or_not st es c (Requests s r) none f = inr (no_resource c r f.1.0)
left_or_not st es c (SetsValue s at v) none f = inr (no_resource c f.1.0 f.1.1.0)
left_or_not st es c (GetsValue s at) none f = inr (no_resource c f.1.0 f.1.1.0)

quiet_carried : (x : Step) (text : List ℕ) (c : Command) (d : Decision) → x.input ≡ Wake → x.effects.calls ≡ [] → x.setting.read text ≡ Ok c → decided x.setting (seen x) x.reading c ≡ d → reply_at_once d ≡ None → Whole x
    → HasQuietFacts (carry_decision (next_job x.setting (seen x)) c d (with_input (Line text) x))
unfolding carry_decision
quiet_carried x text c d wake bare says is more h = by d more fits (left_or_not x.setting (seen x) c d more fits) where
  w : Step
  w = with_input (Line text) x

  fits : DecisionFits x.setting (seen x) c d
  fits = subst (λ z. DecisionFits x.setting (seen x) c z) is (decisions_fit x.setting (seen x) x.reading c)

  left_one : (z : Decision) → IsLeft z → DecisionFits x.setting (seen x) c z → HasQuietFacts (carry_decision (next_job x.setting (seen x)) c z (with_input (Line text) x))
  left_one (Leaves s) k f = quiet_left x text c s f.1.0 h wake bare says f.1.1 f.1.2 f.0
  left_one (Replies r) k f = absurd k
  left_one (Joins n a) k f = absurd k
  left_one (ReadsArea s r) k f = absurd k
  left_one (Shares s lver) k f = absurd k
  left_one (GivesUp s g) k f = absurd k
  left_one (TakesOver s g) k f = absurd k
  left_one (ConvertsTo s r mode) k f = absurd k
  left_one (Requests s r) k f = absurd k
  left_one (SetsValue s spot v) k f = absurd k
  left_one (GetsValue s spot) k f = absurd k

  other : (z : Decision) → HasQuietFacts (with_input (Line text) x) → DecisionFits x.setting (seen x) c z → IsBegun z ⊎ DecisionAllowed HasQuietFacts Anything NoLook AnyStart (with_input (Line text) x) (next_job x.setting (seen x)) c z
      → HasQuietFacts (carry_decision (next_job x.setting (seen x)) c z (with_input (Line text) x))
  other z q f (inr may) =
      decision HasQuietFacts HasQuietFacts Anything NoLook AnyStart AnyMove (quiet_effects heard_by) (with_input (Line text) x) (next_job x.setting (seen x)) c z may
      (λ n a joins. let g = subst (λ k. DecisionFits x.setting (seen x) c k) joins f in quiet_begun x text c n a h wake bare says g.0 g.1 q) q
  other z q f (inl k) = begun z k f where
    begun : (v : Decision) → IsBegun v → DecisionFits x.setting (seen x) c v → HasQuietFacts (carry_decision (next_job x.setting (seen x)) c v (with_input (Line text) x))
    begun (Joins n a) b g = quiet_begun x text c n a h wake bare says g.0 g.1 q
    begun (Leaves s) b g = absurd b
    begun (Replies r) b g = absurd b
    begun (ReadsArea s r) b g = absurd b
    begun (Shares s lver) b g = absurd b
    begun (GivesUp s g2) b g = absurd b
    begun (TakesOver s g2) b g = absurd b
    begun (ConvertsTo s r mode) b g = absurd b
    begun (Requests s r) b g = absurd b
    begun (SetsValue s spot v2) b g = absurd b
    begun (GetsValue s spot) b g = absurd b

  by : (z : Decision) → reply_at_once z ≡ None → DecisionFits x.setting (seen x) c z → IsLeft z ⊎ (leaves_lockspace c ≡ false) → HasQuietFacts (carry_decision (next_job x.setting (seen x)) c z (with_input (Line text) x))
  by z none f (inl k) = left_one z k f
  by z none f (inr no_leaving) =
      other z (quiet_lined x text c h wake bare says (names_active x.setting (seen x) c z none f) no_leaving) f (decision_plain HasQuietFacts (with_input (Line text) x) (next_job x.setting (seen x)) c z)

pub quiet_facts_are_kept : Acts Whole HasQuietFacts
quiet_facts_are_kept =
    nearly_acts Whole HasQuietFacts (λ x h. h.facts.quiet) (quiet_effects heard_by) (record {
      others = quiet_others;
      misreads = λ x text column wake bare says h. quiet_answered x text (Misread column) wake bare h.facts.quiet;
      answers = λ x text c r wake bare says is h. quiet_answered x text r wake bare h.facts.quiet;
      carries = quiet_carried;
    })
