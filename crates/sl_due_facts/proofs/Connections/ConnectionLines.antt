-- What is known of connections is kept by what a command comes to.
use Rattle.sl_due_facts.proofs.Acts.AddedAtEnd.{contains_at, contains_last}
use Rattle.sl_due_facts.proofs.Acts.DecisionsAreTheirs.{Of}
use Rattle.sl_due_facts.proofs.Acts.PlainActs.{line_has}
use Rattle.sl_due_facts.specs.Acts.Acts.{Has}
use Rattle.sl_due_facts.specs.Acts.TraceSoFar.{entry_of}
use Rattle.sl_area.specs.AreaLayout.{delta_offset}
use Rattle.sl_due.specs.DueCommands.{carry_decision, decided}
use Rattle.sl_due.specs.Steps.{Step, add_call_of, add_reply, seen, with_input}
use Rattle.sl_due.specs.declared.decision.Decision.TheVariants.{ConvertsTo, GetsValue, GivesUp, Joins, Leaves, ReadsArea, Replies, Requests, SetsValue, Shares, TakesOver}
use Rattle.sl_due.specs.declared.decision.Decision.{Decision}
use Rattle.sl_due_facts.proofs.Jobs.AnsweredCallsFit.{both_of}
use Rattle.sl_due_facts.proofs.Jobs.CallsHaveFacts.{input_kept, more_is_other, sessions_told}
use Rattle.sl_due_facts.proofs.Jobs.DecisionsFit.{DecisionFits, decisions_fit}
use Rattle.sl_due_facts.proofs.Jobs.EffectsAreAllowed.{DecisionAllowed, decision}
use Rattle.sl_due_facts.proofs.Jobs.JobFactsAreKept.{begun_sessions}
use Rattle.sl_due_facts.proofs.Jobs.JobFactsGrow.{input_sees}
use Rattle.sl_due_facts.proofs.Jobs.JobsAreNumbered.{next_is_new}
use Rattle.sl_due_facts.proofs.Jobs.LinesAreAllowed.{IsBegun, late_on_line}
use Rattle.sl_due_facts.proofs.Jobs.NearlyPlainActs.{AnyStart}
use Rattle.sl_due_facts.proofs.Jobs.SessionsArePresent.{joined_present}
use Rattle.sl_due_facts.proofs.Jobs.SessionsHaveJobs.{number_taken}
use Rattle.sl_run.specs.LawfulConnections.{is_covered}
use Rattle.sl_trace.specs.Jobs.{is_command_that, jobs_of_session, lockspace_named}
use Rattle.sl_due_facts.proofs.AddedEffects.CallsGrow.{mine_more, others_stay}
use Rattle.sl_words.proofs.Lists.{any_of, contains_cases, got_inside, kept, kept_inside}
use Rattle.sl_words.proofs.Numbers.{number_itself}
use Rattle.sl_words.proofs.Options.{some_of}
use Rattle.sl_run_law.proofs.Front.JoinedLists.{contains_left}
use Rattle.sl_due_facts.proofs.Connections.AllowedMore.{StopsAllowed, more_decision}
use Rattle.sl_due_facts.proofs.Connections.ConnectionEffects.{IsOtherJob, reply_connections}
use Rattle.sl_due_facts.proofs.Connections.ConnectionInputs.{input_connections}
use Rattle.sl_due_facts.proofs.Connections.ConnectionWalk.{During, NoMove, PlainCall, PlainReply, alone_of, connections_allow, during_itself}
use Rattle.sl_due_facts.proofs.Connections.ConnectionsNamed.{connected}
use Rattle.sl_due_facts.proofs.Connections.OtherJobs.{other_of_session}
use Rattle.sl_due_facts.proofs.Connections.SessionParts.{SameSession, covered_at_work, covered_present, present_of, same_covered, same_present, unjoined_not}
use Rattle.sl_due_facts.specs.Connections.ConnectionLaws.{HasConnectionFacts}
use Rattle.sl_due_facts.proofs.Sessions.NameActs.{running_unrefused}
use Rattle.sl_due_facts.proofs.Sessions.NamesAreAllowed.{Holds, NameCall, NameReply, decision_named, is_joining}
use Rattle.sl_due_facts.proofs.Sessions.NamesAtEnd.{running_unjoined}
use Rattle.sl_due_facts.proofs.Sessions.NamesGrow.{input_names, input_present}
use Rattle.sl_due_facts.specs.Sessions.SessionLaws.{HasNameFacts}
use Rattle.sl_trace.specs.Sessions.{calls_of, has_open_write, is_active, is_call_of, is_covered_stage, is_joined, is_present, joined_after, joining_session, last_renewal, leaving_job, open_calls_of, recovery_of, refused_after, removed_after, session_named, session_numbered, sessions, stage_in}
use Rattle.sl_trace.specs.declared.session.Session.{Session}
use Rattle.sl_due_facts.specs.Facts.HeardCall.{IsOpen}
use Rattle.sl_due_facts.specs.Facts.SessionFacts.{ConnectionFacts, IsHeardWriter}
use Rattle.sl_due_facts.specs.Facts.AllFacts.{Whole}
use Rattle.sl_time.specs.Times.{fail}
use Rattle.sl_trace.specs.WatchdogConnections.{Connection, is_registered, last_registering}
use Rattle.sl_trace.specs.Traces.{Job, Setting, Submitted, Trace, is_running, is_write, job_numbered, jobs, new_call, next_call, next_job, running_jobs, submitted, unanswered}
use Rattle.sl_trace.specs.declared.command.Command.TheVariants.{AddLockspace}
use Rattle.sl_trace.specs.declared.command.Command.{Command}
use Rattle.sl_trace.specs.declared.command.LockspaceArg.{LockspaceArg}
use Rattle.sl_trace.specs.declared.effects.Call.{Call}
use Rattle.sl_trace.specs.declared.effects.JoinStep.TheVariants.{FirstRead}
use Rattle.sl_trace.specs.declared.effects.Op.TheVariants.{ReadSectors}
use Rattle.sl_trace.specs.declared.effects.Op.{Op}
use Rattle.sl_trace.specs.declared.effects.Purpose.TheVariants.{Joining}
use Rattle.sl_trace.specs.declared.effects.Purpose.{Purpose}
use Rattle.sl_trace.specs.declared.input.Input.TheVariants.{Line, Wake}
use Rattle.sl_trace.specs.declared.reply.Reply.TheVariants.{Recovering}
use Rattle.sl_trace.specs.declared.reply.Reply.{Reply}
use Rattle.sl_run_law.proofs.Leases.NumberLaws.{number_is_place}
use Rattle.sl_run_law.proofs.Sessions.SessionNames.{absent}
use Rattle.sl_words.proofs.CaseLaws.{false_is_true, none_some}
use Rattle.sl_words.proofs.WordLaws.{and_true}
use Rattle.sl_words.specs.Words.{some_is}
use Rattle.std.proofs.Common.{ap, arith, inl, inr, refl, subst, sym, ◌∙◌}
use Rattle.std.proofs.lemmas.Bool.{eqb-true}
use Rattle.std.proofs.lemmas.Option.{slice_get_within}
use Rattle.std.specs.List.{list_any}
use Rattle.std.specs.Prelude.{Bool, Contains, List, None, Ok, Option, Some, [], bytes_eq, false, is_none, is_some, length, true, ℕ, ◌&&◌, ◌++◌, ◌+◌, ◌<◌, ◌==◌, ◌∷◌, ◌≡◌, ◌≤◌, ◌⊎◌}

-- ---- the job of the line is no joining's

pub other_than_next : (x : Step) (text : List ℕ) → x.effects.calls ≡ [] → IsOtherJob (with_input (Line text) x) (next_job x.setting (seen x))
other_than_next x text bare z there its =
    let low : next_job x.setting (seen x) < next_job x.setting (seen x) = number_taken x.setting (seen x) z (next_job x.setting (seen x)) (subst (λ ss. Contains ss z) (sessions_told x (Line text) bare) there) its in omega (arith, low)

pub line_connections : (x : Step) (text : List ℕ) (r : Reply) → x.input ≡ Wake → x.effects.calls ≡ [] → HasConnectionFacts x → HasConnectionFacts (add_reply (next_job x.setting (seen x)) r (with_input (Line text) x))
line_connections x text r wake bare h =
    reply_connections None (with_input (Line text) x) (next_job x.setting (seen x)) r (late_on_line x text r) (other_than_next x text bare) (input_connections x (Line text) wake bare refl h)

-- ---- jobs that name a session's lockspace

pub job_during : (x z : Step) (s : Session) (j : Job) → During x z → Contains (jobs_of_session z.setting (seen z) s) j → Contains (jobs_of_session x.setting (seen x) s) j
job_during x z s j h there =
    let p : Job → Bool = is_command_that (λ c. some_is (λ n. bytes_eq n s.lockspace) (lockspace_named c)) in
    let names = kept_inside p (running_jobs z.setting (seen z)) j there in
    let runs = kept_inside (λ (k : Job). is_running (seen z) k.number) (jobs z.setting (seen z)) j names.0 in
    kept p (running_jobs x.setting (seen x)) j names.1 (kept (λ (k : Job). is_running (seen x) k.number) (jobs x.setting (seen x)) j (h.running j.number runs.1) (subst (λ js. Contains js j) h.jobs runs.0))

-- ---- a session begins

pub writing_present : (t : Trace) (s : Session) → joined_after t s ≡ None → has_open_write t s ≡ true → is_present t s ≡ true
writing_present t s none writes = by (joined_after t s) (removed_after t s) (refused_after t s) (calls_of t s) none writes where
  by : (joined removed refused : Option ℕ) (ms : List Submitted) → joined ≡ None → list_any (λ (m : Submitted). is_write m.call.op) (unanswered ms) ≡ true → present_of joined removed refused ms ≡ true
  by None removed None ms none writes = refl
  by None removed (Some k) ms none writes = writes
  by (Some k) removed refused ms none writes = absurd (none_some k (sym none))

pub begun_connections : (x : Step) (text : List ℕ) (c : Command) (n : ℕ) (a : LockspaceArg) → x.input ≡ Wake → x.effects.calls ≡ [] → x.setting.read text ≡ Ok c → c ≡ AddLockspace a → n ≡ length (sessions x.setting (seen x)) → session_named x.setting (seen x) a.name ≡ None
    → Whole x → HasConnectionFacts (carry_decision (next_job x.setting (seen x)) c (Joins n a) (with_input (Line text) x))
unfolding carry_decision
begun_connections x text c n a wake bare says adds next unnamed f =
    record {
      covers = λ s there is. covers s is (which s there);
      needed = λ name is. needed (h.needed name is);
      joined = λ s k there is its. joined s k is its (which s there);
      joining = λ s k there is none its. joining s k is none its (which s there);
      writers = λ s z m there none inside writes opens also is same. writers s z m none inside writes opens is same (which s there) (which z also);
    } where
      w : Step
      w = with_input (Line text) x

      h : ConnectionFacts x.setting (seen (with_input (Line text) x)) None
      h = input_connections x (Line text) wake bare refl f.facts.connections

      new : Session
      new = joining_session n (next_job x.setting (seen x)) a

      made : Call
      made = record { number = next_call x.setting (seen (with_input (Line text) x)); session = n; purpose = Joining (next_job x.setting (seen x)) FirstRead; path = a.path; offset = delta_offset x.setting.layout a.offset a.id; op = ReadSectors 1 }

      call : Submitted
      call = new_call (length x.past) x.reading made

      y : Step
      y = add_call_of n a.path (Joining (next_job x.setting (seen x)) FirstRead) (delta_offset x.setting.layout a.offset a.id) (ReadSectors 1) (with_input (Line text) x)

      grown : sessions x.setting (seen y) ≡ sessions x.setting (seen w) ++ new ∷ []
      grown = begun_sessions x text n a made wake bare (says ∙ ap (λ z. Ok z) adds) next refl

      which : (s : Session) → Contains (sessions x.setting (seen y)) s → Contains (sessions x.setting (seen w)) s ⊎ (new ≡ s)
      which s there = contains_last (sessions x.setting (seen w)) new s (subst (λ ss. Contains ss s) grown there)

      last : n ≡ length (sessions x.setting (seen w))
      last = next ∙ ap (λ ss. length ss) (sym (sessions_told x (Line text) bare))

      old_other : (s : Session) → Contains (sessions x.setting (seen w)) s → (n == s.number) ≡ false
      old_other s there =
          let at = contains_at (sessions x.setting (seen w)) s there in
          let place : s.number ≡ at.0 = number_is_place x.setting (seen w) at.0 s at.1 in
          let low : at.0 < length (sessions x.setting (seen w)) = slice_get_within (sessions x.setting (seen w)) at.0 s at.1 in
          more_is_other s.number n (subst (λ k. k < n) (sym place) (subst (λ k. at.0 < k) (sym last) low))

      same : (s : Session) → Contains (sessions x.setting (seen w)) s → SameSession (seen w) (seen y) s
      same s there = record { joined = refl; removed = refl; refused = refl; calls = others_stay (entry_of w) x.past made s (old_other s there) }

      calls_new : calls_of (seen y) new ≡ call ∷ calls_of (seen w) new
      calls_new = mine_more (entry_of w) x.past made new (number_itself n)

      none_before : (m : Submitted) → Contains (calls_of (seen w) new) m → ⊥
      none_before m there =
          let its = kept_inside (is_call_of new) (submitted (seen w)) m there in
          let owner = some_of (session_numbered x.setting (seen w) m.call.session) ((input_kept x (Line text) wake bare refl f.facts.calls).owned m its.0) in
          let low : m.call.session < length (sessions x.setting (seen w)) = slice_get_within (sessions x.setting (seen w)) m.call.session owner.0 owner.1 in
          let is : m.call.session ≡ n = eqb-true m.call.session n its.1 in omega (arith, low, is, last)

      runs : is_running (seen w) (next_job x.setting (seen x)) ≡ true
      runs = by (is_running (seen x) (next_job x.setting (seen x))) refl where
        by : (b : Bool) → is_running (seen x) (next_job x.setting (seen x)) ≡ b → b ≡ true
        by true is = refl
        by false is =
            let j = some_of (job_numbered x.setting (seen x) (next_job x.setting (seen x))) (f.facts.jobs.replied (next_job x.setting (seen x)) is) in absurd (none_some j.0 (sym (next_is_new x.setting (seen x)) ∙ j.1))

      unjoined : joined_after (seen y) new ≡ None
      unjoined = running_unjoined (seen w) new (next_job x.setting (seen x)) refl runs

      uncovered : is_covered (seen y) new ≡ true → ⊥
      uncovered is = false_is_true (sym (covered_at_work (seen y) new unjoined (running_unrefused (seen w) new (next_job x.setting (seen x)) refl runs) ∙ ap (λ ms. is_covered_stage (stage_in ms)) calls_new) ∙ is)

      -- no session that was present has the name
      taken : (s : Session) → Contains (sessions x.setting (seen w)) s → is_present (seen w) s ≡ true → a.name ≡ s.lockspace → ⊥
      taken s there is name = absent x.setting (seen x) a.name s (subst (λ ss. Contains ss s) (sessions_told x (Line text) bare) there) (sym name) unnamed (input_present x (Line text) s wake bare is)

      covers : (s : Session) → is_covered (seen y) s ≡ true → Contains (sessions x.setting (seen w)) s ⊎ (new ≡ s) → is_registered x.setting (seen w) s.lockspace ≡ true
      covers s is (inl old) = h.covers s old (sym (same_covered (seen w) (seen y) s (same s old)) ∙ is)
      covers s is (inr one) = absurd (uncovered (subst (λ z. is_covered (seen y) z ≡ true) (sym one) is))

      unheard_writer : (z : Session) → IsHeardWriter (seen w) None z → ⊥
      unheard_writer z k = none_some k.1.0.call.number k.1.3

      needed : {name : List ℕ} → (z : Session) × Contains (sessions x.setting (seen w)) z × (z.lockspace ≡ name) × ((is_covered (seen w) z ≡ true) ⊎ IsHeardWriter (seen w) None z)
          → (z : Session) × Contains (sessions x.setting (seen y)) z × (z.lockspace ≡ name) × ((is_covered (seen y) z ≡ true) ⊎ IsHeardWriter (seen y) None z)
      needed k = (k.0, subst (λ ss. Contains ss k.0) (sym grown) (contains_left (sessions x.setting (seen w)) (new ∷ []) k.0 k.1), k.2, by k.3) where
        by : (is_covered (seen w) k.0 ≡ true) ⊎ IsHeardWriter (seen w) None k.0 → (is_covered (seen y) k.0 ≡ true) ⊎ IsHeardWriter (seen y) None k.0
        by (inl is) = inl (same_covered (seen w) (seen y) k.0 (same k.0 k.1) ∙ is)
        by (inr writer) = absurd (unheard_writer k.0 writer)

      joined : (s : Session) (k : Connection) → is_joined (seen y) s ≡ true → connected x.setting (seen w) s.lockspace ≡ Some k → Contains (sessions x.setting (seen w)) s ⊎ (new ≡ s) → k.expiry ≤ last_renewal x.setting (seen w) s + fail x.setting.timing
      joined s k is its (inl old) = h.joined s k old is its
      joined s k is its (inr one) = absurd (unjoined_not (seen y) new unjoined (subst (λ z. is_joined (seen y) z ≡ true) (sym one) is))

      unconnected_new : (k : Connection) → connected x.setting (seen w) a.name ≡ Some k → ⊥
      unconnected_new k its = by (h.needed a.name (ap (λ o. is_some o) its)) where
        either : (z : Session) → Contains (sessions x.setting (seen w)) z → z.lockspace ≡ a.name → (is_covered (seen w) z ≡ true) ⊎ IsHeardWriter (seen w) None z → ⊥
        either z there name (inl is) = taken z there (covered_present (seen w) z is) (sym name)
        either z there name (inr writer) = unheard_writer z writer

        by : (z : Session) × Contains (sessions x.setting (seen w)) z × (z.lockspace ≡ a.name) × ((is_covered (seen w) z ≡ true) ⊎ IsHeardWriter (seen w) None z) → ⊥
        by z = either z.0 z.1 z.2 z.3

      joining : (s : Session) (k : Connection) → is_present (seen y) s ≡ true → joined_after (seen y) s ≡ None → connected x.setting (seen w) s.lockspace ≡ Some k → Contains (sessions x.setting (seen w)) s ⊎ (new ≡ s)
          → k.expiry ≡ last_registering (seen w) s.lockspace + fail x.setting.timing
      joining s k is none its (inl old) = h.joining s k old (sym (same_present (seen w) (seen y) s (same s old)) ∙ is) none its
      joining s k is none its (inr one) = absurd (unconnected_new k (ap (λ (z : Session). connected x.setting (seen w) z.lockspace) one ∙ its))

      unanswered_one : (m : Submitted) → IsOpen (seen y) None m → m.answer ≡ None
      unanswered_one m (inl none) = none
      unanswered_one m (inr both) = absurd (none_some m.call.number both.0)

      writers : (s z : Session) (m : Submitted) → joined_after (seen y) s ≡ None → Contains (calls_of (seen y) s) m → is_write m.call.op ≡ true → IsOpen (seen y) None m → is_present (seen y) z ≡ true → z.lockspace ≡ s.lockspace
          → Contains (sessions x.setting (seen w)) s ⊎ (new ≡ s) → Contains (sessions x.setting (seen w)) z ⊎ (new ≡ z) → z ≡ s
      writers s z m none inside writes opens is name (inl old) (inl also) =
          h.writers s z m old none (subst (λ ms. Contains ms m) (same s old).calls inside) writes (inl (unanswered_one m opens)) also (sym (same_present (seen w) (seen y) z (same z also)) ∙ is) name
      writers s z m none inside writes opens is name (inl old) (inr one) =
          let mine : Contains (calls_of (seen w) s) m = subst (λ ms. Contains ms m) (same s old).calls inside in
          let waits : has_open_write (seen w) s ≡ true =
          any_of (λ (k : Submitted). is_write k.call.op) (open_calls_of (seen w) s) m writes (kept (λ (k : Submitted). is_none k.answer) (calls_of (seen w) s) m (ap (λ o. is_none o) (unanswered_one m opens)) mine)
          in
          absurd (taken s old (writing_present (seen w) s none waits) (ap (λ (q : Session). q.lockspace) one ∙ name))
      writers s z m none inside writes opens is name (inr one) also =
          absurd (by (contains_cases call (calls_of (seen w) new) m (subst (λ ms. Contains ms m) calls_new (subst (λ q. Contains (calls_of (seen y) q) m) (sym one) inside)))) where
            by : (call ≡ m) ⊎ Contains (calls_of (seen w) new) m → ⊥
            by (inl first) = false_is_true (ap (λ (k : Submitted). is_write k.call.op) first ∙ writes)
            by (inr before) = none_before m before

-- ---- what a command came to

pub active_is_joined : (st : Setting) (t : Trace) (s : Session) → is_active st t s ≡ true → is_joined t s ≡ true
active_is_joined st t s is = (and_true (is_joined t s) (is_none (recovery_of st t s)) (and_true (is_joined t s && is_none (recovery_of st t s)) (is_none (leaving_job st t s)) is).0).0

pub carried_calls : (x : Step) (text : List ℕ) (c : Command) (d : Decision) → DecisionFits x.setting (seen x) c d
    → Of (λ s. (path : List ℕ) (p : Purpose) (o : ℕ) (op : Op) → is_joining p ≡ false → NameCall (with_input (Line text) x) s path p o op → PlainCall (with_input (Line text) x) s path p o op) d
carried_calls x text c (Replies r) f = tt
carried_calls x text c (Joins n a) f = tt
carried_calls x text c (Leaves s) f = λ path p o op other k. (k.0, active_is_joined x.setting (seen x) s f.0, other)
carried_calls x text c (ReadsArea s r) f = λ path p o op other k. (k.0, active_is_joined x.setting (seen x) s f.0, other)
carried_calls x text c (Shares s lver) f = λ path p o op other k. (k.0, active_is_joined x.setting (seen x) s f.0, other)
carried_calls x text c (GivesUp s g) f = λ path p o op other k. (k.0, active_is_joined x.setting (seen x) s f.0, other)
carried_calls x text c (TakesOver s g) f = λ path p o op other k. (k.0, active_is_joined x.setting (seen x) s f.0, other)
carried_calls x text c (ConvertsTo s r mode) f = λ path p o op other k. (k.0, active_is_joined x.setting (seen x) s f.0, other)
carried_calls x text c (Requests s r) f = λ path p o op other k. (k.0, active_is_joined x.setting (seen x) s f.0, other)
carried_calls x text c (SetsValue s spot v) f = λ path p o op other k. (k.0, active_is_joined x.setting (seen x) s f.0, other)
carried_calls x text c (GetsValue s spot) f = λ path p o op other k. (k.0, active_is_joined x.setting (seen x) s f.0, other)

pub carried_connections : (x : Step) (text : List ℕ) (c : Command) (d : Decision) → Whole x → x.input ≡ Wake → x.effects.calls ≡ [] → x.setting.read text ≡ Ok c → decided x.setting (seen x) x.reading c ≡ d
    → HasConnectionFacts (carry_decision (next_job x.setting (seen x)) c d (with_input (Line text) x))
carried_connections x text c d h wake bare says is = by d has fits (decision_named x text c d has fits) (begins_or_not d) where
  w : Step
  w = with_input (Line text) x

  fits : DecisionFits x.setting (seen x) c d
  fits = subst (λ z. DecisionFits x.setting (seen x) c z) is (decisions_fit x.setting (seen x) x.reading c)

  has : Of (Has (with_input (Line text) x)) d
  has = subst (λ z. Of (Has (with_input (Line text) x)) z) is (line_has x text c bare)

  names : HasNameFacts (with_input (Line text) x)
  names = input_names x (Line text) wake bare h.facts.names

  begins : (n : ℕ) (a : LockspaceArg) → DecisionFits x.setting (seen x) c (Joins n a) → HasConnectionFacts (carry_decision (next_job x.setting (seen x)) c (Joins n a) (with_input (Line text) x))
  begins n a f = begun_connections x text c n a wake bare says f.0 f.1 f.2 h

  begun : (z : Decision) → IsBegun z → DecisionFits x.setting (seen x) c z → HasConnectionFacts (carry_decision (next_job x.setting (seen x)) c z (with_input (Line text) x))
  begun (Joins n a) k f = begins n a f
  begun (Replies r) k f = absurd k
  begun (Leaves s) k f = absurd k
  begun (ReadsArea s r) k f = absurd k
  begun (Shares s lver) k f = absurd k
  begun (GivesUp s g) k f = absurd k
  begun (TakesOver s g) k f = absurd k
  begun (ConvertsTo s r mode) k f = absurd k
  begun (Requests s r) k f = absurd k
  begun (SetsValue s spot v) k f = absurd k
  begun (GetsValue s spot) k f = absurd k

  stops : (s : Session) → Has w s → is_joined (seen x) s ≡ true → StopsAllowed (During (with_input (Line text) x)) (PlainReply (with_input (Line text) x)) s
  stops s there joined z k i inside =
      let mine : Contains (sessions x.setting (seen w)) s = got_inside (sessions x.setting (seen w)) s.number s there in (
        late_on_line x text (Recovering (last_renewal z.setting (seen z) s)),
        other_of_session w s i (input_sees x (Line text) wake bare refl (both_of x h)).1 (alone_of w s names mine (joined_present (seen w) s joined)) joined (job_during w z s i k inside),
      )

  own_stops : (z : Decision) → Of (Has (with_input (Line text) x)) z → DecisionFits x.setting (seen x) c z → (s : Session) → z ≡ Leaves s → StopsAllowed (During (with_input (Line text) x)) (PlainReply (with_input (Line text) x)) s
  own_stops z there f s leaving =
      let fs : DecisionFits x.setting (seen x) c (Leaves s) = subst (λ q. DecisionFits x.setting (seen x) c q) leaving f in
      stops s (subst (λ q. Of (Has (with_input (Line text) x)) q) leaving there) (active_is_joined x.setting (seen x) s fs.0)

  begins_or_not : (z : Decision) → IsBegun z ⊎ (IsBegun z → ⊥)
  begins_or_not (Joins n a) = inl tt
  begins_or_not (Replies r) = inr (λ k. k)
  begins_or_not (Leaves s) = inr (λ k. k)
  begins_or_not (ReadsArea s r) = inr (λ k. k)
  begins_or_not (Shares s lver) = inr (λ k. k)
  begins_or_not (GivesUp s g) = inr (λ k. k)
  begins_or_not (TakesOver s g) = inr (λ k. k)
  begins_or_not (ConvertsTo s r mode) = inr (λ k. k)
  begins_or_not (Requests s r) = inr (λ k. k)
  begins_or_not (SetsValue s spot v) = inr (λ k. k)
  begins_or_not (GetsValue s spot) = inr (λ k. k)

  by : (z : Decision) → Of (Has (with_input (Line text) x)) z → DecisionFits x.setting (seen x) c z
      → IsBegun z ⊎ DecisionAllowed (Holds (with_input (Line text) x)) (NameReply (with_input (Line text) x)) (NameCall (with_input (Line text) x)) AnyStart (with_input (Line text) x) (next_job x.setting (seen x)) c z
      → IsBegun z ⊎ (IsBegun z → ⊥) → HasConnectionFacts (carry_decision (next_job x.setting (seen x)) c z (with_input (Line text) x))
  by z there f may (inl k) = begun z k f
  by z there f (inl k) (inr old) = begun z k f
  by z there f (inr may) (inr old) =
      decision (During (with_input (Line text) x)) HasConnectionFacts (PlainReply (with_input (Line text) x)) (PlainCall (with_input (Line text) x)) AnyStart NoMove (connections_allow (with_input (Line text) x) names) (with_input (Line text) x) (next_job x.setting (seen x)) c z
      (more_decision (Holds (with_input (Line text) x)) (During (with_input (Line text) x)) (NameReply (with_input (Line text) x)) (PlainReply (with_input (Line text) x)) (NameCall (with_input (Line text) x)) (PlainCall (with_input (Line text) x))
      (with_input (Line text) x) (next_job x.setting (seen x)) c z (λ r late_one. (late_one, other_than_next x text bare)) (carried_calls x text c z f) (own_stops z there f) old may)
      (λ n a joins. begins n a (subst (λ q. DecisionFits x.setting (seen x) c q) joins f))
      (during_itself (with_input (Line text) x) (input_connections x (Line text) wake bare refl h.facts.connections))
