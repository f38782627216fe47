-- All acts keep what is known of names and joinings.
use Rattle.sl_due_facts.proofs.Acts.AddedAtEnd.{contains_at, contains_last}
use Rattle.sl_due_facts.proofs.Acts.LoopsKeep.{with_some_keeps}
use Rattle.sl_due_facts.specs.Acts.Acts.{Has}
use Rattle.sl_due_facts.specs.Acts.TraceSoFar.{entry_of}
use Rattle.sl_area.specs.AreaLayout.{delta_offset}
use Rattle.sl_due.specs.IdleJobs.{is_waiting_step}
use Rattle.sl_due.specs.DueCommands.{carry_decision}
use Rattle.sl_due.specs.CarriedDelta.{carry_delta, move_connection, read_own_sector, register, survey, write_own_sector}
use Rattle.sl_due.specs.Steps.{Step, add_call_of, add_reply, seen, with_input}
use Rattle.sl_due.specs.declared.decision.Decision.TheVariants.{Joins}
use Rattle.sl_due_facts.proofs.Jobs.CallsHaveFacts.{input_kept, more_is_other, sessions_told}
use Rattle.sl_due_facts.proofs.Jobs.CallsStay.{IsLate, is_special, late_join}
use Rattle.sl_due_facts.proofs.Jobs.EffectsAreAllowed.{delta}
use Rattle.sl_due_facts.proofs.Jobs.JobFactsAreKept.{begun_sessions}
use Rattle.sl_due_facts.proofs.Jobs.NearlyPlainActs.{AnyMove, AnyStart}
use Rattle.sl_due_facts.proofs.Jobs.RepliesComeAfter.{IsLateDelta}
use Rattle.sl_due_facts.proofs.Jobs.SessionsArePresent.{present_inside, present_is}
use Rattle.sl_due_facts.specs.Jobs.JobLaws.{HasCallFacts}
use Rattle.sl_due_facts.proofs.AddedEffects.CallsGrow.{mine_more, others_stay}
use Rattle.sl_due_facts.proofs.AddedEffects.EffectsAreTold.{effects_are_told}
use Rattle.sl_words.proofs.Lists.{contains_cases, head_is, kept_inside}
use Rattle.sl_words.proofs.Numbers.{number_itself}
use Rattle.sl_words.proofs.Options.{none_is, some_of}
use Rattle.sl_sector.specs.declared.sector.Rec.TheVariants.{DeltaIs}
use Rattle.sl_due_facts.proofs.Sessions.NameEffects.{joined_of, present_by, refused_of}
use Rattle.sl_due_facts.proofs.Sessions.NamesAreAllowed.{Holds, NameCall, NameReply, begin_at, joined_unrefused, names_allow}
use Rattle.sl_due_facts.proofs.Sessions.NamesGrow.{call_names, input_names, input_present, move_names, reply_names}
use Rattle.sl_due_facts.specs.Sessions.SessionLaws.{HasNameFacts}
use Rattle.sl_trace.specs.DeltaDecisions.{own_offset}
use Rattle.sl_trace.specs.Sessions.{calls_of, is_call_of, is_join_done, is_present, joined_after, joining_session, present_sessions, refused_after, removed_after, session_named, session_numbered, sessions}
use Rattle.sl_trace.specs.declared.delta.DeltaNext.{DeltaNext}
use Rattle.sl_trace.specs.declared.delta.DeltaNext.TheVariants.{Disconnect, EndLeaving, Join, MoveConnection, Nothing, ReadOwn, RefuseJoin, RegisterAndRead, WriteClaim, WriteFirst, WriteFree, WriteRenewal}
use Rattle.sl_trace.specs.declared.session.Session.{Session}
use Rattle.sl_due_facts.specs.Facts.HeardCall.{heard_by}
use Rattle.sl_time.specs.Times.{fail}
use Rattle.sl_trace.specs.Traces.{Answered, Replied, Submitted, Trace, is_ok_answer, is_running, is_write, new_call, next_call, next_job, reply_to, submitted, unanswered}
use Rattle.sl_trace.specs.declared.command.Command.{Command}
use Rattle.sl_trace.specs.declared.command.Command.TheVariants.{AddLockspace}
use Rattle.sl_trace.specs.declared.command.LockspaceArg.{LockspaceArg}
use Rattle.sl_trace.specs.declared.effects.Call.{Call}
use Rattle.sl_trace.specs.declared.effects.JoinStep.TheVariants.{ClaimWrite, FirstRead, FirstRenewal}
use Rattle.sl_trace.specs.declared.effects.Move.TheVariants.{Register, Renew}
use Rattle.sl_trace.specs.declared.effects.Op.TheVariants.{ReadSectors, WriteRecord}
use Rattle.sl_trace.specs.declared.effects.Purpose.TheVariants.{Joining, Renewal, Survey}
use Rattle.sl_trace.specs.declared.input.Input.TheVariants.{Line, Wake}
use Rattle.sl_trace.specs.declared.reply.Reply.{Reply}
use Rattle.sl_trace.specs.declared.reply.Reply.TheVariants.{Generation}
use Rattle.sl_run_law.proofs.Leases.NumberLaws.{number_is_place}
use Rattle.sl_run_law.proofs.Sessions.SessionNames.{absent}
use Rattle.sl_words.proofs.CaseLaws.{false_is_true, none_some, some_value}
use Rattle.sl_words.specs.Words.{choose, is_empty}
use Rattle.std.proofs.Common.{ap, arith, inl, inr, refl, subst, sym, ◌∙◌}
use Rattle.std.proofs.lemmas.Bool.{eqb-true}
use Rattle.std.proofs.lemmas.Option.{slice_get_within}
use Rattle.std.specs.List.{list_any}
use Rattle.std.specs.Prelude.{Contains, IsTrue, List, None, Ok, Some, [], false, is_some, length, not, option_and_then, true, ℕ, ◌++◌, ◌+◌, ◌<◌, ◌==◌, ◌∷◌, ◌≡◌, ◌⊎◌}

-- ---- joinings

-- A joining at work was not refused.
pub running_unrefused : (t : Trace) (s : Session) (j : ℕ) → s.job ≡ Some j → is_running t j ≡ true → refused_after t s ≡ None
running_unrefused t s j its runs = refused_of t s j its ∙ ap (λ o. option_and_then (λ (r : Replied). choose (not (is_join_done r.reply)) (r.at + 1)) o) (none_is (reply_to t j) runs)

-- Once its job is answered ok it is joined.
pub joined_by_reply : (y : Step) (s : Session) (j generation : ℕ) → s.job ≡ Some j → is_running (seen y) j ≡ true → is_some (joined_after (seen (add_reply j (Generation generation) y)) s) ≡ true
joined_by_reply y s j generation its runs =
    let told : reply_to (seen (add_reply j (Generation generation) y)) j ≡ Some (record { at = length y.past; reply = Generation generation }) =
    effects_are_told.replies (record { job = j; reply = Generation generation }) (entry_of y) y.past runs in
    ap (λ o. is_some o) (joined_of (seen (add_reply j (Generation generation) y)) s j its ∙ ap (λ o. option_and_then (λ (r : Replied). choose (is_join_done r.reply) (r.at + 1)) o) told)

pub joining_named : (x : Step) (s : Session) (j : ℕ) → Has x s → s.job ≡ Some j → is_running (seen x) j ≡ true → ((r : Reply) → is_special r ≡ false → IsLate x r) → HasNameFacts x → (n : DeltaNext) → IsLateDelta n → HasNameFacts (carry_delta s n x)
unfolding carry_delta
joining_named x s j has its runs after h Nothing k = h
joining_named x s j has its runs after h (RefuseJoin r) k =
    delta (Holds x) HasNameFacts (NameReply x) (NameCall x) AnyStart AnyMove (names_allow x) x s (RefuseJoin r) (λ i of. (after r k, λ z is. tt)) (begin_at x h)
joining_named x s j has its runs after h Disconnect k =
    delta (Holds x) HasNameFacts (NameReply x) (NameCall x) AnyStart AnyMove (names_allow x) x s Disconnect tt (begin_at x h)
joining_named x s j has its runs after h (ReadOwn step) k =
    with_some_keeps HasNameFacts s.job (λ i. read_own_sector s (Joining i step)) x
    (λ i of g. call_names (heard_by x.input) x s s.path (Joining i step) (own_offset x.setting s) (ReadSectors 1) has k (running_unrefused (seen x) s j its runs) g) h
joining_named x s j has its runs after h (RegisterAndRead step) k =
    with_some_keeps HasNameFacts s.job (λ i y. read_own_sector s (Joining i step) (register s y)) x
    (λ i of g. call_names (heard_by x.input) (register s x) s s.path (Joining i step) (own_offset x.setting s) (ReadSectors 1) has k (running_unrefused (seen x) s j its runs)
    (move_names (heard_by x.input) x (Register s.lockspace (x.reading + fail x.setting.timing)) g)) h
joining_named x s j has its runs after h (WriteClaim d) k =
    with_some_keeps HasNameFacts s.job (λ i. write_own_sector s (Joining i ClaimWrite) d) x
    (λ i of g. call_names (heard_by x.input) x s s.path (Joining i ClaimWrite) (own_offset x.setting s) (WriteRecord (DeltaIs d)) has refl (running_unrefused (seen x) s j its runs) g) h
joining_named x s j has its runs after h (WriteFirst d) k =
    with_some_keeps HasNameFacts s.job (λ i. write_own_sector s (Joining i FirstRenewal) d) x
    (λ i of g. call_names (heard_by x.input) x s s.path (Joining i FirstRenewal) (own_offset x.setting s) (WriteRecord (DeltaIs d)) has refl (running_unrefused (seen x) s j its runs) g) h
joining_named x s j has its runs after h (Join generation renewed) k =
    with_some_keeps HasNameFacts s.job (λ i y. survey s (add_reply i (Generation generation) (move_connection s renewed y))) x
    (λ i of g.
    let y : Step = move_connection s renewed x in
    let same : j ≡ i = some_value j i (sym its ∙ of) in
    let joined : is_some (joined_after (seen (add_reply i (Generation generation) y)) s) ≡ true = subst (λ n. is_some (joined_after (seen (add_reply n (Generation generation) y)) s) ≡ true) same (joined_by_reply y s j generation its runs) in
    call_names (heard_by x.input) (add_reply i (Generation generation) y) s s.path Survey s.offset (ReadSectors x.setting.layout.hosts) has refl (joined_unrefused (seen (add_reply i (Generation generation) y)) s joined)
    (reply_names (heard_by x.input) y i (Generation generation) (late_join y generation) (move_names (heard_by x.input) x (Renew s.lockspace (renewed + fail x.setting.timing)) g))) h
joining_named x s j has its runs after h (MoveConnection renewed) k =
    call_names (heard_by x.input) (move_connection s renewed x) s s.path Survey s.offset (ReadSectors x.setting.layout.hosts) has refl (running_unrefused (seen x) s j its runs)
    (move_names (heard_by x.input) x (Renew s.lockspace (renewed + fail x.setting.timing)) h)
joining_named x s j has its runs after h (WriteRenewal d) k =
    call_names (heard_by x.input) x s s.path Renewal (own_offset x.setting s) (WriteRecord (DeltaIs d)) has refl (running_unrefused (seen x) s j its runs) h
joining_named x s j has its runs after h (WriteFree i d) k = absurd k
joining_named x s j has its runs after h (EndLeaving i r) k = absurd k

-- ---- a session begins

pub begun_named : (x : Step) (text : List ℕ) (c : Command) (n : ℕ) (a : LockspaceArg) → x.input ≡ Wake → x.effects.calls ≡ [] → x.setting.read text ≡ Ok c → c ≡ AddLockspace a → n ≡ length (sessions x.setting (seen x)) → session_named x.setting (seen x) a.name ≡ None → HasCallFacts x
    → HasNameFacts x → HasNameFacts (carry_decision (next_job x.setting (seen x)) c (Joins n a) (with_input (Line text) x))
unfolding carry_decision
begun_named x text c n a wake bare says adds next unnamed f g =
    record {
      apart = λ p q first second same. apart p q (before p first) (before q second) same;
      begun = λ s j there its. begun s j its (which s there);
      done = λ s j m b there its runs inside is other. done s j m b its runs inside is other (which s there);
      waits = λ s j m ms there its runs are answered other. waits s j m ms its runs are answered other (which s there);
    } where
      w : Step
      w = with_input (Line text) x

      h : HasNameFacts (with_input (Line text) x)
      h = input_names x (Line text) wake bare g

      new : Session
      new = joining_session n (next_job x.setting (seen x)) a

      made : Call
      made = record { number = next_call x.setting (seen (with_input (Line text) x)); session = n; purpose = Joining (next_job x.setting (seen x)) FirstRead; path = a.path; offset = delta_offset x.setting.layout a.offset a.id; op = ReadSectors 1 }

      call : Submitted
      call = new_call (length x.past) x.reading made

      y : Step
      y = add_call_of n a.path (Joining (next_job x.setting (seen x)) FirstRead) (delta_offset x.setting.layout a.offset a.id) (ReadSectors 1) (with_input (Line text) x)

      grown : sessions x.setting (seen y) ≡ sessions x.setting (seen w) ++ new ∷ []
      grown = begun_sessions x text n a made wake bare (says ∙ ap (λ z. Ok z) adds) next refl

      which : (s : Session) → Contains (sessions x.setting (seen y)) s → Contains (sessions x.setting (seen w)) s ⊎ (new ≡ s)
      which s there = contains_last (sessions x.setting (seen w)) new s (subst (λ ss. Contains ss s) grown there)

      last : n ≡ length (sessions x.setting (seen w))
      last = next ∙ ap (λ ss. length ss) (sym (sessions_told x (Line text) bare))

      -- the numbers of the sessions before are below
      old_other : (s : Session) → Contains (sessions x.setting (seen w)) s → (n == s.number) ≡ false
      old_other s there =
          let at = contains_at (sessions x.setting (seen w)) s there in
          let place : s.number ≡ at.0 = number_is_place x.setting (seen w) at.0 s at.1 in
          let low : at.0 < length (sessions x.setting (seen w)) = slice_get_within (sessions x.setting (seen w)) at.0 s at.1 in
          more_is_other s.number n (subst (λ k. k < n) (sym place) (subst (λ k. at.0 < k) (sym last) low))

      calls_old : (s : Session) → Contains (sessions x.setting (seen w)) s → calls_of (seen y) s ≡ calls_of (seen w) s
      calls_old s there = others_stay (entry_of w) x.past made s (old_other s there)

      calls_new : calls_of (seen y) new ≡ call ∷ calls_of (seen w) new
      calls_new = mine_more (entry_of w) x.past made new (number_itself n)

      -- no call was made by the new number
      none_before : (m : Submitted) → Contains (calls_of (seen w) new) m → ⊥
      none_before m there =
          let its = kept_inside (is_call_of new) (submitted (seen w)) m there in
          let owner = some_of (session_numbered x.setting (seen w) m.call.session) ((input_kept x (Line text) wake bare refl f).owned m its.0) in
          let low : m.call.session < length (sessions x.setting (seen w)) = slice_get_within (sessions x.setting (seen w)) m.call.session owner.0 owner.1 in
          let is : m.call.session ≡ n = eqb-true m.call.session n its.1 in omega (arith, low, is, last)

      before : (s : Session) → Contains (present_sessions x.setting (seen y)) s → Contains (present_sessions x.setting (seen w)) s ⊎ (new ≡ s)
      before s there =
          let is = present_is x.setting (seen y) s there in by (which s is.0) is.1 where
            by : Contains (sessions x.setting (seen w)) s ⊎ (new ≡ s) → is_present (seen y) s ≡ true → Contains (present_sessions x.setting (seen w)) s ⊎ (new ≡ s)
            by (inr one) present = inr one
            by (inl old) present =
                inl (present_inside x.setting (seen w) s old (sym (ap (λ ms. present_by (joined_after (seen w) s) (removed_after (seen w) s) (refused_after (seen w) s) (list_any (λ (m : Submitted). is_write m.call.op) (unanswered ms))) (calls_old s old)) ∙ present))

      -- no session that was present has the name
      taken : (s : Session) → Contains (present_sessions x.setting (seen w)) s → a.name ≡ s.lockspace → ⊥
      taken s there same =
          let is = present_is x.setting (seen w) s there in
          absent x.setting (seen x) a.name s (subst (λ ss. Contains ss s) (sessions_told x (Line text) bare) is.0) (sym same) unnamed (input_present x (Line text) s wake bare is.1)

      apart : (p q : Session) → Contains (present_sessions x.setting (seen w)) p ⊎ (new ≡ p) → Contains (present_sessions x.setting (seen w)) q ⊎ (new ≡ q) → p.lockspace ≡ q.lockspace → p ≡ q
      apart p q (inl first) (inl second) same = h.apart p q first second same
      apart p q (inr one) (inr other) same = sym one ∙ other
      apart p q (inl first) (inr other) same = absurd (taken p first (ap (λ (z : Session). z.lockspace) other ∙ sym same))
      apart p q (inr one) (inl second) same = absurd (taken q second (ap (λ (z : Session). z.lockspace) one ∙ same))

      begun : (s : Session) (j : ℕ) → s.job ≡ Some j → Contains (sessions x.setting (seen w)) s ⊎ (new ≡ s) → is_empty (calls_of (seen y) s) ≡ false
      begun s j its (inl old) = ap (λ ms. is_empty ms) (calls_old s old) ∙ h.begun s j old its
      begun s j its (inr one) = subst (λ (z : Session). is_empty (calls_of (seen y) z) ≡ false) one (ap (λ ms. is_empty ms) calls_new)

      done : (s : Session) (j : ℕ) (m : Submitted) (b : Answered) → s.job ≡ Some j → is_running (seen w) j ≡ true → Contains (calls_of (seen y) s) m → m.answer ≡ Some b → (None ≡ Some m.call.number → ⊥) → Contains (sessions x.setting (seen w)) s ⊎ (new ≡ s)
          → IsTrue (is_ok_answer b.answer)
      done s j m b its runs inside is other (inl old) = h.done s j m b old its runs (subst (λ ms. Contains ms m) (calls_old s old) inside) is other
      done s j m b its runs inside is other (inr one) = by (contains_cases call (calls_of (seen w) new) m (subst (λ ms. Contains ms m) calls_new (subst (λ (z : Session). Contains (calls_of (seen y) z) m) (sym one) inside))) where
        by : (call ≡ m) ⊎ Contains (calls_of (seen w) new) m → IsTrue (is_ok_answer b.answer)
        by (inl first) = absurd (none_some b (ap (λ (k : Submitted). k.answer) first ∙ is))
        by (inr old) = absurd (none_before m old)

      waits : (s : Session) (j : ℕ) (m : Submitted) (ms : List Submitted) → s.job ≡ Some j → is_running (seen w) j ≡ true → calls_of (seen y) s ≡ m ∷ ms → is_some m.answer ≡ true → (None ≡ Some m.call.number → ⊥) → Contains (sessions x.setting (seen w)) s ⊎ (new ≡ s)
          → IsTrue (is_waiting_step m.call.purpose)
      waits s j m ms its runs are answered other (inl old) = h.waits s j m ms old its runs (sym (calls_old s old) ∙ are) answered other
      waits s j m ms its runs are answered other (inr one) =
          let first : call ≡ m = head_is call m (calls_of (seen w) new) ms (sym calls_new ∙ (ap (λ (z : Session). calls_of (seen y) z) one ∙ are)) in
          absurd (false_is_true (ap (λ (k : Submitted). is_some k.answer) first ∙ answered))
