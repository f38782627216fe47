-- Where a delta lease decides on a read, but a deciding one, it is lawful.
use Rattle.sl_due_facts.proofs.Acts.AddedAtEnd.{any_last}
use Rattle.sl_due_facts.specs.Acts.Acts.{Has, Hears}
use Rattle.sl_due_facts.specs.Acts.TraceSoFar.{entry_of}
use Rattle.sl_due.specs.CarriedDelta.{move_connection, register}
use Rattle.sl_due.specs.Steps.{Step, add_reply, seen}
use Rattle.sl_due_facts.proofs.Jobs.CallsStay.{calls_stay, late_join}
use Rattle.sl_due_facts.proofs.Jobs.SessionsArePresent.{present_inside}
use Rattle.sl_run.proofs.LawFacts.{orderly-front}
use Rattle.sl_run.specs.Lawful.{Orderly}
use Rattle.sl_run.specs.LawfulCalls.{may_submit}
use Rattle.sl_run.specs.LawfulConnections.{is_covered}
use Rattle.sl_run.specs.LawForms.{cut_at}
use Rattle.sl_words.proofs.Lists.{any_found, contains_cases, contains_first, contains_none, got_inside, in_map, kept, kept_inside}
use Rattle.sl_words.proofs.Numbers.{number_itself}
use Rattle.sl_words.proofs.Options.{none_is}
use Rattle.sl_run_law.proofs.Watchdog.FoundCalls.{open_delta}
use Rattle.sl_due_facts.proofs.Connections.ConnectionEffects.{move_same}
use Rattle.sl_due_facts.proofs.Connections.ConnectionFactsAreKept.{heard_is_joined}
use Rattle.sl_due_facts.proofs.Connections.ConnectionInputs.{other_marked}
use Rattle.sl_due_facts.proofs.Connections.DeltaCallsAreLawful.{all_answered, on_own, standing_of, working_stage}
use Rattle.sl_due_facts.proofs.Connections.HeardCalls.{WasHeard, calls_then, heard_before, session_then}
use Rattle.sl_due_facts.proofs.Connections.JoiningConnections.{Working, working_inside, working_turn, working_unjoined, working_unrefused}
use Rattle.sl_due_facts.proofs.Connections.JoiningDecisions.{heard_working, stage_newest}
use Rattle.sl_due_facts.proofs.Connections.JoiningSteps.{unjoined_unremoved}
use Rattle.sl_due_facts.proofs.Connections.SessionParts.{at_work_is_present, covered_at_work, covered_present}
use Rattle.sl_due_facts.proofs.Sessions.DeltaConditions.{heard_unfreed, unjoined_unfreed}
use Rattle.sl_due_facts.proofs.Sessions.NameActs.{joined_by_reply}
use Rattle.sl_due_facts.proofs.Sessions.NamesAreAllowed.{heard_mine}
use Rattle.sl_trace.specs.Sessions.{calls_of, free_write, has_open_delta, is_call_of, is_covered_stage, is_delta_purpose, is_free_purpose, is_join_call, is_joined, join_call, joined_after, open_calls_of, refused_after, removed_after, session_numbered, sessions, stage_after, stage_in, stage_of}
use Rattle.sl_trace.specs.declared.delta.DeltaNext.TheVariants.{Nothing, RefuseJoin, RegisterAndRead}
use Rattle.sl_trace.specs.declared.delta.DeltaNext.{DeltaNext}
use Rattle.sl_trace.specs.declared.session.Session.{Session}
use Rattle.sl_trace.specs.declared.stage.Stage.TheVariants.{Looking, Standing, Waiting}
use Rattle.sl_due_facts.specs.Facts.HeardCall.{heard_by}
use Rattle.sl_due_facts.specs.Facts.SessionFacts.{ConnectionFacts, IsHeardWriter, NameFacts}
use Rattle.sl_due_facts.specs.Facts.AllFacts.{Whole}
use Rattle.sl_time.specs.Times.{dead, fail, join_max}
use Rattle.sl_trace.specs.WatchdogConnections.{is_registered, registers_with}
use Rattle.sl_trace.specs.Traces.{Answered, Setting, Submitted, Trace, answer_of, answered_in, is_answered_ok, is_ok_answer, is_running, mark, new_call, submitted, unanswered}
use Rattle.sl_trace.specs.declared.effects.Call.{Call}
use Rattle.sl_trace.specs.declared.effects.Entry.{Entry}
use Rattle.sl_trace.specs.declared.effects.JoinStep.TheVariants.{ClaimWrite, FirstRead, FirstRenewal, VerifyRead, WatchRead}
use Rattle.sl_trace.specs.declared.effects.JoinStep.{JoinStep}
use Rattle.sl_trace.specs.declared.effects.Move.TheVariants.{Register, Renew}
use Rattle.sl_trace.specs.declared.effects.Purpose.TheVariants.{Joining, Renewal}
use Rattle.sl_trace.specs.declared.input.Answer.{Answer}
use Rattle.sl_trace.specs.declared.input.Input.TheVariants.{Wake}
use Rattle.sl_trace.specs.declared.reply.Reply.TheVariants.{Generation, IdLate}
use Rattle.sl_run_law.proofs.Sessions.TraceGrowth.{mine_marked, mine_next, other_next, to_all}
use Rattle.sl_run_law.proofs.Sessions.JoiningsInTurn.{done_unanswered}
use Rattle.sl_run_law.proofs.Sessions.CallsAreMade.{SameCall, same_answered, was_marked}
use Rattle.sl_run_law.proofs.Sessions.SessionNames.{same_name}
use Rattle.sl_run_law.proofs.Sessions.JoiningsAreOrdered.{open_stage}
use Rattle.sl_run_law.proofs.Sessions.CallOwners.{is_the_one, session_more}
use Rattle.sl_run_law.specs.Sessions.SessionLaws.{all_done, fits, is_in_turn}
use Rattle.sl_words.proofs.CaseLaws.{false_is_true, is_false, none_some, not_both, one_value, true_is_false}
use Rattle.sl_words.proofs.WordLaws.{and_true}
use Rattle.sl_words.specs.Words.{some_is}
use Rattle.std.proofs.Common.{ap, ap₂, inl, inr, refl, subst, sym, ◌∙◌}
use Rattle.std.specs.List.{list_any}
use Rattle.std.specs.Option.{option_or}
use Rattle.std.specs.Prelude.{Bool, Contains, List, None, Option, Some, [], cond, false, filter, if◌then◌else◌, is_none, is_some, length, nat_le, nat_lt, slice_get, suc, true, ℕ, ◌&&◌, ◌+◌, ◌==◌, ◌∷◌, ◌≡◌, ◌⊎◌}
use Rattle.std.proofs.lemmas.Bool.{eqb-true, leb-true, ltb-false}
use Rattle.sl_due_facts.proofs.Connections.MovesAreKept.{answered_before, unjoined_before, unrefused_before, woken_inside}
use Rattle.sl_due_facts.specs.Connections.DeltaCalls.{DeltaLawful, own_read, survey_read}
use Rattle.sl_trace.specs.DeltaDecisions.{delta_of_session, next_after_claim}

-- ---- one call on a delta sector is open

abbrev OneOpen : List Submitted → Type 0
OneOpen ms =
    (m n : Submitted) → Contains ms m → Contains ms n → is_delta_purpose m.call.purpose ≡ true → is_delta_purpose n.call.purpose ≡ true → m.answer ≡ None → n.answer ≡ None
    → m.call.number ≡ n.call.number

abbrev NoneOpen : List Submitted → Type 0
NoneOpen ms = (m : Submitted) → Contains ms m → is_delta_purpose m.call.purpose ≡ true → m.answer ≡ None → ⊥

one_marked : (es : Trace) (e : Entry) (ms : List Submitted) → OneOpen ms → OneOpen (mark es e e.input ms)
one_marked es e ms one m n a b p q none unmet =
    let v = was_marked es e e.input ms m a in
    let w = was_marked es e e.input ms n b in
    ap (λ (c : Call). c.number) v.same.call
    ∙ one v.before w.before v.inside w.inside (ap (λ c. is_delta_purpose c.purpose) (sym v.same.call) ∙ p) (ap (λ c. is_delta_purpose c.purpose) (sym w.same.call) ∙ q)
    (v.unmet none) (w.unmet unmet)
    ∙ ap (λ (c : Call). c.number) (sym w.same.call)

one_by : (x : Submitted) (ms : List Submitted) (m n : Submitted) → OneOpen ms → (is_delta_purpose x.call.purpose ≡ true → NoneOpen ms) → (x ≡ m) ⊎ Contains ms m → (x ≡ n) ⊎ Contains ms n
    → is_delta_purpose m.call.purpose ≡ true → is_delta_purpose n.call.purpose ≡ true → m.answer ≡ None → n.answer ≡ None → m.call.number ≡ n.call.number
one_by x ms m n one alone (inl a) (inl b) p q none unmet = ap (λ (y : Submitted). y.call.number) (sym a ∙ b)
one_by x ms m n one alone (inl a) (inr b) p q none unmet = absurd (alone (ap (λ (y : Submitted). is_delta_purpose y.call.purpose) a ∙ p) n b q unmet)
one_by x ms m n one alone (inr a) (inl b) p q none unmet = absurd (alone (ap (λ (y : Submitted). is_delta_purpose y.call.purpose) b ∙ q) m a p none)
one_by x ms m n one alone (inr a) (inr b) p q none unmet = one m n a b p q none unmet

one_next : (x : Submitted) (ms : List Submitted) → OneOpen ms → (is_delta_purpose x.call.purpose ≡ true → NoneOpen ms) → OneOpen (x ∷ ms)
one_next x ms one alone m n a b p q none unmet = one_by x ms m n one alone (contains_cases x ms m a) (contains_cases x ms n b) p q none unmet

one_call : (st : Setting) (e : Entry) (past : Trace) (s : Session) → Orderly st (e ∷ past) → ((x : Session) → session_numbered st (e ∷ past) s.number ≡ Some x → x ≡ s)
    → (k : ℕ) (c : Call) → slice_get e.effects.calls k ≡ Some c → (b : Bool) → (c.session == s.number) ≡ b → OneOpen (calls_of (cut_at k e ∷ past) s) → OneOpen (calls_of (cut_at (suc k) e ∷ past) s)
one_call st e past s h same k c place false other one = subst OneOpen (sym (other_next past e s k c place other)) one
one_call st e past s h same k c place true mine one =
    let number = eqb-true c.session s.number mine in
    let its = is_the_one (session_numbered st (e ∷ past) c.session) s (h.calls.0.owned c (got_inside e.effects.calls k c place))
    (λ x is. same x (ap (λ n. session_numbered st (e ∷ past) n) (sym number) ∙ is)) in
    subst OneOpen (sym (mine_next past e s k c place mine))
    (one_next (new_call (length past) e.reading c) (calls_of (cut_at k e ∷ past) s) one
    (λ is m there p none. true_is_false (sym (open_delta (cut_at k e ∷ past) s m there none p) ∙ h.delta.0.alone k c s place its is)))

one_open : (st : Setting) (es : Trace) (s : Session) → Orderly st es → ((x : Session) → session_numbered st es s.number ≡ Some x → x ≡ s) → OneOpen (calls_of es s)
one_open st [] s h same = λ m n a b p q none unmet. absurd (contains_none m a)
one_open st (e ∷ past) s h same =
    to_all (λ t. OneOpen (calls_of t s)) e past
    (subst OneOpen (sym (mine_marked past e s))
    (one_marked past (cut_at 0 e) (calls_of past s)
    (one_open st past s (orderly-front st (e ∷ []) past h) (λ x place. same x (session_more st e past s.number x place)))))
    (λ k c place one. one_call st e past s h same k c place (c.session == s.number) refl one)

-- Where the answer of a call on a delta sector was heard none is open.
pub heard_delta : (x : Step) (s : Session) (m : Submitted) (answer : Answer) → Whole x → Hears x s m answer → is_delta_purpose m.call.purpose ≡ true → has_open_delta (seen x) s ≡ false
heard_delta x s m answer h hears delta = is_false (has_open_delta (seen x) s) (λ opens. by (any_found (λ (k : Submitted). is_delta_purpose k.call.purpose) (open_calls_of (seen x) s) opens)) where
  n : ℕ
  n = hears.number

  mark_one : Submitted → Submitted
  mark_one d = answered_in x.past (entry_of x) hears.number answer d

  same_call : (d : Submitted) → SameCall (answered_in x.past (entry_of x) hears.number answer d) d
  same_call d = same_answered x.past (entry_of x) hears.number answer d

  before : (d : Submitted) × WasHeard x hears.number answer m d
  before = heard_before x s m answer h hears

  mine : Contains (calls_of x.past s) before.0
  mine = kept (is_call_of s) (submitted x.past) before.0
      (ap (λ (c : Call). c.session == s.number) (sym (same_call before.0).call)
      ∙ (ap (λ (k : Submitted). k.call.session == s.number) before.1.marked ∙ (kept_inside (is_call_of s) (submitted (seen x)) m (heard_mine x s m answer hears)).1)) before.1.inside

  then_delta : is_delta_purpose before.0.call.purpose ≡ true
  then_delta = ap (λ (c : Call). is_delta_purpose c.purpose) (sym (same_call before.0).call) ∙ (ap (λ (k : Submitted). is_delta_purpose k.call.purpose) before.1.marked ∙ delta)

  by : (k : Submitted) × Contains (open_calls_of (seen x) s) k × (is_delta_purpose k.call.purpose ≡ true) → ⊥
  by f = to (in_map mark_one (calls_of x.past s) f.0 (subst (λ ms. Contains ms f.0) (calls_then x s m answer hears) left.0)) where
    left : Contains (calls_of (seen x) s) f.0 × (is_none f.0.answer ≡ true)
    left = kept_inside (λ (k : Submitted). is_none k.answer) (calls_of (seen x) s) f.0 f.1

    to : (d : Submitted) × Contains (calls_of x.past s) d × (mark_one d ≡ f.0) → ⊥
    to d = opened (d.0.call.number == n) d.0.answer refl refl (ap (λ (k : Submitted). k.answer) d.2 ∙ none_is f.0.answer left.1) where
      opened : (b : Bool) (o : Option Answered) → (d.0.call.number == n) ≡ b → d.0.answer ≡ o → (mark_one d.0).answer ≡ None → ⊥
      opened false (Some a) other is none = none_some a (sym none ∙ (ap (λ (k : Submitted). k.answer) (other_marked x.past (entry_of x) n answer d.0 other) ∙ is))
      opened false None other is none =
          let one = one_open x.setting x.past s h.before.orderly (λ z place. one_value z s (session_numbered x.setting x.past s.number) place (session_then x s m answer hears)) in
          let number : d.0.call.number ≡ before.0.call.number =
          one d.0 before.0 d.1 mine (ap (λ (c : Call). is_delta_purpose c.purpose) (sym (same_call d.0).call) ∙ (ap (λ (k : Submitted). is_delta_purpose k.call.purpose) d.2 ∙ f.2)) then_delta is before.1.opened
          in
          not_both (d.0.call.number == n) (ap (λ k. k == n) (number ∙ before.1.number) ∙ number_itself n) other
      opened true o its is none =
          none_kept o (sym (ap (λ b. (elim b as (λ z. Submitted) [ false ↦ d.0 | true ↦ record d.0 { answer = option_or d.0.answer (Some (answer_of x.past (entry_of x) answer d.0.call)) } ]).answer) its ∙ ap (λ q. option_or q (Some (answer_of x.past (entry_of x) answer d.0.call))) is) ∙ none) where
            none_kept : (q : Option Answered) → option_or q (Some (answer_of x.past (entry_of x) answer d.0.call)) ≡ None → ⊥
            none_kept None k = none_some (answer_of x.past (entry_of x) answer d.0.call) (sym k)
            none_kept (Some a) k = none_some a (sym k)

-- ---- a read of all ids

survey_lawful : (y : Step) (s : Session) → is_joined (seen y) s ≡ true → free_write (calls_of (seen y) s) ≡ None → has_open_delta (seen y) s ≡ false → DeltaLawful y.setting (seen y) s (survey_read y s)
survey_lawful y s joined unfreed quiet =
    let stage : stage_of (seen y) s ≡ Standing = standing_of (seen y) s joined unfreed in
    record { alive = ap (λ q. may_submit q) stage; delta = record { standing = stage; whole = (refl, refl, refl) }; placed = λ p. absurd (false_is_true p); alone = λ p. quiet }

-- After a renewal, where the connection has moved.
pub renewed_surveys_are_lawful : (x : Step) (s : Session) (m : Submitted) (answer : Answer) (renewed : ℕ) → Whole x → Hears x s m answer → m.call.purpose ≡ Renewal
    → DeltaLawful x.setting (seen (move_connection s renewed x)) s (survey_read (move_connection s renewed x) s)
renewed_surveys_are_lawful x s m answer renewed h hears is =
    survey_lawful (move_connection s renewed x) s
    (ap₂ (λ a b. is_some a && is_none b) refl (move_same x (Renew s.lockspace (renewed + fail x.setting.timing)) s refl).removed ∙ heard_is_joined x s m answer Renewal h hears is refl)
    (heard_unfreed x s m answer h hears (ap (λ p. is_free_purpose p) is)) (heard_delta x s m answer h hears (ap (λ p. is_delta_purpose p) is))

-- Where a joining is done.
pub joined_surveys_are_lawful : (x : Step) (s : Session) (j : ℕ) (m : Submitted) (answer : Answer) (generation renewed : ℕ) → Whole x → Hears x s m answer → m.call.purpose ≡ Joining j FirstRenewal → is_running (seen x) j ≡ true
    → DeltaLawful x.setting (seen (add_reply j (Generation generation) (move_connection s renewed x))) s (survey_read (add_reply j (Generation generation) (move_connection s renewed x)) s)
joined_surveys_are_lawful x s j m answer generation renewed h hears is runs =
    survey_lawful z s (ap₂ (λ a b. a && is_none b) (joined_by_reply y s j generation w.its w.runs) ((move_same x (Renew s.lockspace (renewed + fail x.setting.timing)) s refl).removed ∙ unjoined_unremoved (seen x) s (working_unjoined x s j w)))
    (ap (λ ms. free_write ms) calls ∙ unjoined_unfreed x s h.orderly w.has (working_unjoined x s j w))
    (ap (λ ms. list_any (λ (k : Submitted). is_delta_purpose k.call.purpose) (unanswered ms)) calls
    ∙ ap (λ ms. list_any (λ (k : Submitted). is_delta_purpose k.call.purpose) ms) (all_answered x s m answer h hears (working_unjoined x s j w)))
  where
    w : Working x s j
    w = heard_working x s j FirstRenewal m answer h hears is runs

    y : Step
    y = move_connection s renewed x

    z : Step
    z = add_reply j (Generation generation) (move_connection s renewed x)

    calls : calls_of (seen (add_reply j (Generation generation) (move_connection s renewed x))) s ≡ calls_of (seen x) s
    calls = ap (λ ms. filter (is_call_of s) ms) (calls_stay (move_connection s renewed x) j (Generation generation) (late_join (move_connection s renewed x) generation))

-- ---- a joining on a wake

abbrev is_registering_next : DeltaNext → Bool
is_registering_next (RegisterAndRead step) = true
is_registering_next n = false

rested_quiet : (x : Step) (s : Session) (j : ℕ) (m : Submitted) (ms : List Submitted) (a : Answered) → Working x s j → calls_of (seen x) s ≡ m ∷ ms → m.answer ≡ Some a → open_calls_of (seen x) s ≡ []
rested_quiet x s j m ms a w are is =
    let both = and_true (fits m) (all_done ms) (subst (λ ks. is_in_turn ks ≡ true) are (working_turn x s j w)) in
    ap (λ ks. unanswered ks) are ∙ (ap (λ o. if is_none o then m ∷ unanswered ms else unanswered ms) is ∙ done_unanswered ms both.1)

-- A further read of what it watches.
pub watches_are_lawful : (x : Step) (s : Session) (j : ℕ) (step : JoinStep) (m : Submitted) (ms : List Submitted) (a : Answered) → Working x s j → calls_of (seen x) s ≡ m ∷ ms → m.answer ≡ Some a → m.call.purpose ≡ Joining j step → (step ≡ FirstRead) ⊎ (step ≡ WatchRead)
    → DeltaLawful x.setting (seen x) s (own_read x s (Joining j WatchRead))
watches_are_lawful x s j step m ms a w are is for which =
    record {
      alive = ap (λ q. may_submit q) stage;
      delta = record { reads = refl; looking = stage };
      placed = λ p. on_own x.setting s;
      alone = λ p. ap (λ ks. list_any (λ (k : Submitted). is_delta_purpose k.call.purpose) ks) (rested_quiet x s j m ms a w are is);
    } where
      stage : stage_of (seen x) s ≡ Looking
      stage = working_stage x s j step m ms w are for ∙ by which where
        by : (step ≡ FirstRead) ⊎ (step ≡ WatchRead) → stage_after step (is_answered_ok m) ≡ Looking
        by (inl k) = ap (λ q. stage_after q (is_answered_ok m)) k
        by (inr k) = ap (λ q. stage_after q (is_answered_ok m)) k

-- The verify read, where the name is registered with it.
pub verifies_are_lawful : (x : Step) (s : Session) (j : ℕ) (m : Submitted) (ms : List Submitted) (a : Answered) → Whole x → NameFacts x.setting x.past None → ConnectionFacts x.setting x.past None → Has x s → x.input ≡ Wake → s.job ≡ Some j → is_running (seen x) j ≡ true
    → calls_of (seen x) s ≡ m ∷ ms → m.answer ≡ Some a → m.call.purpose ≡ Joining j ClaimWrite → next_after_claim (delta_of_session x.setting s) x.reading m.reading a.reading ≡ RegisterAndRead VerifyRead
    → DeltaLawful x.setting (seen (register s x)) s (own_read (register s x) s (Joining j VerifyRead))
verifies_are_lawful x s j m ms a h names connections has wake its runs are is for decides =
    by (nat_le (a.reading + dead x.setting.timing) x.reading) (nat_lt (m.reading + join_max x.setting.timing) x.reading) refl refl decides where
      w : Working x s j
      w = record { has = has; its = its; runs = runs; names = h.facts.names; orderly = h.orderly }

      mine : Contains (sessions x.setting (seen x)) s
      mine = working_inside x s j w

      quiet : heard_by x.input ≡ None
      quiet = ap (λ i. heard_by i) wake

      ok : is_answered_ok m ≡ true
      ok = ap (λ o. some_is (λ (b : Answered). is_ok_answer b.answer) o) is
          ∙ h.facts.names.done s j m a mine its runs (subst (λ ks. Contains ks m) (sym are) (contains_first m ms)) is (λ heard. none_some m.call.number (sym quiet ∙ heard))

      ok_answer : is_ok_answer a.answer ≡ true
      ok_answer = sym (ap (λ o. some_is (λ (b : Answered). is_ok_answer b.answer) o) is) ∙ ok

      stage : stage_of (seen x) s ≡ Waiting
      stage = working_stage x s j ClaimWrite m ms w are for ∙ ap (λ b. stage_after ClaimWrite b) ok

      stage_now : stage_of (seen (register s x)) s ≡ Waiting
      stage_now =
          open_stage (joined_after (seen x) s) (removed_after (seen (register s x)) s) (refused_after (seen x) s) (free_write (calls_of (seen x) s)) (stage_in (calls_of (seen x) s)) (working_unjoined x s j w) (working_unrefused x s j w)
          ∙ (stage_newest x s j ClaimWrite m ms are for ∙ ap (λ b. stage_after ClaimWrite b) ok)

      -- before the entry its connection was gone
      unregistered : is_registered x.setting x.past s.lockspace ≡ false
      unregistered = is_false (is_registered x.setting x.past s.lockspace) (λ stands. to (connections.needed s.lockspace stands)) where
        none_before : joined_after x.past s ≡ None
        none_before = unjoined_before x s j w

        uncovered : is_covered x.past s ≡ false
        uncovered =
            covered_at_work x.past s none_before (unrefused_before x s j w)
            ∙ (ap (λ ks. is_covered_stage (stage_in ks)) (sym (answered_before x s m ms a wake are is))
            ∙ (ap (λ q. is_covered_stage q) (stage_newest x s j ClaimWrite m ms are for ∙ ap (λ b. stage_after ClaimWrite b) ok)))

        inside : Contains (sessions x.setting x.past) s
        inside = woken_inside x s wake mine

        either : (z : Session) → Contains (sessions x.setting x.past) z → z.lockspace ≡ s.lockspace → (is_covered x.past z ≡ true) ⊎ IsHeardWriter x.past None z → ⊥
        either z there name (inl covered) =
            let one : z ≡ s =
            names.apart z s (present_inside x.setting x.past z there (covered_present x.past z covered)) (present_inside x.setting x.past s inside (at_work_is_present x.past s none_before (unrefused_before x s j w))) name
            in
            not_both (is_covered x.past s) (subst (λ q. is_covered x.past q ≡ true) one covered) uncovered
        either z there name (inr writer) = none_some writer.1.0.call.number writer.1.3

        to : (z : Session) × Contains (sessions x.setting x.past) z × (z.lockspace ≡ s.lockspace) × ((is_covered x.past z ≡ true) ⊎ IsHeardWriter x.past None z) → ⊥
        to z = either z.0 z.1 z.2 z.3

      by : (b c : Bool) → nat_le (a.reading + dead x.setting.timing) x.reading ≡ b → nat_lt (m.reading + join_max x.setting.timing) x.reading ≡ c
          → (elim b as (λ z. DeltaNext) [ false ↦ Nothing | true ↦ elim c as (λ z. DeltaNext) [ true ↦ RefuseJoin (IdLate m.reading x.reading) | false ↦ RegisterAndRead VerifyRead ] ]) ≡ RegisterAndRead VerifyRead
          → DeltaLawful x.setting (seen (register s x)) s (own_read (register s x) s (Joining j VerifyRead))
      by false c waited late_one k = absurd (false_is_true (ap (λ n. is_registering_next n) k))
      by true true waited late_one k = absurd (false_is_true (ap (λ n. is_registering_next n) k))
      by true false waited late_one k =
          record {
            alive = ap (λ q. may_submit q) stage_now;
            delta = record {
              reads = refl;
              waiting = stage_now;
              claim = m;
              answer = a;
              claimed = ap (λ ks. join_call ks ClaimWrite) are ∙ ap (λ b. cond b (Some m) (join_call ms ClaimWrite)) (ap (λ p. is_join_call ClaimWrite p) for);
              answered = (is, ok_answer);
              unregistered = unregistered;
              waited = leb-true (a.reading + dead x.setting.timing) x.reading waited;
              in_time = ltb-false (m.reading + join_max x.setting.timing) x.reading late_one;
              registered = any_last (registers_with s.lockspace (x.reading + fail x.setting.timing)) x.effects.moves (Register s.lockspace (x.reading + fail x.setting.timing))
                  (ap₂ (λ p q. p && q) (same_name s.lockspace) (number_itself (x.reading + fail x.setting.timing)));
            };
            placed = λ p. on_own x.setting s;
            alone = λ p. ap (λ ks. list_any (λ (k : Submitted). is_delta_purpose k.call.purpose) ks) (rested_quiet x s j m ms a w are is);
          }
