-- Each act keeps that the sessions whose recovery or leaving began in the step have been stopped.
use Rattle.sl_due_facts.specs.Acts.Acts.{Acts}
use Rattle.sl_due_facts.specs.Acts.TraceSoFar.{entry_of}
use Rattle.sl_area.specs.AreaLayout.{delta_offset}
use Rattle.sl_due.specs.DueCommands.{carry_decision, decided, reply_at_once}
use Rattle.sl_due.specs.CarriedDelta.{begins_by_read}
use Rattle.sl_due.specs.DueRecovery.{signal_and_refuse}
use Rattle.sl_due.specs.Steps.{Step, add_call_of, add_reply, seen, with_input}
use Rattle.sl_due.specs.declared.decision.Decision.{Decision}
use Rattle.sl_due.specs.declared.decision.Decision.TheVariants.{ConvertsTo, GetsValue, GivesUp, Joins, Leaves, ReadsArea, Replies, Requests, SetsValue, Shares, TakesOver}
use Rattle.sl_due_leases.specs.Holdings.Moments.{Known}
use Rattle.sl_due_facts.proofs.Jobs.AnsweredCallsFit.{arg_name, leaves_lockspace, left_by_command}
use Rattle.sl_due_facts.proofs.Jobs.CallsHaveFacts.{sessions_bare}
use Rattle.sl_due_facts.proofs.Jobs.DecisionsFit.{DecisionFits, decisions_fit}
use Rattle.sl_due_facts.proofs.Jobs.EffectsAreAllowed.{DecisionAllowed, decision, stopped}
use Rattle.sl_due_facts.proofs.Jobs.JobsAreNumbered.{next_before}
use Rattle.sl_due_facts.proofs.Jobs.LinesAreAllowed.{IsBegun, named_lockspace}
use Rattle.sl_due_facts.proofs.Jobs.NearlyPlainActs.{AnyMove, AnyStart, Anything, NoLook, decision_plain, is_command_line, nearly_acts}
use Rattle.sl_due_facts.proofs.Jobs.QuietEffects.{by_input, names_it, recovery_told}
use Rattle.sl_due_facts.proofs.Jobs.QuietFactsAreKept.{IsLeft, Stopping, left_or_not, stop_stopping}
use Rattle.sl_due_facts.proofs.Jobs.QuietLines.{answered_leaving, new_leaving}
use Rattle.sl_due_facts.proofs.Jobs.SessionsArePresent.{joined_present, present_inside, session_has}
use Rattle.sl_run.specs.LawfulRecovery.{StopsSession}
use Rattle.sl_trace.specs.Jobs.{is_command_that, jobs_of_session, lockspace_named}
use Rattle.sl_words.proofs.Lists.{find_inside, kept, kept_inside}
use Rattle.sl_due_law.proofs.Recovery.HoldersAre.{HeldBy, held_by_one}
use Rattle.sl_due_law.proofs.Recovery.MayStop.{MayStop, held_then, programs_when_left, stop_done}
use Rattle.sl_due_law.proofs.Recovery.StopsBegin.{Says, stop_only_says, stopped_nearly}
use Rattle.sl_due_law.proofs.Recovery.StopsGrow.{itself_grown, reply_grown, stops_effects}
use Rattle.sl_due_law.specs.Recovery.Stops.{Denies, Stops}
use Rattle.sl_trace.specs.Sessions.{holders_of, is_joined, is_session_arg, leaving_job, present_sessions, session_named, session_numbered, sessions}
use Rattle.sl_trace.specs.declared.session.Begun.{Begun}
use Rattle.sl_trace.specs.declared.session.Session.{Session}
use Rattle.sl_due_facts.specs.Facts.HeardCall.{heard_by}
use Rattle.sl_trace.specs.Traces.{Job, Setting, Trace, next_job, running_jobs}
use Rattle.sl_trace.specs.declared.command.Command.{Command}
use Rattle.sl_trace.specs.declared.command.Command.TheVariants.{RemLockspace}
use Rattle.sl_trace.specs.declared.command.LockspaceArg.{LockspaceArg}
use Rattle.sl_trace.specs.declared.effects.JoinStep.TheVariants.{FirstRead}
use Rattle.sl_trace.specs.declared.effects.Op.TheVariants.{ReadSectors}
use Rattle.sl_trace.specs.declared.effects.Purpose.TheVariants.{Joining}
use Rattle.sl_trace.specs.declared.input.Answer.{Answer}
use Rattle.sl_trace.specs.declared.input.Input.{Input}
use Rattle.sl_trace.specs.declared.input.Input.TheVariants.{Answer as Told, Exit, Line, Number, Spawned, Wake}
use Rattle.sl_trace.specs.declared.reply.Reply.{Reply}
use Rattle.sl_trace.specs.declared.reply.Reply.TheVariants.{BadCommand as Misread}
use Rattle.sl_words.proofs.CaseLaws.{one_value, some_value, true_is_false}
use Rattle.sl_words.specs.Words.{some_is}
use Rattle.std.proofs.Common.{ap, arith, inl, inr, refl, subst, sym, ◌∙◌}
use Rattle.std.specs.Prelude.{Contains, List, None, Ok, Option, Some, [], bytes_eq, false, length, suc, true, ℕ, ◌&&◌, ◌+◌, ◌==◌, ◌∷◌, ◌≡◌, ◌⊎◌}

abbrev pub HasStops : Step → Type 0
HasStops x = Stops x (heard_by x.input)

-- All that is known, with this.
abbrev pub WithStops : Step → Type 0
WithStops x = Known x × Stops x (heard_by x.input) × Denies x

stops_wake : (x : Step) → x.input ≡ Wake → HasStops x → Stops (with_input Wake x) None
stops_wake x wake h = subst (λ i. Stops (with_input i x) (heard_by i)) wake h

-- ---- other inputs

seen_stop : (x : Step) (i : Input) (s : Session) (k : Option ℕ) → StopsSession x.setting x.past (entry_of (with_input Wake x)) s k → StopsSession x.setting x.past (entry_of (with_input i x)) s k
seen_stop x i s k h = itself_grown (with_input Wake x) (with_input i x) x.setting x.past s k refl refl refl h

told_apart : (x : Step) (n : ℕ) (a : Answer) (b : Begun) → (true && begins_by_read (seen (with_input (Told n a) x)) (Some b)) ≡ false → (b.kills_from == length x.past + 1) ≡ false
told_apart x n a b other = let more : length x.past + 1 ≡ suc (length x.past) = omega arith in ap (λ k. b.kills_from == k) more ∙ other

stops_by : (x : Step) (i : Input) → is_command_line i ≡ false → Stops (with_input Wake x) None → Stops (with_input i x) (heard_by i)
stops_by x (Line text) no_line h = absurd (true_is_false no_line)
stops_by x (Number text) no_line h =
    record { recovers = λ s b there is at other. seen_stop x (Number text) s None (h.recovers s b there is at refl); leaves = λ s j there is at. seen_stop x (Number text) s (Some j.number) (h.leaves s j there is at) }
stops_by x (Exit p) no_line h =
    record { recovers = λ s b there is at other. seen_stop x (Exit p) s None (h.recovers s b there is at refl); leaves = λ s j there is at. seen_stop x (Exit p) s (Some j.number) (h.leaves s j there is at) }
stops_by x (Spawned p ok) no_line h =
    record { recovers = λ s b there is at other. seen_stop x (Spawned p ok) s None (h.recovers s b there is at refl); leaves = λ s j there is at. seen_stop x (Spawned p ok) s (Some j.number) (h.leaves s j there is at) }
stops_by x Wake no_line h = h
stops_by x (Told n a) no_line h =
    record {
      recovers = λ s b there is at other. seen_stop x (Told n a) s None (h.recovers s b there (recovery_told x (Told n a) s b is (told_apart x n a b other)) at refl);
      leaves = λ s j there is at. seen_stop x (Told n a) s (Some j.number) (h.leaves s j there is at);
    }

-- ---- a line that is answered at once

stops_answered : (x : Step) (text : List ℕ) (r : Reply) → x.input ≡ Wake → HasStops x → HasStops (add_reply (next_job x.setting (seen x)) r (with_input (Line text) x))
stops_answered x text r wake h =
    record {
      recovers = λ s b there is at other. reply_grown (with_input (Line text) x) (next_job x.setting (seen x)) r x.setting x.past s None (seen_stop x (Line text) s None (q.recovers s b there is at refl));
      leaves = λ s k there is at.
          reply_grown (with_input (Line text) x) (next_job x.setting (seen x)) r x.setting x.past s (Some k.number)
          (seen_stop x (Line text) s (Some k.number) (q.leaves s k there (answered_leaving x text (next_job x.setting (seen x)) r s k (next_before x wake) is) at));
    } where
      q : Stops (with_input Wake x) None
      q = stops_wake x wake h

-- ---- a line that is carried out

-- Where no leaving begins.
stops_lined : (x : Step) (text : List ℕ) (c : Command) → x.input ≡ Wake → x.setting.read text ≡ Ok c → leaves_lockspace c ≡ false → HasStops x → HasStops (with_input (Line text) x)
stops_lined x text c wake says no_leaving h =
    record {
      recovers = λ s b there is at other. seen_stop x (Line text) s None (q.recovers s b there is at refl);
      leaves = λ s k there is at. seen_stop x (Line text) s (Some k.number) (q.leaves s k there (old s k (new_leaving x text c s k says is)) at);
    } where
      q : Stops (with_input Wake x) None
      q = stops_wake x wake h

      old : (s : Session) (k : Job) → (leaving_job x.setting (by_input x Wake ∷ x.past) s ≡ Some k) ⊎ ((a : LockspaceArg) × (c ≡ RemLockspace a) × (is_session_arg s a ≡ true) × (k.number ≡ next_job x.setting x.past))
          → leaving_job x.setting (by_input x Wake ∷ x.past) s ≡ Some k
      old s k (inl was) = was
      old s k (inr new) = absurd (true_is_false (sym (ap (λ d. leaves_lockspace d) new.1) ∙ no_leaving))

-- Jobs are a session's by its lockspace's name.
jobs_by_name : (st : Setting) (t : Trace) (s z : Session) (j : Job) → z.lockspace ≡ s.lockspace → Contains (jobs_of_session st t z) j → Contains (jobs_of_session st t s) j
jobs_by_name st t s z j same there =
    let named = kept_inside (is_command_that (names_it z)) (running_jobs st t) j there in
    kept (is_command_that (names_it s)) (running_jobs st t) j (subst (λ n. is_command_that (λ c. some_is (λ m. bytes_eq m n) (lockspace_named c)) j ≡ true) same named.1) named.0

-- A leaving begins: its session is stopped.
stops_left : (x : Step) (text : List ℕ) (c : Command) (s : Session) (a : LockspaceArg) → WithStops x → x.input ≡ Wake → x.effects.calls ≡ [] → x.setting.read text ≡ Ok c → c ≡ RemLockspace a
    → session_named x.setting (seen x) a.name ≡ Some s → HasStops (signal_and_refuse s (Some (next_job x.setting (seen x))) (with_input (Line text) x))
stops_left x text c s a h wake bare says leaves_one found =
    at_end (signal_and_refuse s (Some (next_job x.setting (seen x))) (with_input (Line text) x)) (stop_stopping (with_input (Line text) x) s (Some (next_job x.setting (seen x))))
    (stop_only_says (with_input (Line text) x) s (Some (next_job x.setting (seen x))))
    (λ z k old. stopped (λ v. StopsSession x.setting x.past (entry_of v) z k) (λ v. StopsSession x.setting x.past (entry_of v) z k) Anything NoLook AnyStart AnyMove (stopped_nearly x.setting x.past z k) tt (with_input (Line text) x) s
    (Some (next_job x.setting (seen x))) (λ v g j inside. tt) old)
    (stop_done (with_input (Line text) x) s (Some (next_job x.setting (seen x))) may)
  where
    may : MayStop (with_input (Line text) x)
    may = record { programs = programs_when_left (with_input (Line text) x) text a refl (says ∙ ap (λ d. Ok d) leaves_one); ends = (h.0.1.waking wake).0; denied = h.2 wake }

    q : Stops (with_input Wake x) None
    q = stops_wake x wake h.1

    named : a.name ≡ s.lockspace
    named = named_lockspace x.setting (seen x) a.name s found

    -- a holder of a session of that name is one of this session's
    holder : (z : Session) (p : ℕ) → Contains (sessions x.setting x.past) z → z.lockspace ≡ s.lockspace → Contains (holders_of x.past z) p → Contains (holders_of x.past s) p
    holder z p there same inside =
        let f = h.0.0.facts in
        let g : HeldBy x.past z p = held_by_one x.past z p inside in
        let own = f.holdings.owned g.grant (held_then x (h.0.1.waking wake).0 g.grant g.held) in
        let here : Contains (sessions x.setting (seen x)) z = subst (λ ss. Contains ss z) (sym (sessions_bare x bare)) there in
        let is : own.0 ≡ z =
        one_value own.0 z (session_numbered x.setting (seen x) g.grant.session) own.1 (ap (λ n. session_numbered x.setting (seen x) n) g.session ∙ session_has x.setting (seen x) z here)
        in
        let joined : is_joined (seen x) z ≡ true = subst (λ (v : Session). is_joined (seen x) v ≡ true) is own.2 in
        let its = find_inside (λ (v : Session). bytes_eq v.lockspace a.name) (present_sessions x.setting (seen x)) s found in
        let one : z ≡ s = f.names.apart z s (present_inside x.setting (seen x) z here (joined_present (seen x) z joined)) its.0 same in
        subst (λ v. Contains (holders_of x.past v) p) one inside

    at_end : (y : Step) → Stopping (with_input (Line text) x) y → Says (λ a. Unit {0}) (with_input (Line text) x) y
        → ((z : Session) (k : Option ℕ) → StopsSession x.setting x.past (entry_of (with_input (Line text) x)) z k → StopsSession x.setting x.past (entry_of y) z k)
        → StopsSession x.setting x.past (entry_of y) s (Some (next_job x.setting (seen x))) → HasStops y
    at_end y k says_so grows done =
        subst (λ v. Stops v (heard_by v.input)) (sym says_so.is) (record {
          recovers = λ z b there is at other. subst (λ v. StopsSession x.setting x.past (entry_of v) z None) says_so.is (grows z None (seen_stop x (Line text) z None (q.recovers z b there is at refl)));
          leaves = λ z j there is at. subst (λ v. StopsSession x.setting x.past (entry_of v) z (Some j.number)) says_so.is
              (by z j there at (new_leaving x text c z j says (k.leaving z j (subst (λ v. leaving_job v.setting (seen v) z ≡ Some j) (sym says_so.is) is)))
              (k.leaving z j (subst (λ v. leaving_job v.setting (seen v) z ≡ Some j) (sym says_so.is) is)));
        }) where
          by : (z : Session) (j : Job) → Contains (sessions x.setting x.past) z → j.at ≡ length x.past
              → (leaving_job x.setting (by_input x Wake ∷ x.past) z ≡ Some j) ⊎ ((b : LockspaceArg) × (c ≡ RemLockspace b) × (is_session_arg z b ≡ true) × (j.number ≡ next_job x.setting x.past))
              → leaving_job x.setting (by_input x (Line text) ∷ x.past) z ≡ Some j → StopsSession x.setting x.past (entry_of y) z (Some j.number)
          by z j there at (inl was) is = grows z (Some j.number) (seen_stop x (Line text) z (Some j.number) (q.leaves z j there was at))
          by z j there at (inr new) is =
              let same_arg : a ≡ new.0 = some_value a new.0 (ap (λ d. left_by_command d) (sym leaves_one ∙ new.1)) in
              let same : z.lockspace ≡ s.lockspace = sym (arg_name z new.0 new.2) ∙ (ap (λ (v : LockspaceArg). v.name) (sym same_arg) ∙ named) in
              let number : j.number ≡ next_job x.setting (seen x) = new.3 ∙ sym (next_before x wake) in
              record {
                term = λ p inside. done.term p (holder z p there same inside);
                refused = λ i inside other. done.refused i (jobs_by_name x.setting x.past s z i same inside) (λ is_one. other (is_one ∙ ap (λ n. Some n) (sym number)));
              }

stops_carried : (x : Step) (text : List ℕ) (c : Command) (d : Decision) → x.input ≡ Wake → x.effects.calls ≡ [] → x.setting.read text ≡ Ok c → decided x.setting (seen x) x.reading c ≡ d → reply_at_once d ≡ None → WithStops x
    → HasStops (carry_decision (next_job x.setting (seen x)) c d (with_input (Line text) x))
unfolding carry_decision
stops_carried x text c d wake bare says is more h = by d more fits (left_or_not x.setting (seen x) c d more fits) where
  fits : DecisionFits x.setting (seen x) c d
  fits = subst (λ z. DecisionFits x.setting (seen x) c z) is (decisions_fit x.setting (seen x) x.reading c)

  left_one : (z : Decision) → IsLeft z → DecisionFits x.setting (seen x) c z → HasStops (carry_decision (next_job x.setting (seen x)) c z (with_input (Line text) x))
  left_one (Leaves s) k f = stops_left x text c s f.1.0 h wake bare says f.1.1 f.1.2
  left_one (Replies r) k f = absurd k
  left_one (Joins n a) k f = absurd k
  left_one (ReadsArea s r) k f = absurd k
  left_one (Shares s lver) k f = absurd k
  left_one (GivesUp s g) k f = absurd k
  left_one (TakesOver s g) k f = absurd k
  left_one (ConvertsTo s r mode) k f = absurd k
  left_one (Requests s r) k f = absurd k
  left_one (SetsValue s spot v) k f = absurd k
  left_one (GetsValue s spot) k f = absurd k

  begins : (q : HasStops (with_input (Line text) x)) (n : ℕ) (a : LockspaceArg) → HasStops (carry_decision (next_job x.setting (seen x)) c (Joins n a) (with_input (Line text) x))
  begins q n a =
      let w : Step = with_input (Line text) x in
      let y : Step = add_call_of n a.path (Joining (next_job x.setting (seen x)) FirstRead) (delta_offset x.setting.layout a.offset a.id) (ReadSectors 1) w in
      record {
        recovers = λ s b there at_is at other. itself_grown w y x.setting x.past s None refl refl refl (q.recovers s b there at_is at other);
        leaves = λ s j there at_is at. itself_grown w y x.setting x.past s (Some j.number) refl refl refl (q.leaves s j there at_is at);
      }

  begun : (z : Decision) → IsBegun z → HasStops (with_input (Line text) x) → HasStops (carry_decision (next_job x.setting (seen x)) c z (with_input (Line text) x))
  begun (Joins n a) k q = begins q n a
  begun (Leaves s) k q = absurd k
  begun (Replies r) k q = absurd k
  begun (ReadsArea s r) k q = absurd k
  begun (Shares s lver) k q = absurd k
  begun (GivesUp s g) k q = absurd k
  begun (TakesOver s g) k q = absurd k
  begun (ConvertsTo s r mode) k q = absurd k
  begun (Requests s r) k q = absurd k
  begun (SetsValue s spot v) k q = absurd k
  begun (GetsValue s spot) k q = absurd k

  other : (z : Decision) → HasStops (with_input (Line text) x) → IsBegun z ⊎ DecisionAllowed HasStops Anything NoLook AnyStart (with_input (Line text) x) (next_job x.setting (seen x)) c z
      → HasStops (carry_decision (next_job x.setting (seen x)) c z (with_input (Line text) x))
  other z q (inr may) =
      decision HasStops HasStops Anything NoLook AnyStart AnyMove (stops_effects heard_by) (with_input (Line text) x) (next_job x.setting (seen x)) c z may (λ n a joins. begins q n a) q
  other z q (inl k) = begun z k q

  by : (z : Decision) → reply_at_once z ≡ None → DecisionFits x.setting (seen x) c z → IsLeft z ⊎ (leaves_lockspace c ≡ false) → HasStops (carry_decision (next_job x.setting (seen x)) c z (with_input (Line text) x))
  by z none f (inl k) = left_one z k f
  by z none f (inr no_leaving) = other z (stops_lined x text c wake says no_leaving h.1) (decision_plain HasStops (with_input (Line text) x) (next_job x.setting (seen x)) c z)

pub stops_are_kept : Acts WithStops HasStops
stops_are_kept =
    nearly_acts WithStops HasStops (λ x h. h.1) (stops_effects heard_by) (record {
      others = λ x i wake bare expected no_line h. stops_by x i no_line (stops_wake x wake h.1);
      misreads = λ x text column wake bare says h. stops_answered x text (Misread column) wake h.1;
      answers = λ x text c r wake bare says is h. stops_answered x text r wake h.1;
      carries = stops_carried;
    })
