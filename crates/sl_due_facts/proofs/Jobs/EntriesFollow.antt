-- At each moment of a step its entry follows the trace before it: its calls are numbered in order, and its input is expected.
use Rattle.sl_due_facts.proofs.Jobs.EffectsAreAllowed.{DecisionAllowed, decision, stopped}
use Rattle.sl_due_facts.proofs.Acts.LoopsKeep.{for_each_keeps, when_keeps}
use Rattle.sl_due_facts.specs.Acts.Acts.{Acts, Expects}
use Rattle.sl_due_facts.specs.Acts.TraceSoFar.{entry_of}
use Rattle.sl_area.specs.AreaLayout.{delta_offset}
use Rattle.sl_due.specs.DueCommands.{carry_decision}
use Rattle.sl_due.specs.DueRecovery.{begin_recoveries, begin_recovery, begins_now, signal_and_refuse}
use Rattle.sl_due.specs.Steps.{Step, add_call_of, begin_step, seen, with_input}
use Rattle.sl_due.specs.declared.decision.Decision.{Decision}
use Rattle.sl_due.specs.declared.decision.Decision.TheVariants.{ConvertsTo, GetsValue, GivesUp, Joins, Leaves, ReadsArea, Replies, Requests, SetsValue, Shares, TakesOver}
use Rattle.sl_due_facts.proofs.Jobs.LinesAreAllowed.{IsBegun}
use Rattle.sl_due_facts.proofs.Jobs.NearlyPlainActs.{AnyMove, AnyStart, Anything, Nearly, NoLook, decision_plain, nearly_acts}
use Rattle.sl_due_facts.specs.Jobs.JobLaws.{BeginsWith, FollowsSoFar}
use Rattle.sl_due_facts.proofs.AddedEffects.CallsGrow.{next_more}
use Rattle.sl_words.proofs.Lists.{head_is, tail_is}
use Rattle.sl_trace.specs.Sessions.{joining_session, present_sessions, recovery_of}
use Rattle.sl_trace.specs.declared.session.Session.{Session}
use Rattle.sl_due_facts.specs.Facts.AllFacts.{Whole}
use Rattle.sl_trace.specs.Traces.{next_call, next_job}
use Rattle.sl_trace.specs.declared.command.Command.{Command}
use Rattle.sl_trace.specs.declared.command.LockspaceArg.{LockspaceArg}
use Rattle.sl_trace.specs.declared.effects.Call.{Call}
use Rattle.sl_trace.specs.declared.effects.JoinStep.TheVariants.{FirstRead}
use Rattle.sl_trace.specs.declared.effects.Op.{Op}
use Rattle.sl_trace.specs.declared.effects.Op.TheVariants.{ReadSectors}
use Rattle.sl_trace.specs.declared.effects.Purpose.{Purpose}
use Rattle.sl_trace.specs.declared.effects.Purpose.TheVariants.{Joining}
use Rattle.sl_trace.specs.declared.input.Input.{Input}
use Rattle.sl_trace.specs.declared.input.Input.TheVariants.{Line}
use Rattle.sl_trace.specs.declared.reply.Reply.TheVariants.{BadCommand as Misread}
use Rattle.std.proofs.Common.{ap, arith, inl, inr, refl, ◌∙◌}
use Rattle.std.specs.List.{range_with_len}
use Rattle.std.specs.Prelude.{List, None, [], length, map, ℕ, ◌++◌, ◌+◌, ◌∷◌, ◌≡◌, ◌⊎◌}

numbers_on : (cs : List Call) (c : Call) (n : ℕ) → map (λ (d : Call). d.number) cs ≡ range_with_len n (length cs) → c.number ≡ n + length cs
    → map (λ (d : Call). d.number) (cs ++ c ∷ []) ≡ range_with_len n (length (cs ++ c ∷ []))
numbers_on [] c n old next = ap (λ k. k ∷ []) (next ∙ omega arith)
numbers_on (d ∷ cs) c n old next =
    let first : d.number ≡ n = head_is d.number n (map (λ (b : Call). b.number) cs) (range_with_len (n + 1) (length cs)) old in
    let rest : map (λ (b : Call). b.number) cs ≡ range_with_len (n + 1) (length cs) = tail_is d.number n (map (λ (b : Call). b.number) cs) (range_with_len (n + 1) (length cs)) old in
    ap (λ k. k ∷ map (λ (b : Call). b.number) (cs ++ c ∷ [])) first ∙ ap (λ ks. n ∷ ks) (numbers_on cs c (n + 1) rest (next ∙ omega arith))

-- One more call has the next number.
call_follows : (x : Step) (s : Session) (path : List ℕ) (p : Purpose) (o : ℕ) (op : Op) → FollowsSoFar x → FollowsSoFar (add_call_of s.number path p o op x)
call_follows x s path p o op h =
    record {
      time = h.time;
      below = h.below;
      expected = h.expected;
      numbered = numbers_on x.effects.calls (record { number = next_call x.setting (seen x); session = s.number; purpose = p; path = path; offset = o; op = op }) (next_call x.setting x.past) h.numbered (next_more x.setting (entry_of x) x.past);
    }

nearly_follows : Nearly FollowsSoFar
nearly_follows =
    record {
      ends = λ y e h. record { time = h.time; below = h.below; expected = h.expected; numbered = h.numbered };
      signals = λ y q signal h. record { time = h.time; below = h.below; expected = h.expected; numbered = h.numbered };
      moves = λ y m may h. record { time = h.time; below = h.below; expected = h.expected; numbered = h.numbered };
      grants = λ y g h. record { time = h.time; below = h.below; expected = h.expected; numbered = h.numbered };
      starts = λ y k may h. record { time = h.time; below = h.below; expected = h.expected; numbered = h.numbered };
      replies = λ y j r may h. record { time = h.time; below = h.below; expected = h.expected; numbered = h.numbered };
      calls = λ y s path p o op may h. call_follows y s path p o op h;
      rest = λ y h. h;
    }

input_follows : (x : Step) (i : Input) → Expects x i → FollowsSoFar x → FollowsSoFar (with_input i x)
input_follows x i expected h = record { time = h.time; below = h.below; expected = expected; numbered = h.numbered }

carried_follows : (x : Step) (text : List ℕ) (c : Command) (d : Decision) → FollowsSoFar x → FollowsSoFar (carry_decision (next_job x.setting (seen x)) c d (with_input (Line text) x))
unfolding carry_decision
carried_follows x text c d h = by d (decision_plain FollowsSoFar (with_input (Line text) x) (next_job x.setting (seen x)) c d) where
  w : Step
  w = with_input (Line text) x

  g : FollowsSoFar (with_input (Line text) x)
  g = input_follows x (Line text) refl h

  begins : (n : ℕ) (a : LockspaceArg) → FollowsSoFar (carry_decision (next_job x.setting (seen x)) c (Joins n a) (with_input (Line text) x))
  begins n a =
      call_follows (with_input (Line text) x) (joining_session n (next_job x.setting (seen x)) a) a.path (Joining (next_job x.setting (seen x)) FirstRead) (delta_offset x.setting.layout a.offset a.id) (ReadSectors 1) g

  begun : (z : Decision) → IsBegun z → FollowsSoFar (carry_decision (next_job x.setting (seen x)) c z (with_input (Line text) x))
  begun (Joins n a) k = begins n a
  begun (Replies r) k = absurd k
  begun (Leaves s) k = absurd k
  begun (ReadsArea s r) k = absurd k
  begun (Shares s lver) k = absurd k
  begun (GivesUp s q) k = absurd k
  begun (TakesOver s q) k = absurd k
  begun (ConvertsTo s r mode) k = absurd k
  begun (Requests s r) k = absurd k
  begun (SetsValue s spot v) k = absurd k
  begun (GetsValue s spot) k = absurd k

  by : (z : Decision) → IsBegun z ⊎ DecisionAllowed FollowsSoFar Anything NoLook AnyStart (with_input (Line text) x) (next_job x.setting (seen x)) c z
      → FollowsSoFar (carry_decision (next_job x.setting (seen x)) c z (with_input (Line text) x))
  by z (inl k) = begun z k
  by z (inr may) =
      decision FollowsSoFar FollowsSoFar Anything NoLook AnyStart AnyMove nearly_follows (with_input (Line text) x) (next_job x.setting (seen x)) c z may (λ n a joins. begins n a) g

follows_before : (x : Step) → Whole x → FollowsSoFar x
follows_before x h = h.orderly.is_trace.0

pub entries_follow : Acts Whole FollowsSoFar
entries_follow =
    nearly_acts Whole FollowsSoFar follows_before nearly_follows (record {
      others = λ x i wake bare expected no_line h. input_follows x i expected (follows_before x h);
      misreads = λ x text column wake bare says h. nearly_follows.replies (with_input (Line text) x) (next_job x.setting (seen x)) (Misread column) tt (input_follows x (Line text) refl (follows_before x h));
      answers = λ x text c r wake bare says is h. nearly_follows.replies (with_input (Line text) x) (next_job x.setting (seen x)) r tt (input_follows x (Line text) refl (follows_before x h));
      carries = λ x text c d wake bare says is more h. carried_follows x text c d (follows_before x h);
    })

-- So it is once a step has begun.
pub entries_begin : BeginsWith FollowsSoFar
unfolding begin_recoveries begin_recovery
entries_begin st past e follows w =
    let x : Step = begin_step st past e.reading in
    let first : FollowsSoFar x = record { time = follows.time; below = follows.below; expected = refl; numbered = refl } in
    for_each_keeps FollowsSoFar (present_sessions st (seen x)) begin_recovery x
    (λ s there y k. when_keeps FollowsSoFar (begins_now (seen y) (recovery_of y.setting (seen y) s)) (signal_and_refuse s None) y
    (λ begins f. stopped FollowsSoFar FollowsSoFar Anything NoLook AnyStart AnyMove nearly_follows tt y s None (λ z g j inside. tt) f) k) first
