-- The whole of an answer to a joining's call: the joining goes on by what its machine decides, or, where it was refused before, its
-- connection goes with its last write.
use Rattle.sl_host_law.specs.Answers.AnswersFollow.{IsAnswerTo}
use Rattle.sl_host_law.specs.Answers.CarriedDecisions.{carrying}
use Rattle.sl_host_law.specs.Answers.RefusalsFollow.{IsAlone}
use Rattle.sl_host_law.specs.Answers.Requests.{Follows}
use Rattle.sl_due.specs.Steps.{Step, seen, with_input}
use Rattle.sl_host_state.specs.HeardInputs.{heard_answer}
use Rattle.sl_host_state.specs.KeptState.{HostState, MemberState}
use Rattle.sl_host_state.specs.MadeEffects.{has_write_open}
use Rattle.sl_host_state.specs.HostStands.{is_joining, kept_call}
use Rattle.sl_host_state.specs.declared.kept_parts.OpenCall.{OpenCall}
use Rattle.sl_host_law.specs.StepParts.Ends.{removing}
use Rattle.sl_host_law.specs.Questions.Jobs.{running_in}
use Rattle.sl_host_law.specs.Replies.Moves.{EndsBegun}
use Rattle.sl_trace.specs.DeltaDecisions.{delta_of_session, next_in_joining}
use Rattle.sl_trace.specs.Sessions.{calls_of}
use Rattle.sl_trace.specs.declared.delta.DeltaNext.{DeltaNext}
use Rattle.sl_trace.specs.Traces.{Submitted}
use Rattle.sl_trace.specs.declared.effects.JoinStep.{JoinStep}
use Rattle.sl_trace.specs.declared.effects.Move.TheVariants.{Unregister}
use Rattle.sl_trace.specs.declared.effects.Purpose.TheVariants.{Joining}
use Rattle.sl_trace.specs.declared.input.Answer.{Answer}
use Rattle.sl_trace.specs.declared.input.Input.TheVariants.{Answer as Told}
use Rattle.sl_words.specs.Words.{is_empty}
use Rattle.std.specs.Prelude.{Some, cond, false, not, true, ℕ, ◌&&◌, ◌≡◌}

-- It is what the joining decides, of whatever call this is kept.
abbrev pub IsDecided : ℕ → OpenCall → Answer → HostState → Step → MemberState → JoinStep → DeltaNext → Type 0
IsDecided number c a h x m step next =
    (d : Submitted) → kept_call d ≡ c
    → next
    ≡ next_in_joining (delta_of_session x.setting m.who) m.known.generation (calls_of (seen (with_input (Told number a) x)) m.who) (heard_answer number a h).reading d step a

pub record JoiningsFollow : Type 0 where
  -- the joining goes on
  pub going : (number : ℕ) (c : OpenCall) (a : Answer) (h : HostState) (x : Step) (k : ℕ) (m : MemberState) (j : ℕ) (step : JoinStep) (next : DeltaNext) → IsAnswerTo number c a h x k m
      → c.purpose ≡ Joining j step → m.who.job ≡ Some j → is_joining m ≡ true → is_empty m.leases ≡ true → running_in (heard_answer number a h) j ≡ true → IsDecided number c a h x m step next
      → IsAlone j (heard_answer number a h) → EndsBegun (Unregister m.who.lockspace) (heard_answer number a h) → Follows number a h x (carrying m.who next (heard_answer number a h))
  -- it was refused before
  pub refused : (number : ℕ) (c : OpenCall) (a : Answer) (h : HostState) (x : Step) (k : ℕ) (m : MemberState) (j : ℕ) (step : JoinStep) → IsAnswerTo number c a h x k m
      → c.purpose ≡ Joining j step → running_in (heard_answer number a h) j ≡ false → (m.refused ≡ true → EndsBegun (Unregister m.who.lockspace) (heard_answer number a h))
      → Follows number a h x
      (cond (m.refused && not (has_write_open (heard_answer number a h) m.who.number)) (removing m.who.lockspace (heard_answer number a h)) (heard_answer number a h))
