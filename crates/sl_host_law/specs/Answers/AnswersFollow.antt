-- The whole of an answer to a renewal and to a free: it is heard, decided on and carried out, and the state that follows stands.
use Rattle.sl_host_law.specs.Answers.CarriedDecisions.{carrying}
use Rattle.sl_due.specs.DueAnswers.{after_answer}
use Rattle.sl_due.specs.Steps.{Step, seen, with_input}
use Rattle.sl_host_law.specs.SharedFacts.AtInput.{IsAtInput}
use Rattle.sl_host_state.specs.HeardInputs.{heard_answer, member_hearing, renewing_hearing, still_busy}
use Rattle.sl_host_state.specs.KeptState.{HostState, MemberState}
use Rattle.sl_host_state.specs.HostStands.{Stands, is_kept_of}
use Rattle.sl_host_state.specs.declared.kept_parts.OpenCall.{OpenCall}
use Rattle.sl_host_law.specs.Calls.MemberCalls.{is_idle_job}
use Rattle.sl_host_law.specs.Questions.Jobs.{running_in}
use Rattle.sl_host_law.specs.Replies.Answers.{FitsCall, IsOpen}
use Rattle.sl_host_law.specs.Replies.Moves.{EndsBegun}
use Rattle.sl_trace.specs.DeltaDecisions.{next_after_free, next_after_renewal}
use Rattle.sl_trace.specs.Sessions.{is_delta_purpose, is_present}
use Rattle.sl_trace.specs.declared.effects.Move.TheVariants.{Unregister}
use Rattle.sl_trace.specs.declared.effects.Purpose.TheVariants.{Leaving, Renewal}
use Rattle.sl_trace.specs.declared.input.Answer.{Answer}
use Rattle.sl_trace.specs.declared.input.Input.TheVariants.{Answer as Told, Wake}
use Rattle.std.specs.Prelude.{Some, false, is_some, slice_get, true, ℕ, ◌==◌, ◌≡◌}

-- The answer is one to a call of the member at this place, and the step has come to it.
pub record IsAnswerTo (number : ℕ) (c : OpenCall) (a : Answer) (h : HostState) (x : Step) (k : ℕ) (m : MemberState) : Type 0 where
  pub stands : Stands Wake h x
  pub is_open : IsOpen h number c
  pub fits : FitsCall h.config.layout a c
  pub at : IsAtInput h
  pub there : slice_get h.members k ≡ Some m
  pub its : (c.session == m.who.number) ≡ true

-- What an answer sets free.
pub record AnswersSetFree : Type 0 where
  -- after a call on a delta sector none is open
  pub idle : (number : ℕ) (c : OpenCall) (a : Answer) (h : HostState) (x : Step) (k : ℕ) (m : MemberState) → IsAnswerTo number c a h x k m → is_delta_purpose c.purpose ≡ true
      → still_busy number h m ≡ false
  -- its job waits no more
  pub job : (number : ℕ) (c : OpenCall) (a : Answer) (h : HostState) (x : Step) (k : ℕ) (m : MemberState) (j : ℕ) → IsAnswerTo number c a h x k m → is_kept_of j c ≡ true → running_in h j ≡ true
      → is_idle_job (heard_answer number a h) j ≡ true
  -- the member is there still
  pub member : (number : ℕ) (c : OpenCall) (a : Answer) (h : HostState) (x : Step) (k : ℕ) (m : MemberState) → IsAnswerTo number c a h x k m → m.refused ≡ false
      → (n : ℕ) × (slice_get (heard_answer number a h).members n ≡ Some (member_hearing h c a m))

pub record AnswersFollow : Type 0 where
  pub renewal : (number : ℕ) (c : OpenCall) (a : Answer) (h : HostState) (x : Step) (k : ℕ) (m : MemberState) → IsAnswerTo number c a h x k m → c.purpose ≡ Renewal → m.refused ≡ false
      → Stands (Told number a) (carrying m.who (next_after_renewal (is_some (renewing_hearing h c a m).recovery) c.reading a) (heard_answer number a h))
      (after_answer (is_present (seen x)) number a (with_input (Told number a) x))
  pub free : (number : ℕ) (c : OpenCall) (a : Answer) (h : HostState) (x : Step) (k : ℕ) (m : MemberState) (j : ℕ) → IsAnswerTo number c a h x k m → c.purpose ≡ Leaving j → m.refused ≡ false
      → EndsBegun (Unregister m.who.lockspace) (heard_answer number a h)
      → Stands (Told number a) (carrying m.who (next_after_free j c.number a) (heard_answer number a h)) (after_answer (is_present (seen x)) number a (with_input (Told number a) x))
