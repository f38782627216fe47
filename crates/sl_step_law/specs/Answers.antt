-- An answer at its input: whose the open calls are, and what the bytes of an answer are.
use Rattle.sl_due.specs.Steps.{Step}
use Rattle.sl_host_law.specs.StepParts.ExpectedIsOpen.{IsAnswerOf}
use Rattle.sl_host_law.specs.Replies.Answers.{FitsCall, IsOpen}
use Rattle.sl_host_law.specs.Steps.InputsFollow.{CallsAreTheirs}
use Rattle.sl_host_state.specs.KeptState.{HostState}
use Rattle.sl_host_state.specs.declared.kept_parts.OpenCall.{OpenCall}
use Rattle.sl_step_law.specs.ReadyHosts.{IsReady}
use Rattle.sl_trace.specs.Traces.{is_expected}
use Rattle.sl_trace.specs.declared.input.Answer.TheVariants.{Failed, Read, Written}
use Rattle.sl_trace.specs.declared.input.Answer.{Answer}
use Rattle.sl_trace.specs.declared.input.Input.TheVariants.{Answer as Told}
use Rattle.std.specs.List.{list_all}
use Rattle.std.specs.Prelude.{Contains, IsTrue, nat_lt, true, ℕ, ◌≡◌}

-- What a read gives are bytes.
abbrev pub IsOfBytes : Answer → Type 0
IsOfBytes (Read bytes) = IsTrue (list_all (λ b. nat_lt b 256) bytes)
IsOfBytes Written = Unit {0}
IsOfBytes Failed = Unit {0}

pub record AnswersAreKnown : Type 0 where
  -- each open call is its member's, and who hasn't joined has no leases
  pub theirs : (h : HostState) (x : Step) → IsReady h x → CallsAreTheirs h
  -- what may come is the answer of an open call, with as many bytes as it asks
  pub open_one : (h : HostState) (x : Step) (number : ℕ) (a : Answer) → IsReady h x → is_expected x.setting x.past (Told number a) ≡ true
      → (c : OpenCall) × IsOpen h number c × IsAnswerOf h.config.layout a c
  -- those of a read of all ids are their sectors
  pub fits : (h : HostState) (x : Step) (c : OpenCall) (a : Answer) → IsReady h x → Contains h.unanswered c → IsAnswerOf h.config.layout a c → IsOfBytes a → FitsCall h.config.layout a c
