-- An answer that may come is one of an open call.
use Rattle.sl_area.specs.AreaSizes.{Layout}
use Rattle.sl_due.specs.Steps.{Step}
use Rattle.sl_host_state.specs.KeptState.{HostState}
use Rattle.sl_host_state.specs.HostStands.{Stands}
use Rattle.sl_host_state.specs.declared.kept_parts.OpenCall.{OpenCall}
use Rattle.sl_host_law.specs.Replies.Answers.{AreIdSectors, FitsCall, IsOpen}
use Rattle.sl_trace.specs.Sessions.{is_survey_purpose}
use Rattle.sl_trace.specs.Traces.{is_expected}
use Rattle.sl_trace.specs.declared.input.Answer.TheVariants.{Failed, Read, Written}
use Rattle.sl_trace.specs.declared.input.Answer.{Answer}
use Rattle.sl_trace.specs.declared.input.Input.TheVariants.{Answer as Told, Wake}
use Rattle.std.specs.Prelude.{None, Some, length, true, [], ℕ, ◌*◌, ◌≡◌}

-- What the answer of such a call is: bytes as many as were asked, where any were.
abbrev pub IsAnswerOf : Layout → Answer → OpenCall → Type 0
IsAnswerOf g (Read bytes) c = (n : ℕ) × (c.sectors ≡ Some n) × (length bytes ≡ n * g.sector)
IsAnswerOf g Written c = c.sectors ≡ None
IsAnswerOf g Failed c = Unit {0}

-- The bytes of a read of all ids are the sectors of ids.
abbrev pub AreLooks : Layout → Answer → OpenCall → Type 0
AreLooks g (Read bytes) c = is_survey_purpose c.purpose ≡ true → AreIdSectors g bytes
AreLooks g Written c = Unit {0}
AreLooks g Failed c = Unit {0}

pub record ExpectedIsOpen : Type 0 where
  -- the call that it answers is kept
  pub call : (number : ℕ) (a : Answer) (h : HostState) (x : Step) → is_expected x.setting x.past (Told number a) ≡ true → Stands Wake h x → h.made.calls ≡ []
      → (c : OpenCall) × IsOpen h number c × IsAnswerOf h.config.layout a c
  -- so it can be heard
  pub fits : (g : Layout) (a : Answer) (c : OpenCall) → IsAnswerOf g a c → AreLooks g a c → FitsCall g a c
