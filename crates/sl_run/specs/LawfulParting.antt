-- What a session in recovery or leaving may still write, and how a joined session may end.
use Rattle.sl_run.specs.LawForms.{EachCall, EachSession, IsAnsweredAt}
use Rattle.sl_trace.specs.Sessions.{calls_of, free_write, has_open_write, holdings_of, is_joined, is_leaving, is_recovering, recovery_of}
use Rattle.sl_trace.specs.declared.session.Session.{Session}
use Rattle.sl_trace.specs.Traces.{Setting, Submitted, Trace, is_write}
use Rattle.sl_trace.specs.declared.effects.Entry.{Entry}
use Rattle.sl_trace.specs.declared.effects.Purpose.TheVariants.{Leaving, Renewal}
use Rattle.sl_trace.specs.declared.effects.Purpose.{Purpose}
use Rattle.sl_trace.specs.declared.input.Answer.{Answer}
use Rattle.std.specs.Prelude.{Bool, IsTrue, Some, false, is_some, length, true, [], ◌∷◌, ◌≡◌, ◌⊎◌}

-- How a joined session may end: in recovery with nothing held and no write unanswered, or at its free's answer.
abbrev pub MayPart : Setting → Trace → Entry → Session → Type 0
MayPart st past e s =
    (IsTrue (is_some (recovery_of st (e ∷ past) s)) × (holdings_of (e ∷ past) s ≡ []) × (has_open_write (e ∷ past) s ≡ false))
    ⊎ ((c : Submitted) × (answer : Answer) × (free_write (calls_of (e ∷ past) s) ≡ Some c) × IsAnsweredAt (length past) c answer)

-- Whether a write may be made in a leaving: a renewal or the free.
abbrev pub is_leaving_write : Purpose → Bool
is_leaving_write Renewal = true
is_leaving_write (Leaving j) = true
is_leaving_write p = false

-- Lawful parting.
pub record LawfulParting (st : Setting) (past : Trace) (e : Entry) : Type 0 where
  -- a session in recovery may be over already
  pub quiet : EachCall st (λ es s c. IsTrue (is_recovering st es s) → is_write c.call.op ≡ false) past e
  pub few : EachCall st (λ es s c. IsTrue (is_leaving st es s) → is_write c.call.op ≡ true → IsTrue (is_leaving_write c.call.purpose)) past e
  -- an end with a holder or a write in flight would be no end
  pub parts_well : EachSession st (λ s. is_joined past s ≡ true → is_joined (e ∷ past) s ≡ false → MayPart st past e s) past
