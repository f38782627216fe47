-- While a call of a lease is unanswered, an entry that does not answer it leaves the lease's calls as they are, whatever else it does. It
-- is the law of areas alone that says so: no step of a host is looked into.
use Rattle.sl_area.specs.AreaLayout.{is_base}
use Rattle.sl_run.specs.Lawful.{Lawful}
use Rattle.sl_run.specs.LawfulArea.{is_block_work}
use Rattle.sl_trace.specs.Leases.{lease_calls}
use Rattle.sl_trace.specs.declared.session.Session.{Session}
use Rattle.sl_trace.specs.Sessions.{session_numbered}
use Rattle.sl_trace.specs.Traces.{Setting, Submitted, Trace}
use Rattle.sl_trace.specs.declared.effects.Entry.{Entry}
use Rattle.sl_trace.specs.declared.effects.Spot.{Spot}
use Rattle.sl_trace.specs.declared.input.Answer.{Answer}
use Rattle.sl_trace.specs.declared.input.Input.TheVariants.{Answer as Told}
use Rattle.std.specs.Prelude.{Contains, IsTrue, None, Some, true, ℕ, ◌∷◌, ◌≡◌}

-- The lease has this call unanswered, and no other.
pub record IsAtWork (st : Setting) (past : Trace) (s : Session) (at : Spot) (d : Submitted) : Type 0 where
  pub base : IsTrue (is_base st.layout at.base)
  pub there : Contains (lease_calls st past s at) d
  pub waits : d.answer ≡ None
  pub works : is_block_work d ≡ true
  pub only : (m : Submitted) → Contains (lease_calls st past s at) m → m.answer ≡ None → m.call.number ≡ d.call.number

-- The entry doesn't answer the call of this number.
abbrev pub IsOfOthers : Entry → ℕ → Type 0
IsOfOthers e number = (n : ℕ) (a : Answer) → e.input ≡ Told n a → n ≡ number → ⊥

abbrev pub LeasesStay : Type 0
LeasesStay = (st : Setting) (past : Trace) (e : Entry) (s : Session) (at : Spot) (d : Submitted) → Lawful st (e ∷ past) → session_numbered st (e ∷ past) s.number ≡ Some s
    → IsAtWork st past s at d → IsOfOthers e d.call.number → lease_calls st (e ∷ past) s at ≡ lease_calls st past s at
