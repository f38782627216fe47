-- A grant keeps the facts of a job's work where nobody works at its place.
use Rattle.sl_due.specs.Steps.{Step, add_grant, seen}
use Rattle.sl_due_leases.proofs.Grants.WorksByEffects.{WorksAt}
use Rattle.sl_due_leases.proofs.Holdings.HoldingsByCalls.{not_last}
use Rattle.sl_due_leases.proofs.Holdings.HoldingsByGrants.{old_or_granted}
use Rattle.sl_trace.specs.Jobs.{aim_of_command}
use Rattle.sl_trace.specs.Leases.{spot_of_call}
use Rattle.sl_trace.specs.declared.lease.Aim.{Aim}
use Rattle.sl_due_facts.specs.Facts.HeardCall.{heard_by}
use Rattle.sl_due_facts.specs.Facts.WorkFacts.{IsAtWork, IsWaiting, MayBeHeld}
use Rattle.sl_trace.specs.Traces.{Submitted, holdings, same_place, submitted}
use Rattle.sl_trace.specs.declared.command.Command.{Command}
use Rattle.sl_trace.specs.declared.effects.Grant.{Grant}
use Rattle.sl_trace.specs.declared.effects.LeaseStep.{LeaseStep}
use Rattle.sl_trace.specs.declared.effects.Purpose.TheVariants.{Lease}
use Rattle.sl_trace.specs.declared.effects.Work.TheVariants.{ForJob}
use Rattle.std.proofs.Common.{inl, inr, subst, sym}
use Rattle.std.specs.Prelude.{Contains, IsTrue, None, Some, true, ℕ, ◌≡◌, ◌⊎◌}

-- No job's call waits at the place.
abbrev pub NobodyWorksAt : Step → Grant → Type 0
NobodyWorksAt x g =
    (m : Submitted) (j : ℕ) (step : LeaseStep) → Contains (submitted (seen x)) m → m.answer ≡ None → m.call.purpose ≡ Lease (ForJob j) step
    → same_place g.path g.offset (spot_of_call x.setting.layout m).path (spot_of_call x.setting.layout m).base ≡ true → ⊥

pub grant_works : (x : Step) (g : Grant) → NobodyWorksAt x g → WorksAt x → WorksAt (add_grant g x)
grant_works x g nobody h =
    record {
      beside = λ m j step c aim e k aimed there same. by m j step c aim e k aimed (old_or_granted x g e there) same;
      modes = λ m j step c k aimed. h.modes m j step c (old m j step c k) aimed;
      acts = λ m j step c p k named. h.acts m j step c p (old m j step c k) named;
      unshared = λ m d j step earlier c mode s k aimed its there purpose. h.unshared m d j step earlier c mode s (old m j step c k) aimed its there purpose;
    } where
      waits : (m : Submitted) → IsWaiting (seen (add_grant g x)) (heard_by x.input) m → m.answer ≡ None
      waits m (inl none) = none
      waits m (inr k) = absurd (not_last x.effects.grants g k.2)

      old : (m : Submitted) (j : ℕ) (step : LeaseStep) (c : Command) → IsAtWork x.setting (seen (add_grant g x)) (heard_by x.input) m j step c → IsAtWork x.setting (seen x) (heard_by x.input) m j step c
      old m j step c k = record { there = k.there; opens = inl (waits m k.opens); purpose = k.purpose; runs = k.runs; command = k.command }

      by : (m : Submitted) (j : ℕ) (step : LeaseStep) (c : Command) (aim : Aim) (e : Grant) → IsAtWork x.setting (seen (add_grant g x)) (heard_by x.input) m j step c → aim_of_command c ≡ Some aim
          → Contains (holdings (seen x)) e ⊎ (g ≡ e) → IsTrue (same_place e.path e.offset (spot_of_call x.setting.layout m).path (spot_of_call x.setting.layout m).base) → MayBeHeld m c aim e
      by m j step c aim e k aimed (inl was) same = h.beside m j step c aim e (old m j step c k) aimed was same
      by m j step c aim e k aimed (inr new) same =
          absurd (nobody m j step k.there (waits m k.opens) k.purpose
          (subst (λ (z : Grant). same_place z.path z.offset (spot_of_call x.setting.layout m).path (spot_of_call x.setting.layout m).base ≡ true) (sym new) same))
