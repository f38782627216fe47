-- A joining decides by what is kept of its sector as by its calls.
use Rattle.sl_delta.specs.DeltaDecisions.{after_join}
use Rattle.sl_delta.specs.OwnSector.{OwnState, after_answer, joining_told, lease_of}
use Rattle.sl_delta.proofs.EnoughLaws.{joining_by, told_is}
use Rattle.sl_due.specs.Steps.{Step}
use Rattle.sl_host_state.specs.HeardInputs.{joining_hearing}
use Rattle.sl_host_state.specs.KeptState.{Config, HostState, MemberState}
use Rattle.sl_host_state.specs.NewHost.{IsOfProgram}
use Rattle.sl_host_state.specs.HostStands.{JoinStands, Stands, kept_call}
use Rattle.sl_host_state.specs.declared.kept_parts.OpenCall.{OpenCall}
use Rattle.sl_host_law.specs.Steps.Answers.{joining_next, own_of}
use Rattle.sl_trace.specs.DeltaDecisions.{DeltaLease, delta_of_session, next_in_joining}
use Rattle.sl_trace.specs.Traces.{Submitted}
use Rattle.sl_trace.specs.declared.effects.JoinStep.{JoinStep}
use Rattle.sl_trace.specs.declared.effects.Purpose.TheVariants.{Joining}
use Rattle.sl_trace.specs.declared.input.Answer.{Answer}
use Rattle.sl_trace.specs.declared.input.Input.TheVariants.{Wake}
use Rattle.std.proofs.Common.{ap, refl, subst, sym, ◌∙◌}
use Rattle.std.specs.Prelude.{List, ℕ, ◌≡◌}

pub joining_decides : (h : HostState) (x : Step) (m : MemberState) (c : OpenCall) (a : Answer) (step : JoinStep) (d : Submitted) → kept_call d ≡ c → Stands Wake h x → (ms : List Submitted)
    → JoinStands (joining_hearing h c a m.joining) ms → (j : ℕ) → c.purpose ≡ Joining j step → IsOfProgram h.config.layout → (now : ℕ) → now ≡ h.reading
    → joining_next h m c step a ≡ next_in_joining (delta_of_session x.setting m.who) m.known.generation ms now d step a
joining_decides h x m c a step d kept_d s ms stands j is program now reading =
    let o : OwnState = own_of h m in
    let told : OwnState = after_answer (Joining j step) a h.reading o in
    let heard : JoinStands told.joining ms = subst (λ p. JoinStands (joining_told p a h.reading m.joining) ms) is stands in
    let lease : lease_of told ≡ delta_of_session x.setting m.who =
    ap (λ g. record { timing = h.config.timing; layout = g; host = h.config.name; lockspace = m.who.lockspace; id = m.who.id }) program
    ∙ sym (ap (λ (z : Config). record { timing = z.timing; layout = z.layout; host = z.name; lockspace = m.who.lockspace; id = m.who.id }) s.keeps.config)
    in
    sym (told_is o h.reading c.number c.reading j step a)
    ∙ ap (λ (z : OpenCall). after_join told h.reading z.number z.reading step a) (sym kept_d)
    ∙ joining_by told m.known.generation h.reading d ms step a heard refl
    ∙ ap (λ (l : DeltaLease). next_in_joining l m.known.generation ms h.reading d step a) lease
    ∙ ap (λ t. next_in_joining (delta_of_session x.setting m.who) m.known.generation ms t d step a) (sym reading)
