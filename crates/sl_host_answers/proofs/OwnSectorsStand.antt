-- Calls on own sectors, answered.
use Rattle.sl_delta.specs.DeltaDecisions.{after_join}
use Rattle.sl_delta.specs.OwnSector.{OwnState}
use Rattle.sl_host_law.specs.Answers.CarriedDecisions.{carrying}
use Rattle.sl_host_law.specs.Steps.Answers.{joining_next}
use Rattle.sl_host_law.specs.Steps.Passes.{at_member, member_numbered}
use Rattle.sl_host_state.specs.KeptState.{HostKept, HostState, MemberState}
use Rattle.sl_host_state.specs.declared.kept_parts.OpenCall.{OpenCall}
use Rattle.sl_member.specs.Members.{MemberKept, RunOf, own_of}
use Rattle.sl_trace.specs.DeltaDecisions.{next_after_renewal}
use Rattle.sl_trace.specs.declared.delta.DeltaNext.TheVariants.{MoveConnection}
use Rattle.sl_trace.specs.declared.delta.DeltaNext.{DeltaNext}
use Rattle.sl_trace.specs.declared.session.Session.{Session}
use Rattle.sl_trace.specs.declared.effects.JoinStep.{JoinStep}
use Rattle.sl_trace.specs.declared.input.Answer.TheVariants.{Written}
use Rattle.sl_trace.specs.declared.input.Answer.{Answer}
use Rattle.sl_host.specs.BookQuestions.{state_in}
use Rattle.std.proofs.Common.{ap, refl, sym, ◌∙◌}
use Rattle.std.specs.Prelude.{Bool, None, Option, Some, false, is_some, option_map, ℕ, ◌≡◌}

abbrev run_in : HostKept → RunOf
run_in k = record { timing = k.config.timing; sizes = k.config.sizes; host = k.config.name }

abbrev own_by : RunOf → MemberState → OwnState
own_by r s = let v : MemberKept = record { run = r; state = s; room = 0 } in own_of v

-- What a joining does next, as the member says it.
pub joins_next : (k : HostKept) (m : MemberKept) (now : ℕ) (c : OpenCall) (step : JoinStep) (a : Answer) (next : DeltaNext) → m.run ≡ run_in k → now ≡ k.reading
    → next ≡ after_join (own_of m) now c.number c.reading step a → next ≡ joining_next (state_in k) m.state c step a
joins_next k m now c step a next run moment is = is ∙ (λ i. after_join (own_by (run i) m.state) (moment i) c.number c.reading step a)

-- Of the member of a number.
abbrev at_found : (MemberState → HostState → HostState) → Option MemberState → HostState → HostState
at_found f o h = elim o as (λ z. HostState) [ None ↦ h | Some m ↦ f m h ]

abbrev pub renewing_by : Option (Session × Bool) → ℕ → HostState → HostState
renewing_by o made h = elim o as (λ z. HostState) [ None ↦ h | Some r ↦ carrying r.0 (next_after_renewal r.1 made Written) h ]

pub renews : (n made : ℕ) (h : HostState) → renewing_by (option_map (λ m. (m.who, is_some m.renewing.recovery)) (member_numbered h n)) made h
    ≡ at_member n (λ m. carrying m.who (next_after_renewal (is_some m.renewing.recovery) made Written)) h
renews n made h = by (member_numbered h n)
  where
    by : (o : Option MemberState)
        → renewing_by (option_map (λ m. (m.who, is_some m.renewing.recovery)) o) made h ≡ at_found (λ m. carrying m.who (next_after_renewal (is_some m.renewing.recovery) made Written)) o h
    by None = refl
    by (Some m) = refl

abbrev pub ending_by : Option (Session × Bool) → DeltaNext → HostState → HostState
ending_by o next h = elim o as (λ z. HostState) [ None ↦ h | Some r ↦ carrying r.0 next h ]

pub ends : (n : ℕ) (next : DeltaNext) (h : HostState) → ending_by (option_map (λ m. (m.who, is_some m.renewing.recovery)) (member_numbered h n)) next h ≡ at_member n (λ m. carrying m.who next) h
ends n next h = by (member_numbered h n)
  where
    by : (o : Option MemberState) → ending_by (option_map (λ m. (m.who, is_some m.renewing.recovery)) o) next h ≡ at_found (λ m. carrying m.who next) o h
    by None = refl
    by (Some m) = refl

-- Where it is not in recovery the connection moves.
pub moves : (s : Session) (recovering : Bool) (made : ℕ) (h : HostState) → recovering ≡ false → carrying s (MoveConnection made) h ≡ carrying s (next_after_renewal recovering made Written) h
moves s recovering made h is = ap (λ b. carrying s (next_after_renewal b made Written) h) (sym is)
