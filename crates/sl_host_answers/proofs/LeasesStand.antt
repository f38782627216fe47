-- Work on a lease that goes on is done, and where it does not nothing is.
use Rattle.sl_host_answers.specs.Leases.{next_on}
use Rattle.sl_host_law.specs.Answers.LeaseDecisions.{carrying_lease}
use Rattle.sl_host_law.specs.Questions.Answers.{spot_in}
use Rattle.sl_host_law.specs.Questions.Jobs.{aim_in, goes_on_in}
use Rattle.sl_host_law.specs.Steps.Answers.{working_on}
use Rattle.sl_host_law.specs.Steps.Leases.{answered_next}
use Rattle.sl_host_law.specs.Steps.Passes.{at_member, member_numbered}
use Rattle.sl_host_state.specs.KeptState.{HostState, MemberState}
use Rattle.sl_host_state.specs.declared.kept_parts.OpenCall.{OpenCall}
use Rattle.sl_host_work.proofs.TurnsStand.{by_number}
use Rattle.sl_trace.specs.declared.lease.Aim.{Aim}
use Rattle.sl_trace.specs.declared.lease.LeaseNext.{LeaseNext}
use Rattle.sl_trace.specs.declared.session.Session.{Session}
use Rattle.sl_trace.specs.declared.effects.LeaseStep.{LeaseStep}
use Rattle.sl_trace.specs.declared.effects.Spot.{Spot}
use Rattle.sl_trace.specs.declared.effects.Work.{Work}
use Rattle.sl_trace.specs.declared.input.Answer.{Answer}
use Rattle.std.proofs.Common.{ap, refl, sym, ◌∙◌}
use Rattle.std.specs.Prelude.{Bool, None, Option, Some, cond, false, option_map, true, unwrap_or, ℕ, ◌≡◌}

module _ (h : HostState) (c : OpenCall) (work : Work) (step : LeaseStep) (a : Answer) (n : ℕ) where
  -- the call's area
  abbrev here : Spot
  here = spot_in h.config.layout c

  -- to this end
  abbrev to_end : MemberState → Option Aim → HostState
  to_end m o = elim o as (λ z. HostState) [ None ↦ h | Some aim ↦ carrying_lease m here work (answered_next h m here c aim step a) h ]

  abbrev at_found : Option MemberState → HostState
  at_found o = elim o as (λ z. HostState) [ None ↦ h | Some m ↦ working_on m c work step a h ]

  -- what is found, with its session
  abbrev found_so : MemberState → Option Aim → Option (Session × LeaseNext)
  found_so m o = option_map (λ aim. (m.who, answered_next h m here c aim step a)) o

  module _ (s : Session) (next : LeaseNext) where
    abbrev found : Option (Session × LeaseNext)
    found = Some (s, next)

    goes : (m : MemberState) (b : Bool) (o : Option Aim) → found ≡ found_so m (cond b o None) → (m.who ≡ s) × (carrying_lease m here work next h ≡ cond b (to_end m o) h)
    goes m true (Some aim) is =
        let got : Option (Session × LeaseNext) → Session × LeaseNext = λ z. unwrap_or z (m.who, answered_next h m here c aim step a) in
        let one : m.who ≡ s = sym (ap (λ z. (got z).0) is) in
        let other : next ≡ answered_next h m here c aim step a = ap (λ z. (got z).1) is in
        (one, ap (λ v. carrying_lease m here work v h) other)
    goes m true None is = absurd cc
    goes m false o is = absurd cc

    goes_at : (o : Option MemberState) → found ≡ next_on h here c work step a o → (m : MemberState) × (o ≡ Some m) × (m.who ≡ s) × (carrying_lease m here work next h ≡ at_found o)
    goes_at None is = absurd cc
    goes_at (Some m) is = (m, refl, (goes m (goes_on_in h m work) (aim_in h work) is).0, (goes m (goes_on_in h m work) (aim_in h work) is).1)

    pub goes_further : (at : Spot) → at ≡ here → found ≡ next_on h at c work step a (member_numbered h n)
        → (m : MemberState) × (member_numbered h s.number ≡ Some m) × (m.who ≡ s) × (carrying_lease m at work next h ≡ at_member n (λ m. working_on m c work step a) h)
    goes_further at there is =
        let went = goes_at (member_numbered h n) (is ∙ ap (λ z. next_on h z c work step a (member_numbered h n)) there) in
        (went.0, by_number h.members n went.0 s went.1 went.2, went.2, ap (λ z. carrying_lease went.0 z work next h) there ∙ went.3)

  abbrev nothing : Option (Session × LeaseNext)
  nothing = None

  stops : (m : MemberState) (b : Bool) (o : Option Aim) → nothing ≡ found_so m (cond b o None) → h ≡ cond b (to_end m o) h
  stops m true (Some aim) is = absurd cc
  stops m true None is = refl
  stops m false o is = refl

  stops_at : (o : Option MemberState) → nothing ≡ next_on h here c work step a o → h ≡ at_found o
  stops_at None is = refl
  stops_at (Some m) is = stops m (goes_on_in h m work) (aim_in h work) is

  pub goes_nowhere : (at : Spot) → at ≡ here → nothing ≡ next_on h at c work step a (member_numbered h n) → h ≡ at_member n (λ m. working_on m c work step a) h
  goes_nowhere at there is = stops_at (member_numbered h n) (is ∙ ap (λ z. next_on h z c work step a (member_numbered h n)) there)
