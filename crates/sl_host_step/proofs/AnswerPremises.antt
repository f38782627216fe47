-- What an answer asks of the host that has come to it.
use Rattle.sl_host_answers.specs.WholeAnswers.{CanAnswer}
use Rattle.sl_host_answers.specs.Surveys.{leases_of, spots_of}
use Rattle.sl_host_law.specs.Replies.Answers.{IsOpen}
use Rattle.sl_host_passes.proofs.Spots.{found_few}
use Rattle.sl_host_passes.specs.PassesLessen.{leases_at, leases_in}
use Rattle.sl_host_state.specs.KeptState.{HostKept, MemberState}
use Rattle.sl_host_state.specs.declared.kept_parts.OpenCall.{OpenCall}
use Rattle.sl_host_step.proofs.StepsMayCome.{at_input}
use Rattle.sl_host_step.proofs.KnownWholeAnswers as known
use Rattle.sl_host_step.specs.Moments.{AtInput}
use Rattle.sl_host_step.specs.InputReach.{reach_at, reach_in}
use Rattle.sl_host_step.specs.StepMemory.{HasLeft, ScratchState, Suffices}
use Rattle.sl_host_step.specs.declared.step_memory.Reach.TheVariants.{Few}
use Rattle.sl_host_step.specs.declared.step_memory.Reach.{Reach}
use Rattle.sl_member.specs.HostMembers.{member_with}
use Rattle.sl_trace.specs.Sessions.{is_survey_purpose}
use Rattle.sl_trace.specs.declared.input.Answer.{Answer}
use Rattle.sl_trace.specs.declared.input.Input.TheVariants.{Answer as Told}
use Rattle.sl_host.specs.BookQuestions.{state_in}
use Rattle.sl_host.specs.Host.{HostView}
use Rattle.std.proofs.Common.{ap, arith, refl, subst}
use Rattle.std.proofs.lemmas.List.{length-map}
use Rattle.std.specs.Option.{option_map_or}
use Rattle.std.specs.Prelude.{Bool, None, Option, Some, cond, false, length, true, ℕ, ◌+◌, ◌≡◌, ◌≤◌}

few_places : (n : ℕ) (k : HostKept) → leases_of n k ≤ leases_in k.members
few_places n k = by (member_with n k.members) refl where
  by : (o : Option MemberState) → member_with n k.members ≡ o → length (spots_of o) ≤ leases_in k.members
  by None is = omega (arith)
  by (Some m) is =
      let few : leases_at n k.members ≤ leases_in k.members = found_few n k.members in
      let at : leases_at n k.members ≡ length m.leases = ap (λ o. option_map_or (λ (s : MemberState). length s.leases) o 0) is in
      let many = length-map m.leases (λ l. l.spot) in
      omega (arith, few, at, many)

-- How far an answer reaches is known by its call.
reach_is : (k : HostKept) (number : ℕ) (c : OpenCall) → IsOpen (state_in k) number c → reach_at k number ≡ reach_in (is_survey_purpose c.purpose)
reach_is k number c opens = ap (λ o. option_map_or (λ (d : OpenCall). reach_in (is_survey_purpose d.purpose)) o Few) opens

pub can_answer : (now number : ℕ) (a : Answer) (first k : HostKept) (c : OpenCall) (v w : HostView) (s : ScratchState) → AtInput now (Told number a) first w.kept → IsOpen (state_in w.kept) number c → HasLeft (reach_at w.kept number) v w → Suffices s w
    → CanAnswer w.kept c a w.left w.calls s.jobs s.spots
can_answer now number a first k c v w s at opens left lists =
    record {
      may = known.may_answer now number a w.kept c (at_input now (Told number a) first w.kept at) opens;
      left_is = by_left (is_survey_purpose c.purpose) there;
      calls_are = by_calls (is_survey_purpose c.purpose) there;
      room = (let z = lists.jobs in omega (arith, z));
      places = by_places (is_survey_purpose c.purpose) lists.spots;
    }
  where
    there : HasLeft (reach_in (is_survey_purpose c.purpose)) v w
    there = subst (λ (r : Reach). HasLeft r v w) (reach_is w.kept number c opens) left

    by_left : (b : Bool) → HasLeft (reach_in b) v w → cond b (length w.kept.holdings + length w.kept.jobs + 3) 3 ≤ w.left
    by_left true has = let le = has.left in omega (arith, le)
    by_left false has = let le = has.left in omega (arith, le)

    by_calls : (b : Bool) → HasLeft (reach_in b) v w → cond b (leases_of c.session w.kept + 1) 1 ≤ w.calls
    by_calls true has =
        let le = has.calls in
        let few : leases_of c.session w.kept ≤ leases_in w.kept.members = few_places c.session w.kept in omega (arith, le, few)
    by_calls false has = let le = has.calls in omega (arith, le)

    by_places : (b : Bool) → leases_in w.kept.members ≤ s.spots → cond b (leases_of c.session w.kept) 0 ≤ s.spots
    by_places true le = let few : leases_of c.session w.kept ≤ leases_in w.kept.members = few_places c.session w.kept in omega (arith, le, few)
    by_places false le = omega (arith, le)
