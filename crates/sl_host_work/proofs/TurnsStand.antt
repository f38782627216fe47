-- What a member's lease decided can be written by the member that is found by its session's number.
use Rattle.sl_host_state.specs.KeptState.{HostKept, MemberState}
use Rattle.sl_host_work.specs.LeaseQuestions.{IsTurned, MayTurn}
use Rattle.sl_host_work.specs.NextDecisions.{writes_own_block}
use Rattle.sl_member.specs.HostMembers.{member_with}
use Rattle.sl_words.proofs.Lists.{find_inside}
use Rattle.sl_trace.specs.declared.effects.Spot.{Spot}
use Rattle.sl_trace.specs.declared.lease.LeaseNext.{LeaseNext}
use Rattle.sl_trace.specs.declared.session.Session.{Session}
use Rattle.sl_words.proofs.CaseLaws.{some_value}
use Rattle.std.proofs.Common.{ap, subst, sym, ◌∙◌}
use Rattle.std.proofs.lemmas.Bool.{eqb-true}
use Rattle.std.specs.Prelude.{IfSome, List, None, Option, Some, true, ℕ, ◌==◌, ◌≡◌}

-- The member that is found by a number is found by its session's.
pub by_number : (ms : List MemberState) (n : ℕ) (m : MemberState) (s : Session) → member_with n ms ≡ Some m → m.who ≡ s → member_with s.number ms ≡ Some m
by_number ms n m s found is =
    let its : m.who.number ≡ n = eqb-true m.who.number n (find_inside (λ (z : MemberState). z.who.number == n) ms m found).1 in
    ap (λ k. member_with k ms) (sym (ap (λ (z : Session). z.number) is) ∙ its) ∙ found

-- So is whoever is found by that, and can write it.
pub is_turned : (k : HostKept) (at : Spot) (n : ℕ) (m : MemberState) (s : Session) → member_with n k.members ≡ Some m → s ≡ m.who → MayTurn k.config.sizes m at → IsTurned k s at
is_turned k at n m s found is may other there =
    subst (λ (z : MemberState). MayTurn k.config.sizes z at) (some_value m other (sym (by_number k.members n m s found (sym is)) ∙ there)) may

pub turned_for : (k : HostKept) (at : Spot) (n : ℕ) (m : MemberState) (result : Option (Session × LeaseNext)) → member_with n k.members ≡ Some m
    → IfSome result (λ r. (r.0 ≡ m.who) × (writes_own_block r.1 ≡ true → MayTurn k.config.sizes m at)) → IfSome result (λ r. writes_own_block r.1 ≡ true → IsTurned k r.0 at)
turned_for k at n m None found turned = tt
turned_for k at n m (Some r) found turned = λ writes. is_turned k at n m r.0 found turned.0 (turned.1 writes)
