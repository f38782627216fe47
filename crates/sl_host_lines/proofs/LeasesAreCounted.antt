-- A machine's leases are counted member by member.
use Rattle.sl_host_lines.proofs.TakenFronts.{taken_more}
use Rattle.sl_host_lines.specs.CommandRefusals.{leases_in}
use Rattle.sl_host_state.specs.KeptState.{LeaseState, MemberState}
use Rattle.sl_host_state.specs.MadeEffects.{is_lease_on}
use Rattle.sl_trace.specs.declared.effects.Spot.{Spot}
use Rattle.sl_host.proofs.FoundInList.{none_found, one_found}
use Rattle.std.proofs.Common.{ap, arith, refl, ◌∙◌}
use Rattle.std.proofs.lemmas.Bool.Decides.{nat_tests}
use Rattle.std.proofs.lemmas.List.Elements.{filter-append}
use Rattle.std.proofs.lemmas.List.Sums.{sum_by-append}
use Rattle.std.specs.List.{list_any}
use Rattle.std.specs.Prelude.{Bool, List, None, Some, [], cond, false, filter, find, length, nat_le, slice_get, sum_by, take, true, ℕ, ◌++◌, ◌+◌, ◌-◌, ◌==◌, ◌∷◌, ◌≡◌}

-- With one member more.
leases_behind : (ms : List MemberState) (m : MemberState) → leases_in (ms ++ m ∷ []) ≡ leases_in ms + cond m.joined (length m.leases) 0
leases_behind ms m =
    ap (sum_by (λ (n : MemberState). length n.leases)) (filter-append (λ (n : MemberState). n.joined) ms (m ∷ []))
    ∙ (sum_by-append (λ (n : MemberState). length n.leases) (filter (λ (n : MemberState). n.joined) ms) (filter (λ (n : MemberState). n.joined) (m ∷ []))
    ∙ ap (λ k. leases_in ms + k) (one m.joined))
  where
    one : (b : Bool) → sum_by (λ (n : MemberState). length n.leases) (cond b (m ∷ []) []) ≡ cond b (length m.leases) 0
    one true = omega arith
    one false = refl

-- The first k of them, and the one behind those.
leases_more : (ms : List MemberState) (k : ℕ) (m : MemberState) → slice_get ms k ≡ Some m → leases_in (take (k + 1) ms) ≡ leases_in (take k ms) + cond m.joined (length m.leases) 0
leases_more ms k m is =
    ap leases_in (taken_more ms k m is) ∙ leases_behind (take k ms) m

-- What is left behind k members, less those of the next, is left behind k + 1.
pub less_left : (most left next n k : ℕ) (ms : List MemberState) (m : MemberState) → next ≡ left - n → left ≡ most - leases_in (take k ms) → n ≡ cond m.joined (length m.leases) 0 → slice_get ms k ≡ Some m
    → next ≡ most - leases_in (take (k + 1) ms)
less_left most left next n k ms m less is own there = let more = leases_more ms k m there in omega (arith, less, is, own, more)

-- None is left where there are as many as there may be.
pub none_left : (most count left : ℕ) → left ≡ most - count → (left == 0) ≡ nat_le most count
none_left most count left is = grind (arith, nat_tests)

pub lease_there : (at : Spot) (l : LeaseState) (ls : List LeaseState) → Some l ≡ find (is_lease_on at) ls → true ≡ list_any (is_lease_on at) ls
lease_there at l ls is = one_found (is_lease_on at) l ls is

pub no_lease : (at : Spot) (ls : List LeaseState) → None ≡ find (is_lease_on at) ls → false ≡ list_any (is_lease_on at) ls
no_lease at ls is = none_found (is_lease_on at) ls is
