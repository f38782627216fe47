-- Areas are noted one after another, and members' leases are counted by their numbers.
use Rattle.sl_host_passes.specs.PassesLessen.{leases_among, leases_at, leases_in}
use Rattle.sl_host_state.specs.KeptState.{LeaseState, MemberState}
use Rattle.sl_member.specs.HostMembers.{AreApart, member_with}
use Rattle.sl_host.proofs.PassNotes.{front_all, front_more}
use Rattle.std.proofs.Common.{ap, arith, refl, sym, ◌∙◌}
use Rattle.std.proofs.lemmas.List.Sums.{sum_by-cons}
use Rattle.std.specs.List.{AllByRecursion}
use Rattle.std.specs.Option.{option_map_or}
use Rattle.std.specs.Prelude.{Bool, List, Some, [], cond, false, length, map, slice_get, take, true, ℕ, ◌++◌, ◌+◌, ◌==◌, ◌∷◌, ◌≡◌, ◌≤◌}

leases_cons : (m : MemberState) (ms : List MemberState) → leases_in (m ∷ ms) ≡ length m.leases + leases_in ms
leases_cons m ms = sum_by-cons (λ (s : MemberState). length s.leases) m ms

-- Those found by a number are some of them all.
pub found_few : (n : ℕ) (ms : List MemberState) → leases_at n ms ≤ leases_in ms
found_few n [] = let none : leases_in [] ≡ 0 = refl in omega (arith, none)
found_few n (m ∷ ms) = by (m.who.number == n) (found_few n ms) where
  by : (b : Bool) → leases_at n ms ≤ leases_in ms → option_map_or (λ s. length s.leases) (cond b (Some m) (member_with n ms)) 0 ≤ leases_in (m ∷ ms)
  by true rest = let all = leases_cons m ms in omega (arith, all)
  by false rest = let all = leases_cons m ms in omega (arith, all, rest)

passed : (m : MemberState) (ms : List MemberState) (ns : List ℕ) → AllByRecursion (λ k. (m.who.number == k) ≡ false) ns → leases_among ns (m ∷ ms) ≡ leases_among ns ms
passed m ms [] apart = refl
passed m ms (n ∷ ns) apart =
    ap (λ b. option_map_or (λ (s : MemberState). length s.leases) (cond b (Some m) (member_with n ms)) 0 + leases_among ns (m ∷ ms)) apart.0
    ∙ ap (λ t. leases_at n ms + t) (passed m ms ns apart.1)

itself : (n : ℕ) → (n == n) ≡ true
itself n = grind arith

pub among_few : (ms : List MemberState) → AreApart (map (λ m. m.who.number) ms) → leases_among (map (λ m. m.who.number) ms) ms ≤ leases_in ms
among_few [] apart = let none : leases_in [] ≡ 0 = refl in omega (arith, none)
among_few (m ∷ ms) apart =
    let ns : List ℕ = map (λ (s : MemberState). s.who.number) ms in
    let one : leases_at m.who.number (m ∷ ms) ≡ length m.leases = ap (λ b. option_map_or (λ (s : MemberState). length s.leases) (cond b (Some m) (member_with m.who.number ms)) 0) (itself m.who.number) in
    let rest : leases_among ns (m ∷ ms) ≡ leases_among ns ms = passed m ms ns apart.0 in
    let few : leases_among ns ms ≤ leases_in ms = among_few ms apart.1 in
    let all = leases_cons m ms in
    omega (arith, one, rest, few, all)

map_end : (ls : List LeaseState) (l : LeaseState) → map (λ l. l.spot) (ls ++ l ∷ []) ≡ map (λ l. l.spot) ls ++ l.spot ∷ []
map_end [] l = refl
map_end (k ∷ ls) l = ap (λ ss. k.spot ∷ ss) (map_end ls l)

pub spots_more : (ls : List LeaseState) (k : ℕ) (l : LeaseState) → slice_get ls k ≡ Some l → map (λ l. l.spot) (take k ls) ++ l.spot ∷ [] ≡ map (λ l. l.spot) (take (k + 1) ls)
spots_more ls k l at = sym (ap (λ xs. map (λ (l : LeaseState). l.spot) xs) (front_more ls k l at) ∙ map_end (take k ls) l)

pub spots_all : (ls : List LeaseState) → map (λ l. l.spot) (take (length ls) ls) ≡ map (λ l. l.spot) ls
spots_all ls = ap (λ xs. map (λ (l : LeaseState). l.spot) xs) (front_all ls)
