-- What reads of pairs show is the newest.
use Rattle.sl_ballot_law.proofs.Pairs.MoveLaws.{run_grows}
use Rattle.sl_ballot_law.proofs.Pairs.ReadLaws.{once, stood_newest, twice}
use Rattle.sl_ballot_law.specs.Pairs.Reads.{Stood, given_once}
use Rattle.sl_ballot_law.specs.Pairs.Shows.{By_one, By_two, GivesOfPair, PairsShowNewest}
use Rattle.sl_ballot_law.specs.Pairs.State.{State, Stored}
use Rattle.sl_ballot_law.specs.Pairs.Steps.{IsRun}
use Rattle.sl_words.proofs.CaseLaws.{one_value}
use Rattle.std.proofs.Common.{arith, subst, ℕ, ◌+◌, ◌≡◌, ◌≤◌}

given_newest : (r : ℕ → State) → IsRun r → (begun write : ℕ) → GivesOfPair r begun write → (r begun).ok ≤ write
given_newest r u begun write (By_one a b l m y e x g s) =
    let p = once r u a b m y e in
    let same : p.0 ≡ x = one_value p.0 x (given_once r a b) p.1 g in
    let new = (stood_newest r u x a b (subst (λ (z : Stored). Stood r z a b) same p.2) begun b l (omega arith)).0 in
    subst (λ (n : ℕ). (r begun).ok ≤ n) s new
given_newest r u begun write (By_two a b c d l m n o x g s) =
    let new = (stood_newest r u x a d (twice r u a b c d m n o x g) begun d l (omega arith)).0 in
    subst (λ (k : ℕ). (r begun).ok ≤ k) s new

pub show_newest : PairsShowNewest
show_newest h i r k e a reads shows wrote ok late =
    let told = i.ok k e a wrote ok in
    let grown = (run_grows (i.run k) (i.runs k) (a + a) (r + r) (omega (arith, late))).ok in
    let new = given_newest (i.run k) (i.runs k) (r + r) (h.shown r k) (i.gives r k e reads shows wrote) in
    omega (arith, told, grown, new)
