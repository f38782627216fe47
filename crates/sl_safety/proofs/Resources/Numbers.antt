-- The number of a ballot is of its host's remainder.
use Rattle.sl_ballot_law.specs.Residues.{host_by_remainder}
use Rattle.sl_trace.specs.Ballots.{in_instance, number_above, phase1_block}
use Rattle.sl_sector.specs.declared.sector.Block.{Block}
use Rattle.sl_sector.specs.declared.sector.Owner.{Owner}
use Rattle.sl_words.specs.Words.{greatest}
use Rattle.std.proofs.Common.{ap, arith, inl, inr, subst, sym, ◌∙◌}
use Rattle.std.proofs.lemmas.Bool.Decides.{nat_tests}
use Rattle.std.proofs.lemmas.Bool.{cases_lt}
use Rattle.std.proofs.lemmas.Nat.{mod-mul-add}
use Rattle.std.specs.Prelude.{Bool, List, false, if◌then◌else◌, map, nat_lt, true, ℕ, ◌%◌, ◌*◌, ◌+◌, ◌-◌, ◌/◌, ◌<◌, ◌==◌, ◌∷◌, ◌≡◌, ◌≤◌}

last : (n r : ℕ) → r ≡ 0 → (if r == 0 then n else r) ≡ n
last n r e = grind (arith, nat_tests)

other : (n k r : ℕ) → r ≡ k → 0 < k → (if r == 0 then n else r) ≡ k
other n k r e l = grind (arith, nat_tests)

turned : (n id q : ℕ) → id + n * q ≡ q * n + id
turned n id q = grind arith

whole : (n id q : ℕ) → id ≡ n → id + n * q ≡ (q + 1) * n + 0
whole n id q h = subst (λ k. k + n * q ≡ (q + 1) * n + 0) (sym h) (grind arith)

host_of_sum : (n id q : ℕ) → 0 < id → id ≤ n → host_by_remainder n (id + n * q) ≡ id
host_of_sum n id q pos le =
    elim (cases_lt id n) as (λ z. host_by_remainder n (id + n * q) ≡ id) [
      | inl lt ↦ other n id ((id + n * q) % n) (ap (λ k. k % n) (turned n id q) ∙ mod-mul-add q n id lt) pos
      | inr ge ↦
          let same : id ≡ n = omega (arith, ge, le) in
          last n ((id + n * q) % n) (ap (λ k. k % n) (whole n id q same) ∙ mod-mul-add (q + 1) n 0 (omega (arith, pos, le))) ∙ sym same
    ]

none_more : (n id : ℕ) → id + n * 0 ≡ id
none_more n id = omega arith

above_by : (n id top : ℕ) (b : Bool) → 0 < id → id ≤ n → host_by_remainder n (if b then id else id + n * ((top - id) / n + 1)) ≡ id
above_by n id top true pos le = ap (λ k. host_by_remainder n k) (sym (none_more n id)) ∙ host_of_sum n id 0 pos le
above_by n id top false pos le = host_of_sum n id ((top - id) / n + 1) pos le

-- A host's number above another is the host's.
pub number_of_host : (n id top : ℕ) → 0 < id → id ≤ n → host_by_remainder n (number_above n id top) ≡ id
number_of_host n id top pos le = above_by n id top (nat_lt top id) pos le

-- So is the number of a phase 1.
pub phase1_of_host : (self : Owner) (hosts n : ℕ) (shared : Bool) (gen : ℕ) (own : Block) (seen : List Block) → 0 < self.id → self.id ≤ hosts
    → host_by_remainder hosts (phase1_block self hosts n shared gen own seen).mbal ≡ self.id
unfolding phase1_block
phase1_of_host self hosts n shared gen own seen pos le =
    number_of_host hosts self.id (greatest (map (λ (b : Block). b.mbal) (in_instance n (own ∷ seen)))) pos le
