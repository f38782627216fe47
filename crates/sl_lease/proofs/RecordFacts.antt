-- What a lease writes are records.
use Rattle.sl_ballot.proofs.RecordLaws.{blocks_are_records}
use Rattle.sl_ballot.proofs.RiseLaws.{numbers_rise}
use Rattle.sl_ballot.specs.Laws.{IsMode, IsOwner}
use Rattle.sl_ballot.specs.Limits.{limited, limited_block}
use Rattle.sl_trace.specs.Ballots.{ballot_blocks, counted_lver, instance_of, is_counted_free, known_block, moded_block, owner_of, phase1_block, phase2_block, same_owner, whole_blocks, with_own}
use Rattle.sl_trace.specs.declared.lease.Instance.TheVariants.{Begins, HeldAlready}
use Rattle.sl_trace.specs.declared.lease.Instance.{Instance}
use Rattle.sl_area.specs.AreaSizes.{IsGeometry, Sizes}
use Rattle.sl_lease.specs.Bounds.{IsBegun, IsSession}
use Rattle.sl_sector.specs.Records.{Fits, IsBlock, IsLeader}
use Rattle.sl_sector.specs.declared.sector.Block.{Block}
use Rattle.sl_sector.specs.declared.sector.Leader.{Leader}
use Rattle.sl_sector.specs.declared.sector.Owner.{Owner}
use Rattle.sl_words.specs.Bounds.{is_number, most_hosts}
use Rattle.std.proofs.Common.{All, Bool, IfOk, IfSome, List, None, Option, Some, [], ap, arith, cond, false, nat_lt, not, refl, suc, subst, sym, true, unwrap_or, zero, ◌*◌, ◌+◌, ◌==◌, ◌||◌, ◌∷◌, ◌≡◌, ◌≤◌, ℕ}
use Rattle.std.proofs.lemmas.Bool.Decides.{nat_tests}
use Rattle.std.proofs.lemmas.List.Elements.{All-cons, All-head, All-nil, All-tail}
use Rattle.std.specs.List.{cons_option}

-- ---- sessions and modes

-- A run has at most the most hosts.
pub hosts_few : (z : Sizes) → IsGeometry z → z.hosts ≤ most_hosts
hosts_few z g = grind (arith, nat_tests, g)

pub is_owner : (z : Sizes) (o : Owner) → IsSession z o → z.hosts ≤ most_hosts → IsOwner o
is_owner z o s most = (s.id.0, omega (arith, s.id.1, most), s.generation.0, s.generation.1)

-- The mode that a session's blocks have.
pub is_mode : (z : Sizes) (o : Owner) (shared : Bool) → IsSession z o → IsMode shared (cond shared o.generation 0)
is_mode z o true s = (((λ e. absurd cc), (λ e. absurd (let none : o.generation ≡ 0 = e in omega (arith, s.generation.0)))), s.generation.1)
is_mode z o false s = (((λ e. refl), (λ e. refl)), omega arith)

-- ---- the blocks of a ballot

all_with : (o : Option Block) (bs : List Block) → IfSome o IsBlock → All IsBlock bs → All IsBlock (cons_option o bs)
all_with None bs is all = all
all_with (Some b) bs is all = All-cons IsBlock b bs is all

known_if : (t : Bool) (own : Block) (seen : Option Block) → IsBlock own → IfSome seen IsBlock → IfSome (cond t (Some (unwrap_or seen own)) seen) IsBlock
known_if true own None is seen = is
known_if true own (Some b) is seen = seen
known_if false own seen is h = h

all_from : (own : Block) (host : ℕ) (read : List (Option Block)) → IsBlock own → All (λ o. IfSome o IsBlock) read → All IsBlock (whole_blocks (with_own own host read))
all_from own host [] is all = All-nil IsBlock
all_from own host (b ∷ bs) is all =
    all_with (known_block own b host) (whole_blocks (with_own own (host + 1) bs))
    (known_if (host == own.host) own b is (All-head (λ o. IfSome o IsBlock) b bs all))
    (all_from own (host + 1) bs is (All-tail (λ o. IfSome o IsBlock) b bs all))

-- ---- the blocks of the phases

phase2_parts : (self : Owner) (own : Block) (blocks : List Block) → ((phase2_block self own blocks).lver ≡ own.lver) × ((phase2_block self own blocks).mbal ≡ own.mbal)
unfolding phase2_block
phase2_parts self own blocks = (refl, refl)

-- The block of phase 2, with a mode.
pub phase2_begun : (z : Sizes) (self : Owner) (own : Block) (read : List (Option Block)) (shared : Bool) (b : Block) → IsSession z self → z.hosts ≤ most_hosts → IsBegun own
    → All (λ o. IfSome o IsBlock) read → b ≡ moded_block (phase2_block self own (ballot_blocks own read)) shared (cond shared self.generation 0) → IsBegun b
phase2_begun z self own read shared b s most is all e =
    let blocks : List Block = ballot_blocks own read in
    let two : IsBlock (phase2_block self own blocks) = blocks_are_records.phase2 self own blocks (is_owner z self s most) is.block is.begun.0 is.begun.1 (all_from own 1 read is.block all) in
    let one : 1 ≤ (phase2_block self own blocks).lver = subst (λ n. 1 ≤ n) (sym (phase2_parts self own blocks).0) is.begun.0 in
    subst IsBegun (sym e) (record {
      block = blocks_are_records.moded (phase2_block self own blocks) shared (cond shared self.generation 0) two one (is_mode z self shared s);
      begun = (one, subst (λ n. 1 ≤ n) (sym (phase2_parts self own blocks).1) is.begun.1);
    })

phase1_lver : (self : Owner) (hosts n : ℕ) (shared : Bool) (mode_gen : ℕ) (own : Block) (seen : List Block) → (phase1_block self hosts n shared mode_gen own seen).lver ≡ n
unfolding phase1_block
phase1_lver self hosts n shared mode_gen own seen = refl

limited_if : (b : Block) (t : Bool) → is_number b.mbal ≡ t → (Fits b.mbal → IsBegun b) → IfOk (limited_block b) IsBegun
limited_if b true e is = subst (λ t. IfOk (limited t b) IsBegun) (sym e) (is (grind (arith, nat_tests, e)))
limited_if b false e is = subst (λ t. IfOk (limited t b) IsBegun) (sym e) tt

-- The block of phase 1.
pub phase1_begun : (z : Sizes) (self : Owner) (n : ℕ) (shared : Bool) (own : Block) (seen : List Block) → IsSession z self → z.hosts ≤ most_hosts → 1 ≤ n → Fits n → IsBlock own
    → IfOk (limited_block (phase1_block self z.hosts n shared (cond shared self.generation 0) own seen)) IsBegun
phase1_begun z self n shared own seen s most one fits is =
    let b : Block = phase1_block self z.hosts n shared (cond shared self.generation 0) own seen in
    let number : (k : ℕ) × (b.mbal ≡ self.id + z.hosts * k) = numbers_rise.own_number self z.hosts n shared (cond shared self.generation 0) own seen s.id.0 s.id.1 in
    limited_if b (is_number b.mbal) refl (λ small. record {
      block = blocks_are_records.phase1 self z.hosts n shared (cond shared self.generation 0) own seen s.id.0 s.id.1 most one fits (is_mode z self shared s) is small;
      begun = (subst (λ m. 1 ≤ m) (sym (phase1_lver self z.hosts n shared (cond shared self.generation 0) own seen)) one, omega (arith, number.1, s.id.0));
    })

-- ---- instances

abbrev instance_in : Instance → ℕ
instance_in (Begins n) = n
instance_in (HeldAlready lver owner) = 1

least_of : (a b d : Bool) (c top n held : ℕ) (o : Owner) → (a ≡ true → 1 ≤ top) → (b ≡ false → 1 ≤ c)
    → cond a (Begins top) (cond b (Begins (c + 1)) (cond d (Begins c) (HeldAlready held o))) ≡ Begins n → 1 ≤ n
least_of true b d c top n held o above free e = let same : top ≡ n = ap instance_in e in omega (arith, same, above refl)
least_of false true d c top n held o above free e = let same : c + 1 ≡ n = ap instance_in e in omega (arith, same)
least_of false false true c top n held o above free e = let same : c ≡ n = ap instance_in e in omega (arith, same, free refl)
least_of false false false c top n held o above free e = let same : 1 ≡ n = ap instance_in e in omega (arith, same)

held_if : (held rest over : Bool) → (not held || rest || over) ≡ false → held ≡ true
held_if true rest over e = refl
held_if false rest over e = absurd cc

-- A held leader is of an instance.
not_zero : (n : ℕ) → (n ≡ 0 → ⊥) → 1 ≤ n
not_zero zero h = absurd (h refl)
not_zero (suc n) h = omega arith

true_false : (b : Bool) → b ≡ true → b ≡ false → ⊥
true_false b t f = absurd cc

counted_least : (l : Leader) (freed : ℕ) → IsLeader l → l.held ≡ true → 1 ≤ counted_lver l freed
counted_least l freed is held = let one : 1 ≤ l.lver = not_zero l.lver (λ e. true_false l.held held (is.unused e)) in omega (arith, one)

-- The instance that begins.
pub instance_least : (over : Bool) (self : Owner) (l : Leader) (freed top n : ℕ) → IsLeader l → instance_of over self l freed top ≡ Begins n → 1 ≤ n
unfolding instance_of
instance_least over self l freed top n is e =
    least_of (nat_lt (counted_lver l freed) top) (is_counted_free l freed || over) (same_owner (owner_of l) self) (counted_lver l freed) top n l.lver (owner_of l)
    (λ t. grind (arith, nat_tests, t)) (λ f. counted_least l freed is (held_if l.held _ over f)) e
