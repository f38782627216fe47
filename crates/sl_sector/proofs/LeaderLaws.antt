-- The leader: what is read of it is spelled so, and what is spelled so is read.
use Rattle.sl_sector.proofs.ByteLaws.{IsBytes}
use Rattle.sl_sector.proofs.FieldLaws.{Begins, length-magic, length-name_bytes, length-u32_bytes, length-u64_bytes, name_before, take-name, take-u32, take-u64, u32_before, u64_before}
use Rattle.sl_sector.proofs.RuleLaws.{Hold, fits_32, fits_64, flag_below, flag_fits, flag_is_zero, flag_zero, under_held_rules, both_zero, both_zero_test, in_range, in_range_test, number, unless_zero, unless_zero_test, flag_of_code, code_of_flag}
use Rattle.sl_sector.specs.FieldBytes.{flag, u32_at, u64_at}
use Rattle.sl_sector.specs.Records.{IsLeader}
use Rattle.sl_sector.specs.SectorLayouts.{as_record, field_bytes, fields_of, leader_fields, leader_of, leader_rules, magic, under_rules}
use Rattle.sl_sector.specs.declared.sector.Leader.{Leader}
use Rattle.sl_sector.specs.declared.sector.Rec.TheVariants.{LeaderIs, PairLeaderIs}
use Rattle.sl_words.proofs.WordLaws.{and_true}
use Rattle.sl_words.specs.Bounds.{record_numbers}
use Rattle.std.proofs.Common.{List, Ok, ap, arith, eqb, length, length-append, refl, take, ℕ, ◌<◌, ◌^◌, ◌≡◌, ◌≤◌, ◌∙◌}
use Rattle.std.proofs.lemmas.Bool.{and_from, eqb-true, le-leb, leb-true, lt-ltb}

-- The rules of the fields are those of the record.
pub leader_fits : (bs : List ℕ) → Hold (leader_rules bs) → IsLeader (leader_of bs)
unfolding leader_rules
leader_fits bs (state, (hosts, (lver, (generation, (owner, (lockspace, (resource, _))))))) =
    let lver_parts = and_true _ _ lver in
    let generation_parts = and_true _ _ generation in
    let owner_parts = and_true _ _ owner in
    record {
      hosts = in_range 1 2000 (u32_at bs 12) hosts;
      lver = number (u64_at bs 16) lver_parts.0;
      generation = number (u64_at bs 24) generation_parts.0;
      owner = leb-true (u32_at bs 32) (u32_at bs 12) owner_parts.0;
      lockspace = (and_true _ _ lockspace).1;
      resource = (and_true _ _ resource).1;
      same = (both_zero (u64_at bs 16) (u64_at bs 24) generation_parts.1, both_zero (u64_at bs 16) (u32_at bs 32) owner_parts.1);
      unused = (λ e. flag_zero _ (eqb-true _ _ (unless_zero _ _ lver_parts.1 e)));
    }

-- What the fields give is spelled by the bytes, whichever record has them.
leader_fields_text : (k : ℕ) (bs : List ℕ) → IsBytes bs → 512 ≤ length bs → take 4 bs ≡ magic → u32_at bs 4 ≡ k → Hold (leader_rules bs)
    → take 132 bs ≡ leader_fields k (leader_of bs)
unfolding leader_rules
leader_fields_text k bs fits long begins kind (state, (hosts, (lver, (generation, (owner, (lockspace, (resource, _))))))) =
    rw (
      take-name bs 84 (omega arith) resource,
      take-name bs 36 (omega arith) lockspace,
      take-u32 bs 32 fits (omega arith),
      take-u64 bs 24 fits (omega arith),
      take-u64 bs 16 fits (omega arith),
      take-u32 bs 12 fits (omega arith),
      take-u32 bs 8 fits (omega arith),
      take-u32 bs 4 fits (omega arith),
      begins,
      kind,
      flag_of_code (u32_at bs 8) (leb-true (u32_at bs 8) 1 state),
    ) refl

pub leader_text : (bs : List ℕ) → IsBytes bs → 512 ≤ length bs → take 4 bs ≡ magic → u32_at bs 4 ≡ 2 → Hold (leader_rules bs)
    → take 132 bs ≡ field_bytes (LeaderIs (leader_of bs))
unfolding field_bytes
leader_text bs fits long begins kind holds = leader_fields_text 2 bs fits long begins kind holds

pub pair_leader_text : (bs : List ℕ) → IsBytes bs → 512 ≤ length bs → take 4 bs ≡ magic → u32_at bs 4 ≡ 7 → Hold (leader_rules bs)
    → take 132 bs ≡ field_bytes (PairLeaderIs (leader_of bs))
unfolding field_bytes
pair_leader_text bs fits long begins kind holds = leader_fields_text 7 bs fits long begins kind holds

-- How long the text is.
length-leader_fields : (k : ℕ) (l : Leader) → IsLeader l → length (leader_fields k l) ≡ 132
length-leader_fields k l is = simp (length-append, length-u32_bytes, length-u64_bytes, length-magic, length-name_bytes l.lockspace is.lockspace, length-name_bytes l.resource is.resource)

pub length-leader : (l : Leader) → IsLeader l → length (field_bytes (LeaderIs l)) ≡ 132
unfolding field_bytes
length-leader l is = length-leader_fields 2 l is

pub length-pair_leader : (l : Leader) → IsLeader l → length (field_bytes (PairLeaderIs l)) ≡ 132
unfolding field_bytes
length-pair_leader l is = length-leader_fields 7 l is

-- Number 2 is the leader, and number 7 that of an area with pairs.
of_kind : (bs : List ℕ) → fields_of 2 bs ≡ as_record LeaderIs (under_rules (leader_rules bs) (leader_of bs))
unfolding fields_of
of_kind bs = refl

of_pair_kind : (bs : List ℕ) → fields_of 7 bs ≡ as_record PairLeaderIs (under_rules (leader_rules bs) (leader_of bs))
unfolding fields_of
of_pair_kind bs = refl

-- A record of this number, with a leader's fields, and these are the leader's.
record HasLeader (k : ℕ) (bs : List ℕ) (l : Leader) : Type 0 where
  begins : take 4 bs ≡ magic
  kind : u32_at bs 4 ≡ k
  read : under_rules (leader_rules bs) (leader_of bs) ≡ Ok l

-- A leader's fields are read as that leader.
leader_fields_again : (k : ℕ) (bs : List ℕ) (l : Leader) → k < 2 ^ 32 → IsLeader l → Begins bs (leader_fields k l) 132 → HasLeader k bs l
unfolding leader_rules
leader_fields_again k bs l kind_fits is begins =
    let owner_below : l.owner ≤ 2000 = omega (arith, is.owner, is.hosts.1) in
    let resource = name_before bs _ 84 l.resource is.resource begins in
    let lockspace = name_before bs _ 36 l.lockspace is.lockspace resource.0 in
    let owner = u32_before bs _ 32 l.owner (fits_32 _ owner_below) lockspace.0 in
    let generation = u64_before bs _ 24 l.generation (fits_64 _ is.generation) owner.0 in
    let lver = u64_before bs _ 16 l.lver (fits_64 _ is.lver) generation.0 in
    let hosts = u32_before bs _ 12 l.num_hosts (fits_32 _ is.hosts.1) lver.0 in
    let state = u32_before bs _ 8 (flag l.held) (flag_fits l.held) hosts.0 in
    let kind = u32_before bs _ 4 k kind_fits state.0 in
    let holds : Hold (leader_rules bs) = (
      rw state.1 (le-leb (flag l.held) 1 (flag_below l.held)),
      (
        rw hosts.1 (in_range_test 1 2000 l.num_hosts is.hosts.0 is.hosts.1),
        (
          rw (lver.1, state.1) (and_from _ _ (lt-ltb l.lver record_numbers is.lver) (unless_zero_test l.lver (eqb (flag l.held) 0) (λ e. flag_is_zero _ (is.unused e)))),
          (
            rw (lver.1, generation.1) (and_from _ _ (lt-ltb l.generation record_numbers is.generation) (both_zero_test l.lver l.generation is.same.0)),
            (
              rw (lver.1, owner.1, hosts.1) (and_from _ _ (le-leb l.owner l.num_hosts is.owner) (both_zero_test l.lver l.owner is.same.1)),
              (lockspace.1, (resource.1, tt)),
            ),
          ),
        ),
      ),
    ) in
    let read : leader_of bs ≡ l =
    rw (state.1, hosts.1, lver.1, generation.1, owner.1, lockspace.2, resource.2, code_of_flag l.held) refl in
    record {
      begins = kind.0.front;
      kind = kind.1;
      read = under_held_rules (leader_rules bs) (leader_of bs) holds ∙ ap (λ (x : Leader). Ok x) read;
    }

-- A leader's bytes are read as that leader.
pub leader_again : (bs : List ℕ) (l : Leader) → IsLeader l → Begins bs (field_bytes (LeaderIs l)) 132
    → (take 4 bs ≡ magic) × (fields_of (u32_at bs 4) bs ≡ Ok (LeaderIs l))
unfolding field_bytes
leader_again bs l is begins =
    let has = leader_fields_again 2 bs l (omega arith) is begins in
    (has.begins, ap (λ (k : ℕ). fields_of k bs) has.kind ∙ of_kind bs ∙ ap (as_record LeaderIs) has.read)

pub pair_leader_again : (bs : List ℕ) (l : Leader) → IsLeader l → Begins bs (field_bytes (PairLeaderIs l)) 132
    → (take 4 bs ≡ magic) × (fields_of (u32_at bs 4) bs ≡ Ok (PairLeaderIs l))
unfolding field_bytes
pair_leader_again bs l is begins =
    let has = leader_fields_again 7 bs l (omega arith) is begins in
    (has.begins, ap (λ (k : ℕ). fields_of k bs) has.kind ∙ of_pair_kind bs ∙ ap (as_record PairLeaderIs) has.read)
