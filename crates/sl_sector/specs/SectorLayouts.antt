-- Which bytes spell which record. A sector begins with the magic and the record's number, then come the fields, then zeros, and the
-- last 32 bytes are the digest of all the others. Bytes that spell no record are torn.
use Rattle.sl_sector.specs.declared.sector.Bad.TheVariants.{BadCheck, BadField, BadKind, BadMagic, BadPad}
use Rattle.sl_sector.specs.declared.sector.Bad.{Bad}
use Rattle.sl_sector.specs.declared.sector.Block.{Block}
use Rattle.sl_sector.specs.declared.sector.DeltaRec.{DeltaRec}
use Rattle.sl_sector.specs.declared.sector.Leader.{Leader}
use Rattle.sl_sector.specs.declared.sector.PairBlock.{PairBlock}
use Rattle.sl_sector.specs.declared.sector.Rec.TheVariants.{BlockIs, DeltaIs, LeaderIs, PairIs, PairLeaderIs, RequestIs, ValueIs}
use Rattle.sl_sector.specs.declared.sector.Rec.{Rec}
use Rattle.sl_sector.specs.declared.sector.Request.{Request}
use Rattle.sl_sector.specs.declared.sector.ValueRec.{ValueRec}
use Rattle.sl_text.specs.Names.{padded_text}
use Rattle.sl_words.specs.Bounds.{is_number, moments}
use Rattle.sl_words.specs.Results.{ensure, ◌>>=◌}
use Rattle.sl_words.specs.Words.{all_zero, choose, same_truth}
use Rattle.std.specs.Int.{is_in_range}
use Rattle.std.specs.List.{list_all}
use Rattle.std.specs.Prelude.{Bool, Err, IsTrue, List, None, Ok, Option, Result, Some, bytes_eq, drop, false, length, nat_le, nat_lt, not, position, take, true, unwrap_or, [], ℕ, ◌%◌, ◌&&◌, ◌++◌, ◌+◌, ◌-◌, ◌==◌, ◌||◌, ◌↔◌, ◌∷◌, ◌≡◌, ◌≤◌}
pub use Rattle.sl_sector.specs.FieldBytes.{delta_code, delta_state, flag, is_absent_name, is_host_field, is_name_field, name_at, name_bytes, name_field}
unfoldable pub use Rattle.sl_sector.specs.FieldBytes.{u32_at, u32_bytes, u64_at, u64_bytes}
pub use Rattle.sl_sector.specs.Records.{AreBytes, Fits, IsBlock, IsDelta, IsLeader, IsPair, IsRecord, IsRequest, IsValue}

-- ---- the bytes of a record

-- The four bytes with which each sector begins.
unfoldable pub magic : List ℕ
magic = 0x53 ∷ 0x4c ∷ 0x4b ∷ 0x31 ∷ []

-- The magic, a record's number, and the fields of a leader.
abbrev pub leader_fields : ℕ → Leader → List ℕ
leader_fields kind l =
    magic ++ u32_bytes kind ++ u32_bytes (flag l.held) ++ u32_bytes l.num_hosts ++ u64_bytes l.lver ++ u64_bytes l.generation
    ++ u32_bytes l.owner ++ name_bytes l.lockspace ++ name_bytes l.resource

-- The magic, a record's number, and the fields of a block.
abbrev pub block_fields : ℕ → Block → List ℕ
block_fields kind b =
    magic ++ u32_bytes kind ++ u32_bytes b.host ++ u32_bytes (flag b.shared) ++ u64_bytes b.lver ++ u64_bytes b.mbal
    ++ u64_bytes b.bal ++ u64_bytes b.inp_gen ++ u64_bytes b.mode_gen ++ u32_bytes b.inp

-- The magic, the record's number, and its fields.
unfoldable pub field_bytes : Rec → List ℕ
field_bytes (DeltaIs d) =
    magic ++ u32_bytes 1 ++ u32_bytes (delta_code d.state) ++ u32_bytes d.id ++ u64_bytes d.generation ++ u64_bytes d.seq
    ++ u64_bytes d.stamp ++ name_bytes d.lockspace ++ name_bytes (unwrap_or d.host []) ++ d.bitmap
field_bytes (LeaderIs l) = leader_fields 2 l
field_bytes (BlockIs b) = block_fields 3 b
field_bytes (RequestIs r) = magic ++ u32_bytes 4 ++ u32_bytes r.force ++ u32_bytes r.host ++ u64_bytes r.lver
field_bytes (ValueIs v) =
    magic ++ u32_bytes 5 ++ u32_bytes (length v.bytes) ++ u32_bytes v.host ++ u64_bytes v.lver ++ u64_bytes v.seq ++ v.bytes
field_bytes (PairIs p) = block_fields 6 p.block ++ u64_bytes p.turn ++ name_bytes p.lockspace ++ name_bytes p.resource
field_bytes (PairLeaderIs l) = leader_fields 7 l

-- Where the fields end.
abbrev pub fields_end : Rec → ℕ
fields_end (DeltaIs d) = 386
fields_end (LeaderIs l) = 132
fields_end (BlockIs b) = 60
fields_end (RequestIs r) = 24
fields_end (ValueIs v) = 32 + length v.bytes
fields_end (PairIs p) = 164
fields_end (PairLeaderIs l) = 132

-- All but the check: the fields, and zeros up to 32 bytes before the end.
unfoldable pub checked_part : ℕ → Rec → List ℕ
checked_part size r = padded_text (size - 32) (field_bytes r)

-- The sector of this size that spells a record, with this digest at its end.
unfoldable pub spelling : (List ℕ → List ℕ) → ℕ → Rec → List ℕ
spelling digest size r = checked_part size r ++ digest (checked_part size r)

-- These bytes spell this record.
abbrev pub Spells : (List ℕ → List ℕ) → List ℕ → Rec → Type 0
Spells digest bs r = IsRecord r × (bs ≡ spelling digest (length bs) r)

-- Bytes that spell nothing.
abbrev pub IsTorn : (List ℕ → List ℕ) → List ℕ → Type 0
IsTorn digest bs = (r : Rec) → Spells digest bs r → ⊥

-- What is asked of a digest: 32 bytes. Safety asks nothing more of it.
pub record IsDigest (digest : List ℕ → List ℕ) : Type 0 where
  pub long : (bytes : List ℕ) → length (digest bytes) ≡ 32
  pub bytes : (text : List ℕ) → IsTrue (list_all (λ b. nat_lt b 256) (digest text))

-- How many bytes a sector may have.
abbrev pub IsSectorSize : ℕ → Type 0
IsSectorSize n = (512 ≤ n) × (n ≤ 4096)

-- ---- the rules of the fields, over a sector's bytes: each with the offset of its field, in rising order. A rule speaks of its own
-- field, and of fields before it.

-- The rules of a delta record's fields.
unfoldable pub delta_rules : List ℕ → List (ℕ × Bool)
delta_rules bs =
    let unused : Bool = u64_at bs 16 == 0 in
    (8, nat_le (u32_at bs 8) 2)
    ∷ (12, is_in_range 1 2000 (u32_at bs 12))
    ∷ (16, is_number (u64_at bs 16) && (not unused || u32_at bs 8 == 0))
    ∷ (24, is_number (u64_at bs 24) && (not unused || u64_at bs 24 == 0))
    ∷ (32, nat_lt (u64_at bs 32) moments && (not unused || u64_at bs 32 == 0))
    ∷ (40, is_name_field bs 40)
    ∷ (88, is_host_field unused bs 88)
    ∷ (136, not unused || all_zero (take 250 (drop 136 bs))) ∷ []

-- The rules of a leader's fields.
unfoldable pub leader_rules : List ℕ → List (ℕ × Bool)
leader_rules bs =
    let unused : Bool = u64_at bs 16 == 0 in
    (8, nat_le (u32_at bs 8) 1)
    ∷ (12, is_in_range 1 2000 (u32_at bs 12))
    ∷ (16, is_number (u64_at bs 16) && (not unused || u32_at bs 8 == 0))
    ∷ (24, is_number (u64_at bs 24) && same_truth unused (u64_at bs 24 == 0))
    ∷ (32, nat_le (u32_at bs 32) (u32_at bs 12) && same_truth unused (u32_at bs 32 == 0))
    ∷ (36, is_name_field bs 36)
    ∷ (84, is_name_field bs 84) ∷ []

-- The rules of a block's fields.
unfoldable pub block_rules : List ℕ → List (ℕ × Bool)
block_rules bs =
    let unused : Bool = u64_at bs 16 == 0 in
    let no_value : Bool = u64_at bs 32 == 0 in
    (8, is_in_range 1 2000 (u32_at bs 8))
    ∷ (12, nat_le (u32_at bs 12) 1)
    ∷ (16, is_number (u64_at bs 16) && (not unused || u32_at bs 12 == 0))
    ∷ (24, is_number (u64_at bs 24) && (not unused || u64_at bs 24 == 0))
    ∷ (32, nat_le (u64_at bs 32) (u64_at bs 24))
    ∷ (40, is_number (u64_at bs 40) && same_truth no_value (u64_at bs 40 == 0))
    ∷ (48, is_number (u64_at bs 48) && same_truth (u32_at bs 12 == 0) (u64_at bs 48 == 0))
    ∷ (56, nat_le (u32_at bs 56) 2000 && same_truth no_value (u32_at bs 56 == 0)) ∷ []

-- The rules of a request's fields.
unfoldable pub request_rules : List ℕ → List (ℕ × Bool)
request_rules bs =
    (8, nat_le (u32_at bs 8) 2)
    ∷ (12, nat_le (u32_at bs 12) 2000)
    ∷ (16, is_number (u64_at bs 16) && same_truth (u32_at bs 8 == 0) (u64_at bs 16 == 0)) ∷ []

-- The rules of a value's fields.
unfoldable pub value_rules : List ℕ → List (ℕ × Bool)
value_rules bs =
    (8, nat_le (u32_at bs 8) 256)
    ∷ (12, nat_le (u32_at bs 12) 2000)
    ∷ (16, is_number (u64_at bs 16))
    ∷ (24, is_number (u64_at bs 24)) ∷ []

-- The rules of the fields that a pair's block has behind a block's: its turn and its names.
unfoldable pub own_rules : List ℕ → List (ℕ × Bool)
own_rules bs =
    (60, is_number (u64_at bs 60) && not (u64_at bs 60 == 0))
    ∷ (68, is_name_field bs 68)
    ∷ (116, is_name_field bs 116) ∷ []

-- The rules of a pair block's fields: a block's, and these.
abbrev pub pair_rules : List ℕ → List (ℕ × Bool)
pair_rules bs = block_rules bs ++ own_rules bs

-- ---- the records that a sector's fields give; each is meant only where no rule fails

-- The delta record. A record that was never claimed names no host.
abbrev pub delta_of : List ℕ → DeltaRec
delta_of bs = record {
  state = delta_state (u32_at bs 8);
  id = u32_at bs 12;
  generation = u64_at bs 16;
  seq = u64_at bs 24;
  stamp = u64_at bs 32;
  lockspace = name_at bs 40;
  host = choose (not (u64_at bs 16 == 0)) (name_at bs 88);
  bitmap = take 250 (drop 136 bs);
}

-- The leader.
abbrev pub leader_of : List ℕ → Leader
leader_of bs = record {
  held = u32_at bs 8 == 1;
  num_hosts = u32_at bs 12;
  lver = u64_at bs 16;
  generation = u64_at bs 24;
  owner = u32_at bs 32;
  lockspace = name_at bs 36;
  resource = name_at bs 84;
}

-- The block.
abbrev pub block_of : List ℕ → Block
block_of bs = record {
  host = u32_at bs 8;
  shared = u32_at bs 12 == 1;
  lver = u64_at bs 16;
  mbal = u64_at bs 24;
  bal = u64_at bs 32;
  inp_gen = u64_at bs 40;
  mode_gen = u64_at bs 48;
  inp = u32_at bs 56;
}

-- The request.
abbrev pub request_of : List ℕ → Request
request_of bs = record { force = u32_at bs 8; host = u32_at bs 12; lver = u64_at bs 16 }

-- The value: as many bytes as its length says.
abbrev pub value_of : List ℕ → ValueRec
value_of bs = record { host = u32_at bs 12; lver = u64_at bs 16; seq = u64_at bs 24; bytes = take (u32_at bs 8) (drop 32 bs) }

-- The block of a pair: a block, and its own fields.
abbrev pub pair_with : List ℕ → Block → PairBlock
pair_with bs b = record { block = b; turn = u64_at bs 60; lockspace = name_at bs 68; resource = name_at bs 116 }

abbrev pub pair_of : List ℕ → PairBlock
pair_of bs = pair_with bs (block_of bs)

-- ---- reading a sector: the first test that fails, or the record

-- The value where each rule holds, else the first field whose rule fails.
abbrev pub under_rules : {A : Type 0} → List (ℕ × Bool) → A → Result A Bad
under_rules [] a = Ok a
under_rules (rule ∷ rules) a = ensure rule.1 (BadField rule.0) >>= λ _. under_rules rules a

-- What was read of one kind, as one of the seven.
abbrev pub as_record : {A : Type 0} → (A → Rec) → Result A Bad → Result Rec Bad
as_record wrap (Ok a) = Ok (wrap a)
as_record wrap (Err bad) = Err bad

-- The record of this kind, or its first field whose rule fails.
unfoldable pub fields_of : ℕ → List ℕ → Result Rec Bad
fields_of kind bs =
    elim (kind == 1) [
      | true ↦ as_record DeltaIs (under_rules (delta_rules bs) (delta_of bs))
      | false ↦
          elim (kind == 2) [
            | true ↦ as_record LeaderIs (under_rules (leader_rules bs) (leader_of bs))
            | false ↦
                elim (kind == 3) [
                  | true ↦ as_record BlockIs (under_rules (block_rules bs) (block_of bs))
                  | false ↦
                      elim (kind == 4) [
                        | true ↦ as_record RequestIs (under_rules (request_rules bs) (request_of bs))
                        | false ↦
                            elim (kind == 5) [
                              | true ↦ as_record ValueIs (under_rules (value_rules bs) (value_of bs))
                              | false ↦
                                  elim (kind == 6) [
                                    | true ↦ as_record PairIs (under_rules (pair_rules bs) (pair_of bs))
                                    | false ↦
                                        elim (kind == 7) [
                                          | true ↦ as_record PairLeaderIs (under_rules (leader_rules bs) (leader_of bs))
                                          | false ↦ Err BadKind
                                        ]
                                  ]
                            ]
                      ]
                ]
          ]
    ]

-- Nothing where each byte from this offset on is zero, else the first that isn't.
abbrev pub padding_from : ℕ → List ℕ → Result (Unit {0}) Bad
padding_from at bs = elim (position (λ b. not (b == 0)) (drop at bs)) [ None ↦ Ok tt | Some k ↦ Err (BadPad (at + k)) ]

-- All of a sector but its last 32 bytes, and these.
abbrev pub body_of : List ℕ → List ℕ
body_of bs = take (length bs - 32) bs

-- The last 32 bytes of a sector.
abbrev pub check_of : List ℕ → List ℕ
check_of bs = drop (length bs - 32) bs

-- The record that the bytes spell, or the first test that fails: magic, kind, fields, padding, check.
unfoldable pub decoded : (List ℕ → List ℕ) → List ℕ → Result Rec Bad
decoded digest bs = do
  _ ← ensure (bytes_eq (take 4 bs) magic) BadMagic
  r ← fields_of (u32_at bs 4) bs
  _ ← padding_from (fields_end r) (body_of bs)
  _ ← ensure (bytes_eq (check_of bs) (digest (body_of bs))) BadCheck
  Ok r

-- What reading owes: a record exactly where the bytes spell it.
abbrev pub ReadsExactly : (List ℕ → List ℕ) → Type 0
ReadsExactly digest = (n : ℕ) (bs : List ℕ) (r : Rec) → IsSectorSize n → AreBytes n bs → (decoded digest bs ≡ Ok r) ↔ Spells digest bs r

-- ---- a sector at its place

-- A delta record; another kind counts as torn.
abbrev pub delta_in : Result Rec Bad → Option DeltaRec
delta_in (Ok (DeltaIs d)) = Some d
delta_in r = None

-- A leader; another kind counts as torn.
abbrev pub leader_in : Result Rec Bad → Option Leader
leader_in (Ok (LeaderIs l)) = Some l
leader_in r = None

-- That host's block; another kind, or another host's, counts as torn.
abbrev pub block_in : ℕ → Result Rec Bad → Option Block
block_in host (Ok (BlockIs b)) = choose (b.host == host) b
block_in host r = None

-- A request; another kind counts as torn.
abbrev pub request_in : Result Rec Bad → Option Request
request_in (Ok (RequestIs r)) = Some r
request_in r = None

-- A value; another kind counts as torn.
abbrev pub value_in : Result Rec Bad → Option ValueRec
value_in (Ok (ValueIs v)) = Some v
value_in r = None

-- Whether a turn stands in the first sector of a pair.
abbrev pub is_first_turn : ℕ → Bool
is_first_turn turn = turn % 2 == 1

-- That host's block in the first or the second sector of its pair; another kind, another host's, or a turn of the other sector counts
-- as torn.
abbrev pub pair_in : ℕ → Bool → Result Rec Bad → Option PairBlock
pair_in host first (Ok (PairIs p)) = choose (p.block.host == host && same_truth (is_first_turn p.turn) first) p
pair_in host first r = None

-- The leader of an area with pairs; another kind counts as torn.
abbrev pub pair_leader_in : Result Rec Bad → Option Leader
pair_leader_in (Ok (PairLeaderIs l)) = Some l
pair_leader_in r = None
