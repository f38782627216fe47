-- What a record of a block or of a leader writes, in areas of either kind.
use Rattle.sl_area.specs.AreaSizes.{Layout}
use Rattle.sl_area.specs.AreaRecords.{block_record, leader_record}
use Rattle.sl_sector.specs.declared.sector.Block.{Block}
use Rattle.sl_sector.specs.declared.sector.Leader.{Leader}
use Rattle.sl_sector.specs.declared.sector.PairBlock.{PairBlock}
use Rattle.sl_sector.specs.declared.sector.Rec.TheVariants.{BlockIs, LeaderIs, PairIs, PairLeaderIs}
use Rattle.sl_sector.specs.declared.sector.Rec.{Rec}
use Rattle.sl_sector.specs.Records.{IsBlock, IsLeader, IsPair, IsRecord}
use Rattle.sl_trace.specs.Leases.{block_of_record, block_written, leader_of_record, leader_written, lver_written, turn_of_record, turn_written, value_of_record}
use Rattle.sl_trace.specs.Traces.{Submitted, record_of}
use Rattle.sl_trace.specs.declared.effects.Op.TheVariants.{ReadSectors, WriteRecord}
use Rattle.sl_words.proofs.CaseLaws.{true_is_false}
use Rattle.sl_words.specs.Words.{choose}
use Rattle.std.proofs.Common.{ap, refl, subst, sym, ◌∙◌}
use Rattle.std.specs.Option.{option_map_or}
use Rattle.std.specs.Prelude.{Bool, List, None, Some, false, option_and_then, true, ℕ, ◌≡◌}

-- ---- the records

pub block_recorded : (g : Layout) (turn : ℕ) (lockspace name : List ℕ) (b : Block) → block_of_record (block_record g turn lockspace name b) ≡ Some b
block_recorded g turn lockspace name b = by g.paired where
  by : (paired : Bool) → block_of_record (elim paired as (λ x. Rec) [ false ↦ BlockIs b | true ↦ PairIs (record { block = b; turn = turn; lockspace = lockspace; resource = name }) ]) ≡ Some b
  by false = refl
  by true = refl

pub block_no_leader : (g : Layout) (turn : ℕ) (lockspace name : List ℕ) (b : Block) → leader_of_record (block_record g turn lockspace name b) ≡ None
block_no_leader g turn lockspace name b = by g.paired where
  by : (paired : Bool) → leader_of_record (elim paired as (λ x. Rec) [ false ↦ BlockIs b | true ↦ PairIs (record { block = b; turn = turn; lockspace = lockspace; resource = name }) ]) ≡ None
  by false = refl
  by true = refl

pub block_no_value : (g : Layout) (turn : ℕ) (lockspace name : List ℕ) (b : Block) → value_of_record (block_record g turn lockspace name b) ≡ None
block_no_value g turn lockspace name b = by g.paired where
  by : (paired : Bool) → value_of_record (elim paired as (λ x. Rec) [ false ↦ BlockIs b | true ↦ PairIs (record { block = b; turn = turn; lockspace = lockspace; resource = name }) ]) ≡ None
  by false = refl
  by true = refl

pub turn_recorded : (g : Layout) (turn : ℕ) (lockspace name : List ℕ) (b : Block) → turn_of_record (block_record g turn lockspace name b) ≡ choose g.paired turn
turn_recorded g turn lockspace name b = by g.paired where
  by : (paired : Bool) → turn_of_record (elim paired as (λ x. Rec) [ false ↦ BlockIs b | true ↦ PairIs (record { block = b; turn = turn; lockspace = lockspace; resource = name }) ]) ≡ choose paired turn
  by false = refl
  by true = refl

pub leader_recorded : (g : Layout) (l : Leader) → leader_of_record (leader_record g l) ≡ Some l
leader_recorded g l = by g.paired where
  by : (paired : Bool) → leader_of_record (elim paired as (λ x. Rec) [ false ↦ LeaderIs l | true ↦ PairLeaderIs l ]) ≡ Some l
  by false = refl
  by true = refl

pub leader_no_block : (g : Layout) (l : Leader) → block_of_record (leader_record g l) ≡ None
leader_no_block g l = by g.paired where
  by : (paired : Bool) → block_of_record (elim paired as (λ x. Rec) [ false ↦ LeaderIs l | true ↦ PairLeaderIs l ]) ≡ None
  by false = refl
  by true = refl

pub leader_no_turn : (g : Layout) (l : Leader) → turn_of_record (leader_record g l) ≡ None
leader_no_turn g l = by g.paired where
  by : (paired : Bool) → turn_of_record (elim paired as (λ x. Rec) [ false ↦ LeaderIs l | true ↦ PairLeaderIs l ]) ≡ None
  by false = refl
  by true = refl

pub leader_no_value : (g : Layout) (l : Leader) → value_of_record (leader_record g l) ≡ None
leader_no_value g l = by g.paired where
  by : (paired : Bool) → value_of_record (elim paired as (λ x. Rec) [ false ↦ LeaderIs l | true ↦ PairLeaderIs l ]) ≡ None
  by false = refl
  by true = refl

-- A pair's record names what it was made with.
pub record IsPairOf (turn : ℕ) (lockspace name : List ℕ) (b : Block) (p : PairBlock) : Type 0 where
  pub block : p.block ≡ b
  pub turns : p.turn ≡ turn
  pub lockspaces : p.lockspace ≡ lockspace
  pub names : p.resource ≡ name

abbrev is_pair_record : Rec → Bool
is_pair_record (PairIs p) = true
is_pair_record r = false

abbrev pair_or : PairBlock → Rec → PairBlock
pair_or other (PairIs p) = p
pair_or other r = other

pub pair_recorded : (g : Layout) (turn : ℕ) (lockspace name : List ℕ) (b : Block) (p : PairBlock) → block_record g turn lockspace name b ≡ PairIs p → IsPairOf turn lockspace name b p
pair_recorded g turn lockspace name b p is = by g.paired is where
  by : (paired : Bool) → elim paired as (λ x. Rec) [ false ↦ BlockIs b | true ↦ PairIs (record { block = b; turn = turn; lockspace = lockspace; resource = name }) ] ≡ PairIs p → IsPairOf turn lockspace name b p
  by false same = absurd (true_is_false (sym (ap (λ r. is_pair_record r) same)))
  by true same = subst (IsPairOf turn lockspace name b) (ap (pair_or p) same) (record { block = refl; turns = refl; lockspaces = refl; names = refl })

-- They have a spelling: with pairs a block has one where its turn and names fit, too.
pub block_spelled : (g : Layout) (turn : ℕ) (lockspace name : List ℕ) (b : Block) → IsBlock b
    → (g.paired ≡ true → IsPair (record { block = b; turn = turn; lockspace = lockspace; resource = name })) → IsRecord (block_record g turn lockspace name b)
block_spelled g turn lockspace name b good pair = by g.paired refl where
  by : (paired : Bool) → g.paired ≡ paired → IsRecord (elim paired as (λ x. Rec) [ false ↦ BlockIs b | true ↦ PairIs (record { block = b; turn = turn; lockspace = lockspace; resource = name }) ])
  by false is = good
  by true is = pair is

pub leader_spelled : (g : Layout) (l : Leader) → IsLeader l → IsRecord (leader_record g l)
leader_spelled g l good = by g.paired where
  by : (paired : Bool) → IsRecord (elim paired as (λ x. Rec) [ false ↦ LeaderIs l | true ↦ PairLeaderIs l ])
  by false = good
  by true = good

-- ---- a call that writes one

pub written_block : (g : Layout) (turn : ℕ) (lockspace name : List ℕ) (m : Submitted) (b : Block) → m.call.op ≡ WriteRecord (block_record g turn lockspace name b) → block_written m ≡ Some b
written_block g turn lockspace name m b op = ap (λ o. option_and_then block_of_record (record_of o)) op ∙ block_recorded g turn lockspace name b

pub written_no_leader : (g : Layout) (turn : ℕ) (lockspace name : List ℕ) (m : Submitted) (b : Block) → m.call.op ≡ WriteRecord (block_record g turn lockspace name b) → leader_written m ≡ None
written_no_leader g turn lockspace name m b op = ap (λ o. option_and_then leader_of_record (record_of o)) op ∙ block_no_leader g turn lockspace name b

pub written_turn : (g : Layout) (turn : ℕ) (lockspace name : List ℕ) (m : Submitted) (b : Block) → m.call.op ≡ WriteRecord (block_record g turn lockspace name b) → turn_written m ≡ choose g.paired turn
written_turn g turn lockspace name m b op = ap (λ o. option_and_then turn_of_record (record_of o)) op ∙ turn_recorded g turn lockspace name b

pub written_leader : (g : Layout) (m : Submitted) (l : Leader) → m.call.op ≡ WriteRecord (leader_record g l) → leader_written m ≡ Some l
written_leader g m l op = ap (λ o. option_and_then leader_of_record (record_of o)) op ∙ leader_recorded g l

pub written_no_block : (g : Layout) (m : Submitted) (l : Leader) → m.call.op ≡ WriteRecord (leader_record g l) → block_written m ≡ None
written_no_block g m l op = ap (λ o. option_and_then block_of_record (record_of o)) op ∙ leader_no_block g l

pub written_no_turn : (g : Layout) (m : Submitted) (l : Leader) → m.call.op ≡ WriteRecord (leader_record g l) → turn_written m ≡ None
written_no_turn g m l op = ap (λ o. option_and_then turn_of_record (record_of o)) op ∙ leader_no_turn g l

-- The instance that it writes.
pub block_lver : (g : Layout) (turn : ℕ) (lockspace name : List ℕ) (m : Submitted) (b : Block) → m.call.op ≡ WriteRecord (block_record g turn lockspace name b) → lver_written m ≡ b.lver
block_lver g turn lockspace name m b op =
    ap (λ o. elim o as (λ z. ℕ) [ Some k ↦ k.lver | None ↦ option_map_or (λ (x : Block). x.lver) (block_written m) 0 ]) (written_no_leader g turn lockspace name m b op)
    ∙ ap (λ o. option_map_or (λ (x : Block). x.lver) o 0) (written_block g turn lockspace name m b op)

pub leader_lver : (g : Layout) (m : Submitted) (l : Leader) → m.call.op ≡ WriteRecord (leader_record g l) → lver_written m ≡ l.lver
leader_lver g m l op = ap (λ o. elim o as (λ z. ℕ) [ Some k ↦ k.lver | None ↦ option_map_or (λ (b : Block). b.lver) (block_written m) 0 ]) (written_leader g m l op)

-- A read writes nothing.
pub read_no_block : (m : Submitted) (n : ℕ) → m.call.op ≡ ReadSectors n → block_written m ≡ None
read_no_block m n op = ap (λ o. option_and_then block_of_record (record_of o)) op

pub read_no_leader : (m : Submitted) (n : ℕ) → m.call.op ≡ ReadSectors n → leader_written m ≡ None
read_no_leader m n op = ap (λ o. option_and_then leader_of_record (record_of o)) op

pub read_no_turn : (m : Submitted) (n : ℕ) → m.call.op ≡ ReadSectors n → turn_written m ≡ None
read_no_turn m n op = ap (λ o. option_and_then turn_of_record (record_of o)) op
