-- The rules of the seven records, field by field.
use Rattle.sl_sector.specs.declared.sector.Block.{Block}
use Rattle.sl_sector.specs.declared.sector.DeltaRec.{DeltaRec}
use Rattle.sl_sector.specs.declared.sector.DeltaState.TheVariants.{Free}
use Rattle.sl_sector.specs.declared.sector.Leader.{Leader}
use Rattle.sl_sector.specs.declared.sector.PairBlock.{PairBlock}
use Rattle.sl_sector.specs.declared.sector.Rec.TheVariants.{BlockIs, DeltaIs, LeaderIs, PairIs, PairLeaderIs, RequestIs, ValueIs}
use Rattle.sl_sector.specs.declared.sector.Rec.{Rec}
use Rattle.sl_sector.specs.declared.sector.Request.{Request}
use Rattle.sl_sector.specs.declared.sector.ValueRec.{ValueRec}
use Rattle.sl_text.specs.Names.{is_name}
use Rattle.sl_words.specs.Bounds.{moments, most_hosts, record_numbers}
use Rattle.std.specs.List.{list_all}
use Rattle.std.specs.Prelude.{IsSomeAnd, IsTrue, List, None, false, length, nat_lt, replicate, ℕ, ◌<◌, ◌↔◌, ◌≡◌, ◌≤◌}

-- A number that the field may carry.
abbrev pub Fits : ℕ → Type 0
Fits n = n < record_numbers

-- Bytes, one for each of so many.
abbrev pub AreBytes : ℕ → List ℕ → Type 0
AreBytes n bs = (length bs ≡ n) × IsTrue (list_all (λ b. nat_lt b 256) bs)

-- An id's record. A record that was never claimed has generation 0 and nothing else.
pub record IsDelta (d : DeltaRec) : Type 0 where
  pub id : (1 ≤ d.id) × (d.id ≤ most_hosts)
  pub generation : Fits d.generation
  pub seq : Fits d.seq
  pub stamp : d.stamp < moments
  pub lockspace : IsTrue (is_name d.lockspace)
  pub bitmap : AreBytes 250 d.bitmap
  pub unused : d.generation ≡ 0 → (d.state ≡ Free) × (d.seq ≡ 0) × (d.stamp ≡ 0) × (d.host ≡ None) × (d.bitmap ≡ replicate 250 0)
  pub used : 0 < d.generation → IsSomeAnd d.host (λ n. IsTrue (is_name n))

-- A resource's leader. One that was never held has lver, owner and generation 0 and is free.
pub record IsLeader (l : Leader) : Type 0 where
  pub hosts : (1 ≤ l.num_hosts) × (l.num_hosts ≤ most_hosts)
  pub lver : Fits l.lver
  pub generation : Fits l.generation
  pub owner : l.owner ≤ l.num_hosts
  pub lockspace : IsTrue (is_name l.lockspace)
  pub resource : IsTrue (is_name l.resource)
  pub same : (l.lver ≡ 0 ↔ l.generation ≡ 0) × (l.lver ≡ 0 ↔ l.owner ≡ 0)
  pub unused : l.lver ≡ 0 → l.held ≡ false

-- A host's block.
pub record IsBlock (b : Block) : Type 0 where
  pub host : (1 ≤ b.host) × (b.host ≤ most_hosts)
  pub lver : Fits b.lver
  pub mbal : Fits b.mbal
  pub bal : b.bal ≤ b.mbal
  pub generations : Fits b.inp_gen × Fits b.mode_gen
  pub inp : b.inp ≤ most_hosts
  pub value : (b.bal ≡ 0 ↔ b.inp_gen ≡ 0) × (b.bal ≡ 0 ↔ b.inp ≡ 0)
  pub mode : b.shared ≡ false ↔ b.mode_gen ≡ 0
  pub unused : b.lver ≡ 0 → (b.mbal ≡ 0) × (b.shared ≡ false)

-- A request; the cleared one has force and lver 0.
pub record IsRequest (r : Request) : Type 0 where
  pub force : r.force ≤ 2
  pub host : r.host ≤ most_hosts
  pub lver : Fits r.lver
  pub same : r.force ≡ 0 ↔ r.lver ≡ 0

-- A value.
pub record IsValue (v : ValueRec) : Type 0 where
  pub host : v.host ≤ most_hosts
  pub lver : Fits v.lver
  pub seq : Fits v.seq
  pub bytes : (length v.bytes ≤ 256) × IsTrue (list_all (λ b. nat_lt b 256) v.bytes)

-- A block of a pair.
pub record IsPair (p : PairBlock) : Type 0 where
  pub block : IsBlock p.block
  pub turn : (1 ≤ p.turn) × Fits p.turn
  pub lockspace : IsTrue (is_name p.lockspace)
  pub resource : IsTrue (is_name p.resource)

-- What has a spelling.
abbrev pub IsRecord : Rec → Type 0
IsRecord (DeltaIs d) = IsDelta d
IsRecord (LeaderIs l) = IsLeader l
IsRecord (BlockIs b) = IsBlock b
IsRecord (RequestIs r) = IsRequest r
IsRecord (ValueIs v) = IsValue v
IsRecord (PairIs p) = IsPair p
IsRecord (PairLeaderIs l) = IsLeader l
