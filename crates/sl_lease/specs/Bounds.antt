-- What the records and numbers that a lease keeps are.
use Rattle.sl_area.specs.AreaSizes.{Sizes}
use Rattle.sl_sector.specs.Records.{Fits, IsBlock}
use Rattle.sl_sector.specs.declared.sector.Block.{Block}
use Rattle.sl_sector.specs.declared.sector.Leader.{Leader}
use Rattle.sl_sector.specs.declared.sector.Owner.{Owner}
use Rattle.sl_words.specs.Bounds.{most_hosts}
use Rattle.std.specs.Prelude.{All, IfSome, IsTrue, List, Option, is_some, length, ℕ, ◌<◌, ◌^◌, ◌≤◌}

-- A session of one of the run's hosts.
pub record IsSession (z : Sizes) (o : Owner) : Type 0 where
  pub id : (1 ≤ o.id) × (o.id ≤ z.hosts)
  pub generation : (1 ≤ o.generation) × Fits o.generation

-- An instance that may be granted.
abbrev pub IsInstance : ℕ → Type 0
IsInstance n = (1 ≤ n) × Fits n

-- A block that a ballot has begun.
pub record IsBegun (b : Block) : Type 0 where
  pub block : IsBlock b
  pub begun : (1 ≤ b.lver) × (1 ≤ b.mbal)

-- A leader that names an instance and its owner.
pub record IsGranted (l : Leader) : Type 0 where
  pub hosts : (1 ≤ l.num_hosts) × (l.num_hosts ≤ most_hosts)
  pub lver : IsInstance l.lver
  pub generation : (1 ≤ l.generation) × Fits l.generation
  pub owner : (1 ≤ l.owner) × (l.owner ≤ l.num_hosts)

-- What is kept is within bounds: the own block is a record, numbers fit records, instances are above 0, and so is a turn.
pub record IsWithinBounds (own : Option Block) (freed : ℕ) (ballot won turn : Option ℕ) : Type 0 where
  pub begun : IfSome own IsBegun
  pub frees : Fits freed
  pub opened : IfSome ballot (λ n. (1 ≤ n) × IsTrue (is_some own))
  pub wins : IfSome won IsInstance
  pub turns : IfSome turn (λ t. (1 ≤ t) × Fits t)

-- A session's read of blocks: each that is whole is a record.
pub record IsRead (z : Sizes) (o : Owner) (read : List (Option Block)) : Type 0 where
  pub session : IsSession z o
  pub blocks : All (λ b. IfSome b IsBlock) read
  pub few : length read < 2 ^ 32
