-- Ballots over blocks alone: numbers, values, what stops one, and which instance begins (Gafni and Lamport, one disk).
use Rattle.sl_trace.specs.declared.lease.Instance.TheVariants.{Begins, HeldAlready}
use Rattle.sl_trace.specs.declared.lease.Instance.{Instance}
use Rattle.sl_trace.specs.declared.lease.Stop.TheVariants.{BlockAhead, BlockRival, BlockTorn}
use Rattle.sl_trace.specs.declared.lease.Stop.{Stop}
use Rattle.sl_sector.specs.declared.sector.Block.{Block}
use Rattle.sl_sector.specs.declared.sector.Leader.{Leader}
use Rattle.sl_sector.specs.declared.sector.Owner.{Owner}
use Rattle.sl_words.specs.Words.{choose, greatest}
use Rattle.std.specs.Option.{option_map_or}
use Rattle.std.specs.Prelude.{Bool, List, None, Option, Some, false, filter, filter_map, find, fold, if◌then◌else◌, map, max, nat_le, nat_lt, not, option_map, true, unwrap_or, [], ℕ, ◌&&◌, ◌*◌, ◌+◌, ◌-◌, ◌/◌, ◌==◌, ◌||◌, ◌∷◌}

-- Whether two owners are one.
abbrev pub same_owner : Owner → Owner → Bool
same_owner a b = a.id == b.id && a.generation == b.generation

-- The value of a block's ballot.
abbrev pub value_of : Block → Owner
value_of b = record { id = b.inp; generation = b.inp_gen }

-- The blocks of one instance.
abbrev pub in_instance : ℕ → List Block → List Block
in_instance n bs = filter (λ b. b.lver == n) bs

-- The least k*N + id above this number.
abbrev pub number_above : ℕ → ℕ → ℕ → ℕ
number_above hosts id top = if nat_lt top id then id else id + hosts * ((top - id) / hosts + 1)

-- The least k*N + id above these numbers.
abbrev pub next_mbal : ℕ → ℕ → List ℕ → ℕ
next_mbal hosts id seen = number_above hosts id (greatest seen)

-- A host's block as it was read; the own one is taken as submitted where it is torn.
abbrev pub known_block : Block → Option Block → ℕ → Option Block
known_block own seen host = if host == own.host then Some (unwrap_or seen own) else seen

-- The blocks of hosts from this one on, each with its host.
abbrev pub with_own : Block → ℕ → List (Option Block) → List (ℕ × Option Block)
with_own own host [] = []
with_own own host (b ∷ bs) = (host, known_block own b host) ∷ with_own own (host + 1) bs

-- The least host whose block is torn.
abbrev pub torn_host : List (ℕ × Option Block) → Option ℕ
torn_host [] = None
torn_host (p ∷ ps) = elim p.1 [ None ↦ Some p.0 | Some b ↦ torn_host ps ]

-- The blocks that are there.
abbrev pub whole_blocks : List (ℕ × Option Block) → List Block
whole_blocks bs = filter_map (λ p. p.1) bs

-- The blocks that a ballot goes by.
abbrev pub ballot_blocks : Block → List (Option Block) → List Block
ballot_blocks own read = whole_blocks (with_own own 1 read)

-- The first block of a later instance.
abbrev pub block_ahead : Block → List Block → Option Block
block_ahead own blocks = find (λ b. nat_lt own.lver b.lver) blocks

-- The first block with a greater number in the instance.
abbrev pub block_rival : Block → List Block → Option Block
block_rival own blocks = find (λ b. b.lver == own.lver && nat_lt own.mbal b.mbal) blocks

-- What stops the ballot of this own block among whole blocks.
abbrev pub stop_among : Block → List Block → Option Stop
stop_among own blocks =
    elim (block_ahead own blocks) [
      | Some b ↦ Some (BlockAhead b.host b.lver)
      | None ↦ option_map (λ b. BlockRival b.host b.mbal) (block_rival own blocks)
    ]

-- What stops the ballot of this own block in the blocks read: a torn block, a later instance, a greater number; each names the least
-- such host.
unfoldable pub stop_of : Block → List (Option Block) → Option Stop
stop_of own read =
    elim (torn_host (with_own own 1 read)) [
      | Some host ↦ Some (BlockTorn host)
      | None ↦ stop_among own (ballot_blocks own read)
    ]

-- Whether it was stopped by a block above the instance, which concludes a ballot; any other stop leaves it open.
abbrev pub is_ahead : Stop → Bool
is_ahead (BlockTorn h) = false
is_ahead (BlockAhead h l) = true
is_ahead (BlockRival h m) = false

-- The block with the greater bal, of those that have one; of two that tie the first.
abbrev pub greater_bal : Option Block → Block → Option Block
greater_bal None b = choose (nat_lt 0 b.bal) b
greater_bal (Some a) b = if nat_lt a.bal b.bal then Some b else Some a

-- The value of the greatest bal in n, or the session itself.
abbrev pub value_to_write : Owner → ℕ → List Block → Owner
value_to_write self n blocks = option_map_or value_of (fold greater_bal None (in_instance n blocks)) self

-- Phase 1 writes a new number and keeps what stood in the same instance.
unfoldable pub phase1_block : Owner → ℕ → ℕ → Bool → ℕ → Block → List Block → Block
phase1_block self hosts n shared mode_gen own seen =
    record {
      host = self.id;
      shared = shared;
      lver = n;
      mbal = next_mbal hosts self.id (map (λ b. b.mbal) (in_instance n (own ∷ seen)));
      bal = if own.lver == n then own.bal else 0;
      inp_gen = if own.lver == n then own.inp_gen else 0;
      mode_gen = mode_gen;
      inp = if own.lver == n then own.inp else 0;
    }

-- The block of a ballot in phase 2 with this value.
abbrev pub proposing : Block → Owner → Block
proposing own value = record own { bal = own.mbal; inp = value.id; inp_gen = value.generation }

-- Phase 2 writes the value of the greatest bal that was read, or the session itself.
unfoldable pub phase2_block : Owner → Block → List Block → Block
phase2_block self own blocks = proposing own (value_to_write self own.lver blocks)

-- The ballot stays, the mode is written.
abbrev pub moded_block : Block → Bool → ℕ → Block
moded_block own shared mode_gen = record own { shared = shared; mode_gen = mode_gen }

-- ---- which instance an acquire begins

-- L: a free that this session submitted stands for the leader.
abbrev pub counted_lver : Leader → ℕ → ℕ
counted_lver l freed = max l.lver freed

-- Whether the leader counts as free: it is, or the session has submitted a free at or above it.
abbrev pub is_counted_free : Leader → ℕ → Bool
is_counted_free l freed = not l.held || nat_lt 0 freed && nat_le l.lver freed

-- The owner that a leader names.
abbrev pub owner_of : Leader → Owner
owner_of l = record { id = l.owner; generation = l.generation }

-- The instance, by the leader, whether its owner is over, the greatest own free and the greatest lver of a block.
unfoldable pub instance_of : Bool → Owner → Leader → ℕ → ℕ → Instance
instance_of is_over self l freed top =
    if nat_lt (counted_lver l freed) top then Begins top
    else (if is_counted_free l freed || is_over then Begins (counted_lver l freed + 1)
    else (if same_owner (owner_of l) self then Begins (counted_lver l freed)
    else HeldAlready l.lver (owner_of l)))
