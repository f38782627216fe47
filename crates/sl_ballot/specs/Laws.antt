-- What the rules of a ballot come to, in words that don't follow its steps.
use Rattle.sl_trace.specs.Ballots.{moded_block, phase1_block, phase2_block, value_of, value_to_write}
use Rattle.sl_sector.specs.Records.{Fits, IsBlock}
use Rattle.sl_sector.specs.declared.sector.Block.{Block}
use Rattle.sl_sector.specs.declared.sector.Owner.{Owner}
use Rattle.sl_words.specs.Bounds.{most_hosts}
use Rattle.std.specs.Prelude.{All, Bool, Contains, List, false, ℕ, ◌*◌, ◌+◌, ◌<◌, ◌∷◌, ◌≡◌, ◌≤◌, ◌⊎◌, ◌↔◌}

-- ---- numbers

-- The number of phase 1, for each way that it may be asked for.
abbrev pub EachNumber : (Owner → ℕ → ℕ → Block → List Block → ℕ → Type 0) → Type 0
EachNumber P =
    (self : Owner) (hosts n : ℕ) (shared : Bool) (mode_gen : ℕ) (own : Block) (seen : List Block)
    → 1 ≤ self.id → self.id ≤ hosts → P self hosts n own seen (phase1_block self hosts n shared mode_gen own seen).mbal

-- The block has no number in the instance, or one below this.
abbrev pub IsBelowIn : ℕ → ℕ → Block → Type 0
IsBelowIn n top b = b.lver ≡ n → b.mbal < top

-- It is the host's own, above each number in the instance that is known, and the least such.
pub record NumbersRise : Type 0 where
  pub own_number : EachNumber (λ self hosts n own seen mbal. (k : ℕ) × (mbal ≡ self.id + hosts * k))
  pub above : EachNumber (λ self hosts n own seen mbal. All (IsBelowIn n mbal) (own ∷ seen))
  pub least : EachNumber (λ self hosts n own seen mbal. (k : ℕ) → All (IsBelowIn n (self.id + hosts * k)) (own ∷ seen) → mbal ≤ self.id + hosts * k)

-- ---- values

-- A block in an instance that has a bal, and whose bal none of the blocks there exceeds.
pub record IsBestIn (n : ℕ) (blocks : List Block) (best : Block) : Type 0 where
  pub among : Contains blocks best
  pub here : best.lver ≡ n
  pub chosen : 0 < best.bal
  pub most : All (λ b. b.lver ≡ n → b.bal ≤ best.bal) blocks

-- Phase 1 keeps what was accepted in its instance, and nothing of another. The value to write is that of such a best block; the session
-- itself where no block has a bal.
pub record ValuesAreKept : Type 0 where
  pub kept : (self : Owner) (hosts n : ℕ) (shared : Bool) (mode_gen : ℕ) (own : Block) (seen : List Block) → own.lver ≡ n
      → ((phase1_block self hosts n shared mode_gen own seen).bal ≡ own.bal) × (value_of (phase1_block self hosts n shared mode_gen own seen) ≡ value_of own)
  pub dropped : (self : Owner) (hosts n : ℕ) (shared : Bool) (mode_gen : ℕ) (own : Block) (seen : List Block) → (own.lver ≡ n → ⊥)
      → ((phase1_block self hosts n shared mode_gen own seen).bal ≡ 0) × (value_of (phase1_block self hosts n shared mode_gen own seen) ≡ record { id = 0; generation = 0 })
  pub best : (self : Owner) (n : ℕ) (blocks : List Block)
      → (All (λ b. b.lver ≡ n → b.bal ≡ 0) blocks × (value_to_write self n blocks ≡ self))
      ⊎ ((b : Block) × IsBestIn n blocks b × (value_to_write self n blocks ≡ value_of b))

-- ---- records

-- A session that a block may name.
abbrev pub IsOwner : Owner → Type 0
IsOwner o = (1 ≤ o.id) × (o.id ≤ most_hosts) × (1 ≤ o.generation) × Fits o.generation

-- A mode and its generation as a block may have them.
abbrev pub IsMode : Bool → ℕ → Type 0
IsMode shared mode_gen = (shared ≡ false ↔ mode_gen ≡ 0) × Fits mode_gen

-- From blocks that keep their rules the phases make blocks that keep them.
pub record BlocksAreRecords : Type 0 where
  pub phase1 : (self : Owner) (hosts n : ℕ) (shared : Bool) (mode_gen : ℕ) (own : Block) (seen : List Block)
      → 1 ≤ self.id → self.id ≤ hosts → hosts ≤ most_hosts → 1 ≤ n → Fits n → IsMode shared mode_gen → IsBlock own
      → Fits (phase1_block self hosts n shared mode_gen own seen).mbal → IsBlock (phase1_block self hosts n shared mode_gen own seen)
  pub phase2 : (self : Owner) (own : Block) (blocks : List Block) → IsOwner self → IsBlock own → 1 ≤ own.lver → 1 ≤ own.mbal → All IsBlock blocks
      → IsBlock (phase2_block self own blocks)
  pub moded : (own : Block) (shared : Bool) (mode_gen : ℕ) → IsBlock own → 1 ≤ own.lver → IsMode shared mode_gen → IsBlock (moded_block own shared mode_gen)
