-- The blocks of a ballot's phases, in parts.
use Rattle.sl_trace.specs.Ballots.{in_instance}
use Rattle.sl_sector.specs.declared.sector.Block.{Block}
use Rattle.sl_sector.specs.declared.sector.Owner.{Owner}
use Rattle.std.specs.Prelude.{Bool, List, None, Option, Some, fold, if◌then◌else◌, map, max, ℕ, ◌==◌}

-- The greatest of the numbers and 0, from the first to the last.
abbrev pub top_of : List ℕ → ℕ
top_of numbers = fold (λ top x. max top x) 0 numbers

-- The greatest number in an instance; 0 where there is none.
abbrev pub top_mbal : ℕ → List Block → ℕ
top_mbal n blocks = top_of (map (λ b. b.mbal) (in_instance n blocks))

-- The number that a block shows in an instance; 0 where it is of another.
abbrev pub mbal_in : ℕ → Block → ℕ
mbal_in n b = if b.lver == n then b.mbal else 0

-- The same of a block that was read; 0 where it is torn.
abbrev pub mbal_seen : ℕ → Option Block → ℕ
mbal_seen n None = 0
mbal_seen n (Some b) = mbal_in n b

-- The block of phase 1 with this number.
abbrev pub numbered_block : Owner → ℕ → Bool → ℕ → Block → ℕ → Block
numbered_block self n shared mode_gen own mbal =
    record {
      host = self.id;
      shared = shared;
      lver = n;
      mbal = mbal;
      bal = if own.lver == n then own.bal else 0;
      inp_gen = if own.lver == n then own.inp_gen else 0;
      mode_gen = mode_gen;
      inp = if own.lver == n then own.inp else 0;
    }
