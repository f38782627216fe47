-- Values that a number past its limit leaves out.
use Rattle.sl_ballot.specs.declared.number.Limit.{Limit}
use Rattle.sl_sector.specs.declared.sector.Block.{Block}
use Rattle.sl_words.specs.Bounds.{is_number}
use Rattle.std.specs.Prelude.{Bool, Err, Ok, Result, false, true, ℕ}

-- The value, where it has a number that a block may carry.
abbrev pub limited : {A : Type 0} → Bool → A → Result A Limit
limited true a = Ok a
limited false a = Err (record {})

-- The number, if it is below 2^63.
abbrev pub limited_number : ℕ → Result ℕ Limit
limited_number n = limited (is_number n) n

-- The block, if its number is below 2^63.
abbrev pub limited_block : Block → Result Block Limit
limited_block b = limited (is_number b.mbal) b
