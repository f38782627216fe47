-- What a recovery keeps, and the calls for which it stands.
use Rattle.sl_alone.specs.Calls.{EscalateCall, begun_at}
use Rattle.sl_alone.specs.DueSignals.{holders_told}
use Rattle.sl_alone.specs.declared.holder.Holder.{Holder}
use Rattle.std.specs.Prelude.{List, Option, ℕ, ◌≡◌}

-- The grace, the reading of the beginning, and the holders that are left.
pub record Kept : Type 0 where
  pub grace : ℕ
  pub began : Option ℕ
  pub holders : List Holder

-- These are the calls so far, of a recovery with this grace.
pub record Stands (grace : ℕ) (r : Kept) (calls : List EscalateCall) : Type 0 where
  pub patience : r.grace ≡ grace
  pub beginning : r.began ≡ begun_at calls
  pub told : r.holders ≡ holders_told grace calls
