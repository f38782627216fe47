-- Which numbers last for a step.
use Rattle.sl_host.specs.declared.reserve.Reached.{Reached}
use Rattle.std.specs.Prelude.{ℕ, ◌+◌, ◌<◌, ◌^◌}

-- For so many effects of each class but calls, and for so many calls.
pub record NumbersLast (r : Reached) (left calls : ℕ) : Type 0 where
  pub few : (left < 2 ^ 31) × (calls < 2 ^ 31)
  pub of_calls : r.call + calls < 2 ^ 64
  pub of_sessions : r.session + calls < 2 ^ 64
  pub of_jobs : r.job + left < 2 ^ 64
  pub of_grants : r.grant + left < 2 ^ 64
  pub of_children : r.child + left < 2 ^ 31
  -- a step more may be counted
  pub of_entries : r.entry < 2 ^ 63
