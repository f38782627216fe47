-- When a request is taken.
use Rattle.sl_request.specs.declared.check.Act.TheVariants.{Clear, Set}
use Rattle.sl_request.specs.declared.check.Act.{Act}
use Rattle.sl_request.specs.declared.check.RequestOld.{RequestOld}
use Rattle.std.specs.Prelude.{Bool, Err, Ok, Result, if◌then◌else◌, nat_le, nat_lt, ℕ, ◌&&◌, ◌==◌, ◌||◌}

-- Whether a request of this lver and force is taken: above the held lver and not below the record's, or it clears.
abbrev pub check_request : ℕ → ℕ → ℕ → ℕ → Bool
check_request held stored asked force = asked == 0 && force == 0 || nat_lt held asked && nat_le stored asked

-- What a request that is taken does: the one without lver and force clears.
abbrev pub act_of : ℕ → ℕ → Act
act_of asked force = if asked == 0 && force == 0 then Clear else Set

-- What comes of a request: what it does where it is taken, else both numbers.
abbrev pub check_of : ℕ → ℕ → ℕ → ℕ → Result Act RequestOld
check_of held stored asked force =
    if check_request held stored asked force then Ok (act_of asked force) else Err (record { held = held; stored = stored })
