-- The times of two settings.
use Rattle.std.specs.Prelude.{[], refl, ◌∷◌, ◌≡◌}
use Rattle.sl_time.specs.Times.{TimingNumbers, dead, fail, gone, join_max, take_over}

abbrev usual : TimingNumbers
usual = record { io = 10000; fire = 60000; land = 10000; rho = 1 }

abbrev small : TimingNumbers
small = record { io = 100; fire = 600; land = 100; rho = 0 }

pub usual_times : (fail usual ∷ gone usual ∷ dead usual ∷ join_max usual ∷ take_over usual ∷ []) ≡ (80000 ∷ 150081 ∷ 150233 ∷ 230233 ∷ 380928 ∷ [])
usual_times = refl

pub small_times : (fail small ∷ gone small ∷ dead small ∷ join_max small ∷ take_over small ∷ []) ≡ (800 ∷ 1500 ∷ 1501 ∷ 2301 ∷ 3803 ∷ [])
small_times = refl
