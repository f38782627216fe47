-- A call whose answer comes, by what a host keeps.
use Rattle.sl_host_answers.specs.WholeAnswers.{is_joining_purpose}
use Rattle.sl_host_state.specs.KeptState.{HostKept}
use Rattle.std.specs.Option.{option_map_or}
use Rattle.std.specs.Prelude.{Bool, false, find, ℕ, ◌==◌}

-- Whether the call of this number is a joining's.
abbrev pub joins_at : HostKept → ℕ → Bool
joins_at k number = option_map_or (λ c. is_joining_purpose c.purpose) (find (λ c. c.number == number) k.unanswered) false
