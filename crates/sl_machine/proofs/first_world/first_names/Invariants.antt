use Rattle.sl_world_state.specs.FirstKept.{session_of}
use Rattle.sl_machine.proofs.first_world.first_names.Given as goal
use Rattle.sl_run.specs.declared.header.SessionLine.{SessionLine}
use Rattle.std.proofs.Common.{List, bytes_eq, option_map, reverse, ℕ, ◌≡◌}
use Rattle.std.specs.List.{filter_map, list_any, range_with_len}

-- the names of the machines before this one are there
abbrev pub invariant-loop-place : goal.invariant-loop-place
invariant-loop-place l =
    (q : List ℕ) → list_any (bytes_eq q) (reverse l.names.keys)
    ≡ list_any (bytes_eq q) (filter_map (λ m. option_map (λ (s : SessionLine). s.name) (session_of l.header m)) (range_with_len 1 l.place))
