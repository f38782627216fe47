-- Worked runs are safe after each event: what the safety statements say of a world, tested.
use Rattle.sl_examples.proofs.WorkedRuns.{none_fails, acquire_and_release_shown, conversion_refused_shown, converted_both_ways_shown, late_landing_shown, orphan_kept_shown, orphan_stops_leaving_shown, owner_reset_safe, recovery_shown, request_shown, rival_shown, settled_win_shown, shared_shown, torn_phase2_shown, torn_twice_shown, torn_with_pairs_shown, two_claims_shown}
use Rattle.sl_examples.specs.LaterSchedules.{orphan_kept, orphan_stops_leaving, converted_both_ways, conversion_refused}
use Rattle.sl_examples.specs.WorkedSchedules.{acquire_and_release, failing, late_landing, owner_reset_then_taken_over, recovery, request, rival, settled_win, shared, torn_phase2, torn_twice, torn_with_pairs, two_claims}
use Rattle.sl_examples.specs.WorldTests.{stays_safe}
use Rattle.std.specs.Prelude.{[], ◌∷◌, ◌≡◌}

pub acquiring : failing stays_safe (acquire_and_release ∷ settled_win ∷ []) ≡ []
acquiring = none_fails stays_safe (acquire_and_release ∷ settled_win ∷ []) (acquire_and_release_shown.safe, (settled_win_shown.safe, tt))

pub rivals : failing stays_safe (rival ∷ torn_phase2 ∷ []) ≡ []
rivals = none_fails stays_safe (rival ∷ torn_phase2 ∷ []) (rival_shown.safe, (torn_phase2_shown.safe, tt))

pub joining : failing stays_safe (two_claims ∷ []) ≡ []
joining = none_fails stays_safe (two_claims ∷ []) (two_claims_shown.safe, tt)

pub taking_over : failing stays_safe (owner_reset_then_taken_over ∷ []) ≡ []
taking_over = none_fails stays_safe (owner_reset_then_taken_over ∷ []) (owner_reset_safe, tt)

pub sharing : failing stays_safe (shared ∷ []) ≡ []
sharing = none_fails stays_safe (shared ∷ []) (shared_shown.safe, tt)

pub ending : failing stays_safe (recovery ∷ late_landing ∷ []) ≡ []
ending = none_fails stays_safe (recovery ∷ late_landing ∷ []) (recovery_shown.safe, (late_landing_shown.safe, tt))

pub asking : failing stays_safe (request ∷ []) ≡ []
asking = none_fails stays_safe (request ∷ []) (request_shown.safe, tt)

pub pairs : failing stays_safe (torn_with_pairs ∷ torn_twice ∷ []) ≡ []
pairs = none_fails stays_safe (torn_with_pairs ∷ torn_twice ∷ []) (torn_with_pairs_shown.safe, (torn_twice_shown.safe, tt))

pub later_orphans : failing stays_safe (orphan_kept ∷ orphan_stops_leaving ∷ []) ≡ []
later_orphans = none_fails stays_safe (orphan_kept ∷ orphan_stops_leaving ∷ []) (orphan_kept_shown.1, (orphan_stops_leaving_shown.1, tt))

pub later_conversion : failing stays_safe (converted_both_ways ∷ conversion_refused ∷ []) ≡ []
later_conversion = none_fails stays_safe (converted_both_ways ∷ conversion_refused ∷ []) (converted_both_ways_shown.1, (conversion_refused_shown.1, tt))
