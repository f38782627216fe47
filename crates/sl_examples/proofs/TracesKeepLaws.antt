-- Each law is met by the traces of worked runs, so none is empty.
use Rattle.sl_examples.proofs.WorkedRuns.{none_fails, acquire_and_release_shown, conversion_refused_shown, converted_both_ways_shown, group_lock_lawful, kill_program_by_request_lawful, kill_program_not_started_lawful, late_landing_shown, leaving_shown, orphan_kept_shown, orphan_stops_leaving_shown, owner_reset_lawful, recovery_shown, request_shown, rival_shown, settled_win_shown, shared_shown, torn_phase2_shown, torn_twice_shown, torn_value_shown, torn_with_pairs_shown, two_claims_shown, volume_held_elsewhere_lawful}
use Rattle.sl_examples.specs.LaterSchedules.{orphan_kept, orphan_stops_leaving, converted_both_ways, conversion_refused, kill_program_not_started, kill_program_by_request, group_lock, volume_held_elsewhere}
use Rattle.sl_examples.specs.WorkedSchedules.{acquire_and_release, failing, late_landing, leaving, owner_reset_then_taken_over, recovery, request, rival, settled_win, shared, torn_phase2, torn_twice, torn_value, torn_with_pairs, two_claims}
use Rattle.sl_examples.specs.WorldTests.{keeps_laws}
use Rattle.std.specs.Prelude.{[], ◌∷◌, ◌≡◌}

pub acquiring : failing keeps_laws (acquire_and_release ∷ settled_win ∷ rival ∷ torn_phase2 ∷ []) ≡ []
acquiring = none_fails keeps_laws (acquire_and_release ∷ settled_win ∷ rival ∷ torn_phase2 ∷ []) (acquire_and_release_shown.lawful, (settled_win_shown.lawful, (rival_shown.lawful, (torn_phase2_shown.lawful, tt))))

pub joining : failing keeps_laws (two_claims ∷ []) ≡ []
joining = none_fails keeps_laws (two_claims ∷ []) (two_claims_shown.lawful, tt)

pub taking_over : failing keeps_laws (owner_reset_then_taken_over ∷ []) ≡ []
taking_over = none_fails keeps_laws (owner_reset_then_taken_over ∷ []) (owner_reset_lawful, tt)

pub sharing : failing keeps_laws (shared ∷ []) ≡ []
sharing = none_fails keeps_laws (shared ∷ []) (shared_shown.lawful, tt)

pub ending : failing keeps_laws (recovery ∷ leaving ∷ late_landing ∷ []) ≡ []
ending = none_fails keeps_laws (recovery ∷ leaving ∷ late_landing ∷ []) (recovery_shown.lawful, (leaving_shown.1, (late_landing_shown.lawful, tt)))

pub asking : failing keeps_laws (request ∷ torn_value ∷ []) ≡ []
asking = none_fails keeps_laws (request ∷ torn_value ∷ []) (request_shown.lawful, (torn_value_shown.1, tt))

pub pairs : failing keeps_laws (torn_with_pairs ∷ torn_twice ∷ []) ≡ []
pairs = none_fails keeps_laws (torn_with_pairs ∷ torn_twice ∷ []) (torn_with_pairs_shown.lawful, (torn_twice_shown.lawful, tt))

pub later_orphans : failing keeps_laws (orphan_kept ∷ orphan_stops_leaving ∷ []) ≡ []
later_orphans = none_fails keeps_laws (orphan_kept ∷ orphan_stops_leaving ∷ []) (orphan_kept_shown.0, (orphan_stops_leaving_shown.0, tt))

pub later_conversion : failing keeps_laws (converted_both_ways ∷ conversion_refused ∷ []) ≡ []
later_conversion = none_fails keeps_laws (converted_both_ways ∷ conversion_refused ∷ []) (converted_both_ways_shown.0, (conversion_refused_shown.0, tt))

pub later_programs : failing keeps_laws (kill_program_not_started ∷ kill_program_by_request ∷ []) ≡ []
later_programs = none_fails keeps_laws (kill_program_not_started ∷ kill_program_by_request ∷ []) (kill_program_not_started_lawful, (kill_program_by_request_lawful, tt))

pub later_lines : failing keeps_laws (group_lock ∷ volume_held_elsewhere ∷ []) ≡ []
later_lines = none_fails keeps_laws (group_lock ∷ volume_held_elsewhere ∷ []) (group_lock_lawful, (volume_held_elsewhere_lawful, tt))
