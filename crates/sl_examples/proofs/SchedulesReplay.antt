-- The worked schedules give their reports, each daemon doing what is due.
use Rattle.sl_examples.proofs.WorkedRuns.{none_fails, acquire_and_release_shown, answer_after_its_session_replayed, crash_with_holder_replayed, late_landing_shown, leaving_shown, owner_reset_replayed, recovery_shown, recovery_with_write_replayed, refusals_replayed, request_shown, rival_shown, settled_win_shown, shared_shown, torn_phase2_shown, torn_twice_shown, torn_value_shown, torn_with_pairs_shown, two_claims_shown}
use Rattle.sl_examples.specs.WorkedSchedules.{acquire_and_release, answer_after_its_session, crash_with_holder, failing, late_landing, leaving, owner_reset_then_taken_over, recovery, recovery_with_write, refusals, request, rival, settled_win, shared, torn_phase2, torn_twice, torn_value, torn_with_pairs, two_claims}
use Rattle.sl_examples.specs.WorldTests.{replays}
use Rattle.std.specs.Prelude.{[], ◌∷◌, ◌≡◌}

pub acquiring : failing replays (acquire_and_release ∷ settled_win ∷ rival ∷ torn_phase2 ∷ refusals ∷ []) ≡ []
acquiring = none_fails replays (acquire_and_release ∷ settled_win ∷ rival ∷ torn_phase2 ∷ refusals ∷ []) (acquire_and_release_shown.replayed, (settled_win_shown.replayed, (rival_shown.replayed, (torn_phase2_shown.replayed, (refusals_replayed, tt)))))

pub joining : failing replays (two_claims ∷ answer_after_its_session ∷ []) ≡ []
joining = none_fails replays (two_claims ∷ answer_after_its_session ∷ []) (two_claims_shown.replayed, (answer_after_its_session_replayed, tt))

pub taking_over : failing replays (owner_reset_then_taken_over ∷ []) ≡ []
taking_over = none_fails replays (owner_reset_then_taken_over ∷ []) (owner_reset_replayed, tt)

pub resets : failing replays (crash_with_holder ∷ late_landing ∷ []) ≡ []
resets = none_fails replays (crash_with_holder ∷ late_landing ∷ []) (crash_with_holder_replayed, (late_landing_shown.replayed, tt))

pub sharing : failing replays (shared ∷ []) ≡ []
sharing = none_fails replays (shared ∷ []) (shared_shown.replayed, tt)

pub ending : failing replays (recovery ∷ recovery_with_write ∷ leaving ∷ []) ≡ []
ending = none_fails replays (recovery ∷ recovery_with_write ∷ leaving ∷ []) (recovery_shown.replayed, (recovery_with_write_replayed, (leaving_shown.0, tt)))

pub asking : failing replays (request ∷ torn_value ∷ []) ≡ []
asking = none_fails replays (request ∷ torn_value ∷ []) (request_shown.replayed, (torn_value_shown.0, tt))

pub pairs : failing replays (torn_with_pairs ∷ torn_twice ∷ []) ≡ []
pairs = none_fails replays (torn_with_pairs ∷ torn_twice ∷ []) (torn_with_pairs_shown.replayed, (torn_twice_shown.replayed, tt))
