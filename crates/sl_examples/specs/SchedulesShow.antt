-- What the worked schedules show.
use Rattle.sl_examples.specs.LaterSchedules.{conversion_refused, converted_both_ways, group_lock, kill_program_by_request, kill_program_not_started, orphan_kept, orphan_stops_leaving, volume_held_elsewhere}
use Rattle.sl_examples.specs.OwnTraces.{exit_of_none, keeps_all, on_own_area}
use Rattle.sl_examples.specs.RefusedLines.{refused_events, refused_headers, tears}
use Rattle.sl_examples.specs.WorkedSchedules.{acquire_and_release, answer_after_its_session, crash_with_holder, failing, late_landing, leaving, owner_reset_then_taken_over, recovery, recovery_with_write, refusals, request, rival, settled_win, shared, torn_phase2, torn_twice, torn_value, torn_with_pairs, two_claims}
use Rattle.sl_examples.specs.WorldTests.{has_last_line, keeps_laws, replays, stays_safe}
use Rattle.std.specs.List.{list_all}
use Rattle.std.specs.Prelude.{true, [], ◌∷◌, ◌≡◌}

-- Each worked schedule gives its report, each daemon doing what is due.
pub record SchedulesReplay : Type 0 where
  pub acquiring : failing replays (acquire_and_release ∷ settled_win ∷ rival ∷ torn_phase2 ∷ refusals ∷ []) ≡ []
  pub joining : failing replays (two_claims ∷ answer_after_its_session ∷ []) ≡ []
  pub taking_over : failing replays (owner_reset_then_taken_over ∷ []) ≡ []
  pub resets : failing replays (crash_with_holder ∷ late_landing ∷ []) ≡ []
  pub sharing : failing replays (shared ∷ []) ≡ []
  pub ending : failing replays (recovery ∷ recovery_with_write ∷ leaving ∷ []) ≡ []
  pub asking : failing replays (request ∷ torn_value ∷ []) ≡ []
  pub pairs : failing replays (torn_with_pairs ∷ torn_twice ∷ []) ≡ []

-- The traces of these runs keep each law, so none of the laws is empty. (Tests that mirror the laws field by field.)
pub record TracesKeepLaws : Type 0 where
  pub acquiring : failing keeps_laws (acquire_and_release ∷ settled_win ∷ rival ∷ torn_phase2 ∷ []) ≡ []
  pub joining : failing keeps_laws (two_claims ∷ []) ≡ []
  pub taking_over : failing keeps_laws (owner_reset_then_taken_over ∷ []) ≡ []
  pub sharing : failing keeps_laws (shared ∷ []) ≡ []
  pub ending : failing keeps_laws (recovery ∷ leaving ∷ late_landing ∷ []) ≡ []
  pub asking : failing keeps_laws (request ∷ torn_value ∷ []) ≡ []
  pub pairs : failing keeps_laws (torn_with_pairs ∷ torn_twice ∷ []) ≡ []
  pub orphans : failing keeps_laws (orphan_kept ∷ orphan_stops_leaving ∷ []) ≡ []
  pub conversions : failing keeps_laws (converted_both_ways ∷ conversion_refused ∷ []) ≡ []
  pub programs : failing keeps_laws (kill_program_not_started ∷ kill_program_by_request ∷ []) ≡ []
  pub locks : failing keeps_laws (group_lock ∷ volume_held_elsewhere ∷ []) ≡ []

-- What is due on literal answers, of which a world would not give each, keeps each law too.
pub record LiteralTracesKeepLaws : Type 0 where
  -- a resource at the place of the own lockspace: renewals lie there too
  pub own_area : keeps_all on_own_area ≡ true
  -- an orphan stays where the number of no process exits
  pub nobody_exits : keeps_all exit_of_none ≡ true

-- These runs are safe after each event: tests of what safety says of a world.
pub record RunsStaySafe : Type 0 where
  pub acquiring : failing stays_safe (acquire_and_release ∷ settled_win ∷ []) ≡ []
  pub rivals : failing stays_safe (rival ∷ torn_phase2 ∷ []) ≡ []
  pub joining : failing stays_safe (two_claims ∷ []) ≡ []
  pub taking_over : failing stays_safe (owner_reset_then_taken_over ∷ []) ≡ []
  pub sharing : failing stays_safe (shared ∷ []) ≡ []
  pub ending : failing stays_safe (recovery ∷ late_landing ∷ []) ≡ []
  pub asking : failing stays_safe (request ∷ []) ≡ []
  pub pairs : failing stays_safe (torn_with_pairs ∷ torn_twice ∷ []) ≡ []
  pub orphans : failing stays_safe (orphan_kept ∷ orphan_stops_leaving ∷ []) ≡ []
  pub conversions : failing stays_safe (converted_both_ways ∷ conversion_refused ∷ []) ≡ []

-- Lines are refused, each by its own text.
pub record LinesAreRefused : Type 0 where
  pub headers : list_all has_last_line refused_headers ≡ true
  pub events : list_all has_last_line refused_events ≡ true
  pub torn : list_all has_last_line tears ≡ true
