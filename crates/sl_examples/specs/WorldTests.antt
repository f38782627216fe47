-- What safety says of a world, as tests that compute.
use Rattle.sl_area.specs.AreaSizes.{record_in}
use Rattle.sl_examples.specs.CheapDigest.{cheap_language, cheap_program, replay_cheap}
use Rattle.sl_examples.specs.LawTests.{broken_in_world}
use Rattle.sl_examples.specs.RefusedLines.{LastLine}
use Rattle.sl_examples.specs.WorkedSchedules.{Row, same_lines}
use Rattle.sl_trace.specs.Ballots.{same_owner}
use Rattle.sl_trace.specs.Leases.{holdings_on}
use Rattle.sl_report.specs.Languages.{whole_language}
use Rattle.sl_report.specs.DueRuns.{allowed, due_run}
use Rattle.sl_report.specs.Schedules.{EventLine, Header_read, Header_refused, event_lines_of, numbered_lines, read_header, replay_lines}
use Rattle.sl_run.specs.Conflicts.{has_conflict, world_uses}
use Rattle.sl_run.specs.EventChanges.{happens}
use Rattle.sl_run.specs.Runs.{Happening, world_after}
use Rattle.sl_run.specs.Safety.{Found, SessionId, ballots_of, block_there, found_generation, is_course_of, is_over, landed_in_own, same_lockspace, session_of_world, setting_in, trace_of}
use Rattle.sl_run.specs.Worlds.{Course, Landing, Machine, World, content, daemons_on, is_open, is_write_course, resets_after, world_with}
use Rattle.sl_run.specs.declared.event.Event.{Event}
use Rattle.sl_run.specs.declared.header.Header.{Header}
use Rattle.sl_sector.specs.SectorLayouts.{delta_in}
use Rattle.sl_sector.specs.declared.sector.Owner.{Owner}
use Rattle.sl_trace.specs.DeltaDecisions.{own_offset}
use Rattle.sl_trace.specs.Sessions.{is_join_call, joined_after, sessions}
use Rattle.sl_trace.specs.Sightings.{counts_over}
use Rattle.sl_text.specs.Forms.{as_bytes}
use Rattle.sl_trace.specs.WatchdogConnections.{connection_named}
use Rattle.sl_trace.specs.Traces.{is_shared}
use Rattle.sl_trace.specs.declared.effects.JoinStep.TheVariants.{ClaimWrite}
use Rattle.sl_trace.specs.declared.effects.Purpose.{Purpose}
use Rattle.sl_trace.specs.declared.effects.Spot.{Spot}
use Rattle.sl_words.specs.Words.{is_empty, last_of, some_is}
use Rattle.std.specs.List.{enumerate_from, list_all, list_any, range_with_len}
use Rattle.std.specs.Option.{option_map_or}
use Rattle.std.specs.Prelude.{Bool, Err, List, None, Ok, Some, bytes_eq, false, filter, filter_map, flat_map, is_some, map, nat_le, nat_lt, not, option_map, true, [], ℕ, ◌&&◌, ◌+◌, ◌==◌, ◌||◌, ◌∷◌}

-- The sessions of a machine.
abbrev pub ids_of_machine : ℕ × Machine → List SessionId
ids_of_machine p =
    flat_map (λ d. map (λ s. record { machine = p.0; daemon = d.number; number = s.number }) (sessions d.setting d.trace)) (daemons_on p.1)

-- All sessions of a world.
abbrev pub ids : World → List (SessionId × Found)
ids w = filter_map (λ i. option_map (λ f. (i, f)) (session_of_world w i)) (flat_map ids_of_machine (enumerate_from 1 w.machines))

-- Whether two are one.
abbrev pub same_id : SessionId → SessionId → Bool
same_id a b = a.machine == b.machine && a.daemon == b.daemon && a.number == b.number

-- Whether it has joined.
abbrev pub has_joined : SessionId × Found → Bool
has_joined p = is_some (joined_after (trace_of p.1) p.1.session)

-- A write in flight is covered.
abbrev pub flight_test : World → ℕ × Machine → Course → Bool
flight_test w p c =
    not (is_write_course c && is_open p.1 c)
    || list_any (λ q. q.0.machine == p.0 && is_course_of q.0 c && is_some (connection_named p.1.connections q.1.session.lockspace)) (ids w)
    || not (is_empty (resets_after p.1 c.made.step))
    && list_all (λ r. nat_le w.moment (r.moment + w.header.timing.land)) (resets_after p.1 c.made.step)

-- One joined session of an id that isn't over.
abbrev pub one_for_id_test : World → Bool
one_for_id_test w =
    let all : List (SessionId × Found) = filter (λ p. has_joined p && not (is_over p.0 p.1)) (ids w) in
    list_all (λ p. list_all (λ q. same_id p.0 q.0 || not (same_lockspace p.1 q.1 && p.1.session.id == q.1.session.id)) all) all

-- Whether the landing is of a write of the session whose purpose passes.
abbrev pub own_landing_test : SessionId × Found → (Purpose → Bool) → Landing → Bool
own_landing_test p serves l =
    some_is (λ q. q.0 == p.0.machine && list_any (λ c. is_course_of p.0 c && c.call.number == q.1 && serves c.call.purpose) p.1.machine.calls) l.writer

-- What landed in its sector is its own, but what came before its claim.
abbrev pub alone_test : SessionId × Found → List Landing → Bool
alone_test p ls =
    list_all (λ l. own_landing_test p (λ x. true) l || list_any (λ k. k.whole && nat_lt l.step k.step && own_landing_test p (is_join_call ClaimWrite) k) ls) ls

-- Its sector holds its record, or torn bytes, and nobody else has written there.
abbrev pub own_sector_test : World → SessionId × Found → Bool
own_sector_test w p =
    elim (has_joined p && not (is_over p.0 p.1)) [
      | false ↦ true
      | true ↦ alone_test p (landed_in_own w p.1)
          && option_map_or (λ d. d.generation == found_generation p.1 && some_is (bytes_eq p.1.daemon.setting.name) d.host)
          (delta_in (record_in w.layout (content w p.1.session.path (own_offset (setting_in p.1) p.1.session)))) true
    ]

-- Whoever counts as over is over.
abbrev pub evidence_test : World → Bool
evidence_test w =
    list_all (λ p. list_all (λ q.
    elim (same_lockspace p.1 q.1 && has_joined q && not (same_id p.0 q.0)) [
      | false ↦ true
      | true ↦ not (counts_over (setting_in p.1) (trace_of p.1) p.1.session q.1.session.id (found_generation q.1)) || is_over q.0 q.1
    ]) (ids w)) (ids w)

-- The areas of a header's resources.
abbrev pub header_spots : Header → List Spot
header_spots h = map (λ r. record { path = r.path; base = r.offset }) h.resources

-- All ballots of an instance that end, end with one.
abbrev pub agreement_test : World → Spot → Bool
agreement_test w at =
    let all : List (ℕ × Owner) = flat_map (λ p. ballots_of p.1 at) (ids w) in
    list_all (λ a. list_all (λ b. not (a.0 == b.0) || same_owner a.1 b.1) all) all

-- With pairs each host has a block at each moment.
abbrev pub pairs_test : World → Spot → Bool
pairs_test w at = not w.layout.paired || list_all (λ k. is_some (block_there w at k)) (range_with_len 1 w.layout.hosts)

-- A shared holder's block has its mode, or is torn.
abbrev pub mode_stands_test : World → Spot → SessionId × Found → Bool
mode_stands_test w at p =
    elim (is_over p.0 p.1) [
      | true ↦ true
      | false ↦ list_all (λ g. not (is_shared g.mode)
          || option_map_or (λ b. b.shared && b.mode_gen == found_generation p.1) (block_there w at p.1.session.id) true) (holdings_on (trace_of p.1) p.1.session at)
    ]

-- All of it.
abbrev pub world_test : World → Bool
world_test w =
    list_all (λ p. list_all (flight_test w p) p.1.calls) (enumerate_from 1 w.machines) && one_for_id_test w && list_all (own_sector_test w) (ids w)
    && evidence_test w && list_all (agreement_test w) (header_spots w.header)
    && list_all (λ at. pairs_test w at && list_all (mode_stands_test w at) (ids w)) (header_spots w.header) && not (has_conflict (world_uses w))

-- After each event.
abbrev pub fronts_test : World → List Happening → Bool
fronts_test w [] = world_test w
fronts_test w (x ∷ xs) = world_test w && fronts_test (happens w x.0 x.1) xs

-- The events of lines that are read.
abbrev pub read_events : List EventLine → List Event
read_events ls = filter_map (λ l. elim l.1 [ Ok e ↦ Some e | Err r ↦ None ]) ls

-- A source's world after its events, with what its traces break.
abbrev pub broken_in_source : List (List ℕ) → List (ℕ × List ℕ)
broken_in_source ls =
    elim (read_header cheap_language [] 1 (numbered_lines (as_bytes ls))) [
      | Header_refused n r ↦ (0, []) ∷ []
      | Header_read h rest ↦
          let w : World = world_with cheap_program h in
          broken_in_world (world_after w (due_run w (allowed w (read_events (event_lines_of cheap_language h rest)))))
    ]

-- Whether a source's world passes after each event.
abbrev pub source_test : List (List ℕ) → Bool
source_test ls =
    elim (read_header cheap_language [] 1 (numbered_lines (as_bytes ls))) [
      | Header_refused n r ↦ false
      | Header_read h rest ↦
          let w : World = world_with cheap_program h in
          fronts_test w (due_run w (allowed w (read_events (event_lines_of cheap_language h rest))))
    ]

-- Whether the report of a row's schedule is the row's, with the cheap digest.
abbrev pub replays : Row → Bool
replays r = same_lines (replay_cheap r.source) r.report

-- Whether each daemon's trace in a row's run keeps each law.
abbrev pub keeps_laws : Row → Bool
keeps_laws r = is_empty (broken_in_source r.source)

-- Whether a row's run is safe after each event.
abbrev pub stays_safe : Row → Bool
stays_safe r = source_test r.source

-- Whether the report of a row's schedule is the row's, with the program's digest.
abbrev pub replays_with_sha : Row → Bool
replays_with_sha r = same_lines (replay_lines whole_language (as_bytes r.source)) r.report

-- Whether the report of a schedule ends with its line, with the cheap digest.
abbrev pub has_last_line : LastLine → Bool
has_last_line r = some_is (bytes_eq r.line) (last_of (replay_cheap r.source))
