-- What a session has seen of other ids, and what that shows. Sightings stand newest first. A claim's silence is no evidence, because
-- its writer may still join: only a live record that stood still counts.
use Rattle.sl_area.specs.AreaSizes.{Layout, record_in}
use Rattle.sl_area.specs.AreaLayout.{sector_of}
use Rattle.sl_sector.specs.SectorLayouts.{delta_in}
use Rattle.sl_sector.specs.declared.sector.DeltaRec.{DeltaRec}
use Rattle.sl_sector.specs.declared.sector.DeltaState.TheVariants.{Free, Live}
use Rattle.sl_sector.specs.declared.sector.DeltaState.{DeltaState}
use Rattle.sl_trace.specs.Sessions.{calls_of, generation_of, is_joined, is_survey_purpose, joined_after, present_sessions}
use Rattle.sl_trace.specs.declared.session.Session.{Session}
use Rattle.sl_trace.specs.declared.sighting.Run.{Run}
use Rattle.sl_trace.specs.declared.sighting.Sighting.{Sighting}
use Rattle.sl_time.specs.Times.{TimingNumbers, dead, fail}
use Rattle.sl_trace.specs.Traces.{Setting, Submitted, Trace, bytes_given}
use Rattle.sl_trace.specs.declared.reply.Evidence.TheVariants.{Freed, Newer, Silent}
use Rattle.sl_trace.specs.declared.reply.Evidence.{Evidence}
use Rattle.sl_trace.specs.declared.reply.HostState.TheVariants.{Dead, Failing, Free as LooksFree, Live as LooksLive, Unknown}
use Rattle.sl_trace.specs.declared.reply.HostState.{HostState}
use Rattle.sl_trace.specs.declared.reply.SessionOf.{SessionOf}
use Rattle.sl_trace.specs.declared.reply.StateOf.{StateOf}
use Rattle.sl_words.specs.Words.{choose, greatest}
use Rattle.std.specs.List.{list_any, range_with_len}
use Rattle.std.specs.Option.{option_map_or}
use Rattle.std.specs.Prelude.{Bool, List, None, Option, Some, bytes_eq, false, filter, filter_map, if◌then◌else◌, is_some, map, nat_le, nat_lt, option_and_then, option_map, true, [], ℕ, ◌&&◌, ◌-◌, ◌==◌, ◌∷◌}

-- The delta record of that id that the bytes spell.
abbrev pub sighted : Layout → ℕ → Sighting → Option DeltaRec
sighted g id s = option_and_then (λ d. choose (d.id == id) d) (delta_in (record_in g s.bytes))

-- A run of one sighting.
abbrev pub new_run : Sighting → DeltaRec → Bool → Run
new_run s d changed = record { spelled = d; bytes = s.bytes; since = s.after; latest = s.before; changed = changed }

-- The run goes on with a sighting of the same bytes; any other begins one anew.
abbrev pub run_with : Option Run → Sighting → DeltaRec → Bool → Run
run_with None s d changed = new_run s d changed
run_with (Some r) s d changed = elim (bytes_eq r.bytes s.bytes) [ true ↦ record r { latest = s.before } | false ↦ new_run s d changed ]

-- Whether there is a sighting.
abbrev pub has_seen : List Sighting → Bool
has_seen [] = false
has_seen (s ∷ ss) = true

-- The run of the id; a sighting that spells no record of it ends every run.
abbrev pub current_run : Layout → ℕ → List Sighting → Option Run
current_run g id [] = None
current_run g id (s ∷ ss) = option_map (λ d. run_with (current_run g id ss) s d (has_seen ss)) (sighted g id s)

-- From the answer of the run's first sighting to the submission of its last.
abbrev pub span : Run → ℕ
span r = r.latest - r.since

-- How long the id is known to have stood still: the span of its run, and 0 where there is none.
abbrev pub unchanged : Layout → ℕ → List Sighting → ℕ
unchanged g id ss = option_map_or span (current_run g id ss) 0

-- The records of the id that were seen.
abbrev pub seen_records : Layout → ℕ → List Sighting → List DeltaRec
seen_records g id ss = filter_map (sighted g id) ss

-- Whether the record is free.
abbrev pub is_free_state : DeltaState → Bool
is_free_state Free = true
is_free_state s = false

-- Whether the record is live.
abbrev pub is_live_state : DeltaState → Bool
is_live_state Live = true
is_live_state s = false

-- The greatest generation among them.
abbrev pub newest_of : List DeltaRec → ℕ
newest_of ds = greatest (map (λ d. d.generation) ds)

-- Whether generation h was seen free.
abbrev pub is_free_among : ℕ → List DeltaRec → Bool
is_free_among h ds = list_any (λ d. d.generation == h && is_free_state d.state) ds

-- Whether the run is a live record of this generation that stood still for `dead`.
abbrev pub is_silent : TimingNumbers → ℕ → Run → Bool
is_silent tm h r = nat_le (dead tm) (span r) && is_live_state r.spelled.state && r.spelled.generation == h

-- Silence of generation h.
abbrev pub silence : TimingNumbers → ℕ → Option Run → Option Evidence
silence tm h run = option_and_then (λ r. choose (is_silent tm h r) (Silent r.since r.latest)) run

-- The first reason that holds, by the records that were seen and the run.
abbrev pub evidence_of : TimingNumbers → ℕ → List DeltaRec → Option Run → Option Evidence
evidence_of tm h records run =
    elim (nat_lt h (newest_of records)) [
      | true ↦ Some (Newer (newest_of records))
      | false ↦ elim (is_free_among h records) [ true ↦ Some (Freed h) | false ↦ silence tm h run ]
    ]

-- Why generation h of the id counts as over, the first reason that holds: a newer one was seen, it was seen free, it stood still.
abbrev pub evidence : TimingNumbers → Layout → ℕ → ℕ → List Sighting → Option Evidence
evidence tm g id h ss = evidence_of tm h (seen_records g id ss) (current_run g id ss)

-- What a run looks like at a reading: free; dead where it stood still for `dead`; failing where it is `fail` old; live where a change
-- was seen before it.
abbrev pub state_of_run : TimingNumbers → Run → ℕ → HostState
state_of_run tm r now =
    if is_free_state r.spelled.state then LooksFree
    else (if nat_le (dead tm) (span r) then Dead
    else (if nat_le (fail tm) (now - r.since) then Failing
    else (if r.changed then LooksLive else Unknown)))

-- What an id looks like at a reading.
abbrev pub host_state : TimingNumbers → Layout → ℕ → List Sighting → ℕ → HostState
host_state tm g id ss now = elim (current_run g id ss) [ None ↦ Unknown | Some r ↦ state_of_run tm r now ]

-- ---- in a trace

-- A read of all delta sectors that was answered, at one id.
abbrev pub look_of : Layout → ℕ → Submitted → Option Sighting
look_of g id m =
    elim (is_survey_purpose m.call.purpose) [
      | false ↦ None
      | true ↦ option_and_then (λ a.
          option_map (λ bytes. record { before = m.reading; after = a.reading; bytes = sector_of g bytes (id - 1) }) (bytes_given a.answer)) m.answer
    ]

-- The answered reads of all delta sectors among a session's calls, at one id, the newest submission first.
abbrev pub sightings : Layout → ℕ → List Submitted → List Sighting
sightings g id ms = filter_map (look_of g id) ms

-- The evidence that a session with these calls has against generation h of id j.
abbrev pub evidence_in : Setting → List Submitted → ℕ → ℕ → Option Evidence
evidence_in st ms j h = evidence st.timing st.layout j h (sightings st.layout j ms)

-- Whether the session counts generation h of id j as over: by evidence, or as an older one of its own id once it is joined.
abbrev pub counts_over : Setting → Trace → Session → ℕ → ℕ → Bool
counts_over st es s j h =
    elim (is_some (evidence_in st (calls_of es s) j h)) [
      | true ↦ true
      | false ↦ j == s.id && nat_lt h (generation_of es s) && is_some (joined_after es s)
    ]

-- Whether it counted it as over after some front of the trace. What was shown once stays true, though a later torn sighting ends
-- the run that showed it.
abbrev pub counted_over : Setting → Trace → Session → ℕ → ℕ → Bool
counted_over st [] s j h = counts_over st [] s j h
counted_over st (e ∷ es) s j h = elim (counts_over st (e ∷ es) s j h) [ true ↦ true | false ↦ counted_over st es s j h ]

-- The states of all ids at a reading, as `host_status` tells them.
abbrev pub states_seen : Setting → Trace → Session → ℕ → List StateOf
states_seen st es s now =
    map (λ id. record { id = id; state = host_state st.timing st.layout id (sightings st.layout id (calls_of es s)) now }) (range_with_len 1 st.layout.hosts)

-- The joined sessions by lockspace name, as `status` tells them.
abbrev pub sessions_seen : Setting → Trace → List SessionOf
sessions_seen st es =
    map (λ s. record { lockspace = s.lockspace; id = s.id; generation = generation_of es s }) (filter (is_joined es) (present_sessions st es))
