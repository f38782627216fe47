-- One id of one lockspace as the argument over ids sees it, read off a world: what landed in its sector, and where each session stands
-- whose sector it is.
--
-- A session counts from when it has sampled its deciding read; before that nothing of it can land there. Each flag is read off the calls
-- of its machine and the trace of its daemon, so that a world alone tells the state, and no history beside it.
use Rattle.sl_area.specs.AreaSizes.{Layout, record_in}
use Rattle.sl_area.specs.AreaLayout.{delta_offset}
use Rattle.sl_run_law.specs.Course.CallStamps.{stamp_in}
use Rattle.sl_ids.specs.State.{Claimed as Claim_kind, Content, Free as Free_kind, Kind, Landing as IdLanding, Live as Live_kind, Session as IdSession, SessionId as IdName, State}
use Rattle.sl_ids.specs.Listed.{no_landing}
use Rattle.sl_run.specs.EventChanges.{write_bytes}
use Rattle.sl_run.specs.Safety.{Found, SessionId, is_course_of, is_over, session_of_world, trace_of}
use Rattle.sl_run.specs.Worlds.{Course, Daemon, Landing, Machine, Sampling, Stamp, World, daemon_numbered, history_of, is_landed, machine_at, may_land}
use Rattle.sl_run_law.specs.Sample.Samples.{numbered_landing}
use Rattle.sl_sector.specs.SectorLayouts.{delta_in}
use Rattle.sl_sector.specs.declared.sector.DeltaRec.{DeltaRec}
use Rattle.sl_sector.specs.declared.sector.DeltaState.TheVariants.{Claimed, Free, Live}
use Rattle.sl_sector.specs.declared.sector.DeltaState.{DeltaState}
use Rattle.sl_trace.specs.Sessions.{given_number, is_join_call, joined_after, refused_after, sessions}
use Rattle.sl_trace.specs.declared.session.Session.{Session}
use Rattle.sl_trace.specs.Traces.{same_place}
use Rattle.sl_trace.specs.declared.effects.JoinStep.TheVariants.{ClaimWrite, DecidingRead, FirstRead, VerifyRead}
use Rattle.sl_trace.specs.declared.effects.JoinStep.{JoinStep}
use Rattle.sl_run_law.specs.Watchdog.ActingTimes.{acting_stamp}
use Rattle.sl_words.specs.Words.{choose, first_given, first_of_list, greatest, some_is}
use Rattle.std.specs.List.{enumerate_from}
use Rattle.std.specs.Option.{option_map_or}
use Rattle.std.specs.Prelude.{Bool, List, None, Option, Some, bytes_eq, false, filter, find, is_none, is_some, length, map, nat_lt, option_and_then, option_map, true, [], ℕ, ◌&&◌, ◌+◌, ◌-◌, ◌==◌, ◌||◌, ◌∷◌}

-- ---- names

-- A session of a world by the name that the argument over ids has for it.
abbrev pub name_of : SessionId → IdName
name_of i = record { machine = i.machine; daemon = i.daemon; number = i.number }

abbrev pub session_named_so : IdName → SessionId
session_named_so n = record { machine = n.machine; daemon = n.daemon; number = n.number }

-- ---- landings

-- The kind of a record.
abbrev pub kind_of : DeltaState → Kind
kind_of Free = Free_kind
kind_of Claimed = Claim_kind
kind_of Live = Live_kind

-- What a delta record says that matters for its id.
abbrev pub content_of : DeltaRec → Content
content_of d = record { host = d.host; generation = d.generation; seq = d.seq; kind = kind_of d.state }

-- What a sector's bytes say, if they spell a delta record.
abbrev pub said_by : Layout → List ℕ → Option Content
said_by g bytes = option_map content_of (delta_in (record_in g bytes))

-- The session that submitted a call of a machine.
abbrev pub submitter_on : ℕ → ℕ → Machine → Option IdName
submitter_on m n a = option_map (λ c. record { machine = m; daemon = c.daemon; number = c.call.session }) (find (λ c. c.call.number == n) a.calls)

abbrev pub submitter_of : World → ℕ × ℕ → Option IdName
submitter_of w p = option_and_then (submitter_on p.0 p.1) (machine_at w p.0)

-- Whether the sector at this place is the session's.
abbrev pub is_sector_of : Layout → List ℕ → ℕ → Session → Bool
is_sector_of g path offset s = same_place s.path (delta_offset g s.offset s.id) path offset

-- The session of a machine's first daemon whose record stands there at first.
abbrev pub holder_in : Layout → List ℕ → ℕ → ℕ → Daemon → Option IdName
holder_in g path offset m d =
    option_map (λ s. record { machine = m; daemon = 0; number = s.number }) (find (is_sector_of g path offset) (sessions d.setting []))

abbrev pub holder_on : Layout → List ℕ → ℕ → ℕ × Machine → Option IdName
holder_on g path offset p = option_and_then (holder_in g path offset p.0) (daemon_numbered p.1 0)

abbrev pub holder_at : World → List ℕ → ℕ → Option IdName
holder_at w path offset = first_given (holder_on w.layout path offset) (enumerate_from 1 w.machines)

-- Who wrote a landing of the sector.
abbrev pub writer_of : World → Landing → Option IdName
writer_of w l = elim l.writer [ None ↦ holder_at w l.path l.offset | Some p ↦ submitter_of w p ]

-- A landing of the sector.
abbrev pub landing_of : World → Landing → IdLanding
landing_of w l = record { moment = l.moment; writer = writer_of w l; shown = said_by w.layout l.bytes }

-- ---- what a joining has done

-- The session's calls, the newest first.
abbrev pub own_courses : SessionId → Machine → List Course
own_courses i a = filter (is_course_of i) a.calls

-- Its newest call at a step of its joining.
abbrev pub join_course : SessionId → JoinStep → Machine → Option Course
join_course i step a = find (λ c. is_join_call step c.call.purpose) (own_courses i a)

-- When its joining was refused, if it was.
abbrev pub refused_stamp : Found → Option Stamp
refused_stamp f = option_and_then (λ k. stamp_in f.daemon.stamps (k - 1)) (refused_after (trace_of f) f.session)

-- Whether a sample came before any refusal: what comes after it concludes nothing.
abbrev pub comes_before : Option Stamp → Sampling → Bool
comes_before None x = true
comes_before (Some r) x = nat_lt x.step r.step

-- The sample of a call whose bytes are these, before any refusal.
abbrev pub sample_showing : Found → Option (List ℕ) → Course → Option Sampling
sample_showing f bytes c =
    option_and_then (λ x. choose (some_is (λ b. bytes_eq b c.sampled) bytes && comes_before (refused_stamp f) x) x) (first_of_list c.samples)

-- What its first read has sampled: the record that it watches.
abbrev pub watched_bytes : SessionId → Found → Option (List ℕ)
watched_bytes i f = option_map (λ c. c.sampled) (join_course i FirstRead f.machine)

-- The sample of its deciding read, where that shows the record that was watched.
abbrev pub deciding_sample : SessionId → Found → Option Sampling
deciding_sample i f = option_and_then (sample_showing f (watched_bytes i f)) (join_course i DecidingRead f.machine)

-- What its claim spells.
abbrev pub claim_bytes : World → SessionId → Found → Option (List ℕ)
claim_bytes w i f = option_map (λ c. write_bytes w c.call) (join_course i ClaimWrite f.machine)

-- The sample of its verify read, where that shows the own claim.
abbrev pub verifying_sample : World → SessionId → Found → Option Sampling
verifying_sample w i f = option_and_then (sample_showing f (claim_bytes w i f)) (join_course i VerifyRead f.machine)

-- Whether its daemon runs.
abbrev pub runs_still : Found → Bool
runs_still f = some_is (λ d. d.number == f.daemon.number) f.machine.daemon

-- Whether its claim, if it has decided, may still land: it isn't submitted, and nothing keeps it from being so; or it is in flight.
abbrev pub claim_may_land : SessionId → Found → Bool
claim_may_land i f =
    elim (join_course i ClaimWrite f.machine) [ None ↦ runs_still f && is_none (refused_after (trace_of f) f.session) | Some c ↦ may_land c ]

-- The number of the landing that a call left whole, among all of a place; the newest stands first. (A torn claim is no claim: nothing of
-- its session but that it was pending changes when it is torn.)
abbrev pub is_left_by : ℕ × ℕ → Landing → Bool
is_left_by p l = l.whole && some_is (λ q. q.0 == p.0 && q.1 == p.1) l.writer

abbrev pub index_of : ℕ × ℕ → List Landing → ℕ
index_of p [] = 0
index_of p (l ∷ ls) = elim (is_left_by p l) [ true ↦ length ls | false ↦ index_of p ls ]

-- Whether two names are one.
abbrev pub same_name : IdName → IdName → Bool
same_name a b = a.machine == b.machine && a.daemon == b.daemon && a.number == b.number

-- The seq of a landing of this session, and 0.
abbrev pub seq_left : World → IdName → Landing → ℕ
seq_left w n l = elim (some_is (same_name n) (writer_of w l)) [ false ↦ 0 | true ↦ option_map_or (λ x. x.seq) (said_by w.layout l.bytes) 0 ]

-- ---- where a session stands

-- One that has done nothing.
abbrev pub blank : IdSession
blank =
    record {
      begun = false;
      decided = false;
      pending = false;
      landed = false;
      verified = false;
      joined = false;
      over = false;
      base = 0;
      claim = 0;
      name = [];
      generation = 0;
      seq = 0;
      registered = 0;
      renewed = 0;
    }

-- The generation of a session by the landing that its deciding read showed.
abbrev pub generation_above : Layout → Option Landing → ℕ
generation_above g l = option_map_or (λ x. x.generation + 1) (option_and_then (λ y. said_by g y.bytes) l) 0

abbrev pub generation_by : World → List ℕ → ℕ → Option Sampling → ℕ
generation_by w path offset None = 1
generation_by w path offset (Some x) = generation_above w.layout (numbered_landing (history_of w path offset) x.index)

-- The moment from which its connection counts: the registering before its verify read, and once it has joined what the watchdog counts
-- from; nothing before it is verified.
abbrev pub renewed_by_now : World → SessionId → Found → ℕ
renewed_by_now w i f =
    elim (joined_after (trace_of f) f.session) [
      | Some k ↦ option_map_or (λ s. s.moment) (acting_stamp f.daemon f.session) 0
      | None ↦ elim (verifying_sample w i f) [ None ↦ 0 | Some x ↦ option_map_or (λ c. c.made.moment) (join_course i VerifyRead f.machine) 0 ]
    ]

-- One that has decided, or was joined at first.
abbrev pub standing_of : World → List ℕ → ℕ → SessionId → Found → IdSession
standing_of w path offset i f =
    let decided : Option Sampling = deciding_sample i f in
    let claim : Option Course = join_course i ClaimWrite f.machine in
    record {
      begun = true;
      decided = is_some decided;
      pending = is_some decided && claim_may_land i f;
      landed = some_is (λ c. is_landed c.fate) claim;
      verified = is_none f.session.job || is_some (verifying_sample w i f);
      joined = is_some (joined_after (trace_of f) f.session);
      over = is_over i f;
      base = option_map_or (λ x. x.index) decided 0;
      claim = option_map_or (λ c. index_of (i.machine, c.call.number) (history_of w path offset)) claim 0;
      name = f.daemon.setting.name;
      generation = generation_by w path offset decided;
      seq = greatest (given_number f.session ∷ map (seq_left w (name_of i)) (history_of w path offset));
      registered = option_map_or (λ c. c.made.moment) (join_course i DecidingRead f.machine) 0;
      renewed = renewed_by_now w i f;
    }

-- Whether it counts.
abbrev pub has_begun : SessionId → Found → Bool
has_begun i f = is_none f.session.job || is_some (deciding_sample i f)

abbrev pub standing_by : World → List ℕ → ℕ → SessionId → Option Found → IdSession
standing_by w path offset i None = blank
standing_by w path offset i (Some f) =
    elim (is_sector_of w.layout path offset f.session && has_begun i f) [ false ↦ blank | true ↦ standing_of w path offset i f ]

-- Where a session stands with the sector of this place.
abbrev pub session_at : World → List ℕ → ℕ → IdName → IdSession
session_at w path offset n = standing_by w path offset (session_named_so n) (session_of_world w (session_named_so n))

-- The state of the id whose sector stands at this place.
abbrev pub id_state : World → List ℕ → ℕ → State
id_state w path offset =
    record {
      now = w.moment;
      count = length (history_of w path offset);
      landing = λ k. option_map_or (landing_of w) (numbered_landing (history_of w path offset) k) no_landing;
      session = session_at w path offset;
    }
