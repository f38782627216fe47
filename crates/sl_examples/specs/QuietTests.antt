-- An acquire that nothing stands in the way of, as tests that compute: which of its premises a run breaks, each by a name, and whether the
-- acquire is granted by as many calls as it needs. (They mirror `QuietStart`, `QuietStep` and `IsGrantedQuietly` field by field.)
use Rattle.sl_examples.specs.CheapDigest.{cheap_language, cheap_program}
use Rattle.sl_examples.specs.WorldTests.{read_events}
use Rattle.sl_trace.specs.Ballots.{in_instance, next_mbal}
use Rattle.sl_trace.specs.Counts.{held_here, limit_met, may_act}
use Rattle.sl_trace.specs.Leases.{is_leader_of, is_on, known, open_on, owed, spot_of}
use Rattle.sl_report.specs.DueRuns.{allowed, due_run}
use Rattle.sl_report.specs.Schedules.{Header_read, Header_refused, event_lines_of, numbered_lines, read_header}
use Rattle.sl_run.specs.EventChanges.{happens}
use Rattle.sl_run.specs.Inputs.{machine_of}
use Rattle.sl_run.specs.Quiet.{before_command, blocks_needed, calls_needed, job_calls, leader_there, request_there}
use Rattle.sl_run.specs.Runs.{Happening, world_after}
use Rattle.sl_run.specs.Safety.{block_there, pair_there}
use Rattle.sl_run.specs.Worlds.{Daemon, Machine, World, is_open, is_write_course, machine_at, reading_now, world_with}
use Rattle.sl_run.specs.declared.event.Event.TheVariants.{Crash, ExitOf, GiveCommand, Reset}
use Rattle.sl_run.specs.declared.event.Event.{Event}
use Rattle.sl_sector.specs.declared.sector.Leader.{Leader}
use Rattle.sl_trace.specs.Sessions.{is_active, session_named, session_numbered}
use Rattle.sl_trace.specs.Sightings.{counts_over}
use Rattle.sl_trace.specs.declared.session.Session.{Session}
use Rattle.sl_text.specs.Forms.{as_bytes}
use Rattle.sl_trace.specs.Traces.{Answered, Replied, Submitted, Trace, entry_at, is_of_job, is_ok_answer, is_shared, is_write, next_job, reply_to, same_place, submitted, waiting_call}
use Rattle.sl_trace.specs.declared.command.Command.TheVariants.{Acquire}
use Rattle.sl_trace.specs.declared.command.Command.{Command}
use Rattle.sl_trace.specs.declared.command.ResourceArg.{ResourceArg}
use Rattle.sl_trace.specs.declared.effects.Spot.{Spot}
use Rattle.sl_trace.specs.declared.reply.Reply.TheVariants.{Granted}
use Rattle.sl_trace.specs.declared.reply.Reply.{Reply}
use Rattle.sl_words.specs.Bounds.{record_numbers}
use Rattle.sl_words.specs.Words.{first_of_list, is_empty, some_is}
use Rattle.std.specs.List.{list_all, list_any, range_with_len}
use Rattle.std.specs.Option.{option_map_or}
use Rattle.std.specs.Prelude.{Bool, List, None, Ok, Option, Result, Some, bytes_eq, codes, drop, false, filter, flat_map, is_none, is_some, length, map, nat_le, nat_lt, not, option_and_then, option_map, option_to_list, take, true, [], ℕ, ◌&&◌, ◌++◌, ◌+◌, ◌==◌, ◌||◌, ◌∷◌}

-- ---- the acquire

-- An acquire as it begins.
pub record Try : Type 0 where
  pub machine : ℕ
  pub resource : ResourceArg
  pub shared : Bool
  pub process : ℕ
  pub persistent : Bool
  pub job : ℕ
  pub session : Session
  pub leader : Leader

-- The area of its resource.
abbrev pub try_spot : Try → Spot
try_spot t = spot_of t.resource

-- What the command of a line to this daemon tries, if its session and the leader are there.
abbrev pub tried_by : World → ℕ → Machine → Daemon → Result Command ℕ → Option Try
tried_by w m a d (Ok (Acquire r shared p persistent)) =
    option_and_then (λ s. option_map (λ l. record {
      machine = m;
      resource = r;
      shared = shared;
      process = p;
      persistent = persistent;
      job = next_job d.setting d.trace;
      session = s;
      leader = l;
    }) (leader_there w (spot_of r)))
    (session_named d.setting (before_command d (reading_now a)) r.lockspace)
tried_by w m a d c = None

-- What the event's command tries.
abbrev pub tries : World → Event → Option Try
tries w (GiveCommand m text) =
    option_and_then (λ a. option_and_then (λ d. tried_by w m a d (d.setting.read text)) a.daemon) (machine_at w m)
tries w e = None

-- ---- tests

-- The names of the tests that fail.
abbrev pub failed : List (List ℕ × Bool) → List (List ℕ)
failed ts = map (λ t. t.0) (filter (λ t. not t.1) ts)

-- What is tested of the machine's running daemon and its session.
abbrev pub on_daemon : World → Try → (Machine → Daemon → Session → Bool) → Bool
on_daemon w t f =
    list_all (λ a. list_all (λ d. list_all (f a d) (option_to_list (session_numbered d.setting d.trace t.session.number))) (option_to_list a.daemon))
    (option_to_list (machine_at w t.machine))

-- The hosts of the area.
abbrev pub hosts_of : World → List ℕ
hosts_of w = range_with_len 1 w.layout.hosts

-- What must be at the start.
abbrev pub start_tests : World → Try → List (List ℕ × Bool)
start_tests w t =
    let at : Spot = try_spot t in
    (codes "process", on_daemon w t (λ a d s. may_act d.trace t.process))
    ∷ (codes "active", on_daemon w t (λ a d s. is_active d.setting (before_command d (reading_now a)) s))
    ∷ (codes "holding", on_daemon w t (λ a d s. is_empty (held_here d.trace at)))
    ∷ (codes "settled", on_daemon w t (λ a d s. is_none (owed (known d.setting d.trace s at))))
    ∷ (codes "call", on_daemon w t (λ a d s. is_empty (open_on d.setting d.trace at)))
    ∷ (codes "limit", on_daemon w t (λ a d s. is_none (limit_met d.setting d.trace s at false)))
    ∷ (codes "names", is_leader_of w.layout t.resource.lockspace t.resource.name t.leader)
    ∷ (codes "free", not t.leader.held)
    ∷ (codes "numbers", nat_lt (t.leader.lver + 1) record_numbers)
    ∷ (
      codes "ballot",
      on_daemon w t (λ a d s. nat_lt (next_mbal w.layout.hosts s.id
          (map (λ b. b.mbal) (in_instance (t.leader.lver + 1) (option_to_list (known d.setting d.trace s at).own)))) record_numbers),
    )
    ∷ (codes "request", w.layout.paired || is_some (request_there w at))
    ∷ (codes "blocks", list_all (λ host. some_is (λ b. nat_le b.lver t.leader.lver) (block_there w at host)) (hosts_of w))
    ∷ (codes "pairs", not w.layout.paired || list_all (λ host. is_some (pair_there w at host false)) (hosts_of w))
    ∷ (
      codes "turns",
      not w.layout.paired || list_all (λ first.
          option_map_or (λ b. nat_lt (b.turn + blocks_needed t.shared) record_numbers) (pair_there w at t.session.id first) true) (true ∷ false ∷ []),
    )
    ∷ (codes "flights", list_all (λ b. list_all (λ c. not (is_write_course c && is_open b c && is_on w.layout at c.call)) b.calls) w.machines)
    ∷ []

-- Whether a call was answered ok less than io after its submission, or waits for less.
abbrev pub in_time : ℕ → ℕ → Submitted → Option Answered → Bool
in_time io now c None = nat_lt now (c.reading + io)
in_time io now c (Some b) = is_ok_answer b.answer && nat_lt b.reading (c.reading + io)

-- Whether the event ends the process, or the daemon.
abbrev pub is_end_of : Try → Event → Bool
is_end_of t (ExitOf m p) = m == t.machine && p == t.process
is_end_of t (Crash m) = m == t.machine
is_end_of t (Reset m) = m == t.machine
is_end_of t e = false

-- What must be in each event; v is the world after it.
abbrev pub step_tests : World → Try → Happening → World → List (List ℕ × Bool)
step_tests w t x v =
    let at : Spot = try_spot t in (
      codes "modes",
      t.shared || list_all (λ host. host == t.session.id || on_daemon w t (λ a d s.
          list_all (λ b. not b.shared || counts_over d.setting d.trace s host b.mode_gen) (option_to_list (block_there w at host)))) (hosts_of w),
    )
    ∷ (codes "writers", machine_of x.0 == t.machine || list_all (λ fx. list_all (λ c. not (is_write c.op && is_on w.layout at c)) fx.calls) x.1)
    ∷ (codes "active", on_daemon v t (λ a d s. is_active d.setting d.trace s))
    ∷ (codes "stays", not (is_end_of t x.0))
    ∷ (
      codes "answers",
      on_daemon v t (λ a d s.
          list_all (λ c. not (is_of_job t.job c) || in_time w.header.timing.io (reading_now a) c c.answer) (submitted d.trace)),
    )
    ∷ []

-- The tests that fail in these events.
abbrev pub broken_on : World → Try → List Happening → List (List ℕ)
broken_on w t [] = []
broken_on w t (x ∷ xs) = let v : World = happens w x.0 x.1 in failed (step_tests w t x v) ++ broken_on v t xs

-- Each name once.
abbrev pub each_once : List (List ℕ) → List (List ℕ)
each_once [] = []
each_once (n ∷ ns) = n ∷ filter (λ k. not (bytes_eq k n)) (each_once ns)

-- ---- what it has in the end

-- Whether the reply is the grant of this instance.
abbrev pub grants_lver : ℕ → Reply → Bool
grants_lver lver (Granted n) = n == lver
grants_lver lver r = false

-- Whether both are so, or neither is.
abbrev pub if_same : Bool → Bool → Bool
if_same true b = b
if_same false b = not b

-- Whether the reply grants it in the step that answered the last call of as many as it needs.
abbrev pub is_granted_by : Trace → Try → Replied → Bool
is_granted_by es t q =
    let lver : ℕ = t.leader.lver + 1 in
    grants_lver lver q.reply && length (job_calls es t.job) == calls_needed t.shared
    && some_is (λ c. some_is (λ b. b.at == q.at) c.answer) (first_of_list (job_calls es t.job))
    && some_is (λ e. list_any (λ g. g.process == t.process && if_same (is_shared g.mode) t.shared && if_same g.persistent t.persistent && g.lver == lver
    && same_place g.path g.offset t.resource.path t.resource.offset) e.effects.grants) (entry_at es q.at)

-- What came of it: the premises that were broken, how many calls it made, and whether it was granted; or it waits.
pub record Outcome : Type 0 where
  pub broken : List (List ℕ)
  pub calls : ℕ
  pub granted : Bool
  pub waits : Bool

-- The trace of its machine's daemon.
abbrev pub trace_now : World → Try → Trace
trace_now w t = flat_map (λ d. d.trace) (option_to_list (option_and_then (λ a. a.daemon) (machine_at w t.machine)))

abbrev pub outcome_of : World → Try → List Happening → Outcome
outcome_of w t xs =
    let es : Trace = trace_now (world_after w xs) t in
    record {
      broken = each_once (failed (start_tests w t) ++ broken_on w t xs);
      calls = length (job_calls es t.job);
      granted = some_is (is_granted_by es t) (reply_to es t.job);
      waits = is_none (reply_to es t.job) && is_some (waiting_call es t.job);
    }

-- What comes of the acquire that the first of these events brings, from the world before it on.
abbrev pub outcome_from : World → List Event → Option Outcome
outcome_from w [] = None
outcome_from w (e ∷ es) = option_map (λ t. outcome_of w t (due_run w (e ∷ es))) (tries w e)

-- What comes of the acquire that a source's event brings behind so many others, each daemon doing what is due.
abbrev pub outcome_in : List (List ℕ) → ℕ → Option Outcome
outcome_in ls before =
    elim (read_header cheap_language [] 1 (numbered_lines (as_bytes ls))) [
      | Header_refused n r ↦ None
      | Header_read h rest ↦
          let w : World = world_with cheap_program h in
          let es : List Event = allowed w (read_events (event_lines_of cheap_language h rest)) in
          outcome_from (world_after w (due_run w (take before es))) (drop before es)
    ]

-- It was granted by so many calls, and no premise was broken.
abbrev pub granted_by : ℕ → Option Outcome
granted_by calls = Some (record { broken = []; calls = calls; granted = true; waits = false })

-- It was refused after so many calls, and one premise alone was broken, which has this name.
abbrev pub refused_but_for : List ℕ → ℕ → Option Outcome
refused_but_for premise calls = Some (record { broken = premise ∷ []; calls = calls; granted = false; waits = false })
