-- The schedule that a seed gives, and what `gen` prints.
use Rattle.sl_report.specs.DueRuns.{effects_of}
use Rattle.sl_report.specs.Reports.{end_line, no_counts, run_counts}
use Rattle.sl_report.specs.Schedules.{default_area, default_sector}
use Rattle.sl_run.specs.EventChanges.{happens}
use Rattle.sl_run.specs.Refusals.{may_happen}
use Rattle.sl_run.specs.Runs.{Happening}
use Rattle.sl_run.specs.Worlds.{Machine, Program, World, flights, is_of_running, machine_at, mebibyte, reading_now, world_with}
use Rattle.sl_run.specs.declared.event.Event.TheVariants.{AnswerCall, Crash, Do, DropWrite, ExitOf, GiveCommand, Pass, Reset, Restart, StartDaemon, Test, WakeUp}
use Rattle.sl_run.specs.declared.event.Event.{Event}
use Rattle.sl_run.specs.declared.header.Header.{Header}
use Rattle.sl_run.specs.declared.header.ResourceLine.{ResourceLine}
use Rattle.sl_text.specs.Forms.{coloned, spaced}
use Rattle.sl_trace.specs.CommandForms.{moded_word}
use Rattle.sl_trace.specs.WatchdogConnections.{test_holds}
use Rattle.sl_trace.specs.declared.effects.Effects.{Effects}
use Rattle.sl_words.specs.Words.{first_of_list, least, some_is}
use Rattle.std.specs.List.{enumerate_from, range_with_len}
use Rattle.std.specs.Prelude.{Bool, List, None, Option, Some, codes, decimal, false, filter, filter_map, find, if◌then◌else◌, map, nat_le, nat_lt, not, option_and_then, option_map, option_to_list, suc, unwrap_or, zero, [], ℕ, ◌%◌, ◌&&◌, ◌*◌, ◌++◌, ◌+◌, ◌/◌, ◌==◌, ◌^◌, ◌∷◌, ◌≡◌}

-- The next state of the draws.
abbrev pub next_state : ℕ → ℕ
next_state x = (x * 6364136223846793005 + 1442695040888963407) % 2 ^ 64

-- The draw that a state gives.
abbrev pub draw_of : ℕ → ℕ
draw_of x = x / 2 ^ 33

-- The disk of the generated schedules.
abbrev pub gen_path : List ℕ
gen_path = codes "/d"

-- The name of a machine's first daemon.
abbrev pub gen_host_name : ℕ → List ℕ
gen_host_name m = codes "h" ++ decimal m

-- Resource k.
abbrev pub gen_resource : ℕ → ResourceLine
gen_resource k = record { lockspace = codes "ls"; name = codes "r" ++ decimal k; path = gen_path; offset = k * mebibyte }

-- The header for so many machines, whose areas have pairs or not.
abbrev pub gen_header : ℕ → Bool → Header
gen_header hosts paired =
    record {
      timing = record { io = 100; fire = 600; land = 100; rho = 0 };
      grace = 300;
      machines = hosts;
      geometry = record { sector = default_sector; area = default_area; hosts = hosts; paired = paired };
      retries = 0;
      clocks = [];
      disks = record { path = gen_path; mebibytes = 8 } ∷ [];
      lockspaces = record { name = codes "ls"; path = gen_path; offset = 0 } ∷ [];
      resources = map gen_resource (range_with_len 1 4);
      sessions = map (λ m. record { machine = m; lockspace = codes "ls"; id = m; name = gen_host_name m }) (range_with_len 1 hosts);
    }

-- The least call in flight of the machine.
abbrev pub least_call : World → ℕ → Option ℕ
least_call w m = option_and_then (λ a. least (map (λ c. c.call.number) (flights a))) (machine_at w m)

-- The least machine with a call in flight of an ended daemon, and the least such call.
abbrev pub ended_calls : ℕ × Machine → Option (ℕ × ℕ)
ended_calls p = option_map (λ c. (p.0, c)) (least (map (λ c. c.call.number) (filter (λ c. not (is_of_running p.1 c)) (flights p.1))))

-- The least such machine with its call.
abbrev pub least_ended : World → Option (ℕ × ℕ)
least_ended w = first_of_list (filter_map ended_calls (enumerate_from 1 w.machines))

-- A test that would hold and moves the keepalive.
abbrev pub is_useful_test : World → ℕ → Bool
is_useful_test w m = some_is (λ a. a.up && test_holds a.connections (reading_now a) && nat_lt a.kept.moment w.moment) (machine_at w m)

-- Whether the machine's last keepalive is so old that it is soon reset.
abbrev pub is_starving : World → ℕ → Bool
is_starving w m = some_is (λ a. a.up && nat_le (a.kept.moment + 550) w.moment) (machine_at w m)

-- The word of resource k.
abbrev pub gen_resource_word : ℕ → Bool → List ℕ
gen_resource_word k shared =
    let r : ResourceLine = gen_resource k in
    moded_word (record { lockspace = r.lockspace; name = r.name; path = r.path; offset = r.offset }) shared

-- The candidates that name a call, where there is one.
abbrev pub with_call : Option ℕ → (ℕ → Event) → List Event
with_call None f = []
with_call (Some c) f = f c ∷ []

-- The candidates of one event, in order, for the draws a, b and c and the event's number.
unfoldable pub candidates : World → ℕ → ℕ → ℕ → ℕ → ℕ → List Event
candidates w hosts a b c number =
    let m : ℕ = 1 + a % hosts in
    let k : ℕ = 1 + c % 4 in
    let p : ℕ = 1 + c % 3 in
    let f : Option ℕ = least_call w m in
    let kind : ℕ = b % 16 in
    if nat_lt kind 2 then
    Pass 50 None ∷ map (λ t. Test t) (filter (is_useful_test w) (range_with_len 1 hosts))
    ++ option_to_list (option_map (λ q. DropWrite q.0 q.1) (least_ended w))
    ++ map (λ t. Reset t) (filter (is_starving w) (range_with_len 1 hosts))
    else (if nat_lt kind 4 then WakeUp m ∷ Restart m ∷ StartDaemon m (gen_host_name m ++ codes "_" ++ decimal number) ∷ []
    else (if kind == 4 then Test m ∷ []
    else (if nat_lt kind 11 then with_call f (λ n. Do m n) ++ with_call f (λ n. DropWrite m n)
    else (if kind == 11 then with_call f (λ n. AnswerCall m n false) ++ with_call f (λ n. DropWrite m n)
    else (if kind == 12 then
    GiveCommand m (spaced (codes "acquire" ∷ codes "-r" ∷ gen_resource_word k (c % 5 == 0) ∷ codes "-p" ∷ decimal p ∷ [])) ∷ []
    else (if kind == 13 then
    GiveCommand m (spaced (codes "release" ∷ codes "-r" ∷ gen_resource_word k false ∷ codes "-p" ∷ decimal p ∷ [])) ∷ []
    else (if kind == 14 then ExitOf m p ∷ []
    else (if c % 32 == 0 then Reset m ∷ []
    else (if c % 32 == 1 then Crash m ∷ []
    else (if c % 32 == 2 then
    GiveCommand m (spaced (codes "add_lockspace" ∷ codes "-s" ∷ coloned (codes "ls" ∷ decimal m ∷ gen_path ∷ decimal 0 ∷ []) ∷ [])) ∷ []
    else WakeUp m ∷ []))))))))))

-- The first that the world allows.
abbrev pub gen_event : World → ℕ → ℕ → ℕ → ℕ → ℕ → Event
gen_event w hosts a b c number = unwrap_or (find (may_happen w) (candidates w hosts a b c number)) (Pass 0 None)

-- The run of so many further events, from this state of the draws on.
abbrev pub gen_run : ℕ → ℕ → ℕ → World → ℕ → List Happening
gen_run zero number hosts w x = []
gen_run (suc n) number hosts w x =
    let y : ℕ = next_state x in
    let z : ℕ = next_state y in
    let u : ℕ = next_state z in
    let e : Event = gen_event w hosts (draw_of y) (draw_of z) (draw_of u) number in
    let fxs : List Effects = effects_of w e in
    (e, fxs) ∷ gen_run n (number + 1) hosts (happens w e fxs) u

-- These happenings have the events of the seed's schedule: each is the first that the world before it allows.
abbrev pub IsGenerated : ℕ → ℕ → World → ℕ → List Happening → Type 0
IsGenerated number hosts w x [] = Unit {0}
IsGenerated number hosts w x (e ∷ es) =
    let y : ℕ = next_state x in
    let z : ℕ = next_state y in
    let u : ℕ = next_state z in
    (e.0 ≡ gen_event w hosts (draw_of y) (draw_of z) (draw_of u) number) × IsGenerated (number + 1) hosts (happens w e.0 e.1) u es

-- The first line that `gen` prints; a last word says that areas have pairs.
abbrev pub gen_line : ℕ → ℕ → ℕ → Bool → List ℕ
gen_line seed hosts events paired =
    spaced (codes "gen" ∷ decimal seed ∷ decimal hosts ∷ decimal events ∷ (if paired then codes "2" ∷ [] else []))

-- What `gen` prints, each daemon doing what is due.
abbrev pub gen_lines : Program → ℕ → ℕ → ℕ → Bool → List (List ℕ)
gen_lines p seed hosts events paired =
    let w : World = world_with p (gen_header hosts paired) in
    gen_line seed hosts events paired ∷ end_line (run_counts w no_counts (gen_run events 1 hosts w seed)) ∷ []
