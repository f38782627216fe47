-- The candidates of an event, one kind of event after another.
use Rattle.sl_world_state.specs.KeptWorld.{KeptState}
use Rattle.sl_world_state.specs.Refusals.{refusal_in}
use Rattle.sl_report.specs.GeneratedSchedules.{gen_host_name, gen_path, gen_resource_word, with_call}
use Rattle.sl_run.specs.declared.event.Event.TheVariants.{AnswerCall, Crash, Do, DropWrite, ExitOf, GiveCommand, Pass, Reset, Restart, StartDaemon, Test, WakeUp}
use Rattle.sl_run.specs.declared.event.Event.{Event}
use Rattle.sl_run.specs.declared.header.Header.{Header}
use Rattle.sl_text.specs.Forms.{Form, coloned, spaced}
use Rattle.sl_trace.specs.declared.command.Command.{Command}
use Rattle.sl_world_law.specs.DrawnCandidates.{is_useful_in, least_ended_in, starves_in}
use Rattle.std.specs.List.{range_with_len}
use Rattle.std.specs.Prelude.{Bool, List, None, Option, Some, codes, decimal, false, filter, find, if◌then◌else◌, is_none, map, option_map, option_to_list, unwrap_or, [], ℕ, ◌%◌, ◌++◌, ◌+◌, ◌==◌, ◌∷◌}

-- Tests that would hold and move a keepalive.
abbrev pub useful_tests : KeptState → ℕ → List Event
useful_tests k hosts = map (λ t. Test t) (filter (is_useful_in k) (range_with_len 1 hosts))

-- Resets of machines whose last keepalive is soon too old.
abbrev pub due_resets : KeptState → ℕ → List Event
due_resets k hosts = map (λ t. Reset t) (filter (starves_in k) (range_with_len 1 hosts))

-- The call of a machine, with it, or what was found behind.
abbrev pub first_with : ℕ → Option ℕ → Option (ℕ × ℕ) → Option (ℕ × ℕ)
first_with m None rest = rest
first_with m (Some c) rest = Some (m, c)

-- The drop of a write of an ended daemon, where there is one.
abbrev pub due_drops : Option (ℕ × ℕ) → List Event
due_drops ended = option_to_list (option_map (λ q. DropWrite q.0 q.1) ended)

-- Time that passes, and what may then be due.
abbrev pub time_candidates : KeptState → ℕ → List Event
time_candidates k hosts = Pass 50 None ∷ useful_tests k hosts ++ due_drops (least_ended_in k) ++ due_resets k hosts

-- A daemon that is woken, a machine that comes up, or a daemon that begins.
abbrev pub life_candidates : ℕ → ℕ → List Event
life_candidates m number = WakeUp m ∷ Restart m ∷ StartDaemon m (gen_host_name m ++ codes "_" ++ decimal number) ∷ []

-- A call that is done or that fails.
abbrev pub call_event : ℕ → Bool → ℕ → Event
call_event m ok n = if ok then Do m n else AnswerCall m n false

-- It, or else a write that is dropped.
abbrev pub call_candidates : ℕ → Option ℕ → Bool → List Event
call_candidates m f ok = with_call f (call_event m ok) ++ with_call f (λ n. DropWrite m n)

-- What seldom happens.
abbrev pub rare_event : ℕ → ℕ → Event
rare_event m chance =
    if chance == 0 then Reset m
    else (if chance == 1 then Crash m
    else (if chance == 2 then GiveCommand m (spaced (codes "add_lockspace" ∷ codes "-s" ∷ coloned (codes "ls" ∷ decimal m ∷ gen_path ∷ decimal 0 ∷ []) ∷ []))
    else WakeUp m))

-- What a process asks for or gives up, or its end, or what seldom happens.
abbrev pub work_event : ℕ → ℕ → ℕ → Event
work_event m kind c =
    if kind == 12 then
    GiveCommand m (spaced (codes "acquire" ∷ codes "-r" ∷ gen_resource_word (1 + c % 4) (c % 5 == 0) ∷ codes "-p" ∷ decimal (1 + c % 3) ∷ []))
    else (if kind == 13 then
    GiveCommand m (spaced (codes "release" ∷ codes "-r" ∷ gen_resource_word (1 + c % 4) false ∷ codes "-p" ∷ decimal (1 + c % 3) ∷ []))
    else (if kind == 14 then ExitOf m (1 + c % 3) else rare_event m (c % 32)))

-- The first of these events that what is kept allows; where each is refused, time that does not pass.
abbrev pub first_allowed : (Header → List (Form Command)) → KeptState → List Event → Event
first_allowed commands k events = unwrap_or (find (λ e. is_none (refusal_in commands k e)) events) (Pass 0 None)
