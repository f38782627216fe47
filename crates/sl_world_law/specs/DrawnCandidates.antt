-- The candidates of a generated schedule, by what is kept of the world.
use Rattle.sl_world_state.specs.KeptWorld.{KeptState, MachineState, machine_in}
use Rattle.sl_world_state.specs.Refusals.{refusal_in}
use Rattle.sl_world_state.specs.SaneWorlds.{IsSane}
use Rattle.sl_world_state.specs.ShownWorlds.{Tells}
use Rattle.sl_report.specs.GeneratedSchedules.{gen_event, gen_host_name, gen_path, gen_resource_word, is_starving, is_useful_test, least_call as the_least_call, least_ended as the_least_ended, with_call}
use Rattle.sl_run.specs.Worlds.{World}
use Rattle.sl_run.specs.declared.event.Event.TheVariants.{AnswerCall, Crash, Do, DropWrite, ExitOf, GiveCommand, Pass, Reset, Restart, StartDaemon, Test, WakeUp}
use Rattle.sl_run.specs.declared.event.Event.{Event}
use Rattle.sl_run.specs.declared.header.Header.{Header}
use Rattle.sl_text.specs.Forms.{Form, coloned, spaced}
use Rattle.sl_time.specs.Times.{reading_of}
use Rattle.sl_trace.specs.WatchdogConnections.{test_holds}
use Rattle.sl_trace.specs.declared.command.Command.{Command}
use Rattle.sl_words.specs.Words.{first_of_list, least, some_is}
use Rattle.std.specs.List.{enumerate_from, range_with_len}
use Rattle.std.specs.Prelude.{Bool, List, None, Option, codes, decimal, false, filter, filter_map, find, if◌then◌else◌, is_none, map, nat_le, nat_lt, not, option_and_then, option_map, option_to_list, unwrap_or, [], ℕ, ◌%◌, ◌&&◌, ◌++◌, ◌+◌, ◌==◌, ◌∷◌, ◌≡◌}

-- ---- what is asked of machines

-- The least call in flight of a machine.
abbrev pub least_call_in : KeptState → ℕ → Option ℕ
least_call_in k m = option_and_then (λ s. least (map (λ f. f.number) s.flights)) (machine_in k m)

-- The least call in flight of an ended daemon of a machine, with the machine.
abbrev pub ended_in : ℕ × MachineState → Option (ℕ × ℕ)
ended_in p = option_map (λ c. (p.0, c)) (least (map (λ f. f.number) (filter (λ f. not f.own) p.1.flights)))

-- That of the least machine that has one.
abbrev pub least_ended_in : KeptState → Option (ℕ × ℕ)
least_ended_in k = first_of_list (filter_map ended_in (enumerate_from 1 k.machines))

-- Whether a test would hold and move the keepalive.
abbrev pub is_useful_in : KeptState → ℕ → Bool
is_useful_in k m = some_is (λ s. s.up && test_holds s.connections (reading_of s.clock) && nat_lt s.kept k.moment) (machine_in k m)

-- Whether a machine's last keepalive is so old that it is soon reset.
abbrev pub starves_in : KeptState → ℕ → Bool
starves_in k m = some_is (λ s. s.up && nat_le (s.kept + 550) k.moment) (machine_in k m)

-- ---- candidates

-- Where these are the answers.
abbrev pub candidates_with : Option ℕ → List ℕ → Option (ℕ × ℕ) → List ℕ → ℕ → ℕ → ℕ → ℕ → List Event
candidates_with f useful ended starving m b c number =
    let k : ℕ = 1 + c % 4 in
    let p : ℕ = 1 + c % 3 in
    let kind : ℕ = b % 16 in
    if nat_lt kind 2 then
    Pass 50 None ∷ map (λ t. Test t) useful ++ option_to_list (option_map (λ q. DropWrite q.0 q.1) ended) ++ map (λ t. Reset t) starving
    else (if nat_lt kind 4 then WakeUp m ∷ Restart m ∷ StartDaemon m (gen_host_name m ++ codes "_" ++ decimal number) ∷ []
    else (if kind == 4 then Test m ∷ []
    else (if nat_lt kind 11 then with_call f (λ n. Do m n) ++ with_call f (λ n. DropWrite m n)
    else (if kind == 11 then with_call f (λ n. AnswerCall m n false) ++ with_call f (λ n. DropWrite m n)
    else (if kind == 12 then
    GiveCommand m (spaced (codes "acquire" ∷ codes "-r" ∷ gen_resource_word k (c % 5 == 0) ∷ codes "-p" ∷ decimal p ∷ [])) ∷ []
    else (if kind == 13 then
    GiveCommand m (spaced (codes "release" ∷ codes "-r" ∷ gen_resource_word k false ∷ codes "-p" ∷ decimal p ∷ [])) ∷ []
    else (if kind == 14 then ExitOf m p ∷ []
    else (if c % 32 == 0 then Reset m ∷ []
    else (if c % 32 == 1 then Crash m ∷ []
    else (if c % 32 == 2 then
    GiveCommand m (spaced (codes "add_lockspace" ∷ codes "-s" ∷ coloned (codes "ls" ∷ decimal m ∷ gen_path ∷ decimal 0 ∷ []) ∷ [])) ∷ []
    else WakeUp m ∷ []))))))))))

-- The candidates of one event, for its draws and its number.
unfoldable pub candidates_in : KeptState → ℕ → ℕ → ℕ → ℕ → ℕ → List Event
candidates_in k hosts a b c number =
    let m : ℕ = 1 + a % hosts in
    candidates_with (least_call_in k m) (filter (is_useful_in k) (range_with_len 1 hosts)) (least_ended_in k) (filter (starves_in k) (range_with_len 1 hosts)) m b c number

-- The first that what is kept allows.
abbrev pub gen_event_in : (Header → List (Form Command)) → KeptState → ℕ → ℕ → ℕ → ℕ → ℕ → Event
gen_event_in commands k hosts a b c number =
    unwrap_or (find (λ e. is_none (refusal_in commands k e)) (candidates_in k hosts a b c number)) (Pass 0 None)

-- ---- they are the world's

pub record QuestionsAreKept (k : KeptState) (w : World) : Type 0 where
  pub least_call : (m : ℕ) → the_least_call w m ≡ least_call_in k m
  pub least_ended : the_least_ended w ≡ least_ended_in k
  pub is_useful : (m : ℕ) → is_useful_test w m ≡ is_useful_in k m
  pub starves : (m : ℕ) → is_starving w m ≡ starves_in k m

abbrev pub QuestionsStand : Type 0
QuestionsStand = (k : KeptState) (w : World) → Tells k w → QuestionsAreKept k w

abbrev pub DrawsAreKept : Type 0
DrawsAreKept =
    (commands : Header → List (Form Command)) (k : KeptState) (w : World) → Tells k w → IsSane commands w → (hosts a b c number : ℕ)
    → gen_event w hosts a b c number ≡ gen_event_in commands k hosts a b c number
