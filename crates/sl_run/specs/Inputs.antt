-- The input that an event gives to a running daemon (`input_at`): none where no daemon runs, and none of an event that is about clocks,
-- disks or the machine alone. And the asks that lvmlockd's locks owe: the first machine with one (`asking`) is served before anything else
-- happens.
use Rattle.sl_run.specs.Worlds.{Course, Machine, World, content, flight_of, machine_at, sector_size}
use Rattle.sl_run.specs.declared.event.Event.TheVariants.{AnswerCall, Crash, Do, DropWrite, ExitOf, GiveAsk, GiveCommand, GiveLvm, Land, Pass, Reset, Restart, Sample, SpawnedOf, StartDaemon, Tear, Test, WakeUp}
use Rattle.sl_run.specs.declared.event.Event.{Event}
use Rattle.sl_trace.specs.declared.effects.Op.TheVariants.{ReadSectors, WriteRecord}
use Rattle.sl_trace.specs.declared.input.Answer.TheVariants.{Failed, Read, Written}
use Rattle.sl_trace.specs.declared.input.Input.TheVariants.{Answer as Told, Exit, Line, Number, Spawned, Wake}
use Rattle.sl_trace.specs.declared.input.Input.{Input}
use Rattle.sl_words.specs.Words.{choose}
use Rattle.std.specs.List.{enumerate_from, range_with_len}
use Rattle.std.specs.Prelude.{Bool, List, None, Option, false, find, flat_map, is_some, length, option_and_then, option_map, true, ℕ, ◌*◌, ◌++◌, ◌+◌}
use Rattle.sl_run.specs.Refusals.{sectors_left}

-- ---- the input that an event gives to a running daemon

-- What the read has once it has sampled so many sectors more.
abbrev pub rest_sampled : World → Course → ℕ → List ℕ
rest_sampled w f k =
    f.sampled ++ flat_map (λ i. content w f.call.path (f.call.offset + i * sector_size w)) (range_with_len (length f.samples) k)

-- The answer ok, once all is sampled or landed.
abbrev pub done_input : World → Course → Input
done_input w f = elim f.call.op [ ReadSectors n ↦ Told f.call.number (Read (rest_sampled w f (sectors_left f))) | WriteRecord r ↦ Told f.call.number Written ]

-- The answer ok of a call as it stands.
abbrev pub ok_input : Course → Input
ok_input f = elim f.call.op [ ReadSectors n ↦ Told f.call.number (Read f.sampled) | WriteRecord r ↦ Told f.call.number Written ]

-- Where a daemon runs.
abbrev pub if_running : Machine → Input → Option Input
if_running a i = choose (is_some a.daemon) i

-- The input that an event gives the daemon of its machine.
abbrev pub input_at : World → Event → Machine → Option Input
input_at w (WakeUp m) a = if_running a Wake
input_at w (GiveCommand m text) a = if_running a (Line text)
input_at w (GiveLvm m line) a = if_running a (Number line)
input_at w (GiveAsk m) a = option_and_then (λ text. if_running a (Line text)) a.locks.due
input_at w (AnswerCall m c ok) a = option_map (λ f. elim ok [ true ↦ ok_input f | false ↦ Told c Failed ]) (flight_of a c)
input_at w (Do m c) a = option_map (done_input w) (flight_of a c)
input_at w (ExitOf m p) a = if_running a (Exit p)
input_at w (SpawnedOf m p ok) a = if_running a (Spawned p ok)
input_at w e a = None

-- The machine of an event; a time that passes has none.
abbrev pub machine_of : Event → ℕ
machine_of (Pass d growths) = 0
machine_of (WakeUp m) = m
machine_of (GiveCommand m text) = m
machine_of (GiveLvm m line) = m
machine_of (GiveAsk m) = m
machine_of (Sample m c k) = m
machine_of (Land m c) = m
machine_of (Tear m c k bytes) = m
machine_of (AnswerCall m c ok) = m
machine_of (Do m c) = m
machine_of (DropWrite m c) = m
machine_of (Test m) = m
machine_of (ExitOf m p) = m
machine_of (SpawnedOf m p ok) = m
machine_of (StartDaemon m name) = m
machine_of (Crash m) = m
machine_of (Reset m) = m
machine_of (Restart m) = m

-- The input that an event gives.
abbrev pub input_of : World → Event → Option Input
input_of w e = option_and_then (input_at w e) (machine_at w (machine_of e))

-- ---- asks

-- Whether the event gives an ask.
abbrev pub is_ask : Event → Bool
is_ask (GiveAsk m) = true
is_ask e = false

-- The first machine whose locks have an ask due, to be given at once.
abbrev pub asking : World → Option ℕ
asking w = option_map (λ p. p.0) (find (λ p. is_some p.1.locks.due) (enumerate_from 1 w.machines))
