-- Acquires beside what may stand in their way, each a schedule.
use Rattle.sl_examples.specs.WorkedSchedules.{two_machines}
use Rattle.sl_examples.specs.CheapDigest.{cheap_language, cheap_program}
use Rattle.sl_examples.specs.QuietTests.{Outcome, outcome_from}
use Rattle.sl_report.specs.Schedules.{Header_read, Header_refused, numbered_lines, read_header}
use Rattle.sl_run.specs.Worlds.{Daemon, World, change_machine, world_with}
use Rattle.sl_run.specs.declared.event.Event.TheVariants.{GiveCommand}
use Rattle.sl_text.specs.Forms.{as_bytes}
use Rattle.sl_trace.specs.Traces.{no_effects}
use Rattle.sl_trace.specs.declared.effects.Call.{Call}
use Rattle.sl_trace.specs.declared.effects.Effects.{Effects}
use Rattle.sl_trace.specs.declared.effects.Entry.{Entry}
use Rattle.sl_trace.specs.declared.effects.LeaseStep.TheVariants.{ReadArea}
use Rattle.sl_trace.specs.declared.effects.Op.TheVariants.{ReadSectors}
use Rattle.sl_trace.specs.declared.effects.Purpose.TheVariants.{Lease}
use Rattle.sl_trace.specs.declared.effects.Work.TheVariants.{ForJob}
use Rattle.sl_trace.specs.declared.input.Input.TheVariants.{Wake}
use Rattle.std.specs.List.{range_with_len}
use Rattle.std.specs.Prelude.{List, None, Option, codes, map, option_map, [], ℕ, ◌*◌, ◌++◌, ◌+◌, ◌∷◌}

-- Nothing stands in the way: six calls, and the grant with the answer to the sixth.
abbrev pub alone_exclusive : List (List ℕ)
alone_exclusive =
    two_machines ++ (
    codes "command 1 acquire -r ls:r:/d:1048576 -p 7" ∷ codes "do 1 1" ∷ codes "do 1 2" ∷ codes "do 1 3" ∷ codes "do 1 4" ∷ codes "pass 60" ∷
    codes "do 1 5" ∷ codes "do 1 6" ∷ []
    )

-- .. shared: eight calls.
abbrev pub alone_shared : List (List ℕ)
alone_shared =
    two_machines ++ (
    codes "command 1 acquire -r ls:r:/d:1048576:SH -p 7" ∷ codes "do 1 1" ∷ codes "do 1 2" ∷ codes "do 1 3" ∷ codes "do 1 4" ∷ codes "do 1 5" ∷
    codes "do 1 6" ∷ codes "do 1 7" ∷ codes "do 1 8" ∷ []
    )

-- The third call waits for io.
abbrev pub answered_late : List (List ℕ)
answered_late =
    two_machines ++ (
    codes "command 1 acquire -r ls:r:/d:1048576 -p 7" ∷ codes "do 1 1" ∷ codes "do 1 2" ∷ codes "pass 100" ∷ codes "do 1 3" ∷ []
    )

-- A call is answered failed.
abbrev pub answered_failed : List (List ℕ)
answered_failed =
    two_machines ++ (codes "command 1 acquire -r ls:r:/d:1048576 -p 7" ∷ codes "do 1 1" ∷ codes "answer 1 2 failed" ∷ [])

-- Machine 2 writes a block of the same instance meanwhile.
abbrev pub second_writer : List (List ℕ)
second_writer =
    two_machines ++ (
    codes "command 1 acquire -r ls:r:/d:1048576 -p 7" ∷ codes "command 2 acquire -r ls:r:/d:1048576 -p 9" ∷ codes "sample 1 1 4" ∷
    codes "sample 2 1 4" ∷ codes "answer 1 1 ok" ∷ codes "answer 2 1 ok" ∷ codes "land 2 2" ∷ codes "do 1 2" ∷ codes "do 1 3" ∷ []
    )

-- Machine 2 holds it shared before: nine events.
abbrev pub shared_elsewhere : List (List ℕ)
shared_elsewhere =
    two_machines ++ (
    codes "command 2 acquire -r ls:r:/d:1048576:SH -p 9" ∷ codes "do 2 1" ∷ codes "do 2 2" ∷ codes "do 2 3" ∷ codes "do 2 4" ∷ codes "do 2 5" ∷
    codes "do 2 6" ∷ codes "do 2 7" ∷ codes "do 2 8" ∷ codes "command 1 acquire -r ls:r:/d:1048576 -p 7" ∷ codes "do 1 1" ∷ codes "do 1 2" ∷
    codes "do 1 3" ∷ []
    )

-- The process exits.
abbrev pub process_exits : List (List ℕ)
process_exits =
    two_machines ++ (codes "command 1 acquire -r ls:r:/d:1048576 -p 7" ∷ codes "do 1 1" ∷ codes "exit 1 7" ∷ codes "do 1 2" ∷ [])

-- Machine 2 holds it exclusive: seven events before.
abbrev pub held_elsewhere : List (List ℕ)
held_elsewhere =
    two_machines ++ (
    codes "command 2 acquire -r ls:r:/d:1048576 -p 9" ∷ codes "do 2 1" ∷ codes "do 2 2" ∷ codes "do 2 3" ∷ codes "do 2 4" ∷ codes "do 2 5" ∷
    codes "do 2 6" ∷ codes "command 1 acquire -r ls:r:/d:1048576 -p 7" ∷ codes "do 1 1" ∷ []
    )

-- The first read of a resource's area, the n-th of many.
abbrev pub asked_area : ℕ → Call
asked_area n =
    record {
      number = n;
      session = 0;
      purpose = Lease (ForJob (n + 300)) (ReadArea (codes "x"));
      path = codes "/d";
      offset = (n + 1) * 1048576;
      op = ReadSectors 4;
    }

-- The daemon with this entry alone.
abbrev pub only_with : Entry → Daemon → Daemon
only_with e d = record d { trace = e ∷ [] }

-- Machine 1's daemon with so many leases asked for, and nothing answered yet: what so many commands leave, without their lines.
abbrev pub asking_for : ℕ → World → World
asking_for n w =
    let fx : Effects = no_effects in
    let e : Entry = record { reading = 0; input = Wake; effects = record fx { calls = map asked_area (range_with_len 1 n) } } in
    change_machine 1 (λ a. record a { daemon = option_map (only_with e) a.daemon }) w

-- The acquire of a free resource beside them.
abbrev pub beside_leases : ℕ → Option Outcome
beside_leases n =
    elim (read_header cheap_language [] 1 (numbered_lines (as_bytes two_machines))) [
      | Header_refused k r ↦ None
      | Header_read h rest ↦ outcome_from (asking_for n (world_with cheap_program h)) (GiveCommand 1 (codes "acquire -r ls:r:/d:1048576 -p 7") ∷ [])
    ]
