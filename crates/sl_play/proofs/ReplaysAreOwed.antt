-- What a replay owes, by its status.
use Rattle.sl_play.specs.Replays.{Breaks, Chokes, Ends, Lacks, ReplaysAreOwed, Stops}
use Rattle.sl_play.specs.declared.replay.Played.TheVariants.{Done, NoMemory, ReadFault, Refused, WriteFault}
use Rattle.sl_run.specs.declared.header.Header.{Header}
use Rattle.sl_text.specs.Forms.{Form}
use Rattle.sl_trace.specs.Traces.{Setting, Trace}
use Rattle.sl_trace.specs.declared.command.Command.{Command}
use Rattle.std.proofs.Common.{List, refl, ◌≡◌}

pub replays_are_owed : {D : Type 0} (commands : Header → List (Form Command)) (stands : D → Setting → Trace → Type 0) → ReplaysAreOwed commands stands
replays_are_owed commands stands left after taken now faults later sink_faults sink_later Done (Ends x ended all) =
    record {
      moved = x;
      owed = all;
      read_fault = λ is. absurd (never is);
      write_fault = λ is. absurd (never2 is);
      to_end = λ is. ended;
      complete = λ is. absurd (never is);
    }
  where
    never : Done ≡ ReadFault → ⊥
    never is = absurd cc

    never2 : Done ≡ WriteFault → ⊥
    never2 is = absurd cc
replays_are_owed commands stands left after taken now faults later sink_faults sink_later Refused (Stops x all) =
    record {
      moved = x;
      owed = all;
      read_fault = λ is. absurd (never is);
      write_fault = λ is. absurd (never2 is);
      to_end = λ is. absurd (never3 is);
      complete = λ is. absurd (never is);
    }
  where
    never : Refused ≡ ReadFault → ⊥
    never is = absurd cc

    never2 : Refused ≡ WriteFault → ⊥
    never2 is = absurd cc

    never3 : Refused ≡ Done → ⊥
    never3 is = absurd cc
replays_are_owed commands stands left after taken now faults later sink_faults sink_later ReadFault (Breaks x rose complete front) =
    record {
      moved = x;
      owed = (refl, front);
      read_fault = λ is. rose;
      write_fault = λ is. absurd (never2 is);
      to_end = λ is. absurd (never3 is);
      complete = λ is. complete;
    }
  where
    never2 : ReadFault ≡ WriteFault → ⊥
    never2 is = absurd cc

    never3 : ReadFault ≡ Done → ⊥
    never3 is = absurd cc
replays_are_owed commands stands left after taken now faults later sink_faults sink_later WriteFault (Chokes x rose front) =
    record {
      moved = x;
      owed = (refl, front);
      read_fault = λ is. absurd (never is);
      write_fault = λ is. rose;
      to_end = λ is. absurd (never3 is);
      complete = λ is. absurd (never is);
    }
  where
    never : WriteFault ≡ ReadFault → ⊥
    never is = absurd cc

    never3 : WriteFault ≡ Done → ⊥
    never3 is = absurd cc
replays_are_owed commands stands left after taken now faults later sink_faults sink_later NoMemory (Lacks x front) =
    record {
      moved = x;
      owed = (refl, front);
      read_fault = λ is. absurd (never is);
      write_fault = λ is. absurd (never2 is);
      to_end = λ is. absurd (never3 is);
      complete = λ is. absurd (never is);
    }
  where
    never : NoMemory ≡ ReadFault → ⊥
    never is = absurd cc

    never2 : NoMemory ≡ WriteFault → ⊥
    never2 is = absurd cc

    never3 : NoMemory ≡ Done → ⊥
    never3 is = absurd cc
