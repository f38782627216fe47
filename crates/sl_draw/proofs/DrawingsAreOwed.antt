-- What a drawing owes, by its status.
use Rattle.sl_draw.specs.Draws.{Breaks, Chokes, DrawingsAreOwed, Ends, Lacks, Stops}
use Rattle.sl_play.specs.declared.replay.Played.TheVariants.{Done, NoMemory, ReadFault, Refused, WriteFault}
use Rattle.sl_run.specs.declared.header.Header.{Header}
use Rattle.sl_text.specs.Forms.{Form}
use Rattle.sl_trace.specs.Traces.{Setting, Trace}
use Rattle.sl_trace.specs.declared.command.Command.{Command}
use Rattle.std.proofs.Common.{List, refl, ◌≡◌}

pub drawings_are_owed : {D : Type 0} (commands : Header → List (Form Command)) (stands : D → Setting → Trace → Type 0) → DrawingsAreOwed commands stands
drawings_are_owed commands stands part left after taken now faults later sink_faults sink_later Done (Ends x ended all) =
    record { moved = x; owed = all; read_fault = λ is. absurd (no is); write_fault = λ is. absurd (no2 is); to_end = λ is. ended }
  where
    no : Done ≡ ReadFault → ⊥
    no is = absurd cc

    no2 : Done ≡ WriteFault → ⊥
    no2 is = absurd cc
drawings_are_owed commands stands part left after taken now faults later sink_faults sink_later Refused (Stops x all) =
    record { moved = x; owed = all; read_fault = λ is. absurd (no is); write_fault = λ is. absurd (no2 is); to_end = λ is. absurd (no3 is) }
  where
    no : Refused ≡ ReadFault → ⊥
    no is = absurd cc

    no2 : Refused ≡ WriteFault → ⊥
    no2 is = absurd cc

    no3 : Refused ≡ Done → ⊥
    no3 is = absurd cc
drawings_are_owed commands stands part left after taken now faults later sink_faults sink_later ReadFault (Breaks x rose none) =
    record { moved = x; owed = (refl, none); read_fault = λ is. rose; write_fault = λ is. absurd (no2 is); to_end = λ is. absurd (no3 is) }
  where
    no2 : ReadFault ≡ WriteFault → ⊥
    no2 is = absurd cc

    no3 : ReadFault ≡ Done → ⊥
    no3 is = absurd cc
drawings_are_owed commands stands part left after taken now faults later sink_faults sink_later WriteFault (Chokes x rose front) =
    record { moved = x; owed = (refl, front); read_fault = λ is. absurd (no is); write_fault = λ is. rose; to_end = λ is. absurd (no3 is) }
  where
    no : WriteFault ≡ ReadFault → ⊥
    no is = absurd cc

    no3 : WriteFault ≡ Done → ⊥
    no3 is = absurd cc
drawings_are_owed commands stands part left after taken now faults later sink_faults sink_later NoMemory (Lacks x none) =
    record { moved = x; owed = (refl, none); read_fault = λ is. absurd (no is); write_fault = λ is. absurd (no2 is); to_end = λ is. absurd (no3 is) }
  where
    no : NoMemory ≡ ReadFault → ⊥
    no is = absurd cc

    no2 : NoMemory ≡ WriteFault → ⊥
    no2 is = absurd cc

    no3 : NoMemory ≡ Done → ⊥
    no3 is = absurd cc
