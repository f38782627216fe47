-- What is put out of the two lines.
use Rattle.sl_generate.specs.GeneratorPlay.{All, Generates, MadeOf, Nothing, Part}
use Rattle.sl_generate.specs.declared.generator.Generated.TheVariants.{Done, NoMemory, WriteFault}
use Rattle.sl_report.specs.OwedReports.{IsFrontOf}
use Rattle.sl_run.specs.declared.header.Header.{Header}
use Rattle.sl_text.specs.Forms.{Form}
use Rattle.sl_trace.specs.Traces.{Setting, Trace}
use Rattle.sl_trace.specs.declared.command.Command.{Command}
use Rattle.sl_io.specs.FaultCauses.{Rose}
use Rattle.std.proofs.Common.{Bool, List, None, Option, Some, [], append-nil, drop, length, subst, sym, take, ℕ, ◌≡◌, ◌≤◌}
use Rattle.std.proofs.lemmas.List.{take-append-drop}
use Rattle.std.specs.Io.KnownBytes.{Appends}

module _ {D : Type 0} (commands : Header → List (Form Command)) (stands : D → Setting → Trace → Type 0) (seed hosts events : ℕ) (paired : Bool) where
  none_appended : (taken : Option (List ℕ)) → Appends taken taken []
  none_appended None = tt
  none_appended (Some xs) = sym (append-nil xs)

  pub nothing_put : (taken : Option (List ℕ)) (faults : ℕ) → Generates commands stands seed hosts events paired taken taken faults faults NoMemory
  nothing_put taken faults = Nothing (none_appended taken)

  module _ (taken now : Option (List ℕ)) (faults later : ℕ) (text put : List ℕ) (same : put ≡ text) (made : MadeOf commands stands seed hosts events paired text) where
    pub all_put : Appends taken now put → Generates commands stands seed hosts events paired taken now faults later Done
    all_put appends = All text (subst (Appends taken now) same appends) made

    pub part_put : (n : ℕ) × (n ≤ length put) × Appends taken now (take n put) → Rose faults later → Generates commands stands seed hosts events paired taken now faults later WriteFault
    part_put front rose =
        Part (take front.0 put) text front.2 (subst (IsFrontOf (take front.0 put)) same (drop front.0 put, sym (take-append-drop front.0 put))) made rose
