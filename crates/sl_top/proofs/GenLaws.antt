-- What a generation owes: the run that was made is as it is promised, and its two lines are the plain program's.
use Rattle.sl_due_law.proofs.DueIsLawful.{due_is_lawful}
use Rattle.sl_generate.proofs.HeadersRead.{headers_are_read}
use Rattle.sl_generate.proofs.GeneratedIsPlain.{generated_is_plain}
use Rattle.sl_generate.specs.GeneratorPlay.{All, GeneratedOf, Generates as Made, MadeOf, MayGenerate, Nothing, Part}
use Rattle.sl_generate.specs.HeaderLines.{header_lines}
use Rattle.sl_generate.specs.declared.generator.Generated.TheVariants as generated
use Rattle.sl_generate.specs.declared.generator.Generated.{Generated}
use Rattle.sl_play.proofs.Headers.CommandsAreRead.{whole_language_may_play}
use Rattle.sl_headline.proofs.RunsArePromised.{made_runs_are_promised}
use Rattle.sl_headline.specs.PromisedRuns.{PromisedRun}
use Rattle.sl_host_step.specs.HostServes.{Serves, whole_commands}
use Rattle.sl_report.specs.GeneratedSchedules.{gen_header, gen_lines}
use Rattle.sl_report.specs.OwedReports.{GenOf, IsFrontOf, SoundRun}
use Rattle.sl_run.specs.Headers.{IsHeader}
use Rattle.sl_run.specs.Worlds.{whole_program}
use Rattle.sl_sector.proofs.WrittenBytes.{sha256_is_digest}
use Rattle.sl_sound.specs.SoundLaws.{DaemonsDoWhatIsDue}
use Rattle.sl_text.specs.Forms.{as_bytes}
use Rattle.sl_top.proofs.TopLaws.{none_written}
use Rattle.sl_top.specs.Runs.{Generates}
use Rattle.sl_top.specs.Statuses.{status_of_generated}
use Rattle.sl_top.specs.declared.status.Status.TheVariants.{Done, NoMemory, WriteFault}
use Rattle.sl_top.specs.declared.status.Status.{Status}
use Rattle.sl_headline.proofs.Volumes.WholeProgramReads.{whole_program_reads}
use Rattle.sl_io.specs.FaultCauses.{Rose}
use Rattle.std.proofs.Common.{Bool, List, Option, [], inl, inr, refl, subst, sym, ℕ, ◌∙◌, ◌≡◌, ◌≤◌}
use Rattle.std.specs.Io.KnownBytes.{Appends}

-- A host does what is due.
hosts_do : DaemonsDoWhatIsDue Serves
hosts_do d st es s = s.stands.past

-- ---- the header

gen_is_header : (hosts : ℕ) (paired : Bool) → 1 ≤ hosts → hosts ≤ 16 → IsHeader (gen_header hosts paired)
gen_is_header hosts paired low high =
    whole_language_may_play.plays.headers (as_bytes (header_lines hosts paired)) (gen_header hosts paired) [] (headers_are_read whole_program hosts paired low high)

pub may_generate : (hosts : ℕ) (paired : Bool) → 1 ≤ hosts → hosts ≤ 16 → MayGenerate whole_commands hosts paired
may_generate hosts paired low high =
    let header : IsHeader (gen_header hosts paired) = gen_is_header hosts paired low high in
    record { header = header; reads = whole_language_may_play.plays.reads (gen_header hosts paired) header }

-- ---- the run

module _ (seed hosts events : ℕ) (paired : Bool) (header : IsHeader (gen_header hosts paired)) where
  promised_of : (written : List ℕ) → MadeOf whole_commands Serves seed hosts events paired written → GeneratedOf PromisedRun whole_program seed hosts events paired written
  promised_of written made =
      record {
        run = made.run;
        generated = made.generated;
        counted = made.counted;
        promised_is = made_runs_are_promised Serves hosts_do due_is_lawful whole_program whole_program_reads (gen_header hosts paired) made.run header sha256_is_digest made.promised_is;
        printed = made.printed;
      }

  sound_of : (written : List ℕ) → GeneratedOf PromisedRun whole_program seed hosts events paired written → GeneratedOf SoundRun whole_program seed hosts events paired written
  sound_of written g =
      record { run = g.run; generated = g.generated; counted = g.counted; promised_is = g.promised_is.served.sound; printed = g.printed }

  good_of : (written : List ℕ) → GeneratedOf PromisedRun whole_program seed hosts events paired written → GenOf whole_program seed hosts events paired written
  good_of written g =
      record {
        run = g.run;
        events_are = (g.generated, g.counted);
        good = record { sound = g.promised_is.served.sound; values = g.promised_is.served.values; quiet = g.promised_is.quiet };
        printed = g.printed;
      }

  plain_made : (written : List ℕ) → MadeOf whole_commands Serves seed hosts events paired written → written ≡ as_bytes (gen_lines whole_program seed hosts events paired)
  plain_made written made = generated_is_plain whole_program seed hosts events paired written (sound_of written (promised_of written made))

  plain_good : (written : List ℕ) → GenOf whole_program seed hosts events paired written → written ≡ as_bytes (gen_lines whole_program seed hosts events paired)
  plain_good written g =
      generated_is_plain whole_program seed hosts events paired written
      (record { run = g.run; generated = g.events_are.0; counted = g.events_are.1; promised_is = g.good.sound; printed = g.printed })

  -- ---- by how it ended

  module _ (taken now : Option (List ℕ)) (faults later : ℕ) where
    all_owed : (written : List ℕ) → Appends taken now written → MadeOf whole_commands Serves seed hosts events paired written → Generates seed hosts events paired taken now faults later Done
    all_owed written appends made =
        let promised = promised_of written made in
        record {
          puts = record { written = written; appends = appends; text_is = inl (plain_made written made, refl); cause = λ e. absurd cc };
          promised = λ e. promised;
          headline = good_of written promised;
        }

    part_owed : (written whole : List ℕ) → Appends taken now written → IsFrontOf written whole → MadeOf whole_commands Serves seed hosts events paired whole → Rose faults later
        → Generates seed hosts events paired taken now faults later WriteFault
    part_owed written whole appends front made rose =
        let plain = plain_made whole made in
        record {
          puts = record { written = written; appends = appends; text_is = inr (subst (IsFrontOf written) plain front, inl refl); cause = λ e. rose };
          promised = λ e. absurd cc;
          headline = (refl, λ report of. subst (IsFrontOf written) (plain ∙ sym (plain_good report of)) front);
        }

    none_owed : Appends taken now [] → Generates seed hosts events paired taken now faults later NoMemory
    none_owed appends =
        record {
          puts = record { written = []; appends = appends; text_is = inr (none_written [] (as_bytes (gen_lines whole_program seed hosts events paired)) refl, inr refl); cause = λ e. absurd cc };
          promised = λ e. absurd cc;
          headline = (refl, λ report of. none_written [] report refl);
        }

    owed : (d : Generated) → Made whole_commands Serves seed hosts events paired taken now faults later d → Generates seed hosts events paired taken now faults later (status_of_generated d)
    owed generated.Done (All written appends made) = all_owed written appends made
    owed generated.WriteFault (Part written whole appends front made rose) = part_owed written whole appends front made rose
    owed generated.NoMemory (Nothing appends) = none_owed appends

    -- What was made is owed.
    pub generates_by : (d : Generated) (s : Status) → Made whole_commands Serves seed hosts events paired taken now faults later d → s ≡ status_of_generated d
        → Generates seed hosts events paired taken now faults later s
    generates_by d s made is = subst (λ t. Generates seed hosts events paired taken now faults later t) (sym is) (owed d made)
