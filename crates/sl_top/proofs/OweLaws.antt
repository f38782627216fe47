-- What a run owes where there was no memory for its words: nothing was read, and nothing written.
use Rattle.sl_cli.specs.declared.command_words.Words.TheVariants.{Direct, Draw, Generate, Help, Label, Live, Own, Replay, Schedule, Version}
use Rattle.sl_cli.specs.declared.command_words.Words.{Words}
use Rattle.sl_direct.specs.declared.action.Action.TheVariants.{InitLabelled}
use Rattle.sl_live_play.specs.LiveOwed.{Tellers}
use Rattle.sl_report.specs.GeneratedSchedules.{gen_lines}
use Rattle.sl_run.specs.Worlds.{whole_program}
use Rattle.sl_text.specs.Forms.{as_bytes}
use Rattle.sl_top.proofs.DirectLaws.{not_begun}
use Rattle.sl_top.proofs.LiveLaws.{never_run}
use Rattle.sl_top.proofs.OwnLaws.{never_run as never_run_alone}
use Rattle.sl_top.proofs.PictureLaws.{undrawn}
use Rattle.sl_top.proofs.RunLaws.{nothing_put, unread}
use Rattle.sl_top.proofs.StoryLaws.{none_scheduled}
use Rattle.sl_top.proofs.TopLaws.{none_written}
use Rattle.sl_top.specs.Runs.{Generates, Outside, Owes, PutsOut, bad_words_text}
use Rattle.sl_top.specs.declared.status.Status.TheVariants.{Done, NoMemory}
use Rattle.sl_top.specs.declared.status.Status.{Status}
use Rattle.std.proofs.Common.{Bool, List, None, Option, Some, [], inr, refl, ℕ}

nothing_told : (taken : Option (List ℕ)) (faults : ℕ) (text : List ℕ) (whole : Status) → PutsOut taken taken faults faults text whole NoMemory
nothing_told taken faults text whole =
    record { written = []; appends = nothing_put taken; text_is = inr (none_written [] text refl, inr refl); cause = λ e. absurd cc }

none_generated : (seed hosts events : ℕ) (paired : Bool) (taken : Option (List ℕ)) (faults : ℕ) → Generates seed hosts events paired taken taken faults faults NoMemory
unfolding nothing_told
none_generated seed hosts events paired taken faults =
    record {
      puts = nothing_told taken faults (as_bytes (gen_lines whole_program seed hosts events paired)) Done;
      promised = λ e. absurd cc;
      headline = (refl, λ report of. none_written [] report refl);
    }

-- For want of memory, whatever the words say.
pub nothing_done : {A P : Type 0} (tellers : Tellers A P) (w : Option Words) (x : Outside) → Owes tellers w x x NoMemory
nothing_done tellers None x = nothing_told x.taken x.sink_faults bad_words_text _
nothing_done tellers (Some (Draw first last)) x = undrawn (record { first = first; last = last }) x.left x.source_faults x.taken x.sink_faults
nothing_done tellers (Some Replay) x = unread x.left x.source_faults x.taken x.sink_faults
nothing_done tellers (Some (Generate seed hosts events paired)) x = none_generated seed hosts events paired x.taken x.sink_faults
nothing_done tellers (Some (Schedule seed hosts events paired)) x = none_scheduled hosts events paired x.taken x.sink_faults
nothing_done tellers (Some (Direct a)) x = not_begun a x.disks x.device_faults x.taken x.sink_faults
nothing_done tellers (Some (Label l g t grace)) x = not_begun (InitLabelled l g t grace) x.disks x.device_faults x.taken x.sink_faults
nothing_done tellers (Some (Live folder anew keeps events)) x = never_run tellers folder (record { anew = anew; keeps = keeps; events = events }) x
nothing_done tellers (Some (Own folder machine watchdog syncs keeps events)) x =
    never_run_alone tellers folder (record { machine = machine; syncs = syncs; keeps = keeps; events = events }) x
nothing_done tellers (Some Help) x = nothing_told x.taken x.sink_faults _ _
nothing_done tellers (Some Version) x = nothing_told x.taken x.sink_faults _ _
