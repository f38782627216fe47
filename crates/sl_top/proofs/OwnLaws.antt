-- What a run of one machine in a process of its own owes, and what its statuses tell.
use Rattle.sl_host_step.specs.HostServes.{Serves, whole_commands}
use Rattle.sl_io.specs.FaultCauses.{Rose}
use Rattle.sl_live_play.specs.DifferenceLines.{differ_text}
use Rattle.sl_live_play.specs.LiveOwed.{All, Front, Part, Puts, Tellers}
use Rattle.sl_live_play.specs.declared.play.Lived.TheVariants as lived
use Rattle.sl_live_play.specs.declared.play.Lived.{Lived}
use Rattle.sl_live_run.specs.declared.compare.LiveDiffer.{LiveDiffer}
use Rattle.sl_outside.specs.Disks.{Disks}
use Rattle.sl_outside.specs.Lendings.{Lending}
use Rattle.sl_own.specs.OwnGrounds.{Bars}
use Rattle.sl_own.specs.OwnOwed.{Breaks, Breaks_early, DifferingOwn, Ends, Is_barred, Lacks, Of, OwesOwn, OwnDue, Parts, ReadsOwn, Stops, Stops_early, Stops_header}
use Rattle.sl_own.specs.OwnTexts.{no_place_text}
use Rattle.sl_own.specs.declared.no_place.NoPlace.{NoPlace}
use Rattle.sl_own.specs.declared.play.OwnManner.{OwnManner}
use Rattle.sl_reader.specs.HeaderBegins.{HeaderBegins}
use Rattle.sl_reader.specs.LineReads.{ReaderState}
use Rattle.sl_reader.specs.declared.live_lines.LiveLine.{LiveLine}
use Rattle.sl_reader.specs.declared.script_reading.ScriptEnd.{ScriptEnd}
use Rattle.sl_run.specs.declared.header.Header.{Header}
use Rattle.sl_top.proofs.LiveLaws.{area_failed, differed, read_failed, write_failed}
use Rattle.sl_top.proofs.RunLaws.{nothing_put}
use Rattle.sl_top.specs.Runs.{Outside, RunsOwn}
use Rattle.sl_top.specs.StatusLaws.{CantRun, OneDiffers}
use Rattle.sl_top.specs.declared.status.Status.TheVariants.{AreaFault, Differs, NoMemory, ReadFault, WriteFault}
use Rattle.sl_top.specs.declared.status.Status.{Status}
use Rattle.std.proofs.Common.{List, Option, [], refl, subst, sym, ℕ, ◌++◌, ◌∙◌, ◌≡◌}
use Rattle.std.specs.Io.KnownBytes.{Appends}

-- For want of memory, before anything was done.
pub never_run : {A P : Type 0} (tellers : Tellers A P) (folder : List ℕ) (manner : OwnManner) (x : Outside) → RunsOwn tellers folder manner x x NoMemory
never_run tellers folder manner x = record { ended = lived.NoMemory; owes = Lacks [] (nothing_put x.taken); status = refl }

-- ---- what is due, by how it ended

-- A case that holds of the machine, where the script that was read gave these lines; of its text this is said.
record Differed (w : OwnManner) (left after : Option (List ℕ)) (faults later : ℕ) (P : List ℕ → Type 0) : Type 0 where
  pub header : Header
  pub given : List LiveLine
  pub ended : Option ScriptEnd
  pub differ : LiveDiffer
  pub read : ReadsOwn w left after faults later header given ended
  pub holds : DifferingOwn Serves whole_commands header w.machine given differ
  pub before : List ℕ
  pub told : P (before ++ differ_text w.machine differ)

-- Why the machine can't run; of its text this is said.
record Barred (disks : Disks) (folder : List ℕ) (w : OwnManner) (left after : Option (List ℕ)) (device_faults device_later : ℕ) (P : List ℕ → Type 0) : Type 0 where
  pub reader : ReaderState
  pub header : Header
  pub begins : HeaderBegins left after reader header
  pub why : NoPlace
  pub bars : Bars disks folder header w.machine device_faults device_later why
  pub told : P (no_place_text why)

-- What each ending tells: of a read fault, of a place that can't be had, and of records that differ, whose text is due.
record Tells (disks : Disks) (folder : List ℕ) (w : OwnManner) (left after : Option (List ℕ)) (faults later device_faults device_later : ℕ) (text : List ℕ) (whole : Lived) : Type 0 where
  pub read : whole ≡ lived.ReadFault → Rose faults later
  pub area : whole ≡ lived.AreaFault → Barred disks folder w left after device_faults device_later (λ told. text ≡ told)
  pub written : whole ≡ lived.WriteFault → ⊥
  pub differs : whole ≡ lived.Differs → Differed w left after faults later (λ told. text ≡ told)

-- What the ending of a play tells, by what was put out.
record Caused (disks : Disks) (folder : List ℕ) (w : OwnManner) (left after taken now : Option (List ℕ)) (faults later sink_faults sink_later device_faults device_later : ℕ) (s : Lived) : Type 0 where
  pub read : s ≡ lived.ReadFault → Rose faults later
  pub written : s ≡ lived.WriteFault → Rose sink_faults sink_later
  pub area : s ≡ lived.AreaFault → Barred disks folder w left after device_faults device_later (λ told. Appends taken now told)
  pub differs : s ≡ lived.Differs → Differed w left after faults later (λ told. Appends taken now told)

module _ {A P : Type 0} (tellers : Tellers A P) (disks : Disks) (folder : List ℕ) (w : OwnManner) (left after : Option (List ℕ)) (faults later device_faults device_later : ℕ)
    (lent back : Option (List Lending)) where
  due_tells : (text : List ℕ) (whole : Lived) → OwnDue Serves whole_commands tellers disks folder w left after faults later device_faults device_later lent back text whole → Tells disks folder w left after faults later device_faults device_later text whole
  due_tells text whole (Ends h given hist pieces reads may lives woven) =
      record { read = λ e. absurd cc; area = λ e. absurd cc; written = λ e. absurd cc; differs = λ e. absurd cc }
  due_tells text whole (Stops_early r number why stops) =
      record { read = λ e. absurd cc; area = λ e. absurd cc; written = λ e. absurd cc; differs = λ e. absurd cc }
  due_tells text whole (Stops_header r h why begins refused) =
      record { read = λ e. absurd cc; area = λ e. absurd cc; written = λ e. absurd cc; differs = λ e. absurd cc }
  due_tells text whole (Stops h given hist pieces number why reads may lives woven) =
      record { read = λ e. absurd cc; area = λ e. absurd cc; written = λ e. absurd cc; differs = λ e. absurd cc }
  due_tells text whole (Breaks_early breaks rose) =
      record { read = λ e. rose; area = λ e. absurd cc; written = λ e. absurd cc; differs = λ e. absurd cc }
  due_tells text whole (Breaks h given hist pieces reads may lives woven) =
      record { read = λ e. (reads.fault refl).0; area = λ e. absurd cc; written = λ e. absurd cc; differs = λ e. absurd cc }
  due_tells text whole (Is_barred r h why begins bars) =
      record {
        read = λ e. absurd cc;
        area = λ e. (record { reader = r; header = h; begins = begins; why = why; bars = bars; told = refl });
        written = λ e. absurd cc;
        differs = λ e. absurd cc;
      }
  due_tells text whole (Parts h given end before d reads may case_of) =
      record {
        read = λ e. absurd cc;
        area = λ e. absurd cc;
        written = λ e. absurd cc;
        differs = λ e. (record { header = h; given = given; ended = end; differ = d; read = reads; holds = case_of; before = before; told = refl });
      }

  differed_out : (taken now : Option (List ℕ)) (text : List ℕ) → Appends taken now text → Differed w left after faults later (λ told. text ≡ told)
      → Differed w left after faults later (λ told. Appends taken now told)
  differed_out taken now text appends d =
      record {
        header = d.header;
        given = d.given;
        ended = d.ended;
        differ = d.differ;
        read = d.read;
        holds = d.holds;
        before = d.before;
        told = subst (Appends taken now) d.told appends;
      }

  barred_out : (taken now : Option (List ℕ)) (text : List ℕ) → Appends taken now text → Barred disks folder w left after device_faults device_later (λ told. text ≡ told)
      → Barred disks folder w left after device_faults device_later (λ told. Appends taken now told)
  barred_out taken now text appends b =
      record { reader = b.reader; header = b.header; begins = b.begins; why = b.why; bars = b.bars; told = subst (Appends taken now) b.told appends }

  put_caused : (taken now : Option (List ℕ)) (sink_faults sink_later : ℕ) (text : List ℕ) (whole s : Lived) → Tells disks folder w left after faults later device_faults device_later text whole
      → Puts taken now sink_faults sink_later text whole s → Caused disks folder w left after taken now faults later sink_faults sink_later device_faults device_later s
  put_caused taken now sink_faults sink_later text whole s tells (All appends) =
      record {
        read = tells.read;
        written = λ e. absurd (tells.written e);
        area = λ e. barred_out taken now text appends (tells.area e);
        differs = λ e. differed_out taken now text appends (tells.differs e);
      }
  put_caused taken now sink_faults sink_later text whole s tells (Part front appends begins rose) =
      record { read = λ e. absurd cc; written = λ e. rose; area = λ e. absurd cc; differs = λ e. absurd cc }
  put_caused taken now sink_faults sink_later text whole s tells (Front front appends begins) =
      record { read = λ e. absurd cc; written = λ e. absurd cc; area = λ e. absurd cc; differs = λ e. absurd cc }

  owes_caused : (taken now : Option (List ℕ)) (sink_faults sink_later : ℕ) (s : Lived)
      → OwesOwn Serves whole_commands tellers disks folder w left after taken now faults later sink_faults sink_later device_faults device_later lent back s
      → Caused disks folder w left after taken now faults later sink_faults sink_later device_faults device_later s
  owes_caused taken now sink_faults sink_later s (Of text whole t due puts) = put_caused taken now sink_faults sink_later text whole s (due_tells text whole due) puts
  owes_caused taken now sink_faults sink_later s (Lacks part nothing) =
      record { read = λ e. absurd cc; written = λ e. absurd cc; area = λ e. absurd cc; differs = λ e. absurd cc }

-- So of such a run.
pub record OwnCaused (folder : List ℕ) (manner : OwnManner) (x y : Outside) (s : Status) : Type 0 where
  pub read : s ≡ ReadFault → Rose x.source_faults y.source_faults
  pub written : s ≡ WriteFault → Rose x.sink_faults y.sink_faults
  pub area : s ≡ AreaFault → CantRun folder manner x y
  pub differs : s ≡ Differs → OneDiffers manner x y

pub own_caused : {A P : Type 0} (tellers : Tellers A P) (folder : List ℕ) (manner : OwnManner) (x y : Outside) (s : Status) → RunsOwn tellers folder manner x y s → OwnCaused folder manner x y s
own_caused tellers folder manner x y s run =
    let why = owes_caused tellers x.disks folder manner x.left y.left x.source_faults y.source_faults x.device_faults y.device_faults x.lendings y.lendings x.taken y.taken x.sink_faults y.sink_faults run.ended run.owes in
    record {
      read = λ e. why.read (read_failed run.ended (sym run.status ∙ e));
      written = λ e. why.written (write_failed run.ended (sym run.status ∙ e));
      area = λ e. (let b = why.area (area_failed run.ended (sym run.status ∙ e)) in
          record { reader = b.reader; header = b.header; begins = b.begins; why = b.why; bars = b.bars; told = b.told });
      differs = λ e. (let d = why.differs (differed run.ended (sym run.status ∙ e)) in
          record {
            header = d.header;
            given = d.given;
            ended = d.ended;
            read = d.read;
            differ = d.differ;
            holds = d.holds;
            before = d.before;
            told = d.told;
          });
    }
