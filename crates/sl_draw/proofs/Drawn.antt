-- How a drawing ends: what it has read and written.
use Rattle.sl_draw.proofs.DrawnLines.{ended_all, header_all, refused_all, stopped_all}
use Rattle.sl_draw.specs.Draws.{Breaks, Chokes, Drawing, Draws, DrawsAll, Ends, Lacks, Stops}
use Rattle.sl_io.specs.FaultCauses.{Rose}
use Rattle.sl_picture.specs.Kept.{Kept}
use Rattle.sl_picture.specs.Page.{picture_of}
use Rattle.sl_picture.specs.declared.kept.Part.{Part}
use Rattle.sl_play.proofs.LinesPlayed.{WholeIs, rose_later}
use Rattle.sl_play.specs.Plays.{PlayState, PlaysOn, StopsAt}
use Rattle.sl_play.specs.Replays.{All, Moved, Nothing, Part as PartOf, Puts}
use Rattle.sl_play.specs.declared.replay.Played.TheVariants.{Done, NoMemory, ReadFault, Refused, WriteFault}
use Rattle.sl_play.specs.declared.replay.Played.{Played}
use Rattle.sl_reader.proofs.HeaderSteps.{gives_so, gives_then}
use Rattle.sl_reader.specs.HeaderBegins.{HeaderBreaks, HeaderStops}
use Rattle.sl_reader.specs.LineReads.{EndStands, Fails, Gives, IsCutOff, ReaderState, ReadsEnd, ReadsLine, ReadsRefused, line_of}
use Rattle.sl_report.specs.Languages.{whole_language}
use Rattle.sl_report.specs.RefusalLines.{refusal_line}
use Rattle.sl_report.specs.Reports.{end_line}
use Rattle.sl_report.specs.Schedules.{event_line}
use Rattle.sl_run.specs.Worlds.{World}
use Rattle.sl_run.specs.declared.event.Refusal.{Refusal}
use Rattle.sl_run.specs.declared.header.Header.{Header}
use Rattle.sl_text.specs.Forms.{Form, as_bytes}
use Rattle.sl_trace.specs.Traces.{Setting, Trace}
use Rattle.sl_trace.specs.declared.command.Command.{Command}
use Rattle.std.proofs.Common.{Bool, List, Option, [], false, refl, subst, sym, true, ℕ, ◌++◌, ◌+◌, ◌∷◌, ◌≡◌, ◌≤◌}
use Rattle.std.proofs.KnownBytes.{Appends-nil}
use Rattle.std.proofs.lemmas.List.{append_assoc}
use Rattle.std.specs.Io.KnownBytes.{Consumes, IsAtEnd}
use Rattle.std.specs.Option.{option_to_list}
use Rattle.std.specs.Prelude.{IsTrue}

reads_of : (first after : Option (List ℕ)) (all : List ℕ) → Gives first after [] all → Consumes first after all
reads_of first after all g = subst (Consumes first after) g.all_are g.consumes

never_ended : (after : Option (List ℕ)) → IsTrue false → IsAtEnd after
never_ended after is = absurd (never is)
  where
    never : false ≡ true → ⊥
    never e = absurd cc

module _ {D : Type 0} (commands : Header → List (Form Command)) (stands : D → Setting → Trace → Type 0) (part : Part) (first after taken now : Option (List ℕ))
    (faults later sink_faults sink_later : ℕ) where
  all_out : (x : Moved first after taken now) (status : ℕ) (whole : Played) → WholeIs whole x.ended status → DrawsAll commands stands part x.ended x.read x.written status
      → Draws commands stands part first after taken now faults later sink_faults sink_later whole
  all_out x status Done is all = Ends x is.0 (subst (λ k. DrawsAll commands stands part x.ended x.read x.written k) is.1 all)
  all_out x status Refused is all = Stops x (subst (λ k. DrawsAll commands stands part x.ended x.read x.written k) is all)
  all_out x status ReadFault is all = absurd is
  all_out x status WriteFault is all = absurd is
  all_out x status NoMemory is all = absurd is

  -- A picture that is put out.
  pub puts_out : (ended : Bool) (read text : List ℕ) (status : ℕ) (whole s : Played) → WholeIs whole ended status → Consumes first after read → (IsTrue ended → IsAtEnd after)
      → DrawsAll commands stands part ended read text status → Puts taken now sink_faults sink_later text whole s
      → Draws commands stands part first after taken now faults later sink_faults sink_later s
  puts_out ended read text status whole s is reads at_end all (PartOf front appends begins rose) =
      Chokes (record { read = read; ended = ended; written = front; reads = reads; at_end = at_end; writes = appends }) rose
      (record { picture = text; status = status; begins = begins; owed = all })
  puts_out ended read text status whole s is reads at_end all (Nothing appends) =
      Lacks (record { read = read; ended = ended; written = []; reads = reads; at_end = at_end; writes = appends }) refl
  puts_out ended read text status whole s is reads at_end all (All appends) =
      all_out (record { read = read; ended = ended; written = text; reads = reads; at_end = at_end; writes = appends }) status whole is all

  -- ---- by what was read last

  pub ended_out : (h : Header) (before : Option (List ℕ)) (r n : ReaderState) (p : PlayState D) (caption : List (List ℕ)) (k : Kept) (s : Played) → Drawing commands stands part h first before r p caption k → ReadsEnd before after r n
      → EndStands after n → Puts taken now sink_faults sink_later (picture_of caption k (as_bytes (end_line p.counts ∷ []))) Done s
      → Draws commands stands part first after taken now faults later sink_faults sink_later s
  ended_out h before r n p caption k s d e ends puts =
      puts_out true (d.runs.consumed ++ []) (picture_of caption k (as_bytes (end_line p.counts ∷ []))) 0 Done s (refl, refl)
      (reads_of first after (d.runs.consumed ++ []) (gives_then first before after [] d.runs.consumed r.left [] d.runs.gives e.gives)) (λ is. ends.at_end e.ended)
      (ended_all commands stands part h first before r p caption k d) puts

  pub refused_out : (h : Header) (before : Option (List ℕ)) (r n : ReaderState) (p : PlayState D) (caption : List (List ℕ)) (k : Kept) (number : ℕ) (why : Refusal) (s : Played)
      → Drawing commands stands part h first before r p caption k → ReadsRefused before after r n why → number ≡ n.number + 1
      → Puts taken now sink_faults sink_later (picture_of caption k (as_bytes (refusal_line number why ∷ []))) Refused s
      → Draws commands stands part first after taken now faults later sink_faults sink_later s
  refused_out h before r n p caption k number why s d e is puts =
      puts_out false (d.runs.consumed ++ e.bytes) (picture_of caption k (as_bytes (refusal_line number why ∷ []))) 1 Refused s refl
      (reads_of first after (d.runs.consumed ++ e.bytes) (gives_then first before after [] d.runs.consumed r.left e.bytes d.runs.gives e.gives)) (never_ended after)
      (refused_all commands stands part h first before after r n p caption k number why d e is) puts

  pub stopped_out : (h : Header) (before : Option (List ℕ)) (r n : ReaderState) (p q : PlayState D) (caption : List (List ℕ)) (k : Kept) (text : List ℕ) (why : Refusal) (s : Played)
      → Drawing commands stands part h first before r p caption k → ReadsLine before after r n → EndStands after n
      → ((w : World) → PlaysOn commands stands p w → StopsAt stands w p (option_to_list (event_line whole_language p.kept.header (line_of n))) n.number [] q text why)
      → Puts taken now sink_faults sink_later (picture_of caption k (as_bytes (refusal_line n.number why ∷ []))) Refused s
      → Draws commands stands part first after taken now faults later sink_faults sink_later s
  stopped_out h before r n p q caption k text why s d l ends stops puts =
      puts_out n.ended ((d.runs.consumed ++ l.taken) ++ n.left) (picture_of caption k (as_bytes (refusal_line n.number why ∷ []))) 1 Refused s refl
      (reads_of first after ((d.runs.consumed ++ l.taken) ++ n.left)
      (gives_so first after [] (d.runs.consumed ++ (l.taken ++ n.left)) ((d.runs.consumed ++ l.taken) ++ n.left)
      (gives_then first before after [] d.runs.consumed r.left (l.taken ++ n.left) d.runs.gives l.gives) (sym (append_assoc d.runs.consumed l.taken n.left)))) ends.at_end
      (stopped_all commands stands part h first before after r n p q caption k text why d l ends stops) puts

  pub header_out : (n : ReaderState) (number : ℕ) (why : Refusal) (s : Played) → HeaderStops first after n number why → EndStands after n
      → Puts taken now sink_faults sink_later (as_bytes (refusal_line number why ∷ [])) Refused s → Draws commands stands part first after taken now faults later sink_faults sink_later s
  header_out n number why s b ends puts =
      puts_out n.ended b.bytes (as_bytes (refusal_line number why ∷ [])) 1 Refused s refl (reads_of first after b.bytes b.gives) ends.at_end
      (header_all commands stands part first after n number why b) puts

-- ---- nothing is written

module _ {D : Type 0} (commands : Header → List (Form Command)) (stands : D → Setting → Trace → Type 0) (part : Part) (first after taken : Option (List ℕ))
    (faults later sink_faults sink_later : ℕ) where
  abbrev unmoved : (all : List ℕ) → Gives first after [] all → Moved first after taken taken
  unmoved all g = record { read = all; ended = false; written = []; reads = reads_of first after all g; at_end = never_ended after; writes = Appends-nil taken }

  pub lacks_there : (h : Header) (before : Option (List ℕ)) (r : ReaderState) (p : PlayState D) (caption : List (List ℕ)) (k : Kept) → Drawing commands stands part h first before r p caption k → IsCutOff before after r
      → Draws commands stands part first after taken taken faults later sink_faults sink_later NoMemory
  lacks_there h before r p caption k d c =
      Lacks (unmoved (d.runs.consumed ++ c.bytes) (gives_then first before after [] d.runs.consumed r.left c.bytes d.runs.gives c.gives)) refl

  pub breaks_out : (h : Header) (before : Option (List ℕ)) (r : ReaderState) (p : PlayState D) (caption : List (List ℕ)) (k : Kept) → Drawing commands stands part h first before r p caption k → Fails before after r → Rose faults later
      → Draws commands stands part first after taken taken faults later sink_faults sink_later ReadFault
  breaks_out h before r p caption k d f rose =
      Breaks (unmoved (d.runs.consumed ++ f.bytes) (gives_then first before after [] d.runs.consumed r.left f.bytes d.runs.gives f.gives)) rose refl

  pub header_breaks : HeaderBreaks first after → Rose faults later → Draws commands stands part first after taken taken faults later sink_faults sink_later ReadFault
  header_breaks b rose = Breaks (unmoved (b.complete ++ b.partial) b.gives) rose refl

  pub header_lacks : ((all : List ℕ) × Gives first after [] all) → Draws commands stands part first after taken taken faults later sink_faults sink_later NoMemory
  header_lacks g = Lacks (unmoved g.0 g.1) refl

-- ---- faults

-- Faults are counted from an earlier moment on.
pub draws_later : {D : Type 0} (commands : Header → List (Form Command)) (stands : D → Setting → Trace → Type 0) (part : Part) (first after taken now : Option (List ℕ)) (f g later j k sink_later : ℕ) (s : Played)
    → f ≤ g → j ≤ k → Draws commands stands part first after taken now g later k sink_later s → Draws commands stands part first after taken now f later j sink_later s
draws_later commands stands part first after taken now f g later j k sink_later Done h i (Ends x ended all) = Ends x ended all
draws_later commands stands part first after taken now f g later j k sink_later Refused h i (Stops x all) = Stops x all
draws_later commands stands part first after taken now f g later j k sink_later ReadFault h i (Breaks x rose none) = Breaks x (rose_later f g later h rose) none
draws_later commands stands part first after taken now f g later j k sink_later WriteFault h i (Chokes x rose front) = Chokes x (rose_later j k sink_later i rose) front
draws_later commands stands part first after taken now f g later j k sink_later NoMemory h i (Lacks x none) = Lacks x none

-- ---- a sink that is as it was

pub same_sink : {D K : Type 0} (commands : Header → List (Form Command)) (stands : D → Setting → Trace → Type 0) (part : Part) (first after : Option (List ℕ)) (taken : K → Option (List ℕ)) (count : K → ℕ)
    (faults later : ℕ) (old now new : K) (s : Played) → now ≡ old → Draws commands stands part first after (taken now) (taken new) faults later (count now) (count new) s
    → Draws commands stands part first after (taken old) (taken new) faults later (count old) (count new) s
same_sink {D} {K} commands stands part first after taken count faults later old now new s is d =
    subst (λ (k : K). Draws commands stands part first after (taken k) (taken new) faults later (count k) (count new) s) is d
