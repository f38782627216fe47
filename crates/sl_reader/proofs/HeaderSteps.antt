-- A header that is read line by line.
use Rattle.sl_report.specs.Languages.{whole_language}
use Rattle.sl_report.specs.HeaderLines.{HeaderLine}
use Rattle.sl_report.specs.Schedules.{Header_refused, NumberedLine, greatest_source, line_refusal, longest_line, numbered_from, numbered_lines, read_header}
use Rattle.sl_run.specs.Worlds.{first_that}
use Rattle.sl_run.specs.declared.event.Refusal.TheVariants.{LimitBytes, Syntax}
use Rattle.sl_run.specs.declared.event.Refusal.{Refusal}
use Rattle.sl_run.specs.declared.header.Header.{Header}
use Rattle.sl_schedule.proofs.ScheduleLaws.{going_on, read_header-line, read_header-refused}
use Rattle.sl_schedule.specs.HeadersSoFar.{answer_after, lines_after}
use Rattle.sl_schedule.specs.declared.header.Added.TheVariants.{Begun, More, Refused}
use Rattle.sl_schedule.specs.declared.header.Added.{Added}
use Rattle.sl_reader.specs.HeaderBegins.{HasRead, HeaderBegins, HeaderBreaks, HeaderGoesOn, HeaderStops, lines_left}
use Rattle.sl_reader.specs.LineReads.{Fails, Gives, MayFollow, ReaderState, ReadsEnd, ReadsLine, ReadsRefused, line_of, no_line}
use Rattle.sl_text.specs.Forms.{lines_of}
use Rattle.std.proofs.Common.{Bool, List, Option, None, [], ap, arith, false, inl, inr, length, length-append, refl, subst, sym, true, ℕ, ◌&&◌, ◌++◌, ◌+◌, ◌≡◌, ◌≤◌, ◌∙◌, ◌∷◌}
use Rattle.std.proofs.KnownBytes.{Consumes-nil, Consumes-trans}
use Rattle.std.proofs.lemmas.Bool.Decides.{nat_tests}
use Rattle.std.proofs.lemmas.List.{append_assoc}
use Rattle.sl_io.specs.FaultCauses.{Rose}
use Rattle.std.specs.Result.{IsErrAnd}
use Rattle.std.specs.Prelude.{Err, Ok, Result, nat_le, nat_lt}

-- ---- lines

short_refusal : (a : Bool) → a ≡ false → first_that ((a, Syntax) ∷ (false, LimitBytes) ∷ []) ≡ None
short_refusal true h = absurd cc
short_refusal false h = refl

not_long : (start len : ℕ) → len ≤ longest_line → (nat_lt longest_line len && nat_le (start + longest_line + 1) greatest_source) ≡ false
not_long start len h = grind (arith, nat_tests)

-- A line that was read isn't refused before that.
pub unrefused : (n : ReaderState) → length n.line ≤ longest_line → line_refusal (line_of n) ≡ None
unrefused n short = short_refusal (nat_lt longest_line (length n.line) && nat_le (n.start + longest_line + 1) greatest_source) (not_long n.start (length n.line) short)

-- How long a source is of which the first lines were read.
total_of : (consumed rest : List ℕ) (behind : ℕ) → behind ≡ length consumed → length (consumed ++ rest) ≡ behind + length rest
total_of consumed rest behind is = length-append consumed rest ∙ ap (λ b. b + length rest) (sym is)

-- The next line is the first of those that are left.
pub next_line : (before after : Option (List ℕ)) (consumed : List ℕ) (r n : ReaderState) → r.behind ≡ length consumed → (l : ReadsLine before after r n)
    → (rest : List ℕ) → MayFollow n.ended rest → lines_left consumed (l.taken ++ rest) r ≡ line_of n ∷ lines_left (consumed ++ l.taken) rest n
next_line before after consumed r n behind l rest follows =
    let total : length (consumed ++ (l.taken ++ rest)) ≡ r.behind + length (l.taken ++ rest) = total_of consumed (l.taken ++ rest) r.behind behind in
    ap (λ t. numbered_from t r.behind (r.number + 1) (lines_of (l.taken ++ rest))) total ∙ l.first rest follows
    ∙ ap (λ t. line_of n ∷ numbered_from t n.behind (n.number + 1) (lines_of rest)) (sym total ∙ ap length (sym (append_assoc consumed l.taken rest)))

pub has_read_more : (before after : Option (List ℕ)) (consumed : List ℕ) (r n : ReaderState) → HasRead consumed r → (l : ReadsLine before after r n) → HasRead (consumed ++ l.taken) n
has_read_more before after consumed r n h l =
    record {
      behind = l.behind ∙ ap (λ b. b + length l.taken) h.behind ∙ sym (length-append consumed l.taken);
      whole = λ is. inr (consumed ++ n.line, ap (λ t. consumed ++ t) (l.feed is) ∙ sym (append_assoc consumed n.line (10 ∷ [])));
    }

-- What may follow where the source hasn't ended.
pub open_follows : (ended : Bool) (rest : List ℕ) → ended ≡ false → MayFollow ended rest
open_follows true rest is = absurd cc
open_follows false rest is = λ ends. absurd cc

-- The bytes of the source so far, with those that were read now.
pub gives_then : (first before after : Option (List ℕ)) (have consumed left all : List ℕ) → Gives first before have (consumed ++ left) → Gives before after left all → Gives first after have (consumed ++ all)
gives_then first before after have consumed left all a b =
    record {
      more = a.more ++ b.more;
      consumes = Consumes-trans first before after a.more b.more a.consumes b.consumes;
      all_are = sym (append_assoc have a.more b.more) ∙ ap (λ x. x ++ b.more) a.all_are ∙ append_assoc consumed left b.more ∙ ap (λ x. consumed ++ x) b.all_are;
    }

pub gives_so : (before after : Option (List ℕ)) (have all same : List ℕ) → Gives before after have all → all ≡ same → Gives before after have same
gives_so before after have all same g is = record { more = g.more; consumes = g.consumes; all_are = g.all_are ∙ is }

-- ---- a header

-- What the answer to a line makes of a source.
stepped : (before after : Option (List ℕ)) (consumed : List ℕ) (ls : List HeaderLine) (r n : ReaderState) → HeaderGoesOn consumed ls r → (l : ReadsLine before after r n) → (added : Added)
    → added ≡ answer_after ls n.line → (rest : List ℕ) → MayFollow n.ended rest
    → going_on added (lines_after ls n.line) n.number (lines_left (consumed ++ l.taken) rest n) ≡ read_header whole_language [] 1 (numbered_lines ((consumed ++ l.taken) ++ rest))
stepped before after consumed ls r n h l added is rest follows =
    ap (λ a. going_on a (lines_after ls n.line) n.number (lines_left (consumed ++ l.taken) rest n)) is
    ∙ sym (read_header-line ls (r.number + 1) (line_of n) (lines_left (consumed ++ l.taken) rest n) (unrefused n l.unrefused.0))
    ∙ ap (read_header whole_language ls (r.number + 1)) (sym (next_line before after consumed r n h.has_read.behind l rest follows))
    ∙ h.reads (l.taken ++ rest) (open_follows r.ended (l.taken ++ rest) l.began)
    ∙ ap (λ s. read_header whole_language [] 1 (numbered_lines s)) (sym (append_assoc consumed l.taken rest))

-- A reading of a header, within it.
pub record IsWithin (first now : Option (List ℕ)) (r : ReaderState) (ls : List HeaderLine) : Type 0 where
  pub consumed : List ℕ
  pub gives : Gives first now [] (consumed ++ r.left)
  pub goes : HeaderGoesOn consumed ls r

pub at_first : (left : Option (List ℕ)) (r : ReaderState) → r ≡ no_line → IsWithin left left r []
at_first left r is =
    subst (λ (s : ReaderState). IsWithin left left s []) (sym is)
    (record {
      consumed = [];
      gives = record { more = []; consumes = Consumes-nil left; all_are = refl };
      goes = record { has_read = record { behind = refl; whole = λ h. inl refl }; reads = λ rest follows. refl };
    })

pub goes_more : (first before after : Option (List ℕ)) (r n : ReaderState) (ls : List HeaderLine) → IsWithin first before r ls → ReadsLine before after r n → More ≡ answer_after ls n.line
    → IsWithin first after n (lines_after ls n.line)
goes_more first before after r n ls w l is =
    record {
      consumed = w.consumed ++ l.taken;
      gives = gives_so first after [] (w.consumed ++ (l.taken ++ n.left)) ((w.consumed ++ l.taken) ++ n.left) (gives_then first before after [] w.consumed r.left (l.taken ++ n.left) w.gives l.gives)
          (sym (append_assoc w.consumed l.taken n.left));
      goes = record {
        has_read = has_read_more before after w.consumed r n w.goes.has_read l;
        reads = λ rest follows. stepped before after w.consumed ls r n w.goes l More is rest follows;
      };
    }

pub begins_there : (first before after : Option (List ℕ)) (r n : ReaderState) (ls : List HeaderLine) (h : Header) → IsWithin first before r ls → ReadsLine before after r n
    → Begun h ≡ answer_after ls n.line → HeaderBegins first after n h
begins_there first before after r n ls h w l is =
    record {
      consumed = w.consumed ++ l.taken;
      gives = gives_so first after [] (w.consumed ++ (l.taken ++ n.left)) ((w.consumed ++ l.taken) ++ n.left) (gives_then first before after [] w.consumed r.left (l.taken ++ n.left) w.gives l.gives)
          (sym (append_assoc w.consumed l.taken n.left));
      has_read = has_read_more before after w.consumed r n w.goes.has_read l;
      reads = λ rest follows. sym (stepped before after w.consumed ls r n w.goes l (Begun h) is rest follows);
    }

left_follows : (before after : Option (List ℕ)) (r n : ReaderState) (l : ReadsLine before after r n) (none : n.ended ≡ true → n.left ≡ []) (rest : List ℕ) → MayFollow n.ended rest → MayFollow n.ended (n.left ++ rest)
left_follows before after r n l none rest follows = λ is. ap (λ x. x ++ rest) (none is) ∙ follows is

pub refuses_there : (first before after : Option (List ℕ)) (r n : ReaderState) (ls : List HeaderLine) (why : Refusal) → IsWithin first before r ls → ReadsLine before after r n
    → (n.ended ≡ true → n.left ≡ []) → Refused why ≡ answer_after ls n.line → HeaderStops first after n n.number why
refuses_there first before after r n ls why w l none is =
    record {
      bytes = (w.consumed ++ l.taken) ++ n.left;
      gives = gives_so first after [] (w.consumed ++ (l.taken ++ n.left)) ((w.consumed ++ l.taken) ++ n.left) (gives_then first before after [] w.consumed r.left (l.taken ++ n.left) w.gives l.gives)
          (sym (append_assoc w.consumed l.taken n.left));
      reads = λ rest follows.
          ap (λ s. read_header whole_language [] 1 (numbered_lines s)) (append_assoc (w.consumed ++ l.taken) n.left rest)
          ∙ sym (stepped before after w.consumed ls r n w.goes l (Refused why) is (n.left ++ rest) (left_follows before after r n l none rest follows));
    }

-- A line that is refused before it is read.
pub stops_at : (first before after : Option (List ℕ)) (r n : ReaderState) (ls : List HeaderLine) (why : Refusal) → IsWithin first before r ls → ReadsRefused before after r n why
    → HeaderStops first after n (n.number + 1) why
stops_at first before after r n ls why w x =
    record {
      bytes = w.consumed ++ x.bytes;
      gives = gives_then first before after [] w.consumed r.left x.bytes w.gives x.gives;
      reads = λ rest follows.
          let f = x.refuses.first rest (r.number + 1) in
          let l : NumberedLine = x.refuses.line rest (r.number + 1) in
          let total : length (w.consumed ++ (x.bytes ++ rest)) ≡ r.behind + length (x.bytes ++ rest) = total_of w.consumed (x.bytes ++ rest) r.behind w.goes.has_read.behind in
          let lines : lines_left w.consumed (x.bytes ++ rest) r ≡ l ∷ f.others = ap (λ t. numbered_from t r.behind (r.number + 1) (lines_of (x.bytes ++ rest))) total ∙ f.lines in
          ap (λ s. read_header whole_language [] 1 (numbered_lines s)) (append_assoc w.consumed x.bytes rest)
          ∙ sym (w.goes.reads (x.bytes ++ rest) (open_follows r.ended (x.bytes ++ rest) x.began))
          ∙ ap (read_header whole_language ls (r.number + 1)) lines
          ∙ read_header-refused ls (r.number + 1) l f.others why (x.refuses.refused rest (r.number + 1))
          ∙ ap (λ k. Header_refused k why) (x.refuses.numbered rest (r.number + 1) ∙ ap (λ k. k + 1) (sym x.same));
    }

-- The source ends within the header.
pub ends_early : (first before after : Option (List ℕ)) (r n : ReaderState) (ls : List HeaderLine) → IsWithin first before r ls → ReadsEnd before after r n → HeaderStops first after n (n.number + 1) Syntax
ends_early first before after r n ls w e =
    record {
      bytes = w.consumed ++ [];
      gives = gives_then first before after [] w.consumed r.left [] w.gives e.gives;
      reads = λ rest follows.
          ap (λ s. read_header whole_language [] 1 (numbered_lines s)) (append_assoc w.consumed [] rest ∙ ap (λ x. w.consumed ++ x) (follows e.ended))
          ∙ sym (w.goes.reads [] (λ is. refl)) ∙ ap (λ k. Header_refused (k + 1) Syntax) (sym e.same);
    }

-- A read fails within it.
pub breaks_there : (first before after : Option (List ℕ)) (r : ReaderState) (ls : List HeaderLine) → IsWithin first before r ls → Fails before after r → HeaderBreaks first after
breaks_there first before after r ls w f =
    record {
      complete = w.consumed;
      partial = f.bytes;
      gives = gives_then first before after [] w.consumed r.left f.bytes w.gives f.gives;
      whole = w.goes.has_read.whole f.open_still;
      free = f.free;
      reader = r;
      ls = ls;
      goes = w.goes;
    }

pub gives_all : (first before after : Option (List ℕ)) (r : ReaderState) (ls : List HeaderLine) → IsWithin first before r ls → ((all : List ℕ) × Gives before after r.left all)
    → (all : List ℕ) × Gives first after [] all
gives_all first before after r ls w g = (w.consumed ++ g.0, gives_then first before after [] w.consumed r.left g.0 w.gives g.1)

pub rose_later : (a b c : ℕ) → a ≤ b → Rose b c → Rose a c
rose_later a b c h rose = omega (arith, h, rose)

-- What is handed on is what was answered.
pub handed_on : {A E : Type 0} (r : Result A E) (e f : E) → IsErrAnd r (λ x. x ≡ e) → r ≡ Err f → e ≡ f
handed_on (Ok x) e f h is = absurd cc
handed_on (Err x) e f h is = cc
