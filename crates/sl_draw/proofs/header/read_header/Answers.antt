-- A header is read line by line, and its comments are kept.
use Rattle.sl_draw.proofs.TitledHeaders.{at_first, begins_there, goes_more}
use Rattle.sl_draw.proofs.header.read_header.Goals as goal
use Rattle.sl_draw.specs.Captions.{comment_in}
use Rattle.sl_report.specs.Schedules.{NumberedLine}
use Rattle.sl_schedule.specs.HeadersSoFar.{Stands, answer_after, lines_after}
use Rattle.sl_reader.proofs.HeaderSteps.{breaks_there, ends_early, gives_all, handed_on, refuses_there, rose_later, stops_at}
use Rattle.sl_reader.proofs.PiecedLines.{on_err, open_stands}
use Rattle.sl_reader.specs.HeaderBegins.{HeaderStops}
use Rattle.sl_reader.specs.LineReads.{Gives, ReaderState, Reads}
use Rattle.sl_reader.specs.declared.reader.ReadError.TheVariants.{Failed}
use Rattle.std.proofs.Common.{Err, List, [], ap, arith, subst, sym, ℕ, ◌++◌, ◌∙◌, ◌≡◌}

pub loop-header-init : goal.loop-header-init
loop-header-init g c =
    record {
      within = ([], c.new-header.ensures.stands, at_first (g.S.Source.left c.args.source.now) c.args.reader.now c.args.caption.now.items c.requires.first c.requires.none);
      stands = open_stands (g.S.Source.left c.args.source.now) c.args.reader.now (ap (λ (r : ReaderState). r.ended) c.requires.first);
      later = omega arith;
    }

pub returns-in_err-why-clause-failed : goal.returns-in_err-why-clause-failed
returns-in_err-why-clause-failed g c = λ is.
    let w = c.loop-header.invariant.within in
    let f = c.in_err-why.ensures.failed (ap (λ e. Err e) (handed_on c.from_residual.result c.in_err-why.field-0.0 Failed c.from_residual.ensures.1 is)) in (
      breaks_there (g.S.Source.left c.args.source.now) (g.S.Source.left c.loop-header.source) (g.S.Source.left c.read_line.new.source) c.loop-header.reader w.0 w.2.within f.0,
      rose_later (g.S.Source.faults c.args.source.now) (g.S.Source.faults c.loop-header.source) (g.S.Source.faults c.read_line.new.source) c.loop-header.invariant.later f.1,
    )

pub returns-in_err-why-clause-err : goal.returns-in_err-why-clause-err
returns-in_err-why-clause-err g c =
    let w = c.loop-header.invariant.within in
    on_err c.from_residual.result ((all : List ℕ) × Gives (g.S.Source.left c.args.source.now) (g.S.Source.left c.read_line.new.source) [] all)
    (gives_all (g.S.Source.left c.args.source.now) (g.S.Source.left c.loop-header.source) (g.S.Source.left c.read_line.new.source) c.loop-header.reader w.0 w.2.within (c.in_err-why.ensures.err.bytes, c.in_err-why.ensures.err.gives))

pub returns-in-Refused-clause-ok : goal.returns-in-Refused-clause-ok
returns-in-Refused-clause-ok g c =
    let w = c.loop-header.invariant.within in
    subst (λ n. HeaderStops (g.S.Source.left c.args.source.now) (g.S.Source.left c.read_line.new.source) c.read_line.new.self n c.in-Refused.why) (sym c.next_number.ensures.exact)
    (stops_at (g.S.Source.left c.args.source.now) (g.S.Source.left c.loop-header.source) (g.S.Source.left c.read_line.new.source) c.loop-header.reader c.read_line.new.self w.0 c.in-Refused.why w.2.within
    (subst (Reads (g.S.Source.left c.loop-header.source) (g.S.Source.left c.read_line.new.source) c.loop-header.reader c.read_line.new.self) c.in-Refused.is c.in_ok-why.ensures.ok))

pub returns-in-End-clause-ok : goal.returns-in-End-clause-ok
returns-in-End-clause-ok g c =
    let w = c.loop-header.invariant.within in
    subst (λ n. HeaderStops (g.S.Source.left c.args.source.now) (g.S.Source.left c.read_line.new.source) c.read_line.new.self n _) (sym c.next_number-in-End.ensures.exact)
    (ends_early (g.S.Source.left c.args.source.now) (g.S.Source.left c.loop-header.source) (g.S.Source.left c.read_line.new.source) c.loop-header.reader c.read_line.new.self w.0 w.2.within
    (subst (Reads (g.S.Source.left c.loop-header.source) (g.S.Source.left c.read_line.new.source) c.loop-header.reader c.read_line.new.self) c.in-End.is c.in_ok-why.ensures.ok))

pub returns-in_err-keep_comment-clause-err : goal.returns-in_err-keep_comment-clause-err
returns-in_err-keep_comment-clause-err g c =
    let w = c.loop-header.invariant.within in
    let l = subst (Reads (g.S.Source.left c.loop-header.source) (g.S.Source.left c.read_line.new.source) c.loop-header.reader c.read_line.new.self) c.in-Line.is c.in_ok-why.ensures.ok in
    on_err c.from_residual-in_err-keep_comment.result ((all : List ℕ) × Gives (g.S.Source.left c.args.source.now) (g.S.Source.left c.read_line.new.source) [] all)
    (gives_all (g.S.Source.left c.args.source.now) (g.S.Source.left c.loop-header.source) (g.S.Source.left c.read_line.new.source) c.loop-header.reader w.0 w.2.within (l.taken ++ c.read_line.new.self.left, l.gives))

pub returns-in_err-add-clause-err : goal.returns-in_err-add-clause-err
returns-in_err-add-clause-err g c =
    let w = c.loop-header.invariant.within in
    let l = subst (Reads (g.S.Source.left c.loop-header.source) (g.S.Source.left c.read_line.new.source) c.loop-header.reader c.read_line.new.self) c.in-Line.is c.in_ok-why.ensures.ok in
    on_err c.from_residual-in_err-add.result ((all : List ℕ) × Gives (g.S.Source.left c.args.source.now) (g.S.Source.left c.read_line.new.source) [] all)
    (gives_all (g.S.Source.left c.args.source.now) (g.S.Source.left c.loop-header.source) (g.S.Source.left c.read_line.new.source) c.loop-header.reader w.0 w.2.within (l.taken ++ c.read_line.new.self.left, l.gives))

pub loop-header-preserved : goal.loop-header-preserved
loop-header-preserved g c =
    let w = c.loop-header.invariant.within in
    let l = subst (Reads (g.S.Source.left c.loop-header.source) (g.S.Source.left c.read_line.new.source) c.loop-header.reader c.read_line.new.self) c.in-Line.is c.in_ok-why.ensures.ok in
    let text : c.line-line.result.text.now ≡ c.read_line.new.self.line = ap (λ (x : NumberedLine). x.text) c.line-line.ensures in
    let comment : c.keep_comment.new.caption.items ≡ c.loop-header.caption.items ++ comment_in c.read_line.new.self.line = c.in_ok-keep_comment.ensures ∙ ap (λ t. c.loop-header.caption.items ++ comment_in t) text in
    record {
      within = (
        lines_after w.0 c.read_line.new.self.line,
        subst (λ t. Stands c.add.new.self (lines_after w.0 t)) text (c.in_ok-add.ensures.stands w.0 w.1),
        goes_more (g.S.Source.left c.args.source.now) (g.S.Source.left c.loop-header.source) (g.S.Source.left c.read_line.new.source) c.loop-header.reader c.read_line.new.self c.loop-header.caption.items c.keep_comment.new.caption.items w.0 w.2 l comment
            (sym c.in-More.is ∙ c.in_ok-add.ensures.exact w.0 w.1 ∙ ap (answer_after w.0) text),
      );
      stands = c.read_line.ensures.stands;
      later = omega (arith, c.loop-header.invariant.later, c.read_line.ensures.later);
    }

pub returns-in-Begun-clause-ok : goal.returns-in-Begun-clause-ok
returns-in-Begun-clause-ok g c =
    let w = c.loop-header.invariant.within in
    let l = subst (Reads (g.S.Source.left c.loop-header.source) (g.S.Source.left c.read_line.new.source) c.loop-header.reader c.read_line.new.self) c.in-Line.is c.in_ok-why.ensures.ok in
    let text : c.line-line.result.text.now ≡ c.read_line.new.self.line = ap (λ (x : NumberedLine). x.text) c.line-line.ensures in
    let comment : c.keep_comment.new.caption.items ≡ c.loop-header.caption.items ++ comment_in c.read_line.new.self.line = c.in_ok-keep_comment.ensures ∙ ap (λ t. c.loop-header.caption.items ++ comment_in t) text in
    begins_there (g.S.Source.left c.args.source.now) (g.S.Source.left c.loop-header.source) (g.S.Source.left c.read_line.new.source) c.loop-header.reader c.read_line.new.self c.loop-header.caption.items c.keep_comment.new.caption.items w.0 c.in-Begun.begun w.2 l comment
    (sym c.in-Begun.is ∙ c.in_ok-add.ensures.exact w.0 w.1 ∙ ap (answer_after w.0) text)

pub returns-in-Refused-2-clause-ok : goal.returns-in-Refused-2-clause-ok
returns-in-Refused-2-clause-ok g c =
    let w = c.loop-header.invariant.within in
    let l = subst (Reads (g.S.Source.left c.loop-header.source) (g.S.Source.left c.read_line.new.source) c.loop-header.reader c.read_line.new.self) c.in-Line.is c.in_ok-why.ensures.ok in
    let text : c.line-line.result.text.now ≡ c.read_line.new.self.line = ap (λ (x : NumberedLine). x.text) c.line-line.ensures in
    subst (λ n. HeaderStops (g.S.Source.left c.args.source.now) (g.S.Source.left c.read_line.new.source) c.read_line.new.self n c.in-Refused-2.why) (sym (ap (λ (x : NumberedLine). x.number) c.line-line.ensures))
    (refuses_there (g.S.Source.left c.args.source.now) (g.S.Source.left c.loop-header.source) (g.S.Source.left c.read_line.new.source) c.loop-header.reader c.read_line.new.self w.0 c.in-Refused-2.why w.2.within l
    c.read_line.ensures.stands.none (sym c.in-Refused-2.is ∙ c.in_ok-add.ensures.exact w.0 w.1 ∙ ap (answer_after w.0) text))
