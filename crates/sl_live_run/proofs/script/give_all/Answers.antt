use Rattle.sl_reader.specs.GivenAnswers.{lines_in}
use Rattle.sl_reader.specs.declared.live_lines.LiveLine.{LiveLine}
use Rattle.sl_live_run.proofs.GivenLaws.{first_of, told_err, told_more, told_none, told_so}
use Rattle.sl_live_run.proofs.script.give_all.Goals as goal
use Rattle.sl_live_run.specs.Runs.{refusals_text}
use Rattle.std.proofs.Common.{[], ap, ◌++◌, ◌∙◌, ◌∷◌}
use Rattle.std.specs.Prelude.{Ok, Option}

pub returns-then-has_failed : goal.returns-then-has_failed
returns-then-has_failed g c = λ m so put. told_so m _ _ _ _ _ (c.loop.invariant m so put)

pub returns-in_err-note-in-Ok-Some : goal.returns-in_err-note-in-Ok-Some
returns-in_err-note-in-Ok-Some g c = λ m so put.
    let i = c.loop.invariant m so put in
    told_err m (g.L.LiveLines.has_given c.args.lines.now) (g.L.LiveLines.has_given c.loop.lines) (g.L.LiveLines.has_given c.next-in-loop.new.self) (lines_in c.next-in-loop.result) c.in-Ok-Some.line c.loop.ledger c.note.new.ledger
    c.loop.writer c.loop.writer c.from_residual.result _ i c.next-in-loop.ensures (ap lines_in c.in-Ok-Some.is ∙ ap (λ (o : Option LiveLine). lines_in (Ok o)) c.in-Ok-Some.field-0-is)
    (c.note.ensures.first i.lines m i.given) c.from_residual.ensures.1

pub returns-in_err-put_refusal-in-Ok-Some : goal.returns-in_err-put_refusal-in-Ok-Some
returns-in_err-put_refusal-in-Ok-Some g c = λ m so put.
    let i = c.loop.invariant m so put in
    told_err m (g.L.LiveLines.has_given c.args.lines.now) (g.L.LiveLines.has_given c.loop.lines) (g.L.LiveLines.has_given c.next-in-loop.new.self) (lines_in c.next-in-loop.result) c.in-Ok-Some.line c.loop.ledger c.note.new.ledger
    c.loop.writer c.put_refusal.new.writer c.from_residual-in_err-put_refusal-in-Ok-Some.result _ i c.next-in-loop.ensures (ap lines_in c.in-Ok-Some.is ∙ ap (λ (o : Option LiveLine). lines_in (Ok o)) c.in-Ok-Some.field-0-is)
    (first_of c.note.new.ledger m (i.lines ++ c.in-Ok-Some.line ∷ []) (c.in_ok-note-in-Ok-Some.ensures.given i.lines m i.given)) c.from_residual-in_err-put_refusal-in-Ok-Some.ensures.1

pub loop-preserved : goal.loop-preserved
loop-preserved g c = λ m so put.
    let i = c.loop.invariant m so put in
    told_more m (g.L.LiveLines.has_given c.args.lines.now) (g.L.LiveLines.has_given c.loop.lines) (g.L.LiveLines.has_given c.next-in-loop.new.self) (lines_in c.next-in-loop.result) c.in-Ok-Some.line c.loop.ledger c.note.new.ledger
    c.loop.writer c.put_refusal.new.writer i c.next-in-loop.ensures (ap lines_in c.in-Ok-Some.is ∙ ap (λ (o : Option LiveLine). lines_in (Ok o)) c.in-Ok-Some.field-0-is)
    (c.in_ok-note-in-Ok-Some.ensures.given i.lines m i.given) (c.in_ok-put_refusal-in-Ok-Some.ensures (refusals_text i.lines) i.refused)

pub returns-in_err-give-in-Ok-Some : goal.returns-in_err-give-in-Ok-Some
returns-in_err-give-in-Ok-Some g c = λ m so put.
    let i = c.loop.invariant m so put in
    told_so m _ _ c.note.new.ledger c.put_refusal.new.writer _
    (told_more m (g.L.LiveLines.has_given c.args.lines.now) (g.L.LiveLines.has_given c.loop.lines) (g.L.LiveLines.has_given c.next-in-loop.new.self) (lines_in c.next-in-loop.result) c.in-Ok-Some.line c.loop.ledger c.note.new.ledger
    c.loop.writer c.put_refusal.new.writer i c.next-in-loop.ensures (ap lines_in c.in-Ok-Some.is ∙ ap (λ (o : Option LiveLine). lines_in (Ok o)) c.in-Ok-Some.field-0-is)
    (c.in_ok-note-in-Ok-Some.ensures.given i.lines m i.given) (c.in_ok-put_refusal-in-Ok-Some.ensures (refusals_text i.lines) i.refused))

pub returns-in-Err-NoMemory : goal.returns-in-Err-NoMemory
returns-in-Err-NoMemory g c = λ m so put.
    told_none m (g.L.LiveLines.has_given c.args.lines.now) (g.L.LiveLines.has_given c.loop.lines) (g.L.LiveLines.has_given c.next-in-loop.new.self) (lines_in c.next-in-loop.result) c.loop.ledger c.loop.writer _ (c.loop.invariant m so put) c.next-in-loop.ensures (ap lines_in c.in-Err-NoMemory.is)

pub returns-in-Err : goal.returns-in-Err
returns-in-Err g c = λ m so put.
    told_none m (g.L.LiveLines.has_given c.args.lines.now) (g.L.LiveLines.has_given c.loop.lines) (g.L.LiveLines.has_given c.next-in-loop.new.self) (lines_in c.next-in-loop.result) c.loop.ledger c.loop.writer _ (c.loop.invariant m so put) c.next-in-loop.ensures (ap lines_in c.in-Err.is)

pub returns-in-Ok-None : goal.returns-in-Ok-None
returns-in-Ok-None g c = λ m so put.
    told_none m (g.L.LiveLines.has_given c.args.lines.now) (g.L.LiveLines.has_given c.loop.lines) (g.L.LiveLines.has_given c.next-in-loop.new.self) (lines_in c.next-in-loop.result) c.loop.ledger c.loop.writer _ (c.loop.invariant m so put) c.next-in-loop.ensures
    (ap lines_in c.in-Ok-None.is ∙ ap (λ (o : Option LiveLine). lines_in (Ok o)) c.in-Ok-None.field-0-is)
