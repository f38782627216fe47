-- A script is read on, line by line.
use Rattle.sl_reader.proofs.ScriptLaws.{ends_there, failed_so, refused_unread, said_so, silent_so, unsaid_so}
use Rattle.sl_reader.proofs.script_reading.read_on.Goals as goal
use Rattle.sl_schedule.specs.Lines.{line_seen}
use Rattle.sl_reader.specs.LineReads.{Reads}
use Rattle.std.proofs.Common.{ap, arith, subst, sym, ◌∙◌}
use Rattle.std.specs.Prelude.{Err}

pub returns-in-Err-clause-comes : goal.returns-in-Err-clause-comes
returns-in-Err-clause-comes g c first began told p =
    failed_so c.args.scope.now first (g.S.Source.left c.loop-error.source) (g.S.Source.left c.read_line.new.source) (g.S.Source.faults c.args.source.now) (g.S.Source.faults c.loop-error.source)
    (g.S.Source.faults c.read_line.new.source) began c.loop-error.reader c.read_line.new.self told c.in-Err.error (c.loop-error.invariant.passes first began told p)
    (λ is. c.in-Err.ensures.failed (ap (λ e. Err e) is)) c.in-Err.ensures.err c.loop-error.invariant.later

pub returns-in-Ok-End-clause-comes : goal.returns-in-Ok-End-clause-comes
returns-in-Ok-End-clause-comes g c first began told p =
    ends_there c.args.scope.now first (g.S.Source.left c.loop-error.source) (g.S.Source.left c.read_line.new.source) (g.S.Source.faults c.args.source.now) (g.S.Source.faults c.read_line.new.source) began
    c.loop-error.reader c.read_line.new.self told (c.loop-error.invariant.passes first began told p)
    (subst (Reads (g.S.Source.left c.loop-error.source) (g.S.Source.left c.read_line.new.source) c.loop-error.reader c.read_line.new.self) c.in-Ok-End.field-0-is c.in-Ok-End.ensures.ok)
    c.read_line.ensures.stands

pub returns-in-Ok-Refused-clause-comes : goal.returns-in-Ok-Refused-clause-comes
returns-in-Ok-Refused-clause-comes g c first began told p =
    refused_unread c.args.scope.now first (g.S.Source.left c.loop-error.source) (g.S.Source.left c.read_line.new.source) (g.S.Source.faults c.args.source.now) (g.S.Source.faults c.read_line.new.source) began
    c.loop-error.reader c.read_line.new.self told c.next_number-number.result c.in-Ok-Refused.why (c.loop-error.invariant.passes first began told p)
    (subst (Reads (g.S.Source.left c.loop-error.source) (g.S.Source.left c.read_line.new.source) c.loop-error.reader c.read_line.new.self) c.in-Ok-Refused.field-0-is c.in-Ok-Refused.ensures.ok)
    c.next_number-number.ensures.exact

pub returns-in-Err-live_line-clause-comes : goal.returns-in-Err-live_line-clause-comes
returns-in-Err-live_line-clause-comes g c first began told p =
    unsaid_so c.args.scope.now first (g.S.Source.left c.loop-error.source) (g.S.Source.left c.read_line.new.source) (g.S.Source.faults c.args.source.now) (g.S.Source.faults c.read_line.new.source) began
    c.loop-error.reader c.read_line.new.self told (c.loop-error.invariant.passes first began told p)
    (subst (Reads (g.S.Source.left c.loop-error.source) (g.S.Source.left c.read_line.new.source) c.loop-error.reader c.read_line.new.self) c.in-Ok-Line.field-0-is c.in-Ok-Line.ensures.ok)
    c.read_line.ensures.stands

pub returns-in-Ok-Some-clause-comes : goal.returns-in-Ok-Some-clause-comes
returns-in-Ok-Some-clause-comes g c first began told p =
    said_so c.args.scope.now first (g.S.Source.left c.loop-error.source) (g.S.Source.left c.read_line.new.source) (g.S.Source.faults c.args.source.now) (g.S.Source.faults c.read_line.new.source) began
    c.loop-error.reader c.read_line.new.self told (line_seen c.line.result) c.in-Ok-Some.read c.came_of.result (c.loop-error.invariant.passes first began told p)
    (subst (Reads (g.S.Source.left c.loop-error.source) (g.S.Source.left c.read_line.new.source) c.loop-error.reader c.read_line.new.self) c.in-Ok-Line.field-0-is c.in-Ok-Line.ensures.ok)
    c.line.ensures (sym c.in-Ok-Some.field-0-is ∙ c.in-Ok-Some.ensures) c.came_of.ensures

pub loop-error-preserved : goal.loop-error-preserved
loop-error-preserved g c =
    record {
      passes = λ first began told p.
          silent_so c.args.scope.now first (g.S.Source.left c.loop-error.source) (g.S.Source.left c.read_line.new.source) began c.loop-error.reader c.read_line.new.self told (line_seen c.line.result)
          (c.loop-error.invariant.passes first began told p)
          (subst (Reads (g.S.Source.left c.loop-error.source) (g.S.Source.left c.read_line.new.source) c.loop-error.reader c.read_line.new.self) c.in-Ok-Line.field-0-is c.in-Ok-Line.ensures.ok)
          c.line.ensures (sym c.in-Ok-None.field-0-is ∙ c.in-Ok-None.ensures);
      stands = c.read_line.ensures.stands;
      later = omega (arith, c.loop-error.invariant.later, c.read_line.ensures.later);
    }
