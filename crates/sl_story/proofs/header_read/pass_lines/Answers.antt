use Rattle.sl_schedule.proofs.ScheduleLaws.{none_left, refused_first, told}
use Rattle.sl_story.proofs.header_read.pass_lines.Goals as goal
use Rattle.sl_schedule.specs.HeadersSoFar.{lines_after}
use Rattle.sl_schedule.specs.Lines.{line_seen}
use Rattle.sl_schedule.specs.declared.header.Added.TheVariants.{Begun, More, Refused}
use Rattle.std.proofs.Common.{refl, sym, ◌∙◌}

pub returns-in-Begun : goal.returns-in-Begun
returns-in-Begun c = λ ls h.
    let so_far = c.loop-line.invariant ls h in
    told so_far.0 c.loop-line.next c.loop-line.lines (line_seen c.in-Some.line) c.next_line.new.self c.in-Some.ensures.line c.in-Some.ensures.left
    c.in_default-refusal.ensures (Begun c.in-Begun.header) (sym c.in-Begun.is ∙ c.in_ok-add.ensures.exact so_far.0 so_far.1) ∙ so_far.2

pub returns-in-Refused : goal.returns-in-Refused
returns-in-Refused c = λ ls h.
    let so_far = c.loop-line.invariant ls h in
    told so_far.0 c.loop-line.next c.loop-line.lines (line_seen c.in-Some.line) c.next_line.new.self c.in-Some.ensures.line c.in-Some.ensures.left
    c.in_default-refusal.ensures (Refused c.in-Refused.why) (sym c.in-Refused.is ∙ c.in_ok-add.ensures.exact so_far.0 so_far.1) ∙ so_far.2

pub loop-line-preserved : goal.loop-line-preserved
loop-line-preserved c = λ ls h.
    let so_far = c.loop-line.invariant ls h in (
      lines_after so_far.0 c.in-Some.line.text.now,
      c.in_ok-add.ensures.stands so_far.0 so_far.1,
      told so_far.0 c.loop-line.next c.loop-line.lines (line_seen c.in-Some.line) c.next_line.new.self c.in-Some.ensures.line c.in-Some.ensures.left
          c.in_default-refusal.ensures More (sym c.in-More.is ∙ c.in_ok-add.ensures.exact so_far.0 so_far.1) ∙ so_far.2,
    )

pub loop-line-init : goal.loop-line-init
loop-line-init c = λ ls h. (ls, h, refl)

pub returns-in-Some-refusal : goal.returns-in-Some-refusal
returns-in-Some-refusal c = λ ls h.
    let so_far = c.loop-line.invariant ls h in
    refused_first so_far.0 c.loop-line.next c.loop-line.lines (line_seen c.in-Some.line) c.in-Some-refusal.why c.in-Some.ensures.line c.in-Some-refusal.ensures ∙ so_far.2

pub returns : goal.returns
returns c = λ ls h.
    let so_far = c.loop-line.invariant ls h in none_left so_far.0 c.loop-line.next c.loop-line.lines c.in_default.ensures.line ∙ so_far.2
