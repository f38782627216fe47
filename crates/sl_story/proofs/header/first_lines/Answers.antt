-- The header that the lines are read as, and the place behind them.
use Rattle.sl_story.proofs.Openings.{few_bytes, few_lines, long_text, read_as, refused_never, short_text}
use Rattle.sl_story.proofs.header.first_lines.Goals as goal
use Rattle.std.proofs.Common.{ap, length, sym, ◌*◌, ◌+◌, ◌∙◌}

pub invariant_of-place : goal.invariant_of-place
invariant_of-place c =
    let long = c.len.ensures ∙ sym c.deref.ensures.len ∙ ap length c.deref.ensures.value in
    record {
      few = few_lines c.args.hosts c.from.result c.len.result c.in_ok-text.text.items (long_text c.args.hosts c.args.paired c.in_ok-text.text.items c.requires.0 c.requires.1 c.in_ok-text.ensures)
          c.from.ensures long;
      inside = few_bytes c.len.result c.in_ok-text.text.items (short_text c.args.hosts c.args.paired c.in_ok-text.text.items c.requires.0 c.requires.1 c.in_ok-text.ensures) long;
    }

pub unreachable-requires : goal.unreachable-requires
unreachable-requires c =
    refused_never c.args.hosts c.args.paired c.in_ok-header.field-0 c.in-Err.field-0 c.read_header.new.lines c.new-lines.result c.deref.result.now c.requires.0 c.requires.1
    (c.deref.ensures.value ∙ c.in_ok-text.ensures) c.new-lines.ensures c.in-Err.is c.in_ok-header.ensures

pub returns : goal.returns
returns c =
    record {
      hosts_are = c.requires;
      text_is = c.in_ok-text.ensures;
      header_is = read_as c.args.hosts c.args.paired c.in_ok-header.field-0 c.in-Ok.header c.read_header.new.lines c.new-lines.result c.deref.result.now c.requires.0 c.requires.1
          (c.deref.ensures.value ∙ c.in_ok-text.ensures) c.new-lines.ensures c.in-Ok.is c.in_ok-header.ensures;
      lines_are = ap (λ k. 17 + 2 * k) c.from.ensures;
      bytes_are = c.len.ensures ∙ sym c.deref.ensures.len ∙ ap length c.deref.ensures.value;
    }
