-- All lines, one behind the other.
use Rattle.sl_story.proofs.Openings.{joined}
use Rattle.sl_story.proofs.header.header_text.Goals as goal
use Rattle.sl_story.specs.StoryHeaders.{fixed_lines, number_lines, session_line, story_lines}
use Rattle.std.proofs.Common.{[], map, ◌∷◌}
use Rattle.std.specs.List.{range_with_len}
use Rattle.std.specs.Prelude.{codes}

pub returns : goal.returns
unfolding story_lines
returns c =
    joined (number_lines c.args.hosts c.args.paired) fixed_lines (map (session_line (codes "ls")) (range_with_len 1 c.args.hosts))
    (map (session_line (codes "lvm_vg")) (range_with_len 1 c.args.hosts)) (codes "begin" ∷ []) c.new-text.result.items c.push_numbers.new.out.items c.push_fixed.new.out.items
    c.push_sessions.new.out.items c.push_sessions-2.new.out.items c.push_begin.new.out.items c.new-text.ensures.items c.in_ok-push_numbers.ensures c.in_ok-push_fixed.ensures
    c.in_ok-push_sessions.ensures c.in_ok-push_sessions-2.ensures c.in_ok-push_begin.ensures
