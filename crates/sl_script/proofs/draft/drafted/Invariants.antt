use Rattle.sl_script.proofs.draft.drafted.Given as goal
use Rattle.sl_script.specs.Drafts.{draft_of}
use Rattle.std.proofs.Common.{◌≡◌}

abbrev pub invariant-loop-part : goal.invariant-loop-part
invariant-loop-part l =
    (goal.iterator-loop-part).can_next l.part-iterator × (goal.iterator-loop-part).is_finite l.part-iterator
    × (draft_of l.draft ≡ record { next = l.next; sector = l.sector; child = l.child })
