use Rattle.sl_member.proofs.Ranges.{bit_set, bit_stays}
use Rattle.sl_member.proofs.asked_requests.Asked.bits.Goals as goal
use Rattle.sl_member.proofs.asked_requests.Asked.bits.Goals.{else-is_asked, then-is_asked}
use Rattle.sl_member.specs.AskedRequests.{is_asked_within}
use Rattle.std.proofs.Common.{sym, ◌∙◌}

pub loop-before-preserved : goal.loop-before-preserved
loop-before-preserved c =
    let k = c.loop-before.before in
    let old = c.loop-before.bits in
    elim c.if-is_asked.branch [
      | then-is_asked w ↦
          bit_set (is_asked_within c.args.timing.now c.args.self.now c.args.now) k old c.if-is_asked.bits (sym w.if-is_asked.ensures) c.loop-before.invariant
          (w.bits-is ∙ w.set.ensures.exact)
      | else-is_asked w ↦
          w.bits-is ∙ bit_stays (is_asked_within c.args.timing.now c.args.self.now c.args.now) k old (sym w.if-is_asked.ensures) c.loop-before.invariant
    ]
