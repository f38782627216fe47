use Rattle.sl_sector.proofs.BitLaws.{more_bytes, whole_bitmap}
use Rattle.sl_sector.proofs.bits.bits_of.Goals as goal
use Rattle.std.proofs.Common.{arith, get_or, length, refl, ◌<◌, ◌≤◌, ◌∙◌}

pub loop-i-preserved : goal.loop-i-preserved
loop-i-preserved c =
    let inside : c.loop-i.i < length c.args.bitmap.now = omega arith in
    more_bytes c.args.bitmap.now _ _ c.loop-i.i (get_or c.args.bitmap.now c.loop-i.i 0) inside refl c.loop-i.invariant c.in_ok-push_bits_of_byte.ensures

pub returns : goal.returns
returns c =
    let over : length c.args.bitmap.now ≤ c.loop-i.i = omega arith in
    c.loop-i.invariant ∙ whole_bitmap c.args.bitmap.now c.loop-i.i over
