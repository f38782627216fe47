use Rattle.sl_top.proofs.TopLaws.{broken_put, same_front}
use Rattle.sl_top.proofs.top.tell.Goals as goal
use Rattle.std.proofs.Common.{inl, refl}

pub returns-in-Ok : goal.returns-in-Ok
returns-in-Ok g c =
    record { written = c.args.text.now; appends = c.in-Ok.ensures.all; text_is = inl (refl, refl); cause = λ e. absurd (c.requires e) }

pub returns-in-Err : goal.returns-in-Err
returns-in-Err g c =
    let front = c.in-Err.ensures.front in
    broken_put _ _ _ _ front.0 c.args.text.now c.args.text.now c.args.whole front.2 (same_front c.args.text.now c.args.text.now refl) c.in-Err.ensures.cause.failed
