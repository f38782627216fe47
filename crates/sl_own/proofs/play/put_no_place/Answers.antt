-- Its line, or nothing.
use Rattle.sl_own.proofs.PlayLaws.{none_put, text_is}
use Rattle.sl_own.proofs.play.put_no_place.Goals as goal
use Rattle.sl_own.specs.OwnTexts.{no_place_text}
use Rattle.std.proofs.Common.{inl, inr, refl}

pub returns-then-is_memory : goal.returns-then-is_memory
returns-then-is_memory g c = inl (refl, none_put (g.K.Sink.taken c.args.sink.now))

pub returns : goal.returns
returns g c =
    inr (c.put.ensures (no_place_text c.args.why) (text_is c.push_no_place-pushed.result _ _ _ (no_place_text c.args.why) c.deref.ensures.value c.new-out.ensures.items c.push_no_place-pushed.ensures.ok))
