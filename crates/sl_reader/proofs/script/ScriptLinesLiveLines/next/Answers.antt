-- The next line is given, or the script ends.
use Rattle.sl_reader.proofs.ScriptNext.{script_next}
use Rattle.sl_reader.proofs.script.ScriptLinesLiveLines.next.Goals as goal
use Rattle.sl_reader.specs.ScriptReading.{IsScript, ScriptState}
use Rattle.std.proofs.Common.{refl, subst, sym}

pub returns : goal.returns
returns g c given so =
    script_next g.J.Origin.keeps g.J.Origin.left g.J.Origin.faults g.J.Origin.began g.J.Origin.scope _ _ given c.read_on-came.result c.answer_of-answer.result.0
    (subst (λ (x : ScriptState). IsScript g.J.Origin.keeps g.J.Origin.left g.J.Origin.faults g.J.Origin.began g.J.Origin.scope x given) (sym c.self.view_is) so) c.in-None.is
    c.read_on-came.ensures.stands c.read_on-came.ensures.later refl refl (λ told p. c.read_on-came.ensures.comes g.J.Origin.left g.J.Origin.began told p) c.answer_of-answer.ensures
