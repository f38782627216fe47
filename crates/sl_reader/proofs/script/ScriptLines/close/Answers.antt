-- What was read of a script.
use Rattle.sl_reader.proofs.ScriptLaws.{reads_script}
use Rattle.sl_reader.proofs.script.ScriptLines.close.Goals as goal
use Rattle.sl_reader.specs.ScriptReading.{IsScript, ScriptState}
use Rattle.std.proofs.Common.{subst, sym}

pub returns-clause-script : goal.returns-clause-script
returns-clause-script g c first header given begins so =
    let s = subst (λ (x : ScriptState). IsScript g.J.Origin.keeps g.J.Origin.left g.J.Origin.faults g.J.Origin.began g.J.Origin.scope x given) (sym c.self.view_is) so in
    reads_script g.J.Origin.keeps first g.J.Origin.left (g.S.Source.left c.self.inside.source) g.J.Origin.faults (g.S.Source.faults c.self.inside.source) g.J.Origin.began c.self.inside.reader header g.J.Origin.scope
    given s.told c.self.inside.end begins s.given_are s.plain s.stands
