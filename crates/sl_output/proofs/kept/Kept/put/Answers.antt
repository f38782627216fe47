use Rattle.std.proofs.Common.{[], ap, subst, sym, ◌++◌, ◌∙◌, ◌∷◌}
use Rattle.sl_output.proofs.kept.Kept.put.Goals as goal
use Rattle.sl_output.specs.Outputs.{IsPut, KeptState}

pub invariant_of-self : goal.invariant_of-self
invariant_of-self g c =
    let written = c.write_on-self-inside.ensures g.O.Press.taken g.O.Press.faults c.self.inside.front c.by.result c.self.invariant in
    let front = c.in_ok-front.ensures.added ∙ ap (λ (k : KeptState _). k.front ++ record { by = c.by.result; entry = c.args.text } ∷ []) (sym c.self.view_is)
    ∙ ap (λ text. c.self.inside.front ++ record { by = c.by.result; entry = text } ∷ []) (sym c.as_slice.ensures) in
    subst (λ ps. IsPut g.O.Press.taken (g.K.Sink.taken c.write_on-self-inside.new.sink) g.O.Press.faults (g.K.Sink.faults c.write_on-self-inside.new.sink) ps c.write_on-self-inside.result) (sym front) written
