use Rattle.sl_tables.proofs.ProgramsStand.{apart_others, left_is, shown_others}
use Rattle.sl_tables.proofs.kill_programs.Programs.remove.Goals as goal
use Rattle.sl_tables.specs.KillPrograms.{AreApart, programs_of}
use Rattle.sl_trace.specs.KillPrograms.{without_program}
use Rattle.std.proofs.Common.{Some, ap, arith, subst, sym, ◌∙◌}

pub invariant_of-self : goal.invariant_of-self
invariant_of-self c =
    (subst AreApart (sym c.forget.ensures.entries) (apart_others c.args.process c.self.inside.programs.entries c.self.invariant.0), omega (arith, c.self.invariant.1, c.forget.ensures.room))

pub returns : goal.returns
returns c =
    left_is (programs_of c.forget.new.programs.entries) (without_program (Some c.args.process) c.args.self.now.programs) c.self.inside.room c.args.self.now
    (ap programs_of c.forget.ensures.entries ∙ (shown_others c.args.process c.self.inside.programs.entries ∙ ap (λ v. without_program (Some c.args.process) v.programs) c.self.view_is)) (ap (λ v. v.room) c.self.view_is)
