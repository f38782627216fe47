use Rattle.sl_tables.proofs.ProgramsStand.{shown_one}
use Rattle.sl_tables.proofs.kill_programs.Programs.get.Goals as goal
use Rattle.std.proofs.Common.{ap, find, option_map, ◌==◌, ◌∙◌}

pub returns : goal.returns
returns c =
    c.get.ensures.value
    ∙ (shown_one c.args.process c.self.inside.programs.entries c.self.invariant.0 ∙ ap (λ v. option_map (λ k. k.program) (find (λ k. k.process == c.args.process) v.programs)) c.self.view_is)
