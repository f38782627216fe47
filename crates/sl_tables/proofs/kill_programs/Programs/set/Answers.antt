use Rattle.sl_tables.proofs.ProgramsStand.{apart_push, new_entry, put_is, shown_is}
use Rattle.sl_tables.proofs.kill_programs.Programs.set.Goals as goal
use Rattle.sl_tables.specs.KillPrograms.{AreApart, programs_of}
use Rattle.sl_trace.specs.KillPrograms.{with_program}
use Rattle.indexmap.specs.IndexMap.{insert_entry}
use Rattle.std.proofs.Common.{Some, ap, arith, nat_eq, subst, sym, ◌-◌, ◌∙◌}

pub invariant_of-self : goal.invariant_of-self
invariant_of-self c =
    let es = c.self.inside.programs.entries in
    let entries = c.in-Ok.ensures.entries ∙ (ap (λ zs. insert_entry nat_eq zs c.args.process c.args.program) c.forget.ensures.entries ∙ new_entry c.args.process c.args.program es) in
    (subst AreApart (sym entries) (apart_push c.args.process c.args.program es c.self.invariant.0), omega (arith, c.self.invariant.1, c.forget.ensures.room, c.in-Ok.ensures.spare))

pub returns : goal.returns
returns c =
    let es = c.self.inside.programs.entries in
    let entries = c.in-Ok.ensures.entries ∙ ap (λ zs. insert_entry nat_eq zs c.args.process c.args.program) c.forget.ensures.entries in
    put_is (programs_of c.insert.new.self.entries) (with_program (Some (record { process = c.args.process; program = c.args.program })) c.args.self.now.programs) (c.self.inside.room - 1) c.args.self.now
    (shown_is c.args.process es c.insert.new.self.entries c.args.program entries
    ∙ ap (λ v. with_program (Some (record { process = c.args.process; program = c.args.program })) v.programs) c.self.view_is) (ap (λ v. v.room - 1) c.self.view_is)
