-- An event of which something is told comes to pass, or is refused.
use Rattle.sl_machine.specs.KeptParts.{kept_state}
use Rattle.sl_play.proofs.EventsHappen.{calm_still, calm_told, calm_then, handed_on, never_many, passes_so, refused_ok, refused_so, stands_so, told_so}
use Rattle.sl_play.proofs.UntoldEvents.{untested}
use Rattle.sl_play.proofs.play.Play.happen_told.Goals as goal
use Rattle.sl_play.specs.Plays.{state_of}
use Rattle.sl_play.specs.ToldSteps.{AreCounted, counts_with}
use Rattle.sl_play.specs.declared.step_counts.PlayError.TheVariants.{TooMany}
use Rattle.sl_world.specs.ConflictCounts.{conflicts_left}
use Rattle.std.proofs.Common.{None, ap, subst, ◌∙◌}
use Rattle.std.specs.Prelude.{Err}

pub returns-in_err-tell-in-Ok-clause-many : goal.returns-in_err-tell-in-Ok-clause-many
returns-in_err-tell-in-Ok-clause-many g c = λ is.
    passes_so g.L.LockTable.locks g.D.Daemon.commands g.D.Daemon.stands (state_of g.L.LockTable.locks c.args.self.now) c.apply.new.self c.args.event c.machine_of-machine.result c.is_ask-ask.result
    c.apply.new.told c.in-Ok.ensures.ok c.machine_of-machine.ensures c.is_ask-ask.ensures
    (subst (λ n. AreCounted (counts_with c.is_ask-ask.result c.apply.new.told n c.args.self.now.counts) → ⊥) (c.conflicts_left-left.ensures.count ∙ ap (conflicts_left (kept_state g.L.LockTable.locks c.apply.new.self.kept) c.machine_of-machine.result) c.granted.ensures)
    (c.in_err-tell-in-Ok.ensures.many (ap (λ e. Err e) (handed_on c.from_residual.result c.in_err-tell-in-Ok.field-0.0 TooMany c.from_residual.ensures.1 is))))

pub returns-in_err-tell-in-Ok-clause-stands : goal.returns-in_err-tell-in-Ok-clause-stands
returns-in_err-tell-in-Ok-clause-stands g c =
    stands_so g.L.LockTable.locks g.D.Daemon.commands g.D.Daemon.stands (state_of g.L.LockTable.locks c.args.self.now) c.apply.new.self c.tell.new.self.world c.args.event c.apply.new.told c.tell.ensures.world
    c.requires.stands c.in-Ok.ensures.ok

pub returns-in-Err-clause-ok : goal.returns-in-Err-clause-ok
returns-in-Err-clause-ok g c =
    refused_ok g.D.Daemon.commands g.D.Daemon.stands (state_of g.L.LockTable.locks c.args.self.now) c.args.event c.args.out.now.items (kept_state g.L.LockTable.locks c.apply.new.self.kept)
    c.apply.new.self.hosts c.in-Err.error c.after_error.result c.after_error.ensures c.in-Err.ensures.err c.in-Err.ensures.only

pub returns-in-Err-clause-refused : goal.returns-in-Err-clause-refused
returns-in-Err-clause-refused g c w s why there = refused_so c.in-Err.error c.after_error.result why _ c.after_error.ensures (c.in-Err.ensures.refused w s why there)

pub returns-in-Err-clause-many : goal.returns-in-Err-clause-many
returns-in-Err-clause-many g c = λ is. never_many c.in-Err.error c.after_error.result c.after_error.ensures is

pub returns-clause-ok : goal.returns-clause-ok
returns-clause-ok g c =
    told_so g.L.LockTable.locks g.D.Daemon.commands g.D.Daemon.stands (state_of g.L.LockTable.locks c.args.self.now) c.apply.new.self c.take_back.new.self c.tell.new.self.counts c.args.event
    c.machine_of-machine.result c.is_ask-ask.result None c.apply.new.told c.args.out.now.items c.tell.new.out.items (c.take_back.ensures ∙ c.tell.ensures.world) c.in-Ok.ensures.ok c.machine_of-machine.ensures
    c.is_ask-ask.ensures (untested (state_of g.L.LockTable.locks c.args.self.now).kept c.args.event c.requires.told)
    (c.in_ok-tell-in-Ok.ensures.counts ∙ ap (λ n. counts_with c.is_ask-ask.result c.apply.new.told n c.args.self.now.counts) (c.conflicts_left-left.ensures.count ∙ ap (conflicts_left (kept_state g.L.LockTable.locks c.apply.new.self.kept) c.machine_of-machine.result) c.granted.ensures)) c.in_ok-tell-in-Ok.ensures.text

pub returns-clause-stands : goal.returns-clause-stands
returns-clause-stands g c =
    stands_so g.L.LockTable.locks g.D.Daemon.commands g.D.Daemon.stands (state_of g.L.LockTable.locks c.args.self.now) c.apply.new.self c.take_back.new.self c.args.event c.apply.new.told (c.take_back.ensures ∙ c.tell.ensures.world)
    c.requires.stands c.in-Ok.ensures.ok

pub conflicts_left-left-requires : goal.conflicts_left-left-requires
conflicts_left-left-requires g c =
    calm_told g.L.LockTable.locks g.D.Daemon.commands g.D.Daemon.stands c.args.self.now.world c.apply.new.self c.args.event c.machine_of-machine.result c.apply.new.told c.granted.result
    c.args.self.now.calm c.args.self.now.known c.requires.stands c.in-Ok.ensures.ok c.machine_of-machine.ensures c.granted.ensures

pub invariant_of-self-in-Ok : goal.invariant_of-self-in-Ok
invariant_of-self-in-Ok g c =
    record {
      known = calm_then g.L.LockTable.locks c.apply.new.self c.machine_of-machine.result c.granted.result c.args.self.now.calm c.conflicts_left-left.result.calm
          (calm_told g.L.LockTable.locks g.D.Daemon.commands g.D.Daemon.stands c.args.self.now.world c.apply.new.self c.args.event c.machine_of-machine.result c.apply.new.told c.granted.result
          c.args.self.now.calm c.args.self.now.known c.requires.stands c.in-Ok.ensures.ok c.machine_of-machine.ensures c.granted.ensures)
          c.conflicts_left-left.ensures.calm;
    }

pub invariant_of-self : goal.invariant_of-self
invariant_of-self g c =
    record { known = calm_still g.L.LockTable.locks c.args.self.now.world c.apply.new.self c.args.self.now.calm c.in-Err.ensures.err.kept c.args.self.now.known }
