-- One machine after another, from the last on.
use Rattle.sl_generate.proofs.CandidateLaws.{least_step}
use Rattle.sl_generate.proofs.candidates.least_ended.Goals as goal
use Rattle.sl_world_state.specs.KeptWorld.{machine_in}
use Rattle.sl_machine.specs.KeptParts.{kept_state}
use Rattle.sl_play.specs.Plays.{state_of}
use Rattle.sl_words.specs.Words.{least}
use Rattle.std.proofs.Common.{ap, arith, map, not, ◌∙◌}
use Rattle.std.specs.Prelude.{filter, option_and_then}

pub loop-machine-preserved : goal.loop-machine-preserved
loop-machine-preserved g c =
    record {
      within = let h = c.loop-machine.invariant.within in omega (arith, h);
      found =
          let h = c.loop-machine.invariant.within in
          let r = c.requires in
          least_step (state_of g.L.LockTable.locks c.args.play.now).kept c.loop-machine.machine c.least_ended_on.result c.loop-machine.least c.least_with-least.result
          (let t = c.loop-machine-test.true in omega (arith, t)) (omega (arith, h, r))
          (c.least_ended_on.ensures ∙ ap (λ x. option_and_then (λ s. least (map (λ f. f.number) (filter (λ f. not f.own) s.flights))) (machine_in (kept_state g.L.LockTable.locks x.kept) c.loop-machine.machine)) c.world.ensures)
          c.loop-machine.invariant.found c.least_with-least.ensures;
    }
