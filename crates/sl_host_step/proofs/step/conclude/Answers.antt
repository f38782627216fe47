use Rattle.sl_host_step.proofs.step.conclude.Goals as goal
use Rattle.sl_host_step.proofs.RoomsStand.{fewer_still}
use Rattle.sl_host_step.specs.StepMemory.{calls_for, left_for}
use Rattle.std.proofs.Common.{subst, sym, ◌∙◌}
use Rattle.std.specs.Prelude.{◌≤◌}

pub grow_calm-requires : goal.grow_calm-requires
grow_calm-requires c =
    let a = c.requires.at in
    record { done = (a.0, a.1, a.2, c.end.ensures.done a.0 a.1 a.2 a.3) }

pub rest-requires : goal.rest-requires
rest-requires c =
    let a = c.requires.at in
    record { done = (a.0, a.1, a.2, c.end.new.host.kept, c.end.ensures.done a.0 a.1 a.2 a.3, c.grow_calm.ensures.calm) }

pub returns-clause-stepped : goal.returns-clause-stepped
returns-clause-stepped c now i first at ends =
    let run = c.grow_calm.ensures.run in
    let same = run.2.0 ∙ c.end.ensures.most.0 in
    let same_calls = run.2.1 ∙ c.end.ensures.most.1 in
    record {
      over = c.rest.ensures.over now i first.kept c.end.new.host.kept (c.end.ensures.done now i first.kept at) c.grow_calm.ensures.calm;
      few = fewer_still c.grow_calm.new.host.most c.grow_calm.new.host.most_calls (left_for first) (calls_for first) c.rest.result c.rest.ensures.few
          (subst (λ n. n ≤ left_for first) (sym same) ends.most) (subst (λ n. n ≤ calls_for first) (sym same_calls) ends.most_calls);
      idle = c.rest.ensures.idle;
      seats = c.rest.ensures.seats ∙ run.2.2 ∙ c.end.ensures.most.2 ∙ ends.seats;
    }
