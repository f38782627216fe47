use Rattle.sl_alone.proofs.DeltaTold.{told_follows, told_gives}
use Rattle.sl_alone.proofs.delta_lease.DeltaLease.hear.Goals as goal
use Rattle.sl_delta.specs.OwnSector.{OwnState, after_answer, answer_in}
use Rattle.sl_alone.specs.DeltaSteps.{LeaseState, followed, given_following}
use Rattle.sl_trace.specs.declared.effects.Purpose.{Purpose}
use Rattle.sl_trace.specs.declared.input.Answer.{Answer}
use Rattle.std.proofs.Common.{None, ap, ◌∙◌}

pub returns : goal.returns
returns c =
    let p : Purpose = c.args.waiting.now.purpose in
    let a : Answer = answer_in c.args.answer in
    let told : OwnState → LeaseState = λ o.
    record {
      own = o;
      standing = c.self.inside.standing;
      last = c.self.inside.last;
      recovering = c.self.inside.recovering;
      registered = c.self.inside.registered;
      waits = None;
    } in
    record {
      state = told_follows c.args.now c.args.call p c.args.waiting.now.made a c.args.self.now c.is_over-over.result c.answer_next-next.result c.follow.new.self c.requires.own
          c.is_over-over.ensures c.answer_next-next.ensures.exact
          (c.follow.ensures.state ∙ ap (λ o. followed c.args.now c.is_over-over.result c.answer_next-next.result (told o)) c.told.ensures
          ∙ ap (λ l. followed c.args.now c.is_over-over.result c.answer_next-next.result (record l { own = after_answer p a c.args.now l.own; waits = None })) c.self.view_is);
      out = told_gives c.args.now c.args.call p c.args.waiting.now.made a c.args.self.now c.is_over-over.result c.answer_next-next.result c.follow.result c.requires.own
          c.is_over-over.ensures c.answer_next-next.ensures.exact
          (c.follow.ensures.out ∙ ap (λ o. given_following c.args.now c.is_over-over.result c.answer_next-next.result (told o)) c.told.ensures
          ∙ ap (λ l. given_following c.args.now c.is_over-over.result c.answer_next-next.result (record l { own = after_answer p a c.args.now l.own; waits = None })) c.self.view_is);
    }
