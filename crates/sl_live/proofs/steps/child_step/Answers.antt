use Rattle.sl_live.proofs.steps.child_step.Goals as goal

pub returns-in-Err-clause-looks : goal.returns-in-Err-clause-looks
returns-in-Err-clause-looks g c = (
  c.in-Some.process,
  record {
    polled = c.poll.new.self;
    gave = c.in-Some.ensures.told;
    gone = c.in-Some.ensures.gone;
    awaited = c.in-Some.ensures.awaited;
    quiet = c.in-Some.ensures.quiet;
    turn = c.in-Err.ensures.err;
  },
)
