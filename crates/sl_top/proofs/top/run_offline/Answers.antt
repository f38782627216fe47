use Rattle.sl_top.proofs.LiveLaws.{said_live, said_own}
use Rattle.sl_top.proofs.OweLaws.{nothing_done}
use Rattle.sl_top.proofs.top.run_offline.Goals as goal
use Rattle.sl_top.specs.Runs.{said}
use Rattle.std.proofs.Common.{Some, ap, inl, inr, ◌∙◌}

pub unreachable-requires : goal.unreachable-requires
unreachable-requires g c =
    c.requires.live (said_live (said c.args.words.now) c.in-Ok-Live._folder c.in-Ok-Live._anew c.in-Ok-Live._keeps c.in-Ok-Live._events
    (c.in-Ok-Live.ensures.read ∙ ap (λ w. Some w) c.in-Ok-Live.field-0-is))

pub unreachable-requires-in-Ok-Own : goal.unreachable-requires-in-Ok-Own
unreachable-requires-in-Ok-Own g c =
    c.requires.own (said_own (said c.args.words.now) c.in-Ok-Own._folder c.in-Ok-Own._machine c.in-Ok-Own._watchdog c.in-Ok-Own._syncs c.in-Ok-Own._keeps c.in-Ok-Own._events
    (c.in-Ok-Own.ensures.read ∙ ap (λ w. Some w) c.in-Ok-Own.field-0-is))

pub returns-in-Err-NoMemory-clause-owes : goal.returns-in-Err-NoMemory-clause-owes
returns-in-Err-NoMemory-clause-owes g c = nothing_done _ (said c.args.words.now) _

pub returns-in-Ok-Replay-clause-source : goal.returns-in-Ok-Replay-clause-source
returns-in-Ok-Replay-clause-source g c =
    λ none. absurd (none (inl (c.in-Ok-Replay.ensures.read ∙ ap (λ w. Some w) c.in-Ok-Replay.field-0-is)))

pub returns-in-Ok-Draw-clause-source : goal.returns-in-Ok-Draw-clause-source
returns-in-Ok-Draw-clause-source g c =
    λ none. absurd (none (inr (c.in-Ok-Draw.first, c.in-Ok-Draw.last, c.in-Ok-Draw.ensures.read ∙ ap (λ w. Some w) c.in-Ok-Draw.field-0-is)))

pub returns-in-Ok-Direct-clause-devices : goal.returns-in-Ok-Direct-clause-devices
returns-in-Ok-Direct-clause-devices g c =
    λ none. absurd (none (inl (c.in-Ok-Direct.action, c.in-Ok-Direct.ensures.read ∙ ap (λ w. Some w) c.in-Ok-Direct.field-0-is)))

pub returns-in-Ok-Label-clause-devices : goal.returns-in-Ok-Label-clause-devices
returns-in-Ok-Label-clause-devices g c =
    λ none. absurd (none (inr (
      c.in-Ok-Label.lockspace,
      c.in-Ok-Label.geometry,
      c.in-Ok-Label.timing,
      c.in-Ok-Label.grace,
      c.in-Ok-Label.ensures.read ∙ ap (λ w. Some w) c.in-Ok-Label.field-0-is,
    )))
