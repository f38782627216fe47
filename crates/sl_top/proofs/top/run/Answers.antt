use Rattle.sl_top.proofs.LiveLaws.{is_live, is_own, not_live, not_own, owes_from, owes_live, owes_own}
use Rattle.sl_top.proofs.OweLaws.{nothing_done}
use Rattle.sl_top.proofs.WatchLaws.{unwatched, unwatched_live, unwatched_offline, watched}
use Rattle.sl_top.proofs.top.run.Goals as goal
use Rattle.sl_top.specs.Runs.{said, said_from}
use Rattle.std.proofs.Common.{Some, ap, sym, ◌∙◌}

pub returns-in-Err-clause-owes : goal.returns-in-Err-clause-owes
returns-in-Err-clause-owes g c = nothing_done _ (said_from c.args.at_terminal c.args.words.now) _

pub returns-in-Ok-Some-All-clause-owes : goal.returns-in-Ok-Some-All-clause-owes
returns-in-Ok-Some-All-clause-owes g c =
    owes_live _ (said_from c.args.at_terminal c.args.words.now) _ _ _ _ (sym c.in-Ok-Some-All.ensures.exact ∙ c.in-Ok-Some-All.field-0-is ∙ ap (λ a. Some a) c.in-Ok-Some-All.field-0-0-is) c.live-status.ensures

pub returns-in-Ok-Some-All-clause-devices : goal.returns-in-Ok-Some-All-clause-devices
returns-in-Ok-Some-All-clause-devices g c =
    λ none not_live not_own. absurd (not_live (is_live c.args.at_terminal (said c.args.words.now) _ (sym c.in-Ok-Some-All.ensures.exact ∙ c.in-Ok-Some-All.field-0-is ∙ ap (λ a. Some a) c.in-Ok-Some-All.field-0-0-is)))

pub returns-in-Ok-Some-All-clause-source : goal.returns-in-Ok-Some-All-clause-source
returns-in-Ok-Some-All-clause-source g c =
    λ none not_live not_own. absurd (not_live (is_live c.args.at_terminal (said c.args.words.now) _ (sym c.in-Ok-Some-All.ensures.exact ∙ c.in-Ok-Some-All.field-0-is ∙ ap (λ a. Some a) c.in-Ok-Some-All.field-0-0-is)))

pub returns-in-Ok-Some-One-clause-owes : goal.returns-in-Ok-Some-One-clause-owes
returns-in-Ok-Some-One-clause-owes g c =
    owes_own _ (said_from c.args.at_terminal c.args.words.now) _ _ _ _ (sym c.in-Ok-Some-One.ensures.exact ∙ c.in-Ok-Some-One.field-0-is ∙ ap (λ a. Some a) c.in-Ok-Some-One.field-0-0-is) c.own-status.ensures.owes

pub returns-in-Ok-Some-One-clause-devices : goal.returns-in-Ok-Some-One-clause-devices
returns-in-Ok-Some-One-clause-devices g c =
    λ none not_live not_own. absurd (not_own (is_own c.args.at_terminal (said c.args.words.now) _ (sym c.in-Ok-Some-One.ensures.exact ∙ c.in-Ok-Some-One.field-0-is ∙ ap (λ a. Some a) c.in-Ok-Some-One.field-0-0-is)))

pub returns-in-Ok-Some-One-clause-source : goal.returns-in-Ok-Some-One-clause-source
returns-in-Ok-Some-One-clause-source g c =
    λ none not_live not_own. absurd (not_own (is_own c.args.at_terminal (said c.args.words.now) _ (sym c.in-Ok-Some-One.ensures.exact ∙ c.in-Ok-Some-One.field-0-is ∙ ap (λ a. Some a) c.in-Ok-Some-One.field-0-0-is)))

pub run_offline-status-requires-clause-live : goal.run_offline-status-requires-clause-live
run_offline-status-requires-clause-live g c = not_live c.args.at_terminal (said c.args.words.now) (sym c.in-Ok-None.ensures.exact ∙ c.in-Ok-None.field-0-is)

pub run_offline-status-requires-clause-own : goal.run_offline-status-requires-clause-own
run_offline-status-requires-clause-own g c = not_own c.args.at_terminal (said c.args.words.now) (sym c.in-Ok-None.ensures.exact ∙ c.in-Ok-None.field-0-is)

pub returns-in-Ok-None-clause-owes : goal.returns-in-Ok-None-clause-owes
returns-in-Ok-None-clause-owes g c =
    owes_from _ c.args.at_terminal (said c.args.words.now) _ _ _ (sym c.in-Ok-None.ensures.exact ∙ c.in-Ok-None.field-0-is) c.run_offline-status.ensures.owes

pub returns-in-Err-clause-watchdog : goal.returns-in-Err-clause-watchdog
returns-in-Err-clause-watchdog g c = unwatched _ _ _ (said_from c.args.at_terminal c.args.words.now) _ _

pub returns-in-Ok-Some-All-clause-watchdog : goal.returns-in-Ok-Some-All-clause-watchdog
returns-in-Ok-Some-All-clause-watchdog g c = unwatched_live _ _ _ (said_from c.args.at_terminal c.args.words.now) _ _ _ _ (sym c.in-Ok-Some-All.ensures.exact ∙ c.in-Ok-Some-All.field-0-is ∙ ap (λ a. Some a) c.in-Ok-Some-All.field-0-0-is)

pub returns-in-Ok-Some-One-clause-watchdog : goal.returns-in-Ok-Some-One-clause-watchdog
returns-in-Ok-Some-One-clause-watchdog g c = watched _ _ _ (said_from c.args.at_terminal c.args.words.now) _ _ _ _ _ (sym c.in-Ok-Some-One.ensures.exact ∙ c.in-Ok-Some-One.field-0-is ∙ ap (λ a. Some a) c.in-Ok-Some-One.field-0-0-is) c.own-status.ensures.watchdog

pub returns-in-Ok-None-clause-watchdog : goal.returns-in-Ok-None-clause-watchdog
returns-in-Ok-None-clause-watchdog g c = unwatched_offline _ _ _ (said_from c.args.at_terminal c.args.words.now) _ _ _ (sym c.in-Ok-None.ensures.exact ∙ c.in-Ok-None.field-0-is)

pub returns-in-Ok-None-clause-source : goal.returns-in-Ok-None-clause-source
returns-in-Ok-None-clause-source g c = λ none not_live not_own. c.run_offline-status.ensures.source none
