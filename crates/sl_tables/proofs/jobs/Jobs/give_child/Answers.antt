use Rattle.sl_host_state.specs.declared.kept_parts.JobState.{JobState}
use Rattle.sl_tables.proofs.JobsChange.{none_changed_there, state_is}
use Rattle.sl_tables.proofs.jobs.Jobs.give_child.Goals as goal
use Rattle.std.proofs.Common.{Some, refl, sym, ◌∙◌}
use Rattle.std.specs.Option.{option_or}

pub exchange-requires-clause-there : goal.exchange-requires-clause-there
exchange-requires-clause-there c = sym c.get.ensures ∙ sym c.in-Some.ensures

pub returns-in-Some : goal.returns-in-Some
returns-in-Some c = c.exchange.ensures (λ (j : JobState). record j { child = option_or j.child (Some c.args.child) }) (λ i. record { number = c.in-Some.old.number; command = c.in-Some.old.command; child = (sym c.or-child.ensures) i; waits = c.in-Some.old.waits })

pub returns-in-None : goal.returns-in-None
returns-in-None c =
    state_is (sym (none_changed_there c.args.number (λ (j : JobState). record j { child = option_or j.child (Some c.args.child) }) c.args.self.now.jobs (sym c.get.ensures ∙ sym c.in-None.ensures))) refl refl refl
