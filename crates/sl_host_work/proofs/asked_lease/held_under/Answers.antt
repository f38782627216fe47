use Rattle.sl_host_work.proofs.HeldStands.{held_found}
use Rattle.sl_host_work.proofs.asked_lease.held_under.Goals as goal
use Rattle.sl_lease.specs.declared.outer_facts.Held.{Held}
use Rattle.std.proofs.Common.{◌∙◌}
use Rattle.std.specs.Prelude.{Bool, Option, ℕ}

pub returns : goal.returns
returns c =
    let made : Bool → Option ℕ → Held = λ shared exclusive. record { shared = shared; exclusive = exclusive } in
    (λ i. made (c.is_some.ensures i) (c.lver_of.ensures i))
    ∙ held_found c.args.session c.args.at.now c.args.host.now.kept.holdings c.held_in-shared.result c.held_in-exclusive.result c.held_in-shared.ensures c.held_in-exclusive.ensures
