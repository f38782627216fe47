use Rattle.sl_alone.proofs.KeptLaws.{stands_noted}
use Rattle.sl_alone.proofs.recovery.Recovery.step.Goals as goal
use Rattle.sl_alone.specs.DueSignals.{due_among, is_grace_over, noted}
use Rattle.sl_alone.specs.KeptRecovery.{Kept, Stands}
use Rattle.std.proofs.Common.{Some, ap, length, map, subst, sym, ◌∙◌, ◌≡◌}
use Rattle.std.proofs.lemmas.List.{length-map, with_items_is}

pub returns-clause-stands : goal.returns-clause-stands
returns-clause-stands c grace calls stands =
    let sent = c.in_ok-sent.sent in
    let vec = c.self.inside.holders in
    let kept : Kept = record { grace = c.self.inside.grace; began = c.self.inside.began; holders = vec.items } in
    let here : Stands grace kept calls = subst (λ r. Stands grace r calls) (sym c.self.view_is) stands in
    let due : Some sent ≡ due_among (is_grace_over kept.grace kept.began c.args.now) kept.holders =
    rw (← c.is_grace_over.ensures, ← c.deref.ensures.value) c.in_ok-sent.ensures in
    let after = stands_noted grace calls kept c.args.now sent here due in
    let new : c.note.new.holders ≡ map (noted sent) vec.items = c.note.ensures ∙ ap (map (noted sent)) c.deref_mut.ensures.value in
    let long : length c.note.new.holders ≡ vec.len = ap length new ∙ length-map vec.items (noted sent) ∙ sym vec.ok.0 in
    record { patience = after.patience; beginning = after.beginning; told = with_items_is vec c.note.new.holders long ∙ new ∙ after.told }
