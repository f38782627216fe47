use Rattle.sl_tables.proofs.HoldingsStand.{none_before}
use Rattle.sl_tables.proofs.ScansFind.{scan_none}
use Rattle.sl_tables.proofs.holdings.Rising+Grant.seek.Goals as goal
use Rattle.sl_tables.specs.Holdings.{fits}
use Rattle.sl_tables.specs.Rising.{found_in, items_of}
use Rattle.sl_trace.specs.declared.effects.Grant.{Grant}
use Rattle.std.proofs.Common.{Bool, None, Option, Some, ap, arith, false, is_some, length, refl, slice_get, subst, sym, take, true, true≢false, ℕ, ◌∙◌, ◌≡◌, ◌<◌, ◌≤◌}
use Rattle.std.specs.List.{AllByRecursion}

pub loop-index-init : goal.loop-index-init
loop-index-init c =
    none_before (λ p. fits c.args.sought.now p.1) c.args.first c.self.inside.slots.items c.slot_of-index.result
    (subst (λ r. AllByRecursion (λ p. fits c.args.sought.now p.1 ≡ true → c.args.first ≤ p.0) r.items) (sym c.self.view_is) c.requires) (subst (λ es. AllByRecursion (λ p. p.0 < c.args.first) (items_of (take c.slot_of-index.result es))) c.deref.ensures.value c.slot_of-index.ensures.below)

none_found : (o : Option ℕ) → is_some o ≡ false → o ≡ None
none_found None h = refl
none_found (Some n) h = absurd (true≢false h)

pub loop-index-preserved : goal.loop-index-preserved
loop-index-preserved c =
    let es = c.self.inside.slots.items in
    let i = c.loop-index.index in
    let p : ℕ × Grant → Bool = λ q. fits c.args.sought.now q.1 in
    let found = c.found_in-found.ensures ∙ ap (λ zs. found_in p (slice_get zs i)) c.deref-in-loop-index.ensures.value in
    let many = ap length c.deref.ensures.value in
    scan_none p es i (omega (arith, c.loop-index-test.true, c.len-index-end.ensures, c.deref.ensures.len, many)) (sym found ∙ none_found c.found_in-found.result (sym c.is_some.ensures ∙ c.if-is_some.false)) c.loop-index.invariant
