use Rattle.sl_trace.specs.declared.sighting.Sighting.{Sighting}
use Rattle.sl_watch.proofs.WatchLaws.{Adds, told_stands}
use Rattle.sl_watch.proofs.watch.Watch.told.Goals as goal
use Rattle.sl_watch.specs.SeenLooks.{seen_with}
use Rattle.sl_watch.specs.Summaries.{IsKept}
use Rattle.sl_watch.specs.Watches.{WatchStands, Watched}
use Rattle.std.proofs.Common.{refl, subst, sym}

pub returns-clause-stands : goal.returns-clause-stands
returns-clause-stands c =
    λ seen bytes stands is long true_read.
    let w : Watched = c.args.self.now in
    let s : Sighting = record { before = c.args.before; after = c.args.after; bytes = bytes } in
    let adds : Adds w c.args.id s c.delta_for-delta.result c.with-next.result =
    λ m kept seen. c.with-next.ensures.stands w.sizes.sector m s (subst (λ k. IsKept w.sizes.sector k m) (sym c.kept.ensures.exact) kept) refl refl seen in
    subst (λ x. WatchStands x (seen_with c.args.id s seen)) (sym c.put.ensures)
    (told_stands w seen c.args.id s c.args.found c.with-next.result stands c.requires.0 c.requires.1 c.kept.ensures.count is long true_read
    (subst (λ d. Adds w c.args.id s d c.with-next.result) (c.delta_for-delta.ensures.spelled bytes is) adds))
