-- With pairs each host has a block on each resource after every event.
use Rattle.sl_safety.proofs.Pairs.PairsStand.{pair_has_block}
use Rattle.sl_run.specs.TornPairBlocks.{PairsStand}
use Rattle.sl_safety.proofs.GivenReads.StandsSinceOk.{layout_kept}
use Rattle.sl_run_law.proofs.Place.TracesOnMachines.{header_is}
use Rattle.std.proofs.Common.{ap, subst, sym, ◌∙◌}
use Rattle.std.proofs.lemmas.Bool.{and_from, le-leb}
use Rattle.sl_area.specs.AreaSizes.{Layout}
use Rattle.sl_run.specs.Safety.{LawfulRun, world_at}
use Rattle.sl_run.specs.declared.header.Header.{Header}
use Rattle.std.specs.Prelude.{Contains, ◌++◌, ◌≡◌, ◌≤◌}
use Rattle.sl_run.specs.Worlds.{World}

pub pairs_stand : PairsStand
pairs_stand p h xs run now rest whole paired r host there low high =
    let w : World = world_at p h (now ++ rest) in
    let layout : (world_at p h now).layout ≡ w.layout = layout_kept p h now (now ++ rest) in
    pair_has_block p h now rest r host
    (record {
      run = subst (λ ys. LawfulRun p h ys) whole run;
      there = subst (λ (k : Header). Contains k.resources r) (header_is p h now) there;
      paired = ap (λ (g : Layout). g.paired) (sym layout) ∙ paired;
      host = and_from _ _ (le-leb 1 host low) (le-leb host w.layout.hosts (subst (λ (g : Layout). host ≤ g.hosts) layout high));
    })
