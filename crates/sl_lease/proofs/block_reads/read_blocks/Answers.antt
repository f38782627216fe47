use Rattle.sl_lease.proofs.ReadLaws.{blocks_to-more}
use Rattle.sl_lease.proofs.block_reads.read_blocks.Goals as goal
use Rattle.sl_lease.specs.Reads.{behind, blocks_to}
use Rattle.sl_sector.specs.Records.{IsBlock}
use Rattle.sl_sector.specs.declared.sector.Block.{Block}
use Rattle.std.proofs.Common.{All, IfSome, List, Option, [], ap, arith, length, slice_set, subst, sym, take, ℕ, ◌+◌, ◌++◌, ◌∙◌, ◌∷◌, ◌≡◌}
use Rattle.std.proofs.lemmas.List.Elements.{All-push}
use Rattle.std.proofs.lemmas.List.{take_more_set}
use Rattle.std.proofs.Math.ListN.{length-set}

pub loop-before-preserved : goal.loop-before-preserved
loop-before-preserved g c =
    let items : List (Option Block) = c.loop-before.items in
    let i : ℕ = c.loop-before.before in
    let bytes : List ℕ = behind c.args.geometry.now c.args.skipped (g.S.Sectors.bytes c.args.sectors.now) in
    let places : length items ≡ c.hosts-hosts.result = c.loop-before.invariant.places in
    let pushed : take (i + 1) (slice_set items i c.host_block.result) ≡ take i items ++ c.host_block.result ∷ [] =
    take_more_set items i c.host_block.result (omega (arith, places, c.loop-before-test.true)) in
    record {
      exact = pushed ∙ ap (λ xs. xs ++ c.host_block.result ∷ []) c.loop-before.invariant.exact
          ∙ ap (λ b. blocks_to c.args.geometry.now bytes i ++ b ∷ []) c.host_block.ensures.exact ∙ sym (blocks_to-more c.args.geometry.now bytes i);
      rules = subst (λ xs. All (λ o. IfSome o IsBlock) xs) (sym pushed)
          (All-push (λ o. IfSome o IsBlock) (take i items) c.host_block.result c.loop-before.invariant.rules c.host_block.ensures.rules);
      places = length-set items i c.host_block.result ∙ places;
    }
