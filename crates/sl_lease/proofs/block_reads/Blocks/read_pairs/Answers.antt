use Rattle.sl_area.specs.AreaSizes.{layout_of}
use Rattle.sl_area.specs.Pairs.{later_pair, pair_back, pair_front}
use Rattle.sl_lease.proofs.ReadLaws.{KeptTo, is_torn_to-more, kept_is, kept_more, pairs_to-more}
use Rattle.sl_lease.proofs.block_reads.Blocks.read_pairs.Goals as goal
use Rattle.sl_lease.specs.Reads.{ReadRoom, behind, pairs_to}
use Rattle.sl_sector.specs.declared.sector.PairBlock.{PairBlock}
use Rattle.std.proofs.Common.{List, None, Option, [], ap, ap₂, arith, cond, is_none, length, refl, slice_set, subst, sym, take, ℕ, ◌+◌, ◌++◌, ◌<◌, ◌||◌, ◌∙◌, ◌∷◌, ◌≡◌}
use Rattle.std.proofs.Math.ListN.{length-set}
use Rattle.std.proofs.lemmas.List.{take_more_set}
use Rattle.std.specs.Prelude.{Bool, false, is_some, not, option_map, true, Some}

torn_is : (o p : Option PairBlock) (b : Bool) → is_some o ≡ not b → o ≡ p → b ≡ is_none p
torn_is None None true e same = refl
torn_is None None false e same = cc
torn_is (Some a) (Some b) true e same = cc
torn_is (Some a) (Some b) false e same = refl
torn_is None (Some b) c e same = absurd cc
torn_is (Some a) None c e same = absurd cc

pub loop-before-preserved : goal.loop-before-preserved
loop-before-preserved g c =
    let old : ReadRoom = c.loop-before.self in
    let i : ℕ = c.loop-before.before in
    let v : Option PairBlock = c.later_pair.result in
    let bytes : List ℕ = behind c.args.geometry.now c.args.skipped (g.S.Sectors.bytes c.args.sectors.now) in
    let places : length old.pairs ≡ c.args.geometry.now.hosts = c.loop-before.invariant.places in
    let hosts : c.hosts-hosts.result ≡ c.args.geometry.now.hosts = c.hosts-hosts.ensures.exact in
    let below : i < c.hosts-hosts.result = c.loop-before-test.true in
    let inside : i < c.args.geometry.now.hosts = omega (arith, hosts, below) in
    let back : c.pair_half-back.result ≡ pair_back (layout_of c.args.geometry.now) bytes (i + 1) = c.pair_half-back.ensures.exact in
    let is : v ≡ later_pair (pair_front (layout_of c.args.geometry.now) bytes (i + 1)) (pair_back (layout_of c.args.geometry.now) bytes (i + 1)) =
    c.later_pair.ensures.exact ∙ ap₂ later_pair c.pair_half-front.ensures.exact back in
    let torn : c.is_none-torn.result ≡ is_none (pair_back (layout_of c.args.geometry.now) bytes (i + 1)) =
    torn_is c.pair_half-back.result (pair_back (layout_of c.args.geometry.now) bytes (i + 1)) c.is_none-torn.result c.is_none-torn.ensures back in
    let now : c.put_pair.new.self ≡ record old { pairs = slice_set old.pairs i v; kept = option_map (λ ps. slice_set ps i (cond c.is_none-torn.result None v)) old.kept } = c.put_pair.ensures in
    record {
      torn = ap₂ (λ a b. a || b) c.loop-before.invariant.torn torn ∙ sym (is_torn_to-more c.args.geometry.now bytes i);
      pairs = ap (λ (r : ReadRoom). take (i + 1) r.pairs) now ∙ take_more_set old.pairs i v (omega (arith, places, inside)) ∙ ap (λ xs. xs ++ v ∷ []) c.loop-before.invariant.pairs
          ∙ ap (λ x. pairs_to c.args.geometry.now bytes i ++ x ∷ []) is ∙ sym (pairs_to-more c.args.geometry.now bytes i);
      kept = subst (λ (r : ReadRoom). KeptTo c.args.geometry.now bytes (i + 1) c.args.self.now.kept r.kept) (sym now)
          (kept_more c.args.geometry.now bytes i (cond c.is_none-torn.result None v) c.args.self.now.kept old.kept inside
          (ap (λ b. cond b None v) torn ∙ kept_is c.args.geometry.now bytes (i + 1) v is) c.loop-before.invariant.kept);
      blocks = ap (λ (r : ReadRoom). r.blocks) now ∙ c.loop-before.invariant.blocks;
      places = ap (λ (r : ReadRoom). length r.pairs) now ∙ length-set old.pairs i v ∙ places;
    }
