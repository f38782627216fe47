use Rattle.sl_area.specs.Pairs.{later_pair}
use Rattle.sl_lease.proofs.pairs.merge.Goals as goal
use Rattle.sl_sector.specs.Records.{IsPair}
use Rattle.sl_sector.specs.declared.sector.PairBlock.{PairBlock}
use Rattle.std.proofs.Common.{IfSome, List, None, Option, ap, ap₂, arith, get_or, length, slice_set, subst, sym, ℕ, ◌<◌, ◌∙◌, ◌≡◌}
use Rattle.std.proofs.Math.ListN.{length-set}
use Rattle.std.proofs.lemmas.List.Edits.{fill_by_more}
use Rattle.std.proofs.lemmas.List.Elements.{All-set}
use Rattle.std.proofs.lemmas.List.FromFn.{fill_by_all}
use Rattle.std.proofs.lemmas.List.{get_or-set_other, get_or_read}

pub loop-before-preserved : goal.loop-before-preserved
loop-before-preserved c =
    let last : List (Option PairBlock) = c.loop-before.last in
    let i : ℕ = c.loop-before.before in
    let v : Option PairBlock = c.later_pair.result in
    let made : ℕ → Option PairBlock = λ k. later_pair (get_or c.args.first.now k None) (get_or c.args.last.now k None) in
    let places : length last ≡ length c.args.last.now = c.loop-before.invariant.places in
    let inside : i < length last = omega (arith, places, c.loop-before-test.true) in
    let is : v ≡ made i =
    c.later_pair.ensures.exact
    ∙ ap₂ later_pair c.at.ensures.exact (get_or_read last i c.index-last-before.result inside c.index-last-before.is None ∙ c.loop-before.invariant.left i (omega arith)) in
    record {
      places = length-set last i v ∙ places;
      done = λ k below. ap (λ x. get_or (slice_set last i x) k None) is ∙ fill_by_more made last i None inside c.loop-before.invariant.done k below;
      left = λ k above. get_or-set_other last i k v None (λ e. omega (arith, above, e)) ∙ c.loop-before.invariant.left k (omega (arith, above));
      rules = All-set (λ o. IfSome o IsPair) last i v
          (c.later_pair.ensures.rules c.at.ensures.rules (subst (λ o. IfSome o IsPair) (sym c.index-last-before.is) (c.loop-before.invariant.rules i c.index-last-before.result inside)))
          c.loop-before.invariant.rules;
    }

pub returns-clause-exact : goal.returns-clause-exact
returns-clause-exact c =
    fill_by_all (λ k. later_pair (get_or c.args.first.now k None) (get_or c.args.last.now k None)) c.loop-before.last (length c.args.last.now) None c.loop-before.invariant.places
    (λ k below. c.loop-before.invariant.done k (omega (arith, below, c.loop-before-test.false)))
