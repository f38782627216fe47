use Rattle.sl_tables.proofs.ChildrenStand.{both_maps, found_child}
use Rattle.sl_tables.proofs.children.Children.get.Goals as goal
use Rattle.sl_tables.specs.Children.{child_of}
use Rattle.std.proofs.Common.{ap, find, option_map, ◌==◌, ◌∙◌}

pub returns : goal.returns
returns c =
    both_maps (λ x. x.now) child_of c.get.result ∙ ap (option_map child_of) c.get.ensures.value ∙ found_child c.args.process c.self.inside.children.items c.self.invariant
    ∙ ap (λ v. find (λ k. k.process == c.args.process) v.children) c.self.view_is
