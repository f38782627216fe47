use Rattle.sl_host.proofs.told_answers.tell_first.Goals as goal
use Rattle.sl_member.specs.Leases.{kept_shown}
use Rattle.sl_member.specs.Members.{lease_changed}
use Rattle.sl_member.specs.HostMembers.{MembersState, changed_member}
use Rattle.sl_sector.specs.declared.sector.PairBlock.{PairBlock}
use Rattle.sl_words.proofs.CaseLaws.{some_value}
use Rattle.std.proofs.Common.{List, Option, ap, sym, ◌∙◌}

pub returns-in-Some-clause-members : goal.returns-in-Some-clause-members
returns-in-Some-clause-members c pairs is =
    let v : MembersState = c.args.members.now in
    c.lease_kept.ensures
    ∙ ap (λ (ps : List (Option PairBlock)). record v { members = changed_member c.args.session (lease_changed c.args.at.now (kept_shown c.args.turn ps)) v.members })
    (some_value c.in-Some.pairs pairs (sym c.in-Some.is ∙ (c.take_kept.ensures.kept ∙ is)))
