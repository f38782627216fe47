use Rattle.sl_ballot.proofs.NumberLaws.{fold-mbal_in}
use Rattle.sl_ballot.specs.Phases.{mbal_in}
use Rattle.std.proofs.Common.{max, rules, ◌∙◌, ◌≡◌}
use Rattle.std.specs.List.{fold}
use Rattle.sl_ballot.proofs.phases.top_mbal.Goals as goal

pub returns : goal.returns
returns c =
    let run : c.fold.result ≡ fold (λ top b. max top (mbal_in c.args.n b)) 0 c.args.blocks.now = search rules in
    run ∙ fold-mbal_in c.args.n c.args.blocks.now
