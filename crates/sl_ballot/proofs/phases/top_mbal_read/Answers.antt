use Rattle.sl_ballot.proofs.NumberLaws.{fold-mbal_seen}
use Rattle.sl_ballot.specs.Phases.{mbal_seen}
use Rattle.std.proofs.Common.{max, rules, ◌∙◌, ◌≡◌}
use Rattle.std.specs.List.{fold}
use Rattle.sl_ballot.proofs.phases.top_mbal_read.Goals as goal

pub returns : goal.returns
returns c =
    let run : c.fold.result ≡ fold (λ top seen. max top (mbal_seen c.args.n seen)) 0 c.args.read.now = search rules in
    run ∙ fold-mbal_seen c.args.n c.args.read.now
