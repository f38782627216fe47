use Rattle.indexmap.specs.IndexMap.{insert_entry}
use Rattle.sl_wdmd.proofs.KeptLaws.{registered_kept}
use Rattle.sl_wdmd.proofs.wdmd.put_last.Goals as goal
use Rattle.sl_wdmd.specs.KeptConnections.{all_connections}
use Rattle.std.proofs.Common.{ap, bytes_eq, sym, ◌∙◌}

pub returns-then-may_be_kept-clause-all : goal.returns-then-may_be_kept-clause-all
returns-then-may_be_kept-clause-all c =
    let old = c.args.expiries.now in
    let behind = c.args.behind.now.items in
    let known = c.may_be_kept.ensures c.if-may_be_kept.true in
    ap (λ es. all_connections es behind) (c.put_new.ensures.entries ∙ ap (λ k. insert_entry bytes_eq old.entries k c.args.expiry) c.named.ensures)
    ∙ registered_kept old behind c.args.name c.args.expiry (sym c.deref.ensures.value ∙ known.0) known.1
