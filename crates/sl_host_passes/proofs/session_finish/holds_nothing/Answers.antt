use Rattle.sl_host_passes.proofs.LastActs.{nothing_held}
use Rattle.sl_host_passes.proofs.session_finish.holds_nothing.Goals as goal
use Rattle.sl_trace.specs.Traces.{is_orphan}
use Rattle.sl_host.specs.BookQuestions.{held_under}
use Rattle.sl_host.specs.Books.{BooksState}
use Rattle.std.proofs.Common.{ap, sym, ◌∙◌}
use Rattle.std.specs.List.{list_any}
use Rattle.std.specs.Prelude.{is_some, not, ◌&&◌}

pub returns-then-not-orphan : goal.returns-then-not-orphan
returns-then-not-orphan c =
    let orphan = c.has_orphan-orphan.ensures ∙ ap (λ (b : BooksState). list_any is_orphan (held_under c.args.session b.holdings)) c.books.ensures in
    let held = c.is_some-held.ensures ∙ ap (λ o. is_some o) c.holder_above.ensures in
    ap (λ b. not b && not c.is_some-held.result) (sym c.if-not-orphan.true)
    ∙ nothing_held c.args.session c.args.host.now.kept.holdings c.has_orphan-orphan.result c.is_some-held.result orphan held
