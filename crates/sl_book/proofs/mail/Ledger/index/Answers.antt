use Rattle.std.proofs.Common.{ap, length, subst, sym, ◌∙◌, ◌<◌}
use Rattle.std.proofs.lemmas.Option.{slice_get_within}
use Rattle.sl_book.proofs.MailLaws.{count_at}
use Rattle.sl_book.specs.Logs.{given_by}
use Rattle.sl_book.specs.Mails.{LedgerState}
use Rattle.sl_book.proofs.mail.Ledger.index.Goals as goal

pub returns-then-len-lt-MOST_POSTED-clause-count : goal.returns-then-len-lt-MOST_POSTED-clause-count
returns-then-len-lt-MOST_POSTED-clause-count g c =
    count_at c.self.inside.counts c.self.inside.front c.args.by c.in-Some.count c.self.invariant (sym c.get.ensures ∙ c.in-Some.is)
    ∙ ap (λ (l : LedgerState _). length (given_by c.args.by l.front)) c.self.view_is

pub returns-then-len-lt-MOST_POSTED-clause-place : goal.returns-then-len-lt-MOST_POSTED-clause-place
returns-then-len-lt-MOST_POSTED-clause-place g c =
    subst (λ (l : LedgerState _). c.args.by < l.places) c.self.view_is (slice_get_within c.self.inside.counts c.args.by c.in-Some.count (sym c.get.ensures ∙ c.in-Some.is))
