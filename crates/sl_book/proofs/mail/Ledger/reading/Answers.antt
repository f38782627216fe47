use Rattle.std.proofs.Common.{arith, refl, sym, ◌∙◌, ◌≡◌}
use Rattle.std.proofs.lemmas.Bool.Decides.{nat_tests}
use Rattle.sl_book.proofs.MailLaws.{read_all, read_less}
use Rattle.sl_book.proofs.mail.Ledger.reading.Goals as goal
use mathlib.Core.Logic.{◌≢◌}

pub returns-then-reader-count : goal.returns-then-reader-count
returns-then-reader-count g c =
    let same : c.reader.inside.count ≡ c.in-Some.count = grind (arith, nat_tests) in
    let pre = c.if-not-is_behind.ensures.behind refl in
    rw (← c.self.view_is, ← c.reader.view_is) (
      pre,
      read_all (record { by = c.reader.inside.by; count = c.reader.inside.count; front = c.reader.inside.front })
          c.self.inside.counts c.self.inside.front c.in-Some.count c.self.invariant (sym c.get.ensures ∙ c.in-Some.is) c.reader.invariant pre same,
    )

pub returns-else-reader-count : goal.returns-else-reader-count
returns-else-reader-count g c =
    let apart : c.reader.inside.count ≢ c.in-Some.count = grind (arith, nat_tests) in
    let pre = c.if-not-is_behind.ensures.behind refl in
    rw (← c.self.view_is, ← c.reader.view_is) (
      pre,
      read_less (record { by = c.reader.inside.by; count = c.reader.inside.count; front = c.reader.inside.front })
          c.self.inside.counts c.self.inside.front c.in-Some.count c.self.invariant (sym c.get.ensures ∙ c.in-Some.is) c.reader.invariant pre apart,
    )
