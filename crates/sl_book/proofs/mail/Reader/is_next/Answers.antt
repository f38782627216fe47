use Rattle.std.proofs.Common.{arith, length, ◌≡◌, ◌<◌}
use Rattle.std.proofs.lemmas.Bool.Decides.{nat_tests}
use Rattle.sl_book.proofs.MailLaws.{next_is}
use Rattle.sl_book.proofs.mail.Reader.is_next.Goals as goal

pub returns-then-is_behind-clause-next : goal.returns-then-is_behind-clause-next
returns-then-is_behind-clause-next g c = λ t.
    let by : c.posted.inside.signed.by ≡ c.self.inside.by = grind (arith, nat_tests) in
    let index : c.posted.inside.index ≡ c.self.inside.count = grind (arith, nat_tests) in
    let less : length c.self.inside.front < length c.posted.inside.front = grind (arith, nat_tests) in
    rw (← c.self.view_is, ← c.posted.view_is) (next_is c.posted.inside.index c.posted.inside.signed (record { by = c.self.inside.by; count = c.self.inside.count; front = c.self.inside.front })
    c.posted.inside.front c.posted.invariant c.self.invariant by index (c.is_behind.ensures.behind c.if-is_behind.true) less)
