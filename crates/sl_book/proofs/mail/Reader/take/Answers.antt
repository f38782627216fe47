use Rattle.std.proofs.Common.{arith, length, refl, subst, sym, ◌+◌, ◌≤◌}
use Rattle.sl_book.proofs.MailLaws.{next_fits}
use Rattle.sl_book.proofs.mail.Reader.take.Goals as goal
use Rattle.sl_book.specs.Mails.{IsNext, PostedState, ReaderState}

pub overflow_add-self : goal.overflow_add-self
overflow_add-self g c =
    let next = subst (λ (s : ReaderState _). IsNext s c.args.posted.now) (sym c.self.view_is) (c.if-not-is_next.ensures.next refl) in
    let here = subst (λ (p : PostedState _). IsNext (record { by = c.self.inside.by; count = c.self.inside.count; front = c.self.inside.front }) p) (sym c.posted.view_is) next in
    let fits : c.self.inside.count + 1 ≤ length c.posted.inside.front =
    next_fits (record { by = c.self.inside.by; count = c.self.inside.count; front = c.self.inside.front })
    (record { by = c.posted.inside.signed.by; element = c.posted.inside.signed.entry; front = c.posted.inside.front }) c.self.invariant here in
    omega (arith, fits, c.len-most.ensures)
