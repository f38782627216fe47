use Rattle.std.proofs.Common.{[], ap, arith, length, sym, ◌++◌, ◌∙◌, ◌∷◌}
use Rattle.sl_book.proofs.Givens.{given_most}
use Rattle.sl_book.proofs.MailLaws.{posted_counts}
use Rattle.sl_book.proofs.mail.Ledger.post.Goals as goal
use Rattle.sl_book.specs.Logs.{given_by}
use Rattle.sl_book.specs.Mails.{LedgerState}

pub overflow_add-index : goal.overflow_add-index
overflow_add-index g c =
    let few = c.in_ok-index.ensures.few in
    let count = c.in_ok-index.ensures.count in
    let most = given_most c.args.by c.args.self.now.front in
    omega (arith, few, count, most)

pub invariant_of-result : goal.invariant_of-result
invariant_of-result g c = record {
  past = c.args.self.now.front;
  front = c.if-not-add.ensures ∙ ap (λ l. l ++ record { by = c.args.by; entry = c.args.element } ∷ []) (c.again-front.ensures ∙ ap (λ (l : LedgerState _). l.front) c.self.view_is);
  came = c.in_ok-index.ensures.count;
}

pub invariant_of-self : goal.invariant_of-self
invariant_of-self g c =
    let count = c.in_ok-index.ensures.count ∙ ap (λ (l : LedgerState _). length (given_by c.args.by l.front)) (sym c.self.view_is) in
    let front = c.again.ensures ∙ c.if-not-add.ensures ∙ ap (λ l. l ++ record { by = c.args.by; entry = c.args.element } ∷ []) c.again-front.ensures in
    posted_counts c.self.inside.counts c.set.new.self c.self.inside.front c.again.result (record { by = c.args.by; entry = c.args.element }) c.in_ok-index.index
    c.self.invariant count c.set.ensures front
