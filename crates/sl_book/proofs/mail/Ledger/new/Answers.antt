use Rattle.std.proofs.Common.{ℕ}
use Rattle.std.proofs.lemmas.List.{length-replicate}
use Rattle.sl_book.proofs.MailLaws.{counts_none}
use Rattle.sl_book.proofs.mail.Ledger.new.Goals as goal

pub invariant_of-result : goal.invariant_of-result
invariant_of-result g c = counts_none c.args.places c.in_ok-new.field-0 c.args.front c.in_ok-new.ensures c.requires

pub returns : goal.returns
returns g c = cc (c.in_ok-new.ensures, c.requires, length-replicate {A = ℕ} c.args.places 0)
