use Rattle.std.proofs.Common.{List, ap, arith, length, subst, sym, ◌∙◌, ◌≡◌}
use Rattle.std.proofs.lemmas.Bool.Decides.{nat_tests}
use mathlib.Core.List.{IsPrefix}
use Rattle.sl_book.specs.declared.signed.Signed.{Signed}
use Rattle.sl_book.proofs.Fronts.{prefix_same}
use Rattle.sl_book.proofs.book.Front.is_same.Goals as goal

pub returns-clause-same : goal.returns-clause-same
returns-clause-same g c = λ t.
    let both = c.learn.new.self.log in
    let this : IsPrefix c.self.inside.seen.log both = subst (λ (l : List (Signed _)). IsPrefix l both) (ap (λ s. s.log) c.again-both.ensures) c.learn.ensures.2 in
    let counts : c.self.inside.count ≡ c.other.inside.count = grind (arith, nat_tests) in
    let same : length c.self.inside.seen.log ≡ length c.other.inside.seen.log = sym c.self.invariant.0 ∙ counts ∙ c.other.invariant.0 in
    rw (← c.self.view_is, ← c.other.view_is) (prefix_same c.self.inside.seen.log c.other.inside.seen.log both this c.learn.ensures.3 same)
