use Rattle.std.proofs.Common.{arith, length, rules, subst, ◌+◌, ◌∷◌, ◌≤◌}
use Rattle.sl_book.specs.Closings.{AreSeen, counts}
use Rattle.sl_book.proofs.Counts.{counts_fit, seen_cons}
use Rattle.sl_book.proofs.closing.+counted.Goals as goal
use Rattle.sl_book.specs.Logs.{given_by}

pub overflow_add-result : goal.overflow_add-result
overflow_add-result g t c =
    let s = c.in-Some.seat.now in
    let few : s.count ≤ length (given_by s.by s.front) = subst (λ n. n ≤ length (given_by s.by s.front)) c.count.ensures.count c.count.ensures.most in
    let seen : AreSeen c.args.by (s ∷ c.in-Some.rest.now) c.args.all.now =
    seen_cons c.args.by s c.in-Some.rest.now c.args.all.now (search rules) (search rules) few c.in_ok-more.ensures.seen in
    let fit : s.count + counts c.in-Some.rest.now ≤ length c.args.all.now = counts_fit c.args.by (s ∷ c.in-Some.rest.now) c.args.all.now seen in
    omega (arith, fit, c.len-most.ensures, c.count.ensures.count, c.in_ok-more.ensures.count)
