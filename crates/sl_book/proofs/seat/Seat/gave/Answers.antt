use Rattle.std.proofs.Common.{ap, arith, length, subst, sym, ◌+◌, ◌∙◌, ◌≤◌}
use mathlib.Core.List.{IsPrefix}
use Rattle.sl_book.specs.Seats.{SeatState}
use Rattle.sl_book.proofs.SeatLaws.{given_fits}
use Rattle.sl_book.proofs.seat.Seat.gave.Goals as goal

pub overflow_add-self : goal.overflow_add-self
overflow_add-self g c =
    let p = c.requires.last in
    let by = c.requires.by ∙ sym (ap (λ (s : SeatState _). s.by) c.self.view_is) in
    let pre = subst (λ (s : SeatState _). IsPrefix s.front p.0) (sym c.self.view_is) p.1 in
    let fits : c.self.inside.count + 1 ≤ length c.args.front.now =
    given_fits c.self.inside.by c.self.inside.count c.self.inside.front p.0 c.args.front.now c.args.signed.now by pre p.2 c.self.invariant in
    omega (arith, fits, c.len-most.ensures)
