use Rattle.sl_cell.proofs.RestLaws.{rest_goes, taken_told}
use Rattle.sl_book.proofs.SeatLaws.{seen_told}
use Rattle.sl_cell.proofs.kept.Kept.take.Goals as goal
use Rattle.sl_cell.specs.Cells.{queue_of}
use Rattle.sl_cell.specs.Seats.{SeatState}
use Rattle.std.proofs.Common.{ap, arith, rules, sym, ◌∙◌, ◌≡◌}
use Rattle.std.proofs.lemmas.Bool.Decides.{nat_tests}
use mathlib.Core.List.{IsPrefix}

pub invariant_of-self : goal.invariant_of-self
invariant_of-self g c =
    rest_goes g.J.Station.setting c.self.inside.lead.history c.self.inside.handed c.args.part c.self.inside.rest c.next-call.new.self c.next-call.result c.self.invariant c.next-call.ensures

pub returns-clause-taken : goal.returns-clause-taken
returns-clause-taken g c =
    let s = c.args.seat.now in
    let s' = c.see.new.self in
    let r = c.self.inside.rest in
    let same : c.taken.result ≡ c.taken-2.result = grind (arith, nat_tests) in
    let had : (queue_of c.args.part r).taken ≡ s.taken = sym c.taken.ensures ∙ same ∙ c.taken-2.ensures in
    let before : IsPrefix s.front c.front-2.result.now = search rules in
    let seen = seen_told s s' c.taken-3.result c.front-2.result.now before c.see.ensures in
    taken_told g.J.Station.setting c.self.inside.lead.history c.self.inside.handed c.args.part r c.next-call.new.self c.next-call.result s s' c.self.invariant c.next-call.ensures had
    (ap (λ (t : SeatState). t.taken) c.see.ensures ∙ c.taken-3.ensures) seen (ap (λ (t : SeatState). t.front) c.see.ensures ∙ c.front-2.ensures)
