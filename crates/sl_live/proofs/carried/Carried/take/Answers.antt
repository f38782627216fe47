use Rattle.sl_live.proofs.CarriedLaws.{took_start}
use Rattle.sl_live.proofs.carried.Carried.take.Goals as goal
use Rattle.std.proofs.Common.{arith, rules, sym, true, ◌∙◌, ◌≡◌}
use Rattle.std.proofs.lemmas.Bool.Decides.{nat_tests}
use mathlib.Core.List.{IsPrefix}

pub returns-clause-taken : goal.returns-clause-taken
returns-clause-taken g c =
    let k = c.self.inside in
    let s = c.args.seat.now in
    let behind : IsPrefix s.front k.front = search rules in
    let whole : k.whole ≡ true = search rules in
    let count : c.taken-before.result ≡ k.taken = grind (arith, nat_tests) in
    took_start s c.see.new.self k.front c.taken-before.result k.taken k.killed k.children.awaited c.in-Some.awaited behind c.see.ensures c.taken-before.ensures
    (sym c.taken-before.ensures ∙ count) (sym c.in-Some.is ∙ c.next.ensures) (c.self.invariant whole).queue
