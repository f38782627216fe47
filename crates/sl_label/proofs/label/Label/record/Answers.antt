-- The text fits, and has bytes alone.
use Rattle.sl_label.proofs.LabelLaws.{data_found, value_is}
use Rattle.sl_label.proofs.label.Label.record.Goals as goal
use Rattle.std.proofs.Common.{rules, subst, sym, ◌∙◌, ◌<◌, ◌^◌}
use Rattle.std.specs.Prelude.{IsTrue, List, nat_lt, ℕ}
use Rattle.std.specs.List.{list_all}

pub unreachable-requires : goal.unreachable-requires
unreachable-requires c =
    let wide : c.args.self.now.geometry.area < 2 ^ 64 = search rules in
    data_found c.args.self.now c.deref-2.result.now _ c.requires wide (c.deref-2.ensures.value ∙ c.in_ok-text.ensures) c.new.ensures.exact c.in_default.is

pub returns-clause-rules : goal.returns-clause-rules
returns-clause-rules c =
    let wide : c.args.self.now.geometry.area < 2 ^ 64 = search rules in
    let all : IsTrue (list_all (λ b. nat_lt b 256) c.deref-2.result.now)
    = subst (λ (t : List ℕ). IsTrue (list_all (λ b. nat_lt b 256) t)) (c.deref.ensures.value ∙ sym c.deref-2.ensures.value) c.are_bytes.ensures in
    value_is c.args.self.now c.in-Some.bytes c.deref-2.result.now c.requires wide (search rules) (c.deref-2.ensures.value ∙ c.in_ok-text.ensures) all
