use Rattle.std.proofs.Common.{Bool, List, [], leb, sym, ℕ, ◌∙◌, ◌∷◌}
use Rattle.std.proofs.lemmas.Bool.{leb-true}
use Rattle.sl_sector.proofs.RuleLaws.{broken_rules, handed_on, kept_rules, rules_hold}
use Rattle.sl_sector.specs.SectorLayouts.{value_of, value_rules}
use Rattle.sl_sector.proofs.value.value_at.Goals as goal

pub returns-in_err-all_hold-clause-exact : goal.returns-in_err-all_hold-clause-exact
unfolding value_rules
returns-in_err-all_hold-clause-exact c =
    let known = simp (c.is_number.ensures, c.is_number-2.ensures, c.u32_at-len.ensures, c.u32_at-host.ensures, c.u64_at-lver.ensures, c.u64_at-seq.ensures) at (sym c.all_hold.ensures ∙ c.in_err-all_hold.was) in
    handed_on c.from_residual.result c.in_err-all_hold.field-0.0 c.from_residual.ensures.1
    ∙ sym (broken_rules (value_rules c.args.sector.now) (value_of c.args.sector.now) c.in_err-all_hold.field-0.0 known)

pub data_at-requires-clause-few : goal.data_at-requires-clause-few
unfolding value_rules
data_at-requires-clause-few c =
    let tests : List (ℕ × Bool) = (8, leb c.u32_at-len.result 256) ∷ (12, leb c.u32_at-host.result 2000) ∷ (16, c.is_number.result) ∷ (24, c.is_number-2.result) ∷ [] in
    leb-true _ _ (rules_hold tests tt tt (sym c.all_hold.ensures ∙ c.in_ok-all_hold.was)).0.0

pub returns-clause-exact : goal.returns-clause-exact
unfolding value_rules
returns-clause-exact c =
    let known = simp (c.is_number.ensures, c.is_number-2.ensures, c.u32_at-len.ensures, c.u32_at-host.ensures, c.u64_at-lver.ensures, c.u64_at-seq.ensures) at (sym c.all_hold.ensures ∙ c.in_ok-all_hold.was) in
    simp (c.data_at.ensures.exact, c.u32_at-len.ensures, c.u32_at-host.ensures, c.u64_at-lver.ensures, c.u64_at-seq.ensures)
    (sym (kept_rules (value_rules c.args.sector.now) (value_of c.args.sector.now) known))
