use Rattle.std.proofs.Common.{Err, ap, refl, sym, ◌∙◌}
use Rattle.sl_sector.proofs.RuleLaws.{broken_front, handed_on, kept_front}
use Rattle.sl_sector.specs.SectorLayouts.{leader_of, leader_rules}
use Rattle.sl_sector.proofs.leader.leader_at.Goals as goal

pub returns-in_err-numbers_hold : goal.returns-in_err-numbers_hold
unfolding leader_rules
returns-in_err-numbers_hold c =
    let known = sym c.numbers_hold.ensures ∙ c.in_err-numbers_hold.was in
    handed_on c.from_residual.result c.in_err-numbers_hold.field-0.0 c.from_residual.ensures.1
    ∙ sym (broken_front 5 (leader_rules c.args.sector.now) (leader_of c.args.sector.now) c.in_err-numbers_hold.field-0.0 known)

pub returns-in_err-lockspace : goal.returns-in_err-lockspace
unfolding leader_rules
returns-in_err-lockspace c =
    let known = sym c.numbers_hold.ensures ∙ c.in_ok-numbers_hold.was in
    handed_on c.from_residual-in_err-lockspace.result c.in_err-lockspace.field-0.0 c.from_residual-in_err-lockspace.ensures.1
    ∙ ap (λ x. Err x) c.in_err-lockspace.ensures.1
    ∙ sym (kept_front 5 (leader_rules c.args.sector.now) (leader_of c.args.sector.now) known ∙ rw c.in_err-lockspace.ensures.0 refl)

pub returns-in_err-resource : goal.returns-in_err-resource
unfolding leader_rules
returns-in_err-resource c =
    let known = sym c.numbers_hold.ensures ∙ c.in_ok-numbers_hold.was in
    handed_on c.from_residual-in_err-resource.result c.in_err-resource.field-0.0 c.from_residual-in_err-resource.ensures.1
    ∙ ap (λ x. Err x) c.in_err-resource.ensures.1
    ∙ sym (kept_front 5 (leader_rules c.args.sector.now) (leader_of c.args.sector.now) known ∙ rw (c.in_ok-lockspace.ensures.0, c.in_err-resource.ensures.0) refl)

pub returns : goal.returns
unfolding leader_rules
returns c =
    let known = sym c.numbers_hold.ensures ∙ c.in_ok-numbers_hold.was in
    simp (c.in_ok-lockspace.ensures.1, c.in_ok-resource.ensures.1, c.u32_at.ensures, c.u32_at-2.ensures, c.u64_at.ensures, c.u64_at-2.ensures, c.u32_at-3.ensures)
    (sym (kept_front 5 (leader_rules c.args.sector.now) (leader_of c.args.sector.now) known ∙ rw (c.in_ok-lockspace.ensures.0, c.in_ok-resource.ensures.0) refl))
