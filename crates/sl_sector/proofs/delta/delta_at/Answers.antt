use Rattle.std.proofs.Common.{Err, ap, refl, sym, ◌∙◌}
use Rattle.sl_sector.proofs.RuleLaws.{broken_front, handed_on, kept_front}
use Rattle.sl_sector.specs.SectorLayouts.{delta_of, delta_rules}
use Rattle.sl_sector.proofs.delta.delta_at.Goals as goal

pub returns-in_err-all_hold : goal.returns-in_err-all_hold
unfolding delta_rules
returns-in_err-all_hold c =
    let known = simp (
      c.both.ensures,
      c.both-2.ensures,
      c.both-3.ensures,
      c.is_host.ensures,
      c.is_number.ensures,
      c.is_number-2.ensures,
      c.implies.ensures,
      c.implies-2.ensures,
      c.implies-3.ensures,
      c.u32_at-state.ensures,
      c.u32_at-id.ensures,
      c.u64_at-generation.ensures,
      c.u64_at-seq.ensures,
      c.u64_at-stamp.ensures,
    ) at (sym c.all_hold.ensures ∙ c.in_err-all_hold.was) in
    handed_on c.from_residual.result c.in_err-all_hold.field-0.0 c.from_residual.ensures.1
    ∙ sym (broken_front 5 (delta_rules c.args.sector.now) (delta_of c.args.sector.now) c.in_err-all_hold.field-0.0 known)

pub returns-in_err-lockspace : goal.returns-in_err-lockspace
unfolding delta_rules
returns-in_err-lockspace c =
    let known = simp (
      c.both.ensures,
      c.both-2.ensures,
      c.both-3.ensures,
      c.is_host.ensures,
      c.is_number.ensures,
      c.is_number-2.ensures,
      c.implies.ensures,
      c.implies-2.ensures,
      c.implies-3.ensures,
      c.u32_at-state.ensures,
      c.u32_at-id.ensures,
      c.u64_at-generation.ensures,
      c.u64_at-seq.ensures,
      c.u64_at-stamp.ensures,
    ) at (sym c.all_hold.ensures ∙ c.in_ok-all_hold.was) in
    handed_on c.from_residual-in_err-lockspace.result c.in_err-lockspace.field-0.0 c.from_residual-in_err-lockspace.ensures.1
    ∙ ap (λ x. Err x) c.in_err-lockspace.ensures.1
    ∙ sym (kept_front 5 (delta_rules c.args.sector.now) (delta_of c.args.sector.now) known ∙ rw c.in_err-lockspace.ensures.0 refl)

pub returns-in_err-host : goal.returns-in_err-host
unfolding delta_rules
returns-in_err-host c =
    let known = simp (
      c.both.ensures,
      c.both-2.ensures,
      c.both-3.ensures,
      c.is_host.ensures,
      c.is_number.ensures,
      c.is_number-2.ensures,
      c.implies.ensures,
      c.implies-2.ensures,
      c.implies-3.ensures,
      c.u32_at-state.ensures,
      c.u32_at-id.ensures,
      c.u64_at-generation.ensures,
      c.u64_at-seq.ensures,
      c.u64_at-stamp.ensures,
    ) at (sym c.all_hold.ensures ∙ c.in_ok-all_hold.was) in
    let host_rule = simp c.u64_at-generation.ensures at c.in_err-host.ensures.0 in
    handed_on c.from_residual-in_err-host.result c.in_err-host.field-0.0 c.from_residual-in_err-host.ensures.1
    ∙ ap (λ x. Err x) c.in_err-host.ensures.1
    ∙ sym (kept_front 5 (delta_rules c.args.sector.now) (delta_of c.args.sector.now) known ∙ rw (c.in_ok-lockspace.ensures.0, host_rule) refl)

pub returns-in_err-bitmap : goal.returns-in_err-bitmap
unfolding delta_rules
returns-in_err-bitmap c =
    let known = simp (
      c.both.ensures,
      c.both-2.ensures,
      c.both-3.ensures,
      c.is_host.ensures,
      c.is_number.ensures,
      c.is_number-2.ensures,
      c.implies.ensures,
      c.implies-2.ensures,
      c.implies-3.ensures,
      c.u32_at-state.ensures,
      c.u32_at-id.ensures,
      c.u64_at-generation.ensures,
      c.u64_at-seq.ensures,
      c.u64_at-stamp.ensures,
    ) at (sym c.all_hold.ensures ∙ c.in_ok-all_hold.was) in
    let host_rule = simp c.u64_at-generation.ensures at c.in_ok-host.ensures.0 in
    let bitmap_rule = simp c.u64_at-generation.ensures at c.in_err-bitmap.ensures.0 in
    handed_on c.from_residual-in_err-bitmap.result c.in_err-bitmap.field-0.0 c.from_residual-in_err-bitmap.ensures.1
    ∙ ap (λ x. Err x) c.in_err-bitmap.ensures.1
    ∙ sym (kept_front 5 (delta_rules c.args.sector.now) (delta_of c.args.sector.now) known ∙ rw (c.in_ok-lockspace.ensures.0, host_rule, bitmap_rule) refl)

pub returns : goal.returns
unfolding delta_rules
returns c =
    let known = simp (
      c.both.ensures,
      c.both-2.ensures,
      c.both-3.ensures,
      c.is_host.ensures,
      c.is_number.ensures,
      c.is_number-2.ensures,
      c.implies.ensures,
      c.implies-2.ensures,
      c.implies-3.ensures,
      c.u32_at-state.ensures,
      c.u32_at-id.ensures,
      c.u64_at-generation.ensures,
      c.u64_at-seq.ensures,
      c.u64_at-stamp.ensures,
    ) at (sym c.all_hold.ensures ∙ c.in_ok-all_hold.was) in
    let host_rule = simp c.u64_at-generation.ensures at c.in_ok-host.ensures.0 in
    let bitmap_rule = simp c.u64_at-generation.ensures at c.in_ok-bitmap.ensures.0 in
    simp (
      c.in_ok-lockspace.ensures.1,
      c.in_ok-host.ensures.1,
      c.in_ok-bitmap.ensures.1,
      c.state_of.ensures,
      c.u32_at-state.ensures,
      c.u32_at-id.ensures,
      c.u64_at-generation.ensures,
      c.u64_at-seq.ensures,
      c.u64_at-stamp.ensures,
    )
    (sym (kept_front 5 (delta_rules c.args.sector.now) (delta_of c.args.sector.now) known ∙ rw (c.in_ok-lockspace.ensures.0, host_rule, bitmap_rule) refl))
