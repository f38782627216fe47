use Rattle.sl_tables.proofs.SlotsStand.{none_left_out}
use Rattle.sl_tables.proofs.kill_programs.forget.Goals as goal
use Rattle.std.proofs.Common.{None, Option, Some, ap, false, is_some, nat_eq, not, refl, rules, sym, true≢false, ◌∙◌, ◌≡◌}
use Rattle.std.specs.Option.{option_copied}
use Rattle.std.proofs.lemmas.Map.Made.{filter_same_pairs}

none_if : {A : Type 0} (o : Option A) → is_some o ≡ false → o ≡ None
none_if None is = refl
none_if (Some x) is = absurd (true≢false is)

pub returns-then-is_some-clause-entries : goal.returns-then-is_some-clause-entries
returns-then-is_some-clause-entries c = filter_same_pairs _ (λ p. not (nat_eq c.args.process p.0)) _ (λ k v b w f' call. search rules) _ _ c.retain.ensures.filtered

pub returns-else-is_some-clause-entries : goal.returns-else-is_some-clause-entries
returns-else-is_some-clause-entries c =
    sym (none_left_out c.args.process c.args.programs.now.entries (sym c.get.ensures.value ∙ ap option_copied (none_if c.get.result (sym c.is_some.ensures ∙ c.if-is_some.false))))
