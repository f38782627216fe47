use Rattle.sl_machine.proofs.machine_holdings.end_holdings.Goals as goal
use Rattle.sl_trace.specs.Traces as traces
use Rattle.sl_trace.specs.declared.effects.End.{End}
use Rattle.sl_trace.specs.declared.effects.Grant.{Grant}
use Rattle.std.proofs.Common.{Bool, List, [], ap, arith, false, filter, length, not, refl, rules, slice_index_or, subst, sym, true, ◌<◌, ◌==◌, ◌∙◌, ◌≡◌, ◌∷◌, ◌≤◌}
use Rattle.std.proofs.lemmas.Fn.{filter_same}
use Rattle.std.specs.Prelude.{if◌then◌else◌, ◌&&◌, ◌||◌}

-- No end ends nothing.
all_stay : (held : List Grant) → held ≡ filter (λ g. not (traces.is_ended_by [] g)) held
all_stay [] = refl
all_stay (g ∷ held) = ap (λ gs. g ∷ gs) (all_stay held)

none_ends : (ends : List End) (held : List Grant) → length ends < 1 → held ≡ filter (λ g. not (traces.is_ended_by ends g)) held
none_ends [] held none = all_stay held
none_ends (e ∷ ends) held none = absurd (omega (arith, none))

-- One end ends what it is the end of.
abbrev ends_this : End → Grant → Bool
ends_this e g = e.process == g.process && traces.same_place e.path e.offset g.path g.offset

ends_one : (ends : List End) (e : End) → 1 ≤ length ends → length ends < 2 → e ≡ slice_index_or ends 0 e → ends ≡ e ∷ []
ends_one [] e some few is = absurd (omega (arith, some))
ends_one (x ∷ []) e some few is = ap (λ z. z ∷ []) (sym is)
ends_one (x ∷ y ∷ ys) e some few is = absurd (omega (arith, few))

alone : (b : Bool) → b ≡ (b || false)
alone true = refl
alone false = refl

one_ends : (e : End) (held : List Grant) → filter (λ g. not (ends_this e g)) held ≡ filter (λ g. not (traces.is_ended_by (e ∷ []) g)) held
one_ends e [] = refl
one_ends e (g ∷ held) =
    ap (λ b. if not b then g ∷ filter (λ g. not (ends_this e g)) held else filter (λ g. not (ends_this e g)) held) (alone (ends_this e g))
    ∙ ap (λ gs. if not (traces.is_ended_by (e ∷ []) g) then g ∷ gs else gs) (one_ends e held)

pub returns-in-empty-clause-items : goal.returns-in-empty-clause-items
returns-in-empty-clause-items c = none_ends c.args.ends.now c.args.held.now.items c.in-empty.len_below

pub returns-in-len1-clause-items : goal.returns-in-len1-clause-items
returns-in-len1-clause-items c =
    let e = c.end-item.result in
    let held = c.args.held.now.items in
    let kept : c.retain.new.self.items ≡ filter (λ g. not (ends_this e g)) held = filter_same _ _ _ (λ x b f' k. search rules) _ _ c.retain.ensures.filtered in
    kept
    ∙ subst (λ es. filter (λ g. not (ends_this e g)) held ≡ filter (λ g. not (traces.is_ended_by es g)) held)
    (sym (ends_one c.args.ends.now e c.in-len1.len_at_least c.in-len1.len_below c.end-item.is)) (one_ends e held)

pub returns-in_default-clause-items : goal.returns-in_default-clause-items
returns-in_default-clause-items c = filter_same _ _ _ (λ x b f' k. search rules) _ _ c.retain-in_default.ensures.filtered
