-- The lines of a history with one entry more, and the script's own.
use Rattle.sl_live_lines.specs.AuditedHistory.{KeepsAsk, KeepsAsks, lines_along, own_lines}
use Rattle.sl_live_lines.specs.LocksAlong.{AlongState, along, line_given, runs_line, step_along}
use Rattle.sl_live_lines.specs.declared.given_lines.GivenLine.{GivenLine}
use Rattle.sl_trace.specs.declared.effects.Entry.{Entry}
use Rattle.std.proofs.Common.{ap, append_assoc, if◌then◌else◌, refl, rules, sym, ◌++◌, ◌∙◌, ◌∷◌, ◌≡◌, []}
use Rattle.std.proofs.lemmas.List.{append-nil}
use Rattle.std.specs.Option.{option_to_list}
use Rattle.std.specs.Prelude.{List, None, Option, Some, false, is_some, true}

-- ---- one entry more

pub lines_push : (a : AlongState) (h : List Entry) (e : Entry) → lines_along a (h ++ e ∷ []) ≡ lines_along a h ++ own_lines (along a h) e
lines_push a [] e = append-nil (own_lines a e)
lines_push a (x ∷ h) e =
    ap (λ ls. own_lines a x ++ ls) (lines_push (step_along a x) h e) ∙ sym (append_assoc (own_lines a x) (lines_along (step_along a x) h) (own_lines (along (step_along a x) h) e))

pub asks_push : (a : AlongState) (h : List Entry) (e : Entry) → KeepsAsks a h → KeepsAsk (along a h) e → KeepsAsks a (h ++ e ∷ [])
asks_push a [] e so more = (more, tt)
asks_push a (x ∷ h) e so more = (so.0, asks_push (step_along a x) h e so.1 more)

-- ---- the script's own lines

pub own_some : (a : AlongState) (e : Entry) → runs_line a ≡ false → is_some (line_given e.input) ≡ true → (l : GivenLine) × (own_lines a e ≡ l ∷ [])
own_some a e idle has = go (line_given e.input) refl has
  where
    go : (o : Option GivenLine) → line_given e.input ≡ o → is_some o ≡ true → (l : GivenLine) × (own_lines a e ≡ l ∷ [])
    go None none has = absurd (search rules)
    go (Some l) given has = (l, ap (λ r. if r then [] else option_to_list (line_given e.input)) idle ∙ ap option_to_list given)
