-- One command more: its label is put out where it covers none before it.
use Rattle.sl_picture.proofs.PushedTexts.{text_more}
use Rattle.sl_picture.proofs.kept.Picture.push_row.Goals as goal
use Rattle.sl_picture.proofs.kept.Picture.push_row.Goals.{then-is_shown+in_ok-free, else-is_shown}
use Rattle.sl_picture.specs.Bars.{Row, command_end, command_text, is_shown, row_with}
use Rattle.sl_picture.specs.Kept.{Kept}
use Rattle.sl_picture.specs.Layout.{Plan}
use Rattle.sl_picture.specs.declared.shapes.Bar.{Bar}
use Rattle.std.proofs.Common.{Bool, List, ap, false, length, sym, true, ℕ, [], ◌++◌, ◌+◌, ◌<◌, ◌∙◌, ◌≡◌}
use Rattle.std.proofs.lemmas.List.Sums.{fold_more}
use Rattle.std.specs.Prelude.{fold, get_or, if◌then◌else◌, take}

module _ (k : Kept) (l : Plan) (m row : ℕ) (bs : List Bar) (i : ℕ) (d : Bar) (lt : i < length bs) where
  abbrev none : Row
  none = record { text = []; free = 0 }

  abbrev so_far : Row
  so_far = fold (row_with k l m row) none (take i bs)

  shown : (old was now : List ℕ) (free end : ℕ) (s : Bool) → was ≡ old ++ so_far.text → free ≡ so_far.free → s ≡ is_shown l m row free (get_or bs i d) → s ≡ true
      → now ≡ was ++ command_text k l (get_or bs i d) → end ≡ command_end k l (get_or bs i d)
      → (now ≡ old ++ (fold (row_with k l m row) none (take (i + 1) bs)).text) × (end ≡ (fold (row_with k l m row) none (take (i + 1) bs)).free)
  shown old was now free end s before room is showing text ends =
      let b : Bar = get_or bs i d in
      let labelled : Row = record { text = so_far.text ++ command_text k l b; free = command_end k l b } in
      let sees : is_shown l m row so_far.free b ≡ true = sym (ap (λ (n : ℕ). is_shown l m row n b) room) ∙ sym is ∙ showing in
      let more : fold (row_with k l m row) none (take (i + 1) bs) ≡ labelled =
      fold_more (row_with k l m row) none bs i d lt ∙ ap (λ (t : Bool). if t then labelled else so_far) sees in
      (text_more old so_far.text (command_text k l b) was now before text ∙ sym (ap (λ (r : Row). old ++ r.text) more), ends ∙ sym (ap (λ (r : Row). r.free) more))

  hidden : (old was : List ℕ) (free : ℕ) (s : Bool) → was ≡ old ++ so_far.text → free ≡ so_far.free → s ≡ is_shown l m row free (get_or bs i d) → s ≡ false
      → (was ≡ old ++ (fold (row_with k l m row) none (take (i + 1) bs)).text) × (free ≡ (fold (row_with k l m row) none (take (i + 1) bs)).free)
  hidden old was free s before room is hiding =
      let b : Bar = get_or bs i d in
      let labelled : Row = record { text = so_far.text ++ command_text k l b; free = command_end k l b } in
      let sees : is_shown l m row so_far.free b ≡ false = sym (ap (λ (n : ℕ). is_shown l m row n b) room) ∙ sym is ∙ hiding in
      let more : fold (row_with k l m row) none (take (i + 1) bs) ≡ so_far =
      fold_more (row_with k l m row) none bs i d lt ∙ ap (λ (t : Bool). if t then labelled else so_far) sees in
      (before ∙ sym (ap (λ (r : Row). old ++ r.text) more), room ∙ sym (ap (λ (r : Row). r.free) more))

pub loop-bar-preserved : goal.loop-bar-preserved
loop-bar-preserved c =
    let k = c.args.self.now in
    let l = c.args.layout.now in
    elim c.if-is_shown.branch [
      | then-is_shown+in_ok-free w ↦
          let x = shown k l c.args.machine c.args.row c.args.bars.now c.loop-bar.bar-index _ c.loop-bar-test.true _ _ _ _ _ _ c.loop-bar.invariant.text c.loop-bar.invariant.free
          c.is_shown.ensures w.if-is_shown.true w.in_ok-free.ensures.text w.in_ok-free.ensures.end in
          record { text = ap (λ v. v.items) w.out-is ∙ x.0; free = w.free-is ∙ x.1 }
      | else-is_shown w ↦
          let x = hidden k l c.args.machine c.args.row c.args.bars.now c.loop-bar.bar-index _ c.loop-bar-test.true _ _ _ _ c.loop-bar.invariant.text c.loop-bar.invariant.free
          c.is_shown.ensures w.if-is_shown.false in
          record { text = ap (λ v. v.items) w.out-is ∙ x.0; free = w.free-is ∙ x.1 }
    ]
