-- Each clock grows by the next word.
use Rattle.sl_picture.proofs.kept.Picture.grow_clocks.Goals as goal
use Rattle.sl_picture.specs.Events.{clock_grown, clocks_grown, grown, growth_of}
use Rattle.sl_picture.specs.Kept.{Kept, is_machine, lane_at}
use Rattle.sl_picture.specs.Said.{first_word}
use Rattle.sl_picture.specs.declared.shapes.Lane.{Lane}
use Rattle.sl_text.specs.Forms.{words_of}
use Rattle.sl_text.specs.Walks.{Unread}
use Rattle.std.proofs.Common.{Bool, List, add-one, ap, ap₂, arith, drop, false, length, refl, sym, true, ℕ, ◌+◌, ◌-◌, ◌∙◌, ◌≡◌}
use Rattle.std.proofs.lemmas.List.{drop-drop, length-set}
use Rattle.std.specs.Prelude.{if◌then◌else◌, slice_set}

as_long : (b : Bool) (xs : List Lane) (n : ℕ) (x : Lane) → length (if b then slice_set xs n x else xs) ≡ length xs
as_long true xs n x = length-set xs n x
as_long false xs n x = refl

pub loop-index-preserved : goal.loop-index-preserved
loop-index-preserved c =
    let line = c.args.line.now in
    let n = c.loop-index.index in
    let k : Kept = c.loop-index.self in
    let growth : c.growth_of-growth.result ≡ growth_of c.args.time (first_word (drop (n + 2) (words_of line))) =
    c.growth_of-growth.ensures ∙ ap (growth_of c.args.time) (c.next_word.ensures.word ∙ ap first_word c.loop-index.invariant.words) in
    record {
      words = ap (λ (u : Unread). u.words) c.next_word.ensures.left ∙ ap (λ ws. drop 1 ws) c.loop-index.invariant.words ∙ drop-drop 1 (n + 2) (words_of line)
          ∙ ap (λ m. drop m (words_of line)) (omega arith);
      grown = c.grow_clock.ensures ∙ ap₂ (λ g (j : Kept). clock_grown (n + 1) g j) growth c.loop-index.invariant.grown
          ∙ sym (ap (λ m. clocks_grown line c.args.time m c.args.self.now) (add-one n));
      lanes = ap (λ (j : Kept). length j.lanes) c.grow_clock.ensures
          ∙ as_long (is_machine k.lanes (n + 1)) k.lanes (n + 1 - 1) (grown c.growth_of-growth.result (lane_at k.lanes (n + 1))) ∙ c.loop-index.invariant.lanes;
    }
