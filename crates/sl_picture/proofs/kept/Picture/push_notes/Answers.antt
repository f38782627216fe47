-- One comment more, where the one before left room.
use Rattle.sl_picture.proofs.PushedTexts.{text_more}
use Rattle.sl_picture.proofs.kept.Picture.push_notes.Goals as goal
use Rattle.sl_picture.specs.Signs.{note_free, note_text, notes_to}
use Rattle.std.proofs.Common.{ap, arith, subst, suc, ℕ, ◌++◌, ◌+◌, ◌∙◌, ◌≡◌}

pub loop-index-preserved : goal.loop-index-preserved
loop-index-preserved c =
    let k = c.args.self.now in
    let l = c.args.layout.now in
    let n : ℕ = c.loop-index.index in
    let next : suc n ≡ n + 1 = omega arith in
    record {
      text = subst (λ (m : ℕ). c.push_note.new.out.items ≡ c.args.out.now.items ++ (notes_to k l m).text) next
          (text_more _ _ _ _ _ c.loop-index.invariant.text
          (c.in_ok-free.ensures.text ∙ ap (λ (free : ℕ). c.loop-index.out.items ++ note_text k l n free) c.loop-index.invariant.free));
      free = subst (λ (m : ℕ). c.in_ok-free.free ≡ (notes_to k l m).free) next
          (c.in_ok-free.ensures.end ∙ ap (λ (free : ℕ). note_free k l n free) c.loop-index.invariant.free);
    }
