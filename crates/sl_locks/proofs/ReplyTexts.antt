-- Words behind a first one, each behind a space.
use Rattle.sl_command.proofs.LineLaws.{spaced-cons, written_behind}
use Rattle.sl_locks.specs.Replies.{held_words}
use Rattle.sl_run.specs.Lvm.{HeldLock, held_lock_word}
use Rattle.sl_text.specs.Forms.{spaced}
use Rattle.std.proofs.Common.{List, ap, codes, map, ℕ, ◌++◌, ◌≡◌, ◌∙◌, ◌∷◌}
use Rattle.std.proofs.lemmas.List.Folds.{flat_map-map}

pub held_written : (old a new : List ℕ) (held : List HeldLock) → a ≡ old ++ codes "ok" → new ≡ a ++ held_words held → new ≡ old ++ spaced (codes "ok" ∷ map held_lock_word held)
held_written old a new held first then =
    written_behind old a new (codes "ok") (held_words held) (spaced (codes "ok" ∷ map held_lock_word held)) first then
    (spaced-cons (codes "ok") (map held_lock_word held) ∙ ap (λ bs. codes "ok" ++ bs) (flat_map-map (λ w. 32 ∷ w) held_lock_word held))

pub ruleset words = (held_written)
