-- What a line is answered.
use Rattle.sl_locks.specs.declared.reply.LineReply.TheVariants.{Compared, Locks as HeldLocks, Passed}
use Rattle.sl_locks.specs.declared.reply.LineReply.{LineReply}
use Rattle.sl_run.specs.Lvm.{HeldLock, comparison, held_lock_word}
use Rattle.sl_run.specs.Locks.{Told}
use Rattle.sl_text.specs.Forms.{spaced}
use Rattle.sl_trace.specs.EffectTexts.{reply_text}
use Rattle.std.specs.Prelude.{List, Option, codes, flat_map, map, option_map, ℕ, ◌∷◌}

-- Its text.
abbrev pub line_text : LineReply → List ℕ
line_text (Passed r) = reply_text r
line_text (Compared same) = comparison same
line_text (HeldLocks held) = spaced (codes "ok" ∷ map held_lock_word held)

-- With the line's number, if it has come.
abbrev pub told_as : Option (ℕ × LineReply) → Told
told_as r = option_map (λ p. (p.0, line_text p.1)) r

-- Held locks, each behind a space.
abbrev pub held_words : List HeldLock → List ℕ
held_words held = flat_map (λ h. 32 ∷ held_lock_word h) held
