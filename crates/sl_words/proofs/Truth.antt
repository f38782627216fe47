-- Of two truths and their `or`, what std does not say.
use Rattle.sl_words.proofs.CaseLaws.{true_is_false}
use Rattle.std.proofs.Common.{refl, sym}
use Rattle.std.proofs.lemmas.Bool.{or_parts}
use Rattle.std.specs.Prelude.{Bool, false, true, ◌&&◌, ◌||◌, ◌≡◌}

-- Beside a false one.
pub or_false : (a : Bool) → (a || false) ≡ true → a ≡ true
or_false true h = refl
or_false false h = h

pub left_is_false : (a b : Bool) → (a || b) ≡ false → a ≡ false
left_is_false a b h = (or_parts a b h).0

pub second_is_false : (a b : Bool) → (a && b) ≡ false → a ≡ true → b ≡ false
second_is_false true b h k = h
second_is_false false b h k = absurd (true_is_false (sym k))
