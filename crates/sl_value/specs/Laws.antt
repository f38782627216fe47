-- What a session needs to know of its writes of a value.
use Rattle.sl_sector.specs.declared.sector.ValueRec.{ValueRec}
use Rattle.sl_value.specs.Versions.{next_seq, version_of}
use Rattle.sl_words.specs.Words.{first_of_list}
use Rattle.std.specs.Option.{option_map_or}
use Rattle.std.specs.Prelude.{Bool, IsTrue, List, find, nat_le, option_map, true, [], ℕ, ◌&&◌, ◌+◌, ◌==◌, ◌∷◌, ◌≡◌}

-- The writes, the newest first, are under instances that never fall, none above this one.
abbrev pub are_below : ℕ → List ValueRec → Bool
are_below lver [] = true
are_below lver (v ∷ vs) = nat_le v.lver lver && are_below v.lver vs

-- The seq of a session's last write under an lver, among all its writes, the newest first, and 0 before any.
abbrev pub last_seq_among : List ValueRec → ℕ → ℕ
last_seq_among vs lver = option_map_or (λ v. v.seq) (find (λ v. v.lver == lver) vs) 0

-- Of a session whose instances never fall the newest write is all that the next seq asks for.
abbrev pub NewestIsEnough : Type 0
NewestIsEnough =
    (vs : List ValueRec) (lver : ℕ) → IsTrue (are_below lver vs) → next_seq (option_map version_of (first_of_list vs)) lver ≡ last_seq_among vs lver + 1
