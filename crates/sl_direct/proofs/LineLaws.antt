-- Lines put together from their parts.
use Rattle.sl_direct.specs.Lines.{found_words}
use Rattle.sl_sector.specs.declared.sector.Bad.TheVariants.{BadCheck, BadField, BadKind, BadMagic, BadPad}
use Rattle.sl_sector.specs.declared.sector.Bad.{Bad}
use Rattle.sl_sector.specs.declared.sector.Rec.TheVariants.{BlockIs, DeltaIs, LeaderIs, PairIs, PairLeaderIs, RequestIs, ValueIs}
use Rattle.sl_sector.specs.declared.sector.Rec.{Rec}
use Rattle.std.proofs.Common.{Err, List, Ok, Result, [], ap, append_assoc, refl, sym, ℕ, ◌++◌, ◌∙◌, ◌∷◌, ◌≡◌}
use Rattle.std.specs.List.{join_with_byte}

-- What is found stands behind a word and a space.
pub joined_found : (at : List ℕ) (r : Result Rec Bad) → join_with_byte 32 (at ∷ found_words r) ≡ at ++ 32 ∷ join_with_byte 32 (found_words r)
joined_found at (Ok (DeltaIs d)) = refl
joined_found at (Ok (LeaderIs l)) = refl
joined_found at (Ok (BlockIs b)) = refl
joined_found at (Ok (RequestIs r)) = refl
joined_found at (Ok (ValueIs v)) = refl
joined_found at (Ok (PairIs p)) = refl
joined_found at (Ok (PairLeaderIs l)) = refl
joined_found at (Err BadMagic) = refl
joined_found at (Err BadKind) = refl
joined_found at (Err (BadField k)) = refl
joined_found at (Err (BadPad k)) = refl
joined_found at (Err BadCheck) = refl

-- The same, of a line that was put together so.
pub joined_line : (at front line : List ℕ) (r : Result Rec Bad) → front ≡ at ++ 32 ∷ [] → line ≡ front ++ join_with_byte 32 (found_words r)
    → line ≡ join_with_byte 32 (at ∷ found_words r)
joined_line at front line r first whole =
    whole ∙ ap (λ l. l ++ join_with_byte 32 (found_words r)) first ∙ append_assoc at (32 ∷ []) (join_with_byte 32 (found_words r)) ∙ sym (joined_found at r)
