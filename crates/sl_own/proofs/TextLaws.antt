-- The line of a machine that another process has.
use Rattle.sl_own.specs.OwnTexts.{no_place_text}
use Rattle.sl_own.specs.declared.no_place.NoPlace.TheVariants.{MachineInUse}
use Rattle.std.proofs.Common.{List, Result, [], ap, subst, ℕ, ◌++◌, ◌∙◌, ◌∷◌, ◌≡◌}
use Rattle.std.proofs.lemmas.List.{append_assoc}
use Rattle.std.specs.Prelude.{OnOk, codes, decimal}

pub in_use_told : {T E : Type 0} (r : Result T E) (m : ℕ) (old line new : List ℕ) → line ≡ codes "machine in use " ++ decimal m → OnOk r (new ≡ old ++ line ++ 10 ∷ [])
    → OnOk r (new ≡ old ++ no_place_text (MachineInUse m))
in_use_told r m old line new is so = subst (λ (l : List ℕ). OnOk r (new ≡ l)) (append_assoc old line (10 ∷ []) ∙ ap (λ (l : List ℕ). old ++ (l ++ 10 ∷ [])) is) so
