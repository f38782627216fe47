-- One more call or child at the end of those that are numbered on.
use Rattle.sl_world_state.specs.Daemons.{IsSoundCall}
use Rattle.sl_world_law.proofs.PlainLists.{range_append}
use Rattle.sl_script.specs.MadeSteps.{AreCalls, AreStarts}
use Rattle.sl_trace.specs.declared.effects.Call.{Call}
use Rattle.sl_trace.specs.declared.effects.Start.{Start}
use Rattle.std.proofs.Common.{List, [], ap, arith, length, length-append, map, suc, sym, zero, ℕ, ◌++◌, ◌+◌, ◌<◌, ◌∙◌, ◌∷◌, ◌≡◌}
use Rattle.std.proofs.lemmas.List.Elements.{All-append}
use Rattle.std.proofs.lemmas.List.{map-append}
use Rattle.std.specs.List.{All, range_with_len}

numbered_more : {A : Type 0} (f : A → ℕ) (next : ℕ) (xs : List A) (x : A) → map f xs ≡ range_with_len next (length xs) → f x ≡ next + length xs
    → map f (xs ++ x ∷ []) ≡ range_with_len next (length (xs ++ x ∷ []))
numbered_more f next xs x numbered is =
    map-append f xs (x ∷ []) ∙ ap (λ ys. ys ++ f x ∷ []) numbered ∙ ap (λ n. range_with_len next (length xs) ++ n ∷ []) is
    ∙ range_append next (length xs) 1 ∙ ap (range_with_len next) (sym (length-append xs (x ∷ [])))

one_holds : {A : Type 0} (P : A → Type 0) (x : A) → P x → All P (x ∷ [])
one_holds P x h zero d inside = h
one_holds P x h (suc k) d inside = absurd (omega (arith, inside))

pub calls_more : (next sector : ℕ) (cs : List Call) (c : Call) → AreCalls next sector cs → length cs < 32 → c.number ≡ next + length cs → IsSoundCall sector c
    → AreCalls next sector (cs ++ c ∷ [])
calls_more next sector cs c h few is sound =
    record {
      numbered = numbered_more (λ (c : Call). c.number) next cs c h.numbered is;
      sound = All-append (IsSoundCall sector) cs (c ∷ []) h.sound (one_holds (IsSoundCall sector) c sound);
      few = omega (arith, few, length-append cs (c ∷ []));
    }

pub starts_more : (next : ℕ) (ss : List Start) (s : Start) → AreStarts next ss → length ss < 32 → s.process ≡ next + length ss → AreStarts next (ss ++ s ∷ [])
starts_more next ss s h few is =
    record {
      numbered = numbered_more (λ (s : Start). s.process) next ss s h.numbered is;
      few = omega (arith, few, length-append ss (s ∷ []));
    }
