-- Laws of steps that may fail.
use Rattle.sl_words.specs.Results.{◌>>=◌}
use Rattle.std.proofs.Common.{Err, Ok, Result, ap, refl, ◌≡◌}

-- Three steps, grouped either way.
pub bind_assoc : {A B C E : Type 0} (r : Result A E) (f : A → Result B E) (g : B → Result C E) → ((r >>= f) >>= g) ≡ (r >>= λ a. f a >>= g)
bind_assoc (Ok a) f g = refl
bind_assoc (Err e) f g = refl

-- A step that only hands on.
pub bind_same : {A E : Type 0} (r : Result A E) → (r >>= λ a. Ok a) ≡ r
bind_same (Ok a) = refl
bind_same (Err e) = refl

-- What a failed step leaves of those behind it.
pub bind_err : {A B E : Type 0} (r : Result A E) (e : E) (next : A → Result B E) → r ≡ Err e → (r >>= next) ≡ Err e
bind_err r e next h = ap (λ x. x >>= next) h
