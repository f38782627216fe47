-- Laws of options: values that are chosen by a test.
use Rattle.sl_words.specs.Words.{choose, some_is}
use Rattle.std.proofs.Common.{Bool, None, Option, Some, ap, cond, false, refl, true, ◌≡◌, ◌∙◌}
use Rattle.std.specs.Option.{ok_or}
use Rattle.std.specs.Prelude.{option_map}
use Rattle.std.specs.Result.{result_ok}

-- The test holds, or fails.
pub choose_at_true : {A : Type 0} (b : Bool) (a : A) → b ≡ true → choose b a ≡ Some a
choose_at_true b a h = ap (λ t. choose t a) h

pub choose_at_false : {A : Type 0} (b : Bool) (a : A) → b ≡ false → choose b a ≡ None
choose_at_false b a h = ap (λ t. choose t a) h

-- Nothing was chosen.
pub choose_none : {A : Type 0} (b : Bool) (a : A) → choose b a ≡ None → b ≡ false
choose_none true a h = absurd cc
choose_none false a h = refl

pub cond_none : {A : Type 0} (b : Bool) (a : A) → cond b (Some a) None ≡ None → b ≡ false
cond_none true a h = absurd cc
cond_none false a h = refl

-- What is made of the value that is chosen.
pub option_map-choose : {A B : Type 0} (f : A → B) (b : Bool) (a : A) → option_map f (choose b a) ≡ choose b (f a)
option_map-choose f true a = refl
option_map-choose f false a = refl

-- A value that passes is there.
pub some_is_none : {A : Type 0} (p : A → Bool) (o : Option A) → some_is p o ≡ false → (a : A) → o ≡ Some a → p a ≡ false
some_is_none p None h a e = absurd cc
some_is_none p (Some b) h a e = let same : a ≡ b = cc in ap p same ∙ h

-- A value that was there comes out as it went in.
pub result_ok-ok_or : {A E : Type 0} (o : Option A) (e : E) → result_ok (ok_or o e) ≡ o
result_ok-ok_or None e = refl
result_ok-ok_or (Some a) e = refl
