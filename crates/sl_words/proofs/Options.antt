-- What an option says of the value in it.
use Rattle.sl_words.proofs.CaseLaws.{false_is_true, none_some, some_value, true_is_false}
use Rattle.std.proofs.Common.{refl}
use Rattle.std.specs.Prelude.{Bool, IsSome, None, Option, Some, false, if◌then◌else◌, is_none, is_some, option_and_then, option_map, true, ◌≡◌}

pub none_is : {A : Type 0} (o : Option A) → is_none o ≡ true → o ≡ None
none_is None h = refl
none_is (Some a) h = absurd (false_is_true h)

pub not_some : {A : Type 0} (o : Option A) → is_some o ≡ false → o ≡ None
not_some None h = refl
not_some (Some a) h = absurd (true_is_false h)

pub some_there : {A : Type 0} (o : Option A) → is_some o ≡ true → (a : A) × (o ≡ Some a)
some_there None h = absurd (false_is_true h)
some_there (Some a) h = (a, refl)

pub not_none : {A : Type 0} (o : Option A) → is_none o ≡ false → (a : A) × (o ≡ Some a)
not_none None h = absurd (true_is_false h)
not_none (Some a) h = (a, refl)

pub some_of : {A : Type 0} (o : Option A) → IsSome o → (a : A) × (o ≡ Some a)
some_of None h = absurd (false_is_true h)
some_of (Some a) h = (a, refl)

pub mapped_value : {A B : Type 0} (f : A → B) (o : Option A) (b : B) → option_map f o ≡ Some b → (a : A) × (o ≡ Some a) × (f a ≡ b)
mapped_value f None b h = absurd (none_some b h)
mapped_value f (Some a) b h = (a, refl, some_value (f a) b h)

pub then_value : {A B : Type 0} (f : A → Option B) (o : Option A) (b : B) → option_and_then f o ≡ Some b → (a : A) × (o ≡ Some a) × (f a ≡ Some b)
then_value f None b h = absurd (none_some b h)
then_value f (Some a) b h = (a, refl, h)

-- Past a test that fails.
pub else_some : {A : Type 0} (b : Bool) (o : Option A) (a : A) → b ≡ false → o ≡ Some a → (if b then None else o) ≡ Some a
else_some true o a h k = absurd (true_is_false h)
else_some false o a h k = k
