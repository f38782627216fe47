-- Cases of truths and of values that may be absent.
use Rattle.std.proofs.Common.{Bool, None, Option, Some, false, inl, inr, refl, true, ◌≡◌, ◌⊎◌}

-- One or the other.
pub true_or_false : (b : Bool) → (b ≡ true) ⊎ (b ≡ false)
true_or_false true = inl refl
true_or_false false = inr refl

-- .. and not both.
pub not_both : (b : Bool) → b ≡ true → b ≡ false → ⊥
not_both b p q = absurd cc

-- What isn't true is false.
pub is_false : (b : Bool) → (b ≡ true → ⊥) → b ≡ false
is_false true h = absurd (h refl)
is_false false h = refl

-- False isn't true.
pub false_is_true : false ≡ true → ⊥
false_is_true e = absurd cc

-- .. nor true false.
pub true_is_false : true ≡ false → ⊥
true_is_false e = absurd cc

-- What is there is one value.
pub one_value : {A : Type 0} → (a b : A) → (o : Option A) → o ≡ Some a → o ≡ Some b → a ≡ b
one_value a b o p q = cc

-- .. and is there.
pub no_value : {A : Type 0} → (a : A) → (o : Option A) → o ≡ Some a → o ≡ None → ⊥
no_value a o p q = absurd cc

-- What is said to be one value, is.
pub some_value : {A : Type 0} → (a b : A) → Some a ≡ Some b → a ≡ b
some_value a b e = cc

-- What is absent is no value.
pub none_some : {A : Type 0} → (a : A) → None ≡ Some a → ⊥
none_some a e = absurd cc
