-- What is kept by tests, by values that are there, and by loops.
use Rattle.sl_due.specs.Steps.{Step, for_each, when, with_some}
use Rattle.sl_words.proofs.Lists.{contains_first, contains_more}
use Rattle.std.proofs.Common.{refl}
use Rattle.std.specs.Prelude.{Bool, Contains, List, None, Option, Some, false, true, [], ◌∷◌, ◌≡◌}

pub when_keeps : (I : Step → Type 0) (b : Bool) (f : Step → Step) (x : Step) → (b ≡ true → I x → I (f x)) → I x → I (when b f x)
when_keeps I true f x keeps h = keeps refl h
when_keeps I false f x keeps h = h

pub with_some_keeps : (I : Step → Type 0) {A : Type 0} (o : Option A) (f : A → Step → Step) (x : Step) → ((a : A) → o ≡ Some a → I x → I (f a x)) → I x → I (with_some o f x)
with_some_keeps I (Some a) f x keeps h = keeps a refl h
with_some_keeps I None f x keeps h = h

-- Each member of the list is met once, at a step where all so far is kept.
pub for_each_keeps : (I : Step → Type 0) {A : Type 0} (xs : List A) (f : A → Step → Step) (x : Step) → ((a : A) → Contains xs a → (y : Step) → I y → I (f a y)) → I x → I (for_each xs f x)
for_each_keeps I [] f x keeps h = h
for_each_keeps I (a ∷ xs) f x keeps h = for_each_keeps I xs f (f a x) (λ b there. keeps b (contains_more a xs b there)) (keeps a (contains_first a xs) x h)

-- Where what is kept speaks of those that are still to come.
pub each_in_turn : {A : Type 0} (I : List A → Step → Type 0) (xs : List A) (f : A → Step → Step) (x : Step) → ((a : A) (rest : List A) (y : Step) → I (a ∷ rest) y → I rest (f a y)) → I xs x → I [] (for_each xs f x)
each_in_turn I [] f x keeps h = h
each_in_turn I (a ∷ xs) f x keeps h = each_in_turn I xs f (f a x) keeps (keeps a xs x h)
