-- What holds of a value, if there is one.
use Rattle.sl_words.proofs.CaseLaws.{none_some, some_value}
use Rattle.std.proofs.Common.{subst}
use Rattle.std.specs.Prelude.{IfOk, IfSome, None, Ok, Option, Result, Some, ◌≡◌}

pub some_holds : {A : Type 0} (P : A → Type 0) (o : Option A) (x : A) → o ≡ Some x → IfSome o P → P x
some_holds P None x is h = absurd (none_some x is)
some_holds P (Some y) x is h = subst P (some_value y x is) h

pub ok_holds : {A E : Type 0} (P : A → Type 0) (o : Result A E) (x : A) → o ≡ Ok x → IfOk o P → P x
ok_holds P o x is h = subst (λ r. IfOk r P) is h
