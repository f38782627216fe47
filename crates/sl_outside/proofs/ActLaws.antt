-- What is told of acts, and of what is handed out: one list behind another.
use Rattle.sl_outside.specs.Acts.{Grows, Tells}
use Rattle.sl_outside.specs.declared.act.Act.{Act}
use Rattle.std.proofs.Common.{append-nil, append_assoc, ap, arith, refl, subst, sym, ◌∙◌}
use Rattle.std.specs.Option.{ForSome}
use Rattle.std.specs.Prelude.{List, None, Option, Some, length, [], ◌++◌, ◌∷◌, ◌≡◌}

pub grows_none : {E : Type 0} (a b : Option (List E)) → b ≡ a → Grows a b []
grows_none None b same = same
grows_none (Some xs) None same = absurd cc
grows_none (Some xs) (Some ys) same = let e : ys ≡ xs = cc in e ∙ sym (append-nil xs)

pub grows_on : {E : Type 0} (a b c : Option (List E)) (xs ys : List E) → Grows a b xs → Grows b c ys → Grows a c (xs ++ ys)
grows_on None None c xs ys first then = then
grows_on None (Some b) c xs ys first then = absurd cc
grows_on (Some a) None None xs ys first then = tt
grows_on (Some a) None (Some c) xs ys first then = absurd cc
grows_on (Some a) (Some b) None xs ys first then = tt
grows_on (Some a) (Some b) (Some c) xs ys first then = then ∙ ap (λ zs. zs ++ ys) first ∙ append_assoc a xs ys

-- Nothing came before, and nothing behind.
pub grows_between : {E : Type 0} (a b c d : Option (List E)) (xs : List E) → b ≡ a → Grows b c xs → d ≡ c → Grows a d xs
grows_between a b c d xs before grows behind = subst (λ y. Grows a y xs) (sym behind) (subst (λ x. Grows x c xs) before grows)

-- A spawner that was asked for nothing tells so.
pub unasked_tells : (told : Option (List Act)) → ForSome told (λ acts. length acts ≡ 0) → Tells told []
unasked_tells None so = tt
unasked_tells (Some []) so = refl
unasked_tells (Some (a ∷ acts)) so = let none = so (a ∷ acts) refl in absurd (omega (arith, none))
