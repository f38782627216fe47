-- What is in lists that are changed, made longer or searched.
use Rattle.sl_run_law.proofs.Course.Daemons.{every_has}
use Rattle.sl_words.proofs.Lists.{contains_cases, contains_first, contains_more, contains_none}
use Rattle.sl_words.proofs.Numbers.{number_turned}
use Rattle.sl_run.specs.EventChanges.{new_course}
use Rattle.sl_run.specs.Worlds.{Course, Stamp}
use Rattle.sl_run_law.specs.FatesStay.{AreDistinct, Every}
use Rattle.sl_trace.specs.declared.effects.Call.{Call}
use Rattle.std.proofs.Common.{arith, inl, inr, subst, sym, ◌∙◌}
use Rattle.std.proofs.lemmas.List.Elements.{All-contains_itself, All-weaker}
use Rattle.std.proofs.lemmas.List.Kept.{AllPairs-cons}
use Rattle.std.specs.Prelude.{AllPairs, Contains, List, fold, true, [], ℕ, ◌==◌, ◌∷◌, ◌≡◌, ◌⊎◌}

-- ---- changed lists

-- ---- calls that are made

-- The calls with those that a step submits.
abbrev pub made_calls : Stamp → ℕ → List Course → List Call → List Course
made_calls now n cs calls = fold (λ xs c. new_course now n c ∷ xs) cs calls

pub stays_made : (now : Stamp) (n : ℕ) (calls : List Call) (cs : List Course) (d : Course) → Contains cs d → Contains (made_calls now n cs calls) d
stays_made now n [] cs d h = h
stays_made now n (c ∷ calls) cs d h = stays_made now n calls (new_course now n c ∷ cs) d (contains_more (new_course now n c) cs d h)

-- A call is one of these, or new.
abbrev pub OldOrMade : Stamp → ℕ → List Course → List Call → Course → Type 0
OldOrMade now n cs calls d = Contains cs d ⊎ ((c : Call) × Contains calls c × (new_course now n c ≡ d))

first_made : (now : Stamp) (n : ℕ) (c : Call) (calls : List Call) (cs : List Course) (d : Course)
    → (new_course now n c ≡ d) ⊎ Contains cs d → OldOrMade now n cs (c ∷ calls) d
first_made now n c calls cs d (inl e) = inr (c, contains_first c calls, e)
first_made now n c calls cs d (inr h) = inl h

rest_made : (now : Stamp) (n : ℕ) (c : Call) (calls : List Call) (cs : List Course) (d : Course)
    → OldOrMade now n (new_course now n c ∷ cs) calls d → OldOrMade now n cs (c ∷ calls) d
rest_made now n c calls cs d (inl h) = first_made now n c calls cs d (contains_cases (new_course now n c) cs d h)
rest_made now n c calls cs d (inr r) = inr (r.0, contains_more c calls r.0 r.1, r.2)

pub old_or_made : (now : Stamp) (n : ℕ) (calls : List Call) (cs : List Course) (d : Course) → Contains (made_calls now n cs calls) d
    → OldOrMade now n cs calls d
old_or_made now n [] cs d h = inl h
old_or_made now n (c ∷ calls) cs d h = rest_made now n c calls cs d (old_or_made now n calls (new_course now n c ∷ cs) d h)

-- ---- what is found

-- ---- distinct calls

one_of : (c : Course) (cs : List Course) (x y : Course) → Every (λ d. (d.call.number == c.call.number) ≡ true → ⊥) cs
    → (Contains cs x → Contains cs y → x ≡ y) → (x.call.number == y.call.number) ≡ true → (c ≡ x) ⊎ Contains cs x → (c ≡ y) ⊎ Contains cs y → x ≡ y
one_of c cs x y apart rest same (inl p) (inl q) = sym p ∙ q
one_of c cs x y apart rest same (inl p) (inr q) =
    absurd (every_has (λ d. (d.call.number == c.call.number) ≡ true → ⊥) cs y apart q
    (subst (λ (z : Course). (y.call.number == z.call.number) ≡ true) (sym p) (number_turned x.call.number y.call.number same)))
one_of c cs x y apart rest same (inr p) (inl q) =
    absurd (every_has (λ d. (d.call.number == c.call.number) ≡ true → ⊥) cs x apart p
    (subst (λ (z : Course). (x.call.number == z.call.number) ≡ true) (sym q) same))
one_of c cs x y apart rest same (inr p) (inr q) = rest p q

-- Of distinct calls one has the number.
pub one_call : (cs : List Course) (x y : Course) → AreDistinct cs → Contains cs x → Contains cs y → (x.call.number == y.call.number) ≡ true → x ≡ y
one_call [] x y d p q same = absurd (contains_none x p)
one_call (c ∷ cs) x y d p q same =
    one_of c cs x y d.0 (λ r s. one_call cs x y d.1 r s same) same (contains_cases c cs x p) (contains_cases c cs y q)

-- ---- pairs

pub pairs_none : {A : Type 0} (R : A → A → Type 0) → AllPairs R []
pairs_none R i j d less inside = absurd (omega (arith, less, inside))

pub pairs_more : {A : Type 0} (R : A → A → Type 0) (x : A) (xs : List A) → ((y : A) → Contains xs y → R x y) → AllPairs R xs → AllPairs R (x ∷ xs)
pairs_more R x xs h rest = AllPairs-cons R x xs (All-weaker (Contains xs) (R x) h xs (All-contains_itself xs)) rest
