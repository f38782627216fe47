-- The first machine with an ask that is due.
use Rattle.sl_world_state.specs.ShownWorlds.{shown}
use Rattle.sl_machine.specs.KeptParts.{kept_state}
use Rattle.sl_machine.specs.Machines.{machine_state}
use Rattle.sl_machine.specs.declared.kept_world.Kept.{Kept}
use Rattle.sl_machine.specs.declared.machine.Machine.{Machine}
use Rattle.sl_run.specs.Locks.{Locks}
use Rattle.sl_run.specs.declared.header.Header.{Header}
use Rattle.sl_text.specs.Forms.{Form}
use Rattle.sl_trace.specs.Traces.{Setting, Trace}
use Rattle.sl_trace.specs.declared.command.Command.{Command}
use Rattle.sl_world.specs.AllowedEvents.{StandsForSome}
use Rattle.sl_world_law.specs.ToldEvents.{asking_in}
use Rattle.sl_words.proofs.CaseLaws.{some_value}
use Rattle.std.proofs.Common.{Bool, List, None, Option, Some, [], ap, arith, cond, false, length, map, not, refl, sym, true, ℕ, ◌+◌, ◌<◌, ◌∙◌, ◌∷◌, ◌≡◌, ◌≤◌}
use Rattle.std.proofs.lemmas.Bool.Decides.{nat_tests}
use Rattle.std.proofs.lemmas.List.{length-map}
use Rattle.std.specs.List.{enumerate_from, find, position, position_or_len, prefix_len}
use Rattle.std.specs.Option.{option_map}
use Rattle.std.specs.Prelude.{is_some, nat_lt}

-- ---- places

-- What is found there, told otherwise.
told_so : {A B : Type 0} (f : A → B) (t : Bool) (x : A) → option_map f (cond t (Some x) None) ≡ cond t (Some (f x)) None
told_so f true x = refl
told_so f false x = refl

-- The first place.
first_place : (t : Bool) (n : ℕ) → t ≡ true → Some n ≡ option_map (λ i. i + n) (cond t (Some 0) None)
first_place true n is = ap (λ k. Some k) (omega arith)
first_place false n is = absurd cc

-- One place further.
later_place : (t s : Bool) (at n : ℕ) → t ≡ s → option_map (λ i. i + (n + 1)) (cond t (Some at) None) ≡ option_map (λ i. i + n) (cond s (Some (1 + at)) None)
later_place true true at n is = ap (λ k. Some k) (omega arith)
later_place true false at n is = absurd cc
later_place false true at n is = absurd cc
later_place false false at n is = refl

some_place : {A : Type 0} (x : A) (xs : List A) → nat_lt 0 (length (x ∷ xs)) ≡ true
some_place x xs = grind (arith, nat_tests)

place_later : {A : Type 0} (at : ℕ) (x : A) (xs : List A) → nat_lt at (length xs) ≡ nat_lt (1 + at) (length (x ∷ xs))
place_later at x xs = grind (arith, nat_tests)

-- The number of the first that passes.
found_from : {A B : Type 0} (f : A → B) (p : B → Bool) (n : ℕ) (xs : List A)
    → option_map (λ q. q.0) (find (λ (q : ℕ × B). p q.1) (enumerate_from n (map f xs))) ≡ option_map (λ i. i + n) (position (λ x. p (f x)) xs)
found_from f p n [] = refl
found_from {A} {B} f p n (x ∷ xs) =
    elim (p (f x)) as (λ t. option_map (λ q. q.0) (cond t (Some (n, f x)) (find (λ (q : ℕ × B). p q.1) (enumerate_from (n + 1) (map f xs))))
    ≡ option_map (λ i. i + n) (cond (nat_lt (cond (not t) (1 + prefix_len (λ y. not (p (f y))) xs) 0) (length (x ∷ xs))) (Some (cond (not t) (1 + prefix_len (λ y. not (p (f y))) xs) 0)) None)) [
      | true ↦ first_place (nat_lt 0 (length (x ∷ xs))) n (some_place x xs)
      | false ↦ found_from f p (n + 1) xs ∙ later_place (nat_lt (position_or_len (λ y. p (f y)) xs) (length xs)) (nat_lt (1 + position_or_len (λ y. p (f y)) xs) (length (x ∷ xs)))
          (position_or_len (λ y. p (f y)) xs) n (place_later (position_or_len (λ y. p (f y)) xs) x xs)
    ]

-- A place is one of the list.
pub place_within : {A : Type 0} (p : A → Bool) (xs : List A) (i : ℕ) → position p xs ≡ Some i → i < length xs
place_within p xs i is = within (nat_lt (position_or_len p xs) (length xs)) (position_or_len p xs) i (length xs) refl is
  where
    within : (t : Bool) (at i len : ℕ) → t ≡ nat_lt at len → cond t (Some at) None ≡ Some i → i < len
    within true at i len is same = let lt : at ≡ i = some_value at i same in grind (arith, nat_tests)
    within false at i len is same = absurd cc

-- ---- machines

pub first_due : {L : Type 0} (locks : L → Locks) (k : Kept L) (machines : List (Machine L)) → machines ≡ k.machines.items
    → option_map (λ i. i + 1) (position (λ (a : Machine L). is_some (locks a.locks).due) machines) ≡ asking_in (kept_state locks k)
unfolding kept_state machine_state
first_due {L} locks k machines same =
    ap (λ ms. option_map (λ i. i + 1) (position (λ (a : Machine L). is_some (locks a.locks).due) ms)) same
    ∙ sym (found_from (machine_state locks) (λ s. is_some s.locks.due) 1 k.machines.items)

pub few_machines : {D L : Type 0} (locks : L → Locks) (commands : Header → List (Form Command)) (stands : D → Setting → Trace → Type 0) (k : Kept L) (hosts : List (Option D))
    (machines : List (Machine L)) → machines ≡ k.machines.items → StandsForSome commands stands (kept_state locks k) hosts → length machines ≤ 16
unfolding kept_state
few_machines locks commands stands k hosts machines same s =
    let told : length (map (machine_state locks) k.machines.items) ≡ length s.world.machines = ap length (sym s.stands_for.tells.machines) ∙ length-map s.world.machines (shown s.world.header) in
    omega (arith, ap length same, sym (length-map k.machines.items (machine_state locks)) ∙ told, s.stands_for.sane.counted, s.stands_for.sane.header.machines.1)
