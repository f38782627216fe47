-- Each entry of a trace has its stamp.
use Rattle.sl_run_law.specs.Course.CallStamps.{IsStampOf, Pairwise, stamp_in}
use Rattle.sl_run.specs.Worlds.{Stamp}
use Rattle.sl_trace.specs.Traces.{Trace}
use Rattle.sl_trace.specs.declared.effects.Entry.{Entry}
use Rattle.std.proofs.Common.{ap, arith, refl, sym, tests, ◌∙◌}
use Rattle.std.specs.Prelude.{Bool, List, Option, Some, [], false, length, suc, true, ℕ, ◌++◌, ◌+◌, ◌<◌, ◌==◌, ◌∷◌, ◌≡◌}

-- ---- the stamp of an entry

same_test : (m n : ℕ) → m ≡ n → (m == n) ≡ true
same_test m n h = grind (arith, tests)

other_test : (m n : ℕ) → m < n → (m == n) ≡ false
other_test m n h = grind (arith, tests)

length_parts : {A : Type 0} (xs ys : List A) → length (xs ++ ys) ≡ length xs + length ys
length_parts [] ys = let e : length ys ≡ 0 + length ys = omega arith in e
length_parts (x ∷ xs) ys = let rest = length_parts xs ys in omega (arith, rest)

pub long_as : {A B : Type 0} (R : A → B → Type 0) (xs : List A) (ys : List B) → Pairwise R xs ys → length xs ≡ length ys
long_as R [] [] h = refl
long_as R [] (y ∷ ys) h = absurd h
long_as R (x ∷ xs) [] h = absurd h
long_as R (x ∷ xs) (y ∷ ys) h = ap (λ n. suc n) (long_as R xs ys h.1)

within : (l p s : ℕ) → s ≡ l + suc p → p < s
within l p s e = omega (arith, e)

abbrev stamp_or : Bool → Stamp → List Stamp → ℕ → Option Stamp
stamp_or b s ss i = elim b as (λ z. Option Stamp) [ true ↦ Some s | false ↦ stamp_in ss i ]

pub stamp_at : (later : Trace) (e : Entry) (past : Trace) (ss : List Stamp) → Pairwise IsStampOf ss (later ++ e ∷ past) → (s : Stamp) × (stamp_in ss (length past) ≡ Some s)
stamp_at [] e past [] h = absurd h
stamp_at [] e past (s ∷ ss) h =
    (s, ap (λ b. stamp_or b s ss (length past)) (same_test (length past) (length ss) (sym (long_as IsStampOf ss past h.1))))
stamp_at (y ∷ later) e past [] h = absurd h
stamp_at (y ∷ later) e past (s ∷ ss) h =
    let r = stamp_at later e past ss h.1 in
    let long = long_as IsStampOf ss (later ++ e ∷ past) h.1 ∙ length_parts later (e ∷ past) in
    (r.0, ap (λ b. stamp_or b s ss (length past)) (other_test (length past) (length ss) (within (length later) (length past) (length ss) long)) ∙ r.1)
