-- The least of many moments, one after another.
use Rattle.sl_host_passes.specs.NextMoment.{found_moments, least_by, next_moment}
use Rattle.sl_host_state.specs.HeardInputs.{quiet_to}
use Rattle.sl_host_state.specs.KeptState.{HostState}
use Rattle.sl_host_state.specs.HostStands.{IsQuiet, job_moments, member_moments, moments_of}
use Rattle.sl_host_state.specs.declared.kept_parts.JobState.{JobState}
use Rattle.sl_host_work.proofs.ListPasses.{drop_all, drop_next}
use Rattle.sl_member.specs.HostMembers.{AreApart}
use Rattle.sl_words.proofs.Lists.{contains_cases, contains_none, got_inside}
use Rattle.std.proofs.Common.{ap, arith, inl, inr, refl, sym, ◌∙◌}
use Rattle.std.proofs.lemmas.List.Sums.{fold-append}
use Rattle.std.specs.List.{AllByRecursion}
use Rattle.std.specs.Prelude.{Contains, List, Some, cond, drop, false, find, flat_map, length, map, min, slice_get, true, [], ℕ, ◌++◌, ◌+◌, ◌-◌, ◌==◌, ◌^◌, ◌∷◌, ◌≡◌, ◌≤◌}

-- ---- a pass

pub least_next : {A : Type 0} (f : A → List ℕ) (xs : List A) (k : ℕ) (x : A) (q r : ℕ) → slice_get xs k ≡ Some x → r ≡ least_by q (f x)
    → least_by q (flat_map f (drop k xs)) ≡ least_by r (flat_map f (drop (k + 1) xs))
least_next f xs k x q r at is =
    ap (λ zs. least_by q (flat_map f zs)) (drop_next xs k x at)
    ∙ (fold-append (λ p t. min p t) q (f x) (flat_map f (drop (k + 1) xs))
    ∙ ap (λ p. least_by p (flat_map f (drop (k + 1) xs))) (sym is))

pub least_end : {A : Type 0} (f : A → List ℕ) (xs : List A) (q : ℕ) → least_by q (flat_map f (drop (length xs) xs)) ≡ q
least_end f xs q = ap (λ zs. least_by q (flat_map f zs)) (drop_all xs)

-- ---- jobs by their numbers

abbrev looked_up : HostState → List JobState → ℕ → List ℕ
looked_up h js n = found_moments h (find (λ j. j.number == n) js)

-- A later job is found behind one of another number.
passed : (h : HostState) (j : JobState) (js : List JobState) (ns : List ℕ) → AllByRecursion (λ k. (j.number == k) ≡ false) ns → flat_map (looked_up h (j ∷ js)) ns ≡ flat_map (looked_up h js) ns
passed h j js [] apart = refl
passed h j js (n ∷ ns) apart =
    ap (λ b. found_moments h (cond b (Some j) (find (λ (k : JobState). k.number == n) js)) ++ flat_map (looked_up h (j ∷ js)) ns) apart.0
    ∙ ap (λ ts. looked_up h js n ++ ts) (passed h j js ns apart.1)

itself : (n : ℕ) → (n == n) ≡ true
itself n = grind arith

pub all_looked_up : (h : HostState) (js : List JobState) → AreApart (map (λ j. j.number) js) → flat_map (looked_up h js) (map (λ j. j.number) js) ≡ flat_map (job_moments h) js
all_looked_up h [] apart = refl
all_looked_up h (j ∷ js) apart =
    ap (λ b. found_moments h (cond b (Some j) (find (λ (k : JobState). k.number == j.number) js)) ++ flat_map (looked_up h (j ∷ js)) (map (λ (k : JobState). k.number) js)) (itself j.number)
    ∙ ap (λ ts. job_moments h j ++ ts) (passed h j js (map (λ (k : JobState). k.number) js) apart.0 ∙ all_looked_up h js apart.1)

-- ---- the whole

pub least_all : (h : HostState) → least_by (least_by (2 ^ 64 - 1) (flat_map (member_moments h) h.members)) (flat_map (job_moments h) h.jobs) ≡ next_moment h
least_all h = sym (fold-append (λ p t. min p t) (2 ^ 64 - 1) (flat_map (member_moments h) h.members) (flat_map (job_moments h) h.jobs))

least_first : (q : ℕ) (ts : List ℕ) → least_by q ts ≤ q
least_first q [] = omega arith
least_first q (t ∷ ts) = let rest : least_by (min q t) ts ≤ min q t = least_first (min q t) ts in omega (arith, rest)

least_each : (q : ℕ) (ts : List ℕ) (t : ℕ) → Contains ts t → least_by q ts ≤ t
least_each q [] t there = absurd (contains_none t there)
least_each q (s ∷ ts) t there =
    elim (contains_cases s ts t there) [
      | inl is ↦ (let rest : least_by (min q s) ts ≤ min q s = least_first (min q s) ts in omega (arith, rest, is))
      | inr later ↦ least_each (min q s) ts t later
    ]

pub is_calm : (h : HostState) → IsQuiet (quiet_to (next_moment h) h)
is_calm h k now at = least_each (2 ^ 64 - 1) (moments_of h) now (got_inside (moments_of h) k now at)
