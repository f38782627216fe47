-- Which session joined last.
use Rattle.sl_ballot_law.specs.PairLogs.Logs.{IsLog, Log, current_session}
use Rattle.sl_ballot_law.specs.PairLogs.Stands.{IsLeft}
use Rattle.sl_words.proofs.CaseLaws.{true_is_false, true_or_false}
use Rattle.sl_words.proofs.OrderLaws.{less_or_same}
use Rattle.std.proofs.Common.{ap, arith, inl, inr, refl, subst, sym, ◌∙◌}
use Rattle.std.specs.Prelude.{Bool, false, if◌then◌else◌, suc, true, zero, ℕ, ◌<◌, ◌≡◌, ◌≤◌, ◌⊎◌}

pub joined_now : (g : Log) (t : ℕ) → g.joins (suc t) ≡ true → current_session g (suc t) ≡ suc t
joined_now g t h = ap (λ (b : Bool). if b then suc t else current_session g t) h

pub joined_before : (g : Log) (t : ℕ) → g.joins (suc t) ≡ false → current_session g (suc t) ≡ current_session g t
joined_before g t h = ap (λ (b : Bool). if b then suc t else current_session g t) h

same_low : (k n : ℕ) → k ≡ n → k ≤ n
same_low k n e = omega (arith, e)

one_higher : (k m n : ℕ) → k ≡ m → m ≤ n → k ≤ suc n
one_higher k m n e h = omega (arith, e, h)

pub current_low : (g : Log) (t : ℕ) → current_session g t ≤ t
current_low g zero = omega arith
current_low g (suc t) = by (current_low g t) (true_or_false (g.joins (suc t)))
  where
    by : current_session g t ≤ t → (g.joins (suc t) ≡ true) ⊎ (g.joins (suc t) ≡ false) → current_session g (suc t) ≤ suc t
    by rest (inl h) = same_low (current_session g (suc t)) (suc t) (joined_now g t h)
    by rest (inr h) = one_higher (current_session g (suc t)) (current_session g t) t (joined_before g t h) rest

-- It joined, or is the one of step 0.
pub current_joins : (g : Log) (t : ℕ) → (current_session g t ≡ 0) ⊎ (g.joins (current_session g t) ≡ true)
current_joins g zero = inl refl
current_joins g (suc t) = by (current_joins g t) (true_or_false (g.joins (suc t)))
  where
    by : (current_session g t ≡ 0) ⊎ (g.joins (current_session g t) ≡ true) → (g.joins (suc t) ≡ true) ⊎ (g.joins (suc t) ≡ false)
        → (current_session g (suc t) ≡ 0) ⊎ (g.joins (current_session g (suc t)) ≡ true)
    by rest (inl h) = inr (ap g.joins (joined_now g t h) ∙ h)
    by rest (inr h) = subst (λ (k : ℕ). (k ≡ 0) ⊎ (g.joins k ≡ true)) (sym (joined_before g t h)) rest

none_less : (j : ℕ) → j ≤ 0 → j ≤ 0
none_less j h = h

up_to_last : (j k n : ℕ) → k ≡ n → j ≤ n → j ≤ k
up_to_last j k n e h = omega (arith, e, h)

below_next : (j t : ℕ) → j < suc t → j ≤ t
below_next j t h = omega (arith, h)

-- .. and none that joined by then joined later.
pub current_most : (g : Log) (t j : ℕ) → g.joins j ≡ true → j ≤ t → j ≤ current_session g t
current_most g zero j joins low = low
current_most g (suc t) j joins low = by (λ below. current_most g t j joins below) (true_or_false (g.joins (suc t))) (less_or_same j (suc t) low)
  where
    by : (j ≤ t → j ≤ current_session g t) → (g.joins (suc t) ≡ true) ⊎ (g.joins (suc t) ≡ false) → (j < suc t) ⊎ (j ≡ suc t) → j ≤ current_session g (suc t)
    by rest (inl h) order = up_to_last j (current_session g (suc t)) (suc t) (joined_now g t h) low
    by rest (inr h) (inl less) = up_to_last j (current_session g (suc t)) (current_session g t) (joined_before g t h) (rest (below_next j t less))
    by rest (inr h) (inr same) = absurd (true_is_false (sym joins ∙ ap g.joins same ∙ h))

none_low : (k n : ℕ) → k ≡ 0 → k ≤ n
none_low k n e = omega (arith, e)

up_to : (a b c : ℕ) → a ≤ b → b ≤ c → a ≤ c
up_to a b c h k = omega (arith, h, k)

-- A write's session joined no later than the current one.
pub writers_low : (g : Log) → IsLog g → (t e : ℕ) → g.writes e ≡ true → e ≤ t → g.session e ≤ current_session g t
writers_low g i t e is low = by (i.joined e is)
  where
    by : (g.session e ≡ 0) ⊎ (g.joins (g.session e) ≡ true) → g.session e ≤ current_session g t
    by (inl none) = none_low (g.session e) (current_session g t) none
    by (inr joins) = current_most g t (g.session e) joins (up_to (g.session e) e t (i.after_join e is) low)

-- A session after which another joined is not the current one.
pub left_not_current : (g : Log) (t e : ℕ) → IsLeft g t e → g.session e ≡ current_session g t → ⊥
left_not_current g t e left mine =
    let most : left.join ≤ current_session g t = current_most g t left.join left.joins left.by in
    let later : g.session e < left.join = left.later in
    omega (arith, most, later, mine)
