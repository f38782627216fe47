-- Of a resource's history in which no block above n was ever answered ok: no block is of an instance above the next, and in that one nothing
-- is accepted.
use Rattle.sl_ballot_law.specs.Ballots.{BallotEnded, BeginReason, Begun, Freed_before, IsFoundBlock, IsLastWrite, IsLawful, LeaderSubmitted, Leads_itself, Lost_before, Mode_only, Never_led, Owner_over, Phase, Phase_1, Phase_2}
use Rattle.sl_ballot_law.specs.Disk.{Wrote}
use Rattle.sl_ballot_law.specs.History.{History, Owner}
use Rattle.sl_ballot_law.specs.Instances.{LeadersHaveWon}
use Rattle.sl_words.proofs.OrderLaws.{by_smaller}
use Rattle.std.proofs.Common.{ap, arith, inl, inr, subst, sym, ◌∙◌}
use Rattle.std.proofs.lemmas.Bool.{cases_lt}
use Rattle.std.specs.Prelude.{Bool, Some, true, ℕ, ◌+◌, ◌<◌, ◌≡◌, ◌≤◌, ◌⊎◌}

-- No block that was answered ok is of an instance above n.
abbrev pub OkAreLow : History → ℕ → Type 0
OkAreLow h n = (e a : ℕ) → h.writes e ≡ true → h.ok e ≡ Some a → (h.block e).lver ≤ n

-- ---- small numbers

none_above : (a n : ℕ) → a ≡ 0 → a ≤ n + 1
none_above a n is = omega (arith, is)

one_at_most : (a n : ℕ) → a ≡ 1 → a ≤ n + 1
one_at_most a n is = omega (arith, is)

below_next : (a n : ℕ) → a ≤ n → a ≤ n + 1
below_next a n low = omega (arith, low)

next_of_low : (m a n : ℕ) → m + 1 ≡ a → m ≤ n → a ≤ n + 1
next_of_low m a n is low = omega (arith, is, low)

same_low : (a b n : ℕ) → a ≡ b → b ≤ n → a ≤ n
same_low a b n is low = omega (arith, is, low)

before_both : (shown answer e : ℕ) → shown < answer → answer ≤ e → shown < e
before_both shown answer e a b = omega (arith, a, b)

never_next : (a n : ℕ) → a ≡ n + 1 → a ≤ n → ⊥
never_next a n is low = omega (arith, is, low)

under : (a b n : ℕ) → a ≡ 0 → b ≡ n + 1 → a < b
under a b n zeros is = omega (arith, zeros, is)

meets : (a b n : ℕ) → a ≤ n + 1 → b ≡ n + 1 → b ≤ a → a ≡ b
meets a b n low is most = omega (arith, low, is, most)

-- ---- what ended is low

ended_low : (h : History) (n : ℕ) → OkAreLow h n → (s v : Owner) (m t : ℕ) → BallotEnded h s m v t → m ≤ n
ended_low h n low s v m t b = subst (λ k. k ≤ n) b.lver (low b.write b.ack b.writes b.acked)

led_low : (h : History) (n : ℕ) → OkAreLow h n → LeadersHaveWon h → (l : ℕ) → h.leads l ≡ true → (h.leader l).lver ≤ n
led_low h n low won l leads = ended_low h n low (h.leader l).owner (h.leader l).owner (h.leader l).lver l (won l leads)

submitted_low : (h : History) (n : ℕ) → OkAreLow h n → LeadersHaveWon h → (m : ℕ) (s : Owner) (held : Bool) (t : ℕ) → LeaderSubmitted h m s held t → m ≤ n
submitted_low h n low won m s held t l = subst (λ k. k ≤ n) l.lver (led_low h n low won l.step l.leads)

-- ---- own blocks

-- The own block of a write is the block of before all, or an earlier write.
abbrev Based : History → ℕ → Type 0
Based h e = (h.base e ≡ 0) ⊎ ((h.base e < e) × (h.writes (h.base e) ≡ true))

based : (h : History) → IsLawful h → (e : ℕ) → h.writes e ≡ true → Based h e
based h w e writes = by (w.ballots.base e writes) where
  found : (f : IsFoundBlock h e) → (h.shown f.read (h.writer e).id ≡ 0) ⊎ Wrote h (h.writer e).id (h.shown f.read (h.writer e).id) → Based h e
  found f (inl first) = inl (sym f.shown ∙ first)
  found f (inr old) =
      inr (
        subst (λ k. k < e) f.shown (before_both (h.shown f.read (h.writer e).id) (h.answer f.read) e (w.register.earlier f.read (h.writer e).id f.reads f.whole) f.before),
        subst (λ k. h.writes k ≡ true) f.shown old.is,
      )

  by : IsLastWrite h e ⊎ IsFoundBlock h e → Based h e
  by (inl last) = inr (last.before, last.writes)
  by (inr f) = found f (w.register.submitted f.read (h.writer e).id f.reads f.whole)

-- ---- no block is above the next instance

abbrev IsLowAt : History → ℕ → ℕ → Type 0
IsLowAt h n e = h.writes e ≡ true → (h.block e).lver ≤ n + 1

base_low : (h : History) (n : ℕ) → IsLawful h → (e : ℕ) → h.writes e ≡ true → ((k : ℕ) → k < e → IsLowAt h n k) → (h.block (h.base e)).lver ≤ n + 1
base_low h n w e writes before = by (based h w e writes) where
  by : Based h e → (h.block (h.base e)).lver ≤ n + 1
  by (inl first) = none_above (h.block (h.base e)).lver n (ap (λ k. (h.block k).lver) first ∙ w.register.zeros.0)
  by (inr old) = before (h.base e) old.0 old.1

begins_low : (h : History) (n : ℕ) → OkAreLow h n → LeadersHaveWon h → (s : Owner) (m e : ℕ) → ((k : ℕ) → k < e → IsLowAt h n k) → BeginReason h s m e → m ≤ n + 1
begins_low h n low won s m e before (Begun d writes early is) = subst (λ k. k ≤ n + 1) is (before d early writes)
begins_low h n low won s m e before (Never_led is) = one_at_most m n is
begins_low h n low won s m e before (Freed_before v k is led) = next_of_low k m n is (submitted_low h n low won k v _ e led)
begins_low h n low won s m e before (Owner_over v k t is led over early) = next_of_low k m n is (submitted_low h n low won k v _ e led)
begins_low h n low won s m e before (Leads_itself led) = below_next m n (submitted_low h n low won m s _ e led)
begins_low h n low won s m e before (Lost_before v k t is ended over early) = next_of_low k m n is (ended_low h n low s v k e ended)

pub blocks_are_low : (h : History) (n : ℕ) → IsLawful h → LeadersHaveWon h → OkAreLow h n → (e : ℕ) → h.writes e ≡ true → (h.block e).lver ≤ n + 1
blocks_are_low h n w won low = by_smaller (IsLowAt h n) step where
  step : (e : ℕ) → ((k : ℕ) → k < e → IsLowAt h n k) → IsLowAt h n e
  step e before writes = by (w.ballots.phase e writes) where
    by : Phase h e → (h.block e).lver ≤ n + 1
    by (Phase_1 opens) = begins_low h n low won (h.writer e) (h.block e).lver e before opens.reason
    by (Phase_2 two) = same_low (h.block e).lver (h.block (h.base e)).lver (n + 1) two.lver (base_low h n w e writes before)
    by (Mode_only mode) = same_low (h.block e).lver (h.block (h.base e)).lver (n + 1) mode.lver (base_low h n w e writes before)

-- ---- and nothing is accepted in it

abbrev IsFreshAt : History → ℕ → ℕ → Type 0
IsFreshAt h n e = h.writes e ≡ true → (h.block e).lver ≡ n + 1 → (h.block e).bal ≡ 0

pub none_is_accepted : (h : History) (n : ℕ) → IsLawful h → LeadersHaveWon h → OkAreLow h n → (e : ℕ) → h.writes e ≡ true → (h.block e).lver ≡ n + 1 → (h.block e).bal ≡ 0
none_is_accepted h n w won low = by_smaller (IsFreshAt h n) step where
  step : (e : ℕ) → ((k : ℕ) → k < e → IsFreshAt h n k) → IsFreshAt h n e
  step e before writes is = by (w.ballots.phase e writes) (based h w e writes) where
    base_most : (h.block (h.base e)).lver ≤ n + 1
    base_most = base_low h n w e writes (λ k early k_writes. blocks_are_low h n w won low k k_writes)

    first : h.base e ≡ 0 → (h.block (h.base e)).lver ≡ 0
    first zeros = ap (λ k. (h.block k).lver) zeros ∙ w.register.zeros.0

    by : Phase h e → Based h e → (h.block e).bal ≡ 0
    by (Phase_1 opens) from = apart from (cases_lt (h.block (h.base e)).lver (h.block e).lver) where
      apart : Based h e → ((h.block (h.base e)).lver < (h.block e).lver) ⊎ ((h.block e).lver ≤ (h.block (h.base e)).lver) → (h.block e).bal ≡ 0
      apart start (inl less) = opens.one.anew less
      apart (inl zeros) (inr most) = opens.one.anew (under (h.block (h.base e)).lver (h.block e).lver n (first zeros) is)
      apart (inr old) (inr most) =
          let same = meets (h.block (h.base e)).lver (h.block e).lver n base_most is most in opens.one.bal same ∙ before (h.base e) old.0 old.1 (same ∙ is)
    by (Phase_2 two) from = absurd (never_next (h.block (h.base e)).lver n (sym two.lver ∙ is) (low (h.base e) two.ack two.last.writes two.acked))
    by (Mode_only mode) (inl zeros) = absurd (never_next (h.block (h.base e)).lver n (sym mode.lver ∙ is) (most_zero (h.block (h.base e)).lver n (first zeros))) where
      most_zero : (a n : ℕ) → a ≡ 0 → a ≤ n
      most_zero a n none = omega (arith, none)
    by (Mode_only mode) (inr old) = mode.bal ∙ before (h.base e) old.0 old.1 (sym mode.lver ∙ is)

-- ---- nor has a leader above n been written

pub leaders_are_low : (h : History) (n : ℕ) → LeadersHaveWon h → OkAreLow h n → (l : ℕ) → h.leads l ≡ true → (h.leader l).lver ≤ n
leaders_are_low h n won low l leads = led_low h n low won l leads
