-- At the step at which a write is answered ok nothing lands: so what stood in the sectors before stands there.
use Rattle.sl_ballot_law.proofs.PairLogs.RegistersAreRead.{pairs_have_blocks}
use Rattle.sl_ballot_law.specs.PairLogs.Logs.{At_first, IsLog, Left, Log, NoLanding, SectorAt}
use Rattle.sl_ballot_law.specs.Pairs.State.{Stored, later}
use Rattle.sl_words.proofs.CaseLaws.{one_value}
use Rattle.sl_words.proofs.OrderLaws.{less_or_same}
use Rattle.std.proofs.Common.{ap, arith, inl, inr, subst, ◌∙◌}
use Rattle.std.proofs.lemmas.Bool.{cases_lt}
use Rattle.std.specs.Prelude.{Bool, Option, Some, false, true, ℕ, ◌+◌, ◌<◌, ◌≡◌, ◌≤◌, ◌⊎◌}

not_less : (a b : ℕ) → a < b → b ≤ a → ⊥
not_less a b h k = omega (arith, h, k)

around : (a b c : ℕ) → a ≤ b → b ≤ c → c < a → ⊥
around a b c h k l = omega (arith, h, k, l)

back_up : (a b c : ℕ) → a < b → b ≤ c → c < a → ⊥
back_up a b c h k l = omega (arith, h, k, l)

none_below : (a b : ℕ) → a < b → b ≡ 0 → ⊥
none_below a b h e = omega (arith, h, e)

-- A write that was submitted after it.
no_later : (g : Log) → IsLog g → (e n a : ℕ) → g.writes e ≡ true → g.done e ≡ true → g.answered e ≡ Some a → g.writes n ≡ true → g.landed n ≡ Some a → e < n → ⊥
no_later g i e n a is done told other landed less = by (i.follows e n is other less)
  where
    by : ((g.session e ≡ g.session n) × ((b : ℕ) × (g.answered e ≡ Some b) × (b ≤ n))) ⊎ (g.session e < g.session n) → ⊥
    by (inl same) =
        not_less n a (i.lands_later n a other landed) (subst (λ b. b ≤ n) (one_value same.1.0 a (g.answered e) same.1.1 told) same.1.2)
    by (inr after) = elim (i.joined n other) [
      | inl none ↦ none_below (g.session e) (g.session n) after none
      | inr joins ↦ around a (g.session n) n (i.settled e (g.session n) a is joins after done told) (i.after_join n other) (i.lands_later n a other landed)
    ]

-- One that was submitted before it.
no_earlier : (g : Log) → IsLog g → (e n a : ℕ) → g.writes e ≡ true → g.answered e ≡ Some a → g.writes n ≡ true → g.landed n ≡ Some a → n < e → ⊥
no_earlier g i e n a is told other landed less = by (i.follows n e other is less)
  where
    by : ((g.session n ≡ g.session e) × ((b : ℕ) × (g.answered n ≡ Some b) × (b ≤ e))) ⊎ (g.session n < g.session e) → ⊥
    by (inl same) = back_up a same.1.0 e (i.lands_before n a same.1.0 other landed same.1.1) same.1.2 (i.answers_later e a is told)
    by (inr before) = elim (i.joined e is) [
      | inl none ↦ none_below (g.session n) (g.session e) before none
      | inr joins ↦ back_up a (g.session e) e (i.gone n (g.session e) a other joins before landed) (i.after_join e is) (i.answers_later e a is told)
    ]

pub nothing_lands : (g : Log) → IsLog g → (e a : ℕ) → g.writes e ≡ true → g.done e ≡ true → g.answered e ≡ Some a → (n : ℕ) → g.writes n ≡ true → g.landed n ≡ Some a → ⊥
nothing_lands g i e a is done told n other landed = elim (cases_lt e n) [
  | inl less ↦ no_later g i e n a is done told other landed less
  | inr up ↦ elim (less_or_same n e up) [
    | inl less ↦ no_earlier g i e n a is told other landed less
    | inr same ↦ not_less a a (i.lands_before e a a is (subst (λ m. g.landed m ≡ Some a) same landed) told) (omega arith)
  ]
]

none_still : (g : Log) → IsLog g → (first : Bool) (e t a s : ℕ) → g.writes e ≡ true → g.done e ≡ true → g.answered e ≡ Some a → a ≡ t + 1 → NoLanding g first s t → NoLanding g first s a
none_still g i first e t a s is done told next none n u write landed late low = elim (cases_lt t u) [
  | inl above ↦
      let at : u ≡ a = omega (arith, low, above, next) in
      nothing_lands g i e a is done told n write.is (landed ∙ ap (λ m. Some m) at)
  | inr by ↦ none n u write landed late by
]

up_one : (s t a : ℕ) → s ≤ t → a ≡ t + 1 → s ≤ a
up_one s t a h e = omega (arith, h, e)

pub still_at : (g : Log) → IsLog g → (first : Bool) (e t a : ℕ) (o : Option Stored) → g.writes e ≡ true → g.done e ≡ true → g.answered e ≡ Some a → a ≡ t + 1 → SectorAt g first t o
    → SectorAt g first a o
still_at g i first e t a o is done told next (At_first none at) = At_first (none_still g i first e t a 0 is done told next none) at
still_at g i first e t a o is done told next (Left n s write landed low none at) =
    Left n s write landed (up_one s t a low next) (none_still g i first e t a s is done told next none) at

-- So what stands between two steps is no older than what was answered ok by the next.
pub stays : (g : Log) → IsLog g → (e t a : ℕ) → g.writes e ≡ true → g.done e ≡ true → g.answered e ≡ Some a → a ≤ t + 1 → (p q : Option Stored) → SectorAt g true t p → SectorAt g false t q
    → (x : Stored) × (later p q ≡ Some x) × (e ≤ x.write)
stays g i e t a is done told low p q front back = elim (less_or_same a (t + 1) low) [
  | inl less ↦
      let k = pairs_have_blocks g i t p q front back in (k.block, k.stands, k.is.newest e a is done told (omega (arith, less)))
  | inr same ↦
      let k = pairs_have_blocks g i a p q (still_at g i true e t a p is done told same front) (still_at g i false e t a q is done told same back) in
      (k.block, k.stands, k.is.newest e a is done told (omega arith))
]
