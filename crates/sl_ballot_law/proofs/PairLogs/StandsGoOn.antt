-- What stands for a step stands for the next where nothing of it happens then.
use Rattle.sl_ballot_law.specs.PairLogs.Logs.{At_first, IsKnown, Left, Log, NoLanding, SectorAt, Shows, WritesTo, left_by}
use Rattle.sl_ballot_law.specs.PairLogs.Stands.{HasComeBy, IsFlying, IsLeft, IsWaiting}
use Rattle.sl_words.proofs.OrderLaws.{less_or_same}
use Rattle.sl_ballot_law.specs.Pairs.State.{Stored}
use Rattle.std.proofs.Common.{arith, inl, inr, subst}
use Rattle.std.specs.Prelude.{Bool, Option, Some, suc, true, ℕ, ◌<◌, ◌≡◌, ◌≤◌, ◌⊎◌}

up_one : (u t : ℕ) → u ≤ t → u ≤ suc t
up_one u t h = omega (arith, h)

before_or_now : (u t : ℕ) → u ≤ suc t → (u ≤ t) ⊎ (u ≡ suc t)
before_or_now u t h = elim (less_or_same u (suc t) h) [ inl less ↦ inl (omega (arith, less)) | inr same ↦ inr same ]

pub come_on : (o : Option ℕ) (t : ℕ) → HasComeBy o t → HasComeBy o (suc t)
come_on o t h = (h.0, h.1, up_one h.0 t h.2)

pub left_on : (g : Log) (t e : ℕ) → IsLeft g t e → IsLeft g (suc t) e
left_on g t e h = record { join = h.join; joins = h.joins; later = h.later; by = up_one h.join t h.by }

pub waited_on : (g : Log) (t e : ℕ) → HasComeBy (g.answered e) t ⊎ IsLeft g t e → HasComeBy (g.answered e) (suc t) ⊎ IsLeft g (suc t) e
waited_on g t e (inl come) = inl (come_on (g.answered e) t come)
waited_on g t e (inr left) = inr (left_on g t e left)

pub landed_on : (g : Log) (t e : ℕ) → HasComeBy (g.landed e) t ⊎ (HasComeBy (g.answered e) t ⊎ IsLeft g t e)
    → HasComeBy (g.landed e) (suc t) ⊎ (HasComeBy (g.answered e) (suc t) ⊎ IsLeft g (suc t) e)
landed_on g t e (inl come) = inl (come_on (g.landed e) t come)
landed_on g t e (inr more) = inr (waited_on g t e more)

-- What has not come by this step, and comes not at the next.
pub never_on : (o : Option ℕ) (t : ℕ) → ((u : ℕ) → o ≡ Some u → u ≤ t → ⊥) → (o ≡ Some (suc t) → ⊥) → (u : ℕ) → o ≡ Some u → u ≤ suc t → ⊥
never_on o t before now u is low = by (before_or_now u t low)
  where
    by : (u ≤ t) ⊎ (u ≡ suc t) → ⊥
    by (inl early) = before u is early
    by (inr same) = now (subst (λ (k : ℕ). o ≡ Some k) same is)

pub flying_on : (g : Log) (t s e : ℕ) → IsFlying g t s e → (g.landed e ≡ Some (suc t) → ⊥) → (g.answered e ≡ Some (suc t) → ⊥) → IsFlying g (suc t) s e
flying_on g t s e h unlanded unanswered =
    record {
      is = h.is;
      mine = h.mine;
      unlanded = never_on (g.landed e) t h.unlanded unlanded;
      unanswered = never_on (g.answered e) t h.unanswered unanswered;
    }

pub waiting_on : (g : Log) (t s e : ℕ) → IsWaiting g t s e → (g.answered e ≡ Some (suc t) → ⊥) → IsWaiting g (suc t) s e
waiting_on g t s e h unanswered = record { is = h.is; mine = h.mine; unanswered = never_on (g.answered e) t h.unanswered unanswered }

pub known_on : (g : Log) (session t turn : ℕ) → IsKnown g session t turn → ((u : ℕ) → Shows g session (suc t) u → ⊥) → IsKnown g session (suc t) turn
known_on g session t turn h none =
    record {
      at = h.at;
      by = up_one h.at t h.by;
      shows = h.shows;
      newest = λ b u shows late low. elim (before_or_now b t low) [
        | inl early ↦ h.newest b u shows late early
        | inr same ↦ none u (subst (λ (k : ℕ). Shows g session k u) same shows)
      ];
    }

pub unshown_on : (g : Log) (session t : ℕ) → ((b turn : ℕ) → Shows g session b turn → b ≤ t → ⊥) → ((u : ℕ) → Shows g session (suc t) u → ⊥)
    → (b turn : ℕ) → Shows g session b turn → b ≤ suc t → ⊥
unshown_on g session t before none b turn shows low = by (before_or_now b t low)
  where
    by : (b ≤ t) ⊎ (b ≡ suc t) → ⊥
    by (inl early) = before b turn shows early
    by (inr same) = none turn (subst (λ (k : ℕ). Shows g session k turn) same shows)

none_on : (g : Log) (first : Bool) (s t : ℕ) → NoLanding g first s t → ((e : ℕ) → WritesTo g first e → g.landed e ≡ Some (suc t) → ⊥) → NoLanding g first s (suc t)
none_on g first s t before none e u write landed late low = by (before_or_now u t low)
  where
    by : (u ≤ t) ⊎ (u ≡ suc t) → ⊥
    by (inl early) = before e u write landed late early
    by (inr same) = none e write (subst (λ (k : ℕ). g.landed e ≡ Some k) same landed)

pub sector_on : (g : Log) (first : Bool) (t : ℕ) (o : Option Stored) → SectorAt g first t o → ((e : ℕ) → WritesTo g first e → g.landed e ≡ Some (suc t) → ⊥)
    → SectorAt g first (suc t) o
sector_on g first t o (At_first before is) none = At_first (none_on g first 0 t before none) is
sector_on g first t o (Left e s write landed low newest is) none = Left e s write landed (up_one s t low) (none_on g first s t newest none) is

nothing_between : (s u : ℕ) → s < u → u ≤ s → ⊥
nothing_between s u h k = omega (arith, h, k)

pub sector_now : (g : Log) (first : Bool) (t e : ℕ) (o : Option Stored) → WritesTo g first e → g.landed e ≡ Some (suc t) → o ≡ left_by g e → SectorAt g first (suc t) o
sector_now g first t e o write landed is =
    Left e (suc t) write landed (omega arith) (λ f u writes there late low. nothing_between (suc t) u late low) is

pub oks_on : (g : Log) (t ok : ℕ) → ((e u : ℕ) → g.writes e ≡ true → g.done e ≡ true → g.answered e ≡ Some u → u ≤ t → e ≤ ok)
    → ((e : ℕ) → g.writes e ≡ true → g.done e ≡ true → g.answered e ≡ Some (suc t) → e ≤ ok)
    → (e u : ℕ) → g.writes e ≡ true → g.done e ≡ true → g.answered e ≡ Some u → u ≤ suc t → e ≤ ok
oks_on g t ok before now e u is done at low = by (before_or_now u t low)
  where
    by : (u ≤ t) ⊎ (u ≡ suc t) → e ≤ ok
    by (inl early) = before e u is done at early
    by (inr same) = now e is done (subst (λ (k : ℕ). g.answered e ≡ Some k) same at)

pub whole_on : (g : Log) (t e : ℕ) (flag : Bool) → (HasComeBy (g.landed e) t → g.whole e ≡ true → flag ≡ true) → (g.landed e ≡ Some (suc t) → g.whole e ≡ true → flag ≡ true)
    → HasComeBy (g.landed e) (suc t) → g.whole e ≡ true → flag ≡ true
whole_on g t e flag before now come whole = by (before_or_now come.0 t come.2)
  where
    by : (come.0 ≤ t) ⊎ (come.0 ≡ suc t) → flag ≡ true
    by (inl early) = before (come.0, come.1, early) whole
    by (inr same) = now (subst (λ (k : ℕ). g.landed e ≡ Some k) same come.1) whole
