-- What a step does to each sector, and what follows for the moments of a run.
use Rattle.sl_ballot_law.proofs.Pairs.StepLaws.{Base_stands, Other_stands, Top, base_kept, each_moment, landing_kept, other_new, tearing_kept, top}
use Rattle.sl_ballot_law.specs.Pairs.Invariant.{Invariant, base_sector, other_sector}
use Rattle.sl_ballot_law.specs.Pairs.State.{State, Stored, current, is_first}
use Rattle.sl_ballot_law.specs.Pairs.Steps.{Answers_failed, Answers_ok, Begins, Drops, IsRun, Lands, Looks, Stays, Step, Submits, Tears, after_landing, after_tearing, newest}
use Rattle.sl_ballot_law.specs.Pairs.Theorems.{BlockChange, BlockChanges, Fallen_back, Replaced, Unchanged}
use Rattle.sl_words.proofs.CaseLaws.{none_some, one_value, some_value}
use Rattle.std.proofs.Common.{Bool, None, Option, Some, ap, arith, false, inl, inr, refl, subst, suc, sym, true, zero, ℕ, ◌+◌, ◌∙◌, ◌≡◌, ◌≤◌, ◌⊎◌}
use Rattle.std.proofs.lemmas.Bool.{cases_lt}
use Rattle.std.specs.Prelude.{if◌then◌else◌}

-- ---- induction on moments

-- What holds at a moment and is kept by the next, holds from it on.
pub from_on : (P : ℕ → Type 0) (a : ℕ) → P a → ((m : ℕ) → a ≤ m → P m → P (m + 1)) → (m : ℕ) → a ≤ m → P m
from_on P a p step zero l = subst P (let e : a ≡ 0 = omega arith in e) p
from_on P a p step (suc m) l = elim (cases_lt m a) [
  | inl lt ↦ subst P (let e : a ≡ suc m = omega arith in e) p
  | inr ge ↦ subst P (let e : m + 1 ≡ suc m = omega arith in e) (step m ge (from_on P a p step m ge))
]

-- ---- a sector in a step

-- It stays, is torn, or takes the newest block, which is then the pair's.
pub data Moves (w v : State) (before after : Option Stored) : Type 0 where
  Same : after ≡ before → Moves w v before after
  Torn : after ≡ None → Moves w v before after
  New : (x : Stored) → after ≡ Some x → current v ≡ Some x → x.turn ≡ w.known + 1 → Moves w v before after

newest_top : (w : State) (x : Stored) (known ok : ℕ) (base : Stored) (other now : Option Stored) → other ≡ Some x → x.turn ≡ known + 1
    → Top known ok base other now → now ≡ Some x
newest_top w x known ok base other now o t (Base_stands e low) = let less = low x o in absurd (omega (arith, less, t))
newest_top w x known ok base other now o t (Other_stands y s u l e) = e ∙ sym s ∙ o

-- A block that has landed whole is the pair's.
landed_top : (w : State) → Invariant w → w.flying ≡ true → current (after_landing w) ≡ Some (newest w)
landed_top w i f =
    let v = after_landing w in
    let j = landing_kept w i f in
    newest_top w (newest w) w.known w.ok j.base (other_sector v) (current v) (other_new w (Some (newest w)) (i.next f)) (i.next f) (top v j)

put_or_kept : (q : Bool) (x f : Option Stored) → ((if q then x else f) ≡ x) ⊎ ((if q then x else f) ≡ f)
put_or_kept true x f = inl refl
put_or_kept false x f = inr refl

kept_or_put : (q : Bool) (x f : Option Stored) → ((if q then f else x) ≡ x) ⊎ ((if q then f else x) ≡ f)
kept_or_put true x f = inr refl
kept_or_put false x f = inl refl

module _ (w v : State) (i : Invariant w) where
  landing_moves : w.flying ≡ true → v ≡ after_landing w → (before after : Option Stored) → (after ≡ Some (newest w)) ⊎ (after ≡ before) → Moves w v before after
  landing_moves f e before after (inl p) = New (newest w) p (ap current e ∙ landed_top w i f) (i.next f)
  landing_moves f e before after (inr p) = Same p

  tearing_moves : (before after : Option Stored) → (after ≡ None) ⊎ (after ≡ before) → Moves w v before after
  tearing_moves before after (inl p) = Torn p
  tearing_moves before after (inr p) = Same p

  pub front_moves : Step w v → Moves w v w.front v.front
  front_moves (Stays e) = Same (ap (λ (x : State). x.front) e)
  front_moves (Submits n s a m e) = Same (ap (λ (x : State). x.front) e)
  front_moves (Lands f e) = landing_moves f e w.front v.front
      (subst (λ (x : Option Stored). (x ≡ Some (newest w)) ⊎ (x ≡ w.front)) (sym (ap (λ (x : State). x.front) e)) (put_or_kept (is_first w.turn) (Some (newest w)) w.front))
  front_moves (Tears f e) = tearing_moves w.front v.front
      (subst (λ (x : Option Stored). (x ≡ None) ⊎ (x ≡ w.front)) (sym (ap (λ (x : State). x.front) e)) (put_or_kept (is_first w.turn) None w.front))
  front_moves (Drops f e) = Same (ap (λ (x : State). x.front) e)
  front_moves (Answers_ok a l e) = Same (ap (λ (x : State). x.front) e)
  front_moves (Answers_failed a e) = Same (ap (λ (x : State). x.front) e)
  front_moves (Looks a f s c e) = Same (ap (λ (x : State). x.front) e)
  front_moves (Begins f e) = Same (ap (λ (x : State). x.front) e)

  pub back_moves : Step w v → Moves w v w.back v.back
  back_moves (Stays e) = Same (ap (λ (x : State). x.back) e)
  back_moves (Submits n s a m e) = Same (ap (λ (x : State). x.back) e)
  back_moves (Lands f e) = landing_moves f e w.back v.back
      (subst (λ (x : Option Stored). (x ≡ Some (newest w)) ⊎ (x ≡ w.back)) (sym (ap (λ (x : State). x.back) e)) (kept_or_put (is_first w.turn) (Some (newest w)) w.back))
  back_moves (Tears f e) = tearing_moves w.back v.back
      (subst (λ (x : Option Stored). (x ≡ None) ⊎ (x ≡ w.back)) (sym (ap (λ (x : State). x.back) e)) (kept_or_put (is_first w.turn) None w.back))
  back_moves (Drops f e) = Same (ap (λ (x : State). x.back) e)
  back_moves (Answers_ok a l e) = Same (ap (λ (x : State). x.back) e)
  back_moves (Answers_failed a e) = Same (ap (λ (x : State). x.back) e)
  back_moves (Looks a f s c e) = Same (ap (λ (x : State). x.back) e)
  back_moves (Begins f e) = Same (ap (λ (x : State). x.back) e)

-- ---- what only grows

-- The known turn, the number of the newest ok, and that of writes don't fall.
pub record Grows (w v : State) : Type 0 where
  pub known : w.known ≤ v.known
  pub ok : w.ok ≤ v.ok
  pub last : w.last ≤ v.last

grown : (w u v : State) → v ≡ u → Grows w u → Grows w v
grown w u v e g = subst (Grows w) (sym e) g

even : (w : State) → Grows w w
even w = record { known = omega arith; ok = omega arith; last = omega arith }

looked : (w : State) (i : Invariant w) (s : Stored) → current w ≡ Some s → Top w.known w.ok i.base (other_sector w) (current w) → w.known ≤ s.turn
looked w i s e (Base_stands b low) =
    let same : i.base.turn ≡ s.turn = ap (λ (y : Stored). y.turn) (one_value i.base s (current w) b e) in
    let t = i.turn in
    omega (arith, same, t)
looked w i s e (Other_stands x o t l b) =
    let same : x.turn ≡ s.turn = ap (λ (y : Stored). y.turn) (one_value x s (current w) b e) in
    omega (arith, same, t)

oked : (w : State) → Invariant w → w.waits ≡ true → w.landed ≡ true → (w.known ≤ w.turn) × (w.ok ≤ w.last)
oked w i a l = let p = (i.landed a l).0 in let m = i.ok in let n = i.within in (omega (arith, p), omega (arith, m, n))

pub step_grows : (w v : State) → Invariant w → Step w v → Grows w v
step_grows w v i (Stays e) = grown w w v e (even w)
step_grows w v i (Submits n s a m e) = subst (Grows w) (sym e) (record { known = omega arith; ok = omega arith; last = omega arith })
step_grows w v i (Lands f e) = subst (Grows w) (sym e) (record { known = omega arith; ok = omega arith; last = omega arith })
step_grows w v i (Tears f e) = subst (Grows w) (sym e) (record { known = omega arith; ok = omega arith; last = omega arith })
step_grows w v i (Drops f e) = subst (Grows w) (sym e) (record { known = omega arith; ok = omega arith; last = omega arith })
step_grows w v i (Answers_ok a l e) = subst (Grows w) (sym e) (let p = oked w i a l in record { known = p.0; ok = p.1; last = omega arith })
step_grows w v i (Answers_failed a e) = subst (Grows w) (sym e) (record { known = omega arith; ok = omega arith; last = omega arith })
step_grows w v i (Looks a f s c e) = subst (Grows w) (sym e) (record { known = looked w i s c (top w i); ok = omega arith; last = omega arith })
step_grows w v i (Begins f e) = subst (Grows w) (sym e) (record { known = omega arith; ok = omega arith; last = omega arith })

pub run_grows : (r : ℕ → State) → IsRun r → (a m : ℕ) → a ≤ m → Grows (r a) (r m)
run_grows r u a = from_on (λ m. Grows (r a) (r m)) a (even (r a)) (λ m l g. (
    let h = step_grows (r m) (r (m + 1)) (each_moment r u m) (u.step m) in
    record {
      known = (let p = g.known in let q = h.known in omega arith);
      ok = (let p = g.ok in let q = h.ok in omega arith);
      last = (let p = g.last in let q = h.last in omega arith);
    }
    ))

-- ---- the pair's block in a step

by_base : (known ok : ℕ) (base : Stored) (other now : Option Stored) → other ≡ None → Top known ok base other now → now ≡ Some base
by_base known ok base other now n (Base_stands e low) = e
by_base known ok base other now n (Other_stands x o t l e) = absurd (none_some x (sym n ∙ o))

torn_top : (w : State) (i : Invariant w) → w.flying ≡ true → current (after_tearing w) ≡ base_sector w
torn_top w i f =
    let v = after_tearing w in
    let j = tearing_kept w i f in
    let same : j.base ≡ i.base = some_value j.base i.base (sym j.stands ∙ (base_kept w None (i.next f) ∙ i.stands)) in
    by_base w.known w.ok j.base (other_sector v) (current v) (other_new w None (i.next f)) (top v j) ∙ (ap (λ (y : Stored). Some y) same ∙ sym i.stands)

torn_change : (w v : State) (i : Invariant w) → w.flying ≡ true → v ≡ after_tearing w → Top w.known w.ok i.base (other_sector w) (current w) → BlockChange w v
torn_change w v i f e (Base_stands b low) = Unchanged (ap current e ∙ (torn_top w i f ∙ (i.stands ∙ sym b)))
torn_change w v i f e (Other_stands x o t l b) = Fallen_back f x o (t ∙ sym (i.next f)) l (ap current e ∙ torn_top w i f)

pub block_changes : BlockChanges
block_changes w v i (Stays e) = Unchanged (ap current e)
block_changes w v i (Submits n s a m e) = Unchanged (ap current e)
block_changes w v i (Lands f e) = Replaced f (ap current e ∙ landed_top w i f)
block_changes w v i (Tears f e) = torn_change w v i f e (top w i)
block_changes w v i (Drops f e) = Unchanged (ap current e)
block_changes w v i (Answers_ok a l e) = Unchanged (ap current e)
block_changes w v i (Answers_failed a e) = Unchanged (ap current e)
block_changes w v i (Looks a f s c e) = Unchanged (ap current e)
block_changes w v i (Begins f e) = Unchanged (ap current e)
