-- The invariant is kept.
use Rattle.sl_ballot_law.specs.Pairs.Invariant.{Invariant, base_sector, other_sector}
use Rattle.sl_ballot_law.specs.Pairs.State.{State, Stored, current, is_first, later}
use Rattle.sl_ballot_law.specs.Pairs.Steps.{Answers_failed, Answers_ok, Begins, Drops, Lands, Looks, Stays, Submits, Tears, after_beginning, after_drop, after_failure, after_landing, after_look, after_ok, after_submission, after_tearing, back_with, first_state, front_with, newest}
use Rattle.sl_ballot_law.specs.Pairs.Theorems.{HasBlock, InvariantHolds, PairHasBlock, StepKeeps}
use Rattle.sl_words.proofs.CaseLaws.{false_is_true, none_some, one_value, some_value, true_is_false, true_or_false}
use Rattle.std.proofs.Common.{Bool, None, Option, Some, ap, arith, false, inl, inr, refl, subst, suc, sym, true, zero, ℕ, ◌+◌, ◌<◌, ◌∙◌, ◌≡◌, ◌≤◌, ◌⊎◌}
use Rattle.std.proofs.lemmas.Bool.{eq-eqb, lt-ltb, ltb-true}
use Rattle.std.specs.Prelude.{if◌then◌else◌, not, nat_lt, ◌%◌, ◌==◌}

-- ---- the two sectors

sum_one : (a b : ℕ) → a + b ≡ 1 → (b == 1) ≡ not (a == 1)
sum_one zero b e = let one : b ≡ 1 = omega (arith, e) in eq-eqb b 1 one
sum_one (suc a) b e =
    let none : b ≡ 0 = omega (arith, e) in
    let one : suc a ≡ 1 = omega (arith, e) in
    subst (λ (x : ℕ). (x == 1) ≡ not (suc a == 1)) (sym none) (subst (λ (y : ℕ). (0 == 1) ≡ not (y == 1)) (sym one) refl)

-- Turns stand in the two sectors alternately.
pub alternate : (n : ℕ) → is_first (n + 1) ≡ not (is_first n)
alternate n = sum_one (n % 2) ((n + 1) % 2) (omega arith)

stay : (p q : Bool) (f b x : Option Stored) → q ≡ not p → (if p then (if q then x else f) else (if q then b else x)) ≡ (if p then f else b)
stay true true f b x e = absurd (true_is_false e)
stay true false f b x e = refl
stay false true f b x e = refl
stay false false f b x e = absurd (false_is_true e)

fresh : (p q : Bool) (f b x : Option Stored) → q ≡ not p → (if p then (if q then b else x) else (if q then x else f)) ≡ x
fresh true true f b x e = absurd (true_is_false e)
fresh true false f b x e = refl
fresh false true f b x e = refl
fresh false false f b x e = absurd (false_is_true e)

turned : (p q : Bool) (f b : Option Stored) → q ≡ not p → (if q then f else b) ≡ (if p then b else f)
turned true true f b e = absurd (true_is_false e)
turned true false f b e = refl
turned false true f b e = refl
turned false false f b e = absurd (false_is_true e)

next_first : (n t : ℕ) → t ≡ n + 1 → is_first t ≡ not (is_first n)
next_first n t e = subst (λ (x : ℕ). is_first x ≡ not (is_first n)) (sym e) (alternate n)

-- What the next turn's sector takes leaves that of the known turn.
pub base_kept : (w : State) (x : Option Stored) → w.turn ≡ w.known + 1 → (if is_first w.known then front_with x w else back_with x w) ≡ base_sector w
base_kept w x e = stay (is_first w.known) (is_first w.turn) w.front w.back x (next_first w.known w.turn e)

pub other_new : (w : State) (x : Option Stored) → w.turn ≡ w.known + 1 → (if is_first w.known then back_with x w else front_with x w) ≡ x
other_new w x e = fresh (is_first w.known) (is_first w.turn) w.front w.back x (next_first w.known w.turn e)

-- Where the next turn is the known one, the sectors change their parts.
base_turned : (w : State) (t : ℕ) → t ≡ w.known + 1 → (if is_first t then w.front else w.back) ≡ other_sector w
base_turned w t e = turned (is_first w.known) (is_first t) w.front w.back (next_first w.known t e)

other_turned : (w : State) (t : ℕ) → t ≡ w.known + 1 → (if is_first t then w.back else w.front) ≡ base_sector w
other_turned w t e = turned (is_first w.known) (is_first t) w.back w.front (next_first w.known t e)

-- ---- the block

pub later_none : (f : Option Stored) → later f None ≡ f
later_none None = refl
later_none (Some p) = refl

pub later_first : (p q : Stored) → q.turn < p.turn → later (Some p) (Some q) ≡ Some p
later_first p q l = ap (λ (b : Bool). if b then Some p else Some q) (lt-ltb q.turn p.turn l)

not_less : (m n : ℕ) → n ≤ m → nat_lt m n ≡ false
not_less m n l = elim (true_or_false (nat_lt m n)) [
  | inl t ↦ absurd (let less = ltb-true m n t in omega (arith, less, l))
  | inr f ↦ f
]

pub later_second : (p q : Stored) → p.turn ≤ q.turn → later (Some p) (Some q) ≡ Some q
later_second p q l = ap (λ (b : Bool). if b then Some p else Some q) (not_less q.turn p.turn l)

-- Which of the two it is.
pub data Top (known ok : ℕ) (base : Stored) (other now : Option Stored) : Type 0 where
  Base_stands : now ≡ Some base → ((x : Stored) → other ≡ Some x → x.turn + 1 ≡ known) → Top known ok base other now
  Other_stands : (x : Stored) → other ≡ Some x → x.turn ≡ known + 1 → ok ≤ x.write → now ≡ Some x → Top known ok base other now

abbrev Beside : ℕ → ℕ → Option Stored → Type 0
Beside known ok o = (x : Stored) → o ≡ Some x → (x.turn + 1 ≡ known) ⊎ ((x.turn ≡ known + 1) × (ok ≤ x.write))

below : (known : ℕ) (x : Stored) → x.turn + 1 ≡ known → (y : Stored) → Some x ≡ Some y → y.turn + 1 ≡ known
below known x e y s = subst (λ (z : Stored). z.turn + 1 ≡ known) (some_value x y s) e

top_front : (known ok : ℕ) (base : Stored) → base.turn ≡ known → (o : Option Stored) → Beside known ok o → Top known ok base o (later (Some base) o)
top_front known ok base t None s = Base_stands refl (λ x e. absurd (none_some x e))
top_front known ok base t (Some x) s = elim (s x refl) [
  | inl e ↦ Base_stands (later_first base x (omega (arith, e, t))) (below known x e)
  | inr e ↦ Other_stands x refl e.0 e.1 (later_second base x (omega (arith, e.0, t)))
]

top_back : (known ok : ℕ) (base : Stored) → base.turn ≡ known → (o : Option Stored) → Beside known ok o → Top known ok base o (later o (Some base))
top_back known ok base t None s = Base_stands refl (λ x e. absurd (none_some x e))
top_back known ok base t (Some x) s = elim (s x refl) [
  | inl e ↦ Base_stands (later_second x base (omega (arith, e, t))) (below known x e)
  | inr e ↦ Other_stands x refl e.0 e.1 (later_first x base (omega (arith, e.0, t)))
]

top_of : (known ok : ℕ) (p : Bool) (f b : Option Stored) (base : Stored) → base.turn ≡ known → (if p then f else b) ≡ Some base
    → Beside known ok (if p then b else f) → Top known ok base (if p then b else f) (later f b)
top_of known ok true f b base t e s = subst (λ (y : Option Stored). Top known ok base b (later y b)) (sym e) (top_front known ok base t b s)
top_of known ok false f b base t e s = subst (λ (y : Option Stored). Top known ok base f (later f y)) (sym e) (top_back known ok base t f s)

pub top : (w : State) (i : Invariant w) → Top w.known w.ok i.base (other_sector w) (current w)
top w i = top_of w.known w.ok (is_first w.known) w.front w.back i.base i.turn i.stands (λ x e. (i.other x e).0)

has_block : (w : State) (i : Invariant w) → Top w.known w.ok i.base (other_sector w) (current w) → HasBlock w
has_block w i (Base_stands e low) = record { block = i.base; stands = e; newest = i.ok; written = i.within }
has_block w i (Other_stands x o t l e) = record { block = x; stands = e; newest = l; written = (i.other x o).1 }

pub block_at : (w : State) → Invariant w → HasBlock w
block_at w i = has_block w i (top w i)

-- ---- steps

start_holds : Invariant first_state
start_holds = record {
  base = record { turn = 2; write = 0 };
  stands = refl;
  turn = refl;
  ok = omega arith;
  within = omega arith;
  other = λ x e. (let f = some_value (record { turn = 1; write = 0 }) x e in (inl (subst (λ (y : Stored). y.turn + 1 ≡ 2) f refl), subst (λ (y : Stored). y.write ≤ 0) f (omega arith)));
  next = λ e. absurd (false_is_true e);
  landed = λ e. absurd (false_is_true e);
  waiting = λ e. absurd (false_is_true e);
}

submission_kept : (n : ℕ) (w : State) → Invariant w → w.last < n → Invariant (after_submission n w)
submission_kept n w i more = record {
  base = i.base;
  stands = i.stands;
  turn = i.turn;
  ok = i.ok;
  within = (let l = i.within in omega arith);
  other = λ x e. (let o = i.other x e in let l = o.1 in (o.0, omega arith));
  next = λ e. refl;
  landed = λ e l. absurd (false_is_true l);
  waiting = λ e. refl;
}

pub landing_kept : (w : State) → Invariant w → w.flying ≡ true → Invariant (after_landing w)
landing_kept w i f =
    let t = i.next f in
    let new = other_new w (Some (newest w)) t in
    record {
      base = i.base;
      stands = base_kept w (Some (newest w)) t ∙ i.stands;
      turn = i.turn;
      ok = i.ok;
      within = i.within;
      other = λ x e. (
          let same : newest w ≡ x = some_value (newest w) x (sym new ∙ e) in
          let old = i.ok in
          let more = i.within in (
            inr (subst (λ (y : Stored). y.turn ≡ w.known + 1) same t, subst (λ (y : Stored). w.ok ≤ y.write) same (omega arith)),
            subst (λ (y : Stored). y.write ≤ w.last) same (omega arith),
          )
          );
      next = λ e. absurd (false_is_true e);
      landed = λ e l. (t, new);
      waiting = λ e. absurd (false_is_true e);
    }

pub tearing_kept : (w : State) → Invariant w → w.flying ≡ true → Invariant (after_tearing w)
tearing_kept w i f =
    let t = i.next f in
    record {
      base = i.base;
      stands = base_kept w None t ∙ i.stands;
      turn = i.turn;
      ok = i.ok;
      within = i.within;
      other = λ x e. absurd (none_some x (sym (other_new w None t) ∙ e));
      next = λ e. absurd (false_is_true e);
      landed = λ e l. absurd (true_is_false (sym l ∙ i.waiting f));
      waiting = λ e. absurd (false_is_true e);
    }

drop_kept : (w : State) → Invariant w → Invariant (after_drop w)
drop_kept w i = record {
  base = i.base;
  stands = i.stands;
  turn = i.turn;
  ok = i.ok;
  within = i.within;
  other = i.other;
  next = λ e. absurd (false_is_true e);
  landed = i.landed;
  waiting = λ e. absurd (false_is_true e);
}

ok_kept : (w : State) → Invariant w → w.waits ≡ true → w.landed ≡ true → Invariant (after_ok w)
ok_kept w i a l =
    let p = i.landed a l in
    let t = p.0 in
    let old = i.turn in
    let more = i.within in
    record {
      base = record { turn = w.turn; write = w.last };
      stands = base_turned w w.turn t ∙ p.1;
      turn = refl;
      ok = omega arith;
      within = omega arith;
      other = λ x e. (
          let same : i.base ≡ x = some_value i.base x (sym i.stands ∙ (sym (other_turned w w.turn t) ∙ e)) in
          (inl (subst (λ (y : Stored). y.turn + 1 ≡ w.turn) same (omega (arith, old, t))), subst (λ (y : Stored). y.write ≤ w.last) same more)
          );
      next = λ e. absurd (true_is_false (sym l ∙ i.waiting e));
      landed = λ e. absurd (false_is_true e);
      waiting = i.waiting;
    }

failure_kept : (w : State) → Invariant w → Invariant (after_failure w)
failure_kept w i = record {
  base = i.base;
  stands = i.stands;
  turn = i.turn;
  ok = i.ok;
  within = i.within;
  other = i.other;
  next = λ e. absurd (false_is_true e);
  landed = λ e. absurd (false_is_true e);
  waiting = λ e. absurd (false_is_true e);
}

beginning_kept : (w : State) → Invariant w → Invariant (after_beginning w)
beginning_kept w i = record {
  base = i.base;
  stands = i.stands;
  turn = i.turn;
  ok = i.ok;
  within = i.within;
  other = i.other;
  next = i.next;
  landed = λ e. absurd (false_is_true e);
  waiting = i.waiting;
}

-- A session that looks is shown the known turn, or the next.
look_same : (w : State) → Invariant w → w.waits ≡ false → Invariant (after_look w.known w)
look_same w i a = record {
  base = i.base;
  stands = i.stands;
  turn = i.turn;
  ok = i.ok;
  within = i.within;
  other = i.other;
  next = i.next;
  landed = i.landed;
  waiting = i.waiting;
}

look_next : (w : State) → Invariant w → w.waits ≡ false → w.flying ≡ false → (t : ℕ) → t ≡ w.known + 1 → (x : Stored) → other_sector w ≡ Some x → x.turn ≡ t
    → w.ok ≤ x.write → Invariant (after_look t w)
look_next w i a f t e x o s l =
    let old = i.turn in
    let more = i.within in
    record {
      base = x;
      stands = base_turned w t e ∙ o;
      turn = s;
      ok = l;
      within = (i.other x o).1;
      other = λ y q. (
          let same : i.base ≡ y = some_value i.base y (sym i.stands ∙ (sym (other_turned w t e) ∙ q)) in
          (inl (subst (λ (z : Stored). z.turn + 1 ≡ t) same (omega (arith, old, e))), subst (λ (z : Stored). z.write ≤ w.last) same more)
          );
      next = λ g. absurd (true_is_false (sym g ∙ f));
      landed = λ g. absurd (true_is_false (sym g ∙ a));
      waiting = i.waiting;
    }

look_top : (w : State) (i : Invariant w) → w.waits ≡ false → w.flying ≡ false → (s : Stored) → current w ≡ Some s
    → Top w.known w.ok i.base (other_sector w) (current w) → Invariant (after_look s.turn w)
look_top w i a f s e (Base_stands b low) =
    let same : i.base ≡ s = one_value i.base s (current w) b e in
    subst (λ (t : ℕ). Invariant (after_look t w)) (sym i.turn ∙ ap (λ (y : Stored). y.turn) same) (look_same w i a)
look_top w i a f s e (Other_stands x o t l b) =
    let same : x ≡ s = one_value x s (current w) b e in
    let its : x.turn ≡ s.turn = ap (λ (y : Stored). y.turn) same in
    look_next w i a f s.turn (sym its ∙ t) x o its l

look_kept : (w : State) → Invariant w → w.waits ≡ false → w.flying ≡ false → (s : Stored) → current w ≡ Some s → Invariant (after_look s.turn w)
look_kept w i a f s e = look_top w i a f s e (top w i)

pub step_kept : StepKeeps
step_kept w v i (Stays e) = subst Invariant (sym e) i
step_kept w v i (Submits n s a m e) = subst Invariant (sym e) (submission_kept n w i m)
step_kept w v i (Lands f e) = subst Invariant (sym e) (landing_kept w i f)
step_kept w v i (Tears f e) = subst Invariant (sym e) (tearing_kept w i f)
step_kept w v i (Drops f e) = subst Invariant (sym e) (drop_kept w i)
step_kept w v i (Answers_ok a l e) = subst Invariant (sym e) (ok_kept w i a l)
step_kept w v i (Answers_failed a e) = subst Invariant (sym e) (failure_kept w i)
step_kept w v i (Looks a f s c e) = subst Invariant (sym e) (look_kept w i a f s c)
step_kept w v i (Begins f e) = subst Invariant (sym e) (beginning_kept w i)

-- ---- runs

pub each_moment : InvariantHolds
each_moment r u zero = subst Invariant (sym u.start) start_holds
each_moment r u (suc m) =
    let after : Invariant (r (m + 1)) = step_kept (r m) (r (m + 1)) (each_moment r u m) (u.step m) in
    subst (λ (k : ℕ). Invariant (r k)) (next m) after
  where
    next : (m : ℕ) → m + 1 ≡ suc m
    next m = omega arith

pub has_blocks : PairHasBlock
has_blocks r u m = block_at (r m) (each_moment r u m)
