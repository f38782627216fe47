-- The value that a phase 2 proposes: that of the greatest ballot accepted in the instance, or the session itself, where none was.
use Rattle.sl_trace.specs.Ballots.{greater_bal, in_instance, value_of, value_to_write}
use Rattle.sl_words.proofs.Lists.{contains_cases, contains_first, contains_more, contains_none, kept, kept_inside}
use Rattle.sl_words.proofs.Numbers.{equal_is_most, lt_up_to, trans_le, zero_is_least}
use Rattle.sl_sector.specs.declared.sector.Block.{Block}
use Rattle.sl_sector.specs.declared.sector.Owner.{Owner}
use Rattle.sl_words.specs.Words.{choose}
use Rattle.std.proofs.Common.{ap, arith, inl, inr, refl, subst, sym, ◌∙◌}
use Rattle.std.proofs.lemmas.Bool.{eq-eqb, eqb-true, ltb-false, ltb-true}
use Rattle.std.proofs.lemmas.Bool.Decides.{nat_tests}
use Rattle.std.specs.Option.{option_map_or}
use Rattle.std.specs.Prelude.{Bool, Contains, List, None, Option, Some, [], false, fold, if◌then◌else◌, nat_lt, true, ℕ, ◌<◌, ◌==◌, ◌∷◌, ◌≡◌, ◌≤◌, ◌⊎◌}

-- The greatest of these that has accepted, if any has.
pub data Best (bs : List Block) (r : Option Block) : Type 0 where
  No_best : r ≡ None → ((c : Block) → Contains bs c → c.bal ≡ 0) → Best bs r
  A_best : (b : Block) → r ≡ Some b → Contains bs b → 0 < b.bal → ((c : Block) → Contains bs c → c.bal ≤ b.bal) → Best bs r

-- From one that has accepted on.
record BestFrom (a : Block) (bs : List Block) : Type 0 where
  best : Block
  is : fold greater_bal (Some a) bs ≡ Some best
  from : (best ≡ a) ⊎ Contains bs best
  least : a.bal ≤ best.bal
  most : (c : Block) → Contains bs c → c.bal ≤ best.bal

above : (a b : ℕ) → 0 < a → a ≤ b → 0 < b
above a b p q = omega (arith, p, q)

from_by : (a b : Block) (bs : List Block) (t : Bool) → nat_lt a.bal b.bal ≡ t → BestFrom (if t then b else a) bs → fold greater_bal (Some a) (b ∷ bs) ≡ fold greater_bal (Some (if t then b else a)) bs
    → BestFrom a (b ∷ bs)
from_by a b bs true is r step =
    record {
      best = r.best;
      is = step ∙ r.is;
      from = inr (elim r.from as (λ z. Contains (b ∷ bs) r.best) [
        | inl e ↦ subst (λ y. Contains (b ∷ bs) y) (sym e) (contains_first b bs)
        | inr more ↦ contains_more b bs r.best more
      ]);
      least = lt_up_to a.bal b.bal r.best.bal (ltb-true a.bal b.bal is) r.least;
      most = λ c has. elim (contains_cases b bs c has) as (λ z. c.bal ≤ r.best.bal) [
        | inl e ↦ subst (λ (y : Block). y.bal ≤ r.best.bal) e r.least
        | inr more ↦ r.most c more
      ];
    }
from_by a b bs false is r step =
    record {
      best = r.best;
      is = step ∙ r.is;
      from = elim r.from as (λ z. (r.best ≡ a) ⊎ Contains (b ∷ bs) r.best) [ inl e ↦ inl e | inr more ↦ inr (contains_more b bs r.best more) ];
      least = r.least;
      most = λ c has. elim (contains_cases b bs c has) as (λ z. c.bal ≤ r.best.bal) [
        | inl e ↦ subst (λ (y : Block). y.bal ≤ r.best.bal) e (trans_le b.bal a.bal r.best.bal (ltb-false a.bal b.bal is) r.least)
        | inr more ↦ r.most c more
      ];
    }

step_is : (a b : Block) (bs : List Block) (t : Bool) → nat_lt a.bal b.bal ≡ t → fold greater_bal (if nat_lt a.bal b.bal then Some b else Some a) bs ≡ fold greater_bal (Some (if t then b else a)) bs
step_is a b bs true is = ap (λ (x : Bool). fold greater_bal (if x then Some b else Some a) bs) is
step_is a b bs false is = ap (λ (x : Bool). fold greater_bal (if x then Some b else Some a) bs) is

best_from : (a : Block) (bs : List Block) → BestFrom a bs
best_from a [] = record { best = a; is = refl; from = inl refl; least = equal_is_most a.bal a.bal refl; most = λ c has. absurd (contains_none c has) }
best_from a (b ∷ bs) = from_by a b bs (nat_lt a.bal b.bal) refl (best_from (if nat_lt a.bal b.bal then b else a) bs) (step_is a b bs (nat_lt a.bal b.bal) refl)

zero_is : (a : ℕ) → nat_lt 0 a ≡ false → a ≡ 0
zero_is a h = grind (arith, nat_tests)

first_by : (b : Block) (bs : List Block) (t : Bool) → nat_lt 0 b.bal ≡ t → BestFrom b bs → Best bs (fold greater_bal None bs) → Best (b ∷ bs) (fold greater_bal (choose t b) bs)
first_by b bs true is r rest =
    A_best r.best r.is (elim r.from as (λ z. Contains (b ∷ bs) r.best) [
      | inl e ↦ subst (λ y. Contains (b ∷ bs) y) (sym e) (contains_first b bs)
      | inr more ↦ contains_more b bs r.best more
    ]) (above b.bal r.best.bal (ltb-true 0 b.bal is) r.least) (λ c has. elim (contains_cases b bs c has) as (λ z. c.bal ≤ r.best.bal) [
      | inl e ↦ subst (λ (y : Block). y.bal ≤ r.best.bal) e r.least
      | inr more ↦ r.most c more
    ])
first_by b bs false is r (No_best none all) =
    No_best none (λ c has. elim (contains_cases b bs c has) as (λ z. c.bal ≡ 0) [
      | inl e ↦ ap (λ (y : Block). y.bal) (sym e) ∙ zero_is b.bal is
      | inr more ↦ all c more
    ])
first_by b bs false is r (A_best x some has pos most) =
    A_best x some (contains_more b bs x has) pos (λ c inside. elim (contains_cases b bs c inside) as (λ z. c.bal ≤ x.bal) [
      | inl e ↦ subst (λ (y : Block). y.bal ≤ x.bal) e (zero_is_least b.bal x.bal (zero_is b.bal is))
      | inr more ↦ most c more
    ])

pub best_of : (bs : List Block) → Best bs (fold greater_bal None bs)
best_of [] = No_best refl (λ c has. absurd (contains_none c has))
best_of (b ∷ bs) = first_by b bs (nat_lt 0 b.bal) refl (best_from b bs) (best_of bs)

-- What phase 2 proposes among these blocks.
pub data Proposes (self : Owner) (n : ℕ) (bs : List Block) (v : Owner) : Type 0 where
  Itself : v ≡ self → ((c : Block) → Contains bs c → c.lver ≡ n → c.bal ≡ 0) → Proposes self n bs v
  Another : (b : Block) → v ≡ value_of b → Contains bs b → b.lver ≡ n → 0 < b.bal → ((c : Block) → Contains bs c → c.lver ≡ n → c.bal ≤ b.bal) → Proposes self n bs v

in_it : (n : ℕ) (bs : List Block) (c : Block) → Contains bs c → c.lver ≡ n → Contains (in_instance n bs) c
in_it n bs c has same = kept (λ (b : Block). b.lver == n) bs c (eq-eqb c.lver n same) has

proposes_by : (self : Owner) (n : ℕ) (bs : List Block) (r : Option Block) → Best (in_instance n bs) r → Proposes self n bs (option_map_or value_of r self)
proposes_by self n bs r (No_best none all) = Itself (ap (λ o. option_map_or value_of o self) none) (λ c has same. all c (in_it n bs c has same))
proposes_by self n bs r (A_best b some has pos most) =
    let f = kept_inside (λ (x : Block). x.lver == n) bs b has in
    Another b (ap (λ o. option_map_or value_of o self) some) f.0 (eqb-true b.lver n f.1) pos (λ c inside same. most c (in_it n bs c inside same))

pub proposes : (self : Owner) (n : ℕ) (bs : List Block) → Proposes self n bs (value_to_write self n bs)
proposes self n bs = proposes_by self n bs (fold greater_bal None (in_instance n bs)) (best_of (in_instance n bs))
