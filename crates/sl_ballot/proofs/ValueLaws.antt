-- The value of the greatest bal.
use Rattle.sl_ballot.specs.Laws.{IsBestIn, ValuesAreKept}
use Rattle.sl_trace.specs.Ballots.{greater_bal, in_instance, phase1_block, value_of}
use Rattle.sl_sector.specs.declared.sector.Block.{Block}
use Rattle.sl_sector.specs.declared.sector.Owner.{Owner}
use Rattle.sl_words.specs.Words.{choose}
use Rattle.std.proofs.Common.{All, Bool, Contains, List, None, Option, Some, [], ap, arith, cond, false, inl, inr, nat_lt, refl, subst, suc, sym, true, ◌<◌, ◌==◌, ◌∙◌, ◌∷◌, ◌≡◌, ◌≤◌, ◌⊎◌, ℕ}
use Rattle.std.proofs.lemmas.Bool.{eq-eqb, eqb-false, eqb-true, ltb-false, ltb-true, ne_eqb}
use Rattle.std.proofs.lemmas.List.Elements.{All-cons, All-nil, All-weaker}
use Rattle.std.specs.List.{fold}
use Rattle.std.specs.Option.{option_map_or}

-- The bal of a block; 0 where there is none.
abbrev bal_of : Option Block → ℕ
bal_of None = 0
bal_of (Some b) = b.bal

-- No bal in the instance is above this one.
abbrev IsMost : ℕ → ℕ → Block → Type 0
IsMost n top b = b.lver ≡ n → b.bal ≤ top

-- A block of these in the instance, with a bal.
abbrev IsChosen : ℕ → List Block → Option Block → Type 0
IsChosen n blocks r = (c : Block) × (r ≡ Some c) × Contains blocks c × (c.lver ≡ n) × (0 < c.bal)

-- What a fold comes to: the block that it began with or one of these, and no bal is above its own.
record IsFolded (n : ℕ) (blocks : List Block) (from r : Option Block) : Type 0 where
  source : (r ≡ from) ⊎ IsChosen n blocks r
  kept : bal_of from ≤ bal_of r
  most : All (IsMost n (bal_of r)) blocks

-- One step of it.
record IsGreater (b : Block) (from r : Option Block) : Type 0 where
  source : (r ≡ from) ⊎ ((r ≡ Some b) × (0 < b.bal))
  kept : bal_of from ≤ bal_of r
  most : b.bal ≤ bal_of r

greater-first : (b : Block) (t : Bool) → nat_lt 0 b.bal ≡ t → IsGreater b None (choose t b)
greater-first b true is = record { source = inr (refl, ltb-true 0 b.bal is); kept = omega arith; most = omega arith }
greater-first b false is = record { source = inl refl; kept = omega arith; most = ltb-false 0 b.bal is }

greater-next : (a b : Block) (t : Bool) → nat_lt a.bal b.bal ≡ t → IsGreater b (Some a) (cond t (Some b) (Some a))
greater-next a b true is = let lt : a.bal < b.bal = ltb-true a.bal b.bal is in record { source = inr (refl, omega arith); kept = omega arith; most = omega arith }
greater-next a b false is = record { source = inl refl; kept = omega arith; most = ltb-false a.bal b.bal is }

greater-bal : (b : Block) (from : Option Block) → IsGreater b from (greater_bal from b)
greater-bal b None = greater-first b (nat_lt 0 b.bal) refl
greater-bal b (Some a) = greater-next a b (nat_lt a.bal b.bal) refl

-- The same one block later.
chosen-later : (n : ℕ) (b : Block) (bs : List Block) (r : Option Block) → IsChosen n bs r → IsChosen n (b ∷ bs) r
chosen-later n b bs r h = (h.0, h.1, (suc h.2.0, omega (arith, h.2.1), h.2.2), h.3, h.4)

-- A block of another instance is passed over.
folded-past : (n : ℕ) (b : Block) (bs : List Block) (from r : Option Block) → (b.lver ≡ n → ⊥) → IsFolded n bs from r → IsFolded n (b ∷ bs) from r
folded-past n b bs from r other h =
    record {
      source = elim h.source [ inl e ↦ inl e | inr c ↦ inr (chosen-later n b bs r c) ];
      kept = h.kept;
      most = All-cons (IsMost n (bal_of r)) b bs (λ e. absurd (other e)) h.most;
    }

-- A block of this one is taken, or not.
folded-on : (n : ℕ) (b : Block) (bs : List Block) (from next r : Option Block) → b.lver ≡ n → IsGreater b from next → IsFolded n bs next r → IsFolded n (b ∷ bs) from r
folded-on n b bs from next r here step h =
    record {
      source = elim h.source [
        | inl e ↦ elim step.source [ inl f ↦ inl (e ∙ f) | inr f ↦ inr (b, e ∙ f.0, (0, omega arith, refl), here, f.1) ]
        | inr c ↦ inr (chosen-later n b bs r c)
      ];
      kept = omega (arith, step.kept, h.kept);
      most = All-cons (IsMost n (bal_of r)) b bs (λ e. omega (arith, step.most, h.kept)) h.most;
    }

folded : (n : ℕ) (bs : List Block) (from : Option Block) → IsFolded n bs from (fold greater_bal from (in_instance n bs))
folded n [] from = record { source = inl refl; kept = omega arith; most = All-nil (IsMost n (bal_of from)) }
folded n (b ∷ bs) from =
    elim (b.lver == n) as (λ t. (b.lver == n) ≡ t → IsFolded n (b ∷ bs) from (fold greater_bal from (cond t (b ∷ in_instance n bs) (in_instance n bs)))) [
      | true ↦ λ is. folded-on n b bs from (greater_bal from b) (fold greater_bal (greater_bal from b) (in_instance n bs)) (eqb-true b.lver n is) (greater-bal b from) (folded n bs (greater_bal from b))
      | false ↦ λ is. folded-past n b bs from (fold greater_bal from (in_instance n bs)) (eqb-false b.lver n is) (folded n bs from)
    ] refl

-- What a value is, by the block that the fold from nothing came to.
abbrev IsValue : Owner → ℕ → List Block → Option Block → Type 0
IsValue self n blocks r =
    (All (λ b. b.lver ≡ n → b.bal ≡ 0) blocks × (option_map_or value_of r self ≡ self)) ⊎ ((b : Block) × IsBestIn n blocks b × (option_map_or value_of r self ≡ value_of b))

value-is : (self : Owner) (n : ℕ) (blocks : List Block) (r : Option Block) → IsFolded n blocks None r → IsValue self n blocks r
value-is self n blocks None h = inl (All-weaker (IsMost n 0) (λ b. b.lver ≡ n → b.bal ≡ 0) (λ b m e. let le : b.bal ≤ 0 = m e in omega arith) blocks h.most, refl)
value-is self n blocks (Some b) h =
    elim h.source [
      | inl e ↦ absurd cc
      | inr c ↦
          let same : b ≡ c.0 = cc in
          inr (b, record { among = subst (Contains blocks) (sym same) c.2; here = cc; chosen = subst (λ (x : Block). 0 < x.bal) (sym same) c.4; most = h.most }, refl)
    ]

-- A value, by its parts.
abbrev value : ℕ → ℕ → Owner
value id generation = record { id = id; generation = generation }

-- A choice by a test that is decided.
chosen-true : {A : Type 0} (t : Bool) (x y : A) → t ≡ true → cond t x y ≡ x
chosen-true t x y h = ap (λ b. cond b x y) h

chosen-false : {A : Type 0} (t : Bool) (x y : A) → t ≡ false → cond t x y ≡ y
chosen-false t x y h = ap (λ b. cond b x y) h

pub values_are_kept : ValuesAreKept
unfolding phase1_block
values_are_kept = record {
  kept = (λ self hosts n shared mode_gen own seen here.
      let is : (own.lver == n) ≡ true = eq-eqb own.lver n here in
      (chosen-true (own.lver == n) own.bal 0 is, ap (λ t. value (cond t own.inp 0) (cond t own.inp_gen 0)) is));
  dropped = (λ self hosts n shared mode_gen own seen other.
      let is : (own.lver == n) ≡ false = ne_eqb own.lver n other in
      (chosen-false (own.lver == n) own.bal 0 is, ap (λ t. value (cond t own.inp 0) (cond t own.inp_gen 0)) is));
  best = (λ self n blocks. value-is self n blocks (fold greater_bal None (in_instance n blocks)) (folded n blocks None));
}
