-- What a read comes to: it stops the ballot, or each block lets it pass.
use Rattle.sl_alone.specs.BallotLaws.{IsStoppedBy, Passes}
use Rattle.sl_alone.specs.WholeBallots.{unless_stopped}
use Rattle.sl_alone.specs.declared.whole_ballot.BallotStep.TheVariants.{Ahead, Rival}
use Rattle.sl_alone.specs.declared.whole_ballot.BallotStep.{BallotStep}
use Rattle.sl_trace.specs.Ballots.{block_ahead, block_rival}
use Rattle.sl_sector.specs.declared.sector.Block.{Block}
use Rattle.sl_words.proofs.WordLaws.{and_true}
use Rattle.std.proofs.Common.{All, Bool, Contains, List, None, Option, Some, [], arith, cond, false, find, inl, inr, nat_lt, refl, suc, true, ◌&&◌, ◌==◌, ◌∷◌, ◌≡◌, ◌≤◌, ◌⊎◌}
use Rattle.std.proofs.lemmas.Bool.{and_cases, eqb-false, eqb-true, ltb-false, ltb-true}
use Rattle.std.proofs.lemmas.List.Elements.{All-cons, All-nil, All-weaker}

-- What is found is there and passes.
find-some : {X : Type 0} (p : X → Bool) (xs : List X) (x : X) → find p xs ≡ Some x → Contains xs x × (p x ≡ true)
find-some p [] x e = absurd cc
find-some p (y ∷ ys) x e =
    elim (p y) as (λ t. (p y) ≡ t → cond t (Some y) (find p ys) ≡ Some x → Contains (y ∷ ys) x × (p x ≡ true)) [
      | true ↦ λ is e. let same : y ≡ x = cc in ((0, omega arith, same), cc)
      | false ↦ λ is e. let rest = find-some p ys x e in ((suc rest.0.0, omega (arith, rest.0.1), rest.0.2), rest.1)
    ] refl e

-- Where nothing is found, none passes.
find-none : {X : Type 0} (p : X → Bool) (xs : List X) → find p xs ≡ None → All (λ x. p x ≡ false) xs
find-none p [] e = All-nil (λ x. p x ≡ false)
find-none p (y ∷ ys) e =
    elim (p y) as (λ t. (p y) ≡ t → cond t (Some y) (find p ys) ≡ None → All (λ x. p x ≡ false) (y ∷ ys)) [
      | true ↦ λ is e. absurd cc
      | false ↦ λ is e. All-cons (λ x. p x ≡ false) y ys is (find-none p ys e)
    ] refl e

-- A block that is neither ahead nor a rival lets the ballot pass.
passes : (own b : Block) → nat_lt own.lver b.lver ≡ false → (b.lver == own.lver && nat_lt own.mbal b.mbal) ≡ false → Passes own b
passes own b a r = record {
  no_later = ltb-false own.lver b.lver a;
  no_greater = (λ e.
      elim (and_cases (b.lver == own.lver) (nat_lt own.mbal b.mbal) r) [
        | inl other ↦ absurd (eqb-false b.lver own.lver other e)
        | inr below ↦ ltb-false own.mbal b.mbal below
      ]);
}

-- The step by the two blocks that are looked for.
by-found : (own : Block) (blocks : List Block) (next : BallotStep) (a r : Option Block) → block_ahead own blocks ≡ a → block_rival own blocks ≡ r
    → (let step : BallotStep = elim a [ Some b ↦ Ahead b.host b.lver | None ↦ elim r [ Some b ↦ Rival b.host b.mbal | None ↦ next ] ] in
    IsStoppedBy own blocks step ⊎ (All (Passes own) blocks × (step ≡ next)))
by-found own blocks next (Some b) r is_a is_r =
    let found = find-some (λ b. nat_lt own.lver b.lver) blocks b is_a in inl (inl (b, found.0, ltb-true own.lver b.lver found.1, refl))
by-found own blocks next None (Some b) is_a is_r =
    let found = find-some (λ b. b.lver == own.lver && nat_lt own.mbal b.mbal) blocks b is_r in
    let both = and_true (b.lver == own.lver) (nat_lt own.mbal b.mbal) found.1 in
    inl (inr (
      All-weaker (λ b. nat_lt own.lver b.lver ≡ false) (λ b. b.lver ≤ own.lver) (λ b f. ltb-false own.lver b.lver f) blocks (find-none (λ b. nat_lt own.lver b.lver) blocks is_a),
      (b, found.0, eqb-true b.lver own.lver both.0, ltb-true own.mbal b.mbal both.1, refl),
    ))
by-found own blocks next None None is_a is_r =
    let later = find-none (λ b. nat_lt own.lver b.lver) blocks is_a in
    let greater = find-none (λ b. b.lver == own.lver && nat_lt own.mbal b.mbal) blocks is_r in
    inr (λ k d lt. passes own _ (later k d lt) (greater k d lt), refl)

-- What the read comes to.
pub stopped_or_on : (own : Block) (blocks : List Block) (next : BallotStep)
    → IsStoppedBy own blocks (unless_stopped own blocks next) ⊎ (All (Passes own) blocks × (unless_stopped own blocks next ≡ next))
stopped_or_on own blocks next = by-found own blocks next (block_ahead own blocks) (block_rival own blocks) refl refl
