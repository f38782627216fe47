-- What a later read of the blocks finds.
use Rattle.sl_trace.specs.Leases.{spot_of}
use Rattle.sl_words.proofs.Lists.{contains_cases, contains_none}
use Rattle.sl_headline.specs.Quiet.Events.CarriedStages.{AreaOnCourse, AreasShowOwn, Asked, Stage, own_at}
use Rattle.sl_headline.specs.Quiet.Course.QuietDecisions.{StandsAlone, all_whole}
use Rattle.sl_run.specs.Safety.{block_there}
use Rattle.sl_run.specs.Worlds.{World}
use Rattle.sl_sector.specs.declared.sector.Block.{Block}
use Rattle.sl_words.proofs.CaseLaws.{true_is_false, true_or_false}
use Rattle.std.proofs.Common.{ap, arith, eq-eqb, inl, inr, refl, subst, sym, tests, ◌∙◌}
use Rattle.std.specs.List.{AllByRecursion, range_with_len}
use Rattle.std.specs.Prelude.{Contains, List, Option, Some, [], map, suc, true, zero, ℕ, ◌+◌, ◌<◌, ◌==◌, ◌∷◌, ◌≡◌, ◌≤◌, ◌⊎◌}

all_has : {A : Type 0} (P : A → Type 0) (xs : List A) (x : A) → AllByRecursion P xs → Contains xs x → P x
all_has P [] x h has = absurd (contains_none x has)
all_has P (y ∷ xs) x h has = elim (contains_cases y xs x has) as (λ z. P x) [ inl same ↦ subst P same h.0 | inr more ↦ all_has P xs x h.1 more ]

-- The own block, or one of an earlier instance.
abbrev Shows : Block → Option Block → Type 0
Shows own o = (o ≡ Some own) ⊎ ((b : Block) × (o ≡ Some b) × (b.lver < own.lver))

record Whole (f : ℕ → Option Block) (own : Block) (a n : ℕ) : Type 0 where
  blocks : List Block
  same : map f (range_with_len a n) ≡ all_whole blocks
  alone : StandsAlone own blocks

least_is : (b : ℕ) → b ≤ b
least_is b = omega arith

first_in : (a n : ℕ) → a < a + suc n
first_in a n = omega arith

next_in : (a k n : ℕ) → a + 1 ≤ k → k < (a + 1) + n → (a ≤ k) × (k < a + suc n)
next_in a k n low high = (omega (arith, low), omega (arith, high))

one_more : (f : ℕ → Option Block) (own : Block) (a n : ℕ) (o : Option Block) → f a ≡ o → Shows own o → Whole f own (a + 1) n → Whole f own a (suc n)
one_more f own a n o is (inl own_is) rest =
    record {
      blocks = own ∷ rest.blocks;
      same = ap (λ x. x ∷ map f (range_with_len (a + 1) n)) (is ∙ own_is) ∙ ap (λ xs. Some own ∷ xs) rest.same;
      alone = (inl refl, rest.alone);
    }
one_more f own a n o is (inr other) rest =
    record {
      blocks = other.0 ∷ rest.blocks;
      same = ap (λ x. x ∷ map f (range_with_len (a + 1) n)) (is ∙ other.1) ∙ ap (λ xs. Some other.0 ∷ xs) rest.same;
      alone = (inr other.2, rest.alone);
    }

shown : (f : ℕ → Option Block) (own : Block) (a n : ℕ) → ((k : ℕ) → a ≤ k → k < a + n → Shows own (f k)) → Whole f own a n
shown f own a zero h = record { blocks = []; same = refl; alone = tt }
shown f own a (suc n) h =
    one_more f own a n (f a) refl (h a (least_is a) (first_in a n)) (shown f own (a + 1) n (λ k low high. let r = next_in a k n low high in h k r.0 r.1))

same_number : (a b : ℕ) → (a == b) ≡ true → a ≡ b
same_number a b h = grind (arith, tests)

up_to : (k n : ℕ) → k < 1 + n → k ≤ n
up_to k n h = omega (arith, h)

each_shows : (w : World) (q : Asked) (stage : Stage) (number made : ℕ) (own : Block) → AreaOnCourse w q stage number made → own_at q stage ≡ Some own → AllByRecursion (λ (b : Block). b.lver < own.lver) q.blocks
    → (k : ℕ) → 1 ≤ k → k < 1 + w.layout.hosts → Shows own (block_there w (spot_of q.resource) k)
each_shows w q stage number made own area is below k low high =
    elim (true_or_false (k == q.session.id)) as (λ z. Shows own (block_there w (spot_of q.resource) k)) [
      | inl mine ↦ inl (ap (λ n. block_there w (spot_of q.resource) n) (same_number k q.session.id mine) ∙ area.own own is)
      | inr other ↦
          let b = area.others k low (up_to k w.layout.hosts high) (λ same. true_is_false (sym (eq-eqb k q.session.id same) ∙ other)) in
          inr (q.block_of k, b.1, all_has (λ (x : Block). x.lver < own.lver) q.blocks (q.block_of k) below b.0)
    ]

pub areas_show_own : AreasShowOwn
areas_show_own w q stage number made own area is below =
    let r = shown (block_there w (spot_of q.resource)) own 1 w.layout.hosts (each_shows w q stage number made own area is below) in (r.blocks, r.same, r.alone)
