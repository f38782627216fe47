-- The greatest of numbers, as it is found one by one.
use Rattle.sl_ballot.specs.Phases.{mbal_in, mbal_seen, top_mbal, top_of}
use Rattle.sl_trace.specs.Ballots.{in_instance, next_mbal, number_above}
use Rattle.sl_sector.specs.declared.sector.Block.{Block}
use Rattle.sl_words.specs.Words.{greatest, present}
use Rattle.std.proofs.Common.{Bool, List, None, Option, Some, [], ap, arith, cond, map, max, refl, sym, true, false, ◌==◌, ◌∙◌, ◌∷◌, ◌≡◌, ℕ}
use Rattle.std.specs.List.{fold}

-- From a number on.
fold-max : (xs : List ℕ) (top : ℕ) → fold (λ a x. max a x) top xs ≡ max top (greatest xs)
fold-max [] top = omega arith
fold-max (x ∷ xs) top = omega (arith, fold-max xs (max top x))

-- From zero on.
top_of-greatest : (xs : List ℕ) → top_of xs ≡ greatest xs
top_of-greatest xs = omega (arith, fold-max xs 0)

-- The next number above these.
pub next_mbal-top : (hosts id : ℕ) (xs : List ℕ) → next_mbal hosts id xs ≡ number_above hosts id (top_of xs)
next_mbal-top hosts id xs = ap (number_above hosts id) (sym (top_of-greatest xs))

-- One block before the others.
greatest-first : (t : Bool) (b : Block) (bs : List Block) → greatest (map (λ b. b.mbal) (cond t (b ∷ bs) bs)) ≡ max (cond t b.mbal 0) (greatest (map (λ b. b.mbal) bs))
greatest-first true b bs = refl
greatest-first false b bs = omega arith

-- The next number above the own one and those seen.
pub next_mbal-seen : (hosts id n : ℕ) (own : Block) (seen : List Block) → next_mbal hosts id (map (λ b. b.mbal) (in_instance n (own ∷ seen))) ≡ number_above hosts id (max (mbal_in n own) (top_mbal n seen))
next_mbal-seen hosts id n own seen =
    ap (number_above hosts id) (greatest-first (own.lver == n) own (in_instance n seen) ∙ ap (max (mbal_in n own)) (sym (top_of-greatest (map (λ b. b.mbal) (in_instance n seen)))))

-- The numbers of one instance, block by block: one of another instance shows 0, which changes nothing.
fold-mbal_from : (n : ℕ) (bs : List Block) (top : ℕ) → fold (λ a b. max a (mbal_in n b)) top bs ≡ fold (λ a x. max a x) top (map (λ b. b.mbal) (in_instance n bs))
fold-mbal_from n [] top = refl
fold-mbal_from n (b ∷ bs) top = by (b.lver == n) (fold-mbal_from n bs)
  where
    by : (t : Bool) → ((k : ℕ) → fold (λ a b. max a (mbal_in n b)) k bs ≡ fold (λ a x. max a x) k (map (λ b. b.mbal) (in_instance n bs)))
        → fold (λ a b. max a (mbal_in n b)) (max top (cond t b.mbal 0)) bs ≡ fold (λ a x. max a x) top (map (λ b. b.mbal) (cond t (b ∷ in_instance n bs) (in_instance n bs)))
    by true others = others (max top b.mbal)
    by false others = let same : max top 0 ≡ top = omega arith in ap (λ k. fold (λ a b. max a (mbal_in n b)) k bs) same ∙ others top

pub fold-mbal_in : (n : ℕ) (bs : List Block) → fold (λ a b. max a (mbal_in n b)) 0 bs ≡ top_mbal n bs
fold-mbal_in n bs = fold-mbal_from n bs 0

-- Those of the blocks that aren't torn.
fold-mbal_read : (n : ℕ) (read : List (Option Block)) (top : ℕ) → fold (λ a seen. max a (mbal_seen n seen)) top read ≡ fold (λ a b. max a (mbal_in n b)) top (present read)
fold-mbal_read n [] top = refl
fold-mbal_read n (None ∷ read) top =
    let same : max top 0 ≡ top = omega arith in
    ap (λ k. fold (λ a seen. max a (mbal_seen n seen)) k read) same ∙ fold-mbal_read n read top
fold-mbal_read n (Some b ∷ read) top = fold-mbal_read n read (max top (mbal_in n b))

pub fold-mbal_seen : (n : ℕ) (read : List (Option Block)) → fold (λ a seen. max a (mbal_seen n seen)) 0 read ≡ top_mbal n (present read)
fold-mbal_seen n read = fold-mbal_read n read 0 ∙ fold-mbal_from n (present read) 0
