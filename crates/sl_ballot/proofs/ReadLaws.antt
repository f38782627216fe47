-- The blocks of a read, by hosts and by places.
use Rattle.sl_ballot.specs.Reads.{is_torn_at, known_at, known_blocks}
use Rattle.sl_trace.specs.Ballots.{ballot_blocks, known_block, torn_host, whole_blocks, with_own}
use Rattle.sl_sector.specs.declared.sector.Block.{Block}
use Rattle.std.proofs.Common.{List, None, Option, Some, [], ap, cond, filter_map, option_map, position, is_none, refl, sym, ℕ, ◌+◌, ◌∙◌, ◌∷◌, ◌≡◌}
use Rattle.std.proofs.lemmas.Iterator.Adapters.{position_from-zero}
use Rattle.std.specs.List.{cons_option, enumerate_from, position_from}

-- The blocks from a place on.
blocks-from : (own : Block) (read : List (Option Block)) (k : ℕ) → whole_blocks (with_own own (k + 1) read) ≡ filter_map (known_at own) (enumerate_from k read)
blocks-from own [] k = refl
blocks-from own (b ∷ bs) k = ap (cons_option (known_block own b (k + 1))) (blocks-from own bs (k + 1))

-- All of them.
pub ballot_blocks-by_place : (own : Block) (read : List (Option Block)) → ballot_blocks own read ≡ known_blocks own read
ballot_blocks-by_place own read = blocks-from own read 0

-- The first torn block from a place on.
torn-from : (own : Block) (read : List (Option Block)) (k : ℕ) → torn_host (with_own own (k + 1) read) ≡ option_map (λ i. i + 1) (position_from (is_torn_at own) k (enumerate_from k read))
torn-from own [] k = refl
torn-from own (b ∷ bs) k =
    elim (known_block own b (k + 1)) as (λ o. (elim o [ None ↦ Some (k + 1) | Some c ↦ torn_host (with_own own (k + 1 + 1) bs) ]) ≡ option_map (λ i. i + 1) (cond (is_none o) (Some k) (position_from (is_torn_at own) (k + 1) (enumerate_from (k + 1) bs)))) [
      | None ↦ refl
      | Some c ↦ torn-from own bs (k + 1)
    ]

-- The first torn block of all.
pub torn_host-by_place : (own : Block) (read : List (Option Block)) (r : Option ℕ) (i : Option ℕ) → i ≡ position (is_torn_at own) (enumerate_from 0 read) → r ≡ option_map (λ i. i + 1) i → r ≡ torn_host (with_own own 1 read)
torn_host-by_place own read r i place is =
    is ∙ ap (option_map (λ i. i + 1)) (place ∙ position_from-zero (is_torn_at own) (enumerate_from 0 read)) ∙ sym (torn-from own read 0)
