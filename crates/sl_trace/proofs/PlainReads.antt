-- What reads of a lease give where each host's block has one sector: what their bytes spell, whatever was read before.
use Rattle.sl_area.specs.AreaSizes.{Layout}
use Rattle.sl_area.specs.Pairs.{BlocksRead, blocks_of, needs_again, pairs_of, read_once}
use Rattle.sl_area.specs.TornLeader.{leader_made, leader_read}
use Rattle.sl_area.specs.AreaLayout.{blocks_in, leader_of}
use Rattle.sl_sector.specs.declared.sector.Block.{Block}
use Rattle.sl_sector.specs.declared.sector.Leader.{Leader}
use Rattle.sl_sector.specs.declared.sector.PairBlock.{PairBlock}
use Rattle.sl_trace.specs.Leases.{blocks_bytes, blocks_given, given_with, is_again, kept_before}
use Rattle.sl_trace.specs.Traces.{Submitted}
use Rattle.sl_words.proofs.CaseLaws.{none_some}
use Rattle.sl_words.specs.Words.{choose, present}
use Rattle.std.proofs.Common.{ap, refl, sym, ◌∙◌}
use Rattle.std.specs.Prelude.{Bool, List, None, Option, Some, false, not, option_map, true, ℕ, ◌&&◌, ◌≡◌}

-- The blocks are those of the last answer.
pub blocks_plain : (g : Layout) → g.paired ≡ false → (r : BlocksRead) → blocks_of g r ≡ blocks_in g r.last
blocks_plain g plain r = ap (λ b. elim b as (λ x. List (Option Block)) [ false ↦ blocks_in g r.last | true ↦ blocks_of (record g { paired = true }) r ]) plain

-- The leader is the one that is spelled.
pub leader_plain : (g : Layout) → g.paired ≡ false → (bytes : List ℕ) (r : BlocksRead) → leader_read g bytes r ≡ leader_of g bytes
leader_plain g plain bytes r =
    ap (λ b. elim b as (λ x. Option Leader) [
      | false ↦ leader_of g bytes
      | true ↦ elim (leader_of g bytes) as (λ x. Option Leader) [ Some l ↦ Some l | None ↦ leader_made g (present (pairs_of g r)) ]
    ]) plain

-- No read is made once more.
pub once_plain : (g : Layout) → g.paired ≡ false → (bytes : List ℕ) → needs_again g bytes ≡ false
once_plain g plain bytes = ap (λ b. b && needs_again (record g { paired = true }) bytes) plain

abbrev with_last : Layout → Option BlocksRead → Option (List (Option Block))
with_last g o = option_map (blocks_of g) o

-- What is given is what the bytes spell.
given_by : (g : Layout) → g.paired ≡ false → (again : Bool) (kept : Option (List (Option PairBlock))) (bytes : Option (List ℕ)) (bs : List (Option Block))
    → with_last g (given_with g again kept bytes) ≡ Some bs → option_map (blocks_in g) bytes ≡ Some bs
given_by g plain again kept None bs is = absurd (none_some bs is)
given_by g plain false kept (Some last) bs is =
    ap (λ o. Some o) (sym (blocks_plain g plain (read_once last)))
    ∙ ap (λ b. with_last g (choose (not b) (read_once last))) (sym (once_plain g plain last)) ∙ is
given_by g plain true None (Some last) bs is = absurd (none_some bs is)
given_by g plain true (Some first) (Some last) bs is = ap (λ o. Some o) (sym (blocks_plain g plain (record { kept = first; last = last }))) ∙ is

pub given_plain : (g : Layout) → g.paired ≡ false → (m : Submitted) (ms : List Submitted) (bs : List (Option Block)) → blocks_given g m ms ≡ Some bs
    → option_map (blocks_in g) (blocks_bytes g m) ≡ Some bs
given_plain g plain m ms bs is = given_by g plain (is_again m) (kept_before g ms) (blocks_bytes g m) bs is

-- A first read gives what its bytes spell.
first_by : (g : Layout) → g.paired ≡ false → (kept : Option (List (Option PairBlock))) (bytes : Option (List ℕ)) → with_last g (given_with g false kept bytes) ≡ option_map (blocks_in g) bytes
first_by g plain kept None = refl
first_by g plain kept (Some last) =
    ap (λ b. with_last g (choose (not b) (read_once last))) (once_plain g plain last) ∙ ap (λ o. Some o) (blocks_plain g plain (read_once last))

pub first_plain : (g : Layout) → g.paired ≡ false → (m : Submitted) (ms : List Submitted) → is_again m ≡ false
    → blocks_given g m ms ≡ option_map (blocks_in g) (blocks_bytes g m)
first_plain g plain m ms first =
    ap (λ b. with_last g (given_with g b (kept_before g ms) (blocks_bytes g m))) first ∙ first_by g plain (kept_before g ms) (blocks_bytes g m)
