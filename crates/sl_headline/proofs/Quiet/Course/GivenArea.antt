-- What a first read gives where each second sector is whole: it is made once, so the blocks are those of its bytes, and of a read of the
-- area the leader is the one that is spelled.
use Rattle.sl_due_facts.proofs.Acts.Pairs.GivenByReads.{again_at, bytes_at}
use Rattle.sl_area.specs.AreaSizes.{Layout}
use Rattle.sl_area.specs.Pairs.{BlocksRead, blocks_of, needs_again, pairs_of, read_once}
use Rattle.sl_area.specs.TornLeader.{leader_made, leader_read}
use Rattle.sl_area.specs.AreaLayout.{leader_of}
use Rattle.sl_due_leases.proofs.Ways.GivenReads.{area_by, blocks_heard, leader_heard}
use Rattle.sl_sector.specs.declared.sector.Leader.{Leader}
use Rattle.sl_trace.specs.LeaseDecisions.{first_step, part_read, read_of_step}
use Rattle.sl_trace.specs.Leases.{blocks_bytes, blocks_given, given_with, is_second, kept_before, leader_given, read_given}
use Rattle.sl_trace.specs.Traces.{Submitted, gave}
use Rattle.sl_trace.specs.declared.effects.LeaseStep.TheVariants.{ReadArea}
use Rattle.sl_trace.specs.declared.effects.LeaseStep.{LeaseStep}
use Rattle.sl_trace.specs.declared.effects.Purpose.TheVariants.{Lease}
use Rattle.sl_trace.specs.declared.effects.Work.{Work}
use Rattle.sl_words.specs.Words.{choose, present}
use Rattle.std.proofs.Common.{ap, refl, ◌∙◌}
use Rattle.std.specs.Prelude.{Bool, List, None, Option, Some, false, is_some, not, true, ℕ, ◌≡◌}

-- A leader that is spelled is given, of either kind.
pub spelled_leads : (g : Layout) (bytes : List ℕ) (r : BlocksRead) (l : Leader) → leader_of g bytes ≡ Some l → leader_read g bytes r ≡ Some l
spelled_leads g bytes r l is = by g.paired where
  by : (b : Bool) → elim b as (λ z. Option Leader) [
    | false ↦ leader_of g bytes
    | true ↦ elim (leader_of g bytes) as (λ z. Option Leader) [ Some l ↦ Some l | None ↦ leader_made g (present (pairs_of g r)) ]
  ] ≡ Some l
  by false = is
  by true = ap (λ o. elim o as (λ z. Option Leader) [ Some l ↦ Some l | None ↦ leader_made g (present (pairs_of g r)) ]) is

-- A first read that is not made once more.
pub read_gives : (g : Layout) (m : Submitted) (ms : List Submitted) (work : Work) (step : LeaseStep) (bytes : List ℕ) → m.call.purpose ≡ Lease work step → is_second step ≡ false
    → is_some (read_of_step (first_step step)) ≡ true → gave m ≡ Some bytes → needs_again g (part_read g bytes (first_step step)) ≡ false
    → read_given g m ms ≡ Some (read_once (part_read g bytes (first_step step)))
read_gives g m ms work step bytes for first reads gives enough =
    let part : List ℕ = part_read g bytes (first_step step) in
    ap (λ b. given_with g b (kept_before g ms) (blocks_bytes g m)) (again_at m work step for ∙ first)
    ∙ (ap (λ o. given_with g false (kept_before g ms) o) (bytes_at g m work step bytes for reads gives) ∙ ap (λ b. choose (not b) (read_once part)) enough)

-- Its blocks.
pub blocks_are_given : (g : Layout) (m : Submitted) (ms : List Submitted) (work : Work) (step : LeaseStep) (bytes : List ℕ) → m.call.purpose ≡ Lease work step → is_second step ≡ false
    → is_some (read_of_step (first_step step)) ≡ true → gave m ≡ Some bytes → needs_again g (part_read g bytes (first_step step)) ≡ false
    → blocks_given g m ms ≡ Some (blocks_of g (read_once (part_read g bytes (first_step step))))
blocks_are_given g m ms work step bytes for first reads gives enough =
    blocks_heard g m ms (read_once (part_read g bytes (first_step step))) (read_gives g m ms work step bytes for first reads gives enough)

-- Its leader.
pub leader_is_given : (g : Layout) (m : Submitted) (ms : List Submitted) (work : Work) (name bytes : List ℕ) (l : Leader) → m.call.purpose ≡ Lease work (ReadArea name) → gave m ≡ Some bytes
    → needs_again g (part_read g bytes (ReadArea name)) ≡ false → leader_of g bytes ≡ Some l → leader_given g m ms ≡ Some l
leader_is_given g m ms work name bytes l for gives enough is =
    let r : BlocksRead = read_once (part_read g bytes (ReadArea name)) in
    leader_heard g m ms r bytes (read_gives g m ms work (ReadArea name) bytes for refl refl gives enough) gives (area_by m work (ReadArea name) for refl) ∙ spelled_leads g bytes r l is
