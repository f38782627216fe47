-- What a lease does next where each host's block has one sector: no read is made once more, no settling reads before its block, and no block
-- has a turn.
use Rattle.sl_area.specs.AreaSizes.{Layout}
use Rattle.sl_area.specs.Pairs.{BlocksRead, blocks_of}
use Rattle.sl_area.specs.TornLeader.{leader_read}
use Rattle.sl_area.specs.AreaLayout.{blocks_in, leader_of}
use Rattle.sl_trace.proofs.PlainReads.{blocks_plain, leader_plain, once_plain}
use Rattle.sl_trace.specs.LeaseDecisions.{LeasePlace, after_bytes, after_read, asked_again, first_step, heard, owes_block, part_read, read_of_step, refuses_block, settle_begin, settle_next, within_turn}
use Rattle.sl_trace.specs.Leases.{LeaseKnown, owed}
use Rattle.sl_trace.specs.declared.effects.LeaseRead.{LeaseRead}
use Rattle.sl_trace.specs.declared.effects.LeaseStep.TheVariants.{ReadAgain, ReadBeforeBlock}
use Rattle.sl_trace.specs.declared.effects.LeaseStep.{LeaseStep}
use Rattle.sl_trace.specs.declared.lease.Aim.{Aim}
use Rattle.sl_trace.specs.declared.lease.LeaseNext.TheVariants.{ReadFor}
use Rattle.sl_trace.specs.declared.lease.LeaseNext.{LeaseNext}
use Rattle.sl_words.specs.Bounds.{is_number}
use Rattle.std.proofs.Common.{ap, ◌∙◌}
use Rattle.std.specs.Prelude.{List, None, Option, Some, false, not, true, ℕ, ◌&&◌, ◌+◌, ◌≡◌}

pub within_plain : (p : LeasePlace) (k : LeaseKnown) (aim : Aim) (next : LeaseNext) → p.layout.paired ≡ false → within_turn p k aim next ≡ next
unfolding within_turn
within_plain p k aim next plain =
    ap (λ b. elim (b && not (is_number (k.turn + 1))) as (λ x. LeaseNext) [ false ↦ next | true ↦ refuses_block aim next ]) plain

pub begin_plain : (p : LeasePlace) (k : LeaseKnown) → p.layout.paired ≡ false → settle_begin p k ≡ settle_next p k
unfolding settle_begin
begin_plain p k plain =
    ap (λ b. elim (b && owes_block (owed k)) as (λ x. LeaseNext) [ true ↦ ReadFor ReadBeforeBlock | false ↦ settle_next p k ]) plain

pub again_plain : (g : Layout) → g.paired ≡ false → (bytes : List ℕ) (step : LeaseStep) → asked_again g bytes step ≡ None
again_plain g plain bytes step =
    ap (λ b. elim b as (λ x. Option LeaseRead) [ false ↦ None | true ↦ read_of_step step ]) (once_plain g plain (part_read g bytes step))

pub bytes_plain : (p : LeasePlace) (k : LeaseKnown) (aim : Aim) (bytes : List ℕ) (step : LeaseStep) → p.layout.paired ≡ false
    → after_bytes p k aim bytes step
    ≡ after_read p k aim (leader_of p.layout bytes) (blocks_in p.layout (part_read p.layout bytes (first_step step))) (first_step step)
unfolding after_bytes
bytes_plain p k aim bytes step plain =
    let r : BlocksRead = heard p.layout k bytes step in
    ap (λ o. elim o as (λ x. LeaseNext) [
      | Some read ↦ ReadFor (ReadAgain read)
      | None ↦ after_read p k aim (leader_read p.layout bytes r) (blocks_of p.layout r) (first_step step)
    ]) (again_plain p.layout plain bytes step)
    ∙ (ap (λ l. after_read p k aim l (blocks_of p.layout r) (first_step step)) (leader_plain p.layout plain bytes r)
    ∙ ap (λ b. after_read p k aim (leader_of p.layout bytes) b (first_step step)) (blocks_plain p.layout plain r))
