-- What is kept of a lease, and what is known of it by its calls.
use Rattle.sl_area.specs.AreaSizes.{Layout}
use Rattle.sl_area.specs.Pairs.{blocks_of, needs_again}
use Rattle.sl_area.specs.TornLeader.{leader_read}
use Rattle.sl_host_state.proofs.Pairs.{first_is_kept}
use Rattle.sl_host_state.specs.KeptState.{LeaseState}
use Rattle.sl_host_state.specs.HostStands.{LeaseStands}
use Rattle.sl_lease.specs.LeaseQuestions.{IsLastRead, TopStands, area_asked, leader_given, read_asked, read_given}
use Rattle.sl_lease.specs.Side.{known_with, layout_in, place_of}
use Rattle.sl_lease.specs.declared.outer_facts.Held.{Held}
use Rattle.sl_lease.specs.declared.side.Side.{Side}
use Rattle.sl_trace.specs.LeaseDecisions.{LeasePlace, after_bytes, after_read, after_write, area_next, asked_again, first_step, heard, lease_next, named_area_next, part_read, read_of_step, refuses, refuses_block, within_turn}
use Rattle.sl_trace.specs.Leases.{LeaseKnown, is_leader_of, known_of, last_blocks}
use Rattle.sl_trace.specs.declared.lease.Aim.TheVariants.{Acquires, Converts, Releases, Settles}
use Rattle.sl_trace.specs.declared.lease.Aim.{Aim}
use Rattle.sl_trace.specs.declared.lease.LeaseNext.TheVariants.{AnswerJob, ReadFor}
use Rattle.sl_trace.specs.declared.lease.LeaseNext.{LeaseNext}
use Rattle.sl_sector.specs.declared.sector.Block.{Block}
use Rattle.sl_sector.specs.declared.sector.Leader.{Leader}
use Rattle.sl_trace.specs.Traces.{Submitted}
use Rattle.sl_trace.specs.declared.effects.LeaseRead.TheVariants.{OfArea, OfBlock, OfFree, OfPhase1, OfPhase2}
use Rattle.sl_trace.specs.declared.effects.LeaseRead.{LeaseRead}
use Rattle.sl_trace.specs.declared.effects.LeaseStep.TheVariants.{ClearMode, FreeLeader, Phase1Read, Phase1Write, Phase2Read, Phase2Write, ReadAgain, ReadArea, ReadBeforeBlock, ReadBeforeFree, SetMode, TakeLeader}
use Rattle.sl_trace.specs.declared.effects.LeaseStep.{LeaseStep}
use Rattle.sl_trace.specs.declared.input.Answer.TheVariants.{Read, Written}
use Rattle.sl_trace.specs.declared.reply.Reply.TheVariants.{TornLeader, WrongArea}
use Rattle.sl_trace.specs.declared.reply.Reply.{Reply}
use Rattle.sl_words.proofs.CaseLaws.{none_some}
use Rattle.sl_words.specs.Bounds.{is_number}
use Rattle.std.proofs.Common.{Bool, List, None, Option, Some, ap, false, not, refl, subst, sym, true, ℕ, ◌&&◌, ◌+◌, ◌∙◌, ◌≡◌}

pub known_is : (z : Side) (l : LeaseState) (h : Held) (over : ℕ → ℕ → Bool) (ms : List Submitted) → LeaseStands (layout_in z) z.lockspace z.me l ms
    → known_with z l h over (last_blocks (layout_in z) ms) ≡ known_of (layout_in z) z.lockspace z.me h.shared h.exclusive over ms
known_is z l h over ms k = rw (k.own, first_is_kept (layout_in z) l.pair ms k.again k.kept k.second, k.turn, k.name, k.freed, k.ballot, k.shown, k.won) refl

pub top_stands : (z : Side) (l : LeaseState) (ms : List Submitted) → LeaseStands (layout_in z) z.lockspace z.me l ms → TopStands l (last_blocks (layout_in z) ms)
top_stands z l ms k = record { greatest_is = k.top; opened = k.opened }

-- What the area's read makes due, by its leader.
abbrev area_by : LeasePlace → LeaseKnown → Aim → List ℕ → Option Leader → List (Option Block) → LeaseNext
area_by p k aim name d read =
    elim d [
      | None ↦ AnswerJob TornLeader
      | Some l ↦ elim (is_leader_of p.layout p.lockspace name l) [
        | false ↦ AnswerJob (WrongArea l.lockspace l.resource l.num_hosts)
        | true ↦ named_area_next p k aim l read
      ]
    ]

area_is : (p : LeasePlace) (k : LeaseKnown) (aim : Aim) (name : List ℕ) (d : Option Leader) (read : List (Option Block)) → area_asked p k aim name d read ≡ area_by p k aim name d read
area_is p k aim name None read = refl
area_is p k aim name (Some d) read = refl

-- ---- a read

-- What a read makes due, by what it gave with what is kept of the first one.
abbrev due_after : LeasePlace → LeaseKnown → Aim → List ℕ → LeaseStep → LeaseNext
due_after p k aim bytes step = after_read p k aim (leader_read p.layout bytes (heard p.layout k bytes step)) (blocks_of p.layout (heard p.layout k bytes step)) (first_step step)

asked_by : (p : LeasePlace) (k : LeaseKnown) (aim : Aim) (bytes : List ℕ) (step : LeaseStep)
    → read_asked p k aim (leader_given p.layout k.kept step bytes) (read_given p.layout k.kept step bytes) step ≡ due_after p k aim bytes step
unfolding area_next
asked_by p k aim bytes (ReadArea name) = area_is p k aim name (leader_given p.layout k.kept (ReadArea name) bytes) (read_given p.layout k.kept (ReadArea name) bytes)
asked_by p k aim bytes ReadBeforeFree = refl
asked_by p k aim bytes ReadBeforeBlock = refl
asked_by p k aim bytes (ReadAgain (OfArea name)) =
    area_is p k aim name (leader_given p.layout k.kept (ReadAgain (OfArea name)) bytes) (read_given p.layout k.kept (ReadAgain (OfArea name)) bytes)
asked_by p k aim bytes (ReadAgain OfFree) = refl
asked_by p k aim bytes (ReadAgain OfBlock) = refl
asked_by p k aim bytes (ReadAgain OfPhase1) = refl
asked_by p k aim bytes (ReadAgain OfPhase2) = refl
asked_by p k aim bytes Phase1Write = refl
asked_by p k aim bytes Phase1Read = refl
asked_by p k aim bytes Phase2Write = refl
asked_by p k aim bytes Phase2Read = refl
asked_by p k aim bytes TakeLeader = refl
asked_by p k aim bytes SetMode = refl
asked_by p k aim bytes FreeLeader = refl
asked_by p k aim bytes ClearMode = refl

-- What is due by whether the read is to be made once more.
abbrev due_by : LeasePlace → LeaseKnown → Aim → List ℕ → LeaseStep → Option LeaseRead → LeaseNext
due_by p k aim bytes step o = elim o as (λ x. LeaseNext) [ Some read ↦ ReadFor (ReadAgain read) | None ↦ due_after p k aim bytes step ]

asked_is : (p : LeasePlace) (k : LeaseKnown) (aim : Aim) (call n : ℕ) (bytes : List ℕ) (step : LeaseStep) → asked_again p.layout bytes step ≡ None
    → read_asked p k aim (leader_given p.layout k.kept step bytes) (read_given p.layout k.kept step bytes) step ≡ lease_next p k aim call n step (Read bytes)
unfolding lease_next after_bytes
asked_is p k aim call n bytes step once = asked_by p k aim bytes step ∙ sym (ap (due_by p k aim bytes step) once)

-- Where it is to be made once more nothing else is asked.
pub again_asks_nothing : (p : LeasePlace) (k : LeaseKnown) (aim : Aim) (call n : ℕ) (bytes : List ℕ) (step : LeaseStep) (read : LeaseRead) → asked_again p.layout bytes step ≡ Some read
    → within_turn p k aim (lease_next p k aim call n step (Read bytes)) ≡ ReadFor (ReadAgain read)
unfolding lease_next after_bytes within_turn
again_asks_nothing p k aim call n bytes step read again =
    ap (λ o. elim (p.layout.paired && not (is_number (k.turn + 1))) as (λ x. LeaseNext) [ false ↦ due_by p k aim bytes step o | true ↦ refuses_block aim (due_by p k aim bytes step o) ]) again
    ∙ by (p.layout.paired && not (is_number (k.turn + 1))) where
      by : (b : Bool) → elim b as (λ x. LeaseNext) [ false ↦ ReadFor (ReadAgain read) | true ↦ ReadFor (ReadAgain read) ] ≡ ReadFor (ReadAgain read)
      by true = refl
      by false = refl

-- A refusal writes no block.
pub refusals_are_within : (p : LeasePlace) (k : LeaseKnown) (aim : Aim) (r : Reply) → within_turn p k aim (refuses aim r) ≡ refuses aim r
unfolding within_turn
refusals_are_within p k aim r = by (p.layout.paired && not (is_number (k.turn + 1))) aim where
  by : (b : Bool) (a : Aim) → elim b as (λ x. LeaseNext) [ false ↦ refuses a r | true ↦ refuses_block a (refuses a r) ] ≡ refuses a r
  by false a = refl
  by true (Acquires mode) = refl
  by true (Converts mode) = refl
  by true Releases = refl
  by true Settles = refl

-- .. and its step is that of this first read.
pub again_is_read : (g : Layout) (bytes : List ℕ) (step : LeaseStep) (read : LeaseRead) → asked_again g bytes step ≡ Some read → read_of_step step ≡ Some read
again_is_read g bytes step read again = by (needs_again g (part_read g bytes step)) again where
  by : (b : Bool) → elim b as (λ x. Option LeaseRead) [ false ↦ None | true ↦ read_of_step step ] ≡ Some read → read_of_step step ≡ Some read
  by true is = is
  by false is = absurd (none_some read is)

-- ---- what a lease decides is what its calls make due

module _ (z : Side) (l : LeaseState) (h : Held) (over : ℕ → ℕ → Bool) (ms : List Submitted) (k : LeaseStands (layout_in z) z.lockspace z.me l ms) where
  abbrev kept_known : List (Option Block) → LeaseKnown
  kept_known read = known_with z l h over read

  abbrev called_known : LeaseKnown
  called_known = known_of (layout_in z) z.lockspace z.me h.shared h.exclusive over ms

  -- By all that is asked of the lease but its last read.
  pub decides : (aim : Aim) (f : LeaseKnown → LeaseNext) (r next : LeaseNext) → r ≡ within_turn (place_of z) (kept_known (last_blocks (layout_in z) ms)) aim next
      → (TopStands l (last_blocks (layout_in z) ms) → next ≡ f (kept_known (last_blocks (layout_in z) ms))) → r ≡ within_turn (place_of z) called_known aim (f called_known)
  decides aim f r next bounded decided =
      bounded ∙ ap (within_turn (place_of z) (kept_known (last_blocks (layout_in z) ms)) aim) (decided (top_stands z l ms k))
      ∙ ap (λ x. within_turn (place_of z) x aim (f x)) (known_is z l h over ms k)

  -- By what a read gave.
  pub read_decides : (aim : Aim) (call n : ℕ) (bytes : List ℕ) (step : LeaseStep) (d : Option Leader) (read : List (Option Block)) (r next : LeaseNext) → IsLastRead (layout_in z) step bytes d read ms
      → r ≡ within_turn (place_of z) (kept_known read) aim next → (TopStands l read → next ≡ read_asked (place_of z) (kept_known read) aim d read step)
      → r ≡ within_turn (place_of z) called_known aim (lease_next (place_of z) called_known aim call n step (Read bytes))
  read_decides aim call n bytes step d read r next is bounded decided =
      let known : kept_known read ≡ called_known = ap kept_known is.newest ∙ known_is z l h over ms k in
      bounded ∙ ap (λ x. within_turn (place_of z) x aim next) known
      ∙ ap (within_turn (place_of z) called_known aim)
      (decided (subst (λ x. TopStands l x) (sym is.newest) (top_stands z l ms k))
      ∙ ap (λ x. read_asked (place_of z) x aim d read step) known
      ∙ ap (λ x. read_asked (place_of z) called_known aim x read step) is.leads
      ∙ ap (λ x. read_asked (place_of z) called_known aim (leader_given (layout_in z) called_known.kept step bytes) x step) is.shows
      ∙ asked_is (place_of z) called_known aim call n bytes step is.once)

  -- By a write that is done.
  pub write_decides : (aim : Aim) (call n : ℕ) (step : LeaseStep) (r next : LeaseNext) → r ≡ within_turn (place_of z) (kept_known (last_blocks (layout_in z) ms)) aim next
      → (TopStands l (last_blocks (layout_in z) ms) → next ≡ after_write (place_of z) (kept_known (last_blocks (layout_in z) ms)) aim n step)
      → r ≡ within_turn (place_of z) called_known aim (lease_next (place_of z) called_known aim call n step Written)
  unfolding lease_next
  write_decides aim call n step r next bounded decided = decides aim (λ x. after_write (place_of z) x aim n step) r next bounded decided
