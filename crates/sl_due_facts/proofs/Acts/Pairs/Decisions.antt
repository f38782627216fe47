-- What a lease decides in areas of either kind: with pairs a block whose turn would pass its limit is refused, a settling that writes a
-- block reads the blocks first, and a read may be made once more. So a predicate on decisions has these cases beside the old ones.
use Rattle.sl_due_facts.specs.Acts.Acts.{next_of_conversion, next_of_release, next_of_settling}
use Rattle.sl_area.specs.AreaSizes.{Layout}
use Rattle.sl_area.specs.Pairs.{blocks_of, needs_again, pair_back}
use Rattle.sl_area.specs.TornLeader.{leader_read}
use Rattle.sl_due.specs.CarriedLease.{next_of_lease}
use Rattle.sl_trace.specs.LeaseDecisions.{LeasePlace, after_bytes, after_read, asked_again, first_step, heard, lease_next, lease_place, owes_block, part_read, read_of_step, refuses, refuses_block, settle_begin, settle_next, settle_owed, within_turn}
use Rattle.sl_trace.specs.Conversions.{convert_next}
use Rattle.sl_trace.specs.Releases.{release_next}
use Rattle.sl_trace.specs.Leases.{LeaseKnown, known, lver_written, owed}
use Rattle.sl_trace.specs.Traces.{Setting, Submitted, Trace}
use Rattle.sl_trace.specs.declared.effects.Grant.{Grant}
use Rattle.sl_trace.specs.declared.effects.LeaseRead.{LeaseRead}
use Rattle.sl_trace.specs.declared.effects.LeaseStep.TheVariants.{ReadAgain, ReadBeforeBlock}
use Rattle.sl_trace.specs.declared.effects.LeaseStep.{LeaseStep}
use Rattle.sl_trace.specs.declared.effects.Mode.{Mode}
use Rattle.sl_trace.specs.declared.effects.Spot.{Spot}
use Rattle.sl_trace.specs.declared.input.Answer.{Answer}
use Rattle.sl_trace.specs.declared.lease.Aim.TheVariants.{Converts, Releases, Settles}
use Rattle.sl_trace.specs.declared.lease.Aim.{Aim}
use Rattle.sl_trace.specs.declared.lease.LeaseNext.TheVariants.{AnswerJob, BecomeExclusive, BecomeShared, GrantJob, Nothing, ReadFor, WriteBlock, WriteLeader}
use Rattle.sl_trace.specs.declared.lease.LeaseNext.{LeaseNext}
use Rattle.sl_trace.specs.declared.lease.Owed.TheVariants.{BallotOwed, FreeOwed, ModeOwed}
use Rattle.sl_trace.specs.declared.lease.Owed.{Owed}
use Rattle.sl_trace.specs.declared.reply.Limited.TheVariants.{Turn as TurnLimit}
use Rattle.sl_trace.specs.declared.reply.Reply.TheVariants.{Limit as LimitReached}
use Rattle.sl_trace.specs.declared.session.Session.{Session}
use Rattle.sl_words.proofs.CaseLaws.{false_is_true, none_some, true_is_false}
use Rattle.sl_words.proofs.WordLaws.{and_true}
use Rattle.sl_words.specs.Bounds.{is_number}
use Rattle.std.proofs.Common.{refl, subst, sym, ◌∙◌}
use Rattle.std.specs.List.{list_any, range_with_len}
use Rattle.std.specs.Prelude.{Bool, List, None, Option, Some, false, is_none, not, true, ℕ, ◌&&◌, ◌+◌, ◌≡◌}

-- ---- turns

-- Whether a decision writes a block of the own.
abbrev pub writes_own_block : LeaseNext → Bool
writes_own_block (WriteBlock step b) = true
writes_own_block (BecomeExclusive lver b) = true
writes_own_block next = false

-- The turn of a block that is written is within its limit.
abbrev pub TurnFits : LeasePlace → LeaseKnown → Type 0
TurnFits p k = p.layout.paired ≡ true → is_number (k.turn + 1) ≡ true

-- What was decided, where its turn fits; else a refusal.
pub within_cases : (K : LeaseNext → Type 0) (p : LeasePlace) (k : LeaseKnown) (aim : Aim) (next : LeaseNext) → ((writes_own_block next ≡ true → TurnFits p k) → K next)
    → (p.layout.paired ≡ true → is_number (k.turn + 1) ≡ false → writes_own_block next ≡ true → K (refuses aim (LimitReached TurnLimit))) → K (within_turn p k aim next)
unfolding within_turn
within_cases K p k aim next fits passed = by p.layout.paired (is_number (k.turn + 1)) refl refl where
  limited : (n : LeaseNext) → ((writes_own_block n ≡ true → TurnFits p k) → K n) → (writes_own_block n ≡ true → K (refuses aim (LimitReached TurnLimit))) → K (refuses_block aim n)
  limited (WriteBlock step b) keep stop = stop refl
  limited (BecomeExclusive lver b) keep stop = stop refl
  limited Nothing keep stop = keep (λ writes. absurd (false_is_true writes))
  limited (ReadFor step) keep stop = keep (λ writes. absurd (false_is_true writes))
  limited (WriteLeader step l) keep stop = keep (λ writes. absurd (false_is_true writes))
  limited (AnswerJob r) keep stop = keep (λ writes. absurd (false_is_true writes))
  limited (GrantJob mode lver) keep stop = keep (λ writes. absurd (false_is_true writes))
  limited (BecomeShared lver l) keep stop = keep (λ writes. absurd (false_is_true writes))

  by : (paired small : Bool) → p.layout.paired ≡ paired → is_number (k.turn + 1) ≡ small
      → K (elim (paired && not small) as (λ x. LeaseNext) [ false ↦ next | true ↦ refuses_block aim next ])
  by false small is number = fits (λ writes paired. absurd (true_is_false (sym paired ∙ is)))
  by true true is number = fits (λ writes paired. number)
  by true false is number = limited next fits (passed is number)

-- A decision that writes no block of the own stays.
pub within_same : (p : LeasePlace) (k : LeaseKnown) (aim : Aim) (next : LeaseNext) → writes_own_block next ≡ false → within_turn p k aim next ≡ next
within_same p k aim next none = within_cases (λ n. n ≡ next) p k aim next (λ fits. refl) (λ paired over writes. absurd (true_is_false (sym writes ∙ none)))

-- ---- how a settling begins

pub begin_cases : (K : LeaseNext → Type 0) (p : LeasePlace) (k : LeaseKnown) → (p.layout.paired ≡ true → owes_block (owed k) ≡ true → K (ReadFor ReadBeforeBlock))
    → ((p.layout.paired ≡ true → owes_block (owed k) ≡ false) → K (settle_next p k)) → K (settle_begin p k)
unfolding settle_begin
begin_cases K p k reads settles = by p.layout.paired (owes_block (owed k)) refl refl where
  by : (paired owes : Bool) → p.layout.paired ≡ paired → owes_block (owed k) ≡ owes
      → K (elim (paired && owes) as (λ x. LeaseNext) [ true ↦ ReadFor ReadBeforeBlock | false ↦ settle_next p k ])
  by false owes is block = settles (λ paired. absurd (true_is_false (sym paired ∙ is)))
  by true false is block = settles (λ paired. block)
  by true true is block = reads is block

-- Where no block is owed none is written.
owes_no_block : (p : LeasePlace) (k : LeaseKnown) (o : Option Owed) → owes_block o ≡ false → writes_own_block (settle_owed p k o) ≡ false
owes_no_block p k None none = refl
owes_no_block p k (Some (BallotOwed n)) none = absurd (true_is_false none)
owes_no_block p k (Some ModeOwed) none = absurd (true_is_false none)
owes_no_block p k (Some (FreeOwed n)) none = refl

settles_no_block : (p : LeasePlace) (k : LeaseKnown) → owes_block (owed k) ≡ false → writes_own_block (settle_next p k) ≡ false
unfolding settle_next
settles_no_block p k none = owes_no_block p k (owed k) none

-- A settling does what is owed, or reads before it writes a block: so no turn stops it as it begins.
pub settling_is : (K : LeaseNext → Type 0) (st : Setting) (es : Trace) (s : Session) (at : Spot) → (st.layout.paired ≡ true → owes_block (owed (known st es s at)) ≡ true → K (ReadFor ReadBeforeBlock))
    → ((st.layout.paired ≡ true → owes_block (owed (known st es s at)) ≡ false) → K (settle_next (lease_place st s) (known st es s at))) → K (next_of_settling st es s at)
settling_is K st es s at reads settles =
    let p : LeasePlace = lease_place st s in
    let k : LeaseKnown = known st es s at in
    begin_cases (λ n. K (within_turn p k Settles n)) p k (λ paired owes. subst K (sym (within_same p k Settles (ReadFor ReadBeforeBlock) refl)) (reads paired owes))
    (λ none. within_cases K p k Settles (settle_next p k) (λ fits. settles none) (λ paired over writes. absurd (true_is_false (sym writes ∙ settles_no_block p k (none paired)))))

-- ---- a release, a conversion, an answer

pub release_is : (K : LeaseNext → Type 0) (st : Setting) (es : Trace) (s : Session) (at : Spot) (g : Grant)
    → ((writes_own_block (release_next (lease_place st s) (known st es s at) g.mode g.lver) ≡ true → TurnFits (lease_place st s) (known st es s at)) → K (release_next (lease_place st s) (known st es s at) g.mode g.lver))
    → (st.layout.paired ≡ true → is_number ((known st es s at).turn + 1) ≡ false → writes_own_block (release_next (lease_place st s) (known st es s at) g.mode g.lver) ≡ true → K (AnswerJob (LimitReached TurnLimit)))
    → K (next_of_release st es s at g)
release_is K st es s at g fits passed = within_cases K (lease_place st s) (known st es s at) Releases (release_next (lease_place st s) (known st es s at) g.mode g.lver) fits passed

pub conversion_is : (K : LeaseNext → Type 0) (st : Setting) (es : Trace) (s : Session) (at : Spot) (mode : Mode) (name : List ℕ)
    → ((writes_own_block (convert_next (known st es s at) mode name) ≡ true → TurnFits (lease_place st s) (known st es s at)) → K (convert_next (known st es s at) mode name))
    → (st.layout.paired ≡ true → is_number ((known st es s at).turn + 1) ≡ false → writes_own_block (convert_next (known st es s at) mode name) ≡ true → K (AnswerJob (LimitReached TurnLimit)))
    → K (next_of_conversion st es s at mode name)
conversion_is K st es s at mode name fits passed = within_cases K (lease_place st s) (known st es s at) (Converts mode) (convert_next (known st es s at) mode name) fits passed

pub next_is : (K : LeaseNext → Type 0) (st : Setting) (es : Trace) (s : Session) (at : Spot) (aim : Aim) (m : Submitted) (step : LeaseStep) (answer : Answer)
    → ((writes_own_block (lease_next (lease_place st s) (known st es s at) aim m.call.number (lver_written m) step answer) ≡ true → TurnFits (lease_place st s) (known st es s at))
    → K (lease_next (lease_place st s) (known st es s at) aim m.call.number (lver_written m) step answer))
    → (st.layout.paired ≡ true → is_number ((known st es s at).turn + 1) ≡ false
    → writes_own_block (lease_next (lease_place st s) (known st es s at) aim m.call.number (lver_written m) step answer) ≡ true → K (refuses aim (LimitReached TurnLimit)))
    → K (next_of_lease st es s at aim m step answer)
next_is K st es s at aim m step answer fits passed =
    within_cases K (lease_place st s) (known st es s at) aim (lease_next (lease_place st s) (known st es s at) aim m.call.number (lver_written m) step answer) fits passed

-- ---- a read

-- After a read that gave these bytes: it is made once more, or what is decided goes by what was heard.
pub bytes_are : (K : LeaseNext → Type 0) (p : LeasePlace) (k : LeaseKnown) (aim : Aim) (bytes : List ℕ) (step : LeaseStep)
    → ((read : LeaseRead) → asked_again p.layout bytes step ≡ Some read → K (ReadFor (ReadAgain read)))
    → (asked_again p.layout bytes step ≡ None
    → K (after_read p k aim (leader_read p.layout bytes (heard p.layout k bytes step)) (blocks_of p.layout (heard p.layout k bytes step)) (first_step step)))
    → K (after_bytes p k aim bytes step)
unfolding after_bytes
bytes_are K p k aim bytes step again once = by (asked_again p.layout bytes step) refl where
  by : (o : Option LeaseRead) → asked_again p.layout bytes step ≡ o
      → K (elim o as (λ x. LeaseNext) [
        | Some read ↦ ReadFor (ReadAgain read)
        | None ↦ after_read p k aim (leader_read p.layout bytes (heard p.layout k bytes step)) (blocks_of p.layout (heard p.layout k bytes step)) (first_step step)
      ])
  by None is = once is
  by (Some read) is = again read is

-- A read that is asked once more is a first one, in whose answer some host's second sector is torn; that is so with pairs alone.
pub record IsAsked (g : Layout) (bytes : List ℕ) (step : LeaseStep) (read : LeaseRead) : Type 0 where
  pub paired : g.paired ≡ true
  pub first : read_of_step step ≡ Some read
  pub torn : needs_again g (part_read g bytes step) ≡ true

pub asked_is : (g : Layout) (bytes : List ℕ) (step : LeaseStep) (read : LeaseRead) → asked_again g bytes step ≡ Some read → IsAsked g bytes step read
asked_is g bytes step read is = by (needs_again g (part_read g bytes step)) refl is where
  by : (torn : Bool) → needs_again g (part_read g bytes step) ≡ torn → elim torn as (λ x. Option LeaseRead) [ false ↦ None | true ↦ read_of_step step ] ≡ Some read → IsAsked g bytes step read
  by false torn asked = absurd (none_some read asked)
  by true torn asked = record { paired = (and_true g.paired (list_any (λ id. is_none (pair_back g (part_read g bytes step) id)) (range_with_len 1 g.hosts)) torn).0; first = asked; torn = torn }

-- A first read that is not asked once more is whole.
pub not_asked : (g : Layout) (bytes : List ℕ) (step : LeaseStep) (read : LeaseRead) → read_of_step step ≡ Some read → asked_again g bytes step ≡ None → needs_again g (part_read g bytes step) ≡ false
not_asked g bytes step read first none = by (needs_again g (part_read g bytes step)) refl none where
  by : (torn : Bool) → needs_again g (part_read g bytes step) ≡ torn → elim torn as (λ x. Option LeaseRead) [ false ↦ None | true ↦ read_of_step step ] ≡ None → needs_again g (part_read g bytes step) ≡ false
  by false torn asked = torn
  by true torn asked = absurd (none_some read (sym asked ∙ first))
