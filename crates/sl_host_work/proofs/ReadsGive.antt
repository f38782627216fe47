-- What a member's lease decides by behind a read is what the read gave, with what is kept of the first one; or, where it is to be made once
-- more, what is kept.
use Rattle.sl_area.specs.AreaSizes.{Layout, Sizes, layout_of}
use Rattle.sl_area.specs.Pairs.{BlocksRead, blocks_of, needs_again, read_once}
use Rattle.sl_area.specs.TornLeader.{leader_read}
use Rattle.sl_host.specs.declared.told_answers.Told.TheVariants.{Again, Gave}
use Rattle.sl_host.specs.declared.told_answers.Told.{Told}
use Rattle.sl_host_law.specs.Steps.Leases.{blocks_at, kept_blocks, lease_at}
use Rattle.sl_host_state.specs.HeardInputs.{read_heard}
use Rattle.sl_host_state.specs.KeptState.{LeaseState, MemberState, PairState}
use Rattle.sl_host_state.specs.HostStands.{first_read}
use Rattle.sl_host_work.specs.LeaseQuestions.{IsShown, blocks_told}
use Rattle.sl_lease.specs.LeaseQuestions.{area_asked, heard_with, leader_given, read_asked, read_given}
use Rattle.sl_lease.specs.Laws.{first_by}
use Rattle.sl_lease.specs.Steps.{is_read_step}
use Rattle.sl_sector.specs.declared.sector.Block.{Block}
use Rattle.sl_sector.specs.declared.sector.Leader.{Leader}
use Rattle.sl_sector.specs.declared.sector.PairBlock.{PairBlock}
use Rattle.sl_trace.specs.LeaseDecisions.{LeasePlace, after_bytes, after_read, area_next, asked_again, first_step, heard, lease_next, named_area_next, part_read}
use Rattle.sl_trace.specs.Leases.{LeaseKnown, given_with, is_leader_of, is_second}
use Rattle.sl_trace.specs.declared.lease.Aim.{Aim}
use Rattle.sl_trace.specs.declared.lease.LeaseNext.TheVariants.{AnswerJob, ReadFor}
use Rattle.sl_trace.specs.declared.lease.LeaseNext.{LeaseNext}
use Rattle.sl_trace.specs.declared.effects.LeaseRead.TheVariants.{OfArea, OfBlock, OfFree, OfPhase1, OfPhase2}
use Rattle.sl_trace.specs.declared.effects.LeaseRead.{LeaseRead}
use Rattle.sl_trace.specs.declared.effects.LeaseStep.TheVariants.{ClearMode, FreeLeader, Phase1Read, Phase1Write, Phase2Read, Phase2Write, ReadAgain, ReadArea, ReadBeforeBlock, ReadBeforeFree, SetMode, TakeLeader}
use Rattle.sl_trace.specs.declared.effects.LeaseStep.{LeaseStep}
use Rattle.sl_trace.specs.declared.effects.Spot.{Spot}
use Rattle.sl_trace.specs.declared.input.Answer.TheVariants.{Read}
use Rattle.sl_trace.specs.declared.reply.Reply.TheVariants.{TornLeader, WrongArea}
use Rattle.sl_words.proofs.CaseLaws.{false_is_true, none_some, true_is_false}
use Rattle.sl_words.specs.Words.{choose}
use Rattle.std.proofs.Common.{ap, refl, sym, ◌∙◌}
use Rattle.std.specs.Prelude.{Bool, IsTrue, List, None, Option, Some, [], cond, false, is_some, not, option_map, true, unwrap_or, ℕ, ◌≡◌}

-- ---- once or once more

-- A read of blocks that is not made once more.
once_is : (b : Bool) (read : LeaseRead) → elim b as (λ x. Option LeaseRead) [ false ↦ None | true ↦ Some read ] ≡ None → b ≡ false
once_is false read e = refl
once_is true read e = absurd (none_some read (sym e))

again_is : (b : Bool) (read : Option LeaseRead) → is_some (elim b as (λ x. Option LeaseRead) [ false ↦ None | true ↦ read ]) ≡ true → b ≡ true
again_is true read e = refl
again_is false read e = absurd (false_is_true e)

none_again : (b : Bool) → is_some (elim b as (λ x. Option LeaseRead) [ false ↦ None | true ↦ None ]) ≡ true → false ≡ true
none_again true e = e
none_again false e = e

pub none_asked : (o : Option LeaseRead) → is_some o ≡ false → o ≡ None
none_asked None h = refl
none_asked (Some read) h = absurd (true_is_false h)

-- What is kept of the first of two reads, for the step and by the lease.
pub first_same : (p : PairState) (step : LeaseStep) → is_second step ≡ p.again → first_by p step ≡ first_read p
first_same p step again = ap (λ b. cond b (unwrap_or p.first []) []) again

module _ (g : Layout) (p : PairState) (bytes : List ℕ) where
  alone : (bs : List ℕ) → needs_again g bs ≡ false → false ≡ p.again → choose (not (needs_again g bs)) (read_once bs) ≡ Some (record { kept = first_read p; last = bs })
  alone bs once first =
      ap (λ b. choose (not b) (read_once bs)) once
      ∙ ap (λ b. let r : BlocksRead = record { kept = cond b (unwrap_or p.first []) []; last = bs } in Some r) first

  both : (bs : List ℕ) → true ≡ p.again → IsTrue (is_some p.first) → given_with g true p.first (Some bs) ≡ Some (record { kept = first_read p; last = bs })
  both bs second there =
      by p.first there ∙ ap (λ b. let r : BlocksRead = record { kept = cond b (unwrap_or p.first []) []; last = bs } in Some r) second
    where
      by : (o : Option (List (Option PairBlock))) → IsTrue (is_some o) → given_with g true o (Some bs) ≡ Some (record { kept = unwrap_or o []; last = bs })
      by None there = absurd (false_is_true there)
      by (Some pairs) there = refl

  -- What a read gives that is not made once more.
  pub gives : (step : LeaseStep) → is_read_step step ≡ true → asked_again g bytes step ≡ None → is_second step ≡ p.again → (p.again ≡ true → IsTrue (is_some p.first))
      → read_heard g p step bytes ≡ Some (heard_with g (first_read p) step bytes)
  gives (ReadArea name) is once again kept = alone (part_read g bytes (ReadArea name)) (once_is (needs_again g (part_read g bytes (ReadArea name))) (OfArea name) once) again
  gives ReadBeforeFree is once again kept = alone (part_read g bytes ReadBeforeFree) (once_is (needs_again g (part_read g bytes ReadBeforeFree)) OfFree once) again
  gives ReadBeforeBlock is once again kept = alone bytes (once_is (needs_again g bytes) OfBlock once) again
  gives (ReadAgain (OfArea name)) is once again kept = both (part_read g bytes (ReadArea name)) again (kept (sym again))
  gives (ReadAgain OfFree) is once again kept = both (part_read g bytes ReadBeforeFree) again (kept (sym again))
  gives (ReadAgain OfBlock) is once again kept = both bytes again (kept (sym again))
  gives (ReadAgain OfPhase1) is once again kept = both bytes again (kept (sym again))
  gives (ReadAgain OfPhase2) is once again kept = both bytes again (kept (sym again))
  gives Phase1Write is once again kept = absurd (false_is_true is)
  gives Phase1Read is once again kept = alone bytes (once_is (needs_again g bytes) OfPhase1 once) again
  gives Phase2Write is once again kept = absurd (false_is_true is)
  gives Phase2Read is once again kept = alone bytes (once_is (needs_again g bytes) OfPhase2 once) again
  gives TakeLeader is once again kept = absurd (false_is_true is)
  gives SetMode is once again kept = absurd (false_is_true is)
  gives FreeLeader is once again kept = absurd (false_is_true is)
  gives ClearMode is once again kept = absurd (false_is_true is)

  nothing : (bs : List ℕ) → needs_again g bs ≡ true → choose (not (needs_again g bs)) (read_once bs) ≡ None
  nothing bs again = ap (λ b. choose (not b) (read_once bs)) again

  -- One that is to be made once more gives nothing by itself.
  pub gives_nothing : (step : LeaseStep) → is_some (asked_again g bytes step) ≡ true → read_heard g p step bytes ≡ None
  gives_nothing (ReadArea name) is = nothing (part_read g bytes (ReadArea name)) (again_is (needs_again g (part_read g bytes (ReadArea name))) (Some (OfArea name)) is)
  gives_nothing ReadBeforeFree is = nothing (part_read g bytes ReadBeforeFree) (again_is (needs_again g (part_read g bytes ReadBeforeFree)) (Some OfFree) is)
  gives_nothing ReadBeforeBlock is = nothing bytes (again_is (needs_again g bytes) (Some OfBlock) is)
  gives_nothing Phase1Read is = nothing bytes (again_is (needs_again g bytes) (Some OfPhase1) is)
  gives_nothing Phase2Read is = nothing bytes (again_is (needs_again g bytes) (Some OfPhase2) is)
  gives_nothing step is = absurd (false_is_true (none_again (needs_again g bytes) is))

-- ---- the blocks that a lease decides by

-- Those that the read gave.
pub blocks_given : (g : Layout) (l : LeaseState) (step : LeaseStep) (bytes : List ℕ) → is_read_step step ≡ true → asked_again g bytes step ≡ None → is_second step ≡ l.pair.again
    → (l.pair.again ≡ true → IsTrue (is_some l.pair.first)) → read_given g (first_read l.pair) step bytes ≡ blocks_at g l step (Read bytes)
blocks_given g l step bytes is once again kept = sym (ap (λ o. unwrap_or (option_map (blocks_of g) o) (kept_blocks l)) (gives g l.pair bytes step is once again kept))

-- What is kept, where it is to be made once more.
pub blocks_kept : (g : Layout) (l : LeaseState) (step : LeaseStep) (bytes : List ℕ) → is_some (asked_again g bytes step) ≡ true → kept_blocks l ≡ blocks_at g l step (Read bytes)
blocks_kept g l step bytes is = sym (ap (λ o. unwrap_or (option_map (blocks_of g) o) (kept_blocks l)) (gives_nothing g l.pair bytes step is))

-- So it is of what a member's lease is told.
module _ (z : Sizes) (m : MemberState) (at : Spot) (step : LeaseStep) (bytes : List ℕ) (told : Told) (blocks : List (Option Block)) (s : IsShown z m at step bytes told blocks) where
  abbrev lease : LeaseState
  lease = lease_at m at

  abbrev first : List (Option PairBlock)
  first = first_read lease.pair

  pub once_told : (leader : Option Leader) → told ≡ Gave leader → asked_again (layout_of z) bytes step ≡ None
  once_told leader so = none_asked (asked_again (layout_of z) bytes step) (s.told.gave leader so).0

  pub leader_told : (leader : Option Leader) → told ≡ Gave leader → leader ≡ leader_given (layout_of z) first step bytes
  leader_told leader so = (s.told.gave leader so).1 ∙ ap (λ f. leader_given (layout_of z) f step bytes) (first_same lease.pair step s.known.again)

  pub given_told : (leader : Option Leader) → told ≡ Gave leader → blocks ≡ read_given (layout_of z) first step bytes
  given_told leader so = (s.told.gave leader so).2 ∙ ap (λ f. read_given (layout_of z) f step bytes) (first_same lease.pair step s.known.again)

  pub blocks_are : blocks_told told blocks lease ≡ blocks_at (layout_of z) lease step (Read bytes)
  blocks_are = by told refl
    where
      by : (t : Told) → told ≡ t → blocks_told t blocks lease ≡ blocks_at (layout_of z) lease step (Read bytes)
      by Again so = blocks_kept (layout_of z) lease step bytes (s.told.again so)
      by (Gave leader) so =
          given_told leader so ∙ blocks_given (layout_of z) lease step bytes s.known.reads (once_told leader so) s.known.again s.known.kept

-- ---- what is asked of leader and blocks is asked of the bytes that show them

-- After a read of the area that gives this leader, if it reads one.
abbrev area_by : LeasePlace → LeaseKnown → Aim → List ℕ → Option Leader → List (Option Block) → LeaseNext
area_by p k aim name d read =
    elim d [
      | None ↦ AnswerJob TornLeader
      | Some l ↦ elim (is_leader_of p.layout p.lockspace name l) [
        | false ↦ AnswerJob (WrongArea l.lockspace l.resource l.num_hosts)
        | true ↦ named_area_next p k aim l read
      ]
    ]

area_is : (p : LeasePlace) (k : LeaseKnown) (aim : Aim) (name : List ℕ) (read : List (Option Block)) (d : Option Leader) → area_asked p k aim name d read ≡ area_by p k aim name d read
area_is p k aim name read None = refl
area_is p k aim name read (Some d) = refl

module _ (p : LeasePlace) (k : LeaseKnown) (aim : Aim) (bytes : List ℕ) where
  abbrev given : LeaseStep → Option Leader
  given step = leader_given p.layout k.kept step bytes

  abbrev blocks_read : LeaseStep → List (Option Block)
  blocks_read step = read_given p.layout k.kept step bytes

  abbrev due : LeaseStep → LeaseNext
  due step = after_read p k aim (leader_read p.layout bytes (heard p.layout k bytes step)) (blocks_of p.layout (heard p.layout k bytes step)) (first_step step)

  asked_by : (step : LeaseStep) → read_asked p k aim (given step) (blocks_read step) step ≡ due step
  unfolding area_next
  asked_by (ReadArea name) = area_is p k aim name (blocks_read (ReadArea name)) (given (ReadArea name))
  asked_by ReadBeforeFree = refl
  asked_by ReadBeforeBlock = refl
  asked_by (ReadAgain (OfArea name)) = area_is p k aim name (blocks_read (ReadAgain (OfArea name))) (given (ReadAgain (OfArea name)))
  asked_by (ReadAgain OfFree) = refl
  asked_by (ReadAgain OfBlock) = refl
  asked_by (ReadAgain OfPhase1) = refl
  asked_by (ReadAgain OfPhase2) = refl
  asked_by Phase1Write = refl
  asked_by Phase1Read = refl
  asked_by Phase2Write = refl
  asked_by Phase2Read = refl
  asked_by TakeLeader = refl
  asked_by SetMode = refl
  asked_by FreeLeader = refl
  asked_by ClearMode = refl

  pub asked_is : (call n : ℕ) (step : LeaseStep) → asked_again p.layout bytes step ≡ None → read_asked p k aim (given step) (blocks_read step) step ≡ lease_next p k aim call n step (Read bytes)
  unfolding lease_next after_bytes
  asked_is call n step once = asked_by step ∙ sym (ap (λ o. elim o as (λ x. LeaseNext) [ Some read ↦ ReadFor (ReadAgain read) | None ↦ due step ]) once)

-- The leader of the area, by the read of the resource that is sought.
pub leader_of_area : (g : Layout) (k : LeaseKnown) (bytes : List ℕ) (step : LeaseStep) (name : List ℕ) (l : Leader) → first_step step ≡ ReadArea name
    → leader_read g bytes (heard g k bytes step) ≡ Some l → leader_given g k.kept step bytes ≡ Some l
leader_of_area g k bytes (ReadArea other) name l is gives = gives
leader_of_area g k bytes ReadBeforeFree name l is gives = gives
leader_of_area g k bytes (ReadAgain (OfArea other)) name l is gives = gives
leader_of_area g k bytes (ReadAgain OfFree) name l is gives = gives
leader_of_area g k bytes step name l is gives = absurd cc
