-- What a lease's call is answered with has its cause, and keeps it to the entry's end: from then on the lease does nothing more.
use Rattle.sl_due_facts.proofs.Acts.Pairs.Decisions.{bytes_are, within_cases, writes_own_block}
use Rattle.sl_area.specs.Pairs.{blocks_of}
use Rattle.sl_area.specs.TornLeader.{leader_read}
use Rattle.sl_area.specs.AreaLayout.{blocks_part}
use Rattle.sl_due_facts.specs.Acts.Acts.{Has, Hears}
use Rattle.sl_due_facts.specs.Acts.TraceSoFar.{entry_of}
use Rattle.sl_due_law.proofs.Causes.AnsweredJobs.{AnswersHere, answers_here, its_command, told_not_waking, with_command, with_spot}
use Rattle.sl_due_law.proofs.Causes.LaterSteps.{after_that, by_effects, replied_later, replied_over}
use Rattle.sl_due_law.proofs.Causes.Leases.AreaCauses.{area_well}
use Rattle.sl_due_law.proofs.Causes.Leases.HeardLeases.{IsWell, LeaseHeard, at_step, knows}
use Rattle.sl_due_law.proofs.Causes.Leases.Limits.{not_number, refuses_well}
use Rattle.sl_due_law.proofs.Causes.Leases.NewestWays.{NewestWays, newest_told, newest_ways}
use Rattle.sl_due_law.proofs.Causes.Leases.PhaseCauses.{PhaseHeard, no_settling, phase1_well, phase2_well}
use Rattle.sl_due_law.proofs.Causes.NamesBefore.{session_then, with_session}
use Rattle.sl_due_law.specs.Causes.CausedSoFar.{HasCause, IsCarried, IsConcluded, IsLater, KeepsLeases, StaysCaused, answering}
use Rattle.sl_due.specs.CarriedLease.{next_of_lease}
use Rattle.sl_due.specs.Steps.{Step, add_reply, seen, with_effects}
use Rattle.sl_due_leases.proofs.Holdings.LeaseCallers.{caller_joined, heard_answered, heard_call, heard_session, in_turn_fits}
use Rattle.sl_due_leases.specs.Holdings.Moments.{Known}
use Rattle.sl_due_facts.proofs.Jobs.CallsHaveFacts.{sessions_bare}
use Rattle.sl_due_facts.proofs.Jobs.CallsStay.{IsLate, calls_stay}
use Rattle.sl_due_facts.proofs.Jobs.JobsAreAllowed.{calls_heard}
use Rattle.sl_due_law.proofs.LawfulTraces.HeardBefore.{command_past}
use Rattle.sl_due_law.specs.LawfulTraces.JobLore.{AllSuit, suits}
use Rattle.sl_due_leases.proofs.Ways.GivenReads.{blocks_heard, heard_by_lease}
use Rattle.sl_due_facts.proofs.Jobs.RepliesComeAfter.{mapped_or}
use Rattle.sl_run.specs.Caused.{Answering, BlockIsNext, CausedBy, WithSpot, after_entry, changes_mode, the_session}
use Rattle.sl_run.specs.LawForms.{IsAnsweredAt}
use Rattle.sl_trace.specs.Ballots.{instance_of}
use Rattle.sl_trace.specs.Jobs.{aim_of, aim_of_command, command_numbered, lockspace_named, resource_named}
use Rattle.sl_trace.specs.LeaseDecisions.{after_read, after_take, area_next, asked_again, first_step, heard, lease_next, lease_place, part_read, read_of_step, within_turn}
use Rattle.sl_trace.specs.Leases.{Area_read, LeaseKnown, Leader_taken, Phase1_read, Phase2_read, StepKind, base_turn, exclusive_on, freed, has_shared_on, kind_of_step, known, known_of, lease_calls, lver_written, owed_free, same_kind, spot_of, spot_of_call, top_lver}
use Rattle.sl_trace.specs.declared.lease.Aim.TheVariants.{Acquires, Converts, Releases, Settles}
use Rattle.sl_trace.specs.declared.lease.Aim.{Aim}
use Rattle.sl_trace.specs.declared.lease.Instance.{Instance}
use Rattle.sl_trace.specs.declared.lease.LeaseNext.TheVariants.{AnswerJob, BecomeExclusive, BecomeShared, GrantJob, Nothing, ReadFor, WriteBlock, WriteLeader}
use Rattle.sl_trace.specs.declared.lease.LeaseNext.{LeaseNext}
use Rattle.sl_words.proofs.Lists.{got_inside, in_map, kept}
use Rattle.sl_words.proofs.Numbers.{number_itself}
use Rattle.sl_words.proofs.Options.{then_value}
use Rattle.sl_sector.specs.declared.sector.Block.{Block}
use Rattle.sl_sector.specs.declared.sector.Leader.{Leader}
use Rattle.sl_sector.specs.declared.sector.Owner.{Owner}
use Rattle.sl_trace.specs.Sessions.{calls_of, generation_of, removed_in, is_call_of, is_joined, joined_after, me, removed_after, session_numbered, sessions}
use Rattle.sl_trace.specs.Sightings.{counts_over, evidence_in}
use Rattle.sl_trace.specs.declared.session.Session.{Session}
use Rattle.sl_due_facts.specs.Facts.JobFacts.{FitsCommand, SeeksResource}
use Rattle.sl_due_facts.specs.Facts.AllFacts.{WholeTrace}
use Rattle.sl_trace.specs.Traces.{Answered, Job, Setting, Submitted, Trace, answered_in, is_write, bytes_given, job_numbered, job_of, submitted}
use Rattle.sl_trace.specs.KillPrograms.{is_done}
use Rattle.sl_trace.specs.declared.command.Command.TheVariants.{Acquire, AddLockspace, Convert, GetLvb, HostStatus, InqLockspace, Release, ReleaseOrphan, RemLockspace, Request, RunProgram, SetKillpath, SetLvb, Status, TakeOver}
use Rattle.sl_trace.specs.declared.command.Command.{Command}
use Rattle.sl_trace.specs.declared.command.ResourceArg.{ResourceArg}
use Rattle.sl_trace.specs.declared.effects.Effects.{Effects}
use Rattle.sl_trace.specs.declared.effects.LeaseRead.TheVariants.{OfArea, OfBlock, OfFree, OfPhase1, OfPhase2}
use Rattle.sl_trace.specs.declared.effects.LeaseStep.TheVariants.{ClearMode, FreeLeader, Phase1Read, Phase1Write, Phase2Read, Phase2Write, ReadAgain, ReadArea, ReadBeforeBlock, ReadBeforeFree, SetMode, TakeLeader}
use Rattle.sl_trace.specs.declared.effects.LeaseStep.{LeaseStep}
use Rattle.sl_trace.specs.declared.effects.Mode.TheVariants.{Exclusive, Shared}
use Rattle.sl_trace.specs.declared.effects.Purpose.TheVariants.{Lease}
use Rattle.sl_trace.specs.declared.effects.Spot.{Spot}
use Rattle.sl_trace.specs.declared.effects.Work.TheVariants.{ForJob}
use Rattle.sl_trace.specs.declared.effects.Work.{Work}
use Rattle.sl_trace.specs.declared.effects.Call.{Call}
use Rattle.sl_trace.specs.declared.effects.Entry.{Entry}
use Rattle.sl_trace.specs.declared.effects.Grant.{Grant}
use Rattle.sl_trace.specs.declared.effects.Purpose.{Purpose}
use Rattle.sl_trace.specs.declared.input.Answer.TheVariants.{Failed, Read, Written}
use Rattle.sl_trace.specs.declared.input.Answer.{Answer}
use Rattle.sl_trace.specs.declared.reply.Reply.TheVariants.{Done, IoFault, Limit as LimitReached}
use Rattle.sl_trace.specs.declared.reply.Limited.TheVariants.{Turn as TurnLimit}
use Rattle.sl_trace.specs.declared.reply.Reply.{Reply}
use Rattle.sl_run_law.proofs.Sessions.MarksStay.{joined_more}
use Rattle.sl_run_law.proofs.Sessions.CallsAreMade.{same_answered}
use Rattle.sl_run_law.proofs.Sessions.WritesAreCovered.{joinings_are_in_turn}
use Rattle.sl_run_law.specs.Sessions.SessionLaws.{fits, fits_as}
use Rattle.sl_words.proofs.CaseLaws.{false_is_true, none_some, not_both, some_value}
use Rattle.sl_words.proofs.WordLaws.{and_true}
use Rattle.sl_words.specs.Bounds.{is_number, record_numbers}
use Rattle.sl_words.specs.Words.{present}
use Rattle.sl_due_facts.proofs.Acts.InputsKeep.{has_heard}
use Rattle.std.proofs.Common.{ap, ap₂, inl, inr, refl, subst, sym, ◌∙◌}
use Rattle.std.specs.Prelude.{Bool, Contains, IsTrue, List, None, Ok, Option, Some, [], cond, map, not, slice_get, false, filter, find, is_none, is_some, length, nat_lt, option_and_then, option_map, true, ℕ, ◌&&◌, ◌+◌, ◌==◌, ◌∷◌, ◌≡◌, ◌≤◌}

-- ---- what comes next after any answer

-- Whose aim changes a mode once the leader is taken.
abbrev changes_by : Aim → Bool
changes_by (Acquires Shared) = true
changes_by (Converts Exclusive) = true
changes_by aim = false

-- A command changes the mode as its aim does.
changes_it : (c : Command) (aim : Aim) → aim_of_command c ≡ Some aim → changes_by aim ≡ true → changes_mode c ≡ true
changes_it (Acquire r true p persistent) aim is changes = refl
changes_it (Acquire r false p persistent) aim is changes = absurd (false_is_true (ap (λ a. changes_by a) (some_value (Acquires Exclusive) aim is) ∙ changes))
changes_it (RunProgram r true path) aim is changes = refl
changes_it (RunProgram r false path) aim is changes = absurd (false_is_true (ap (λ a. changes_by a) (some_value (Acquires Exclusive) aim is) ∙ changes))
changes_it (Convert r false p) aim is changes = refl
changes_it (Convert r true p) aim is changes = absurd (false_is_true (ap (λ a. changes_by a) (some_value (Converts Shared) aim is) ∙ changes))
changes_it (Release r p) aim is changes = absurd (false_is_true (ap (λ a. changes_by a) (some_value Releases aim is) ∙ changes))
changes_it (ReleaseOrphan r) aim is changes = absurd (false_is_true (ap (λ a. changes_by a) (some_value Releases aim is) ∙ changes))
changes_it (AddLockspace a) aim is changes = absurd (none_some aim is)
changes_it (RemLockspace a) aim is changes = absurd (none_some aim is)
changes_it (InqLockspace a) aim is changes = absurd (none_some aim is)
changes_it (HostStatus a) aim is changes = absurd (none_some aim is)
changes_it (TakeOver r shared p persistent) aim is changes = absurd (none_some aim is)
changes_it (Request r lver force) aim is changes = absurd (none_some aim is)
changes_it (GetLvb r p) aim is changes = absurd (none_some aim is)
changes_it (SetLvb r p bytes) aim is changes = absurd (none_some aim is)
changes_it (SetKillpath p path) aim is changes = absurd (none_some aim is)
changes_it Status aim is changes = absurd (none_some aim is)

-- Once the leader was taken for a mode, the block with it is next.
mode_next : (y : Answering) (s : Session) (c : Submitted) (command : Command) (aim : Aim) → LeaseHeard y s c Written TakeLeader command → aim_of_command command ≡ Some aim → changes_by aim ≡ true → BlockIsNext y
mode_next y s c command aim h aims changes =
    inr (inr (inl (
      with_command y command (λ a. IsTrue (changes_mode a)) h.commanded (changes_it command aim aims changes),
      (lver_written c, (c, h.call, (at_step y s c Written TakeLeader command h Leader_taken refl, refl))),
    )))

taken_well : (these : Reply → Bool) (y : Answering) (s : Session) (c : Submitted) (command : Command) (aim : Aim) (n : ℕ) → (h : LeaseHeard y s c Written TakeLeader command) → aim_of_command command ≡ Some aim
    → IsWell these y (after_take (knows h) aim n)
taken_well these y s c command (Acquires Exclusive) n h aims = tt
taken_well these y s c command (Acquires Shared) n h aims = mapped_or (IsWell these y) _ (knows h).own Nothing (λ own. mode_next y s c command (Acquires Shared) h aims refl) tt
taken_well these y s c command (Converts Exclusive) n h aims = mapped_or (IsWell these y) _ (knows h).own Nothing (λ own. mode_next y s c command (Converts Exclusive) h aims refl) tt
taken_well these y s c command (Converts Shared) n h aims = tt
taken_well these y s c command Releases n h aims = tt
taken_well these y s c command Settles n h aims = tt

-- What the step that is made, or made once more, seeks.
abbrev name_in : LeaseStep → Option (List ℕ)
name_in (ReadArea name) = Some name
name_in step = None

seeks_by : (r : ResourceArg) (step : LeaseStep) → SeeksResource r step → (name : List ℕ) → name_in (first_step step) ≡ Some name → name ≡ r.name
seeks_by r (ReadArea k) sought name is = some_value name k (sym is) ∙ sought
seeks_by r (ReadAgain (OfArea k)) sought name is = some_value name k (sym is) ∙ sought
seeks_by r (ReadAgain OfFree) sought name is = absurd (none_some name is)
seeks_by r (ReadAgain OfBlock) sought name is = absurd (none_some name is)
seeks_by r (ReadAgain OfPhase1) sought name is = absurd (none_some name is)
seeks_by r (ReadAgain OfPhase2) sought name is = absurd (none_some name is)
seeks_by r step sought name is = absurd (none_some name is)

-- No job looks before a settling's block.
no_block_look : (command : Command) (aim : Aim) → aim_of_command command ≡ Some aim → suits aim ReadBeforeBlock ≡ true → ⊥
no_block_look command (Acquires mode) aims fits = false_is_true fits
no_block_look command (Converts mode) aims fits = false_is_true fits
no_block_look command Releases aims fits = false_is_true fits
no_block_look command Settles aims fits = no_settling command aims

no_second_look : (command : Command) (aim : Aim) → aim_of_command command ≡ Some aim → suits aim (ReadAgain OfBlock) ≡ true → ⊥
no_second_look command (Acquires mode) aims fits = false_is_true fits
no_second_look command (Converts mode) aims fits = false_is_true fits
no_second_look command Releases aims fits = false_is_true fits
no_second_look command Settles aims fits = no_settling command aims

-- A release runs no ballot.
keeps_by : (aim : Aim) (step : LeaseStep) → suits Releases step ≡ false → suits aim step ≡ true → aim ≡ Releases → ⊥
keeps_by aim step none fits is = not_both (suits aim step) fits (subst (λ a. suits a step ≡ false) (sym is) none)

-- A work's job, its aim, and what the call that was heard is for.
record Leads (y : Answering) (s : Session) (r : ResourceArg) (command : Command) (aim : Aim) (step : LeaseStep) : Type 0 where
  space : r.lockspace ≡ s.lockspace
  names : resource_named command ≡ Some r
  seeks : (name : List ℕ) → name_in (first_step step) ≡ Some name → name ≡ r.name
  aims : aim_of_command command ≡ Some aim
  fits : suits aim step ≡ true

-- What a read leads to that isn't made once more has its cause.
read_well : (these : Reply → Bool) (y : Answering) (s : Session) (r : ResourceArg) (c : Submitted) (bytes : List ℕ) (command : Command) (aim : Aim) (step : LeaseStep)
    → (h : LeaseHeard y s c (Read bytes) step command) → Leads y s r command aim step → asked_again y.setting.layout bytes step ≡ None
    → IsWell these y (after_read (lease_place y.setting s) (knows h) aim (leader_read y.setting.layout bytes (heard y.setting.layout (knows h) bytes step))
    (blocks_of y.setting.layout (heard y.setting.layout (knows h) bytes step)) (first_step step))
read_well these y s r c bytes command aim step h l once = by step h l once where
  named : (name : List ℕ) → name ≡ r.name → resource_named command ≡ Some (record r { name = name })
  named name is = l.names ∙ ap (λ k. Some (record r { name = k })) (sym is)

  area : (step : LeaseStep) (name : List ℕ) → (h : LeaseHeard y s c (Read bytes) step command) → Leads y s r command aim step → asked_again y.setting.layout bytes step ≡ None → is_some (read_of_step (first_step step)) ≡ true
      → same_kind (kind_of_step step) Area_read ≡ true → part_read y.setting.layout bytes (first_step step) ≡ blocks_part y.setting.layout bytes → name ≡ r.name
      → IsWell these y (area_next (lease_place y.setting s) (knows h) aim name (leader_read y.setting.layout bytes (heard_by_lease y.setting.layout c h.before bytes step))
      (blocks_of y.setting.layout (heard_by_lease y.setting.layout c h.before bytes step)))
  area step name h l once reads kind part is =
      area_well these y s (record r { name = name }) c bytes step command aim (heard_by_lease y.setting.layout c h.before bytes step)
      (record { heard = h; given = h.told bytes h.gives reads once; at = at_step y s c (Read bytes) step command h Area_read kind; last = part }) l.space (named name is)

  phase : (step : LeaseStep) (kind : StepKind) → (h : LeaseHeard y s c (Read bytes) step command) → asked_again y.setting.layout bytes step ≡ None → is_some (read_of_step (first_step step)) ≡ true
      → same_kind (kind_of_step step) kind ≡ true → PhaseHeard y s c bytes step command kind (blocks_of y.setting.layout (heard_by_lease y.setting.layout c h.before bytes step))
  phase step kind h once reads same =
      record {
        heard = h;
        given = blocks_heard y.setting.layout c h.before (heard_by_lease y.setting.layout c h.before bytes step) (h.told bytes h.gives reads once);
        at = at_step y s c (Read bytes) step command h kind same;
      }

  by : (step : LeaseStep) → (h : LeaseHeard y s c (Read bytes) step command) → Leads y s r command aim step → asked_again y.setting.layout bytes step ≡ None
      → IsWell these y (after_read (lease_place y.setting s) (knows h) aim (leader_read y.setting.layout bytes (heard y.setting.layout (knows h) bytes step))
      (blocks_of y.setting.layout (heard y.setting.layout (knows h) bytes step)) (first_step step))
  by (ReadArea name) h l once = area (ReadArea name) name h l once refl refl refl (l.seeks name refl)
  by (ReadAgain (OfArea name)) h l once = area (ReadAgain (OfArea name)) name h l once refl refl refl (l.seeks name refl)
  by ReadBeforeFree h l once = mapped_or (IsWell these y) _ (owed_free (knows h)) Nothing (λ k. tt) tt
  by (ReadAgain OfFree) h l once = mapped_or (IsWell these y) _ (owed_free (knows h)) Nothing (λ k. tt) tt
  by ReadBeforeBlock h l once = absurd (no_block_look command aim l.aims l.fits)
  by (ReadAgain OfBlock) h l once = absurd (no_second_look command aim l.aims l.fits)
  by Phase1Read h l once =
      phase1_well these y s c bytes Phase1Read command aim (blocks_of y.setting.layout (heard_by_lease y.setting.layout c h.before bytes Phase1Read)) (phase Phase1Read Phase1_read h once refl refl) l.aims
      (keeps_by aim Phase1Read refl l.fits) (knows h).own refl
  by (ReadAgain OfPhase1) h l once =
      phase1_well these y s c bytes (ReadAgain OfPhase1) command aim (blocks_of y.setting.layout (heard_by_lease y.setting.layout c h.before bytes (ReadAgain OfPhase1)))
      (phase (ReadAgain OfPhase1) Phase1_read h once refl refl) l.aims (keeps_by aim (ReadAgain OfPhase1) refl l.fits) (knows h).own refl
  by Phase2Read h l once =
      phase2_well these y s c bytes Phase2Read command aim (blocks_of y.setting.layout (heard_by_lease y.setting.layout c h.before bytes Phase2Read)) (phase Phase2Read Phase2_read h once refl refl) l.aims
      (knows h).own refl
  by (ReadAgain OfPhase2) h l once =
      phase2_well these y s c bytes (ReadAgain OfPhase2) command aim (blocks_of y.setting.layout (heard_by_lease y.setting.layout c h.before bytes (ReadAgain OfPhase2)))
      (phase (ReadAgain OfPhase2) Phase2_read h once refl refl) l.aims (knows h).own refl
  by Phase1Write h l once = tt
  by Phase2Write h l once = tt
  by TakeLeader h l once = tt
  by SetMode h l once = tt
  by FreeLeader h l once = tt
  by ClearMode h l once = tt

-- What a lease's answer leads to has its cause, if that it is done has.
lease_well : (these : Reply → Bool) (y : Answering) (s : Session) (r : ResourceArg) (c : Submitted) (command : Command) (aim : Aim) (n : ℕ) (step : LeaseStep) (answer : Answer)
    → (h : LeaseHeard y s c answer step command) → Leads y s r command aim step → (these Done ≡ true → CausedBy y Done)
    → IsWell these y (lease_next (lease_place y.setting s) (knows h) aim c.call.number n step answer)
unfolding lease_next
lease_well these y s r c command aim n step Failed h l done = refuses_well these y aim (IoFault c.call.number) (λ shown. (c, h.call, refl))
lease_well these y s r c command aim n step (Read bytes) h l done =
    bytes_are (λ z. IsWell these y z) (lease_place y.setting s) (knows h) aim bytes step (λ read again. tt) (λ once. read_well these y s r c bytes command aim step h l once)
lease_well these y s r c command aim n (ReadArea name) Written h l done = tt
lease_well these y s r c command aim n ReadBeforeBlock Written h l done = tt
lease_well these y s r c command aim n (ReadAgain read) Written h l done = tt
lease_well these y s r c command aim n ReadBeforeFree Written h l done = tt
lease_well these y s r c command aim n Phase1Write Written h l done = tt
lease_well these y s r c command aim n Phase1Read Written h l done = tt
lease_well these y s r c command aim n Phase2Write Written h l done = tt
lease_well these y s r c command aim n Phase2Read Written h l done = tt
lease_well these y s r c command aim n TakeLeader Written h l done = taken_well these y s c command aim n h l.aims
lease_well these y s r c command (Acquires mode) n SetMode Written h l done = tt
lease_well these y s r c command (Converts mode) n SetMode Written h l done = mapped_or (IsWell these y) _ (knows h).exclusive Nothing (λ e. tt) tt
lease_well these y s r c command Releases n SetMode Written h l done = tt
lease_well these y s r c command Settles n SetMode Written h l done = tt
lease_well these y s r c command (Acquires mode) n FreeLeader Written h l done = tt
lease_well these y s r c command (Converts mode) n FreeLeader Written h l done = tt
lease_well these y s r c command Releases n FreeLeader Written h l done = done
lease_well these y s r c command Settles n FreeLeader Written h l done = absurd (no_settling command l.aims)
lease_well these y s r c command (Acquires mode) n ClearMode Written h l done = tt
lease_well these y s r c command (Converts mode) n ClearMode Written h l done = tt
lease_well these y s r c command Releases n ClearMode Written h l done = done
lease_well these y s r c command Settles n ClearMode Written h l done = absurd (no_settling command l.aims)

-- ---- the limit of turns

block_next : (these : Reply → Bool) (y : Answering) (n : LeaseNext) → writes_own_block n ≡ true → IsWell these y n → BlockIsNext y
block_next these y (WriteBlock step b) writes well = well
block_next these y (BecomeExclusive lver b) writes well = well
block_next these y Nothing writes well = absurd (false_is_true writes)
block_next these y (ReadFor step) writes well = absurd (false_is_true writes)
block_next these y (WriteLeader step l) writes well = absurd (false_is_true writes)
block_next these y (AnswerJob r) writes well = absurd (false_is_true writes)
block_next these y (GrantJob mode lver) writes well = absurd (false_is_true writes)
block_next these y (BecomeShared lver l) writes well = absurd (false_is_true writes)

-- That the next turn would pass its limit is the cause where a block is next.
pub turn_caused : (y : Answering) (s : Session) (command : Command) (r : ResourceArg) → y.job.command ≡ Ok command → resource_named command ≡ Some r → the_session y ≡ Some s → y.setting.layout.paired ≡ true → BlockIsNext y
    → record_numbers ≤ base_turn y.setting.layout s.id (lease_calls y.setting (after_entry y) s (spot_of r)) + 1 → CausedBy y (LimitReached TurnLimit)
turn_caused y s command r says names session paired next over = (
  paired,
  next,
  with_session y s (λ s. WithSpot y (λ r at. record_numbers ≤ base_turn y.setting.layout s.id (lease_calls y.setting (after_entry y) s at) + 1)) session
      (with_spot y command r (λ r at. record_numbers ≤ base_turn y.setting.layout s.id (lease_calls y.setting (after_entry y) s at) + 1) says names over),
)

turn_limit : (y : Answering) (s : Session) (r : ResourceArg) (c : Submitted) (command : Command) (step : LeaseStep) (answer : Answer) → (h : LeaseHeard y s c answer step command)
    → resource_named command ≡ Some r → spot_of_call y.setting.layout c ≡ spot_of r → y.setting.layout.paired ≡ true → is_number ((knows h).turn + 1) ≡ false → BlockIsNext y → CausedBy y (LimitReached TurnLimit)
turn_limit y s r c command step answer h names place paired over next =
    turn_caused y s command r h.commanded names h.session paired next
    (subst (λ ms. record_numbers ≤ base_turn y.setting.layout s.id ms + 1) (sym h.calls ∙ ap (λ at. lease_calls y.setting (after_entry y) s at) place)
    (not_number (base_turn y.setting.layout s.id (c ∷ h.before) + 1) over))

-- So what is decided has its cause, bounded by its turn.
within_well : (these : Reply → Bool) (y : Answering) (s : Session) (r : ResourceArg) (c : Submitted) (command : Command) (aim : Aim) (step : LeaseStep) (answer : Answer) (n : LeaseNext)
    → (h : LeaseHeard y s c answer step command) → resource_named command ≡ Some r → spot_of_call y.setting.layout c ≡ spot_of r → IsWell these y n
    → IsWell these y (within_turn (lease_place y.setting s) (knows h) aim n)
within_well these y s r c command aim step answer n h names place well =
    within_cases (λ z. IsWell these y z) (lease_place y.setting s) (knows h) aim n (λ fits. well)
    (λ paired over writes. refuses_well these y aim (LimitReached TurnLimit) (λ shown. turn_limit y s r c command step answer h names place paired over (block_next these y n writes well)))

-- ---- what stands at each later step

-- Who works on a lease was joined before the step.
pub was_joined : (x : Step) (s : Session) (m : Submitted) (answer : Answer) (work : Work) (step : LeaseStep) → Known x → Has x s → Hears x s m answer → m.call.purpose ≡ Lease work step
    → Contains (sessions x.setting x.past) s × (is_joined x.past s ≡ true)
was_joined x s m answer work step k has hears purpose =
    (got_inside (sessions x.setting x.past) s.number s there, ap₂ (λ o q. is_some o && is_none q) (joined (joined_after x.past s) refl).1 stands)
  where
    there : session_numbered x.setting x.past s.number ≡ Some s
    there = subst (λ ss. slice_get ss s.number ≡ Some s) (sessions_bare x hears.bare) has

    marked : submitted (seen x) ≡ map (answered_in x.past (entry_of x) hears.number answer) (submitted x.past)
    marked = calls_heard x hears.number answer hears.heard hears.bare

    was : (d : Submitted) × Contains (submitted x.past) d × (answered_in x.past (entry_of x) hears.number answer d ≡ m)
    was = in_map (answered_in x.past (entry_of x) hears.number answer) (submitted x.past) m (subst (λ ms. Contains ms m) marked (heard_call x s m answer hears).0)

    call : was.0.call ≡ m.call
    call = sym ((same_answered x.past (entry_of x) hears.number answer was.0).call) ∙ ap (λ (d : Submitted). d.call) was.2

    mine : Contains (calls_of x.past s) was.0
    mine =
        kept (is_call_of s) (submitted x.past) was.0
        (ap (λ (c : Call). c.session == s.number) call ∙ (ap (λ n. n == s.number) (heard_session x s m answer hears) ∙ number_itself s.number)) was.1

    unfit : fits was.0 ≡ false
    unfit = ap (λ (c : Call). fits_as c.purpose (is_write c.op)) call ∙ ap (λ p. fits_as p (is_write m.call.op)) purpose

    joined : (o : Option ℕ) → joined_after x.past s ≡ o → (i : ℕ) × (joined_after x.past s ≡ Some i)
    joined (Some i) is = (i, is)
    joined None is =
        absurd (not_both (fits was.0) (in_turn_fits (calls_of x.past s) was.0 (joinings_are_in_turn x.setting x.past s k.0.before.orderly there is) mine) unfit)

    now : is_none (removed_after (seen x) s) ≡ true
    now = (and_true (is_some (joined_after (seen x) s)) (is_none (removed_after (seen x) s)) (caller_joined x s m answer work step k.0.orderly has hears purpose)).1

    stands : removed_after x.past s ≡ None
    stands = by (removed_after x.past s) refl now where
      by : (o : Option ℕ) → removed_after x.past s ≡ o → is_none (elim o as (λ z. Option ℕ) [ Some i ↦ Some i | None ↦ removed_in x.past s (entry_of x) ]) ≡ true → removed_after x.past s ≡ None
      by None is h = is
      by (Some i) is h = absurd (false_is_true h)

-- A command names the lockspace of its resource.
pub lockspace_of : (c : Command) (r : ResourceArg) → resource_named c ≡ Some r → lockspace_named c ≡ Some r.lockspace
lockspace_of (Acquire q shared p persistent) r is = ap (λ o. option_map (λ (z : ResourceArg). z.lockspace) o) is
lockspace_of (TakeOver q shared p persistent) r is = ap (λ o. option_map (λ (z : ResourceArg). z.lockspace) o) is
lockspace_of (Release q p) r is = ap (λ o. option_map (λ (z : ResourceArg). z.lockspace) o) is
lockspace_of (ReleaseOrphan q) r is = ap (λ o. option_map (λ (z : ResourceArg). z.lockspace) o) is
lockspace_of (Convert q shared p) r is = ap (λ o. option_map (λ (z : ResourceArg). z.lockspace) o) is
lockspace_of (RunProgram q shared path) r is = ap (λ o. option_map (λ (z : ResourceArg). z.lockspace) o) is
lockspace_of (Request q lver force) r is = ap (λ o. option_map (λ (z : ResourceArg). z.lockspace) o) is
lockspace_of (GetLvb q p) r is = ap (λ o. option_map (λ (z : ResourceArg). z.lockspace) o) is
lockspace_of (SetLvb q p bytes) r is = ap (λ o. option_map (λ (z : ResourceArg). z.lockspace) o) is
lockspace_of (AddLockspace a) r is = absurd (none_some r is)
lockspace_of (RemLockspace a) r is = absurd (none_some r is)
lockspace_of (InqLockspace a) r is = absurd (none_some r is)
lockspace_of (HostStatus a) r is = absurd (none_some r is)
lockspace_of (SetKillpath p path) r is = absurd (none_some r is)
lockspace_of Status r is = absurd (none_some r is)

find_same : {A : Type 0} (p q : A → Bool) (xs : List A) → ((a : A) → p a ≡ q a) → find p xs ≡ find q xs
find_same p q [] same = refl
find_same p q (x ∷ xs) same = ap₂ (λ b o. cond b (Some x) o) (same x) (find_same p q xs same)

-- What counts as over still does, and nothing more.
counts_same : (st : Setting) (t u : Trace) (s : Session) → KeepsLeases st s (calls_of t s) (calls_of u s) → is_some (joined_after t s) ≡ true → is_some (joined_after u s) ≡ true → (id n : ℕ)
    → counts_over st u s id n ≡ counts_over st t s id n
counts_same st t u s keeps joined later id n =
    ap (λ o. by_shown (is_some o) (generation_of u s) (is_some (joined_after u s))) (keeps.shown id n)
    ∙ (ap (λ g. by_shown (is_some (evidence_in st (calls_of t s) id n)) g (is_some (joined_after u s))) keeps.generation
    ∙ ap (λ b. by_shown (is_some (evidence_in st (calls_of t s) id n)) (generation_of t s) b) (later ∙ sym joined)) where
      by_shown : Bool → ℕ → Bool → Bool
      by_shown shown generation b = elim shown as (λ z. Bool) [ true ↦ true | false ↦ id == s.id && nat_lt n generation && b ]

-- By what one knows of a lease an instance begins.
abbrev instance_by : Bool → Owner → ℕ → Leader → Block → List (Option Block) → Instance
instance_by over self n l own read = instance_of (elim l.held as (λ z. Bool) [ false ↦ false | true ↦ over ]) self l n (top_lver own read)

-- The work's call that was heard, where its job is answered.
heard_then : (x : Step) (s : Session) (m : Submitted) (answer : Answer) (j : ℕ) (step : LeaseStep) (aim : Aim) (why : Reply) → Known x → WholeTrace x.setting x.past → Hears x s m answer
    → m.call.purpose ≡ Lease (ForJob j) step → aim_of x.setting (seen x) (ForJob j) ≡ Some aim → IsLate x why → (fx : Effects) → IsCarried (add_reply j why x) (with_effects x fx)
    → (job : Job) → job_numbered x.setting (seen (with_effects x fx)) j ≡ Some job → (c : Command) → command_numbered x.setting (seen x) j ≡ Some c
    → (r : ResourceArg) → resource_named c ≡ Some r → r.lockspace ≡ s.lockspace → NewestWays x s m
    → LeaseHeard (answering (with_effects x fx) job) s m answer step c
unfolding known
heard_then x s m answer j step aim why k w hears purpose aims may fx carried job found c reads r names space n =
    record {
      call = here.call;
      commanded = command;
      session = session_then (answering z job) c s w was.0 was.1 command (lockspace_of c r names ∙ ap (λ n. Some n) space);
      generation = generation_of (seen x) s;
      shared = has_shared_on (seen x) s at;
      exclusive = option_map (λ (g : Grant). g.lver) (exclusive_on (seen x) s at);
      over = counts_over x.setting (seen x) s;
      before = n.rest;
      calls = leases ∙ n.newest;
      gives = ap (λ o. option_and_then (λ (a : Answered). bytes_given a.answer) o) answered.1 ∙ ap (λ a. bytes_given a) answered.3;
      for_job = purpose ∙ ap (λ n. Lease (ForJob n) step) (sym here.number);
      told = newest_told x s (ForJob j) step m n purpose;
      instances = λ l own read.
          ap (λ b. instance_by b (me (seen z) s) (freed (lease_calls x.setting (seen z) s at)) l own read) (over l.owner l.generation)
          ∙ (ap (λ g. instance_by (counts_over x.setting (seen x) s l.owner l.generation) (record { id = s.id; generation = g }) (freed (lease_calls x.setting (seen z) s at)) l own read) keeps.generation
          ∙ ap (λ ms. instance_by (counts_over x.setting (seen x) s l.owner l.generation) (me (seen x) s) (freed ms) l own read) (leases ∙ n.newest));
      modes = λ read. find_same _ _ (present read) (λ b. ap (λ o. elim (b.host == s.id) as (λ z. Bool) [ true ↦ false | false ↦ elim b.shared as (λ z. Bool) [ false ↦ false | true ↦ not o ] ]) (over b.host b.mode_gen));
      counts = over;
    } where
      z : Step
      z = with_effects x fx

      y : Step
      y = add_reply j why x

      at : Spot
      at = spot_of_call x.setting.layout m

      of : job_of m.call.purpose ≡ Some j
      of = ap (λ p. job_of p) purpose

      first : IsLater x y
      first = replied_later x j why may

      later : IsLater x z
      later = after_that x y z first (record { setting = refl; before = refl; reading = refl; carried = λ told. carried })

      here : AnswersHere x m answer j z job
      here = answers_here x s m answer j k hears of z later job found

      command : job.command ≡ Ok c
      command = its_command x.setting (seen x) j job c here.found reads

      has : Has x s
      has = has_heard x s m answer hears

      was : Contains (sessions x.setting x.past) s × (is_joined x.past s ≡ true)
      was = was_joined x s m answer (ForJob j) step k has hears purpose

      answered : IsAnsweredAt (length x.past) m answer
      answered = heard_answered x s m answer k.0.facts.calls k.0.orderly hears

      same : submitted (seen y) ≡ submitted (seen x)
      same = calls_stay x j why may

      done : IsConcluded y
      done =
          record {
            call = m;
            there = subst (λ ms. Contains ms m) (sym same) (heard_call x s m answer hears).0;
            heard = (heard_call x s m answer hears).1;
            job = j;
            step = step;
            purpose = purpose;
            over = replied_over x j why;
          }

      keeps : KeepsLeases x.setting s (calls_of (seen x) s) (calls_of (seen z) s)
      keeps = subst (λ ms. KeepsLeases x.setting s (filter (is_call_of s) ms) (calls_of (seen z) s)) same (carried.quiet done s was.0)

      leases : lease_calls x.setting (seen z) s at ≡ lease_calls x.setting (seen x) s at
      leases = keeps.leases at

      joined_past : is_some (joined_after x.past s) ≡ true
      joined_past = (and_true (is_some (joined_after x.past s)) (is_none (removed_after x.past s)) was.1).0

      joined_on : (e : Entry) → is_some (joined_after (e ∷ x.past) s) ≡ true
      joined_on e = by (joined_after x.past s) refl joined_past where
        by : (o : Option ℕ) → joined_after x.past s ≡ o → is_some o ≡ true → is_some (joined_after (e ∷ x.past) s) ≡ true
        by (Some i) is h = ap (λ q. is_some q) (joined_more e x.past s i is)
        by None is h = absurd (false_is_true h)

      over : (id n : ℕ) → counts_over x.setting (seen z) s id n ≡ counts_over x.setting (seen x) s id n
      over id n = counts_same x.setting (seen x) (seen z) s keeps (joined_on (entry_of x)) (joined_on (entry_of z)) id n

done_is : (r : Reply) → is_done r ≡ true → r ≡ Done
done_is Done is = refl
done_is r is = absurd (false_is_true is)

-- That it is done is told apart from the refusals.
abbrev refusals : (Reply → Bool) → Reply → Bool
refusals these r = these r && not (is_done r)

-- The step of the call that was heard serves the aim of its job.
serves_aim : (x : Step) (s : Session) (m : Submitted) (answer : Answer) (j : ℕ) (step : LeaseStep) (c : Command) (aim : Aim) → WholeTrace x.setting x.past → AllSuit x.setting x.past → Hears x s m answer → Known x
    → m.call.purpose ≡ Lease (ForJob j) step → command_numbered x.setting (seen x) j ≡ Some c → aim_of_command c ≡ Some aim → suits aim step ≡ true
serves_aim x s m answer j step c aim w suit hears k purpose reads aims =
    (suit was.0 was.1).step j step c aim its (command_past x.setting x.past (entry_of x) was.0 j c w.facts.jobs was.1 (ap (λ p. job_of p) its) reads) aims
  where
    marked : submitted (seen x) ≡ map (answered_in x.past (entry_of x) hears.number answer) (submitted x.past)
    marked = calls_heard x hears.number answer hears.heard hears.bare

    was : (d : Submitted) × Contains (submitted x.past) d × (answered_in x.past (entry_of x) hears.number answer d ≡ m)
    was = in_map (answered_in x.past (entry_of x) hears.number answer) (submitted x.past) m (subst (λ ms. Contains ms m) marked (heard_call x s m answer hears).0)

    its : was.0.call.purpose ≡ Lease (ForJob j) step
    its = ap (λ (c : Call). c.purpose) (sym ((same_answered x.past (entry_of x) hears.number answer was.0).call) ∙ ap (λ (d : Submitted). d.call) was.2) ∙ purpose

-- What a lease's work answers its job with has its cause from there on.
refused_caused : (these : Reply → Bool) (x : Step) (s : Session) (m : Submitted) (answer : Answer) (j : ℕ) (step : LeaseStep) (aim : Aim) (why : Reply) → Known x → WholeTrace x.setting x.past → AllSuit x.setting x.past
    → Hears x s m answer → m.call.purpose ≡ Lease (ForJob j) step → aim_of x.setting (seen x) (ForJob j) ≡ Some aim → IsLate x why
    → next_of_lease x.setting (seen x) s (spot_of_call x.setting.layout m) aim m step answer ≡ AnswerJob why
    → refusals these why ≡ true → StaysCaused (add_reply j why x) (record { job = j; reply = why })
unfolding known heard_then
refused_caused these x s m answer j step aim why k w suit hears purpose aims may next shown = by_effects (add_reply j why x) (record { job = j; reply = why }) (told_not_waking x s m answer hears) at_effects where
  at : Spot
  at = spot_of_call x.setting.layout m

  command : (c : Command) × (command_numbered x.setting (seen x) j ≡ Some c) × (aim_of_command c ≡ Some aim)
  command = then_value aim_of_command (command_numbered x.setting (seen x) j) aim aims

  fits_it : FitsCommand x.setting s m command.0 (Lease (ForJob j) step)
  fits_it = subst (λ (p : Purpose). FitsCommand x.setting s m command.0 p) purpose (k.0.facts.jobs.fits m j s command.0 (heard_call x s m answer hears).0 (ap (λ p. job_of p) purpose) hears.session command.1)

  newest : NewestWays x s m
  newest = newest_ways x s (ForJob j) step m answer k.0 hears purpose

  at_effects : (fx : Effects) → IsCarried (add_reply j why x) (with_effects x fx) → HasCause (with_effects x fx) (record { job = j; reply = why })
  at_effects fx carried job found = by_next (subst (λ n. IsWell (refusals these) y n) same well) where
    y : Answering
    y = answering (with_effects x fx) job

    h : LeaseHeard y s m answer step command.0
    h = heard_then x s m answer j step aim why k w hears purpose aims may fx carried job found command.0 command.1 fits_it.0 fits_it.1 fits_it.3.0 newest

    leads : Leads y s fits_it.0 command.0 aim step
    leads =
        record {
          space = fits_it.3.0;
          names = fits_it.1;
          seeks = seeks_by fits_it.0 step fits_it.4;
          aims = command.2;
          fits = serves_aim x s m answer j step command.0 aim w suit hears k purpose command.1 command.2;
        }

    well : IsWell (refusals these) y (within_turn (lease_place x.setting s) (knows h) aim (lease_next (lease_place x.setting s) (knows h) aim m.call.number (lver_written m) step answer))
    well =
        within_well (refusals these) y s fits_it.0 m command.0 aim step answer (lease_next (lease_place x.setting s) (knows h) aim m.call.number (lver_written m) step answer) h fits_it.1 fits_it.3.1
        (lease_well (refusals these) y s fits_it.0 m command.0 aim (lver_written m) step answer h leads
        (λ d. absurd (false_is_true (and_true (these Done) (not (is_done Done)) d).1)))

    known_by : List Submitted → LeaseKnown
    known_by ms = known_of x.setting.layout s.lockspace (me (seen x) s) (has_shared_on (seen x) s at) (option_map (λ (g : Grant). g.lver) (exclusive_on (seen x) s at)) (counts_over x.setting (seen x) s) ms

    same : within_turn (lease_place x.setting s) (knows h) aim (lease_next (lease_place x.setting s) (knows h) aim m.call.number (lver_written m) step answer) ≡ AnswerJob why
    same = ap (λ ms. within_turn (lease_place x.setting s) (known_by ms) aim (lease_next (lease_place x.setting s) (known_by ms) aim m.call.number (lver_written m) step answer)) (sym newest.newest) ∙ next

    by_next : IsWell (refusals these) y (AnswerJob why) → CausedBy y why
    by_next cause = cause shown

pub led_caused : (these : Reply → Bool) (x : Step) (s : Session) (m : Submitted) (answer : Answer) (j : ℕ) (step : LeaseStep) (aim : Aim) (why : Reply) → Known x → WholeTrace x.setting x.past → AllSuit x.setting x.past
    → Hears x s m answer → m.call.purpose ≡ Lease (ForJob j) step → aim_of x.setting (seen x) (ForJob j) ≡ Some aim → IsLate x why
    → next_of_lease x.setting (seen x) s (spot_of_call x.setting.layout m) aim m step answer ≡ AnswerJob why
    → (why ≡ Done → these Done ≡ true → StaysCaused (add_reply j Done x) (record { job = j; reply = Done }))
    → these why ≡ true → StaysCaused (add_reply j why x) (record { job = j; reply = why })
led_caused these x s m answer j step aim why k w suit hears purpose aims may next done shown = by (is_done why) refl where
  by : (b : Bool) → is_done why ≡ b → StaysCaused (add_reply j why x) (record { job = j; reply = why })
  by true is =
      subst (λ (r : Reply). StaysCaused (add_reply j r x) (record { job = j; reply = r })) (sym (done_is why is))
      (done (done_is why is) (subst (λ (r : Reply). these r ≡ true) (done_is why is) shown))
  by false other = refused_caused these x s m answer j step aim why k w suit hears purpose aims may next (ap₂ (λ a b. a && not b) shown other)
