-- The cause of what the reads of a ballot's two phases are answered with.
use Rattle.sl_due_law.proofs.Causes.AnsweredJobs.{with_command}
use Rattle.sl_due_law.proofs.Causes.Leases.HeardLeases.{IsWell, LeaseHeard, knows, reads_blocks}
use Rattle.sl_due_law.proofs.Causes.Leases.Limits.{begin_well}
use Rattle.sl_run.specs.Caused.{Answering, BlockIsNext, CausedBy, EndsWith, IsStopRead, ReadsBlocks, ShowsInstance, after_entry, job_command, known_here}
use Rattle.sl_trace.specs.Ballots.{same_owner, stop_of, value_of}
use Rattle.sl_trace.specs.Jobs.{aim_of_command, wants_shared}
use Rattle.sl_trace.specs.LeaseDecisions.{after_phase1, after_phase2, begin_next, lease_place, looks_for_shared, lost_next, phase2_next, stop_reply, stopped_next, won_next}
use Rattle.sl_trace.specs.Leases.{LeaseKnown, StepKind, Phase1_read, Phase2_read, block_submitted, blocks_given, is_at, is_phase_read, last_blocks, own_block, own_or_read, shared_elsewhere}
use Rattle.sl_trace.specs.declared.lease.Aim.TheVariants.{Acquires, Converts, Releases, Settles}
use Rattle.sl_trace.specs.declared.lease.Aim.{Aim}
use Rattle.sl_trace.specs.declared.lease.Instance.TheVariants.{HeldAlready}
use Rattle.sl_trace.specs.declared.lease.LeaseNext.TheVariants.{AnswerJob, Nothing}
use Rattle.sl_trace.specs.declared.lease.LeaseNext.{LeaseNext}
use Rattle.sl_trace.specs.declared.lease.Stop.TheVariants.{BlockAhead, BlockRival, BlockTorn}
use Rattle.sl_trace.specs.declared.lease.Stop.{Stop}
use Rattle.sl_sector.specs.declared.sector.Block.{Block}
use Rattle.sl_trace.specs.Sightings.{counts_over}
use Rattle.sl_trace.specs.declared.session.Session.{Session}
use Rattle.sl_trace.specs.Traces.{Submitted, is_shared}
use Rattle.sl_trace.specs.declared.command.Command.TheVariants.{Acquire, AddLockspace, Convert, GetLvb, HostStatus, InqLockspace, Release, ReleaseOrphan, RemLockspace, Request, RunProgram, SetKillpath, SetLvb, Status, TakeOver}
use Rattle.sl_trace.specs.declared.command.Command.{Command}
use Rattle.sl_trace.specs.declared.effects.LeaseStep.{LeaseStep}
use Rattle.sl_trace.specs.declared.effects.Mode.TheVariants.{Exclusive, Shared}
use Rattle.sl_trace.specs.declared.effects.Mode.{Mode}
use Rattle.sl_trace.specs.declared.input.Answer.TheVariants.{Read}
use Rattle.sl_trace.specs.declared.reply.Reply.TheVariants.{Held as HeldBy, Shared as SharedBy}
use Rattle.sl_trace.specs.declared.reply.Reply.{Reply}
use Rattle.sl_words.proofs.CaseLaws.{false_is_true, none_some, some_value, true_is_false}
use Rattle.std.proofs.Common.{ap, inl, inr, refl, sym, ◌∙◌}
use Rattle.std.specs.Option.{option_map_or}
use Rattle.std.specs.Prelude.{Bool, IsFalse, IsTrue, List, None, Option, Some, false, not, true, ℕ, ◌+◌, ◌∷◌, ◌≡◌, ◌||◌, ◌⊎◌}

-- The own block is that which was last submitted.
own_is : (y : Answering) (s : Session) (ms : List Submitted) (own : Block) → block_submitted ms ≡ Some own → own_block y.setting.layout s.id ms ≡ Some own
own_is y s ms own is = ap (λ o. own_or_read s.id o (last_blocks y.setting.layout ms)) is

-- A read of a ballot that gave these blocks, at this step or made once more.
pub record PhaseHeard (y : Answering) (s : Session) (c : Submitted) (bytes : List ℕ) (step : LeaseStep) (command : Command) (kind : StepKind) (blocks : List (Option Block)) : Type 0 where
  pub heard : LeaseHeard y s c (Read bytes) step command
  pub given : blocks_given y.setting.layout c heard.before ≡ Some blocks
  pub at : is_at kind c ≡ true

-- What shows so to a job that looks at it.
shows : (y : Answering) (s : Session) (c : Submitted) (bytes : List ℕ) (step : LeaseStep) (command : Command) (kind : StepKind) (blocks : List (Option Block)) → (h : PhaseHeard y s c bytes step command kind blocks)
    → (own : Block) → block_submitted (c ∷ h.heard.before) ≡ Some own → (P : Session → Submitted → List (Option Block) → Block → Type 0) → P s c blocks own → ReadsBlocks y P
shows y s c bytes step command kind blocks h own known P holds = reads_blocks y s c bytes step command h.heard blocks own h.given (own_is y s (c ∷ h.heard.before) own known) P holds

-- ---- what stops a ballot

stopped : (y : Answering) (s : Session) (c : Submitted) (bytes : List ℕ) (step : LeaseStep) (command : Command) (kind : StepKind) (blocks : List (Option Block)) → (h : PhaseHeard y s c bytes step command kind blocks)
    → is_phase_read c ≡ true → (own : Block) → block_submitted (c ∷ h.heard.before) ≡ Some own → (stop : Stop) → stop_of own blocks ≡ Some stop → IsStopRead y stop
stopped y s c bytes step command kind blocks h phase own known stop is =
    shows y s c bytes step command kind blocks h own known (λ s c blocks own. IsTrue (is_phase_read c) × (stop_of own blocks ≡ Some stop)) (phase, is)

stop_caused : (y : Answering) (stop : Stop) → IsStopRead y stop → CausedBy y (stop_reply stop)
stop_caused y (BlockTorn host) is = inr is
stop_caused y (BlockAhead host lver) is = is
stop_caused y (BlockRival host mbal) is = is

-- ---- phase 1

-- Whoever looks for a shared mode wants none.
looks_alone : (b : Bool) (make : Mode → Aim) → ((mode : Mode) → looks_for_shared (make mode) ≡ not (is_shared mode)) → (aim : Aim) → Some (make (elim b as (λ z. Mode) [ true ↦ Shared | false ↦ Exclusive ])) ≡ Some aim
    → looks_for_shared aim ≡ true → b ≡ false
looks_alone false make says aim is looks = refl
looks_alone true make says aim is looks = absurd (false_is_true (sym (says Shared) ∙ (ap (λ a. looks_for_shared a) (some_value (make Shared) aim is) ∙ looks)))

acquires_alone : (mode : Mode) → looks_for_shared (Acquires mode) ≡ not (is_shared mode)
acquires_alone Exclusive = refl
acquires_alone Shared = refl

converts_alone : (mode : Mode) → looks_for_shared (Converts mode) ≡ not (is_shared mode)
converts_alone Exclusive = refl
converts_alone Shared = refl

wants_none : (c : Command) (aim : Aim) → aim_of_command c ≡ Some aim → looks_for_shared aim ≡ true → wants_shared c ≡ false
wants_none (Acquire r shared p persistent) aim is looks = looks_alone shared (λ mode. Acquires mode) acquires_alone aim is looks
wants_none (RunProgram r shared path) aim is looks = looks_alone shared (λ mode. Acquires mode) acquires_alone aim is looks
wants_none (Convert r shared p) aim is looks = looks_alone shared (λ mode. Converts mode) converts_alone aim is looks
wants_none (Release r p) aim is looks = refl
wants_none (ReleaseOrphan r) aim is looks = refl
wants_none (AddLockspace a) aim is looks = absurd (none_some aim is)
wants_none (RemLockspace a) aim is looks = absurd (none_some aim is)
wants_none (InqLockspace a) aim is looks = absurd (none_some aim is)
wants_none (HostStatus a) aim is looks = absurd (none_some aim is)
wants_none (TakeOver r shared p persistent) aim is looks = absurd (none_some aim is)
wants_none (Request r lver force) aim is looks = absurd (none_some aim is)
wants_none (GetLvb r p) aim is looks = absurd (none_some aim is)
wants_none (SetLvb r p bytes) aim is looks = absurd (none_some aim is)
wants_none (SetKillpath p path) aim is looks = absurd (none_some aim is)
wants_none Status aim is looks = absurd (none_some aim is)

-- Whoever doesn't look wants it, unless it gives up what it holds.
looks_shared : (b : Bool) (make : Mode → Aim) → ((mode : Mode) → looks_for_shared (make mode) ≡ not (is_shared mode)) → (aim : Aim) → Some (make (elim b as (λ z. Mode) [ true ↦ Shared | false ↦ Exclusive ])) ≡ Some aim
    → looks_for_shared aim ≡ false → b ≡ true
looks_shared true make says aim is looks = refl
looks_shared false make says aim is looks = absurd (true_is_false (sym (says Exclusive) ∙ (ap (λ a. looks_for_shared a) (some_value (make Exclusive) aim is) ∙ looks)))

wants_some : (c : Command) (aim : Aim) → aim_of_command c ≡ Some aim → looks_for_shared aim ≡ false → (aim ≡ Releases → ⊥) → wants_shared c ≡ true
wants_some (Acquire r shared p persistent) aim is looks keeps = looks_shared shared (λ mode. Acquires mode) acquires_alone aim is looks
wants_some (RunProgram r shared path) aim is looks keeps = looks_shared shared (λ mode. Acquires mode) acquires_alone aim is looks
wants_some (Convert r shared p) aim is looks keeps = looks_shared shared (λ mode. Converts mode) converts_alone aim is looks
wants_some (Release r p) aim is looks keeps = absurd (keeps (sym (some_value Releases aim is)))
wants_some (ReleaseOrphan r) aim is looks keeps = absurd (keeps (sym (some_value Releases aim is)))
wants_some (AddLockspace a) aim is looks keeps = absurd (none_some aim is)
wants_some (RemLockspace a) aim is looks keeps = absurd (none_some aim is)
wants_some (InqLockspace a) aim is looks keeps = absurd (none_some aim is)
wants_some (HostStatus a) aim is looks keeps = absurd (none_some aim is)
wants_some (TakeOver r shared p persistent) aim is looks keeps = absurd (none_some aim is)
wants_some (Request r lver force) aim is looks keeps = absurd (none_some aim is)
wants_some (GetLvb r p) aim is looks keeps = absurd (none_some aim is)
wants_some (SetLvb r p bytes) aim is looks keeps = absurd (none_some aim is)
wants_some (SetKillpath p path) aim is looks keeps = absurd (none_some aim is)
wants_some Status aim is looks keeps = absurd (none_some aim is)

abbrev Phase1Heard : Answering → Session → Submitted → List ℕ → LeaseStep → Command → List (Option Block) → Type 0
Phase1Heard y s c bytes step command blocks = PhaseHeard y s c bytes step command Phase1_read blocks

-- Phase 2 is next.
goes_on : (y : Answering) (s : Session) (c : Submitted) (bytes : List ℕ) (step : LeaseStep) (command : Command) (blocks : List (Option Block)) → (h : Phase1Heard y s c bytes step command blocks)
    → (own : Block) → block_submitted (c ∷ h.heard.before) ≡ Some own → stop_of own blocks ≡ None → (wants_shared command ≡ true) ⊎ (shared_elsewhere (knows h.heard) blocks ≡ None) → BlockIsNext y
goes_on y s c bytes step command blocks h own known clear may =
    inr (inl (shows y s c bytes step command Phase1_read blocks h own known
    (λ s c blocks own. IsTrue (is_at Phase1_read c) × (stop_of own blocks ≡ None) × job_command y (λ a. (wants_shared a ≡ true) ⊎ (shared_elsewhere (known_here y s c) blocks ≡ None)))
    (h.at, clear, with_command y command (λ a. (wants_shared a ≡ true) ⊎ (shared_elsewhere (known_here y s c) blocks ≡ None)) h.heard.commanded (here may))))
  where
    here : (wants_shared command ≡ true) ⊎ (shared_elsewhere (knows h.heard) blocks ≡ None) → (wants_shared command ≡ true) ⊎ (shared_elsewhere (known_here y s c) blocks ≡ None)
    here (inl wants) = inl wants
    here (inr none) = inr (h.heard.modes blocks ∙ none)

shared_well : (these : Reply → Bool) (y : Answering) (s : Session) (c : Submitted) (bytes : List ℕ) (step : LeaseStep) (command : Command) (blocks : List (Option Block)) → (h : Phase1Heard y s c bytes step command blocks)
    → wants_shared command ≡ false → (own : Block) → block_submitted (c ∷ h.heard.before) ≡ Some own → stop_of own blocks ≡ None
    → (o : Option Block) → shared_elsewhere (knows h.heard) blocks ≡ o
    → IsWell these y (elim o as (λ z. LeaseNext) [
      | Some b ↦ AnswerJob (SharedBy (record { id = b.host; generation = b.mode_gen }))
      | None ↦ phase2_next (knows h.heard) own blocks
    ])
shared_well these y s c bytes step command blocks h alone own known clear None none = goes_on y s c bytes step command blocks h own known clear (inr none)
shared_well these y s c bytes step command blocks h alone own known clear (Some b) some = λ shown.
    shows y s c bytes step command Phase1_read blocks h own known
    (λ s c blocks own. IsTrue (is_at Phase1_read c) × job_command y (λ a. wants_shared a ≡ false) × (stop_of own blocks ≡ None) × (d : Block)
    × (shared_elsewhere (known_here y s c) blocks ≡ Some d) × (d.host ≡ b.host) × (d.mode_gen ≡ b.mode_gen)) (
      h.at,
      with_command y command (λ a. wants_shared a ≡ false) h.heard.commanded alone,
      clear,
      b,
      h.heard.modes blocks ∙ some,
      refl,
      refl,
    )

looked_well : (these : Reply → Bool) (y : Answering) (s : Session) (c : Submitted) (bytes : List ℕ) (step : LeaseStep) (command : Command) (aim : Aim) (blocks : List (Option Block)) → (h : Phase1Heard y s c bytes step command blocks)
    → aim_of_command command ≡ Some aim → (aim ≡ Releases → ⊥) → (own : Block) → block_submitted (c ∷ h.heard.before) ≡ Some own → stop_of own blocks ≡ None
    → (looks : Bool) → looks_for_shared aim ≡ looks
    → IsWell these y (elim looks as (λ z. LeaseNext) [
      | false ↦ phase2_next (knows h.heard) own blocks
      | true ↦ elim (shared_elsewhere (knows h.heard) blocks) as (λ z. LeaseNext) [
        | Some b ↦ AnswerJob (SharedBy (record { id = b.host; generation = b.mode_gen }))
        | None ↦ phase2_next (knows h.heard) own blocks
      ]
    ])
looked_well these y s c bytes step command aim blocks h aims keeps own known clear false looks =
    goes_on y s c bytes step command blocks h own known clear (inl (wants_some command aim aims looks keeps))
looked_well these y s c bytes step command aim blocks h aims keeps own known clear true looks =
    shared_well these y s c bytes step command blocks h (wants_none command aim aims looks) own known clear (shared_elsewhere (knows h.heard) blocks) refl

-- No job only settles.
pub no_settling : (c : Command) → aim_of_command c ≡ Some Settles → ⊥
no_settling (Acquire r shared p persistent) is = cc
no_settling (RunProgram r shared path) is = cc
no_settling (Convert r shared p) is = cc
no_settling (Release r p) is = cc
no_settling (ReleaseOrphan r) is = cc
no_settling (AddLockspace a) is = absurd (none_some Settles is)
no_settling (RemLockspace a) is = absurd (none_some Settles is)
no_settling (InqLockspace a) is = absurd (none_some Settles is)
no_settling (HostStatus a) is = absurd (none_some Settles is)
no_settling (TakeOver r shared p persistent) is = absurd (none_some Settles is)
no_settling (Request r lver force) is = absurd (none_some Settles is)
no_settling (GetLvb r p) is = absurd (none_some Settles is)
no_settling (SetLvb r p bytes) is = absurd (none_some Settles is)
no_settling (SetKillpath p path) is = absurd (none_some Settles is)
no_settling Status is = absurd (none_some Settles is)

-- After a stop a job is refused; what a settling does is no job's.
stop_well : (these : Reply → Bool) (y : Answering) (s : Session) (c : Submitted) (bytes : List ℕ) (step : LeaseStep) (command : Command) (aim : Aim) → (h : LeaseHeard y s c (Read bytes) step command)
    → aim_of_command command ≡ Some aim → (stop : Stop) → IsStopRead y stop → IsWell these y (stopped_next (lease_place y.setting s) (knows h) aim stop)
stop_well these y s c bytes step command (Acquires mode) h aims stop is = λ shown. stop_caused y stop is
stop_well these y s c bytes step command (Converts mode) h aims stop is = λ shown. stop_caused y stop is
stop_well these y s c bytes step command Releases h aims stop is = λ shown. stop_caused y stop is
stop_well these y s c bytes step command Settles h aims stop is = absurd (no_settling command aims)

phase1_by : (these : Reply → Bool) (y : Answering) (s : Session) (c : Submitted) (bytes : List ℕ) (step : LeaseStep) (command : Command) (aim : Aim) (blocks : List (Option Block)) → (h : Phase1Heard y s c bytes step command blocks)
    → aim_of_command command ≡ Some aim → (aim ≡ Releases → ⊥) → (own : Block) → block_submitted (c ∷ h.heard.before) ≡ Some own → (stop : Option Stop) → stop_of own blocks ≡ stop
    → IsWell these y (after_phase1 (lease_place y.setting s) (knows h.heard) aim own blocks stop)
phase1_by these y s c bytes step command aim blocks h aims keeps own known None clear = looked_well these y s c bytes step command aim blocks h aims keeps own known clear (looks_for_shared aim) refl
phase1_by these y s c bytes step command aim blocks h aims keeps own known (Some stop) is =
    stop_well these y s c bytes step command aim h.heard aims stop
    (stopped y s c bytes step command Phase1_read blocks h (ap (λ b. b || is_at Phase2_read c) h.at) own known stop is)

-- What the read of phase 1 leads to has its cause.
pub phase1_well : (these : Reply → Bool) (y : Answering) (s : Session) (c : Submitted) (bytes : List ℕ) (step : LeaseStep) (command : Command) (aim : Aim) (blocks : List (Option Block)) → (h : Phase1Heard y s c bytes step command blocks)
    → aim_of_command command ≡ Some aim → (aim ≡ Releases → ⊥) → (o : Option Block) → block_submitted (c ∷ h.heard.before) ≡ o
    → IsWell these y (option_map_or (λ own. after_phase1 (lease_place y.setting s) (knows h.heard) aim own blocks (stop_of own blocks)) o Nothing)
phase1_well these y s c bytes step command aim blocks h aims keeps None known = tt
phase1_well these y s c bytes step command aim blocks h aims keeps (Some own) known = phase1_by these y s c bytes step command aim blocks h aims keeps own known (stop_of own blocks) refl

-- ---- phase 2

abbrev Phase2Heard : Answering → Session → Submitted → List ℕ → LeaseStep → Command → List (Option Block) → Type 0
Phase2Heard y s c bytes step command blocks = PhaseHeard y s c bytes step command Phase2_read blocks

phase2_blocks : (y : Answering) (s : Session) (c : Submitted) (bytes : List ℕ) (step : LeaseStep) (command : Command) (blocks : List (Option Block)) → (h : Phase2Heard y s c bytes step command blocks)
    → last_blocks y.setting.layout (c ∷ h.heard.before) ≡ blocks
phase2_blocks y s c bytes step command blocks h =
    ap (λ (o : Option (List (Option Block))). elim o as (λ z. List (Option Block)) [ Some bs ↦ bs | None ↦ last_blocks y.setting.layout h.heard.before ]) h.given

-- The ballot ended with its own block's value.
ends : (y : Answering) (s : Session) (c : Submitted) (bytes : List ℕ) (step : LeaseStep) (command : Command) (blocks : List (Option Block)) → Phase2Heard y s c bytes step command blocks
    → (own : Block) → stop_of own blocks ≡ None → EndsWith y s c blocks own own.lver (value_of own)
ends y s c bytes step command blocks h own clear = (h.at, clear, refl, refl)

lost_well : (these : Reply → Bool) (y : Answering) (s : Session) (c : Submitted) (bytes : List ℕ) (step : LeaseStep) (command : Command) (aim : Aim) (blocks : List (Option Block)) → (h : Phase2Heard y s c bytes step command blocks)
    → (own : Block) → block_submitted (c ∷ h.heard.before) ≡ Some own → stop_of own blocks ≡ None → (over : Bool) → h.heard.over own.inp own.inp_gen ≡ over
    → IsWell these y (elim over as (λ z. LeaseNext) [
      | true ↦ begin_next (lease_place y.setting s) (knows h.heard) aim (own.lver + 1)
      | false ↦ AnswerJob (HeldBy own.lver (value_of own))
    ])
lost_well these y s c bytes step command aim blocks h own known clear true over =
    begin_well these y s c bytes step command aim h.heard blocks own h.given (own_is y s (c ∷ h.heard.before) own known)
    (phase2_blocks y s c bytes step command blocks h) (own.lver + 1)
    (inr (value_of own, own.lver, ends y s c bytes step command blocks h own clear, refl, h.heard.counts own.inp own.inp_gen ∙ over))
lost_well these y s c bytes step command aim blocks h own known clear false over = λ shown.
    shows y s c bytes step command Phase2_read blocks h own known
    (λ s c blocks b. ShowsInstance y s c blocks b (HeldAlready own.lver (value_of own))
    ⊎ (EndsWith y s c blocks b own.lver (value_of own) × IsFalse (counts_over y.setting (after_entry y) s own.inp own.inp_gen)))
    (inr (ends y s c bytes step command blocks h own clear, h.heard.counts own.inp own.inp_gen ∙ over))

won_well : (these : Reply → Bool) (y : Answering) (s : Session) (k : LeaseKnown) (aim : Aim) (n : ℕ) → IsWell these y (won_next (lease_place y.setting s) k aim n)
won_well these y s k (Acquires mode) n = tt
won_well these y s k (Converts mode) n = tt
won_well these y s k Releases n = tt
won_well these y s k Settles n = tt

lost_by : (these : Reply → Bool) (y : Answering) (s : Session) (c : Submitted) (bytes : List ℕ) (step : LeaseStep) (command : Command) (aim : Aim) (blocks : List (Option Block)) → (h : Phase2Heard y s c bytes step command blocks)
    → aim_of_command command ≡ Some aim → (own : Block) → block_submitted (c ∷ h.heard.before) ≡ Some own → stop_of own blocks ≡ None
    → IsWell these y (lost_next (lease_place y.setting s) (knows h.heard) aim own.lver (value_of own))
lost_by these y s c bytes step command (Acquires mode) blocks h aims own known clear = lost_well these y s c bytes step command (Acquires mode) blocks h own known clear (h.heard.over own.inp own.inp_gen) refl
lost_by these y s c bytes step command (Converts mode) blocks h aims own known clear = lost_well these y s c bytes step command (Converts mode) blocks h own known clear (h.heard.over own.inp own.inp_gen) refl
lost_by these y s c bytes step command Releases blocks h aims own known clear = tt
lost_by these y s c bytes step command Settles blocks h aims own known clear = absurd (no_settling command aims)

ended_well : (these : Reply → Bool) (y : Answering) (s : Session) (c : Submitted) (bytes : List ℕ) (step : LeaseStep) (command : Command) (aim : Aim) (blocks : List (Option Block)) → (h : Phase2Heard y s c bytes step command blocks)
    → aim_of_command command ≡ Some aim → (own : Block) → block_submitted (c ∷ h.heard.before) ≡ Some own → stop_of own blocks ≡ None → (won : Bool)
    → IsWell these y (elim won as (λ z. LeaseNext) [
      | true ↦ won_next (lease_place y.setting s) (knows h.heard) aim own.lver
      | false ↦ lost_next (lease_place y.setting s) (knows h.heard) aim own.lver (value_of own)
    ])
ended_well these y s c bytes step command aim blocks h aims own known clear true = won_well these y s (knows h.heard) aim own.lver
ended_well these y s c bytes step command aim blocks h aims own known clear false = lost_by these y s c bytes step command aim blocks h aims own known clear

phase2_by : (these : Reply → Bool) (y : Answering) (s : Session) (c : Submitted) (bytes : List ℕ) (step : LeaseStep) (command : Command) (aim : Aim) (blocks : List (Option Block)) → (h : Phase2Heard y s c bytes step command blocks)
    → aim_of_command command ≡ Some aim → (own : Block) → block_submitted (c ∷ h.heard.before) ≡ Some own → (stop : Option Stop) → stop_of own blocks ≡ stop
    → IsWell these y (after_phase2 (lease_place y.setting s) (knows h.heard) aim own stop)
phase2_by these y s c bytes step command aim blocks h aims own known None clear = ended_well these y s c bytes step command aim blocks h aims own known clear (same_owner (value_of own) (knows h.heard).self)
phase2_by these y s c bytes step command aim blocks h aims own known (Some stop) is =
    stop_well these y s c bytes step command aim h.heard aims stop
    (stopped y s c bytes step command Phase2_read blocks h (either (is_at Phase1_read c) (is_at Phase2_read c) h.at) own known stop is) where
      either : (a b : Bool) → b ≡ true → (a || b) ≡ true
      either true b is = refl
      either false b is = is

-- What the read of phase 2 leads to has its cause.
pub phase2_well : (these : Reply → Bool) (y : Answering) (s : Session) (c : Submitted) (bytes : List ℕ) (step : LeaseStep) (command : Command) (aim : Aim) (blocks : List (Option Block)) → (h : Phase2Heard y s c bytes step command blocks)
    → aim_of_command command ≡ Some aim → (o : Option Block) → block_submitted (c ∷ h.heard.before) ≡ o
    → IsWell these y (option_map_or (λ own. after_phase2 (lease_place y.setting s) (knows h.heard) aim own (stop_of own blocks)) o Nothing)
phase2_well these y s c bytes step command aim blocks h aims None known = tt
phase2_well these y s c bytes step command aim blocks h aims (Some own) known = phase2_by these y s c bytes step command aim blocks h aims own known (stop_of own blocks) refl
