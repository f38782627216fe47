-- The cause of what a read of the area is answered with.
use Rattle.sl_area.specs.Pairs.{BlocksRead, blocks_of}
use Rattle.sl_area.specs.TornLeader.{leader_read}
use Rattle.sl_area.specs.AreaLayout.{blocks_part}
use Rattle.sl_due_law.proofs.Causes.AnsweredJobs.{with_spot}
use Rattle.sl_due_law.proofs.Causes.Leases.GivenBlocks.{AreaRead, blocks_give, leader_gives}
use Rattle.sl_due_law.proofs.Causes.Leases.HeardLeases.{IsWell, LeaseHeard, knows, reads, reads_blocks}
use Rattle.sl_due_law.proofs.Causes.Leases.Limits.{begin_well}
use Rattle.sl_due_leases.proofs.Ways.GivenReads.{blocks_heard}
use Rattle.sl_run.specs.Caused.{Answering, AnswersRead, EndsWith, GivesBlocks, GivesLeader, ShowsInstance, after_entry}
use Rattle.sl_trace.specs.Jobs.{resource_named}
use Rattle.sl_trace.specs.LeaseDecisions.{area_next, begin_or_refuse, lease_place, named_area_next, whole_area_next}
use Rattle.sl_trace.specs.Leases.{Area_read, blocks_given, instance_for, is_at, is_leader_of, last_blocks, own_known, read_given}
use Rattle.sl_trace.specs.declared.lease.Aim.{Aim}
use Rattle.sl_trace.specs.declared.lease.Instance.TheVariants.{Begins, HeldAlready}
use Rattle.sl_trace.specs.declared.lease.Instance.{Instance}
use Rattle.sl_trace.specs.declared.lease.LeaseNext.TheVariants.{AnswerJob, Nothing}
use Rattle.sl_trace.specs.declared.lease.LeaseNext.{LeaseNext}
use Rattle.sl_sector.specs.declared.sector.Block.{Block}
use Rattle.sl_sector.specs.declared.sector.Leader.{Leader}
use Rattle.sl_trace.specs.Sightings.{counts_over}
use Rattle.sl_trace.specs.declared.session.Session.{Session}
use Rattle.sl_trace.specs.Traces.{Submitted}
use Rattle.sl_trace.specs.declared.command.Command.{Command}
use Rattle.sl_trace.specs.declared.command.ResourceArg.{ResourceArg}
use Rattle.sl_trace.specs.declared.effects.LeaseStep.{LeaseStep}
use Rattle.sl_trace.specs.declared.effects.Purpose.TheVariants.{RequestRead}
use Rattle.sl_trace.specs.declared.input.Answer.TheVariants.{Read}
use Rattle.sl_trace.specs.declared.reply.Reply.TheVariants.{TornBlock, TornLeader, WrongArea}
use Rattle.sl_trace.specs.declared.reply.Reply.{Reply}
use Rattle.std.proofs.Common.{ap, inl, refl, ◌∙◌}
use Rattle.std.specs.Option.{option_map_or}
use Rattle.std.specs.Prelude.{Bool, IsFalse, IsTrue, List, None, Option, Some, false, is_none, option_map, position, true, ℕ, ◌+◌, ◌∷◌, ◌≡◌, ◌⊎◌}

-- A read of the area that gave this of the blocks, made once or once more.
pub record AreaHeard (y : Answering) (s : Session) (c : Submitted) (bytes : List ℕ) (step : LeaseStep) (command : Command) (r : BlocksRead) : Type 0 where
  pub heard : LeaseHeard y s c (Read bytes) step command
  pub given : read_given y.setting.layout c heard.before ≡ Some r
  pub at : is_at Area_read c ≡ true
  pub last : r.last ≡ blocks_part y.setting.layout bytes

abbrev blocks : Answering → BlocksRead → List (Option Block)
blocks y r = blocks_of y.setting.layout r

area_read : (y : Answering) (s : Session) (c : Submitted) (bytes : List ℕ) (step : LeaseStep) (command : Command) (r : BlocksRead) → AreaHeard y s c bytes step command r → AreaRead y s c bytes r
area_read y s c bytes step command r h =
    record { session = h.heard.session; before = h.heard.before; calls = h.heard.calls; gives = h.heard.gives; at = h.at; given = h.given; last = h.last }

area_given : (y : Answering) (s : Session) (c : Submitted) (bytes : List ℕ) (step : LeaseStep) (command : Command) (r : BlocksRead) → (h : AreaHeard y s c bytes step command r)
    → blocks_given y.setting.layout c h.heard.before ≡ Some (blocks y r)
area_given y s c bytes step command r h = blocks_heard y.setting.layout c h.heard.before r h.given

blocks_read : (y : Answering) (s : Session) (c : Submitted) (bytes : List ℕ) (step : LeaseStep) (command : Command) (r : BlocksRead) → (h : AreaHeard y s c bytes step command r)
    → last_blocks y.setting.layout (c ∷ h.heard.before) ≡ blocks y r
blocks_read y s c bytes step command r h =
    ap (λ (o : Option (List (Option Block))). elim o as (λ z. List (Option Block)) [ Some bs ↦ bs | None ↦ last_blocks y.setting.layout h.heard.before ])
    (area_given y s c bytes step command r h)

-- The read shows this instance.
shows : (y : Answering) (s : Session) (c : Submitted) (bytes : List ℕ) (step : LeaseStep) (command : Command) (r : BlocksRead) → (h : AreaHeard y s c bytes step command r)
    → (l : Leader) → leader_read y.setting.layout bytes r ≡ Some l → (own : Block) (i : Instance) → instance_for (knows h.heard) l own (blocks y r) ≡ i
    → ShowsInstance y s c (blocks y r) own i
shows y s c bytes step command r h l there own i is =
    (h.at, bytes, l, h.heard.gives, leader_gives y s c bytes r (area_read y s c bytes step command r h) (Some l) there, h.heard.instances l own (blocks y r) ∙ is)

instance_well : (these : Reply → Bool) (y : Answering) (s : Session) (c : Submitted) (bytes : List ℕ) (step : LeaseStep) (command : Command) (aim : Aim) (r : BlocksRead) → (h : AreaHeard y s c bytes step command r)
    → (l : Leader) → leader_read y.setting.layout bytes r ≡ Some l → (own : Block) → own_known (knows h.heard) ≡ Some own
    → (i : Instance) → instance_for (knows h.heard) l own (blocks y r) ≡ i
    → IsWell these y (begin_or_refuse (lease_place y.setting s) (knows h.heard) aim i)
instance_well these y s c bytes step command aim r h l there own known (Begins n) is =
    begin_well these y s c bytes step command aim h.heard (blocks y r) own (area_given y s c bytes step command r h) known
    (blocks_read y s c bytes step command r h) n (inl (shows y s c bytes step command r h l there own (Begins n) is))
instance_well these y s c bytes step command aim r h l there own known (HeldAlready lver owner) is = λ shown.
    reads_blocks y s c bytes step command h.heard (blocks y r) own (area_given y s c bytes step command r h) known
    (λ s c blocks own. ShowsInstance y s c blocks own (HeldAlready lver owner)
    ⊎ (EndsWith y s c blocks own lver owner × IsFalse (counts_over y.setting (after_entry y) s owner.id owner.generation)))
    (inl (shows y s c bytes step command r h l there own (HeldAlready lver owner) is))

whole_well : (these : Reply → Bool) (y : Answering) (s : Session) (c : Submitted) (bytes : List ℕ) (step : LeaseStep) (command : Command) (aim : Aim) (r : BlocksRead) → (h : AreaHeard y s c bytes step command r)
    → (l : Leader) → leader_read y.setting.layout bytes r ≡ Some l → (o : Option Block) → own_known (knows h.heard) ≡ o
    → IsWell these y (option_map_or (λ own. begin_or_refuse (lease_place y.setting s) (knows h.heard) aim
    (instance_for (knows h.heard) l own (blocks y r))) o Nothing)
whole_well these y s c bytes step command aim r h l there None known = tt
whole_well these y s c bytes step command aim r h l there (Some own) known =
    instance_well these y s c bytes step command aim r h l there own known (instance_for (knows h.heard) l own (blocks y r)) refl

torn_well : (these : Reply → Bool) (y : Answering) (s : Session) (c : Submitted) (bytes : List ℕ) (step : LeaseStep) (command : Command) (aim : Aim) (r : BlocksRead) → (h : AreaHeard y s c bytes step command r)
    → (l : Leader) → leader_read y.setting.layout bytes r ≡ Some l → (torn : Option ℕ) → position is_none (blocks y r) ≡ torn
    → IsWell these y (elim torn as (λ z. LeaseNext) [
      | Some i ↦ AnswerJob (TornBlock (i + 1))
      | None ↦ whole_area_next (lease_place y.setting s) (knows h.heard) aim l (blocks y r)
    ])
torn_well these y s c bytes step command aim r h l there (Some i) is = λ shown.
    inl (reads y s c bytes step command h.heard
    (λ c bytes. IsTrue (is_at Area_read c) × GivesBlocks y c bytes (λ blocks. option_map (λ k. k + 1) (position is_none blocks) ≡ Some (i + 1))) (
      h.at,
      blocks_give y s c bytes r (area_read y s c bytes step command r h) (λ blocks. option_map (λ k. k + 1) (position is_none blocks) ≡ Some (i + 1)) (ap (λ o. option_map (λ k. k + 1) o) is),
    ))
torn_well these y s c bytes step command aim r h l there None is = whole_well these y s c bytes step command aim r h l there (own_known (knows h.heard)) refl

named_well : (these : Reply → Bool) (y : Answering) (s : Session) (a : ResourceArg) (c : Submitted) (bytes : List ℕ) (step : LeaseStep) (command : Command) (aim : Aim) (r : BlocksRead) → (h : AreaHeard y s c bytes step command r)
    → a.lockspace ≡ s.lockspace → resource_named command ≡ Some a
    → (l : Leader) → leader_read y.setting.layout bytes r ≡ Some l → (named : Bool) → is_leader_of y.setting.layout s.lockspace a.name l ≡ named
    → IsWell these y (elim named as (λ z. LeaseNext) [
      | false ↦ AnswerJob (WrongArea l.lockspace l.resource l.num_hosts)
      | true ↦ named_area_next (lease_place y.setting s) (knows h.heard) aim l (blocks y r)
    ])
named_well these y s a c bytes step command aim r h space names l there false other = λ shown.
    with_spot y command a
    (λ a at. AnswersRead y (λ c bytes. (m : Leader) × GivesLeader y c bytes (Some m) × (m.lockspace ≡ l.lockspace) × (m.resource ≡ l.resource) × (m.num_hosts ≡ l.num_hosts)
    × IsFalse (is_leader_of y.setting.layout a.lockspace a.name m)))
    h.heard.commanded names (c, bytes, h.heard.call, (l, leader_gives y s c bytes r (area_read y s c bytes step command r h) (Some l) there, refl, refl, refl, ap (λ n. is_leader_of y.setting.layout n a.name l) space ∙ other))
named_well these y s a c bytes step command aim r h space names l there true right = torn_well these y s c bytes step command aim r h l there (position is_none (blocks y r)) refl

leader_well : (these : Reply → Bool) (y : Answering) (s : Session) (a : ResourceArg) (c : Submitted) (bytes : List ℕ) (step : LeaseStep) (command : Command) (aim : Aim) (r : BlocksRead) → (h : AreaHeard y s c bytes step command r)
    → a.lockspace ≡ s.lockspace → resource_named command ≡ Some a
    → (o : Option Leader) → leader_read y.setting.layout bytes r ≡ o
    → IsWell these y (elim o as (λ z. LeaseNext) [
      | None ↦ AnswerJob TornLeader
      | Some l ↦ elim (is_leader_of y.setting.layout s.lockspace a.name l) as (λ z. LeaseNext) [
        | false ↦ AnswerJob (WrongArea l.lockspace l.resource l.num_hosts)
        | true ↦ named_area_next (lease_place y.setting s) (knows h.heard) aim l (blocks y r)
      ]
    ])
leader_well these y s a c bytes step command aim r h space names None torn = λ shown.
    reads y s c bytes step command h.heard
    (λ c bytes. (IsTrue (is_at Area_read c) ⊎ (c.call.purpose ≡ RequestRead y.job.number)) × GivesLeader y c bytes None)
    (inl h.at, leader_gives y s c bytes r (area_read y s c bytes step command r h) None torn)
leader_well these y s a c bytes step command aim r h space names (Some l) there = named_well these y s a c bytes step command aim r h space names l there (is_leader_of y.setting.layout s.lockspace a.name l) refl

-- What a read of the area leads to has its cause.
pub area_well : (these : Reply → Bool) (y : Answering) (s : Session) (a : ResourceArg) (c : Submitted) (bytes : List ℕ) (step : LeaseStep) (command : Command) (aim : Aim) (r : BlocksRead) → (h : AreaHeard y s c bytes step command r)
    → a.lockspace ≡ s.lockspace → resource_named command ≡ Some a → IsWell these y (area_next (lease_place y.setting s) (knows h.heard) aim a.name (leader_read y.setting.layout bytes r) (blocks_of y.setting.layout r))
unfolding area_next
area_well these y s a c bytes step command aim r h space names = leader_well these y s a c bytes step command aim r h space names (leader_read y.setting.layout bytes r) refl
