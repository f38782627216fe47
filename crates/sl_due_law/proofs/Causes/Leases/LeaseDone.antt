-- Work on a lease is answered as done only for a release, by the write that frees the leader or clears the mode.
use Rattle.sl_due_facts.proofs.Acts.Pairs.Decisions.{within_cases}
use Rattle.sl_due_facts.proofs.Jobs.RepliesComeAfter.{mapped_or, on_bool, on_option}
use Rattle.sl_due_law.proofs.Causes.Leases.ReadNexts.{bytes_by}
use Rattle.sl_trace.specs.Ballots.{phase1_block, same_owner, stop_of, value_of}
use Rattle.sl_trace.specs.LeaseDecisions.{LeasePlace, after_bytes, after_moding, after_phase1, after_phase2, after_read, after_take, area_next, begin_next, begin_or_refuse, first_step, lease_next, looks_for_shared, lost_next, named_area_next, phase1_next, phase2_next, refuses, settle_next, settle_owed, stop_reply, stopped_next, whole_area_next, within_turn, won_next}
use Rattle.sl_trace.specs.Leases.{LeaseKnown, instance_for, is_leader_of, mode_gen_of, owed, owed_free, own_known, shared_elsewhere}
use Rattle.sl_trace.specs.declared.lease.Owed.TheVariants.{BallotOwed, FreeOwed, ModeOwed}
use Rattle.sl_trace.specs.declared.lease.Owed.{Owed}
use Rattle.sl_trace.specs.declared.lease.Aim.{Aim}
use Rattle.sl_trace.specs.declared.lease.Aim.TheVariants.{Acquires, Converts, Releases, Settles}
use Rattle.sl_trace.specs.declared.lease.Instance.{Instance}
use Rattle.sl_trace.specs.declared.lease.Instance.TheVariants.{Begins, HeldAlready}
use Rattle.sl_trace.specs.declared.lease.LeaseNext.{LeaseNext}
use Rattle.sl_trace.specs.declared.lease.LeaseNext.TheVariants.{AnswerJob, GrantJob, Nothing, ReadFor, WriteBlock}
use Rattle.sl_trace.specs.declared.lease.Stop.{Stop}
use Rattle.sl_trace.specs.declared.lease.Stop.TheVariants.{BlockAhead, BlockRival, BlockTorn}
use Rattle.sl_sector.specs.declared.sector.Block.{Block}
use Rattle.sl_sector.specs.declared.sector.Leader.{Leader}
use Rattle.sl_sector.specs.declared.sector.Owner.{Owner}
use Rattle.sl_trace.specs.KillPrograms.{is_done}
use Rattle.sl_trace.specs.declared.effects.LeaseStep.{LeaseStep}
use Rattle.sl_trace.specs.declared.effects.LeaseStep.TheVariants.{ClearMode, FreeLeader, Phase1Read, Phase1Write, Phase2Read, Phase2Write, ReadAgain, ReadArea, ReadBeforeBlock, ReadBeforeFree, SetMode, TakeLeader}
use Rattle.sl_trace.specs.declared.effects.Mode.TheVariants.{Exclusive, Shared}
use Rattle.sl_trace.specs.declared.input.Answer.{Answer}
use Rattle.sl_trace.specs.declared.input.Answer.TheVariants.{Failed, Read, Written}
use Rattle.sl_trace.specs.declared.reply.Limited.TheVariants.{Lver as LverLimit, Mbal as MbalLimit, Turn as TurnLimit}
use Rattle.sl_trace.specs.declared.reply.Reply.{Reply}
use Rattle.sl_trace.specs.declared.reply.Reply.TheVariants.{Done, Held as HeldBy, IoFault, Limit as LimitReached, Shared as SharedBy, TornBlock, TornLeader, WrongArea}
use Rattle.sl_words.proofs.CaseLaws.{true_is_false}
use Rattle.sl_words.specs.Bounds.{is_number}
use Rattle.sl_words.specs.Words.{present}
use Rattle.std.proofs.Common.{inl, inr, refl, subst}
use Rattle.std.specs.Prelude.{List, None, Option, Some, false, is_none, position, true, ℕ, ◌+◌, ◌≡◌, ◌⊎◌}

-- No other aim, and no read or failed call, is.
abbrev NotDone : LeaseNext → Type 0
NotDone (AnswerJob r) = is_done r ≡ false
NotDone n = Unit {0}

refuses_not : (aim : Aim) (r : Reply) → is_done r ≡ false → NotDone (refuses aim r)
refuses_not (Acquires mode) r not = not
refuses_not (Converts mode) r not = not
refuses_not Releases r not = not
refuses_not Settles r not = tt

phase1_not : (aim : Aim) (b : Block) → NotDone (phase1_next aim b)
phase1_not aim b =
    on_bool NotDone (is_number b.lver) (refuses aim (LimitReached LverLimit)) (elim (is_number b.mbal) [ false ↦ refuses aim (LimitReached MbalLimit) | true ↦ WriteBlock Phase1Write b ]) (refuses_not aim (LimitReached LverLimit) refl)
    (on_bool NotDone (is_number b.mbal) (refuses aim (LimitReached MbalLimit)) (WriteBlock Phase1Write b) (refuses_not aim (LimitReached MbalLimit) refl) tt)

begin_not : (p : LeasePlace) (k : LeaseKnown) (aim : Aim) (n : ℕ) → NotDone (begin_next p k aim n)
unfolding begin_next
begin_not p k aim n =
    on_option NotDone (own_known k) Nothing (λ own. phase1_next aim (phase1_block k.self p.layout.hosts n k.shared (mode_gen_of k) own (present k.read))) tt
    (λ own. phase1_not aim (phase1_block k.self p.layout.hosts n k.shared (mode_gen_of k) own (present k.read)))

stop_not : (stop : Stop) → is_done (stop_reply stop) ≡ false
stop_not (BlockTorn host) = refl
stop_not (BlockAhead host lver) = refl
stop_not (BlockRival host mbal) = refl

-- Aims of a job.
abbrev pub IsForJob : Aim → Type 0
IsForJob Settles = ⊥
IsForJob aim = Unit {0}

stopped_not : (p : LeasePlace) (k : LeaseKnown) (aim : Aim) (stop : Stop) → IsForJob aim → NotDone (stopped_next p k aim stop)
stopped_not p k (Acquires mode) stop job = stop_not stop
stopped_not p k (Converts mode) stop job = stop_not stop
stopped_not p k Releases stop job = stop_not stop
stopped_not p k Settles stop job = absurd job

shared_not : (k : LeaseKnown) (own : Block) (read : List (Option Block)) (o : Option Block)
    → NotDone (elim o as (λ z. LeaseNext) [ Some b ↦ AnswerJob (SharedBy (record { id = b.host; generation = b.mode_gen })) | None ↦ phase2_next k own read ])
shared_not k own read (Some b) = refl
shared_not k own read None = tt

after_phase1_not : (p : LeasePlace) (k : LeaseKnown) (aim : Aim) (own : Block) (read : List (Option Block)) (stop : Option Stop) → IsForJob aim → NotDone (after_phase1 p k aim own read stop)
after_phase1_not p k aim own read (Some stop) job = stopped_not p k aim stop job
after_phase1_not p k aim own read None job =
    on_bool NotDone (looks_for_shared aim) (phase2_next k own read) (elim (shared_elsewhere k read) [ Some b ↦ AnswerJob (SharedBy (record { id = b.host; generation = b.mode_gen })) | None ↦ phase2_next k own read ]) tt
    (shared_not k own read (shared_elsewhere k read))

won_not : (p : LeasePlace) (k : LeaseKnown) (aim : Aim) (n : ℕ) → NotDone (won_next p k aim n)
won_not p k (Acquires mode) n = tt
won_not p k (Converts mode) n = tt
won_not p k Releases n = tt
won_not p k Settles n = tt

lost_not : (p : LeasePlace) (k : LeaseKnown) (aim : Aim) (n : ℕ) (o : Owner) → IsForJob aim → NotDone (lost_next p k aim n o)
lost_not p k (Acquires mode) n o job = on_bool NotDone (k.over o.id o.generation) (AnswerJob (HeldBy n o)) (begin_next p k (Acquires mode) (n + 1)) refl (begin_not p k (Acquires mode) (n + 1))
lost_not p k (Converts mode) n o job = on_bool NotDone (k.over o.id o.generation) (AnswerJob (HeldBy n o)) (begin_next p k (Converts mode) (n + 1)) refl (begin_not p k (Converts mode) (n + 1))
lost_not p k Releases n o job = tt
lost_not p k Settles n o job = absurd job

after_phase2_not : (p : LeasePlace) (k : LeaseKnown) (aim : Aim) (own : Block) (stop : Option Stop) → IsForJob aim → NotDone (after_phase2 p k aim own stop)
after_phase2_not p k aim own (Some stop) job = stopped_not p k aim stop job
after_phase2_not p k aim own None job =
    on_bool NotDone (same_owner (value_of own) k.self) (lost_next p k aim own.lver (value_of own)) (won_next p k aim own.lver) (lost_not p k aim own.lver (value_of own) job) (won_not p k aim own.lver)

begin_or_not : (p : LeasePlace) (k : LeaseKnown) (aim : Aim) (i : Instance) → NotDone (begin_or_refuse p k aim i)
begin_or_not p k aim (Begins n) = begin_not p k aim n
begin_or_not p k aim (HeldAlready lver owner) = refl

named_not : (p : LeasePlace) (k : LeaseKnown) (aim : Aim) (l : Leader) (read : List (Option Block)) (o : Option ℕ)
    → NotDone (elim o as (λ z. LeaseNext) [ Some i ↦ AnswerJob (TornBlock (i + 1)) | None ↦ whole_area_next p k aim l read ])
named_not p k aim l read (Some i) = refl
named_not p k aim l read None = mapped_or NotDone _ (own_known k) Nothing (λ own. begin_or_not p k aim (instance_for k l own read)) tt

area_not : (p : LeasePlace) (k : LeaseKnown) (aim : Aim) (name : List ℕ) (leader : Option Leader) (read : List (Option Block)) → NotDone (area_next p k aim name leader read)
unfolding area_next
area_not p k aim name leader read = by leader where
  by : (o : Option Leader)
      → NotDone (elim o as (λ z. LeaseNext) [
        | None ↦ AnswerJob TornLeader
        | Some l ↦ elim (is_leader_of p.layout p.lockspace name l) as (λ z. LeaseNext) [ false ↦ AnswerJob (WrongArea l.lockspace l.resource l.num_hosts) | true ↦ named_area_next p k aim l read ]
      ])
  by None = refl
  by (Some l) =
      on_bool NotDone (is_leader_of p.layout p.lockspace name l) (AnswerJob (WrongArea l.lockspace l.resource l.num_hosts)) (named_area_next p k aim l read) refl (named_not p k aim l read (position is_none read))

-- Nor is what a settling does.
settled_not : (p : LeasePlace) (k : LeaseKnown) → NotDone (settle_next p k)
unfolding settle_next
settled_not p k = by (owed k) where
  by : (o : Option Owed) → NotDone (settle_owed p k o)
  by None = tt
  by (Some (BallotOwed n)) = begin_not p k Settles n
  by (Some ModeOwed) = mapped_or NotDone _ k.own Nothing (λ own. tt) tt
  by (Some (FreeOwed n)) = tt

read_not : (p : LeasePlace) (k : LeaseKnown) (aim : Aim) (leader : Option Leader) (read : List (Option Block)) (step : LeaseStep) → IsForJob aim → NotDone (after_read p k aim leader read step)
read_not p k aim leader read (ReadArea name) job = area_not p k aim name leader read
read_not p k aim leader read ReadBeforeFree job = mapped_or NotDone _ (owed_free k) Nothing (λ n. tt) tt
read_not p k aim leader read ReadBeforeBlock job = settled_not p k
read_not p k aim leader read (ReadAgain again) job = tt
read_not p k aim leader read Phase1Read job = mapped_or NotDone _ k.own Nothing (λ own. after_phase1_not p k aim own read (stop_of own read) job) tt
read_not p k aim leader read Phase2Read job = mapped_or NotDone _ k.own Nothing (λ own. after_phase2_not p k aim own (stop_of own read) job) tt
read_not p k aim leader read Phase1Write job = tt
read_not p k aim leader read Phase2Write job = tt
read_not p k aim leader read TakeLeader job = tt
read_not p k aim leader read SetMode job = tt
read_not p k aim leader read FreeLeader job = tt
read_not p k aim leader read ClearMode job = tt

bytes_not : (p : LeasePlace) (k : LeaseKnown) (aim : Aim) (bytes : List ℕ) (step : LeaseStep) → IsForJob aim → NotDone (after_bytes p k aim bytes step)
bytes_not p k aim bytes step job = bytes_by NotDone p k aim bytes step (λ read of. tt) (read_not p k aim _ _ (first_step step) job)

taken_not : (k : LeaseKnown) (aim : Aim) (n : ℕ) → NotDone (after_take k aim n)
taken_not k (Acquires Exclusive) n = tt
taken_not k (Acquires Shared) n = mapped_or NotDone _ k.own Nothing (λ own. tt) tt
taken_not k (Converts Exclusive) n = mapped_or NotDone _ k.own Nothing (λ own. tt) tt
taken_not k (Converts Shared) n = tt
taken_not k Releases n = tt
taken_not k Settles n = tt

moded_not : (p : LeasePlace) (k : LeaseKnown) (aim : Aim) (n : ℕ) → NotDone (after_moding p k aim n)
moded_not p k (Acquires mode) n = tt
moded_not p k (Converts mode) n = mapped_or NotDone _ k.exclusive Nothing (λ e. tt) tt
moded_not p k Releases n = tt
moded_not p k Settles n = tt

-- ---- what is

pub record DoneBy (aim : Aim) (step : LeaseStep) (answer : Answer) : Type 0 where
  pub releases : aim ≡ Releases
  pub written : answer ≡ Written
  pub last : (step ≡ FreeLeader) ⊎ (step ≡ ClearMode)

never_done : (n : LeaseNext) → NotDone n → n ≡ AnswerJob Done → ⊥
never_done n not is = true_is_false (subst (λ k. NotDone k) is not)

pub done_by : (p : LeasePlace) (k : LeaseKnown) (aim : Aim) (call n : ℕ) (step : LeaseStep) (answer : Answer) → IsForJob aim → lease_next p k aim call n step answer ≡ AnswerJob Done → DoneBy aim step answer
unfolding lease_next
done_by p k aim call n step Failed job is = absurd (never_done (refuses aim (IoFault call)) (refuses_not aim (IoFault call) refl) is)
done_by p k aim call n step (Read bytes) job is = absurd (never_done (after_bytes p k aim bytes step) (bytes_not p k aim bytes step job) is)
done_by p k aim call n (ReadArea name) Written job is = absurd (never_done Nothing tt is)
done_by p k aim call n ReadBeforeFree Written job is = absurd (never_done Nothing tt is)
done_by p k aim call n ReadBeforeBlock Written job is = absurd (never_done Nothing tt is)
done_by p k aim call n (ReadAgain read) Written job is = absurd (never_done Nothing tt is)
done_by p k aim call n Phase1Read Written job is = absurd (never_done Nothing tt is)
done_by p k aim call n Phase2Read Written job is = absurd (never_done Nothing tt is)
done_by p k aim call n Phase1Write Written job is = absurd (never_done (ReadFor Phase1Read) tt is)
done_by p k aim call n Phase2Write Written job is = absurd (never_done (ReadFor Phase2Read) tt is)
done_by p k aim call n TakeLeader Written job is = absurd (never_done (after_take k aim n) (taken_not k aim n) is)
done_by p k aim call n SetMode Written job is = absurd (never_done (after_moding p k aim n) (moded_not p k aim n) is)
done_by p k (Acquires mode) call n FreeLeader Written job is = absurd (never_done (GrantJob Shared n) tt is)
done_by p k (Converts mode) call n FreeLeader Written job is = absurd (never_done Nothing tt is)
done_by p k Releases call n FreeLeader Written job is = record { releases = refl; written = refl; last = inl refl }
done_by p k Settles call n FreeLeader Written job is = absurd job
done_by p k (Acquires mode) call n ClearMode Written job is = absurd (never_done Nothing tt is)
done_by p k (Converts mode) call n ClearMode Written job is = absurd (never_done Nothing tt is)
done_by p k Releases call n ClearMode Written job is = record { releases = refl; written = refl; last = inr refl }
done_by p k Settles call n ClearMode Written job is = absurd job

-- .. also where it is bounded by its turn.
pub done_within : (p : LeasePlace) (k : LeaseKnown) (aim : Aim) (call n : ℕ) (step : LeaseStep) (answer : Answer) → IsForJob aim → within_turn p k aim (lease_next p k aim call n step answer) ≡ AnswerJob Done → DoneBy aim step answer
done_within p k aim call n step answer job is =
    within_cases (λ z. z ≡ AnswerJob Done → DoneBy aim step answer) p k aim (lease_next p k aim call n step answer) (λ fits. done_by p k aim call n step answer job)
    (λ paired over writes at. absurd (never_done (refuses aim (LimitReached TurnLimit)) (refuses_not aim (LimitReached TurnLimit) refl) at)) is
