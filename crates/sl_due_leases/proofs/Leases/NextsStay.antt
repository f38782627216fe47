-- What a lease decides keeps the laws: where a leader is freed, its session doesn't hold under the instance.
use Rattle.sl_due_facts.proofs.Acts.LoopsKeep.{with_some_keeps}
use Rattle.sl_due_facts.specs.Acts.Acts.{Has, Hears, next_of_settling}
use Rattle.sl_area.specs.Pairs.{blocks_of}
use Rattle.sl_area.specs.TornLeader.{leader_read}
use Rattle.sl_due.specs.CarriedLease.{carry_lease, goes_on, next_of_lease}
use Rattle.sl_due.specs.Steps.{Step, add_reply, seen}
use Rattle.sl_run.specs.LawfulArea.{is_area_work}
use Rattle.sl_run.specs.LawfulLeader.{holds_under}
use Rattle.sl_due_leases.proofs.Leases.LeaseCallsStay.{LeaseMay, blocks_stay, leaders_stay, reads_stay}
use Rattle.sl_due_leases.proofs.Leases.OthersKeep.{Any, LawfulSoFar, no_others, others_are_lawful}
use Rattle.sl_due_leases.proofs.Ways.WayFactsHeld.EffectsLeave.{there_has}
use Rattle.sl_due_leases.proofs.Ways.WayFactsHeld.HeardStands.{HeardCall, heard_call, heard_has, heard_number, heard_open, lease_heard, lease_ready, spot_same}
use Rattle.sl_due_leases.proofs.Ways.WayFactsHeld.LeaseNextsLeave.{LeaseReady, moment_of}
use Rattle.sl_due_leases.proofs.Ways.WayFactsHeld.LinesReady.{none_open}
use Rattle.sl_due_leases.proofs.Ways.WayFactsHeld.PlainWalks.{ByPlain, granted}
use Rattle.sl_due_facts.proofs.Acts.Pairs.Decisions.{next_is, settling_is}
use Rattle.sl_due_leases.proofs.Ways.WayFactsHeld.DecidedFits.{heard_fits, settling_fits}
use Rattle.sl_due_leases.specs.Ways.Nexts.{NextIs}
use Rattle.sl_trace.specs.Ballots.{is_ahead, moded_block, phase1_block, same_owner, stop_of, value_of}
use Rattle.sl_trace.specs.Jobs.{aim_of, aim_of_command, command_numbered}
use Rattle.sl_trace.specs.LeaseDecisions.{LeasePlace, begin_or_refuse, leader_for, looks_for_shared, named_area_next, phase1_next, phase2_next, after_bytes, after_phase1, after_phase2, after_read, after_write, area_next, asked_again, begin_next, first_step, heard, lease_next, lease_place, refuses, settle_next, settle_owed, stopped_next, whole_area_next}
use Rattle.sl_trace.specs.Leases.{LeaseKnown, Phase2_read, exclusive_on, holdings_on, instance_for, Area_read, Phase1_read, Phase1_write, Phase2_write, free_left, is_leader_of, kind_of_step, known, lease_calls, lease_step, lver_written, mode_gen_of, open_on, owed, owed_free, own_known, same_kind, shared_elsewhere, spot_of_call}
use Rattle.sl_trace.specs.declared.lease.Aim.TheVariants.{Acquires, Converts, Releases, Settles}
use Rattle.sl_trace.specs.declared.lease.Aim.{Aim}
use Rattle.sl_trace.specs.declared.lease.Instance.TheVariants.{Begins, HeldAlready}
use Rattle.sl_trace.specs.declared.lease.Instance.{Instance}
use Rattle.sl_trace.specs.declared.lease.LeaseNext.TheVariants.{AnswerJob, BecomeExclusive, BecomeShared, GrantJob, Nothing, ReadFor, WriteBlock, WriteLeader}
use Rattle.sl_trace.specs.declared.lease.LeaseNext.{LeaseNext}
use Rattle.sl_trace.specs.declared.lease.Owed.TheVariants.{BallotOwed, FreeOwed, ModeOwed}
use Rattle.sl_trace.specs.declared.lease.Owed.{Owed}
use Rattle.sl_trace.specs.declared.lease.Stop.{Stop}
use Rattle.sl_sector.specs.declared.sector.Block.{Block}
use Rattle.sl_sector.specs.declared.sector.Leader.{Leader}
use Rattle.sl_trace.specs.Sessions.{holdings_of, me, is_active, session_numbered}
use Rattle.sl_trace.specs.declared.session.Session.{Session}
use Rattle.sl_due_facts.specs.Facts.HeardCall.{heard_by}
use Rattle.sl_due_facts.specs.Facts.HoldingFacts.{HoldingFacts, StandsExclusive}
use Rattle.sl_due_facts.specs.Facts.AllFacts.{Whole}
use Rattle.sl_due_facts.specs.Facts.WorkFacts.{IsAtWork}
use Rattle.sl_trace.specs.Traces.{Submitted, Trace, holdings, is_running, is_shared, same_place, spot_of_grant, work_job}
use Rattle.sl_trace.specs.declared.command.Command.{Command}
use Rattle.sl_trace.specs.declared.effects.Grant.{Grant}
use Rattle.sl_trace.specs.declared.effects.LeaseStep.TheVariants.{ClearMode, FreeLeader, Phase1Read, Phase1Write, Phase2Read, Phase2Write, ReadAgain, ReadArea, ReadBeforeBlock, ReadBeforeFree, SetMode, TakeLeader}
use Rattle.sl_trace.specs.declared.effects.LeaseRead.{LeaseRead}
use Rattle.sl_trace.specs.declared.effects.LeaseStep.{LeaseStep}
use Rattle.sl_trace.specs.declared.effects.Mode.TheVariants.{Exclusive, Shared}
use Rattle.sl_trace.specs.declared.effects.Mode.{Mode}
use Rattle.sl_trace.specs.declared.effects.Purpose.TheVariants.{Lease}
use Rattle.sl_trace.specs.declared.effects.Purpose.{Purpose}
use Rattle.sl_due_leases.proofs.Ways.WayStages.{first_kind, is_at_in}
use Rattle.sl_words.proofs.Numbers.{number_itself}
use Rattle.sl_trace.specs.declared.effects.Spot.{Spot}
use Rattle.sl_trace.specs.declared.effects.Work.TheVariants.{ForJob, Settling}
use Rattle.sl_trace.specs.declared.effects.Work.{Work}
use Rattle.sl_trace.specs.declared.input.Answer.TheVariants.{Failed, Read, Written}
use Rattle.sl_trace.specs.declared.input.Answer.{Answer}
use Rattle.sl_trace.specs.declared.reply.Limited.TheVariants.{Lver as LverLimit, Mbal as MbalLimit, Turn as TurnLimit}
use Rattle.sl_trace.specs.declared.reply.Reply.TheVariants.{IoFault, Limit as LimitReached, Shared as SharedBy, TornBlock, TornLeader, WrongArea}
use Rattle.sl_trace.specs.declared.reply.Reply.{Reply}
use Rattle.sl_words.proofs.Lists.{any_found, contains_first, find_fails, find_inside, kept_inside}
use Rattle.sl_run_law.proofs.Leases.NumberLaws.{number_is_place}
use Rattle.sl_words.proofs.CaseLaws.{false_is_true, is_false, none_some, some_value, true_is_false}
use Rattle.sl_words.proofs.WordLaws.{and_true, choose_some}
use Rattle.sl_words.specs.Bounds.{is_number}
use Rattle.sl_words.specs.Words.{choose, present, some_is}
use Rattle.std.proofs.Common.{ap, eqb-true, inl, inr, refl, subst, sym, ◌∙◌}
use Rattle.std.specs.Option.{option_map_or}
use Rattle.std.specs.Prelude.{Bool, Contains, List, None, Option, Some, [], false, is_none, is_some, not, option_and_then, option_map, position, true, ℕ, ◌%◌, ◌&&◌, ◌+◌, ◌==◌, ◌||◌, ◌≡◌, ◌⊎◌}

-- ---- what frees a leader, and what converts

abbrev frees : LeaseNext → Bool
frees (WriteLeader step l) = not l.held
frees Nothing = false
frees (ReadFor step) = false
frees (WriteBlock step b) = false
frees (AnswerJob r) = false
frees (GrantJob mode lver) = false
frees (BecomeShared lver l) = false
frees (BecomeExclusive lver b) = false

abbrev pub turns : LeaseNext → Bool
turns (BecomeShared lver l) = true
turns (BecomeExclusive lver b) = true
turns (WriteLeader step l) = false
turns Nothing = false
turns (ReadFor step) = false
turns (WriteBlock step b) = false
turns (AnswerJob r) = false
turns (GrantJob mode lver) = false

-- Neither.
abbrev pub plainly : LeaseNext → Bool
plainly n = not (frees n || turns n)

refuses_plainly : (aim : Aim) (r : Reply) → plainly (refuses aim r) ≡ true
refuses_plainly (Acquires mode) r = refl
refuses_plainly (Converts mode) r = refl
refuses_plainly Releases r = refl
refuses_plainly Settles r = refl

begins_plainly : (p : LeasePlace) (k : LeaseKnown) (aim : Aim) (n : ℕ) → plainly (begin_next p k aim n) ≡ true
unfolding begin_next
begins_plainly p k aim n = by (own_known k) where
  numbers : (b : Block) (x y : Bool) (r q : Reply) → plainly (elim x as (λ z. LeaseNext) [ false ↦ refuses aim r | true ↦ elim y as (λ z. LeaseNext) [ false ↦ refuses aim q | true ↦ WriteBlock Phase1Write b ] ]) ≡ true
  numbers b false y r q = refuses_plainly aim r
  numbers b true false r q = refuses_plainly aim q
  numbers b true true r q = refl

  by : (o : Option Block) → plainly (elim o as (λ z. LeaseNext) [ None ↦ Nothing | Some own ↦ phase1_next aim (phase1_block k.self p.layout.hosts n k.shared (mode_gen_of k) own (present k.read)) ]) ≡ true
  by None = refl
  by (Some own) = numbers (phase1_block k.self p.layout.hosts n k.shared (mode_gen_of k) own (present k.read)) (is_number (phase1_block k.self p.layout.hosts n k.shared (mode_gen_of k) own (present k.read)).lver)
      (is_number (phase1_block k.self p.layout.hosts n k.shared (mode_gen_of k) own (present k.read)).mbal) (LimitReached LverLimit) (LimitReached MbalLimit)

owed_plainly : (p : LeasePlace) (k : LeaseKnown) (o : Option Owed) → plainly (settle_owed p k o) ≡ true
owed_plainly p k None = refl
owed_plainly p k (Some (BallotOwed n)) = begins_plainly p k Settles n
owed_plainly p k (Some ModeOwed) = by k.own where
  by : (o : Option Block) → plainly (option_map_or (λ own. WriteBlock ClearMode (moded_block own false 0)) o Nothing) ≡ true
  by None = refl
  by (Some own) = refl
owed_plainly p k (Some (FreeOwed n)) = refl

pub settles_plainly : (p : LeasePlace) (k : LeaseKnown) → plainly (settle_next p k) ≡ true
unfolding settle_next
settles_plainly p k = owed_plainly p k (owed k)

stops_plainly : (p : LeasePlace) (k : LeaseKnown) (aim : Aim) (stop : Stop) → plainly (stopped_next p k aim stop) ≡ true
stops_plainly p k (Acquires mode) stop = refl
stops_plainly p k (Converts mode) stop = refl
stops_plainly p k Releases stop = refl
stops_plainly p k Settles stop = by (is_ahead stop) where
  by : (b : Bool) → plainly (elim b as (λ z. LeaseNext) [ true ↦ settle_next p k | false ↦ Nothing ]) ≡ true
  by true = settles_plainly p k
  by false = refl

instances_plainly : (p : LeasePlace) (k : LeaseKnown) (aim : Aim) (i : Instance) → plainly (begin_or_refuse p k aim i) ≡ true
instances_plainly p k aim (Begins n) = begins_plainly p k aim n
instances_plainly p k aim (HeldAlready lver owner) = refl

whole_plainly : (p : LeasePlace) (k : LeaseKnown) (aim : Aim) (l : Leader) (read : List (Option Block)) → plainly (whole_area_next p k aim l read) ≡ true
whole_plainly p k aim l read = by (own_known k) where
  by : (o : Option Block) → plainly (option_map_or (λ own. begin_or_refuse p k aim (instance_for k l own read)) o Nothing) ≡ true
  by None = refl
  by (Some own) = instances_plainly p k aim (instance_for k l own read)

areas_plainly : (p : LeasePlace) (k : LeaseKnown) (aim : Aim) (name : List ℕ) (leader : Option Leader) (read : List (Option Block)) → plainly (area_next p k aim name leader read) ≡ true
unfolding area_next
areas_plainly p k aim name leader read = by leader where
  torn : (l : Leader) (o : Option ℕ) → plainly (elim o as (λ z. LeaseNext) [ Some i ↦ AnswerJob (TornBlock (i + 1)) | None ↦ whole_area_next p k aim l read ]) ≡ true
  torn l (Some i) = refl
  torn l None = whole_plainly p k aim l read

  named : (l : Leader) (b : Bool) → plainly (elim b as (λ z. LeaseNext) [ false ↦ AnswerJob (WrongArea l.lockspace l.resource l.num_hosts) | true ↦ named_area_next p k aim l read ]) ≡ true
  named l false = refl
  named l true = torn l (position (λ z. is_none z) read)

  by : (o : Option Leader) → plainly (elim o as (λ z. LeaseNext) [
    | None ↦ AnswerJob TornLeader
    | Some l ↦ elim (is_leader_of p.layout p.lockspace name l) as (λ z. LeaseNext) [ false ↦ AnswerJob (WrongArea l.lockspace l.resource l.num_hosts) | true ↦ named_area_next p k aim l read ]
  ]) ≡ true
  by None = refl
  by (Some l) = named l (is_leader_of p.layout p.lockspace name l)

phase1_plainly : (p : LeasePlace) (k : LeaseKnown) (aim : Aim) (own : Block) (read : List (Option Block)) (o : Option Stop) → plainly (after_phase1 p k aim own read o) ≡ true
phase1_plainly p k aim own read (Some stop) = stops_plainly p k aim stop
phase1_plainly p k aim own read None = by (looks_for_shared aim) (shared_elsewhere k read) where
  by : (b : Bool) (o : Option Block) → plainly (elim b as (λ z. LeaseNext) [
    | false ↦ phase2_next k own read
    | true ↦ elim o as (λ z. LeaseNext) [ Some b ↦ AnswerJob (SharedBy (record { id = b.host; generation = b.mode_gen })) | None ↦ phase2_next k own read ]
  ]) ≡ true
  by false o = refl
  by true (Some b) = refl
  by true None = refl

plain_frees : (n : LeaseNext) → plainly n ≡ true → frees n ≡ false
plain_frees n is = by (frees n) (turns n) is where
  by : (a b : Bool) → not (a || b) ≡ true → a ≡ false
  by false b h = refl
  by true b h = absurd (false_is_true h)

pub plain_turns : (n : LeaseNext) → plainly n ≡ true → turns n ≡ false
plain_turns n is = by (frees n) (turns n) is where
  by : (a b : Bool) → not (a || b) ≡ true → b ≡ false
  by false false h = refl
  by false true h = absurd (false_is_true h)
  by true b h = absurd (false_is_true h)

-- Why a leader may be freed after an answer.
data FreesBy (k : LeaseKnown) (aim : Aim) (step : LeaseStep) (n : LeaseNext) : Type 0 where
  No_free : frees n ≡ false → FreesBy k aim step n
  Of_acquire : (mode : Mode) → aim ≡ Acquires mode → FreesBy k aim step n
  By_read : same_kind (kind_of_step step) Phase2_read ≡ true → FreesBy k aim step n
  By_owed : ((to : LeaseStep) (l : Leader) → n ≡ WriteLeader to l → owed_free k ≡ Some l.lver) → FreesBy k aim step n

abbrev pub is_leader_next : LeaseNext → Bool
is_leader_next (WriteLeader step l) = true
is_leader_next Nothing = false
is_leader_next (ReadFor step) = false
is_leader_next (WriteBlock step b) = false
is_leader_next (AnswerJob r) = false
is_leader_next (GrantJob mode lver) = false
is_leader_next (BecomeShared lver l) = false
is_leader_next (BecomeExclusive lver b) = false

lver_of_next : LeaseNext → ℕ
lver_of_next (WriteLeader step l) = l.lver
lver_of_next n = 0

owed_by : (p : LeasePlace) (k : LeaseKnown) (o : Option ℕ) → owed_free k ≡ o → (to : LeaseStep) (l : Leader) → option_map_or (λ n. WriteLeader FreeLeader (leader_for p k false n)) o Nothing ≡ WriteLeader to l → owed_free k ≡ Some l.lver
unfolding lver_of_next
owed_by p k None is to l at = absurd (false_is_true (ap (λ n. is_leader_next n) at))
owed_by p k (Some n) is to l at = is ∙ ap (λ z. Some z) (ap (λ z. lver_of_next z) at)

read_frees : (p : LeasePlace) (k : LeaseKnown) (aim : Aim) (leader : Option Leader) (read : List (Option Block)) (step : LeaseStep) → FreesBy k aim step (after_read p k aim leader read step)
read_frees p k aim leader read (ReadArea name) = No_free (plain_frees (area_next p k aim name leader read) (areas_plainly p k aim name leader read))
read_frees p k aim leader read ReadBeforeFree = By_owed (owed_by p k (owed_free k) refl)
read_frees p k aim leader read ReadBeforeBlock = No_free (plain_frees (settle_next p k) (settles_plainly p k))
read_frees p k aim leader read (ReadAgain again) = No_free refl
read_frees p k aim leader read Phase1Read = No_free (plain_frees _ (by k.own)) where
  by : (o : Option Block) → plainly (option_map_or (λ own. after_phase1 p k aim own read (stop_of own read)) o Nothing) ≡ true
  by None = refl
  by (Some own) = phase1_plainly p k aim own read (stop_of own read)
read_frees p k aim leader read Phase2Read = By_read refl
read_frees p k aim leader read Phase1Write = No_free refl
read_frees p k aim leader read Phase2Write = No_free refl
read_frees p k aim leader read TakeLeader = No_free refl
read_frees p k aim leader read SetMode = No_free refl
read_frees p k aim leader read FreeLeader = No_free refl
read_frees p k aim leader read ClearMode = No_free refl

-- A read that is made once more frees as the first one does.
again_frees : (k : LeaseKnown) (aim : Aim) (step : LeaseStep) (n : LeaseNext) → FreesBy k aim (first_step step) n → FreesBy k aim step n
again_frees k aim step n (No_free none) = No_free none
again_frees k aim step n (Of_acquire mode same) = Of_acquire mode same
again_frees k aim step n (By_read is) = By_read (ap (λ z. same_kind z Phase2_read) (sym (first_kind step)) ∙ is)
again_frees k aim step n (By_owed owes) = By_owed owes

bytes_frees : (p : LeasePlace) (k : LeaseKnown) (aim : Aim) (bytes : List ℕ) (step : LeaseStep) → FreesBy k aim step (after_bytes p k aim bytes step)
unfolding after_bytes
bytes_frees p k aim bytes step = by (asked_again p.layout bytes step) where
  by : (o : Option LeaseRead) → FreesBy k aim step (elim o as (λ z. LeaseNext) [
    | Some read ↦ ReadFor (ReadAgain read)
    | None ↦ after_read p k aim (leader_read p.layout bytes (heard p.layout k bytes step)) (blocks_of p.layout (heard p.layout k bytes step)) (first_step step)
  ])
  by (Some read) = No_free refl
  by None =
      again_frees k aim step _ (read_frees p k aim (leader_read p.layout bytes (heard p.layout k bytes step)) (blocks_of p.layout (heard p.layout k bytes step)) (first_step step))

mapped_none : (o : Option Block) (f : Block → LeaseNext) → ((b : Block) → frees (f b) ≡ false) → frees (option_map_or f o Nothing) ≡ false
mapped_none None f h = refl
mapped_none (Some b) f h = h b

write_frees : (p : LeasePlace) (k : LeaseKnown) (aim : Aim) (n : ℕ) (step : LeaseStep) → FreesBy k aim step (after_write p k aim n step)
write_frees p k (Acquires mode) n step = Of_acquire mode refl
write_frees p k aim n Phase1Write = No_free refl
write_frees p k aim n Phase2Write = No_free refl
write_frees p k (Converts Exclusive) n TakeLeader = No_free (mapped_none k.own (λ own. BecomeExclusive n (moded_block own false 0)) (λ b. refl))
write_frees p k (Converts Shared) n TakeLeader = No_free refl
write_frees p k Releases n TakeLeader = No_free refl
write_frees p k Settles n TakeLeader = No_free refl
write_frees p k (Converts mode) n SetMode = No_free (by k.exclusive) where
  by : (o : Option ℕ) → frees (option_map_or (λ e. BecomeShared e (leader_for p k false e)) o Nothing) ≡ false
  by None = refl
  by (Some e) = refl
write_frees p k Releases n SetMode = No_free refl
write_frees p k Settles n SetMode = No_free refl
write_frees p k (Converts mode) n FreeLeader = No_free refl
write_frees p k Releases n FreeLeader = No_free refl
write_frees p k Settles n FreeLeader = No_free (plain_frees (settle_next p k) (settles_plainly p k))
write_frees p k (Converts mode) n ClearMode = No_free refl
write_frees p k Releases n ClearMode = No_free refl
write_frees p k Settles n ClearMode = No_free (plain_frees (settle_next p k) (settles_plainly p k))
write_frees p k aim n (ReadArea name) = No_free refl
write_frees p k aim n ReadBeforeFree = No_free refl
write_frees p k aim n ReadBeforeBlock = No_free refl
write_frees p k aim n (ReadAgain read) = No_free refl
write_frees p k aim n Phase1Read = No_free refl
write_frees p k aim n Phase2Read = No_free refl

frees_by : (p : LeasePlace) (k : LeaseKnown) (aim : Aim) (call m : ℕ) (step : LeaseStep) (answer : Answer) → FreesBy k aim step (lease_next p k aim call m step answer)
unfolding lease_next
frees_by p k aim call m step (Read bytes) = bytes_frees p k aim bytes step
frees_by p k aim call m step Written = write_frees p k aim m step
frees_by p k aim call m step Failed = No_free (plain_frees (refuses aim (IoFault call)) (refuses_plainly aim (IoFault call)))

-- ---- under what the session doesn't hold

-- A holding of the session on the area that is exclusive.
pub record HeldThere (t : Trace) (s : Session) (at : Spot) (g : Grant) : Type 0 where
  pub there : Contains (holdings t) g
  pub its : g.session ≡ s.number
  pub place : same_place g.path g.offset at.path at.base ≡ true
  pub exclusive : is_shared g.mode ≡ false

abbrev is_held_under : ℕ → Grant → Bool
is_held_under n g = not (is_shared g.mode) && g.lver == n

pub not_true : (b : Bool) → not b ≡ true → b ≡ false
not_true false is = refl
not_true true is = absurd (false_is_true is)

pub held_there : (t : Trace) (s : Session) (at : Spot) (g : Grant) → Contains (holdings_on t s at) g → is_shared g.mode ≡ false → HeldThere t s at g
held_there t s at g there exclusive =
    let placed = kept_inside (λ (k : Grant). same_place k.path k.offset at.path at.base) (holdings_of t s) g there in
    let owned = kept_inside (λ (k : Grant). k.session == s.number) (holdings t) g placed.0 in
    record { there = owned.0; its = eqb-true g.session s.number owned.1; place = placed.1; exclusive = exclusive }

pub unheld_if : (t : Trace) (s : Session) (at : Spot) (n : ℕ) → ((g : Grant) → HeldThere t s at g → Contains (holdings_on t s at) g → g.lver ≡ n → ⊥) → holds_under t s at n ≡ false
unheld_if t s at n h = is_false (holds_under t s at n) (λ is.
    let found = any_found (is_held_under n) (holdings_on t s at) is in
    let both = and_true (not (is_shared found.0.mode)) (found.0.lver == n) found.2 in
    h found.0 (held_there t s at found.0 found.1 (not_true (is_shared found.0.mode) both.0)) found.1 (eqb-true found.0.lver n both.1))

-- No free is owed under what it holds.
unheld_owed : (x : Step) (s : Session) (at : Spot) (n : ℕ) → HoldingFacts x.setting (seen x) (heard_by x.input) → owed_free (known x.setting (seen x) s at) ≡ Some n → holds_under (seen x) s at n ≡ false
unfolding known
unheld_owed x s at n held owes = unheld_if (seen x) s at n (λ g h on lver. by g h on lver (exclusive_on (seen x) s at) refl) where
  by : (g : Grant) → HeldThere (seen x) s at g → Contains (holdings_on (seen x) s at) g → g.lver ≡ n → (o : Option Grant) → exclusive_on (seen x) s at ≡ o → ⊥
  by g h on lver None none = true_is_false (sym (ap (λ b. not b) h.exclusive) ∙ find_fails (λ (k : Grant). not (is_shared k.mode)) (holdings_on (seen x) s at) g none on)
  by g h on lver (Some k) found =
      let inside = find_inside (λ (k : Grant). not (is_shared k.mode)) (holdings_on (seen x) s at) k found in
      let its : HeldThere (seen x) s at k = held_there (seen x) s at k inside.0 (not_true (is_shared k.mode) inside.1) in
      let place : same_place k.path k.offset g.path g.offset ≡ true =
      subst (λ z. same_place k.path k.offset z.path z.base ≡ true) (sym (spot_same g at h.place)) its.place
      in
      let same : k ≡ g = held.alone g k h.there its.there place h.exclusive in
      let lvers : k.lver ≡ n = ap (λ (z : Grant). z.lver) same ∙ lver in
      owes_not (free_left x.setting.layout (me (seen x) s) (lease_calls x.setting (seen x) s at))
      (ap (λ o. option_and_then (λ m. choose (not (some_is (λ e. e == m) (option_map (λ (g : Grant). g.lver) o))) m) (free_left x.setting.layout (me (seen x) s) (lease_calls x.setting (seen x) s at))) (sym found) ∙ owes) lvers
    where
      owes_not : (o : Option ℕ) → option_and_then (λ m. choose (not (k.lver == m)) m) o ≡ Some n → k.lver ≡ n → ⊥
      owes_not None is lvers = none_some n is
      owes_not (Some m) is lvers =
          let both = choose_some (not (k.lver == m)) m n is in
          true_is_false (sym (ap (λ z. z == m) (lvers ∙ sym both.1) ∙ number_itself m) ∙ not_true (k.lver == m) both.0)

abbrev is_ballot_purpose : Purpose → Bool
is_ballot_purpose p = is_at_in Area_read p || (is_at_in Phase1_write p || (is_at_in Phase1_read p || (is_at_in Phase2_write p || is_at_in Phase2_read p)))

pub at_work : (x : Step) (s : Session) (m : Submitted) (a : Answer) → (h : Hears x s m a) → (j : ℕ) (step : LeaseStep) → m.call.purpose ≡ Lease (ForJob j) step → is_running (seen x) j ≡ true
    → (c : Command) → command_numbered x.setting (seen x) j ≡ Some c → Whole x → IsAtWork x.setting (seen x) (heard_by x.input) m j step c
at_work x s m a h j step is runs c command w =
    record {
      there = (heard_call x s m a h w).there;
      opens = inr (ap (λ i. heard_by i) h.heard ∙ ap (λ n. Some n) (sym (heard_number x s m a h)), h.bare, h.ungranted);
      purpose = is;
      runs = runs;
      command = command;
    }

or_last : (a b : Bool) → b ≡ true → (a || b) ≡ true
or_last true b is = refl
or_last false b is = is

-- Nor while a ballot's read was just answered.
unheld_read : (x : Step) (s : Session) (m : Submitted) (a : Answer) → (h : Hears x s m a) → (work : Work) (step : LeaseStep) → m.call.purpose ≡ Lease work step → same_kind (kind_of_step step) Phase2_read ≡ true → Whole x → (n : ℕ) → holds_under (seen x) s (spot_of_call x.setting.layout m) n ≡ false
unheld_read x s m a h work step is read w n =
    let at : Spot = spot_of_call x.setting.layout m in
    let c : HeardCall x a m = heard_call x s m a h w in
    unheld_if (seen x) s at n (λ g held on lver.
    let its : session_numbered x.setting (seen x) g.session ≡ Some s = ap (λ k. session_numbered x.setting (seen x) k) held.its ∙ heard_has x s m a h in
    let stands : StandsExclusive x.setting (seen x) (heard_by x.input) s (spot_of_grant g) g.lver = w.facts.holdings.stands g s held.there its held.exclusive in
    let first = w.facts.turns.newest s m h.session c.there (heard_open x s m a h) (ap (λ p. is_some (lease_step p)) is) in
    let inside : Contains (lease_calls x.setting (seen x) s (spot_of_grant g)) m =
    subst (λ z. Contains (lease_calls x.setting (seen x) s z) m) (sym (spot_same g at held.place))
    (subst (λ ms. Contains ms m) (sym first.1) (contains_first m first.0))
    in
    let ballot : is_ballot_purpose m.call.purpose ≡ true =
    ap (λ p. is_ballot_purpose p) is
    ∙ or_last (is_at_in Area_read (Lease work step)) _
    (or_last (is_at_in Phase1_write (Lease work step)) _ (or_last (is_at_in Phase1_read (Lease work step)) _ (or_last (is_at_in Phase2_write (Lease work step)) _ read)))
    in
    true_is_false (sym ballot ∙ stands.idle m inside (heard_open x s m a h)))

-- Nor in the work of an acquire.
unheld_acquire : (x : Step) (s : Session) (m : Submitted) (a : Answer) → (h : Hears x s m a) → (j : ℕ) (step : LeaseStep) → m.call.purpose ≡ Lease (ForJob j) step → is_running (seen x) j ≡ true
    → (c : Command) → command_numbered x.setting (seen x) j ≡ Some c → (mode : Mode) → aim_of_command c ≡ Some (Acquires mode) → Whole x → (n : ℕ) → holds_under (seen x) s (spot_of_call x.setting.layout m) n ≡ false
unheld_acquire x s m a h j step is runs c command mode aimed w n =
    let at : Spot = spot_of_call x.setting.layout m in
    unheld_if (seen x) s at n (λ g held on lver.
    let may = w.facts.works.beside m j step c (Acquires mode) g (at_work x s m a h j step is runs c command w) aimed held.there held.place in
    may.2 (held.its ∙ number_is_place x.setting (seen x) m.call.session s h.session))

-- ---- what is carried out

pub bare_by : ByPlain Any (λ y. y.effects.calls ≡ [])
bare_by = record { ends = λ x e h. h; signals = λ x p s h. h; moves = λ x m h. h; grants = λ x g h. h; starts = λ x s h. h; replies = λ x j r may h. h; late = λ r late. tt }

pub bare_lawful : (x : Step) → x.effects.calls ≡ [] → LawfulSoFar x
bare_lawful x bare = others_are_lawful x (no_others x bare)

abbrev is_acquire : Aim → Bool
is_acquire (Acquires mode) = true
is_acquire (Converts mode) = false
is_acquire Releases = false
is_acquire Settles = false

other_aim : (mode : Mode) → Settles ≡ Acquires mode → ⊥
other_aim mode is = true_is_false (sym (ap (λ z. is_acquire z) is))

-- Before any call, or of a settling, a decision that makes no call leaves the laws.
pub next_stays : (x : Step) (s : Session) (at : Spot) → LeaseMay x s at → (work : Work) → (x.effects.calls ≡ []) ⊎ (work ≡ Settling) → (n : LeaseNext) → NextIs (moment_of x s at work) n
    → ((step : LeaseStep) (l : Leader) → n ≡ WriteLeader step l → l.held ≡ false → holds_under (seen x) s at l.lver ≡ false)
    → (turns n ≡ true → LawfulSoFar (carry_lease s at work n x)) → LawfulSoFar x → LawfulSoFar (carry_lease s at work n x)
unfolding carry_lease
next_stays x s at h work quiet Nothing n unheld turned k = k
next_stays x s at h work quiet (ReadFor step) n unheld turned k = reads_stay x s at h work step n k
next_stays x s at h work quiet (WriteBlock step b) n unheld turned k = blocks_stay x s at h work step b n k
next_stays x s at h work quiet (WriteLeader step l) n unheld turned k = leaders_stay x s at h work step l n (unheld step l refl) k
next_stays x s at h work quiet (BecomeShared lver l) n unheld turned k = turned refl
next_stays x s at h work quiet (BecomeExclusive lver b) n unheld turned k = turned refl
next_stays x s at h work (inl bare) (AnswerJob r) n unheld turned k =
    bare_lawful (carry_lease s at work (AnswerJob r) x) (with_some_keeps (λ y. y.effects.calls ≡ []) (work_job work) (λ j. add_reply j r) x (λ j is f. f) bare)
next_stays x s at h work (inr is) (AnswerJob r) n unheld turned k = subst (λ z. LawfulSoFar (carry_lease s at z (AnswerJob r) x)) (sym is) k
next_stays x s at h work (inl bare) (GrantJob mode lver) n unheld turned k = bare_lawful (carry_lease s at work (GrantJob mode lver) x) (granted Any (λ y. y.effects.calls ≡ []) bare_by x s work mode lver bare)
next_stays x s at h work (inr is) (GrantJob mode lver) n unheld turned k = subst (λ z. LawfulSoFar (carry_lease s at z (GrantJob mode lver) x)) (sym is) k

-- A settling on a wake.
pub settled_stays : (x : Step) (s : Session) (at : Spot) → Has x s → is_active x.setting (seen x) s ≡ true → at.base % x.setting.layout.area ≡ 0 → open_on x.setting (seen x) at ≡ [] → Whole x → LawfulSoFar x
    → LawfulSoFar (carry_lease s at Settling (next_of_settling x.setting (seen x) s at) x)
settled_stays x s at has active aligned none w k =
    let n : LeaseNext = next_of_settling x.setting (seen x) s at in
    let plain : plainly n ≡ true =
    settling_is (λ z. plainly z ≡ true) x.setting (seen x) s at (λ paired owes. refl) (λ none. settles_plainly (lease_place x.setting s) (known x.setting (seen x) s at))
    in
    let ways = w.facts.ways.each s at (there_has x.setting (seen x) s.number s has) aligned in
    let ready : LeaseReady x s at =
    record {
      has = has;
      setting = w.setting;
      aligned = aligned;
      clear = λ m there unanswered work spot. none_open x.setting w.setting (seen x) at none m there unanswered spot;
      below = w.facts.calls.below;
    }
    in
    next_stays x s at (record { ready = ready; active = active; ways = ways }) Settling (inr refl) n (settling_fits x s at ways)
    (λ step l is free. absurd (no_leader n step l is free (plain_frees n plain))) (λ is. absurd (true_is_false (sym is ∙ plain_turns n plain))) k
  where
    no_leader : (n : LeaseNext) (step : LeaseStep) (l : Leader) → n ≡ WriteLeader step l → l.held ≡ false → frees n ≡ false → ⊥
    no_leader n step l is free none = true_is_false (sym (ap (λ n. frees n) is ∙ ap (λ b. not b) free) ∙ none)

-- After an answer: what is said of turns is for conversions alone.
pub led_stays : (x : Step) (s : Session) (work : Work) (step : LeaseStep) (m : Submitted) (a : Answer) (aim : Aim) → (h : Hears x s m a) → m.call.purpose ≡ Lease work step → goes_on x.setting (seen x) s work ≡ true
    → aim_of x.setting (seen x) work ≡ Some aim → is_active x.setting (seen x) s ≡ true → Whole x
    → (turns (next_of_lease x.setting (seen x) s (spot_of_call x.setting.layout m) aim m step a) ≡ true
    → LawfulSoFar (carry_lease s (spot_of_call x.setting.layout m) work (next_of_lease x.setting (seen x) s (spot_of_call x.setting.layout m) aim m step a) x))
    → LawfulSoFar (carry_lease s (spot_of_call x.setting.layout m) work (next_of_lease x.setting (seen x) s (spot_of_call x.setting.layout m) aim m step a) x)
led_stays x s work step m a aim h is on aimed active w turned =
    let at : Spot = spot_of_call x.setting.layout m in
    let k = lease_heard x s work step m a aim h is on aimed w in
    let n : LeaseNext = next_of_lease x.setting (seen x) s at aim m step a in
    let fits : NextIs (moment_of x s at work) n = heard_fits x s work step m a aim h is on aimed w in
    next_stays x s at (record { ready = lease_ready x s m a h (ap (λ p. is_area_work p) is) w; active = active; ways = k.0.ways }) work (inl h.bare) n fits
    (λ to l is_leader free. unheld to l is_leader free
    (next_is (λ z. FreesBy (known x.setting (seen x) s at) aim step z) x.setting (seen x) s at aim m step a
    (λ fits. frees_by (lease_place x.setting s) (known x.setting (seen x) s at) aim m.call.number (lver_written m) step a)
    (λ paired over writes. No_free (plain_frees (refuses aim (LimitReached TurnLimit)) (refuses_plainly aim (LimitReached TurnLimit)))))) turned
    (others_are_lawful x (no_others x h.bare))
  where
    acquiring : (mode : Mode) → aim ≡ Acquires mode → (n : ℕ) → holds_under (seen x) s (spot_of_call x.setting.layout m) n ≡ false
    acquiring mode same n = by work is on (aimed ∙ ap (λ z. Some z) same) where
      found : (o : Option Command) → (j : ℕ) → m.call.purpose ≡ Lease (ForJob j) step → is_running (seen x) j ≡ true → command_numbered x.setting (seen x) j ≡ o → option_and_then aim_of_command o ≡ Some (Acquires mode)
          → holds_under (seen x) s (spot_of_call x.setting.layout m) n ≡ false
      found None j is runs command aimed = absurd (none_some (Acquires mode) aimed)
      found (Some c) j is runs command aimed = unheld_acquire x s m a h j step is runs c command mode aimed w n

      by : (work : Work) → m.call.purpose ≡ Lease work step → goes_on x.setting (seen x) s work ≡ true → aim_of x.setting (seen x) work ≡ Some (Acquires mode) → holds_under (seen x) s (spot_of_call x.setting.layout m) n ≡ false
      by (ForJob j) is runs aimed = found (command_numbered x.setting (seen x) j) j is runs refl aimed
      by Settling is on aimed = absurd (other_aim mode (some_value Settles (Acquires mode) aimed))

    unheld : (to : LeaseStep) (l : Leader) → next_of_lease x.setting (seen x) s (spot_of_call x.setting.layout m) aim m step a ≡ WriteLeader to l → l.held ≡ false
        → FreesBy (known x.setting (seen x) s (spot_of_call x.setting.layout m)) aim step (next_of_lease x.setting (seen x) s (spot_of_call x.setting.layout m) aim m step a)
        → holds_under (seen x) s (spot_of_call x.setting.layout m) l.lver ≡ false
    unheld to l next free (No_free none) = absurd (true_is_false (sym (ap (λ n. frees n) next ∙ ap (λ b. not b) free) ∙ none))
    unheld to l next free (Of_acquire mode same) = acquiring mode same l.lver
    unheld to l next free (By_read read) = unheld_read x s m a h work step is read w l.lver
    unheld to l next free (By_owed owes) = unheld_owed x s (spot_of_call x.setting.layout m) l.lver w.facts.holdings (owes to l next)

-- ---- a settling converts nothing

read_settles : (p : LeasePlace) (k : LeaseKnown) (leader : Option Leader) (read : List (Option Block)) (step : LeaseStep) → turns (after_read p k Settles leader read step) ≡ false
read_settles p k leader read (ReadArea name) = plain_turns (area_next p k Settles name leader read) (areas_plainly p k Settles name leader read)
read_settles p k leader read ReadBeforeFree = by (owed_free k) where
  by : (o : Option ℕ) → turns (option_map_or (λ n. WriteLeader FreeLeader (leader_for p k false n)) o Nothing) ≡ false
  by None = refl
  by (Some n) = refl
read_settles p k leader read ReadBeforeBlock = plain_turns (settle_next p k) (settles_plainly p k)
read_settles p k leader read (ReadAgain again) = refl
read_settles p k leader read Phase1Read = by k.own where
  by : (o : Option Block) → turns (option_map_or (λ own. after_phase1 p k Settles own read (stop_of own read)) o Nothing) ≡ false
  by None = refl
  by (Some own) = plain_turns (after_phase1 p k Settles own read (stop_of own read)) (phase1_plainly p k Settles own read (stop_of own read))
read_settles p k leader read Phase2Read = by k.own where
  ended : (own : Block) (b : Bool) → turns (elim b as (λ z. LeaseNext) [ true ↦ WriteLeader FreeLeader (leader_for p k false own.lver) | false ↦ settle_next p k ]) ≡ false
  ended own true = refl
  ended own false = plain_turns (settle_next p k) (settles_plainly p k)

  stopped : (own : Block) (o : Option Stop) → turns (after_phase2 p k Settles own o) ≡ false
  stopped own None = ended own (same_owner (value_of own) k.self)
  stopped own (Some stop) = plain_turns (stopped_next p k Settles stop) (stops_plainly p k Settles stop)

  by : (o : Option Block) → turns (option_map_or (λ own. after_phase2 p k Settles own (stop_of own read)) o Nothing) ≡ false
  by None = refl
  by (Some own) = stopped own (stop_of own read)
read_settles p k leader read Phase1Write = refl
read_settles p k leader read Phase2Write = refl
read_settles p k leader read TakeLeader = refl
read_settles p k leader read SetMode = refl
read_settles p k leader read FreeLeader = refl
read_settles p k leader read ClearMode = refl

bytes_settle : (p : LeasePlace) (k : LeaseKnown) (bytes : List ℕ) (step : LeaseStep) → turns (after_bytes p k Settles bytes step) ≡ false
unfolding after_bytes
bytes_settle p k bytes step = by (asked_again p.layout bytes step) where
  by : (o : Option LeaseRead) → turns (elim o as (λ z. LeaseNext) [
    | Some read ↦ ReadFor (ReadAgain read)
    | None ↦ after_read p k Settles (leader_read p.layout bytes (heard p.layout k bytes step)) (blocks_of p.layout (heard p.layout k bytes step)) (first_step step)
  ]) ≡ false
  by (Some read) = refl
  by None = read_settles p k (leader_read p.layout bytes (heard p.layout k bytes step)) (blocks_of p.layout (heard p.layout k bytes step)) (first_step step)

write_settles : (p : LeasePlace) (k : LeaseKnown) (n : ℕ) (step : LeaseStep) → turns (after_write p k Settles n step) ≡ false
write_settles p k n Phase1Write = refl
write_settles p k n Phase2Write = refl
write_settles p k n TakeLeader = refl
write_settles p k n SetMode = refl
write_settles p k n FreeLeader = plain_turns (settle_next p k) (settles_plainly p k)
write_settles p k n ClearMode = plain_turns (settle_next p k) (settles_plainly p k)
write_settles p k n (ReadArea name) = refl
write_settles p k n ReadBeforeFree = refl
write_settles p k n ReadBeforeBlock = refl
write_settles p k n (ReadAgain read) = refl
write_settles p k n Phase1Read = refl
write_settles p k n Phase2Read = refl

pub settles_no_turn : (p : LeasePlace) (k : LeaseKnown) (call m : ℕ) (step : LeaseStep) (answer : Answer) → turns (lease_next p k Settles call m step answer) ≡ false
unfolding lease_next
settles_no_turn p k call m step (Read bytes) = bytes_settle p k bytes step
settles_no_turn p k call m step Written = write_settles p k m step
settles_no_turn p k call m step Failed = refl
