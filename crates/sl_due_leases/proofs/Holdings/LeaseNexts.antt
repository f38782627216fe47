-- What a lease may do next: which mode a block shows that it writes, when it grants and converts, what it does beside an exclusive holding.
use Rattle.sl_due_facts.proofs.Acts.Pairs.Decisions.{begin_cases, bytes_are, within_cases}
use Rattle.sl_area.specs.Pairs.{BlocksRead, blocks_of}
use Rattle.sl_area.specs.TornLeader.{leader_read}
use Rattle.sl_trace.specs.Ballots.{is_ahead, moded_block, phase1_block, same_owner, stop_of, value_of}
use Rattle.sl_trace.specs.LeaseDecisions.{LeasePlace, after_bytes, after_clearing, after_freeing, after_moding, after_phase1, after_phase2, after_read, after_take, after_write, area_next, begin_next, begin_or_refuse, ended_next, first_step, heard, leader_for, lease_next, looks_for_shared, lost_next, named_area_next, phase1_next, phase2_next, refuses, settle_begin, settle_next, settle_owed, stop_reply, stopped_next, unstopped_next, whole_area_next, within_turn, won_next}
use Rattle.sl_trace.specs.Leases.{LeaseKnown, instance_for, is_leader_of, mode_gen_of, owed_free, own_known, shared_elsewhere}
use Rattle.sl_trace.specs.declared.lease.Aim.TheVariants.{Acquires, Converts, Releases, Settles}
use Rattle.sl_trace.specs.declared.lease.Aim.{Aim}
use Rattle.sl_trace.specs.declared.lease.Instance.TheVariants.{Begins, HeldAlready}
use Rattle.sl_trace.specs.declared.lease.Instance.{Instance}
use Rattle.sl_trace.specs.declared.lease.LeaseNext.TheVariants.{AnswerJob, BecomeExclusive, BecomeShared, GrantJob, Nothing, ReadFor, WriteBlock, WriteLeader}
use Rattle.sl_trace.specs.declared.lease.LeaseNext.{LeaseNext}
use Rattle.sl_trace.specs.declared.lease.Owed.TheVariants.{BallotOwed, FreeOwed, ModeOwed}
use Rattle.sl_trace.specs.declared.lease.Owed.{Owed}
use Rattle.sl_trace.specs.declared.lease.Stop.TheVariants.{BlockAhead, BlockRival, BlockTorn}
use Rattle.sl_trace.specs.declared.lease.Stop.{Stop}
use Rattle.sl_sector.specs.declared.sector.Block.{Block}
use Rattle.sl_sector.specs.declared.sector.Leader.{Leader}
use Rattle.sl_sector.specs.declared.sector.Owner.{Owner}
use Rattle.sl_trace.specs.Traces.{is_before_input}
use Rattle.sl_trace.specs.declared.effects.LeaseStep.TheVariants.{ClearMode, FreeLeader, Phase1Read, Phase1Write, Phase2Read, Phase2Write, ReadAgain, ReadArea, ReadBeforeBlock, ReadBeforeFree, SetMode, TakeLeader}
use Rattle.sl_trace.specs.declared.effects.LeaseStep.{LeaseStep}
use Rattle.sl_trace.specs.declared.effects.Mode.TheVariants.{Exclusive, Shared}
use Rattle.sl_trace.specs.declared.effects.Mode.{Mode}
use Rattle.sl_trace.specs.declared.input.Answer.TheVariants.{Failed, Read, Written}
use Rattle.sl_trace.specs.declared.input.Answer.{Answer}
use Rattle.sl_trace.specs.declared.reply.Limited.TheVariants.{Lver as LverLimit, Mbal as MbalLimit, Turn as TurnLimit}
use Rattle.sl_trace.specs.declared.reply.Reply.TheVariants.{Held as HeldBy, IoFault, Limit as LimitReached, Shared as SharedBy, TornBlock, TornLeader, WrongArea}
use Rattle.sl_trace.specs.declared.reply.Reply.{Reply}
use Rattle.sl_words.proofs.CaseLaws.{false_is_true}
use Rattle.sl_words.proofs.WordLaws.{and_true}
use Rattle.sl_words.specs.Bounds.{is_number}
use Rattle.sl_words.specs.Words.{present}
use Rattle.std.proofs.Common.{inl, inr, refl, sym}
use Rattle.std.specs.Option.{option_map_or}
use Rattle.std.specs.Prelude.{Bool, List, None, Option, Some, false, is_none, not, option_map, position, true, ℕ, ◌&&◌, ◌+◌, ◌≡◌, ◌⊎◌}

-- ---- modes and replies

-- The mode of a block at a step: set where it is to be, else the session's.
abbrev pub HasRightMode : LeaseKnown → LeaseStep → Block → Type 0
HasRightMode k SetMode b = (b.shared ≡ true) × (b.mode_gen ≡ k.self.generation)
HasRightMode k step b = (b.shared ≡ k.shared) × (b.shared ≡ true → b.mode_gen ≡ k.self.generation)

-- What grants nothing.
abbrev pub IsPlainNext : LeaseKnown → LeaseNext → Type 0
IsPlainNext k (WriteBlock step b) = HasRightMode k step b
IsPlainNext k (AnswerJob r) = is_before_input r ≡ false
IsPlainNext k (GrantJob mode lver) = ⊥
IsPlainNext k (BecomeShared lver l) = ⊥
IsPlainNext k (BecomeExclusive lver b) = ⊥
IsPlainNext k next = Unit {0}

mode_gen : (k : LeaseKnown) (b : Bool) → k.shared ≡ b → k.shared ≡ true → mode_gen_of k ≡ k.self.generation
mode_gen k b is shared = rw (shared, mode_gen_of) refl

refused_plainly : (k : LeaseKnown) (aim : Aim) (r : Reply) → is_before_input r ≡ false → IsPlainNext k (refuses aim r)
refused_plainly k (Acquires mode) r later = later
refused_plainly k (Converts mode) r later = later
refused_plainly k Releases r later = later
refused_plainly k Settles r later = tt

phase1_plainly : (k : LeaseKnown) (aim : Aim) (b : Block) → HasRightMode k Phase1Write b → IsPlainNext k (phase1_next aim b)
phase1_plainly k aim b right = by (is_number b.lver) (is_number b.mbal) where
  by : (l m : Bool) → IsPlainNext k (elim l as (λ z. LeaseNext) [
    | false ↦ refuses aim (LimitReached LverLimit)
    | true ↦ elim m as (λ z. LeaseNext) [ false ↦ refuses aim (LimitReached MbalLimit) | true ↦ WriteBlock Phase1Write b ]
  ])
  by false m = refused_plainly k aim (LimitReached LverLimit) refl
  by true false = refused_plainly k aim (LimitReached MbalLimit) refl
  by true true = right

begins_plainly : (p : LeasePlace) (k : LeaseKnown) (aim : Aim) (n : ℕ) → IsPlainNext k (begin_next p k aim n)
unfolding begin_next phase1_block
begins_plainly p k aim n = by (own_known k) where
  by : (o : Option Block) → IsPlainNext k (elim o as (λ z. LeaseNext) [ None ↦ Nothing | Some own ↦ phase1_next aim (phase1_block k.self p.layout.hosts n k.shared (mode_gen_of k) own (present k.read)) ])
  by None = tt
  by (Some own) =
      phase1_plainly k aim (phase1_block k.self p.layout.hosts n k.shared (mode_gen_of k) own (present k.read)) (refl, λ shared. mode_gen k k.shared refl shared)

-- ---- settlings

owed_plainly : (p : LeasePlace) (k : LeaseKnown) → IsPlainNext k (settle_next p k)
unfolding settle_next
owed_plainly p k = by k.ballot (k.shown && not k.shared) refl where
  cleared : (o : Option Block) → k.shared ≡ false → IsPlainNext k (option_map_or (λ own. WriteBlock ClearMode (moded_block own false 0)) o Nothing)
  cleared None none = tt
  cleared (Some own) none = (sym none, λ shared. absurd (false_is_true shared))

  is_not : (b : Bool) → not b ≡ true → b ≡ false
  is_not false h = refl
  is_not true h = absurd (false_is_true h)

  freed : (o : Option ℕ) → IsPlainNext k (settle_owed p k (option_map (λ n. FreeOwed n) o))
  freed None = tt
  freed (Some n) = tt

  by : (o : Option ℕ) (b : Bool) → (k.shown && not k.shared) ≡ b
      → IsPlainNext k (settle_owed p k (elim o as (λ z. Option Owed) [
        | Some n ↦ Some (BallotOwed n)
        | None ↦ elim b as (λ z. Option Owed) [ true ↦ Some ModeOwed | false ↦ option_map (λ n. FreeOwed n) (owed_free k) ]
      ]))
  by (Some n) b is = begins_plainly p k Settles n
  by None true is = cleared k.own (is_not k.shared (and_true k.shown (not k.shared) is).1)
  by None false is = freed (owed_free k)

-- ---- ballots

stop_later : (stop : Stop) → is_before_input (stop_reply stop) ≡ false
stop_later (BlockTorn host) = refl
stop_later (BlockAhead host lver) = refl
stop_later (BlockRival host mbal) = refl

stopped_plainly : (p : LeasePlace) (k : LeaseKnown) (aim : Aim) (stop : Stop) → IsPlainNext k (stopped_next p k aim stop)
stopped_plainly p k (Acquires mode) stop = stop_later stop
stopped_plainly p k (Converts mode) stop = stop_later stop
stopped_plainly p k Releases stop = stop_later stop
stopped_plainly p k Settles stop = by (is_ahead stop) where
  by : (b : Bool) → IsPlainNext k (elim b as (λ z. LeaseNext) [ true ↦ settle_next p k | false ↦ Nothing ])
  by true = owed_plainly p k
  by false = tt

phase2_plainly : (k : LeaseKnown) (own : Block) (read : List (Option Block)) → IsPlainNext k (phase2_next k own read)
phase2_plainly k own read = (refl, λ shared. mode_gen k k.shared refl shared)

unstopped_plainly : (k : LeaseKnown) (aim : Aim) (own : Block) (read : List (Option Block)) → IsPlainNext k (unstopped_next k aim own read)
unstopped_plainly k aim own read = by (looks_for_shared aim) (shared_elsewhere k read) where
  by : (b : Bool) (o : Option Block) → IsPlainNext k (elim b as (λ z. LeaseNext) [
    | false ↦ phase2_next k own read
    | true ↦ elim o as (λ z. LeaseNext) [ Some c ↦ AnswerJob (SharedBy (record { id = c.host; generation = c.mode_gen })) | None ↦ phase2_next k own read ]
  ])
  by false o = phase2_plainly k own read
  by true None = phase2_plainly k own read
  by true (Some c) = refl

phase1_read_plainly : (p : LeasePlace) (k : LeaseKnown) (aim : Aim) (own : Block) (read : List (Option Block)) (stop : Option Stop) → IsPlainNext k (after_phase1 p k aim own read stop)
phase1_read_plainly p k aim own read None = unstopped_plainly k aim own read
phase1_read_plainly p k aim own read (Some stop) = stopped_plainly p k aim stop

over_plainly : (p : LeasePlace) (k : LeaseKnown) (aim : Aim) (n : ℕ) (o : Owner) (b : Bool) → IsPlainNext k (elim b as (λ z. LeaseNext) [ true ↦ begin_next p k aim (n + 1) | false ↦ AnswerJob (HeldBy n o) ])
over_plainly p k aim n o true = begins_plainly p k aim (n + 1)
over_plainly p k aim n o false = refl

lost_plainly : (p : LeasePlace) (k : LeaseKnown) (aim : Aim) (n : ℕ) (o : Owner) → IsPlainNext k (lost_next p k aim n o)
lost_plainly p k (Acquires mode) n o = over_plainly p k (Acquires mode) n o (k.over o.id o.generation)
lost_plainly p k (Converts mode) n o = over_plainly p k (Converts mode) n o (k.over o.id o.generation)
lost_plainly p k Releases n o = tt
lost_plainly p k Settles n o = owed_plainly p k

won_plainly : (p : LeasePlace) (k : LeaseKnown) (aim : Aim) (n : ℕ) → IsPlainNext k (won_next p k aim n)
won_plainly p k (Acquires mode) n = tt
won_plainly p k (Converts mode) n = tt
won_plainly p k Releases n = tt
won_plainly p k Settles n = tt

ended_plainly : (p : LeasePlace) (k : LeaseKnown) (aim : Aim) (own : Block) → IsPlainNext k (ended_next p k aim own)
ended_plainly p k aim own = by (same_owner (value_of own) k.self) where
  by : (b : Bool) → IsPlainNext k (elim b as (λ z. LeaseNext) [ true ↦ won_next p k aim own.lver | false ↦ lost_next p k aim own.lver (value_of own) ])
  by true = won_plainly p k aim own.lver
  by false = lost_plainly p k aim own.lver (value_of own)

phase2_read_plainly : (p : LeasePlace) (k : LeaseKnown) (aim : Aim) (own : Block) (stop : Option Stop) → IsPlainNext k (after_phase2 p k aim own stop)
phase2_read_plainly p k aim own None = ended_plainly p k aim own
phase2_read_plainly p k aim own (Some stop) = stopped_plainly p k aim stop

-- ---- the read of the area

instance_plainly : (p : LeasePlace) (k : LeaseKnown) (aim : Aim) (i : Instance) → IsPlainNext k (begin_or_refuse p k aim i)
instance_plainly p k aim (Begins n) = begins_plainly p k aim n
instance_plainly p k aim (HeldAlready lver owner) = refl

area_plainly : (p : LeasePlace) (k : LeaseKnown) (aim : Aim) (name : List ℕ) (leader : Option Leader) (blocks : List (Option Block)) → IsPlainNext k (area_next p k aim name leader blocks)
unfolding area_next
area_plainly p k aim name leader blocks = by leader where
  whole : (l : Leader) (read : List (Option Block)) (o : Option Block) → IsPlainNext k (option_map_or (λ own. begin_or_refuse p k aim (instance_for k l own read)) o Nothing)
  whole l read None = tt
  whole l read (Some own) = instance_plainly p k aim (instance_for k l own read)

  named : (l : Leader) (read : List (Option Block)) (o : Option ℕ) → IsPlainNext k (elim o as (λ z. LeaseNext) [ Some i ↦ AnswerJob (TornBlock (i + 1)) | None ↦ whole_area_next p k aim l read ])
  named l read (Some i) = refl
  named l read None = whole l read (own_known k)

  of_leader : (l : Leader) (b : Bool) → IsPlainNext k (elim b as (λ z. LeaseNext) [
    | false ↦ AnswerJob (WrongArea l.lockspace l.resource l.num_hosts)
    | true ↦ named_area_next p k aim l blocks
  ])
  of_leader l false = refl
  of_leader l true = named l blocks (position is_none blocks)

  by : (o : Option Leader) → IsPlainNext k (elim o as (λ z. LeaseNext) [
    | None ↦ AnswerJob TornLeader
    | Some l ↦ elim (is_leader_of p.layout p.lockspace name l) as (λ z. LeaseNext) [
      | false ↦ AnswerJob (WrongArea l.lockspace l.resource l.num_hosts)
      | true ↦ named_area_next p k aim l blocks
    ]
  ])
  by None = refl
  by (Some l) = of_leader l (is_leader_of p.layout p.lockspace name l)

-- ---- after an answer

-- A grant by its call: the leader that was taken, or the one that was freed.
abbrev pub IsGrantOf : Aim → LeaseStep → Mode → Type 0
IsGrantOf aim step mode =
    ((step ≡ TakeLeader) × (mode ≡ Exclusive) × (aim ≡ Acquires Exclusive)) ⊎ ((step ≡ FreeLeader) × (mode ≡ Shared) × ((m : Mode) × (aim ≡ Acquires m)))

abbrev pub IsFitNext : LeaseKnown → Aim → ℕ → LeaseStep → Answer → LeaseNext → Type 0
IsFitNext k aim n step answer (WriteBlock at b) = HasRightMode k at b
IsFitNext k aim n step answer (AnswerJob r) = is_before_input r ≡ false
IsFitNext k aim n step answer (GrantJob mode lver) = (answer ≡ Written) × (lver ≡ n) × IsGrantOf aim step mode
IsFitNext k aim n step answer (BecomeShared lver l) =
    (answer ≡ Written) × (step ≡ SetMode) × ((m : Mode) × (aim ≡ Converts m)) × (k.exclusive ≡ Some lver) × (l.held ≡ false) × (l.lver ≡ lver)
IsFitNext k aim n step answer (BecomeExclusive lver b) =
    (answer ≡ Written) × (step ≡ TakeLeader) × (aim ≡ Converts Exclusive) × (lver ≡ n) × ((own : Block) × (k.own ≡ Some own) × (b ≡ moded_block own false 0))
IsFitNext k aim n step answer next = Unit {0}

plainly_fit : (k : LeaseKnown) (aim : Aim) (n : ℕ) (step : LeaseStep) (answer : Answer) (next : LeaseNext) → IsPlainNext k next → IsFitNext k aim n step answer next
plainly_fit k aim n step answer Nothing h = tt
plainly_fit k aim n step answer (ReadFor at) h = tt
plainly_fit k aim n step answer (WriteBlock at b) h = h
plainly_fit k aim n step answer (WriteLeader at l) h = tt
plainly_fit k aim n step answer (AnswerJob r) h = h
plainly_fit k aim n step answer (GrantJob mode lver) h = absurd h
plainly_fit k aim n step answer (BecomeShared lver l) h = absurd h
plainly_fit k aim n step answer (BecomeExclusive lver b) h = absurd h

read_plainly : (p : LeasePlace) (k : LeaseKnown) (aim : Aim) (leader : Option Leader) (blocks : List (Option Block)) (step : LeaseStep) → IsPlainNext k (after_read p k aim leader blocks step)
read_plainly p k aim leader blocks (ReadArea name) = area_plainly p k aim name leader blocks
read_plainly p k aim leader blocks ReadBeforeFree = by (owed_free k) where
  by : (o : Option ℕ) → IsPlainNext k (option_map_or (λ n. WriteLeader FreeLeader (leader_for p k false n)) o Nothing)
  by None = tt
  by (Some n) = tt
read_plainly p k aim leader blocks Phase1Read = by k.own where
  by : (o : Option Block) → IsPlainNext k (option_map_or (λ own. after_phase1 p k aim own blocks (stop_of own blocks)) o Nothing)
  by None = tt
  by (Some own) = phase1_read_plainly p k aim own blocks (stop_of own blocks)
read_plainly p k aim leader blocks Phase2Read = by k.own where
  by : (o : Option Block) → IsPlainNext k (option_map_or (λ own. after_phase2 p k aim own (stop_of own blocks)) o Nothing)
  by None = tt
  by (Some own) = phase2_read_plainly p k aim own (stop_of own blocks)
read_plainly p k aim leader blocks Phase1Write = tt
read_plainly p k aim leader blocks Phase2Write = tt
read_plainly p k aim leader blocks TakeLeader = tt
read_plainly p k aim leader blocks SetMode = tt
read_plainly p k aim leader blocks FreeLeader = tt
read_plainly p k aim leader blocks ClearMode = tt
read_plainly p k aim leader blocks ReadBeforeBlock = owed_plainly p k
read_plainly p k aim leader blocks (ReadAgain read) = tt

bytes_plainly : (p : LeasePlace) (k : LeaseKnown) (aim : Aim) (bytes : List ℕ) (step : LeaseStep) → IsPlainNext k (after_bytes p k aim bytes step)
bytes_plainly p k aim bytes step =
    let r : BlocksRead = heard p.layout k bytes step in
    bytes_are (IsPlainNext k) p k aim bytes step (λ read is. tt) (λ once. read_plainly p k aim (leader_read p.layout bytes r) (blocks_of p.layout r) (first_step step))

take_fit : (k : LeaseKnown) (aim : Aim) (n : ℕ) → IsFitNext k aim n TakeLeader Written (after_take k aim n)
take_fit k (Acquires Exclusive) n = (refl, refl, inl (refl, refl, refl))
take_fit k (Acquires Shared) n = by k.own where
  by : (o : Option Block) → IsFitNext k (Acquires Shared) n TakeLeader Written (option_map_or (λ own. WriteBlock SetMode (moded_block own true k.self.generation)) o Nothing)
  by None = tt
  by (Some own) = (refl, refl)
take_fit k (Converts Exclusive) n = by k.own refl where
  by : (o : Option Block) → k.own ≡ o → IsFitNext k (Converts Exclusive) n TakeLeader Written (option_map_or (λ own. BecomeExclusive n (moded_block own false 0)) o Nothing)
  by None is = tt
  by (Some own) is = (refl, refl, refl, refl, (own, is, refl))
take_fit k (Converts Shared) n = tt
take_fit k Releases n = tt
take_fit k Settles n = tt

moding_fit : (p : LeasePlace) (k : LeaseKnown) (aim : Aim) (n : ℕ) → IsFitNext k aim n SetMode Written (after_moding p k aim n)
moding_fit p k (Acquires mode) n = tt
moding_fit p k (Converts mode) n = by k.exclusive refl where
  by : (o : Option ℕ) → k.exclusive ≡ o → IsFitNext k (Converts mode) n SetMode Written (option_map_or (λ e. BecomeShared e (leader_for p k false e)) o Nothing)
  by None is = tt
  by (Some e) is = (refl, refl, (mode, refl), is, refl, refl)
moding_fit p k Releases n = tt
moding_fit p k Settles n = tt

freeing_fit : (p : LeasePlace) (k : LeaseKnown) (aim : Aim) (n : ℕ) → IsFitNext k aim n FreeLeader Written (after_freeing p k aim n)
freeing_fit p k (Acquires mode) n = (refl, refl, inr (refl, refl, (mode, refl)))
freeing_fit p k (Converts mode) n = tt
freeing_fit p k Releases n = refl
freeing_fit p k Settles n = plainly_fit k Settles n FreeLeader Written (settle_next p k) (owed_plainly p k)

clearing_fit : (p : LeasePlace) (k : LeaseKnown) (aim : Aim) (n : ℕ) → IsFitNext k aim n ClearMode Written (after_clearing p k aim)
clearing_fit p k (Acquires mode) n = tt
clearing_fit p k (Converts mode) n = tt
clearing_fit p k Releases n = refl
clearing_fit p k Settles n = plainly_fit k Settles n ClearMode Written (settle_next p k) (owed_plainly p k)

write_fit : (p : LeasePlace) (k : LeaseKnown) (aim : Aim) (n : ℕ) (step : LeaseStep) → IsFitNext k aim n step Written (after_write p k aim n step)
write_fit p k aim n (ReadArea name) = tt
write_fit p k aim n ReadBeforeFree = tt
write_fit p k aim n ReadBeforeBlock = tt
write_fit p k aim n (ReadAgain read) = tt
write_fit p k aim n Phase1Write = tt
write_fit p k aim n Phase1Read = tt
write_fit p k aim n Phase2Write = tt
write_fit p k aim n Phase2Read = tt
write_fit p k aim n TakeLeader = take_fit k aim n
write_fit p k aim n SetMode = moding_fit p k aim n
write_fit p k aim n FreeLeader = freeing_fit p k aim n
write_fit p k aim n ClearMode = clearing_fit p k aim n

answer_fits : (p : LeasePlace) (k : LeaseKnown) (aim : Aim) (call n : ℕ) (step : LeaseStep) (answer : Answer) → IsFitNext k aim n step answer (lease_next p k aim call n step answer)
unfolding lease_next
answer_fits p k aim call n step (Read bytes) = plainly_fit k aim n step (Read bytes) (after_bytes p k aim bytes step) (bytes_plainly p k aim bytes step)
answer_fits p k aim call n step Written = write_fit p k aim n step
answer_fits p k aim call n step Failed = plainly_fit k aim n step Failed (refuses aim (IoFault call)) (refused_plainly k aim (IoFault call) refl)

-- What comes next fits the call that was answered, within the limit of turns.
pub next_fits : (p : LeasePlace) (k : LeaseKnown) (aim : Aim) (call n : ℕ) (step : LeaseStep) (answer : Answer) → IsFitNext k aim n step answer (within_turn p k aim (lease_next p k aim call n step answer))
next_fits p k aim call n step answer =
    within_cases (IsFitNext k aim n step answer) p k aim (lease_next p k aim call n step answer) (λ fits. answer_fits p k aim call n step answer)
    (λ paired over writes. plainly_fit k aim n step answer (refuses aim (LimitReached TurnLimit)) (refused_plainly k aim (LimitReached TurnLimit) refl))

-- So does what a settling begins with.
pub settling_fits : (p : LeasePlace) (k : LeaseKnown) → IsPlainNext k (within_turn p k Settles (settle_begin p k))
settling_fits p k =
    within_cases (IsPlainNext k) p k Settles (settle_begin p k) (λ fits. begin_cases (IsPlainNext k) p k (λ paired owes. tt) (λ none. owed_plainly p k))
    (λ paired over writes. refused_plainly k Settles (LimitReached TurnLimit) refl)
