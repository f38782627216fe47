-- After an answer a job's lease does something: it calls, answers the job, grants or converts.
use Rattle.sl_due_facts.proofs.Acts.Pairs.Decisions.{bytes_are}
use Rattle.sl_area.specs.Pairs.{blocks_of}
use Rattle.sl_area.specs.TornLeader.{leader_read}
use Rattle.sl_due_law.specs.LawfulTraces.JobLore.{suits}
use Rattle.sl_trace.specs.Ballots.{moded_block, phase1_block, same_owner, stop_of, value_of}
use Rattle.sl_trace.specs.LeaseDecisions.{LeasePlace, after_moding, after_phase1, after_phase2, after_read, after_take, area_next, asked_again, begin_next, begin_or_refuse, first_step, heard, leader_for, lease_next, looks_for_shared, lost_next, named_area_next, phase1_next, phase2_next, refuses, stopped_next, whole_area_next, won_next}
use Rattle.sl_trace.specs.Leases.{LeaseKnown, instance_for, is_leader_of, mode_gen_of, own_known, own_or_read, shared_elsewhere}
use Rattle.sl_trace.specs.declared.lease.Aim.TheVariants.{Acquires, Converts, Releases, Settles}
use Rattle.sl_trace.specs.declared.lease.Aim.{Aim}
use Rattle.sl_trace.specs.declared.lease.Instance.TheVariants.{Begins, HeldAlready}
use Rattle.sl_trace.specs.declared.lease.Instance.{Instance}
use Rattle.sl_trace.specs.declared.lease.LeaseNext.TheVariants.{AnswerJob, BecomeExclusive, BecomeShared, GrantJob, Nothing, WriteBlock}
use Rattle.sl_trace.specs.declared.lease.LeaseNext.{LeaseNext}
use Rattle.sl_trace.specs.declared.lease.Stop.{Stop}
use Rattle.sl_sector.specs.declared.sector.Block.{Block}
use Rattle.sl_sector.specs.declared.sector.Leader.{Leader}
use Rattle.sl_sector.specs.declared.sector.Owner.{Owner}
use Rattle.sl_trace.specs.declared.effects.LeaseRead.TheVariants.{OfArea, OfBlock, OfFree, OfPhase1, OfPhase2}
use Rattle.sl_trace.specs.declared.effects.LeaseStep.TheVariants.{ClearMode, FreeLeader, Phase1Read, Phase1Write, Phase2Read, Phase2Write, ReadAgain, ReadArea, ReadBeforeBlock, ReadBeforeFree, SetMode, TakeLeader}
use Rattle.sl_trace.specs.declared.effects.LeaseStep.{LeaseStep}
use Rattle.sl_trace.specs.declared.effects.Mode.TheVariants.{Exclusive, Shared}
use Rattle.sl_trace.specs.declared.effects.Mode.{Mode}
use Rattle.sl_trace.specs.declared.input.Answer.TheVariants.{Failed, Read, Written}
use Rattle.sl_trace.specs.declared.input.Answer.{Answer}
use Rattle.sl_trace.specs.declared.reply.Limited.TheVariants.{Lver as LverLimit, Mbal as MbalLimit}
use Rattle.sl_trace.specs.declared.reply.Reply.TheVariants.{Held as HeldBy, Limit as LimitReached, Shared as SharedBy, TornBlock, TornLeader, WrongArea}
use Rattle.sl_trace.specs.declared.reply.Reply.{Reply}
use Rattle.sl_words.proofs.CaseLaws.{false_is_true, none_some, not_both}
use Rattle.sl_words.specs.Bounds.{is_number}
use Rattle.sl_words.specs.Words.{present}
use Rattle.std.proofs.Common.{ap, refl}
use Rattle.std.specs.Option.{option_map_or}
use Rattle.std.specs.Prelude.{Bool, List, None, Option, Some, false, is_none, position, true, ℕ, ◌+◌, ◌≡◌}

-- What a job's lease does next leaves its job with something to wait for, or answered.
abbrev pub GoesOn : LeaseKnown → Aim → LeaseNext → Type 0
GoesOn k aim Nothing = ⊥
GoesOn k aim (GrantJob mode lver) = (wanted : Mode) × (aim ≡ Acquires wanted)
GoesOn k aim (BecomeShared lver l) = (aim ≡ Converts Shared) × ((e : ℕ) × (k.exclusive ≡ Some e))
GoesOn k aim (BecomeExclusive lver b) = aim ≡ Converts Exclusive
GoesOn k aim next = Unit {0}

-- Whether a step reads.
abbrev pub reads_at : LeaseStep → Bool
reads_at (ReadArea name) = true
reads_at ReadBeforeFree = true
reads_at ReadBeforeBlock = true
reads_at (ReadAgain read) = true
reads_at Phase1Read = true
reads_at Phase2Read = true
reads_at step = false

-- Whether the own block is known behind a step.
abbrev pub is_behind_block : LeaseStep → Bool
is_behind_block Phase1Read = true
is_behind_block Phase2Read = true
is_behind_block (ReadAgain OfPhase1) = true
is_behind_block (ReadAgain OfPhase2) = true
is_behind_block TakeLeader = true
is_behind_block step = false

-- What is known of a job's lease when its newest call was answered.
pub record LeaseGrounds (p : LeasePlace) (k : LeaseKnown) (aim : Aim) (step : LeaseStep) (answer : Answer) : Type 0 where
  pub suit : suits aim step ≡ true
  pub job : aim ≡ Settles → ⊥
  pub read : reads_at step ≡ true → answer ≡ Written → ⊥
  pub wrote : reads_at step ≡ false → (bytes : List ℕ) → answer ≡ Read bytes → ⊥
  pub own : is_behind_block step ≡ true → (b : Block) × (k.own ≡ Some b)
  -- a read of the area without a torn block shows the own one
  pub area : (name bytes : List ℕ) → first_step step ≡ ReadArea name → answer ≡ Read bytes → asked_again p.layout bytes step ≡ None →
      position is_none (blocks_of p.layout (heard p.layout k bytes step)) ≡ None → (b : Block) × (own_known k ≡ Some b)
  -- a conversion to shared makes one call, and another none of its kind
  pub single : aim ≡ Converts Shared → step ≡ SetMode
  pub sets : (mode : Mode) → step ≡ SetMode → aim ≡ Converts mode → (aim ≡ Converts Shared) × ((e : ℕ) × (k.exclusive ≡ Some e))

-- ---- an aim of a ballot

record Asks (k : LeaseKnown) (aim : Aim) : Type 0 where
  refused : (r : Reply) → GoesOn k aim (refuses aim r)
  stops : (p : LeasePlace) (stop : Stop) → GoesOn k aim (stopped_next p k aim stop)
  wins : (p : LeasePlace) (n : ℕ) → GoesOn k aim (won_next p k aim n)
  loses : (p : LeasePlace) (n : ℕ) (o : Owner) → (b : Block) → own_known k ≡ Some b → GoesOn k aim (lost_next p k aim n o)

phase1_goes : (k : LeaseKnown) (aim : Aim) (b : Block) → ((r : Reply) → GoesOn k aim (refuses aim r)) → GoesOn k aim (phase1_next aim b)
phase1_goes k aim b refused = by (is_number b.lver) (is_number b.mbal) where
  by : (l m : Bool) → GoesOn k aim (elim l as (λ z. LeaseNext) [
    | false ↦ refuses aim (LimitReached LverLimit)
    | true ↦ elim m as (λ z. LeaseNext) [ false ↦ refuses aim (LimitReached MbalLimit) | true ↦ WriteBlock Phase1Write b ]
  ])
  by false m = refused (LimitReached LverLimit)
  by true false = refused (LimitReached MbalLimit)
  by true true = tt

begins_go : (p : LeasePlace) (k : LeaseKnown) (aim : Aim) (n : ℕ) → ((r : Reply) → GoesOn k aim (refuses aim r)) → (b : Block) → own_known k ≡ Some b → GoesOn k aim (begin_next p k aim n)
unfolding begin_next
begins_go p k aim n refused b is = by (own_known k) is where
  by : (o : Option Block) → o ≡ Some b → GoesOn k aim (elim o as (λ z. LeaseNext) [ None ↦ Nothing | Some own ↦ phase1_next aim (phase1_block k.self p.layout.hosts n k.shared (mode_gen_of k) own (present k.read)) ])
  by None at = none_some b at
  by (Some own) at = phase1_goes k aim (phase1_block k.self p.layout.hosts n k.shared (mode_gen_of k) own (present k.read)) refused

next_goes : (p : LeasePlace) (k : LeaseKnown) (aim : Aim) (n : ℕ) (o : Owner) (over : Bool) → ((r : Reply) → GoesOn k aim (refuses aim r)) → (b : Block) → own_known k ≡ Some b
    → GoesOn k aim (elim over as (λ z. LeaseNext) [ true ↦ begin_next p k aim (n + 1) | false ↦ AnswerJob (HeldBy n o) ])
next_goes p k aim n o true refused b is = begins_go p k aim (n + 1) refused b is
next_goes p k aim n o false refused b is = tt

acquires_ask : (k : LeaseKnown) (mode : Mode) → Asks k (Acquires mode)
acquires_ask k mode =
    record { refused = λ r. tt; stops = λ p stop. tt; wins = λ p n. tt; loses = λ p n o b is. next_goes p k (Acquires mode) n o (k.over o.id o.generation) (λ r. tt) b is }

converts_ask : (k : LeaseKnown) (mode : Mode) → Asks k (Converts mode)
converts_ask k mode =
    record { refused = λ r. tt; stops = λ p stop. tt; wins = λ p n. tt; loses = λ p n o b is. next_goes p k (Converts mode) n o (k.over o.id o.generation) (λ r. tt) b is }

-- ---- its reads

phase1_read_goes : (p : LeasePlace) (k : LeaseKnown) (aim : Aim) (own : Block) (read : List (Option Block)) (stop : Option Stop) → Asks k aim → GoesOn k aim (after_phase1 p k aim own read stop)
phase1_read_goes p k aim own read (Some stop) asks = asks.stops p stop
phase1_read_goes p k aim own read None asks = by (looks_for_shared aim) (shared_elsewhere k read) where
  by : (b : Bool) (o : Option Block) → GoesOn k aim (elim b as (λ z. LeaseNext) [
    | false ↦ phase2_next k own read
    | true ↦ elim o as (λ z. LeaseNext) [ Some c ↦ AnswerJob (SharedBy (record { id = c.host; generation = c.mode_gen })) | None ↦ phase2_next k own read ]
  ])
  by false o = tt
  by true None = tt
  by true (Some c) = tt

phase2_read_goes : (p : LeasePlace) (k : LeaseKnown) (aim : Aim) (own : Block) (stop : Option Stop) → Asks k aim → (b : Block) → own_known k ≡ Some b → GoesOn k aim (after_phase2 p k aim own stop)
phase2_read_goes p k aim own (Some stop) asks b is = asks.stops p stop
phase2_read_goes p k aim own None asks b is = by (same_owner (value_of own) k.self) where
  by : (v : Bool) → GoesOn k aim (elim v as (λ z. LeaseNext) [ true ↦ won_next p k aim own.lver | false ↦ lost_next p k aim own.lver (value_of own) ])
  by true = asks.wins p own.lver
  by false = asks.loses p own.lver (value_of own) b is

area_goes : (p : LeasePlace) (k : LeaseKnown) (aim : Aim) (name : List ℕ) (leader : Option Leader) (read : List (Option Block)) → Asks k aim
    → (position is_none read ≡ None → (b : Block) × (own_known k ≡ Some b)) → GoesOn k aim (area_next p k aim name leader read)
unfolding area_next
area_goes p k aim name leader read asks shows = by leader where
  instance : (i : Instance) → (b : Block) → own_known k ≡ Some b → GoesOn k aim (begin_or_refuse p k aim i)
  instance (Begins m) b is = begins_go p k aim m asks.refused b is
  instance (HeldAlready lver owner) b is = tt

  whole : (l : Leader) → (b : Block) → own_known k ≡ Some b → (o : Option Block) → o ≡ Some b → GoesOn k aim (option_map_or (λ own. begin_or_refuse p k aim (instance_for k l own read)) o Nothing)
  whole l b is None at = none_some b at
  whole l b is (Some own) at = instance (instance_for k l own read) b is

  named : (l : Leader) (o : Option ℕ) → position is_none read ≡ o → GoesOn k aim (elim o as (λ z. LeaseNext) [ Some i ↦ AnswerJob (TornBlock (i + 1)) | None ↦ whole_area_next p k aim l read ])
  named l (Some i) at = tt
  named l None at = let b = shows at in whole l b.0 b.1 (own_known k) b.1

  of_leader : (l : Leader) (b : Bool) → GoesOn k aim (elim b as (λ z. LeaseNext) [
    | false ↦ AnswerJob (WrongArea l.lockspace l.resource l.num_hosts)
    | true ↦ named_area_next p k aim l read
  ])
  of_leader l false = tt
  of_leader l true = named l (position is_none read) refl

  by : (o : Option Leader) → GoesOn k aim (elim o as (λ z. LeaseNext) [
    | None ↦ AnswerJob TornLeader
    | Some l ↦ elim (is_leader_of p.layout p.lockspace name l) as (λ z. LeaseNext) [
      | false ↦ AnswerJob (WrongArea l.lockspace l.resource l.num_hosts)
      | true ↦ named_area_next p k aim l read
    ]
  ])
  by None = tt
  by (Some l) = of_leader l (is_leader_of p.layout p.lockspace name l)

-- ---- by the answer of an acquire's or a conversion's call

known_own : (k : LeaseKnown) (b : Block) → k.own ≡ Some b → own_known k ≡ Some b
known_own k b is = ap (λ o. own_or_read k.self.id o k.read) is

-- Whom no look before a free or a settling's block serves.
record LooksNot (aim : Aim) : Type 0 where
  free : suits aim ReadBeforeFree ≡ false
  block : suits aim ReadBeforeBlock ≡ false
  free_again : suits aim (ReadAgain OfFree) ≡ false
  block_again : suits aim (ReadAgain OfBlock) ≡ false

-- After a read that isn't made once more.
after_goes : (p : LeasePlace) (k : LeaseKnown) (aim : Aim) (step : LeaseStep) (bytes : List ℕ) → Asks k aim → LooksNot aim → LeaseGrounds p k aim step (Read bytes) → asked_again p.layout bytes step ≡ None
    → GoesOn k aim (after_read p k aim (leader_read p.layout bytes (heard p.layout k bytes step)) (blocks_of p.layout (heard p.layout k bytes step)) (first_step step))
after_goes p k aim step bytes asks looks g once = by step g once where
  phase1 : (blocks : List (Option Block)) → (b : Block) → k.own ≡ Some b → (o : Option Block) → o ≡ Some b → GoesOn k aim (option_map_or (λ own. after_phase1 p k aim own blocks (stop_of own blocks)) o Nothing)
  phase1 blocks b is None at = none_some b at
  phase1 blocks b is (Some own) at = phase1_read_goes p k aim own blocks (stop_of own blocks) asks

  phase2 : (blocks : List (Option Block)) → (b : Block) → k.own ≡ Some b → (o : Option Block) → o ≡ Some b → GoesOn k aim (option_map_or (λ own. after_phase2 p k aim own (stop_of own blocks)) o Nothing)
  phase2 blocks b is None at = none_some b at
  phase2 blocks b is (Some own) at = phase2_read_goes p k aim own (stop_of own blocks) asks b (known_own k b is)

  by : (step : LeaseStep) → LeaseGrounds p k aim step (Read bytes) → asked_again p.layout bytes step ≡ None
      → GoesOn k aim (after_read p k aim (leader_read p.layout bytes (heard p.layout k bytes step)) (blocks_of p.layout (heard p.layout k bytes step)) (first_step step))
  by (ReadArea name) g once =
      area_goes p k aim name (leader_read p.layout bytes (heard p.layout k bytes (ReadArea name))) (blocks_of p.layout (heard p.layout k bytes (ReadArea name))) asks (g.area name bytes refl refl once)
  by (ReadAgain (OfArea name)) g once =
      area_goes p k aim name (leader_read p.layout bytes (heard p.layout k bytes (ReadAgain (OfArea name)))) (blocks_of p.layout (heard p.layout k bytes (ReadAgain (OfArea name)))) asks (g.area name bytes refl refl once)
  by ReadBeforeFree g once = absurd (not_both (suits aim ReadBeforeFree) g.suit looks.free)
  by ReadBeforeBlock g once = absurd (not_both (suits aim ReadBeforeBlock) g.suit looks.block)
  by (ReadAgain OfFree) g once = absurd (not_both (suits aim (ReadAgain OfFree)) g.suit looks.free_again)
  by (ReadAgain OfBlock) g once = absurd (not_both (suits aim (ReadAgain OfBlock)) g.suit looks.block_again)
  by Phase1Read g once = let b = g.own refl in phase1 (blocks_of p.layout (heard p.layout k bytes Phase1Read)) b.0 b.1 k.own b.1
  by (ReadAgain OfPhase1) g once = let b = g.own refl in phase1 (blocks_of p.layout (heard p.layout k bytes (ReadAgain OfPhase1))) b.0 b.1 k.own b.1
  by Phase2Read g once = let b = g.own refl in phase2 (blocks_of p.layout (heard p.layout k bytes Phase2Read)) b.0 b.1 k.own b.1
  by (ReadAgain OfPhase2) g once = let b = g.own refl in phase2 (blocks_of p.layout (heard p.layout k bytes (ReadAgain OfPhase2))) b.0 b.1 k.own b.1
  by Phase1Write g once = g.wrote refl bytes refl
  by Phase2Write g once = g.wrote refl bytes refl
  by TakeLeader g once = g.wrote refl bytes refl
  by SetMode g once = g.wrote refl bytes refl
  by FreeLeader g once = g.wrote refl bytes refl
  by ClearMode g once = g.wrote refl bytes refl

read_goes : (p : LeasePlace) (k : LeaseKnown) (aim : Aim) (call n : ℕ) (step : LeaseStep) (bytes : List ℕ) → Asks k aim → LooksNot aim
    → LeaseGrounds p k aim step (Read bytes) → GoesOn k aim (lease_next p k aim call n step (Read bytes))
unfolding lease_next
read_goes p k aim call n step bytes asks looks g = bytes_are (λ z. GoesOn k aim z) p k aim bytes step (λ read again. tt) (λ once. after_goes p k aim step bytes asks looks g once)

abbrev is_sets : LeaseStep → Bool
is_sets SetMode = true
is_sets step = false

take_goes : (p : LeasePlace) (k : LeaseKnown) (aim : Aim) (n : ℕ) → LeaseGrounds p k aim TakeLeader Written → GoesOn k aim (after_take k aim n)
take_goes p k (Acquires Exclusive) n g = (Exclusive, refl)
take_goes p k (Acquires Shared) n g = let b = g.own refl in by b.0 k.own b.1 where
  by : (b : Block) (o : Option Block) → o ≡ Some b → GoesOn k (Acquires Shared) (option_map_or (λ own. WriteBlock SetMode (moded_block own true k.self.generation)) o Nothing)
  by b None at = none_some b at
  by b (Some own) at = tt
take_goes p k (Converts Exclusive) n g = let b = g.own refl in by b.0 k.own b.1 where
  by : (b : Block) (o : Option Block) → o ≡ Some b → GoesOn k (Converts Exclusive) (option_map_or (λ own. BecomeExclusive n (moded_block own false 0)) o Nothing)
  by b None at = none_some b at
  by b (Some own) at = refl
take_goes p k (Converts Shared) n g = false_is_true (ap (λ z. is_sets z) (g.single refl))
take_goes p k Releases n g = false_is_true g.suit
take_goes p k Settles n g = g.job refl

moding_goes : (p : LeasePlace) (k : LeaseKnown) (aim : Aim) (n : ℕ) → LeaseGrounds p k aim SetMode Written → GoesOn k aim (after_moding p k aim n)
moding_goes p k (Acquires mode) n g = tt
moding_goes p k (Converts mode) n g = let e = g.sets mode refl refl in by e.0 e.1.0 e.1.1 k.exclusive e.1.1 where
  by : Converts mode ≡ Converts Shared → (e : ℕ) → k.exclusive ≡ Some e → (o : Option ℕ) → o ≡ Some e → GoesOn k (Converts mode) (option_map_or (λ d. BecomeShared d (leader_for p k false d)) o Nothing)
  by is e there None at = none_some e at
  by is e there (Some d) at = (is, (e, there))
moding_goes p k Releases n g = false_is_true g.suit
moding_goes p k Settles n g = g.job refl

freeing_goes : (p : LeasePlace) (k : LeaseKnown) (aim : Aim) (call n : ℕ) → LeaseGrounds p k aim FreeLeader Written → GoesOn k aim (lease_next p k aim call n FreeLeader Written)
unfolding lease_next
freeing_goes p k (Acquires mode) call n g = (mode, refl)
freeing_goes p k (Converts mode) call n g = false_is_true g.suit
freeing_goes p k Releases call n g = tt
freeing_goes p k Settles call n g = absurd (g.job refl)

clearing_goes : (p : LeasePlace) (k : LeaseKnown) (aim : Aim) (call n : ℕ) → LeaseGrounds p k aim ClearMode Written → GoesOn k aim (lease_next p k aim call n ClearMode Written)
unfolding lease_next
clearing_goes p k (Acquires mode) call n g = false_is_true g.suit
clearing_goes p k (Converts mode) call n g = false_is_true g.suit
clearing_goes p k Releases call n g = tt
clearing_goes p k Settles call n g = absurd (g.job refl)

written_goes : (p : LeasePlace) (k : LeaseKnown) (aim : Aim) (call n : ℕ) (step : LeaseStep) → LeaseGrounds p k aim step Written → GoesOn k aim (lease_next p k aim call n step Written)
unfolding lease_next
written_goes p k aim call n (ReadArea name) g = g.read refl refl
written_goes p k aim call n ReadBeforeFree g = g.read refl refl
written_goes p k aim call n ReadBeforeBlock g = g.read refl refl
written_goes p k aim call n (ReadAgain read) g = g.read refl refl
written_goes p k aim call n Phase1Read g = g.read refl refl
written_goes p k aim call n Phase2Read g = g.read refl refl
written_goes p k aim call n Phase1Write g = tt
written_goes p k aim call n Phase2Write g = tt
written_goes p k aim call n TakeLeader g = take_goes p k aim n g
written_goes p k aim call n SetMode g = moding_goes p k aim n g
written_goes p k aim call n FreeLeader g = freeing_goes p k aim call n g
written_goes p k aim call n ClearMode g = clearing_goes p k aim call n g

failed_goes : (p : LeasePlace) (k : LeaseKnown) (aim : Aim) (call n : ℕ) (step : LeaseStep) → (aim ≡ Settles → ⊥) → GoesOn k aim (lease_next p k aim call n step Failed)
unfolding lease_next
failed_goes p k (Acquires mode) call n step job = tt
failed_goes p k (Converts mode) call n step job = tt
failed_goes p k Releases call n step job = tt
failed_goes p k Settles call n step job = job refl

releases_read : (p : LeasePlace) (k : LeaseKnown) (call n : ℕ) (step : LeaseStep) (bytes : List ℕ) → LeaseGrounds p k Releases step (Read bytes) → GoesOn k Releases (lease_next p k Releases call n step (Read bytes))
releases_read p k call n FreeLeader bytes g = absurd (g.wrote refl bytes refl)
releases_read p k call n ClearMode bytes g = absurd (g.wrote refl bytes refl)
releases_read p k call n (ReadArea name) bytes g = absurd (false_is_true g.suit)
releases_read p k call n ReadBeforeFree bytes g = absurd (false_is_true g.suit)
releases_read p k call n ReadBeforeBlock bytes g = absurd (false_is_true g.suit)
releases_read p k call n (ReadAgain read) bytes g = absurd (false_is_true g.suit)
releases_read p k call n Phase1Write bytes g = absurd (false_is_true g.suit)
releases_read p k call n Phase1Read bytes g = absurd (false_is_true g.suit)
releases_read p k call n Phase2Write bytes g = absurd (false_is_true g.suit)
releases_read p k call n Phase2Read bytes g = absurd (false_is_true g.suit)
releases_read p k call n TakeLeader bytes g = absurd (false_is_true g.suit)
releases_read p k call n SetMode bytes g = absurd (false_is_true g.suit)

-- What comes next.
pub lease_goes_on : (p : LeasePlace) (k : LeaseKnown) (aim : Aim) (call n : ℕ) (step : LeaseStep) (answer : Answer) → LeaseGrounds p k aim step answer → GoesOn k aim (lease_next p k aim call n step answer)
lease_goes_on p k aim call n step Written g = written_goes p k aim call n step g
lease_goes_on p k aim call n step Failed g = failed_goes p k aim call n step g.job
lease_goes_on p k (Acquires mode) call n step (Read bytes) g = read_goes p k (Acquires mode) call n step bytes (acquires_ask k mode) (record { free = refl; block = refl; free_again = refl; block_again = refl }) g
lease_goes_on p k (Converts mode) call n step (Read bytes) g = read_goes p k (Converts mode) call n step bytes (converts_ask k mode) (record { free = refl; block = refl; free_again = refl; block_again = refl }) g
lease_goes_on p k Releases call n step (Read bytes) g = releases_read p k call n step bytes g
lease_goes_on p k Settles call n step (Read bytes) g = absurd (g.job refl)

-- A refusal answers the job.
pub refusal_goes : (k : LeaseKnown) (aim : Aim) (r : Reply) → (aim ≡ Settles → ⊥) → GoesOn k aim (refuses aim r)
refusal_goes k (Acquires mode) r job = tt
refusal_goes k (Converts mode) r job = tt
refusal_goes k Releases r job = tt
refusal_goes k Settles r job = job refl
