-- Whatever a lease does next: of all things a conversion to shared that is done makes a holding shared alone, and it is the exclusive one; and
-- the own block is written within its turn, by who has written one before or has just read the area by the name that was sought.
use Rattle.sl_host_work.specs.NextDecisions.{IsOfHeld, LeasesAreOfHeld, writes_own_block}
use Rattle.sl_area.specs.Pairs.{blocks_of}
use Rattle.sl_area.specs.TornLeader.{leader_read}
use Rattle.sl_trace.specs.Ballots.{ballot_blocks, is_ahead, moded_block, phase1_block, phase2_block, same_owner, stop_of, value_of}
use Rattle.sl_trace.specs.LeaseDecisions.{LeasePlace, after_bytes, after_clearing, after_freeing, after_moding, after_phase1, after_phase2, after_read, after_take, after_write, area_next, asked_again, begin_next, begin_or_refuse, first_step, heard, leader_for, lease_next, looks_for_shared, lost_next, named_area_next, owes_block, phase1_next, phase2_next, refuses, refuses_block, settle_begin, settle_next, settle_owed, stop_reply, stopped_next, unstopped_next, whole_area_next, within_turn, won_next}
use Rattle.sl_trace.specs.Conversions.{convert_next}
use Rattle.sl_trace.specs.Releases.{release_next}
use Rattle.sl_trace.specs.Leases.{LeaseKnown, instance_for, is_leader_of, mode_gen_of, owed, owed_free, own_known, shared_elsewhere}
use Rattle.sl_trace.specs.declared.lease.Aim.TheVariants.{Acquires, Converts, Releases, Settles}
use Rattle.sl_trace.specs.declared.lease.Aim.{Aim}
use Rattle.sl_trace.specs.declared.lease.Instance.TheVariants.{Begins, HeldAlready}
use Rattle.sl_trace.specs.declared.lease.Instance.{Instance}
use Rattle.sl_trace.specs.declared.lease.LeaseNext.TheVariants.{AnswerJob, BecomeExclusive, BecomeShared, GrantJob, Nothing, ReadFor, WriteBlock, WriteLeader}
use Rattle.sl_trace.specs.declared.lease.LeaseNext.{LeaseNext}
use Rattle.sl_trace.specs.declared.lease.Owed.TheVariants.{BallotOwed, FreeOwed, ModeOwed}
use Rattle.sl_trace.specs.declared.lease.Owed.{Owed}
use Rattle.sl_trace.specs.declared.lease.Stop.TheVariants.{BlockAhead, BlockRival, BlockTorn}
use Rattle.sl_trace.specs.declared.lease.Stop.{Stop}
use Rattle.sl_trace.specs.Sessions.{is_join_done}
use Rattle.sl_sector.specs.declared.sector.Block.{Block}
use Rattle.sl_sector.specs.declared.sector.Leader.{Leader}
use Rattle.sl_sector.specs.declared.sector.Owner.{Owner}
use Rattle.sl_trace.specs.declared.effects.LeaseStep.TheVariants.{ClearMode, FreeLeader, Phase1Read, Phase1Write, Phase2Read, Phase2Write, ReadAgain, ReadArea, ReadBeforeBlock, ReadBeforeFree, SetMode, TakeLeader}
use Rattle.sl_trace.specs.declared.effects.LeaseStep.{LeaseStep}
use Rattle.sl_trace.specs.declared.effects.Mode.TheVariants.{Exclusive, Shared}
use Rattle.sl_trace.specs.declared.effects.Mode.{Mode}
use Rattle.sl_trace.specs.declared.input.Answer.TheVariants.{Failed, Read, Written}
use Rattle.sl_trace.specs.declared.input.Answer.{Answer}
use Rattle.sl_trace.specs.declared.reply.Reply.TheVariants.{Done, Held as HeldBy, IoFault, Limit as LimitReached, Shared as SharedBy, TornBlock, TornLeader, WrongArea}
use Rattle.sl_trace.specs.declared.reply.Limited.TheVariants.{Lver as LverLimit, Mbal as MbalLimit, Turn as TurnLimit}
use Rattle.sl_words.specs.Bounds.{is_number}
use Rattle.sl_words.specs.Words.{present}
use Rattle.sl_trace.specs.declared.reply.Reply.{Reply}
use Rattle.sl_trace.specs.declared.effects.LeaseRead.{LeaseRead}
use Rattle.sl_words.proofs.CaseLaws.{false_is_true, true_is_false}
use Rattle.std.proofs.Common.{ap, refl, sym, ◌∙◌}
use Rattle.std.specs.Option.{option_map_or}
use Rattle.std.specs.Prelude.{Bool, List, None, Option, Some, false, is_none, is_some, not, option_map, position, true, ℕ, ◌&&◌, ◌+◌, ◌≡◌}

-- What holds of each thing that a lease may do, of a write of the own block where M does.
pub record Holds (k : LeaseKnown) (M : Type 0) (K : LeaseNext → Type 0) : Type 0 where
  pub nothing : K Nothing
  pub reads : (step : LeaseStep) → K (ReadFor step)
  pub writes : M → (step : LeaseStep) (b : Block) → K (WriteBlock step b)
  pub leads : (step : LeaseStep) (l : Leader) → K (WriteLeader step l)
  pub answers : (r : Reply) → is_join_done r ≡ false → K (AnswerJob r)
  pub grants : (mode : Mode) (lver : ℕ) → K (GrantJob mode lver)
  pub shares : (lver : ℕ) (l : Leader) → k.exclusive ≡ Some lver → K (BecomeShared lver l)
  pub excludes : M → (lver : ℕ) (b : Block) → K (BecomeExclusive lver b)

by_stop : (stop : Stop) → is_join_done (stop_reply stop) ≡ false
by_stop (BlockTorn host) = refl
by_stop (BlockAhead host lver) = refl
by_stop (BlockRival host mbal) = refl

-- The leader that a read of the area gives by these bytes, with what is kept of the first one.
abbrev pub leader_heard : LeasePlace → LeaseKnown → List ℕ → LeaseStep → Option Leader
leader_heard p k bytes step = leader_read p.layout bytes (heard p.layout k bytes step)

-- Where that is the leader of the resource that is sought, M holds.
abbrev pub Verifies : LeasePlace → Type 0 → Option Leader → LeaseStep → Type 0
Verifies p M leader step = (name : List ℕ) (l : Leader) → step ≡ ReadArea name → leader ≡ Some l → is_leader_of p.layout p.lockspace name l ≡ true → M

-- M holds where the session has written a block, and where its ballot is open.
module _ (p : LeasePlace) (k : LeaseKnown) (M : Type 0) (K : LeaseNext → Type 0) (h : Holds k M K) (own : is_some k.own ≡ true → M) (opened : is_some k.ballot ≡ true → M) where
  -- One of two, by a test.
  chosen : (b : Bool) (x y : LeaseNext) → K x → K y → K (elim b as (λ z. LeaseNext) [ true ↦ x | false ↦ y ])
  chosen true x y one other = one
  chosen false x y one other = other

  -- By what there is, if there is one.
  where_some : {A : Type 0} (o : Option A) (f : A → LeaseNext) → ((a : A) → K (f a)) → K (option_map_or f o Nothing)
  where_some None f each = h.nothing
  where_some (Some a) f each = each a

  where_own : (f : Block → LeaseNext) → (M → (b : Block) → K (f b)) → K (option_map_or f k.own Nothing)
  where_own f each = by k.own refl
    where
      by : (o : Option Block) → k.own ≡ o → K (option_map_or f o Nothing)
      by None is = h.nothing
      by (Some b) is = each (own (ap is_some is)) b

  pub refused : (aim : Aim) (r : Reply) → is_join_done r ≡ false → K (refuses aim r)
  refused (Acquires mode) r plain = h.answers r plain
  refused (Converts mode) r plain = h.answers r plain
  refused Releases r plain = h.answers r plain
  refused Settles r plain = h.nothing

  -- ---- ballots

  first_block : M → (aim : Aim) (b : Block) → K (phase1_next aim b)
  first_block may aim b =
      chosen (is_number b.lver) (elim (is_number b.mbal) [ false ↦ refuses aim (LimitReached MbalLimit) | true ↦ WriteBlock Phase1Write b ]) (refuses aim (LimitReached LverLimit))
      (chosen (is_number b.mbal) (WriteBlock Phase1Write b) (refuses aim (LimitReached MbalLimit)) (h.writes may Phase1Write b) (refused aim (LimitReached MbalLimit) refl))
      (refused aim (LimitReached LverLimit) refl)

  begins : M → (aim : Aim) (n : ℕ) → K (begin_next p k aim n)
  unfolding begin_next
  begins may aim n = by (own_known k)
    where
      by : (o : Option Block) → K (elim o as (λ z. LeaseNext) [ None ↦ Nothing | Some own ↦ phase1_next aim (phase1_block k.self p.layout.hosts n k.shared (mode_gen_of k) own (present k.read)) ])
      by None = h.nothing
      by (Some own) = first_block may aim (phase1_block k.self p.layout.hosts n k.shared (mode_gen_of k) own (present k.read))

  clears : K (option_map_or (λ own. WriteBlock ClearMode (moded_block own false 0)) k.own Nothing)
  clears = where_own (λ own. WriteBlock ClearMode (moded_block own false 0)) (λ may own. h.writes may ClearMode (moded_block own false 0))

  pub settled : K (settle_next p k)
  unfolding settle_next
  settled = by_ballot k.ballot refl
    where
      free : (o : Option ℕ) → K (settle_owed p k (option_map (λ n. FreeOwed n) o))
      free None = h.nothing
      free (Some n) = h.reads ReadBeforeFree

      by_mode : (b : Bool) → K (settle_owed p k (elim b as (λ z. Option Owed) [ true ↦ Some ModeOwed | false ↦ option_map (λ n. FreeOwed n) (owed_free k) ]))
      by_mode true = clears
      by_mode false = free (owed_free k)

      by_ballot : (o : Option ℕ) → k.ballot ≡ o
          → K (settle_owed p k (elim o as (λ z. Option Owed) [
            | Some n ↦ Some (BallotOwed n)
            | None ↦ elim (k.shown && not k.shared) [ true ↦ Some ModeOwed | false ↦ option_map (λ n. FreeOwed n) (owed_free k) ]
          ]))
      by_ballot (Some n) is = begins (opened (ap is_some is)) Settles n
      by_ballot None is = by_mode (k.shown && not k.shared)

  settles : K (settle_begin p k)
  unfolding settle_begin
  settles = chosen (p.layout.paired && owes_block (owed k)) (ReadFor ReadBeforeBlock) (settle_next p k) (h.reads ReadBeforeBlock) settled

  stopped : (aim : Aim) (stop : Stop) → K (stopped_next p k aim stop)
  stopped (Acquires mode) stop = h.answers (stop_reply stop) (by_stop stop)
  stopped (Converts mode) stop = h.answers (stop_reply stop) (by_stop stop)
  stopped Releases stop = h.answers (stop_reply stop) (by_stop stop)
  stopped Settles stop = chosen (is_ahead stop) (settle_next p k) Nothing settled h.nothing

  unstopped : M → (aim : Aim) (own : Block) (read : List (Option Block)) → K (unstopped_next k aim own read)
  unstopped may aim own read = by (looks_for_shared aim)
    where
      second : K (phase2_next k own read)
      second = h.writes may Phase2Write (moded_block (phase2_block k.self own (ballot_blocks own read)) k.shared (mode_gen_of k))

      beside : (o : Option Block) → K (elim o as (λ z. LeaseNext) [ Some b ↦ AnswerJob (SharedBy (record { id = b.host; generation = b.mode_gen })) | None ↦ phase2_next k own read ])
      beside None = second
      beside (Some b) = h.answers (SharedBy (record { id = b.host; generation = b.mode_gen })) refl

      by : (b : Bool)
          → K (elim b as (λ z. LeaseNext) [
            | false ↦ phase2_next k own read
            | true ↦ elim (shared_elsewhere k read) [ Some b ↦ AnswerJob (SharedBy (record { id = b.host; generation = b.mode_gen })) | None ↦ phase2_next k own read ]
          ])
      by false = second
      by true = beside (shared_elsewhere k read)

  first_read : M → (aim : Aim) (own : Block) (read : List (Option Block)) (stop : Option Stop) → K (after_phase1 p k aim own read stop)
  first_read may aim own read None = unstopped may aim own read
  first_read may aim own read (Some stop) = stopped aim stop

  won : (aim : Aim) (n : ℕ) → K (won_next p k aim n)
  won (Acquires mode) n = h.leads TakeLeader (leader_for p k true n)
  won (Converts mode) n = h.leads TakeLeader (leader_for p k true n)
  won Releases n = h.nothing
  won Settles n = h.leads FreeLeader (leader_for p k false n)

  lost : M → (aim : Aim) (n : ℕ) (o : Owner) → K (lost_next p k aim n o)
  lost may (Acquires mode) n o =
      chosen (k.over o.id o.generation) (begin_next p k (Acquires mode) (n + 1)) (AnswerJob (HeldBy n o)) (begins may (Acquires mode) (n + 1)) (h.answers (HeldBy n o) refl)
  lost may (Converts mode) n o =
      chosen (k.over o.id o.generation) (begin_next p k (Converts mode) (n + 1)) (AnswerJob (HeldBy n o)) (begins may (Converts mode) (n + 1)) (h.answers (HeldBy n o) refl)
  lost may Releases n o = h.nothing
  lost may Settles n o = settled

  second_read : M → (aim : Aim) (own : Block) (stop : Option Stop) → K (after_phase2 p k aim own stop)
  second_read may aim own None =
      chosen (same_owner (value_of own) k.self) (won_next p k aim own.lver) (lost_next p k aim own.lver (value_of own)) (won aim own.lver) (lost may aim own.lver (value_of own))
  second_read may aim own (Some stop) = stopped aim stop

  -- ---- the read of the area

  instance : M → (aim : Aim) (i : Instance) → K (begin_or_refuse p k aim i)
  instance may aim (Begins n) = begins may aim n
  instance may aim (HeldAlready lver owner) = h.answers (HeldBy lver owner) refl

  named_area : M → (aim : Aim) (l : Leader) (read : List (Option Block)) → K (named_area_next p k aim l read)
  named_area may aim l read = by (position is_none read)
    where
      by : (o : Option ℕ) → K (elim o as (λ z. LeaseNext) [ Some i ↦ AnswerJob (TornBlock (i + 1)) | None ↦ whole_area_next p k aim l read ])
      by (Some i) = h.answers (TornBlock (i + 1)) refl
      by None = where_some (own_known k) (λ own. begin_or_refuse p k aim (instance_for k l own read)) (λ own. instance may aim (instance_for k l own read))

  area : (aim : Aim) (name : List ℕ) (leader : Option Leader) (read : List (Option Block)) → ((l : Leader) → leader ≡ Some l → is_leader_of p.layout p.lockspace name l ≡ true → M)
      → K (area_next p k aim name leader read)
  unfolding area_next
  area aim name leader read verified = by leader refl
    where
      by_name : (l : Leader) → leader ≡ Some l → (b : Bool) → is_leader_of p.layout p.lockspace name l ≡ b
          → K (elim b as (λ z. LeaseNext) [ false ↦ AnswerJob (WrongArea l.lockspace l.resource l.num_hosts) | true ↦ named_area_next p k aim l read ])
      by_name l is false other = h.answers (WrongArea l.lockspace l.resource l.num_hosts) refl
      by_name l is true its = named_area (verified l is its) aim l read

      by : (o : Option Leader) → leader ≡ o
          → K (elim o as (λ z. LeaseNext) [
            | None ↦ AnswerJob TornLeader
            | Some l ↦ elim (is_leader_of p.layout p.lockspace name l) [
              | false ↦ AnswerJob (WrongArea l.lockspace l.resource l.num_hosts)
              | true ↦ named_area_next p k aim l read
            ]
          ])
      by None is = h.answers TornLeader refl
      by (Some l) is = by_name l is (is_leader_of p.layout p.lockspace name l) refl

  -- ---- by step

  after_reading : (aim : Aim) (leader : Option Leader) (read : List (Option Block)) (step : LeaseStep) → Verifies p M leader step → K (after_read p k aim leader read step)
  after_reading aim leader read (ReadArea name) verified = area aim name leader read (λ l is its. verified name l refl is its)
  after_reading aim leader read ReadBeforeFree verified = where_some (owed_free k) (λ n. WriteLeader FreeLeader (leader_for p k false n)) (λ n. h.leads FreeLeader (leader_for p k false n))
  after_reading aim leader read ReadBeforeBlock verified = settled
  after_reading aim leader read (ReadAgain other) verified = h.nothing
  after_reading aim leader read Phase1Write verified = h.nothing
  after_reading aim leader read Phase1Read verified =
      where_own (λ own. after_phase1 p k aim own read (stop_of own read)) (λ may own. first_read may aim own read (stop_of own read))
  after_reading aim leader read Phase2Write verified = h.nothing
  after_reading aim leader read Phase2Read verified = where_own (λ own. after_phase2 p k aim own (stop_of own read)) (λ may own. second_read may aim own (stop_of own read))
  after_reading aim leader read TakeLeader verified = h.nothing
  after_reading aim leader read SetMode verified = h.nothing
  after_reading aim leader read FreeLeader verified = h.nothing
  after_reading aim leader read ClearMode verified = h.nothing

  -- By whether it is made once more.
  after_answer : (aim : Aim) (bytes : List ℕ) (step : LeaseStep) → (asked_again p.layout bytes step ≡ None → Verifies p M (leader_heard p k bytes step) (first_step step))
      → K (after_bytes p k aim bytes step)
  unfolding after_bytes
  after_answer aim bytes step verified = by (asked_again p.layout bytes step) refl
    where
      by : (o : Option LeaseRead) → asked_again p.layout bytes step ≡ o
          → K (elim o as (λ z. LeaseNext) [
            | Some read ↦ ReadFor (ReadAgain read)
            | None ↦ after_read p k aim (leader_read p.layout bytes (heard p.layout k bytes step)) (blocks_of p.layout (heard p.layout k bytes step)) (first_step step)
          ])
      by (Some read) is = h.reads (ReadAgain read)
      by None is = after_reading aim (leader_heard p k bytes step) (blocks_of p.layout (heard p.layout k bytes step)) (first_step step) (verified is)

  after_taking : (aim : Aim) (n : ℕ) → K (after_take k aim n)
  after_taking (Acquires Exclusive) n = h.grants Exclusive n
  after_taking (Acquires Shared) n =
      where_own (λ own. WriteBlock SetMode (moded_block own true k.self.generation)) (λ may own. h.writes may SetMode (moded_block own true k.self.generation))
  after_taking (Converts Exclusive) n = where_own (λ own. BecomeExclusive n (moded_block own false 0)) (λ may own. h.excludes may n (moded_block own false 0))
  after_taking (Converts Shared) n = h.nothing
  after_taking Releases n = h.nothing
  after_taking Settles n = h.nothing

  after_setting : (aim : Aim) (n : ℕ) → K (after_moding p k aim n)
  after_setting (Acquires mode) n = h.leads FreeLeader (leader_for p k false n)
  after_setting (Converts mode) n = by k.exclusive refl
    where
      by : (o : Option ℕ) → k.exclusive ≡ o → K (option_map_or (λ e. BecomeShared e (leader_for p k false e)) o Nothing)
      by None is = h.nothing
      by (Some e) is = h.shares e (leader_for p k false e) is
  after_setting Releases n = h.nothing
  after_setting Settles n = h.nothing

  after_free : (aim : Aim) (n : ℕ) → K (after_freeing p k aim n)
  after_free (Acquires mode) n = h.grants Shared n
  after_free (Converts mode) n = h.nothing
  after_free Releases n = h.answers Done refl
  after_free Settles n = settled

  after_clear : (aim : Aim) → K (after_clearing p k aim)
  after_clear (Acquires mode) = h.nothing
  after_clear (Converts mode) = h.nothing
  after_clear Releases = h.answers Done refl
  after_clear Settles = settled

  after_writing : (aim : Aim) (n : ℕ) (step : LeaseStep) → K (after_write p k aim n step)
  after_writing aim n (ReadArea name) = h.nothing
  after_writing aim n ReadBeforeFree = h.nothing
  after_writing aim n ReadBeforeBlock = h.nothing
  after_writing aim n (ReadAgain read) = h.nothing
  after_writing aim n Phase1Write = h.reads Phase1Read
  after_writing aim n Phase1Read = h.nothing
  after_writing aim n Phase2Write = h.reads Phase2Read
  after_writing aim n Phase2Read = h.nothing
  after_writing aim n TakeLeader = after_taking aim n
  after_writing aim n SetMode = after_setting aim n
  after_writing aim n FreeLeader = after_free aim n
  after_writing aim n ClearMode = after_clear aim

  -- ---- within the turn

  refused_block : (aim : Aim) (next : LeaseNext) → K next → K (refuses_block aim next)
  refused_block aim Nothing is = is
  refused_block aim (ReadFor step) is = is
  refused_block aim (WriteBlock step b) is = refused aim (LimitReached TurnLimit) refl
  refused_block aim (WriteLeader step l) is = is
  refused_block aim (AnswerJob r) is = is
  refused_block aim (GrantJob mode lver) is = is
  refused_block aim (BecomeShared lver l) is = is
  refused_block aim (BecomeExclusive lver b) is = refused aim (LimitReached TurnLimit) refl

  within : (aim : Aim) (next : LeaseNext) → K next → K (within_turn p k aim next)
  unfolding within_turn
  within aim next is = chosen (p.layout.paired && not (is_number (k.turn + 1))) (refuses_block aim next) next (refused_block aim next is) is

  -- ---- all that a lease does

  pub read_within : (aim : Aim) (call n : ℕ) (step : LeaseStep) (bytes : List ℕ) → (asked_again p.layout bytes step ≡ None → Verifies p M (leader_heard p k bytes step) (first_step step))
      → K (within_turn p k aim (lease_next p k aim call n step (Read bytes)))
  unfolding lease_next
  read_within aim call n step bytes verified = within aim (after_bytes p k aim bytes step) (after_answer aim bytes step verified)

  pub written_within : (aim : Aim) (call n : ℕ) (step : LeaseStep) → K (within_turn p k aim (lease_next p k aim call n step Written))
  unfolding lease_next
  written_within aim call n step = within aim (after_write p k aim n step) (after_writing aim n step)

  pub failed_within : (aim : Aim) (call n : ℕ) (step : LeaseStep) → K (within_turn p k aim (lease_next p k aim call n step Failed))
  unfolding lease_next
  failed_within aim call n step = within aim (refuses aim (IoFault call)) (refused aim (IoFault call) refl)

  pub settles_within : K (within_turn p k Settles (settle_begin p k))
  settles_within = within Settles (settle_begin p k) settles

  pub releases_within : (mode : Mode) (lver : ℕ) → K (within_turn p k Releases (release_next p k mode lver))
  releases_within Exclusive lver = within Releases (release_next p k Exclusive lver) (h.leads FreeLeader (leader_for p k false lver))
  releases_within Shared lver = within Releases (release_next p k Shared lver) clears

  pub converts_within : (mode : Mode) (name : List ℕ) → K (within_turn p k (Converts mode) (convert_next k mode name))
  converts_within Shared name =
      within (Converts Shared) (convert_next k Shared name)
      (where_own (λ own. WriteBlock SetMode (moded_block own true k.self.generation)) (λ may own. h.writes may SetMode (moded_block own true k.self.generation)))
  converts_within Exclusive name = within (Converts Exclusive) (convert_next k Exclusive name) (h.reads (ReadArea name))

-- ---- of the exclusive holding, and of no joining

module _ (p : LeasePlace) (k : LeaseKnown) where
  of_held : Holds k (Unit {0}) (IsOfHeld k.exclusive)
  of_held = record {
    nothing = tt;
    reads = λ step. tt;
    writes = λ may step b. tt;
    leads = λ step l. tt;
    answers = λ r plain. plain;
    grants = λ mode lver. tt;
    shares = λ lver l is. is;
    excludes = λ may lver b. tt;
  }

  answered : (aim : Aim) (call n : ℕ) (step : LeaseStep) (a : Answer) → IsOfHeld k.exclusive (within_turn p k aim (lease_next p k aim call n step a))
  answered aim call n step (Read bytes) = read_within p k (Unit {0}) (IsOfHeld k.exclusive) of_held (λ is. tt) (λ is. tt) aim call n step bytes (λ once name l at is its. tt)
  answered aim call n step Written = written_within p k (Unit {0}) (IsOfHeld k.exclusive) of_held (λ is. tt) (λ is. tt) aim call n step
  answered aim call n step Failed = failed_within p k (Unit {0}) (IsOfHeld k.exclusive) of_held (λ is. tt) (λ is. tt) aim call n step

pub leases_are_of_held : LeasesAreOfHeld
leases_are_of_held = record {
  answered = answered;
  settles = λ p k. settles_within p k (Unit {0}) (IsOfHeld k.exclusive) (of_held p k) (λ is. tt) (λ is. tt);
  releases = λ p k. releases_within p k (Unit {0}) (IsOfHeld k.exclusive) (of_held p k) (λ is. tt) (λ is. tt);
  converts = λ p k. converts_within p k (Unit {0}) (IsOfHeld k.exclusive) (of_held p k) (λ is. tt) (λ is. tt);
}

-- ---- of the own block

pub refusals_write_nothing : (aim : Aim) (r : Reply) → writes_own_block (refuses aim r) ≡ false
refusals_write_nothing (Acquires mode) r = refl
refusals_write_nothing (Converts mode) r = refl
refusals_write_nothing Releases r = refl
refusals_write_nothing Settles r = refl

-- What writes the own block is within its turn.
pub fits_within : (p : LeasePlace) (k : LeaseKnown) (aim : Aim) (next : LeaseNext) → writes_own_block (within_turn p k aim next) ≡ true → p.layout.paired ≡ true → is_number (k.turn + 1) ≡ true
unfolding within_turn
fits_within p k aim next writes paired = by p.layout.paired (is_number (k.turn + 1)) refl paired writes
  where
    none : (n : LeaseNext) → writes_own_block (refuses_block aim n) ≡ true → ⊥
    none Nothing h = false_is_true h
    none (ReadFor step) h = false_is_true h
    none (WriteBlock step b) h = true_is_false (sym h ∙ refusals_write_nothing aim (LimitReached TurnLimit))
    none (WriteLeader step l) h = false_is_true h
    none (AnswerJob r) h = false_is_true h
    none (GrantJob mode lver) h = false_is_true h
    none (BecomeShared lver l) h = false_is_true h
    none (BecomeExclusive lver b) h = true_is_false (sym h ∙ refusals_write_nothing aim (LimitReached TurnLimit))

    by : (pairs fits : Bool) → is_number (k.turn + 1) ≡ fits → pairs ≡ true
        → writes_own_block (elim (pairs && not fits) as (λ z. LeaseNext) [ false ↦ next | true ↦ refuses_block aim next ]) ≡ true → is_number (k.turn + 1) ≡ true
    by pairs true is two h = is
    by true false is two h = absurd (none next h)
    by false false is two h = absurd (false_is_true two)

-- It is decided by a block of the session, or after a read of the area by the name that was sought.
module _ (p : LeasePlace) (k : LeaseKnown) (M : Type 0) (own : is_some k.own ≡ true → M) (opened : is_some k.ballot ≡ true → is_some k.own ≡ true) where
  abbrev pub WritesBy : LeaseNext → Type 0
  WritesBy next = writes_own_block next ≡ true → M

  pub by_own : Holds k M WritesBy
  by_own = record {
    nothing = λ w. absurd (false_is_true w);
    reads = λ step w. absurd (false_is_true w);
    writes = λ may step b w. may;
    leads = λ step l w. absurd (false_is_true w);
    answers = λ r plain w. absurd (false_is_true w);
    grants = λ mode lver w. absurd (false_is_true w);
    shares = λ lver l is w. absurd (false_is_true w);
    excludes = λ may lver b w. may;
  }

  pub read_named : (aim : Aim) (call n : ℕ) (step : LeaseStep) (bytes : List ℕ) → (asked_again p.layout bytes step ≡ None → Verifies p M (leader_heard p k bytes step) (first_step step))
      → WritesBy (within_turn p k aim (lease_next p k aim call n step (Read bytes)))
  read_named aim call n step bytes verified = read_within p k M WritesBy by_own own (λ is. own (opened is)) aim call n step bytes verified

  pub written_named : (aim : Aim) (call n : ℕ) (step : LeaseStep) → WritesBy (within_turn p k aim (lease_next p k aim call n step Written))
  written_named aim call n step = written_within p k M WritesBy by_own own (λ is. own (opened is)) aim call n step

  pub settles_named : WritesBy (within_turn p k Settles (settle_begin p k))
  settles_named = settles_within p k M WritesBy by_own own (λ is. own (opened is))

  pub releases_named : (mode : Mode) (lver : ℕ) → WritesBy (within_turn p k Releases (release_next p k mode lver))
  releases_named mode lver = releases_within p k M WritesBy by_own own (λ is. own (opened is)) mode lver

  pub converts_named : (mode : Mode) (name : List ℕ) → WritesBy (within_turn p k (Converts mode) (convert_next k mode name))
  converts_named mode name = converts_within p k M WritesBy by_own own (λ is. own (opened is)) mode name
