-- The course of a quiet acquire on the lease's own list of calls, the newest first: what is known of the lease when each call is
-- answered follows from the calls themselves.
use Rattle.sl_area.specs.AreaSizes.{Layout}
use Rattle.sl_area.specs.AreaRecords.{block_record, leader_record}
use Rattle.sl_area.specs.AreaLayout.{blocks_part, leader_of}
use Rattle.sl_trace.specs.Ballots.{in_instance, moded_block, next_mbal}
use Rattle.sl_trace.specs.LeaseDecisions.{LeasePlace, leader_for, lease_next}
use Rattle.sl_trace.specs.Leases.{LeaseKnown, block_submitted, freed, is_leader_of, known_of, own_or_read}
use Rattle.sl_trace.specs.declared.lease.Aim.TheVariants.{Acquires}
use Rattle.sl_trace.specs.declared.lease.LeaseNext.TheVariants.{WriteBlock, WriteLeader}
use Rattle.sl_headline.specs.Quiet.Course.QuietDecisions.{NoneShared, ShowsWhole, StandsAlone, all_whole, quiet_phase1}
use Rattle.sl_sector.specs.declared.sector.Block.{Block}
use Rattle.sl_sector.specs.declared.sector.Leader.{Leader}
use Rattle.sl_sector.specs.declared.sector.Owner.{Owner}
use Rattle.sl_trace.specs.Traces.{Submitted, gave}
use Rattle.sl_trace.specs.declared.effects.LeaseStep.TheVariants.{Phase1Read, Phase1Write, Phase2Read, Phase2Write, ReadArea, SetMode, TakeLeader}
use Rattle.sl_trace.specs.declared.effects.LeaseStep.{LeaseStep}
use Rattle.sl_trace.specs.declared.effects.Mode.TheVariants.{Shared}
use Rattle.sl_trace.specs.declared.effects.Mode.{Mode}
use Rattle.sl_trace.specs.declared.effects.Op.TheVariants.{ReadSectors, WriteRecord}
use Rattle.sl_trace.specs.declared.effects.Purpose.TheVariants.{Lease}
use Rattle.sl_trace.specs.declared.effects.Work.{Work}
use Rattle.sl_trace.specs.declared.input.Answer.TheVariants.{Read, Written}
use Rattle.sl_words.specs.Bounds.{record_numbers}
use Rattle.std.specs.List.{AllByRecursion}
use Rattle.std.specs.Prelude.{Bool, List, Option, Some, [], false, map, true, ℕ, ◌+◌, ◌<◌, ◌∷◌, ◌≡◌, ◌≤◌}

-- A read of the lease at this step that gave these bytes.
pub record ReadCall (m : Submitted) (step : LeaseStep) (bytes : List ℕ) : Type 0 where
  pub work : Work
  pub sectors : ℕ
  pub purpose : m.call.purpose ≡ Lease work step
  pub op : m.call.op ≡ ReadSectors sectors
  pub gives : gave m ≡ Some bytes

-- A write of a block.
pub record BlockCall (g : Layout) (m : Submitted) (b : Block) : Type 0 where
  pub turn : ℕ
  pub lockspace : List ℕ
  pub name : List ℕ
  pub op : m.call.op ≡ WriteRecord (block_record g turn lockspace name b)

-- A write of a leader as held.
pub record LeaderCall (g : Layout) (m : Submitted) (l : Leader) : Type 0 where
  pub op : m.call.op ≡ WriteRecord (leader_record g l)
  pub held : l.held ≡ true

-- What is the same all along: where the lease stands, the session, whom it counts as over.
pub record Same : Type 0 where
  pub place : LeasePlace
  pub self : Owner
  pub exclusive : Option ℕ
  pub over : ℕ → ℕ → Bool

-- What is known with these calls, while nothing is held there.
abbrev pub known_with : Same → List Submitted → LeaseKnown
known_with x ms = known_of x.place.layout x.place.lockspace x.self false x.exclusive x.over ms

-- Before the first call; and what its read gives.
pub record Begins (x : Same) (ms : List Submitted) (name bytes : List ℕ) (l : Leader) (blocks : List Block) (own : Block) : Type 0 where
  pub leader : leader_of x.place.layout bytes ≡ Some l
  pub names : is_leader_of x.place.layout x.place.lockspace name l ≡ true
  pub free : l.held ≡ false
  pub shows : ShowsWhole x.place.layout (blocks_part x.place.layout bytes) blocks
  pub below : AllByRecursion (λ b. b.lver ≤ l.lver) blocks
  -- the own block: submitted last, else read now
  pub own_is : own_or_read x.self.id (block_submitted ms) (all_whole blocks) ≡ Some own
  pub own_low : own.lver ≤ l.lver + 1
  pub unaccepted : own.lver ≡ l.lver + 1 → own.bal ≡ 0
  pub freed_low : freed ms ≤ l.lver
  pub lver : l.lver + 1 < record_numbers
  pub mbal : next_mbal x.place.layout.hosts x.self.id (map (λ b. b.mbal) (in_instance (l.lver + 1) (own ∷ []))) < record_numbers

-- The blocks that are written.
abbrev pub first_block : Same → List Submitted → Leader → List Block → Block → Block
first_block x ms l blocks own = quiet_phase1 x.place (known_with x ms) (l.lver + 1) own blocks

abbrev pub second_block : Same → Block → Block
second_block x first = moded_block (record first { bal = first.mbal; inp = x.self.id; inp_gen = x.self.generation }) false 0

-- A later read of the blocks shows the own one, and others of earlier instances.
pub record ShowsOwn (x : Same) (bytes : List ℕ) (blocks : List Block) (own : Block) : Type 0 where
  pub shows : ShowsWhole x.place.layout bytes blocks
  pub alone : StandsAlone own blocks

-- What comes after each answered read; a write's answer is followed by its read without a condition, the last by the grant.
pub record CourseDecisions : Type 0 where
  pub begins : (x : Same) (ms : List Submitted) (mode : Mode) (name bytes : List ℕ) (l : Leader) (blocks : List Block) (own : Block) → Begins x ms name bytes l blocks own →
      (m : Submitted) → ReadCall m (ReadArea name) bytes → (call n : ℕ) →
      lease_next x.place (known_with x (m ∷ ms)) (Acquires mode) call n (ReadArea name) (Read bytes) ≡ WriteBlock Phase1Write (first_block x ms l blocks own)
  pub accepts : (x : Same) (ms : List Submitted) (mode : Mode) (own : Block) (blocks : List Block) (bytes : List ℕ) → (w m : Submitted) → BlockCall x.place.layout w own → ReadCall m Phase1Read bytes →
      own.bal ≡ 0 → ShowsOwn x bytes blocks own → NoneShared (known_with x (m ∷ w ∷ ms)) mode blocks → (call n : ℕ) →
      lease_next x.place (known_with x (m ∷ w ∷ ms)) (Acquires mode) call n Phase1Read (Read bytes) ≡ WriteBlock Phase2Write (second_block x own)
  pub takes : (x : Same) (ms : List Submitted) (mode : Mode) (own : Block) (blocks : List Block) (bytes : List ℕ) → (w m : Submitted) → BlockCall x.place.layout w (second_block x own) → ReadCall m Phase2Read bytes →
      ShowsOwn x bytes blocks (second_block x own) → (call n : ℕ) →
      lease_next x.place (known_with x (m ∷ w ∷ ms)) (Acquires mode) call n Phase2Read (Read bytes)
      ≡ WriteLeader TakeLeader (leader_for x.place (known_with x (m ∷ w ∷ ms)) true own.lver)
  pub shares : (x : Same) (ms : List Submitted) (own : Block) (l : Leader) → (w r m : Submitted) (bytes : List ℕ) → BlockCall x.place.layout w own → ReadCall r Phase2Read bytes → LeaderCall x.place.layout m l → (call n : ℕ) →
      lease_next x.place (known_with x (m ∷ r ∷ w ∷ ms)) (Acquires Shared) call n TakeLeader Written ≡ WriteBlock SetMode (moded_block own true x.self.generation)
  -- the first block is of the leader's next instance, and nothing is accepted in it
  pub first : (x : Same) (ms : List Submitted) (name bytes : List ℕ) (l : Leader) (blocks : List Block) (own : Block) → Begins x ms name bytes l blocks own →
      ((first_block x ms l blocks own).lver ≡ l.lver + 1) × ((first_block x ms l blocks own).bal ≡ 0) × ((first_block x ms l blocks own).host ≡ x.self.id)
