-- A search for the law of block writing, with the one reason that the runs need: the leader before is free, or its owner is over.
use Rattle.sl_run.specs.LawfulBlock.{BeginReason, FirstAfter, Leader_before, LawfulBlock, LawfulBlockStep, LawfulBlockWrite, LawfulModeWrite, LawfulPhase1, LawfulPhase2, LawfulPhase2Read, LawfulTurn, ReadAfter}
use Rattle.sl_trace.specs.Ballots.{ballot_blocks, moded_block, phase1_block, phase2_block, stop_of}
use Rattle.sl_trace.specs.Leases.{Phase1_read, Phase1_write, Phase2_read, Phase2_write, base_turn, block_written, blocks_given, freed, is_again, is_area_read, is_at, is_leader_of, last_blocks, leader_given, lease_calls, lease_step, own_block, spot_of_call, turn_written}
use Rattle.sl_sector.specs.declared.sector.Block.{Block}
use Rattle.sl_sector.specs.declared.sector.Leader.{Leader}
use Rattle.sl_trace.specs.Sessions.{me}
use Rattle.sl_trace.specs.Sightings.{counted_over}
use Rattle.sl_trace.specs.declared.session.Session.{Session}
use Rattle.sl_trace.specs.Traces.{Setting, Submitted, Trace}
use Rattle.sl_trace.specs.declared.effects.Entry.{Entry}
use Rattle.sl_trace.specs.declared.effects.LeaseStep.TheVariants.{Phase1Write, Phase2Write, SetMode}
use Rattle.sl_trace.specs.declared.effects.LeaseStep.{LeaseStep}
use Rattle.sl_trace.specs.declared.effects.Spot.{Spot}
use Rattle.sl_trace.specs.declared.effects.Work.{Work}
use Rattle.sl_examples.proofs.Witness.EachSearch.{seek_each_call}
use Rattle.sl_examples.proofs.Witness.EqualitySearch.{seek_block, seek_written}
use Rattle.sl_examples.proofs.Witness.ProofSearch.{Split, seek_false, seek_for, seek_if, seek_le, seek_lt, seek_none, seek_same, seek_some, seek_split, seek_true, split_inside, ◌>>=◌}
use Rattle.sl_words.proofs.CaseLaws.{not_both}
use Rattle.sl_words.specs.Words.{present}
use Rattle.std.proofs.Common.{inl, inr}
use Rattle.std.specs.List.{list_all}
use Rattle.std.specs.Prelude.{IsFalse, IsTrue, List, None, Option, Some, find, is_some, false, ℕ, ◌+◌, ◌≡◌, ◌⊎◌}

-- ---- why an instance begins

-- The instance before is done with.
abbrev pub seek_free_or_over : (st : Setting) (es : Trace) (s : Session) (l : Leader)
    → Option ((l.held ≡ false) ⊎ IsTrue (counted_over st es s l.owner l.generation))
seek_free_or_over st es s l = elim (seek_false l.held) [
  | Some h ↦ Some (inl h)
  | None ↦ do
    h ← seek_true (counted_over st es s l.owner l.generation)
    Some (inr h)
]

-- What a read of the area shows of n.
abbrev pub ShowsBefore : Setting → Trace → Session → ℕ → Submitted → List Submitted → Type 0
ShowsBefore st es s n c before =
    (blocks : List (Option Block)) × (leader : Leader) × IsTrue (is_area_read c) × (blocks_given st.layout c before ≡ Some blocks)
    × (leader_given st.layout c before ≡ Some leader)
    × IsTrue (is_leader_of st.layout s.lockspace leader.resource leader) × IsTrue (list_all is_some blocks)
    × (leader.lver + 1 ≡ n) × ((leader.held ≡ false) ⊎ IsTrue (counted_over st es s leader.owner leader.generation))

abbrev pub seek_shows : (st : Setting) (es : Trace) (s : Session) (n : ℕ) (c : Submitted) (ms : List Submitted) → Option (ShowsBefore st es s n c ms)
seek_shows st es s n c ms = do
  reads ← seek_true (is_area_read c)
  blocks ← seek_some (blocks_given st.layout c ms)
  leader ← seek_some (leader_given st.layout c ms)
  before ← seek_same (leader.0.lver + 1) n
  names ← seek_true (is_leader_of st.layout s.lockspace leader.0.resource leader.0)
  whole ← seek_true (list_all is_some blocks.0)
  done ← seek_free_or_over st es s leader.0
  Some (blocks.0, leader.0, reads, blocks.1, leader.1, names, whole, before, done)

pub begins_after : (st : Setting) (es : Trace) (s : Session) (at : Spot) (n : ℕ) → Split (ShowsBefore st es s n) (lease_calls st es s at) → BeginReason st es s at n
begins_after st es s at n h =
    Leader_before (record {
      read = h.one;
      blocks = h.is.0;
      leader = h.is.1;
      resource = (h.is.1).resource;
      of_lease = (split_inside (ShowsBefore st es s n) (lease_calls st es s at) h, h.is.2);
      after = h.after;
      before = h.before;
      split = h.split;
      gives = h.is.3;
      spells = h.is.4;
      names = h.is.5;
      whole = h.is.6;
    }) h.is.7 h.is.8

abbrev pub seek_reason : (st : Setting) (es : Trace) (s : Session) (at : Spot) (n : ℕ) → Option (BeginReason st es s at n)
seek_reason st es s at n = do
  h ← seek_split (ShowsBefore st es s n) (seek_shows st es s n) (lease_calls st es s at)
  Some (begins_after st es s at n h)

-- ---- the phases

abbrev pub seek_phase1 : (st : Setting) (es : Trace) (s : Session) (at : Spot) (c : Submitted) (b : Block) → Option (LawfulPhase1 st es s at c b)
seek_phase1 st es s at c b = do
  reason ← seek_reason st es s at b.lver
  own ← seek_some (own_block st.layout s.id (lease_calls st es s at))
  not_below ← seek_le own.0.lver b.lver
  not_freed ← seek_lt (freed (lease_calls st es s at)) b.lver
  written ← seek_block b (phase1_block (me es s) st.layout.hosts b.lver b.shared b.mode_gen own.0 (present (last_blocks st.layout (lease_calls st es s at))))
  Some (record { reason = reason; own = own.0; known = own.1; not_below = not_below; not_freed = not_freed; written = written })

abbrev pub seek_read_after : (write read : Submitted) → Option (ReadAfter write read)
seek_read_after write read = do
  answer ← seek_some write.answer
  ok ← seek_written answer.0.answer
  later ← seek_le answer.0.at read.at
  Some (record { answer = answer.0; answered = (answer.1, ok); later = later })

-- A read that is a first one has none before it.
pub once_after : (write read : Submitted) (before : List Submitted) → IsFalse (is_again read) → FirstAfter write read before
once_after write read before once again first is = absurd (not_both (is_again read) again once)

-- What a read of phase 1, a first one, makes phase 2 write.
abbrev pub Proposes : Setting → Trace → Session → Block → Block → Submitted → Submitted → List Submitted → Type 0
Proposes st es s b own write read before =
    (blocks : List (Option Block)) × IsTrue (is_at Phase1_read read) × IsFalse (is_again read) × ReadAfter write read
    × (blocks_given st.layout read before ≡ Some blocks) × (stop_of own blocks ≡ None)
    × (b ≡ moded_block (phase2_block (me es s) own (ballot_blocks own blocks)) b.shared b.mode_gen)

abbrev pub seek_proposes : (st : Setting) (es : Trace) (s : Session) (b own : Block) (write read : Submitted) (before : List Submitted)
    → Option (Proposes st es s b own write read before)
seek_proposes st es s b own write read before = do
  at ← seek_true (is_at Phase1_read read)
  once ← seek_false (is_again read)
  ordered ← seek_read_after write read
  blocks ← seek_some (blocks_given st.layout read before)
  clear ← seek_none (stop_of own blocks.0)
  written ← seek_block b (moded_block (phase2_block (me es s) own (ballot_blocks own blocks.0)) b.shared b.mode_gen)
  Some (blocks.0, at, once, ordered, blocks.1, clear, written)

abbrev pub seek_phase2 : (st : Setting) (es : Trace) (s : Session) (at : Spot) (c : Submitted) (b : Block) → Option (LawfulPhase2 st es s at c b)
seek_phase2 st es s at c b = do
  write ← seek_some (find (λ d. is_some (block_written d)) (lease_calls st es s at))
  own ← seek_some (block_written write.0)
  first ← seek_true (is_at Phase1_write write.0)
  read ← seek_split (Proposes st es s b own.0 write.0) (seek_proposes st es s b own.0 write.0) (lease_calls st es s at)
  Some (record {
    own = own.0;
    write = write.0;
    read = read.one;
    blocks = read.is.0;
    last = write.1;
    wrote = (own.1, first);
    of_lease = (split_inside (Proposes st es s b own.0 write.0) (lease_calls st es s at) read, read.is.1);
    after = read.after;
    before = read.before;
    split = read.split;
    ordered = read.is.3;
    first_ordered = once_after write.0 read.one read.before read.is.2;
    given = read.is.4;
    clear = read.is.5;
    written = read.is.6;
  })

abbrev pub seek_phase2_read : (st : Setting) (es : Trace) (s : Session) (at : Spot) (c : Submitted) → Option (LawfulPhase2Read st es s at c)
seek_phase2_read st es s at c = do
  write ← seek_some (find (λ d. is_some (block_written d)) (lease_calls st es s at))
  second ← seek_true (is_at Phase2_write write.0)
  ordered ← seek_read_after write.0 c
  Some (record { write = write.0; last = write.1; is_phase2 = second; ordered = ordered })

-- A write of the mode alone.
abbrev pub seek_mode_write : (st : Setting) (es : Trace) (s : Session) (at : Spot) (b : Block) → Option (LawfulModeWrite st es s at b)
seek_mode_write st es s at b = do
  own ← seek_some (own_block st.layout s.id (lease_calls st es s at))
  begun ← seek_le 1 own.0.lver
  written ← seek_block b (moded_block own.0 b.shared b.mode_gen)
  Some (record { own = own.0; known = own.1; begun = begun; written = written })

-- ---- the law

abbrev pub seek_block_step : (st : Setting) (es : Trace) (s : Session) (at : Spot) (c : Submitted) (b : Block) (step : LeaseStep)
    → Option (LawfulBlockStep st es s at c b step)
seek_block_step st es s at c b Phase1Write = seek_phase1 st es s at c b
seek_block_step st es s at c b Phase2Write = seek_phase2 st es s at c b
seek_block_step st es s at c b SetMode = seek_mode_write st es s at b
seek_block_step st es s at c b step = None

abbrev pub seek_block_of : (st : Setting) (es : Trace) (s : Session) (at : Spot) (c : Submitted) (b : Block) (p : Option (Work × LeaseStep))
    → Option (elim p as (λ z. Type 0) [ None ↦ ⊥ | Some q ↦ LawfulBlockStep st es s at c b q.1 ])
seek_block_of st es s at c b None = None
seek_block_of st es s at c b (Some q) = seek_block_step st es s at c b q.1

abbrev pub seek_block_write : (st : Setting) (es : Trace) (s : Session) (c : Submitted) (b : Block) → Option (LawfulBlockWrite st es s c b)
seek_block_write st es s c b = seek_block_of st es s (spot_of_call st.layout c) c b (lease_step c.call.purpose)

abbrev pub seek_turn : (turn shown : ℕ) → Option (LawfulTurn turn shown)
seek_turn turn shown = do
  next ← seek_same turn (shown + 1)
  seen ← seek_le 1 shown
  Some (record { next = next; seen = seen })

-- What is said of a turn that a call writes.
abbrev pub TurnsOn : Setting → Trace → Session → Submitted → ℕ → Type 0
TurnsOn st es s c turn = LawfulTurn turn (base_turn st.layout s.id (lease_calls st es s (spot_of_call st.layout c)))

abbrev pub seek_turns_on : (st : Setting) (es : Trace) (s : Session) (c : Submitted) (turn : ℕ) → Option (TurnsOn st es s c turn)
seek_turns_on st es s c turn = seek_turn turn (base_turn st.layout s.id (lease_calls st es s (spot_of_call st.layout c)))

abbrev pub seek_blocks : (st : Setting) (past : Trace) (e : Entry) → Option (LawfulBlock st past e)
seek_blocks st past e = do
  turns ← seek_each_call st (λ es s c. (turn : ℕ) → turn_written c ≡ Some turn → TurnsOn st es s c turn)
      (λ es s c. seek_for (TurnsOn st es s c) (turn_written c) (seek_turns_on st es s c)) past e
  writes ← seek_each_call st (λ es s c. (b : Block) → block_written c ≡ Some b → LawfulBlockWrite st es s c b)
      (λ es s c. seek_for (LawfulBlockWrite st es s c) (block_written c) (seek_block_write st es s c)) past e
  reads ← seek_each_call st (λ es s c. IsTrue (is_at Phase2_read c) → LawfulPhase2Read st es s (spot_of_call st.layout c) c)
      (λ es s c. seek_if (is_at Phase2_read c) (seek_phase2_read st es s (spot_of_call st.layout c) c)) past e
  Some (record { turns = turns; writes = writes; reads = reads })
