-- A search for the laws of modes and of grants.
use Rattle.sl_area.specs.AreaLayout.{is_base}
use Rattle.sl_run.specs.LawfulBlock.{ReadAfter}
use Rattle.sl_run.specs.LawfulGrant.{HasTaken, LawfulGrant, LawfulGrantTo, LawfulOrphan}
use Rattle.sl_run.specs.LawfulLeader.{HasWon}
use Rattle.sl_run.specs.LawfulModes.{LawfulExclusiveGrant, LawfulMode, LawfulModeGrant, LawfulModes, LawfulSharedGrant, NoneShared}
use Rattle.sl_trace.specs.Leases.{Mode_set, Phase1_write, block_of_host, block_written, blocks_given, freed, has_shared_on, is_again, is_at, is_block_read, leader_written, lease_calls, spot_of_call}
use Rattle.sl_sector.specs.declared.sector.Block.{Block}
use Rattle.sl_sector.specs.declared.sector.Leader.{Leader}
use Rattle.sl_trace.specs.Sessions.{generation_of, is_active, session_numbered}
use Rattle.sl_trace.specs.Sightings.{counted_over}
use Rattle.sl_trace.specs.declared.session.Session.{Session}
use Rattle.sl_trace.specs.Traces.{Setting, Submitted, Trace, held_by, holdings, is_answered_ok, is_orphan, is_shared, same_place, spot_of_grant}
use Rattle.sl_trace.specs.declared.effects.Entry.{Entry}
use Rattle.sl_trace.specs.declared.effects.Grant.{Grant}
use Rattle.sl_trace.specs.declared.effects.Spot.{Spot}
use Rattle.sl_examples.proofs.Witness.BlockSearch.{once_after, seek_read_after}
use Rattle.sl_examples.proofs.Witness.EachSearch.{seek_each_call}
use Rattle.sl_examples.proofs.Witness.LeaderSearch.{seek_won}
use Rattle.sl_examples.proofs.Witness.EqualitySearch.{seek_where_exclusive}
use Rattle.sl_examples.proofs.Witness.SharedSearch.{seek_shared_grant}
use Rattle.sl_examples.proofs.Witness.ProofSearch.{Split, seek_all, seek_any, seek_by, seek_false, seek_for, seek_lt, seek_same, seek_some, seek_split, seek_text, seek_true, seek_up_to, split_inside, ◌>>=◌}
use Rattle.sl_words.proofs.CaseLaws.{not_both}
use Rattle.sl_words.specs.Words.{present}
use Rattle.std.specs.Prelude.{Contains, IsFalse, IsSome, IsTrue, List, None, Option, Some, is_some, length, true, ℕ, ◌&&◌, ◌||◌, ◌∷◌, ◌≡◌, ◌≤◌}

-- ---- no shared mode

-- What is said of a block: it has no shared mode.
abbrev pub IsOver : Setting → Trace → Session → Block → Type 0
IsOver st es s b = (b.host ≡ s.id → ⊥) → b.shared ≡ true → IsTrue (counted_over st es s b.host b.mode_gen)

abbrev pub seek_over : (st : Setting) (es : Trace) (s : Session) (b : Block) → Option (IsOver st es s b)
seek_over st es s b = do
  h ← seek_false b.shared
  Some (λ other is. absurd (not_both b.shared is h))

pub none_shared_by : (st : Setting) (es : Trace) (s : Session) (blocks : List (Option Block))
    → ((b : Block) → Contains (present blocks) b → IsOver st es s b)
    → ((host : ℕ) → 1 ≤ host → host ≤ st.layout.hosts → (host ≡ s.id → ⊥) → IsSome (block_of_host blocks host)) → NoneShared st es s blocks
none_shared_by st es s blocks over whole = record { over = λ b has other is. over b has other is; whole = whole }

pub there_if_other : (blocks : List (Option Block)) (host id : ℕ) → IsSome (block_of_host blocks host) → (host ≡ id → ⊥) → IsSome (block_of_host blocks host)
there_if_other blocks host id h other = h

abbrev pub seek_none_shared : (st : Setting) (es : Trace) (s : Session) (blocks : List (Option Block)) → Option (NoneShared st es s blocks)
seek_none_shared st es s blocks = do
  over ← seek_all (IsOver st es s) (seek_over st es s) (present blocks)
  whole ← seek_up_to (λ host. (host ≡ s.id → ⊥) → IsSome (block_of_host blocks host))
      (λ host. do
        h ← seek_true (is_some (block_of_host blocks host))
        Some (there_if_other blocks host s.id h)) st.layout.hosts
  Some (none_shared_by st es s blocks over whole)

-- ---- an exclusive grant

-- The blocks from this call on have one number.
abbrev pub HasNumber : Submitted → Block → Submitted → Type 0
HasNumber write own d = (b : Block) → block_written d ≡ Some b → write.call.number ≤ d.call.number → b.mbal ≡ own.mbal

pub number_anyway : (write : Submitted) (own : Block) (d : Submitted) (b : Block) → b.mbal ≡ own.mbal → write.call.number ≤ d.call.number → b.mbal ≡ own.mbal
number_anyway write own d b h later = h

abbrev pub seek_number : (write : Submitted) (own : Block) (d : Submitted) → Option (HasNumber write own d)
seek_number write own d =
    seek_for (λ b. write.call.number ≤ d.call.number → b.mbal ≡ own.mbal) (block_written d) (λ b. do
      h ← seek_same b.mbal own.mbal
      Some (number_anyway write own d b h))

-- A read of blocks after this write, a first one.
abbrev pub ReadsThem : Setting → Trace → Session → Submitted → Submitted → List Submitted → Type 0
ReadsThem st es s write read before =
    (blocks : List (Option Block)) × IsTrue (is_block_read read) × IsFalse (is_again read) × ReadAfter write read × (blocks_given st.layout read before ≡ Some blocks)
    × NoneShared st es s blocks

abbrev pub seek_reads_them : (st : Setting) (es : Trace) (s : Session) (write read : Submitted) (before : List Submitted) → Option (ReadsThem st es s write read before)
seek_reads_them st es s write read before = do
  at ← seek_true (is_block_read read)
  once ← seek_false (is_again read)
  ordered ← seek_read_after write read
  blocks ← seek_some (blocks_given st.layout read before)
  none ← seek_none_shared st es s blocks.0
  Some (blocks.0, at, once, ordered, blocks.1, none)

-- A write of phase 1 in n, and what follows it.
abbrev pub Ballots : Setting → Trace → Session → Spot → ℕ → Submitted → Type 0
Ballots st es s at n write =
    (own : Block) × IsTrue (is_at Phase1_write write) × (block_written write ≡ Some own) × (own.lver ≡ n)
    × ((d : Submitted) → Contains (lease_calls st es s at) d → HasNumber write own d)
    × Split (ReadsThem st es s write) (lease_calls st es s at)

abbrev pub seek_ballots : (st : Setting) (es : Trace) (s : Session) (at : Spot) (n : ℕ) (write : Submitted) → Option (Ballots st es s at n write)
seek_ballots st es s at n write = do
  first ← seek_true (is_at Phase1_write write)
  own ← seek_some (block_written write)
  of_n ← seek_same own.0.lver n
  same ← seek_all (HasNumber write own.0) (seek_number write own.0) (lease_calls st es s at)
  read ← seek_split (ReadsThem st es s write) (seek_reads_them st es s write) (lease_calls st es s at)
  Some (own.0, first, own.1, of_n, same, read)

pub exclusive_by : (st : Setting) (es : Trace) (s : Session) (at : Spot) (n : ℕ) (write : Submitted) → Contains (lease_calls st es s at) write
    → Ballots st es s at n write → HasWon st es s at n → LawfulExclusiveGrant st es s at n
exclusive_by st es s at n write has h won =
    record {
      won = won;
      write = write;
      own = h.0;
      read = (h.5).one;
      blocks = (h.5).is.0;
      wrote = (has, h.1, h.2, h.3);
      of_lease = (split_inside (ReadsThem st es s write) (lease_calls st es s at) h.5, (h.5).is.1);
      after = (h.5).after;
      before = (h.5).before;
      split = (h.5).split;
      ordered = (h.5).is.3;
      first_ordered = once_after write (h.5).one (h.5).before (h.5).is.2;
      same_ballot = λ d b within is later. h.4 d within b is later;
      given = (h.5).is.4;
      none_shared = (h.5).is.5;
    }

abbrev pub seek_exclusive_grant : (st : Setting) (es : Trace) (s : Session) (at : Spot) (n : ℕ) → Option (LawfulExclusiveGrant st es s at n)
seek_exclusive_grant st es s at n = do
  won ← seek_won st es s at n
  write ← seek_any (Ballots st es s at n) (seek_ballots st es s at n) (lease_calls st es s at)
  Some (exclusive_by st es s at n write.0 write.1 write.2 won)

abbrev pub seek_mode_grant : (st : Setting) (past es : Trace) (s : Session) (g : Grant) → Option (LawfulModeGrant st past es s g)
seek_mode_grant st past es s g =
    seek_by {P = LawfulSharedGrant st past es s (spot_of_grant g) g.lver} {Q = LawfulExclusiveGrant st es s (spot_of_grant g) g.lver}
    (is_shared g.mode) (seek_shared_grant st past es s (spot_of_grant g) g.lver) (seek_exclusive_grant st es s (spot_of_grant g) g.lver)

-- ---- the mode of a block

pub no_mode_by : (st : Setting) (es : Trace) (s : Session) (c : Submitted) (b : Block) → IsFalse b.shared
    → IsFalse (has_shared_on es s (spot_of_call st.layout c) || is_at Mode_set c) → LawfulMode st es s c b
no_mode_by st es s c b none nor = record {
  exact = (λ h. absurd (not_both b.shared h none), λ h. absurd (not_both (has_shared_on es s (spot_of_call st.layout c) || is_at Mode_set c) h nor));
  own = λ h. absurd (not_both b.shared h none);
}

pub mode_by : (st : Setting) (es : Trace) (s : Session) (c : Submitted) (b : Block) → IsTrue b.shared
    → IsTrue (has_shared_on es s (spot_of_call st.layout c) || is_at Mode_set c) → b.mode_gen ≡ generation_of es s → LawfulMode st es s c b
mode_by st es s c b is so own = record { exact = (λ h. so, λ h. is); own = λ h. own }

abbrev pub seek_no_mode : (st : Setting) (es : Trace) (s : Session) (c : Submitted) (b : Block) → Option (LawfulMode st es s c b)
seek_no_mode st es s c b = do
  none ← seek_false b.shared
  nor ← seek_false (has_shared_on es s (spot_of_call st.layout c) || is_at Mode_set c)
  Some (no_mode_by st es s c b none nor)

abbrev pub seek_mode : (st : Setting) (es : Trace) (s : Session) (c : Submitted) (b : Block) → Option (LawfulMode st es s c b)
seek_mode st es s c b = elim (seek_true b.shared) [
  | None ↦ seek_no_mode st es s c b
  | Some is ↦ do
    so ← seek_true (has_shared_on es s (spot_of_call st.layout c) || is_at Mode_set c)
    own ← seek_same b.mode_gen (generation_of es s)
    Some (mode_by st es s c b is so own)
]

-- ---- the laws

-- What is said of a grant under its session.
abbrev pub OfGrant : Setting → (Session → Grant → Type 0) → Trace → Grant → Type 0
OfGrant st P es g = (s : Session) → session_numbered st es g.session ≡ Some s → P s g

pub each_grant_by : (st : Setting) (P : Session → Grant → Type 0) (es : Trace) (gs : List Grant) → ((g : Grant) → Contains gs g → OfGrant st P es g)
    → (g : Grant) (s : Session) → Contains gs g → session_numbered st es g.session ≡ Some s → P s g
each_grant_by st P es gs h g s has named = h g has s named

abbrev pub seek_each_grant : (st : Setting) (P : Session → Grant → Type 0) → ((s : Session) (g : Grant) → Option (P s g)) → (es : Trace) (gs : List Grant)
    → Option ((g : Grant) (s : Session) → Contains gs g → session_numbered st es g.session ≡ Some s → P s g)
seek_each_grant st P f es gs = do
  h ← seek_all (OfGrant st P es) (λ g. seek_for (λ s. P s g) (session_numbered st es g.session) (λ s. f s g)) gs
  Some (each_grant_by st P es gs h)

abbrev pub seek_modes : (st : Setting) (past : Trace) (e : Entry) → Option (LawfulModes st past e)
seek_modes st past e = do
  grants ← seek_each_grant st (λ s g. LawfulModeGrant st past (e ∷ past) s g) (λ s g. seek_mode_grant st past (e ∷ past) s g) (e ∷ past) e.effects.grants
  blocks ← seek_each_call st (λ es s c. (b : Block) → block_written c ≡ Some b → LawfulMode st es s c b)
      (λ es s c. seek_for (LawfulMode st es s c) (block_written c) (seek_mode st es s c)) past e
  Some (record { grants = grants; blocks = blocks })

-- What is said of another holding.
abbrev pub GoesBeside : Grant → Grant → Type 0
GoesBeside g h = IsTrue (same_place h.path h.offset g.path g.offset) → (h.process ≡ g.process → ⊥) → IsTrue (is_shared h.mode && is_shared g.mode)

pub of_one_process : (g h : Grant) → h.process ≡ g.process → GoesBeside g h
of_one_process g h same at other = absurd (other same)

abbrev pub seek_beside : (g h : Grant) → Option (GoesBeside g h)
seek_beside g h = do
  same ← seek_same h.process g.process
  Some (of_one_process g h same)

-- What is said of a call that takes the leader.
abbrev pub Takes : ℕ → Submitted → Type 0
Takes n c = (l : Leader) × (leader_written c ≡ Some l) × (l.held ≡ true) × (l.lver ≡ n) × IsTrue (is_answered_ok c)

abbrev pub seek_takes : (n : ℕ) (c : Submitted) → Option (Takes n c)
seek_takes n c = do
  l ← seek_some (leader_written c)
  held ← seek_true l.0.held
  lver ← seek_same l.0.lver n
  answered ← seek_true (is_answered_ok c)
  Some (l.0, l.1, held, lver, answered)

abbrev pub seek_taken : (st : Setting) (es : Trace) (s : Session) (at : Spot) (n : ℕ) → Option (HasTaken st es s at n)
seek_taken st es s at n = do
  c ← seek_any (Takes n) (seek_takes n) (lease_calls st es s at)
  Some (record { call = c.0; leader = c.2.0; of_lease = c.1; written = (c.2.1, c.2.2, c.2.3); answered = c.2.4 })

abbrev pub seek_grant_to : (st : Setting) (es : Trace) (s : Session) (g : Grant) → Option (LawfulGrantTo st es s g)
seek_grant_to st es s g = do
  active ← seek_true (is_active st es s)
  lockspace ← seek_text g.lockspace s.lockspace
  placed ← seek_true (is_base st.layout g.offset)
  alone ← seek_all (GoesBeside g) (seek_beside g) (holdings es)
  single ← seek_same (length (held_by (holdings es) g.process g.path g.offset)) 1
  taken ← seek_where_exclusive g.mode (seek_taken st es s (spot_of_grant g) g.lver)
  not_freed ← seek_where_exclusive g.mode (seek_lt (freed (lease_calls st es s (spot_of_grant g))) g.lver)
  Some (record {
    active = λ other. active;
    lockspace = lockspace;
    placed = placed;
    alone = alone;
    single = single;
    taken = taken;
    not_freed = not_freed;
  })

-- The grant is no orphan.
abbrev pub NoOrphan : Trace → Entry → Grant → Type 0
NoOrphan past e g = IsTrue (is_orphan g) → LawfulOrphan past e g

pub of_a_process : (past : Trace) (e : Entry) (g : Grant) → IsFalse (is_orphan g) → NoOrphan past e g
of_a_process past e g none is = absurd (not_both (is_orphan g) is none)

abbrev pub seek_no_orphan : (past : Trace) (e : Entry) (g : Grant) → Option (NoOrphan past e g)
seek_no_orphan past e g = do
  h ← seek_false (is_orphan g)
  Some (of_a_process past e g h)

abbrev pub seek_grants : (st : Setting) (past : Trace) (e : Entry) → Option (LawfulGrant st past e)
seek_grants st past e = do
  owned ← seek_all (λ g. IsSome (session_numbered st (e ∷ past) g.session)) (λ g. seek_true (is_some (session_numbered st (e ∷ past) g.session))) e.effects.grants
  each ← seek_each_grant st (λ s g. LawfulGrantTo st (e ∷ past) s g) (λ s g. seek_grant_to st (e ∷ past) s g) (e ∷ past) e.effects.grants
  orphans ← seek_all (NoOrphan past e) (seek_no_orphan past e) e.effects.grants
  Some (record { owned = owned; each = each; orphans = λ g has is. orphans g has is })
