-- A search for what stands behind a shared grant: a ballot, then the block with the mode, then the leader's free.
use Rattle.sl_run.specs.LawfulModes.{AllShared, IsDone, LawfulSharedGrant, SharedByBallot, shared_since}
use Rattle.sl_trace.specs.Leases.{block_written, ended_ballot, is_again, is_free_write, lease_calls}
use Rattle.sl_sector.specs.declared.sector.Block.{Block}
use Rattle.sl_sector.specs.declared.sector.Owner.{Owner}
use Rattle.sl_trace.specs.Sessions.{generation_of, me}
use Rattle.sl_trace.specs.declared.session.Session.{Session}
use Rattle.sl_trace.specs.Traces.{Answered, Setting, Submitted, Trace}
use Rattle.sl_trace.specs.declared.effects.Spot.{Spot}
use Rattle.sl_examples.proofs.Witness.EqualitySearch.{seek_end, seek_written}
use Rattle.sl_examples.proofs.Witness.ProofSearch.{Split, seek_all, seek_any, seek_false, seek_for, seek_from, seek_if, seek_le, seek_same, seek_some, seek_split, seek_true, ◌>>=◌}
use Rattle.sl_words.proofs.CaseLaws.{not_both}
use Rattle.std.proofs.Common.{ap, inl, inr, ◌∙◌}
use Rattle.std.specs.Prelude.{Contains, IsFalse, IsTrue, List, Option, Some, false, true, ℕ, ◌≡◌, ◌≤◌}

-- ---- the ballot

-- The read, which is a first one, ended a ballot of n with the session.
abbrev pub Ends : Setting → Trace → Session → ℕ → Submitted → List Submitted → Type 0
Ends st es s n read before =
    (answer : Answered) × (read.answer ≡ Some answer) × IsFalse (is_again read) × (ended_ballot st.layout read before ≡ Some (n, me es s))

pub ends_so : (o : Option (ℕ × Owner)) (p q : ℕ × Owner) → o ≡ Some p → p ≡ q → o ≡ Some q
ends_so o p q is same = is ∙ ap (λ x. Some x) same

abbrev pub seek_ends_ballot : (st : Setting) (es : Trace) (s : Session) (n : ℕ) (read : Submitted) (before : List Submitted) → Option (Ends st es s n read before)
seek_ends_ballot st es s n read before = do
  ended ← seek_some (ended_ballot st.layout read before)
  same ← seek_end ended.0 n (me es s)
  once ← seek_false (is_again read)
  answer ← seek_some read.answer
  Some (answer.0, answer.1, once, ends_so (ended_ballot st.layout read before) ended.0 (n, me es s) ended.1 same)

-- ---- the mode

abbrev pub seek_done : (c : Submitted) → Option ((a : Answered) × IsDone c a)
seek_done c = do
  answer ← seek_some c.answer
  ok ← seek_written answer.0.answer
  Some (answer.0, (answer.1, ok))

-- What is said of a later block.
abbrev pub Keeps : Trace → Session → Submitted → Submitted → Type 0
Keeps es s mode d = mode.call.number ≤ d.call.number → (b : Block) → block_written d ≡ Some b → (b.shared ≡ true) × (b.mode_gen ≡ generation_of es s)

abbrev pub seek_keeps : (es : Trace) (s : Session) (mode d : Submitted) → Option (Keeps es s mode d)
seek_keeps es s mode d =
    seek_from mode.call.number d.call.number (seek_for (λ b. (b.shared ≡ true) × (b.mode_gen ≡ generation_of es s)) (block_written d) (λ b. do
      shared ← seek_true b.shared
      own ← seek_same b.mode_gen (generation_of es s)
      Some (shared, own)))

pub kept_by : (st : Setting) (es : Trace) (s : Session) (at : Spot) (mode : Submitted) → ((d : Submitted) → Contains (lease_calls st es s at) d → Keeps es s mode d)
    → AllShared st es s at mode
kept_by st es s at mode each d b within later is = each d within later b is

-- The session's mode of n, written after this entry.
pub record ShowsMode (st : Setting) (es : Trace) (s : Session) (at : Spot) (n since : ℕ) (mode : Submitted) : Type 0 where
  pub block : Block
  pub answer : Answered
  pub after : since ≤ mode.at
  pub written : block_written mode ≡ Some block
  pub mode_is : (block.shared ≡ true) × (block.mode_gen ≡ generation_of es s) × (block.lver ≡ n)
  pub done : IsDone mode answer
  pub kept : AllShared st es s at mode

abbrev pub seek_shows_mode : (st : Setting) (es : Trace) (s : Session) (at : Spot) (n since : ℕ) (mode : Submitted) → Option (ShowsMode st es s at n since mode)
seek_shows_mode st es s at n since mode = do
  after ← seek_le since mode.at
  block ← seek_some (block_written mode)
  shared ← seek_true block.0.shared
  own ← seek_same block.0.mode_gen (generation_of es s)
  lver ← seek_same block.0.lver n
  done ← seek_done mode
  kept ← seek_all (Keeps es s mode) (seek_keeps es s mode) (lease_calls st es s at)
  Some (record { block = block.0; answer = done.0; after = after; written = block.1; mode_is = (shared, own, lver); done = done.1; kept = kept_by st es s at mode kept })

-- ---- the free

-- What is said of another free.
abbrev pub GoesFirst : ℕ → Submitted → Submitted → Type 0
GoesFirst n free d = IsTrue (is_free_write n d) → free.call.number ≤ d.call.number

-- The first free of n, written after this entry.
pub record Frees (st : Setting) (es : Trace) (s : Session) (at : Spot) (n since : ℕ) (free : Submitted) : Type 0 where
  pub answer : Answered
  pub after : since ≤ free.at
  pub frees : IsTrue (is_free_write n free)
  pub done : IsDone free answer
  pub first : (d : Submitted) → Contains (lease_calls st es s at) d → GoesFirst n free d

abbrev pub seek_frees : (st : Setting) (es : Trace) (s : Session) (at : Spot) (n since : ℕ) (free : Submitted) → Option (Frees st es s at n since free)
seek_frees st es s at n since free = do
  after ← seek_le since free.at
  frees ← seek_true (is_free_write n free)
  done ← seek_done free
  first ← seek_all (GoesFirst n free) (λ d. seek_if (is_free_write n d) (seek_le free.call.number d.call.number)) (lease_calls st es s at)
  Some (record { answer = done.0; after = after; frees = frees; done = done.1; first = first })

-- ---- all of it

abbrev pub Ballot : Setting → Trace → Session → Spot → ℕ → Type 0
Ballot st es s at n = Split (Ends st es s n) (lease_calls st es s at)

abbrev pub Mode : (st : Setting) (es : Trace) (s : Session) (at : Spot) (n : ℕ) → Ballot st es s at n → Type 0
Mode st es s at n b = (c : Submitted) × Contains (lease_calls st es s at) c × ShowsMode st es s at n (b.is.0).at c

abbrev pub Free : (st : Setting) (es : Trace) (s : Session) (at : Spot) (n : ℕ) (b : Ballot st es s at n) → Mode st es s at n b → Type 0
Free st es s at n b m = (c : Submitted) × Contains (lease_calls st es s at) c × Frees st es s at n (m.2.answer).at c

pub by_ballot : (st : Setting) (es : Trace) (s : Session) (at : Spot) (n : ℕ) → shared_since 0 es s at ≡ false → (b : Ballot st es s at n) → 0 ≤ (b.one).at
    → (m : Mode st es s at n b) → Free st es s at n b m → SharedByBallot st es s at n
by_ballot st es s at n none b begun m f =
    record {
      since = 0;
      none_shared = none;
      read = b.one;
      mode = m.0;
      free = f.0;
      block = m.2.block;
      read_answer = b.is.0;
      mode_answer = m.2.answer;
      free_answer = f.2.answer;
      of_lease = (m.1, f.1);
      after = b.after;
      before = b.before;
      split = b.split;
      won = (begun, b.is.3);
      first_since = λ again first is. absurd (not_both (is_again b.one) again b.is.2);
      moded = (b.is.1, m.2.after, m.2.written, m.2.mode_is.0, m.2.mode_is.1, m.2.mode_is.2, m.2.done);
      freed = (f.2.after, f.2.frees, f.2.done);
      first = f.2.first;
      kept = m.2.kept;
    }

abbrev pub seek_by_ballot : (st : Setting) (es : Trace) (s : Session) (at : Spot) (n : ℕ) → Option (SharedByBallot st es s at n)
seek_by_ballot st es s at n = do
  none ← seek_false (shared_since 0 es s at)
  ballot ← seek_split (Ends st es s n) (seek_ends_ballot st es s n) (lease_calls st es s at)
  begun ← seek_le 0 ballot.one.at
  mode ← seek_any (ShowsMode st es s at n (ballot.is.0).at) (seek_shows_mode st es s at n (ballot.is.0).at) (lease_calls st es s at)
  free ← seek_any (Frees st es s at n (mode.2.answer).at) (seek_frees st es s at n (mode.2.answer).at) (lease_calls st es s at)
  Some (by_ballot st es s at n none ballot begun mode free)

pub beside_none : (st : Setting) (past es : Trace) (s : Session) (at : Spot) (n : ℕ) → SharedByBallot st es s at n → LawfulSharedGrant st past es s at n
beside_none st past es s at n h = inr (inl h)

-- The session's first shared grant of the resource.
abbrev pub seek_shared_grant : (st : Setting) (past es : Trace) (s : Session) (at : Spot) (n : ℕ) → Option (LawfulSharedGrant st past es s at n)
seek_shared_grant st past es s at n = do
  h ← seek_by_ballot st es s at n
  Some (beside_none st past es s at n h)
