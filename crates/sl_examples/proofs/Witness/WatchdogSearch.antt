-- Searches for the laws of the watchdog, of ends, of recovery and leaving, and of values, in a run in which no holding ends, no process exits,
-- and nobody recovers, leaves or writes a value.
use Rattle.sl_run.specs.LawfulEnd.{LawfulEnd}
use Rattle.sl_run.specs.LawfulExit.{LawfulExit}
use Rattle.sl_run.specs.LawfulParting.{LawfulParting, MayPart, is_leaving_write}
use Rattle.sl_run.specs.LawfulRecovery.{LawfulRecovery}
use Rattle.sl_run.specs.LawfulValue.{LawfulSetReply, LawfulValue, LawfulValueRead, LawfulValueReply, LawfulValueWrite}
use Rattle.sl_run.specs.LawfulConnections.{CoveredBy, LawfulWatchdog, acts_until, is_covered}
use Rattle.sl_run.specs.LawForms.{EachCall, EachSession}
use Rattle.sl_trace.specs.Leases.{spot_of_call, value_written}
use Rattle.sl_words.proofs.Lists.{contains_none}
use Rattle.sl_sector.specs.declared.sector.ValueRec.{ValueRec}
use Rattle.sl_trace.specs.Sessions.{calls_of, free_write, has_open_write, holdings_of, is_joined, is_leaving, is_present, is_recovering, leaving_job, leaving_of, recovery_of}
use Rattle.sl_trace.specs.declared.session.Session.{Session}
use Rattle.sl_trace.specs.WatchdogConnections.{connection_named, connections, registers, unregisters}
use Rattle.sl_trace.specs.Traces.{Setting, Submitted, Trace, is_write}
use Rattle.sl_trace.specs.declared.effects.Entry.{Entry}
use Rattle.sl_trace.specs.declared.effects.JobReply.{JobReply}
use Rattle.sl_trace.specs.declared.effects.Purpose.TheVariants.{ValueRead}
use Rattle.sl_trace.specs.declared.reply.Reply.TheVariants.{Value, ValueSet}
use Rattle.sl_examples.proofs.Witness.EachSearch.{seek_each_call, seek_each_session}
use Rattle.sl_examples.proofs.Witness.EqualitySearch.{is_exit, is_not_started, no_exit, no_failure, no_set_told, no_value_read, no_value_told, reads_value, tells_set, tells_value}
use Rattle.sl_examples.proofs.Witness.ProofSearch.{seek_all, seek_empty, seek_false, seek_if, seek_le, seek_none, seek_some, seek_true, ◌>>=◌}
use Rattle.sl_words.proofs.CaseLaws.{no_value, not_both}
use Rattle.std.proofs.Common.{inl, inr, subst}
use Rattle.std.specs.List.{list_any}
use Rattle.std.specs.Prelude.{Contains, IsFalse, IsTrue, List, None, Option, Some, [], false, is_some, true, ℕ, ◌||◌, ◌∷◌, ◌≡◌}

-- ---- the watchdog

abbrev pub seek_covered : (st : Setting) (es : Trace) (s : Session) → Option (CoveredBy st es s)
seek_covered st es s = do
  connection ← seek_some (connection_named (connections st es) s.lockspace)
  in_time ← seek_le connection.0.expiry (acts_until st es s)
  Some (record { connection = connection.0; registered = connection.1; in_time = in_time })

-- The entry neither registers nor removes the session's connection.
abbrev pub Lasts : Trace → Entry → Session → Type 0
Lasts past e s = IsTrue (is_covered past s) → IsTrue (is_covered (e ∷ past) s) → list_any (λ m. registers s.lockspace m || unregisters s.lockspace m) e.effects.moves ≡ false

abbrev pub seek_lasts : (past : Trace) (e : Entry) (s : Session) → Option (Lasts past e s)
seek_lasts past e s = do
  h ← seek_false (list_any (λ m. registers s.lockspace m || unregisters s.lockspace m) e.effects.moves)
  Some (λ was is. h)

-- Where the entry removes it, nothing is left.
abbrev pub RemovesWell : Trace → Entry → Session → Type 0
RemovesWell past e s = IsTrue (is_present past s) → IsTrue (list_any (unregisters s.lockspace) e.effects.moves)
    → (holdings_of (e ∷ past) s ≡ []) × (has_open_write (e ∷ past) s ≡ false)

pub not_removed : (past : Trace) (e : Entry) (s : Session) → IsFalse (list_any (unregisters s.lockspace) e.effects.moves) → RemovesWell past e s
not_removed past e s h present is = absurd (not_both (list_any (unregisters s.lockspace) e.effects.moves) is h)

abbrev pub seek_removes : (past : Trace) (e : Entry) (s : Session) → Option (RemovesWell past e s)
seek_removes past e s = do
  h ← seek_false (list_any (unregisters s.lockspace) e.effects.moves)
  Some (not_removed past e s h)

abbrev pub seek_watchdog : (st : Setting) (past : Trace) (e : Entry) → Option (LawfulWatchdog st past e)
seek_watchdog st past e = do
  stands ← seek_each_session st (λ s. IsTrue (is_covered (e ∷ past) s) → CoveredBy st (e ∷ past) s)
      (λ s. seek_if (is_covered (e ∷ past) s) (seek_covered st (e ∷ past) s)) (e ∷ past)
  lasting ← seek_each_session st (Lasts past e) (seek_lasts past e) past
  removals ← seek_each_session st (RemovesWell past e) (seek_removes past e) past
  Some (record { stands = stands; lasting = lasting; removals = removals })

-- ---- recovery and leaving

-- The session neither recovers nor leaves, and stays.
pub record GoesOn (st : Setting) (past : Trace) (e : Entry) (s : Session) : Type 0 where
  pub well : recovery_of st (e ∷ past) s ≡ None
  pub stays : leaving_job st (e ∷ past) s ≡ None
  pub no_leaving : leaving_of st (e ∷ past) s ≡ None
  pub joined : IsTrue (is_joined (e ∷ past) s)
  pub no_free : free_write (calls_of (e ∷ past) s) ≡ None

abbrev pub seek_goes_on : (st : Setting) (past : Trace) (e : Entry) (s : Session) → Option (GoesOn st past e s)
seek_goes_on st past e s = do
  well ← seek_none (recovery_of st (e ∷ past) s)
  stays ← seek_none (leaving_job st (e ∷ past) s)
  no_leaving ← seek_none (leaving_of st (e ∷ past) s)
  joined ← seek_true (is_joined (e ∷ past) s)
  no_free ← seek_none (free_write (calls_of (e ∷ past) s))
  Some (record { well = well; stays = stays; no_leaving = no_leaving; joined = joined; no_free = no_free })

nothing_there : {A : Type 0} (P : Type 0) (o : Option A) → o ≡ None → IsTrue (is_some o) → P
nothing_there P None none is = absurd cc
nothing_there P (Some a) none is = absurd cc

may_not_part : (st : Setting) (past : Trace) (e : Entry) (s : Session) → GoesOn st past e s → MayPart st past e s → is_joined (e ∷ past) s ≡ false
may_not_part st past e s g (inl h) = nothing_there _ (recovery_of st (e ∷ past) s) g.well h.0
may_not_part st past e s g (inr h) = absurd (no_value h.0 (free_write (calls_of (e ∷ past) s)) h.2 g.no_free)

pub parting_by : (st : Setting) (past : Trace) (e : Entry) → EachSession st (GoesOn st past e) past
    → EachCall st (λ es s c. IsTrue (is_recovering st es s) → is_write c.call.op ≡ false) past e
    → EachCall st (λ es s c. IsTrue (is_leaving st es s) → is_write c.call.op ≡ true → IsTrue (is_leaving_write c.call.purpose)) past e
    → LawfulParting st past e
parting_by st past e each quiet few =
    record { quiet = quiet; few = few; parts_well = λ s has was is. absurd (not_both (is_joined (e ∷ past) s) (each s has).joined is) }

pub recovery_by : (st : Setting) (past : Trace) (e : Entry) → EachSession st (GoesOn st past e) past → is_not_started e.input ≡ false → LawfulRecovery st past e
recovery_by st past e each started =
    record {
      recovers = λ s has b is at. absurd (no_value b (recovery_of st (e ∷ past) s) is (each s has).well);
      leaves = λ s has j is at. absurd (no_value j (leaving_job st (e ∷ past) s) is (each s has).stays);
      recovery_kills = λ s has b is. absurd (no_value b (recovery_of st (e ∷ past) s) is (each s has).well);
      leaving_kills = λ s has b is. absurd (no_value b (leaving_of st (e ∷ past) s) is (each s has).no_leaving);
      fails = λ c p is stands. absurd (no_failure e.input started c is);
      parts = λ s has was may. may_not_part st past e s (each s has) may;
    }

abbrev pub seek_few : (st : Setting) (es : Trace) (s : Session) (c : Submitted)
    → Option (IsTrue (is_leaving st es s) → is_write c.call.op ≡ true → IsTrue (is_leaving_write c.call.purpose))
seek_few st es s c = do
  h ← seek_false (is_leaving st es s)
  Some (λ is. absurd (not_both (is_leaving st es s) is h))

abbrev pub seek_parting : (st : Setting) (past : Trace) (e : Entry) → Option (LawfulParting st past e)
seek_parting st past e = do
  each ← seek_each_session st (GoesOn st past e) (seek_goes_on st past e) past
  quiet ← seek_each_call st (λ es s c. IsTrue (is_recovering st es s) → is_write c.call.op ≡ false)
      (λ es s c. seek_if (is_recovering st es s) (seek_false (is_write c.call.op))) past e
  few ← seek_each_call st (λ es s c. IsTrue (is_leaving st es s) → is_write c.call.op ≡ true → IsTrue (is_leaving_write c.call.purpose)) (seek_few st) past e
  Some (parting_by st past e each quiet few)

abbrev pub seek_recovery : (st : Setting) (past : Trace) (e : Entry) → Option (LawfulRecovery st past e)
seek_recovery st past e = do
  each ← seek_each_session st (GoesOn st past e) (seek_goes_on st past e) past
  started ← seek_false (is_not_started e.input)
  Some (recovery_by st past e each started)

-- ---- ends

pub ends_by : (st : Setting) (past : Trace) (e : Entry) → e.effects.ends ≡ [] → LawfulEnd st past e
ends_by st past e none = record { each = λ x has. absurd (contains_none x (subst (λ xs. Contains xs x) none has)) }

abbrev pub seek_ends : (st : Setting) (past : Trace) (e : Entry) → Option (LawfulEnd st past e)
seek_ends st past e = do
  none ← seek_empty e.effects.ends
  Some (ends_by st past e none)

pub exits_by : (past : Trace) (e : Entry) → is_exit e.input ≡ false → LawfulExit past e
exits_by past e none = record {
  ends = λ g has other is. absurd (no_exit e.input none g.process is);
  kept = λ g has other is persistent. absurd (no_exit e.input none g.process is);
}

abbrev pub seek_exits : (past : Trace) (e : Entry) → Option (LawfulExit past e)
seek_exits past e = do
  none ← seek_false (is_exit e.input)
  Some (exits_by past e none)

-- ---- values

abbrev pub seek_no_value : (st : Setting) (es : Trace) (s : Session) (c : Submitted)
    → Option ((v : ValueRec) → value_written c ≡ Some v → LawfulValueWrite st es s (spot_of_call st.layout c) v)
seek_no_value st es s c = do
  h ← seek_none (value_written c)
  Some (λ v is. absurd (no_value v (value_written c) is h))

abbrev pub seek_no_read : (st : Setting) (es : Trace) (s : Session) (c : Submitted)
    → Option ((j : ℕ) → c.call.purpose ≡ ValueRead j → LawfulValueRead st es s (spot_of_call st.layout c) c)
seek_no_read st es s c = do
  h ← seek_false (reads_value c.call.purpose)
  Some (λ j is. absurd (no_value_read c.call.purpose h j is))

-- A reply that tells no value.
abbrev pub TellsWell : Setting → Trace → Entry → JobReply → Type 0
TellsWell st past e a = (lver seq : ℕ) (bytes : List ℕ) → a.reply ≡ Value lver seq bytes → LawfulValueReply st past e a.job lver seq bytes

abbrev pub seek_tells : (st : Setting) (past : Trace) (e : Entry) (a : JobReply) → Option (TellsWell st past e a)
seek_tells st past e a = do
  h ← seek_false (tells_value a.reply)
  Some (λ lver seq bytes is. absurd (no_value_told a.reply h lver seq bytes is))

-- A reply that tells of no value that was written.
abbrev pub SetsWell : Trace → Entry → JobReply → Type 0
SetsWell past e a = (lver seq : ℕ) → a.reply ≡ ValueSet lver seq → LawfulSetReply past e a.job lver seq

abbrev pub seek_sets : (past : Trace) (e : Entry) (a : JobReply) → Option (SetsWell past e a)
seek_sets past e a = do
  h ← seek_false (tells_set a.reply)
  Some (λ lver seq is. absurd (no_set_told a.reply h lver seq is))

abbrev pub seek_values : (st : Setting) (past : Trace) (e : Entry) → Option (LawfulValue st past e)
seek_values st past e = do
  writes ← seek_each_call st (λ es s c. (v : ValueRec) → value_written c ≡ Some v → LawfulValueWrite st es s (spot_of_call st.layout c) v) (seek_no_value st) past e
  reads ← seek_each_call st (λ es s c. (j : ℕ) → c.call.purpose ≡ ValueRead j → LawfulValueRead st es s (spot_of_call st.layout c) c) (seek_no_read st) past e
  replies ← seek_all (TellsWell st past e) (seek_tells st past e) e.effects.replies
  sets ← seek_all (SetsWell past e) (seek_sets past e) e.effects.replies
  Some (record {
    writes = writes;
    reads = reads;
    replies = λ a lver seq bytes has is. replies a has lver seq bytes is;
    sets = λ a lver seq has is. sets a has lver seq is;
  })
