-- A search for the law of leader writing.
use Rattle.sl_run.specs.LawfulArea.{HasVerified, leaders_read}
use Rattle.sl_run.specs.LawfulLeader.{HasWon, LawfulFreeLeader, LawfulLeader, LawfulLeaderWrite, LawfulTake, holds_under, open_writes_on}
use Rattle.sl_trace.specs.Ballots.{owner_of, same_owner}
use Rattle.sl_trace.specs.Leases.{Leader_freed, Leader_taken, ended_ballots, freed, is_at, is_leader_of, leader_written, lease_calls, spot_of_call}
use Rattle.sl_sector.specs.declared.sector.Leader.{Leader}
use Rattle.sl_sector.specs.declared.sector.Owner.{Owner}
use Rattle.sl_trace.specs.Sessions.{me}
use Rattle.sl_trace.specs.declared.session.Session.{Session}
use Rattle.sl_trace.specs.Traces.{Setting, Submitted, Trace}
use Rattle.sl_trace.specs.declared.effects.Entry.{Entry}
use Rattle.sl_trace.specs.declared.effects.Spot.{Spot}
use Rattle.sl_examples.proofs.Witness.EachSearch.{seek_each_call}
use Rattle.sl_examples.proofs.Witness.EqualitySearch.{seek_end}
use Rattle.sl_examples.proofs.Witness.ProofSearch.{seek_any, seek_by, seek_empty, seek_false, seek_for, seek_lt, seek_same, seek_text, seek_true, ◌>>=◌}
use Rattle.std.proofs.Common.{inl, subst}
use Rattle.std.specs.Prelude.{Contains, IsTrue, List, Option, Some, ℕ, ◌≡◌}

-- A leader that was read, of those that are read so in areas without pairs.
pub verified_by : (st : Setting) (es : Trace) (s : Session) (at : Spot) (resource : List ℕ)
    → (l : Leader) × Contains (leaders_read st es s at) l × IsTrue (is_leader_of st.layout s.lockspace resource l) → HasVerified st es s at resource
verified_by st es s at resource h = (h.0, inl h.1, h.2)

pub won_by : (st : Setting) (es : Trace) (s : Session) (at : Spot) (n : ℕ)
    → (p : ℕ × Owner) × Contains (ended_ballots st.layout (lease_calls st es s at)) p × (p ≡ (n, me es s)) → HasWon st es s at n
won_by st es s at n h = subst (Contains (ended_ballots st.layout (lease_calls st es s at))) h.2 h.1

abbrev pub seek_won : (st : Setting) (es : Trace) (s : Session) (at : Spot) (n : ℕ) → Option (HasWon st es s at n)
seek_won st es s at n = do
  h ← seek_any (λ p. p ≡ (n, me es s)) (λ p. seek_end p n (me es s)) (ended_ballots st.layout (lease_calls st es s at))
  Some (won_by st es s at n h)

abbrev pub seek_take : (st : Setting) (es : Trace) (s : Session) (at : Spot) (c : Submitted) (l : Leader) → Option (LawfulTake st es s at c l)
seek_take st es s at c l = do
  step ← seek_true (is_at Leader_taken c)
  won ← seek_won st es s at l.lver
  not_freed ← seek_lt (freed (lease_calls st es s at)) l.lver
  Some (record { step = step; won = won; not_freed = not_freed })

abbrev pub seek_free : (st : Setting) (es : Trace) (s : Session) (at : Spot) (c : Submitted) (l : Leader) → Option (LawfulFreeLeader st es s at c l)
seek_free st es s at c l = do
  step ← seek_true (is_at Leader_freed c)
  won ← seek_won st es s at l.lver
  not_held ← seek_false (holds_under es s at l.lver)
  alone ← seek_empty (open_writes_on st es s at)
  Some (record { step = step; won = won; not_held = not_held; alone = alone })

abbrev pub seek_names : (st : Setting) (es : Trace) (s : Session) (at : Spot) (resource : List ℕ) → Option (HasVerified st es s at resource)
seek_names st es s at resource = do
  h ← seek_any (λ l. IsTrue (is_leader_of st.layout s.lockspace resource l)) (λ l. seek_true (is_leader_of st.layout s.lockspace resource l)) (leaders_read st es s at)
  Some (verified_by st es s at resource h)

abbrev pub seek_leader_write : (st : Setting) (es : Trace) (s : Session) (at : Spot) (c : Submitted) (l : Leader) → Option (LawfulLeaderWrite st es s at c l)
seek_leader_write st es s at c l = do
  own ← seek_true (same_owner (owner_of l) (me es s))
  lockspace ← seek_text l.lockspace s.lockspace
  hosts ← seek_same l.num_hosts st.layout.hosts
  names ← seek_names st es s at l.resource
  ballot ← seek_by {P = LawfulTake st es s at c l} {Q = LawfulFreeLeader st es s at c l} l.held (seek_take st es s at c l) (seek_free st es s at c l)
  Some (record { own = own; names = (lockspace, hosts, names); ballot = ballot })

abbrev pub seek_leaders : (st : Setting) (past : Trace) (e : Entry) → Option (LawfulLeader st past e)
seek_leaders st past e = do
  writes ← seek_each_call st (λ es s c. (l : Leader) → leader_written c ≡ Some l → LawfulLeaderWrite st es s (spot_of_call st.layout c) c l)
      (λ es s c. seek_for (LawfulLeaderWrite st es s (spot_of_call st.layout c) c) (leader_written c) (seek_leader_write st es s (spot_of_call st.layout c) c)) past e
  Some (record { writes = writes })
