-- What the laws of areas, blocks and leaders ask of a call stands where its session has the same calls, is as active as it was, and holds
-- and counts no less.
use Rattle.sl_area.specs.AreaLayout.{leader_of}
use Rattle.sl_run.specs.LawfulBlock.{AreaRead, BeginReason, Block_above, Freed_before, LawfulBlockStep, LawfulTurn, Leader_before, Leader_own, Lost_before, Own_block}
use Rattle.sl_run.specs.LawfulLeader.{LawfulFreeLeader, LawfulTake, holds_under}
use Rattle.sl_due_leases.specs.Leases.LeaseLawful.{LeaseLawful}
use Rattle.sl_trace.specs.Ballots.{ballot_blocks, moded_block, owner_of, phase1_block, phase2_block, same_owner}
use Rattle.sl_trace.specs.Leases.{base_turn, block_written, ended_ballots, freed, is_lease_call, is_on, last_blocks, leaders_given, lease_calls, lease_step, own_block, spot_of_call}
use Rattle.sl_run.specs.LawfulArea.{HasVerified, IsLeaderGiven, is_area_work, is_block_work, is_leader_read}
use Rattle.sl_sector.specs.declared.sector.Block.{Block}
use Rattle.sl_sector.specs.declared.sector.Leader.{Leader}
use Rattle.sl_sector.specs.declared.sector.Owner.{Owner}
use Rattle.sl_trace.specs.Sessions.{calls_of, generation_in, is_active, joined_after, me}
use Rattle.sl_trace.specs.Sightings.{counted_over}
use Rattle.sl_trace.specs.declared.session.Session.{Session}
use Rattle.sl_trace.specs.Traces.{Setting, Submitted, Trace, gave, is_write, unanswered}
use Rattle.sl_trace.specs.declared.effects.LeaseStep.TheVariants.{ClearMode, FreeLeader, Phase1Read, Phase1Write, Phase2Read, Phase2Write, ReadAgain, ReadArea, ReadBeforeBlock, ReadBeforeFree, SetMode, TakeLeader}
use Rattle.sl_trace.specs.declared.effects.LeaseStep.{LeaseStep}
use Rattle.sl_trace.specs.declared.effects.Spot.{Spot}
use Rattle.sl_trace.specs.declared.effects.Work.{Work}
use Rattle.sl_words.specs.Words.{first_of_list, present}
use Rattle.std.proofs.Common.{ap, inl, inr, subst, sym, ◌∙◌}
use Rattle.std.specs.Prelude.{Bool, Contains, IsTrue, List, MatchBool, None, Option, Some, false, filter, filter_map, find, is_some, option_and_then, true, ℕ, ◌&&◌, ◌<◌, ◌≡◌, ◌⊎◌}

-- What stays of a session from one trace to the next.
pub record Carried (st : Setting) (t u : Trace) (s : Session) : Type 0 where
  pub calls : calls_of u s ≡ calls_of t s
  pub active : is_active st t s ≡ true → is_active st u s ≡ true
  pub joined : is_some (joined_after t s) ≡ true → is_some (joined_after u s) ≡ true
  pub over : (a b : ℕ) → counted_over st t s a b ≡ true → counted_over st u s a b ≡ true
  pub unheld : (at : Spot) (n : ℕ) → holds_under t s at n ≡ false → holds_under u s at n ≡ false

same_lease : (st : Setting) (t u : Trace) (s : Session) → Carried st t u s → (at : Spot) → lease_calls st t s at ≡ lease_calls st u s at
same_lease st t u s k at = ap (λ ms. filter (λ (m : Submitted). is_lease_call m && is_on st.layout at m.call) ms) (sym k.calls)

owner_by : Session → ℕ → Owner
owner_by s n = record { id = s.id; generation = n }

same_me : (st : Setting) (t u : Trace) (s : Session) → Carried st t u s → me t s ≡ me u s
unfolding owner_by
same_me st t u s k = ap (λ ms. owner_by s (generation_in s ms)) (sym k.calls)

-- What is asked of a session, by its calls.
abbrev leaders_by : Setting → Spot → List Submitted → List Leader
leaders_by st at ms = filter_map (λ (c : Submitted). option_and_then (leader_of st.layout) (gave c)) (filter (λ (c : Submitted). is_leader_read c.call.purpose && is_on st.layout at c.call) ms)

abbrev find_block : List Submitted → Option Submitted
find_block ms = find (λ (d : Submitted). is_some (block_written d)) ms

abbrev open_writes : Setting → Spot → List Submitted → List Submitted
open_writes st at ms = filter (λ (d : Submitted). is_area_work d.call.purpose && (is_write d.call.op && is_on st.layout at d.call)) (unanswered ms)

abbrev open_works : Setting → Spot → List Submitted → List Submitted
open_works st at ms = filter (λ (c : Submitted). is_area_work c.call.purpose && (is_block_work c && is_on st.layout at c.call)) (unanswered ms)

verified_carried : (st : Setting) (t u : Trace) (s : Session) → Carried st t u s → (at : Spot) (name : List ℕ) → HasVerified st t s at name → HasVerified st u s at name
verified_carried st t u s k at name h = (h.0, by h.1, h.2) where
  by : Contains (leaders_by st at (calls_of t s)) h.0 ⊎ IsLeaderGiven st t s at h.0 → Contains (leaders_by st at (calls_of u s)) h.0 ⊎ IsLeaderGiven st u s at h.0
  by (inl there) = inl (subst (λ ms. Contains (leaders_by st at ms) h.0) (sym k.calls) there)
  by (inr given) = inr (given.0, subst (λ ms. Contains (leaders_given st.layout ms) h.0) (same_lease st t u s k at) given.1)

abbrev read_carried : (st : Setting) (t u : Trace) (s : Session) → Carried st t u s → (at : Spot) → AreaRead st t s at → AreaRead st u s at
read_carried st t u s k at r =
    record {
      read = r.read;
      blocks = r.blocks;
      leader = r.leader;
      resource = r.resource;
      of_lease = (subst (λ ms. Contains ms r.read) (same_lease st t u s k at) r.of_lease.0, r.of_lease.1);
      after = r.after;
      before = r.before;
      split = sym (same_lease st t u s k at) ∙ r.split;
      gives = r.gives;
      spells = r.spells;
      names = r.names;
      whole = r.whole;
    }

done_carried : (st : Setting) (t u : Trace) (s : Session) → Carried st t u s → (l : Leader) → (l.held ≡ false) ⊎ IsTrue (counted_over st t s l.owner l.generation) → (l.held ≡ false) ⊎ IsTrue (counted_over st u s l.owner l.generation)
done_carried st t u s k l (inl free) = inl free
done_carried st t u s k l (inr over) = inr (k.over l.owner l.generation over)

reason_carried : (st : Setting) (t u : Trace) (s : Session) (k : Carried st t u s) (at : Spot) (n : ℕ) → BeginReason st t s at n → BeginReason st u s at n
reason_carried st t u s k at n (Block_above r above b has is) = Block_above (read_carried st t u s k at r) above b has is
reason_carried st t u s k at n (Own_block b known is one) = Own_block b (subst (λ ms. own_block st.layout s.id ms ≡ Some b) (same_lease st t u s k at) known) is one
reason_carried st t u s k at n (Leader_before r is why) = Leader_before (read_carried st t u s k at r) is (done_carried st t u s k r.leader why)
reason_carried st t u s k at n (Leader_own r is held own) = Leader_own (read_carried st t u s k at r) is held (subst (λ o. IsTrue (same_owner (owner_of r.leader) o)) (same_me st t u s k) own)
reason_carried st t u s k at n (Freed_before r below w has m frees is) = Freed_before (read_carried st t u s k at r) below w (subst (λ ms. Contains ms w) (same_lease st t u s k at) has) m frees is
reason_carried st t u s k at n (Lost_before o m ended is over) = Lost_before o m (subst (λ ms. Contains (ended_ballots st.layout ms) (m, o)) (same_lease st t u s k at) ended) is (k.over o.id o.generation over)

block_carried : (st : Setting) (t u : Trace) (s : Session) → Carried st t u s → (at : Spot) (c : Submitted) (b : Block) (step : LeaseStep) → LawfulBlockStep st t s at c b step → LawfulBlockStep st u s at c b step
block_carried st t u s k at c b Phase1Write h =
    record {
      reason = reason_carried st t u s k at b.lver h.reason;
      own = h.own;
      known = subst (λ ms. own_block st.layout s.id ms ≡ Some h.own) (same_lease st t u s k at) h.known;
      not_below = h.not_below;
      not_freed = subst (λ ms. freed ms < b.lver) (same_lease st t u s k at) h.not_freed;
      written = subst (λ ms. b ≡ phase1_block (me u s) st.layout.hosts b.lver b.shared b.mode_gen h.own (present (last_blocks st.layout ms))) (same_lease st t u s k at)
          (subst (λ o. b ≡ phase1_block o st.layout.hosts b.lver b.shared b.mode_gen h.own (present (last_blocks st.layout (lease_calls st t s at)))) (same_me st t u s k) h.written);
    }
block_carried st t u s k at c b Phase2Write h =
    record {
      own = h.own;
      write = h.write;
      read = h.read;
      blocks = h.blocks;
      last = ap (λ ms. find_block ms) (sym (same_lease st t u s k at)) ∙ h.last;
      wrote = h.wrote;
      of_lease = (subst (λ ms. Contains ms h.read) (same_lease st t u s k at) h.of_lease.0, h.of_lease.1);
      after = h.after;
      before = h.before;
      split = sym (same_lease st t u s k at) ∙ h.split;
      ordered = h.ordered;
      first_ordered = h.first_ordered;
      given = h.given;
      clear = h.clear;
      written = subst (λ o. b ≡ moded_block (phase2_block o h.own (ballot_blocks h.own h.blocks)) b.shared b.mode_gen) (same_me st t u s k) h.written;
    }
block_carried st t u s k at c b SetMode h =
    record { own = h.own; known = subst (λ ms. own_block st.layout s.id ms ≡ Some h.own) (same_lease st t u s k at) h.known; begun = h.begun; written = h.written }
block_carried st t u s k at c b ClearMode h =
    record { own = h.own; known = subst (λ ms. own_block st.layout s.id ms ≡ Some h.own) (same_lease st t u s k at) h.known; begun = h.begun; written = h.written }
block_carried st t u s k at c b (ReadArea name) h = h
block_carried st t u s k at c b ReadBeforeFree h = h
block_carried st t u s k at c b ReadBeforeBlock h = h
block_carried st t u s k at c b (ReadAgain read) h = h
block_carried st t u s k at c b Phase1Read h = h
block_carried st t u s k at c b Phase2Read h = h
block_carried st t u s k at c b TakeLeader h = h
block_carried st t u s k at c b FreeLeader h = h

block_at : (st : Setting) (t u : Trace) (s : Session) → Carried st t u s → (at : Spot) (c : Submitted) (b : Block) (o : Option (Work × LeaseStep))
    → elim o as (λ z. Type 0) [ None ↦ ⊥ | Some p ↦ LawfulBlockStep st t s at c b p.1 ] → elim o as (λ z. Type 0) [ None ↦ ⊥ | Some p ↦ LawfulBlockStep st u s at c b p.1 ]
block_at st t u s k at c b None h = h
block_at st t u s k at c b (Some p) h = block_carried st t u s k at c b p.1 h

won_carried : (st : Setting) (t u : Trace) (s : Session) → Carried st t u s → (at : Spot) (n : ℕ) → Contains (ended_ballots st.layout (lease_calls st t s at)) (n, me t s) → Contains (ended_ballots st.layout (lease_calls st u s at)) (n, me u s)
won_carried st t u s k at n h =
    subst (λ ms. Contains (ended_ballots st.layout ms) (n, me u s)) (same_lease st t u s k at) (subst (λ o. Contains (ended_ballots st.layout (lease_calls st t s at)) (n, o)) (same_me st t u s k) h)

leader_carried : (st : Setting) (t u : Trace) (s : Session) → Carried st t u s → (at : Spot) (c : Submitted) (l : Leader) (held : Bool)
    → MatchBool held (LawfulTake st t s at c l) (LawfulFreeLeader st t s at c l) → MatchBool held (LawfulTake st u s at c l) (LawfulFreeLeader st u s at c l)
leader_carried st t u s k at c l true h = record { step = h.step; won = won_carried st t u s k at l.lver h.won; not_freed = subst (λ ms. freed ms < l.lver) (same_lease st t u s k at) h.not_freed }
leader_carried st t u s k at c l false h =
    record { step = h.step; won = won_carried st t u s k at l.lver h.won; not_held = k.unheld at l.lver h.not_held; alone = ap (λ ms. open_writes st at ms) k.calls ∙ h.alone }

pub lawful_carried : (st : Setting) (t u : Trace) (s : Session) → Carried st t u s → (c : Submitted) → LeaseLawful st t s c → LeaseLawful st u s c
lawful_carried st t u s k c h =
    record {
      active = λ area. k.active (h.active area);
      writes = λ r is plain. let a = h.writes r is plain in (
        a.0,
        record { resource = a.1.resource; verified = verified_carried st t u s k (spot_of_call st.layout c) a.1.resource a.1.verified; placed = a.1.placed; format = a.1.format; named = a.1.named },
      );
      alone = λ works. ap (λ ms. open_works st (spot_of_call st.layout c) ms) k.calls ∙ h.alone works;
      reads = h.reads;
      sees = λ is. k.joined (h.sees is);
      again = λ is. let a = h.again is in record {
        first = a.first;
        bytes = a.bytes;
        newest = (ap (λ ms. first_of_list ms) (sym (same_lease st t u s k (spot_of_call st.layout c))) ∙ a.newest.0, a.newest.1);
        same = a.same;
        torn = a.torn;
      };
      turn = λ turn is. subst (λ ms. LawfulTurn turn (base_turn st.layout s.id ms)) (same_lease st t u s k (spot_of_call st.layout c)) (h.turn turn is);
      block = λ b is. block_at st t u s k (spot_of_call st.layout c) c b (lease_step c.call.purpose) (h.block b is);
      phase2 = λ at. let a = h.phase2 at in record { write = a.write; last = ap (λ ms. find_block ms) (sym (same_lease st t u s k (spot_of_call st.layout c))) ∙ a.last; is_phase2 = a.is_phase2; ordered = a.ordered };
      leader = λ l is. let a = h.leader l is in record {
        own = subst (λ o. IsTrue (same_owner (owner_of l) o)) (same_me st t u s k) a.own;
        names = (a.names.0, a.names.1, verified_carried st t u s k (spot_of_call st.layout c) l.resource a.names.2);
        ballot = leader_carried st t u s k (spot_of_call st.layout c) c l l.held a.ballot;
      };
    }
