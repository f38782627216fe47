-- A move of another lockspace's connection, or its removal, that comes after a call changes nothing that the laws say of the call.
use Rattle.sl_due_facts.proofs.Acts.AddedAtEnd.{any_stays}
use Rattle.sl_run.specs.LawfulBlock.{AreaRead, BeginReason, Block_above, Freed_before, LawfulBlockStep, Leader_before, Leader_own, Lost_before, Own_block}
use Rattle.sl_run.specs.LawfulCalls.{may_submit}
use Rattle.sl_run.specs.LawfulDelta.{LawfulDeltaCall, LawfulJoinStep}
use Rattle.sl_run.specs.LawfulLeader.{LawfulFreeLeader, LawfulTake}
use Rattle.sl_trace.specs.Leases.{lease_step, spot_of_call}
use Rattle.sl_due_facts.proofs.AddedEffects.CallsGrow.{any_more}
use Rattle.sl_due_facts.specs.AddedEffects.CallIsLawful.{CallIsLawful}
use Rattle.sl_due_facts.specs.AddedEffects.OneMoreEffect.{with_move}
use Rattle.sl_sector.specs.declared.sector.Block.{Block}
use Rattle.sl_sector.specs.declared.sector.Leader.{Leader}
use Rattle.sl_trace.specs.Sessions.{calls_of, free_write, is_join_call, joined_after, leaving_job, recovery_of, refused_after, removed_after, stage_in, stage_of}
use Rattle.sl_trace.specs.declared.session.Session.{Session}
use Rattle.sl_trace.specs.WatchdogConnections.{registers_with, unregisters}
use Rattle.sl_trace.specs.Traces.{Setting, Submitted, Trace}
use Rattle.sl_trace.specs.declared.effects.Entry.{Entry}
use Rattle.sl_trace.specs.declared.effects.JoinStep.TheVariants.{ClaimWrite, DecidingRead, FirstRead, FirstRenewal, VerifyRead, WatchRead}
use Rattle.sl_trace.specs.declared.effects.JoinStep.{JoinStep}
use Rattle.sl_trace.specs.declared.effects.LeaseStep.TheVariants.{ClearMode, FreeLeader, Phase1Read, Phase1Write, Phase2Read, Phase2Write, ReadAgain, ReadArea, ReadBeforeBlock, ReadBeforeFree, SetMode, TakeLeader}
use Rattle.sl_trace.specs.declared.effects.LeaseStep.{LeaseStep}
use Rattle.sl_trace.specs.declared.effects.Move.{Move}
use Rattle.sl_trace.specs.declared.effects.Purpose.TheVariants.{Joining, Lease, Leaving, Renewal, RequestRead, RequestWrite, SeeRequest, Survey, ValueRead, ValueWrite}
use Rattle.sl_trace.specs.declared.effects.Purpose.{Purpose}
use Rattle.sl_trace.specs.declared.effects.Spot.{Spot}
use Rattle.sl_trace.specs.declared.effects.Work.{Work}
use Rattle.sl_run_law.proofs.Sessions.EndedAreSilent.{stage_by}
use Rattle.sl_words.proofs.CaseLaws.{true_is_false}
use Rattle.sl_words.specs.Words.{choose}
use Rattle.std.proofs.Common.{ap, subst, sym, ◌∙◌}
use Rattle.std.specs.Prelude.{Bool, IsTrue, MatchBool, None, Option, Some, false, is_none, is_some, length, true, ℕ, ◌&&◌, ◌+◌, ◌∷◌, ◌≡◌}

-- ---- it is not removed by it

same_removed : (m : Move) (e : Entry) (past : Trace) (s : Session) → unregisters s.lockspace m ≡ false → removed_after (with_move m e ∷ past) s ≡ removed_after (e ∷ past) s
same_removed m e past s other =
    ap (λ b. elim (removed_after past s) as (λ z. Option ℕ) [ Some k ↦ Some k | None ↦ choose (is_some (joined_after past s) && b) (length past + 1) ]) (any_more (unregisters s.lockspace) e.effects.moves m other)

same_stage : (m : Move) (e : Entry) (past : Trace) (s : Session) → unregisters s.lockspace m ≡ false → stage_of (with_move m e ∷ past) s ≡ stage_of (e ∷ past) s
same_stage m e past s other =
    ap (λ o. stage_by (joined_after (e ∷ past) s) o (refused_after (e ∷ past) s) (free_write (calls_of (e ∷ past) s)) (stage_in (calls_of (e ∷ past) s))) (same_removed m e past s other)

-- What is said of joined sessions, by whether it was removed.
abbrev by_removal : Trace → Session → Bool → Option ℕ → Bool
by_removal t s more o = is_some (joined_after t s) && is_none o && more

-- ---- law by law

join_moved : (st : Setting) (m : Move) (e : Entry) (past : Trace) (s : Session) (c : Submitted) (step : JoinStep) → unregisters s.lockspace m ≡ false → is_join_call FirstRead (Joining 0 step) ≡ false
    → LawfulJoinStep st (e ∷ past) s c step → LawfulJoinStep st (with_move m e ∷ past) s c step
join_moved st m e past s c FirstRead other plain h = absurd (true_is_false plain)
join_moved st m e past s c WatchRead other plain h = record { reads = h.reads; looking = same_stage m e past s other ∙ h.looking }
join_moved st m e past s c DecidingRead other plain h =
    record {
      reads = h.reads;
      looking = same_stage m e past s other ∙ h.looking;
      bytes = h.bytes;
      first = h.first;
      found = h.found;
      given = h.given;
      spelled = h.spelled;
      same = h.same;
      watched = h.watched;
      registered = any_stays (registers_with s.lockspace _) e.effects.moves m h.registered;
    }
join_moved st m e past s c ClaimWrite other plain h =
    record { deciding = same_stage m e past s other ∙ h.deciding; bytes = h.bytes; first = h.first; read = h.read; found = h.found; watched = h.watched; decided = h.decided; spelled = h.spelled; written = h.written }
join_moved st m e past s c VerifyRead other plain h =
    record {
      reads = h.reads;
      waiting = same_stage m e past s other ∙ h.waiting;
      claim = h.claim;
      answer = h.answer;
      claimed = h.claimed;
      answered = h.answered;
      unregistered = h.unregistered;
      waited = h.waited;
      in_time = h.in_time;
      registered = any_stays (registers_with s.lockspace _) e.effects.moves m h.registered;
    }
join_moved st m e past s c FirstRenewal other plain h = record { verifying = same_stage m e past s other ∙ h.verifying; claim = h.claim; read = h.read; claimed = h.claimed; verified = h.verified; written = h.written }

delta_moved : (st : Setting) (m : Move) (e : Entry) (past : Trace) (s : Session) (c : Submitted) (p : Purpose) → unregisters s.lockspace m ≡ false → is_join_call FirstRead p ≡ false
    → LawfulDeltaCall st (e ∷ past) s c p → LawfulDeltaCall st (with_move m e ∷ past) s c p
delta_moved st m e past s c (Joining j step) other plain h = join_moved st m e past s c step other plain h
delta_moved st m e past s c Renewal other plain h = record { standing = same_stage m e past s other ∙ h.standing; well = h.well; bitmap = h.bitmap; written = h.written }
delta_moved st m e past s c Survey other plain h = record { standing = same_stage m e past s other ∙ h.standing; whole = h.whole }
delta_moved st m e past s c (Leaving j) other plain h =
    record {
      standing = same_stage m e past s other ∙ h.standing;
      leaving = ap (λ o. by_removal (e ∷ past) s (is_some (leaving_job st (e ∷ past) s)) o) (same_removed m e past s other) ∙ h.leaving;
      well = h.well;
      no_holding = h.no_holding;
      no_call = h.no_call;
      written = h.written;
    }
delta_moved st m e past s c (Lease work step) other plain h = h
delta_moved st m e past s c (RequestRead j) other plain h = h
delta_moved st m e past s c (RequestWrite j o) other plain h = h
delta_moved st m e past s c SeeRequest other plain h = h
delta_moved st m e past s c (ValueWrite j) other plain h = h
delta_moved st m e past s c (ValueRead j) other plain h = h

abbrev read_moved : (st : Setting) (m : Move) (e : Entry) (past : Trace) (s : Session) (at : Spot) → AreaRead st (e ∷ past) s at → AreaRead st (with_move m e ∷ past) s at
read_moved st m e past s at r =
    record {
      read = r.read;
      blocks = r.blocks;
      leader = r.leader;
      resource = r.resource;
      of_lease = r.of_lease;
      after = r.after;
      before = r.before;
      split = r.split;
      gives = r.gives;
      spells = r.spells;
      names = r.names;
      whole = r.whole;
    }

reason_moved : (st : Setting) (m : Move) (e : Entry) (past : Trace) (s : Session) (at : Spot) (n : ℕ) → BeginReason st (e ∷ past) s at n → BeginReason st (with_move m e ∷ past) s at n
reason_moved st m e past s at n (Block_above r above b has is) = Block_above (read_moved st m e past s at r) above b has is
reason_moved st m e past s at n (Own_block b known is one) = Own_block b known is one
reason_moved st m e past s at n (Leader_before r is why) = Leader_before (read_moved st m e past s at r) is why
reason_moved st m e past s at n (Leader_own r is held own) = Leader_own (read_moved st m e past s at r) is held own
reason_moved st m e past s at n (Freed_before r below w has k frees is) = Freed_before (read_moved st m e past s at r) below w has k frees is
reason_moved st m e past s at n (Lost_before o k ended is over) = Lost_before o k ended is over

block_moved : (st : Setting) (m : Move) (e : Entry) (past : Trace) (s : Session) (at : Spot) (c : Submitted) (b : Block) (step : LeaseStep)
    → LawfulBlockStep st (e ∷ past) s at c b step → LawfulBlockStep st (with_move m e ∷ past) s at c b step
block_moved st m e past s at c b Phase1Write h =
    record { reason = reason_moved st m e past s at b.lver h.reason; own = h.own; known = h.known; not_below = h.not_below; not_freed = h.not_freed; written = h.written }
block_moved st m e past s at c b Phase2Write h =
    record {
      own = h.own;
      write = h.write;
      read = h.read;
      blocks = h.blocks;
      last = h.last;
      wrote = h.wrote;
      of_lease = h.of_lease;
      after = h.after;
      before = h.before;
      split = h.split;
      ordered = h.ordered;
      first_ordered = h.first_ordered;
      given = h.given;
      clear = h.clear;
      written = h.written;
    }
block_moved st m e past s at c b SetMode h = record { own = h.own; known = h.known; begun = h.begun; written = h.written }
block_moved st m e past s at c b ClearMode h = record { own = h.own; known = h.known; begun = h.begun; written = h.written }
block_moved st m e past s at c b (ReadArea name) h = h
block_moved st m e past s at c b ReadBeforeFree h = h
block_moved st m e past s at c b ReadBeforeBlock h = h
block_moved st m e past s at c b (ReadAgain read) h = h
block_moved st m e past s at c b Phase1Read h = h
block_moved st m e past s at c b Phase2Read h = h
block_moved st m e past s at c b TakeLeader h = h
block_moved st m e past s at c b FreeLeader h = h

block_at : (st : Setting) (m : Move) (e : Entry) (past : Trace) (s : Session) (at : Spot) (c : Submitted) (b : Block) (o : Option (Work × LeaseStep))
    → elim o as (λ z. Type 0) [ None ↦ ⊥ | Some p ↦ LawfulBlockStep st (e ∷ past) s at c b p.1 ] → elim o as (λ z. Type 0) [ None ↦ ⊥ | Some p ↦ LawfulBlockStep st (with_move m e ∷ past) s at c b p.1 ]
block_at st m e past s at c b None h = h
block_at st m e past s at c b (Some p) h = block_moved st m e past s at c b p.1 h

leader_by : (st : Setting) (m : Move) (e : Entry) (past : Trace) (s : Session) (at : Spot) (c : Submitted) (l : Leader) (held : Bool)
    → MatchBool held (LawfulTake st (e ∷ past) s at c l) (LawfulFreeLeader st (e ∷ past) s at c l) → MatchBool held (LawfulTake st (with_move m e ∷ past) s at c l) (LawfulFreeLeader st (with_move m e ∷ past) s at c l)
leader_by st m e past s at c l true h = record { step = h.step; won = h.won; not_freed = h.not_freed }
leader_by st m e past s at c l false h = record { step = h.step; won = h.won; not_held = h.not_held; alone = h.alone }

-- ---- all of them

pub moves_leave_calls : (st : Setting) (m : Move) (e : Entry) (past : Trace) (s : Session) (c : Submitted) → unregisters s.lockspace m ≡ false → is_join_call FirstRead c.call.purpose ≡ false
    → CallIsLawful st (e ∷ past) s c → CallIsLawful st (with_move m e ∷ past) s c
moves_leave_calls st m e past s c other plain h =
    record {
      alive = subst (λ g. IsTrue (may_submit g)) (sym (same_stage m e past s other)) h.alive;
      delta = delta_moved st m e past s c c.call.purpose other plain h.delta;
      placed = h.placed;
      apart = h.apart;
      active = λ area. active_moved (h.active area);
      writes = λ w says area. let a = h.writes w says area in (a.0, record { resource = a.1.resource; verified = a.1.verified; placed = a.1.placed; format = a.1.format; named = a.1.named });
      alone = h.alone;
      reads = h.reads;
      sees = h.sees;
      again = λ is. let a = h.again is in record { first = a.first; bytes = a.bytes; newest = a.newest; same = a.same; torn = a.torn };
      turn = h.turn;
      block = λ b says. block_at st m e past s (spot_of_call st.layout c) c b (lease_step c.call.purpose) (h.block b says);
      phase2 = λ reads. let a = h.phase2 reads in record { write = a.write; last = a.last; is_phase2 = a.is_phase2; ordered = a.ordered };
      leader = λ l says. let a = h.leader l says in record { own = a.own; names = a.names; ballot = leader_by st m e past s (spot_of_call st.layout c) c l l.held a.ballot };
      mode = λ b says. let a = h.mode b says in record { exact = a.exact; own = a.own };
      quiet = λ recovers. h.quiet (sym (ap (λ o. by_removal (e ∷ past) s (is_some (recovery_of st (e ∷ past) s)) o) (same_removed m e past s other)) ∙ recovers);
      few = λ leaves writes. h.few (sym (ap (λ o. by_removal (e ∷ past) s (is_some (leaving_job st (e ∷ past) s)) o) (same_removed m e past s other)) ∙ leaves) writes;
      value = λ v says. let a = h.value v says in record { holding = a.holding; held = a.held; version = a.version; alone = a.alone };
      value_read = λ j is. let a = h.value_read j is in record { held = a.held; alone = a.alone; whole = a.whole };
    } where
      active_moved : (is_some (joined_after (e ∷ past) s) && is_none (removed_after (e ∷ past) s) && is_none (recovery_of st (e ∷ past) s) && is_none (leaving_job st (e ∷ past) s)) ≡ true
          → (is_some (joined_after (e ∷ past) s) && is_none (removed_after (with_move m e ∷ past) s) && is_none (recovery_of st (e ∷ past) s) && is_none (leaving_job st (e ∷ past) s)) ≡ true
      active_moved a =
          ap (λ o. is_some (joined_after (e ∷ past) s) && is_none o && is_none (recovery_of st (e ∷ past) s) && is_none (leaving_job st (e ∷ past) s)) (same_removed m e past s other) ∙ a
