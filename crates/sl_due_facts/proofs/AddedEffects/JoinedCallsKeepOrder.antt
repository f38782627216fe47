-- A joined session makes one more call, which is no step of a joining: what was lawful so far stays so.
use Rattle.sl_due_facts.proofs.Acts.AddedAtEnd.{contains_at, contains_last}
use Rattle.sl_run.specs.Lawful.{Orderly}
use Rattle.sl_run.specs.LawfulArea.{LawfulAgain, LawfulAreaWrite, LawfulLeaseRead, is_area_work, is_block_work, is_delta_record, open_block_work}
use Rattle.sl_run.specs.LawfulBlock.{LawfulBlockWrite, LawfulPhase2Read, LawfulTurn}
use Rattle.sl_run.specs.LawfulCalls.{may_submit}
use Rattle.sl_run.specs.LawfulDelta.{LawfulDeltaCall, LawfulJoin, is_on_own_sector}
use Rattle.sl_run.specs.LawfulEnd.{Converted, EndReason, Exited, Given_up, Not_started, Taken_over}
use Rattle.sl_run.specs.LawfulLeader.{LawfulLeaderWrite}
use Rattle.sl_run.specs.LawfulModes.{LawfulMode}
use Rattle.sl_run.specs.LawfulParting.{MayPart, is_leaving_write}
use Rattle.sl_run.specs.LawfulValue.{LawfulValueRead, LawfulValueWrite}
use Rattle.sl_run.specs.LawfulConnections.{CoveredBy, LawfulWatchdog, is_covered}
use Rattle.sl_run.specs.LawForms.{EachCall}
use Rattle.sl_trace.specs.Leases.{Phase2_read, base_turn, block_written, is_again, is_at, leader_written, lease_calls, spot_of_call, turn_written, value_written}
use Rattle.sl_due_facts.proofs.AddedEffects.CallsGrow.{each_more, mine_more, next_more, others_stay, same_sessions}
use Rattle.sl_due_facts.specs.AddedEffects.CallIsLawful.{CallIsLawful}
use Rattle.sl_due_facts.specs.AddedEffects.OneMoreEffect.{JoinedCall}
use Rattle.sl_words.proofs.Lists.{contains_more, contains_none, got_before, got_inside, head_is, tail_is}
use Rattle.sl_sector.specs.Records.{IsRecord}
use Rattle.sl_sector.specs.declared.sector.Block.{Block}
use Rattle.sl_sector.specs.declared.sector.Leader.{Leader}
use Rattle.sl_sector.specs.declared.sector.Rec.{Rec}
use Rattle.sl_sector.specs.declared.sector.ValueRec.{ValueRec}
use Rattle.sl_trace.specs.Sessions.{begun_in, calls_of, free_write, has_open_delta, has_open_write, is_active, is_covered_stage, is_delta_purpose, is_join_call, is_joined, is_leaving, is_recovering, is_survey_purpose, join_call, joined_after, refused_after, removed_after, session_numbered, sessions, stage_in, stage_of}
use Rattle.sl_trace.specs.declared.session.Session.{Session}
use Rattle.sl_trace.specs.declared.stage.Stage.{Stage}
use Rattle.sl_trace.specs.WatchdogConnections.{unregisters}
use Rattle.sl_trace.specs.TraceLaws.{with_call}
use Rattle.sl_trace.specs.Traces.{FollowsTrace, Setting, Submitted, Trace, is_write, new_call, next_call, record_of, unanswered}
use Rattle.sl_trace.specs.declared.effects.Call.{Call}
use Rattle.sl_trace.specs.declared.effects.Entry.{Entry}
use Rattle.sl_trace.specs.declared.effects.Grant.{Grant}
use Rattle.sl_trace.specs.declared.effects.JoinStep.TheVariants.{FirstRenewal}
use Rattle.sl_trace.specs.declared.effects.JoinStep.{JoinStep}
use Rattle.sl_trace.specs.declared.effects.Purpose.TheVariants.{SeeRequest, ValueRead}
use Rattle.sl_run_law.proofs.Leases.NumberLaws.{number_is_place}
use Rattle.sl_run_law.proofs.Sessions.EndedAreSilent.{stage_by}
use Rattle.sl_words.proofs.CaseLaws.{false_is_true, not_both, one_value, true_or_false}
use Rattle.std.proofs.Common.{ap, arith, inl, inr, refl, subst, sym, tests, ◌∙◌}
use Rattle.std.specs.List.{list_any, range_with_len}
use Rattle.std.specs.Prelude.{Bool, Contains, IsFalse, IsSome, IsTrue, List, None, Option, Some, cond, false, is_none, is_some, length, map, not, slice_get, true, [], ℕ, ◌&&◌, ◌++◌, ◌+◌, ◌==◌, ◌||◌, ◌∷◌, ◌≡◌, ◌⊎◌}

same_number : (a b : ℕ) → (a == b) ≡ true → a ≡ b
same_number a b h = grind (arith, tests)

-- A session that has the number of one that the trace has is that one.
pub one_number : (st : Setting) (t : Trace) (n : ℕ) (s x : Session) → session_numbered st t n ≡ Some s → Contains (sessions st t) x → (n == x.number) ≡ true → x ≡ s
one_number st t n s x its there same =
    let at = contains_at (sessions st t) x there in
    let place : x.number ≡ at.0 = number_is_place st t at.0 x at.1 in
    one_value x s (slice_get (sessions st t) n) (ap (λ k. slice_get (sessions st t) k) (same_number n x.number same ∙ place) ∙ at.1) its

-- ---- covered

abbrev covered_with : Trace → Session → List Submitted → Bool
covered_with t s ms =
    is_covered_stage (stage_by (joined_after t s) (removed_after t s) (refused_after t s) (free_write ms) (stage_in ms)) || is_some (refused_after t s) && list_any (λ (m : Submitted). is_write m.call.op) (unanswered ms)

same_cover : (past : Trace) (e : Entry) (c : Call) (x : Session) → (c.session == x.number) ≡ false → is_covered (with_call c e ∷ past) x ≡ is_covered (e ∷ past) x
same_cover past e c x other = ap (λ ms. covered_with (e ∷ past) x ms) (others_stay e past c x other)

same_writes : (past : Trace) (e : Entry) (c : Call) (x : Session) → (c.session == x.number) ≡ false → has_open_write (with_call c e ∷ past) x ≡ has_open_write (e ∷ past) x
same_writes past e c x other = ap (λ ms. list_any (λ (m : Submitted). is_write m.call.op) (unanswered ms)) (others_stay e past c x other)

joined_covers : (joined removed refused : Option ℕ) (free : Option Submitted) (joining : Stage) (rest : Bool) → (is_some joined && is_none removed) ≡ true
    → (is_covered_stage (stage_by joined removed refused free joining) || rest) ≡ true
joined_covers (Some k) None refused (Some m) joining rest is = refl
joined_covers (Some k) None refused None joining rest is = refl
joined_covers (Some k) (Some i) refused free joining rest is = absurd (false_is_true is)
joined_covers None removed refused free joining rest is = absurd (false_is_true is)

pub joined_is_covered : (t : Trace) (s : Session) → is_joined t s ≡ true → is_covered t s ≡ true
joined_is_covered t s is =
    joined_covers (joined_after t s) (removed_after t s) (refused_after t s) (free_write (calls_of t s)) (stage_in (calls_of t s)) (is_some (refused_after t s) && has_open_write t s) is

-- ---- the laws

cover_back : (st : Setting) (past : Trace) (e : Entry) (c : Call) (s : Session) → JoinedCall st past e c s → (x : Session) → (x ≡ s) ⊎ ((c.session == x.number) ≡ false)
    → is_covered (with_call c e ∷ past) x ≡ true → is_covered (e ∷ past) x ≡ true
cover_back st past e c s j x (inl is) covers = subst (λ y. is_covered (e ∷ past) y ≡ true) (sym is) (joined_is_covered (e ∷ past) s j.joined)
cover_back st past e c s j x (inr other) covers = sym (same_cover past e c x other) ∙ covers

still_there : (st : Setting) (past : Trace) (e : Entry) (x : Session) → Contains (sessions st past) x → Contains (sessions st (e ∷ past)) x
still_there st past e x there = in_front (sessions st past) (begun_in st past (length (sessions st past)) e) x there where
  in_front : {A : Type 0} (xs ys : List A) (d : A) → Contains xs d → Contains (xs ++ ys) d
  in_front xs ys d there = let at = contains_at xs d there in got_inside (xs ++ ys) at.0 d (got_before xs ys at.0 d at.1)

mine_or_other : (st : Setting) (past : Trace) (e : Entry) (c : Call) (s x : Session) → JoinedCall st past e c s → Contains (sessions st (e ∷ past)) x → (x ≡ s) ⊎ ((c.session == x.number) ≡ false)
mine_or_other st past e c s x j there = by (true_or_false (c.session == x.number)) where
  by : ((c.session == x.number) ≡ true) ⊎ ((c.session == x.number) ≡ false) → (x ≡ s) ⊎ ((c.session == x.number) ≡ false)
  by (inl same) = inl (one_number st (e ∷ past) c.session s x j.its there same)
  by (inr other) = inr other

-- A session of the trace with the call is one of the trace before it.
known_before : (st : Setting) (past : Trace) (e : Entry) (c : Call) (s x : Session) → JoinedCall st past e c s → Contains (sessions st (with_call c e ∷ past)) x → Contains (sessions st (e ∷ past)) x
known_before st past e c s x j there = subst (λ ss. Contains ss x) (same_sessions st e past c j.no_look) there

-- It joined as it did.
skips : (m : Submitted) (ms : List Submitted) (step : JoinStep) → is_join_call step m.call.purpose ≡ false → join_call (m ∷ ms) step ≡ join_call ms step
skips m ms step other = ap (λ b. cond b (Some m) (join_call ms step)) other

same_first : (past : Trace) (e : Entry) (c : Call) (x : Session) → is_join_call FirstRenewal c.purpose ≡ false → join_call (calls_of (with_call c e ∷ past) x) FirstRenewal ≡ join_call (calls_of (e ∷ past) x) FirstRenewal
same_first past e c x other = by (true_or_false (c.session == x.number)) where
  by : ((c.session == x.number) ≡ true) ⊎ ((c.session == x.number) ≡ false) → join_call (calls_of (with_call c e ∷ past) x) FirstRenewal ≡ join_call (calls_of (e ∷ past) x) FirstRenewal
  by (inl mine) = ap (λ ms. join_call ms FirstRenewal) (mine_more e past c x mine) ∙ skips (new_call (length past) e.reading c) (calls_of (e ∷ past) x) FirstRenewal other
  by (inr others) = ap (λ ms. join_call ms FirstRenewal) (others_stay e past c x others)

joined_so : (past : Trace) (e : Entry) (c : Call) (x : Session) (k : ℕ) → is_join_call FirstRenewal c.purpose ≡ false → LawfulJoin (e ∷ past) x k → LawfulJoin (with_call c e ∷ past) x k
joined_so past e c x k other l = record { renewal = l.renewal; answer = l.answer; first = same_first past e c x other ∙ l.first; done = l.done }

-- Its connection covers it as it did.
watched : (st : Setting) (past : Trace) (e : Entry) (c : Call) (s : Session) → JoinedCall st past e c s → LawfulWatchdog st past e → LawfulWatchdog st past (with_call c e)
watched st past e c s j w =
    record {
      stands = λ x there covers.
          let before = known_before st past e c s x j there in
          let old : CoveredBy st (e ∷ past) x = w.stands x before (cover_back st past e c s j x (mine_or_other st past e c s x j before) covers) in
          record { connection = old.connection; registered = old.registered; in_time = old.in_time };
      lasting = λ x there was covers. w.lasting x there was (cover_back st past e c s j x (mine_or_other st past e c s x j (still_there st past e x there)) covers);
      removals = λ x there present removed.
          let old = w.removals x there present removed in
          (old.0, unwritten x (mine_or_other st past e c s x j (still_there st past e x there)) removed old.1);
    } where
      unwritten : (x : Session) → (x ≡ s) ⊎ ((c.session == x.number) ≡ false) → list_any (unregisters x.lockspace) e.effects.moves ≡ true → has_open_write (e ∷ past) x ≡ false
          → has_open_write (with_call c e ∷ past) x ≡ false
      unwritten x (inl is) removed none = absurd (not_both (list_any (unregisters x.lockspace) e.effects.moves) removed (subst (λ (y : Session). list_any (unregisters y.lockspace) e.effects.moves ≡ false) (sym is) j.stays))
      unwritten x (inr other) removed none = same_writes past e c x other ∙ none

-- And it ends as it did.
parts_as : (st : Setting) (past : Trace) (e : Entry) (c : Call) (x : Session) → (c.session == x.number) ≡ false → MayPart st past e x → MayPart st past (with_call c e) x
parts_as st past e c x other (inl ends) = inl (ends.0, ends.1, same_writes past e c x other ∙ ends.2)
parts_as st past e c x other (inr free) = inr (free.0, free.1, ap (λ ms. free_write ms) (others_stay e past c x other) ∙ free.2, free.3)

parts : (st : Setting) (past : Trace) (e : Entry) (c : Call) (s x : Session) → JoinedCall st past e c s → (x ≡ s) ⊎ ((c.session == x.number) ≡ false)
    → is_joined (e ∷ past) x ≡ false → MayPart st past e x → MayPart st past (with_call c e) x
parts st past e c s x j (inl is) left part = absurd (not_both (is_joined (e ∷ past) x) (subst (λ y. is_joined (e ∷ past) y ≡ true) (sym is) j.joined) left)
parts st past e c s x j (inr other) left part = parts_as st past e c x other part

-- Its ends, and what is told of values that were set, are as they were.
same_reason : (st : Setting) (e : Entry) (c : Call) (g : Grant) → EndReason st e g → EndReason st (with_call c e) g
same_reason st e c g (Exited own exits) = Exited own exits
same_reason st e c g (Not_started input) = Not_started input
same_reason st e c g (Given_up text line gives) = Given_up text line gives
same_reason st e c g (Converted h there place process persistent) = Converted h there place process persistent
same_reason st e c g (Taken_over h there place text line takes) = Taken_over h there place text line takes

call_stays : (past : Trace) (e : Entry) (c : Call) (x : Session) (m : Submitted) → Contains (calls_of (e ∷ past) x) m → Contains (calls_of (with_call c e ∷ past) x) m
call_stays past e c x m there = by (true_or_false (c.session == x.number)) where
  by : ((c.session == x.number) ≡ true) ⊎ ((c.session == x.number) ≡ false) → Contains (calls_of (with_call c e ∷ past) x) m
  by (inl mine) = subst (λ ms. Contains ms m) (sym (mine_more e past c x mine)) (contains_more (new_call (length past) e.reading c) (calls_of (e ∷ past) x) m there)
  by (inr others) = subst (λ ms. Contains ms m) (sym (others_stay e past c x others)) there

-- ---- the numbers of calls

numbers_on : (cs : List Call) (c : Call) (n : ℕ) → map (λ d. d.number) cs ≡ range_with_len n (length cs) → c.number ≡ n + length cs
    → map (λ d. d.number) (cs ++ c ∷ []) ≡ range_with_len n (length (cs ++ c ∷ []))
numbers_on [] c n old next = ap (λ k. k ∷ []) (next ∙ omega arith)
numbers_on (d ∷ cs) c n old next =
    let first : d.number ≡ n = head_is d.number n (map (λ (b : Call). b.number) cs) (range_with_len (n + 1) (length cs)) old in
    let rest : map (λ (b : Call). b.number) cs ≡ range_with_len (n + 1) (length cs) = tail_is d.number n (map (λ (b : Call). b.number) cs) (range_with_len (n + 1) (length cs)) old in
    ap (λ k. k ∷ map (λ (b : Call). b.number) (cs ++ c ∷ [])) first ∙ ap (λ ks. n ∷ ks) (numbers_on cs c (n + 1) rest (next ∙ omega arith))

-- ---- the whole

pub joined_calls_keep_order : (st : Setting) (past : Trace) (e : Entry) (c : Call) (s : Session) → JoinedCall st past e c s → Orderly st (e ∷ past) → Orderly st (with_call c e ∷ past)
joined_calls_keep_order st past e c s j h =
    record {
      is_trace = (record { time = follows.time; below = follows.below; expected = follows.expected; numbered = numbers_on e.effects.calls c (next_call st past) follows.numbered next }, h.is_trace.1);
      calls = (
        record {
          owned = λ d there. owned d (contains_last e.effects.calls c d there);
          alive = each (λ t x d. IsTrue (may_submit (stage_of t x))) h.calls.0.alive (λ x k. k.alive);
          spelled = λ d w there writes. spelled d w (contains_last e.effects.calls c d there) writes;
        },
        h.calls.1,
      );
      delta = (
        record {
          calls = each (λ t x d. LawfulDeltaCall st t x d d.call.purpose) h.delta.0.calls (λ x k. k.delta);
          placed = each (λ t x d. IsTrue (is_delta_purpose d.call.purpose && not (is_survey_purpose d.call.purpose)) → IsTrue (is_on_own_sector st x d)) h.delta.0.placed (λ x k. k.placed);
          joins = λ x there n k for_job at. joined_so past e c x k j.no_first (h.delta.0.joins x (known_before st past e c s x j there) n k for_job at);
          alone = each (λ t x d. IsTrue (is_delta_purpose d.call.purpose) → has_open_delta t x ≡ false) h.delta.0.alone (λ x k. k.apart);
        },
        h.delta.1,
      );
      area = (
        record {
          active = each (λ t x d. IsTrue (is_area_work d.call.purpose) → IsTrue (is_active st t x)) h.area.0.active (λ x k. k.active);
          writes = each (λ t x d. (w : Rec) → record_of d.call.op ≡ Some w → IsFalse (is_delta_record w) → IsTrue (is_area_work d.call.purpose) × LawfulAreaWrite st t x d w) h.area.0.writes (λ x k. k.writes);
          alone = each (λ t x d. IsTrue (is_block_work d && is_area_work d.call.purpose) → open_block_work st t x (spot_of_call st.layout d) ≡ []) h.area.0.alone (λ x k. k.alone);
          reads = each (λ t x d. LawfulLeaseRead st d) h.area.0.reads (λ x k. k.reads);
          sees = each (λ t x d. d.call.purpose ≡ SeeRequest → IsTrue (is_some (joined_after t x))) h.area.0.sees (λ x k. k.sees);
          agains = each (λ t x d. IsTrue (is_again d) → LawfulAgain st t x (spot_of_call st.layout d) d) h.area.0.agains (λ x k. k.again);
        },
        h.area.1,
      );
      block = (
        record {
          turns = each (λ t x d. (turn : ℕ) → turn_written d ≡ Some turn → LawfulTurn turn (base_turn st.layout x.id (lease_calls st t x (spot_of_call st.layout d)))) h.block.0.turns (λ x k. k.turn);
          writes = each (λ t x d. (b : Block) → block_written d ≡ Some b → LawfulBlockWrite st t x d b) h.block.0.writes (λ x k. k.block);
          reads = each (λ t x d. IsTrue (is_at Phase2_read d) → LawfulPhase2Read st t x (spot_of_call st.layout d) d) h.block.0.reads (λ x k. k.phase2);
        },
        h.block.1,
      );
      leader = (record { writes = each (λ t x d. (l : Leader) → leader_written d ≡ Some l → LawfulLeaderWrite st t x (spot_of_call st.layout d) d l) h.leader.0.writes (λ x k. k.leader) }, h.leader.1);
      modes = (
        record {
          grants = λ g x there its. absurd (contains_none g (none g there));
          blocks = each (λ t x d. (b : Block) → block_written d ≡ Some b → LawfulMode st t x d b) h.modes.0.blocks (λ x k. k.mode);
        },
        h.modes.1,
      );
      watchdog = (watched st past e c s j h.watchdog.0, h.watchdog.1);
      granting = (
        record {
          owned = λ g there. absurd (contains_none g (none g there));
          each = λ g x there its. absurd (contains_none g (none g there));
          orphans = λ g there is. absurd (contains_none g (none g there));
        },
        h.granting.1,
      );
      ends = (record { each = λ x there. let a = h.ends.0.each x there in record { holding = a.holding; held = a.held; told = a.told; reason = same_reason st e c a.holding a.reason } }, h.ends.1);
      parting = (
        record {
          quiet = each (λ t x d. IsTrue (is_recovering st t x) → is_write d.call.op ≡ false) h.parting.0.quiet (λ x k. k.quiet);
          few = each (λ t x d. IsTrue (is_leaving st t x) → is_write d.call.op ≡ true → IsTrue (is_leaving_write d.call.purpose)) h.parting.0.few (λ x k. k.few);
          parts_well = λ x there was left. parts st past e c s x j (mine_or_other st past e c s x j (still_there st past e x there)) left (h.parting.0.parts_well x there was left);
        },
        h.parting.1,
      );
      values = (
        record {
          writes = each (λ t x d. (v : ValueRec) → value_written d ≡ Some v → LawfulValueWrite st t x (spot_of_call st.layout d) v) h.values.0.writes (λ x k. k.value);
          reads = each (λ t x d. (n : ℕ) → d.call.purpose ≡ ValueRead n → LawfulValueRead st t x (spot_of_call st.layout d) d) h.values.0.reads (λ x k. k.value_read);
          replies = λ a lver seq bytes there says. absurd (j.untold a lver seq bytes there says);
          sets = λ a lver seq there says.
              let k = h.values.0.sets a lver seq there says in
              record { session = k.session; call = k.call; value = k.value; of_session = (call_stays past e c k.session k.call k.of_session.0, k.of_session.1); told = k.told };
        },
        h.values.1,
      );
    } where
      follows : FollowsTrace st past e
      follows = h.is_trace.0

      next : c.number ≡ next_call st past + length e.effects.calls
      next = j.numbered ∙ next_more st e past

      each : (P : Trace → Session → Submitted → Type 0) → EachCall st P past e
          → ((x : Session) → CallIsLawful st (e ∷ past) x (new_call (length past) e.reading c) → P (e ∷ past) x (new_call (length past) e.reading c)) → EachCall st P past (with_call c e)
      each P old last = each_more st P e past c j.no_look old (λ x its. last x (subst (λ y. CallIsLawful st (e ∷ past) y (new_call (length past) e.reading c)) (one_value s x (session_numbered st (e ∷ past) c.session) j.its its) j.lawful))

      none : (g : Grant) → Contains e.effects.grants g → Contains [] g
      none g there = subst (λ gs. Contains gs g) j.ungranted there

      owned : (d : Call) → Contains e.effects.calls d ⊎ (c ≡ d) → IsSome (session_numbered st (with_call c e ∷ past) d.session)
      owned d (inl old) = subst (λ ss. IsSome (slice_get ss d.session)) (sym (same_sessions st e past c j.no_look)) (h.calls.0.owned d old)
      owned d (inr new) =
          subst (λ ss. IsSome (slice_get ss d.session)) (sym (same_sessions st e past c j.no_look))
          (subst (λ (z : Call). IsSome (session_numbered st (e ∷ past) z.session)) new (subst (λ o. IsSome o) (sym j.its) refl))

      spelled : (d : Call) (w : Rec) → Contains e.effects.calls d ⊎ (c ≡ d) → record_of d.op ≡ Some w → IsRecord w
      spelled d w (inl old) writes = h.calls.0.spelled d w old writes
      spelled d w (inr new) writes = j.spelled w (ap (λ (z : Call). record_of z.op) new ∙ writes)
