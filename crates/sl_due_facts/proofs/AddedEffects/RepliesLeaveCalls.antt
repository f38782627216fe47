-- A reply to another's job, on a wake, that comes after a call changes nothing that the laws say of the call.
use Rattle.sl_due_facts.proofs.Acts.AddedAtEnd.{found_more}
use Rattle.sl_run.specs.LawfulBlock.{AreaRead, BeginReason, Block_above, Freed_before, LawfulBlockStep, Leader_before, Leader_own, Lost_before, Own_block}
use Rattle.sl_run.specs.LawfulCalls.{may_submit}
use Rattle.sl_run.specs.LawfulDelta.{LawfulDeltaCall, LawfulJoinStep}
use Rattle.sl_run.specs.LawfulLeader.{LawfulFreeLeader, LawfulTake}
use Rattle.sl_trace.specs.Leases.{lease_step, spot_of_call}
use Rattle.sl_due_facts.specs.AddedEffects.CallIsLawful.{CallIsLawful}
use Rattle.sl_due_facts.specs.AddedEffects.OneMoreEffect.{with_reply}
use Rattle.sl_sector.specs.declared.sector.Block.{Block}
use Rattle.sl_sector.specs.declared.sector.Leader.{Leader}
use Rattle.sl_trace.specs.Sessions.{calls_of, free_write, generation_of, is_active, is_join_call, is_join_done, joined_after, leaving_job, recovery_of, refused_after, removed_after, stage_in, stage_of}
use Rattle.sl_trace.specs.Sightings.{counted_over, evidence_in}
use Rattle.sl_trace.specs.declared.session.Session.{Session}
use Rattle.sl_trace.specs.Traces.{Replied, Setting, Submitted, Trace, reply_to}
use Rattle.sl_trace.specs.declared.effects.Effects.{Effects}
use Rattle.sl_trace.specs.declared.effects.Entry.{Entry}
use Rattle.sl_trace.specs.declared.effects.JobReply.{JobReply}
use Rattle.sl_trace.specs.declared.effects.JoinStep.TheVariants.{ClaimWrite, DecidingRead, FirstRead, FirstRenewal, VerifyRead, WatchRead}
use Rattle.sl_trace.specs.declared.effects.JoinStep.{JoinStep}
use Rattle.sl_trace.specs.declared.effects.LeaseStep.TheVariants.{ClearMode, FreeLeader, Phase1Read, Phase1Write, Phase2Read, Phase2Write, ReadAgain, ReadArea, ReadBeforeBlock, ReadBeforeFree, SetMode, TakeLeader}
use Rattle.sl_trace.specs.declared.effects.LeaseStep.{LeaseStep}
use Rattle.sl_trace.specs.declared.effects.Purpose.TheVariants.{Joining, Lease, Leaving, Renewal, RequestRead, RequestWrite, SeeRequest, Survey, ValueRead, ValueWrite}
use Rattle.sl_trace.specs.declared.effects.Purpose.{Purpose}
use Rattle.sl_trace.specs.declared.effects.Spot.{Spot}
use Rattle.sl_trace.specs.declared.effects.Work.{Work}
use Rattle.sl_trace.specs.declared.input.Input.TheVariants.{Wake}
use Rattle.sl_run_law.proofs.Sessions.EndedAreSilent.{stage_by}
use Rattle.sl_words.proofs.CaseLaws.{true_is_false}
use Rattle.sl_words.specs.Words.{choose, some_is}
use Rattle.std.proofs.Common.{ap, inl, inr, refl, subst, sym, ◌∙◌}
use Rattle.std.specs.Prelude.{Bool, IsTrue, List, MatchBool, None, Option, Some, false, is_none, is_some, length, nat_lt, not, option_and_then, option_map, true, [], ℕ, ◌&&◌, ◌++◌, ◌+◌, ◌==◌, ◌∷◌, ◌≡◌, ◌⊎◌}

-- A wake with these replies.
abbrev pub waking : List JobReply → Entry → Entry
waking rs e = let fx : Effects = e.effects in record e { input = Wake; effects = record fx { replies = rs } }

-- ---- its joining is answered as it was

same_reply : (a : JobReply) (e : Entry) (past : Trace) (n : ℕ) → (a.job == n) ≡ false → reply_to (waking (e.effects.replies ++ a ∷ []) e ∷ past) n ≡ reply_to (waking e.effects.replies e ∷ past) n
same_reply a e past n other =
    ap (λ o. elim (reply_to past n) as (λ z. Option Replied) [ Some q ↦ Some q | None ↦ option_map (λ (b : JobReply). record { at = length past; reply = b.reply }) o ])
    (found_more e.effects.replies a n other)

-- What is said by the reply to a joining's job is as it was.
by_reply : (a : JobReply) (e : Entry) (past : Trace) (o given : Option ℕ) (f : Replied → Option ℕ) → some_is (λ j. a.job == j) o ≡ false
    → elim o as (λ z. Option ℕ) [ None ↦ given | Some j ↦ option_and_then f (reply_to (waking (e.effects.replies ++ a ∷ []) e ∷ past) j) ]
    ≡ elim o as (λ z. Option ℕ) [ None ↦ given | Some j ↦ option_and_then f (reply_to (waking e.effects.replies e ∷ past) j) ]
by_reply a e past None given f other = refl
by_reply a e past (Some j) given f other = ap (λ r. option_and_then f r) (same_reply a e past j other)

same_joined : (a : JobReply) (e : Entry) (past : Trace) (s : Session) → some_is (λ j. a.job == j) s.job ≡ false
    → joined_after (waking (e.effects.replies ++ a ∷ []) e ∷ past) s ≡ joined_after (waking e.effects.replies e ∷ past) s
same_joined a e past s other = by_reply a e past s.job (Some 0) (λ r. choose (is_join_done r.reply) (r.at + 1)) other

same_refused : (a : JobReply) (e : Entry) (past : Trace) (s : Session) → some_is (λ j. a.job == j) s.job ≡ false
    → refused_after (waking (e.effects.replies ++ a ∷ []) e ∷ past) s ≡ refused_after (waking e.effects.replies e ∷ past) s
same_refused a e past s other = by_reply a e past s.job None (λ r. choose (not (is_join_done r.reply)) (r.at + 1)) other

same_stage : (a : JobReply) (e : Entry) (past : Trace) (s : Session) → some_is (λ j. a.job == j) s.job ≡ false
    → stage_of (waking (e.effects.replies ++ a ∷ []) e ∷ past) s ≡ stage_of (waking e.effects.replies e ∷ past) s
same_stage a e past s other =
    let t : Trace = waking e.effects.replies e ∷ past in
    let u : Trace = waking (e.effects.replies ++ a ∷ []) e ∷ past in
    ap (λ o. stage_by o (removed_after t s) (refused_after u s) (free_write (calls_of t s)) (stage_in (calls_of t s))) (same_joined a e past s other)
    ∙ ap (λ o. stage_by (joined_after t s) (removed_after t s) o (free_write (calls_of t s)) (stage_in (calls_of t s))) (same_refused a e past s other)

-- What is said of joined sessions, by whether it joined.
abbrev by_joining : Trace → Session → Bool → Option ℕ → Bool
by_joining t s more o = is_some o && is_none (removed_after t s) && more

-- ---- law by law

join_replied : (st : Setting) (a : JobReply) (e : Entry) (past : Trace) (s : Session) (c : Submitted) (step : JoinStep) → some_is (λ j. a.job == j) s.job ≡ false → is_join_call FirstRead (Joining 0 step) ≡ false
    → LawfulJoinStep st (waking e.effects.replies e ∷ past) s c step → LawfulJoinStep st (waking (e.effects.replies ++ a ∷ []) e ∷ past) s c step
join_replied st a e past s c FirstRead other plain h = absurd (true_is_false plain)
join_replied st a e past s c WatchRead other plain h = record { reads = h.reads; looking = same_stage a e past s other ∙ h.looking }
join_replied st a e past s c DecidingRead other plain h =
    record {
      reads = h.reads;
      looking = same_stage a e past s other ∙ h.looking;
      bytes = h.bytes;
      first = h.first;
      found = h.found;
      given = h.given;
      spelled = h.spelled;
      same = h.same;
      watched = h.watched;
      registered = h.registered;
    }
join_replied st a e past s c ClaimWrite other plain h =
    record { deciding = same_stage a e past s other ∙ h.deciding; bytes = h.bytes; first = h.first; read = h.read; found = h.found; watched = h.watched; decided = h.decided; spelled = h.spelled; written = h.written }
join_replied st a e past s c VerifyRead other plain h =
    record {
      reads = h.reads;
      waiting = same_stage a e past s other ∙ h.waiting;
      claim = h.claim;
      answer = h.answer;
      claimed = h.claimed;
      answered = h.answered;
      unregistered = h.unregistered;
      waited = h.waited;
      in_time = h.in_time;
      registered = h.registered;
    }
join_replied st a e past s c FirstRenewal other plain h = record { verifying = same_stage a e past s other ∙ h.verifying; claim = h.claim; read = h.read; claimed = h.claimed; verified = h.verified; written = h.written }

delta_replied : (st : Setting) (a : JobReply) (e : Entry) (past : Trace) (s : Session) (c : Submitted) (p : Purpose) → some_is (λ j. a.job == j) s.job ≡ false → is_join_call FirstRead p ≡ false
    → LawfulDeltaCall st (waking e.effects.replies e ∷ past) s c p → LawfulDeltaCall st (waking (e.effects.replies ++ a ∷ []) e ∷ past) s c p
delta_replied st a e past s c (Joining j step) other plain h = join_replied st a e past s c step other plain h
delta_replied st a e past s c Renewal other plain h = record { standing = same_stage a e past s other ∙ h.standing; well = h.well; bitmap = h.bitmap; written = h.written }
delta_replied st a e past s c Survey other plain h = record { standing = same_stage a e past s other ∙ h.standing; whole = h.whole }
delta_replied st a e past s c (Leaving j) other plain h =
    record {
      standing = same_stage a e past s other ∙ h.standing;
      leaving = ap (λ o. by_joining (waking e.effects.replies e ∷ past) s (is_some (leaving_job st (waking e.effects.replies e ∷ past) s)) o) (same_joined a e past s other) ∙ h.leaving;
      well = h.well;
      no_holding = h.no_holding;
      no_call = h.no_call;
      written = h.written;
    }
delta_replied st a e past s c (Lease work step) other plain h = h
delta_replied st a e past s c (RequestRead j) other plain h = h
delta_replied st a e past s c (RequestWrite j o) other plain h = h
delta_replied st a e past s c SeeRequest other plain h = h
delta_replied st a e past s c (ValueWrite j) other plain h = h
delta_replied st a e past s c (ValueRead j) other plain h = h

abbrev read_replied : (st : Setting) (a : JobReply) (e : Entry) (past : Trace) (s : Session) (at : Spot) → AreaRead st (waking e.effects.replies e ∷ past) s at → AreaRead st (waking (e.effects.replies ++ a ∷ []) e ∷ past) s at
read_replied st a e past s at r =
    record {
      read = r.read;
      blocks = r.blocks;
      leader = r.leader;
      resource = r.resource;
      of_lease = r.of_lease;
      after = r.after;
      before = r.before;
      split = r.split;
      gives = r.gives;
      spells = r.spells;
      names = r.names;
      whole = r.whole;
    }

-- What counts as over, counts so.
abbrev over_by : Setting → Trace → Trace → Session → ℕ → ℕ → Bool → Bool
over_by st past t s j h joined =
    elim (elim (is_some (evidence_in st (calls_of t s) j h)) as (λ z. Bool) [ true ↦ true | false ↦ j == s.id && nat_lt h (generation_of t s) && joined ]) as (λ z. Bool) [
      | true ↦ true
      | false ↦ counted_over st past s j h
    ]

still_over : (st : Setting) (a : JobReply) (e : Entry) (past : Trace) (s : Session) (j h : ℕ) → some_is (λ j. a.job == j) s.job ≡ false
    → IsTrue (counted_over st (waking e.effects.replies e ∷ past) s j h) → IsTrue (counted_over st (waking (e.effects.replies ++ a ∷ []) e ∷ past) s j h)
still_over st a e past s j h other is = ap (λ o. over_by st past (waking e.effects.replies e ∷ past) s j h (is_some o)) (same_joined a e past s other) ∙ is

done_with : (st : Setting) (a : JobReply) (e : Entry) (past : Trace) (s : Session) (l : Leader) → some_is (λ j. a.job == j) s.job ≡ false
    → (l.held ≡ false) ⊎ IsTrue (counted_over st (waking e.effects.replies e ∷ past) s l.owner l.generation)
    → (l.held ≡ false) ⊎ IsTrue (counted_over st (waking (e.effects.replies ++ a ∷ []) e ∷ past) s l.owner l.generation)
done_with st a e past s l other (inl free) = inl free
done_with st a e past s l other (inr over) = inr (still_over st a e past s l.owner l.generation other over)

reason_replied : (st : Setting) (a : JobReply) (e : Entry) (past : Trace) (s : Session) (at : Spot) (n : ℕ) → some_is (λ j. a.job == j) s.job ≡ false
    → BeginReason st (waking e.effects.replies e ∷ past) s at n → BeginReason st (waking (e.effects.replies ++ a ∷ []) e ∷ past) s at n
reason_replied st a e past s at n other (Block_above r above b has is) = Block_above (read_replied st a e past s at r) above b has is
reason_replied st a e past s at n other (Own_block b known is one) = Own_block b known is one
reason_replied st a e past s at n other (Leader_before r is why) = Leader_before (read_replied st a e past s at r) is (done_with st a e past s r.leader other why)
reason_replied st a e past s at n other (Leader_own r is held own) = Leader_own (read_replied st a e past s at r) is held own
reason_replied st a e past s at n other (Freed_before r below w has k frees is) = Freed_before (read_replied st a e past s at r) below w has k frees is
reason_replied st a e past s at n other (Lost_before o k ended is over) = Lost_before o k ended is (still_over st a e past s o.id o.generation other over)

block_replied : (st : Setting) (a : JobReply) (e : Entry) (past : Trace) (s : Session) (at : Spot) (c : Submitted) (b : Block) (step : LeaseStep) → some_is (λ j. a.job == j) s.job ≡ false
    → LawfulBlockStep st (waking e.effects.replies e ∷ past) s at c b step → LawfulBlockStep st (waking (e.effects.replies ++ a ∷ []) e ∷ past) s at c b step
block_replied st a e past s at c b Phase1Write other h =
    record { reason = reason_replied st a e past s at b.lver other h.reason; own = h.own; known = h.known; not_below = h.not_below; not_freed = h.not_freed; written = h.written }
block_replied st a e past s at c b Phase2Write other h =
    record {
      own = h.own;
      write = h.write;
      read = h.read;
      blocks = h.blocks;
      last = h.last;
      wrote = h.wrote;
      of_lease = h.of_lease;
      after = h.after;
      before = h.before;
      split = h.split;
      ordered = h.ordered;
      first_ordered = h.first_ordered;
      given = h.given;
      clear = h.clear;
      written = h.written;
    }
block_replied st a e past s at c b SetMode other h = record { own = h.own; known = h.known; begun = h.begun; written = h.written }
block_replied st a e past s at c b ClearMode other h = record { own = h.own; known = h.known; begun = h.begun; written = h.written }
block_replied st a e past s at c b (ReadArea name) other h = h
block_replied st a e past s at c b ReadBeforeFree other h = h
block_replied st a e past s at c b ReadBeforeBlock other h = h
block_replied st a e past s at c b (ReadAgain read) other h = h
block_replied st a e past s at c b Phase1Read other h = h
block_replied st a e past s at c b Phase2Read other h = h
block_replied st a e past s at c b TakeLeader other h = h
block_replied st a e past s at c b FreeLeader other h = h

block_at : (st : Setting) (a : JobReply) (e : Entry) (past : Trace) (s : Session) (at : Spot) (c : Submitted) (b : Block) (o : Option (Work × LeaseStep)) → some_is (λ j. a.job == j) s.job ≡ false
    → elim o as (λ z. Type 0) [ None ↦ ⊥ | Some p ↦ LawfulBlockStep st (waking e.effects.replies e ∷ past) s at c b p.1 ] → elim o as (λ z. Type 0) [ None ↦ ⊥ | Some p ↦ LawfulBlockStep st (waking (e.effects.replies ++ a ∷ []) e ∷ past) s at c b p.1 ]
block_at st a e past s at c b None other h = h
block_at st a e past s at c b (Some p) other h = block_replied st a e past s at c b p.1 other h

leader_by : (st : Setting) (a : JobReply) (e : Entry) (past : Trace) (s : Session) (at : Spot) (c : Submitted) (l : Leader) (held : Bool)
    → MatchBool held (LawfulTake st (waking e.effects.replies e ∷ past) s at c l) (LawfulFreeLeader st (waking e.effects.replies e ∷ past) s at c l) → MatchBool held (LawfulTake st (waking (e.effects.replies ++ a ∷ []) e ∷ past) s at c l) (LawfulFreeLeader st (waking (e.effects.replies ++ a ∷ []) e ∷ past) s at c l)
leader_by st a e past s at c l true h = record { step = h.step; won = h.won; not_freed = h.not_freed }
leader_by st a e past s at c l false h = record { step = h.step; won = h.won; not_held = h.not_held; alone = h.alone }

-- ---- all of them

pub woken_call : (st : Setting) (a : JobReply) (e : Entry) (past : Trace) (s : Session) (c : Submitted) → some_is (λ j. a.job == j) s.job ≡ false → is_join_call FirstRead c.call.purpose ≡ false
    → CallIsLawful st (waking e.effects.replies e ∷ past) s c → CallIsLawful st (waking (e.effects.replies ++ a ∷ []) e ∷ past) s c
woken_call st a e past s c other plain h =
    record {
      alive = subst (λ g. IsTrue (may_submit g)) (sym (same_stage a e past s other)) h.alive;
      delta = delta_replied st a e past s c c.call.purpose other plain h.delta;
      placed = h.placed;
      apart = h.apart;
      active = λ area. active_replied (h.active area);
      writes = λ w says area. let k = h.writes w says area in (k.0, record { resource = k.1.resource; verified = k.1.verified; placed = k.1.placed; format = k.1.format; named = k.1.named });
      alone = h.alone;
      reads = h.reads;
      sees = λ is. ap (λ o. is_some o) (same_joined a e past s other) ∙ h.sees is;
      again = λ is. let q = h.again is in record { first = q.first; bytes = q.bytes; newest = q.newest; same = q.same; torn = q.torn };
      turn = h.turn;
      block = λ b says. block_at st a e past s (spot_of_call st.layout c) c b (lease_step c.call.purpose) other (h.block b says);
      phase2 = λ reads. let k = h.phase2 reads in record { write = k.write; last = k.last; is_phase2 = k.is_phase2; ordered = k.ordered };
      leader = λ l says. let k = h.leader l says in record { own = k.own; names = k.names; ballot = leader_by st a e past s (spot_of_call st.layout c) c l l.held k.ballot };
      mode = λ b says. let k = h.mode b says in record { exact = k.exact; own = k.own };
      quiet = λ recovers. h.quiet (sym (ap (λ o. by_joining (waking e.effects.replies e ∷ past) s (is_some (recovery_of st (waking e.effects.replies e ∷ past) s)) o) (same_joined a e past s other)) ∙ recovers);
      few = λ leaves writes. h.few (sym (ap (λ o. by_joining (waking e.effects.replies e ∷ past) s (is_some (leaving_job st (waking e.effects.replies e ∷ past) s)) o) (same_joined a e past s other)) ∙ leaves) writes;
      value = λ v says. let k = h.value v says in record { holding = k.holding; held = k.held; version = k.version; alone = k.alone };
      value_read = λ j is. let k = h.value_read j is in record { held = k.held; alone = k.alone; whole = k.whole };
    } where
      active_replied : is_active st (waking e.effects.replies e ∷ past) s ≡ true → is_active st (waking (e.effects.replies ++ a ∷ []) e ∷ past) s ≡ true
      active_replied is =
          ap (λ o. is_some o && is_none (removed_after (waking e.effects.replies e ∷ past) s) && is_none (recovery_of st (waking e.effects.replies e ∷ past) s) && is_none (leaving_job st (waking e.effects.replies e ∷ past) s))
          (same_joined a e past s other) ∙ is

-- So it is where the entry's input is a wake.
pub replies_leave_calls : (st : Setting) (a : JobReply) (e : Entry) (past : Trace) (s : Session) (c : Submitted) → some_is (λ j. a.job == j) s.job ≡ false → e.input ≡ Wake
    → is_join_call FirstRead c.call.purpose ≡ false → CallIsLawful st (e ∷ past) s c → CallIsLawful st (with_reply a e ∷ past) s c
replies_leave_calls st a e past s c other wake plain h =
    subst (λ i. CallIsLawful st (record e { input = i } ∷ past) s c → CallIsLawful st (with_reply a (record e { input = i }) ∷ past) s c) (sym wake)
    (λ k. woken_call st a e past s c other plain k) h
