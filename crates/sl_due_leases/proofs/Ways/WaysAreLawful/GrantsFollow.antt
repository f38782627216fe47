-- What grants ask of a lease's calls follows from their ways.
use Rattle.sl_run.specs.LawfulBlock.{FirstAfter, ReadAfter}
use Rattle.sl_run.specs.LawfulModes.{IsDone, LawfulExclusiveGrant, NoneShared}
use Rattle.sl_due_leases.proofs.Ways.WaysAreLawful.BallotLaws.{asked2, block_same, first_after, read2, read_after, take_concludes, take_freed, take_won, taken_own, won_own}
use Rattle.sl_due_leases.proofs.Ways.WaysAreLawful.ClearReads.{given_long, no_other_torn}
use Rattle.sl_due_leases.proofs.Ways.NewestCall.{block_is, block_is_no_leader, ended_before, freed_held, freed_passed, leader_is, leader_is_no_block, lver_is, read_writes_no_block, submitted_passed}
use Rattle.sl_due_leases.proofs.Ways.NextsFit.WritesFit.{no_phase2, stays_closed}
use Rattle.sl_due_leases.proofs.Ways.WayNumbers.{ended_below, lver_of, own_lver}
use Rattle.sl_due_leases.proofs.Ways.WayStages.{ReadBehind, asked1, begun1, begun1_own, by_at, by_inside, by_rest_inside, first_inside, first_of_two, is_at_in, older_inside, prior_at, prior_inside, proposed, proposed_lver, proposed_mbal, read1, rest2, rest_inside, rest_kept, step_way, way_behind, ways_behind, whole_kept, write2, written_before}
use Rattle.sl_trace.specs.Ballots.{moded_block, stop_of}
use Rattle.sl_trace.specs.Jobs.{aim_of, aim_of_command, command_numbered}
use Rattle.sl_trace.specs.LeaseDecisions.{looks_for_shared}
use Rattle.sl_trace.specs.Leases.{Area_read, Phase1_read, Phase1_write, Phase2_read, Phase2_write, Read_before_block, block_submitted, block_written, blocks_given, ended_ballots, freed, freed_by, is_area_read, is_at, is_block_read, is_free_write, leader_written, lease_calls, lease_step, lver_written, open_ballot, spot_of_call}
use Rattle.sl_trace.specs.declared.lease.Aim.TheVariants.{Acquires, Converts, Releases, Settles}
use Rattle.sl_trace.specs.declared.lease.Aim.{Aim}
use Rattle.sl_sector.specs.declared.sector.Block.{Block}
use Rattle.sl_sector.specs.declared.sector.Leader.{Leader}
use Rattle.sl_sector.specs.declared.sector.Owner.{Owner}
use Rattle.sl_trace.specs.Sessions.{generation_of, me, sessions}
use Rattle.sl_trace.specs.declared.session.Session.{Session}
use Rattle.sl_due_facts.specs.Facts.GrantGrounds.{FreedForJob, GrantGrounds, IsDoneWork, ModedForJob}
use Rattle.sl_due_facts.specs.Facts.HeardCall.{IsOpen}
use Rattle.sl_due_facts.specs.Facts.HoldingFacts.{StandsExclusive, is_ballot_call}
use Rattle.sl_due_facts.specs.Facts.LeaseFacts.{TurnFacts}
use Rattle.sl_due_facts.specs.Facts.WayFacts.{After_mode, After_take, CallWay, Comes, FreeReason, FreeWay, In_conversion, In_release, In_settling, IsWrittenBy, ModeReason, NoOtherShared, ModeWay, Phase1ReadWay, Phase1Way, Phase2ReadWay, Phase2Way, StepWay, TakeWay, WayContext, WayFacts, Ways, way_context}
use Rattle.sl_due_facts.specs.Facts.WorkFacts.{IsWaiting}
use Rattle.sl_trace.specs.Traces.{Answered, Setting, Submitted, Trace, is_answered_ok, is_ok_answer}
use Rattle.sl_trace.specs.declared.command.Command.{Command}
use Rattle.sl_trace.specs.declared.effects.LeaseStep.TheVariants.{FreeLeader, Phase1Read, Phase1Write, Phase2Read, Phase2Write, SetMode, TakeLeader}
use Rattle.sl_trace.specs.declared.effects.LeaseStep.{LeaseStep}
use Rattle.sl_trace.specs.declared.effects.Mode.TheVariants.{Exclusive}
use Rattle.sl_trace.specs.declared.effects.Mode.{Mode}
use Rattle.sl_trace.specs.declared.effects.Op.TheVariants.{ReadSectors}
use Rattle.sl_trace.specs.declared.effects.Purpose.TheVariants.{Lease}
use Rattle.sl_trace.specs.declared.effects.Spot.{Spot}
use Rattle.sl_trace.specs.declared.effects.Work.TheVariants.{ForJob}
use Rattle.sl_trace.specs.declared.effects.Work.{Work}
use Rattle.sl_due_leases.proofs.Ways.AreasAligned.{spot_aligned}
use Rattle.sl_words.proofs.Numbers.{equal_is_most, number_itself}
use Rattle.sl_words.proofs.Lists.{contains_cases, contains_first, contains_more, contains_none, got_inside}
use Rattle.sl_words.proofs.CaseLaws.{no_value, one_value, some_value, true_is_false}
use Rattle.sl_words.proofs.WordLaws.{and_true}
use Rattle.sl_words.specs.Words.{some_is}
use Rattle.std.proofs.Common.{ap, arith, eqb-true, inl, inr, refl, subst, sym, ◌∙◌}
use Rattle.std.specs.Option.{option_map_or}
use Rattle.std.specs.Prelude.{Bool, Contains, IsTrue, List, None, Option, Some, [], false, if◌then◌else◌, is_some, not, option_and_then, true, ℕ, ◌&&◌, ◌++◌, ◌<◌, ◌==◌, ◌||◌, ◌∷◌, ◌≡◌, ◌≤◌, ◌⊎◌}

-- ---- numbers fall

-- Each block written from this number on has this mbal.
abbrev SameFrom : ℕ → ℕ → List Submitted → Type 0
SameFrom n mbal ms = (d : Submitted) (b : Block) → Contains ms d → block_written d ≡ Some b → n ≤ d.call.number → b.mbal ≡ mbal

same_more : (n mbal : ℕ) (m : Submitted) (ms : List Submitted) → ((b : Block) → block_written m ≡ Some b → b.mbal ≡ mbal) → SameFrom n mbal ms → SameFrom n mbal (m ∷ ms)
same_more n mbal m ms here rest d b there writes le =
    elim (contains_cases m ms d there) [
      | inl is ↦ here b (subst (λ x. block_written x ≡ Some b) (sym is) writes)
      | inr inside ↦ rest d b inside writes le
    ]

no_block : (m : Submitted) (mbal : ℕ) → block_written m ≡ None → (b : Block) → block_written m ≡ Some b → b.mbal ≡ mbal
no_block m mbal none b writes = absurd (no_value b (block_written m) writes none)

one_block : (m : Submitted) (own : Block) (mbal : ℕ) → block_written m ≡ Some own → own.mbal ≡ mbal → (b : Block) → block_written m ≡ Some b → b.mbal ≡ mbal
one_block m own mbal wrote is b writes = ap (λ (x : Block). x.mbal) (sym (block_same m own b wrote writes)) ∙ is

below_none : (a b : ℕ) → a < b → b ≤ a → ⊥
below_none a b lt le = omega (arith, lt, le)

-- ---- the ballot behind a taken leader

-- The calls of the ballot, from phase 1's write on.
record BallotBehind (w : WayContext) (work : Work) (ms : List Submitted) (n : ℕ) : Type 0 where
  write : Submitted
  own : Block
  read : Submitted
  blocks : List (Option Block)
  wrote : Contains ms write × (is_at Phase1_write write ≡ true) × (block_written write ≡ Some own) × (own.lver ≡ n)
  host : own.host ≡ w.self.id
  reads : Contains ms read × (is_at Phase1_read read ≡ true)
  after : List Submitted
  before : List Submitted
  split : ms ≡ after ++ read ∷ before
  ordered : ReadAfter write read
  first_ordered : FirstAfter write read before
  same : SameFrom write.call.number own.mbal ms
  given : blocks_given w.layout read before ≡ Some blocks
  clear : stop_of own blocks ≡ None
  aim : Aim
  aimed : w.aims work ≡ Some aim
  alone : looks_for_shared aim ≡ true → NoOtherShared w blocks
  last : Block
  known : block_submitted ms ≡ Some last
  under : (last.lver ≡ n) × (last.mbal ≡ own.mbal)

-- Reads write no block.
same_by_read : (n mbal : ℕ) (m : Submitted) (ms : List Submitted) (k : ℕ) → m.call.op ≡ ReadSectors k → SameFrom n mbal ms → SameFrom n mbal (m ∷ ms)
same_by_read n mbal m ms k reads h = same_more n mbal m ms (no_block m mbal (read_writes_no_block m k reads)) h

-- Where a call stands among those before.
abbrev SplitsAt : Submitted → List Submitted → List Submitted → Type 0
SplitsAt d before xs = (after : List Submitted) × (xs ≡ after ++ d ∷ before)

splits_more : (d : Submitted) (before : List Submitted) (m : Submitted) (ms : List Submitted) → SplitsAt d before ms → SplitsAt d before (m ∷ ms)
splits_more d before m ms h = (m ∷ h.0, ap (λ xs. m ∷ xs) h.1)

ballot_behind : (w : WayContext) (work : Work) (m : Submitted) (ms : List Submitted) → Ways w (m ∷ ms) → (h : TakeWay w work m.at m.call ms) → BallotBehind w work (m ∷ ms) h.leader.lver
ballot_behind w work m ms ws h =
    let b2 : ReadBehind w work Phase2Read h.after.prior h.after.rest = read2 w work m.at m.call ms ws.1 h in
    let a2 : Phase2ReadWay w work b2.first.at b2.first.call b2.older = asked2 w work m.at m.call ms ws.1 h in
    let p2 : Phase2Way w work a2.after.prior.call a2.after.rest = write2 w work b2.first.at b2.first.call b2.older b2.ways a2 in
    let p2s : Ways w a2.after.rest = rest2 w work b2.first.at b2.first.call b2.older b2.ways a2 in
    let b1 : ReadBehind w work Phase1Read p2.after.prior p2.after.rest = read1 w work a2.after.prior.call a2.after.rest p2s p2 in
    let a1 : Phase1ReadWay w work b1.first.at b1.first.call b1.older = asked1 w work a2.after.prior.call a2.after.rest p2s p2 in
    let write : Submitted = a1.after.prior in
    let w1 : CallWay w write a1.after.rest = (ways_behind w b1.older work Phase1Write a1.after b1.ways).0 in
    let begun : Phase1Way w write.call a1.after.rest = begun1 w work a2.after.prior.call a2.after.rest p2s p2 in
    let own_is : begun.own ≡ p2.own = begun1_own w work a2.after.prior.call a2.after.rest p2s p2 in
    let wrote : block_written write ≡ Some p2.own = block_is w a1.after.rest write begun.own begun.wrote ∙ ap (λ z. Some z) own_is in
    let last : Block = proposed w work a2.after.prior.call a2.after.rest p2 in
    let lver : last.lver ≡ h.leader.lver = won_own w work m.at m.call ms ws.1 h in
    let number : ℕ = write.call.number in
    let mbal : ℕ = p2.own.mbal in
    let s5 : SameFrom number mbal a1.after.rest = λ d b there writes le. absurd (below_none d.call.number number (w1.above d there) le) in
    let s4 : SameFrom number mbal b1.older = subst (λ xs. SameFrom number mbal xs) (sym a1.after.before) (same_more number mbal write a1.after.rest (one_block write p2.own mbal wrote refl) s5) in
    let s3 : SameFrom number mbal a2.after.rest =
    subst (λ xs. SameFrom number mbal xs) (sym p2.after.before) (whole_kept w work Phase1Read p2.after.prior p2.after.rest b1 (λ xs. SameFrom number mbal xs) (same_by_read number mbal) s4)
    in
    let s2 : SameFrom number mbal b2.older =
    subst (λ xs. SameFrom number mbal xs) (sym a2.after.before)
    (same_more number mbal a2.after.prior a2.after.rest
    (one_block a2.after.prior last mbal (block_is w a2.after.rest a2.after.prior last p2.wrote) (proposed_mbal w work a2.after.prior.call a2.after.rest p2)) s3)
    in
    let s1 : SameFrom number mbal ms =
    subst (λ xs. SameFrom number mbal xs) (sym h.after.before) (whole_kept w work Phase2Read h.after.prior h.after.rest b2 (λ xs. SameFrom number mbal xs) (same_by_read number mbal) s2)
    in
    let inside : (d : Submitted) → Contains a2.after.rest d → Contains (m ∷ ms) d =
    λ d there.
    contains_more m ms d
    (by_rest_inside ms work Phase2Read h.after d (older_inside w work Phase2Read h.after.prior h.after.rest b2 d (rest_inside b2.older work Phase2Write a2.after d there)))
    in
    let split : SplitsAt p2.after.prior p2.after.rest h.after.rest =
    rest_kept w work Phase2Read h.after.prior h.after.rest b2 (λ xs. SplitsAt p2.after.prior p2.after.rest xs)
    (λ d ds n reads had. splits_more p2.after.prior p2.after.rest d ds had)
    (a2.after.prior ∷ [], a2.after.before ∙ ap (λ xs. a2.after.prior ∷ xs) p2.after.before)
    in
    record {
      write = write;
      own = p2.own;
      read = p2.after.prior;
      blocks = p2.blocks;
      wrote = (
        inside write
            (by_rest_inside a2.after.rest work Phase1Read p2.after write
            (older_inside w work Phase1Read p2.after.prior p2.after.rest b1 write (prior_inside b1.older work Phase1Write a1.after))),
        prior_at Phase1_write b1.older work Phase1Write a1.after refl,
        wrote,
        sym (proposed_lver w work a2.after.prior.call a2.after.rest p2) ∙ lver,
      );
      host = subst (λ (z : Block). z.host ≡ w.self.id) own_is begun.host;
      reads = (inside p2.after.prior (by_inside a2.after.rest work Phase1Read p2.after), by_at Phase1_read a2.after.rest work Phase1Read p2.after refl);
      after = m ∷ h.after.prior ∷ split.0;
      before = p2.after.rest;
      split = ap (λ xs. m ∷ xs) (h.after.before ∙ ap (λ xs. h.after.prior ∷ xs) split.1);
      ordered = read_after write p2.after.prior (written_before w work Phase1Read p2.after.prior p2.after.rest b1 write a1.done);
      first_ordered = first_after w work Phase1Read p2.after.prior p2.after.rest b1 write a1.done;
      same = same_more number mbal m ms (no_block m mbal (leader_is_no_block w m h.leader h.wrote)) s1;
      given = p2.given;
      clear = p2.clear;
      aim = p2.aim;
      aimed = p2.aimed;
      alone = p2.alone;
      last = last;
      known = submitted_passed m ms (leader_is_no_block w m h.leader h.wrote)
          ∙ (ap (λ xs. block_submitted xs) h.after.before
          ∙ (submitted_passed h.after.prior h.after.rest (read_writes_no_block h.after.prior b2.sectors b2.reads.1) ∙ taken_own w work m.at m.call ms ws.1 h));
      under = (lver, proposed_mbal w work a2.after.prior.call a2.after.rest p2);
    }

-- ---- the work whose answer was heard

-- The lease's calls, the work's call first.
record WorkBehind (st : Setting) (t : Trace) (heard : Option ℕ) (s : Session) (m : Submitted) (j : ℕ) (step : LeaseStep) : Type 0 where
  rest : List Submitted
  first : lease_calls st t s (spot_of_call st.layout m) ≡ m ∷ rest
  ways : Ways (way_context st t s) (m ∷ rest)
  way : StepWay (way_context st t s) (ForJob j) m.at m.call rest step

waiting_open : (t : Trace) (heard : Option ℕ) (m : Submitted) → IsWaiting t heard m → IsOpen t heard m
waiting_open t heard m (inl none) = inl none
waiting_open t heard m (inr is) = inr (is.0, is.1)

work_behind : (st : Setting) (t : Trace) (heard : Option ℕ) (s : Session) (m : Submitted) (j : ℕ) (step : LeaseStep) (c : Command) → WayFacts st t → TurnFacts st t heard → IsDoneWork st t heard s m j step c
    → WorkBehind st t heard s m j step
work_behind st t heard s m j step c ways turns d =
    let first = turns.newest s m d.session d.work.there (waiting_open t heard m d.work.opens) (ap (λ p. is_some (lease_step p)) d.work.purpose) in
    let ws : Ways (way_context st t s) (m ∷ first.0) =
    subst (λ ms. Ways (way_context st t s) ms) first.1
    (ways.each s (spot_of_call st.layout m) (got_inside (sessions st t) m.call.session s d.session) (spot_aligned st.layout.area m.call.offset))
    in
    record { rest = first.0; first = first.1; ways = ws; way = step_way (way_context st t s) m first.0 (ForJob j) step ws.0 d.work.purpose }

-- ---- an exclusive grant

ok_answer : (m : Submitted) (a : Answered) → IsDone m a → is_answered_ok m ≡ true
ok_answer m a h = ap (λ o. some_is (λ (k : Answered). is_ok_answer k.answer) o) h.0 ∙ ap (λ k. is_ok_answer k) h.1

one_of_four : (a b c d : Bool) → b ≡ true → (a || (b || c) || d) ≡ true
one_of_four true b c d is = refl
one_of_four false b c d is = ap (λ t. t || c || d) is

reads_blocks : (m : Submitted) → is_at Phase1_read m ≡ true → IsTrue (is_block_read m)
reads_blocks m is = one_of_four (is_area_read m) (is_at Phase1_read m) (is_at Phase2_read m) (is_at Read_before_block m) is

none_shared : (st : Setting) (t : Trace) (s : Session) (work : Work) (ms : List Submitted) (n : ℕ) (aim : Aim) → (b : BallotBehind (way_context st t s) work ms n) → aim_of st t work ≡ Some aim → looks_for_shared aim ≡ true
    → NoneShared st t s b.blocks
none_shared st t s work ms n aim b aimed looks =
    record {
      over = b.alone (ap (λ a. looks_for_shared a) (one_value b.aim aim (aim_of st t work) b.aimed aimed) ∙ looks);
      whole = λ host low high other.
          no_other_torn b.own b.blocks b.clear host low (subst (λ n. host ≤ n) (sym (given_long st.layout b.read b.before b.blocks b.given)) high) (λ e. other (e ∙ b.host));
    }

exclusive_grant : (st : Setting) (t : Trace) (s : Session) (at : Spot) (work : Work) (m : Submitted) (rest : List Submitted) (n : ℕ) (aim : Aim) → lease_calls st t s at ≡ m ∷ rest → Ways (way_context st t s) (m ∷ rest)
    → (h : TakeWay (way_context st t s) work m.at m.call rest) → h.leader.lver ≡ n → (b : BallotBehind (way_context st t s) work (m ∷ rest) n) → aim_of st t work ≡ Some aim → looks_for_shared aim ≡ true
    → LawfulExclusiveGrant st t s at n
exclusive_grant st t s at work m rest n aim first ws h under b aimed looks =
    record {
      won = subst (λ xs. Contains (ended_ballots st.layout xs) (n, me t s)) (sym first)
          (ended_before st.layout m rest (n, me t s) (subst (λ k. Contains (ended_ballots st.layout rest) (k, me t s)) under (take_won (way_context st t s) work m.at m.call rest h)));
      write = b.write;
      own = b.own;
      read = b.read;
      blocks = b.blocks;
      wrote = (subst (λ xs. Contains xs b.write) (sym first) b.wrote.0, b.wrote.1, b.wrote.2, b.wrote.3);
      of_lease = (subst (λ xs. Contains xs b.read) (sym first) b.reads.0, reads_blocks b.read b.reads.1);
      after = b.after;
      before = b.before;
      split = first ∙ b.split;
      ordered = b.ordered;
      first_ordered = b.first_ordered;
      same_ballot = subst (λ xs. SameFrom b.write.call.number b.own.mbal xs) (sym first) b.same;
      given = b.given;
      none_shared = none_shared st t s work (m ∷ rest) n aim b aimed looks;
    }

held_none : (l : Leader) → l.held ≡ true → (if l.held then 0 else l.lver) ≡ 0
held_none l is = ap (λ b. if b then 0 else l.lver) is

-- The take's call is no step of a ballot, and no other call of the lease is open.
idle : (st : Setting) (t : Trace) (heard : Option ℕ) (s : Session) (m d : Submitted) (j : ℕ) (rest : List Submitted) → CallWay (way_context st t s) m rest → m.call.purpose ≡ Lease (ForJob j) TakeLeader
    → heard ≡ Some m.call.number → Contains (m ∷ rest) d → IsOpen t heard d → is_ballot_call d ≡ false
idle st t heard s m d j rest way is heard_it there opens = by (contains_cases m rest d there) opens where
  by : (m ≡ d) ⊎ Contains rest d → IsOpen t heard d → is_ballot_call d ≡ false
  by (inl same) open_now = ap (λ (z : Submitted). is_at_in Area_read z.call.purpose || (is_at_in Phase1_write z.call.purpose || (is_at_in Phase1_read z.call.purpose || (is_at_in Phase2_write z.call.purpose || is_at_in Phase2_read z.call.purpose)))) (sym same)
      ∙ ap (λ p. is_at_in Area_read p || (is_at_in Phase1_write p || (is_at_in Phase1_read p || (is_at_in Phase2_write p || is_at_in Phase2_read p)))) is
  by (inr old) (inl none) = absurd (true_is_false (sym (way.answered d old) ∙ ap (λ o. is_some o) none))
  by (inr old) (inr told) =
      let number : d.call.number ≡ m.call.number = some_value d.call.number m.call.number (sym told.0 ∙ heard_it) in
      let less : d.call.number < m.call.number = way.above d old in absurd (omega (arith, number, less))

stands : (st : Setting) (t : Trace) (heard : Option ℕ) (s : Session) (m : Submitted) (j : ℕ) (c : Command) (aim : Aim) → (d : IsDoneWork st t heard s m j TakeLeader c) → WorkBehind st t heard s m j TakeLeader
    → aim_of st t (ForJob j) ≡ Some aim → looks_for_shared aim ≡ true → StandsExclusive st t heard s (spot_of_call st.layout m) (lver_written m)
unfolding exclusive_grant
stands st t heard s m j c aim d b aimed looks =
    let w : WayContext = way_context st t s in
    let at : Spot = spot_of_call st.layout m in
    let h : TakeWay w (ForJob j) m.at m.call b.rest = b.way in
    let lver : lver_written m ≡ h.leader.lver = lver_is w m h.leader h.wrote in
    let behind : BallotBehind w (ForJob j) (m ∷ b.rest) (lver_written m) = subst (λ n. BallotBehind w (ForJob j) (m ∷ b.rest) n) (sym lver) (ballot_behind w (ForJob j) m b.rest b.ways h) in
    let freed_same : freed (m ∷ b.rest) ≡ freed b.rest = freed_held m b.rest h.leader (leader_is w m h.leader h.wrote) (held_none h.leader h.held) in
    record {
      taken = record {
        call = m;
        leader = h.leader;
        of_lease = subst (λ xs. Contains xs m) (sym b.first) (contains_first m b.rest);
        written = (leader_is w m h.leader h.wrote, h.held, sym lver);
        answered = ok_answer m d.answer d.done;
      };
      ballot = exclusive_grant st t s at (ForJob j) m b.rest (lver_written m) aim b.first b.ways h (sym lver) behind aimed looks;
      not_freed = subst (λ xs. freed xs < lver_written m) (sym b.first) (fewer (freed (m ∷ b.rest)) (freed b.rest) h.leader.lver (lver_written m) freed_same (take_freed w (ForJob j) m.at m.call b.rest b.ways.1 h) lver);
      own = behind.last;
      known = ap (λ xs. block_submitted xs) b.first ∙ behind.known;
      under = behind.under;
      concluded = ap (λ xs. open_ballot st.layout xs) b.first
          ∙ stays_closed st.layout m b.rest (no_phase2 m (Lease (ForJob j) TakeLeader) d.work.purpose refl) (take_concludes w (ForJob j) m.at m.call b.rest b.ways.1 h);
      ended = λ p there.
          most p.0 (own_lver (m ∷ b.rest)) behind.last.lver (lver_written m)
          (ended_below w (m ∷ b.rest) b.ways p.0 p.1 (subst (λ xs. Contains (ended_ballots st.layout xs) p) b.first there)) (lver_of (m ∷ b.rest) behind.last behind.known) behind.under.0;
      idle = λ k there opens. idle st t heard s m k j b.rest b.ways.0 d.work.purpose d.heard_it (subst (λ xs. Contains xs k) b.first there) opens;
    }
  where
    fewer : (a f l n : ℕ) → a ≡ f → f < l → n ≡ l → a < n
    fewer a f l n same lt is = omega (arith, same, lt, is)

    most : (p o l n : ℕ) → p ≤ o → o ≡ l → l ≡ n → p ≤ n
    most p o l n le same is = omega (arith, le, same, is)

-- ---- a shared grant

free_number : (n : ℕ) (o : Option Leader) → some_is (λ (l : Leader). l.lver == n && not l.held) o ≡ true → option_map_or (λ (l : Leader). if l.held then 0 else l.lver) o 0 ≡ n
free_number n None is = absurd (true_is_false (sym is))
free_number n (Some l) is =
    let both = and_true (l.lver == n) (not l.held) is in
    free_by l.held both.1 ∙ eqb-true l.lver n both.0
  where
    free_by : (b : Bool) → not b ≡ true → (if b then 0 else l.lver) ≡ l.lver
    free_by true is = absurd (true_is_false (sym is))
    free_by false is = refl

-- A free among the calls is at most the greatest.
free_below : (ms : List Submitted) (n : ℕ) (d : Submitted) → Contains ms d → is_free_write n d ≡ true → n ≤ freed ms
free_below [] n d there is = absurd (contains_none d there)
free_below (m ∷ ms) n d there is = by (contains_cases m ms d there) (λ rest. free_below ms n d rest is) where
  by : (m ≡ d) ⊎ Contains ms d → (Contains ms d → n ≤ freed ms) → n ≤ freed (m ∷ ms)
  by (inl same) rest = let f : freed_by m ≡ n = ap (λ (z : Submitted). freed_by z) same ∙ free_number n (leader_written d) is in omega (arith, f)
  by (inr inside) rest = let le : n ≤ freed ms = rest inside in omega (arith, le)

abbrev is_acquire : Option Aim → Bool
is_acquire None = false
is_acquire (Some (Acquires mode)) = true
is_acquire (Some (Converts mode)) = false
is_acquire (Some Releases) = false
is_acquire (Some Settles) = false

-- The mode's call behind the free of an acquire, and the take behind that.
record ModeBehind (w : WayContext) (work : Work) (at n : ℕ) (ms : List Submitted) : Type 0 where
  after : Comes work SetMode ms
  done : IsWrittenBy after.prior at
  under : lver_written after.prior ≡ n
  mode : ModeWay w work after.prior.at after.prior.call after.rest
  take : Comes work TakeLeader after.rest
  taken : IsWrittenBy take.prior after.prior.at
  same : lver_written take.prior ≡ mode.own.lver

mode_behind : (w : WayContext) (work : Work) (at n : ℕ) (ms : List Submitted) (mode : Mode) → Ways w ms → w.aims work ≡ Some (Acquires mode) → FreeReason w work at n ms → ModeBehind w work at n ms
mode_behind w work at n ms mode ws aimed (In_release is) = absurd (true_is_false (ap (λ o. is_acquire o) (sym aimed ∙ is)))
mode_behind w work at n ms mode ws aimed (In_settling is) = absurd (true_is_false (ap (λ o. is_acquire o) (sym aimed ∙ is)))
mode_behind w work at n ms mode ws aimed (After_mode after is done under) = by m.why where
  m : ModeWay w work after.prior.at after.prior.call after.rest
  m = way_behind w ms work SetMode after ws

  by : ModeReason w work after.prior.at (way_behind w ms work SetMode after ws).own after.rest → ModeBehind w work at n ms
  by (In_conversion is) = absurd (true_is_false (ap (λ o. is_acquire o) (sym aimed ∙ is)))
  by (After_take take its taken same) = record { after = after; done = done; under = under; mode = way_behind w ms work SetMode after ws; take = take; taken = taken; same = same }

moded_lver : (w : WayContext) (work : Work) (at : ℕ) (m : Submitted) (ms : List Submitted) → (h : ModeWay w work at m.call ms) → lver_written m ≡ h.own.lver
moded_lver w work at m ms h =
    let b : Block = moded_block h.own true w.self.generation in
    ap (λ o. elim o as (λ z. ℕ) [ Some l ↦ l.lver | None ↦ option_map_or (λ (k : Block). k.lver) (block_written m) 0 ]) (block_is_no_leader w ms m b h.wrote)
    ∙ ap (λ o. option_map_or (λ (k : Block). k.lver) o 0) (block_is w ms m b h.wrote)

-- Blocks from this number on have the shared mode.
abbrev SharedFrom : Setting → Trace → Session → ℕ → List Submitted → Type 0
SharedFrom st t s n ms = (d : Submitted) (b : Block) → Contains ms d → n ≤ d.call.number → block_written d ≡ Some b → (b.shared ≡ true) × (b.mode_gen ≡ generation_of t s)

shared_more : (st : Setting) (t : Trace) (s : Session) (n : ℕ) (m : Submitted) (ms : List Submitted) → ((b : Block) → block_written m ≡ Some b → (b.shared ≡ true) × (b.mode_gen ≡ generation_of t s)) → SharedFrom st t s n ms
    → SharedFrom st t s n (m ∷ ms)
shared_more st t s n m ms here rest d b there le writes =
    elim (contains_cases m ms d there) [
      | inl is ↦ here b (subst (λ x. block_written x ≡ Some b) (sym is) writes)
      | inr inside ↦ rest d b inside le writes
    ]

own_shared : (st : Setting) (t : Trace) (s : Session) (work : Work) (at : ℕ) (m : Submitted) (ms : List Submitted) → (h : ModeWay (way_context st t s) work at m.call ms) → (b : Block) → block_written m ≡ Some b
    → (b.shared ≡ true) × (b.mode_gen ≡ generation_of t s)
own_shared st t s work at m ms h b writes =
    let made : Block = moded_block h.own true (generation_of t s) in
    let same : made ≡ b = block_same m made b (block_is (way_context st t s) ms m made h.wrote) writes in
    (ap (λ (z : Block). z.shared) (sym same), ap (λ (z : Block). z.mode_gen) (sym same))

freed_for : (st : Setting) (t : Trace) (heard : Option ℕ) (s : Session) (m : Submitted) (j : ℕ) (c : Command) (mode : Mode) → (d : IsDoneWork st t heard s m j FreeLeader c) → WorkBehind st t heard s m j FreeLeader
    → aim_of st t (ForJob j) ≡ Some (Acquires mode) → FreedForJob st t s (spot_of_call st.layout m) (lver_written m) j
freed_for st t heard s m j c mode d b aimed =
    let w : WayContext = way_context st t s in
    let h : FreeWay w (ForJob j) m.at m.call b.rest = b.way in
    let lver : lver_written m ≡ h.leader.lver = lver_is w m h.leader h.wrote in
    let k : ModeBehind w (ForJob j) m.at h.leader.lver b.rest = mode_behind w (ForJob j) m.at h.leader.lver b.rest mode b.ways.1 aimed h.why in
    let mode_ways = ways_behind w b.rest (ForJob j) SetMode k.after b.ways.1 in
    let take_ways = ways_behind w k.after.rest (ForJob j) TakeLeader k.take mode_ways.1 in
    let t1 : TakeWay w (ForJob j) k.take.prior.at k.take.prior.call k.take.rest = way_behind w k.after.rest (ForJob j) TakeLeader k.take mode_ways.1 in
    let own : h.leader.lver ≡ k.mode.own.lver = sym k.under ∙ moded_lver w (ForJob j) k.after.prior.at k.after.prior k.after.rest k.mode in
    let taken_lver : t1.leader.lver ≡ k.mode.own.lver = sym (lver_is w k.take.prior t1.leader t1.wrote) ∙ k.same in
    let begun : ReadBehind w (ForJob j) Phase2Read t1.after.prior t1.after.rest = read2 w (ForJob j) k.take.prior.at k.take.prior.call k.take.rest take_ways.1 t1 in
    let n_is : t1.leader.lver ≡ lver_written m = taken_lver ∙ (sym own ∙ sym lver) in
    let block : Block = moded_block k.mode.own true (generation_of t s) in
    let wrote : block_written k.after.prior ≡ Some block = block_is w k.after.rest k.after.prior block k.mode.wrote in
    let whole : lease_calls st t s (spot_of_call st.layout m) ≡ m ∷ (k.after.prior ∷ (k.take.prior ∷ (t1.after.prior ∷ t1.after.rest))) =
    b.first ∙ ap (λ xs. m ∷ xs) (k.after.before ∙ ap (λ xs. k.after.prior ∷ xs) (k.take.before ∙ ap (λ xs. k.take.prior ∷ xs) t1.after.before))
    in
    let inside : Contains (lease_calls st t s (spot_of_call st.layout m)) k.after.prior =
    subst (λ xs. Contains xs k.after.prior) (sym b.first) (contains_more m b.rest k.after.prior (prior_inside b.rest (ForJob j) SetMode k.after))
    in
    let freed_rest : freed b.rest < lver_written m =
    below (freed b.rest) (freed k.after.rest) (freed k.take.rest) t1.leader.lver (lver_written m)
    (ap (λ xs. freed xs) k.after.before ∙ freed_passed k.after.prior k.after.rest (block_is_no_leader w k.after.rest k.after.prior block k.mode.wrote))
    (ap (λ xs. freed xs) k.take.before ∙ freed_held k.take.prior k.take.rest t1.leader (leader_is w k.take.prior t1.leader t1.wrote) (held_none t1.leader t1.held))
    (take_freed w (ForJob j) k.take.prior.at k.take.prior.call k.take.rest take_ways.1 t1) n_is
    in
    record {
      read = t1.after.prior;
      mode = k.after.prior;
      free = m;
      block = block;
      read_answer = t1.heeded.answer;
      mode_answer = k.done.answer;
      free_answer = d.answer;
      of_lease = (inside, subst (λ xs. Contains xs m) (sym b.first) (contains_first m b.rest));
      begun = begun.first;
      step = Phase2Read;
      of_job = (
        subst (λ xs. Contains xs begun.first) (sym whole)
            (contains_more m (k.after.prior ∷ (k.take.prior ∷ (t1.after.prior ∷ t1.after.rest))) begun.first
            (contains_more k.after.prior (k.take.prior ∷ (t1.after.prior ∷ t1.after.rest)) begun.first
            (contains_more k.take.prior (t1.after.prior ∷ t1.after.rest) begun.first (first_inside w (ForJob j) Phase2Read t1.after.prior t1.after.rest begun)))),
        begun.its,
      );
      since = begun.earlier;
      first_since = λ again f is.
          equal_is_most begun.first.at f.at (ap (λ (z : Submitted). z.at) (sym (first_of_two w (ForJob j) Phase2Read t1.after.prior t1.after.rest begun again f is)));
      after = m ∷ k.after.prior ∷ k.take.prior ∷ [];
      before = t1.after.rest;
      split = whole;
      won = t1.won ∙ ap (λ n. end_as n (me t s)) n_is;
      moded = (
        t1.heeded.answered.0,
        later t1.heeded.answer.at k.take.prior.at k.taken.answer.at k.after.prior.at t1.heeded.by k.taken.made k.taken.by,
        wrote,
        refl,
        refl,
        sym taken_lver ∙ n_is,
        k.done.answered,
      );
      freed = (k.done.by, frees m h.leader (lver_written m) (leader_is w m h.leader h.wrote) (sym lver) h.free, d.done);
      first = λ f there is. first_free f there is freed_rest;
      kept = subst (λ xs. SharedFrom st t s k.after.prior.call.number xs) (sym b.first)
          (shared_more st t s k.after.prior.call.number m b.rest (λ x writes. absurd (no_value x (block_written m) writes (leader_is_no_block w m h.leader h.wrote)))
          (subst (λ xs. SharedFrom st t s k.after.prior.call.number xs) (sym k.after.before)
          (shared_more st t s k.after.prior.call.number k.after.prior k.after.rest (own_shared st t s (ForJob j) k.after.prior.at k.after.prior k.after.rest k.mode)
          (λ f x there le writes. absurd (below_none f.call.number k.after.prior.call.number (mode_ways.0.above f there) le)))));
    }
  where
    below : (a b e l n : ℕ) → a ≡ b → b ≡ e → e < l → l ≡ n → a < n
    below a b e l n one two lt is = omega (arith, one, two, lt, is)

    later : (a b e f : ℕ) → a ≤ b → b ≤ e → e ≤ f → a ≤ f
    later a b e f one two three = omega (arith, one, two, three)

    end_as : ℕ → Owner → Option (ℕ × Owner)
    end_as = λ n o. Some (n, o)

    frees : (k : Submitted) (l : Leader) (n : ℕ) → leader_written k ≡ Some l → l.lver ≡ n → l.held ≡ false → is_free_write n k ≡ true
    frees k l n is under free =
        ap (λ o. some_is (λ (z : Leader). z.lver == n && not z.held) o) is ∙ (ap (λ v. v == n && not l.held) under ∙ (ap (λ v. v && not l.held) (number_itself n) ∙ ap (λ v. not v) free))

    first_free : (f : Submitted) → Contains (lease_calls st t s (spot_of_call st.layout m)) f → IsTrue (is_free_write (lver_written m) f) → freed b.rest < lver_written m → m.call.number ≤ f.call.number
    first_free f there is less = by (contains_cases m b.rest f (subst (λ xs. Contains xs f) b.first there)) where
      by : (m ≡ f) ⊎ Contains b.rest f → m.call.number ≤ f.call.number
      by (inl same) = equal_is_most m.call.number f.call.number (ap (λ (z : Submitted). z.call.number) same)
      by (inr old) = absurd (below_none (freed b.rest) (lver_written m) less (free_below b.rest (lver_written m) f old is))

moded_for : (st : Setting) (t : Trace) (heard : Option ℕ) (s : Session) (m : Submitted) (j : ℕ) (c : Command) → WorkBehind st t heard s m j SetMode → ModedForJob st t s (spot_of_call st.layout m) m
moded_for st t heard s m j c b =
    let h : ModeWay (way_context st t s) (ForJob j) m.at m.call b.rest = b.way in
    record {
      block = moded_block h.own true (generation_of t s);
      written = (block_is (way_context st t s) b.rest m (moded_block h.own true (generation_of t s)) h.wrote, refl, refl);
      kept = subst (λ xs. SharedFrom st t s m.call.number xs) (sym b.first)
          (shared_more st t s m.call.number m b.rest (own_shared st t s (ForJob j) m.at m b.rest h) (λ f x there le writes. absurd (below_none f.call.number m.call.number (b.ways.0.above f there) le)));
    }

-- ---- the whole

aim_is : (st : Setting) (t : Trace) (j : ℕ) (c : Command) (aim : Aim) → command_numbered st t j ≡ Some c → aim_of_command c ≡ Some aim → aim_of st t (ForJob j) ≡ Some aim
aim_is st t j c aim known is = ap (λ o. option_and_then aim_of_command o) known ∙ is

pub grants_follow : (st : Setting) (t : Trace) (heard : Option ℕ) → WayFacts st t → TurnFacts st t heard → GrantGrounds st t heard
grants_follow st t heard ways turns =
    record {
      acquired = λ s m j c d is. stands st t heard s m j c (Acquires Exclusive) d (work_behind st t heard s m j TakeLeader c ways turns d) (aim_is st t j c (Acquires Exclusive) d.work.command is) refl;
      converted = λ s m j c d is. stands st t heard s m j c (Converts Exclusive) d (work_behind st t heard s m j TakeLeader c ways turns d) (aim_is st t j c (Converts Exclusive) d.work.command is) refl;
      shared = λ s m j c mode d is. freed_for st t heard s m j c mode d (work_behind st t heard s m j FreeLeader c ways turns d) (aim_is st t j c (Acquires mode) d.work.command is);
      moded = λ s m j c d is. moded_for st t heard s m j c (work_behind st t heard s m j SetMode c ways turns d);
    }
