-- What a ballot's steps, modes and leaders ask of the calls before them, they have by their ways.
use Rattle.sl_run.specs.LawfulBlock.{FirstAfter, LawfulModeWrite, LawfulPhase2, LawfulPhase2Read, ReadAfter}
use Rattle.sl_run.specs.LawfulLeader.{HasWon}
use Rattle.sl_due_leases.specs.Ways.WayLaws.{WaysAreLawful}
use Rattle.sl_due_leases.proofs.Ways.NewestCall.{block_is, ended_here, freed_passed, leader_is, leader_is_no_block, read_writes_no_block, read_writes_no_leader, submitted_here, submitted_passed}
use Rattle.sl_due_leases.proofs.Ways.WayNumbers.{Doing, EndsBy, Frees, Reads, Takes, Writes_ballot, Writes_mode, doing, ended_concludes, ends_by}
use Rattle.sl_due_leases.proofs.Ways.WayStages.{ReadBehind, asked1, asked2_freed, asked2_last, asked2_own, begun1, begun1_own, by_at, by_inside, clear_last, first_of_two, prior_at, proposed, proposed2, read1, read_behind, rest_freed, rest_own, written_before}
use Rattle.sl_trace.specs.Ballots.{ballot_blocks, moded_block, phase2_block}
use Rattle.sl_trace.specs.Leases.{Phase1_read, Phase1_write, Phase2_write, block_submitted, block_written, ended_ballots, freed, last_blocks, leader_written, lease_calls, open_ballot, own_block, own_or_read}
use Rattle.sl_sector.specs.declared.sector.Block.{Block}
use Rattle.sl_sector.specs.declared.sector.Leader.{Leader}
use Rattle.sl_trace.specs.Sessions.{me}
use Rattle.sl_trace.specs.declared.session.Session.{Session}
use Rattle.sl_due_facts.specs.Facts.WayFacts.{ClearWay, IsWrittenBy, ModeWay, Phase1ReadWay, Phase1Way, Phase2ReadWay, Phase2Way, TakeWay, WayContext, Ways, WritesBlock, way_context}
use Rattle.sl_words.specs.Words.{some_is}
use Rattle.sl_trace.specs.Traces.{Answered, Setting, Submitted, Trace}
use Rattle.sl_trace.specs.declared.effects.Call.{Call}
use Rattle.sl_trace.specs.declared.effects.LeaseRead.TheVariants.{OfPhase2}
use Rattle.sl_trace.specs.declared.effects.LeaseStep.TheVariants.{Phase1Read, Phase1Write, Phase2Read, Phase2Write}
use Rattle.sl_trace.specs.declared.effects.LeaseStep.{LeaseStep}
use Rattle.sl_trace.specs.declared.effects.Spot.{Spot}
use Rattle.sl_trace.specs.declared.effects.Work.{Work}
use Rattle.sl_words.proofs.CaseLaws.{none_some, one_value, some_value}
use Rattle.std.proofs.Common.{ap, arith, refl, subst, sym, ◌∙◌}
use Rattle.std.specs.Prelude.{Bool, Contains, [], false, true, List, None, Some, ℕ, ◌<◌, ◌∷◌, ◌≡◌, ◌≤◌}

-- The calls of the session's lease.
abbrev pub calls : Setting → Trace → Session → Spot → List Submitted
calls st t s at = lease_calls st t s at

pub read_after : (m c : Submitted) → IsWrittenBy m c.at → ReadAfter m c
read_after m c h = record { answer = h.answer; answered = h.answered; later = h.by }

-- A write that was done before the first of two reads.
pub first_after : (w : WayContext) (work : Work) (step : LeaseStep) (read : Submitted) (before : List Submitted) → (b : ReadBehind w work step read before) → (write : Submitted) → IsWrittenBy write b.first.at
    → FirstAfter write read before
first_after w work step read before b write h again first is =
    subst (λ (z : Submitted). ReadAfter write z) (sym (first_of_two w work step read before b again first is)) (read_after write b.first h)

pub block_same : (c : Submitted) (a b : Block) → block_written c ≡ Some a → block_written c ≡ Some b → a ≡ b
block_same c a b is was = some_value a b (sym is ∙ was)

-- ---- phase 2

pub phase2_is_lawful : (st : Setting) (t : Trace) (s : Session) (at : Spot) → Ways (way_context st t s) (lease_calls st t s at) → (work : Work) (c : Submitted) (b : Block)
    → Phase2Way (way_context st t s) work c.call (lease_calls st t s at) → block_written c ≡ Some b → LawfulPhase2 st t s at c b
phase2_is_lawful st t s at ws work c b h writes =
    let w : WayContext = way_context st t s in
    let b1 : ReadBehind w work Phase1Read h.after.prior h.after.rest = read1 w work c.call (calls st t s at) ws h in
    let r : Phase1ReadWay w work b1.first.at b1.first.call b1.older = asked1 w work c.call (calls st t s at) ws h in
    let begun : Phase1Way w r.after.prior.call r.after.rest = begun1 w work c.call (calls st t s at) ws h in
    record {
      own = h.own;
      write = r.after.prior;
      read = h.after.prior;
      blocks = h.blocks;
      last = clear_last w work c.call (calls st t s at) ws h;
      wrote = (
        block_is w r.after.rest r.after.prior begun.own begun.wrote ∙ ap (λ z. Some z) (begun1_own w work c.call (calls st t s at) ws h),
        prior_at Phase1_write b1.older work Phase1Write r.after refl,
      );
      of_lease = (by_inside (calls st t s at) work Phase1Read h.after, by_at Phase1_read (calls st t s at) work Phase1Read h.after refl);
      after = [];
      before = h.after.rest;
      split = h.after.before;
      ordered = read_after r.after.prior h.after.prior (written_before w work Phase1Read h.after.prior h.after.rest b1 r.after.prior r.done);
      first_ordered = first_after w work Phase1Read h.after.prior h.after.rest b1 r.after.prior r.done;
      given = h.given;
      clear = h.clear;
      written = subst (λ (x : Block). x ≡ moded_block (phase2_block (me t s) h.own (ballot_blocks h.own h.blocks)) x.shared x.mode_gen)
          (block_same c (proposed w work c.call (calls st t s at) h) b (block_is w (calls st t s at) c (proposed w work c.call (calls st t s at) h) h.wrote) writes) refl;
    }

pub phase2_read_is_lawful : (st : Setting) (t : Trace) (s : Session) (at : Spot) → Ways (way_context st t s) (lease_calls st t s at) → (work : Work) (c : Submitted)
    → Phase2ReadWay (way_context st t s) work c.at c.call (lease_calls st t s at) → LawfulPhase2Read st t s at c
phase2_read_is_lawful st t s at ws work c h =
    record {
      write = h.after.prior;
      last = asked2_last (way_context st t s) work c.at c.call (calls st t s at) ws h;
      is_phase2 = prior_at Phase2_write (calls st t s at) work Phase2Write h.after refl;
      ordered = read_after h.after.prior c h.done;
    }

-- ---- modes

begun_at_least : (a n : ℕ) → a < n → 1 ≤ n
begun_at_least a n lt = omega (arith, lt)

-- The own block that was submitted has begun.
pub own_begun : (w : WayContext) (ms : List Submitted) → Ways w ms → (b : Block) → block_submitted ms ≡ Some b → 1 ≤ b.lver
own_begun w [] h b is = absurd (none_some b is)
own_begun w (m ∷ ms) h b is = by (doing w m ms h.1 h.0) (λ x old. own_begun w ms h.1 x old) where
  here : (x : Block) → WritesBlock w ms m.call x → 1 ≤ x.lver → 1 ≤ b.lver
  here x op one = subst (λ (z : Block). 1 ≤ z.lver) (some_value x b (sym (submitted_here m ms x (block_is w ms m x op)) ∙ is)) one

  behind : block_written m ≡ None → block_submitted ms ≡ Some b
  behind none = sym (submitted_passed m ms none) ∙ is

  by : Doing w m ms → ((x : Block) → block_submitted ms ≡ Some x → 1 ≤ x.lver) → 1 ≤ b.lver
  by (Reads n op) before = before b (behind (read_writes_no_block m n op))
  by (Writes_ballot x op up fresh named) before = here x op (begun_at_least (freed ms) x.lver fresh)
  by (Writes_mode x own op known same other) before = here x op (subst (λ n. 1 ≤ n) same (before own known))
  by (Takes l op held) before = before b (behind (leader_is_no_block w m l op))
  by (Frees l op free won concluded) before = before b (behind (leader_is_no_block w m l op))

-- The own block, by that which was submitted last.
pub own_is : (st : Setting) (t : Trace) (s : Session) (at : Spot) (own : Block) → block_submitted (lease_calls st t s at) ≡ Some own → own_block st.layout s.id (lease_calls st t s at) ≡ Some own
own_is st t s at own is = ap (λ o. own_or_read s.id o (last_blocks st.layout (lease_calls st t s at))) is

mode_is_lawful : (st : Setting) (t : Trace) (s : Session) (at : Spot) → Ways (way_context st t s) (lease_calls st t s at) → (c : Submitted) (own b : Block) (shared : Bool) (gen : ℕ)
    → block_submitted (lease_calls st t s at) ≡ Some own → WritesBlock (way_context st t s) (lease_calls st t s at) c.call (moded_block own shared gen) → block_written c ≡ Some b → LawfulModeWrite st t s at b
mode_is_lawful st t s at ws c own b shared gen known wrote writes =
    record {
      own = own;
      known = own_is st t s at own known;
      begun = own_begun (way_context st t s) (calls st t s at) ws own known;
      written = subst (λ (x : Block). x ≡ moded_block own x.shared x.mode_gen) (block_same c (moded_block own shared gen) b (block_is (way_context st t s) (calls st t s at) c (moded_block own shared gen) wrote) writes) refl;
    }

pub set_mode_is_lawful : (st : Setting) (t : Trace) (s : Session) (at : Spot) → Ways (way_context st t s) (lease_calls st t s at) → (work : Work) (c : Submitted) (b : Block)
    → ModeWay (way_context st t s) work c.at c.call (lease_calls st t s at) → block_written c ≡ Some b → LawfulModeWrite st t s at b
set_mode_is_lawful st t s at ws work c b h writes = mode_is_lawful st t s at ws c h.own b true (me t s).generation h.known h.wrote writes

pub clear_mode_is_lawful : (st : Setting) (t : Trace) (s : Session) (at : Spot) → Ways (way_context st t s) (lease_calls st t s at) → (c : Submitted) (b : Block)
    → ClearWay (way_context st t s) c.call (lease_calls st t s at) → block_written c ≡ Some b → LawfulModeWrite st t s at b
clear_mode_is_lawful st t s at ws c b h writes = mode_is_lawful st t s at ws c h.own b false 0 h.known h.wrote writes

-- ---- leaders

-- What stands behind a take: phase 2's read.
abbrev pub read2 : (w : WayContext) (work : Work) (at : ℕ) (c : Call) (ms : List Submitted) → Ways w ms → (h : TakeWay w work at c ms) → ReadBehind w work Phase2Read h.after.prior h.after.rest
read2 w work at c ms ws h = read_behind w ms work OfPhase2 h.after ws

-- That read's way.
abbrev pub asked2 : (w : WayContext) (work : Work) (at : ℕ) (c : Call) (ms : List Submitted) → (ws : Ways w ms) → (h : TakeWay w work at c ms)
    → Phase2ReadWay w work (read2 w work at c ms ws h).first.at (read2 w work at c ms ws h).first.call (read2 w work at c ms ws h).older
asked2 w work at c ms ws h = (read2 w work at c ms ws h).way

-- The block that stands then.
abbrev pub proposed3 : (w : WayContext) (work : Work) (at : ℕ) (c : Call) (ms : List Submitted) → Ways w ms → TakeWay w work at c ms → Block
proposed3 w work at c ms ws h =
    proposed2 w work (read2 w work at c ms ws h).first.at (read2 w work at c ms ws h).first.call (read2 w work at c ms ws h).older (read2 w work at c ms ws h).ways (asked2 w work at c ms ws h)

-- It is the own block at the end of the ballot.
pub taken_own : (w : WayContext) (work : Work) (at : ℕ) (c : Call) (ms : List Submitted) → (ws : Ways w ms) → (h : TakeWay w work at c ms) → block_submitted h.after.rest ≡ Some (proposed3 w work at c ms ws h)
taken_own w work at c ms ws h =
    let r : ReadBehind w work Phase2Read h.after.prior h.after.rest = read2 w work at c ms ws h in
    rest_own w work Phase2Read h.after.prior h.after.rest r ∙ asked2_own w work r.first.at r.first.call r.older r.ways (asked2 w work at c ms ws h)

-- The block with which the instance was won.
pub won_own : (w : WayContext) (work : Work) (at : ℕ) (c : Call) (ms : List Submitted) → (ws : Ways w ms) → (h : TakeWay w work at c ms) → (proposed3 w work at c ms ws h).lver ≡ h.leader.lver
won_own w work at c ms ws h =
    let e : EndsBy w.layout h.after.prior h.after.rest h.leader.lver w.self = ends_by w.layout h.after.prior h.after.rest h.leader.lver w.self h.won in
    ap (λ (b : Block). b.lver) (one_value (proposed3 w work at c ms ws h) e.own (block_submitted h.after.rest) (taken_own w work at c ms ws h) e.known) ∙ e.lver

pub take_freed : (w : WayContext) (work : Work) (at : ℕ) (c : Call) (ms : List Submitted) → Ways w ms → (h : TakeWay w work at c ms) → freed ms < h.leader.lver
take_freed w work at c ms ws h =
    let r : ReadBehind w work Phase2Read h.after.prior h.after.rest = read2 w work at c ms ws h in
    let same : freed ms ≡ freed r.older =
    ap (λ xs. freed xs) h.after.before ∙ freed_passed h.after.prior h.after.rest (read_writes_no_leader h.after.prior r.sectors r.reads.1)
    ∙ rest_freed w work Phase2Read h.after.prior h.after.rest r
    in
    let fresh : freed r.older < (proposed3 w work at c ms ws h).lver = asked2_freed w work r.first.at r.first.call r.older r.ways (asked2 w work at c ms ws h) in
    let lver : (proposed3 w work at c ms ws h).lver ≡ h.leader.lver = won_own w work at c ms ws h in omega (arith, same, fresh, lver)

pub take_won : (w : WayContext) (work : Work) (at : ℕ) (c : Call) (ms : List Submitted) → (h : TakeWay w work at c ms) → Contains (ended_ballots w.layout ms) (h.leader.lver, w.self)
take_won w work at c ms h =
    subst (λ xs. Contains (ended_ballots w.layout xs) (h.leader.lver, w.self)) (sym h.after.before) (ended_here w.layout h.after.prior h.after.rest (h.leader.lver, w.self) h.won)

-- No ballot is open once the instance was won.
pub take_concludes : (w : WayContext) (work : Work) (at : ℕ) (c : Call) (ms : List Submitted) → Ways w ms → (h : TakeWay w work at c ms) → open_ballot w.layout ms ≡ None
take_concludes w work at c ms ws h =
    let r : ReadBehind w work Phase2Read h.after.prior h.after.rest = read2 w work at c ms ws h in
    ap (λ xs. open_ballot w.layout xs) h.after.before
    ∙ ended_concludes w.layout h.after.prior h.after.rest h.leader.lver w.self (read_writes_no_block h.after.prior r.sectors r.reads.1)
    (ap (λ o. some_is (λ (a : Answered). a.heeded) o) h.heeded.answered.0 ∙ h.heeded.answered.1) h.won

take_stands : (st : Setting) (t : Trace) (s : Session) (at : Spot) → Ways (way_context st t s) (lease_calls st t s at) → (work : Work) (c : Submitted) (l : Leader)
    → TakeWay (way_context st t s) work c.at c.call (lease_calls st t s at) → leader_written c ≡ Some l → HasWon st t s at l.lver × (freed (lease_calls st t s at) < l.lver)
take_stands st t s at ws work c l h writes =
    let lver : h.leader.lver ≡ l.lver = ap (λ (z : Leader). z.lver) (some_value h.leader l (sym (leader_is (way_context st t s) c h.leader h.wrote) ∙ writes)) in (
      subst (λ n. Contains (ended_ballots st.layout (lease_calls st t s at)) (n, me t s)) lver (take_won (way_context st t s) work c.at c.call (lease_calls st t s at) h),
      subst (λ n. freed (lease_calls st t s at) < n) lver (take_freed (way_context st t s) work c.at c.call (lease_calls st t s at) ws h),
    )

-- Each call is lawful by its way.
pub ways_are_lawful : WaysAreLawful
ways_are_lawful =
    record {
      phase2 = phase2_is_lawful;
      phase2_read = phase2_read_is_lawful;
      mode = set_mode_is_lawful;
      clear = clear_mode_is_lawful;
      take = take_stands;
    }
