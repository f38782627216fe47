-- The base of a phase 2 is a phase 1: the session's last block before it was written at that step.
use Rattle.sl_safety.proofs.Ballot.Phase2Apart.{host_there}
use Rattle.sl_safety.proofs.Ballot.Phase2Last.{OwnLast}
use Rattle.sl_safety.specs.Ballot.Endings.{HostsJoin}
use Rattle.sl_ballot_law.specs.Ballots.{IsPhase1}
use Rattle.sl_run_law.specs.Leases.Ways.{Of_mode, Of_phase1, Of_phase2, Way}
use Rattle.sl_trace.specs.Leases.{Mode_cleared, Mode_set, Phase1_write, Phase2_write, block_of_record, block_written, is_at}
use Rattle.sl_safety.proofs.Resources.BlockOrigins.{WrittenAt, block_by}
use Rattle.sl_safety.proofs.Resources.Bases.{Based, based}
use Rattle.sl_safety.proofs.Resources.StepsNameCalls.{block_at_step, block_works as block_is_work, worker_joined}
use Rattle.sl_safety.proofs.Resources.PhaseOne.{phase1_of}
use Rattle.sl_safety.proofs.Resources.OwnBlocks.{OwnWritten, base_by}
use Rattle.sl_safety.proofs.Resources.CallParts.{Standing, standing}
use Rattle.sl_safety.specs.Resources.Histories.{base_of, is_host}
use Rattle.sl_safety.specs.Resources.HistoryLaws.{history_of_line, spot_of_line}
use Rattle.sl_safety.specs.Resources.SentCalls.{Sent, block_of_course, sent_at, step_of, writes_block}
use Rattle.sl_run.specs.Runs.{Happening}
use Rattle.sl_run.specs.Safety.{LawfulRun, world_at}
use Rattle.sl_run.specs.Worlds.{Program, World}
use Rattle.sl_run.specs.declared.header.Header.{Header}
use Rattle.sl_run.specs.declared.header.ResourceLine.{ResourceLine}
use Rattle.sl_sector.specs.declared.sector.Block.{Block}
use Rattle.sl_trace.specs.Traces.{Submitted, new_call, record_of}
use Rattle.sl_trace.specs.declared.effects.Call.{Call}
use Rattle.sl_trace.specs.declared.effects.Spot.{Spot}
use Rattle.std.proofs.Common.{ap, inl, inr, refl, sym, ◌∙◌}
use Rattle.std.specs.Option.{option_map_or}
use Rattle.std.specs.Prelude.{Contains, List, Some, is_some, option_and_then, true, ℕ, ◌≡◌, ◌⊎◌}
use Rattle.sl_safety.proofs.Resources.RepeatedReads.{one_kind}

-- ---- the base

-- The block that was written last before.
pub last_wrote : (w : World) (at : Spot) (x : Sent) (s : Standing w x) (write : Submitted) (y : OwnLast w at x s write) (own : Block) → block_written write ≡ Some own
    → block_of_course y.sent.course ≡ Some own
last_wrote w at x s write y own wrote = ap (λ (c : Call). option_and_then block_of_record (record_of c.op)) (sym y.pair.call) ∙ wrote

pub own_of_last : (w : World) (at : Spot) (x : Sent) (s : Standing w x) (write : Submitted) (y : OwnLast w at x s write) (own : Block) → block_written write ≡ Some own
    → OwnWritten w at x own
own_of_last w at x s write y own wrote =
    record {
      sent = y.sent;
      has = y.has;
      on = y.on;
      block = last_wrote w at x s write y own wrote;
      before = y.before;
      sender = y.sender;
      base = ap (base_by w at x) y.last;
      newest = y.newest;
    }

pub base_is : (p : Program) (h : Header) (xs : List Happening) (r : ResourceLine) (e : ℕ) (x : WrittenAt p h xs r e) (s : Standing (world_at p h xs) x.sent) (write : Submitted)
    → (y : OwnLast (world_at p h xs) (spot_of_line r) x.sent s write) → (history_of_line p h xs r).base e ≡ step_of y.sent
base_is p h xs r e x s write y =
    ap (λ o. option_map_or (base_of (world_at p h xs) (spot_of_line r)) o 0) x.is ∙ ap (base_by (world_at p h xs) (spot_of_line r) x.sent) y.last

-- A block that was sent, as what is written at its step.
abbrev pub written_there : (p : Program) (h : Header) (xs : List Happening) → LawfulRun p h xs → (r : ResourceLine) → Contains h.resources r → (x : Sent) (s : Standing (world_at p h xs) x)
    → (write : Submitted) (y : OwnLast (world_at p h xs) (spot_of_line r) x s write) (own : Block) → block_written write ≡ Some own → WrittenAt p h xs r (step_of y.sent)
written_there p h xs run r there x s write y own wrote =
    let w : World = world_at p h xs in
    let is : sent_at w (spot_of_line r) writes_block (step_of y.sent) ≡ Some y.sent = block_at_step p h xs run r there y.sent y.has y.on y.writes in
    let block : block_of_course y.sent.course ≡ Some own = last_wrote w (spot_of_line r) x s write y own wrote in
    record {
      sent = y.sent;
      is = is;
      has = y.has;
      step_is = refl;
      on = y.on;
      block = own;
      wrote = block;
      shown = block_by (sent_at w (spot_of_line r) writes_block (step_of y.sent)) y.sent own is block;
    }

-- ---- its step

mode_apart : (m : Submitted) → is_at Phase1_write m ≡ true → (is_at Mode_set m ≡ true) ⊎ (is_at Mode_cleared m ≡ true) → ⊥
mode_apart m one (inl set) = let e = one_kind Phase1_write Mode_set m one set in cc
mode_apart m one (inr cleared) = let e = one_kind Phase1_write Mode_cleared m one cleared in cc

one_by : (p : Program) (h : Header) (xs : List Happening) → LawfulRun p h xs → (r : ResourceLine) → Contains h.resources r → (e : ℕ) (v : WrittenAt p h xs r e)
    → (s : Standing (world_at p h xs) v.sent) → is_host (world_at p h xs) s.session.id ≡ true → (b : Based p h xs r v.sent s v.block) → is_at Phase1_write b.call ≡ true
    → Way s.session b.call b.own v.block → IsPhase1 (history_of_line p h xs r) e
one_by p h xs run r there e v s host b at (Of_phase1 one k) = phase1_of p h xs run r there e v s host b one k
one_by p h xs run r there e v s host b at (Of_phase2 two k) = let e = one_kind Phase1_write Phase2_write b.call at two in absurd cc
one_by p h xs run r there e v s host b at (Of_mode mode k) = absurd (mode_apart b.call at mode)

-- What is written at the step of phase 1 is a phase 1.
pub is_one : (p : Program) (h : Header) (xs : List Happening) → LawfulRun p h xs → (r : ResourceLine) → Contains h.resources r → HostsJoin (world_at p h xs) r.lockspace
    → (e : ℕ) (v : WrittenAt p h xs r e) → is_at Phase1_write (new_call 0 0 v.sent.course.call) ≡ true → IsPhase1 (history_of_line p h xs r) e
is_one p h xs run r there hosts e v at =
    let w : World = world_at p h xs in
    let s = standing p h xs run v.sent v.has in
    let joined = worker_joined p h xs r v.sent (block_is_work p h xs run r there v.sent v.has v.on (ap (λ o. is_some o) v.wrote)) in
    let b = based p h xs run r there v.sent v.has s v.on v.block v.wrote in
    one_by p h xs run r there e v s (host_there w r.lockspace hosts v.sent s joined) b (ap (λ (c : Call). is_at Phase1_write (new_call 0 0 c)) (b.same ∙ s.told.pair.call) ∙ at) b.way
