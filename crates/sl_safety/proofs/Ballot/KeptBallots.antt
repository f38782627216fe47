-- Each write of a history is one of a ballot: it has an own block, and is a phase 1 with its reason, a phase 2, or a change of mode.
use Rattle.sl_safety.proofs.Ballot.ReasonGiven.{have_reasons}
use Rattle.sl_safety.specs.Ballot.Endings.{EndedBallotsEnd, HostsJoin}
use Rattle.sl_safety.specs.Ballot.Reasons.{HistoriesKeepTheirBallots}
use Rattle.sl_ballot_law.specs.Ballots.{IsPhase2, Mode_only, Phase, Phase_1, Phase_2}
use Rattle.sl_ballot_law.specs.History.{History}
use Rattle.sl_run_law.specs.Leases.Ways.{Of_mode, Of_phase1, Of_phase2, Way}
use Rattle.sl_trace.specs.Leases.{Phase1_write, Phase2_write, StepKind, is_at}
use Rattle.sl_safety.proofs.Resources.BlockOrigins.{WrittenAt, written_at}
use Rattle.sl_safety.proofs.GivenReads.BlocksNameHosts.{own_host}
use Rattle.sl_safety.proofs.Resources.Bases.{Based, based}
use Rattle.sl_safety.proofs.Resources.StepsNameCalls.{worker_joined, block_works as block_is_work}
use Rattle.sl_safety.proofs.Resources.WritesHaveBases.{have_bases}
use Rattle.sl_safety.proofs.Resources.PhaseOne.{mode_of, phase1_of}
use Rattle.sl_safety.proofs.Resources.CallParts.{Standing, standing}
use Rattle.sl_safety.specs.Resources.Histories.{is_host}
use Rattle.sl_safety.specs.Resources.HistoryLaws.{NamesDiffer, history_of_line, spot_of_line}
use Rattle.sl_safety.specs.Resources.SentCalls.{Sent, sender_of, sent_at, writes_block}
use Rattle.sl_run.specs.Runs.{Happening}
use Rattle.sl_run.specs.Safety.{LawfulRun, world_at}
use Rattle.sl_run.specs.Worlds.{Program, World}
use Rattle.sl_run.specs.declared.header.Header.{Header}
use Rattle.sl_run.specs.declared.header.ResourceLine.{ResourceLine}
use Rattle.sl_trace.specs.Traces.{Submitted, new_call}
use Rattle.std.proofs.Common.{ap, subst, sym, ◌∙◌}
use Rattle.std.specs.Prelude.{Contains, IsTrue, List, Some, is_some, true, ℕ, ◌≡◌}

-- Each write at the step of phase 2 is a phase 2.
abbrev pub Phase2sAre : Type 0
Phase2sAre = (p : Program) (h : Header) (xs : List Happening) (r : ResourceLine) → LawfulRun p h xs → Contains h.resources r → NamesDiffer (world_at p h xs) r.lockspace
    → HostsJoin (world_at p h xs) r.lockspace → (e : ℕ) (x : Sent) → sent_at (world_at p h xs) (spot_of_line r) writes_block e ≡ Some x
    → IsTrue (is_at Phase2_write (new_call 0 0 x.course.call)) → IsPhase2 (history_of_line p h xs r) e

-- The step of the call of a base is that of the write.
at_call : (p : Program) (h : Header) (xs : List Happening) (r : ResourceLine) (e : ℕ) (x : WrittenAt p h xs r e) (s : Standing (world_at p h xs) x.sent) (c : Submitted) (kind : StepKind)
    → c.call ≡ s.told.one.call → is_at kind c ≡ true → is_at kind (new_call 0 0 x.sent.course.call) ≡ true
at_call p h xs r e x s c kind same at = ap (λ y. is_at kind (new_call 0 0 y)) (sym (same ∙ s.told.pair.call)) ∙ at

phase_of : EndedBallotsEnd → Phase2sAre → (p : Program) (h : Header) (xs : List Happening) (r : ResourceLine) → LawfulRun p h xs → Contains h.resources r
    → NamesDiffer (world_at p h xs) r.lockspace → HostsJoin (world_at p h xs) r.lockspace → (e : ℕ) (x : WrittenAt p h xs r e) (s : Standing (world_at p h xs) x.sent)
    → (b : Based p h xs r x.sent s x.block) → is_host (world_at p h xs) s.session.id ≡ true → Way s.session b.call b.own x.block → Phase (history_of_line p h xs r) e
phase_of ended_given phase2_given p h xs r run there differ hosts e x s b host (Of_phase1 at k) =
    Phase_1 (record {
      one = phase1_of p h xs run r there e x s host b at k;
      reason = have_reasons ended_given p h xs r run there differ hosts e x.sent x.is (at_call p h xs r e x s b.call Phase1_write b.same at);
    })
phase_of ended_given phase2_given p h xs r run there differ hosts e x s b host (Of_phase2 at k) =
    Phase_2 (phase2_given p h xs r run there differ hosts e x.sent x.is (at_call p h xs r e x s b.call Phase2_write b.same at))
phase_of ended_given phase2_given p h xs r run there differ hosts e x s b host (Of_mode at k) = Mode_only (mode_of p h xs run r there e x s host b k)

pub keep_ballots : EndedBallotsEnd → Phase2sAre → HistoriesKeepTheirBallots
keep_ballots ended_given phase2_given p h xs r run there differ hosts =
    let w : World = world_at p h xs in
    let H : History = history_of_line p h xs r in
    record {
      base = λ e writes. have_bases p h xs r run there differ e writes;
      phase = λ e writes.
          let x = written_at p h xs r e writes in
          let s = standing p h xs run x.sent x.has in
          let b = based p h xs run r there x.sent x.has s x.on x.block x.wrote in
          let joined = worker_joined p h xs r x.sent (block_is_work p h xs run r there x.sent x.has x.on (ap (λ o. is_some o) x.wrote)) in
          phase_of ended_given phase2_given p h xs r run there differ hosts e x s b (subst (λ n. is_host w n ≡ true) (own_host w x.sent s) (hosts (sender_of x.sent) joined)) b.way;
    }
