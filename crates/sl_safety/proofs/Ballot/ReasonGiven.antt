-- Each phase 1 of a history has the reason that its session's trace has, given that ballots that end in traces end in histories.
use Rattle.sl_safety.proofs.Ballot.ReasonCases.{Begins, Writing, front_trace, reason_of}
use Rattle.sl_safety.proofs.Ballot.ReasonFronted.{fronted}
use Rattle.sl_safety.specs.Ballot.Endings.{EndedBallotsEnd}
use Rattle.sl_safety.specs.Ballot.Reasons.{InstancesHaveReasons}
use Rattle.sl_ballot_law.specs.Ballots.{BeginReason}
use Rattle.sl_ballot_law.specs.History.{History}
use Rattle.sl_run.specs.LawfulBlock.{LawfulPhase1}
use Rattle.sl_trace.specs.Leases.{Phase1_write, freed, is_at, lease_calls, lease_step, spot_of_call}
use Rattle.sl_words.proofs.Numbers.{above_zero}
use Rattle.sl_safety.proofs.Resources.BlockOrigins.{block_by, line_aligned, told_spot}
use Rattle.sl_safety.proofs.Resources.StepsNameCalls.{found_at, worker_joined, block_works as block_is_work}
use Rattle.sl_safety.proofs.Resources.WritesHaveBases.{writer_is}
use Rattle.sl_safety.proofs.Resources.PhaseOne.{one_write}
use Rattle.sl_safety.proofs.Resources.OwnBlocks.{block_is_lease, block_works, front_at, lease_is_work, written}
use Rattle.sl_safety.proofs.Resources.CallParts.{Standing, standing}
use Rattle.sl_safety.specs.Resources.Histories.{history_block}
use Rattle.sl_safety.specs.Resources.HistoryLaws.{history_of_line, spot_of_line}
use Rattle.sl_safety.specs.Resources.SentCalls.{holder_of, sender_of, sent_at, step_of, writes_block}
use Rattle.sl_run.specs.Safety.{world_at}
use Rattle.sl_run.specs.Worlds.{World}
use Rattle.sl_trace.specs.Traces.{Setting, Submitted, new_call}
use Rattle.std.proofs.Common.{ap, refl, subst, sym, ◌∙◌}
use Rattle.std.specs.Prelude.{length, true, ◌≡◌}

-- ---- the law of phase 1

-- ---- the reason

pub have_reasons : EndedBallotsEnd → InstancesHaveReasons
have_reasons ended_given p h xs r run there differ hosts e x is at =
    let w : World = world_at p h xs in
    let H : History = history_of_line p h xs r in
    let f = found_at w r writes_block e x is in
    let b = written x.course f.1 in
    let s : Standing w x = standing p h xs run x f.0.sent in
    let area = lease_is_work x.course.call.purpose (block_is_lease w x s b.0 b.1) in
    let front = front_at w x s b.0 b.1 in
    let k : Writing p h xs r x s =
    record {
      run = run;
      there = there;
      differ = differ;
      hosts = hosts;
      has = f.0.sent;
      on = f.0.on;
      block = b.0;
      wrote = b.1;
      joined = worker_joined p h xs r x (block_is_work p h xs run r there x f.0.sent f.0.on f.1);
      work = block_works x.course b.0 b.1;
      area = area;
      spot = told_spot p h xs run (spot_of_line r) (line_aligned p h xs run r there) x s f.0.on;
      front = front.submission;
      fronted = fronted w x s front.submission area;
    } in
    let st : Setting = s.daemon.setting in
    let new : Submitted = new_call (length k.front.past) k.front.entry.reading k.front.call in
    let at_front : is_at Phase1_write new ≡ true = ap (λ c. is_at Phase1_write (new_call 0 0 c)) (sym k.front.itself.call ∙ s.told.pair.call) ∙ at in
    let here : spot_of_call st.layout new ≡ spot_of_line r = ap (λ c. spot_of_call st.layout (new_call 0 0 c)) (sym k.front.itself.call) ∙ k.spot in
    let one : LawfulPhase1 st (front_trace k) s.session (spot_of_line r) new b.0 =
    subst (λ a. LawfulPhase1 st (front_trace k) s.session a new b.0) here
    (one_write st (front_trace k) s.session new b.0 at_front (lease_step new.call.purpose) refl front.lawful) in
    let begins : Begins p h xs r x b.0.lver =
    reason_of ended_given p h xs r x s k b.0.lver (above_zero (freed (lease_calls st (front_trace k) s.session (spot_of_line r))) b.0.lver one.not_freed) one.reason in
    let block : H.block e ≡ history_block b.0 = block_by (sent_at w (spot_of_line r) writes_block e) x b.0 is b.1 in
    subst (λ n. BeginReason H (H.writer e) (H.block e).lver n) f.0.step_is
    (subst (λ o. BeginReason H o (H.block e).lver (step_of x)) (sym (writer_is p h xs r e x is))
    (subst (λ n. BeginReason H (holder_of w (sender_of x)) n (step_of x)) (ap (λ y. y.lver) (sym block)) begins))
