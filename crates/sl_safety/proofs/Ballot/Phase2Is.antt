-- What a session writes at the step of phase 2 is a phase 2 of the history: it accepts what its phase 1 began, after a read that stopped
-- nothing.
use Rattle.sl_safety.proofs.Ballot.KeptBallots.{Phase2sAre}
use Rattle.sl_safety.proofs.Ballot.Phase2Apart.{host_there}
use Rattle.sl_safety.proofs.Ballot.Phase2Between.{Acked, last_between, ok_is}
use Rattle.sl_safety.proofs.GivenReads.BlocksNameHosts.{block_host, own_host}
use Rattle.sl_safety.proofs.Ballot.Phase2Last.{OwnLast, own_last}
use Rattle.sl_safety.proofs.Ballot.Phase2Ones.{base_is, is_one, last_wrote, own_of_last, written_there}
use Rattle.sl_safety.proofs.Ballot.Phase2Shows.{OwnRead, is_clean, start}
use Rattle.sl_safety.proofs.Ballot.Phase2Values.{proposes_what}
use Rattle.sl_safety.proofs.Ballot.ReasonFronted.{fronted, name_at_front}
use Rattle.sl_safety.specs.Ballot.Endings.{HostsJoin, holder_as}
use Rattle.sl_ballot_law.specs.Ballots.{IsClean, IsPhase1, IsPhase2, ProposesItself, ProposesSeen}
use Rattle.sl_ballot_law.specs.History.{History}
use Rattle.sl_run_law.specs.Course.CallStamps.{AnswersAgree, IsAnsweredAs, IsCourseOf}
use Rattle.sl_run.specs.LawfulArea.{is_area_work}
use Rattle.sl_run.specs.LawForms.{cut_at}
use Rattle.sl_run_law.proofs.Leases.RestLaws.{phase2_follows}
use Rattle.sl_run_law.specs.Leases.Ways.{Phase2Rests, lease_among}
use Rattle.sl_trace.specs.Ballots.{ballot_blocks, moded_block, phase2_block, value_to_write}
use Rattle.sl_trace.specs.Leases.{Phase1_write, Phase2_write, blocks_given, is_at}
use Rattle.sl_words.proofs.Numbers.{lt_then_le}
use Rattle.sl_safety.proofs.Resources.BlockOrigins.{IsAmong, WrittenAt, answer_step, answered_before, is_among, line_aligned, reads_work, told_spot, written_at}
use Rattle.sl_safety.proofs.Resources.StepsNameCalls.{block_works as block_is_work, worker_joined}
use Rattle.sl_safety.proofs.Resources.WritesHaveBases.{is_last, writer_is, writes_at}
use Rattle.sl_safety.proofs.Resources.OwnBlocks.{block_is_lease, block_told, block_works, lease_is_work}
use Rattle.sl_safety.proofs.Resources.CallParts.{Standing, standing}
use Rattle.sl_safety.specs.Resources.Histories.{history_block}
use Rattle.sl_safety.specs.Resources.HistoryLaws.{NamesDiffer, history_of_line, spot_of_line}
use Rattle.sl_safety.specs.Resources.SentCalls.{Sent, block_of_course, holder_of, is_joined_there, read_at, sender_of, step_of}
use Rattle.sl_run.specs.Runs.{Happening}
use Rattle.sl_run.specs.Safety.{Found, IsSession, LawfulRun, SessionId, world_at}
use Rattle.sl_run.specs.Worlds.{Course, Daemon, Program, Stamp, World}
use Rattle.sl_run.specs.declared.header.Header.{Header}
use Rattle.sl_run.specs.declared.header.ResourceLine.{ResourceLine}
use Rattle.sl_sector.specs.declared.sector.Block.{Block}
use Rattle.sl_sector.specs.declared.sector.Owner.{Owner}
use Rattle.sl_trace.specs.Sessions.{me}
use Rattle.sl_trace.specs.Traces.{Answered, Setting, Submitted, Trace, new_call, submitted}
use Rattle.sl_trace.specs.declared.effects.Call.{Call}
use Rattle.sl_trace.specs.declared.effects.Spot.{Spot}
use Rattle.sl_words.proofs.CaseLaws.{some_value}
use Rattle.std.proofs.Common.{ap, append_assoc, subst, sym, ◌∙◌}
use Rattle.std.specs.Option.{option_map_or}
use Rattle.std.specs.Prelude.{Contains, List, Option, Some, is_some, option_and_then, true, ℕ, ◌++◌, ◌<◌, ◌∷◌, ◌≡◌, ◌≤◌, ◌⊎◌}
use Rattle.sl_safety.proofs.Ballot.ReasonEvidence.{found_of_standing, sender_found}
use Rattle.sl_safety.proofs.Resources.Looks.{began_before}
use Rattle.sl_safety.proofs.Ballot.ReadsStand.{began_after, read_stands}
use Rattle.sl_run.specs.LawfulBlock.{FirstAfter}
use Rattle.sl_safety.proofs.Ballot.ReadsIn.{CallIn, call_in}

-- ---- what phase 2 writes

record Accepts (self : Owner) (own b : Block) (bs : List Block) : Type 0 where
  lver : b.lver ≡ own.lver
  mbal : b.mbal ≡ own.mbal
  bal : b.bal ≡ own.mbal
  value : (history_block b).inp ≡ holder_as (value_to_write self own.lver bs)

accepts : (self : Owner) (own b : Block) (bs : List Block) → b ≡ moded_block (phase2_block self own bs) b.shared b.mode_gen → Accepts self own b bs
unfolding phase2_block
accepts self own b bs is = record { lver = ap (λ y. y.lver) is; mbal = ap (λ y. y.mbal) is; bal = ap (λ y. y.bal) is; value = ap (λ y. (history_block y).inp) is }

-- ---- what it rests on

-- A write at the step of phase 2, with what stands behind it.
record Behind (p : Program) (h : Header) (xs : List Happening) (r : ResourceLine) (e : ℕ) (x : WrittenAt p h xs r e) : Type 0 where
  s : Standing (world_at p h xs) x.sent
  area : is_area_work x.sent.course.call.purpose ≡ true
  joined : is_joined_there (world_at p h xs) r.lockspace (sender_of x.sent) ≡ true
  rests : Phase2Rests s.daemon.setting s.daemon.trace s.session (spot_of_line r) s.told.older s.told.one x.block
  y : OwnLast (world_at p h xs) (spot_of_line r) x.sent s rests.write

behind : (p : Program) (h : Header) (xs : List Happening) → LawfulRun p h xs → (r : ResourceLine) → Contains h.resources r → (e : ℕ) (x : WrittenAt p h xs r e)
    → is_at Phase2_write (new_call 0 0 x.sent.course.call) ≡ true → Behind p h xs r e x
behind p h xs run r there e x at =
    let w : World = world_at p h xs in
    let s = standing p h xs run x.sent x.has in
    let st : Setting = s.daemon.setting in
    let spot = told_spot p h xs run (spot_of_line r) (line_aligned p h xs run r there) x.sent s x.on in
    let rests : Phase2Rests st s.daemon.trace s.session (spot_of_line r) s.told.older s.told.one x.block =
    subst (λ a. Phase2Rests st s.daemon.trace s.session a s.told.older s.told.one x.block) spot
    (phase2_follows st s.daemon.trace s.lawful s.told.newer s.told.older s.told.one x.block s.told.is (block_told w x.sent s x.block x.wrote)
    (ap (λ (c : Call). is_at Phase2_write (new_call 0 0 c)) s.told.pair.call ∙ at) s.session s.known) in
    let area = lease_is_work x.sent.course.call.purpose (block_is_lease w x.sent s x.block x.wrote) in
    record {
      s = s;
      area = area;
      joined = worker_joined p h xs r x.sent (block_is_work p h xs run r there x.sent x.has x.on (ap (λ o. is_some o) x.wrote));
      rests = rests;
      y = own_last p h xs run r there x.sent s x.on (block_works x.sent.course x.block x.wrote) area rests.write rests.last;
    }

-- ---- its read

-- The read of phase 1, as a call of the world.
record PhaseRead (p : Program) (h : Header) (xs : List Happening) (r : ResourceLine) (e : ℕ) (x : WrittenAt p h xs r e) (k : Behind p h xs r e x) : Type 0 where
  z : Sent
  sender : sender_of z ≡ sender_of x.sent
  acked : Acked k.y.sent (start p h xs r z)
  found : read_at (world_at p h xs) (spot_of_line r) r.lockspace (start p h xs r z) ≡ Some z
  answered : Stamp
  closed : z.course.answered ≡ Some answered
  early : answered.step ≤ e
  read : OwnRead (world_at p h xs) r z k.rests.own k.rests.blocks

heard_of : (d : Daemon) (c : Course) (q : Submitted) (a : Answered) → IsCourseOf d c q → q.answer ≡ Some a → IsAnsweredAs d c a
heard_of d c q a pair told = subst (λ o. AnswersAgree d c o) told pair.answers

phase_read : (p : Program) (h : Header) (xs : List Happening) → LawfulRun p h xs → (r : ResourceLine) → Contains h.resources r → HostsJoin (world_at p h xs) r.lockspace
    → (e : ℕ) (x : WrittenAt p h xs r e) (k : Behind p h xs r e x) → PhaseRead p h xs r e x k
phase_read p h xs run r there hosts e x k =
    let w : World = world_at p h xs in
    let at : Spot = spot_of_line r in
    let s = k.s in
    let st : Setting = s.daemon.setting in
    let es : Trace = s.daemon.trace in
    let q : Submitted = k.rests.read in
    let own : Block = k.rests.own in
    let f : Found = found_of_standing s in
    let i : SessionId = sender_of x.sent in
    let its : IsSession w i f = sender_found w x.sent s in
    let cut : CallIn st s.session at s.told.older q k.rests.before = call_in st s.session at s.told.older k.rests.newer k.rests.before q k.rests.split in
    let whole : submitted es ≡ (s.told.newer ++ s.told.one ∷ cut.newer) ++ q ∷ cut.older =
    s.told.is ∙ ap (λ ms. s.told.newer ++ s.told.one ∷ ms) cut.is ∙ sym (append_assoc s.told.newer (s.told.one ∷ cut.newer) (q ∷ cut.older)) in
    let given : blocks_given st.layout q (lease_among st s.session at cut.older) ≡ Some k.rests.blocks = ap (λ ms. blocks_given st.layout q ms) cut.rest ∙ k.rests.given in
    let first : FirstAfter k.rests.write q (lease_among st s.session at cut.older) = subst (λ ms. FirstAfter k.rests.write q ms) (sym cut.rest) k.rests.first_ordered in
    let z = read_stands p h xs run r there i f its k.joined (s.told.newer ++ s.told.one ∷ cut.newer) cut.older q whole cut.mine cut.on k.rests.blocks given in
    let among : IsAmong st s.session at s.told.older q = is_among st s.session at s.told.older q k.rests.of_lease.0 in
    let acked : Acked k.y.sent (start p h xs r z.z.sent) =
    began_after p h xs run r there i f its q cut.older k.rests.blocks z k.rests.write k.rests.ordered first k.y.sent k.y.pair in
    let sv = standing p h xs run k.y.sent k.y.has in
    let begun : start p h xs r z.z.sent ≤ step_of z.z.sent = began_before p h xs run at z.z.sent in
    let after : step_of k.y.sent < step_of z.z.sent =
    lt_then_le (step_of k.y.sent) (start p h xs r z.z.sent) (step_of z.z.sent)
    (lt_then_le (step_of k.y.sent) acked.stamp.step (start p h xs r z.z.sent) (sv.timed.answered acked.stamp acked.answered) acked.by) begun in
    let spot = told_spot p h xs run at (line_aligned p h xs run r there) x.sent s x.on in
    let by = answered_before p h xs run x.sent s (block_works x.sent.course x.block x.wrote) k.area q (subst (λ a. IsAmong st s.session a s.told.older q) (sym spot) among)
    (reads_work st.layout q k.rests.before k.rests.blocks k.rests.given) in
    let heard = heard_of s.daemon z.z.sent.course q by.answer z.z.pair by.answered in
    let early : heard.stamp.step ≤ step_of x.sent = answer_step p h xs run x.sent s q by by.answer by.answered heard.stamp heard.entry in
    let before : step_of z.z.sent < step_of x.sent = lt_then_le (step_of z.z.sent) heard.stamp.step (step_of x.sent) (z.z.stands.timed.answered heard.stamp heard.answered) early in
    let block : block_of_course k.y.sent.course ≡ Some own = last_wrote w at x.sent s k.rests.write k.y own k.rests.wrote.0 in
    let joined_y : is_joined_there w r.lockspace (sender_of k.y.sent) ≡ true = ap (λ j. is_joined_there w r.lockspace j) k.y.sender ∙ k.joined in
    record {
      z = z.z.sent;
      sender = z.sender;
      acked = acked;
      found = z.found;
      answered = heard.stamp;
      closed = heard.answered;
      early = subst (λ j. heard.stamp.step ≤ j) x.step_is early;
      read = record {
        has = z.z.has;
        stands = z.z.stands;
        on = z.on;
        joined = z.joined;
        host = host_there w r.lockspace hosts z.z.sent z.z.stands z.joined;
        given = z.given;
        last = k.y.sent;
        last_has = k.y.has;
        last_on = k.y.on;
        before = last_between p h xs run r there x.sent s k.rests.write k.y z.z.sent z.sender after before;
        block = block;
        named = block_host p h xs run k.y.sent sv (host_there w r.lockspace hosts k.y.sent sv joined_y) own block ∙ sym (own_host w k.y.sent sv)
            ∙ ap (λ j. (holder_of w j).id) (k.y.sender ∙ sym z.sender) ∙ own_host w z.z.sent z.z.stands;
        clear = k.rests.clear;
      };
    }

-- ---- phase 2

two_of : (p : Program) (h : Header) (xs : List Happening) → LawfulRun p h xs → (r : ResourceLine) → Contains h.resources r → NamesDiffer (world_at p h xs) r.lockspace
    → HostsJoin (world_at p h xs) r.lockspace → (e : ℕ) (x : WrittenAt p h xs r e) → is_at Phase2_write (new_call 0 0 x.sent.course.call) ≡ true → IsPhase2 (history_of_line p h xs r) e
two_of p h xs run r there differ hosts e x at =
    let w : World = world_at p h xs in
    let H : History = history_of_line p h xs r in
    let k = behind p h xs run r there e x at in
    let s = k.s in
    let own : Block = k.rests.own in
    let bs : List (Option Block) = k.rests.blocks in
    let sub = k.rests.submission in
    let self : Owner = me (cut_at sub.place sub.entry ∷ sub.past) s.session in
    let v = written_there p h xs run r there x.sent s k.rests.write k.y own k.rests.wrote.0 in
    let base : H.base e ≡ step_of k.y.sent = base_is p h xs r e x s k.rests.write k.y in
    let block : H.block (H.base e) ≡ history_block own = ap (λ i. H.block i) base ∙ v.shown in
    let z = phase_read p h xs run r there hosts e x k in
    let a : Accepts self own x.block (ballot_blocks own bs) = accepts self own x.block (ballot_blocks own bs) k.rests.written in
    let lver : (H.block e).lver ≡ own.lver = ap (λ y. y.lver) x.shown ∙ a.lver in
    let mbal : (H.block e).mbal ≡ own.mbal = ap (λ y. y.mbal) x.shown ∙ a.mbal in
    let n : ℕ = start p h xs r z.z in
    let clean = is_clean p h xs run r there z.z own bs z.read in
    record {
      last = is_last p h xs run r there differ e x own (own_of_last w (spot_of_line r) x.sent s k.rests.write k.y own k.rests.wrote.0);
      one = subst (λ i. IsPhase1 H i) (sym base)
          (is_one p h xs run r there hosts (step_of k.y.sent) v (ap (λ (c : Call). is_at Phase1_write (new_call 0 0 c)) (sym k.y.pair.call) ∙ k.rests.wrote.1));
      lver = lver ∙ ap (λ y. y.lver) (sym block);
      mbal = mbal ∙ ap (λ y. y.mbal) (sym block);
      bal = ap (λ y. y.bal) x.shown ∙ a.bal ∙ sym mbal;
      ack = z.acked.stamp.step;
      acked = ap (λ i. H.ok i) base ∙ ok_is p h xs run r there k.y.sent k.y.has k.y.on k.y.writes n z.acked;
      read = n;
      reads = ap (λ o. is_some o) z.found;
      after = z.acked.by;
      before = subst (λ i. i ≤ e)
          (sym (ap (λ o. option_map_or (λ (q : Stamp). q.step) (option_and_then (λ (y : Sent). y.course.answered) o) 0) z.found
          ∙ ap (λ o. option_map_or (λ (q : Stamp). q.step) o 0) z.closed)) z.early;
      clean = subst (λ i. IsClean H n i (H.block e).mbal) (sym lver) (subst (λ i. IsClean H n own.lver i) (sym mbal) clean);
      value = subst (λ i. ProposesItself H e n i ⊎ ProposesSeen H e n i) (sym lver)
          (proposes_what p h xs run r there e z.z own bs z.read self
          (record {
            value = ap (λ y. y.inp) x.shown ∙ a.value;
            writer = writer_is p h xs r e x.sent x.is ∙ sym (name_at_front w x.sent s sub (fronted w x.sent s sub k.area));
          }));
    }

pub phases_2_are : Phase2sAre
phases_2_are p h xs r run there differ hosts e x found at =
    let v = written_at p h xs r e (writes_at p h xs r e x found) in
    let same : x ≡ v.sent = some_value x v.sent (sym found ∙ v.is) in
    two_of p h xs run r there differ hosts e v (ap (λ (y : Sent). is_at Phase2_write (new_call 0 0 y.course.call)) (sym same) ∙ at)
