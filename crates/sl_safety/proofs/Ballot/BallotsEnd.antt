-- A read of phase 2 that stops nothing ends a ballot of the history: of the session's last block before it, which is a phase 2 that was
-- answered ok.
use Rattle.sl_safety.proofs.Ballot.EndedGrown.{found_block}
use Rattle.sl_safety.proofs.Ballot.Phase2Apart.{host_there}
use Rattle.sl_safety.proofs.Ballot.Phase2Between.{Acked, ok_is}
use Rattle.sl_safety.proofs.GivenReads.BlocksNameHosts.{block_host, own_host}
use Rattle.sl_safety.proofs.Ballot.Phase2Is.{phases_2_are}
use Rattle.sl_safety.proofs.Ballot.Phase2Last.{OwnLast, own_last}
use Rattle.sl_safety.proofs.Ballot.Phase2Ones.{last_wrote, written_there}
use Rattle.sl_safety.proofs.GivenReads.ReadsInTraces.{read_told}
use Rattle.sl_safety.proofs.Ballot.Phase2Shows.{OwnRead, is_clean, start}
use Rattle.sl_safety.specs.Ballot.Endings.{HostsJoin, holder_as}
use Rattle.sl_ballot_law.specs.Ballots.{BallotEnded, IsClean}
use Rattle.sl_ballot_law.specs.History.{History}
use Rattle.sl_run_law.specs.Course.CallStamps.{IsCourseOf, stamp_in}
use Rattle.sl_run.specs.LawfulArea.{is_area_work}
use Rattle.sl_run_law.proofs.Leases.RestLaws.{phase2_is_read}
use Rattle.sl_run_law.specs.Leases.Ways.{Phase2ReadRests, lease_among}
use Rattle.sl_trace.specs.Ballots.{stop_of, value_of}
use Rattle.sl_trace.specs.Leases.{Phase2_read, Phase2_write, block_submitted, block_written, blocks_given, is_at, is_lease_call, is_on, spot_of_call}
use Rattle.sl_run_law.proofs.Place.PlaceLaws.{promised}
use Rattle.sl_run_law.proofs.Place.TracesOnMachines.{lawful_daemon, session_inside}
use Rattle.sl_safety.proofs.Resources.BlockOrigins.{line_aligned, reads_work}
use Rattle.sl_safety.proofs.Resources.StepsNameCalls.{numbers_meant}
use Rattle.sl_safety.proofs.Resources.WritesHaveBases.{writer_is, writes_at}
use Rattle.sl_safety.proofs.Resources.OwnBlocks.{lease_is_work, spot_is, works}
use Rattle.sl_safety.proofs.Resources.CallParts.{standing}
use Rattle.sl_safety.specs.Resources.HistoryLaws.{NamesDiffer, history_of_line, spot_of_line}
use Rattle.sl_safety.specs.Resources.SentCalls.{Sent, block_of_course, holder_of, is_joined_there, sender_of, step_of}
use Rattle.sl_run.specs.Runs.{Happening}
use Rattle.sl_run.specs.Safety.{Found, IsSession, LawfulRun, SessionId, setting_in, trace_of, world_at}
use Rattle.sl_run.specs.Worlds.{Daemon, Program, Stamp, World}
use Rattle.sl_run.specs.declared.header.Header.{Header}
use Rattle.sl_run.specs.declared.header.ResourceLine.{ResourceLine}
use Rattle.sl_sector.specs.declared.sector.Block.{Block}
use Rattle.sl_trace.specs.Sessions.{session_numbered}
use Rattle.sl_trace.specs.declared.session.Session.{Session}
use Rattle.sl_trace.specs.Traces.{Answered, Setting, Submitted, Trace, new_call, submitted}
use Rattle.sl_trace.specs.declared.effects.Call.{Call}
use Rattle.sl_trace.specs.declared.effects.Spot.{Spot}
use Rattle.std.proofs.Common.{ap, subst, sym, ◌∙◌}
use Rattle.std.specs.Option.{option_map_or}
use Rattle.std.specs.Prelude.{Contains, List, None, Option, Some, find, is_some, option_and_then, true, ℕ, ◌++◌, ◌∷◌, ◌≡◌, ◌≤◌}
use Rattle.sl_run_law.proofs.Place.Seats.{sized_in}
use Rattle.sl_safety.proofs.Ballot.EndedFirst.{first_after}
use Rattle.sl_safety.proofs.Ballot.ReadsStand.{ReadStands, began_after, read_stands}
use Rattle.sl_area.specs.AreaSizes.{Layout}

-- ---- a read of phase 2 in a session's trace

-- A read of the session's lease on the area, which stopped nothing of the block that was submitted before.
pub record EndingRead (f : Found) (at : Spot) (own : Block) (bs : List (Option Block)) : Type 0 where
  pub newer : List Submitted
  pub read : Submitted
  pub older : List Submitted
  pub is : submitted (trace_of f) ≡ newer ++ read ∷ older
  pub mine : read.call.session ≡ f.session.number
  pub lease : is_lease_call read ≡ true
  pub on : is_on (setting_in f).layout at read.call ≡ true
  pub reads : is_at Phase2_read read ≡ true
  pub block : block_submitted (lease_among (setting_in f) f.session at older) ≡ Some own
  pub given : blocks_given (setting_in f).layout read (lease_among (setting_in f) f.session at older) ≡ Some bs
  pub clear : stop_of own bs ≡ None

-- ---- as calls of the world

-- The read and the phase 2 before it, as they were sent.
record EndSent (p : Program) (h : Header) (xs : List Happening) (r : ResourceLine) (i : SessionId) (f : Found) (own : Block) (bs : List (Option Block))
    (k : EndingRead f (spot_of_line r) own bs) : Type 0 where
  s : ReadStands p h xs r i f k.read k.older bs
  write : Submitted
  wrote : block_written write ≡ Some own
  phase2 : is_at Phase2_write write ≡ true
  y : OwnLast (world_at p h xs) (spot_of_line r) s.z.sent s.z.stands write
  acked : Acked y.sent (start p h xs r s.z.sent)

end_sent : (p : Program) (h : Header) (xs : List Happening) → LawfulRun p h xs → (r : ResourceLine) → Contains h.resources r → (i : SessionId) (f : Found)
    → IsSession (world_at p h xs) i f → is_joined_there (world_at p h xs) r.lockspace i ≡ true → (own : Block) (bs : List (Option Block)) (k : EndingRead f (spot_of_line r) own bs)
    → EndSent p h xs r i f own bs k
end_sent p h xs run r there i f its joined own bs k =
    let w : World = world_at p h xs in
    let at : Spot = spot_of_line r in
    let st : Setting = setting_in f in
    let es : Trace = trace_of f in
    let ses : Session = f.session in
    let inside = session_inside w i f its in
    let meant = numbers_meant w i f its in
    let law = lawful_daemon p h xs run i.machine f.machine f.daemon inside.at inside.has in
    let layout = (promised.of_world p h xs run i.machine f.machine f.daemon inside.at inside.has).layout in
    let known : session_numbered st es k.read.call.session ≡ Some ses = ap (λ n. session_numbered st es n) (k.mine ∙ meant.1) ∙ inside.its in
    let some : 1 ≤ st.layout.hosts = subst (λ (g : Layout). 1 ≤ g.hosts) (sym layout) (sized_in p h xs run).hosts.0 in
    let s = read_stands p h xs run r there i f its joined k.newer k.older k.read k.is k.mine k.on bs k.given in
    let spot : spot_of_call st.layout k.read ≡ at =
    ap (λ g. spot_of_call g k.read) layout ∙ spot_is w.layout at k.read (line_aligned p h xs run r there) (ap (λ g. is_on g at k.read.call) (sym layout) ∙ k.on) in
    let rests : Phase2ReadRests st ses at k.older k.read =
    subst (λ a. Phase2ReadRests st ses a k.older k.read) spot (phase2_is_read st es law k.newer k.older k.read k.is k.reads ses known) in
    let first = first_after st es law some k.newer k.older k.read k.is k.reads ses known at spot rests in
    let last : find (λ d. is_some (block_written d)) (lease_among s.z.stands.daemon.setting s.z.stands.session at s.z.stands.told.older) ≡ Some rests.write =
    ap (λ ms. find (λ d. is_some (block_written d)) ms) s.before ∙ rests.last in
    let work : works s.z.sent.course.call ≡ true = ap works (sym s.z.pair.call) ∙ reads_work st.layout k.read (lease_among st ses at k.older) bs k.given in
    let area : is_area_work s.z.sent.course.call.purpose ≡ true = ap (λ (c : Call). is_area_work c.purpose) (sym s.z.pair.call) ∙ lease_is_work k.read.call.purpose k.lease in
    let y = own_last p h xs run r there s.z.sent s.z.stands s.on work area rests.write last in
    record {
      s = s;
      write = rests.write;
      wrote = sym (found_block (lease_among st ses at k.older) rests.write rests.last) ∙ k.block;
      phase2 = rests.is_phase2;
      y = y;
      acked = began_after p h xs run r there i f its k.read k.older bs s rests.write rests.ordered first y.sent (subst (λ (d : Daemon). IsCourseOf d y.sent.course rests.write) s.z.daemon y.pair);
    }

-- ---- the end

end_read : (p : Program) (h : Header) (xs : List Happening) → LawfulRun p h xs → (r : ResourceLine) → HostsJoin (world_at p h xs) r.lockspace → (i : SessionId) (f : Found)
    → is_joined_there (world_at p h xs) r.lockspace i ≡ true → (own : Block) (bs : List (Option Block)) (k : EndingRead f (spot_of_line r) own bs)
    → (e : EndSent p h xs r i f own bs k) → OwnRead (world_at p h xs) r e.s.z.sent own bs
end_read p h xs run r hosts i f joined own bs k e =
    let w : World = world_at p h xs in
    let z = e.s.z in
    let sy = standing p h xs run e.y.sent e.y.has in
    let block : block_of_course e.y.sent.course ≡ Some own = last_wrote w (spot_of_line r) z.sent z.stands e.write e.y own e.wrote in
    let there : is_joined_there w r.lockspace (sender_of e.y.sent) ≡ true = ap (λ j. is_joined_there w r.lockspace j) e.y.sender ∙ e.s.joined in
    record {
      has = z.has;
      stands = z.stands;
      on = e.s.on;
      joined = e.s.joined;
      host = host_there w r.lockspace hosts z.sent z.stands e.s.joined;
      given = e.s.given;
      last = e.y.sent;
      last_has = e.y.has;
      last_on = e.y.on;
      before = e.y.last;
      block = block;
      named = block_host p h xs run e.y.sent sy (host_there w r.lockspace hosts e.y.sent sy there) own block ∙ sym (own_host w e.y.sent sy)
          ∙ ap (λ j. (holder_of w j).id) e.y.sender ∙ own_host w z.sent z.stands;
      clear = k.clear;
    }

-- When the read was answered.
abbrev pub AnsweredBy : Found → Submitted → ℕ → Type 0
AnsweredBy f q step = (a : Answered) → q.answer ≡ Some a → (t : Stamp) → stamp_in f.daemon.stamps a.at ≡ Some t → t.step ≤ step

-- So the ballot has ended in the history once the read was answered.
pub ballot_ended : (p : Program) (h : Header) (xs : List Happening) (r : ResourceLine) → LawfulRun p h xs → Contains h.resources r → NamesDiffer (world_at p h xs) r.lockspace
    → HostsJoin (world_at p h xs) r.lockspace → (i : SessionId) (f : Found) → IsSession (world_at p h xs) i f → is_joined_there (world_at p h xs) r.lockspace i ≡ true
    → (own : Block) (bs : List (Option Block)) (k : EndingRead f (spot_of_line r) own bs) → (step : ℕ) → AnsweredBy f k.read step
    → BallotEnded (history_of_line p h xs r) (holder_of (world_at p h xs) i) own.lver (holder_as (value_of own)) step
ballot_ended p h xs r run there differ hosts i f its joined own bs k step by =
    let w : World = world_at p h xs in
    let H : History = history_of_line p h xs r in
    let e = end_sent p h xs run r there i f its joined own bs k in
    let s = e.s in
    let z : Sent = s.z.sent in
    let y : Sent = e.y.sent in
    let n : ℕ = start p h xs r z in
    let o = end_read p h xs run r hosts i f joined own bs k e in
    let v = written_there p h xs run r there z s.z.stands e.write e.y own e.wrote in
    let t = read_told f.daemon z.course k.read (lease_among (setting_in f) f.session (spot_of_line r) k.older) bs s.z.pair k.given in
    let clean = is_clean p h xs run r there z own bs o in
    record {
      write = step_of y;
      writes = writes_at p h xs r (step_of y) y v.is;
      writer = writer_is p h xs r (step_of y) y v.is ∙ ap (λ j. holder_of w j) (e.y.sender ∙ s.sender);
      two = phases_2_are p h xs r run there differ hosts (step_of y) y v.is (ap (λ (c : Call). is_at Phase2_write (new_call 0 0 c)) (sym e.y.pair.call) ∙ e.phase2);
      lver = ap (λ b. b.lver) v.shown;
      value = ap (λ b. b.inp) v.shown;
      ack = e.acked.stamp.step;
      acked = ok_is p h xs run r there y e.y.has e.y.on e.y.writes n e.acked;
      read = n;
      reads = ap (λ q. is_some q) s.found;
      after = e.acked.by;
      answer = subst (λ j. j ≤ step)
          (sym (ap (λ q. option_map_or (λ (u : Stamp). u.step) (option_and_then (λ (x : Sent). x.course.answered) q) 0) s.found
          ∙ ap (λ q. option_map_or (λ (u : Stamp). u.step) q 0) t.answered.answered)) (by t.answer t.its t.answered.stamp t.answered.entry);
      clean = subst (λ j. IsClean H n own.lver j) (ap (λ b. b.mbal) (sym v.shown)) clean;
    }
