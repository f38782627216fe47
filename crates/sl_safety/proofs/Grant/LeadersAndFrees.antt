-- A leader in the history that names a session was written by this session: and so was each free of an instance that it won.
use Rattle.sl_area.specs.AreaSizes.{Layout}
use Rattle.sl_safety.proofs.Ballot.LeadersFollowBallots.{owner_as}
use Rattle.sl_ballot_law.specs.History.{Leader as HistoryLeader}
use Rattle.sl_run_law.specs.Course.CallStamps.{stamp_in}
use Rattle.sl_safety.proofs.Grant.Names.{name_of_sent}
use Rattle.sl_safety.proofs.Grant.CallsOfWorlds.{OfLease}
use Rattle.sl_run.specs.LawfulArea.{is_area_work}
use Rattle.sl_run.specs.LawfulLeader.{LawfulFreeLeader, LawfulTake}
use Rattle.sl_trace.specs.Ballots.{owner_of as named_by}
use Rattle.sl_trace.specs.Leases.{Leader_freed, StepKind, freed, freed_by, is_free_write, is_lease_call, is_on, kind_of_step, leader_of_record, leader_written, lease_step, same_kind, spot_of_call}
use Rattle.sl_run_law.proofs.Place.TracesOnMachines.{call_law}
use Rattle.sl_words.proofs.Lists.{contains_cases, contains_none}
use Rattle.sl_words.proofs.Options.{some_there}
use Rattle.sl_safety.proofs.Resources.Calls.{found_of, made_of, owner_found, owner_layout}
use Rattle.sl_safety.proofs.Resources.StepsNameCalls.{found_at, leader_works, worker_joined}
use Rattle.sl_safety.specs.Resources.Histories.{history_leader, no_leader}
use Rattle.sl_safety.specs.Resources.HistoryLaws.{NamesDiffer, history_of_line, spot_of_line}
use Rattle.sl_safety.specs.Resources.SentCalls.{Sent, all_sent, holder_of, is_joined_there, leader_of_course, sender_of, sent_at, step_of, writes_leader}
use Rattle.sl_run.specs.Runs.{Happening}
use Rattle.sl_run.specs.Safety.{Found, IsSession, LawfulRun, SessionId, session_of_world, setting_in, trace_of, world_at}
use Rattle.sl_run.specs.Worlds.{Program, Stamp, World}
use Rattle.sl_run.specs.declared.header.Header.{Header}
use Rattle.sl_run.specs.declared.header.ResourceLine.{ResourceLine}
use Rattle.sl_sector.specs.declared.sector.Leader.{Leader}
use Rattle.sl_run_law.specs.Sessions.SessionLaws.{front_of, made_as}
use Rattle.sl_trace.specs.Sessions.{me}
use Rattle.sl_trace.specs.declared.session.Session.{Session}
use Rattle.sl_trace.specs.Traces.{Setting, Submitted, Trace, record_of}
use Rattle.sl_trace.specs.declared.effects.Call.{Call}
use Rattle.sl_trace.specs.declared.effects.LeaseStep.{LeaseStep}
use Rattle.sl_trace.specs.declared.effects.Spot.{Spot}
use Rattle.sl_trace.specs.declared.effects.Work.{Work}
use Rattle.sl_words.proofs.CaseLaws.{false_is_true, one_value, true_is_false}
use Rattle.sl_words.proofs.WordLaws.{and_true}
use Rattle.sl_words.specs.Words.{some_is}
use Rattle.std.proofs.Common.{ap, arith, inl, inr, refl, subst, sym, ◌∙◌}
use Rattle.std.proofs.lemmas.Bool.{and_from, eq-eqb, eqb-true}
use Rattle.std.specs.Option.{option_map_or}
use Rattle.std.specs.Prelude.{Bool, Contains, List, MatchBool, None, Option, Some, false, is_some, max, not, option_and_then, true, [], ℕ, if◌then◌else◌, ◌&&◌, ◌==◌, ◌∷◌, ◌≡◌, ◌≤◌}

-- ---- the greatest free

free_by : (n : ℕ) (o : Option Leader) → some_is (λ l. l.lver == n && not l.held) o ≡ true → n ≤ option_map_or (λ l. if l.held then 0 else l.lver) o 0
free_by n None h = absurd (false_is_true h)
free_by n (Some l) h =
    let both = and_true (l.lver == n) (not l.held) h in
    unheld l.held both.1
  where
    unheld : (b : Bool) → not b ≡ true → n ≤ (if b then 0 else l.lver)
    unheld true k = absurd (false_is_true k)
    unheld false k = let same : l.lver ≡ n = eqb-true l.lver n (and_true (l.lver == n) (not l.held) h).0 in omega (arith, same)

most_left : (n a b : ℕ) → n ≤ a → n ≤ max a b
most_left n a b h = omega (arith, h)

most_right : (n a b : ℕ) → n ≤ b → n ≤ max a b
most_right n a b h = omega (arith, h)

-- No free is above the greatest.
pub freed_most : (n : ℕ) (ms : List Submitted) (c : Submitted) → Contains ms c → is_free_write n c ≡ true → n ≤ freed ms
freed_most n [] c has free = absurd (contains_none c has)
freed_most n (m ∷ ms) c has free =
    elim (contains_cases m ms c has) as (λ z. n ≤ freed (m ∷ ms)) [
      | inl here ↦ most_left n (freed_by m) (freed ms) (free_by n (leader_written m) (ap (λ x. is_free_write n x) here ∙ free))
      | inr old ↦ most_right n (freed_by m) (freed ms) (freed_most n ms c old free)
    ]

-- ---- a leader that was sent

-- A leader in the history.
pub record LeaderThere (p : Program) (h : Header) (xs : List Happening) (r : ResourceLine) (e : ℕ) : Type 0 where
  pub sent : Sent
  pub has : Contains (all_sent (world_at p h xs)) sent
  pub on : is_on (world_at p h xs).layout (spot_of_line r) sent.course.call ≡ true
  pub step : step_of sent ≡ e
  pub writes : writes_leader sent.course ≡ true
  pub leader : Leader
  pub wrote : leader_of_course sent.course ≡ Some leader
  pub says : (history_of_line p h xs r).leader e ≡ history_leader leader

pub leader_there : (p : Program) (h : Header) (xs : List Happening) (r : ResourceLine) (e : ℕ) → (history_of_line p h xs r).leads e ≡ true → LeaderThere p h xs r e
leader_there p h xs r e leads = by (sent_at (world_at p h xs) (spot_of_line r) writes_leader e) refl leads where
  by : (o : Option Sent) → sent_at (world_at p h xs) (spot_of_line r) writes_leader e ≡ o → is_some o ≡ true → LeaderThere p h xs r e
  by None is some = absurd (false_is_true some)
  by (Some x) is some =
      let w : World = world_at p h xs in
      let f = found_at w r writes_leader e x is in
      let l = some_there (leader_of_course x.course) f.1 in
      record {
        sent = x;
        has = f.0.sent;
        on = f.0.on;
        step = f.0.step_is;
        writes = f.1;
        leader = l.0;
        wrote = l.1;
        says = ap (λ q. option_map_or history_leader (option_and_then (λ (y : Sent). leader_of_course y.course) q) no_leader) is
            ∙ ap (λ q. option_map_or history_leader q no_leader) l.1;
      }

-- ---- a free

-- A free of an instance, among the calls of a session's lease.
pub record FreeTold (p : Program) (h : Header) (xs : List Happening) (r : ResourceLine) (f : Found) (n e : ℕ) : Type 0 where
  pub call : Submitted
  pub lease : OfLease (setting_in f) (trace_of f) f.session (spot_of_line r) call
  pub free : is_free_write n call ≡ true
  pub stamp : Stamp
  pub made : stamp_in f.daemon.stamps call.at ≡ Some stamp
  pub step : stamp.step ≡ e

abbrev leader_by : Call → Option Leader
leader_by c = option_and_then leader_of_record (record_of c.op)

lease_at : (o : Option (Work × LeaseStep)) (kind : StepKind) → some_is (λ p. same_kind (kind_of_step p.1) kind) o ≡ true → is_some o ≡ true
lease_at None kind h = absurd (false_is_true h)
lease_at (Some p) kind h = refl

freed_step : (st : Setting) (es : Trace) (s : Session) (at : Spot) (c : Submitted) (l : Leader) (b : Bool) → b ≡ false
    → MatchBool b (LawfulTake st es s at c l) (LawfulFreeLeader st es s at c l) → is_lease_call c ≡ true
freed_step st es s at c l true is law = absurd (true_is_false is)
freed_step st es s at c l false is law = lease_at (lease_step c.call.purpose) Leader_freed law.step

is_free : (n : ℕ) (l : Leader) → l.lver ≡ n → l.held ≡ false → (l.lver == n && not l.held) ≡ true
is_free n l lver held = and_from _ _ (eq-eqb l.lver n lver) (ap not held)

-- A free in the history with the name of a joined session is a call of its lease.
pub free_told : (p : Program) (h : Header) (xs : List Happening) → LawfulRun p h xs → (r : ResourceLine) → Contains h.resources r → NamesDiffer (world_at p h xs) r.lockspace
    → (i : SessionId) (f : Found) → IsSession (world_at p h xs) i f → is_joined_there (world_at p h xs) r.lockspace i ≡ true → (n e : ℕ)
    → (history_of_line p h xs r).leads e ≡ true → ((history_of_line p h xs r).leader e).lver ≡ n → ((history_of_line p h xs r).leader e).owner ≡ holder_of (world_at p h xs) i
    → ((history_of_line p h xs r).leader e).held ≡ false → FreeTold p h xs r f n e
free_told p h xs run r there differ i f its joined n e leads lver owner held =
    let w : World = world_at p h xs in
    let l = leader_there p h xs r e leads in
    let x : Sent = l.sent in
    let k = leader_works p h xs run r there x l.has l.on l.writes in
    let o = k.owned in
    let st : Setting = o.trace.daemon.setting in
    let q : Submitted = o.trace.submitted_as in
    let d = made_of o in
    let c : Submitted = made_as d in
    let at : Spot = spot_of_call st.layout c in
    let law = call_law st o.trace.daemon.trace o.session q d o.trace.lawful o.its o.mine in
    let wrote : leader_by q.call ≡ Some l.leader = ap (λ y. leader_by y) o.trace.is.call ∙ l.wrote in
    let write = law.0.leader.0.writes d.index q.call o.session d.call law.1 l.leader wrote in
    let area : is_area_work q.call.purpose ≡ true = ap (λ (y : Call). is_area_work y.purpose) o.trace.is.call ∙ k.area in
    let sender : holder_of w (sender_of x) ≡ holder_of w i =
    sym (name_of_sent p h xs run x o area) ∙ sym (owner_as (named_by l.leader) (me (front_of d) o.session) write.own)
    ∙ ap (λ (y : HistoryLeader). y.owner) (sym l.says) ∙ owner in
    let same : sender_of x ≡ i = differ (sender_of x) i (worker_joined p h xs r x k) joined sender in
    let found : found_of o ≡ f = one_value (found_of o) f (session_of_world w i) (ap (session_of_world w) (sym same) ∙ owner_found w x o) its in
    let free : l.leader.held ≡ false = ap (λ (y : HistoryLeader). y.held) (sym l.says) ∙ held in
    let instance_is : l.leader.lver ≡ n = ap (λ (y : HistoryLeader). y.lver) (sym l.says) ∙ lver in
    subst (λ g. FreeTold p h xs r g n e) found
    (record {
      call = q;
      lease = record {
        inside = o.trace.inside;
        mine = o.mine;
        lease = freed_step st (front_of d) o.session at c l.leader l.leader.held free write.ballot;
        on = ap (λ (g : Layout). is_on g (spot_of_line r) q.call) (owner_layout p h xs run x o) ∙ ap (is_on w.layout (spot_of_line r)) o.trace.is.call ∙ l.on;
      };
      free = ap (λ z. some_is (λ (y : Leader). y.lver == n && not y.held) z) wrote ∙ is_free n l.leader instance_is free;
      stamp = x.course.made;
      made = o.trace.is.made;
      step = l.step;
    })
