-- A leader that was submitted at an earlier step, in the words of the history; and so each free that a session submitted before it
-- writes a block.
use Rattle.sl_ballot_law.specs.Ballots.{LeaderSubmitted}
use Rattle.sl_ballot_law.specs.History.{History, Leader as HistoryLeader, Owner as Holder}
use Rattle.sl_run_law.specs.Course.CallStamps.{IsCourseOf}
use Rattle.sl_run.specs.LawfulArea.{is_area_work}
use Rattle.sl_run_law.proofs.Leases.AgeLaws.{aged_lease, became}
use Rattle.sl_run_law.specs.Leases.CallFronts.{AllAged}
use Rattle.sl_trace.specs.Leases.{is_block_read, is_free_write, is_lease_call, is_on, leader_of_record, leader_written, lease_calls}
use Rattle.sl_run_law.proofs.Place.FoundInLists.{partner_of}
use Rattle.sl_safety.proofs.Resources.BlockOrigins.{is_among}
use Rattle.sl_safety.proofs.Resources.StepsNameCalls.{leader_at_step}
use Rattle.sl_safety.proofs.Resources.NewestCalls.{sent_as}
use Rattle.sl_safety.proofs.Resources.OwnBlocks.{is_behind, layout_at, lease_is_work, made_before, number_at, spot_at, spot_is, works}
use Rattle.sl_safety.proofs.Resources.CallParts.{Standing, sent_there}
use Rattle.sl_safety.specs.Resources.Histories.{history_leader, no_leader}
use Rattle.sl_safety.specs.Resources.HistoryLaws.{history_of_line, spot_of_line}
use Rattle.sl_safety.specs.Resources.SentCalls.{Sent, all_sent, leader_of_course, sent_at, step_of, writes_leader}
use Rattle.sl_run.specs.Runs.{Happening}
use Rattle.sl_run.specs.Safety.{LawfulRun, world_at}
use Rattle.sl_run.specs.Worlds.{Program, World}
use Rattle.sl_run.specs.declared.header.Header.{Header}
use Rattle.sl_run.specs.declared.header.ResourceLine.{ResourceLine}
use Rattle.sl_sector.specs.declared.sector.Leader.{Leader}
use Rattle.sl_trace.specs.Traces.{Setting, Submitted, Trace, is_write, new_call, record_of, submitted}
use Rattle.sl_trace.specs.declared.effects.Call.{Call}
use Rattle.sl_trace.specs.declared.effects.Op.TheVariants.{ReadSectors, WriteRecord}
use Rattle.sl_trace.specs.declared.effects.Op.{Op}
use Rattle.sl_trace.specs.declared.effects.Spot.{Spot}
use Rattle.sl_words.proofs.CaseLaws.{none_some}
use Rattle.sl_words.proofs.WordLaws.{and_true, some_is_true}
use Rattle.std.proofs.Common.{ap, refl, sym, ◌∙◌}
use Rattle.std.proofs.lemmas.Bool.{eqb-true, not-true, or_left}
use Rattle.std.specs.Option.{option_map_or}
use Rattle.std.specs.Prelude.{Contains, List, Option, Some, false, is_some, not, option_and_then, true, ℕ, ◌%◌, ◌&&◌, ◌<◌, ◌==◌, ◌≡◌}

-- ---- a leader by its step

abbrev pub owner_named : Leader → Holder
owner_named l = record { id = l.owner; generation = l.generation }

pub leader_submitted : (p : Program) (h : Header) (xs : List Happening) → LawfulRun p h xs → (r : ResourceLine) → Contains h.resources r → (z : Sent)
    → Contains (all_sent (world_at p h xs)) z → is_on (world_at p h xs).layout (spot_of_line r) z.course.call ≡ true → (l : Leader) → leader_of_course z.course ≡ Some l
    → (e : ℕ) → step_of z < e → LeaderSubmitted (history_of_line p h xs r) l.lver (owner_named l) l.held e
leader_submitted p h xs run r there z has on l wrote e less =
    let w : World = world_at p h xs in
    let H : History = history_of_line p h xs r in
    let at : sent_at w (spot_of_line r) writes_leader (step_of z) ≡ Some z = leader_at_step p h xs run r there z has on (ap (λ o. is_some o) wrote) in
    let is : H.leader (step_of z) ≡ history_leader l =
    ap (λ o. option_map_or history_leader (option_and_then (λ (y : Sent). leader_of_course y.course) o) no_leader) at
    ∙ ap (λ o. option_map_or history_leader o no_leader) wrote in
    record {
      step = step_of z;
      leads = ap (λ o. is_some o) at;
      before = less;
      lver = ap (λ (y : HistoryLeader). y.lver) is;
      owner = ap (λ (y : HistoryLeader). y.owner) is;
      held = ap (λ (y : HistoryLeader). y.held) is;
    }

-- ---- a free of the session before

leader_writes : (op : Op) (l : Leader) → option_and_then leader_of_record (record_of op) ≡ Some l → is_write op ≡ true
leader_writes (ReadSectors n) l h = absurd (none_some l h)
leader_writes (WriteRecord r) l h = refl

-- A leader that the session wrote before, free, for this instance.
pub record FreeBefore (w : World) (at : Spot) (x : Sent) (m : ℕ) : Type 0 where
  pub leader : Leader
  pub sent : Sent
  pub has : Contains (all_sent w) sent
  pub on : is_on w.layout at sent.course.call ≡ true
  pub wrote : leader_of_course sent.course ≡ Some leader
  pub less : step_of sent < step_of x
  pub lver : leader.lver ≡ m
  pub free : leader.held ≡ false

abbrev leader_of_call : Call → Option Leader
leader_of_call c = option_and_then leader_of_record (record_of c.op)

pub free_before : (p : Program) (h : Header) (xs : List Happening) → LawfulRun p h xs → (at : Spot) → at.base % (world_at p h xs).layout.area ≡ 0 → (x : Sent)
    → (s : Standing (world_at p h xs) x) → is_on (world_at p h xs).layout at x.course.call ≡ true → works x.course.call ≡ true → is_area_work x.course.call.purpose ≡ true
    → (n : ℕ) (front : Trace) → AllAged n (submitted front) s.told.older → (q : Submitted) → Contains (lease_calls s.daemon.setting front s.session at) q → (m : ℕ)
    → is_free_write m q ≡ true → FreeBefore (world_at p h xs) at x m
free_before p h xs run at zero x s on work area n front aged q has m is =
    let w : World = world_at p h xs in
    let st : Setting = s.daemon.setting in
    let now = became n _ _ q (aged_lease st s.session at n (submitted front) s.told.older aged) has in
    let among = is_among st s.session at s.told.older now.now now.has in
    let c = partner_of (IsCourseOf s.daemon) s.before s.told.older now.now s.told.pairs among.has in
    let l = some_is_true (λ (y : Leader). y.lver == m && not y.held) (leader_written q) is in
    let both = and_true (l.0.lver == m) (not l.0.held) l.2 in
    let wrote : leader_of_call c.0.call ≡ Some l.0 = ap leader_of_call (sym c.2.call ∙ now.aged.call) ∙ l.1 in
    let i = is_behind w x s c.0 c.1 in
    let session : c.0.call.session ≡ x.course.call.session = ap (λ (y : Call). y.session) (sym c.2.call) ∙ among.session ∙ number_at w x s in
    let on_c : is_on w.layout at c.0.call ≡ true = ap (λ g. is_on g at c.0.call) (sym (layout_at p h xs run x s)) ∙ ap (λ y. is_on st.layout at y) (sym c.2.call) ∙ among.on in
    let spot : spot_at w.layout x.course.call ≡ at = spot_is w.layout at (new_call 0 0 x.course.call) zero on in
    record {
      leader = l.0;
      sent = sent_as x.machine c.0;
      has = sent_there w x.machine s.machine c.0 s.at i.0;
      on = on_c;
      wrote = wrote;
      less = made_before p h xs run x s c.0 c.1 session work area
          (or_left (is_write c.0.call.op) (is_block_read (new_call 0 0 c.0.call)) (leader_writes c.0.call.op l.0 wrote))
          (lease_is_work c.0.call.purpose (ap (λ (y : Call). is_lease_call (new_call 0 0 y)) (sym c.2.call) ∙ among.lease)) (ap (λ a. is_on w.layout a c.0.call) spot ∙ on_c);
      lver = eqb-true l.0.lver m both.0;
      free = not-true l.0.held both.1;
    }
