-- A write of a lease, with the calls of the lease before it, and where its block comes from; and the history's block of a step.
use Rattle.sl_area.specs.AreaSizes.{Layout}
use Rattle.sl_run_law.specs.Course.CallStamps.{stamp_in}
use Rattle.sl_run_law.proofs.Front.JoinedLists.{contains_right}
use Rattle.sl_run.specs.LawfulArea.{is_area_work}
use Rattle.sl_run_law.proofs.Leases.ComingLaws.{blocks_come}
use Rattle.sl_run_law.proofs.Leases.NumberLaws.{number_is_place}
use Rattle.sl_run_law.proofs.Leases.TurnLaws.{one_at_a_time}
use Rattle.sl_run_law.specs.Leases.LeaseLaws.{WasAnsweredBy}
use Rattle.sl_run_law.specs.Leases.Ways.{BlockComes, lease_among}
use Rattle.sl_trace.specs.Leases.{block_of_host, blocks_given, is_block_read, is_lease_call, is_on, spot_of_call}
use Rattle.sl_run_law.proofs.Place.Areas.{resource_aligned}
use Rattle.sl_run_law.proofs.Place.Daemons.{daemons_are_fine, stamp_order}
use Rattle.sl_run_law.proofs.Place.Seats.{sized_in}
use Rattle.sl_words.proofs.Lists.{contains_more, kept_inside}
use Rattle.sl_words.proofs.Options.{some_there}
use Rattle.sl_safety.proofs.Resources.StepsNameCalls.{block_at_step, found_at}
use Rattle.sl_safety.proofs.Resources.AnsweredReads.{IsLook, given_told}
use Rattle.sl_safety.proofs.Resources.OwnBlocks.{block_told, layout_at, lease_is_work, number_at, spot_is, works, written}
use Rattle.sl_safety.proofs.Resources.CallParts.{Standing, parts}
use Rattle.sl_safety.specs.Resources.Histories.{history_block, no_block}
use Rattle.sl_safety.specs.Resources.HistoryLaws.{history_of_line, spot_of_line}
use Rattle.sl_safety.specs.Resources.SentCalls.{Sent, all_sent, block_of_course, sent_at, step_of, writes_block}
use Rattle.sl_run.specs.Runs.{Happening}
use Rattle.sl_run.specs.Safety.{LawfulRun, world_at}
use Rattle.sl_run.specs.Worlds.{Program, Stamp, World}
use Rattle.sl_run.specs.declared.header.Header.{Header}
use Rattle.sl_run.specs.declared.header.ResourceLine.{ResourceLine}
use Rattle.sl_sector.specs.declared.sector.Block.{Block}
use Rattle.sl_trace.specs.Sessions.{is_call_of, session_numbered}
use Rattle.sl_trace.specs.declared.session.Session.{Session}
use Rattle.sl_trace.specs.Traces.{Answered, Setting, Submitted, submitted}
use Rattle.sl_trace.specs.declared.effects.Spot.{Spot}
use Rattle.sl_words.proofs.CaseLaws.{none_some, one_value}
use Rattle.sl_words.proofs.WordLaws.{and_true}
use Rattle.std.proofs.Common.{ap, refl, subst, sym, ◌∙◌}
use Rattle.std.proofs.lemmas.Bool.{eqb-true, or_right}
use Rattle.std.specs.Option.{option_map_or}
use Rattle.std.specs.Prelude.{Contains, List, None, Option, Some, filter, is_some, option_and_then, slice_get, true, unwrap_or, ℕ, ◌%◌, ◌&&◌, ◌++◌, ◌-◌, ◌∷◌, ◌≡◌, ◌≤◌}
use Rattle.sl_safety.proofs.Resources.AtSteps.{not_at_first}

-- ---- a resource's area

pub line_aligned : (p : Program) (h : Header) (xs : List Happening) → LawfulRun p h xs → (r : ResourceLine) → Contains h.resources r
    → (spot_of_line r).base % (world_at p h xs).layout.area ≡ 0
line_aligned p h xs run r there = subst (λ n. r.offset % n ≡ 0) (sym (sized_in p h xs run).area) (resource_aligned h r run.header there)

-- ---- a call of the lease before another

-- What is among the lease's calls.
pub record IsAmong (st : Setting) (s : Session) (at : Spot) (older : List Submitted) (q : Submitted) : Type 0 where
  pub has : Contains older q
  pub session : q.call.session ≡ s.number
  pub lease : is_lease_call q ≡ true
  pub on : is_on st.layout at q.call ≡ true

pub is_among : (st : Setting) (s : Session) (at : Spot) (older : List Submitted) (q : Submitted) → Contains (lease_among st s at older) q → IsAmong st s at older q
is_among st s at older q has =
    let one = kept_inside (λ m. is_lease_call m && is_on st.layout at m.call) (filter (is_call_of s) older) q has in
    let two = kept_inside (is_call_of s) older q one.0 in
    let both = and_true (is_lease_call q) (is_on st.layout at q.call) one.1 in
    record { has = two.0; session = eqb-true q.call.session s.number two.1; lease = both.0; on = both.1 }

-- What gave blocks is a read of blocks.
pub reads_work : (g : Layout) (q : Submitted) (before : List Submitted) (bs : List (Option Block)) → blocks_given g q before ≡ Some bs → works q.call ≡ true
reads_work g q before bs h = or_right _ (is_block_read q) (given_told g q before bs h).reads

-- A call of the lease before was answered by then.
pub answered_before : (p : Program) (h : Header) (xs : List Happening) → LawfulRun p h xs → (x : Sent) (s : Standing (world_at p h xs) x) → works x.course.call ≡ true
    → is_area_work x.course.call.purpose ≡ true → (q : Submitted)
    → IsAmong s.daemon.setting s.session (spot_of_call s.daemon.setting.layout s.told.one) s.told.older q → works q.call ≡ true → WasAnsweredBy q s.told.one
answered_before p h xs run x s work area q among other =
    let m : Submitted = s.told.one in
    let r = parts s.told.older q among.has in
    let whole : submitted s.daemon.trace ≡ s.told.newer ++ m ∷ (r.newer ++ q ∷ r.older) = s.told.is ∙ ap (λ ms. s.told.newer ++ m ∷ ms) r.is in
    let one : m.call ≡ x.course.call = s.told.pair.call in
    one_at_a_time s.daemon.setting s.daemon.trace s.lawful s.told.newer r.newer r.older m q whole
    (ap (λ c. c.session) one ∙ sym (number_at (world_at p h xs) x s) ∙ sym among.session) (ap works one ∙ work) (ap (λ c. is_area_work c.purpose) one ∙ area) other
    (lease_is_work q.call.purpose among.lease) among.on

-- .. so at a step not later than that of the other.
pub answer_step : (p : Program) (h : Header) (xs : List Happening) → LawfulRun p h xs → (x : Sent) (s : Standing (world_at p h xs) x) → (q : Submitted)
    → WasAnsweredBy q s.told.one → (a : Answered) → q.answer ≡ Some a → (t : Stamp) → stamp_in s.daemon.stamps a.at ≡ Some t → t.step ≤ step_of x
answer_step p h xs run x s q by a told t stamped =
    let w : World = world_at p h xs in
    let same : by.answer ≡ a = one_value by.answer a q.answer by.answered told in
    stamp_order w.step s.daemon.stamps a.at s.told.one.at t x.course.made (daemons_are_fine p h xs run x.machine s.machine s.daemon s.at s.has).stamps stamped s.told.pair.made
    (subst (λ (y : Answered). y.at ≤ s.told.one.at) same by.by)

pub in_older : (ms newer older : List Submitted) (m q : Submitted) → ms ≡ newer ++ m ∷ older → Contains older q → Contains ms q
in_older ms newer older m q is has = subst (λ l. Contains l q) (sym is) (contains_right newer (m ∷ older) q (contains_more m older q has))

pub older_look : (p : Program) (h : Header) (xs : List Happening) → LawfulRun p h xs → (x : Sent) (s : Standing (world_at p h xs) x) (at : Spot) (q : Submitted)
    → IsAmong s.daemon.setting s.session at s.told.older q → IsLook p h xs x.machine s.machine s.daemon q
older_look p h xs run x s at q among =
    let n = number_is_place s.daemon.setting s.daemon.trace s.told.one.call.session s.session s.known in
    record {
      run = run;
      at = s.at;
      has = s.has;
      lawful = s.lawful;
      session = s.session;
      its = ap (λ k. session_numbered s.daemon.setting s.daemon.trace k) n ∙ s.known;
      there = in_older (submitted s.daemon.trace) s.told.newer s.told.older s.told.one q s.told.is among.has;
      mine = among.session;
    }

host_there : (bs : List (Option Block)) (k : ℕ) (b : Block) (o : Option (Option Block)) → slice_get bs k ≡ o → unwrap_or o None ≡ Some b → slice_get bs k ≡ Some (Some b)
host_there bs k b None is h = absurd (none_some b h)
host_there bs k b (Some y) is h = is ∙ ap (λ z. Some z) h

pub own_there : (bs : List (Option Block)) (host : ℕ) (b : Block) → block_of_host bs host ≡ Some b → slice_get bs (host - 1) ≡ Some (Some b)
own_there bs host b h = host_there bs (host - 1) b (slice_get bs (host - 1)) refl h

-- ---- where a block comes from

pub told_spot : (p : Program) (h : Header) (xs : List Happening) → LawfulRun p h xs → (at : Spot) → at.base % (world_at p h xs).layout.area ≡ 0 → (x : Sent)
    → (s : Standing (world_at p h xs) x) → is_on (world_at p h xs).layout at x.course.call ≡ true → spot_of_call s.daemon.setting.layout s.told.one ≡ at
told_spot p h xs run at zero x s on =
    let w : World = world_at p h xs in
    ap (λ g. spot_of_call g s.told.one) (layout_at p h xs run x s)
    ∙ spot_is w.layout at s.told.one zero (ap (λ c. is_on w.layout at c) s.told.pair.call ∙ on)

pub comes_at : (p : Program) (h : Header) (xs : List Happening) → LawfulRun p h xs → (at : Spot) → at.base % (world_at p h xs).layout.area ≡ 0 → (x : Sent)
    → (s : Standing (world_at p h xs) x) → is_on (world_at p h xs).layout at x.course.call ≡ true → (b : Block) → block_of_course x.course ≡ Some b
    → BlockComes s.daemon.setting s.session at s.told.older s.told.one b
comes_at p h xs run at zero x s on b is =
    let some : 1 ≤ s.daemon.setting.layout.hosts = subst (λ (g : Layout). 1 ≤ g.hosts) (sym (layout_at p h xs run x s)) (sized_in p h xs run).hosts.0 in
    subst (λ a. BlockComes s.daemon.setting s.session a s.told.older s.told.one b) (told_spot p h xs run at zero x s on)
    (blocks_come s.daemon.setting s.daemon.trace s.lawful some s.told.newer s.told.older s.told.one b s.told.is (block_told (world_at p h xs) x s b is) s.session s.known)

-- ---- the history's block of a step

-- What is written at a step.
pub record WrittenAt (p : Program) (h : Header) (xs : List Happening) (r : ResourceLine) (e : ℕ) : Type 0 where
  pub sent : Sent
  pub is : sent_at (world_at p h xs) (spot_of_line r) writes_block e ≡ Some sent
  pub has : Contains (all_sent (world_at p h xs)) sent
  pub step_is : step_of sent ≡ e
  pub on : is_on (world_at p h xs).layout (spot_of_line r) sent.course.call ≡ true
  pub block : Block
  pub wrote : block_of_course sent.course ≡ Some block
  pub shown : (history_of_line p h xs r).block e ≡ history_block block

pub block_by : (o : Option Sent) (x : Sent) (b : Block) → o ≡ Some x → block_of_course x.course ≡ Some b
    → option_map_or history_block (option_and_then (λ y. block_of_course y.course) o) no_block ≡ history_block b
block_by o x b is wrote =
    ap (λ q. option_map_or history_block (option_and_then (λ y. block_of_course y.course) q) no_block) is ∙ ap (λ q. option_map_or history_block q no_block) wrote

pub written_at : (p : Program) (h : Header) (xs : List Happening) (r : ResourceLine) (e : ℕ) → (history_of_line p h xs r).writes e ≡ true → WrittenAt p h xs r e
written_at p h xs r e writes =
    let w : World = world_at p h xs in
    let x = some_there (sent_at w (spot_of_line r) writes_block e) writes in
    let f = found_at w r writes_block e x.0 x.1 in
    let b = written x.0.course f.1 in
    record {
      sent = x.0;
      is = x.1;
      has = f.0.sent;
      step_is = f.0.step_is;
      on = f.0.on;
      block = b.0;
      wrote = b.1;
      shown = block_by (sent_at w (spot_of_line r) writes_block e) x.0 b.0 x.1 b.1;
    }

-- At a step of a block of the resource the history has that block.
pub block_of_step : (p : Program) (h : Header) (xs : List Happening) → LawfulRun p h xs → (r : ResourceLine) → Contains h.resources r → (z : Sent) (b : Block)
    → Contains (all_sent (world_at p h xs)) z → is_on (world_at p h xs).layout (spot_of_line r) z.course.call ≡ true → block_of_course z.course ≡ Some b
    → (history_of_line p h xs r).block (step_of z) ≡ history_block b
block_of_step p h xs run r there z b has on is =
    let w : World = world_at p h xs in
    block_by (sent_at w (spot_of_line r) writes_block (step_of z)) z b (block_at_step p h xs run r there z has on (ap (λ o. is_some o) is)) is

-- At step 0 it has none.
pub block_of_none : (p : Program) (h : Header) (xs : List Happening) → LawfulRun p h xs → (r : ResourceLine) → (history_of_line p h xs r).block 0 ≡ no_block
block_of_none p h xs run r =
    ap (λ q. option_map_or history_block (option_and_then (λ y. block_of_course y.course) q) no_block)
    (not_at_first p h xs run r (sent_at (world_at p h xs) (spot_of_line r) writes_block 0) refl)
