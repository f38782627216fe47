-- The own block of a write, where the session has written one before: it is the block of the write's base.
use Rattle.sl_area.specs.AreaSizes.{Layout}
use Rattle.sl_run_law.specs.Course.CallStamps.{AnswersAgree, IsAnsweredAs, IsCourseOf, Pairwise, courses_of}
use Rattle.sl_run_law.proofs.Front.JoinedLists.{contains_right}
use Rattle.sl_run.specs.LawfulArea.{is_area_work, is_block_work}
use Rattle.sl_run.specs.LawfulBlock.{LawfulBlockStep}
use Rattle.sl_run.specs.LawForms.{cut_at}
use Rattle.sl_run_law.proofs.Leases.RestLaws.{blocks_have_fronts}
use Rattle.sl_run_law.proofs.Leases.SpotLaws.{areas_are_apart}
use Rattle.sl_run_law.proofs.Leases.TurnLaws.{one_at_a_time}
use Rattle.sl_run_law.specs.Leases.LeaseLaws.{WasAnsweredBy}
use Rattle.sl_run_law.specs.Leases.Ways.{BlockFront, lease_among}
use Rattle.sl_trace.specs.Leases.{block_of_record, block_submitted, block_written, is_block_read, is_lease_call, is_on, lease_step, spot_of_call}
use Rattle.sl_run_law.specs.Moment.Orders.{CallsFall, IsTimed}
use Rattle.sl_run_law.proofs.Place.Daemons.{daemons_are_fine, stamp_order}
use Rattle.sl_run_law.proofs.Place.FoundInLists.{finds}
use Rattle.sl_run_law.proofs.Place.SessionNumbers.{session_number}
use Rattle.sl_run_law.proofs.Place.PlaceLaws.{promised}
use Rattle.sl_words.proofs.Lists.{contains_cases, contains_more, contains_none, find_inside, kept, kept_inside}
use Rattle.sl_words.proofs.Numbers.{lt_then_le, none_off}
use Rattle.sl_safety.proofs.Resources.LastBlock.{last_block, lease_kept, no_block_there, of_lease}
use Rattle.sl_safety.proofs.Resources.NewestCalls.{newest, sent_as}
use Rattle.sl_safety.proofs.Resources.CallParts.{Standing, machine_of, pair_parts, parts, sent_there, standing, stands_behind}
use Rattle.sl_safety.specs.Resources.Histories.{base_of, shown_by}
use Rattle.sl_safety.specs.Resources.SentCalls.{Sent, all_sent, block_of_course, holder_of, is_block_before, last_block_before, last_given_before, same_session, sender_of, step_of, writes_block}
use Rattle.sl_run.specs.Runs.{Happening}
use Rattle.sl_run.specs.Safety.{LawfulRun, SessionId, world_at}
use Rattle.sl_run.specs.Worlds.{Course, Machine, Program, World, machine_at}
use Rattle.sl_run.specs.declared.header.Header.{Header}
use Rattle.sl_sector.specs.declared.sector.Block.{Block}
use Rattle.sl_trace.specs.Sessions.{is_call_of}
use Rattle.sl_trace.specs.declared.session.Session.{Session}
use Rattle.sl_trace.specs.Traces.{Setting, Submitted, Trace, is_write, new_call, record_of, submitted}
use Rattle.sl_trace.specs.declared.effects.Call.{Call}
use Rattle.sl_trace.specs.declared.effects.Op.TheVariants.{ReadSectors, WriteRecord}
use Rattle.sl_trace.specs.declared.effects.Op.{Op}
use Rattle.sl_trace.specs.declared.effects.LeaseStep.{LeaseStep}
use Rattle.sl_trace.specs.declared.effects.Purpose.TheVariants.{Joining, Lease, Leaving, Renewal, RequestRead, RequestWrite, SeeRequest, Survey, ValueRead, ValueWrite}
use Rattle.sl_trace.specs.declared.effects.Purpose.{Purpose}
use Rattle.sl_trace.specs.declared.effects.Spot.{Spot}
use Rattle.sl_trace.specs.declared.effects.Work.{Work}
use Rattle.sl_words.proofs.CaseLaws.{false_is_true, none_some, some_value}
use Rattle.sl_words.proofs.WordLaws.{and_true}
use Rattle.std.proofs.Common.{ap, arith, inl, inr, refl, subst, sym, ◌∙◌}
use Rattle.std.proofs.lemmas.Bool.{and_from, eq-eqb, eqb-true, lt-ltb, ltb-true, or_left}
use Rattle.std.specs.Option.{option_map_or}
use Rattle.std.specs.Prelude.{Bool, Contains, List, None, Option, Some, [], find, is_some, length, nat_lt, option_and_then, true, ℕ, ◌%◌, ◌&&◌, ◌++◌, ◌+◌, ◌<◌, ◌==◌, ◌∷◌, ◌≡◌, ◌≤◌}

-- ---- places

-- The area of a call on an area is that.
pub spot_is : (g : Layout) (at : Spot) (m : Submitted) → at.base % g.area ≡ 0 → is_on g at m.call ≡ true → spot_of_call g m ≡ at
spot_is g at m zero on =
    let c : Submitted = new_call 0 0 (record m.call { path = at.path; offset = at.base }) in
    let same : spot_of_call g c ≡ at = ap (λ n. let z : Spot = record { path = at.path; base = n } in z) (none_off at.base (at.base % g.area) zero) in
    areas_are_apart g c m (subst (λ z. is_on g z m.call ≡ true) (sym same) on) ∙ same

-- ---- calls

pub writes_write : (op : Op) (b : Block) → option_and_then block_of_record (record_of op) ≡ Some b → is_write op ≡ true
writes_write (ReadSectors n) b h = absurd (none_some b h)
writes_write (WriteRecord r) b h = refl

pub lease_is_work : (p : Purpose) → is_some (lease_step p) ≡ true → is_area_work p ≡ true
lease_is_work (Joining j step) h = absurd (false_is_true h)
lease_is_work Renewal h = absurd (false_is_true h)
lease_is_work Survey h = absurd (false_is_true h)
lease_is_work (Leaving j) h = absurd (false_is_true h)
lease_is_work (Lease work step) h = refl
lease_is_work (RequestRead j) h = absurd (false_is_true h)
lease_is_work (RequestWrite j o) h = absurd (false_is_true h)
lease_is_work SeeRequest h = absurd (false_is_true h)
lease_is_work (ValueWrite j) h = absurd (false_is_true h)
lease_is_work (ValueRead j) h = absurd (false_is_true h)

leases_by : (st : Setting) (t : Trace) (s : Session) (c : Submitted) (b : Block) (o : Option (Work × LeaseStep))
    → elim o as (λ z. Type 0) [ None ↦ ⊥ | Some p ↦ LawfulBlockStep st t s (spot_of_call st.layout c) c b p.1 ] → is_some o ≡ true
leases_by st t s c b None h = absurd h
leases_by st t s c b (Some p) h = refl

abbrev pub block_of_call : Call → Option Block
block_of_call c = option_and_then block_of_record (record_of c.op)

abbrev pub setting_at : {w : World} {x : Sent} → Standing w x → Setting
setting_at {w} {x} s = s.daemon.setting

abbrev pub trace_at : {w : World} {x : Sent} → Standing w x → Trace
trace_at {w} {x} s = s.daemon.trace

-- A block that a call writes, in the words of its trace.
pub block_told : (w : World) (x : Sent) (s : Standing w x) (b : Block) → block_of_course x.course ≡ Some b → block_written s.told.one ≡ Some b
block_told w x s b is = ap (λ c. block_of_call c) s.told.pair.call ∙ is

-- Its front.
pub front_at : (w : World) (x : Sent) (s : Standing w x) (b : Block) → block_of_course x.course ≡ Some b
    → BlockFront (setting_at s) (trace_at s) s.session s.told.older s.told.one b
front_at w x s b is = blocks_have_fronts (setting_at s) (trace_at s) s.lawful s.told.newer s.told.older s.told.one b s.told.is (block_told w x s b is) s.session s.known

-- Each block is written by a lease.
pub block_is_lease : (w : World) (x : Sent) (s : Standing w x) (b : Block) → block_of_course x.course ≡ Some b → is_lease_call (new_call 0 0 x.course.call) ≡ true
block_is_lease w x s b is =
    let f = front_at w x s b is in
    let h = f.submission in
    let t : Trace = cut_at h.place h.entry ∷ h.past in
    ap (λ c. is_lease_call (new_call 0 0 c)) (sym s.told.pair.call ∙ h.itself.call)
    ∙ leases_by (setting_at s) t s.session (new_call (length h.past) h.entry.reading h.call) b (lease_step h.call.purpose) f.lawful

-- ---- what is of the same session

pub same_itself : (i : SessionId) → same_session i i ≡ true
same_itself i =
    and_from _ _ (and_from _ _ (eq-eqb i.machine i.machine refl) (eq-eqb i.daemon i.daemon refl)) (eq-eqb i.number i.number refl)

pub session_as : (m d n m' d' n' : ℕ) → m ≡ m' → d ≡ d' → n ≡ n' → (let i : SessionId = record { machine = m; daemon = d; number = n } in i) ≡ record { machine = m'; daemon = d'; number = n' }
session_as m d n m' d' n' p q r =
    ap (λ k. let i : SessionId = record { machine = k; daemon = d; number = n } in i) p ∙ ap (λ k. let i : SessionId = record { machine = m'; daemon = k; number = n } in i) q
    ∙ ap (λ k. let i : SessionId = record { machine = m'; daemon = d'; number = k } in i) r

pub same_is : (i k : SessionId) → same_session i k ≡ true → i ≡ k
same_is i k h =
    let both = and_true (i.machine == k.machine && i.daemon == k.daemon) (i.number == k.number) h in
    let first = and_true (i.machine == k.machine) (i.daemon == k.daemon) both.0 in
    session_as i.machine i.daemon i.number k.machine k.daemon k.number (eqb-true i.machine k.machine first.0) (eqb-true i.daemon k.daemon first.1)
    (eqb-true i.number k.number both.1)

-- The session's number is that of the call.
pub number_at : (w : World) (x : Sent) (s : Standing w x) → s.session.number ≡ x.course.call.session
number_at w x s = session_number (setting_at s) (trace_at s) s.told.one.call.session s.session s.known ∙ ap (λ c. c.session) s.told.pair.call

-- A call of the same session at an earlier step is behind.
pub behind : (w : World) (x : Sent) (s : Standing w x) (z : Sent) → Contains (all_sent w) z → sender_of z ≡ sender_of x → step_of z < step_of x → Contains s.before z.course
behind w x s z has same less =
    let m = machine_of w z has in
    let one : z.machine ≡ x.machine = ap (λ i. i.machine) same in
    let a : m.0 ≡ s.machine = some_value m.0 s.machine (sym m.1 ∙ ap (λ n. machine_at w n) one ∙ s.at) in
    let inside : Contains s.machine.calls z.course = subst (λ (b : Machine). Contains b.calls z.course) a m.2 in
    let daemon : z.course.daemon ≡ s.daemon.number = ap (λ i. i.daemon) same ∙ sym s.number in
    let mine : Contains (courses_of s.machine s.daemon.number) z.course =
    kept (λ (c : Course). c.daemon == s.daemon.number) s.machine.calls z.course (eq-eqb z.course.daemon s.daemon.number daemon) inside in
    stands_behind w.step s.after x.course s.before z.course (subst (λ cs. CallsFall w.step cs) s.courses s.fallen) (subst (λ cs. Contains cs z.course) s.courses mine) less

-- .. and the other way: what is behind is of the same daemon.
pub is_behind : (w : World) (x : Sent) (s : Standing w x) (c : Course) → Contains s.before c → Contains s.machine.calls c × (c.daemon ≡ x.course.daemon)
is_behind w x s c has =
    let inside : Contains (courses_of s.machine s.daemon.number) c =
    subst (λ cs. Contains cs c) (sym s.courses) (contains_right s.after (x.course ∷ s.before) c (contains_more x.course s.before c has)) in
    let f = kept_inside (λ (d : Course). d.daemon == s.daemon.number) s.machine.calls c inside in
    (f.0, eqb-true c.daemon s.daemon.number f.1 ∙ s.number)

-- ---- turns

abbrev pub works : Call → Bool
works c = is_block_work (new_call 0 0 c)

pub block_works : (c : Course) (b : Block) → block_of_course c ≡ Some b → works c.call ≡ true
block_works c b is = or_left (is_write c.call.op) (is_block_read (new_call 0 0 c.call)) (writes_write c.call.op b is)

abbrev pub spot_at : Layout → Call → Spot
spot_at g c = spot_of_call g (new_call 0 0 c)

pub timed_in : (n : ℕ) (cs : List Course) (c : Course) → CallsFall n cs → Contains cs c → IsTimed c
timed_in n [] c h has = absurd (contains_none c has)
timed_in n (x ∷ cs) c h has =
    elim (contains_cases x cs c has) as (λ z. IsTimed c) [
      | inl e ↦ subst (λ y. IsTimed y) e h.1
      | inr more ↦ timed_in (x.made.step + 1) cs c h.2 more
    ]

pub layout_at : (p : Program) (h : Header) (xs : List Happening) → LawfulRun p h xs → (x : Sent) (s : Standing (world_at p h xs) x) → (setting_at s).layout ≡ (world_at p h xs).layout
layout_at p h xs run x s = (promised.of_world p h xs run x.machine s.machine s.daemon s.at s.has).layout

-- What a session wrote or read on an area before was answered by then, so it was made at an earlier step.
pub made_before : (p : Program) (h : Header) (xs : List Happening) → LawfulRun p h xs → (x : Sent) (s : Standing (world_at p h xs) x) (c : Course) → Contains s.before c
    → c.call.session ≡ x.course.call.session → works x.course.call ≡ true → is_area_work x.course.call.purpose ≡ true → works c.call ≡ true
    → is_area_work c.call.purpose ≡ true → is_on (world_at p h xs).layout (spot_at (world_at p h xs).layout x.course.call) c.call ≡ true → c.made.step < x.course.made.step
made_before p h xs run x s c has same work area other also on =
    let w : World = world_at p h xs in
    let st : Setting = setting_at s in
    let m : Submitted = s.told.one in
    let q = parts s.before c has in
    let r = pair_parts (IsCourseOf s.daemon) q.newer c q.older s.told.older (subst (λ cs. Pairwise (IsCourseOf s.daemon) cs s.told.older) q.is s.told.pairs) in
    let whole : submitted s.daemon.trace ≡ s.told.newer ++ m ∷ (r.newer ++ r.one ∷ r.older) = s.told.is ∙ ap (λ ms. s.told.newer ++ m ∷ ms) r.is in
    let layout : st.layout ≡ w.layout = layout_at p h xs run x s in
    let one : m.call ≡ x.course.call = s.told.pair.call in
    let a : WasAnsweredBy r.one m =
    one_at_a_time st s.daemon.trace s.lawful s.told.newer r.newer r.older m r.one whole
    (ap (λ c. c.session) one ∙ sym same ∙ ap (λ c. c.session) (sym r.pair.call)) (ap works one ∙ work) (ap (λ c. is_area_work c.purpose) one ∙ area)
    (ap works r.pair.call ∙ other) (ap (λ c. is_area_work c.purpose) r.pair.call ∙ also)
    (ap (λ g. is_on g (spot_at g m.call) r.one.call) layout ∙ ap (λ c. is_on w.layout (spot_at w.layout c) r.one.call) one
    ∙ ap (λ c. is_on w.layout (spot_at w.layout x.course.call) c) r.pair.call ∙ on) in
    let k : IsAnsweredAs s.daemon c a.answer = subst (λ o. AnswersAgree s.daemon c o) a.answered r.pair.answers in
    lt_then_le c.made.step k.stamp.step x.course.made.step ((timed_in (x.course.made.step + 1) s.before c s.fall has).answered k.stamp k.answered)
    (stamp_order w.step s.daemon.stamps a.answer.at m.at k.stamp x.course.made (daemons_are_fine p h xs run x.machine s.machine s.daemon s.at s.has).stamps k.entry
    s.told.pair.made a.by)

-- ---- the last block before

pub before_is : (w : World) (at : Spot) (x z : Sent) → step_of z < step_of x → is_on w.layout at z.course.call ≡ true → writes_block z.course ≡ true → sender_of z ≡ sender_of x
    → is_block_before w at (sender_of x) (step_of x) z ≡ true
before_is w at x z less on writes same =
    and_from _ _ (and_from _ _ (and_from _ _ (lt-ltb (step_of z) (step_of x) less) on) writes)
    (subst (λ i. same_session (sender_of x) i ≡ true) (sym same) (same_itself (sender_of x)))

pub record IsBefore (w : World) (at : Spot) (x z : Sent) : Type 0 where
  pub less : step_of z < step_of x
  pub on : is_on w.layout at z.course.call ≡ true
  pub writes : writes_block z.course ≡ true
  pub sender : sender_of z ≡ sender_of x

pub is_before : (w : World) (at : Spot) (x z : Sent) → is_block_before w at (sender_of x) (step_of x) z ≡ true → IsBefore w at x z
is_before w at x z h =
    let three = and_true (nat_lt (step_of z) (step_of x) && is_on w.layout at z.course.call && writes_block z.course) (same_session (sender_of x) (sender_of z)) h in
    let two = and_true (nat_lt (step_of z) (step_of x) && is_on w.layout at z.course.call) (writes_block z.course) three.0 in
    let one = and_true (nat_lt (step_of z) (step_of x)) (is_on w.layout at z.course.call) two.0 in
    record { less = ltb-true (step_of z) (step_of x) one.0; on = one.1; writes = two.1; sender = sym (same_is (sender_of x) (sender_of z) three.1) }

pub written : (c : Course) → writes_block c ≡ true → (b : Block) × (block_of_course c ≡ Some b)
written c h = by (block_of_course c) h where
  by : (o : Option Block) → is_some o ≡ true → (b : Block) × (o ≡ Some b)
  by None k = absurd (false_is_true k)
  by (Some b) k = (b, refl)

-- The test of the session's lease on the area.
abbrev pub lease_test : {w : World} {x : Sent} → Standing w x → Spot → Call → Bool
lease_test {w} {x} s at c = of_lease s.daemon.setting s.session at c

-- A block of the session on the area passes it.
pub passes_test : (p : Program) (h : Header) (xs : List Happening) → LawfulRun p h xs → (at : Spot) (x : Sent) (s : Standing (world_at p h xs) x) (z : Sent)
    → Contains (all_sent (world_at p h xs)) z → is_on (world_at p h xs).layout at z.course.call ≡ true → writes_block z.course ≡ true → sender_of z ≡ sender_of x
    → lease_test s at z.course.call ≡ true
passes_test p h xs run at x s z has on writes same =
    let w : World = world_at p h xs in
    let k : Standing w z = standing p h xs run z has in
    let b = written z.course writes in
    and_from _ _ (eq-eqb z.course.call.session s.session.number (ap (λ i. i.number) same ∙ sym (number_at w x s)))
    (and_from _ _ (block_is_lease w z k b.0 b.1) (ap (λ g. is_on g at z.course.call) (layout_at p h xs run x s) ∙ on))

-- The own block of a write, as the session wrote it before.
pub record OwnWritten (w : World) (at : Spot) (x : Sent) (own : Block) : Type 0 where
  pub sent : Sent
  pub has : Contains (all_sent w) sent
  pub on : is_on w.layout at sent.course.call ≡ true
  pub block : block_of_course sent.course ≡ Some own
  pub before : step_of sent < step_of x
  pub sender : sender_of sent ≡ sender_of x
  pub base : base_of w at x ≡ step_of sent
  pub newest : (v : Sent) → Contains (all_sent w) v → is_on w.layout at v.course.call ≡ true → writes_block v.course ≡ true → sender_of v ≡ sender_of x → step_of v < step_of x
      → step_of v ≤ step_of sent

both_ways : (a b : ℕ) → a ≤ b → b ≤ a → b ≡ a
both_ways a b p q = omega (arith, p, q)

abbrev pub base_by : World → Spot → Sent → Option Sent → ℕ
base_by w at x o =
    elim o [ Some y ↦ step_of y | None ↦ option_map_or (shown_by w at (holder_of w (sender_of x)).id) (last_given_before w at (sender_of x) (step_of x)) 0 ]

pub own_written : (p : Program) (h : Header) (xs : List Happening) → LawfulRun p h xs → (at : Spot) → at.base % (world_at p h xs).layout.area ≡ 0 → (x : Sent)
    → Contains (all_sent (world_at p h xs)) x → (s : Standing (world_at p h xs) x) → is_on (world_at p h xs).layout at x.course.call ≡ true → (b : Block)
    → block_of_course x.course ≡ Some b → (own : Block) → block_submitted (lease_among s.daemon.setting s.session at s.told.older) ≡ Some own
    → OwnWritten (world_at p h xs) at x own
own_written p h xs run at zero x there s on b is own found =
    let w : World = world_at p h xs in
    let T : Call → Bool = lease_test s at in
    let P : Sent → Bool = is_block_before w at (sender_of x) (step_of x) in
    let l = last_block s.daemon T (x.course.made.step + 1) s.before s.told.older own s.told.pairs s.fall
    (ap (λ ms. block_submitted ms) (sym (lease_kept s.daemon.setting s.session at s.told.older)) ∙ found) in
    let z : Sent = sent_as x.machine l.course in
    let i = is_behind w x s l.course l.has in
    let inside = sent_there w x.machine s.machine l.course s.at i.0 in
    let one = and_true (is_call_of s.session (new_call 0 0 l.course.call)) (is_lease_call (new_call 0 0 l.course.call) && is_on s.daemon.setting.layout at l.course.call) l.passes in
    let two = and_true (is_lease_call (new_call 0 0 l.course.call)) (is_on s.daemon.setting.layout at l.course.call) one.1 in
    let session : l.course.call.session ≡ x.course.call.session = eqb-true l.course.call.session s.session.number one.0 ∙ number_at w x s in
    let same : sender_of z ≡ sender_of x =
    session_as x.machine l.course.daemon l.course.call.session x.machine x.course.daemon x.course.call.session refl i.1 session in
    let layout = layout_at p h xs run x s in
    let on_z : is_on w.layout at l.course.call ≡ true = ap (λ g. is_on g at l.course.call) (sym layout) ∙ two.1 in
    let spot : spot_at w.layout x.course.call ≡ at = spot_is w.layout at (new_call 0 0 x.course.call) zero on in
    let less : l.course.made.step < x.course.made.step =
    made_before p h xs run x s l.course l.has session (block_works x.course b is) (lease_is_work x.course.call.purpose (block_is_lease w x s b is)) (block_works l.course own l.block)
    (lease_is_work l.course.call.purpose two.0) (ap (λ q. is_on w.layout q l.course.call) spot ∙ on_z) in
    let passes : P z ≡ true = before_is w at x z less on_z (ap (λ o. is_some o) l.block) same in
    let y = finds P (all_sent w) z passes inside in
    let its = find_inside P (all_sent w) y.0 y.1 in
    let g = is_before w at x y.0 its.1 in
    let up : l.course.made.step ≤ step_of y.0 =
    newest P w x.machine w.step s.machine y.0 l.course s.at s.falls (λ v passed. ap (λ k. k.machine) (is_before w at x v passed).sender) i.0 passes y.1 in
    let down : step_of y.0 ≤ l.course.made.step =
    l.newest y.0.course (behind w x s y.0 its.0 g.sender g.less) (passes_test p h xs run at x s y.0 its.0 g.on g.writes g.sender) g.writes in
    record {
      sent = z;
      has = inside;
      on = on_z;
      block = l.block;
      before = less;
      sender = same;
      base = ap (base_by w at x) y.1 ∙ both_ways l.course.made.step (step_of y.0) up down;
      newest = λ v vin von vwrites vsame vless. l.newest v.course (behind w x s v vin vsame vless) (passes_test p h xs run at x s v vin von vwrites vsame) vwrites;
    }

-- Where it wrote none before, none is found.
pub none_before : (p : Program) (h : Header) (xs : List Happening) → LawfulRun p h xs → (at : Spot) (x : Sent) (s : Standing (world_at p h xs) x)
    → block_submitted (lease_among s.daemon.setting s.session at s.told.older) ≡ None → (v : Sent) → Contains (all_sent (world_at p h xs)) v
    → is_on (world_at p h xs).layout at v.course.call ≡ true → writes_block v.course ≡ true → sender_of v ≡ sender_of x → step_of v < step_of x → ⊥
none_before p h xs run at x s none v has on writes same less =
    no_block_there s.daemon (lease_test s at) s.before s.told.older v.course s.told.pairs
    (ap (λ ms. block_submitted ms) (sym (lease_kept s.daemon.setting s.session at s.told.older)) ∙ none) (behind (world_at p h xs) x s v has same less)
    (passes_test p h xs run at x s v has on writes same) writes

found_none : {A : Type 0} (P : A → Bool) (xs : List A) (o : Option A) → find P xs ≡ o → ((x : A) → Contains xs x → P x ≡ true → ⊥) → o ≡ None
found_none P xs None is never = refl
found_none P xs (Some x) is never = let f = find_inside P xs x is in absurd (never x f.0 f.1)

pub last_is_none : (p : Program) (h : Header) (xs : List Happening) → LawfulRun p h xs → (at : Spot) (x : Sent) (s : Standing (world_at p h xs) x)
    → block_submitted (lease_among s.daemon.setting s.session at s.told.older) ≡ None → last_block_before (world_at p h xs) at (sender_of x) (step_of x) ≡ None
last_is_none p h xs run at x s none =
    let w : World = world_at p h xs in
    found_none (is_block_before w at (sender_of x) (step_of x)) (all_sent w) (last_block_before w at (sender_of x) (step_of x)) refl
    (λ v has passes. let g = is_before w at x v passes in none_before p h xs run at x s none v has g.on g.writes g.sender g.less)
