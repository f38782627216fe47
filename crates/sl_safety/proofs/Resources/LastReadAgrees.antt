-- The last read of blocks that a session's first write rests on is the last read of the history that gave blocks.
use Rattle.sl_area.specs.AreaSizes.{Layout}
use Rattle.sl_run_law.specs.Course.CallStamps.{AnswersAgree, IsAnsweredAs, IsCourseOf}
use Rattle.sl_run.specs.LawfulArea.{is_area_work}
use Rattle.sl_trace.specs.Leases.{block_of_host, blocks_bytes, blocks_given, is_again, is_area_read, is_block_read, is_lease_call, is_on, kept_before, last_blocks, lease_calls, spot_of_call}
use Rattle.sl_run_law.specs.Leases.LeaseLaws.{WasAnsweredBy}
use Rattle.sl_run_law.proofs.Place.FoundInLists.{finds}
use Rattle.sl_words.proofs.Lists.{contains_first, find_inside}
use Rattle.sl_words.proofs.Numbers.{both_ways}
use Rattle.sl_safety.proofs.Resources.BlockOrigins.{IsAmong, answer_step, answered_before, in_older, is_among, line_aligned, older_look}
use Rattle.sl_safety.proofs.Resources.FirstWriteBase.{ReadFront}
use Rattle.sl_safety.proofs.Resources.AnswersFit.{answers_fit}
use Rattle.sl_safety.proofs.Resources.LastBlock.{kept_calls, lease_kept}
use Rattle.sl_safety.proofs.Resources.AnsweredReads.{IsLook, area_place, given_told, phase_place}
use Rattle.sl_area.specs.AreaLayout.{area_sectors, block_sectors, blocks_part}
use Rattle.sl_area.specs.Pairs.{needs_again, pairs_kept}
use Rattle.sl_safety.proofs.Resources.NewestCalls.{newest, sent_as}
use Rattle.sl_safety.proofs.Resources.OwnBlocks.{behind, is_behind, layout_at, lease_test, number_at, session_as, spot_is, works}
use Rattle.sl_safety.proofs.Resources.LastRead.{AnsweredBefore, Gives, LastRead, last_read, last_same}
use Rattle.sl_safety.proofs.Resources.CallParts.{Standing, sent_there}
use Rattle.sl_safety.specs.Resources.HistoryLaws.{spot_of_line}
use Rattle.sl_safety.specs.Resources.SentCalls.{Sent, all_sent, is_joined_there, is_look_before, last_given_before, reads_enough, sender_of, step_of}
use Rattle.sl_run.specs.Runs.{Happening}
use Rattle.sl_run.specs.Safety.{LawfulRun, world_at}
use Rattle.sl_run.specs.Worlds.{Daemon, Machine, Program, World}
use Rattle.sl_run.specs.declared.header.Header.{Header}
use Rattle.sl_run.specs.declared.header.ResourceLine.{ResourceLine}
use Rattle.sl_sector.specs.declared.sector.Block.{Block}
use Rattle.sl_trace.specs.Sessions.{is_call_of, session_numbered}
use Rattle.sl_trace.specs.Traces.{Answered, Setting, Submitted, Trace, bytes_given, gave, is_answer_for, is_ok_answer, new_call, submitted}
use Rattle.sl_trace.specs.declared.effects.Call.{Call}
use Rattle.sl_trace.specs.declared.effects.Op.TheVariants.{ReadSectors}
use Rattle.sl_trace.specs.declared.effects.Op.{Op}
use Rattle.sl_trace.specs.declared.effects.Spot.{Spot}
use Rattle.sl_trace.specs.declared.input.Answer.TheVariants.{Failed, Read, Written}
use Rattle.sl_trace.specs.declared.input.Answer.{Answer}
use Rattle.sl_words.proofs.CaseLaws.{false_is_true, none_some}
use Rattle.sl_words.proofs.WordLaws.{and_true}
use Rattle.std.proofs.Common.{ap, arith, refl, subst, sym, ◌∙◌}
use Rattle.std.proofs.lemmas.Bool.{and_from, eqb-true, or_right}
use Rattle.std.specs.Prelude.{Bool, Contains, List, None, Option, Some, [], false, if◌then◌else◌, length, option_and_then, option_map, true, ℕ, ◌%◌, ◌&&◌, ◌++◌, ◌+◌, ◌<◌, ◌∷◌, ◌≡◌, ◌≤◌}
use Rattle.sl_run_law.proofs.Leases.AgeLaws.{aged_lease}
use Rattle.sl_run_law.specs.Leases.Ways.{lease_among}
use Rattle.sl_safety.specs.Resources.SampledReads.{blocks_sampled, reads_again}
use Rattle.sl_safety.proofs.Resources.GivenBlocks.{GaveRead, gave_read, gives_bytes, gives_enough, gives_some, told_ok, first_enough}
use Rattle.sl_safety.proofs.Resources.StepsNameCalls.{read_works, steps_name}
use Rattle.sl_safety.proofs.Resources.EarlierCalls.{read_passes}
use Rattle.sl_run_law.proofs.Front.JoinedLists.{contains_right}
use Rattle.sl_run_law.proofs.Leases.NumberLaws.{number_is_place}
use Rattle.sl_safety.proofs.Resources.RepeatedReads.{AgainRests, again_rests}
use Rattle.sl_safety.proofs.Resources.Looks.{IsLookBefore, look_before, look_early, look_is}
use Rattle.std.proofs.lemmas.List.{append_assoc}
use Rattle.sl_safety.proofs.Resources.ReadBeginnings.{look_counts}

-- ---- calls before a write

-- What passes the test of the lease is of it.
among_is : (p : Program) (h : Header) (xs : List Happening) (at : Spot) (x : Sent) (s : Standing (world_at p h xs) x) (q : Submitted) → Contains s.told.older q
    → lease_test s at q.call ≡ true → IsAmong s.daemon.setting s.session at s.told.older q
among_is p h xs at x s q has passes =
    let one = and_true (is_call_of s.session (new_call 0 0 q.call)) (is_lease_call (new_call 0 0 q.call) && is_on s.daemon.setting.layout at q.call) passes in
    let two = and_true (is_lease_call (new_call 0 0 q.call)) (is_on s.daemon.setting.layout at q.call) one.1 in
    record { has = has; session = eqb-true q.call.session s.session.number one.0; lease = two.0; on = two.1 }

-- What a write has before it.
pub record IsWrite (p : Program) (h : Header) (xs : List Happening) (at : Spot) (x : Sent) (s : Standing (world_at p h xs) x) : Type 0 where
  pub run : LawfulRun p h xs
  pub work : works x.course.call ≡ true
  pub area : is_area_work x.course.call.purpose ≡ true
  pub spot : spot_of_call s.daemon.setting.layout s.told.one ≡ at

turn_is : (p : Program) (h : Header) (xs : List Happening) (at : Spot) (x : Sent) (s : Standing (world_at p h xs) x) → IsWrite p h xs at x s → (q : Submitted)
    → IsAmong s.daemon.setting s.session at s.told.older q → is_block_read q ≡ true → WasAnsweredBy q s.told.one
turn_is p h xs at x s k q among reads =
    answered_before p h xs k.run x s k.work k.area q (subst (λ a. IsAmong s.daemon.setting s.session a s.told.older q) (sym k.spot) among) (or_right _ (is_block_read q) reads)

op_by : (p : Program) (h : Header) (xs : List Happening) (m : ℕ) (a : Machine) (d : Daemon) (q : Submitted) → IsLook p h xs m a d q → is_block_read q ≡ true → (b : Bool)
    → is_area_read q ≡ b → (n : ℕ) × (q.call.op ≡ ReadSectors n)
op_by p h xs m a d q l reads true area = (area_sectors d.setting.layout, (area_place p h xs m a d q l area).1)
op_by p h xs m a d q l reads false alone = (block_sectors d.setting.layout, (phase_place p h xs m a d q l alone reads).1)

look_op : (p : Program) (h : Header) (xs : List Happening) (at : Spot) (x : Sent) (s : Standing (world_at p h xs) x) → IsWrite p h xs at x s → (q : Submitted)
    → IsAmong s.daemon.setting s.session at s.told.older q → is_block_read q ≡ true → (n : ℕ) × (q.call.op ≡ ReadSectors n)
look_op p h xs at x s k q among reads =
    op_by p h xs x.machine s.machine s.daemon q (older_look p h xs k.run x s at q among) reads (is_area_read q) refl

read_answer : (st : Setting) (a : Answer) (o : Op) (n : ℕ) → o ≡ ReadSectors n → is_answer_for st a o ≡ true → is_ok_answer a ≡ true → (bytes : List ℕ) × (a ≡ Read bytes)
read_answer st (Read bytes) o n op fits ok = (bytes, refl)
read_answer st Written o n op fits ok = absurd (false_is_true (sym (ap (λ k. is_answer_for st Written k) op) ∙ fits))
read_answer st Failed o n op fits ok = absurd (false_is_true ok)

-- ---- a look that is enough gave blocks

-- The first one of a second read is there.
second_kept : (p : Program) (h : Header) (xs : List Happening) (at : Spot) → at.base % (world_at p h xs).layout.area ≡ 0 → (x : Sent) (s : Standing (world_at p h xs) x) → IsWrite p h xs at x s
    → (newer older : List Submitted) (is : Submitted) → s.told.older ≡ newer ++ is ∷ older → IsAmong s.daemon.setting s.session at s.told.older is → is_again is ≡ true
    → kept_before s.daemon.setting.layout (lease_among s.daemon.setting s.session at older) ≡ None → ⊥
second_kept p h xs at zero x s k newer older is split among again none =
    let st : Setting = s.daemon.setting in
    let es : Trace = s.daemon.trace in
    let whole : submitted es ≡ (s.told.newer ++ s.told.one ∷ newer) ++ is ∷ older =
    s.told.is ∙ ap (λ ms. s.told.newer ++ s.told.one ∷ ms) split ∙ sym (append_assoc s.told.newer (s.told.one ∷ newer) (is ∷ older)) in
    let known : session_numbered st es is.call.session ≡ Some s.session =
    ap (λ i. session_numbered st es i) (among.session ∙ number_is_place st es s.told.one.call.session s.session s.known) ∙ s.known in
    let spot : spot_of_call st.layout is ≡ at =
    spot_is st.layout at is (subst (λ (g : Layout). at.base % g.area ≡ 0) (sym (layout_at p h xs k.run x s)) zero) among.on in
    let a : AgainRests st s.session at older is =
    subst (λ q. AgainRests st s.session q older is) spot (again_rests st es s.lawful (s.told.newer ++ s.told.one ∷ newer) older is whole again s.session known) in
    none_some (pairs_kept st.layout a.bytes)
    (sym none ∙ ap (λ ms. kept_before st.layout ms) a.newest ∙ ap (λ o. option_map (pairs_kept st.layout) o) a.gave)

look_gives : (p : Program) (h : Header) (xs : List Happening) (at : Spot) → at.base % (world_at p h xs).layout.area ≡ 0 → (x : Sent) (s : Standing (world_at p h xs) x) → IsWrite p h xs at x s
    → (y : Sent) → IsLookBefore (world_at p h xs) at x y → reads_enough (world_at p h xs).layout y.course ≡ true
    → Gives s.daemon.setting.layout s.daemon (lease_test s at) s.told.older y.course
look_gives p h xs at zero x s k y l enough newer older is split pair none =
    let w : World = world_at p h xs in
    let st : Setting = s.daemon.setting in
    let g : Layout = st.layout in
    let layout : g ≡ w.layout = layout_at p h xs k.run x s in
    let has : Contains s.told.older is = subst (λ ms. Contains ms is) (sym split) (contains_right newer (is ∷ older) is (contains_first is older)) in
    let passes : lease_test s at is.call ≡ true = ap (λ c. lease_test s at c) pair.call ∙ read_passes p h xs k.run at x s y l.on l.reads l.sender in
    let among = among_is p h xs at x s is has passes in
    let reads : is_block_read is ≡ true = ap (λ c. is_block_read (new_call 0 0 c)) pair.call ∙ l.reads in
    let a = told_ok s.daemon y.course is pair l.stamp l.closed l.done in
    let op = look_op p h xs at x s k is among reads in
    let fit = answers_fit st s.daemon.trace s.lawful is (in_older (submitted s.daemon.trace) s.told.newer s.told.older s.told.one is s.told.is has) a.answer a.is in
    let b = read_answer st a.answer.answer is.call.op op.0 op.1 fit a.ok in
    let gave_is : gave is ≡ Some b.0 = ap (λ o. option_and_then (λ (z : Answered). bytes_given z.answer) o) a.is ∙ ap (λ z. bytes_given z) b.1 in
    let bs : List ℕ = if is_area_read is then blocks_part g b.0 else b.0 in
    let told : blocks_bytes g is ≡ Some bs = gives_bytes g is b.0 gave_is reads in
    let e : GaveRead w y.course bs = gave_read w s.daemon y.course is pair layout bs told in
    gives_some g is (lease_among st s.session at older) bs told
    (λ again kept. second_kept p h xs at zero x s k newer older is split among again kept)
    (λ once.
    ap (needs_again g) e.bytes ∙ ap (λ (q : Layout). needs_again q (blocks_sampled w.layout y.course)) layout
    ∙ first_enough (reads_again y.course) (needs_again w.layout (blocks_sampled w.layout y.course)) enough
    (ap (λ (c : Call). is_again (new_call 0 0 c)) (sym pair.call) ∙ once))
    (ap (blocks_given g is) (lease_kept st s.session at older) ∙ none)

-- ---- the last look

-- The last read of the history before a write, with the block that it gave at the host.
pub record LookFound (w : World) (at : Spot) (x : Sent) (s : Standing w x) (own : Block) : Type 0 where
  pub sent : Sent
  pub has : Contains (all_sent w) sent
  pub machine : sent.machine ≡ x.machine
  pub inside : Contains s.machine.calls sent.course
  pub look : IsLookBefore w at x sent
  pub enough : reads_enough w.layout sent.course ≡ true
  pub last : last_given_before w at (sender_of x) (step_of x) ≡ Some sent
  pub told : Submitted
  pub newer : List Submitted
  pub older : List Submitted
  pub split : s.told.older ≡ newer ++ told ∷ older
  pub pair : IsCourseOf s.daemon sent.course told
  pub among : IsAmong s.daemon.setting s.session at s.told.older told
  pub blocks : List (Option Block)
  pub given : blocks_given s.daemon.setting.layout told (lease_among s.daemon.setting s.session at older) ≡ Some blocks
  pub block : block_of_host blocks s.session.id ≡ Some own

-- The course of the last read is a look before.
course_looks : (p : Program) (h : Header) (xs : List Happening) (at : Spot) (x : Sent) (s : Standing (world_at p h xs) x) → IsWrite p h xs at x s → (bs : List (Option Block))
    → (l : LastRead s.daemon.setting.layout s.daemon (lease_test s at) s.told.older s.before bs) → IsAmong s.daemon.setting s.session at s.told.older l.told
    → IsLookBefore (world_at p h xs) at x (sent_as x.machine l.course)
course_looks p h xs at x s k bs l among =
    let w : World = world_at p h xs in
    let g : Layout = s.daemon.setting.layout in
    let t = given_told g l.told (kept_calls (lease_test s at) l.older) bs l.given in
    let as_answered : IsAnsweredAs s.daemon l.course t.answered = subst (λ o. AnswersAgree s.daemon l.course o) t.is l.pair.answers in
    let by = turn_is p h xs at x s k l.told among t.reads in
    let i = is_behind w x s l.course l.has in
    let session : l.course.call.session ≡ x.course.call.session = ap (λ c. c.session) (sym l.pair.call) ∙ among.session ∙ number_at w x s in
    record {
      stamp = as_answered.stamp;
      closed = as_answered.answered;
      early = answer_step p h xs k.run x s l.told by t.answered t.is as_answered.stamp as_answered.entry;
      done = as_answered.done ∙ ap (λ z. is_ok_answer z) t.read;
      reads = ap (λ c. is_block_read (new_call 0 0 c)) (sym l.pair.call) ∙ t.reads;
      on = ap (λ q. is_on q at l.course.call) (sym (layout_at p h xs k.run x s)) ∙ ap (λ c. is_on g at c) (sym l.pair.call) ∙ among.on;
      sender = session_as x.machine l.course.daemon l.course.call.session x.machine x.course.daemon x.course.call.session refl i.1 session;
    }

one_look : (p : Program) (h : Header) (xs : List Happening) → LawfulRun p h xs → (r : ResourceLine) → Contains h.resources r → (x y z : Sent)
    → is_joined_there (world_at p h xs) r.lockspace (sender_of x) ≡ true → Contains (all_sent (world_at p h xs)) y → Contains (all_sent (world_at p h xs)) z
    → IsLookBefore (world_at p h xs) (spot_of_line r) x y → IsLookBefore (world_at p h xs) (spot_of_line r) x z → step_of y ≡ step_of z → y ≡ z
one_look p h xs run r there x y z joined yin zin one two same =
    let w : World = world_at p h xs in
    steps_name p h xs run r there y z (read_works p h xs run r y yin one.on (look_counts w r x y joined one)) (read_works p h xs run r z zin two.on (look_counts w r x z joined two)) same

-- Each read of the lease before was answered by then.
reads_answered : (p : Program) (h : Header) (xs : List Happening) (at : Spot) (x : Sent) (s : Standing (world_at p h xs) x) → IsWrite p h xs at x s → (n : ℕ) → s.told.one.at ≡ n
    → AnsweredBefore (n + 1) (lease_among s.daemon.setting s.session at s.told.older)
reads_answered p h xs at x s k n place q has reads =
    let by = turn_is p h xs at x s k q (is_among s.daemon.setting s.session at s.told.older q has) reads in
    (by.answer, by.answered, next_after by.answer.at s.told.one.at n by.by place)
  where
    next_after : (a b n : ℕ) → a ≤ b → b ≡ n → a < n + 1
    next_after a b n h e = omega (arith, h, e)

pub look_found : (p : Program) (h : Header) (xs : List Happening) (r : ResourceLine) → Contains h.resources r → (x : Sent) (s : Standing (world_at p h xs) x)
    → is_joined_there (world_at p h xs) r.lockspace (sender_of x) ≡ true → IsWrite p h xs (spot_of_line r) x s → (b : Block)
    → (f : ReadFront (world_at p h xs) (spot_of_line r) x s b) → LookFound (world_at p h xs) (spot_of_line r) x s f.read.own
look_found p h xs r there x s joined k b f =
    let w : World = world_at p h xs in
    let at : Spot = spot_of_line r in
    let st : Setting = s.daemon.setting in
    let g : Layout = st.layout in
    let T : Call → Bool = lease_test s at in
    let n : ℕ = length f.past + 1 in
    let zero = line_aligned p h xs k.run r there in
    let older : List Submitted = lease_among st s.session at s.told.older in
    let bs : List (Option Block) = last_blocks g older in
    let block : block_of_host bs s.session.id ≡ Some f.read.own =
    ap (λ l. block_of_host l s.session.id)
    (sym (last_same g n (lease_calls st f.front s.session at) older (aged_lease st s.session at n (submitted f.front) s.told.older f.aged)
    (reads_answered p h xs at x s k (length f.past) f.place))) ∙ f.read.known in
    let l = last_read g s.daemon T (x.course.made.step + 1) s.before s.told.older [] s.told.older bs s.session.id f.read.own refl s.told.pairs s.fall
    (ap (last_blocks g) (sym (lease_kept st s.session at s.told.older))) block in
    let z : Sent = sent_as x.machine l.course in
    let i = is_behind w x s l.course l.has in
    let inside = sent_there w x.machine s.machine l.course s.at i.0 in
    let has : Contains s.told.older l.told = subst (λ ms. Contains ms l.told) (sym l.split) (contains_right l.newer (l.told ∷ l.older) l.told (contains_first l.told l.older)) in
    let among = among_is p h xs at x s l.told has (ap (λ c. T c) l.pair.call ∙ l.passes) in
    let looks = course_looks p h xs at x s k bs l among in
    let enough : reads_enough w.layout l.course ≡ true = gives_enough w s.daemon l.course l.told l.pair (layout_at p h xs k.run x s) (kept_calls T l.older) bs l.given in
    let P : Sent → Bool = λ v. is_look_before w at (sender_of x) (step_of x) v && reads_enough w.layout v.course in
    let passes : P z ≡ true = and_from _ _ (look_is w at x z looks) enough in
    let y = finds P (all_sent w) z passes inside in
    let its = find_inside P (all_sent w) y.0 y.1 in
    let both = and_true (is_look_before w at (sender_of x) (step_of x) y.0) (reads_enough w.layout y.0.course) its.1 in
    let ylook = look_before w at x y.0 both.0 in
    let up : step_of z ≤ step_of y.0 =
    newest P w x.machine w.step s.machine y.0 l.course s.at s.falls
    (λ v passed. ap (λ q. q.machine) (look_before w at x v (and_true (is_look_before w at (sender_of x) (step_of x) v) (reads_enough w.layout v.course) passed).0).sender) i.0 passes y.1 in
    let down : step_of y.0 ≤ step_of z =
    l.newest y.0.course (behind w x s y.0 its.0 ylook.sender (look_early p h xs k.run at x y.0 its.0 ylook)) (read_passes p h xs k.run at x s y.0 ylook.on ylook.reads ylook.sender)
    (look_gives p h xs at zero x s k y.0 ylook both.1) in
    let same : y.0 ≡ z = one_look p h xs k.run r there x y.0 z joined its.0 inside ylook looks (both_ways (step_of y.0) (step_of z) down up) in
    record {
      sent = z;
      has = inside;
      machine = refl;
      inside = i.0;
      look = looks;
      enough = enough;
      last = y.1 ∙ ap (λ v. Some v) same;
      told = l.told;
      newer = l.newer;
      older = l.older;
      split = l.split;
      pair = l.pair;
      among = among;
      blocks = bs;
      given = ap (blocks_given g l.told) (lease_kept st s.session at l.older) ∙ l.given;
      block = block;
    }
