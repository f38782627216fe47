-- The block that a session wrote last before a call of its lease, in its trace and in the history: they are one.
use Rattle.sl_run_law.specs.Course.CallStamps.{IsCourseOf, Pairwise}
use Rattle.sl_run.specs.LawfulArea.{is_area_work}
use Rattle.sl_run_law.specs.Leases.Ways.{lease_among}
use Rattle.sl_trace.specs.Leases.{block_of_record, block_written, is_lease_call, is_on}
use Rattle.sl_run_law.specs.Moment.Orders.{CallsFall}
use Rattle.sl_run_law.proofs.Place.FoundInLists.{finds}
use Rattle.sl_words.proofs.Lists.{contains_cases, contains_first, contains_more, find_inside}
use Rattle.sl_words.proofs.Numbers.{below_next, both_ways, refl_le}
use Rattle.sl_safety.proofs.Resources.BlockOrigins.{line_aligned}
use Rattle.sl_safety.proofs.Resources.StepsNameCalls.{block_at_step}
use Rattle.sl_safety.proofs.Resources.LastBlock.{kept_calls, lease_kept}
use Rattle.sl_safety.proofs.Resources.NewestCalls.{calls_below, newest, sent_as}
use Rattle.sl_safety.proofs.Resources.OwnBlocks.{before_is, behind, is_before, is_behind, layout_at, lease_is_work, lease_test, made_before, number_at, passes_test, session_as, spot_at, spot_is, works, writes_write}
use Rattle.sl_safety.proofs.Resources.CallParts.{Standing, sent_there}
use Rattle.sl_safety.specs.Resources.HistoryLaws.{spot_of_line}
use Rattle.sl_safety.specs.Resources.SentCalls.{Sent, all_sent, is_block_before, last_block_before, sender_of, sent_at, step_of, writes_block}
use Rattle.sl_run.specs.Runs.{Happening}
use Rattle.sl_run.specs.Safety.{LawfulRun, world_at}
use Rattle.sl_run.specs.Worlds.{Course, Daemon, Program, World}
use Rattle.sl_run.specs.declared.header.Header.{Header}
use Rattle.sl_run.specs.declared.header.ResourceLine.{ResourceLine}
use Rattle.sl_trace.specs.Sessions.{is_call_of}
use Rattle.sl_trace.specs.Traces.{Submitted, is_write, new_call, record_of}
use Rattle.sl_trace.specs.declared.effects.Call.{Call}
use Rattle.sl_trace.specs.declared.effects.Spot.{Spot}
use Rattle.sl_words.proofs.CaseLaws.{false_is_true, none_some, some_value, true_is_false}
use Rattle.sl_words.proofs.WordLaws.{and_true}
use Rattle.std.proofs.Common.{ap, inl, inr, refl, subst, sym, ◌∙◌}
use Rattle.std.proofs.lemmas.Bool.{eqb-true, or_left}
use Rattle.std.specs.Prelude.{Bool, Contains, List, None, Option, Some, cond, false, find, is_some, option_and_then, true, [], ℕ, ◌&&◌, ◌+◌, ◌<◌, ◌∷◌, ◌≡◌, ◌≤◌}

-- ---- the last block among calls that pass

pub record LastWrite (d : Daemon) (T : Call → Bool) (cs : List Course) (write : Submitted) : Type 0 where
  pub course : Course
  pub has : Contains cs course
  pub pair : IsCourseOf d course write
  pub passes : T course.call ≡ true
  pub writes : writes_block course ≡ true
  pub newest : (e : Course) → Contains cs e → T e.call ≡ true → writes_block e ≡ true → e.made.step ≤ course.made.step

abbrev writes_by : Call → Bool
writes_by c = is_some (option_and_then block_of_record (record_of c.op))

one_more : (d : Daemon) (T : Call → Bool) (c : Course) (cs : List Course) (write : Submitted) → (T c.call ≡ true → writes_block c ≡ true → ⊥) → LastWrite d T cs write
    → LastWrite d T (c ∷ cs) write
one_more d T c cs write never l =
    record {
      course = l.course;
      has = contains_more c cs l.course l.has;
      pair = l.pair;
      passes = l.passes;
      writes = l.writes;
      newest = λ e has passes writes. elim (contains_cases c cs e has) as (λ z. e.made.step ≤ l.course.made.step) [
        | inl same ↦ absurd (never (ap (λ (x : Course). T x.call) same ∙ passes) (ap (λ (x : Course). writes_block x) same ∙ writes))
        | inr more ↦ l.newest e more passes writes
      ];
    }

head_is : (d : Daemon) (T : Call → Bool) (c : Course) (m : Submitted) (cs : List Course) (write : Submitted) → IsCourseOf d c m → m ≡ write → T c.call ≡ true → writes_block c ≡ true
    → CallsFall (c.made.step + 1) cs → LastWrite d T (c ∷ cs) write
head_is d T c m cs write pair same passes writes fall =
    record {
      course = c;
      has = contains_first c cs;
      pair = subst (λ x. IsCourseOf d c x) same pair;
      passes = passes;
      writes = writes;
      newest = λ e has q wrote. elim (contains_cases c cs e has) as (λ z. e.made.step ≤ c.made.step) [
        | inl here ↦ subst (λ (x : Course). x.made.step ≤ c.made.step) here (refl_le c.made.step)
        | inr more ↦ below_next e.made.step c.made.step (calls_below (c.made.step + 1) cs e fall more)
      ];
    }

wrote_by : (d : Daemon) (T : Call → Bool) (c : Course) (m : Submitted) (cs : List Course) (rest : List Submitted) (write : Submitted) (b : Bool) → writes_by c.call ≡ b → IsCourseOf d c m
    → T c.call ≡ true → CallsFall (c.made.step + 1) cs → cond b (Some m) (find (λ x. is_some (block_written x)) rest) ≡ Some write
    → (find (λ x. is_some (block_written x)) rest ≡ Some write → LastWrite d T cs write) → LastWrite d T (c ∷ cs) write
wrote_by d T c m cs rest write false is pair passes fall found later = one_more d T c cs write (λ p writes. true_is_false (sym writes ∙ is)) (later found)
wrote_by d T c m cs rest write true is pair passes fall found later = head_is d T c m cs write pair (some_value m write found) passes is fall

last_by : (d : Daemon) (T : Call → Bool) (c : Course) (m : Submitted) (cs : List Course) (rest : List Submitted) (write : Submitted) (t : Bool) → T c.call ≡ t → IsCourseOf d c m
    → CallsFall (c.made.step + 1) cs → find (λ x. is_some (block_written x)) (cond t (m ∷ rest) rest) ≡ Some write
    → (find (λ x. is_some (block_written x)) rest ≡ Some write → LastWrite d T cs write) → LastWrite d T (c ∷ cs) write
last_by d T c m cs rest write false is pair fall found later = one_more d T c cs write (λ p writes. true_is_false (sym p ∙ is)) (later found)
last_by d T c m cs rest write true is pair fall found later =
    wrote_by d T c m cs rest write (writes_by c.call) refl pair is fall
    (ap (λ (x : Call). cond (writes_by x) (Some m) (find (λ x. is_some (block_written x)) rest)) (sym pair.call) ∙ found) later

pub last_write : (d : Daemon) (T : Call → Bool) (n : ℕ) (cs : List Course) (ms : List Submitted) (write : Submitted) → Pairwise (IsCourseOf d) cs ms → CallsFall n cs
    → find (λ x. is_some (block_written x)) (kept_calls T ms) ≡ Some write → LastWrite d T cs write
last_write d T n [] [] write pairs fall found = absurd (none_some write found)
last_write d T n [] (m ∷ ms) write pairs fall found = absurd pairs
last_write d T n (c ∷ cs) [] write pairs fall found = absurd pairs
last_write d T n (c ∷ cs) (m ∷ ms) write pairs fall found =
    last_by d T c m cs (kept_calls T ms) write (T c.call) refl pairs.0 fall.2
    (ap (λ x. find (λ x. is_some (block_written x)) (cond (T x) (m ∷ kept_calls T ms) (kept_calls T ms))) (sym pairs.0.call) ∙ found)
    (λ f. last_write d T (c.made.step + 1) cs ms write pairs.1 fall.2 f)

-- ---- the own block before a call

-- The last block before a call, as it was sent.
pub record OwnLast (w : World) (at : Spot) (x : Sent) (s : Standing w x) (write : Submitted) : Type 0 where
  pub sent : Sent
  pub has : Contains (all_sent w) sent
  pub on : is_on w.layout at sent.course.call ≡ true
  pub writes : writes_block sent.course ≡ true
  pub pair : IsCourseOf s.daemon sent.course write
  pub before : step_of sent < step_of x
  pub sender : sender_of sent ≡ sender_of x
  pub last : last_block_before w at (sender_of x) (step_of x) ≡ Some sent
  pub newest : (v : Sent) → Contains (all_sent w) v → is_on w.layout at v.course.call ≡ true → writes_block v.course ≡ true → sender_of v ≡ sender_of x → step_of v < step_of x
      → step_of v ≤ step_of sent

block_is_work : (c : Course) → writes_block c ≡ true → works c.call ≡ true
block_is_work c writes = by (option_and_then block_of_record (record_of c.call.op)) refl writes where
  by : (o : Option _) → option_and_then block_of_record (record_of c.call.op) ≡ o → is_some o ≡ true → works c.call ≡ true
  by None is h = absurd (false_is_true h)
  by (Some b) is h = or_left (is_write c.call.op) _ (writes_write c.call.op b is)

-- What is found is what it is.
pub found_as : {A : Type 0} (o : Option A) (x y : A) → o ≡ Some x → x ≡ y → o ≡ Some y
found_as o x y found is = found ∙ ap (λ z. Some z) is

-- Two blocks of one step are one.
pub one_block : (p : Program) (h : Header) (xs : List Happening) → LawfulRun p h xs → (r : ResourceLine) → Contains h.resources r → (y z : Sent)
    → Contains (all_sent (world_at p h xs)) y → Contains (all_sent (world_at p h xs)) z → is_on (world_at p h xs).layout (spot_of_line r) y.course.call ≡ true
    → is_on (world_at p h xs).layout (spot_of_line r) z.course.call ≡ true → writes_block y.course ≡ true → writes_block z.course ≡ true → step_of y ≡ step_of z → y ≡ z
one_block p h xs run r there y z yin zin yon zon ywrites zwrites same =
    some_value y z
    (sym (block_at_step p h xs run r there y yin yon ywrites) ∙ ap (λ n. sent_at (world_at p h xs) (spot_of_line r) writes_block n) same
    ∙ block_at_step p h xs run r there z zin zon zwrites)

pub own_last : (p : Program) (h : Header) (xs : List Happening) → LawfulRun p h xs → (r : ResourceLine) → Contains h.resources r → (x : Sent)
    → (s : Standing (world_at p h xs) x) → is_on (world_at p h xs).layout (spot_of_line r) x.course.call ≡ true → works x.course.call ≡ true → is_area_work x.course.call.purpose ≡ true
    → (write : Submitted) → find (λ d. is_some (block_written d)) (lease_among s.daemon.setting s.session (spot_of_line r) s.told.older) ≡ Some write
    → OwnLast (world_at p h xs) (spot_of_line r) x s write
own_last p h xs run r there x s on work area write found =
    let w : World = world_at p h xs in
    let at : Spot = spot_of_line r in
    let T : Call → Bool = lease_test s at in
    let P : Sent → Bool = is_block_before w at (sender_of x) (step_of x) in
    let l = last_write s.daemon T (x.course.made.step + 1) s.before s.told.older write s.told.pairs s.fall
    (ap (λ ms. find (λ d. is_some (block_written d)) ms) (sym (lease_kept s.daemon.setting s.session at s.told.older)) ∙ found) in
    let z : Sent = sent_as x.machine l.course in
    let i = is_behind w x s l.course l.has in
    let inside = sent_there w x.machine s.machine l.course s.at i.0 in
    let one = and_true (is_call_of s.session (new_call 0 0 l.course.call)) (is_lease_call (new_call 0 0 l.course.call) && is_on s.daemon.setting.layout at l.course.call) l.passes in
    let two = and_true (is_lease_call (new_call 0 0 l.course.call)) (is_on s.daemon.setting.layout at l.course.call) one.1 in
    let session : l.course.call.session ≡ x.course.call.session = eqb-true l.course.call.session s.session.number one.0 ∙ number_at w x s in
    let same : sender_of z ≡ sender_of x =
    session_as x.machine l.course.daemon l.course.call.session x.machine x.course.daemon x.course.call.session refl i.1 session in
    let layout = layout_at p h xs run x s in
    let on_z : is_on w.layout at l.course.call ≡ true = ap (λ g. is_on g at l.course.call) (sym layout) ∙ two.1 in
    let spot : spot_at w.layout x.course.call ≡ at = spot_is w.layout at (new_call 0 0 x.course.call) (line_aligned p h xs run r there) on in
    let less : l.course.made.step < x.course.made.step =
    made_before p h xs run x s l.course l.has session work area (block_is_work l.course l.writes) (lease_is_work l.course.call.purpose two.0)
    (ap (λ q. is_on w.layout q l.course.call) spot ∙ on_z) in
    let passes : P z ≡ true = before_is w at x z less on_z l.writes same in
    let y = finds P (all_sent w) z passes inside in
    let its = find_inside P (all_sent w) y.0 y.1 in
    let g = is_before w at x y.0 its.1 in
    let up : l.course.made.step ≤ step_of y.0 =
    newest P w x.machine w.step s.machine y.0 l.course s.at s.falls (λ v passed. ap (λ k. k.machine) (is_before w at x v passed).sender) i.0 passes y.1 in
    let down : step_of y.0 ≤ l.course.made.step =
    l.newest y.0.course (behind w x s y.0 its.0 g.sender g.less) (passes_test p h xs run at x s y.0 its.0 g.on g.writes g.sender) g.writes in
    let is : y.0 ≡ z = one_block p h xs run r there y.0 z its.0 inside g.on on_z g.writes l.writes (both_ways (step_of y.0) (step_of z) down up) in
    record {
      sent = z;
      has = inside;
      on = on_z;
      writes = l.writes;
      pair = l.pair;
      before = less;
      sender = same;
      last = found_as (find P (all_sent w)) y.0 z y.1 is;
      newest = λ v vin von vwrites vsame vless. l.newest v.course (behind w x s v vin vsame vless) (passes_test p h xs run at x s v vin von vwrites vsame) vwrites;
    }
