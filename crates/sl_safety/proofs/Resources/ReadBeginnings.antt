-- How a read begins: with itself, or, where it is made once more, with the session's call on the area before it, which is the last look of
-- the history. So a read of the history is the one of the step at which it began.
use Rattle.sl_area.specs.AreaSizes.{Layout}
use Rattle.sl_trace.specs.Leases.{is_again, is_block_read, is_on, spot_of_call}
use Rattle.sl_trace.specs.Traces.{Setting, Submitted, is_write, new_call}
use Rattle.sl_trace.specs.declared.effects.Call.{Call}
use Rattle.sl_trace.specs.declared.effects.Spot.{Spot}
use Rattle.sl_run_law.specs.Leases.Ways.{lease_among}
use Rattle.sl_words.proofs.CaseLaws.{none_some, one_value, some_value, true_is_false}
use Rattle.sl_words.proofs.Lists.{contains_cases, contains_first, contains_more, find_inside}
use Rattle.std.proofs.Common.{ap, arith, inl, inr, refl, subst, sym, ◌∙◌}
use Rattle.std.specs.Prelude.{Bool, Contains, List, Some, [], cond, false, not, slice_get, true, ℕ, ◌&&◌, ◌+◌, ◌<◌, ◌==◌, ◌||◌, ◌∷◌, ◌≡◌, ◌≤◌}
use Rattle.sl_area.specs.Pairs.{needs_again}
use Rattle.sl_safety.proofs.Resources.BlockOrigins.{is_among, line_aligned, told_spot}
use Rattle.sl_safety.proofs.Resources.Calls.{IsWork}
use Rattle.sl_safety.proofs.Resources.StepsNameCalls.{finds_it, read_works, steps_name, worker_joined}
use Rattle.sl_safety.proofs.Resources.LastBlock.{kept_calls, lease_kept, of_lease}
use Rattle.sl_safety.proofs.Resources.OwnBlocks.{behind, layout_at}
use Rattle.sl_safety.proofs.Resources.CallParts.{Standing, machine_of, standing}
use Rattle.sl_safety.specs.Resources.HistoryLaws.{spot_of_line}
use Rattle.sl_safety.specs.Resources.SentCalls.{Sent, all_sent, began_at, begun_by, is_counted_read, is_joined_there, is_look_before, last_look_before, read_at, reads_blocks, reads_enough, sender_of, step_of}
use Rattle.sl_safety.proofs.Resources.GivenBlocks.{GaveRead, gave_blocks, gave_read}
use Rattle.sl_safety.proofs.Resources.EarlierCalls.{IsEarlier, WasShown, is_earlier, read_passes, sent_with, was_answered}
use Rattle.sl_safety.specs.Resources.SampledReads.{blocks_sampled, reads_again}
use Rattle.sl_run.specs.Runs.{Happening}
use Rattle.sl_run.specs.Safety.{LawfulRun, SessionId, world_at}
use Rattle.sl_run.specs.Worlds.{Course, Daemon, Machine, Program, Stamp, World, machine_at}
use Rattle.sl_run.specs.declared.header.Header.{Header}
use Rattle.sl_run.specs.declared.header.ResourceLine.{ResourceLine}
use Rattle.sl_run_law.specs.Course.CallStamps.{IsCourseOf, Pairwise}
use Rattle.std.proofs.lemmas.Bool.{and_from, eq-eqb, eqb-true, or_right}
use Rattle.sl_safety.proofs.Resources.CallsTakeTurns.{First, One, Second, Turns, turns_of}
use Rattle.sl_run_law.proofs.Place.FoundInLists.{finds}
use Rattle.sl_words.proofs.WordLaws.{and_true}
use Rattle.sl_safety.proofs.Resources.NewestCalls.{calls_below, sent_as, newest}
use Rattle.sl_words.proofs.Numbers.{below_next, both_ways, refl_le}
use Rattle.sl_run_law.specs.Moment.Orders.{CallsFall}
use Rattle.sl_run.specs.LawfulArea.{is_same_read}
use Rattle.sl_safety.proofs.Resources.RepeatedReads.{AgainRests, again_rests}
use Rattle.sl_safety.proofs.Resources.Looks.{IsLookBefore, began_once, began_with, begun_once, begun_twice, look_before, look_early, look_is}

-- ---- the newest of a lease's calls

-- The call of a machine that is the newest of the calls that pass.
pub record HeadOf (d : Daemon) (T : Call → Bool) (cs : List Course) (m : Submitted) : Type 0 where
  pub course : Course
  pub has : Contains cs course
  pub pair : IsCourseOf d course m
  pub passes : T course.call ≡ true
  pub newest : (e : Course) → Contains cs e → T e.call ≡ true → e.made.step ≤ course.made.step

head_same : (x m : Submitted) (xs rest : List Submitted) → x ∷ xs ≡ m ∷ rest → x ≡ m
head_same x m xs rest h = some_value x m (ap (λ (l : List Submitted). slice_get l 0) h)

head_by : (d : Daemon) (T : Call → Bool) (c : Course) (x : Submitted) (cs : List Course) (kept : List Submitted) (m : Submitted) (rest : List Submitted) (b : Bool) → T c.call ≡ b
    → IsCourseOf d c x → CallsFall (c.made.step + 1) cs → cond b (x ∷ kept) kept ≡ m ∷ rest → (kept ≡ m ∷ rest → HeadOf d T cs m) → HeadOf d T (c ∷ cs) m
head_by d T c x cs kept m rest true is pair fall found later =
    record {
      course = c;
      has = contains_first c cs;
      pair = subst (λ y. IsCourseOf d c y) (head_same x m kept rest found) pair;
      passes = is;
      newest = λ e has passes. elim (contains_cases c cs e has) as (λ z. e.made.step ≤ c.made.step) [
        | inl same ↦ subst (λ (y : Course). y.made.step ≤ c.made.step) same (refl_le c.made.step)
        | inr more ↦ below_next e.made.step c.made.step (calls_below (c.made.step + 1) cs e fall more)
      ];
    }
head_by d T c x cs kept m rest false is pair fall found later =
    let l : HeadOf d T cs m = later found in
    record {
      course = l.course;
      has = contains_more c cs l.course l.has;
      pair = l.pair;
      passes = l.passes;
      newest = λ e has passes. elim (contains_cases c cs e has) as (λ z. e.made.step ≤ l.course.made.step) [
        | inl same ↦ absurd (true_is_false (sym passes ∙ ap (λ (y : Course). T y.call) (sym same) ∙ is))
        | inr more ↦ l.newest e more passes
      ];
    }

pub head_of : (d : Daemon) (T : Call → Bool) (n : ℕ) (cs : List Course) (ms : List Submitted) (m : Submitted) (rest : List Submitted) → Pairwise (IsCourseOf d) cs ms → CallsFall n cs
    → kept_calls T ms ≡ m ∷ rest → HeadOf d T cs m
head_of d T n [] [] m rest pairs fall found = absurd (none_some m (ap (λ (l : List Submitted). slice_get l 0) found))
head_of d T n [] (x ∷ ms) m rest pairs fall found = absurd pairs
head_of d T n (c ∷ cs) [] m rest pairs fall found = absurd pairs
head_of d T n (c ∷ cs) (x ∷ ms) m rest pairs fall found =
    head_by d T c x cs (kept_calls T ms) m rest (T c.call) refl pairs.0 fall.2
    (ap (λ y. cond (T y) (x ∷ kept_calls T ms) (kept_calls T ms)) (sym pairs.0.call) ∙ found)
    (λ f. head_of d T (c.made.step + 1) cs ms m rest pairs.1 fall.2 f)

-- ---- looks of a session that works

-- A look of the session is a read that counts.
pub look_counts : (w : World) (r : ResourceLine) (x y : Sent) → is_joined_there w r.lockspace (sender_of x) ≡ true → IsLookBefore w (spot_of_line r) x y → is_counted_read w r.lockspace y ≡ true
look_counts w r x y joined l = and_from _ _ (and_from _ _ l.reads l.done) (ap (λ i. is_joined_there w r.lockspace i) l.sender ∙ joined)

-- The newest look is found.
look_newest : (p : Program) (h : Header) (xs : List Happening) → LawfulRun p h xs → (at : Spot) (x : Sent) (s : Standing (world_at p h xs) x) (y z : Sent)
    → Contains (all_sent (world_at p h xs)) z → IsLookBefore (world_at p h xs) at x z → last_look_before (world_at p h xs) at (sender_of x) (step_of x) ≡ Some y → step_of z ≤ step_of y
look_newest p h xs run at x s y z has l found =
    let w : World = world_at p h xs in
    let P : Sent → Bool = is_look_before w at (sender_of x) (step_of x) in
    let machine : z.machine ≡ x.machine = ap (λ (i : SessionId). i.machine) l.sender in
    let m = machine_of w z has in
    let same : m.0 ≡ s.machine = one_value m.0 s.machine (machine_at w x.machine) (ap (machine_at w) (sym machine) ∙ m.1) s.at in
    newest P w x.machine w.step s.machine y z.course s.at s.falls (λ v passed. ap (λ (q : SessionId). q.machine) (look_before w at x v passed).sender)
    (subst (λ (a : Machine). Contains a.calls z.course) same m.2)
    (ap (λ n. P (sent_as n z.course)) (sym machine) ∙ look_is w at x z l) found

-- ---- a second read

-- With its first one.
pub record SecondOf (p : Program) (h : Header) (xs : List Happening) (r : ResourceLine) (z : Sent) (s : Standing (world_at p h xs) z) : Type 0 where
  pub first : Sent
  pub has : Contains (all_sent (world_at p h xs)) first
  pub look : IsLookBefore (world_at p h xs) (spot_of_line r) z first
  pub last : last_look_before (world_at p h xs) (spot_of_line r) (sender_of z) (step_of z) ≡ Some first
  pub once : reads_again first.course ≡ false
  pub torn : needs_again (world_at p h xs).layout (blocks_sampled (world_at p h xs).layout first.course) ≡ true
  -- the same in its trace: the lease's newest call before
  pub told : Submitted
  pub rest : List Submitted
  pub newest : lease_among s.daemon.setting s.session (spot_of_line r) s.told.older ≡ told ∷ rest
  pub same : is_same_read told s.told.one ≡ true
  pub pair : IsCourseOf s.daemon first.course told

pub second_of : (p : Program) (h : Header) (xs : List Happening) → LawfulRun p h xs → (r : ResourceLine) → Contains h.resources r → (z : Sent) → IsWork (world_at p h xs) r z
    → (s : Standing (world_at p h xs) z) → reads_again z.course ≡ true → SecondOf p h xs r z s
second_of p h xs run r there z work s again =
    let w : World = world_at p h xs in
    let at : Spot = spot_of_line r in
    let st : Setting = s.daemon.setting in
    let T : Call → Bool = of_lease st s.session at in
    let spot : spot_of_call st.layout s.told.one ≡ at = told_spot p h xs run at (line_aligned p h xs run r there) z s work.on in
    let a : AgainRests st s.session at s.told.older s.told.one =
    subst (λ q. AgainRests st s.session q s.told.older s.told.one) spot
    (again_rests st s.daemon.trace s.lawful s.told.newer s.told.older s.told.one s.told.is
    (ap (λ (c : Call). is_again (new_call 0 0 c)) s.told.pair.call ∙ again) s.session s.known) in
    let k : HeadOf s.daemon T s.before a.first =
    head_of s.daemon T (z.course.made.step + 1) s.before s.told.older a.first a.rest s.told.pairs s.fall (sym (lease_kept st s.session at s.told.older) ∙ a.newest) in
    let layout : st.layout ≡ w.layout = layout_at p h xs run z s in
    let among = is_among st s.session at s.told.older a.first
    (subst (λ ms. Contains ms a.first) (sym a.newest) (contains_first a.first a.rest)) in
    let b = gave_blocks st.layout a.first a.bytes a.gave in
    let y : IsEarlier w r z (sent_with z k.course) = is_earlier p h xs run r z s k.course k.has k.passes in
    let e : GaveRead w k.course a.bytes = gave_read w s.daemon k.course a.first k.pair layout a.bytes a.gave in
    let an : WasShown z k.course s.daemon a.first =
    was_answered p h xs run r z work s spot k.course a.first among.has k.pair k.passes (or_right (is_write a.first.call.op) (is_block_read a.first) b.reads) b.ok in
    let first : Sent = sent_with z k.course in
    let look : IsLookBefore w at z first =
    record { stamp = an.told.stamp; closed = an.told.answered; early = an.early; done = an.done; reads = e.reads; on = y.on; sender = y.sender } in
    let P : Sent → Bool = is_look_before w at (sender_of z) (step_of z) in
    let f = finds P (all_sent w) first (look_is w at z first look) y.has in
    let its = find_inside P (all_sent w) f.0 f.1 in
    let flook : IsLookBefore w at z f.0 = look_before w at z f.0 its.1 in
    let up : step_of first ≤ step_of f.0 = look_newest p h xs run at z s f.0 first y.has look f.1 in
    let down : step_of f.0 ≤ step_of first =
    k.newest f.0.course (behind w z s f.0 its.0 flook.sender (look_early p h xs run at z f.0 its.0 flook))
    (read_passes p h xs run at z s f.0 flook.on flook.reads flook.sender) in
    let joined = worker_joined p h xs r z work in
    let one : f.0 ≡ first =
    steps_name p h xs run r there f.0 first (read_works p h xs run r f.0 its.0 flook.on (look_counts w r z f.0 joined flook))
    (read_works p h xs run r first y.has look.on (look_counts w r z first joined look)) (both_ways (step_of f.0) (step_of first) down up) in
    record {
      first = first;
      has = y.has;
      look = look;
      last = f.1 ∙ ap (λ v. Some v) one;
      once = ap (λ (c : Call). is_again (new_call 0 0 c)) (sym k.pair.call) ∙ a.once;
      torn = ap (needs_again w.layout) (sym e.bytes) ∙ ap (λ (g : Layout). needs_again g a.bytes) (sym layout) ∙ a.torn;
      told = a.first;
      rest = a.rest;
      newest = a.newest;
      same = a.same;
      pair = k.pair;
    }

-- ---- the call with which a read began

pub record Begins (w : World) (r : ResourceLine) (z : Sent) : Type 0 where
  pub first : Sent
  pub has : Contains (all_sent w) first
  pub begun : begun_by w (spot_of_line r) z ≡ Some first
  pub began : began_at w (spot_of_line r) z ≡ step_of first
  pub sender : sender_of first ≡ sender_of z
  pub work : IsWork w r first

-- A read of a joined session, which was answered ok.
pub record IsRead (p : Program) (h : Header) (xs : List Happening) (r : ResourceLine) (z : Sent) : Type 0 where
  pub has : Contains (all_sent (world_at p h xs)) z
  pub on : is_on (world_at p h xs).layout (spot_of_line r) z.course.call ≡ true
  pub counted : is_counted_read (world_at p h xs) r.lockspace z ≡ true

pub works_as : (p : Program) (h : Header) (xs : List Happening) → LawfulRun p h xs → (r : ResourceLine) (z : Sent) → IsRead p h xs r z → IsWork (world_at p h xs) r z
works_as p h xs run r z i = read_works p h xs run r z i.has i.on i.counted

begins_by : (p : Program) (h : Header) (xs : List Happening) → LawfulRun p h xs → (r : ResourceLine) → Contains h.resources r → (z : Sent) → IsRead p h xs r z
    → (b : Bool) → reads_again z.course ≡ b → Begins (world_at p h xs) r z
begins_by p h xs run r there z i false once =
    let w : World = world_at p h xs in
    let begun = begun_once w (spot_of_line r) z once in
    record { first = z; has = i.has; begun = begun; began = began_with w (spot_of_line r) z z begun; sender = refl; work = works_as p h xs run r z i }
begins_by p h xs run r there z i true again =
    let w : World = world_at p h xs in
    let work = works_as p h xs run r z i in
    let f = second_of p h xs run r there z work (standing p h xs run z i.has) again in
    let begun = begun_twice w (spot_of_line r) z f.first again f.last in
    record {
      first = f.first;
      has = f.has;
      begun = begun;
      began = began_with w (spot_of_line r) z f.first begun;
      sender = f.look.sender;
      work = read_works p h xs run r f.first f.has f.look.on (look_counts w r z f.first (worker_joined p h xs r z work) f.look);
    }

pub begins : (p : Program) (h : Header) (xs : List Happening) → LawfulRun p h xs → (r : ResourceLine) → Contains h.resources r → (z : Sent) → IsRead p h xs r z → Begins (world_at p h xs) r z
begins p h xs run r there z i = begins_by p h xs run r there z i (reads_again z.course) refl

-- ---- one read begins at a step

not_enough : (again needs : Bool) → again ≡ false → needs ≡ true → (again || not needs) ≡ true → ⊥
not_enough again needs once torn enough = true_is_false (sym enough ∙ ap (λ b. b || not needs) once ∙ ap not torn)

never_before : (a b c : ℕ) → a ≤ b → b ≡ c → c < a → ⊥
never_before a b c h e i = omega (arith, h, e, i)

-- Where one read begins with a call another read of blocks is, that one is made once more.
not_both : (p : Program) (h : Header) (xs : List Happening) → LawfulRun p h xs → (r : ResourceLine) → Contains h.resources r → (y z : Sent) → IsRead p h xs r y → IsRead p h xs r z
    → reads_enough (world_at p h xs).layout y.course ≡ true → reads_again y.course ≡ false → reads_again z.course ≡ true
    → began_at (world_at p h xs) (spot_of_line r) y ≡ began_at (world_at p h xs) (spot_of_line r) z → ⊥
not_both p h xs run r there y z iy iz enough once again same =
    let w : World = world_at p h xs in
    let at : Spot = spot_of_line r in
    let work = works_as p h xs run r z iz in
    let f = second_of p h xs run r there z work (standing p h xs run z iz.has) again in
    let first = read_works p h xs run r f.first f.has f.look.on (look_counts w r z f.first (worker_joined p h xs r z work) f.look) in
    let step : step_of y ≡ step_of f.first =
    sym (began_once w at y once) ∙ same ∙ began_with w at z f.first (begun_twice w at z f.first again f.last) in
    let one : y ≡ f.first = steps_name p h xs run r there y f.first (works_as p h xs run r y iy) first step in
    not_enough (reads_again f.first.course) (needs_again w.layout (blocks_sampled w.layout f.first.course)) f.once f.torn
    (subst (λ (v : Sent). reads_enough w.layout v.course ≡ true) one enough)

-- A second read of one first read is not answered by when another is made.
not_later : (p : Program) (h : Header) (xs : List Happening) → LawfulRun p h xs → (r : ResourceLine) → Contains h.resources r → (y z : Sent) → IsRead p h xs r y → IsRead p h xs r z
    → (again : reads_again y.course ≡ true) (too : reads_again z.course ≡ true) → began_at (world_at p h xs) (spot_of_line r) y ≡ began_at (world_at p h xs) (spot_of_line r) z
    → sender_of y ≡ sender_of z → (t : Stamp) → y.course.answered ≡ Some t → t.step ≤ step_of z → ⊥
not_later p h xs run r there y z iy iz again too same sender t told early =
    let w : World = world_at p h xs in
    let at : Spot = spot_of_line r in
    let sy = standing p h xs run y iy.has in
    let sz = standing p h xs run z iz.has in
    let f = second_of p h xs run r there y (works_as p h xs run r y iy) sy again in
    let g = second_of p h xs run r there z (works_as p h xs run r z iz) sz too in
    let parts = and_true (reads_blocks y.course && y.course.done) (is_joined_there w r.lockspace (sender_of y)) iy.counted in
    let two = and_true (reads_blocks y.course) y.course.done parts.0 in
    let look : IsLookBefore w at z y = record { stamp = t; closed = told; early = early; done = two.1; reads = two.0; on = iy.on; sender = sender } in
    let step : step_of g.first ≡ step_of f.first =
    sym (began_with w at z g.first (begun_twice w at z g.first too g.last)) ∙ sym same ∙ began_with w at y f.first (begun_twice w at y f.first again f.last) in
    never_before (step_of y) (step_of g.first) (step_of f.first) (look_newest p h xs run at z sz g.first y iy.has look g.last) step
    (look_early p h xs run at y f.first f.has f.look)

both_again : (p : Program) (h : Header) (xs : List Happening) → LawfulRun p h xs → (r : ResourceLine) → Contains h.resources r → (y z : Sent) → IsRead p h xs r y → IsRead p h xs r z
    → (again : reads_again y.course ≡ true) (too : reads_again z.course ≡ true) → began_at (world_at p h xs) (spot_of_line r) y ≡ began_at (world_at p h xs) (spot_of_line r) z
    → sender_of y ≡ sender_of z → Turns y z → y ≡ z
both_again p h xs run r there y z iy iz again too same sender (One is) = is
both_again p h xs run r there y z iy iz again too same sender (First t told early) =
    absurd (not_later p h xs run r there y z iy iz again too same sender t told early)
both_again p h xs run r there y z iy iz again too same sender (Second t told early) =
    absurd (not_later p h xs run r there z y iz iy too again (sym same) (sym sender) t told early)

one_read_by : (p : Program) (h : Header) (xs : List Happening) → LawfulRun p h xs → (r : ResourceLine) → Contains h.resources r → (y z : Sent) → IsRead p h xs r y → IsRead p h xs r z
    → reads_enough (world_at p h xs).layout y.course ≡ true → reads_enough (world_at p h xs).layout z.course ≡ true
    → began_at (world_at p h xs) (spot_of_line r) y ≡ began_at (world_at p h xs) (spot_of_line r) z → (a b : Bool) → reads_again y.course ≡ a → reads_again z.course ≡ b → y ≡ z
one_read_by p h xs run r there y z iy iz ey ez same false false one two =
    let w : World = world_at p h xs in
    let at : Spot = spot_of_line r in
    steps_name p h xs run r there y z (works_as p h xs run r y iy) (works_as p h xs run r z iz) (sym (began_once w at y one) ∙ same ∙ began_once w at z two)
one_read_by p h xs run r there y z iy iz ey ez same false true one two = absurd (not_both p h xs run r there y z iy iz ey one two same)
one_read_by p h xs run r there y z iy iz ey ez same true false one two = absurd (not_both p h xs run r there z y iz iy ez two one (sym same))
one_read_by p h xs run r there y z iy iz ey ez same true true one two =
    let a = begins p h xs run r there y iy in
    let b = begins p h xs run r there z iz in
    let first : a.first ≡ b.first = steps_name p h xs run r there a.first b.first a.work b.work (sym a.began ∙ same ∙ b.began) in
    let sender : sender_of y ≡ sender_of z = sym a.sender ∙ ap sender_of first ∙ b.sender in
    both_again p h xs run r there y z iy iz one two same sender
    (turns_of p h xs run r there y z iy.has iz.has (works_as p h xs run r y iy) (works_as p h xs run r z iz) sender)

pub one_read : (p : Program) (h : Header) (xs : List Happening) → LawfulRun p h xs → (r : ResourceLine) → Contains h.resources r → (y z : Sent) → IsRead p h xs r y → IsRead p h xs r z
    → reads_enough (world_at p h xs).layout y.course ≡ true → reads_enough (world_at p h xs).layout z.course ≡ true
    → began_at (world_at p h xs) (spot_of_line r) y ≡ began_at (world_at p h xs) (spot_of_line r) z → y ≡ z
one_read p h xs run r there y z iy iz ey ez same = one_read_by p h xs run r there y z iy iz ey ez same (reads_again y.course) (reads_again z.course) refl refl

-- A read that gave blocks is the one of the step at which it began.
pub read_at_step : (p : Program) (h : Header) (xs : List Happening) → LawfulRun p h xs → (r : ResourceLine) → Contains h.resources r → (z : Sent) → IsRead p h xs r z
    → reads_enough (world_at p h xs).layout z.course ≡ true
    → read_at (world_at p h xs) (spot_of_line r) r.lockspace (began_at (world_at p h xs) (spot_of_line r) z) ≡ Some z
read_at_step p h xs run r there z i enough =
    let w : World = world_at p h xs in
    let at : Spot = spot_of_line r in
    let n : ℕ = began_at w at z in
    finds_it (λ (y : Sent). began_at w at y == n && is_on w.layout at y.course.call && is_counted_read w r.lockspace y && reads_enough w.layout y.course) (all_sent w) z i.has
    (and_from _ _ (and_from _ _ (and_from _ _ (eq-eqb n n refl) i.on) i.counted) enough)
    (λ y inside passes.
    let all = and_true (began_at w at y == n && is_on w.layout at y.course.call && is_counted_read w r.lockspace y) (reads_enough w.layout y.course) passes in
    let three = and_true (began_at w at y == n && is_on w.layout at y.course.call) (is_counted_read w r.lockspace y) all.0 in
    let two = and_true (began_at w at y == n) (is_on w.layout at y.course.call) three.0 in
    one_read p h xs run r there y z (record { has = inside; on = two.1; counted = three.1 }) i all.1 enough (eqb-true (began_at w at y) n two.0))
