-- A step of a joining on the machine: it comes once, and what its laws say of answered calls is true of calls of the machine that were
-- answered before it.
use Rattle.sl_run_law.proofs.Course.Daemons.{every_has}
use Rattle.sl_run_law.proofs.Place.Looks.{joins_at}
use Rattle.sl_run_law.proofs.Place.TracesOnMachines.{first_whole}
use Rattle.sl_words.proofs.Lists.{contains_more, kept_inside}
use Rattle.sl_words.proofs.Numbers.{one_times}
use Rattle.sl_run_law.specs.FatesStay.{Every}
use Rattle.sl_run_law.specs.Course.CallStamps.{AnswersAgree, IsAnsweredAs, IsCourseOf, stamp_in}
use Rattle.sl_id_safety.proofs.State.TraceBridge.{Grounds, IsKnown, IsPlaced, step_agrees}
use Rattle.sl_id_safety.proofs.State.CallLaws.{IsOwnCall}
use Rattle.sl_id_safety.proofs.State.PairedLists.{EveryTail, every_pair, find_here, stands_there}
use Rattle.sl_run_law.proofs.Place.FoundInLists.{partner_of}
use Rattle.sl_id_safety.proofs.State.JoiningCallOrder.{InPlace, Precede, in_place, is_joining, rank, rank_at}
use Rattle.sl_id_safety.proofs.State.Tails.{IsLater, front_at}
use Rattle.sl_id_safety.proofs.State.TracesInTime.{reading_front, refused_after_call, stamps_order, stamps_rise}
use Rattle.sl_id_safety.specs.State.IdStates.{comes_before, join_course, own_courses, refused_stamp, sample_showing}
use Rattle.sl_run_law.proofs.Front.JoinedLists.{contains_right}
use Rattle.sl_run.specs.Refusals.{sectors_of}
use Rattle.sl_run.specs.Runs.{Happening}
use Rattle.sl_run.specs.Safety.{Found, LawfulRun, SessionId, setting_in, trace_of, world_at}
use Rattle.sl_run.specs.Worlds.{Course, Machine, Program, Sampling, Stamp, World, machine_at}
use Rattle.sl_run.specs.declared.header.Header.{Header}
use Rattle.sl_area.specs.AreaLayout.{sector_of}
use Rattle.sl_run_law.specs.Sample.Samples.{IsSampleOf}
use Rattle.sl_trace.specs.Sessions.{calls_of, is_call_of, is_join_call, refused_after}
use Rattle.sl_time.specs.Times.{reading_of}
use Rattle.sl_trace.specs.Traces.{Answered, Submitted, is_write, submitted}
use Rattle.sl_trace.specs.declared.effects.Call.{Call}
use Rattle.sl_trace.specs.declared.effects.JoinStep.{JoinStep}
use Rattle.sl_trace.specs.declared.effects.Op.TheVariants.{ReadSectors}
use Rattle.sl_trace.specs.declared.effects.Op.{Op}
use Rattle.sl_trace.specs.declared.effects.Purpose.{Purpose}
use Rattle.sl_run_law.proofs.Watchdog.Joins.{answered_within}
use Rattle.sl_words.proofs.CaseLaws.{is_false}
use Rattle.sl_words.specs.Words.{choose, first_of_list, some_is}
use Rattle.std.proofs.Common.{ap, arith, inl, inr, refl, subst, sym, ◌∙◌}
use Rattle.std.proofs.lemmas.Bool.{and_from, lt-ltb}
use Rattle.std.specs.Cmp.Lexicographic.{nat_list_eq_equiv}
use Rattle.std.specs.Prelude.{Contains, List, None, Option, Some, [], bytes_eq, false, find, length, not, option_and_then, slice_get, suc, true, ℕ, ◌&&◌, ◌*◌, ◌++◌, ◌-◌, ◌<◌, ◌∷◌, ◌≡◌, ◌≤◌}

-- ---- a step comes once

pub ranks_of : (step : JoinStep) (p : Purpose) → is_join_call step p ≡ true → (is_joining p ≡ true) × (rank p ≡ rank_at step)
ranks_of step p is = let r = joins_at step p is in (ap (λ q. is_joining q) r.1, ap (λ q. rank q) r.1)

pub twice : (x y : Submitted) (n : ℕ) → rank x.call.purpose ≡ n → rank y.call.purpose ≡ n → (n ≡ 2 → ⊥) → Precede y x → ⊥
twice x y n a b once (inl lt) = omega (arith, a, b, lt)
twice x y n a b once (inr both) = once (sym b ∙ both.1)

other_steps : (step : JoinStep) (front : List Submitted) (here : Submitted) (rest : List Submitted) → EveryTail InPlace (front ++ here ∷ rest)
    → is_join_call step here.call.purpose ≡ true → (rank_at step ≡ 2 → ⊥) → Every (λ (y : Submitted). is_join_call step y.call.purpose ≡ false) front
other_steps step [] here rest h is once = tt
other_steps step (y ∷ front) here rest h is once = (
  is_false (is_join_call step y.call.purpose) (λ same.
      let r = ranks_of step y.call.purpose same in
      twice here y (rank_at step) (ranks_of step here.call.purpose is).1 r.1 once
      (every_has (Precede y) (front ++ here ∷ rest) here (h.0 r.0).below (stands_there front here rest))),
  other_steps step front here rest h.1 is once,
)

pub places : (w : World) (i : SessionId) (f : Found) → IsKnown w i f → EveryTail InPlace (calls_of (trace_of f) f.session)
places w i f k = in_place (setting_in f) (trace_of f) f.session k.lawful k.its

pub only : (w : World) (i : SessionId) (f : Found) (c : Course) → IsOwnCall w i f c → (step : JoinStep) → (rank_at step ≡ 2 → ⊥) → is_join_call step c.call.purpose ≡ true
    → join_course i step f.machine ≡ Some c
only w i f c o step once is =
    let x = o.placed in
    let here : is_join_call step x.pairs.here.call.purpose ≡ true = ap (λ (y : Call). is_join_call step y.purpose) x.pairs.this.call ∙ is in
    let none =
    other_steps step x.pairs.front x.pairs.here x.pairs.rest (subst (λ ms. EveryTail InPlace ms) x.pairs.whole (places w i f o.known)) here once in
    ap (λ cs. find (λ (y : Course). is_join_call step y.call.purpose) cs) x.whole
    ∙ find_here (λ (y : Course). is_join_call step y.call.purpose) x.newer c x.older
    (every_pair (IsCourseOf f.daemon) (λ (y : Course). is_join_call step y.call.purpose ≡ false) (λ (m : Submitted). is_join_call step m.call.purpose ≡ false)
    (λ y m r no. sym (step_agrees f.daemon step y m r) ∙ no) x.newer x.pairs.front x.pairs.fronts none)
    is

-- ---- what was answered before

-- A call that was answered where this one was made, on the machine.
pub record IsAnsweredBefore (i : SessionId) (f : Found) (c : Course) (r : Submitted) (a : Answered) : Type 0 where
  pub course : Course
  pub own : Contains (own_courses i f.machine) course
  pub is : IsCourseOf f.daemon course r
  pub told : IsAnsweredAs f.daemon course a
  pub before : told.stamp.step ≤ c.made.step

pub own_behind : (i : SessionId) (f : Found) (c : Course) (x : IsPlaced i f c) (d : Course) → Contains x.older d → Contains (own_courses i f.machine) d
own_behind i f c x d there = subst (λ cs. Contains cs d) (sym x.whole) (contains_right x.newer (c ∷ x.older) d (contains_more c x.older d there))

pub answered_before : (w : World) (i : SessionId) (f : Found) (c : Course) (o : IsOwnCall w i f c) (r : Submitted) (a : Answered)
    → Contains (calls_of (front_at o.placed.made) f.session) r → r.answer ≡ Some a → IsAnsweredBefore i f c r a
answered_before w i f c o r a there is =
    let x = o.placed in
    let d = x.made in
    let one = partner_of IsLater x.pairs.rest (calls_of (front_at d) f.session) r d.prior there in
    let two = partner_of (IsCourseOf f.daemon) x.older x.pairs.rest r x.pairs.rests (subst (λ m. Contains x.pairs.rest m) (one.2.stays a is) one.1) in
    let told : IsAnsweredAs f.daemon two.0 a = subst (λ q. AnswersAgree f.daemon two.0 q) is two.2.answers in
    let past : a.at < suc (length d.past) = answered_within (front_at d) r a (kept_inside (is_call_of f.session) (submitted (front_at d)) r there).0 is in
    let le : a.at ≤ x.pairs.here.at = omega (arith, past, d.place) in
    record {
      course = two.0;
      own = own_behind i f c x two.0 two.1;
      is = two.2;
      told = told;
      before = stamps_order w.step f.daemon.stamps a.at x.pairs.here.at told.stamp c.made o.known.stamps told.entry x.pairs.this.made le;
    }

-- What the machine read where the call was made is not below the readings of what stood there.
pub read_before : (w : World) (i : SessionId) (f : Found) (c : Course) (o : IsOwnCall w i f c) (r : Submitted) → Contains (calls_of (front_at o.placed.made) f.session) r
    → r.reading ≤ reading_of c.made.clock
read_before w i f c o r there =
    let d = o.placed.made in
    let le = reading_front (setting_in f) d.entry d.past d.index o.lawful.lawful.is_trace r (kept_inside (is_call_of f.session) (submitted (front_at d)) r there).0 in
    omega (arith, le, d.reading, o.placed.pairs.this.reading)

pub reading_made : (w : World) (i : SessionId) (f : Found) (c : Course) (o : IsOwnCall w i f c) → o.placed.made.entry.reading ≡ reading_of c.made.clock
reading_made w i f c o = sym o.placed.made.reading ∙ o.placed.pairs.this.reading

-- ---- a read of one sector

-- A read with its one sample.
pub record IsSampled (w : World) (c : Course) : Type 0 where
  pub sample : Sampling
  pub first : first_of_list c.samples ≡ Some sample
  pub shows : IsSampleOf w c 0 sample
  pub sector : sector_of w.layout c.sampled 0 ≡ c.sampled

one_first : {A : Type 0} (xs : List A) → length xs ≡ 1 → (x : A) × (first_of_list xs ≡ Some x) × (slice_get xs 0 ≡ Some x)
one_first [] h = absurd (omega (arith, h))
one_first (x ∷ xs) h = (x, refl, refl)

pub is_sampled : Grounds → (p : Program) (h : Header) (xs : List Happening) → LawfulRun p h xs → (m : ℕ) (a : Machine) (c : Course) → machine_at (world_at p h xs) m ≡ Some a
    → Contains a.calls c → c.done ≡ true → c.call.op ≡ ReadSectors 1 → IsSampled (world_at p h xs) c
is_sampled g p h xs run m a c at has done op =
    let w : World = world_at p h xs in
    let count = g.done p h xs run m a c at has done (ap (λ (x : Op). not (is_write x)) op) ∙ ap (λ (x : Op). sectors_of x) op in
    let one = one_first c.samples count in
    let size = (g.sectors p h xs run m a c at has).0 ∙ ap (λ n. n * w.layout.sector) count ∙ one_times w.layout.sector in
    record {
      sample = one.0;
      first = one.1;
      shows = g.samples p h xs run m a c 0 one.0 at has one.2;
      sector = first_whole w.layout.sector c.sampled size;
    }

-- ---- before any refusal

-- What was sampled before a call of the session came before any refusal.
pub before_refusal : (w : World) (i : SessionId) (f : Found) (c : Course) → IsOwnCall w i f c → (x : Sampling) → x.step < c.made.step → comes_before (refused_stamp f) x ≡ true
before_refusal w i f c o x lt = by (refused_after (trace_of f) f.session) refl where
  at_stamp : (k : ℕ) → refused_after (trace_of f) f.session ≡ Some k → (q : Option Stamp) → stamp_in f.daemon.stamps (k - 1) ≡ q → comes_before q x ≡ true
  at_stamp k is None at = refl
  at_stamp k is (Some r) at =
      let d = o.placed.made in
      let later = refused_after_call d.later d.entry d.past d.index f.session k o.lawful.alive (ap (λ t. refused_after t f.session) (sym d.whole) ∙ is) in
      let rise : o.placed.pairs.here.at < k - 1 = omega (arith, later, d.place) in
      let more = stamps_rise w.step f.daemon.stamps o.placed.pairs.here.at (k - 1) c.made r o.known.stamps o.placed.pairs.this.made at rise in
      lt-ltb x.step r.step (omega (arith, lt, more))

  by : (q : Option ℕ) → refused_after (trace_of f) f.session ≡ q → comes_before (option_and_then (λ k. stamp_in f.daemon.stamps (k - 1)) q) x ≡ true
  by None is = refl
  by (Some k) is = at_stamp k is (stamp_in f.daemon.stamps (k - 1)) refl

-- So a read that shows these bytes has its sample.
pub showing : (f : Found) (bytes : Option (List ℕ)) (c : Course) (bs : List ℕ) (x : Sampling) → bytes ≡ Some bs → bs ≡ c.sampled → first_of_list c.samples ≡ Some x
    → comes_before (refused_stamp f) x ≡ true → sample_showing f bytes c ≡ Some x
showing f bytes c bs x is same first before =
    let shown : some_is (λ b. bytes_eq b c.sampled) bytes ≡ true =
    ap (λ o. some_is (λ b. bytes_eq b c.sampled) o) is ∙ ap (λ b. bytes_eq b c.sampled) same ∙ nat_list_eq_equiv.refl c.sampled in
    ap (λ o. option_and_then (λ (y : Sampling). choose (some_is (λ b. bytes_eq b c.sampled) bytes && comes_before (refused_stamp f) y) y) o) first
    ∙ ap (λ b. choose b x) (and_from (some_is (λ b. bytes_eq b c.sampled) bytes) (comes_before (refused_stamp f) x) shown before)
