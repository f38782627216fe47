-- What a write of a host left: a landing of its own, after it was submitted and before it was answered.
use Rattle.sl_safety.proofs.GivenReads.LandingOrder.{one_writer}
use Rattle.sl_safety.proofs.Resources.Calls.{IsThere, one_sent, sent_there, there_sent}
use Rattle.sl_safety.specs.Resources.SentCalls.{Sent, all_sent, step_of}
use Rattle.sl_safety.specs.Pairs.PairLogs.{is_left_by, landing_of}
use Rattle.sl_words.proofs.Lists.{find_inside}
use Rattle.sl_run.specs.Runs.{Happening}
use Rattle.sl_run.specs.Safety.{LawfulRun, world_at}
use Rattle.sl_run.specs.Worlds.{Landing, Program, Stamp, World, is_landed, is_write_course}
use Rattle.sl_run.specs.declared.header.Header.{Header}
use Rattle.sl_run_law.proofs.Landing.LandedRemain.{landed_are_there}
use Rattle.sl_run_law.proofs.Landing.LandingLaws.{done_writes_have_landed, landings_are_written, writes_land_once}
use Rattle.sl_run_law.proofs.Place.FoundInLists.{finds}
use Rattle.sl_run_law.specs.Landing.Landings.{HasWriter, LeftBy}
use Rattle.sl_sector.specs.declared.sector.Rec.{Rec}
use Rattle.sl_trace.specs.Traces.{record_of}
use Rattle.sl_words.proofs.CaseLaws.{some_value}
use Rattle.sl_words.proofs.WordLaws.{and_true, some_is_true}
use Rattle.std.proofs.Common.{ap, refl, subst, sym, ◌∙◌}
use Rattle.std.proofs.lemmas.Bool.{eq-eqb, eqb-true}
use Rattle.std.specs.Prelude.{Bool, Contains, IsTrue, List, None, Option, Some, false, true, ℕ, ◌&&◌, ◌<◌, ◌==◌, ◌≡◌}

-- ---- whose a landing is

named_by : (o : Option (ℕ × ℕ)) (a b c d : ℕ) → o ≡ Some (a, b) → a ≡ c → b ≡ d → o ≡ Some (c, d)
named_by o a b c d is one two = subst (λ (n : ℕ). o ≡ Some (c, n)) two (subst (λ (n : ℕ). o ≡ Some (n, b)) one is)

pub left_is : (x : Sent) (l : Landing) → is_left_by x l ≡ true → l.writer ≡ Some (x.machine, x.course.call.number)
left_is x l h =
    let f = some_is_true (λ (p : ℕ × ℕ). p.0 == x.machine && p.1 == x.course.call.number) l.writer h in
    let both = and_true (f.0.0 == x.machine) (f.0.1 == x.course.call.number) f.2 in
    named_by l.writer f.0.0 f.0.1 x.machine x.course.call.number f.1 (eqb-true f.0.0 x.machine both.0) (eqb-true f.0.1 x.course.call.number both.1)

pub is_left : (x : Sent) (l : Landing) → l.writer ≡ Some (x.machine, x.course.call.number) → is_left_by x l ≡ true
is_left x l h =
    ap (λ (o : Option (ℕ × ℕ)). elim o as (λ z. Bool) [ None ↦ false | Some p ↦ p.0 == x.machine && p.1 == x.course.call.number ]) h
    ∙ by (x.machine == x.machine) (x.course.call.number == x.course.call.number) (eq-eqb x.machine x.machine refl) (eq-eqb x.course.call.number x.course.call.number refl)
  where
    by : (a b : Bool) → a ≡ true → b ≡ true → (a && b) ≡ true
    by true true p q = refl
    by true false p q = q
    by false b p q = p

-- A landing that a call left.
pub record LandedBy (p : Program) (h : Header) (xs : List Happening) (x : Sent) (l : Landing) : Type 0 where
  pub inside : Contains (world_at p h xs).landings l
  pub writer : l.writer ≡ Some (x.machine, x.course.call.number)
  pub after : step_of x < l.step
  pub before : (s : Stamp) → x.course.answered ≡ Some s → l.step < s.step
  pub spells : Rec
  pub writes : record_of x.course.call.op ≡ Some spells
  pub place : (x.course.call.path ≡ l.path) × (x.course.call.offset ≡ l.offset)
  pub left : LeftBy (world_at p h xs) l x.course spells

pub landed_by : (p : Program) (h : Header) (xs : List Happening) → LawfulRun p h xs → (x : Sent) → Contains (all_sent (world_at p h xs)) x → (l : Landing)
    → Contains (world_at p h xs).landings l → l.writer ≡ Some (x.machine, x.course.call.number) → LandedBy p h xs x l
landed_by p h xs run x has l inside writer =
    let w : World = world_at p h xs in
    let k : HasWriter w l = landings_are_written p h xs run l inside in
    let name : Some (k.machine, k.call) ≡ Some (x.machine, x.course.call.number) = sym k.named ∙ writer in
    let machine : k.machine ≡ x.machine = ap (λ (q : ℕ × ℕ). q.0) (some_value (k.machine, k.call) (x.machine, x.course.call.number) name) in
    let number : k.call ≡ x.course.call.number = ap (λ (q : ℕ × ℕ). q.1) (some_value (k.machine, k.call) (x.machine, x.course.call.number) name) in
    let y : Sent = record { machine = k.machine; course = k.wrote.course } in
    let there : Contains (all_sent w) y = there_sent w k.machine k.wrote.machine k.wrote.course k.wrote.at k.wrote.has in
    let same : y ≡ x = one_sent p h xs run y x there has machine (k.wrote.number ∙ number) in
    subst (λ (z : Sent). LandedBy p h xs z l) same
    (record {
      inside = inside;
      writer = k.named ∙ ap (λ n. Some (k.machine, n)) (sym k.wrote.number);
      after = k.wrote.after.0;
      before = λ s answered. (k.wrote.before s answered).0;
      spells = k.wrote.record_written;
      writes = k.wrote.writes;
      place = k.wrote.place;
      left = k.wrote.left;
    })

-- ---- the landing of a call

pub landing_is : (p : Program) (h : Header) (xs : List Happening) → LawfulRun p h xs → (x : Sent) → Contains (all_sent (world_at p h xs)) x → (l : Landing)
    → landing_of (world_at p h xs) x ≡ Some l → LandedBy p h xs x l
landing_is p h xs run x has l found =
    let f = find_inside (is_left_by x) (world_at p h xs).landings l found in
    landed_by p h xs run x has l f.0 (left_is x l f.1)

-- It is found.
pub landing_found : (p : Program) (h : Header) (xs : List Happening) → LawfulRun p h xs → (x : Sent) (l : Landing) → Contains (world_at p h xs).landings l
    → l.writer ≡ Some (x.machine, x.course.call.number) → landing_of (world_at p h xs) x ≡ Some l
landing_found p h xs run x l inside writer =
    let w : World = world_at p h xs in
    let f = finds (is_left_by x) w.landings l (is_left x l writer) inside in
    let its = find_inside (is_left_by x) w.landings f.0 f.1 in
    f.1 ∙ ap (λ z. Some z) (one_writer w.landings f.0 l (writes_land_once p h xs run) its.0 inside (left_is x f.0 its.1 ∙ sym writer))

-- What was answered ok has landed, whole.
pub record DoneLanded (w : World) (x : Sent) : Type 0 where
  pub landing : Landing
  pub found : landing_of w x ≡ Some landing
  pub whole : landing.whole ≡ true

pub done_landed : (p : Program) (h : Header) (xs : List Happening) → LawfulRun p h xs → (x : Sent) → Contains (all_sent (world_at p h xs)) x → is_write_course x.course ≡ true
    → x.course.done ≡ true → DoneLanded (world_at p h xs) x
done_landed p h xs run x has writes done =
    let w : World = world_at p h xs in
    let k : IsThere w x = sent_there w x has in
    let fate : IsTrue (is_landed x.course.fate) = done_writes_have_landed p h xs run x.machine k.machine x.course k.at k.has done writes in
    let there = landed_are_there p h xs run x.machine k.machine x.course k.at k.has fate in
    record { landing = there.0; found = landing_found p h xs run x there.0 there.1 there.2; whole = there.3 }
