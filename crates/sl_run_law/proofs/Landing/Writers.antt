-- Each landing has its writer.
use Rattle.sl_area.specs.AreaSizes.{Layout, record_in, sector_with}
use Rattle.sl_run_law.specs.Course.CourseLaws.{CallsAreDistinct}
use Rattle.sl_run_law.proofs.Landing.OneArrival.{Arrival, IsPart, IsWhole, Lands, first_lands}
use Rattle.sl_run_law.proofs.Landing.CallsMadeBefore.{AreBefore, distinct_at, fate_kept, run_made_before}
use Rattle.sl_run_law.proofs.Landing.LandingOrder.{IsPast, run_orders}
use Rattle.sl_run_law.proofs.Landing.OneEvent.{event_later, first_later, step_landings, world_first, world_keeps, world_then}
use Rattle.sl_run_law.proofs.Landing.CallsOfStep.{Step, event_makes, step_makes}
use Rattle.sl_run_law.proofs.Landing.CallsBeforeStep.{flight_number}
use Rattle.sl_run_law.specs.Landing.Landings.{HasWriter, IsWrittenBy, LandingsAreWritten, LeftBy}
use Rattle.sl_words.proofs.Lists.{contains_cases, contains_map, contains_none, find_inside}
use Rattle.sl_run.specs.EventChanges.{change_call, fated, first_change}
use Rattle.sl_run.specs.Inputs.{input_of, machine_of}
use Rattle.sl_run.specs.Refusals.{may_happen}
use Rattle.sl_run.specs.Premises.{spells_something}
use Rattle.sl_run.specs.Safety.{world_at}
use Rattle.sl_run.specs.Worlds.{Course, Fate, Landed, Landing, Machine, Stamp, Torn, World, flight_of, is_in_flight, is_of_running, is_open, machine_at, may_land, stamp_now, world_with}
use Rattle.sl_run.specs.declared.event.Event.{Event}
use Rattle.sl_run_law.proofs.CourseLists.{changed_if}
use Rattle.sl_run_law.specs.FatesStay.{EachDistinct}
use Rattle.sl_sector.specs.declared.sector.Rec.{Rec}
use Rattle.sl_trace.specs.Traces.{is_write, record_of}
use Rattle.sl_trace.specs.declared.effects.Call.{Call}
use Rattle.sl_trace.specs.declared.effects.Effects.{Effects}
use Rattle.sl_trace.specs.declared.effects.Op.TheVariants.{ReadSectors, WriteRecord}
use Rattle.sl_trace.specs.declared.effects.Op.{Op}
use Rattle.sl_trace.specs.declared.input.Input.{Input}
use Rattle.sl_words.proofs.CaseLaws.{false_is_true, none_some, some_value, true_is_false}
use Rattle.sl_words.proofs.WordLaws.{and_true}
use Rattle.std.proofs.Common.{ap, arith, inl, inr, refl, subst, sym, ◌∙◌}
use Rattle.std.proofs.lemmas.Bool.{eq-eqb}
use Rattle.std.specs.Option.{option_map_or}
use Rattle.std.specs.Prelude.{Bool, Contains, List, None, Option, Some, false, is_none, is_ok, true, [], ℕ, ◌&&◌, ◌++◌, ◌<◌, ◌==◌, ◌||◌, ◌∷◌, ◌≡◌, ◌≤◌}

abbrev AreWritten : World → Type 0
AreWritten w = (l : Landing) → Contains w.landings l → HasWriter w l

-- ---- what stays

has_settled : (x : Fate) (c : Course) → is_in_flight x ≡ false → c.fate ≡ x → is_in_flight c.fate ≡ false
has_settled x c settled is = ap is_in_flight is ∙ settled

-- Whoever left a landing has a fate.
pub writer_settled : (w : World) (l : Landing) (c : Course) (r : Rec) → LeftBy w l c r → is_in_flight c.fate ≡ false
writer_settled w l c r (inl whole) = has_settled Landed c refl whole.1
writer_settled w l c r (inr part) = has_settled Torn c refl part.1

-- What spells nothing in one world does so in the other.
nothing_still : (w u : World) (bs : List ℕ) → u.layout ≡ w.layout → spells_something w bs ≡ false → spells_something u bs ≡ false
nothing_still w u bs lay h = ap (λ (g : Layout). is_ok (record_in g bs)) lay ∙ h

left_still : (w u : World) (l : Landing) (c d : Course) (r : Rec) → d.fate ≡ c.fate → u.layout ≡ w.layout → LeftBy w l c r → LeftBy u l d r
left_still w u l c d r fate lay (inl whole) = inl (whole.0, fate ∙ whole.1, whole.2 ∙ ap (λ (g : Layout). sector_with g r) (sym lay))
left_still w u l c d r fate lay (inr part) = inr (part.0, fate ∙ part.1, nothing_still w u l.bytes lay part.2)

-- An answer comes after the landing.
abbrev AnsweredAfter : Landing → Course → Type 0
AnsweredAfter l c = (s : Stamp) → c.answered ≡ Some s → (l.step < s.step) × (l.moment ≤ s.moment)

now_after : (v : World) (a : Machine) (l : Landing) (s : Stamp) → IsPast v l → Some (stamp_now v a) ≡ Some s → (l.step < s.step) × (l.moment ≤ s.moment)
now_after v a l s past same = subst (λ (x : Stamp). (l.step < x.step) × (l.moment ≤ x.moment)) (some_value (stamp_now v a) s same) past

answer_after : (v : World) (m : ℕ) (o : Option Input) (n : ℕ) (a : Machine) (l : Landing) (c d : Course) → IsPast v l
    → ((s : Stamp) → c.answered ≡ Some s → (l.step < s.step) × (l.moment ≤ s.moment)) → Step v m o n a c d → AnsweredAfter l d
answer_after v m o n a l c d past before t s is =
    elim t.answer as (λ z. (l.step < s.step) × (l.moment ≤ s.moment)) [
      | inl same ↦ before s (sym same.0 ∙ is)
      | inr told ↦ now_after v a l s past (sym told.answered ∙ is)
    ]

past_first : (w : World) (e : Event) (l : Landing) → IsPast w l → IsPast (world_first w e) l
past_first w e l p = let later = first_later w e in (omega (arith, p.0, later.step), omega (arith, p.1, later.moment))

now_first : (w : World) (e : Event) (l : Landing) → (l.step ≡ w.step) × (l.moment ≡ w.moment) → IsPast (world_first w e) l
now_first w e l p = let later = first_later w e in (omega (arith, p.0, later.step), omega (arith, p.1, later.moment))

written_still : (w : World) (e : Event) (fx : Effects) (l : Landing) (m n : ℕ) → may_happen w e ≡ true → EachDistinct w → IsPast w l → IsWrittenBy w l m n
    → IsWrittenBy (world_then w e fx) l m n
written_still w e fx l m n may distinct past by =
    let u : World = world_then w e fx in
    let b = event_makes w e fx may m by.machine by.at in
    let p = b.2 in
    let x = p.turned.forth by.course by.has in
    let d = p.stepped.forth x.0 x.1 in
    let call : d.0.call ≡ by.course.call = d.2.call ∙ x.2.call in
    record {
      machine = b.0;
      course = d.0;
      record_written = by.record_written;
      at = b.1;
      has = d.1;
      number = ap (λ (c : Call). c.number) call ∙ by.number;
      writes = ap (λ (c : Call). record_of c.op) call ∙ by.writes;
      place = (ap (λ (c : Call). c.path) call ∙ by.place.0, ap (λ (c : Call). c.offset) call ∙ by.place.1);
      after = subst (λ (s : Stamp). (s.step < l.step) × (s.moment ≤ l.moment)) (sym (d.2.made ∙ x.2.made)) by.after;
      before = answer_after (world_first w e) (machine_of e) (input_of w e) m p.middle l x.0 d.0 (past_first w e l past)
          (λ s is. by.before s (sym x.2.answered ∙ is)) d.2;
      left = left_still w u l by.course d.0 by.record_written
          (d.2.fate ∙ fate_kept w e m by.machine by.course x.0 (distinct m by.machine by.at) by.has (writer_settled w l by.course by.record_written by.left) x.2)
          (event_later w e fx).layout by.left;
    }

writer_still : (w : World) (e : Event) (fx : Effects) (l : Landing) → may_happen w e ≡ true → EachDistinct w → IsPast w l → HasWriter w l
    → HasWriter (world_then w e fx) l
writer_still w e fx l may distinct past h =
    record { machine = h.machine; call = h.call; named = h.named; wrote = written_still w e fx l h.machine h.call may distinct past h.wrote }

-- ---- what comes

a_record : (o : Op) → is_write o ≡ true → (r : Rec) × (record_of o ≡ Some r)
a_record (ReadSectors n) h = absurd (false_is_true h)
a_record (WriteRecord r) h = (r, refl)

no_answer : (o : Option Stamp) (s : Stamp) → is_none o ≡ true → o ≡ Some s → ⊥
no_answer None s h is = none_some s is
no_answer (Some t) s h is = false_is_true h

-- What is in flight has no answer.
unanswered : (a : Machine) (n : ℕ) (f : Course) (s : Stamp) → flight_of a n ≡ Some f → f.answered ≡ Some s → ⊥
unanswered a n f s h is =
    let p = find_inside (λ x. x.call.number == n && is_open a x) a.calls f h in
    let open_now = (and_true (f.call.number == n) (is_open a f) p.1).1 in
    no_answer f.answered s (and_true (is_none f.answered) (is_of_running a f || may_land f) open_now).0 is

changed_true : (f : Course → Course) (c : Course) (t : Bool) → t ≡ true → changed_if t f c ≡ f c
changed_true f c true h = refl
changed_true f c false h = absurd (true_is_false (sym h))

-- The call in flight, with its new fate.
fated_there : (a : Machine) (n : ℕ) (f : Course) (x : Fate) → flight_of a n ≡ Some f → Contains (change_call n (fated x) a).calls (fated x f)
fated_there a n f x h =
    let g : Course → Course = λ c. changed_if (c.call.number == n) (fated x) c in
    subst (λ c. Contains (change_call n (fated x) a).calls c)
    (changed_true (fated x) f (f.call.number == n) (eq-eqb f.call.number n (flight_number a n f h)))
    (contains_map g a.calls f (find_inside (λ c. c.call.number == n && is_open a c) a.calls f h).0)

made_earlier : (w : World) (l : Landing) (c : Course) → (l.step ≡ w.step) × (l.moment ≡ w.moment) → (c.made.step < w.step) × (c.made.moment ≤ w.moment)
    → (c.made.step < l.step) × (c.made.moment ≤ l.moment)
made_earlier w l c now before = (omega (arith, now.0, before.0), omega (arith, now.1, before.1))

-- The writer of what arrives, which has this fate.
written_now : (w : World) (e : Event) (fx : Effects) (a : Arrival w (first_change e w)) (x : Fate) → AreBefore w
    → machine_at (first_change e w) a.machine ≡ Some (change_call a.number (fated x) a.host)
    → ((d : Course) (r : Rec) → d.fate ≡ x → record_of a.flight.call.op ≡ Some r → LeftBy (world_then w e fx) a.landing d r)
    → IsWrittenBy (world_then w e fx) a.landing a.machine a.flight.call.number
written_now w e fx a x earlier there left =
    let v : World = world_first w e in
    let turned : Machine = change_call a.number (fated x) a.host in
    let b = step_makes v (machine_of e) (input_of w e) fx a.machine turned there in
    let d = b.2.forth (fated x a.flight) (fated_there a.host a.number a.flight x a.flies) in
    let r = a_record a.flight.call.op a.writes in
    let inside = (find_inside (λ c. c.call.number == a.number && is_open a.host c) a.host.calls a.flight a.flies).0 in
    record {
      machine = b.0;
      course = d.0;
      record_written = r.0;
      at = b.1;
      has = d.1;
      number = ap (λ (c : Call). c.number) d.2.call;
      writes = ap (λ (c : Call). record_of c.op) d.2.call ∙ r.1;
      place = (ap (λ (c : Call). c.path) d.2.call ∙ a.place.0, ap (λ (c : Call). c.offset) d.2.call ∙ a.place.1);
      after = subst (λ (s : Stamp). (s.step < a.landing.step) × (s.moment ≤ a.landing.moment)) (sym d.2.made)
          (made_earlier w a.landing a.flight a.now (earlier a.machine a.host a.flight a.at inside));
      before = answer_after v (machine_of e) (input_of w e) a.machine turned a.landing (fated x a.flight) d.0 (now_first w e a.landing a.now)
          (λ s is. absurd (unanswered a.host a.number a.flight s a.flies is)) d.2;
      left = left d.0 r.0 d.2.fate r.1;
    }

whole_left : (w u v : World) (a : Arrival w v) (k : IsWhole w v a.machine a.number a.host a.flight a.landing) → u.layout ≡ w.layout
    → (d : Course) (r : Rec) → d.fate ≡ Landed → record_of a.flight.call.op ≡ Some r → LeftBy u a.landing d r
whole_left w u v a k lay d r fate writes =
    inl (k.whole, fate, k.bytes ∙ ap (λ o. option_map_or (sector_with w.layout) o []) writes ∙ ap (λ (g : Layout). sector_with g r) (sym lay))

part_left : (w u v : World) (a : Arrival w v) (k : IsPart w v a.machine a.number a.host a.flight a.landing) → u.layout ≡ w.layout
    → (d : Course) (r : Rec) → d.fate ≡ Torn → record_of a.flight.call.op ≡ Some r → LeftBy u a.landing d r
part_left w u v a k lay d r fate writes = inr (k.whole, fate, nothing_still w u a.landing.bytes lay k.nothing)

writer_now : (w : World) (e : Event) (fx : Effects) (a : Arrival w (first_change e w)) → AreBefore w → HasWriter (world_then w e fx) a.landing
writer_now w e fx a earlier =
    let u : World = world_then w e fx in
    let lay = (event_later w e fx).layout in
    record {
      machine = a.machine;
      call = a.flight.call.number;
      named = a.writer;
      wrote = elim a.left as (λ z. IsWrittenBy u a.landing a.machine a.flight.call.number) [
        | inl k ↦ written_now w e fx a Landed earlier k.after (whole_left w u (first_change e w) a k lay)
        | inr k ↦ written_now w e fx a Torn earlier k.after (part_left w u (first_change e w) a k lay)
      ];
    }

-- ---- runs

written_by : (w : World) (e : Event) (fx : Effects) → may_happen w e ≡ true → EachDistinct w → ((l : Landing) → Contains w.landings l → IsPast w l) → AreBefore w
    → AreWritten w → Lands w (first_change e w) → (l : Landing) → Contains (first_change e w).landings l → HasWriter (world_then w e fx) l
written_by w e fx may distinct past earlier so (inl same) l h =
    let old = subst (λ ls. Contains ls l) same h in
    writer_still w e fx l may distinct (past l old) (so l old)
written_by w e fx may distinct past earlier so (inr a) l h =
    elim (contains_cases a.landing w.landings l (subst (λ ls. Contains ls l) a.same h)) as (λ z. HasWriter (world_then w e fx) l) [
      | inl is ↦ subst (HasWriter (world_then w e fx)) is (writer_now w e fx a earlier)
      | inr old ↦ writer_still w e fx l may distinct (past l old) (so l old)
    ]

pub are_written_given : CallsAreDistinct → LandingsAreWritten
are_written_given distinct p h xs run =
    world_keeps AreWritten p h (λ l there. absurd (contains_none l there))
    (λ now x law k so l there.
    let w : World = world_at p h now in
    written_by w x.0 k.effects k.may (distinct_at (world_with p h) now x (distinct p h (now ++ x ∷ []) law)) (run_orders p h now k.before).past
    (run_made_before p h now k.before) so (first_lands x.0 w k.may) l
    (subst (λ ls. Contains ls l) (step_landings (machine_of x.0) (input_of w x.0) k.effects (world_first w x.0)) there)) xs run
