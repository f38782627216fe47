-- What a set of a value left at the value's place, and that of a place's landings the numbers are in the order of their steps.
use Rattle.sl_safety.proofs.GivenReads.NewestShown.{descends_then}
use Rattle.sl_area.specs.AreaLayout.{value_offset}
use Rattle.sl_run_law.proofs.Front.JoinedLists.{contains_left, placed_at}
use Rattle.sl_id_safety.proofs.State.CallLaws.{is_place}
use Rattle.sl_id_safety.proofs.Steps.Seqs.{has_number}
use Rattle.sl_run_law.proofs.Landing.LandingOrder.{come_in_order}
use Rattle.sl_run_law.proofs.Landing.LandingLaws.{done_writes_have_landed, landings_are_written}
use Rattle.sl_run_law.proofs.Landing.LandedRemain.{landed_are_there}
use Rattle.sl_run_law.specs.Landing.Landings.{HasWriter}
use Rattle.sl_run_law.proofs.Place.FoundInLists.{numbered_inside, place_is}
use Rattle.sl_words.proofs.Lists.{kept, kept_inside}
use Rattle.sl_safety.proofs.Resources.OneSessionStands.{head_pairs, tail_pairs}
use Rattle.sl_safety.proofs.Resources.Calls.{there_sent, Name, name_of, one_sent}
use Rattle.sl_safety.proofs.Resources.StepsNameCalls.{write_is}
use Rattle.sl_safety.specs.Resources.SentCalls.{Sent, all_sent, step_of}
use Rattle.sl_run.specs.Runs.{Happening}
use Rattle.sl_run.specs.Safety.{LawfulRun, world_at}
use Rattle.sl_run.specs.Values.{IsSet}
use Rattle.sl_run.specs.Worlds.{Course, Landing, Program, Stamp, World, first_landing, history_of, landed_at}
use Rattle.sl_run.specs.declared.header.Header.{Header}
use Rattle.sl_run_law.proofs.Sample.LandingNumbers.{number_below}
use Rattle.sl_run_law.specs.Sample.Samples.{numbered_landing}
use Rattle.sl_sector.specs.declared.sector.Rec.TheVariants.{ValueIs}
use Rattle.sl_sector.specs.declared.sector.ValueRec.{ValueRec}
use Rattle.sl_trace.specs.Traces.{record_of, same_place}
use Rattle.sl_trace.specs.declared.effects.Spot.{Spot}
use Rattle.sl_words.proofs.CaseLaws.{none_some, some_value}
use Rattle.std.proofs.Common.{ap, arith, refl, subst, sym, ◌∙◌}
use Rattle.std.proofs.lemmas.Bool.{eqb-true}
use Rattle.std.specs.Prelude.{AllPairs, Bool, Contains, List, Option, Some, [], false, filter, if◌then◌else◌, length, true, ℕ, ◌<◌, ◌==◌, ◌∷◌, ◌≡◌, ◌≤◌}

-- ---- what a place has held comes in order

-- The newer of these stand first.
abbrev Descends : List Landing → Type 0
Descends [] = Unit {0}
Descends (l ∷ ls) = ((x : Landing) → Contains ls x → x.step < l.step) × Descends ls

descends_of : (ls : List Landing) → AllPairs (λ newer older. (older.step < newer.step) × (older.moment ≤ newer.moment)) ls → Descends ls
descends_of [] all = tt
descends_of (l ∷ ls) all =
    let R : Landing → Landing → Type 0 = λ newer older. (older.step < newer.step) × (older.moment ≤ newer.moment) in
    ((λ x there. let i = placed_at ls x there in (head_pairs R l ls i.0 x all i.1).0), descends_of ls (tail_pairs R l ls all))

kept_by : (p : Landing → Bool) (l : Landing) (ls : List Landing) (b : Bool) → p l ≡ b → ((x : Landing) → Contains ls x → x.step < l.step) → Descends (filter p ls)
    → Descends (if b then l ∷ filter p ls else filter p ls)
kept_by p l ls false is first rest = rest
kept_by p l ls true is first rest = ((λ x there. first x (kept_inside p ls x there).0), rest)

descends_kept : (p : Landing → Bool) (ls : List Landing) → Descends ls → Descends (filter p ls)
descends_kept p [] h = tt
descends_kept p (l ∷ ls) h = kept_by p l ls (p l) refl h.0 (descends_kept p ls h.1)

order_by : (l : Landing) (ls : List Landing) (i j : ℕ) (x y : Landing) (a b : Bool) → (i == length ls) ≡ a → (j == length ls) ≡ b → ((z : Landing) → Contains ls z → z.step < l.step)
    → elim a as (λ z. Option Landing) [ true ↦ Some l | false ↦ numbered_landing ls i ] ≡ Some x
    → elim b as (λ z. Option Landing) [ true ↦ Some l | false ↦ numbered_landing ls j ] ≡ Some y → i < j
    → (numbered_landing ls i ≡ Some x → numbered_landing ls j ≡ Some y → x.step < y.step) → x.step < y.step
order_by l ls i j x y true true p q first at there lt rest = absurd (omega (arith, eqb-true i (length ls) p, eqb-true j (length ls) q, lt))
order_by l ls i j x y false true p q first at there lt rest =
    subst (λ (z : Landing). x.step < z.step) (some_value l y there) (first x (numbered_inside ls i x at))
order_by l ls i j x y true false p q first at there lt rest =
    let less : j < length ls = number_below ls j y there in
    absurd (omega (arith, eqb-true i (length ls) p, less, lt))
order_by l ls i j x y false false p q first at there lt rest = rest at there

numbers_order : (ls : List Landing) (i j : ℕ) (x y : Landing) → Descends ls → numbered_landing ls i ≡ Some x → numbered_landing ls j ≡ Some y → i < j → x.step < y.step
numbers_order [] i j x y h at there lt = absurd (none_some x at)
numbers_order (l ∷ ls) i j x y h at there lt =
    order_by l ls i j x y (i == length ls) (j == length ls) refl refl h.0 at there lt (λ p q. numbers_order ls i j x y h.1 p q lt)

above_first : (p : Program) (h : Header) (xs : List Happening) → LawfulRun p h xs → (l : Landing) → Contains (world_at p h xs).landings l → 0 < l.step
above_first p h xs run l there = let k = landings_are_written p h xs run l there in let a = k.wrote.after.0 in omega (arith, a)

history_descends : (p : Program) (h : Header) (xs : List Happening) → LawfulRun p h xs → (path : List ℕ) (offset : ℕ) → Descends (history_of (world_at p h xs) path offset)
history_descends p h xs run path offset =
    let w : World = world_at p h xs in
    let test : Landing → Bool = λ l. same_place l.path l.offset path offset in
    descends_then (landed_at w path offset) (first_landing w path offset) (descends_kept test w.landings (descends_of w.landings (come_in_order p h xs run)))
    (λ x there. above_first p h xs run x (kept_inside test w.landings x there).0)

-- Of a place's landings those with lesser numbers came first.
pub places_order : (p : Program) (h : Header) (xs : List Happening) → LawfulRun p h xs → (path : List ℕ) (offset i j : ℕ) (x y : Landing)
    → numbered_landing (history_of (world_at p h xs) path offset) i ≡ Some x → numbered_landing (history_of (world_at p h xs) path offset) j ≡ Some y → i < j → x.step < y.step
places_order p h xs run path offset i j x y at there lt = numbers_order (history_of (world_at p h xs) path offset) i j x y (history_descends p h xs run path offset) at there lt

-- ---- a set

-- A write of a value there, as it was sent.
pub record SetSent (w : World) (at : Spot) (y : Sent) (u : ValueRec) : Type 0 where
  pub sent : Contains (all_sent w) y
  pub says : record_of y.course.call.op ≡ Some (ValueIs u)
  pub path : y.course.call.path ≡ at.path
  pub offset : y.course.call.offset ≡ value_offset w.layout at.base

pub set_sent : (w : World) (at : Spot) (d : Course) (u : ValueRec) → (s : IsSet w at d u) → SetSent w at (record { machine = s.machine.0; course = d }) u
set_sent w at d u s =
    let place = place_is d.call.path d.call.offset at.path (value_offset w.layout at.base) s.place in
    record { sent = there_sent w s.machine.0 s.machine.1 d s.machine.2 s.machine.3; says = s.value; path = place.0; offset = place.1 }

-- What it left.
pub record SetLanded (w : World) (at : Spot) (y : Sent) (l : Landing) : Type 0 where
  pub there : Contains w.landings l
  pub writer : l.writer ≡ Some (name_of y)
  pub path : l.path ≡ at.path
  pub offset : l.offset ≡ value_offset w.layout at.base
  pub after : step_of y < l.step
  pub before : (s : Stamp) → y.course.answered ≡ Some s → l.step < s.step

pub landed_by : (p : Program) (h : Header) (xs : List Happening) → LawfulRun p h xs → (at : Spot) (y : Sent) (u : ValueRec) → SetSent (world_at p h xs) at y u → (l : Landing)
    → Contains (world_at p h xs).landings l → l.writer ≡ Some (name_of y) → SetLanded (world_at p h xs) at y l
landed_by p h xs run at y u s l there writer =
    let w : World = world_at p h xs in
    let k : HasWriter w l = landings_are_written p h xs run l there in
    let z : Sent = record { machine = k.machine; course = k.wrote.course } in
    let same = some_value (name_of z) (name_of y) (ap (λ n. Some (k.machine, n)) k.wrote.number ∙ sym k.named ∙ writer) in
    let one : z ≡ y =
    one_sent p h xs run z y (there_sent w k.machine k.wrote.machine k.wrote.course k.wrote.at k.wrote.has) s.sent (ap (λ (n : Name). n.0) same) (ap (λ (n : Name). n.1) same) in
    let course : k.wrote.course ≡ y.course = ap (λ (x : Sent). x.course) one in
    record {
      there = there;
      writer = writer;
      path = sym k.wrote.place.0 ∙ ap (λ (x : Course). x.call.path) course ∙ s.path;
      offset = sym k.wrote.place.1 ∙ ap (λ (x : Course). x.call.offset) course ∙ s.offset;
      after = subst (λ (x : Course). x.made.step < l.step) course k.wrote.after.0;
      before = λ t told. (k.wrote.before t (ap (λ (x : Course). x.answered) course ∙ told)).0;
    }

-- One that was answered ok has landed.
pub done_landed : (p : Program) (h : Header) (xs : List Happening) → LawfulRun p h xs → (at : Spot) (d : Course) (u : ValueRec) → (s : IsSet (world_at p h xs) at d u) → d.done ≡ true
    → (l : Landing) × SetLanded (world_at p h xs) at (record { machine = s.machine.0; course = d }) l
done_landed p h xs run at d u s done =
    let q = s.machine in
    let landed = done_writes_have_landed p h xs run q.0 q.1 d q.2 q.3 done (write_is d.call.op (ValueIs u) s.value) in
    let l = landed_are_there p h xs run q.0 q.1 d q.2 q.3 landed in
    (l.0, landed_by p h xs run at (record { machine = q.0; course = d }) u (set_sent (world_at p h xs) at d u s) l.0 l.1 l.2)

-- Its number among the landings of the place.
pub number_of : (w : World) (at : Spot) (y : Sent) (l : Landing) → SetLanded w at y l → (n : ℕ) × (numbered_landing (history_of w at.path (value_offset w.layout at.base)) n ≡ Some l)
number_of w at y l s =
    let path : List ℕ = at.path in
    let offset : ℕ = value_offset w.layout at.base in
    has_number (history_of w path offset) l
    (contains_left (landed_at w path offset) (first_landing w path offset ∷ []) l
    (kept (λ (x : Landing). same_place x.path x.offset path offset) w.landings l (is_place l.path l.offset path offset s.path s.offset) s.there))
