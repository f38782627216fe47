-- At most one write of a resource's value is in flight, and none beside another session's holding.
--
-- What stands behind a write in flight is an exclusive grant that is kept; of one resource's grants one is kept, and beside it nobody
-- else holds shared. A session's own writes take turns.
use Rattle.sl_area.specs.AreaSizes.{Layout}
use Rattle.sl_area.specs.AreaLayout.{value_offset}
use Rattle.sl_run_law.proofs.Course.CallsAreDistinct.{each_distinct}
use Rattle.sl_safety.specs.Grant.HistoryGrants.{ExclusiveGrantsAre, ExclusivesAreKept, SharedAreShared}
use Rattle.sl_safety.proofs.Holding.Places.{held_on, shared_there}
use Rattle.sl_ballot_law.proofs.Grantings.GrantsMeet.{none_shares_beside, one_is_kept}
use Rattle.sl_run_law.proofs.Landing.CallLists.{one_call}
use Rattle.sl_run.specs.LawfulArea.{is_area_work, is_block_work}
use Rattle.sl_trace.specs.Leases.{is_block_read, is_on}
use Rattle.sl_run_law.proofs.Place.Areas.{one_resource}
use Rattle.sl_run_law.proofs.Place.FoundInLists.{place_is}
use Rattle.sl_run_law.proofs.Place.Seats.{sized_in}
use Rattle.sl_run_law.proofs.Place.Sizes.{IsSized, sector_in_area}
use Rattle.sl_safety.proofs.Resources.Calls.{order}
use Rattle.sl_safety.proofs.Resources.StepsNameCalls.{write_is}
use Rattle.sl_safety.specs.Resources.HistoryLaws.{history_of_line, spot_of_line}
use Rattle.sl_run.specs.Headers.{IsHeader}
use Rattle.sl_run.specs.Runs.{Happening}
use Rattle.sl_run.specs.Safety.{Found, LawfulRun, SessionId, session_of_world, setting_in, trace_of, world_at}
use Rattle.sl_run.specs.Worlds.{Course, Program, World, is_open}
use Rattle.sl_run.specs.declared.header.Header.{Header}
use Rattle.sl_run.specs.declared.header.ResourceLine.{ResourceLine}
use Rattle.sl_safety.proofs.HoldingsOfResources.{HoldsAsShared, HoldsExclusive}
use Rattle.sl_safety.specs.Histories.{HistoriesAreLawful, HistoriesKeepInstances}
use Rattle.sl_sector.specs.declared.sector.Rec.TheVariants.{ValueIs}
use Rattle.sl_sector.specs.declared.sector.ValueRec.{ValueRec}
use Rattle.sl_safety.proofs.Sessions.NamesAreApart.{names_are_apart}
use Rattle.sl_trace.specs.Traces.{Submitted, is_shared, is_write, record_of, submitted}
use Rattle.sl_trace.specs.declared.effects.Call.{Call}
use Rattle.sl_trace.specs.declared.effects.Spot.{Spot}
use Rattle.sl_safety.proofs.Value.WritersHold.{area_of, value_held}
use Rattle.sl_safety.proofs.Value.WritersKeepGrants.{or_left, stands_behind}
use Rattle.sl_safety.proofs.Value.OwnCalls.{OwnCall, own_call, unanswered}
use Rattle.sl_safety.proofs.Value.WritersNotOver.{open_waits}
use Rattle.sl_safety.proofs.Value.CallsTakeTurns.{After, Before, OnArea, One, Turn, on_own, turns}
use Rattle.sl_safety.specs.Value.ValueWrites.{HoldersKeepValues, OneWritesValue, WritesValue}
use Rattle.sl_words.proofs.CaseLaws.{one_value, true_or_false}
use Rattle.std.proofs.Common.{ap, arith, inl, inr, subst, sym, ◌∙◌}
use Rattle.std.proofs.lemmas.Bool.{eq-eqb}
use Rattle.std.specs.Prelude.{Contains, List, None, Some, true, ℕ, ◌%◌, ◌+◌, ◌-◌, ◌≡◌, ◌≤◌}

-- What this rests on.
pub record Grounds : Type 0 where
  pub lawful : HistoriesAreLawful
  pub instances : HistoriesKeepInstances
  pub granted : ExclusiveGrantsAre
  pub exclusives : ExclusivesAreKept
  pub shared : SharedAreShared

-- ---- areas

abbrev pub spot_there : Layout → List ℕ → ℕ → Spot
spot_there g path offset = record { path = path; base = offset - offset % g.area }

-- The area of a call, as the world has it.
pub area_is : (p : Program) (h : Header) (xs : List Happening) (i : SessionId) (f : Found) (c : Course) (o : OwnCall p h xs i f c)
    → area_of o ≡ spot_there (world_at p h xs).layout c.call.path c.call.offset
area_is p h xs i f c o =
    ap (λ (y : Call). spot_there (setting_in f).layout y.path y.offset) o.is.call ∙ ap (λ (g : Layout). spot_there g c.call.path c.call.offset) o.known.of_world.layout

-- Calls of one place are of one area.
pub one_area : (p : Program) (h : Header) (xs : List Happening) (i k : SessionId) (f g : Found) (c d : Course) (o : OwnCall p h xs i f c) (q : OwnCall p h xs k g d)
    → c.call.path ≡ d.call.path → c.call.offset ≡ d.call.offset → area_of o ≡ area_of q
one_area p h xs i k f g c d o q paths offsets =
    let l : Layout = (world_at p h xs).layout in
    area_is p h xs i f c o ∙ ap (λ y. spot_there l y c.call.offset) paths ∙ ap (λ n. spot_there l d.call.path n) offsets ∙ sym (area_is p h xs k g d q)

same_by : (a b area sector : ℕ) → sector ≤ area → a + area - sector ≡ b + area - sector → a ≡ b
same_by a b area sector le same = omega (arith, le, same)

spots_are : (s t : Spot) → s.path ≡ t.path → s.base ≡ t.base → s ≡ t
spots_are s t paths bases = ap (λ y. let z : Spot = record { path = y; base = s.base } in z) paths ∙ ap (λ n. let z : Spot = record { path = t.path; base = n } in z) bases

-- ---- of one resource

one_holds : Grounds → (p : Program) (h : Header) (xs : List Happening) → LawfulRun p h xs → (r : ResourceLine) → Contains h.resources r → (i k : SessionId)
    → HoldsExclusive p h xs i r → HoldsExclusive p h xs k r → i ≡ k
one_holds b p h xs run r there i k x y =
    let one = one_is_kept (history_of_line p h xs r) (b.lawful p h xs r run there) (b.instances p h xs r run there) x.grant y.grant x.granted y.granted
    (world_at p h xs).step x.kept y.kept in
    names_are_apart p h xs r run there i k x.joined y.joined (sym x.holder ∙ one.0 ∙ y.holder)

none_holds_shared : Grounds → (p : Program) (h : Header) (xs : List Happening) → LawfulRun p h xs → (r : ResourceLine) → Contains h.resources r
    → (i k : SessionId) → HoldsExclusive p h xs i r → HoldsAsShared p h xs k r → i ≡ k
none_holds_shared b p h xs run r there i k x y =
    let one = none_shares_beside (history_of_line p h xs r) (b.lawful p h xs r run there) (b.instances p h xs r run there) x.grant x.granted y.grant
    (world_at p h xs).step x.kept y.shared in
    names_are_apart p h xs r run there i k x.joined y.joined (sym x.holder ∙ one ∙ y.holder)

lines_are : (h : Header) → IsHeader h → (r k : ResourceLine) → Contains h.resources r → Contains h.resources k → spot_of_line r ≡ spot_of_line k → r ≡ k
lines_are h header r k this that same = one_resource h r k header this that (ap (λ (s : Spot). s.path) same) (ap (λ (s : Spot). s.base) same)

-- Of whom a write in flight is holds the resource.
record Writes (p : Program) (h : Header) (xs : List Happening) (i : SessionId) (at : Spot) : Type 0 where
  resource : ResourceLine
  there : Contains h.resources resource
  spot : at ≡ spot_of_line resource
  holds : HoldsExclusive p h xs i resource

writes_of : Grounds → (p : Program) (h : Header) (xs : List Happening) (i : SessionId) (f : Found) (c : Course) (o : OwnCall p h xs i f c) (v : ValueRec)
    → record_of c.call.op ≡ Some (ValueIs v) → is_open f.machine c ≡ true → Writes p h xs i (area_of o)
writes_of b p h xs i f c o v writes flies =
    let s = stands_behind b.granted p h xs i f c o v writes flies in
    record {
      resource = s.there.place.resource;
      there = s.there.place.there;
      spot = s.spot;
      holds = record { grant = s.there.grant; holder = s.there.holder; joined = s.there.place.joined; granted = s.there.granted; kept = s.kept };
    }

-- ---- of one session

value_works : (q : Submitted) (v : ValueRec) → record_of q.call.op ≡ Some (ValueIs v) → is_block_work q ≡ true
value_works q v says = or_left (is_write q.call.op) (is_block_read q) (write_is q.call.op (ValueIs v) says)

by_turn : (p : Program) (h : Header) (xs : List Happening) (i : SessionId) (f : Found) (c d : Course) (o : OwnCall p h xs i f c) (q : OwnCall p h xs i f d) → c.answered ≡ None → d.answered ≡ None
    → Turn o.call q.call → c ≡ d
by_turn p h xs i f c d o q first second (One same) =
    one_call f.machine.calls c d (each_distinct p h xs o.run i.machine f.machine o.known.there.at) o.there q.there
    (eq-eqb c.call.number d.call.number
    (ap (λ (y : Call). y.number) (sym o.is.call) ∙ ap (λ (m : Submitted). m.call.number) same ∙ ap (λ (y : Call). y.number) q.is.call))
by_turn p h xs i f c d o q first second (Before told) = absurd (unanswered p h xs i f c o first told.answer told.answered)
by_turn p h xs i f c d o q first second (After told) = absurd (unanswered p h xs i f d q second told.answer told.answered)

one_flies : (p : Program) (h : Header) (xs : List Happening) (i : SessionId) (f : Found) (c d : Course) (o : OwnCall p h xs i f c) (q : OwnCall p h xs i f d) (u v : ValueRec)
    → record_of c.call.op ≡ Some (ValueIs u) → record_of d.call.op ≡ Some (ValueIs v) → is_open f.machine c ≡ true → is_open f.machine d ≡ true
    → c.call.path ≡ d.call.path → c.call.offset ≡ d.call.offset → c ≡ d
one_flies p h xs i f c d o q u v first second flies too paths offsets =
    let one : record_of o.call.call.op ≡ Some (ValueIs u) = ap (λ (y : Call). record_of y.op) o.is.call ∙ first in
    let two : record_of q.call.call.op ≡ Some (ValueIs v) = ap (λ (y : Call). record_of y.op) q.is.call ∙ second in
    let k : OnArea p h xs i f c o q.call =
    record {
      mine = q.mine ∙ sym o.mine;
      works = value_works q.call v two;
      work = ap (λ (y : Call). is_area_work y.purpose) q.is.call ∙ (value_held p h xs i f d q v second).work;
      on = subst (λ z. is_on (setting_in f).layout z q.call.call ≡ true) (sym (one_area p h xs i i f f c d o q paths offsets)) (on_own p h xs i f d q);
    } in
    by_turn p h xs i f c d o q (open_waits f c flies) (open_waits f d too)
    (turns p h xs i f c o (value_works o.call u one) (ap (λ (y : Call). is_area_work y.purpose) o.is.call ∙ (value_held p h xs i f c o u first).work) q.call k
    (order (submitted (trace_of f)) o.call q.call o.inside q.inside))

-- ---- the laws

own_of : (p : Program) (h : Header) (xs : List Happening) → LawfulRun p h xs → (i : SessionId) (f : Found) (at : Spot) (c : Course) → WritesValue (world_at p h xs) i f at c → OwnCall p h xs i f c
own_of p h xs run i f at c x = own_call p h xs run i f x.is c x.has x.own

placed_at : (w : World) (i : SessionId) (f : Found) (at : Spot) (c : Course) → WritesValue w i f at c → (c.call.path ≡ at.path) × (c.call.offset ≡ value_offset w.layout at.base)
placed_at w i f at c x = place_is c.call.path c.call.offset at.path (value_offset w.layout at.base) x.place

pub one_writes_given : Grounds → OneWritesValue
one_writes_given b p h xs run i k f g at c d x y =
    let w : World = world_at p h xs in
    let o = own_of p h xs run i f at c x in
    let q = own_of p h xs run k g at d y in
    let a = placed_at w i f at c x in
    let e = placed_at w k g at d y in
    let paths = a.0 ∙ sym e.0 in
    let offsets = a.1 ∙ sym e.1 in
    let first = writes_of b p h xs i f c o x.value x.writes x.flies in
    let second = writes_of b p h xs k g d q y.value y.writes y.flies in
    let line = lines_are h run.header first.resource second.resource first.there second.there (sym first.spot ∙ one_area p h xs i k f g c d o q paths offsets ∙ second.spot) in
    let session : i ≡ k =
    one_holds b p h xs run first.resource first.there i k first.holds (subst (λ r. HoldsExclusive p h xs k r) (sym line) second.holds) in
    let found : g ≡ f = one_value g f (session_of_world w i) (ap (session_of_world w) session ∙ y.is) x.is in
    let too : OwnCall p h xs i f d = subst (λ z. OwnCall p h xs i z d) found (subst (λ j. OwnCall p h xs j g d) (sym session) q) in
    (session, one_flies p h xs i f c d o too x.value y.value x.writes y.writes x.flies (subst (λ (z : Found). is_open z.machine d ≡ true) found y.flies) paths offsets)

-- The area of a call at the value's place is the one that is meant.
pub meant_by : (p : Program) (h : Header) (xs : List Happening) (i : SessionId) (f : Found) (at : Spot) (c : Course) (o : OwnCall p h xs i f c)
    → value_offset (setting_in f).layout (area_of o).base ≡ c.call.offset → c.call.path ≡ at.path → c.call.offset ≡ value_offset (world_at p h xs).layout at.base → area_of o ≡ at
meant_by p h xs i f at c o place paths offsets =
    let w : World = world_at p h xs in
    let z : IsSized h.geometry w.layout = sized_in p h xs o.run in
    let placed : value_offset w.layout (area_of o).base ≡ value_offset w.layout at.base =
    ap (λ (l : Layout). value_offset l (area_of o).base) (sym o.known.of_world.layout) ∙ place ∙ offsets in
    spots_are (area_of o) at (ap (λ (y : Call). y.path) o.is.call ∙ paths) (same_by (area_of o).base at.base w.layout.area w.layout.sector (sector_in_area w.layout z) placed)

meant : (p : Program) (h : Header) (xs : List Happening) (i : SessionId) (f : Found) (at : Spot) (c : Course) (o : OwnCall p h xs i f c) → WritesValue (world_at p h xs) i f at c → area_of o ≡ at
meant p h xs i f at c o x =
    let a = placed_at (world_at p h xs) i f at c x in
    meant_by p h xs i f at c o (value_held p h xs i f c o x.value x.writes).place a.0 a.1

pub holders_keep_given : Grounds → HoldersKeepValues
holders_keep_given b p h xs run i k f g at c held x its stands has =
    let o = own_of p h xs run i f at c x in
    let s = writes_of b p h xs i f c o x.value x.writes x.flies in
    let spot : at ≡ spot_of_line s.resource = sym (meant p h xs i f at c o x) ∙ s.spot in
    let on = held_on (trace_of g) g.session at held has in
    elim (true_or_false (is_shared held.mode)) [
      | inl shared ↦
          let t = b.shared p h xs run k g its stands at (shared_there (trace_of g) g.session at held on shared) in
          let line = lines_are h run.header s.resource t.place.resource s.there t.place.there (sym spot ∙ t.place.spot) in
          none_holds_shared b p h xs run s.resource s.there i k s.holds
          (subst (λ r. HoldsAsShared p h xs k r) (sym line) (record { grant = t.grant; holder = t.holder; joined = t.place.joined; shared = t.shared }))
      | inr exclusive ↦
          let t = b.exclusives p h xs run k g its stands at held has exclusive in
          let line = lines_are h run.header s.resource t.there.place.resource s.there t.there.place.there (sym spot ∙ sym on.spot ∙ t.there.place.spot) in
          one_holds b p h xs run s.resource s.there i k s.holds
          (subst (λ r. HoldsExclusive p h xs k r) (sym line)
          (record { grant = t.there.grant; holder = t.there.holder; joined = t.there.place.joined; granted = t.there.granted; kept = t.kept }))
    ]
