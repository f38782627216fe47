-- Blocks land in the order in which they were submitted, with pairs or without.
use Rattle.sl_run_law.proofs.Front.JoinedLists.{placed_at}
use Rattle.sl_run_law.proofs.Landing.LandingLaws.{writes_land_once}
use Rattle.sl_trace.specs.Leases.{is_on}
use Rattle.sl_words.proofs.Lists.{got_index}
use Rattle.sl_words.proofs.Numbers.{lt_then_le, trans_lt}
use Rattle.sl_safety.proofs.Resources.Calls.{IsWork, Name, found_of, name_of, one_sent, owner_found, there_sent}
use Rattle.sl_safety.proofs.Resources.StepsNameCalls.{text_same, write_works}
use Rattle.sl_safety.proofs.Resources.WorkersHaveJoined.{joined_then}
use Rattle.sl_safety.specs.Resources.Histories.{is_host}
use Rattle.sl_safety.specs.Resources.Orders.{BlocksLandInOrder, IsBlockPlace, LandedAt, LandsBefore}
use Rattle.sl_safety.specs.Resources.HistoryLaws.{spot_of_line}
use Rattle.sl_safety.specs.Resources.SentCalls.{Sent, all_sent, sender_of, step_of}
use Rattle.sl_run.specs.Runs.{Happening}
use Rattle.sl_run.specs.Safety.{LawfulRun, world_at}
use Rattle.sl_run.specs.Worlds.{Course, Landing, Program, Stamp, World}
use Rattle.sl_run.specs.declared.header.Header.{Header}
use Rattle.sl_run.specs.declared.header.ResourceLine.{ResourceLine}
use Rattle.sl_words.proofs.CaseLaws.{one_value, some_value}
use Rattle.std.proofs.Common.{ap, arith, inl, inr, refl, subst, sym, ◌∙◌}
use Rattle.std.proofs.lemmas.Bool.{and_from, cases_lt}
use Rattle.std.proofs.lemmas.Option.{slice_get_within}
use Rattle.std.specs.Prelude.{AllPairs, Bool, Contains, List, Some, false, slice_get, true, ℕ, ◌<◌, ◌≡◌, ◌≤◌}
use Rattle.sl_safety.proofs.Resources.CallsTakeTurns.{First, One, Second, Turns, turns_of}
use Rattle.sl_area.specs.AreaLayout.{block_offset, block_place, in_area, pair_offset}
use Rattle.sl_safety.proofs.Pairs.Places.{pair_within}
use Rattle.sl_run_law.proofs.Place.Seats.{sized_in}
use Rattle.sl_sector.specs.SectorLayouts.{is_first_turn}
use Rattle.sl_run_law.proofs.Place.PlaceLaws.{resources_hold_leases}
use Rattle.sl_run_law.specs.Place.Homes.{IsLeaseLanding}
use Rattle.sl_run_law.proofs.Place.Sizes.{IsSized}
use Rattle.sl_safety.proofs.GivenReads.ShownAtPlace.{place_within}
use Rattle.sl_area.specs.AreaSizes.{Sizes}

-- ---- places

-- A place of a host's block is in the area.
place_by : {sizes : Sizes} (w : World) (base k turn : ℕ) → IsSized sizes w.layout → is_host w k ≡ true → (b : Bool) → w.layout.paired ≡ b
    → in_area w.layout base (block_place w.layout base k turn) ≡ true
place_by w base k turn z host false plain =
    ap (λ v. in_area w.layout base (elim v as (λ x. ℕ) [ false ↦ block_offset w.layout base k | true ↦ pair_offset w.layout base k (is_first_turn turn) ])) plain
    ∙ place_within w base k z host
place_by w base k turn z host true paired =
    ap (λ v. in_area w.layout base (elim v as (λ x. ℕ) [ false ↦ block_offset w.layout base k | true ↦ pair_offset w.layout base k (is_first_turn turn) ])) paired
    ∙ pair_within w base k (is_first_turn turn) z paired host

pub block_place_within : {sizes : Sizes} (w : World) (base k offset : ℕ) → IsSized sizes w.layout → is_host w k ≡ true → IsBlockPlace w.layout base k offset
    → in_area w.layout base offset ≡ true
block_place_within w base k offset z host at =
    subst (λ o. in_area w.layout base o ≡ true) (sym at.1) (place_by w base k at.0 z host w.layout.paired refl)

-- ---- whose a landing is

-- A call that landed at a host's place: when, and that it is work on the resource.
pub record IsLanded (w : World) (r : ResourceLine) (x : Sent) (l : Landing) : Type 0 where
  pub work : IsWork w r x
  pub after : step_of x < l.step
  pub before : (s : Stamp) → x.course.answered ≡ Some s → l.step < s.step

pub is_landed_at : (p : Program) (h : Header) (xs : List Happening) → LawfulRun p h xs → (r : ResourceLine) → Contains h.resources r → (k : ℕ) → is_host (world_at p h xs) k ≡ true
    → (x : Sent) (l : Landing) → LandedAt (world_at p h xs) r k x l → IsLanded (world_at p h xs) r x l
is_landed_at p h xs run r there k host x l at =
    let w : World = world_at p h xs in
    let inside : in_area w.layout r.offset l.offset ≡ true = block_place_within w r.offset k l.offset (sized_in p h xs run) host at.place.1 in
    let d : IsLeaseLanding w r l = resources_hold_leases p h xs run r there l at.landed at.place.0 inside in
    let c : Course = d.written.wrote.course in
    let y : Sent = record { machine = d.written.machine; course = c } in
    let sent : Contains (all_sent w) y = there_sent w d.written.machine d.written.wrote.machine c d.written.wrote.at d.written.wrote.has in
    let same : name_of y ≡ name_of x = some_value (name_of y) (name_of x) (ap (λ n. Some (d.written.machine, n)) d.written.wrote.number ∙ sym d.written.named ∙ at.writer) in
    let on : is_on w.layout (spot_of_line r) c.call ≡ true =
    and_from _ _ (text_same c.call.path r.path (d.written.wrote.place.0 ∙ at.place.0))
    (subst (λ o. in_area w.layout r.offset o ≡ true) (sym d.written.wrote.place.1) inside) in
    subst (λ z. IsLanded w r z l) (one_sent p h xs run y x sent at.sent (ap (λ (n : Name). n.0) same) (ap (λ (n : Name). n.1) same))
    (record {
      work = write_works p h xs run r there y sent on d.written.wrote.record_written d.written.wrote.writes d.other;
      after = d.written.wrote.after.0;
      before = λ s answered. (d.written.wrote.before s answered).0;
    })

-- ---- in order

pairs_at : (ls : List Landing) (i j : ℕ) (l m : Landing) → AllPairs (λ a b. a.writer ≡ b.writer → ⊥) ls → slice_get ls i ≡ Some l → slice_get ls j ≡ Some m → l.writer ≡ m.writer → i < j → ⊥
pairs_at ls i j l m all at there same lt =
    all i j l lt (slice_get_within ls j m there)
    (ap (λ (y : Landing). y.writer) (got_index ls i l l at) ∙ same ∙ ap (λ (y : Landing). y.writer) (sym (got_index ls j m l there)))

-- Landings of one writer are one.
pub one_writer : (ls : List Landing) (l m : Landing) → AllPairs (λ a b. a.writer ≡ b.writer → ⊥) ls → Contains ls l → Contains ls m → l.writer ≡ m.writer → l ≡ m
one_writer ls l m all has too same =
    let i = placed_at ls l has in
    let j = placed_at ls m too in
    elim (cases_lt i.0 j.0) [
      | inl lt ↦ absurd (pairs_at ls i.0 j.0 l m all i.1 j.1 same lt)
      | inr ge ↦ elim (cases_lt j.0 i.0) [
        | inl gt ↦ absurd (pairs_at ls j.0 i.0 m l all j.1 i.1 (sym same) gt)
        | inr le ↦ one_value l m (slice_get ls j.0) (subst (λ n. slice_get ls n ≡ Some l) (omega (arith, ge, le)) i.1) j.1
      ]
    ]

turned : (l m x : ℕ) → l < m → m < x → x < l → ⊥
turned l m x p q s = omega (arith, p, q, s)

not_itself : (a b : ℕ) → a ≡ b → a < b → ⊥
not_itself a b e lt = omega (arith, e, lt)

never_back : (l m a x : ℕ) → l < m → m < a → a ≤ x → x < l → ⊥
never_back l m a x p q s t = omega (arith, p, q, s, t)

by_turns : (p : Program) (h : Header) (xs : List Happening) → LawfulRun p h xs → (r : ResourceLine) (k : ℕ) (x y : Sent) (l m : Landing) → LandedAt (world_at p h xs) r k x l
    → LandedAt (world_at p h xs) r k y m → IsLanded (world_at p h xs) r x l → IsLanded (world_at p h xs) r y m → l.step < m.step → Turns x y → step_of x < step_of y
by_turns p h xs run r k x y l m at too one two lt (One is) =
    let same : l.writer ≡ m.writer = at.writer ∙ ap (λ (z : Sent). Some (name_of z)) is ∙ sym too.writer in
    absurd (not_itself l.step m.step (ap (λ (z : Landing). z.step) (one_writer (world_at p h xs).landings l m (writes_land_once p h xs run) at.landed too.landed same)) lt)
by_turns p h xs run r k x y l m at too one two lt (First s told early) = lt_then_le (step_of x) s.step (step_of y) (trans_lt (step_of x) l.step s.step one.after (one.before s told)) early
by_turns p h xs run r k x y l m at too one two lt (Second s told early) = absurd (never_back l.step m.step s.step (step_of x) lt (two.before s told) early one.after)

-- A session's blocks land in order.
pub one_session : (p : Program) (h : Header) (xs : List Happening) (r : ResourceLine) → LawfulRun p h xs → Contains h.resources r → (k : ℕ)
    → is_host (world_at p h xs) k ≡ true → (x y : Sent) (l m : Landing) → LandedAt (world_at p h xs) r k x l → LandedAt (world_at p h xs) r k y m
    → sender_of x ≡ sender_of y → l.step < m.step → step_of x < step_of y
one_session p h xs r run there k host x y l m at too same lt =
    let one = is_landed_at p h xs run r there k host x l at in
    let two = is_landed_at p h xs run r there k host y m too in
    by_turns p h xs run r k x y l m at too one two lt (turns_of p h xs run r there x y at.sent too.sent one.work two.work same)

-- What a session leaves where another lands only before it joined comes before all that this one sends.
over_before : (p : Program) (h : Header) (xs : List Happening) → LawfulRun p h xs → (r : ResourceLine) (k : ℕ) (x y : Sent) (l : Landing) → LandedAt (world_at p h xs) r k x l
    → IsWork (world_at p h xs) r y → LandsBefore (world_at p h xs) r k (sender_of x) (sender_of y) → l.step < step_of y
over_before p h xs run r k x y l at work before =
    let w : World = world_at p h xs in
    let j = joined_then p h xs run r y work in
    lt_then_le l.step j.step (step_of y) (before x l at refl (found_of work.owned) j.step (owner_found w y work.owned) j.joined) j.early

pub in_order : BlocksLandInOrder
in_order p h xs r run there k host x y l m at too (inl same) lt = one_session p h xs r run there k host x y l m at too same lt
in_order p h xs r run there k host x y l m at too (inr (inl before)) lt =
    let one = is_landed_at p h xs run r there k host x l at in
    let two = is_landed_at p h xs run r there k host y m too in
    trans_lt (step_of x) l.step (step_of y) one.after (over_before p h xs run r k x y l at two.work before)
in_order p h xs r run there k host x y l m at too (inr (inr before)) lt =
    let one = is_landed_at p h xs run r there k host x l at in
    absurd (turned l.step m.step (step_of x) lt (over_before p h xs run r k y x m too one.work before) one.after)
