-- A reader is given the last value that was set: what it sampled is the newest landing there, each set that was answered ok before its
-- answer had landed before its sample, and values land in the order in which they were made.
use Rattle.sl_area.specs.AreaSizes.{record_in}
use Rattle.sl_area.specs.AreaLayout.{value_offset}
use Rattle.sl_id_safety.proofs.State.CallLaws.{is_place}
use Rattle.sl_id_safety.proofs.State.SessionFacts.{grounds}
use Rattle.sl_id_safety.proofs.State.JoiningSteps.{IsSampled, is_sampled}
use Rattle.sl_run_law.proofs.Landing.LandingLaws.{landings_are_written}
use Rattle.sl_run_law.specs.Landing.Landings.{HasWriter, LeftBy}
use Rattle.sl_run_law.proofs.Place.FoundInLists.{numbered_inside, place_is}
use Rattle.sl_run_law.proofs.Place.PlaceLaws.{promised}
use Rattle.sl_run_law.proofs.Place.TracesOnMachines.{reads_back}
use Rattle.sl_run_law.proofs.Place.Seats.{sized_in}
use Rattle.sl_run_law.proofs.Place.Sizes.{sector_fits}
use Rattle.sl_safety.proofs.Resources.Calls.{Name, name_of, one_sent}
use Rattle.sl_safety.proofs.GivenReads.ShownAtPlace.{in_history}
use Rattle.sl_safety.specs.Resources.SentCalls.{Sent, step_of}
use Rattle.sl_run.specs.Runs.{Happening}
use Rattle.sl_run.specs.Safety.{Found, LawfulRun, SessionId, world_at}
use Rattle.sl_run.specs.Values.{IsSet, IsSetBefore, MayRead, ValueTheorem}
use Rattle.sl_run.specs.Worlds.{Course, Landed, Landing, Program, Stamp, World, history_of}
use Rattle.sl_run.specs.declared.header.Header.{Header}
use Rattle.sl_run_law.specs.Sample.Samples.{IsSampleOf, numbered_landing, sector_place}
use Rattle.sl_sector.specs.SectorLayouts.{value_in}
use Rattle.sl_sector.specs.declared.sector.Bad.{Bad}
use Rattle.sl_sector.specs.declared.sector.Rec.TheVariants.{BlockIs, DeltaIs, LeaderIs, PairIs, PairLeaderIs, RequestIs, ValueIs}
use Rattle.sl_sector.specs.declared.sector.Rec.{Rec}
use Rattle.sl_sector.specs.declared.sector.ValueRec.{ValueRec}
use Rattle.sl_trace.specs.declared.effects.Spot.{Spot}
use Rattle.sl_safety.proofs.Value.WritesAreBarred.{none_between, write_there}
use Rattle.sl_safety.proofs.Value.ReaderFronts.{reader_there}
use Rattle.sl_safety.proofs.Value.ValuesLand.{SetLanded, SetSent, done_landed, landed_by, number_of, places_order, set_sent}
use Rattle.sl_safety.proofs.Value.ValueOrder.{in_flight, lands_in_order}
use Rattle.sl_safety.proofs.Value.ReaderCalls.{Reader, given_to}
use Rattle.sl_safety.specs.Value.ValueWrites.{HoldersKeepValues, OneWritesValue}
use Rattle.sl_words.proofs.CaseLaws.{none_some, one_value, some_value, true_is_false}
use Rattle.std.proofs.Common.{ap, arith, inl, inr, refl, subst, sym, ◌∙◌}
use Rattle.std.proofs.lemmas.Bool.{cases_lt}
use Rattle.std.specs.Prelude.{Err, IsSomeAnd, List, None, Ok, Option, Result, Some, is_ok, true, ℕ, ◌*◌, ◌+◌, ◌<◌, ◌≡◌, ◌≤◌, ◌⊎◌}

-- ---- the sample

-- What the reader sampled: the landing, its number at the value's place, and when.
record Sample (p : Program) (h : Header) (xs : List Happening) (at : Spot) (c : Course) : Type 0 where
  landing : Landing
  index : ℕ
  step : ℕ
  seen : numbered_landing (history_of (world_at p h xs) at.path (value_offset (world_at p h xs).layout at.base)) index ≡ Some landing
  shown : c.sampled ≡ landing.bytes
  next : (n : ℕ) (l : Landing) → numbered_landing (history_of (world_at p h xs) at.path (value_offset (world_at p h xs).layout at.base)) n ≡ Some l → index < n → step < l.step
  newest : landing.step < step
  after : c.made.step < step
  before : (t : Stamp) → c.answered ≡ Some t → step < t.step

first_place : (o s : ℕ) → o + 0 * s ≡ o
first_place o s = omega arith

sample_of : (p : Program) (h : Header) (xs : List Happening) (at : Spot) (i : SessionId) (f : Found) (c : Course) (v : ValueRec) (stamp : Stamp) (R : Reader p h xs at i f c v stamp)
    → c.call.path ≡ at.path → c.call.offset ≡ value_offset (world_at p h xs).layout at.base → Sample p h xs at c
sample_of p h xs at i f c v stamp R path offset =
    let w : World = world_at p h xs in
    let s : IsSampled w c = is_sampled grounds p h xs R.own.run i.machine f.machine c R.own.known.there.at R.own.there R.done R.read in
    let k : IsSampleOf w c 0 s.sample = s.shows in
    let place : sector_place w c 0 ≡ value_offset w.layout at.base = first_place c.call.offset w.layout.sector ∙ offset in
    let same : (n : ℕ) → numbered_landing (history_of w c.call.path (sector_place w c 0)) n ≡ numbered_landing (history_of w at.path (value_offset w.layout at.base)) n =
    λ n. ap (λ y. numbered_landing (history_of w y (sector_place w c 0)) n) path ∙ ap (λ y. numbered_landing (history_of w at.path y) n) place in
    record {
      landing = k.landing;
      index = s.sample.index;
      step = s.sample.step;
      seen = sym (same s.sample.index) ∙ k.seen;
      shown = sym s.sector ∙ k.bytes;
      next = λ n l is lt. (k.before_next n l (same n ∙ is) lt).0;
      newest = k.newest.0;
      after = k.after.0;
      before = λ t told. (k.before t told).0;
    }

-- ---- sets of before

record DoneAt (d : Course) (step : ℕ) : Type 0 where
  stamp : Stamp
  told : d.answered ≡ Some stamp
  early : stamp.step < step

done_at_by : (d : Course) (step : ℕ) (o : Option Stamp) → d.answered ≡ o → IsSomeAnd o (λ a. a.step < step) → DoneAt d step
done_at_by d step None is h = absurd h
done_at_by d step (Some s) is h = record { stamp = s; told = is; early = h }

less_than : (c s l w : ℕ) → c < s → s ≤ l → w ≡ l → c < w
less_than c s l w h k e = omega (arith, h, k, e)

ends_before : (w l a t : ℕ) → w ≡ l → l < a → a < t → w < t
ends_before w l a t e h k = omega (arith, e, h, k)

-- Each has landed before the sample.
landed_early : HoldersKeepValues → (p : Program) (h : Header) (xs : List Happening) (at : Spot) (i : SessionId) (f : Found) (c : Course) (v : ValueRec) (stamp : Stamp)
    → (R : Reader p h xs at i f c v stamp) → c.call.path ≡ at.path → c.call.offset ≡ value_offset (world_at p h xs).layout at.base → (s : Sample p h xs at c)
    → (y : Sent) (u : ValueRec) → SetSent (world_at p h xs) at y u → (l : Landing) → SetLanded (world_at p h xs) at y l → DoneAt y.course stamp.step → l.step < s.step
landed_early keep p h xs at i f c v stamp R path offset s y u sent l landed done =
    elim (cases_lt l.step s.step) as (λ z. l.step < s.step) [
      | inl early ↦ early
      | inr late ↦
          let a = in_flight p h xs R.own.run at y u sent l landed in
          let w : World = world_at p h a.before in
          let t = reader_there p h xs a.before a.rest at i f c v stamp R a.whole (less_than c.made.step s.step l.step w.step s.after late a.step)
          (ends_before w.step l.step done.stamp.step stamp.step a.step (landed.before done.stamp done.told) done.early) in
          let x = write_there p h xs a.before a.run at y u sent.says sent.path sent.offset a.was a.opens in
          absurd (none_between keep p h xs a.before at i f c v stamp R t path offset x.session x.found a.was.course x.writes)
    ]

not_after : (s l : ℕ) → l < s → s < l → ⊥
not_after s l h k = omega (arith, h, k)

same_number_is : (a b : ℕ) → a ≤ b → b ≤ a → a ≡ b
same_number_is a b h k = omega (arith, h, k)

-- So it is the landing that was sampled, or came before it.
landed_by_then : (p : Program) (h : Header) (xs : List Happening) → LawfulRun p h xs → (at : Spot) (c : Course) (s : Sample p h xs at c) (y : Sent) (l : Landing)
    → SetLanded (world_at p h xs) at y l → l.step < s.step → (l ≡ s.landing) ⊎ (l.step < s.landing.step)
landed_by_then p h xs run at c s y l landed early =
    let w : World = world_at p h xs in
    let offset : ℕ = value_offset w.layout at.base in
    let n = number_of w at y l landed in
    elim (cases_lt s.index n.0) as (λ z. (l ≡ s.landing) ⊎ (l.step < s.landing.step)) [
      | inl missed ↦ absurd (not_after s.step l.step early (s.next n.0 l n.1 missed))
      | inr seen ↦ elim (cases_lt n.0 s.index) as (λ z. (l ≡ s.landing) ⊎ (l.step < s.landing.step)) [
        | inl older ↦ inr (places_order p h xs run at.path offset n.0 s.index l s.landing n.1 s.seen older)
        | inr newer ↦
            inl (one_value l s.landing (numbered_landing (history_of w at.path offset) s.index)
            (subst (λ k. numbered_landing (history_of w at.path offset) k ≡ Some l) (same_number_is n.0 s.index seen newer) n.1) s.seen)
      ]
    ]

-- ---- what is read

value_is : (r : Result Rec Bad) (v : ValueRec) → value_in r ≡ Some v → r ≡ Ok (ValueIs v)
value_is (Ok (ValueIs u)) v h = ap (λ z. let y : Result Rec Bad = Ok (ValueIs z) in y) (some_value u v h)
value_is (Ok (DeltaIs d)) v h = absurd (none_some v h)
value_is (Ok (LeaderIs d)) v h = absurd (none_some v h)
value_is (Ok (BlockIs d)) v h = absurd (none_some v h)
value_is (Ok (PairIs d)) v h = absurd (none_some v h)
value_is (Ok (PairLeaderIs d)) v h = absurd (none_some v h)
value_is (Ok (RequestIs d)) v h = absurd (none_some v h)
value_is (Err e) v h = absurd (none_some v h)

abbrev with_host : ValueRec → ℕ → ValueRec
with_host v host = record v { host = host }

rec_is : (a v : ValueRec) → a.lver ≡ v.lver → a.seq ≡ v.seq → a.bytes ≡ v.bytes → a ≡ with_host v a.host
rec_is a v lver seq bytes =
    ap (λ n. let z : ValueRec = record a { lver = n } in z) lver ∙ ap (λ n. let z : ValueRec = record a { lver = v.lver; seq = n } in z) seq
    ∙ ap (λ y. let z : ValueRec = record v { host = a.host; bytes = y } in z) bytes

landed_fate : (w : World) (l : Landing) (c : Course) (r : Rec) → LeftBy w l c r → is_ok (record_in w.layout l.bytes) ≡ true → c.fate ≡ Landed
landed_fate w l c r (inl whole) ok = whole.1
landed_fate w l c r (inr torn) ok = absurd (true_is_false (sym ok ∙ torn.2))

no_step : (a l m : ℕ) → a < l → l < m → m ≡ 0 → ⊥
no_step a l m h k e = omega (arith, h, k, e)

no_first : (a l : ℕ) → a < l → l ≡ 0 → ⊥
no_first a l h e = omega (arith, h, e)

in_time : (a l s t k : ℕ) → a < l → l < s → s < t → t ≡ k → a < k
in_time a l s t k h g f e = omega (arith, h, g, f, e)

same_or : (a b : ℕ) → a ≡ b → a ≤ b
same_or a b e = omega (arith, e)

set_done : (p : Program) (h : Header) (xs : List Happening) (at : Spot) (d : Course) (u : ValueRec) (step stamp : ℕ) → stamp ≡ step → IsSetBefore d step → DoneAt d stamp
set_done p h xs at d u step stamp same b = done_at_by d stamp d.answered refl (subst (λ n. IsSomeAnd d.answered (λ a. a.step < n)) (sym same) b.1)

pub may_read : OneWritesValue → HoldersKeepValues → (p : Program) (h : Header) (xs : List Happening) (at : Spot) (i : SessionId) (f : Found) (c : Course) (v : ValueRec) (stamp : Stamp)
    → (R : Reader p h xs at i f c v stamp) → c.call.path ≡ at.path → c.call.offset ≡ value_offset (world_at p h xs).layout at.base → (step : ℕ) → stamp.step ≡ step
    → MayRead (world_at p h xs) at step R.value
may_read one keep p h xs at i f c v stamp R path offset step when =
    let w : World = world_at p h xs in
    let run = R.own.run in
    let place : ℕ = value_offset w.layout at.base in
    let s = sample_of p h xs at i f c v stamp R path offset in
    let m : Landing = s.landing in
    let told : value_in (record_in w.layout m.bytes) ≡ Some R.value = ap (λ y. value_in (record_in w.layout y)) (sym s.shown) ∙ R.told in
    let its = in_history w at.path place m (numbered_inside (history_of w at.path place) s.index m s.seen) in
    let sooner : (d : Course) (u : ValueRec) → (x : IsSet w at d u) → IsSetBefore d step
    → (l : Landing) × SetLanded w at (record { machine = x.machine.0; course = d }) l × ((l ≡ m) ⊎ (l.step < m.step)) =
    λ d u x b.
    let y : Sent = record { machine = x.machine.0; course = d } in
    let l = done_landed p h xs run at d u x b.0 in
    let early = landed_early keep p h xs at i f c v stamp R path offset s y u (set_sent w at d u x) l.0 l.1 (set_done p h xs at d u step stamp.step when b) in
    (l.0, l.1, landed_by_then p h xs run at c s y l.0 l.1 early) in
    elim its.2 as (λ z. MayRead w at step R.value) [
      | inr first ↦
          inr (
            ap (λ (l : Landing). value_in (record_in w.layout l.bytes)) (sym first) ∙ told,
            λ d u x b.
                let l = sooner d u x b in
                let zero : m.step ≡ 0 = ap (λ (y : Landing). y.step) first in
                elim l.2 as (λ z. ⊥) [
                  | inl same ↦ no_first d.made.step l.0.step l.1.after (ap (λ (y : Landing). y.step) same ∙ zero)
                  | inr lt ↦ no_step d.made.step l.0.step m.step l.1.after lt zero
                ],
          )
      | inl landed ↦
          let k : HasWriter w m = landings_are_written p h xs run m landed in
          let e : Course = k.wrote.course in
          let x : Sent = record { machine = k.machine; course = e } in
          let read = value_is (record_in w.layout m.bytes) R.value told in
          let back = reads_back promised p h xs run (sector_fits w.layout (sized_in p h xs run)) m k.machine k.call k.wrote (ValueIs R.value) read in
          let set : IsSet w at e R.value =
          record {
            machine = (k.machine, k.wrote.machine, k.wrote.at, k.wrote.has);
            value = k.wrote.writes ∙ ap (λ (r : Rec). Some r) back;
            place = is_place e.call.path e.call.offset at.path place (k.wrote.place.0 ∙ its.0) (k.wrote.place.1 ∙ its.1);
          } in
          let sent : SetSent w at x R.value = set_sent w at e R.value set in
          let writer : m.writer ≡ Some (name_of x) = k.named ∙ ap (λ n. Some (k.machine, n)) (sym k.wrote.number) in
          let left : SetLanded w at x m = landed_by p h xs run at x R.value sent m landed writer in
          let fate : e.fate ≡ Landed = landed_fate w m e k.wrote.record_written k.wrote.left (ap (λ (r : Result Rec Bad). is_ok r) read) in
          inl (
            e,
            set,
            in_time e.made.step m.step s.step stamp.step step left.after s.newest (s.before stamp R.answered) when,
            λ d u z b.
                let y : Sent = record { machine = z.machine.0; course = d } in
                let l = sooner d u z b in
                elim l.2 as (λ q. d.made.step ≤ e.made.step) [
                  | inl same ↦
                      let names : name_of y ≡ name_of x = some_value (name_of y) (name_of x) (sym l.1.writer ∙ ap (λ (q : Landing). q.writer) same ∙ writer) in
                      let both : y ≡ x = one_sent p h xs run y x (set_sent w at d u z).sent sent.sent (ap (λ (n : Name). n.0) names) (ap (λ (n : Name). n.1) names) in
                      same_or d.made.step e.made.step (ap (λ (q : Sent). step_of q) both)
                  | inr lt ↦ elim (cases_lt e.made.step d.made.step) as (λ q. d.made.step ≤ e.made.step) [
                    | inl turned ↦ absurd (lands_in_order one p h xs run at y x u R.value (set_sent w at d u z) sent l.0 m l.1 left fate lt turned)
                    | inr le ↦ le
                  ]
                ],
          )
    ]

-- The theorem, given the two laws.
pub values_are_last_given : OneWritesValue → HoldersKeepValues → ValueTheorem
values_are_last_given one keep p h xs run at c step v g =
    let w : World = world_at p h xs in
    let t = given_to p h xs run at c step v g in
    let R = t.reader in
    let place = place_is c.call.path c.call.offset at.path (value_offset w.layout at.base) g.place in
    let r = may_read one keep p h xs at t.session t.found c v t.stamp R place.0 place.1 step t.when in
    (R.value.host, subst (λ z. MayRead w at step z) (rec_is R.value v R.same.0 R.same.1 R.same.2) r)
