-- What a call makes of the leases of its session, as code comes to it.
use Rattle.sl_area.specs.AreaSizes.{Layout}
use Rattle.sl_host_state.specs.KeptState.{LeaseState}
use Rattle.sl_area.specs.AreaLayout.{in_area}
use Rattle.sl_host_state.specs.MadeEffects.{is_lease_on, lease_calling, leases_working, new_lease, value_calling}
use Rattle.sl_host_state.specs.HostStands.{pair_of}
use Rattle.sl_host_state.specs.declared.kept_parts.ValuePair.{ValuePair}
use Rattle.sl_lease.proofs.SameLaws.{hosts_keep_the_same}
use Rattle.sl_lease.specs.Changes.{after_reading, after_value}
use Rattle.sl_lease.specs.Laws.{at_step}
use Rattle.sl_trace.specs.Leases.{is_on, is_spot_before, lease_step, spot_of_call, value_written}
use Rattle.sl_member.proofs.LeasesByPlace.{called_stays, none_changed}
use Rattle.sl_member.proofs.SpotOrder.{same_itself}
use Rattle.sl_member.specs.Leases.{AreByPlace, LeasesState, changed_at, lease_called, leases_after, value_set, with_lease}
use Rattle.sl_sector.specs.declared.sector.Rec.TheVariants.{BlockIs, DeltaIs, LeaderIs, PairIs, PairLeaderIs, RequestIs, ValueIs}
use Rattle.sl_trace.specs.Traces.{Submitted}
use Rattle.sl_trace.specs.declared.effects.Call.{Call}
use Rattle.sl_trace.specs.declared.effects.LeaseStep.{LeaseStep}
use Rattle.sl_trace.specs.declared.effects.Op.TheVariants.{ReadSectors, WriteRecord}
use Rattle.sl_trace.specs.declared.effects.Op.{Op}
use Rattle.sl_trace.specs.declared.effects.Purpose.TheVariants.{Lease}
use Rattle.sl_trace.specs.declared.effects.Purpose.{Purpose}
use Rattle.sl_trace.specs.declared.effects.Spot.{Spot}
use Rattle.sl_trace.specs.declared.effects.Work.{Work}
use Rattle.sl_words.proofs.CaseLaws.{none_some, some_value, true_is_false}
use Rattle.sl_words.specs.Orders.{put_in}
use Rattle.std.proofs.Common.{ap, arith, max, refl, sym, ◌∙◌}
use Rattle.std.specs.List.{AllByRecursion, list_any}
use Rattle.std.specs.Option.{option_or}
use Rattle.std.specs.Prelude.{Bool, List, None, Some, bytes_eq, cond, false, if◌then◌else◌, is_some, map, not, option_map, true, [], ℕ, ◌-◌, ◌∷◌, ◌≡◌, ◌&&◌, ◌||◌}

-- A call of a lease has that purpose.
purpose_is : (p : Purpose) (work : Work) (step : LeaseStep) → lease_step p ≡ Some (work, step) → p ≡ Lease work step
purpose_is (Lease w s) work step h = let same = some_value (w, s) (work, step) h in ap (λ (q : Work × LeaseStep). Lease q.0 q.1) same
purpose_is p work step h = absurd (none_some (work, step) h)

none_freed : (n : ℕ) → max 0 n ≡ n
none_freed n = omega arith

-- A call that neither reads nor writes block or leader counts as a read.
unchanged : (m : Submitted) (work : Work) (step : LeaseStep) (l : LeaseState)
    → (let x : LeaseState = after_reading m.call.number work step l in record x { freed = max 0 l.freed }) ≡ after_reading m.call.number work step l
unchanged m work step l = ap (λ f. let x : LeaseState = after_reading m.call.number work step l in record x { freed = f }) (none_freed l.freed)

as_read : (m : Submitted) (work : Work) (step : LeaseStep) (op : Op) (l : LeaseState) → lease_calling (at_step m work step op) l ≡ lease_called m.call.number work step op l
as_read m work step (ReadSectors n) l = hosts_keep_the_same.reads m work step n l
as_read m work step (WriteRecord (BlockIs b)) l = hosts_keep_the_same.writes_block m work step b l
as_read m work step (WriteRecord (LeaderIs d)) l = hosts_keep_the_same.writes_leader m work step d l
as_read m work step (WriteRecord (PairIs p)) l = hosts_keep_the_same.writes_pair m work step p l
as_read m work step (WriteRecord (PairLeaderIs d)) l = hosts_keep_the_same.writes_pair_leader m work step d l
as_read m work step (WriteRecord (DeltaIs d)) l = unchanged m work step l
as_read m work step (WriteRecord (RequestIs d)) l = unchanged m work step l
as_read m work step (WriteRecord (ValueIs d)) l = unchanged m work step l

-- What it makes of its lease.
pub called_is : (m : Submitted) (work : Work) (step : LeaseStep) (l : LeaseState) → lease_step m.call.purpose ≡ Some (work, step)
    → lease_calling m l ≡ lease_called m.call.number work step m.call.op l
called_is m work step l is =
    let c : Call = m.call in
    let P : Purpose → Submitted = λ p. record m { call = record c { purpose = p } } in
    ap (λ p. lease_calling (P p) l) (purpose_is c.purpose work step is) ∙ as_read m work step c.op l

changed_same : (at : Spot) (f g : LeaseState → LeaseState) → ((l : LeaseState) → f l ≡ g l) → (ls : List LeaseState) → changed_at at f ls ≡ changed_at at g ls
changed_same at f g same [] = refl
changed_same at f g same (l ∷ ls) = ap (λ x. cond (is_lease_on at l) x l ∷ changed_at at f ls) (same l) ∙ ap (λ zs. cond (is_lease_on at l) (g l) l ∷ zs) (changed_same at f g same ls)

all_off : (at : Spot) (ls : List LeaseState) → list_any (is_lease_on at) ls ≡ false → AllByRecursion (λ l. is_lease_on at l ≡ false) ls
all_off at [] none = tt
all_off at (l ∷ ls) none = by (is_lease_on at l) refl none (λ h. all_off at ls h) where
  by : (b : Bool) → is_lease_on at l ≡ b → (b || list_any (is_lease_on at) ls) ≡ false → (list_any (is_lease_on at) ls ≡ false → AllByRecursion (λ l. is_lease_on at l ≡ false) ls)
      → (is_lease_on at l ≡ false) × AllByRecursion (λ l. is_lease_on at l ≡ false) ls
  by true is h rest = absurd (true_is_false h)
  by false is h rest = (is, rest h)

-- One that has come in is the one that changes.
put_changed : (at : Spot) (f : LeaseState → LeaseState) (new : LeaseState) → new.spot ≡ at → (f new).spot ≡ new.spot → (ls : List LeaseState)
    → AllByRecursion (λ l. is_lease_on at l ≡ false) ls
    → changed_at at f (put_in (λ a b. is_spot_before a.spot b.spot) new ls) ≡ put_in (λ a b. is_spot_before a.spot b.spot) (f new) ls
put_changed at f new here stays [] off = ap (λ b. cond b (f new) new ∷ []) (ap (λ s. is_lease_on at (record new { spot = s })) here ∙ same_itself at)
put_changed at f new here stays (l ∷ ls) off =
    by (is_spot_before new.spot l.spot) refl (put_changed at f new here stays ls off.1)
  where
    on : is_lease_on at new ≡ true
    on = ap (λ s. is_lease_on at (record new { spot = s })) here ∙ same_itself at

    before : is_spot_before (f new).spot l.spot ≡ is_spot_before new.spot l.spot
    before = ap (λ s. is_spot_before s l.spot) stays

    by : (b : Bool) → is_spot_before new.spot l.spot ≡ b
        → changed_at at f (put_in (λ a b. is_spot_before a.spot b.spot) new ls) ≡ put_in (λ a b. is_spot_before a.spot b.spot) (f new) ls
        → changed_at at f (put_in (λ a b. is_spot_before a.spot b.spot) new (l ∷ ls)) ≡ put_in (λ a b. is_spot_before a.spot b.spot) (f new) (l ∷ ls)
    by true is rest =
        ap (λ t. changed_at at f (if t then new ∷ l ∷ ls else l ∷ put_in (λ a b. is_spot_before a.spot b.spot) new ls)) is
        ∙ ap (λ t. cond t (f new) new ∷ changed_at at f (l ∷ ls)) on ∙ ap (λ zs. f new ∷ zs) (none_changed at f (l ∷ ls) off)
        ∙ sym (ap (λ t. if t then f new ∷ l ∷ ls else l ∷ put_in (λ a b. is_spot_before a.spot b.spot) (f new) ls) (before ∙ is))
    by false is rest =
        ap (λ t. changed_at at f (if t then new ∷ l ∷ ls else l ∷ put_in (λ a b. is_spot_before a.spot b.spot) new ls)) is
        ∙ ap (λ t. cond t (f l) l ∷ changed_at at f (put_in (λ a b. is_spot_before a.spot b.spot) new ls)) off.0 ∙ ap (λ zs. l ∷ zs) rest
        ∙ sym (ap (λ t. if t then f new ∷ l ∷ ls else l ∷ put_in (λ a b. is_spot_before a.spot b.spot) (f new) ls) (before ∙ is))

worked : (at : Spot) (m : Submitted) (f : LeaseState → LeaseState) → ((l : LeaseState) → lease_calling m l ≡ f l) → ((l : LeaseState) → (f l).spot ≡ l.spot) → (ls : List LeaseState)
    → changed_at at f (with_lease at ls) ≡ leases_working at m ls
worked at m f same stays ls = by (list_any (is_lease_on at) ls) refl where
  before : LeaseState → LeaseState → Bool
  before a b = is_spot_before a.spot b.spot

  by : (b : Bool) → list_any (is_lease_on at) ls ≡ b
      → changed_at at f (cond b ls (put_in (λ a b. is_spot_before a.spot b.spot) (new_lease at) ls))
      ≡ cond b (map (λ l. cond (is_lease_on at l) (lease_calling m l) l) ls) (put_in (λ a b. is_spot_before a.spot b.spot) (lease_calling m (new_lease at)) ls)
  by true is = sym (changed_same at (lease_calling m) f same ls)
  by false is =
      put_changed at f (new_lease at) refl (stays (new_lease at)) ls (all_off at ls is)
      ∙ ap (λ l. put_in (λ a b. is_spot_before a.spot b.spot) l ls) (sym (same (new_lease at)))

-- A call that works on a lease: its lease comes in, if it is the first, and has the call.
pub lease_works : (g : Layout) (m : Submitted) (work : Work) (step : LeaseStep) (old mid new : LeasesState) (at : Spot) → lease_step m.call.purpose ≡ Some (work, step)
    → at ≡ spot_of_call g m → mid.leases ≡ with_lease at old.leases → mid.room ≡ cond (list_any (is_lease_on at) old.leases) old.room (old.room - 1)
    → new ≡ record mid { leases = changed_at at (lease_called m.call.number work step m.call.op) mid.leases } → new ≡ leases_after g m old
lease_works g m work step old mid new at is spot leases room so =
    so
    ∙ (ap (λ ls. P ls mid.room) (ap (changed_at at f) leases ∙ worked at m f (λ l. called_is m work step l is) (λ l. called_stays m.call.number work step m.call.op l) old.leases)
    ∙ (ap (λ r. P (leases_working at m old.leases) r) (room ∙ turned (list_any (is_lease_on at) old.leases)) ∙ ap (λ s. P (leases_working s m old.leases) (R s)) spot
    ∙ sym (ap (λ b. P (cond b (leases_working (spot_of_call g m) m old.leases) (map (value_calling g m) old.leases))
    (cond (b && not (list_any (is_lease_on (spot_of_call g m)) old.leases)) (old.room - 1) old.room)) (ap is_some is))))
  where
    f : LeaseState → LeaseState
    f l = lease_called m.call.number work step m.call.op l

    P : List LeaseState → ℕ → LeasesState
    P ls r = record { leases = ls; room = r }

    R : Spot → ℕ
    R s = cond (not (list_any (is_lease_on s) old.leases)) (old.room - 1) old.room

    turned : (b : Bool) → cond b old.room (old.room - 1) ≡ cond (not b) (old.room - 1) old.room
    turned true = refl
    turned false = refl

-- ---- values

pub value_stays : (g : Layout) (path : List ℕ) (offset : ℕ) (v : ValuePair) (l : LeaseState) → (value_set g path offset v l).spot ≡ l.spot
value_stays g path offset v l = by (bytes_eq path l.spot.path && in_area g l.spot.base offset) where
  by : (b : Bool) → (let k : LeaseState = cond b (after_value v l) l in k.spot) ≡ l.spot
  by true = refl
  by false = refl

mapped_after : (f : LeaseState → LeaseState) → ((l : LeaseState) → (f l).spot ≡ l.spot) → (l : LeaseState) (ls : List LeaseState)
    → AllByRecursion (λ k. is_spot_before l.spot k.spot ≡ true) ls → AllByRecursion (λ k. is_spot_before (f l).spot k.spot ≡ true) (map f ls)
mapped_after f stays l [] h = tt
mapped_after f stays l (k ∷ ks) h = (ap (λ s. is_spot_before s (f k).spot) (stays l) ∙ ap (λ s. is_spot_before l.spot s) (stays k) ∙ h.0, mapped_after f stays l ks h.1)

pub mapped_rises : (f : LeaseState → LeaseState) → ((l : LeaseState) → (f l).spot ≡ l.spot) → (ls : List LeaseState) → AreByPlace ls → AreByPlace (map f ls)
mapped_rises f stays [] h = tt
mapped_rises f stays (l ∷ ls) h = (mapped_after f stays l ls h.0, mapped_rises f stays ls h.1)

-- A value's write on another's account than a lease's.
value_by : (g : Layout) (m : Submitted) (v : ValuePair) (l : LeaseState) → option_map pair_of (value_written m) ≡ Some v → value_set g m.call.path m.call.offset v l ≡ value_calling g m l
value_by g m v l is =
    by (bytes_eq m.call.path l.spot.path && in_area g l.spot.base m.call.offset) where
      by : (b : Bool) → cond b (after_value v l) l ≡ cond b (record l { value = option_or (option_map pair_of (value_written m)) l.value }) l
      by true = sym (ap (λ o. record l { value = option_or o l.value }) is)
      by false = refl

map_same : (f h : LeaseState → LeaseState) → ((l : LeaseState) → f l ≡ h l) → (ls : List LeaseState) → map f ls ≡ map h ls
map_same f h same [] = refl
map_same f h same (l ∷ ls) = ap (λ x. x ∷ map f ls) (same l) ∙ ap (λ zs. h l ∷ zs) (map_same f h same ls)

map_none : (f : LeaseState → LeaseState) → ((l : LeaseState) → f l ≡ l) → (ls : List LeaseState) → map f ls ≡ ls
map_none f same [] = refl
map_none f same (l ∷ ls) = ap (λ x. x ∷ map f ls) (same l) ∙ ap (λ zs. l ∷ zs) (map_none f same ls)

none_by : (g : Layout) (m : Submitted) (l : LeaseState) → option_map pair_of (value_written m) ≡ None → value_calling g m l ≡ l
none_by g m l is = by (is_on g l.spot m.call) where
  by : (b : Bool) → cond b (record l { value = option_or (option_map pair_of (value_written m)) l.value }) l ≡ l
  by true = ap (λ o. record l { value = option_or o l.value }) is
  by false = refl

other_call : (g : Layout) (m : Submitted) (v : LeasesState) → lease_step m.call.purpose ≡ None → record { leases = map (value_calling g m) v.leases; room = v.room } ≡ leases_after g m v
other_call g m v is =
    sym (ap (λ b. P (cond b (leases_working (spot_of_call g m) m v.leases) (map (value_calling g m) v.leases))
    (cond (b && not (list_any (is_lease_on (spot_of_call g m)) v.leases)) (v.room - 1) v.room)) (ap is_some is)) where
      P : List LeaseState → ℕ → LeasesState
      P ls r = record { leases = ls; room = r }

pub value_works : (g : Layout) (m : Submitted) (v : ValuePair) (old new : LeasesState) → lease_step m.call.purpose ≡ None → option_map pair_of (value_written m) ≡ Some v
    → new ≡ record old { leases = map (value_set g m.call.path m.call.offset v) old.leases } → new ≡ leases_after g m old
value_works g m v old new other is so =
    so ∙ (ap (λ ls. record old { leases = ls }) (map_same (value_set g m.call.path m.call.offset v) (value_calling g m) (λ l. value_by g m v l is) old.leases)
    ∙ other_call g m old other)

pub nothing_works : (g : Layout) (m : Submitted) (old : LeasesState) → lease_step m.call.purpose ≡ None → option_map pair_of (value_written m) ≡ None → old ≡ leases_after g m old
nothing_works g m old other is =
    sym (ap (λ ls. record old { leases = ls }) (map_none (value_calling g m) (λ l. none_by g m l is) old.leases)) ∙ other_call g m old other
