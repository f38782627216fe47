-- From a front on: what is kept later was kept at the front, or is of later.
use Rattle.sl_ids.proofs.Clocks.ClockLaws.{clocks_drift}
use Rattle.sl_ids.specs.Clocks.Points.{Precedes}
use Rattle.sl_run_law.proofs.Front.RunsFromFronts.{fronts_are_lawful, run_after, run_rest}
use Rattle.sl_run_law.proofs.Moment.AddedNow.{Between, adds_stamps}
use Rattle.sl_run_law.proofs.Moment.MomentsFollowSteps.{Follows, Keeps, OldOrNew, Was, follows, keeps, kept_before, now_is}
use Rattle.sl_run_law.proofs.Moment.GrowingLists.{IsNow}
use Rattle.sl_run_law.specs.Moment.FrontMoments.{FrontsGoOn, IsSince, MomentsFollowFronts, StampsDriftFromFronts, WasSince}
use Rattle.sl_run_law.specs.Moment.MomentsFollowSteps.{IsKept, Of_stamp, point_now, point_of, stamps_on}
use Rattle.sl_run.specs.EventChanges.{happens}
use Rattle.sl_run.specs.Runs.{Happening, IsRun, world_after}
use Rattle.sl_run.specs.Safety.{world_at}
use Rattle.sl_run.specs.Worlds.{Machine, Stamp, World, machine_at, world_with}
use Rattle.sl_run.specs.declared.header.Header.{Header}
use Rattle.sl_run_law.specs.ClocksDrift.{IsCounted}
use Rattle.sl_words.proofs.CaseLaws.{one_value}
use Rattle.std.proofs.Common.{arith, inl, inr, refl, subst, sym, ◌∙◌}
use Rattle.std.specs.Prelude.{Contains, List, Some, [], ℕ, ◌∷◌, ◌≡◌, ◌≤◌, ◌⊎◌}

-- ---- going on

since_same : (rho : ℕ) (w : World) → IsSince rho w w
since_same rho w =
    record {
      step = omega arith;
      moment = omega arith;
      kept = λ s m k. inl k;
      machines = λ m b at. record { machine = b; at = at; goes = clocks_drift.same rho (point_now w b); stamps = λ s h. inl h };
    }

abbrev KeptSince : World → ℕ → ℕ → Type 0
KeptSince w s m = IsKept w s m ⊎ ((w.step ≤ s) × (w.moment ≤ m))

kept_since : (rho : ℕ) (w v u : World) (s m : ℕ) → IsSince rho w v → Follows rho v u → OldOrNew v u s m → KeptSince w s m
kept_since rho w v u s m i f (inl old) = i.kept s m old
kept_since rho w v u s m i f (inr new) = inr (omega (arith, i.step, new.0), omega (arith, i.moment, f.moment, new.2))

abbrev StampSince : ℕ → World → Machine → Stamp → Type 0
StampSince rho w a s = Contains (stamps_on a) s ⊎ ((w.step ≤ s.step) × Precedes rho (point_now w a) (point_of s))

stamp_since : (rho : ℕ) (w v u : World) (a b : Machine) (s : Stamp) → IsSince rho w v → Precedes rho (point_now w a) (point_now u b)
    → IsNow (Between v.step u.step u.moment) b.clock s → StampSince rho w a s
stamp_since rho w v u a b s i goes new =
    inr (omega (arith, i.step, new.0.0), subst (λ q. Precedes rho (point_now w a) q) (now_is v u b s new) goes)

machine_since : (rho : ℕ) (w v u : World) (m : ℕ) (b : Machine) → IsSince rho w v → Was rho v u m b → WasSince rho w u m b
machine_since rho w v u m b i x =
    let y = i.machines m x.machine x.at in
    let goes = clocks_drift.both rho (point_now w y.machine) (point_now v x.machine) (point_now u b) y.goes x.goes in
    record {
      machine = y.machine;
      at = y.at;
      goes = goes;
      stamps = λ s h. elim (adds_stamps (Between v.step u.step u.moment) x.machine b x.adds s h) as (λ z. StampSince rho w y.machine s) [
        | inl old ↦ y.stamps s old
        | inr new ↦ stamp_since rho w v u y.machine b s i goes new
      ];
    }

since_next : (rho : ℕ) (w v u : World) → IsSince rho w v → Follows rho v u → IsSince rho w u
since_next rho w v u i f =
    record {
      step = omega (arith, i.step, f.step);
      moment = omega (arith, i.moment, f.moment);
      kept = λ s m k. kept_since rho w v u s m i f (kept_before rho v u s m f k);
      machines = λ m b at. machine_since rho w v u m b i (f.machines m b at);
    }

since_on : (h : Header) (w v : World) (xs : List Happening) → IsRun v xs → IsCounted v → v.header ≡ h → IsSince h.timing.rho w v
    → IsSince h.timing.rho w (world_after v xs)
since_on h w v [] run counted is i = i
since_on h w v (x ∷ xs) run counted is i =
    let u : World = happens v x.0 x.1 in
    let f : Follows h.timing.rho v u = subst (λ (g : Header). Follows g.timing.rho v u) is (follows v x.0 x.1 counted run.0) in
    since_on h w u xs run.2 f.counted (f.header ∙ is) (since_next h.timing.rho w v u i f)

pub fronts_go : FrontsGoOn
fronts_go p h now rest run =
    let w : World = world_at p h now in
    let k : Keeps h w = keeps p h now (fronts_are_lawful p h now rest run) in
    subst (λ v. IsSince h.timing.rho w v) (sym (run_after (world_with p h) now rest))
    (since_on h w w rest (run_rest (world_with p h) now rest run.is_run) k.counted k.header (since_same h.timing.rho w))

-- ---- order and drift

order_by : (h : Header) (w : World) (s t m n : ℕ) → Keeps h w → IsKept w s m → KeptSince w t n → (s ≤ t → m ≤ n) × (t ≤ s → n ≤ m)
order_by h w s t m n k a (inl b) = (k.order s t m n a b, k.order t s n m b a)
order_by h w s t m n k a (inr b) =
    let p = k.past s m a in
    (λ le. omega (arith, p.1, b.1), λ le. absurd (omega (arith, p.0, b.0, le)))

pub moments_follow_fronts : MomentsFollowFronts
moments_follow_fronts p h now rest run s t m n a b =
    order_by h (world_at p h now) s t m n (keeps p h now (fronts_are_lawful p h now rest run)) a ((fronts_go p h now rest run).kept t n b)

drift_by : (h : Header) (w : World) (m : ℕ) (a : Machine) (s t : Stamp) → Keeps h w → machine_at w m ≡ Some a → Contains (stamps_on a) s
    → StampSince h.timing.rho w a t
    → (s.step ≤ t.step → Precedes h.timing.rho (point_of s) (point_of t)) × (t.step ≤ s.step → Precedes h.timing.rho (point_of t) (point_of s))
drift_by h w m a s t k at has (inl old) = (k.drift m a s t at has old, k.drift m a t s at old has)
drift_by h w m a s t k at has (inr new) =
    let p = k.past s.step s.moment (Of_stamp m a s at has refl refl) in (
      λ le. clocks_drift.both h.timing.rho (point_of s) (point_now w a) (point_of t) (k.now m a s at has) new.1,
      λ le. absurd (omega (arith, p.0, new.0, le)),
    )

pub drift_from_fronts : StampsDriftFromFronts
drift_from_fronts p h now rest run m a b s t at there has has' =
    let w : World = world_at p h now in
    let x = (fronts_go p h now rest run).machines m b there in
    let same : x.machine ≡ a = one_value x.machine a (machine_at w m) x.at at in
    drift_by h w m a s t (keeps p h now (fronts_are_lawful p h now rest run)) at has (subst (λ y. StampSince h.timing.rho w y t) same (x.stamps t has'))
