-- Moments follow steps, and stamps drift: both are kept by each event, since what is new is of now.
use Rattle.sl_ids.proofs.Clocks.ClockLaws.{clocks_drift}
use Rattle.sl_ids.specs.Clocks.Points.{Point, Precedes}
use Rattle.sl_run_law.proofs.Front.RunsFromFronts.{was_there}
use Rattle.sl_run_law.proofs.Moment.AddedNow.{Adds, Between, adds_stamps, event_adds}
use Rattle.sl_run_law.proofs.Moment.FirstStamps.{kept_first, stamps_first}
use Rattle.sl_run_law.proofs.Moment.GrowingLists.{IsNow}
use Rattle.sl_run_law.proofs.Moment.LandsNow.{Lands, event_lands}
use Rattle.sl_run_law.specs.Moment.MomentsFollowSteps.{At_first, IsKept, KeptIsPast, MomentsFollowSteps, Of_landing, Of_sample, Of_stamp, StampsDrift, StampsDriftToNow, point_now, point_of, stamps_on}
use Rattle.sl_run.specs.EventChanges.{happens}
use Rattle.sl_run.specs.Refusals.{may_happen}
use Rattle.sl_run.specs.Runs.{Happening, IsRun, world_after}
use Rattle.sl_run.specs.Safety.{LawfulRun, world_at}
use Rattle.sl_run.specs.Worlds.{Machine, Program, Stamp, World, machine_at, world_with}
use Rattle.sl_run.specs.declared.event.Event.{Event}
use Rattle.sl_run.specs.declared.header.Header.{Header}
use Rattle.sl_run_law.proofs.Beginnings.{begins_counted}
use Rattle.sl_run_law.proofs.ClocksDrift.{event_drifts}
use Rattle.sl_run_law.proofs.WorldsGoOn.{event_goes}
use Rattle.sl_run_law.specs.ClocksDrift.{IsCounted}
use Rattle.sl_run_law.specs.WorldsGoOn.{time_of}
use Rattle.sl_time.specs.Times.{Drifts}
use Rattle.sl_trace.specs.declared.effects.Effects.{Effects}
use Rattle.sl_words.proofs.CaseLaws.{one_value}
use Rattle.std.proofs.Common.{ap, arith, inl, inr, refl, subst, sym, ◌∙◌}
use Rattle.std.specs.Prelude.{Contains, IsTrue, List, Some, [], ℕ, ◌*◌, ◌+◌, ◌-◌, ◌<◌, ◌∷◌, ◌≡◌, ◌≤◌, ◌⊎◌}

-- ---- one event

-- A machine after an event: it was there before, and what it keeps more is new.
pub record Was (rho : ℕ) (w v : World) (m : ℕ) (b : Machine) : Type 0 where
  pub machine : Machine
  pub at : machine_at w m ≡ Some machine
  pub adds : Adds (Between w.step v.step v.moment) machine b
  pub goes : Precedes rho (point_now w machine) (point_now v b)

precedes_by : (rho d : ℕ) (p q : Point) → q.moment ≡ p.moment + d → p.clock + (1000 - rho) * d ≤ q.clock → q.clock ≤ p.clock + (1000 + rho) * d → Precedes rho p q
precedes_by rho d p q e low high =
    let same : d ≡ q.moment - p.moment = omega arith in
    let drift : Drifts rho d (q.clock - p.clock) = record { least = omega arith; most = omega arith } in
    record { later = omega arith; forward = omega arith; drift = subst (λ n. Drifts rho n (q.clock - p.clock)) same drift }

was : (w : World) (e : Event) (fxs : List Effects) → IsCounted w → IsTrue (may_happen w e) → (m : ℕ) (b : Machine) → machine_at (happens w e fxs) m ≡ Some b
    → Was w.header.timing.rho w (happens w e fxs) m b
was w e fxs counted may m b at =
    let v : World = happens w e fxs in
    let rho : ℕ = w.header.timing.rho in
    let a = was_there w ((e, fxs) ∷ []) m b at in
    let adds = event_adds w e fxs m a.0 a.1 in
    let drifts = event_drifts w e fxs counted may m a.0 a.1 in
    let same : adds.0 ≡ b = one_value adds.0 b (machine_at v m) adds.1 at in
    let other : drifts.0 ≡ b = one_value drifts.0 b (machine_at v m) drifts.1 at in
    record {
      machine = a.0;
      at = a.1;
      adds = subst (λ x. Adds (Between w.step v.step v.moment) a.0 x) same adds.2;
      goes = subst (λ x. Precedes rho (point_now w a.0) (point_now v x)) other
          (precedes_by rho (time_of e) (point_now w a.0) (point_now v drifts.0) (event_goes w e fxs).moment drifts.2.least drifts.2.most);
    }

-- A world after an event.
pub record Follows (rho : ℕ) (w v : World) : Type 0 where
  pub header : v.header ≡ w.header
  pub counted : IsCounted v
  pub step : w.step ≤ v.step
  pub moment : w.moment ≤ v.moment
  pub machines : (m : ℕ) (b : Machine) → machine_at v m ≡ Some b → Was rho w v m b
  pub lands : Lands (Between w.step v.step v.moment) w v

pub follows : (w : World) (e : Event) (fxs : List Effects) → IsCounted w → IsTrue (may_happen w e) → Follows w.header.timing.rho w (happens w e fxs)
follows w e fxs counted may =
    let g = event_goes w e fxs in
    record {
      header = g.header;
      counted = g.machines ∙ counted ∙ sym (ap (λ (h : Header). h.machines) g.header);
      step = omega (arith, g.step);
      moment = omega (arith, g.moment);
      machines = was w e fxs counted may;
      lands = event_lands w e fxs;
    }

-- ---- what is kept after it was kept before, or is new

abbrev pub OldOrNew : World → World → ℕ → ℕ → Type 0
OldOrNew w v s m = IsKept w s m ⊎ Between w.step v.step v.moment s m

new_at : (w v : World) (s m s' m' : ℕ) → s' ≡ s → m' ≡ m → Between w.step v.step v.moment s' m' → OldOrNew w v s m
new_at w v s m s' m' is at new = inr (subst (λ n. Between w.step v.step v.moment s n) at (subst (λ n. Between w.step v.step v.moment n m') is new))

pub kept_before : (rho : ℕ) (w v : World) (s m : ℕ) → Follows rho w v → IsKept v s m → OldOrNew w v s m
kept_before rho w v s m f (Of_landing l has is at) =
    elim (f.lands l has) as (λ z. OldOrNew w v s m) [
      | inl old ↦ inl (Of_landing l old is at)
      | inr new ↦ new_at w v s m l.step l.moment is at new
    ]
kept_before rho w v s m f (Of_stamp n b t there has is at) =
    let x = f.machines n b there in
    elim (adds_stamps (Between w.step v.step v.moment) x.machine b x.adds t has) as (λ z. OldOrNew w v s m) [
      | inl old ↦ inl (Of_stamp n x.machine t x.at old is at)
      | inr new ↦ new_at w v s m t.step t.moment is at new.0
    ]
kept_before rho w v s m f (Of_sample n b c t there has in_it is at) =
    let x = f.machines n b there in
    elim (x.adds.calls.samples c t has in_it) as (λ z. OldOrNew w v s m) [
      | inl old ↦ inl (Of_sample n x.machine old.0 t x.at old.1 old.2 is at)
      | inr new ↦ new_at w v s m t.step t.moment is at new
    ]
kept_before rho w v s m f (At_first is at) = inl (At_first is at)

-- ---- the invariant

-- What is said of a world with a header of this drift.
pub record Keeps (h : Header) (w : World) : Type 0 where
  pub header : w.header ≡ h
  pub counted : IsCounted w
  pub past : (s m : ℕ) → IsKept w s m → (s < w.step) × (m ≤ w.moment)
  pub order : (s t m n : ℕ) → IsKept w s m → IsKept w t n → s ≤ t → m ≤ n
  pub drift : (m : ℕ) (a : Machine) (s t : Stamp) → machine_at w m ≡ Some a → Contains (stamps_on a) s → Contains (stamps_on a) t → s.step ≤ t.step
      → Precedes h.timing.rho (point_of s) (point_of t)
  pub now : (m : ℕ) (a : Machine) (s : Stamp) → machine_at w m ≡ Some a → Contains (stamps_on a) s → Precedes h.timing.rho (point_of s) (point_now w a)

past_next : (rho : ℕ) (h : Header) (w v : World) → Follows rho w v → Keeps h w → (s m : ℕ) → IsKept v s m → (s < v.step) × (m ≤ v.moment)
past_next rho h w v f k s m is =
    elim (kept_before rho w v s m f is) as (λ z. (s < v.step) × (m ≤ v.moment)) [
      | inl old ↦ let p = k.past s m old in (omega (arith, p.0, f.step), omega (arith, p.1, f.moment))
      | inr new ↦ (new.1, omega (arith, new.2))
    ]

order_by : (h : Header) (w v : World) (s t m n : ℕ) → w.moment ≤ v.moment → Keeps h w → OldOrNew w v s m → OldOrNew w v t n → s ≤ t → m ≤ n
order_by h w v s t m n le k (inl a) (inl b) o = k.order s t m n a b o
order_by h w v s t m n le k (inl a) (inr b) o = let p = k.past s m a in omega (arith, p.1, le, b.2)
order_by h w v s t m n le k (inr a) (inl b) o = let p = k.past t n b in absurd (omega (arith, p.0, a.0, o))
order_by h w v s t m n le k (inr a) (inr b) o = omega (arith, a.2, b.2)

-- ---- points

point_is : (p q : Point) → p.moment ≡ q.moment → p.clock ≡ q.clock → p ≡ q
point_is p q e f =
    let at : ℕ → Point = λ m. record { moment = m; clock = p.clock } in
    let showing : ℕ → Point = λ c. record { moment = q.moment; clock = c } in
    ap at e ∙ ap showing f

-- A new stamp is now.
pub now_is : (w v : World) (b : Machine) (s : Stamp) → IsNow (Between w.step v.step v.moment) b.clock s → point_now v b ≡ point_of s
now_is w v b s new = sym (point_is (point_of s) (point_now v b) new.0.2 new.1)

old_to_now : (h : Header) (w v : World) (m : ℕ) (b : Machine) (s : Stamp) (x : Was h.timing.rho w v m b) → Keeps h w → Contains (stamps_on x.machine) s
    → Precedes h.timing.rho (point_of s) (point_now v b)
old_to_now h w v m b s x k old =
    clocks_drift.both h.timing.rho (point_of s) (point_now w x.machine) (point_now v b) (k.now m x.machine s x.at old) x.goes

abbrev OldOrNow : World → World → Machine → Machine → Stamp → Type 0
OldOrNow w v a b s = Contains (stamps_on a) s ⊎ IsNow (Between w.step v.step v.moment) b.clock s

now_by : (h : Header) (w v : World) (m : ℕ) (b : Machine) (s : Stamp) (x : Was h.timing.rho w v m b) → Keeps h w → OldOrNow w v x.machine b s
    → Precedes h.timing.rho (point_of s) (point_now v b)
now_by h w v m b s x k (inl old) = old_to_now h w v m b s x k old
now_by h w v m b s x k (inr new) =
    subst (λ p. Precedes h.timing.rho p (point_now v b)) (now_is w v b s new) (clocks_drift.same h.timing.rho (point_now v b))

drift_by : (h : Header) (w v : World) (m : ℕ) (b : Machine) (s t : Stamp) (x : Was h.timing.rho w v m b) → Keeps h w → OldOrNow w v x.machine b s
    → OldOrNow w v x.machine b t → s.step ≤ t.step → Precedes h.timing.rho (point_of s) (point_of t)
drift_by h w v m b s t x k (inl o) (inl p) le = k.drift m x.machine s t x.at o p le
drift_by h w v m b s t x k (inl o) (inr p) le =
    subst (λ q. Precedes h.timing.rho (point_of s) q) (now_is w v b t p) (old_to_now h w v m b s x k o)
drift_by h w v m b s t x k (inr o) (inl p) le =
    let q = k.past t.step t.moment (Of_stamp m x.machine t x.at p refl refl) in
    absurd (omega (arith, q.0, o.0.0, le))
drift_by h w v m b s t x k (inr o) (inr p) le =
    subst (λ q. Precedes h.timing.rho q (point_of t)) (sym (now_is w v b t p) ∙ now_is w v b s o) (clocks_drift.same h.timing.rho (point_of t))

-- ---- runs

keeps_next : (h : Header) (w v : World) → Follows h.timing.rho w v → Keeps h w → Keeps h v
keeps_next h w v f k =
    let N : ℕ → ℕ → Type 0 = Between w.step v.step v.moment in
    let rho : ℕ = h.timing.rho in
    record {
      header = f.header ∙ k.header;
      counted = f.counted;
      past = past_next rho h w v f k;
      order = λ s t m n a b le. order_by h w v s t m n f.moment k (kept_before rho w v s m f a) (kept_before rho w v t n f b) le;
      drift = λ m b s t at has has' le.
          let x = f.machines m b at in
          drift_by h w v m b s t x k (adds_stamps N x.machine b x.adds s has) (adds_stamps N x.machine b x.adds t has') le;
      now = λ m b s at has. let x = f.machines m b at in now_by h w v m b s x k (adds_stamps N x.machine b x.adds s has);
    }

keeps_on : (h : Header) (w : World) (xs : List Happening) → IsRun w xs → Keeps h w → Keeps h (world_after w xs)
keeps_on h w [] run k = k
keeps_on h w (x ∷ xs) run k =
    let v : World = happens w x.0 x.1 in
    let f = follows w x.0 x.1 k.counted run.0 in
    keeps_on h v xs run.2 (keeps_next h w v (subst (λ (g : Header). Follows g.timing.rho w v) k.header f) k)

-- ---- the first world

at_first : (p : Program) (h : Header) (m : ℕ) (a : Machine) (s : Stamp) → machine_at (world_with p h) m ≡ Some a → Contains (stamps_on a) s
    → point_of s ≡ point_now (world_with p h) a
at_first p h m a s at has = let f = stamps_first p h m a s at has in point_is (point_of s) (point_now (world_with p h) a) f.moment f.clock

keeps_first : (p : Program) (h : Header) → Keeps h (world_with p h)
keeps_first p h =
    let w : World = world_with p h in
    let rho : ℕ = h.timing.rho in
    record {
      header = refl;
      counted = begins_counted p h;
      past = λ s m k. let f = kept_first p h s m k in (omega (arith, f.0), omega (arith, f.1));
      order = λ s t m n k j le. let f = kept_first p h s m k in let g = kept_first p h t n j in omega (arith, f.1, g.1);
      drift = λ m a s t at has has' le.
          subst (λ q. Precedes rho (point_of s) q) (at_first p h m a s at has ∙ sym (at_first p h m a t at has')) (clocks_drift.same rho (point_of s));
      now = λ m a s at has. subst (λ q. Precedes rho (point_of s) q) (at_first p h m a s at has) (clocks_drift.same rho (point_of s));
    }

pub keeps : (p : Program) (h : Header) (xs : List Happening) → LawfulRun p h xs → Keeps h (world_at p h xs)
keeps p h xs run = keeps_on h (world_with p h) xs run.is_run (keeps_first p h)

-- ---- the laws

pub kept_past : KeptIsPast
kept_past p h xs run = (keeps p h xs run).past

pub moments_follow : MomentsFollowSteps
moments_follow p h xs run = (keeps p h xs run).order

pub drift_between : StampsDrift
drift_between p h xs run = (keeps p h xs run).drift

pub drift_to_now : StampsDriftToNow
drift_to_now p h xs run = (keeps p h xs run).now
