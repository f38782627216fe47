-- The watchdog bounds a session in each state of a run.
use Rattle.sl_ids.proofs.Clocks.ClockLaws.{clocks_drift}
use Rattle.sl_ids.proofs.Clocks.WatchdogLaws.{acting, connection, fresh}
use Rattle.sl_ids.specs.Clocks.Guarded.{Begins, Guarded, GuardedIsBounded, GuardedRun, Keeps, Passes, Registers, Renews, Resets, Settles, Step, Submits, Unregisters}
use Rattle.sl_ids.specs.Clocks.Points.{Point, Precedes}
use Rattle.sl_ids.specs.Clocks.Watchdog.{Connected, FoundUnexpired, IsConnected, Lately_reset, MayAct}
use Rattle.sl_time.specs.Times.{IsTiming, TimingNumbers}
use Rattle.sl_words.proofs.CaseLaws.{false_is_true, not_both, true_is_false, true_or_false}
use Rattle.std.proofs.Common.{List, arith, false, inl, inr, refl, subst, sym, true, [], ◌+◌, ◌∷◌, ◌≡◌, ◌≤◌, ◌⊎◌}

-- How a session whose machine was reset stood when it was.
record BeforeReset (t : TimingNumbers) (w : Guarded) : Type 0 where
  kept : Point
  stood : IsConnected t w.renewed kept w.reset_at
  lately : w.now.moment ≤ w.reset_at + t.land

record Invariant (t : TimingNumbers) (w : Guarded) : Type 0 where
  kept : w.was_reset ≡ false → Precedes t.rho w.kept w.now
  fires : w.was_reset ≡ false → w.now.moment ≤ w.kept.moment + t.fire
  connected : w.connected ≡ true → (w.was_reset ≡ false) × FoundUnexpired t w.renewed w.kept × Precedes t.rho w.renewed w.now
  in_flight : w.in_flight ≡ true → w.was_reset ≡ false → w.connected ≡ true
  before : w.in_flight ≡ true → w.was_reset ≡ true → BeforeReset t w

begin : (t : TimingNumbers) (w : Guarded) → IsTiming t → Begins t w → Invariant t w
begin t w s b = record {
  kept = λ p. b.kept;
  fires = λ p. b.fires;
  connected = λ p. (
      let e = sym (b.renewed p) in
      (b.up, subst (λ (x : Point). FoundUnexpired t x w.kept) e (fresh.registers t w.now w.kept s b.kept), subst (λ (x : Point). Precedes t.rho x w.now) e (clocks_drift.same t.rho w.now))
      );
  in_flight = λ p. absurd (not_both w.in_flight p b.idle);
  before = λ p. absurd (not_both w.in_flight p b.idle);
}

step_kept : (t : TimingNumbers) (w v : Guarded) → IsTiming t → Invariant t w → Step t w v → Invariant t v
step_kept t w v s i (Passes next p e) = subst (Invariant t) (sym e) (record {
  kept = λ q. clocks_drift.both t.rho w.kept w.now next (i.kept q) p.runs;
  fires = λ q. p.fires q;
  connected = λ q. (let o = i.connected q in (o.0, o.1, clocks_drift.both t.rho w.renewed w.now next o.2 p.runs));
  in_flight = i.in_flight;
  before = λ q r. (let o = i.before q r in record { kept = o.kept; stood = o.stood; lately = p.lands r q });
})
step_kept t w v s i (Keeps p e) = subst (Invariant t) (sym e) (record {
  kept = λ q. clocks_drift.same t.rho w.now;
  fires = λ q. omega arith;
  connected = λ q. (let o = i.connected q in (o.0, record { order = inr o.2; unexpired = p q }, o.2));
  in_flight = i.in_flight;
  before = λ q r. (let o = i.before q r in record { kept = o.kept; stood = o.stood; lately = o.lately });
})
step_kept t w v s i (Registers p e) = subst (Invariant t) (sym e) (record {
  kept = i.kept;
  fires = i.fires;
  connected = λ q. (p, fresh.registers t w.now w.kept s (i.kept p), clocks_drift.same t.rho w.now);
  in_flight = λ q r. refl;
  before = λ q r. absurd (not_both w.was_reset r p);
})
step_kept t w v s i (Renews next p e) = subst (Invariant t) (sym e) (record {
  kept = i.kept;
  fires = i.fires;
  connected = λ q. (let o = i.connected q in (o.0, fresh.renews t w.renewed next w.kept o.1 p.since p.order, p.past));
  in_flight = i.in_flight;
  before = λ q r. absurd (not_both w.was_reset r p.up);
})
step_kept t w v s i (Unregisters p e) = subst (Invariant t) (sym e) (record {
  kept = i.kept;
  fires = i.fires;
  connected = λ q. absurd (false_is_true q);
  in_flight = λ q. absurd (not_both w.in_flight q p);
  before = λ q. absurd (not_both w.in_flight q p);
})
step_kept t w v s i (Submits p q e) = subst (Invariant t) (sym e) (record {
  kept = i.kept;
  fires = i.fires;
  connected = i.connected;
  in_flight = λ x y. q;
  before = λ x y. absurd (not_both w.was_reset y p);
})
step_kept t w v s i (Settles e) = subst (Invariant t) (sym e) (record {
  kept = i.kept;
  fires = i.fires;
  connected = i.connected;
  in_flight = λ q. absurd (false_is_true q);
  before = λ q. absurd (false_is_true q);
})
step_kept t w v s i (Resets p e) = subst (Invariant t) (sym e) (record {
  kept = λ q. absurd (true_is_false q);
  fires = λ q. absurd (true_is_false q);
  connected = λ q. absurd (false_is_true q);
  in_flight = λ q r. absurd (true_is_false r);
  before = λ q r. (let o = i.connected (i.in_flight q p) in record { kept = w.kept; stood = record { found = o.1; fires = i.fires p }; lately = omega arith });
})

run_kept : (t : TimingNumbers) (us : List Guarded) (w v : Guarded) → IsTiming t → Invariant t w → GuardedRun t w us v → Invariant t v
run_kept t [] w v s i e = subst (Invariant t) e i
run_kept t (u ∷ us) w v s i p = run_kept t us u v s (step_kept t w u s i p.0) p.1

is_connected : (t : TimingNumbers) (w : Guarded) → Invariant t w → w.connected ≡ true → IsConnected t w.renewed w.kept w.now.moment
is_connected t w i q = let o = i.connected q in record { found = o.1; fires = i.fires o.0 }

acts : (t : TimingNumbers) (w : Guarded) → Invariant t w → (w.connected ≡ true) ⊎ (w.in_flight ≡ true) → MayAct t w.renewed w.now.moment
acts t w i (inl q) = Connected w.kept (is_connected t w i q)
acts t w i (inr q) =
    elim (true_or_false w.was_reset) [
      | inl reset ↦ let o = i.before q reset in Lately_reset o.kept w.reset_at o.stood o.lately
      | inr up ↦ Connected w.kept (is_connected t w i (i.in_flight q up))
    ]

pub guarded : GuardedIsBounded
guarded t w v us s b p =
    let i = run_kept t us w v s (begin t w s b) p in
    record {
      covered = λ q. elim (true_or_false v.was_reset) [ inl reset ↦ inr (reset, (i.before q reset).lately) | inr up ↦ inl (up, i.in_flight q up) ];
      acts = acts t v i;
      soon = λ q. acting t v.renewed v.now.moment s (acts t v i q);
      room = λ q. connection t v.renewed v.kept v.now.moment s (is_connected t v i q);
    }
