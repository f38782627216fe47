-- The bounds and the timed premises, by clocks and watchdogs; how runs are put together; landings as a list.
use Rattle.sl_ids.proofs.Clocks.ClockLaws.{clocks_drift, join_max_short}
use Rattle.sl_ids.proofs.Clocks.WatchdogLaws.{acting, silence, verify, watch}
use Rattle.sl_ids.specs.Clocks.Points.{Point}
use Rattle.sl_ids.proofs.WholeRuns.{bounded_to}
use Rattle.sl_ids.specs.Guards.{WaitsSuffice, WatchdogsBound}
use Rattle.sl_ids.specs.Listed.{ListsLand, no_landing}
use Rattle.sl_ids.specs.Runs.{RunsGoOn, RunsTo}
use Rattle.sl_ids.specs.State.{Landing, State, moment}
use Rattle.sl_ids.specs.Steps.{Was_unchanged}
use Rattle.sl_ids.specs.Terms.{AreLongEnough, Terms}
use Rattle.sl_time.specs.Times.{IsTiming, TimingNumbers, gone, hold}
use Rattle.std.proofs.Common.{List, Some, arith, length, length-append, refl, subst, sym, [], ℕ, ◌++◌, ◌+◌, ◌<◌, ◌∷◌, ◌≤◌}
use Rattle.std.proofs.lemmas.List.{get_or_append_left, get_or_push}

-- ---- clocks and watchdogs

some_hold : (t : TimingNumbers) → IsTiming t → 0 < hold t
some_hold t s = go (hold t) (join_max_short t p p s (clocks_drift.same t.rho p) (omega arith))
  where
    p : Point
    p = record { moment = 0; clock = 0 }

    go : (h : ℕ) → p.moment < p.moment + h → 0 < h
    go h l = omega arith

pub watchdogs : WatchdogsBound
watchdogs = record {
  bounds = λ t w s a. record {
    pending = λ n p. (let o = a.pending n p in subst (λ (x : ℕ). w.now < x + gone t) o.1 (acting t o.0 w.now s o.2));
    acting = λ n p q. (let o = a.acting n p q in subst (λ (x : ℕ). w.now < x + gone t) o.1 (acting t o.0 w.now s o.2));
  };
  long = λ t s. enough (hold t) (gone t) (some_hold t s);
}
  where
    enough : (h g : ℕ) → 0 < h → AreLongEnough (record { gone = g; hold = h; watch = h + g; wait = g; silence = g })
    enough h g some = record { some = some; watch = omega arith; wait = omega arith; silence = omega arith }

pub waits : WaitsSuffice
waits = record {
  watched = λ t w content first sampled answered last h e l m r k n. Was_unchanged first sampled h e l (watch t answered last sampled w.now r k m n);
  waited = λ t w claim answered submitted l r k n. verify t answered submitted (moment w claim) w.now r k l n;
  soon = λ t w claim submitted registered s l r k. not_later submitted.moment (moment w claim) registered.moment (hold t) l (join_max_short t submitted registered s r k);
  silent = λ t u w after before l m r k. (silence t after before u.now u.now w.now r k (omega arith) l m).0;
}
  where
    not_later : (a b c h : ℕ) → a ≤ b → c < a + h → c < b + h
    not_later a b c h l m = omega arith

-- ---- runs

joined_runs : (r : Terms) (us vs : List State) (w u v : State) → RunsTo r w us u → RunsTo r u vs v → RunsTo r w (us ++ vs) v
joined_runs r [] vs w u v p q = subst (λ (x : State). RunsTo r x vs v) (sym p) q
joined_runs r (x ∷ us) vs w u v p q = (p.0, p.1, joined_runs r us vs x u v p.2 q)

pub go_on : RunsGoOn
go_on = record {
  reached = λ r w v p l. (p.0, p.1 ++ l.0, p.2, p.3, joined_runs r p.1 l.0 p.0 w v p.4 l.1);
  step = λ r w v p b. (v ∷ [], (p, b, refl));
  both = λ r w u v a b. (a.0 ++ b.0, joined_runs r a.0 b.0 w u v a.1 b.1);
  bounded = λ r w p. bounded_to r p.1 p.0 w p.3 p.4;
  between = λ r w v f b. record {
    pending = λ s p. (let o = f.pending s p in let e = o.1 in let m = b.pending s o.0 in let n = f.now in omega arith);
    acting = λ s p q. (let o = f.acting s p q in let e = o.2 in let m = b.acting s o.0 o.1 in let n = f.now in omega arith);
  };
}

-- ---- lists

pub listed : ListsLand
listed = record {
  lands = λ now later s spelled landings before after. (
      let new : Landing = record { moment = now; writer = Some s; shown = spelled } in
      record {
        count = length-append landings (new ∷ []);
        old = λ k h. get_or_append_left landings (new ∷ []) no_landing k h;
        new = get_or_push landings new no_landing (length landings) refl;
      }
      );
  same = λ now later landings before after. record { count = refl; old = λ k h. refl };
}
