-- The connection of a session that needs it stands, on a machine that is up.
use Rattle.sl_ids.specs.Clocks.Points.{Precedes}
use Rattle.sl_run_law.specs.Course.Mirrors.{since_restart}
use Rattle.sl_run.specs.LawfulConnections.{is_covered}
use Rattle.sl_run_law.proofs.Moment.Stamps.{kept_is_stamp}
use Rattle.sl_run_law.specs.Moment.MomentsFollowSteps.{point_of, stamps_on}
use Rattle.sl_run_law.proofs.Front.JoinedLists.{contains_left, contains_right, in_flat}
use Rattle.sl_words.proofs.Lists.{contains_more}
use Rattle.sl_run.specs.Worlds.{Course, Daemon, Machine, Stamp, daemons_on}
use Rattle.sl_run_law.specs.Sessions.SessionLaws.{IsSession}
use Rattle.sl_trace.specs.declared.session.Session.{Session}
use Rattle.sl_time.specs.Times.{TimingNumbers, fail}
use Rattle.sl_run_law.proofs.Watchdog.KnownMachines.{IsKnown}
use Rattle.sl_run_law.proofs.Watchdog.Machines.{IsHeld, IsWatched, first_by, first_there}
use Rattle.sl_run_law.proofs.Watchdog.Stamps.{counts_from}
use Rattle.sl_words.proofs.CaseLaws.{none_some}
use Rattle.std.proofs.Common.{ap, arith, inl, inr, refl}
use Rattle.std.proofs.lemmas.Bool.{cases_lt}
use Rattle.std.specs.Prelude.{Bool, Contains, List, Some, false, filter_map, flat_map, map, true, ℕ, ◌&&◌, ◌++◌, ◌∷◌, ◌≡◌, ◌⊎◌}

abbrev stamps_of : Daemon → List Stamp
stamps_of d = d.begun ∷ d.stamps

-- A daemon's stamps are its machine's.
stamp_on : (a : Machine) (d : Daemon) (s : Stamp) → Contains (daemons_on a) d → Contains (stamps_of d) s → Contains (stamps_on a) s
stamp_on a d s there has =
    let made : List Stamp = map (λ (c : Course). c.made) a.calls in
    let answered : List Stamp = filter_map (λ (c : Course). c.answered) a.calls in
    contains_more a.kept (a.resets ++ flat_map stamps_of (daemons_on a) ++ made ++ answered) s
    (contains_left (a.resets ++ flat_map stamps_of (daemons_on a) ++ made) answered s
    (contains_left (a.resets ++ flat_map stamps_of (daemons_on a)) made s
    (contains_right a.resets (flat_map stamps_of (daemons_on a)) s (in_flat stamps_of (daemons_on a) d s there has))))

either_order : (t : TimingNumbers) (a : Machine) (s : Stamp) → IsKnown t a → Contains (stamps_on a) s
    → Precedes t.rho (point_of a.kept) (point_of s) ⊎ Precedes t.rho (point_of s) (point_of a.kept)
either_order t a s k there =
    elim (cases_lt s.step a.kept.step) as (λ z. Precedes t.rho (point_of a.kept) (point_of s) ⊎ Precedes t.rho (point_of s) (point_of a.kept)) [
      | inl before ↦ inr (k.drift s a.kept there (kept_is_stamp a) (omega (arith, before)))
      | inr after ↦ inl (k.drift a.kept s (kept_is_stamp a) there after)
    ]

is_up : (up used : Bool) (ds : List Daemon) (d : Daemon) → first_by (up && used) ds ≡ Some d → up ≡ true
is_up true used ds d h = refl
is_up false used ds d h = absurd (none_some d h)

-- It was found unexpired by the last keepalive, which was not long ago.
pub held : (t : TimingNumbers) (moment step : ℕ) (a : Machine) (d : Daemon) (s : Session) → IsKnown t a → IsWatched t moment step a → since_restart a ≡ Some d
    → IsSession d.setting d.trace s → is_covered d.trace s ≡ true → IsHeld t d s a.kept moment
held t moment step a d s k w since its is =
    let there = first_there (a.up && a.used) (daemons_on a) d since in
    let c = counts_from d s (k.stamped d there) (k.lawful d there) its (w.given d since) is in
    let fresh = w.fresh d s since its is in
    let until = c.until in
    let same = ap (λ (x : TimingNumbers). fail x) (k.timing d there) in
    record {
      stamp = c.stamp;
      from = c.from;
      connected = record {
        found = record { order = either_order t a c.stamp k (stamp_on a d c.stamp there c.there); unexpired = omega (arith, fresh, until, same) };
        fires = w.fires (is_up a.up a.used (daemons_on a) d since);
      };
    }
