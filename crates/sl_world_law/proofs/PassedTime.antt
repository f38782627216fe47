-- Time passes, a test is made, a machine comes up.
use Rattle.sl_world_state.specs.Changes.{first_kept, machine_later, passed_in, restarted_machine, tested_machine}
use Rattle.sl_world_state.specs.KeptWorld.{KeptState}
use Rattle.sl_world_state.specs.ShownWorlds.{Tells, disks_of, shown}
use Rattle.sl_world_law.proofs.MachineChanges.{names_on, tells_change}
use Rattle.sl_world_law.specs.Changes.{TimesAreKept}
use Rattle.sl_run.specs.EventChanges.{after_pass, after_restart, after_test, first_change, passed}
use Rattle.sl_run.specs.Worlds.{Machine, Stamp, World, reading_now, stamp_now}
use Rattle.sl_run.specs.declared.header.Header.{Header}
use Rattle.sl_trace.specs.WatchdogConnections.{test_holds}
use Rattle.std.proofs.Common.{ap, ap₂, refl, ◌∙◌}
use Rattle.std.specs.List.{enumerate_from, list_any}
use Rattle.std.specs.Prelude.{Bool, List, Option, bytes_eq, false, flat_map, if◌then◌else◌, map, true, [], ℕ, ◌++◌, ◌+◌, ◌∷◌, ◌≡◌}

mapped_numbered : {A B : Type 0} (f : A → B) (g : ℕ → A → A) (h : ℕ × B → B) (i : ℕ) (xs : List A) → ((k : ℕ) (x : A) → f (g k x) ≡ h (k, f x))
    → map f (map (λ p. g p.0 p.1) (enumerate_from i xs)) ≡ map h (enumerate_from i (map f xs))
mapped_numbered f g h i [] same = refl
mapped_numbered f g h i (x ∷ xs) same = ap₂ (λ y ys. y ∷ ys) (same i x) (mapped_numbered f g h (i + 1) xs same)

flat_numbered : {A B : Type 0} (f : A → List B) (g : ℕ → A → A) (i : ℕ) (xs : List A) → ((k : ℕ) (x : A) → f (g k x) ≡ f x)
    → flat_map f (map (λ p. g p.0 p.1) (enumerate_from i xs)) ≡ flat_map f xs
flat_numbered f g i [] same = refl
flat_numbered f g i (x ∷ xs) same = ap₂ (λ y ys. y ++ ys) (same i x) (flat_numbered f g (i + 1) xs same)

later : (h : Header) (d : ℕ) (gs : Option (List ℕ)) (k : ℕ) (a : Machine) → shown h (passed d gs k a) ≡ machine_later d gs (k, shown h a)
unfolding shown
later h d gs k a = refl

passes : (k : KeptState) (w : World) → Tells k w → (d : ℕ) (gs : Option (List ℕ)) → Tells (passed_in d gs k) (after_pass d gs w)
unfolding disks_of
passes k w t d gs =
    record {
      header = t.header;
      layout = t.layout;
      moment = ap (λ z. z + d) t.moment;
      machines =
          mapped_numbered (shown w.header) (passed d gs) (machine_later d gs) 1 w.machines (later w.header d gs)
          ∙ ap (λ ms. map (machine_later d gs) (enumerate_from 1 ms)) t.machines;
      disks = t.disks;
      names = λ name. ap (list_any (bytes_eq name)) (flat_numbered names_on (passed d gs) 1 w.machines (λ j a. refl)) ∙ t.names name;
    }

moment_if : (b : Bool) (s r : Stamp) → (if b then s else r).moment ≡ (if b then s.moment else r.moment)
moment_if true s r = refl
moment_if false s r = refl

tested_shows : (w : World) (moment : ℕ) (a : Machine) → w.moment ≡ moment → shown w.header (after_test w a) ≡ tested_machine moment (shown w.header a)
unfolding shown
tested_shows w moment a now =
    ap (λ z. record (shown w.header a) { kept = z }) (moment_if (test_holds a.connections (reading_now a)) (stamp_now w a) a.kept)
    ∙ ap (λ z. tested_machine z (shown w.header a)) now

restarted_shows : (w : World) (moment : ℕ) (a : Machine) → w.moment ≡ moment → shown w.header (after_restart w a) ≡ restarted_machine moment (shown w.header a)
unfolding shown
restarted_shows w moment a now = ap (λ z. restarted_machine z (shown w.header a)) now

pub times_are_kept : TimesAreKept
unfolding first_kept first_change
times_are_kept =
    record {
      passes = passes;
      tests = λ k w t m. tells_change k w t m (after_test w) (tested_machine k.moment) (λ a at. tested_shows w k.moment a t.moment) (λ a name at. refl);
      restarts = λ k w t m. tells_change k w t m (after_restart w) (restarted_machine k.moment) (λ a at. restarted_shows w k.moment a t.moment) (λ a name at. refl);
    }
