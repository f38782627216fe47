-- The daemons that run stand for those of a world: where one machine changes, and where all do.
use Rattle.sl_world_state.specs.Daemons.{Stood}
use Rattle.sl_world_state.specs.SaneWorlds.{IsSane, ReadsCommands, RunsOn, WorldStands}
use Rattle.sl_world_state.specs.KeptWorld.{KeptState}
use Rattle.sl_world_state.specs.ShownWorlds.{Tells}
use Rattle.sl_world_law.proofs.Lookups.{machine_place}
use Rattle.sl_words.proofs.Lists.{set_length}
use Rattle.sl_words.proofs.Places.{PlacedAt, Replaced, Stayed, placed, set_two}
use Rattle.sl_run.specs.EventChanges.{after_pass, next_step, passed}
use Rattle.sl_run.specs.Worlds.{Daemon, Machine, World, change_machine, daemons_on, machine_at}
use Rattle.sl_run.specs.declared.header.Header.{Header}
use Rattle.sl_world_law.proofs.PlainLists.{enumerated, numbered_at}
use Rattle.sl_text.specs.Forms.{Form}
use Rattle.sl_trace.specs.Traces.{Setting, Trace}
use Rattle.sl_trace.specs.declared.command.Command.{Command}
use Rattle.std.proofs.Common.{ap, inl, inr, refl, subst, sym, ◌∙◌}
use Rattle.std.specs.Prelude.{Contains, List, None, Option, Some, length, slice_get, slice_set, ℕ, ◌-◌, ◌∷◌, ◌≡◌, ◌⊎◌}

pub record Hosted {D : Type 0} (stands : D → Setting → Trace → Type 0) (hosts : List (Option D)) (w : World) : Type 0 where
  pub counted : length hosts ≡ length w.machines
  pub runs : (i : ℕ) (a : Machine) (o : Option D) → slice_get w.machines i ≡ Some a → slice_get hosts i ≡ Some o → RunsOn stands o a.daemon
  pub stood : (i : ℕ) (a : Machine) (d : Daemon) → slice_get w.machines i ≡ Some a → Contains (daemons_on a) d → Stood stands d.setting d.trace

pub hosted : {D : Type 0} (commands : Header → List (Form Command)) (stands : D → Setting → Trace → Type 0) (k : KeptState) (hosts : List (Option D)) (w : World)
    → WorldStands commands stands k hosts w → Hosted stands hosts w
hosted commands stands k hosts w t = record { counted = t.counted; runs = t.runs; stood = t.stood }

pub standing : {D : Type 0} (commands : Header → List (Form Command)) (stands : D → Setting → Trace → Type 0) (k : KeptState) (hosts : List (Option D)) (w : World)
    → Tells k w → IsSane commands w → ReadsCommands commands w.header → Hosted stands hosts w → WorldStands commands stands k hosts w
standing commands stands k hosts w tells sane reads h =
    record { tells = tells; sane = sane; reads = reads; counted = h.counted; runs = h.runs; stood = h.stood }

-- A step is counted.
pub next_hosted : {D : Type 0} (stands : D → Setting → Trace → Type 0) (hosts : List (Option D)) (w : World) → Hosted stands hosts w → Hosted stands hosts (next_step w)
next_hosted stands hosts w h = record { counted = h.counted; runs = h.runs; stood = h.stood }

-- ---- a machine whose daemons stay

pub record SameDaemons (a b : Machine) : Type 0 where
  pub daemon : b.daemon ≡ a.daemon
  pub ended : b.ended ≡ a.ended

same_list : (a b : Machine) → SameDaemons a b → daemons_on b ≡ daemons_on a
same_list a b s =
    ap (λ (o : Option Daemon). elim o as (λ x. List Daemon) [ None ↦ b.ended | Some d ↦ d ∷ b.ended ]) s.daemon
    ∙ ap (λ (ds : List Daemon). elim a.daemon as (λ x. List Daemon) [ None ↦ ds | Some d ↦ d ∷ ds ]) s.ended

runs_same : {D : Type 0} (stands : D → Setting → Trace → Type 0) (o : Option D) (a b : Machine) → SameDaemons a b → RunsOn stands o a.daemon → RunsOn stands o b.daemon
runs_same stands o a b s r = subst (λ (z : Option Daemon). RunsOn stands o z) (sym s.daemon) r

stood_same : {D : Type 0} (stands : D → Setting → Trace → Type 0) (a b : Machine) → SameDaemons a b
    → ((d : Daemon) → Contains (daemons_on a) d → Stood stands d.setting d.trace) → (d : Daemon) → Contains (daemons_on b) d → Stood stands d.setting d.trace
stood_same stands a b s old d inside = old d (subst (λ (ds : List Daemon). Contains ds d) (same_list a b s) inside)

-- One machine changes, and its daemons stay.
pub same_hosted : {D : Type 0} (stands : D → Setting → Trace → Type 0) (hosts : List (Option D)) (w : World) → Hosted stands hosts w → (m : ℕ) (f : Machine → Machine)
    → ((a : Machine) → SameDaemons a (f a)) → Hosted stands hosts (change_machine m f w)
same_hosted {D} stands hosts w h m f stays = go (machine_at w m) refl
  where
    world_by : Option Machine → World
    world_by o = elim o [ None ↦ w | Some a ↦ record w { machines = slice_set w.machines (m - 1) (f a) } ]

    runs_at : (a : Machine) → machine_at w m ≡ Some a → (i : ℕ) (b : Machine) (o : Option D) → PlacedAt w.machines (m - 1) (f a) i b → slice_get hosts i ≡ Some o → RunsOn stands o b.daemon
    runs_at a at i b o (Replaced here same) there =
        subst (λ (z : Machine). RunsOn stands o z.daemon) (sym same)
        (runs_same stands o a (f a) (stays a) (h.runs (m - 1) a o (machine_place w m a at) (subst (λ j. slice_get hosts j ≡ Some o) here there)))
    runs_at a at i b o (Stayed other was) there = h.runs i b o was there

    stood_at : (a : Machine) → machine_at w m ≡ Some a → (i : ℕ) (b : Machine) (d : Daemon) → PlacedAt w.machines (m - 1) (f a) i b → Contains (daemons_on b) d → Stood stands d.setting d.trace
    stood_at a at i b d (Replaced here same) inside =
        stood_same stands a (f a) (stays a) (λ x there. h.stood (m - 1) a x (machine_place w m a at) there) d (subst (λ (z : Machine). Contains (daemons_on z) d) same inside)
    stood_at a at i b d (Stayed other was) inside = h.stood i b d was inside

    go : (o : Option Machine) → machine_at w m ≡ o → Hosted stands hosts (world_by o)
    go None at = h
    go (Some a) at =
        record {
          counted = h.counted ∙ sym (set_length w.machines (m - 1) (f a));
          runs = λ i b o there host. runs_at a at i b o (placed w.machines (m - 1) (f a) i b there) host;
          stood = λ i b d there inside. stood_at a at i b d (placed w.machines (m - 1) (f a) i b there) inside;
        }

-- All do: time passes.
pub passed_hosted : {D : Type 0} (stands : D → Setting → Trace → Type 0) (hosts : List (Option D)) (w : World) → Hosted stands hosts w → (d : ℕ) (gs : Option (List ℕ))
    → Hosted stands hosts (after_pass d gs w)
passed_hosted stands hosts w h d gs =
    record {
      counted = h.counted ∙ sym (enumerated (passed d gs) 1 w.machines);
      runs = λ i b o there host. let a = numbered_at (passed d gs) 1 w.machines i b there in
          subst (λ (z : Machine). RunsOn stands o z.daemon) a.2 (h.runs i a.0 o a.1 host);
      stood = λ i b x there inside. let a = numbered_at (passed d gs) 1 w.machines i b there in
          h.stood i a.0 x a.1 (subst (λ (z : Machine). Contains (daemons_on z) x) (sym a.2) inside);
    }

-- ---- a machine whose daemon changes, with the one that runs

pub changed_hosted : {D : Type 0} (stands : D → Setting → Trace → Type 0) (hosts : List (Option D)) (w : World) → Hosted stands hosts w → (m : ℕ) (a : Machine)
    → machine_at w m ≡ Some a → (f : Machine → Machine) (next : Option D) → RunsOn stands next (f a).daemon
    → ((d : Daemon) → Contains (daemons_on (f a)) d → Stood stands d.setting d.trace) → Hosted stands (slice_set hosts (m - 1) next) (change_machine m f w)
changed_hosted {D} stands hosts w h m a at f next runs_now stood_now =
    subst (Hosted stands (slice_set hosts (m - 1) next)) (sym (ap world_by at)) (record {
      counted = set_length hosts (m - 1) next ∙ h.counted ∙ sym (set_length w.machines (m - 1) (f a));
      runs = λ i b o there host. runs_at i b o (set_two w.machines hosts (m - 1) i (f a) b next o there host);
      stood = λ i b d there inside. stood_at i b d (placed w.machines (m - 1) (f a) i b there) inside;
    })
  where
    world_by : Option Machine → World
    world_by o = elim o [ None ↦ w | Some b ↦ record w { machines = slice_set w.machines (m - 1) (f b) } ]

    runs_at : (i : ℕ) (b : Machine) (o : Option D) → ((b ≡ f a) × (o ≡ next)) ⊎ ((slice_get w.machines i ≡ Some b) × (slice_get hosts i ≡ Some o)) → RunsOn stands o b.daemon
    runs_at i b o (inl new) =
        subst (λ (z : Machine). RunsOn stands o z.daemon) (sym new.0) (subst (λ (z : Option D). RunsOn stands z (f a).daemon) (sym new.1) runs_now)
    runs_at i b o (inr old) = h.runs i b o old.0 old.1

    stood_at : (i : ℕ) (b : Machine) (d : Daemon) → PlacedAt w.machines (m - 1) (f a) i b → Contains (daemons_on b) d → Stood stands d.setting d.trace
    stood_at i b d (Replaced here same) inside = stood_now d (subst (λ (z : Machine). Contains (daemons_on z) d) same inside)
    stood_at i b d (Stayed other was) inside = h.stood i b d was inside
