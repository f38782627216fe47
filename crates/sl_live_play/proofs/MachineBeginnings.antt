-- What machines begin with, from what the ground hands out.
use Rattle.sl_world_state.specs.Daemons.{begun_with}
use Rattle.sl_world_state.specs.declared.daemon.Site.{Site}
use Rattle.sl_world_state.specs.FirstKept.{session_of}
use Rattle.sl_world_state.specs.SaneWorlds.{ReadsCommands}
use Rattle.sl_live_run.specs.Grounds.{IsGroundOf, IsSiteOf}
use Rattle.sl_live_run.specs.Laws.{SitesAreSettings}
use Rattle.sl_live_run.specs.Runs.{disks_in}
use Rattle.sl_live_run.specs.declared.ground.Ground.{Ground}
use Rattle.sl_live_play.specs.LiveOwed.{Beginnings}
use Rattle.sl_words.proofs.Lists.{got_index, there_is}
use Rattle.sl_outside.specs.declared.act.Act.{Act}
use Rattle.sl_run.specs.Headers.{IsHeader}
use Rattle.sl_run.specs.Lawful.{IsSetting}
use Rattle.sl_run.specs.declared.header.Header.{Header}
use Rattle.sl_text.specs.Forms.{Form}
use Rattle.sl_trace.specs.declared.command.Command.{Command}
use Rattle.sl_words.proofs.CaseLaws.{none_some, some_value}
use Rattle.std.proofs.Common.{List, Option, Some, [], length, map, refl, subst, suc, sym, zero, ℕ, ◌+◌, ◌∙◌, ◌∷◌, ◌≡◌}
use Rattle.std.proofs.lemmas.List.{length-map}
use Rattle.std.specs.Prelude.{All, slice_get}

-- What stands in a list of what a function makes was made of what stands there.
made_of : {A B : Type 0} (f : A → B) (xs : List A) (k : ℕ) (y : B) → slice_get (map f xs) k ≡ Some y → (x : A) × (slice_get xs k ≡ Some x) × (f x ≡ y)
made_of f [] k y at = absurd (none_some y at)
made_of f (x ∷ xs) zero y at = (x, refl, some_value (f x) y at)
made_of f (x ∷ xs) (suc k) y at = made_of f xs k y at

-- The site of each machine is the one that the header gives it.
pub site_at : {V C P D W G A : Type 0} (last : C → ℕ) (running : P → List ℕ) (spawned : P → Option (List Act)) (since fire : D → ℕ) (h : Header) (g : Ground V C P D W G A)
    → IsGroundOf last running spawned since fire h g → (place : ℕ) (s : Site) → slice_get (map (λ p. p.site) g.machines.items) place ≡ Some s
    → IsSiteOf g.header (place + 1) (session_of g.header (place + 1)) s
site_at last running spawned since fire h g is place s at =
    let p = made_of (λ p. p.site) g.machines.items place s at in
    subst (IsSiteOf g.header (place + 1) (session_of g.header (place + 1))) p.2 (is.ready place p.0 p.1).site

unfoldable pub beginnings : {V C P D W G A : Type 0} (last : C → ℕ) (running : P → List ℕ) (spawned : P → Option (List Act)) (since fire : D → ℕ) (h : Header) (g : Ground V C P D W G A)
    → IsGroundOf last running spawned since fire h g → Beginnings h
beginnings last running spawned since fire h g is =
    record {
      header = g.header;
      lawful = is.lawful;
      same = is.same;
      sites = map (λ p. p.site) g.machines.items;
      counted = length-map g.machines.items (λ p. p.site) ∙ is.counted;
      begun = site_at last running spawned since fire h g is;
    }

-- As many have areas as have sites.
pub as_many : {V C P D W G A : Type 0} (g : Ground V C P D W G A) → length (map (λ p. disks_in p.parts) g.machines.items) ≡ length (map (λ p. p.site) g.machines.items)
as_many g = length-map g.machines.items (λ p. disks_in p.parts) ∙ sym (length-map g.machines.items (λ p. p.site))

-- What holds of each by its place holds of all.
all_there : {A : Type 0} (P : A → Type 0) (xs : List A) → ((k : ℕ) (x : A) → slice_get xs k ≡ Some x → P x) → All P xs
all_there P xs each k d lt =
    let there = there_is xs k lt in
    subst P (sym (got_index xs k there.0 d there.1)) (each k there.0 there.1)

-- Each makes a setting of a daemon.
pub are_settings : {V C P D W G A : Type 0} (last : C → ℕ) (running : P → List ℕ) (spawned : P → Option (List Act)) (since fire : D → ℕ) (commands : Header → List (Form Command))
    (h : Header) (g : Ground V C P D W G A) → SitesAreSettings → ((header : Header) → IsHeader header → ReadsCommands commands header)
    → IsGroundOf last running spawned since fire h g
    → All (λ s. IsSetting (begun_with commands g.header s)) (map (λ p. p.site) g.machines.items)
are_settings last running spawned since fire commands h g sites reads is =
    all_there (λ s. IsSetting (begun_with commands g.header s)) (map (λ p. p.site) g.machines.items)
    (λ k s at. sites commands g.header is.lawful (reads g.header is.lawful) (k + 1) s (site_at last running spawned since fire h g is k s at))
