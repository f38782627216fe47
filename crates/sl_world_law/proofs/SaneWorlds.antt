-- A world stays sane where one machine of it changes, where a write lands, and where a step is counted.
use Rattle.sl_world_state.specs.SaneWorlds.{IsSane, IsSaneMachine}
use Rattle.sl_world_law.proofs.Lookups.{machine_place}
use Rattle.sl_words.proofs.Lists.{contains_cases, set_length}
use Rattle.sl_words.proofs.Places.{PlacedAt, Replaced, Stayed, placed}
use Rattle.sl_run.specs.EventChanges.{add_landing, next_step}
use Rattle.sl_run.specs.Worlds.{Daemon, Landing, Machine, World, change_machine, daemons_on, machine_at, sector_size}
use Rattle.sl_run.specs.declared.header.Header.{Header}
use Rattle.sl_world_law.proofs.SaneMachines.{still_sane}
use Rattle.sl_text.specs.Forms.{Form}
use Rattle.sl_trace.specs.CommandForms.{command_in}
use Rattle.sl_trace.specs.Traces.{Setting}
use Rattle.sl_trace.specs.declared.command.Command.{Command}
use Rattle.sl_trace.specs.declared.effects.Call.{Call}
use Rattle.std.proofs.Common.{arith, inl, inr, refl, subst, sym, ◌∙◌}
use Rattle.std.specs.Prelude.{Bool, Contains, List, None, Option, Some, length, slice_set, ℕ, ◌+◌, ◌-◌, ◌≡◌, ◌≤◌}

-- A daemon's setting is of its world.
pub record IsOf (commands : Header → List (Form Command)) (w : World) (st : Setting) : Type 0 where
  pub read : st.read ≡ command_in (commands w.header)
  pub layout : st.layout ≡ w.layout

-- So is that of each daemon of a machine.
abbrev pub AreOf : (Header → List (Form Command)) → World → Machine → Type 0
AreOf commands w a = (d : Daemon) → Contains (daemons_on a) d → IsOf commands w d.setting

pub are_of : (commands : Header → List (Form Command)) (w : World) → IsSane commands w → (m : ℕ) (a : Machine) → machine_at w m ≡ Some a → AreOf commands w a
are_of commands w is m a at d inside =
    record { read = is.forms (m - 1) a d (machine_place w m a at) inside; layout = is.layouts (m - 1) a d (machine_place w m a at) inside }

one_later : (n : ℕ) → n ≤ n + 1
one_later n = omega arith

same_most : (n : ℕ) → n ≤ n
same_most n = omega arith

pub next_sane : (commands : Header → List (Form Command)) (w : World) → IsSane commands w → IsSane commands (next_step w)
next_sane commands w is =
    record {
      header = is.header;
      program = is.program;
      layout = is.layout;
      counted = is.counted;
      below = is.below;
      sane = λ i a at. still_sane w (next_step w) a (one_later w.step) (same_most w.moment) refl (is.sane i a at);
      forms = is.forms;
      layouts = is.layouts;
      landings = is.landings;
    }

pub landed_sane : (commands : Header → List (Form Command)) (w : World) → IsSane commands w → (m : ℕ) (c : Call) (whole : Bool) (bytes : List ℕ)
    → length bytes ≡ sector_size w → IsSane commands (add_landing m c whole bytes w)
landed_sane commands w is m c whole bytes size =
    record {
      header = is.header;
      program = is.program;
      layout = is.layout;
      counted = is.counted;
      below = is.below;
      sane = λ i a at. still_sane w (add_landing m c whole bytes w) a (same_most w.step) (same_most w.moment) refl (is.sane i a at);
      forms = is.forms;
      layouts = is.layouts;
      landings = λ l there. elim (contains_cases new w.landings l there) [
        | inl same ↦ subst (λ (x : Landing). length x.bytes ≡ sector_size w) same size
        | inr older ↦ is.landings l older
      ];
    }
  where
    new : Landing
    new = record { path = c.path; offset = c.offset; bytes = bytes; whole = whole; writer = Some (m, c.number); step = w.step; moment = w.moment }

-- One machine changes, and a step is counted.
pub changed_world : (commands : Header → List (Form Command)) (w : World) → IsSane commands w → (m : ℕ) (f : Machine → Machine)
    → ((a : Machine) → machine_at w m ≡ Some a → IsSaneMachine w a → IsSaneMachine (next_step w) (f a))
    → ((a : Machine) → machine_at w m ≡ Some a → AreOf commands w a → AreOf commands w (f a))
    → IsSane commands (next_step (change_machine m f w))
changed_world commands w is m f stays settings = go (machine_at w m) refl
  where
    world_by : Option Machine → World
    world_by o = elim o [ None ↦ w | Some a ↦ record w { machines = slice_set w.machines (m - 1) (f a) } ]

    at_place : (a : Machine) → machine_at w m ≡ Some a → (i : ℕ) (b : Machine) → PlacedAt w.machines (m - 1) (f a) i b → IsSaneMachine (next_step w) b
    at_place a at i b (Replaced here same) = subst (IsSaneMachine (next_step w)) (sym same) (stays a at (is.sane (m - 1) a (machine_place w m a at)))
    at_place a at i b (Stayed other there) = still_sane w (next_step w) b (one_later w.step) (same_most w.moment) refl (is.sane i b there)

    of_place : (a : Machine) → machine_at w m ≡ Some a → (i : ℕ) (b : Machine) → PlacedAt w.machines (m - 1) (f a) i b → AreOf commands w b
    of_place a at i b (Replaced here same) = subst (AreOf commands w) (sym same) (settings a at (are_of commands w is m a at))
    of_place a at i b (Stayed other there) = λ d inside. record { read = is.forms i b d there inside; layout = is.layouts i b d there inside }

    go : (o : Option Machine) → machine_at w m ≡ o → IsSane commands (next_step (world_by o))
    go None at = next_sane commands w is
    go (Some a) at =
        record {
          header = is.header;
          program = is.program;
          layout = is.layout;
          counted = set_length w.machines (m - 1) (f a) ∙ is.counted;
          below = is.below;
          sane = λ i b there. still_sane (next_step w) (next_step (world_by (Some a))) b (same_most (w.step + 1)) (same_most w.moment) refl
              (at_place a at i b (placed w.machines (m - 1) (f a) i b there));
          forms = λ i b d there inside. (of_place a at i b (placed w.machines (m - 1) (f a) i b there) d inside).read;
          layouts = λ i b d there inside. (of_place a at i b (placed w.machines (m - 1) (f a) i b there) d inside).layout;
          landings = is.landings;
        }
