-- Questions of a step that go through more than one list, and what answers them of a host.
use Rattle.sl_due.specs.DueRecovery.{begins_now, is_kill_due}
use Rattle.sl_due.specs.Steps.{Step, seen}
use Rattle.sl_host_state.specs.KeptState.{HostState}
use Rattle.sl_host_state.specs.HostStands.{Stands}
use Rattle.sl_trace.specs.Counts.{busy_among, busy_process, child_count, holder_count}
use Rattle.sl_trace.specs.KillPrograms.{stopper_of}
use Rattle.sl_trace.specs.Jobs.{is_asking_lease, is_program}
use Rattle.sl_trace.specs.declared.session.Begun.{Begun}
use Rattle.sl_trace.specs.WatchdogConnections.{is_registered}
use Rattle.sl_trace.specs.CountLimits.{most_children}
use Rattle.sl_trace.specs.Traces.{same_place}
use Rattle.sl_trace.specs.declared.command.Command.{Command}
use Rattle.sl_trace.specs.declared.effects.Spot.{Spot}
use Rattle.sl_trace.specs.declared.input.Input.{Input}
use Rattle.sl_words.specs.Words.{choose, some_is}
use Rattle.std.specs.List.{list_any}
use Rattle.std.specs.Prelude.{Bool, List, Option, bytes_eq, count_by, filter, find, is_some, length, nat_le, nat_lt, not, option_and_then, option_map, ℕ, ◌&&◌, ◌+◌, ◌-◌, ◌==◌, ◌≡◌}

-- Whether a recovery or a leaving began in the step.
abbrev pub begins_in : HostState → Option Begun → Bool
begins_in h begun = some_is (λ b. b.at + 1 == h.entries) begun

-- Whether the step is the first, from the start's on, whose reading is at least this.
abbrev pub is_first_in : HostState → ℕ → ℕ → Bool
is_first_in h from now = nat_le from (h.entries - 1) && nat_le now h.reading && not (nat_lt from (h.entries - 1) && nat_le now h.before)

-- Whether the kills of a recovery or a leaving are due in the step.
abbrev pub is_kill_due_in : HostState → Option Begun → Bool
is_kill_due_in h begun = some_is (λ b. is_first_in h b.kills_from (b.reading + h.config.grace)) begun

-- The running jobs of these commands that have no grant yet.
abbrev pub ungranted_in : HostState → (Command → Bool) → ℕ
ungranted_in h p = count_by (λ j. some_is p j.command && not (is_some j.child)) h.jobs

-- The kill program that is to be started in place of a term, while a child number is left.
abbrev pub stopper_in : HostState → ℕ → Option (List ℕ)
stopper_in h p =
    option_and_then (λ program. choose (not (nat_le most_children (h.started + ungranted_in h is_program))) program)
    (option_map (λ k. k.program) (find (λ k. k.process == p) h.programs))

-- Each has the answer that the host has.
pub record QuestionsAreAnswered : Type 0 where
  pub begins : (i : Input) (h : HostState) (x : Step) (begun : Option Begun) → Stands i h x → begins_now (seen x) begun ≡ begins_in h begun
  pub kills : (i : Input) (h : HostState) (x : Step) (begun : Option Begun) → Stands i h x → is_kill_due x.setting (seen x) begun ≡ is_kill_due_in h begun
  pub holders : (i : Input) (h : HostState) (x : Step) → Stands i h x → holder_count x.setting (seen x) ≡ length h.holdings + ungranted_in h is_asking_lease
  pub children : (i : Input) (h : HostState) (x : Step) → Stands i h x → child_count x.setting (seen x) ≡ h.started + ungranted_in h is_program
  pub stopper : (i : Input) (h : HostState) (x : Step) (p : ℕ) → Stands i h x → stopper_of x.setting (seen x) p ≡ stopper_in h p
  pub busy : (i : Input) (h : HostState) (x : Step) (at : Spot) (asking : Option ℕ) (shared : Bool) → Stands i h x
      → busy_process (seen x) at asking shared ≡ busy_among (filter (λ g. same_place g.path g.offset at.path at.base) h.holdings) asking shared
  pub registered : (i : Input) (h : HostState) (x : Step) (name : List ℕ) → Stands i h x → is_registered x.setting (seen x) name ≡ list_any (λ n. bytes_eq n name) h.connected
