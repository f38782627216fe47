-- Children that are kept: those whose start is unanswered, and those that run.
use Rattle.sl_host_state.specs.HostStands.{is_there}
use Rattle.sl_tables.specs.declared.children.ChildState.{ChildState}
use Rattle.sl_trace.specs.Traces.{Child, child_after}
use Rattle.sl_trace.specs.declared.input.Input.{Input}
use Rattle.sl_words.specs.Words.{choose}
use Rattle.std.specs.List.{AllByRecursion}
use Rattle.std.specs.Prelude.{List, None, Option, Some, false, filter, map, true, ℕ, ◌≡◌}

-- A child by what is kept of it.
abbrev pub child_of : ChildState → Child
child_of c = record { process = c.process; job = c.job; stands_for = c.stands_for; answer = choose c.started true; exited = c.exited }

-- Of them all, the oldest first; above which number the next is; for how many more there is memory; how many gaps there are.
pub record ChildrenState : Type 0 where
  pub children : List Child
  pub next : ℕ
  pub room : ℕ
  pub gaps : ℕ

-- Each stands at its own number, and is there.
abbrev pub AreChildren : List (ℕ × ChildState) → Type 0
AreChildren items = AllByRecursion (λ p. (p.1.process ≡ p.0) × (is_there (child_of p.1) ≡ true)) items

-- What an input leaves of one: this in its place, or nothing.
abbrev pub IsLeft : Input → ChildState → Option ChildState → Type 0
IsLeft i c (Some y) = (child_of y ≡ child_after i (child_of c)) × (is_there (child_of y) ≡ true) × (y.process ≡ c.process)
IsLeft i c None = (is_there (child_after i (child_of c)) ≡ false)

-- What an input leaves of them.
abbrev pub children_left : Input → List Child → List Child
children_left i ks = filter is_there (map (child_after i) ks)
