-- What is due of a daemon that has nothing to do.
use Rattle.sl_due.specs.Due.{due}
use Rattle.sl_trace.specs.Traces.{Setting, no_effects}
use Rattle.sl_trace.specs.declared.input.Input.TheVariants.{Wake}
use Rattle.std.specs.Prelude.{[], ℕ, ◌≡◌}

-- A daemon without sessions does nothing on its first wake.
abbrev pub IdleWakesDoNothing : Type 0
IdleWakesDoNothing = (st : Setting) (now : ℕ) → st.given ≡ [] → due st [] now Wake ≡ no_effects
