-- A step that has come to its input: it has made no call, and its replies are those of before an input.
use Rattle.sl_host_state.specs.KeptState.{HostState}
use Rattle.sl_trace.specs.Traces.{is_before_input}
use Rattle.std.specs.List.{AllByRecursion}
use Rattle.std.specs.Prelude.{IsTrue, [], ◌≡◌}

pub record IsAtInput (h : HostState) : Type 0 where
  pub calls : h.made.calls ≡ []
  pub replies : AllByRecursion (λ r. IsTrue (is_before_input r.reply)) h.made.replies
