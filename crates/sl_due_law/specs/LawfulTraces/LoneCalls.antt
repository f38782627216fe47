-- What is kept of a first read and of a look at a request, for which no law says that their sessions may call.
use Rattle.sl_due.specs.Steps.{Step, seen}
use Rattle.sl_trace.specs.Sessions.{is_join_call}
use Rattle.sl_due_facts.specs.Facts.HeardCall.{heard_by}
use Rattle.sl_trace.specs.Traces.{holdings, is_running, line_in}
use Rattle.sl_trace.specs.declared.effects.Call.{Call}
use Rattle.sl_trace.specs.declared.effects.Grant.{Grant}
use Rattle.sl_trace.specs.declared.effects.JoinStep.TheVariants.{FirstRead}
use Rattle.sl_trace.specs.declared.effects.Purpose.{Purpose}
use Rattle.sl_trace.specs.declared.effects.Purpose.TheVariants.{Joining, SeeRequest}
use Rattle.std.specs.Prelude.{Bool, Contains, false, is_some, true, ℕ, ◌≡◌}

-- Whether a call looks at a request.
abbrev pub sees_request : Purpose → Bool
sees_request SeeRequest = true
sees_request p = false

-- A call of an entry is neither; or it is the first read of a joining that runs, made at a line; or a look at a request by a session that
-- holds something, made at an answer.
pub data LoneCall (x : Step) (c : Call) : Type 0 where
  Plain_call : is_join_call FirstRead c.purpose ≡ false → sees_request c.purpose ≡ false → LoneCall x c
  Looks_first : (j : ℕ) → c.purpose ≡ Joining j FirstRead → is_some (line_in x.input) ≡ true → is_running (seen x) j ≡ true → LoneCall x c
  Sees_request : (g : Grant) → c.purpose ≡ SeeRequest → is_some (heard_by x.input) ≡ true → Contains (holdings (seen x)) g → g.session ≡ c.session → LoneCall x c

abbrev pub Lones : Step → Type 0
Lones x = (c : Call) → Contains x.effects.calls c → LoneCall x c
