-- A look at a request, as it is found before it is heeded.
use Rattle.sl_area.specs.AreaSizes.{Layout}
use Rattle.sl_due.specs.DueRequests.{signal_of_force, signal_of_request}
use Rattle.sl_host_law.specs.Questions.Members.{exclusive_at}
use Rattle.sl_host_state.specs.KeptState.{HostState, MemberState}
use Rattle.sl_sector.specs.declared.sector.Request.{Request}
use Rattle.sl_trace.specs.Traces.{is_orphan, is_shared, same_place}
use Rattle.sl_trace.specs.declared.effects.Grant.{Grant}
use Rattle.sl_trace.specs.declared.effects.Signal.{Signal}
use Rattle.sl_trace.specs.declared.effects.Spot.{Spot}
use Rattle.sl_host.specs.BookQuestions.{held_under}
use Rattle.sl_words.specs.Words.{choose}
use Rattle.std.specs.Prelude.{List, None, Option, Some, cond, filter, find, nat_lt, not, option_and_then, option_map, ℕ}

-- The signal to a holding by a request, if it asks for more.
abbrev pub signal_by : ℕ → Option Request → Option Signal
signal_by held q = option_and_then (λ r. choose (nat_lt held r.lver) (signal_of_force r.force)) q

-- To which process of a holding which signal goes.
abbrev pub look_of : Layout → List ℕ → Option Grant → Option (ℕ × Signal)
look_of g bytes None = None
look_of g bytes (Some held) = cond (not (is_orphan held)) (option_map (λ s. (held.process, s)) (signal_of_request g bytes held)) None

-- The same under the exclusive lease of a member.
abbrev pub member_look : HostState → Spot → List ℕ → Option MemberState → Option (ℕ × Signal)
member_look h at bytes None = None
member_look h at bytes (Some m) = look_of h.config.layout bytes (exclusive_at h m at)

-- The exclusive holding of a session on an area.
abbrev pub exclusive_under : ℕ → Spot → List Grant → Option Grant
exclusive_under session at held = find (λ g. not (is_shared g.mode)) (filter (λ g. same_place g.path g.offset at.path at.base) (held_under session held))
