-- What a read of all ids shows a session, as it is found before it is acted on.
use Rattle.sl_host_answers.specs.declared.surveys.Shown.{Shown}
use Rattle.sl_host_law.specs.Answers.Surveys.{is_asked_by, reading_request, reading_request_on}
use Rattle.sl_host_law.specs.StepParts.Signals.{over}
use Rattle.sl_host_law.specs.Questions.Members.{begins_by_read_in}
use Rattle.sl_host_state.specs.KeptState.{HostKept, HostState, MemberState}
use Rattle.sl_host_work.specs.Stops.{stopped_of, stopping}
use Rattle.sl_host_work.specs.declared.recoveries.Stopped.{Stopped}
use Rattle.sl_member.specs.HostMembers.{member_with}
use Rattle.sl_trace.specs.declared.session.Session.{Session}
use Rattle.sl_trace.specs.declared.effects.Grant.{Grant}
use Rattle.sl_trace.specs.declared.effects.Spot.{Spot}
use Rattle.sl_host.specs.Host.{HostView}
use Rattle.sl_words.specs.Words.{choose}
use Rattle.std.specs.Prelude.{List, None, Option, Some, [], length, map, ℕ, ◌≡◌}

-- A member: what of it is stopped where its recovery begins by the read, and its session where others ask for what it holds.
abbrev pub shown_of : HostState → List ℕ → MemberState → Shown
shown_of h bytes m = record { stopped = choose (begins_by_read_in h m.renewing.recovery) (stopped_of m); asked = choose (is_asked_by h.config.layout m.who bytes) m.who }

-- Of one that is joined.
abbrev pub member_shown : HostState → List ℕ → Option MemberState → Option Shown
member_shown h bytes None = None
member_shown h bytes (Some m) = choose m.joined (shown_of h bytes m)

-- The areas of a member's leases.
abbrev pub spots_of : Option MemberState → List Spot
spots_of None = []
spots_of (Some m) = map (λ l. l.spot) m.leases

-- How many leases it has.
abbrev pub leases_of : ℕ → HostKept → ℕ
leases_of n k = length (spots_of (member_with n k.members))

-- The request under it is read.
abbrev pub reading_held : Session → Option Grant → HostState → HostState
reading_held s o h = elim o [ None ↦ h | Some g ↦ reading_request s g h ]

-- A recovery begins, where it does.
abbrev pub stopping_by : Option Stopped → HostState → HostState
stopping_by None h = h
stopping_by (Some s) h = stopping s None h

-- The requests under the leases on these areas are read, where others ask.
abbrev pub reading_asked : Option Session → List Spot → HostState → HostState
reading_asked None spots h = h
reading_asked (Some s) spots h = over spots (reading_request_on s) h

-- All that is done.
abbrev pub acting : Option Shown → List Spot → HostState → HostState
acting None spots h = h
acting (Some s) spots h = reading_asked s.asked spots (stopping_by s.stopped h)

-- Who holds stays.
abbrev pub SameHoldings : HostView → HostView → Type 0
SameHoldings old new = new.kept.holdings ≡ old.kept.holdings
