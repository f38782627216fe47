-- Runs that show that the theorems are about something, and that each wait is as short as it may be.
use Rattle.sl_ids.specs.Interface.{Evidence, HasJoined, IsOver}
use Rattle.sl_ids.specs.Runs.{Later, Reached}
use Rattle.sl_ids.specs.State.{Claimed, Content, IsLast, SessionId, State, shown}
use Rattle.sl_ids.specs.Terms.{AreLongEnough, Terms}
use Rattle.std.specs.Prelude.{Some, false, ℕ, ◌+◌, ◌<◌, ◌≡◌, ◌≤◌}

-- Witness: a session dies; another watches, claims, verifies and joins, with the next generation.
pub record SomeIdIsTakenOver : Type 0 where
  pub terms : Terms
  pub long : AreLongEnough terms
  pub state : State
  pub reached : Reached terms state
  pub old : SessionId
  pub new : SessionId
  pub died : IsOver state old
  pub first : HasJoined state old
  pub joined : HasJoined state new
  pub alive : (state.session new).over ≡ false
  pub next : (state.session new).generation ≡ (state.session old).generation + 1

-- There is evidence against a generation, and its session is joined later and not over.
pub record HasFalseEvidence (r : Terms) : Type 0 where
  pub state : State
  pub later : State
  pub reached : Reached r state
  pub generation : ℕ
  pub evidence : Evidence r state generation
  pub goes_on : Later r state later
  pub alive : SessionId
  pub joined : HasJoined later alive
  pub its : (later.session alive).generation ≡ generation
  pub not_over : (later.session alive).over ≡ false

-- Counterexample to a shorter watch: with all waits long enough but the watch, which is one too short, a second session's claim lands
-- beside a first one that verified its own claim at the last moment. Its greater generation is evidence against the first, which is
-- alive.
pub record ShorterWatchFails : Type 0 where
  pub terms : Terms
  pub some : 0 < terms.hold
  pub watch : terms.hold + terms.gone ≡ terms.watch + 3
  pub wait : terms.gone ≤ terms.wait + 1
  pub silence : terms.gone ≤ terms.silence + 1
  pub fails : HasFalseEvidence terms

-- Counterexample to a shorter wait before the verify read: with all waits long enough but this one, which is one too short, two sessions
-- that decided on one free record both join, and neither is over.
pub record ShorterWaitFails : Type 0 where
  pub terms : Terms
  pub some : 0 < terms.hold
  pub watch : terms.hold + terms.gone ≤ terms.watch + 2
  pub wait : terms.gone ≡ terms.wait + 2
  pub silence : terms.gone ≤ terms.silence + 1
  pub state : State
  pub reached : Reached terms state
  pub one : SessionId
  pub other : SessionId
  pub apart : one ≡ other → ⊥
  pub one_joined : HasJoined state one
  pub other_joined : HasJoined state other
  pub one_alive : (state.session one).over ≡ false
  pub other_alive : (state.session other).over ≡ false

-- Counterexample to a shorter silence: with all waits long enough but this one, which is one too short, a live record is seen twice and
-- its session is alive.
pub record ShorterSilenceFails : Type 0 where
  pub terms : Terms
  pub some : 0 < terms.hold
  pub watch : terms.hold + terms.gone ≤ terms.watch + 2
  pub wait : terms.gone ≤ terms.wait + 1
  pub silence : terms.gone ≡ terms.silence + 2
  pub fails : HasFalseEvidence terms

-- Counterexample to the silence of a claim as evidence: with all waits long enough a claim is seen twice, as far apart as a silence has
-- to be, and its session joins later. So evidence of silence has to be of a live record.
pub record SilentClaimFails : Type 0 where
  pub terms : Terms
  pub long : AreLongEnough terms
  pub first : State
  pub last : State
  pub end : State
  pub reached : Reached terms first
  pub later : Later terms first last
  pub index : ℕ
  pub content : Content
  pub first_shown : IsLast first index × (shown first index ≡ Some content)
  pub last_shown : IsLast last index × (shown last index ≡ Some content)
  pub claim : content.kind ≡ Claimed
  pub apart : first.now + terms.silence < last.now
  pub goes_on : Later terms last end
  pub writer : SessionId
  pub joined : HasJoined end writer
  pub its : (end.session writer).generation ≡ content.generation
  pub alive : (end.session writer).over ≡ false
