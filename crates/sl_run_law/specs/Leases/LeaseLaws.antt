-- What one lawful trace promises of one session on one resource's area. The safety of ballots asks these of the hosts; each is a fact
-- of one trace, with no other host and no disk in it:
--
--   IsLastWrite, IsFoundBlock   the own block is the one last submitted, else the one last read
--   IsPhase1, IsPhase2, KeepsBallot, GoesUp, NumbersArePositive     how a block comes from the own block and a read
--   IsRegister.answered, forward                                    an answer is later than its call
--   BallotEnded                 a phase 2 and a later read that shows nothing ahead
--   BeginReason                 but for what a read shows: that is the disk's
--   LeadersHaveWon, ExclusiveGranted, SharedGranted, FreesAfterMark, LooksAfterBegun    what stands before a leader or a grant
--
-- What reads show (IsRegister.submitted, earlier; ShowsNewest) and that sessions come in order are no facts of one trace. ShowsNewest
-- rests on one of them: that a session has one block write in flight.
use Rattle.sl_area.specs.AreaSizes.{Layout}
use Rattle.sl_run.specs.Lawful.{Orderly}
use Rattle.sl_run.specs.LawfulArea.{is_area_work, is_block_work}
use Rattle.sl_run.specs.LawfulModes.{LawfulSharedGrant}
use Rattle.sl_run_law.specs.Leases.CallFronts.{LawfulSubmission}
use Rattle.sl_run_law.specs.Leases.ModesRest.{ExclusiveRests, ModeRests}
use Rattle.sl_run_law.specs.Leases.Ways.{BlockComes, BlockFront, LeaderRests, Phase2ReadRests, Phase2Rests}
use Rattle.sl_sector.specs.declared.sector.Block.{Block}
use Rattle.sl_sector.specs.declared.sector.Leader.{Leader}
use Rattle.sl_trace.specs.Sessions.{session_numbered}
use Rattle.sl_trace.specs.Leases.{Phase2_read, Phase2_write, block_written, is_at, is_on, leader_written, spot_of_call}
use Rattle.sl_trace.specs.declared.session.Session.{Session}
use Rattle.sl_trace.specs.Traces.{Answered, Setting, Submitted, Trace, spot_of_grant, submitted}
use Rattle.sl_trace.specs.declared.effects.Entry.{Entry}
use Rattle.sl_trace.specs.declared.effects.Grant.{Grant}
use Rattle.sl_trace.specs.declared.effects.Mode.TheVariants.{Exclusive, Shared}
use Rattle.std.specs.Prelude.{Contains, IsTrue, List, Some, ◌++◌, ◌∷◌, ◌≡◌, ◌≤◌}

-- Each call was submitted at a front of the trace.
abbrev pub EachWasSubmitted : Type 0
EachWasSubmitted = (st : Setting) (es : Trace) → Orderly st es → (newer older : List Submitted) (c : Submitted) → submitted es ≡ newer ++ c ∷ older
    → LawfulSubmission st es c older

-- The first call was answered before the other was submitted, or in the entry that submitted it.
pub record WasAnsweredBy (d c : Submitted) : Type 0 where
  pub answer : Answered
  pub answered : d.answer ≡ Some answer
  pub by : answer.at ≤ c.at

-- Of a session's calls on an area that write or read blocks, each was answered by the time that a later one was submitted: so at most
-- one is unanswered. (Delta records are written beside them, by calls that are no work on an area.)
abbrev pub OneAtATime : Type 0
OneAtATime = (st : Setting) (es : Trace) → Orderly st es → (newer between older : List Submitted) (c d : Submitted)
    → submitted es ≡ newer ++ c ∷ (between ++ d ∷ older) → c.call.session ≡ d.call.session
    → IsTrue (is_block_work c) → IsTrue (is_area_work c.call.purpose) → IsTrue (is_block_work d) → IsTrue (is_area_work d.call.purpose) → IsTrue (is_on st.layout (spot_of_call st.layout c) d.call)
    → WasAnsweredBy d c

-- Each block comes from the own block by one of three ways. (With no hosts there are no numbers.)
abbrev pub BlocksCome : Type 0
BlocksCome = (st : Setting) (es : Trace) → Orderly st es → 1 ≤ st.layout.hosts → (newer older : List Submitted) (c : Submitted) (b : Block)
    → submitted es ≡ newer ++ c ∷ older → block_written c ≡ Some b → (s : Session) → session_numbered st es c.call.session ≡ Some s
    → BlockComes st s (spot_of_call st.layout c) older c b

-- Each block of phase 2 rests on its own phase 1 and on a read after it.
abbrev pub Phase2Follows : Type 0
Phase2Follows = (st : Setting) (es : Trace) → Orderly st es → (newer older : List Submitted) (c : Submitted) (b : Block) → submitted es ≡ newer ++ c ∷ older
    → block_written c ≡ Some b → IsTrue (is_at Phase2_write c) → (s : Session) → session_numbered st es c.call.session ≡ Some s
    → Phase2Rests st es s (spot_of_call st.layout c) older c b

-- Each read of phase 2 follows its own phase 2.
abbrev pub Phase2IsRead : Type 0
Phase2IsRead = (st : Setting) (es : Trace) → Orderly st es → (newer older : List Submitted) (c : Submitted) → submitted es ≡ newer ++ c ∷ older
    → IsTrue (is_at Phase2_read c) → (s : Session) → session_numbered st es c.call.session ≡ Some s → Phase2ReadRests st s (spot_of_call st.layout c) older c

-- Each leader is written by a session that won its instance.
abbrev pub LeadersFollow : Type 0
LeadersFollow = (st : Setting) (es : Trace) → Orderly st es → (newer older : List Submitted) (c : Submitted) (l : Leader) → submitted es ≡ newer ++ c ∷ older
    → leader_written c ≡ Some l → (s : Session) → session_numbered st es c.call.session ≡ Some s → LeaderRests st es s (spot_of_call st.layout c) older c l

-- Each block's mode is that of a holding.
abbrev pub ModesFollow : Type 0
ModesFollow = (st : Setting) (es : Trace) → Orderly st es → (newer older : List Submitted) (c : Submitted) (b : Block) → submitted es ≡ newer ++ c ∷ older
    → block_written c ≡ Some b → (s : Session) → session_numbered st es c.call.session ≡ Some s → ModeRests es s (spot_of_call st.layout c) older c b

-- Each exclusive grant follows a ballot that was won.
abbrev pub ExclusiveFollows : Type 0
ExclusiveFollows = (st : Setting) (es : Trace) → Orderly st es → (later past : Trace) (e : Entry) → es ≡ later ++ e ∷ past → (g : Grant) → Contains e.effects.grants g
    → g.mode ≡ Exclusive → (s : Session) → session_numbered st es g.session ≡ Some s → ExclusiveRests st (e ∷ past) s (spot_of_grant g) g

-- Areas are apart: a call on the area of another is of that area. So what is said of the area of a call is said of each call on it.
abbrev pub AreasAreApart : Type 0
AreasAreApart = (g : Layout) (c d : Submitted) → IsTrue (is_on g (spot_of_call g c) d.call) → spot_of_call g d ≡ spot_of_call g c

-- Each shared grant joins a shared holding of the session, or follows a ballot that it won and a mark that was answered.
abbrev pub SharedFollows : Type 0
SharedFollows = (st : Setting) (es : Trace) → Orderly st es → (later past : Trace) (e : Entry) → es ≡ later ++ e ∷ past → (g : Grant) → Contains e.effects.grants g
    → g.mode ≡ Shared → (s : Session) → session_numbered st es g.session ≡ Some s → LawfulSharedGrant st past (e ∷ past) s (spot_of_grant g) g.lver

-- Each block was written by the law of blocks at its front.
abbrev pub BlocksHaveFronts : Type 0
BlocksHaveFronts = (st : Setting) (es : Trace) → Orderly st es → (newer older : List Submitted) (c : Submitted) (b : Block) → submitted es ≡ newer ++ c ∷ older
    → block_written c ≡ Some b → (s : Session) → session_numbered st es c.call.session ≡ Some s → BlockFront st es s older c b
