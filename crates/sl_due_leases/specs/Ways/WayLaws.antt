-- What is shown of the ways of leases.
use Rattle.sl_due_facts.specs.Acts.Acts.{Acts}
use Rattle.sl_due.specs.DueRecovery.{begin_recoveries}
use Rattle.sl_due.specs.Steps.{begin_step}
use Rattle.sl_run.specs.LawfulBlock.{LawfulModeWrite, LawfulPhase2, LawfulPhase2Read}
use Rattle.sl_run.specs.LawfulLeader.{HasWon}
use Rattle.sl_due_leases.specs.Ways.WayFactsHeld.{HasGrantGrounds, HasNumberFacts, HasTurnFacts, HasWayFacts}
use Rattle.sl_due_leases.specs.Ways.Nexts.{IsHeard, Moment, NextIs, calls_at, context_at, known_at, place_at}
use Rattle.sl_trace.specs.Jobs.{aim_of}
use Rattle.sl_trace.specs.Conversions.{convert_next}
use Rattle.sl_trace.specs.LeaseDecisions.{lease_next, settle_next}
use Rattle.sl_trace.specs.Releases.{release_next}
use Rattle.sl_trace.specs.Leases.{block_written, ended_ballots, freed, leader_written, lease_calls, lver_written, open_ballot}
use Rattle.sl_trace.specs.declared.lease.Aim.TheVariants.{Converts, Releases, Settles}
use Rattle.sl_trace.specs.declared.lease.Aim.{Aim}
use Rattle.sl_sector.specs.declared.sector.Block.{Block}
use Rattle.sl_sector.specs.declared.sector.Leader.{Leader}
use Rattle.sl_trace.specs.Sessions.{me}
use Rattle.sl_trace.specs.declared.session.Session.{Session}
use Rattle.sl_due_facts.specs.Facts.LeaseFacts.{NumberFacts, TurnFacts}
use Rattle.sl_due_facts.specs.Facts.WayFacts.{ClearWay, ModeWay, Phase2ReadWay, Phase2Way, TakeWay, WayFacts, Ways, way_context}
use Rattle.sl_due_facts.specs.Facts.GrantGrounds.{GrantGrounds}
use Rattle.sl_due_facts.specs.Facts.AllFacts.{Whole, WholeTrace}
use Rattle.sl_trace.specs.Traces.{FollowsTrace, Setting, Submitted, Trace}
use Rattle.sl_trace.specs.declared.effects.Entry.{Entry}
use Rattle.sl_trace.specs.declared.effects.LeaseStep.{LeaseStep}
use Rattle.sl_trace.specs.declared.effects.Mode.TheVariants.{Exclusive}
use Rattle.sl_trace.specs.declared.effects.Mode.{Mode}
use Rattle.sl_trace.specs.declared.effects.Spot.{Spot}
use Rattle.sl_trace.specs.declared.effects.Work.{Work}
use Rattle.sl_trace.specs.declared.input.Answer.{Answer}
use Rattle.std.specs.Prelude.{Contains, List, None, Option, Some, ℕ, ◌<◌, ◌≡◌}

-- ---- what a lease decides fits the calls before it

-- After an answer to its newest call.
abbrev pub AnswersFit : Type 0
AnswersFit =
    (x : Moment) (step : LeaseStep) (aim : Aim) (answer : Answer) → (h : IsHeard x step aim answer) →
    NextIs x (lease_next (place_at x) (known_at x) aim h.call.call.number (lver_written h.call) step answer)

-- In a settling.
abbrev pub SettlingsFit : Type 0
SettlingsFit =
    (x : Moment) → Ways (context_at x) (calls_at x) → aim_of x.setting x.trace x.work ≡ Some Settles → NextIs x (settle_next (place_at x) (known_at x))

-- In a release, where of an exclusive holding the instance was won and no ballot is open.
abbrev pub ReleasesFit : Type 0
ReleasesFit =
    (x : Moment) (mode : Mode) (lver : ℕ) → aim_of x.setting x.trace x.work ≡ Some Releases →
    (mode ≡ Exclusive → Contains (ended_ballots x.setting.layout (calls_at x)) (lver, me x.trace x.session)) →
    (mode ≡ Exclusive → open_ballot x.setting.layout (calls_at x) ≡ None) → NextIs x (release_next (place_at x) (known_at x) mode lver)

-- Where a conversion begins.
abbrev pub ConversionsFit : Type 0
ConversionsFit =
    (x : Moment) (mode : Mode) (name : List ℕ) → aim_of x.setting x.trace x.work ≡ Some (Converts mode) → NextIs x (convert_next (known_at x) mode name)

-- ---- numbers

-- The numbers of leases follow from the ways of their calls.
abbrev pub NumbersFollow : Type 0
NumbersFollow = (st : Setting) (t : Trace) → WayFacts st t → NumberFacts st t

-- Grants have what they ask of a lease's calls.
abbrev pub GrantsFollow : Type 0
GrantsFollow = (st : Setting) (t : Trace) (heard : Option ℕ) → WayFacts st t → TurnFacts st t heard → GrantGrounds st t heard

-- ---- each call is lawful by its way

pub record WaysAreLawful : Type 0 where
  pub phase2 : (st : Setting) (t : Trace) (s : Session) (at : Spot) → Ways (way_context st t s) (lease_calls st t s at) → (work : Work) (c : Submitted) (b : Block) →
      Phase2Way (way_context st t s) work c.call (lease_calls st t s at) → block_written c ≡ Some b → LawfulPhase2 st t s at c b
  pub phase2_read : (st : Setting) (t : Trace) (s : Session) (at : Spot) → Ways (way_context st t s) (lease_calls st t s at) → (work : Work) (c : Submitted) →
      Phase2ReadWay (way_context st t s) work c.at c.call (lease_calls st t s at) → LawfulPhase2Read st t s at c
  pub mode : (st : Setting) (t : Trace) (s : Session) (at : Spot) → Ways (way_context st t s) (lease_calls st t s at) → (work : Work) (c : Submitted) (b : Block) →
      ModeWay (way_context st t s) work c.at c.call (lease_calls st t s at) → block_written c ≡ Some b → LawfulModeWrite st t s at b
  pub clear : (st : Setting) (t : Trace) (s : Session) (at : Spot) → Ways (way_context st t s) (lease_calls st t s at) → (c : Submitted) (b : Block) →
      ClearWay (way_context st t s) c.call (lease_calls st t s at) → block_written c ≡ Some b → LawfulModeWrite st t s at b
  -- whoever takes a leader has won its instance, above each free
  pub take : (st : Setting) (t : Trace) (s : Session) (at : Spot) → Ways (way_context st t s) (lease_calls st t s at) → (work : Work) (c : Submitted) (l : Leader) →
      TakeWay (way_context st t s) work c.at c.call (lease_calls st t s at) → leader_written c ≡ Some l →
      HasWon st t s at l.lver × (freed (lease_calls st t s at) < l.lver)

-- ---- what is known of leases is kept

abbrev pub WayFactsAreKept : Type 0
WayFactsAreKept = Acts Whole HasWayFacts

abbrev pub TurnFactsAreKept : Type 0
TurnFactsAreKept = Acts Whole HasTurnFacts

abbrev pub NumberFactsAreKept : Type 0
NumberFactsAreKept = Acts Whole HasNumberFacts

abbrev pub GrantGroundsAreKept : Type 0
GrantGroundsAreKept = Acts Whole HasGrantGrounds

-- And it holds once a step has begun.
abbrev pub WayFactsBegin : Type 0
WayFactsBegin = (st : Setting) (past : Trace) (e : Entry) → FollowsTrace st past e → WholeTrace st past → HasWayFacts (begin_recoveries (begin_step st past e.reading))

abbrev pub TurnFactsBegin : Type 0
TurnFactsBegin = (st : Setting) (past : Trace) (e : Entry) → FollowsTrace st past e → WholeTrace st past → HasTurnFacts (begin_recoveries (begin_step st past e.reading))

abbrev pub NumberFactsBegin : Type 0
NumberFactsBegin = (st : Setting) (past : Trace) (e : Entry) → FollowsTrace st past e → WholeTrace st past → HasNumberFacts (begin_recoveries (begin_step st past e.reading))

abbrev pub GrantGroundsBegin : Type 0
GrantGroundsBegin = (st : Setting) (past : Trace) (e : Entry) → FollowsTrace st past e → WholeTrace st past → HasGrantGrounds (begin_recoveries (begin_step st past e.reading))

-- When all that an answer makes due is done, only what has no answer is open.
abbrev pub TurnsRest : Type 0
TurnsRest = (st : Setting) (t : Trace) (heard : Option ℕ) → TurnFacts st t heard → TurnFacts st t None
