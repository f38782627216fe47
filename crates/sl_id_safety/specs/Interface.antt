-- What the argument over ballots may use of the ids of a lawful run, in words of its worlds. A session whose machine was reset is over no
-- sooner than `land` later: so whatever is said of sessions that are not over is said of what lingers of their holdings, too.
use Rattle.sl_id_safety.specs.State.IdStates.{own_courses}
use Rattle.sl_run.specs.Runs.{Happening}
use Rattle.sl_run.specs.Safety.{DeltaInvariant, EvidenceIsTrue, Found, GenerationsRise, HasJoined, IsSession, LawfulRun, OneForEachId, OwnSectorIsAlone, OwnSectorStands, ReadsNoOther, SameId, SessionId, found_generation, is_over, same_lockspace, setting_in, trace_of, world_at}
use Rattle.sl_run.specs.Worlds.{Course, Program, Stamp, World, is_write_course}
use Rattle.sl_run.specs.declared.header.Header.{Header}
use Rattle.sl_trace.specs.Sessions.{calls_of, is_free_purpose}
use Rattle.sl_trace.specs.Sightings.{counts_over, current_run, is_silent, sightings}
use Rattle.sl_trace.specs.declared.sighting.Run.{Run}
use Rattle.sl_trace.specs.declared.sighting.Sighting.{Sighting}
use Rattle.std.specs.Prelude.{Contains, IsTrue, List, Some, false, true, ℕ, ◌++◌, ◌<◌, ◌≡◌}

-- What is said of each lawful run.
abbrev pub OfEachRun : (Program → Header → List Happening → Type 0) → Type 0
OfEachRun P = (p : Program) (h : Header) (xs : List Happening) → LawfulRun p h xs → P p h xs

-- .. of each front of one.
abbrev pub OfEachGoing : (Program → Header → List Happening → List Happening → Type 0) → Type 0
OfEachGoing P = (p : Program) (h : Header) (now rest : List Happening) → LawfulRun p h (now ++ rest) → P p h now (now ++ rest)

-- For each id at most one joined session is not over.
abbrev pub OneActsForEachId : Type 0
OneActsForEachId = OfEachRun (λ p h xs. OneForEachId (world_at p h xs))

-- One that joins later has a greater generation.
abbrev pub JoinersRise : Type 0
JoinersRise = OfEachRun GenerationsRise

-- By its lockspace, its id and its generation a joined session is named.
abbrev pub GenerationsNameOne : Type 0
GenerationsNameOne =
    OfEachRun (λ p h xs. (i k : SessionId) (f g : Found) → IsSession (world_at p h xs) i f → IsSession (world_at p h xs) k g → HasJoined f → HasJoined g
    → f.session.lockspace ≡ g.session.lockspace → f.session.id ≡ g.session.id → found_generation f ≡ found_generation g → i ≡ k)

-- Joined sessions of one lockspace and one id have one id of one area.
abbrev pub LockspacesAreAreas : Type 0
LockspacesAreAreas =
    OfEachRun (λ p h xs. (i k : SessionId) (f g : Found) → IsSession (world_at p h xs) i f → IsSession (world_at p h xs) k g → HasJoined f → HasJoined g
    → f.session.lockspace ≡ g.session.lockspace → f.session.id ≡ g.session.id → SameId f g)

-- Joined is for ever.
abbrev pub JoinedStays : Type 0
JoinedStays =
    OfEachGoing (λ p h now xs. (i : SessionId) (f g : Found) → IsSession (world_at p h now) i f → IsSession (world_at p h xs) i g → HasJoined f → HasJoined g)

-- .. and so is over.
abbrev pub OverStays : Type 0
OverStays =
    OfEachGoing (λ p h now xs. (i : SessionId) (f g : Found) → IsSession (world_at p h now) i f → IsSession (world_at p h xs) i g → HasJoined f
    → is_over i f ≡ true → is_over i g ≡ true)

-- Where a session has joined, each of its id that had joined before it is over.
abbrev pub JoinersFindOver : Type 0
JoinersFindOver =
    OfEachGoing (λ p h now xs. (i k : SessionId) (f later g : Found) → IsSession (world_at p h now) i f → HasJoined f → IsSession (world_at p h xs) i later
    → IsSession (world_at p h xs) k g → HasJoined g → ((before : Found) → IsSession (world_at p h now) k before → HasJoined before → ⊥) → SameId f g
    → is_over i later ≡ true)

-- What lands in a joined session's sector until it is over is of its own writes, but what came before its claim.
abbrev pub SectorsAreAlone : Type 0
SectorsAreAlone = OfEachRun (λ p h xs. OwnSectorIsAlone (world_at p h xs))

-- A joined session's sector holds a record of its own, or torn bytes, until it is over.
abbrev pub SectorsStand : Type 0
SectorsStand = OfEachRun (λ p h xs. OwnSectorStands (world_at p h xs))

-- No joined session reads a foreign record in its own sector.
abbrev pub JoinedReadNoOther : Type 0
JoinedReadNoOther = OfEachRun (λ p h xs. ReadsNoOther (world_at p h xs))

-- ---- a session that is over is silent

-- What is said of each call that a joined session, over at a front, has later.
abbrev pub OfOver : (World → Course → Type 0) → Type 0
OfOver P =
    OfEachGoing (λ p h now xs. (i : SessionId) (f g : Found) → IsSession (world_at p h now) i f → IsSession (world_at p h xs) i g → HasJoined f
    → is_over i f ≡ true → (c : Course) → Contains (own_courses i g.machine) c → P (world_at p h now) c)

-- It was made before.
abbrev pub OverAreSilent : Type 0
OverAreSilent = OfOver (λ w c. c.made.step < w.step)

-- If it writes, and isn't the free, its answer came before.
abbrev pub OverAreSettled : Type 0
OverAreSettled =
    OfOver (λ w c. is_write_course c ≡ true → is_free_purpose c.call.purpose ≡ false → (s : Stamp) → c.answered ≡ Some s → s.step < w.step)

-- ---- evidence

-- What is said of each joined session, whatever comes later, whose generation somebody has a reason to count as over.
abbrev pub MeansOver : (World → SessionId → Found → ℕ → ℕ → Type 0) → Type 0
MeansOver Reason =
    OfEachGoing (λ p h now xs. (i k : SessionId) (f g : Found) (j n : ℕ) → IsSession (world_at p h now) i f → Reason (world_at p h now) i f j n
    → IsSession (world_at p h xs) k g → HasJoined g → IsTrue (same_lockspace f g) → g.session.id ≡ j → found_generation g ≡ n → is_over k g ≡ true)

-- The sightings of id j, and the run that they end with.
abbrev pub sightings_of : Found → ℕ → List Sighting
sightings_of f j = sightings (setting_in f).layout j (calls_of (trace_of f) f.session)

-- A run of its sightings shows the generation silent.
abbrev pub ShowsSilent : World → SessionId → Found → ℕ → ℕ → Type 0
ShowsSilent w i f j n =
    (r : Run) × (current_run (setting_in f).layout j (sightings_of f j) ≡ Some r) × (is_silent (setting_in f).timing n r ≡ true)

abbrev pub SilenceMeansOver : Type 0
SilenceMeansOver = MeansOver ShowsSilent

-- Any evidence.
abbrev pub EvidenceMeansOver : Type 0
EvidenceMeansOver = MeansOver (λ w i f j n. IsTrue (counts_over (setting_in f) (trace_of f) f.session j n))

-- So it is true, at each front.
abbrev pub EvidencesAreTrue : Type 0
EvidencesAreTrue = OfEachRun EvidenceIsTrue

-- ---- all of it

-- Writes in flight are covered, evidence is true, one session acts for each id, generations rise, a joined session's sector is its own and
-- it reads no other there: after each lawful run, so after each event of it.
abbrev pub IdsAreSafe : Type 0
IdsAreSafe = OfEachRun DeltaInvariant
