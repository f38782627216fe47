-- What is kept of the work of jobs, and what is lawful of grants and ends.
use Rattle.sl_due_facts.specs.Acts.Acts.{Acts}
use Rattle.sl_due_facts.specs.Acts.TraceSoFar.{entry_of}
use Rattle.sl_area.specs.AreaLayout.{is_base}
use Rattle.sl_due.specs.Steps.{Step, seen}
use Rattle.sl_due_leases.specs.Holdings.Moments.{Known}
use Rattle.sl_due_leases.specs.Holdings.HoldingLaws.{Begins}
use Rattle.sl_run.specs.LawfulEnd.{LawfulEnd}
use Rattle.sl_run.specs.LawfulExit.{LawfulExit}
use Rattle.sl_run.specs.LawfulGrant.{HasTaken, LawfulGrant, LawfulOrphan}
use Rattle.sl_run.specs.LawfulModes.{LawfulExclusiveGrant}
use Rattle.sl_trace.specs.Leases.{freed, lease_calls}
use Rattle.sl_trace.specs.Sessions.{is_active, session_numbered}
use Rattle.sl_trace.specs.declared.session.Session.{Session}
use Rattle.sl_due_facts.specs.Facts.HeardCall.{heard_by}
use Rattle.sl_due_facts.specs.Facts.HoldingFacts.{HoldingFacts}
use Rattle.sl_due_facts.specs.Facts.WorkFacts.{WorkFacts}
use Rattle.sl_trace.specs.Traces.{Setting, Trace, held_by, holdings, is_orphan, is_shared, same_place, spot_of_grant}
use Rattle.sl_trace.specs.declared.effects.Entry.{Entry}
use Rattle.sl_trace.specs.declared.effects.Grant.{Grant}
use Rattle.sl_trace.specs.declared.effects.Mode.TheVariants.{Exclusive}
use Rattle.std.specs.Prelude.{Contains, IsFalse, IsTrue, Option, Some, length, ℕ, ◌&&◌, ◌<◌, ◌∷◌, ◌≡◌}

abbrev pub HasWorkFacts : Step → Type 0
HasWorkFacts x = WorkFacts x.setting (seen x) (heard_by x.input)

abbrev pub WorkFactsAreKept : Type 0
WorkFactsAreKept = Acts Known HasWorkFacts

abbrev pub WorkFactsBegin : Type 0
WorkFactsBegin = Begins HasWorkFacts

-- ---- ends

-- What ended so far is lawful.
abbrev pub EndsSoFar : Step → Type 0
EndsSoFar x = LawfulEnd x.setting x.past (entry_of x)

abbrev pub EndsAreLawful : Type 0
EndsAreLawful = Acts Known EndsSoFar

abbrev pub EndsBegin : Type 0
EndsBegin = Begins EndsSoFar

-- ---- exits

-- What an exit leaves so far is lawful.
abbrev pub ExitsSoFar : Step → Type 0
ExitsSoFar x = LawfulExit x.past (entry_of x)

abbrev pub ExitsAreLawful : Type 0
ExitsAreLawful = Acts (λ x. Known x × ExitsSoFar x) ExitsSoFar

abbrev pub ExitsBegin : Type 0
ExitsBegin = Begins ExitsSoFar

-- ---- grants

-- What is lawful of a grant but that its session is active: what the facts of holdings say of it, and of an exclusive one its ballot.
pub record StandsGranted (st : Setting) (es : Trace) (s : Session) (g : Grant) : Type 0 where
  pub lockspace : g.lockspace ≡ s.lockspace
  pub placed : IsTrue (is_base st.layout g.offset)
  pub alone : (h : Grant) → Contains (holdings es) h → IsTrue (same_place h.path h.offset g.path g.offset) → (h.process ≡ g.process → ⊥) → IsTrue (is_shared h.mode && is_shared g.mode)
  pub single : length (held_by (holdings es) g.process g.path g.offset) ≡ 1
  pub taken : g.mode ≡ Exclusive → HasTaken st es s (spot_of_grant g) g.lver
  pub not_freed : g.mode ≡ Exclusive → freed (lease_calls st es s (spot_of_grant g)) < g.lver
  pub ballot : g.mode ≡ Exclusive → LawfulExclusiveGrant st es s (spot_of_grant g) g.lver

-- Each grant of the newest entry has it, and a session.
abbrev pub GrantsStand : Type 0
GrantsStand =
    (st : Setting) (past : Trace) (e : Entry) (heard : Option ℕ) (g : Grant) → HoldingFacts st (e ∷ past) heard → Contains e.effects.grants g →
    (s : Session) × (session_numbered st (e ∷ past) g.session ≡ Some s) × StandsGranted st (e ∷ past) s g

-- The orphans among them are lawful so far.
abbrev pub OrphansSoFar : Step → Type 0
OrphansSoFar x = (g : Grant) → Contains x.effects.grants g → IsTrue (is_orphan g) → LawfulOrphan x.past (entry_of x) g

abbrev pub OrphansAreLawful : Type 0
OrphansAreLawful = Acts Known OrphansSoFar

abbrev pub OrphansBegin : Type 0
OrphansBegin = Begins OrphansSoFar

-- The session of each granted process is active.
abbrev pub ActiveSoFar : Step → Type 0
ActiveSoFar x =
    (g : Grant) (s : Session) → Contains x.effects.grants g → session_numbered x.setting (seen x) g.session ≡ Some s → IsFalse (is_orphan g) → IsTrue (is_active x.setting (seen x) s)

-- With that the grants are lawful.
abbrev pub GrantsAreLawful : Type 0
GrantsAreLawful = (x : Step) → HoldingFacts x.setting (seen x) (heard_by x.input) → OrphansSoFar x → ActiveSoFar x → LawfulGrant x.setting x.past (entry_of x)

abbrev pub ActivesAreKept : Type 0
ActivesAreKept = Acts Known ActiveSoFar

abbrev pub ActivesBegin : Type 0
ActivesBegin = Begins ActiveSoFar

-- What was granted so far is lawful.
abbrev pub GrantingSoFar : Step → Type 0
GrantingSoFar x = LawfulGrant x.setting x.past (entry_of x)

abbrev pub GrantingIsLawful : Type 0
GrantingIsLawful = Acts Known GrantingSoFar

abbrev pub GrantingBegins : Type 0
GrantingBegins = Begins GrantingSoFar
