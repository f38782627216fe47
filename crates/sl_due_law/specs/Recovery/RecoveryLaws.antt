-- What is shown of recovery, leaving and parting.
use Rattle.sl_due_facts.specs.Acts.Acts.{Acts}
use Rattle.sl_due_facts.specs.Acts.TraceSoFar.{entry_of}
use Rattle.sl_due.specs.Due.{IsDue, due_step}
use Rattle.sl_due.specs.Steps.{Step, seen, with_input}
use Rattle.sl_due_leases.specs.Holdings.Moments.{Known}
use Rattle.sl_due_leases.specs.Holdings.HoldingLaws.{Begins}
use Rattle.sl_run.specs.LawfulArea.{LawfulArea}
use Rattle.sl_run.specs.LawfulDelta.{LawfulDelta}
use Rattle.sl_run.specs.LawfulGrant.{LawfulGrant}
use Rattle.sl_run.specs.LawfulParting.{LawfulParting}
use Rattle.sl_run.specs.LawfulRecovery.{LawfulRecovery}
use Rattle.sl_run.specs.LawfulConnections.{LawfulWatchdog}
use Rattle.sl_due_law.specs.Recovery.KillFacts.{KillFacts}
use Rattle.sl_due_law.specs.Recovery.Stops.{Denies, FreesEnd, JustHeard, Partings, Stops}
use Rattle.sl_due_facts.specs.Facts.CallFacts.{CallFacts}
use Rattle.sl_due_facts.specs.Facts.ConcludingActs.{Concludes}
use Rattle.sl_due_facts.specs.Facts.HeardCall.{heard_by}
use Rattle.sl_due_facts.specs.Facts.AllFacts.{Whole, WholeTrace}
use Rattle.sl_trace.specs.Traces.{FollowsTrace, Setting, Trace}
use Rattle.sl_trace.specs.declared.effects.Entry.{Entry}
use Rattle.sl_trace.specs.declared.input.Answer.{Answer}
use Rattle.sl_trace.specs.declared.input.Input.TheVariants.{Answer as Told, Wake}
use Rattle.std.specs.Prelude.{None, ℕ, ◌∷◌, ◌≡◌}

-- ---- who is stopped

abbrev pub StopsSoFar : Step → Type 0
StopsSoFar x = Stops x (heard_by x.input)

abbrev pub DenialsAreKept : Type 0
DenialsAreKept = Acts Denies Denies

abbrev pub DenialsBegin : Type 0
DenialsBegin = Begins Denies

abbrev pub StopsAreKept : Type 0
StopsAreKept = Acts (λ x. Known x × StopsSoFar x × Denies x) StopsSoFar

abbrev pub StopsBegin : Type 0
StopsBegin = Begins StopsSoFar

-- Nobody is left to be stopped where all that an answer makes due is done.
abbrev pub StopsConclude : Type 0
StopsConclude =
    Concludes (λ x. (Known x × StopsSoFar x × Denies x) × JustHeard x) (λ x. (Known x × StopsSoFar x × Denies x) × Stops x None) (λ x. Stops x None)

-- What is true when an answer is heard.
abbrev pub AnswersAreHeard : Type 0
AnswersAreHeard = (x : Step) (n : ℕ) (answer : Answer) → x.input ≡ Wake → Denies x → Partings x → JustHeard (with_input (Told n answer) x)

-- ---- who parts

abbrev pub PartingsAreKept : Type 0
PartingsAreKept = Acts (λ x. Known x × Partings x) Partings

abbrev pub PartingsBegin : Type 0
PartingsBegin = Begins Partings

abbrev pub FreesConclude : Type 0
FreesConclude = Concludes Whole (λ x. Whole x × FreesEnd x) FreesEnd

-- The law of parting follows from those of areas, delta sectors and the watchdog, and from whose connections were removed.
abbrev pub PartingIsLawful : Type 0
PartingIsLawful =
    (x : Step) → CallFacts x.setting (seen x) → FollowsTrace x.setting x.past (entry_of x) → LawfulArea x.setting x.past (entry_of x) → LawfulDelta x.setting x.past (entry_of x) →
    LawfulWatchdog x.setting x.past (entry_of x) → Partings x → LawfulParting x.setting x.past (entry_of x)

-- ---- what is done by an entry's end

abbrev pub KillFactsGoOn : Type 0
KillFactsGoOn = (st : Setting) (past : Trace) (e : Entry) → IsDue st past e → WholeTrace st past → KillFacts st past → LawfulGrant st past e → KillFacts st (e ∷ past)

abbrev pub RecoveryIsLawful : Type 0
RecoveryIsLawful =
    (st : Setting) (past : Trace) (e : Entry) → IsDue st past e → WholeTrace st past → KillFacts st (e ∷ past) → Stops (due_step st past e.reading e.input) None →
    FreesEnd (due_step st past e.reading e.input) → LawfulRecovery st past e
