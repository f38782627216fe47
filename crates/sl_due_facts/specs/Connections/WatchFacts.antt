-- What a joining that runs has read of the sector that it watches.
use Rattle.sl_area.specs.AreaSizes.{record_in}
use Rattle.sl_due.specs.Steps.{Step, seen}
use Rattle.sl_sector.specs.SectorLayouts.{delta_in}
use Rattle.sl_sector.specs.declared.sector.DeltaRec.{DeltaRec}
use Rattle.sl_trace.specs.Sessions.{calls_of, is_join_call, sessions}
use Rattle.sl_trace.specs.declared.session.Session.{Session}
use Rattle.sl_due_facts.specs.Facts.HeardCall.{heard_by}
use Rattle.sl_trace.specs.Traces.{Setting, Submitted, Trace, gave, is_running}
use Rattle.sl_trace.specs.declared.effects.JoinStep.TheVariants.{FirstRead, WatchRead}
use Rattle.sl_trace.specs.declared.effects.JoinStep.{JoinStep}
use Rattle.std.specs.Prelude.{Contains, List, None, Option, Some, true, ℕ, ◌≡◌}

-- A read of a joining that runs, whose answer's work is done, and what it gave.
pub record HasRead (st : Setting) (t : Trace) (heard : Option ℕ) (s : Session) (step : JoinStep) (m : Submitted) (bytes : List ℕ) : Type 0 where
  pub job : ℕ
  pub session : Contains (sessions st t) s
  pub its : s.job ≡ Some job
  pub runs : is_running t job ≡ true
  pub inside : Contains (calls_of t s) m
  pub for : is_join_call step m.call.purpose ≡ true
  pub given : gave m ≡ Some bytes
  pub done : heard ≡ Some m.call.number → ⊥

pub record WatchFacts (st : Setting) (t : Trace) (heard : Option ℕ) : Type 0 where
  -- an id of another lockspace, or another id, would have refused it
  pub first : (s : Session) (m : Submitted) (bytes : List ℕ) → HasRead st t heard s FirstRead m bytes →
      (d : DeltaRec) × (delta_in (record_in st.layout bytes) ≡ Some d) × (d.lockspace ≡ s.lockspace) × (d.id ≡ s.id)
  -- and so would another record
  pub same : (s : Session) (f m : Submitted) (first bytes : List ℕ) → HasRead st t heard s FirstRead f first → HasRead st t heard s WatchRead m bytes → first ≡ bytes

abbrev pub HasWatchFacts : Step → Type 0
HasWatchFacts x = WatchFacts x.setting (seen x) (heard_by x.input)

abbrev pub HasWatchesPlainly : Step → Type 0
HasWatchesPlainly x = WatchFacts x.setting (seen x) None
