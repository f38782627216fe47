-- A play: a world with the daemons that run in it, and what is counted. What an event makes of it, and what a line does.
use Rattle.sl_world_state.specs.Daemons.{program_of}
use Rattle.sl_world_state.specs.KeptWorld.{KeptState}
use Rattle.sl_world_state.specs.SaneWorlds.{WorldStands}
use Rattle.sl_machine.specs.KeptParts.{kept_state}
use Rattle.sl_play.specs.RunEndings.{Finishes, LeadsBack}
use Rattle.sl_play.specs.PlayIsOwed.{EachStood}
use Rattle.sl_play.specs.ToldSteps.{AreCounted}
use Rattle.sl_play.specs.declared.step_counts.PlayError.TheVariants.{NoMemory}
use Rattle.sl_play.specs.declared.step_counts.PlayError.{PlayError}
use Rattle.sl_play.specs.declared.play.Play.{Play}
use Rattle.sl_report.specs.Languages.{Language}
use Rattle.sl_report.specs.Reports.{Counts, count_event, event_lines, no_counts}
use Rattle.sl_report.specs.Schedules.{At_line, EventLine, NoAsk, last_lines}
use Rattle.sl_run.specs.Refusals.{may_happen, refusal_of}
use Rattle.sl_run.specs.Locks.{Locks}
use Rattle.sl_run.specs.Runs.{HasSteps}
use Rattle.sl_run.specs.Worlds.{World, world_with}
use Rattle.sl_run.specs.declared.event.Event.TheVariants.{Test}
use Rattle.sl_run.specs.declared.event.Event.{Event}
use Rattle.sl_run.specs.declared.event.Refusal.{Refusal}
use Rattle.sl_run.specs.declared.header.Header.{Header}
use Rattle.sl_sound.specs.Reports.EventsAskFew.{AsksOn, IsFair}
use Rattle.sl_text.specs.Forms.{Form, as_bytes}
use Rattle.sl_trace.specs.Traces.{Setting, Trace}
use Rattle.sl_trace.specs.declared.command.Command.{Command}
use Rattle.sl_trace.specs.declared.effects.Effects.{Effects}
use Rattle.sl_world.specs.AllowedEvents.{StandsForSome}
use Rattle.sl_world.specs.declared.apply.ApplyError.TheVariants.{OutOfMemory, Refused}
use Rattle.sl_world.specs.declared.apply.ApplyError.{ApplyError}
use Rattle.sl_world_law.specs.WorldsStand.{Comes}
use Rattle.sl_world_law.specs.ToldEvents.{tested_in}
use Rattle.std.specs.Prelude.{Bool, Err, List, None, Ok, Option, Result, Some, true, [], ℕ, ◌++◌, ◌∷◌, ◌≡◌}

pub record PlayState (D : Type 0) : Type 0 where
  pub kept : KeptState
  pub hosts : List (Option D)
  pub counts : Counts

abbrev pub state_of : {D L : Type 0} → {d : _} → {l : _} → (L → Locks) → Play D L d l → PlayState D
state_of locks p = record { kept = kept_state locks p.world.kept; hosts = p.world.hosts; counts = p.counts }

-- It stands for some world.
abbrev pub StandsFor : {D : Type 0} → (Header → List (Form Command)) → (D → Setting → Trace → Type 0) → PlayState D → Type 0
StandsFor commands stands p = StandsForSome commands stands p.kept p.hosts

-- Nothing has changed.
pub record StaysAs {D : Type 0} (p n : PlayState D) : Type 0 where
  pub kept : n.kept ≡ p.kept
  pub hosts : n.hosts ≡ p.hosts
  pub counts : n.counts ≡ p.counts

-- ---- an event

-- What is answered where the world doesn't apply it.
abbrev pub after_error : ApplyError → Result (Option Refusal) PlayError
after_error (Refused why) = Ok (Some why)
after_error OutOfMemory = Err NoMemory

-- How a test comes out, where the event is one.
abbrev pub test_told : KeptState → Event → Option Bool
test_told k e = elim e [ Test m ↦ Some (tested_in k (Test m)) | _ ↦ None ]

-- The event has come to pass with these effects: it is counted, and its lines are written.
pub record Happened {D : Type 0} (commands : Header → List (Form Command)) (stands : D → Setting → Trace → Type 0) (w : World) (p : PlayState D) (e : Event) (fx : Effects)
    (out : List ℕ) (n : PlayState D) (now : List ℕ) : Type 0 where
  pub comes : Comes commands stands w e fx n.kept n.hosts
  pub counts : n.counts ≡ count_event w e (fx ∷ []) p.counts
  pub text : now ≡ out ++ as_bytes (event_lines w e (fx ∷ []))

-- So in each world that the play stood for.
pub record HasHappened {D : Type 0} (commands : Header → List (Form Command)) (stands : D → Setting → Trace → Type 0) (p : PlayState D) (e : Event) (out : List ℕ) (n : PlayState D)
    (now : List ℕ) : Type 0 where
  pub effects : Effects
  pub in_each : (w : World) → WorldStands commands stands p.kept p.hosts w → Happened commands stands w p e effects out n now

-- The event is refused for this in each of these worlds, and nothing has changed.
pub record IsBarred {D : Type 0} (commands : Header → List (Form Command)) (stands : D → Setting → Trace → Type 0) (p : PlayState D) (e : Event) (out : List ℕ) (n : PlayState D)
    (now : List ℕ) (why : Refusal) : Type 0 where
  pub same : StaysAs p n
  pub text : now ≡ out
  pub barred : (w : World) → WorldStands commands stands p.kept p.hosts w → refusal_of w e ≡ Some why

abbrev pub Answers : {D : Type 0} → (Header → List (Form Command)) → (D → Setting → Trace → Type 0) → PlayState D → Event → List ℕ → PlayState D → List ℕ → Option Refusal → Type 0
Answers commands stands p e out n now None = HasHappened commands stands p e out n now
Answers commands stands p e out n now (Some why) = IsBarred commands stands p e out n now why

-- The event may happen, with effects that make a count too great.
pub record PassesCounts {D : Type 0} (commands : Header → List (Form Command)) (stands : D → Setting → Trace → Type 0) (p : PlayState D) (e : Event) : Type 0 where
  pub effects : Effects
  pub may : (w : World) → WorldStands commands stands p.kept p.hosts w → (may_happen w e ≡ true) × HasSteps w e (effects ∷ [])
  pub passes : (w : World) → WorldStands commands stands p.kept p.hosts w → AreCounted (count_event w e (effects ∷ []) p.counts) → ⊥

-- ---- between two lines

-- The play stands for a world in which no ask is due.
pub record PlaysOn {D : Type 0} (commands : Header → List (Form Command)) (stands : D → Setting → Trace → Type 0) (p : PlayState D) (w : World) : Type 0 where
  pub stands_for : WorldStands commands stands p.kept p.hosts w
  pub fair : IsFair w
  pub unasked : NoAsk w

pub record IsPlaying {D : Type 0} (commands : Header → List (Form Command)) (stands : D → Setting → Trace → Type 0) (p : PlayState D) : Type 0 where
  pub world : World
  pub plays : PlaysOn commands stands p world

-- At first it is the header's, and nothing is counted.
pub record Begins {D : Type 0} (commands : Header → List (Form Command)) (stands : D → Setting → Trace → Type 0) (h : Header) (p : PlayState D) : Type 0 where
  pub plays : PlaysOn commands stands p (world_with (program_of commands) h)
  pub counts : p.counts ≡ no_counts
  pub header : p.kept.header ≡ h

-- These lines' events have come to pass, each with the asks behind it: whatever is left behind them is left before.
pub record GoesOn {D : Type 0} (commands : Header → List (Form Command)) (stands : D → Setting → Trace → Type 0) (w : World) (p : PlayState D) (taken : List EventLine) (out : List ℕ)
    (n : PlayState D) (now : List ℕ) : Type 0 where
  pub world : World
  pub plays : PlaysOn commands stands n world
  pub header : n.kept.header ≡ p.kept.header
  pub leads : (lang : Language) (ls : List EventLine) → LeadsBack (EachStood stands) lang w p.counts (taken ++ ls) out world n.counts ls now

-- The line with this number is refused, and nothing has changed: the report ends there.
pub record StopsAt {D : Type 0} (stands : D → Setting → Trace → Type 0) (w : World) (p : PlayState D) (taken : List EventLine) (number : ℕ) (out : List ℕ)
    (n : PlayState D) (now : List ℕ) (why : Refusal) : Type 0 where
  pub same : StaysAs p n
  pub text : now ≡ out
  pub finishes : (lang : Language) (ls : List EventLine)
      → Finishes (EachStood stands) lang w p.counts (taken ++ ls) out (out ++ as_bytes (last_lines lang p.counts (At_line number why))) (At_line number why)

abbrev pub TakesLines : {D : Type 0} → (Header → List (Form Command)) → (D → Setting → Trace → Type 0) → World → PlayState D → List EventLine → ℕ → List ℕ → PlayState D → List ℕ
    → Option Refusal → Type 0
TakesLines commands stands w p taken number out n now None = GoesOn commands stands w p taken out n now
TakesLines commands stands w p taken number out n now (Some why) = StopsAt stands w p taken number out n now why

-- ---- asks

-- No machine but m has an ask due, and m so many at most.
pub record AsksLeft {D : Type 0} (commands : Header → List (Form Command)) (stands : D → Setting → Trace → Type 0) (p : PlayState D) (w : World) (m left : ℕ) : Type 0 where
  pub stands_for : WorldStands commands stands p.kept p.hosts w
  pub asks : AsksOn w m left

pub record IsAsking {D : Type 0} (commands : Header → List (Form Command)) (stands : D → Setting → Trace → Type 0) (p : PlayState D) (left : ℕ) : Type 0 where
  pub world : World
  pub machine : ℕ
  pub asks : AsksLeft commands stands p world machine left

-- Some of the asks have come to pass, and so many are left.
pub record HasAsked {D : Type 0} (commands : Header → List (Form Command)) (stands : D → Setting → Trace → Type 0) (w : World) (p : PlayState D) (out : List ℕ) (m left : ℕ)
    (n : PlayState D) (now : List ℕ) : Type 0 where
  pub world : World
  pub asks : AsksLeft commands stands n world m left
  pub header : n.kept.header ≡ p.kept.header
  pub leads : (lang : Language) (ls : List EventLine) → LeadsBack (EachStood stands) lang w p.counts ls out world n.counts ls now

-- .. in each world that the play stood for.
abbrev pub HaveAsked : {D : Type 0} → (Header → List (Form Command)) → (D → Setting → Trace → Type 0) → PlayState D → List ℕ → ℕ → PlayState D → List ℕ → Type 0
HaveAsked commands stands p out left n now = (w : World) (m : ℕ) → AsksLeft commands stands p w m 10 → HasAsked commands stands w p out m left n now
