-- What the moves of an entry so far say of the sessions that were there before it.
use Rattle.sl_due.specs.Steps.{Step, seen}
use Rattle.sl_run.specs.LawfulConnections.{is_covered}
use Rattle.sl_trace.specs.Sessions.{calls_of, has_open_write, is_present, joined_after, refused_after, sessions, stage_in}
use Rattle.sl_trace.specs.declared.session.Session.{Session}
use Rattle.sl_trace.specs.declared.stage.Stage.TheVariants.{Waiting}
use Rattle.sl_due_facts.specs.Facts.SessionFacts.{NameFacts}
use Rattle.sl_trace.specs.WatchdogConnections.{registers, unregisters}
use Rattle.sl_trace.specs.declared.input.Input.TheVariants.{Wake}
use Rattle.std.specs.List.{list_any}
use Rattle.std.specs.Prelude.{Contains, None, false, true, ◌≡◌, ◌⊎◌}

-- The session does nothing more in this entry: it is present no more, or its claim was answered, and it waits for a wake.
pub record IsClosed (x : Step) (s : Session) : Type 0 where
  pub unwritten : has_open_write (seen x) s ≡ false
  pub gone : (is_present (seen x) s ≡ false)
      ⊎ ((joined_after (seen x) s ≡ None) × (refused_after (seen x) s ≡ None) × (stage_in (calls_of (seen x) s) ≡ Waiting) × (x.input ≡ Wake → ⊥))

pub record MovedSoFar (x : Step) : Type 0 where
  pub before : NameFacts x.setting x.past None
  -- a connection is made for a session that was not covered before the entry
  pub opened : (s : Session) → Contains (sessions x.setting x.past) s → list_any (registers s.lockspace) x.effects.moves ≡ true → is_covered x.past s ≡ false
  -- and removed of one that does nothing more
  pub closed : (s : Session) → Contains (sessions x.setting x.past) s → is_present x.past s ≡ true → list_any (unregisters s.lockspace) x.effects.moves ≡ true → IsClosed x s
