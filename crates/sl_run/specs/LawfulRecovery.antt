-- What recovery and leaving do to a session's holders and jobs, and that they end it.
use Rattle.sl_run.specs.LawfulParting.{MayPart}
use Rattle.sl_run.specs.LawForms.{EachSession}
use Rattle.sl_trace.specs.Jobs.{jobs_of_session}
use Rattle.sl_trace.specs.Sessions.{holders_of, is_joined, leaving_job, leaving_of, recovery_of}
use Rattle.sl_trace.specs.declared.session.Begun.{Begun}
use Rattle.sl_trace.specs.declared.session.Session.{Session}
use Rattle.sl_trace.specs.EffectTexts.{is_ok_reply}
use Rattle.sl_trace.specs.Traces.{Job, Setting, Trace, last_reading, stands_for}
use Rattle.sl_trace.specs.KillPrograms.{kill_program_of}
use Rattle.sl_trace.specs.declared.effects.Entry.{Entry}
use Rattle.sl_trace.specs.declared.effects.Signal.TheVariants.{Kill, Term}
use Rattle.sl_trace.specs.declared.effects.Signal.{Signal}
use Rattle.sl_trace.specs.declared.effects.Start.{Start}
use Rattle.sl_trace.specs.declared.input.Input.TheVariants.{Spawned}
use Rattle.sl_trace.specs.declared.reply.Reply.{Reply}
use Rattle.std.specs.List.{list_any}
use Rattle.std.specs.Prelude.{Bool, Contains, IsFalse, IsTrue, None, Option, Some, false, length, nat_le, true, [], ℕ, ◌&&◌, ◌+◌, ◌<◌, ◌==◌, ◌||◌, ◌∷◌, ◌≡◌, ◌≤◌, ◌⊎◌}

-- The signal goes to the process in this entry.
abbrev pub IsSent : Entry → ℕ → Signal → Type 0
IsSent e process signal = Contains e.effects.signals (record { process = process; signal = signal })

-- The process's kill program is started in this entry in place of a term.
abbrev pub IsStopped : Setting → Trace → Entry → ℕ → Type 0
IsStopped st past e p = (x : Start) × Contains e.effects.starts x × (x.stands_for ≡ Some p) × (kill_program_of st past p ≡ Some x.program)

-- The process is told to stop.
abbrev pub IsToldToStop : Setting → Trace → Entry → ℕ → Type 0
IsToldToStop st past e p = IsSent e p Term ⊎ IsStopped st past e p

-- At a start each holder is signalled term, or its kill program is started, and each running job of the session but `kept` is refused.
pub record StopsSession (st : Setting) (past : Trace) (e : Entry) (s : Session) (kept : Option ℕ) : Type 0 where
  -- a holder is told to give up
  pub term : (p : ℕ) → Contains (holders_of past s) p → IsToldToStop st past e p
  -- a job that went on could write or be granted
  pub refused : (j : Job) → Contains (jobs_of_session st past s) j → (Some j.number ≡ kept → ⊥) →
      (r : Reply) × Contains e.effects.replies (record { job = j.number; reply = r }) × IsFalse (is_ok_reply r)

-- The process was signalled kill in an entry from number i on.
abbrev pub was_killed : ℕ → ℕ → Trace → Bool
was_killed i process [] = false
was_killed i process (e ∷ es) =
    nat_le i (length es) && list_any (λ s. s.process == process && elim s.signal [ Kill ↦ true | Term ↦ false ]) e.effects.signals || was_killed i process es

-- From grace after a start in an entry before the newest on, each that still holds has been signalled kill.
abbrev pub KillsAfter : Setting → Trace → Session → ℕ → ℕ → Type 0
KillsAfter st es s i reading =
    i + 1 < length es → reading + st.grace ≤ last_reading st es → (p : ℕ) → Contains (holders_of es s) p → IsTrue (was_killed i p es)

-- Lawful recovery and leaving: what is done by the end of an entry. (That nothing is granted is the law of grants, what
-- is written and that an end has its reason the law of parting.).
pub record LawfulRecovery (st : Setting) (past : Trace) (e : Entry) : Type 0 where
  pub recovers : EachSession st (λ s. (b : Begun) → recovery_of st (e ∷ past) s ≡ Some b → b.at ≡ length past → StopsSession st past e s None) past
  pub leaves : EachSession st (λ s. (j : Job) → leaving_job st (e ∷ past) s ≡ Some j → j.at ≡ length past → StopsSession st past e s (Some j.number)) past
  pub recovery_kills : EachSession st (λ s. (b : Begun) → recovery_of st (e ∷ past) s ≡ Some b → KillsAfter st (e ∷ past) s b.at b.reading) past
  pub leaving_kills : EachSession st (λ s. (b : Begun) → leaving_of st (e ∷ past) s ≡ Some b → KillsAfter st (e ∷ past) s b.at b.reading) past
  -- a kill program that was not started tells nobody to give up
  pub fails : (c p : ℕ) → e.input ≡ Spawned c false → stands_for past c ≡ Some p → IsSent e p Term
  -- the connection of a session with nothing left would reset the machine for nothing
  pub parts : EachSession st (λ s. is_joined past s ≡ true → MayPart st past e s → is_joined (e ∷ past) s ≡ false) past
