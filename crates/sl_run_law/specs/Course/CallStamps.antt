-- A call of a machine and the same call in its daemon's trace. The world knows of a call when it was made, what it sampled, what became
-- of it and when it was answered; the trace knows which entry made it, at which reading, and which entry brought which answer.
use Rattle.sl_run.specs.Worlds.{Course, Daemon, Machine, Stamp}
use Rattle.sl_time.specs.Times.{reading_of}
use Rattle.sl_trace.specs.Traces.{Answered, Submitted, is_ok_answer, submitted}
use Rattle.sl_trace.specs.declared.effects.Entry.{Entry}
use Rattle.sl_trace.specs.declared.input.Answer.TheVariants.{Read}
use Rattle.std.specs.Prelude.{List, None, Option, Some, filter, length, true, false, [], ℕ, ◌==◌, ◌∷◌, ◌≡◌}

-- Two lists of one length, related element by element.
abbrev pub Pairwise : {A B : Type 0} → (A → B → Type 0) → List A → List B → Type 0
Pairwise R [] [] = Unit {0}
Pairwise R [] (b ∷ bs) = ⊥
Pairwise R (a ∷ ms) [] = ⊥
Pairwise R (a ∷ ms) (b ∷ bs) = R a b × Pairwise R ms bs

-- The stamp of entry i, counted from 0 for the oldest; the newest stands first.
abbrev pub stamp_in : List Stamp → ℕ → Option Stamp
stamp_in [] i = None
stamp_in (s ∷ ss) i = elim (i == length ss) [ true ↦ Some s | false ↦ stamp_in ss i ]

-- A stamp shows the reading of its entry.
abbrev pub IsStampOf : Stamp → Entry → Type 0
IsStampOf s e = reading_of s.clock ≡ e.reading

-- Each entry of the daemon has its stamp.
abbrev pub IsStamped : Daemon → Type 0
IsStamped d = Pairwise IsStampOf d.stamps d.trace

-- How an answer stands in the world: at the stamp of the entry that brought it.
pub record IsAnsweredAs (d : Daemon) (c : Course) (a : Answered) : Type 0 where
  pub stamp : Stamp
  pub answered : c.answered ≡ Some stamp
  pub entry : stamp_in d.stamps a.at ≡ Some stamp
  pub reading : reading_of stamp.clock ≡ a.reading
  pub done : c.done ≡ is_ok_answer a.answer
  -- a read gives what it has sampled
  pub gives : (bytes : List ℕ) → a.answer ≡ Read bytes → bytes ≡ c.sampled

-- A call without an answer in the trace has none in the world.
abbrev pub AnswersAgree : Daemon → Course → Option Answered → Type 0
AnswersAgree d c None = c.answered ≡ None
AnswersAgree d c (Some a) = IsAnsweredAs d c a

-- The call of the machine is that of the trace.
pub record IsCourseOf (d : Daemon) (c : Course) (m : Submitted) : Type 0 where
  pub call : m.call ≡ c.call
  pub made : stamp_in d.stamps m.at ≡ Some c.made
  pub reading : m.reading ≡ reading_of c.made.clock
  pub answers : AnswersAgree d c m.answer

-- The machine's calls of its daemon with this number, the newest first.
abbrev pub courses_of : Machine → ℕ → List Course
courses_of a number = filter (λ c. c.daemon == number) a.calls

-- They are the calls of the daemon's trace, in the same order.
abbrev pub AreCalls : Machine → Daemon → Type 0
AreCalls a d = Pairwise (IsCourseOf d) (courses_of a d.number) (submitted d.trace)
