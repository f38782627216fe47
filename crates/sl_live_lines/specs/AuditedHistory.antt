-- What a history is compared with, and what is kept of it along its entries.
use Rattle.indexmap.specs.IndexMap.{get}
use Rattle.sl_live_lines.specs.EventTexts.{Telling, telling_along}
use Rattle.sl_live_lines.specs.LiveTexts.{count_replies}
use Rattle.sl_live_lines.specs.LocksAlong.{AlongState, along, due_ask, line_given, runs_line, step_along}
use Rattle.sl_live_lines.specs.declared.audit.Audit.{Audit}
use Rattle.sl_live_lines.specs.declared.audit.Left.TheVariants.{Call as CallLeft, Line as LineLeft, Start as StartLeft}
use Rattle.sl_live_lines.specs.declared.audit.Left.{Left}
use Rattle.sl_live_lines.specs.declared.given_lines.GivenLine.{GivenLine}
use Rattle.sl_live_lines.specs.declared.open_numbers.Open.{Open}
use Rattle.sl_trace.specs.Traces.{Child, Submitted, Trace, children, outstanding}
use Rattle.sl_trace.specs.declared.effects.Call.{Call}
use Rattle.sl_trace.specs.declared.effects.Entry.{Entry}
use Rattle.sl_trace.specs.declared.effects.Start.{Start}
use Rattle.sl_trace.specs.declared.input.Input.TheVariants.{Answer as Told, Spawned}
use Rattle.sl_trace.specs.declared.input.Input.{Input}
use Rattle.sl_words.specs.Words.{some_is}
use Rattle.std.specs.List.{list_any}
use Rattle.std.specs.Option.{option_to_list}
use Rattle.std.specs.Prelude.{Bool, List, None, Option, Some, cond, false, filter, if◌then◌else◌, is_none, length, map, nat_eq, reverse, slice_get, true, [], ℕ, ◌++◌, ◌+◌, ◌-◌, ◌<◌, ◌==◌, ◌∷◌, ◌≡◌, ◌⊎◌}
use mathlib.Core.List.{IsPrefix}

-- ---- lines

-- The line that is due, where this is the script's next, if it is there: while a line for lvmlockd runs, its next ask, if one is due.
abbrev pub due_line : AlongState → Option GivenLine → Option GivenLine
due_line a next = if runs_line a then due_ask a else next

-- The line that is given, if one is, is the one that is due.
abbrev pub IsThat : Option GivenLine → Option GivenLine → Type 0
IsThat given due = (l : GivenLine) → given ≡ Some l → due ≡ Some l

-- A line is given, and it is not the one that is due.
pub record IsOther (given due : Option GivenLine) : Type 0 where
  pub line : GivenLine
  pub is : given ≡ Some line
  pub differs : due ≡ Some line → ⊥

-- The script's lines in the entry: none while a line for lvmlockd runs.
abbrev pub own_lines : AlongState → Entry → List GivenLine
own_lines a e = if runs_line a then [] else option_to_list (line_given e.input)

-- .. in a history, in order.
abbrev pub lines_along : AlongState → List Entry → List GivenLine
lines_along a [] = []
lines_along a (e ∷ h) = own_lines a e ++ lines_along (step_along a e) h

-- While a line for lvmlockd runs, the entry's line, if it has one, is the ask that is due.
abbrev pub KeepsAsk : AlongState → Entry → Type 0
KeepsAsk a e = runs_line a ≡ true → (l : GivenLine) → line_given e.input ≡ Some l → due_ask a ≡ Some l

-- So it is at each entry.
abbrev pub KeepsAsks : AlongState → List Entry → Type 0
KeepsAsks a [] = Unit {0}
KeepsAsks a (e ∷ h) = KeepsAsk a e × KeepsAsks (step_along a e) h

-- The lines of a history are these, each for lvmlockd with its asks, and each of those is answered.
pub record AreLines (a : AlongState) (h : List Entry) (given : List GivenLine) : Type 0 where
  pub lines : lines_along a h ≡ given
  pub asks : KeepsAsks a h
  pub over : runs_line (along a h) ≡ false

-- These lines are the first of the given ones, and this is the next, if it is there.
abbrev pub IsNext : List GivenLine → Option GivenLine → List GivenLine → Type 0
IsNext past None given = IsPrefix past given
IsNext past (Some l) given = IsPrefix (past ++ l ∷ []) given

-- The entry behind these has a line, and it is not the one due there, where the script's next is this, or none was there.
pub record DiffersBehind (a : AlongState) (h : List Entry) (given : List GivenLine) (before : List Entry) : Type 0 where
  pub entry : Entry
  pub more : List Entry
  pub parts : h ≡ before ++ entry ∷ more
  pub asks : KeepsAsks a before
  pub next : Option GivenLine
  pub comes : IsNext (lines_along a before) next given
  pub other : IsOther (line_given entry.input) (due_line (along a before) next)

-- The line of the entry of this number, counted from 1, is not the one due there; or the history is over, the number is one past its last entry, and
-- a line for lvmlockd runs, or one of the script's is left.
pub data LineDiffers (a : AlongState) (h : List Entry) (given : List GivenLine) (number : ℕ) : Type 0 where
  Differs_at : (before : List Entry) → number ≡ length before + 1 → DiffersBehind a h given before → LineDiffers a h given number
  Differs_at_end : number ≡ length h + 1 → KeepsAsks a h → (runs_line (along a h) ≡ true) ⊎ (length (lines_along a h) < length given) → LineDiffers a h given number

-- ---- what is open

-- The numbers of the calls without an answer.
abbrev pub open_calls : Trace → List ℕ
open_calls es = map (λ (m : Submitted). m.call.number) (outstanding es)

-- The children whose start is not answered.
abbrev pub starting : Trace → List Child
starting es = filter (λ (k : Child). is_none k.answer) (children es)

-- .. their numbers.
abbrev pub open_starts : Trace → List ℕ
open_starts es = map (λ (k : Child). k.process) (starting es)

-- No call of the history is without an answer, and no start.
pub record IsAnswered (h : List Entry) : Type 0 where
  pub calls : outstanding (reverse h) ≡ []
  pub starts : starting (reverse h) ≡ []

-- Whether it is one of these numbers.
abbrev pub has : List ℕ → ℕ → Bool
has ns n = list_any (λ k. k == n) ns

-- The numbers of an entry's calls, and of its starts.
abbrev pub calls_made : Entry → List ℕ
calls_made e = map (λ (c : Call). c.number) e.effects.calls

abbrev pub starts_made : Entry → List ℕ
starts_made e = map (λ (s : Start). s.process) e.effects.starts

-- The entry of this number, counted from 1, has made this one.
pub record MadeAt (made : Entry → List ℕ) (h : List Entry) (number n : ℕ) : Type 0 where
  pub entry : Entry
  pub numbered : 0 < number
  pub stands : slice_get h (number - 1) ≡ Some entry
  pub is_made : has (made entry) n ≡ true

-- This is left at the end of the history: a line for lvmlockd runs; or the call of that entry, or its start, is not answered.
abbrev pub IsLeft : AlongState → List Entry → Left → Type 0
IsLeft a h LineLeft = runs_line (along a h) ≡ true
IsLeft a h (CallLeft number call) = MadeAt calls_made h number call × (has (open_calls (reverse h)) call ≡ true)
IsLeft a h (StartLeft number process) = MadeAt starts_made h number process × (has (open_starts (reverse h)) process ≡ true)

-- ---- what is kept along the entries

-- The call that an input answers, if it does.
abbrev pub answered_by : Input → Option ℕ
answered_by (Told call answer) = Some call
answered_by i = None

-- The start that it answers.
abbrev pub told_by : Input → Option ℕ
told_by (Spawned process ok) = Some process
told_by i = None

-- The entry that opened this number, if it is open.
abbrev pub opened_at : Open → ℕ → Option ℕ
opened_at o n = get nat_eq o.entries n

-- .. after an entry of this number, which opens these and closes that one.
abbrev pub after_entry : List ℕ → Option ℕ → ℕ → ℕ → Option ℕ → Option ℕ
after_entry made closed number n before = cond (has made n) (Some number) (cond (some_is (λ k. k == n) closed) None before)

-- Open are these numbers, each with an entry of the history that has made it.
pub record Keeps (made : Entry → List ℕ) (h : List Entry) (open_now : List ℕ) (o : Open) : Type 0 where
  pub marked : (n : ℕ) → some_is (λ k. true) (opened_at o n) ≡ has open_now n
  pub where_from : (n number : ℕ) → opened_at o n ≡ Some number → MadeAt made h number n

-- ---- what goes along

-- It has come along this history, whose asks were those due.
pub record IsAudit (t : Telling) (a : AlongState) (h : List Entry) (x : Audit) : Type 0 where
  pub telling : x.telling ≡ telling_along t h
  pub locks : x.locks ≡ along a h
  pub number : x.number ≡ length h
  pub asks : KeepsAsks a h
  pub calls : Keeps calls_made h (open_calls (reverse h)) x.calls
  pub starts : Keeps starts_made h (open_starts (reverse h)) x.starts
  pub replies : x.replies ≡ count_replies a h

-- This is open.
abbrev pub IsOpenIn : Audit → Left → Type 0
IsOpenIn x LineLeft = runs_line x.locks ≡ true
IsOpenIn x (CallLeft number call) = opened_at x.calls call ≡ Some number
IsOpenIn x (StartLeft number process) = opened_at x.starts process ≡ Some number

-- Nothing is.
pub record NothingOpenIn (x : Audit) : Type 0 where
  pub line : runs_line x.locks ≡ false
  pub calls : (n : ℕ) → opened_at x.calls n ≡ None
  pub starts : (n : ℕ) → opened_at x.starts n ≡ None
