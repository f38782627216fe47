-- The promises.
use Rattle.sl_alone.proofs.GivenLaws.{GivenWell, due_cases, find_none, given_once, given_well, kill_last, last_contained, term_is_kill, term_last}
use Rattle.sl_alone.proofs.KeptLaws.{quiet}
use Rattle.sl_alone.proofs.ListFacts.{contains_kept, contains_middle, contains_none, contains_passing}
use Rattle.sl_alone.specs.Calls.{Began, EscalateCall, Exited, Stepped, begun_at, has_exited, holders_left}
use Rattle.sl_alone.specs.DueSignals.{due_among, holder_in, is_grace_over, is_told_term, is_untold, kill_among, last_given, signal_to, signals_given}
use Rattle.sl_alone.specs.SignalLaws.{AllTold, EachOnce, HasWaited, InOrder, KillsWait, LeftAreThere, NoneBefore, OnlyHolders, StepsGive, kill_to, term_to}
use Rattle.sl_alone.specs.declared.holder.Holder.{Holder}
use Rattle.sl_trace.specs.declared.effects.Sent.{Sent}
use Rattle.sl_trace.specs.declared.effects.Signal.TheVariants.{Kill, Term}
use Rattle.sl_trace.specs.declared.effects.Signal.{Signal}
use Rattle.sl_words.proofs.CaseLaws.{false_is_true, none_some}
use Rattle.std.proofs.Common.{Bool, Contains, List, None, Option, Some, ap, false, find, if◌then◌else◌, inl, inr, is_none, map, not, refl, subst, sym, true, [], ℕ, ◌++◌, ◌+◌, ◌==◌, ◌∙◌, ◌∷◌, ◌≡◌}
use Rattle.std.proofs.lemmas.Bool.{le-leb, leb-true, not-true, not_from_false, or_from, or_parts}
use Rattle.std.proofs.lemmas.List.Elements.{Contains-append_left}

-- Each step gives what is due.
pub steps_give : StepsGive
steps_give = record {
  at_first = λ grace. refl;
  beginning = λ grace calls now holders. refl;
  step = λ grace calls now. refl;
  exit = λ grace calls process. refl;
}

-- Each signal once.
pub each_once : EachOnce
each_once grace calls = given_once grace calls

-- Before the beginning nobody is left.
pub none_before : NoneBefore
none_before grace calls now none = rw (none, (quiet grace calls none).left) refl

-- A grace that is over was waited for.
waited : (grace : ℕ) (calls : List EscalateCall) (now : ℕ) → is_grace_over grace (begun_at calls) now ≡ true → HasWaited grace calls now
waited grace calls now over = by (begun_at calls) refl over
  where
    by : (o : Option ℕ) → begun_at calls ≡ o → is_grace_over grace o now ≡ true → HasWaited grace calls now
    by None is none = absurd (false_is_true none)
    by (Some began) is passed = (began, is, leb-true (began + grace) now passed)

-- A grace that was waited for is over.
is_over : (grace : ℕ) (calls : List EscalateCall) (now : ℕ) → HasWaited grace calls now → is_grace_over grace (begun_at calls) now ≡ true
is_over grace calls now h = rw h.1 (le-leb (h.0 + grace) now h.2)

-- Kills wait.
pub kills_wait : KillsWait
kills_wait grace calls now process due =
    elim (due_cases (is_grace_over grace (begun_at calls) now) (signals_given grace calls) (holders_left calls) (kill_to process) due) [
      | inl term ↦ absurd (term_is_kill (sym (ap (λ s. s.signal) term.is)))
      | inr kill ↦ (
        waited grace calls now kill.over,
        last_contained (signals_given grace calls) process Term (term_last process (last_given process (signals_given grace calls)) kill.first.passes),
      )
    ]

-- Who is left was there and has not exited.
pub left_are_there : LeftAreThere
left_are_there [] process = (λ there. absurd (contains_none process there), λ both. both.0)
left_are_there (Began now holders ∷ calls) process = (λ there. (there, refl), λ both. both.0)
left_are_there (Stepped now ∷ calls) process = left_are_there calls process
left_are_there (Exited other ∷ calls) process =
    let before = left_are_there calls process in (
      λ there.
          let kept = contains_kept (λ holder. not (holder == other)) (holders_left calls) process there in
          let known = before.0 kept.0 in
          (known.0, or_from (process == other) (has_exited process calls) (not-true (process == other) kept.1) known.1),
      λ both.
          let apart = or_parts (process == other) (has_exited process calls) both.1 in
          contains_passing (λ holder. not (holder == other)) (holders_left calls) process (before.1 (both.0, apart.1)) (not_from_false (process == other) apart.0),
    )

-- Who comes first is left.
first_left : (left before : List ℕ) (process : ℕ) (after : List ℕ) → left ≡ before ++ process ∷ after → Contains left process
first_left left before process after split = subst (λ ps. Contains ps process) (sym split) (contains_middle before process after)

-- Only holders.
pub only_holders : OnlyHolders
only_holders grace calls now s due = (left_are_there calls s.process).0
    (elim (due_cases (is_grace_over grace (begun_at calls) now) (signals_given grace calls) (holders_left calls) s due) [
      | inl term ↦ first_left (holders_left calls) term.first.before s.process term.first.after term.first.split
      | inr kill ↦ first_left (holders_left calls) kill.first.before s.process kill.first.after kill.first.split
    ])

-- Who was told something was given term.
told_term : (given : List Sent) (process : ℕ) → GivenWell given → is_none (last_given process given) ≡ false → Contains given (term_to process)
told_term given process well told = by (last_given process given) refl told
  where
    by : (last : Option Signal) → last_given process given ≡ last → is_none last ≡ false → Contains given (term_to process)
    by None is none = absurd (false_is_true (sym none))
    by (Some Term) is some = last_contained given process Term is
    by (Some Kill) is some = well.term process (last_contained given process Kill is)

-- Who was told something, and not term last, was given kill.
told_kill : (given : List Sent) (process : ℕ) → is_none (last_given process given) ≡ false → is_told_term (holder_in given process) ≡ false
    → Contains given (kill_to process)
told_kill given process told passed = last_contained given process Kill (kill_last process (last_given process given) told passed)

-- This signal to a process is that of the sort.
of_sort : (given : List Sent) (process : ℕ) (s : Sent) (signal : Signal) → s.signal ≡ signal → Contains given (record { process = process; signal = signal })
    → Contains given (record s { process = process })
of_sort given process s signal is there = subst (λ x. Contains given (record { process = process; signal = x })) (sym is) there

-- In order.
pub in_order : InOrder
in_order grace calls now s due =
    let given = signals_given grace calls in
    let left = holders_left calls in
    elim (due_cases (is_grace_over grace (begun_at calls) now) given left s due) [
      | inl term ↦ (
        term.first.before,
        term.first.after,
        term.first.split,
        λ process earlier. of_sort given process s Term (ap (λ t. t.signal) term.is) (told_term given process (given_well grace calls) (term.first.others process earlier)),
      )
      | inr kill ↦ (
        kill.first.before,
        kill.first.after,
        kill.first.split,
        λ process earlier. of_sort given process s Kill (ap (λ t. t.signal) kill.is)
            (told_kill given process
            (kill.told process (subst (λ ps. Contains ps process) (sym kill.first.split) (Contains-append_left kill.first.before (s.process ∷ kill.first.after) process earlier)))
            (kill.first.others process earlier)),
      )
    ]

-- Nothing is due: each was told, and where the grace is over, none is told term last.
record NoneDue (over : Bool) (given : List Sent) (left : List ℕ) : Type 0 where
  told : (process : ℕ) → Contains left process → is_none (last_given process given) ≡ false
  killed : over ≡ true → (process : ℕ) → Contains left process → is_told_term (holder_in given process) ≡ false

-- So it is where nothing is due.
none_due : (over : Bool) (given : List Sent) (left : List ℕ) → due_among over (map (holder_in given) left) ≡ None → NoneDue over given left
none_due over given left none = by (find is_untold (map (holder_in given) left)) refl none
  where
    last : (o : Option Holder) → find is_told_term (map (holder_in given) left) ≡ o → (b : Bool) → over ≡ b
        → (if b then elim o as (λ _. Option Sent) [ Some h ↦ Some (signal_to Kill h) | None ↦ None ] else None) ≡ None
        → over ≡ true → find is_told_term (map (holder_in given) left) ≡ None
    last (Some h) found true is some isnt = absurd (none_some (signal_to Kill h) (sym some))
    last None found true is quiet isnt = found
    last o found false is quiet isnt = absurd (false_is_true (sym is ∙ isnt))

    by : (o : Option Holder) → find is_untold (map (holder_in given) left) ≡ o
        → (elim (elim o as (λ _. Option Sent) [ Some h ↦ Some (signal_to Term h) | None ↦ None ]) as (λ _. Option Sent) [ Some t ↦ Some t | None ↦ if over then kill_among (map (holder_in given) left) else None ]) ≡ None
        → NoneDue over given left
    by (Some h) found some = absurd (none_some (signal_to Term h) (sym some))
    by None found quiet = record {
      told = λ process there. find_none given is_untold left found process there;
      killed = λ is process there. find_none given is_told_term left (last (find is_told_term (map (holder_in given) left)) refl over refl quiet is) process there;
    }

-- All are told.
pub all_told : AllTold
all_told grace calls now process due there =
    let given = signals_given grace calls in
    let over = is_grace_over grace (begun_at calls) now in
    let quiet : NoneDue over given (holders_left calls) = none_due over given (holders_left calls) due in (
      told_term given process (given_well grace calls) (quiet.told process there),
      λ h. told_kill given process (quiet.told process there) (quiet.killed (is_over grace calls now h) process there),
    )
