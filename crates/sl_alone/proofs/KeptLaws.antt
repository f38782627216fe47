-- What is kept, after one more call.
use Rattle.sl_alone.specs.Calls.{Began, EscalateCall, Exited, Stepped, begun_at, holders_left}
use Rattle.sl_alone.specs.DueSignals.{due_among, holder_in, is_grace_over, holders_told, last_given, noted, signal_due, signals_given}
use Rattle.sl_alone.specs.KeptRecovery.{Kept, Stands}
use Rattle.sl_alone.specs.declared.holder.Holder.{Holder}
use Rattle.sl_trace.specs.declared.effects.Sent.{Sent}
use Rattle.sl_words.proofs.CaseLaws.{none_some}
use Rattle.std.proofs.Common.{List, None, Some, ap, cond, false, filter, if◌then◌else◌, map, not, refl, sym, true, [], ℕ, ◌==◌, ◌∙◌, ◌∷◌, ◌≡◌}

-- Before the beginning there is no holder, and no signal was given.
pub record IsQuiet (grace : ℕ) (calls : List EscalateCall) : Type 0 where
  pub left : holders_left calls ≡ []
  pub given : signals_given grace calls ≡ []

-- So it is as long as nothing has begun.
pub quiet : (grace : ℕ) (calls : List EscalateCall) → begun_at calls ≡ None → IsQuiet grace calls
quiet grace [] none = record { left = refl; given = refl }
quiet grace (Began now holders ∷ calls) none = absurd (none_some now (sym none))
quiet grace (Stepped now ∷ calls) none =
    let before = quiet grace calls none in
    record { left = before.left; given = rw (none, before.left, before.given) refl }
quiet grace (Exited process ∷ calls) none =
    let before = quiet grace calls none in
    record { left = rw before.left refl; given = before.given }

-- At the beginning no holder was told anything.
pub told_begun : (grace : ℕ) (calls : List EscalateCall) (now : ℕ) (processes : List ℕ) → begun_at calls ≡ None
    → map (λ process. record { process = process; last = None }) processes ≡ holders_told grace (Began now processes ∷ calls)
told_begun grace calls now processes none = rw (quiet grace calls none).given refl

-- A further signal is noted at its process.
noted_each : (s : Sent) (given : List Sent) (left : List ℕ) → map (noted s) (map (holder_in given) left) ≡ map (holder_in (s ∷ given)) left
noted_each s given [] = refl
noted_each s given (process ∷ left) = elim (s.process == process)
    as (λ b. (let h : Holder = if b then record { process = process; last = Some s.signal } else holder_in given process in h) ∷ map (noted s) (map (holder_in given) left)
    ≡ record { process = process; last = if b then Some s.signal else last_given process given } ∷ map (holder_in (s ∷ given)) left) [
      | true ↦ ap (λ hs. record { process = process; last = Some s.signal } ∷ hs) (noted_each s given left)
      | false ↦ ap (λ hs. holder_in given process ∷ hs) (noted_each s given left)
    ]

-- What is due of what is kept is due of the calls.
due_is : (grace : ℕ) (calls : List EscalateCall) (r : Kept) (now : ℕ) → Stands grace r calls
    → due_among (is_grace_over r.grace r.began now) r.holders ≡ signal_due grace calls now
due_is grace calls r now stands = rw (stands.patience, stands.beginning, stands.told) refl

-- After a step that gave a signal, it is noted.
pub stands_noted : (grace : ℕ) (calls : List EscalateCall) (r : Kept) (now : ℕ) (s : Sent) → Stands grace r calls
    → Some s ≡ due_among (is_grace_over r.grace r.began now) r.holders → Stands grace (record r { holders = map (noted s) r.holders }) (Stepped now ∷ calls)
stands_noted grace calls r now s stands due = record {
  patience = stands.patience;
  beginning = stands.beginning;
  told = rw (stands.told, ← (due ∙ due_is grace calls r now stands)) (noted_each s (signals_given grace calls) (holders_left calls));
}

-- After a step that gave none, nothing has changed.
pub stands_quiet : (grace : ℕ) (calls : List EscalateCall) (r : Kept) (now : ℕ) → Stands grace r calls
    → None ≡ due_among (is_grace_over r.grace r.began now) r.holders → Stands grace r (Stepped now ∷ calls)
stands_quiet grace calls r now stands due = record {
  patience = stands.patience;
  beginning = stands.beginning;
  told = rw (← (due ∙ due_is grace calls r now stands)) stands.told;
}

-- Who is left is told what it was told.
pub told_exited : (given : List Sent) (process : ℕ) (left : List ℕ)
    → filter (λ h. not (h.process == process)) (map (holder_in given) left) ≡ map (holder_in given) (filter (λ holder. not (holder == process)) left)
told_exited given process [] = refl
told_exited given process (holder ∷ left) = elim (holder == process)
    as (λ b. cond (not b) (holder_in given holder ∷ filter (λ h. not (h.process == process)) (map (holder_in given) left)) (filter (λ h. not (h.process == process)) (map (holder_in given) left))
    ≡ map (holder_in given) (cond (not b) (holder ∷ filter (λ other. not (other == process)) left) (filter (λ other. not (other == process)) left)))
    [ true ↦ told_exited given process left | false ↦ ap (λ hs. holder_in given holder ∷ hs) (told_exited given process left) ]
