-- What is in a list, and what a test finds there.
use Rattle.sl_words.proofs.Lists.{any_found, any_of, kept, kept_inside}
use Rattle.sl_words.proofs.Options.{none_is}
use Rattle.sl_trace.specs.Sessions.{calls_of, has_open_delta, has_open_write, is_call_of, is_delta_purpose}
use Rattle.sl_trace.specs.declared.session.Session.{Session}
use Rattle.sl_trace.specs.Traces.{Submitted, Trace, is_write, submitted}
use Rattle.sl_words.proofs.CaseLaws.{is_false, true_is_false}
use Rattle.std.proofs.Common.{ap, sym, ◌∙◌}
use Rattle.std.proofs.lemmas.Bool.{eq-eqb, eqb-true}
use Rattle.std.specs.List.{list_any}
use Rattle.std.specs.Prelude.{Bool, Contains, List, None, false, filter, is_none, true, ℕ, ◌==◌, ◌≡◌}

-- ---- tests of a list

-- Where none passes, each fails.
pub none_of : {A : Type 0} (p : A → Bool) (xs : List A) (d : A) → list_any p xs ≡ false → Contains xs d → p d ≡ false
none_of p xs d none there = is_false (p d) (λ h. true_is_false (sym (any_of p xs d h there) ∙ none))

-- ---- calls

pub numbers_apart : (a b : ℕ) → (a ≡ b → ⊥) → (a == b) ≡ false
numbers_apart a b h = is_false (a == b) (λ t. h (eqb-true a b t))

-- A session's call.
pub call_inside : (es : Trace) (s : Session) (m : Submitted) → Contains (submitted es) m → m.call.session ≡ s.number → Contains (calls_of es s) m
call_inside es s m there mine = kept (is_call_of s) (submitted es) m (eq-eqb m.call.session s.number mine) there

pub call_owner : (es : Trace) (s : Session) (m : Submitted) → Contains (calls_of es s) m → Contains (submitted es) m × (m.call.session ≡ s.number)
call_owner es s m there =
    let r = kept_inside (is_call_of s) (submitted es) m there in
    (r.0, eqb-true m.call.session s.number r.1)

pub open_write : (es : Trace) (s : Session) (m : Submitted) → Contains (calls_of es s) m → m.answer ≡ None → is_write m.call.op ≡ true → has_open_write es s ≡ true
open_write es s m there waits writes =
    any_of (λ (x : Submitted). is_write x.call.op) (filter (λ (x : Submitted). is_none x.answer) (calls_of es s)) m writes
    (kept (λ (x : Submitted). is_none x.answer) (calls_of es s) m (ap (λ o. is_none o) waits) there)

pub open_delta : (es : Trace) (s : Session) (m : Submitted) → Contains (calls_of es s) m → m.answer ≡ None → is_delta_purpose m.call.purpose ≡ true → has_open_delta es s ≡ true
open_delta es s m there waits is =
    any_of (λ (x : Submitted). is_delta_purpose x.call.purpose) (filter (λ (x : Submitted). is_none x.answer) (calls_of es s)) m is
    (kept (λ (x : Submitted). is_none x.answer) (calls_of es s) m (ap (λ o. is_none o) waits) there)

-- A write of the session without an answer.
pub record OpenWrite (es : Trace) (s : Session) : Type 0 where
  pub call : Submitted
  pub inside : Contains (submitted es) call
  pub mine : call.call.session ≡ s.number
  pub waits : call.answer ≡ None
  pub writes : is_write call.call.op ≡ true

pub the_open_write : (es : Trace) (s : Session) → has_open_write es s ≡ true → OpenWrite es s
the_open_write es s h =
    let found = any_found (λ (m : Submitted). is_write m.call.op) (filter (λ (m : Submitted). is_none m.answer) (calls_of es s)) h in
    let waits = kept_inside (λ (m : Submitted). is_none m.answer) (calls_of es s) found.0 found.1 in
    let its = call_owner es s found.0 waits.0 in
    record { call = found.0; inside = its.0; mine = its.1; waits = none_is found.0.answer waits.1; writes = found.2 }
