-- Nothing in a trace has a later reading than its newest entry.
use Rattle.sl_words.proofs.Lists.{contains_none, find_inside}
use Rattle.sl_run_law.proofs.Sessions.CallsAreMade.{old_or_new, was_marked}
use Rattle.sl_trace.specs.Sessions.{begun_in, is_call_of, is_joined, is_renewal, last_renewal, recovers, renewed_by, renewing, session_numbered, sessions, shows_other}
use Rattle.sl_trace.specs.declared.session.Begun.{Begun}
use Rattle.sl_trace.specs.declared.session.Renewing.{Renewing}
use Rattle.sl_trace.specs.declared.session.Session.{Session}
use Rattle.sl_time.specs.Times.{fail}
use Rattle.sl_trace.specs.WatchdogConnections.{last_registering, registers}
use Rattle.sl_trace.specs.Traces.{IsTrace, Setting, Submitted, Trace, call_numbered, last_reading, mark, submitted}
use Rattle.sl_trace.specs.declared.effects.Entry.{Entry}
use Rattle.sl_trace.specs.declared.input.Answer.TheVariants.{Failed, Read, Written}
use Rattle.sl_trace.specs.declared.input.Given.{Given}
use Rattle.sl_trace.specs.declared.input.Input.TheVariants.{Answer as Told, Exit, Line, Number, Spawned, Wake}
use Rattle.sl_trace.specs.declared.input.Input.{Input}
use Rattle.sl_run_law.specs.Watchdog.ActingTimes.{renewal_in, renewal_told}
use Rattle.sl_run_law.proofs.Watchdog.TraceNumbers.{begun_is, either_place, given_one}
use Rattle.sl_words.proofs.CaseLaws.{none_some}
use Rattle.sl_words.proofs.WordLaws.{and_true, choose_some}
use Rattle.sl_words.specs.Words.{choose, greatest}
use Rattle.std.proofs.Common.{ap, arith, inl, inr, refl, subst, sym, ◌∙◌}
use Rattle.std.specs.List.{list_any}
use Rattle.std.specs.Prelude.{Bool, Contains, List, None, Option, Some, [], false, length, map, nat_le, option_and_then, option_map, slice_get, unwrap_or, suc, true, zero, ℕ, ◌&&◌, ◌+◌, ◌==◌, ◌∷◌, ◌≡◌, ◌≤◌, ◌⊎◌}

-- ---- calls

pub call_reading : (st : Setting) (es : Trace) (m : Submitted) → IsTrace st es → Contains (submitted es) m → m.reading ≤ last_reading st es
call_reading st [] m h there = absurd (contains_none m there)
call_reading st (e ∷ es) m h there =
    elim (old_or_new (length es) e.reading e.effects.calls (mark es e e.input (submitted es)) m there) as (λ z. m.reading ≤ e.reading) [
      | inl old ↦
          let w = was_marked es e e.input (submitted es) m old in
          let same = w.same.reading in
          let before = call_reading st es w.before h.1 w.inside in
          let time = h.0.time in
          omega (arith, same, before, time)
      | inr new ↦ let r = new.reading_is in omega (arith, r)
    ]

-- ---- registering

registered_by : (st : Setting) (e : Entry) (es : Trace) (name : List ℕ) (b : Bool) → last_registering es name ≤ e.reading
    → elim b as (λ x. ℕ) [ true ↦ e.reading | false ↦ last_registering es name ] ≤ e.reading
registered_by st e es name true h = omega arith
registered_by st e es name false h = h

pub registering_reading : (st : Setting) (es : Trace) (name : List ℕ) → IsTrace st es → last_registering es name ≤ last_reading st es
registering_reading st [] name h = omega arith
registering_reading st (e ∷ es) name h =
    let before = registering_reading st es name h.1 in
    let time = h.0.time in
    registered_by st e es name (list_any (registers name) e.effects.moves) (omega (arith, before, time))

-- ---- renewing

given_greatest : (gs : List Given) (n : ℕ) (g : Given) → slice_get gs n ≡ Some g → g.renewed ≤ greatest (map (λ (x : Given). x.renewed) gs)
given_greatest [] n g at = absurd (none_some g at)
given_greatest (x ∷ gs) zero g at = let same : x.renewed ≡ g.renewed = cc in omega (arith, same)
given_greatest (x ∷ gs) (suc n) g at = let r = given_greatest gs n g at in omega (arith, r)

pub given_reading : (st : Setting) (es : Trace) (n : ℕ) (s : Session) → session_numbered st es n ≡ Some s → s.renewed ≤ last_reading st []
given_reading st [] n s at =
    let r = given_one st n s at in
    let below = given_greatest st.given n r.0 r.1 in
    subst (λ n. n ≤ last_reading st []) (sym r.3) below
given_reading st (e ∷ es) n s at =
    elim (either_place (sessions st es) (begun_in st es (length (sessions st es)) e) n s at) as (λ z. s.renewed ≤ last_reading st []) [
      | inl old ↦ given_reading st es n s old
      | inr new ↦ let none = (begun_is st es (length (sessions st es)) new.0 e s new.2).1.renewed in omega (arith, none)
    ]

-- The renewal that an input answers ok.
pub record IsTold (es : Trace) (s : Session) (i : Input) (m : Submitted) : Type 0 where
  pub number : ℕ
  pub told : i ≡ Told number Written
  pub found : call_numbered es number ≡ Some m
  pub its : is_call_of s m ≡ true
  pub renews : is_renewal m.call.purpose ≡ true

told_by : (es : Trace) (s : Session) (n : ℕ) (r : Submitted) (o : Option Submitted) → call_numbered es n ≡ o
    → option_and_then (λ (m : Submitted). choose (is_call_of s m && is_renewal m.call.purpose) m) o ≡ Some r → IsTold es s (Told n Written) r
told_by es s n r None is h = absurd (none_some r h)
told_by es s n r (Some m) is h =
    let c = choose_some (is_call_of s m && is_renewal m.call.purpose) m r h in
    let b = and_true (is_call_of s m) (is_renewal m.call.purpose) c.0 in
    subst (λ (x : Submitted). IsTold es s (Told n Written) x) c.1 (record { number = n; told = refl; found = is; its = b.0; renews = b.1 })

pub told : (es : Trace) (s : Session) (i : Input) (m : Submitted) → renewal_told es s i ≡ Some m → IsTold es s i m
told es s (Told n Written) m h = told_by es s n m (call_numbered es n) refl h
told es s (Told n (Read bytes)) m h = absurd (none_some m h)
told es s (Told n Failed) m h = absurd (none_some m h)
told es s (Line text) m h = absurd (none_some m h)
told es s (Number text) m h = absurd (none_some m h)
told es s (Exit p) m h = absurd (none_some m h)
told es s (Spawned p ok) m h = absurd (none_some m h)
told es s Wake m h = absurd (none_some m h)

same_chosen : (b : Bool) (m : Submitted) → choose b m.reading ≡ option_map (λ (x : Submitted). x.reading) (choose b m)
same_chosen true m = refl
same_chosen false m = refl

same_told_by : (s : Session) (o : Option Submitted) → option_and_then (λ (m : Submitted). choose (is_call_of s m && is_renewal m.call.purpose) m.reading) o
    ≡ option_map (λ (x : Submitted). x.reading) (option_and_then (λ (m : Submitted). choose (is_call_of s m && is_renewal m.call.purpose) m) o)
same_told_by s None = refl
same_told_by s (Some m) = same_chosen (is_call_of s m && is_renewal m.call.purpose) m

same_told : (es : Trace) (s : Session) (i : Input) → renewed_by es s i ≡ option_map (λ (x : Submitted). x.reading) (renewal_told es s i)
same_told es s (Told n Written) = same_told_by s (call_numbered es n)
same_told es s (Told n (Read bytes)) = refl
same_told es s (Told n Failed) = refl
same_told es s (Line text) = refl
same_told es s (Number text) = refl
same_told es s (Exit p) = refl
same_told es s (Spawned p ok) = refl
same_told es s Wake = refl

-- What an entry makes of the last renewal: it stays, or is that which the entry answers.
pub data NextRenewal (st : Setting) (es : Trace) (s : Session) (e : Entry) : Type 0 where
  Stays : renewal_in st es s e ≡ None → last_renewal st (e ∷ es) s ≡ last_renewal st es s → NextRenewal st es s e
  Counts : (m : Submitted) → renewal_in st es s e ≡ Some m → renewal_told es s e.input ≡ Some m → last_renewal st (e ∷ es) s ≡ m.reading → NextRenewal st es s e

abbrev pub in_by : Option Begun → Bool → Bool → Option Submitted → Option Submitted
in_by begun late other told =
    elim begun [
      | Some b ↦ None
      | None ↦ elim late [ true ↦ None | false ↦ elim other [ true ↦ None | false ↦ told ] ]
    ]

abbrev pub after_by : Trace → Entry → Renewing → Option Begun → Bool → Bool → Option ℕ → Renewing
after_by es e r begun late other told =
    elim begun [
      | Some b ↦ r
      | None ↦ elim late [
        | true ↦ recovers es e (length es) r
        | false ↦ elim other [ true ↦ recovers es e (length es + 1) r | false ↦ record r { last = unwrap_or told r.last } ]
      ]
    ]

abbrev pub reading_in : Option Submitted → Option ℕ
reading_in o = option_map (λ (x : Submitted). x.reading) o

abbrev NextBy : Trace → Entry → Renewing → Option Begun → Bool → Bool → Option Submitted → Type 0
NextBy es e r begun late other told =
    ((in_by begun late other told ≡ None) × ((after_by es e r begun late other (reading_in told)).last ≡ r.last))
    ⊎ ((m : Submitted) × (in_by begun late other told ≡ Some m) × (told ≡ Some m) × ((after_by es e r begun late other (reading_in told)).last ≡ m.reading))

next_by : (es : Trace) (e : Entry) (r : Renewing) (begun : Option Begun) (late other : Bool) (told : Option Submitted) → NextBy es e r begun late other told
next_by es e r (Some b) late other told = inl (refl, refl)
next_by es e r None true other told = inl (refl, refl)
next_by es e r None false true told = inl (refl, refl)
next_by es e r None false false None = inl (refl, refl)
next_by es e r None false false (Some m) = inr (m, refl, refl, refl)

pub next_renewal : (st : Setting) (es : Trace) (s : Session) (e : Entry) → NextRenewal st es s e
next_renewal st es s e =
    by (next_by es e (renewing st es s) (renewing st es s).recovery (is_joined es s && nat_le ((renewing st es s).last + fail st.timing) e.reading)
    (is_joined es s && shows_other st es s e.input) (renewal_told es s e.input))
  where
    last_by : Option ℕ → ℕ
    last_by o =
        (after_by es e (renewing st es s) (renewing st es s).recovery (is_joined es s && nat_le ((renewing st es s).last + fail st.timing) e.reading)
        (is_joined es s && shows_other st es s e.input) o).last

    by : NextBy es e (renewing st es s) (renewing st es s).recovery (is_joined es s && nat_le ((renewing st es s).last + fail st.timing) e.reading)
        (is_joined es s && shows_other st es s e.input) (renewal_told es s e.input) → NextRenewal st es s e
    by (inl p) = Stays p.0 (ap last_by (same_told es s e.input) ∙ p.1)
    by (inr p) = Counts p.0 p.1 p.2 (ap last_by (same_told es s e.input) ∙ p.3)

renewal_by : (st : Setting) (e : Entry) (es : Trace) (s : Session) → IsTrace st (e ∷ es) → last_renewal st es s ≤ e.reading → NextRenewal st es s e → last_renewal st (e ∷ es) s ≤ e.reading
renewal_by st e es s h before (Stays none same) = omega (arith, same, before)
renewal_by st e es s h before (Counts m is told_is same) =
    let w = told es s e.input m told_is in
    let r = call_reading st es m h.1 (find_inside (λ (x : Submitted). x.call.number == w.number) (submitted es) m w.found).0 in
    let time = h.0.time in
    omega (arith, same, r, time)

pub renewal_reading : (st : Setting) (es : Trace) (s : Session) → IsTrace st es → s.renewed ≤ last_reading st [] → last_renewal st es s ≤ last_reading st es
renewal_reading st [] s h given = given
renewal_reading st (e ∷ es) s h given =
    let before = renewal_reading st es s h.1 given in
    let time = h.0.time in
    renewal_by st e es s h (omega (arith, before, time)) (next_renewal st es s e)
