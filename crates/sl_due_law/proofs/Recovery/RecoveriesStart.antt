-- Where a recovery and a leaving began: in an entry before, or in this one; a recovery by time or by a read.
use Rattle.sl_due_facts.proofs.Jobs.SessionsHaveJobs.{left_in}
use Rattle.sl_due_facts.proofs.Jobs.SessionsStand.{joined_then}
use Rattle.sl_words.proofs.Options.{none_is, some_there}
use Rattle.sl_trace.specs.Sessions.{is_joined, joined_after, leaving_in, leaving_job, recovers, recovery_of, removed_after, renewed_by, renewing, renewing_after, shows_other}
use Rattle.sl_trace.specs.declared.session.Begun.{Begun}
use Rattle.sl_trace.specs.declared.session.Renewing.{Renewing}
use Rattle.sl_trace.specs.declared.session.Session.{Session}
use Rattle.sl_time.specs.Times.{fail}
use Rattle.sl_trace.specs.WatchdogConnections.{unregisters}
use Rattle.sl_trace.specs.Traces.{Job, Setting, Trace}
use Rattle.sl_trace.specs.declared.effects.Entry.{Entry}
use Rattle.sl_run_law.proofs.Sessions.MarksStay.{marks_stay}
use Rattle.sl_words.proofs.CaseLaws.{none_some, not_both, some_value}
use Rattle.sl_words.proofs.WordLaws.{and_true}
use Rattle.sl_words.specs.Words.{choose}
use Rattle.std.proofs.Common.{ap, ap₂, arith, inl, inr, refl, sym, ◌∙◌}
use Rattle.std.specs.List.{list_any}
use Rattle.std.specs.Prelude.{Bool, None, Option, Some, [], false, is_none, is_some, length, nat_le, suc, true, unwrap_or, ℕ, ◌&&◌, ◌+◌, ◌<◌, ◌∷◌, ◌≡◌, ◌≤◌, ◌⊎◌}

plus_one : (n : ℕ) → n + 1 ≡ suc n
plus_one n = omega arith

-- How a recovery starts in the entry after these.
pub data StartReason (st : Setting) (es : Trace) (s : Session) (e : Entry) (b : Begun) : Type 0 where
  By_time : b.kills_from ≡ length es → StartReason st es s e b
  By_read : b.kills_from ≡ length es + 1 → shows_other st es s e.input ≡ true → StartReason st es s e b

pub record Starts (st : Setting) (es : Trace) (s : Session) (e : Entry) (b : Begun) : Type 0 where
  pub joined : is_joined es s ≡ true
  pub at : b.at ≡ length es
  pub reading : b.reading ≡ e.reading
  pub reason : StartReason st es s e b

begun_is : (es : Trace) (e : Entry) (kills_from : ℕ) (r : Renewing) (b : Begun) → (recovers es e kills_from r).recovery ≡ Some b → record { at = length es; reading = e.reading; kills_from = kills_from } ≡ b
begun_is es e kills_from r b is = some_value (record { at = length es; reading = e.reading; kills_from = kills_from }) b is

start_of : (st : Setting) (es : Trace) (s : Session) (r : Renewing) (e : Entry) (b : Begun) → (renewing_after st es s r e).recovery ≡ Some b → (r.recovery ≡ Some b) ⊎ ((r.recovery ≡ None) × Starts st es s e b)
start_of st es s r e b is = by r.recovery refl is where
  started : (k : ℕ) → is_joined es s ≡ true → (recovers es e k r).recovery ≡ Some b → (b.kills_from ≡ k → StartReason st es s e b) → Starts st es s e b
  started k joined h reason =
      let same : record { at = length es; reading = e.reading; kills_from = k } ≡ b = begun_is es e k r b h in
      record { joined = joined; at = ap (λ (z : Begun). z.at) (sym same); reading = ap (λ (z : Begun). z.reading) (sym same); reason = reason (ap (λ (z : Begun). z.kills_from) (sym same)) }

  by_read : (o : Bool) → (is_joined es s && shows_other st es s e.input) ≡ o → r.recovery ≡ None
      → (elim o as (λ z. Renewing) [ true ↦ recovers es e (length es + 1) r | false ↦ record { last = unwrap_or (renewed_by es s e.input) r.last; recovery = r.recovery } ]).recovery ≡ Some b
      → (r.recovery ≡ Some b) ⊎ ((r.recovery ≡ None) × Starts st es s e b)
  by_read true shows none h =
      let both = and_true (is_joined es s) (shows_other st es s e.input) shows in
      inr (none, started (length es + 1) both.0 h (λ kills. By_read kills both.1))
  by_read false shows none h = inl h

  by_time : (o : Bool) → (is_joined es s && nat_le (r.last + fail st.timing) e.reading) ≡ o → r.recovery ≡ None
      → (elim o as (λ z. Renewing) [
        | true ↦ recovers es e (length es) r
        | false ↦ elim (is_joined es s && shows_other st es s e.input) as (λ z. Renewing) [ true ↦ recovers es e (length es + 1) r | false ↦ record { last = unwrap_or (renewed_by es s e.input) r.last; recovery = r.recovery } ]
      ]).recovery ≡ Some b
      → (r.recovery ≡ Some b) ⊎ ((r.recovery ≡ None) × Starts st es s e b)
  by_time true late none h =
      inr (none, started (length es) (and_true (is_joined es s) (nat_le (r.last + fail st.timing) e.reading) late).0 h (λ kills. By_time kills))
  by_time false late none h = by_read (is_joined es s && shows_other st es s e.input) refl none h

  by : (o : Option Begun) → r.recovery ≡ o
      → (elim o as (λ z. Renewing) [
        | Some c ↦ r
        | None ↦ elim (is_joined es s && nat_le (r.last + fail st.timing) e.reading) as (λ z. Renewing) [
          | true ↦ recovers es e (length es) r
          | false ↦ elim (is_joined es s && shows_other st es s e.input) as (λ z. Renewing) [ true ↦ recovers es e (length es + 1) r | false ↦ record { last = unwrap_or (renewed_by es s e.input) r.last; recovery = r.recovery } ]
        ]
      ]).recovery ≡ Some b
      → (r.recovery ≡ Some b) ⊎ ((r.recovery ≡ None) × Starts st es s e b)
  by (Some c) was h = inl h
  by None was h = by_time (is_joined es s && nat_le (r.last + fail st.timing) e.reading) refl was h

-- In an entry's newest state a recovery is one of before, or starts.
pub recovery_starts : (st : Setting) (e : Entry) (es : Trace) (s : Session) (b : Begun) → recovery_of st (e ∷ es) s ≡ Some b → (recovery_of st es s ≡ Some b) ⊎ ((recovery_of st es s ≡ None) × Starts st es s e b)
recovery_starts st e es s b is = start_of st es s (renewing st es s) e b is

-- A recovery that has begun stays as it began.
pub recovery_stays : (st : Setting) (e : Entry) (es : Trace) (s : Session) (b : Begun) → recovery_of st es s ≡ Some b → recovery_of st (e ∷ es) s ≡ Some b
recovery_stays st e es s b is = by (renewing st es s) is where
  by : (r : Renewing) → r.recovery ≡ Some b → (renewing_after st es s r e).recovery ≡ Some b
  by r was = at r.recovery refl was where
    at : (o : Option Begun) → r.recovery ≡ o → o ≡ Some b
        → (elim o as (λ z. Renewing) [
          | Some c ↦ r
          | None ↦ elim (is_joined es s && nat_le (r.last + fail st.timing) e.reading) as (λ z. Renewing) [
            | true ↦ recovers es e (length es) r
            | false ↦ elim (is_joined es s && shows_other st es s e.input) as (λ z. Renewing) [ true ↦ recovers es e (length es + 1) r | false ↦ record { last = unwrap_or (renewed_by es s e.input) r.last; recovery = r.recovery } ]
          ]
        ]).recovery ≡ Some b
    at (Some c) here is_one = here ∙ is_one
    at None here is_one = absurd (none_some b is_one)

-- Where and when a recovery of before began, and from which entry on its kills count.
pub record BegunBefore (es : Trace) (b : Begun) : Type 0 where
  pub at : b.at < length es
  pub least : b.at ≤ b.kills_from
  pub most : b.kills_from ≤ b.at + 1

starts_now : (st : Setting) (es : Trace) (s : Session) (e : Entry) (b : Begun) → Starts st es s e b → BegunBefore (e ∷ es) b
starts_now st es s e b h = by h.reason where
  by : StartReason st es s e b → BegunBefore (e ∷ es) b
  by (By_time kills) = let at : b.at ≡ length es = h.at in record { at = omega (arith, at); least = omega (arith, at, kills); most = omega (arith, at, kills) }
  by (By_read kills shows) = let at : b.at ≡ length es = h.at in record { at = omega (arith, at); least = omega (arith, at, kills); most = omega (arith, at, kills) }

pub begun_before : (st : Setting) (es : Trace) (s : Session) (b : Begun) → recovery_of st es s ≡ Some b → BegunBefore es b
begun_before st [] s b is = absurd (none_some b is)
begun_before st (e ∷ es) s b is = by (recovery_starts st e es s b is) (λ was. begun_before st es s b was) where
  by : (recovery_of st es s ≡ Some b) ⊎ ((recovery_of st es s ≡ None) × Starts st es s e b) → (recovery_of st es s ≡ Some b → BegunBefore es b) → BegunBefore (e ∷ es) b
  by (inl was) more = let h : BegunBefore es b = more was in record { at = let less : b.at < length es = h.at in omega (arith, less); least = h.least; most = h.most }
  by (inr new) more = starts_now st es s e b new.1

-- One that begins at this entry started in it.
pub starts_at : (st : Setting) (e : Entry) (es : Trace) (s : Session) (b : Begun) → recovery_of st (e ∷ es) s ≡ Some b → b.at ≡ length es → (recovery_of st es s ≡ None) × Starts st es s e b
starts_at st e es s b is at = by (recovery_starts st e es s b is) where
  by : (recovery_of st es s ≡ Some b) ⊎ ((recovery_of st es s ≡ None) × Starts st es s e b) → (recovery_of st es s ≡ None) × Starts st es s e b
  by (inl was) = let less : b.at < length es = (begun_before st es s b was).at in absurd (omega (arith, less, at))
  by (inr new) = new

-- A leaving of before began before.
pub leaving_before : (st : Setting) (es : Trace) (s : Session) (j : Job) → leaving_job st es s ≡ Some j → j.at < length es
leaving_before st [] s j is = absurd (none_some j is)
leaving_before st (e ∷ es) s j is = by (leaving_job st es s) refl is (λ was. leaving_before st es s j was) where
  by : (o : Option Job) → leaving_job st es s ≡ o → (elim o as (λ z. Option Job) [ Some k ↦ Some k | None ↦ leaving_in st es s e ]) ≡ Some j → (leaving_job st es s ≡ Some j → j.at < length es) → j.at < length (e ∷ es)
  by (Some k) was h more = let less : j.at < length es = more (was ∙ h) in omega (arith, less)
  by None was h more =
      let at : length es ≡ j.at = ap (λ (z : Job). z.at) (left_in st es s e j h).3 in omega (arith, at)

-- ---- joined sessions

-- A session that was joined before the entry is, unless its connection is removed.
pub joined_unless : (e : Entry) (es : Trace) (s : Session) → is_joined es s ≡ true → list_any (unregisters s.lockspace) e.effects.moves ≡ false → is_joined (e ∷ es) s ≡ true
joined_unless e es s was none = by (removed_after es s) (none_is (removed_after es s) (and_true (is_some (joined_after es s)) (is_none (removed_after es s)) was).1) where
  before : (k : ℕ) × (joined_after es s ≡ Some k)
  before = some_there (joined_after es s) (joined_then es s was)

  joined : is_some (joined_after (e ∷ es) s) ≡ true
  joined = ap (λ o. is_some o) (marks_stay.joined (e ∷ []) es s before.0 before.1)

  by : (o : Option ℕ) → o ≡ None
      → (is_some (joined_after (e ∷ es) s) && is_none (elim o as (λ z. Option ℕ) [ Some k ↦ Some k | None ↦ choose (is_some (joined_after es s) && list_any (unregisters s.lockspace) e.effects.moves) (length es + 1) ])) ≡ true
  by (Some k) is = absurd (none_some k (sym is))
  by None is = ap₂ (λ a b. a && is_none (choose (is_some (joined_after es s) && b) (length es + 1))) joined none ∙ ap (λ b. is_none (choose b (length es + 1))) (nothing (is_some (joined_after es s))) where
    nothing : (b : Bool) → (b && false) ≡ false
    nothing true = refl
    nothing false = refl

pub removed_if : (e : Entry) (es : Trace) (s : Session) → is_joined es s ≡ true → is_joined (e ∷ es) s ≡ false → list_any (unregisters s.lockspace) e.effects.moves ≡ true
removed_if e es s was gone = by (list_any (unregisters s.lockspace) e.effects.moves) refl where
  by : (b : Bool) → list_any (unregisters s.lockspace) e.effects.moves ≡ b → list_any (unregisters s.lockspace) e.effects.moves ≡ true
  by true is = is
  by false is = absurd (not_both (is_joined (e ∷ es) s) (joined_unless e es s was is) gone)

-- And where it is removed it is not.
pub removed_is_not : (e : Entry) (es : Trace) (s : Session) → is_joined es s ≡ true → list_any (unregisters s.lockspace) e.effects.moves ≡ true → is_joined (e ∷ es) s ≡ false
removed_is_not e es s was some_one = by (removed_after es s) (is_some (joined_after (e ∷ es) s)) where
  joined : is_some (joined_after es s) ≡ true
  joined = joined_then es s was

  over : (b : Bool) → (b && false) ≡ false
  over true = refl
  over false = refl

  by : (o : Option ℕ) (b : Bool)
      → (b && is_none (elim o as (λ z. Option ℕ) [ Some k ↦ Some k | None ↦ choose (is_some (joined_after es s) && list_any (unregisters s.lockspace) e.effects.moves) (length es + 1) ])) ≡ false
  by (Some k) b = over b
  by None b = ap₂ (λ p q. b && is_none (choose (p && q) (length es + 1))) joined some_one ∙ over b
