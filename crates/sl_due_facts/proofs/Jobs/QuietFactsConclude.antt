-- Where all that an answer makes due is done, no job goes on under a session in recovery or leaving: recovery that began by the read which
-- the answer brings has had its jobs refused.
use Rattle.sl_due_facts.specs.Acts.Acts.{Hears}
use Rattle.sl_due_facts.specs.Acts.TraceSoFar.{entry_of}
use Rattle.sl_due.specs.CarriedDelta.{begins_by_read}
use Rattle.sl_due.specs.DueRecovery.{signal_and_refuse}
use Rattle.sl_due.specs.Steps.{Step, seen}
use Rattle.sl_due_facts.proofs.Jobs.QuietEffects.{is_recovering_parts}
use Rattle.sl_due_facts.proofs.Jobs.QuietFactsAreKept.{Stopping, job_at_stop, stop_leaves, stop_stopping}
use Rattle.sl_due_facts.proofs.Jobs.SessionsArePresent.{session_has}
use Rattle.sl_due_facts.proofs.Jobs.SessionsStand.{leaving_joined, no_members, recovery_joined}
use Rattle.sl_due_facts.specs.Jobs.JobLaws.{IsQuiet}
use Rattle.sl_trace.specs.Jobs.{jobs_of_session}
use Rattle.sl_words.proofs.Lists.{contains_map, contains_none, find_inside}
use Rattle.sl_words.proofs.Options.{some_there}
use Rattle.sl_trace.specs.Sessions.{generation_of, is_call_of, is_joined, is_recovering, is_survey_purpose, leaving_job, recovers, recovery_of, renewed_by, renewing, renewing_after, session_numbered, sessions, shows_other, shows_other_in}
use Rattle.sl_trace.specs.declared.session.Begun.{Begun}
use Rattle.sl_trace.specs.declared.session.Renewing.{Renewing}
use Rattle.sl_trace.specs.declared.session.Session.{Session}
use Rattle.sl_due_facts.specs.Facts.HeardCall.{heard_by}
use Rattle.sl_due_facts.specs.Facts.AllFacts.{Whole}
use Rattle.sl_time.specs.Times.{fail}
use Rattle.sl_trace.specs.Traces.{Job, Setting, Submitted, Trace, answered_in, bytes_given, call_numbered, mark, submitted}
use Rattle.sl_trace.specs.declared.effects.Call.{Call}
use Rattle.sl_trace.specs.declared.effects.Entry.{Entry}
use Rattle.sl_trace.specs.declared.input.Answer.{Answer}
use Rattle.sl_trace.specs.declared.input.Answer.TheVariants.{Failed, Read, Written}
use Rattle.sl_trace.specs.declared.input.Input.TheVariants.{Answer as Told}
use Rattle.sl_run_law.proofs.Sessions.CallsAreMade.{old_stays, same_answered}
use Rattle.sl_words.proofs.CaseLaws.{false_is_true, none_some, not_both, one_value, some_value}
use Rattle.sl_words.proofs.WordLaws.{and_true, some_is_true}
use Rattle.sl_words.specs.Words.{choose, some_is}
use Rattle.std.proofs.Common.{ap, ap₂, arith, inl, inr, refl, subst, sym, ◌∙◌}
use Rattle.std.proofs.lemmas.Bool.{eqb-true}
use Rattle.std.specs.Prelude.{Bool, Contains, List, None, Option, Some, [], false, is_some, length, nat_le, suc, true, unwrap_or, ℕ, ◌&&◌, ◌+◌, ◌<◌, ◌==◌, ◌∷◌, ◌≡◌, ◌⊎◌}

-- ---- recovery by a read is that of the survey's session

-- Where a recovery began: before, by time, or by a read.
pub begun_where : (st : Setting) (es : Trace) (s : Session) (r : Renewing) (e : Entry) (b : Begun) → (renewing_after st es s r e).recovery ≡ Some b
    → (r.recovery ≡ Some b) ⊎ ((b.kills_from ≡ length es) ⊎ ((b.kills_from ≡ length es + 1) × (shows_other st es s e.input ≡ true)))
begun_where st es s r e b is = by r.recovery refl is where
  by_read : (o : Bool) → (is_joined es s && shows_other st es s e.input) ≡ o → r.recovery ≡ None
      → (elim o as (λ z. Renewing) [ true ↦ recovers es e (length es + 1) r | false ↦ record { last = unwrap_or (renewed_by es s e.input) r.last; recovery = r.recovery } ]).recovery ≡ Some b
      → (r.recovery ≡ Some b) ⊎ ((b.kills_from ≡ length es) ⊎ ((b.kills_from ≡ length es + 1) × (shows_other st es s e.input ≡ true)))
  by_read true shows none h =
      inr (inr (ap (λ (z : Begun). z.kills_from) (sym (some_value (record { at = length es; reading = e.reading; kills_from = length es + 1 }) b h)), (and_true (is_joined es s) (shows_other st es s e.input) shows).1))
  by_read false shows none h = inl h

  by_time : (o : Bool) → r.recovery ≡ None
      → (elim o as (λ z. Renewing) [
        | true ↦ recovers es e (length es) r
        | false ↦ elim (is_joined es s && shows_other st es s e.input) as (λ z. Renewing) [ true ↦ recovers es e (length es + 1) r | false ↦ record { last = unwrap_or (renewed_by es s e.input) r.last; recovery = r.recovery } ]
      ]).recovery ≡ Some b
      → (r.recovery ≡ Some b) ⊎ ((b.kills_from ≡ length es) ⊎ ((b.kills_from ≡ length es + 1) × (shows_other st es s e.input ≡ true)))
  by_time true none h = inr (inl (ap (λ (z : Begun). z.kills_from) (sym (some_value (record { at = length es; reading = e.reading; kills_from = length es }) b h))))
  by_time false none h = by_read (is_joined es s && shows_other st es s e.input) refl none h

  by : (o : Option Begun) → r.recovery ≡ o
      → (elim o as (λ z. Renewing) [
        | Some c ↦ r
        | None ↦ elim (is_joined es s && nat_le (r.last + fail st.timing) e.reading) as (λ z. Renewing) [
          | true ↦ recovers es e (length es) r
          | false ↦ elim (is_joined es s && shows_other st es s e.input) as (λ z. Renewing) [ true ↦ recovers es e (length es + 1) r | false ↦ record { last = unwrap_or (renewed_by es s e.input) r.last; recovery = r.recovery } ]
        ]
      ]).recovery ≡ Some b
      → (r.recovery ≡ Some b) ⊎ ((b.kills_from ≡ length es) ⊎ ((b.kills_from ≡ length es + 1) × (shows_other st es s e.input ≡ true)))
  by (Some c) was h = inl h
  by None was h = by_time (is_joined es s && nat_le (r.last + fail st.timing) e.reading) was h

-- A recovery from before has its kills from before.
kills_before : (st : Setting) (es : Trace) (s : Session) (b : Begun) → recovery_of st es s ≡ Some b → b.kills_from < length es + 1
kills_before st [] s b is = absurd (none_some b is)
kills_before st (e ∷ es) s b is = low (begun_where st es s (renewing st es s) e b is) (λ was. kills_before st es s b was) where
  low : ((recovery_of st es s ≡ Some b) ⊎ ((b.kills_from ≡ length es) ⊎ ((b.kills_from ≡ length es + 1) × (shows_other st es s e.input ≡ true)))) → (recovery_of st es s ≡ Some b → b.kills_from < length es + 1) → b.kills_from < length (e ∷ es) + 1
  low (inl was) more = let less : b.kills_from < length es + 1 = more was in omega (arith, less)
  low (inr (inl time)) more = omega (arith, time)
  low (inr (inr read_one)) more = let is_one : b.kills_from ≡ length es + 1 = read_one.0 in omega (arith, is_one)

-- The call whose read began the recovery.
pub record ReadBy (x : Step) (z : Session) (n : ℕ) (answer : Answer) : Type 0 where
  pub call : Submitted
  pub there : Contains (submitted (seen x)) call
  pub number : call.call.number ≡ n
  pub survey : is_survey_purpose call.call.purpose ≡ true
  pub session : call.call.session ≡ z.number
  pub bytes : is_some (bytes_given answer) ≡ true

shown_by : (x : Step) (z : Session) (n : ℕ) (answer : Answer) → x.input ≡ Told n answer → shows_other x.setting x.past z (Told n answer) ≡ true → ReadBy x z n answer
shown_by x z n Written told shows = absurd (false_is_true shows)
shown_by x z n Failed told shows = absurd (false_is_true shows)
shown_by x z n (Read bytes) told shows = by (call_numbered x.past n) refl shows where
  now : (m : Submitted) → Contains (submitted x.past) m → Contains (submitted (seen x)) (answered_in x.past (entry_of x) n (Read bytes) m)
  now m there =
      old_stays (length x.past) x.reading x.effects.calls (mark x.past (entry_of x) x.input (submitted x.past)) (answered_in x.past (entry_of x) n (Read bytes) m)
      (subst (λ i. Contains (mark x.past (entry_of x) i (submitted x.past)) (answered_in x.past (entry_of x) n (Read bytes) m)) (sym told) (contains_map (answered_in x.past (entry_of x) n (Read bytes)) (submitted x.past) m there))

  chosen : (m : Submitted) → call_numbered x.past n ≡ Some m → (b : Bool) → (is_call_of z m && is_survey_purpose m.call.purpose) ≡ b
      → (elim (choose b bytes) as (λ q. Bool) [ None ↦ false | Some bs ↦ shows_other_in x.setting z.id (generation_of x.past z) bs ]) ≡ true → ReadBy x z n (Read bytes)
  chosen m found false is h = absurd (false_is_true h)
  chosen m found true is h =
      let its = find_inside (λ (q : Submitted). q.call.number == n) (submitted x.past) m found in
      let same : (answered_in x.past (entry_of x) n (Read bytes) m).call ≡ m.call = (same_answered x.past (entry_of x) n (Read bytes) m).call in
      let both = and_true (is_call_of z m) (is_survey_purpose m.call.purpose) is in
      record {
        call = answered_in x.past (entry_of x) n (Read bytes) m;
        there = now m its.0;
        number = ap (λ (c : Call). c.number) same ∙ eqb-true m.call.number n its.1;
        survey = ap (λ (c : Call). is_survey_purpose c.purpose) same ∙ both.1;
        session = ap (λ (c : Call). c.session) same ∙ eqb-true m.call.session z.number both.0;
        bytes = refl;
      }

  by : (o : Option Submitted) → call_numbered x.past n ≡ o
      → (elim (choose (some_is (λ (m : Submitted). is_call_of z m && is_survey_purpose m.call.purpose) o) bytes) as (λ q. Bool) [ None ↦ false | Some bs ↦ shows_other_in x.setting z.id (generation_of x.past z) bs ]) ≡ true
      → ReadBy x z n (Read bytes)
  by None found h = absurd (false_is_true h)
  by (Some m) found h = chosen m found (is_call_of z m && is_survey_purpose m.call.purpose) refl h

pub read_by : (x : Step) (z : Session) (n : ℕ) (answer : Answer) → x.input ≡ Told n answer → begins_by_read (seen x) (recovery_of x.setting (seen x) z) ≡ true → ReadBy x z n answer
read_by x z n answer told begins =
    let begun = some_is_true (λ (b : Begun). b.kills_from == length (seen x)) (recovery_of x.setting (seen x) z) begins in
    let kills : begun.0.kills_from ≡ length (seen x) = eqb-true begun.0.kills_from (length (seen x)) begun.2 in
    by begun.0 kills (begun_where x.setting x.past z (renewing x.setting x.past z) (entry_of x) begun.0 begun.1) where
      by : (b : Begun) → b.kills_from ≡ suc (length x.past)
          → ((renewing x.setting x.past z).recovery ≡ Some b) ⊎ ((b.kills_from ≡ length x.past) ⊎ ((b.kills_from ≡ length x.past + 1) × (shows_other x.setting x.past z x.input ≡ true))) → ReadBy x z n answer
      by b kills (inl was) = let less : b.kills_from < length x.past + 1 = kills_before x.setting x.past z b was in absurd (omega (arith, less, kills))
      by b kills (inr (inl time)) = absurd (omega (arith, time, kills))
      by b kills (inr (inr read_one)) = shown_by x z n answer told (subst (λ i. shows_other x.setting x.past z i ≡ true) told read_one.1)

-- ---- plain where no recovery of a joined session begins by the read

pub plain_at : (x : Step) (n : ℕ) (answer : Answer) → Whole x → x.input ≡ Told n answer → ((z : Session) → Contains (sessions x.setting (seen x)) z → is_joined (seen x) z ≡ true → ReadBy x z n answer → ⊥) → IsQuiet x
plain_at x n answer h told none =
    record {
      recovering = λ s there is other. h.facts.quiet.recovering s there is (never s there (is_recovering_parts x.setting (seen x) s is).0);
      leaving = h.facts.quiet.leaving;
    } where
      never : (s : Session) → Contains (sessions x.setting (seen x)) s → is_joined (seen x) s ≡ true → (is_some (heard_by x.input) && begins_by_read (seen x) (recovery_of x.setting (seen x) s)) ≡ false
      never s there joined = by (begins_by_read (seen x) (recovery_of x.setting (seen x) s)) refl where
        by : (b : Bool) → begins_by_read (seen x) (recovery_of x.setting (seen x) s) ≡ b → (is_some (heard_by x.input) && b) ≡ false
        by true begins = absurd (none s there joined (read_by x s n answer told begins))
        by false begins = nothing (is_some (heard_by x.input)) where
          nothing : (c : Bool) → (c && false) ≡ false
          nothing true = refl
          nothing false = refl

-- A heard call that is no survey.
pub plain_heard : (x : Step) (s : Session) (m : Submitted) (answer : Answer) → Whole x → Hears x s m answer → is_survey_purpose m.call.purpose ≡ false → IsQuiet x
plain_heard x s m answer h hears other =
    plain_at x hears.number answer h hears.heard (λ z there joined r.
    let one : r.call ≡ m = one_value r.call m (call_numbered (seen x) hears.number) (subst (λ n. call_numbered (seen x) n ≡ Some r.call) r.number (h.facts.calls.found r.call r.there)) hears.call in
    not_both (is_survey_purpose m.call.purpose) (subst (λ (c : Submitted). is_survey_purpose c.call.purpose ≡ true) one r.survey) other)

-- The survey of a session that is not joined, or whose recovery did not begin by it.
pub plain_survey : (x : Step) (s : Session) (m : Submitted) (answer : Answer) (n : ℕ) → Whole x → x.input ≡ Told n answer → call_numbered (seen x) n ≡ Some m → session_numbered x.setting (seen x) m.call.session ≡ Some s
    → (is_joined (seen x) s ≡ true → is_some (bytes_given answer) ≡ true → begins_by_read (seen x) (recovery_of x.setting (seen x) s) ≡ true → ⊥) → IsQuiet x
plain_survey x s m answer n h told found session none =
    record {
      recovering = λ z there is other. h.facts.quiet.recovering z there is (never z there (is_recovering_parts x.setting (seen x) z is).0);
      leaving = h.facts.quiet.leaving;
    } where
      never : (z : Session) → Contains (sessions x.setting (seen x)) z → is_joined (seen x) z ≡ true → (is_some (heard_by x.input) && begins_by_read (seen x) (recovery_of x.setting (seen x) z)) ≡ false
      never z there joined = by (begins_by_read (seen x) (recovery_of x.setting (seen x) z)) refl where
        by : (b : Bool) → begins_by_read (seen x) (recovery_of x.setting (seen x) z) ≡ b → (is_some (heard_by x.input) && b) ≡ false
        by true begins =
            let r : ReadBy x z n answer = read_by x z n answer told begins in
            let one : r.call ≡ m = one_value r.call m (call_numbered (seen x) n) (subst (λ k. call_numbered (seen x) k ≡ Some r.call) r.number (h.facts.calls.found r.call r.there)) found in
            let its : m.call.session ≡ z.number = ap (λ (c : Submitted). c.call.session) (sym one) ∙ r.session in
            let same : z ≡ s = one_value z s (session_numbered x.setting (seen x) m.call.session) (ap (λ k. session_numbered x.setting (seen x) k) its ∙ session_has x.setting (seen x) z there) session in
            absurd (none (subst (λ (q : Session). is_joined (seen x) q ≡ true) same joined) r.bytes (subst (λ (q : Session). begins_by_read (seen x) (recovery_of x.setting (seen x) q) ≡ true) same begins))
        by false begins = nothing (is_some (heard_by x.input)) where
          nothing : (c : Bool) → (c && false) ≡ false
          nothing true = refl
          nothing false = refl

-- Recovery that began by the read: its jobs are refused.
pub shown_quiet : (x : Step) (s : Session) (m : Submitted) (bytes : List ℕ) → Whole x → Hears x s m (Read bytes) → IsQuiet (signal_and_refuse s None x)
shown_quiet x s m bytes h hears = at_end (signal_and_refuse s None x) (stop_stopping x s None) (stop_leaves x s None) where
  at_end : (y : Step) → Stopping x y → ((i : Job) → Contains (jobs_of_session y.setting (seen y) s) i → None ≡ Some i.number) → IsQuiet y
  at_end y k only =
      record {
        recovering = λ z there is other. no_members (jobs_of_session y.setting (seen y) z) (λ i inside. recovering z i (subst (λ ss. Contains ss z) k.sessions there) is inside);
        leaving = λ z j i there joined leaves_z inside.
            let before : leaving_job x.setting (seen x) z ≡ Some j = k.leaving z j leaves_z in
            h.facts.quiet.leaving z j i (subst (λ ss. Contains ss z) k.sessions there) (k.joined z (leaving_joined x.setting (entry_of x) x.past z j before) joined) before (job_at_stop x y z i k inside);
      } where
        recovering : (z : Session) (i : Job) → Contains (sessions x.setting (seen x)) z → is_recovering y.setting (seen y) z ≡ true → Contains (jobs_of_session y.setting (seen y) z) i → ⊥
        recovering z i there is inside = by (begins_by_read (seen x) (recovery_of x.setting (seen x) z)) refl where
          both : (is_joined (seen y) z ≡ true) × (is_some (recovery_of y.setting (seen y) z) ≡ true)
          both = is_recovering_parts y.setting (seen y) z is

          begun : (b : Begun) × (recovery_of x.setting (seen x) z ≡ Some b)
          begun = some_there (recovery_of x.setting (seen x) z) (ap (λ o. is_some o) (sym (k.recovery z)) ∙ (is_recovering_parts y.setting (seen y) z is).1)

          joined : is_joined (seen x) z ≡ true
          joined = k.joined z (recovery_joined x.setting (entry_of x) x.past z begun.0 begun.1) both.0

          nothing : (c : Bool) → (c && false) ≡ false
          nothing true = refl
          nothing false = refl

          by : (b : Bool) → begins_by_read (seen x) (recovery_of x.setting (seen x) z) ≡ b → ⊥
          by false begins =
              let none : jobs_of_session x.setting (seen x) z ≡ [] =
              h.facts.quiet.recovering z there (ap₂ (λ p q. p && is_some q) joined begun.1) (ap (λ b. is_some (heard_by x.input) && b) begins ∙ nothing (is_some (heard_by x.input)))
              in
              contains_none i (subst (λ ks. Contains ks i) none (job_at_stop x y z i k inside))
          by true begins =
              let r : ReadBy x z hears.number (Read bytes) = read_by x z hears.number (Read bytes) hears.heard begins in
              let one : r.call ≡ m = one_value r.call m (call_numbered (seen x) hears.number) (subst (λ n. call_numbered (seen x) n ≡ Some r.call) r.number (h.facts.calls.found r.call r.there)) hears.call in
              let its : m.call.session ≡ z.number = ap (λ (c : Submitted). c.call.session) (sym one) ∙ r.session in
              let same : z ≡ s = one_value z s (session_numbered x.setting (seen x) m.call.session) (ap (λ n. session_numbered x.setting (seen x) n) its ∙ session_has x.setting (seen x) z there) hears.session in
              none_some i.number (only i (subst (λ (q : Session). Contains (jobs_of_session y.setting (seen y) q) i) same inside))
