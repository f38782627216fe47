-- What keeps the reading of the last keepalive below that until which a session may act.
use Rattle.sl_run.proofs.LawFacts.{orderly-front}
use Rattle.sl_run.specs.Lawful.{Orderly}
use Rattle.sl_run.specs.LawfulConnections.{acts_until, is_covered}
use Rattle.sl_words.proofs.Lists.{contains_first, contains_more, find_inside, got_inside}
use Rattle.sl_run_law.proofs.Sessions.JoiningsInTurn.{joined_before}
use Rattle.sl_run_law.proofs.Sessions.EndedAreSilent.{stage_by}
use Rattle.sl_run_law.proofs.Sessions.MarksStay.{refused_apart, removed_more}
use Rattle.sl_run_law.specs.Sessions.SessionLaws.{IsSession}
use Rattle.sl_trace.specs.Sessions.{calls_of, free_write, has_open_write, is_covered_stage, joined_after, last_renewal, refused_after, removed_after, session_numbered, sessions, stage_in}
use Rattle.sl_trace.specs.declared.session.Session.{Session}
use Rattle.sl_trace.specs.declared.stage.Stage.TheVariants.{Looking}
use Rattle.sl_trace.specs.declared.stage.Stage.{Stage}
use Rattle.sl_time.specs.Times.{IsTiming, TimingNumbers, fail}
use Rattle.sl_trace.specs.WatchdogConnections.{Connection, connections, given_connection, last_registering, registers, test_holds}
use Rattle.sl_trace.specs.Traces.{Setting, Submitted, Trace}
use Rattle.sl_trace.specs.declared.effects.Entry.{Entry}
use Rattle.sl_trace.specs.declared.input.Given.{Given}
use Rattle.sl_run_law.proofs.Watchdog.ConnectionNeeded.{was_covered}
use Rattle.sl_run_law.proofs.Watchdog.FoundCalls.{call_inside, none_of, open_write}
use Rattle.sl_run_law.proofs.Watchdog.Joins.{joins_now, was_session}
use Rattle.sl_run_law.proofs.Watchdog.TraceNumbers.{given_jobless, given_one}
use Rattle.sl_run_law.proofs.Watchdog.OneOpenRenewal.{renewal_grows}
use Rattle.sl_run_law.proofs.Watchdog.ConnectionStands.{covered_open, written_after}
use Rattle.sl_words.proofs.CaseLaws.{false_is_true, no_value, none_some}
use Rattle.std.proofs.Common.{ap, arith, refl, subst, sym}
use Rattle.std.proofs.lemmas.Bool.{leb-false, not-true}
use Rattle.std.specs.List.{list_any}
use Rattle.std.specs.Prelude.{Bool, Contains, List, None, Option, Some, [], bytes_eq, false, is_some, map, nat_le, slice_get, suc, true, zero, ℕ, ◌&&◌, ◌+◌, ◌<◌, ◌||◌, ◌∷◌, ◌≡◌, ◌≤◌}

-- ---- a session that is joined

abbrev covered_with : Option ℕ → Option ℕ → Option ℕ → Option Submitted → Stage → Bool → Bool
covered_with joined removed refused free joining waits = is_covered_stage (stage_by joined removed refused free joining) || is_some refused && waits

present_by : (joined removed refused : Option ℕ) (free : Option Submitted) (joining : Stage) (b : Bool) (k : ℕ) → joined ≡ Some k → refused ≡ None
    → covered_with joined removed refused free joining b ≡ true → removed ≡ None
present_by None removed refused free joining b k is none h = absurd (none_some k is)
present_by (Some j) None refused free joining b k is none h = refl
present_by (Some j) (Some i) (Some n) free joining b k is none h = absurd (none_some n (sym none))
present_by (Some j) (Some i) None free joining b k is none h = absurd (false_is_true h)

covered_joined : (joined removed refused : Option ℕ) (free : Option Submitted) (joining : Stage) (b : Bool) (k : ℕ) → joined ≡ Some k → removed ≡ None
    → covered_with joined removed refused free joining b ≡ true
covered_joined None removed refused free joining b k is none = absurd (none_some k is)
covered_joined (Some j) (Some i) refused free joining b k is none = absurd (none_some i (sym none))
covered_joined (Some j) None refused (Some m) joining b k is none = refl
covered_joined (Some j) None refused None joining b k is none = refl

not_refused : (es : Trace) (s : Session) (k : ℕ) (o : Option ℕ) → joined_after es s ≡ Some k → refused_after es s ≡ o → o ≡ None
not_refused es s k None joined is = refl
not_refused es s k (Some j) joined is = absurd (no_value k (joined_after es s) joined (refused_apart es s j is))

removed_before : (e : Entry) (past : Trace) (s : Session) (o : Option ℕ) → removed_after past s ≡ o → removed_after (e ∷ past) s ≡ None → o ≡ None
removed_before e past s None is none = refl
removed_before e past s (Some k) is none = absurd (no_value k (removed_after (e ∷ past) s) (removed_more e past s k is) none)

-- A joined session needed its connection before, if it was joined then.
covered_then : (e : Entry) (past : Trace) (s : Session) (k j : ℕ) → joined_after (e ∷ past) s ≡ Some k → joined_after past s ≡ Some j → is_covered (e ∷ past) s ≡ true
    → is_covered past s ≡ true
covered_then e past s k j joined was is =
    let t : Trace = e ∷ past in
    let here = present_by (joined_after t s) (removed_after t s) (refused_after t s) (free_write (calls_of t s)) (stage_in (calls_of t s)) (has_open_write t s) k joined
    (not_refused t s k (refused_after t s) joined refl) is in
    covered_joined (joined_after past s) (removed_after past s) (refused_after past s) (free_write (calls_of past s)) (stage_in (calls_of past s)) (has_open_write past s) j was
    (removed_before e past s (removed_after past s) refl here)

-- ---- until when it acts

abbrev acts_by : ℕ → ℕ → ℕ → Option ℕ → ℕ
acts_by f renewal registering o = elim o [ Some k ↦ renewal + f | None ↦ registering + f ]

pub acts_joined : (st : Setting) (es : Trace) (s : Session) (k : ℕ) → joined_after es s ≡ Some k → acts_until st es s ≡ last_renewal st es s + fail st.timing
acts_joined st es s k h = ap (acts_by (fail st.timing) (last_renewal st es s) (last_registering es s.lockspace)) h

pub acts_joining : (st : Setting) (es : Trace) (s : Session) → joined_after es s ≡ None → acts_until st es s ≡ last_registering es s.lockspace + fail st.timing
acts_joining st es s h = ap (acts_by (fail st.timing) (last_renewal st es s) (last_registering es s.lockspace)) h

pub some_fail : (t : TimingNumbers) → IsTiming t → 0 < fail t
some_fail t h = let n = h.io.0 in omega (arith, n)

-- ---- an entry

-- The last keepalive, at reading r, found the session's connection unexpired.
abbrev pub IsFresh : Setting → Trace → Session → ℕ → Type 0
IsFresh st es s r = IsSession st es s → is_covered es s ≡ true → r < acts_until st es s

pub registered_by : (e : Entry) (past : Trace) (name : List ℕ) (b : Bool) → list_any (registers name) e.effects.moves ≡ b
    → last_registering (e ∷ past) name ≡ elim b as (λ x. ℕ) [ true ↦ e.reading | false ↦ last_registering past name ]
registered_by e past name b is = ap (λ t. elim t as (λ x. ℕ) [ true ↦ e.reading | false ↦ last_registering past name ]) is

joining_fresh : (st : Setting) (e : Entry) (past : Trace) (s : Session) (r : ℕ) → Orderly st (e ∷ past) → IsSession st (e ∷ past) s → is_covered (e ∷ past) s ≡ true → 0 < fail st.timing
    → r ≤ e.reading → IsFresh st past s r → joined_after (e ∷ past) s ≡ None → (b : Bool) → list_any (registers s.lockspace) e.effects.moves ≡ b → r < acts_until st (e ∷ past) s
joining_fresh st e past s r h its is some now before none true at =
    let until = acts_joining st (e ∷ past) s none in
    let last = registered_by e past s.lockspace true at in
    omega (arith, some, now, until, last)
joining_fresh st e past s r h its is some now before none false at =
    let w = was_covered st e past s h its none is at in
    let until = acts_joining st (e ∷ past) s none in
    let last = registered_by e past s.lockspace false at in
    let then = acts_joining st past s (joined_before e past s (joined_after past s) refl none) in
    let old = before w.its w.covered in
    omega (arith, until, last, then, old)

joined_fresh : (st : Setting) (e : Entry) (past : Trace) (s : Session) (r k : ℕ) → Orderly st (e ∷ past) → IsSession st (e ∷ past) s → is_covered (e ∷ past) s ≡ true
    → IsFresh st past s r → joined_after (e ∷ past) s ≡ Some k → (o : Option ℕ) → joined_after past s ≡ o → r < acts_until st (e ∷ past) s
joined_fresh st e past s r k h its is before joined (Some j) was =
    let here = was_session st e past s k h its joined in
    let until = acts_joined st (e ∷ past) s k joined in
    let then = acts_joined st past s j was in
    let old = before here (covered_then e past s k j joined was is) in
    let grows = renewal_grows st e past s h here in
    omega (arith, until, then, old, grows)
joined_fresh st e past s r k h its is before joined None was =
    let here = was_session st e past s k h its joined in
    let front = orderly-front st (e ∷ []) past h in
    let j = joins_now st e past s k h its was joined in
    let u = j.unmet in
    let covered = covered_open st past s front here (open_write past s j.renewal (call_inside past s j.renewal u.inside u.mine) u.waits u.writes) in
    let until = acts_joined st (e ∷ past) s k joined in
    let then = acts_joining st past s was in
    let old = before here covered in
    let after = written_after st past s j.renewal front here u.inside u.mine u.waits u.writes in
    let counts = j.counts in
    omega (arith, until, then, old, after, counts)

entry_fresh : (st : Setting) (e : Entry) (past : Trace) (s : Session) (r : ℕ) → Orderly st (e ∷ past) → 0 < fail st.timing → r ≤ e.reading → IsFresh st past s r
    → (o : Option ℕ) → joined_after (e ∷ past) s ≡ o → IsFresh st (e ∷ past) s r
entry_fresh st e past s r h some now before None none its is =
    joining_fresh st e past s r h its is some now before none (list_any (registers s.lockspace) e.effects.moves) refl
entry_fresh st e past s r h some now before (Some k) joined its is = joined_fresh st e past s r k h its is before joined (joined_after past s) refl

-- An entry leaves each connection unexpired.
pub stays_fresh : (st : Setting) (e : Entry) (past : Trace) (s : Session) (r : ℕ) → Orderly st (e ∷ past) → 0 < fail st.timing → r ≤ e.reading → IsFresh st past s r
    → IsFresh st (e ∷ past) s r
stays_fresh st e past s r h some now before = entry_fresh st e past s r h some now before (joined_after (e ∷ past) s) refl

-- ---- at first

given_job : (st : Setting) (n : ℕ) (s : Session) → session_numbered st [] n ≡ Some s → s.job ≡ None
given_job st n s at = given_jobless st.given 0 n s at

pub acts_first : (st : Setting) (s : Session) → IsSession st [] s → acts_until st [] s ≡ s.renewed + fail st.timing
acts_first st s its = acts_joined st [] s 0 (ap (λ o. elim o as (λ x. Option ℕ) [ None ↦ Some 0 | Some j ↦ None ]) (given_job st s.number s its))

covered_none : (joined removed refused : Option ℕ) (free : Option Submitted) → joined ≡ None → refused ≡ None → covered_with joined removed refused free Looking false ≡ true → ⊥
covered_none (Some k) removed refused free none at h = none_some k (sym none)
covered_none None removed (Some k) free none at h = none_some k (sym at)
covered_none None removed None free none at h = false_is_true h

refused_first : (job : Option ℕ) → elim job as (λ x. Option ℕ) [ None ↦ None | Some j ↦ None ] ≡ None
refused_first None = refl
refused_first (Some j) = refl

-- A session that isn't joined as its daemon begins needs no connection.
pub nothing_covered : (s : Session) → joined_after [] s ≡ None → is_covered [] s ≡ true → ⊥
nothing_covered s none is = covered_none (joined_after [] s) (removed_after [] s) (refused_after [] s) (free_write (calls_of [] s)) none (refused_first s.job) is

-- ---- a test

unexpired : (cs : List Connection) (now : ℕ) (c : Connection) → test_holds cs now ≡ true → Contains cs c → now < c.expiry
unexpired cs now c h there = leb-false c.expiry now (none_of (λ (x : Connection). nat_le x.expiry now) cs c (not-true (list_any (λ (x : Connection). nat_le x.expiry now) cs) h) there)

given_connected : (t : TimingNumbers) (gs : List Given) (n : ℕ) (g : Given) → slice_get gs n ≡ Some g → Contains (map (given_connection t) gs) (given_connection t g)
given_connected t [] n g at = absurd (none_some g at)
given_connected t (x ∷ gs) zero g at =
    let same : x ≡ g = cc in
    subst (λ y. Contains (given_connection t x ∷ map (given_connection t) gs) (given_connection t y)) same (contains_first (given_connection t x) (map (given_connection t) gs))
given_connected t (x ∷ gs) (suc n) g at =
    contains_more (given_connection t x) (map (given_connection t) gs) (given_connection t g) (given_connected t gs n g at)

-- A test that holds finds each connection unexpired.
pub test_finds : (st : Setting) (es : Trace) (s : Session) (now : ℕ) → Orderly st es → test_holds (connections st es) now ≡ true → IsFresh st es s now
test_finds st [] s now h holds its is =
    let g = given_one st s.number s its in
    let early = unexpired (connections st []) now (given_connection st.timing g.0) holds (given_connected st.timing st.given s.number g.0 g.1) in
    let until = acts_first st s its in
    let same = g.3 in
    omega (arith, early, until, same)
test_finds st (e ∷ past) s now h holds its is =
    let c = h.watchdog.0.stands s (got_inside (sessions st (e ∷ past)) s.number s its) is in
    let there = find_inside (λ (x : Connection). bytes_eq x.name s.lockspace) (connections st (e ∷ past)) c.connection c.registered in
    let early = unexpired (connections st (e ∷ past)) now c.connection holds there.0 in
    let until = c.in_time in
    omega (arith, early, until)
