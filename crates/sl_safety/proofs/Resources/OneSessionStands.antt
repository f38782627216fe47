-- Of one lockspace at most one session of a daemon stands: joined, and not removed.
use Rattle.sl_run.specs.Lawful.{Orderly}
use Rattle.sl_run.specs.LawfulDelta.{Gave, LawfulClaim, LawfulDeltaCall, LawfulFirstRenewal, LawfulJoin, LawfulJoinStep, LawfulVerify}
use Rattle.sl_run.specs.LawForms.{cut_at}
use Rattle.sl_run_law.proofs.Place.Daemons.{daemons_are_fine}
use Rattle.sl_run_law.proofs.Place.FoundInLists.{given_by}
use Rattle.sl_run_law.proofs.Place.Looks.{heard, joins_at}
use Rattle.sl_run_law.proofs.Place.TracesOnMachines.{call_law}
use Rattle.sl_run_law.proofs.Front.JoinedLists.{placed_at}
use Rattle.sl_words.proofs.Lists.{find_inside, got_inside, there_is}
use Rattle.sl_words.proofs.Numbers.{both_ways, lt_then_le}
use Rattle.sl_run.specs.Headers.{GoTogether, IsHeader}
use Rattle.sl_run.specs.Runs.{Happening}
use Rattle.sl_run.specs.Safety.{LawfulRun, world_at}
use Rattle.sl_run.specs.Worlds.{Daemon, Machine, Program, clock_reading, daemons_on, given_of, machine_at}
use Rattle.sl_run.specs.declared.header.Header.{Header}
use Rattle.sl_run.specs.declared.header.LockspaceLine.{LockspaceLine}
use Rattle.sl_run.specs.declared.header.SessionLine.{SessionLine}
use Rattle.sl_run_law.proofs.Sessions.NamesAreApart.{names_are_apart}
use Rattle.sl_run_law.proofs.Sessions.FrontAnswersStay.{front_answers_stay}
use Rattle.sl_run_law.proofs.Sessions.CallOwners.{calls_were_lawful, session_more, sessions_stay}
use Rattle.sl_run_law.proofs.Sessions.MarksStay.{ended_more, stays}
use Rattle.sl_run_law.specs.Sessions.SessionLaws.{IsMade, IsSession, WasLawful, front_of, made_as}
use Rattle.sl_trace.specs.Sessions.{begun_in, calls_of, ended_after, is_join_call, is_present, join_call, joined_after, refused_after, removed_after, session_numbered, sessions}
use Rattle.sl_trace.specs.declared.session.Session.{Session}
use Rattle.sl_trace.specs.Traces.{Answered, Setting, Submitted, Trace, submitted}
use Rattle.sl_trace.specs.declared.effects.Entry.{Entry}
use Rattle.sl_trace.specs.declared.effects.JoinStep.TheVariants.{ClaimWrite, FirstRead, FirstRenewal, VerifyRead}
use Rattle.sl_trace.specs.declared.effects.JoinStep.{JoinStep}
use Rattle.sl_trace.specs.declared.effects.Purpose.{Purpose}
use Rattle.sl_trace.specs.declared.input.Given.{Given}
use Rattle.sl_run_law.proofs.Watchdog.FoundCalls.{call_owner}
use Rattle.sl_run_law.proofs.Watchdog.TraceNumbers.{begun_is, either_place, given_first, given_one}
use Rattle.sl_words.proofs.CaseLaws.{none_some, one_value, some_value, true_is_false}
use Rattle.std.proofs.Common.{ap, arith, inl, inr, refl, subst, sym, ◌∙◌}
use Rattle.std.proofs.lemmas.Bool.{cases_lt, eqb-true}
use Rattle.std.proofs.lemmas.Option.{slice_get_within}
use Rattle.std.specs.List.{cons_option}
use Rattle.std.specs.Prelude.{AllPairs, Bool, Contains, IsTrue, List, None, Option, Some, [], bytes_eq, false, filter_map, find, is_none, length, option_map, slice_get, slice_index_or, suc, true, zero, ℕ, ◌++◌, ◌+◌, ◌<◌, ◌==◌, ◌||◌, ◌∷◌, ◌≡◌, ◌≤◌, ◌⊎◌}

-- ---- each joining begins with a first read

-- A call of a joining of the session.
record Was (es : Trace) (s : Session) (step : JoinStep) : Type 0 where
  call : Submitted
  inside : Contains (submitted es) call
  mine : call.call.session ≡ s.number
  step_is : IsTrue (is_join_call step call.call.purpose)

-- It was made by the law of its step.
record Lawfully (st : Setting) (es : Trace) (s : Session) (step : JoinStep) (call : Submitted) : Type 0 where
  was : WasLawful st es s call
  law : LawfulJoinStep st (front_of was.made) s (made_as was.made) step

lawfully : (st : Setting) (es : Trace) (s : Session) (step : JoinStep) → Orderly st es → IsSession st es s → (x : Was es s step) → Lawfully st es s step x.call
lawfully st es s step h its x =
    let w = calls_were_lawful st es s x.call h its x.inside x.mine in
    let p = joins_at step x.call.call.purpose x.step_is in
    record { was = w; law = subst (λ (y : Purpose). LawfulDeltaCall st (front_of w.made) s (made_as w.made) y) p.1 w.lawful }

gave_was : (es : Trace) (s : Session) (m : Submitted) (d : IsMade es m) (step : JoinStep) (bytes : List ℕ) (r : Submitted) → Gave (front_of d) s step bytes r → Was es s step
gave_was es s m d step bytes r g = let k = heard es s m d bytes r g.0 g.2 in record { call = r; inside = k.inside; mine = k.mine; step_is = g.1 }

answered_was : (es : Trace) (s : Session) (m : Submitted) (d : IsMade es m) (step : JoinStep) (r : Submitted) (a : Answered)
    → join_call (calls_of (front_of d) s) step ≡ Some r → r.answer ≡ Some a → Was es s step
answered_was es s m d step r a found is =
    let f = find_inside (λ (x : Submitted). is_join_call step x.call.purpose) (calls_of (front_of d) s) r found in
    let its = call_owner (front_of d) s r f.0 in
    record { call = r; inside = front_answers_stay es m d r a its.0 is; mine = its.1; step_is = f.1 }

from_claim : (st : Setting) (es : Trace) (s : Session) → Orderly st es → IsSession st es s → Was es s ClaimWrite → Was es s FirstRead
from_claim st es s h its x =
    let l = lawfully st es s ClaimWrite h its x in
    let law : LawfulClaim st (front_of l.was.made) s (made_as l.was.made) = l.law in
    gave_was es s x.call l.was.made FirstRead law.bytes law.first law.watched

from_verify : (st : Setting) (es : Trace) (s : Session) → Orderly st es → IsSession st es s → Was es s VerifyRead → Was es s FirstRead
from_verify st es s h its x =
    let l = lawfully st es s VerifyRead h its x in
    let law : LawfulVerify st (front_of l.was.made) s (made_as l.was.made) = l.law in
    from_claim st es s h its (answered_was es s x.call l.was.made ClaimWrite law.claim law.answer law.claimed law.answered.0)

from_renewal : (st : Setting) (es : Trace) (s : Session) → Orderly st es → IsSession st es s → Was es s FirstRenewal → Was es s FirstRead
from_renewal st es s h its x =
    let l = lawfully st es s FirstRenewal h its x in
    let law : LawfulFirstRenewal st (front_of l.was.made) s (made_as l.was.made) = l.law in
    from_verify st es s h its (gave_was es s x.call l.was.made VerifyRead _ law.read law.verified)

not_at_first : (s : Session) (j k : ℕ) → s.job ≡ Some j → joined_after [] s ≡ Some k → ⊥
not_at_first s j k job joined = by s.job job joined where
  by : (o : Option ℕ) → o ≡ Some j → elim o as (λ z. Option ℕ) [ None ↦ Some 0 | Some i ↦ None ] ≡ Some k → ⊥
  by None is at = none_some j is
  by (Some i) is at = none_some k at

-- A session that a command began and that has joined made a first read.
looked : (st : Setting) (es : Trace) (s : Session) (j k : ℕ) → Orderly st es → IsSession st es s → s.job ≡ Some j → joined_after es s ≡ Some k → Was es s FirstRead
looked st [] s j k h its job joined = absurd (not_at_first s j k job joined)
looked st (e ∷ es) s j k h its job joined =
    let join : LawfulJoin (e ∷ es) s k = h.delta.0.joins s (got_inside (sessions st (e ∷ es)) s.number s its) j k job joined in
    let f = find_inside (λ (x : Submitted). is_join_call FirstRenewal x.call.purpose) (calls_of (e ∷ es) s) join.renewal join.first in
    let own = call_owner (e ∷ es) s join.renewal f.0 in
    from_renewal st (e ∷ es) s h its (record { call = join.renewal; inside = own.0; mine = own.1; step_is = f.1 })

-- ---- who is there at a first read

-- Joined, and not removed.
pub record Stands (es : Trace) (s : Session) : Type 0 where
  pub entries : ℕ
  pub joined : joined_after es s ≡ Some entries
  pub kept : removed_after es s ≡ None

ended_by : (o : Option ℕ) (b : Bool) → (is_none o || b) ≡ false → (k : ℕ) × (o ≡ Some k)
ended_by None b h = absurd (true_is_false h)
ended_by (Some k) b h = (k, refl)

not_ended : (es : Trace) (s : Session) (k : ℕ) → Stands es s → ended_after es s ≡ Some k → ⊥
not_ended es s k stands ended =
    none_some k (sym stands.kept ∙ sym (ap (λ o. elim o as (λ z. Option ℕ) [ Some i ↦ removed_after es s | None ↦ refused_after es s ]) stands.joined) ∙ ended)

absent_ended : (t : Trace) (s : Session) → is_present t s ≡ false → (k : ℕ) × (ended_after t s ≡ Some k)
absent_ended t s h = ended_by (ended_after t s) _ h

gone_later : (es : Trace) (s : Session) (m : Submitted) (d : IsMade es m) (k : ℕ) → ended_after (front_of d) s ≡ Some k → ended_after es s ≡ Some k
gone_later es s m d k h = subst (λ t. ended_after t s ≡ Some k) (sym d.whole) (stays ended_after ended_more d.later (d.entry ∷ d.past) s k h)

-- A session that stands was not yet begun where another of its lockspace made its first read.
begun_later : (st : Setting) (es : Trace) (s t : Session) → Orderly st es → IsSession st es s → IsSession st es t → s.lockspace ≡ t.lockspace → Stands es s
    → (x : Was es t FirstRead) (w : WasLawful st es t x.call) → s.number < length (sessions st w.made.past) → ⊥
begun_later st es s t h its other name stands x w lt =
    let d = w.made in
    let some = there_is (sessions st d.past) s.number lt in
    let later : session_numbered st es s.number ≡ Some some.0 =
    subst (λ u. session_numbered st u s.number ≡ Some some.0) (sym d.whole)
    (sessions_stay st d.later (d.entry ∷ d.past) s.number some.0 (session_more st d.entry d.past s.number some.0 some.1)) in
    let same : some.0 ≡ s = one_value some.0 s (session_numbered st es s.number) later its in
    let there : Contains (sessions st (front_of d)) s =
    subst (λ y. Contains (sessions st (front_of d)) y) same
    (got_inside (sessions st (front_of d)) s.number some.0 (session_more st (cut_at d.index d.entry) d.past s.number some.0 some.1)) in
    let ended = absent_ended (front_of d) s (names_are_apart st es t x.call w x.step_is s there name) in
    not_ended es s ended.0 stands (gone_later es s x.call d ended.0 ended.1)

within : {A : Type 0} (xs ys : List A) (n : ℕ) (x : A) → ((k : ℕ) → slice_get ys k ≡ Some x → k ≡ 0) → slice_get (xs ++ ys) n ≡ Some x → n ≤ length xs
within xs ys n x one at = by (either_place xs ys n x at) where
  by : (slice_get xs n ≡ Some x) ⊎ ((k : ℕ) × (n ≡ length xs + k) × (slice_get ys k ≡ Some x)) → n ≤ length xs
  by (inl old) = let lt : n < length xs = slice_get_within xs n x old in omega (arith, lt)
  by (inr new) = let e = new.1 in let z : new.0 ≡ 0 = one new.0 new.2 in omega (arith, e, z)

-- An entry begins one session at most.
one_begins : (st : Setting) (e : Entry) (past : Trace) (n : ℕ) (s : Session) → session_numbered st (e ∷ past) n ≡ Some s → n ≤ length (sessions st past)
one_begins st e past n s at =
    within (sessions st past) (begun_in st past (length (sessions st past)) e) n s (λ k found. (begun_is st past (length (sessions st past)) k e s found).0) at

up_to : (a b n : ℕ) → a ≤ n → (b < n → ⊥) → a ≤ b
up_to a b n low never =
    elim (cases_lt b n) [
      | inl lt ↦ absurd (never lt)
      | inr ge ↦ omega (arith, low, ge)
    ]

-- So it is not before the other.
not_before : (st : Setting) (es : Trace) (s t : Session) (j : ℕ) → Orderly st es → IsSession st es s → IsSession st es t → s.lockspace ≡ t.lockspace → Stands es s → Stands es t
    → t.job ≡ Some j → t.number ≤ s.number
not_before st es s t j h its other name one two job =
    let x = looked st es t j two.entries h other job two.joined in
    let w = calls_were_lawful st es t x.call h other x.inside x.mine in
    let law = call_law st es t x.call w.made h other x.mine in
    up_to t.number s.number (length (sessions st w.made.past))
    (one_begins st w.made.entry w.made.past t.number t (ap (λ n. session_numbered st (w.made.entry ∷ w.made.past) n) (sym x.mine) ∙ law.1))
    (λ lt. begun_later st es s t h its other name one x w lt)

grown_by : {A : Type 0} (xs ys : List A) → length xs ≤ length (xs ++ ys)
grown_by [] ys = omega arith
grown_by (x ∷ xs) ys = let rest = grown_by xs ys in omega (arith, rest)

longer : (st : Setting) (es : Trace) → length (sessions st []) ≤ length (sessions st es)
longer st [] = omega arith
longer st (e ∷ es) =
    let a : length (sessions st []) ≤ length (sessions st es) = longer st es in
    let b : length (sessions st es) ≤ length (sessions st (e ∷ es)) = grown_by (sessions st es) (begun_in st es (length (sessions st es)) e) in
    omega (arith, a, b)

-- A session that was given was there.
given_before : (st : Setting) (es : Trace) (s t : Session) (j : ℕ) → Orderly st es → IsSession st es s → IsSession st es t → s.lockspace ≡ t.lockspace → Stands es s → Stands es t
    → s.job ≡ None → t.job ≡ Some j → ⊥
given_before st es s t j h its other name one two none job =
    let x = looked st es t j two.entries h other job two.joined in
    let w = calls_were_lawful st es t x.call h other x.inside x.mine in
    let first : s.number < length (sessions st []) = slice_get_within (sessions st []) s.number s (given_first st es s.number s its none) in
    begun_later st es s t h its other name one x w (lt_then_le s.number (length (sessions st [])) (length (sessions st w.made.past)) first (longer st w.made.past))

-- ---- sessions that are given

-- The lockspaces that are given differ.
abbrev pub Differ : List Given → Type 0
Differ [] = Unit {0}
Differ (g ∷ gs) = ((x : Given) → Contains gs x → g.lockspace ≡ x.lockspace → ⊥) × Differ gs

differ_at : (gs : List Given) (i j : ℕ) (g x : Given) → Differ gs → slice_get gs i ≡ Some g → slice_get gs j ≡ Some x → g.lockspace ≡ x.lockspace → i ≡ j
differ_at [] i j g x d at there same = absurd (none_some g at)
differ_at (y ∷ gs) zero zero g x d at there same = refl
differ_at (y ∷ gs) zero (suc j) g x d at there same = absurd (d.0 x (got_inside gs j x there) (ap (λ (z : Given). z.lockspace) (some_value y g at) ∙ same))
differ_at (y ∷ gs) (suc i) zero g x d at there same = absurd (d.0 g (got_inside gs i g at) (ap (λ (z : Given). z.lockspace) (some_value y x there) ∙ sym same))
differ_at (y ∷ gs) (suc i) (suc j) g x d at there same = ap (λ n. suc n) (differ_at gs i j g x d.1 at there same)

given_apart : (st : Setting) (es : Trace) (s t : Session) → Differ st.given → IsSession st es s → IsSession st es t → s.lockspace ≡ t.lockspace → s.job ≡ None → t.job ≡ None
    → s.number ≡ t.number
given_apart st es s t differ its other name one two =
    let g = given_one st s.number s (given_first st es s.number s its one) in
    let x = given_one st t.number t (given_first st es t.number t other two) in
    differ_at st.given s.number t.number g.0 x.0 differ g.1 x.1 (sym g.2 ∙ name ∙ x.2)

pub head_pairs : {A : Type 0} (R : A → A → Type 0) (x : A) (xs : List A) (i : ℕ) (y : A) → AllPairs R (x ∷ xs) → slice_get xs i ≡ Some y → R x y
head_pairs {A} R x xs i y all at =
    let lt : i < length xs = slice_get_within xs i y at in
    subst (λ (z : A). R x z) (got_index xs i y x at) (all zero (suc i) x (omega arith) (omega (arith, lt)))
  where
    got_index : (zs : List A) (k : ℕ) (z d : A) → slice_get zs k ≡ Some z → slice_index_or zs k d ≡ z
    got_index [] k z d h = absurd (none_some z h)
    got_index (v ∷ zs) zero z d h = some_value v z h
    got_index (v ∷ zs) (suc k) z d h = got_index zs k z d h

pub tail_pairs : {A : Type 0} (R : A → A → Type 0) (x : A) (xs : List A) → AllPairs R (x ∷ xs) → AllPairs R xs
tail_pairs R x xs all i j d lt less = all (suc i) (suc j) d (omega (arith, lt)) (omega (arith, less))

given_line_by : (h : Header) (m : ℕ) (s : SessionLine) (g : Given) (o : Option LockspaceLine) (reading : ℕ)
    → option_map (λ (l : LockspaceLine). record { lockspace = s.lockspace; id = s.id; path = l.path; offset = l.offset; renewed = reading }) o ≡ Some g → g.lockspace ≡ s.lockspace
given_line_by h m s g None reading is = absurd (none_some g is)
given_line_by h m s g (Some l) reading is = ap (λ (x : Given). x.lockspace) (sym (some_value _ g is))

given_line : (h : Header) (m : ℕ) (s : SessionLine) (g : Given) (b : Bool) → (s.machine == m) ≡ b
    → elim b as (λ z. Option Given) [
      | false ↦ None
      | true ↦ option_map (λ (l : LockspaceLine). record { lockspace = s.lockspace; id = s.id; path = l.path; offset = l.offset; renewed = clock_reading h m })
          (find (λ (l : LockspaceLine). bytes_eq l.name s.lockspace) h.lockspaces)
    ] ≡ Some g → (s.machine ≡ m) × (g.lockspace ≡ s.lockspace)
given_line h m s g false e is = absurd (none_some g is)
given_line h m s g true e is =
    (eqb-true s.machine m e, given_line_by h m s g (find (λ (l : LockspaceLine). bytes_eq l.name s.lockspace) h.lockspaces) (clock_reading h m) is)

differ_by : (h : Header) (m : ℕ) (s : SessionLine) (ls : List SessionLine) (o : Option Given) → given_of h m s ≡ o → AllPairs GoTogether (s ∷ ls) → Differ (filter_map (given_of h m) ls)
    → Differ (cons_option o (filter_map (given_of h m) ls))
differ_by h m s ls None is all rest = rest
differ_by h m s ls (Some g) is all rest =
    let one = given_line h m s g (s.machine == m) refl is in (
      (λ x there same.
          let f = given_by (given_of h m) ls x there in
          let two = given_line h m f.0 x (f.0.machine == m) refl f.2 in
          let place = placed_at ls f.0 f.1 in
          (head_pairs GoTogether s ls place.0 f.0 all place.1).once (sym one.1 ∙ same ∙ two.1) (one.0 ∙ sym two.0)),
      rest,
    )

differ_of : (h : Header) (m : ℕ) (ls : List SessionLine) → AllPairs GoTogether ls → Differ (filter_map (given_of h m) ls)
differ_of h m [] all = tt
differ_of h m (s ∷ ls) all = differ_by h m s ls (given_of h m s) refl all (differ_of h m ls (tail_pairs GoTogether s ls all))

differ_cases : (h : Header) (m : ℕ) (gs : List Given) → IsHeader h → (gs ≡ []) ⊎ (gs ≡ filter_map (given_of h m) h.sessions) → Differ gs
differ_cases h m gs ok (inl none) = subst Differ (sym none) tt
differ_cases h m gs ok (inr some) = subst Differ (sym some) (differ_of h m h.sessions ok.together)

-- So they do in a run.
pub given_differ : (p : Program) (h : Header) (xs : List Happening) → LawfulRun p h xs → (m : ℕ) (a : Machine) (d : Daemon) → machine_at (world_at p h xs) m ≡ Some a
    → Contains (daemons_on a) d → Differ d.setting.given
given_differ p h xs run m a d at has = differ_cases h m d.setting.given run.header (daemons_are_fine p h xs run m a d at has).given

-- ---- one session

one_number : (st : Setting) (es : Trace) (s t : Session) → Orderly st es → Differ st.given → IsSession st es s → IsSession st es t → s.lockspace ≡ t.lockspace → Stands es s → Stands es t
    → (o q : Option ℕ) → s.job ≡ o → t.job ≡ q → s.number ≡ t.number
one_number st es s t h differ its other name one two None None job work = given_apart st es s t differ its other name job work
one_number st es s t h differ its other name one two None (Some j) job work = absurd (given_before st es s t j h its other name one two job work)
one_number st es s t h differ its other name one two (Some i) None job work = absurd (given_before st es t s i h other its (sym name) two one work job)
one_number st es s t h differ its other name one two (Some i) (Some j) job work =
    both_ways s.number t.number (not_before st es t s i h other its (sym name) two one job) (not_before st es s t j h its other name one two work)

-- Two sessions of one lockspace that stand in one trace are one.
pub one_stands : (st : Setting) (es : Trace) (s t : Session) → Orderly st es → Differ st.given → IsSession st es s → IsSession st es t → s.lockspace ≡ t.lockspace → Stands es s → Stands es t → s ≡ t
one_stands st es s t h differ its other name one two =
    one_value s t (session_numbered st es t.number)
    (subst (λ n. session_numbered st es n ≡ Some s) (one_number st es s t h differ its other name one two s.job t.job refl refl) its) other
