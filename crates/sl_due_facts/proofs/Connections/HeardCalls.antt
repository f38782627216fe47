-- The call whose answer was heard: it was open before, it is the newest of a joining, and a renewal among them counts.
use Rattle.sl_due_facts.proofs.Acts.InputsKeep.{has_heard}
use Rattle.sl_due_facts.specs.Acts.Acts.{Hears}
use Rattle.sl_due_facts.specs.Acts.TraceSoFar.{entry_of}
use Rattle.sl_due.specs.Steps.{Step, seen, with_input}
use Rattle.sl_due_facts.proofs.Jobs.CallsHaveFacts.{calls_before, find_mapped, sessions_bare}
use Rattle.sl_due_facts.proofs.Jobs.CallsOfJobsFit.{list_all_inside}
use Rattle.sl_due_facts.proofs.Jobs.JobsAreAllowed.{calls_heard, heard_answered}
use Rattle.sl_due_facts.proofs.Jobs.SessionsStand.{recovery_joined}
use Rattle.sl_words.proofs.Lists.{any_found, contains_cases, contains_map, contains_none, kept, kept_inside}
use Rattle.sl_words.proofs.Options.{mapped_value, none_is, some_there}
use Rattle.sl_due_facts.proofs.Sessions.NameFactsConclude.{heard_answer}
use Rattle.sl_due_facts.proofs.Sessions.NamesAreAllowed.{heard_mine}
use Rattle.sl_due_facts.proofs.Sessions.NamesGrow.{calls_of_told}
use Rattle.sl_trace.specs.Sessions.{calls_of, is_call_of, is_joined, is_renewal, joined_after, last_renewal, recovers, recovery_of, renewed_by, renewing, session_numbered, shows_other}
use Rattle.sl_trace.specs.declared.session.Begun.{Begun}
use Rattle.sl_trace.specs.declared.session.Renewing.{Renewing}
use Rattle.sl_trace.specs.declared.session.Session.{Session}
use Rattle.sl_due_facts.specs.Facts.AllFacts.{Whole}
use Rattle.sl_time.specs.Times.{fail}
use Rattle.sl_trace.specs.Traces.{Answered, Setting, Submitted, Trace, answered_in, call_numbered, is_answer_for, is_answered_ok, is_expected, is_ok_answer, outstanding, submitted}
use Rattle.sl_trace.specs.declared.effects.Call.{Call}
use Rattle.sl_trace.specs.declared.effects.Entry.{Entry}
use Rattle.sl_trace.specs.declared.input.Answer.TheVariants.{Written}
use Rattle.sl_trace.specs.declared.input.Answer.{Answer}
use Rattle.sl_trace.specs.declared.input.Input.TheVariants.{Answer as Told, Wake}
use Rattle.sl_run_law.proofs.Sessions.WritesAreCovered.{joinings_are_in_turn}
use Rattle.sl_run_law.proofs.Sessions.JoiningsInTurn.{joined_before}
use Rattle.sl_run_law.proofs.Sessions.CallsAreMade.{SameCall, same_answered}
use Rattle.sl_run_law.proofs.Sessions.MarksStay.{joined_more}
use Rattle.sl_run_law.specs.Sessions.SessionLaws.{all_done, fits, has_reply, is_in_turn}
use Rattle.sl_words.proofs.CaseLaws.{none_some, not_both, one_value}
use Rattle.sl_words.proofs.WordLaws.{and_true}
use Rattle.sl_words.specs.Words.{choose, some_is}
use Rattle.std.proofs.Common.{ap, ap₂, inl, inr, refl, subst, sym, ◌∙◌}
use Rattle.std.proofs.lemmas.Bool.{eqb-true}
use Rattle.std.specs.Prelude.{Bool, Contains, IsTrue, List, None, Option, Some, [], false, filter, find, is_none, is_some, length, map, nat_le, option_and_then, option_map, slice_get, true, unwrap_or, ℕ, ◌&&◌, ◌+◌, ◌==◌, ◌∷◌, ◌≡◌, ◌⊎◌}

pub record WasHeard (x : Step) (n : ℕ) (answer : Answer) (m d : Submitted) : Type 0 where
  pub inside : Contains (submitted x.past) d
  pub opened : d.answer ≡ None
  pub number : d.call.number ≡ n
  pub marked : answered_in x.past (entry_of x) n answer d ≡ m
  pub fitting : IsTrue (is_answer_for x.setting answer d.call.op)

pub heard_before : (x : Step) (s : Session) (m : Submitted) (answer : Answer) → Whole x → (h : Hears x s m answer) → (d : Submitted) × WasHeard x h.number answer m d
heard_before x s m answer h hears =
    let n : ℕ = hears.number in
    let expected : IsTrue (is_expected x.setting x.past (Told n answer)) = subst (λ i. IsTrue (is_expected x.setting x.past i)) hears.heard h.orderly.is_trace.0.expected in
    let open_one = any_found (λ (d : Submitted). d.call.number == n && is_answer_for x.setting answer d.call.op) (outstanding x.past) expected in
    let d : Submitted = open_one.0 in
    let its = and_true (d.call.number == n) (is_answer_for x.setting answer d.call.op) open_one.2 in
    let inside = kept_inside (λ (z : Submitted). is_none z.answer) (submitted x.past) d open_one.1 in
    let k : Submitted = answered_in x.past (entry_of x) n answer d in
    let there : Contains (submitted (seen x)) k =
    subst (λ ms. Contains ms k) (sym (calls_heard x n answer hears.heard hears.bare)) (contains_map (answered_in x.past (entry_of x) n answer) (submitted x.past) d inside.0)
    in
    let number : k.call.number ≡ n = ap (λ (c : Call). c.number) (same_answered x.past (entry_of x) n answer d).call ∙ eqb-true d.call.number n its.0 in
    let one : k ≡ m = one_value k m (call_numbered (seen x) n) (subst (λ q. call_numbered (seen x) q ≡ Some k) number (h.facts.calls.found k there)) hears.call in
    (d, record { inside = inside.0; opened = none_is d.answer inside.1; number = eqb-true d.call.number n its.0; marked = one; fitting = its.1 })

-- Whether it was answered ok.
pub heard_ok : (x : Step) (s : Session) (m : Submitted) (answer : Answer) → Whole x → Hears x s m answer → is_answered_ok m ≡ is_ok_answer answer
heard_ok x s m answer h hears = by m.answer refl where
  by : (o : Option Answered) → m.answer ≡ o → is_answered_ok m ≡ is_ok_answer answer
  by None is = absurd (heard_answered x s m answer hears is)
  by (Some a) is = ap (λ o. some_is (λ (b : Answered). is_ok_answer b.answer) o) is ∙ ap (λ b. is_ok_answer b) (heard_answer x s m answer a h hears is)

pub session_then : (x : Step) (s : Session) (m : Submitted) (answer : Answer) → Hears x s m answer → session_numbered x.setting x.past s.number ≡ Some s
session_then x s m answer hears = subst (λ ss. slice_get ss s.number ≡ Some s) (sessions_bare x hears.bare) (has_heard x s m answer hears)

-- The calls of a session where one of them was heard.
pub calls_then : (x : Step) (s : Session) (m : Submitted) (answer : Answer) → (h : Hears x s m answer) → calls_of (seen x) s ≡ map (answered_in x.past (entry_of x) h.number answer) (calls_of x.past s)
calls_then x s m answer hears =
    let n : ℕ = hears.number in
    let w : Step = with_input Wake x in
    ap (λ i. calls_of (seen (with_input i x)) s) hears.heard
    ∙ (calls_of_told w (Told n answer) s refl hears.bare
    ∙ (ap (λ i. map (answered_in x.past (entry_of (with_input i x)) n answer) (calls_of (seen w) s)) (sym hears.heard)
    ∙ ap (λ ms. map (answered_in x.past (entry_of x) n answer) (filter (is_call_of s) ms)) (calls_before w refl hears.bare)))

pub newest_heard : (x : Step) (s : Session) (m : Submitted) (answer : Answer) → Whole x → Hears x s m answer → joined_after (seen x) s ≡ None → (ms : List Submitted) × (calls_of (seen x) s ≡ m ∷ ms)
newest_heard x s m answer h hears none = by (calls_of x.past s) refl where
  n : ℕ
  n = hears.number

  mark_one : Submitted → Submitted
  mark_one d = answered_in x.past (entry_of x) hears.number answer d

  before : (d : Submitted) × WasHeard x hears.number answer m d
  before = heard_before x s m answer h hears

  mine : Contains (calls_of x.past s) before.0
  mine = kept (is_call_of s) (submitted x.past) before.0
      (ap (λ (c : Call). c.session == s.number) (sym (same_answered x.past (entry_of x) hears.number answer before.0).call)
      ∙ (ap (λ (k : Submitted). k.call.session == s.number) before.1.marked ∙ (kept_inside (is_call_of s) (submitted (seen x)) m (heard_mine x s m answer hears)).1)) before.1.inside

  turn : is_in_turn (calls_of x.past s) ≡ true
  turn = joinings_are_in_turn x.setting x.past s h.before.orderly (session_then x s m answer hears) (joined_before (entry_of x) x.past s (joined_after x.past s) refl none)

  by : (ks : List Submitted) → calls_of x.past s ≡ ks → (ms : List Submitted) × (calls_of (seen x) s ≡ m ∷ ms)
  by [] are = absurd (contains_none before.0 (subst (λ ks. Contains ks before.0) are mine))
  by (k ∷ ks) are = either (contains_cases k ks before.0 (subst (λ qs. Contains qs before.0) are mine)) where
    either : (k ≡ before.0) ⊎ Contains ks before.0 → (ms : List Submitted) × (calls_of (seen x) s ≡ m ∷ ms)
    either (inl one) = (
      map mark_one ks,
      calls_then x s m answer hears ∙ (ap (λ qs. map mark_one qs) are ∙ ap (λ q. q ∷ map mark_one ks) (ap (λ d. mark_one d) one ∙ before.1.marked)),
    )
    either (inr old) =
        let both = and_true (fits k) (all_done ks) (subst (λ qs. is_in_turn qs ≡ true) are turn) in
        let replied = (and_true (fits before.0) (has_reply before.0) (list_all_inside (λ z. fits z && has_reply z) ks before.0 both.1 old)).1 in
        absurd (not_both (is_some before.0.answer) replied (ap (λ o. is_some o) before.1.opened))

-- ---- a renewal that was answered ok

-- How the session stands with its renewals, by the tests of an entry.
abbrev renewed_with : Trace → Entry → Renewing → Option ℕ → Option Begun → Bool → Bool → Renewing
renewed_with es e r renews o b c =
    elim o [
      | Some d ↦ r
      | None ↦ elim b [
        | true ↦ recovers es e (length es) r
        | false ↦ elim c [ true ↦ recovers es e (length es + 1) r | false ↦ record r { last = unwrap_or renews r.last } ]
      ]
    ]

last_by : (es : Trace) (e : Entry) (r : Renewing) (renews : Option ℕ) (k : ℕ) (o : Option Begun) (b c : Bool) → renews ≡ Some k → r.recovery ≡ o → (renewed_with es e r renews o b c).recovery ≡ None → (renewed_with es e r renews o b c).last ≡ k
last_by es e r renews k (Some d) b c is was none = absurd (none_some d (sym none ∙ was))
last_by es e r renews k None true c is was none = absurd (none_some (record { at = length es; reading = e.reading; kills_from = length es }) (sym none))
last_by es e r renews k None false true is was none = absurd (none_some (record { at = length es; reading = e.reading; kills_from = length es + 1 }) (sym none))
last_by es e r renews k None false false is was none = ap (λ o. unwrap_or o r.last) is

pub last_told : (st : Setting) (es : Trace) (s : Session) (e : Entry) (k : ℕ) → renewed_by es s e.input ≡ Some k → recovery_of st (e ∷ es) s ≡ None → last_renewal st (e ∷ es) s ≡ k
last_told st es s e k renews none =
    last_by es e (renewing st es s) (renewed_by es s e.input) k (renewing st es s).recovery (is_joined es s && nat_le ((renewing st es s).last + fail st.timing) e.reading) (is_joined es s && shows_other st es s e.input) renews refl none

pub renewed_heard : (x : Step) (s : Session) (m : Submitted) → Hears x s m Written → is_renewal m.call.purpose ≡ true → recovery_of x.setting (seen x) s ≡ None → last_renewal x.setting (seen x) s ≡ m.reading
renewed_heard x s m hears renews none = last_told x.setting x.past s (entry_of x) m.reading (ap (λ i. renewed_by x.past s i) hears.heard ∙ by) none where
  n : ℕ
  n = hears.number

  found : call_numbered (seen x) hears.number ≡ option_map (answered_in x.past (entry_of x) hears.number Written) (call_numbered x.past hears.number)
  found =
      ap (λ ms. find (λ (d : Submitted). d.call.number == hears.number) ms) (calls_heard x hears.number Written hears.heard hears.bare)
      ∙ find_mapped (λ (d : Submitted). d.call.number == hears.number) (answered_in x.past (entry_of x) hears.number Written) (submitted x.past)
      (λ d. ap (λ (c : Call). c.number == hears.number) (same_answered x.past (entry_of x) hears.number Written d).call)

  was : (d : Submitted) × (call_numbered x.past hears.number ≡ Some d) × (answered_in x.past (entry_of x) hears.number Written d ≡ m)
  was = mapped_value (answered_in x.past (entry_of x) hears.number Written) (call_numbered x.past hears.number) m (sym found ∙ hears.call)

  same : SameCall (answered_in x.past (entry_of x) hears.number Written was.0) was.0
  same = same_answered x.past (entry_of x) hears.number Written was.0

  mine : (is_call_of s was.0 && is_renewal was.0.call.purpose) ≡ true
  mine = ap₂ (λ a b. a && b)
      (ap (λ (c : Call). c.session == s.number) (sym same.call) ∙ (ap (λ (k : Submitted). k.call.session == s.number) was.2 ∙ (kept_inside (is_call_of s) (submitted (seen x)) m (heard_mine x s m Written hears)).1))
      (ap (λ (c : Call). is_renewal c.purpose) (sym same.call) ∙ (ap (λ (k : Submitted). is_renewal k.call.purpose) was.2 ∙ renews))

  by : renewed_by x.past s (Told hears.number Written) ≡ Some m.reading
  by = ap (λ o. option_and_then (λ (d : Submitted). choose (is_call_of s d && is_renewal d.call.purpose) d.reading) o) was.1
      ∙ (ap (λ b. choose b was.0.reading) mine ∙ ap (λ r. Some r) (sym same.reading ∙ ap (λ (k : Submitted). k.reading) was.2))

-- Who isn't joined is not in recovery.
pub unjoined_well : (x : Step) (s : Session) → joined_after (seen x) s ≡ None → recovery_of x.setting (seen x) s ≡ None
unjoined_well x s none = by (recovery_of x.setting (seen x) s) refl where
  by : (o : Option Begun) → recovery_of x.setting (seen x) s ≡ o → recovery_of x.setting (seen x) s ≡ None
  by None is = is
  by (Some b) is =
      let was = some_there (joined_after x.past s) (recovery_joined x.setting (entry_of x) x.past s b is) in absurd (none_some was.0 (sym none ∙ joined_more (entry_of x) x.past s was.0 was.1))
