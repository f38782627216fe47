-- An answer sets free what waited for it: a session's id sector, a job; and its member is there still.
use Rattle.sl_host_law.specs.Answers.AnswersFollow.{AnswersSetFree, IsAnswerTo}
use Rattle.sl_host_law.specs.Calls.MemberCalls.{is_idle_job}
use Rattle.sl_due.specs.Steps.{Step, seen}
use Rattle.sl_host_law.proofs.SharedFacts.PlainLists.{at_some, each_of}
use Rattle.sl_host_state.specs.HeardInputs.{heard_answer, hearing, is_over_with, job_hearing, member_hearing, others, still_busy}
use Rattle.sl_host_state.specs.KeptState.{HostState, MemberState}
use Rattle.sl_host_state.specs.MadeEffects.{has_write_open}
use Rattle.sl_host_state.specs.HostStands.{AreInTurn, AreSingle, Keeps, is_kept_of, kept_call, kept_job, kept_waiting}
use Rattle.sl_host_state.specs.declared.kept_parts.JobState.{JobState}
use Rattle.sl_host_state.specs.declared.kept_parts.OpenCall.{OpenCall}
use Rattle.sl_host_state.specs.declared.kept_parts.WaitingCall.{WaitingCall}
use Rattle.sl_words.proofs.Lists.{any_found, any_of, contains_cases, contains_map, contains_none, find_inside, got_inside, in_map, kept, kept_inside}
use Rattle.sl_words.proofs.Numbers.{number_itself}
use Rattle.sl_words.proofs.Options.{mapped_value, none_is}
use Rattle.sl_host_law.specs.Questions.Jobs.{running_in}
use Rattle.sl_host_law.proofs.Replies.Answers.AnswerFindsItsCall.{in_reversed}
use Rattle.sl_host_law.proofs.Replies.Answers.JobsHearAnswer.{IsOneOrNone, one_of_job}
use Rattle.sl_host_law.proofs.Replies.PlainNumbers.{same_number}
use Rattle.sl_trace.specs.Sessions.{calls_of, is_call_of, is_delta_purpose}
use Rattle.sl_trace.specs.Traces.{Setting, Submitted, Trace, is_of_job, outstanding, running_jobs, submitted}
use Rattle.sl_trace.specs.declared.input.Answer.{Answer}
use Rattle.sl_words.proofs.CaseLaws.{is_false, not_both, true_is_false}
use Rattle.std.proofs.Common.{ap, inl, inr, refl, subst, sym, ◌∙◌}
use Rattle.std.proofs.lemmas.List.{reverse-reverse}
use Rattle.std.specs.Prelude.{Bool, Contains, IsTrue, List, None, Option, Some, cond, false, filter, find, is_none, is_some, map, not, reverse, slice_get, true, [], ℕ, ◌&&◌, ◌==◌, ◌∷◌, ◌≡◌, ◌⊎◌}

in_again : {A : Type 0} (xs : List A) (d : A) → Contains (reverse xs) d → Contains xs d
in_again xs d there = subst (λ ys. Contains ys d) (reverse-reverse xs) (in_reversed (reverse xs) d there)

-- An open call that is kept is an open call of the trace.
pub of_trace : (h : HostState) (st : Setting) (es : Trace) (c : OpenCall) → Keeps h st es → Contains h.unanswered c → (d : Submitted) × Contains (outstanding es) d × (kept_call d ≡ c)
of_trace h st es c k there = in_map kept_call (outstanding es) c (subst (λ cs. Contains cs c) (sym k.unanswered) (in_reversed h.unanswered c there))

-- Of calls in turn one is open.
one_open : (ds : List Submitted) (d e : Submitted) → AreInTurn ds → Contains ds d → Contains ds e → d.answer ≡ None → e.answer ≡ None → d ≡ e
one_open [] d e turn at_d at_e open_d open_e = absurd (contains_none d at_d)
one_open (f ∷ ds) d e turn at_d at_e open_d open_e = by (contains_cases f ds d at_d) (contains_cases f ds e at_e) where
  never : (z : Submitted) → Contains ds z → z.answer ≡ None → ⊥
  never z later open_z = true_is_false (sym (each_of (λ (y : Submitted). IsTrue (is_some y.answer)) ds z turn later) ∙ ap is_some open_z)

  by : (f ≡ d) ⊎ Contains ds d → (f ≡ e) ⊎ Contains ds e → d ≡ e
  by (inl a) (inl b) = sym a ∙ b
  by (inr later) b = absurd (never d later open_d)
  by (inl a) (inr later) = absurd (never e later open_e)

-- Of a job's calls one is open.
one_of : (cs : List OpenCall) (j : ℕ) (c d : OpenCall) → AreSingle cs → Contains cs c → Contains cs d → is_kept_of j c ≡ true → is_kept_of j d ≡ true → c ≡ d
one_of cs j c d single at_c at_d of_c of_d = by (filter (is_kept_of j) cs) (kept (is_kept_of j) cs c of_c at_c) (kept (is_kept_of j) cs d of_d at_d) (one_of_job cs j single) where
  same : (z : OpenCall) → (z ≡ c) ⊎ Contains [] c → (z ≡ d) ⊎ Contains [] d → c ≡ d
  same z (inl a) (inl b) = sym a ∙ b
  same z (inl a) (inr none) = absurd (contains_none d none)
  same z (inr none) b = absurd (contains_none c none)

  by : (fs : List OpenCall) → Contains fs c → Contains fs d → IsOneOrNone fs → c ≡ d
  by fs has_c has_d (inl none) = absurd (contains_none c (subst (λ zs. Contains zs c) none has_c))
  by fs has_c has_d (inr one) =
      same one.0 (contains_cases one.0 [] c (subst (λ zs. Contains zs c) one.1 has_c)) (contains_cases one.0 [] d (subst (λ zs. Contains zs d) one.1 has_d))

module _ (number : ℕ) (c : OpenCall) (a : Answer) (h : HostState) (x : Step) (k : ℕ) (m : MemberState) (to : IsAnswerTo number c a h x k m) where
  keeps : Keeps h x.setting (seen x)
  keeps = to.stands.keeps

  found : Contains h.unanswered c × ((c.number == number) ≡ true)
  found = find_inside (λ (d : OpenCall). d.number == number) h.unanswered c to.is_open

  -- ---- the id's sector

  delta_of : (e : OpenCall) → Contains h.unanswered e → (e.session == m.who.number) ≡ true → is_delta_purpose e.purpose ≡ true
      → (d : Submitted) × Contains (filter (λ z. is_delta_purpose z.call.purpose) (calls_of (seen x) m.who)) d × (d.answer ≡ None) × (kept_call d ≡ e)
  delta_of e there own delta =
      let d = of_trace h x.setting (seen x) e keeps there in
      let inside = kept_inside (λ (z : Submitted). is_none z.answer) (submitted (seen x)) d.0 d.1 in (
        d.0,
        kept (λ (z : Submitted). is_delta_purpose z.call.purpose) (calls_of (seen x) m.who) d.0 (ap (λ (z : OpenCall). is_delta_purpose z.purpose) d.2 ∙ delta)
            (kept (is_call_of m.who) (submitted (seen x)) d.0 (ap (λ (z : OpenCall). z.session == m.who.number) d.2 ∙ own) inside.0),
        none_is d.0.answer inside.1,
        d.2,
      )

  idle : is_delta_purpose c.purpose ≡ true → still_busy number h m ≡ false
  idle delta = is_false (still_busy number h m) (λ busy. none (any_found (λ (e : OpenCall). e.session == m.who.number && is_delta_purpose e.purpose) (others number h) busy)) where
    left : (p q : Bool) → (p && q) ≡ true → p ≡ true
    left true q is = refl
    left false q is = is

    right : (p q : Bool) → (p && q) ≡ true → q ≡ true
    right true q is = is
    right false q is = absurd (true_is_false (sym is))

    not_it : (b : Bool) → not b ≡ true → b ≡ false
    not_it false is = refl
    not_it true is = absurd (true_is_false (sym is))

    none : (e : OpenCall) × Contains (others number h) e × ((e.session == m.who.number && is_delta_purpose e.purpose) ≡ true) → ⊥
    none e =
        let inside = kept_inside (λ (z : OpenCall). not (z.number == number)) h.unanswered e.0 e.1 in
        let mine = delta_of c found.0 to.its delta in
        let other = delta_of e.0 inside.0 (left (e.0.session == m.who.number) (is_delta_purpose e.0.purpose) e.2) (right (e.0.session == m.who.number) (is_delta_purpose e.0.purpose) e.2) in
        let same = one_open (filter (λ z. is_delta_purpose z.call.purpose) (calls_of (seen x) m.who)) mine.0 other.0 (keeps.members k m to.there).turn mine.1 other.1 mine.2 other.2 in
        not_both (e.0.number == number) (ap (λ (z : OpenCall). z.number == number) (sym (sym mine.3 ∙ ap kept_call same ∙ other.3)) ∙ found.1) (not_it (e.0.number == number) inside.1)

  -- ---- its job

  heard_as : hearing c a h ≡ heard_answer number a h
  heard_as = sym (ap (λ o. elim o as (λ z. HostState) [ None ↦ h | Some d ↦ hearing d a h ]) to.is_open)

  waits_none : (j : ℕ) → is_kept_of j c ≡ true → (z : JobState) → Contains h.jobs z → (z.number == j) ≡ true → (job_hearing c.number z).waits ≡ None
  waits_none j of_c z there is = by z.waits refl where
    of_kept : (w : WaitingCall) → z.waits ≡ Some w → (w.number == c.number) ≡ true
    of_kept w waits =
        let job = in_map (kept_job (seen x)) (running_jobs x.setting (seen x)) z (subst (λ js. Contains js z) (sym keeps.jobs) there) in
        let call = mapped_value kept_waiting (find (is_of_job job.0.number) (outstanding (seen x))) w (ap (λ (y : JobState). y.waits) job.2 ∙ waits) in
        let at = find_inside (is_of_job job.0.number) (outstanding (seen x)) call.0 call.1 in
        let same_job : job.0.number ≡ j = ap (λ (y : JobState). y.number) job.2 ∙ same_number z.number j is in
        let of_call : is_kept_of j (kept_call call.0) ≡ true = ap (λ n. is_of_job n call.0) (sym same_job) ∙ at.1 in
        let kept_there : Contains h.unanswered (kept_call call.0) = in_again h.unanswered (kept_call call.0) (subst (λ cs. Contains cs (kept_call call.0)) keeps.unanswered (contains_map kept_call (outstanding (seen x)) call.0 at.0)) in
        let one = one_of h.unanswered j (kept_call call.0) c keeps.single kept_there found.0 of_call of_c in
        ap (λ (y : WaitingCall). y.number == c.number) (sym call.2) ∙ ap (λ (y : OpenCall). y.number == c.number) one ∙ number_itself c.number

    by : (o : Option WaitingCall) → z.waits ≡ o → (elim o as (λ q. JobState) [ None ↦ z | Some w ↦ cond (w.number == c.number) (record z { waits = None }) z ]).waits ≡ None
    by None waits = waits
    by (Some w) waits = ap (λ b. (cond b (record z { waits = None }) z).waits) (of_kept w waits)

  number_stays : (z : JobState) → (job_hearing c.number z).number ≡ z.number
  number_stays z = by z.waits where
    by_number : (b : Bool) → (cond b (record z { waits = None }) z).number ≡ z.number
    by_number true = refl
    by_number false = refl

    by : (o : Option WaitingCall) → (elim o as (λ q. JobState) [ None ↦ z | Some w ↦ cond (w.number == c.number) (record z { waits = None }) z ]).number ≡ z.number
    by None = refl
    by (Some w) = by_number (w.number == c.number)

  job : (j : ℕ) → is_kept_of j c ≡ true → running_in h j ≡ true → is_idle_job (heard_answer number a h) j ≡ true
  job j of_c runs =
      let z = any_found (λ (y : JobState). y.number == j) h.jobs runs in
      subst (λ (g : HostState). is_idle_job g j ≡ true) heard_as
      (any_of (λ (y : JobState). y.number == j && is_none y.waits) (map (job_hearing c.number) h.jobs) (job_hearing c.number z.0)
      (ap (λ n. n == j && is_none (job_hearing c.number z.0).waits) (number_stays z.0) ∙ ap (λ b. b && is_none (job_hearing c.number z.0).waits) z.2
      ∙ ap is_none (waits_none j of_c z.0 z.1 z.2))
      (contains_map (job_hearing c.number) h.jobs z.0 z.1))

  -- ---- its member

  member : m.refused ≡ false → (n : ℕ) × (slice_get (heard_answer number a h).members n ≡ Some (member_hearing h c a m))
  member not_refused =
      let f : MemberState → MemberState = λ z. cond (c.session == z.who.number) (member_hearing h c a z) z in
      let mapped : Contains (map f h.members) (member_hearing h c a m) =
      subst (Contains (map f h.members)) (ap (λ b. cond b (member_hearing h c a m) m) to.its) (contains_map f h.members m (got_inside h.members k m to.there)) in
      let stays : not (is_over_with c.number h (member_hearing h c a m)) ≡ true = ap (λ b. not (b && not (has_write_open (record h { unanswered = others c.number h }) m.who.number))) not_refused in
      let at = at_some (hearing c a h).members (member_hearing h c a m) (kept (λ (z : MemberState). not (is_over_with c.number h z)) (map f h.members) (member_hearing h c a m) stays mapped) in
      (at.0, ap (λ (g : HostState). slice_get g.members at.0) (sym heard_as) ∙ at.1)

pub answers_set_free : AnswersSetFree
answers_set_free =
    record {
      idle = λ number c a h x k m to delta. idle number c a h x k m to delta;
      job = λ number c a h x k m j to of_c runs. job number c a h x k m to j of_c runs;
      member = λ number c a h x k m to not_refused. member number c a h x k m to not_refused;
    }
