-- The host that hears an answer stands for the step with it.
use Rattle.sl_due.specs.Steps.{Step, seen, with_input}
use Rattle.sl_host_law.proofs.SharedFacts.MembersAreSessions.{member_inside}
use Rattle.sl_host_law.proofs.SharedFacts.PlainLists.{at_some, each_of, filter_as, none_any}
use Rattle.sl_host_law.proofs.SharedFacts.PlainOrders.{inside_ordered}
use Rattle.sl_host_law.proofs.SharedFacts.SessionNumbers.{placed_by_number}
use Rattle.sl_host_law.specs.SharedFacts.AtInput.{IsAtInput}
use Rattle.sl_host_state.specs.HeardInputs.{heard_answer, hearing, is_over_with, job_hearing, member_hearing, members_hearing, others}
use Rattle.sl_host_state.specs.KeptState.{HostState, MemberState}
use Rattle.sl_host_state.specs.HostStands.{Keeps, MemberStands, Stands, is_kept_of, kept_call, kept_job, kept_waiting}
use Rattle.sl_host_state.specs.declared.kept_parts.OpenCall.{OpenCall}
use Rattle.sl_trace.specs.Jobs.{child_of_job, command_of}
use Rattle.sl_words.proofs.Lists.{find_inside, got_inside, in_map, kept, kept_inside}
use Rattle.sl_words.proofs.Numbers.{number_itself}
use Rattle.sl_host_law.proofs.Replies.Answers.AnswerFindsItsCall.{IsOr, IsTheCall, the_call}
use Rattle.sl_host_law.proofs.Replies.Answers.AnswerIsHeeded.{waking}
use Rattle.sl_host_law.proofs.Replies.Answers.AnswerMarksOneCall.{found_heard, given_heard, hear, numbers_stay, open_heard, same_call, same_reading, told}
use Rattle.sl_host_law.proofs.Replies.Answers.JobsHearAnswer.{job_waits, job_with, single_kept, waits_no_more}
use Rattle.sl_host_law.proofs.Replies.Answers.MemberHearsAnswer.{IsAnswered, member_other, member_own}
use Rattle.sl_host_law.proofs.Replies.PlainFilters.{filter_mapped, filter_reversed}
use Rattle.sl_host_law.proofs.Replies.PlainNumbers.{same_number}
use Rattle.sl_host_law.proofs.Replies.Answers.PresentAfterAnswer.{present_heard}
use Rattle.sl_host_law.proofs.Replies.Answers.QuietAfterAnswer.{quiet_heard}
use Rattle.sl_host_law.specs.Replies.Answers.{AnswersAreHeard, FitsCall, IsOfOther, IsOpen}
use Rattle.sl_trace.specs.Sessions.{is_present, session_numbered, sessions}
use Rattle.sl_trace.specs.declared.session.Session.{Session}
use Rattle.sl_trace.specs.Traces.{Child, Job, Setting, Submitted, Trace, call_numbered, children, is_before_input, is_of_job, job_numbered, job_of, outstanding, running_jobs, submitted}
use Rattle.sl_trace.specs.declared.effects.Effects.{Effects}
use Rattle.sl_trace.specs.declared.input.Answer.{Answer}
use Rattle.sl_trace.specs.declared.input.Input.TheVariants.{Answer as Told, Wake}
use Rattle.sl_trace.specs.declared.input.Input.{Input}
use Rattle.sl_words.proofs.CaseLaws.{is_false, not_both}
use Rattle.sl_words.specs.Orders.{is_text_before}
use Rattle.std.proofs.Common.{ap, inl, inr, refl, subst, sym, ◌∙◌}
use Rattle.std.proofs.lemmas.List.{length-map}
use Rattle.std.specs.List.{AllByRecursion, list_any, range_with_len}
use Rattle.std.specs.Prelude.{Bool, Contains, IsTrue, List, None, Some, cond, false, filter, filter_map, find, is_some, length, map, not, option_map, reverse, slice_get, true, [], ℕ, ◌++◌, ◌+◌, ◌==◌, ◌∷◌, ◌≡◌}

module _ (st : Setting) (past : Trace) (now : ℕ) (fx : Effects) (a : Answer) (h : HostState) (m : Submitted) where
  abbrev before : Trace
  before = waking now fx ∷ past

  abbrev after : Trace
  after = told now fx m.call.number a ∷ past

  still_open : Keeps h st before → map kept_call (outstanding after) ≡ reverse (others m.call.number h)
  still_open k =
      ap (map kept_call) (open_heard past now fx m.call.number a (submitted past)) ∙ sym (filter_mapped (λ (c : OpenCall). not (c.number == m.call.number)) kept_call (outstanding before))
      ∙ ap (filter (λ (c : OpenCall). not (c.number == m.call.number))) k.unanswered ∙ filter_reversed (λ (c : OpenCall). not (c.number == m.call.number)) h.unanswered

  jobs_heard : Keeps h st before → (js : List Job) → map (kept_job after) js ≡ map (job_hearing m.call.number) (map (kept_job before) js)
  jobs_heard k [] = refl
  jobs_heard k (j ∷ js) =
      ap (λ w. job_with j.number (command_of j) (child_of_job before j.number) w ∷ map (kept_job after) js)
      (waits_no_more (outstanding before) (outstanding after) h.unanswered j.number m.call.number k.single k.unanswered (still_open k))
      ∙ ap (λ z. z ∷ map (kept_job after) js) (job_waits m.call.number j.number (command_of j) (child_of_job before j.number) (option_map kept_waiting (find (is_of_job j.number) (outstanding before))))
      ∙ ap (λ zs. job_hearing m.call.number (kept_job before j) ∷ zs) (jobs_heard k js)

  -- A member after the answer.
  abbrev hears_it : MemberState → MemberState
  hears_it x = cond (m.call.session == x.who.number) (member_hearing h (kept_call m) a x) x

  whos_stay : (xs : List MemberState) → map (λ (x : MemberState). x.who) (filter (λ x. not (is_over_with m.call.number h x)) (map hears_it xs)) ≡ map (λ x. x.who) (filter (λ x. not (is_over_with m.call.number h x)) xs)
  whos_stay xs =
      ap (map (λ (x : MemberState). x.who)) (filter_mapped (λ x. not (is_over_with m.call.number h x)) hears_it xs ∙ ap (map hears_it) (filter_as (λ x. not (is_over_with m.call.number h (hears_it x))) (λ x. not (is_over_with m.call.number h x)) xs over_same))
      ∙ who_same (filter (λ x. not (is_over_with m.call.number h x)) xs) where
        over_same : (x : MemberState) → not (is_over_with m.call.number h (hears_it x)) ≡ not (is_over_with m.call.number h x)
        over_same x = by (m.call.session == x.who.number) where
          by : (b : Bool) → not (is_over_with m.call.number h (cond b (member_hearing h (kept_call m) a x) x)) ≡ not (is_over_with m.call.number h x)
          by true = refl
          by false = refl

        one : (x : MemberState) → (hears_it x).who ≡ x.who
        one x = by (m.call.session == x.who.number) where
          by : (b : Bool) → (cond b (member_hearing h (kept_call m) a x) x).who ≡ x.who
          by true = refl
          by false = refl

        who_same : (ys : List MemberState) → map (λ (x : MemberState). x.who) (map hears_it ys) ≡ map (λ x. x.who) ys
        who_same [] = refl
        who_same (y ∷ ys) = ap (λ z. z ∷ map (λ (x : MemberState). x.who) (map hears_it ys)) (one y) ∙ ap (λ zs. y.who ∷ zs) (who_same ys)

  members_stand : IsAnswered st past now fx a h m → (i : ℕ) (x : MemberState) → slice_get (members_hearing (kept_call m) a h) i ≡ Some x → MemberStands st after x
  members_stand k i x at =
      let inside = kept_inside (λ x. not (is_over_with m.call.number h x)) (map hears_it h.members) x (got_inside (members_hearing (kept_call m) a h) i x at) in
      let old = in_map hears_it h.members x inside.0 in
      let place = at_some h.members old.0 old.1 in
      subst (MemberStands st after) old.2 (by old.0 (k.keeps.members place.0 old.0 place.1) (member_inside h st before place.0 old.0 k.keeps place.1).1 (m.call.session == old.0.who.number) refl) where
        by : (y : MemberState) → MemberStands st before y → is_present before y.who ≡ true → (b : Bool) → (m.call.session == y.who.number) ≡ b → MemberStands st after (cond b (member_hearing h (kept_call m) a y) y)
        by y stands there true own = member_own st past now fx a h m k y own there (still_open k.keeps) stands
        by y stands there false other = member_other st past now fx a h m k y other stands

  keeps_heard : IsAnswered st past now fx a h m → Keeps (hearing (kept_call m) a h) st after
  keeps_heard answered =
      let k = answered.keeps in
      let n : ℕ = m.call.number in
      let many : length (map (hear past now fx n a) (submitted past)) ≡ length (submitted past) = length-map (submitted past) (hear past now fx n a) in
      record {
        config = k.config;
        entries = k.entries;
        calls = ap (λ z. st.first.call + z) many ∙ k.calls;
        lines = k.lines;
        replied = k.replied;
        started = k.started;
        born = k.born;
        numbered = numbers_stay past now fx n a (submitted past) ∙ k.numbered ∙ sym (ap (λ z. reverse (range_with_len st.first.call z)) many);
        counted = k.counted;
        present = present_heard past now fx n a st h (kept_call m) refl k (still_open k) ∙ sym (whos_stay h.members);
        members = members_stand answered;
        connected = k.connected;
        unanswered = still_open k;
        single = single_kept (λ c. not (c.number == n)) h.unanswered k.single;
        owned = subst
            (λ zs. AllByRecursion (λ j. IsTrue (is_some (job_numbered st before j))) (zs ++ filter_map (λ (c : Child). c.job) (children before)))
            (sym (given_heard past now fx n a (λ c. job_of c.purpose) (submitted past))) k.owned;
        jobs = jobs_heard k (running_jobs st before) ∙ ap (map (job_hearing n)) k.jobs;
        holdings = k.holdings;
        children = k.children;
        programs = k.programs;
      }

-- ---- of a step

-- The step as it is before its input, when it has made no call.
abbrev at_answer : Step → Step
at_answer x = let fx : Effects = x.effects in record x { input = Wake; effects = record fx { calls = [] } }

is_at_answer : (h : HostState) (x : Step) → Stands Wake h x → h.made.calls ≡ [] → x ≡ at_answer x
is_at_answer h x s none =
    ap (λ i. record x { input = i }) s.input
    ∙ ap (λ cs. let fx : Effects = x.effects in record x { input = Wake; effects = record fx { calls = cs } }) (ap (λ (fx : Effects). fx.calls) s.made ∙ none)

-- The call that is answered.
answered_call : (number : ℕ) (c : OpenCall) (h : HostState) (x : Step) → Stands Wake h x → h.made.calls ≡ [] → IsOpen h number c → (m : Submitted) × IsTheCall (submitted x.past) c m
answered_call number c h x s none is_open =
    the_call h x.setting (waking x.reading x.effects ∷ x.past) number c (subst (λ (z : Step). Stands Wake h z) (is_at_answer h x s none) s).keeps is_open

answer_heard : (number : ℕ) (c : OpenCall) (a : Answer) (h : HostState) (x : Step) → Stands Wake h x → IsOpen h number c → FitsCall h.config.layout a c → IsAtInput h
    → Stands (Told number a) (heard_answer number a h) (with_input (Told number a) x)
answer_heard number c a h x s is_open fits at =
    let asked = answered_call number c h x s at.calls is_open in
    let m : Submitted = asked.0 in
    let is_m : kept_call m ≡ c = asked.1.kept in
    let its_number : m.call.number ≡ number = ap (λ (z : OpenCall). z.number) is_m ∙ same_number c.number number (find_inside (λ (d : OpenCall). d.number == number) h.unanswered c is_open).1 in
    let k = (subst (λ (z : Step). Stands Wake h z) (is_at_answer h x s at.calls) s).keeps in
    let answered : IsAnswered x.setting x.past x.reading x.effects a h m =
    record {
      keeps = k;
      its = subst (λ z. IsTheCall (submitted x.past) z m) (sym is_m) asked.1;
      fits = subst (FitsCall h.config.layout a) (sym is_m) fits;
      reading = sym s.reading;
      replies = subst (AllByRecursion (λ r. IsTrue (is_before_input r.reply))) (ap (λ (fx : Effects). fx.replies) (sym s.made)) at.replies;
    } in
    let stood : Stands (Told m.call.number a) (hearing (kept_call m) a h) (with_input (Told m.call.number a) (at_answer x)) =
    record {
      input = refl;
      past = s.past;
      reading = s.reading;
      before = s.before;
      made = ap (λ (z : Step). z.effects) (sym (is_at_answer h x s at.calls)) ∙ s.made;
      keeps = keeps_heard x.setting x.past x.reading x.effects a h m answered;
      quiet = quiet_heard (kept_call m) a h s.quiet;
    } in
    let heard_as : hearing (kept_call m) a h ≡ heard_answer number a h =
    ap (λ z. hearing z a h) is_m ∙ sym (ap (λ o. elim o as (λ z. HostState) [ None ↦ h | Some c ↦ hearing c a h ]) is_open) in
    subst (λ (z : Step). Stands (Told number a) (heard_answer number a h) (with_input (Told number a) z)) (sym (is_at_answer h x s at.calls))
    (subst (λ z. Stands (Told number a) z (with_input (Told number a) (at_answer x))) heard_as
    (subst (λ n. Stands (Told n a) (hearing (kept_call m) a h) (with_input (Told n a) (at_answer x))) its_number stood))

answer_found : (number : ℕ) (c : OpenCall) (a : Answer) (h : HostState) (x : Step) → Stands Wake h x → IsOpen h number c → IsAtInput h
    → (m : Submitted) × (call_numbered (seen (with_input (Told number a) x)) number ≡ Some m) × (kept_call m ≡ c)
answer_found number c a h x s is_open at =
    let asked = answered_call number c h x s at.calls is_open in
    let m : Submitted = asked.0 in
    let numbered : c.number ≡ number = same_number c.number number (find_inside (λ (d : OpenCall). d.number == number) h.unanswered c is_open).1 in
    let found : find (λ d. d.call.number == number) (submitted x.past) ≡ Some m = subst (λ n. find (λ d. d.call.number == n) (submitted x.past) ≡ Some m) numbered asked.1.found in (
      hear x.past x.reading x.effects number a m,
      ap (λ (z : Step). call_numbered (seen (with_input (Told number a) z)) number) (is_at_answer h x s at.calls)
          ∙ found_heard x.past x.reading x.effects number a (λ e. e.number == number) (submitted x.past) ∙ ap (option_map (hear x.past x.reading x.effects number a)) found,
      kept_same (hear x.past x.reading x.effects number a m) m (same_call x.past x.reading x.effects number a m) (same_reading x.past x.reading x.effects number a m) ∙ asked.1.kept,
    ) where
      -- What is kept of a call is of the call and its reading.
      kept_same : (d e : Submitted) → d.call ≡ e.call → d.reading ≡ e.reading → kept_call d ≡ kept_call e
      kept_same d e call reading = ap (λ c. kept_call (record d { call = c })) call ∙ ap (λ r. kept_call (record d { call = e.call; reading = r })) reading

session_gone : (i : Input) (c : OpenCall) (h : HostState) (x : Step) (s : Session) → Stands i h x → list_any (λ m. c.session == m.who.number) h.members ≡ false
    → session_numbered x.setting (seen x) c.session ≡ Some s → is_present (seen x) s ≡ false
session_gone i c h x s stands none at = is_false (is_present (seen x) s) (λ there.
    let inside = got_inside (sessions x.setting (seen x)) c.session s at in
    let present_too = inside_ordered (λ (a b : Session). is_text_before a.lockspace b.lockspace) (filter (is_present (seen x)) (sessions x.setting (seen x))) s (kept (is_present (seen x)) (sessions x.setting (seen x)) s there inside) in
    let of_member = in_map (λ (m : MemberState). m.who) h.members s (subst (λ ss. Contains ss s) stands.keeps.present present_too) in
    let numbered : s.number ≡ c.session = placed_by_number x.setting (seen x) c.session s at in
    not_both (c.session == of_member.0.who.number)
    (subst (λ n. (n == of_member.0.who.number) ≡ true) numbered (subst (λ (z : Session). (s.number == z.number) ≡ true) (sym of_member.2) (number_itself s.number)))
    (none_any (λ (m : MemberState). c.session == m.who.number) h.members of_member.0 none of_member.1))

-- No other call has its number, in the steps before either.
answer_of_other : (number : ℕ) (c : OpenCall) (job : ℕ) (h : HostState) (x : Step) → Stands Wake h x → IsOpen h number c → IsAtInput h → is_kept_of job c ≡ false → IsOfOther number job x.past
answer_of_other number c job h x s is_open at other d there its =
    let asked = answered_call number c h x s at.calls is_open in
    let numbered : c.number ≡ number = same_number c.number number (find_inside (λ (d : OpenCall). d.number == number) h.unanswered c is_open).1 in
    by asked.0 (ap (λ (z : OpenCall). is_kept_of job z) asked.1.kept ∙ other) (each_of (IsOr c.number asked.0) (submitted x.past) d asked.1.alone there) (ap (λ n. d.call.number == n) numbered ∙ its) where
      by : (m : Submitted) → is_of_job job m ≡ false → IsOr c.number m d → (d.call.number == c.number) ≡ true → is_of_job job d ≡ false
      by m none (inl apart) same = absurd (not_both (d.call.number == c.number) same apart)
      by m none (inr is) same = ap (is_of_job job) is ∙ none

pub answers_are_heard : AnswersAreHeard
answers_are_heard = record { heard = answer_heard; found = answer_found; other = answer_of_other; gone = session_gone }
