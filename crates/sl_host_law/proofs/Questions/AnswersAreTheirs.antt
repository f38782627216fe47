-- The answer to a call is that of the member that made it; where no member has made it, it does nothing.
use Rattle.sl_due.specs.DueAnswers.{after_answer, after_answer_of}
use Rattle.sl_due.specs.Steps.{Step, seen, when, with_input, with_some}
use Rattle.sl_host_law.proofs.SharedFacts.MembersAreSessions.{members_are_sessions}
use Rattle.sl_host_law.specs.SharedFacts.AtInput.{IsAtInput}
use Rattle.sl_host_state.specs.KeptState.{HostState, MemberState}
use Rattle.sl_host_state.specs.HostStands.{Stands, kept_call}
use Rattle.sl_host_state.specs.declared.kept_parts.OpenCall.{OpenCall}
use Rattle.sl_words.proofs.Lists.{find_inside}
use Rattle.sl_host_law.specs.Questions.Answers.{AnswersAreTheirs}
use Rattle.sl_host_law.proofs.Replies.Answers.AnswersAreHeard.{answers_are_heard}
use Rattle.sl_host_law.specs.Replies.Answers.{IsOpen}
use Rattle.sl_trace.specs.Sessions.{added_by, is_join_call, is_present, joining_session, session_numbered, sessions}
use Rattle.sl_trace.specs.declared.session.Session.{Session}
use Rattle.sl_trace.specs.Traces.{Submitted, call_numbered, next_job, submitted}
use Rattle.sl_trace.specs.declared.effects.Call.{Call}
use Rattle.sl_trace.specs.declared.effects.Effects.{Effects}
use Rattle.sl_trace.specs.declared.effects.JoinStep.TheVariants.{FirstRead}
use Rattle.sl_trace.specs.declared.input.Answer.{Answer}
use Rattle.sl_trace.specs.declared.input.Input.TheVariants.{Answer as Told, Wake}
use Rattle.sl_trace.specs.declared.input.Input.{Input}
use Rattle.std.proofs.Common.{ap, refl, sym, ◌∙◌}
use Rattle.std.specs.List.{list_any}
use Rattle.std.specs.Prelude.{Contains, List, None, Option, Some, false, length, slice_get, true, [], ℕ, ◌++◌, ◌==◌, ◌∷◌, ◌≡◌}

-- An input alone begins no session.
sessions_same : (j : Input) (x : Step) → x.effects.calls ≡ [] → sessions x.setting (seen (with_input j x)) ≡ sessions x.setting (seen x)
sessions_same j x none = ap (with_calls j) none ∙ sym (ap (with_calls x.input) none) where
  with_calls : Input → List Call → List Session
  with_calls k cs =
      sessions x.setting x.past
      ++ elim (list_any (λ c. is_join_call FirstRead c.purpose) cs) as (λ z. List Session) [
        | false ↦ []
        | true ↦ elim (added_by x.setting k) as (λ z. List Session) [ None ↦ [] | Some a ↦ joining_session (length (sessions x.setting x.past)) (next_job x.setting x.past) a ∷ [] ]
      ]

module _ (number : ℕ) (c : OpenCall) (a : Answer) (h : HostState) (x : Step) (s : Stands Wake h x) (is_open : IsOpen h number c) (at : IsAtInput h) where
  found : (d : Submitted) × (call_numbered (seen (with_input (Told number a) x)) number ≡ Some d) × (kept_call d ≡ c)
  found = answers_are_heard.found number c a h x s is_open at

  no_call : x.effects.calls ≡ []
  no_call = ap (λ (fx : Effects). fx.calls) s.made ∙ at.calls

  -- What is done, by the session of the call.
  asked : after_answer (is_present (seen x)) number a (with_input (Told number a) x)
      ≡ with_some (session_numbered x.setting (seen x) c.session) (λ z. when (is_present (seen x) z) (after_answer_of z found.0 c.purpose a)) (with_input (Told number a) x)
  unfolding after_answer
  asked =
      ap (λ o. with_some o (λ (m : Submitted). with_some (session_numbered x.setting (seen (with_input (Told number a) x)) m.call.session) (λ z. when (is_present (seen x) z) (after_answer_of z m m.call.purpose a))) (with_input (Told number a) x)) found.1
      ∙ ap (λ ss. with_some (slice_get ss found.0.call.session) (λ z. when (is_present (seen x) z) (after_answer_of z found.0 found.0.call.purpose a)) (with_input (Told number a) x)) (sessions_same (Told number a) x no_call)
      ∙ ap (λ (z : OpenCall). with_some (session_numbered x.setting (seen x) z.session) (λ w. when (is_present (seen x) w) (after_answer_of w found.0 z.purpose a)) (with_input (Told number a) x)) found.2

  of_member : (k : ℕ) (m : MemberState) → slice_get h.members k ≡ Some m → c.session ≡ m.who.number
      → (d : Submitted) × Contains (submitted (seen (with_input (Told number a) x))) d × (kept_call d ≡ c)
      × (after_answer (is_present (seen x)) number a (with_input (Told number a) x) ≡ after_answer_of m.who d c.purpose a (with_input (Told number a) x))
  of_member k m there its =
      let who = members_are_sessions h x.setting (seen x) k m s.keeps there in (
        found.0,
        (find_inside (λ (d : Submitted). d.call.number == number) (submitted (seen (with_input (Told number a) x))) found.0 found.1).0,
        found.2,
        asked
            ∙ ap (λ n. with_some (session_numbered x.setting (seen x) n) (λ z. when (is_present (seen x) z) (after_answer_of z found.0 c.purpose a)) (with_input (Told number a) x)) its
            ∙ ap (λ o. with_some o (λ (z : Session). when (is_present (seen x) z) (after_answer_of z found.0 c.purpose a)) (with_input (Told number a) x)) who.0
            ∙ ap (λ b. when b (after_answer_of m.who found.0 c.purpose a) (with_input (Told number a) x)) who.1,
      )

  of_nobody : list_any (λ m. c.session == m.who.number) h.members ≡ false → after_answer (is_present (seen x)) number a (with_input (Told number a) x) ≡ with_input (Told number a) x
  of_nobody none = asked ∙ by (session_numbered x.setting (seen x) c.session) refl where
    by : (o : Option Session) → session_numbered x.setting (seen x) c.session ≡ o
        → with_some o (λ z. when (is_present (seen x) z) (after_answer_of z found.0 c.purpose a)) (with_input (Told number a) x) ≡ with_input (Told number a) x
    by None is = refl
    by (Some z) is = ap (λ b. when b (after_answer_of z found.0 c.purpose a) (with_input (Told number a) x)) (answers_are_heard.gone Wake c h x z s none is)

pub answers_are_theirs : AnswersAreTheirs
answers_are_theirs =
    record {
      member = λ number c a h x k m s is_open at there its. of_member number c a h x s is_open at k m there its;
      nobody = λ number c a h x s is_open at none. of_nobody number c a h x s is_open at none;
    }
