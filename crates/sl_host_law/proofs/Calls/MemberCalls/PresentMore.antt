-- Who is present after one more call: who was.
use Rattle.sl_host_law.proofs.Calls.MemberCalls.MemberMore.{more, others_stay, own_more}
use Rattle.sl_due.specs.Steps.{Step, seen}
use Rattle.sl_host_law.proofs.SharedFacts.PlainLists.{filter_where}
use Rattle.sl_host_law.proofs.SharedFacts.SessionNumbers.{found_by_number}
use Rattle.sl_trace.specs.Sessions.{added_by, calls_of, ended_after, is_join_call, is_present, joined_after, joining_session, present_sessions, session_numbered, sessions}
use Rattle.sl_trace.specs.declared.session.Session.{Session}
use Rattle.sl_trace.specs.Traces.{Submitted, is_write, next_job, unanswered}
use Rattle.sl_trace.specs.declared.effects.Call.{Call}
use Rattle.sl_trace.specs.declared.effects.JoinStep.TheVariants.{FirstRead}
use Rattle.sl_words.proofs.CaseLaws.{one_value}
use Rattle.sl_words.specs.Orders.{in_order, is_text_before}
use Rattle.std.proofs.Common.{ap, refl, sym, ◌∙◌}
use Rattle.std.proofs.lemmas.Bool.Decides.{Decides-eqb}
use Rattle.std.specs.List.{list_any}
use Rattle.std.specs.Prelude.{Bool, Contains, List, None, Some, false, filter, is_none, length, true, [], ◌&&◌, ◌++◌, ◌==◌, ◌||◌, ◌∷◌, ◌≡◌}

any_more : {A : Type 0} (p : A → Bool) (xs : List A) (y : A) → p y ≡ false → list_any p (xs ++ y ∷ []) ≡ list_any p xs
any_more p [] y fails = ap (λ b. b || false) fails
any_more p (x ∷ xs) y fails = ap (λ b. p x || b) (any_more p xs y fails)

-- The sessions, where the calls have a first read among them or not.
abbrev sessions_by : Step → Bool → List Session
sessions_by x looks =
    sessions x.setting x.past
    ++ elim looks as (λ z. List Session) [
      | false ↦ []
      | true ↦ elim (added_by x.setting x.input) as (λ z. List Session) [
        | None ↦ []
        | Some a ↦ joining_session (length (sessions x.setting x.past)) (next_job x.setting x.past) a ∷ []
      ]
    ]

-- No session begins by another call than a first read.
pub sessions_stay : (x : Step) (call : Call) → is_join_call FirstRead call.purpose ≡ false → sessions x.setting (seen (more call x)) ≡ sessions x.setting (seen x)
sessions_stay x call later = ap (sessions_by x) (any_more (λ (d : Call). is_join_call FirstRead d.purpose) x.effects.calls call later)

-- Whether a session is present, by its calls.
abbrev pub present_by : Step → Session → List Submitted → Bool
present_by x s ms = is_none (ended_after (seen x) s) || is_none (joined_after (seen x) s) && list_any (λ m. is_write m.call.op) (unanswered ms)

pub others_present : (x : Step) (call : Call) (s : Session) → (call.session == s.number) ≡ false → is_present (seen (more call x)) s ≡ is_present (seen x) s
others_present x call s other = ap (present_by x s) (others_stay x call s other)

-- The caller was and is.
own_present : (x : Step) (call : Call) (s : Session) → (call.session == s.number) ≡ true → is_present (seen x) s ≡ true → is_present (seen (more call x)) s ≡ true
own_present x call s own was =
    ap (present_by x s) (own_more x call s own)
    ∙ by (is_none (ended_after (seen x) s)) (is_none (joined_after (seen x) s)) (is_write call.op) (list_any (λ m. is_write m.call.op) (unanswered (calls_of (seen x) s))) was where
      by : (a b w old : Bool) → (a || b && old) ≡ true → (a || b && (w || old)) ≡ true
      by true b w old is = refl
      by false true true old is = refl
      by false true false old is = is
      by false false w old is = is

pub present_stay : (x : Step) (call : Call) (s : Session) → is_join_call FirstRead call.purpose ≡ false → call.session ≡ s.number → session_numbered x.setting (seen x) s.number ≡ Some s
    → is_present (seen x) s ≡ true → present_sessions x.setting (seen (more call x)) ≡ present_sessions x.setting (seen x)
present_stay x call s later its there present =
    ap (λ ss. in_order (λ a b. is_text_before a.lockspace b.lockspace) (filter (is_present (seen (more call x))) ss)) (sessions_stay x call later)
    ∙ ap (in_order (λ a b. is_text_before a.lockspace b.lockspace))
    (filter_where (is_present (seen (more call x))) (is_present (seen x)) (sessions x.setting (seen x)) (λ t in_it. by t in_it (call.session == t.number) refl)) where
      by : (t : Session) → Contains (sessions x.setting (seen x)) t → (b : Bool) → (call.session == t.number) ≡ b → is_present (seen (more call x)) t ≡ is_present (seen x) t
      by t in_it false other = others_present x call t other
      by t in_it true own =
          let number : t.number ≡ s.number = sym ((Decides-eqb call.session t.number).0 own) ∙ its in
          let same : t ≡ s = one_value t s (session_numbered x.setting (seen x) s.number) (ap (λ n. session_numbered x.setting (seen x) n) (sym number) ∙ found_by_number x.setting (seen x) t in_it) there in
          let was : is_present (seen x) t ≡ true = ap (is_present (seen x)) same ∙ present in
          own_present x call t own was ∙ sym was
