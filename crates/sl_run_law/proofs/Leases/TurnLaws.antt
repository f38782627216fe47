-- A session's calls on an area take turns.
use Rattle.sl_run.specs.LawfulArea.{is_area_work, is_block_work, open_block_work}
use Rattle.sl_run.specs.Lawful.{Orderly}
use Rattle.sl_run.specs.LawForms.{cut_at}
use Rattle.sl_run_law.proofs.Leases.AnswerLaws.{answers_within}
use Rattle.sl_run_law.proofs.Leases.FrontLaws.{each_was_submitted, lawful_there}
use Rattle.sl_run_law.proofs.Leases.HavingLaws.{Has, WasAmong, has_kept, has_none, was_among}
use Rattle.sl_run_law.proofs.Leases.NumberLaws.{number_is_place}
use Rattle.sl_run_law.specs.Leases.CallFronts.{Aged, LawfulSubmission, Submission}
use Rattle.sl_run_law.specs.Leases.LeaseLaws.{OneAtATime, WasAnsweredBy}
use Rattle.sl_trace.specs.Leases.{is_on, spot_of_call}
use Rattle.sl_trace.specs.Sessions.{calls_of, is_call_of, open_calls_of}
use Rattle.sl_trace.specs.declared.session.Session.{Session}
use Rattle.sl_trace.specs.Traces.{Answered, Setting, Submitted, Trace, new_call, submitted}
use Rattle.sl_trace.specs.declared.effects.Call.{Call}
use Rattle.sl_trace.specs.declared.effects.Spot.{Spot}
use Rattle.sl_words.proofs.CaseLaws.{no_value}
use Rattle.std.proofs.Common.{ap, arith, inl, inr, refl, sym, ◌∙◌}
use Rattle.std.proofs.lemmas.Bool.{and_from, eq-eqb}
use Rattle.std.specs.Prelude.{Bool, List, None, Option, Some, is_none, length, suc, true, [], ℕ, ◌&&◌, ◌++◌, ◌+◌, ◌<◌, ◌∷◌, ◌≡◌, ◌≤◌, ◌⊎◌}

-- Whether a call of this kind writes, or reads blocks.
abbrev works : Call → Bool
works c = is_block_work (new_call 0 0 c)

abbrev place : Setting → Call → Spot
place st c = spot_of_call st.layout (new_call 0 0 c)

-- A call that is unanswered at the front would bar the new one.
bars : (st : Setting) (t : Trace) (s : Session) (at : Spot) (m : Submitted) → Has (submitted t) m → m.call.session ≡ s.number → m.answer ≡ None → works m.call ≡ true → is_area_work m.call.purpose ≡ true
    → is_on st.layout at m.call ≡ true → open_block_work st t s at ≡ [] → ⊥
bars st t s at m has session waits works_here area_here on none =
    let mine : Has (calls_of t s) m = has_kept (is_call_of s) (submitted t) m has (eq-eqb m.call.session s.number session) in
    let waiting : Has (open_calls_of t s) m = has_kept (λ x. is_none x.answer) (calls_of t s) m mine (ap (λ o. is_none o) waits) in
    let here : Has (open_block_work st t s at) m =
    has_kept (λ x. is_area_work x.call.purpose && (is_block_work x && is_on st.layout at x.call)) (open_calls_of t s) m waiting
    (and_from (is_area_work m.call.purpose) (is_block_work m && is_on st.layout at m.call) area_here (and_from (is_block_work m) (is_on st.layout at m.call) works_here on))
    in
    has_none m here.newer here.older (sym none ∙ here.is)

still : (n : ℕ) (was d : Submitted) (a : Answered) → was.answer ≡ Some a
    → (d.answer ≡ was.answer) ⊎ ((was.answer ≡ None) × (b : Answered) × (d.answer ≡ Some b) × (n + 1 ≤ b.at)) → d.answer ≡ Some a
still n was d a is (inl h) = h ∙ is
still n was d a is (inr h) = absurd (no_value a was.answer is h.0)

answered_now : (n : ℕ) (was d c : Submitted) → Aged (n + 1) was d → c.at ≡ n → ((a : Answered) → was.answer ≡ Some a → a.at < suc n) → (o : Option Answered) → was.answer ≡ o → (o ≡ None → ⊥)
    → WasAnsweredBy d c
answered_now n was d c aged at within None is stands = absurd (stands refl)
answered_now n was d c aged at within (Some a) is stands = record { answer = a; answered = still n was d a is aged.answer; by = let less : a.at < suc n = within a is in omega (arith, less, at) }

turn : (st : Setting) (es : Trace) → Orderly st es → (between older : List Submitted) (c d : Submitted) → LawfulSubmission st es c (between ++ d ∷ older)
    → c.call.session ≡ d.call.session → works c.call ≡ true → is_area_work c.call.purpose ≡ true → works d.call ≡ true → is_area_work d.call.purpose ≡ true
    → is_on st.layout (place st c.call) d.call ≡ true → WasAnsweredBy d c
turn st es law between older c d l session works_c area works_d area_d on =
    let h : Submission es c (between ++ d ∷ older) = l.submission in
    let t : Trace = cut_at h.place h.entry ∷ h.past in
    let w : WasAmong (length h.past + 1) (submitted t) d = was_among (length h.past + 1) (submitted t) between d older h.before in
    let called : c.call ≡ h.call = h.itself.call in
    let own : l.session.number ≡ h.call.session = number_is_place st (h.entry ∷ h.past) h.call.session l.session l.known in
    let session_was : w.was.call.session ≡ l.session.number =
    ap (λ (x : Call). x.session) (sym w.aged.call) ∙ (sym session ∙ (ap (λ (x : Call). x.session) called ∙ sym own))
    in
    let none : open_block_work st t l.session (place st h.call) ≡ [] =
    (lawful_there st es law c (between ++ d ∷ older) h).area.0.alone h.place h.call l.session h.there l.known
    (and_from (works h.call) (is_area_work h.call.purpose) (ap (λ x. works x) (sym called) ∙ works_c) (ap (λ (x : Call). is_area_work x.purpose) (sym called) ∙ area))
    in
    let on_was : is_on st.layout (place st h.call) w.was.call ≡ true =
    ap (λ x. is_on st.layout (place st x) w.was.call) (sym called) ∙ (ap (λ x. is_on st.layout (place st c.call) x) (sym w.aged.call) ∙ on)
    in
    answered_now (length h.past) w.was d c w.aged h.itself.at (answers_within t w.was w.has) w.was.answer refl
    (λ waits. bars st t l.session (place st h.call) w.was w.has session_was waits (ap (λ x. works x) (sym w.aged.call) ∙ works_d)
    (ap (λ (x : Call). is_area_work x.purpose) (sym w.aged.call) ∙ area_d) on_was none)

pub one_at_a_time : OneAtATime
one_at_a_time st es law newer between older c d h session works_c area works_d area_d on =
    turn st es law between older c d (each_was_submitted st es law newer (between ++ d ∷ older) c h) session works_c area works_d area_d on
