-- In one trace: a block's turn is the one above the turn that the calls of the lease before it show last, as they stand now.
use Rattle.sl_area.specs.AreaSizes.{Layout}
use Rattle.sl_run.specs.Lawful.{Orderly}
use Rattle.sl_run.specs.LawfulBlock.{LawfulTurn}
use Rattle.sl_trace.specs.Leases.{base_turn, lease_calls, spot_of_call, turn_shown, turn_written}
use Rattle.sl_trace.specs.Sessions.{session_numbered}
use Rattle.sl_trace.specs.Traces.{Answered, Setting, Submitted, Trace, new_call, submitted}
use Rattle.sl_trace.specs.declared.effects.Call.{Call}
use Rattle.sl_trace.specs.declared.effects.Spot.{Spot}
use Rattle.sl_trace.specs.declared.session.Session.{Session}
use Rattle.sl_run_law.proofs.Leases.AgeLaws.{aged_lease}
use Rattle.sl_run_law.proofs.Leases.FrontLaws.{each_was_submitted, lawful_there}
use Rattle.sl_run_law.specs.Leases.CallFronts.{AllAged, LawfulSubmission, Submission}
use Rattle.sl_run_law.specs.Leases.Ways.{lease_among}
use Rattle.sl_run.specs.LawForms.{cut_at}
use Rattle.sl_words.proofs.CaseLaws.{one_value}
use Rattle.sl_words.specs.Words.{choose}
use Rattle.sl_words.proofs.Lists.{contains_first, contains_more}
use Rattle.std.proofs.Common.{ap, arith, inl, inr, refl, subst, sym, ◌∙◌}
use Rattle.std.specs.Prelude.{Bool, Contains, List, None, Option, Some, [], false, length, true, ℕ, ◌++◌, ◌+◌, ◌<◌, ◌∷◌, ◌≡◌, ◌≤◌, ◌⊎◌}

-- ---- what a call shows

-- By its call and its answer.
abbrev shown_by : Layout → ℕ → Call → Option Answered → Option ℕ
shown_by g id c o = turn_shown g id (record { at = 0; reading = 0; call = c; answer = o })

none_by : (g : Layout) (id : ℕ) (c : Call) (o : Option ℕ) → turn_written (new_call 0 0 c) ≡ o
    → elim o as (λ z. Option ℕ) [
      | Some t ↦ choose false t
      | None ↦ elim g.paired as (λ z. Option ℕ) [ false ↦ None | true ↦ None ]
    ] ≡ None
none_by g id c (Some t) is = refl
none_by g id c None is = by g.paired
  where
    by : (b : Bool) → elim b as (λ z. Option ℕ) [ false ↦ None | true ↦ None ] ≡ None
    by true = refl
    by false = refl

-- One that is unanswered shows nothing.
unanswered_shows : (g : Layout) (id : ℕ) (c : Call) → shown_by g id c None ≡ None
unanswered_shows g id c = none_by g id c (turn_written (new_call 0 0 c)) refl

-- ---- as calls age

-- What shows a turn was answered before.
abbrev AreBefore : Layout → ℕ → ℕ → List Submitted → Type 0
AreBefore g id n ys = (y : Submitted) → Contains ys y → (a : Answered) → y.answer ≡ Some a → (turn_shown g id y ≡ None) ⊎ (a.at < n)

aged_by : (g : Layout) (id n : ℕ) (x y : Submitted) → ((a : Answered) → y.answer ≡ Some a → (turn_shown g id y ≡ None) ⊎ (a.at < n)) → y.call ≡ x.call
    → (y.answer ≡ x.answer) ⊎ ((x.answer ≡ None) × (a : Answered) × (y.answer ≡ Some a) × (n ≤ a.at)) → turn_shown g id x ≡ turn_shown g id y
aged_by g id n x y before call (inl same) = ap (λ o. shown_by g id x.call o) (sym same) ∙ ap (λ c. shown_by g id c y.answer) (sym call)
aged_by g id n x y before call (inr late) = by (before late.1 late.2)
  where
    by : (turn_shown g id y ≡ None) ⊎ (late.1.at < n) → turn_shown g id x ≡ turn_shown g id y
    by (inl none) = ap (λ o. shown_by g id x.call o) late.0 ∙ unanswered_shows g id x.call ∙ sym none
    by (inr early) = absurd (let l : n ≤ late.1.at = late.3 in omega (arith, early, l))

aged_turn : (g : Layout) (id n : ℕ) (xs ys : List Submitted) → AllAged n xs ys → AreBefore g id n ys → base_turn g id xs ≡ base_turn g id ys
aged_turn g id n [] [] h before = refl
aged_turn g id n [] (y ∷ ys) h before = absurd h
aged_turn g id n (x ∷ xs) [] h before = absurd h
aged_turn g id n (x ∷ xs) (y ∷ ys) h before =
    ap (λ o. elim o as (λ z. ℕ) [ Some t ↦ t | None ↦ base_turn g id xs ]) (aged_by g id n x y (before y (contains_first y ys)) h.0.call h.0.answer)
    ∙ ap (λ t. elim (turn_shown g id y) as (λ z. ℕ) [ Some u ↦ u | None ↦ t ])
    (aged_turn g id n xs ys h.1 (λ z there. before z (contains_more y ys z there)))

-- ---- the law

abbrev place : Setting → Call → Spot
place st c = spot_of_call st.layout (new_call 0 0 c)

within_next : (a c n : ℕ) → a ≤ c → c ≡ n → a < n + 1
within_next a c n h e = omega (arith, h, e)

comes : (st : Setting) (es : Trace) → Orderly st es → (c : Submitted) (older : List Submitted) (turn : ℕ) → LawfulSubmission st es c older → turn_written c ≡ Some turn → (s : Session)
    → session_numbered st es c.call.session ≡ Some s
    → ((y : Submitted) → Contains (lease_among st s (spot_of_call st.layout c) older) y → (a : Answered) → y.answer ≡ Some a → (turn_shown st.layout s.id y ≡ None) ⊎ (a.at ≤ c.at))
    → LawfulTurn turn (base_turn st.layout s.id (lease_among st s (spot_of_call st.layout c) older))
comes st es law c older turn l wrote s numbered before =
    let h : Submission es c older = l.submission in
    let t : Trace = cut_at h.place h.entry ∷ h.past in
    let called : c.call ≡ h.call = h.itself.call in
    let itself : l.session ≡ s = one_value l.session s (session_numbered st es c.call.session) l.kept numbered in
    let known : session_numbered st (h.entry ∷ h.past) h.call.session ≡ Some s = l.known ∙ ap (λ x. Some x) itself in
    let lawful : LawfulTurn turn (base_turn st.layout s.id (lease_calls st t s (place st h.call))) =
    (lawful_there st es law c older h).block.0.turns h.place h.call s h.there known turn (ap (λ x. turn_written (new_call 0 0 x)) (sym called) ∙ wrote) in
    let aged : AllAged (length h.past + 1) (lease_calls st t s (place st h.call)) (lease_among st s (place st h.call) older) =
    aged_lease st s (place st h.call) (length h.past + 1) (submitted t) older h.before in
    let spot : place st h.call ≡ spot_of_call st.layout c = ap (λ x. place st x) (sym called) in
    let same : base_turn st.layout s.id (lease_calls st t s (place st h.call)) ≡ base_turn st.layout s.id (lease_among st s (spot_of_call st.layout c) older) =
    aged_turn st.layout s.id (length h.past + 1) (lease_calls st t s (place st h.call)) (lease_among st s (place st h.call) older) aged
    (λ y there a told. earlier y a (before y (subst (λ q. Contains (lease_among st s q older) y) spot there) a told) h.itself.at)
    ∙ ap (λ q. base_turn st.layout s.id (lease_among st s q older)) spot in
    subst (λ n. LawfulTurn turn n) same lawful
  where
    earlier : (y : Submitted) (a : Answered) → (turn_shown st.layout s.id y ≡ None) ⊎ (a.at ≤ c.at) → {n : ℕ} → c.at ≡ n → (turn_shown st.layout s.id y ≡ None) ⊎ (a.at < n + 1)
    earlier y a (inl none) at = inl none
    earlier y a (inr low) {n} at = inr (within_next a.at c.at n low at)

pub turns_come : (st : Setting) (es : Trace) → Orderly st es → (newer older : List Submitted) (c : Submitted) → submitted es ≡ newer ++ c ∷ older → (turn : ℕ) → turn_written c ≡ Some turn
    → (s : Session) → session_numbered st es c.call.session ≡ Some s
    → ((y : Submitted) → Contains (lease_among st s (spot_of_call st.layout c) older) y → (a : Answered) → y.answer ≡ Some a → (turn_shown st.layout s.id y ≡ None) ⊎ (a.at ≤ c.at))
    → LawfulTurn turn (base_turn st.layout s.id (lease_among st s (spot_of_call st.layout c) older))
turns_come st es law newer older c is turn wrote s numbered before = comes st es law c older turn (each_was_submitted st es law newer older c is) wrote s numbered before
