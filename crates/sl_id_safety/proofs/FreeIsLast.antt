-- The free is a session's last call, and is made where no call of it is open.
use Rattle.sl_id_safety.proofs.State.CallLaws.{lawful_call}
use Rattle.sl_id_safety.proofs.State.PairedLists.{stands, stands_there, tail_at}
use Rattle.sl_id_safety.proofs.State.Tails.{AreMade, IsLater, IsMadeAfter, all_made, front_at}
use Rattle.sl_run.specs.Lawful.{Orderly}
use Rattle.sl_run.specs.LawfulDelta.{LawfulDeltaCall, LawfulFree}
use Rattle.sl_run_law.proofs.Place.FoundInLists.{finds, partner}
use Rattle.sl_run_law.proofs.Place.Looks.{made_below, stands as standing_joined}
use Rattle.sl_words.proofs.Lists.{contains_cases, contains_none, ends, find_inside, kept, kept_inside}
use Rattle.sl_run_law.proofs.Sessions.FreedAreSilent.{no_more_by}
use Rattle.sl_run_law.proofs.Sessions.MarksStay.{marks_stay}
use Rattle.sl_run_law.specs.Sessions.SessionLaws.{IsSession as IsSessionOf}
use Rattle.sl_trace.specs.Sessions.{calls_of, free_write, is_call_of, is_free_purpose, joined_after, open_calls_of, refused_after, removed_after, stage_in}
use Rattle.sl_trace.specs.declared.session.Session.{Session}
use Rattle.sl_trace.specs.Traces.{Answered, Setting, Submitted, Trace, new_call, submitted}
use Rattle.sl_trace.specs.declared.effects.Call.{Call}
use Rattle.sl_trace.specs.declared.effects.Purpose.TheVariants.{Leaving}
use Rattle.sl_trace.specs.declared.effects.Purpose.{Purpose}
use Rattle.sl_words.proofs.CaseLaws.{true_is_false}
use Rattle.std.proofs.Common.{ap, arith, inl, inr, refl, subst, sym, ◌∙◌}
use Rattle.std.specs.Prelude.{Contains, List, None, Option, Some, [], false, is_none, is_some, length, suc, true, ◌++◌, ◌∷◌, ◌≡◌, ◌≤◌}

-- ---- lists

-- ---- the law of the free

free_law : (st : Setting) (t : Trace) (s : Session) (c : Submitted) (p : Purpose) → is_free_purpose p ≡ true → LawfulDeltaCall st t s c p → LawfulFree st t s c
free_law st t s c (Leaving j) is law = law
free_law st t s c p is law = absurd (true_is_false (sym is))

-- ---- nothing is newer than the free

-- A call with the free behind it was made where the session had joined and was freed: so it wasn't made.
none_newer : (st : Setting) (es : Trace) (s : Session) (m x : Submitted) (older behind : List Submitted) → Orderly st es → IsSessionOf st es s → (d : IsMadeAfter es s m older)
    → Contains older x → is_free_purpose x.call.purpose ≡ true → IsMadeAfter es s x behind → ⊥
none_newer st es s m x older behind h its d there free e =
    let t : Trace = front_at d in
    let n = partner IsLater older (calls_of t s) x d.prior there in
    let early = made_below t n.0 (kept_inside (is_call_of s) (submitted t) n.0 n.1).0 in
    let at : suc (length e.past) ≤ suc (length d.past) = omega (arith, early, n.2.same.at, e.place) in
    let mid = ends d.later (d.entry ∷ d.past) e.later (e.entry ∷ e.past) (sym d.whole ∙ e.whole) at in
    let law = free_law st (front_at e) s (new_call (length e.past) e.entry.reading x.call) x.call.purpose free (lawful_call st es s x behind e h its).law in
    let k = standing_joined (front_at e) s law.standing in
    let joined : joined_after t s ≡ Some k.0 = ap (λ us. joined_after us s) mid.1 ∙ marks_stay.joined mid.0 (e.entry ∷ e.past) s k.0 k.1 in
    let found = finds (λ (y : Submitted). is_free_purpose y.call.purpose) (calls_of t s) n.0
    (ap (λ (y : Call). is_free_purpose y.purpose) (sym n.2.same.call) ∙ free) n.1 in
    true_is_false (sym (lawful_call st es s m older d h its).alive
    ∙ no_more_by (joined_after t s) (removed_after t s) (refused_after t s) (free_write (calls_of t s)) (stage_in (calls_of t s)) k.0 joined (ap (λ o. is_some o) found.1))

-- ---- what is behind it is answered

answered_by : (t : Trace) (s : Session) (m n : Submitted) → open_calls_of t s ≡ [] → Contains (calls_of t s) n → IsLater m n → (o : Option Answered) → n.answer ≡ o
    → (a : Answered) × (m.answer ≡ Some a)
answered_by t s m n none there r None is =
    absurd (contains_none n (subst (λ ms. Contains ms n) none (kept (λ (x : Submitted). is_none x.answer) (calls_of t s) n (ap (λ o. is_none o) is) there)))
answered_by t s m n none there r (Some a) is = (a, ap (λ (x : Submitted). x.answer) (r.stays a is) ∙ is)

behind_answered : (st : Setting) (es : Trace) (s : Session) (x m : Submitted) (older : List Submitted) → Orderly st es → IsSessionOf st es s → (d : IsMadeAfter es s x older)
    → is_free_purpose x.call.purpose ≡ true → Contains older m → (a : Answered) × (m.answer ≡ Some a)
behind_answered st es s x m older h its d free there =
    let t : Trace = front_at d in
    let law = free_law st t s (new_call (length d.past) d.entry.reading x.call) x.call.purpose free (lawful_call st es s x older d h its).law in
    let n = partner IsLater older (calls_of t s) m d.prior there in
    answered_by t s m n.0 law.no_call n.1 n.2 n.0.answer refl

-- Of a session that has written its free each other call is answered.
pub freed_answered : (st : Setting) (es : Trace) (s : Session) → Orderly st es → IsSessionOf st es s → (x : Submitted) → free_write (calls_of es s) ≡ Some x → (m : Submitted)
    → Contains (calls_of es s) m → is_free_purpose m.call.purpose ≡ false → (a : Answered) × (m.answer ≡ Some a)
freed_answered st es s h its x is m there other =
    let found = find_inside (λ (y : Submitted). is_free_purpose y.call.purpose) (calls_of es s) x is in
    let at = stands (calls_of es s) x found.0 in
    by at.newer at.older (subst (λ ms. AreMade es s ms) at.whole (all_made es s)) (subst (λ ms. Contains ms m) at.whole there) found.1
  where
    by : (newer older : List Submitted) → AreMade es s (newer ++ x ∷ older) → Contains (newer ++ x ∷ older) m → is_free_purpose x.call.purpose ≡ true → (a : Answered) × (m.answer ≡ Some a)
    by (y ∷ newer) older made has free =
        absurd (none_newer st es s y x (newer ++ x ∷ older) older h its made.0 (stands_there newer x older) free (tail_at (IsMadeAfter es s) newer x older made.1))
    by [] older made has free =
        elim (contains_cases x older m has) as (λ z. (a : Answered) × (m.answer ≡ Some a)) [
          | inl here ↦ absurd (true_is_false (sym free ∙ ap (λ (y : Submitted). is_free_purpose y.call.purpose) here ∙ other))
          | inr behind ↦ behind_answered st es s x m older h its made.0 free behind
        ]
