-- A session whose renewal the entry answers ok is not over: it has written no free, and is not removed.
use Rattle.sl_id_safety.proofs.State.CallLaws.{lawful_call}
use Rattle.sl_id_safety.proofs.State.PairedLists.{EveryTail}
use Rattle.sl_id_safety.proofs.State.JoiningCallOrder.{InPlace, in_place, is_joining}
use Rattle.sl_id_safety.proofs.State.Tails.{IsLater, IsMadeAfter, all_made, front_at}
use Rattle.sl_id_safety.proofs.Steps.Frees.{is_standing, joining_stage}
use Rattle.sl_id_safety.proofs.Steps.RenewalCalls.{contains_filtered}
use Rattle.sl_run.specs.Lawful.{Orderly}
use Rattle.sl_run.specs.LawfulDelta.{LawfulDeltaCall}
use Rattle.sl_run_law.proofs.Place.FoundInLists.{partner}
use Rattle.sl_words.proofs.Lists.{contains_cases, contains_none, find_fails, find_inside}
use Rattle.sl_run_law.proofs.Sessions.UnansweredNotRemoved.{not_removed}
use Rattle.sl_run_law.proofs.Sessions.EndedAreSilent.{stage_by}
use Rattle.sl_run_law.proofs.Sessions.MarksStay.{refused_apart, refused_more}
use Rattle.sl_run_law.specs.Sessions.SessionLaws.{IsSession, all_done, fits, fits_as, has_reply}
use Rattle.sl_trace.specs.Sessions.{calls_of, ended_after, free_write, is_free_purpose, is_renewal, joined_after, open_calls_of, refused_after, removed_after, stage_in, stage_of}
use Rattle.sl_trace.specs.declared.session.Session.{Session}
use Rattle.sl_trace.specs.declared.stage.Stage.TheVariants.{Standing}
use Rattle.sl_trace.specs.declared.stage.Stage.{Stage}
use Rattle.sl_trace.specs.Traces.{Answered, Setting, Submitted, Trace, is_write, new_call}
use Rattle.sl_trace.specs.declared.effects.Entry.{Entry}
use Rattle.sl_trace.specs.declared.effects.JoinStep.TheVariants.{FirstRenewal}
use Rattle.sl_trace.specs.declared.effects.Purpose.TheVariants.{Joining, Leaving, Renewal}
use Rattle.sl_trace.specs.declared.effects.Purpose.{Purpose}
use Rattle.sl_run_law.proofs.Watchdog.FoundCalls.{call_inside, open_write}
use Rattle.sl_run_law.proofs.Watchdog.OneOpenRenewal.{IsOpenRenewal}
use Rattle.sl_words.proofs.CaseLaws.{false_is_true, none_some, not_both, true_is_false}
use Rattle.sl_words.proofs.WordLaws.{and_true}
use Rattle.std.proofs.Common.{ap, inl, inr, refl, subst, sym, ◌∙◌}
use Rattle.std.specs.Prelude.{Bool, Contains, List, None, Option, Some, false, is_none, length, true, [], ℕ, ◌&&◌, ◌∷◌, ◌≡◌, ◌⊎◌}

-- ---- which of two calls was made first

data Order (P : Submitted → List Submitted → Type 0) (a b : Submitted) : Type 0 where
  Is_same : a ≡ b → Order P a b
  Is_newer : (older : List Submitted) → P a older → Contains older b → Order P a b
  Is_older : (older : List Submitted) → P b older → Contains older a → Order P a b

order_by : (P : Submitted → List Submitted → Type 0) (x : Submitted) (ms : List Submitted) (a b : Submitted) → P x ms
    → (Contains ms a → Contains ms b → Order P a b) → (x ≡ a) ⊎ Contains ms a → (x ≡ b) ⊎ Contains ms b → Order P a b
order_by P x ms a b this rest (inl e) (inl f) = Is_same (sym e ∙ f)
order_by P x ms a b this rest (inl e) (inr hb) = Is_newer ms (subst (λ y. P y ms) e this) hb
order_by P x ms a b this rest (inr ha) (inl f) = Is_older ms (subst (λ y. P y ms) f this) ha
order_by P x ms a b this rest (inr ha) (inr hb) = rest ha hb

order_in : (P : Submitted → List Submitted → Type 0) (ms : List Submitted) → EveryTail P ms → (a b : Submitted) → Contains ms a → Contains ms b → Order P a b
order_in P [] all a b ha hb = absurd (contains_none a ha)
order_in P (x ∷ ms) all a b ha hb = order_by P x ms a b all.0 (order_in P ms all.1 a b) (contains_cases x ms a ha) (contains_cases x ms b hb)

both_tails : (P Q : Submitted → List Submitted → Type 0) (ms : List Submitted) → EveryTail P ms → EveryTail Q ms → EveryTail (λ m older. P m older × Q m older) ms
both_tails P Q [] a b = tt
both_tails P Q (m ∷ ms) a b = ((a.0, b.0), both_tails P Q ms a.1 b.1)

-- ---- a renewal and a free

renewal_not_free : (p : Purpose) → is_renewal p ≡ true → is_free_purpose p ≡ true → ⊥
renewal_not_free Renewal h k = false_is_true k
renewal_not_free (Joining j FirstRenewal) h k = false_is_true k
renewal_not_free p h k = false_is_true h

renewal_stage : (st : Setting) (t : Trace) (s : Session) (n : Submitted) (p : Purpose) → LawfulDeltaCall st t s n p → is_renewal p ≡ true
    → (stage_of t s ≡ Standing) ⊎ (is_joining p ≡ true)
renewal_stage st t s n Renewal law h = inl law.standing
renewal_stage st t s n (Joining j FirstRenewal) law h = inr refl
renewal_stage st t s n p law h = absurd (false_is_true h)

free_alone : (st : Setting) (t : Trace) (s : Session) (n : Submitted) (p : Purpose) → LawfulDeltaCall st t s n p → is_free_purpose p ≡ true → open_calls_of t s ≡ []
free_alone st t s n (Leaving j) law h = law.no_call
free_alone st t s n p law h = absurd (false_is_true h)

standing_free : (joined removed refused : Option ℕ) (free : Option Submitted) (joining : Stage) → is_standing joining ≡ false
    → stage_by joined removed refused free joining ≡ Standing → free ≡ None
standing_free (Some k) removed refused None joining early h = refl
standing_free (Some k) (Some r) refused (Some m) joining early h = absurd cc
standing_free (Some k) None refused (Some m) joining early h = absurd cc
standing_free None removed (Some r) free joining early h = absurd cc
standing_free None removed None free joining early h = absurd (true_is_false (ap (λ x. is_standing x) (sym h) ∙ early))

not_fits : (p : Purpose) (b : Bool) → is_free_purpose p ≡ true → fits_as p b ≡ false
not_fits (Leaving j) b h = refl
not_fits p b h = absurd (false_is_true h)

done_has : (ms : List Submitted) (m : Submitted) → all_done ms ≡ true → Contains ms m → fits m ≡ true
done_has [] m done has = absurd (contains_none m has)
done_has (x ∷ ms) m done has =
    let p = and_true (fits x && has_reply x) (all_done ms) done in
    elim (contains_cases x ms m has) as (λ z. fits m ≡ true) [
      | inl e ↦ subst (λ y. fits y ≡ true) e (and_true (fits x) (has_reply x) p.0).0
      | inr more ↦ done_has ms m p.1 more
    ]

open_by : (m n : Submitted) → IsLater m n → m.answer ≡ None → (o : Option Answered) → n.answer ≡ o → o ≡ None
open_by m n later none None is = refl
open_by m n later none (Some a) is = absurd (none_some a (sym none ∙ ap (λ y. y.answer) (later.stays a is) ∙ is))

-- While a renewal is open no free has been written.
abbrev Placed : Trace → Session → Submitted → List Submitted → Type 0
Placed es s m older = IsMadeAfter es s m older × InPlace m older

unfreed_by : (st : Setting) (es : Trace) (s : Session) (m n : Submitted) → Orderly st es → IsSession st es s → IsOpenRenewal es s m → is_free_purpose n.call.purpose ≡ true
    → Order (Placed es s) m n → ⊥
unfreed_by st es s m n h its r free (Is_same e) = renewal_not_free n.call.purpose (ap (λ y. is_renewal y.call.purpose) (sym e) ∙ r.renews) free
unfreed_by st es s m n h its r free (Is_newer older p has) =
    let d = p.0 in
    let l = lawful_call st es s m older d h its in
    let t : Trace = front_at d in
    elim (renewal_stage st t s (new_call (length d.past) d.entry.reading m.call) m.call.purpose l.law r.renews) as (λ z. ⊥) [
      | inl stands ↦ let x = partner IsLater older (calls_of t s) n d.prior has in
          let none = standing_free (joined_after t s) (removed_after t s) (refused_after t s) (free_write (calls_of t s)) (stage_in (calls_of t s))
          (joining_stage (calls_of t s)) stands in
          not_both (is_free_purpose x.0.call.purpose) (ap (λ c. is_free_purpose c.purpose) (sym x.2.same.call) ∙ free)
          (find_fails (λ (y : Submitted). is_free_purpose y.call.purpose) (calls_of t s) x.0 none x.1)
      | inr joins ↦ not_both (fits n) (done_has older n (p.1 joins).done has) (not_fits n.call.purpose (is_write n.call.op) free)
    ]
unfreed_by st es s m n h its r free (Is_older older p has) =
    let d = p.0 in
    let l = lawful_call st es s n older d h its in
    let t : Trace = front_at d in
    let none = free_alone st t s (new_call (length d.past) d.entry.reading n.call) n.call.purpose l.law free in
    let x = partner IsLater older (calls_of t s) m d.prior has in
    contains_none x.0 (subst (λ ms. Contains ms x.0) none (contains_filtered (λ (y : Submitted). is_none y.answer) (calls_of t s) x.0 x.1
    (ap (λ o. is_none o) (open_by m x.0 x.2 r.waits x.0.answer refl))))

unfreed_in : (st : Setting) (es : Trace) (s : Session) (m : Submitted) → Orderly st es → IsSession st es s → IsOpenRenewal es s m
    → (o : Option Submitted) → free_write (calls_of es s) ≡ o → o ≡ None
unfreed_in st es s m h its r None is = refl
unfreed_in st es s m h its r (Some n) is =
    let x = find_inside (λ (y : Submitted). is_free_purpose y.call.purpose) (calls_of es s) n is in
    absurd (unfreed_by st es s m n h its r x.1 (order_in (Placed es s) (calls_of es s)
    (both_tails (IsMadeAfter es s) InPlace (calls_of es s) (all_made es s) (in_place st es s h its)) m n (call_inside es s m r.inside r.mine) x.0))

pub unfreed : (st : Setting) (es : Trace) (s : Session) (m : Submitted) → Orderly st es → IsSession st es s → IsOpenRenewal es s m → free_write (calls_of es s) ≡ None
unfreed st es s m h its r = unfreed_in st es s m h its r (free_write (calls_of es s)) refl

-- ---- it has not ended

pub unremoved : (st : Setting) (es : Trace) (s : Session) (m : Submitted) → Orderly st es → IsSession st es s → IsOpenRenewal es s m → removed_after es s ≡ None
unremoved st es s m h its r = not_removed st es s h its (open_write es s m (call_inside es s m r.inside r.mine) r.waits r.writes)

unrefused_by : (e : Entry) (es : Trace) (s : Session) (k : ℕ) → joined_after (e ∷ es) s ≡ Some k → (o : Option ℕ) → refused_after es s ≡ o → o ≡ None
unrefused_by e es s k joined None is = refl
unrefused_by e es s k joined (Some j) is =
    absurd (none_some k (sym (refused_apart (e ∷ es) s j (refused_more e es s j is)) ∙ joined))

not_ended : (joined removed refused : Option ℕ) → removed ≡ None → refused ≡ None → elim joined as (λ z. Option ℕ) [ Some k ↦ removed | None ↦ refused ] ≡ None
not_ended (Some k) removed refused a b = a
not_ended None removed refused a b = b

pub unended : (st : Setting) (e : Entry) (es : Trace) (s : Session) (m : Submitted) (k : ℕ) → Orderly st es → IsSession st es s → IsOpenRenewal es s m
    → joined_after (e ∷ es) s ≡ Some k → ended_after es s ≡ None
unended st e es s m k h its r joined =
    not_ended (joined_after es s) (removed_after es s) (refused_after es s) (unremoved st es s m h its r) (unrefused_by e es s k joined (refused_after es s) refl)
