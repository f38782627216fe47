-- Whether a session is present, joined, covered is a function of four marks of it: when it was joined, removed, refused, and its calls.
use Rattle.sl_due_facts.proofs.Jobs.SessionsArePresent.{joined_present}
use Rattle.sl_due_facts.proofs.Jobs.SessionsStand.{joined_then}
use Rattle.sl_run.specs.LawfulConnections.{is_covered}
use Rattle.sl_words.proofs.Truth.{or_false}
use Rattle.sl_due_facts.proofs.Sessions.NameEffects.{at_work_present}
use Rattle.sl_due_facts.proofs.Sessions.NamesAreAllowed.{joined_unrefused}
use Rattle.sl_trace.specs.Sessions.{calls_of, free_write, has_open_write, is_covered_stage, is_joined, is_present, joined_after, refused_after, removed_after, stage_in}
use Rattle.sl_trace.specs.declared.session.Session.{Session}
use Rattle.sl_trace.specs.Traces.{Submitted, Trace, is_write, unanswered}
use Rattle.sl_run_law.proofs.Sessions.EndedAreSilent.{stage_by}
use Rattle.sl_words.proofs.CaseLaws.{false_is_true, none_some, not_both}
use Rattle.std.proofs.Common.{ap, ap₂, inl, inr, refl, sym, ◌∙◌}
use Rattle.std.specs.List.{list_any}
use Rattle.std.specs.Prelude.{Bool, List, None, Option, Some, false, is_none, is_some, true, ℕ, ◌&&◌, ◌||◌, ◌≡◌, ◌⊎◌}

-- ---- of the marks

abbrev pub present_of : Option ℕ → Option ℕ → Option ℕ → List Submitted → Bool
present_of joined removed refused ms = is_none (elim joined as (λ z. Option ℕ) [ Some k ↦ removed | None ↦ refused ]) || is_none joined && list_any (λ (m : Submitted). is_write m.call.op) (unanswered ms)

abbrev pub covered_of : Option ℕ → Option ℕ → Option ℕ → List Submitted → Bool
covered_of joined removed refused ms =
    is_covered_stage (stage_by joined removed refused (free_write ms) (stage_in ms)) || is_some refused && list_any (λ (m : Submitted). is_write m.call.op) (unanswered ms)

-- A covered session that isn't joined: at work in a stage that is covered, or refused with a write unanswered.
pub covered_unjoined : (joined removed refused : Option ℕ) (ms : List Submitted) → joined ≡ None → covered_of joined removed refused ms ≡ true
    → ((refused ≡ None) × (is_covered_stage (stage_in ms) ≡ true)) ⊎ ((is_some refused ≡ true) × (list_any (λ (m : Submitted). is_write m.call.op) (unanswered ms) ≡ true))
covered_unjoined None removed None ms none is = inl (refl, or_false (is_covered_stage (stage_in ms)) is)
covered_unjoined None removed (Some k) ms none is = inr (refl, is)
covered_unjoined (Some i) removed refused ms none is = absurd (none_some i (sym none))

pub covered_joined : (joined removed refused : Option ℕ) (ms : List Submitted) → is_some joined ≡ true → refused ≡ None → covered_of joined removed refused ms ≡ true → removed ≡ None
covered_joined (Some k) None refused ms some none is = refl
covered_joined (Some k) (Some i) None ms some none is = absurd (false_is_true is)
covered_joined (Some k) (Some i) (Some j) ms some none is = absurd (none_some j (sym none))
covered_joined None removed refused ms some none is = absurd (false_is_true some)

-- ---- of a trace

-- Who is covered is present.
pub covered_present : (t : Trace) (s : Session) → is_covered t s ≡ true → is_present t s ≡ true
covered_present t s is = by (joined_after t s) refl where
  at_work : (joined removed refused : Option ℕ) (ms : List Submitted) → joined ≡ None
      → ((refused ≡ None) × (is_covered_stage (stage_in ms) ≡ true)) ⊎ ((is_some refused ≡ true) × (list_any (λ (m : Submitted). is_write m.call.op) (unanswered ms) ≡ true)) → present_of joined removed refused ms ≡ true
  at_work None removed None ms none h = refl
  at_work None removed (Some k) ms none (inr both) = both.1
  at_work None removed (Some k) ms none (inl both) = absurd (none_some k (sym both.0))
  at_work (Some i) removed refused ms none h = absurd (none_some i (sym none))

  by : (o : Option ℕ) → joined_after t s ≡ o → is_present t s ≡ true
  by None none =
      at_work (joined_after t s) (removed_after t s) (refused_after t s) (calls_of t s) none (covered_unjoined (joined_after t s) (removed_after t s) (refused_after t s) (calls_of t s) none is)
  by (Some k) joined =
      let some_one : is_some (joined_after t s) ≡ true = ap (λ o. is_some o) joined in
      let stays : removed_after t s ≡ None = covered_joined (joined_after t s) (removed_after t s) (refused_after t s) (calls_of t s) some_one (joined_unrefused t s some_one) is in
      joined_present t s (ap₂ (λ a b. a && is_none b) some_one stays)

-- Who is joined is covered, unless it was removed.
pub joined_and_covered : (t : Trace) (s : Session) → is_some (joined_after t s) ≡ true → is_covered t s ≡ true → is_joined t s ≡ true
joined_and_covered t s some_one is =
    ap₂ (λ a b. a && is_none b) some_one (covered_joined (joined_after t s) (removed_after t s) (refused_after t s) (calls_of t s) some_one (joined_unrefused t s some_one) is)

-- A joined session that is present was not removed.
pub present_joined : (t : Trace) (s : Session) → is_some (joined_after t s) ≡ true → is_present t s ≡ true → is_joined t s ≡ true
present_joined t s some_one is = ap₂ (λ a b. a && b) some_one (by (joined_after t s) (removed_after t s) (refused_after t s) (calls_of t s) some_one is) where
  by : (joined removed refused : Option ℕ) (ms : List Submitted) → is_some joined ≡ true → present_of joined removed refused ms ≡ true → is_none removed ≡ true
  by (Some k) removed refused ms some_one is = or_false (is_none removed) is
  by None removed refused ms some_one is = absurd (false_is_true some_one)

pub unjoined_not : (t : Trace) (s : Session) → joined_after t s ≡ None → is_joined t s ≡ true → ⊥
unjoined_not t s none is = not_both (is_some (joined_after t s)) (joined_then t s is) (ap (λ o. is_some o) none)

-- A session at work is covered by its stage, a refused one by an open write.
pub covered_at_work : (t : Trace) (s : Session) → joined_after t s ≡ None → refused_after t s ≡ None → is_covered t s ≡ is_covered_stage (stage_in (calls_of t s))
covered_at_work t s none unrefused = by (joined_after t s) (removed_after t s) (refused_after t s) (calls_of t s) none unrefused where
  either : (b : Bool) → (b || false) ≡ b
  either true = refl
  either false = refl

  by : (joined removed refused : Option ℕ) (ms : List Submitted) → joined ≡ None → refused ≡ None → covered_of joined removed refused ms ≡ is_covered_stage (stage_in ms)
  by None removed None ms none unrefused = either (is_covered_stage (stage_in ms))
  by (Some k) removed refused ms none unrefused = absurd (none_some k (sym none))
  by None removed (Some k) ms none unrefused = absurd (none_some k (sym unrefused))

pub covered_refused : (t : Trace) (s : Session) → joined_after t s ≡ None → is_some (refused_after t s) ≡ true → is_covered t s ≡ has_open_write t s
covered_refused t s none refused = by (joined_after t s) (removed_after t s) (refused_after t s) (calls_of t s) none refused where
  by : (joined removed refused : Option ℕ) (ms : List Submitted) → joined ≡ None → is_some refused ≡ true → covered_of joined removed refused ms ≡ list_any (λ (m : Submitted). is_write m.call.op) (unanswered ms)
  by None removed (Some k) ms none refused = refl
  by None removed None ms none refused = absurd (false_is_true refused)
  by (Some k) removed refuses ms none refused = absurd (none_some k (sym none))

-- A session at work is present.
pub at_work_is_present : (t : Trace) (s : Session) → joined_after t s ≡ None → refused_after t s ≡ None → is_present t s ≡ true
at_work_is_present t s none unrefused = at_work_present (joined_after t s) (removed_after t s) (refused_after t s) (has_open_write t s) none unrefused

-- ---- a session that an act leaves as it was

pub record SameSession (t u : Trace) (s : Session) : Type 0 where
  pub joined : joined_after u s ≡ joined_after t s
  pub removed : removed_after u s ≡ removed_after t s
  pub refused : refused_after u s ≡ refused_after t s
  pub calls : calls_of u s ≡ calls_of t s

same_by : (f : Option ℕ → Option ℕ → Option ℕ → List Submitted → Bool) (t u : Trace) (s : Session) → SameSession t u s
    → f (joined_after u s) (removed_after u s) (refused_after u s) (calls_of u s) ≡ f (joined_after t s) (removed_after t s) (refused_after t s) (calls_of t s)
same_by f t u s h =
    ap₂ (λ a b. f a b (refused_after u s) (calls_of u s)) h.joined h.removed ∙ ap₂ (λ c d. f (joined_after t s) (removed_after t s) c d) h.refused h.calls

pub same_itself : (t : Trace) (s : Session) → SameSession t t s
same_itself t s = record { joined = refl; removed = refl; refused = refl; calls = refl }

pub same_then : (t u v : Trace) (s : Session) → SameSession t u s → SameSession u v s → SameSession t v s
same_then t u v s h k = record { joined = k.joined ∙ h.joined; removed = k.removed ∙ h.removed; refused = k.refused ∙ h.refused; calls = k.calls ∙ h.calls }

pub same_present : (t u : Trace) (s : Session) → SameSession t u s → is_present u s ≡ is_present t s
same_present t u s h = same_by present_of t u s h

pub same_covered : (t u : Trace) (s : Session) → SameSession t u s → is_covered u s ≡ is_covered t s
same_covered t u s h = same_by covered_of t u s h

pub same_is_joined : (t u : Trace) (s : Session) → SameSession t u s → is_joined u s ≡ is_joined t s
same_is_joined t u s h = ap₂ (λ a b. is_some a && is_none b) h.joined h.removed
