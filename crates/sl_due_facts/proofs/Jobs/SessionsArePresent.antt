-- Sessions that are present: those of the trace that are, by name.
use Rattle.sl_due_facts.proofs.Acts.AddedAtEnd.{contains_at}
use Rattle.sl_words.proofs.Lists.{contains_cases, contains_first, contains_more, contains_none, kept, kept_inside}
use Rattle.sl_trace.specs.Sessions.{has_open_write, is_joined, is_present, joined_after, present_sessions, refused_after, removed_after, session_numbered, sessions}
use Rattle.sl_trace.specs.declared.session.Session.{Session}
use Rattle.sl_trace.specs.Traces.{Setting, Trace}
use Rattle.sl_run_law.proofs.Leases.NumberLaws.{number_is_place}
use Rattle.sl_words.proofs.CaseLaws.{false_is_true}
use Rattle.sl_words.specs.Orders.{is_text_before, put_in}
use Rattle.std.proofs.Common.{ap, inl, inr, refl, subst, ◌∙◌}
use Rattle.std.specs.Prelude.{Bool, Contains, List, None, Option, Some, [], false, filter, fold, if◌then◌else◌, is_none, is_some, true, ℕ, ◌&&◌, ◌||◌, ◌∷◌, ◌≡◌, ◌⊎◌}

put_inside : {A : Type 0} (before : A → A → Bool) (x : A) (ys : List A) (d : A) → (x ≡ d) ⊎ Contains ys d → Contains (put_in before x ys) d
put_inside before x [] d (inl is) = subst (λ z. Contains (x ∷ []) z) is (contains_first x [])
put_inside before x [] d (inr there) = absurd (contains_none d there)
put_inside {A} before x (y ∷ ys) d there = by (before x y) (λ k. put_inside before x ys d k) there where
  deeper : ((x ≡ d) ⊎ Contains ys d → Contains (put_in before x ys) d) → (x ≡ d) ⊎ Contains (y ∷ ys) d → Contains (y ∷ put_in before x ys) d
  deeper more (inl is) = contains_more y (put_in before x ys) d (more (inl is))
  deeper more (inr old) = elim (contains_cases y ys d old) [
    | inl is ↦ subst (λ z. Contains (y ∷ put_in before x ys) z) is (contains_first y (put_in before x ys))
    | inr rest ↦ contains_more y (put_in before x ys) d (more (inr rest))
  ]

  by : (b : Bool) → ((x ≡ d) ⊎ Contains ys d → Contains (put_in before x ys) d) → (x ≡ d) ⊎ Contains (y ∷ ys) d → Contains (if b then x ∷ y ∷ ys else y ∷ put_in before x ys) d
  by true more (inl is) = subst (λ z. Contains (x ∷ y ∷ ys) z) is (contains_first x (y ∷ ys))
  by true more (inr old) = contains_more x (y ∷ ys) d old
  by false more where_is = deeper more where_is

order_inside : {A : Type 0} (before : A → A → Bool) (xs sorted : List A) (d : A) → Contains xs d ⊎ Contains sorted d → Contains (fold (λ ys x. put_in before x ys) sorted xs) d
order_inside before [] sorted d (inl none) = absurd (contains_none d none)
order_inside before [] sorted d (inr there) = there
order_inside {A} before (x ∷ xs) sorted d there = order_inside before xs (put_in before x sorted) d (by there) where
  by : Contains (x ∷ xs) d ⊎ Contains sorted d → Contains xs d ⊎ Contains (put_in before x sorted) d
  by (inr old) = inr (put_inside before x sorted d (inr old))
  by (inl new) = elim (contains_cases x xs d new) [ inl is ↦ inr (put_inside before x sorted d (inl is)) | inr rest ↦ inl rest ]

abbrev named_before : Session → Session → Bool
named_before a b = is_text_before a.lockspace b.lockspace

pub present_inside : (st : Setting) (t : Trace) (s : Session) → Contains (sessions st t) s → is_present t s ≡ true → Contains (present_sessions st t) s
present_inside st t s there is = order_inside named_before (filter (is_present t) (sessions st t)) [] s (inl (kept (is_present t) (sessions st t) s is there))

from_put : {A : Type 0} (before : A → A → Bool) (x : A) (ys : List A) (d : A) → Contains (put_in before x ys) d → (x ≡ d) ⊎ Contains ys d
from_put before x [] d there = contains_cases x [] d there
from_put {A} before x (y ∷ ys) d there = by (before x y) there (λ deeper. from_put before x ys d deeper) where
  under : (Contains (put_in before x ys) d → (x ≡ d) ⊎ Contains ys d) → (y ≡ d) ⊎ Contains (put_in before x ys) d → (x ≡ d) ⊎ Contains (y ∷ ys) d
  under rest (inl is) = inr (subst (λ z. Contains (y ∷ ys) z) is (contains_first y ys))
  under rest (inr deeper) = elim (rest deeper) [ inl is ↦ inl is | inr old ↦ inr (contains_more y ys d old) ]

  by : (b : Bool) → Contains (if b then x ∷ y ∷ ys else y ∷ put_in before x ys) d → (Contains (put_in before x ys) d → (x ≡ d) ⊎ Contains ys d) → (x ≡ d) ⊎ Contains (y ∷ ys) d
  by true there rest = contains_cases x (y ∷ ys) d there
  by false there rest = under rest (contains_cases y (put_in before x ys) d there)

from_order : {A : Type 0} (before : A → A → Bool) (xs sorted : List A) (d : A) → Contains (fold (λ ys x. put_in before x ys) sorted xs) d → Contains xs d ⊎ Contains sorted d
from_order before [] sorted d there = inr there
from_order {A} before (x ∷ xs) sorted d there = by (from_order before xs (put_in before x sorted) d there) where
  put : (x ≡ d) ⊎ Contains sorted d → Contains (x ∷ xs) d ⊎ Contains sorted d
  put (inl is) = inl (subst (λ z. Contains (x ∷ xs) z) is (contains_first x xs))
  put (inr old) = inr old

  by : Contains xs d ⊎ Contains (put_in before x sorted) d → Contains (x ∷ xs) d ⊎ Contains sorted d
  by (inl rest) = inl (contains_more x xs d rest)
  by (inr inside) = put (from_put before x sorted d inside)

pub present_is : (st : Setting) (t : Trace) (s : Session) → Contains (present_sessions st t) s → Contains (sessions st t) s × (is_present t s ≡ true)
present_is st t s there = by (from_order named_before (filter (is_present t) (sessions st t)) [] s there) where
  by : Contains (filter (is_present t) (sessions st t)) s ⊎ Contains [] s → Contains (sessions st t) s × (is_present t s ≡ true)
  by (inl inside) = kept_inside (is_present t) (sessions st t) s inside
  by (inr none) = absurd (contains_none s none)

-- A joined session is present.
pub joined_present : (t : Trace) (s : Session) → is_joined t s ≡ true → is_present t s ≡ true
joined_present t s is = by (joined_after t s) (removed_after t s) (refused_after t s) is where
  by : (joined removed refused : Option ℕ) → (is_some joined && is_none removed) ≡ true
      → (is_none (elim joined as (λ z. Option ℕ) [ Some k ↦ removed | None ↦ refused ]) || is_none joined && has_open_write t s) ≡ true
  by (Some k) None refused h = refl
  by (Some k) (Some i) refused h = absurd (false_is_true h)
  by None removed refused h = absurd (false_is_true h)

-- A session of the trace has its place.
pub session_has : (st : Setting) (t : Trace) (s : Session) → Contains (sessions st t) s → session_numbered st t s.number ≡ Some s
session_has st t s there =
    let at = contains_at (sessions st t) s there in ap (λ n. session_numbered st t n) (number_is_place st t at.0 s at.1) ∙ at.1
