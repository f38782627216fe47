-- A present session has its lockspace's name.
use Rattle.sl_words.proofs.Lists.{contains_cases, contains_first, contains_more, contains_none, kept}
use Rattle.sl_trace.specs.Sessions.{has_open_write, is_present, joined_after, present_sessions, refused_after, removed_after, session_named, sessions}
use Rattle.sl_trace.specs.declared.session.Session.{Session}
use Rattle.sl_trace.specs.Traces.{Setting, Trace}
use Rattle.sl_words.proofs.CaseLaws.{none_some, no_value, true_is_false}
use Rattle.sl_words.specs.Orders.{is_text_before, put_in}
use Rattle.std.proofs.Common.{ap, inl, inr, refl, subst, sym, ◌∙◌}
use Rattle.std.specs.Cmp.Lexicographic.{nat_list_eq_equiv}
use Rattle.std.specs.Prelude.{Bool, Contains, List, None, Option, Some, [], bytes_eq, cond, false, filter, find, fold, if◌then◌else◌, is_none, true, ℕ, ◌&&◌, ◌||◌, ◌∷◌, ◌≡◌, ◌⊎◌}

pub fails_at : {A : Type 0} (p : A → Bool) (x : A) (xs : List A) (d : A) (b : Bool) → p x ≡ b → cond b (Some x) (find p xs) ≡ None → (x ≡ d) ⊎ Contains xs d
    → (find p xs ≡ None → Contains xs d → p d ≡ false) → p d ≡ false
fails_at p x xs d true is none where_is rest = absurd (none_some x (sym none))
fails_at {A} p x xs d false is none (inl here) rest = subst (λ (y : A). p y ≡ false) here is
fails_at p x xs d false is none (inr there) rest = rest none there

fails : {A : Type 0} (p : A → Bool) (xs : List A) → find p xs ≡ None → (d : A) → Contains xs d → p d ≡ false
fails p [] none d there = absurd (contains_none d there)
fails p (x ∷ xs) none d there = fails_at p x xs d (p x) refl none (contains_cases x xs d there) (λ left inside. fails p xs left d inside)

put_first_at : {A : Type 0} (before : A → A → Bool) (x y : A) (ys : List A) (b : Bool) → Contains (put_in before x ys) x → Contains (if b then x ∷ y ∷ ys else y ∷ put_in before x ys) x
put_first_at before x y ys true rest = contains_first x (y ∷ ys)
put_first_at before x y ys false rest = contains_more y (put_in before x ys) x rest

put_first : {A : Type 0} (before : A → A → Bool) (x : A) (ys : List A) → Contains (put_in before x ys) x
put_first before x [] = contains_first x []
put_first before x (y ∷ ys) = put_first_at before x y ys (before x y) (put_first before x ys)

put_old_at : {A : Type 0} (before : A → A → Bool) (x y : A) (ys : List A) (d : A) (b : Bool) → Contains (y ∷ ys) d → (y ≡ d) ⊎ Contains ys d → (Contains ys d → Contains (put_in before x ys) d)
    → Contains (if b then x ∷ y ∷ ys else y ∷ put_in before x ys) d
put_old_at before x y ys d true there at rest = contains_more x (y ∷ ys) d there
put_old_at {A} before x y ys d false there (inl here) rest = subst (λ (z : A). Contains (y ∷ put_in before x ys) z) here (contains_first y (put_in before x ys))
put_old_at before x y ys d false there (inr inside) rest = contains_more y (put_in before x ys) d (rest inside)

put_old : {A : Type 0} (before : A → A → Bool) (x : A) (ys : List A) (d : A) → Contains ys d → Contains (put_in before x ys) d
put_old before x [] d there = absurd (contains_none d there)
put_old before x (y ∷ ys) d there = put_old_at before x y ys d (before x y) there (contains_cases y ys d there) (λ inside. put_old before x ys d inside)

sorted_old : {A : Type 0} (before : A → A → Bool) (xs sorted : List A) (d : A) → Contains sorted d → Contains (fold (λ ys x. put_in before x ys) sorted xs) d
sorted_old before [] sorted d there = there
sorted_old before (x ∷ xs) sorted d there = sorted_old before xs (put_in before x sorted) d (put_old before x sorted d there)

sorted_new : {A : Type 0} (before : A → A → Bool) (xs sorted : List A) (d : A) → Contains xs d → Contains (fold (λ ys x. put_in before x ys) sorted xs) d
sorted_new before [] sorted d there = absurd (contains_none d there)
sorted_new {A} before (x ∷ xs) sorted d there = by (λ inside. sorted_new before xs (put_in before x sorted) d inside) (contains_cases x xs d there) where
  by : (Contains xs d → Contains (fold (λ ys y. put_in before y ys) (put_in before x sorted) xs) d) → (x ≡ d) ⊎ Contains xs d
      → Contains (fold (λ ys y. put_in before y ys) (put_in before x sorted) xs) d
  by rest (inl here) = sorted_old before xs (put_in before x sorted) d (subst (λ (z : A). Contains (put_in before x sorted) z) here (put_first before x sorted))
  by rest (inr inside) = rest inside

pub same_name : (name : List ℕ) → bytes_eq name name ≡ true
same_name name = nat_list_eq_equiv.refl name

present_by : (joined removed refused : Option ℕ) (b : Bool) → joined ≡ None → refused ≡ None
    → (is_none (elim joined as (λ x. Option ℕ) [ Some k ↦ removed | None ↦ refused ]) || is_none joined && b) ≡ true
present_by (Some k) removed refused b none at = absurd (no_value k (Some k) refl none)
present_by None removed (Some k) b none at = absurd (no_value k (Some k) refl at)
present_by None removed None b none at = refl

-- No other takes the name of a session whose joining goes on.
pub named : (st : Setting) (es : Trace) (s : Session) → Contains (sessions st es) s → joined_after es s ≡ None → refused_after es s ≡ None → session_named st es s.lockspace ≡ None → ⊥
named st es s there joined refused none =
    true_is_false (sym (same_name s.lockspace)
    ∙ fails (λ (x : Session). bytes_eq x.lockspace s.lockspace) (present_sessions st es) none s
    (sorted_new (λ (a b : Session). is_text_before a.lockspace b.lockspace) (filter (is_present es) (sessions st es)) [] s
    (kept (is_present es) (sessions st es) s (present_by (joined_after es s) (removed_after es s) (refused_after es s) (has_open_write es s) joined refused) there)))

-- No other takes the name of a present session.
pub absent : (st : Setting) (es : Trace) (name : List ℕ) (x : Session) → Contains (sessions st es) x → x.lockspace ≡ name → session_named st es name ≡ None → is_present es x ≡ true → ⊥
absent st es name x there is none present =
    true_is_false (sym (ap (λ n. bytes_eq n name) is ∙ same_name name)
    ∙ fails (λ (y : Session). bytes_eq y.lockspace name) (present_sessions st es) none x
    (sorted_new (λ (a b : Session). is_text_before a.lockspace b.lockspace) (filter (is_present es) (sessions st es)) [] x
    (kept (is_present es) (sessions st es) x present there)))
