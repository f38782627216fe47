-- One more at the end of a list, and the session that an entry begins.
use Rattle.sl_words.proofs.Lists.{contains_cases, contains_first, contains_more, contains_none}
use Rattle.sl_trace.specs.Sessions.{added_by, joining_session}
use Rattle.sl_trace.specs.declared.session.Session.{Session}
use Rattle.sl_trace.specs.Traces.{Setting, Trace, next_job}
use Rattle.sl_trace.specs.declared.effects.Entry.{Entry}
use Rattle.sl_trace.specs.declared.effects.JobReply.{JobReply}
use Rattle.sl_words.proofs.CaseLaws.{false_is_true}
use Rattle.std.proofs.Common.{ap, inl, inr, refl, subst, ◌∙◌}
use Rattle.std.proofs.lemmas.Option.{slice_get-get_or}
use Rattle.std.specs.List.{list_any}
use Rattle.std.specs.Prelude.{Bool, Contains, List, None, Some, cond, false, find, not, slice_get, true, [], ℕ, ◌++◌, ◌==◌, ◌||◌, ◌∷◌, ◌≡◌, ◌⊎◌}

-- ---- of a list

pub contains_last : {A : Type 0} (xs : List A) (y d : A) → Contains (xs ++ y ∷ []) d → Contains xs d ⊎ (y ≡ d)
contains_last [] y d there = by (contains_cases y [] d there) where
  by : (y ≡ d) ⊎ Contains [] d → Contains [] d ⊎ (y ≡ d)
  by (inl is) = inr is
  by (inr none) = absurd (contains_none d none)
contains_last (x ∷ xs) y d there = by (λ rest. contains_last xs y d rest) (contains_cases x (xs ++ y ∷ []) d there) where
  by : (Contains (xs ++ y ∷ []) d → Contains xs d ⊎ (y ≡ d)) → (x ≡ d) ⊎ Contains (xs ++ y ∷ []) d → Contains (x ∷ xs) d ⊎ (y ≡ d)
  by more (inl is) = inl (subst (λ z. Contains (x ∷ xs) z) is (contains_first x xs))
  by more (inr rest) = deeper (more rest) where
    deeper : Contains xs d ⊎ (y ≡ d) → Contains (x ∷ xs) d ⊎ (y ≡ d)
    deeper (inl old) = inl (contains_more x xs d old)
    deeper (inr new) = inr new

pub contains_at : {A : Type 0} (xs : List A) (d : A) → Contains xs d → (k : ℕ) × (slice_get xs k ≡ Some d)
contains_at xs d there = (there.0, slice_get-get_or xs there.0 d there.1 ∙ ap (λ z. Some z) there.2)

either_stays : (a b c : Bool) → (b ≡ true → c ≡ true) → (a || b) ≡ true → (a || c) ≡ true
either_stays true b c keeps h = refl
either_stays false b c keeps h = keeps h

pub any_stays : {A : Type 0} (p : A → Bool) (xs : List A) (y : A) → list_any p xs ≡ true → list_any p (xs ++ y ∷ []) ≡ true
any_stays p [] y h = absurd (false_is_true h)
any_stays p (x ∷ xs) y h = either_stays (p x) (list_any p xs) (list_any p (xs ++ y ∷ [])) (λ k. any_stays p xs y k) h

or_right : (b : Bool) → (b || true) ≡ true
or_right true = refl
or_right false = refl

pub any_last : {A : Type 0} (p : A → Bool) (xs : List A) (y : A) → p y ≡ true → list_any p (xs ++ y ∷ []) ≡ true
any_last p [] y is = ap (λ b. b || false) is
any_last p (x ∷ xs) y is = ap (λ b. p x || b) (any_last p xs y is) ∙ or_right (p x)

-- Of replies, where the last is to another job.
pub found_more : (rs : List JobReply) (a : JobReply) (n : ℕ) → (a.job == n) ≡ false → find (λ b. b.job == n) (rs ++ a ∷ []) ≡ find (λ b. b.job == n) rs
found_more [] a n other = ap (λ b. cond b (Some a) None) other
found_more (b ∷ rs) a n other = ap (λ o. cond (b.job == n) (Some b) o) (found_more rs a n other)

pub not_is : (b : Bool) → not b ≡ true → b ≡ false
not_is false h = refl
not_is true h = absurd (false_is_true h)

-- ---- of the calls of an entry: the session that it begins, by whether one of them is a first read

abbrev pub begun_by : Setting → Trace → ℕ → Entry → Bool → List Session
begun_by st past number e reads =
    elim reads as (λ x. List Session) [
      | false ↦ []
      | true ↦ elim (added_by st e.input) as (λ x. List Session) [ None ↦ [] | Some a ↦ joining_session number (next_job st past) a ∷ [] ]
    ]
