-- The call that an open call of a host stands for: it is one of the trace's, has no answer, and no other call has its number.
use Rattle.sl_host_law.proofs.SharedFacts.PlainLists.{each_of, range_last}
use Rattle.sl_host_state.specs.KeptState.{HostState}
use Rattle.sl_host_state.specs.declared.kept_parts.OpenCall.{OpenCall}
use Rattle.sl_host_state.specs.HostStands.{Keeps, kept_call}
use Rattle.sl_words.proofs.Lists.{contains_cases, contains_none, find_fails, find_inside, in_map, kept_inside, head_is, tail_is}
use Rattle.sl_words.proofs.Numbers.{number_itself}
use Rattle.sl_words.proofs.Options.{none_is}
use Rattle.sl_trace.specs.Traces.{Setting, Submitted, Trace, outstanding, submitted}
use Rattle.sl_words.proofs.CaseLaws.{not_both, some_value}
use Rattle.std.proofs.Common.{ap, arith, inl, inr, refl, subst, suc, sym, ◌∙◌}
use Rattle.std.proofs.lemmas.List.Elements.{Contains-append_left, Contains-push}
use Rattle.std.proofs.lemmas.List.{reverse-append}
use Rattle.std.specs.List.{AllByRecursion, range_with_len}
use Rattle.std.specs.Prelude.{Bool, Contains, List, None, Option, Some, cond, false, find, is_none, length, map, reverse, true, [], ℕ, ◌++◌, ◌+◌, ◌<◌, ◌==◌, ◌∷◌, ◌≡◌, ◌≤◌, ◌⊎◌}

-- The call is this one, or has another number.
abbrev pub IsOr : ℕ → Submitted → Submitted → Type 0
IsOr n m d = ((d.call.number == n) ≡ false) ⊎ (d ≡ m)

-- The call that is kept so, among these.
pub record IsTheCall (ms : List Submitted) (c : OpenCall) (m : Submitted) : Type 0 where
  pub found : find (λ d. d.call.number == c.number) ms ≡ Some m
  pub unanswered : m.answer ≡ None
  pub kept : kept_call m ≡ c
  pub alone : AllByRecursion (IsOr c.number m) ms

-- ---- numbers in order

range_turned : (a n : ℕ) → reverse (range_with_len a (suc n)) ≡ (a + n) ∷ reverse (range_with_len a n)
range_turned a n = ap reverse (range_last a n) ∙ reverse-append (range_with_len a n) ((a + n) ∷ [])

below : (a b : ℕ) (ms : List Submitted) → a + length ms ≤ b → map (λ d. d.call.number) ms ≡ reverse (range_with_len a (length ms)) → AllByRecursion (λ d. d.call.number < b) ms
below a b [] le is = tt
below a b (d ∷ ms) le is =
    let both = is ∙ range_turned a (length ms) in
    let first : d.call.number ≡ a + length ms = head_is d.call.number (a + length ms) (map (λ d. d.call.number) ms) (reverse (range_with_len a (length ms))) both in
    (omega (arith, first, le), below a b ms (omega (arith, le)) (tail_is d.call.number (a + length ms) (map (λ d. d.call.number) ms) (reverse (range_with_len a (length ms))) both))

all_other : (n k : ℕ) (m : Submitted) (ms : List Submitted) → (k == n) ≡ true → AllByRecursion (λ d. d.call.number < k) ms → AllByRecursion (IsOr n m) ms
all_other n k m [] is all = tt
all_other n k m (d ∷ ms) is all = (inl (other d.call.number k n all.0 is), all_other n k m ms is all.1) where
  other : (x y n : ℕ) → x < y → (y == n) ≡ true → (x == n) ≡ false
  other x y n lt is = grind arith

-- The call found by a number is the only one of it.
alone_in : (a n : ℕ) (m : Submitted) (ms : List Submitted) → map (λ d. d.call.number) ms ≡ reverse (range_with_len a (length ms)) → find (λ d. d.call.number == n) ms ≡ Some m
    → AllByRecursion (IsOr n m) ms
alone_in a n m [] is found = tt
alone_in a n m (d ∷ ms) is found = by (d.call.number == n) refl found (λ f. alone_in a n m ms rest f) where
  both : d.call.number ∷ map (λ d. d.call.number) ms ≡ (a + length ms) ∷ reverse (range_with_len a (length ms))
  both = is ∙ range_turned a (length ms)

  first : d.call.number ≡ a + length ms
  first = head_is d.call.number (a + length ms) (map (λ d. d.call.number) ms) (reverse (range_with_len a (length ms))) both

  rest : map (λ d. d.call.number) ms ≡ reverse (range_with_len a (length ms))
  rest = tail_is d.call.number (a + length ms) (map (λ d. d.call.number) ms) (reverse (range_with_len a (length ms))) both

  by : (b : Bool) → (d.call.number == n) ≡ b → cond b (Some d) (find (λ d. d.call.number == n) ms) ≡ Some m
      → (find (λ d. d.call.number == n) ms ≡ Some m → AllByRecursion (IsOr n m) ms) → AllByRecursion (IsOr n m) (d ∷ ms)
  by true its f deeper = (inr (some_value d m f), all_other n d.call.number m ms its (below a d.call.number ms (let e : d.call.number ≡ a + length ms = first in omega (arith, e)) rest))
  by false its f deeper = (inl its, deeper f)

-- ---- of a host

pub in_reversed : {A : Type 0} (xs : List A) (d : A) → Contains xs d → Contains (reverse xs) d
in_reversed [] d there = absurd (contains_none d there)
in_reversed (x ∷ xs) d there = subst (λ ys. Contains ys d) (sym (reverse-append (x ∷ []) xs)) (by (contains_cases x xs d there) (λ h. in_reversed xs d h)) where
  by : (x ≡ d) ⊎ Contains xs d → (Contains xs d → Contains (reverse xs) d) → Contains (reverse xs ++ x ∷ []) d
  by (inl is) deeper = subst (λ z. Contains (reverse xs ++ x ∷ []) z) is (Contains-push (reverse xs) x)
  by (inr rest) deeper = Contains-append_left (reverse xs) (x ∷ []) d (deeper rest)

found_one : (ms : List Submitted) (a n : ℕ) (m : Submitted) → map (λ d. d.call.number) ms ≡ reverse (range_with_len a (length ms)) → Contains ms m → (m.call.number == n) ≡ true
    → find (λ d. d.call.number == n) ms ≡ Some m
found_one ms a n m is inside its = by (find (λ d. d.call.number == n) ms) refl where
  by : (o : Option Submitted) → find (λ d. d.call.number == n) ms ≡ o → o ≡ Some m
  by None none = absurd (not_both (m.call.number == n) its (find_fails (λ (d : Submitted). d.call.number == n) ms m none inside))
  by (Some d) found = ap (λ z. Some z) (same (each_of (IsOr n d) ms m (alone_in a n d ms is found) inside)) where
    same : IsOr n d m → d ≡ m
    same (inl other) = absurd (not_both (m.call.number == n) its other)
    same (inr is) = sym is

-- An open call of a host is a call of the trace.
pub the_call : (h : HostState) (st : Setting) (es : Trace) (n : ℕ) (c : OpenCall) → Keeps h st es → find (λ c. c.number == n) h.unanswered ≡ Some c
    → (m : Submitted) × IsTheCall (submitted es) c m
the_call h st es n c k found =
    let inside = find_inside (λ (c : OpenCall). c.number == n) h.unanswered c found in
    let kept = in_map kept_call (outstanding es) c (subst (λ cs. Contains cs c) (sym k.unanswered) (in_reversed h.unanswered c inside.0)) in
    let open_one = kept_inside (λ (d : Submitted). is_none d.answer) (submitted es) kept.0 kept.1 in
    let its = subst (λ (z : OpenCall). (kept.0.call.number == z.number) ≡ true) kept.2 (number_itself kept.0.call.number) in
    let one = found_one (submitted es) st.first.call c.number kept.0 k.numbered open_one.0 its in
    (kept.0, record { found = one; unanswered = none_is kept.0.answer open_one.1; kept = kept.2; alone = alone_in st.first.call c.number kept.0 (submitted es) k.numbered one })
