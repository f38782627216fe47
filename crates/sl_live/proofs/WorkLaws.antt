-- Calls that are answered one after another, as more of the history is seen.
use Rattle.sl_book.proofs.Fronts.{prefix_trans}
use Rattle.sl_cell.specs.Histories.{Signed}
use Rattle.sl_live.specs.Turns.{AreServed, IsAnswerOf, IsPassed}
use Rattle.sl_trace.specs.Traces.{Setting}
use Rattle.sl_trace.specs.declared.effects.Call.{Call}
use Rattle.sl_trace.specs.declared.effects.Entry.{Entry}
use Rattle.std.proofs.Common.{List, Some, [], ap, arith, inl, inr, length, refl, slice_get, subst, suc, take, zero, ℕ, ◌++◌, ◌+◌, ◌<◌, ◌∷◌, ◌≡◌, ◌≤◌}
use mathlib.Core.List.{IsPrefix}

-- ---- the first of a list that a longer one begins with

-- the first so many are the same
pub take_same : {A : Type 0} (k : ℕ) (xs ys : List A) → k ≤ length xs → IsPrefix xs ys → take k ys ≡ take k xs
take_same zero xs ys le p = refl
take_same (suc k) [] ys le p = absurd (omega (arith, le))
take_same (suc k) (x ∷ xs) [] le p = absurd (cc p.1)
take_same (suc k) (x ∷ xs) (y ∷ ys) le p =
    let rest : take k ys ≡ take k xs = take_same k xs ys (omega (arith, le)) (p.0, cc p.1) in
    let heads : x ≡ y = cc p.1 in cc (rest, heads)

-- .. and one more
pub take_next : {A : Type 0} (k : ℕ) (c : A) (xs : List A) → slice_get xs k ≡ Some c → take (k + 1) xs ≡ take k xs ++ c ∷ []
take_next k c [] at = absurd cc
take_next zero c (x ∷ xs) at = let same : x ≡ c = cc at in ap (λ y. y ∷ []) same
take_next (suc k) c (x ∷ xs) at =
    let n : suc (k + 1) ≡ suc k + 1 = omega arith in
    subst (λ m. take m (x ∷ xs) ≡ x ∷ (take k xs ++ c ∷ [])) n (ap (λ l. x ∷ l) (take_next k c xs at))

pub next_within : {A : Type 0} (k : ℕ) (c : A) (xs : List A) → slice_get xs k ≡ Some c → k < length xs
next_within k c [] at = absurd cc
next_within zero c (x ∷ xs) at = omega arith
next_within (suc k) c (x ∷ xs) at = let rest = next_within k c xs at in omega (arith, rest)

-- ---- calls and their answers

passed_more : (st : Setting) (h h' : List Signed) (c : Call) → IsPrefix h h' → IsPassed st h c → IsPassed st h' c
passed_more st h h' c p so = record { answer = so.answer; past = so.past; before = prefix_trans so.past h h' so.before p; unasked = so.unasked }

-- more of the history was seen
pub served_more : (st : Setting) (h h' : List Signed) (cs : List Call) (es : List Entry) → IsPrefix h h' → AreServed st h cs es → AreServed st h' cs es
served_more st h h' [] [] p so = tt
served_more st h h' [] (e ∷ es) p so = absurd so
served_more st h h' (c ∷ cs) [] p so = (passed_more st h h' c p so.0, served_more st h h' cs [] p so.1)
served_more st h h' (c ∷ cs) (e ∷ es) p (inl so) = inl (so.0, served_more st h h' cs es p so.1)
served_more st h h' (c ∷ cs) (e ∷ es) p (inr so) = inr (passed_more st h h' c p so.0, served_more st h h' cs (e ∷ es) p so.1)

-- one more call is answered
pub served_answer : (st : Setting) (h : List Signed) (cs : List Call) (es : List Entry) (c : Call) (e : Entry) → IsAnswerOf c e.input → AreServed st h cs es
    → AreServed st h (cs ++ c ∷ []) (es ++ e ∷ [])
served_answer st h [] [] c e is so = inl (is, tt)
served_answer st h [] (x ∷ es) c e is so = absurd so
served_answer st h (b ∷ cs) [] c e is so = inr (so.0, served_answer st h cs [] c e is so.1)
served_answer st h (b ∷ cs) (x ∷ es) c e is (inl so) = inl (so.0, served_answer st h cs es c e is so.1)
served_answer st h (b ∷ cs) (x ∷ es) c e is (inr so) = inr (so.0, served_answer st h cs (x ∷ es) c e is so.1)

-- .. or its answer answers nothing that is open
pub served_pass : (st : Setting) (h : List Signed) (cs : List Call) (es : List Entry) (c : Call) → IsPassed st h c → AreServed st h cs es → AreServed st h (cs ++ c ∷ []) es
served_pass st h [] [] c is so = (is, tt)
served_pass st h [] (x ∷ es) c is so = absurd so
served_pass st h (b ∷ cs) [] c is so = (so.0, served_pass st h cs [] c is so.1)
served_pass st h (b ∷ cs) (x ∷ es) c is (inl so) = inl (so.0, served_pass st h cs es c is so.1)
served_pass st h (b ∷ cs) (x ∷ es) c is (inr so) = inr (so.0, served_pass st h cs (x ∷ es) c is so.1)
