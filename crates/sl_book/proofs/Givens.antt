-- What a thread gave of a log.
use Rattle.sl_book.proofs.Fronts.{prefix_length, prefix_map}
use Rattle.sl_book.specs.Logs.{IsWithin, entries, given_by, is_by}
use Rattle.sl_book.specs.declared.signed.Signed.{Signed}
use Rattle.std.proofs.Common.{Bool, List, [], ap, arith, false, inl, inr, length, refl, sym, true, ℕ, ◌++◌, ◌==◌, ◌∙◌, ◌∷◌, ◌≡◌, ◌≤◌}
use Rattle.std.proofs.lemmas.Bool.Decides.{Decides-eqb}
use Rattle.std.proofs.lemmas.List.Elements.{filter-append}
use Rattle.std.proofs.lemmas.List.{length-map, map-append}
use mathlib.Core.List.{IsPrefix}
use mathlib.Core.Logic.{◌≢◌}

-- ---- a list within another

pub within_more : {A : Type 0} (xs ys zs : List A) → IsWithin xs ys → IsWithin xs (ys ++ zs)
within_more [] ys zs w = tt
within_more (x ∷ xs) [] zs w = absurd w
within_more (x ∷ xs) (y ∷ ys) zs (inl h) = inl (h.0, within_more xs ys zs h.1)
within_more (x ∷ xs) (y ∷ ys) zs (inr h) = inr (within_more (x ∷ xs) ys zs h)

pub within_last : {A : Type 0} (xs ys : List A) (e : A) → IsWithin xs ys → IsWithin (xs ++ e ∷ []) (ys ++ e ∷ [])
within_last [] [] e w = inl (refl, tt)
within_last [] (y ∷ ys) e w = inr (within_last [] ys e tt)
within_last (x ∷ xs) [] e w = absurd w
within_last (x ∷ xs) (y ∷ ys) e (inl h) = inl (h.0, within_last xs ys e h.1)
within_last (x ∷ xs) (y ∷ ys) e (inr h) = inr (within_last (x ∷ xs) ys e h)

pub within_length : {A : Type 0} (xs ys : List A) → IsWithin xs ys → length xs ≤ length ys
within_length [] ys w = omega arith
within_length (x ∷ xs) [] w = absurd w
within_length (x ∷ xs) (y ∷ ys) (inl h) = let r : length xs ≤ length ys = within_length xs ys h.1 in omega arith
within_length (x ∷ xs) (y ∷ ys) (inr h) = let r : length (x ∷ xs) ≤ length ys = within_length (x ∷ xs) ys h in omega arith

-- as long as the other, it is the other
pub within_whole : {A : Type 0} (xs ys : List A) → IsWithin xs ys → length ys ≤ length xs → xs ≡ ys
within_whole [] [] w le = refl
within_whole [] (y ∷ ys) w le = absurd (omega arith)
within_whole (x ∷ xs) [] w le = absurd w
within_whole (x ∷ xs) (y ∷ ys) (inl h) le = let r : xs ≡ ys = within_whole xs ys h.1 (omega arith) in cc (h.0, r)
within_whole (x ∷ xs) (y ∷ ys) (inr h) le = let r : length (x ∷ xs) ≤ length ys = within_length (x ∷ xs) ys h in absurd (omega arith)

-- ---- one entry more

pub entries_last : {E : Type 0} (h : List (Signed E)) (s : Signed E) → entries (h ++ s ∷ []) ≡ entries h ++ s.entry ∷ []
entries_last {E} h s = map-append (λ (x : Signed E). x.entry) h (s ∷ [])

pub entries_length : {E : Type 0} (h : List (Signed E)) → length (entries h) ≡ length h
entries_length {E} h = length-map h (λ (x : Signed E). x.entry)

-- ---- the elements of a number

pub given_last : {E : Type 0} (by : ℕ) (past : List (Signed E)) (s : Signed E) → s.by ≡ by → given_by by (past ++ s ∷ []) ≡ given_by by past ++ s ∷ []
given_last {E} by past s is =
    let test : is_by by s ≡ true = (Decides-eqb s.by by).1 is in
    let one : given_by by (s ∷ []) ≡ s ∷ [] = rw test in
    filter-append (is_by by) past (s ∷ []) ∙ ap (λ (l : List (Signed E)). given_by by past ++ l) one

pub given_prefix : {E : Type 0} (by : ℕ) (xs ys : List (Signed E)) → IsPrefix xs ys → IsPrefix (given_by by xs) (given_by by ys)
given_prefix {E} by xs ys p = (given_by by p.0, sym (filter-append (is_by by) xs p.0) ∙ ap (λ (l : List (Signed E)). given_by by l) p.1)

pub given_more : {E : Type 0} (by : ℕ) (xs ys : List (Signed E)) → IsPrefix xs ys → length (given_by by xs) ≤ length (given_by by ys)
given_more by xs ys p = prefix_length (given_by by xs) (given_by by ys) (given_prefix by xs ys p)

pub given_most : {E : Type 0} (by : ℕ) (xs : List (Signed E)) → length (given_by by xs) ≤ length xs
given_most by [] = omega arith
given_most by (x ∷ xs) = counted (given_most by xs) (is_by by x) refl
  where
    counted : length (given_by by xs) ≤ length xs → (b : Bool) → is_by by x ≡ b → length (given_by by (x ∷ xs)) ≤ length (x ∷ xs)
    counted rest true is = rw is (omega (arith, rest))
    counted rest false is = rw is (omega (arith, rest))

pub not_true : (a b : ℕ) → a ≢ b → (r : Bool) → (a == b) ≡ r → r ≡ false
not_true a b apart true is = absurd (apart ((Decides-eqb a b).0 is))
not_true a b apart false is = refl

-- one of another number adds nothing
pub given_other : {E : Type 0} (k : ℕ) (s : Signed E) (h : List (Signed E)) → s.by ≢ k → given_by k (s ∷ h) ≡ given_by k h
given_other k s h apart =
    let test : is_by k s ≡ false = not_true s.by k apart (is_by k s) refl in rw test

pub given_this : {E : Type 0} (k : ℕ) (s : Signed E) (h : List (Signed E)) → s.by ≡ k → given_by k (s ∷ h) ≡ s ∷ given_by k h
given_this k s h is =
    let test : is_by k s ≡ true = (Decides-eqb s.by k).1 is in rw test

-- ---- beginnings of what is made of a log

pub entries_prefix : {E : Type 0} (xs ys : List (Signed E)) → IsPrefix xs ys → IsPrefix (entries xs) (entries ys)
entries_prefix {E} xs ys p = prefix_map (λ (x : Signed E). x.entry) xs ys p
