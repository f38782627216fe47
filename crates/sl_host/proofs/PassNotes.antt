-- What is noted of a list, element by element.
use Rattle.sl_host_state.specs.KeptState.{MemberState}
use Rattle.sl_host_state.specs.declared.kept_parts.JobState.{JobState}
use Rattle.sl_host.specs.ChosenJobs.{chosen_among, is_chosen, noted_with}
use Rattle.sl_host.specs.declared.passes.Chosen.{Chosen}
use Rattle.sl_words.proofs.CaseLaws.{none_some, some_value}
use Rattle.std.proofs.Common.{add-one, ap, arith, refl, sym, ◌∙◌}
use Rattle.std.proofs.lemmas.List.{length-map, length-take}
use Rattle.std.specs.Prelude.{Bool, List, None, Option, Some, [], cond, false, filter, length, map, min, slice_get, suc, take, true, zero, ℕ, ◌+◌, ◌++◌, ◌∷◌, ◌≡◌, ◌≤◌}

next_front : {A : Type 0} (xs : List A) (k : ℕ) (x : A) → slice_get xs k ≡ Some x → take (suc k) xs ≡ take k xs ++ x ∷ []
next_front [] k x at = absurd (none_some x at)
next_front (y ∷ xs) zero x at = ap (λ z. z ∷ []) (some_value y x at)
next_front (y ∷ xs) (suc k) x at = ap (λ zs. y ∷ zs) (next_front xs k x at)

-- The front of a list with one more.
pub front_more : {A : Type 0} (xs : List A) (k : ℕ) (x : A) → slice_get xs k ≡ Some x → take (k + 1) xs ≡ take k xs ++ x ∷ []
front_more xs k x at = ap (λ n. take n xs) (add-one k) ∙ next_front xs k x at

pub front_all : {A : Type 0} (xs : List A) → take (length xs) xs ≡ xs
front_all [] = refl
front_all (x ∷ xs) = ap (λ zs. x ∷ zs) (front_all xs)

map_end : {A B : Type 0} (f : A → B) (xs : List A) (x : A) → map f (xs ++ x ∷ []) ≡ map f xs ++ f x ∷ []
map_end f [] x = refl
map_end f (y ∷ xs) x = ap (λ zs. f y ∷ zs) (map_end f xs x)

-- ---- members

pub mapped_more : (ms : List MemberState) (k : ℕ) (m : MemberState) → slice_get ms k ≡ Some m → map (λ m. m.who.number) (take k ms) ++ m.who.number ∷ [] ≡ map (λ m. m.who.number) (take (k + 1) ms)
mapped_more ms k m at = sym (ap (λ xs. map (λ m. m.who.number) xs) (front_more ms k m at) ∙ map_end (λ m. m.who.number) (take k ms) m)

pub mapped_all : (ms : List MemberState) → map (λ m. m.who.number) (take (length ms) ms) ≡ map (λ m. m.who.number) ms
mapped_all ms = ap (λ xs. map (λ m. m.who.number) xs) (front_all ms)

-- ---- jobs

filter_end : {A : Type 0} (p : A → Bool) (xs : List A) (x : A) → filter p (xs ++ x ∷ []) ≡ cond (p x) (filter p xs ++ x ∷ []) (filter p xs)
filter_end p [] x = refl
filter_end p (y ∷ xs) x = by (p y) (p x) (filter_end p xs x)
  where
    by : (b c : Bool) → filter p (xs ++ x ∷ []) ≡ cond c (filter p xs ++ x ∷ []) (filter p xs)
        → cond b (y ∷ filter p (xs ++ x ∷ [])) (filter p (xs ++ x ∷ [])) ≡ cond c (cond b (y ∷ filter p xs) (filter p xs) ++ x ∷ []) (cond b (y ∷ filter p xs) (filter p xs))
    by true true rest = ap (λ zs. y ∷ zs) rest
    by true false rest = ap (λ zs. y ∷ zs) rest
    by false c rest = rest

mapped_choice : (w : Chosen) (js : List JobState) (j : JobState) (b : Bool) → map (λ j. j.number) (cond b (filter (is_chosen w) js ++ j ∷ []) (filter (is_chosen w) js)) ≡ cond b (chosen_among w js ++ j.number ∷ []) (chosen_among w js)
mapped_choice w js j true = map_end (λ j. j.number) (filter (is_chosen w) js) j
mapped_choice w js j false = refl

chosen_more : (w : Chosen) (js : List JobState) (k : ℕ) (j : JobState) → slice_get js k ≡ Some j → cond (is_chosen w j) (chosen_among w (take k js) ++ j.number ∷ []) (chosen_among w (take k js)) ≡ chosen_among w (take (k + 1) js)
chosen_more w js k j at =
    sym (ap (λ xs. chosen_among w xs) (front_more js k j at) ∙ (ap (λ xs. map (λ j. j.number) xs) (filter_end (is_chosen w) (take k js) j) ∙ mapped_choice w (take k js) j (is_chosen w j)))

no_more : {A : Type 0} (xs : List A) (k : ℕ) → slice_get xs k ≡ None → take k xs ≡ take (suc k) xs
no_more [] zero at = refl
no_more [] (suc k) at = refl
no_more (y ∷ xs) zero at = absurd (none_some y (sym at))
no_more (y ∷ xs) (suc k) at = ap (λ zs. y ∷ zs) (no_more xs k at)

-- One place further.
pub noted_more : (w : Chosen) (js : List JobState) (k : ℕ) → noted_with w (slice_get js k) (chosen_among w (take k js)) ≡ chosen_among w (take (k + 1) js)
noted_more w js k = by (slice_get js k) refl where
  by : (o : Option JobState) → slice_get js k ≡ o → noted_with w o (chosen_among w (take k js)) ≡ chosen_among w (take (k + 1) js)
  by None is = ap (λ xs. chosen_among w xs) (no_more js k is) ∙ ap (λ n. chosen_among w (take n js)) (sym (add-one k))
  by (Some j) is = chosen_more w js k j is

pub noted_none : (w : Chosen) (o : Option JobState) (ns : List ℕ) → None ≡ o → ns ≡ noted_with w o ns
noted_none w o ns is = ap (λ p. noted_with w p ns) is

pub noted_some : (w : Chosen) (j : JobState) (o : Option JobState) (ns : List ℕ) → Some j ≡ o → cond (is_chosen w j) (ns ++ j.number ∷ []) ns ≡ noted_with w o ns
noted_some w j o ns is = ap (λ p. noted_with w p ns) is

few_kept : {A : Type 0} (p : A → Bool) (xs : List A) → length (filter p xs) ≤ length xs
few_kept p [] = grind arith
few_kept p (x ∷ xs) = by (p x) (few_kept p xs) where
  by : (b : Bool) → length (filter p xs) ≤ length xs → length (cond b (x ∷ filter p xs) (filter p xs)) ≤ length (x ∷ xs)
  by true le = grind arith
  by false le = grind arith

-- Of so many jobs no more numbers are noted.
pub chosen_few : (w : Chosen) (js : List JobState) (k : ℕ) → length (chosen_among w (take k js)) ≤ k
chosen_few w js k =
    let mapped : length (chosen_among w (take k js)) ≡ length (filter (is_chosen w) (take k js)) = length-map (filter (is_chosen w) (take k js)) (λ (j : JobState). j.number) in
    let fewer : length (filter (is_chosen w) (take k js)) ≤ length (take k js) = few_kept (is_chosen w) (take k js) in
    let front : length (take k js) ≡ min k (length js) = length-take k js in
    omega (arith, mapped, fewer, front)

pub chosen_all : (w : Chosen) (js : List JobState) → chosen_among w (take (length js) js) ≡ chosen_among w js
chosen_all w js = ap (λ xs. chosen_among w xs) (front_all js)
