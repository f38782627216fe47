-- What an exit or the answer of a start changes of the children: one of its number, whose number and job stay; a child that is not kept
-- is not kept after it.
use Rattle.sl_host_law.proofs.SharedFacts.PlainLists.{kept_if}
use Rattle.sl_host_state.specs.HostStands.{is_there}
use Rattle.sl_words.proofs.Lists.{any_found, any_of, contains_cases, contains_first, contains_map, contains_more, contains_none, head_is, in_map, tail_is}
use Rattle.sl_trace.specs.Traces.{Child, child_after, new_child}
use Rattle.sl_trace.specs.declared.effects.Start.{Start}
use Rattle.sl_trace.specs.declared.input.Input.TheVariants.{Exit, Spawned}
use Rattle.sl_words.proofs.CaseLaws.{is_false, true_is_false}
use Rattle.sl_words.specs.Words.{some_is}
use Rattle.std.proofs.Common.{ap, arith, inl, inr, refl, subst, suc, sym, zero, ◌∙◌}
use Rattle.std.proofs.lemmas.Bool.Decides.{Decides-eqb}
use Rattle.std.proofs.lemmas.List.{map-append}
use Rattle.std.specs.List.{cons_option, list_any, range_with_len}
use Rattle.std.specs.Option.{option_or}
use Rattle.std.specs.Prelude.{Bool, Contains, List, None, Option, Some, cond, false, filter, filter_map, find, is_none, length, map, not, option_map, true, [], ℕ, ◌&&◌, ◌++◌, ◌+◌, ◌<◌, ◌==◌, ◌||◌, ◌∷◌, ◌≡◌, ◌≤◌, ◌⊎◌}

-- What changes a child of this number, and no other.
pub record ActsOn (p : ℕ) (a : Child → Child) : Type 0 where
  pub process : (k : Child) → (a k).process ≡ k.process
  pub job : (k : Child) → (a k).job ≡ k.job
  pub other : (k : Child) → (p == k.process) ≡ false → a k ≡ k
  pub gone : (k : Child) → is_there k ≡ false → is_there (a k) ≡ false

pub exit_acts : (p : ℕ) → ActsOn p (child_after (Exit p))
exit_acts p =
    record {
      process = λ k. same_process k (p == k.process);
      job = λ k. same_job k (p == k.process);
      other = λ k is. ap (λ b. elim b as (λ z. Child) [ false ↦ k | true ↦ record k { exited = true } ]) is;
      gone = λ k is. left k is (p == k.process);
    } where
      same_process : (k : Child) (b : Bool) → (elim b as (λ z. Child) [ false ↦ k | true ↦ record k { exited = true } ]).process ≡ k.process
      same_process k true = refl
      same_process k false = refl

      same_job : (k : Child) (b : Bool) → (elim b as (λ z. Child) [ false ↦ k | true ↦ record k { exited = true } ]).job ≡ k.job
      same_job k true = refl
      same_job k false = refl

      exited : (n b e : Bool) → (n || b && not e) ≡ false → (n || b && false) ≡ false
      exited true b e is = is
      exited false true e is = refl
      exited false false e is = refl

      left : (k : Child) → is_there k ≡ false → (b : Bool) → is_there (elim b as (λ z. Child) [ false ↦ k | true ↦ record k { exited = true } ]) ≡ false
      left k is true = exited (is_none k.answer) (some_is (λ ok. ok) k.answer) k.exited is
      left k is false = is

pub start_acts : (p : ℕ) (ok : Bool) → ActsOn p (child_after (Spawned p ok))
start_acts p ok =
    record {
      process = λ k. same_process k (p == k.process);
      job = λ k. same_job k (p == k.process);
      other = λ k is. ap (λ b. elim b as (λ z. Child) [ false ↦ k | true ↦ record k { answer = option_or k.answer (Some ok) } ]) is;
      gone = λ k is. left k is (p == k.process);
    } where
      same_process : (k : Child) (b : Bool) → (elim b as (λ z. Child) [ false ↦ k | true ↦ record k { answer = option_or k.answer (Some ok) } ]).process ≡ k.process
      same_process k true = refl
      same_process k false = refl

      same_job : (k : Child) (b : Bool) → (elim b as (λ z. Child) [ false ↦ k | true ↦ record k { answer = option_or k.answer (Some ok) } ]).job ≡ k.job
      same_job k true = refl
      same_job k false = refl

      answered : (o : Option Bool) (e : Bool) → (is_none o || some_is (λ z. z) o && not e) ≡ false
          → (is_none (option_or o (Some ok)) || some_is (λ z. z) (option_or o (Some ok)) && not e) ≡ false
      answered None e is = absurd (true_is_false is)
      answered (Some z) e is = is

      left : (k : Child) → is_there k ≡ false → (b : Bool) → is_there (elim b as (λ z. Child) [ false ↦ k | true ↦ record k { answer = option_or k.answer (Some ok) } ]) ≡ false
      left k is true = answered k.answer k.exited is
      left k is false = is

-- ---- numbers in a row, in two parts

in_range : (a n y : ℕ) → Contains (range_with_len a n) y → a ≤ y
in_range a zero y there = absurd (contains_none y there)
in_range a (suc n) y there = by (λ rest. in_range (a + 1) n y rest) (contains_cases a (range_with_len (a + 1) n) y there) where
  by : (Contains (range_with_len (a + 1) n) y → a + 1 ≤ y) → (a ≡ y) ⊎ Contains (range_with_len (a + 1) n) y → a ≤ y
  by deeper (inl is) = omega (arith, is)
  by deeper (inr rest) = let r = deeper rest in omega (arith, r)

-- A number of the first part is not one of the second.
apart : (xs ys : List ℕ) (a n p : ℕ) → xs ++ ys ≡ range_with_len a n → Contains xs p → Contains ys p → ⊥
apart xs ys a n p row first second =
    let low : p < a + length xs = below xs ys a n p row first in
    let high : a + length xs ≤ p = reached xs ys a n p row second in
    absurd (omega (arith, low, high)) where
      head_of : (x : ℕ) (zs ws : List ℕ) (n : ℕ) (a : ℕ) → x ∷ zs ≡ range_with_len a n → (m : ℕ) × (x ≡ a) × (zs ≡ range_with_len (a + 1) m)
      head_of x zs ws zero a row = absurd (true_is_false (sym (ap (λ (ls : List ℕ). elim ls [ [] ↦ true | l ∷ ms ↦ false ]) row)))
      head_of x zs ws (suc m) a row = (m, head_is x a zs (range_with_len (a + 1) m) row, tail_is x a zs (range_with_len (a + 1) m) row)

      below : (xs ys : List ℕ) (a n p : ℕ) → xs ++ ys ≡ range_with_len a n → Contains xs p → p < a + length xs
      below [] ys a n p row there = absurd (contains_none p there)
      below (x ∷ xs) ys a n p row there = by (head_of x (xs ++ ys) ys n a row) (contains_cases x xs p there) (λ m rest in_it. below xs ys (a + 1) m p rest in_it) where
        by : (m : ℕ) × (x ≡ a) × (xs ++ ys ≡ range_with_len (a + 1) m) → (x ≡ p) ⊎ Contains xs p → ((m : ℕ) → xs ++ ys ≡ range_with_len (a + 1) m → Contains xs p → p < a + 1 + length xs) → p < a + suc (length xs)
        by h (inl is) deeper = (let e : x ≡ a = h.1 in omega (arith, e, is))
        by h (inr rest) deeper = (let r = deeper h.0 h.2 rest in omega (arith, r))

      reached : (xs ys : List ℕ) (a n p : ℕ) → xs ++ ys ≡ range_with_len a n → Contains ys p → a + length xs ≤ p
      reached [] ys a n p row there = let r = in_range a n p (subst (λ zs. Contains zs p) row there) in omega (arith, r)
      reached (x ∷ xs) ys a n p row there = by (head_of x (xs ++ ys) ys n a row) (λ m rest. reached xs ys (a + 1) m p rest there) where
        by : (m : ℕ) × (x ≡ a) × (xs ++ ys ≡ range_with_len (a + 1) m) → ((m : ℕ) → xs ++ ys ≡ range_with_len (a + 1) m → a + 1 + length xs ≤ p) → a + suc (length xs) ≤ p
        by h deeper = let r = deeper h.0 h.2 in omega (arith, r)

-- ---- the children

module _ (p : ℕ) (a : Child → Child) (acts : ActsOn p a) where
  pub processes_stay : (ks ns : List Child) → map (λ k. k.process) (map a ks ++ ns) ≡ map (λ k. k.process) (map (λ k. k) ks ++ ns)
  processes_stay [] ns = refl
  processes_stay (k ∷ ks) ns = ap (λ n. n ∷ map (λ (z : Child). z.process) (map a ks ++ ns)) (acts.process k) ∙ ap (λ zs. k.process ∷ zs) (processes_stay ks ns)

  pub jobs_stay : (ks ns : List Child) → filter_map (λ k. k.job) (map a ks ++ ns) ≡ filter_map (λ k. k.job) (map (λ k. k) ks ++ ns)
  jobs_stay [] ns = refl
  jobs_stay (k ∷ ks) ns = ap (λ o. cons_option o (filter_map (λ (z : Child). z.job) (map a ks ++ ns))) (acts.job k) ∙ ap (cons_option k.job) (jobs_stay ks ns)

  -- Each job's child has the number that it had.
  pub child_stays : (n : ℕ) (ks ns : List Child)
      → option_map (λ k. k.process) (find (λ k. some_is (λ j. j == n) k.job) (map a ks ++ ns)) ≡ option_map (λ k. k.process) (find (λ k. some_is (λ j. j == n) k.job) (map (λ k. k) ks ++ ns))
  child_stays n [] ns = refl
  child_stays n (k ∷ ks) ns = ap (λ o. option_map (λ (z : Child). z.process) (cond (some_is (λ j. j == n) o) (Some (a k)) (find (λ (z : Child). some_is (λ j. j == n) z.job) (map a ks ++ ns)))) (acts.job k)
      ∙ by (some_is (λ j. j == n) k.job) (child_stays n ks ns) where
        by : (b : Bool)
            → option_map (λ z. z.process) (find (λ z. some_is (λ j. j == n) z.job) (map a ks ++ ns)) ≡ option_map (λ z. z.process) (find (λ z. some_is (λ j. j == n) z.job) (map (λ z. z) ks ++ ns))
            → option_map (λ z. z.process) (cond b (Some (a k)) (find (λ z. some_is (λ j. j == n) z.job) (map a ks ++ ns)))
            ≡ option_map (λ z. z.process) (cond b (Some k) (find (λ z. some_is (λ j. j == n) z.job) (map (λ z. z) ks ++ ns)))
        by true rest = ap (λ m. Some m) (acts.process k)
        by false rest = rest

  -- ---- which are kept

  untouched : (ks : List Child) → ((k : Child) → Contains ks k → (p == k.process) ≡ false) → map a ks ≡ map (λ k. k) ks
  untouched [] other = refl
  untouched (k ∷ ks) other = ap (λ z. z ∷ map a ks) (acts.other k (other k (contains_first k ks))) ∙ ap (λ zs. k ∷ zs) (untouched ks (λ z there. other z (contains_more k ks z there)))

  themselves : (ks : List Child) → map (λ k. k) ks ≡ ks
  themselves [] = refl
  themselves (k ∷ ks) = ap (λ zs. k ∷ zs) (themselves ks)

  kept_again : (ks : List Child) → filter is_there (map a (filter is_there ks)) ≡ filter is_there (map a ks)
  kept_again [] = refl
  kept_again (k ∷ ks) = by (is_there k) refl (kept_again ks) where
    by : (b : Bool) → is_there k ≡ b → filter is_there (map a (filter is_there ks)) ≡ filter is_there (map a ks)
        → filter is_there (map a (cond b (k ∷ filter is_there ks) (filter is_there ks))) ≡ filter is_there (a k ∷ map a ks)
    by true is rest = ap (λ zs. cond (is_there (a k)) (a k ∷ zs) zs) rest
    by false is rest = rest ∙ sym (kept_if is_there (a k) (map a ks) false (acts.gone k is))

  started_other : (ss : List Start) → list_any (λ s. s.process == p) ss ≡ false → (k : Child) → Contains (map new_child ss) k → (p == k.process) ≡ false
  started_other ss none k there =
      is_false (p == k.process) (λ same.
      (let z = in_map new_child ss k there in
      true_is_false (sym (any_of (λ (s : Start). s.process == p) ss z.0
      ((Decides-eqb z.0.process p).1 (ap (λ (c : Child). c.process) z.2 ∙ sym ((Decides-eqb p k.process).0 same))) z.1) ∙ none)))

  -- The children kept: where this step started one of this number no older one has it.
  pub children_kept : (ks : List Child) (ss : List Start) (old : List Child) (first n : ℕ) → map (λ k. k.process) (map (λ k. k) ks ++ map new_child ss) ≡ range_with_len first n
      → filter is_there (map (λ k. k) ks ++ map new_child ss) ≡ old
      → filter is_there (map a ks ++ map new_child ss) ≡ cond (list_any (λ s. s.process == p) ss) old (filter is_there (map a old))
  children_kept ks ss old first n row is = by (list_any (λ s. s.process == p) ss) refl where
    row_in_two : map (λ (k : Child). k.process) (map (λ (k : Child). k) ks) ++ map (λ (k : Child). k.process) (map new_child ss) ≡ range_with_len first n
    row_in_two = sym (map-append (λ (k : Child). k.process) (map (λ (k : Child). k) ks) (map new_child ss)) ∙ row

    older : list_any (λ s. s.process == p) ss ≡ true → (k : Child) → Contains ks k → (p == k.process) ≡ false
    older some k there =
        is_false (p == k.process) (λ same.
        (let f = any_found (λ (s : Start). s.process == p) ss some in
        apart (map (λ (z : Child). z.process) (map (λ (z : Child). z) ks)) (map (λ (z : Child). z.process) (map new_child ss)) first n p row_in_two
        (subst (λ q. Contains (map (λ (z : Child). z.process) (map (λ (z : Child). z) ks)) q) (sym ((Decides-eqb p k.process).0 same))
        (contains_map (λ (z : Child). z.process) (map (λ (z : Child). z) ks) k (subst (λ zs. Contains zs k) (sym (themselves ks)) there)))
        (subst (λ q. Contains (map (λ (z : Child). z.process) (map new_child ss)) q) ((Decides-eqb f.0.process p).0 f.2)
        (contains_map (λ (z : Child). z.process) (map new_child ss) (new_child f.0) (contains_map new_child ss f.0 f.1)))))

    by : (b : Bool) → list_any (λ s. s.process == p) ss ≡ b → filter is_there (map a ks ++ map new_child ss) ≡ cond b old (filter is_there (map a old))
    by true some = ap (λ zs. filter is_there (zs ++ map new_child ss)) (untouched ks (older some)) ∙ is
    by false none =
        ap (λ zs. filter is_there (map a ks ++ zs)) (sym (untouched (map new_child ss) (started_other ss none) ∙ themselves (map new_child ss)))
        ∙ ap (filter is_there) (sym (map-append a ks (map new_child ss)))
        ∙ sym (kept_again (ks ++ map new_child ss))
        ∙ ap (λ zs. filter is_there (map a (filter is_there (zs ++ map new_child ss)))) (sym (themselves ks))
        ∙ ap (λ zs. filter is_there (map a zs)) is
