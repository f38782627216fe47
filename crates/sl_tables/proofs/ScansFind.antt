-- A scan of slots from the front finds what a search of what stands in them finds.
use Rattle.sl_words.proofs.Lists.{there_is}
use Rattle.sl_tables.specs.Rising.{found_in, items_of}
use Rattle.sl_words.specs.Words.{choose, some_is}
use Rattle.sl_words.proofs.CaseLaws.{none_some, some_value}
use Rattle.std.proofs.Common.{ap, arith, refl, subst, sym, ◌∙◌}
use Rattle.std.specs.List.{list_any}
use Rattle.std.specs.Map.{values_of}
use Rattle.std.specs.Prelude.{Bool, List, None, Option, Some, [], cond, false, find, length, option_map, slice_get, suc, take, true, zero, ℕ, ◌+◌, ◌<◌, ◌∷◌, ◌||◌, ◌≡◌, ◌≤◌}

pub next_is : (i : ℕ) → suc i ≡ i + 1
next_is i = omega arith

pub take_all : {A : Type 0} (xs : List A) (i : ℕ) → length xs ≤ i → take i xs ≡ xs
take_all [] zero le = refl
take_all [] (suc i) le = refl
take_all (x ∷ xs) zero le = absurd (omega (arith, le))
take_all (x ∷ xs) (suc i) le = ap (λ zs. x ∷ zs) (take_all xs i (omega (arith, le)))

module _ {T : Type 0} (p : ℕ × T → Bool) where
  miss_by : (q : ℕ × T) (rest : List (ℕ × T)) (b : Bool) → p q ≡ b → find p (q ∷ rest) ≡ None → (p q ≡ false) × (find p rest ≡ None)
  miss_by q rest true is none = absurd (none_some q (sym (sym (ap (λ c. cond c (Some q) (find p rest)) is) ∙ none)))
  miss_by q rest false is none = (is, sym (ap (λ c. cond c (Some q) (find p rest)) is) ∙ none)

  missed : (q : ℕ × T) (rest : List (ℕ × T)) → find p (q ∷ rest) ≡ None → (p q ≡ false) × (find p rest ≡ None)
  missed q rest none = miss_by q rest (p q) refl none

  past : (q : ℕ × T) (rest : List (ℕ × T)) (r : Option (ℕ × T)) → p q ≡ false → find p rest ≡ r → find p (q ∷ rest) ≡ r
  past q rest r is at = ap (λ c. cond c (Some q) (find p rest)) is ∙ at

  on_first : (k : ℕ) (o : Option T) → ((x : T) → o ≡ Some x → p (k, x) ≡ false) → find p (items_of ((k, o) ∷ [])) ≡ None
  on_first k None miss = refl
  on_first k (Some x) miss = past (k, x) [] None (miss x refl) refl

  more_by : (es : List (ℕ × Option T)) (i k : ℕ) (o : Option T) → slice_get es i ≡ Some (k, o) → ((x : T) → o ≡ Some x → p (k, x) ≡ false) → find p (items_of (take i es)) ≡ None
      → find p (items_of (take (suc i) es)) ≡ None
  more_by [] i k o at miss none = absurd (none_some (k, o) at)
  more_by (e ∷ es) zero k o at miss none = subst (λ q. find p (items_of (q ∷ [])) ≡ None) (sym (some_value e (k, o) at)) (on_first k o miss)
  more_by ((n, None) ∷ es) (suc i) k o at miss none = more_by es i k o at miss none
  more_by ((n, Some y) ∷ es) (suc i) k o at miss none =
      let parts = missed (n, y) (items_of (take i es)) none in past (n, y) (items_of (take (suc i) es)) None parts.0 (more_by es i k o at miss parts.1)

  -- One slot more, in which nothing is found.
  pub scan_more : (es : List (ℕ × Option T)) (i k : ℕ) (o : Option T) → slice_get es i ≡ Some (k, o) → ((x : T) → o ≡ Some x → p (k, x) ≡ false)
      → find p (items_of (take i es)) ≡ None → find p (items_of (take (i + 1) es)) ≡ None
  scan_more es i k o at miss none = subst (λ n. find p (items_of (take n es)) ≡ None) (next_is i) (more_by es i k o at miss none)

  pub scan_hit : (es : List (ℕ × Option T)) (i k : ℕ) (x : T) → slice_get es i ≡ Some (k, Some x) → p (k, x) ≡ true → find p (items_of (take i es)) ≡ None
      → find p (items_of es) ≡ Some (k, x)
  scan_hit [] i k x at hit none = absurd (none_some (k, Some x) at)
  scan_hit (e ∷ es) zero k x at hit none =
      subst (λ q. find p (items_of (q ∷ es)) ≡ Some (k, x)) (sym (some_value e (k, Some x) at)) (ap (λ c. cond c (Some (k, x)) (find p (items_of es))) hit)
  scan_hit ((n, None) ∷ es) (suc i) k x at hit none = scan_hit es i k x at hit none
  scan_hit ((n, Some y) ∷ es) (suc i) k x at hit none =
      let parts = missed (n, y) (items_of (take i es)) none in past (n, y) (items_of es) (Some (k, x)) parts.0 (scan_hit es i k x at hit parts.1)

  pub scan_all : (es : List (ℕ × Option T)) (i : ℕ) → length es ≤ i → find p (items_of (take i es)) ≡ None → find p (items_of es) ≡ None
  scan_all es i le none = subst (λ zs. find p (items_of zs) ≡ None) (take_all es i le) none

  choose_none : (b : Bool) (n : ℕ) → choose b n ≡ None → b ≡ false
  choose_none true n h = absurd (none_some n (sym h))
  choose_none false n h = refl

  none_by : (es : List (ℕ × Option T)) (i : ℕ) (s : ℕ × Option T) → slice_get es i ≡ Some s → found_in p (Some s) ≡ None → find p (items_of (take i es)) ≡ None
      → find p (items_of (take (i + 1) es)) ≡ None
  none_by es i (k, None) at miss none = scan_more es i k None at (λ x is. absurd (none_some x is)) none
  none_by es i (k, Some x) at miss none =
      scan_more es i k (Some x) at (λ y is. subst (λ z. p (k, z) ≡ false) (some_value x y is) (choose_none (p (k, x)) k miss)) none

  pub scan_none : (es : List (ℕ × Option T)) (i : ℕ) → i < length es → found_in p (slice_get es i) ≡ None → find p (items_of (take i es)) ≡ None
      → find p (items_of (take (i + 1) es)) ≡ None
  scan_none es i lt miss none = let it = there_is es i lt in none_by es i it.0 it.1 (sym (ap (found_in p) it.1) ∙ miss) none

  choose_some : (b : Bool) (n m : ℕ) → choose b n ≡ Some m → (b ≡ true) × (n ≡ m)
  choose_some true n m h = (refl, some_value n m h)
  choose_some false n m h = absurd (none_some m h)

  some_by : (es : List (ℕ × Option T)) (i n : ℕ) (o : Option (ℕ × Option T)) → slice_get es i ≡ o → found_in p o ≡ Some n → find p (items_of (take i es)) ≡ None
      → option_map (λ q. q.0) (find p (items_of es)) ≡ Some n
  some_by es i n None at hit none = absurd (none_some n hit)
  some_by es i n (Some (k, None)) at hit none = absurd (none_some n hit)
  some_by es i n (Some (k, Some x)) at hit none =
      let h = choose_some (p (k, x)) k n hit in ap (λ r. option_map (λ q. q.0) r) (scan_hit es i k x at h.0 none) ∙ ap (λ m. Some m) h.1

  pub scan_some : (es : List (ℕ × Option T)) (i n : ℕ) → found_in p (slice_get es i) ≡ Some n → find p (items_of (take i es)) ≡ None
      → option_map (λ q. q.0) (find p (items_of es)) ≡ Some n
  scan_some es i n hit none = some_by es i n (slice_get es i) refl hit none

-- Any that stands passes where any slot has one that does.
pub any_standing : {T : Type 0} (p : T → Bool) (es : List (ℕ × Option T)) → list_any (λ s. some_is p s.1) es ≡ list_any p (values_of (items_of es))
any_standing p [] = refl
any_standing p ((k, None) ∷ es) = any_standing p es
any_standing p ((k, Some x) ∷ es) = ap (λ b. p x || b) (any_standing p es)
