-- Lists of children: one is taken out, one is changed in its place.
use Rattle.sl_outside.specs.Acts.{IsLess}
use Rattle.sl_outside.specs.declared.mem_children.MemChild.{MemChild}
use Rattle.sl_words.proofs.CaseLaws.{some_value}
use Rattle.std.proofs.Common.{ap, slice_index_or, slice_set, subst, sym, ◌∙◌}
use Rattle.std.proofs.Math.Seq.{map-set_same}
use Rattle.std.proofs.lemmas.List.{map-append}
use Rattle.std.proofs.lemmas.Option.{slice_get-get_or}
use Rattle.std.specs.List.{remove}
use Rattle.std.specs.Prelude.{List, Some, [], drop, length, map, slice_get, suc, take, zero, ℕ, ◌++◌, ◌<◌, ◌∷◌, ◌≡◌}

-- A list about one place.
cut_at : {A : Type 0} (xs : List A) (i : ℕ) (c : A) → slice_get xs i ≡ Some c → xs ≡ take i xs ++ c ∷ drop (suc i) xs
cut_at [] i c e = absurd cc
cut_at (x ∷ xs) zero c e = ap (λ y. y ∷ xs) (some_value x c e)
cut_at (x ∷ xs) (suc i) c e = ap (λ ys. x ∷ ys) (cut_at xs i c e)

-- The number of the child at a place is one less, where that child is taken out.
pub less_at : {A : Type 0} (f : A → ℕ) (xs : List A) (i : ℕ) (c : A) → slice_get xs i ≡ Some c → IsLess (f c) (map f xs) (map f (remove xs i))
less_at f xs i c e = record {
  front = map f (take i xs);
  rest = map f (drop (suc i) xs);
  stood = ap (λ ys. map f ys) (cut_at xs i c e) ∙ map-append f (take i xs) (c ∷ drop (suc i) xs);
  stands = map-append f (take i xs) (drop (suc i) xs);
}

-- ---- children in memory

-- One is taken out.
pub taken : (xs ys : List MemChild) (at : ℕ) (c : MemChild) → at < length xs → c ≡ slice_index_or xs at c → ys ≡ remove xs at
    → IsLess c.process (map (λ (c : MemChild). c.process) xs) (map (λ (c : MemChild). c.process) ys)
taken xs ys at c lt is e =
    subst (λ (zs : List MemChild). IsLess c.process (map (λ (c : MemChild). c.process) xs) (map (λ (c : MemChild). c.process) zs)) (sym e)
    (less_at (λ (c : MemChild). c.process) xs at c (slice_get-get_or xs at c lt ∙ ap (λ x. Some x) (sym is)))

-- One is ended.
pub same_numbers : (xs : List MemChild) (at : ℕ) (c d : MemChild) → c ≡ slice_index_or xs at d
    → map (λ (c : MemChild). c.process) (slice_set xs at (record { process = c.process; ends = 0 })) ≡ map (λ (c : MemChild). c.process) xs
same_numbers xs at c d is = map-set_same (λ (c : MemChild). c.process) xs at (record { process = c.process; ends = 0 }) d (ap (λ (c : MemChild). c.process) is)
