-- Holdings of a process at a place: where each is alone there, no two are.
use Rattle.sl_due_leases.proofs.Holdings.PlainPlaces.{place_turned}
use Rattle.sl_host_law.proofs.SharedFacts.PlainLists.{all_from, in_back}
use Rattle.sl_host_law.proofs.Replies.PlainNumbers.{same_number}
use Rattle.sl_words.proofs.Lists.{contains_first, contains_none, kept as kept_in, next_before}
use Rattle.sl_words.proofs.Numbers.{number_itself}
use Rattle.sl_step_law.specs.Holdings.{HoldsOnce}
use Rattle.sl_trace.specs.Traces.{held_by, same_place}
use Rattle.sl_trace.specs.declared.effects.Grant.{Grant}
use Rattle.sl_words.proofs.CaseLaws.{is_false}
use Rattle.sl_words.proofs.WordLaws.{and_true}
use Rattle.std.proofs.Common.{ap, arith, refl, suc, subst, sym, ◌∙◌}
use Rattle.std.proofs.lemmas.List.{length-append}
use Rattle.std.proofs.lemmas.Slice.Eq.{bytes_eq-Decides}
use Rattle.std.specs.Prelude.{Bool, Contains, List, bytes_eq, cond, false, filter, length, true, [], ℕ, ◌&&◌, ◌++◌, ◌+◌, ◌==◌, ◌∷◌, ◌≡◌, ◌≤◌}

filter_both_parts : {A : Type 0} (q : A → Bool) (xs ys : List A) → filter q (xs ++ ys) ≡ filter q xs ++ filter q ys
filter_both_parts q [] ys = refl
filter_both_parts q (x ∷ xs) ys = by (q x) (filter_both_parts q xs ys) where
  by : (b : Bool) → filter q (xs ++ ys) ≡ filter q xs ++ filter q ys → cond b (x ∷ filter q (xs ++ ys)) (filter q (xs ++ ys)) ≡ cond b (x ∷ filter q xs) (filter q xs) ++ filter q ys
  by true rest = ap (λ zs. x ∷ zs) rest
  by false rest = rest

one_there : {A : Type 0} (xs : List A) (x : A) → Contains xs x → 1 ≤ length xs
one_there [] x there = absurd (contains_none x there)
one_there (y ∷ ys) x there = omega arith

-- An element that passes before another that does: two are kept.
two_there : {A : Type 0} (q : A → Bool) (front : List A) (a : A) (rest : List A) (b : A) → q a ≡ true → q b ≡ true → Contains rest b → 2 ≤ length (filter q (front ++ a ∷ rest))
two_there q front a rest b first second there =
    let more : 1 ≤ length (filter q rest) = one_there (filter q rest) b (kept_in q rest b second there) in
    let here : length (filter q (a ∷ rest)) ≡ 1 + length (filter q rest) = ap (λ z. length (cond z (a ∷ filter q rest) (filter q rest))) first ∙ plus (length (filter q rest)) in
    subst (λ zs. 2 ≤ length zs) (sym (filter_both_parts q front (a ∷ rest)))
    (subst (λ n. 2 ≤ n) (sym (length-append (filter q front) (filter q (a ∷ rest)))) (omega (arith, more, here))) where
      plus : (n : ℕ) → suc n ≡ 1 + n
      plus n = omega arith

-- Of a part of all holdings, each of which is alone.
pub held_once : (p : ℕ) (front gs : List Grant) → ((g : Grant) → Contains (front ++ gs) g → length (held_by (front ++ gs) g.process g.path g.offset) ≡ 1) → HoldsOnce p gs
held_once p front [] each = tt
held_once p front (g ∷ gs) each = (
  λ its. all_from (λ k. (k.process == p && same_place g.path g.offset k.path k.offset) ≡ false) gs (λ k there. is_false (k.process == p && same_place g.path g.offset k.path k.offset) (λ also. both its k there also)),
  held_once p (front ++ g ∷ []) gs (subst (λ (all : List Grant). (z : Grant) → Contains all z → length (held_by all z.process z.path z.offset) ≡ 1) (sym (next_before front g gs)) each),
) where
  both : (g.process == p) ≡ true → (k : Grant) → Contains gs k → (k.process == p && same_place g.path g.offset k.path k.offset) ≡ true → ⊥
  both its k there also =
      let parts = and_true (k.process == p) (same_place g.path g.offset k.path k.offset) also in
      let q : Grant → Bool = λ z. z.process == g.process && same_place z.path z.offset g.path g.offset in
      let number : (k.process == g.process) ≡ true = subst (λ n. (n == g.process) ≡ true) (same_number g.process p its ∙ sym (same_number k.process p parts.0)) (number_itself g.process) in
      let first : q g ≡ true = ap (λ b. b && same_place g.path g.offset g.path g.offset) (number_itself g.process) ∙ itself g in
      let second : q k ≡ true = ap (λ b. b && same_place k.path k.offset g.path g.offset) number ∙ place_turned g.path k.path g.offset k.offset parts.1 in
      let two : 2 ≤ length (filter q (front ++ g ∷ gs)) = two_there q front g gs k first second there in
      let one : length (filter q (front ++ g ∷ gs)) ≡ 1 = each g (in_back front (g ∷ gs) g (contains_first g gs)) in
      absurd (omega (arith, two, one)) where
        itself : (z : Grant) → same_place z.path z.offset z.path z.offset ≡ true
        itself z = ap (λ b. b && bytes_eq z.path z.path) (number_itself z.offset) ∙ (bytes_eq-Decides z.path z.path).1 refl
