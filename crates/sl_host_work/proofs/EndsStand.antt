-- Connections are removed where they stand, and holdings end one after another.
use Rattle.sl_host_law.specs.StepParts.Ends.{removing}
use Rattle.sl_host_law.specs.StepParts.Exits.{ending}
use Rattle.sl_host_law.specs.StepParts.Signals.{over}
use Rattle.sl_host_state.specs.KeptState.{HostState, state_of}
use Rattle.sl_host_state.specs.MadeEffects.{with_end, with_move}
use Rattle.sl_host_work.specs.ProcessHoldings.{HoldsOnce, held_by}
use Rattle.sl_words.proofs.Lists.{find_inside}
use Rattle.sl_words.proofs.Numbers.{number_itself}
use Rattle.sl_tables.specs.Holdings.{fits, sought_of}
use Rattle.sl_trace.specs.Traces.{end_of, same_place}
use Rattle.sl_trace.specs.declared.command.Command.{Command}
use Rattle.sl_trace.specs.declared.effects.Grant.{Grant}
use Rattle.sl_trace.specs.declared.effects.Move.TheVariants.{Unregister}
use Rattle.sl_host.specs.Host.{Becomes, HostView}
use Rattle.sl_words.proofs.CaseLaws.{none_some, some_value}
use Rattle.std.proofs.Common.{ap, arith, refl, subst, sym, ◌∙◌}
use Rattle.std.proofs.lemmas.Bool.{eqb-true}
use Rattle.std.specs.Cmp.{nat_eq_equiv}
use Rattle.std.specs.Cmp.Lexicographic.{nat_list_eq_equiv}
use Rattle.std.specs.List.{AllByRecursion, list_any}
use Rattle.std.specs.Prelude.{Bool, Err, List, None, Result, Some, [], bytes_eq, cond, false, filter, find, length, not, true, ℕ, ◌&&◌, ◌+◌, ◌<◌, ◌==◌, ◌∷◌, ◌≡◌}

abbrev removed_so : Bool → List ℕ → HostState → HostState
removed_so b name h = cond b (with_move (Unregister name) h) h

pub is_removed : (old new : HostView) (name : List ℕ) (b : Bool) → b ≡ list_any (λ n. bytes_eq n name) old.kept.connected → b ≡ true → Becomes old new (with_move (Unregister name)) → Becomes old new (removing name)
is_removed old new name b found is one read = one read ∙ ap (λ c. removed_so c name (state_of read old.kept)) (sym is ∙ found)

pub is_not_there : (v : HostView) (name : List ℕ) (b : Bool) → b ≡ list_any (λ n. bytes_eq n name) v.kept.connected → b ≡ false → Becomes v v (removing name)
is_not_there v name b found is read = ap (λ c. removed_so c name (state_of read v.kept)) (sym is ∙ found)

-- ---- holdings

-- What an end leaves.
abbrev pub other : Grant → Grant → Bool
other g k = not (g.process == k.process && same_place g.path g.offset k.path k.offset)

abbrev ends_one : Grant → HostState → HostState
ends_one g h = with_end (end_of g) h

-- A filter keeps that no place is held twice.
all_kept : (P : Grant → Type 0) (q : Grant → Bool) (gs : List Grant) → AllByRecursion P gs → AllByRecursion P (filter q gs)
all_kept P q [] h = tt
all_kept P q (k ∷ gs) h = by (q k) (all_kept P q gs h.1) where
  by : (b : Bool) → AllByRecursion P (filter q gs) → AllByRecursion P (cond b (k ∷ filter q gs) (filter q gs))
  by true rest = (h.0, rest)
  by false rest = rest

pub once_kept : (p : ℕ) (q : Grant → Bool) (gs : List Grant) → HoldsOnce p gs → HoldsOnce p (filter q gs)
once_kept p q [] h = tt
once_kept p q (g ∷ gs) h = by (q g) (once_kept p q gs h.1) where
  by : (b : Bool) → HoldsOnce p (filter q gs) → HoldsOnce p (cond b (g ∷ filter q gs) (filter q gs))
  by true rest = ((λ its. all_kept (λ k. (k.process == p && same_place g.path g.offset k.path k.offset) ≡ false) q gs (h.0 its)), rest)
  by false rest = rest

-- Those of the process at other places stay.
stays_if : (p : ℕ) (k : Grant) (F gs : List Grant) (a b c : Bool) → (k.process == p) ≡ a → b ≡ a → (a && c) ≡ false → held_by p F ≡ held_by p gs
    → held_by p (cond (not (b && c)) (k ∷ F) F) ≡ cond a (k ∷ held_by p gs) (held_by p gs)
stays_if p k F gs true true true is same none rest = absurd cc
stays_if p k F gs true true false is same none rest = ap (λ x. cond x (k ∷ held_by p F) (held_by p F)) is ∙ ap (λ zs. k ∷ zs) rest
stays_if p k F gs true false c is same none rest = absurd cc
stays_if p k F gs false true c is same none rest = absurd cc
stays_if p k F gs false false c is same none rest = ap (λ x. cond x (k ∷ held_by p F) (held_by p F)) is ∙ rest

others_stay : (p : ℕ) (g : Grant) (gs : List Grant) → g.process ≡ p → AllByRecursion (λ k. (k.process == p && same_place g.path g.offset k.path k.offset) ≡ false) gs → held_by p (filter (other g) gs) ≡ held_by p gs
others_stay p g [] its h = refl
others_stay p g (k ∷ gs) its h =
    stays_if p k (filter (other g) gs) gs (k.process == p) (g.process == k.process) (same_place g.path g.offset k.path k.offset) refl (ap (λ n. n == k.process) its ∙ nat_eq_equiv.symm p k.process) h.0 (others_stay p g gs its h.1)

itself : (g : Grant) → other g g ≡ false
itself g =
    ap (λ x. not (x && same_place g.path g.offset g.path g.offset)) (number_itself g.process)
    ∙ (ap (λ x. not (x && bytes_eq g.path g.path)) (number_itself g.offset)
    ∙ ap (λ x. not x) (nat_list_eq_equiv.refl g.path))

passed_by : (p : ℕ) (k : Grant) (F : List Grant) (t : Bool) → (k.process == p) ≡ false → held_by p (cond t (k ∷ F) F) ≡ held_by p F
passed_by p k F true is = ap (λ x. cond x (k ∷ held_by p F) (held_by p F)) is
passed_by p k F false is = refl

-- The first is ended, and the others are left.
pub first_ends : (p : ℕ) (gs : List Grant) (g : Grant) → HoldsOnce p gs → find (λ k. k.process == p) gs ≡ Some g → held_by p gs ≡ g ∷ held_by p (filter (other g) gs)
first_ends p [] g h is = absurd (none_some g is)
first_ends p (k ∷ gs) g h is = by (λ found. first_ends p gs g h.1 found) (k.process == p) refl is where
  it : (k.process == p) ≡ true → held_by p (k ∷ gs) ≡ k ∷ held_by p (filter (other k) (k ∷ gs))
  it its =
      ap (λ x. cond x (k ∷ held_by p gs) (held_by p gs)) its
      ∙ ap (λ zs. k ∷ zs)
      (sym (ap (λ x. held_by p (cond x (k ∷ filter (other k) gs) (filter (other k) gs))) (itself k) ∙ others_stay p k gs (eqb-true k.process p its) (h.0 its)))

  by : (find (λ k. k.process == p) gs ≡ Some g → held_by p gs ≡ g ∷ held_by p (filter (other g) gs)) → (a : Bool) → (k.process == p) ≡ a → cond a (Some k) (find (λ k. k.process == p) gs) ≡ Some g
      → held_by p (k ∷ gs) ≡ g ∷ held_by p (filter (other g) (k ∷ gs))
  by more true its found = subst (λ z. held_by p (k ∷ gs) ≡ z ∷ held_by p (filter (other z) (k ∷ gs))) (some_value k g found) (it its)
  by more false its found =
      ap (λ x. cond x (k ∷ held_by p gs) (held_by p gs)) its
      ∙ (more found ∙ ap (λ zs. g ∷ zs) (sym (passed_by p k (filter (other g) gs) (other g k) its)))

-- A search for the process's holdings finds the first of them.
same_search : (p : ℕ) (gs : List Grant) → find (fits (sought_of p)) gs ≡ find (λ k. k.process == p) gs
same_search p [] = refl
same_search p (k ∷ gs) = ap (λ x. cond x (Some k) (find (fits (sought_of p)) gs)) (all_true (k.process == p)) ∙ ap (λ o. cond (k.process == p) (Some k) o) (same_search p gs) where
  all_true : (b : Bool) → (((b && true) && true) && true) ≡ b
  all_true true = refl
  all_true false = refl

none_held : (p : ℕ) (gs : List Grant) → find (λ k. k.process == p) gs ≡ None → held_by p gs ≡ []
none_held p [] is = refl
none_held p (k ∷ gs) is = by (λ found. none_held p gs found) (k.process == p) refl is where
  by : (find (λ k. k.process == p) gs ≡ None → held_by p gs ≡ []) → (a : Bool) → (k.process == p) ≡ a → cond a (Some k) (find (λ k. k.process == p) gs) ≡ None → held_by p (k ∷ gs) ≡ []
  by more true its found = absurd (none_some k (sym found))
  by more false its found = ap (λ x. cond x (k ∷ held_by p gs) (held_by p gs)) its ∙ more found

-- ---- the pass

pub ends_next : (p : ℕ) (held : List Grant) (g : Grant) → HoldsOnce p held → find (fits (sought_of p)) held ≡ Some g → held_by p held ≡ g ∷ held_by p (filter (other g) held)
ends_next p held g once is = first_ends p held g once (sym (same_search p held) ∙ is)

pub ends_last : (p : ℕ) (held : List Grant) → find (fits (sought_of p)) held ≡ None → held_by p held ≡ []
ends_last p held is = none_held p held (sym (same_search p held) ∙ is)

-- What is found is the process's.
pub its_own : (p : ℕ) (held : List Grant) (g : Grant) → find (fits (sought_of p)) held ≡ Some g → (g.process == p) ≡ true
its_own p held g is = (find_inside (λ k. k.process == p) held g (sym (same_search p held) ∙ is)).1

-- One holding ends: the others are still to end.
pub ended_next : (p : ℕ) (g : Grant) (a b : HostState) → HoldsOnce p a.holdings → find (fits (sought_of p)) a.holdings ≡ Some g → b ≡ with_end (end_of g) a → ending p a ≡ ending p b
ended_next p g a b once is one =
    ap (λ gs. over gs ends_one a) (ends_next p a.holdings g once is) ∙ ap (λ h. ending p h) (sym one)

pub ended_last : (p : ℕ) (a : HostState) → find (fits (sought_of p)) a.holdings ≡ None → ending p a ≡ a
ended_last p a is = ap (λ gs. over gs ends_one a) (ends_last p a.holdings is)

-- What is held afterwards.
none_read : List ℕ → Result Command ℕ
none_read text = Err 0

pub held_after : (g : Grant) (old new : HostView) → Becomes old new (with_end (end_of g)) → new.kept.holdings ≡ filter (other g) old.kept.holdings
held_after g old new one = ap (λ h. h.holdings) (one none_read)

pub once_after : (p : ℕ) (g : Grant) (old new : HostView) → HoldsOnce p old.kept.holdings → Becomes old new (with_end (end_of g)) → HoldsOnce p new.kept.holdings
once_after p g old new once one = subst (λ gs. HoldsOnce p gs) (sym (held_after g old new one)) (once_kept p (other g) old.kept.holdings once)

pub one_less : (p : ℕ) (g : Grant) (old new : HostView) → HoldsOnce p old.kept.holdings → find (fits (sought_of p)) old.kept.holdings ≡ Some g → Becomes old new (with_end (end_of g))
    → length (held_by p old.kept.holdings) ≡ length (held_by p new.kept.holdings) + 1
one_less p g old new once is one =
    let after = held_after g old new one in
    ap (λ gs. length gs) (ends_next p old.kept.holdings g once is ∙ ap (λ gs. g ∷ held_by p gs) (sym after))
    ∙ (let e : length (g ∷ held_by p new.kept.holdings) ≡ length (held_by p new.kept.holdings) + 1 = grind arith in e)

pub some_held : (p : ℕ) (g : Grant) (held : List Grant) → HoldsOnce p held → find (fits (sought_of p)) held ≡ Some g → 0 < length (held_by p held)
some_held p g held once is =
    let e : length (held_by p held) ≡ length (g ∷ held_by p (filter (other g) held)) = ap (λ gs. length gs) (ends_next p held g once is) in
    grind (arith, e)
