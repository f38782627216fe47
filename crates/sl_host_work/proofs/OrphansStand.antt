-- What holdings leave that end: the machine's orphans.
use Rattle.sl_host_work.proofs.EndsStand.{ends_last, ends_next, its_own, other}
use Rattle.sl_host_work.specs.ProcessHoldings.{HoldsOnce, held_by, leaves_at, with_orphan}
use Rattle.sl_words.proofs.Lists.{filter_both}
use Rattle.sl_tables.specs.Holdings.{fits, sought_of}
use Rattle.sl_trace.specs.Traces.{has_orphan_of, is_orphan, leaves_orphan, no_process, orphan_of, orphans_left, same_place}
use Rattle.sl_trace.specs.declared.effects.Grant.{Grant}
use Rattle.sl_host.proofs.FoundInList.{found_is_any}
use Rattle.sl_host.specs.NextHolder.{orphan_on}
use Rattle.sl_host.specs.Notes.{NotesState}
use Rattle.std.proofs.Common.{ap, append_assoc, append-nil, arith, length-append, refl, sym, ◌∙◌}
use Rattle.std.proofs.lemmas.Bool.{eqb-true}
use Rattle.std.specs.List.{list_any}
use Rattle.std.specs.Prelude.{Bool, List, None, Some, [], cond, false, filter, find, is_some, length, map, not, true, ℕ, ◌&&◌, ◌+◌, ◌++◌, ◌==◌, ◌||◌, ◌∷◌, ◌≡◌, ◌≤◌}

-- ---- a search for an orphan on an area

four : (a b : Bool) → (((a && true) && true) && b) ≡ (a && b)
four true b = refl
four false b = refl

any_same : (g : Grant) (held : List Grant) → list_any (fits (orphan_on (record { path = g.path; base = g.offset }))) held ≡ has_orphan_of held g
any_same g [] = refl
any_same g (k ∷ held) =
    ap (λ x. x || list_any (fits (orphan_on (record { path = g.path; base = g.offset }))) held) (four (k.process == 0) (same_place k.path k.offset g.path g.offset))
    ∙ ap (λ x. (is_orphan k && same_place k.path k.offset g.path g.offset) || x) (any_same g held)

pub orphan_sought : (g : Grant) (held : List Grant) → is_some (find (fits (orphan_on (record { path = g.path; base = g.offset }))) held) ≡ has_orphan_of held g
orphan_sought g held = found_is_any (fits (orphan_on (record { path = g.path; base = g.offset }))) held ∙ any_same g held

-- ---- an end takes no orphan

-- What the end of a process's holding takes out is none.
not_taken : (p : ℕ) (g k : Grant) → (p == no_process) ≡ false → (g.process == p) ≡ true → (b c : Bool) → (g.process == k.process) ≡ b → is_orphan k ≡ c → (b && c) ≡ false
not_taken p g k some its false c same own = refl
not_taken p g k some its true false same own = refl
not_taken p g k some its true true same own =
    sym (ap (λ n. n == no_process) (sym (eqb-true g.process p its) ∙ (eqb-true g.process k.process same ∙ eqb-true k.process no_process own))) ∙ some

any_after : (p : ℕ) (g k : Grant) (held : List Grant) → (p == no_process) ≡ false → (g.process == p) ≡ true → has_orphan_of (filter (other g) held) k ≡ has_orphan_of held k
any_after p g k [] some its = refl
any_after p g k (x ∷ held) some its = by (g.process == x.process) refl (same_place g.path g.offset x.path x.offset) (is_orphan x) refl (any_after p g k held some its) where
  by : (b : Bool) → (g.process == x.process) ≡ b → (c o : Bool) → is_orphan x ≡ o → has_orphan_of (filter (other g) held) k ≡ has_orphan_of held k
      → has_orphan_of (cond (not (b && c)) (x ∷ filter (other g) held) (filter (other g) held)) k ≡ (is_orphan x && same_place x.path x.offset k.path k.offset || has_orphan_of held k)
  by false same c o own rest = ap (λ y. is_orphan x && same_place x.path x.offset k.path k.offset || y) rest
  by true same false o own rest = ap (λ y. is_orphan x && same_place x.path x.offset k.path k.offset || y) rest
  by true same true true own rest = absurd (let e = not_taken p g x some its true true same own in cc)
  by true same true false own rest = rest ∙ sym (ap (λ y. y && same_place x.path x.offset k.path k.offset || has_orphan_of held k) own)

-- ---- what they leave

three : (a b c : Bool) → ((a && b) && c) ≡ (a && (b && c))
three true b c = refl
three false b c = refl

filter_same : (p q : Grant → Bool) (gs : List Grant) → ((k : Grant) → p k ≡ q k) → filter p gs ≡ filter q gs
filter_same p q [] same = refl
filter_same p q (g ∷ gs) same = ap (λ b. cond b (g ∷ filter p gs) (filter p gs)) (same g) ∙ ap (λ zs. cond (q g) (g ∷ zs) zs) (filter_same p q gs same)

-- The orphans that its holdings leave, of the holdings that are looked at.
abbrev left_by : List Grant → List Grant → List Grant
left_by held gs = map orphan_of (filter (leaves_at held) gs)

left_as : (p : ℕ) (held : List Grant) → orphans_left p held ≡ left_by held (held_by p held)
left_as p held =
    ap (λ gs. map orphan_of gs)
    (filter_same (leaves_orphan held p) (λ k. k.process == p && leaves_at held k) held (λ k. three (k.process == p) k.persistent (not (has_orphan_of held k)))
    ∙ filter_both (λ k. k.process == p) (leaves_at held) held)

put_on : (held : List Grant) (g : Grant) (gs noted : List Grant) (b : Bool) → cond b (noted ++ orphan_of g ∷ []) noted ++ left_by held gs ≡ noted ++ map orphan_of (cond b (g ∷ filter (leaves_at held) gs) (filter (leaves_at held) gs))
put_on held g gs noted true = append_assoc noted (orphan_of g ∷ []) (left_by held gs)
put_on held g gs noted false = refl

-- One of them ends, and what it leaves is noted.
pub noted_next : (p : ℕ) (held held' noted : List Grant) (g : Grant) → (p == no_process) ≡ false → HoldsOnce p held → find (fits (sought_of p)) held ≡ Some g → held' ≡ filter (other g) held
    → with_orphan held g noted ++ orphans_left p held' ≡ noted ++ orphans_left p held
noted_next p held held' noted g some once is after =
    ap (λ gs. with_orphan held g noted ++ gs) (ap (λ gs. orphans_left p gs) after ∙ (left_as p (filter (other g) held) ∙ ap (λ gs. map orphan_of gs) (filter_same (leaves_at (filter (other g) held)) (leaves_at held) (held_by p (filter (other g) held)) (λ k. ap (λ x. k.persistent && not x) (any_after p g k held some (its_own p held g is))))))
    ∙ (put_on held g (held_by p (filter (other g) held)) noted (leaves_at held g)
    ∙ ap (λ gs. noted ++ gs) (sym (left_as p held ∙ ap (λ gs. left_by held gs) (ends_next p held g once is))))

pub noted_last : (p : ℕ) (held noted : List Grant) → find (fits (sought_of p)) held ≡ None → noted ++ orphans_left p held ≡ noted ++ []
noted_last p held noted is = ap (λ gs. noted ++ gs) (left_as p held ∙ ap (λ gs. left_by held gs) (ends_last p held is))

pub one_more_at_most : (held : List Grant) (g : Grant) (noted : List Grant) → length (with_orphan held g noted) ≤ length noted + 1
one_more_at_most held g noted = by (leaves_at held g) where
  by : (b : Bool) → length (cond b (noted ++ orphan_of g ∷ []) noted) ≤ length noted + 1
  by true = let e : length (noted ++ orphan_of g ∷ []) ≡ length noted + length (orphan_of g ∷ []) = length-append noted (orphan_of g ∷ []) in grind (arith, e)
  by false = grind arith

pub noted_all : (p : ℕ) (held first noted : List Grant) → noted ++ orphans_left p held ≡ orphans_left p first → find (fits (sought_of p)) held ≡ None → noted ≡ orphans_left p first
noted_all p held first noted was is = sym (append-nil noted) ∙ (sym (noted_last p held noted is) ∙ was)

pub notes_are : (a b : NotesState Grant) (items : List Grant) → a.items ≡ items → a.most ≡ b.most → a ≡ record b { items = items }
notes_are a b items is most = λ i. record { items = is i; most = most i }
