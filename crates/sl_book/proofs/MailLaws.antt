-- A ledger's counts, and what a reader takes.
use Rattle.sl_book.proofs.Fronts.{prefix_shorter, prefix_whole}
use Rattle.sl_book.proofs.Givens.{given_last, given_more, given_most, given_prefix, not_true}
use Rattle.sl_book.specs.Logs.{given_by, is_by}
use Rattle.sl_book.specs.Mails.{AreCounts, IsLast, IsNext, PostedState, ReaderState}
use Rattle.sl_book.specs.declared.signed.Signed.{Signed}
use Rattle.std.proofs.Common.{List, Some, [], ap, arith, false, length, length-append, refl, replicate, set, slice_get, subst, suc, sym, zero, ℕ, ◌++◌, ◌+◌, ◌<◌, ◌∙◌, ◌∷◌, ◌≡◌, ◌≤◌}
use Rattle.std.proofs.lemmas.List.Elements.{filter-append}
use Rattle.std.proofs.lemmas.List.{append-nil}
use mathlib.Core.List.{IsPrefix}
use mathlib.Core.Logic.{◌≢◌}

-- ---- counts

counts_empty : (E : Type 0) (k n : ℕ) → AreCounts {E = E} k (replicate n 0) []
counts_empty E k zero = tt
counts_empty E k (suc n) = (refl, counts_empty E (k + 1) n)

pub counts_none : {E : Type 0} (n : ℕ) (cs : List ℕ) (h : List (Signed E)) → cs ≡ replicate n 0 → h ≡ [] → AreCounts 0 cs h
counts_none {E} n cs h zeros none =
    subst (λ (l : List (Signed E)). AreCounts 0 cs l) (sym none) (subst (λ (l : List ℕ). AreCounts {E = E} 0 l []) (sym zeros) (counts_empty E 0 n))

-- the count of a number
counts_get : {E : Type 0} (k : ℕ) (cs : List ℕ) (h : List (Signed E)) (i c : ℕ) → AreCounts k cs h → slice_get cs i ≡ Some c → c ≡ length (given_by (k + i) h)
counts_get k [] h i c are is = absurd cc
counts_get {E} k (x ∷ cs) h zero c are is =
    let same : x ≡ c = cc in
    let place : k ≡ k + zero = omega arith in
    sym same ∙ are.0 ∙ ap (λ (n : ℕ). length (given_by n h)) place
counts_get {E} k (x ∷ cs) h (suc i) c are is =
    let rest : c ≡ length (given_by ((k + 1) + i) h) = counts_get (k + 1) cs h i c are.1 is in
    let place : (k + 1) + i ≡ k + suc i = omega arith in
    rest ∙ ap (λ (n : ℕ). length (given_by n h)) place

pub count_at : {E : Type 0} (cs : List ℕ) (h : List (Signed E)) (i c : ℕ) → AreCounts 0 cs h → slice_get cs i ≡ Some c → c ≡ length (given_by i h)
count_at cs h i c are is =
    let place : 0 + i ≡ i = omega arith in counts_get 0 cs h i c are is ∙ ap (λ (n : ℕ). length (given_by n h)) place

-- one of another number behind a log adds nothing
given_same : {E : Type 0} (k : ℕ) (h : List (Signed E)) (s : Signed E) → s.by ≢ k → given_by k (h ++ s ∷ []) ≡ given_by k h
given_same {E} k h s apart =
    let test : is_by k s ≡ false = not_true s.by k apart (is_by k s) refl in
    let none : given_by k (s ∷ []) ≡ [] = rw test in
    filter-append (is_by k) h (s ∷ []) ∙ ap (λ (l : List (Signed E)). given_by k h ++ l) none ∙ append-nil (given_by k h)

given_one : {E : Type 0} (k : ℕ) (h : List (Signed E)) (s : Signed E) → s.by ≡ k → length (given_by k (h ++ s ∷ [])) ≡ length (given_by k h) + 1
given_one k h s is = ap length (given_last k h s is) ∙ length-append (given_by k h) (s ∷ [])

-- an element of a lower number changes no count
counts_above : {E : Type 0} (k : ℕ) (cs : List ℕ) (h : List (Signed E)) (s : Signed E) → s.by < k → AreCounts k cs h → AreCounts k cs (h ++ s ∷ [])
counts_above k [] h s less are = tt
counts_above k (x ∷ cs) h s less are =
    (are.0 ∙ sym (ap length (given_same k h s (λ is. absurd (omega (arith, is, less))))), counts_above (k + 1) cs h s (omega (arith, less)) are.1)

-- an element more of a number, and its count one more
pub counts_set : {E : Type 0} (k : ℕ) (cs : List ℕ) (h : List (Signed E)) (s : Signed E) (i c : ℕ) → s.by ≡ k + i → AreCounts k cs h → c ≡ length (given_by s.by h)
    → AreCounts k (set cs i (c + 1)) (h ++ s ∷ [])
counts_set k [] h s i c by are is = tt
counts_set {E} k (x ∷ cs) h s zero c by are is =
    let here : s.by ≡ k = omega (arith, by) in
    let one : length (given_by k (h ++ s ∷ [])) ≡ length (given_by k h) + 1 = given_one k h s here in
    let same : c ≡ length (given_by k h) = subst (λ (n : ℕ). c ≡ length (given_by n h)) here is in
    (omega (arith, same, one), counts_above (k + 1) cs h s (omega (arith, here)) are.1)
counts_set k (x ∷ cs) h s (suc i) c by are is =
    let apart : s.by ≢ k = λ same. omega (arith, same, by) in
    (are.0 ∙ sym (ap length (given_same k h s apart)), counts_set (k + 1) cs h s i c (omega (arith, by)) are.1 is)

-- a ledger posts
pub posted_counts : {E : Type 0} (cs cs' : List ℕ) (h h' : List (Signed E)) (s : Signed E) (c : ℕ) → AreCounts 0 cs h → c ≡ length (given_by s.by h) → cs' ≡ set cs s.by (c + 1) → h' ≡ h ++ s ∷ []
    → AreCounts 0 cs' h'
posted_counts {E} cs cs' h h' s c are is counts front =
    let place : s.by ≡ 0 + s.by = omega arith in
    let on : AreCounts 0 (set cs s.by (c + 1)) (h ++ s ∷ []) = counts_set 0 cs h s s.by c place are is in
    subst (λ (l : List (Signed E)). AreCounts 0 cs' l) (sym front) (subst (λ (l : List ℕ). AreCounts 0 l (h ++ s ∷ [])) (sym counts) on)

-- ---- what a reader takes

-- so many were read, and so many came before the element: it is the next
pub next_is : {E : Type 0} (index : ℕ) (s : Signed E) (r : ReaderState E) (front : List (Signed E)) → IsLast index s front → r.count ≡ length (given_by r.by r.front)
    → s.by ≡ r.by → index ≡ r.count → IsPrefix r.front front → length r.front < length front → IsNext r (record { by = s.by; element = s.entry; front = front })
next_is {E} index s r front last count by is pre less =
    let all : length front ≡ length last.past + 1 = ap length last.front ∙ length-append last.past (s ∷ []) in
    let whole : IsPrefix r.front (last.past ++ s ∷ []) = subst (λ (l : List (Signed E)). IsPrefix r.front l) last.front pre in
    let past : IsPrefix r.front last.past = prefix_shorter r.front last.past (last.past ++ s ∷ []) whole (s ∷ [], refl) (omega (arith, all, less)) in
    let came : length (given_by r.by last.past) ≡ length (given_by r.by r.front) =
    sym (ap (λ (n : ℕ). length (given_by n last.past)) by) ∙ sym last.came ∙ is ∙ count in
    let same : given_by r.by r.front ≡ given_by r.by last.past =
    prefix_whole (given_by r.by r.front) (given_by r.by last.past) (given_prefix r.by r.front last.past past) (omega (arith, came)) in
    record {
      by = by;
      longer = (pre, less);
      given = ap (given_by r.by) last.front ∙ given_last r.by last.past s by ∙ ap (λ (l : List (Signed E)). l ++ s ∷ []) (sym same);
    }

next_counts : {E : Type 0} (r : ReaderState E) (p : PostedState E) → r.count ≡ length (given_by r.by r.front) → IsNext r p → r.count + 1 ≡ length (given_by r.by p.front)
next_counts r p count next =
    let read : length (given_by r.by p.front) ≡ length (given_by r.by r.front) + 1 = ap length next.given ∙ length-append (given_by r.by r.front) (record { by = p.by; entry = p.element } ∷ []) in
    omega (arith, read, count)

pub next_fits : {E : Type 0} (r : ReaderState E) (p : PostedState E) → r.count ≡ length (given_by r.by r.front) → IsNext r p → r.count + 1 ≤ length p.front
next_fits r p count next =
    let a = next_counts r p count next in let b = given_most r.by p.front in omega (arith, a, b)

-- ---- whether all was read

-- the counts are one: it read all
pub read_all : {E : Type 0} (r : ReaderState E) (cs : List ℕ) (front : List (Signed E)) (c : ℕ) → AreCounts 0 cs front → slice_get cs r.by ≡ Some c
    → r.count ≡ length (given_by r.by r.front) → IsPrefix r.front front → r.count ≡ c → given_by r.by r.front ≡ given_by r.by front
read_all r cs front c are is count pre same =
    let here : c ≡ length (given_by r.by front) = count_at cs front r.by c are is in
    prefix_whole (given_by r.by r.front) (given_by r.by front) (given_prefix r.by r.front front pre) (omega (arith, here, count, same))

-- the counts differ: there is more
pub read_less : {E : Type 0} (r : ReaderState E) (cs : List ℕ) (front : List (Signed E)) (c : ℕ) → AreCounts 0 cs front → slice_get cs r.by ≡ Some c
    → r.count ≡ length (given_by r.by r.front) → IsPrefix r.front front → r.count ≢ c → length (given_by r.by r.front) < length (given_by r.by front)
read_less r cs front c are is count pre apart =
    let here : c ≡ length (given_by r.by front) = count_at cs front r.by c are is in
    let more = given_more r.by r.front front pre in
    grind (arith, here, more, count, apart)
