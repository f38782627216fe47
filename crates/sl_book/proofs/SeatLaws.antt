-- What a seat counts, as it goes on.
use Rattle.sl_book.specs.Seats.{HasSeen, IsMine, SeatState}
use Rattle.sl_book.proofs.Givens.{entries_last, entries_length, entries_prefix, given_last, given_more, given_most, given_prefix, within_last, within_more, within_whole}
use Rattle.sl_book.specs.Logs.{IsWithin, entries, given_by}
use Rattle.sl_book.specs.declared.signed.Signed.{Signed}
use Rattle.std.proofs.Common.{List, [], ap, arith, length, length-append, subst, sym, ℕ, ◌++◌, ◌+◌, ◌∙◌, ◌∷◌, ◌≡◌, ◌≤◌}
use mathlib.Core.List.{IsPrefix}

-- ---- its count

pub seen_on : {E : Type 0} (by count : ℕ) (front more : List (Signed E)) → IsPrefix front more → count ≤ length (given_by by front) → count ≤ length (given_by by more)
seen_on by count front more p le = let m = given_more by front more p in omega (arith, m, le)

pub given_on : {E : Type 0} (by count : ℕ) (front past : List (Signed E)) (s : Signed E) → s.by ≡ by → IsPrefix front past → count ≤ length (given_by by front)
    → count + 1 ≤ length (given_by by (past ++ s ∷ []))
given_on by count front past s is p le =
    let m = given_more by front past p in
    let n : length (given_by by (past ++ s ∷ [])) ≡ length (given_by by past) + 1 = ap length (given_last by past s is) ∙ length-append (given_by by past) (s ∷ []) in
    omega (arith, m, n, le)

pub given_fits : {E : Type 0} (by count : ℕ) (front past all : List (Signed E)) (s : Signed E) → s.by ≡ by → IsPrefix front past → all ≡ past ++ s ∷ [] → count ≤ length (given_by by front)
    → count + 1 ≤ length all
given_fits by count front past all s is p same le =
    let a = given_on by count front past s is p le in
    let b = given_most by (past ++ s ∷ []) in
    let c : length all ≡ length (past ++ s ∷ []) = ap length same in
    omega (arith, a, b, c)

-- ---- what it gave

pub mine_none : {E : Type 0} (s : SeatState E) → s.count ≡ 0 → IsMine s []
mine_none s none = record { count = none; there = tt }

mine_within : {E : Type 0} (by : ℕ) (front more : List (Signed E)) (made : List E) → IsPrefix front more → IsWithin made (entries (given_by by front)) → IsWithin made (entries (given_by by more))
mine_within {E} by front more made p there =
    let pre = entries_prefix (given_by by front) (given_by by more) (given_prefix by front more p) in
    subst (λ (l : List E). IsWithin made l) pre.1 (within_more made (entries (given_by by front)) pre.0 there)

-- it has seen more
pub mine_seen : {E : Type 0} (s s' : SeatState E) (made : List E) → HasSeen s s' → IsMine s made → IsMine s' made
mine_seen s s' made seen mine = record {
  count = seen.count ∙ mine.count;
  there = subst (λ (n : ℕ). IsWithin made (entries (given_by n s'.front))) (sym seen.by) (mine_within s.by s.front s'.front made seen.before mine.there);
}

-- it gave one element more
pub mine_on : {E : Type 0} (s s' : SeatState E) (past : List (Signed E)) (x : Signed E) (made : List E) → x.by ≡ s.by → IsPrefix s.front past → s'.front ≡ past ++ x ∷ [] → s'.by ≡ s.by
    → s'.count ≡ s.count + 1 → IsMine s made → IsMine s' (made ++ x.entry ∷ [])
mine_on {E} s s' past x made number before front by count mine =
    let here : IsWithin made (entries (given_by s.by past)) = mine_within s.by s.front past made before mine.there in
    let last : entries (given_by s.by (past ++ x ∷ [])) ≡ entries (given_by s.by past) ++ x.entry ∷ [] =
    ap entries (given_last s.by past x number) ∙ entries_last (given_by s.by past) x in
    let there : IsWithin (made ++ x.entry ∷ []) (entries (given_by s.by (past ++ x ∷ []))) =
    subst (λ (l : List E). IsWithin (made ++ x.entry ∷ []) l) (sym last) (within_last made (entries (given_by s.by past)) x.entry here) in
    let moved : IsWithin (made ++ x.entry ∷ []) (entries (given_by s'.by (past ++ x ∷ []))) =
    subst (λ (n : ℕ). IsWithin (made ++ x.entry ∷ []) (entries (given_by n (past ++ x ∷ [])))) (sym by) there in
    record {
      count = count ∙ ap (λ n. n + 1) mine.count ∙ sym (length-append made (x.entry ∷ []));
      there = subst (λ (l : List (Signed E)). IsWithin (made ++ x.entry ∷ []) (entries (given_by s'.by l))) (sym front) moved;
    }

-- a seat that has counted just the elements of its number gave just these
pub mine_whole : {E : Type 0} (s : SeatState E) (h : List (Signed E)) (made : List E) → IsPrefix s.front h → s.count ≡ length (given_by s.by h) → IsMine s made → made ≡ entries (given_by s.by h)
mine_whole s h made p count mine =
    let here : IsWithin made (entries (given_by s.by h)) = mine_within s.by s.front h made p mine.there in
    let c : length (entries (given_by s.by h)) ≡ length made = entries_length (given_by s.by h) ∙ sym count ∙ mine.count in
    within_whole made (entries (given_by s.by h)) here (omega (arith, c))

-- ---- what it has seen

pub seen_told : {E : Type 0} (s s' : SeatState E) (taken : ℕ) (h : List (Signed E)) → IsPrefix s.front h → s' ≡ record { by = s.by; count = s.count; taken = taken; front = h } → HasSeen s s'
seen_told {E} s s' taken h before same = record {
  before = subst (λ (l : List (Signed E)). IsPrefix s.front l) (sym (ap (λ (t : SeatState E). t.front) same)) before;
  by = ap (λ (t : SeatState E). t.by) same;
  count = ap (λ (t : SeatState E). t.count) same;
}
