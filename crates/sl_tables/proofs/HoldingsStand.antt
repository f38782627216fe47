-- What a table of holdings shows: where a search begins, and what one holding more or less makes of it.
use Rattle.sl_words.proofs.Lists.{there_is}
use Rattle.sl_tables.proofs.ScansFind.{next_is, take_all}
use Rattle.sl_tables.proofs.SlotsStand.{above_here, apart, below_kept, kept, number_at, rising_kept}
use Rattle.sl_tables.specs.Holdings.{AreLed, AreNotedBelow, HoldingsState, IsIndex, Leads, fits, holder_in, is_held_at, is_holder, is_in_mode, is_of_process, least_holder, noted_first, sooner, sought_of, without_first}
use Rattle.sl_tables.specs.declared.holdings.Holder.TheVariants.{Above, Anyone, Is, IsNot}
use Rattle.sl_tables.specs.declared.holdings.Holder.{Holder}
use Rattle.sl_tables.specs.declared.holdings.Sought.{Sought}
use Rattle.sl_tables.specs.Rising.{AreBelow, AreRising, RisingState, items_of}
use Rattle.sl_trace.specs.declared.effects.Grant.{Grant}
use Rattle.sl_trace.specs.declared.effects.Spot.{Spot}
use Rattle.sl_words.proofs.CaseLaws.{false_is_true, none_some, some_value}
use Rattle.sl_words.proofs.WordLaws.{and_true}
use Rattle.sl_words.specs.Words.{choose, least, some_is}
use Rattle.std.proofs.Common.{ap, arith, refl, subst, sym, true≢false, ◌∙◌}
use Rattle.std.proofs.lemmas.Bool.Decides.{Decides-eqb}
use Rattle.std.proofs.lemmas.List.{append-nil}
use Rattle.std.specs.Cmp.{IsEquivalence, nat_eq_equiv}
use Rattle.std.specs.List.{AllByRecursion}
use Rattle.std.specs.Option.{option_map_or}
use Rattle.std.specs.Map.{keys_of, lookup, values_of}
use Rattle.std.specs.Prelude.{Bool, Err, List, None, Ok, OnErr, OnOk, Option, Result, Some, [], cond, false, filter, find, is_some, length, map, max, min, nat_eq, not, option_map, position, slice_get, suc, take, true, unwrap_or, zero, ℕ, ◌&&◌, ◌++◌, ◌+◌, ◌-◌, ◌<◌, ◌==◌, ◌∷◌, ◌≡◌, ◌≤◌}

-- ---- where a search begins

module _ {T : Type 0} where
  below_by : (n : ℕ) (es : List (ℕ × Option T)) (i : ℕ) (o : Option T) → AreRising es → slice_get es i ≡ Some (n, o) → AllByRecursion (λ p. p.0 < n) (items_of (take i es))
  below_by n [] i o rising at = absurd (none_some (n, o) at)
  below_by n (e ∷ es) zero o rising at = tt
  below_by n ((k, None) ∷ es) (suc i) o rising at = below_by n es i o rising.1 at
  below_by n ((k, Some x) ∷ es) (suc i) o rising at = (above_here k n es rising.0 i o at, below_by n es i o rising.1 at)

  -- What stands before the slot of a number has numbers below it.
  pub before_slot : (n : ℕ) (es : List (ℕ × Option T)) (i : ℕ) → AreRising es → position (nat_eq n) (keys_of es) ≡ Some i → AllByRecursion (λ p. p.0 < n) (items_of (take i es))
  before_slot n es i rising at = let there = number_at n es i at in below_by n es i there.0 rising there.1

  all_front : (P : ℕ × T → Type 0) (es : List (ℕ × Option T)) (i : ℕ) → AllByRecursion P (items_of es) → AllByRecursion P (items_of (take i es))
  all_front P [] zero h = tt
  all_front P [] (suc i) h = tt
  all_front P (e ∷ es) zero h = tt
  all_front P ((k, None) ∷ es) (suc i) h = all_front P es i h
  all_front P ((k, Some x) ∷ es) (suc i) h = (h.0, all_front P es i h.1)

  missing : (t : ℕ × T → Bool) (n : ℕ) (items : List (ℕ × T)) → AllByRecursion (λ p. t p ≡ true → n ≤ p.0) items → AllByRecursion (λ p. p.0 < n) items → find t items ≡ None
  missing t n [] h below = refl
  missing t n (q ∷ items) h below = by (t q) refl (missing t n items h.1 below.1)
    where
      by : (b : Bool) → t q ≡ b → find t items ≡ None → find t (q ∷ items) ≡ None
      by true is rest = absurd (let le = h.0 is in omega (arith, le, below.0))
      by false is rest = ap (λ c. cond c (Some q) (find t items)) is ∙ rest

  -- None of those sought stands before the slot at which the search begins.
  pub none_before : (t : ℕ × T → Bool) (n : ℕ) (es : List (ℕ × Option T)) (i : ℕ) → AllByRecursion (λ p. t p ≡ true → n ≤ p.0) (items_of es) → AllByRecursion (λ p. p.0 < n) (items_of (take i es))
      → find t (items_of (take i es)) ≡ None
  none_before t n es i h below = missing t n (items_of (take i es)) (all_front (λ p. t p ≡ true → n ≤ p.0) es i h) below

  -- ---- what is found

  pub found_value : (t : T → Bool) (items : List (ℕ × T)) → find t (values_of items) ≡ option_map (λ p. p.1) (find (λ p. t p.1) items)
  found_value t [] = refl
  found_value t (q ∷ items) = by (t q.1) (found_value t items)
    where
      by : (b : Bool) → find t (values_of items) ≡ option_map (λ p. p.1) (find (λ p. t p.1) items)
          → cond b (Some q.1) (find t (values_of items)) ≡ option_map (λ p. p.1) (cond b (Some q) (find (λ p. t p.1) items))
      by true rest = refl
      by false rest = rest

  all_found : (P : ℕ × T → Type 0) (t : ℕ × T → Bool) (items : List (ℕ × T)) (q : ℕ × T) → AllByRecursion P items → find t items ≡ Some q → P q
  all_found P t [] q h at = absurd (none_some q at)
  all_found P t (r ∷ items) q h at = by (t r) at (λ more. all_found P t items q h.1 more)
    where
      by : (b : Bool) → cond b (Some r) (find t items) ≡ Some q → (find t items ≡ Some q → P q) → P q
      by true is rest = subst P (some_value r q is) h.0
      by false is rest = rest is

  number_found : (t : ℕ × T → Bool) (items : List (ℕ × T)) (q : ℕ × T) → AreRising items → find t items ≡ Some q → lookup (nat_eq q.0) items ≡ Some q.1
  number_found t [] q rising at = absurd (none_some q at)
  number_found t (r ∷ items) q rising at = by (t r) at (λ more. number_found t items q rising.1 more) (λ more. all_found (λ p. r.0 < p.0) t items q rising.0 more)
    where
      by : (b : Bool) → cond b (Some r) (find t items) ≡ Some q → (find t items ≡ Some q → lookup (nat_eq q.0) items ≡ Some q.1) → (find t items ≡ Some q → r.0 < q.0)
          → cond (nat_eq q.0 r.0) (Some r.1) (lookup (nat_eq q.0) items) ≡ Some q.1
      by true is rest above =
          let one : r ≡ q = some_value r q is in
          ap (λ b. cond b (Some r.1) (lookup (nat_eq q.0) items)) (ap (λ (p : ℕ × T). nat_eq q.0 p.0) one ∙ nat_eq_equiv.refl q.0) ∙ ap (λ (p : ℕ × T). Some p.1) one
      by false is rest above =
          ap (λ b. cond b (Some r.1) (lookup (nat_eq q.0) items)) (nat_eq_equiv.symm q.0 r.0 ∙ apart r.0 q.0 (above is)) ∙ rest is

  by_number : (o : Option (ℕ × T)) (n : ℕ) → option_map (λ p. p.0) o ≡ Some n → (x : T) × (o ≡ Some (n, x))
  by_number None n at = absurd (none_some n at)
  by_number (Some q) n at = (q.1, ap (λ k. Some (k, q.1)) (some_value q.0 n at))

  -- Who has the number of the first that passes is that first.
  pub first_has : (t : T → Bool) (items : List (ℕ × T)) (n : ℕ) → AreRising items → option_map (λ p. p.0) (find (λ p. t p.1) items) ≡ Some n → lookup (nat_eq n) items ≡ find t (values_of items)
  first_has t items n rising at =
      let it = by_number (find (λ p. t p.1) items) n at in
      number_found (λ p. t p.1) items (n, it.0) rising it.1 ∙ sym (found_value t items ∙ ap (λ o. option_map (λ p. p.1) o) it.1)

  pub none_has : (t : T → Bool) (items : List (ℕ × T)) → option_map (λ p. p.0) (find (λ p. t p.1) items) ≡ None → find t (values_of items) ≡ None
  none_has t items at = found_value t items ∙ by (find (λ p. t p.1) items) at
    where
      by : (o : Option (ℕ × T)) → option_map (λ p. p.0) o ≡ None → option_map (λ p. p.1) o ≡ None
      by None at = refl
      by (Some q) at = absurd (none_some q.0 (sym at))

-- What is led by the number that is noted does not come before it, nor do those sought among it.
pub led_by : (t u : ℕ × Grant → Bool) (n : ℕ) (o : Option ℕ) (items : List (ℕ × Grant)) → ((p : ℕ × Grant) → t p ≡ true → u p ≡ true) → some_is (λ k. k == n) o ≡ true
    → AllByRecursion (λ p. u p ≡ true → Leads p.0 o) items → AllByRecursion (λ p. t p ≡ true → n ≤ p.0) items
led_by t u n o [] sought is led = tt
led_by t u n None (q ∷ items) sought is led = absurd (false_is_true is)
led_by t u n (Some k) (q ∷ items) sought is led =
    ((λ on. let le = led.0 (sought q on) in let one = (Decides-eqb k n).0 is in omega (arith, le, one)), led_by t u n (Some k) items sought is led.1)

-- Those sought of a process are of it.
pub is_of_sought : (process : ℕ) (g : Grant) → fits (sought_of process) g ≡ true → is_of_process process g ≡ true
is_of_sought process g h = by (g.process == process) h
  where
    by : (b : Bool) → (b && true && true && true) ≡ true → b ≡ true
    by true on = refl
    by false on = on

-- ---- what is noted, with one more

leads_first : (p n : ℕ) (o : Option ℕ) → Leads p o → Leads p (Some (unwrap_or o n))
leads_first p n None h = absurd h
leads_first p n (Some first) h = h

leads_new : (n next : ℕ) (o : Option ℕ) → ((first : ℕ) → o ≡ Some first → first < next) → next ≤ n → unwrap_or o n ≤ n
leads_new n next None below le = omega arith
leads_new n next (Some first) below le = let lt = below first refl in omega (arith, lt, le)

module _ {K : Type 0} (eq : K → K → Bool) (laws : IsEquivalence eq) (key : Grant → K) (noted : K → Option ℕ) where
  abbrev has : K → Grant → Bool
  has k g = eq (key g) k

  both_have : (g : Grant) (k l : K) → eq (key g) k ≡ true → eq l k ≡ true → eq (key g) l ≡ true
  both_have g k l a b = laws.congr (key g) k l a ∙ (laws.symm k l ∙ b)

  pub led_push : (items : List (ℕ × Grant)) (n next : ℕ) (g : Grant) (noted' : K → Option ℕ)
      → ((k : K) → noted' k ≡ cond (eq (key g) k) (Some (unwrap_or (noted (key g)) n)) (noted k)) → AreNotedBelow next noted → next ≤ n → AreLed has noted items
      → AreLed has noted' (items ++ (n, g) ∷ [])
  led_push items n next g noted' is below le led k = old items (led k) (led (key g))
    where
      new : eq (key g) k ≡ true → Leads n (noted' k)
      new own = subst (Leads n) (sym (is k ∙ ap (λ b. cond b (Some (unwrap_or (noted (key g)) n)) (noted k)) own)) (leads_new n next (noted (key g)) (below (key g)) le)

      here : (p : ℕ) (h : Grant) (b : Bool) → eq (key g) k ≡ b → (eq (key h) k ≡ true → Leads p (noted k)) → (eq (key h) (key g) ≡ true → Leads p (noted (key g))) → eq (key h) k ≡ true → Leads p (noted' k)
      here p h true own one other has_k =
          subst (Leads p) (sym (is k ∙ ap (λ b. cond b (Some (unwrap_or (noted (key g)) n)) (noted k)) own)) (leads_first p n (noted (key g)) (other (both_have h k (key g) has_k own)))
      here p h false own one other has_k = subst (Leads p) (sym (is k ∙ ap (λ b. cond b (Some (unwrap_or (noted (key g)) n)) (noted k)) own)) (one has_k)

      old : (items : List (ℕ × Grant)) → AllByRecursion (λ p. eq (key p.1) k ≡ true → Leads p.0 (noted k)) items → AllByRecursion (λ p. eq (key p.1) (key g) ≡ true → Leads p.0 (noted (key g))) items
          → AllByRecursion (λ p. eq (key p.1) k ≡ true → Leads p.0 (noted' k)) (items ++ (n, g) ∷ [])
      old [] one other = (new, tt)
      old (p ∷ items) one other = (here p.0 p.1 (eq (key g) k) refl one.0 other.0, old items one.1 other.1)

  pub below_first : (n next : ℕ) (g : Grant) (noted' : K → Option ℕ) → ((k : K) → noted' k ≡ cond (eq (key g) k) (Some (unwrap_or (noted (key g)) n)) (noted k)) → AreNotedBelow next noted → next ≤ n
      → AreNotedBelow (n + 1) noted'
  below_first n next g noted' is below le k first at = by (eq (key g) k) refl
    where
      by : (b : Bool) → eq (key g) k ≡ b → first < n + 1
      by true own =
          let one = some_value (unwrap_or (noted (key g)) n) first (sym (ap (λ b. cond b (Some (unwrap_or (noted (key g)) n)) (noted k)) own) ∙ (sym (is k) ∙ at)) in
          let few = leads_new n next (noted (key g)) (below (key g)) le in omega (arith, one, few)
      by false own = let lt = below k first (sym (ap (λ b. cond b (Some (unwrap_or (noted (key g)) n)) (noted k)) own) ∙ (sym (is k) ∙ at)) in omega (arith, lt, le)

-- ---- the number at which a search begins

all_map : {A : Type 0} (P Q : A → Type 0) (xs : List A) → ((a : A) → P a → Q a) → AllByRecursion P xs → AllByRecursion Q xs
all_map P Q [] f h = tt
all_map P Q (x ∷ xs) f h = (f x h.0, all_map P Q xs f h.1)

-- What fits has each of the things sought.
parts_fit : (s : Sought) (g : Grant) → fits s g ≡ true → (is_holder s.holder g.process ≡ true) × (option_map_or (λ at. is_held_at at g) s.spot true ≡ true)
parts_fit s g h =
    let who = is_holder s.holder g.process in
    let of = option_map_or (λ n. g.session == n) s.session true in
    let so = option_map_or (λ m. is_in_mode m g) s.mode true in
    let there = option_map_or (λ at. is_held_at at g) s.spot true in
    let one = and_true (who && of && so) there h in ((and_true who of (and_true (who && of) so one.0).0).0, one.1)

always : {A : Type 0} (xs : List A) → AllByRecursion (λ x. Unit {0}) xs
always [] = tt
always (x ∷ xs) = (tt, always xs)

none_by : (s : Sought) (items : List (ℕ × Grant)) → AllByRecursion (λ p. fits s p.1 ≡ true → Leads p.0 None) items → find (λ p. fits s p.1) items ≡ None
none_by s [] h = refl
none_by s (q ∷ items) h = by (fits s q.1) refl (none_by s items h.1)
  where
    by : (b : Bool) → fits s q.1 ≡ b → find (λ p. fits s p.1) items ≡ None → find (λ p. fits s p.1) (q ∷ items) ≡ None
    by true is rest = absurd (h.0 is)
    by false is rest = ap (λ c. cond c (Some q) (find (λ p. fits s p.1) items)) is ∙ rest

module _ (s : Sought) (areas : Spot → Option ℕ) (processes : ℕ → Option ℕ) (items : List (ℕ × Grant)) where
  abbrev Begins : Option ℕ → Type 0
  Begins o = AllByRecursion (λ p. fits s p.1 ≡ true → Leads p.0 o) items

  -- What is noted of those sought.
  abbrev noted_by : Option Spot → Holder → Option ℕ
  noted_by o who = noted_first (record s { spot = o; holder = who }) areas processes

  begins_by : AreLed is_held_at areas items → AreLed is_of_process processes items → (o : Option Spot) (who : Holder) → s.spot ≡ o → s.holder ≡ who → Begins (noted_by o who)
  begins_by a p (Some at) who spot holder =
      all_map (λ q. is_held_at at q.1 ≡ true → Leads q.0 (areas at)) (λ q. fits s q.1 ≡ true → Leads q.0 (areas at)) items
      (λ q led fit. led (sym (ap (λ o. option_map_or (λ at. is_held_at at q.1) o true) spot) ∙ (parts_fit s q.1 fit).1)) (a at)
  begins_by a p None (Is n) spot holder =
      all_map (λ q. is_of_process n q.1 ≡ true → Leads q.0 (processes n)) (λ q. fits s q.1 ≡ true → Leads q.0 (processes n)) items
      (λ (q : ℕ × Grant) led fit. led (sym (ap (λ h. is_holder h q.1.process) holder) ∙ (parts_fit s q.1 fit).0)) (p n)
  begins_by a p None Anyone spot holder = all_map (λ q. Unit {0}) (λ q. fits s q.1 ≡ true → Leads q.0 (Some 0)) items (λ q none fit. omega arith) (always items)
  begins_by a p None (IsNot n) spot holder = all_map (λ q. Unit {0}) (λ q. fits s q.1 ≡ true → Leads q.0 (Some 0)) items (λ q none fit. omega arith) (always items)
  begins_by a p None (Above n) spot holder = all_map (λ q. Unit {0}) (λ q. fits s q.1 ≡ true → Leads q.0 (Some 0)) items (λ q none fit. omega arith) (always items)

  begins : AreLed is_held_at areas items → AreLed is_of_process processes items → Begins (noted_first s areas processes)
  begins a p = begins_by a p s.spot s.holder refl refl

  pub begun_at : (first : ℕ) → AreLed is_held_at areas items → AreLed is_of_process processes items → noted_first s areas processes ≡ Some first
      → AllByRecursion (λ p. fits s p.1 ≡ true → first ≤ p.0) items
  begun_at first a p at = subst (λ o. Begins o) at (begins a p)

  pub none_begun : AreLed is_held_at areas items → AreLed is_of_process processes items → noted_first s areas processes ≡ None → find (λ p. fits s p.1) items ≡ None
  none_begun a p at = none_by s items (subst (λ o. Begins o) at (begins a p))

-- A search from number 0 is one of all.
pub from_start : (t : ℕ × Grant → Bool) (items : List (ℕ × Grant)) → AllByRecursion (λ p. t p ≡ true → 0 ≤ p.0) items
from_start t items = all_map (λ q. Unit {0}) (λ q. t q ≡ true → 0 ≤ q.0) items (λ q none fit. omega arith) (always items)

-- ---- an index

-- With the same things noted of the same elements.
pub index_same : {K : Type 0} (has : K → Grant → Bool) (noted noted' : K → Option ℕ) (more more' : ℕ) (held held' : RisingState Grant) → ((k : K) → noted' k ≡ noted k) → held'.items ≡ held.items
    → held'.next ≡ held.next → held'.room ≤ more' → IsIndex has noted more held → IsIndex has noted' more' held'
index_same has noted noted' more more' held held' same items next room i = (
  (λ k. subst (λ o. AllByRecursion (λ p. has k p.1 ≡ true → Leads p.0 o) held'.items) (sym (same k)) (subst (λ ps. AllByRecursion (λ p. has k p.1 ≡ true → Leads p.0 (noted k)) ps) (sym items) (i.0 k))),
  (λ k first at. let lt = i.1 k first (sym (same k) ∙ at) in omega (arith, next, lt)),
  room,
)

-- With one element more.
pub index_push : {K : Type 0} (eq : K → K → Bool) (laws : IsEquivalence eq) (key : Grant → K) (noted noted' : K → Option ℕ) (more more' : ℕ) (held held' : RisingState Grant) (n : ℕ) (g : Grant) (own : K) → own ≡ key g
    → n ≡ held.next → held' ≡ record held { items = held.items ++ (n, g) ∷ []; next = n + 1; room = held.room - 1 } → 0 < held.room → more ≤ more' + 1
    → ((k : K) → noted' k ≡ cond (eq own k) (Some (unwrap_or (noted own) n)) (noted k)) → IsIndex (λ k h. eq (key h) k) noted more held → IsIndex (λ k h. eq (key h) k) noted' more' held'
index_push eq laws key noted noted' more more' held held' n g own own_is n_is is room one_more same i =
    let le : held.next ≤ n = omega (arith, n_is) in
    let at : (k : _) → noted' k ≡ cond (eq (key g) k) (Some (unwrap_or (noted (key g)) n)) (noted k) = λ k. same k ∙ ap (λ l. cond (eq l k) (Some (unwrap_or (noted l) n)) (noted k)) own_is in
    subst (λ h. IsIndex (λ k h. eq (key h) k) noted' more' h) (sym is)
    (led_push eq laws key noted held.items n held.next g noted' at i.1 le i.0, below_first eq laws key noted n held.next g noted' at i.1 le, (let few = i.2 in omega (arith, few, room, one_more)))

-- Its memory, after more was wanted.
pub room_kept : {A E : Type 0} (r : Result A E) (old room new more more' : ℕ) → OnOk r (new ≡ max old room) → OnErr r (new ≡ old) → old ≤ more → more ≤ more' → room ≤ more' → new ≤ more'
room_kept (Ok a) old room new more more' ok err le rises few = omega (arith, ok, le, rises, few)
room_kept (Err e) old room new more more' ok err le rises few = omega (arith, err, le, rises)

-- ---- one element less

first_leads : (t : Grant → Bool) (items : List (ℕ × Grant)) → AreRising items → AllByRecursion (λ p. t p.1 ≡ true → Leads p.0 (option_map (λ q. q.0) (find (λ q. t q.1) items))) items
first_leads t [] rising = tt
first_leads t (q ∷ items) rising = by (t q.1) refl (first_leads t items rising.1)
  where
    by : (b : Bool) → t q.1 ≡ b → AllByRecursion (λ p. t p.1 ≡ true → Leads p.0 (option_map (λ r. r.0) (find (λ r. t r.1) items))) items
        → AllByRecursion (λ p. t p.1 ≡ true → Leads p.0 (option_map (λ r. r.0) (find (λ r. t r.1) (q ∷ items)))) (q ∷ items)
    by true is rest =
        subst (λ o. AllByRecursion (λ p. t p.1 ≡ true → Leads p.0 (option_map (λ r. r.0) o)) (q ∷ items)) (sym (ap (λ c. cond c (Some q) (find (λ r. t r.1) items)) is))
        ((λ own. omega arith), all_map (λ (p : ℕ × Grant). q.0 < p.0) (λ p. t p.1 ≡ true → Leads p.0 (Some q.0)) items (λ p lt own. omega (arith, lt)) rising.0)
    by false is rest =
        subst (λ o. AllByRecursion (λ p. t p.1 ≡ true → Leads p.0 (option_map (λ r. r.0) o)) (q ∷ items)) (sym (ap (λ c. cond c (Some q) (find (λ r. t r.1) items)) is))
        ((λ own. absurd (true≢false (sym own ∙ is))), rest)

module _ {K : Type 0} (eq : K → K → Bool) (laws : IsEquivalence eq) (key : Grant → K) (noted noted' : K → Option ℕ) (n : ℕ) (own : K) where
  abbrev first_own : List (ℕ × Grant) → Option ℕ
  first_own items = option_map (λ p. p.0) (find (λ p. eq (key p.1) own) items)

  abbrev is_noted : Bool
  is_noted = some_is (λ m. m == n) (noted own)

  led_take : (items : List (ℕ × Grant)) → AreRising items → ((k : K) → noted' k ≡ cond (eq own k && is_noted) (first_own items) (noted k)) → AreLed (λ k g. eq (key g) k) noted items
      → AreLed (λ k g. eq (key g) k) noted' items
  led_take items rising is led k = by (eq own k) is_noted refl refl
    where
      stays : (b c : Bool) → eq own k ≡ b → is_noted ≡ c → (b && c) ≡ false → AllByRecursion (λ p. eq (key p.1) k ≡ true → Leads p.0 (noted' k)) items
      stays b c same hit none =
          subst (λ o. AllByRecursion (λ p. eq (key p.1) k ≡ true → Leads p.0 o) items)
          (sym (is k ∙ (ap (λ d. cond (d && is_noted) (first_own items) (noted k)) same ∙ (ap (λ d. cond (b && d) (first_own items) (noted k)) hit ∙ ap (λ d. cond d (first_own items) (noted k)) none)))) (led k)

      by : (b c : Bool) → eq own k ≡ b → is_noted ≡ c → AllByRecursion (λ p. eq (key p.1) k ≡ true → Leads p.0 (noted' k)) items
      by true true same hit =
          subst (λ o. AllByRecursion (λ p. eq (key p.1) k ≡ true → Leads p.0 o) items)
          (sym (is k ∙ (ap (λ d. cond (d && is_noted) (first_own items) (noted k)) same ∙ ap (λ d. cond d (first_own items) (noted k)) hit)))
          (all_map (λ p. eq (key p.1) own ≡ true → Leads p.0 (first_own items)) (λ p. eq (key p.1) k ≡ true → Leads p.0 (first_own items)) items
          (λ (p : ℕ × Grant) led fit. led (both_have eq laws key noted p.1 k own fit same)) (first_leads (λ g. eq (key g) own) items rising))
      by true false same hit = stays true false same hit refl
      by false c same hit = stays false c same hit refl

  below_take : (items : List (ℕ × Grant)) (next : ℕ) → AreBelow next items → ((k : K) → noted' k ≡ cond (eq own k && is_noted) (first_own items) (noted k)) → AreNotedBelow next noted → AreNotedBelow next noted'
  below_take items next few is below k first at = by (eq own k && is_noted) refl
    where
      by : (b : Bool) → (eq own k && is_noted) ≡ b → first < next
      by true hit =
          let it = by_number (find (λ p. eq (key p.1) own) items) first (sym (ap (λ d. cond d (first_own items) (noted k)) hit) ∙ (sym (is k) ∙ at)) in
          all_found (λ p. p.0 < next) (λ p. eq (key p.1) own) items (first, it.0) few it.1
      by false hit = below k first (sym (ap (λ d. cond d (first_own items) (noted k)) hit) ∙ (sym (is k) ∙ at))

  -- An index without the element of this number.
  pub index_take : (more more' : ℕ) (held held' : RisingState Grant) → AreRising held.items → AreBelow held.next held.items → held'.items ≡ filter (λ p. not (nat_eq n p.0)) held.items → held'.next ≡ held.next
      → held'.room ≡ held.room → more ≤ more' → ((k : K) → noted' k ≡ cond (eq own k && is_noted) (first_own held'.items) (noted k)) → IsIndex (λ k g. eq (key g) k) noted more held
      → IsIndex (λ k g. eq (key g) k) noted' more' held'
  index_take more more' held held' rising few items next room rises is i = (
    led_take held'.items (subst AreRising (sym items) (rising_kept (λ p. not (nat_eq n p.0)) held.items rising)) is
        (λ k. subst (λ ps. AllByRecursion (λ p. eq (key p.1) k ≡ true → Leads p.0 (noted k)) ps) (sym items) (kept (λ p. eq (key p.1) k ≡ true → Leads p.0 (noted k)) (λ p. not (nat_eq n p.0)) held.items (i.0 k))),
    subst (λ m. AreNotedBelow m noted') (sym next)
        (below_take held'.items held.next (subst (AreBelow held.next) (sym items) (below_kept held.next (λ p. not (nat_eq n p.0)) held.items few)) is i.1),
    (let le = i.2 in omega (arith, le, room, rises)),
  )

-- ---- the holdings without one

module _ (t : Grant → Bool) where
  others_stay : (n : ℕ) (items : List (ℕ × Grant)) → AllByRecursion (λ q. n < q.0) items → filter (λ p. not (nat_eq n p.0)) items ≡ items
  others_stay n [] above = refl
  others_stay n (q ∷ items) above = ap (λ b. cond (not b) (q ∷ filter (λ p. not (nat_eq n p.0)) items) (filter (λ p. not (nat_eq n p.0)) items)) (apart n q.0 above.0) ∙ ap (λ ps. q ∷ ps) (others_stay n items above.1)

  -- The element of the number of the first that passes goes.
  pub without_is : (items : List (ℕ × Grant)) (n : ℕ) → AreRising items → option_map (λ p. p.0) (find (λ p. t p.1) items) ≡ Some n
      → values_of (filter (λ p. not (nat_eq n p.0)) items) ≡ without_first t (values_of items)
  without_is [] n rising at = refl
  without_is (q ∷ items) n rising at =
      by (t q.1) refl (λ more. without_is items n rising.1 more) (λ more. let it = by_number (find (λ p. t p.1) items) n more in all_found (λ p. q.0 < p.0) (λ p. t p.1) items (n, it.0) rising.0 it.1)
    where
      by : (b : Bool) → t q.1 ≡ b → (option_map (λ p. p.0) (find (λ p. t p.1) items) ≡ Some n → values_of (filter (λ p. not (nat_eq n p.0)) items) ≡ without_first t (values_of items))
          → (option_map (λ p. p.0) (find (λ p. t p.1) items) ≡ Some n → q.0 < n) → values_of (filter (λ p. not (nat_eq n p.0)) (q ∷ items)) ≡ without_first t (q.1 ∷ values_of items)
      by true is rest above =
          let own : q.0 ≡ n = some_value q.0 n (sym (ap (λ c. option_map (λ (p : ℕ × Grant). p.0) (cond c (Some q) (find (λ p. t p.1) items))) is) ∙ at) in
          ap (λ b. values_of (cond (not b) (q ∷ filter (λ p. not (nat_eq n p.0)) items) (filter (λ p. not (nat_eq n p.0)) items))) (subst (λ m. nat_eq m q.0 ≡ true) own (nat_eq_equiv.refl q.0))
          ∙ (ap values_of (others_stay n items (subst (λ m. AllByRecursion (λ r. m < r.0) items) own rising.0)) ∙ sym (ap (λ c. cond c (values_of items) (q.1 ∷ without_first t (values_of items))) is))
      by false is rest above =
          let more = sym (ap (λ c. option_map (λ (p : ℕ × Grant). p.0) (cond c (Some q) (find (λ p. t p.1) items))) is) ∙ at in
          ap (λ b. values_of (cond (not b) (q ∷ filter (λ p. not (nat_eq n p.0)) items) (filter (λ p. not (nat_eq n p.0)) items))) (nat_eq_equiv.symm n q.0 ∙ apart q.0 n (above more))
          ∙ (ap (λ gs. q.1 ∷ gs) (rest more) ∙ sym (ap (λ c. cond c (values_of items) (q.1 ∷ without_first t (values_of items))) is))

  pub without_none : (held : List Grant) → find t held ≡ None → without_first t held ≡ held
  without_none [] at = refl
  without_none (g ∷ held) at = by (t g) refl (λ more. without_none held more)
    where
      by : (b : Bool) → t g ≡ b → (find t held ≡ None → without_first t held ≡ held) → without_first t (g ∷ held) ≡ g ∷ held
      by true is rest = absurd (none_some g (sym (sym (ap (λ c. cond c (Some g) (find t held)) is) ∙ at)))
      by false is rest = ap (λ c. cond c held (g ∷ without_first t held)) is ∙ ap (λ gs. g ∷ gs) (rest (sym (ap (λ c. cond c (Some g) (find t held)) is) ∙ at))

  -- What doesn't pass stays, whether one that does goes or not.
  pub rest_stays : (held : List Grant) → filter (λ g. not (t g)) (without_first t held) ≡ filter (λ g. not (t g)) held
  rest_stays [] = refl
  rest_stays (g ∷ held) = by (t g) refl (rest_stays held)
    where
      by : (b : Bool) → t g ≡ b → filter (λ h. not (t h)) (without_first t held) ≡ filter (λ h. not (t h)) held → filter (λ h. not (t h)) (without_first t (g ∷ held)) ≡ filter (λ h. not (t h)) (g ∷ held)
      by true is rest =
          ap (λ c. filter (λ h. not (t h)) (cond c held (g ∷ without_first t held))) is
          ∙ sym (ap (λ c. cond (not c) (g ∷ filter (λ h. not (t h)) held) (filter (λ h. not (t h)) held)) is)
      by false is rest =
          ap (λ c. filter (λ h. not (t h)) (cond c held (g ∷ without_first t held))) is
          ∙ (ap (λ c. cond (not c) (g ∷ filter (λ h. not (t h)) (without_first t held)) (filter (λ h. not (t h)) (without_first t held))) is
          ∙ (ap (λ gs. g ∷ gs) rest ∙ sym (ap (λ c. cond (not c) (g ∷ filter (λ h. not (t h)) held) (filter (λ h. not (t h)) held)) is)))

  -- Where none passes, all stay.
  pub all_stay : (held : List Grant) → find t held ≡ None → filter (λ g. not (t g)) held ≡ held
  all_stay [] at = refl
  all_stay (g ∷ held) at = by (t g) refl (λ more. all_stay held more)
    where
      by : (b : Bool) → t g ≡ b → (find t held ≡ None → filter (λ h. not (t h)) held ≡ held) → filter (λ h. not (t h)) (g ∷ held) ≡ g ∷ held
      by true is rest = absurd (none_some g (sym (sym (ap (λ c. cond c (Some g) (find t held)) is) ∙ at)))
      by false is rest =
          ap (λ c. cond (not c) (g ∷ filter (λ h. not (t h)) held) (filter (λ h. not (t h)) held)) is ∙ ap (λ gs. g ∷ gs) (rest (sym (ap (λ c. cond c (Some g) (find t held)) is) ∙ at))

  -- One that passes makes them one fewer.
  pub one_fewer : (held : List Grant) (g : Grant) → find t held ≡ Some g → length held ≡ length (without_first t held) + 1
  one_fewer [] g at = absurd (none_some g at)
  one_fewer (h ∷ held) g at = by (t h) refl (λ more. one_fewer held g more)
    where
      by : (b : Bool) → t h ≡ b → (find t held ≡ Some g → length held ≡ length (without_first t held) + 1) → suc (length held) ≡ length (without_first t (h ∷ held)) + 1
      by true is rest = sym (ap (λ c. length (cond c held (h ∷ without_first t held)) + 1) is ∙ omega arith)
      by false is rest =
          let more = rest (sym (ap (λ c. cond c (Some h) (find t held)) is) ∙ at) in omega (arith, more) ∙ sym (ap (λ c. length (cond c held (h ∷ without_first t held)) + 1) is)

  fewer_by : (held : List Grant) (o : Option Grant) → find t held ≡ o → is_some o ≡ true → length (without_first t held) < length held
  fewer_by held None at is = absurd (true≢false (sym is))
  fewer_by held (Some g) at is = let one = one_fewer held g at in omega (arith, one)

  pub fewer : (held held' : List Grant) → is_some (find t held) ≡ true → held' ≡ without_first t held → length held' < length held
  fewer held held' is left = subst (λ gs. length gs < length held) (sym left) (fewer_by held (find t held) refl is)

  none_if : (o : Option Grant) → is_some o ≡ false → o ≡ None
  none_if None is = refl
  none_if (Some g) is = absurd (true≢false is)

  -- Where none is left, those that are held are those that don't pass.
  pub all_ended : (first held left : List Grant) → is_some (find t held) ≡ false → left ≡ without_first t held → filter (λ g. not (t g)) held ≡ filter (λ g. not (t g)) first → left ≡ filter (λ g. not (t g)) first
  all_ended first held left is left_is rest =
      let none = none_if (find t held) is in left_is ∙ (without_none held none ∙ (sym (all_stay held none) ∙ rest))

-- The table with others held.
pub left_is : (held without : List Grant) (next room : ℕ) (s : HoldingsState) → held ≡ without → next ≡ s.next → room ≡ s.room → record { held = held; next = next; room = room } ≡ record s { held = without }
left_is held without next room s h n r = λ i. record { held = h i; next = n i; room = r i }

-- ---- the least process

sooner_none : (o : Option ℕ) → sooner o None ≡ o
sooner_none None = refl
sooner_none (Some a) = refl

sooner_turns : (a b c : Option ℕ) → sooner (sooner a b) c ≡ sooner a (sooner b c)
sooner_turns None b c = refl
sooner_turns (Some a) None c = refl
sooner_turns (Some a) (Some b) None = refl
sooner_turns (Some a) (Some b) (Some c) = ap (λ n. Some n) (omega arith)

least_is : (x : ℕ) (xs : List ℕ) → least (x ∷ xs) ≡ sooner (Some x) (least xs)
least_is x xs = by (least xs)
  where
    by : (o : Option ℕ) → elim o [ None ↦ Some x | Some y ↦ Some (min x y) ] ≡ sooner (Some x) o
    by None = refl
    by (Some y) = refl

module _ (s : Sought) where
  abbrev holders : List Grant → Option ℕ
  holders held = least_holder s held

  -- One more at the end.
  more_holders : (held : List Grant) (g : Grant) → holders (held ++ g ∷ []) ≡ sooner (holders held) (choose (fits s g) g.process)
  more_holders [] g = by (fits s g)
    where
      by : (b : Bool) → least (map (λ (h : Grant). h.process) (cond b (g ∷ []) [])) ≡ choose b g.process
      by true = refl
      by false = refl
  more_holders (h ∷ held) g = by (fits s h) (more_holders held g)
    where
      by : (b : Bool) → holders (held ++ g ∷ []) ≡ sooner (holders held) (choose (fits s g) g.process)
          → least (map (λ (h : Grant). h.process) (cond b (h ∷ filter (fits s) (held ++ g ∷ [])) (filter (fits s) (held ++ g ∷ []))))
          ≡ sooner (least (map (λ (h : Grant). h.process) (cond b (h ∷ filter (fits s) held) (filter (fits s) held)))) (choose (fits s g) g.process)
      by true rest =
          least_is h.process (map (λ (h : Grant). h.process) (filter (fits s) (held ++ g ∷ [])))
          ∙ (ap (λ o. sooner (Some h.process) o) rest
          ∙ (sym (sooner_turns (Some h.process) (holders held) (choose (fits s g) g.process))
          ∙ ap (λ o. sooner o (choose (fits s g) g.process)) (sym (least_is h.process (map (λ (h : Grant). h.process) (filter (fits s) held))))))
      by false rest = rest

  values_more : (es : List (ℕ × Option Grant)) (i n : ℕ) (o : Option Grant) → slice_get es i ≡ Some (n, o)
      → values_of (items_of (take (suc i) es)) ≡ values_of (items_of (take i es)) ++ elim o [ None ↦ [] | Some g ↦ g ∷ [] ]
  values_more [] i n o at = absurd (none_some (n, o) at)
  values_more (e ∷ es) zero n o at = subst (λ q. values_of (items_of (q ∷ [])) ≡ elim o [ None ↦ [] | Some g ↦ g ∷ [] ]) (sym (some_value e (n, o) at)) (by o)
    where
      by : (o : Option Grant) → values_of (items_of ((n, o) ∷ [])) ≡ elim o [ None ↦ [] | Some g ↦ g ∷ [] ]
      by None = refl
      by (Some g) = refl
  values_more ((k, None) ∷ es) (suc i) n o at = values_more es i n o at
  values_more ((k, Some h) ∷ es) (suc i) n o at = ap (λ gs. h ∷ gs) (values_more es i n o at)

  slot_holder : (es : List (ℕ × Option Grant)) (i n : ℕ) (o : Option Grant) → slice_get es i ≡ Some (n, o)
      → holders (values_of (items_of (take (suc i) es))) ≡ sooner (holders (values_of (items_of (take i es)))) (holder_in s (Some (n, o)))
  slot_holder es i n None at =
      ap holders (values_more es i n None at ∙ append-nil (values_of (items_of (take i es)))) ∙ sym (sooner_none (holders (values_of (items_of (take i es)))))
  slot_holder es i n (Some g) at = ap holders (values_more es i n (Some g) at) ∙ more_holders (values_of (items_of (take i es))) g

  pub holder_more : (es : List (ℕ × Option Grant)) (i : ℕ) → i < length es
      → sooner (holders (values_of (items_of (take i es)))) (holder_in s (slice_get es i)) ≡ holders (values_of (items_of (take (i + 1) es)))
  holder_more es i lt =
      let it = there_is es i lt in
      ap (λ o. sooner (holders (values_of (items_of (take i es)))) (holder_in s o)) it.1
      ∙ (sym (slot_holder es i it.0.0 it.0.1 it.1) ∙ ap (λ m. holders (values_of (items_of (take m es)))) (next_is i))

  none_fit : (n : ℕ) (items : List (ℕ × Grant)) → AllByRecursion (λ p. fits s p.1 ≡ true → n ≤ p.0) items → AllByRecursion (λ p. p.0 < n) items → None ≡ holders (values_of items)
  none_fit n [] h below = refl
  none_fit n (q ∷ items) h below = by (fits s q.1) refl (none_fit n items h.1 below.1)
    where
      by : (b : Bool) → fits s q.1 ≡ b → None ≡ holders (values_of items) → None ≡ holders (values_of (q ∷ items))
      by true is rest = absurd (let le = h.0 is in omega (arith, le, below.0))
      by false is rest = rest ∙ sym (ap (λ c. least (map (λ (h : Grant). h.process) (cond c (q.1 ∷ filter (fits s) (values_of items)) (filter (fits s) (values_of items))))) is)

  pub holders_before : (n : ℕ) (es : List (ℕ × Option Grant)) (i : ℕ) → AllByRecursion (λ p. fits s p.1 ≡ true → n ≤ p.0) (items_of es) → AllByRecursion (λ p. p.0 < n) (items_of (take i es))
      → None ≡ holders (values_of (items_of (take i es)))
  holders_before n es i h below = none_fit n (items_of (take i es)) (all_front (λ p. fits s p.1 ≡ true → n ≤ p.0) es i h) below

  pub holders_all : (es : List (ℕ × Option Grant)) (i : ℕ) → length es ≤ i → holders (values_of (items_of (take i es))) ≡ holders (values_of (items_of es))
  holders_all es i le = ap (λ zs. holders (values_of (items_of zs))) (take_all es i le)

  pub no_holders : (items : List (ℕ × Grant)) → find (λ p. fits s p.1) items ≡ None → None ≡ holders (values_of items)
  no_holders [] at = refl
  no_holders (q ∷ items) at = by (fits s q.1) refl (λ more. no_holders items more)
    where
      by : (b : Bool) → fits s q.1 ≡ b → (find (λ p. fits s p.1) items ≡ None → None ≡ holders (values_of items)) → None ≡ holders (values_of (q ∷ items))
      by true is rest = absurd (none_some q (sym (sym (ap (λ c. cond c (Some q) (find (λ p. fits s p.1) items)) is) ∙ at)))
      by false is rest =
          rest (sym (ap (λ c. cond c (Some q) (find (λ p. fits s p.1) items)) is) ∙ at)
          ∙ sym (ap (λ c. least (map (λ (h : Grant). h.process) (cond c (q.1 ∷ filter (fits s) (values_of items)) (filter (fits s) (values_of items))))) is)
