-- The holders under a session are the processes of its holdings.
use Rattle.sl_due_facts.proofs.Acts.AddedAtEnd.{contains_last, not_is}
use Rattle.sl_due_facts.proofs.Jobs.JobFactsGrow.{contains_left, contains_right}
use Rattle.sl_words.proofs.Lists.{any_found, contains_cases, contains_first, contains_map, contains_more, contains_none, in_map, kept, kept_inside}
use Rattle.sl_words.proofs.Numbers.{number_itself}
use Rattle.sl_trace.specs.Sessions.{holders_of, holdings_of}
use Rattle.sl_trace.specs.declared.session.Session.{Session}
use Rattle.sl_trace.specs.Traces.{Trace, holdings, is_orphan}
use Rattle.sl_trace.specs.declared.effects.Grant.{Grant}
use Rattle.sl_words.specs.Orders.{add_new, once_each, put_in, rising}
use Rattle.std.proofs.Common.{ap, inl, inr, refl, subst, sym, ◌∙◌}
use Rattle.std.proofs.lemmas.Bool.{eqb-true}
use Rattle.std.specs.List.{list_any}
use Rattle.std.specs.Prelude.{Bool, Contains, List, [], false, filter, fold, if◌then◌else◌, map, nat_eq, nat_lt, not, true, ℕ, ◌++◌, ◌==◌, ◌∷◌, ◌≡◌, ◌⊎◌}

-- ---- each number once, in rising order

put_there : (n : ℕ) (ns : List ℕ) (d : ℕ) → (n ≡ d) ⊎ Contains ns d → Contains (put_in nat_lt n ns) d
put_there n [] d (inl is) = subst (λ z. Contains (n ∷ []) z) is (contains_first n [])
put_there n [] d (inr there) = absurd (contains_none d there)
put_there n (m ∷ ms) d there = by (nat_lt n m) there (λ k. put_there n ms d k) where
  deeper : ((n ≡ d) ⊎ Contains ms d → Contains (put_in nat_lt n ms) d) → (n ≡ d) ⊎ Contains (m ∷ ms) d → Contains (m ∷ put_in nat_lt n ms) d
  deeper more (inl is) = contains_more m (put_in nat_lt n ms) d (more (inl is))
  deeper more (inr old) = elim (contains_cases m ms d old) [
    | inl is ↦ subst (λ z. Contains (m ∷ put_in nat_lt n ms) z) is (contains_first m (put_in nat_lt n ms))
    | inr rest ↦ contains_more m (put_in nat_lt n ms) d (more (inr rest))
  ]

  by : (b : Bool) → (n ≡ d) ⊎ Contains (m ∷ ms) d → ((n ≡ d) ⊎ Contains ms d → Contains (put_in nat_lt n ms) d) → Contains (if b then n ∷ m ∷ ms else m ∷ put_in nat_lt n ms) d
  by true (inl is) more = subst (λ z. Contains (n ∷ m ∷ ms) z) is (contains_first n (m ∷ ms))
  by true (inr old) more = contains_more n (m ∷ ms) d old
  by false where_is more = deeper more where_is

from_put : (n : ℕ) (ns : List ℕ) (d : ℕ) → Contains (put_in nat_lt n ns) d → (n ≡ d) ⊎ Contains ns d
from_put n [] d there = contains_cases n [] d there
from_put n (m ∷ ms) d there = by (nat_lt n m) there (λ k. from_put n ms d k) where
  under : (Contains (put_in nat_lt n ms) d → (n ≡ d) ⊎ Contains ms d) → (m ≡ d) ⊎ Contains (put_in nat_lt n ms) d → (n ≡ d) ⊎ Contains (m ∷ ms) d
  under more (inl is) = inr (subst (λ z. Contains (m ∷ ms) z) is (contains_first m ms))
  under more (inr deeper) = elim (more deeper) [ inl is ↦ inl is | inr old ↦ inr (contains_more m ms d old) ]

  by : (b : Bool) → Contains (if b then n ∷ m ∷ ms else m ∷ put_in nat_lt n ms) d → (Contains (put_in nat_lt n ms) d → (n ≡ d) ⊎ Contains ms d) → (n ≡ d) ⊎ Contains (m ∷ ms) d
  by true there more = contains_cases n (m ∷ ms) d there
  by false there more = under more (contains_cases m (put_in nat_lt n ms) d there)

order_there : (ns sorted : List ℕ) (d : ℕ) → Contains ns d ⊎ Contains sorted d → Contains (fold (λ ms n. put_in nat_lt n ms) sorted ns) d
order_there [] sorted d (inl none) = absurd (contains_none d none)
order_there [] sorted d (inr there) = there
order_there (n ∷ ns) sorted d there = order_there ns (put_in nat_lt n sorted) d (by there) where
  by : Contains (n ∷ ns) d ⊎ Contains sorted d → Contains ns d ⊎ Contains (put_in nat_lt n sorted) d
  by (inr old) = inr (put_there n sorted d (inr old))
  by (inl new) = elim (contains_cases n ns d new) [ inl is ↦ inr (put_there n sorted d (inl is)) | inr rest ↦ inl rest ]

from_order : (ns sorted : List ℕ) (d : ℕ) → Contains (fold (λ ms n. put_in nat_lt n ms) sorted ns) d → Contains ns d ⊎ Contains sorted d
from_order [] sorted d there = inr there
from_order (n ∷ ns) sorted d there = by (from_order ns (put_in nat_lt n sorted) d there) where
  put : (n ≡ d) ⊎ Contains sorted d → Contains (n ∷ ns) d ⊎ Contains sorted d
  put (inl is) = inl (subst (λ z. Contains (n ∷ ns) z) is (contains_first n ns))
  put (inr old) = inr old

  by : Contains ns d ⊎ Contains (put_in nat_lt n sorted) d → Contains (n ∷ ns) d ⊎ Contains sorted d
  by (inl rest) = inl (contains_more n ns d rest)
  by (inr inside) = put (from_put n sorted d inside)

once_there : (ns found : List ℕ) (d : ℕ) → Contains ns d ⊎ Contains found d → Contains (fold (add_new nat_eq) found ns) d
once_there [] found d (inl none) = absurd (contains_none d none)
once_there [] found d (inr there) = there
once_there (n ∷ ns) found d there = once_there ns (add_new nat_eq found n) d (by (list_any (nat_eq n) found) refl there) where
  new : (b : Bool) → list_any (nat_eq n) found ≡ b → (n ≡ d) ⊎ Contains ns d → Contains ns d ⊎ Contains (if b then found else found ++ n ∷ []) d
  new b is (inr rest) = inl rest
  new false is (inl one) = inr (subst (λ z. Contains (found ++ n ∷ []) z) one (contains_right found (n ∷ []) n (contains_first n [])))
  new true is (inl one) =
      let a = any_found (nat_eq n) found is in
      inr (subst (λ z. Contains found z) (sym (eqb-true n a.0 a.2) ∙ one) a.1)

  by : (b : Bool) → list_any (nat_eq n) found ≡ b → Contains (n ∷ ns) d ⊎ Contains found d → Contains ns d ⊎ Contains (if b then found else found ++ n ∷ []) d
  by true is (inr old) = inr old
  by false is (inr old) = inr (contains_left found (n ∷ []) d old)
  by b is (inl at) = new b is (contains_cases n ns d at)

from_once : (ns found : List ℕ) (d : ℕ) → Contains (fold (add_new nat_eq) found ns) d → Contains ns d ⊎ Contains found d
from_once [] found d there = inr there
from_once (n ∷ ns) found d there = by (from_once ns (add_new nat_eq found n) d there) where
  last : Contains found d ⊎ (n ≡ d) → Contains (n ∷ ns) d ⊎ Contains found d
  last (inl old) = inr old
  last (inr is) = inl (subst (λ z. Contains (n ∷ ns) z) is (contains_first n ns))

  added : (b : Bool) → Contains (if b then found else found ++ n ∷ []) d → Contains (n ∷ ns) d ⊎ Contains found d
  added true old = inr old
  added false more = last (contains_last found n d more)

  by : Contains ns d ⊎ Contains (add_new nat_eq found n) d → Contains (n ∷ ns) d ⊎ Contains found d
  by (inl rest) = inl (contains_more n ns d rest)
  by (inr some_one) = added (list_any (nat_eq n) found) some_one

rising_there : (ns : List ℕ) (d : ℕ) → Contains ns d → Contains (rising ns) d
rising_there ns d there = order_there (once_each nat_eq ns) [] d (inl (once_there ns [] d (inl there)))

from_rising : (ns : List ℕ) (d : ℕ) → Contains (rising ns) d → Contains ns d
from_rising ns d there = elim (from_order (once_each nat_eq ns) [] d there) [
  | inr none ↦ absurd (contains_none d none)
  | inl inside ↦ elim (from_once ns [] d inside) [ inl is ↦ is | inr none ↦ absurd (contains_none d none) ]
]

-- ---- holders

-- A holding of the session of this process.
pub record HeldBy (t : Trace) (s : Session) (p : ℕ) : Type 0 where
  pub grant : Grant
  pub held : Contains (holdings t) grant
  pub session : grant.session ≡ s.number
  pub process : grant.process ≡ p
  pub own : is_orphan grant ≡ false

pub held_by_one : (t : Trace) (s : Session) (p : ℕ) → Contains (holders_of t s) p → HeldBy t s p
held_by_one t s p there =
    let found = in_map (λ (g : Grant). g.process) (filter (λ (g : Grant). not (is_orphan g)) (holdings_of t s)) p (from_rising (map (λ (g : Grant). g.process) (filter (λ (g : Grant). not (is_orphan g)) (holdings_of t s))) p there) in
    let own = kept_inside (λ (g : Grant). not (is_orphan g)) (holdings_of t s) found.0 found.1 in
    let its = kept_inside (λ (g : Grant). g.session == s.number) (holdings t) found.0 own.0 in
    record { grant = found.0; held = its.0; session = eqb-true found.0.session s.number its.1; process = found.2; own = not_is (is_orphan found.0) own.1 }

pub holder_of_one : (t : Trace) (s : Session) (p : ℕ) → HeldBy t s p → Contains (holders_of t s) p
holder_of_one t s p h =
    let its : Contains (holdings_of t s) h.grant = kept (λ (g : Grant). g.session == s.number) (holdings t) h.grant (ap (λ n. n == s.number) h.session ∙ number_itself s.number) h.held in
    let own : Contains (filter (λ (g : Grant). not (is_orphan g)) (holdings_of t s)) h.grant = kept (λ (g : Grant). not (is_orphan g)) (holdings_of t s) h.grant (ap (λ b. not b) h.own) its in
    rising_there (map (λ (g : Grant). g.process) (filter (λ (g : Grant). not (is_orphan g)) (holdings_of t s))) p
    (subst (λ q. Contains (map (λ (g : Grant). g.process) (filter (λ (g : Grant). not (is_orphan g)) (holdings_of t s))) q) h.process
    (contains_map (λ (g : Grant). g.process) (filter (λ (g : Grant). not (is_orphan g)) (holdings_of t s)) h.grant own))

-- Where all that was held still is, each holder still holds.
pub holders_stay : (t u : Trace) (s : Session) → ((g : Grant) → Contains (holdings t) g → Contains (holdings u) g) → (p : ℕ) → Contains (holders_of t s) p → Contains (holders_of u s) p
holders_stay t u s stays p there =
    let h : HeldBy t s p = held_by_one t s p there in holder_of_one u s p (record { grant = h.grant; held = stays h.grant h.held; session = h.session; process = h.process; own = h.own })
