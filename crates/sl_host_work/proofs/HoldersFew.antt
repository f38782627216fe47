-- Members have no more holders than there are holdings.
use Rattle.sl_host_state.specs.KeptState.{MemberState}
use Rattle.sl_host_work.specs.KilledMembers.{count_under, holders_of_all}
use Rattle.sl_host_work.specs.FewHolders.{HoldersAreFew}
use Rattle.sl_member.specs.HostMembers.{AreApart}
use Rattle.sl_trace.specs.Traces.{is_orphan}
use Rattle.sl_trace.specs.declared.effects.Grant.{Grant}
use Rattle.sl_words.specs.Orders.{add_new, once_each, put_in, rising}
use Rattle.std.proofs.Common.{ap, arith, length-append, refl, ◌∙◌}
use Rattle.std.proofs.lemmas.Bool.{eqb-true}
use Rattle.std.proofs.lemmas.List.{length-map}
use Rattle.std.specs.List.{AllByRecursion, list_any}
use Rattle.std.specs.Prelude.{Bool, List, [], cond, false, filter, fold, if◌then◌else◌, length, map, nat_eq, nat_lt, not, true, ℕ, ◌+◌, ◌++◌, ◌==◌, ◌∷◌, ◌≡◌, ◌≤◌}

-- ---- each once, in order

put_length : (x : ℕ) (ys : List ℕ) → length (put_in nat_lt x ys) ≡ length ys + 1
put_length x [] = grind arith
put_length x (y ∷ ys) = by (nat_lt x y) (put_length x ys) where
  by : (b : Bool) → length (put_in nat_lt x ys) ≡ length ys + 1 → length (if b then x ∷ y ∷ ys else y ∷ put_in nat_lt x ys) ≡ length (y ∷ ys) + 1
  by true rest = grind arith
  by false rest = grind arith

ordered_length : (xs sorted : List ℕ) → length (fold (λ zs x. put_in nat_lt x zs) sorted xs) ≡ length sorted + length xs
ordered_length [] sorted = grind arith
ordered_length (x ∷ xs) sorted =
    let rest : length (fold (λ zs x. put_in nat_lt x zs) (put_in nat_lt x sorted) xs) ≡ length (put_in nat_lt x sorted) + length xs = ordered_length xs (put_in nat_lt x sorted) in
    let one : length (put_in nat_lt x sorted) ≡ length sorted + 1 = put_length x sorted in
    grind (arith, rest, one)

added_length : (seen : List ℕ) (x : ℕ) → length (add_new nat_eq seen x) ≤ length seen + 1
added_length seen x = by (list_any (nat_eq x) seen) where
  by : (b : Bool) → length (if b then seen else seen ++ x ∷ []) ≤ length seen + 1
  by true = grind arith
  by false = let e : length (seen ++ x ∷ []) ≡ length seen + length (x ∷ []) = length-append seen (x ∷ []) in grind (arith, e)

once_length : (xs seen : List ℕ) → length (fold (add_new nat_eq) seen xs) ≤ length seen + length xs
once_length [] seen = grind arith
once_length (x ∷ xs) seen =
    let rest : length (fold (add_new nat_eq) (add_new nat_eq seen x) xs) ≤ length (add_new nat_eq seen x) + length xs = once_length xs (add_new nat_eq seen x) in
    let one : length (add_new nat_eq seen x) ≤ length seen + 1 = added_length seen x in
    grind (arith, rest, one)

rising_length : (ns : List ℕ) → length (rising ns) ≤ length ns
rising_length ns =
    let whole : length (rising ns) ≡ length {A = ℕ} [] + length (once_each nat_eq ns) = ordered_length (once_each nat_eq ns) [] in
    let once : length (once_each nat_eq ns) ≤ length {A = ℕ} [] + length ns = once_length ns [] in
    grind (arith, whole, once)

fewer : {A : Type 0} (p : A → Bool) (xs : List A) → length (filter p xs) ≤ length xs
fewer p [] = grind arith
fewer p (x ∷ xs) = by (p x) (fewer p xs) where
  by : (b : Bool) → length (filter p xs) ≤ length xs → length (cond b (x ∷ filter p xs) (filter p xs)) ≤ length (x ∷ xs)
  by true le = grind arith
  by false le = grind arith

-- ---- under a session

count_few : (n : ℕ) (held : List Grant) → count_under held n ≤ length (filter (λ g. g.session == n) held)
count_few n held =
    let its : List Grant = filter (λ g. g.session == n) held in
    let one : count_under held n ≤ length (map (λ g. g.process) (filter (λ g. not (is_orphan g)) its)) = rising_length (map (λ g. g.process) (filter (λ g. not (is_orphan g)) its)) in
    let two : length (map (λ g. g.process) (filter (λ g. not (is_orphan g)) its)) ≡ length (filter (λ g. not (is_orphan g)) its) = length-map (filter (λ g. not (is_orphan g)) its) (λ g. g.process) in
    let three : length (filter (λ g. not (is_orphan g)) its) ≤ length its = fewer (λ g. not (is_orphan g)) its in
    omega (arith, one, two, three)

-- ---- under all of them

abbrev total : List ℕ → List Grant → ℕ
total [] held = 0
total (n ∷ ns) held = length (filter (λ g. g.session == n) held) + total ns held

none_more : (ns : List ℕ) (g : Grant) (held : List Grant) → AllByRecursion (λ k. (g.session == k) ≡ false) ns → total ns (g ∷ held) ≡ total ns held
none_more [] g held h = refl
none_more (n ∷ ns) g held h =
    ap (λ b. length (cond b (g ∷ filter (λ k. k.session == n) held) (filter (λ k. k.session == n) held)) + total ns (g ∷ held)) h.0
    ∙ ap (λ t. length (filter (λ k. k.session == n) held) + t) (none_more ns g held h.1)

all_turned : (a b : ℕ) (ns : List ℕ) → a ≡ b → AllByRecursion (λ k. (b == k) ≡ false) ns → AllByRecursion (λ k. (a == k) ≡ false) ns
all_turned a b [] same h = tt
all_turned a b (n ∷ ns) same h = (ap (λ x. x == n) same ∙ h.0, all_turned a b ns same h.1)

one_more : (ns : List ℕ) (g : Grant) (held : List Grant) → AreApart ns → total ns (g ∷ held) ≤ total ns held + 1
one_more [] g held h = grind arith
one_more (n ∷ ns) g held h = by (g.session == n) refl (one_more ns g held h.1) where
  by : (b : Bool) → (g.session == n) ≡ b → total ns (g ∷ held) ≤ total ns held + 1
      → length (cond b (g ∷ filter (λ k. k.session == n) held) (filter (λ k. k.session == n) held)) + total ns (g ∷ held) ≤ length (filter (λ k. k.session == n) held) + total ns held + 1
  by true is rest =
      let none : total ns (g ∷ held) ≡ total ns held = none_more ns g held (all_turned g.session n ns (eqb-true g.session n is) h.0) in
      let e : length (g ∷ filter (λ k. k.session == n) held) ≡ length (filter (λ k. k.session == n) held) + 1 = grind arith in
      omega (arith, none, e)
  by false is rest = omega (arith, rest)

none_at_first : (ns : List ℕ) → total ns [] ≡ 0
none_at_first [] = refl
none_at_first (n ∷ ns) = let rest : total ns [] ≡ 0 = none_at_first ns in grind (arith, rest)

total_few : (ns : List ℕ) (held : List Grant) → AreApart ns → total ns held ≤ length held
total_few ns [] h = let none : total ns [] ≡ 0 = none_at_first ns in grind (arith, none)
total_few ns (g ∷ held) h =
    let rest : total ns held ≤ length held = total_few ns held h in
    let one : total ns (g ∷ held) ≤ total ns held + 1 = one_more ns g held h in
    grind (arith, rest, one)

all_few : (ms : List MemberState) (held : List Grant) → holders_of_all ms held ≤ total (map (λ m. m.who.number) ms) held
all_few [] held = grind arith
all_few (m ∷ ms) held =
    let rest : holders_of_all ms held ≤ total (map (λ m. m.who.number) ms) held = all_few ms held in
    let one : count_under held m.who.number ≤ length (filter (λ g. g.session == m.who.number) held) = count_few m.who.number held in
    omega (arith, rest, one)

pub holders_are_few : HoldersAreFew
holders_are_few ms held apart =
    let all : holders_of_all ms held ≤ total (map (λ m. m.who.number) ms) held = all_few ms held in
    let few : total (map (λ m. m.who.number) ms) held ≤ length held = total_few (map (λ m. m.who.number) ms) held apart in
    omega (arith, all, few)
