-- The sessions that a host begins with, one after another.
use Rattle.sl_host_state.specs.MadeEffects.{with_member}
use Rattle.sl_member.specs.Members.{RunOf, blank_member}
use Rattle.sl_member.specs.HostMembers.{member_with}
use Rattle.sl_trace.specs.Sessions.{given_session}
use Rattle.sl_trace.specs.declared.session.Session.{Session}
use Rattle.sl_trace.specs.declared.input.Given.{Given}
use Rattle.sl_host.proofs.PassNotes.{front_all, front_more}
use Rattle.sl_host.specs.NewHosts.{members_given, sessions_given}
use Rattle.sl_words.proofs.CaseLaws.{none_some, some_value}
use Rattle.sl_words.specs.Orders.{is_text_before, put_in}
use Rattle.sl_words.specs.Words.{greatest}
use Rattle.std.proofs.Common.{add-one, ap, arith, refl, subst, suc, sym, zero, ◌∙◌}
use Rattle.std.proofs.lemmas.Bool.Decides.{nat_tests}
use Rattle.std.proofs.lemmas.List.Sums.{fold-append}
use Rattle.std.proofs.lemmas.List.{length-map, length-take}
use Rattle.std.specs.List.{AllByRecursion, enumerate_from}
use Rattle.std.specs.Prelude.{Bool, List, None, Some, [], cond, false, fold, if◌then◌else◌, length, map, max, min, slice_get, take, true, ℕ, ◌+◌, ◌++◌, ◌<◌, ◌==◌, ◌∷◌, ◌≡◌, ◌≤◌}

map_end : {A B : Type 0} (f : A → B) (xs : List A) (x : A) → map f (xs ++ x ∷ []) ≡ map f xs ++ f x ∷ []
map_end f [] x = refl
map_end f (y ∷ xs) x = ap (λ zs. f y ∷ zs) (map_end f xs x)

-- What is said of each of a list is said of one.
pub said_at : {A : Type 0} (P : A → Type 0) (xs : List A) (k : ℕ) (x : A) → AllByRecursion P xs → slice_get xs k ≡ Some x → P x
said_at P [] k x all at = absurd (none_some x at)
said_at P (y ∷ xs) zero x all at = subst P (some_value y x at) all.0
said_at P (y ∷ xs) (suc k) x all at = said_at P xs k x all.1 at

-- ---- the last renewal

greatest_end : (ns : List ℕ) (n : ℕ) → greatest (ns ++ n ∷ []) ≡ max n (greatest ns)
greatest_end [] n = refl
greatest_end (k ∷ ns) n =
    let rest : greatest (ns ++ n ∷ []) ≡ max n (greatest ns) = greatest_end ns n in omega (arith, rest)

pub last_more : (gs : List Given) (k : ℕ) (g : Given) → slice_get gs k ≡ Some g
    → max g.renewed (greatest (map (λ g. g.renewed) (take k gs))) ≡ greatest (map (λ g. g.renewed) (take (k + 1) gs))
last_more gs k g at =
    sym (ap (λ (xs : List Given). greatest (map (λ g. g.renewed) xs)) (front_more gs k g at) ∙ (ap greatest (map_end (λ (g : Given). g.renewed) (take k gs) g)
    ∙ greatest_end (map (λ (g : Given). g.renewed) (take k gs)) g.renewed))

pub last_all : (gs : List Given) → greatest (map (λ (g : Given). g.renewed) (take (length gs) gs)) ≡ greatest (map (λ g. g.renewed) gs)
last_all gs = ap (λ (xs : List Given). greatest (map (λ g. g.renewed) xs)) (front_all gs)

-- ---- connections

pub names_more : (gs : List Given) (k : ℕ) (g : Given) → slice_get gs k ≡ Some g → map (λ (g : Given). g.lockspace) (take k gs) ++ g.lockspace ∷ [] ≡ map (λ g. g.lockspace) (take (k + 1) gs)
names_more gs k g at =
    sym (ap (λ (xs : List Given). map (λ g. g.lockspace) xs) (front_more gs k g at) ∙ map_end (λ (g : Given). g.lockspace) (take k gs) g)

pub names_all : (gs : List Given) → map (λ (g : Given). g.lockspace) (take (length gs) gs) ≡ map (λ g. g.lockspace) gs
names_all gs = ap (λ (xs : List Given). map (λ g. g.lockspace) xs) (front_all gs)

-- ---- sessions

-- Whether a session comes first.
abbrev before : Session → Session → Bool
before a b = is_text_before a.lockspace b.lockspace

abbrev put : List Session → Session → List Session
put sorted s = put_in before s sorted

numbered : (n : ℕ) (gs : List Given) → List Session
numbered n gs = map given_session (enumerate_from n gs)

numbered_end : (n : ℕ) (gs : List Given) (k : ℕ) (g : Given) → slice_get gs k ≡ Some g
    → map given_session (enumerate_from n (take (suc k) gs)) ≡ map given_session (enumerate_from n (take k gs)) ++ given_session (n + k, g) ∷ []
numbered_end n [] k g at = absurd (none_some g at)
numbered_end n (x ∷ gs) zero g at = ap (λ y. given_session (n, y) ∷ []) (some_value x g at) ∙ ap (λ i. given_session (i, g) ∷ []) (let e : n ≡ n + 0 = omega arith in e)
numbered_end n (x ∷ gs) (suc k) g at =
    ap (λ zs. given_session (n, x) ∷ zs) (numbered_end (n + 1) gs k g at)
    ∙ ap (λ i. given_session (n, x) ∷ (map given_session (enumerate_from (n + 1) (take k gs)) ++ given_session (i, g) ∷ []))
    (let e : n + 1 + k ≡ n + suc k = omega arith in e)

sorted_more : (gs : List Given) (k : ℕ) (g : Given) → slice_get gs k ≡ Some g → put (sessions_given (take k gs)) (given_session (k, g)) ≡ sessions_given (take (k + 1) gs)
sorted_more gs k g at =
    sym (ap (λ i. sessions_given (take i gs)) (add-one k) ∙ (ap (λ xs. fold put [] xs) (numbered_end 0 gs k g at)
    ∙ (ap (λ i. fold put [] (map given_session (enumerate_from 0 (take k gs)) ++ given_session (i, g) ∷ [])) (let e : 0 + k ≡ k = omega arith in e)
    ∙ fold-append put [] (map given_session (enumerate_from 0 (take k gs))) (given_session (k, g) ∷ []))))

seated : (run : RunOf) (s : Session) (xs : List Session) → with_member (blank_member run s) (map (blank_member run) xs) ≡ map (blank_member run) (put xs s)
seated run s [] = refl
seated run s (x ∷ xs) = by (before s x) (seated run s xs) where
  by : (b : Bool) → with_member (blank_member run s) (map (blank_member run) xs) ≡ map (blank_member run) (put xs s)
      → (if b then blank_member run s ∷ blank_member run x ∷ map (blank_member run) xs else blank_member run x ∷ with_member (blank_member run s) (map (blank_member run) xs))
      ≡ map (blank_member run) (if b then s ∷ x ∷ xs else x ∷ put xs s)
  by true rest = refl
  by false rest = ap (λ zs. blank_member run x ∷ zs) rest

-- One more is seated.
pub seated_more : (run : RunOf) (gs : List Given) (k : ℕ) (g : Given) → slice_get gs k ≡ Some g
    → with_member (blank_member run (given_session (k, g))) (members_given run (take k gs)) ≡ members_given run (take (k + 1) gs)
seated_more run gs k g at = seated run (given_session (k, g)) (sessions_given (take k gs)) ∙ ap (λ xs. map (blank_member run) xs) (sorted_more gs k g at)

pub seated_all : (run : RunOf) (gs : List Given) → members_given run (take (length gs) gs) ≡ members_given run gs
seated_all run gs = ap (members_given run) (front_all gs)

-- ---- how many there are

put_long : (s : Session) (xs : List Session) → length (put xs s) ≡ length xs + 1
put_long s [] = refl
put_long s (x ∷ xs) = by (before s x) (put_long s xs) where
  by : (b : Bool) → length (put xs s) ≡ length xs + 1 → length (if b then s ∷ x ∷ xs else x ∷ put xs s) ≡ length (x ∷ xs) + 1
  by true rest = omega arith
  by false rest = omega (arith, rest)

folded_long : (acc xs : List Session) → length (fold put acc xs) ≡ length acc + length xs
folded_long acc [] = omega arith
folded_long acc (x ∷ xs) =
    let rest : length (fold put (put acc x) xs) ≡ length (put acc x) + length xs = folded_long (put acc x) xs in
    let one : length (put acc x) ≡ length acc + 1 = put_long x acc in omega (arith, rest, one)

numbered_long : (n : ℕ) (gs : List Given) → length (map given_session (enumerate_from n gs)) ≡ length gs
numbered_long n [] = refl
numbered_long n (g ∷ gs) = let rest : length (map given_session (enumerate_from (n + 1) gs)) ≡ length gs = numbered_long (n + 1) gs in omega (arith, rest)

-- No more than were seated.
pub seated_few : (run : RunOf) (gs : List Given) (k : ℕ) → length (members_given run (take k gs)) ≤ k
seated_few run gs k =
    let mapped : length (members_given run (take k gs)) ≡ length (sessions_given (take k gs)) = length-map (sessions_given (take k gs)) (blank_member run) in
    let sorted : length (sessions_given (take k gs)) ≡ 0 + length (map given_session (enumerate_from 0 (take k gs))) = folded_long [] (map given_session (enumerate_from 0 (take k gs))) in
    let each : length (map given_session (enumerate_from 0 (take k gs))) ≡ length (take k gs) = numbered_long 0 (take k gs) in
    let front : length (take k gs) ≡ min k (length gs) = length-take k gs in
    omega (arith, mapped, sorted, each, front)

-- ---- their numbers

put_below : (n : ℕ) (s : Session) (xs : List Session) → s.number < n → AllByRecursion (λ x. x.number < n) xs → AllByRecursion (λ x. x.number < n) (put xs s)
put_below n s [] is all = (is, tt)
put_below n s (x ∷ xs) is all = by (before s x) (put_below n s xs is all.1) where
  by : (b : Bool) → AllByRecursion (λ x. x.number < n) (put xs s) → AllByRecursion (λ x. x.number < n) (if b then s ∷ x ∷ xs else x ∷ put xs s)
  by true rest = (is, all)
  by false rest = (all.0, rest)

folded_below : (n : ℕ) (acc xs : List Session) → AllByRecursion (λ x. x.number < n) acc → AllByRecursion (λ x. x.number < n) xs → AllByRecursion (λ x. x.number < n) (fold put acc xs)
folded_below n acc [] has all = has
folded_below n acc (x ∷ xs) has all = folded_below n (put acc x) xs (put_below n x acc all.0 has) all.1

numbered_below : (n k : ℕ) (gs : List Given) → n + length gs ≤ k → AllByRecursion (λ x. x.number < k) (map given_session (enumerate_from n gs))
numbered_below n k [] le = tt
numbered_below n k (g ∷ gs) le = (omega (arith, le), numbered_below (n + 1) k gs (omega (arith, le)))

none_with : (run : RunOf) (n : ℕ) (xs : List Session) → AllByRecursion (λ x. x.number < n) xs → member_with n (map (blank_member run) xs) ≡ None
none_with run n [] all = refl
none_with run n (x ∷ xs) all =
    ap (λ b. cond b (Some (blank_member run x)) (member_with n (map (blank_member run) xs))) (let lt : x.number < n = all.0 in let e : (x.number == n) ≡ false = grind (arith, nat_tests) in e)
    ∙ none_with run n xs all.1

-- The next number is none of theirs.
pub seated_none : (run : RunOf) (gs : List Given) (k : ℕ) → member_with k (members_given run (take k gs)) ≡ None
seated_none run gs k =
    let front : length (take k gs) ≡ min k (length gs) = length-take k gs in
    none_with run k (sessions_given (take k gs))
    (folded_below k [] (map given_session (enumerate_from 0 (take k gs))) tt (numbered_below 0 k (take k gs) (omega (arith, front))))
