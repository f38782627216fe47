-- The last block that a session sent before a step is the last: a machine's calls stand by their steps, the newest first.
use Rattle.sl_run_law.proofs.Front.JoinedLists.{contains_append, contains_flat, placed_at}
use Rattle.sl_trace.specs.Leases.{is_on}
use Rattle.sl_run_law.proofs.Moment.MachinesInOrder.{machines_ordered}
use Rattle.sl_run_law.specs.Moment.Orders.{CallsFall}
use Rattle.sl_run_law.proofs.Place.FoundInLists.{finds}
use Rattle.sl_words.proofs.Lists.{contains_cases, contains_first, contains_more, contains_none, find_inside, in_map}
use Rattle.sl_safety.proofs.Resources.Calls.{machine_there, numbered_in, sent_by}
use Rattle.sl_safety.proofs.Resources.NewestCalls.{calls_below}
use Rattle.sl_safety.proofs.Resources.OwnBlocks.{same_is}
use Rattle.sl_safety.specs.Resources.SentCalls.{Sent, all_sent, is_block_before, same_session, sender_of, step_of, writes_block}
use Rattle.sl_run.specs.Runs.{Happening}
use Rattle.sl_run.specs.Safety.{LawfulRun, SessionId, world_at}
use Rattle.sl_run.specs.Worlds.{Course, Machine, Program, World}
use Rattle.sl_run.specs.declared.header.Header.{Header}
use Rattle.sl_trace.specs.declared.effects.Spot.{Spot}
use Rattle.sl_words.proofs.CaseLaws.{none_some, some_value, true_is_false}
use Rattle.sl_words.proofs.WordLaws.{and_true}
use Rattle.std.proofs.Common.{ap, arith, inl, inr, refl, subst, sym, ◌∙◌}
use Rattle.std.specs.List.{enumerate_from}
use Rattle.std.specs.Prelude.{Bool, Contains, List, None, Some, [], cond, false, find, flat_map, map, nat_lt, true, ℕ, ◌&&◌, ◌++◌, ◌+◌, ◌<◌, ◌∷◌, ◌≡◌, ◌≤◌, ◌⊎◌}

abbrev sent_from : ℕ → Course → Sent
sent_from m c = record { machine = m; course = c }

last_by : (m : ℕ) (p : Sent → Bool) (x : Course) (cs : List Course) (y : Sent) (c : Course) (n : ℕ) → CallsFall n (x ∷ cs) → (b : Bool) → p (sent_from m x) ≡ b
    → cond b (Some (sent_from m x)) (find p (map (sent_from m) cs)) ≡ Some y → (x ≡ c) ⊎ Contains cs c → p (sent_from m c) ≡ true
    → (find p (map (sent_from m) cs) ≡ Some y → Contains cs c → c.made.step ≤ step_of y) → c.made.step ≤ step_of y
last_by m p x cs y c n h true is at (inl here) passes rest =
    let same : c.made.step ≡ step_of y = ap (λ (z : Course). z.made.step) (sym here) ∙ ap step_of (some_value (sent_from m x) y at) in omega (arith, same)
last_by m p x cs y c n h true is at (inr more) passes rest =
    let lt : c.made.step < x.made.step + 1 = calls_below (x.made.step + 1) cs c h.2 more in
    let same : x.made.step ≡ step_of y = ap step_of (some_value (sent_from m x) y at) in
    omega (arith, lt, same)
last_by m p x cs y c n h false is at (inl here) passes rest = absurd (true_is_false (sym passes ∙ ap (λ z. p (sent_from m z)) (sym here) ∙ is))
last_by m p x cs y c n h false is at (inr more) passes rest = rest at more

last_in : (m : ℕ) (p : Sent → Bool) (cs : List Course) (y : Sent) (c : Course) (n : ℕ) → CallsFall n cs → find p (map (sent_from m) cs) ≡ Some y → Contains cs c
    → p (sent_from m c) ≡ true → c.made.step ≤ step_of y
last_in m p [] y c n h at has passes = absurd (contains_none c has)
last_in m p (x ∷ cs) y c n h at has passes =
    last_by m p x cs y c n h (p (sent_from m x)) refl at (contains_cases x cs c has) passes (λ found inside. last_in m p cs y c (x.made.step + 1) h.2 found inside passes)

abbrev FirstOrThen : {A : Type 0} → (A → Bool) → List A → List A → A → Type 0
FirstOrThen p xs ys y = (find p xs ≡ Some y) ⊎ ((find p xs ≡ None) × (find p ys ≡ Some y))

find_by : {A : Type 0} (p : A → Bool) (x : A) (xs ys : List A) (y : A) (b : Bool) → cond b (Some x) (find p (xs ++ ys)) ≡ Some y → (find p (xs ++ ys) ≡ Some y → FirstOrThen p xs ys y)
    → (cond b (Some x) (find p xs) ≡ Some y) ⊎ ((cond b (Some x) (find p xs) ≡ None) × (find p ys ≡ Some y))
find_by p x xs ys y true at rest = inl at
find_by p x xs ys y false at rest = rest at

find_parts : {A : Type 0} (p : A → Bool) (xs ys : List A) (y : A) → find p (xs ++ ys) ≡ Some y → FirstOrThen p xs ys y
find_parts p [] ys y at = inr (refl, at)
find_parts p (x ∷ xs) ys y at = find_by p x xs ys y (p x) at (λ rest. find_parts p xs ys y rest)

from_later : (k : ℕ) (ms : List Machine) (x : Sent) → Contains (flat_map sent_by (enumerate_from (k + 1) ms)) x → k < x.machine
from_later k ms x there =
    let f = contains_flat sent_by (enumerate_from (k + 1) ms) x there in
    let n = numbered_in (k + 1) ms f.0 f.1 in
    let c = in_map (sent_from f.0.0) f.0.1.calls x f.2 in
    let same : x.machine ≡ (k + 1) + n.0 = ap (λ (y : Sent). y.machine) (sym c.2) ∙ n.1 in
    omega (arith, same)

of_first : (k : ℕ) (a : Machine) (x : Sent) → Contains (sent_by (k, a)) x → (x.machine ≡ k) × Contains a.calls x.course
of_first k a x there =
    let c = in_map (sent_from k) a.calls x there in
    (ap (λ (y : Sent). y.machine) (sym c.2), subst (λ (y : Sent). Contains a.calls y.course) c.2 c.1)

abbrev AllFall : ℕ → List Machine → Type 0
AllFall n ms = (a : Machine) → Contains ms a → CallsFall n a.calls

apart : (k m n : ℕ) → m ≡ k → k < n → n ≡ m → ⊥
apart k m n p q e = omega (arith, p, q, e)

not_found : (p : Sent → Bool) (xs : List Sent) (x : Sent) → find p xs ≡ None → Contains xs x → p x ≡ true → ⊥
not_found p xs x none there passes = let f = finds p xs x passes there in none_some f.0 (sym none ∙ f.1)

last_all : (p : Sent → Bool) (n k : ℕ) (ms : List Machine) (x y : Sent) → AllFall n ms → find p (flat_map sent_by (enumerate_from k ms)) ≡ Some y
    → Contains (flat_map sent_by (enumerate_from k ms)) x → p x ≡ true → x.machine ≡ y.machine → step_of x ≤ step_of y
last_all p n k [] x y falls at there passes same = absurd (contains_none x there)
last_all p n k (a ∷ ms) x y falls at there passes same =
    by (λ found inside. last_all p n (k + 1) ms x y (λ b has. falls b (contains_more a ms b has)) found inside passes same)
    (find_parts p (sent_by (k, a)) (flat_map sent_by (enumerate_from (k + 1) ms)) y at)
    (contains_append (sent_by (k, a)) (flat_map sent_by (enumerate_from (k + 1) ms)) x there)
  where
    by : (find p (flat_map sent_by (enumerate_from (k + 1) ms)) ≡ Some y → Contains (flat_map sent_by (enumerate_from (k + 1) ms)) x → step_of x ≤ step_of y)
        → FirstOrThen p (sent_by (k, a)) (flat_map sent_by (enumerate_from (k + 1) ms)) y
        → Contains (sent_by (k, a)) x ⊎ Contains (flat_map sent_by (enumerate_from (k + 1) ms)) x → step_of x ≤ step_of y
    by rest (inl first) (inl here) =
        let c = of_first k a x here in
        last_in k p a.calls y x.course n (falls a (contains_first a ms)) first c.1 (ap (λ m. p (sent_from m x.course)) (sym c.0) ∙ passes)
    by rest (inl first) (inr more) =
        let f = find_inside p (sent_by (k, a)) y first in
        absurd (apart k y.machine x.machine (of_first k a y f.0).0 (from_later k ms x more) same)
    by rest (inr later) (inl here) = absurd (not_found p (sent_by (k, a)) x later.0 here passes)
    by rest (inr later) (inr more) = rest later.1 more

all_fall : (p : Program) (h : Header) (xs : List Happening) → LawfulRun p h xs → AllFall (world_at p h xs).step (world_at p h xs).machines
all_fall p h xs run a has =
    let i = placed_at (world_at p h xs).machines a has in
    (machines_ordered p h xs run (1 + i.0) a (machine_there (world_at p h xs) (1 + i.0) i.0 a refl i.1)).calls

sender_before : (w : World) (at : Spot) (i : SessionId) (step : ℕ) (x : Sent) → is_block_before w at i step x ≡ true → i ≡ sender_of x
sender_before w at i step x h =
    same_is i (sender_of x) (and_true (nat_lt (step_of x) step && is_on w.layout at x.course.call && writes_block x.course) (same_session i (sender_of x)) h).1

-- Each block that a session sent before a step was sent by the last of them.
pub last_is_last : (p : Program) (h : Header) (xs : List Happening) → LawfulRun p h xs → (at : Spot) (i : SessionId) (step : ℕ) (x y : Sent)
    → find (is_block_before (world_at p h xs) at i step) (all_sent (world_at p h xs)) ≡ Some y → Contains (all_sent (world_at p h xs)) x
    → is_block_before (world_at p h xs) at i step x ≡ true → step_of x ≤ step_of y
last_is_last p h xs run at i step x y found there passes =
    let w : World = world_at p h xs in
    let test : Sent → Bool = is_block_before w at i step in
    let one = sender_before w at i step x passes in
    let two = sender_before w at i step y (find_inside test (all_sent w) y found).1 in
    last_all test w.step 1 w.machines x y (all_fall p h xs run) found there passes (ap (λ (s : SessionId). s.machine) (sym one ∙ two))
