-- The newest call of a machine that passes a test, and where a call of a world stands.
use Rattle.sl_run_law.specs.Moment.Orders.{CallsFall}
use Rattle.sl_words.proofs.Lists.{contains_cases, contains_none}
use Rattle.sl_words.proofs.Numbers.{below_next, equal_is_most}
use Rattle.sl_safety.specs.Resources.SentCalls.{Sent, all_sent, step_of}
use Rattle.sl_run.specs.Worlds.{Course, Machine, World, machine_at}
use Rattle.sl_run_law.proofs.MachineWalk.{index}
use Rattle.sl_words.proofs.CaseLaws.{is_false, none_some, some_value, true_is_false}
use Rattle.std.proofs.Common.{ap, arith, inl, inr, refl, subst, sym, tests, ◌∙◌}
use Rattle.std.specs.List.{enumerate_from}
use Rattle.std.specs.Prelude.{Bool, Contains, List, Some, [], cond, false, find, flat_map, map, slice_get, suc, true, zero, ℕ, ◌++◌, ◌+◌, ◌-◌, ◌<◌, ◌==◌, ◌∷◌, ◌≡◌, ◌≤◌, ◌⊎◌}

abbrev pub sent_as : ℕ → Course → Sent
sent_as m c = record { machine = m; course = c }

abbrev calls_from : ℕ × Machine → List Sent
calls_from p = map (λ c. sent_as p.0 c) p.1.calls

-- ---- of calls that fall, the first one that passes is the newest

below_one : (k n j : ℕ) → k < j + 1 → j < n → k < n
below_one k n j h less = omega (arith, h, less)

pub calls_below : (n : ℕ) (cs : List Course) (c : Course) → CallsFall n cs → Contains cs c → c.made.step < n
calls_below n [] c fall has = absurd (contains_none c has)
calls_below n (d ∷ cs) c fall has =
    elim (contains_cases d cs c has) as (λ z. c.made.step < n) [
      | inl same ↦ subst (λ x. x.made.step < n) same fall.0
      | inr more ↦ below_one c.made.step n d.made.step (calls_below (d.made.step + 1) cs c fall.2 more) fall.0
    ]

here_by : (P : Sent → Bool) (m : ℕ) (d : Course) (cs : List Course) (rest : List Sent) (y : Sent) (c : Course) (b : Bool) → P (sent_as m d) ≡ b
    → CallsFall (d.made.step + 1) cs → (d ≡ c) ⊎ Contains cs c → P (sent_as m c) ≡ true → cond b (Some (sent_as m d)) (find P (map (λ x. sent_as m x) cs ++ rest)) ≡ Some y
    → (Contains cs c → find P (map (λ x. sent_as m x) cs ++ rest) ≡ Some y → c.made.step ≤ step_of y) → c.made.step ≤ step_of y
here_by P m d cs rest y c true is fall (inl same) pass found later =
    equal_is_most c.made.step (step_of y) (ap (λ x. x.made.step) (sym same) ∙ ap step_of (some_value (sent_as m d) y found))
here_by P m d cs rest y c true is fall (inr more) pass found later =
    subst (λ x. c.made.step ≤ step_of x) (some_value (sent_as m d) y found) (below_next c.made.step d.made.step (calls_below (d.made.step + 1) cs c fall more))
here_by P m d cs rest y c false is fall (inl same) pass found later = absurd (true_is_false (sym pass ∙ ap (λ x. P (sent_as m x)) (sym same) ∙ is))
here_by P m d cs rest y c false is fall (inr more) pass found later = later more found

newest_here : (P : Sent → Bool) (m n : ℕ) (cs : List Course) (rest : List Sent) (y : Sent) (c : Course) → CallsFall n cs → Contains cs c → P (sent_as m c) ≡ true
    → find P (map (λ x. sent_as m x) cs ++ rest) ≡ Some y → c.made.step ≤ step_of y
newest_here P m n [] rest y c fall has pass found = absurd (contains_none c has)
newest_here P m n (d ∷ cs) rest y c fall has pass found =
    here_by P m d cs rest y c (P (sent_as m d)) refl fall.2 (contains_cases d cs c has) pass found
    (λ more f. newest_here P m (d.made.step + 1) cs rest y c fall.2 more pass f)

-- ---- among the calls of all machines

passed_over : (P : Sent → Bool) (k : ℕ) (cs : List Course) (rest : List Sent) → ((c : Course) → P (sent_as k c) ≡ true → ⊥)
    → find P (map (λ x. sent_as k x) cs ++ rest) ≡ find P rest
passed_over P k [] rest none = refl
passed_over P k (c ∷ cs) rest none =
    ap (λ b. cond b (Some (sent_as k c)) (find P (map (λ x. sent_as k x) cs ++ rest))) (is_false (P (sent_as k c)) (none c)) ∙ passed_over P k cs rest none

other_place : (k i m : ℕ) → k + suc i ≡ m → k ≡ m → ⊥
other_place k i m h e = omega (arith, h, e)

newest_among : (P : Sent → Bool) (m n k : ℕ) (ms : List Machine) (i : ℕ) (a : Machine) (y : Sent) (c : Course) → slice_get ms i ≡ Some a → k + i ≡ m
    → CallsFall n a.calls → ((x : Sent) → P x ≡ true → x.machine ≡ m) → Contains a.calls c → P (sent_as m c) ≡ true
    → find P (flat_map calls_from (enumerate_from k ms)) ≡ Some y → c.made.step ≤ step_of y
newest_among P m n k [] i a y c at place fall only has pass found = absurd (none_some a at)
newest_among P m n k (b ∷ ms) zero a y c at place fall only has pass found =
    let same : k ≡ m = omega (arith, place) in
    let its : b ≡ a = some_value b a at in
    newest_here P k n b.calls (flat_map calls_from (enumerate_from (k + 1) ms)) y c (subst (λ x. CallsFall n x.calls) (sym its) fall)
    (subst (λ x. Contains x.calls c) (sym its) has) (ap (λ j. P (sent_as j c)) same ∙ pass) found
newest_among P m n k (b ∷ ms) (suc i) a y c at place fall only has pass found =
    newest_among P m n (k + 1) ms i a y c at (omega (arith, place)) fall only has pass
    (sym (passed_over P k b.calls (flat_map calls_from (enumerate_from (k + 1) ms)) (λ x passes. other_place k i m place (only (sent_as k x) passes))) ∙ found)

pub place_above : (m : ℕ) → (m == 0) ≡ false → 1 + (m - 1) ≡ m
place_above m h = grind (arith, tests)

-- What is found first is the newest of a machine's calls that pass, where only that machine's do.
pub newest : (P : Sent → Bool) (w : World) (m n : ℕ) (a : Machine) (y : Sent) (c : Course) → machine_at w m ≡ Some a → CallsFall n a.calls
    → ((x : Sent) → P x ≡ true → x.machine ≡ m) → Contains a.calls c → P (sent_as m c) ≡ true → find P (all_sent w) ≡ Some y → c.made.step ≤ step_of y
newest P w m n a y c at fall only has pass found =
    let i = index w m a at in
    newest_among P m n 1 w.machines (m - 1) a y c i.1 (place_above m i.0) fall only has pass found
