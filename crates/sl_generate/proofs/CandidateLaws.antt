-- Candidates, one kind of event after another.
use Rattle.sl_generate.specs.Candidates.{call_candidates, first_with, life_candidates, time_candidates, work_event}
use Rattle.sl_world_state.specs.KeptWorld.{KeptState, MachineState, machine_in}
use Rattle.sl_report.specs.GeneratedSchedules.{with_call}
use Rattle.sl_run.specs.declared.event.Event.TheVariants.{AnswerCall, Do, DropWrite, Test}
use Rattle.sl_run.specs.declared.event.Event.{Event}
use Rattle.sl_words.proofs.Lists.{there_is}
use Rattle.sl_words.proofs.CaseLaws.{none_some, some_value}
use Rattle.sl_words.specs.Words.{first_of_list, least}
use Rattle.sl_world_law.specs.DrawnCandidates.{candidates_in, ended_in, least_call_in}
use Rattle.std.proofs.Common.{Bool, List, None, Option, Some, [], ap, ap₂, arith, cond, drop, false, map, refl, suc, sym, true, zero, ℕ, length, ◌%◌, ◌++◌, ◌+◌, ◌-◌, ◌<◌, ◌==◌, ◌≤◌, ◌∙◌, ◌∷◌, ◌≡◌}
use Rattle.std.proofs.lemmas.Bool.{ne_eqb}
use Rattle.std.specs.List.{cons_option, enumerate_from}
use Rattle.std.specs.Prelude.{if◌then◌else◌, filter, filter_map, nat_lt, not, option_and_then, option_map, slice_get}

-- ---- calls of ended daemons

drop_at : {A : Type 0} (xs : List A) (i : ℕ) (x : A) → slice_get xs i ≡ Some x → drop i xs ≡ x ∷ drop (suc i) xs
drop_at [] i x h = absurd (none_some x h)
drop_at (y ∷ ys) zero x h = ap (λ z. z ∷ ys) (some_value y x h)
drop_at (y ∷ ys) (suc i) x h = drop_at ys i x h

-- The least of the machines from this one on.
abbrev pub least_from : List MachineState → ℕ → Option (ℕ × ℕ)
least_from ms m = first_of_list (filter_map ended_in (enumerate_from (m + 1) (drop m ms)))

least_back : (ms : List MachineState) (m : ℕ) (s : MachineState) → slice_get ms (m - 1) ≡ Some s → 1 ≤ m
    → least_from ms (m - 1) ≡ first_with m (least (map (λ f. f.number) (filter (λ f. not f.own) s.flights))) (least_from ms m)
least_back ms m s at low =
    ap₂ (λ a xs. first_of_list (filter_map ended_in (enumerate_from a xs))) here (drop_at ms (m - 1) s at ∙ ap (λ i. s ∷ drop i ms) next)
    ∙ by (least (map (λ f. f.number) (filter (λ f. not f.own) s.flights))) (filter_map ended_in (enumerate_from (m + 1) (drop m ms)))
  where
    here : (m - 1) + 1 ≡ m
    here = omega (arith, low)

    next : suc (m - 1) ≡ m
    next = omega (arith, low)

    by : (o : Option ℕ) (rest : List (ℕ × ℕ)) → first_of_list (cons_option (option_map {T = ℕ} {U = ℕ × ℕ} (λ c. (m, c)) o) rest) ≡ first_with m o (first_of_list rest)
    by None rest = refl
    by (Some c) rest = refl

in_place : (k : KeptState) (m : ℕ) (s : MachineState) → 1 ≤ m → slice_get k.machines (m - 1) ≡ Some s → machine_in k m ≡ Some s
in_place k m s low at = ap (λ b. cond b None (slice_get k.machines (m - 1))) (ne_eqb m 0 (λ none. omega (arith, low, none))) ∙ at

-- One machine more is looked at.
pub least_step : (k : KeptState) (m : ℕ) (found : Option ℕ) (behind now : Option (ℕ × ℕ)) → 1 ≤ m → m ≤ length k.machines
    → found ≡ option_and_then (λ s. least (map (λ f. f.number) (filter (λ f. not f.own) s.flights))) (machine_in k m) → behind ≡ least_from k.machines m → now ≡ first_with m found behind
    → now ≡ least_from k.machines (m - 1)
least_step k m found behind now low high is rest made =
    let within : m - 1 < length k.machines = omega (arith, low, high) in
    let x = there_is k.machines (m - 1) within in
    made
    ∙ ap₂ (first_with m) (is ∙ ap (option_and_then (λ (s : MachineState). least (map (λ f. f.number) (filter (λ f. not f.own) s.flights)))) (in_place k m x.0 low x.1)) rest
    ∙ sym (least_back k.machines m x.0 x.1 low)

-- ---- the tests of a kind

-- Time, or a daemon's life.
pub of_time : (k : KeptState) (hosts a b c number : ℕ) → nat_lt (b % 16) 2 ≡ true → time_candidates k hosts ≡ candidates_in k hosts a b c number
unfolding candidates_in
of_time k hosts a b c number time = rw time refl

pub of_life : (k : KeptState) (hosts a b c number : ℕ) → nat_lt (b % 16) 2 ≡ false → nat_lt (b % 16) 4 ≡ true → life_candidates (1 + a % hosts) number ≡ candidates_in k hosts a b c number
unfolding candidates_in
of_life k hosts a b c number no_time life = rw (no_time, life) refl

pub of_test : (k : KeptState) (hosts a b c number : ℕ) → nat_lt (b % 16) 2 ≡ false → nat_lt (b % 16) 4 ≡ false → (b % 16 == 4) ≡ true → Test (1 + a % hosts) ∷ [] ≡ candidates_in k hosts a b c number
unfolding candidates_in
of_test k hosts a b c number no_time no_life test = rw (no_time, no_life, test) refl

-- A call that is done, or one that fails.
calls_done : (m : ℕ) (f : Option ℕ) → call_candidates m f true ≡ with_call f (λ n. Do m n) ++ with_call f (λ n. DropWrite m n)
calls_done m None = refl
calls_done m (Some n) = refl

calls_fail : (m : ℕ) (f : Option ℕ) → call_candidates m f false ≡ with_call f (λ n. AnswerCall m n false) ++ with_call f (λ n. DropWrite m n)
calls_fail m None = refl
calls_fail m (Some n) = refl

pub of_call : (k : KeptState) (hosts a b c number : ℕ) → nat_lt (b % 16) 2 ≡ false → nat_lt (b % 16) 4 ≡ false → (b % 16 == 4) ≡ false → (ok : Bool) → nat_lt (b % 16) 11 ≡ ok
    → (ok ≡ false → (b % 16 == 11) ≡ true) → call_candidates (1 + a % hosts) (least_call_in k (1 + a % hosts)) ok ≡ candidates_in k hosts a b c number
unfolding candidates_in
of_call k hosts a b c number no_time no_life no_test true done last = rw (no_time, no_life, no_test, done) (calls_done (1 + a % hosts) (least_call_in k (1 + a % hosts)))
of_call k hosts a b c number no_time no_life no_test false fails last =
    let eleven = last refl in rw (no_time, no_life, no_test, fails, eleven) (calls_fail (1 + a % hosts) (least_call_in k (1 + a % hosts)))

-- One event, alone, by its tests.
alone : (t u v x y z : Bool) (a b c d e f g : Event)
    → (if t then a else (if u then b else (if v then c else (if x then d else (if y then e else (if z then f else g)))))) ∷ []
    ≡ (if t then a ∷ [] else (if u then b ∷ [] else (if v then c ∷ [] else (if x then d ∷ [] else (if y then e ∷ [] else (if z then f ∷ [] else g ∷ []))))))
alone true u v x y z a b c d e f g = refl
alone false true v x y z a b c d e f g = refl
alone false false true x y z a b c d e f g = refl
alone false false false true y z a b c d e f g = refl
alone false false false false true z a b c d e f g = refl
alone false false false false false true a b c d e f g = refl
alone false false false false false false a b c d e f g = refl

pub of_work : (k : KeptState) (hosts a b c number : ℕ) → nat_lt (b % 16) 2 ≡ false → nat_lt (b % 16) 4 ≡ false → (b % 16 == 4) ≡ false → nat_lt (b % 16) 11 ≡ false → (b % 16 == 11) ≡ false
    → work_event (1 + a % hosts) (b % 16) c ∷ [] ≡ candidates_in k hosts a b c number
unfolding candidates_in
of_work k hosts a b c number no_time no_life no_test no_done no_fail =
    rw (no_time, no_life, no_test, no_done, no_fail) (alone (b % 16 == 12) (b % 16 == 13) (b % 16 == 14) (c % 32 == 0) (c % 32 == 1) (c % 32 == 2) _ _ _ _ _ _ _)
