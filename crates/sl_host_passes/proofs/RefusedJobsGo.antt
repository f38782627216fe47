-- Of jobs that are refused none is left, so a recovery refuses no more jobs than it takes away.
use Rattle.sl_host_law.specs.StepParts.Recoveries.{recovering_in}
use Rattle.sl_host_law.specs.StepParts.Refusals.{replying_to}
use Rattle.sl_host_law.specs.StepParts.Signals.{over, sending}
use Rattle.sl_host_law.specs.Steps.Passes.{at_member}
use Rattle.sl_host_passes.specs.PassesLessen.{holders_among}
use Rattle.sl_host_state.specs.StepQuestions.{begins_in, stopper_in}
use Rattle.sl_host_state.specs.KeptState.{HostKept, HostState, MemberState}
use Rattle.sl_host_state.specs.MadeEffects.{with_signal, with_start}
use Rattle.sl_host_state.specs.declared.kept_parts.JobState.{JobState}
use Rattle.sl_host_work.proofs.RefusalsStand.{no_recovery_is, recovery_is}
use Rattle.sl_host_work.specs.Holders.{holders_under, signalling_all}
use Rattle.sl_host_work.specs.KilledMembers.{count_under, holders_of_all, unread}
use Rattle.sl_host_work.specs.Stops.{recovering_of, stopped_of, stopping, stopping_cost}
use Rattle.sl_host_work.specs.declared.recoveries.Stopped.{Stopped}
use Rattle.sl_member.specs.HostMembers.{member_with}
use Rattle.sl_words.proofs.Lists.{any_of, contains_first, contains_map, contains_more, filter_both, find_inside, kept}
use Rattle.sl_trace.specs.Traces.{first_child}
use Rattle.sl_trace.specs.declared.effects.Grant.{Grant}
use Rattle.sl_trace.specs.declared.effects.Signal.TheVariants.{Term}
use Rattle.sl_trace.specs.declared.reply.Reply.TheVariants.{Recovering}
use Rattle.sl_trace.specs.declared.reply.Reply.{Reply}
use Rattle.sl_host.specs.ChosenJobs.{chosen_among, is_chosen}
use Rattle.sl_host.specs.declared.passes.Chosen.TheVariants.{OfLockspace}
use Rattle.sl_words.proofs.CaseLaws.{none_some, some_value}
use Rattle.sl_words.specs.Words.{choose}
use Rattle.std.proofs.Common.{ap, arith, refl, sym, ◌∙◌}
use Rattle.std.proofs.lemmas.Bool.{eqb-true}
use Rattle.std.proofs.lemmas.List.{length-map, map-id}
use Rattle.std.specs.List.{list_any}
use Rattle.std.specs.Prelude.{Bool, Contains, List, None, Option, Some, [], cond, false, filter, length, map, not, true, ℕ, ◌&&◌, ◌+◌, ◌==◌, ◌||◌, ◌∷◌, ◌≡◌, ◌≤◌}

-- Whether the job has one of these numbers.
abbrev has_one : List ℕ → JobState → Bool
has_one ns j = list_any (λ n. j.number == n) ns

both_not : (a b : Bool) → (not a && not b) ≡ not (a || b)
both_not true b = refl
both_not false b = refl

none_of : (js : List JobState) → js ≡ filter (λ j. not (has_one [] j)) js
none_of [] = refl
none_of (j ∷ js) = ap (λ zs. j ∷ zs) (none_of js)

as_well : {A : Type 0} (p q : A → Bool) (xs : List A) → ((x : A) → p x ≡ q x) → filter p xs ≡ filter q xs
as_well p q [] same = refl
as_well p q (x ∷ xs) same = ap (λ b. cond b (x ∷ filter p xs) (filter p xs)) (same x) ∙ ap (λ zs. cond (q x) (x ∷ zs) zs) (as_well p q xs same)

replied_jobs : (ns : List ℕ) (r : Reply) (h : HostState) → (replying_to ns r h).jobs ≡ filter (λ j. not (has_one ns j)) h.jobs
replied_jobs [] r h = none_of h.jobs
replied_jobs (n ∷ ns) r h =
    replied_jobs ns r _
    ∙ (sym (filter_both (λ (j : JobState). not (j.number == n)) (λ j. not (has_one ns j)) h.jobs)
    ∙ as_well (λ (j : JobState). not (j.number == n) && not (has_one ns j)) (λ j. not (has_one (n ∷ ns) j)) h.jobs (λ j. both_not (j.number == n) (has_one ns j)))

-- Those of a kind and those of another, that no element is of both.
apart_many : {A : Type 0} (p q : A → Bool) (xs : List A) → ((x : A) → Contains xs x → p x ≡ true → q x ≡ true) → length (filter p xs) + length (filter (λ x. not (q x)) xs) ≤ length xs
apart_many p q [] each = grind arith
apart_many p q (x ∷ xs) each = by (p x) (q x) refl refl (apart_many p q xs (λ y there. each y (contains_more x xs y there))) where
  by : (a b : Bool) → p x ≡ a → q x ≡ b → length (filter p xs) + length (filter (λ y. not (q y)) xs) ≤ length xs
      → length (cond a (x ∷ filter p xs) (filter p xs)) + length (cond (not b) (x ∷ filter (λ y. not (q y)) xs) (filter (λ y. not (q y)) xs)) ≤ length (x ∷ xs)
  by true true is also rest = grind (arith, rest)
  by true false is also rest = absurd (let e : false ≡ true = sym also ∙ each x (contains_first x xs) is in cc)
  by false true is also rest = grind (arith, rest)
  by false false is also rest = grind (arith, rest)

refused_few : (p : JobState → Bool) (js : List JobState) → length (map (λ (j : JobState). j.number) (filter p js)) + length (filter (λ j. not (has_one (map (λ (j : JobState). j.number) (filter p js)) j)) js) ≤ length js
refused_few p js =
    let ns : List ℕ = map (λ (j : JobState). j.number) (filter p js) in
    let same : length ns ≡ length (filter p js) = length-map (filter p js) (λ (j : JobState). j.number) in
    let all : length (filter p js) + length (filter (λ j. not (has_one ns j)) js) ≤ length js = apart_many p (has_one ns) js (λ j there is.
    any_of (λ n. j.number == n) ns j.number (itself j.number) (contains_map (λ (k : JobState). k.number) (filter p js) j (kept p js j is there))) in
    omega (arith, same, all) where
      itself : (n : ℕ) → (n == n) ≡ true
      itself n = grind arith

sent_jobs : (p : ℕ) (h : HostState) → (sending p Term h).jobs ≡ h.jobs
sent_jobs p h = by (stopper_in h p) where
  by : (o : Option (List ℕ)) → (elim o as (λ z. HostState) [
    | None ↦ with_signal p Term h
    | Some program ↦ with_start (record { process = first_child + h.started; program = program; job = None; stands_for = Some p }) h
  ]).jobs ≡ h.jobs
  by None = refl
  by (Some program) = map-id h.jobs

signalled_jobs : (ps : List ℕ) (h : HostState) → (over ps (λ p. sending p Term) h).jobs ≡ h.jobs
signalled_jobs [] h = refl
signalled_jobs (p ∷ ps) h = signalled_jobs ps (sending p Term h) ∙ sent_jobs p h

-- What it costs that one is stopped, with the jobs that are left.
stopped_few : (k : HostKept) (s : Stopped) → stopping_cost k (Some s) + length (stopping s None (unread k)).jobs ≤ count_under k.holdings s.session + length k.jobs
stopped_few k s =
    let h : HostState = unread k in
    let g : HostState = signalling_all Term s.session h in
    let w = OfLockspace s.lockspace None in
    let stays : g.jobs ≡ h.jobs = signalled_jobs (holders_under s.session h.holdings) h in
    let left : (stopping s None h).jobs ≡ filter (λ j. not (has_one (chosen_among w g.jobs) j)) g.jobs = replied_jobs (chosen_among w g.jobs) (Recovering s.renewed) g in
    let few : length (chosen_among w k.jobs) + length (filter (λ j. not (has_one (chosen_among w k.jobs) j)) k.jobs) ≤ length k.jobs = refused_few (is_chosen w) k.jobs in
    let many : length (stopping s None h).jobs ≡ length (filter (λ j. not (has_one (chosen_among w k.jobs) j)) k.jobs) =
    ap (λ js. length js) left ∙ ap (λ (js : List JobState). length (filter (λ j. not (has_one (chosen_among w js) j)) js)) stays in
    omega (arith, few, many)

its_session : (h : HostState) (ms : List MemberState) (n : ℕ) (s : Stopped) → recovering_of h (member_with n ms) ≡ Some s → s.session ≡ n
its_session h ms n s is = by (member_with n ms) refl is where
  begins : (m : MemberState) (b : Bool) → choose b (stopped_of m) ≡ Some s → s.session ≡ m.who.number
  begins m true at = ap (λ (z : Stopped). z.session) (sym (some_value (stopped_of m) s at))
  begins m false at = absurd (none_some s at)

  by : (o : Option MemberState) → member_with n ms ≡ o → recovering_of h o ≡ Some s → s.session ≡ n
  by None found at = absurd (none_some s at)
  by (Some m) found at = begins m (begins_in h m.renewing.recovery) at ∙ eqb-true m.who.number n (find_inside (λ (z : MemberState). z.who.number == n) ms m found).1

pub recovered_few : (k : HostKept) (n : ℕ) → stopping_cost k (recovering_of (unread k) (member_with n k.members)) + length (at_member n recovering_in (unread k)).jobs ≤ count_under k.holdings n + length k.jobs
recovered_few k n = by (recovering_of (unread k) (member_with n k.members)) refl where
  by : (o : Option Stopped) → recovering_of (unread k) (member_with n k.members) ≡ o → stopping_cost k o + length (at_member n recovering_in (unread k)).jobs ≤ count_under k.holdings n + length k.jobs
  by None is = let same : length (at_member n recovering_in (unread k)).jobs ≡ length k.jobs = ap (λ (h : HostState). length h.jobs) (sym (no_recovery_is n (unread k) (sym is))) in omega (arith, same)
  by (Some s) is =
      let few = stopped_few k s in
      let same : length (at_member n recovering_in (unread k)).jobs ≡ length (stopping s None (unread k)).jobs = ap (λ (h : HostState). length h.jobs) (sym (recovery_is n (unread k) s (sym is))) in
      let its : count_under k.holdings s.session ≡ count_under k.holdings n = ap (λ m. count_under k.holdings m) (its_session (unread k) k.members n s is) in
      omega (arith, few, same, its)

pub holders_as_among : (ms : List MemberState) (held : List Grant) → holders_of_all ms held ≡ holders_among (map (λ m. m.who.number) ms) held
holders_as_among [] held = refl
holders_as_among (m ∷ ms) held = ap (λ n. count_under held m.who.number + n) (holders_as_among ms held)
