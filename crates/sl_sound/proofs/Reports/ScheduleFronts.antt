-- Happenings that follow a schedule so far, and do what is due, are a front of those that it tells.
use Rattle.sl_report.specs.DueRuns.{effects_of}
use Rattle.sl_report.specs.Schedules.{EventLine, FollowsSoFar, IsAskOf, many_asks}
use Rattle.sl_words.proofs.Options.{none_is}
use Rattle.sl_run.specs.Inputs.{asking}
use Rattle.sl_run.specs.EventChanges.{happens}
use Rattle.sl_run.specs.Refusals.{may_happen, refusal_of}
use Rattle.sl_run.specs.Runs.{Happening, world_after}
use Rattle.sl_run.specs.Worlds.{World}
use Rattle.sl_run.specs.declared.event.Event.TheVariants.{GiveAsk}
use Rattle.sl_run.specs.declared.event.Event.{Event}
use Rattle.sl_sound.proofs.Reports.RunsFollowSchedules.{ask_given, asks_behind, no_ask_of, no_asks_by, none_is_due, same_happening, the_ask}
use Rattle.sl_sound.proofs.Reports.ReportsAreRuns.{asked_now, one_more}
use Rattle.sl_sound.specs.Reports.EventsAskFew.{AsksOn}
use Rattle.sl_sound.specs.Reports.FollowedSchedules.{DoesWhatIsDue, asks_run, event_run, followed_run}
use Rattle.std.proofs.Common.{ap, refl, subst, sym, ◌∙◌}
use Rattle.std.specs.Prelude.{Err, IsTrue, List, None, Ok, Option, Some, suc, zero, [], ℕ, ◌++◌, ◌∷◌, ◌≡◌}

-- What comes of the asks that are due and of the lines.
abbrev pub to_come : ℕ → World → List EventLine → List Happening
to_come n w ls = asks_run n w ++ followed_run (world_after w (asks_run n w)) ls

-- These begin those.
abbrev pub Begins : List Happening → List Happening → Type 0
Begins xs all = (rest : List Happening) × (all ≡ xs ++ rest)

-- How it goes on behind the next happening.
abbrev NextSoFar : World → List EventLine → Happening → List Happening → Type 0
NextSoFar w ls x xs = (v : World) (m n : ℕ) (ms : List EventLine) → AsksOn v m n → FollowsSoFar v ms xs → DoesWhatIsDue v xs → Begins xs (to_come n v ms)

one_in_front : (x : Happening) (xs all : List Happening) → Begins xs all → Begins (x ∷ xs) (x ∷ all)
one_in_front x xs all b = (b.0, ap (λ ys. x ∷ ys) b.1)

-- The next happening is the ask that is due.
begins_with_ask : (w : World) (m n k : ℕ) (ls : List EventLine) (x : Happening) (xs : List Happening) → AsksOn w m n → asking w ≡ Some k → NextSoFar w ls x xs
    → x.0 ≡ GiveAsk k → FollowsSoFar (happens w x.0 x.1) ls xs → DoesWhatIsDue w (x ∷ xs) → Begins (x ∷ xs) (to_come n w ls)
begins_with_ask w m zero k ls x xs on is next event f d = absurd (none_is_due w m k on is)
begins_with_ask w m (suc n) k ls x xs on is next event f d =
    let same : x ≡ asked_now w k = same_happening x (GiveAsk k) (effects_of w (GiveAsk k)) event (d.0 ∙ ap (effects_of w) event) in
    let v : World = happens w (GiveAsk k) (effects_of w (GiveAsk k)) in
    let b = next v m n ls (ask_given w m n k on is) (subst (λ (y : Happening). FollowsSoFar (happens w y.0 y.1) ls xs) same f)
    (subst (λ (y : Happening). DoesWhatIsDue (happens w y.0 y.1) xs) same d.1) in
    let run : to_come (suc n) w ls ≡ asked_now w k ∷ to_come n v ls = ap (λ ys. ys ++ followed_run (world_after w ys) ls) (one_more n w k is) in
    subst (λ (y : Happening). Begins (y ∷ xs) (to_come (suc n) w ls)) (sym same)
    (subst (Begins (asked_now w k ∷ xs)) (sym run) (one_in_front (asked_now w k) xs (to_come n v ls) b))

-- .. or that of the next line.
begins_with_event : (w : World) (m n number : ℕ) (e : Event) (ls : List EventLine) (x : Happening) (xs : List Happening) → AsksOn w m n → asking w ≡ None
    → NextSoFar w ls x xs → (e ≡ x.0) × IsTrue (may_happen w e) × FollowsSoFar (happens w x.0 x.1) ls xs → DoesWhatIsDue w (x ∷ xs)
    → Begins (x ∷ xs) (to_come n w ((number, Ok e) ∷ ls))
begins_with_event w m n number e ls x xs on is next g d =
    let same : x ≡ (e, effects_of w e) = same_happening x e (effects_of w e) (sym g.0) (d.0 ∙ ap (effects_of w) (sym g.0)) in
    let v : World = happens w e (effects_of w e) in
    let behind = asks_behind w e on.fair is g.1 in
    let b = next v behind.0 many_asks ls behind.1 (subst (λ (y : Happening). FollowsSoFar (happens w y.0 y.1) ls xs) same g.2)
    (subst (λ (y : Happening). DoesWhatIsDue (happens w y.0 y.1) xs) same d.1) in
    let run : to_come n w ((number, Ok e) ∷ ls) ≡ (e, effects_of w e) ∷ to_come many_asks v ls =
    ap (λ ys. ys ++ followed_run (world_after w ys) ((number, Ok e) ∷ ls)) (no_asks_by n w is)
    ∙ ap (λ o. elim o as (λ z. List Happening) [ Some r ↦ [] | None ↦ event_run w e ++ followed_run (world_after w (event_run w e)) ls ])
    (none_is (refusal_of w e) g.1) in
    subst (λ (y : Happening). Begins (y ∷ xs) (to_come n w ((number, Ok e) ∷ ls))) (sym same)
    (subst (Begins ((e, effects_of w e) ∷ xs)) (sym run) (one_in_front (e, effects_of w e) xs (to_come many_asks v ls) b))

abbrev SoFarBy : World → ℕ → Event → List EventLine → Happening → List Happening → Option ℕ → Type 0
SoFarBy w n e ls x xs o =
    elim o [
      | Some m ↦ IsAskOf w x × FollowsSoFar (happens w x.0 x.1) ((n, Ok e) ∷ ls) xs
      | None ↦ (e ≡ x.0) × IsTrue (may_happen w e) × FollowsSoFar (happens w x.0 x.1) ls xs
    ]

begins_by : (w : World) (m n : ℕ) (ls : List EventLine) (x : Happening) (xs : List Happening) (o : Option ℕ) → AsksOn w m n → asking w ≡ o
    → NextSoFar w ls x xs → FollowsSoFar w ls (x ∷ xs) → DoesWhatIsDue w (x ∷ xs) → Begins (x ∷ xs) (to_come n w ls)
begins_by w m n [] x xs None on is next f d = absurd (no_ask_of w x is f.0)
begins_by w m n ((i, Err r) ∷ ls) x xs None on is next f d = absurd (no_ask_of w x is f.0)
begins_by w m n ((i, Ok e) ∷ ls) x xs None on is next f d = begins_with_event w m n i e ls x xs on is next (subst (λ o. SoFarBy w i e ls x xs o) is f) d
begins_by w m n [] x xs (Some k) on is next f d = begins_with_ask w m n k [] x xs on is next (the_ask w k x is f.0) f.1 d
begins_by w m n ((i, Err r) ∷ ls) x xs (Some k) on is next f d = begins_with_ask w m n k ((i, Err r) ∷ ls) x xs on is next (the_ask w k x is f.0) f.1 d
begins_by w m n ((i, Ok e) ∷ ls) x xs (Some k) on is next f d =
    let g = subst (λ o. SoFarBy w i e ls x xs o) is f in
    begins_with_ask w m n k ((i, Ok e) ∷ ls) x xs on is next (the_ask w k x is g.0) g.1 d

pub begins : (xs : List Happening) (w : World) (m n : ℕ) (ls : List EventLine) → AsksOn w m n → FollowsSoFar w ls xs → DoesWhatIsDue w xs → Begins xs (to_come n w ls)
begins [] w m n ls on f d = (to_come n w ls, refl)
begins (x ∷ xs) w m n ls on f d = begins_by w m n ls x xs (asking w) on refl (λ v j i ms. begins xs v j i ms) f d
