-- A run that follows a schedule and does what is due is the one that the schedule tells: event by event, with the asks behind each.
use Rattle.sl_words.proofs.Numbers.{trans_le}
use Rattle.sl_words.proofs.Options.{none_is}
use Rattle.sl_report.specs.DueRuns.{due_at, effects_of}
use Rattle.sl_report.specs.Schedules.{At_end, At_line, Ending, EventLine, Follows, IsAskOf, NoAsk, many_asks}
use Rattle.sl_run.specs.Inputs.{asking, input_of, machine_of}
use Rattle.sl_run.specs.EventChanges.{happens}
use Rattle.sl_run.specs.Refusals.{may_happen, refusal_of}
use Rattle.sl_run.specs.Runs.{Happening, own_effects_of, world_after}
use Rattle.sl_run.specs.Worlds.{World, machine_at}
use Rattle.sl_run.specs.declared.event.Event.TheVariants.{GiveAsk}
use Rattle.sl_run.specs.declared.event.Event.{Event}
use Rattle.sl_run.specs.declared.event.Refusal.{Refusal}
use Rattle.sl_sound.proofs.Reports.EventsAskFew.{asks_end, events_ask_few}
use Rattle.sl_sound.specs.Reports.EventsAskFew.{AsksOn, IsFair, asks_left}
use Rattle.sl_sound.specs.Reports.FollowedSchedules.{DoesWhatIsDue, asks_run, event_run, followed_end, followed_run}
use Rattle.sl_trace.specs.Traces.{no_effects}
use Rattle.sl_trace.specs.declared.effects.Effects.{Effects}
use Rattle.sl_trace.specs.declared.input.Input.{Input}
use Rattle.sl_words.proofs.CaseLaws.{none_some}
use Rattle.std.proofs.Common.{ap, arith, refl, subst, sym, ◌∙◌}
use Rattle.std.specs.Option.{option_map_or}
use Rattle.std.specs.Prelude.{Err, IsSomeAnd, IsTrue, List, None, Ok, Option, Some, suc, true, zero, [], ℕ, ◌++◌, ◌∷◌, ◌≡◌, ◌≤◌}

-- ---- one step's effects

one_by : (w : World) (e : Event) (o : Option Input)
    → (fx : Effects) × (elim o as (λ x. List Effects) [
      | None ↦ own_effects_of w e ∷ []
      | Some i ↦ option_map_or (λ a. due_at a i) (machine_at w (machine_of e)) no_effects ∷ []
    ] ≡ fx ∷ [])
one_by w e None = (own_effects_of w e, refl)
one_by w e (Some i) = (option_map_or (λ a. due_at a i) (machine_at w (machine_of e)) no_effects, refl)

-- What is due is one step's effects.
pub one_effect : (w : World) (e : Event) → (fx : Effects) × (effects_of w e ≡ fx ∷ [])
one_effect w e = one_by w e (input_of w e)

-- ---- asks on a machine

weaker : (w : World) (m n k : ℕ) → n ≤ k → AsksOn w m n → AsksOn w m k
weaker w m n k h on = record { fair = on.fair; others = on.others; left = λ a at. trans_le (asks_left a.locks) n k (on.left a at) h }

-- The asks behind an event that does what is due.
pub asks_behind : (w : World) (e : Event) → IsFair w → NoAsk w → may_happen w e ≡ true → (m : ℕ) × AsksOn (happens w e (effects_of w e)) m many_asks
asks_behind w e fair none may =
    let one = one_effect w e in
    let on = events_ask_few w e one.0 fair none may in
    (on.0, subst (λ fxs. AsksOn (happens w e fxs) on.0 many_asks) (sym one.1) (weaker (happens w e (one.0 ∷ [])) on.0 10 many_asks few on.1))
  where
    few : 10 ≤ 16
    few = omega arith

-- The one that is due, given.
pub ask_given : (w : World) (m n k : ℕ) → AsksOn w m (suc n) → asking w ≡ Some k → AsksOn (happens w (GiveAsk k) (effects_of w (GiveAsk k))) m n
ask_given w m n k on is =
    let one = one_effect w (GiveAsk k) in
    let same = (asks_end.given w m (suc n) k on is).0 in
    let then = asks_end.fewer w m n one.0 on (is ∙ ap (λ j. Some j) same) in
    subst (λ fxs. AsksOn (happens w (GiveAsk k) fxs) m n) (sym one.1) (subst (λ j. AsksOn (happens w (GiveAsk j) (one.0 ∷ [])) m n) (sym same) then)

pub none_is_due : (w : World) (m k : ℕ) → AsksOn w m 0 → asking w ≡ Some k → ⊥
none_is_due w m k on is = none_some k (sym (asks_end.none w m on) ∙ is)

-- ---- what follows

-- Where an ask is due, the next happening is it.
pub record AsksFirst (w : World) (k : ℕ) (ls : List EventLine) (xs : List Happening) (end : Ending) : Type 0 where
  pub happening : Happening
  pub rest : List Happening
  pub all : xs ≡ happening ∷ rest
  pub event : happening.0 ≡ GiveAsk k
  pub follows : Follows (happens w happening.0 happening.1) ls rest end

pub the_ask : (w : World) (k : ℕ) (x : Happening) → asking w ≡ Some k → IsAskOf w x → x.0 ≡ GiveAsk k
the_ask w k x is h = subst (λ o. IsSomeAnd o (λ m. x.0 ≡ GiveAsk m)) is h.0

never : (w : World) (k : ℕ) → asking w ≡ Some k → NoAsk w → ⊥
never w k is none = none_some k (sym none ∙ is)

-- What follows an event's line.
abbrev pub NextBy : World → ℕ → Event → List EventLine → Happening → List Happening → Ending → Option ℕ → Type 0
NextBy w n e ls x xs end o =
    elim o [
      | Some m ↦ IsAskOf w x × Follows (happens w x.0 x.1) ((n, Ok e) ∷ ls) xs end
      | None ↦ (e ≡ x.0) × IsTrue (may_happen w e) × Follows (happens w x.0 x.1) ls xs end
    ]

pub asks_first : (w : World) (k : ℕ) (ls : List EventLine) (xs : List Happening) (end : Ending) → asking w ≡ Some k → Follows w ls xs end → AsksFirst w k ls xs end
asks_first w k [] [] At_end is f = absurd (never w k is f)
asks_first w k [] [] (At_line n why) is f = absurd f
asks_first w k [] (x ∷ xs) end is f = record { happening = x; rest = xs; all = refl; event = the_ask w k x is f.0; follows = f.1 }
asks_first w k ((n, Err r) ∷ ls) [] At_end is f = absurd f
asks_first w k ((n, Err r) ∷ ls) [] (At_line m why) is f = absurd (never w k is f.2)
asks_first w k ((n, Err r) ∷ ls) (x ∷ xs) end is f = record { happening = x; rest = xs; all = refl; event = the_ask w k x is f.0; follows = f.1 }
asks_first w k ((n, Ok e) ∷ ls) [] At_end is f = absurd f
asks_first w k ((n, Ok e) ∷ ls) [] (At_line m why) is f = absurd (never w k is f.2)
asks_first w k ((n, Ok e) ∷ ls) (x ∷ xs) end is f =
    let g = subst (λ o. NextBy w n e ls x xs end o) is f in
    record { happening = x; rest = xs; all = refl; event = the_ask w k x is g.0; follows = g.1 }

-- The asks that are due come first.
pub record PlayedAsks (w : World) (n : ℕ) (ls : List EventLine) (xs : List Happening) (end : Ending) : Type 0 where
  pub rest : List Happening
  pub all : xs ≡ asks_run n w ++ rest
  pub fair : IsFair (world_after w (asks_run n w))
  pub none : NoAsk (world_after w (asks_run n w))
  pub follows : Follows (world_after w (asks_run n w)) ls rest end
  pub does : DoesWhatIsDue (world_after w (asks_run n w)) rest

-- The happening by its event and effects.
pub same_happening : (x : Happening) (e : Event) (fxs : List Effects) → x.0 ≡ e → x.1 ≡ fxs → x ≡ (e, fxs)
same_happening x e fxs event effects = ap (λ y. (y, x.1)) event ∙ ap (λ ys. (e, ys)) effects

played_none : (w : World) (n : ℕ) (ls : List EventLine) (xs : List Happening) (end : Ending) → IsFair w → asks_run n w ≡ [] → NoAsk w → Follows w ls xs end → DoesWhatIsDue w xs
    → PlayedAsks w n ls xs end
played_none w n ls xs end fair run none f d =
    record {
      rest = xs;
      all = ap (λ ys. ys ++ xs) (sym run);
      fair = subst (λ ys. IsFair (world_after w ys)) (sym run) fair;
      none = subst (λ ys. NoAsk (world_after w ys)) (sym run) none;
      follows = subst (λ ys. Follows (world_after w ys) ls xs end) (sym run) f;
      does = subst (λ ys. DoesWhatIsDue (world_after w ys) xs) (sym run) d;
    }

-- One ask more in front.
played_one : (w : World) (n k : ℕ) (ls : List EventLine) (xs rest : List Happening) (end : Ending) → asking w ≡ Some k
    → xs ≡ (GiveAsk k, effects_of w (GiveAsk k)) ∷ rest
    → PlayedAsks (happens w (GiveAsk k) (effects_of w (GiveAsk k))) n ls rest end → PlayedAsks w (suc n) ls xs end
played_one w n k ls xs rest end is all p =
    let v : World = happens w (GiveAsk k) (effects_of w (GiveAsk k)) in
    let x : Happening = (GiveAsk k, effects_of w (GiveAsk k)) in
    let run : asks_run (suc n) w ≡ x ∷ asks_run n v = rw (asks_run, is) refl in
    record {
      rest = p.rest;
      all = all ∙ ap (λ ys. x ∷ ys) p.all ∙ ap (λ ys. ys ++ p.rest) (sym run);
      fair = subst (λ ys. IsFair (world_after w ys)) (sym run) p.fair;
      none = subst (λ ys. NoAsk (world_after w ys)) (sym run) p.none;
      follows = subst (λ ys. Follows (world_after w ys) ls p.rest end) (sym run) p.follows;
      does = subst (λ ys. DoesWhatIsDue (world_after w ys) p.rest) (sym run) p.does;
    }

pub no_asks_by : (n : ℕ) (w : World) → NoAsk w → asks_run n w ≡ []
no_asks_by zero w none = refl
no_asks_by (suc n) w none = rw (asks_run, none) refl

mutual_asks : (n : ℕ) (w : World) (m : ℕ) (ls : List EventLine) (xs : List Happening) (end : Ending) (o : Option ℕ) → asking w ≡ o → AsksOn w m (suc n)
    → ((v : World) (ys : List Happening) → AsksOn v m n → Follows v ls ys end → DoesWhatIsDue v ys → PlayedAsks v n ls ys end)
    → Follows w ls xs end → DoesWhatIsDue w xs → PlayedAsks w (suc n) ls xs end
mutual_asks n w m ls xs end None is on next f d = played_none w (suc n) ls xs end on.fair (no_asks_by (suc n) w is) is f d
mutual_asks n w m ls xs end (Some k) is on next f d =
    let a = asks_first w k ls xs end is f in
    let due = subst (DoesWhatIsDue w) a.all d in
    let effects : a.happening.1 ≡ effects_of w (GiveAsk k) = due.0 ∙ ap (effects_of w) a.event in
    let same : a.happening ≡ (GiveAsk k, effects_of w (GiveAsk k)) = same_happening a.happening (GiveAsk k) (effects_of w (GiveAsk k)) a.event effects in
    let v : World = happens w (GiveAsk k) (effects_of w (GiveAsk k)) in
    played_one w n k ls xs a.rest end is (a.all ∙ ap (λ y. y ∷ a.rest) same)
    (next v a.rest (ask_given w m n k on is) (subst (λ (y : Happening). Follows (happens w y.0 y.1) ls a.rest end) same a.follows)
    (subst (λ (y : Happening). DoesWhatIsDue (happens w y.0 y.1) a.rest) same due.1))

pub played : (n : ℕ) (w : World) (m : ℕ) (ls : List EventLine) (xs : List Happening) (end : Ending) → AsksOn w m n → Follows w ls xs end → DoesWhatIsDue w xs
    → PlayedAsks w n ls xs end
played zero w m ls xs end on f d = played_none w zero ls xs end on.fair refl (asks_end.none w m on) f d
played (suc n) w m ls xs end on f d = mutual_asks n w m ls xs end (asking w) refl on (λ v ys. played n v m ls ys end) f d

-- ---- the schedule alone tells its happenings and how it ends

pub record IsFollowed (w : World) (ls : List EventLine) (xs : List Happening) (end : Ending) : Type 0 where
  pub run : followed_run w ls ≡ xs
  pub ends : followed_end w ls ≡ end

same_line : (n m : ℕ) (r s : Refusal) → m ≡ n → s ≡ r → At_line n r ≡ At_line m s
same_line n m r s number why = ap (λ k. At_line k r) (sym number) ∙ ap (At_line m) (sym why)

-- The ending of one event's line, by whether it is refused.
abbrev ends_by : ℕ → Option Refusal → Ending → Ending
ends_by n o rest = elim o [ Some r ↦ At_line n r | None ↦ rest ]

-- .. and the happenings from there on.
abbrev runs_by : Option Refusal → List Happening → List Happening
runs_by o rest = elim o [ Some r ↦ [] | None ↦ rest ]

refused_so : (w : World) (n m : ℕ) (e : Event) (ls : List EventLine) (why : Refusal) → m ≡ n → refusal_of w e ≡ Some why
    → IsFollowed w ((n, Ok e) ∷ ls) [] (At_line m why)
refused_so w n m e ls why number is =
    let v : World = world_after w (event_run w e) in
    record { run = ap (λ o. runs_by o (event_run w e ++ followed_run v ls)) is; ends = ap (λ o. ends_by n o (followed_end v ls)) is ∙ same_line n m why why number refl }

happens_so : (w : World) (n : ℕ) (e : Event) (ls : List EventLine) (xs : List Happening) (end : Ending) → refusal_of w e ≡ None
    → IsFollowed (world_after w (event_run w e)) ls xs end → IsFollowed w ((n, Ok e) ∷ ls) (event_run w e ++ xs) end
happens_so w n e ls xs end may rest =
    let v : World = world_after w (event_run w e) in
    record {
      run = ap (λ o. runs_by o (event_run w e ++ followed_run v ls)) may ∙ ap (λ ys. event_run w e ++ ys) rest.run;
      ends = ap (λ o. ends_by n o (followed_end v ls)) may ∙ rest.ends;
    }

-- No ask is due, so nothing is one.
pub no_ask_of : (w : World) (x : Happening) → NoAsk w → IsAskOf w x → ⊥
no_ask_of w x none h = subst (λ o. IsSomeAnd o (λ m. x.0 ≡ GiveAsk m)) none h.0

-- The next event, and the asks behind it.
event_so : (w : World) (n : ℕ) (e : Event) (ls : List EventLine) (x : Happening) (xs : List Happening) (end : Ending) → IsFair w → NoAsk w
    → ((v : World) (ys : List Happening) → IsFair v → NoAsk v → Follows v ls ys end → DoesWhatIsDue v ys → IsFollowed v ls ys end)
    → (e ≡ x.0) × IsTrue (may_happen w e) × Follows (happens w x.0 x.1) ls xs end → DoesWhatIsDue w (x ∷ xs) → IsFollowed w ((n, Ok e) ∷ ls) (x ∷ xs) end
event_so w n e ls x xs end fair none next g d =
    let effects : x.1 ≡ effects_of w e = d.0 ∙ ap (effects_of w) (sym g.0) in
    let same : x ≡ (e, effects_of w e) = same_happening x e (effects_of w e) (sym g.0) effects in
    let v : World = happens w e (effects_of w e) in
    let on = asks_behind w e fair none g.1 in
    let p = played many_asks v on.0 ls xs end on.1 (subst (λ (y : Happening). Follows (happens w y.0 y.1) ls xs end) same g.2)
    (subst (λ (y : Happening). DoesWhatIsDue (happens w y.0 y.1) xs) same d.1) in
    let all : x ∷ xs ≡ event_run w e ++ p.rest = ap (λ y. y ∷ xs) same ∙ ap (λ ys. (e, effects_of w e) ∷ ys) p.all in
    subst (λ ys. IsFollowed w ((n, Ok e) ∷ ls) ys end) (sym all)
    (happens_so w n e ls p.rest end (none_is (refusal_of w e) g.1) (next (world_after w (event_run w e)) p.rest p.fair p.none p.follows p.does))

pub follows_so : (w : World) (ls : List EventLine) (xs : List Happening) (end : Ending) → IsFair w → NoAsk w → Follows w ls xs end → DoesWhatIsDue w xs → IsFollowed w ls xs end
follows_so w [] [] At_end fair none f d = record { run = refl; ends = refl }
follows_so w [] [] (At_line n why) fair none f d = absurd f
follows_so w [] (x ∷ xs) end fair none f d = absurd (no_ask_of w x none f.0)
follows_so w ((n, Err r) ∷ ls) [] At_end fair none f d = absurd f
follows_so w ((n, Err r) ∷ ls) [] (At_line number why) fair none f d = record { run = refl; ends = same_line n number r why f.0 f.1 }
follows_so w ((n, Err r) ∷ ls) (x ∷ xs) end fair none f d = absurd (no_ask_of w x none f.0)
follows_so w ((n, Ok e) ∷ ls) [] At_end fair none f d = absurd f
follows_so w ((n, Ok e) ∷ ls) [] (At_line number why) fair none f d = refused_so w n number e ls why f.0 f.1
follows_so w ((n, Ok e) ∷ ls) (x ∷ xs) end fair none f d =
    event_so w n e ls x xs end fair none (λ v ys. follows_so v ls ys end) (subst (λ o. NextBy w n e ls x xs end o) none f) d
