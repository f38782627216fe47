-- What is followed is a run that does what is due, and the plain program's lines are its report.
use Rattle.sl_words.proofs.Options.{none_is}
use Rattle.sl_report.specs.Languages.{Language}
use Rattle.sl_report.specs.DueRuns.{due_at, effects_of}
use Rattle.sl_report.specs.Reports.{Counts, count_event, event_lines, run_counts, run_lines}
use Rattle.sl_report.specs.RefusalLines.{refusal_line}
use Rattle.sl_report.specs.Schedules.{AsksPlayed, At_line, Ending, EventLine, Follows, IsAskOf, NoAsk, last_lines, many_asks, play_asks, replay_from}
use Rattle.sl_run.specs.Inputs.{asking, input_of, machine_of}
use Rattle.sl_run.specs.EventChanges.{happens, next_input}
use Rattle.sl_run.specs.Refusals.{may_happen, refusal_of}
use Rattle.sl_run.specs.Runs.{Happening, HasSteps, IsRun, own_effects_of, world_after}
use Rattle.sl_run.specs.Worlds.{World, machine_at}
use Rattle.sl_run.specs.declared.event.Event.TheVariants.{GiveAsk}
use Rattle.sl_run.specs.declared.event.Event.{Event}
use Rattle.sl_run.specs.declared.event.Refusal.{Refusal}
use Rattle.sl_sound.proofs.Reports.EventsAskFew.{asks_end}
use Rattle.sl_sound.proofs.Reports.RunsFollowSchedules.{ask_given, asks_behind, no_asks_by}
use Rattle.sl_sound.specs.Reports.EventsAskFew.{AsksOn, IsFair}
use Rattle.sl_sound.specs.Reports.FollowedSchedules.{DoesWhatIsDue, asks_run, event_run, followed_end, followed_run}
use Rattle.sl_sound.specs.Reports.ReportLaws.{ReportsAreRuns}
use Rattle.sl_trace.specs.Traces.{no_effects}
use Rattle.sl_trace.specs.declared.effects.Effects.{Effects}
use Rattle.sl_trace.specs.declared.input.Input.{Input}
use Rattle.std.proofs.Common.{ap, arith, refl, subst, sym, ◌∙◌}
use Rattle.std.proofs.lemmas.List.{append_assoc}
use Rattle.std.specs.Option.{option_map_or}
use Rattle.std.specs.Prelude.{Err, IsSome, IsSomeAnd, IsTrue, List, None, Ok, Option, Some, is_none, is_some, length, suc, take, true, zero, [], ℕ, ◌++◌, ◌<◌, ◌∷◌, ◌≡◌, ◌≤◌}

-- ---- the steps of an event

at_most_one : 1 ≤ 1
at_most_one = omega arith

no_second : (k : ℕ) → suc k < suc zero → ⊥
no_second k h = omega (arith, h)

first_step : (w : World) (e : Event) (fx : Effects) (k : ℕ) → IsSome (input_of w e) → k < length (fx ∷ []) → IsSome (next_input w e (take k (fx ∷ [])))
first_step w e fx zero is h = is
first_step w e fx (suc k) is h = absurd (no_second k h)

-- What is due of an event that gives this input.
abbrev steps_at : World → Event → Option Input → List Effects
steps_at w e o = elim o [ None ↦ own_effects_of w e ∷ [] | Some i ↦ option_map_or (λ a. due_at a i) (machine_at w (machine_of e)) no_effects ∷ [] ]

has_steps_by : (w : World) (e : Event) (o : Option Input) → input_of w e ≡ o
    → elim o as (λ x. Type 0) [
      | Some i ↦ (1 ≤ length (steps_at w e o)) × (next_input w e (steps_at w e o) ≡ None)
          × ((k : ℕ) → k < length (steps_at w e o) → IsSome (next_input w e (take k (steps_at w e o))))
      | None ↦ steps_at w e o ≡ own_effects_of w e ∷ []
    ]
has_steps_by w e None is = refl
has_steps_by w e (Some i) is = (at_most_one, refl, λ k h. first_step w e _ k (ap is_some is) h)

-- What is due is the steps of the event.
pub has_steps : (w : World) (e : Event) → HasSteps w e (effects_of w e)
has_steps w e = has_steps_by w e (input_of w e) refl

-- ---- runs, one behind another

pub run_joined : (w : World) (xs ys : List Happening) → IsRun w xs → IsRun (world_after w xs) ys → IsRun w (xs ++ ys)
run_joined w [] ys h k = k
run_joined w (x ∷ xs) ys h k = (h.0, h.1, run_joined (happens w x.0 x.1) xs ys h.2 k)

does_joined : (w : World) (xs ys : List Happening) → DoesWhatIsDue w xs → DoesWhatIsDue (world_after w xs) ys → DoesWhatIsDue w (xs ++ ys)
does_joined w [] ys h k = k
does_joined w (x ∷ xs) ys h k = (h.0, does_joined (happens w x.0 x.1) xs ys h.1 k)

pub lines_joined : (w : World) (xs ys : List Happening) → run_lines w (xs ++ ys) ≡ run_lines w xs ++ run_lines (world_after w xs) ys
lines_joined w [] ys = refl
lines_joined w (x ∷ xs) ys =
    ap (λ ls. event_lines w x.0 x.1 ++ ls) (lines_joined (happens w x.0 x.1) xs ys)
    ∙ sym (append_assoc (event_lines w x.0 x.1) (run_lines (happens w x.0 x.1) xs) (run_lines (world_after w (x ∷ xs)) ys))

counts_joined : (w : World) (k : Counts) (xs ys : List Happening) → run_counts w k (xs ++ ys) ≡ run_counts (world_after w xs) (run_counts w k xs) ys
counts_joined w k [] ys = refl
counts_joined w k (x ∷ xs) ys = counts_joined (happens w x.0 x.1) (count_event w x.0 x.1 k) xs ys

-- ---- asks

-- The ask that is due.
abbrev pub asked_now : World → ℕ → Happening
asked_now w k = (GiveAsk k, effects_of w (GiveAsk k))

pub one_more : (n : ℕ) (w : World) (k : ℕ) → asking w ≡ Some k → asks_run (suc n) w ≡ asked_now w k ∷ asks_run n (happens w (GiveAsk k) (effects_of w (GiveAsk k)))
one_more n w k is = rw (asks_run, is) refl

asks_are_run : (n : ℕ) (w : World) (m : ℕ) (o : Option ℕ) → asking w ≡ o → AsksOn w m (suc n) → ((v : World) → AsksOn v m n → IsRun v (asks_run n v)) → IsRun w (asks_run (suc n) w)
asks_are_run n w m None is on next = subst (IsRun w) (sym (no_asks_by (suc n) w is)) tt
asks_are_run n w m (Some k) is on next =
    let v : World = happens w (GiveAsk k) (effects_of w (GiveAsk k)) in
    subst (IsRun w) (sym (one_more n w k is)) (ap is_none (none_is _ (asks_end.given w m (suc n) k on is).1), has_steps w (GiveAsk k), next v (ask_given w m n k on is))

run_of_asks : (n : ℕ) (w : World) (m : ℕ) → AsksOn w m n → IsRun w (asks_run n w)
run_of_asks zero w m on = tt
run_of_asks (suc n) w m on = asks_are_run n w m (asking w) refl on (λ v. run_of_asks n v m)

asks_do : (n : ℕ) (w : World) (o : Option ℕ) → asking w ≡ o → ((v : World) → DoesWhatIsDue v (asks_run n v)) → DoesWhatIsDue w (asks_run (suc n) w)
asks_do n w None is next = subst (DoesWhatIsDue w) (sym (no_asks_by (suc n) w is)) tt
asks_do n w (Some k) is next = subst (DoesWhatIsDue w) (sym (one_more n w k is)) (refl, next (happens w (GiveAsk k) (effects_of w (GiveAsk k))))

asks_do_all : (n : ℕ) (w : World) → DoesWhatIsDue w (asks_run n w)
asks_do_all zero w = tt
asks_do_all (suc n) w = asks_do n w (asking w) refl (asks_do_all n)

-- Behind them none is due.
pub record Settled (w : World) : Type 0 where
  pub fair : IsFair w
  pub none : NoAsk w

asks_settle : (n : ℕ) (w : World) (m : ℕ) (o : Option ℕ) → asking w ≡ o → AsksOn w m (suc n) → ((v : World) → AsksOn v m n → Settled (world_after v (asks_run n v)))
    → Settled (world_after w (asks_run (suc n) w))
asks_settle n w m None is on next = subst (λ xs. Settled (world_after w xs)) (sym (no_asks_by (suc n) w is)) (record { fair = on.fair; none = is })
asks_settle n w m (Some k) is on next =
    subst (λ xs. Settled (world_after w xs)) (sym (one_more n w k is)) (next (happens w (GiveAsk k) (effects_of w (GiveAsk k))) (ask_given w m n k on is))

pub settled : (n : ℕ) (w : World) (m : ℕ) → AsksOn w m n → Settled (world_after w (asks_run n w))
settled zero w m on = record { fair = on.fair; none = asks_end.none w m on }
settled (suc n) w m on = asks_settle n w m (asking w) refl on (λ v. settled n v m)

-- ---- what follows

first_ask : (w : World) (m n k : ℕ) → AsksOn w m n → asking w ≡ Some k → IsAskOf w (asked_now w k)
first_ask w m n k on is = (subst (λ o. IsSomeAnd o (λ j. GiveAsk k ≡ GiveAsk j)) (sym is) refl, (asks_end.given w m n k on is).1)

follows_ask : (w : World) (k : ℕ) (ys : List Happening) (ls : List EventLine) (end : Ending) → asking w ≡ Some k → IsAskOf w (asked_now w k)
    → Follows (happens w (GiveAsk k) (effects_of w (GiveAsk k))) ls ys end → Follows w ls (asked_now w k ∷ ys) end
follows_ask w k ys [] end is ask g = (ask, g)
follows_ask w k ys ((i, Err r) ∷ ls) end is ask g = (ask, g)
follows_ask w k ys ((i, Ok e) ∷ ls) end is ask g =
    subst (λ o. elim o as (λ z. Type 0) [
      | Some j ↦ IsAskOf w (asked_now w k) × Follows (happens w (GiveAsk k) (effects_of w (GiveAsk k))) ((i, Ok e) ∷ ls) ys end
      | None ↦ (e ≡ GiveAsk k) × IsTrue (may_happen w e) × Follows (happens w (GiveAsk k) (effects_of w (GiveAsk k))) ls ys end
    ]) (sym is) (ask, g)

follow_by : (n : ℕ) (w : World) (m : ℕ) (ls : List EventLine) (xs : List Happening) (end : Ending) (o : Option ℕ) → asking w ≡ o → AsksOn w m (suc n)
    → ((v : World) → AsksOn v m n → Follows (world_after v (asks_run n v)) ls xs end → Follows v ls (asks_run n v ++ xs) end)
    → Follows (world_after w (asks_run (suc n) w)) ls xs end → Follows w ls (asks_run (suc n) w ++ xs) end
follow_by n w m ls xs end None is on next f =
    let same = no_asks_by (suc n) w is in
    subst (λ ys. Follows w ls (ys ++ xs) end) (sym same) (subst (λ ys. Follows (world_after w ys) ls xs end) same f)
follow_by n w m ls xs end (Some k) is on next f =
    let same = one_more n w k is in
    let v : World = happens w (GiveAsk k) (effects_of w (GiveAsk k)) in
    let g : Follows (world_after v (asks_run n v)) ls xs end = subst (λ ys. Follows (world_after w ys) ls xs end) same f in
    subst (λ ys. Follows w ls (ys ++ xs) end) (sym same)
    (follows_ask w k (asks_run n v ++ xs) ls end is (first_ask w m (suc n) k on is) (next v (ask_given w m n k on is) g))

-- The asks that are due, and then the lines.
asks_follow : (n : ℕ) (w : World) (m : ℕ) (ls : List EventLine) (xs : List Happening) (end : Ending) → AsksOn w m n → Follows (world_after w (asks_run n w)) ls xs end
    → Follows w ls (asks_run n w ++ xs) end
asks_follow zero w m ls xs end on f = f
asks_follow (suc n) w m ls xs end on f = follow_by n w m ls xs end (asking w) refl on (λ v. asks_follow n v m ls xs end) f

-- One line.
line_follows : (w : World) (n : ℕ) (e : Event) (ls : List EventLine) (xs : List Happening) (end : Ending) (o : Option Refusal) → IsFair w → NoAsk w → refusal_of w e ≡ o
    → (Settled (world_after w (event_run w e)) → Follows (world_after w (event_run w e)) ls xs end)
    → Follows w ((n, Ok e) ∷ ls) (elim o as (λ x. List Happening) [ Some r ↦ [] | None ↦ event_run w e ++ xs ])
    (elim o as (λ x. Ending) [ Some r ↦ At_line n r | None ↦ end ])
line_follows w n e ls xs end (Some r) fair none is rest = (refl, is, none)
line_follows w n e ls xs end None fair none is rest =
    let may : may_happen w e ≡ true = ap is_none is in
    let v : World = happens w e (effects_of w e) in
    let on = asks_behind w e fair none may in
    let behind : Follows v ls (asks_run many_asks v ++ xs) end = asks_follow many_asks v on.0 ls xs end on.1 (rest (settled many_asks v on.0 on.1)) in
    subst (λ o. elim o as (λ z. Type 0) [
      | Some m ↦ IsAskOf w (e, effects_of w e) × Follows v ((n, Ok e) ∷ ls) (asks_run many_asks v ++ xs) end
      | None ↦ (e ≡ e) × IsTrue (may_happen w e) × Follows v ls (asks_run many_asks v ++ xs) end
    ]) (sym none) (refl, may, behind)

pub follows : (w : World) (ls : List EventLine) → IsFair w → NoAsk w → Follows w ls (followed_run w ls) (followed_end w ls)
follows w [] fair none = none
follows w ((n, Err r) ∷ ls) fair none = (refl, refl, none)
follows w ((n, Ok e) ∷ ls) fair none =
    let v : World = world_after w (event_run w e) in
    line_follows w n e ls (followed_run v ls) (followed_end v ls) (refusal_of w e) fair none refl (λ s. follows v ls s.fair s.none)

line_run : (w : World) (e : Event) (xs : List Happening) (o : Option Refusal) → IsFair w → NoAsk w → refusal_of w e ≡ o
    → (Settled (world_after w (event_run w e)) → IsRun (world_after w (event_run w e)) xs)
    → IsRun w (elim o as (λ x. List Happening) [ Some r ↦ [] | None ↦ event_run w e ++ xs ])
line_run w e xs (Some r) fair none is rest = tt
line_run w e xs None fair none is rest =
    let may : may_happen w e ≡ true = ap is_none is in
    let v : World = happens w e (effects_of w e) in
    let on = asks_behind w e fair none may in
    run_joined w (event_run w e) xs (may, has_steps w e, run_of_asks many_asks v on.0 on.1) (rest (settled many_asks v on.0 on.1))

pub is_run : (w : World) (ls : List EventLine) → IsFair w → NoAsk w → IsRun w (followed_run w ls)
is_run w [] fair none = tt
is_run w ((n, Err r) ∷ ls) fair none = tt
is_run w ((n, Ok e) ∷ ls) fair none =
    let v : World = world_after w (event_run w e) in
    line_run w e (followed_run v ls) (refusal_of w e) fair none refl (λ s. is_run v ls s.fair s.none)

line_does : (w : World) (e : Event) (xs : List Happening) (o : Option Refusal) → DoesWhatIsDue (world_after w (event_run w e)) xs
    → DoesWhatIsDue w (elim o as (λ x. List Happening) [ Some r ↦ [] | None ↦ event_run w e ++ xs ])
line_does w e xs (Some r) rest = tt
line_does w e xs None rest = does_joined w (event_run w e) xs (refl, asks_do_all many_asks (happens w e (effects_of w e))) rest

pub does : (w : World) (ls : List EventLine) → DoesWhatIsDue w (followed_run w ls)
does w [] = tt
does w ((n, Err r) ∷ ls) = tt
does w ((n, Ok e) ∷ ls) = let v : World = world_after w (event_run w e) in line_does w e (followed_run v ls) (refusal_of w e) (does v ls)

-- ---- its report

-- What is played of the asks is their run.
record IsPlayed (n : ℕ) (w : World) (k : Counts) (p : AsksPlayed) : Type 0 where
  lines : p.lines ≡ run_lines w (asks_run n w)
  world : p.world ≡ world_after w (asks_run n w)
  counts : p.counts ≡ run_counts w k (asks_run n w)

played_by : (n : ℕ) (w : World) (k : Counts) (o : Option ℕ) → asking w ≡ o → ((v : World) (c : Counts) → IsPlayed n v c (play_asks n v c)) → IsPlayed (suc n) w k (play_asks (suc n) w k)
played_by n w k None is next =
    let same = no_asks_by (suc n) w is in
    let p : play_asks (suc n) w k ≡ record { lines = []; world = w; counts = k } = rw (play_asks, is) refl in
    subst (IsPlayed (suc n) w k) (sym p) (record {
      lines = ap (run_lines w) (sym same);
      world = ap (world_after w) (sym same);
      counts = ap (run_counts w k) (sym same);
    })
played_by n w k (Some m) is next =
    let same = one_more n w m is in
    let fxs : List Effects = effects_of w (GiveAsk m) in
    let v : World = happens w (GiveAsk m) fxs in
    let c : Counts = count_event w (GiveAsk m) fxs k in
    let q : AsksPlayed = play_asks n v c in
    let rest : IsPlayed n v c q = next v c in
    let p : play_asks (suc n) w k ≡ record q { lines = event_lines w (GiveAsk m) fxs ++ q.lines } = rw (play_asks, is) refl in
    subst (IsPlayed (suc n) w k) (sym p) (record {
      lines = ap (λ ls. event_lines w (GiveAsk m) fxs ++ ls) rest.lines ∙ ap (run_lines w) (sym same);
      world = rest.world ∙ ap (world_after w) (sym same);
      counts = rest.counts ∙ ap (run_counts w k) (sym same);
    })

is_played : (n : ℕ) (w : World) (k : Counts) → IsPlayed n w k (play_asks n w k)
is_played zero w k = record { lines = refl; world = refl; counts = refl }
is_played (suc n) w k = played_by n w k (asking w) refl (is_played n)

line_reported : (lang : Language) (w : World) (k : Counts) (n : ℕ) (e : Event) (xs : List Happening) (end : Ending) (written : List (List ℕ)) (o : Option Refusal)
    → written ≡ run_lines w (event_run w e ++ xs) ++ last_lines lang (run_counts w k (event_run w e ++ xs)) end
    → elim o as (λ x. List (List ℕ)) [ Some r ↦ refusal_line n (lang.told r) ∷ [] | None ↦ written ]
    ≡ run_lines w (elim o as (λ x. List Happening) [ Some r ↦ [] | None ↦ event_run w e ++ xs ])
    ++ last_lines lang (run_counts w k (elim o as (λ x. List Happening) [ Some r ↦ [] | None ↦ event_run w e ++ xs ]))
    (elim o as (λ x. Ending) [ Some r ↦ At_line n r | None ↦ end ])
line_reported lang w k n e xs end written None rest = rest
line_reported lang w k n e xs end written (Some r) rest = refl

-- The lines of an event, of the asks behind it, and of what comes then.
event_reported : (lang : Language) (w : World) (k : Counts) (e : Event) (ls : List EventLine)
    → ((v : World) (c : Counts) → replay_from lang v c ls ≡ run_lines v (followed_run v ls) ++ last_lines lang (run_counts v c (followed_run v ls)) (followed_end v ls))
    → event_lines w e (effects_of w e) ++ (play_asks many_asks (happens w e (effects_of w e)) (count_event w e (effects_of w e) k)).lines
    ++ replay_from lang (play_asks many_asks (happens w e (effects_of w e)) (count_event w e (effects_of w e) k)).world
    (play_asks many_asks (happens w e (effects_of w e)) (count_event w e (effects_of w e) k)).counts ls
    ≡ run_lines w (event_run w e ++ followed_run (world_after w (event_run w e)) ls)
    ++ last_lines lang (run_counts w k (event_run w e ++ followed_run (world_after w (event_run w e)) ls)) (followed_end (world_after w (event_run w e)) ls)
event_reported lang w k e ls next =
    let fxs : List Effects = effects_of w e in
    let v : World = happens w e fxs in
    let c : Counts = count_event w e fxs k in
    let p = is_played many_asks v c in
    let u : World = world_after w (event_run w e) in
    let xs : List Happening = followed_run u ls in
    let d : Counts = run_counts w k (event_run w e) in
    let last : List (List ℕ) = last_lines lang (run_counts u d xs) (followed_end u ls) in
    ap (λ ms. event_lines w e fxs ++ ms ++ replay_from lang (play_asks many_asks v c).world (play_asks many_asks v c).counts ls) p.lines
    ∙ ap (λ x. run_lines w (event_run w e) ++ replay_from lang x (play_asks many_asks v c).counts ls) p.world
    ∙ ap (λ x. run_lines w (event_run w e) ++ replay_from lang u x ls) p.counts
    ∙ ap (λ ms. run_lines w (event_run w e) ++ ms) (next u d)
    ∙ sym (append_assoc (run_lines w (event_run w e)) (run_lines u xs) last)
    ∙ ap (λ ms. ms ++ last) (sym (lines_joined w (event_run w e) xs))
    ∙ ap (λ x. run_lines w (event_run w e ++ xs) ++ last_lines lang x (followed_end u ls)) (sym (counts_joined w k (event_run w e) xs))

pub reported : (lang : Language) (w : World) (k : Counts) (ls : List EventLine)
    → replay_from lang w k ls ≡ run_lines w (followed_run w ls) ++ last_lines lang (run_counts w k (followed_run w ls)) (followed_end w ls)
reported lang w k [] = refl
reported lang w k ((n, Err r) ∷ ls) = refl
reported lang w k ((n, Ok e) ∷ ls) =
    let u : World = world_after w (event_run w e) in
    line_reported lang w k n e (followed_run u ls) (followed_end u ls) _ (refusal_of w e) (event_reported lang w k e ls (λ v c. reported lang v c ls))

pub reports_are_runs : ReportsAreRuns
reports_are_runs = record { follows = follows; is_run = is_run; does = does; reported = reported }
