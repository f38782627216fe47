-- A session whose call has another fate: it is over still, waits no longer than before, and has its claim where it had it.
use Rattle.std.proofs.lemmas.Bool.{and_from, or_left, or_right}
use Rattle.sl_id_safety.proofs.State.FindingFrames.{moved}
use Rattle.sl_id_safety.proofs.State.Frames.{flying_of, free_landed_by, free_of, is_running, landed_as, open_while}
use Rattle.sl_id_safety.specs.State.IdStates.{claim_may_land, deciding_sample, index_of, join_course, own_courses, runs_still}
use Rattle.sl_id_safety.proofs.Steps.FateChanges.{Turns, call_stays, claim_at, deciding_turned, has_landed, join_turned, pends, read_or, turned}
use Rattle.sl_run.specs.EventChanges.{fated}
use Rattle.sl_run.specs.Safety.{Found, SessionId, free_landed, has_write_in_flight, is_over, trace_of, was_reset}
use Rattle.sl_run.specs.Worlds.{Course, Fate, In_flight, Machine, World, history_of, is_in_flight, is_landed, is_write_course, may_land}
use Rattle.sl_run_law.proofs.CourseLists.{changed_if}
use Rattle.sl_run_law.specs.FatesStay.{Every}
use Rattle.sl_trace.specs.Sessions.{calls_of, ended_after, free_write, refused_after}
use Rattle.sl_trace.specs.Traces.{Submitted}
use Rattle.sl_trace.specs.declared.effects.JoinStep.TheVariants.{ClaimWrite}
use Rattle.sl_words.proofs.CaseLaws.{is_false, not_both, true_is_false}
use Rattle.sl_words.proofs.WordLaws.{and_true, or_true}
use Rattle.sl_words.specs.Words.{some_is}
use Rattle.std.proofs.Common.{ap, inl, inr, refl, sym, ◌∙◌}
use Rattle.std.specs.List.{list_any}
use Rattle.std.specs.Prelude.{Bool, List, None, Option, Some, false, is_none, is_some, map, nat_lt, not, filter, option_map, true, [], ℕ, ◌&&◌, ◌+◌, ◌==◌, ◌||◌, ◌∷◌, ◌≡◌}

-- ---- fates

-- What has landed isn't in flight.
pub one_fate : (f : Fate) → is_landed f ≡ true → is_in_flight f ≡ true → ⊥
one_fate In_flight h k = absurd (true_is_false (sym h))
one_fate f h k = absurd cc

-- .. and what is in flight hasn't landed.
pub not_landed : (f : Fate) → is_in_flight f ≡ true → is_landed f ≡ false
not_landed f h = is_false (is_landed f) (λ l. one_fate f l h)

-- Each call of this number is in flight.
abbrev pub FliesAt : ℕ → List Course → Type 0
FliesAt n cs = Every (λ c. (c.call.number == n) ≡ true → is_in_flight c.fate ≡ true) cs

landed_by : (k : ℕ) (fate : Fate) (c : Course) (t : Bool) → (t ≡ true → is_in_flight c.fate ≡ true) → landed_as k c ≡ true
    → landed_as k (changed_if t (fated fate) c) ≡ true
landed_by k fate c true flies h = absurd (one_fate c.fate (and_true (c.call.number == k) (is_landed c.fate) h).1 (flies refl))
landed_by k fate c false flies h = h

landed_more : (k n : ℕ) (fate : Fate) (cs : List Course) → FliesAt n cs → list_any (landed_as k) cs ≡ true → list_any (landed_as k) (map (turned n fate) cs) ≡ true
landed_more k n fate [] flies h = h
landed_more k n fate (c ∷ cs) flies h =
    elim (or_true (landed_as k c) (list_any (landed_as k) cs) h) as (λ z. list_any (landed_as k) (map (turned n fate) (c ∷ cs)) ≡ true) [
      | inl this ↦ or_left (landed_as k (turned n fate c)) (list_any (landed_as k) (map (turned n fate) cs)) (landed_by k fate c (c.call.number == n) flies.0 this)
      | inr more ↦ or_right (landed_as k (turned n fate c)) (list_any (landed_as k) (map (turned n fate) cs)) (landed_more k n fate cs flies.1 more)
    ]

freed_by : (n : ℕ) (fate : Fate) (cs : List Course) (o : Option Submitted) → FliesAt n cs → free_landed_by cs o ≡ true → free_landed_by (map (turned n fate) cs) o ≡ true
freed_by n fate cs None flies h = h
freed_by n fate cs (Some m) flies h = landed_more m.call.number n fate cs flies h

-- What has an end to its flight may not land.
pub may_less : (t : Bool) (fate : Fate) (c : Course) → is_in_flight fate ≡ false → may_land (changed_if t (fated fate) c) ≡ true → (t ≡ false) × (may_land c ≡ true)
may_less false fate c ends h = (refl, h)
may_less true fate c ends h =
    absurd (not_both (is_in_flight fate) (and_true (is_write_course c && is_none c.answered) (is_in_flight fate) h).1 ends)

open_less : (r t : Bool) (fate : Fate) (c : Course) → is_in_flight fate ≡ false → open_while r (changed_if t (fated fate) c) ≡ true → open_while r c ≡ true
open_less r false fate c ends h = h
open_less true true fate c ends h = h
open_less false true fate c ends h =
    absurd (true_is_false (may_less true fate c ends (and_true (is_none c.answered) (may_land (fated fate c)) h).1).0)

writes_by : (t : Bool) (fate : Fate) (c : Course) → is_write_course (changed_if t (fated fate) c) ≡ is_write_course c
writes_by true fate c = refl
writes_by false fate c = refl

flying_by : (r : Bool) (n : ℕ) (fate : Fate) (c : Course) → is_in_flight fate ≡ false
    → (is_write_course (turned n fate c) && open_while r (turned n fate c)) ≡ true → (is_write_course c && open_while r c) ≡ true
flying_by r n fate c ends h =
    let p = and_true (is_write_course (turned n fate c)) (open_while r (turned n fate c)) h in
    and_from (is_write_course c) (open_while r c) (sym (writes_by (c.call.number == n) fate c) ∙ p.0) (open_less r (c.call.number == n) fate c ends p.1)

flying_less : (r : Bool) (n : ℕ) (fate : Fate) (cs : List Course) → is_in_flight fate ≡ false
    → list_any (λ x. is_write_course x && open_while r x) (map (turned n fate) cs) ≡ true → list_any (λ x. is_write_course x && open_while r x) cs ≡ true
flying_less r n fate [] ends h = h
flying_less r n fate (c ∷ cs) ends h =
    elim (or_true (is_write_course (turned n fate c) && open_while r (turned n fate c)) (list_any (λ x. is_write_course x && open_while r x) (map (turned n fate) cs)) h)
    as (λ z. list_any (λ x. is_write_course x && open_while r x) (c ∷ cs) ≡ true) [
      | inl this ↦ or_left (is_write_course c && open_while r c) (list_any (λ x. is_write_course x && open_while r x) cs) (flying_by r n fate c ends this)
      | inr more ↦ or_right (is_write_course c && open_while r c) (list_any (λ x. is_write_course x && open_while r x) cs) (flying_less r n fate cs ends more)
    ]

-- ---- over

over_by : (a b e w x : Bool) → (a ≡ true → b ≡ true) → (x ≡ true → w ≡ true) → (a || e && not w) ≡ true → (b || e && not x) ≡ true
over_by true b e w x up down h = ap (λ y. y || e && not x) (up refl)
over_by false true e w x up down h = refl
over_by false false e w false up down h = ap (λ y. y && true) (and_true e (not w) h).0
over_by false false e w true up down h =
    absurd (true_is_false (sym (and_true e (not w) h).1 ∙ ap (λ y. not y) (down refl)))

runs_same : (i : SessionId) (a b : Machine) → b.daemon ≡ a.daemon → is_running i.daemon b ≡ is_running i.daemon a
runs_same i a b h = ap (λ o. some_is (λ d. d.number == i.daemon) o) h

reset_same : (f : Found) (b : Machine) → b.resets ≡ f.machine.resets → was_reset (moved b f) ≡ was_reset f
reset_same f b h = ap (λ rs. list_any (λ r. nat_lt (r.moment + f.daemon.setting.timing.land) f.now) (filter (λ r. nat_lt f.daemon.begun.step r.step) rs)) h

freed : (i : SessionId) (f : Found) (b : Machine) (n : ℕ) (fate : Fate) → Turns i f b n fate → FliesAt n (own_courses i f.machine) → free_landed i f ≡ true
    → free_landed i (moved b f) ≡ true
freed i f b n fate t flies h =
    free_of i (moved b f) ∙ ap (λ cs. free_landed_by cs (free_write (calls_of (trace_of f) f.session))) t.calls
    ∙ freed_by n fate (own_courses i f.machine) (free_write (calls_of (trace_of f) f.session)) flies (sym (free_of i f) ∙ h)

flew : (i : SessionId) (f : Found) (b : Machine) (n : ℕ) (fate : Fate) → Turns i f b n fate → is_in_flight fate ≡ false → has_write_in_flight i b ≡ true
    → has_write_in_flight i f.machine ≡ true
flew i f b n fate t ends h =
    flying_of i f.machine
    ∙ flying_less (is_running i.daemon f.machine) n fate (own_courses i f.machine) ends
    (sym (ap (λ cs. list_any (λ x. is_write_course x && open_while (is_running i.daemon f.machine) x) cs) t.calls)
    ∙ sym (ap (λ r. list_any (λ x. is_write_course x && open_while r x) (own_courses i b)) (runs_same i f.machine b t.runs)) ∙ sym (flying_of i b) ∙ h)

-- What is over is over still.
pub over_stays : (i : SessionId) (f : Found) (b : Machine) (n : ℕ) (fate : Fate) → Turns i f b n fate → FliesAt n (own_courses i f.machine)
    → is_in_flight fate ≡ false → is_over i f ≡ true → is_over i (moved b f) ≡ true
over_stays i f b n fate t flies ends h =
    over_by (free_landed i f) (free_landed i (moved b f)) (is_some (ended_after (trace_of f) f.session) || was_reset (moved b f)) (has_write_in_flight i f.machine)
    (has_write_in_flight i b) (freed i f b n fate t flies) (flew i f b n fate t ends)
    (ap (λ r. free_landed i f || (is_some (ended_after (trace_of f) f.session) || r) && not (has_write_in_flight i f.machine)) (reset_same f b t.resets) ∙ h)

-- ---- its claim

claims_by : (f : Found) (b : Machine) (n : ℕ) (fate : Fate) (o : Option Course) → b.daemon ≡ f.machine.daemon → is_in_flight fate ≡ false
    → elim (option_map (turned n fate) o) as (λ z. Bool) [ None ↦ runs_still (moved b f) && is_none (refused_after (trace_of f) f.session) | Some c ↦ may_land c ] ≡ true
    → elim o as (λ z. Bool) [ None ↦ runs_still f && is_none (refused_after (trace_of f) f.session) | Some c ↦ may_land c ] ≡ true
claims_by f b n fate None runs ends h =
    sym (ap (λ o. some_is (λ d. d.number == f.daemon.number) o && is_none (refused_after (trace_of f) f.session)) runs) ∙ h
claims_by f b n fate (Some c) runs ends h = (may_less (c.call.number == n) fate c ends h).1

-- A claim of this number.
abbrev pub IsClaim : SessionId → Found → ℕ → Type 0
IsClaim i f n = (k : Course) × (join_course i ClaimWrite f.machine ≡ Some k) × ((k.call.number == n) ≡ true)

waits_not : (i : SessionId) (f : Found) (b : Machine) (n : ℕ) (fate : Fate) → Turns i f b n fate → is_in_flight fate ≡ false → (pends i f ≡ true → IsClaim i f n)
    → pends i (moved b f) ≡ true → ⊥
waits_not i f b n fate t ends only h =
    let p = and_true (is_some (deciding_sample i (moved b f))) (claim_may_land i (moved b f)) h in
    let decided : is_some (deciding_sample i f) ≡ true = sym (ap (λ o. is_some o) (deciding_turned i f b n fate t)) ∙ p.0 in
    let may : elim (option_map (turned n fate) (join_course i ClaimWrite f.machine)) as (λ z. Bool) [
      | None ↦ runs_still (moved b f) && is_none (refused_after (trace_of f) f.session)
      | Some c ↦ may_land c
    ] ≡ true =
    sym (ap (λ o. elim o as (λ z. Bool) [ None ↦ runs_still (moved b f) && is_none (refused_after (trace_of f) f.session) | Some c ↦ may_land c ])
    (join_turned i f b n fate t ClaimWrite)) ∙ p.1 in
    let k = only (and_from (is_some (deciding_sample i f)) (claim_may_land i f) decided (claims_by f b n fate (join_course i ClaimWrite f.machine) t.runs ends may)) in
    let its : may_land (turned n fate k.0) ≡ true =
    sym (ap (λ o. elim (option_map (turned n fate) o) as (λ z. Bool) [
      | None ↦ runs_still (moved b f) && is_none (refused_after (trace_of f) f.session)
      | Some c ↦ may_land c
    ]) k.1) ∙ may in
    not_both (k.0.call.number == n) k.2 (may_less (k.0.call.number == n) fate k.0 ends its).0

-- A session of which only its claim could be pending is not so any more.
pub waits_no_more : (i : SessionId) (f : Found) (b : Machine) (n : ℕ) (fate : Fate) → Turns i f b n fate → is_in_flight fate ≡ false → (pends i f ≡ true → IsClaim i f n)
    → pends i (moved b f) ≡ false
waits_no_more i f b n fate t ends only = is_false (pends i (moved b f)) (waits_not i f b n fate t ends only)

-- The claim has landed as before, if it isn't it that lands.
landed_same_by : (n : ℕ) (fate : Fate) (o : Option Course) → ((k : Course) → o ≡ Some k → (k.call.number == n) ≡ true → is_landed fate ≡ is_landed k.fate)
    → some_is (λ c. is_landed c.fate) (option_map (turned n fate) o) ≡ some_is (λ c. is_landed c.fate) o
landed_same_by n fate None h = refl
landed_same_by n fate (Some k) h = by (k.call.number == n) (h k refl) where
  by : (t : Bool) → (t ≡ true → is_landed fate ≡ is_landed k.fate) → is_landed (changed_if t (fated fate) k).fate ≡ is_landed k.fate
  by true e = e refl
  by false e = refl

pub landed_same : (i : SessionId) (f : Found) (b : Machine) (n : ℕ) (fate : Fate) → Turns i f b n fate
    → ((k : Course) → join_course i ClaimWrite f.machine ≡ Some k → (k.call.number == n) ≡ true → is_landed fate ≡ is_landed k.fate)
    → has_landed i b ≡ has_landed i f.machine
landed_same i f b n fate t h =
    ap (λ o. some_is (λ c. is_landed c.fate) o) (join_turned i f b n fate t ClaimWrite) ∙ landed_same_by n fate (join_course i ClaimWrite f.machine) h

-- .. or it has now.
pub landed_now : (i : SessionId) (f : Found) (b : Machine) (n : ℕ) (fate : Fate) → Turns i f b n fate → (k : Course) → join_course i ClaimWrite f.machine ≡ Some k
    → (k.call.number == n) ≡ true → is_landed fate ≡ true → has_landed i b ≡ true
landed_now i f b n fate t k at is lands =
    ap (λ o. some_is (λ c. is_landed c.fate) o) (join_turned i f b n fate t ClaimWrite)
    ∙ ap (λ o. some_is (λ c. is_landed c.fate) (option_map (turned n fate) o)) at ∙ ap (λ x. is_landed (changed_if x (fated fate) k).fate) is ∙ lands

-- It is where it was.
pub claim_same : (v : World) (path : List ℕ) (offset : ℕ) (i : SessionId) (f : Found) (b : Machine) (n : ℕ) (fate : Fate) → Turns i f b n fate
    → claim_at v path offset i (join_course i ClaimWrite b) ≡ claim_at v path offset i (join_course i ClaimWrite f.machine)
claim_same v path offset i f b n fate t =
    ap (claim_at v path offset i) (join_turned i f b n fate t ClaimWrite)
    ∙ read_or (turned n fate) (λ c. index_of (i.machine, c.call.number) (history_of v path offset)) 0 (join_course i ClaimWrite f.machine)
    (λ c. ap (λ x. index_of (i.machine, x.number) (history_of v path offset)) (call_stays n fate c))
