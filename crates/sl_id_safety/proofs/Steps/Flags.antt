-- The flags of a session through an entry: one that is over stays over; and a claim that may land after it might before.
use Rattle.sl_id_safety.proofs.State.FindingFrames.{find_passes}
use Rattle.sl_id_safety.proofs.State.Frames.{flying_of, is_running, open_while}
use Rattle.sl_id_safety.specs.State.IdStates.{claim_may_land, deciding_sample, join_course, own_courses, runs_still}
use Rattle.sl_id_safety.proofs.Steps.Frees.{free_stays, silent_calls_own}
use Rattle.sl_id_safety.proofs.Steps.OwnCalls.{IsFresh, IsKept, IsSilent, JoinGoes, Through, closed, closes, find_mapped, join_goes, kept, knows, step_as}
use Rattle.sl_id_safety.proofs.Steps.ShownStays.{deciding_stays}
use Rattle.sl_words.proofs.Lists.{any_of}
use Rattle.sl_words.proofs.Options.{none_is}
use Rattle.sl_words.proofs.Truth.{left_is_false}
use Rattle.sl_run.specs.Runs.{Happening}
use Rattle.sl_run.specs.Safety.{Found, SessionId, free_landed, has_write_in_flight, is_over, trace_of, was_reset}
use Rattle.sl_run.specs.Worlds.{Course, Program, World, is_in_flight, is_write_course, may_land}
use Rattle.sl_run.specs.declared.header.Header.{Header}
use Rattle.sl_run_law.proofs.Sessions.MarksStay.{ended_more, refused_apart, refused_more}
use Rattle.sl_trace.specs.Sessions.{ended_after, is_join_call, joined_after, refused_after, removed_after}
use Rattle.sl_trace.specs.declared.session.Session.{Session}
use Rattle.sl_trace.specs.Traces.{Trace}
use Rattle.sl_trace.specs.declared.effects.JoinStep.TheVariants.{ClaimWrite}
use Rattle.sl_words.proofs.CaseLaws.{is_false, none_some, not_both, true_is_false}
use Rattle.sl_words.proofs.WordLaws.{and_true}
use Rattle.std.proofs.Common.{ap, arith, refl, sym, ◌∙◌}
use Rattle.std.proofs.lemmas.Bool.{and_from, or_right}
use Rattle.std.specs.List.{list_any}
use Rattle.std.specs.Prelude.{Bool, List, None, Option, Some, false, find, is_none, is_some, map, not, true, [], ℕ, ◌&&◌, ◌||◌, ◌∷◌, ◌≡◌}

-- ---- a claim that may land

ended_if_refused : (es : Trace) (s : Session) (k : ℕ) → refused_after es s ≡ Some k → ended_after es s ≡ Some k
ended_if_refused es s k h =
    ap (λ q. elim q as (λ z. Option ℕ) [ Some n ↦ removed_after es s | None ↦ refused_after es s ]) (refused_apart es s k h) ∙ h

-- A session that has been refused has no new call of a step.
not_refused : {p : Program} {h : Header} {xs : List Happening} {w : World} {i : SessionId} {f g : Found} (t : Through p h xs w i f g) (c : Course)
    → join_course i ClaimWrite f.machine ≡ None → join_course i ClaimWrite g.machine ≡ Some c → (o : Option ℕ) → refused_after f.daemon.trace f.session ≡ o → o ≡ None
not_refused t c none at None is = refl
not_refused {i = i} {f = f} t c none at (Some k) is =
    let q : Course → Bool = λ x. is_join_call ClaimWrite x.call.purpose in
    absurd (none_some c (sym (ap (λ cs. find q cs) (silent_calls_own t (t.silent k (ended_if_refused f.daemon.trace f.session k is)))
    ∙ find_mapped q (closed t.stamp t.entry.input) (own_courses i f.machine) (step_as t.stamp t.entry.input ClaimWrite) none) ∙ at))

refused_before : {p : Program} {h : Header} {xs : List Happening} {w : World} {i : SessionId} {f g : Found} (t : Through p h xs w i f g)
    → is_none (refused_after (trace_of g) g.session) ≡ true → (o : Option ℕ) → refused_after f.daemon.trace f.session ≡ o → is_none o ≡ true
refused_before t h None is = refl
refused_before {f = f} {g = g} t h (Some k) is =
    let same : refused_after (trace_of g) g.session ≡ Some k =
    ap (λ es. refused_after es g.session) t.trace ∙ ap (λ s. refused_after (t.entry ∷ f.daemon.trace) s) t.session
    ∙ refused_more t.entry f.daemon.trace f.session k is in
    absurd (true_is_false (sym h ∙ ap (λ o. is_none o) same))

waits_still : {p : Program} {h : Header} {xs : List Happening} {w : World} {i : SessionId} {f g : Found} (t : Through p h xs w i f g) (c : Course)
    → is_none (closes t c).answered ≡ true → closes t c ≡ c
waits_still t c h =
    let k : IsKept c (closed t.stamp t.entry.input c) = kept t.stamp t.entry.input c in k.waits (none_is (closed t.stamp t.entry.input c).answered h)

may_still : {p : Program} {h : Header} {xs : List Happening} {w : World} {i : SessionId} {f g : Found} (t : Through p h xs w i f g) (c : Course)
    → may_land (closes t c) ≡ true → may_land c ≡ true
may_still t c h =
    let x : Course = closed t.stamp t.entry.input c in
    let a = and_true (is_write_course x && is_none x.answered) (is_in_flight x.fate) h in
    let b = and_true (is_write_course x) (is_none x.answered) a.0 in
    ap (λ y. may_land y) (sym (waits_still t c b.1)) ∙ h

claim_by : {p : Program} {h : Header} {xs : List Happening} {w : World} {i : SessionId} {f g : Found} (t : Through p h xs w i f g) (o q : Option Course)
    → join_course i ClaimWrite f.machine ≡ o → join_course i ClaimWrite g.machine ≡ q → JoinGoes (IsFresh t.stamp) (closes t) o q
    → elim q as (λ z. Bool) [ None ↦ runs_still g && is_none (refused_after (trace_of g) g.session) | Some c ↦ may_land c ] ≡ true
    → elim o as (λ z. Bool) [ None ↦ runs_still f && is_none (refused_after (trace_of f) f.session) | Some c ↦ may_land c ] ≡ true
claim_by {f = f} {g = g} t None None was is goes h =
    and_from (runs_still f) (is_none (refused_after f.daemon.trace f.session)) t.ran
    (refused_before t (and_true (runs_still g) (is_none (refused_after (trace_of g) g.session)) h).1 (refused_after f.daemon.trace f.session) refl)
claim_by {f = f} t None (Some c) was is goes h =
    and_from (runs_still f) (is_none (refused_after f.daemon.trace f.session)) t.ran
    (ap (λ o. is_none o) (not_refused t c was is (refused_after f.daemon.trace f.session) refl))
claim_by t (Some c) None was is goes h = absurd goes
claim_by t (Some c) (Some x) was is goes h = may_still t c (ap (λ y. may_land y) (sym goes) ∙ h)

-- A claim that may land after the entry might before.
pub pending_before : {p : Program} {h : Header} {xs : List Happening} {w : World} {i : SessionId} {f g : Found} (t : Through p h xs w i f g)
    → (is_some (deciding_sample i g) && claim_may_land i g) ≡ true → (is_some (deciding_sample i f) && claim_may_land i f) ≡ true
pending_before {i = i} {f = f} {g = g} t h =
    let a = and_true (is_some (deciding_sample i g)) (claim_may_land i g) h in
    and_from (is_some (deciding_sample i f)) (claim_may_land i f) (ap is_some (sym (deciding_stays t)) ∙ a.0)
    (claim_by t (join_course i ClaimWrite f.machine) (join_course i ClaimWrite g.machine) refl refl (join_goes t ClaimWrite (λ e. absurd (omega (arith, e)))) a.1)

-- ---- writes in flight

running : {p : Program} {h : Header} {xs : List Happening} {w : World} {i : SessionId} {f g : Found} (t : Through p h xs w i f g) → is_running i.daemon f.machine ≡ true
running {f = f} t = ap (λ n. is_running n f.machine) (sym t.number) ∙ t.ran

one_before : (a b c d : Bool) → (a ≡ true → b ≡ true) → (c ≡ true → d ≡ true) → (a || c) ≡ true → (b || d) ≡ true
one_before true b c d this rest h = ap (λ z. z || d) (this refl)
one_before false b c d this rest h = or_right b d (rest h)

any_before : (q r : Course → Bool) (f : Course → Course) (cs : List Course) → ((c : Course) → q (f c) ≡ true → r c ≡ true) → list_any q (map f cs) ≡ true
    → list_any r cs ≡ true
any_before q r f [] less h = h
any_before q r f (c ∷ cs) less h = one_before (q (f c)) (r c) (list_any q (map f cs)) (list_any r cs) (less c) (any_before q r f cs less) h

flying_silent : {p : Program} {h : Header} {xs : List Happening} {w : World} {i : SessionId} {f g : Found} (t : Through p h xs w i f g) → IsSilent t.entry f.session
    → has_write_in_flight i g.machine ≡ true → has_write_in_flight i f.machine ≡ true
flying_silent {i = i} {f = f} {g = g} t silent h =
    let q : Course → Bool = λ x. is_write_course x && open_while (is_running i.daemon g.machine) x in
    let r : Course → Bool = λ x. is_write_course x && open_while (is_running i.daemon f.machine) x in
    let k : Course → Course = closed t.stamp t.entry.input in
    flying_of i f.machine
    ∙ any_before q r k (own_courses i f.machine) (λ c is.
    let a = and_true (is_write_course (k c)) (open_while (is_running i.daemon g.machine) (k c)) is in
    let b = and_true (is_none (k c).answered) (is_running i.daemon g.machine || may_land (k c)) a.1 in
    let same : k c ≡ c = waits_still t c b.0 in
    and_from (is_write_course c) (open_while (is_running i.daemon f.machine) c) (ap (λ y. is_write_course y) (sym same) ∙ a.0)
    (and_from (is_none c.answered) (is_running i.daemon f.machine || may_land c) (ap (λ y. is_none y.answered) (sym same) ∙ b.0)
    (ap (λ z. z || may_land c) (running t))))
    (ap (λ cs. list_any q cs) (sym (silent_calls_own t silent)) ∙ sym (flying_of i g.machine) ∙ h)

-- ---- over

ended_of : {p : Program} {h : Header} {xs : List Happening} {w : World} {i : SessionId} {f g : Found} (t : Through p h xs w i f g) (k : ℕ)
    → ended_after f.daemon.trace f.session ≡ Some k → ended_after (trace_of g) g.session ≡ Some k
ended_of {f = f} {g = g} t k is =
    ap (λ es. ended_after es g.session) t.trace ∙ ap (λ s. ended_after (t.entry ∷ f.daemon.trace) s) t.session ∙ ended_more t.entry f.daemon.trace f.session k is

-- What is over: its free has landed, or it has ended with no write in flight.
pub over_is : (i : SessionId) (f : Found) → was_reset f ≡ false
    → is_over i f ≡ (free_landed i f || is_some (ended_after (trace_of f) f.session) && not (has_write_in_flight i f.machine))
over_is i f up = ap (λ b. free_landed i f || (is_some (ended_after (trace_of f) f.session) || b) && not (has_write_in_flight i f.machine)) up ∙ no_reset where
  or_none : (a : Bool) → (a || false) ≡ a
  or_none true = refl
  or_none false = refl

  no_reset : (free_landed i f || (is_some (ended_after (trace_of f) f.session) || false) && not (has_write_in_flight i f.machine))
      ≡ (free_landed i f || is_some (ended_after (trace_of f) f.session) && not (has_write_in_flight i f.machine))
  no_reset = ap (λ a. free_landed i f || a && not (has_write_in_flight i f.machine)) (or_none (is_some (ended_after (trace_of f) f.session)))

over_on : (a b : Bool) (o q : Option ℕ) (c d : Bool) → b ≡ a → ((k : ℕ) → o ≡ Some k → q ≡ Some k × (d ≡ true → c ≡ true))
    → (a || is_some o && not c) ≡ true → (b || is_some q && not d) ≡ true
over_on true b o q c d same more h = ap (λ z. z || is_some q && not d) same
over_on false b None q c d same more h = absurd (true_is_false (sym h))
over_on false b (Some k) q true d same more h = absurd (true_is_false (sym h))
over_on false b (Some k) q false d same more h =
    let r = more k refl in
    ap (λ z. z || is_some q && not d) same ∙ ap (λ z. is_some z && not d) r.0
    ∙ ap (λ z. not z) (is_false d (λ flies. true_is_false (sym (r.1 flies))))

-- One that is over stays over.
pub over_stays : {p : Program} {h : Header} {xs : List Happening} {w : World} {i : SessionId} {f g : Found} (t : Through p h xs w i f g)
    → is_over i f ≡ true → is_over i g ≡ true
over_stays {i = i} {f = f} {g = g} t h =
    over_is i g t.is_up
    ∙ over_on (free_landed i f) (free_landed i g) (ended_after f.daemon.trace f.session) (ended_after (trace_of g) g.session) (has_write_in_flight i f.machine)
    (has_write_in_flight i g.machine) (free_stays t) (λ k is. (ended_of t k is, flying_silent t (t.silent k is))) (sym (over_is i f t.was_up) ∙ h)

-- ---- one that ends with the entry

flying_claim : (i : SessionId) (g : Found) (c : Course) → join_course i ClaimWrite g.machine ≡ Some c → is_running i.daemon g.machine ≡ true → may_land c ≡ true
    → has_write_in_flight i g.machine ≡ true
flying_claim i g c at runs lands =
    let p = find_passes (λ x. is_join_call ClaimWrite x.call.purpose) (own_courses i g.machine) c at in
    let q = and_true (is_write_course c && is_none c.answered) (is_in_flight c.fate) lands in
    let r = and_true (is_write_course c) (is_none c.answered) q.0 in
    flying_of i g.machine
    ∙ any_of (λ x. is_write_course x && open_while (is_running i.daemon g.machine) x) (own_courses i g.machine) c
    (and_from (is_write_course c) (open_while (is_running i.daemon g.machine) c) r.0
    (and_from (is_none c.answered) (is_running i.daemon g.machine || may_land c) r.1 (ap (λ z. z || may_land c) runs))) p.there

ends_not : (joined removed refused : Option ℕ) → is_none refused ≡ true → (is_some joined ≡ true → ⊥)
    → is_some (elim joined as (λ z. Option ℕ) [ Some k ↦ removed | None ↦ refused ]) ≡ true → ⊥
ends_not (Some k) removed refused waits out h = out refl
ends_not None removed None waits out h = true_is_false (sym h)
ends_not None removed (Some r) waits out h = true_is_false (sym waits)

only_ended : (a b : Bool) (c : Bool) → (a || b && not c) ≡ true → a ≡ false → (b ≡ true) × (c ≡ false)
only_ended true b c h none = absurd (true_is_false none)
only_ended false true false h none = (refl, refl)
only_ended false true true h none = absurd (true_is_false (sym h))
only_ended false false c h none = absurd (true_is_false (sym h))

claim_ends : (i : SessionId) (g : Found) (o : Option Course) → join_course i ClaimWrite g.machine ≡ o
    → elim o as (λ z. Bool) [ None ↦ runs_still g && is_none (refused_after (trace_of g) g.session) | Some c ↦ may_land c ] ≡ true
    → is_running i.daemon g.machine ≡ true → has_write_in_flight i g.machine ≡ false → is_none (refused_after (trace_of g) g.session) ≡ true
claim_ends i g None at h runs none = (and_true (runs_still g) (is_none (refused_after (trace_of g) g.session)) h).1
claim_ends i g (Some c) at h runs none = absurd (not_both (has_write_in_flight i g.machine) (flying_claim i g c at runs h) none)

-- Where it is over after the entry, and wasn't before, and hasn't joined, no claim of it may land.
pub last_one : {p : Program} {h : Header} {xs : List Happening} {w : World} {i : SessionId} {f g : Found} (t : Through p h xs w i f g)
    → is_over i f ≡ false → is_over i g ≡ true → (is_some (joined_after (trace_of g) g.session) ≡ true → ⊥)
    → (is_some (deciding_sample i g) && claim_may_land i g) ≡ true → ⊥
last_one {i = i} {f = f} {g = g} t alive closed_now out pending =
    let free : free_landed i g ≡ false = free_stays t ∙ left_is_false (free_landed i f) ((is_some (ended_after (trace_of f) f.session) || was_reset f) && not (has_write_in_flight i f.machine)) alive in
    let e = only_ended (free_landed i g) (is_some (ended_after (trace_of g) g.session)) (has_write_in_flight i g.machine) (sym (over_is i g t.is_up) ∙ closed_now) free in
    let runs : is_running i.daemon g.machine ≡ true = ap (λ n. is_running n g.machine) (sym (knows t).there.daemon) ∙ t.runs in
    ends_not (joined_after (trace_of g) g.session) (removed_after (trace_of g) g.session) (refused_after (trace_of g) g.session)
    (claim_ends i g (join_course i ClaimWrite g.machine) refl (and_true (is_some (deciding_sample i g)) (claim_may_land i g) pending).1 runs e.1) out e.0
