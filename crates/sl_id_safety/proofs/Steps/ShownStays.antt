-- Through an entry what the reads of a joining have shown stays.
use Rattle.sl_run_law.specs.Course.CallStamps.{stamp_in}
use Rattle.sl_id_safety.proofs.State.SessionFacts.{deciding_reads_have_watched, verify_reads_have_claimed}
use Rattle.sl_id_safety.proofs.State.TracesInTime.{refused_by}
use Rattle.sl_id_safety.specs.State.Facts.{HasClaimed, HasWatched}
use Rattle.sl_id_safety.specs.State.IdStates.{claim_bytes, comes_before, deciding_sample, join_course, own_courses, refused_stamp, sample_showing, verifying_sample, watched_bytes}
use Rattle.sl_id_safety.proofs.Steps.OwnCalls.{IsFresh, IsKept, JoinGoes, Through, closed, closes, had_step, join_goes, kept}
use Rattle.sl_words.proofs.Lists.{contains_first}
use Rattle.sl_run.specs.EventChanges.{write_bytes}
use Rattle.sl_run.specs.Runs.{Happening}
use Rattle.sl_run.specs.Safety.{Found, SessionId, world_at}
use Rattle.sl_run.specs.Worlds.{Course, Program, Sampling, Stamp, World, is_landed}
use Rattle.sl_run.specs.declared.header.Header.{Header}
use Rattle.sl_run_law.proofs.Sessions.MarksStay.{refused_more}
use Rattle.sl_trace.specs.Sessions.{refused_after}
use Rattle.sl_trace.specs.declared.session.Session.{Session}
use Rattle.sl_trace.specs.Traces.{Trace}
use Rattle.sl_trace.specs.declared.effects.Entry.{Entry}
use Rattle.sl_trace.specs.declared.effects.JoinStep.TheVariants.{ClaimWrite, DecidingRead, FirstRead, VerifyRead}
use Rattle.sl_trace.specs.declared.effects.JoinStep.{JoinStep}
use Rattle.sl_words.proofs.CaseLaws.{none_some, one_value, some_value, true_is_false}
use Rattle.sl_words.specs.Words.{choose, first_of_list, some_is}
use Rattle.std.proofs.Common.{ap, arith, refl, subst, sym, tests, ◌∙◌}
use Rattle.std.proofs.lemmas.Bool.{lt-ltb}
use Rattle.std.specs.Prelude.{Bool, Contains, List, None, Option, Some, bytes_eq, false, length, option_and_then, option_map, suc, true, [], ℕ, ◌&&◌, ◌+◌, ◌-◌, ◌<◌, ◌==◌, ◌∷◌, ◌≡◌, ◌≤◌}

-- ---- a refusal

too_far : (k n : ℕ) → suc n ≤ k → (k == n) ≡ true → ⊥
too_far k n le is = grind (arith, tests)

past_by : (s : Stamp) (ss : List Stamp) (k : ℕ) (b : Bool) → (k == length ss) ≡ b → suc (length ss) ≤ k → stamp_in ss k ≡ None
    → elim b as (λ z. Option Stamp) [ true ↦ Some s | false ↦ stamp_in ss k ] ≡ None
past_by s ss k true is le rest = absurd (too_far k (length ss) le is)
past_by s ss k false is le rest = rest

pub past_none : (ss : List Stamp) (k : ℕ) → length ss ≤ k → stamp_in ss k ≡ None
past_none [] k le = refl
past_none (s ∷ ss) k le = past_by s ss k (k == length ss) refl le (past_none ss k (omega (arith, le)))

reaches : (k n : ℕ) → (k == n) ≡ true → n ≤ k
reaches k n is = grind (arith, tests)

later_stamp : (now : Stamp) (ss : List Stamp) (k : ℕ) (y : Sampling) → y.step < now.step → (b : Bool) → (k == length ss) ≡ b
    → comes_before (elim b as (λ z. Option Stamp) [ true ↦ Some now | false ↦ stamp_in ss k ]) y ≡ comes_before (stamp_in ss k) y
later_stamp now ss k y lt true is =
    lt-ltb y.step now.step lt ∙ sym (ap (λ o. comes_before o y) (past_none ss k (reaches k (length ss) is)))
later_stamp now ss k y lt false is = refl

its_place : (k n m : ℕ) → k ≡ n + 1 → m ≡ n → (k - 1 == m) ≡ true
its_place k n m is same = grind (arith, tests)

refusal_by : (e : Entry) (es : Trace) (s : Session) (now : Stamp) (ss : List Stamp) (y : Sampling) → y.step < now.step → length ss ≡ length es
    → (o q : Option ℕ) → refused_after es s ≡ o → refused_after (e ∷ es) s ≡ q
    → comes_before (option_and_then (λ k. stamp_in (now ∷ ss) (k - 1)) q) y ≡ comes_before (option_and_then (λ k. stamp_in ss (k - 1)) o) y
refusal_by e es s now ss y lt even None None was is = refl
refusal_by e es s now ss y lt even None (Some k) was is =
    ap (λ b. comes_before (elim b as (λ z. Option Stamp) [ true ↦ Some now | false ↦ stamp_in ss (k - 1) ]) y)
    (its_place k (length es) (length ss) (refused_by e es s k s.job refl was is) even)
    ∙ lt-ltb y.step now.step lt
refusal_by e es s now ss y lt even (Some k) None was is = absurd (none_some k (sym is ∙ refused_more e es s k was))
refusal_by e es s now ss y lt even (Some k) (Some j) was is =
    later_stamp now ss (j - 1) y lt (j - 1 == length ss) refl
    ∙ ap (λ n. comes_before (stamp_in ss (n - 1)) y) (some_value j k (sym is ∙ refused_more e es s k was))

-- What was sampled before the entry comes before a refusal just as it did.
pub refusal_same : {p : Program} {h : Header} {xs : List Happening} {w : World} {i : SessionId} {f g : Found} (t : Through p h xs w i f g) (y : Sampling)
    → y.step < t.stamp.step → comes_before (refused_stamp g) y ≡ comes_before (refused_stamp f) y
refusal_same {f = f} {g = g} t y lt =
    ap (λ ss. comes_before (option_and_then (λ k. stamp_in ss (k - 1)) (refused_after g.daemon.trace g.session)) y) t.stamps
    ∙ ap (λ es. comes_before (option_and_then (λ k. stamp_in (t.stamp ∷ f.daemon.stamps) (k - 1)) (refused_after es g.session)) y) t.trace
    ∙ ap (λ s. comes_before (option_and_then (λ k. stamp_in (t.stamp ∷ f.daemon.stamps) (k - 1)) (refused_after (t.entry ∷ f.daemon.trace) s)) y) t.session
    ∙ refusal_by t.entry f.daemon.trace f.session t.stamp f.daemon.stamps y lt t.even (refused_after f.daemon.trace f.session)
    (refused_after (t.entry ∷ f.daemon.trace) f.session) refl refl

-- ---- what a read shows

pub first_there : (ys : List Sampling) (y : Sampling) → first_of_list ys ≡ Some y → Contains ys y
first_there [] y h = absurd (none_some y h)
first_there (x ∷ ys) y h = subst (λ z. Contains (x ∷ ys) z) (some_value x y h) (contains_first x ys)

abbrev shown_in : Option Stamp → Option (List ℕ) → List ℕ → Option Sampling → Option Sampling
shown_in refused bytes sampled o = option_and_then (λ y. choose (some_is (λ b. bytes_eq b sampled) bytes && comes_before refused y) y) o

shown_by : (r s : Option Stamp) (bytes : Option (List ℕ)) (sampled : List ℕ) (o : Option Sampling)
    → ((y : Sampling) → o ≡ Some y → comes_before s y ≡ comes_before r y) → shown_in s bytes sampled o ≡ shown_in r bytes sampled o
shown_by r s bytes sampled None same = refl
shown_by r s bytes sampled (Some y) same = ap (λ b. choose (some_is (λ z. bytes_eq z sampled) bytes && b) y) (same y refl)

-- A read that was there shows what it showed.
shows_still : {p : Program} {h : Header} {xs : List Happening} {w : World} {i : SessionId} {f g : Found} (t : Through p h xs w i f g) (bytes : Option (List ℕ)) (c : Course)
    → Contains (own_courses i f.machine) c → sample_showing g bytes (closes t c) ≡ sample_showing f bytes c
shows_still {f = f} {g = g} t bytes c has =
    let k : IsKept c (closed t.stamp t.entry.input c) = kept t.stamp t.entry.input c in
    ap (λ z. shown_in (refused_stamp g) bytes z (first_of_list (closed t.stamp t.entry.input c).samples)) k.sampled
    ∙ ap (λ z. shown_in (refused_stamp g) bytes c.sampled (first_of_list z)) k.samples
    ∙ shown_by (refused_stamp f) (refused_stamp g) bytes c.sampled (first_of_list c.samples)
    (λ y at. refusal_same t y (t.early c y has (first_there c.samples y at)))

-- A step of a joining shows what it showed, if what it is held against stays.
seen_by : {p : Program} {h : Header} {xs : List Happening} {w : World} {i : SessionId} {f g : Found} (t : Through p h xs w i f g) (step : JoinStep)
    (was is : Option (List ℕ)) → (o q : Option Course) → join_course i step f.machine ≡ o → JoinGoes (IsFresh t.stamp) (closes t) o q
    → ((c : Course) → o ≡ Some c → is ≡ was) → option_and_then (sample_showing g is) q ≡ option_and_then (sample_showing f was) o
seen_by t step was is None None at goes same = refl
seen_by {g = g} t step was is None (Some c) at goes same = ap (λ z. shown_in (refused_stamp g) is c.sampled (first_of_list z)) goes.samples
seen_by t step was is (Some c) None at goes same = absurd goes
seen_by {f = f} {g = g} t step was is (Some c) (Some x) at goes same =
    ap (sample_showing g is) goes ∙ ap (λ z. sample_showing g z (closes t c)) (same c refl)
    ∙ shows_still t was c (had_step t step c at).before

-- ---- the deciding read

watched_by : {p : Program} {h : Header} {xs : List Happening} {w : World} {i : SessionId} {f g : Found} (t : Through p h xs w i f g)
    → (o q : Option Course) → JoinGoes (IsFresh t.stamp) (closes t) o q → ((c : Course) → q ≡ Some c → c.answered ≡ None → ⊥)
    → option_map (λ (c : Course). c.sampled) q ≡ option_map (λ (c : Course). c.sampled) o
watched_by t None None goes old = refl
watched_by t None (Some c) goes old = absurd (old c refl goes.answered)
watched_by t (Some c) None goes old = absurd goes
watched_by t (Some c) (Some x) goes old =
    let k : IsKept c (closed t.stamp t.entry.input c) = kept t.stamp t.entry.input c in ap (λ y. Some y.sampled) goes ∙ ap (λ z. Some z) k.sampled

watched_same : {p : Program} {h : Header} {xs : List Happening} {w : World} {i : SessionId} {f g : Found} (t : Through p h xs w i f g) (c : Course)
    → join_course i DecidingRead f.machine ≡ Some c → watched_bytes i g ≡ watched_bytes i f
watched_same {p = p} {h = h} {xs = xs} {i = i} {f = f} {g = g} t c at =
    let s = had_step t DecidingRead c at in
    let k : HasWatched h (world_at p h xs) i g (closes t c) = deciding_reads_have_watched p h xs t.run i g (closes t c) t.its s.has s.is in
    watched_by t (join_course i FirstRead f.machine) (join_course i FirstRead g.machine) (join_goes t FirstRead (λ e. absurd (omega (arith, e))))
    (λ x there none. none_some k.answer (sym none ∙ ap (λ y. y.answered) (one_value x k.first (join_course i FirstRead g.machine) there k.looked) ∙ k.answered.0))

-- Whether it has decided, and by which sample, stays.
pub deciding_stays : {p : Program} {h : Header} {xs : List Happening} {w : World} {i : SessionId} {f g : Found} (t : Through p h xs w i f g)
    → deciding_sample i g ≡ deciding_sample i f
deciding_stays {i = i} {f = f} {g = g} t =
    seen_by t DecidingRead (watched_bytes i f) (watched_bytes i g) (join_course i DecidingRead f.machine) (join_course i DecidingRead g.machine) refl
    (join_goes t DecidingRead (λ e. absurd (omega (arith, e)))) (watched_same t)

-- ---- the verify read

claimed_by : {p : Program} {h : Header} {xs : List Happening} {w : World} {i : SessionId} {f g : Found} (t : Through p h xs w i f g) (v : World) → v.layout ≡ w.layout
    → (o q : Option Course) → JoinGoes (IsFresh t.stamp) (closes t) o q → ((c : Course) → q ≡ Some c → is_landed c.fate ≡ true)
    → option_map (λ (c : Course). write_bytes v c.call) q ≡ option_map (λ (c : Course). write_bytes w c.call) o
claimed_by t v layout None None goes landed = refl
claimed_by t v layout None (Some c) goes landed = absurd (true_is_false (sym (landed c refl) ∙ ap (λ x. is_landed x) goes.fate))
claimed_by t v layout (Some c) None goes landed = absurd goes
claimed_by {w = w} t v layout (Some c) (Some x) goes landed =
    let k : IsKept c (closed t.stamp t.entry.input c) = kept t.stamp t.entry.input c in
    ap (λ y. Some (write_bytes v y.call)) goes ∙ ap (λ y. Some (write_bytes v y)) k.call ∙ ap (λ l. Some (write_bytes (record v { layout = l }) c.call)) layout

claimed_same : {p : Program} {h : Header} {xs : List Happening} {w : World} {i : SessionId} {f g : Found} (t : Through p h xs w i f g) (c : Course)
    → join_course i VerifyRead f.machine ≡ Some c → claim_bytes (world_at p h xs) i g ≡ claim_bytes w i f
claimed_same {p = p} {h = h} {xs = xs} {i = i} {f = f} {g = g} t c at =
    let s = had_step t VerifyRead c at in
    let k : HasClaimed h (world_at p h xs) i g (closes t c) = verify_reads_have_claimed p h xs t.run i g (closes t c) t.its s.has s.is in
    claimed_by t (world_at p h xs) t.layout (join_course i ClaimWrite f.machine) (join_course i ClaimWrite g.machine) (join_goes t ClaimWrite (λ e. absurd (omega (arith, e))))
    (λ x there. ap (λ y. is_landed y.fate) (one_value x k.claim (join_course i ClaimWrite g.machine) there k.claimed) ∙ k.landed)

-- Whether it has verified, and by which sample, stays.
pub verifying_stays : {p : Program} {h : Header} {xs : List Happening} {w : World} {i : SessionId} {f g : Found} (t : Through p h xs w i f g)
    → verifying_sample (world_at p h xs) i g ≡ verifying_sample w i f
verifying_stays {p = p} {h = h} {xs = xs} {w = w} {i = i} {f = f} {g = g} t =
    seen_by t VerifyRead (claim_bytes w i f) (claim_bytes (world_at p h xs) i g) (join_course i VerifyRead f.machine) (join_course i VerifyRead g.machine) refl
    (join_goes t VerifyRead (λ e. absurd (omega (arith, e)))) (claimed_same t)
