-- Through an entry a session stands as before, but for whether its claim may land, whether it is over or joined, and since when it acts.
use Rattle.sl_run_law.proofs.Course.CallsAreDistinct.{each_distinct}
use Rattle.sl_run_law.proofs.Front.JoinedLists.{contains_append}
use Rattle.sl_id_safety.proofs.State.ConnectionCounts.{not_looking}
use Rattle.sl_id_safety.proofs.State.FindingFrames.{find_passes}
use Rattle.sl_id_safety.proofs.State.CallLaws.{own_call, step_law}
use Rattle.sl_id_safety.proofs.State.RenewalsHaveVerified.{given_joined}
use Rattle.sl_id_safety.proofs.State.SectorFrames.{SameSector, sector_same}
use Rattle.sl_id_safety.proofs.State.Tails.{front_at}
use Rattle.sl_id_safety.specs.State.IdStates.{claim_may_land, deciding_sample, generation_by, has_begun, index_of, is_left_by, join_course, name_of, own_courses, renewed_by_now, sample_showing, seq_left, standing_of, verifying_sample, watched_bytes}
use Rattle.sl_id_safety.proofs.Steps.OwnCalls.{IsFresh, IsKept, JoinGoes, Through, closed, closes, join_goes, kept, knows}
use Rattle.sl_id_safety.proofs.Steps.ShownStays.{deciding_stays, verifying_stays}
use Rattle.sl_ids.specs.State.{Session as IdSession}
use Rattle.sl_run_law.proofs.Landing.CallLists.{one_call}
use Rattle.sl_run_law.proofs.Landing.LandingLaws.{landings_are_written}
use Rattle.sl_run_law.proofs.Landing.Writers.{writer_settled}
use Rattle.sl_run_law.specs.Landing.Landings.{HasWriter}
use Rattle.sl_words.proofs.Lists.{contains_cases, contains_first, contains_more, contains_none, kept_inside}
use Rattle.sl_words.proofs.Options.{none_is}
use Rattle.sl_run.specs.Runs.{Happening}
use Rattle.sl_run.specs.Safety.{Found, SessionId, is_course_of, is_over, trace_of, world_at}
use Rattle.sl_run.specs.Worlds.{Course, In_flight, Landing, Program, Sampling, World, first_landing, history_of, is_in_flight, is_landed, landed_at, machine_at}
use Rattle.sl_run.specs.declared.header.Header.{Header}
use Rattle.sl_trace.specs.Sessions.{calls_of, free_write, given_number, is_join_call, joined_after, refused_after, removed_after, stage_in}
use Rattle.sl_trace.specs.Traces.{Trace, same_place}
use Rattle.sl_trace.specs.declared.effects.JoinStep.TheVariants.{ClaimWrite, DecidingRead}
use Rattle.sl_words.proofs.CaseLaws.{is_false, one_value, true_is_false}
use Rattle.sl_words.proofs.WordLaws.{and_true, or_true}
use Rattle.sl_words.specs.Words.{greatest, some_is}
use Rattle.std.proofs.Common.{ap, arith, inl, inr, refl, subst, sym, ◌∙◌}
use Rattle.std.proofs.lemmas.Bool.{eq-eqb, eqb-true}
use Rattle.std.specs.Option.{option_map_or}
use Rattle.std.specs.Prelude.{Bool, Contains, List, None, Option, Some, false, is_none, is_some, length, map, option_and_then, true, [], ℕ, ◌&&◌, ◌==◌, ◌||◌, ◌∷◌, ◌≡◌}

-- ---- a state by its fields

-- A session that stands so, but for these.
abbrev pub acted : IdSession → Bool → Bool → Bool → ℕ → IdSession
acted s pending over joined renewed = record s { pending = pending; over = over; joined = joined; renewed = renewed }

make : Bool → Bool → Bool → Bool → Bool → Bool → Bool → ℕ → ℕ → List ℕ → ℕ → ℕ → ℕ → ℕ → IdSession
make a b c d e f g h i j k l m n =
    record {
      begun = a;
      decided = b;
      pending = c;
      landed = d;
      verified = e;
      joined = f;
      over = g;
      base = h;
      claim = i;
      name = j;
      generation = k;
      seq = l;
      registered = m;
      renewed = n;
    }

made : (s : IdSession)
    → s ≡ make s.begun s.decided s.pending s.landed s.verified s.joined s.over s.base s.claim s.name s.generation s.seq s.registered s.renewed
unfolding make
made s = refl

made_acted : (s : IdSession) (pending over joined : Bool) (renewed : ℕ)
    → make s.begun s.decided pending s.landed s.verified joined over s.base s.claim s.name s.generation s.seq s.registered renewed
    ≡ acted s pending over joined renewed
unfolding make
made_acted s pending over joined renewed = refl

acted_by : (s t : IdSession) → t.begun ≡ s.begun → t.decided ≡ s.decided → t.landed ≡ s.landed → t.verified ≡ s.verified → t.base ≡ s.base
    → t.claim ≡ s.claim → t.name ≡ s.name → t.generation ≡ s.generation → t.seq ≡ s.seq → t.registered ≡ s.registered
    → t ≡ acted s t.pending t.over t.joined t.renewed
acted_by s t a b d e h i j k l m =
    let each : make t.begun t.decided t.pending t.landed t.verified t.joined t.over t.base t.claim t.name t.generation t.seq t.registered t.renewed
    ≡ make s.begun s.decided t.pending s.landed s.verified t.joined t.over s.base s.claim s.name s.generation s.seq s.registered t.renewed = cc in
    made t ∙ each ∙ made_acted s t.pending t.over t.joined t.renewed

-- ---- its claim

landed_by : {p : Program} {h : Header} {xs : List Happening} {w : World} {i : SessionId} {f g : Found} (t : Through p h xs w i f g) (o q : Option Course)
    → JoinGoes (IsFresh t.stamp) (closes t) o q → some_is (λ c. is_landed c.fate) q ≡ some_is (λ c. is_landed c.fate) o
landed_by t None None goes = refl
landed_by t None (Some c) goes = ap (λ x. is_landed x) goes.fate
landed_by t (Some c) None goes = absurd goes
landed_by t (Some c) (Some x) goes =
    let k : IsKept c (closed t.stamp t.entry.input c) = kept t.stamp t.entry.input c in ap (λ y. is_landed y.fate) goes ∙ ap (λ y. is_landed y) k.fate

index_by : (l : Landing) (ls : List Landing) (q : ℕ × ℕ) → is_left_by q l ≡ false → index_of q ls ≡ 0 → index_of q (l ∷ ls) ≡ 0
index_by l ls q other rest = ap (λ b. elim b as (λ z. ℕ) [ true ↦ length ls | false ↦ index_of q ls ]) other ∙ rest

index_none : (q : ℕ × ℕ) (ls : List Landing) → ((l : Landing) → Contains ls l → is_left_by q l ≡ false) → index_of q ls ≡ 0
index_none q [] h = refl
index_none q (l ∷ ls) h = index_by l ls q (h l (contains_first l ls)) (index_none q ls (λ k has. h k (contains_more l ls k has)))

-- A call in flight has left nothing.
nothing_left : {p : Program} {h : Header} {xs : List Happening} {w : World} {i : SessionId} {f g : Found} (t : Through p h xs w i f g) (c : Course)
    → Contains (own_courses i g.machine) c → c.fate ≡ In_flight → (l : Landing) → Contains (world_at p h xs).landings l → is_left_by (i.machine, c.call.number) l ≡ true → ⊥
nothing_left {p = p} {h = h} {xs = xs} {i = i} {g = g} t c own flies l has left =
    let v : World = world_at p h xs in
    let x : HasWriter v l = landings_are_written p h xs t.run l has in
    let named : (x.machine == i.machine && x.call == c.call.number) ≡ true =
    sym (ap (λ o. some_is (λ (z : ℕ × ℕ). z.0 == i.machine && z.1 == c.call.number) o) x.named) ∙ (and_true l.whole _ left).1 in
    let both = and_true (x.machine == i.machine) (x.call == c.call.number) named in
    let a : x.wrote.machine ≡ g.machine =
    one_value x.wrote.machine g.machine (machine_at v i.machine) (ap (machine_at v) (sym (eqb-true x.machine i.machine both.0)) ∙ x.wrote.at) (knows t).there.at in
    let one : x.wrote.course ≡ c =
    one_call g.machine.calls x.wrote.course c (each_distinct p h xs t.run i.machine g.machine (knows t).there.at)
    (subst (λ m. Contains m.calls x.wrote.course) a x.wrote.has) (kept_inside (is_course_of i) g.machine.calls c own).0
    (eq-eqb x.wrote.course.call.number c.call.number (x.wrote.number ∙ eqb-true x.call c.call.number both.1)) in
    true_is_false (sym (ap (λ y. is_in_flight y) flies) ∙ sym (ap (λ y. is_in_flight y.fate) one) ∙ writer_settled v l x.wrote.course x.wrote.record_written x.wrote.left)

no_index : {p : Program} {h : Header} {xs : List Happening} {w : World} {i : SessionId} {f g : Found} (t : Through p h xs w i f g) (path : List ℕ) (offset : ℕ) (c : Course)
    → Contains (own_courses i g.machine) c → c.fate ≡ In_flight → index_of (i.machine, c.call.number) (history_of (world_at p h xs) path offset) ≡ 0
no_index {p = p} {h = h} {xs = xs} {i = i} t path offset c own flies =
    let v : World = world_at p h xs in
    index_none (i.machine, c.call.number) (history_of v path offset) (λ l has.
    elim (contains_append (landed_at v path offset) (first_landing v path offset ∷ []) l has) as (λ z. is_left_by (i.machine, c.call.number) l ≡ false) [
      | inl here ↦ is_false (is_left_by (i.machine, c.call.number) l)
          (nothing_left t c own flies l (kept_inside (λ (k : Landing). same_place k.path k.offset path offset) v.landings l here).0)
      | inr first ↦ elim (contains_cases (first_landing v path offset) [] l first) as (λ z. is_left_by (i.machine, c.call.number) l ≡ false) [
        | inl e ↦ ap (λ k. is_left_by (i.machine, c.call.number) k) (sym e)
        | inr more ↦ absurd (contains_none l more)
      ]
    ])

-- Its claim's landing is the same; one that the entry submits has left none.
pub index_stays : {p : Program} {h : Header} {xs : List Happening} {w : World} {i : SessionId} {f g : Found} (t : Through p h xs w i f g) (path : List ℕ) (offset : ℕ)
    (o q : Option Course) → join_course i ClaimWrite g.machine ≡ q → JoinGoes (IsFresh t.stamp) (closes t) o q
    → history_of (world_at p h xs) path offset ≡ history_of w path offset
    → option_map_or (λ c. index_of (i.machine, c.call.number) (history_of (world_at p h xs) path offset)) q 0
    ≡ option_map_or (λ c. index_of (i.machine, c.call.number) (history_of w path offset)) o 0
index_stays t path offset None None at goes history = refl
index_stays {i = i} {g = g} t path offset None (Some c) at goes history =
    no_index t path offset c (find_passes (λ x. is_join_call ClaimWrite x.call.purpose) (own_courses i g.machine) c at).there goes.fate
index_stays t path offset (Some c) None at goes history = absurd goes
index_stays {p = p} {h = h} {xs = xs} {w = w} {i = i} t path offset (Some c) (Some x) at goes history =
    let k : IsKept c (closed t.stamp t.entry.input c) = kept t.stamp t.entry.input c in
    ap (λ y. index_of (i.machine, y.call.number) (history_of (world_at p h xs) path offset)) goes
    ∙ ap (λ y. index_of (i.machine, y.number) (history_of (world_at p h xs) path offset)) k.call
    ∙ ap (λ ls. index_of (i.machine, c.call.number) ls) history

-- ---- its deciding read

no_deciding : {p : Program} {h : Header} {xs : List Happening} {w : World} {i : SessionId} {f g : Found} (t : Through p h xs w i f g) → f.session.job ≡ None
    → (c : Course) → join_course i DecidingRead g.machine ≡ Some c → ⊥
no_deciding {p = p} {h = h} {xs = xs} {i = i} {g = g} t none c at =
    let r = find_passes (λ x. is_join_call DecidingRead x.call.purpose) (own_courses i g.machine) c at in
    let o = own_call (world_at p h xs) i g c (knows t) r.there in
    let law = step_law (world_at p h xs) i g c o DecidingRead r.test in
    let es : Trace = front_at o.placed.made in
    not_looking (joined_after es g.session) (removed_after es g.session) (refused_after es g.session) (free_write (calls_of es g.session))
    (stage_in (calls_of es g.session)) 0 (given_joined es g.session (ap (λ s. s.job) t.session ∙ none)) law.looking

pub has_read : (g : Found) (bytes : Option (List ℕ)) (o : Option Course) → is_some (option_and_then (sample_showing g bytes) o) ≡ true → o ≡ None → ⊥
has_read g bytes o h none = true_is_false (sym h ∙ ap (λ q. is_some (option_and_then (sample_showing g bytes) q)) none)

pub registered_by : {p : Program} {h : Header} {xs : List Happening} {w : World} {i : SessionId} {f g : Found} (t : Through p h xs w i f g) (o q : Option Course)
    → JoinGoes (IsFresh t.stamp) (closes t) o q → ((c : Course) → o ≡ None → q ≡ Some c → ⊥)
    → option_map_or (λ (c : Course). c.made.moment) q 0 ≡ option_map_or (λ (c : Course). c.made.moment) o 0
registered_by t None None goes new = refl
registered_by t None (Some c) goes new = absurd (new c refl refl)
registered_by t (Some c) None goes new = absurd goes
registered_by t (Some c) (Some x) goes new =
    let k : IsKept c (closed t.stamp t.entry.input c) = kept t.stamp t.entry.input c in
    ap (λ y. y.made.moment) goes ∙ ap (λ y. y.moment) k.made

-- One that has begun makes no other.
registered_stays : {p : Program} {h : Header} {xs : List Happening} {w : World} {i : SessionId} {f g : Found} (t : Through p h xs w i f g) → has_begun i f ≡ true
    → option_map_or (λ (c : Course). c.made.moment) (join_course i DecidingRead g.machine) 0
    ≡ option_map_or (λ (c : Course). c.made.moment) (join_course i DecidingRead f.machine) 0
registered_stays {i = i} {f = f} {g = g} t begun =
    registered_by t (join_course i DecidingRead f.machine) (join_course i DecidingRead g.machine) (join_goes t DecidingRead (λ e. absurd (omega (arith, e))))
    (λ c none at. elim (or_true (is_none f.session.job) (is_some (deciding_sample i f)) begun) as (λ z. ⊥) [
      | inl given ↦ no_deciding t (none_is f.session.job given) c at
      | inr decided ↦ has_read f (watched_bytes i f) (join_course i DecidingRead f.machine) decided none
    ])

-- ---- where it stands

pub begun_stays : {p : Program} {h : Header} {xs : List Happening} {w : World} {i : SessionId} {f g : Found} (t : Through p h xs w i f g) → has_begun i g ≡ has_begun i f
begun_stays {i = i} {f = f} {g = g} t =
    ap (λ s. is_none s.job || is_some (deciding_sample i g)) t.session ∙ ap (λ o. is_none f.session.job || is_some o) (deciding_stays t)

pub stands_on : {p : Program} {h : Header} {xs : List Happening} {w : World} {i : SessionId} {f g : Found} (t : Through p h xs w i f g) (path : List ℕ) (offset : ℕ)
    → SameSector w (world_at p h xs) path offset → has_begun i f ≡ true
    → standing_of (world_at p h xs) path offset i g
    ≡ acted (standing_of w path offset i f) (is_some (deciding_sample i g) && claim_may_land i g) (is_over i g) (is_some (joined_after (trace_of g) g.session))
    (renewed_by_now (world_at p h xs) i g)
stands_on {p = p} {h = h} {xs = xs} {w = w} {i = i} {f = f} {g = g} t path offset s begun =
    let v : World = world_at p h xs in
    let there = sector_same w v path offset s i f in
    let verified : (is_none g.session.job || is_some (verifying_sample v i g)) ≡ (is_none f.session.job || is_some (verifying_sample w i f)) =
    ap (λ y. is_none y.job || is_some (verifying_sample v i g)) t.session ∙ ap (λ o. is_none f.session.job || is_some o) (verifying_stays t) in
    acted_by (standing_of w path offset i f) (standing_of v path offset i g) refl (ap is_some (deciding_stays t))
    (landed_by t (join_course i ClaimWrite f.machine) (join_course i ClaimWrite g.machine) (join_goes t ClaimWrite (λ e. absurd (omega (arith, e)))))
    verified (ap (λ (o : Option Sampling). option_map_or (λ x. x.index) o 0) (deciding_stays t))
    (index_stays t path offset (join_course i ClaimWrite f.machine) (join_course i ClaimWrite g.machine) refl
    (join_goes t ClaimWrite (λ e. absurd (omega (arith, e)))) s.history)
    (ap (λ y. y.name) t.setting) (ap (generation_by v path offset) (deciding_stays t) ∙ there.generation)
    (ap (λ y. greatest (given_number y ∷ map (seq_left v (name_of i)) (history_of v path offset))) t.session ∙ there.seq) (registered_stays t begun)
