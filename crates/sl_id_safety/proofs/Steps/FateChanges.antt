-- What becomes of a session's state where the fate of one of its calls changes.
use Rattle.sl_area.specs.AreaSizes.{sector_with}
use Rattle.sl_id_safety.proofs.State.FindingFrames.{moved}
use Rattle.sl_id_safety.specs.State.IdStates.{claim_bytes, claim_may_land, deciding_sample, generation_by, has_begun, index_of, join_course, name_of, own_courses, renewed_by_now, sample_showing, seq_left, standing_of, verifying_sample, watched_bytes}
use Rattle.sl_ids.specs.State.{Session as IdSession}
use Rattle.sl_run.specs.EventChanges.{fated, write_bytes}
use Rattle.sl_run.specs.Safety.{Found, SessionId, is_over, trace_of}
use Rattle.sl_run.specs.Worlds.{Course, Fate, Machine, Sampling, World, history_of, is_landed}
use Rattle.sl_run_law.proofs.CourseLists.{changed_if}
use Rattle.sl_trace.specs.Sessions.{given_number, is_join_call, joined_after}
use Rattle.sl_trace.specs.Traces.{record_of}
use Rattle.sl_trace.specs.declared.effects.JoinStep.TheVariants.{ClaimWrite, DecidingRead, FirstRead, VerifyRead}
use Rattle.sl_trace.specs.declared.effects.JoinStep.{JoinStep}
use Rattle.sl_run_law.specs.Watchdog.ActingTimes.{acting_stamp}
use Rattle.sl_words.specs.Words.{greatest, some_is}
use Rattle.std.proofs.Common.{ap, refl, sym, ◌∙◌}
use Rattle.std.specs.Option.{option_map_or}
use Rattle.std.specs.Prelude.{Bool, List, None, Option, Some, cond, false, find, is_none, is_some, map, option_and_then, option_map, true, [], ℕ, ◌&&◌, ◌==◌, ◌||◌, ◌∷◌, ◌≡◌}

-- ---- the calls

-- A call of this number has this fate now.
abbrev pub turned : ℕ → Fate → Course → Course
turned n fate c = changed_if (c.call.number == n) (fated fate) c

call_by : (t : Bool) (fate : Fate) (c : Course) → (changed_if t (fated fate) c).call ≡ c.call
call_by true fate c = refl
call_by false fate c = refl

pub call_stays : (n : ℕ) (fate : Fate) (c : Course) → (turned n fate c).call ≡ c.call
call_stays n fate c = call_by (c.call.number == n) fate c

sampled_by : (t : Bool) (fate : Fate) (c : Course) → (changed_if t (fated fate) c).sampled ≡ c.sampled
sampled_by true fate c = refl
sampled_by false fate c = refl

moment_by : (t : Bool) (fate : Fate) (c : Course) → (changed_if t (fated fate) c).made.moment ≡ c.made.moment
moment_by true fate c = refl
moment_by false fate c = refl

-- What is left of a session where a call of it has another fate.
pub record Turns (i : SessionId) (f : Found) (b : Machine) (n : ℕ) (fate : Fate) : Type 0 where
  pub calls : own_courses i b ≡ map (turned n fate) (own_courses i f.machine)
  pub runs : b.daemon ≡ f.machine.daemon
  pub resets : b.resets ≡ f.machine.resets

find_by : (f : Course → Course) (c : Course) (o q : Option Course) (t : Bool) → q ≡ option_map f o → cond t (Some (f c)) q ≡ option_map f (cond t (Some c) o)
find_by f c o q true h = refl
find_by f c o q false h = h

find_turned : (p : Course → Bool) (f : Course → Course) (cs : List Course) → ((c : Course) → p (f c) ≡ p c) → find p (map f cs) ≡ option_map f (find p cs)
find_turned p f [] h = refl
find_turned p f (c ∷ cs) h =
    ap (λ t. cond t (Some (f c)) (find p (map f cs))) (h c) ∙ find_by f c (find p cs) (find p (map f cs)) (p c) (find_turned p f cs h)

-- The call of a step of its joining is the one before, turned.
pub join_turned : (i : SessionId) (f : Found) (b : Machine) (n : ℕ) (fate : Fate) → Turns i f b n fate → (step : JoinStep)
    → join_course i step b ≡ option_map (turned n fate) (join_course i step f.machine)
join_turned i f b n fate t step =
    ap (λ cs. find (λ c. is_join_call step c.call.purpose) cs) t.calls
    ∙ find_turned (λ c. is_join_call step c.call.purpose) (turned n fate) (own_courses i f.machine) (λ c. ap (λ x. is_join_call step x.purpose) (call_stays n fate c))

-- What is read off such a call as off that before.
read_off : {A : Type 0} (f : Course → Course) (g : Course → A) (o : Option Course) → ((c : Course) → g (f c) ≡ g c) → option_map g (option_map f o) ≡ option_map g o
read_off f g None h = refl
read_off f g (Some c) h = ap (λ x. Some x) (h c)

pub read_or : {A : Type 0} (f : Course → Course) (g : Course → A) (x : A) (o : Option Course) → ((c : Course) → g (f c) ≡ g c)
    → option_map_or g (option_map f o) x ≡ option_map_or g o x
read_or f g x None h = refl
read_or f g x (Some c) h = h c

read_then : {A : Type 0} (f : Course → Course) (g h : Course → Option A) (o : Option Course) → ((c : Course) → g (f c) ≡ h c)
    → option_and_then g (option_map f o) ≡ option_and_then h o
read_then f g h None e = refl
read_then f g h (Some c) e = e c

-- ---- its samples

shows_by : (f : Found) (b : Machine) (bytes : Option (List ℕ)) (fate : Fate) (c : Course) (t : Bool)
    → sample_showing (moved b f) bytes (changed_if t (fated fate) c) ≡ sample_showing f bytes c
shows_by f b bytes fate c true = refl
shows_by f b bytes fate c false = refl

watched_turned : (i : SessionId) (f : Found) (b : Machine) (n : ℕ) (fate : Fate) → Turns i f b n fate → watched_bytes i (moved b f) ≡ watched_bytes i f
watched_turned i f b n fate t =
    ap (λ o. option_map (λ c. c.sampled) o) (join_turned i f b n fate t FirstRead)
    ∙ read_off (turned n fate) (λ c. c.sampled) (join_course i FirstRead f.machine) (λ c. sampled_by (c.call.number == n) fate c)

-- It has decided as before.
pub deciding_turned : (i : SessionId) (f : Found) (b : Machine) (n : ℕ) (fate : Fate) → Turns i f b n fate → deciding_sample i (moved b f) ≡ deciding_sample i f
deciding_turned i f b n fate t =
    ap (λ o. option_and_then (sample_showing (moved b f) (watched_bytes i (moved b f))) o) (join_turned i f b n fate t DecidingRead)
    ∙ ap (λ bs. option_and_then (sample_showing (moved b f) bs) (option_map (turned n fate) (join_course i DecidingRead f.machine))) (watched_turned i f b n fate t)
    ∙ read_then (turned n fate) (sample_showing (moved b f) (watched_bytes i f)) (sample_showing f (watched_bytes i f)) (join_course i DecidingRead f.machine)
    (λ c. shows_by f b (watched_bytes i f) fate c (c.call.number == n))

claimed_turned : (w v : World) (i : SessionId) (f : Found) (b : Machine) (n : ℕ) (fate : Fate) → v.layout ≡ w.layout → Turns i f b n fate
    → claim_bytes v i (moved b f) ≡ claim_bytes w i f
claimed_turned w v i f b n fate layout t =
    ap (λ o. option_map (λ c. write_bytes v c.call) o) (join_turned i f b n fate t ClaimWrite)
    ∙ ap (λ g. option_map (λ c. option_map_or (sector_with g) (record_of c.call.op) []) (option_map (turned n fate) (join_course i ClaimWrite f.machine))) layout
    ∙ read_off (turned n fate) (λ c. write_bytes w c.call) (join_course i ClaimWrite f.machine) (λ c. ap (write_bytes w) (call_stays n fate c))

-- It has verified as before.
pub verifying_turned : (w v : World) (i : SessionId) (f : Found) (b : Machine) (n : ℕ) (fate : Fate) → v.layout ≡ w.layout → Turns i f b n fate
    → verifying_sample v i (moved b f) ≡ verifying_sample w i f
verifying_turned w v i f b n fate layout t =
    ap (λ o. option_and_then (sample_showing (moved b f) (claim_bytes v i (moved b f))) o) (join_turned i f b n fate t VerifyRead)
    ∙ ap (λ bs. option_and_then (sample_showing (moved b f) bs) (option_map (turned n fate) (join_course i VerifyRead f.machine))) (claimed_turned w v i f b n fate layout t)
    ∙ read_then (turned n fate) (sample_showing (moved b f) (claim_bytes w i f)) (sample_showing f (claim_bytes w i f)) (join_course i VerifyRead f.machine)
    (λ c. shows_by f b (claim_bytes w i f) fate c (c.call.number == n))

moment_turned : (i : SessionId) (f : Found) (b : Machine) (n : ℕ) (fate : Fate) → Turns i f b n fate → (step : JoinStep)
    → option_map_or (λ c. c.made.moment) (join_course i step b) 0 ≡ option_map_or (λ c. c.made.moment) (join_course i step f.machine) 0
moment_turned i f b n fate t step =
    ap (λ o. option_map_or (λ c. c.made.moment) o 0) (join_turned i f b n fate t step)
    ∙ read_or (turned n fate) (λ c. c.made.moment) 0 (join_course i step f.machine) (λ c. moment_by (c.call.number == n) fate c)

renewed_by : Found → Option Sampling → ℕ → ℕ
renewed_by f o n =
    elim (joined_after (trace_of f) f.session) [
      | Some k ↦ option_map_or (λ s. s.moment) (acting_stamp f.daemon f.session) 0
      | None ↦ elim o [ None ↦ 0 | Some x ↦ n ]
    ]

renewed_as : (w : World) (i : SessionId) (f : Found)
    → renewed_by_now w i f ≡ renewed_by f (verifying_sample w i f) (option_map_or (λ c. c.made.moment) (join_course i VerifyRead f.machine) 0)
unfolding renewed_by
renewed_as w i f = refl

renewed_at : (f : Found) (b : Machine) (o : Option Sampling) (n : ℕ) → renewed_by (moved b f) o n ≡ renewed_by f o n
unfolding renewed_by
renewed_at f b o n = refl

renewed_turned : (w v : World) (i : SessionId) (f : Found) (b : Machine) (n : ℕ) (fate : Fate) → v.layout ≡ w.layout → Turns i f b n fate
    → renewed_by_now v i (moved b f) ≡ renewed_by_now w i f
renewed_turned w v i f b n fate layout t =
    renewed_as v i (moved b f)
    ∙ ap (λ o. renewed_by (moved b f) o (option_map_or (λ c. c.made.moment) (join_course i VerifyRead b) 0)) (verifying_turned w v i f b n fate layout t)
    ∙ ap (renewed_by (moved b f) (verifying_sample w i f)) (moment_turned i f b n fate t VerifyRead)
    ∙ renewed_at f b (verifying_sample w i f) (option_map_or (λ c. c.made.moment) (join_course i VerifyRead f.machine) 0) ∙ sym (renewed_as w i f)

pub begun_turned : (i : SessionId) (f : Found) (b : Machine) (n : ℕ) (fate : Fate) → Turns i f b n fate → has_begun i (moved b f) ≡ has_begun i f
begun_turned i f b n fate t = ap (λ o. is_none f.session.job || is_some o) (deciding_turned i f b n fate t)

-- ---- where it stands

unfoldable pub stood : Bool → Bool → Bool → Bool → Bool → Bool → ℕ → ℕ → List ℕ → ℕ → ℕ → ℕ → ℕ → IdSession
stood decided pending landed verified joined over base claim name generation seq registered renewed =
    record {
      begun = true;
      decided = decided;
      pending = pending;
      landed = landed;
      verified = verified;
      joined = joined;
      over = over;
      base = base;
      claim = claim;
      name = name;
      generation = generation;
      seq = seq;
      registered = registered;
      renewed = renewed;
    }

-- A session with these in place of what a fate may change.
abbrev pub turned_to : IdSession → Bool → Bool → Bool → ℕ → ℕ → IdSession
turned_to s pending landed over claim seq = record s { pending = pending; landed = landed; over = over; claim = claim; seq = seq }

abbrev pub claim_at : World → List ℕ → ℕ → SessionId → Option Course → ℕ
claim_at w path offset i o = option_map_or (λ c. index_of (i.machine, c.call.number) (history_of w path offset)) o 0

abbrev pub seq_at : World → List ℕ → ℕ → SessionId → Found → ℕ
seq_at w path offset i f = greatest (given_number f.session ∷ map (seq_left w (name_of i)) (history_of w path offset))

abbrev pub has_landed : SessionId → Machine → Bool
has_landed i a = some_is (λ c. is_landed c.fate) (join_course i ClaimWrite a)

abbrev pub pends : SessionId → Found → Bool
pends i f = is_some (deciding_sample i f) && claim_may_land i f

stands_as : (w : World) (path : List ℕ) (offset : ℕ) (i : SessionId) (f : Found)
    → standing_of w path offset i f
    ≡ stood (is_some (deciding_sample i f)) (pends i f) (has_landed i f.machine) (is_none f.session.job || is_some (verifying_sample w i f))
    (is_some (joined_after (trace_of f) f.session)) (is_over i f) (option_map_or (λ x. x.index) (deciding_sample i f) 0)
    (claim_at w path offset i (join_course i ClaimWrite f.machine)) f.daemon.setting.name (generation_by w path offset (deciding_sample i f)) (seq_at w path offset i f)
    (option_map_or (λ c. c.made.moment) (join_course i DecidingRead f.machine) 0) (renewed_by_now w i f)
unfolding stood
stands_as w path offset i f = refl

turned_as : (decided pending landed verified joined over : Bool) (base claim : ℕ) (name : List ℕ) (generation seq registered renewed : ℕ) (p l o : Bool) (c q : ℕ)
    → turned_to (stood decided pending landed verified joined over base claim name generation seq registered renewed) p l o c q
    ≡ stood decided p l verified joined o base c name generation q registered renewed
unfolding stood
turned_as decided pending landed verified joined over base claim name generation seq registered renewed p l o c q = refl

stood_same : (d d' p l v v' j o : Bool) (b b' c : ℕ) (name : List ℕ) (g g' q r r' e e' : ℕ) → d ≡ d' → v ≡ v' → b ≡ b' → g ≡ g' → r ≡ r' → e ≡ e'
    → stood d p l v j o b c name g q r e ≡ stood d' p l v' j o b' c name g' q r' e'
stood_same d d' p l v v' j o b b' c name g g' q r r' e e' one two three four five six = cc

-- All else of it stays.
pub stands_turned : (w v : World) (path : List ℕ) (offset : ℕ) (i : SessionId) (f : Found) (b : Machine) (n : ℕ) (fate : Fate) → v.layout ≡ w.layout
    → Turns i f b n fate → generation_by v path offset (deciding_sample i f) ≡ generation_by w path offset (deciding_sample i f)
    → standing_of v path offset i (moved b f)
    ≡ turned_to (standing_of w path offset i f) (pends i (moved b f)) (has_landed i b) (is_over i (moved b f)) (claim_at v path offset i (join_course i ClaimWrite b))
    (seq_at v path offset i f)
stands_turned w v path offset i f b n fate layout t generation =
    let d : deciding_sample i (moved b f) ≡ deciding_sample i f = deciding_turned i f b n fate t in
    let ver : (is_none f.session.job || is_some (verifying_sample v i (moved b f))) ≡ (is_none f.session.job || is_some (verifying_sample w i f)) =
    ap (λ o. is_none f.session.job || is_some o) (verifying_turned w v i f b n fate layout t) in
    let gen : generation_by v path offset (deciding_sample i (moved b f)) ≡ generation_by w path offset (deciding_sample i f) =
    ap (generation_by v path offset) d ∙ generation in
    let dec : is_some (deciding_sample i (moved b f)) ≡ is_some (deciding_sample i f) = ap (λ o. is_some o) d in
    let base : option_map_or (λ x. x.index) (deciding_sample i (moved b f)) 0 ≡ option_map_or (λ x. x.index) (deciding_sample i f) 0 =
    ap (λ o. option_map_or (λ x. x.index) o 0) d in
    let reg = moment_turned i f b n fate t DecidingRead in
    let ren = renewed_turned w v i f b n fate layout t in
    stands_as v path offset i (moved b f)
    ∙ stood_same (is_some (deciding_sample i (moved b f))) (is_some (deciding_sample i f)) (pends i (moved b f)) (has_landed i b)
    (is_none f.session.job || is_some (verifying_sample v i (moved b f))) (is_none f.session.job || is_some (verifying_sample w i f))
    (is_some (joined_after (trace_of f) f.session)) (is_over i (moved b f)) (option_map_or (λ x. x.index) (deciding_sample i (moved b f)) 0)
    (option_map_or (λ x. x.index) (deciding_sample i f) 0) (claim_at v path offset i (join_course i ClaimWrite b)) f.daemon.setting.name
    (generation_by v path offset (deciding_sample i (moved b f))) (generation_by w path offset (deciding_sample i f)) (seq_at v path offset i f)
    (option_map_or (λ c. c.made.moment) (join_course i DecidingRead b) 0) (option_map_or (λ c. c.made.moment) (join_course i DecidingRead f.machine) 0)
    (renewed_by_now v i (moved b f)) (renewed_by_now w i f) dec ver base gen reg ren
    ∙ sym (turned_as _ _ _ _ _ _ _ _ _ _ _ _ _ _ _ _ _ _)
    ∙ ap (λ s. turned_to s (pends i (moved b f)) (has_landed i b) (is_over i (moved b f)) (claim_at v path offset i (join_course i ClaimWrite b)) (seq_at v path offset i f))
    (sym (stands_as w path offset i f))
