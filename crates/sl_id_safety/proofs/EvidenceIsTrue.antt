-- Evidence is true: what a session saw of an id stood there at a front, and the id's state at that front has the evidence.
use Rattle.sl_area.specs.AreaSizes.{Layout}
use Rattle.sl_area.specs.AreaLayout.{delta_offset}
use Rattle.sl_run_law.proofs.Front.RunsFromFronts.{fronts_are_lawful}
use Rattle.sl_id_safety.proofs.IdInterface.{StandsIn, same_offset, stands_in, stands_with}
use Rattle.sl_id_safety.proofs.FrontsOfSteps.{front_at}
use Rattle.sl_id_safety.proofs.SeenRecords.{IsSeen, seen}
use Rattle.sl_id_safety.proofs.ShownStoodThere.{ShowsLast, shown_at}
use Rattle.sl_id_safety.proofs.JoinedStand.{joined_stand}
use Rattle.sl_id_safety.specs.Interface.{EvidenceMeansOver, EvidencesAreTrue, SilenceMeansOver, sightings_of}
use Rattle.sl_id_safety.specs.JoinedStand.{StandsJoined, sector_offset}
use Rattle.sl_id_safety.proofs.State.TraceBridge.{is_there}
use Rattle.sl_id_safety.specs.State.IdStates.{content_of, id_state, kind_of, name_of}
use Rattle.sl_id_safety.specs.State.StateLaws.{IsIdPlace}
use Rattle.sl_id_safety.specs.Reached.IdsAreReached.{IdsAreReached, IdsGoOn}
use Rattle.sl_ids.proofs.DerivedLaws.{watchdogs}
use Rattle.sl_ids.proofs.InterfaceLaws.{evident, over_stays}
use Rattle.sl_ids.specs.Guards.{terms_of}
use Rattle.sl_ids.specs.Interface.{Evidence, Freed, Newer, Own}
use Rattle.sl_ids.specs.State.{State}
use Rattle.sl_ids.specs.Terms.{Terms}
use Rattle.sl_run_law.proofs.Moment.MomentsFollowSteps.{kept_past}
use Rattle.sl_run_law.specs.Moment.MomentsFollowSteps.{Of_sample}
use Rattle.sl_run_law.proofs.Place.FoundInLists.{place_is}
use Rattle.sl_run_law.proofs.Place.TracesOnMachines.{layout_is}
use Rattle.sl_words.proofs.Lists.{any_found, contains_first, contains_more, got_inside}
use Rattle.sl_run.specs.Runs.{Happening}
use Rattle.sl_run.specs.Safety.{Found, HasJoined, IsSession, LawfulRun, SessionId, found_generation, is_over, same_lockspace, setting_in, trace_of, world_at}
use Rattle.sl_run.specs.Worlds.{Program, World, machine_at}
use Rattle.sl_run.specs.declared.header.Header.{Header}
use Rattle.sl_run_law.proofs.Sample.SampleLaws.{samples_are_landings}
use Rattle.sl_run_law.specs.Sample.Samples.{sector_place}
use Rattle.sl_sector.specs.declared.sector.DeltaRec.{DeltaRec}
use Rattle.sl_sector.specs.declared.sector.DeltaState.TheVariants.{Claimed, Free, Live}
use Rattle.sl_sector.specs.declared.sector.DeltaState.{DeltaState}
use Rattle.sl_trace.specs.Sessions.{calls_of, generation_of, joined_after}
use Rattle.sl_trace.specs.Sightings.{current_run, evidence_in, is_free_among, is_free_state, is_silent, newest_of, seen_records, silence}
use Rattle.sl_trace.specs.declared.sighting.Run.{Run}
use Rattle.sl_time.specs.Times.{TimingNumbers}
use Rattle.sl_trace.specs.declared.reply.Evidence.TheVariants.{Freed as FreedIs, Newer as NewerIs, Silent as SilentIs}
use Rattle.sl_trace.specs.declared.reply.Evidence.{Evidence as TheEvidence}
use Rattle.sl_words.proofs.CaseLaws.{true_is_false}
use Rattle.sl_words.proofs.WordLaws.{and_true}
use Rattle.sl_words.specs.Words.{choose}
use Rattle.std.proofs.Common.{ap, arith, inl, inr, refl, subst, sym, ◌∙◌}
use Rattle.std.proofs.Math.Nat.{mul_comm}
use Rattle.std.proofs.lemmas.Bool.{cases_lt, eqb-true, ltb-true}
use Rattle.std.specs.Prelude.{Bool, Contains, IsTrue, List, None, Option, Some, [], false, is_some, nat_lt, true, ℕ, ◌&&◌, ◌*◌, ◌++◌, ◌+◌, ◌-◌, ◌<◌, ◌==◌, ◌∷◌, ◌≡◌, ◌≤◌, ◌⊎◌}

-- ---- a front where a record that was seen stood

-- The front, with what it shows, and the whole run beyond it.
record StoodThere (p : Program) (h : Header) (xs : List Happening) (path : List ℕ) (offset : ℕ) (d : DeltaRec) : Type 0 where
  front : List Happening
  rest : List Happening
  whole : xs ≡ front ++ rest
  shows : ShowsLast (id_state (world_at p h front) path offset) (content_of d)

same_spot : (base size j : ℕ) → base + (j - 1) * size ≡ base + size * (j - 1)
same_spot base size j = omega (arith, mul_comm (j - 1) size)

pub append_twice : (a b c : List Happening) → (a ++ b) ++ c ≡ a ++ (b ++ c)
append_twice [] b c = refl
append_twice (x ∷ a) b c = ap (λ xs. x ∷ xs) (append_twice a b c)

pub place_seen : (w : World) (i : SessionId) (f : Found) (j : ℕ) (d : DeltaRec) (s : IsSeen w i f j d) → sector_place w s.course (j - 1) ≡ delta_offset w.layout f.session.offset j
place_seen w i f j d s = same_spot s.course.call.offset w.layout.sector j ∙ ap (λ n. delta_offset w.layout n j) s.place.1

stood_there : IdsAreReached → (p : Program) (h : Header) (now rest : List Happening) → LawfulRun p h (now ++ rest) → (i : SessionId) (f : Found) → IsSession (world_at p h now) i f
    → (j : ℕ) → (d : DeltaRec) → (s : IsSeen (world_at p h now) i f j d) → (a : machine_at (world_at p h now) i.machine ≡ Some f.machine)
    → IsIdPlace p h f.session.path (delta_offset (world_at p h now).layout f.session.offset j)
    → StoodThere p h (now ++ rest) f.session.path (delta_offset (world_at p h now).layout f.session.offset j) d
stood_there reached p h now rest run i f its j d s at place =
    let w : World = world_at p h now in
    let front = fronts_are_lawful p h now rest run in
    let offset : ℕ = delta_offset w.layout f.session.offset j in
    let past = kept_past p h now front s.sample.step s.sample.moment
    (Of_sample i.machine f.machine s.course s.sample at s.has (got_inside s.course.samples (j - 1) s.sample s.slot) refl refl) in
    let x = front_at p h now front s.sample.step (omega (arith, past.0)) in
    let run' : LawfulRun p h (x.now ++ x.rest) = subst (λ ys. LawfulRun p h ys) x.whole front in
    let spot = place_seen w i f j d s in
    let place' : IsIdPlace p h s.course.call.path (sector_place w s.course (j - 1)) =
    subst (λ n. IsIdPlace p h s.course.call.path n) (sym spot) (subst (λ q. IsIdPlace p h q offset) (sym s.place.0) place) in
    let shows = shown_at reached p h now s.course (j - 1) s.sample x front (samples_are_landings p h now front i.machine f.machine s.course (j - 1) s.sample at s.has s.slot) place' (content_of d) s.says in
    record {
      front = x.now;
      rest = x.rest ++ rest;
      whole = ap (λ ys. ys ++ rest) x.whole ∙ append_twice x.now x.rest rest;
      shows = subst (λ n. ShowsLast (id_state (world_at p h x.now) f.session.path n) (content_of d)) spot
          (subst (λ q. ShowsLast (id_state (world_at p h x.now) q (sector_place w s.course (j - 1))) (content_of d)) s.place.0 shows);
    }

-- ---- the reasons

-- Why a record that was seen is evidence.
abbrev IsReason : DeltaRec → ℕ → Type 0
IsReason d n = (n < d.generation) ⊎ ((d.state ≡ Free) × (d.generation ≡ n))

above : (n : ℕ) (ds : List DeltaRec) → n < newest_of ds → (d : DeltaRec) × Contains ds d × IsReason d n
above n [] lt = absurd (omega (arith, lt))
above n (x ∷ ds) lt = by (λ more. above n ds more) (cases_lt n x.generation) where
  by : (n < newest_of ds → (d : DeltaRec) × Contains ds d × IsReason d n) → (n < x.generation) ⊎ (x.generation ≤ n) → (d : DeltaRec) × Contains (x ∷ ds) d × IsReason d n
  by rest (inl less) = (x, contains_first x ds, inl less)
  by rest (inr ge) = let r = rest (omega (arith, lt, ge)) in (r.0, contains_more x ds r.0 r.1, r.2)

free_is : (s : DeltaState) → is_free_state s ≡ true → s ≡ Free
free_is Free is = refl
free_is Claimed is = absurd (true_is_false (sym is))
free_is Live is = absurd (true_is_false (sym is))

freed_among : (n : ℕ) (ds : List DeltaRec) → is_free_among n ds ≡ true → (d : DeltaRec) × Contains ds d × IsReason d n
freed_among n ds is =
    let x = any_found (λ (d : DeltaRec). d.generation == n && is_free_state d.state) ds is in
    let both = and_true (x.0.generation == n) (is_free_state x.0.state) x.2 in
    (x.0, x.1, inr (free_is x.0.state both.1, eqb-true x.0.generation n both.0))

reasons : (a b : Bool) (newest n : ℕ) (s : Option TheEvidence)
    → is_some (elim a as (λ z. Option TheEvidence) [ true ↦ Some (NewerIs newest) | false ↦ elim b as (λ z. Option TheEvidence) [ true ↦ Some (FreedIs n) | false ↦ s ] ]) ≡ true
    → (a ≡ true) ⊎ (b ≡ true) ⊎ (is_some s ≡ true)
reasons true b newest n s is = inl refl
reasons false true newest n s is = inr (inl refl)
reasons false false newest n s is = inr (inr is)

chosen_by : (b : Bool) (e : TheEvidence) → is_some (choose b e) ≡ true → b ≡ true
chosen_by true e is = refl
chosen_by false e is = absurd (true_is_false (sym is))

silent_by : (tm : TimingNumbers) (n : ℕ) (o : Option Run) → is_some (silence tm n o) ≡ true → (r : Run) × (o ≡ Some r) × (is_silent tm n r ≡ true)
silent_by tm n None is = absurd (true_is_false (sym is))
silent_by tm n (Some r) is = (r, refl, chosen_by (is_silent tm n r) (SilentIs r.since r.latest) is)

counted : (b own : Bool) → elim b as (λ z. Bool) [ true ↦ true | false ↦ own ] ≡ true → (b ≡ true) ⊎ (own ≡ true)
counted true own is = inl refl
counted false own is = inr is

-- ---- over, from a front on

seen_evidence : (r : Terms) (u : State) (d : DeltaRec) (n : ℕ) → ShowsLast u (content_of d) → IsReason d n → Evidence r u n
seen_evidence r u d n s (inl newer) = Newer s.last (content_of d) s.is_last s.shows newer
seen_evidence r u d n s (inr free) = Freed s.last (content_of d) s.is_last s.shows (ap kind_of free.0) free.1

pub from_front : IdsAreReached → IdsGoOn → (p : Program) (h : Header) (front rest : List Happening) → LawfulRun p h (front ++ rest) → (path : List ℕ) (offset : ℕ) → IsIdPlace p h path offset
    → (n : ℕ) → Evidence (terms_of h.timing) (id_state (world_at p h front) path offset) n → (k : SessionId) (g : Found) → StandsIn (world_at p h (front ++ rest)) path offset k g
    → found_generation g ≡ n → is_over k g ≡ true
from_front reached on p h front rest run path offset place n ev k g t generation =
    let r : Terms = terms_of h.timing in
    let u : State = id_state (world_at p h front) path offset in
    let v : State = id_state (world_at p h (front ++ rest)) path offset in
    let long = watchdogs.long h.timing run.header.timing in
    let before = reached p h front path offset (fronts_are_lawful p h front rest run) place in
    let later = on p h front rest path offset run place in
    sym t.over ∙ (over_stays r u v long before later (name_of k) (evident r u v n long before ev later (name_of k) t.joined (t.generation ∙ generation)).0).0

-- ---- the law

-- A session of the same lockspace with this id stands at the place of the id in the lockspace of the one that looks.
pub looks_at : (p : Program) (h : Header) (now xs : List Happening) (f g : Found) (k : SessionId) (j : ℕ) → IsTrue (same_lockspace f g) → g.session.id ≡ j → StandsJoined p h (world_at p h xs) k g
    → IsIdPlace p h f.session.path (delta_offset (world_at p h now).layout f.session.offset j)
    × StandsIn (world_at p h xs) f.session.path (delta_offset (world_at p h now).layout f.session.offset j) k g
looks_at p h now xs f g k j same id t =
    let at = place_is f.session.path f.session.offset g.session.path g.session.offset same in
    let offset : sector_offset (world_at p h xs) g ≡ delta_offset (world_at p h now).layout f.session.offset j =
    same_offset p h xs now g ∙ ap (λ n. delta_offset (world_at p h now).layout n g.session.id) (sym at.1) ∙ ap (λ n. delta_offset (world_at p h now).layout f.session.offset n) id in (
      subst (λ n. IsIdPlace p h f.session.path n) offset (subst (λ q. IsIdPlace p h q (sector_offset (world_at p h xs) g)) (sym at.0) t.place),
      stands_in p h (world_at p h xs) k g t f.session.path (delta_offset (world_at p h now).layout f.session.offset j) (sym at.0) offset,
    )

pub id_range : (p : Program) (h : Header) (now xs : List Happening) (k : SessionId) (g : Found) (j : ℕ) → g.session.id ≡ j → StandsJoined p h (world_at p h xs) k g
    → (1 ≤ j) × (j ≤ (world_at p h now).layout.hosts)
id_range p h now xs k g j id t =
    let same : t.place.id ≡ j = sym t.names.2 ∙ id in
    (subst (λ n. 1 ≤ n) same t.place.range.0, subst (λ (y : Layout). j ≤ y.hosts) (sym (layout_is p h now)) (subst (λ n. n ≤ h.geometry.hosts) same t.place.range.1))

seen_means_over : IdsAreReached → IdsGoOn → (p : Program) (h : Header) (now rest : List Happening) → LawfulRun p h (now ++ rest) → (i k : SessionId) (f g : Found) (j n : ℕ)
    → IsSession (world_at p h now) i f → IsSession (world_at p h (now ++ rest)) k g → HasJoined g → IsTrue (same_lockspace f g) → g.session.id ≡ j → found_generation g ≡ n
    → (d : DeltaRec) × Contains (seen_records (setting_in f).layout j (sightings_of f j)) d × IsReason d n → is_over k g ≡ true
seen_means_over reached on p h now rest run i k f g j n its also joined same id generation s =
    let w : World = world_at p h now in
    let front = fronts_are_lawful p h now rest run in
    let t = joined_stand p h (now ++ rest) run k g also joined in
    let at = looks_at p h now (now ++ rest) f g k j same id t in
    let range = id_range p h now (now ++ rest) k g j id t in
    let offset : ℕ = delta_offset w.layout f.session.offset j in
    let x = seen p h now front i f its j range.0 range.1 s.0 s.1 in
    let stood = stood_there reached p h now rest run i f its j s.0 x (is_there w i f its).at at.0 in
    from_front reached on p h stood.front stood.rest (subst (λ ys. LawfulRun p h ys) stood.whole run) f.session.path offset at.0 n
    (seen_evidence (terms_of h.timing) (id_state (world_at p h stood.front) f.session.path offset) s.0 n stood.shows s.2) k g
    (subst (λ ys. StandsIn (world_at p h ys) f.session.path offset k g) stood.whole at.1) generation

own_means_over : IdsAreReached → IdsGoOn → (p : Program) (h : Header) (now rest : List Happening) → LawfulRun p h (now ++ rest) → (i k : SessionId) (f g : Found) (j n : ℕ)
    → IsSession (world_at p h now) i f → IsSession (world_at p h (now ++ rest)) k g → HasJoined g → IsTrue (same_lockspace f g) → g.session.id ≡ j → found_generation g ≡ n
    → (j ≡ f.session.id) × (n < found_generation f) × HasJoined f → is_over k g ≡ true
own_means_over reached on p h now rest run i k f g j n its also joined same id generation own =
    let w : World = world_at p h now in
    let s = joined_stand p h now (fronts_are_lawful p h now rest run) i f its own.2 in
    let t = stands_with p h now (now ++ rest) f g k (same, sym own.0 ∙ sym id) (joined_stand p h (now ++ rest) run k g also joined) in
    from_front reached on p h now rest run f.session.path (sector_offset w f) s.place n
    (Own (name_of i) s.verified (subst (λ m. n < m) (sym s.generation) own.1)) k g t generation

pub evidence_means_over_given : IdsAreReached → IdsGoOn → SilenceMeansOver → EvidenceMeansOver
evidence_means_over_given reached on silent p h now rest run i k f g j n its counts also joined same id generation =
    by (counted (is_some (evidence_in (setting_in f) (calls_of (trace_of f) f.session) j n))
    (j == f.session.id && nat_lt n (generation_of (trace_of f) f.session) && is_some (joined_after (trace_of f) f.session)) counts)
  where
    seen_by : (newest_of (seen_records (setting_in f).layout j (sightings_of f j)) ≡ newest_of (seen_records (setting_in f).layout j (sightings_of f j)))
        → (nat_lt n (newest_of (seen_records (setting_in f).layout j (sightings_of f j))) ≡ true)
        ⊎ (is_free_among n (seen_records (setting_in f).layout j (sightings_of f j)) ≡ true)
        ⊎ (is_some (silence (setting_in f).timing n (current_run (setting_in f).layout j (sightings_of f j))) ≡ true) → is_over k g ≡ true
    seen_by z (inl newer) =
        seen_means_over reached on p h now rest run i k f g j n its also joined same id generation
        (above n (seen_records (setting_in f).layout j (sightings_of f j)) (ltb-true n (newest_of (seen_records (setting_in f).layout j (sightings_of f j))) newer))
    seen_by z (inr (inl free)) =
        seen_means_over reached on p h now rest run i k f g j n its also joined same id generation
        (freed_among n (seen_records (setting_in f).layout j (sightings_of f j)) free)
    seen_by z (inr (inr quiet)) =
        silent p h now rest run i k f g j n its (silent_by (setting_in f).timing n (current_run (setting_in f).layout j (sightings_of f j)) quiet) also joined same id generation

    by : (is_some (evidence_in (setting_in f) (calls_of (trace_of f) f.session) j n) ≡ true)
        ⊎ ((j == f.session.id && nat_lt n (generation_of (trace_of f) f.session) && is_some (joined_after (trace_of f) f.session)) ≡ true) → is_over k g ≡ true
    by (inl seen_it) =
        seen_by refl (reasons (nat_lt n (newest_of (seen_records (setting_in f).layout j (sightings_of f j)))) (is_free_among n (seen_records (setting_in f).layout j (sightings_of f j)))
        (newest_of (seen_records (setting_in f).layout j (sightings_of f j))) n (silence (setting_in f).timing n (current_run (setting_in f).layout j (sightings_of f j))) seen_it)
    by (inr own) =
        let one = and_true (j == f.session.id && nat_lt n (generation_of (trace_of f) f.session)) (is_some (joined_after (trace_of f) f.session)) own in
        let two = and_true (j == f.session.id) (nat_lt n (generation_of (trace_of f) f.session)) one.0 in
        own_means_over reached on p h now rest run i k f g j n its also joined same id generation
        (eqb-true j f.session.id two.0, ltb-true n (generation_of (trace_of f) f.session) two.1, one.1)

pub evidences_are_true_given : IdsAreReached → IdsGoOn → SilenceMeansOver → EvidencesAreTrue
evidences_are_true_given reached on silent p h xs run now rest is i k f g j n evidence also joined same id generation =
    evidence_means_over_given reached on silent p h now rest (subst (λ ys. LawfulRun p h ys) is run) i k f g j n evidence.0 evidence.1
    (subst (λ ys. IsSession (world_at p h ys) k g) is also) joined same id generation
