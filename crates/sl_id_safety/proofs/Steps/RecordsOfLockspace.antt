-- What stands at the place of an id is of its lockspace, and so is each session that has begun there; of one daemon's such sessions each is
-- over before the next.
use Rattle.sl_area.specs.AreaSizes.{Layout, record_in}
use Rattle.sl_area.specs.AreaLayout.{delta_offset, in_area}
use Rattle.sl_run_law.proofs.Front.JoinedLists.{contains_append}
use Rattle.sl_id_safety.proofs.State.TraceBridge.{known}
use Rattle.sl_id_safety.proofs.State.SessionFacts.{deciding_reads_have_watched, grounds, join_reads_are_own}
use Rattle.sl_id_safety.proofs.State.SampleFrames.{deciding_is, join_is, one_sector, read_is_own}
use Rattle.sl_id_safety.proofs.State.JoiningSteps.{is_sampled}
use Rattle.sl_id_safety.specs.State.Facts.{HasWatched}
use Rattle.sl_id_safety.specs.State.IdStates.{deciding_sample, has_begun, is_sector_of}
use Rattle.sl_id_safety.specs.State.StateLaws.{IsIdPlace}
use Rattle.sl_run_law.proofs.Place.Areas.{lockspace_aligned, one_lockspace, same_base}
use Rattle.sl_run_law.proofs.Place.Beginnings.{In_lockspace, In_resource, IsInitial}
use Rattle.sl_run_law.proofs.Place.Checks.{shows_its_id}
use Rattle.sl_run_law.proofs.Place.FoundInLists.{numbered_inside}
use Rattle.sl_run_law.proofs.Place.TracesOnMachines.{layout_is}
use Rattle.sl_run_law.proofs.Place.Seats.{delta_in_is, delta_within, given_seated, initial_in, same_delta, sized_in}
use Rattle.sl_words.proofs.Lists.{contains_cases, contains_none, got_inside, kept_inside}
use Rattle.sl_words.proofs.Numbers.{no_times_more}
use Rattle.sl_words.proofs.Options.{none_is, some_there}
use Rattle.sl_run.specs.Runs.{Happening}
use Rattle.sl_run.specs.Safety.{Found, LawfulRun, SessionId, session_of_world, world_at}
use Rattle.sl_run.specs.Worlds.{Course, Landing, Program, Sampling, World, first_landing, history_of, landed_at}
use Rattle.sl_run.specs.declared.header.Header.{Header}
use Rattle.sl_run.specs.declared.header.LockspaceLine.{LockspaceLine}
use Rattle.sl_run_law.specs.Sample.Samples.{IsSampleOf, numbered_landing, sector_place}
use Rattle.sl_sector.specs.SectorLayouts.{delta_in}
use Rattle.sl_sector.specs.declared.sector.DeltaRec.{DeltaRec}
use Rattle.sl_sector.specs.declared.sector.Rec.TheVariants.{DeltaIs}
use Rattle.sl_trace.specs.Sessions.{sessions}
use Rattle.sl_trace.specs.Traces.{same_place}
use Rattle.sl_trace.specs.declared.effects.JoinStep.TheVariants.{DecidingRead, FirstRead}
use Rattle.sl_words.proofs.WordLaws.{and_true, or_true}
use Rattle.std.proofs.Common.{ap, inl, inr, refl, subst, sym, ◌∙◌}
use Rattle.std.proofs.lemmas.Bool.{eqb-true}
use Rattle.std.proofs.lemmas.Slice.Eq.{bytes_eq-Decides}
use Rattle.std.specs.Prelude.{Contains, IsTrue, List, None, Some, bytes_eq, is_none, is_some, true, [], ℕ, ◌==◌, ◌∷◌, ◌≡◌, ◌≤◌}

-- ---- the line of the place

hosts_are : (p : Program) (h : Header) (xs : List Happening) (n : ℕ) → n ≤ h.geometry.hosts → n ≤ (world_at p h xs).layout.hosts
hosts_are p h xs n le = subst (λ (g : Layout). n ≤ g.hosts) (sym (layout_is p h xs)) le

-- The place lies in its line's area.
inside_line : (p : Program) (h : Header) (xs : List Happening) → LawfulRun p h xs → (path : List ℕ) (offset : ℕ) → (k : IsIdPlace p h path offset)
    → IsTrue (in_area (world_at p h xs).layout k.lockspace.offset offset)
inside_line p h xs run path offset k =
    let g : Layout = (world_at p h xs).layout in
    let same : offset ≡ delta_offset g k.lockspace.offset k.id =
    k.is_offset ∙ ap (λ (y : Layout). delta_offset y k.lockspace.offset k.id) (layout_is p h [] ∙ sym (layout_is p h xs)) in
    subst (λ o. IsTrue (in_area g k.lockspace.offset o)) (sym same)
    (delta_within g k.lockspace.offset k.id (sized_in p h xs run) k.range.0 (hosts_are p h xs k.id k.range.1))

-- Any line whose area has the place is its line.
one_line : (p : Program) (h : Header) (xs : List Happening) → LawfulRun p h xs → (path : List ℕ) (offset : ℕ) → (k : IsIdPlace p h path offset) → (l : LockspaceLine)
    → Contains h.lockspaces l → l.path ≡ path → IsTrue (in_area (world_at p h xs).layout l.offset offset) → l ≡ k.lockspace
one_line p h xs run path offset k l there at inside =
    one_lockspace h l k.lockspace run.header there k.has (at ∙ k.is_path)
    (same_base (world_at p h xs).layout l.offset k.lockspace.offset offset (sized_in p h xs run) (lockspace_aligned h l run.header there)
    (lockspace_aligned h k.lockspace run.header k.has) inside (inside_line p h xs run path offset k))

-- ---- what stands there

place_is : (path other : List ℕ) (offset at : ℕ) → same_place path offset other at ≡ true → (path ≡ other) × (offset ≡ at)
place_is path other offset at h =
    let p = and_true (offset == at) (bytes_eq path other) h in ((bytes_eq-Decides path other).0 p.1, eqb-true offset at p.0)

first_name : (p : Program) (h : Header) (xs : List Happening) → LawfulRun p h xs → (path : List ℕ) (offset : ℕ) → (k : IsIdPlace p h path offset) → (d : DeltaRec)
    → IsInitial (world_at p h xs).layout h path offset (DeltaIs d) → d.lockspace ≡ k.lockspace.name
first_name p h xs run path offset k d (In_resource x there at inside its) = absurd (its.no_delta d refl)
first_name p h xs run path offset k d (In_lockspace l e there at inside few is its) =
    ap (λ x. x.lockspace) (same_delta d e is) ∙ its.lockspace ∙ ap (λ x. x.name) (one_line p h xs run path offset k l there at inside)

landed_name : (p : Program) (h : Header) (xs : List Happening) → LawfulRun p h xs → (path : List ℕ) (offset : ℕ) → (k : IsIdPlace p h path offset) → (l : Landing) (d : DeltaRec)
    → delta_in (record_in (world_at p h xs).layout l.bytes) ≡ Some d → Contains (landed_at (world_at p h xs) path offset) l → d.lockspace ≡ k.lockspace.name
landed_name p h xs run path offset k l d spelled has =
    let w : World = world_at p h xs in
    let q = kept_inside (λ x. same_place x.path x.offset path offset) w.landings l has in
    let at = place_is l.path path l.offset offset q.1 in
    let s = shows_its_id p h xs run k.lockspace k.has l q.0 (at.0 ∙ k.is_path)
    (subst (λ o. IsTrue (in_area w.layout k.lockspace.offset o)) (sym at.1) (inside_line p h xs run path offset k)) (DeltaIs d)
    (delta_in_is (record_in w.layout l.bytes) d spelled) in
    ap (λ x. x.lockspace) (same_delta d s.0 s.1) ∙ s.2

-- A delta record that stood there is of the lockspace.
pub shown_name : (p : Program) (h : Header) (xs : List Happening) → LawfulRun p h xs → (path : List ℕ) (offset : ℕ) → (k : IsIdPlace p h path offset) → (l : Landing) (d : DeltaRec)
    → delta_in (record_in (world_at p h xs).layout l.bytes) ≡ Some d → Contains (history_of (world_at p h xs) path offset) l → d.lockspace ≡ k.lockspace.name
shown_name p h xs run path offset k l d spelled has =
    let w : World = world_at p h xs in
    elim (contains_append (landed_at w path offset) (first_landing w path offset ∷ []) l has) as (λ z. d.lockspace ≡ k.lockspace.name) [
      | inl landed ↦ landed_name p h xs run path offset k l d spelled landed
      | inr last ↦ elim (contains_cases (first_landing w path offset) [] l last) as (λ z. d.lockspace ≡ k.lockspace.name) [
        | inl same ↦ first_name p h xs run path offset k d
            (initial_in p h xs run path offset (DeltaIs d)
            (delta_in_is (record_in w.layout (first_landing w path offset).bytes) d (ap (λ (x : Landing). delta_in (record_in w.layout x.bytes)) same ∙ spelled)))
        | inr none ↦ absurd (contains_none l none)
      ]
    ]

-- ---- what a first read showed

-- The landing that the first read of a watch showed.
pub record FirstShown (w : World) (path : List ℕ) (offset : ℕ) (first : Course) : Type 0 where
  pub sample : Sampling
  pub landing : Landing
  pub seen : numbered_landing (history_of w path offset) sample.index ≡ Some landing
  pub bytes : landing.bytes ≡ first.sampled
  pub shows : IsSampleOf w first 0 sample
  pub moment : landing.moment ≤ sample.moment

pub first_shown : (p : Program) (h : Header) (xs : List Happening) → LawfulRun p h xs → (path : List ℕ) (offset : ℕ) (i : SessionId) (f : Found)
    → session_of_world (world_at p h xs) i ≡ Some f → is_sector_of (world_at p h xs).layout path offset f.session ≡ true → (c : Course)
    → (q : HasWatched h (world_at p h xs) i f c) → FirstShown (world_at p h xs) path offset q.first
first_shown p h xs run path offset i f at sector c q =
    let w : World = world_at p h xs in
    let k = known grounds p h xs run i f at in
    let j = join_is i FirstRead f.machine q.first q.looked in
    let r = read_is_own join_reads_are_own p h xs run i f FirstRead q.first at refl j in
    let s = is_sampled grounds p h xs run i.machine f.machine q.first k.there.at j.has q.answered.1 r.reads in
    let e = one_sector w f.session path q.first.call.path offset q.first.call.offset sector r.place in
    record {
      sample = s.sample;
      landing = s.shows.landing;
      seen = ap (λ n. numbered_landing (history_of w path n) s.sample.index) (sym e.1 ∙ sym (no_times_more q.first.call.offset w.layout.sector))
          ∙ ap (λ x. numbered_landing (history_of w x (sector_place w q.first 0)) s.sample.index) (sym e.0) ∙ s.shows.seen;
      bytes = sym s.shows.bytes ∙ s.sector;
      shows = s.shows;
      moment = s.shows.newest.1;
    }

-- ---- a session that has begun there

given_name : (p : Program) (h : Header) (xs : List Happening) → LawfulRun p h xs → (path : List ℕ) (offset : ℕ) → (k : IsIdPlace p h path offset) → (i : SessionId) (f : Found)
    → session_of_world (world_at p h xs) i ≡ Some f → is_sector_of (world_at p h xs).layout path offset f.session ≡ true → f.session.job ≡ None
    → f.session.lockspace ≡ k.lockspace.name
given_name p h xs run path offset k i f at sector none =
    let w : World = world_at p h xs in
    let q = known grounds p h xs run i f at in
    let s = given_seated p h xs run i.machine f.machine f.daemon q.there.at q.there.has f.session
    (got_inside (sessions f.daemon.setting f.daemon.trace) f.session.number f.session q.its) none in
    let place = place_is f.session.path path (delta_offset w.layout f.session.offset f.session.id) offset sector in
    let inside : IsTrue (in_area w.layout s.line.offset offset) =
    subst (λ o. IsTrue (in_area w.layout s.line.offset o)) place.1
    (subst (λ o. IsTrue (in_area w.layout o (delta_offset w.layout f.session.offset f.session.id))) s.offset
    (delta_within w.layout f.session.offset f.session.id (sized_in p h xs run) s.id.0 s.id.1)) in
    s.name ∙ ap (λ x. x.name) (one_line p h xs run path offset k s.line s.there (sym s.path ∙ place.0) inside)

-- A session that watches there is of the lockspace.
pub watching_name : (p : Program) (h : Header) (xs : List Happening) → LawfulRun p h xs → (path : List ℕ) (offset : ℕ) → (k : IsIdPlace p h path offset) → (i : SessionId) (f : Found)
    → session_of_world (world_at p h xs) i ≡ Some f → is_sector_of (world_at p h xs).layout path offset f.session ≡ true → (c : Course)
    → HasWatched h (world_at p h xs) i f c → f.session.lockspace ≡ k.lockspace.name
watching_name p h xs run path offset k i f at sector c q =
    let w : World = world_at p h xs in
    let s = first_shown p h xs run path offset i f at sector c q in
    sym q.names.0
    ∙ shown_name p h xs run path offset k s.landing q.found (ap (λ bs. delta_in (record_in w.layout bs)) s.bytes ∙ q.spelled)
    (numbered_inside (history_of w path offset) s.sample.index s.landing s.seen)

-- A session that has begun there is of the lockspace.
pub begun_name : (p : Program) (h : Header) (xs : List Happening) → LawfulRun p h xs → (path : List ℕ) (offset : ℕ) → (k : IsIdPlace p h path offset) → (i : SessionId) (f : Found)
    → session_of_world (world_at p h xs) i ≡ Some f → is_sector_of (world_at p h xs).layout path offset f.session ≡ true → has_begun i f ≡ true
    → f.session.lockspace ≡ k.lockspace.name
begun_name p h xs run path offset k i f at sector begun =
    elim (or_true (is_none f.session.job) (is_some (deciding_sample i f)) begun) as (λ z. f.session.lockspace ≡ k.lockspace.name) [
      | inl given ↦ given_name p h xs run path offset k i f at sector (none_is f.session.job given)
      | inr decided ↦
          let x = some_there (deciding_sample i f) decided in
          let d = deciding_is i f x.0 x.1 in
          let j = join_is i DecidingRead f.machine d.course d.at in
          watching_name p h xs run path offset k i f at sector d.course (deciding_reads_have_watched p h xs run i f d.course at j.own j.joins)
    ]
