-- Silence means over: the record of a run stood in its sector at the first sample and at the last, longer apart than its writer may act.
use Rattle.sl_area.specs.AreaLayout.{delta_offset}
use Rattle.sl_ids.proofs.Clocks.ClockLaws.{read_on}
use Rattle.sl_run_law.proofs.Front.RunsFromFronts.{fronts_are_lawful}
use Rattle.sl_id_safety.proofs.IdInterface.{StandsIn}
use Rattle.sl_id_safety.proofs.EvidenceIsTrue.{append_twice, from_front, id_range, looks_at, place_seen}
use Rattle.sl_id_safety.proofs.FrontsOfSteps.{FrontAt, front_at, front_is_after, front_is_before}
use Rattle.sl_id_safety.proofs.SeenRecords.{IsSeen, IsSighted, looked}
use Rattle.sl_id_safety.proofs.ShownStoodThere.{ShowsLast, shown_after, shown_at}
use Rattle.sl_id_safety.proofs.JoinedStand.{joined_stand}
use Rattle.sl_id_safety.proofs.SightingRuns.{run_ends}
use Rattle.sl_id_safety.specs.Interface.{SilenceMeansOver, sightings_of}
use Rattle.sl_id_safety.proofs.State.TraceBridge.{is_there, known}
use Rattle.sl_id_safety.proofs.State.SessionFacts.{grounds}
use Rattle.sl_id_safety.specs.State.IdStates.{content_of, id_state, kind_of}
use Rattle.sl_id_safety.specs.State.StateLaws.{IsIdPlace}
use Rattle.sl_id_safety.specs.Reached.IdsAreReached.{IdsAreReached, IdsGoOn}
use Rattle.sl_ids.specs.Guards.{terms_of}
use Rattle.sl_ids.specs.Interface.{Evidence, Silent}
use Rattle.sl_ids.specs.State.{Content}
use Rattle.sl_run_law.proofs.Moment.MomentsFollowSteps.{drift_between, kept_past}
use Rattle.sl_run_law.proofs.Moment.Stamps.{answer_is_stamp, made_is_stamp}
use Rattle.sl_run_law.proofs.Moment.MachineWaits.{silences_long}
use Rattle.sl_run_law.specs.Moment.MomentsFollowSteps.{IsKept, Of_sample, point_of, stamps_on}
use Rattle.sl_run_law.specs.Moment.Waits.{reading_at}
use Rattle.sl_run_law.proofs.Place.TracesOnMachines.{header_is}
use Rattle.sl_words.proofs.Lists.{got_inside}
use Rattle.sl_run.specs.Runs.{Happening}
use Rattle.sl_run.specs.Safety.{Found, IsSession, LawfulRun, SessionId, setting_in, world_at}
use Rattle.sl_run.specs.Worlds.{Course, Machine, Program, Sampling, Stamp, World, machine_at}
use Rattle.sl_run.specs.declared.header.Header.{Header}
use Rattle.sl_run_law.proofs.Sample.SampleLaws.{samples_are_landings}
use Rattle.sl_run_law.specs.Sample.Samples.{IsSampleOf, sector_place}
use Rattle.sl_sector.specs.declared.sector.DeltaRec.{DeltaRec}
use Rattle.sl_sector.specs.declared.sector.DeltaState.TheVariants.{Claimed, Free, Live}
use Rattle.sl_sector.specs.declared.sector.DeltaState.{DeltaState}
use Rattle.sl_trace.specs.Sightings.{is_live_state, is_silent, span}
use Rattle.sl_trace.specs.declared.sighting.Run.{Run}
use Rattle.sl_trace.specs.declared.sighting.Sighting.{Sighting}
use Rattle.sl_time.specs.Times.{TimingNumbers, dead, gone}
use Rattle.sl_words.proofs.CaseLaws.{true_is_false}
use Rattle.sl_words.proofs.WordLaws.{and_true}
use Rattle.std.proofs.Common.{ap, arith, inl, inr, refl, subst, sym, ◌∙◌}
use Rattle.std.proofs.lemmas.Bool.{cases_lt, eqb-true, leb-true}
use Rattle.std.specs.Prelude.{Contains, List, Some, nat_le, true, ℕ, ◌&&◌, ◌++◌, ◌+◌, ◌-◌, ◌<◌, ◌==◌, ◌≡◌, ◌≤◌}

-- ---- what a silent run says

live_is : (s : DeltaState) → is_live_state s ≡ true → s ≡ Live
live_is Live is = refl
live_is Claimed is = absurd (true_is_false (sym is))
live_is Free is = absurd (true_is_false (sym is))

-- It is live, of the generation, and long.
silent_is : (tm : TimingNumbers) (n : ℕ) (r : Run) → is_silent tm n r ≡ true → (dead tm ≤ span r) × (r.spelled.state ≡ Live) × (r.spelled.generation ≡ n)
silent_is tm n r is =
    let one = and_true (nat_le (dead tm) (span r) && is_live_state r.spelled.state) (r.spelled.generation == n) is in
    let two = and_true (nat_le (dead tm) (span r)) (is_live_state r.spelled.state) one.0 in
    (leb-true (dead tm) (span r) two.0, live_is r.spelled.state two.1, eqb-true r.spelled.generation n one.1)

apart_by : (d since latest : ℕ) → 1 ≤ d → d ≤ latest - since → since + d ≤ latest
apart_by d since latest some le = omega (arith, some, le)

some_dead : (tm : TimingNumbers) → 1 ≤ dead tm
some_dead tm = omega arith

-- ---- the two samples

-- The sample of a sighting: it is kept, shows a landing, and its call was made at a stamp of the machine.
record IsSampled (w : World) (m : ℕ) (a : Machine) (c : Course) (k : ℕ) (s : Sampling) : Type 0 where
  kept : IsKept w s.step s.moment
  is : IsSampleOf w c k s
  past : s.step < w.step
  made : Contains (stamps_on a) c.made

sampled : (p : Program) (h : Header) (xs : List Happening) → LawfulRun p h xs → (i : SessionId) (f : Found) → IsSession (world_at p h xs) i f → (j : ℕ) (d : DeltaRec)
    → (s : IsSeen (world_at p h xs) i f j d) → IsSampled (world_at p h xs) i.machine f.machine s.course (j - 1) s.sample
sampled p h xs run i f its j d s =
    let at = (is_there (world_at p h xs) i f its).at in
    let kept : IsKept (world_at p h xs) s.sample.step s.sample.moment =
    Of_sample i.machine f.machine s.course s.sample at s.has (got_inside s.course.samples (j - 1) s.sample s.slot) refl refl in
    record {
      kept = kept;
      is = samples_are_landings p h xs run i.machine f.machine s.course (j - 1) s.sample at s.has s.slot;
      past = (kept_past p h xs run s.sample.step s.sample.moment kept).0;
      made = made_is_stamp f.machine s.course s.has;
    }

-- Of two stamps of a machine the one that reads less came no later.
in_order : (p : Program) (h : Header) (xs : List Happening) → LawfulRun p h xs → (m : ℕ) (a : Machine) (s t : Stamp) → machine_at (world_at p h xs) m ≡ Some a
    → Contains (stamps_on a) s → Contains (stamps_on a) t → reading_at s < reading_at t → s.step ≤ t.step
in_order p h xs run m a s t at first last less =
    elim (cases_lt t.step s.step) as (λ z. s.step ≤ t.step) [
      | inl before ↦
          let le = read_on h.timing.rho (point_of t) (point_of s) (drift_between p h xs run m a t s at last first (omega (arith, before))) in
          absurd (omega (arith, le, less))
      | inr ge ↦ ge
    ]

-- The first sample came before the last, by more than a session may act for.
record AreApart (t : TimingNumbers) (s e : Sampling) : Type 0 where
  order : s.step < e.step
  moments : s.moment + gone t < e.moment

are_apart : (p : Program) (h : Header) (xs : List Happening) → LawfulRun p h xs → (i : SessionId) (f : Found) → IsSession (world_at p h xs) i f → (j : ℕ) (d : DeltaRec)
    → (x y : Sighting) (a : IsSighted (world_at p h xs) i f j x d) (b : IsSighted (world_at p h xs) i f j y d) → x.after + dead h.timing ≤ y.before
    → AreApart h.timing a.seen.sample b.seen.sample
are_apart p h xs run i f its j d x y a b far =
    let w : World = world_at p h xs in
    let at = (is_there w i f its).at in
    let s = sampled p h xs run i f its j d a.seen in
    let e = sampled p h xs run i f its j d b.seen in
    let to : Stamp = b.seen.course.made in
    let from_kept : Contains (stamps_on f.machine) a.stamp = answer_is_stamp f.machine a.seen.course a.stamp a.seen.has a.answered in
    let some = some_dead h.timing in
    let reads : reading_at a.stamp + dead h.timing ≤ reading_at to = let from_is = a.after in let to_is = b.before in omega (arith, far, from_is, to_is) in
    let order : a.stamp.step ≤ to.step = in_order p h xs run i.machine f.machine a.stamp to at from_kept e.made (omega (arith, reads, some)) in
    let before = (s.is.before a.stamp a.answered).0 in
    let after = e.is.after.0 in
    record {
      order = omega (arith, before, order, after);
      moments = (silences_long p h xs run i.machine a.stamp to (record { machine = f.machine; at = at; begins = from_kept; ends = e.made; order = order })
          a.seen.sample.moment a.seen.sample.moment b.seen.sample.moment reads
          (record { step = a.seen.sample.step; kept = s.kept; order = omega (arith, before) })
          (record { step = b.seen.sample.step; kept = e.kept; order = omega (arith, after) }) (omega arith)).0;
    }

-- ---- the two fronts

shows_there : (w v : World) (i : SessionId) (f : Found) (j : ℕ) (d : DeltaRec) (s : IsSeen w i f j d) → ShowsLast (id_state v s.course.call.path (sector_place w s.course (j - 1))) (content_of d)
    → ShowsLast (id_state v f.session.path (delta_offset w.layout f.session.offset j)) (content_of d)
shows_there w v i f j d s shows =
    subst (λ n. ShowsLast (id_state v f.session.path n) (content_of d)) (place_seen w i f j d s)
    (subst (λ q. ShowsLast (id_state v q (sector_place w s.course (j - 1))) (content_of d)) s.place.0 shows)

spot_there : (p : Program) (h : Header) (w : World) (i : SessionId) (f : Found) (j : ℕ) (d : DeltaRec) (s : IsSeen w i f j d) → IsIdPlace p h f.session.path (delta_offset w.layout f.session.offset j)
    → IsIdPlace p h s.course.call.path (sector_place w s.course (j - 1))
spot_there p h w i f j d s place =
    subst (λ n. IsIdPlace p h s.course.call.path n) (sym (place_seen w i f j d s))
    (subst (λ q. IsIdPlace p h q (delta_offset w.layout f.session.offset j)) (sym s.place.0) place)

-- A front of a front is one of the whole.
abbrev front_of_front : (p : Program) (h : Header) (xs : List Happening) (k n : ℕ) (b : FrontAt p h xs k) → FrontAt p h b.now n → FrontAt p h xs n
front_of_front p h xs k n b a =
    record {
      now = a.now;
      rest = a.rest ++ b.rest;
      whole = b.whole ∙ ap (λ ys. ys ++ b.rest) a.whole ∙ append_twice a.now a.rest b.rest;
      reaches = a.reaches;
      first = a.first;
    }

-- The fronts at which the record stood, one before the first sample and one after the last.
record StoodStill (p : Program) (h : Header) (xs : List Happening) (path : List ℕ) (offset : ℕ) (x : Content) : Type 0 where
  front : List Happening
  between : List Happening
  rest : List Happening
  whole : xs ≡ (front ++ between) ++ rest
  first : ShowsLast (id_state (world_at p h front) path offset) x
  last : ShowsLast (id_state (world_at p h (front ++ between)) path offset) x
  apart : (world_at p h front).moment + gone h.timing < (world_at p h (front ++ between)).moment

front_moment : (p : Program) (h : Header) (xs now rest : List Happening) → xs ≡ now ++ rest → LawfulRun p h xs → (s m : ℕ) → IsKept (world_at p h xs) s m
    → (world_at p h now).step ≤ s + 1 → (world_at p h now).moment ≤ m
front_moment p h xs now rest whole run s m is le =
    front_is_before p h now rest (subst (λ ys. LawfulRun p h ys) whole run) s m (subst (λ ys. IsKept (world_at p h ys) s m) whole is) le

moment_front : (p : Program) (h : Header) (xs now rest : List Happening) → xs ≡ now ++ rest → LawfulRun p h xs → (s m : ℕ) → IsKept (world_at p h xs) s m
    → s + 1 ≤ (world_at p h now).step → m ≤ (world_at p h now).moment
moment_front p h xs now rest whole run s m is lt =
    front_is_after p h now rest (subst (λ ys. LawfulRun p h ys) whole run) s m (subst (λ ys. IsKept (world_at p h ys) s m) whole is) (omega (arith, lt))

stood_still : IdsAreReached → (p : Program) (h : Header) (xs : List Happening) → LawfulRun p h xs → (i : SessionId) (f : Found) → IsSession (world_at p h xs) i f → (j : ℕ) (d : DeltaRec)
    → IsIdPlace p h f.session.path (delta_offset (world_at p h xs).layout f.session.offset j) → (s e : IsSeen (world_at p h xs) i f j d) → AreApart h.timing s.sample e.sample
    → StoodStill p h xs f.session.path (delta_offset (world_at p h xs).layout f.session.offset j) (content_of d)
stood_still reached p h xs run i f its j d place s e apart =
    let w : World = world_at p h xs in
    let offset : ℕ = delta_offset w.layout f.session.offset j in
    let one = sampled p h xs run i f its j d s in
    let two = sampled p h xs run i f its j d e in
    let past = two.past in
    let order = apart.order in
    let b = front_at p h xs run (e.sample.step + 1) (omega (arith, past)) in
    let run' : LawfulRun p h (b.now ++ b.rest) = subst (λ ys. LawfulRun p h ys) b.whole run in
    let reaches = b.reaches in
    let a = front_at p h b.now (fronts_are_lawful p h b.now b.rest run') s.sample.step (omega (arith, reaches, order)) in
    let a' = front_of_front p h xs (e.sample.step + 1) s.sample.step b a in
    let first = shows_there w (world_at p h a.now) i f j d s (shown_at reached p h xs s.course (j - 1) s.sample a' run one.is (spot_there p h w i f j d s place) (content_of d) s.says) in
    let last = shows_there w (world_at p h b.now) i f j d e (shown_after reached p h xs e.course (j - 1) e.sample b run two.is (spot_there p h w i f j d e place) (content_of d) e.says) in
    let begins = front_moment p h xs a.now (a.rest ++ b.rest) a'.whole run s.sample.step s.sample.moment one.kept a.first in
    let ends = moment_front p h xs b.now b.rest b.whole run e.sample.step e.sample.moment two.kept reaches in
    let far = apart.moments in
    record {
      front = a.now;
      between = a.rest;
      rest = b.rest;
      whole = b.whole ∙ ap (λ ys. ys ++ b.rest) a.whole;
      first = first;
      last = subst (λ ys. ShowsLast (id_state (world_at p h ys) f.session.path offset) (content_of d)) a.whole last;
      apart = subst (λ ys. (world_at p h a.now).moment + gone h.timing < (world_at p h ys).moment) a.whole (omega (arith, begins, ends, far));
    }

-- ---- the law

-- Where a live record stood still for so long, its generation is over.
still_evidence : IdsAreReached → IdsGoOn → (p : Program) (h : Header) (xs : List Happening) → LawfulRun p h xs → (path : List ℕ) (offset : ℕ) → IsIdPlace p h path offset → (d : DeltaRec)
    → d.state ≡ Live → (n : ℕ) → d.generation ≡ n → (s : StoodStill p h xs path offset (content_of d))
    → Evidence (terms_of h.timing) (id_state (world_at p h (s.front ++ s.between)) path offset) n
still_evidence reached on p h xs run path offset place d live n generation s =
    let run' : LawfulRun p h (s.front ++ s.between) = fronts_are_lawful p h (s.front ++ s.between) s.rest (subst (λ ys. LawfulRun p h ys) s.whole run) in
    Silent (id_state (world_at p h s.front) path offset) s.first.last s.last.last (content_of d)
    (reached p h s.front path offset (fronts_are_lawful p h s.front s.between run') place) (on p h s.front s.between path offset run' place)
    s.first.is_last s.first.shows s.last.is_last s.last.shows (ap kind_of live) generation s.apart

pub silence_means_over_given : IdsAreReached → IdsGoOn → SilenceMeansOver
silence_means_over_given reached on p h now rest run i k f g j n its quiet also joined same id generation =
    let w : World = world_at p h now in
    let front = fronts_are_lawful p h now rest run in
    let r : Run = quiet.0 in
    let timing : (setting_in f).timing ≡ h.timing =
    (known grounds p h now front i f its).of_world.timing ∙ ap (λ (y : Header). y.timing) (header_is p h now) in
    let is = silent_is (setting_in f).timing n r quiet.2 in
    let t = joined_stand p h (now ++ rest) run k g also joined in
    let at = looks_at p h now (now ++ rest) f g k j same id t in
    let range = id_range p h now (now ++ rest) k g j id t in
    let offset : ℕ = delta_offset w.layout f.session.offset j in
    let ends = run_ends (setting_in f).layout j (sightings_of f j) r quiet.1 in
    let a = looked p h now front i f its j range.0 range.1 ends.first ends.begins r.spelled ends.begun in
    let b = looked p h now front i f its j range.0 range.1 ends.last ends.ends r.spelled ends.ended in
    let far : ends.first.after + dead h.timing ≤ ends.last.before =
    subst (λ x. x + dead h.timing ≤ ends.last.before) (sym ends.since) (subst (λ x. r.since + dead h.timing ≤ x) (sym ends.latest)
    (apart_by (dead h.timing) r.since r.latest (some_dead h.timing) (subst (λ (tm : TimingNumbers). dead tm ≤ span r) timing is.0))) in
    let stood = stood_still reached p h now front i f its j r.spelled at.0 a.seen b.seen (are_apart p h now front i f its j r.spelled ends.first ends.last a b far) in
    let whole : now ++ rest ≡ (stood.front ++ stood.between) ++ (stood.rest ++ rest) =
    ap (λ ys. ys ++ rest) stood.whole ∙ append_twice (stood.front ++ stood.between) stood.rest rest in
    from_front reached on p h (stood.front ++ stood.between) (stood.rest ++ rest) (subst (λ ys. LawfulRun p h ys) whole run) f.session.path offset at.0 n
    (still_evidence reached on p h now front f.session.path offset at.0 r.spelled is.1 n is.2 stood) k g
    (subst (λ ys. StandsIn (world_at p h ys) f.session.path offset k g) whole at.1) generation
