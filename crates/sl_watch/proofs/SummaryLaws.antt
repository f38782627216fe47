-- The summary of a list with one more sighting is the summary's step, and evidence is read off it.
use Rattle.sl_area.specs.AreaSizes.{Layout, layout_of}
use Rattle.sl_sector.specs.declared.sector.DeltaRec.{DeltaRec}
use Rattle.sl_trace.specs.Sightings.{current_run, evidence, evidence_of, has_seen, is_free_among, is_free_state, newest_of, run_with, seen_records, sighted, silence, span, state_of_run, unchanged, host_state}
use Rattle.sl_trace.specs.declared.sighting.Run.{Run}
use Rattle.sl_trace.specs.declared.sighting.Sighting.{Sighting}
use Rattle.sl_time.specs.Times.{TimingNumbers}
use Rattle.sl_trace.specs.declared.reply.Evidence.TheVariants.{Freed, Newer}
use Rattle.sl_trace.specs.declared.reply.Evidence.{Evidence}
use Rattle.sl_watch.specs.Summaries.{IsKept, RunStands, Summary, bare, bare_run, evidence_by, freed_with, state_by, summary_of, summary_with}
use Rattle.sl_watch.specs.Watches.{WatchStands, Watched, kept_at}
use Rattle.sl_watch.specs.declared.run.KeptRun.{KeptRun}
use Rattle.sl_watch.specs.declared.summary.Summary.{Summary as Kept}
use Rattle.std.specs.Option.{option_map_or}
use Rattle.std.proofs.Common.{ap, arith, eq-eqb, lt-ltb, inl, inr, subst, sym, ◌∙◌}
use Rattle.std.proofs.Math.Nat.{max-eq_left, max-eq_right}
use Rattle.std.proofs.lemmas.Bool.Decides.{nat_tests}
use Rattle.std.proofs.lemmas.Bool.{cases_lt}
use Rattle.std.specs.List.{cons_option}
use Rattle.std.specs.Prelude.{Bool, List, None, Option, Some, false, option_map, if◌then◌else◌, nat_lt, refl, true, ℕ, [], ◌&&◌, ◌<◌, ◌==◌, ◌||◌, ◌∷◌, ◌≡◌, ◌≤◌}

-- No generation above the greatest was seen free.
free_is_seen : (h : ℕ) (ds : List DeltaRec) → newest_of ds < h → is_free_among h ds ≡ false
free_is_seen h [] above = refl
free_is_seen h (d ∷ ds) above = let e : is_free_among h ds ≡ false = free_is_seen h ds (omega arith) in grind (arith, nat_tests)

-- Freed, where the record's generation is above all others.
freed_above : (n h : ℕ) (free before rest : Bool) → n < h → rest ≡ false
    → (if nat_lt n h then free else if n == h then free || before else before) ≡ (((h == h) && free) || rest)
freed_above n h free before rest above none = grind (arith, nat_tests)

-- .. and where it isn't.
freed_below : (n h : ℕ) (free before : Bool) → h ≤ n
    → (if nat_lt n h then free else if n == h then free || before else before) ≡ (((h == n) && free) || before)
freed_below n h free before below = grind (arith, nat_tests)

-- Whether the greatest generation was seen free, with one more record.
free_more : (d : DeltaRec) (ds : List DeltaRec)
    → freed_with (newest_of ds) (is_free_among (newest_of ds) ds) d ≡ is_free_among (newest_of (d ∷ ds)) (d ∷ ds)
free_more d ds =
    let n : ℕ = newest_of ds in
    let P : ℕ → Type 0 = λ m. freed_with n (is_free_among n ds) d ≡ is_free_among m (d ∷ ds) in
    elim (cases_lt n d.generation) [
      | inl above ↦
          subst P (sym (max-eq_left (omega arith)))
          (freed_above n d.generation (is_free_state d.state) (is_free_among n ds) (is_free_among d.generation ds) above (free_is_seen d.generation ds above))
      | inr below ↦ subst P (sym (max-eq_right below)) (freed_below n d.generation (is_free_state d.state) (is_free_among n ds) below)
    ]

-- The summary with one more sighting, by what that spells.
summary_more_by : (ds : List DeltaRec) (seen : Bool) (run : Option Run) (s : Sighting) (o : Option DeltaRec)
    → summary_with (record { newest = newest_of ds; freed = is_free_among (newest_of ds) ds; any = seen; run = run }) s o
    ≡ record {
      newest = newest_of (cons_option o ds);
      freed = is_free_among (newest_of (cons_option o ds)) (cons_option o ds);
      any = true;
      run = option_map (λ d. run_with run s d seen) o;
    }
summary_more_by ds seen run s None = refl
summary_more_by ds seen run s (Some d) =
    let summary : Bool → Summary = λ freed. record { newest = newest_of (d ∷ ds); freed = freed; any = true; run = Some (run_with run s d seen) } in
    ap summary (free_more d ds)

-- The summary with one more sighting.
pub summary_more : (g : Layout) (id : ℕ) (ss : List Sighting) (s : Sighting)
    → summary_with (summary_of g id ss) s (sighted g id s) ≡ summary_of g id (s ∷ ss)
summary_more g id ss s = summary_more_by (seen_records g id ss) (has_seen ss) (current_run g id ss) s (sighted g id s)

-- The greatest generation was seen free, or this one, whichever is asked, where none is above it.
free_at_last : (h : ℕ) (ds : List DeltaRec) → newest_of ds ≤ h → (newest_of ds == h && is_free_among (newest_of ds) ds) ≡ is_free_among h ds
free_at_last h ds most = elim (cases_lt (newest_of ds) h) [
  | inl above ↦ let e : is_free_among h ds ≡ false = free_is_seen h ds above in rw e (grind (arith, nat_tests))
  | inr same ↦
      let P : ℕ → Type 0 = λ n. (n == h && is_free_among n ds) ≡ is_free_among h ds in
      let e : h ≡ newest_of ds = omega arith in
      subst P e (ap (λ b. b && is_free_among h ds) (eq-eqb h h refl))
]

-- Evidence by the summary is the evidence.
pub evidence_is : (tm : TimingNumbers) (h : ℕ) (ds : List DeltaRec) (run : Option Run) (seen : Bool)
    → evidence_by tm h (record { newest = newest_of ds; freed = is_free_among (newest_of ds) ds; any = seen; run = run }) ≡ evidence_of tm h ds run
evidence_is tm h ds run seen =
    let n : ℕ = newest_of ds in
    let by : Bool → Bool → Option Evidence = λ newer free. elim newer [ true ↦ Some (Newer n) | false ↦ elim free [ true ↦ Some (Freed h) | false ↦ silence tm h run ] ] in
    elim (cases_lt h n) [
      | inl above ↦
          let e : nat_lt h n ≡ true = lt-ltb h n above in
          ap (λ b. by b (n == h && is_free_among n ds)) e ∙ sym (ap (λ b. by b (is_free_among h ds)) e)
      | inr most ↦ ap (by (nat_lt h n)) (free_at_last h ds most)
    ]

-- ---- what is kept

same_silence : (tm : TimingNumbers) (h : ℕ) (size : ℕ) (k : Option KeptRun) (r : Option Run) → RunStands size k r → silence tm h (option_map bare_run k) ≡ silence tm h r
same_silence tm h size None None is = refl
same_silence tm h size (Some k) (Some r) is = ap (λ x. silence tm h (Some x)) is.same
same_silence tm h size None (Some r) is = absurd is
same_silence tm h size (Some k) None is = absurd is

same_span : (size : ℕ) (k : Option KeptRun) (r : Option Run) → RunStands size k r → option_map_or span (option_map bare_run k) 0 ≡ option_map_or span r 0
same_span size None None is = refl
same_span size (Some k) (Some r) is = ap span is.same
same_span size None (Some r) is = absurd is
same_span size (Some k) None is = absurd is

same_state : (tm : TimingNumbers) (now size : ℕ) (k : Option KeptRun) (r : Option Run) → RunStands size k r → state_by tm (option_map bare_run k) now ≡ state_by tm r now
same_state tm now size None None is = refl
same_state tm now size (Some k) (Some r) is = ap (λ x. state_of_run tm x now) is.same
same_state tm now size None (Some r) is = absurd is
same_state tm now size (Some k) None is = absurd is

same_evidence : (tm : TimingNumbers) (h size : ℕ) (k : Kept) (m : Summary) → IsKept size k m → evidence_by tm h (bare k) ≡ evidence_by tm h m
same_evidence tm h size k m is =
    let reason : ℕ → Bool → Option Evidence → Option Evidence =
    λ n freed silent. elim (nat_lt h n) [ true ↦ Some (Newer n) | false ↦ elim (n == h && freed) [ true ↦ Some (Freed h) | false ↦ silent ] ] in
    ap (λ n. reason n k.freed (silence tm h (option_map bare_run k.run))) is.newest ∙ ap (λ f. reason m.newest f (silence tm h (option_map bare_run k.run))) is.freed
    ∙ ap (reason m.newest m.freed) (same_silence tm h size k.run m.run is.run)

-- ---- what a watch is asked

pub evidence_read : (w : Watched) (seen : ℕ → List Sighting) (id h : ℕ) → WatchStands w seen → 1 ≤ id → id ≤ w.sizes.hosts
    → evidence_by w.timing h (bare (kept_at w id)) ≡ evidence w.timing (layout_of w.sizes) id h (seen id)
evidence_read w seen id h stands one most =
    let ss : List Sighting = seen id in
    let g : Layout = layout_of w.sizes in
    same_evidence w.timing h w.sizes.sector (kept_at w id) (summary_of g id ss) (stands.each id one most)
    ∙ evidence_is w.timing h (seen_records g id ss) (current_run g id ss) (has_seen ss)

pub span_read : (w : Watched) (seen : ℕ → List Sighting) (id : ℕ) → WatchStands w seen → 1 ≤ id → id ≤ w.sizes.hosts
    → option_map_or span (bare (kept_at w id)).run 0 ≡ unchanged (layout_of w.sizes) id (seen id)
span_read w seen id stands one most = same_span w.sizes.sector (kept_at w id).run (current_run (layout_of w.sizes) id (seen id)) (stands.each id one most).run

pub state_read : (w : Watched) (seen : ℕ → List Sighting) (id now : ℕ) → WatchStands w seen → 1 ≤ id → id ≤ w.sizes.hosts
    → state_by w.timing (bare (kept_at w id)).run now ≡ host_state w.timing (layout_of w.sizes) id (seen id) now
state_read w seen id now stands one most =
    same_state w.timing now w.sizes.sector (kept_at w id).run (current_run (layout_of w.sizes) id (seen id)) (stands.each id one most).run
