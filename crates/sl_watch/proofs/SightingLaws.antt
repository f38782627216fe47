-- What sightings show, and what they don't.
use Rattle.sl_area.specs.AreaSizes.{Layout, program_digest}
use Rattle.sl_sector.proofs.PublicLaws.{reading_is_exact}
use Rattle.sl_sector.proofs.WrittenBytes.{sha256_is_digest}
use Rattle.sl_sector.specs.SectorLayouts.{Spells, decoded, delta_in}
use Rattle.sl_sector.specs.declared.sector.Bad.{Bad}
use Rattle.sl_sector.specs.declared.sector.DeltaRec.{DeltaRec}
use Rattle.sl_sector.specs.declared.sector.DeltaState.TheVariants.{Claimed, Free, Live}
use Rattle.sl_sector.specs.declared.sector.DeltaState.{DeltaState}
use Rattle.sl_sector.specs.declared.sector.Rec.TheVariants.{BlockIs, DeltaIs, LeaderIs, PairIs, PairLeaderIs, RequestIs, ValueIs}
use Rattle.sl_sector.specs.declared.sector.Rec.{Rec}
use Rattle.sl_trace.specs.Sightings.{current_run, evidence, has_seen, new_run, newest_of, run_with, seen_records, sighted, silence}
use Rattle.sl_trace.specs.declared.sighting.Run.{Run}
use Rattle.sl_trace.specs.declared.sighting.Sighting.{Sighting}
use Rattle.sl_time.specs.Times.{TimingNumbers}
use Rattle.sl_trace.specs.declared.reply.Evidence.TheVariants.{Freed, Newer, Silent}
use Rattle.sl_trace.specs.declared.reply.Evidence.{Evidence}
use Rattle.sl_watch.proofs.ReasonLaws.{IsFreeOf, any_here, any_later, free_among_decides, named_reason, newer_decides, silence_if, silence_says, some_reason}
use Rattle.sl_watch.specs.Laws.{BytesAreReadTrue, ClaimsAreNoEvidence, SightedIsSpelled}
use Rattle.sl_watch.specs.Reasons.{IsStill}
use Rattle.sl_words.proofs.CaseLaws.{some_value}
use Rattle.sl_words.proofs.WordLaws.{choose_some}
use Rattle.sl_words.specs.Words.{choose}
use Rattle.std.proofs.Common.{ap, arith, eq-eqb, inl, inr, subst, sym, ◌∙◌}
use Rattle.std.proofs.lemmas.Bool.{eqb-true}
use Rattle.std.specs.List.{All, Any, cons_option}
use Rattle.std.specs.Option.{IfSome, IsSomeAnd}
use Rattle.std.specs.Prelude.{Bool, Err, IsSome, List, None, Ok, Option, Result, Some, bytes_eq, false, option_and_then, option_map, refl, true, ℕ, [], ◌<◌, ◌==◌, ◌∷◌, ◌≡◌, ◌≤◌, ◌⊎◌, ◌↔◌}

-- ---- a claim

-- Evidence by silence is of a run that stood still.
abbrev StillIfSilent : TimingNumbers → ℕ → Option Run → Evidence → Type 0
StillIfSilent tm h run (Newer n) = Unit {0}
StillIfSilent tm h run (Freed n) = Unit {0}
StillIfSilent tm h run (Silent from to) = IsSomeAnd run (IsStill tm h)

silence_is_still : (tm : TimingNumbers) (g : Layout) (id h : ℕ) (ss : List Sighting) (from to : ℕ)
    → evidence tm g id h ss ≡ Some (Silent from to) → IsSomeAnd (current_run g id ss) (IsStill tm h)
silence_is_still tm g id h ss from to is =
    let ds : List DeltaRec = seen_records g id ss in
    let run : Option Run = current_run g id ss in
    let says : IfSome (evidence tm g id h ss) (StillIfSilent tm h run) =
    named_reason (newest_of ds) h _ _ (silence tm h run) _ _ (StillIfSilent tm h run) (newer_decides h ds) (free_among_decides h ds)
    (λ _. tt) (λ _ _. tt)
    (λ _ _. silence_says tm h run (StillIfSilent tm h run) (λ r e still. let P : Option Run → Type 0 = λ o. IsSomeAnd o (IsStill tm h) in subst P (sym e) still)) in
    let Q : Option Evidence → Type 0 = λ o. IfSome o (StillIfSilent tm h run) in
    subst Q is says

-- One run or the other.
abbrev either : Bool → Run → Run → Run
either same old new = elim same [ true ↦ old | false ↦ new ]

-- The run's record was seen, with one more sighting.
run_goes_on : (run : Option Run) (s : Sighting) (d : DeltaRec) (seen : Bool) (ds : List DeltaRec)
    → ((q : Run) → run ≡ Some q → Any (λ e. e ≡ q.spelled) ds) → Any (λ e. e ≡ (run_with run s d seen).spelled) (d ∷ ds)
run_goes_on None s d seen ds before = any_here (λ e. e ≡ d) d ds refl
run_goes_on (Some q) s d seen ds before = by_bytes (bytes_eq q.bytes s.bytes) where
  by_bytes : (same : Bool) → Any (λ e. e ≡ (either same (record q { latest = s.before }) (new_run s d seen)).spelled) (d ∷ ds)
  by_bytes true = any_later (λ e. e ≡ q.spelled) d ds (before q refl)
  by_bytes false = any_here (λ e. e ≡ d) d ds refl

-- .. if it spells one.
run_of_seen : (o : Option DeltaRec) (run : Option Run) (s : Sighting) (seen : Bool) (ds : List DeltaRec) (r : Run)
    → option_map (λ d. run_with run s d seen) o ≡ Some r
    → ((q : Run) → run ≡ Some q → Any (λ e. e ≡ q.spelled) ds) → Any (λ e. e ≡ r.spelled) (cons_option o ds)
run_of_seen None run s seen ds r is before = absurd cc
run_of_seen (Some d) run s seen ds r is before =
    let P : Run → Type 0 = λ q. Any (λ e. e ≡ q.spelled) (d ∷ ds) in
    subst P (some_value _ _ is) (run_goes_on run s d seen ds before)

-- The run's record was seen.
run_is_seen : (g : Layout) (id : ℕ) (ss : List Sighting) (r : Run) → current_run g id ss ≡ Some r → Any (λ d. d ≡ r.spelled) (seen_records g id ss)
run_is_seen g id [] r is = absurd cc
run_is_seen g id (s ∷ ss) r is =
    run_of_seen (sighted g id s) (current_run g id ss) s (has_seen ss) (seen_records g id ss) r is (λ q e. run_is_seen g id ss q e)

-- A record among those that are all so.
any_of_all : {X : Type 0} (P Q : X → Type 0) (xs : List X) → All P xs → Any Q xs → (x : X) × P x × Q x
any_of_all P Q xs all (k, x, lt, is, q) = (x, subst P is (all k x lt), q)

-- What isn't there.
not_some : {X : Type 0} (o : Option X) → (IsSome o → ⊥) → o ≡ None
not_some None none = refl
not_some (Some x) none = absurd (none refl)

-- A value of which something holds.
some_and : {X : Type 0} (P : X → Type 0) (o : Option X) → IsSomeAnd o P → (x : X) × (o ≡ Some x) × P x
some_and P None is = absurd is
some_and P (Some x) is = (x, refl, is)

-- A state is one.
claimed_is_not_free : (s : DeltaState) → s ≡ Claimed → s ≡ Free → ⊥
claimed_is_not_free s claimed free = cc

claimed_is_not_live : (s : DeltaState) → s ≡ Claimed → s ≡ Live → ⊥
claimed_is_not_live s claimed live = cc

-- This record is a claim of at most generation h.
abbrev IsClaim : ℕ → DeltaRec → Type 0
IsClaim h d = (d.state ≡ Claimed) × (d.generation ≤ h)

none_of_claims : (tm : TimingNumbers) (g : Layout) (id h : ℕ) (ss : List Sighting) → All (IsClaim h) (seen_records g id ss)
    → (Any (λ d. h < d.generation) (seen_records g id ss) ⊎ Any (IsFreeOf h) (seen_records g id ss) ⊎ IsSomeAnd (current_run g id ss) (IsStill tm h)) → ⊥
none_of_claims tm g id h ss claims reasons = elim reasons [
  | inl newer ↦ let found : (d : DeltaRec) × IsClaim h d × (h < d.generation) = any_of_all _ _ _ claims newer in omega (arith, found.1.1, found.2)
  | inr others ↦ elim others [
    | inl free ↦ let found : (d : DeltaRec) × IsClaim h d × IsFreeOf h d = any_of_all _ _ _ claims free in claimed_is_not_free found.0.state found.1.0 found.2.1
    | inr still ↦
        let run : (r : Run) × (current_run g id ss ≡ Some r) × IsStill tm h r = some_and (IsStill tm h) (current_run g id ss) still in
        let found : (d : DeltaRec) × IsClaim h d × (d ≡ run.0.spelled) = any_of_all _ _ _ claims (run_is_seen g id ss run.0 run.1) in
        claimed_is_not_live found.0.state found.1.0 (ap (λ d. d.state) found.2 ∙ run.2.0)
  ]
]

pub claims_are_no_evidence : ClaimsAreNoEvidence
claims_are_no_evidence = record {
  alone = (λ tm g id h ss claims.
      let ds : List DeltaRec = seen_records g id ss in
      not_some (evidence tm g id h ss)
      (λ is. none_of_claims tm g id h ss claims
      ((some_reason (newest_of ds) h _ _ (silence tm h (current_run g id ss)) _ _ _ (newer_decides h ds) (free_among_decides h ds) (silence_if tm h (current_run g id ss))).0 is)));
  standing = (λ tm g id h ss r from to is claimed silent.
      let P : Option Run → Type 0 = λ o. IsSomeAnd o (IsStill tm h) in
      let still : IsStill tm h r = subst P is (silence_is_still tm g id h ss from to silent) in
      claimed_is_not_live r.spelled.state claimed still.0);
}

-- ---- bytes

-- What is read for an id is a delta record of it.
read_for : (id : ℕ) (read : Result Rec Bad) (d : DeltaRec) → option_and_then (λ e. choose (e.id == id) e) (delta_in read) ≡ Some d
    → (read ≡ Ok (DeltaIs d)) × (d.id ≡ id)
read_for id (Ok (DeltaIs e)) d is =
    let own : ((e.id == id) ≡ true) × (e ≡ d) = choose_some (e.id == id) e d is in
    (ap (λ x. Ok (DeltaIs x)) own.1, ap (λ x. x.id) (sym own.1) ∙ eqb-true e.id id own.0)
read_for id (Ok (LeaderIs e)) d is = absurd cc
read_for id (Ok (BlockIs e)) d is = absurd cc
read_for id (Ok (PairIs e)) d is = absurd cc
read_for id (Ok (PairLeaderIs e)) d is = absurd cc
read_for id (Ok (RequestIs e)) d is = absurd cc
read_for id (Ok (ValueIs e)) d is = absurd cc
read_for id (Err bad) d is = absurd cc

-- A delta record of the id is what is read for it.
for_read : (id : ℕ) (d : DeltaRec) → d.id ≡ id → choose (d.id == id) d ≡ Some d
for_read id d own = ap (λ b. choose b d) (eq-eqb d.id id own)

pub sighted_is_spelled : SightedIsSpelled
sighted_is_spelled sizes n id s d size bytes =
    let exact : (decoded program_digest s.bytes ≡ Ok (DeltaIs d)) ↔ Spells program_digest s.bytes (DeltaIs d) =
    reading_is_exact program_digest sha256_is_digest n s.bytes (DeltaIs d) size bytes in (
      (λ is. let found : (decoded program_digest s.bytes ≡ Ok (DeltaIs d)) × (d.id ≡ id) = read_for id (decoded program_digest s.bytes) d is in (exact.0 found.0, found.1)),
      (λ spells. ap (λ r. option_and_then (λ e. choose (e.id == id) e) (delta_in r)) (exact.1 spells.0) ∙ for_read id d spells.1),
    )

-- ---- bytes

pub bytes_are_read_true : BytesAreReadTrue
bytes_are_read_true n bytes size are = record {
  spelled = λ r read. let spells : Spells program_digest bytes r = (reading_is_exact program_digest sha256_is_digest n bytes r size are).0 read in spells.1;
}
