-- A run of sightings: its first and its last spell the same record, and its times are theirs.
use Rattle.sl_area.specs.AreaSizes.{Layout, record_in}
use Rattle.sl_run_law.proofs.Place.FoundInLists.{same_text}
use Rattle.sl_words.proofs.Lists.{contains_first, contains_more}
use Rattle.sl_words.proofs.Options.{mapped_value}
use Rattle.sl_sector.specs.SectorLayouts.{delta_in}
use Rattle.sl_sector.specs.declared.sector.DeltaRec.{DeltaRec}
use Rattle.sl_trace.specs.Sightings.{current_run, has_seen, new_run, run_with, sighted}
use Rattle.sl_trace.specs.declared.sighting.Run.{Run}
use Rattle.sl_trace.specs.declared.sighting.Sighting.{Sighting}
use Rattle.sl_words.proofs.CaseLaws.{none_some}
use Rattle.sl_words.specs.Words.{choose}
use Rattle.std.proofs.Common.{ap, refl, subst, sym, ◌∙◌}
use Rattle.std.specs.Prelude.{Bool, Contains, List, None, Option, Some, [], bytes_eq, false, option_and_then, true, ℕ, ◌==◌, ◌∷◌, ◌≡◌}

-- The two sightings at the ends of a run.
pub record RunEnds (g : Layout) (j : ℕ) (ss : List Sighting) (r : Run) : Type 0 where
  pub first : Sighting
  pub begins : Contains ss first
  pub begun : sighted g j first ≡ Some r.spelled
  pub bytes : first.bytes ≡ r.bytes
  pub since : first.after ≡ r.since
  pub last : Sighting
  pub ends : Contains ss last
  pub ended : sighted g j last ≡ Some r.spelled
  pub latest : last.before ≡ r.latest

-- Equal bytes spell equal records.
sighted_same : (g : Layout) (j : ℕ) (x y : Sighting) → x.bytes ≡ y.bytes → sighted g j x ≡ sighted g j y
sighted_same g j x y same = ap (λ bs. option_and_then (λ (d : DeltaRec). choose (d.id == j) d) (delta_in (record_in g bs))) same

one_sighting : (g : Layout) (j : ℕ) (s : Sighting) (ss : List Sighting) (d : DeltaRec) (changed : Bool) → sighted g j s ≡ Some d → RunEnds g j (s ∷ ss) (new_run s d changed)
one_sighting g j s ss d changed is =
    record {
      first = s;
      begins = contains_first s ss;
      begun = is;
      bytes = refl;
      since = refl;
      last = s;
      ends = contains_first s ss;
      ended = is;
      latest = refl;
    }

goes_on_by : (g : Layout) (j : ℕ) (s : Sighting) (ss : List Sighting) (d : DeltaRec) (changed : Bool) (q : Run) → sighted g j s ≡ Some d → RunEnds g j ss q
    → (b : Bool) → bytes_eq q.bytes s.bytes ≡ b → RunEnds g j (s ∷ ss) (elim b as (λ z. Run) [ true ↦ record q { latest = s.before } | false ↦ new_run s d changed ])
goes_on_by g j s ss d changed q is e true same =
    record {
      first = e.first;
      begins = contains_more s ss e.first e.begins;
      begun = e.begun;
      bytes = e.bytes;
      since = e.since;
      last = s;
      ends = contains_first s ss;
      ended = sighted_same g j s e.first (sym (e.bytes ∙ same_text q.bytes s.bytes same)) ∙ e.begun;
      latest = refl;
    }
goes_on_by g j s ss d changed q is e false same = one_sighting g j s ss d changed is

ends_by : (g : Layout) (j : ℕ) (s : Sighting) (ss : List Sighting) (d : DeltaRec) → sighted g j s ≡ Some d → ((q : Run) → current_run g j ss ≡ Some q → RunEnds g j ss q)
    → (o : Option Run) → current_run g j ss ≡ o → RunEnds g j (s ∷ ss) (run_with o s d (has_seen ss))
ends_by g j s ss d is before None at = one_sighting g j s ss d (has_seen ss) is
ends_by g j s ss d is before (Some q) at = goes_on_by g j s ss d (has_seen ss) q is (before q at) (bytes_eq q.bytes s.bytes) refl

pub run_ends : (g : Layout) (j : ℕ) (ss : List Sighting) (r : Run) → current_run g j ss ≡ Some r → RunEnds g j ss r
run_ends g j [] r is = absurd (none_some r is)
run_ends g j (s ∷ ss) r is =
    let d = mapped_value (λ d. run_with (current_run g j ss) s d (has_seen ss)) (sighted g j s) r is in
    subst (λ x. RunEnds g j (s ∷ ss) x) d.2 (ends_by g j s ss d.0 d.1 (run_ends g j ss) (current_run g j ss) refl)
