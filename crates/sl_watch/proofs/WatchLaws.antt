-- A watch stands for what it saw.
use Rattle.sl_area.specs.AreaSizes.{layout_of, program_digest}
use Rattle.sl_sector.specs.SectorLayouts.{decoded, spelling, delta_in}
use Rattle.sl_sector.specs.declared.sector.Bad.{Bad}
use Rattle.sl_sector.specs.declared.sector.DeltaRec.{DeltaRec}
use Rattle.sl_sector.specs.declared.sector.Rec.TheVariants.{BlockIs, DeltaIs, LeaderIs, PairIs, PairLeaderIs, RequestIs, ValueIs}
use Rattle.sl_sector.specs.declared.sector.Rec.{Rec}
use Rattle.sl_trace.specs.declared.sighting.Sighting.{Sighting}
use Rattle.sl_watch.proofs.SummaryLaws.{summary_more}
use Rattle.sl_watch.specs.SeenLooks.{Seen, seen_at, seen_with, sightings_of, spelled_for}
use Rattle.sl_watch.specs.Summaries.{IsKept, IsSeen, IsSpelledBy, Summary, nothing_seen, summary_of, summary_with}
use Rattle.sl_watch.specs.Watches.{IsReadTrue, StandsFor, WatchStands, Watched, kept_at}
use Rattle.sl_watch.specs.declared.summary.Summary.{Summary as Kept}
use Rattle.sl_words.specs.Words.{choose}
use Rattle.std.proofs.Common.{Bool, Err, List, Ok, Option, Result, ap, arith, eq-eqb, false, length, option_and_then, refl, slice_index_or, slice_set, subst, sym, true, ℕ, ◌-◌, ◌==◌, ◌∙◌, ◌∷◌, ◌≡◌, ◌≤◌}
use Rattle.std.proofs.lemmas.Bool.Decides.{nat_tests}
use Rattle.std.proofs.lemmas.Bool.{eqb-true}
use Rattle.std.proofs.lemmas.List.{get_or-set_other, get_or-set_same}
use Rattle.std.specs.List.{cons_option}

-- The record of the id that a sector spells is spelled by it.
found_is : (id size : ℕ) (bytes : List ℕ) (found : Result Rec Bad) → decoded program_digest bytes ≡ found → length bytes ≡ size → IsReadTrue bytes
    → IsSeen size bytes (option_and_then (λ d. choose (d.id == id) d) (delta_in found))
found_is id size bytes (Ok (DeltaIs d)) e long true_read =
    chosen (d.id == id) (record { read = e; spelled = true_read.spelled (DeltaIs d) e ∙ ap (λ n. spelling program_digest n (DeltaIs d)) long })
  where
    chosen : (b : Bool) → IsSpelledBy size bytes d → IsSeen size bytes (choose b d)
    chosen true is = is
    chosen false is = tt
found_is id size bytes (Ok (LeaderIs l)) e long true_read = tt
found_is id size bytes (Ok (BlockIs b)) e long true_read = tt
found_is id size bytes (Ok (PairIs p)) e long true_read = tt
found_is id size bytes (Ok (PairLeaderIs l)) e long true_read = tt
found_is id size bytes (Ok (RequestIs r)) e long true_read = tt
found_is id size bytes (Ok (ValueIs v)) e long true_read = tt
found_is id size bytes (Err bad) e long true_read = tt

-- What is kept of an id goes on with this sighting.
abbrev pub Adds : Watched → ℕ → Sighting → Option DeltaRec → Kept → Type 0
Adds w id s d k = (m : Summary) → IsKept w.sizes.sector (kept_at w id) m → IsSeen w.sizes.sector s.bytes d → IsKept w.sizes.sector k (summary_with m s d)

apart : (j id : ℕ) → 1 ≤ j → 1 ≤ id → (j == id) ≡ false → j - 1 ≡ id - 1 → ⊥
apart j id one two other e = let same : j ≡ id = omega (arith, e, one, two) in true_false (j == id) (eq-eqb j id same) other
  where
    true_false : (b : Bool) → b ≡ true → b ≡ false → ⊥
    true_false b t f = absurd cc

pub told_stands : (w : Watched) (seen : ℕ → List Sighting) (id : ℕ) (s : Sighting) (found : Result Rec Bad) (k : Kept) → WatchStands w seen → 1 ≤ id → id ≤ w.sizes.hosts
    → length w.ids ≡ w.sizes.hosts → found ≡ decoded program_digest s.bytes → length s.bytes ≡ w.sizes.sector → IsReadTrue s.bytes
    → Adds w id s (spelled_for id s.bytes) k → WatchStands (record w { ids = slice_set w.ids (id - 1) k }) (seen_with id s seen)
told_stands w seen id s found k stands one most count is long true_read adds = record { each = λ j at_least at_most. here j at_least at_most (j == id) refl }
  where
    added : IsKept w.sizes.sector k (summary_of (layout_of w.sizes) id (s ∷ seen id))
    added =
        subst (λ m. IsKept w.sizes.sector k m) (summary_more (layout_of w.sizes) id (seen id) s)
        (adds (summary_of (layout_of w.sizes) id (seen id)) (stands.each id one most)
        (found_is id w.sizes.sector s.bytes (decoded program_digest s.bytes) refl long true_read))

    here : (j : ℕ) → 1 ≤ j → j ≤ w.sizes.hosts → (b : Bool) → (j == id) ≡ b
        → IsKept w.sizes.sector (slice_index_or (slice_set w.ids (id - 1) k) (j - 1) nothing_seen) (summary_of (layout_of w.sizes) j (elim b [ true ↦ s ∷ seen j | false ↦ seen j ]))
    here j at_least at_most true e =
        let same : id ≡ j = sym (eqb-true j id e) in
        let at : IsKept w.sizes.sector (slice_index_or (slice_set w.ids (id - 1) k) (id - 1) nothing_seen) (summary_of (layout_of w.sizes) id (s ∷ seen id)) =
        subst (λ x. IsKept w.sizes.sector x (summary_of (layout_of w.sizes) id (s ∷ seen id))) (sym (get_or-set_same w.ids (id - 1) k nothing_seen (omega (arith, one, most, count)))) added in
        subst (λ x. IsKept w.sizes.sector (slice_index_or (slice_set w.ids (id - 1) k) (x - 1) nothing_seen) (summary_of (layout_of w.sizes) x (s ∷ seen x))) same at
    here j at_least at_most false e =
        subst (λ x. IsKept w.sizes.sector x (summary_of (layout_of w.sizes) j (seen j)))
        (sym (get_or-set_other w.ids (id - 1) (j - 1) k nothing_seen (apart j id at_least one e))) (stands.each j at_least at_most)

-- A list of looks with one more.
look_more : (j id : ℕ) (s : Sighting) (looks : List Seen) → seen_with id s (λ x. sightings_of x looks) j ≡ sightings_of j (record { id = id; sighting = s } ∷ looks)
look_more j id s looks = by (j == id) (id == j) (same_test j id)
  where
    by : (a b : Bool) → a ≡ b → (elim a [ true ↦ s ∷ sightings_of j looks | false ↦ sightings_of j looks ]) ≡ cons_option (choose b s) (sightings_of j looks)
    by true true e = refl
    by false false e = refl
    by true false e = absurd cc
    by false true e = absurd cc

    same_test : (j id : ℕ) → (j == id) ≡ (id == j)
    same_test j id = grind (arith, nat_tests)

pub looks_stand : (w : Watched) (id before after : ℕ) (bytes : List ℕ) (looks : List Seen)
    → WatchStands w (seen_with id (record { before = before; after = after; bytes = bytes }) (λ x. sightings_of x looks)) → StandsFor w (seen_at id before after bytes ∷ looks)
looks_stand w id before after bytes looks stands = record {
  each = λ j one most. subst (λ ss. IsKept w.sizes.sector (kept_at w j) (summary_of (layout_of w.sizes) j ss))
      (look_more j id (record { before = before; after = after; bytes = bytes }) looks) (stands.each j one most);
}
