use Rattle.sl_area.specs.AreaSizes.{layout_of}
use Rattle.sl_trace.specs.Sightings.{evidence}
use Rattle.sl_trace.specs.declared.sighting.Sighting.{Sighting}
use Rattle.sl_watch.proofs.ReasonLaws.{evidence_if, evidence_names}
use Rattle.sl_watch.proofs.SummaryLaws.{evidence_read}
use Rattle.sl_watch.proofs.watch.Watch.over.Goals as goal
use Rattle.sl_watch.specs.Watches.{WatchStands, Watched}
use Rattle.std.proofs.Common.{List, ℕ, ◌∙◌, ◌≡◌}

pub returns : goal.returns
returns c =
    let w : Watched = c.args.self.now in
    let id : ℕ = c.args.id in
    let h : ℕ = c.args.generation in
    let exact : (seen : ℕ → List Sighting) → WatchStands w seen → c.evidence_kept.result ≡ evidence w.timing (layout_of w.sizes) id h (seen id) =
    λ seen stands. c.evidence_kept.ensures ∙ evidence_read w seen id h stands c.requires.0 c.requires.1 in
    record {
      kept = c.evidence_kept.ensures;
      exact = exact;
      some = λ seen stands. rw (exact seen stands) (evidence_if w.timing w.sizes id h (seen id));
      first = λ seen stands. rw (exact seen stands) (evidence_names w.timing w.sizes id h (seen id));
    }
