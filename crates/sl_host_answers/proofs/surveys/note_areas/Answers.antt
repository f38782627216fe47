use Rattle.sl_host_answers.proofs.SurveysStand.{spots_more}
use Rattle.sl_host_answers.proofs.surveys.note_areas.Goals as goal
use Rattle.sl_host_state.specs.KeptState.{LeaseState}
use Rattle.sl_trace.specs.declared.effects.Spot.{Spot}
use Rattle.sl_host.specs.Notes.{NotesState}
use Rattle.std.proofs.Common.{ap, ◌∙◌}
use Rattle.std.specs.Prelude.{List, [], map, take, ◌++◌, ◌∷◌}

pub loop-place-preserved : goal.loop-place-preserved
loop-place-preserved c =
    let front : List Spot = map (λ (k : LeaseState). k.spot) (take c.loop-place.place c.args.leases.now.leases) in
    let noted : List Spot → NotesState Spot = λ xs. record { items = xs; most = c.args.spots.now.most } in
    c.put.ensures
    ∙ (ap (λ (n : NotesState Spot). record n { items = n.items ++ c.spot.result ∷ [] }) c.loop-place.invariant
    ∙ (ap (λ (s : Spot). noted (front ++ s ∷ [])) c.spot.ensures
    ∙ ap noted (spots_more c.args.leases.now.leases c.loop-place.place c.nth.result.now c.nth.ensures)))
