-- What a read changes, part by part.
use Rattle.sl_host_state.specs.HeardInputs.{concludes_at, won_at, won_hearing}
use Rattle.sl_host_state.specs.KeptState.{LeaseState}
use Rattle.sl_host_state.specs.declared.kept_parts.TopNumber.{TopNumber}
use Rattle.sl_lease.specs.Changes.{name_told, read_told, settles_read, stop_told, top_told}
use Rattle.sl_lease.specs.declared.side.Side.{Side}
use Rattle.sl_trace.specs.declared.lease.Stop.{Stop}
use Rattle.sl_sector.specs.declared.sector.Block.{Block}
use Rattle.sl_sector.specs.declared.sector.Leader.{Leader}
use Rattle.sl_trace.specs.declared.effects.LeaseStep.{LeaseStep}
use Rattle.std.proofs.Common.{Bool, List, None, Option, ap, cond, ◌&&◌, ◌∙◌, ◌≡◌, ℕ}

pub read_told_is : (z : Side) (heeded : Bool) (step : LeaseStep) (d : Option Leader) (read : List (Option Block)) (l : LeaseState)
    (stop : Option (Option Stop)) (top : Option TopNumber) (name : List ℕ) (ballot won : Option ℕ)
    → stop ≡ stop_told l.own step read → top ≡ top_told step l.own read l.top → name ≡ name_told z step d l.name
    → ballot ≡ cond (heeded && concludes_at step stop) None l.ballot
    → won ≡ won_hearing (cond heeded (won_at z.me step l.own stop) None) (λ n. settles_read z.me step d read n) l.won
    → record l { top = top; name = name; ballot = ballot; won = won; waiting = None } ≡ read_told z heeded step d read l
read_told_is z heeded step d read l stop top name ballot won es et en eb ew =
    let made : Option TopNumber → List ℕ → Option ℕ → Option ℕ → LeaseState =
    λ t n b w. record l { top = t; name = n; ballot = b; won = w; waiting = None } in
    let told : Option (Option Stop) = stop_told l.own step read in
    ap (λ t. made t name ballot won) et ∙ ap (λ n. made (top_told step l.own read l.top) n ballot won) en
    ∙ ap (λ b. made (top_told step l.own read l.top) (name_told z step d l.name) b won) (eb ∙ ap (λ s. cond (heeded && concludes_at step s) None l.ballot) es)
    ∙ ap (λ w. made (top_told step l.own read l.top) (name_told z step d l.name) (cond (heeded && concludes_at step told) None l.ballot) w)
    (ew ∙ ap (λ s. won_hearing (cond heeded (won_at z.me step l.own s) None) (λ n. settles_read z.me step d read n) l.won) es)
