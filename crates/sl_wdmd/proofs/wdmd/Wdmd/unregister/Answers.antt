use Rattle.sl_trace.specs.WatchdogConnections.{Connection}
use Rattle.sl_wdmd.proofs.KeptLaws.{unregistered}
use Rattle.sl_wdmd.proofs.wdmd.Wdmd.unregister.Goals as goal
use Rattle.sl_wdmd.specs.KeptConnections.{WdmdState, all_connections}
use Rattle.sl_wdmd.specs.Moves.{others}
use Rattle.std.proofs.Common.{List, ap, ap₂, bytes_eq, ℕ, ◌∙◌}
use Rattle.std.specs.Map.{remove_entry}

pub returns : goal.returns
returns c =
    let es = c.self.inside.expiries.entries in
    let behind = c.self.inside.behind.items in
    let name = c.args.name in
    let made : List Connection → ℕ → WdmdState = λ cs n. record { connections = cs; room = n } in
    ap₂ made
    (ap₂ all_connections (c.take_out.ensures.entries ∙ ap (λ k. remove_entry (bytes_eq k) es) c.named.ensures) c.remove.ensures.items
    ∙ unregistered es behind name c.self.invariant.0 ∙ ap (λ (w : WdmdState). others name w.connections) c.self.view_is)
    (ap (λ (w : WdmdState). w.room) c.self.view_is)
