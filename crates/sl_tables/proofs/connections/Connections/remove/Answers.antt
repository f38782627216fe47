use Rattle.sl_tables.proofs.connections.Connections.remove.Goals as goal
use Rattle.sl_tables.specs.Connections.{ConnectionsState}
use Rattle.std.proofs.Common.{List, ap, bytes_eq, filter, not, rules, ℕ, ◌∙◌, ◌≡◌}
use Rattle.std.proofs.lemmas.Fn.{filter_same}

named : (names : List (List ℕ)) (room : ℕ) (s : ConnectionsState) (n : List ℕ) → names ≡ filter (λ m. not (bytes_eq m n)) s.names → room ≡ s.room
    → record { names = names; room = room } ≡ record s { names = filter (λ m. not (bytes_eq m n)) s.names }
named names room s n h r = λ i. record { names = h i; room = r i }

pub returns : goal.returns
returns c =
    named c.retain.new.self.items c.self.inside.room c.args.self.now c.args.name.now
    (filter_same _ _ _ (λ x b f' k. search rules) _ _ c.retain.ensures.filtered ∙ ap (λ v. filter (λ m. not (bytes_eq m c.args.name.now)) v.names) c.self.view_is) (ap (λ v. v.room) c.self.view_is)
