use Rattle.sl_machine.proofs.FlightChanges.{closed_is, grown_keeps, none_with, same_with, sampled_are}
use Rattle.sl_machine.proofs.FlightLaws.{found_of}
use Rattle.sl_machine.proofs.flights.Flights.sample.Goals as goal
use Rattle.sl_machine.specs.Flights.{grown_flight}
use Rattle.std.proofs.Common.{flat_map, refl, sym, ◌∙◌}
use Rattle.std.specs.Arc.{arc_value}

pub sample_at-requires-clause-left : goal.sample_at-requires-clause-left
sample_at-requires-clause-left c =
    λ f there. c.requires f (found_of c.args.self.now.next c.in-Some.index c.args.number c.args.self.now.items.items c.args.self.now.kept.fall c.in-Some.ensures.found f there)

pub invariant_of-self : goal.invariant_of-self
invariant_of-self c =
    let s = c.in-Some.ensures.found in
    let bytes = flat_map (λ m. arc_value m) c.args.more.items in
    record {
      kept = sampled_are _ _ _ _ _ _ (grown_flight bytes c.args.sectors) _ c.args.self.now.kept s (grown_keeps bytes c.args.sectors)
          (c.sample_at.ensures.items s.flight s.there) c.sample_at.ensures.err;
    }

pub returns-in_ok-sample_at-clause-items : goal.returns-in_ok-sample_at-clause-items
returns-in_ok-sample_at-clause-items c =
    let s = c.in-Some.ensures.found in
    let bytes = flat_map (λ m. arc_value m) c.args.more.items in
    λ g same.
    closed_is _ _ _ _ _ _ (grown_flight bytes c.args.sectors) c.args.self.now.kept s (c.in_ok-sample_at.ensures.items s.flight s.there)
    ∙ same_with c.args.self.now.next c.args.number c.args.self.now.ordered (grown_flight bytes c.args.sectors) g c.args.self.now.items.items c.args.self.now.kept
    (λ x there. sym (same x there))

pub returns-in_default-clause-items : goal.returns-in_default-clause-items
returns-in_default-clause-items c =
    λ g same. sym (none_with c.args.number g c.args.self.now.items.items (c.in_default.ensures.none refl) c.args.self.now.kept.open_)
