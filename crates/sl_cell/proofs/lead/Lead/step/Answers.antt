use Rattle.sl_cell.proofs.LeadLaws.{has_numbers, lead_on}
use Rattle.sl_cell.proofs.lead.Lead.step.Goals as goal
use Rattle.sl_cell.specs.Leads.{IsMade}
use Rattle.sl_cell.specs.Histories.{Signed}
use Rattle.sl_trace.specs.declared.effects.Effects.{Effects}
use Rattle.std.proofs.Common.{List, [], ap, length, subst, sym, ◌++◌, ◌∙◌, ◌∷◌, ◌≤◌}

pub advanced-self-inside-requires : goal.advanced-self-inside-requires
advanced-self-inside-requires g c =
    let most = g.D.Daemon.makes c.args.self.now.daemon in
    let told = ap (λ (s : Signed). s.entry.effects) c.in_ok-signed.ensures.entry in
    let few = subst (λ m. length c.in_ok-signed.effects.calls ≤ m.calls) (ap (λ k. g.D.Daemon.makes k.daemon) c.self.view_is) c.in_ok-signed.ensures.few.calls in (
      most,
      length c.self.inside.front,
      has_numbers g.D.Daemon.stands g.J.Station.setting c.self.inside.daemon c.self.inside.whole c.self.inside.front c.self.inside.reading c.self.inside.next c.args.self.now most
          c.args.input c.self.invariant c.in_ok-admit.ensures.ready (sym (ap (λ k. k.history) c.self.view_is)),
      subst (λ (x : Effects). length x.calls ≤ most.calls) (sym told) few,
    )

pub invariant_of-self-2 : goal.invariant_of-self-2
invariant_of-self-2 g c =
    let st = g.J.Station.setting in
    let s = c.in_ok-signed.signed in
    let made = subst (λ (h : List Signed). IsMade g.D.Daemon.stands st c.make.new.daemon h s) c.again-front.ensures c.in_ok-signed.ensures.made in
    lead_on g.D.Daemon.stands st c.self.inside.daemon c.make.new.daemon c.self.inside.whole c.self.inside.front c.add.new.self s c.self.inside.reading
    c.max-reading.result c.self.inside.next c.advanced-self-inside.result c.self.invariant made
    (c.if-not-add.ensures ∙ ap (λ (h : List Signed). h ++ s ∷ []) c.again-front.ensures) (sym (ap (λ (x : Signed). x.entry.reading) c.in_ok-signed.ensures.entry))
    c.advanced-self-inside.ensures.calls c.advanced-self-inside.ensures.jobs
