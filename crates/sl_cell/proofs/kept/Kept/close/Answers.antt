use Rattle.sl_cell.proofs.Counts.{on_ok, torn_of}
use Rattle.sl_cell.proofs.RestLaws.{all_out}
use Rattle.sl_cell.proofs.kept.Kept.close.Goals as goal
use Rattle.sl_cell.specs.Cells.{KeptState}
use Rattle.std.proofs.Common.{[], ap, length, sym, ◌∙◌, ◌≡◌}

pub returns-then-is_torn-clause-differ : goal.returns-then-is_torn-clause-differ
returns-then-is_torn-clause-differ g c =
    let h = c.end-all.ensures.history ∙ ap (λ (k : KeptState). k.history) c.self.view_is in
    let whole = c.end-all.ensures.whole ∙ ap (λ (k : KeptState). k.whole) c.self.view_is in (
      c.len.ensures ∙ ap length h,
      torn_of c.args.self c.end-all.result.1 c.end-all.result.0 c.self.inside.handed c.args.mine.now whole h (ap (λ (k : KeptState). k.handed) c.self.view_is)
          (c.is_torn.ensures.torn c.if-is_torn.true),
    )

pub returns-clause-whole : goal.returns-clause-whole
returns-clause-whole g c =
    let t = c.is_torn.ensures.whole c.if-is_torn.false in
    let out = all_out g.J.Station.setting c.self.inside.lead.history c.self.inside.handed c.args.mine.now c.end-all.result.0 c.self.inside.rest c.self.invariant c.end-all.ensures.history t.1 t.2 in
    on_ok c.check_seats.result ((c.args.self.history ≡ c.args.mine.now) × (c.args.self.waiting ≡ []))
    (sym (ap (λ (k : KeptState). k.history) c.self.view_is) ∙ out.0, sym (ap (λ (k : KeptState). k.waiting) c.self.view_is) ∙ out.1)
