use Rattle.sl_area.specs.AreaSizes.{layout_of}
use Rattle.sl_member.proofs.Ranges.{none_more, one_asks}
use Rattle.sl_member.proofs.surveys.is_asked.Goals as goal
use Rattle.sl_member.specs.SeenSessions.{asks_by}
use Rattle.std.proofs.Common.{Bool, arith, false, subst, sym, ℕ, ◌≡◌}
use Rattle.std.specs.List.{list_any, range_with_len}

pub loop-skipped-preserved : goal.loop-skipped-preserved
loop-skipped-preserved g c =
    none_more (asks_by (layout_of c.args.geometry.now) c.args.id (g.S.Sectors.bytes c.args.sectors.now)) c.loop-skipped.skipped c.loop-skipped.invariant (sym c.if-asks.ensures)

pub returns-then-asks : goal.returns-then-asks
returns-then-asks g c =
    sym (one_asks (asks_by (layout_of c.args.geometry.now) c.args.id (g.S.Sectors.bytes c.args.sectors.now)) c.args.geometry.now.hosts c.loop-skipped.skipped
    (omega (arith, c.loop-skipped-test.true, c.hosts-skipped-end.ensures.exact)) (sym c.if-asks.ensures))

pub returns : goal.returns
returns g c =
    let p : ℕ → Bool = asks_by (layout_of c.args.geometry.now) c.args.id (g.S.Sectors.bytes c.args.sectors.now) in
    let all : c.loop-skipped.skipped ≡ c.args.geometry.now.hosts =
    omega (arith, c.loop-skipped-test.false, c.loop-skipped.auto.skipped-end, c.hosts-skipped-end.ensures.exact)
    in
    sym (subst (λ (n : ℕ). list_any p (range_with_len 1 n) ≡ false) all c.loop-skipped.invariant)
