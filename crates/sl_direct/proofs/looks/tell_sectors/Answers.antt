-- One more sector is told.
use Rattle.sl_direct.proofs.LookLaws.{one_told}
use Rattle.sl_direct.proofs.looks.tell_sectors.Goals as goal
use Rattle.std.proofs.Common.{ap, rules, ℕ, ◌*◌, ◌+◌, ◌≡◌}
use Rattle.std.proofs.KnownBytes.{Keeps-trans}

pub loop-number-preserved : goal.loop-number-preserved
loop-number-preserved g c =
    let size : c.from-sector.result ≡ c.args.geometry.sector = search rules in
    record {
      told = one_told _ _ c.args.geometry.sector c.args.offset c.loop-number.number _ _ _ c.loop-number.invariant.kept
          (ap (λ (n : ℕ). c.args.offset + n * c.loop-number.number) size) c.loop-number.invariant.told c.in_ok-tell_sector.ensures.ok;
      kept = Keeps-trans _ _ _ c.loop-number.invariant.kept c.in_ok-tell_sector.ensures.kept;
      later = search rules;
    }
