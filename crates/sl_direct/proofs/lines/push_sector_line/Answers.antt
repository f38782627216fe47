-- The offset, a space, and what was found.
use Rattle.sha2.specs.Sha256.{sha256}
use Rattle.sl_direct.proofs.LineLaws.{joined_line}
use Rattle.sl_direct.proofs.lines.push_sector_line.Goals as goal
use Rattle.sl_direct.specs.Lines.{found_words}
use Rattle.sl_sector.specs.SectorLayouts.{decoded}
use Rattle.std.proofs.Common.{OnOk, [], rules, subst, ◌++◌, ◌∷◌, ◌≡◌}
use Rattle.std.specs.Fmt.{decimal}
use Rattle.std.specs.List.{join_with_byte}

pub returns-clause-ok : goal.returns-clause-ok
returns-clause-ok c =
    let front : c.into_bytes-line.result.items ≡ decimal c.args.at ++ 32 ∷ [] = search rules in
    let whole : c.deref.result.now ≡ c.into_bytes-line.result.items ++ join_with_byte 32 (found_words (decoded sha256 c.args.sector.now)) = search rules in
    subst (λ l. OnOk c.push_line.result (c.push_line.new.out.items ≡ c.args.out.now.items ++ l ++ 10 ∷ []))
    (joined_line (decimal c.args.at) c.into_bytes-line.result.items c.deref.result.now (decoded sha256 c.args.sector.now) front whole) c.push_line.ensures.ok
