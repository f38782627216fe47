-- The five tests are the definition of reading, which is exact for SHA-256.
use Rattle.sha2.specs.Sha256.{sha256}
use Rattle.sl_sector.proofs.PublicLaws.{is_spelled, is_torn, spelled_again}
use Rattle.sl_sector.proofs.WrittenBytes.{sha256_is_digest}
use Rattle.sl_sector.proofs.decoding.decode.Goals as goal
use Rattle.std.proofs.Common.{arith, ◌∙◌}

pub returns-clause-found : goal.returns-clause-found
returns-clause-found c = is_spelled sha256 c.args.sector.now c.tested.result (λ i. omega (arith, c.type_inv.sector i)) c.requires c.tested.ensures

pub returns-clause-only : goal.returns-clause-only
returns-clause-only c = λ r s. c.tested.ensures ∙ spelled_again sha256 sha256_is_digest c.args.sector.now r c.requires s

pub returns-clause-torn : goal.returns-clause-torn
returns-clause-torn c = is_torn sha256 sha256_is_digest c.args.sector.now c.tested.result c.requires c.tested.ensures
