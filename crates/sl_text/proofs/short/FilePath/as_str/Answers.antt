use Rattle.std.proofs.Common.{take}
use Rattle.sl_text.proofs.NameLaws.{path_is_text}
use Rattle.sl_text.proofs.short.FilePath.as_str.Goals as goal

pub unreachable-requires : goal.unreachable-requires
unreachable-requires c = c.in-Err.ensures.cases.0 (path_is_text (take c.self.inside.len c.self.inside.bytes) c.self.invariant.text)
