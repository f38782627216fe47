use Rattle.std.proofs.Common.{take}
use Rattle.sl_text.proofs.NameLaws.{name_is_text}
use Rattle.sl_text.proofs.short.Name.as_str.Goals as goal

pub unreachable-requires : goal.unreachable-requires
unreachable-requires c = c.in-Err.ensures.cases.0 (name_is_text (take c.self.inside.len c.self.inside.bytes) c.self.invariant.text)
