-- What is left is the piece that was copied and the rest; a piece of no byte is the end, since each call gives at least one.
use Rattle.std.proofs.Common.{ap, arith, drop, take, sym, ◌∙◌, ◌≡◌}
use Rattle.std.proofs.lemmas.Grind.{common_steps}
use Rattle.sl_io.proofs.PieceLaws.{piece_and_rest}
use Rattle.sl_io.proofs.mem_source.MemSourceSource.read.Goals as goal

pub returns-clause-bytes : goal.returns-clause-bytes
returns-clause-bytes c =
    let copied : take c.copy_front-n.result c.copy_front-n.new.buffer ≡ take c.copy_front-n.result (drop c.self.inside.at c.self.inside.bytes.items) =
    c.copy_front-n.ensures.copied ∙ ap (take c.copy_front-n.result) c.left.ensures in
    (sym (ap (λ s. s.left) c.self.view_is) ∙ piece_and_rest _ _ _ _ copied, λ none room. grind (arith, common_steps))
