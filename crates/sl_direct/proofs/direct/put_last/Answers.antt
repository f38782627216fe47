-- The sink failed in the last line.
use Rattle.sl_direct.proofs.ActLaws.{put_broke}
use Rattle.sl_direct.proofs.direct.put_last.Goals as goal
use Rattle.sl_direct.specs.Actions.{last_lines}
use Rattle.sl_direct.specs.Lines.{fault_line}
use Rattle.sl_text.specs.Forms.{as_bytes}
use Rattle.std.proofs.Common.{[], ap, ◌++◌, ◌∷◌}

pub returns-in-Err : goal.returns-in-Err
returns-in-Err g c =
    let front = c.in-Err.ensures.front in
    put_broke _ _ _ _ front.0 (fault_line ++ 10 ∷ []) (as_bytes (last_lines c.args.went)) c.args.went front.2 ([], ap (λ d. as_bytes (last_lines d)) c.in-AreaFault.is)
    c.in-Err.ensures.cause.failed c.in-Err.ensures.cause.later
