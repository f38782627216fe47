-- The last line stands behind the text, or the sink failed in one of them.
use Rattle.sl_direct.proofs.ActLaws.{put_behind, put_broke}
use Rattle.sl_direct.proofs.direct.put_out.Goals as goal
use Rattle.sl_direct.specs.Actions.{last_lines}
use Rattle.sl_text.specs.Forms.{as_bytes}
use Rattle.std.proofs.Common.{refl, ◌++◌}

pub returns-in-Ok : goal.returns-in-Ok
returns-in-Ok g c = put_behind _ _ _ _ _ _ c.args.text.now (as_bytes (last_lines c.args.went)) c.args.went _ c.in-Ok.ensures.all c.in-Ok.ensures.cause.later c.put_last.ensures

pub returns-in-Err : goal.returns-in-Err
returns-in-Err g c =
    let front = c.in-Err.ensures.front in
    put_broke _ _ _ _ front.0 c.args.text.now (c.args.text.now ++ as_bytes (last_lines c.args.went)) c.args.went front.2 (as_bytes (last_lines c.args.went), refl)
    c.in-Err.ensures.cause.failed c.in-Err.ensures.cause.later
