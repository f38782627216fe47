use Rattle.sl_picture.proofs.kept.Picture.keep_sessions.Given as goal
use Rattle.sl_picture.specs.Kept.{with_session}
use Rattle.std.proofs.Common.{fold, take, ◌≡◌}

abbrev pub invariant-loop-session : goal.invariant-loop-session
invariant-loop-session l = l.self ≡ fold (with_session l.fail) l.fn.self (take l.session-index l.sessions)
