use Rattle.sl_host.proofs.new_host.seat_all.Given as goal
use Rattle.sl_host.specs.NewHosts.{members_given}
use Rattle.sl_host.specs.MemberRun.{run_in}
use Rattle.std.proofs.Common.{take, ◌≡◌}

-- those before this place are seated
abbrev pub invariant-loop-place : goal.invariant-loop-place
invariant-loop-place l =
    (l.members.members ≡ members_given (run_in l.config) (take l.place l.given)) × (l.members.run ≡ l.fn.members.run) × (l.members.most ≡ l.fn.members.most)
