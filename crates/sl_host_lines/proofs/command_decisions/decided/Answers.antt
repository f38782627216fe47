use Rattle.sl_host_lines.proofs.CommandsDecided.{acquire_decided, add_decided, convert_decided, get_decided, inquiry_decided, killpath_decided, leave_decided, release_decided, release_orphan_decided, request_decided, run_decided, set_decided, states_decided, status_decided, take_over_decided}
use Rattle.sl_host_lines.proofs.command_decisions.decided.Goals as goal

pub returns-in-AddLockspace : goal.returns-in-AddLockspace
returns-in-AddLockspace c = add_decided _ _ _ _ c.in-AddLockspace.is c.decide_add.ensures

pub returns-in-RemLockspace : goal.returns-in-RemLockspace
returns-in-RemLockspace c = leave_decided _ _ _ _ c.in-RemLockspace.is c.decide_leave.ensures

pub returns-in-InqLockspace : goal.returns-in-InqLockspace
returns-in-InqLockspace c = inquiry_decided _ _ _ _ c.in-InqLockspace.is c.decide_inquiry.ensures

pub returns-in-HostStatus : goal.returns-in-HostStatus
returns-in-HostStatus c = states_decided _ _ _ _ c.in-HostStatus.is c.decide_states.ensures

pub returns-in-Acquire : goal.returns-in-Acquire
returns-in-Acquire c = acquire_decided _ _ _ _ _ _ _ c.in-Acquire.is c.decide_acquire.ensures

pub returns-in-TakeOver : goal.returns-in-TakeOver
returns-in-TakeOver c = take_over_decided _ _ _ _ _ _ _ c.in-TakeOver.is c.decide_take_over.ensures

pub returns-in-Release : goal.returns-in-Release
returns-in-Release c = release_decided _ _ _ _ _ c.in-Release.is c.decide_release.ensures

pub returns-in-ReleaseOrphan : goal.returns-in-ReleaseOrphan
returns-in-ReleaseOrphan c = release_orphan_decided _ _ _ _ c.in-ReleaseOrphan.is c.decide_release_orphan.ensures

pub returns-in-RunProgram : goal.returns-in-RunProgram
returns-in-RunProgram c = run_decided _ _ _ _ _ _ c.in-RunProgram.is c.decide_acquire-in-RunProgram.ensures

pub returns-in-Request : goal.returns-in-Request
returns-in-Request c = request_decided _ _ _ _ _ _ c.in-Request.is c.decide_request.ensures

pub returns-in-GetLvb : goal.returns-in-GetLvb
returns-in-GetLvb c = get_decided _ _ _ _ _ c.in-GetLvb.is c.decide_get.ensures

pub returns-in-SetLvb : goal.returns-in-SetLvb
returns-in-SetLvb c = set_decided _ _ _ _ _ _ c.in-SetLvb.is c.decide_set.ensures

pub returns-in-SetKillpath : goal.returns-in-SetKillpath
returns-in-SetKillpath c = killpath_decided _ _ _ _ _ c.in-SetKillpath.is c.decide_killpath.ensures

pub returns-in-Status : goal.returns-in-Status
returns-in-Status c = status_decided _ _ _ c.in-Status.is c.decide_status.ensures

pub returns-in-Convert : goal.returns-in-Convert
returns-in-Convert c = convert_decided _ _ _ _ _ _ _ c.in-Convert.is c.mode_of.ensures c.decide_convert.ensures
