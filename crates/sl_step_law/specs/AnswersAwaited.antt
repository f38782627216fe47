-- An answer at its input: the member that made the call waits for it, and of its leases the one on the call's area alone.
use Rattle.sl_due.specs.Steps.{Step}
use Rattle.sl_host_law.specs.Replies.Answers.{IsOpen}
use Rattle.sl_host_state.specs.KeptState.{HostState, LeaseState, MemberState}
use Rattle.sl_host_state.specs.MadeEffects.{is_lease_on}
use Rattle.sl_host_state.specs.declared.kept_parts.LeaseCall.{LeaseCall}
use Rattle.sl_host_state.specs.declared.kept_parts.OpenCall.{OpenCall}
use Rattle.sl_lease.specs.Laws.{IsReadCall}
use Rattle.sl_trace.specs.Leases.{is_second, lease_step}
use Rattle.sl_member.specs.Laws.{IsAwaited, IsWaitingFor, area_of_call}
use Rattle.sl_step_law.specs.ReadyHosts.{IsReady}
use Rattle.std.specs.Prelude.{Contains, IsTrue, Some, find, is_some, true, ℕ, ◌==◌, ◌≡◌}

-- The call of this number is open, and the member's.
pub record IsMembersCall (h : HostState) (number : ℕ) (c : OpenCall) (m : MemberState) : Type 0 where
  pub is_open : IsOpen h number c
  pub there : Contains h.members m
  pub its : (c.session == m.who.number) ≡ true

-- The lease on the call's area waits for it. By a read nothing is freed, no mode cleared and no turn written; where it is made once more,
-- something is kept of the first one.
pub record IsLeasesCall (h : HostState) (c : OpenCall) (m : MemberState) : Type 0 where
  pub lease : LeaseState
  pub call : LeaseCall
  pub found : find (is_lease_on (area_of_call h.config.layout c)) m.leases ≡ Some lease
  pub waits : IsWaitingFor c call lease
  pub reads : is_some c.sectors ≡ true → IsReadCall call
  pub again : is_second call.step ≡ lease.pair.again
  pub second : lease.pair.again ≡ true → IsTrue (is_some lease.pair.first)

pub record AnswersAreAwaited : Type 0 where
  pub awaited : (h : HostState) (x : Step) (number : ℕ) (c : OpenCall) (m : MemberState) → IsReady h x → IsMembersCall h number c m → IsAwaited h c m
  pub leased : (h : HostState) (x : Step) (number : ℕ) (c : OpenCall) (m : MemberState) → IsReady h x → IsMembersCall h number c m
      → is_some (lease_step c.purpose) ≡ true → IsLeasesCall h c m
