-- How many effects a pass makes at most, by what is kept.
use Rattle.sl_host_state.specs.KeptState.{MemberState}
use Rattle.sl_host_work.specs.KilledMembers.{holders_of_all}
use Rattle.sl_member.specs.HostMembers.{AreApart}
use Rattle.sl_trace.specs.declared.effects.Grant.{Grant}
use Rattle.std.specs.Prelude.{List, length, map, ◌≤◌}

-- Members whose numbers are apart have no more holders together than there are holdings.
abbrev pub HoldersAreFew : Type 0
HoldersAreFew = (ms : List MemberState) (held : List Grant) → AreApart (map (λ m. m.who.number) ms) → holders_of_all ms held ≤ length held
