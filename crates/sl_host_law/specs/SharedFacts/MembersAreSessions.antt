-- Who the members of a host are.
use Rattle.sl_host_state.specs.KeptState.{HostState, MemberState}
use Rattle.sl_host_state.specs.HostStands.{Keeps}
use Rattle.sl_trace.specs.Sessions.{is_present, session_numbered}
use Rattle.sl_trace.specs.Traces.{Setting, Trace}
use Rattle.std.specs.Prelude.{Some, slice_get, true, ℕ, ◌≡◌}

-- A member is a session of the trace, and is present.
abbrev pub MembersAreSessions : Type 0
MembersAreSessions =
    (h : HostState) (st : Setting) (es : Trace) (k : ℕ) (m : MemberState) → Keeps h st es → slice_get h.members k ≡ Some m
    → (session_numbered st es m.who.number ≡ Some m.who) × (is_present es m.who ≡ true)

-- A number names at most one member.
abbrev pub NumbersAreApart : Type 0
NumbersAreApart =
    (h : HostState) (st : Setting) (es : Trace) (j k : ℕ) (a b : MemberState) → Keeps h st es → slice_get h.members j ≡ Some a → slice_get h.members k ≡ Some b
    → a.who.number ≡ b.who.number → j ≡ k
