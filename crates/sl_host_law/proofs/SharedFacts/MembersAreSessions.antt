-- A member of a host is a session of its trace, present, and no other member has its number.
use Rattle.sl_host_law.proofs.SharedFacts.PlainLists.{mapped_at}
use Rattle.sl_host_law.proofs.SharedFacts.PlainOrders.{AreApart, apart_filtered, one_place, order_apart, ordered_inside}
use Rattle.sl_host_law.proofs.SharedFacts.SessionNumbers.{found_by_number, sessions_apart}
use Rattle.sl_host_law.specs.SharedFacts.MembersAreSessions.{MembersAreSessions, NumbersAreApart}
use Rattle.sl_host_state.specs.KeptState.{HostState, MemberState}
use Rattle.sl_host_state.specs.HostStands.{Keeps}
use Rattle.sl_words.proofs.Lists.{got_inside, kept_inside}
use Rattle.sl_trace.specs.Sessions.{is_present, present_sessions, sessions}
use Rattle.sl_trace.specs.declared.session.Session.{Session}
use Rattle.sl_trace.specs.Traces.{Setting, Trace}
use Rattle.sl_words.specs.Orders.{is_text_before}
use Rattle.std.proofs.Common.{ap, ◌∙◌}
use Rattle.std.specs.Prelude.{Contains, Some, filter, slice_get, true, ℕ, ◌≡◌}

-- Where a member stands its session stands among those that are present.
pub member_at : (h : HostState) (st : Setting) (es : Trace) (k : ℕ) (m : MemberState) → Keeps h st es → slice_get h.members k ≡ Some m
    → slice_get (present_sessions st es) k ≡ Some m.who
member_at h st es k m keeps there = ap (λ ss. slice_get ss k) keeps.present ∙ mapped_at (λ (n : MemberState). n.who) h.members k m there

-- A session that is present is one of the trace's.
pub present_inside : (st : Setting) (es : Trace) (s : Session) → Contains (present_sessions st es) s → Contains (sessions st es) s × (is_present es s ≡ true)
present_inside st es s there =
    kept_inside (is_present es) (sessions st es) s (ordered_inside (λ (a b : Session). is_text_before a.lockspace b.lockspace) (filter (is_present es) (sessions st es)) s there)

pub member_inside : (h : HostState) (st : Setting) (es : Trace) (k : ℕ) (m : MemberState) → Keeps h st es → slice_get h.members k ≡ Some m
    → Contains (sessions st es) m.who × (is_present es m.who ≡ true)
member_inside h st es k m keeps there = present_inside st es m.who (got_inside (present_sessions st es) k m.who (member_at h st es k m keeps there))

pub members_are_sessions : MembersAreSessions
members_are_sessions h st es k m keeps there =
    let at = member_inside h st es k m keeps there in
    (found_by_number st es m.who at.0, at.1)

pub present_apart : (st : Setting) (es : Trace) → AreApart (λ s. s.number) (present_sessions st es)
present_apart st es =
    order_apart (λ (s : Session). s.number) (λ a b. is_text_before a.lockspace b.lockspace) (filter (is_present es) (sessions st es))
    (apart_filtered (λ (s : Session). s.number) (is_present es) (sessions st es) (sessions_apart st es))

pub numbers_are_apart : NumbersAreApart
numbers_are_apart h st es j k a b keeps at_j at_k same =
    one_place (λ (s : Session). s.number) (present_sessions st es) j k a.who b.who (present_apart st es) (member_at h st es j a keeps at_j) (member_at h st es k b keeps at_k) same
