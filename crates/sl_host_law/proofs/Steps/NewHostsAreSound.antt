-- A new host is sound: nobody leaves, no job joins, and no call is open.
use Rattle.sl_host_law.proofs.SharedFacts.PlainOrders.{ordered_inside}
use Rattle.sl_host_state.specs.KeptState.{MemberState}
use Rattle.sl_host_state.specs.NewHost.{given_sessions, new_host, new_member}
use Rattle.sl_host_state.specs.Passes.{whos}
use Rattle.sl_host_state.specs.HostStands.{config_of}
use Rattle.sl_host_law.specs.Steps.NewHosts.{NewHostsAreSound}
use Rattle.sl_words.proofs.Lists.{contains_none, in_map}
use Rattle.sl_trace.specs.Sessions.{given_session}
use Rattle.sl_trace.specs.declared.session.Session.{Session}
use Rattle.sl_trace.specs.Traces.{Setting}
use Rattle.sl_words.proofs.CaseLaws.{none_some}
use Rattle.sl_words.specs.Orders.{is_text_before}
use Rattle.std.proofs.Common.{ap, subst, sym, ◌∙◌}
use Rattle.std.specs.List.{enumerate_from}
use Rattle.std.specs.Prelude.{Contains, None, map, ◌≡◌}

-- A member is a session that is given, and leaves for no job.
was_given : (st : Setting) (m : MemberState) → Contains (new_host st).members m → Contains (given_sessions st) m.who × (m.known.leaving ≡ None)
was_given st m there =
    let s = in_map (new_member (config_of st)) (given_sessions st) m there in
    (subst (Contains (given_sessions st)) (ap (λ (z : MemberState). z.who) s.2) s.1, sym (ap (λ (z : MemberState). z.known.leaving) s.2))

-- No job joined it.
no_job : (st : Setting) (s : Session) → Contains (given_sessions st) s → s.job ≡ None
no_job st s there =
    let g = in_map given_session (enumerate_from 0 st.given) s (ordered_inside (λ (a b : Session). is_text_before a.lockspace b.lockspace) (map given_session (enumerate_from 0 st.given)) s there) in
    sym (ap (λ (z : Session). z.job) g.2)

from_whos : (st : Setting) (s : Session) → Contains (whos (new_host st)) s → Contains (given_sessions st) s
from_whos st s there =
    let m = in_map (λ (m : MemberState). m.who) (new_host st).members s there in subst (Contains (given_sessions st)) m.2 (was_given st m.0 m.1).0

pub new_hosts_are_sound : NewHostsAreSound
new_hosts_are_sound st fit =
    record {
      names = λ s t a b. fit.names s t (from_whos st s a) (from_whos st t b);
      leavings = record {
        calls = λ m c j there inside leaves of. absurd (contains_none c inside);
        apart = λ m n j a b is it. absurd (none_some j (sym (was_given st m a).1 ∙ is));
        others = λ m n j a b is it. absurd (none_some j (sym (was_given st n b).1 ∙ it));
      };
      joinings = record {
        calls = λ m c j there inside is of. absurd (contains_none c inside);
        apart = λ m n j a b is it. absurd (none_some j (sym (no_job st m.who (was_given st m a).0) ∙ is));
      };
      laid = record { program = fit.program; geometry = fit.geometry; ids = λ s there. fit.ids s (from_whos st s there); joins = fit.joins };
    }
