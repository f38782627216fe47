-- A new host, before any step: its members are the sessions that its setting gives.
use Rattle.sl_area.specs.AreaSizes.{Layout, Sizes, layout_of}
use Rattle.sl_host_state.specs.KeptState.{Config, HostState, JoinState, MemberState}
use Rattle.sl_host_state.specs.HostStands.{HostStands, config_of}
use Rattle.sl_trace.specs.Sessions.{given_number, given_session}
use Rattle.sl_trace.specs.declared.session.Session.{Session}
use Rattle.sl_trace.specs.Traces.{Setting, last_reading, no_effects}
use Rattle.sl_watch.specs.ToldLooks.{blank_watch}
use Rattle.sl_words.specs.Orders.{in_order, is_text_before}
use Rattle.std.specs.List.{enumerate_from}
use Rattle.std.specs.Prelude.{List, None, false, is_none, length, map, replicate, [], ◌≡◌}

-- A joining that has read nothing.
abbrev pub new_joining : JoinState
new_joining = record { watched = None; since = None; claim = None; newest = None }

-- The sizes of a layout.
abbrev pub sizes_in : Layout → Sizes
sizes_in g = record { sector = g.sector; area = g.area; hosts = g.hosts; paired = g.paired }

-- The layout is one of the program.
abbrev pub IsOfProgram : Layout → Type 0
IsOfProgram g = layout_of (sizes_in g) ≡ g

-- A session without a call: one that is given is joined, under generation 1.
abbrev pub new_member : Config → Session → MemberState
new_member c s =
    record {
      who = s;
      joined = is_none s.job;
      refused = false;
      known =
          record {
            generation = given_number s;
            seq = given_number s;
            renewed = s.renewed;
            busy = false;
            recovering = false;
            leaving = None;
            freed = false;
          };
      joining = new_joining;
      renewing = record { last = s.renewed; recovery = None };
      leaving = None;
      asked = replicate c.layout.hosts None;
      watch = blank_watch c.timing (sizes_in c.layout);
      leases = [];
    }

-- The sessions that the setting gives, by name.
abbrev pub given_sessions : Setting → List Session
given_sessions st = in_order (λ a b. is_text_before a.lockspace b.lockspace) (map given_session (enumerate_from 0 st.given))

-- A new host. It has not worked out yet how long nothing is due.
abbrev pub new_host : Setting → HostState
new_host st =
    record {
      config = config_of st;
      reading = last_reading st [];
      before = last_reading st [];
      entries = 0;
      quiet_until = 0;
      first_call = st.first.call;
      next_job = st.first.job;
      started = 0;
      born = length st.given;
      members = map (new_member (config_of st)) (given_sessions st);
      connected = map (λ g. g.lockspace) st.given;
      unanswered = [];
      jobs = [];
      holdings = [];
      children = [];
      programs = [];
      made = no_effects;
    }

-- Of every setting with a layout of the program the new host stands for no step.
abbrev pub NewHostStands : Type 0
NewHostStands = (st : Setting) → IsOfProgram st.layout → HostStands (new_host st) st []
