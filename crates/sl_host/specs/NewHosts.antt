-- A host before any step, as code makes it.
use Rattle.sl_area.specs.AreaSizes.{Sizes, layout_of}
use Rattle.sl_host_state.specs.KeptState.{HostKept, Made, MemberState}
use Rattle.sl_member.specs.Members.{RunOf, blank_member}
use Rattle.sl_trace.specs.Sessions.{given_session}
use Rattle.sl_trace.specs.declared.session.Session.{Session}
use Rattle.sl_text.specs.Names.{is_name}
use Rattle.sl_trace.specs.Traces.{Setting, no_effects}
use Rattle.sl_trace.specs.declared.command.Command.{Command}
use Rattle.sl_trace.specs.declared.input.Given.{Given}
use Rattle.sl_trace.specs.declared.input.Numbers.{Numbers}
use Rattle.sl_host.specs.Books.{BooksState, kept_of}
use Rattle.sl_host.specs.MemberRun.{run_in}
use Rattle.sl_words.specs.Bounds.{moments}
use Rattle.sl_words.specs.Orders.{in_order, is_text_before}
use Rattle.sl_words.specs.Words.{greatest}
use Rattle.std.specs.List.{enumerate_from}
use Rattle.std.specs.Prelude.{IsTrue, List, Result, [], length, map, ℕ, ◌<◌, ◌≤◌}

-- A session that a host may begin with, where areas have these sizes.
pub record MayBeGiven (z : Sizes) (g : Given) : Type 0 where
  pub id : (1 ≤ g.id) × (g.id ≤ z.hosts)
  pub renewed : g.renewed < moments
  pub lockspace : IsTrue (is_name g.lockspace)

-- What it is begun with, where lines are read so.
abbrev pub setting_begun : Made → Numbers → List Given → (List ℕ → Result Command ℕ) → Setting
setting_begun c first given read =
    record { timing = c.timing; grace = c.grace; layout = layout_of c.sizes; machine = c.machine; name = c.name; first = first; given = given; read = read }

-- The sessions that are given, by name.
abbrev pub sessions_given : List Given → List Session
sessions_given given = in_order (λ a b. is_text_before a.lockspace b.lockspace) (map given_session (enumerate_from 0 given))

-- The members that they are.
abbrev pub members_given : RunOf → List Given → List MemberState
members_given run given = map (blank_member run) (sessions_given given)

-- The books before any step.
abbrev pub books_begun : Made → Numbers → List Given → BooksState
books_begun c first given =
    record {
      config = c;
      reading = greatest (map (λ g. g.renewed) given);
      before = greatest (map (λ g. g.renewed) given);
      entries = 0;
      quiet_until = 0;
      first_call = first.call;
      next_job = first.job;
      started = 0;
      born = length given;
      connected = map (λ g. g.lockspace) given;
      unanswered = [];
      jobs = [];
      holdings = [];
      children = [];
      programs = [];
      made = no_effects;
      left = 0;
      calls = 0;
      most = 0;
      most_calls = 0;
    }

-- All that is kept then.
abbrev pub kept_begun : Made → Numbers → List Given → HostKept
kept_begun c first given = kept_of (members_given (run_in c) given) (books_begun c first given)
