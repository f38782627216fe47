-- A host's books, by what is seen of it.
use Rattle.sl_host_state.specs.KeptState.{HostKept}
use Rattle.sl_host.specs.Books.{BooksState}
use Rattle.sl_host.specs.Host.{HostView}

-- All that a host keeps but its members.
abbrev pub books_of : HostView → BooksState
books_of v =
    let k : HostKept = v.kept in
    record {
      config = k.config;
      reading = k.reading;
      before = k.before;
      entries = k.entries;
      quiet_until = k.quiet_until;
      first_call = k.first_call;
      next_job = k.next_job;
      started = k.started;
      born = k.born;
      connected = k.connected;
      unanswered = k.unanswered;
      jobs = k.jobs;
      holdings = k.holdings;
      children = k.children;
      programs = k.programs;
      made = k.made;
      left = v.left;
      calls = v.calls;
      most = v.most;
      most_calls = v.most_calls;
    }
