-- Nothing that is asked of a host asks for when it looks again.
use Rattle.sl_due.specs.Steps.{seen}
use Rattle.sl_host_state.specs.HeardInputs.{quiet_to}
use Rattle.sl_host_state.specs.KeptState.{HostState}
use Rattle.sl_host_state.specs.HostStands.{IsQuiet, Keeps}
use Rattle.sl_host_law.specs.StepParts.EarlierIsQuiet.{EarlierIsQuiet}
use Rattle.sl_trace.specs.Traces.{Setting, Trace}
use Rattle.std.proofs.Common.{arith}
use Rattle.std.specs.Prelude.{ℕ, ◌≤◌}

module _ (h : HostState) (until : ℕ) where
  keeps : (st : Setting) (es : Trace) → Keeps h st es → Keeps (quiet_to until h) st es
  keeps st es k =
      record {
        config = k.config;
        entries = k.entries;
        calls = k.calls;
        lines = k.lines;
        replied = k.replied;
        started = k.started;
        born = k.born;
        numbered = k.numbered;
        counted = k.counted;
        present = k.present;
        members = k.members;
        connected = k.connected;
        unanswered = k.unanswered;
        single = k.single;
        owned = k.owned;
        jobs = k.jobs;
        holdings = k.holdings;
        children = k.children;
        programs = k.programs;
      }

  quiet : until ≤ h.quiet_until → IsQuiet h → IsQuiet (quiet_to until h)
  quiet earlier was k now there = let q : h.quiet_until ≤ now = was k now there in omega (arith, earlier, q)

pub earlier_is_quiet : EarlierIsQuiet
earlier_is_quiet =
    record {
      in_step = λ i h x until earlier s. record {
        input = s.input;
        past = s.past;
        reading = s.reading;
        before = s.before;
        made = s.made;
        keeps = keeps h until x.setting (seen x) s.keeps;
        quiet = quiet h until earlier s.quiet;
      };
      between = λ h st es until earlier s. record {
        past = s.past;
        reading = s.reading;
        made = s.made;
        keeps = keeps h until st es s.keeps;
        quiet = quiet h until earlier s.quiet;
      };
    }
