-- Traces made by hand: the trace that a run gives a daemon, and one entry more.
use Rattle.sl_area.specs.AreaSizes.{sector_with}
use Rattle.sl_examples.specs.CheapDigest.{cheap_language, cheap_program}
use Rattle.sl_examples.specs.LawTests.{broken_laws}
use Rattle.sl_examples.specs.WorldTests.{read_events}
use Rattle.sl_report.specs.DueRuns.{allowed, due_run}
use Rattle.sl_report.specs.Schedules.{Header_read, Header_refused, event_lines_of, numbered_lines, read_header}
use Rattle.sl_run.specs.Runs.{world_after}
use Rattle.sl_run.specs.Worlds.{Daemon, World, daemon_numbered, machine_at, world_with}
use Rattle.sl_sector.specs.declared.sector.Rec.TheVariants.{BlockIs, LeaderIs}
use Rattle.sl_sector.specs.declared.sector.Rec.{Rec}
use Rattle.sl_text.specs.Forms.{as_bytes}
use Rattle.sl_trace.specs.Traces.{Setting, Trace, no_effects}
use Rattle.sl_trace.specs.declared.effects.Call.{Call}
use Rattle.sl_trace.specs.declared.effects.Effects.{Effects}
use Rattle.sl_trace.specs.declared.effects.Entry.{Entry}
use Rattle.sl_trace.specs.declared.effects.Grant.{Grant}
use Rattle.sl_trace.specs.declared.effects.JobReply.{JobReply}
use Rattle.sl_trace.specs.declared.effects.Mode.{Mode}
use Rattle.sl_trace.specs.declared.effects.Move.{Move}
use Rattle.sl_trace.specs.declared.effects.Op.TheVariants.{ReadSectors, WriteRecord}
use Rattle.sl_trace.specs.declared.effects.Purpose.{Purpose}
use Rattle.sl_trace.specs.declared.input.Input.{Input}
use Rattle.std.specs.Option.{option_map_or}
use Rattle.std.specs.Prelude.{Bool, List, None, Option, codes, false, if◌then◌else◌, option_and_then, [], ℕ, ◌∷◌}

-- The first daemon of machine m after a source's events, each daemon doing what is due.
abbrev pub daemon_after : List (List ℕ) → ℕ → Option Daemon
daemon_after ls m =
    elim (read_header cheap_language [] 1 (numbered_lines (as_bytes ls))) [
      | Header_refused n r ↦ None
      | Header_read h rest ↦
          let w : World = world_with cheap_program h in
          option_and_then (λ a. daemon_numbered a 0)
          (machine_at (world_after w (due_run w (allowed w (read_events (event_lines_of cheap_language h rest))))) m)
    ]

-- An entry without effects.
abbrev pub quiet_entry : ℕ → Input → Entry
quiet_entry now i = record { reading = now; input = i; effects = no_effects }

-- The entry with these calls.
abbrev pub with_calls : List Call → Entry → Entry
with_calls cs e = let fx : Effects = e.effects in record e { effects = record fx { calls = cs } }

-- The entry with these moves.
abbrev pub with_moves : List Move → Entry → Entry
with_moves ms e = let fx : Effects = e.effects in record e { effects = record fx { moves = ms } }

-- The entry with these replies.
abbrev pub with_replies : List JobReply → Entry → Entry
with_replies rs e = let fx : Effects = e.effects in record e { effects = record fx { replies = rs } }

-- The entry with these grants.
abbrev pub with_grants : List Grant → Entry → Entry
with_grants gs e = let fx : Effects = e.effects in record e { effects = record fx { grants = gs } }

-- A read on the disk `/d`, by the daemon's first session.
abbrev pub reads : ℕ → Purpose → ℕ → ℕ → Call
reads number purpose offset sectors =
    record { number = number; session = 0; purpose = purpose; path = codes "/d"; offset = offset; op = ReadSectors sectors }

-- A write on the disk `/d`, by the daemon's first session.
abbrev pub writes : ℕ → Purpose → ℕ → Rec → Call
writes number purpose offset r =
    record { number = number; session = 0; purpose = purpose; path = codes "/d"; offset = offset; op = WriteRecord r }

-- A block: host, mode, lver, mbal, bal, and the value's id and generation.
abbrev pub block : ℕ → Bool → ℕ → ℕ → ℕ → ℕ → ℕ → Rec
block host shared lver mbal bal inp inp_gen =
    BlockIs (record {
      host = host;
      shared = shared;
      lver = lver;
      mbal = mbal;
      bal = bal;
      inp_gen = inp_gen;
      mode_gen = (if shared then 1 else 0);
      inp = inp;
    })

-- The leader of `ls:r` in a run of two hosts.
abbrev pub leader : Bool → ℕ → ℕ → ℕ → List ℕ → Rec
leader held lver owner generation lockspace =
    LeaderIs (record { held = held; num_hosts = 2; lver = lver; generation = generation; owner = owner; lockspace = lockspace; resource = codes "r" })

-- A grant on the resource.
abbrev pub grant : ℕ → Mode → ℕ → Grant
grant process mode lver =
    record {
      process = process;
      session = 0;
      lockspace = codes "ls";
      resource = codes "r";
      path = codes "/d";
      offset = 1048576;
      mode = mode;
      lver = lver;
      persistent = false;
    }

-- The bytes of a record in the daemon's layout.
abbrev pub bytes_of : Daemon → Rec → List ℕ
bytes_of d r = sector_with d.setting.layout r

-- The entries that break laws, with these laws, where these entries follow the daemon's trace, the oldest first. The first entry
-- has number 0 again.
abbrev pub broken_after : Setting → Trace → List Entry → List (List ℕ)
broken_after st past [] = []
broken_after st past (e ∷ es) = broken_laws st past e ∷ broken_after st (e ∷ past) es

-- What entries that follow the trace of machine m after a source break, entry by entry: the numbers of the laws are those of
-- `broken_laws`.
abbrev pub broken_by : List (List ℕ) → ℕ → (Daemon → List Entry) → List (List ℕ)
broken_by ls m f = option_map_or (λ d. broken_after d.setting d.trace (f d)) (daemon_after ls m) ((0 ∷ []) ∷ [])
