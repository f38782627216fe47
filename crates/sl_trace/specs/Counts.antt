-- Who holds what in a daemon, and what is counted against limits.
use Rattle.sl_area.specs.AreaSizes.{Layout}
use Rattle.sl_trace.specs.Jobs.{is_asking_lease, is_command_that, is_granted_job, is_program}
use Rattle.sl_trace.specs.Leases.{is_on, lease_spots, open_on, value_written}
use Rattle.sl_sector.specs.declared.sector.ValueRec.{ValueRec}
use Rattle.sl_trace.specs.Sessions.{calls_of, is_joined, sessions}
use Rattle.sl_trace.specs.declared.session.Session.{Session}
use Rattle.sl_trace.specs.CountLimits.{most_children, most_holders, most_processes, most_resources}
use Rattle.sl_trace.specs.Traces.{Setting, Submitted, Trace, children, holdings, is_child, is_shared, running_jobs, same_place, same_spot}
use Rattle.sl_trace.specs.declared.command.Command.{Command}
use Rattle.sl_trace.specs.declared.effects.Grant.{Grant}
use Rattle.sl_trace.specs.declared.effects.Spot.{Spot}
use Rattle.sl_trace.specs.declared.reply.Limited.TheVariants.{Children, Holders, Resources}
use Rattle.sl_trace.specs.declared.reply.Limited.{Limited}
use Rattle.sl_words.specs.Words.{choose, least}
use Rattle.std.specs.List.{list_any}
use Rattle.std.specs.Option.{option_map_or, option_or}
use Rattle.std.specs.Prelude.{Bool, List, Option, count_by, filter, filter_map, find, length, map, nat_le, not, option_and_then, sum_by, ℕ, ◌&&◌, ◌+◌, ◌==◌, ◌||◌}

-- The daemon's holdings on the area, of whatever session.
abbrev pub held_here : Trace → Spot → List Grant
held_here es at = filter (λ g. same_place g.path g.offset at.path at.base) (holdings es)

-- Of these holdings, the process that stands in the way: the asking one where it has one, else the least whose holding conflicts.
abbrev pub busy_among : List Grant → Option ℕ → Bool → Option ℕ
busy_among here asking shared =
    option_or (option_and_then (λ p. choose (list_any (λ g. g.process == p) here) p) asking)
    (least (map (λ g. g.process) (filter (λ g. not (shared && is_shared g.mode)) here)))

-- The process that stands in the way on the area.
abbrev pub busy_process : Trace → Spot → Option ℕ → Bool → Option ℕ
busy_process es at asking shared = busy_among (held_here es at) asking shared

-- The process, where it holds on the area itself: it can't take the orphan's place beside its own.
abbrev pub holds_already : Trace → Spot → ℕ → Option ℕ
holds_already es at p = choose (list_any (λ g. g.process == p) (held_here es at)) p

-- The least other process that holds on the area, in whatever mode.
abbrev pub other_holder : Trace → Spot → ℕ → Option ℕ
other_holder es at p = least (map (λ g. g.process) (filter (λ g. not (g.process == p)) (held_here es at)))

-- The least unanswered call of the daemon on the area.
abbrev pub pending_call : Setting → Trace → Spot → Option ℕ
pending_call st es at = least (map (λ m. m.call.number) (open_on st es at))

-- The running jobs of these commands that have no grant yet.
abbrev pub ungranted : Setting → Trace → (Command → Bool) → ℕ
ungranted st es p = count_by (λ j. is_command_that p j && not (is_granted_job es j.number)) (running_jobs st es)

-- Holdings, and running jobs that may become such.
abbrev pub holder_count : Setting → Trace → ℕ
holder_count st es = length (holdings es) + ungranted st es is_asking_lease

-- Child numbers given, and running jobs that may need one.
abbrev pub child_count : Setting → Trace → ℕ
child_count st es = length (children es) + ungranted st es is_program

-- Leases of the daemon's joined sessions, by session and place.
abbrev pub resource_count : Setting → Trace → ℕ
resource_count st es = sum_by (λ s. length (lease_spots st es s)) (filter (is_joined es) (sessions st es))

-- The first count that one more holder, or child, would pass.
abbrev pub limit_met : Setting → Trace → Session → Spot → Bool → Option Limited
limit_met st es s at program =
    option_or (choose (not (list_any (same_spot at) (lease_spots st es s)) && nat_le most_resources (resource_count st es)) Resources)
    (option_or (choose (nat_le most_holders (holder_count st es)) Holders)
    (choose (program && nat_le most_children (child_count st es)) Children))

-- The values that were submitted on the area among a session's calls, the newest first.
abbrev pub values_on : Layout → Spot → List Submitted → List ValueRec
values_on g at ms = filter_map value_written (filter (λ m. is_on g at m.call) ms)

-- One above the seq of the last value that the session submitted there under that lver, whatever came of it.
abbrev pub next_value_seq : Setting → Trace → Session → Spot → ℕ → ℕ
next_value_seq st es s at lver = option_map_or (λ v. v.seq) (find (λ v. v.lver == lver) (values_on st.layout at (calls_of es s))) 0 + 1

-- Whether a process of this number may act: the host's own children act only while they run.
abbrev pub may_act : Trace → ℕ → Bool
may_act es process = nat_le process most_processes || is_child es process
