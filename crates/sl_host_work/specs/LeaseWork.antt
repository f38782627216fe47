-- Work on a lease, by its session in place of its member.
use Rattle.sl_host_law.specs.Answers.LeaseDecisions.{converting, for_command_of, for_work_of}
use Rattle.sl_host_state.specs.KeptState.{HostState}
use Rattle.sl_lease.specs.Bounds.{IsBegun}
use Rattle.sl_lease.specs.declared.outer_facts.Held.{Held}
use Rattle.sl_sector.specs.Records.{Fits}
use Rattle.sl_sector.specs.declared.sector.Rec.TheVariants.{BlockIs, LeaderIs, PairIs, PairLeaderIs}
use Rattle.sl_sector.specs.declared.sector.Rec.{Rec}
use Rattle.sl_trace.specs.Jobs.{process_named}
use Rattle.sl_trace.specs.declared.session.Session.{Session}
use Rattle.sl_trace.specs.Traces.{is_shared, same_place}
use Rattle.sl_trace.specs.declared.command.Command.{Command}
use Rattle.sl_trace.specs.declared.effects.Grant.{Grant}
use Rattle.sl_trace.specs.declared.effects.Mode.{Mode}
use Rattle.sl_trace.specs.declared.effects.Spot.{Spot}
use Rattle.sl_trace.specs.declared.effects.Work.{Work}
use Rattle.sl_host.specs.BookQuestions.{held_under}
use Rattle.sl_words.specs.Words.{same_truth}
use Rattle.std.specs.Prelude.{List, None, Option, Some, filter, find, is_some, not, option_map, ℕ, ◌&&◌, ◌==◌, ◌≤◌}

-- A record that work on a lease writes: a block that a ballot has begun, of pairs with a turn that fits a record, or a leader whose instance
-- does.
abbrev pub IsLeaseRecord : Rec → Type 0
IsLeaseRecord (BlockIs b) = IsBegun b
IsLeaseRecord (LeaderIs d) = Fits d.lver
IsLeaseRecord (PairIs p) = IsBegun p.block × (1 ≤ p.turn) × Fits p.turn
IsLeaseRecord (PairLeaderIs d) = Fits d.lver
IsLeaseRecord r = ⊥

-- The holdings of a session on an area.
abbrev pub held_there : Session → Spot → List Grant → List Grant
held_there s at held = filter (λ g. same_place g.path g.offset at.path at.base) (held_under s.number held)

-- That of a process in the other mode.
abbrev pub otherwise_under : Session → Spot → ℕ → Mode → List Grant → Option Grant
otherwise_under s at p mode held = find (λ g. g.process == p && not (same_truth (is_shared g.mode) (is_shared mode))) (held_there s at held)

-- It goes on in this mode, for the command of a job.
abbrev pub converting_under : Session → Spot → ℕ → Command → Mode → ℕ → HostState → HostState
converting_under s at j c mode lver h =
    elim (process_named c) [ None ↦ h | Some p ↦ elim (otherwise_under s at p mode h.holdings) [ None ↦ h | Some g ↦ converting j mode lver g h ] ]

-- The conversion that the job asked for is done.
abbrev pub converted_under : Session → Spot → Work → Mode → ℕ → HostState → HostState
converted_under s at work mode lver h = for_work_of work (λ j. for_command_of j (λ c. converting_under s at j c mode lver)) h

-- What is held under a session's lease on an area, as the lease asks.
abbrev pub held_with : ℕ → Spot → List Grant → Held
held_with session at held =
    let there : List Grant = filter (λ g. same_place g.path g.offset at.path at.base) (held_under session held) in
    record { shared = is_some (find (λ g. is_shared g.mode) there); exclusive = option_map (λ g. g.lver) (find (λ g. not (is_shared g.mode)) there) }
