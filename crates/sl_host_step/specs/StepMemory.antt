-- How many effects and calls a step makes at most, by what is kept as it begins, and how much of that it has room for, by its reach.
use Rattle.sl_area.specs.AreaSizes.{Sizes}
use Rattle.sl_world_state.specs.declared.daemon.Most.{Most}
use Rattle.sl_host_passes.specs.PassesLessen.{leases_in}
use Rattle.sl_host_step.specs.declared.step_memory.Counts.{Counts}
use Rattle.sl_host_step.specs.declared.step_memory.Reach.TheVariants.{All, Few}
use Rattle.sl_host_step.specs.declared.step_memory.Reach.{Reach}
use Rattle.sl_host_state.specs.KeptState.{HostKept}
use Rattle.sl_host.specs.BookQuestions.{most_counted}
use Rattle.sl_host.specs.Host.{HostView}
use Rattle.std.specs.Prelude.{Bool, cond, length, min, nat_le, true, ℕ, ◌*◌, ◌+◌, ◌<◌, ◌^◌, ◌||◌, ◌≡◌, ◌≤◌}

-- More than this no step has room for.
abbrev pub room_end : ℕ
room_end = 2 ^ 31

-- What jobs, holdings, leases and members may make due, and a few besides.
abbrev pub effects_within : ℕ → ℕ → ℕ → ℕ → ℕ
effects_within jobs holdings leases seats = 4 * jobs + 4 * holdings + 3 * leases + 4 * seats + 16

abbrev pub calls_within : ℕ → ℕ → ℕ
calls_within leases seats = leases + 4 * seats + 8

-- So many effects of each class, and so many calls.
abbrev pub left_for : HostView → ℕ
left_for v = min room_end (effects_within (length v.kept.jobs) (length v.kept.holdings) (leases_in v.kept.members) v.seats)

abbrev pub calls_for : HostView → ℕ
calls_for v = min room_end (calls_within (leases_in v.kept.members) v.seats)

abbrev pub most_of : HostView → Most
most_of v =
    let n : ℕ = left_for v in
    record { ends = n; signals = n; moves = n; grants = n; starts = n; replies = n; calls = calls_for v }

-- What a step may have to do with, as code counts it.
abbrev pub counts_of : HostView → Counts
counts_of v = record { jobs = length v.kept.jobs; holdings = length v.kept.holdings; leases = min (leases_in v.kept.members) most_counted; seats = v.seats }

abbrev pub are_many : Counts → Bool
are_many c = nat_le room_end c.jobs || nat_le room_end c.holdings || nat_le room_end c.leases || nat_le room_end c.seats

-- How much of so much a step may have to do with: with all, or with none but a few that are counted apart.
abbrev pub reached : Reach → ℕ → ℕ
reached All n = n
reached Few n = 0

-- As code counts what a step with this reach may have to do with. Sessions are few.
abbrev pub counts_within : Reach → Counts → Counts
counts_within r c = record { jobs = reached r c.jobs; holdings = reached r c.holdings; leases = reached r c.leases; seats = c.seats }

-- So many effects of each class, and so many calls, a step with this reach has room for.
abbrev pub effects_near : Reach → HostView → ℕ
effects_near r v = effects_within (reached r (length v.kept.jobs)) (reached r (length v.kept.holdings)) (reached r (leases_in v.kept.members)) v.seats

abbrev pub calls_near : Reach → HostView → ℕ
calls_near r v = calls_within (reached r (leases_in v.kept.members)) v.seats

-- Where something may be due by time it is all, whatever the input reaches.
abbrev pub reach_when : Bool → Reach → Reach
reach_when loud r = cond loud All r

abbrev pub IsFarEnough : ℕ → HostKept → Reach → Type 0
IsFarEnough now k r = k.quiet_until ≤ now → r ≡ All

-- For how much there is memory in the lists that a step goes by; of which areas the blocks of a read have their places, and whether a list
-- stands by that may be kept of a first read; and whether room for a step stands by.
pub record ScratchState : Type 0 where
  pub members : ℕ
  pub jobs : ℕ
  pub spots : ℕ
  pub orphans : ℕ
  pub sizes : Sizes
  pub kept : Bool
  pub spare : Bool

-- It is enough for what is kept, in a host with so many seats; where blocks are kept in pairs a list stands by.
pub record Suffices (s : ScratchState) (v : HostView) : Type 0 where
  pub members : v.seats ≤ s.members
  pub jobs : length v.kept.jobs + 1 ≤ s.jobs
  pub spots : leases_in v.kept.members ≤ s.spots
  pub orphans : length v.kept.holdings ≤ s.orphans
  pub kept : s.sizes.paired ≡ true → s.kept ≡ true

-- There is room for a step with this reach, and no more than a step takes at most; nothing else has changed.
pub record HasRoom (r : Reach) (old new : HostView) : Type 0 where
  pub kept : new.kept ≡ old.kept
  pub entries : old.kept.entries < 2 ^ 63
  pub seats : new.seats ≡ old.seats
  pub left : effects_near r old ≤ new.left
  pub calls : calls_near r old ≤ new.calls
  pub most : new.most ≤ left_for old
  pub most_calls : new.most_calls ≤ calls_for old

-- What is left of it at the input, where a host with so much has come to it.
pub record HasLeft (r : Reach) (old new : HostView) : Type 0 where
  pub left : reached r (length new.kept.jobs + 2 * length new.kept.holdings + 3 * leases_in new.kept.members) + 4 * new.seats + 16 ≤ new.left
  pub calls : reached r (leases_in new.kept.members) + 4 * new.seats + 8 ≤ new.calls
  pub seats : new.seats ≡ old.seats
  pub most : new.most ≤ left_for old
  pub most_calls : new.most_calls ≤ calls_for old
  -- no session is born before, and no line has taken a number
  pub few : new.calls ≤ calls_for old
  pub config : new.kept.config ≡ old.kept.config
  pub born : new.kept.born ≡ old.kept.born
  pub lines : new.kept.next_job ≡ old.kept.next_job

-- And behind the input: enough for what comes last.
pub record EndsWith (old new : HostView) : Type 0 where
  pub left : 2 * new.seats ≤ new.left
  pub calls : new.seats ≤ new.calls
  pub seats : new.seats ≡ old.seats
  pub most : new.most ≤ left_for old
  pub most_calls : new.most_calls ≤ calls_for old
