-- All parts of what is known are kept together.
use Rattle.sl_due_facts.proofs.Acts.ActsTogether.{both, from_more}
use Rattle.sl_due_facts.proofs.Acts.PlainActs.{plain_acts}
use Rattle.sl_due_facts.specs.Acts.Acts.{Acts}
use Rattle.sl_due_facts.specs.Acts.KeptByEffects.{ByEffects, Plainly}
use Rattle.sl_due.specs.DueCommands.{carry_decision}
use Rattle.sl_due.specs.DueRecovery.{begin_recoveries}
use Rattle.sl_due.specs.Steps.{Step, begin_step}
use Rattle.sl_due_law.proofs.LawfulTraces.CallsAreLawful.{calls_are_lawful}
use Rattle.sl_due_law.proofs.LawfulTraces.LonesAreKept.{lones_are_kept}
use Rattle.sl_due_law.proofs.LawfulTraces.LonesMay.{lones_may}
use Rattle.sl_due_law.proofs.LawfulTraces.SpelledAreKept.{spelled_are_kept}
use Rattle.sl_due_law.specs.LawfulTraces.CarriedFacts.{Holds, Kept}
use Rattle.sl_due_law.specs.LawfulTraces.LoneCalls.{Lones}
use Rattle.sl_due_law.specs.LawfulTraces.TraceLaws.{DeltasSoFar, SpelledSoFar}
use Rattle.sl_due_leases.proofs.Grants.ActiveGrants.{granting_begins, granting_is_lawful}
use Rattle.sl_due_leases.proofs.Grants.EndsAreLawful.{ends_are_lawful, ends_begin}
use Rattle.sl_due_leases.proofs.Grants.ExitsAreLawful.{exits_are_lawful, exits_begin}
use Rattle.sl_due_leases.proofs.Grants.Modes.ModesAreLawful.{modes_are_lawful, modes_begin}
use Rattle.sl_due_leases.proofs.Grants.Values.ValueFactsAreKept.{value_facts_are_kept, value_facts_begin}
use Rattle.sl_due_leases.proofs.Grants.Values.ValuesAreTold.{values_are_lawful, values_begin}
use Rattle.sl_due_leases.proofs.Grants.WorkFactsAreKept.{work_facts_are_kept}
use Rattle.sl_due_leases.proofs.Grants.WorkFactsBegin.{work_facts_begin}
use Rattle.sl_due_leases.specs.Grants.GrantLaws.{EndsSoFar, ExitsSoFar, GrantingSoFar, HasWorkFacts}
use Rattle.sl_due_leases.specs.Grants.ModeLaws.{ModesSoFar}
use Rattle.sl_due_leases.specs.Grants.ValueLaws.{HasValueFacts, ValuesSoFar}
use Rattle.sl_due_leases.proofs.Holdings.HoldingFactsAreKept.{holding_facts_are_kept}
use Rattle.sl_due_leases.proofs.Holdings.HoldingFactsBegin.{holding_facts_begin}
use Rattle.sl_due_leases.proofs.Holdings.MomentsAreKept.{moments_are_kept}
use Rattle.sl_due_leases.proofs.Holdings.MomentsBegin.{moments_begin}
use Rattle.sl_due_leases.specs.Holdings.Moments.{Known, Moment}
use Rattle.sl_due_leases.specs.Holdings.HoldingLaws.{Begins, HasHoldingFacts}
use Rattle.sl_due_facts.proofs.Jobs.EntriesFollow.{entries_begin, entries_follow}
use Rattle.sl_due_facts.proofs.Jobs.JobLaws.{call_facts_are_kept, call_facts_begin, job_facts_are_kept, job_facts_begin, quiet_facts_are_kept, quiet_facts_begin}
use Rattle.sl_due_facts.proofs.Jobs.LessIsKept.{to_less}
use Rattle.sl_due_facts.specs.Jobs.JobLaws.{FollowsSoFar, HasCallFacts, HasJobFacts, HasQuietFacts}
use Rattle.sl_due_leases.proofs.Leases.LawsAreKept.{laws_are_kept}
use Rattle.sl_due_leases.specs.Leases.LeaseLawful.{LeaseLaws}
use Rattle.sl_due_leases.proofs.Ways.WayFactsHeld.FactsAreKept.{grant_grounds_are_kept, grant_grounds_begin, number_facts_are_kept, number_facts_begin, turn_facts_are_kept, turn_facts_begin, way_facts_are_kept, way_facts_begin}
use Rattle.sl_due_leases.specs.Ways.WayFactsHeld.{HasGrantGrounds, HasNumberFacts, HasTurnFacts, HasWayFacts}
use Rattle.sl_words.proofs.Lists.{contains_none, got_inside}
use Rattle.sl_due_law.proofs.Recovery.DenialsAreKept.{denials_are_kept, denials_begin}
use Rattle.sl_due_law.proofs.Recovery.PartingIsLawful.{parting_is_lawful}
use Rattle.sl_due_law.proofs.Recovery.PartingsAreKept.{partings_are_kept, partings_begin}
use Rattle.sl_due_law.proofs.Recovery.StopsAreKept.{stops_are_kept}
use Rattle.sl_due_law.proofs.Recovery.StopsBegin.{begun_says, stops_begin}
use Rattle.sl_due_law.specs.Recovery.RecoveryLaws.{StopsSoFar}
use Rattle.sl_due_law.specs.Recovery.Stops.{Denies, Partings}
use Rattle.sl_due_facts.proofs.Connections.ConnectionFactsAreKept.{connection_facts_are_kept, connection_facts_begin}
use Rattle.sl_due_facts.proofs.Connections.DeltaLaws.{reads_begin}
use Rattle.sl_due_facts.proofs.Connections.DeltasAreKept.{calls_are_kept}
use Rattle.sl_due_facts.proofs.Connections.JoinsAreLawful.{joins_are_kept, joins_begin}
use Rattle.sl_due_facts.proofs.Connections.MovesAreKept.{moves_are_kept, moves_begin}
use Rattle.sl_due_facts.proofs.Connections.WatchFactsAreKept.{watch_facts_are_kept}
use Rattle.sl_due_facts.proofs.Connections.WatchdogIsLawful.{watchdog_is_lawful}
use Rattle.sl_due_facts.specs.Connections.DeltaLaws.{JoinsSoFar}
use Rattle.sl_due_facts.specs.Connections.DeltasSoFar.{CallsKept, KnowsCalls}
use Rattle.sl_due_facts.specs.Connections.MovedSoFar.{MovedSoFar}
use Rattle.sl_due_facts.specs.Connections.ConnectionLaws.{HasConnectionFacts}
use Rattle.sl_due_facts.specs.Connections.WatchFacts.{HasWatchFacts}
use Rattle.sl_due_facts.proofs.Sessions.DeltaFactsBegin.{delta_facts_begin}
use Rattle.sl_due_facts.proofs.Sessions.DeltaFactsHold.{delta_facts_are_kept}
use Rattle.sl_due_facts.proofs.Sessions.NameFactsAreKept.{name_facts_are_kept, name_facts_begin}
use Rattle.sl_due_facts.specs.Sessions.SessionLaws.{HasDeltaFacts, HasNameFacts}
use Rattle.sl_due_facts.specs.Facts.AllFacts.{Whole}
use Rattle.sl_trace.specs.Traces.{FollowsTrace, Setting, Trace}
use Rattle.sl_trace.specs.declared.effects.Call.{Call}
use Rattle.sl_trace.specs.declared.effects.Entry.{Entry}
use Rattle.std.proofs.Common.{subst, sym}
use Rattle.std.specs.Prelude.{Some, [], slice_get, ℕ, ◌≡◌}

-- ---- what came before the step stays

abbrev pub IsOld : Step → Type 0
IsOld x = Holds x.setting x.past

old_effects : ByEffects IsOld
old_effects =
    record {
      ends = λ x e h. h;
      signals = λ x p s h. h;
      moves = λ x m h. h;
      grants = λ x g h. h;
      starts = λ x s h. h;
      replies = λ x j r h. h;
      calls = λ x s path p o op has h. h;
    }

old_plainly : Plainly IsOld
unfolding carry_decision
old_plainly = record { effects = old_effects; inputs = λ x i wake bare h. h; begins = λ x text c n a wake bare says is h. h }

old_is_kept : Acts IsOld IsOld
old_is_kept = plain_acts IsOld old_plainly

-- ---- what the calls on delta sectors rest on

knows_calls : (x : Step) → Kept x → KnowsCalls x
knows_calls x k = record { whole = k.known.0; reads = k.watches; past = record { names = k.before.whole.facts.names; connections = k.before.whole.facts.connections }; kept = k.delta_calls }

-- ---- the parts

-- Each part by itself.
pub record Parts (x : Step) : Type 0 where
  pub follows : FollowsSoFar x
  pub calls : HasCallFacts x
  pub jobs : HasJobFacts x
  pub quiet : HasQuietFacts x
  pub names : HasNameFacts x
  pub connections : HasConnectionFacts x
  pub watches : HasWatchFacts x
  pub delta : HasDeltaFacts x
  pub turns : HasTurnFacts x
  pub ways : HasWayFacts x
  pub holdings : HasHoldingFacts x
  pub works : HasWorkFacts x
  pub grounds : HasGrantGrounds x
  pub numbers : HasNumberFacts x
  pub values : HasValueFacts x
  pub spelled : SpelledSoFar x
  pub lones : Lones x
  pub delta_calls : CallsKept x
  pub joins : JoinsSoFar x
  pub lawful_leases : LeaseLaws x
  pub lawful_modes : ModesSoFar x
  pub moved : MovedSoFar x
  pub lawful_granting : GrantingSoFar x
  pub lawful_ends : EndsSoFar x
  pub lawful_values : ValuesSoFar x
  pub moment : Moment x
  pub exits : ExitsSoFar x
  pub stops : StopsSoFar x
  pub denies : Denies x
  pub partings : Partings x
  pub old : IsOld x

abbrev From_old : Step → Type 0
From_old x = IsOld x

abbrev From_partings : Step → Type 0
From_partings x = Partings x × From_old x

abbrev From_denies : Step → Type 0
From_denies x = Denies x × From_partings x

abbrev From_stops : Step → Type 0
From_stops x = StopsSoFar x × From_denies x

abbrev From_exits : Step → Type 0
From_exits x = ExitsSoFar x × From_stops x

abbrev From_moment : Step → Type 0
From_moment x = Moment x × From_exits x

abbrev From_lawful_values : Step → Type 0
From_lawful_values x = ValuesSoFar x × From_moment x

abbrev From_lawful_ends : Step → Type 0
From_lawful_ends x = EndsSoFar x × From_lawful_values x

abbrev From_lawful_granting : Step → Type 0
From_lawful_granting x = GrantingSoFar x × From_lawful_ends x

abbrev From_moved : Step → Type 0
From_moved x = MovedSoFar x × From_lawful_granting x

abbrev From_lawful_modes : Step → Type 0
From_lawful_modes x = ModesSoFar x × From_moved x

abbrev From_lawful_leases : Step → Type 0
From_lawful_leases x = LeaseLaws x × From_lawful_modes x

abbrev From_joins : Step → Type 0
From_joins x = JoinsSoFar x × From_lawful_leases x

abbrev From_delta_calls : Step → Type 0
From_delta_calls x = CallsKept x × From_joins x

abbrev From_lones : Step → Type 0
From_lones x = Lones x × From_delta_calls x

abbrev From_spelled : Step → Type 0
From_spelled x = SpelledSoFar x × From_lones x

abbrev From_values : Step → Type 0
From_values x = HasValueFacts x × From_spelled x

abbrev From_numbers : Step → Type 0
From_numbers x = HasNumberFacts x × From_values x

abbrev From_grounds : Step → Type 0
From_grounds x = HasGrantGrounds x × From_numbers x

abbrev From_works : Step → Type 0
From_works x = HasWorkFacts x × From_grounds x

abbrev From_holdings : Step → Type 0
From_holdings x = HasHoldingFacts x × From_works x

abbrev From_ways : Step → Type 0
From_ways x = HasWayFacts x × From_holdings x

abbrev From_turns : Step → Type 0
From_turns x = HasTurnFacts x × From_ways x

abbrev From_delta : Step → Type 0
From_delta x = HasDeltaFacts x × From_turns x

abbrev From_watches : Step → Type 0
From_watches x = HasWatchFacts x × From_delta x

abbrev From_connections : Step → Type 0
From_connections x = HasConnectionFacts x × From_watches x

abbrev From_names : Step → Type 0
From_names x = HasNameFacts x × From_connections x

abbrev From_quiet : Step → Type 0
From_quiet x = HasQuietFacts x × From_names x

abbrev From_jobs : Step → Type 0
From_jobs x = HasJobFacts x × From_quiet x

abbrev From_calls : Step → Type 0
From_calls x = HasCallFacts x × From_jobs x

abbrev From_follows : Step → Type 0
From_follows x = FollowsSoFar x × From_calls x

from_old : Acts Kept From_old
from_old = from_more IsOld Kept IsOld (λ x k. k.before) old_is_kept

from_partings : Acts Kept From_partings
from_partings = both Kept Partings From_old (from_more (λ x. Known x × Partings x) Kept Partings (λ x k. (k.known, k.partings)) partings_are_kept) from_old

from_denies : Acts Kept From_denies
from_denies = both Kept Denies From_partings (from_more Denies Kept Denies (λ x k. k.denies) denials_are_kept) from_partings

from_stops : Acts Kept From_stops
from_stops = both Kept StopsSoFar From_denies (from_more (λ x. Known x × StopsSoFar x × Denies x) Kept StopsSoFar (λ x k. (k.known, k.stops, k.denies)) stops_are_kept) from_denies

from_exits : Acts Kept From_exits
from_exits = both Kept ExitsSoFar From_stops (from_more (λ x. Known x × ExitsSoFar x) Kept ExitsSoFar (λ x k. (k.known, k.exits)) exits_are_lawful) from_stops

from_moment : Acts Kept From_moment
from_moment = both Kept Moment From_exits (from_more Moment Kept Moment (λ x k. k.known.1) moments_are_kept) from_exits

from_lawful_values : Acts Kept From_lawful_values
from_lawful_values = both Kept ValuesSoFar From_moment (from_more Known Kept ValuesSoFar (λ x k. k.known) values_are_lawful) from_moment

from_lawful_ends : Acts Kept From_lawful_ends
from_lawful_ends = both Kept EndsSoFar From_lawful_values (from_more Known Kept EndsSoFar (λ x k. k.known) ends_are_lawful) from_lawful_values

from_lawful_granting : Acts Kept From_lawful_granting
from_lawful_granting = both Kept GrantingSoFar From_lawful_ends (from_more Known Kept GrantingSoFar (λ x k. k.known) granting_is_lawful) from_lawful_ends

from_moved : Acts Kept From_moved
from_moved = both Kept MovedSoFar From_lawful_granting (from_more (λ x. Whole x × MovedSoFar x) Kept MovedSoFar (λ x k. (k.known.0, k.moved)) moves_are_kept) from_lawful_granting

from_lawful_modes : Acts Kept From_lawful_modes
from_lawful_modes = both Kept ModesSoFar From_moved (from_more Known Kept ModesSoFar (λ x k. k.known) modes_are_lawful) from_moved

from_lawful_leases : Acts Kept From_lawful_leases
from_lawful_leases = both Kept LeaseLaws From_lawful_modes (from_more Whole Kept LeaseLaws (λ x k. k.known.0) laws_are_kept) from_lawful_modes

from_joins : Acts Kept From_joins
from_joins = both Kept JoinsSoFar From_lawful_leases (from_more Whole Kept JoinsSoFar (λ x k. k.known.0) joins_are_kept) from_lawful_leases

from_delta_calls : Acts Kept From_delta_calls
from_delta_calls = both Kept CallsKept From_joins (from_more KnowsCalls Kept CallsKept (λ x k. knows_calls x k) calls_are_kept) from_joins

from_lones : Acts Kept From_lones
from_lones = both Kept Lones From_delta_calls (from_more (λ x. Whole x × Lones x) Kept Lones (λ x k. (k.known.0, k.lones)) lones_are_kept) from_delta_calls

from_spelled : Acts Kept From_spelled
from_spelled = both Kept SpelledSoFar From_lones spelled_are_kept from_lones

from_values : Acts Kept From_values
from_values = both Kept HasValueFacts From_spelled (from_more Known Kept HasValueFacts (λ x k. k.known) value_facts_are_kept) from_spelled

from_numbers : Acts Kept From_numbers
from_numbers = both Kept HasNumberFacts From_values (from_more Whole Kept HasNumberFacts (λ x k. k.known.0) number_facts_are_kept) from_values

from_grounds : Acts Kept From_grounds
from_grounds = both Kept HasGrantGrounds From_numbers (from_more Whole Kept HasGrantGrounds (λ x k. k.known.0) grant_grounds_are_kept) from_numbers

from_works : Acts Kept From_works
from_works = both Kept HasWorkFacts From_grounds (from_more Known Kept HasWorkFacts (λ x k. k.known) work_facts_are_kept) from_grounds

from_holdings : Acts Kept From_holdings
from_holdings = both Kept HasHoldingFacts From_works (from_more Known Kept HasHoldingFacts (λ x k. k.known) holding_facts_are_kept) from_works

from_ways : Acts Kept From_ways
from_ways = both Kept HasWayFacts From_holdings (from_more Whole Kept HasWayFacts (λ x k. k.known.0) way_facts_are_kept) from_holdings

from_turns : Acts Kept From_turns
from_turns = both Kept HasTurnFacts From_ways (from_more Whole Kept HasTurnFacts (λ x k. k.known.0) turn_facts_are_kept) from_ways

from_delta : Acts Kept From_delta
from_delta = both Kept HasDeltaFacts From_turns (from_more Whole Kept HasDeltaFacts (λ x k. k.known.0) delta_facts_are_kept) from_turns

from_watches : Acts Kept From_watches
from_watches = both Kept HasWatchFacts From_delta (from_more (λ x. Whole x × HasWatchFacts x) Kept HasWatchFacts (λ x k. (k.known.0, k.watches)) watch_facts_are_kept) from_delta

from_connections : Acts Kept From_connections
from_connections = both Kept HasConnectionFacts From_watches (from_more Whole Kept HasConnectionFacts (λ x k. k.known.0) connection_facts_are_kept) from_watches

from_names : Acts Kept From_names
from_names = both Kept HasNameFacts From_connections (from_more Whole Kept HasNameFacts (λ x k. k.known.0) name_facts_are_kept) from_connections

from_quiet : Acts Kept From_quiet
from_quiet = both Kept HasQuietFacts From_names (from_more Whole Kept HasQuietFacts (λ x k. k.known.0) quiet_facts_are_kept) from_names

from_jobs : Acts Kept From_jobs
from_jobs = both Kept HasJobFacts From_quiet (from_more Whole Kept HasJobFacts (λ x k. k.known.0) job_facts_are_kept) from_quiet

from_calls : Acts Kept From_calls
from_calls = both Kept HasCallFacts From_jobs (from_more Whole Kept HasCallFacts (λ x k. k.known.0) call_facts_are_kept) from_jobs

from_follows : Acts Kept From_follows
from_follows = both Kept FollowsSoFar From_calls (from_more Whole Kept FollowsSoFar (λ x k. k.known.0) entries_follow) from_calls

parts_of : (x : Step) → From_follows x → Parts x
parts_of x h =
    record {
      follows = h.0;
      calls = h.1.0;
      jobs = h.1.1.0;
      quiet = h.1.1.1.0;
      names = h.1.1.1.1.0;
      connections = h.1.1.1.1.1.0;
      watches = h.1.1.1.1.1.1.0;
      delta = h.1.1.1.1.1.1.1.0;
      turns = h.1.1.1.1.1.1.1.1.0;
      ways = h.1.1.1.1.1.1.1.1.1.0;
      holdings = h.1.1.1.1.1.1.1.1.1.1.0;
      works = h.1.1.1.1.1.1.1.1.1.1.1.0;
      grounds = h.1.1.1.1.1.1.1.1.1.1.1.1.0;
      numbers = h.1.1.1.1.1.1.1.1.1.1.1.1.1.0;
      values = h.1.1.1.1.1.1.1.1.1.1.1.1.1.1.0;
      spelled = h.1.1.1.1.1.1.1.1.1.1.1.1.1.1.1.0;
      lones = h.1.1.1.1.1.1.1.1.1.1.1.1.1.1.1.1.0;
      delta_calls = h.1.1.1.1.1.1.1.1.1.1.1.1.1.1.1.1.1.0;
      joins = h.1.1.1.1.1.1.1.1.1.1.1.1.1.1.1.1.1.1.0;
      lawful_leases = h.1.1.1.1.1.1.1.1.1.1.1.1.1.1.1.1.1.1.1.0;
      lawful_modes = h.1.1.1.1.1.1.1.1.1.1.1.1.1.1.1.1.1.1.1.1.0;
      moved = h.1.1.1.1.1.1.1.1.1.1.1.1.1.1.1.1.1.1.1.1.1.0;
      lawful_granting = h.1.1.1.1.1.1.1.1.1.1.1.1.1.1.1.1.1.1.1.1.1.1.0;
      lawful_ends = h.1.1.1.1.1.1.1.1.1.1.1.1.1.1.1.1.1.1.1.1.1.1.1.0;
      lawful_values = h.1.1.1.1.1.1.1.1.1.1.1.1.1.1.1.1.1.1.1.1.1.1.1.1.0;
      moment = h.1.1.1.1.1.1.1.1.1.1.1.1.1.1.1.1.1.1.1.1.1.1.1.1.1.0;
      exits = h.1.1.1.1.1.1.1.1.1.1.1.1.1.1.1.1.1.1.1.1.1.1.1.1.1.1.0;
      stops = h.1.1.1.1.1.1.1.1.1.1.1.1.1.1.1.1.1.1.1.1.1.1.1.1.1.1.1.0;
      denies = h.1.1.1.1.1.1.1.1.1.1.1.1.1.1.1.1.1.1.1.1.1.1.1.1.1.1.1.1.0;
      partings = h.1.1.1.1.1.1.1.1.1.1.1.1.1.1.1.1.1.1.1.1.1.1.1.1.1.1.1.1.1.0;
      old = h.1.1.1.1.1.1.1.1.1.1.1.1.1.1.1.1.1.1.1.1.1.1.1.1.1.1.1.1.1.1;
    }

-- ---- put together

lawful_deltas : (x : Step) → Parts x → DeltasSoFar x
lawful_deltas x h =
    record {
      calls = λ k c s at its. (h.delta_calls k c s at its).delta;
      placed = λ k c s at its. (h.delta_calls k c s at its).placed;
      joins = h.joins;
      alone = λ k c s at its. (h.delta_calls k c s at its).alone;
    }

pub kept_of : (x : Step) → Parts x → Kept x
kept_of x h =
    record {
      known = (
        record {
          setting = h.old.whole.setting;
          before = h.old.whole.lawful;
          orderly = record {
            is_trace = (h.follows, h.old.whole.lawful.orderly.is_trace);
            calls = (calls_are_lawful x h.calls h.delta h.lawful_leases.area (lawful_deltas x h) h.spelled (lones_may x h.jobs h.holdings h.delta h.lones), h.old.whole.lawful.orderly.calls);
            delta = (lawful_deltas x h, h.old.whole.lawful.orderly.delta);
            area = (h.lawful_leases.area, h.old.whole.lawful.orderly.area);
            block = (h.lawful_leases.block, h.old.whole.lawful.orderly.block);
            leader = (h.lawful_leases.leader, h.old.whole.lawful.orderly.leader);
            modes = (h.lawful_modes, h.old.whole.lawful.orderly.modes);
            watchdog = (watchdog_is_lawful x h.connections h.holdings h.moved, h.old.whole.lawful.orderly.watchdog);
            granting = (h.lawful_granting, h.old.whole.lawful.orderly.granting);
            ends = (h.lawful_ends, h.old.whole.lawful.orderly.ends);
            parting = (parting_is_lawful x h.calls h.follows h.lawful_leases.area (lawful_deltas x h) (watchdog_is_lawful x h.connections h.holdings h.moved) h.partings, h.old.whole.lawful.orderly.parting);
            values = (h.lawful_values, h.old.whole.lawful.orderly.values);
          };
          facts = record {
            calls = h.calls;
            jobs = h.jobs;
            quiet = h.quiet;
            names = h.names;
            connections = h.connections;
            delta = h.delta;
            turns = h.turns;
            ways = h.ways;
            holdings = h.holdings;
            works = h.works;
            grounds = h.grounds;
            numbers = h.numbers;
            values = h.values;
          };
        },
        h.moment,
      );
      watches = h.watches;
      exits = h.exits;
      moved = h.moved;
      stops = h.stops;
      denies = h.denies;
      partings = h.partings;
      before = h.old;
      lones = h.lones;
      delta_calls = h.delta_calls;
    }

-- Each act keeps all of it.
pub all_is_kept : Acts Kept Kept
all_is_kept = to_less Kept From_follows Kept (λ x h. kept_of x (parts_of x h)) from_follows

-- ---- once a step has begun

no_call : {P : Type 0} (k : ℕ) (c : Call) → slice_get [] k ≡ Some c → P
no_call k c at = absurd (contains_none c (got_inside [] k c at))

lease_laws_begin : Begins LeaseLaws
lease_laws_begin st past e follows w =
    subst (λ y. LeaseLaws y) (sym (begun_says st past e.reading).is) (record {
      area = record {
        active = λ k c s at its. no_call k c at;
        writes = λ k c s at its. no_call k c at;
        alone = λ k c s at its. no_call k c at;
        reads = λ k c s at its. no_call k c at;
        sees = λ k c s at its. no_call k c at;
        agains = λ k c s at its. no_call k c at;
      };
      block = record { turns = λ k c s at its. no_call k c at; writes = λ k c s at its. no_call k c at; reads = λ k c s at its. no_call k c at };
      leader = record { writes = λ k c s at its. no_call k c at };
    })

spelled_begins : (st : Setting) (past : Trace) (now : ℕ) → SpelledSoFar (begin_recoveries (begin_step st past now))
spelled_begins st past now = subst (λ y. SpelledSoFar y) (sym (begun_says st past now).is) (λ c r there is. absurd (contains_none c there))

lones_begin : (st : Setting) (past : Trace) (now : ℕ) → Lones (begin_recoveries (begin_step st past now))
lones_begin st past now = subst (λ y. Lones y) (sym (begun_says st past now).is) (λ c there. absurd (contains_none c there))

delta_calls_begin : (st : Setting) (past : Trace) (now : ℕ) → CallsKept (begin_recoveries (begin_step st past now))
delta_calls_begin st past now = subst (λ y. CallsKept y) (sym (begun_says st past now).is) (λ k c s at its. no_call k c at)

pub all_begins : (st : Setting) (past : Trace) (e : Entry) → FollowsTrace st past e → Holds st past → Kept (begin_recoveries (begin_step st past e.reading))
all_begins st past e follows h =
    kept_of (begin_recoveries (begin_step st past e.reading)) (record {
      follows = entries_begin st past e follows h.whole;
      calls = call_facts_begin st past e follows h.whole;
      jobs = job_facts_begin st past e follows h.whole;
      quiet = quiet_facts_begin st past e follows h.whole;
      names = name_facts_begin st past e follows h.whole;
      connections = connection_facts_begin st past e follows h.whole;
      watches = reads_begin st past e.reading h.watches;
      delta = delta_facts_begin st past e follows h.whole;
      turns = turn_facts_begin st past e follows h.whole;
      ways = way_facts_begin st past e follows h.whole;
      holdings = holding_facts_begin st past e follows h.whole;
      works = work_facts_begin st past e follows h.whole;
      grounds = grant_grounds_begin st past e follows h.whole;
      numbers = number_facts_begin st past e follows h.whole;
      values = value_facts_begin st past e follows h.whole;
      spelled = spelled_begins st past e.reading;
      lones = lones_begin st past e.reading;
      delta_calls = delta_calls_begin st past e.reading;
      joins = joins_begin st past e follows h.whole;
      lawful_leases = lease_laws_begin st past e follows h.whole;
      lawful_modes = modes_begin st past e follows h.whole;
      moved = moves_begin st past e follows h.whole;
      lawful_granting = granting_begins st past e follows h.whole;
      lawful_ends = ends_begin st past e follows h.whole;
      lawful_values = values_begin st past e follows h.whole;
      moment = moments_begin st past e follows h.whole;
      exits = exits_begin st past e follows h.whole;
      stops = stops_begin st past e follows h.whole;
      denies = denials_begin st past e follows h.whole;
      partings = partings_begin st past e follows h.whole;
      old = old_begins st past e.reading h;
    }) where
      old_begins : (st : Setting) (past : Trace) (now : ℕ) → Holds st past → IsOld (begin_recoveries (begin_step st past now))
      old_begins st past now w = subst (λ y. IsOld y) (sym (begun_says st past now).is) w
