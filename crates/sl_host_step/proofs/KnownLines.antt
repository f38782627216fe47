-- What a line asks of a host that has come to it is known.
use Rattle.sl_area.specs.AreaSizes.{layout_of}
use Rattle.sl_due.specs.declared.decision.Decision.TheVariants.{ConvertsTo, GetsValue, GivesUp, Joins, Leaves, ReadsArea, Replies, Requests, SetsValue, Shares, TakesOver}
use Rattle.sl_due.specs.declared.decision.Decision.{Decision}
use Rattle.sl_host_lines.specs.LineFacts.{DecisionKnown, IsTimely, LeaseReady as LeaseMayWork, LineKnown}
use Rattle.sl_host_state.specs.KeptState.{HostKept, HostState, MemberState, state_of}
use Rattle.sl_host_step.proofs.StepsMayCome.{IsAtInput}
use Rattle.sl_host_work.specs.SectorPlaces.{IsPlaced}
use Rattle.sl_trace.specs.Leases.{spot_of}
use Rattle.sl_member.specs.HostMembers.{member_with}
use Rattle.sl_words.proofs.Lists.{find_inside}
use Rattle.sl_step_law.proofs.DecisionsAreKnown.{decisions_are_known}
use Rattle.sl_step_law.proofs.HostsAreKnown.{hosts_are_known}
use Rattle.sl_step_law.proofs.MembersAreKnown.{members_are_known}
use Rattle.sl_step_law.proofs.MomentsAreKnown.{moments_are_known}
use Rattle.sl_step_law.proofs.PlacesAreKnown.{places_are_known}
use Rattle.sl_step_law.specs.KnownHosts.{DecisionIs, LeaseReady}
use Rattle.sl_step_law.specs.Moments.{IsMoment}
use Rattle.sl_trace.specs.CommandForms.{command_in, forms}
use Rattle.sl_trace.specs.Traces.{spot_of_grant}
use Rattle.sl_trace.specs.declared.command.Command.{Command}
use Rattle.sl_trace.specs.declared.effects.Spot.{Spot}
use Rattle.sl_trace.specs.declared.input.Input.TheVariants.{Line, Wake}
use Rattle.sl_words.specs.Bounds.{moments}
use Rattle.std.proofs.Common.{arith, ◌∙◌}
use Rattle.std.specs.Prelude.{Contains, List, Ok, Some, true, ℕ, ◌+◌, ◌<◌, ◌==◌, ◌^◌, ◌≡◌, ◌≤◌}

in_time : (now grace : ℕ) → now < moments → grace ≤ 600000 → now + grace < 2 ^ 64
in_time now grace low most = omega (arith, low, most)

module _ (now : ℕ) (text : List ℕ) (k : HostKept) (c : Command) (a : IsAtInput now (Line text) k) (grace : k.config.grace ≤ 600000) (says : command_in (forms (layout_of k.config.sizes)) text ≡ Ok c) where
  abbrev host : HostState
  host = state_of a.read k

  moment : IsMoment Wake (state_of a.read k) a.step
  moment = moments_are_known.ready (state_of a.read k) a.step a.ready

  read_so : a.read text ≡ Ok c
  read_so = a.whole text ∙ says

  placed : (m : MemberState) → Contains k.members m → IsPlaced k.config.sizes m.who
  placed m there = let z = places_are_known.sessions Wake (state_of a.read k) a.step m a.ready.stands a.ready.kept there in record { id = (z.0, z.1); base = z.2 }

  ready : (at : Spot) (m : MemberState) → Contains k.members m → LeaseReady (state_of a.read k) m at → LeaseMayWork k at m
  ready at m there l = record { joined = l.joined; placed = placed m there; area = l.area; tops = l.tops; owned = record { named = l.owned; opened = l.opened } }

  inside : (n : ℕ) (m : MemberState) → member_with n k.members ≡ Some m → Contains k.members m × ((m.who.number == n) ≡ true)
  inside n m is = find_inside (λ (z : MemberState). z.who.number == n) k.members m is

  by : (d : Decision) → DecisionIs (state_of a.read k) c d → DecisionKnown k c d
  by (Replies r) is = tt
  by (Joins n q) is = (is, members_are_known.new Wake (state_of a.read k) a.step a.ready.stands a.ready.kept)
  by (Leaves s) is = is
  by (ReadsArea s r) is = tt
  by (Shares s lver) is = tt
  by (GivesUp s g) is = λ m found. (let f = inside s.number m found in let z = is m f.0 f.1 in record { lease = ready (spot_of_grant g) m f.0 z.lease; named = z.named; instance = z.instance })
  by (TakesOver s g) is = tt
  by (ConvertsTo s r mode) is = λ m found. (let f = inside s.number m found in let z = is m f.0 f.1 in record { lease = ready (spot_of r) m f.0 z; held = z.held })
  by (Requests s r) is = tt
  by (SetsValue s at v) is = is
  by (GetsValue s at) is = is

  timely : IsTimely k
  timely = (let low = hosts_are_known.timely Wake (state_of a.read k) a.step moment in record { now = low; kills = in_time k.reading k.config.grace low grace })

  pub line_known : LineKnown k c
  line_known =
      record {
        timely = timely;
        command = hosts_are_known.reads (state_of a.read k) a.step text c a.ready read_so;
        decided = λ d is. by d (decisions_are_known (state_of a.read k) a.step text c d a.ready read_so (is a.read));
      }
