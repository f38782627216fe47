-- What a lease does next, by what is kept of it and the sectors in hand.
use Rattle.sl_area.specs.AreaSizes.{Layout}
use Rattle.sl_host_state.specs.HeardInputs.{blocks_shown}
use Rattle.sl_host_state.specs.KeptState.{HostState, LeaseState, MemberState}
use Rattle.sl_host_state.specs.MadeEffects.{is_lease_on, new_lease}
use Rattle.sl_host_state.specs.declared.kept_parts.OpenCall.{OpenCall}
use Rattle.sl_host_state.specs.declared.kept_parts.TopNumber.{TopNumber}
use Rattle.sl_trace.specs.Conversions.{convert_next}
use Rattle.sl_trace.specs.LeaseDecisions.{lease_next, settle_begin, within_turn}
use Rattle.sl_trace.specs.Releases.{release_next}
use Rattle.sl_trace.specs.Leases.{LeaseKnown}
use Rattle.sl_trace.specs.declared.lease.Aim.TheVariants.{Converts, Releases, Settles}
use Rattle.sl_trace.specs.declared.lease.Aim.{Aim}
use Rattle.sl_trace.specs.declared.lease.LeaseNext.{LeaseNext}
use Rattle.sl_host_law.specs.Questions.Answers.{place_in}
use Rattle.sl_host_law.specs.Questions.Members.{exclusive_at, me_in, over_in, shared_at}
use Rattle.sl_sector.specs.declared.sector.Block.{Block}
use Rattle.sl_trace.specs.declared.effects.Grant.{Grant}
use Rattle.sl_trace.specs.declared.effects.LeaseStep.{LeaseStep}
use Rattle.sl_trace.specs.declared.effects.Mode.{Mode}
use Rattle.sl_trace.specs.declared.effects.Spot.{Spot}
use Rattle.sl_trace.specs.declared.input.Answer.{Answer}
use Rattle.sl_host_state.specs.HostStands.{first_read, turn_kept}
use Rattle.std.specs.Prelude.{List, None, Option, Some, false, find, is_some, option_map, unwrap_or, [], ℕ, ◌∷◌}

-- The member's lease on an area; one without a call where there is none.
abbrev pub lease_at : MemberState → Spot → LeaseState
lease_at m at = unwrap_or (find (is_lease_on at) m.leases) (new_lease at)

-- A block that shows the greatest number of an instance.
abbrev pub top_block : TopNumber → Block
top_block t = record { host = 0; shared = false; lver = t.instance; mbal = t.mbal; bal = 0; inp_gen = 0; mode_gen = 0; inp = 0 }

-- In place of the blocks that were read last: all that is asked of them once they are gone is the greatest number that is kept.
abbrev pub kept_blocks : LeaseState → List (Option Block)
kept_blocks l = elim l.top [ None ↦ [] | Some t ↦ Some (top_block t) ∷ [] ]

-- What is known of a lease where these were the blocks read last.
abbrev pub known_by : HostState → MemberState → Spot → LeaseState → List (Option Block) → LeaseKnown
known_by h m at l read =
    record {
      self = me_in m;
      own = l.own;
      read = read;
      kept = first_read l.pair;
      turn = turn_kept l.pair;
      name = l.name;
      freed = l.freed;
      ballot = l.ballot;
      shown = l.shown;
      won = l.won;
      shared = is_some (shared_at h m at);
      exclusive = option_map (λ g. g.lver) (exclusive_at h m at);
      over = over_in m;
    }

-- What is known of the member's lease on an area, with no sectors in hand.
abbrev pub known_at : HostState → MemberState → Spot → LeaseKnown
known_at h m at = known_by h m at (lease_at m at) (kept_blocks (lease_at m at))

-- The blocks that an answer shows, else what is kept.
abbrev pub blocks_at : Layout → LeaseState → LeaseStep → Answer → List (Option Block)
blocks_at g l step a = unwrap_or (blocks_shown g l.pair step a) (kept_blocks l)

-- What comes after an answer that the member has heard.
abbrev pub answered_next : HostState → MemberState → Spot → OpenCall → Aim → LeaseStep → Answer → LeaseNext
answered_next h m at c aim step a =
    let k : LeaseKnown = known_by h m at (lease_at m at) (blocks_at h.config.layout (lease_at m at) step a) in
    within_turn (place_in h m) k aim (lease_next (place_in h m) k aim c.number c.lver step a)

-- What a settling does next, a release and a conversion.
abbrev pub settling_next : HostState → MemberState → Spot → LeaseNext
settling_next h m at = within_turn (place_in h m) (known_at h m at) Settles (settle_begin (place_in h m) (known_at h m at))

abbrev pub releasing_next : HostState → MemberState → Spot → Grant → LeaseNext
releasing_next h m at g = within_turn (place_in h m) (known_at h m at) Releases (release_next (place_in h m) (known_at h m at) g.mode g.lver)

abbrev pub converting_next : HostState → MemberState → Spot → Mode → List ℕ → LeaseNext
converting_next h m at mode name = within_turn (place_in h m) (known_at h m at) (Converts mode) (convert_next (known_at h m at) mode name)
