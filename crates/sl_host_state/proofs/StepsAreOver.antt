-- A step that is over, and a lease without a call.
use Rattle.sl_area.specs.AreaSizes.{Layout}
use Rattle.sl_due.specs.Due.{IsDue}
use Rattle.sl_due.specs.Steps.{Step}
use Rattle.sl_host_state.specs.HeardInputs.{rested}
use Rattle.sl_host_state.specs.KeptState.{HostState}
use Rattle.sl_host_state.specs.MadeEffects.{new_lease}
use Rattle.sl_host_state.specs.StepsAreOver.{entry_of}
use Rattle.sl_host_state.specs.HostStands.{HostStands, LeaseStands, Stands}
use Rattle.sl_sector.specs.declared.sector.Owner.{Owner}
use Rattle.sl_trace.specs.Traces.{FollowsTrace}
use Rattle.sl_trace.specs.declared.effects.Spot.{Spot}
use Rattle.sl_trace.specs.declared.input.Input.{Input}
use Rattle.sl_words.proofs.CaseLaws.{false_is_true, none_some}
use Rattle.std.proofs.Common.{arith, refl, ◌∙◌}
use Rattle.std.specs.Prelude.{List, length, [], ℕ, ◌+◌, ◌∷◌, ◌≡◌}

as_it_is : (n : ℕ) → n ≡ n + 0
as_it_is n = omega arith

pub steps_are_over : (i : Input) (h : HostState) (x : Step) → FollowsTrace x.setting x.past (entry_of x) → IsDue x.setting x.past (entry_of x) → Stands i h x
    → HostStands (rested h) x.setting (entry_of x ∷ x.past)
steps_are_over i h x follows is_due s =
    let k = s.keeps in
    record {
      past = ((follows, s.past.0), (is_due, s.past.1));
      reading = s.reading;
      made = refl;
      keeps =
          record {
            config = k.config;
            entries = k.entries;
            calls = k.calls ∙ as_it_is (h.first_call + length h.made.calls);
            lines = k.lines;
            replied = k.replied;
            started = k.started;
            born = k.born;
            numbered = k.numbered;
            counted = k.counted;
            present = k.present;
            members = k.members;
            connected = k.connected;
            unanswered = k.unanswered;
            single = k.single;
            owned = k.owned;
            jobs = k.jobs;
            holdings = k.holdings;
            children = k.children;
            programs = k.programs;
          };
      quiet = s.quiet;
    }

pub new_lease_stands : (g : Layout) (lockspace : List ℕ) (self : Owner) (at : Spot) → LeaseStands g lockspace self (new_lease at) []
new_lease_stands g lockspace self at =
    record {
      own = refl;
      name = refl;
      freed = refl;
      ballot = refl;
      shown = refl;
      won = refl;
      waiting = tt;
      top = λ t is. absurd (none_some t is);
      opened = λ n is. absurd (none_some n is);
      turn = refl;
      again = refl;
      kept = refl;
      second = λ again. absurd (false_is_true again);
    }
