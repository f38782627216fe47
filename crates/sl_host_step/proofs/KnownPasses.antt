-- What the passes of a step ask of what is kept, at the moment at which each begins.
use Rattle.sl_host_state.specs.KeptState.{HostKept, MemberState, state_of}
use Rattle.sl_host_step.proofs.StepsMayCome.{IsSomeMoment}
use Rattle.sl_host_passes.specs.PassPremises.{BeginKnown, FinishKnown, JobsApart, WakeKnown}
use Rattle.sl_host_step.proofs.ExpectedInputs.{from_first}
use Rattle.sl_host_law.proofs.Replies.PlainNumbers.{same_number}
use Rattle.sl_host_step.specs.Moments.{AtInput, StepComes}
use Rattle.sl_words.proofs.Lists.{contains_map, find_inside}
use Rattle.sl_trace.specs.Traces.{Child, children, first_child, no_process}
use Rattle.sl_words.proofs.CaseLaws.{false_is_true, is_false}
use Rattle.sl_words.specs.Words.{some_is}
use Rattle.sl_host_work.specs.ProcessHoldings.{HoldsOnce}
use Rattle.sl_host_work.specs.SectorPlaces.{IsPlaced}
use Rattle.sl_step_law.proofs.HoldersLeased.{holdings_are_known}
use Rattle.sl_step_law.proofs.HostsAreKnown.{hosts_are_known}
use Rattle.sl_step_law.proofs.LeasesAreKnown.{leases_are_known}
use Rattle.sl_step_law.proofs.PlacesAreKnown.{places_are_known}
use Rattle.sl_step_law.specs.Holdings.{HoldsOnce as HoldsOnceSo}
use Rattle.sl_trace.specs.declared.effects.Grant.{Grant}
use Rattle.sl_trace.specs.declared.input.Input.TheVariants.{Spawned}
use Rattle.sl_trace.specs.declared.input.Input.{Input}
use Rattle.std.proofs.Common.{arith, refl, subst}
use Rattle.std.specs.Prelude.{Bool, Contains, IsTrue, List, None, Option, Some, false, find, is_none, length, true, [], ℕ, ◌<◌, ◌==◌, ◌^◌, ◌∷◌, ◌≡◌, ◌≤◌}

-- ---- as it begins

pub begin_known : (now : ℕ) (i : Input) (k : HostKept) → StepComes now i k → k.entries < 2 ^ 63 → BeginKnown now k
begin_known now i k c entries =
    record {
      entries = entries;
      kills = (let low = c.may.below in let grace = c.keeps.grace in omega (arith, low, grace));
      quiet = c.keeps.stands.quiet;
      before = λ m b there is. hosts_are_known.began (state_of c.setting.read k) c.setting c.past m b c.keeps.stands there is;
    }

-- ---- at any moment

placed_at : (k : HostKept) → IsSomeMoment k → (m : MemberState) → Contains k.members m → IsPlaced k.config.sizes m.who
placed_at k e m there =
    let p = places_are_known.sessions e.input (state_of e.read k) e.step m e.moment.stands e.moment.kept there in
    record { id = (p.0, p.1); base = p.2 }

pub holds_once : (k : HostKept) (p : ℕ) → IsSomeMoment k → HoldsOnce p k.holdings
holds_once k p e = by k.holdings (holdings_are_known.apart e.input (state_of e.read k) e.step p e.moment.stands e.moment.kept) where
  by : (gs : List Grant) → HoldsOnceSo p gs → HoldsOnce p gs
  by [] so = tt
  by (g ∷ gs) so = (so.0, by gs so.1)

-- ---- as a wake begins

pub wake_known : (k : HostKept) → IsSomeMoment k → WakeKnown k
wake_known k e =
    record {
      now = hosts_are_known.timely e.input (state_of e.read k) e.step e.moment;
      geometry = e.moment.sound.laid.geometry;
      each = record {
        placed = placed_at k e;
        areas = λ m l there in_it. leases_are_known.placed e.input (state_of e.read k) e.step m l e.moment there in_it;
        tops = λ m l there in_it. leases_are_known.each_top e.input (state_of e.read k) e.step m l e.moment there in_it;
        owned = λ m at there.
            record { named = leases_are_known.owned e.input (state_of e.read k) e.step m at e.moment there; opened = leases_are_known.opened e.input (state_of e.read k) e.step m at e.moment there };
        instances = λ g there exclusive. leases_are_known.instances e.input (state_of e.read k) e.step g e.moment there;
      };
    }

-- ---- as what comes last begins

pub finish_known : (k : HostKept) → IsSomeMoment k → FinishKnown k
finish_known k e =
    record {
      now = hosts_are_known.timely e.input (state_of e.read k) e.step e.moment;
      placed = placed_at k e;
      left = λ m j there joined leaves unfreed. hosts_are_known.left e.input (state_of e.read k) e.step m j e.moment there joined leaves unfreed;
    }

pub jobs_apart : (k : HostKept) → IsSomeMoment k → JobsApart k
jobs_apart k e = hosts_are_known.apart e.input (state_of e.read k) e.step e.moment

-- ---- a start that is answered is that of a child, so of some process

pub starts_some : (now p : ℕ) (ok : Bool) (first k : HostKept) → AtInput now (Spawned p ok) first k → (p == no_process) ≡ false
starts_some now p ok first k a = is_false (p == no_process) none where
  none : (p == no_process) ≡ true → ⊥
  none zero = by (find (λ (c : Child). c.process == p) (children a.comes.past)) refl a.comes.may.expected where
    by : (o : Option Child) → find (λ (c : Child). c.process == p) (children a.comes.past) ≡ o → IsTrue (some_is (λ (c : Child). is_none c.answer) o) → ⊥
    by None is it = false_is_true it
    by (Some c) is it =
        let at = find_inside (λ (z : Child). z.process == p) (children a.comes.past) c is in
        let row = a.comes.keeps.stands.keeps.counted in
        let low : first_child ≤ c.process =
        from_first first_child (length (children a.comes.past)) c.process (subst (λ ns. Contains ns c.process) row (contains_map (λ (z : Child). z.process) (children a.comes.past) c at.0)) in
        let one : c.process ≡ p = same_number c.process p at.1 in
        let other : p ≡ 0 = same_number p no_process zero in
        omega (arith, low, one, other)
