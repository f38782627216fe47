-- The holdings of a world, as the history of their resource has them.
--
-- A holding that conflicts with another is of one place with it, and resources are apart: so both are of one resource, and there each is
-- a grant of its session.
use Rattle.sl_safety.proofs.Grant.GrantLaws.{exclusives_are_kept, shared_are_shared}
use Rattle.sl_safety.specs.Holding.Holders.{HeldBy}
use Rattle.sl_ballot_law.specs.Grantings.Holdings.{ExclusiveGrant, IsGrantedExclusive, IsKept, IsSharedTo, SharedGrant}
use Rattle.sl_id_safety.proofs.State.CallLaws.{is_place}
use Rattle.sl_id_safety.proofs.Steps.RenewalCalls.{contains_filtered}
use Rattle.sl_trace.specs.Leases.{has_shared_on, holdings_on}
use Rattle.sl_run_law.proofs.Place.Areas.{one_resource}
use Rattle.sl_words.proofs.Lists.{contains_cases, contains_none}
use Rattle.sl_safety.specs.Resources.HistoryLaws.{history_of_line, spot_of_line}
use Rattle.sl_safety.specs.Resources.SentCalls.{holder_of, is_joined_there}
use Rattle.sl_run.specs.Conflicts.{Holding}
use Rattle.sl_run.specs.Headers.{IsHeader}
use Rattle.sl_run.specs.Runs.{Happening}
use Rattle.sl_run.specs.Safety.{LawfulRun, SessionId, trace_of, world_at}
use Rattle.sl_run.specs.Worlds.{Program, World}
use Rattle.sl_run.specs.declared.header.Header.{Header}
use Rattle.sl_run.specs.declared.header.ResourceLine.{ResourceLine}
use Rattle.sl_trace.specs.Sessions.{holdings_of}
use Rattle.sl_trace.specs.Traces.{is_shared, same_place, spot_of_grant}
use Rattle.sl_trace.specs.declared.effects.Grant.{Grant}
use Rattle.sl_trace.specs.declared.effects.Spot.{Spot}
use Rattle.sl_words.proofs.CaseLaws.{false_is_true}
use Rattle.std.proofs.Common.{ap, inl, inr, refl, sym, ◌∙◌}
use Rattle.std.specs.Prelude.{Bool, Contains, IsTrue, List, Some, [], cond, false, find, is_some, true, ◌∷◌, ◌≡◌, ◌⊎◌}

-- ---- lists

found_by : {A : Type 0} (p : A → Bool) (x : A) (xs : List A) (b : Bool) → (p x ≡ b) → (p x ≡ true) ⊎ (is_some (find p xs) ≡ true)
    → is_some (cond b (Some x) (find p xs)) ≡ true
found_by p x xs true is or = refl
found_by p x xs false is (inl here) = absurd (false_is_true (sym is ∙ here))
found_by p x xs false is (inr later) = later

-- Where something passes, something is found.
pub found_where : {A : Type 0} (p : A → Bool) (xs : List A) (x : A) → Contains xs x → p x ≡ true → is_some (find p xs) ≡ true
found_where p [] x there passes = absurd (contains_none x there)
found_where p (y ∷ ys) x there passes =
    found_by p y ys (p y) refl
    (elim (contains_cases y ys x there) [
      | inl here ↦ inl (ap p here ∙ passes)
      | inr later ↦ inr (found_where p ys x later passes)
    ])

-- ---- a holding of its session, by place

on_place : (w : World) (x : Holding) (y : HeldBy w x) → Contains (holdings_on (trace_of y.found) y.found.session (spot_of_grant x.held)) x.held
on_place w x y =
    contains_filtered (λ (g : Grant). same_place g.path g.offset x.held.path x.held.offset) (holdings_of (trace_of y.found) y.found.session) x.held y.stands
    (is_place x.held.path x.held.offset x.held.path x.held.offset refl refl)

shares_place : (w : World) (x : Holding) (y : HeldBy w x) → is_shared x.held.mode ≡ true
    → IsTrue (has_shared_on (trace_of y.found) y.found.session (spot_of_grant x.held))
shares_place w x y shared =
    found_where (λ (g : Grant). is_shared g.mode) (holdings_on (trace_of y.found) y.found.session (spot_of_grant x.held)) x.held (on_place w x y) shared

-- ---- a holding of its resource

-- A session of the resource holds it exclusive.
pub record HoldsExclusive (p : Program) (h : Header) (xs : List Happening) (i : SessionId) (r : ResourceLine) : Type 0 where
  pub grant : ExclusiveGrant
  pub holder : grant.holder ≡ holder_of (world_at p h xs) i
  pub joined : IsTrue (is_joined_there (world_at p h xs) r.lockspace i)
  pub granted : IsGrantedExclusive (history_of_line p h xs r) grant
  pub kept : IsKept (history_of_line p h xs r) grant (world_at p h xs).step

-- .. or shared.
pub record HoldsAsShared (p : Program) (h : Header) (xs : List Happening) (i : SessionId) (r : ResourceLine) : Type 0 where
  pub grant : SharedGrant
  pub holder : grant.holder ≡ holder_of (world_at p h xs) i
  pub joined : IsTrue (is_joined_there (world_at p h xs) r.lockspace i)
  pub shared : IsSharedTo (history_of_line p h xs r) grant (world_at p h xs).step

-- The resource of a holding.
pub record IsOfResource (h : Header) (g : Grant) (r : ResourceLine) : Type 0 where
  pub there : Contains h.resources r
  pub spot : spot_of_grant g ≡ spot_of_line r

pub record ExclusiveOf (p : Program) (h : Header) (xs : List Happening) (i : SessionId) (g : Grant) : Type 0 where
  pub resource : ResourceLine
  pub of : IsOfResource h g resource
  pub holds : HoldsExclusive p h xs i resource

pub record SharedOf (p : Program) (h : Header) (xs : List Happening) (i : SessionId) (g : Grant) : Type 0 where
  pub resource : ResourceLine
  pub of : IsOfResource h g resource
  pub holds : HoldsAsShared p h xs i resource

pub exclusive_of : (p : Program) (h : Header) (xs : List Happening) → LawfulRun p h xs → (x : Holding)
    → (y : HeldBy (world_at p h xs) x) → is_shared x.held.mode ≡ false → ExclusiveOf p h xs y.session x.held
exclusive_of p h xs run x y exclusive =
    let k = exclusives_are_kept p h xs run y.session y.found y.is y.alive (spot_of_grant x.held) x.held (on_place (world_at p h xs) x y) exclusive in
    record {
      resource = k.there.place.resource;
      of = record { there = k.there.place.there; spot = k.there.place.spot };
      holds = record { grant = k.there.grant; holder = k.there.holder; joined = k.there.place.joined; granted = k.there.granted; kept = k.kept };
    }

pub shared_of : (p : Program) (h : Header) (xs : List Happening) → LawfulRun p h xs → (x : Holding)
    → (y : HeldBy (world_at p h xs) x) → is_shared x.held.mode ≡ true → SharedOf p h xs y.session x.held
shared_of p h xs run x y shared =
    let k = shared_are_shared p h xs run y.session y.found y.is y.alive (spot_of_grant x.held) (shares_place (world_at p h xs) x y shared) in
    record {
      resource = k.place.resource;
      of = record { there = k.place.there; spot = k.place.spot };
      holds = record { grant = k.grant; holder = k.holder; joined = k.place.joined; shared = k.shared };
    }

-- Holdings of one place are of one resource.
pub of_one_resource : (h : Header) → IsHeader h → (f g : Grant) (r k : ResourceLine) → IsOfResource h f r → IsOfResource h g k → f.path ≡ g.path
    → f.offset ≡ g.offset → r ≡ k
of_one_resource h header f g r k this that paths offsets =
    one_resource h r k header this.there that.there (sym (ap (λ (s : Spot). s.path) this.spot) ∙ paths ∙ ap (λ (s : Spot). s.path) that.spot)
    (sym (ap (λ (s : Spot). s.base) this.spot) ∙ offsets ∙ ap (λ (s : Spot). s.base) that.spot)
