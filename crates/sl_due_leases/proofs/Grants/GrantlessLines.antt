-- What a release and the beginning of a conversion grant: nothing.
use Rattle.sl_due_facts.specs.Acts.Acts.{next_of_conversion, next_of_release}
use Rattle.sl_due.specs.DueCommands.{after_end}
use Rattle.sl_due.specs.CarriedLease.{carry_lease}
use Rattle.sl_due.specs.Steps.{Step, add_reply, seen}
use Rattle.sl_trace.specs.Ballots.{moded_block}
use Rattle.sl_trace.specs.LeaseDecisions.{LeasePlace, lease_place, refuses, refuses_block, within_turn}
use Rattle.sl_trace.specs.Conversions.{convert_next}
use Rattle.sl_trace.specs.Releases.{release_next}
use Rattle.sl_trace.specs.Leases.{LeaseKnown, holdings_on, known}
use Rattle.sl_trace.specs.declared.lease.Aim.TheVariants.{Acquires, Converts, Releases, Settles}
use Rattle.sl_trace.specs.declared.lease.Aim.{Aim}
use Rattle.sl_trace.specs.declared.lease.LeaseNext.TheVariants.{AnswerJob, BecomeExclusive, BecomeShared, GrantJob, Nothing, ReadFor, WriteBlock, WriteLeader}
use Rattle.sl_trace.specs.declared.lease.LeaseNext.{LeaseNext}
use Rattle.sl_sector.specs.declared.sector.Block.{Block}
use Rattle.sl_trace.specs.declared.session.Session.{Session}
use Rattle.sl_trace.specs.Traces.{spot_of_grant}
use Rattle.sl_trace.specs.declared.effects.Grant.{Grant}
use Rattle.sl_trace.specs.declared.effects.LeaseRead.TheVariants.{OfArea, OfFree}
use Rattle.sl_trace.specs.declared.effects.LeaseStep.TheVariants.{ClearMode, ReadAgain, ReadArea, ReadBeforeFree, SetMode}
use Rattle.sl_trace.specs.declared.effects.Mode.{Mode}
use Rattle.sl_trace.specs.declared.effects.Mode.TheVariants.{Exclusive, Shared}
use Rattle.sl_trace.specs.declared.effects.Spot.{Spot}
use Rattle.sl_trace.specs.declared.effects.Work.TheVariants.{ForJob}
use Rattle.sl_trace.specs.declared.reply.Limited.TheVariants.{Turn as TurnLimit}
use Rattle.sl_trace.specs.declared.reply.Reply.TheVariants.{Done, Limit as LimitReached}
use Rattle.sl_trace.specs.declared.reply.Reply.{Reply}
use Rattle.sl_words.specs.Bounds.{is_number}
use Rattle.std.proofs.Common.{refl}
use Rattle.std.specs.Option.{option_map_or}
use Rattle.std.specs.Prelude.{Bool, List, None, Option, Some, [], false, not, true, ℕ, ◌&&◌, ◌+◌, ◌∷◌, ◌≡◌}

-- ---- what grants nothing

abbrev IsGrantless : LeaseNext → Type 0
IsGrantless (GrantJob mode lver) = ⊥
IsGrantless (BecomeShared lver l) = ⊥
IsGrantless (BecomeExclusive lver b) = ⊥
IsGrantless next = Unit {0}

carried_grants : (z : Step) (s : Session) (at : Spot) (j : ℕ) (n : LeaseNext) → IsGrantless n → (carry_lease s at (ForJob j) n z).effects.grants ≡ z.effects.grants
unfolding carry_lease
carried_grants z s at j Nothing h = refl
carried_grants z s at j (ReadFor (ReadArea name)) h = refl
carried_grants z s at j (ReadFor ReadBeforeFree) h = refl
carried_grants z s at j (ReadFor (ReadAgain (OfArea name))) h = refl
carried_grants z s at j (ReadFor (ReadAgain OfFree)) h = refl
carried_grants z s at j (ReadFor step) h = refl
carried_grants z s at j (WriteBlock step b) h = refl
carried_grants z s at j (WriteLeader step l) h = refl
carried_grants z s at j (AnswerJob r) h = refl
carried_grants z s at j (GrantJob mode lver) h = absurd h
carried_grants z s at j (BecomeShared lver l) h = absurd h
carried_grants z s at j (BecomeExclusive lver b) h = absurd h

-- Nor does the limit of turns.
refusal_grantless : (aim : Aim) (r : Reply) → IsGrantless (refuses aim r)
refusal_grantless (Acquires mode) r = tt
refusal_grantless (Converts mode) r = tt
refusal_grantless Releases r = tt
refusal_grantless Settles r = tt

refused_grantless : (aim : Aim) (n : LeaseNext) → IsGrantless n → IsGrantless (refuses_block aim n)
refused_grantless aim Nothing h = tt
refused_grantless aim (ReadFor step) h = tt
refused_grantless aim (WriteBlock step b) h = refusal_grantless aim (LimitReached TurnLimit)
refused_grantless aim (WriteLeader step l) h = tt
refused_grantless aim (AnswerJob r) h = tt
refused_grantless aim (GrantJob mode lver) h = absurd h
refused_grantless aim (BecomeShared lver l) h = absurd h
refused_grantless aim (BecomeExclusive lver b) h = absurd h

within_grantless : (p : LeasePlace) (k : LeaseKnown) (aim : Aim) (n : LeaseNext) → IsGrantless n → IsGrantless (within_turn p k aim n)
unfolding within_turn
within_grantless p k aim n h = by (p.layout.paired && not (is_number (k.turn + 1))) where
  by : (b : Bool) → IsGrantless (elim b as (λ z. LeaseNext) [ false ↦ n | true ↦ refuses_block aim n ])
  by false = h
  by true = refused_grantless aim n h

-- ---- a release

release_grantless : (p : LeasePlace) (k : LeaseKnown) (mode : Mode) (lver : ℕ) → IsGrantless (release_next p k mode lver)
release_grantless p k Exclusive lver = tt
release_grantless p k Shared lver = by k.own where
  by : (o : Option Block) → IsGrantless (option_map_or (λ own. WriteBlock ClearMode (moded_block own false 0)) o Nothing)
  by None = tt
  by (Some own) = tt

-- After an end.
pub released_grants : (z : Step) (j : ℕ) (s : Session) (g : Grant) → (after_end s (spot_of_grant g) j g z).effects.grants ≡ z.effects.grants
unfolding after_end
released_grants z j s g = by (holdings_on (seen z) s (spot_of_grant g)) where
  k : LeaseKnown
  k = known z.setting (seen z) s (spot_of_grant g)

  by : (hs : List Grant)
      → (let w : Step = elim hs as (λ v. Step) [
        | e ∷ es ↦ add_reply j Done z
        | [] ↦ carry_lease s (spot_of_grant g) (ForJob j) (next_of_release z.setting (seen z) s (spot_of_grant g) g) z
      ] in w.effects.grants ≡ z.effects.grants)
  by (e ∷ es) = refl
  by [] =
      carried_grants z s (spot_of_grant g) j (next_of_release z.setting (seen z) s (spot_of_grant g) g)
      (within_grantless (lease_place z.setting s) k Releases (release_next (lease_place z.setting s) k g.mode g.lver) (release_grantless (lease_place z.setting s) k g.mode g.lver))

-- ---- as a conversion begins

conversion_grantless : (k : LeaseKnown) (mode : Mode) (name : List ℕ) → IsGrantless (convert_next k mode name)
conversion_grantless k Exclusive name = tt
conversion_grantless k Shared name = by k.own where
  by : (o : Option Block) → IsGrantless (option_map_or (λ own. WriteBlock SetMode (moded_block own true k.self.generation)) o Nothing)
  by None = tt
  by (Some own) = tt

pub converting_grants : (y : Step) (s : Session) (at : Spot) (j : ℕ) (mode : Mode) (name : List ℕ)
    → (carry_lease s at (ForJob j) (next_of_conversion y.setting (seen y) s at mode name) y).effects.grants ≡ y.effects.grants
converting_grants y s at j mode name =
    let k : LeaseKnown = known y.setting (seen y) s at in
    carried_grants y s at j (next_of_conversion y.setting (seen y) s at mode name)
    (within_grantless (lease_place y.setting s) k (Converts mode) (convert_next k mode name) (conversion_grantless k mode name))
