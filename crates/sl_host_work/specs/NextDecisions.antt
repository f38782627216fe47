-- What a lease, and the holder of an id's sector, may do next.
use Rattle.sl_delta.specs.DeltaDecisions.{after_join, on_wake}
use Rattle.sl_delta.specs.OwnSector.{OwnState}
use Rattle.sl_lease.specs.Bounds.{IsBegun}
use Rattle.sl_trace.specs.LeaseDecisions.{LeasePlace, lease_next, settle_begin, within_turn}
use Rattle.sl_trace.specs.Conversions.{convert_next}
use Rattle.sl_trace.specs.Releases.{release_next}
use Rattle.sl_trace.specs.Leases.{LeaseKnown}
use Rattle.sl_trace.specs.declared.lease.Aim.TheVariants.{Converts, Releases, Settles}
use Rattle.sl_trace.specs.declared.lease.Aim.{Aim}
use Rattle.sl_trace.specs.declared.lease.LeaseNext.TheVariants.{AnswerJob, BecomeExclusive, BecomeShared, WriteBlock, WriteLeader}
use Rattle.sl_trace.specs.declared.lease.LeaseNext.{LeaseNext}
use Rattle.sl_sector.specs.Records.{Fits}
use Rattle.sl_trace.specs.DeltaDecisions.{next_after_free, next_after_renewal}
use Rattle.sl_trace.specs.Sessions.{is_join_done}
use Rattle.sl_trace.specs.declared.delta.DeltaNext.TheVariants.{EndLeaving, RefuseJoin}
use Rattle.sl_trace.specs.declared.delta.DeltaNext.{DeltaNext}
use Rattle.sl_trace.specs.declared.effects.JoinStep.{JoinStep}
use Rattle.sl_trace.specs.declared.effects.LeaseStep.{LeaseStep}
use Rattle.sl_trace.specs.declared.effects.Mode.{Mode}
use Rattle.sl_trace.specs.declared.input.Answer.{Answer}
use Rattle.std.specs.Prelude.{Bool, List, Option, Some, false, true, ℕ, ◌≡◌}

-- What a lease writes next can be kept: a block that a ballot has begun, a leader whose instance fits a record. No lease answers a joining.
abbrev pub IsFit : LeaseNext → Type 0
IsFit (WriteBlock step b) = IsBegun b
IsFit (WriteLeader step l) = Fits l.lver
IsFit (BecomeShared lver l) = Fits l.lver
IsFit (BecomeExclusive lver b) = IsBegun b
IsFit (AnswerJob r) = is_join_done r ≡ false
IsFit next = Unit {0}

-- A holding that becomes shared is the exclusive one, and no lease answers a joining.
abbrev pub IsOfHeld : Option ℕ → LeaseNext → Type 0
IsOfHeld held (BecomeShared lver l) = held ≡ Some lver
IsOfHeld held (AnswerJob r) = is_join_done r ≡ false
IsOfHeld held next = Unit {0}

-- So it is, whatever a lease does next.
pub record LeasesAreOfHeld : Type 0 where
  pub answered : (p : LeasePlace) (k : LeaseKnown) (aim : Aim) (call n : ℕ) (step : LeaseStep) (a : Answer) → IsOfHeld k.exclusive (within_turn p k aim (lease_next p k aim call n step a))
  pub settles : (p : LeasePlace) (k : LeaseKnown) → IsOfHeld k.exclusive (within_turn p k Settles (settle_begin p k))
  pub releases : (p : LeasePlace) (k : LeaseKnown) (mode : Mode) (lver : ℕ) → IsOfHeld k.exclusive (within_turn p k Releases (release_next p k mode lver))
  pub converts : (p : LeasePlace) (k : LeaseKnown) (mode : Mode) (name : List ℕ) → IsOfHeld k.exclusive (within_turn p k (Converts mode) (convert_next k mode name))

-- Whether what a lease does next writes the own block.
abbrev pub writes_own_block : LeaseNext → Bool
writes_own_block (WriteBlock step b) = true
writes_own_block (BecomeExclusive lver b) = true
writes_own_block next = false

-- A joining is refused, and a leaving ends, by no reply that a joining is done.
abbrev pub IsPlain : DeltaNext → Type 0
IsPlain (RefuseJoin r) = is_join_done r ≡ false
IsPlain (EndLeaving j r) = is_join_done r ≡ false
IsPlain next = Unit {0}

-- So it is, whatever is decided on an id's sector.
pub record DeltasArePlain : Type 0 where
  pub joins : (o : OwnState) (now call made : ℕ) (step : JoinStep) (a : Answer) → IsPlain (after_join o now call made step a)
  pub wakes : (o : OwnState) (now : ℕ) → IsPlain (on_wake o now)
  pub frees : (job call : ℕ) (a : Answer) → IsPlain (next_after_free job call a)
  pub renews : (recovering : Bool) (made : ℕ) (a : Answer) → IsPlain (next_after_renewal recovering made a)
