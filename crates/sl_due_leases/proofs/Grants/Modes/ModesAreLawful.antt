-- The modes of grants and blocks are lawful at each act.
use Rattle.sl_due_facts.proofs.Acts.ActsTogether.{both}
use Rattle.sl_due_facts.specs.Acts.TraceSoFar.{entry_of}
use Rattle.sl_due.specs.DueRecovery.{begin_recoveries}
use Rattle.sl_due.specs.Steps.{Step, begin_step, seen}
use Rattle.sl_due_facts.proofs.Jobs.LessIsKept.{to_less}
use Rattle.sl_due_leases.proofs.Grants.Modes.FitsHolding.{FittingSoFar}
use Rattle.sl_due_leases.proofs.Grants.Modes.CallsFit.{calls_begin, calls_fit}
use Rattle.sl_due_leases.proofs.Grants.GrantsStand.{grants_stand}
use Rattle.sl_due_leases.proofs.Grants.Modes.SharedStands.{SharedSoFar}
use Rattle.sl_due_leases.proofs.Grants.Modes.SharedGrants.{shared_grants_are_lawful, shared_grants_begin}
use Rattle.sl_due_leases.specs.Grants.ModeLaws.{ModesAreLawful, ModesBegin, ModesSoFar}
use Rattle.sl_due_leases.proofs.Holdings.HoldingFactsAreKept.{holding_facts_are_kept}
use Rattle.sl_due_leases.proofs.Holdings.HoldingFactsBegin.{holding_facts_begin}
use Rattle.sl_due_leases.specs.Holdings.Moments.{Known}
use Rattle.sl_due_leases.specs.Holdings.HoldingLaws.{HasHoldingFacts}
use Rattle.sl_run.specs.LawfulModes.{LawfulExclusiveGrant, LawfulModeGrant, LawfulSharedGrant}
use Rattle.sl_trace.specs.Sessions.{session_numbered}
use Rattle.sl_trace.specs.declared.session.Session.{Session}
use Rattle.sl_due_facts.specs.Facts.HeardCall.{heard_by}
use Rattle.sl_trace.specs.Traces.{is_shared, spot_of_grant}
use Rattle.sl_trace.specs.declared.effects.Grant.{Grant}
use Rattle.sl_trace.specs.declared.effects.Mode.{Mode}
use Rattle.sl_trace.specs.declared.effects.Mode.TheVariants.{Exclusive, Shared}
use Rattle.sl_words.proofs.CaseLaws.{one_value, true_is_false}
use Rattle.std.proofs.Common.{refl, subst, sym}
use Rattle.std.specs.Prelude.{Bool, Contains, MatchBool, Some, false, true, ◌≡◌}

to_exclusive : (m : Mode) → is_shared m ≡ false → m ≡ Exclusive
to_exclusive Exclusive is = refl
to_exclusive Shared is = absurd (true_is_false is)

-- From the facts of holdings, the shared grants and the calls.
modes_of : (x : Step) → HasHoldingFacts x → SharedSoFar x → FittingSoFar x → ModesSoFar x
modes_of x held shared fits = record { grants = λ g s there its. by g s there its (is_shared g.mode) refl; blocks = λ n c s at its. (fits n c s at its).mode } where
  by : (g : Grant) (s : Session) → Contains x.effects.grants g → session_numbered x.setting (seen x) g.session ≡ Some s → (b : Bool) → is_shared g.mode ≡ b → LawfulModeGrant x.setting x.past (seen x) s g
  by g s there its true is =
      subst (λ b. MatchBool b (LawfulSharedGrant x.setting x.past (seen x) s (spot_of_grant g) g.lver) (LawfulExclusiveGrant x.setting (seen x) s (spot_of_grant g) g.lver)) (sym is) (shared g s there its is)
  by g s there its false is =
      let v = grants_stand x.setting x.past (entry_of x) (heard_by x.input) g held there in
      subst (λ b. MatchBool b (LawfulSharedGrant x.setting x.past (seen x) s (spot_of_grant g) g.lver) (LawfulExclusiveGrant x.setting (seen x) s (spot_of_grant g) g.lver)) (sym is)
      (subst (λ z. LawfulExclusiveGrant x.setting (seen x) z (spot_of_grant g) g.lver) (one_value v.0 s (session_numbered x.setting (seen x) g.session) v.1 its) (v.2.ballot (to_exclusive g.mode is)))

pub modes_are_lawful : ModesAreLawful
modes_are_lawful =
    to_less Known (λ x. HasHoldingFacts x × (SharedSoFar x × FittingSoFar x)) ModesSoFar (λ x h. modes_of x h.0 h.1.0 h.1.1)
    (both Known HasHoldingFacts (λ x. SharedSoFar x × FittingSoFar x) holding_facts_are_kept (both Known SharedSoFar FittingSoFar shared_grants_are_lawful calls_fit))

pub modes_begin : ModesBegin
modes_begin st past e follows whole =
    modes_of (begin_recoveries (begin_step st past e.reading)) (holding_facts_begin st past e follows whole) (shared_grants_begin st past e follows whole) (calls_begin st past e follows whole)
