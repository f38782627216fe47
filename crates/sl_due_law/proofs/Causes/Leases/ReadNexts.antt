-- What a lease does next after a read, by which read it is, whether it is a first one or is made once more.
use Rattle.sl_due_facts.proofs.Acts.Pairs.Decisions.{asked_is, bytes_are}
use Rattle.sl_area.specs.Pairs.{blocks_of}
use Rattle.sl_area.specs.TornLeader.{leader_read}
use Rattle.sl_trace.specs.LeaseDecisions.{LeasePlace, after_bytes, after_read, first_step, heard, read_of_step, step_of_read}
use Rattle.sl_trace.specs.Leases.{LeaseKnown}
use Rattle.sl_trace.specs.declared.effects.LeaseRead.TheVariants.{OfArea, OfBlock, OfFree, OfPhase1, OfPhase2}
use Rattle.sl_trace.specs.declared.effects.LeaseRead.{LeaseRead}
use Rattle.sl_trace.specs.declared.effects.LeaseStep.TheVariants.{ClearMode, FreeLeader, Phase1Read, Phase1Write, Phase2Read, Phase2Write, ReadAgain, ReadArea, ReadBeforeBlock, ReadBeforeFree, SetMode, TakeLeader}
use Rattle.sl_trace.specs.declared.effects.LeaseStep.{LeaseStep}
use Rattle.sl_trace.specs.declared.lease.Aim.{Aim}
use Rattle.sl_trace.specs.declared.lease.LeaseNext.TheVariants.{ReadFor}
use Rattle.sl_trace.specs.declared.lease.LeaseNext.{LeaseNext}
use Rattle.sl_words.proofs.CaseLaws.{none_some, some_value}
use Rattle.std.proofs.Common.{ap, refl, sym, ◌∙◌}
use Rattle.std.specs.Prelude.{Bool, List, Some, ℕ, ◌≡◌}

-- What holds of both things that may come next holds of the next.
pub bytes_by : (P : LeaseNext → Type 0) (p : LeasePlace) (k : LeaseKnown) (aim : Aim) (bytes : List ℕ) (step : LeaseStep)
    → ((read : LeaseRead) → read_of_step step ≡ Some read → P (ReadFor (ReadAgain read)))
    → P (after_read p k aim (leader_read p.layout bytes (heard p.layout k bytes step)) (blocks_of p.layout (heard p.layout k bytes step)) (first_step step))
    → P (after_bytes p k aim bytes step)
bytes_by P p k aim bytes step again rest = bytes_are P p k aim bytes step (λ read asked. again read (asked_is p.layout bytes step read asked).first) (λ once. rest)

-- What a read that is made once more has in common with the first one.
pub again_same : (f : LeaseStep → Bool) → ((read : LeaseRead) → f (ReadAgain read) ≡ f (step_of_read read)) → (step : LeaseStep) (read : LeaseRead) → read_of_step step ≡ Some read
    → f (ReadAgain read) ≡ f step
again_same f same (ReadArea name) read is = ap (λ r. f (ReadAgain r)) (sym (some_value (OfArea name) read is)) ∙ same (OfArea name)
again_same f same ReadBeforeFree read is = ap (λ r. f (ReadAgain r)) (sym (some_value OfFree read is)) ∙ same OfFree
again_same f same ReadBeforeBlock read is = ap (λ r. f (ReadAgain r)) (sym (some_value OfBlock read is)) ∙ same OfBlock
again_same f same Phase1Read read is = ap (λ r. f (ReadAgain r)) (sym (some_value OfPhase1 read is)) ∙ same OfPhase1
again_same f same Phase2Read read is = ap (λ r. f (ReadAgain r)) (sym (some_value OfPhase2 read is)) ∙ same OfPhase2
again_same f same (ReadAgain other) read is = absurd (none_some read is)
again_same f same Phase1Write read is = absurd (none_some read is)
again_same f same Phase2Write read is = absurd (none_some read is)
again_same f same TakeLeader read is = absurd (none_some read is)
again_same f same SetMode read is = absurd (none_some read is)
again_same f same FreeLeader read is = absurd (none_some read is)
again_same f same ClearMode read is = absurd (none_some read is)

pub first_same : (f : LeaseStep → Bool) → ((read : LeaseRead) → f (ReadAgain read) ≡ f (step_of_read read)) → (step : LeaseStep) → f (first_step step) ≡ f step
first_same f same (ReadAgain read) = sym (same read)
first_same f same step = refl
