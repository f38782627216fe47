-- An answer is decided alike before and after it is heard.
use Rattle.sl_area.specs.AreaSizes.{IsGeometry, Sizes}
use Rattle.sl_delta.proofs.EnoughLaws.{told_is}
use Rattle.sl_delta.specs.DeltaDecisions.{after_join}
use Rattle.sl_delta.specs.OwnSector.{OwnState, after_answer}
use Rattle.sl_alone.specs.DeltaSteps.{FitsRead, IsFitAnswer, IsOwnRead, IsSized, LeaseState, after_told, answer_next, followed, given_following, given_told, heard, is_over, shows_by, survey_shows}
use Rattle.sl_alone.specs.declared.delta_lease.Standing.TheVariants.{Declined, Gone, Holds, Joins}
use Rattle.sl_alone.specs.declared.delta_lease.Standing.{Standing}
use Rattle.sl_alone.specs.declared.delta_steps.DeltaOut.{DeltaOut}
use Rattle.sl_sector.specs.SectorLayouts.{IsSectorSize}
use Rattle.sl_trace.specs.Sessions.{is_join_call, is_survey_purpose}
use Rattle.sl_trace.specs.declared.delta.DeltaNext.TheVariants.{Nothing}
use Rattle.sl_trace.specs.declared.delta.DeltaNext.{DeltaNext}
use Rattle.sl_trace.specs.declared.effects.JoinStep.TheVariants.{ClaimWrite, DecidingRead, FirstRead, FirstRenewal, VerifyRead, WatchRead}
use Rattle.sl_trace.specs.declared.effects.JoinStep.{JoinStep}
use Rattle.sl_trace.specs.declared.effects.Purpose.TheVariants.{Joining, Lease, Leaving, Renewal, RequestRead, RequestWrite, SeeRequest, Survey, ValueRead, ValueWrite}
use Rattle.sl_trace.specs.declared.effects.Purpose.{Purpose}
use Rattle.sl_trace.specs.declared.input.Answer.TheVariants.{Failed, Read, Written}
use Rattle.sl_trace.specs.declared.input.Answer.{Answer}
use Rattle.std.proofs.lemmas.Bool.Decides.{nat_tests}
use Rattle.std.proofs.Common.{Bool, None, ap, arith, false, refl, subst, sym, true, ◌||◌, ◌∙◌, ◌≡◌, ℕ}

-- A first read is answered alike, whatever its job.
pub first_is : (p : Purpose) (a : Answer) (now : ℕ) (o : OwnState) → is_join_call FirstRead p ≡ true → after_answer (Joining 0 FirstRead) a now o ≡ after_answer p a now o
first_is (Joining j FirstRead) a now o e = refl
first_is (Joining j WatchRead) a now o e = absurd cc
first_is (Joining j DecidingRead) a now o e = absurd cc
first_is (Joining j ClaimWrite) a now o e = absurd cc
first_is (Joining j VerifyRead) a now o e = absurd cc
first_is (Joining j FirstRenewal) a now o e = absurd cc
first_is Renewal a now o e = absurd cc
first_is Survey a now o e = absurd cc
first_is (Leaving j) a now o e = absurd cc
first_is (Lease work step) a now o e = absurd cc
first_is (RequestRead j) a now o e = absurd cc
first_is (RequestWrite j owner) a now o e = absurd cc
first_is SeeRequest a now o e = absurd cc
first_is (ValueWrite j) a now o e = absurd cc
first_is (ValueRead j) a now o e = absurd cc

joins_alike : (now call : ℕ) (j : ℕ) (step : JoinStep) (made : ℕ) (a : Answer) (o : OwnState) (s : Standing)
    → (elim s as (λ _. DeltaNext) [ Joins ↦ after_join (after_answer (Joining j step) a now o) now call made step a | Holds ↦ Nothing | Declined ↦ Nothing | Gone ↦ Nothing ])
    ≡ elim s as (λ _. DeltaNext) [ Joins ↦ after_join o now call made step a | Holds ↦ Nothing | Declined ↦ Nothing | Gone ↦ Nothing ]
joins_alike now call j step made a o Joins = told_is o now call made j step a
joins_alike now call j step made a o Holds = refl
joins_alike now call j step made a o Declined = refl
joins_alike now call j step made a o Gone = refl

next_alike : (now call : ℕ) (p : Purpose) (made : ℕ) (a : Answer) (l : LeaseState) → answer_next now call p made a (heard now p a l) ≡ answer_next now call p made a l
next_alike now call (Joining j step) made a l = joins_alike now call j step made a l.own l.standing
next_alike now call Renewal made a l = refl
next_alike now call Survey made a l = refl
next_alike now call (Leaving j) made a l = refl
next_alike now call (Lease work step) made a l = refl
next_alike now call (RequestRead j) made a l = refl
next_alike now call (RequestWrite j owner) made a l = refl
next_alike now call SeeRequest made a l = refl
next_alike now call (ValueWrite j) made a l = refl
next_alike now call (ValueRead j) made a l = refl

-- What an answer of another call than a read of all ids makes of the lease.
shows_not : (p : Purpose) (a : Answer) (l : LeaseState) → is_survey_purpose p ≡ false → shows_by p a l ≡ false
shows_not p a l e = ap (λ b. elim b as (λ _. Bool) [ false ↦ false | true ↦ survey_shows a l ]) e

heard_is : (now : ℕ) (p : Purpose) (a : Answer) (l : LeaseState) → is_survey_purpose p ≡ false → record l { own = after_answer p a now l.own; waits = None } ≡ heard now p a l
heard_is now p a l e = ap (λ b. record l { own = after_answer p a now l.own; waits = None; recovering = b || l.recovering }) (sym (shows_not p a l e))

pub told_follows : (now call : ℕ) (p : Purpose) (made : ℕ) (a : Answer) (l : LeaseState) (over : Bool) (n : DeltaNext) (new : LeaseState) → is_survey_purpose p ≡ false
    → over ≡ is_over l.standing → n ≡ answer_next now call p made a l → new ≡ followed now over n (record l { own = after_answer p a now l.own; waits = None })
    → new ≡ after_told now call p made a l
told_follows now call p made a l over n new survey is decided e =
    e ∙ ap (λ b. followed now b n (record l { own = after_answer p a now l.own; waits = None })) is
    ∙ ap (λ x. followed now (is_over l.standing) x (record l { own = after_answer p a now l.own; waits = None })) (decided ∙ sym (next_alike now call p made a l))
    ∙ ap (λ x. followed now (is_over l.standing) (answer_next now call p made a (heard now p a l)) x) (heard_is now p a l survey)

pub told_gives : (now call : ℕ) (p : Purpose) (made : ℕ) (a : Answer) (l : LeaseState) (over : Bool) (n : DeltaNext) (out : DeltaOut) → is_survey_purpose p ≡ false
    → over ≡ is_over l.standing → n ≡ answer_next now call p made a l → out ≡ given_following now over n (record l { own = after_answer p a now l.own; waits = None })
    → out ≡ given_told now call p made a l
told_gives now call p made a l over n out survey is decided e =
    let given : DeltaOut = given_following now (is_over l.standing) (answer_next now call p made a (heard now p a l)) (heard now p a l) in
    e ∙ ap (λ b. given_following now b n (record l { own = after_answer p a now l.own; waits = None })) is
    ∙ ap (λ x. given_following now (is_over l.standing) x (record l { own = after_answer p a now l.own; waits = None })) (decided ∙ sym (next_alike now call p made a l))
    ∙ ap (λ x. given_following now (is_over l.standing) (answer_next now call p made a (heard now p a l)) x) (heard_is now p a l survey)
    ∙ none_recovers (is_over l.standing) (answer_next now call p made a (heard now p a l)) (heard now p a l) ∙ ap (λ b. record given { recovers = b }) (sym (shows_not p a l survey))
  where
    none_recovers : (over : Bool) (n : DeltaNext) (l : LeaseState) → given_following now over n l ≡ (let out : DeltaOut = given_following now over n l in record out { recovers = false })
    none_recovers true n l = refl
    none_recovers false n l = refl

-- ---- what is answered

-- A run's sectors can be read.
sector_fits : (z : Sizes) → IsGeometry z → IsSectorSize z.sector
sector_fits z g = (grind (arith, nat_tests, g), grind (arith, nat_tests, g))

own_sized : (o : OwnState) (a : Answer) → IsGeometry o.sizes → IsOwnRead o a → IsSized a
own_sized o (Read bytes) g is = subst IsSectorSize (sym is) (sector_fits o.sizes g)
own_sized o Written g is = tt
own_sized o Failed g is = tt

fits_as : (o : OwnState) (a : Answer) (b : Bool) → b ≡ false → FitsRead b o a → IsOwnRead o a
fits_as o a false e h = h
fits_as o a true e h = absurd cc

pub sized_is : (o : OwnState) (a : Answer) (p : Purpose) → IsGeometry o.sizes → is_survey_purpose p ≡ false → IsFitAnswer o a p → IsSized a
sized_is o a p g e fits = own_sized o a g (fits_as o a (is_survey_purpose p) e fits)
