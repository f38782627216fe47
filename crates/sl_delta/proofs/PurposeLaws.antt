-- What a call is for.
use Rattle.sl_trace.specs.Sessions.{is_survey_purpose}
use Rattle.sl_trace.specs.declared.effects.Purpose.TheVariants.{Joining, Lease, Leaving, Renewal, RequestRead, RequestWrite, SeeRequest, Survey, ValueRead, ValueWrite}
use Rattle.sl_trace.specs.declared.effects.Purpose.{Purpose}
use Rattle.std.proofs.Common.{refl, true, ◌≡◌}

-- A purpose of a survey is a survey's.
pub survey_is : (p : Purpose) → is_survey_purpose p ≡ true → Survey ≡ p
survey_is Survey e = refl
survey_is (Joining j step) e = absurd cc
survey_is Renewal e = absurd cc
survey_is (Leaving j) e = absurd cc
survey_is (Lease work step) e = absurd cc
survey_is (RequestRead j) e = absurd cc
survey_is (RequestWrite j owner) e = absurd cc
survey_is SeeRequest e = absurd cc
survey_is (ValueWrite j) e = absurd cc
survey_is (ValueRead j) e = absurd cc
