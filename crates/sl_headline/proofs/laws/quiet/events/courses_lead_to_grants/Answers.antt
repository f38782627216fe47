use Rattle.sl_headline.proofs.Quiet.Events.LeadsToGrants.{courses_lead_to_grants}
use Rattle.sl_headline.proofs.laws.quiet.events.courses_lead_to_grants.Goals as goal

pub returns : goal.returns
returns c = courses_lead_to_grants
