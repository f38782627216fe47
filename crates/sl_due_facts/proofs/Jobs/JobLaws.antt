-- The laws of calls, of jobs, and of jobs under a session in recovery or leaving.
use Rattle.sl_due_facts.proofs.Jobs.JobFactsAreKept.{both_are_kept}
use Rattle.sl_due_facts.proofs.Jobs.JobFactsBegin.{both_begin}
use Rattle.sl_due_facts.proofs.Jobs.JobFactsGrow.{Both}
use Rattle.sl_due_facts.proofs.Jobs.LessIsKept.{to_less}
use Rattle.sl_due_facts.proofs.Jobs.QuietAtEnd.{quiet_facts_conclude as concludes}
use Rattle.sl_due_facts.proofs.Jobs.QuietFactsAreKept.{quiet_facts_are_kept as kept}
use Rattle.sl_due_facts.proofs.Jobs.QuietFactsBegin.{quiet_facts_begin as begins}
use Rattle.sl_due_facts.specs.Jobs.JobLaws.{CallFactsAreKept, CallFactsBegin, HasCallFacts, HasJobFacts, JobFactsAreKept, JobFactsBegin, QuietFactsAreKept, QuietFactsBegin, QuietFactsConclude}
use Rattle.sl_due_facts.specs.Facts.AllFacts.{Whole}

pub call_facts_are_kept : CallFactsAreKept
call_facts_are_kept = to_less Whole Both HasCallFacts (λ x h. h.0) both_are_kept

pub call_facts_begin : CallFactsBegin
call_facts_begin st past e follows w = (both_begin st past e follows w).0

pub job_facts_are_kept : JobFactsAreKept
job_facts_are_kept = to_less Whole Both HasJobFacts (λ x h. h.1) both_are_kept

pub job_facts_begin : JobFactsBegin
job_facts_begin st past e follows w = (both_begin st past e follows w).1

pub quiet_facts_are_kept : QuietFactsAreKept
quiet_facts_are_kept = kept

pub quiet_facts_begin : QuietFactsBegin
quiet_facts_begin = begins

pub quiet_facts_conclude : QuietFactsConclude
quiet_facts_conclude = concludes
