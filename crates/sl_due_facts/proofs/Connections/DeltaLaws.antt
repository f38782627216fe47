-- The laws of calls on delta sectors, as they are said.
use Rattle.sl_due.specs.Steps.{seen}
use Rattle.sl_due_facts.proofs.Jobs.DecisionsFit.{DecisionFits, decisions_fit}
use Rattle.sl_words.proofs.Lists.{contains_none}
use Rattle.std.proofs.Common.{subst}
use Rattle.sl_due_facts.specs.Connections.DeltaLaws.{ClaimsAreLawful, FirstRenewalsAreLawful, FreeIsDecided, FreesAreLawful, JoinedSurveysAreLawful, LooksAreLawful, NothingWasRead, RenewalsAreLawful, RenewedSurveysAreLawful, VerifiesAreLawful, WatchFactsAreKept, WatchFactsBegin, WatchFactsConclude, WatchedIsDecided, WatchesAreLawful}
use Rattle.sl_due_facts.proofs.Connections.DeltaCallsAreLawful.{claims_are_lawful, first_renewals_are_lawful, frees_are_lawful, renewals_are_lawful}
use Rattle.sl_due_facts.proofs.Connections.DeltaReadsAreLawful.{joined_surveys_are_lawful, renewed_surveys_are_lawful, verifies_are_lawful, watches_are_lawful}
use Rattle.sl_due_facts.proofs.Connections.LooksAreLawful.{free_is_decided, looks_are_lawful, watched_is_decided}
use Rattle.sl_due_facts.proofs.Connections.WatchFactsAreKept.{watch_facts_are_kept, watches_begin}
use Rattle.sl_due_facts.proofs.Connections.WatchFactsConclude.{watch_facts_conclude}

pub reads_are_kept : WatchFactsAreKept
reads_are_kept = watch_facts_are_kept

pub reads_begin : WatchFactsBegin
reads_begin = watches_begin

pub nothing_was_read : NothingWasRead
nothing_was_read st = record { first = λ s m bytes r. absurd (contains_none m r.inside); same = λ s f m first bytes r q. absurd (contains_none f r.inside) }

pub reads_conclude : WatchFactsConclude
reads_conclude = watch_facts_conclude

pub renewals : RenewalsAreLawful
renewals = renewals_are_lawful

pub frees : FreesAreLawful
frees = frees_are_lawful

pub renewed_surveys : RenewedSurveysAreLawful
renewed_surveys = renewed_surveys_are_lawful

pub joined_surveys : JoinedSurveysAreLawful
joined_surveys = joined_surveys_are_lawful

pub looks : LooksAreLawful
looks x text c n a h wake bare says is =
    looks_are_lawful x text c n a h wake bare says (subst (λ z. DecisionFits x.setting (seen x) c z) is (decisions_fit x.setting (seen x) x.reading c))

pub watches : WatchesAreLawful
watches x s j step m ms a h has its runs are is for which =
    watches_are_lawful x s j step m ms a (record { has = has; its = its; runs = runs; names = h.facts.names; orderly = h.orderly }) are is for which

pub free_decided : FreeIsDecided
free_decided = free_is_decided

pub watched_decided : WatchedIsDecided
watched_decided = watched_is_decided

pub claims : ClaimsAreLawful
claims = claims_are_lawful

pub verifies : VerifiesAreLawful
verifies = verifies_are_lawful

pub first_renewals : FirstRenewalsAreLawful
first_renewals = first_renewals_are_lawful
