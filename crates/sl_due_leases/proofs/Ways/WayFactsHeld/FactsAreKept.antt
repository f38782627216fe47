-- Each record of facts of leases is kept by each act, and stands once a step has begun.
use Rattle.sl_due_leases.proofs.Ways.WayFactsHeld.ActsKeep.{leases_are_kept}
use Rattle.sl_due_facts.proofs.Jobs.LessIsKept.{to_less}
use Rattle.sl_due_leases.proofs.Ways.WayFactsHeld.StepsBegin.{leases_begin}
use Rattle.sl_due_leases.proofs.Ways.WaysAreLawful.GrantsFollow.{grants_follow}
use Rattle.sl_due_leases.proofs.Ways.NumbersFollow.{numbers_follow}
use Rattle.sl_due_leases.specs.Ways.WayFactsHeld.{HasGrantGrounds, HasNumberFacts, HasTurnFacts, HasWayFacts, LeasesStand}
use Rattle.sl_due_leases.specs.Ways.WayLaws.{GrantGroundsAreKept, GrantGroundsBegin, NumberFactsAreKept, NumberFactsBegin, TurnFactsAreKept, TurnFactsBegin, WayFactsAreKept, WayFactsBegin}
use Rattle.sl_due.specs.DueRecovery.{begin_recoveries}
use Rattle.sl_due.specs.Steps.{Step, begin_step, seen}
use Rattle.sl_due_facts.specs.Facts.HeardCall.{heard_by}
use Rattle.sl_due_facts.specs.Facts.AllFacts.{Whole, WholeTrace}
use Rattle.sl_trace.specs.Traces.{Setting, Trace}
use Rattle.sl_trace.specs.declared.effects.Entry.{Entry}

has_numbers : (x : Step) → LeasesStand x → HasNumberFacts x
has_numbers x h = numbers_follow x.setting (seen x) h.ways

has_grounds : (x : Step) → LeasesStand x → HasGrantGrounds x
has_grounds x h = grants_follow x.setting (seen x) (heard_by x.input) h.ways h.turns

pub way_facts_are_kept : WayFactsAreKept
way_facts_are_kept = to_less Whole LeasesStand HasWayFacts (λ x h. h.ways) leases_are_kept

pub turn_facts_are_kept : TurnFactsAreKept
turn_facts_are_kept = to_less Whole LeasesStand HasTurnFacts (λ x h. h.turns) leases_are_kept

pub number_facts_are_kept : NumberFactsAreKept
number_facts_are_kept = to_less Whole LeasesStand HasNumberFacts has_numbers leases_are_kept

pub grant_grounds_are_kept : GrantGroundsAreKept
grant_grounds_are_kept = to_less Whole LeasesStand HasGrantGrounds has_grounds leases_are_kept

begun : (st : Setting) (past : Trace) (e : Entry) → WholeTrace st past → LeasesStand (begin_recoveries (begin_step st past e.reading))
begun st past e w = leases_begin st past e.reading w.facts.ways w.facts.turns

pub way_facts_begin : WayFactsBegin
way_facts_begin st past e follows w = (begun st past e w).ways

pub turn_facts_begin : TurnFactsBegin
turn_facts_begin st past e follows w = (begun st past e w).turns

pub number_facts_begin : NumberFactsBegin
number_facts_begin st past e follows w = has_numbers (begin_recoveries (begin_step st past e.reading)) (begun st past e w)

pub grant_grounds_begin : GrantGroundsBegin
grant_grounds_begin st past e follows w = has_grounds (begin_recoveries (begin_step st past e.reading)) (begun st past e w)
