-- Each trace of steps that are due holds.
use Rattle.sl_due_facts.proofs.Acts.AnswersAreHeeded.{step_heeds}
use Rattle.sl_due_facts.proofs.Acts.StepsKeep.{Fixed, due_is_of}
use Rattle.sl_due_facts.proofs.Acts.TracesKeep.{due_is_seen}
use Rattle.sl_due_facts.specs.Acts.TraceSoFar.{entry_of}
use Rattle.sl_due.specs.Due.{IsDue, due_step}
use Rattle.sl_due.specs.DueRecovery.{begin_recoveries}
use Rattle.sl_due.specs.Steps.{Step, begin_step, seen}
use Rattle.sl_due_law.proofs.LawfulTraces.ActsRest.{Heard, Rested, answer_acts_rest, other_acts_rest, rested}
use Rattle.sl_due_law.proofs.LawfulTraces.AllIsKept.{all_begins}
use Rattle.sl_due_law.proofs.LawfulTraces.FirstFacts.{facts_at_first, grounds_rest}
use Rattle.sl_due_law.specs.LawfulTraces.CarriedFacts.{Holds, Kept, Rests}
use Rattle.sl_due_law.specs.LawfulTraces.TraceLaws.{TracesAreLawful, TracesHold}
use Rattle.sl_run.specs.Lawful.{Lawful, Orderly}
use Rattle.sl_run.specs.LawfulExit.{LawfulExit}
use Rattle.sl_due_leases.proofs.Ways.WayFactsHeld.StepsBegin.{turns_rest}
use Rattle.sl_words.proofs.Lists.{head_is}
use Rattle.sl_due_law.proofs.Recovery.RecoveryIsLawful.{kill_facts_end, recovery_is_lawful}
use Rattle.sl_due_law.proofs.Recovery.StopsBegin.{begun_says}
use Rattle.sl_due_law.specs.Recovery.KillFacts.{KillFacts}
use Rattle.sl_due_facts.proofs.Connections.DeltaLaws.{nothing_was_read}
use Rattle.sl_due_facts.specs.Connections.WatchFacts.{WatchFacts}
use Rattle.sl_trace.specs.declared.session.Session.{Session}
use Rattle.sl_due_facts.specs.Facts.HeardCall.{IsOpen, heard_by}
use Rattle.sl_due_facts.specs.Facts.HoldingFacts.{HoldingFacts, StandsExclusive}
use Rattle.sl_due_facts.specs.Facts.JobFacts.{JobFacts}
use Rattle.sl_due_facts.specs.Facts.SessionFacts.{ConnectionFacts, NameFacts, QuietFacts}
use Rattle.sl_due_facts.specs.Facts.ValueFacts.{IsReading, ValueFacts}
use Rattle.sl_due_facts.specs.Facts.AllFacts.{Facts}
use Rattle.sl_due_facts.specs.Facts.WorkFacts.{IsAtWork, IsWaiting, WorkFacts}
use Rattle.sl_trace.specs.Traces.{FollowsTrace, Setting, Submitted, Trace, spot_of_grant}
use Rattle.sl_trace.specs.declared.command.Command.{Command}
use Rattle.sl_trace.specs.declared.effects.Entry.{Entry}
use Rattle.sl_trace.specs.declared.effects.LeaseStep.{LeaseStep}
use Rattle.sl_trace.specs.declared.effects.Spot.{Spot}
use Rattle.sl_words.proofs.CaseLaws.{none_some}
use Rattle.std.proofs.Common.{ap, inl, inr, subst}
use Rattle.std.specs.Prelude.{None, Option, [], ℕ, ◌∷◌, ◌≡◌}

-- ---- what names the heard answer asks less where none is

open_then : (t : Trace) (heard : Option ℕ) (m : Submitted) → IsOpen t None m → IsOpen t heard m
open_then t heard m (inl is) = inl is
open_then t heard m (inr is) = absurd (none_some m.call.number is.0)

waiting_then : (t : Trace) (heard : Option ℕ) (m : Submitted) → IsWaiting t None m → IsWaiting t heard m
waiting_then t heard m (inl is) = inl is
waiting_then t heard m (inr is) = absurd (none_some m.call.number is.0)

jobs_rest : (st : Setting) (t : Trace) (heard : Option ℕ) → JobFacts st t heard → JobFacts st t None
jobs_rest st t heard h =
    record {
      replied = h.replied;
      called = h.called;
      joins = h.joins;
      starts = h.starts;
      fits = h.fits;
      one = λ m n j there here opens also is its. h.one m n j there here (open_then t heard m opens) (open_then t heard n also) is its;
    }

stands_rest : (st : Setting) (t : Trace) (heard : Option ℕ) (s : Session) (at : Spot) (n : ℕ) → StandsExclusive st t heard s at n → StandsExclusive st t None s at n
stands_rest st t heard s at n h =
    record {
      taken = h.taken;
      ballot = h.ballot;
      not_freed = h.not_freed;
      own = h.own;
      known = h.known;
      under = h.under;
      concluded = h.concluded;
      ended = h.ended;
      idle = λ m there opens. h.idle m there (open_then t heard m opens);
    }

holdings_rest : (st : Setting) (t : Trace) (heard : Option ℕ) → HoldingFacts st t heard → HoldingFacts st t None
holdings_rest st t heard h =
    record {
      owned = h.owned;
      alone = h.alone;
      single = h.single;
      born = h.born;
      given = h.given;
      stands = λ g s there its exclusive. stands_rest st t heard s (spot_of_grant g) g.lver (h.stands g s there its exclusive);
    }

work_then : (st : Setting) (t : Trace) (heard : Option ℕ) (m : Submitted) (j : ℕ) (step : LeaseStep) (c : Command) → IsAtWork st t None m j step c → IsAtWork st t heard m j step c
work_then st t heard m j step c h = record { there = h.there; opens = waiting_then t heard m h.opens; purpose = h.purpose; runs = h.runs; command = h.command }

works_rest : (st : Setting) (t : Trace) (heard : Option ℕ) → WorkFacts st t heard → WorkFacts st t None
works_rest st t heard h =
    record {
      beside = λ m j step c aim g w is there at. h.beside m j step c aim g (work_then st t heard m j step c w) is there at;
      modes = λ m j step c w is. h.modes m j step c (work_then st t heard m j step c w) is;
      acts = λ m j step c p w is. h.acts m j step c p (work_then st t heard m j step c w) is;
      unshared = λ m d j step before c mode s w is its there at. h.unshared m d j step before c mode s (work_then st t heard m j step c w) is its there at;
    }

reading_then : (st : Setting) (t : Trace) (heard : Option ℕ) (m : Submitted) (j : ℕ) (s : Session) → IsReading st t None m j s → IsReading st t heard m j s
reading_then st t heard m j s h = record { there = h.there; opens = open_then t heard m h.opens; purpose = h.purpose; runs = h.runs; session = h.session }

values_rest : (st : Setting) (t : Trace) (heard : Option ℕ) → ValueFacts st t heard → ValueFacts st t None
values_rest st t heard h =
    record {
      held = λ m j s w. h.held m j s (reading_then st t heard m j s w);
      calm = λ m j s w. h.calm m j s (reading_then st t heard m j s w);
      holds = λ m j s r p w is. h.holds m j s r p (reading_then st t heard m j s w) is;
      started = λ m j s r p k w is child. h.started m j s r p k (reading_then st t heard m j s w) is child;
      above = h.above;
    }

facts_rest : (st : Setting) (t : Trace) (heard : Option ℕ) → Facts st t heard → QuietFacts st t None → NameFacts st t None → ConnectionFacts st t None → Facts st t None
facts_rest st t heard f quiet names connections =
    record {
      calls = f.calls;
      jobs = jobs_rest st t heard f.jobs;
      quiet = quiet;
      names = names;
      connections = connections;
      delta = f.delta;
      turns = turns_rest st t heard f.turns;
      ways = f.ways;
      holdings = holdings_rest st t heard f.holdings;
      works = works_rest st t heard f.works;
      grounds = grounds_rest st t;
      numbers = f.numbers;
      values = values_rest st t heard f.values;
    }

-- ---- a step

-- What a step has come to by its end, said of its entry.
record AtEnd (st : Setting) (past : Trace) (e : Entry) : Type 0 where
  orderly : Orderly st (e ∷ past)
  exits : LawfulExit past e
  facts : Facts st (e ∷ past) None
  watches : WatchFacts st (e ∷ past) None

at_end : (st : Setting) (past : Trace) (e : Entry) (y : Step) → y.setting ≡ st → y.past ≡ past → entry_of y ≡ e → Kept y → Rests y → AtEnd st past e
at_end st past e y setting before entry k r =
    subst (λ f. AtEnd st past f) entry (subst (λ t. AtEnd st t (entry_of y)) before (subst (λ q. AtEnd q y.past (entry_of y)) setting (record {
      orderly = k.known.0.orderly;
      exits = k.exits;
      facts = facts_rest y.setting (seen y) (heard_by y.input) k.known.0.facts r.quiet r.names r.connections;
      watches = r.watches;
    })))

pub step_holds : (st : Setting) (past : Trace) (e : Entry) → FollowsTrace st past e → IsDue st past e → Holds st past → Holds st (e ∷ past)
step_holds st past e follows due_one h = by (step_heeds Heard Rested other_acts_rest answer_acts_rest st past e.reading e.input follows.expected begun) where
  kept_first : Kept (begin_recoveries (begin_step st past e.reading))
  kept_first = all_begins st past e follows h

  begun : Rested (begin_recoveries (begin_step st past e.reading))
  begun = rested (begin_recoveries (begin_step st past e.reading)) (ap (λ (y : Step). heard_by y.input) (begun_says st past e.reading).is) kept_first

  fixed : Fixed st past e.reading (due_step st past e.reading e.input)
  fixed = due_is_of st past e.reading e.input

  entry : entry_of (due_step st past e.reading e.input) ≡ e
  entry = head_is (entry_of (due_step st past e.reading e.input)) e (due_step st past e.reading e.input).past past (due_is_seen st past e due_one)

  by : Rested (due_step st past e.reading e.input) → Holds st (e ∷ past)
  by r =
      let done : AtEnd st past e = at_end st past e (due_step st past e.reading e.input) fixed.setting fixed.before entry r.0 r.1 in
      let kills : KillFacts st (e ∷ past) = kill_facts_end st past e due_one h.whole h.kills done.orderly.granting.0 in
      record {
        whole = record {
          setting = h.whole.setting;
          lawful = record {
            orderly = done.orderly;
            exits = (done.exits, h.whole.lawful.exits);
            recovery = (recovery_is_lawful st past e due_one h.whole kills r.1.stops r.1.ends, h.whole.lawful.recovery);
          };
          facts = done.facts;
        };
        watches = done.watches;
        kills = kills;
      }

-- ---- all traces

first_lawful : (st : Setting) → Lawful st []
first_lawful st =
    record {
      orderly = record { is_trace = tt; calls = tt; delta = tt; area = tt; block = tt; leader = tt; modes = tt; watchdog = tt; granting = tt; ends = tt; parting = tt; values = tt };
      exits = tt;
      recovery = tt;
    }

first_kills : (st : Setting) → KillFacts st []
first_kills st = record { recovery = λ s b there is. absurd (none_some b is); leaving = λ s b there is. absurd (none_some b is) }

pub traces_hold : TracesHold
traces_hold st [] setting h = record { whole = record { setting = setting; lawful = first_lawful st; facts = facts_at_first st setting }; watches = nothing_was_read st; kills = first_kills st }
traces_hold st (e ∷ past) setting h = step_holds st past e h.0.0 h.1.0 (traces_hold st past setting (h.0.1, h.1.1))

pub traces_are_lawful : TracesAreLawful
traces_are_lawful st es setting h = (traces_hold st es setting h).whole.lawful
