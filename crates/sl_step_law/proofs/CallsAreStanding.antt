-- Calls stand at their places, in each trace of steps that did what was due, and at an input.
use Rattle.sl_due_facts.proofs.Acts.ActsTogether.{both, from_more}
use Rattle.sl_due_facts.proofs.Acts.StepsKeep.{Fixed, begun_bare, due_is_of, fixed_first, step_keeps}
use Rattle.sl_due_facts.proofs.Acts.TracesKeep.{due_is_seen}
use Rattle.sl_due_facts.specs.Acts.Acts.{Acts}
use Rattle.sl_due.specs.Due.{IsHostTrace, due_step}
use Rattle.sl_due.specs.DueRecovery.{begin_recoveries}
use Rattle.sl_due.specs.Steps.{Step, begin_step, seen}
use Rattle.sl_due_law.proofs.LawfulTraces.AllIsKept.{all_begins, all_is_kept}
use Rattle.sl_due_law.proofs.LawfulTraces.TracesHold.{traces_hold}
use Rattle.sl_due_law.specs.LawfulTraces.CarriedFacts.{Kept}
use Rattle.sl_host_state.specs.KeptState.{HostState}
use Rattle.sl_run.specs.Lawful.{IsSetting}
use Rattle.sl_words.proofs.Lists.{contains_none}
use Rattle.sl_step_law.proofs.LeasesStandOn.{Known}
use Rattle.sl_step_law.proofs.StandingIsKept.{standing_is_kept}
use Rattle.sl_step_law.specs.ReadyHosts.{IsReady}
use Rattle.sl_step_law.specs.CallsStand.{CallsAreStanding, CallsStand, EntryStands}
use Rattle.sl_trace.specs.Traces.{EachEntry, FollowsTrace, Setting, Trace}
use Rattle.sl_trace.specs.declared.effects.Effects.{Effects}
use Rattle.sl_trace.specs.declared.effects.Entry.{Entry}
use Rattle.std.proofs.Common.{ap, subst, sym, ◌∙◌}
use Rattle.std.specs.Prelude.{Contains, [], ◌∷◌, ◌≡◌}

-- All that is known is kept together.
pub known_is_kept : Acts Known Known
known_is_kept = both Known Kept CallsStand (from_more Kept Known Kept (λ x h. h.0) all_is_kept) standing_is_kept

-- A step that has made no call.
pub stands_bare : (x : Step) → x.effects.calls ≡ [] → EachEntry (EntryStands x.setting) x.past → CallsStand x
stands_bare x bare older = (λ c there. absurd (contains_none c (subst (λ cs. Contains cs c) bare there)), older)

pub begun_known : (st : Setting) (past : Trace) (e : Entry) → IsSetting st → FollowsTrace st past e → IsHostTrace st past → EachEntry (EntryStands st) past
    → Known (begin_recoveries (begin_step st past e.reading))
begun_known st past e setting follows host older =
    let f : Fixed st past e.reading (begin_recoveries (begin_step st past e.reading)) = fixed_first st past e.reading in (
      all_begins st past e follows (traces_hold st past setting host),
      stands_bare (begin_recoveries (begin_step st past e.reading)) (begun_bare st past e.reading).1.0
          (subst (λ z. EachEntry (EntryStands z) (begin_recoveries (begin_step st past e.reading)).past) (sym f.setting) (subst (λ t. EachEntry (EntryStands st) t) (sym f.before) older)),
    )

pub traces_stand : (st : Setting) (es : Trace) → IsSetting st → IsHostTrace st es → EachEntry (EntryStands st) es
traces_stand st [] setting h = tt
traces_stand st (e ∷ past) setting h =
    let host : IsHostTrace st past = (h.0.1, h.1.1) in
    let x : Step = due_step st past e.reading e.input in
    let k : Known x = step_keeps Known known_is_kept st past e.reading e.input h.0.0.expected (begun_known st past e setting h.0.0 host (traces_stand st past setting host)) in
    subst (λ t. EachEntry (EntryStands st) t) (due_is_seen st past e h.1.0) (subst (λ z. EachEntry (EntryStands z) (seen x)) (due_is_of st past e.reading e.input).setting k.1)

pub ready_stand : (h : HostState) (x : Step) → IsReady h x → CallsStand x
ready_stand h x r =
    stands_bare x (ap (λ (fx : Effects). fx.calls) r.stands.made ∙ r.early.at.calls) (traces_stand x.setting x.past r.kept.known.0.setting r.stands.past)

pub calls_are_standing : CallsAreStanding
calls_are_standing = record { traces = traces_stand; ready = ready_stand }
