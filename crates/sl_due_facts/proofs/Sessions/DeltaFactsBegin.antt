-- What is known of delta records holds once a step has begun.
use Rattle.sl_due_facts.proofs.Acts.LoopsKeep.{for_each_keeps, when_keeps}
use Rattle.sl_due_facts.specs.Acts.TraceSoFar.{entry_of}
use Rattle.sl_due.specs.DueRecovery.{begin_recoveries, begin_recovery, begins_now, signal_and_refuse}
use Rattle.sl_due.specs.Steps.{Step, begin_step, for_each, seen}
use Rattle.sl_due_facts.proofs.Jobs.EffectsAreAllowed.{stopped}
use Rattle.sl_due_facts.proofs.Jobs.JobFactsBegin.{sessions_then}
use Rattle.sl_due_facts.proofs.Jobs.JobsAreAllowed.{late_on_wake}
use Rattle.sl_due_facts.proofs.Jobs.NearlyPlainActs.{AnyMove, AnyStart}
use Rattle.sl_due_facts.proofs.Jobs.QuietFactsBegin.{leaving_wake}
use Rattle.sl_due_facts.proofs.Jobs.SessionsStand.{no_members}
use Rattle.sl_words.proofs.Lists.{contains_none, kept, kept_inside}
use Rattle.sl_due_facts.proofs.Sessions.DeltaActs.{DeltaDone, allows_done, delta_full, no_number}
use Rattle.sl_due_facts.proofs.Sessions.DeltaConditions.{freed_before, part_of}
use Rattle.sl_due_facts.proofs.Sessions.DeltaFactsAreKept.{since_done}
use Rattle.sl_due_facts.proofs.Sessions.DeltaGrow.{DeltaCall, DeltaReply, DeltaSince, leaving_goes_on}
use Rattle.sl_due_facts.proofs.Sessions.DeltaIsAllowed.{delta_at}
use Rattle.sl_due_facts.proofs.Sessions.HoldingsOfSessions.{HeldBy, held_itself, held_stop}
use Rattle.sl_due_facts.proofs.Sessions.NameFactsAreKept.{joined_on_wake, removed_on_wake}
use Rattle.sl_due_facts.specs.Sessions.SessionLaws.{DeltaFactsBegin}
use Rattle.sl_trace.specs.Sessions.{holdings_of, is_joined, last_renewal, present_sessions, recovery_of, sessions}
use Rattle.sl_trace.specs.declared.session.Session.{Session}
use Rattle.sl_due_facts.specs.Facts.SessionFacts.{DeltaFacts}
use Rattle.sl_trace.specs.Traces.{Setting, Trace, holdings, is_ended_by}
use Rattle.sl_trace.specs.declared.effects.Grant.{Grant}
use Rattle.sl_trace.specs.declared.reply.Reply.TheVariants.{Recovering}
use Rattle.std.proofs.Common.{ap₂, inl, refl, subst, sym, ◌∙◌}
use Rattle.std.proofs.lemmas.List.{append-nil}
use Rattle.std.specs.Prelude.{Contains, None, [], filter, is_none, is_some, length, not, true, ℕ, ◌&&◌, ◌==◌, ◌≡◌}

delta_wake : (st : Setting) (past : Trace) (now : ℕ) → DeltaFacts st past → DeltaFacts st (seen (begin_step st past now))
delta_wake st past now h =
    record {
      frees = λ s m there is. let was = h.frees s m (old s there) is in (leaving_goes_on st (entry_of (begin_step st past now)) past s was.0, held s was.1, was.2);
      before = λ s m k there is inside. h.before s m k (old s there) is inside;
      numbers = λ s there joined. h.numbers s (old s there) (joined_before s joined);
      left = λ s k there joined leaves_s none. h.left s k (old s there) (joined_before s joined) (leaving_wake st past now s k leaves_s) none;
    } where
      old : (s : Session) → Contains (sessions st (seen (begin_step st past now))) s → Contains (sessions st past) s
      old s there = subst (λ ss. Contains ss s) (sessions_then st past now) there

      joined_before : (s : Session) → is_joined (seen (begin_step st past now)) s ≡ true → is_joined past s ≡ true
      joined_before s is = sym (ap₂ (λ p q. is_some p && is_none q) (joined_on_wake past now s) (removed_on_wake past now s)) ∙ is

      held : (s : Session) → holdings_of past s ≡ [] → holdings_of (seen (begin_step st past now)) s ≡ []
      held s none =
          no_members (holdings_of (seen (begin_step st past now)) s) (λ g there.
          let mine = kept_inside (λ (z : Grant). z.session == s.number) (holdings (seen (begin_step st past now))) g there in
          let was = kept_inside (λ (z : Grant). not (is_ended_by [] z)) (holdings past) g (subst (λ gs. Contains gs g) (append-nil (filter (λ (z : Grant). not (is_ended_by [] z)) (holdings past))) mine.0) in
          contains_none g (subst (λ gs. Contains gs g) none (kept (λ (z : Grant). z.session == s.number) (holdings past) g mine.1 was.0)))

pub delta_facts_begin : DeltaFactsBegin
unfolding begin_recoveries begin_recovery
delta_facts_begin st past e follows w =
    let x : Step = begin_step st past e.reading in
    let n : ℕ = length (sessions st (seen x)) in
    let f : DeltaFacts st (seen x) = delta_wake st past e.reading w.facts.delta in
    let y : Step = for_each (present_sessions st (seen x)) begin_recovery x in
    let since : DeltaSince x y =
    for_each_keeps (DeltaSince x) (present_sessions st (seen x)) begin_recovery x
    (λ s there z k. when_keeps (DeltaSince x) (begins_now (seen z) (recovery_of z.setting (seen z) s)) (signal_and_refuse s None) z
    (λ begins q. stopped (DeltaSince x) (DeltaDone x) (DeltaReply x) (DeltaCall x) AnyStart AnyMove (allows_done x (freed_before x refl (part_of st (seen x) f))) tt z s None
    (λ v g j inside. (late_on_wake x (Recovering (last_renewal v.setting (seen v) s)) refl, inl refl)) q) k)
    (delta_at x (part_of st (seen x) f))
    in
    let owners : HeldBy x n y =
    for_each_keeps (HeldBy x n) (present_sessions st (seen x)) begin_recovery x
    (λ s there z k. when_keeps (HeldBy x n) (begins_now (seen z) (recovery_of z.setting (seen z) s)) (signal_and_refuse s None) z (λ begins q. held_stop x n z s None q) k)
    (held_itself x n)
    in
    delta_full x y n f (since_done x y since) owners (λ s there is. no_number x s there is)
